-- The checks of `estimates`, `grid`, `layout`, `walk`, `nested` and `measure` are of other refusals than 7. By their numbers.
use Rattle.common.specs.declared.Reason.TheVariants.{Setting, ShortBuffer, TooNarrow}
use mathlib.Core.List.{List}
use Prim.Native.Nat.{ℕ, zero, suc, ◌+◌}
use native.Mathlib.Omega.{arith}
use Rattle.common.specs.Lists.{All}
use Rattle.common.proofs.All.{all_append}
use Rattle.records.specs.declared.NodeRecord.{NodeRecord}
use Rattle.sheet_load.specs.Opening.{nodes_of}
use Rattle.sheet_figures.proofs.Never.{Other, no_more, more, check_other, asked_other}
use Rattle.available_width.specs.Walk.{narrow_from}
use Rattle.call_estimates.specs.Estimates.{estimates_checks}
use Rattle.call_grid.specs.Grid.{grid_checks}
use Rattle.call_layout.specs.Layout.{layout_checks}
use Rattle.call_walk.specs.Walks.{walk_checks}
use Rattle.call_nested.specs.Nested.{nested_checks}

narrow_other : (wrap raw root overflow : ℕ) (ks : List NodeRecord) (n i : ℕ) → All Other (narrow_from wrap raw root overflow ks n i)
unfolding narrow_from
narrow_other wrap raw root overflow ks zero i = no_more
narrow_other wrap raw root overflow ks (suc n) i = more TooNarrow (λ e. omega (arith, e)) _ _ _ (narrow_other wrap raw root overflow ks n (i + 1))

pub walk_other : (s : List ℕ) (wrap raw width overflow : ℕ) (lines : List ℕ) → All Other (walk_checks s wrap raw width overflow lines)
walk_other s wrap raw width overflow lines =
    all_append Other _ _ (more Setting (λ e. omega (arith, e)) _ _ _ (more ShortBuffer (λ e. omega (arith, e)) _ _ _ (check_other s))) (narrow_other wrap raw width overflow (nodes_of s) _ 0)

pub nested_other : (s : List ℕ) (line wrap raw width overflow : ℕ) (columns entries : List ℕ) → All Other (nested_checks s line wrap raw width overflow columns entries)
nested_other s line wrap raw width overflow columns entries =
    all_append Other _ _ (more Setting (λ e. omega (arith, e)) _ _ _ (more ShortBuffer (λ e. omega (arith, e)) _ _ _ (asked_other _ no_more s line)))
    (narrow_other wrap raw width overflow (nodes_of s) _ 0)

pub estimates_other : (s : List ℕ) (wrap : ℕ) (lines : List ℕ) → All Other (estimates_checks s wrap lines)
estimates_other s wrap lines = more Setting (λ e. omega (arith, e)) _ _ _ (more ShortBuffer (λ e. omega (arith, e)) _ _ _ (check_other s))

pub grid_other : (s : List ℕ) (line : ℕ) (entries rows : List ℕ) → All Other (grid_checks s line entries rows)
grid_other s line entries rows = asked_other _ (more ShortBuffer (λ e. omega (arith, e)) _ _ _ no_more) s line

pub layout_other : (s : List ℕ) (line wrap raw width : ℕ) (columns entries : List ℕ) → All Other (layout_checks s line wrap raw width columns entries)
layout_other s line wrap raw width columns entries = asked_other _ (more Setting (λ e. omega (arith, e)) _ _ _ (more ShortBuffer (λ e. omega (arith, e)) _ _ _ no_more)) s line
