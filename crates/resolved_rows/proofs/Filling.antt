-- A figure changed in its place, one after the other; zeros filled so.
use mathlib.Core.Path.{◌≡◌, refl, sym, ap, ◌∙◌}
use mathlib.Core.Bool.{cond}
use mathlib.Core.List.{List, [], ◌∷◌, ◌++◌, map}
use Prim.Native.Nat.{ℕ, suc, ◌+◌, ◌≤◌, ◌<◌}
use native.Mathlib.Omega.{arith}
use lib.Dec.{eqb}
use lib.ListN.{length, get_or, set, take, drop, length-map}
use lib.Seq.{drop-cons, get_or_at, length-take-le}
use Rattle.std.proofs.lemmas.List.{get_or-map}
use Rattle.common.proofs.Write.{write_more, write_all}
use Rattle.resolved_rows.specs.Cells.{resolve_cell}
use Rattle.resolved_rows.specs.inner.Listed.{cell_cols}
use Rattle.resolved_rows.specs.inner.Spans.{bare}

module _ (f : ℕ → ℕ) (before now : List ℕ) (i : ℕ) (done : now ≡ take i (map f before) ++ drop i before) where
  -- the next one is as it was
  kept : i < length before → get_or now i 0 ≡ get_or before i 0
  kept h =
      ap (λ (l : List ℕ). get_or l i 0) (done ∙ ap (λ (l : List ℕ). take i (map f before) ++ l) (drop-cons before i 0 h))
      ∙ get_or_at (take i (map f before)) (get_or before i 0) (drop (suc i) before) 0 i (length-take-le i (map f before) (omega (arith, length-map before f)))

  pub change_more : i < length before → (v : ℕ) → v ≡ f (get_or now i 0) → set now i v ≡ take (i + 1) (map f before) ++ drop (i + 1) before
  change_more h v e = write_more (map f before) before (length-map before f) now i v h done (e ∙ ap f (kept h) ∙ sym (get_or-map f before i 0 0 h))

  pub change_all : length before ≤ i → now ≡ map f before
  change_all h = write_all (map f before) before (length-map before f) now i h done

-- a cell's cols, with a number in the place of 0
abbrev pub fill : ℕ → ℕ → ℕ
fill instead cols = cond (eqb cols 0) instead cols

abbrev pub all_filled : ℕ → List ℕ → List ℕ
all_filled instead spans = map cell_cols (map (resolve_cell instead) (bare spans))

pub filled_are : (instead : ℕ) (spans : List ℕ) → map (fill instead) spans ≡ all_filled instead spans
filled_are instead [] = refl
filled_are instead (s ∷ spans) = ap (λ (l : List ℕ). fill instead s ∷ l) (filled_are instead spans)

pub length_filled : (instead : ℕ) (spans : List ℕ) → length (all_filled instead spans) ≡ length spans
length_filled instead spans = ap length (sym (filled_are instead spans)) ∙ length-map spans (fill instead)
