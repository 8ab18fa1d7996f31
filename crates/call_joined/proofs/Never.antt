-- The calls of two tables never answer 7 either. By the numbers of their checks.
use Rattle.common.specs.declared.Reason.TheVariants.{NoTable, RowEnd, Setting, ShortBuffer, TooManyEntries}
use mathlib.Core.Bool.{not}
use mathlib.Core.List.{List, [], ◌∷◌, ◌++◌}
use Prim.Native.Nat.{ℕ, ◌-◌}
use native.Mathlib.Omega.{arith}
use Rattle.common.specs.Lists.{All}
use Rattle.common.specs.Refusals.{Check}
use Rattle.common.proofs.All.{all_append}
use Rattle.sheet.specs.Sheet.{sheet_checks}
use Rattle.sheet_load.specs.Opening.{nodes_of, is_table, line_check}
use Rattle.sheet_figures.specs.Calls.{every_table}
use Rattle.sheet_figures.proofs.Never.{Other, no_more, more, asked_other}
use Rattle.grid_join.specs.Joined.{joined_checks}
use Rattle.joined_tables.specs.Tables.{both_checks}
use Rattle.call_joined.specs.Joined.{two_checks, joined_grid_checks, joined_layout_checks, joined_spoken_checks}

-- what comes before and after the line of a call that asks for one table
before : (xs : List Check) (c : Check) (ys : List Check) → All Other (xs ++ c ∷ ys) → All Other xs
unfolding All
before [] c ys p = tt
before (x ∷ xs) c ys p = (p.0, before xs c ys p.1)

after : (xs : List Check) (c : Check) (ys : List Check) → All Other (xs ++ c ∷ ys) → All Other ys
unfolding All
after [] c ys p = p.1
after (x ∷ xs) c ys p = after xs c ys p.1

both_other : (s : List ℕ) (l r : ℕ) → All Other (both_checks (nodes_of s) (l - 1) (r - 1))
unfolding joined_checks
both_other s l r = more RowEnd (λ q. omega (arith, q)) _ _ _ (more TooManyEntries (λ q. omega (arith, q)) _ _ _ no_more)

two_other : (s : List ℕ) (l r : ℕ) → All Other (two_checks s l r)
two_other s l r =
    let p = asked_other [] no_more s l in
    all_append Other _ _
    (all_append Other (sheet_checks s) (line_check (nodes_of s) l ∷ line_check (nodes_of s) r ∷ every_table s)
    (before (sheet_checks s) (line_check (nodes_of s) l) (every_table s) p)
    (more NoTable (λ e. omega (arith, e)) (not (is_table (nodes_of s) l)) 0 (line_check (nodes_of s) r ∷ every_table s)
    (more NoTable (λ e. omega (arith, e)) (not (is_table (nodes_of s) r)) 0 (every_table s) (after (sheet_checks s) (line_check (nodes_of s) l) (every_table s) p))))
    (both_other s l r)

pub joined_grid_other : (s : List ℕ) (l r : ℕ) (entries rows : List ℕ) → All Other (joined_grid_checks s l r entries rows)
joined_grid_other s l r entries rows = all_append Other _ _ (more ShortBuffer (λ q. omega (arith, q)) _ _ _ no_more) (two_other s l r)

pub joined_layout_other : (s : List ℕ) (l r wrap raw width : ℕ) (columns entries : List ℕ) → All Other (joined_layout_checks s l r wrap raw width columns entries)
joined_layout_other s l r wrap raw width columns entries =
    all_append Other _ _ (more Setting (λ q. omega (arith, q)) _ _ _ (more ShortBuffer (λ q. omega (arith, q)) _ _ _ no_more)) (two_other s l r)

pub joined_spoken_other : (s : List ℕ) (l r e : ℕ) → All Other (joined_spoken_checks s l r e)
joined_spoken_other s l r e = all_append Other _ _ (two_other s l r) (more NoTable (λ q. omega (arith, q)) _ _ _ no_more)
