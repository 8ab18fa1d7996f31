-- How many of the first columns are not 0 wide: what one column more adds, and the loop that writes each count.
use mathlib.Core.Path.{◌≡◌, refl, sym, ◌∙◌}
use mathlib.Core.Bool.{Bool, true, false, cond, not}
use mathlib.Core.List.{List, [], ◌∷◌, ◌++◌}
use mir.Val.{bool_byte}
use Prim.Native.Nat.{ℕ, ◌+◌, ◌≤◌, ◌<◌}
use native.Mathlib.Numerals.{add-one}
use native.Mathlib.Omega.{arith}
use lib.Dec.{eqb}
use lib.ListN.{length, get_or, take, drop, set}
use lib.Seq.{take-suc}
use Rattle.common.proofs.Write.{write_more, write_all}
use Rattle.columns.specs.Columns.{up_to}
use Rattle.columns.proofs.Upto.{length_up_to, at_up_to}
use Rattle.widths.specs.Widths.{nonzero}
use Rattle.widths.proofs.Whole.{nonzero_append}
use Rattle.window.specs.inner.Counting.{nonzero_before, CountBeforePre}

nonzero_one : (w : ℕ) → nonzero (w ∷ []) ≡ bool_byte (not (eqb w 0))
unfolding nonzero
nonzero_one w = go (eqb w 0)
  where
    go : (t : Bool) → cond t 0 1 + 0 ≡ bool_byte (not t)
    go true = refl
    go false = refl

-- the counts of none to j columns are written
pub record Counted (column before₀ before : List ℕ) (n j : ℕ) : Type 0 where
  pub at_most : j ≤ length column
  pub written : before ≡ take (j + 1) (up_to (length before₀) (nonzero_before column)) ++ drop (j + 1) before₀
  pub count : n ≡ nonzero_before column j
  pub small : n ≤ j

module _ {column before₀ : List ℕ} (p : CountBeforePre column before₀) where
  abbrev g : ℕ → ℕ
  g = nonzero_before column

  same : length (up_to (length before₀) g) ≡ length before₀
  same = length_up_to (length before₀) g

  pub count_start : Counted column before₀ (set before₀ 0 0) 0 0
  unfolding nonzero
  count_start =
      record {
        at_most = omega arith;
        written =
            write_more (up_to (length before₀) g) before₀ same before₀ 0 0 (omega (arith, p.places)) refl
            (sym (at_up_to (length before₀) g 0 (omega (arith, p.places))));
        count = refl;
        small = omega arith;
      }

  module _ {before : List ℕ} {n j : ℕ} (z : Counted column before₀ before n j) where
    pub count_stop : length column ≤ j → before ≡ up_to (length before₀) g
    count_stop h = write_all (up_to (length before₀) g) before₀ same before (j + 1) (omega (arith, p.places)) z.written

    pub count_turn : j < length column → {b : ℕ} → b ≡ bool_byte (not (eqb (get_or column j 0) 0)) → Counted column before₀ (set before (j + 1) (n + b)) (n + b) (j + 1)
    count_turn h {b} e =
        record {
          at_most = omega arith;
          written =
              write_more (up_to (length before₀) g) before₀ same before (j + 1) (n + b) (omega (arith, p.places)) z.written
              (more ∙ sym (at_up_to (length before₀) g (j + 1) (omega (arith, p.places))));
          count = more;
          small = omega (arith, z.small, e, small (not (eqb (get_or column j 0) 0)));
        }
      where
        more : n + b ≡ nonzero_before column (j + 1)
        more = rw (z.count, e, add-one, take-suc column j 0 h, nonzero_append, nonzero_one (get_or column j 0)) refl

        small : (t : Bool) → bool_byte t ≤ 1
        small true = omega arith
        small false = omega arith
