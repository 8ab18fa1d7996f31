-- The steps of laying out columns, over plain lists: the leasts that come of raising whole entries are nowhere above the sizes, and so the columns can
-- be laid out.
use mathlib.Core.Path.{◌≡◌, sym, ◌∙◌}
use mathlib.Core.List.{List, [], ◌∷◌, map}
use Prim.Native.Nat.{ℕ, ◌≤◌}
use native.Mathlib.Omega.{arith}
use lib.ListN.{length}
use Rattle.common.specs.Lists.{All}
use Rattle.common.specs.Limits.{max_position}
use Rattle.text.specs.declared.Estimate.{Estimate}
use Rattle.records.specs.declared.Entry.{Entry}
use Rattle.columns.specs.Boxes.{Box}
use Rattle.columns.specs.inner.Boxes.{Measures}
use Rattle.columns.specs.Columns.{size_of}
use Rattle.columns.proofs.Largest.{largest_length, largest_least_size}
use Rattle.cutting.specs.Cut.{Below}
use Rattle.widths.specs.inner.Lay.{LayColumnsPre}
use Rattle.column_sizes.specs.inner.Sizing.{entry_box, sizes_in, leasts_in}
use Rattle.column_sizes.specs.inner.Capacity.{Whole, Entered, RaiseColumnsPost}

whole_measures : (n : ℕ) (bs : List Box) → All (Whole n) bs → Measures bs
unfolding Measures All
whole_measures n [] a = tt
whole_measures n (b ∷ bs) a = (a.0.low, whole_measures n bs a.1)

module _ {es : List Entry} {figures : List Estimate} {n : ℕ} (t : Entered es figures n) where
  pub below_in : Below (leasts_in es figures n) (sizes_in es figures n)
  below_in = largest_least_size (map (entry_box figures) es) n (whole_measures n _ t.whole)

  module _ {c : ℕ} (e : c ≡ n) {cs cl : List ℕ} (a : RaiseColumnsPost es figures c cs cl) where
    of_sizes : cs ≡ sizes_in es figures n
    of_sizes = rw (← e) a.sizes_are

    of_leasts : cl ≡ leasts_in es figures n
    of_leasts = rw (← e) a.leasts_are

    -- what their widths ask for
    pub layable : {column : List ℕ} → length column ≡ n → n ≤ max_position → LayColumnsPre cs cl column
    layable f few =
        let count = largest_length size_of _ n cs of_sizes in
        let low : Below cl cs = rw (of_sizes, of_leasts) below_in in
        record {
          columns = record { leasts_length = low.0; wide_length = f ∙ sym count; few = omega (arith, count) };
          below = low;
        }
