-- A table's columns together: their largest least widths come to no more than what the cells give to all columns, because in each column the
-- largest is at most the sum. So a table's least width never passes its size.
use mathlib.Core.Path.{◌≡◌, refl, sym, ◌∙◌}
use mathlib.Core.Bool.{Bool, true, false, cond}
use mathlib.Core.List.{List, [], ◌∷◌, map}
use Prim.Native.Nat.{ℕ, suc, ◌+◌, ◌-◌, ◌*◌, ◌/◌, ◌≤◌, ◌<◌}
use native.Mathlib.Omega.{arith}
use lib.Dec.{eqb}
use lib.ListN.{length, get_or}
use borrow.Author.Tests.{eq-eqb, ne_eqb, eqb-false}
use Rattle.common.specs.Lists.{sum, All}
use Rattle.text.specs.declared.Estimate.{Estimate}
use Rattle.columns.specs.Boxes.{Box}
use Rattle.columns.specs.inner.Boxes.{Measures}
use Rattle.columns.specs.Columns.{size_of, least_of, largest_at, sum_at, largest, sums}
use Rattle.columns.proofs.Upto.{length_up_to, below_up_to}
use Rattle.columns.proofs.Listed.{Within}
use Rattle.columns.proofs.Largest.{largest_least_size}
use Rattle.columns.proofs.Summed.{sum_of_columns}
use Rattle.estimates.specs.Estimates.{estimate, none}
use Rattle.records.specs.inner.NodeRecord.{no_entry}
use Rattle.records.specs.declared.Entry.{Entry}
use Rattle.estimates.specs.inner.Spread.{spread_cells, tabled_by, SpreadEntriesPost, Tabulated, entry_box, entry_boxes, EntryFits, SpreadEntriesPre}

sum_le : (xs ys : List ℕ) → length xs ≡ length ys → ((j : ℕ) → get_or xs j 0 ≤ get_or ys j 0) → sum xs ≤ sum ys
unfolding sum
sum_le [] [] e h = omega arith
sum_le [] (y ∷ ys) e h = omega arith
sum_le (x ∷ xs) [] e h = absurd (omega arith)
sum_le (x ∷ xs) (y ∷ ys) e h = omega (arith, h 0, sum_le xs ys (omega arith) (λ j. h (suc j)))

most_le_sum : (f : Box → ℕ) (bs : List Box) (j : ℕ) → largest_at f bs j ≤ sum_at f bs j
unfolding largest_at sum_at
most_le_sum f [] j = omega arith
most_le_sum f (b ∷ bs) j = omega (arith, most_le_sum f bs j)

-- what boxes give to all columns, as a sum over the boxes and over the columns
pub spread_sum : (bs : List Box) → spread_cells bs ≡ sum (map (λ (b : Box). b.span * (b.size / b.span)) bs)
unfolding spread_cells sum
spread_sum [] = refl
spread_sum (b ∷ bs) = omega (arith, spread_sum bs)

pub spread_columns : (bs : List Box) (n : ℕ) → All (Within n) bs → sum (sums size_of bs n) ≡ spread_cells bs
spread_columns bs n w = sum_of_columns size_of bs n w ∙ sym (spread_sum bs)

-- in each column the largest least is no more than the sum of the sizes
pub leasts_sums : (bs : List Box) (n : ℕ) → Measures bs → sum (largest least_of bs n) ≤ sum (sums size_of bs n)
leasts_sums bs n m =
    let l = largest_least_size bs n m in
    omega (
      arith,
      sum_le (largest least_of bs n) (largest size_of bs n) l.0 l.1,
      sum_le (largest size_of bs n) (sums size_of bs n) (length_up_to n _ ∙ sym (length_up_to n _)) (below_up_to n _ _ (most_le_sum size_of bs)),
    )

pub leasts_le : (bs : List Box) (n : ℕ) → All (Within n) bs → Measures bs → sum (largest least_of bs n) ≤ spread_cells bs
leasts_le bs n w m = omega (arith, leasts_sums bs n m, spread_columns bs n w)

-- what holds of the entries holds of their boxes

boxes_fit : (es : List Estimate) (n : ℕ) (xs : List Entry) → ((k : ℕ) → k < length xs → EntryFits es n (get_or xs k no_entry))
    → All (Within n) (entry_boxes es xs) × Measures (entry_boxes es xs)
unfolding All Measures entry_boxes
boxes_fit es n [] f = (tt, tt)
boxes_fit es n (x ∷ xs) f = go (eqb x.cell 0) refl (boxes_fit es n xs (λ k h. f (suc k) (omega arith)))
  where
    go : (b : Bool) → eqb x.cell 0 ≡ b → All (Within n) (entry_boxes es xs) × Measures (entry_boxes es xs)
        → All (Within n) (cond b (entry_boxes es xs) (entry_box es x ∷ entry_boxes es xs)) × Measures (cond b (entry_boxes es xs) (entry_box es x ∷ entry_boxes es xs))
    go true e r = r
    go false e r =
        let z = eqb-false x.cell 0 e in
        let w = f 0 (omega arith) in
        ((w.ends z, r.0), (w.sound z, r.1))

tabled_none : (columns : ℕ) (bs : List Box) → columns ≡ 0 → tabled_by columns bs ≡ none
unfolding tabled_by
tabled_none columns bs e = rw (eq-eqb columns 0 e)

tabled_some : (columns : ℕ) (bs : List Box) → (columns ≡ 0 → ⊥)
    → tabled_by columns bs ≡ estimate (spread_cells bs + (columns - 1)) (sum (largest least_of bs columns) + (columns - 1)) 0
unfolding tabled_by
tabled_some columns bs e = rw (ne_eqb columns 0 e)

pub tabled_small : (columns : ℕ) (bs : List Box) → (tabled_by columns bs).size ≤ spread_cells bs + (columns - 1)
unfolding tabled_by
tabled_small columns bs = go (eqb columns 0)
  where
    go : (t : Bool) → (cond t none (estimate (spread_cells bs + (columns - 1)) (sum (largest least_of bs columns) + (columns - 1)) 0)).size ≤ spread_cells bs + (columns - 1)
    go true = omega arith
    go false = omega arith

-- the code's figures: `wide` columns, of which it has lent so many of the scratch

pub table_none : {columns wide : ℕ} (bs : List Box) → wide ≡ columns → wide ≡ 0 → Tabulated columns bs none
table_none {columns} bs q e = record { est = sym (tabled_none columns bs (sym q ∙ e)); least_size = omega arith }

module _ {bs : List Box} {n all : ℕ} {columns : List ℕ} (s : SpreadEntriesPost bs n all columns) where
  pub table_some : {count wide least : ℕ} → wide ≡ count → n ≡ count → least ≡ sum columns → sum columns ≤ all → (wide ≡ 0 → ⊥)
      → Tabulated count bs (estimate (all + (wide - 1)) (least + (wide - 1)) 0)
  table_some {count} {wide} {least} q r l f e =
      let t = tabled_some count bs (λ z. e (q ∙ z)) in
      let g : least ≤ all = omega arith in
      record { est = rw (t, l, q, s.all, s.leasts, r); least_size = omega arith }

-- what is added up in the scratch is at most the sum of the cells
pub leasts_fit : {entries : List Entry} {figures : List Estimate} {n all : ℕ} {columns : List ℕ} → SpreadEntriesPre entries figures n
    → SpreadEntriesPost (entry_boxes figures entries) n all columns → sum columns ≤ all
leasts_fit {entries} {figures} {n} r s =
    let b = boxes_fit figures n entries r.fit in
    rw (s.leasts, s.all) (leasts_le (entry_boxes figures entries) n b.0 b.1)
