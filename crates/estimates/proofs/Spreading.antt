-- The loop of `spread_entries` on plain lists: what is passed, with the entries that are left, comes to the whole, in the sum and in
-- each column.
use mathlib.Core.Path.{◌≡◌, ap, ◌∙◌}
use mathlib.Core.List.{List, ◌∷◌, ◌++◌, map}
use Prim.Native.Nat.{ℕ, ◌+◌, ◌-◌, ◌*◌, ◌/◌, ◌≤◌, ◌<◌, ◌^◌, max}
use native.Mathlib.Numerals.{add-one}
use native.Mathlib.Decide.{dec_lt}
use native.Mathlib.Omega.{arith}
use lib.ListN.{length, get_or, take, drop, drop_of_length-le}
use lib.Seq.{drop-cons}
use borrow.Author.Tests.{eq-eqb, ne_eqb}
use Rattle.common.specs.Limits.{max_position}
use Rattle.text.specs.declared.Estimate.{Estimate}
use Rattle.records.specs.inner.NodeRecord.{no_entry}
use Rattle.records.specs.declared.Entry.{Entry}
use Rattle.columns.specs.Boxes.{Box}
use Rattle.columns.specs.Columns.{least_of, gives, largest_at}
use Rattle.columns.proofs.Upto.{is_up_to}
use Rattle.columns.proofs.Mapped.{in_part, length_in_part, part_before, part_in, part_after}
use Rattle.columns.proofs.Largest.{gives_before, gives_in, gives_after}
use Rattle.estimates.specs.Estimates.{none}
use Rattle.estimates.specs.inner.Spread.{spread_cells, SpreadEntriesPost, entry_box, entry_boxes, EntryFits}

-- raising the columns of a box to its quotient
module _ (b : Box) (xs : List ℕ) (fits : b.first + b.span ≤ length xs) where
  raised : (j : ℕ) → get_or (in_part (λ (x : ℕ). max x (b.least / b.span)) b.first b.span xs) j 0 ≡ max (get_or xs j 0) (gives least_of b j)
  raised j = go (dec_lt j b.first) (dec_lt j (b.first + b.span))
    where
      q : ℕ → ℕ
      q = λ x. max x (b.least / b.span)

      go : Dec (j < b.first) → Dec (j < b.first + b.span) → get_or (in_part q b.first b.span xs) j 0 ≡ max (get_or xs j 0) (gives least_of b j)
      go (yes p) d = part_before q b.first b.span xs fits j p ∙ omega (arith, gives_before least_of b j p)
      go (no p) (yes r) = part_in q b.first b.span xs fits j (omega arith) r ∙ omega (arith, gives_in least_of b j (omega arith) r)
      go (no p) (no r) = part_after q b.first b.span xs fits j (omega arith) ∙ omega (arith, gives_after least_of b j (omega arith))

-- before entry i of xs
pub record SpreadLoop (es : List Estimate) (xs : List Entry) (n all i : ℕ) (columns : List ℕ) : Type 0 where
  pub place : i ≤ length xs
  pub long : length columns ≡ n
  pub whole : all + spread_cells (entry_boxes es (drop i xs)) ≡ spread_cells (entry_boxes es xs)
  pub most : (j : ℕ) → max (get_or columns j 0) (largest_at least_of (entry_boxes es (drop i xs)) j) ≡ largest_at least_of (entry_boxes es xs) j

module _ {es : List Estimate} {xs : List Entry} {n all i : ℕ} {columns : List ℕ} (z : SpreadLoop es xs n all i columns) where
  pub spread_stop : length xs ≤ i → SpreadEntriesPost (entry_boxes es xs) n all columns
  unfolding spread_cells largest_at entry_boxes
  spread_stop h =
      let p = drop_of_length-le xs {i = i} h in
      record {
        all = let e = rw p at z.whole in omega arith;
        leasts = is_up_to n (largest_at least_of (entry_boxes es xs)) columns z.long (λ j l. let e = rw p at (z.most j) in omega arith);
      }

  module _ (h : i < length xs) (x : Entry) (q : x ≡ get_or xs i no_entry) where
    abbrev rest : List Box
    rest = entry_boxes es (drop (i + 1) xs)

    split : drop i xs ≡ x ∷ drop (i + 1) xs
    split = rw (q, add-one, drop-cons xs i no_entry)

    filler_boxes : x.cell ≡ 0 → entry_boxes es (drop i xs) ≡ rest
    unfolding entry_boxes
    filler_boxes e = rw (split, eq-eqb x.cell 0 e)

    cell_boxes : (x.cell ≡ 0 → ⊥) → entry_boxes es (drop i xs) ≡ entry_box es x ∷ rest
    unfolding entry_boxes
    cell_boxes e = rw (split, ne_eqb x.cell 0 e)

    pub spread_filler : x.cell ≡ 0 → SpreadLoop es xs n all (i + 1) columns
    spread_filler e =
        let p = filler_boxes e in
        record { place = omega arith; long = z.long; whole = rw p at z.whole; most = λ j. rw p at (z.most j) }

    module _ (c : x.cell ≡ 0 → ⊥) (f : EntryFits es n x) {y : Estimate} (g : y ≡ get_or es (x.cell - 1) none) where
      more : spread_cells (entry_boxes es (drop i xs)) ≡ x.span * (y.size / x.span) + spread_cells rest
      unfolding spread_cells
      more = rw (cell_boxes c, g)

      pub sum_fits : spread_cells (entry_boxes es xs) + max_position ≤ 2 ^ 32 → all + x.span * (y.size / x.span) + max_position ≤ 2 ^ 32
      sum_fits r = omega (arith, more, z.whole)

      -- the code raises the part of the columns that the cell covers, `wide` from `from` on
      pub spread_cell : (ys : List ℕ) (from wide : ℕ) → from ≡ x.first → wide ≡ x.span
          → ys ≡ map (λ (v : ℕ). max v (y.least / x.span)) (take wide (drop from columns))
          → SpreadLoop es xs n (all + x.span * (y.size / x.span)) (i + 1) (take from columns ++ (ys ++ drop wide (drop from columns)))
      unfolding largest_at
      spread_cell ys from wide u v w =
          let b = entry_box es x in
          let fits : b.first + b.span ≤ length columns = omega (arith, f.ends c, z.long) in
          let sized : all + x.span * (y.size / x.span) + spread_cells rest ≡ spread_cells (entry_boxes es xs) = omega (arith, more, z.whole) in
          rw (w, u, v)
          (record {
            place = omega arith;
            long = rw g (length_in_part (λ (k : ℕ). max k (b.least / b.span)) b.first b.span columns fits ∙ z.long);
            whole = sized;
            most = λ j. rw g (omega (arith, raised b columns fits j, z.most j, ap (λ (bs : List Box). largest_at least_of bs j) (cell_boxes c)));
          })
