-- A table's boxes by the records of its entries: a filler is not among them, and gives 0 to every column, so that sums and largest figures
-- stay; and what the cells add is at most their sizes.
use mathlib.Core.Path.{◌≡◌, refl, sym, ◌∙◌}
use mathlib.Core.Bool.{Bool, true, false, cond}
use mathlib.Core.List.{List, [], ◌∷◌, map, map-append}
use Prim.Native.Nat.{ℕ, suc, ◌+◌, ◌-◌, ◌*◌, ◌/◌, ◌≤◌}
use native.Mathlib.Nat.{zero-div, mul-zero, mul-div-le}
use native.Mathlib.Omega.{arith}
use lib.Dec.{eqb}
use lib.ListN.{get_or}
use borrow.Author.Tests.{ne_eqb}
use Rattle.common.specs.Lists.{sum, All}
use Rattle.common.proofs.All.{all_map}
use Rattle.text.specs.declared.Estimate.{Estimate}
use Rattle.columns.specs.Boxes.{Box, box, covers, flat}
use Rattle.columns.specs.Columns.{least_of, gives, largest_at}
use Rattle.columns.proofs.Upto.{same_up_to}
use Rattle.columns.proofs.Listed as boxes
use Rattle.grid.specs.Grid.{Entry, GridRow, entries_of}
use Rattle.grid.specs.Facts.{cell_owners}
use Rattle.grid.specs.Judging.{shown}
use Rattle.grid.proofs.GridFacts.{Within}
use Rattle.estimates.specs.Estimates.{MeasuredNode, unmeasured, none, box_of, box_rows, tabled}
use Rattle.estimates.specs.inner.Spread.{spread_cells, tabled_by, entry_boxes}
use Rattle.estimates.proofs.Tabling.{spread_columns}

pub flat_boxes : (t : ℕ) (rest : List MeasuredNode) (g : List GridRow) → flat (box_rows t rest g) ≡ map (box_of t rest) (entries_of g)
unfolding flat entries_of
flat_boxes t rest [] = refl
flat_boxes t rest (r ∷ g) = rw (flat_boxes t rest g) (sym (map-append (box_of t rest) r.entries (entries_of g)))

-- the estimate of an entry's cell stands in es as among the lines after line t
pub record Estimated (t : ℕ) (rest : List MeasuredNode) (es : List Estimate) (e : Entry) : Type 0 where
  pub owned : e.filler ≡ false → 1 ≤ e.owner
  pub same : e.filler ≡ false → get_or es (e.owner - 1) none ≡ (get_or rest (e.owner - suc t) unmeasured).est

module _ (t : ℕ) (rest : List MeasuredNode) (es : List Estimate) where
  -- a figure of boxes to which an empty box adds nothing
  record Figure (f : List Box → ℕ) : Type 0 where
    pub empty : (first span : ℕ) (bs : List Box) → f (box first span 0 0 ∷ bs) ≡ f bs
    pub more : (b : Box) (bs cs : List Box) → f bs ≡ f cs → f (b ∷ bs) ≡ f (b ∷ cs)

  by_records : (f : List Box → ℕ) → Figure f → (xs : List Entry) → All (Estimated t rest es) xs → f (map (box_of t rest) xs) ≡ f (entry_boxes es (map shown xs))
  unfolding All box_of entry_boxes
  by_records f z [] a = refl
  by_records f z (e ∷ xs) a = go e.filler refl (by_records f z xs a.1)
    where
      size : ℕ
      size = (get_or rest (e.owner - suc t) unmeasured).est.size

      least : ℕ
      least = (get_or rest (e.owner - suc t) unmeasured).est.least

      listed : List Box
      listed = entry_boxes es (map shown xs)

      -- a filler's line is shown as 0, and a cell's is not 0
      go : (b : Bool) → e.filler ≡ b → f (map (box_of t rest) xs) ≡ f listed
          → f (box e.first e.span (cond b 0 size) (cond b 0 least) ∷ map (box_of t rest) xs)
          ≡ f (cond (eqb (cond b 0 e.owner) 0) listed
          (box e.first e.span (get_or es (cond b 0 e.owner - 1) none).size (get_or es (cond b 0 e.owner - 1) none).least ∷ listed))
      go true h r = z.empty e.first e.span (map (box_of t rest) xs) ∙ r
      go false h r =
          let o = a.0.owned h in
          rw (ne_eqb e.owner 0 (omega arith), a.0.same h) (z.more (box e.first e.span size least) (map (box_of t rest) xs) listed r)

  spread_figure : Figure spread_cells
  unfolding spread_cells
  spread_figure = record {
    empty = λ first span bs. let z : span * (0 / span) ≡ 0 = rw (zero-div span) (mul-zero span) in omega (arith, z);
    more = λ b bs cs e. omega (arith, e);
  }

  nothing : (first span j : ℕ) → gives least_of (box first span 0 0) j ≡ 0
  nothing first span j = go (covers (box first span 0 0) j)
    where
      go : (c : Bool) → cond c (0 / span) 0 ≡ 0
      go true = zero-div span
      go false = refl

  most_figure : (j : ℕ) → Figure (λ bs. largest_at least_of bs j)
  unfolding largest_at
  most_figure j = record {
    empty = λ first span bs. omega (arith, nothing first span j);
    more = λ b bs cs e. omega (arith, e);
  }

  -- the table's estimate by its columns is that by its records
  pub tabled_records : (n : ℕ) (xs : List Entry) → All (Estimated t rest es) xs → All (Within n) xs
      → tabled_by n (entry_boxes es (map shown xs)) ≡ tabled n (map (box_of t rest) xs)
  unfolding tabled tabled_by box_of
  tabled_records n xs a w =
      let bs = map (box_of t rest) xs in
      let cs = entry_boxes es (map shown xs) in
      rw (
        spread_columns bs n (all_map (Within n) (boxes.Within n) (box_of t rest) (λ e p. p.1) xs w) ∙ by_records spread_cells spread_figure xs a,
        same_up_to n (largest_at least_of bs) (largest_at least_of cs) (λ j l. by_records (λ (ds : List Box). largest_at least_of ds j) (most_figure j) xs a),
      )

-- what the cells add to the columns is at most their sizes
pub spread_sizes : (es : List Estimate) (size : ℕ → ℕ) (xs : List Entry) → All (λ e. e.filler ≡ false → (get_or es (e.owner - 1) none).size ≡ size e.owner) xs
    → spread_cells (entry_boxes es (map shown xs)) ≤ sum (map size (cell_owners xs))
unfolding All spread_cells entry_boxes cell_owners sum
spread_sizes es size [] a = omega arith
spread_sizes es size (e ∷ xs) a = go e.filler refl (spread_sizes es size xs a.1)
  where
    listed : List Box
    listed = entry_boxes es (map shown xs)

    cell : (b : Bool) → (get_or es (e.owner - 1) none).size ≡ size e.owner → spread_cells listed ≤ sum (map size (cell_owners xs))
        → spread_cells (cond b listed (box e.first e.span (get_or es (e.owner - 1) none).size (get_or es (e.owner - 1) none).least ∷ listed))
        ≤ size e.owner + sum (map size (cell_owners xs))
    cell true h r = omega arith
    cell false h r = omega (arith, mul-div-le (get_or es (e.owner - 1) none).size e.span)

    go : (b : Bool) → e.filler ≡ b → spread_cells listed ≤ sum (map size (cell_owners xs))
        → spread_cells (cond (eqb (cond b 0 e.owner) 0) listed
        (box e.first e.span (get_or es (cond b 0 e.owner - 1) none).size (get_or es (cond b 0 e.owner - 1) none).least ∷ listed))
        ≤ sum (map size (cond b (cell_owners xs) (e.owner ∷ cell_owners xs)))
    go true h r = r
    go false h r = cell (eqb e.owner 0) (a.0 h) r
