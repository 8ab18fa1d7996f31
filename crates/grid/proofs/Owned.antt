-- In the grid of a table each filler's owner is a cell of an earlier row of the same body: the rows by positions of one body are so
-- (`owner_earlier`), the table's are those of its bodies one after the other, and the grid keeps each row's owners and fillers.
use mathlib.Core.Path.{◌≡◌, refl, sym, ap, subst, ◌∙◌}
use mathlib.Core.Bool.{true}
use mathlib.Core.List.{List, [], ◌∷◌, ◌++◌, map}
use Prim.Native.Nat.{ℕ, suc, ◌+◌, ◌-◌, ◌<◌}
use native.Mathlib.Nat.{not-suc-le-zero}
use native.Mathlib.Omega.{arith}
use native.Mathlib.Decide.{dec_lt}
use lib.ListN.{length, get_or, length-append, length-map, get_or-append, get_or-map}
use lib.Seq.{get_or-append_right}
use Rattle.common.specs.Lists.{mem, All}
use Rattle.common.proofs.All.{all_weaken}
use Rattle.records.specs.declared.NodeRecord.{NodeRecord}
use Rattle.resolved_rows.specs.Cells.{resolve_body, resolved}
use Rattle.resolved_rows.specs.Cells as cells
use Rattle.resolved_rows.specs.Listed.{table_rows}
use Rattle.resolved_rows.proofs.Rows.{length_body}
use Rattle.grid_row.specs.Row.{Item}
use Rattle.grid_row.proofs.Merging.{Filler}
use Rattle.grid_positions.specs.Positions.{PositionRow, row, all_rows}
use Rattle.grid_positions.proofs.Written.{written}
use Rattle.grid_positions.proofs.TableFacts.{owner_of, originals_count}
use Rattle.grid_positions.proofs.Bodies.{Earlier, body_rows, together, rows_together, owner_earlier}
use Rattle.grid.specs.Grid.{GridRow, entries_from, grid_row, grid_of}
use Rattle.grid.specs.Facts.{cell_owners}
use Rattle.grid.specs.Owners.{rows_of, RowOf, row_at, CellAbove, Owned, bodies_at, OwnersAbove}
use Rattle.grid.proofs.GridCells.{row_owners}

abbrev no_row : PositionRow
no_row = row 0 []

-- ---- rows by positions

-- the same of rows by positions
record ItemAbove (bs : List (List cells.Row)) (rs : List PositionRow) (i o : ℕ) : Type 0 where
  pub body : ℕ
  pub here : RowOf bs body i
  pub row : ℕ
  pub above : row < i
  pub there : RowOf bs body row
  pub cell : mem o (map owner_of (written (get_or rs row no_row).items)) ≡ true

-- a body has a row for each of its rows of cells
body_count : (b : List cells.Row) → length (all_rows (resolve_body b)) ≡ length b
body_count b = originals_count [] (resolve_body b) ∙ length_body b

rows_of_none : (bs : List (List cells.Row)) → rows_of bs 0 ≡ 0
unfolding rows_of
rows_of_none [] = refl
rows_of_none (b ∷ bs) = refl

-- a row of the first body
first_body : (b : List cells.Row) (bs : List (List cells.Row)) (i : ℕ) → i < length b → RowOf (b ∷ bs) 0 i
unfolding rows_of
first_body b bs i h = record { after = omega arith; before = omega (arith, h, rows_of_none bs) }

-- a row of a later one
later_body : (b : List cells.Row) (bs : List (List cells.Row)) (n i : ℕ) → RowOf bs n i → RowOf (b ∷ bs) (suc n) (length b + i)
unfolding rows_of
later_body b bs n i r = record { after = omega (arith, r.after); before = omega (arith, r.before) }

module _ (b : List cells.Row) (bs : List (List cells.Row)) where
  abbrev own : List PositionRow
  own = all_rows (resolve_body b)

  abbrev rest : List PositionRow
  rest = together (body_rows bs)

  in_first : (i o : ℕ) → i < length own → Earlier own i o → ItemAbove (b ∷ bs) (own ++ rest) i o
  in_first i o h e =
      record {
        body = 0;
        here = first_body b bs i (omega (arith, h, body_count b));
        row = e.place;
        above = e.before;
        there = first_body b bs e.place (omega (arith, h, e.before, body_count b));
        cell = ap (λ (r : PositionRow). mem o (map owner_of (written r.items))) (get_or-append own rest no_row e.place (omega (arith, h, e.before))) ∙ e.there;
      }

  in_rest : (i j o : ℕ) → length b + j ≡ i → ItemAbove bs rest j o → ItemAbove (b ∷ bs) (own ++ rest) i o
  in_rest i j o e a =
      record {
        body = suc a.body;
        here = subst (λ (k : ℕ). RowOf (b ∷ bs) (suc a.body) k) e (later_body b bs a.body j a.here);
        row = length b + a.row;
        above = omega (arith, e, a.above);
        there = later_body b bs a.body a.row a.there;
        cell = ap (λ (r : PositionRow). mem o (map owner_of (written r.items))) (behind a.row) ∙ a.cell;
      }
    where
      behind : (k : ℕ) → get_or (own ++ rest) (length b + k) no_row ≡ get_or rest k no_row
      behind k =
          get_or-append_right own rest (length b + k) no_row (omega (arith, body_count b))
          ∙ ap (λ (n : ℕ). get_or rest n no_row) (omega (arith, body_count b))

  abbrev Goal : ℕ → Type 0
  Goal i = All (λ x. Filler x → ItemAbove (b ∷ bs) (own ++ rest) i x.owner) (get_or (own ++ rest) i no_row).items

  turn : ((j : ℕ) → j < length rest → All (λ x. Filler x → ItemAbove bs rest j x.owner) (get_or rest j no_row).items) → (i : ℕ) → i < length (own ++ rest) → Goal i
  turn ih i h = go (dec_lt i (length own))
    where
      go : Dec (i < length own) → Goal i
      go (yes f) =
          subst (λ (r : PositionRow). All (λ x. Filler x → ItemAbove (b ∷ bs) (own ++ rest) i x.owner) r.items) (sym (get_or-append own rest no_row i f))
          (all_weaken (λ x. Filler x → Earlier own i x.owner) (λ x. Filler x → ItemAbove (b ∷ bs) (own ++ rest) i x.owner)
          (λ x s f′. in_first i x.owner f (s f′)) (get_or own i no_row).items (owner_earlier b i f))
      go (no n) =
          let l = length-append own rest in
          let j : ℕ = i - length own in
          subst (λ (r : PositionRow). All (λ x. Filler x → ItemAbove (b ∷ bs) (own ++ rest) i x.owner) r.items) (sym (get_or-append_right own rest i no_row (omega arith)))
          (all_weaken (λ x. Filler x → ItemAbove bs rest j x.owner) (λ x. Filler x → ItemAbove (b ∷ bs) (own ++ rest) i x.owner)
          (λ x s f. in_rest i j x.owner (omega (arith, body_count b)) (s f)) (get_or rest j no_row).items (ih j (omega (arith, l))))

rows_owned : (bs : List (List cells.Row)) (i : ℕ) → i < length (together (body_rows bs))
    → All (λ x. Filler x → ItemAbove bs (together (body_rows bs)) i x.owner) (get_or (together (body_rows bs)) i no_row).items
unfolding body_rows together
rows_owned [] i h = absurd (not-suc-le-zero h)
rows_owned (b ∷ bs) i h = turn b bs (λ j l. rows_owned bs j l) i h

-- ---- the grid

module _ (P : ℕ → Type 0) (rs : List PositionRow) where
  entries_each : (p : ℕ) (xs : List Item) → All (λ x. Filler x → P x.owner) xs → All (λ e. e.filler ≡ true → P e.owner) (entries_from rs p xs)
  unfolding All entries_from
  entries_each p [] a = tt
  entries_each p (x ∷ xs) a = (a.0, entries_each (p + x.span) xs a.1)

module _ (bs : List (List cells.Row)) (rs : List PositionRow) where
  abbrev g : List GridRow
  g = map (grid_row rs) rs

  row_same : (i : ℕ) → row_at g i ≡ grid_row rs (get_or rs i no_row)
  unfolding entries_from
  row_same i = get_or-map (grid_row rs) rs i no_row

  cell_above : (i o : ℕ) → ItemAbove bs rs i o → CellAbove bs g i o
  cell_above i o a =
      record {
        body = a.body;
        here = a.here;
        row = a.row;
        above = a.above;
        there = a.there;
        cell = ap (λ (r : GridRow). mem o (cell_owners r.entries)) (row_same a.row) ∙ ap (mem o) (row_owners rs 0 (get_or rs a.row no_row).items) ∙ a.cell;
      }

  grid_owned : ((i : ℕ) → i < length rs → All (λ x. Filler x → ItemAbove bs rs i x.owner) (get_or rs i no_row).items) → Owned bs g
  grid_owned w i h =
      subst (λ (r : GridRow). All (λ e. e.filler ≡ true → CellAbove bs g i e.owner) r.entries) (sym (row_same i))
      (entries_each (λ o. CellAbove bs g i o) rs 0 (get_or rs i no_row).items
      (all_weaken (λ x. Filler x → ItemAbove bs rs i x.owner) (λ x. Filler x → CellAbove bs g i x.owner) (λ x s f. cell_above i x.owner (s f))
      (get_or rs i no_row).items (w i (omega (arith, h, length-map rs (grid_row rs))))))

of_bodies : (bs : List (List cells.Row)) → Owned bs (grid_of (resolved bs))
unfolding grid_of
of_bodies bs = subst (λ (rs : List PositionRow). Owned bs (map (grid_row rs) rs)) (sym (rows_together bs)) (grid_owned bs (together (body_rows bs)) (rows_owned bs))

of_table : (ks : List NodeRecord) (at : ℕ) → Owned (bodies_at ks at) (grid_of (table_rows ks at))
unfolding table_rows
of_table ks at = of_bodies (bodies_at ks at)

pub owners_above : OwnersAbove
owners_above = record { of_bodies = of_bodies; of_table = of_table }
