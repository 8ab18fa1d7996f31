-- No span leaves its body, so extra rows never arise; and where no cell has rows 0 and no span left its body before, the grid, its columns and the
-- refusals of every table are those of before.
use mathlib.Core.Path.{◌≡◌, refl, sym, ap, ap₂, ◌∙◌}
use mathlib.Core.Bool.{Bool, true, false, not, cond}
use mathlib.Core.List.{List, [], ◌∷◌, ◌++◌, map, append-nil}
use Prim.Native.Nat.{ℕ, suc}
use lib.Dec.{eqb, ltb}
use borrow.Author.Tests.{eqb-true}
use Rattle.common.specs.Limits.{max_entries}
use Rattle.common.specs.Refusals.{Check, check, first_answer, verdict_of}
use Rattle.common.specs.declared.Reason.TheVariants.{RowEnd, TooManyEntries, ColumnEdge}
use Rattle.std.specs.Prelude.{Ok, Err}
use Rattle.common.specs.Lists.{All}
use Rattle.kinds.specs.Kinds.{kind_number, table_kind}
use Rattle.records.specs.declared.NodeRecord.{NodeRecord}
use Rattle.column_edges.specs.Edges.{all_at}
use Rattle.resolved_rows.specs.Cells.{bodies_of, fill_body, resolved}
use Rattle.resolved_rows.specs.Cells as cells
use Rattle.resolved_rows.specs.Facts.{Ending}
use Rattle.resolved_rows.proofs.Facts.{filled_rows}
use Rattle.grid_positions.specs.Positions.{PositionRow, hang_below, all_rows, ends_past, entry_count}
use Rattle.grid_positions.proofs.Bodies.{table_none, rows_same}
use Rattle.grid.specs.Grid.{is_column_edge, ends_of, grid_row, longest, grid_of, columns_of, table_checks, tables_checks}
use Rattle.grid.specs.Before.{resolved_before, extras_in, extras, extra_rows, grid_before, columns_before, checks_before, tables_before, AllEnding}

extras_none : extras [] ≡ []
unfolding extras extras_in
extras_none = refl

-- nothing hangs below a table's last row
pub extras_never : (bs : List (List cells.Row)) → extra_rows (resolved bs) ≡ []
extras_never bs = ap extras (table_none bs) ∙ extras_none

filled_are : (bs : List (List cells.Row)) → resolved_before bs ≡ filled_rows bs
unfolding resolved_before filled_rows
filled_are [] = refl
filled_are (b ∷ bs) = ap (λ (rs : List cells.Row). fill_body b ++ rs) (filled_are bs)

-- ---- one table

module _ (bs : List (List cells.Row)) (e : All Ending bs) where
  rows_before : all_rows (resolved_before bs) ≡ all_rows (resolved bs)
  rows_before = ap (λ (t : List cells.Row). all_rows t) (filled_are bs) ∙ sym (rows_same bs e).0

  none_before : extra_rows (resolved_before bs) ≡ []
  none_before = ap extras (ap (hang_below []) (filled_are bs) ∙ (rows_same bs e).1) ∙ extras_none

  pub grid_same : grid_before (resolved_before bs) ≡ grid_of (resolved bs)
  unfolding grid_before grid_of
  grid_same =
      ap₂ (λ (rs qs : List PositionRow). map (grid_row rs) (rs ++ qs)) rows_before none_before
      ∙ ap (map (grid_row (all_rows (resolved bs)))) (append-nil (all_rows (resolved bs)))

  pub columns_same : columns_before (resolved_before bs) ≡ columns_of (resolved bs)
  unfolding columns_before columns_of
  columns_same = ap (λ (rs : List PositionRow). longest rs rs) rows_before

  pub checks_same : (t : ℕ) (rest : List Check) → verdict_of (checks_before t (resolved_before bs) ++ rest) ≡ verdict_of (table_checks t (resolved bs) ++ rest)
  unfolding verdict_of first_answer checks_before table_checks ends_of all_at
  checks_same t rest =
      ap₂ (λ (rs qs : List PositionRow). first_answer Err (Ok tt)
      (check (ends_past rs) RowEnd t ∷ check (ltb max_entries (entry_count (rs ++ qs))) TooManyEntries t ∷ check (not (all_at (is_column_edge rs) (ends_of qs))) ColumnEdge t ∷ rest)) rows_before none_before
      ∙ ap (λ (rs : List PositionRow). first_answer Err (Ok tt) (check (ends_past (all_rows (resolved bs))) RowEnd t ∷ check (ltb max_entries (entry_count rs)) TooManyEntries t ∷ rest)) (append-nil (all_rows (resolved bs)))

-- ---- every table of a sheet

then_rest : (cs xs ys : List Check) → verdict_of xs ≡ verdict_of ys → verdict_of (cs ++ xs) ≡ verdict_of (cs ++ ys)
unfolding verdict_of first_answer
then_rest [] xs ys e = e
then_rest (c ∷ cs) xs ys e = ap (cond c.applies (Err c.refusal)) (then_rest cs xs ys e)

pub tables_same : (t : ℕ) (ls : List NodeRecord) → AllEnding t ls → verdict_of (tables_before t ls) ≡ verdict_of (tables_checks t ls)
unfolding tables_before tables_checks
tables_same t [] a = refl
tables_same t (l ∷ ls) a = go (tables_same (suc t) ls a.1) (eqb (kind_number l.kind) table_kind) refl
  where
    bs : List (List cells.Row)
    bs = bodies_of l.depth t ls

    go : verdict_of (tables_before (suc t) ls) ≡ verdict_of (tables_checks (suc t) ls) → (b : Bool) → eqb (kind_number l.kind) table_kind ≡ b
        → verdict_of (cond b (checks_before t (resolved_before bs)) [] ++ tables_before (suc t) ls) ≡ verdict_of (cond b (table_checks t (resolved bs)) [] ++ tables_checks (suc t) ls)
    go ih true e =
        checks_same bs (a.0 (eqb-true (kind_number l.kind) table_kind e)) t (tables_before (suc t) ls)
        ∙ then_rest (table_checks t (resolved bs)) (tables_before (suc t) ls) (tables_checks (suc t) ls) ih
    go ih false e = ih
