-- The grid as it was while a span could leave its body: rows 0 counted as 1, what hung ran on over all bodies, and extra rows below the last row held
-- what hung on. It says where the grid stayed the same (proofs/Before), and nothing else uses it.
use Rattle.std.specs.Prelude.{◌≡◌, not, cond, List, [], ◌∷◌, ◌++◌, map, ℕ, zero, suc, ◌-◌, min, ltb, eqb, length}
use Rattle.common.specs.Limits.{max_entries}
use Rattle.common.specs.Refusals.{Check, check}
use Rattle.common.specs.declared.Reason.TheVariants.{RowEnd, TooManyEntries, ColumnEdge}
use Rattle.common.specs.Lists.{All}
use Rattle.kinds.specs.Kinds.{kind_number, table_kind}
use Rattle.records.specs.declared.NodeRecord.{NodeRecord}
use Rattle.column_edges.specs.Edges.{all_at}
use Rattle.resolved_rows.specs.Cells.{bodies_of, fill_body}
use Rattle.resolved_rows.specs.Cells as cells
use Rattle.resolved_rows.specs.Facts.{Ending}
use Rattle.grid_row.specs.Row.{Item, item, nexts}
use Rattle.grid_positions.specs.Positions.{PositionRow, row, originals, hang_below, ends_past, entry_count}
use Rattle.grid.specs.Grid.{GridRow, is_column_edge, ends_of, grid_row, longest}

-- all bodies' rows in order, their cols alone resolved
unfoldable pub resolved_before : List (List cells.Row) → List cells.Row
resolved_before [] = []
resolved_before (b ∷ bs) = fill_body b ++ resolved_before bs

-- the smallest remaining count of h and hs
unfoldable pub least_left : Item → List Item → ℕ
least_left h [] = h.left
least_left h (g ∷ gs) = min h.left (least_left g gs)

-- an entry of an extra row that stands for n rows: n - 1 are taken off its count
abbrev pub lowered : ℕ → Item → Item
lowered n x = item x.owner x.filler (x.left - (n - 1)) x.pos x.span

-- extra rows held only fillers, packed from 0; each took the smallest remaining count off all, until none hung. Each ended at least one that hung,
-- so there were at most as many as hung: the first argument
unfoldable pub extras_in : ℕ → List Item → List PositionRow
extras_in zero hs = []
extras_in (suc k) [] = []
extras_in (suc k) (h ∷ hs) =
    row 0 (map (lowered (least_left h hs)) (h ∷ hs)) ∷ extras_in k (nexts (map (lowered (least_left h hs)) (h ∷ hs)))

unfoldable pub extras : List Item → List PositionRow
extras hs = extras_in (length hs) hs

-- the original rows, and the extra rows of what hung below the last
abbrev pub original_rows : List cells.Row → List PositionRow
original_rows table = originals [] table

abbrev pub extra_rows : List cells.Row → List PositionRow
extra_rows table = extras (hang_below [] table)

-- the grid and its columns: the edges were those of the original rows
unfoldable pub grid_before : List cells.Row → List GridRow
grid_before table = map (grid_row (original_rows table)) (original_rows table ++ extra_rows table)

unfoldable pub columns_before : List cells.Row → ℕ
columns_before table = longest (original_rows table) (original_rows table)

-- 5, 6, and 7: an entry of an extra row ended at no column edge
unfoldable pub checks_before : ℕ → List cells.Row → List Check
checks_before t table =
    check (ends_past (original_rows table)) RowEnd t
    ∷ check (ltb max_entries (entry_count (original_rows table ++ extra_rows table))) TooManyEntries t
    ∷ check (not (all_at (is_column_edge (original_rows table)) (ends_of (extra_rows table)))) ColumnEdge t
    ∷ []

-- each table in turn, from line t on
unfoldable pub tables_before : ℕ → List NodeRecord → List Check
tables_before t [] = []
tables_before t (l ∷ ls) =
    cond (eqb (kind_number l.kind) table_kind) (checks_before t (resolved_before (bodies_of l.depth t ls))) [] ++ tables_before (suc t) ls

-- no table has a cell with rows 0 or a span that leaves its body
abbrev pub AllEnding : ℕ → List NodeRecord → Type 0
AllEnding t [] = Unit {0}
AllEnding t (l ∷ ls) = (kind_number l.kind ≡ table_kind → All Ending (bodies_of l.depth t ls)) × AllEnding (suc t) ls
