-- What the refusals 5 and 6 say of a table.
use Rattle.std.specs.Prelude.{cond, List, ℕ, ltb, Result, Ok, Err}
use Rattle.common.specs.Limits.{max_entries}
use Rattle.common.specs.declared.Reason.{Reason}
use Rattle.common.specs.declared.Reason.TheVariants.{RowEnd, TooManyEntries}
use Rattle.resolved_rows.specs.Cells as cells
use Rattle.grid_positions.specs.Positions.{all_rows, ends_past, entry_count}

-- 6 by the count of entries
abbrev pub entries_checked : ℕ → Result (Unit {0}) Reason
entries_checked entries = cond (ltb max_entries entries) (Err TooManyEntries) (Ok tt)

-- 5 before 6
unfoldable pub count_of : List cells.Row → Result (Unit {0}) Reason
count_of table = cond (ends_past (all_rows table)) (Err RowEnd) (entries_checked (entry_count (all_rows table)))
