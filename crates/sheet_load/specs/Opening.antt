-- A sheet opened: it is read, and every table of it is checked. What each step answers.
use Rattle.common.specs.declared.Reason.TheVariants.{NoTable}
use Rattle.common.specs.declared.Refusal.{Refusal}
use Rattle.std.specs.Prelude.{Bool, not, ◌&&◌, List, ◌∷◌, ◌++◌, map, ℕ, ◌-◌, leb, eqb, length, get_or, Err, Ok, Result, None, Option, Some}
use Rattle.common.specs.Refusals.{Check, check, first_answer}
use Rattle.kinds.specs.Kinds.{kind_number, table_kind}
use Rattle.records.specs.NodeRecord.{no_node}
use Rattle.records.specs.declared.NodeRecord.{NodeRecord}
use Rattle.sheet.specs.Sheet.{sheet_checks, sheet_lines}
use Rattle.sheet.specs.Reading.{record_of}
use Rattle.grid.specs.Grid.{tables_checks}

-- the lines of a sheet as they are kept
abbrev pub nodes_of : List ℕ → List NodeRecord
nodes_of s = map record_of (sheet_lines s)

-- 10: the line given is not a table
unfoldable pub is_table : List NodeRecord → ℕ → Bool
is_table ks line = leb 1 line && leb line (length ks) && eqb (kind_number (get_or ks (line - 1) no_node).kind) table_kind

abbrev pub line_check : List NodeRecord → ℕ → Check
line_check ks line = check (not (is_table ks line)) NoTable 0

-- each table of the sheet in turn, whichever line was given: 5, 6; a call that asks for the table in a line has the line checked before the tables
unfoldable pub after_reading : Option ℕ → List NodeRecord → List Check
after_reading (Some line) ks = line_check ks line ∷ tables_checks 1 ks
after_reading None ks = tables_checks 1 ks

abbrev pub open_checks : Option ℕ → List ℕ → List Check
open_checks asked s = sheet_checks s ++ after_reading asked (nodes_of s)

-- the number of lines, or the first refusal that applies
unfoldable pub opened_of : Option ℕ → List ℕ → Result ℕ Refusal
opened_of asked s = first_answer Err (Ok (length (sheet_lines s))) (open_checks asked s)
