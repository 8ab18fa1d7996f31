-- What the calls refuse after their arguments, in its order, and what they leave in a lent buffer.
use Rattle.std.specs.Prelude.{List, ◌∷◌, ◌++◌, ℕ, length}
use Rattle.common.specs.Lists.{padded}
use Rattle.common.specs.Refusals.{Check, if_passes}
use Rattle.sheet.specs.Sheet.{sheet_checks}
use Rattle.grid.specs.Grid.{tables_checks}
use Rattle.sheet_load.specs.Opening.{nodes_of, line_check}

-- each table of the sheet in turn: 5, 6
abbrev pub every_table : List ℕ → List Check
every_table s = tables_checks 1 (nodes_of s)

-- a sheet: `check`, and every call that asks for no line, after its arguments
abbrev pub check_checks : List ℕ → List Check
check_checks s = sheet_checks s ++ every_table s

-- a call that asks for the table in a line, after its arguments: 10 before the tables
abbrev pub asked_checks : List ℕ → ℕ → List Check
asked_checks s line = sheet_checks s ++ line_check (nodes_of s) line ∷ every_table s

-- what a lent buffer holds after a call with these checks: the figures, then zeros
abbrev pub leaves : List Check → List ℕ → List ℕ → List ℕ
leaves cs buffer figures = padded (length buffer) (if_passes cs figures)
