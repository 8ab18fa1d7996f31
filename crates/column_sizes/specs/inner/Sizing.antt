-- The sizes and leasts of a table's columns, from its entries and the estimates of the lines.
use Rattle.std.specs.Prelude.{cond, List, map, ℕ, ◌-◌, eqb, get_or}
use Rattle.text.specs.declared.Estimate.{Estimate}
use Rattle.records.specs.declared.Entry.{Entry}
use Rattle.columns.specs.Boxes.{Box, box}
use Rattle.columns.specs.Columns.{size_of, least_of, largest}
use Rattle.estimates.specs.Estimates.{none}

-- the figures of the cell in a line, whose place is one less; none for a filler, whose line is 0
abbrev pub figure_at : List Estimate → ℕ → Estimate
figure_at figures cell = cond (eqb cell 0) none (get_or figures (cell - 1) none)

-- an entry with the figures of its line
abbrev pub entry_box : List Estimate → Entry → Box
entry_box figures e = box e.first e.span (figure_at figures e.cell).size (figure_at figures e.cell).least

-- the largest sizes and leasts of the entries in each of n columns
abbrev pub sizes_in : List Entry → List Estimate → ℕ → List ℕ
sizes_in es figures n = largest size_of (map (entry_box figures) es) n

abbrev pub leasts_in : List Entry → List Estimate → ℕ → List ℕ
leasts_in es figures n = largest least_of (map (entry_box figures) es) n
