-- The calls `joined_grid`, `joined_layout` and `joined_spoken`: two tables of a sheet side by side. What they refuse, their answers, and what stands in the
-- lent buffers afterwards, refused calls included.
use Rattle.answers.specs.Answers.{grid_with, layout_with}
use Rattle.answers.specs.declared.Grid.{Grid}
use Rattle.answers.specs.declared.Layout.{Layout}
use Rattle.answers.specs.declared.Part.{Part}
use Rattle.answers.specs.declared.Way.{Way}
use Rattle.common.specs.declared.Reason.TheVariants.{NoTable}
use Rattle.common.specs.declared.Refusal.{Refusal}
use Rattle.std.specs.Prelude.{◌≡◌, true, List, ◌∷◌, [], ◌++◌, map, ℕ, ◌-◌, length, Result, Option}
use Rattle.common.specs.Refusals.{Check, check, answer_by, verdict_of, passes}
use Rattle.columns.specs.Boxes.{Box}
use Rattle.sheet.specs.Sheet.{sheet_checks}
use Rattle.grid.specs.Grid.{GridRow, entries_of}
use Rattle.widths.specs.Widths.{table_width}
use Rattle.placement.specs.Place.{Placed}
use Rattle.placement.specs.Promise.{Promised}
use Rattle.sheet_load.specs.Opening.{nodes_of, line_check}
use Rattle.table_layout.specs.Laying.{way_in, widths_in, places_in}
use Rattle.sheet_figures.specs.Figures.{x_of, width_of}
use Rattle.sheet_figures.specs.Calls.{every_table, leaves}
use Rattle.arguments.specs.Arguments.{grid_arguments, layout_arguments}
use Rattle.joined_tables.specs.Tables.{both_columns, joined_grid, both_checks, joined_boxes}
use Rattle.owners.specs.Owner.{filler_owner}
use Rattle.call_grid.specs.Grid.{for_entries, for_rows, GridLeft}
use Rattle.call_layout.specs.Layout.{for_columns, for_places}
use Rattle.call_spoken.specs.Spoken.{is_none, part_of_owner, reply}

-- ---- the joined grid of the tables in lines l and r

abbrev pub joined_rows : List ℕ → ℕ → ℕ → List GridRow
joined_rows s l r = joined_grid (nodes_of s) (l - 1) (r - 1)

abbrev pub joined_columns : List ℕ → ℕ → ℕ → ℕ
joined_columns s l r = both_columns (nodes_of s) (l - 1) (r - 1)

abbrev pub joined_boxes_at : List ℕ → ℕ → ℕ → ℕ → List (List Box)
joined_boxes_at s l r wrap = joined_boxes wrap (nodes_of s) (l - 1) (r - 1)

-- after a call's arguments: 10 if either line is no table, each table of the sheet, then 5 and 6 of the joined grid
abbrev pub two_checks : List ℕ → ℕ → ℕ → List Check
two_checks s l r = sheet_checks s ++ line_check (nodes_of s) l ∷ line_check (nodes_of s) r ∷ every_table s ++ both_checks (nodes_of s) (l - 1) (r - 1)

-- ---- `joined_grid`

abbrev pub joined_grid_checks : List ℕ → ℕ → ℕ → List ℕ → List ℕ → List Check
joined_grid_checks s l r entries rows = grid_arguments entries rows ++ two_checks s l r

unfoldable pub joined_grid_of : List ℕ → ℕ → ℕ → List ℕ → List ℕ → Result Grid Refusal
joined_grid_of s l r entries rows =
    answer_by (grid_with (length (joined_rows s l r)) (length (entries_of (joined_rows s l r))) (joined_columns s l r)) (joined_grid_checks s l r entries rows)

-- the five buffers hold what `grid` leaves of a grid
abbrev pub JoinedGridBuffers : (s : List ℕ) (l r : ℕ) (cell₀ first₀ span₀ row₀ end₀ cell first span row end : List ℕ) → Type 0
JoinedGridBuffers s l r cell₀ first₀ span₀ row₀ end₀ cell first' span row end =
    GridLeft (joined_grid_checks s l r (for_entries cell₀ first₀ span₀) (for_rows row₀ end₀)) (joined_rows s l r) cell₀ first₀ span₀ row₀ end₀ cell first' span row end

pub record JoinedGridAnswer (s : List ℕ) (l r : ℕ) (cell₀ first₀ span₀ row₀ end₀ : List ℕ) (answer : Result Grid Refusal) (cell first span row end : List ℕ) : Type 0 where
  pub answer_is : answer ≡ joined_grid_of s l r (for_entries cell₀ first₀ span₀) (for_rows row₀ end₀)
  pub left : JoinedGridBuffers s l r cell₀ first₀ span₀ row₀ end₀ cell first span row end

-- ---- `joined_layout`

abbrev pub joined_layout_checks : List ℕ → ℕ → ℕ → ℕ → ℕ → ℕ → List ℕ → List ℕ → List Check
joined_layout_checks s l r wrap raw width columns entries = layout_arguments wrap raw width columns entries ++ two_checks s l r

abbrev pub joined_way : List ℕ → ℕ → ℕ → ℕ → ℕ → ℕ → Way
joined_way s l r wrap raw width = way_in (joined_columns s l r) (joined_boxes_at s l r wrap) raw width

abbrev pub joined_widths : List ℕ → ℕ → ℕ → ℕ → ℕ → ℕ → List ℕ
joined_widths s l r wrap raw width = widths_in (joined_columns s l r) (joined_boxes_at s l r wrap) raw width

abbrev pub joined_places : List ℕ → ℕ → ℕ → ℕ → ℕ → ℕ → List Placed
joined_places s l r wrap raw width = places_in (joined_columns s l r) (joined_boxes_at s l r wrap) raw width

unfoldable pub joined_layout_of : List ℕ → ℕ → ℕ → ℕ → ℕ → ℕ → List ℕ → List ℕ → Result Layout Refusal
joined_layout_of s l r wrap raw width columns entries =
    answer_by
    (layout_with (joined_way s l r wrap raw width) (length (entries_of (joined_rows s l r))) (joined_columns s l r)
    (table_width (joined_way s l r wrap raw width) (joined_widths s l r wrap raw width) width))
    (joined_layout_checks s l r wrap raw width columns entries)

-- what the three buffers hold afterwards; of these figures the third demand holds, with what holds down the page
pub record JoinedLayoutLeft (cs : List Check) (s : List ℕ) (l r wrap raw width : ℕ) (column₀ x₀ wide₀ column x wide : List ℕ) : Type 0 where
  pub widths : column ≡ leaves cs column₀ (joined_widths s l r wrap raw width)
  pub xs : x ≡ leaves cs x₀ (map x_of (joined_places s l r wrap raw width))
  pub wides : wide ≡ leaves cs wide₀ (map width_of (joined_places s l r wrap raw width))
  pub promised : passes cs ≡ true → Promised (joined_columns s l r) (joined_boxes_at s l r wrap) raw width (joined_way s l r wrap raw width) (joined_widths s l r wrap raw width)

abbrev pub JoinedLayoutBuffers : (s : List ℕ) (l r wrap raw width : ℕ) (column₀ x₀ wide₀ column x wide : List ℕ) → Type 0
JoinedLayoutBuffers s l r wrap raw width column₀ x₀ wide₀ column x wide =
    JoinedLayoutLeft (joined_layout_checks s l r wrap raw width (for_columns column₀) (for_places x₀ wide₀)) s l r wrap raw width column₀ x₀ wide₀ column x wide

pub record JoinedLayoutAnswer (s : List ℕ) (l r wrap raw width : ℕ) (column₀ x₀ wide₀ : List ℕ) (answer : Result Layout Refusal) (column x wide : List ℕ) : Type 0 where
  pub answer_is : answer ≡ joined_layout_of s l r wrap raw width (for_columns column₀) (for_places x₀ wide₀)
  pub left : JoinedLayoutBuffers s l r wrap raw width column₀ x₀ wide₀ column x wide

-- ---- `joined_spoken`

-- the line of the cell that the entry continues; 0 for an empty entry, which continues none
abbrev pub joined_owner : List ℕ → ℕ → ℕ → ℕ → Option ℕ
joined_owner s l r e = filler_owner (entries_of (joined_rows s l r)) e

-- 10 comes again, last, for an entry that is no filler
abbrev pub joined_spoken_checks : List ℕ → ℕ → ℕ → ℕ → List Check
joined_spoken_checks s l r e = two_checks s l r ++ check (is_none (joined_owner s l r e)) NoTable 0 ∷ []

-- where the reply stands; nothing stands inside line 0, so that an empty entry is spoken with the wording
unfoldable pub joined_place_of : List ℕ → ℕ → ℕ → ℕ → Result (Option Part) Refusal
joined_place_of s l r e = answer_by (part_of_owner s (joined_owner s l r e)) (joined_spoken_checks s l r e)

pub record JoinedSpokenAnswer (s : List ℕ) (l r e : ℕ) (wording text : List ℕ) (verdict : Result (Unit {0}) Refusal) : Type 0 where
  pub text_is : text ≡ reply s wording (joined_place_of s l r e)
  pub verdict_is : verdict ≡ verdict_of (joined_spoken_checks s l r e)
