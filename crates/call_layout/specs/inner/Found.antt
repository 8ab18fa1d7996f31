-- A layout that is found in a sheet, where the checks pass or one of them refuses.
use Rattle.answers.specs.Answers.{layout_with}
use Rattle.answers.specs.declared.Layout.{Layout}
use Rattle.common.specs.declared.Refusal.{Refusal}
use Rattle.std.specs.Prelude.{◌≡◌, true, List, map, ℕ, ◌≤◌, length, take, Err, Result, Ok}
use Rattle.common.specs.Limits.{max_lines, max_entries}
use Rattle.common.specs.Refusals.{Check, first_answer, passes, if_passes}
use Rattle.grid.specs.Grid.{entries_of}
use Rattle.placement.specs.Promise.{Promised}
use Rattle.columns.specs.Boxes.{Box}
use Rattle.widths.specs.Widths.{table_width}
use Rattle.table_layout.specs.Laying.{way_in, widths_in, places_in}
use Rattle.sheet_figures.specs.Figures.{x_of, width_of, rows_at, columns_at, boxes_at}

-- how many columns and entries there are
unfoldable pub columns_in : Result Layout Refusal → ℕ
columns_in (Ok t) = t.columns
columns_in (Err why) = 0

unfoldable pub entries_in : Result Layout Refusal → ℕ
entries_in (Ok t) = t.entries
entries_in (Err why) = 0

-- the layout of a grid of so many entries and columns, by its rows of boxes, or the first refusal; its figures stand in the first places
pub record LayoutOf (cs : List Check) (entries columns : ℕ) (boxes : List (List Box)) (raw width : ℕ) (r : Result Layout Refusal) (column x wide : List ℕ) : Type 0 where
  pub answer :
      r ≡ first_answer Err (Ok (layout_with (way_in columns boxes raw width) entries columns (table_width (way_in columns boxes raw width) (widths_in columns boxes raw width) width))) cs
  pub few_columns : columns_in r ≤ max_lines
  pub few_entries : entries_in r ≤ max_entries
  pub widths : take (columns_in r) column ≡ if_passes cs (widths_in columns boxes raw width)
  pub xs : take (entries_in r) x ≡ if_passes cs (map x_of (places_in columns boxes raw width))
  pub wides : take (entries_in r) wide ≡ if_passes cs (map width_of (places_in columns boxes raw width))
  pub promised : raw ≤ 1 → passes cs ≡ true → Promised columns boxes raw width (way_in columns boxes raw width) (widths_in columns boxes raw width)

-- the layout of the table in a line
abbrev pub LayoutFound : List Check → (s : List ℕ) (line wrap raw width : ℕ) → Result Layout Refusal → (column x wide : List ℕ) → Type 0
LayoutFound cs s line wrap raw width = LayoutOf cs (length (entries_of (rows_at s line))) (columns_at s line) (boxes_at s line wrap) raw width
