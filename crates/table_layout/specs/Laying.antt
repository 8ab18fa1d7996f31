-- One table laid out: its grid's entries with the estimates of their cells.
use Rattle.std.specs.Prelude.{List, ℕ}
use Rattle.columns.specs.Boxes.{Box, flat}
use Rattle.columns.specs.Columns.{size_of, least_of, largest}
use Rattle.widths.specs.Widths.{way_of, final_widths}
use Rattle.answers.specs.declared.Way.{Way}
use Rattle.placement.specs.Place.{Placed, place_rows}

-- the way of a table with these rows of boxes in so many columns, and its final widths
abbrev pub way_in : ℕ → List (List Box) → ℕ → ℕ → Way
way_in columns rows raw width = way_of raw width (largest least_of (flat rows) columns)

abbrev pub widths_in : ℕ → List (List Box) → ℕ → ℕ → List ℕ
widths_in columns rows raw width =
    final_widths (way_in columns rows raw width) (largest size_of (flat rows) columns) (largest least_of (flat rows) columns) width

-- where its entries stand, and how wide they are
abbrev pub places_in : ℕ → List (List Box) → ℕ → ℕ → List Placed
places_in columns rows raw width = place_rows (way_in columns rows raw width) (widths_in columns rows raw width) width rows
