-- A table whose columns have their sizes and leasts, at one width and at each of several.
use Rattle.std.specs.Prelude.{◌≡◌, List, map, ℕ, suc, ◌≤◌, length}
use Rattle.common.specs.Limits.{max_position, max_entries}
use Rattle.records.specs.declared.Entry.{Entry}
use Rattle.cutting.specs.Cut.{Below}
use Rattle.widths.specs.Widths.{way_of, final_widths, table_width}
use Rattle.answers.specs.Numbers.{way_number}
use Rattle.window.specs.declared.AtWidth.{AtWidth}
use Rattle.window.specs.inner.Counting.{missing_count, Spanned}

-- few entries, each whole in the columns, of which none has a least above its size
pub record SizedTableKnown (es : List Entry) (sizes leasts : List ℕ) : Type 0 where
  pub spanned : Spanned es (length sizes)
  pub entries_few : length es ≤ max_entries
  pub few : length sizes ≤ max_position
  pub below : Below leasts sizes

-- the final widths of columns with these sizes and leasts
abbrev pub finals : (sizes leasts : List ℕ) → (raw width : ℕ) → List ℕ
finals sizes leasts raw width = final_widths (way_of raw width leasts) sizes leasts width

-- a place for each column's final width, and for each count
pub record AtWidthPre (sizes column before : List ℕ) : Type 0 where
  pub column_length : length column ≡ length sizes
  pub before_length : length before ≡ suc (length sizes)

-- its way, its own width, and how many of its entries are missing
pub record AtWidthPost (es : List Entry) (sizes leasts : List ℕ) (raw width : ℕ) (r : AtWidth) : Type 0 where
  pub way_is : r.laid.way ≡ way_of raw width leasts
  pub width_is : r.laid.width ≡ table_width (way_of raw width leasts) (finals sizes leasts raw width) width
  pub missing_is : r.missing ≡ missing_count (finals sizes leasts raw width) es

-- a place of each slice for each width
pub record WriteLinesPre (widths way wide missing : List ℕ) : Type 0 where
  pub way_length : length way ≡ length widths
  pub wide_length : length wide ≡ length widths
  pub missing_length : length missing ≡ length widths

-- at each width the number of its way, its width, how many entries are missing
pub record WriteLinesPost (es : List Entry) (sizes leasts : List ℕ) (raw : ℕ) (widths way wide missing : List ℕ) : Type 0 where
  pub ways : way ≡ map (λ (w : ℕ). way_number (way_of raw w leasts)) widths
  pub wides : wide ≡ map (λ (w : ℕ). table_width (way_of raw w leasts) (finals sizes leasts raw w) w) widths
  pub missings : missing ≡ map (λ (w : ℕ). missing_count (finals sizes leasts raw w) es) widths
