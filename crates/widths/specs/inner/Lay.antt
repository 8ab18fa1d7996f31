-- What is asked for and promised where a table's columns are laid out.
use Rattle.std.specs.Prelude.{◌≡◌, List, ℕ, ◌+◌, ◌≤◌, length}
use Rattle.common.specs.Lists.{sum}
use Rattle.common.specs.Limits.{max_lines}
use Rattle.cutting.specs.Cut.{gaps, Below}
use Rattle.widths.specs.Widths.{way_of, final_widths, table_width}
use Rattle.answers.specs.declared.Way.{Way}
use Rattle.answers.specs.declared.Way.TheVariants.{Sideways}
use Rattle.widths.specs.declared.Laid.{Laid}

-- columns with a figure in each of three lists
pub record Columned (sizes leasts wide : List ℕ) : Type 0 where
  pub leasts_length : length leasts ≡ length sizes
  pub wide_length : length wide ≡ length sizes
  pub few : length sizes ≤ max_lines

-- columns whose final widths are to be written, laid out that way: sideways the leasts with their gaps fit
pub record WriteWidthsPre (way : Way) (sizes leasts wide : List ℕ) (width : ℕ) : Type 0 where
  pub columns : Columned sizes leasts wide
  pub below : Below leasts sizes
  pub capacity : way ≡ Sideways → sum leasts + gaps (length leasts) ≤ width

-- final widths that with their gaps fit the width, if they lie sideways
pub record TableWidthPre (way : Way) (wide : List ℕ) (width : ℕ) : Type 0 where
  pub few : length wide ≤ max_lines
  pub fits : way ≡ Sideways → sum wide + gaps (length wide) ≤ width

-- columns to be laid out: no least is above its size
pub record LayColumnsPre (sizes leasts wide : List ℕ) : Type 0 where
  pub columns : Columned sizes leasts wide
  pub below : Below leasts sizes

-- columns laid out: the table's way, the final widths and the table's own width
pub record LayColumnsPost (sizes leasts : List ℕ) (raw width : ℕ) (wide : List ℕ) (r : Laid) : Type 0 where
  pub way_is : r.way ≡ way_of raw width leasts
  pub wide_are : wide ≡ final_widths r.way sizes leasts width
  pub width_is : r.width ≡ table_width r.way wide width
