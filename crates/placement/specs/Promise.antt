-- What is promised of every table that is laid out: the third demand, with its six parts, and what holds down the page.
use Rattle.std.specs.Prelude.{◌≡◌, cond, List, [], ◌∷◌, ℕ, ◌+◌, ◌≤◌, ◌<◌, eqb, length, get_or}
use Rattle.common.specs.Lists.{sum}
use Rattle.columns.specs.Boxes.{Box, box, flat}
use Rattle.columns.specs.Columns.{size_of, least_of, largest}
use Rattle.cutting.specs.Cut.{gaps, most}
use Rattle.widths.specs.Share.{shares}
use Rattle.answers.specs.declared.Way.{Way}
use Rattle.answers.specs.declared.Way.TheVariants.{Sideways, Down}
use Rattle.placement.specs.Place.{Placed, at, place_row}

-- a printed cell: where it starts, how wide it is, and its own least width
pub record Printed : Type 0 where
  pub x : ℕ
  pub width : ℕ
  pub least : ℕ

abbrev pub nowhere : Printed
nowhere = record { x = 0; width = 0; least = 0 }

-- the printed cells of a row, in order: those that are not missing
unfoldable pub printed : List Box → List Placed → List Printed
printed [] ps = []
printed (b ∷ bs) [] = []
printed (b ∷ bs) (p ∷ ps) =
    cond (eqb p.width 0) (printed bs ps) (record { x = p.x; width = p.width; least = b.least } ∷ printed bs ps)

-- of a row's printed cells: the first starts at 0, the last ends within the width (each does), each is at least as wide as its own least
-- width, and between two neighbours lies exactly one character column
pub record InRow (width : ℕ) (ps : List Printed) : Type 0 where
  pub starts : 0 < length ps → (get_or ps 0 nowhere).x ≡ 0
  pub ends : (k : ℕ) → k < length ps → (get_or ps k nowhere).x + (get_or ps k nowhere).width ≤ width
  pub wide : (k : ℕ) → k < length ps → (get_or ps k nowhere).least ≤ (get_or ps k nowhere).width
  pub apart : (k : ℕ) → k + 1 < length ps → (get_or ps (k + 1) nowhere).x ≡ (get_or ps k nowhere).x + (get_or ps k nowhere).width + 1

-- the shares overflow: then the final widths and gaps fill the width exactly, and every other list of widths of equal sum, each between
-- its column's least width and share, has at least as large a largest excess over the leasts
pub record Fills (columns : ℕ) (leasts ss ws : List ℕ) (width : ℕ) : Type 0 where
  pub exactly : sum ws + gaps columns ≡ width
  pub best : (vs : List ℕ) → length vs ≡ columns → sum vs ≡ sum ws →
      ((j : ℕ) → j < columns → (get_or leasts j 0 ≤ get_or vs j 0) × (get_or vs j 0 ≤ get_or ss j 0)) →
      most leasts ws columns ≤ most leasts vs columns

-- sideways: sizes, leasts, shares and final widths of the columns, and the rows
pub record Side (columns : ℕ) (sizes leasts ss ws : List ℕ) (width : ℕ) (rows : List (List Box)) : Type 0 where
  pub between : (j : ℕ) → j < columns → (get_or leasts j 0 ≤ get_or ws j 0) × (get_or ws j 0 ≤ get_or sizes j 0)
  pub row : (i : ℕ) → i < length rows → InRow width (printed (get_or rows i []) (place_row Sideways ws width (get_or rows i [])))
  pub uncut : sum ss + gaps columns ≤ width → ws ≡ ss
  pub fills : width < sum ss + gaps columns → Fills columns leasts ss ws width

-- down the page: every printed cell starts at 0 and is exactly as wide as the page
pub record Stacked (width : ℕ) (ps : List Printed) : Type 0 where
  pub starts : (k : ℕ) → k < length ps → (get_or ps k nowhere).x ≡ 0
  pub fills : (k : ℕ) → k < length ps → (get_or ps k nowhere).width ≡ width

-- all columns of the box are 0 wide
abbrev pub Narrow : List ℕ → Box → Type 0
Narrow ws b = (j : ℕ) → b.first ≤ j → j < b.first + b.span → ◌≡◌ {A = ℕ} (get_or ws j 0) 0

-- a cell is missing exactly if all its columns are 0 wide
pub record Missing (ws : List ℕ) (b : Box) (p : Placed) : Type 0 where
  pub only : ◌≡◌ {A = ℕ} p.width 0 → Narrow ws b
  pub then : Narrow ws b → ◌≡◌ {A = ℕ} p.width 0

-- sideways is chosen exactly under these three conditions
pub record Chosen (columns raw width : ℕ) (leasts : List ℕ) (way : Way) : Type 0 where
  pub only : way ≡ Sideways → (raw ≡ 0) × (1 ≤ width) × (sum leasts + gaps columns ≤ width)
  pub then : raw ≡ 0 → 1 ≤ width → sum leasts + gaps columns ≤ width → way ≡ Sideways

-- the third demand with its six parts and, beside it, what holds down the page: of a grid of so many columns with its rows of boxes, laid
-- out that way with these final widths
pub record Promised (columns : ℕ) (rows : List (List Box)) (raw width : ℕ) (way : Way) (ws : List ℕ) : Type 0 where
  pub chosen : Chosen columns raw width (largest least_of (flat rows) columns) way
  pub each : length ws ≡ columns
  pub side : way ≡ Sideways →
      Side columns (largest size_of (flat rows) columns) (largest least_of (flat rows) columns)
      (shares (largest size_of (flat rows) columns) (largest least_of (flat rows) columns) width) ws width rows
  pub down : way ≡ Down → (i : ℕ) → i < length rows → Stacked width (printed (get_or rows i []) (place_row Down ws width (get_or rows i [])))
  pub missing : (i k : ℕ) → i < length rows → k < length (get_or rows i []) →
      Missing ws (get_or (get_or rows i []) k (box 0 0 0 0)) (get_or (place_row way ws width (get_or rows i [])) k (at 0 0))
