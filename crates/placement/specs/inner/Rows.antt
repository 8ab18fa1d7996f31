-- What the code that places entries asks of its slices, and what it leaves in them.
use Rattle.std.specs.Prelude.{cond, ◌≡◌, List, [], ◌∷◌, map, ℕ, ◌+◌, ◌-◌, ◌≤◌, eqb, length}
use Rattle.common.specs.Lists.{sum}
use Rattle.common.specs.Limits.{max_size}
use Rattle.records.specs.declared.Entry.{Entry}
use Rattle.records.specs.declared.RowEnd.{RowEnd}
use Rattle.columns.specs.Boxes.{Box, box}
use Rattle.columns.specs.inner.Boxes.{rows_by, BoxesTile, TilesAll}
use Rattle.cutting.specs.Cut.{gaps}
use Rattle.answers.specs.declared.Way.{Way}
use Rattle.answers.specs.declared.Way.TheVariants.{Sideways}
use Rattle.placement.specs.Place.{Placed}
use Rattle.records.specs.inner.Figures.{row_end}

-- sideways, the width of an entry whose columns sum to q, and where the next one starts if it stands at x: one case of place_side
abbrev pub own : ℕ → ℕ → ℕ
own q span = cond (eqb q 0) 0 (q + span - 1)

abbrev pub next : ℕ → ℕ → ℕ → ℕ
next x q span = cond (eqb q 0) x (x + (q + span))

-- an entry as a box without figures, and the boxes of several
abbrev pub bare_box : Entry → Box
bare_box e = box e.first e.span 0 0

abbrev pub bare_boxes : List Entry → List Box
bare_boxes es = map bare_box es

-- a row sideways: a place for each entry; the entries tile the columns; widths and gaps are no wider than a table may lie
pub record PlaceSideRowPre (es : List Entry) (ws xs wides : List ℕ) : Type 0 where
  pub xs_length : length xs ≡ length es
  pub wides_length : length wides ≡ length es
  pub tiles : BoxesTile (length ws) 0 (bare_boxes es)
  pub small : sum ws + gaps (length ws) ≤ max_size

-- a row either way; down, a place for each entry is all
pub record PlaceRowPre (way : Way) (es : List Entry) (ws xs wides : List ℕ) : Type 0 where
  pub xs_length : length xs ≡ length es
  pub wides_length : length wides ≡ length es
  pub tiles : BoxesTile (length ws) 0 (bare_boxes es)
  pub side : way ≡ Sideways → sum ws + gaps (length ws) ≤ max_size

-- the row ends ascend from a on, and the last is the number of entries
unfoldable pub Ascends : ℕ → List ℕ → ℕ → Type 0
Ascends a [] n = a ≡ n
Ascends a (e ∷ ends) n = (a ≤ e) × Ascends e ends n

-- all rows of a table
pub record PlacePre (way : Way) (es : List Entry) (rs : List RowEnd) (ws xs wides : List ℕ) : Type 0 where
  pub xs_length : length xs ≡ length es
  pub wides_length : length wides ≡ length es
  pub ascends : Ascends 0 (map row_end rs) (length es)
  pub tiles : TilesAll (length ws) (rows_by 0 (map row_end rs) (bare_boxes es))
  pub side : way ≡ Sideways → sum ws + gaps (length ws) ≤ max_size

-- x and width of each entry, written to two slices
pub record Written (ps : List Placed) (xs wides : List ℕ) : Type 0 where
  pub x : xs ≡ map (λ (p : Placed). p.x) ps
  pub wide : wides ≡ map (λ (p : Placed). p.width) ps
