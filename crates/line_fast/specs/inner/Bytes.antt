-- The ends of lines that are told by eight bytes.
use Rattle.std.specs.Prelude.{◌≡◌, List, [], ◌∷◌, ℕ, ◌+◌, ◌≤◌, ◌<◌, length, get_or, take, drop}
use Rattle.text.specs.Text.{text_size}
use Rattle.text.specs.inner.Fronts.{FrontAt}
use Rattle.text.specs.declared.Front.{Front}
use Rattle.kinds.specs.declared.Kind.{Kind}
use Rattle.records.specs.inner.NodeRecord.{bare_node, cell_node, text_node}
use Rattle.common.specs.Limits.{max_depth}
use Rattle.fields.specs.Blanks.{blank}
use Rattle.fields.specs.Numbers.{up_to, magnitude}
use Rattle.fields.specs.inner.Reading.{sound, number_read}
use Rattle.fields.specs.Lines.{feed}
use Rattle.line_fast.specs.inner.Briefs.{Brief}

-- a depth stands at the place, up to another, if a space stands there, and room for a line
pub record DepthPost (s : List ℕ) (at after depth : ℕ) : Type 0 where
  pub inside : after + 14 ≤ length s
  pub read : (t : List ℕ) → drop after s ≡ blank ∷ t → number_read (up_to max_depth) magnitude at (drop at s) ≡ sound depth (after + 1)

-- ` 0 C R ` and a line feed
abbrev pub ending : ℕ → ℕ → List ℕ
ending cols rows = 32 ∷ 48 ∷ 32 ∷ (48 + cols) ∷ 32 ∷ (48 + rows) ∷ 32 ∷ 10 ∷ []

-- the line ends so from the place on, and has no figure
pub record BareLinePost (s : List ℕ) (at depth : ℕ) (kind : Kind) (b : Brief) : Type 0 where
  pub stands : take 8 (drop at s) ≡ ending 0 0
  pub is : b ≡ record { value = bare_node depth kind; next = at + 8 }

-- a cell ends so, with a cols and a rows of one digit
pub record CellLinePost (s : List ℕ) (at depth : ℕ) (b : Brief) : Type 0 where
  pub cols : ℕ
  pub rows : ℕ
  pub narrow : cols ≤ 9
  pub low : rows ≤ 9
  pub stands : take 8 (drop at s) ≡ ending cols rows
  pub is : b ≡ record { value = cell_node depth cols rows; next = at + 8 }

-- a text starts at the place, and a line feed ends it
pub record TextLinePost (s : List ℕ) (from depth : ℕ) (b : Brief) : Type 0 where
  pub front : Front
  pub scanned : FrontAt text_size feed s from front
  pub inside : front.end < length s
  pub ended : get_or s front.end 0 ≡ feed
  pub is : b ≡ record { value = text_node depth front.size; next = front.end + 1 }
