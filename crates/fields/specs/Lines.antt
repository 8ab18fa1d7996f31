-- Cutting a sheet into lines.
use Rattle.std.specs.Prelude.{Bool, true, false, cond, List, [], ◌∷◌, ◌++◌, ℕ, ◌+◌, eqb, take, drop}
use Rattle.kinds.specs.Words.{word}
use Rattle.kinds.specs.Kinds.{same}

abbrev pub feed : ℕ
feed = 10

-- how many line feeds there are
unfoldable pub feeds : List ℕ → ℕ
feeds [] = 0
feeds (b ∷ bs) = cond (eqb b feed) 1 0 + feeds bs

-- a line: its bytes without the line feed, and whether a line feed ends it
pub record Piece : Type 0 where
  pub bytes : List ℕ
  pub ended : Bool

abbrev pub piece : List ℕ → Bool → Piece
piece bytes ended = record { bytes = bytes; ended = ended }

abbrev pub before : ℕ → List Piece → List Piece
before b [] = piece (b ∷ []) false ∷ []
before b (p ∷ ps) = piece (b ∷ p.bytes) p.ended ∷ ps

-- the lines; bytes after the last line feed are one more line, nothing after it is none
unfoldable pub pieces : List ℕ → List Piece
pieces [] = []
pieces (b ∷ bs) = cond (eqb b feed) (piece [] true ∷ pieces bs) (before b (pieces bs))

-- the first line: "depth kind n cols rows text" and its line feed
abbrev pub heading : List ℕ
heading = word "depth kind n cols rows text" ++ (feed ∷ [])

abbrev pub heading_bytes : ℕ
heading_bytes = 28

unfoldable pub headed : List ℕ → Bool
headed s = same (take heading_bytes s) heading

-- the lines after the first
abbrev pub node_pieces : List ℕ → List Piece
node_pieces s = pieces (drop heading_bytes s)
