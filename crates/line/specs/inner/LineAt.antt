-- The line that starts at a place of the sheet, as the numbers that are kept of it.
use Rattle.std.specs.Prelude.{false, cond, List, [], ◌∷◌, ℕ, ◌+◌, ◌-◌, length, drop, Result, Ok, Err}
use Rattle.common.specs.declared.Reason.{Reason}
use Rattle.common.specs.declared.Reason.TheVariants.{TextByte, NoExpression, OutOfBounds}
use Rattle.common.specs.declared.Reason.TheVariants as reason
use Rattle.text.specs.Decimal.{shifted}
use Rattle.fields.specs.Lines.{Piece, piece, pieces}
use Rattle.line.specs.Fields.{Line, read_line, is_unread, has_bad_byte, not_expression, out_of_bounds, or_none, own_size}
use Rattle.line.specs.declared.Node.{Node}

abbrev pub first_piece : List Piece → Piece
first_piece [] = piece [] false
first_piece (p ∷ ps) = p

-- the piece of the sheet that starts at the place
abbrev pub piece_at : List ℕ → ℕ → Piece
piece_at s at = first_piece (pieces (drop at s))

-- a line's figures; its text lies between two places of the sheet, and the next line starts after its line feed
abbrev pub node_of : ℕ → Piece → Line → Node
node_of at p l =
    record {
      depth = l.depth;
      kind = l.kind;
      number = shifted l.n;
      cols = l.cols;
      rows = l.rows;
      own = own_size l;
      from = at + length p.bytes - length l.text;
      to = at + length p.bytes;
      next = at + length p.bytes + 1;
    }

-- what stands at a place: a line, or why it is none
abbrev pub LineRead : Type 0
LineRead = Result Node Reason

-- 2, 3, 13, 14, or the line
unfoldable pub line_in : ℕ → Piece → LineRead
line_in at p =
    cond (is_unread (read_line p)) (Err reason.Fields)
    (cond (has_bad_byte (read_line p)) (Err TextByte)
    (cond (not_expression (read_line p)) (Err NoExpression)
    (cond (out_of_bounds (read_line p)) (Err OutOfBounds) (Ok (node_of at p (or_none (read_line p)))))))

unfoldable pub line_at : List ℕ → ℕ → LineRead
line_at s at = line_in at (piece_at s at)
