-- The text that is spoken for a line of a sheet: that of the first text inside it, and where it stands in the sheet.
use Rattle.std.specs.Prelude.{false, cond, List, [], ◌∷◌, map, ℕ, suc, ◌+◌, ◌-◌, leb, eqb, length, get_or, take, drop, Option, None, Some}
use Rattle.common.specs.Lists.{sum}
use Rattle.kinds.specs.Kinds.{kind_number, text_kind}
use Rattle.fields.specs.Lines.{Piece, piece, heading_bytes, node_pieces}
use Rattle.line.specs.Fields.{no_line}
use Rattle.records.specs.NodeRecord.{no_node}
use Rattle.records.specs.declared.NodeRecord.{NodeRecord}
use Rattle.sheet.specs.Sheet.{sheet_lines}
use Rattle.answers.specs.declared.Part.{Part}

-- the first line of kind text among the lines from line k on, up to the first that is not deeper than d
unfoldable pub first_text : ℕ → ℕ → List NodeRecord → Option ℕ
first_text d k [] = None
first_text d k (l ∷ ls) = cond (leb l.depth d) None (cond (eqb (kind_number l.kind) text_kind) (Some k) (first_text d (suc k) ls))

-- the first text inside line c, those of tables in it included; line k stands at place k - 1
abbrev pub text_inside : List NodeRecord → ℕ → Option ℕ
text_inside ks c = first_text (get_or ks (c - 1) no_node).depth (suc c) (drop c ks)

-- the whole text of line k
abbrev pub text_of : List ℕ → ℕ → List ℕ
text_of s k = (get_or (sheet_lines s) (k - 1) no_line).text

-- how many bytes the lines take, each with its line feed
abbrev pub bytes_of : List Piece → ℕ
bytes_of ps = sum (map (λ (p : Piece). suc (length p.bytes)) ps)

-- where the bytes of line k end in the sheet, before its line feed: after the heading, the lines before it and its own bytes
abbrev pub line_end : List ℕ → ℕ → ℕ
line_end s k = heading_bytes + bytes_of (take (k - 1) (node_pieces s)) + length (get_or (node_pieces s) (k - 1) (piece [] false)).bytes

-- the part of the sheet that is the text of line k: its text is the end of the line; none if it is empty
abbrev pub part_with : ℕ → ℕ → Part
part_with from length = record { from = from; length = length }

unfoldable pub text_part : List ℕ → ℕ → Option Part
text_part s k = cond (eqb (length (text_of s k)) 0) None (Some (part_with (line_end s k - length (text_of s k)) (length (text_of s k))))

-- the part that is spoken for line c: the text of the first text inside it; none if there is none, or that is empty
unfoldable pub part_for : Option ℕ → List ℕ → Option Part
part_for None s = None
part_for (Some k) s = text_part s k
