-- Where the lines of a sheet start and end, and what the functions of this crate take.
use Rattle.std.specs.Prelude.{◌≡◌, Bool, true, ◌||◌, cond, leb, List, map, ℕ, ◌+◌, ◌-◌, ◌≤◌, eqb, length, take, drop, Option, None, Some}
use Rattle.common.specs.Limits.{max_lines}
use Rattle.common.specs.Refusals.{passes}
use Rattle.kinds.specs.Kinds.{kind_number, text_kind}
use Rattle.fields.specs.Lines.{heading_bytes, pieces, node_pieces}
use Rattle.line.specs.inner.LineAt.{piece_at}
use Rattle.records.specs.declared.NodeRecord.{NodeRecord}
use Rattle.sheet.specs.Sheet.{sheet_checks, sheet_lines}
use Rattle.sheet.specs.Reading.{record_of}
use Rattle.answers.specs.declared.Part.{Part}
use Rattle.spoken_text.specs.Text.{bytes_of, part_with}

-- a line is a text, or no deeper than a line of this depth
unfoldable pub stops : ℕ → NodeRecord → Bool
stops d l = leb l.depth d || eqb (kind_number l.kind) text_kind

-- where the bytes of the line that starts at a place end
unfoldable pub end_of : List ℕ → ℕ → ℕ
end_of s at = at + length (piece_at s at).bytes

-- i lines are passed, and the next one starts at a place: after the heading and the bytes of those lines
pub record LinesPassed (s : List ℕ) (at i : ℕ) : Type 0 where
  pub within : at ≤ length s
  pub place : pieces (drop at s) ≡ drop i (node_pieces s)
  pub start : at ≡ heading_bytes + bytes_of (take i (node_pieces s))

-- the part between two places, none if it is empty
unfoldable pub part_between : ℕ → ℕ → Option Part
part_between from to = cond (eqb from to) None (Some (part_with from (to - from)))

-- a line, counted from 1
pub record FirstTextPre (ks : List NodeRecord) (c : ℕ) : Type 0 where
  pub from_one : 1 ≤ c
  pub within : c ≤ length ks
  pub short : length ks ≤ max_lines

-- a line of a sheet that reading accepts
pub record TextPartPre (s : List ℕ) (k : ℕ) : Type 0 where
  pub accepted : passes (sheet_checks s) ≡ true
  pub from_one : 1 ≤ k
  pub within : k ≤ length (sheet_lines s)

-- a line of such a sheet, and its lines as they are kept
pub record SpokenPartPre (s : List ℕ) (ks : List NodeRecord) (c : ℕ) : Type 0 where
  pub accepted : passes (sheet_checks s) ≡ true
  pub lines_are : ks ≡ map record_of (sheet_lines s)
  pub from_one : 1 ≤ c
  pub within : c ≤ length ks
