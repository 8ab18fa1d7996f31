-- Reading a line field by field, at places of the sheet: what the reader's inner functions answer.
use Rattle.std.specs.Prelude.{◌≡◌, cond, ◌&&◌, List, ℕ, ◌+◌, ◌≤◌, eqb, length, drop, Option, Some, None, Result, Ok, Err}
use Rattle.common.specs.declared.Reason.{Reason}
use Rattle.common.specs.declared.Reason.TheVariants.{TextByte}
use Rattle.common.specs.declared.Reason.TheVariants as reason
use Rattle.common.specs.Limits.{max_depth, max_cols, max_rows}
use Rattle.text.specs.Decimal.{shift, shifted}
use Rattle.kinds.specs.declared.Kind.{Kind}
use Rattle.kinds.specs.Kinds.{kind_number, cell_kind, has_text}
use Rattle.fields.specs.Numbers.{up_to, magnitude}
use Rattle.fields.specs.inner.Reading.{FieldRead, sound, number_read, kind_read}
use Rattle.line.specs.Fields.{n_fits}
use Rattle.line.specs.inner.LineAt.{piece_at, LineRead}
use Rattle.line.specs.declared.Node.{Node}
use Rattle.line.specs.declared.Fields.{Fields}

-- the largest span that a line of a kind may have, where a cell may have `most`
unfoldable pub span_limit : Kind → ℕ → ℕ
span_limit kind most = cond (eqb (kind_number kind) cell_kind) most 0

-- what reading the fields of a line answers
abbrev pub FieldsRead : Type 0
FieldsRead = Option Fields

-- what a sound field is followed by
abbrev pub on_sound : {A : Type 0} → FieldRead A → (A → ℕ → FieldsRead) → FieldsRead
on_sound (Some r) g = g r.value r.next
on_sound None g = None

-- the fields n, cols and rows of a line of this depth and kind, from a place of the sheet on
unfoldable pub rest_read : List ℕ → ℕ → Kind → ℕ → FieldsRead
rest_read s depth kind at =
    on_sound (number_read (n_fits kind) shifted at (drop at s)) (λ number a₁.
    on_sound (number_read (up_to (span_limit kind max_cols)) magnitude a₁ (drop a₁ s)) (λ cols a₂.
    on_sound (number_read (up_to (span_limit kind max_rows)) magnitude a₂ (drop a₂ s)) (λ rows a₃.
    Some (record { depth = depth; kind = kind; number = number; cols = cols; rows = rows; from = a₃ }))))

-- these three are 0
pub record ZerosAtPost (s : List ℕ) (kind : Kind) (at : ℕ) : Type 0 where
  pub inside : at + 6 ≤ length s
  pub number : number_read (n_fits kind) shifted at (drop at s) ≡ sound shift (at + 2)
  pub cols : number_read (up_to (span_limit kind max_cols)) magnitude (at + 2) (drop (at + 2) s) ≡ sound 0 (at + 4)
  pub rows : number_read (up_to (span_limit kind max_rows)) magnitude (at + 4) (drop (at + 4) s) ≡ sound 0 (at + 6)

-- the five fields of the line that starts at a place of the sheet, where each is well formed and in its range
unfoldable pub fields_read : List ℕ → ℕ → FieldsRead
fields_read s at =
    on_sound (number_read (up_to max_depth) magnitude at (drop at s)) (λ depth a₁.
    on_sound (kind_read a₁ (drop a₁ s)) (λ kind a₂.
    rest_read s depth kind a₂))

-- the answer where a byte of the text is refused, at a place: 3 on a kind that has a text, where a line feed ends it, else 2
unfoldable pub refused_at : List ℕ → ℕ → Kind → Reason
refused_at s at kind = cond (has_text kind && (piece_at s at).ended) TextByte reason.Fields

-- a node, by its fields, its size and where its text lies
abbrev pub node_with : Fields → ℕ → ℕ → ℕ → Node
node_with f own from to =
    record {
      depth = f.depth;
      kind = f.kind;
      number = f.number;
      cols = f.cols;
      rows = f.rows;
      own = own;
      from = from;
      to = to;
      next = to + 1;
    }

-- the answer for a calc of these fields, whose text ends at a place and is measured so: 13, 14, or the line
unfoldable pub calc_read : Fields → ℕ → Result ℕ Reason → LineRead
calc_read f to (Ok n) = Ok (node_with f n f.from to)
calc_read f to (Err why) = Err why
