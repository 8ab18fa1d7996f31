-- What the reader's inner functions ask and answer.
use Rattle.std.specs.Prelude.{◌≡◌, Bool, true, false, not, cond, ◌&&◌, ◌||◌, List, [], ◌∷◌, map, ℕ, ◌+◌, ◌-◌, ◌≤◌, ◌<◌, min, leb, eqb, length, get_or, Err, Ok, Result}
use Rattle.common.specs.Limits.{max_bytes, max_lines, max_feeds}
use Rattle.common.specs.Refusals.{Check, check, answer_by}
use Rattle.common.specs.declared.Reason.{Reason}
use Rattle.common.specs.declared.Reason.TheVariants.{Nesting}
use Rattle.common.specs.declared.Refusal.{Refusal}
use Rattle.records.specs.NodeRecord.{no_node}
use Rattle.records.specs.declared.NodeRecord.{NodeRecord}
use Rattle.text.specs.Decimal.{plain}
use Rattle.kinds.specs.declared.Kind.{Kind}
use Rattle.kinds.specs.declared.Kind.TheVariants.{Text}
use Rattle.kinds.specs.Kinds.{is_frame, may_hold, needs_child}
use Rattle.fields.specs.Lines.{feeds, headed}
use Rattle.line.specs.Fields.{Line}
use Rattle.line.specs.inner.LineAt.{LineRead}
use Rattle.line.specs.declared.Node.{Node}
use Rattle.line_fast.specs.inner.Briefs.{Brief, BriefPost}
use Rattle.sheet.specs.Sheet.{is_empty, empty_checks}

-- a line can be asked for at a place of the sheet
pub record AtLine (s : List ℕ) (at : ℕ) : Type 0 where
  pub short : length s ≤ max_bytes
  pub inside : at < length s

-- a line breaks the nesting after `lines` others, the last of them `previous` deep, where `chain` has the kind of the last line of each depth
unfoldable pub breaks_nesting : List Kind → ℕ → ℕ → ℕ → Kind → Bool
breaks_nesting chain lines previous depth kind =
    cond (eqb lines 0) (not (eqb depth 0 && not (is_frame kind)))
    (not ((leb 1 depth && leb depth (previous + 1)) && may_hold (get_or chain (depth - 1) Text) kind))

-- by a line alone, which may be none: why, or 4, or the line
unfoldable pub nesting_checked : List Kind → ℕ → ℕ → LineRead → LineRead
nesting_checked chain lines previous (Err why) = Err why
nesting_checked chain lines previous (Ok n) = cond (breaks_nesting chain lines previous n.depth n.kind) (Err Nesting) (Ok n)

-- the code's answer: why the line is refused, or the line as it is kept
pub record Answers (j : LineRead) (r : Result Brief Reason) : Type 0 where
  pub refused : (why : Reason) → r ≡ Err why → j ≡ Err why
  pub kept : (b : Brief) → r ≡ Ok b → (node : Node) × (j ≡ Ok node) × BriefPost node b

-- what remains to be asked after the lines: 4 for no node, or the first table or body left empty
abbrev pub end_checks : List Line → List Check
end_checks ls = check (is_empty ls) Nesting 0 ∷ empty_checks 1 ls

unfoldable pub line_end : List Line → Result ℕ Refusal
line_end ls = answer_by (length ls) (end_checks ls)

-- lines of these depths and kinds: all that the last checks look at
abbrev pub bare_line : NodeRecord → Line
bare_line k = record { depth = k.depth; kind = k.kind; n = plain 0; cols = 0; rows = 0; text = [] }

abbrev pub bare : List NodeRecord → List Line
bare ks = map bare_line ks

-- the line at place i is a table or a body left empty
unfoldable pub empty_at : List NodeRecord → ℕ → Bool
empty_at ks i =
    needs_child (get_or ks i no_node).kind && (leb (length ks) (i + 1) || leb (get_or ks (i + 1) no_node).depth (get_or ks i no_node).depth)

-- no line up to the place is so
abbrev pub FilledTo : List NodeRecord → ℕ → Type 0
FilledTo ks end = (i : ℕ) → i < end → empty_at ks i ≡ false

-- a line needs a child, and the next one is no deeper
abbrev pub lacks_child : NodeRecord → NodeRecord → Bool
lacks_child here next = needs_child here.kind && leb next.depth here.depth

-- of the first n lines none but the last may be so
abbrev pub FinishPre : List NodeRecord → ℕ → Type 0
FinishPre ks n = (i : ℕ) → i + 1 < n → lacks_child (get_or ks i no_node) (get_or ks (i + 1) no_node) ≡ false

-- the sheet is neither too long nor without its first line
pub record ReadLinesPre (s : List ℕ) : Type 0 where
  pub short : length s ≤ max_bytes
  pub few : feeds s ≤ max_feeds
  pub headed : headed s ≡ true

-- places enough for the lines of every sheet that is not too long
abbrev pub line_bound : List ℕ → ℕ
line_bound s = min max_lines (feeds s)
