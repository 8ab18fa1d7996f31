-- Why a call is refused, and which refusal it answers: the first that applies.
use Rattle.std.specs.Prelude.{Bool, true, false, cond, List, [], ◌∷◌, ℕ, Result, Ok, Err}
use Rattle.common.specs.declared.Reason.{Reason}
use Rattle.common.specs.declared.Reason.TheVariants.{Heading, Fields, TextByte, Nesting, RowEnd, TooManyEntries, ColumnEdge, TooLong, Setting, NoTable, ShortBuffer, TooNarrow, NoExpression, OutOfBounds, WidthList}
use Rattle.common.specs.declared.Refusal.{Refusal}

-- the number that the format gives each reason
abbrev pub reason_number : Reason → ℕ
reason_number Heading = 1
reason_number Fields = 2
reason_number TextByte = 3
reason_number Nesting = 4
reason_number RowEnd = 5
reason_number TooManyEntries = 6
reason_number ColumnEdge = 7
reason_number TooLong = 8
reason_number Setting = 9
reason_number NoTable = 10
reason_number ShortBuffer = 11
reason_number TooNarrow = 12
reason_number NoExpression = 13
reason_number OutOfBounds = 14
reason_number WidthList = 16

-- the refusal for a reason, of a line
abbrev pub refusal : Reason → ℕ → Refusal
refusal reason line = record { reason = reason; line = line }

-- a condition, and the refusal that it causes
pub record Check : Type 0 where
  pub applies : Bool
  pub refusal : Refusal

abbrev pub check : Bool → Reason → ℕ → Check
check b reason line = record { applies = b; refusal = refusal reason line }

-- the answer of a call: the first refusal that applies, in the list's order, else what the call accepts
unfoldable pub first_answer : {A : Type 0} → (Refusal → A) → A → List Check → A
first_answer refused accepted [] = accepted
first_answer refused accepted (c ∷ cs) = cond c.applies (refused c.refusal) (first_answer refused accepted cs)

-- what a call answers that accepts with a value
abbrev pub answer_by : {A : Type 0} → A → List Check → Result A Refusal
answer_by accepted cs = first_answer Err (Ok accepted) cs

-- the verdict of the checks
unfoldable pub verdict_of : List Check → Result (Unit {0}) Refusal
verdict_of cs = answer_by tt cs

-- whether none of them applies
unfoldable pub passes : List Check → Bool
passes cs = first_answer (λ why. false) true cs

-- figures, where none of them applies; else none
unfoldable pub if_passes : List Check → List ℕ → List ℕ
if_passes cs xs = first_answer (λ why. []) xs cs
