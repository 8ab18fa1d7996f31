-- Reading one field at a place of the sheet: what the reader's inner functions answer.
use Rattle.std.specs.Prelude.{Bool, false, cond, ◌&&◌, List, [], ◌∷◌, ℕ, ◌+◌, ◌-◌, ◌*◌, leb, ltb, length, Option, Some, None}
use Rattle.std.specs.Option.{option_and_then}
use Rattle.text.specs.Decimal.{Number, plain, minus}
use Rattle.kinds.specs.declared.Kind.{Kind}
use Rattle.kinds.specs.Kinds.{kind_at, kind_of, kind_count}
use Rattle.fields.specs.Numbers.{Numeral, numeral, unwritten, number_of, is_digit, up_to, magnitude}
use Rattle.fields.specs.Blanks.{Field, field, endless, until_blank, front_to}
use Rattle.fields.specs.declared.Scanned.{Scanned}

-- what reading a field answers, and a field that is read

abbrev pub FieldRead : Type 0 → Type 0
FieldRead A = Option (Scanned A)

abbrev pub sound : {A : Type 0} → A → ℕ → FieldRead A
sound value next = Some (record { value = value; next = next })

-- the bytes up to the first space, if there is one
abbrev pub on_field : {A : Type 0} → Field → (List ℕ → Option A) → Option A
on_field (field f r) g = g f
on_field endless g = None

abbrev pub on_numeral : Numeral → (Number → FieldRead ℕ) → FieldRead ℕ
on_numeral (numeral n) g = g n
on_numeral unwritten g = None

-- from one number to another
abbrev pub from_to : ℕ → ℕ → Number → Bool
from_to least most (plain v) = leb v most && leb least v
from_to least most (minus v) = false

-- the number field at the front of bytes that stand at a place: what is kept of its number, where that is allowed, and where the next field starts
unfoldable pub number_read : (Number → Bool) → (Number → ℕ) → ℕ → List ℕ → FieldRead ℕ
number_read allowed kept at s =
    on_field (until_blank s)
    (λ f. on_numeral (number_of f) (λ n. cond (allowed n) (sound (kept n) (at + length f + 1)) None))

-- the kind at the front of bytes that stand at a place, likewise
unfoldable pub kind_read : ℕ → List ℕ → FieldRead Kind
kind_read at s =
    on_field (until_blank s)
    (λ f. cond (ltb (kind_of f) kind_count) (sound (kind_at (kind_of f)) (at + length f + 1)) None)

-- the value of digits, after digits of value v; a value above most is left at once
unfoldable pub digits_in : ℕ → ℕ → List ℕ → Option ℕ
digits_in most v [] = Some v
digits_in most v (b ∷ bs) =
    cond (is_digit b && leb (v * 10 + (b - 48)) most) (digits_in most (v * 10 + (b - 48)) bs) None

-- a number from 0 to most
abbrev pub written_in : ℕ → Numeral → Option ℕ
written_in most (numeral n) = cond (up_to most n) (Some (magnitude n)) None
written_in most unwritten = None

-- where a field that is read ends
abbrev pub ended_at : {A : Type 0} → ℕ → Option A → FieldRead A
ended_at next (Some v) = sound v next
ended_at next None = None

-- the number from 0 to most that the bytes before a stop write, at the front of bytes that stand at a place, and the place after the stop
unfoldable pub written_at : ℕ → ℕ → ℕ → List ℕ → FieldRead ℕ
written_at stop most at s = option_and_then (λ f. ended_at (at + length f + 1) (written_in most (number_of f))) (front_to stop s)

-- the kind whose name has a place among the names; none past their end
abbrev pub kind_named : ℕ → Option Kind
kind_named place = cond (ltb place kind_count) (Some (kind_at place)) None
