-- What is made of the field at the front of bytes: with one byte more before it, where nothing is made of it, and where the same is.
-- Each by cases on the field.
use mathlib.Core.Path.{◌≡◌, refl, sym}
use mathlib.Core.Bool.{Bool, true, false, ◌&&◌}
use mathlib.Core.List.{List, ◌∷◌}
use Prim.Native.Nat.{ℕ}
use Rattle.std.specs.Prelude.{Option, None}
use Rattle.text.specs.Decimal.{Number}
use Rattle.fields.specs.Blanks.{Field, field, endless, longer}
use Rattle.fields.specs.Numbers.{Numeral, numeral, unwritten}
use Rattle.fields.specs.inner.Reading.{FieldRead, on_field, on_numeral}

pub on_longer : {A : Type 0} (b : ℕ) (x : Field) (g : List ℕ → Option A) → on_field (longer b x) g ≡ on_field x (λ f. g (b ∷ f))
on_longer b (field f r) g = refl
on_longer b endless g = refl

pub on_same : {A : Type 0} (x : Field) (g h : List ℕ → Option A) → ((f : List ℕ) → g f ≡ h f) → on_field x g ≡ on_field x h
on_same (field f r) g h e = e f
on_same endless g h e = refl

pub on_unsound : {A : Type 0} (x : Field) (g : List ℕ → Option A) → ((f : List ℕ) → g f ≡ None) → on_field x g ≡ None
on_unsound (field f r) g e = e f
on_unsound endless g e = refl

-- a test that fails
pub and_fails : (a b : Bool) → b ≡ false → (a && b) ≡ false
and_fails true b e = e
and_fails false b e = refl

-- both tests of a pair that holds
pub and_0 : (a b : Bool) → (a && b) ≡ true → a ≡ true
and_0 true b e = refl
and_0 false b e = e

pub and_1 : (a b : Bool) → (a && b) ≡ true → b ≡ true
and_1 true b e = e
and_1 false true e = refl
and_1 false false e = e

-- a function that leaves nothing where there was nothing goes inside
pub on_map : (h : FieldRead ℕ → FieldRead ℕ) → h None ≡ None → (x : Field) (g : List ℕ → FieldRead ℕ) → on_field x (λ f. h (g f))
    ≡ h (on_field x g)
on_map h e (field f r) g = refl
on_map h e endless g = sym e

pub on_number : (h : FieldRead ℕ → FieldRead ℕ) → h None ≡ None → (x : Numeral) (g k : Number → FieldRead ℕ)
    → ((n : Number) → k n ≡ h (g n)) → on_numeral x k ≡ h (on_numeral x g)
on_number h e (numeral n) g k p = p n
on_number h e unwritten g k p = sym e
