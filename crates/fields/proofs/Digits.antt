-- Number fields: the turns of the loop over digits, what its answer tells of the field, and the numbers with a sign.
use mathlib.Core.Path.{◌≡◌, refl, sym, ap, ◌∙◌}
use mathlib.Core.Bool.{Bool, true, false, not, cond, ◌&&◌}
use mathlib.Core.List.{List, [], ◌∷◌}
use Prim.Native.Nat.{ℕ, suc, ◌+◌, ◌-◌, ◌*◌, ◌≤◌}
use native.Mathlib.Omega.{arith}
use lib.Dec.{eqb, leb}
use lib.ListN.{length, get_or, drop}
use borrow.Author.Tests.{ne_eqb, eqb-true, le-leb, leb-true}
use Rattle.std.specs.Prelude.{None}
use Rattle.std.specs.List.{slice_range}
use Rattle.std.proofs.lemmas.List.{take_rest}
use Rattle.text.specs.Decimal.{plain, minus}
use Rattle.fields.specs.Numbers.{numeral, unwritten, is_digit, value_from, is_natural, natural_of, negative_of, number_of, up_to, magnitude}
use Rattle.fields.specs.Blanks.{until_blank, blank}
use Rattle.fields.specs.inner.Reading.{FieldRead, sound, on_field, on_numeral, number_read}
use Rattle.fields.proofs.OnField.{on_same, and_0, and_1}

pub digit_from : (b : ℕ) → is_digit b ≡ true → 48 ≤ b
digit_from b e = leb-true 48 b (and_0 (leb 48 b) (leb b 57) e)

digit_to : (b : ℕ) → is_digit b ≡ true → b ≤ 57
digit_to b e = leb-true b 57 (and_1 (leb 48 b) (leb b 57) e)

-- digits only make a value larger
pub value_grows : (v : ℕ) (f : List ℕ) → v ≤ value_from v f
unfolding value_from
value_grows v [] = omega arith
value_grows v (b ∷ f) = omega (arith, value_grows (v * 10 + (b - 48)) f)

-- a number from 0 to most, by the field

abbrev pub natural_in : ℕ → ℕ → List ℕ → FieldRead ℕ
natural_in most at f = cond (is_natural f && leb (value_from 0 f) most) (sound (value_from 0 f) (at + length f + 1)) None

-- a byte before digits: no digit, no number
pub natural_first : (b : ℕ) (f : List ℕ) → is_digit b ≡ false → is_natural (b ∷ f) ≡ false
unfolding is_natural
natural_first b [] e = e
natural_first b (c ∷ f) e = rw e

natural_in_lem : (most at : ℕ) (f : List ℕ)
    → on_numeral (number_of f) (λ n. cond (up_to most n) (sound (magnitude n) (at + length f + 1)) None) ≡ natural_in most at f
unfolding number_of negative_of natural_of is_natural
natural_in_lem most at [] = refl
natural_in_lem most at (b ∷ f) = go (eqb b 45) refl
  where
    place : ℕ
    place = at + suc (length f) + 1

    sign : (t : Bool) (v : ℕ)
        → on_numeral (cond t (numeral (minus v)) unwritten) (λ n. cond (up_to most n) (sound (magnitude n) place) None) ≡ None
    sign true v = refl
    sign false v = refl

    digits : (t : Bool) (v : ℕ)
        → on_numeral (cond t (numeral (plain v)) unwritten) (λ n. cond (up_to most n) (sound (magnitude n) place) None)
        ≡ cond (t && leb v most) (sound v place) None
    digits true v = refl
    digits false v = refl

    go : (t : Bool) → eqb b 45 ≡ t
        → on_numeral (cond t (negative_of f) (natural_of (b ∷ f))) (λ n. cond (up_to most n) (sound (magnitude n) place) None)
        ≡ natural_in most at (b ∷ f)
    go true e = sign (is_natural f && not (eqb (value_from 0 f) 0)) (value_from 0 f) ∙ sym (rw (natural_first b f (ap is_digit (eqb-true b 45 e))))
    go false e = digits (is_natural (b ∷ f)) (value_from 0 (b ∷ f))

pub natural_field : (most at : ℕ) (s : List ℕ) → number_read (up_to most) magnitude at s ≡ on_field (until_blank s) (natural_in most at)
unfolding number_read
natural_field most at s = on_same (until_blank s) _ _ (natural_in_lem most at)

-- a single digit and a space
natural_one : (most at b c : ℕ) (bs : List ℕ) → is_digit b ≡ true → c ≡ blank
    → number_read (up_to most) magnitude at (b ∷ c ∷ bs) ≡ cond (leb (b - 48) most) (sound (b - 48) (at + 2)) None
unfolding until_blank is_natural value_from
natural_one most at b c bs digit space =
    let other : b ≡ blank → ⊥ = λ g. omega (arith, digit_from b digit) in
    let n : at + 1 + 1 ≡ at + 2 = omega arith in
    let v : value_from 0 (b ∷ []) ≡ b - 48 = omega arith in
    natural_field most at (b ∷ c ∷ bs) ∙ rw (ne_eqb b blank other, space, digit, n, v)

-- the same of the bytes from a place on
pub natural_lone : (most at : ℕ) (s : List ℕ) {r : List ℕ} {v : ℕ} → r ≡ slice_range s at (length s) → 2 ≤ length r → 48 ≤ get_or r 0 0 → get_or r 0 0 ≤ 57
    → get_or r 1 0 ≡ blank → v ≡ get_or r 0 0 - 48 → number_read (up_to most) magnitude at (drop at s) ≡ cond (leb v most) (sound v (at + 2)) None
natural_lone most at s {r} h n least top space v = rw (sym (take_rest s at), ← h, v) (go r n least top space)
  where
    go : (r : List ℕ) → 2 ≤ length r → 48 ≤ get_or r 0 0 → get_or r 0 0 ≤ 57 → get_or r 1 0 ≡ blank
        → number_read (up_to most) magnitude at r ≡ cond (leb (get_or r 0 0 - 48) most) (sound (get_or r 0 0 - 48) (at + 2)) None
    go [] n least top space = absurd (omega arith)
    go (b ∷ []) n least top space = absurd (omega arith)
    go (b ∷ c ∷ bs) n least top space = natural_one most at b c bs (rw (le-leb 48 b least, le-leb b 57 top)) space
