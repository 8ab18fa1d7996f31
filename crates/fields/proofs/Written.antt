-- A whole field as a number: the turns of the loop over digits, and what its answer, or a 0 at the front, says of the field.
use mathlib.Core.Path.{◌≡◌, refl, sym, ap, ◌∙◌}
use mathlib.Core.Bool.{Bool, true, false, not, cond, ◌&&◌, and-true}
use mathlib.Core.List.{List, [], ◌∷◌}
use Prim.Native.Nat.{ℕ, ◌+◌, ◌-◌, ◌*◌, ◌≤◌, ◌<◌}
use native.Mathlib.Numerals.{add-one}
use native.Mathlib.Omega.{arith}
use lib.Dec.{eqb, leb}
use lib.ListN.{length, get_or, drop, drop_of_length-le}
use lib.Seq.{drop-cons}
use borrow.Author.Tests.{eqb-true, le-leb, lt-leb, leb-true, leb-false, ne_eqb}
use Rattle.std.specs.Prelude.{Option, Some, None}
use Rattle.text.specs.Decimal.{plain, minus}
use Rattle.fields.specs.Numbers.{numeral, unwritten, is_digit, all_digits, value_from, is_natural, natural_of, negative_of, number_of}
use Rattle.fields.proofs.OnField.{and_fails}
use Rattle.fields.proofs.Digits.{value_grows, natural_first}
use Rattle.fields.specs.inner.Reading.{digits_in, written_in}

-- the turns of `digits_in`

module _ (most v i : ℕ) (s : List ℕ) where
  abbrev here : Option ℕ
  here = digits_in most v (drop i s)

  abbrev b : ℕ
  b = get_or s i 0

  abbrev w : ℕ
  w = v * 10 + (b - 48)

  pub digits_end : length s ≤ i → here ≡ Some v
  unfolding digits_in
  digits_end h = rw (drop_of_length-le s h)

  module _ (h : i < length s) where
    pub digits_other : is_digit b ≡ false → here ≡ None
    unfolding digits_in
    digits_other d = rw (drop-cons s i 0 h, d)

    module _ (d : is_digit b ≡ true) where
      pub digits_past : most < w → here ≡ None
      unfolding digits_in
      digits_past g = rw (drop-cons s i 0 h, d, lt-leb _ _ g)

      pub digits_more : w ≤ most → here ≡ digits_in most w (drop (i + 1) s)
      unfolding digits_in
      digits_more g = rw (drop-cons s i 0 h, d, le-leb _ _ g) (rw (add-one i))

-- a value that a test lets pass, if it is at most the most
abbrev bounded : ℕ → Bool → ℕ → Option ℕ
bounded most t v = cond (t && leb v most) (Some v) None

-- what the loop reads, by the field
digits_bounded : (most v : ℕ) (f : List ℕ) → v ≤ most → digits_in most v f ≡ bounded most (all_digits f) (value_from v f)
unfolding digits_in all_digits value_from
digits_bounded most v [] h = rw (le-leb v most h)
digits_bounded most v (b ∷ f) h = go (is_digit b) (leb w most) refl (digits_bounded most w f)
  where
    w : ℕ
    w = v * 10 + (b - 48)

    go : (d l : Bool) → leb w most ≡ l → (w ≤ most → digits_in most w f ≡ bounded most (all_digits f) (value_from w f))
        → cond (d && l) (digits_in most w f) None ≡ bounded most (d && all_digits f) (value_from w f)
    go false l e more = refl
    go true false e more =
        let past : most < w = leb-false w most e in
        rw (and_fails (all_digits f) _ (lt-leb (value_from w f) most (omega (arith, value_grows w f))))
    go true true e more = more (leb-true w most e)

-- a number with a sign is none from 0 on
natural_written : (most : ℕ) (f : List ℕ) → written_in most (number_of f) ≡ bounded most (is_natural f) (value_from 0 f)
unfolding number_of negative_of natural_of is_natural
natural_written most [] = refl
natural_written most (b ∷ f) = go (eqb b 45) refl
  where
    sign : (t : Bool) (v : ℕ) → written_in most (cond t (numeral (minus v)) unwritten) ≡ None
    sign true v = refl
    sign false v = refl

    digits : (t : Bool) (v : ℕ) → written_in most (cond t (numeral (plain v)) unwritten) ≡ bounded most t v
    digits true v = refl
    digits false v = refl

    go : (t : Bool) → eqb b 45 ≡ t
        → written_in most (cond t (negative_of f) (natural_of (b ∷ f))) ≡ bounded most (is_natural (b ∷ f)) (value_from 0 (b ∷ f))
    go true e =
        sign (is_natural f && not (eqb (value_from 0 f) 0)) (value_from 0 f)
        ∙ sym (rw (natural_first b f (ap is_digit (eqb-true b 45 e))))
    go false e = digits (is_natural (b ∷ f)) (value_from 0 (b ∷ f))

-- the answers of `written_in`, by the first byte and those after it

natural_all : (b : ℕ) (f : List ℕ) → (b ≡ 48 → length f ≡ 0) → is_natural (b ∷ f) ≡ all_digits (b ∷ f)
unfolding is_natural all_digits
natural_all first [] n = sym (and-true (is_digit first))
natural_all first (c ∷ f) n = rw (ne_eqb first 48 (λ e. omega (arith, n e)), and-true)

module _ (most : ℕ) where
  pub written_none : (s : List ℕ) → length s ≡ 0 → written_in most (number_of s) ≡ None
  unfolding number_of
  written_none [] h = refl
  written_none (first ∷ f) h = absurd (omega arith)

  module _ {first : ℕ} {f s : List ℕ} (e : s ≡ first ∷ f) where
    pub written_led : first ≡ 48 → (length f ≡ 0 → ⊥) → written_in most (number_of s) ≡ None
    unfolding is_natural
    written_led zero n = rw (e, zero) (led f n)
      where
        led : (g : List ℕ) → (length g ≡ 0 → ⊥) → written_in most (number_of (48 ∷ g)) ≡ None
        led [] n = absurd (n refl)
        led (c ∷ g) n = natural_written most (48 ∷ c ∷ g)

    pub written_digits : (first ≡ 48 → length f ≡ 0) → written_in most (number_of s) ≡ digits_in most 0 s
    written_digits n =
        rw e
        (natural_written most (first ∷ f)
        ∙ ap (λ (t : Bool). bounded most t (value_from 0 (first ∷ f))) (natural_all first f n)
        ∙ sym (digits_bounded most 0 (first ∷ f) (omega arith)))
