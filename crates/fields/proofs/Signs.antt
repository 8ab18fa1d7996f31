-- Numbers kept shifted up: one from a least to a most, one with a sign.
use mathlib.Core.Path.{◌≡◌, refl, sym, ap, subst, ◌∙◌}
use mathlib.Core.Bool.{Bool, true, false, not, cond, ◌&&◌, and-true}
use mathlib.Core.List.{List, [], ◌∷◌}
use Prim.Native.Nat.{ℕ, suc, ◌+◌, ◌-◌, ◌≤◌, ◌<◌}
use native.Mathlib.Numerals.{add-one}
use native.Mathlib.Omega.{arith}
use lib.Dec.{eqb, leb, ltb, leb-zero}
use lib.ListN.{length, get_or, drop, drop_of_length-le}
use lib.Seq.{drop-cons}
use borrow.Author.Tests.{ne_eqb, le-ltb, lt-ltb, leb-true, leb-false}
use Rattle.std.specs.Prelude.{Some, None}
use Rattle.text.specs.Decimal.{Number, plain, minus, shift, shifted}
use Rattle.fields.specs.Numbers.{numeral, unwritten, is_natural, value_from, natural_of, negative_of, number_of, up_to, within, magnitude}
use Rattle.fields.specs.Blanks.{Field, field, endless, longer, until_blank, blank}
use Rattle.fields.specs.inner.Reading.{FieldRead, sound, on_field, on_numeral, from_to, number_read}
use Rattle.fields.specs.declared.Scanned.{Scanned}
use Rattle.fields.proofs.OnField.{on_longer, on_same, on_map, on_number}
use Rattle.fields.proofs.Digits.{natural_in, natural_field}

-- a number that was read is at most the most

abbrev Below : ℕ → FieldRead ℕ → Type 0
Below most (Some f) = f.value ≤ most
Below most None = Unit {0}

below_field : (most at : ℕ) (x : Field) → Below most (on_field x (natural_in most at))
below_field most at endless = tt
below_field most at (field f r) = go (is_natural f) (leb (value_from 0 f) most) refl
  where
    go : (a l : Bool) → leb (value_from 0 f) most ≡ l → Below most (cond (a && l) (sound (value_from 0 f) (at + length f + 1)) None)
    go false l e = tt
    go true true e = leb-true (value_from 0 f) most e
    go true false e = tt

pub natural_most : (most at : ℕ) (s : List ℕ) (f : Scanned ℕ) → number_read (up_to most) magnitude at s ≡ Some f → f.value ≤ most
natural_most most at s f e = subst (Below most) (sym (natural_field most at s) ∙ e) (below_field most at (until_blank s))

-- what two readings of the same number have to do with each other
pub number_map : (h : FieldRead ℕ → FieldRead ℕ) → h None ≡ None → (allowed allowed' : Number → Bool) (kept kept' : Number → ℕ)
    → ((n : Number) (p : ℕ) → cond (allowed' n) (sound (kept' n) p) None ≡ h (cond (allowed n) (sound (kept n) p) None))
    → (at : ℕ) (s : List ℕ) → number_read allowed' kept' at s ≡ h (number_read allowed kept at s)
unfolding number_read
number_map h e allowed allowed' kept kept' same at s =
    on_same (until_blank s) _ _ (λ f. on_number h e (number_of f) _ _ (λ n. same n (at + length f + 1)))
    ∙ on_map h e (until_blank s) (λ f. on_numeral (number_of f) (λ n. cond (allowed n) (sound (kept n) (at + length f + 1)) None))

-- a number from 0, shifted up where it is not below the least
abbrev pub raised : ℕ → FieldRead ℕ → FieldRead ℕ
raised least (Some f) = cond (ltb f.value least) None (sound (shift + f.value) f.next)
raised least None = None

pub raised_read : (least most at : ℕ) (s : List ℕ)
    → number_read (from_to least most) shifted at s ≡ raised least (number_read (up_to most) magnitude at s)
unfolding shifted
raised_read least most at s = number_map (raised least) refl (up_to most) (from_to least most) magnitude shifted same at s
  where
    go : (v p : ℕ) (a l : Bool) → leb least v ≡ a
        → cond (l && a) (sound (shift + v) p) None ≡ raised least (cond l (sound v p) None)
    go v p true true e = rw (le-ltb v least (leb-true least v e))
    go v p false true e = rw (lt-ltb v least (leb-false least v e))
    go v p true false e = refl
    go v p false false e = refl

    same : (n : Number) (p : ℕ) → cond (from_to least most n) (sound (shifted n) p) None
        ≡ raised least (cond (up_to most n) (sound (magnitude n) p) None)
    same (plain v) p = go v p (leb least v) (leb v most) refl
    same (minus v) p = refl

-- a number without a minus
unsigned : (at b : ℕ) (bs : List ℕ) → (b ≡ 45 → ⊥) → number_read (within shift) shifted at (b ∷ bs)
    ≡ number_read (from_to 0 shift) shifted at (b ∷ bs)
unfolding number_read until_blank number_of natural_of
unsigned at b bs n = go (eqb b blank)
  where
    digits : (t : Bool) (v p : ℕ)
        → on_numeral (cond t (numeral (plain v)) unwritten) (λ m. cond (within shift m) (sound (shifted m) p) None)
        ≡ on_numeral (cond t (numeral (plain v)) unwritten) (λ m. cond (from_to 0 shift m) (sound (shifted m) p) None)
    digits true v p = rw (leb-zero v, and-true)
    digits false v p = refl

    go : (t : Bool) → on_field (cond t (field [] bs) (longer b (until_blank bs)))
        (λ f. on_numeral (number_of f) (λ m. cond (within shift m) (sound (shifted m) (at + length f + 1)) None))
        ≡ on_field (cond t (field [] bs) (longer b (until_blank bs)))
        (λ f. on_numeral (number_of f) (λ m. cond (from_to 0 shift m) (sound (shifted m) (at + length f + 1)) None))
    go true = refl
    go false =
        on_longer b (until_blank bs) _
        ∙ on_same (until_blank bs) _ _ (λ f. rw (ne_eqb b 45 n) (digits (is_natural (b ∷ f)) (value_from 0 (b ∷ f)) (at + suc (length f) + 1)))
        ∙ sym (on_longer b (until_blank bs) _)

-- a number after a minus
abbrev pub lowered : FieldRead ℕ → FieldRead ℕ
lowered (Some f) = cond (eqb f.value 0) None (sound (shift - f.value) f.next)
lowered None = None

negative : (at : ℕ) (bs : List ℕ) → number_read (within shift) shifted at (45 ∷ bs) ≡ lowered (number_read (up_to shift) magnitude (at + 1) bs)
unfolding number_read until_blank number_of negative_of shifted
negative at bs =
    on_longer 45 (until_blank bs) _
    ∙ on_same (until_blank bs) _ _ signs
    ∙ on_map lowered refl (until_blank bs) (natural_in shift (at + 1))
    ∙ ap lowered (sym (natural_field shift (at + 1) bs))
  where
    go : (v p : ℕ) (a z l : Bool) → eqb v 0 ≡ z → leb v shift ≡ l
        → on_numeral (cond (a && not z) (numeral (minus v)) unwritten) (λ n. cond (within shift n) (sound (shifted n) p) None)
        ≡ lowered (cond (a && l) (sound v p) None)
    go v p false z l e g = refl
    go v p true true true e g = rw e
    go v p true true false e g = refl
    go v p true false true e g = rw (e, g)
    go v p true false false e g = rw g

    signs : (f : List ℕ)
        → on_numeral (number_of (45 ∷ f)) (λ n. cond (within shift n) (sound (shifted n) (at + suc (length f) + 1)) None)
        ≡ lowered (natural_in shift (at + 1) f)
    signs f =
        let v = value_from 0 f in
        let e : at + suc (length f) + 1 ≡ at + 1 + length f + 1 = omega arith in
        rw e (go v (at + 1 + length f + 1) (is_natural f) (eqb v 0) (leb v shift) refl refl)

-- the answers of `signed_at`
module _ (at : ℕ) (s : List ℕ) where
  abbrev found : FieldRead ℕ
  found = number_read (within shift) shifted at (drop at s)

  pub signed_out : length s ≤ at → found ≡ None
  unfolding number_read until_blank
  signed_out h = rw (drop_of_length-le s h)

  module _ {first : ℕ} (h : at < length s) (v : first ≡ get_or s at first) where
    pub signed_plain : (first ≡ 45 → ⊥) → found ≡ number_read (from_to 0 shift) shifted at (drop at s)
    signed_plain n = rw (drop-cons s at first h, ← v) (unsigned at first (drop (suc at) s) n)

    pub signed_minus : first ≡ 45 → found ≡ lowered (number_read (up_to shift) magnitude (at + 1) (drop (at + 1) s))
    signed_minus e =
        rw (drop-cons s at first h, ← v, e)
        (negative at (drop (suc at) s)
        ∙ ap (λ (k : ℕ). lowered (number_read (up_to shift) magnitude (at + 1) (drop k s))) (sym (add-one at)))
