-- The bytes before a stop: what is made of the field at the front of bytes is made of those before the first space, and a number from 0 on is
-- what they write.
use mathlib.Core.Path.{◌≡◌, refl, sym, ap, ◌∙◌}
use mathlib.Core.Bool.{Bool, true, false, not, cond}
use mathlib.Core.List.{List, [], ◌∷◌}
use Prim.Native.Nat.{ℕ, suc, ◌+◌, ◌≤◌, ◌<◌}
use native.Mathlib.Numerals.{one-add}
use native.Mathlib.Omega.{arith}
use lib.Dec.{eqb, ltb, leb-suc-suc}
use lib.ListN.{length, take, drop, drop_of_length-le}
use borrow.Author.Tests.{lt-ltb}
use Rattle.std.specs.Prelude.{Option, Some, None, position}
use Rattle.std.specs.List.{position_or_len, slice_range}
use Rattle.std.proofs.lemmas.List.{take_rest}
use Rattle.std.specs.Option.{option_map, option_and_then}
use Rattle.kinds.specs.Kinds.{kind_at, kind_of, kind_count}
use Rattle.fields.specs.Numbers.{Numeral, numeral, unwritten, number_of, up_to, magnitude}
use Rattle.fields.specs.Blanks.{field, longer, until_blank, front_to, blank}
use Rattle.fields.specs.inner.Reading.{sound, on_field, on_numeral, number_read, kind_read, kind_named, written_in, written_at, ended_at}
use Rattle.fields.proofs.OnField.{on_longer, on_same}

-- what is made of the bytes cut before a place, where there is such a place
abbrev cut_at : {A : Type 0} → ℕ → List ℕ → (List ℕ → Option A) → Option A
cut_at n s g = option_and_then g (option_map (λ (k : ℕ). take k s) (cond (ltb n (length s)) (Some n) None))

on_cut : {A : Type 0} (s : List ℕ) (g : List ℕ → Option A) → on_field (until_blank s) g ≡ cut_at (position_or_len (λ b. eqb b blank) s) s g
unfolding until_blank
on_cut [] g = refl
on_cut (b ∷ bs) g = go (eqb b blank) (on_cut bs (λ f. g (b ∷ f)))
  where
    n : ℕ
    n = position_or_len (λ b. eqb b blank) bs

    later : cut_at n bs (λ f. g (b ∷ f)) ≡ cut_at (suc n) (b ∷ bs) g
    later = rw (leb-suc-suc (suc n) (length bs)) (split (ltb n (length bs)))
      where
        split : (t : Bool)
            → option_and_then (λ f. g (b ∷ f)) (option_map (λ (k : ℕ). take k bs) (cond t (Some n) None))
            ≡ option_and_then g (option_map (λ (k : ℕ). take k (b ∷ bs)) (cond t (Some (suc n)) None))
        split true = refl
        split false = refl

    go : (t : Bool) → on_field (until_blank bs) (λ f. g (b ∷ f)) ≡ cut_at n bs (λ f. g (b ∷ f))
        → on_field (cond t (field [] bs) (longer b (until_blank bs))) g ≡ cut_at (cond (not t) (1 + n) 0) (b ∷ bs) g
    go true e = rw (lt-ltb 0 (suc (length bs)) (omega arith))
    go false e = rw (one-add n) (on_longer b (until_blank bs) g ∙ e ∙ later)

pub on_front : {A : Type 0} (s : List ℕ) (g : List ℕ → Option A) → on_field (until_blank s) g ≡ option_and_then g (front_to blank s)
unfolding front_to
on_front s g = on_cut s g

-- by what a search for the stop tells
module _ (stop at : ℕ) (s : List ℕ) where
  pub front_out : length s < at → None ≡ front_to stop (drop at s)
  unfolding front_to
  front_out h = let e : length s ≤ at = omega arith in rw (drop_of_length-le s e)

  pub front_none : {r : List ℕ} → r ≡ slice_range s at (length s) → position (λ b. eqb b stop) r ≡ None → None ≡ front_to stop (drop at s)
  unfolding front_to
  front_none {r} h e = rw (sym (take_rest s at), ← h, e)

  pub front_some : {r : List ℕ} {end : ℕ} → r ≡ slice_range s at (length s) → position (λ b. eqb b stop) r ≡ Some end
      → Some (take end r) ≡ front_to stop (drop at s)
  unfolding front_to
  front_some {r} {end} h e = rw (sym (take_rest s at), ← h, e)

-- what is written in the bytes before a stop
module _ (stop most at : ℕ) (s : List ℕ) where
  pub written_open : None ≡ front_to stop s → written_at stop most at s ≡ None
  unfolding written_at
  written_open e = sym (ap (option_and_then (λ (f : List ℕ). ended_at (at + length f + 1) (written_in most (number_of f)))) e)

  pub written_ended : {f : List ℕ} → Some f ≡ front_to stop s → written_at stop most at s ≡ ended_at (at + length f + 1) (written_in most (number_of f))
  unfolding written_at
  written_ended e = sym (ap (option_and_then (λ (f : List ℕ). ended_at (at + length f + 1) (written_in most (number_of f)))) e)

module _ (at : ℕ) (s : List ℕ) where
  -- a number from 0 to most

  numeral_ended : (most next : ℕ) (x : Numeral) → on_numeral x (λ n. cond (up_to most n) (sound (magnitude n) next) None) ≡ ended_at next (written_in most x)
  numeral_ended most next unwritten = refl
  numeral_ended most next (numeral n) = go (up_to most n)
    where
      go : (t : Bool) → cond t (sound (magnitude n) next) None ≡ ended_at next (cond t (Some (magnitude n)) None)
      go true = refl
      go false = refl

  pub natural_written_at : (most : ℕ) → number_read (up_to most) magnitude at s ≡ written_at blank most at s
  unfolding number_read written_at
  natural_written_at most = on_same (until_blank s) _ _ (λ f. numeral_ended most (at + length f + 1) (number_of f)) ∙ on_front s _

  -- a kind

  kind_ended : (next place : ℕ) → cond (ltb place kind_count) (sound (kind_at place) next) None ≡ ended_at next (kind_named place)
  kind_ended next place = go (ltb place kind_count)
    where
      go : (t : Bool) → cond t (sound (kind_at place) next) None ≡ ended_at next (cond t (Some (kind_at place)) None)
      go true = refl
      go false = refl

  kind_front : kind_read at s ≡ option_and_then (λ f. ended_at (at + length f + 1) (kind_named (kind_of f))) (front_to blank s)
  unfolding kind_read
  kind_front = on_same (until_blank s) _ _ (λ f. kind_ended (at + length f + 1) (kind_of f)) ∙ on_front s _

  pub kind_none : None ≡ front_to blank s → kind_read at s ≡ None
  kind_none e = kind_front ∙ sym (ap (option_and_then (λ (f : List ℕ). ended_at (at + length f + 1) (kind_named (kind_of f)))) e)

  pub kind_some : {f : List ℕ} → Some f ≡ front_to blank s → kind_read at s ≡ ended_at (at + length f + 1) (kind_named (kind_of f))
  kind_some e = kind_front ∙ sym (ap (option_and_then (λ (f : List ℕ). ended_at (at + length f + 1) (kind_named (kind_of f)))) e)
