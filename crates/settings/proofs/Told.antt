-- What a setting that was read tells of the definition: its number and what follows it, and that this lies in the input.
use mathlib.Core.Path.{◌≡◌, refl, ap, subst, ◌∙◌}
use mathlib.Core.Bool.{Bool, true, false, cond}
use mathlib.Core.List.{List}
use Prim.Native.Nat.{ℕ, suc, ◌+◌, ◌-◌, ◌≤◌, ◌<◌}
use native.Mathlib.Omega.{arith}
use lib.Dec.{ltb}
use lib.ListN.{length, take, drop, length-drop}
use lib.Seq.{drop-drop}
use Rattle.std.proofs.lemmas.List.{length-take-le}
use borrow.Author.Tests.{ltb-true}
use Rattle.std.specs.Prelude.{Option, Some, None}
use Rattle.std.specs.Option.{option_map, option_and_then}
use Rattle.fields.specs.Numbers.{Numeral, numeral, unwritten, number_of, up_to, magnitude}
use Rattle.fields.specs.Blanks.{front_to}
use Rattle.fields.specs.inner.Reading.{FieldRead, written_in, written_at, ended_at}
use Rattle.fields.specs.declared.Scanned.{Scanned}
use Rattle.settings.specs.Settings.{part, unstopped, with_part, with_numeral, then_setting, Settled, malformed}
use Rattle.settings.proofs.Stops.{count_before, until_cut}

-- what follows a setting that was read at a place
abbrev after : List ℕ → FieldRead ℕ → (ℕ → List ℕ → Settled) → Settled
after s (Some r) f = f r.value (drop r.next s)
after s None f = malformed

module _ (most : ℕ) (s : List ℕ) (f : ℕ → List ℕ → Settled) where
  numeral_after : (x : Numeral) (next : ℕ) → with_numeral x most (λ n. f n (drop next s)) ≡ after s (ended_at next (written_in most x)) f
  numeral_after unwritten next = refl
  numeral_after (numeral n) next = go (up_to most n)
    where
      go : (t : Bool) → cond t (f (magnitude n) (drop next s)) malformed ≡ after s (ended_at next (cond t (Some (magnitude n)) None)) f
      go true = refl
      go false = refl

  setting_after : (stop at : ℕ) → then_setting stop most (drop at s) f ≡ after s (written_at stop most at (drop at s)) f
  unfolding then_setting written_at front_to
  setting_after stop at = rw (until_cut stop (drop at s)) (go (ltb n (length (drop at s))) refl)
    where
      n : ℕ
      n = count_before stop (drop at s)

      place : drop (suc n) (drop at s) ≡ drop (at + n + 1) s
      place = let e : at + suc n ≡ at + n + 1 = omega arith in drop-drop (suc n) at s ∙ rw e

      go : (t : Bool) → ltb n (length (drop at s)) ≡ t
          → with_part (cond t (part (take n (drop at s)) (drop (suc n) (drop at s))) unstopped) (λ b r. with_numeral (number_of b) most (λ v. f v r))
          ≡ after s
          (option_and_then (λ f. ended_at (at + length f + 1) (written_in most (number_of f)))
          (option_map (λ (k : ℕ). take k (drop at s)) (cond t (Some n) None))) f
      go true e =
          let h : n ≤ length (drop at s) = omega (arith, ltb-true n (length (drop at s)) e) in
          rw (length-take-le n (drop at s) h, place) (numeral_after (number_of (take n (drop at s))) (at + n + 1))
      go false e = refl

module _ (stop most at : ℕ) (s : List ℕ) where
  abbrev found : FieldRead ℕ
  found = written_at stop most at (drop at s)

  pub setting_told : {r : Scanned ℕ} → found ≡ Some r → (f : ℕ → List ℕ → Settled) → then_setting stop most (drop at s) f ≡ f r.value (drop r.next s)
  setting_told e f = setting_after most s f stop at ∙ ap (λ (r : FieldRead ℕ). after s r f) e

  pub setting_none : found ≡ None → (f : ℕ → List ℕ → Settled) → then_setting stop most (drop at s) f ≡ malformed
  setting_none e f = setting_after most s f stop at ∙ ap (λ (r : FieldRead ℕ). after s r f) e

  abbrev Ends : FieldRead ℕ → Type 0
  Ends (Some r) = r.next ≤ length s
  Ends None = Unit {0}

  ends : Ends found
  unfolding written_at front_to
  ends = go (ltb n (length (drop at s))) refl
    where
      n : ℕ
      n = count_before stop (drop at s)

      ended : (x : Option ℕ) → at + n + 1 ≤ length s → Ends (ended_at (at + n + 1) x)
      ended (Some v) h = h
      ended None h = tt

      go : (t : Bool) → ltb n (length (drop at s)) ≡ t
          → Ends (option_and_then (λ f. ended_at (at + length f + 1) (written_in most (number_of f)))
          (option_map (λ (k : ℕ). take k (drop at s)) (cond t (Some n) None)))
      go true e =
          let h : n < length (drop at s) = ltb-true n (length (drop at s)) e in
          rw (length-take-le n (drop at s) (omega (arith, h)))
          (ended (written_in most (number_of (take n (drop at s)))) (omega (arith, h, length-drop at s)))
      go false e = tt

  -- the place after a setting, counted from the end of the input
  pub setting_place : {r : Scanned ℕ} → found ≡ Some r → length s - length (drop r.next s) ≡ r.next
  setting_place {r} e = let h : r.next ≤ length s = subst Ends e ends in omega (arith, length-drop r.next s)
