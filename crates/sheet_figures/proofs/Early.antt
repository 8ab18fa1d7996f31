-- The verdict on the arguments, asked before the sheet: the call's answer is the same, and where none is refused the buffers are long
-- enough. Each by the cases of the tests.
use Rattle.common.specs.declared.Reason.TheVariants.{Setting, ShortBuffer}
use Rattle.common.specs.declared.Refusal.{Refusal}
use Rattle.std.specs.Prelude.{Err, Ok, Result}
use mathlib.Core.Path.{◌≡◌, refl, ap, ap₂, ◌∙◌}
use mathlib.Core.Bool.{Bool, true, false, cond}
use mathlib.Core.List.{List, [], ◌∷◌, ◌++◌}
use Prim.Native.Nat.{ℕ, ◌≤◌}
use native.Mathlib.Omega.{arith}
use lib.ListN.{length, take}
use Rattle.common.specs.Lists.{padded}
use Rattle.common.specs.Refusals.{Check, check, first_answer, verdict_of}
use Rattle.sheet_figures.specs.inner.Early.{early}

-- 9 and 11
abbrev pub nines : Bool → Bool → List Check
nines b₁ b₂ = check b₁ Setting 0 ∷ check b₂ ShortBuffer 0 ∷ []

module _ {A : Type 0} (refused : Refusal → A) (accepted : A) (ds : List Check) where
  first_early : (cs : List Check) → first_answer refused accepted (early (verdict_of cs) ∷ ds) ≡ first_answer refused accepted (cs ++ ds)
  unfolding first_answer verdict_of early
  first_early [] = refl
  first_early (c ∷ cs) = at c.applies (first_early cs)
    where
      at : (b : Bool) → first_answer refused accepted (early (verdict_of cs) ∷ ds) ≡ first_answer refused accepted (cs ++ ds)
          → first_answer refused accepted (early (cond b (Err c.refusal) (verdict_of cs)) ∷ ds) ≡ cond b (refused c.refusal) (first_answer refused accepted (cs ++ ds))
      at true e = refl
      at false e = e

-- a verdict that was asked for before the rest
module _ {A : Type 0} (refused : Refusal → A) (accepted : A) (v : Result (Unit {0}) Refusal) (ds : List Check) where
  pub early_checks : (cs : List Check) → v ≡ verdict_of cs → first_answer refused accepted (early v ∷ ds) ≡ first_answer refused accepted (cs ++ ds)
  early_checks cs judged = ap (λ (w : Result (Unit {0}) Refusal). first_answer refused accepted (early w ∷ ds)) judged ∙ first_early refused accepted ds cs

  pub early_nines : (b₁ b₂ : Bool) → v ≡ verdict_of (nines b₁ b₂) → first_answer refused accepted (early v ∷ ds) ≡ first_answer refused accepted (check b₁ Setting 0 ∷ check b₂ ShortBuffer 0 ∷ ds)
  early_nines b₁ b₂ judged = early_checks (nines b₁ b₂) judged

  pub early_eleven : (b : Bool) → v ≡ verdict_of (check b ShortBuffer 0 ∷ []) → first_answer refused accepted (early v ∷ ds) ≡ first_answer refused accepted (check b ShortBuffer 0 ∷ ds)
  early_eleven b judged = early_checks (check b ShortBuffer 0 ∷ []) judged

-- no refusal: no test holds
pub none_first : (c : Check) (cs : List Check) → verdict_of (c ∷ cs) ≡ (Ok tt) → (c.applies ≡ false) × (verdict_of cs ≡ (Ok tt))
unfolding first_answer verdict_of
none_first c cs e = at c.applies e
  where
    at : (b : Bool) → cond b (Err c.refusal) (verdict_of cs) ≡ (Ok tt) → (b ≡ false) × (verdict_of cs ≡ (Ok tt))
    at true e = let z : ◌≡◌ {A = ℕ} 0 1 = cc in absurd (omega arith)
    at false e = (refl, e)

pub none_nines : (b₁ b₂ : Bool) → verdict_of (nines b₁ b₂) ≡ (Ok tt) → (b₁ ≡ false) × (b₂ ≡ false)
none_nines b₁ b₂ e =
    let (p, q) = none_first _ _ e in
    (p, (none_first _ _ q).0)

pub none_eleven : (b : Bool) → verdict_of (check b ShortBuffer 0 ∷ []) ≡ (Ok tt) → b ≡ false
none_eleven b e = (none_first _ _ e).0

-- a refused call has no figures; one that is not refused for its arguments has room for them
pub fits : {A : Type 0} (refused : Refusal → A) (accepted : A) (count : A → ℕ) → ((why : Refusal) → count (refused why) ≡ 0)
    → (v : Result (Unit {0}) Refusal) (ds : List Check) (r : A) (most capacity : ℕ) → r ≡ first_answer refused accepted (early v ∷ ds) → count r ≤ most
    → (v ≡ (Ok tt) → most ≤ capacity) → count r ≤ capacity
unfolding first_answer early
fits refused accepted count none (Ok tt) ds r most capacity e h f = omega (arith, f refl)
fits refused accepted count none (Err why) ds r most capacity e h f = let z : count r ≡ 0 = ap count e ∙ none why in omega arith

-- what a lent buffer holds in the end, of which the first places were kept
pub leaving : (o slice : List ℕ) {n m : ℕ} {found left after : List ℕ} → found ≡ left → n ≡ m → length slice ≡ length o
    → after ≡ padded (length slice) (take n slice) → take m slice ≡ found → after ≡ padded (length o) left
leaving o slice p q same w v = w ∙ ap₂ padded same (ap (λ (k : ℕ). take k slice) q ∙ v ∙ p)
