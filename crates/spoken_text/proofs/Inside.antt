-- The first text inside a line, by what a search finds for the first line that is a text or no deeper.
use mathlib.Core.Path.{◌≡◌, refl, sym, ◌∙◌}
use mathlib.Core.Bool.{Bool, true, false, not, cond, ◌||◌}
use mathlib.Core.List.{List, [], ◌∷◌}
use Prim.Native.Nat.{ℕ, zero, suc, ◌+◌, ◌-◌, ◌≤◌, ◌<◌}
use native.Mathlib.Omega.{arith}
use lib.Dec.{leb, eqb}
use lib.ListN.{length, get_or, drop, length-drop}
use borrow.Author.Tests.{ltb-false}
use Rattle.std.specs.Prelude.{Option, Some, None, nat_lt}
use Rattle.std.specs.List.{position, position_or_len}
use Rattle.std.proofs.lemmas.List.Quantifiers.{position-Some}
use Rattle.kinds.specs.Kinds.{kind_number, text_kind}
use Rattle.records.specs.NodeRecord.{no_node}
use Rattle.records.specs.declared.NodeRecord.{NodeRecord}
use Rattle.sheet.proofs.First.{neither}
use Rattle.spoken_text.specs.Text.{first_text, text_inside}
use Rattle.spoken_text.specs.inner.Places.{stops}

-- it stops at no line before place i
abbrev pub NoneBefore : ℕ → List NodeRecord → ℕ → Type 0
NoneBefore d ls i = (j : ℕ) → j < i → stops d (get_or ls j no_node) ≡ false

module _ (d : ℕ) where
  -- a line at which it does not stop is passed
  passed : (k : ℕ) (l : NodeRecord) (ls : List NodeRecord) → stops d l ≡ false → first_text d k (l ∷ ls) ≡ first_text d (suc k) ls
  unfolding first_text stops
  passed k l ls e = let (a, b) = neither (leb l.depth d) (eqb (kind_number l.kind) text_kind) e in rw (a, b)

  here : (a b : Bool) (k : ℕ) (rest : Option ℕ) → (a || b) ≡ true → cond a None (cond b (Some k) rest) ≡ cond a None (Some (k + 0))
  here true b k rest e = refl
  here false true k rest e = let z : k + 0 ≡ k = omega arith in rw z
  here false false k rest e = let z : ◌≡◌ {A = ℕ} 0 1 = cc in absurd (omega arith)

  pub text_found : (k : ℕ) (ls : List NodeRecord) (i : ℕ) → i < length ls → stops d (get_or ls i no_node) ≡ true → NoneBefore d ls i
      → first_text d k ls ≡ cond (leb (get_or ls i no_node).depth d) None (Some (k + i))
  unfolding first_text stops
  text_found k [] i h t f = absurd (omega arith)
  text_found k (l ∷ ls) zero h t f = here (leb l.depth d) (eqb (kind_number l.kind) text_kind) k (first_text d (suc k) ls) t
  text_found k (l ∷ ls) (suc i) h t f =
      let z : k + suc i ≡ suc k + i = omega arith in
      rw z (passed k l ls (f 0 (omega arith)) ∙ text_found (suc k) ls i (omega arith) t (λ j g. f (suc j) (omega arith)))

  pub text_nowhere : (k : ℕ) (ls : List NodeRecord) → length ls ≤ position_or_len (stops d) ls → first_text d k ls ≡ None
  unfolding first_text
  text_nowhere k [] h = refl
  text_nowhere k (l ∷ ls) h = go (stops d l) refl h (λ g. text_nowhere (suc k) ls g)
    where
      go : (b : Bool) → stops d l ≡ b → suc (length ls) ≤ cond (not b) (1 + position_or_len (stops d) ls) 0
          → (length ls ≤ position_or_len (stops d) ls → first_text d (suc k) ls ≡ None) → first_text d k (l ∷ ls) ≡ None
      go true e g f = absurd (omega arith)
      go false e g f = passed k l ls e ∙ f (omega arith)

-- a search that finds none has passed all
none_past : (n m : ℕ) → ◌≡◌ {A = Option ℕ} (cond (nat_lt n m) (Some n) None) None → m ≤ n
none_past n m e = go (nat_lt n m) refl e
  where
    go : (b : Bool) → nat_lt n m ≡ b → ◌≡◌ {A = Option ℕ} (cond b (Some n) None) None → m ≤ n
    go true p q = let z : ◌≡◌ {A = ℕ} 0 1 = cc in absurd (omega arith)
    go false p q = ltb-false n m p

module _ (ks : List NodeRecord) (c : ℕ) {d : ℕ} (e : d ≡ (get_or ks (c - 1) no_node).depth) {ls : List NodeRecord} (r : ls ≡ drop c ks) where
  pub inside_none : position (stops d) ls ≡ None → None ≡ text_inside ks c
  inside_none h = rw (← e, ← r) (sym (text_nowhere d (suc c) ls (none_past (position_or_len (stops d) ls) (length ls) h)))

  pub inside_some : (i : ℕ) → position (stops d) ls ≡ Some i → cond (leb (get_or ls i no_node).depth d) None (Some (c + i + 1)) ≡ text_inside ks c
  inside_some i h =
      let (a, b, f) = position-Some (stops d) ls i no_node h in
      let n : c + i + 1 ≡ suc c + i = omega arith in
      rw (n, ← e, ← r) (sym (text_found d (suc c) ls i a b f))

-- a text that is found is a line inside
text_within : (d k : ℕ) (ls : List NodeRecord) (m : ℕ) → first_text d k ls ≡ Some m → (k ≤ m) × (m < k + length ls)
unfolding first_text
text_within d k [] m e = let z : ◌≡◌ {A = ℕ} 0 1 = cc in absurd (omega arith)
text_within d k (l ∷ ls) m e = go (leb l.depth d) (eqb (kind_number l.kind) text_kind) e (λ g. text_within d (suc k) ls m g)
  where
    go : (a b : Bool) → cond a None (cond b (Some k) (first_text d (suc k) ls)) ≡ Some m
        → (first_text d (suc k) ls ≡ Some m → (suc k ≤ m) × (m < suc k + length ls)) → (k ≤ m) × (m < k + suc (length ls))
    go true b p f = let z : ◌≡◌ {A = ℕ} 0 1 = cc in absurd (omega arith)
    go false true p f = let z : k ≡ m = cc in (omega arith, omega arith)
    go false false p f = let q = f p in (omega (arith, q.0), omega (arith, q.1))

pub inside_within : (ks : List NodeRecord) (c k : ℕ) → c ≤ length ks → text_inside ks c ≡ Some k → (1 ≤ k) × (k ≤ length ks)
inside_within ks c k h e =
    let (a, b) = text_within (get_or ks (c - 1) no_node).depth (suc c) (drop c ks) k e in
    (omega arith, omega (arith, b, length-drop c ks))
