-- A text that reads as a tree has that tree's result.
use mathlib.Core.Bool.{Bool, true, false, cond}
use mathlib.Core.Path.{◌≡◌, refl, sym, ap, ◌∙◌}
use Rattle.std.specs.Prelude.{Some}
use mathlib.Core.List.{List, [], ◌∷◌, ◌++◌, append_assoc, append-nil}
use Prim.Native.Nat.{ℕ, suc, ◌+◌, ◌*◌, ◌-◌, ◌≤◌, ◌<◌}
use native.Mathlib.Omega.{arith}
use lib.ListN.{length}
use borrow.Author.Tests.{lt-ltb}
use Rattle.expression.specs.declared.Op.{Op}
use Rattle.expression.specs.Tree.{Tree, number, node}
use Rattle.expression.specs.Grammar.{digit, all_digits, decimal_from, Numeral, Loose, plus, minus, Tight, times, over, sign, Level, factor, term, expr, Reads, digits, bracket, one_factor, product, one_term, sum, ReadsAs}
use Rattle.expression.specs.Machine.{Kit, Waiting, waiting, fresh, Place, wrong, want, within, have, State, state, total, wanted, operator, inner, opened, closed, step, finish, run, start}
use Rattle.expression.proofs.Bytes.{and_left, and_right, not_opening, not_closing, next}

-- what a tree's result is by a kit
pub record Meaning {A : Type 0} (k : Kit A) : Type 0 where
  pub of : Tree → A
  pub of_number : (n : ℕ) → of (number n) ≡ k.lit n
  pub of_node : (o : Op) (a b : Tree) → of (node o a b) ≡ k.join o (of a) (of b)

module _ {A : Type 0} (k : Kit A) (m : Meaning k) where
  -- a number ends where no digit follows
  settled : (n v : ℕ) (f : Waiting A) (fs : List (Waiting A)) (rest : List ℕ) → next rest ≡ false → run k (state (within n v f) fs) rest ≡ run k (state (have f.sum (f.product (k.lit v))) fs) rest
  unfolding run step next opened wanted total inner
  settled n v f fs [] e = refl
  settled n v f fs (c ∷ cs) e = rw e refl

  step_digit : (p : Place A) (fs : List (Waiting A)) (c : ℕ) → digit c ≡ true → step k (state p fs) c ≡ state (inner k c p) fs
  unfolding step
  step_digit p fs c d = rw (not_opening c d, not_closing c d)

  more_digit : (n v : ℕ) (f : Waiting A) (c : ℕ) → digit c ≡ true → n < 9 → inner k c (within n v f) ≡ within (n + 1) (10 * v + (c - 48)) f
  unfolding inner
  more_digit n v f c d h = rw (d, lt-ltb n 9 h)

  -- a digit in a number, and a digit that begins one
  turned : (n v : ℕ) (f : Waiting A) (fs : List (Waiting A)) (c : ℕ) → digit c ≡ true → n < 9 → step k (state (within n v f) fs) c ≡ state (within (n + 1) (10 * v + (c - 48)) f) fs
  unfolding inner
  turned n v f fs c d h = step_digit (within n v f) fs c d ∙ rw (d, lt-ltb n 9 h)

  begun : (f : Waiting A) (fs : List (Waiting A)) (c : ℕ) → digit c ≡ true → step k (state (want f) fs) c ≡ state (within 1 (c - 48) f) fs
  unfolding inner
  begun f fs c d = step_digit (want f) fs c d ∙ rw d

  more : (w : List ℕ) (n v : ℕ) (f : Waiting A) (fs : List (Waiting A)) (rest : List ℕ) → all_digits w ≡ true → n + length w ≤ 9 → next rest ≡ false → run k (state (within n v f) fs) (w ++ rest) ≡ run k (state (have f.sum (f.product (k.lit (decimal_from v w)))) fs) rest
  unfolding run all_digits decimal_from
  more [] n v f fs rest d h e = settled n v f fs rest e
  more (c ∷ w) n v f fs rest d h e =
      ap (λ (s : State A). run k s (w ++ rest)) (turned n v f fs c (and_left (digit c) (all_digits w) d) (omega arith))
      ∙ more w (n + 1) (10 * v + (c - 48)) f fs rest (and_right (digit c) (all_digits w) d) (omega arith) e

  Goal : Level → ℕ → List ℕ → Tree → Type 0
  Goal factor d w t =
      (f : Waiting A) (fs : List (Waiting A)) (rest : List ℕ) → length fs + d ≤ 32 → next rest ≡ false → run k (state (want f) fs) (w ++ rest) ≡ run k (state (have f.sum (f.product (m.of t))) fs) rest
  Goal term d w t =
      (s : A → A) (fs : List (Waiting A)) (rest : List ℕ) → length fs + d ≤ 32 → next rest ≡ false → run k (state (want (waiting s (λ x. x))) fs) (w ++ rest) ≡ run k (state (have s (m.of t)) fs) rest
  Goal expr d w t =
      (fs : List (Waiting A)) (rest : List ℕ) → length fs + d ≤ 32 → next rest ≡ false → (s : A → A) × (p : A) × (s p ≡ m.of t) × (run k (state (want fresh) fs) (w ++ rest) ≡ run k (state (have s p) fs) rest)

  numeral : (d : ℕ) (w : List ℕ) → Numeral w → Goal factor d w (number (decimal_from 0 w))
  unfolding Goal run all_digits decimal_from
  numeral d [] h f fs rest capacity e = absurd (omega (arith, h.some_digit))
  numeral d (c ∷ w) h f fs rest capacity e =
      let z : c - 48 ≡ 10 * 0 + (c - 48) = omega arith in
      ap (λ (s : State A). run k s (w ++ rest)) (begun f fs c (and_left (digit c) (all_digits w) h.digits))
      ∙ more w 1 (c - 48) f fs rest (and_right (digit c) (all_digits w) h.digits) (omega (arith, h.at_most_nine)) e
      ∙ ap (λ (x : A). run k (state (have f.sum (f.product x)) fs) rest) (sym (m.of_number (decimal_from (c - 48) w)))
      ∙ ap (λ (n : ℕ). run k (state (have f.sum (f.product (m.of (number (decimal_from n w))))) fs) rest) z

  -- an operator of either kind after a factor
  tight : {o : Op} → Tight o → (s : A → A) (x : A) (fs : List (Waiting A)) (cs : List ℕ) → run k (state (have s x) fs) (sign o ∷ cs) ≡ run k (state (want (waiting s (k.join o x))) fs) cs
  unfolding run step inner operator
  tight times s x fs cs = refl
  tight over s x fs cs = refl

  loose : {o : Op} → Loose o → (s : A → A) (x : A) (fs : List (Waiting A)) (cs : List ℕ) → run k (state (have s x) fs) (sign o ∷ cs) ≡ run k (state (want (waiting (k.join o (s x)) (λ y. y))) fs) cs
  unfolding run step inner operator
  loose plus s x fs cs = refl
  loose minus s x fs cs = refl

  no_digit_loose : {o : Op} → Loose o → (cs : List ℕ) → next (sign o ∷ cs) ≡ false
  unfolding next digit
  no_digit_loose plus cs = refl
  no_digit_loose minus cs = refl

  no_digit_tight : {o : Op} → Tight o → (cs : List ℕ) → next (sign o ∷ cs) ≡ false
  unfolding next digit
  no_digit_tight times cs = refl
  no_digit_tight over cs = refl

  no_digit_close : (cs : List ℕ) → next (41 ∷ cs) ≡ false
  unfolding next digit
  no_digit_close cs = refl

  open_step : (f : Waiting A) (fs : List (Waiting A)) (cs : List ℕ) → length fs < 32 → run k (state (want f) fs) (40 ∷ cs) ≡ run k (state (want fresh) (f ∷ fs)) cs
  unfolding run step opened wanted
  open_step f fs cs h = ap (λ (b : Bool). run k (cond b (state (want fresh) (f ∷ fs)) (state wrong fs)) cs) (lt-ltb (length fs) 32 h)

  close_step : (s : A → A) (x : A) (f : Waiting A) (fs : List (Waiting A)) (cs : List ℕ) → run k (state (have s x) (f ∷ fs)) (41 ∷ cs) ≡ run k (state (have f.sum (f.product (s x))) fs) cs
  unfolding run step closed total
  close_step s x f fs cs = refl

  bracketed : (d : ℕ) (w : List ℕ) (t : Tree) → Goal expr d w t → Goal factor (suc d) (40 ∷ (w ++ (41 ∷ []))) t
  unfolding Goal
  bracketed d w t ih f fs rest capacity e =
      let q = ih (f ∷ fs) (41 ∷ rest) (omega arith) (no_digit_close rest) in
      rw append_assoc
      (open_step f fs (w ++ (41 ∷ rest)) (omega arith)
      ∙ q.3
      ∙ close_step q.0 q.1 f fs rest
      ∙ ap (λ (x : A). run k (state (have f.sum (f.product x)) fs) rest) q.2)

  multiplied : {o : Op} (d : ℕ) (v w : List ℕ) (a b : Tree) → Tight o → Goal term d v a → Goal factor d w b → Goal term d (v ++ (sign o ∷ w)) (node o a b)
  unfolding Goal
  multiplied {o} d v w a b i r q s fs rest capacity e =
      rw append_assoc
      (r s fs (sign o ∷ (w ++ rest)) capacity (no_digit_tight i (w ++ rest))
      ∙ tight i s (m.of a) fs (w ++ rest)
      ∙ q (waiting s (k.join o (m.of a))) fs rest capacity e
      ∙ ap (λ (x : A). run k (state (have s x) fs) rest) (sym (m.of_node o a b)))

  added : {o : Op} (d : ℕ) (v w : List ℕ) (a b : Tree) → Loose o → Goal expr d v a → Goal term d w b → Goal expr d (v ++ (sign o ∷ w)) (node o a b)
  unfolding Goal
  added {o} d v w a b i r q fs rest capacity e =
      let h = r fs (sign o ∷ (w ++ rest)) capacity (no_digit_loose i (w ++ rest)) in (
        k.join o (h.0 h.1),
        m.of b,
        ap (λ (x : A). k.join o x (m.of b)) h.2 ∙ sym (m.of_node o a b),
        rw append_assoc
            (h.3
            ∙ loose i h.0 h.1 fs (w ++ rest)
            ∙ q (k.join o (h.0 h.1)) fs rest capacity e),
      )

  reads : {l : Level} {d : ℕ} {w : List ℕ} {t : Tree} → Reads l d w t → Goal l d w t
  unfolding Goal
  reads (digits {d} {w} h) = numeral d w h
  reads (bracket {d} {w} {t} r) = bracketed d w t (reads r)
  reads (one_factor {d} {w} {t} r) = λ s. reads r (waiting s (λ x. x))
  reads (product {o} {d} {v} {w} {a} {b} i r q) = multiplied d v w a b i (reads r) (reads q)
  reads (one_term {d} {w} {t} r) = λ fs rest capacity e. ((λ x. x), m.of t, refl, reads r (λ x. x) fs rest capacity e)
  reads (sum {o} {d} {v} {w} {a} {b} i r q) = added d v w a b i (reads r) (reads q)

  pub complete : (w : List ℕ) (t : Tree) → ReadsAs w t → run k start w ≡ Some (m.of t)
  unfolding Goal run total finish next
  complete w t r =
      let h = reads r [] [] (omega arith) refl in
      ap (λ (l : List ℕ). run k start l) (sym (append-nil w)) ∙ h.3 ∙ ap (λ (x : A). Some x) h.2
