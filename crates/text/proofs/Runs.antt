-- Characters and spaces, walked eight at a time: what holds of the walk so far, and that it is the walk of one byte at a time.
use mathlib.Core.Path.{◌≡◌, refl, ◌∙◌}
use mathlib.Core.Bool.{Bool, true, false, cond}
use mathlib.Core.List.{List, [], ◌∷◌, ◌++◌}
use Prim.Native.Nat.{ℕ, zero, suc, ◌+◌, ◌-◌, ◌*◌, ◌≤◌, ◌<◌}
use native.Mathlib.Numerals.{add-one}
use native.Mathlib.Omega.{arith}
use lib.Dec.{leb, eqb}
use lib.ListN.{length, get_or, take, drop, length-drop}
use lib.Seq.{take-add, drop-drop, drop-cons, length-take-le}
use borrow.Author.Tests.{eqb-true, eqb-false, le-leb, lt-leb, leb-true, leb-false}
use Rattle.common.specs.Lists.{All}
use Rattle.common.proofs.All.{all_append}
use Rattle.swar.specs.inner.Plain.{IsPlain, plain_sum, plain_gap, PlainFront}
use Rattle.swar.specs.declared.Plain.{Plain}
use Rattle.text.specs.Bytes.{class_of}
use Rattle.text.specs.inner.Steps.{PlainRunPost, RunToPost}
use Rattle.text.specs.declared.Run.{Run}
use Rattle.text.proofs.Scanning.{Summing, sum_start, sum_turn}

-- ---- of two parts

sum_append : (gap : ℕ) (xs ys : List ℕ) → plain_sum gap (xs ++ ys) ≡ plain_sum gap xs + plain_sum (plain_gap gap xs) ys
unfolding plain_sum plain_gap
sum_append gap [] ys = omega arith
sum_append gap (x ∷ xs) ys = at (eqb x 32) (λ g. sum_append g xs ys)
  where
    at : (b : Bool) → ((g : ℕ) → plain_sum g (xs ++ ys) ≡ plain_sum g xs + plain_sum (plain_gap g xs) ys)
        → cond b (plain_sum 1 (xs ++ ys)) (1 + gap + plain_sum 0 (xs ++ ys))
        ≡ cond b (plain_sum 1 xs) (1 + gap + plain_sum 0 xs) + plain_sum (plain_gap (cond b 1 0) xs) ys
    at true ih = ih 1
    at false ih = omega (arith, ih 0)

gap_append : (gap : ℕ) (xs ys : List ℕ) → plain_gap gap (xs ++ ys) ≡ plain_gap (plain_gap gap xs) ys
unfolding plain_gap
gap_append gap [] ys = refl
gap_append gap (x ∷ xs) ys = gap_append (cond (eqb x 32) 1 0) xs ys

sum_le : (gap : ℕ) (xs : List ℕ) → gap ≤ 1 → plain_sum gap xs ≤ 2 * length xs
unfolding plain_sum
sum_le gap [] h = omega arith
sum_le gap (x ∷ xs) h = at (eqb x 32) (sum_le 1 xs (omega arith)) (sum_le 0 xs (omega arith))
  where
    at : (b : Bool) → plain_sum 1 xs ≤ 2 * length xs → plain_sum 0 xs ≤ 2 * length xs → cond b (plain_sum 1 xs) (1 + gap + plain_sum 0 xs) ≤ 2 * suc (length xs)
    at true p q = omega arith
    at false p q = omega arith

-- ---- the walk by eights

pub record Running (text : List ℕ) (from sum gap i : ℕ) : Type 0 where
  pub later : from ≤ i
  pub inside : i ≤ length text
  pub one : gap ≤ 1
  pub plain : All IsPlain (take (i - from) (drop from text))
  pub sum_is : sum ≡ plain_sum 0 (take (i - from) (drop from text))
  pub gap_is : gap ≡ plain_gap 0 (take (i - from) (drop from text))

pub run_start : (text : List ℕ) (from : ℕ) → from ≤ length text → Running text from 0 0 from
unfolding All plain_sum plain_gap
run_start text from h =
    let e : from - from ≡ 0 = omega arith in
    record { later = omega arith; inside = h; one = omega arith; plain = rw e tt; sum_is = rw e; gap_is = rw e }

module _ {text : List ℕ} {from sum gap i : ℕ} (z : Running text from sum gap i) where
  pub run_small : sum ≤ 2 * length text
  run_small =
      let t = take (i - from) (drop from text) in
      omega (arith, z.sum_is, sum_le 0 t (omega arith), length-take-le (i - from) (drop from text) (omega (arith, length-drop from text, z.inside)), length-drop from text, z.inside)

  pub run_end : PlainRunPost text from (record { sum = sum; gap = gap; end = i })
  run_end = record { later = z.later; inside = z.inside; plain = z.plain; sum = z.sum_is; gap = z.gap_is }

  pub run_turn : (p : Plain) → PlainFront (drop i text) gap p → Running text from (sum + p.size) p.gap (i + p.count)
  run_turn p w =
      let m = i - from in
      let far : i + p.count - from ≡ m + p.count = omega (arith, z.later) in
      let there : from + m ≡ i = omega (arith, z.later) in
      let cut : take (i + p.count - from) (drop from text) ≡ take m (drop from text) ++ take p.count (drop i text) =
      rw far (take-add m p.count (drop from text) ∙ rw (drop-drop m from text, there)) in
      record {
        later = omega (arith, z.later);
        inside = omega (arith, w.inside, length-drop i text, z.inside);
        one = w.one;
        plain = rw cut (all_append IsPlain _ _ z.plain w.plain);
        sum_is = rw (cut, sum_append 0 (take m (drop from text)) (take p.count (drop i text)), ← z.sum_is, ← z.gap_is, ← w.size);
        gap_is = rw (cut, gap_append 0 (take m (drop from text)) (take p.count (drop i text)), ← z.gap_is, ← w.last);
      }

-- ---- the walk of one byte at a time

class_of_lem : (b : ℕ) → IsPlain b → class_of b ≡ cond (eqb b 32) 3 1
unfolding class_of
class_of_lem b p = go (eqb b 32) refl
  where
    go : (t : Bool) → eqb b 32 ≡ t → class_of b ≡ cond t 3 1
    go true e = rw (eqb-true b 32 e)
    go false e =
        let h : b ≡ 32 → ⊥ = eqb-false b 32 e in
        let w : 33 ≤ b = omega (arith, p.least) in
        rw (lt-leb b 13 (omega arith), e, le-leb 9 b (omega arith), le-leb 33 b w, le-leb b 126 p.most)

-- one byte
module _ {stop : ℕ} {t : List ℕ} {from sum gap i : ℕ} (s : Summing stop t from sum gap i) (h : i < length t) (p : IsPlain (get_or t i 0))
    (n : get_or t i 0 ≡ stop → ⊥) where
  plain_turn : (b : Bool) → eqb (get_or t i 0) 32 ≡ b → Summing stop t from (sum + cond b 0 (1 + gap)) (cond b 1 0) (i + 1)
  plain_turn true e =
      let c : class_of (get_or t i 0) ≡ 3 = class_of_lem (get_or t i 0) p ∙ rw e in
      let z = sum_turn s h n (omega arith) 1 (omega arith) in
      let q : sum + (1 - 1) * (class_of (get_or t i 0) + gap) ≡ sum + 0 = omega arith in
      rw q at z
  plain_turn false e =
      let c : class_of (get_or t i 0) ≡ 1 = class_of_lem (get_or t i 0) p ∙ rw e in
      let z = sum_turn s h n (omega arith) 0 (omega arith) in
      let q : sum + (1 - 0) * (class_of (get_or t i 0) + gap) ≡ sum + (1 + gap) = omega arith in
      rw q at z

-- and all of a run
summed : {stop : ℕ} {t : List ℕ} {from : ℕ} (k sum gap i : ℕ) → i + k ≤ length t → All IsPlain (take k (drop i t)) → (IsPlain stop → ⊥)
    → Summing stop t from sum gap i → Summing stop t from (sum + plain_sum gap (take k (drop i t))) (plain_gap gap (take k (drop i t))) (i + k)
unfolding All plain_sum plain_gap
summed zero sum gap i h a n s =
    let p : sum + 0 ≡ sum = omega arith in
    let q : i + 0 ≡ i = omega arith in
    rw (p, q) s
summed {stop} {t} {from} (suc k) sum gap i h a n s =
    let here : drop i t ≡ get_or t i 0 ∷ drop (i + 1) t = drop-cons t i 0 (omega arith) ∙ rw (add-one i) in
    let (p, more) = rw here at a in
    rw here
    (go (eqb (get_or t i 0) 32) refl (λ b e. plain_turn s (omega arith) p (λ q. n (rw q at p)) b e)
    (λ sum' gap' s'. summed k sum' gap' (i + 1) (omega arith) more n s'))
  where
    rest : List ℕ
    rest = take k (drop (i + 1) t)

    next : i + 1 + k ≡ i + suc k
    next = omega arith

    go : (b : Bool) → eqb (get_or t i 0) 32 ≡ b
        → ((b : Bool) → eqb (get_or t i 0) 32 ≡ b → Summing stop t from (sum + cond b 0 (1 + gap)) (cond b 1 0) (i + 1))
        → ((sum' gap' : ℕ) → Summing stop t from sum' gap' (i + 1) → Summing stop t from (sum' + plain_sum gap' rest) (plain_gap gap' rest) (i + 1 + k))
        → Summing stop t from (sum + cond b (plain_sum 1 rest) (1 + gap + plain_sum 0 rest)) (plain_gap (cond b 1 0) rest) (i + suc k)
    go true e turn on =
        let z = on (sum + 0) 1 (turn true e) in
        let q : sum + 0 + plain_sum 1 rest ≡ sum + plain_sum 1 rest = omega arith in
        rw (q, next) at z
    go false e turn on =
        let z = on (sum + (1 + gap)) 0 (turn false e) in
        let q : sum + (1 + gap) + plain_sum 0 rest ≡ sum + (1 + gap + plain_sum 0 rest) = omega arith in
        rw (q, next) at z

-- so the byte loop goes on from where the run ends
pub run_summing : {stop : ℕ} {t : List ℕ} {from : ℕ} (r : Run) → RunToPost stop t from r → Dec (IsPlain stop) → Summing stop t from r.sum r.gap r.end
unfolding All plain_sum plain_gap
run_summing {stop} {t} {from} r w (yes p) =
    let e = w.kept p in
    let none : r.end - from ≡ 0 = omega arith in
    rw (rw none at w.run.sum, rw none at w.run.gap, e) (sum_start stop t from (omega (arith, w.run.inside)))
run_summing {stop} {t} {from} r w (no p) =
    let k = r.end - from in
    let there : from + k ≡ r.end = omega (arith, w.run.later) in
    let z = summed k 0 0 from (omega (arith, w.run.inside, w.run.later)) w.run.plain p (sum_start stop t from (omega (arith, w.run.inside, w.run.later))) in
    let none : 0 + plain_sum 0 (take k (drop from t)) ≡ plain_sum 0 (take k (drop from t)) = omega arith in
    rw (w.run.sum, w.run.gap) (rw (none, there) at z)

pub is_plain : (b : ℕ) → Dec (IsPlain b)
is_plain b = go (leb 32 b) (leb b 126) refl refl
  where
    go : (x y : Bool) → leb 32 b ≡ x → leb b 126 ≡ y → Dec (IsPlain b)
    go true true p q = yes (record { least = leb-true 32 b p; most = leb-true b 126 q })
    go false y p q = no (λ w. omega (arith, leb-false 32 b p, w.least))
    go true false p q = no (λ w. omega (arith, leb-false b 126 q, w.most))
