-- Characters and spaces by their digits: what the digits of the answers say of the bytes.
use mathlib.Core.Path.{◌≡◌, refl, sym, ap, ◌∙◌}
use mathlib.Core.Bool.{Bool, true, false, cond}
use mathlib.Core.List.{List, [], ◌∷◌, map}
use Prim.Native.Nat.{ℕ, zero, suc, ◌+◌, ◌-◌, ◌*◌, ◌/◌, ◌%◌, ◌≤◌, ◌<◌}
use native.Mathlib.Omega.{arith}
use lib.Dec.{eqb}
use lib.ListN.{length, get_or, take, length-map}
use lib.Seq.{take_all}
use borrow.Author.Tests.{eqb-true, eqb-false}
use Rattle.common.specs.Lists.{All}
use Rattle.swar.specs.inner.Digits.{as_number, Octets, Low, Bits, char, odd, after_from, adds_of, first_one, total, CutPost}
use Rattle.swar.specs.inner.Plain.{IsPlain, plain_sum, plain_gap, PlainFront}
use Rattle.swar.specs.declared.Plain.{Plain}
use Rattle.swar.proofs.Lanes.{eight_cases, total_is}

-- ---- the digits are small

pub map_all : (P Q : ℕ → Type 0) (f : ℕ → ℕ) → ((d : ℕ) → P d → Q (f d)) → (ds : List ℕ) → All P ds → All Q (map f ds)
unfolding All
map_all P Q f h [] a = tt
map_all P Q f h (d ∷ ds) (p, a) = (h d p, map_all P Q f h ds a)

pub chars_small : (ds : List ℕ) → Low ds → Bits (map char ds)
chars_small ds w = record { long = length-map ds char ∙ w.long; small = map_all (λ d. d < 128) (λ d. d ≤ 1) char (λ d p. omega arith) ds w.small }

pub odd_small : (ds : List ℕ) → Low ds → Bits (map odd ds)
odd_small ds w = record { long = length-map ds odd ∙ w.long; small = map_all (λ d. d < 128) (λ d. d ≤ 1) odd (λ d p. omega arith) ds w.small }

after_long : (gap : ℕ) (cs : List ℕ) → length (after_from gap cs) ≡ length cs
unfolding after_from
after_long gap [] = refl
after_long gap (c ∷ cs) = ap suc (after_long (1 - c) cs)

after_all : (gap : ℕ) (cs : List ℕ) → gap ≤ 1 → All (λ d. d ≤ 1) (after_from gap cs)
unfolding after_from All
after_all gap [] h = tt
after_all gap (c ∷ cs) h = (h, after_all (1 - c) cs (omega arith))

pub after_small : (gap : ℕ) (cs : List ℕ) → gap ≤ 1 → Bits cs → Bits (after_from gap cs)
after_small gap cs h w = record { long = after_long gap cs ∙ w.long; small = after_all gap cs h }

adds_long : (cs ss : List ℕ) → length cs ≡ length ss → length (adds_of cs ss) ≡ length cs
unfolding adds_of
adds_long [] ss e = refl
adds_long (c ∷ cs) [] e = absurd (omega arith)
adds_long (c ∷ cs) (s ∷ ss) e = ap suc (adds_long cs ss (omega arith))

add_small : (c s : ℕ) → c ≤ 1 → s ≤ 1 → c + c * s ≤ 2
add_small zero s p q = omega arith
add_small (suc zero) s p q = omega arith
add_small (suc (suc c)) s p q = absurd (omega arith)

adds_all : (cs ss : List ℕ) → All (λ d. d ≤ 1) cs → All (λ d. d ≤ 1) ss → All (λ d. d ≤ 2) (adds_of cs ss)
unfolding adds_of All
adds_all [] ss a b = tt
adds_all (c ∷ cs) [] a b = tt
adds_all (c ∷ cs) (s ∷ ss) (p, a) (q, b) = (add_small c s p q, adds_all cs ss a b)

all_weaker : (P Q : ℕ → Type 0) → ((d : ℕ) → P d → Q d) → (ds : List ℕ) → All P ds → All Q ds
unfolding All
all_weaker P Q h [] a = tt
all_weaker P Q h (d ∷ ds) (p, a) = (h d p, all_weaker P Q h ds a)

pub bits_octets : (ds : List ℕ) → Bits ds → Octets ds
bits_octets ds w = record { long = w.long; small = all_weaker (λ d. d ≤ 1) (λ d. d < 256) (λ d p. omega arith) ds w.small }

pub adds_octets : (cs ss : List ℕ) → Bits cs → Bits ss → Octets (adds_of cs ss)
adds_octets cs ss w v =
    record {
      long = adds_long cs ss (w.long ∙ sym v.long) ∙ w.long;
      small = all_weaker (λ d. d ≤ 2) (λ d. d < 256) (λ d p. omega arith) (adds_of cs ss) (adds_all cs ss w.small v.small);
    }

-- what is added is little
total_le : (k : ℕ) (xs : List ℕ) → All (λ d. d ≤ 2) xs → total (take k xs) ≤ 2 * length xs
unfolding All
total_le zero xs a = omega arith
total_le (suc k) [] a = omega arith
total_le (suc k) (x ∷ xs) (p, a) = omega (arith, total_le k xs a)

pub total_small : (k : ℕ) (cs ss : List ℕ) → Bits cs → Bits ss → total (take k (adds_of cs ss)) ≤ 16
total_small k cs ss w v =
    omega (arith, total_le k (adds_of cs ss) (adds_all cs ss w.small v.small), adds_long cs ss (w.long ∙ sym v.long), w.long)

-- ---- up to the first odd byte

cut_plain : (ds : List ℕ) → All (λ d. d < 128) ds → All IsPlain (take (first_one (map odd ds)) ds)
unfolding All first_one
cut_plain [] a = tt
cut_plain (d ∷ ds) (p, a) = at (odd d) refl (cut_plain ds a)
  where
    at : (o : ℕ) → odd d ≡ o → All IsPlain (take (first_one (map odd ds)) ds) → All IsPlain (take (first_one (o ∷ map odd ds)) (d ∷ ds))
    at zero e ih = (record { least = omega arith; most = omega arith }, ih)
    at (suc o) e ih = tt

module _ (d : ℕ) (p : IsPlain d) where
  char_space : d ≡ 32 → char d ≡ 0
  char_space e = omega arith

  char_wide : (d ≡ 32 → ⊥) → char d ≡ 1
  char_wide e = go (eqb d 32) refl
    where
      go : (b : Bool) → eqb d 32 ≡ b → char d ≡ 1
      go true q = absurd (e (eqb-true d 32 q))
      go false q = omega (arith, p.least, p.most)

pub cut_sum : (k gap : ℕ) (ds : List ℕ) → All IsPlain (take k ds) → total (take k (adds_of (map char ds) (after_from gap (map char ds)))) ≡ plain_sum gap (take k ds)
unfolding All adds_of after_from plain_sum
cut_sum zero gap ds a = refl
cut_sum (suc k) gap [] a = refl
cut_sum (suc k) gap (d ∷ ds) (p, a) = at (eqb d 32) refl (λ g. cut_sum k g ds a)
  where
    at : (b : Bool) → eqb d 32 ≡ b
        → ((g : ℕ) → total (take k (adds_of (map char ds) (after_from g (map char ds)))) ≡ plain_sum g (take k ds))
        → (char d + char d * gap) + total (take k (adds_of (map char ds) (after_from (1 - char d) (map char ds))))
        ≡ cond b (plain_sum 1 (take k ds)) (1 + gap + plain_sum 0 (take k ds))
    at true e ih = rw (char_space d p (eqb-true d 32 e)) (omega (arith, ih 1))
    at false e ih = rw (char_wide d p (eqb-false d 32 e)) (omega (arith, ih 0))

pub cut_gap : (k gap : ℕ) (ds : List ℕ) → k < length ds → All IsPlain (take k ds) → get_or (after_from gap (map char ds)) k 0 ≡ plain_gap gap (take k ds)
unfolding All after_from plain_gap
cut_gap k gap [] h a = absurd (omega arith)
cut_gap zero gap (d ∷ ds) h a = refl
cut_gap (suc k) gap (d ∷ ds) h (p, a) = at (eqb d 32) refl (λ g. cut_gap k g ds (omega arith) a)
  where
    at : (b : Bool) → eqb d 32 ≡ b → ((g : ℕ) → get_or (after_from g (map char ds)) k 0 ≡ plain_gap g (take k ds)) → get_or (after_from (1 - char d) (map char ds)) k 0 ≡ plain_gap (cond b 1 0) (take k ds)
    at true e ih = rw (char_space d p (eqb-true d 32 e)) (ih 1)
    at false e ih = rw (char_wide d p (eqb-false d 32 e)) (ih 0)

first_within : (os : List ℕ) → 1 ≤ as_number os → first_one os < length os
unfolding first_one
first_within [] h = absurd (omega arith)
first_within (zero ∷ os) h = omega (arith, first_within os (omega arith))
first_within (suc o ∷ os) h = omega arith

first_all : (os : List ℕ) → as_number os ≡ 0 → first_one os ≡ length os
unfolding first_one
first_all [] h = refl
first_all (zero ∷ os) h = ap suc (first_all os (omega arith))
first_all (suc o ∷ os) h = absurd (omega arith)

gap_small : (gap : ℕ) (bs : List ℕ) → gap ≤ 1 → plain_gap gap bs ≤ 1
unfolding plain_gap
gap_small gap [] h = h
gap_small gap (b ∷ bs) h = gap_small (cond (eqb b 32) 1 0) bs (at (eqb b 32))
  where
    at : (t : Bool) → cond t 1 0 ≤ 1
    at true = omega arith
    at false = omega arith

last_gap : (gap : ℕ) (ds : List ℕ) → length ds ≡ 8 → All IsPlain ds → 1 - as_number (map char ds) / 72057594037927936 ≡ plain_gap gap ds
unfolding All plain_gap
last_gap gap ds n =
    eight_cases (λ (ds : List ℕ). All IsPlain ds → 1 - as_number (map char ds) / 72057594037927936 ≡ plain_gap gap ds)
    (λ a b c d e f g h (p, (q, (r, (s, (t, (u, (v, (w, x)))))))). at a b c d e f g h p q r s t u v w (eqb h 32) refl) ds n
  where
    at : (a b c d e f g h : ℕ) → IsPlain a → IsPlain b → IsPlain c → IsPlain d → IsPlain e → IsPlain f → IsPlain g → IsPlain h → (k : Bool) → eqb h 32 ≡ k
        → 1 - as_number (map char (a ∷ b ∷ c ∷ d ∷ e ∷ f ∷ g ∷ h ∷ [])) / 72057594037927936 ≡ cond k 1 0
    at a b c d e f g h p q r s t u v w true z = let y = char_space h w (eqb-true h 32 z) in omega arith
    at a b c d e f g h p q r s t u v w false z = let y = char_wide h w (eqb-false h 32 z) in omega arith

-- ---- the fronts that the code finds

module _ (ds : List ℕ) (w : Low ds) (gap : ℕ) (one : gap ≤ 1) where
  abbrev cs : List ℕ
  cs = map char ds

  abbrev ss : List ℕ
  ss = after_from gap cs

  abbrev os : List ℕ
  os = map odd ds

  many : length os ≡ 8
  many = length-map ds odd ∙ w.long

  in_255 : (k : ℕ) → as_number (take k (adds_of cs ss)) % 255 ≡ total (take k (adds_of cs ss))
  in_255 k =
      let m = total_small k cs ss (chars_small ds w) (after_small gap cs one (chars_small ds w)) in
      total_is (take k (adds_of cs ss)) ∙ omega arith

  summed : (k : ℕ) → All IsPlain (take k ds) → as_number (take k (adds_of cs ss)) % 255 ≡ plain_sum gap (take k ds)
  summed k a = in_255 k ∙ cut_sum k gap ds a

  summed_small : (k : ℕ) → as_number (take k (adds_of cs ss)) % 255 ≤ 16
  summed_small k = omega (arith, in_255 k, total_small k cs ss (chars_small ds w) (after_small gap cs one (chars_small ds w)))

  pub front_cut : (r : Plain) → 1 ≤ as_number os → CutPost os (adds_of cs ss) ss r.count r.size r.gap → PlainFront ds gap r
  front_cut r h z =
      let k = first_within os h in
      let a = cut_plain ds w.small in
      record {
        inside = omega (arith, z.counted, many, w.long);
        few = omega (arith, z.counted, many);
        plain = rw z.counted a;
        size = rw z.counted (z.sized ∙ summed (first_one os) a);
        last = rw z.counted (z.after ∙ cut_gap (first_one os) gap ds (omega (arith, many, w.long)) a);
        small = omega (arith, z.sized, summed_small (first_one os));
        one = omega (arith, z.after, cut_gap (first_one os) gap ds (omega (arith, many, w.long)) a, gap_small gap (take (first_one os) ds) one);
      }

  pub front_all : (adds chars : ℕ) → as_number os ≡ 0 → adds ≡ as_number (adds_of cs ss) → chars ≡ as_number cs
      → PlainFront ds gap (record { count = 8; size = adds % 255; gap = 1 - chars / 72057594037927936 })
  front_all adds chars h e f =
      let eight : first_one os ≡ 8 = first_all os h ∙ many in
      let a : All IsPlain (take 8 ds) = rw eight at (cut_plain ds w.small) in
      let whole : take 8 ds ≡ ds = take_all 8 ds (omega (arith, w.long)) in
      let xs : take 8 (adds_of cs ss) ≡ adds_of cs ss = take_all 8 (adds_of cs ss) (omega (arith, (adds_octets cs ss (chars_small ds w) (after_small gap cs one (chars_small ds w))).long)) in
      let size : adds % 255 ≡ plain_sum gap (take 8 ds) = rw (e, ← xs) (summed 8 a) in
      let last : 1 - chars / 72057594037927936 ≡ plain_gap gap (take 8 ds) = rw (f, whole) (last_gap gap ds w.long (rw whole at a)) in
      record {
        inside = omega (arith, w.long);
        few = omega arith;
        plain = a;
        size = size;
        last = last;
        small = rw (e, ← xs) (summed_small 8);
        one = omega arith;
      }
