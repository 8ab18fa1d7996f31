-- What the functions on digits answer.
use mathlib.Core.Path.{◌≡◌, refl, sym, ap, ◌∙◌}
use mathlib.Core.List.{List, [], ◌∷◌, map}
use Prim.Native.Nat.{ℕ, zero, suc, ◌+◌, ◌-◌, ◌*◌, ◌/◌, ◌%◌, ◌^◌, ◌≤◌, ◌<◌}
use native.Mathlib.Nat.{add-zero}
use native.Mathlib.Omega.{arith}
use lib.Bits.{bit_and, and_le_r}
use lib.Count.{count_trailing_zeros}
use lib.ListN.{length, get_or, take, drop, length-map}
use lib.Pow.{shl_exact}
use lib.Seq.{get_or-drop, take-take}
use Rattle.common.specs.Lists.{All}
use Rattle.swar.specs.inner.Digits.{as_number, Octets, Low, Bits, Digitwise, top, char, odd, after_from, adds_of, first_one, CutPost}
use Rattle.swar.specs.inner.Plain.{PlainFront}
use Rattle.swar.specs.declared.Plain.{Plain}
use Rattle.swar.proofs.Lanes.{eight_cases, each_eight, add_each, sum_each, less_each, map_map, tops_are, times, and_bits, base, base_is, mod_digits, div_digits, width, zeros_are, zeros_lt}
use Rattle.swar.proofs.Fronts.{map_all}

pub tops_answer : (w : ℕ) → Digitwise Octets top 72340172838076673 w (bit_and w 9259542123273814144 / 128)
tops_answer w =
    record {
      bounded = omega (arith, and_le_r w 9259542123273814144);
      digits = λ ds o e.
          let h : bit_and (as_number ds) 9259542123273814144 ≡ 128 * as_number (map top ds) = rw (each_eight 128 ds o.long) at (tops_are ds o.small) in
          rw (e, h) (omega arith);
    }

-- the tops of digits with something added to each
added : (k each w r : ℕ) → each ≡ as_number (k ∷ k ∷ k ∷ k ∷ k ∷ k ∷ k ∷ k ∷ []) → k ≤ 128 → Digitwise Octets top 72340172838076673 (w + each) r
    → (ds : List ℕ) → Low ds → w ≡ as_number ds → r ≡ as_number (map (λ (d : ℕ). (d + k) / 128) ds)
added k each w r q small z ds o e =
    let plus : w + each ≡ as_number (map (λ (d : ℕ). d + k) ds) = omega (arith, add_each k ds, each_eight k ds o.long) in
    let octets : Octets (map (λ (d : ℕ). d + k) ds) =
    record { long = length-map ds (λ (d : ℕ). d + k) ∙ o.long; small = map_all (λ d. d < 128) (λ d. d < 256) (λ (d : ℕ). d + k) (λ d p. omega arith) ds o.small } in
    z.digits (map (λ (d : ℕ). d + k) ds) octets plus ∙ ap as_number (map_map top (λ (d : ℕ). d + k) ds)

pub chars_answer : (w r : ℕ) → Digitwise Octets top 72340172838076673 (w + 6872316419617283935) r → Digitwise Low char 72340172838076673 w r
chars_answer w r z = record { bounded = z.bounded; digits = λ ds o e. added 95 6872316419617283935 w r refl (omega arith) z ds o e }

pub odd_answer : (w a b : ℕ) → Digitwise Octets top 72340172838076673 (w + 6944656592455360608) a → Digitwise Octets top 72340172838076673 (w + 72340172838076673) b
    → Digitwise Low odd 144680345676153346 w ((72340172838076673 - a) + b)
odd_answer w a b y z = record { bounded = omega (arith, z.bounded); digits = go }
  where
    f : ℕ → ℕ
    f d = (d + 96) / 128

    g : ℕ → ℕ
    g d = (d + 1) / 128

    go : (ds : List ℕ) → Low ds → w ≡ as_number ds → (72340172838076673 - a) + b ≡ as_number (map odd ds)
    go ds o e =
        let p : a ≡ as_number (map f ds) = added 96 6944656592455360608 w a refl (omega arith) y ds o e in
        let q : b ≡ as_number (map g ds) = added 1 72340172838076673 w b refl (omega arith) z ds o e in
        let small : All (λ d. d ≤ 1) (map f ds) = map_all (λ d. d < 128) (λ d. d ≤ 1) f (λ d p. omega arith) ds o.small in
        let ones : as_number (map (λ (d : ℕ). 1) (map f ds)) ≡ 72340172838076673 = each_eight 1 (map f ds) (length-map ds f ∙ o.long) in
        let less : as_number (map (λ (d : ℕ). 1 - d) (map f ds)) ≡ as_number (map (λ (d : ℕ). 1 - f d) ds) = ap as_number (map_map (λ (d : ℕ). 1 - d) f ds) in
        omega (arith, p, q, less_each (map f ds) small, ones, less, sum_each (λ (d : ℕ). 1 - f d) g ds)

after_is : (gap : ℕ) (cs : List ℕ) → length cs ≡ 8 → after_from gap cs ≡ gap ∷ take 7 (map (λ (d : ℕ). 1 - d) cs)
unfolding after_from
after_is gap cs n = eight_cases (λ (cs : List ℕ). after_from gap cs ≡ gap ∷ take 7 (map (λ (d : ℕ). 1 - d) cs)) (λ a b c d e f g h. refl) cs n

pub after_answer : (chars gap : ℕ) (cs : List ℕ) → Bits cs → chars ≡ as_number cs
    → (72340172838076673 - chars) % 72057594037927936 * 256 + gap ≡ as_number (after_from gap cs)
after_answer chars gap cs o e =
    let ss = map (λ (d : ℕ). 1 - d) cs in
    let spaces : 72340172838076673 - chars ≡ as_number ss = omega (arith, less_each cs o.small, each_eight 1 cs o.long) in
    let first : as_number ss % 72057594037927936 ≡ as_number (take 7 ss) =
    mod_digits 7 ss (map_all (λ d. d ≤ 1) (λ d. d < 256) (λ (d : ℕ). 1 - d) (λ d p. omega arith) cs o.small) in
    rw (after_is gap cs o.long, spaces, first) (omega arith)

adds_are : (cs ss : List ℕ) → length cs ≡ length ss → as_number (adds_of cs ss) ≡ as_number cs + as_number (times cs ss)
unfolding adds_of
adds_are [] ss n = refl
adds_are (c ∷ cs) [] n = absurd (omega arith)
adds_are (c ∷ cs) (s ∷ ss) n = omega (arith, adds_are cs ss (omega arith))

pub adds_answer : (chars after : ℕ) (cs ss : List ℕ) → Bits cs → Bits ss → chars ≡ as_number cs → after ≡ as_number ss → chars + bit_and chars after ≡ as_number (adds_of cs ss)
adds_answer chars after cs ss o v e f =
    let n = o.long ∙ sym v.long in
    rw (e, f, and_bits cs ss n o.small v.small) (sym (adds_are cs ss n))

-- ---- what is cut off

pub power_fits : (t : ℕ) → t < 64 → (1 * 2 ^ t) % 18446744073709551616 ≡ 2 ^ t
power_fits t h = shl_exact 1 t 64 (omega arith) (omega arith) ∙ omega arith

head_is : (ds : List ℕ) → All (λ d. d < 256) ds → as_number ds % 256 ≡ get_or ds 0 0
unfolding All
head_is [] a = refl
head_is (d ∷ ds) (p, a) = omega arith

drop_all : (k : ℕ) (ds : List ℕ) → All (λ d. d < 256) ds → All (λ d. d < 256) (drop k ds)
unfolding All
drop_all zero ds a = a
drop_all (suc k) [] a = tt
drop_all (suc k) (d ∷ ds) (p, a) = drop_all k ds a

module _ (x : ℕ) (some : 1 ≤ x) (fits : x < 18446744073709551616) where
  pub bits_lt : count_trailing_zeros 64 x < 64
  bits_lt = zeros_lt 64 x some fits

  pub cut_answer : (adds after : ℕ) (os xs ss : List ℕ) → Bits os → Octets xs → Octets ss → x ≡ as_number os → adds ≡ as_number xs → after ≡ as_number ss
      → CutPost os xs ss (count_trailing_zeros 64 x / 8) (adds % ((1 * 2 ^ count_trailing_zeros 64 x) % 18446744073709551616) % 255)
      (after / ((1 * 2 ^ count_trailing_zeros 64 x) % 18446744073709551616) % 256)
  cut_answer adds after os xs ss o p q e f g =
      let wide : width os ≡ 64 = eight_cases (λ (l : List ℕ). width l ≡ 64) (λ a b c d e f g h. refl) os o.long in
      let zeros : count_trailing_zeros 64 x ≡ 8 * first_one os = rw wide at (ap (count_trailing_zeros (width os)) e ∙ zeros_are os o.small) in
      let power : (1 * 2 ^ count_trailing_zeros 64 x) % 18446744073709551616 ≡ base (first_one os) =
      power_fits (count_trailing_zeros 64 x) bits_lt ∙ ap (λ (n : ℕ). 2 ^ n) zeros ∙ sym (base_is (first_one os)) in
      record {
        counted = omega (arith, zeros);
        sized = rw (power, f) (ap (λ (n : ℕ). n % 255) (mod_digits (first_one os) xs p.small));
        after =
            rw (power, g)
            (ap (λ (n : ℕ). n % 256) (div_digits (first_one os) ss q.small) ∙ head_is (drop (first_one os) ss) (drop_all (first_one os) ss q.small)
            ∙ get_or-drop (first_one os) ss 0 0 ∙ ap (λ (n : ℕ). get_or ss n 0) (add-zero (first_one os)));
      }

-- ---- bytes below 128

low_all : (ds : List ℕ) → All (λ d. d < 256) ds → as_number (map top ds) ≡ 0 → All (λ d. d < 128) ds
unfolding All
low_all [] a e = tt
low_all (d ∷ ds) (p, a) e = (omega arith, low_all ds a (omega arith))

pub low_of : (ds : List ℕ) → Octets ds → as_number (map top ds) ≡ 0 → Low ds
low_of ds o e = record { long = o.long; small = low_all ds o.small e }

-- a front of the first eight bytes is a front
pub front_more : (t : List ℕ) (gap : ℕ) (r : Plain) → PlainFront (take 8 t) gap r → 8 ≤ length t → PlainFront t gap r
front_more t gap r z h =
    let e : take r.count (take 8 t) ≡ take r.count t = take-take r.count 8 t z.few in
    record {
      inside = omega (arith, z.few);
      few = z.few;
      plain = rw e at z.plain;
      size = rw e at z.size;
      last = rw e at z.last;
      small = z.small;
      one = z.one;
    }
