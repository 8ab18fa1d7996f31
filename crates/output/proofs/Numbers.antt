-- The digits of a number: as many as the definition counts, and at most ten for a number of 32 bits.
use mathlib.Core.Path.{◌≡◌, refl, sym, ap, ◌∙◌}
use mathlib.Core.List.{List}
use Prim.Native.Nat.{ℕ, zero, suc, ◌-◌, ◌/◌, ◌^◌, ◌≤◌, ◌<◌}
use native.Mathlib.Omega.{arith}
use lib.ListN.{length, length-append}
use Rattle.io.specs.Digits.{IsDigitCount, last_digits as last_digits_of}
use Rattle.text.specs.Decimal.{digits}
use Rattle.text.proofs.Digits.{digits_less, digits_at, digits_le, digits_pos}
use Rattle.output.specs.inner.Printing.{decimal, PutPost, PutWithin}

-- the fewest digits that hold a number are those that the definition counts
fewest_digits : (n k : ℕ) → IsDigitCount 10 1 n k → k ≡ digits n
fewest_digits n zero f = absurd (omega (arith, f.0))
fewest_digits n (suc zero) f = sym (digits_less n f.1)
fewest_digits n (suc (suc k)) f =
    let e : suc (suc k) - 1 ≡ suc k = omega arith in
    let least : 10 ^ suc k ≤ n = rw e at (f.2 (omega arith)) in
    sym (digits_at (suc k) n least f.1)

length_last : (k n : ℕ) → length (last_digits_of 10 k n) ≡ k
length_last zero n = refl
length_last (suc k) n = rw length-append (omega (arith, length_last k (n / 10)))

module _ (n : ℕ) (h : n < 4294967296) where
  few : digits n ≤ 10
  few = digits_le 9 n (omega arith)

  pub fewest_ten : (k : ℕ) → IsDigitCount 10 1 n k → k ≤ 10
  fewest_ten k f = omega (arith, few, fewest_digits n k f)

  pub number_put : {k at r : ℕ} {w before after : List ℕ} → IsDigitCount 10 1 n k → w ≡ last_digits_of 10 k n → PutPost w at before after r
      → PutWithin 10 (decimal n) at before after r
  unfolding decimal
  number_put {k} {at} {r} {w} {before} {after} f e p =
      let d : w ≡ last_digits_of 10 (digits n) n = e ∙ ap (λ (m : ℕ). last_digits_of 10 m n) (fewest_digits n k f) in
      let l : length w ≡ digits n = ap length d ∙ length_last (digits n) n in
      record {
        put = rw d at p;
        above = omega (arith, p.place, digits_pos n);
        within = omega (arith, p.place, few);
      }
