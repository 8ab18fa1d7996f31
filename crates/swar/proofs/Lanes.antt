-- Numbers by their digits in base 256: sums, differences, `&`, remainders and zeros at the front go digit by digit. Each by induction on the digits.
use mathlib.Core.Path.{◌≡◌, refl, ap, ap₂, ◌∙◌}
use mathlib.Core.List.{List, [], ◌∷◌, map}
use Prim.Native.Nat.{ℕ, zero, suc, ◌+◌, ◌-◌, ◌*◌, ◌/◌, ◌%◌, ◌^◌, ◌≤◌, ◌<◌}
use native.Mathlib.Nat.{pow-suc, zero-mod, zero-div, div-div-eq-div-mul}
use native.Mathlib.Omega.{arith}
use lib.Arith.{mod-mul}
use lib.Pow.{pow-add}
use lib.Bits.{bit_and, and_block, and_high, and_zero_l, and_zero_r, and_self}
use lib.Count.{count_trailing_zeros, under}
use lib.ListN.{length, take, drop}
use Rattle.common.specs.Lists.{All}
use Rattle.swar.specs.inner.Digits.{as_number, top, first_one, total}

-- eight digits are eight numbers
pub eight_cases : (P : List ℕ → Type 0) → ((a b c d e f g h : ℕ) → P (a ∷ b ∷ c ∷ d ∷ e ∷ f ∷ g ∷ h ∷ [])) → (ds : List ℕ) → length ds ≡ 8 → P ds
eight_cases P k [] n = absurd (omega arith)
eight_cases P k (a ∷ []) n = absurd (omega arith)
eight_cases P k (a ∷ b ∷ []) n = absurd (omega arith)
eight_cases P k (a ∷ b ∷ c ∷ []) n = absurd (omega arith)
eight_cases P k (a ∷ b ∷ c ∷ d ∷ []) n = absurd (omega arith)
eight_cases P k (a ∷ b ∷ c ∷ d ∷ e ∷ []) n = absurd (omega arith)
eight_cases P k (a ∷ b ∷ c ∷ d ∷ e ∷ f ∷ []) n = absurd (omega arith)
eight_cases P k (a ∷ b ∷ c ∷ d ∷ e ∷ f ∷ g ∷ []) n = absurd (omega arith)
eight_cases P k (a ∷ b ∷ c ∷ d ∷ e ∷ f ∷ g ∷ h ∷ []) n = k a b c d e f g h
eight_cases P k (a ∷ b ∷ c ∷ d ∷ e ∷ f ∷ g ∷ h ∷ i ∷ ds) n = absurd (omega arith)

-- eight times the same digit
pub each_eight : (k : ℕ) (ds : List ℕ) → length ds ≡ 8 → as_number (map (λ (d : ℕ). k) ds) ≡ as_number (k ∷ k ∷ k ∷ k ∷ k ∷ k ∷ k ∷ k ∷ [])
each_eight k ds n = eight_cases (λ (ds : List ℕ). as_number (map (λ (d : ℕ). k) ds) ≡ as_number (k ∷ k ∷ k ∷ k ∷ k ∷ k ∷ k ∷ k ∷ [])) (λ a b c d e f g h. refl) ds n

-- ---- sums and differences

pub add_each : (k : ℕ) (ds : List ℕ) → as_number (map (λ (d : ℕ). d + k) ds) ≡ as_number ds + as_number (map (λ (d : ℕ). k) ds)
add_each k [] = refl
add_each k (d ∷ ds) = omega (arith, add_each k ds)

pub sum_each : (f g : ℕ → ℕ) (ds : List ℕ) → as_number (map (λ (d : ℕ). f d + g d) ds) ≡ as_number (map f ds) + as_number (map g ds)
sum_each f g [] = refl
sum_each f g (d ∷ ds) = omega (arith, sum_each f g ds)

pub less_each : (ds : List ℕ) → All (λ d. d ≤ 1) ds → as_number (map (λ (d : ℕ). 1 - d) ds) + as_number ds ≡ as_number (map (λ (d : ℕ). 1) ds)
unfolding All
less_each [] a = refl
less_each (d ∷ ds) (p, a) = omega (arith, less_each ds a)

pub map_map : (f g : ℕ → ℕ) (ds : List ℕ) → map f (map g ds) ≡ map (λ (d : ℕ). f (g d)) ds
map_map f g [] = refl
map_map f g (d ∷ ds) = ap (λ (l : List ℕ). f (g d) ∷ l) (map_map f g ds)

-- ---- `&`

and_next : (x y xs ys : ℕ) → x < 256 → y < 256 → bit_and (x + 256 * xs) (y + 256 * ys) ≡ bit_and x y + 256 * bit_and xs ys
and_next x y xs ys p q =
    let a : x + 256 * xs ≡ xs * 2 ^ 8 + x = omega arith in
    let b : y + 256 * ys ≡ ys * 2 ^ 8 + y = omega arith in
    ap₂ bit_and a b ∙ and_block 8 xs ys x y p q ∙ omega arith

and_top : (d : ℕ) → d < 256 → bit_and d 128 ≡ 128 * (d / 128)
and_top d h = and_high d 1 7 ∙ omega arith

pub tops_are : (ds : List ℕ) → All (λ d. d < 256) ds → bit_and (as_number ds) (as_number (map (λ (d : ℕ). 128) ds)) ≡ 128 * as_number (map top ds)
unfolding All
tops_are [] a = refl
tops_are (d ∷ ds) (p, a) =
    and_next d 128 (as_number ds) (as_number (map (λ (d : ℕ). 128) ds)) p (omega arith) ∙ omega (arith, and_top d p, tops_are ds a)

abbrev pub times : List ℕ → List ℕ → List ℕ
times [] ys = []
times (x ∷ xs) [] = []
times (x ∷ xs) (y ∷ ys) = (x * y) ∷ times xs ys

and_bit : (x y : ℕ) → x ≤ 1 → y ≤ 1 → bit_and x y ≡ x * y
and_bit zero y p q = and_zero_l y ∙ omega arith
and_bit (suc zero) zero p q = and_zero_r 1
and_bit (suc zero) (suc zero) p q = and_self 1
and_bit (suc zero) (suc (suc y)) p q = absurd (omega arith)
and_bit (suc (suc x)) y p q = absurd (omega arith)

pub and_bits : (xs ys : List ℕ) → length xs ≡ length ys → All (λ d. d ≤ 1) xs → All (λ d. d ≤ 1) ys → bit_and (as_number xs) (as_number ys) ≡ as_number (times xs ys)
unfolding All
and_bits [] [] n a b = refl
and_bits [] (y ∷ ys) n a b = absurd (omega arith)
and_bits (x ∷ xs) [] n a b = absurd (omega arith)
and_bits (x ∷ xs) (y ∷ ys) n (p, a) (q, b) =
    and_next x y (as_number xs) (as_number ys) (omega arith) (omega arith) ∙ omega (arith, and_bit x y p q, and_bits xs ys (omega arith) a b)

-- ---- the first digits, and those after them

abbrev pub base : ℕ → ℕ
base zero = 1
base (suc k) = base k * 256

pub base_is : (k : ℕ) → base k ≡ 2 ^ (8 * k)
base_is zero = refl
base_is (suc k) = let e : 8 * suc k ≡ 8 * k + 8 = omega arith in rw (e, pow-add 2 (8 * k) 8, base_is k)

base_some : (k : ℕ) → 0 < base k
base_some zero = omega arith
base_some (suc k) = omega (arith, base_some k)

pub mod_digits : (k : ℕ) (ds : List ℕ) → All (λ d. d < 256) ds → as_number ds % base k ≡ as_number (take k ds)
unfolding All
mod_digits zero ds a = omega arith
mod_digits (suc k) [] a = zero-mod (base k * 256)
mod_digits (suc k) (d ∷ ds) (p, a) =
    let q : (d + 256 * as_number ds) / 256 ≡ as_number ds = omega arith in
    let r : (d + 256 * as_number ds) % 256 ≡ d = omega arith in
    mod-mul (d + 256 * as_number ds) (base_some k) (omega arith) ∙ rw (q, r, mod_digits k ds a) (omega arith)

pub div_digits : (k : ℕ) (ds : List ℕ) → All (λ d. d < 256) ds → as_number ds / base k ≡ as_number (drop k ds)
unfolding All
div_digits zero ds a = omega arith
div_digits (suc k) [] a = zero-div (base k * 256)
div_digits (suc k) (d ∷ ds) (p, a) =
    let q : (d + 256 * as_number ds) / 256 ≡ as_number ds = omega arith in
    let c : base k * 256 ≡ 256 * base k = omega arith in
    rw (c, ← div-div-eq-div-mul (d + 256 * as_number ds) 256 (base k), q) (div_digits k ds a)

-- ---- the sum of the digits

pub total_is : (ds : List ℕ) → as_number ds % 255 ≡ total ds % 255
total_is [] = refl
total_is (d ∷ ds) = omega (arith, total_is ds)

-- ---- zeros at the front

zeros_step : (n x : ℕ) → x % 2 ≡ 0 → count_trailing_zeros (suc n) x ≡ suc (count_trailing_zeros n (x / 2))
unfolding count_trailing_zeros
zeros_step n x e = rw e

zeros_stop : (n x : ℕ) → x % 2 ≡ 1 → count_trailing_zeros (suc n) x ≡ 0
unfolding count_trailing_zeros
zeros_stop n x e = rw e

-- as many binary digits as these have
abbrev pub width : List ℕ → ℕ
width [] = 0
width (d ∷ ds) = suc (suc (suc (suc (suc (suc (suc (suc (width ds))))))))

zeros_eight : (n x : ℕ) → count_trailing_zeros (suc (suc (suc (suc (suc (suc (suc (suc n)))))))) (256 * x) ≡ 8 + count_trailing_zeros n x
zeros_eight n x =
    let h₁ : 256 * x / 2 ≡ 128 * x = omega arith in
    let h₂ : 128 * x / 2 ≡ 64 * x = omega arith in
    let h₃ : 64 * x / 2 ≡ 32 * x = omega arith in
    let h₄ : 32 * x / 2 ≡ 16 * x = omega arith in
    let h₅ : 16 * x / 2 ≡ 8 * x = omega arith in
    let h₆ : 8 * x / 2 ≡ 4 * x = omega arith in
    let h₇ : 4 * x / 2 ≡ 2 * x = omega arith in
    let h₈ : 2 * x / 2 ≡ x = omega arith in
    rw (
      zeros_step _ (256 * x) (omega arith),
      h₁,
      zeros_step _ (128 * x) (omega arith),
      h₂,
      zeros_step _ (64 * x) (omega arith),
      h₃,
      zeros_step _ (32 * x) (omega arith),
      h₄,
      zeros_step _ (16 * x) (omega arith),
      h₅,
      zeros_step _ (8 * x) (omega arith),
      h₆,
      zeros_step _ (4 * x) (omega arith),
      h₇,
      zeros_step _ (2 * x) (omega arith),
      h₈,
    ) (omega arith)

pub zeros_are : (ds : List ℕ) → All (λ d. d ≤ 1) ds → count_trailing_zeros (width ds) (as_number ds) ≡ 8 * first_one ds
unfolding All first_one count_trailing_zeros
zeros_are [] a = refl
zeros_are (zero ∷ ds) (p, a) =
    let e : 0 + 256 * as_number ds ≡ 256 * as_number ds = omega arith in
    ap (count_trailing_zeros (width (zero ∷ ds))) e ∙ zeros_eight (width ds) (as_number ds) ∙ omega (arith, zeros_are ds a)
zeros_are (suc zero ∷ ds) (p, a) = zeros_stop (suc (suc (suc (suc (suc (suc (suc (width ds)))))))) (1 + 256 * as_number ds) (omega arith) ∙ omega arith
zeros_are (suc (suc d) ∷ ds) (p, a) = absurd (omega arith)

-- a number that is not 0 has a digit that is not
pub zeros_lt : (k n : ℕ) → 1 ≤ n → n < 2 ^ k → count_trailing_zeros k n < k
unfolding count_trailing_zeros
zeros_lt zero n h g = absurd (omega arith)
zeros_lt (suc k) n h g = at (n % 2) refl (λ e. zeros_lt k (n / 2) (omega arith) (omega (arith, pow-suc 2 k)))
  where
    at : (m : ℕ) → n % 2 ≡ m → (n % 2 ≡ 0 → count_trailing_zeros k (n / 2) < k) → under m (count_trailing_zeros k (n / 2)) < suc k
    at zero e ih = omega (arith, ih e)
    at (suc m) e ih = omega arith
