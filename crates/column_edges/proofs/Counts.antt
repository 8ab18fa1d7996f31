-- How many positions below p are in a set: the count at a sum, of two sets that agree, and at two positions. Each by induction on the
-- position.
use mathlib.Core.Path.{◌≡◌, refl, sym, ap, ap₂, ◌∙◌}
use mathlib.Core.Bool.{Bool, true, false, cond}
use Prim.Native.Nat.{ℕ, zero, suc, ◌+◌, ◌-◌, ◌≤◌, ◌<◌, zero-le}
use native.Mathlib.Nat.{add-zero, add-suc, add_assoc}
use native.Mathlib.Numerals.{add-one}
use native.Mathlib.Omega.{arith}
use Rattle.column_edges.specs.Edges.{count_below}

-- what a position adds to the count
abbrev pub one : Bool → ℕ
one b = cond b 1 0

one_le : (b : Bool) → one b ≤ 1
one_le true = omega arith
one_le false = omega arith

pub count_le : (f : ℕ → Bool) (n : ℕ) → count_below f n ≤ n
unfolding count_below
count_le f zero = zero-le
count_le f (suc n) = omega (arith, count_le f n, one_le (f n))

pub count_add : (f : ℕ → Bool) (m k : ℕ) → count_below f (m + k) ≡ count_below f m + count_below (λ j. f (m + j)) k
unfolding count_below
count_add f m zero = ap (count_below f) (add-zero m) ∙ sym (add-zero (count_below f m))
count_add f m (suc k) =
    ap (count_below f) (add-suc m k) ∙ ap (λ (x : ℕ). x + one (f (m + k))) (count_add f m k)
    ∙ add_assoc (count_below f m) (count_below (λ j. f (m + j)) k) (one (f (m + k)))

-- two sets that agree below k
pub count_ext : (f g : ℕ → Bool) (k : ℕ) → ((j : ℕ) → j < k → f j ≡ g j) → count_below f k ≡ count_below g k
unfolding count_below
count_ext f g zero h = refl
count_ext f g (suc k) h =
    ap₂ (λ (x y : ℕ). x + y) (count_ext f g k (λ j l. h j (omega arith))) (ap one (h k (omega arith)))

-- no fewer below a later position
pub count_mono : (f : ℕ → Bool) (p q : ℕ) → p ≤ q → count_below f p ≤ count_below f q
count_mono f p q h =
    let e : p + (q - p) ≡ q = omega arith in
    omega (arith, ap (count_below f) e, count_add f p (q - p))

-- and more where the first position is in the set
pub count_strict : (f : ℕ → Bool) (p q : ℕ) → f p ≡ true → p < q → count_below f p < count_below f q
unfolding count_below
count_strict f p q e h = omega (arith, count_mono f (suc p) q h, ap one e)

-- one more below the next position
pub count_next : (f : ℕ → Bool) (p : ℕ) → f p ≡ true → count_below f p + 1 ≡ count_below f (p + 1)
unfolding count_below
count_next f p e = sym (ap (count_below f) (add-one p) ∙ ap (λ (b : Bool). count_below f p + one b) e)
