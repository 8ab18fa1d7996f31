-- The bits of a word, the ones of a masked word, and a bit set: what `new`, `insert` and `is_edge` do to the words' set.
use mathlib.Core.Path.{◌≡◌, refl, sym, ap, ap₂, ◌∙◌}
use mathlib.Core.Logic.{◌≢◌}
use mathlib.Core.Bool.{Bool, true, false, cond, ◌||◌}
use mathlib.Core.List.{List}
use Prim.Native.Nat.{ℕ, zero, suc, ◌+◌, ◌-◌, ◌*◌, ◌/◌, ◌%◌, ◌^◌, ◌≤◌, ◌<◌}
use native.Mathlib.Nat.{add_comm, mod-lt, mod-one, div-eq_of_lt, div_self, zero-div, mul-mod_left, mod-eq_of_lt, pow-suc, le_of_suc-le-suc, not-suc-le-zero, zero-lt-suc, one-mul, div-add-mod'}
use native.Mathlib.Numerals.{one-add}
use native.Mathlib.Decide.{ℕ_discrete, dec_lt}
use native.Mathlib.Omega.{arith}
use lib.Arith.{digits_div, digits_mod}
use lib.Pow.{pow_pos, pow-lt, pow-add, mod-pow-add, shl-shr, shl_exact}
use lib.Bits.{bit_and, bit_or, and_mask, or_shr, or_mod, or_zero_r}
use lib.Count.{ones, ones_cat}
use lib.Dec.{eqb, lit<}
use lib.ListN.{length, get_or, set, replicate}
use lib.Seq.{get_or-set_same, get_or-set_other}
use borrow.Author.Tests.{eq-eqb, ne_eqb}
use Rattle.std.specs.Prelude.{Some, None}
use Rattle.column_edges.specs.Edges.{count_below}
use Rattle.column_edges.specs.inner.Edges.{bit, is_edge, edge_at}
use Rattle.column_edges.proofs.Counts.{one, count_add, count_ext}

-- ---- the ones of a masked word

bit_lt : (w k : ℕ) → bit w k < 2
bit_lt w k = mod-lt (w / 2 ^ k) (zero-lt-suc 1)

ones_digit : (b : ℕ) → b < 2 → ones b ≡ one (eqb b 1)
unfolding ones
ones_digit zero h = refl
ones_digit (suc zero) h = refl
ones_digit (suc (suc b)) h = absurd (not-suc-le-zero (le_of_suc-le-suc (le_of_suc-le-suc h)))

ones_mask : (w k : ℕ) → ones (w % 2 ^ k) ≡ count_below (λ j. eqb (bit w j) 1) k
unfolding count_below ones
ones_mask w zero = ap ones (mod-one w)
ones_mask w (suc k) =
    ap (λ (x : ℕ). ones (w % 2 ^ x)) (sym (one-add k))
    ∙ ap ones (mod-pow-add w 1 k)
    ∙ ones_cat k (bit w k) (w % 2 ^ k) (mod-lt w (pow_pos k))
    ∙ add_comm (ones (bit w k)) (ones (w % 2 ^ k))
    ∙ ap₂ (λ (x y : ℕ). x + y) (ones_mask w k) (ones_digit (bit w k) (bit_lt w k))

-- ---- counting over words

-- the positions of word i are its bits
edge_word : (ws : List ℕ) (i j : ℕ) → j < 64 → is_edge ws (i * 64 + j) ≡ eqb (bit (get_or ws i 0) j) 1
unfolding is_edge
edge_word ws i j h = ap₂ (λ (x y : ℕ). eqb (bit (get_or ws x 0) y) 1) (digits_div i h) (digits_mod i h)

-- the bits of a word below k add their ones
pub count_word : (ws : List ℕ) (i k : ℕ) → k ≤ 64 → count_below (is_edge ws) (i * 64 + k) ≡ count_below (is_edge ws) (i * 64) + ones (get_or ws i 0 % 2 ^ k)
count_word ws i k h =
    count_add (is_edge ws) (i * 64) k
    ∙ ap (λ (x : ℕ). count_below (is_edge ws) (i * 64) + x)
    (count_ext (λ j. is_edge ws (i * 64 + j)) (λ j. eqb (bit (get_or ws i 0) j) 1) k (λ j l. edge_word ws i j (omega arith)) ∙ sym (ones_mask (get_or ws i 0) k))

-- a whole word adds its ones
pub whole_word : (ws : List ℕ) (i : ℕ) → get_or ws i 0 < 2 ^ 64 → count_below (is_edge ws) (i * 64) + ones (get_or ws i 0) ≡ count_below (is_edge ws) (suc i * 64)
whole_word ws i h =
    ap (λ (x : ℕ). count_below (is_edge ws) (i * 64) + ones x) (sym (mod-eq_of_lt h)) ∙ sym (count_word ws i 64 (omega arith))
    ∙ ap (count_below (is_edge ws)) (omega arith)

-- `1 << k` is the power
pub shifted : (k : ℕ) → k < 64 → 1 * 2 ^ k % 2 ^ 64 ≡ 2 ^ k
shifted k h = shl_exact 1 k 64 (lit< tt) (omega arith) ∙ one-mul (2 ^ k)

-- a word masked below bit k
pub masked : (w k : ℕ) → k < 64 → bit_and w (1 * 2 ^ k % 2 ^ 64 - 1) ≡ w % 2 ^ k
masked w k h = ap (λ (y : ℕ). bit_and w (y - 1)) (shifted k h) ∙ and_mask w k

-- ---- the answer, by whether p is an edge

pub is_missing : (ws : List ℕ) (p : ℕ) → is_edge ws p ≡ false → None ≡ edge_at ws p
unfolding edge_at
is_missing ws p e = sym (ap (λ (b : Bool). cond b (Some (count_below (is_edge ws) p)) None) e)

pub is_at : (ws : List ℕ) (p n : ℕ) → is_edge ws p ≡ true → n ≡ count_below (is_edge ws) p → Some n ≡ edge_at ws p
unfolding edge_at
is_at ws p n e c = ap Some c ∙ sym (ap (λ (b : Bool). cond b (Some (count_below (is_edge ws) p)) None) e)

-- ---- a bit set

or_bit : (a b j : ℕ) → bit (bit_or a b) j ≡ bit_or (bit a j) (bit b j)
or_bit a b j = ap (λ (x : ℕ). x % 2) (or_shr a b j) ∙ or_mod (a / 2 ^ j) (b / 2 ^ j) 1

-- a power has its own bit, and no other
pow_bit_same : (k : ℕ) → bit (2 ^ k) k ≡ 1
pow_bit_same k = ap (λ (x : ℕ). x % 2) (div_self (pow_pos k))

pow_bit_above : (k j : ℕ) → k < j → bit (2 ^ k) j ≡ 0
pow_bit_above k j h = ap (λ (x : ℕ). x % 2) (div-eq_of_lt (pow-lt h))

pow_bit_below : (d j : ℕ) → bit (2 ^ (suc d + j)) j ≡ 0
pow_bit_below d j =
    ap (λ (x : ℕ). x / 2 ^ j % 2) (pow-add 2 (suc d) j) ∙ ap (λ (x : ℕ). x % 2) (shl-shr (2 ^ suc d) j)
    ∙ ap (λ (x : ℕ). x % 2) (pow-suc 2 d) ∙ mul-mod_left (2 ^ d) 2

pow_bit_other : (k j : ℕ) → j ≢ k → bit (2 ^ k) j ≡ 0
pow_bit_other k j h = pick (dec_lt k j)
  where
    pick : Dec (k < j) → bit (2 ^ k) j ≡ 0
    pick (yes l) = pow_bit_above k j l
    pick (no l) =
        let e : suc (k - suc j) + j ≡ k = omega arith in
        ap (λ (x : ℕ). bit (2 ^ x) j) (sym e) ∙ pow_bit_below (k - suc j) j

or_one : (b : ℕ) → b < 2 → eqb (bit_or b 1) 1 ≡ true
or_one zero h = refl
or_one (suc zero) h = refl
or_one (suc (suc b)) h = absurd (not-suc-le-zero (le_of_suc-le-suc (le_of_suc-le-suc h)))

-- the word's bits after the store
marked_word : (w k j : ℕ) → eqb (bit (bit_or w (2 ^ k)) j) 1 ≡ (eqb j k || eqb (bit w j) 1)
marked_word w k j = pick (ℕ_discrete j k)
  where
    pick : Dec (j ≡ k) → eqb (bit (bit_or w (2 ^ k)) j) 1 ≡ (eqb j k || eqb (bit w j) 1)
    pick (yes e) =
        ap (λ (x : ℕ). eqb x 1) (or_bit w (2 ^ k) j ∙ ap (λ (x : ℕ). bit_or (bit w j) (bit (2 ^ k) x)) e ∙ ap (bit_or (bit w j)) (pow_bit_same k))
        ∙ or_one (bit w j) (bit_lt w j) ∙ sym (ap (λ (b : Bool). b || eqb (bit w j) 1) (eq-eqb j k e))
    pick (no n) =
        ap (λ (x : ℕ). eqb x 1) (or_bit w (2 ^ k) j ∙ ap (bit_or (bit w j)) (pow_bit_other k j n) ∙ or_zero_r (bit w j))
        ∙ sym (ap (λ (b : Bool). b || eqb (bit w j) 1) (ne_eqb j k n))

-- a position is its word and its bit
pos_ext : (p q : ℕ) → q / 64 ≡ p / 64 → q % 64 ≡ p % 64 → q ≡ p
pos_ext p q d m = sym (div-add-mod' q 64) ∙ ap₂ (λ (x y : ℕ). x * 64 + y) d m ∙ div-add-mod' p 64

-- the words after the store
abbrev pub marked : List ℕ → ℕ → List ℕ
marked ws p = set ws (p / 64) (bit_or (get_or ws (p / 64) 0) (2 ^ (p % 64)))

pub marked_edge : (ws : List ℕ) (p q : ℕ) → p / 64 < length ws → is_edge (marked ws p) q ≡ (eqb q p || is_edge ws q)
unfolding is_edge
marked_edge ws p q h = pick (ℕ_discrete (q / 64) (p / 64))
  where
    same_bit : q / 64 ≡ p / 64 → eqb (q % 64) (p % 64) ≡ eqb q p
    same_bit e = go (ℕ_discrete (q % 64) (p % 64))
      where
        go : Dec (q % 64 ≡ p % 64) → eqb (q % 64) (p % 64) ≡ eqb q p
        go (yes m) = eq-eqb _ _ m ∙ sym (eq-eqb q p (pos_ext p q e m))
        go (no m) = ne_eqb _ _ m ∙ sym (ne_eqb q p (λ x. m (ap (λ (y : ℕ). y % 64) x)))

    pick : Dec (q / 64 ≡ p / 64) → is_edge (marked ws p) q ≡ (eqb q p || is_edge ws q)
    pick (yes e) =
        ap (λ (i : ℕ). eqb (bit (get_or (marked ws p) i 0) (q % 64)) 1) e
        ∙ ap (λ (w : ℕ). eqb (bit w (q % 64)) 1) (get_or-set_same ws (p / 64) _ 0 h)
        ∙ marked_word (get_or ws (p / 64) 0) (p % 64) (q % 64)
        ∙ ap₂ (λ (b : Bool) (i : ℕ). b || eqb (bit (get_or ws i 0) (q % 64)) 1) (same_bit e) (sym e)
    pick (no n) =
        ap (λ (w : ℕ). eqb (bit w (q % 64)) 1) (get_or-set_other ws (p / 64) (q / 64) _ 0 n)
        ∙ sym (ap (λ (b : Bool). b || is_edge ws q) (ne_eqb q p (λ x. n (ap (λ (y : ℕ). y / 64) x))))

-- ---- no bit set

pub none_edge : (n q : ℕ) → is_edge (replicate n 0) q ≡ false
unfolding is_edge
none_edge n q = ap (λ (w : ℕ). eqb (bit w (q % 64)) 1) (zeros n (q / 64)) ∙ ap (λ (x : ℕ). eqb (x % 2) 1) (zero-div (2 ^ (q % 64)))
  where
    zeros : (m i : ℕ) → ◌≡◌ {A = ℕ} (get_or (replicate m 0) i 0) 0
    zeros zero i = refl
    zeros (suc m) zero = refl
    zeros (suc m) (suc i) = zeros m i
