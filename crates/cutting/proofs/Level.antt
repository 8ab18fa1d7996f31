-- The rule of the level gives the widths of the cutting: at the level the widths lie between leasts and shares, each character left over keeps what
-- was cut above what is left, and at the end they fill the width; there is one such list.
use mathlib.Core.Bool.{Bool, true, false, cond, not, ◌||◌, ◌&&◌, true≢false, false≢true}
use mathlib.Core.Path.{◌≡◌, refl, sym, ap, ◌∙◌}
use mathlib.Core.Logic.{◌≢◌}
use mathlib.Core.List.{List, [], ◌∷◌}
use Prim.Native.Nat.{ℕ, zero, suc, ◌+◌, ◌-◌, ◌≤◌, ◌<◌, min}
use native.Mathlib.Nat.{not-suc-le-zero}
use native.Mathlib.Omega.{arith}
use native.Mathlib.Decide.{ℕ_discrete, dec_lt, dec_le}
use lib.Dec.{ltb, leb}
use lib.ListN.{length, length-set}
use lib.Seq.{get_or-set_same, get_or-set_other}
use borrow.Author.Tests.{ltb-true, ltb-false, leb-true, leb-false}
use Rattle.common.specs.Lists.{sum}
use Rattle.common.proofs.Sum.{sum_set}
use Rattle.cutting.specs.Cut.{at, excess, gaps, cut, Below}
use Rattle.cutting.specs.Level.{at_level, level_to, level_of, waits, receiver, give_once, give_by, leveled, by_level}
use Rattle.cutting.proofs.Sums.{sum_le, below_in, in_range, at_le_sum}
use Rattle.cutting.proofs.Cut.{Held, cut_held, cut_none, cut_fills}
use Rattle.cutting.proofs.Best.{unique}

-- the widths at a level

pub length_level : (ls ss : List ℕ) (t : ℕ) → length ls ≡ length ss → length (at_level ls ss t) ≡ length ss
unfolding at_level
length_level [] [] t e = refl
length_level [] (s ∷ ss) t e = absurd (omega arith)
length_level (l ∷ ls) [] t e = absurd (omega arith)
length_level (l ∷ ls) (s ∷ ss) t e = ap suc (length_level ls ss t (omega arith))

pub at_level_lem : (ls ss : List ℕ) (t : ℕ) → length ls ≡ length ss → (i : ℕ) → at (at_level ls ss t) i ≡ at ls i + min (at ss i - at ls i) t
unfolding at_level
at_level_lem [] [] t e i = omega arith
at_level_lem [] (s ∷ ss) t e i = absurd (omega arith)
at_level_lem (l ∷ ls) [] t e i = absurd (omega arith)
at_level_lem (l ∷ ls) (s ∷ ss) t e zero = refl
at_level_lem (l ∷ ls) (s ∷ ss) t e (suc i) = at_level_lem ls ss t (omega arith) i

-- the level

module _ (ls ss : List ℕ) (width : ℕ) where
  full : ℕ → ℕ
  full t = sum (at_level ls ss t) + gaps (length (at_level ls ss t))

  level_fits : (n : ℕ) → full 0 ≤ width → full (level_to ls ss width n) ≤ width
  unfolding level_to full
  level_fits zero h = h
  level_fits (suc n) h = go (leb (full (suc n)) width) refl (level_fits n h)
    where
      go : (b : Bool) → leb (full (suc n)) width ≡ b → full (level_to ls ss width n) ≤ width → full (cond b (suc n) (level_to ls ss width n)) ≤ width
      go true e r = leb-true (full (suc n)) width e
      go false e r = r

  level_last : (n : ℕ) → width < full (suc n) → width < full (suc (level_to ls ss width n))
  unfolding level_to full
  level_last zero h = h
  level_last (suc n) h = go (leb (full (suc n)) width) refl (level_last n)
    where
      go : (b : Bool) → leb (full (suc n)) width ≡ b → (width < full (suc n) → width < full (suc (level_to ls ss width n))) →
          width < full (suc (cond b (suc n) (level_to ls ss width n)))
      go true e r = h
      go false e r = r (leb-false (full (suc n)) width e)

-- the column that has the next character

abbrev Waits : List ℕ → List ℕ → ℕ → List ℕ → ℕ → Type 0
Waits ls ss t ws i = (t < excess ls ss i) × (excess ls ws i ≤ t)

waits_true : (ls ss : List ℕ) (t : ℕ) (ws : List ℕ) (i : ℕ) → waits ls ss t ws i ≡ true → Waits ls ss t ws i
waits_true ls ss t ws i = go (ltb t (excess ls ss i)) (leb (excess ls ws i) t) refl refl
  where
    go : (a b : Bool) → ltb t (excess ls ss i) ≡ a → leb (excess ls ws i) t ≡ b → (a && b) ≡ true → Waits ls ss t ws i
    go true true p q e = (ltb-true _ _ p, leb-true _ _ q)
    go true false p q e = absurd (false≢true e)
    go false b p q e = absurd (false≢true e)

waits_false : (ls ss : List ℕ) (t : ℕ) (ws : List ℕ) (i : ℕ) → waits ls ss t ws i ≡ false → ¬ Waits ls ss t ws i
waits_false ls ss t ws i = go (ltb t (excess ls ss i)) (leb (excess ls ws i) t) refl refl
  where
    go : (a b : Bool) → ltb t (excess ls ss i) ≡ a → leb (excess ls ws i) t ≡ b → (a && b) ≡ false → ¬ Waits ls ss t ws i
    go true true p q e w = absurd (true≢false e)
    go true false p q e w = omega (arith, leb-false (excess ls ws i) t q, w.1)
    go false b p q e w = omega (arith, ltb-false t (excess ls ss i) p, w.0)

abbrev Sooner : List ℕ → List ℕ → ℕ → List ℕ → ℕ → ℕ → Type 0
Sooner ls ss t ws p i = Waits ls ss t ws p × (at ls p ≤ at ls i) × (at ls p ≡ at ls i → i ≤ p)

module _ (ls ss : List ℕ) (t : ℕ) (ws : List ℕ) (n p : ℕ) (ih : (i : ℕ) → i < n → Waits ls ss t ws i → Sooner ls ss t ws p i) where
  heir_step : (a b c : Bool) → waits ls ss t ws n ≡ a → waits ls ss t ws p ≡ b → leb (at ls n) (at ls p) ≡ c → (i : ℕ) → i < suc n →
      Dec (i ≡ n) → Waits ls ss t ws i → Sooner ls ss t ws (cond (a && (not b || c)) n p) i
  heir_step true true true e f g i h (yes q) w = rw q (waits_true ls ss t ws n e, omega arith, omega arith)
  heir_step true true true e f g i h (no q) w =
      let r = ih i (omega arith) w in
      (waits_true ls ss t ws n e, omega (arith, r.1, leb-true (at ls n) (at ls p) g), omega arith)
  heir_step true true false e f g i h (yes q) w =
      rw q (waits_true ls ss t ws p f, omega (arith, leb-false (at ls n) (at ls p) g), omega (arith, leb-false (at ls n) (at ls p) g))
  heir_step true true false e f g i h (no q) w = ih i (omega arith) w
  heir_step true false c e f g i h (yes q) w = rw q (waits_true ls ss t ws n e, omega arith, omega arith)
  heir_step true false c e f g i h (no q) w = absurd (waits_false ls ss t ws p f (ih i (omega arith) w).0)
  heir_step false b c e f g i h (yes q) w = absurd (waits_false ls ss t ws n e (rw q at w))
  heir_step false b c e f g i h (no q) w = ih i (omega arith) w

heir_tops : (ls ss : List ℕ) (t : ℕ) (ws : List ℕ) (n i : ℕ) → i < n → Waits ls ss t ws i → Sooner ls ss t ws (receiver ls ss t ws n) i
unfolding receiver
heir_tops ls ss t ws zero i h w = absurd (not-suc-le-zero h)
heir_tops ls ss t ws (suc n) i h w =
    heir_step ls ss t ws n (receiver ls ss t ws n) (heir_tops ls ss t ws n) _ _ _ refl refl refl i h (ℕ_discrete i n) w

-- what holds while the characters left over are given

pub record Given (ls ss : List ℕ) (t : ℕ) (ws : List ℕ) : Type 0 where
  pub least : Below ls ws
  pub share : Below ws ss
  pub top : (i : ℕ) → at ws i ≤ suc (at ls i + t)
  pub up : (i : ℕ) → at ws i < at ss i → at ls i + t ≤ at ws i
  pub first : (i j : ℕ) → Waits ls ss t ws i → at ls j + t < at ws j → (at ls j ≤ at ls i) × (at ls j ≡ at ls i → i < j)

given_level : (ls ss : List ℕ) (t : ℕ) → Below ls ss → Given ls ss t (at_level ls ss t)
given_level ls ss t b =
    record {
      least = (b.0 ∙ sym (length_level ls ss t b.0), λ i. rw (f i) (omega arith));
      share = (length_level ls ss t b.0, λ i. rw (f i) (omega (arith, b.1 i)));
      top = λ i. rw (f i) (omega arith);
      up = λ i. rw (f i) (omega (arith, b.1 i));
      first = λ i j w. rw (f j) (λ h. absurd (omega arith));
    }
  where
    f : (i : ℕ) → at (at_level ls ss t) i ≡ at ls i + min (at ss i - at ls i) t
    f = at_level_lem ls ss t b.0

pub given_held : (ls ss : List ℕ) (t : ℕ) (ws : List ℕ) → Given ls ss t ws → Held ls ss ws
given_held ls ss t ws g =
    record {
      least = g.least;
      share = g.share;
      settled = λ i j h l.
          let u = g.up i h in
          let v = g.top j in
          let f : at ws j - at ls j ≡ suc (at ws i - at ls i) → (at ls j ≤ at ls i) × (at ls j ≡ at ls i → i < j) =
          λ e. g.first i j (omega arith) (omega arith) in
          (omega arith, λ e. omega (arith, (f e).0), λ e d. (f e).1 (omega arith));
    }

-- a column waits one as long as the widths are fewer than those of the next level
heir_waits : (ls ss : List ℕ) (t : ℕ) (ws : List ℕ) → Given ls ss t ws → sum ws < sum (at_level ls ss (suc t)) →
    Waits ls ss t ws (receiver ls ss t ws (length ws))
heir_waits ls ss t ws g h = go (dec_lt t (excess ls ss p)) (dec_le (excess ls ws p) t)
  where
    p : ℕ
    p = receiver ls ss t ws (length ws)

    e : length ls ≡ length ss
    e = g.least.0 ∙ g.share.0

    more : ¬ Waits ls ss t ws p → (i : ℕ) → i < length (at_level ls ss (suc t)) → at (at_level ls ss (suc t)) i ≤ at ws i
    more n i l = rw (at_level_lem ls ss (suc t) e i) (each (dec_lt t (excess ls ss i)) (dec_le (excess ls ws i) t) (dec_lt (at ws i) (at ss i)))
      where
        each : Dec (t < excess ls ss i) → Dec (excess ls ws i ≤ t) → Dec (at ws i < at ss i) → at ls i + min (at ss i - at ls i) (suc t) ≤ at ws i
        each (yes a) (yes b) d =
            absurd (n (heir_tops ls ss t ws (length ws) i (omega (arith, length_level ls ss (suc t) e, g.share.0)) (a, b)).0)
        each (yes a) (no b) d = omega (arith, g.least.1 i)
        each (no a) b (yes c) = absurd (omega (arith, g.up i c))
        each (no a) b (no c) = omega (arith, g.least.1 i)

    none : ¬ Waits ls ss t ws p → ⊥
    none n =
        omega (
          arith,
          sum_le (at_level ls ss (suc t)) ws (below_in (at_level ls ss (suc t)) ws (length_level ls ss (suc t) e ∙ sym g.share.0) (more n)),
        )

    go : Dec (t < excess ls ss p) → Dec (excess ls ws p ≤ t) → Waits ls ss t ws p
    go (yes a) (yes b) = (a, b)
    go (no a) b = absurd (none (λ w. a w.0))
    go (yes a) (no b) = absurd (none (λ w. b w.1))

pub length_give_once : (ls ss : List ℕ) (t : ℕ) (ws : List ℕ) → length (give_once ls ss t ws) ≡ length ws
unfolding give_once
length_give_once ls ss t ws = length-set ws _ _

module _ (ls ss : List ℕ) (t : ℕ) (ws : List ℕ) (g : Given ls ss t ws) (h : sum ws < sum (at_level ls ss (suc t))) where
  p : ℕ
  p = receiver ls ss t ws (length ws)

  p_waits : Waits ls ss t ws p
  unfolding p
  p_waits = heir_waits ls ss t ws g h

  p_in : p < length ws
  p_in =
      let l : t < at ss p = omega (arith, p_waits.0) in
      omega (arith, g.share.0, in_range ss p l)

  give_same : at (give_once ls ss t ws) p ≡ suc (at ws p)
  unfolding p give_once
  give_same = get_or-set_same ws p _ 0 p_in

  give_other : (j : ℕ) → j ≢ p → at (give_once ls ss t ws) j ≡ at ws j
  unfolding p give_once
  give_other j n = get_or-set_other ws p j _ 0 n

  p_first : (i : ℕ) → i < length ws → Waits ls ss t ws i → Sooner ls ss t ws p i
  unfolding p
  p_first = heir_tops ls ss t ws (length ws)

  sum_give_once : sum (give_once ls ss t ws) ≡ suc (sum ws)
  unfolding p give_once
  sum_give_once = omega (arith, sum_set ws p (suc (at ws p)) p_in)

  given_once : Given ls ss t (give_once ls ss t ws)
  given_once =
      record {
        least = (g.least.0 ∙ sym (length_give_once ls ss t ws), λ i. l i (ℕ_discrete i p));
        share = (length_give_once ls ss t ws ∙ g.share.0, λ i. s i (ℕ_discrete i p));
        top = λ i. o i (ℕ_discrete i p);
        up = λ i. u i (ℕ_discrete i p);
        first = λ i j. f i j (ℕ_discrete i p) (ℕ_discrete j p);
      }
    where
      v : List ℕ
      v = give_once ls ss t ws

      l : (i : ℕ) → Dec (i ≡ p) → at ls i ≤ at v i
      l i (yes q) = rw (q, give_same) (omega (arith, g.least.1 p))
      l i (no q) = rw (give_other i q) (g.least.1 i)

      s : (i : ℕ) → Dec (i ≡ p) → at v i ≤ at ss i
      s i (yes q) = rw (q, give_same) (omega (arith, p_waits))
      s i (no q) = rw (give_other i q) (g.share.1 i)

      o : (i : ℕ) → Dec (i ≡ p) → at v i ≤ suc (at ls i + t)
      o i (yes q) = rw (q, give_same) (omega (arith, p_waits))
      o i (no q) = rw (give_other i q) (g.top i)

      u : (i : ℕ) → Dec (i ≡ p) → at v i < at ss i → at ls i + t ≤ at v i
      u i (yes q) = rw (q, give_same) (λ h. omega (arith, g.up p (omega arith)))
      u i (no q) = rw (give_other i q) (g.up i)

      f : (i j : ℕ) → Dec (i ≡ p) → Dec (j ≡ p) → Waits ls ss t v i → at ls j + t < at v j → (at ls j ≤ at ls i) × (at ls j ≡ at ls i → i < j)
      f i j (yes q) d = rw (q, give_same) (λ w. absurd (omega (arith, w, p_waits, g.up p (omega (arith, p_waits)))))
      f i j (no q) (yes r) =
          rw (r, give_other i q) (λ w h.
          let z = p_first i (omega (arith, g.share.0, in_range ss i {k = t} (omega (arith, w.0)))) w in
          (z.1, λ e. omega (arith, z.2 e)))
      f i j (no q) (no r) = rw (give_other i q, give_other j r) (g.first i j)

given_by : (k : ℕ) (ls ss : List ℕ) (t : ℕ) (ws : List ℕ) → sum ws + k ≤ sum (at_level ls ss (suc t)) → Given ls ss t ws → Given ls ss t (give_by k ls ss t ws)
unfolding give_by
given_by zero ls ss t ws h g = g
given_by (suc k) ls ss t ws h g =
    let l : sum ws < sum (at_level ls ss (suc t)) = omega arith in
    given_by k ls ss t (give_once ls ss t ws) (omega (arith, sum_give_once ls ss t ws g l)) (given_once ls ss t ws g l)

sum_give_by : (k : ℕ) (ls ss : List ℕ) (t : ℕ) (ws : List ℕ) → sum ws + k ≤ sum (at_level ls ss (suc t)) → Given ls ss t ws →
    sum (give_by k ls ss t ws) ≡ sum ws + k
unfolding give_by
sum_give_by zero ls ss t ws h g = omega arith
sum_give_by (suc k) ls ss t ws h g =
    let l : sum ws < sum (at_level ls ss (suc t)) = omega arith in
    let e = sum_give_once ls ss t ws g l in
    omega (arith, e, sum_give_by k ls ss t (give_once ls ss t ws) (omega (arith, e)) (given_once ls ss t ws g l))

-- a higher level gives no smaller width
level_mono : (ls ss : List ℕ) (t u : ℕ) → length ls ≡ length ss → t ≤ u → sum (at_level ls ss t) ≤ sum (at_level ls ss u)
level_mono ls ss t u e h =
    sum_le (at_level ls ss t) (at_level ls ss u)
    (length_level ls ss t e ∙ sym (length_level ls ss u e), λ i. rw (at_level_lem ls ss t e i, at_level_lem ls ss u e i) (omega arith))

module _ (ls ss : List ℕ) (width : ℕ) (b : Below ls ss) (fits : sum ls + gaps (length ls) ≤ width)
    (big : width < sum ss + gaps (length ss)) where
  -- nothing overflows at the level
  pub level_ok : sum (at_level ls ss (level_of ls ss width)) + gaps (length ss) ≤ width
  unfolding level_of full
  level_ok =
      let k = level_fits ls ss width (sum ss)
      (omega (
        arith,
        b.0,
        length_level ls ss 0 b.0,
        sum_le (at_level ls ss 0) ls (length_level ls ss 0 b.0 ∙ sym b.0, λ i. rw (at_level_lem ls ss 0 b.0 i) (omega arith)),
      )) in
      omega (arith, length_level ls ss (level_to ls ss width (sum ss)) b.0)

  -- something does at the next number
  pub level_next : width < sum (at_level ls ss (suc (level_of ls ss width))) + gaps (length ss)
  unfolding level_of full
  level_next =
      let k = level_last ls ss width (sum ss)
      (omega (
        arith,
        length_level ls ss (suc (sum ss)) b.0,
        sum_le ss (at_level ls ss (suc (sum ss))) (
          sym (length_level ls ss (suc (sum ss)) b.0),
          λ i. rw (at_level_lem ls ss (suc (sum ss)) b.0 i) (omega (arith, at_le_sum ss i, b.1 i)),
        ),
      )) in
      omega (arith, length_level ls ss (suc (level_to ls ss width (sum ss))) b.0)

  -- the level is the largest
  pub level_largest : (u : ℕ) → level_of ls ss width < u → width < sum (at_level ls ss u) + gaps (length ss)
  level_largest u h = omega (arith, level_next, level_mono ls ss (suc (level_of ls ss width)) u b.0 h)

  t : ℕ
  t = level_of ls ss width

  capacity : sum (at_level ls ss t) + (width - (sum (at_level ls ss t) + gaps (length (at_level ls ss t)))) ≤ sum (at_level ls ss (suc t))
  unfolding t
  capacity = omega (arith, level_ok, level_next, length_level ls ss t b.0)

  leveled_given : Given ls ss t (leveled ls ss width)
  unfolding leveled t
  leveled_given = given_by _ ls ss t (at_level ls ss t) capacity (given_level ls ss t b)

  leveled_sum : sum (leveled ls ss width) + gaps (length ss) ≡ width
  unfolding leveled t
  leveled_sum = omega (arith, level_ok, length_level ls ss t b.0, sum_give_by _ ls ss t (at_level ls ss t) capacity (given_level ls ss t b))

  pub leveled_cut : leveled ls ss width ≡ cut ls ss width
  leveled_cut =
      let c = cut_held ls ss width b fits in
      unique ls ss (leveled ls ss width) (cut ls ss width) (given_held ls ss t (leveled ls ss width) leveled_given) c
      (omega (arith, leveled_sum, cut_fills ls ss width b fits big, c.share.0))

-- the rule of the level and the cutting one by one give the same widths
pub level_cut : (ls ss : List ℕ) (width : ℕ) → Below ls ss → sum ls + gaps (length ls) ≤ width → by_level ls ss width ≡ cut ls ss width
unfolding by_level
level_cut ls ss width b fits = go (leb (sum ss + gaps (length ss)) width) refl
  where
    go : (a : Bool) → leb (sum ss + gaps (length ss)) width ≡ a → cond a ss (leveled ls ss width) ≡ cut ls ss width
    go true e = sym (cut_none ls ss width b fits (leb-true _ _ e))
    go false e = leveled_cut ls ss width b fits (leb-false _ _ e)

-- a number at which nothing overflows, and at whose successor something does, is the level: for any search of it
pub level_is : (ls ss : List ℕ) (width : ℕ) → Below ls ss → sum ls + gaps (length ls) ≤ width → width < sum ss + gaps (length ss) →
    (u : ℕ) → sum (at_level ls ss u) + gaps (length ss) ≤ width → width < sum (at_level ls ss (suc u)) + gaps (length ss) → u ≡ level_of ls ss width
level_is ls ss width b fits big u h k = go (dec_lt u t) (dec_lt t u)
  where
    t : ℕ
    t = level_of ls ss width

    go : Dec (u < t) → Dec (t < u) → u ≡ t
    go (yes l) d = absurd (omega (arith, level_mono ls ss (suc u) t b.0 l, level_ok ls ss width b fits big))
    go (no l) (yes m) = absurd (omega (arith, level_largest ls ss width b fits big u m))
    go (no l) (no m) = omega arith

-- what the rule says of widths holds of those that the cutting leaves
pub cut_given : (ls ss : List ℕ) (width : ℕ) → Below ls ss → sum ls + gaps (length ls) ≤ width → width < sum ss + gaps (length ss) →
    Given ls ss (level_of ls ss width) (cut ls ss width)
unfolding t
cut_given ls ss width b fits big = rw (leveled_cut ls ss width b fits big) at (leveled_given ls ss width b fits big)
