-- The widths that the code writes: at a level, with one more for the columns whose place is below a bound. With the bound 0 they are the widths at
-- the level, with a large one those at the next; from one bound to the next at most one column has one more, since no two have one place. Where
-- they fill the room they are what the cutting leaves.
use mathlib.Core.Path.{◌≡◌, refl, sym, ap, ◌∙◌}
use mathlib.Core.Logic.{◌⊎◌, inl, inr}
use mathlib.Core.List.{List, [], ◌∷◌, ◌++◌}
use Prim.Native.Nat.{ℕ, zero, suc, ◌+◌, ◌-◌, ◌*◌, ◌≤◌, ◌<◌, min}
use native.Mathlib.Omega.{arith}
use native.Mathlib.Decide.{ℕ_discrete, dec_lt}
use lib.ListN.{length, set, take, drop, length-set}
use lib.Seq.{get_or-set_same, get_or-set_other, get_or-append-add, get_or-drop, length-take-le, ext_get_or}
use borrow.Author.Tests.{lt-ltb, le-ltb}
use Rattle.common.specs.Lists.{sum}
use Rattle.common.specs.Limits.{max_lines}
use Rattle.common.proofs.Sum.{sum_set}
use Rattle.common.proofs.Write.{write_more, write_all}
use Rattle.cutting.specs.Cut.{at, excess, gaps, cut, Below}
use Rattle.cutting.specs.Level.{at_level, level_of}
use Rattle.cutting.specs.inner.Fill.{HoldsLeasts, place, width_at, filled_from, filled}
use Rattle.cutting.proofs.Sums.{sum_le, below_in, in_range, at_le_sum}
use Rattle.cutting.proofs.Cut.{cut_held, cut_fills}
use Rattle.cutting.proofs.Best.{find_below, unique}
use Rattle.cutting.proofs.Level.{length_level, at_level_lem, Given, given_held, level_ok, level_next, level_is}

-- one column

pub width_first : (l s t p b : ℕ) → p < b → width_at l s t p b ≡ l + min (s - l) (suc t)
unfolding width_at
width_first l s t p b h = rw (lt-ltb p b h) (omega arith)

pub width_later : (l s t p b : ℕ) → b ≤ p → width_at l s t p b ≡ l + min (s - l) t
unfolding width_at
width_later l s t p b h = rw (le-ltb p b h) (omega arith)

-- a share that is not above the level
pub width_share : (l s t p b : ℕ) → l ≤ s → s - l ≤ t → s ≡ width_at l s t p b
width_share l s t p b h k = go (dec_lt p b)
  where
    go : Dec (p < b) → s ≡ width_at l s t p b
    go (yes q) = omega (arith, width_first l s t p b q)
    go (no q) = omega (arith, width_later l s t p b (omega arith))

-- all columns

length_from : (k : ℕ) (ls ss : List ℕ) (t b : ℕ) → length ls ≡ length ss → length (filled_from k ls ss t b) ≡ length ss
unfolding filled_from
length_from k [] [] t b e = refl
length_from k [] (s ∷ ss) t b e = absurd (omega arith)
length_from k (l ∷ ls) [] t b e = absurd (omega arith)
length_from k (l ∷ ls) (s ∷ ss) t b e = ap suc (length_from (suc k) ls ss t b (omega arith))

at_from : (k : ℕ) (ls ss : List ℕ) (t b : ℕ) → length ls ≡ length ss → (i : ℕ) → i < length ss →
    at (filled_from k ls ss t b) i ≡ width_at (at ls i) (at ss i) t (place (at ls i) (k + i)) b
unfolding filled_from
at_from k [] [] t b e i h = absurd (omega arith)
at_from k [] (s ∷ ss) t b e i h = absurd (omega arith)
at_from k (l ∷ ls) [] t b e i h = absurd (omega arith)
at_from k (l ∷ ls) (s ∷ ss) t b e zero h = ap (λ (j : ℕ). width_at l s t (place l j) b) (omega arith)
at_from k (l ∷ ls) (s ∷ ss) t b e (suc i) h =
    at_from (suc k) ls ss t b (omega arith) i (omega arith)
    ∙ ap (λ (j : ℕ). width_at (at ls i) (at ss i) t (place (at ls i) j) b) (omega arith)

module _ (ls ss : List ℕ) (e : length ls ≡ length ss) (t b : ℕ) where
  pub length_filled : length (filled ls ss t b) ≡ length ss
  length_filled = length_from 0 ls ss t b e

  pub at_filled : (i : ℕ) → i < length ss → at (filled ls ss t b) i ≡ width_at (at ls i) (at ss i) t (place (at ls i) i) b
  at_filled i h = at_from 0 ls ss t b e i h ∙ ap (λ (j : ℕ). width_at (at ls i) (at ss i) t (place (at ls i) j) b) (omega arith)

  -- a column whose place is below the bound, and another
  pub filled_first : (i : ℕ) → i < length ss → place (at ls i) i < b → at (filled ls ss t b) i ≡ at ls i + min (at ss i - at ls i) (suc t)
  filled_first i h p = at_filled i h ∙ width_first (at ls i) (at ss i) t (place (at ls i) i) b p

  pub filled_later : (i : ℕ) → i < length ss → b ≤ place (at ls i) i → at (filled ls ss t b) i ≡ at ls i + min (at ss i - at ls i) t
  filled_later i h p = at_filled i h ∙ width_later (at ls i) (at ss i) t (place (at ls i) i) b p

-- no place is below 0
pub filled_none : (ls ss : List ℕ) (t : ℕ) → length ls ≡ length ss → filled ls ss t 0 ≡ at_level ls ss t
filled_none ls ss t e =
    ext_get_or 0 (filled ls ss t 0) (at_level ls ss t) (length_filled ls ss e t 0 ∙ sym (length_level ls ss t e))
    (λ i h.
    filled_later ls ss e t 0 i (omega (arith, length_filled ls ss e t 0)) (omega arith) ∙ sym (at_level_lem ls ss t e i))

-- every place is below the bound, if no least passes the room
pub filled_all : (ls ss : List ℕ) (t capacity : ℕ) → length ls ≡ length ss → sum ls ≤ capacity →
    filled ls ss t (capacity * 4096 + 4096) ≡ at_level ls ss (suc t)
filled_all ls ss t capacity e f =
    ext_get_or 0 (filled ls ss t b) (at_level ls ss (suc t)) (length_filled ls ss e t b ∙ sym (length_level ls ss (suc t) e))
    (λ i h.
    filled_first ls ss e t b i (omega (arith, length_filled ls ss e t b)) (omega (arith, at_le_sum ls i)) ∙ sym (at_level_lem ls ss (suc t) e i))
  where
    b : ℕ
    b = capacity * 4096 + 4096

-- one bound more

-- lists of which one passes the other by one, at one column at the most
one_more : (xs ys : List ℕ) → length xs ≡ length ys → ((i : ℕ) → i < length ys → at ys i ≤ suc (at xs i)) →
    ((i j : ℕ) → at xs i < at ys i → at xs j < at ys j → i ≡ j) → sum ys ≤ suc (sum xs)
one_more xs ys e up only = go (find_below xs ys (length ys))
  where
    go : ((i : ℕ) × (at xs i < at ys i)) ⊎ ((i : ℕ) → i < length ys → at ys i ≤ at xs i) → sum ys ≤ suc (sum xs)
    go (inr f) = omega (arith, sum_le ys xs (below_in ys xs (sym e) f))
    go (inl (i, l)) = omega (arith, sum_set xs i (suc (at xs i)) inside, sum_le ys zs (below_in ys zs (sym e ∙ sym (length-set xs i _)) each))
      where
        inside : i < length xs
        inside = omega (arith, in_range ys i l)

        zs : List ℕ
        zs = set xs i (suc (at xs i))

        at_j : (j : ℕ) → j < length ys → Dec (j ≡ i) → Dec (at xs j < at ys j) → at ys j ≤ at zs j
        at_j j h (yes q) d = rw (q, get_or-set_same xs i (suc (at xs i)) 0 inside) (up i (omega arith))
        at_j j h (no q) (yes m) = absurd (q (only j i m l))
        at_j j h (no q) (no m) = rw (get_or-set_other xs i j (suc (at xs i)) 0 q) (omega arith)

        each : (j : ℕ) → j < length ys → at ys j ≤ at zs j
        each j h = at_j j h (ℕ_discrete j i) (dec_lt (at xs j) (at ys j))

module _ (ls ss : List ℕ) (e : length ls ≡ length ss) (t b : ℕ) where
  same_first : (i : ℕ) → i < length ss → place (at ls i) i < b → at (filled ls ss t (suc b)) i ≡ at (filled ls ss t b) i
  same_first i h p = filled_first ls ss e t (suc b) i h (omega arith) ∙ sym (filled_first ls ss e t b i h p)

  same_later : (i : ℕ) → i < length ss → b < place (at ls i) i → at (filled ls ss t (suc b)) i ≡ at (filled ls ss t b) i
  same_later i h p = filled_later ls ss e t (suc b) i h p ∙ sym (filled_later ls ss e t b i h (omega arith))

  up_one : (i : ℕ) → i < length ss → at (filled ls ss t (suc b)) i ≤ suc (at (filled ls ss t b) i)
  up_one i h = go (dec_lt (place (at ls i) i) b) (dec_lt b (place (at ls i) i))
    where
      go : Dec (place (at ls i) i < b) → Dec (b < place (at ls i) i) → at (filled ls ss t (suc b)) i ≤ suc (at (filled ls ss t b) i)
      go (yes p) d = omega (arith, same_first i h p)
      go (no p) (yes q) = omega (arith, same_later i h q)
      go (no p) (no q) = omega (arith, filled_first ls ss e t (suc b) i h (omega arith), filled_later ls ss e t b i h (omega arith))

  -- the column that has one more stands at the place b
  placed : (i : ℕ) → i < length ss → at (filled ls ss t b) i < at (filled ls ss t (suc b)) i → place (at ls i) i ≡ b
  placed i h l = go (dec_lt (place (at ls i) i) b) (dec_lt b (place (at ls i) i))
    where
      go : Dec (place (at ls i) i < b) → Dec (b < place (at ls i) i) → place (at ls i) i ≡ b
      go (yes p) d = absurd (omega (arith, same_first i h p))
      go (no p) (yes q) = absurd (omega (arith, same_later i h q))
      go (no p) (no q) = omega arith

  pub filled_step : length ss ≤ max_lines → sum (filled ls ss t (suc b)) ≤ suc (sum (filled ls ss t b))
  filled_step few =
      one_more (filled ls ss t b) (filled ls ss t (suc b)) (n ∙ sym m)
      (λ i h. up_one i (omega (arith, m)))
      (λ i j h k.
      let p = in_range (filled ls ss t (suc b)) i h in
      let q = in_range (filled ls ss t (suc b)) j k in
      omega (arith, m, placed i (omega (arith, m)) h, placed j (omega (arith, m)) k))
    where
      n : length (filled ls ss t b) ≡ length ss
      n = length_filled ls ss e t b

      m : length (filled ls ss t (suc b)) ≡ length ss
      m = length_filled ls ss e t (suc b)

-- what is written is what the rule says of widths at the level t

module _ (ls ss : List ℕ) (t b : ℕ) (below : Below ls ss) (few : length ss ≤ max_lines) where
  ws : List ℕ
  ws = filled ls ss t b

  -- what holds of a column
  record Column (i : ℕ) : Type 0 where
    least : at ls i ≤ at ws i
    share : at ws i ≤ at ss i
    top : at ws i ≤ suc (at ls i + t)
    up : at ws i < at ss i → at ls i + t ≤ at ws i
    late : t < excess ls ss i → excess ls ws i ≤ t → b ≤ place (at ls i) i
    soon : at ls i + t < at ws i → place (at ls i) i < b

  column : (i : ℕ) → i < length ss → Column i
  unfolding ws
  column i h = go (dec_lt (place (at ls i) i) b)
    where
      go : Dec (place (at ls i) i < b) → Column i
      go (yes p) =
          let w = filled_first ls ss below.0 t b i h p in
          let l = below.1 i in
          record { least = omega arith; share = omega arith; top = omega arith; up = omega arith; late = omega arith; soon = omega arith }
      go (no p) =
          let w = filled_later ls ss below.0 t b i h (omega arith) in
          let l = below.1 i in
          record { least = omega arith; share = omega arith; top = omega arith; up = omega arith; late = omega arith; soon = omega arith }

  same_length : length ws ≡ length ss
  unfolding ws
  same_length = length_filled ls ss below.0 t b

  filled_given : Given ls ss t ws
  filled_given =
      let n = same_length in
      record {
        least = below_in ls ws (below.0 ∙ sym n) (λ i h. (column i (omega (arith, below.0))).least);
        share = below_in ws ss n (λ i h. (column i (omega arith)).share);
        top = λ i. top i (dec_lt (suc (at ls i + t)) (at ws i));
        up = λ i h. (column i (in_range ss i h)).up h;
        first = λ i j w h.
            let a = in_range ss i {k = t} (omega (arith, w.0)) in
            let d = in_range ws j h in
            let p = (column i a).late w.0 w.1 in
            let q = (column j (omega arith)).soon h in
            (omega arith, λ k. omega arith);
      }
    where
      top : (i : ℕ) → Dec (suc (at ls i + t) < at ws i) → at ws i ≤ suc (at ls i + t)
      top i (yes h) = absurd (omega (arith, (column i (omega (arith, in_range ws i h, same_length))).top))
      top i (no h) = omega arith

-- where it fills the room it is what the cutting leaves

pub filled_cut : (ls ss : List ℕ) (capacity t b : ℕ) → HoldsLeasts ls ss capacity → capacity < sum ss → sum (filled ls ss t b) ≡ capacity →
    filled ls ss t b ≡ cut ls ss (capacity + gaps (length ss))
unfolding ws
filled_cut ls ss capacity t b r over full =
    let w = capacity + gaps (length ss) in
    let fits : sum ls + gaps (length ls) ≤ w = omega (arith, r.above.0, r.enough) in
    let c = cut_held ls ss w r.above fits in
    unique ls ss (filled ls ss t b) (cut ls ss w) (given_held ls ss t (filled ls ss t b) (filled_given ls ss t b r.above r.few)) c
    (omega (arith, cut_fills ls ss w r.above fits (omega arith), c.share.0))

-- the search of the level

module _ (ls ss : List ℕ) (capacity : ℕ) (r : HoldsLeasts ls ss capacity) (over : capacity < sum ss) where
  -- the level 0 leaves the leasts
  pub level_low : sum (filled ls ss 0 0) ≤ capacity
  level_low =
      let e = r.above.0 in
      rw (filled_none ls ss 0 e)
      (omega (
        arith,
        r.enough,
        sum_le (at_level ls ss 0) ls (length_level ls ss 0 e ∙ sym e, λ i. rw (at_level_lem ls ss 0 e i) (omega arith)),
      ))

  -- a level above the room overflows it: at one column, or at all, which have their shares
  pub level_high : capacity < sum (filled ls ss (suc capacity) 0)
  level_high = go (dec_lt capacity (sum (filled ls ss (suc capacity) 0)))
    where
      e : length ls ≡ length ss
      e = r.above.0

      each : sum (at_level ls ss (suc capacity)) ≤ capacity → (i : ℕ) → at ss i ≤ at (at_level ls ss (suc capacity)) i
      each h i = omega (arith, at_level_lem ls ss (suc capacity) e i, at_le_sum (at_level ls ss (suc capacity)) i, r.above.1 i)

      go : Dec (capacity < sum (filled ls ss (suc capacity) 0)) → capacity < sum (filled ls ss (suc capacity) 0)
      go (yes h) = h
      go (no h) =
          let s : sum (at_level ls ss (suc capacity)) ≤ capacity = omega (arith, ap sum (filled_none ls ss (suc capacity) e)) in
          absurd (omega (arith, sum_le ss (at_level ls ss (suc capacity)) (sym (length_level ls ss (suc capacity) e), each s)))

  -- the number at which nothing overflows, and at the next something does
  pub level_found : (u : ℕ) → sum (filled ls ss u 0) ≤ capacity → capacity < sum (filled ls ss (suc u) 0) → u ≡ level_of ls ss (capacity + gaps (length ss))
  level_found u h k =
      let e = r.above.0 in
      level_is ls ss (capacity + gaps (length ss)) r.above (omega (arith, e, r.enough)) (omega arith) u
      (omega (arith, ap sum (filled_none ls ss u e)))
      (omega (arith, ap sum (filled_none ls ss (suc u) e)))

  -- the search of the bound

  module _ (t : ℕ) (q : t ≡ level_of ls ss (capacity + gaps (length ss))) where
    w : ℕ
    w = capacity + gaps (length ss)

    enough : sum ls + gaps (length ls) ≤ w
    unfolding w
    enough = omega (arith, r.above.0, r.enough)

    passes : w < sum ss + gaps (length ss)
    unfolding w
    passes = omega arith

    pub bound_low : sum (filled ls ss t 0) ≤ capacity
    unfolding w
    bound_low = rw (filled_none ls ss t r.above.0, q) (omega (arith, level_ok ls ss w r.above enough passes))

    pub bound_high : capacity < sum (filled ls ss t (capacity * 4096 + 4096))
    unfolding w
    bound_high =
        rw (filled_all ls ss t capacity r.above.0 r.enough, q) (omega (arith, level_next ls ss w r.above enough passes))

  -- the bound at which nothing overflows, and at the next something does
  pub bound_found : (t b : ℕ) → sum (filled ls ss t b) ≤ capacity → capacity < sum (filled ls ss t (suc b)) → sum (filled ls ss t b) ≡ capacity
  bound_found t b h k = omega (arith, filled_step ls ss r.above.0 t b r.few)

-- what the code keeps while it writes the widths over the shares: those up to i are written
pub record Writing (ls ss : List ℕ) (t b : ℕ) (ws : List ℕ) (i : ℕ) : Type 0 where
  pub passed : i ≤ length ss
  pub lasts : length ws ≡ length ss
  pub written : ws ≡ take i (filled ls ss t b) ++ drop i ss

module _ (ls ss : List ℕ) (t b : ℕ) (e : length ls ≡ length ss) where
  pub writing_start : Writing ls ss t b ss 0
  writing_start = record { passed = omega arith; lasts = refl; written = refl }

  -- the share that is read still stands there
  pub writing_share : {ws : List ℕ} {i : ℕ} → Writing ls ss t b ws i → at ws i ≡ at ss i
  writing_share {ws} {i} w =
      let g = take i (filled ls ss t b) in
      let n : length g ≡ i = length-take-le i (filled ls ss t b) (omega (arith, w.passed, length_filled ls ss e t b)) in
      ap (λ (l : List ℕ). at l i) w.written
      ∙ ap (at (g ++ drop i ss)) (omega arith)
      ∙ get_or-append-add g (drop i ss) 0 0
      ∙ get_or-drop i ss 0 0
      ∙ ap (at ss) (omega arith)

  pub writing_turn : {ws : List ℕ} {i : ℕ} → Writing ls ss t b ws i → i < length ss → {v : ℕ} →
      v ≡ width_at (at ls i) (at ws i) t (place (at ls i) i) b → Writing ls ss t b (set ws i v) (i + 1)
  writing_turn {ws} {i} w h {v} q =
      let s : v ≡ at (filled ls ss t b) i =
      q ∙ rw (writing_share w) (sym (at_filled ls ss e t b i h)) in
      record {
        passed = omega arith;
        lasts = length-set ws i v ∙ w.lasts;
        written = write_more (filled ls ss t b) ss (length_filled ls ss e t b) ws i v h w.written s;
      }

  pub writing_end : {ws : List ℕ} {i : ℕ} → Writing ls ss t b ws i → length ss ≤ i → ws ≡ filled ls ss t b
  writing_end {ws} {i} w h = write_all (filled ls ss t b) ss (length_filled ls ss e t b) ws i h w.written
