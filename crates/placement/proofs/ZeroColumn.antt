-- When a column is 0 wide sideways. A column that is cut to 0 leaves none above its least width but for later ones of least width 0, by the
-- order of the cuts; so the widths sum to no more than least widths and such columns, and they fill the width. Where it keeps a character, all
-- of those keep one too, and the sum is larger.
use mathlib.Core.Bool.{Bool, true, false, cond, ◌&&◌}
use mathlib.Core.Logic.{◌⊎◌, inl, inr}
use mathlib.Core.Path.{◌≡◌, refl, sym, ap, ◌∙◌}
use mathlib.Core.List.{List, [], ◌∷◌}
use Prim.Native.Nat.{ℕ, zero, suc, ◌+◌, ◌*◌, ◌/◌, ◌≤◌, ◌<◌}
use native.Mathlib.Nat.{div-eq_of_lt, div-add-mod', mod-lt}
use native.Mathlib.Decide.{dec_lt}
use native.Mathlib.Omega.{arith}
use lib.Dec.{eqb, ltb}
use lib.ListN.{length, get_or-eq_default}
use borrow.Author.Tests.{ltb-true, eqb-true, lt-ltb, le-ltb, eq-eqb}
use Rattle.common.specs.Lists.{sum}
use Rattle.columns.specs.Columns.{up_to}
use Rattle.columns.proofs.Upto.{length_up_to, at_up_to}
use Rattle.cutting.specs.Cut.{gaps, at, Below}
use Rattle.widths.specs.Share.{share, shares}
use Rattle.widths.specs.Widths.{final_widths}
use Rattle.answers.specs.declared.Way.TheVariants.{Sideways}
use Rattle.cutting.proofs.Sums.{at_le_sum, in_range}
use Rattle.cutting.proofs.Cut.{Held, cut_held}
use Rattle.widths.proofs.Share.{Final, final, at_shares}
use Rattle.placement.specs.Why.{later_one, later, Why, empty, little, cut_away}

-- sums of lists that are compared figure by figure
sum_two : (xs ys zs : List ℕ) → length xs ≡ length ys → length ys ≡ length zs → ((k : ℕ) → at xs k ≤ at ys k + at zs k) → sum xs ≤ sum ys + sum zs
unfolding sum
sum_two [] ys zs e d f = omega arith
sum_two (x ∷ xs) [] zs e d f = absurd (omega arith)
sum_two (x ∷ xs) (y ∷ ys) [] e d f = absurd (omega arith)
sum_two (x ∷ xs) (y ∷ ys) (z ∷ zs) e d f =
    omega (arith, f 0, sum_two xs ys zs (omega arith) (omega arith) (λ k. f (suc k)))

two_sum : (xs ys zs : List ℕ) → length xs ≡ length ys → length ys ≡ length zs → ((k : ℕ) → at ys k + at zs k ≤ at xs k) → sum ys + sum zs ≤ sum xs
unfolding sum
two_sum [] [] [] e d f = omega arith
two_sum [] [] (z ∷ zs) e d f = absurd (omega arith)
two_sum [] (y ∷ ys) zs e d f = absurd (omega arith)
two_sum (x ∷ xs) [] zs e d f = absurd (omega arith)
two_sum (x ∷ xs) (y ∷ ys) [] e d f = absurd (omega arith)
two_sum (x ∷ xs) (y ∷ ys) (z ∷ zs) e d f =
    omega (arith, f 0, two_sum xs ys zs (omega arith) (omega arith) (λ k. f (suc k)))

two_sum_more : (xs ys zs : List ℕ) (j : ℕ) → length xs ≡ length ys → length ys ≡ length zs → ((k : ℕ) → at ys k + at zs k ≤ at xs k) →
    at ys j + at zs j < at xs j → sum ys + sum zs < sum xs
unfolding sum
two_sum_more [] ys zs j e d f h = absurd (omega arith)
two_sum_more (x ∷ xs) [] zs j e d f h = absurd (omega arith)
two_sum_more (x ∷ xs) (y ∷ ys) [] j e d f h = absurd (omega arith)
two_sum_more (x ∷ xs) (y ∷ ys) (z ∷ zs) zero e d f h =
    omega (arith, two_sum xs ys zs (omega arith) (omega arith) (λ k. f (suc k)))
two_sum_more (x ∷ xs) (y ∷ ys) (z ∷ zs) (suc j) e d f h =
    omega (arith, f 0, two_sum_more xs ys zs j (omega arith) (omega arith) (λ k. f (suc k)) h)

one_yes : (ls ss : List ℕ) (j k : ℕ) → j < k → at ls k ≡ 0 → 0 < at ss k → later_one ls ss j k ≡ 1
one_yes ls ss j k a b c = rw (lt-ltb j k a, eq-eqb (at ls k) 0 b, lt-ltb 0 (at ss k) c)

one_self : (ls ss : List ℕ) (j : ℕ) → later_one ls ss j j ≡ 0
one_self ls ss j = rw (le-ltb j j (omega arith))

-- 1, and then why, or 0
abbrev One : List ℕ → List ℕ → ℕ → ℕ → Type 0
One ls ss j k = (later_one ls ss j k ≤ 1) × (0 < later_one ls ss j k → (j < k) × (at ls k ≡ 0) × (0 < at ss k))

one_why : (ls ss : List ℕ) (j k : ℕ) → One ls ss j k
one_why ls ss j k = go (ltb j k) (eqb (at ls k) 0) (ltb 0 (at ss k)) refl refl refl
  where
    go : (a b c : Bool) → ltb j k ≡ a → eqb (at ls k) 0 ≡ b → ltb 0 (at ss k) ≡ c →
        (cond (a && (b && c)) 1 0 ≤ 1) × (0 < cond (a && (b && c)) 1 0 → (j < k) × (at ls k ≡ 0) × (0 < at ss k))
    go true true true p q r = (omega arith, λ h. (ltb-true j k p, eqb-true (at ls k) 0 q, ltb-true 0 (at ss k) r))
    go true true false p q r = (omega arith, λ h. absurd (omega arith))
    go true false c p q r = (omega arith, λ h. absurd (omega arith))
    go false b c p q r = (omega arith, λ h. absurd (omega arith))

-- leasts ls, shares ss and final widths ws; column j
module _ (zs ls ss ws : List ℕ) (width : ℕ) (f : Final zs ls ss ws width) (h : Held ls ss ws) (j : ℕ) where
  ones : List ℕ
  ones = up_to (length ss) (later_one ls ss j)

  ones_length : length ones ≡ length ss
  unfolding ones
  ones_length = length_up_to (length ss) (later_one ls ss j)

  ones_at : (k : ℕ) → k < length ss → at ones k ≡ later_one ls ss j k
  unfolding ones
  ones_at k l = at_up_to (length ss) (later_one ls ss j) k l

  -- where a column is below its share the shares overflow, and the widths fill the width
  under : at ws j < at ss j → sum ws + gaps (length ws) ≡ width
  under l = go (dec_lt width (sum ss + gaps (length ss)))
    where
      go : Dec (width < sum ss + gaps (length ss)) → sum ws + gaps (length ws) ≡ width
      go (yes o) = f.fills o
      go (no o) = absurd (omega (arith, ap (λ (l : List ℕ). at l j) (f.uncut (omega arith))))

  -- a column that is cut to 0 leaves no other above its least width, but for later ones of least width 0, which may keep one character
  pub cut_leaves : at ws j ≡ 0 → at ws j < at ss j → (k : ℕ) → at ls k < at ws k → (j < k) × (at ls k ≡ 0) × (at ws k ≡ 1)
  cut_leaves e l k p =
      let a = h.settled j k l p in
      let w = a.1 (omega (arith, a.0)) in
      (a.2 (omega (arith, a.0)) (omega (arith, a.0)), omega (arith, a.0), omega (arith, a.0))

  leaves : at ws j ≡ 0 → at ws j < at ss j → (k : ℕ) → at ws k ≤ at ls k + at ones k
  leaves e l k = go (dec_lt (at ls k) (at ws k))
    where
      go : Dec (at ls k < at ws k) → at ws k ≤ at ls k + at ones k
      go (no p) = omega arith
      go (yes p) =
          let a = cut_leaves e l k p in
          let s = h.share.1 k in
          omega (arith, a.2, ones_at k (in_range ss k {k = 0} (omega (arith, a.2))), one_yes ls ss j k a.0 a.1 (omega (arith, a.2)))

  zero_cut : at ws j ≡ 0 → at ws j < at ss j → width ≤ sum ls + later ls ss j + gaps (length ss)
  unfolding ones later
  zero_cut e l =
      omega (
        arith,
        under l,
        h.share.0,
        sum_two ws ls ones (sym h.least.0) (h.least.0 ∙ h.share.0 ∙ sym ones_length) (leaves e l),
      )

  -- where it keeps a character, so does each of those
  kept_leaves : at ls j ≡ 0 → 0 < at ws j → (k : ℕ) → at ls k + at ones k ≤ at ws k
  kept_leaves e l k = go (dec_lt k (length ss)) (dec_lt 0 (later_one ls ss j k))
    where
      go : Dec (k < length ss) → Dec (0 < later_one ls ss j k) → at ls k + at ones k ≤ at ws k
      go (no p) d = omega (arith, h.least.1 k, get_or-eq_default ones 0 {n = k} (omega (arith, ones_length)))
      go (yes p) (no d) = omega (arith, h.least.1 k, ones_at k p)
      go (yes p) (yes d) = some (dec_lt 0 (at ws k))
        where
          some : Dec (0 < at ws k) → at ls k + at ones k ≤ at ws k
          some (yes q) = omega (arith, ones_at k p, (one_why ls ss j k).0, (one_why ls ss j k).1 d)
          some (no q) =
              let y = (one_why ls ss j k).1 d in
              let a = h.settled k j (omega arith) (omega arith) in
              absurd (omega (arith, a.0, a.1 (omega (arith, a.0)), a.2 (omega (arith, a.0)) (omega (arith, a.0))))

  cut_zero : at ls j ≡ 0 → width ≤ sum ls + later ls ss j + gaps (length ss) → at ws j ≡ 0
  unfolding ones later
  cut_zero e w = go (dec_lt 0 (at ws j))
    where
      go : Dec (0 < at ws j) → at ws j ≡ 0
      go (no l) = omega arith
      go (yes l) =
          absurd
          (omega (
            arith,
            f.fits,
            h.share.0,
            two_sum_more ws ls ones j (sym h.least.0) (h.least.0 ∙ h.share.0 ∙ sym ones_length) (kept_leaves e l)
                (omega (arith, ones_at j (in_range ss j {k = 0} (omega (arith, h.share.1 j))), one_self ls ss j)),
          ))

-- a share is 0 exactly if the column is empty, or its least width is 0 and its part of the width below one character
share_zero : (z l width total : ℕ) → z ≤ total → share z l width total ≡ 0 → (z ≡ 0) ⊎ ((l ≡ 0) × (z * width < total))
unfolding share
share_zero zero l width total h e = inl refl
share_zero (suc z) l width total h e =
    let d : suc z * width / total ≡ 0 = omega arith in
    inr (omega arith, omega (arith, rw d at (div-add-mod' (suc z * width) total), mod-lt (suc z * width) {m = total} (omega arith)))

zero_share : (z l width total : ℕ) → l ≡ 0 → (z ≡ 0) ⊎ (z * width < total) → share z l width total ≡ 0
unfolding share
zero_share zero l width total e w = refl
zero_share (suc z) l width total e (inl w) = absurd (omega arith)
zero_share (suc z) l width total e (inr w) = omega (arith, div-eq_of_lt w)

module _ (zs ls : List ℕ) (width : ℕ) (b : Below ls zs) (capacity : sum ls + gaps (length ls) ≤ width) where
  ss : List ℕ
  ss = shares zs ls width

  f : Final zs ls ss (final_widths Sideways zs ls width) width
  unfolding ss
  f = final zs ls width b capacity

  h : Held ls ss (final_widths Sideways zs ls width)
  unfolding ss final_widths
  h = cut_held ls ss width f.share_least capacity

  share_at : (j : ℕ) → at ss j ≡ share (at zs j) (at ls j) width (sum zs)
  unfolding ss
  share_at j = at_shares zs ls width (sum zs) j

  -- sideways a column is 0 wide exactly if its least width is 0 and one of the three reasons holds
  pub zero_only : (j : ℕ) → at (final_widths Sideways zs ls width) j ≡ 0 → (at ls j ≡ 0) × Why zs ls width j
  unfolding ss
  zero_only j e = (omega (arith, f.least.1 j), go (dec_lt 0 (at ss j)))
    where
      share_gone : (at zs j ≡ 0) ⊎ ((at ls j ≡ 0) × (at zs j * width < sum zs)) → Why zs ls width j
      share_gone (inl z) = empty z
      share_gone (inr z) = little z.1

      go : Dec (0 < at ss j) → Why zs ls width j
      go (yes l) =
          cut_away
          (omega (
            arith,
            f.share_size.0,
            zero_cut zs ls ss (final_widths Sideways zs ls width) width f h j e (omega arith),
          ))
      go (no l) = share_gone (share_zero (at zs j) (at ls j) width (sum zs) (at_le_sum zs j) (sym (share_at j) ∙ omega arith))

  pub zero_then : (j : ℕ) → at ls j ≡ 0 → Why zs ls width j → at (final_widths Sideways zs ls width) j ≡ 0
  unfolding ss
  zero_then j e (empty z) = omega (arith, f.share.1 j, share_at j, zero_share (at zs j) (at ls j) width (sum zs) e (inl z))
  zero_then j e (little z) = omega (arith, f.share.1 j, share_at j, zero_share (at zs j) (at ls j) width (sum zs) e (inr z))
  zero_then j e (cut_away z) =
      cut_zero zs ls ss (final_widths Sideways zs ls width) width f h j e (omega (arith, f.share_size.0))
