-- The cause of a column, over its sizes, least widths and final widths: what each cause says, and when it is the one. Down, no column is 0 wide but at
-- the width 0; sideways the three reasons of `ZeroColumn` of the crate `placing` hold.
use mathlib.Core.Path.{◌≡◌, refl, sym, ap, ◌∙◌}
use mathlib.Core.Bool.{Bool, true, false, cond}
use mathlib.Core.List.{List}
use Prim.Native.Nat.{ℕ, zero, suc, ◌+◌, ◌*◌, ◌/◌, ◌≤◌, ◌<◌}
use native.Mathlib.Nat.{div-eq_of_lt, div-add-mod', mod-lt}
use native.Mathlib.Decide.{dec_lt}
use native.Mathlib.Omega.{arith}
use lib.Dec.{eqb, ltb}
use lib.ListN.{length, replicate, length-replicate, get_or-replicate, get_or-eq_default}
use borrow.Author.Tests.{ltb-true, ltb-false, eqb-true, eqb-false, lt-ltb, le-ltb, eq-eqb, ne_eqb}
use Rattle.common.specs.Lists.{sum}
use Rattle.cutting.specs.Cut.{at, gaps, Below}
use Rattle.widths.specs.Share.{share, shares}
use Rattle.widths.specs.Widths.{way_of, final_widths}
use Rattle.answers.specs.declared.Way.{Way}
use Rattle.answers.specs.declared.Way.TheVariants.{Sideways, Down}
use Rattle.cutting.proofs.Sums.{at_le_sum}
use Rattle.widths.proofs.Share.{Final, final, at_shares}
use Rattle.widths.proofs.Whole.{side_only}
use Rattle.placement.specs.Why.{later, Why, empty, little, cut_away}
use Rattle.placement.proofs.ZeroColumn.{zero_only, zero_then}
use Rattle.causes.specs.Causes.{cause_of, cause_number, cause_at}
use Rattle.causes.specs.declared.Cause.{Cause}
use Rattle.causes.specs.declared.Cause.TheVariants.{Shown, Empty, Little, Cut, Page}

-- ---- the cause of four figures: of the width, the size, the share and the final width

-- what the number of a cause says of them
abbrev Told : (w z s x n : ℕ) → Type 0
Told w z s x n =
    (n ≡ 0 → (0 < w) × (0 < x))
    × (n ≡ 1 → (0 < w) × (x ≡ 0) × (z ≡ 0))
    × (n ≡ 2 → (0 < w) × (x ≡ 0) × (0 < z) × (s ≡ 0))
    × (n ≡ 3 → (0 < w) × (x ≡ 0) × (0 < z) × (0 < s))
    × (n ≡ 4 → w ≡ 0)

module _ (w z s x : ℕ) where
  told : Told w z s x (cause_number (cause_of w z s x))
  unfolding cause_of cause_number
  told = go (eqb w 0) (ltb 0 x) (eqb z 0) (eqb s 0) refl refl refl refl
    where
      go : (a b c d : Bool) → eqb w 0 ≡ a → ltb 0 x ≡ b → eqb z 0 ≡ c → eqb s 0 ≡ d
          → Told w z s x (cause_number (cond a Page (cond b Shown (cond c Empty (cond d Little Cut)))))
      go true b c d p q r t = omega (arith, eqb-true w 0 p)
      go false true c d p q r t = omega (arith, eqb-false w 0 p, ltb-true 0 x q)
      go false false true d p q r t = omega (arith, eqb-false w 0 p, ltb-false 0 x q, eqb-true z 0 r)
      go false false false true p q r t = omega (arith, eqb-false w 0 p, ltb-false 0 x q, eqb-false z 0 r, eqb-true s 0 t)
      go false false false false p q r t = omega (arith, eqb-false w 0 p, ltb-false 0 x q, eqb-false z 0 r, eqb-false s 0 t)

  is_page : w ≡ 0 → cause_of w z s x ≡ Page
  unfolding cause_of
  is_page p = rw (eq-eqb w 0 p)

  is_shown : 0 < w → 0 < x → cause_of w z s x ≡ Shown
  unfolding cause_of
  is_shown p q = rw (ne_eqb w 0 (λ e. omega arith), lt-ltb 0 x q)

  is_empty : 0 < w → x ≡ 0 → z ≡ 0 → cause_of w z s x ≡ Empty
  unfolding cause_of
  is_empty p q r = rw (ne_eqb w 0 (λ e. omega arith), le-ltb 0 x (omega arith), eq-eqb z 0 r)

  is_little : 0 < w → x ≡ 0 → 0 < z → s ≡ 0 → cause_of w z s x ≡ Little
  unfolding cause_of
  is_little p q r t = rw (ne_eqb w 0 (λ e. omega arith), le-ltb 0 x (omega arith), ne_eqb z 0 (λ e. omega arith), eq-eqb s 0 t)

  is_cut : 0 < w → x ≡ 0 → 0 < z → 0 < s → cause_of w z s x ≡ Cut
  unfolding cause_of
  is_cut p q r t =
      rw (ne_eqb w 0 (λ e. omega arith), le-ltb 0 x (omega arith), ne_eqb z 0 (λ e. omega arith), ne_eqb s 0 (λ e. omega arith))

-- ---- a share

-- that of a column that is not empty is 0 only if its least width is 0 and its part of the width below one character
share_none : (z l width total : ℕ) → 0 < z → z ≤ total → share z l width total ≡ 0 → (l ≡ 0) × (z * width < total)
unfolding share
share_none zero l width total p h e = absurd (omega arith)
share_none (suc z) l width total p h e =
    let d : suc z * width / total ≡ 0 = omega arith in
    (omega arith, omega (arith, rw d at (div-add-mod' (suc z * width) total), mod-lt (suc z * width) {m = total} (omega arith)))

-- and then it is
none_share : (z l width total : ℕ) → l ≡ 0 → z * width < total → share z l width total ≡ 0
unfolding share
none_share zero l width total e w = refl
none_share (suc z) l width total e w = omega (arith, div-eq_of_lt w)

-- ---- the columns of a table

module _ (n : ℕ) (zs ls : List ℕ) (raw width : ℕ) (count : length zs ≡ n) (b : Below ls zs) where
  abbrev way : Way
  way = way_of raw width ls

  abbrev ws : List ℕ
  ws = final_widths way zs ls width

  abbrev ss : List ℕ
  ss = shares zs ls width

  abbrev cause : ℕ → Cause
  cause j = cause_at zs ls ws width j

  share_at : (j : ℕ) → at ss j ≡ share (at zs j) (at ls j) width (sum zs)
  share_at j = at_shares zs ls width (sum zs) j

  -- at the width 0 every column is 0 wide
  none_wide : (j : ℕ) → width ≡ 0 → at ws j ≡ 0
  unfolding final_widths
  none_wide j e = go way refl
    where
      within : Dec (j < length zs) → at (replicate (length zs) width) j ≡ 0
      within (yes l) = get_or-replicate (length zs) j width 0 l ∙ e
      within (no l) = get_or-eq_default (replicate (length zs) width) 0 {n = j} (omega (arith, length-replicate (length zs) width))

      go : (v : Way) → way ≡ v → at (final_widths v zs ls width) j ≡ 0
      go Sideways q = absurd (omega (arith, side_only raw width ls q))
      go Down q = within (dec_lt j (length zs))

  -- at any other only those of a table that lies sideways
  narrow_side : (j : ℕ) → j < n → 0 < width → at ws j ≡ 0 → way ≡ Sideways
  unfolding final_widths
  narrow_side j l p = go way refl
    where
      go : (v : Way) → way ≡ v → at (final_widths v zs ls width) j ≡ 0 → v ≡ Sideways
      go Sideways q e = refl
      go Down q e = absurd (omega (arith, get_or-replicate (length zs) j width 0 (omega arith)))

  -- ---- a table that lies sideways
  module _ (e : way ≡ Sideways) (j : ℕ) where
    abbrev sides : List ℕ
    sides = final_widths Sideways zs ls width

    capacity : sum ls + gaps (length ls) ≤ width
    capacity = (side_only raw width ls e).2

    f : Final zs ls ss sides width
    f = final zs ls width b capacity

    some : 0 < width
    some = omega (arith, (side_only raw width ls e).1)

    to_side : at ws j ≡ 0 → at sides j ≡ 0
    to_side z = rw e at z

    of_side : at sides j ≡ 0 → at ws j ≡ 0
    of_side z = rw e z

    no_share : at ss j ≡ 0 → at ws j ≡ 0
    no_share z = of_side (omega (arith, f.share.1 j))

    least_none : at ws j ≡ 0 → at ls j ≡ 0
    least_none z = omega (arith, to_side z, f.least.1 j)

    little_of : 0 < at zs j → at ss j ≡ 0 → (at ls j ≡ 0) × (at zs j * width < sum zs)
    little_of p q = share_none (at zs j) (at ls j) width (sum zs) p (at_le_sum zs j) (sym (share_at j) ∙ q)

    little_share : at ls j ≡ 0 → at zs j * width < sum zs → at ss j ≡ 0
    little_share q l = share_at j ∙ none_share (at zs j) (at ls j) width (sum zs) q l

    -- a share that is there, and its column's part of the width
    share_part : 0 < at ss j → at ls j ≡ 0 → sum zs ≤ at zs j * width
    share_part p q = go (dec_lt (at zs j * width) (sum zs))
      where
        go : Dec (at zs j * width < sum zs) → sum zs ≤ at zs j * width
        go (yes l) = absurd (omega (arith, little_share q l))
        go (no l) = omega arith

    part_share : 0 < at zs j → sum zs ≤ at zs j * width → 0 < at ss j
    part_share p q = go (dec_lt 0 (at ss j))
      where
        go : Dec (0 < at ss j) → 0 < at ss j
        go (yes l) = l
        go (no l) = absurd (omega (arith, little_of p (omega arith)))

    cut_of : 0 < at zs j → 0 < at ss j → at ws j ≡ 0 → width ≤ sum ls + later ls ss j + gaps n
    cut_of p q z = go (zero_only zs ls width b capacity j (to_side z)).1
      where
        go : Why zs ls width j → width ≤ sum ls + later ls ss j + gaps n
        go (empty h) = absurd (omega arith)
        go (little h) = absurd (omega (arith, share_part q (least_none z)))
        go (cut_away h) = rw count at h

    of_cut : at ls j ≡ 0 → width ≤ sum ls + later ls ss j + gaps n → at ws j ≡ 0
    of_cut q h = of_side (zero_then zs ls width b capacity j q (cut_away (rw count h)))

  -- ---- what each cause says, of column j
  module _ (j : ℕ) where
    says : Told width (at zs j) (at ss j) (at ws j) (cause_number (cause j))
    says = told width (at zs j) (at ss j) (at ws j)

    number : (c : Cause) → cause j ≡ c → cause_number (cause j) ≡ cause_number c
    number c e = ap cause_number e

    pub shown_only : cause j ≡ Shown → 0 < at ws j
    unfolding cause_number
    shown_only e = (says.0 (number Shown e)).1

    pub shown_then : 0 < at ws j → cause j ≡ Shown
    shown_then p = go (dec_lt 0 width)
      where
        go : Dec (0 < width) → cause j ≡ Shown
        go (yes l) = is_shown width (at zs j) (at ss j) (at ws j) l p
        go (no l) = absurd (omega (arith, none_wide j (omega arith)))

    pub page_only : cause j ≡ Page → width ≡ 0
    unfolding cause_number
    page_only e = says.4 (number Page e)

    pub page_then : width ≡ 0 → cause j ≡ Page
    page_then e = is_page width (at zs j) (at ss j) (at ws j) e

    -- a column has a cause exactly if it is 0 wide
    pub some_cause : at ws j ≡ 0 → 0 < cause_number (cause j)
    some_cause z = go (dec_lt 0 (cause_number (cause j)))
      where
        go : Dec (0 < cause_number (cause j)) → 0 < cause_number (cause j)
        go (yes l) = l
        go (no l) = absurd (omega (arith, says.0 (omega arith)))

    pub cause_none : 0 < cause_number (cause j) → at ws j ≡ 0
    unfolding cause_number
    cause_none h = go (dec_lt 0 (at ws j))
      where
        go : Dec (0 < at ws j) → at ws j ≡ 0
        go (yes l) = absurd (omega (arith, number Shown (shown_then l)))
        go (no l) = omega arith

    module _ (l : j < n) where
      pub empty_only : cause j ≡ Empty → (way ≡ Sideways) × (at zs j ≡ 0)
      unfolding cause_number
      empty_only e = let (p, q, r) = says.1 (number Empty e) in (narrow_side j l p q, r)

      pub little_only : cause j ≡ Little → (way ≡ Sideways) × ((0 < at zs j) × (at ls j ≡ 0) × (at zs j * width < sum zs))
      unfolding cause_number
      little_only e =
          let (p, q, r, t) = says.2 (number Little e) in
          let s = narrow_side j l p q in
          let (u, v) = little_of s j r t in
          (s, (r, u, v))

      pub cut_only : cause j ≡ Cut
          → (way ≡ Sideways) × ((0 < at zs j) × (at ls j ≡ 0) × (sum zs ≤ at zs j * width) × (width ≤ sum ls + later ls ss j + gaps n))
      unfolding cause_number
      cut_only e =
          let (p, q, r, t) = says.3 (number Cut e) in
          let s = narrow_side j l p q in
          let u = least_none s j q in
          (s, (r, u, share_part s j t u, cut_of s j r t q))

    pub empty_then : way ≡ Sideways → at zs j ≡ 0 → cause j ≡ Empty
    empty_then s z =
        is_empty width (at zs j) (at ss j) (at ws j) (some s j) (of_side s j (omega (arith, (f s j).size.1 j))) z

    pub little_then : way ≡ Sideways → (0 < at zs j) × (at ls j ≡ 0) × (at zs j * width < sum zs) → cause j ≡ Little
    little_then s (p, q, r) =
        let t = little_share s j q r in
        is_little width (at zs j) (at ss j) (at ws j) (some s j) (no_share s j t) p t

    pub cut_then : way ≡ Sideways
        → (0 < at zs j) × (at ls j ≡ 0) × (sum zs ≤ at zs j * width) × (width ≤ sum ls + later ls ss j + gaps n) → cause j ≡ Cut
    cut_then s (p, q, r, t) =
        is_cut width (at zs j) (at ss j) (at ws j) (some s j) (of_cut s j q t) p (part_share s j p r)
