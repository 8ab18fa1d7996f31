-- The printed cells of a row sideways, one after the other: each starts one character column past the end of the one before, and x never passes
-- the widths and gaps of the columns so far, since the row tiles them.
use mathlib.Core.Bool.{Bool, true, false, cond}
use mathlib.Core.Path.{◌≡◌, refl}
use mathlib.Core.List.{List, [], ◌∷◌}
use Prim.Native.Nat.{ℕ, zero, suc, ◌+◌, ◌-◌, ◌≤◌, ◌<◌}
use native.Mathlib.Nat.{not-suc-le-zero, le_of_suc-le-suc}
use native.Mathlib.Numerals.{add-one}
use native.Mathlib.Omega.{arith}
use lib.Dec.{eqb}
use lib.ListN.{length, get_or, take}
use borrow.Author.Tests.{eqb-false, ne_eqb}
use Rattle.common.specs.Lists.{sum, All, Tiles}
use Rattle.common.proofs.Tiles.{tiles_start}
use Rattle.common.proofs.Sum.{sum_take_le}
use Rattle.columns.specs.Boxes.{Box}
use Rattle.columns.specs.inner.Boxes.{box_first, box_span, BoxesTile}
use Rattle.cutting.specs.Cut.{gaps}
use Rattle.placement.specs.Place.{across}
use Rattle.placement.specs.Promise.{Printed, nowhere, printed, InRow}
use Rattle.placement.proofs.Spread.{spread_at}
use Rattle.placement.proofs.Placing.{place_by}

-- printed cells from x on, that end at e at the latest
unfoldable Chain : ℕ → ℕ → List Printed → Type 0
Chain e x [] = Unit {0}
Chain e x (p ∷ ps) = (p.x ≡ x) × (p.x + p.width ≤ e) × (p.least ≤ p.width) × Chain e (p.x + p.width + 1) ps

chain_at : (e x : ℕ) (ps : List Printed) (k : ℕ) → Chain e x ps → k < length ps →
    ((get_or ps k nowhere).x + (get_or ps k nowhere).width ≤ e) × ((get_or ps k nowhere).least ≤ (get_or ps k nowhere).width)
unfolding Chain
chain_at e x [] k c h = absurd (not-suc-le-zero h)
chain_at e x (p ∷ ps) zero c h = (c.1, c.2)
chain_at e x (p ∷ ps) (suc k) c h = chain_at e (p.x + p.width + 1) ps k c.3 (le_of_suc-le-suc h)

chain_starts : (e x : ℕ) (ps : List Printed) → Chain e x ps → 0 < length ps → (get_or ps 0 nowhere).x ≡ x
unfolding Chain
chain_starts e x [] c h = absurd (not-suc-le-zero h)
chain_starts e x (p ∷ ps) c h = c.0

chain_apart : (e x : ℕ) (ps : List Printed) (k : ℕ) → Chain e x ps → suc k < length ps →
    (get_or ps (suc k) nowhere).x ≡ (get_or ps k nowhere).x + (get_or ps k nowhere).width + 1
unfolding Chain
chain_apart e x [] k c h = absurd (not-suc-le-zero h)
chain_apart e x (p ∷ ps) zero c h = chain_starts e (p.x + p.width + 1) ps c.3 (le_of_suc-le-suc h)
chain_apart e x (p ∷ ps) (suc k) c h = chain_apart e (p.x + p.width + 1) ps k c.3 (le_of_suc-le-suc h)

chain_row : (e : ℕ) (ps : List Printed) → Chain e 0 ps → InRow e ps
chain_row e ps c =
    record {
      starts = chain_starts e 0 ps c;
      ends = λ k h. (chain_at e 0 ps k c h).0;
      wide = λ k h. (chain_at e 0 ps k c h).1;
      apart = λ k h. rw (add-one k) (chain_apart e 0 ps k c (omega arith));
    }

-- the columns of the box hold its least width, with the gaps between them
abbrev pub Holds : List ℕ → Box → Type 0
Holds ws b = b.least < across ws b + b.span

module _ (ws : List ℕ) (n width : ℕ) (fits : sum ws + gaps n ≤ width) where
  chain : (p x : ℕ) (bs : List Box) → BoxesTile n p bs → x ≤ sum (take p ws) + p → All (Holds ws) bs →
      Chain width x (printed bs (place_by (across ws) x bs))
  unfolding Tiles All Chain printed place_by
  chain p x [] t h e = tt
  chain p x (b ∷ bs) t h e = go (λ y l. chain (p + b.span) y bs t.2 l e.1) (eqb q 0) refl
    where
      q : ℕ
      q = across ws b

      after : sum (take (p + b.span) ws) ≡ sum (take p ws) + q
      after = spread_at ws b p t.0

      Rest : Type 0
      Rest = (y : ℕ) → y ≤ sum (take (p + b.span) ws) + (p + b.span) → Chain width y (printed bs (place_by (across ws) y bs))

      go : Rest → (z : Bool) → eqb q 0 ≡ z →
          Chain width x
          (cond (eqb (cond z 0 (q + b.span - 1)) 0) (printed bs (place_by (across ws) (cond z x (x + (q + b.span))) bs))
          (record { x = x; width = cond z 0 (q + b.span - 1); least = b.least }
          ∷ printed bs (place_by (across ws) (cond z x (x + (q + b.span))) bs)))
      go rest true d = rest x (omega (arith, after))
      go rest false d =
          let some : 1 ≤ q + b.span - 1 = omega (arith, eqb-false q 0 d, t.1) in
          let moved : x + (q + b.span - 1) + 1 ≡ x + (q + b.span) = omega (arith, t.1) in
          let last = tiles_start box_first box_span n (p + b.span) bs t.2 in
          rw (ne_eqb (q + b.span - 1) 0 (λ z. omega arith))
          (refl, omega (arith, after, last, sum_take_le ws (p + b.span)), omega (arith, e.0), rw moved (rest (x + (q + b.span)) (omega (arith, after))))

  -- a row of boxes that its columns hold
  pub in_row : (bs : List Box) → BoxesTile n 0 bs → All (Holds ws) bs → InRow width (printed bs (place_by (across ws) 0 bs))
  in_row bs t e = chain_row width _ (chain 0 0 bs t (omega arith) e)
