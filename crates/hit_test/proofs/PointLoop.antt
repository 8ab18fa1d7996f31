-- The loop of `at`: what is ahead of the next entry, once it is known whether a printed cell has ended at the column, is what the row has there.
use mathlib.Core.Bool.{Bool, true, false, cond}
use mathlib.Core.Path.{◌≡◌, sym, ap}
use mathlib.Core.List.{List, [], ◌∷◌}
use Prim.Native.Nat.{ℕ, ◌+◌, ◌-◌, ◌<◌}
use native.Mathlib.Omega.{arith}
use lib.ListN.{length, take, drop, length-drop}
use lib.Seq.{slice, length-take-le}
use borrow.Author.Tests.{lt-ltb, le-ltb}
use Rattle.placement.specs.Place.{Placed, at}
use Rattle.hit_test.specs.Point.{placed, covers, closes, some_printed, gap_before, pointed}
use Rattle.hit_test.specs.inner.Rows.{InSlices}
use Rattle.hit_test.proofs.Parts.{placed_cut}
use Rattle.answers.specs.declared.Under.{Under}
use Rattle.answers.specs.declared.Under.TheVariants.{Cell, Gap, Nothing}

unfoldable pub ahead : Bool → ℕ → ℕ → List Placed → Under ℕ
ahead true k x ps = gap_before ps
ahead false k x ps = pointed k x ps

-- all : what the row has there; xs and wides are what is left of the row
pub record Sofar (all : Under ℕ) (end x : ℕ) (ended : Bool) (i : ℕ) (xs wides : List ℕ) : Type 0 where
  pub before : i + length xs ≡ end
  pub even : length xs ≡ length wides
  pub rest : ahead ended i x (placed xs wides) ≡ all

pub sofar_start : (first end x : ℕ) (xs wides : List ℕ) → InSlices first end xs wides
    → Sofar (pointed first x (slice first end (placed xs wides))) end x false first (take (end - first) (drop first xs)) (take (end - first) (drop first wides))
unfolding ahead
sofar_start first end x xs wides r =
    let n = end - first in
    let a = length-take-le n (drop first xs) (omega (arith, length-drop first xs, r.xs_there)) in
    let b = length-take-le n (drop first wides) (omega (arith, length-drop first wides, r.wides_there)) in
    record { before = omega (arith, a, r.order); even = omega (arith, a, b); rest = ap (pointed first x) (placed_cut first end xs wides r.order) }

module _ {all : Under ℕ} {end x i : ℕ} where
  -- nothing is left
  pub sofar_stop : (ended : Bool) (xs wides : List ℕ) → Sofar all end x ended i xs wides → length xs ≡ 0 → Nothing ≡ all
  unfolding ahead gap_before some_printed pointed placed
  sofar_stop true [] wides z h = z.rest
  sofar_stop false [] wides z h = z.rest
  sofar_stop ended (y ∷ xs) wides z h = absurd (omega arith)

  module _ {y w : ℕ} {xs wides : List ℕ} where
    -- a printed entry after one that ended at the column
    pub sofar_gap : (ended : Bool) → Sofar all end x ended i (y ∷ xs) (w ∷ wides) → ended ≡ true → 0 < w → Gap ≡ all
    unfolding ahead gap_before some_printed placed
    sofar_gap ended z t h = rw (lt-ltb 0 w h) at (rw t at z.rest)

    -- a missing one
    pub sofar_skip : (ended : Bool) → Sofar all end x ended i (y ∷ xs) (w ∷ wides) → ended ≡ true → w ≡ 0 → Sofar all end x ended (i + 1) xs wides
    unfolding ahead gap_before some_printed placed
    sofar_skip ended z t h =
        rw t (record { before = omega (arith, z.before); even = omega (arith, z.even); rest = rw (le-ltb 0 w (omega arith)) at (rw t at z.rest) })

    pub sofar_cell : (ended : Bool) → Sofar all end x ended i (y ∷ xs) (w ∷ wides) → ended ≡ false → covers (at y w) x ≡ true → Cell i ≡ all
    unfolding ahead pointed placed
    sofar_cell ended z f c = rw c at (rw f at z.rest)

    pub sofar_turn : (ended : Bool) → Sofar all end x ended i (y ∷ xs) (w ∷ wides) → ended ≡ false → covers (at y w) x ≡ false →
        (b : Bool) → b ≡ closes (at y w) x → Sofar all end x b (i + 1) xs wides
    unfolding ahead pointed placed
    sofar_turn ended z f c b e =
        record { before = omega (arith, z.before); even = omega (arith, z.even); rest = go b (sym e) (rw c at (rw f at z.rest)) }
      where
        go : (b : Bool) → closes (at y w) x ≡ b → cond (closes (at y w) x) (gap_before (placed xs wides)) (pointed (i + 1) x (placed xs wides)) ≡ all →
            ahead b (i + 1) x (placed xs wides) ≡ all
        go true d h = rw d at h
        go false d h = rw d at h
