-- What the code's loop over cuts keeps: cutting the widths that stand there ends where cutting those at the start ends. One cut is the first of those
-- that are left, and where the widths fit none is left.
use mathlib.Core.Path.{◌≡◌, refl, sym, ◌∙◌}
use mathlib.Core.List.{List}
use Prim.Native.Nat.{ℕ, suc, ◌+◌, ◌-◌, ◌≤◌, ◌<◌}
use native.Mathlib.Omega.{arith}
use lib.ListN.{length, set}
use Rattle.common.specs.Lists.{sum}
use Rattle.cutting.specs.Cut.{at, pick, cut_once, cut_by, gaps, overflow, cut, Below}
use Rattle.cutting.proofs.Sums.{in_range}
use Rattle.cutting.proofs.Picked.{pick_passes}
use Rattle.cutting.proofs.Cut.{length_cut_once, sum_cut_once, cut_once_below}

-- one more cut, first or last
cut_by_suc : (k : ℕ) (ls ws : List ℕ) → cut_by k ls (cut_once ls ws) ≡ cut_by (suc k) ls ws
unfolding cut_by
cut_by_suc k ls ws = refl

-- a cut leaves the end of the cutting as it is
pub cut_step : (ls ws : List ℕ) (width : ℕ) → Below ls ws → sum ls + gaps (length ls) ≤ width → width < sum ws + gaps (length ws) →
    cut ls (cut_once ls ws) width ≡ cut ls ws width
unfolding cut
cut_step ls ws width b f h =
    let e : overflow ws width ≡ suc (overflow (cut_once ls ws) width) =
    omega (arith, b.0, length_cut_once ls ws, sum_cut_once ls ws ws b (omega (arith, b.0))) in
    rw e (cut_by_suc (overflow (cut_once ls ws) width) ls ws)

-- what the code's loop keeps of the widths ws, the widths vs at its start and the sum t
abbrev pub LoopFacts : List ℕ → List ℕ → ℕ → List ℕ → ℕ → Type 0
LoopFacts ls vs capacity ws t =
    Below ls ws × (t ≡ sum ws) × (length ws ≡ length vs) × (cut ls ws (capacity + gaps (length ws)) ≡ cut ls vs (capacity + gaps (length vs)))

-- what a turn of the loop has of the column q that is picked
abbrev pub Turn : List ℕ → List ℕ → ℕ → List ℕ → ℕ → ℕ → Type 0
Turn ls vs capacity ws t q = (1 ≤ at ws q) × (q < length ws) × LoopFacts ls vs capacity (set ws q (at ws q - 1)) (t - 1)

module _ (ls vs : List ℕ) (capacity : ℕ) (ws : List ℕ) (t : ℕ) (k : LoopFacts ls vs capacity ws t) where
  pub loop_end : t ≤ capacity → ws ≡ cut ls vs (capacity + gaps (length vs))
  unfolding cut cut_by
  loop_end h =
      let z : overflow ws (capacity + gaps (length ws)) ≡ 0 = omega arith in
      sym (rw z) ∙ k.3

  module _ (q : ℕ) (e : q ≡ pick ls ws (length ws)) (f : sum ls ≤ capacity) (h : capacity < t) where
    kept_passes : 1 ≤ at ws q
    kept_passes = rw e (omega (arith, pick_passes ls ws k.0 (omega arith)))

    kept_in : q < length ws
    kept_in = in_range ws q kept_passes

    once : set ws q (at ws q - 1) ≡ cut_once ls ws
    unfolding cut_once
    once = rw e

    kept_again : LoopFacts ls vs capacity (set ws q (at ws q - 1)) (t - 1)
    kept_again =
        let l : sum ls < sum ws = omega arith in
        let n = length_cut_once ls ws in
        rw once (
          cut_once_below ls ws ws k.0 l,
          omega (arith, sum_cut_once ls ws ws k.0 l),
          n ∙ k.2,
          rw n (cut_step ls ws (capacity + gaps (length ws)) k.0 (omega (arith, k.0.0)) (omega arith) ∙ k.3),
        )

    pub loop_turn : Turn ls vs capacity ws t q
    loop_turn = (kept_passes, kept_in, kept_again)
