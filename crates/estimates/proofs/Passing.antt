-- The results while lines are passed: a turn over a line and all below it, and the line's own store at the end.
use mathlib.Core.Path.{◌≡◌, refl, ◌∙◌}
use mathlib.Core.List.{List}
use Prim.Native.Nat.{ℕ, ◌+◌, ◌≤◌, ◌<◌}
use native.Mathlib.Omega.{arith}
use native.Mathlib.Decide.{dec_lt, ℕ_discrete}
use lib.ListN.{length, get_or, set, length-set}
use lib.Seq.{get_or-set_same, get_or-set_other}
use Rattle.text.specs.declared.Estimate.{Estimate}
use Rattle.records.specs.declared.NodeRecord.{NodeRecord}
use Rattle.estimates.specs.Estimates.{MeasuredNode, none}
use Rattle.estimates.specs.inner.Sheet.{line_at}
use Rattle.estimates.specs.Meets.{Bounded}
use Rattle.estimates.specs.inner.Cycle.{Passed, est_at}

module _ {ls : List NodeRecord} {es : List MeasuredNode} {b c : List Estimate} {at : ℕ} where
  -- a turn: line i stands below `at`, and it was passed with all below it, up to r
  pub step : {c' : List Estimate} {i r : ℕ} → Passed ls es b c at (at + 1) i → (line_at ls at).depth < (line_at ls i).depth → Passed ls es c c' i i r
      → Passed ls es b c' at (at + 1) r
  step {c'} {i} {r} w u v = record {
    sized = v.sized;
    after = omega (arith, w.after, v.after);
    within = v.within;
    deeper = λ k p q. deep k p q (dec_lt k i) (dec_lt i k);
    kept = λ k p. v.kept k (omega (arith, w.after)) ∙ w.kept k p;
    done = λ k p q. held k p q (dec_lt k i);
    past = λ k p. v.past k p ∙ w.past k (omega (arith, v.after));
    sound = λ k p q. right k p q (dec_lt k i);
  }
    where
      deep : (k : ℕ) → at < k → k < r → Dec (k < i) → Dec (i < k) → (line_at ls at).depth < (line_at ls k).depth
      deep k p q (yes x) d = w.deeper k p x
      deep k p q (no x) (yes t) = omega (arith, v.deeper k t q)
      deep k p q (no x) (no t) = let e : k ≡ i = omega arith in rw e u

      held : (k : ℕ) → at + 1 ≤ k → k < r → Dec (k < i) → get_or c' k none ≡ est_at es k
      held k p q (yes x) = v.kept k x ∙ w.done k p x
      held k p q (no x) = v.done k (omega arith) q

      right : (k : ℕ) → at + 1 ≤ k → k < r → Dec (k < i) → Bounded (est_at es k)
      right k p q (yes x) = w.sound k p x
      right k p q (no x) = v.sound k (omega arith) q

  -- the line's own result, stored once all below it have theirs
  pub stored : {r : ℕ} {e : Estimate} → Passed ls es b c at (at + 1) r → e ≡ est_at es at → Bounded e → Passed ls es b (set c at e) at at r
  stored {r} {e} w f z = record {
    sized = omega (arith, length-set c at e, w.sized);
    after = w.after;
    within = w.within;
    deeper = w.deeper;
    kept = λ k p. get_or-set_other c at k e none (omega arith) ∙ w.kept k (omega arith);
    done = λ k p q. held k p q (ℕ_discrete k at);
    past = λ k p. get_or-set_other c at k e none (omega (arith, w.after)) ∙ w.past k p;
    sound = λ k p q. right k p q (ℕ_discrete k at);
  }
    where
      held : (k : ℕ) → at ≤ k → k < r → Dec (k ≡ at) → get_or (set c at e) k none ≡ est_at es k
      held k p q (yes u) = rw u (get_or-set_same c at e none (omega (arith, w.sized, w.after, w.within)) ∙ f)
      held k p q (no u) = get_or-set_other c at k e none u ∙ w.done k (omega arith) q

      right : (k : ℕ) → at ≤ k → k < r → Dec (k ≡ at) → Bounded (est_at es k)
      right k p q (yes u) = rw (u, ← f) z
      right k p q (no u) = w.sound k (omega arith) q

-- nothing is passed yet
pub begin : {ls : List NodeRecord} {b : List Estimate} {at : ℕ} (es : List MeasuredNode) → length ls ≤ length b → at < length ls → Passed ls es b b at (at + 1) (at + 1)
begin es z h = record {
  sized = z;
  after = omega arith;
  within = omega arith;
  deeper = λ k p q. absurd (omega arith);
  kept = λ k p. refl;
  done = λ k p q. absurd (omega arith);
  past = λ k p. refl;
  sound = λ k p q. absurd (omega arith);
}
