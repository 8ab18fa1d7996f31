-- Lines that stand in lines: a parent's children stand in it, and what a line stands in is its parent or what that stands in.
use mathlib.Core.Path.{◌≡◌}
use mathlib.Core.List.{List}
use mathlib.Core.Logic.{◌⊎◌, inl, inr}
use Prim.Native.Nat.{ℕ, ◌≤◌, ◌<◌}
use native.Mathlib.Decide.{dec_lt, ℕ_discrete}
use native.Mathlib.Omega.{arith}
use lib.ListN.{get_or}
use Rattle.records.specs.NodeRecord.{no_node}
use Rattle.records.specs.Parents.{Parent}
use Rattle.records.specs.declared.NodeRecord.{NodeRecord}
use Rattle.walk_theorems.specs.Descent.{StandsIn}

pub of_parent : {ks : List NodeRecord} {p i : ℕ} → Parent ks p i → StandsIn ks p i
of_parent {ks} {p} {i} r = record { after = r.before; within = r.within; deeper = λ k a b. go k a (omega arith) (ℕ_discrete k i) }
  where
    go : (k : ℕ) → p < k → k ≤ i → Dec (k ≡ i) → (get_or ks p no_node).depth < (get_or ks k no_node).depth
    go k a b (yes e) = rw e (omega (arith, r.deeper))
    go k a b (no e) = r.between k a (omega arith)

pub stands_on : {ks : List NodeRecord} {a b c : ℕ} → StandsIn ks a b → StandsIn ks b c → StandsIn ks a c
stands_on {ks} {a} {b} {c} x y = record { after = omega (arith, x.after, y.after); within = y.within; deeper = λ k l m. go k l m (dec_lt b k) }
  where
    go : (k : ℕ) → a < k → k ≤ c → Dec (b < k) → (get_or ks a no_node).depth < (get_or ks k no_node).depth
    go k l m (yes n) = omega (arith, x.deeper b x.after (omega arith), y.deeper k n m)
    go k l m (no n) = x.deeper k l (omega arith)

-- no line between a parent and its child is less deep than the child
pub up : {ks : List NodeRecord} {c p i : ℕ} → StandsIn ks c i → Parent ks p i → (c ≡ p) ⊎ StandsIn ks c p
up {ks} {c} {p} {i} x r = go (dec_lt c p) (dec_lt p c)
  where
    go : Dec (c < p) → Dec (p < c) → (c ≡ p) ⊎ StandsIn ks c p
    go (yes a) b = inr (record { after = a; within = omega (arith, r.before, x.within); deeper = λ k l m. x.deeper k l (omega (arith, r.before)) })
    go (no a) (yes b) = absurd (omega (arith, r.deeper, r.between c b x.after, x.deeper i x.after (omega arith)))
    go (no a) (no b) = inl (omega arith)
