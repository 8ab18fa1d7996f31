-- What the first lines can come to at most, and that this stays below the bound of all sizes.
use mathlib.Core.Path.{◌≡◌}
use mathlib.Core.List.{List, map}
use Prim.Native.Nat.{ℕ, zero, suc, ◌+◌, ◌-◌, ◌*◌, ◌≤◌}
use native.Mathlib.Nat.{add-zero}
use native.Mathlib.Numerals.{add-one}
use native.Mathlib.Omega.{arith}
use lib.ListN.{length, take, length-map, get_or-map}
use Rattle.common.specs.Limits.{max_size}
use Rattle.common.specs.Lists.{sum}
use Rattle.common.proofs.Sum.{sum_take_more, sum_take_le}
use Rattle.records.specs.NodeRecord.{no_node}
use Rattle.records.specs.declared.NodeRecord.{NodeRecord}
use Rattle.estimates.specs.inner.Sheet.{Sheet, line_at, own_of}
use Rattle.estimates.specs.inner.Cycle.{weight}

pub weight_more : (ls : List NodeRecord) (n : ℕ) → weight ls (n + 1) ≡ weight ls n + ((line_at ls n).own + 4096)
unfolding weight
weight_more ls n = rw add-one

weight_up : (ls : List NodeRecord) (i m : ℕ) → weight ls i ≤ weight ls (i + m)
weight_up ls i zero = rw add-zero (omega arith)
weight_up ls i (suc m) =
    let e : i + suc m ≡ (i + m) + 1 = omega arith in
    rw (e, weight_more ls (i + m)) (omega (arith, weight_up ls i m))

weight_mono : (ls : List NodeRecord) (i j : ℕ) → i ≤ j → weight ls i ≤ weight ls j
weight_mono ls i j h = let e : i + (j - i) ≡ j = omega arith in rw e at (weight_up ls i (j - i))

weight_sum : (ls : List NodeRecord) (n : ℕ) → n ≤ length ls → weight ls n ≤ sum (take n (map own_of ls)) + 4096 * n
unfolding weight
weight_sum ls zero h = omega arith
weight_sum ls (suc n) h =
    omega (
      arith,
      weight_sum ls n (omega arith),
      rw add-one at (sum_take_more (map own_of ls) n (omega (arith, length-map ls own_of))),
      get_or-map own_of ls n no_node,
    )

-- what weighs no more than the lines up to r fits
pub fits : {ls : List NodeRecord} → Sheet ls → (at r n : ℕ) → r ≤ length ls → n + weight ls at ≤ weight ls r → n ≤ max_size
fits {ls} w at r n h e =
    omega (
      arith,
      weight_mono ls r (length ls) h,
      weight_sum ls (length ls) (omega arith),
      sum_take_le (map own_of ls) (length ls),
      w.capacity,
      w.short,
    )
