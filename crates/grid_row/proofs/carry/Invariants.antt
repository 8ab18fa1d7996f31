-- `grid_row::carry` meets its contract. The loop's invariant: the first i are carried into the thirds.
use mathlib.Core.Path.{◌≡◌}
use mathlib.Core.List.{List}
use Prim.Native.Nat.{ℕ, ◌+◌, ◌*◌, ◌/◌, ◌<◌}
use lib.ListN.{length, get_or}
use Rattle.grid_row.specs.inner.Overhangs.{lefts_of, ats_of, wides_of}
use Rattle.grid_row.proofs.carry.Given as goal

-- the first i are carried, with thirds of m places
pub record Upto (m i : ℕ) (nl na nw o : List ℕ) : Type 0 where
  pub lefts : (j : ℕ) → j < i → get_or o j 0 ≡ get_or nl j 0
  pub ats : (j : ℕ) → j < i → get_or o (m + j) 0 ≡ get_or na j 0
  pub wides : (j : ℕ) → j < i → get_or o (2 * m + j) 0 ≡ get_or nw j 0

abbrev pub invariant-loop-i : goal.invariant-loop-i
invariant-loop-i l = (l.third ≡ length l.initial.overhang / 3) × Upto l.third l.i (lefts_of l.next) (ats_of l.next) (wides_of l.next) l.overhang
