-- Slices that were cleared hold no width.
use Rattle.std.specs.Prelude.{Option, None}
use mathlib.Core.Path.{◌≡◌, refl}
use mathlib.Core.List.{List}
use Prim.Native.Nat.{ℕ, zero, suc, ◌≤◌}
use native.Mathlib.Omega.{arith}
use lib.ListN.{length, get_or, replicate, length-replicate}
use Rattle.width_walk.specs.inner.Steps.{WalkLinesPre}

pub none_at : (n i : ℕ) → get_or (replicate {A = Option ℕ} n None) i None ≡ None
none_at zero i = refl
none_at (suc n) zero = refl
none_at (suc n) (suc i) = none_at n i

pub cleared : (n : ℕ) (walk₀ walk : List (Option ℕ)) → n ≤ length walk₀ → walk ≡ replicate (length walk₀) None → WalkLinesPre n walk
cleared n walk₀ walk h e =
    rw e (record { line_capacity = omega (arith, length-replicate {A = Option ℕ} (length walk₀) None); no_width = none_at (length walk₀) })
