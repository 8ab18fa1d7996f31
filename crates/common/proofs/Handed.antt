-- The error that `?` hands up is the one that `ok_or` was given.
use Prim.Native.Nat.{ℕ}
use native.Mathlib.Omega.{arith}
use Rattle.std.specs.Prelude.{refl, ◌≡◌, Option, None, Some, Result, Err, ok_or}

pub handed : {A E : Type 0} (o : Option A) (why e : E) (r : Result A E) → r ≡ ok_or o why → r ≡ Err e → (None ≡ o) × (e ≡ why)
handed None why e r a b = (refl, cc)
handed (Some x) why e r a b = let z : ◌≡◌ {A = ℕ} 0 1 = cc in absurd (omega arith)
