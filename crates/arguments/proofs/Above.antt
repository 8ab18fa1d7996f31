-- Widths of which one is above a bound, as a search through the list finds it.
use mathlib.Core.Path.{◌≡◌, refl, ap}
use mathlib.Core.Bool.{◌||◌}
use mathlib.Core.List.{List, [], ◌∷◌}
use Prim.Native.Nat.{ℕ}
use lib.Dec.{ltb}
use Rattle.std.specs.List.{list_any}
use Rattle.std.specs.Prelude.{Bool}
use Rattle.arguments.specs.Arguments.{any_above}

pub found_above : (n : ℕ) (ws : List ℕ) → list_any (λ w. ltb n w) ws ≡ any_above n ws
unfolding any_above
found_above n [] = refl
found_above n (w ∷ ws) = ap (λ (b : Bool). ltb n w || b) (found_above n ws)
