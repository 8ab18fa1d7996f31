-- `available_width::too_narrow` meets its contract: each way is a law of Off.
use Rattle.std.proofs.Common.{rules}
use mathlib.Core.Path.{◌≡◌, refl, sym, ◌∙◌}
use Prim.Native.Nat.{ℕ}
use Rattle.std.specs.Prelude.{Option, Some, None, MatchOption}
use Rattle.available_width.proofs.Off.{narrow_none, narrow_rest}
use Rattle.available_width.specs.Walk.{too_narrow}
use Rattle.available_width.proofs.too_narrow.Goals as goal

-- what is told of an option, by whether there is a value
by_value : {P G : Type 0} {Q : ℕ → Type 0} (w : Option ℕ) → MatchOption w P Q → (w ≡ None → P → G) → ((v : ℕ) → w ≡ Some v → Q v → G) → G
by_value None p none some = none refl p
by_value (Some v) q none some = some v refl q

pub returns-then-takes_off : goal.returns-then-takes_off
returns-then-takes_off c =
    let t = sym c.takes_off.ensures ∙ c.if-takes_off.true in
    by_value c.args.w c.is_some_and.ensures (λ e p. p ∙ narrow_none _ _ _ e)
    (λ v e q. (search rules) ∙ narrow_rest c.args.kind c.args.e c.args.w v e t _ _ refl refl)

pub returns-else-takes_off : goal.returns-else-takes_off
unfolding too_narrow
returns-else-takes_off c = search rules
