-- What a call finds that opens what it was asked for: the refusal, or what is found with the settings.
use mathlib.Core.Path.{◌≡◌, refl}
use Prim.Native.Nat.{ℕ}
use Rattle.std.specs.Prelude.{Result, Ok, Err, MatchResult}
use Rattle.common.specs.declared.Refusal.{Refusal}
use Rattle.arguments.specs.declared.Settings.{Settings}
use Rattle.arguments.specs.inner.Asked.{verdict_in, Asks}

-- `Found` is what holds of the verdict on the arguments and of the answer, `Laid` what holds of the answer where settings are given
pub opened : {A : Type 0} (Found : Result (Unit {0}) Refusal → Result A Refusal → Type 0) (Laid : (wrap raw width overflow : ℕ) → Type 0)
    (asked : Result Settings Refusal) {r : Result A Refusal} {wrap raw width overflow : ℕ}
    → ((why : Refusal) → Found (Err why) (Err why)) → (Laid wrap raw width overflow → Found (Ok tt) r)
    → Asks asked wrap raw width overflow → MatchResult asked (λ g. Laid g.wrap g.raw g.width g.overflow) (λ why. r ≡ Err why)
    → Found (verdict_in asked) r
unfolding verdict_in
opened Found Laid (Ok g) refused found asks laid =
    let e = asks g refl in
    found (rw (← e.wrap_is, ← e.raw_is, ← e.width_is, ← e.overflow_is) laid)
opened Found Laid (Err why) refused found asks same = rw same (refused why)
