-- What a call is asked for: its settings, or why they are refused.
use Rattle.std.specs.Prelude.{◌≡◌, List, ℕ, Result, Ok, Err}
use Rattle.common.specs.declared.Refusal.{Refusal}
use Rattle.common.specs.Refusals.{Check, verdict_of}
use Rattle.arguments.specs.declared.Settings.{Settings}

-- the verdict on the arguments
unfoldable pub verdict_in : Result Settings Refusal → Result (Unit {0}) Refusal
verdict_in (Ok g) = Ok tt
verdict_in (Err why) = Err why

-- settings with these figures
pub record Given (g : Settings) (wrap raw width overflow : ℕ) : Type 0 where
  pub wrap_is : g.wrap ≡ wrap
  pub raw_is : g.raw ≡ raw
  pub width_is : g.width ≡ width
  pub overflow_is : g.overflow ≡ overflow

-- settings that are answered have these figures
abbrev pub Asks : Result Settings Refusal → (wrap raw width overflow : ℕ) → Type 0
Asks asked wrap raw width overflow = (g : Settings) → asked ≡ Ok g → Given g wrap raw width overflow

-- the verdict is that of the checks, and settings that are answered have the figures that were given
pub record SettingsChecked (cs : List Check) (wrap raw width overflow : ℕ) (asked : Result Settings Refusal) : Type 0 where
  pub verdict : verdict_in asked ≡ verdict_of cs
  pub asks : Asks asked wrap raw width overflow
