-- What callers know of settings that were read: each is in its range, and the sheet starts within the input.
use mathlib.Core.Path.{◌≡◌, refl, subst}
use mathlib.Core.Bool.{Bool, true, false, cond}
use mathlib.Core.List.{List}
use Prim.Native.Nat.{ℕ, ◌≤◌}
use native.Mathlib.Omega.{arith}
use lib.Dec.{leb}
use lib.ListN.{length, take, drop}
use borrow.Author.Tests.{leb-true}
use Rattle.std.specs.Prelude.{Ok, Err}
use Rattle.common.specs.Limits.{max_wrap, max_width}
use Rattle.text.specs.Decimal.{plain, minus}
use Rattle.kinds.specs.Kinds.{same}
use Rattle.fields.specs.Lines.{feed}
use Rattle.fields.specs.Numbers.{Numeral, numeral, unwritten, number_of}
use Rattle.settings.specs.Settings.{Part, part, unstopped, until, with_part, with_numeral, then_setting, settings_heading, settings_in, settings_of, Settled, malformed}
use Rattle.settings.specs.declared.Given.{Given}

pub record InRange (all : ℕ) (g : Given) : Type 0 where
  pub wrap : g.wrap ≤ max_wrap
  pub raw : g.raw ≤ 1
  pub width : g.width ≤ max_width
  pub sheet : g.sheet ≤ all

abbrev SettledIn : ℕ → Settled → Type 0
SettledIn all (Ok g) = InRange all g
SettledIn all (Err e) = Unit {0}

module _ (all most : ℕ) (f : ℕ → List ℕ → Settled) (h : (v : ℕ) (r : List ℕ) → v ≤ most → SettledIn all (f v r)) where
  sound_numeral : (x : Numeral) (r : List ℕ) → SettledIn all (with_numeral x most (λ n. f n r))
  sound_numeral unwritten r = tt
  sound_numeral (numeral (minus v)) r = tt
  sound_numeral (numeral (plain v)) r = go (leb v most) refl
    where
      go : (t : Bool) → leb v most ≡ t → SettledIn all (cond t (f v r) malformed)
      go true e = h v r (leb-true v most e)
      go false e = tt

  sound_part : (x : Part) → SettledIn all (with_part x (λ b r. with_numeral (number_of b) most (λ n. f n r)))
  sound_part (part b r) = sound_numeral (number_of b) r
  sound_part unstopped = tt

  sound_setting : (stop : ℕ) (s : List ℕ) → SettledIn all (then_setting stop most s f)
  unfolding then_setting
  sound_setting stop s = sound_part (until stop s)

sound_in : (all : ℕ) (s : List ℕ) → SettledIn all (settings_in all s)
unfolding settings_in
sound_in all s =
    sound_setting all max_wrap _
    (λ wrap s₁ p. sound_setting all 1 _
    (λ raw s₂ q. sound_setting all max_width _
    (λ width sheet l. record { wrap = p; raw = q; width = l; sheet = omega arith })
    feed s₂)
    32 s₁)
    32 s

pub settings_in_range : (s : List ℕ) (g : Given) → settings_of s ≡ Ok g → InRange (length s) g
unfolding settings_of
settings_in_range s g e = subst (SettledIn (length s)) e (go (same (take 15 s) settings_heading))
  where
    go : (t : Bool) → SettledIn (length s) (cond t (settings_in (length s) (drop 15 s)) malformed)
    go true = sound_in (length s) (drop 15 s)
    go false = tt
