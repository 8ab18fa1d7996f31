-- The settings before the sheet in the input of a program: two lines, the first "wrap raw width", the second these three numbers, one
-- space between, written as in a sheet.
use Rattle.std.specs.Prelude.{cond, List, [], ◌∷◌, ℕ, ◌-◌, eqb, length, take, drop, Result, Ok, Err}
use Rattle.common.specs.Limits.{max_wrap, max_width}
use Rattle.common.specs.Refusals.{refusal}
use Rattle.common.specs.declared.Reason.TheVariants.{Setting}
use Rattle.common.specs.declared.Refusal.{Refusal}
use Rattle.kinds.specs.Kinds.{same}
use Rattle.fields.specs.Lines.{feed}
use Rattle.fields.specs.Numbers.{Numeral, numeral, unwritten, number_of, up_to, magnitude}
use Rattle.settings.specs.declared.Given.{Given}

-- "wrap raw width" and its line feed
abbrev pub settings_heading : List ℕ
settings_heading = 119 ∷ 114 ∷ 97 ∷ 112 ∷ 32 ∷ 114 ∷ 97 ∷ 119 ∷ 32 ∷ 119 ∷ 105 ∷ 100 ∷ 116 ∷ 104 ∷ 10 ∷ []

-- the bytes before the first byte that is `stop`, and those after it, if there is one
pub data Part : Type 0 where
  part : List ℕ → List ℕ → Part
  unstopped : Part

abbrev pub longer : ℕ → Part → Part
longer b (part f r) = part (b ∷ f) r
longer b unstopped = unstopped

unfoldable pub until : ℕ → List ℕ → Part
until stop [] = unstopped
until stop (b ∷ bs) = cond (eqb b stop) (part [] bs) (longer b (until stop bs))

-- what settings are: these, or refused with 9, line 0

abbrev pub Settled : Type 0
Settled = Result Given Refusal

abbrev pub malformed : Settled
malformed = Err (refusal Setting 0)

abbrev pub with_numeral : Numeral → ℕ → (ℕ → Settled) → Settled
with_numeral (numeral n) most f = cond (up_to most n) (f (magnitude n)) malformed
with_numeral unwritten most f = malformed

abbrev pub with_part : Part → (List ℕ → List ℕ → Settled) → Settled
with_part (part f r) g = g f r
with_part unstopped g = malformed

-- a number of at most `most` before the byte `stop`, and what follows
unfoldable pub then_setting : ℕ → ℕ → List ℕ → (ℕ → List ℕ → Settled) → Settled
then_setting stop most s f = with_part (until stop s) (λ b r. with_numeral (number_of b) most (λ n. f n r))

-- wrap 0 to 1,000, raw 0 or 1, width 0 to 65,535; the sheet is what follows
unfoldable pub settings_in : ℕ → List ℕ → Settled
settings_in all s =
    then_setting 32 max_wrap s (λ wrap s₁.
    then_setting 32 1 s₁ (λ raw s₂.
    then_setting feed max_width s₂ (λ width sheet.
    Ok (record { wrap = wrap; raw = raw; width = width; sheet = all - length sheet }))))

unfoldable pub settings_of : List ℕ → Settled
settings_of s = cond (same (take 15 s) settings_heading) (settings_in (length s) (drop 15 s)) malformed
