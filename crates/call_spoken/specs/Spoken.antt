-- The call `spoken`: the text that a screen reader speaks at a filler, as a part of the sheet or of the wording that the caller lends.
use Rattle.std.specs.Prelude.{Bool, true, false, ◌≡◌, List, [], ◌∷◌, ◌++◌, ℕ, ◌<◌, length, take, drop, Option, None, Some, Result, Ok, Err}
use Rattle.common.specs.declared.Reason.TheVariants.{NoTable}
use Rattle.common.specs.declared.Refusal.{Refusal}
use Rattle.common.specs.Refusals.{Check, check, answer_by, verdict_of, passes}
use Rattle.answers.specs.declared.Part.{Part}
use Rattle.grid.specs.Grid.{entries_of}
use Rattle.sheet_load.specs.Opening.{nodes_of}
use Rattle.sheet_figures.specs.Figures.{rows_at}
use Rattle.sheet_figures.specs.Calls.{asked_checks}
use Rattle.owners.specs.Owner.{filler_owner}
use Rattle.spoken_text.specs.Text.{text_inside, text_of, part_for}

-- the line of the cell that the entry continues, entries counted from 0 as `grid` lists them; none if it is no filler
abbrev pub owner_at : List ℕ → ℕ → ℕ → Option ℕ
owner_at s line e = filler_owner (entries_of (rows_at s line)) e

unfoldable pub is_none : {A : Type 0} → Option A → Bool
is_none None = true
is_none (Some x) = false

-- what it refuses, in its order: 10 comes again, last, for an entry that is no filler
abbrev pub spoken_checks : List ℕ → ℕ → ℕ → List Check
spoken_checks s line e = asked_checks s line ++ check (is_none (owner_at s line e)) NoTable 0 ∷ []

-- the part of the sheet that is spoken for an owner; none where the wording is
unfoldable pub part_of_owner : List ℕ → Option ℕ → Option Part
part_of_owner s None = None
part_of_owner s (Some c) = part_for (text_inside (nodes_of s) c) s

abbrev pub part_at : List ℕ → ℕ → ℕ → Option Part
part_at s line e = part_of_owner s (owner_at s line e)

-- where the reply stands: in the sheet, or none where it is the whole wording
unfoldable pub place_of : List ℕ → ℕ → ℕ → Result (Option Part) Refusal
place_of s line e = answer_by (part_at s line e) (spoken_checks s line e)

-- the reply: a part of the sheet, or the whole wording; an empty part of the wording if the call is refused
unfoldable pub reply : (s wording : List ℕ) → Result (Option Part) Refusal → List ℕ
reply s wording (Ok (Some p)) = take p.length (drop p.from s)
reply s wording (Ok None) = wording
reply s wording (Err why) = []

-- what the call returns, and the verdict that it leaves
pub record SpokenAnswer (s : List ℕ) (line e : ℕ) (wording r : List ℕ) (verdict : Result (Unit {0}) Refusal) : Type 0 where
  pub text : r ≡ reply s wording (place_of s line e)
  pub verdict_is : verdict ≡ verdict_of (spoken_checks s line e)

-- the same in the sheet's words, of an accepted call: where line k is the first text inside the cell that the filler continues, and its text is not
-- empty, that whole text is returned
abbrev pub SpeaksText : (s : List ℕ) (line e : ℕ) (r : List ℕ) → Type 0
SpeaksText s line e r =
    (c k : ℕ) → passes (spoken_checks s line e) ≡ true → owner_at s line e ≡ Some c → text_inside (nodes_of s) c ≡ Some k → 0 < length (text_of s k) → r ≡ text_of s k
