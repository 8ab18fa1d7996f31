-- The call: what is found in the sheet is what it answers and leaves.
use Rattle.answers.specs.Answers.{causes_with}
use Rattle.answers.specs.declared.Causes.{Causes}
use Rattle.common.specs.declared.Refusal.{Refusal}
use Rattle.std.specs.Prelude.{Err, Ok, Result, MatchResult, Some}
use mathlib.Core.Path.{◌≡◌, refl, sym, ◌∙◌}
use mathlib.Core.List.{List, [], ◌∷◌}
use Prim.Native.Nat.{ℕ, ◌≤◌}
use native.Mathlib.Omega.{arith}
use lib.ListN.{length, take}
use Rattle.common.specs.Lists.{padded}
use Rattle.common.specs.Limits.{max_lines, max_entries}
use Rattle.common.specs.Refusals.{Check, first_answer, verdict_of, if_passes}
use Rattle.sheet.proofs.First.{neither}
use Rattle.sheet_load.specs.Opening.{after_reading, open_checks}
use Rattle.arguments.specs.Arguments.{any_shorter, missing_arguments}
use Rattle.arguments.specs.declared.Settings.{Settings}
use Rattle.arguments.specs.inner.Asked.{Asks, verdict_in}
use Rattle.arguments.proofs.Opened.{opened}
use Rattle.arguments.proofs.Shorter.{one_fit}
use Rattle.sheet_figures.specs.Figures.{columns_at}
use Rattle.sheet_figures.specs.inner.Early.{early}
use Rattle.sheet_figures.proofs.Early.{early_nines, none_nines, fits, leaving}
use Rattle.causes.specs.Sheets.{missing_at}
use Rattle.call_missing.specs.Missing.{missing_checks, explained_of, for_one, MissingAnswer}
use Rattle.call_missing.specs.inner.Found.{ExplainCapacity, missed_total, column_total, MissingFound}

-- refused for the arguments
missing_early : (why : Refusal) (cs : List Check) (s : List ℕ) (line wrap raw width : ℕ) (entry cause : List ℕ)
    → MissingFound (early (Err why) ∷ cs) s line wrap raw width (Err why) entry cause
unfolding first_answer early if_passes missed_total column_total
missing_early why cs s line wrap raw width entry cause =
    record { answer = refl; few_entries = omega arith; few_columns = omega arith; entries = refl; causes = refl }

-- not refused for the arguments
missing_late : {cs : List Check} {s : List ℕ} {line wrap raw width : ℕ} {r : Result Causes Refusal} {entry cause : List ℕ}
    → MissingFound cs s line wrap raw width r entry cause → MissingFound (early (Ok tt) ∷ cs) s line wrap raw width r entry cause
unfolding first_answer early if_passes
missing_late f =
    record { answer = f.answer; few_entries = f.few_entries; few_columns = f.few_columns; entries = f.entries; causes = f.causes }

pub missing_opened : {asked : Result Settings Refusal} {cs : List Check} {s : List ℕ} {line wrap raw width : ℕ} {r : Result Causes Refusal} {entry cause : List ℕ}
    → Asks asked wrap raw width 0 → MatchResult asked (λ g. MissingFound cs s line g.wrap g.raw g.width r entry cause) (λ why. r ≡ Err why)
    → MissingFound (early (verdict_in asked) ∷ cs) s line wrap raw width r entry cause
missing_opened {asked} {cs} {s} {line} {wrap} {raw} {width} {r} {entry} {cause} =
    opened (λ v q. MissingFound (early v ∷ cs) s line wrap raw width q entry cause) (λ p q l o. MissingFound cs s line p q l r entry cause)
    asked (λ why. missing_early why cs s line wrap raw width entry cause) missing_late

-- where the arguments are not refused, each lent buffer has room
fit : (wrap raw width : ℕ) (v : Result (Unit {0}) Refusal) (a b : ℕ) → v ≡ verdict_of (missing_arguments wrap raw width (a ∷ []) (b ∷ [])) → v ≡ (Ok tt)
    → (max_entries ≤ a) × (max_lines ≤ b)
fit wrap raw width v a b judged z =
    let (p, q) = neither (any_shorter max_entries (a ∷ [])) (any_shorter max_lines (b ∷ [])) (none_nines _ _ (sym judged ∙ z)).1 in
    (one_fit max_entries a p, one_fit max_lines b q)

pub missing_fit : (wrap raw width : ℕ) (v : Result (Unit {0}) Refusal) (entry cause : List ℕ) → v ≡ verdict_of (missing_arguments wrap raw width (for_one entry) (for_one cause))
    → v ≡ (Ok tt) → ExplainCapacity entry cause
missing_fit wrap raw width v entry cause judged z =
    let (a, b) = fit wrap raw width v (length entry) (length cause) judged z in
    record { entry_capacity = a; cause_capacity = b }

-- there is room for what is told
pub missing_rooms : {s : List ℕ} {line wrap raw width : ℕ} {v : Result (Unit {0}) Refusal} {a b : ℕ} {r : Result Causes Refusal} {entry cause : List ℕ}
    → v ≡ verdict_of (missing_arguments wrap raw width (a ∷ []) (b ∷ [])) → MissingFound (early v ∷ open_checks (Some line) s) s line wrap raw width r entry cause
    → (missed_total r ≤ a) × (column_total r ≤ b)
unfolding missed_total column_total
missing_rooms {s} {line} {wrap} {raw} {width} {v} {a} {b} {r} judged found =
    let f = fit wrap raw width v a b judged in (
      fits Err _ missed_total (λ why. refl) v (open_checks (Some line) s) r max_entries a found.answer found.few_entries (λ z. (f z).0),
      fits Err _ column_total (λ why. refl) v (open_checks (Some line) s) r max_lines b found.answer found.few_columns (λ z. (f z).1),
    )

module _ {s : List ℕ} {line wrap raw width : ℕ} {v : Result (Unit {0}) Refusal} {entry₀ cause₀ : List ℕ} {r : Result Causes Refusal} {entry cause : List ℕ}
    (judged : v ≡ verdict_of (missing_arguments wrap raw width (for_one entry₀) (for_one cause₀)))
    (found : MissingFound (early v ∷ open_checks (Some line) s) s line wrap raw width r entry cause) where
  pub missing_answered : {n m : ℕ} {a b : List ℕ} → n ≡ missed_total r → m ≡ column_total r → length entry ≡ length entry₀ → length cause ≡ length cause₀
      → a ≡ padded (length entry) (take n entry) → b ≡ padded (length cause) (take m cause)
      → MissingAnswer s line wrap raw width entry₀ cause₀ r a b
  unfolding explained_of after_reading if_passes
  missing_answered k l ka kb a b =
      let f : (xs : List ℕ) → first_answer (λ why. []) xs (early v ∷ open_checks (Some line) s) ≡ first_answer (λ why. []) xs (missing_checks s line wrap raw width (for_one entry₀) (for_one cause₀)) =
      λ xs. early_nines (λ why. []) xs v (open_checks (Some line) s) _ _ judged in
      let told = Ok (causes_with (length (missing_at s line wrap raw width)) (columns_at s line)) in
      record {
        answer =
            found.answer
            ∙ early_nines Err told v (open_checks (Some line) s) _ _ judged;
        left =
            record {
              entries = leaving entry₀ entry (f _) k ka a found.entries;
              causes = leaving cause₀ cause (f _) l kb b found.causes;
            };
      }
