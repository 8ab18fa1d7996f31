-- What is found in the sheet is what the calls answer and leave.
use Rattle.common.specs.declared.Refusal.{Refusal}
use Rattle.std.specs.Prelude.{Err, Ok, Result, None}
use mathlib.Core.Path.{◌≡◌, refl, sym, ◌∙◌}
use mathlib.Core.Bool.{true, false, false≢true}
use mathlib.Core.List.{List, [], ◌∷◌}
use Prim.Native.Nat.{ℕ, ◌≤◌}
use native.Mathlib.Omega.{arith}
use lib.ListN.{length, take}
use Rattle.common.specs.Lists.{padded}
use Rattle.common.specs.Limits.{max_lines}
use Rattle.common.specs.Refusals.{Check, first_answer, verdict_of, passes, if_passes}
use Rattle.sheet.specs.Sheet.{sheet_lines}
use Rattle.sheet.proofs.First.{first_told}
use Rattle.sheet_load.specs.Opening.{after_reading, open_checks, opened_of}
use Rattle.sheet_figures.specs.Calls.{check_checks}
use Rattle.sheet_figures.specs.inner.Early.{early}
use Rattle.sheet_figures.specs.inner.Opened.{lines_in}
use Rattle.call_estimates.specs.inner.Found.{LinesCapacity, EstimatesFound}
use Rattle.arguments.specs.Arguments.{estimates_arguments}
use Rattle.call_estimates.specs.Estimates.{estimated_of, EstimatesAnswer}
use Rattle.arguments.proofs.Shorter.{three_fit}
use Rattle.sheet_figures.proofs.Early.{early_nines, none_nines, fits, leaving}

-- ---- `check`

-- an answer without its value
abbrev pub verdict_in : Result ℕ Refusal → Result (Unit {0}) Refusal
verdict_in (Ok n) = Ok tt
verdict_in (Err why) = Err why

pub checked : (s : List ℕ) → verdict_in (opened_of None s) ≡ verdict_of (check_checks s)
unfolding opened_of verdict_of after_reading
checked s = first_told verdict_in Err (Ok (length (sheet_lines s))) (open_checks None s)

-- ---- `estimates`, before the sheet is read

-- refused for the arguments
pub found_early : (why : Refusal) (cs : List Check) (s : List ℕ) (wrap : ℕ) (size least prefix : List ℕ)
    → EstimatesFound (early (Err why) ∷ cs) s wrap (Err why) size least prefix
unfolding first_answer early passes if_passes lines_in
found_early why cs s wrap size least prefix = record { answer = refl; few = omega arith; sizes = refl; leasts = refl; prefixes = refl; sound = λ p. absurd (false≢true p) }

-- not refused for the arguments
pub found_late : {v : Result (Unit {0}) Refusal} {cs : List Check} {s : List ℕ} {wrap : ℕ} {r : Result ℕ Refusal} {size least prefix : List ℕ} → v ≡ (Ok tt)
    → EstimatesFound cs s wrap r size least prefix → EstimatesFound (early v ∷ cs) s wrap r size least prefix
unfolding first_answer early passes if_passes
found_late z f =
    rw z (record { answer = f.answer; few = f.few; sizes = f.sizes; leasts = f.leasts; prefixes = f.prefixes; sound = f.sound })

-- ---- the call

-- where the arguments are not refused, each lent buffer has room for all lines
fit : (wrap : ℕ) (v : Result (Unit {0}) Refusal) (a b c : ℕ) → v ≡ verdict_of (estimates_arguments wrap (a ∷ b ∷ c ∷ [])) → v ≡ (Ok tt) → (max_lines ≤ a) × (max_lines ≤ b) × (max_lines ≤ c)
fit wrap v a b c judged z = three_fit max_lines a b c (none_nines _ _ (sym judged ∙ z)).1

pub figures_fit : (wrap : ℕ) (v : Result (Unit {0}) Refusal) (size least prefix : List ℕ)
    → v ≡ verdict_of (estimates_arguments wrap (length size ∷ length least ∷ length prefix ∷ [])) → v ≡ (Ok tt) → LinesCapacity size least prefix
figures_fit wrap v size least prefix judged z =
    let (a, b, c) = fit wrap v (length size) (length least) (length prefix) judged z in
    record { size_capacity = a; least_capacity = b; prefix_capacity = c }

module _ {s : List ℕ} {wrap : ℕ} {v : Result (Unit {0}) Refusal} {a b c : ℕ} {r : Result ℕ Refusal} {size least prefix : List ℕ}
    (judged : v ≡ verdict_of (estimates_arguments wrap (a ∷ b ∷ c ∷ [])))
    (found : EstimatesFound (early v ∷ open_checks None s) s wrap r size least prefix) where
  -- and so for the figures
  pub capacities : (lines_in r ≤ a) × (lines_in r ≤ b) × (lines_in r ≤ c)
  unfolding lines_in
  capacities =
      let f = fit wrap v a b c judged in
      let g : (capacity : ℕ) → (v ≡ (Ok tt) → max_lines ≤ capacity) → lines_in r ≤ capacity =
      λ capacity h. fits Err _ lines_in (λ why. refl) v (open_checks None s) r max_lines capacity found.answer found.few h in
      (g a (λ z. (f z).0), g b (λ z. (f z).1), g c (λ z. (f z).2))

module _ {s : List ℕ} {wrap : ℕ} {v : Result (Unit {0}) Refusal} {size₀ least₀ prefix₀ : List ℕ} {r : Result ℕ Refusal} {size least prefix : List ℕ}
    (judged : v ≡ verdict_of (estimates_arguments wrap (length size₀ ∷ length least₀ ∷ length prefix₀ ∷ [])))
    (found : EstimatesFound (early v ∷ open_checks None s) s wrap r size least prefix) where
  pub answered : {a : Result ℕ Refusal} {n : ℕ} {size' least' prefix' : List ℕ} → a ≡ r → n ≡ lines_in r
      → length size ≡ length size₀ → length least ≡ length least₀ → length prefix ≡ length prefix₀
      → size' ≡ padded (length size) (take n size) → least' ≡ padded (length least) (take n least) → prefix' ≡ padded (length prefix) (take n prefix)
      → EstimatesAnswer s wrap size₀ least₀ prefix₀ a size' least' prefix'
  unfolding estimated_of after_reading passes if_passes
  answered t k h i j a b c =
      record {
        answer =
            t
            ∙ found.answer
            ∙ early_nines Err (Ok (length (sheet_lines s))) v (open_checks None s) _ _ judged;
        left =
            record {
              sizes = leaving size₀ size (early_nines (λ why. []) _ v (open_checks None s) _ _ judged) k h a found.sizes;
              leasts = leaving least₀ least (early_nines (λ why. []) _ v (open_checks None s) _ _ judged) k i b found.leasts;
              prefixes = leaving prefix₀ prefix (early_nines (λ why. []) _ v (open_checks None s) _ _ judged) k j c found.prefixes;
              sound = λ q. found.sound (early_nines (λ why. false) true v (open_checks None s) _ _ judged ∙ q);
            };
      }
