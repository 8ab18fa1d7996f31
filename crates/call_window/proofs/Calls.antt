-- The call: what is found in the sheet is what it answers and leaves.
use Rattle.common.specs.declared.Refusal.{Refusal}
use Rattle.std.specs.Prelude.{Err, Ok, Result, MatchResult, Some}
use mathlib.Core.Path.{◌≡◌, refl, sym, ◌∙◌}
use mathlib.Core.List.{List, [], ◌∷◌}
use Prim.Native.Nat.{ℕ, ◌≤◌}
use native.Mathlib.Omega.{arith}
use lib.Dec.{eqb, ltb}
use lib.ListN.{length, take}
use borrow.Author.Tests.{ltb-false}
use Rattle.common.specs.Lists.{padded}
use Rattle.common.specs.Limits.{max_widths}
use Rattle.common.specs.Refusals.{Check, first_answer, verdict_of, if_passes}
use Rattle.sheet.proofs.First.{neither}
use Rattle.sheet_load.specs.Opening.{after_reading, open_checks}
use Rattle.arguments.specs.Arguments.{window_arguments}
use Rattle.arguments.specs.declared.Settings.{Settings}
use Rattle.arguments.specs.inner.Asked.{Asks, verdict_in}
use Rattle.arguments.proofs.Opened.{opened}
use Rattle.arguments.proofs.Shorter.{three_fit}
use Rattle.sheet_figures.specs.inner.Early.{early}
use Rattle.sheet_figures.specs.inner.Opened.{lines_in}
use Rattle.sheet_figures.proofs.Early.{early_checks, none_first, fits, leaving}
use Rattle.call_window.specs.Window.{window_of, window_checks, for_report, WindowAnswer}
use Rattle.call_window.specs.inner.Found.{ReportCapacity, WindowFound}

-- refused for the arguments
window_early : (why : Refusal) (cs : List Check) (s : List ℕ) (line wrap raw : ℕ) (widths way wide missing : List ℕ)
    → WindowFound (early (Err why) ∷ cs) s line wrap raw widths (Err why) way wide missing
unfolding first_answer early if_passes lines_in
window_early why cs s line wrap raw widths way wide missing = record { answer = refl; few = omega arith; ways = refl; wides = refl; missings = refl }

-- not refused for the arguments
window_late : {cs : List Check} {s : List ℕ} {line wrap raw : ℕ} {widths : List ℕ} {r : Result ℕ Refusal} {way wide missing : List ℕ}
    → WindowFound cs s line wrap raw widths r way wide missing → WindowFound (early (Ok tt) ∷ cs) s line wrap raw widths r way wide missing
unfolding first_answer early if_passes
window_late f = record { answer = f.answer; few = f.few; ways = f.ways; wides = f.wides; missings = f.missings }

pub window_opened : {asked : Result Settings Refusal} {cs : List Check} {s : List ℕ} {line wrap raw : ℕ} {widths : List ℕ} {r : Result ℕ Refusal} {way wide missing : List ℕ}
    → Asks asked wrap raw 0 0 → MatchResult asked (λ g. WindowFound cs s line g.wrap g.raw widths r way wide missing) (λ why. r ≡ Err why)
    → WindowFound (early (verdict_in asked) ∷ cs) s line wrap raw widths r way wide missing
window_opened {asked} {cs} {s} {line} {wrap} {raw} {widths} {r} {way} {wide} {missing} =
    opened (λ v q. WindowFound (early v ∷ cs) s line wrap raw widths q way wide missing) (λ p q l o. WindowFound cs s line p q widths r way wide missing)
    asked (λ why. window_early why cs s line wrap raw widths way wide missing) window_late

-- where the arguments are not refused, the list is no longer than a call takes, and each lent buffer has room
module _ (wrap raw : ℕ) (widths : List ℕ) (v : Result (Unit {0}) Refusal) where
  capacity : (a b c : ℕ) → v ≡ verdict_of (window_arguments wrap raw widths (a ∷ b ∷ c ∷ [])) → v ≡ (Ok tt)
      → (length widths ≤ max_widths) × (length widths ≤ a) × (length widths ≤ b) × (length widths ≤ c)
  capacity a b c judged z =
      let (p, e₁) = none_first _ _ (sym judged ∙ z) in
      let (q, e₂) = none_first _ _ e₁ in
      let (r, e₃) = none_first _ _ e₂ in
      let (f, g, h) = three_fit (length widths) a b c r in
      (ltb-false max_widths (length widths) (neither (eqb (length widths) 0) (ltb max_widths (length widths)) p).1, f, g, h)

  pub window_fit : (way wide missing : List ℕ) → v ≡ verdict_of (window_arguments wrap raw widths (for_report way wide missing)) → v ≡ (Ok tt)
      → ReportCapacity widths way wide missing
  window_fit way wide missing judged z =
      let (n, a, b, c) = capacity (length way) (length wide) (length missing) judged z in
      record { few = n; way_capacity = a; wide_capacity = b; missing_capacity = c }

module _ {s : List ℕ} {line wrap raw : ℕ} {widths : List ℕ} {v : Result (Unit {0}) Refusal} {r : Result ℕ Refusal} {way wide missing : List ℕ}
    (found : WindowFound (early v ∷ open_checks (Some line) s) s line wrap raw widths r way wide missing) where
  -- there is room for what is reported
  pub window_rooms : {a b c : ℕ} → v ≡ verdict_of (window_arguments wrap raw widths (a ∷ b ∷ c ∷ [])) → (lines_in r ≤ a) × (lines_in r ≤ b) × (lines_in r ≤ c)
  unfolding lines_in
  window_rooms {a} {b} {c} judged =
      let f = capacity wrap raw widths v a b c judged in
      let g : (n : ℕ) → (v ≡ (Ok tt) → length widths ≤ n) → lines_in r ≤ n =
      λ n. fits Err _ lines_in (λ why. refl) v (open_checks (Some line) s) r (length widths) n found.answer found.few in
      (g a (λ z. (f z).1), g b (λ z. (f z).2), g c (λ z. (f z).3))

  pub window_answered : {way₀ wide₀ missing₀ : List ℕ} → v ≡ verdict_of (window_arguments wrap raw widths (for_report way₀ wide₀ missing₀))
      → {n : ℕ} {a b c : List ℕ} → n ≡ lines_in r → length way ≡ length way₀ → length wide ≡ length wide₀ → length missing ≡ length missing₀
      → a ≡ padded (length way) (take n way) → b ≡ padded (length wide) (take n wide) → c ≡ padded (length missing) (take n missing)
      → WindowAnswer s line wrap raw widths way₀ wide₀ missing₀ r a b c
  unfolding window_of after_reading if_passes
  window_answered {way₀} {wide₀} {missing₀} judged k ka kb kc a b c =
      let cs = window_arguments wrap raw widths (for_report way₀ wide₀ missing₀) in
      let f : (xs : List ℕ) → first_answer (λ why. []) xs (early v ∷ open_checks (Some line) s) ≡ first_answer (λ why. []) xs (window_checks s line wrap raw widths (for_report way₀ wide₀ missing₀)) =
      λ xs. early_checks (λ why. []) xs v (open_checks (Some line) s) cs judged in
      record {
        answer = found.answer ∙ early_checks Err (Ok (length widths)) v (open_checks (Some line) s) cs judged;
        left =
            record {
              ways = leaving way₀ way (f _) k ka a found.ways;
              wides = leaving wide₀ wide (f _) k kb b found.wides;
              missings = leaving missing₀ missing (f _) k kc c found.missings;
            };
      }
