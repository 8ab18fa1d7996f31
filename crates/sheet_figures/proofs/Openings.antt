-- What the answer of opening a sheet says of the checks, of the sheet's lines and of the line that a call asks for.
use mathlib.Core.Logic.{◌⊎◌, inl, inr}
use Rattle.records.specs.declared.NodeRecord.{NodeRecord}
use Rattle.common.specs.declared.Refusal.{Refusal}
use Rattle.std.specs.Prelude.{Err, Ok, Result, Option, Some}
use mathlib.Core.Path.{◌≡◌, refl, sym, ap, ◌∙◌}
use mathlib.Core.Bool.{Bool, true, false}
use mathlib.Core.List.{List, [], append-nil}
use Prim.Native.Nat.{ℕ, ◌-◌, ◌≤◌}
use native.Mathlib.Omega.{arith}
use lib.ListN.{length, take}
use Rattle.common.specs.Limits.{max_lines}
use Rattle.common.specs.Refusals.{first_answer, passes}
use Rattle.sheet.specs.Sheet.{sheet_lines}
use Rattle.sheet.specs.inner.Steps.{line_bound}
use Rattle.sheet.proofs.First.{first_passes, first_carries}
use Rattle.sheet_load.specs.Opening.{nodes_of, open_checks, opened_of}
use Rattle.sheet_load.specs.inner.Opened.{Apt, OpenSheetPost}
use Rattle.sheet_load.specs.inner.Measures.{Enough}
use Rattle.sheet_load.proofs.Answers.{table_apt}
use Rattle.sheet_load.proofs.Ready.{nodes_lined, nodes_nest}
use Rattle.sheet_load.proofs.Opens.{opened_asked}
use Rattle.sheet_load.proofs.Passing.{Passed, passed}
use Rattle.table_layout.specs.inner.Asked.{Asked, Most}
use Rattle.table_layout.proofs.Capacities.{suffice_most, any_most}
use Rattle.sheet_figures.specs.inner.Opened.{lines_in, OpenedAt}

-- ---- the checks

module _ (asked : Option ℕ) (s : List ℕ) where
  -- a refused sheet has not passed every check
  pub failed : (why : Refusal) → opened_of asked s ≡ Err why → passes (open_checks asked s) ≡ false
  unfolding opened_of
  failed why e = at (passes (open_checks asked s)) refl
    where
      at : (b : Bool) → passes (open_checks asked s) ≡ b → b ≡ false
      at true p =
          let q = sym (first_passes Err (Ok (length (sheet_lines s))) (open_checks asked s) p) ∙ e in
          let z : ◌≡◌ {A = ℕ} 0 1 = cc in absurd (omega arith)
      at false p = refl

  -- and every call that asks the same refuses it so
  pub told : {A : Type 0} (refused : Refusal → A) (accepted : A) (why : Refusal) → opened_of asked s ≡ Err why
      → first_answer refused accepted (open_checks asked s) ≡ refused why
  unfolding opened_of
  told refused accepted why e =
      let cs = open_checks asked s in
      ap (first_answer refused accepted) (sym (append-nil cs))
      ∙ first_carries Err (Ok (length (sheet_lines s))) refused accepted why (λ w f. cc) (λ f. let z : ◌≡◌ {A = ℕ} 0 1 = cc in omega arith) cs [] e

  -- there are no more lines than there is room for
  pub lines_few : (r : Result ℕ Refusal) → r ≡ opened_of asked s → lines_in r ≤ line_bound s
  unfolding lines_in
  lines_few (Ok n) e = (passed asked s n (sym e)).capacity
  lines_few (Err why) e = omega arith

  -- the lines are the first records
  pub lines_in_fits : {r : Result ℕ Refusal} {lines : List NodeRecord} {n : ℕ} → OpenSheetPost asked s r lines → r ≡ Ok n → line_bound s ≤ length lines → n ≤ length lines
  lines_in_fits {n = n} w e h = omega (arith, (passed asked s n (sym w.answer ∙ e)).capacity)

-- ---- the line asked for

module _ {s : List ℕ} {line : ℕ} {r : Result ℕ Refusal} {lines : List NodeRecord} (w : OpenSheetPost (Some line) s r lines) {n : ℕ} (e : r ≡ Ok n) where
  pub opened_at : OpenedAt s line n lines
  opened_at = record {
    answer = sym w.answer ∙ e;
    holds = w.holds n e;
    sound =
        let t = table_apt (nodes_of s) line (opened_asked (Some line) s n (sym w.answer ∙ e) line refl) in
        (w.sound n e).at (line - 1) (omega (arith, t.from_one, t.within)) t.kind;
  }

module _ {s : List ℕ} {line n : ℕ} {lines : List NodeRecord} (w : OpenedAt s line n lines) where
  pub opened_passed : Passed (Some line) s n
  opened_passed = passed (Some line) s n w.answer

  pub opened_apt : Apt (nodes_of s) line
  opened_apt = table_apt (nodes_of s) line (opened_asked (Some line) s n w.answer line refl)

  pub opened_front : line_bound s ≤ length lines → n ≤ length lines
  opened_front h = omega (arith, opened_passed.capacity)

  pub asked_lines : Asked (take n lines) line
  asked_lines =
      let t = opened_apt in
      rw w.holds
      (record {
        from_one = t.from_one;
        within = omega (arith, t.from_one, t.within);
        kind = t.kind;
        lined = nodes_lined s n opened_passed.reading;
        nests = nodes_nest s n opened_passed.reading;
        sound = w.sound;
      })

-- ---- records for its grid

pub most_enough : {ks : List NodeRecord} {line most held : ℕ} → Asked ks line → Enough most held ks → Most most held ks line
most_enough a (inl s) = suffice_most a s
most_enough {ks} {held = held} a (inr m) = let t = any_most a in record { entries_most = omega (arith, t.entries_most, m.0); lines_most = row_each m.1 }
  where
    row_each : (max_lines ≤ held) ⊎ (length ks ≤ held) → length ks ≤ held
    row_each (inl w) = omega (arith, (any_most a).lines_most, w)
    row_each (inr w) = w
