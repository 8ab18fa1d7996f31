-- What is told of one table of a measured sheet is what is found in the sheet.
use Rattle.answers.specs.declared.Causes.{Causes}
use Rattle.common.specs.declared.Refusal.{Refusal}
use Rattle.std.specs.Prelude.{Err, Ok, Some}
use mathlib.Core.Path.{◌≡◌, sym, ap, ◌∙◌}
use mathlib.Core.List.{List}
use Prim.Native.Nat.{ℕ, ◌+◌, ◌-◌}
use native.Mathlib.Omega.{arith}
use lib.ListN.{take}
use Rattle.text.specs.declared.Estimate.{Estimate}
use Rattle.records.specs.declared.NodeRecord.{NodeRecord}
use Rattle.sheet.proofs.First.{first_passes, figures_pass, figures_fail}
use Rattle.sheet_load.specs.Opening.{open_checks, opened_of}
use Rattle.sheet_figures.specs.inner.Opened.{LinesOf}
use Rattle.sheet_figures.proofs.Openings.{failed, told, opened_passed, opened_apt}
use Rattle.call_missing.specs.inner.Found.{missed_total, column_total, MissingMade, MissingFound}

-- ---- of the table asked for

module _ {s : List ℕ} {line wrap raw width : ℕ} {entry cause : List ℕ} where
  pub missing_found : {n : ℕ} {lines : List NodeRecord} {figures : List Estimate} → LinesOf s line wrap n lines figures → {r : Causes}
      → MissingMade (take n lines) (line - 1) figures raw width r entry cause → MissingFound (open_checks (Some line) s) s line wrap raw width (Ok r) entry cause
  unfolding missed_total column_total
  missing_found w g =
      let cs = open_checks (Some line) s in
      let p = (opened_passed w.opened).all in
      let m = rw w.opened.holds at g in
      let b = (opened_apt w.opened).from_one in
      let k : line - 1 + 1 ≡ line = omega arith in
      let l = rw k at (m.told wrap (record { cells = w.measured.cells })) in
      record {
        answer = ap Ok l.answer ∙ sym (first_passes Err _ cs p);
        few_entries = m.few_entries;
        few_columns = m.few_columns;
        entries = l.entries ∙ sym (figures_pass cs _ p);
        causes = l.causes ∙ sym (figures_pass cs _ p);
      }

  pub missing_refused : {why : Refusal} → opened_of (Some line) s ≡ Err why → MissingFound (open_checks (Some line) s) s line wrap raw width (Err why) entry cause
  unfolding missed_total column_total
  missing_refused {why} o =
      let cs = open_checks (Some line) s in
      let p = failed (Some line) s why o in
      record {
        answer = sym (told (Some line) s Err _ why o);
        few_entries = omega arith;
        few_columns = omega arith;
        entries = sym (figures_fail cs _ p);
        causes = sym (figures_fail cs _ p);
      }
