-- The report on one table of a measured sheet is what is found in the sheet.
use Rattle.common.specs.declared.Refusal.{Refusal}
use Rattle.std.specs.Prelude.{Err, Ok, Some}
use mathlib.Core.Path.{◌≡◌, sym, ◌∙◌}
use mathlib.Core.List.{List}
use Prim.Native.Nat.{ℕ, ◌+◌, ◌-◌}
use native.Mathlib.Omega.{arith}
use lib.ListN.{length, take}
use Rattle.text.specs.declared.Estimate.{Estimate}
use Rattle.records.specs.declared.NodeRecord.{NodeRecord}
use Rattle.sheet.proofs.First.{first_passes, figures_pass, figures_fail}
use Rattle.sheet_load.specs.Opening.{open_checks, opened_of}
use Rattle.sheet_figures.specs.inner.Opened.{LinesOf, lines_in}
use Rattle.sheet_figures.proofs.Openings.{failed, told, opened_passed, opened_apt}
use Rattle.call_window.specs.inner.Found.{WindowMade, WindowFound}

module _ {s : List ℕ} {line wrap raw : ℕ} {widths way wide missing : List ℕ} where
  pub window_found : {n : ℕ} {lines : List NodeRecord} {figures : List Estimate} → LinesOf s line wrap n lines figures
      → WindowMade (take n lines) (line - 1) figures raw widths way wide missing
      → WindowFound (open_checks (Some line) s) s line wrap raw widths (Ok (length widths)) way wide missing
  unfolding lines_in
  window_found w g =
      let cs = open_checks (Some line) s in
      let p = (opened_passed w.opened).all in
      let m = rw w.opened.holds at g in
      let b = (opened_apt w.opened).from_one in
      let k : line - 1 + 1 ≡ line = omega arith in
      let l = rw k at (m.reported wrap (record { cells = w.measured.cells })) in
      record {
        answer = sym (first_passes Err _ cs p);
        few = omega arith;
        ways = l.ways ∙ sym (figures_pass cs _ p);
        wides = l.wides ∙ sym (figures_pass cs _ p);
        missings = l.missings ∙ sym (figures_pass cs _ p);
      }

  pub window_refused : {why : Refusal} → opened_of (Some line) s ≡ Err why → WindowFound (open_checks (Some line) s) s line wrap raw widths (Err why) way wide missing
  unfolding lines_in
  window_refused {why} o =
      let cs = open_checks (Some line) s in
      let p = failed (Some line) s why o in
      record {
        answer = sym (told (Some line) s Err _ why o);
        few = omega arith;
        ways = sym (figures_fail cs _ p);
        wides = sym (figures_fail cs _ p);
        missings = sym (figures_fail cs _ p);
      }
