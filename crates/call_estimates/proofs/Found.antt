-- The estimates of a sheet's lines, told of the records of a measured sheet.
use Rattle.records.specs.declared.NodeRecord.{NodeRecord}
use Rattle.common.specs.declared.Refusal.{Refusal}
use Rattle.std.specs.Prelude.{Err, Ok, None}
use mathlib.Core.Path.{◌≡◌, refl, sym, ap, ◌∙◌}
use mathlib.Core.List.{List, map}
use Prim.Native.Nat.{ℕ, ◌≤◌}
use native.Mathlib.Omega.{arith}
use lib.ListN.{length, take, length-map}
use lib.Seq.{length-take-le}
use Rattle.common.specs.Limits.{max_lines}
use Rattle.common.specs.Refusals.{Check}
use Rattle.text.specs.declared.Estimate.{Estimate}
use Rattle.sheet.proofs.First.{figures_fail, front_pass}
use Rattle.estimates.specs.Estimates.{estimates, measured, est_of}
use Rattle.estimates.proofs.Laws.{length_all}
use Rattle.sheet_load.specs.Opening.{nodes_of, open_checks, opened_of}
use Rattle.sheet_load.specs.inner.Measures.{MeasureSheetPost}
use Rattle.sheet_figures.specs.Figures.{line_size, line_least, line_prefix}
use Rattle.sheet_figures.specs.inner.Opened.{lines_in}
use Rattle.call_estimates.specs.inner.Found.{LinesCapacity, WriteFiguresPre, WriteFiguresPost, EstimatesFound}
use Rattle.sheet_load.proofs.Passing.{passed}
use Rattle.sheet_figures.proofs.Openings.{failed}

-- buffers that are as long as they were have the same room
pub lines_still : {size size' least least' prefix prefix' : List ℕ} → length size' ≡ length size → length least' ≡ length least → length prefix' ≡ length prefix
    → LinesCapacity size least prefix → LinesCapacity size' least' prefix'
lines_still a b c l = record { size_capacity = omega (arith, l.size_capacity); least_capacity = omega (arith, l.least_capacity); prefix_capacity = omega (arith, l.prefix_capacity) }

-- there are places for the figures of so many lines
pub figures_fit : {figures : List Estimate} {size least prefix : List ℕ} → length figures ≤ max_lines → LinesCapacity size least prefix → WriteFiguresPre figures size least prefix
figures_fit h l = record {
  sizes_fit = omega (arith, l.size_capacity);
  leasts_fit = omega (arith, l.least_capacity);
  prefixes_fit = omega (arith, l.prefix_capacity);
}

module _ {s : List ℕ} {wrap : ℕ} {size least prefix : List ℕ} where
  -- the figures of all lines of an accepted sheet
  pub estimates_found : {lines : List NodeRecord} {fs : List Estimate} (n : ℕ) → n ≤ length fs → MeasureSheetPost None s wrap (Ok n) lines fs → WriteFiguresPost (take n fs) size least prefix
      → EstimatesFound (open_checks None s) s wrap (Ok n) size least prefix
  unfolding lines_in opened_of
  estimates_found {fs = fs} n h m t =
      let cs = open_checks None s in
      let p = passed None s n (sym m.opened.answer) in
      let f = m.measured n refl in
      let e : take n fs ≡ estimates wrap (nodes_of s) = ap (λ (k : ℕ). take k fs) p.kept ∙ f.figures in
      let l : n ≡ length (take n fs) = sym (length-take-le n fs h) in
      record {
        answer = m.opened.answer;
        few = p.few;
        sizes = front_pass size cs p.all l (t.sizes ∙ ap (map line_size) e);
        leasts = front_pass least cs p.all l (t.leasts ∙ ap (map line_least) e);
        prefixes = front_pass prefix cs p.all l (t.prefixes ∙ ap (map line_prefix) e);
        sound = λ q k g. f.sound k (omega (arith, length-map (measured wrap 1 (nodes_of s)) est_of, length_all wrap (nodes_of s)));
      }

  pub estimates_refused : {why : Refusal} → opened_of None s ≡ Err why → EstimatesFound (open_checks None s) s wrap (Err why) size least prefix
  unfolding lines_in opened_of
  estimates_refused {why} o =
      let cs = open_checks None s in
      let p = failed None s why o in
      record {
        answer = sym o;
        few = omega arith;
        sizes = sym (figures_fail cs _ p);
        leasts = sym (figures_fail cs _ p);
        prefixes = sym (figures_fail cs _ p);
        sound = λ q. let z : ◌≡◌ {A = ℕ} 0 1 = cc in absurd (omega arith);
      }
