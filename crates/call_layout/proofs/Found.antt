-- The layout of the table in a line of a sheet that was read is the one asked for.
use Rattle.answers.specs.Answers.{layout_with}
use Rattle.answers.specs.declared.Layout.{Layout}
use Rattle.common.specs.declared.Refusal.{Refusal}
use Rattle.std.specs.Prelude.{Err, Ok, Some}
use mathlib.Core.Path.{◌≡◌, sym, ◌∙◌}
use mathlib.Core.Bool.{true, false}
use mathlib.Core.List.{List}
use Prim.Native.Nat.{ℕ, ◌+◌, ◌-◌, ◌≤◌}
use native.Mathlib.Omega.{arith}
use lib.ListN.{length, take}
use Rattle.common.specs.Limits.{max_entries, max_position}
use Rattle.common.specs.Refusals.{Check, first_answer, passes}
use Rattle.columns.specs.Boxes.{Box}
use Rattle.widths.specs.Widths.{table_width}
use Rattle.table_layout.specs.Laying.{way_in, widths_in}
use Rattle.table_layout.specs.inner.Laying.{LaidTable}
use Rattle.text.specs.declared.Estimate.{Estimate}
use Rattle.records.specs.declared.NodeRecord.{NodeRecord}
use Rattle.records.specs.declared.Entry.{Entry}
use Rattle.records.specs.declared.RowEnd.{RowEnd}
use Rattle.sheet.proofs.First.{first_passes, figures_fail, front_pass}
use Rattle.resolved_rows.specs.Listed.{table_rows}
use Rattle.grid.proofs.GridFacts.{grid_entries, grid_columns}
use Rattle.sheet_load.specs.Opening.{open_checks, opened_of}
use Rattle.table_layout.specs.inner.Arranging.{ArrangePost}
use Rattle.table_layout.specs.declared.Arrangement.{Arrangement}
use Rattle.table_layout.specs.inner.Asked.{OutCapacity}
use Rattle.table_layout.specs.declared.MeasuredTable.{MeasuredTable}
use Rattle.sheet_figures.specs.Figures.{boxes_at}
use Rattle.sheet_figures.specs.inner.Opened.{LinesOf}
use Rattle.sheet_figures.proofs.Openings.{failed, told, opened_passed, opened_apt}
use Rattle.call_layout.specs.inner.Found.{columns_in, entries_in, LayoutOf, LayoutFound}
use Rattle.call_layout.specs.inner.Made.{LayoutOfPost, answer_of, laid_of}

-- buffers that are as long as they were have the same room
pub out_still : {column column' x x' wide wide' : List ℕ} → length column' ≡ length column → length x' ≡ length x → length wide' ≡ length wide
    → OutCapacity column x wide → OutCapacity column' x' wide'
out_still a b c o = record { column_capacity = omega (arith, o.column_capacity); x_capacity = omega (arith, o.x_capacity); wide_capacity = omega (arith, o.wide_capacity) }

-- ---- one table

-- its counts fit 32 bits
pub table_few : (k : MeasuredTable) {raw width : ℕ} {es : List Entry} {rs : List RowEnd} {column x wide : List ℕ} {a : Arrangement}
    → ArrangePost k.lines.now k.at k.figures.now raw width es rs column x wide a.counts a.laid → (a.counts.entries ≤ max_entries) × (a.counts.columns ≤ max_position)
table_few k m =
    let t = table_rows k.lines.now k.at in
    (omega (arith, m.made.entries_are, grid_entries t k.known.sound), omega (arith, m.made.columns_are, grid_columns t k.known.sound))

pub layout_made : (k : MeasuredTable) {raw width : ℕ} {es : List Entry} {rs : List RowEnd} {column x wide : List ℕ} {a : Arrangement}
    → ArrangePost k.lines.now k.at k.figures.now raw width es rs column x wide a.counts a.laid → LayoutOfPost k.lines.now k.at k.figures.now raw width (answer_of a) column x wide
layout_made k m = record {
  entries_are = m.made.entries_are;
  columns_are = m.made.columns_are;
  few_columns = grid_columns (table_rows k.lines.now k.at) k.known.sound;
  few_entries = grid_entries (table_rows k.lines.now k.at) k.known.sound;
  laid = m.laid;
}

-- ---- the layout asked for

module _ (entries columns : ℕ) (boxes : List (List Box)) (raw width : ℕ) {column x wide : List ℕ} where
  -- where every check passes
  pub layout_written : (cs : List Check) → passes cs ≡ true → {r : Layout} → r.entries ≡ entries → r.columns ≡ columns → entries ≤ max_entries → columns ≤ max_position
      → LaidTable columns boxes raw width (take columns column) (take entries x) (take entries wide) (laid_of r)
      → LayoutOf cs entries columns boxes raw width (Ok r) column x wide
  unfolding columns_in entries_in
  layout_written cs p e c few_entries few_columns l =
      record {
        answer = (λ i. Ok (layout_with (l.way_is i) (e i) (c i) (l.width_is i))) ∙ sym (first_passes Err _ cs p);
        few_columns = omega (arith, c);
        few_entries = omega (arith, e);
        widths = front_pass column cs p c l.column_is;
        xs = front_pass x cs p e l.xs_are;
        wides = front_pass wide cs p e l.wides_are;
        promised = λ low _. l.promised low;
      }

  -- where one applies, nothing is written
  pub layout_none : (cs : List Check) → passes cs ≡ false → {why : Refusal}
      → Err why ≡ first_answer Err (Ok (layout_with (way_in columns boxes raw width) entries columns (table_width (way_in columns boxes raw width) (widths_in columns boxes raw width) width))) cs
      → LayoutOf cs entries columns boxes raw width (Err why) column x wide
  unfolding columns_in entries_in
  layout_none cs p e =
      record {
        answer = e;
        few_columns = omega arith;
        few_entries = omega arith;
        widths = sym (figures_fail cs _ p);
        xs = sym (figures_fail cs _ p);
        wides = sym (figures_fail cs _ p);
        promised = λ low q. let z : ◌≡◌ {A = ℕ} 0 1 = cc in absurd (omega arith);
      }

module _ (s : List ℕ) (line wrap raw width : ℕ) {column x wide : List ℕ} where
  pub layout_found : {n : ℕ} {lines : List NodeRecord} {figures : List Estimate} → LinesOf s line wrap n lines figures
      → {r : Layout} → LayoutOfPost (take n lines) (line - 1) figures raw width r column x wide → LayoutFound (open_checks (Some line) s) s line wrap raw width (Ok r) column x wide
  layout_found w f =
      let m = rw w.opened.holds at f in
      let b = (opened_apt w.opened).from_one in
      let k : line - 1 + 1 ≡ line = omega arith in
      layout_written _ _ (boxes_at s line wrap) raw width (open_checks (Some line) s) (opened_passed w.opened).all m.entries_are m.columns_are m.few_entries m.few_columns
      (rw k at (m.laid wrap (record { cells = w.measured.cells })))

  pub layout_refused : {why : Refusal} → opened_of (Some line) s ≡ Err why → LayoutFound (open_checks (Some line) s) s line wrap raw width (Err why) column x wide
  layout_refused {why} o = layout_none _ _ (boxes_at s line wrap) raw width (open_checks (Some line) s) (failed (Some line) s why o) (sym (told (Some line) s Err _ why o))
