-- The joined grid of two tables of a measured sheet can be laid out, and what is laid out are the boxes of the definition, with the third demand. Its
-- rows tile the columns, its cells are lines of the sheet, and no line's least passes its size: that is all that a layout asks.
use mathlib.Core.Path.{◌≡◌, refl, sym, ap, ◌∙◌}
use mathlib.Core.Bool.{Bool, true, false, cond}
use mathlib.Core.List.{List, ◌++◌}
use Prim.Native.Nat.{ℕ, ◌+◌, ◌≤◌}
use native.Mathlib.Omega.{arith}
use lib.Dec.{ltb}
use lib.ListN.{length, take, length-map}
use lib.Seq.{length-take-le, take_at}
use borrow.Author.Tests.{ltb-false}
use Rattle.std.proofs.lemmas.List.{length-take}
use Rattle.std.specs.Prelude.{Result, Ok, Err}
use Rattle.common.specs.Limits.{max_position, max_entries}
use Rattle.common.specs.Refusals.{refusal, first_answer, answer_by}
use Rattle.common.specs.declared.Reason.{Reason}
use Rattle.common.specs.declared.Reason.TheVariants.{RowEnd, TooManyEntries}
use Rattle.common.specs.declared.Refusal.{Refusal}
use Rattle.text.specs.declared.Estimate.{Estimate}
use Rattle.records.specs.declared.NodeRecord.{NodeRecord}
use Rattle.records.specs.declared.Entry.{Entry}
use Rattle.records.specs.declared.RowEnd as ends
use Rattle.resolved_rows.specs.Listed.{table_rows}
use Rattle.grid.specs.Grid.{GridRow, grid_of, columns_of, entries_of}
use Rattle.grid.specs.Judging.{shown}
use Rattle.grid_build.specs.declared.Counts.{Counts}
use Rattle.grid_build.specs.inner.Cut.{RecordsPost}
use Rattle.grid_build.proofs.RowRecords.{ended_length}
use Rattle.estimates.specs.Estimates.{measured}
use Rattle.widths.specs.declared.Laid.{Laid}
use Rattle.grid_join.specs.Joined.{joined, joined_checks}
use Rattle.grid_join.specs.inner.Joins.{joined_counts, on_line}
use Rattle.grid_join.proofs.Rows.{joined_count}
use Rattle.table_layout.specs.Arranging.{AllMeasured}
use Rattle.table_layout.specs.declared.Arrangement.{Arrangement}
use Rattle.table_layout.specs.inner.Capacity.{LayPre}
use Rattle.table_layout.specs.inner.Grids.{Listed}
use Rattle.table_layout.specs.inner.Laying.{box_rows_by, LaidTable}
use Rattle.table_layout.proofs.Table.{entry_count, table_layable, table_laid}
use Rattle.joined_tables.specs.Tables.{both_columns, joined_grid}
use Rattle.joined_tables.specs.Side.{Tables}
use Rattle.joined_tables.specs.inner.Joining.{MakePost, LayOutCapacity, LayOutPost}
use Rattle.joined_tables.proofs.Grids.{both_tile, both_known}

-- what an answer with a grid says
pub record Counted (c d : ℕ) (ls rs : List GridRow) (counts : Counts) : Type 0 where
  pub counts_are : counts ≡ joined_counts c d ls rs
  pub few_columns : c + d ≤ max_position
  pub few_entries : length (entries_of (joined c d ls rs)) ≤ max_entries

-- a refusal is no grid
not_ok : {why : Refusal} {counts : Counts} → ◌≡◌ {A = Result Counts Refusal} (Err why) (Ok counts) → ⊥
not_ok e = cc

told_counts : (line c d : ℕ) (ls rs : List GridRow) (counts : Counts) → answer_by (joined_counts c d ls rs) (joined_checks line c d ls rs) ≡ Ok counts → Counted c d ls rs counts
unfolding joined_checks first_answer
told_counts line c d ls rs counts e = go (ltb max_position (c + d)) refl (ltb max_entries (length (entries_of (joined c d ls rs)))) refl e
  where
    go : (a : Bool) → ltb max_position (c + d) ≡ a → (b : Bool) → ltb max_entries (length (entries_of (joined c d ls rs))) ≡ b
        → cond a (Err (refusal RowEnd line)) (cond b (Err (refusal TooManyEntries line)) (Ok (joined_counts c d ls rs))) ≡ Ok counts → Counted c d ls rs counts
    go true p b q f = absurd (not_ok f)
    go false p true q f = absurd (not_ok f)
    go false p false q f =
        let x : counts ≡ joined_counts c d ls rs = cc in
        record {
          counts_are = x;
          few_columns = ltb-false max_position (c + d) p;
          few_entries = ltb-false max_entries (length (entries_of (joined c d ls rs))) q;
        }

module _ (ks : List NodeRecord) (l r : ℕ) {answer : Result Counts Reason} {es : List Entry} {rs : List ends.RowEnd} (j : MakePost ks l r answer es rs)
    {counts : Counts} (e : answer ≡ Ok counts) where
  abbrev g : List GridRow
  g = joined_grid ks l r

  told : Counted (columns_of (table_rows ks l)) (columns_of (table_rows ks r)) (grid_of (table_rows ks l)) (grid_of (table_rows ks r)) counts
  told =
      told_counts 0 (columns_of (table_rows ks l)) (columns_of (table_rows ks r)) (grid_of (table_rows ks l)) (grid_of (table_rows ks r)) counts
      (sym (j.answer_is 0) ∙ ap (on_line 0) e)

  rows_are : counts.rows ≡ length g
  rows_are =
      ap (λ (k : Counts). k.rows) told.counts_are
      ∙ sym (joined_count (columns_of (table_rows ks l)) (columns_of (table_rows ks r)) (grid_of (table_rows ks l)) (grid_of (table_rows ks r)))

  entries_are : counts.entries ≡ length (entries_of g)
  entries_are = ap (λ (k : Counts). k.entries) told.counts_are

  columns_are : counts.columns ≡ both_columns ks l r
  columns_are = ap (λ (k : Counts). k.columns) told.counts_are

  -- the slices have the records
  pub joined_within : (counts.entries ≤ length es) × (counts.rows ≤ length rs)
  joined_within =
      let s = j.stands counts e in (
        omega (arith, entries_are, length-take (length (entries_of g)) es, ap length s.entries, length-map (entries_of g) shown),
        omega (arith, rows_are, length-take (length g) rs, ap length s.rows, ended_length g),
      )

  -- and the lent ones have the columns, and the entries
  module _ {width : ℕ} {column₀ x₀ wide₀ : List ℕ} (o : LayOutCapacity width column₀ x₀ wide₀) where
    pub column_in : counts.columns ≤ length column₀
    column_in = omega (arith, columns_are, told.few_columns, o.column_capacity)

    pub x_in : counts.entries ≤ length x₀
    x_in = omega (arith, entries_are, told.few_entries, o.x_capacity)

    pub wide_in : counts.entries ≤ length wide₀
    wide_in = omega (arith, entries_are, told.few_entries, o.wide_capacity)

    module _ (t : Tables ks l r) {figures : List Estimate} (m : AllMeasured ks figures) {entries : List Entry} {rows : List ends.RowEnd} {columns : ℕ}
        (p : RecordsPost counts es rs entries rows columns) where
      listed : Listed g entries rows
      listed =
          let s = j.stands counts e in
          record {
            entries = p.entries_are ∙ ap (λ (n : ℕ). take n es) entries_are ∙ s.entries;
            rows = p.rows_are ∙ ap (λ (n : ℕ). take n rs) rows_are ∙ s.rows;
          }

      entries_length : length entries ≡ counts.entries
      entries_length = entry_count listed ∙ sym entries_are

      -- the joined grid can be laid out in the front of the slices
      pub joined_layable : LayPre entries rows figures width (take counts.columns column₀) (take counts.entries x₀) (take counts.entries wide₀)
      joined_layable =
          table_layable (measured m.wrap 1 ks) figures listed 0 (both_known t m m.wrap m.figures_are) (both_columns ks l r) (both_tile t)
          (length-take-le counts.columns column₀ column_in ∙ columns_are)
          (length-take-le counts.entries x₀ x_in ∙ sym entries_length)
          (length-take-le counts.entries wide₀ wide_in ∙ sym entries_length)
          told.few_columns o.small

      -- and what is laid out there is the joined grid of the definition
      pub joined_laid : {raw : ℕ} {column x wide : List ℕ} {laid : Laid}
          → LaidTable (length (take counts.columns column₀)) (box_rows_by rows entries figures) raw width column x wide laid
          → length column ≡ length (take counts.columns column₀) → length x ≡ length (take counts.entries x₀) → length wide ≡ length (take counts.entries wide₀)
          → (u v z : List ℕ) → LayOutPost ks l r figures raw width (Ok record { counts = counts; laid = laid }) (column ++ u) (x ++ v) (wide ++ z)
      joined_laid {raw} {column} {x} {wide} {laid} q cs xs ws u v z =
          record {
            refused = λ why f. absurd (no_refusal f);
            counted = λ a f.
                let w : a ≡ record { counts = counts; laid = laid } = same f in
                rw w (sym (j.answer_is (l + 1)) ∙ ap (on_line (l + 1)) e);
            laid = λ a f wrap h.
                let w : a ≡ record { counts = counts; laid = laid } = same f in
                let c = length-take-le counts.columns column₀ column_in in
                let y = table_laid (measured wrap 1 ks) figures listed 0 (both_known t m wrap h) (c ∙ columns_are) q in
                rw (
                  w,
                  take_at column u (both_columns ks l r) (cs ∙ c ∙ columns_are),
                  take_at x v (length (entries_of g)) (xs ∙ length-take-le counts.entries x₀ x_in ∙ entries_are),
                  take_at wide z (length (entries_of g)) (ws ∙ length-take-le counts.entries wide₀ wide_in ∙ entries_are),
                ) y;
          }
        where
          no_refusal : {why : Reason} → ◌≡◌ {A = Result Arrangement Reason} (Ok record { counts = counts; laid = laid }) (Err why) → ⊥
          no_refusal f = cc

          same : {a : Arrangement} → ◌≡◌ {A = Result Arrangement Reason} (Ok record { counts = counts; laid = laid }) (Ok a) → a ≡ record { counts = counts; laid = laid }
          same f = cc
