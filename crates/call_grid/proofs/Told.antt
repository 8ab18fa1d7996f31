-- The records of a grid: the figures that are written of them are the grid's; those of a table fit 32 bits.
use Rattle.answers.specs.Answers.{grid_with}
use Rattle.common.specs.declared.Refusal.{Refusal}
use Rattle.std.specs.Prelude.{Err, Ok}
use mathlib.Core.Path.{◌≡◌, refl, sym, ap, ◌∙◌}
use mathlib.Core.Bool.{true, false}
use mathlib.Core.List.{List, [], ◌∷◌, map}
use Prim.Native.Nat.{ℕ, ◌≤◌}
use native.Mathlib.Omega.{arith}
use lib.ListN.{length, length-map}
use Rattle.common.specs.Limits.{max_entries, max_lines, max_position}
use Rattle.common.specs.Refusals.{Check, first_answer, passes}
use Rattle.records.specs.declared.Entry.{Entry}
use Rattle.records.specs.declared.RowEnd.{RowEnd}
use Rattle.resolved_rows.specs.Cells as cells
use Rattle.grid.specs.Grid.{GridRow, shown_line, grid_of, entries_of, first_of, span_of}
use Rattle.grid.proofs.GridFacts.{grid_rows, grid_entries, grid_columns}
use Rattle.grid.specs.Judging.{shown}
use Rattle.grid_build.specs.inner.Cut.{GridRecords}
use Rattle.grid_build.specs.inner.Records.{ended_rows}
use Rattle.grid_build.proofs.RowRecords.{ended_length, ended_lines, ended_ends}
use Rattle.grid.specs.Facts.{Sound}
use Rattle.records.specs.inner.Figures as figures
use Rattle.records.specs.inner.Figures.{entry_cell, entry_first, entry_span, row_end}
use Rattle.sheet.proofs.First.{first_passes, figures_fail, front_pass}
use Rattle.call_grid.specs.inner.Found.{entries_in, rows_in, GridOf}
use Rattle.call_grid.specs.inner.Made.{answer_of, WriteGridPost}

map_as : {A B : Type 0} (f : A → ℕ) (g : B → ℕ) (h : B → A) → ((b : B) → f (h b) ≡ g b) → (bs : List B) → map f (map h bs) ≡ map g bs
map_as f g h e [] = refl
map_as f g h e (b ∷ bs) = rw (e b, map_as f g h e bs)

-- of the records of a grid
module _ (g : List GridRow) {es : List Entry} {rs : List RowEnd} (a : es ≡ map shown (entries_of g)) (b : rs ≡ ended_rows 0 g) where
  pub entries_length : length es ≡ length (entries_of g)
  entries_length = ap length a ∙ length-map (entries_of g) shown

  pub rows_length : length rs ≡ length g
  rows_length = ap length b ∙ ended_length g

  -- the figures that are written of them are the grid's
  module _ {cell first' span row end : List ℕ} (w : WriteGridPost es rs cell first' span row end) where
    -- what is answered of them, where every check passes
    pub grid_written : (cs : List Check) → passes cs ≡ true → {columns k : ℕ} → k ≡ columns → length (entries_of g) ≤ max_entries → length g ≤ max_lines
        → GridOf cs g columns (Ok (answer_of es rs k)) cell first' span row end
    unfolding entries_in rows_in
    grid_written cs p {columns} {k} q few_entries few_rows =
        record {
          answer = (λ i. Ok (grid_with (rows_length i) (entries_length i) (q i))) ∙ sym (first_passes Err _ cs p);
          few_entries = omega (arith, entries_length);
          few_rows = omega (arith, rows_length);
          cells = front_pass cell cs p refl (w.cells ∙ ap (map entry_cell) a ∙ map_as entry_cell shown_line shown (λ e. refl) (entries_of g));
          firsts = front_pass first' cs p refl (w.firsts ∙ ap (map entry_first) a ∙ map_as entry_first first_of shown (λ e. refl) (entries_of g));
          spans = front_pass span cs p refl (w.spans ∙ ap (map entry_span) a ∙ map_as entry_span span_of shown (λ e. refl) (entries_of g));
          row_lines = front_pass row cs p refl (w.row_lines ∙ ap (map figures.row_line) b ∙ ended_lines 0 g);
          row_ends_are = front_pass end cs p refl (w.row_ends_are ∙ ap (map row_end) b ∙ ended_ends 0 g);
        }

-- where a check applies, nothing is written
pub grid_none : (cs : List Check) → passes cs ≡ false → {g : List GridRow} {columns : ℕ} {why : Refusal} {cell first' span row end : List ℕ}
    → Err why ≡ first_answer Err (Ok (grid_with (length g) (length (entries_of g)) columns)) cs → GridOf cs g columns (Err why) cell first' span row end
unfolding entries_in rows_in
grid_none cs p e =
    record {
      answer = e;
      few_entries = omega arith;
      few_rows = omega arith;
      cells = sym (figures_fail cs _ p);
      firsts = sym (figures_fail cs _ p);
      spans = sym (figures_fail cs _ p);
      row_lines = sym (figures_fail cs _ p);
      row_ends_are = sym (figures_fail cs _ p);
    }

-- the records of a table's grid fit 32 bits
pub records_few : {table : List cells.Row} {es : List Entry} {rs : List RowEnd} {columns : ℕ} → Sound table → GridRecords table es rs columns → length table ≤ max_lines
    → (length es ≤ max_entries) × (length rs ≤ max_lines) × (columns ≤ max_position)
records_few {table} s m h = (
  omega (arith, entries_length (grid_of table) m.entries_are m.rows_are, grid_entries table s),
  omega (arith, rows_length (grid_of table) m.entries_are m.rows_are, grid_rows table s),
  omega (arith, m.columns_are, grid_columns table s),
)
