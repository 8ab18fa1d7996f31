-- The joined grid of two tables of a sheet that was read is the one asked for, or it is refused.
use Rattle.common.specs.declared.Reason.{Reason}
use Rattle.common.specs.declared.Refusal.{Refusal}
use Rattle.std.specs.Prelude.{Result, Ok, Err, Some}
use mathlib.Core.Path.{◌≡◌, sym, ap, ◌∙◌}
use mathlib.Core.Bool.{true, false}
use mathlib.Core.List.{List, map}
use Prim.Native.Nat.{ℕ, ◌+◌, ◌-◌, ◌≤◌}
use native.Mathlib.Omega.{arith}
use lib.ListN.{length, take}
use Rattle.common.specs.Limits.{max_lines, max_entries, max_position}
use Rattle.common.specs.Refusals.{answer_by, refusal, passes}
use Rattle.records.specs.declared.NodeRecord.{NodeRecord}
use Rattle.records.specs.declared.Entry.{Entry}
use Rattle.records.specs.declared.RowEnd.{RowEnd}
use Rattle.grid.specs.Grid.{entries_of}
use Rattle.grid.specs.Judging.{shown}
use Rattle.grid_build.specs.declared.Counts.{Counts}
use Rattle.grid_build.specs.inner.Cut.{RecordsPost}
use Rattle.grid_build.specs.inner.Records.{ended_rows}
use Rattle.grid_join.specs.inner.Joins.{on_line}
use Rattle.sheet_load.specs.Opening.{nodes_of, opened_of}
use Rattle.joined_tables.specs.inner.Joining.{MakePost}
use Rattle.call_grid.specs.inner.Made.{answer_of, WriteGridPost}
use Rattle.call_grid.proofs.Told.{entries_length, rows_length, grid_written, grid_none}
use Rattle.call_joined.specs.Joined.{joined_rows, joined_columns, two_checks}
use Rattle.call_joined.specs.inner.Found.{JoinedGridFound}
use Rattle.call_joined.proofs.Opening.{decided, late, two_refused, two_late, Opened, counts, Counted, counted}

module _ (s : List ℕ) (l r : ℕ) {cell first' span row end : List ℕ} where
  -- refused before 5 and 6
  pub joined_refused : {why : Refusal} → opened_of (Some (decided s l r)) s ≡ Err why → JoinedGridFound (two_checks s l r) s l r (Err why) cell first' span row end
  unfolding passes
  joined_refused o = grid_none (two_checks s l r) (two_refused s l r (λ why. false) true o) (sym (two_refused s l r Err _ o))

module _ (s : List ℕ) (l r : ℕ) {n : ℕ} {lines : List NodeRecord} (w : Opened s l r n lines) {answer : Result Counts Reason} {es : List Entry} {rs : List RowEnd}
    (m₀ : MakePost (take n lines) (l - 1) (r - 1) answer es rs) where
  -- the left table's line is that of its place
  left_line : l - 1 + 1 ≡ l
  left_line = omega (arith, w.left.from_one)

  m : MakePost (nodes_of s) (l - 1) (r - 1) answer es rs
  m = rw w.holds at m₀

  judged : on_line (l - 1 + 1) answer ≡ answer_by (counts s l r) (late s l r)
  judged = m.answer_is (l - 1 + 1)

  -- 5 or 6
  pub joined_late : {cell first' span row end : List ℕ} {why : Reason} → answer ≡ Err why → JoinedGridFound (two_checks s l r) s l r (Err (refusal why l)) cell first' span row end
  unfolding passes
  joined_late {why = why} e =
      let t : answer_by (counts s l r) (late s l r) ≡ Err (refusal why l) = sym judged ∙ ap (on_line (l - 1 + 1)) e ∙ ap (λ (k : ℕ). Err (refusal why k)) left_line in
      grid_none (two_checks s l r) (two_late s l r (λ why. false) true (counts s l r) w.passed.all t) (sym (two_late s l r Err _ (counts s l r) w.passed.all t))

  module _ {c : Counts} (e : answer ≡ Ok c) where
    pub grid_counted : Counted s l r c
    grid_counted = counted s l r w (sym judged ∙ ap (on_line (l - 1 + 1)) e)

    -- the slices have its records
    pub counts_within : max_entries ≤ length es → max_lines ≤ length rs → (c.entries ≤ length es) × (c.rows ≤ length rs)
    counts_within a b =
        let k = grid_counted in
        (omega (arith, ap (λ (i : Counts). i.entries) k.same, k.few_entries), omega (arith, k.rows_are, k.few_rows))

    module _ {entries : List Entry} {rows : List RowEnd} {columns : ℕ} (p : RecordsPost c es rs entries rows columns) where
      entries_are : entries ≡ map shown (entries_of (joined_rows s l r))
      entries_are = p.entries_are ∙ ap (λ (i : Counts). take i.entries es) (sym grid_counted.same) ∙ (m.stands c e).entries

      rows_are : rows ≡ ended_rows 0 (joined_rows s l r)
      rows_are = p.rows_are ∙ ap (λ (i : ℕ). take i rs) (sym grid_counted.rows_are) ∙ (m.stands c e).rows

      columns_are : columns ≡ joined_columns s l r
      columns_are = p.columns_are ∙ ap (λ (i : Counts). i.columns) (sym grid_counted.same)

      -- they fit 32 bits
      pub joined_small : (length entries ≤ max_entries) × (length rows ≤ max_lines) × (columns ≤ max_position)
      joined_small =
          let k = grid_counted in (
            omega (arith, entries_length (joined_rows s l r) entries_are rows_are, k.few_entries),
            omega (arith, rows_length (joined_rows s l r) entries_are rows_are, k.few_rows),
            omega (arith, columns_are, k.few_columns),
          )

      pub joined_found : {cell first' span row end : List ℕ} → WriteGridPost entries rows cell first' span row end
          → JoinedGridFound (two_checks s l r) s l r (Ok (answer_of entries rows columns)) cell first' span row end
      joined_found t = grid_written (joined_rows s l r) entries_are rows_are t (two_checks s l r) grid_counted.passes_all columns_are grid_counted.few_entries grid_counted.few_rows
