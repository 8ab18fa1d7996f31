-- What `join` answers: the count of the entries, 5 and 6 before anything is written, and else the grid.
use mathlib.Core.Path.{◌≡◌, sym, ap, ap₂, ◌∙◌}
use mathlib.Core.List.{List, [], ◌∷◌}
use Prim.{tt}
use mathlib.Core.Bool.{cond}
use Prim.Native.Nat.{ℕ, ◌+◌, ◌-◌, ◌≤◌, ◌<◌, max}
use native.Mathlib.Omega.{arith}
use lib.Dec.{ltb}
use lib.ListN.{length, length-map}
use borrow.Author.Tests.{lt-ltb, le-ltb}
use Rattle.std.specs.Prelude.{Result, Ok, Err}
use Rattle.common.specs.Lists.{All}
use Rattle.common.specs.Limits.{max_position, max_entries}
use Rattle.common.specs.Refusals.{first_answer}
use Rattle.common.specs.declared.Reason.{Reason}
use Rattle.common.specs.declared.Reason.TheVariants.{RowEnd, TooManyEntries}
use Rattle.common.proofs.All.{all_append, all_map, all_weaken}
use Rattle.common.proofs.Tiles.{tiles_within}
use Rattle.records.specs.declared.Entry as records
use Rattle.records.specs.declared.RowEnd as ends
use Rattle.grid.specs.Grid.{Entry, GridRow, first_of, span_of, entries_of}
use Rattle.grid.specs.Judging.{shown}
use Rattle.grid_build.specs.declared.Counts.{Counts}
use Rattle.grid_join.specs.Joined.{joined, joined_checks}
use Rattle.grid_join.specs.Facts.{RowTiles}
use Rattle.grid_join.specs.inner.Reading.{grid_in, Narrow}
use Rattle.grid_join.specs.inner.Parts.{shorts, Readable, JoinRowsPre, Stands}
use Rattle.grid_join.specs.inner.Joins.{Given, JoinPre, Joins, JoinPost}
use Rattle.grid_join.proofs.Counting.{joined_entries, less_le, shorts_few}
use Rattle.grid_join.proofs.Reading.{length_read, count_read}
use Rattle.grid_join.proofs.Rereading.{ends_ended, joins_records, count_records, longer_records}

-- a refusal is no grid
not_ok : {why : Reason} {counts : Counts} → ◌≡◌ {A = Result Counts Reason} (Err why) (Ok counts) → ⊥
not_ok e = cc

-- ---- records that grids can have

-- an entry ends within so many columns
abbrev Within : ℕ → Entry → Type 0
Within c e = e.first + e.span ≤ c

rows_within : (c : ℕ) (g : List GridRow) → All (RowTiles c) g → All (Within c) (entries_of g)
unfolding All entries_of
rows_within c [] t = tt
rows_within c (r ∷ g) t =
    all_append (Within c) r.entries (entries_of g)
    (all_weaken (λ e. (1 ≤ span_of e) × (first_of e + span_of e ≤ c)) (Within c) (λ e w. w.1) r.entries (tiles_within first_of span_of c 0 r.entries t.0))
    (rows_within c g t.1)

pub readable : {c : ℕ} {g : List GridRow} {es : List records.Entry} {rs : List ends.RowEnd} → Given c g es rs → Readable es rs
readable {c} {g} {es} {rs} p =
    let q = p.records_are in
    record {
      ends =
          let n : 0 + length (entries_of g) ≡ length es = omega (arith, ap length q.entries_are, length-map (entries_of g) shown) in
          rw (q.rows_are) (rw n at (ends_ended 0 g));
      narrow =
          rw q.entries_are
          (all_map (Within c) Narrow shown (λ e w. omega (arith, w, p.few_columns)) (entries_of g) (rows_within c g p.tiles));
      few_entries = p.few_entries;
      few_rows = p.few_rows;
    }

-- ---- how many entries there are

-- all entries of a grid by its records
given_count : (es : List records.Entry) (rs : List ends.RowEnd) → Readable es rs → length (entries_of (grid_in rs es)) ≡ length es
given_count es rs p =
    let e : length es ≡ 0 + length es = omega arith in
    count_read 0 rs es (rw e at p.ends)

module _ (c d : ℕ) (left : List records.Entry) (left_rows : List ends.RowEnd) (right : List records.Entry) (right_rows : List ends.RowEnd) where
  abbrev L : List GridRow
  L = grid_in left_rows left

  abbrev R : List GridRow
  R = grid_in right_rows right

  module _ (p : Readable left left_rows) (q : Readable right right_rows) {s a b : ℕ} (e : s ≡ shorts c L)
      (f : a ≡ cond (ltb 0 c) (length right_rows - length left_rows) 0) (g : b ≡ cond (ltb 0 d) (length left_rows - length right_rows) 0) where
    pub total : length left + length right + s + a + b ≡ length (entries_of (joined c d L R))
    total =
        let ll = length_read 0 left_rows left in
        let lr = length_read 0 right_rows right in
        let f' : a ≡ cond (ltb 0 c) (length R - length L) 0 = f ∙ ap₂ (λ (x : ℕ) (y : ℕ). cond (ltb 0 c) (x - y) 0) (sym lr) (sym ll) in
        let g' : b ≡ cond (ltb 0 d) (length L - length R) 0 = g ∙ ap₂ (λ (x : ℕ) (y : ℕ). cond (ltb 0 d) (x - y) 0) (sym ll) (sym lr) in
        omega (arith, joined_entries c d L R, f', g', e, given_count left left_rows p, given_count right right_rows q)

    pub total_few : length left + length right + s + a + b ≤ 32768
    total_few =
        omega (
          arith,
          less_le (ltb 0 c) (length right_rows) (length left_rows),
          less_le (ltb 0 d) (length left_rows) (length right_rows),
          f,
          g,
          e,
          shorts_few c L,
          length_read 0 left_rows left,
          p.few_entries,
          q.few_entries,
          p.few_rows,
          q.few_rows,
        )

  -- ---- the answer

  module _ (es : List records.Entry) (ks : List ends.RowEnd) where
    pub joins_5 : max_position < c + d → Joins c d L R (Err RowEnd) es ks
    unfolding joined_checks first_answer
    joins_5 h = record { answer_is = λ line. rw (lt-ltb max_position (c + d) h); stands = λ counts e. absurd (not_ok e) }

    pub joins_6 : c + d ≤ max_position → {n : ℕ} → n ≡ length (entries_of (joined c d L R)) → max_entries < n → Joins c d L R (Err TooManyEntries) es ks
    unfolding joined_checks first_answer
    joins_6 h {n} q k =
        let m : max_entries < length (entries_of (joined c d L R)) = omega (arith, q) in
        record { answer_is = λ line. rw (le-ltb max_position (c + d) h, lt-ltb max_entries (length (entries_of (joined c d L R))) m); stands = λ counts e. absurd (not_ok e) }

    pub joins_grid : c + d ≤ max_position → {r n w : ℕ} → n ≡ length (entries_of (joined c d L R)) → n ≤ max_entries → w ≡ c + d
        → r ≡ max (length left_rows) (length right_rows) → Stands (joined c d L R) es ks → Joins c d L R (Ok record { rows = r; entries = n; columns = w }) es ks
    unfolding joined_checks first_answer
    joins_grid h {r} {n} {w} q k u v s =
        let m : length (entries_of (joined c d L R)) ≤ max_entries = omega (arith, q) in
        let x : r ≡ max (length L) (length R) = omega (arith, v, length_read 0 left_rows left, length_read 0 right_rows right) in
        record {
          answer_is = λ line. rw (x, q, u, le-ltb max_position (c + d) h, le-ltb max_entries (length (entries_of (joined c d L R))) m);
          stands = λ counts e. s;
        }

  module _ {es : List records.Entry} {ks : List ends.RowEnd} (p : JoinPre c d left left_rows right right_rows es ks) where
    pub left_readable : Readable left left_rows
    left_readable = readable p.left_given

    pub right_readable : Readable right right_rows
    right_readable = readable p.right_given

    pub rows_ready : c + d ≤ max_position → {n : ℕ} → n ≡ length (entries_of (joined c d L R)) → n ≤ max_entries → JoinRowsPre c d L R es ks
    rows_ready h {n} q k =
        let f : length (entries_of (joined c d L R)) ≤ max_entries = omega (arith, q) in
        let m = count_records c d p.ls p.rs p.left_given.records_are p.right_given.records_are in
        let r = longer_records c d p.ls p.rs p.left_given.records_are p.right_given.records_are in
        record {
          columns = h;
          few = f;
          entry_capacity = omega (arith, m, p.entry_capacity (omega (arith, m)));
          row_capacity = omega (arith, r, p.row_capacity);
        }

  -- of all grids whose records these are
  pub join_post : (answer : Result Counts Reason) (es : List records.Entry) (ks : List ends.RowEnd) → Joins c d L R answer es ks
      → JoinPost c d left left_rows right right_rows answer es ks
  join_post answer es ks j ls rs a b = joins_records c d ls rs a b answer es ks j
