-- A grid read back from its records is the grid without the owners of its fillers, and neither what joining does nor what the records show depends on
-- those. By induction on the rows.
use mathlib.Core.Path.{◌≡◌, refl, sym, ap, ap₂, ◌∙◌}
use mathlib.Core.List.{List, [], ◌∷◌, ◌++◌, map, map-append}
use Prim.Native.Nat.{ℕ, ◌+◌, ◌-◌, ◌<◌, max}
use native.Mathlib.Omega.{arith}
use native.Mathlib.Decide.{dec_lt}
use lib.ListN.{length, take, drop, length-append, length-map}
use lib.Seq.{take_at, drop_at}
use borrow.Author.Tests.{lt-ltb, le-ltb}
use Rattle.std.specs.Prelude.{Result}
use Rattle.common.specs.Refusals.{answer_by}
use Rattle.common.specs.declared.Reason.{Reason}
use Rattle.records.specs.declared.Entry as records
use Rattle.records.specs.declared.RowEnd.{RowEnd}
use Rattle.grid.specs.Grid.{Entry, GridRow, entries_of}
use Rattle.grid.specs.Judging.{shown}
use Rattle.grid_build.specs.declared.Counts.{Counts}
use Rattle.grid_build.specs.inner.Records.{ended_rows}
use Rattle.grid_join.specs.Joined.{empty_entries, moved, end_from, filled, row_with, joined, joined_checks}
use Rattle.grid_join.specs.inner.Reading.{read, read_rows, grid_in, Ends, reread, reread_row}
use Rattle.grid_join.specs.inner.Parts.{Stands}
use Rattle.grid_join.specs.inner.Joins.{IsRecords, joined_counts, Joins}
use Rattle.grid_join.proofs.Putting.{cell_shown}

-- the rows of a grid as they are read back
abbrev pub reread_rows : List GridRow → List GridRow
reread_rows g = map reread_row g

-- ---- reading back

reread_all : (es : List Entry) → map read (map shown es) ≡ map reread es
reread_all [] = refl
reread_all (e ∷ es) = ap (λ (l : List Entry). reread e ∷ l) (reread_all es)

read_back : (n : ℕ) (g : List GridRow) → read_rows n (ended_rows n g) (map shown (entries_of g)) ≡ reread_rows g
unfolding read_rows ended_rows entries_of
read_back n [] = refl
read_back n (r ∷ g) =
    let m = n + length r.entries in
    let k : length (map shown r.entries) ≡ m - n = omega (arith, length-map r.entries shown) in
    let s = map-append shown r.entries (entries_of g) in
    ap₂ (λ (x : GridRow) (l : List GridRow). x ∷ l)
    (ap (λ (es : List records.Entry). row_with r.line (map read es))
    (ap (take (m - n)) s ∙ take_at (map shown r.entries) (map shown (entries_of g)) (m - n) k)
    ∙ ap (λ (es : List Entry). row_with r.line es) (reread_all r.entries))
    (ap (λ (es : List records.Entry). read_rows m (ended_rows m g) es)
    (ap (drop (m - n)) s ∙ drop_at (map shown r.entries) (map shown (entries_of g)) (m - n) k)
    ∙ read_back m g)

pub grid_back : (g : List GridRow) {es : List records.Entry} {rs : List RowEnd} → IsRecords g es rs → grid_in rs es ≡ reread_rows g
grid_back g p = rw (p.entries_are, p.rows_are) (read_back 0 g)

pub ends_ended : (n : ℕ) (g : List GridRow) → Ends n (ended_rows n g) (n + length (entries_of g))
unfolding Ends ended_rows entries_of
ends_ended n [] = omega arith
ends_ended n (r ∷ g) =
    let e : n + length (r.entries ++ entries_of g) ≡ n + length r.entries + length (entries_of g) = omega (arith, length-append r.entries (entries_of g)) in
    (omega arith, rw e (ends_ended (n + length r.entries) g))

-- ---- joining

end_reread : (p : ℕ) (es : List Entry) → end_from p (map reread es) ≡ end_from p es
unfolding end_from
end_reread p [] = refl
end_reread p (e ∷ es) = end_reread (e.first + e.span) es

empty_reread : (p q : ℕ) → map reread (empty_entries p q) ≡ empty_entries p q
empty_reread p q = go (dec_lt p q)
  where
    go : Dec (p < q) → map reread (empty_entries p q) ≡ empty_entries p q
    go (yes h) = rw (lt-ltb p q h)
    go (no h) = rw (le-ltb p q (omega arith))

moved_reread : (c : ℕ) (es : List Entry) → map (moved c) (map reread es) ≡ map reread (map (moved c) es)
moved_reread c [] = refl
moved_reread c (e ∷ es) = ap (λ (l : List Entry). moved c (reread e) ∷ l) (moved_reread c es)

pub filled_reread : (c : ℕ) (es : List Entry) → filled c (map reread es) ≡ map reread (filled c es)
filled_reread c es =
    ap (λ (p : ℕ). map reread es ++ empty_entries p c) (end_reread 0 es)
    ∙ ap (λ (l : List Entry). map reread es ++ l) (sym (empty_reread (end_from 0 es) c))
    ∙ sym (map-append reread es (empty_entries (end_from 0 es) c))

two_reread : (xs ys a b : List Entry) → xs ≡ map reread a → ys ≡ map reread b → xs ++ ys ≡ map reread (a ++ b)
two_reread xs ys a b p q = ap₂ (λ (x : List Entry) (y : List Entry). x ++ y) p q ∙ sym (map-append reread a b)

joined_reread : (c d : ℕ) (ls rs : List GridRow) → joined c d (reread_rows ls) (reread_rows rs) ≡ reread_rows (joined c d ls rs)
unfolding joined
joined_reread c d [] [] = refl
joined_reread c d [] (r ∷ rs) =
    ap₂ (λ (x : List Entry) (g : List GridRow). row_with r.line x ∷ g)
    (two_reread _ _ (empty_entries 0 c) (map (moved c) r.entries) (sym (empty_reread 0 c)) (moved_reread c r.entries)) (joined_reread c d [] rs)
joined_reread c d (l ∷ ls) [] =
    ap₂ (λ (x : List Entry) (g : List GridRow). row_with l.line x ∷ g)
    (two_reread _ _ (filled c l.entries) (empty_entries c (c + d)) (filled_reread c l.entries) (sym (empty_reread c (c + d)))) (joined_reread c d ls [])
joined_reread c d (l ∷ ls) (r ∷ rs) =
    ap₂ (λ (x : List Entry) (g : List GridRow). row_with l.line x ∷ g)
    (two_reread _ _ (filled c l.entries) (map (moved c) r.entries) (filled_reread c l.entries) (moved_reread c r.entries)) (joined_reread c d ls rs)

-- ---- what is shown

shown_row : (es : List Entry) → map shown (map reread es) ≡ map shown es
shown_row [] = refl
shown_row (e ∷ es) = ap₂ (λ (x : ℕ) (l : List records.Entry). record { cell = x; first = e.first; span = e.span } ∷ l) (cell_shown (shown e).cell) (shown_row es)

shown_reread : (g : List GridRow) → map shown (entries_of (reread_rows g)) ≡ map shown (entries_of g)
unfolding entries_of
shown_reread [] = refl
shown_reread (r ∷ g) =
    map-append shown (map reread r.entries) (entries_of (reread_rows g))
    ∙ ap₂ (λ (x : List records.Entry) (y : List records.Entry). x ++ y) (shown_row r.entries) (shown_reread g)
    ∙ sym (map-append shown r.entries (entries_of g))

count_reread : (g : List GridRow) → length (entries_of (reread_rows g)) ≡ length (entries_of g)
count_reread g = sym (length-map (entries_of (reread_rows g)) shown) ∙ ap length (shown_reread g) ∙ length-map (entries_of g) shown

ended_reread : (n : ℕ) (g : List GridRow) → ended_rows n (reread_rows g) ≡ ended_rows n g
unfolding ended_rows
ended_reread n [] = refl
ended_reread n (r ∷ g) = rw (length-map r.entries reread, ended_reread (n + length r.entries) g)

module _ (c d : ℕ) (ls rs : List GridRow) where
  joined_count_reread : length (entries_of (joined c d (reread_rows ls) (reread_rows rs))) ≡ length (entries_of (joined c d ls rs))
  joined_count_reread = ap (λ (g : List GridRow). length (entries_of g)) (joined_reread c d ls rs) ∙ count_reread (joined c d ls rs)

  answer_reread : (line : ℕ) → answer_by (joined_counts c d (reread_rows ls) (reread_rows rs)) (joined_checks line c d (reread_rows ls) (reread_rows rs))
      ≡ answer_by (joined_counts c d ls rs) (joined_checks line c d ls rs)
  unfolding joined_checks
  answer_reread line = rw (length-map ls reread_row, length-map rs reread_row, joined_count_reread)

  stands_reread : (es : List records.Entry) (ks : List RowEnd) → Stands (joined c d (reread_rows ls) (reread_rows rs)) es ks → Stands (joined c d ls rs) es ks
  stands_reread es ks s =
      record {
        entries =
            ap (λ (k : ℕ). take k es) (sym joined_count_reread) ∙ s.entries ∙ ap (λ (g : List GridRow). map shown (entries_of g)) (joined_reread c d ls rs)
            ∙ shown_reread (joined c d ls rs);
        rows =
            ap (λ (k : ℕ). take k ks) (sym (ap length (joined_reread c d ls rs) ∙ length-map (joined c d ls rs) reread_row))
            ∙ s.rows ∙ ap (ended_rows 0) (joined_reread c d ls rs) ∙ ended_reread 0 (joined c d ls rs);
      }

  -- what holds of the grids that are read back holds of all grids whose records these are
  module _ {left right : List records.Entry} {left_rows right_rows : List RowEnd} (p : IsRecords ls left left_rows) (q : IsRecords rs right right_rows) where
    pub joins_records : (answer : Result Counts Reason) (es : List records.Entry) (ks : List RowEnd)
        → Joins c d (grid_in left_rows left) (grid_in right_rows right) answer es ks → Joins c d ls rs answer es ks
    joins_records answer es ks j =
        let k : Joins c d (reread_rows ls) (reread_rows rs) answer es ks = rw (grid_back ls p, grid_back rs q) at j in
        record { answer_is = λ line. k.answer_is line ∙ answer_reread line; stands = λ counts e. stands_reread es ks (k.stands counts e) }

    pub count_records : length (entries_of (joined c d (grid_in left_rows left) (grid_in right_rows right))) ≡ length (entries_of (joined c d ls rs))
    count_records = rw (grid_back ls p, grid_back rs q) joined_count_reread

    pub longer_records : max (length (grid_in left_rows left)) (length (grid_in right_rows right)) ≡ max (length ls) (length rs)
    longer_records = rw (grid_back ls p, grid_back rs q, length-map ls reread_row, length-map rs reread_row)
