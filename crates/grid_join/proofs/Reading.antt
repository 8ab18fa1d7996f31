-- Rows read one after the other from records: the next row, and the rows that are left after it. Where there is no row any more nothing is left, and a
-- left row of no entries stands for it.
use mathlib.Core.Path.{◌≡◌, refl, ap, ◌∙◌}
use mathlib.Core.List.{List, [], ◌∷◌}
use Prim.{tt}
use Prim.Native.Nat.{ℕ, zero, suc, ◌+◌, ◌-◌, ◌≤◌, ◌<◌}
use native.Mathlib.Nat.{sub_self}
use native.Mathlib.Numerals.{add-one}
use native.Mathlib.Omega.{arith}
use native.Mathlib.Decide.{dec_lt}
use lib.Dec.{ltb}
use lib.ListN.{length, get_or, take, drop, length-append, length-map, length-drop, drop_of_length-le}
use lib.Seq.{drop-cons, drop-drop, length-take-le}
use borrow.Author.Tests.{lt-ltb, le-ltb}
use Rattle.common.specs.Lists.{All}
use Rattle.common.proofs.All.{all_drop}
use Rattle.records.specs.inner.NodeRecord.{no_row}
use Rattle.records.specs.declared.Entry as records
use Rattle.records.specs.declared.RowEnd.{RowEnd}
use Rattle.grid.specs.Grid.{GridRow, entries_of}
use Rattle.grid_join.specs.Joined.{empty_entries, end_from, filled, row_with}
use Rattle.grid_join.specs.Facts.{left_part, right_part, line_of}
use Rattle.grid_join.specs.inner.Reading.{read, row_in, read_rows, Ends, Narrow, end_at}
use Rattle.grid_join.specs.inner.Parts.{right_in}

pub ends_le : (a : ℕ) (rs : List RowEnd) (n : ℕ) → Ends a rs n → a ≤ n
unfolding Ends
ends_le a [] n t = omega (arith, t)
ends_le a (r ∷ rs) n t = omega (arith, ends_le r.end rs n t.1)

pub length_read : (a : ℕ) (rs : List RowEnd) (es : List records.Entry) → length (read_rows a rs es) ≡ length rs
unfolding read_rows
length_read a [] es = refl
length_read a (r ∷ rs) es = ap suc (length_read r.end rs (drop (r.end - a) es))

-- all entries are read
pub count_read : (a : ℕ) (rs : List RowEnd) (es : List records.Entry) → Ends a rs (a + length es) → length (entries_of (read_rows a rs es)) ≡ length es
unfolding read_rows entries_of Ends
count_read a [] es t = omega (arith, t)
count_read a (r ∷ rs) es t =
    let w = ends_le r.end rs (a + length es) t.1 in
    let n : length (take (r.end - a) es) ≡ r.end - a = length-take-le (r.end - a) es (omega (arith, t.0)) in
    let d = length-drop (r.end - a) es in
    let m : a + length es ≡ r.end + length (drop (r.end - a) es) = omega (arith, t.0) in
    let i = count_read r.end rs (drop (r.end - a) es) (rw m at t.1) in
    omega (arith, length-append (row_in (take (r.end - a) es)) (entries_of (read_rows r.end rs (drop (r.end - a) es))), length-map (take (r.end - a) es) read, t.0)

all_take : {A : Type 0} (P : A → Type 0) (n : ℕ) (xs : List A) → All P xs → All P (take n xs)
unfolding All
all_take P zero xs a = tt
all_take P (suc n) [] a = tt
all_take P (suc n) (x ∷ xs) a = (a.0, all_take P n xs a.1)

pub part_narrow : (from n : ℕ) (es : List records.Entry) → All Narrow es → All Narrow (take n (drop from es))
part_narrow from n es a = all_take Narrow n (drop from es) (all_drop Narrow from es a)

-- ---- the next row of one grid, of whose entries `from` are passed and of whose rows i

module _ (rs : List RowEnd) (es : List records.Entry) (from i : ℕ) (z : Ends from (drop i rs) (length es)) where
  abbrev pub rest : List GridRow
  rest = read_rows from (drop i rs) (drop from es)

  module _ (to : ℕ) (q : to ≡ end_at rs i from) where
    abbrev part : List records.Entry
    part = take (to - from) (drop from es)

    there : i < length rs → to ≡ (get_or rs i no_row).end
    there h = rw (lt-ltb i (length rs) h) at q

    past : length rs ≤ i → to ≡ from
    past h = rw (le-ltb i (length rs) h) at q

    next_row : i < length rs → drop i rs ≡ get_or rs i no_row ∷ drop (i + 1) rs
    next_row h = rw (add-one) (drop-cons rs i no_row h)

    none_left : length rs ≤ i → drop i rs ≡ []
    none_left h = drop_of_length-le rs h

    pub next_bounds : (from ≤ to) × (to ≤ length es) × Ends to (drop (i + 1) rs) (length es)
    unfolding Ends
    next_bounds = go (dec_lt i (length rs))
      where
        go : Dec (i < length rs) → (from ≤ to) × (to ≤ length es) × Ends to (drop (i + 1) rs) (length es)
        go (yes h) =
            let t : Ends from (get_or rs i no_row ∷ drop (i + 1) rs) (length es) = rw (next_row h) at z in
            rw (there h) (t.0, ends_le (get_or rs i no_row).end (drop (i + 1) rs) (length es) t.1, t.1)
        go (no h) =
            let e : drop i rs ≡ [] = none_left (omega arith) in
            let f : drop (i + 1) rs ≡ [] = drop_of_length-le rs {i = i + 1} (omega arith) in
            let t : from ≡ length es = rw e at z in
            rw (past (omega arith), f) (omega arith, omega (arith, t), t)

    -- what is left: the next row and the others; or nothing
    pub rest_next : i < length rs → rest ≡ row_with (get_or rs i no_row).line (row_in part) ∷ read_rows to (drop (i + 1) rs) (drop to es)
    unfolding read_rows
    rest_next h =
        let k : from + ((get_or rs i no_row).end - from) ≡ (get_or rs i no_row).end = omega (arith, there h, next_bounds.0) in
        rw (next_row h, there h)
        (ap (λ (x : List records.Entry). row_with (get_or rs i no_row).line (row_in (take ((get_or rs i no_row).end - from) (drop from es))) ∷ read_rows (get_or rs i no_row).end (drop (i + 1) rs) x)
        (drop-drop ((get_or rs i no_row).end - from) from es ∙ ap (λ (m : ℕ). drop m es) k))

    rest_none : length rs ≤ i → rest ≡ []
    unfolding read_rows
    rest_none h = rw (none_left h)

    pub after : drop 1 rest ≡ read_rows to (drop (i + 1) rs) (drop to es)
    unfolding read_rows
    after = go (dec_lt i (length rs))
      where
        none : drop (i + 1) rs ≡ [] → [] ≡ read_rows to (drop (i + 1) rs) (drop to es)
        none e = rw e

        go : Dec (i < length rs) → drop 1 rest ≡ read_rows to (drop (i + 1) rs) (drop to es)
        go (yes h) = ap (λ (g : List GridRow). drop 1 g) (rest_next h)
        go (no h) = ap (λ (g : List GridRow). drop 1 g) (rest_none (omega arith)) ∙ none (drop_of_length-le rs {i = i + 1} (omega arith))

    pub left_is : (c : ℕ) → left_part c rest ≡ filled c (row_in part)
    unfolding end_from
    left_is c = go (dec_lt i (length rs))
      where
        none : to ≡ from → empty_entries 0 c ≡ filled c (row_in part)
        none e = rw (e, sub_self from)

        go : Dec (i < length rs) → left_part c rest ≡ filled c (row_in part)
        go (yes h) = ap (left_part c) (rest_next h)
        go (no h) = ap (left_part c) (rest_none (omega arith)) ∙ none (past (omega arith))

    pub right_is : (c d : ℕ) → right_part c d rest ≡ right_in c d (ltb i (length rs)) part
    right_is c d = go (dec_lt i (length rs))
      where
        go : Dec (i < length rs) → right_part c d rest ≡ right_in c d (ltb i (length rs)) part
        go (yes h) = ap (right_part c d) (rest_next h) ∙ rw (lt-ltb i (length rs) h)
        go (no h) = ap (right_part c d) (rest_none (omega arith)) ∙ rw (le-ltb i (length rs) (omega arith))

    pub first_line : i < length rs → (ys : List GridRow) → line_of rest ys ≡ (get_or rs i no_row).line
    first_line h ys = ap (λ (g : List GridRow). line_of g ys) (rest_next h)

    pub second_line : i < length rs → line_of [] rest ≡ (get_or rs i no_row).line
    second_line h = ap (λ (g : List GridRow). line_of [] g) (rest_next h)

    pub nothing : length rs ≤ i → rest ≡ []
    nothing h = rest_none h

  pub length_rest : length rest ≡ length rs - i
  length_rest = length_read from (drop i rs) (drop from es) ∙ length-drop i rs
