-- The loops over the rows of two grids. What is written, with what the rows that are left come to, is the whole; so with the count of short rows.
use mathlib.Core.Path.{◌≡◌, refl, sym, ap, ap₂, ◌∙◌}
use mathlib.Core.List.{List, [], ◌∷◌, ◌++◌, map, append_assoc, append-nil, map-append}
use Prim.Native.Nat.{ℕ, ◌+◌, ◌-◌, ◌≤◌, ◌<◌, max}
use native.Mathlib.Numerals.{add-one}
use native.Mathlib.Omega.{arith}
use native.Mathlib.Decide.{dec_lt}
use lib.Dec.{ltb}
use lib.ListN.{length, get_or, set, take, drop, length-append, length-set}
use lib.Seq.{take-suc-set}
use borrow.Author.Tests.{lt-ltb, le-ltb}
use Rattle.records.specs.inner.NodeRecord.{no_row}
use Rattle.records.specs.declared.Entry as records
use Rattle.records.specs.declared.RowEnd.{RowEnd}
use Rattle.grid.specs.Grid.{Entry, GridRow, entries_of}
use Rattle.grid_build.specs.inner.Records as made
use Rattle.grid.specs.Judging.{shown}
use Rattle.grid_build.specs.inner.Records.{ended_rows}
use Rattle.grid_join.specs.Joined.{empty_entries, end_from, filled, row_with, joined}
use Rattle.grid_join.specs.Facts.{line_of}
use Rattle.grid_join.specs.inner.Reading.{row_in, read_rows, grid_in, Ends, end_at, line_at}
use Rattle.grid_join.specs.inner.Parts.{right_in, shorts, Appended, Readable, JoinRowsPre, Stands, PutBothPre}
use Rattle.grid_join.proofs.Rows.{joined_count, joined_next}
use Rattle.grid_join.proofs.Putting.{one_empty, no_empty}
use Rattle.grid_join.proofs.Reading.{rest_next, next_bounds, after, left_is, right_is, first_line, second_line, nothing, length_rest, length_read, part_narrow}

-- the rows of a grid that are left
abbrev left_over : List RowEnd → List records.Entry → ℕ → ℕ → List GridRow
left_over rs es from i = read_rows from (drop i rs) (drop from es)

-- where the entries of the next row are, of a grid of whose entries `from` are passed and of whose rows i
pub row_bounds : (es : List records.Entry) (rs : List RowEnd) (i : ℕ) {from : ℕ} → Ends from (drop i rs) (length es) → {to : ℕ} → to ≡ end_at rs i from → (from ≤ to) × (to ≤ length es)
row_bounds es rs i {from} z {to} q = let b = next_bounds rs es from i z to q in (b.0, b.1)

-- ---- all rows

pub record Sofar (c d : ℕ) (les : List records.Entry) (ls : List RowEnd) (res : List records.Entry) (rs : List RowEnd) (es₀ : List records.Entry) (ks₀ : List RowEnd) (es : List records.Entry)
    (ks : List RowEnd) (l r n i : ℕ) : Type 0 where
  pub left : Ends l (drop i ls) (length les)
  pub right : Ends r (drop i rs) (length res)
  pub at_most : i ≤ max (length ls) (length rs)
  pub as_long : length es ≡ length es₀
  pub rows_as_long : length ks ≡ length ks₀
  pub count : n + length (entries_of (joined c d (left_over ls les l i) (left_over rs res r i))) ≡ length (entries_of (joined c d (grid_in ls les) (grid_in rs res)))
  pub entries : take n es ++ map shown (entries_of (joined c d (left_over ls les l i) (left_over rs res r i))) ≡ map shown (entries_of (joined c d (grid_in ls les) (grid_in rs res)))
  pub rows : take i ks ++ ended_rows n (joined c d (left_over ls les l i) (left_over rs res r i)) ≡ ended_rows 0 (joined c d (grid_in ls les) (grid_in rs res))

-- one row more
module _ (line n m : ℕ) (new : List Entry) (g : List GridRow) (es es' : List records.Entry) (w : Appended n m new es es') where
  more_entries : take m es' ++ map shown (entries_of g) ≡ take n es ++ map shown (entries_of (row_with line new ∷ g))
  unfolding entries_of
  more_entries =
      ap (λ (x : List records.Entry). x ++ map shown (entries_of g)) w.written
      ∙ append_assoc (take n es) (map shown new) (map shown (entries_of g))
      ∙ ap (λ (x : List records.Entry). take n es ++ x) (sym (map-append shown new (entries_of g)))

  more_count : m + length (entries_of g) ≡ n + length (entries_of (row_with line new ∷ g))
  unfolding entries_of
  more_count = omega (arith, w.count, length-append new (entries_of g))

  more_rows : (ks ks' : List RowEnd) (i : ℕ) → i < length ks → ks' ≡ set ks i (made.row line m)
      → take (i + 1) ks' ++ ended_rows m g ≡ take i ks ++ ended_rows n (row_with line new ∷ g)
  unfolding ended_rows
  more_rows ks ks' i h q =
      ap₂ (λ (k : ℕ) (x : List RowEnd). take k x ++ ended_rows m g) (add-one i) q
      ∙ ap (λ (x : List RowEnd). x ++ ended_rows m g) (take-suc-set ks i (made.row line m) h)
      ∙ append_assoc (take i ks) (made.row line m ∷ []) (ended_rows m g)
      ∙ ap (λ (k : ℕ). take i ks ++ (made.row line k ∷ ended_rows k g)) w.count

module _ (c d : ℕ) (les : List records.Entry) (ls : List RowEnd) (res : List records.Entry) (rs : List RowEnd) where
  abbrev whole : List GridRow
  whole = joined c d (grid_in ls les) (grid_in rs res)

  pub sofar_start : Readable les ls → Readable res rs → (es : List records.Entry) (ks : List RowEnd) → Sofar c d les ls res rs es ks es ks 0 0 0 0
  sofar_start a b es ks =
      record { left = a.ends; right = b.ends; at_most = omega arith; as_long = refl; rows_as_long = refl; count = omega arith; entries = refl; rows = refl }

  module _ {es₀ : List records.Entry} {ks₀ : List RowEnd} {es : List records.Entry} {ks : List RowEnd} {l r n i : ℕ} (z : Sofar c d les ls res rs es₀ ks₀ es ks l r n i) where
    pub sofar_stop : max (length ls) (length rs) ≤ i → Stands whole es ks
    unfolding joined entries_of ended_rows
    sofar_stop h =
        let a : left_over ls les l i ≡ [] = nothing ls les l i z.left (end_at ls i l) refl (omega arith) in
        let b : left_over rs res r i ≡ [] = nothing rs res r i z.right (end_at rs i r) refl (omega arith) in
        let k : n + 0 ≡ length (entries_of whole) = rw (a, b) at z.count in
        let e : take n es ++ [] ≡ map shown (entries_of whole) = rw (a, b) at z.entries in
        let f : take i ks ++ [] ≡ ended_rows 0 whole = rw (a, b) at z.rows in
        let m : length whole ≡ i = omega (arith, joined_count c d (grid_in ls les) (grid_in rs res), length_read 0 ls les, length_read 0 rs res, z.at_most) in
        let nn : length (entries_of whole) ≡ n = omega (arith, k) in
        record {
          entries = ap (λ (x : ℕ). take x es) nn ∙ sym (append-nil (take n es)) ∙ e;
          rows = ap (λ (x : ℕ). take x ks) m ∙ sym (append-nil (take i ks)) ∙ f;
        }

    module _ (h : i < max (length ls) (length rs)) {l' r' : ℕ} (p : l' ≡ end_at ls i l) (q : r' ≡ end_at rs i r) where
      abbrev lpart : List records.Entry
      lpart = take (l' - l) (drop l les)

      abbrev rpart : List records.Entry
      rpart = take (r' - r) (drop r res)

      abbrev new : List Entry
      new = filled c (row_in lpart) ++ right_in c d (ltb i (length rs)) rpart

      line_is : line_of (left_over ls les l i) (left_over rs res r i) ≡ line_at ls rs i
      line_is = go (dec_lt i (length ls))
        where
          go : Dec (i < length ls) → line_of (left_over ls les l i) (left_over rs res r i) ≡ line_at ls rs i
          go (yes k) = first_line ls les l i z.left l' p k (left_over rs res r i) ∙ rw (lt-ltb i (length ls) k)
          go (no k) =
              ap (λ (g : List GridRow). line_of g (left_over rs res r i)) (nothing ls les l i z.left l' p (omega arith))
              ∙ second_line rs res r i z.right r' q (omega arith)
              ∙ rw (le-ltb i (length ls) (omega arith))

      -- the next row, and what is left after it
      next_is : joined c d (left_over ls les l i) (left_over rs res r i)
          ≡ row_with (line_at ls rs i) new ∷ joined c d (left_over ls les l' (i + 1)) (left_over rs res r' (i + 1))
      next_is =
          joined_next c d (left_over ls les l i) (left_over rs res r i) (omega (arith, length_rest ls les l i z.left, length_rest rs res r i z.right))
          ∙ ap₂ (λ (x : GridRow) (g : List GridRow). x ∷ g)
          (ap₂ (λ (k : ℕ) (x : List Entry). row_with k x) line_is
          (ap₂ (λ (x : List Entry) (y : List Entry). x ++ y) (left_is ls les l i z.left l' p c) (right_is rs res r i z.right r' q c d)))
          (ap₂ (λ (x : List GridRow) (y : List GridRow). joined c d x y) (after ls les l i z.left l' p) (after rs res r i z.right r' q))

      total : n + length (entries_of (row_with (line_at ls rs i) new ∷ joined c d (left_over ls les l' (i + 1)) (left_over rs res r' (i + 1)))) ≡ length (entries_of whole)
      total = rw next_is at z.count

      -- there is room for it
      pub next_fits : n + length new ≤ length (entries_of whole)
      unfolding entries_of
      next_fits = omega (arith, total, length-append new (entries_of (joined c d (left_over ls les l' (i + 1)) (left_over rs res r' (i + 1)))))

      pub next_ready : Readable les ls → Readable res rs → JoinRowsPre c d (grid_in ls les) (grid_in rs res) es₀ ks₀ → PutBothPre n new lpart rpart es
      next_ready a b k =
          record {
            left_narrow = part_narrow l (l' - l) les a.narrow;
            right_narrow = part_narrow r (r' - r) res b.narrow;
            capacity = omega (arith, next_fits, k.entry_capacity, z.as_long);
          }

      -- a place for its record
      pub row_place : JoinRowsPre c d (grid_in ls les) (grid_in rs res) es₀ ks₀ → i < length ks
      row_place k = omega (arith, k.row_capacity, z.rows_as_long, length_read 0 ls les, length_read 0 rs res)

      pub sofar_turn : JoinRowsPre c d (grid_in ls les) (grid_in rs res) es₀ ks₀ → {m : ℕ} {es' : List records.Entry} {line : ℕ} → length es' ≡ length es → Appended n m new es es'
          → line ≡ line_at ls rs i → Sofar c d les ls res rs es₀ ks₀ es' (set ks i (made.row line m)) l' r' m (i + 1)
      sofar_turn pre {m} {es'} {line} long w e =
          let g = joined c d (left_over ls les l' (i + 1)) (left_over rs res r' (i + 1)) in
          let k = row_place pre in
          record {
            left = (next_bounds ls les l i z.left l' p).2;
            right = (next_bounds rs res r i z.right r' q).2;
            at_most = omega arith;
            as_long = long ∙ z.as_long;
            rows_as_long = simp length-set z.rows_as_long;
            count = more_count (line_at ls rs i) n m new g es es' w ∙ total;
            entries = more_entries (line_at ls rs i) n m new g es es' w ∙ (rw next_is at z.entries);
            rows =
                more_rows (line_at ls rs i) n m new g es es' w ks (set ks i (made.row line m)) i k (ap (λ (x : ℕ). set ks i (made.row x m)) e)
                ∙ (rw next_is at z.rows);
          }

-- ---- short left rows

pub record Counted (c : ℕ) (les : List records.Entry) (ls : List RowEnd) (from n i : ℕ) : Type 0 where
  pub ends : Ends from (drop i ls) (length les)
  pub at_most : i ≤ length ls
  pub few : n ≤ i
  pub sofar : n + shorts c (left_over ls les from i) ≡ shorts c (grid_in ls les)

-- an empty entry or none
short_few : (p q : ℕ) → length (empty_entries p q) ≤ 1
short_few p q = go (dec_lt p q)
  where
    go : Dec (p < q) → length (empty_entries p q) ≤ 1
    go (yes h) = omega (arith, one_empty p q h)
    go (no h) = omega (arith, no_empty p q (omega arith))

module _ (c : ℕ) (les : List records.Entry) (ls : List RowEnd) where
  pub counted_start : Readable les ls → Counted c les ls 0 0 0
  counted_start a = record { ends = a.ends; at_most = omega arith; few = omega arith; sofar = omega arith }

  module _ {from n i : ℕ} (z : Counted c les ls from n i) where
    pub counted_stop : length ls ≤ i → n ≡ shorts c (grid_in ls les)
    unfolding shorts
    counted_stop h =
        let a : left_over ls les from i ≡ [] = nothing ls les from i z.ends (end_at ls i from) refl h in
        let s : n + 0 ≡ shorts c (grid_in ls les) = rw a at z.sofar in
        omega (arith, s)

    module _ (h : i < length ls) where
      abbrev to : ℕ
      to = (get_or ls i no_row).end

      ends_there : to ≡ end_at ls i from
      ends_there = rw (lt-ltb i (length ls) h)

      pub counted_bounds : (from ≤ to) × (to ≤ length les)
      counted_bounds = let b = next_bounds ls les from i z.ends to ends_there in (b.0, b.1)

      pub counted_turn : {s : ℕ} → s ≡ length (empty_entries (end_from 0 (row_in (take (to - from) (drop from les)))) c) → Counted c les ls to (n + s) (i + 1)
      unfolding shorts
      counted_turn {s} e =
          let f = rw (rest_next ls les from i z.ends to ends_there h) at z.sofar in
          let k = short_few (end_from 0 (row_in (take (to - from) (drop from les)))) c in
          record {
            ends = (next_bounds ls les from i z.ends to ends_there).2;
            at_most = omega arith;
            few = omega (arith, z.few, e, k);
            sofar = omega (arith, f, e);
          }
