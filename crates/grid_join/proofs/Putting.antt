-- Entries written one after the other: a row's, moved, and empty ones. What is written after what was written is written together.
use mathlib.Core.Path.{◌≡◌, refl, sym, ap, ap₂, ◌∙◌}
use mathlib.Core.Bool.{cond}
use mathlib.Core.List.{List, [], ◌∷◌, ◌++◌, map, append_assoc, append-nil, map-append}
use Prim.Native.Nat.{ℕ, suc, ◌+◌, ◌-◌, ◌≤◌, ◌<◌}
use native.Mathlib.Nat.{zero-add, add-zero}
use native.Mathlib.Numerals.{add-one}
use native.Mathlib.Omega.{arith}
use native.Mathlib.Decide.{ℕ_discrete}
use lib.Dec.{eqb}
use lib.ListN.{length, get_or, set, take, length-append, length-map, length-set}
use lib.Seq.{take-suc, take-suc-set, take_all}
use borrow.Author.Tests.{lt-ltb, le-ltb, eq-eqb, ne_eqb}
use Rattle.records.specs.inner.NodeRecord.{no_entry}
use Rattle.records.specs.declared.Entry as records
use Rattle.grid.specs.Grid.{Entry}
use Rattle.grid.specs.Judging.{shown}
use Rattle.grid_build.specs.inner.Records as made
use Rattle.grid_join.specs.Joined.{empty_entries, moved, end_from, filled}
use Rattle.grid_join.specs.inner.Reading.{read, row_in}
use Rattle.grid_join.specs.inner.Parts.{Appended, RowReady}

-- ---- where a row ends

pub end_last : (p : ℕ) (es : List records.Entry) → 0 < length es → (get_or es (length es - 1) no_entry).first + (get_or es (length es - 1) no_entry).span ≡ end_from p (row_in es)
unfolding end_from
end_last p [] h = absurd (omega arith)
end_last p (e ∷ []) h = refl
end_last p (e ∷ f ∷ es) h =
    let m : suc (suc (length es)) - 1 ≡ suc (suc (length es) - 1) = omega arith in
    rw m (end_last (e.first + e.span) (f ∷ es) (omega arith))

pub end_none : (es : List records.Entry) → length es ≤ 0 → 0 ≡ end_from 0 (row_in es)
unfolding end_from
end_none [] h = refl
end_none (e ∷ es) h = absurd (omega (arith, h))

-- ---- entries put

pub put_then : {n m k : ℕ} {xs ys : List Entry} {a b c : List records.Entry} → Appended n m xs a b → Appended m k ys b c → Appended n k (xs ++ ys) a c
put_then {n} {m} {k} {xs} {ys} {a} {b} {c} p q =
    record {
      count = omega (arith, p.count, q.count, length-append xs ys);
      written =
          q.written
          ∙ ap (λ (l : List records.Entry). l ++ map shown ys) p.written
          ∙ append_assoc (take n a) (map shown xs) (map shown ys)
          ∙ ap (λ (l : List records.Entry). take n a ++ l) (sym (map-append shown xs ys));
    }

pub one_empty : (from to : ℕ) → from < to → length (empty_entries from to) ≡ 1
one_empty from to h = rw (lt-ltb from to h)

pub no_empty : (from to : ℕ) → to ≤ from → length (empty_entries from to) ≡ 0
no_empty from to h = rw (le-ltb from to h)

-- ---- a row moved

pub cell_shown : (n : ℕ) → cond (eqb n 0) 0 n ≡ n
cell_shown n = go (ℕ_discrete n 0)
  where
    go : Dec (n ≡ 0) → cond (eqb n 0) 0 n ≡ n
    go (yes e) = rw (eq-eqb n 0 e) (sym e)
    go (no e) = rw (ne_eqb n 0 e)

abbrev pub moved_record : ℕ → records.Entry → records.Entry
moved_record by e = made.entry e.cell (by + e.first) e.span

moved_shown : (by : ℕ) (e : records.Entry) → moved_record by e ≡ shown (moved by (read e))
moved_shown by e = rw (cell_shown e.cell)

moved_map : (by : ℕ) (es : List records.Entry) → map (moved_record by) es ≡ map shown (map (moved by) (row_in es))
moved_map by [] = refl
moved_map by (e ∷ es) = ap₂ (λ (x : records.Entry) (l : List records.Entry). x ∷ l) (moved_shown by e) (moved_map by es)

-- the first i of a row are written after n
pub record Moving (row : List records.Entry) (by n : ℕ) (es₀ es : List records.Entry) (i : ℕ) : Type 0 where
  pub at_most : i ≤ length row
  pub as_long : length es ≡ length es₀
  pub sofar : take (n + i) es ≡ take n es₀ ++ map (moved_record by) (take i row)

pub moving_start : (row : List records.Entry) (by n : ℕ) (es : List records.Entry) → Moving row by n es es 0
moving_start row by n es =
    record { at_most = omega arith; as_long = refl; sofar = ap (λ (k : ℕ). take k es) (add-zero n) ∙ sym (append-nil (take n es)) }

module _ {row : List records.Entry} {by n : ℕ} {es₀ es : List records.Entry} {i : ℕ} (z : Moving row by n es₀ es i) where
  pub moving_turn : i < length row → n + i < length es → {e m : records.Entry} → e ≡ get_or row i no_entry → m ≡ moved_record by e → Moving row by n es₀ (set es (n + i) m) (i + 1)
  moving_turn h l {e} {m} q u =
      record {
        at_most = omega arith;
        as_long = simp length-set z.as_long;
        sofar =
            let k : n + (i + 1) ≡ suc (n + i) = omega arith in
            let g : m ≡ moved_record by (get_or row i no_entry) = u ∙ ap (moved_record by) q in
            ap (λ (j : ℕ). take j (set es (n + i) m)) k
            ∙ take-suc-set es (n + i) m l
            ∙ ap₂ (λ (x : List records.Entry) (y : records.Entry). x ++ (y ∷ [])) z.sofar g
            ∙ append_assoc (take n es₀) (map (moved_record by) (take i row)) (moved_record by (get_or row i no_entry) ∷ [])
            ∙ ap (λ (x : List records.Entry). take n es₀ ++ x)
            (sym (ap (λ (j : ℕ). map (moved_record by) (take j row)) (add-one i)
            ∙ ap (map (moved_record by)) (take-suc row i no_entry h)
            ∙ map-append (moved_record by) (take i row) (get_or row i no_entry ∷ [])));
      }

  pub moving_stop : length row ≤ i → {r : ℕ} → r ≡ n + length row → Appended n r (map (moved by) (row_in row)) es₀ es
  moving_stop h {r} e =
      let q : i ≡ length row = omega (arith, z.at_most) in
      record {
        count = omega (arith, length-map (row_in row) (moved by), length-map row read);
        written =
            ap (λ (k : ℕ). take k es) (e ∙ ap (λ (k : ℕ). n + k) (sym q))
            ∙ z.sofar
            ∙ ap (λ (x : List records.Entry). take n es₀ ++ map (moved_record by) x) (take_all i row h)
            ∙ ap (λ (x : List records.Entry). take n es₀ ++ x) (moved_map by row);
      }

-- moved by 0 columns: it stays
pub moved_none : (es : List Entry) → map (moved 0) es ≡ es
moved_none [] = refl
moved_none (e ∷ es) = ap₂ (λ (x : Entry) (l : List Entry). x ∷ l) (rw (zero-add e.first)) (moved_none es)

-- ---- places for the parts

pub capacity : {n : ℕ} {row es : List records.Entry} → RowReady n (row_in row) row es → n + length row ≤ length es
capacity {n} {row} {es} p = omega (arith, p.capacity, length-map row read)

module _ (c : ℕ) (row : List records.Entry) {n : ℕ} {es : List records.Entry} where
  pub row_capacity : RowReady n (filled c (row_in row)) row es → RowReady n (row_in row) row es
  row_capacity p =
      let a = length-append (row_in row) (empty_entries (end_from 0 (row_in row)) c) in
      record { narrow = p.narrow; capacity = omega (arith, p.capacity, a) }

  pub filled_put : {end : ℕ} {m k : ℕ} {es' es'' : List records.Entry} → end ≡ end_from 0 (row_in row) → Appended n m (map (moved 0) (row_in row)) es es' → Appended m k (empty_entries end c) es' es''
      → Appended n k (filled c (row_in row)) es es''
  filled_put q a b = put_then (rw (moved_none (row_in row)) at a) (rw q at b)
