-- The loop of `count_table` on plain lists, and the answer.
use mathlib.Core.Path.{◌≡◌, sym, ap, ◌∙◌}
use mathlib.Core.Bool.{Bool, true, false, cond, ◌||◌}
use mathlib.Core.List.{List}
use Prim.Native.Nat.{ℕ, suc, ◌+◌, ◌-◌, ◌≤◌, ◌<◌, min}
use native.Mathlib.Decide.{dec_lt}
use native.Mathlib.Omega.{arith}
use lib.Dec.{ltb}
use lib.ListN.{length, get_or, take, drop, length-drop}
use borrow.Author.Tests.{lt-ltb, le-ltb}
use Rattle.common.specs.Limits.{max_entries}
use Rattle.records.specs.NodeRecord.{no_node}
use Rattle.records.specs.declared.NodeRecord.{NodeRecord}
use Rattle.resolved_rows.specs.Cells.{Row, Frame, frame, resolve_body, resolved}
use Rattle.resolved_rows.specs.Listed.{table_rows}
use Rattle.grid_positions.specs.Positions.{all_rows, ends_past, entry_count}
use Rattle.grid_bounds.proofs.Tables.{past_bodies, count_bodies, past_none, count_none}
use Rattle.std.specs.Prelude.{Result, Ok, Err}
use Rattle.common.specs.declared.Reason.{Reason}
use Rattle.common.specs.declared.Reason.TheVariants.{RowEnd, TooManyEntries}
use Rattle.grid_counts.specs.inner.Count.{count_of, entries_checked}
use Rattle.grid_counts.specs.inner.Tallies.{many_entries, BodyReady, CountBodyPost}
use Rattle.grid_counts.proofs.Scan.{framed, framed_all, rest_is, lines_lent, there, bodies_none, bodies_more, bodies_on}

-- the lines after the table's, as they are lent
abbrev pub after_table : List NodeRecord → ℕ → List NodeRecord
after_table ks at = take (length ks - (at + 1)) (drop (at + 1) ks)

-- `ks` are the lines after the table's, of depth d; the first has the number n
pub record TableCounting (table : List Row) (n : ℕ) (ks : List NodeRecord) (d count i : ℕ) : Type 0 where
  pub place : i ≤ length ks
  pub past : ends_past (all_rows (resolved (framed n ks d i).bodies)) ≡ ends_past (all_rows table)
  pub entries_are : min (count + entry_count (all_rows (resolved (framed n ks d i).bodies))) many_entries ≡ min (entry_count (all_rows table)) many_entries
  pub few : count ≤ many_entries

pub table_start : (ks : List NodeRecord) (at : ℕ) → TableCounting (table_rows ks at) (suc (at + 1)) (after_table ks at) (get_or ks at no_node).depth 0 0
unfolding table_rows
table_start ks at =
    let d = (get_or ks at no_node).depth in
    let e : framed (suc (at + 1)) (after_table ks at) d 0 ≡ frame d (suc (at + 1)) (drop (at + 1) ks) =
    framed_all (suc (at + 1)) (after_table ks at) d ∙ ap (frame d (suc (at + 1))) (rest_is ks (at + 1)) in
    record {
      place = omega arith;
      past = ap (λ (f : Frame). ends_past (all_rows (resolved f.bodies))) e;
      entries_are = omega (arith, ap (λ (f : Frame). entry_count (all_rows (resolved f.bodies))) e);
      few = omega arith;
    }

-- what counting a body takes, of the lines from the next place on
pub body_ready : {table : List Row} {all : List NodeRecord} {n d count i : ℕ} {ends₀ ends : List ℕ} (at : ℕ) → BodyReady all d 0 ends₀
    → TableCounting table n (after_table all at) d count i → length ends ≡ length ends₀
    → BodyReady (take (length (after_table all at) - (i + 1)) (drop (i + 1) (after_table all at))) d count ends
body_ready {all = all} {i = i} at t z same = record {
  lines = lines_lent (i + 1) (lines_lent (at + 1) t.lines);
  capacity =
      let rest = after_table all at in
      omega (arith, ap length (rest_is rest (i + 1)), length-drop (i + 1) rest, ap length (rest_is all (at + 1)), length-drop (at + 1) all, t.capacity, same);
  few = z.few;
}

-- more than 8,192, or not
capped : (a b : ℕ) → a ≡ min b many_entries → ltb max_entries a ≡ ltb max_entries b
capped a b e = go (dec_lt max_entries b)
  where
    go : Dec (max_entries < b) → ltb max_entries a ≡ ltb max_entries b
    go (yes h) = lt-ltb max_entries a (omega arith) ∙ sym (lt-ltb max_entries b h)
    go (no h) = le-ltb max_entries a (omega arith) ∙ sym (le-ltb max_entries b (omega arith))

module _ {table : List Row} {n : ℕ} {ks : List NodeRecord} {d count i : ℕ} (z : TableCounting table n ks d count i) where
  pub table_stop : (get_or ks i no_node).depth ≤ d → entries_checked count ≡ count_of table
  unfolding count_of
  table_stop h =
      let e = bodies_none n ks d i h in
      let p : false ≡ ends_past (all_rows table) = sym past_none ∙ rw e at z.past in
      let v = rw e at z.entries_are in
      let c : count ≡ min (entry_count (all_rows table)) many_entries = omega (arith, count_none, z.few) in
      ap (λ (b : Bool). cond b (Err TooManyEntries) (Ok tt)) (capped count (entry_count (all_rows table)) c)
      ∙ ap (λ (b : Bool). cond b (Err RowEnd) (entries_checked (entry_count (all_rows table)))) p

  abbrev l : NodeRecord
  l = get_or ks i no_node

  module _ (h : d < l.depth) where
    pub table_there : i < length ks
    table_there = there n ks d i h

    pub table_on : (l.depth - d ≡ 1 → ⊥) → TableCounting table n ks d count (i + 1)
    table_on other =
        let e = bodies_on n ks d i h other in
        record {
          place = omega (arith, table_there);
          past = let w = rw e at z.past in w;
          entries_are = let w = rw e at z.entries_are in w;
          few = z.few;
        }

    module _ (e : l.depth - d ≡ 1) {res : Result ℕ Reason}
        (counted : (m : ℕ) → CountBodyPost (frame d m (take (length ks - (i + 1)) (drop (i + 1) ks))).rows count res) where
      abbrev b : List Row
      b = (framed n ks d (i + 1)).rows

      abbrev bs : List (List Row)
      bs = (framed n ks d (i + 1)).bodies

      counted_here : CountBodyPost b count res
      counted_here = rw (rest_is ks (i + 1)) at (counted (i + 1 + n))

      past_here : (ends_past (all_rows (resolve_body b)) || ends_past (all_rows (resolved bs))) ≡ ends_past (all_rows table)
      past_here = sym (past_bodies b bs) ∙ rw (bodies_more n ks d i h e) at z.past

      pub table_past : (why : Reason) → res ≡ Err why → Err why ≡ count_of table
      unfolding count_of
      table_past why u =
          let p = counted_here.past why u in
          let v : true ≡ ends_past (all_rows table) = sym (ap (λ (x : Bool). x || ends_past (all_rows (resolved bs))) p.1) ∙ past_here in
          rw p.0 (ap (λ (x : Bool). cond x (Err RowEnd) (entries_checked (entry_count (all_rows table)))) v)

      pub table_more : (m : ℕ) → res ≡ Ok m → TableCounting table n ks d m (i + 1)
      table_more m u =
          let w = counted_here.counted m u in
          record {
            place = omega (arith, table_there);
            past = sym (ap (λ (x : Bool). x || ends_past (all_rows (resolved bs))) w.within) ∙ past_here;
            entries_are = let v = rw (bodies_more n ks d i h e) at z.entries_are in omega (arith, w.entries_are, count_bodies b bs);
            few = omega (arith, w.entries_are);
          }
