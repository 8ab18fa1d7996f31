-- The loop of `count_body` on plain lists: what hangs into row q is as wide as is told, and place q + k of the slice tells how much of it hangs into k rows
-- more; with the rows still to come this is the body.
use mathlib.Core.Path.{◌≡◌, refl, sym, ap, ap₂, ◌∙◌}
use mathlib.Core.Bool.{Bool, ◌||◌}
use mathlib.Core.List.{List, [], ◌∷◌, ◌++◌, map}
use Prim.Native.Nat.{ℕ, suc, ◌+◌, ◌-◌, ◌*◌, ◌≤◌, ◌<◌, min, max}
use native.Mathlib.Omega.{arith}
use lib.Dec.{ltb}
use lib.ListN.{length, get_or, take, drop, length-map, length-drop}
use lib.Seq.{get_or-drop, length-take-le}
use Rattle.std.proofs.lemmas.List.{get_or-append_right, get_or_append_left}
use borrow.Rule.Slice.PartMut.{put_mid, same_len_mid}
use borrow.Author.Tests.{lt-ltb, le-ltb}
use Rattle.common.specs.Lists.{sum}
use Rattle.common.specs.Limits.{max_lines, max_cols, max_position}
use Rattle.records.specs.NodeRecord.{no_node}
use Rattle.records.specs.declared.NodeRecord.{NodeRecord}
use Rattle.resolved_rows.specs.Cells.{Cell, Row, Frame, frame, row, row_sum, widest, resolve_cell, resolve_row, fill_body, cut_cell, cut_row, cut_body, resolve_body}
use Rattle.resolved_rows.specs.inner.Listed.{all_cells}
use Rattle.grid_row.specs.Row.{Item, items_end, nexts}
use Rattle.grid_positions.specs.Positions.{originals, all_rows, ends_past}
use Rattle.grid_positions.proofs.TableFacts.{entries}
use Rattle.grid_bounds.proofs.Ends.{wides, wides_small, entries_end, entries_wides, nexts_end, nexts_wides}
use Rattle.grid_bounds.proofs.Entries.{takens, takens_append, body_entries}
use Rattle.std.specs.Prelude.{Result, Ok, Err}
use Rattle.common.specs.declared.Reason.{Reason}
use Rattle.common.specs.declared.Reason.TheVariants.{RowEnd}
use Rattle.grid_counts.specs.declared.Tally.{Tally}
use Rattle.grid_counts.specs.inner.Tallies.{many_entries, Lines, RowSumPost, SurveyPost, ready, cols_sum, CountRowPre, RowDone, CountRowPost, CountBodyPost}
use Rattle.grid_counts.proofs.SumLoop.{sum_lent}
use Rattle.grid_counts.proofs.Scan.{framed, framed_all, rest_is, lines_lent, there, rows_none, rows_more, rows_on}

-- rows of a body whose largest sum is `most`, resolved
abbrev pub rest_of : ℕ → List Row → List Row
rest_of most rs = cut_body (map (resolve_row most) rs)

rest_row : (most k : ℕ) (cs : List Cell) (rs : List Row) → rest_of most (row k cs ∷ rs) ≡ row k (ready (most - row_sum cs + 1) (length rs) cs) ∷ rest_of most rs
unfolding cut_body cut_row resolve_row
rest_row most k cs rs =
    ap (λ (n : ℕ). row k (map (cut_cell n) (map (resolve_cell (most - row_sum cs + 1)) cs)) ∷ cut_body (map (resolve_row most) rs)) (length-map rs (resolve_row most))

past_row : (hs : List Item) (r : Row) (rs : List Row) → ends_past (originals hs (r ∷ rs)) ≡ (ltb max_position (items_end (entries hs r)) || ends_past (originals (nexts (entries hs r)) rs))
unfolding originals ends_past
past_row hs r rs = refl

pub record BodyCounting (ks : List NodeRecord) (d rows most entries₀ : ℕ) (ends₀ ends : List ℕ) (reach count q j : ℕ) : Type 0 where
  pub hs : ℕ → List Item
  pub place : j ≤ length ks
  pub rows_left : (n : ℕ) → q + length (framed n ks d j).rows ≡ rows
  pub largest : (n : ℕ) → widest (framed n ks d j).rows ≤ most
  pub past : (n : ℕ) → ends_past (originals (hs n) (rest_of most (framed n ks d j).rows)) ≡ ends_past (all_rows (resolve_body (frame d n ks).rows))
  pub taken_rows : (n : ℕ) → min (count + takens (all_cells (rest_of most (framed n ks d j).rows))) many_entries
      ≡ min (entries₀ + takens (all_cells (resolve_body (frame d n ks).rows))) many_entries
  pub few : count ≤ many_entries
  pub reach_is : (n : ℕ) → reach ≡ items_end (hs n)
  pub within : reach ≤ max_position
  pub ends_are : (n k : ℕ) → q + k < rows → get_or ends (q + k) 0 ≡ wides k (hs n)
  pub same : length ends ≡ length ends₀

pub body_start : {ks : List NodeRecord} {d rows most entries₀ : ℕ} {ends : List ℕ} → entries₀ ≤ many_entries
    → ((n : ℕ) → SurveyPost (frame d n ks).rows rows most ends) → BodyCounting ks d rows most entries₀ ends ends 0 entries₀ 0 0
unfolding resolve_body fill_body sum
body_start {ks} {d} {rows} {most} {entries₀} {ends} f s = record {
  hs = λ n. [];
  place = omega arith;
  rows_left = λ n. omega (arith, (s n).rows_are, all_length n);
  largest = λ n. omega (arith, (s n).widest_is, ap (λ (g : Frame). widest g.rows) (framed_all n ks d));
  past = λ n.
      ap (λ (g : Frame). ends_past (originals [] (rest_of most g.rows))) (framed_all n ks d)
      ∙ ap (λ (m : ℕ). ends_past (originals [] (rest_of m (frame d n ks).rows))) (s n).widest_is;
  taken_rows = λ n.
      ap (λ (g : Frame). min (entries₀ + takens (all_cells (rest_of most g.rows))) many_entries) (framed_all n ks d)
      ∙ ap (λ (m : ℕ). min (entries₀ + takens (all_cells (rest_of m (frame d n ks).rows))) many_entries) (s n).widest_is;
  few = f;
  reach_is = λ n. refl;
  within = omega arith;
  ends_are = λ n k g. let e : 0 + k ≡ k = omega arith in ap (λ (x : ℕ). get_or ends x 0) e ∙ (s 0).clear k (omega arith);
  same = refl;
}
  where
    all_length : (n : ℕ) → length (framed n ks d 0).rows ≡ length (frame d n ks).rows
    all_length n = ap (λ (g : Frame). length g.rows) (framed_all n ks d)

module _ {ks : List NodeRecord} {d rows most entries₀ : ℕ} {ends₀ ends : List ℕ} {reach count q j : ℕ} (t : Lines ks d) (small : most ≤ max_lines * max_cols) (few_rows : rows ≤ max_lines) (capacity : rows ≤ length ends₀)
    (z : BodyCounting ks d rows most entries₀ ends₀ ends reach count q j) where
  pub body_stop : (n : ℕ) → (get_or ks j no_node).depth ≤ d + 1 → CountBodyPost (frame d n ks).rows entries₀ (Ok count)
  unfolding cut_body originals ends_past all_cells sum
  body_stop n h =
      let e = rows_none n ks d j h in
      record {
        past = λ why x. cc;
        counted = λ m x.
            let a : m ≡ count = cc in
            record {
              within = sym (rw e at (z.past n));
              entries_are = let w = rw e at (z.taken_rows n) in omega (arith, z.few, body_entries (frame d n ks).rows);
            };
      }

  abbrev l : NodeRecord
  l = get_or ks j no_node

  module _ (h : d + 1 < l.depth) where
    pub body_there : j < length ks
    body_there = there 0 ks d j (omega arith)

    pub body_on : (l.depth - (d + 1) ≡ 1 → ⊥) → BodyCounting ks d rows most entries₀ ends₀ ends reach count q (j + 1)
    body_on other =
        record {
          hs = z.hs;
          place = omega (arith, body_there);
          rows_left = λ n. let w = rw (rows_on n ks d j h other) at (z.rows_left n) in w;
          largest = λ n. let w = rw (rows_on n ks d j h other) at (z.largest n) in w;
          past = λ n. let w = rw (rows_on n ks d j h other) at (z.past n) in w;
          taken_rows = λ n. let w = rw (rows_on n ks d j h other) at (z.taken_rows n) in w;
          few = z.few;
          reach_is = z.reach_is;
          within = z.within;
          ends_are = z.ends_are;
          same = z.same;
        }

    module _ (e : l.depth - (d + 1) ≡ 1) (s : ℕ) (lent : (n : ℕ) → RowSumPost (frame d n (take (length ks - (j + 1)) (drop (j + 1) ks))).cells s) where
      r : (n : ℕ) → RowSumPost (framed n ks d (j + 1)).cells s
      r = sum_lent ks d (j + 1) s lent

      abbrev cs : ℕ → List Cell
      cs n = (framed n ks d (j + 1)).cells

      abbrev rs : ℕ → List Row
      rs n = (framed n ks d (j + 1)).rows

      abbrev R : ℕ → Row
      R n = row (j + n) (ready (most - s + 1) (rows - q - 1) (cs n))

      abbrev X : ℕ → List Item
      X n = entries (z.hs n) (R n)

      left_is : (n : ℕ) → q + suc (length (rs n)) ≡ rows
      left_is n = rw (rows_more n ks d j h e) at (z.rows_left n)

      pub some_left : q < rows
      some_left = omega (arith, left_is 0)

      largest_is : (n : ℕ) → max (row_sum (cs n)) (widest (rs n)) ≤ most
      unfolding widest
      largest_is n = rw (rows_more n ks d j h e) at (z.largest n)

      pub sum_small : s ≤ most
      sum_small = omega (arith, (r 0).is, largest_is 0)

      rows_are : (n : ℕ) → rest_of most (framed n ks d j).rows ≡ R n ∷ rest_of most (rs n)
      rows_are n =
          let a : most - row_sum (cs n) + 1 ≡ most - s + 1 = omega (arith, (r n).is) in
          let b : length (rs n) ≡ rows - q - 1 = omega (arith, left_is n) in
          ap (rest_of most) (rows_more n ks d j h e) ∙ rest_row most (j + n) (cs n) (rs n) ∙ ap₂ (λ (x y : ℕ). row (j + n) (ready x y (cs n)) ∷ rest_of most (rs n)) a b

      -- the rest of the slice, from place q on
      lent_at : (k : ℕ) → get_or (take (length ends - q) (drop q ends)) k 0 ≡ get_or ends (q + k) 0
      lent_at k = rw (rest_is ends q) (get_or-drop q ends k 0)

      pub row_ready : CountRowPre (take (length ks - (j + 1)) (drop (j + 1) ks)) d (most - s + 1) (rows - q - 1) reach count (take (length ends - q) (drop q ends))
      row_ready = record {
        lines = lines_lent (j + 1) t;
        small = omega arith;
        few_left = omega (arith, some_left);
        capacity = rw (rest_is ends q) (omega (arith, length-drop q ends, some_left, z.same));
        within = z.within;
        few = z.few;
        ends_small = λ k g. omega (arith, lent_at k, z.ends_are 0 k (omega (arith, some_left)), wides_small k (z.hs 0), z.reach_is 0);
      }

      past_here : (n : ℕ) → (ltb max_position (items_end (X n)) || ends_past (originals (nexts (X n)) (rest_of most (rs n)))) ≡ ends_past (all_rows (resolve_body (frame d n ks).rows))
      past_here n = sym (past_row (z.hs n) (R n) (rest_of most (rs n))) ∙ rw (rows_are n) at (z.past n)

      end_is : (n : ℕ) → items_end (X n) ≡ reach + cols_sum (R n).cells
      end_is n = omega (arith, entries_end (z.hs n) (R n), z.reach_is n)

      body_past : (n : ℕ) → max_position < reach + cols_sum (R n).cells → CountBodyPost (frame d n ks).rows entries₀ (Err RowEnd)
      body_past n g = record {
        past = λ why x.
            let e : RowEnd ≡ why = cc in
            (sym e, sym (past_here n) ∙ ap (λ (b : Bool). b || ends_past (originals (nexts (X n)) (rest_of most (rs n)))) (lt-ltb max_position (items_end (X n)) (omega (arith, end_is n))));
        counted = λ m x. cc;
      }

      module _ {part : List ℕ} {res : Result Tally Reason}
          (counted : (n : ℕ) → CountRowPost (ready (most - s + 1) (rows - q - 1) (frame d n (take (length ks - (j + 1)) (drop (j + 1) ks))).cells) (rows - q - 1) reach count
          (take (length ends - q) (drop q ends)) part res) where
        counted_here : (n : ℕ) → CountRowPost (R n).cells (rows - q - 1) reach count (take (length ends - q) (drop q ends)) part res
        counted_here n = rw (rest_is ks (j + 1)) at (counted (j + 1 + n))

        pub body_refused : (why : Reason) → res ≡ Err why → (n : ℕ) → CountBodyPost (frame d n ks).rows entries₀ (Err why)
        body_refused why u n = let p = (counted_here n).past why u in rw p.0 (body_past n p.1)

        module _ (t' : Tally) (u : res ≡ Ok t') (kept : length part ≡ length (take (length ends - q) (drop q ends))) where
          abbrev o : ℕ
          o = t'.reach

          abbrev m : ℕ
          m = t'.entries

          w : (n : ℕ) → RowDone (R n).cells (rows - q - 1) reach count (take (length ends - q) (drop q ends)) part o m
          w n = (counted_here n).counted t' u

          abbrev ends' : List ℕ
          ends' = put_mid q (length ends - q) ends part

          same : length ends' ≡ length ends
          same = same_len_mid q (length ends - q) ends part kept

          put_at : (k : ℕ) → k ≤ rows - q - 1 → get_or ends' (q + k) 0 ≡ get_or part k 0
          put_at k g =
              let rest = part ++ drop (length ends - q) (drop q ends) in
              let e : q + k - q ≡ k = omega arith in
              let there : k < length part = omega (arith, kept, ap length (rest_is ends q), length-drop q ends, some_left, z.same) in
              get_or-append_right (take q ends) rest q (q + k) 0 (length-take-le q ends (omega (arith, some_left, z.same))) (omega arith)
              ∙ ap (λ (x : ℕ). get_or rest x 0) e
              ∙ get_or_append_left part (drop (length ends - q) (drop q ends)) 0 k there

          -- the slice tells of the whole row
          told : (n k : ℕ) → k ≤ rows - q - 1 → get_or ends' (q + k) 0 ≡ wides k (X n)
          told n k g = put_at k g ∙ omega (arith, (w n).ends_are k g, lent_at k, z.ends_are n k (omega (arith, some_left)), entries_wides k (z.hs n) (R n))

          told_here : (n : ℕ) → get_or ends' q 0 ≡ wides 0 (X n)
          told_here n = let v : q ≡ q + 0 = omega arith in ap (λ (x : ℕ). get_or ends' x 0) v ∙ told n 0 (omega arith)

          pub here_small : get_or ends' q 0 ≤ o
          here_small = omega (arith, told_here 0, wides_small 0 (X 0), end_is 0, (w 0).reach_is)

          told_next : (n k : ℕ) → q + 1 + k < rows → get_or ends' (q + 1 + k) 0 ≡ wides k (nexts (X n))
          told_next n k g =
              let v : q + 1 + k ≡ q + suc k = omega arith in
              ap (λ (x : ℕ). get_or ends' x 0) v ∙ told n (suc k) (omega arith) ∙ sym (nexts_wides k (X n))

          pub body_more : BodyCounting ks d rows most entries₀ ends₀ ends' (o - get_or ends' q 0) m (q + 1) (j + 1)
          unfolding all_cells
          body_more = record {
            hs = λ n. nexts (X n);
            place = omega (arith, body_there);
            rows_left = λ n. omega (arith, left_is n);
            largest = λ n. omega (arith, largest_is n);
            past = λ n. ap (λ (b : Bool). b || ends_past (originals (nexts (X n)) (rest_of most (rs n)))) (sym (le-ltb max_position (items_end (X n)) (omega (arith, end_is n, (w n).within, (w n).reach_is)))) ∙ past_here n;
            taken_rows = λ n. let v = rw (rows_are n) at (z.taken_rows n) in omega (arith, (w n).entries_are, takens_append (R n).cells (all_cells (rest_of most (rs n))));
            few = omega (arith, (w 0).entries_are);
            reach_is = λ n. omega (arith, told_here n, nexts_end (X n), end_is n, (w n).reach_is);
            within = omega (arith, (w 0).within);
            ends_are = told_next;
            same = same ∙ z.same;
          }
