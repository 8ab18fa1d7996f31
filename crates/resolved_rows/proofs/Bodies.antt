-- A body's rows in the slices of spans and of ends, one row after the other: the largest sum, and the zeros filled.
use mathlib.Core.Path.{◌≡◌, sym, ap, subst, ◌∙◌}
use mathlib.Core.List.{List, [], ◌∷◌, ◌++◌, map, map-append, append_assoc, append-nil}
use Prim.Native.Nat.{ℕ, ◌+◌, ◌*◌, ◌-◌, ◌≤◌, ◌<◌, max}
use native.Mathlib.Decide.{dec_lt}
use native.Mathlib.Numerals.{add-one}
use native.Mathlib.Omega.{arith}
use lib.ListN.{length, get_or, take, drop, length-append, length-drop, take-append-drop, drop_of_length-le, get_or-eq_default}
use lib.Seq.{drop-cons, drop-drop, get_or-take, get_or-drop, length-take-le, take_at}
use borrow.Rule.Slice.PartMut.{put_mid, post_of, same_len_mid, drop_put}
use Rattle.common.specs.Limits.{max_lines, max_cols}
use Rattle.resolved_rows.specs.Cells.{Row, row, row_sum, widest, resolve_row, fill_body}
use Rattle.resolved_rows.specs.inner.Listed.{cell_cols, all_cells}
use Rattle.resolved_rows.specs.inner.Spans.{bare, part, rows_at, last_end, Rising, Narrow, BodyHeld, LargestSum, WrittenBack}
use Rattle.resolved_rows.proofs.Sums.{sum_small}
use Rattle.resolved_rows.proofs.Filling.{all_filled, length_filled}

pub rising_last : (a : ℕ) (ends : List ℕ) → Rising a ends → a ≤ last_end a ends
unfolding last_end
rising_last a [] r = omega arith
rising_last a (e ∷ es) r = omega (arith, r.0, rising_last e es r.1)

-- row j is the next, and its cells begin at `from`
pub record Along (first : ℕ) (ends : List ℕ) (from j : ℕ) : Type 0 where
  pub within : j ≤ length ends
  pub rising : Rising from (drop j ends)
  pub last : last_end from (drop j ends) ≡ last_end first ends
  pub after : first ≤ from

module _ {first : ℕ} {ends : List ℕ} {from j : ℕ} (a : Along first ends from j) where
  pub along_stop : length ends ≤ j → from ≡ last_end first ends
  unfolding last_end
  along_stop h = rw (drop_of_length-le ends h) at a.last

  rows_stop : (spans : List ℕ) → length ends ≤ j → rows_at from (drop j ends) spans ≡ []
  unfolding rows_at
  rows_stop spans h = rw (drop_of_length-le ends h)

  module _ (h : j < length ends) where
    pub next_end : drop j ends ≡ get_or ends j 0 ∷ drop (j + 1) ends
    next_end = rw (add-one, drop-cons ends j 0)

    rising_here : Rising from (get_or ends j 0 ∷ drop (j + 1) ends)
    rising_here = subst (Rising from) next_end a.rising

    last_here : last_end (get_or ends j 0) (drop (j + 1) ends) ≡ last_end first ends
    unfolding last_end
    last_here = rw next_end at a.last

    pub row_ends_fits : (from ≤ get_or ends j 0) × (get_or ends j 0 ≤ last_end first ends)
    row_ends_fits = (rising_here.0, omega (arith, last_here, rising_last (get_or ends j 0) (drop (j + 1) ends) rising_here.1))

    pub along_more : Along first ends (get_or ends j 0) (j + 1)
    along_more = record { within = omega arith; rising = rising_here.1; last = last_here; after = omega (arith, a.after, row_ends_fits) }

    rows_more : (spans : List ℕ) → rows_at from (drop j ends) spans ≡ row 0 (bare (part from (get_or ends j 0) spans)) ∷ rows_at (get_or ends j 0) (drop (j + 1) ends) spans
    unfolding rows_at
    rows_more spans = rw next_end

    module _ {spans : List ℕ} (b : BodyHeld first ends spans) where
      pub row_length : length (part from (get_or ends j 0) spans) ≡ get_or ends j 0 - from
      row_length = length-take-le (get_or ends j 0 - from) (drop from spans) (omega (arith, length-drop from spans, row_ends_fits, b.held))

      row_narrow_at : (k : ℕ) → get_or (part from (get_or ends j 0) spans) k 0 ≤ max_cols
      row_narrow_at k = at (dec_lt k (get_or ends j 0 - from))
        where
          at : Dec (k < get_or ends j 0 - from) → get_or (part from (get_or ends j 0) spans) k 0 ≤ max_cols
          at (yes l) =
              rw (get_or-take (get_or ends j 0 - from) (drop from spans) k 0 l, get_or-drop from spans k 0)
              (b.narrow (from + k) (omega (arith, a.after)) (omega (arith, row_ends_fits)))
          at (no l) = rw (get_or-eq_default (part from (get_or ends j 0) spans) 0 {n = k} (omega (arith, row_length))) (omega arith)

      pub row_narrow : Narrow (part from (get_or ends j 0) spans)
      row_narrow = record { few = omega (arith, row_length, row_ends_fits, b.few); narrow = row_narrow_at }

      pub row_small : row_sum (bare (part from (get_or ends j 0) spans)) ≤ max_lines * max_cols
      row_small = omega (arith, row_narrow.few, sum_small (part from (get_or ends j 0) spans) row_narrow.narrow)

-- ---- a row written back in its place: what stands before it and after it stays

module _ {first : ℕ} {ends : List ℕ} {from j : ℕ} (a : Along first ends from j) (h : j < length ends) (before now ys : List ℕ)
    (same : length now ≡ length before) (kept : drop from now ≡ drop from before) (held : last_end first ends ≤ length before) (n : length ys ≡ get_or ends j 0 - from) where
  abbrev row_end : ℕ
  row_end = get_or ends j 0

  abbrev put : List ℕ
  put = put_mid from (row_end - from) now ys

  pub put_length : length put ≡ length before
  put_length =
      same_len_mid from (row_end - from) now ys (n ∙ sym (length-take-le (row_end - from) (drop from now) (omega (arith, length-drop from now, row_ends_fits a h))))
      ∙ same

  pub put_rest : drop row_end put ≡ drop row_end before
  put_rest =
      let r = row_ends_fits a h in
      let g : from + (row_end - from) ≡ row_end = omega (arith, r.0) in
      drop_put from row_end now ys r.0 (omega (arith, r)) n
      ∙ ap (λ (k : ℕ). drop k now) (sym g) ∙ sym (drop-drop (row_end - from) from now)
      ∙ ap (drop (row_end - from)) kept ∙ drop-drop (row_end - from) from before ∙ ap (λ (k : ℕ). drop k before) g

  pub put_front : take row_end put ≡ take from now ++ ys
  put_front =
      let r = row_ends_fits a h in
      ap (take row_end) (sym (append_assoc (take from now) ys (post_of from (row_end - from) now)))
      ∙ take_at (take from now ++ ys) (post_of from (row_end - from) now) row_end
      (length-append (take from now) ys ∙ omega (arith, n, length-take-le from now (omega (arith, r)), r.0))

-- ---- the largest sum

pub record Widening (first : ℕ) (ends spans : List ℕ) (most from j : ℕ) : Type 0 where
  pub along : Along first ends from j
  pub whole : max most (widest (rows_at from (drop j ends) spans)) ≡ widest (rows_at first ends spans)
  pub small : most ≤ max_lines * max_cols

module _ {first : ℕ} {ends spans : List ℕ} (b : BodyHeld first ends spans) where
  module _ {most from j : ℕ} (w : Widening first ends spans most from j) where
    pub widest_more : j < length ends → (s m : ℕ) → s ≡ row_sum (bare (part from (get_or ends j 0) spans)) → m ≡ max most s
        → Widening first ends spans m (get_or ends j 0) (j + 1)
    unfolding widest
    widest_more h s m e q = record {
      along = along_more w.along h;
      whole = omega (arith, rw (rows_more w.along h spans) at w.whole);
      small = omega (arith, w.small, row_small w.along h b);
    }

    pub widest_stop : length ends ≤ j → LargestSum (rows_at first ends spans) most
    unfolding widest
    widest_stop h = record {
      is = omega (arith, rw (rows_stop w.along spans h) at w.whole);
      small = w.small;
    }

-- ---- the zeros filled

abbrev cols_at : ℕ → List Row → List ℕ
cols_at most rs = map cell_cols (all_cells (map (resolve_row most) rs))

-- a row, and those after it
cols_more : (most : ℕ) (spans : List ℕ) (rs : List Row) → cols_at most (row 0 (bare spans) ∷ rs) ≡ all_filled (most - row_sum (bare spans) + 1) spans ++ cols_at most rs
unfolding all_cells resolve_row
cols_more most spans rs = map-append cell_cols (resolve_row most (row 0 (bare spans))).cells (all_cells (map (resolve_row most) rs))

pub record Filled (first : ℕ) (ends before now : List ℕ) (most from j : ℕ) : Type 0 where
  pub along : Along first ends from j
  pub same : length now ≡ length before
  pub kept : drop from now ≡ drop from before
  pub lacks : widest (rows_at from (drop j ends) before) ≤ most
  pub whole : take from now ++ cols_at most (rows_at from (drop j ends) before) ≡ take first before ++ cols_at most (rows_at first ends before)

module _ {first : ℕ} {ends before : List ℕ} {most : ℕ} (b : BodyHeld first ends before) (l : LargestSum (rows_at first ends before) most) where
  module _ {now : List ℕ} {from j : ℕ} (f : Filled first ends before now most from j) where
    pub fill_stop : length ends ≤ j → WrittenBack (fill_body (rows_at first ends before)) first ends before now
    unfolding all_cells fill_body
    fill_stop h =
        let e : from ≡ last_end first ends = along_stop f.along h in
        let t : take from now ≡ take first before ++ cols_at most (rows_at first ends before) =
        sym (append-nil (take from now)) ∙ rw (rows_stop f.along before h) at f.whole in
        record {
          spans =
              sym (take-append-drop from now) ∙ rw (f.kept, t, e)
              (ap (λ (m : ℕ). (take first before ++ cols_at m (rows_at first ends before)) ++ drop (last_end first ends) before) l.is);
        }

    module _ (h : j < length ends) where
      abbrev end : ℕ
      end = get_or ends j 0

      -- the row stands there as it was
      part_kept : part from end now ≡ part from end before
      part_kept = ap (take (end - from)) f.kept

      pub part_narrow : Narrow (part from end now)
      part_narrow = subst Narrow (sym part_kept) (row_narrow f.along h b)

      pub part_lacks : row_sum (bare (part from end now)) ≤ most
      unfolding widest
      part_lacks = rw part_kept (omega (arith, rw (rows_more f.along h before) at f.lacks))

      pub fill_row : (s : ℕ) (ys : List ℕ) → s ≡ row_sum (bare (part from end now)) → ys ≡ all_filled (most - s + 1) (part from end now)
          → Filled first ends before (put_mid from (end - from) now ys) most end (j + 1)
      unfolding widest
      fill_row s ys i e =
          let y : ys ≡ all_filled (most - row_sum (bare (part from end before)) + 1) (part from end before) =
          e ∙ ap (λ (x : ℕ). all_filled (most - x + 1) (part from end now)) i ∙ ap (λ (p : List ℕ). all_filled (most - row_sum (bare p) + 1) p) part_kept in
          let n : length ys ≡ end - from = ap length y ∙ length_filled (most - row_sum (bare (part from end before)) + 1) (part from end before) ∙ row_length f.along h b in
          let c = cols_at most (rows_at end (drop (j + 1) ends) before) in
          record {
            along = along_more f.along h;
            same = put_length f.along h before now ys f.same f.kept b.held n;
            kept = put_rest f.along h before now ys f.same f.kept b.held n;
            lacks = omega (arith, rw (rows_more f.along h before) at f.lacks);
            whole =
                ap (λ (x : List ℕ). x ++ c) (put_front f.along h before now ys f.same f.kept b.held n)
                ∙ append_assoc (take from now) ys c
                ∙ ap (λ (x : List ℕ). take from now ++ (x ++ c)) y
                ∙ ap (λ (x : List ℕ). take from now ++ x) (sym (cols_more most (part from end before) (rows_at end (drop (j + 1) ends) before)))
                ∙ ap (λ (x : List Row). take from now ++ cols_at most x) (sym (rows_more f.along h before))
                ∙ f.whole;
          }
