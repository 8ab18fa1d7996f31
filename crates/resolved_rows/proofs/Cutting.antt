-- A body's rows cut to the rows that are left, in the slice of the cells' rows, one row after the other.
use mathlib.Core.Path.{◌≡◌, sym, ap, ap₂, ◌∙◌}
use mathlib.Core.List.{List, [], ◌++◌, map, append_assoc, append-nil}
use Prim.Native.Nat.{ℕ, ◌+◌, ◌-◌, ◌≤◌, ◌<◌}
use native.Mathlib.Omega.{arith}
use lib.ListN.{length, get_or, take, drop, length-map, length-drop, take-append-drop, drop_of_length-le}
use lib.Seq.{length-take-le}
use borrow.Rule.Slice.PartMut.{put_mid}
use Rattle.resolved_rows.specs.Cells.{taken}
use Rattle.resolved_rows.specs.inner.Spans.{part, last_end, cut_at, RowsHeld, CutBack}
use Rattle.resolved_rows.proofs.Bodies.{Along, along_stop, next_end, row_ends_fits, along_more, put_length, put_rest, put_front}

-- ---- one row after the other

pub record Cutting (first : ℕ) (ends before now : List ℕ) (from j : ℕ) : Type 0 where
  pub along : Along first ends from j
  pub same : length now ≡ length before
  pub kept : drop from now ≡ drop from before
  pub whole : take from now ++ cut_at from (drop j ends) before ≡ take first before ++ cut_at first ends before

module _ {first : ℕ} {ends before : List ℕ} (b : RowsHeld first ends before) where
  module _ {now : List ℕ} {from j : ℕ} (f : Cutting first ends before now from j) where
    pub cut_stop : length ends ≤ j → CutBack first ends before now
    unfolding cut_at
    cut_stop h =
        let e : from ≡ last_end first ends = along_stop f.along h in
        let n : cut_at from (drop j ends) before ≡ [] = ap (λ (l : List ℕ). cut_at from l before) (drop_of_length-le ends h) in
        let t : take from now ≡ take first before ++ cut_at first ends before =
        sym (append-nil (take from now)) ∙ ap (λ (l : List ℕ). take from now ++ l) (sym n) ∙ f.whole in
        record { rows = sym (take-append-drop from now) ∙ ap₂ (λ (x y : List ℕ). x ++ y) t (f.kept ∙ ap (λ (k : ℕ). drop k before) e) }

    module _ (h : j < length ends) where
      abbrev end : ℕ
      end = get_or ends j 0

      cut_next : cut_at from (drop j ends) before ≡ map (taken (length ends - j - 1)) (part from end before) ++ cut_at end (drop (j + 1) ends) before
      unfolding cut_at
      cut_next =
          ap (λ (l : List ℕ). cut_at from l before) (next_end f.along h)
          ∙ ap (λ (k : ℕ). map (taken k) (part from end before) ++ cut_at end (drop (j + 1) ends) before) (omega (arith, length-drop (j + 1) ends))

      pub cut_turn : (ys : List ℕ) → ys ≡ map (taken (length ends - j - 1)) (part from end now) → Cutting first ends before (put_mid from (end - from) now ys) end (j + 1)
      cut_turn ys e =
          let r = row_ends_fits f.along h in
          let m : length (part from end now) ≡ end - from = length-take-le (end - from) (drop from now) (omega (arith, length-drop from now, r, b.held, f.same)) in
          let n : length ys ≡ end - from = ap length e ∙ length-map (part from end now) (taken (length ends - j - 1)) ∙ m in
          let c = cut_at end (drop (j + 1) ends) before in
          record {
            along = along_more f.along h;
            same = put_length f.along h before now ys f.same f.kept b.held n;
            kept = put_rest f.along h before now ys f.same f.kept b.held n;
            whole =
                ap (λ (x : List ℕ). x ++ c) (put_front f.along h before now ys f.same f.kept b.held n)
                ∙ append_assoc (take from now) ys c
                ∙ ap (λ (x : List ℕ). take from now ++ (x ++ c)) (e ∙ ap (λ (l : List ℕ). map (taken (length ends - j - 1)) (take (end - from) l)) f.kept)
                ∙ ap (λ (x : List ℕ). take from now ++ x) (sym cut_next)
                ∙ f.whole;
          }
