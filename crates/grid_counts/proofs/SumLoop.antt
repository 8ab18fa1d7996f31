-- The sum of a row, and the loop of `survey`, on plain lists.
use mathlib.Core.Path.{◌≡◌, refl, sym, ap, ◌∙◌}
use mathlib.Core.Bool.{Bool}
use mathlib.Core.List.{List, [], ◌∷◌, map}
use Prim.Native.Nat.{ℕ, suc, ◌+◌, ◌-◌, ◌*◌, ◌≤◌, ◌<◌, max}
use lib.Dec.{eqb, ltb}
use borrow.Author.Tests.{eq-eqb, ne_eqb, lt-ltb, le-ltb}
use Rattle.std.specs.Prelude.{Option, ⊤}
use Rattle.std.specs.Iterator.{Drains}
use Rattle.std.specs.Iterator.Runs.{Run, EachRunFrom}
use Rattle.std.specs.List.{filter, take_while, fold, sum_by}
use Rattle.std.proofs.lemmas.Iterator.{YieldsList}
use Rattle.std.proofs.lemmas.Iterator.Consumers.{sum_from_yields_List, fits_from_yields_list}
use Rattle.std.proofs.lemmas.List.Recursion.{is_sum_by}
use Rattle.std.proofs.lemmas.List.Sums.{take_while-cons}
use native.Mathlib.Decide.{dec_lt, ℕ_discrete}
use native.Mathlib.Omega.{arith}
use lib.ListN.{length, get_or, take, drop, set, length-set}
use lib.Seq.{get_or-set_same, get_or-set_other}
use Rattle.common.specs.Lists.{sum}
use Rattle.common.specs.Limits.{max_lines, max_cols}
use Rattle.records.specs.NodeRecord.{no_node}
use Rattle.records.specs.declared.NodeRecord.{NodeRecord}
use Rattle.resolved_rows.specs.Cells.{Cell, Frame, frame, row_sum, widest}
use Rattle.grid_counts.specs.inner.Tallies.{Lines, RowSumPost, BodyReady, SurveyPost}
use Rattle.grid_counts.proofs.Scan.{framed, framed_all, rest_is, there, cells_none, cells_more, cells_on, rows_none, rows_more, rows_on}

-- ---- a row's sum

abbrev pub below_row : ℕ → NodeRecord → Bool
below_row d l = ltb (d + 2) l.depth

abbrev pub of_cell : ℕ → NodeRecord → Bool
of_cell d l = eqb l.depth (d + 3)

abbrev pub wide_of : NodeRecord → ℕ
wide_of l = max l.cols 1

-- the cols of the cells, 0 as 1, in a row that the first of the lines are
abbrev pub wides : ℕ → List NodeRecord → List ℕ
wides d ks = map wide_of (filter (of_cell d) (take_while (below_row d) ks))

module _ (d : ℕ) where
  wides_none : (l : NodeRecord) (ls : List NodeRecord) → l.depth ≤ d + 2 → wides d (l ∷ ls) ≡ []
  wides_none l ls h = rw (take_while-cons (below_row d) l ls, le-ltb (d + 2) l.depth h)

  wides_more : (l : NodeRecord) (ls : List NodeRecord) → l.depth ≡ d + 3 → wides d (l ∷ ls) ≡ max l.cols 1 ∷ wides d ls
  wides_more l ls e = rw (take_while-cons (below_row d) l ls, lt-ltb (d + 2) l.depth (omega arith), eq-eqb l.depth (d + 3) e)

  wides_on : (l : NodeRecord) (ls : List NodeRecord) → d + 2 < l.depth → (l.depth ≡ d + 3 → ⊥) → wides d (l ∷ ls) ≡ wides d ls
  wides_on l ls h e = rw (take_while-cons (below_row d) l ls, lt-ltb (d + 2) l.depth h, ne_eqb l.depth (d + 3) e)

  wides_sum : (n : ℕ) (ks : List NodeRecord) → sum (wides d ks) ≡ row_sum (frame d n ks).cells
  unfolding sum row_sum frame
  wides_sum n [] = refl
  wides_sum n (l ∷ ls) = go (dec_lt (d + 2) l.depth) (ℕ_discrete l.depth (d + 3)) (wides_sum (0 + 1 + n) ls)
    where
      cells_at : {cs : List Cell} → (framed n (l ∷ ls) d 0).cells ≡ cs → row_sum cs ≡ row_sum (frame d n (l ∷ ls)).cells
      cells_at e = ap row_sum (sym e ∙ ap (λ (f : Frame). f.cells) (framed_all n (l ∷ ls) d))

      go : Dec (d + 2 < l.depth) → Dec (l.depth ≡ d + 3) → sum (wides d ls) ≡ row_sum (frame d (0 + 1 + n) ls).cells
          → sum (wides d (l ∷ ls)) ≡ row_sum (frame d n (l ∷ ls)).cells
      go (no g) e rest = ap sum (wides_none l ls (omega arith)) ∙ cells_at (cells_none n (l ∷ ls) d 0 (omega arith))
      go (yes g) (yes e) rest =
          ap sum (wides_more l ls e) ∙ ap (λ (k : ℕ). max l.cols 1 + k) rest
          ∙ cells_at (cells_more n (l ∷ ls) d 0 g (omega arith))
      go (yes g) (no e) rest = ap sum (wides_on l ls g e) ∙ rest ∙ cells_at (cells_on n (l ∷ ls) d 0 g (λ o. e (omega arith)))

  wides_small : (ks : List NodeRecord) → ((k : ℕ) → (get_or ks k no_node).cols ≤ max_cols) → sum (wides d ks) ≤ length ks * max_cols
  unfolding sum
  wides_small [] h = omega arith
  wides_small (l ∷ ls) h = go (dec_lt (d + 2) l.depth) (ℕ_discrete l.depth (d + 3)) (wides_small ls (λ k. h (suc k)))
    where
      go : Dec (d + 2 < l.depth) → Dec (l.depth ≡ d + 3) → sum (wides d ls) ≤ length ls * max_cols → sum (wides d (l ∷ ls)) ≤ length (l ∷ ls) * max_cols
      go (no g) e rest = omega (arith, ap sum (wides_none l ls (omega arith)))
      go (yes g) (yes e) rest = omega (arith, ap sum (wides_more l ls e), h 0)
      go (yes g) (no e) rest = omega (arith, ap sum (wides_on l ls g e))

-- an iterator of which every run is told gives these
abbrev pub Gives : {S A : Type 0} {steps : S → Option A → S → Type 0} {s : S} {P : Run steps → Type 0} → EachRunFrom steps s P → List A → Type 0
Gives {steps = steps} {s = s} runs xs = YieldsList steps (λ x. x) s xs

module _ {ks : List NodeRecord} {d : ℕ} (t : Lines ks d) where
  wides_fit : sum (wides d ks) ≤ max_lines * max_cols
  wides_fit = omega (arith, wides_small d ks t.narrow, t.short)

  by_sum : sum (wides d ks) ≡ sum_by (λ x. x) (wides d ks)
  unfolding sum
  by_sum = is_sum_by sum (λ x. x) refl (λ _ _. refl) (wides d ks)

  -- what an iterator that gives them comes to
  pub row_fits : {S : Type 0} {steps : S → Option ℕ → S → Type 0} (s : S) → YieldsList steps (λ x. x) s (wides d ks)
      → EachRunFrom steps s (λ p. fold (λ a x. a + x) 0 p.items < 4294967296)
  row_fits s come = fits_from_yields_list s 4294967296 come (omega (arith, wides_fit, by_sum))

  pub row_summed : {S : Type 0} {steps : S → Option ℕ → S → Type 0} (s : S) (r : ℕ) → ((xs : List ℕ) × (⊤ → Drains steps s xs) × (r ≡ fold (λ a x. a + x) 0 xs)) → YieldsList steps (λ x. x) s (wides d ks)
      → (n : ℕ) → RowSumPost (frame d n ks).cells r
  row_summed s r ran come n =
      let e = sum_from_yields_List s r ran come ∙ sym by_sum in
      record { is = e ∙ wides_sum d n ks; small = omega (arith, e, wides_fit) }

-- the sum of the row whose cells are lent
pub sum_lent : (ks : List NodeRecord) (d i s : ℕ) → ((n : ℕ) → RowSumPost (frame d n (take (length ks - i) (drop i ks))).cells s) → (n : ℕ) → RowSumPost (framed n ks d i).cells s
sum_lent ks d i s r n = rw (rest_is ks i) at (r (i + n))

-- ---- a body's rows and their largest sum

pub record Surveying (ks : List NodeRecord) (d : ℕ) (ends₀ ends : List ℕ) (rows most j : ℕ) : Type 0 where
  pub place : j ≤ length ks
  pub count : (n : ℕ) → rows + length (framed n ks d j).rows ≡ length (frame d n ks).rows
  pub largest : (n : ℕ) → max most (widest (framed n ks d j).rows) ≡ widest (frame d n ks).rows
  pub small : most ≤ max_lines * max_cols
  pub few : rows ≤ j
  pub clear : (k : ℕ) → k < rows → get_or ends k 0 ≡ 0
  pub same : length ends ≡ length ends₀

pub survey_start : (ks : List NodeRecord) (d : ℕ) (ends : List ℕ) → Surveying ks d ends ends 0 0 0
survey_start ks d ends = record {
  place = omega arith;
  count = λ n. omega (arith, ap (λ (f : Frame). length f.rows) (framed_all n ks d));
  largest = λ n. omega (arith, ap (λ (f : Frame). widest f.rows) (framed_all n ks d));
  small = omega arith;
  few = omega arith;
  clear = λ k g. absurd (omega arith);
  same = refl;
}

module _ {ks : List NodeRecord} {d : ℕ} {ends₀ ends : List ℕ} {rows most j : ℕ} (t : BodyReady ks d 0 ends₀) (z : Surveying ks d ends₀ ends rows most j) where
  pub survey_stop : (n : ℕ) → (get_or ks j no_node).depth ≤ d + 1 → SurveyPost (frame d n ks).rows rows most ends
  unfolding widest
  survey_stop n h = record {
    rows_are = let e = rw (rows_none n ks d j h) at (z.count n) in omega arith;
    few = omega (arith, z.few, z.place, t.lines.short);
    capacity = omega (arith, z.few, z.place, t.capacity, z.same);
    widest_is = let e = rw (rows_none n ks d j h) at (z.largest n) in omega arith;
    small = z.small;
    clear = z.clear;
  }

  abbrev depth : ℕ
  depth = (get_or ks j no_node).depth

  module _ (h : d + 1 < depth) where
    pub line_there : j < length ks
    line_there = there 0 ks d j (omega arith)

    pub survey_more : depth - (d + 1) ≡ 1 → (c m : ℕ) → ((n : ℕ) → RowSumPost (framed n ks d (j + 1)).cells c) → m ≡ max most c → Surveying ks d ends₀ (set ends rows 0) (rows + 1) m (j + 1)
    unfolding widest
    survey_more e c m r v =
        record {
          place = omega (arith, line_there);
          count = λ n. let u = rw (rows_more n ks d j h e) at (z.count n) in omega arith;
          largest = λ n. let u = rw (rows_more n ks d j h e) at (z.largest n) in omega (arith, (r n).is);
          small = omega (arith, z.small, (r 0).small);
          few = omega (arith, z.few);
          clear = λ k g. cleared k g (ℕ_discrete k rows);
          same = length-set ends rows 0 ∙ z.same;
        }
      where
        cleared : (k : ℕ) → k < rows + 1 → Dec (k ≡ rows) → get_or (set ends rows 0) k 0 ≡ 0
        cleared k g (yes e) = ap (λ (x : ℕ). get_or (set ends rows 0) x 0) e ∙ get_or-set_same ends rows 0 0 (omega (arith, z.few, line_there, t.capacity, z.same))
        cleared k g (no n) = get_or-set_other ends rows k 0 0 n ∙ z.clear k (omega arith)

    pub survey_on : (depth - (d + 1) ≡ 1 → ⊥) → Surveying ks d ends₀ ends rows most (j + 1)
    survey_on other =
        record {
          place = omega (arith, line_there);
          count = λ n. let u = rw (rows_on n ks d j h other) at (z.count n) in u;
          largest = λ n. let u = rw (rows_on n ks d j h other) at (z.largest n) in u;
          small = z.small;
          few = omega (arith, z.few);
          clear = z.clear;
          same = z.same;
        }
