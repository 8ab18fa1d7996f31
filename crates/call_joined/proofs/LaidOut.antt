-- The layout of the joined grid of two tables of a sheet that was read is the one asked for, or it is refused.
use Rattle.common.specs.declared.Reason.{Reason}
use Rattle.common.specs.declared.Refusal.{Refusal}
use Rattle.std.specs.Prelude.{Result, Ok, Err, Some}
use mathlib.Core.Path.{◌≡◌, sym, ap, ◌∙◌}
use mathlib.Core.Bool.{true, false}
use mathlib.Core.List.{List}
use Prim.Native.Nat.{ℕ, ◌+◌, ◌-◌, ◌≤◌}
use native.Mathlib.Omega.{arith}
use lib.ListN.{length, take}
use Rattle.common.specs.Limits.{max_entries, max_position, max_size}
use Rattle.common.specs.Refusals.{answer_by, refusal, passes}
use Rattle.records.specs.declared.NodeRecord.{NodeRecord}
use Rattle.text.specs.declared.Estimate.{Estimate}
use Rattle.grid.specs.Grid.{entries_of}
use Rattle.grid_build.specs.declared.Counts.{Counts}
use Rattle.estimates.specs.Estimates.{estimates}
use Rattle.sheet_load.specs.Opening.{nodes_of, opened_of}
use Rattle.sheet_load.specs.inner.Measures.{LinesMeasured}
use Rattle.table_layout.specs.Arranging.{AllMeasured}
use Rattle.table_layout.specs.declared.Arrangement.{Arrangement}
use Rattle.table_layout.specs.inner.Asked.{OutCapacity}
use Rattle.joined_tables.specs.inner.Joining.{LayOutCapacity, LayOutPost}
use Rattle.call_layout.specs.inner.Made.{answer_of}
use Rattle.call_layout.proofs.Found.{layout_written, layout_none}
use Rattle.call_joined.specs.Joined.{joined_rows, joined_columns, joined_boxes_at, two_checks}
use Rattle.call_joined.specs.inner.Found.{JoinedLayoutFound}
use Rattle.call_joined.proofs.Opening.{decided, late, two_refused, two_late, Opened, counts, Counted, counted}

-- refused before 5 and 6
module _ (s : List ℕ) (l r wrap raw width : ℕ) {column x wide : List ℕ} where
  pub laying_refused : {why : Refusal} → opened_of (Some (decided s l r)) s ≡ Err why → JoinedLayoutFound (two_checks s l r) s l r wrap raw width (Err why) column x wide
  unfolding passes
  laying_refused o =
      layout_none _ _ (joined_boxes_at s l r wrap) raw width (two_checks s l r) (two_refused s l r (λ why. false) true o) (sym (two_refused s l r Err _ o))

-- places for the layout of a table do for the joined one
pub laying_capacity : {width : ℕ} {column x wide : List ℕ} → width ≤ max_size → OutCapacity column x wide → LayOutCapacity width column x wide
laying_capacity h o = record {
  column_capacity = omega (arith, o.column_capacity);
  x_capacity = o.x_capacity;
  wide_capacity = o.wide_capacity;
  small = h;
}

-- the lines that were measured
pub all_measured : {wrap : ℕ} {ks : List NodeRecord} {figures : List Estimate} → LinesMeasured wrap ks figures → length ks ≤ length figures → AllMeasured ks figures
all_measured {wrap} t h = record { wrap = wrap; figures_are = t.figures; enough = h; fits = λ k i. (t.sound k i).least_size }

module _ (s : List ℕ) (l r wrap raw width : ℕ) {n : ℕ} {lines : List NodeRecord} (w : Opened s l r n lines) {figures : List Estimate} {answer : Result Arrangement Reason} {column x wide : List ℕ}
    (m₀ : LayOutPost (take n lines) (l - 1) (r - 1) figures raw width answer column x wide) where
  left_line : l - 1 + 1 ≡ l
  left_line = omega (arith, w.left.from_one)

  m : LayOutPost (nodes_of s) (l - 1) (r - 1) figures raw width answer column x wide
  m = rw w.holds at m₀

  -- 5 or 6
  pub laying_late : {why : Reason} → answer ≡ Err why → JoinedLayoutFound (two_checks s l r) s l r wrap raw width (Err (refusal why l)) column x wide
  unfolding passes
  laying_late {why} e =
      let t : answer_by (counts s l r) (late s l r) ≡ Err (refusal why l) = m.refused why e ∙ ap (λ (k : ℕ). Err (refusal why k)) left_line in
      layout_none _ _ (joined_boxes_at s l r wrap) raw width (two_checks s l r) (two_late s l r (λ why. false) true (counts s l r) w.passed.all t) (sym (two_late s l r Err _ (counts s l r) w.passed.all t))

  module _ {a : Arrangement} (e : answer ≡ Ok a) where
    laid_counted : Counted s l r a.counts
    laid_counted = counted s l r w (m.counted a e)

    -- its counts fit 32 bits
    pub laid_small : (a.counts.entries ≤ max_entries) × (a.counts.columns ≤ max_position)
    laid_small =
        let k = laid_counted in
        (omega (arith, ap (λ (i : Counts). i.entries) k.same, k.few_entries), omega (arith, ap (λ (i : Counts). i.columns) k.same, k.few_columns))

    pub laid_found : take (length (nodes_of s)) figures ≡ estimates wrap (nodes_of s) → JoinedLayoutFound (two_checks s l r) s l r wrap raw width (Ok (answer_of a)) column x wide
    laid_found f =
        let k = laid_counted in
        layout_written (length (entries_of (joined_rows s l r))) (joined_columns s l r) (joined_boxes_at s l r wrap) raw width (two_checks s l r) k.passes_all
        (ap (λ (i : Counts). i.entries) (sym k.same)) (ap (λ (i : Counts). i.columns) (sym k.same)) k.few_entries k.few_columns (m.laid a e wrap f)
