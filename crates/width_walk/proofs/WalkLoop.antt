-- The loop over the lines on plain lists: the lines that are passed have their widths, the cells of the tables that are passed have theirs already, and
-- the nearest line of each depth passes on what is kept for that depth.
use Rattle.common.specs.declared.Reason.TheVariants.{TooNarrow}
use Rattle.std.specs.Prelude.{Err, Ok, None, Option, Some}
use mathlib.Core.Path.{◌≡◌, refl, sym, ap, ◌∙◌}
use mathlib.Core.Bool.{Bool, true, false, cond, ◌&&◌}
use mathlib.Core.List.{List, map}
use Prim.Native.Nat.{ℕ, suc, ◌+◌, ◌-◌, ◌≤◌, ◌<◌}
use native.Mathlib.Numerals.{add-one}
use native.Mathlib.Decide.{ℕ_discrete}
use native.Mathlib.Omega.{arith}
use lib.Dec.{eqb}
use lib.ListN.{length, get_or, take, drop, set, get_or-map}
use lib.Seq.{get_or-take, length-take-le, get_or-set_same, get_or-set_other, ext_get_or}
use borrow.Author.Tests.{eq-eqb, ne_eqb, eqb-true}
use Rattle.common.specs.Limits.{max_size, depths}
use Rattle.common.specs.Lists.{All}
use Rattle.common.specs.Refusals.{Check, first_answer, verdict_of, refusal}
use Rattle.text.specs.declared.Estimate.{Estimate}
use Rattle.kinds.specs.Kinds.{kind_number, table_kind, cell_kind}
use Rattle.records.specs.NodeRecord.{no_node}
use Rattle.records.specs.declared.NodeRecord.{NodeRecord}
use Rattle.resolved_rows.specs.Listed.{table_rows}
use Rattle.grid.specs.Grid.{shown_line, entries_of, grid_of, columns_of}
use Rattle.grid.proofs.GridFacts.{held_spanned, grid_tiles}
use Rattle.estimates.specs.Estimates.{none, unmeasured, est_of, measured, estimates}
use Rattle.estimates.proofs.Laws.{length_all}
use Rattle.common.proofs.All.{all_drop, all_at}
use Rattle.table_layout.specs.inner.Grids.{Fits}
use Rattle.table_layout.specs.Laying.{places_in}
use Rattle.table_layout.specs.Arranging.{boxes_at}
use Rattle.table_layout.proofs.Boxes.{tiles_of_grid}
use Rattle.available_width.specs.Walk.{passed_on, too_narrow, width_in, cell_width, from_nearest, passed_by, line_width, walk_to, walk, narrow_at, narrow_from, narrow_checks}
use Rattle.width_walk.specs.inner.Steps.{Walkable, AtMost, CellIn, HandOutPost, own_width, StepPost, WalkLinesPre}
use Rattle.width_walk.proofs.Lines.{length_walk, walk_past, walk_last, walk_at, walk_stays, nearest_same, one_table, cell_table, cell_nearest}
use Rattle.width_walk.proofs.Smaller.{most_passed, most_nearest, most_weaker, most_printed, table_low}

-- ---- a table of the sheet

module _ {ks : List NodeRecord} {figures : List Estimate} (p : Walkable ks figures) (wrap : ℕ) (same : take (length ks) figures ≡ estimates wrap ks) where
  figure_at_lem : (k : ℕ) → k < length ks → get_or figures k none ≡ get_or (estimates wrap ks) k none
  figure_at_lem k h = sym (get_or-take (length ks) figures k none h) ∙ ap (λ (l : List Estimate). get_or l k none) same

  fits : All Fits (measured wrap 1 ks)
  fits =
      all_at Fits unmeasured (measured wrap 1 ks)
      (λ k h.
      let e : estimates p.measured.wrap ks ≡ estimates wrap ks = sym p.measured.figures_are ∙ same in
      let f = p.measured.fits k (omega (arith, length_all wrap ks)) in
      rw (get_or-map est_of (measured wrap 1 ks) k unmeasured) at (rw e at f))

  -- no cell is wider than its table
  pub cell_most : (raw t w i : ℕ) → t < length ks → kind_number (get_or ks t no_node).kind ≡ table_kind → AtMost w (cell_width wrap raw ks t (Some w) i)
  unfolding cell_width
  cell_most raw t w i h e =
      most_printed w (map shown_line (entries_of (grid_of (table_rows ks t)))) (map width_in (places_in (columns_of (table_rows ks t)) (boxes_at wrap ks t) raw w)) (i + 1)
      (table_low (columns_of (table_rows ks t)) (boxes_at wrap ks t) raw w
      (tiles_of_grid (t + 1) (drop (t + 1) (measured wrap 1 ks)) (columns_of (table_rows ks t)) (grid_of (table_rows ks t))
      (grid_tiles (table_rows ks t) (p.sound t h e) (held_spanned ks t))
      (all_drop Fits (t + 1) (measured wrap 1 ks) fits)))

  wide_small : (w : ℕ) (v : Option ℕ) → AtMost max_size (Some w) → AtMost w v → AtMost max_size v
  unfolding AtMost
  wide_small w v s l = most_weaker w max_size v s l

  none_small : (raw t i : ℕ) → AtMost max_size (cell_width wrap raw ks t None i)
  unfolding cell_width AtMost
  none_small raw t i = tt

  cell_small : (raw t i : ℕ) (v : Option ℕ) → t < length ks → kind_number (get_or ks t no_node).kind ≡ table_kind → AtMost max_size v → AtMost max_size (cell_width wrap raw ks t v i)
  cell_small raw t i None h e s = none_small raw t i
  cell_small raw t i (Some w) h e s = wide_small w (cell_width wrap raw ks t (Some w) i) s (cell_most raw t w i h e)

  -- ---- the loop

  pub record Sofar (raw root overflow : ℕ) (ps qs : List (Option ℕ)) (i : ℕ) : Type 0 where
    pub at : i ≤ length ks
    pub front : (k : ℕ) → k < i → get_or ps k None ≡ get_or (walk_to wrap raw root ks i) k None
    pub ahead : (t j : ℕ) → CellIn ks t j → i ≤ j → get_or ps j None ≡ cell_width wrap raw ks t (get_or (walk_to wrap raw root ks i) t None) j
    pub passes : (d : ℕ) → d < depths → get_or qs d None ≡ from_nearest (passed_by wrap ks (walk_to wrap raw root ks i)) ks d i
    pub small : (k : ℕ) → AtMost max_size (get_or (walk_to wrap raw root ks i) k None)
    pub narrow : verdict_of (narrow_from wrap raw root overflow ks (length ks - i) i) ≡ verdict_of (narrow_checks wrap raw root overflow ks)

  none_yet : (raw t j : ℕ) → None ≡ cell_width wrap raw ks t None j
  unfolding cell_width
  none_yet raw t j = refl

  pub start : (raw root overflow : ℕ) {ps qs : List (Option ℕ)} → WalkLinesPre (length ks) ps → ((d : ℕ) → get_or qs d None ≡ None) → Sofar raw root overflow ps qs 0
  unfolding walk_to from_nearest AtMost
  start raw root overflow c none_passed = record {
    at = omega arith;
    front = λ k h. absurd (omega arith);
    ahead = λ t j z h. c.no_width j ∙ none_yet raw t j;
    passes = λ d h. none_passed d;
    small = λ k. tt;
    narrow = let o : length ks - 0 ≡ length ks = omega arith in ap (λ (n : ℕ). verdict_of (narrow_from wrap raw root overflow ks n 0)) o;
  }

  module _ {raw root overflow : ℕ} (root-small : root ≤ max_size) {ps qs : List (Option ℕ)} {i : ℕ} (z : Sofar raw root overflow ps qs i) where
    abbrev W : ℕ → List (Option ℕ)
    W n = walk_to wrap raw root ks n

    abbrev own : Option ℕ
    own = line_width wrap raw root ks (W i) i

    -- every line is passed
    pub stop : length ks ≤ i → length ks ≤ length ps → ((Ok tt) ≡ verdict_of (narrow_checks wrap raw root overflow ks)) × (take (length ks) ps ≡ (walk wrap raw root ks))
        × ((k : ℕ) → AtMost max_size (get_or (walk wrap raw root ks) k None))
    unfolding narrow_from verdict_of first_answer
    stop h r =
        let e : i ≡ length ks = omega (arith, z.at) in
        let o : length ks - i ≡ 0 = omega arith in (
          rw o at z.narrow,
          ext_get_or None (take (length ks) ps) (walk wrap raw root ks)
              (length-take-le (length ks) ps r ∙ sym (length_walk wrap raw root ks (length ks)))
              (λ k l.
              let b : k < length ks = omega (arith, length-take-le (length ks) ps r) in
              get_or-take (length ks) ps k None b ∙ z.front k (omega arith) ∙ ap (λ (n : ℕ). get_or (W n) k None) e),
          λ k. rw e at (z.small k),
        )

    module _ (h : i < length ks) where
      abbrev here : NodeRecord
      here = get_or ks i no_node

      -- the line's own width
      cell_own : kind_number here.kind ≡ cell_kind → get_or ps i None ≡ (from_nearest (λ t. cell_width wrap raw ks t (get_or (W i) t None) i) ks (here.depth - 3) i)
      cell_own e =
          let c = cell_table p.sheet i h e in
          z.ahead c.table i c.cell (omega arith) ∙ (sym (cell_nearest p.sheet (λ t. cell_width wrap raw ks t (get_or (W i) t None) i) i c))

      pub own_is : own_width root i (get_or ks i no_node) ps qs ≡ line_width wrap raw root ks (walk_to wrap raw root ks i) i
      unfolding line_width
      own_is = go (eqb i 0) (eqb (kind_number here.kind) cell_kind) refl
        where
          go : (a b : Bool) → eqb (kind_number here.kind) cell_kind ≡ b
              → cond a (Some root) (cond b (get_or ps i None) (get_or qs (here.depth - 1) None))
              ≡ cond a (Some root) (cond b (from_nearest (λ t. cell_width wrap raw ks t (get_or (W i) t None) i) ks (here.depth - 3) i) (from_nearest (passed_by wrap ks (W i)) ks (here.depth - 1) i))
          go true b e = refl
          go false true e = cell_own (eqb-true (kind_number here.kind) cell_kind e)
          go false false e = z.passes (here.depth - 1) (omega (arith, p.lined.shallow i))

      pub own_small : AtMost max_size (line_width wrap raw root ks (walk_to wrap raw root ks i) i)
      unfolding line_width AtMost
      own_small = go (eqb i 0) (eqb (kind_number here.kind) cell_kind) refl
        where
          passed_small : (k : ℕ) → k < i → AtMost max_size (passed_by wrap ks (W i) k)
          passed_small k l =
              most_passed max_size (get_or ks k no_node).kind (get_or (estimates wrap ks) k none) (get_or (W i) k None)
              (omega (arith, p.small k (omega arith), ap (λ (e : Estimate). e.least) (figure_at_lem k (omega arith)))) (z.small k)

          go : (a b : Bool) → eqb (kind_number here.kind) cell_kind ≡ b
              → AtMost max_size (cond a (Some root) (cond b (from_nearest (λ t. cell_width wrap raw ks t (get_or (W i) t None) i) ks (here.depth - 3) i) (from_nearest (passed_by wrap ks (W i)) ks (here.depth - 1) i)))
          go true b e = root-small
          go false true e =
              let c = cell_table p.sheet i h (eqb-true (kind_number here.kind) cell_kind e) in
              rw (cell_nearest p.sheet (λ t. cell_width wrap raw ks t (get_or (W i) t None) i) i c)
              (cell_small raw c.table i (get_or (W i) c.table None) (omega (arith, c.cell.1.before)) c.cell.0 (z.small c.table))
          go false false e = most_nearest max_size (passed_by wrap ks (W i)) ks (here.depth - 1) i passed_small

      -- 12
      abbrev rest : List Check
      rest = narrow_from wrap raw root overflow ks (length ks - (i + 1)) (i + 1)

      here_narrow : (w : Option ℕ) → w ≡ own → narrow_at wrap raw root ks i ≡ too_narrow here.kind (get_or figures i none) w
      here_narrow w e =
          (λ j. too_narrow here.kind (sym (figure_at_lem i h) j) ((walk_stays wrap raw root ks (length ks) (suc i) i (omega arith) h ∙ walk_last wrap raw root ks i ∙ sym e) j))

      verdict_here : (w : Option ℕ) → w ≡ own → (b : Bool) → b ≡ (eqb overflow 0 && too_narrow here.kind (get_or figures i none) w)
          → verdict_of (narrow_checks wrap raw root overflow ks) ≡ cond b (Err (refusal TooNarrow (i + 1))) (verdict_of rest)
      unfolding narrow_from verdict_of first_answer
      verdict_here w e b f =
          let s : length ks - i ≡ suc (length ks - (i + 1)) = omega arith in
          sym z.narrow
          ∙ ap (λ (n : ℕ). verdict_of (narrow_from wrap raw root overflow ks n i)) s
          ∙ ap (λ (c : Bool). cond (eqb overflow 0 && c) (Err (refusal TooNarrow (i + 1))) (verdict_of rest)) (here_narrow w e)
          ∙ ap (λ (c : Bool). cond c (Err (refusal TooNarrow (i + 1))) (verdict_of rest)) (sym f)

      module _ {w : Option ℕ} {ps₁ qs₁ : List (Option ℕ)} (s : StepPost ks figures root i w ps qs ps₁ qs₁) where
        w_is : w ≡ own
        w_is = s.width_is ∙ own_is

        pub step_small : AtMost max_size w
        step_small = rw w_is own_small

        pub turn_refused : (b : Bool) → b ≡ (eqb overflow 0 && too_narrow (get_or ks i no_node).kind (get_or figures i none) w) → b ≡ true
            → Err (refusal TooNarrow (i + 1)) ≡ verdict_of (narrow_checks wrap raw root overflow ks)
        turn_refused b f t = sym (verdict_here w w_is b f ∙ rw t)

        module _ {ps₂ : List (Option ℕ)} (g : HandOutPost ks i figures raw w ps₁ ps₂) (line_capacity : length ks ≤ length ps) (depth-capacity : depths ≤ length qs) where
          now_own : get_or (W (suc i)) i None ≡ w
          now_own = walk_last wrap raw root ks i ∙ sym w_is

          off : (k : ℕ) → (k ≡ i → ⊥) → get_or ps₁ k None ≡ get_or ps k None
          off k n = ap (λ (l : List (Option ℕ)). get_or l k None) s.written ∙ get_or-set_other ps i k w None n

          front_next : (k : ℕ) → k < suc i → Dec (k ≡ i) → get_or ps₂ k None ≡ get_or (W (suc i)) k None
          front_next k l (yes e) =
              g.other k (λ c. omega (arith, c.1.before))
              ∙ ap (λ (x : ℕ). get_or ps₁ x None) e
              ∙ ap (λ (y : List (Option ℕ)). get_or y i None) s.written
              ∙ get_or-set_same ps i w None (omega arith)
              ∙ sym now_own
              ∙ ap (λ (x : ℕ). get_or (W (suc i)) x None) (sym e)
          front_next k l (no e) =
              g.other k (λ c. omega (arith, c.1.before))
              ∙ off k e ∙ z.front k (omega arith) ∙ sym (walk_at wrap raw root ks i k e)

          ahead_next : (t j : ℕ) → CellIn ks t j → suc i ≤ j → Dec (t ≡ i) → get_or ps₂ j None ≡ (cell_width wrap raw ks t (get_or (W (suc i)) t None) j)
          ahead_next t j c l (yes e) =
              let c' : CellIn ks i j = rw e at c in
              let past = ap (λ (v : Option ℕ). cell_width wrap raw ks i v j) (walk_past wrap raw root ks i i (omega arith)) in
              g.cell wrap same j c' (off j (λ q. omega arith) ∙ z.ahead i j c' (omega arith) ∙ past ∙ sym (none_yet raw i j))
              ∙ (λ n. cell_width wrap raw ks i (sym now_own n) j)
              ∙ ap (λ (x : ℕ). (cell_width wrap raw ks x (get_or (W (suc i)) x None) j)) (sym e)
          ahead_next t j c l (no e) =
              g.other j (λ d. e (one_table t i j c.1 d.1))
              ∙ off j (λ q. omega arith) ∙ z.ahead t j c (omega arith)
              ∙ ap (λ (v : Option ℕ). cell_width wrap raw ks t v j) (sym (walk_at wrap raw root ks i t e))

          passes_next : (d : ℕ) → d < depths → Dec (here.depth ≡ d) → get_or qs₁ d None ≡ (from_nearest (passed_by wrap ks (W (suc i))) ks d (suc i))
          unfolding from_nearest
          passes_next d l (yes e) =
              rw (eq-eqb here.depth d e)
              (ap (λ (y : List (Option ℕ)). get_or y d None) s.passes
              ∙ ap (λ (x : ℕ). get_or (set qs here.depth (passed_on here.kind (get_or figures i none) w)) x None) (sym e)
              ∙ get_or-set_same qs here.depth (passed_on here.kind (get_or figures i none) w) None (omega arith)
              ∙ (λ n. passed_on here.kind (figure_at_lem i h n) (sym now_own n)))
          passes_next d l (no e) =
              rw (ne_eqb here.depth d e)
              (ap (λ (y : List (Option ℕ)). get_or y d None) s.passes
              ∙ get_or-set_other qs here.depth d (passed_on here.kind (get_or figures i none) w) None (λ q. e (sym q))
              ∙ z.passes d l
              ∙ (nearest_same (passed_by wrap ks (W i)) (passed_by wrap ks (W (suc i))) ks d i
              (λ k m. ap (λ (v : Option ℕ). passed_on (get_or ks k no_node).kind (get_or (estimates wrap ks) k none) v) (sym (walk_at wrap raw root ks i k (λ q. omega arith))))))

          small_next : (k : ℕ) → Dec (k ≡ i) → AtMost max_size (get_or (W (suc i)) k None)
          small_next k (yes e) = rw (e, walk_last wrap raw root ks i) own_small
          small_next k (no e) = rw (walk_at wrap raw root ks i k e) (z.small k)

          pub turn : (b : Bool) → b ≡ (eqb overflow 0 && too_narrow (get_or ks i no_node).kind (get_or figures i none) w) → b ≡ false → Sofar raw root overflow ps₂ qs₁ (i + 1)
          turn b f t = record {
            at = omega arith;
            front = rw add-one (λ k l. front_next k l (ℕ_discrete k i));
            ahead = rw add-one (λ t j c l. ahead_next t j c l (ℕ_discrete t i));
            passes = rw add-one (λ d l. passes_next d l (ℕ_discrete here.depth d));
            small = rw add-one (λ k. small_next k (ℕ_discrete k i));
            narrow = sym (verdict_here w w_is b f ∙ rw t);
          }
