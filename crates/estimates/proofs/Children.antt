-- The turns of `cell`, and what `node` makes of a line once all below it is passed.
use mathlib.Core.Path.{◌≡◌, refl, sym, ap, ◌∙◌}
use mathlib.Core.Bool.{Bool, true, false, cond, true≢false}
use mathlib.Core.List.{List}
use Prim.Native.Nat.{ℕ, ◌+◌, ◌≤◌, ◌<◌, min, max}
use native.Mathlib.Omega.{arith}
use native.Mathlib.Decide.{dec_lt}
use lib.Dec.{eqb}
use lib.ListN.{length, get_or, drop, set}
use Rattle.common.specs.Limits.{max_size}
use Rattle.text.specs.declared.Estimate.{Estimate}
use Rattle.kinds.specs.Kinds.{kind_number, table_kind, break_kind, link_kind, has_text, is_leaf}
use Rattle.records.specs.declared.NodeRecord.{NodeRecord}
use Rattle.records.specs.declared.Entry.{Entry}
use Rattle.records.specs.declared.RowEnd.{RowEnd}
use Rattle.estimates.specs.Estimates.{estimate, none, Children, gather, leaf_of, prefix_of, holder_of}
use Rattle.estimates.specs.inner.Sheet.{Sheet, line_at}
use Rattle.estimates.specs.inner.Cycle.{NodeReady, Ends, Passed, Plain, Holder, Numbered, Fitting, NodeMeets, CellPost, est_at, done_of, held_at, held_of, weight}
use Rattle.estimates.specs.declared.Part.{Part}
use Rattle.estimates.proofs.Laws.{gather_stop, gather_child}
use Rattle.estimates.proofs.ByKind.{leaf_est, holder_est}
use Rattle.estimates.proofs.Nesting.{may}
use Rattle.estimates.proofs.Ranges.{prefix_small}
use Rattle.estimates.proofs.Weighing.{weight_more, fits}
use Rattle.estimates.proofs.Passing.{step, stored, begin}

-- slices as the walk takes them: each line has a result, and a call for another line finds them so again
module _ {lines : List NodeRecord} {figures : List Estimate} {leasts : List ℕ} {entries : List Entry} {rows : List RowEnd} {at : ℕ} (r : NodeReady lines figures leasts entries rows at) where
  pub inside : {i : ℕ} → i < length lines → i < length lines
  inside h = omega arith

  pub roomy : length lines ≤ length figures
  roomy = omega (arith, r.figures_fit)

  pub again : {figures' : List Estimate} {leasts' : List ℕ} {entries' : List Entry} {rows' : List RowEnd} {i : ℕ} → length figures' ≡ length figures → length leasts' ≡ length leasts → length entries' ≡ length entries
      → length rows' ≡ length rows → i < length lines → NodeReady lines figures' leasts' entries' rows' i
  again e f g h k = record {
    sheet = r.sheet;
    lined = r.lined;
    tables = rw g r.tables;
    figures_fit = rw e r.figures_fit;
    scratch = omega (arith, r.scratch);
    row_capacity = rw h r.row_capacity;
    within = k;
  }

-- at line i, the children passed come to `sum`, `most` and `children`
pub record CellLoop (wrap : ℕ) (ls : List NodeRecord) (b c : List Estimate) (at sum most children i : ℕ) : Type 0 where
  pub passed : Passed ls (done_of wrap ls) b c at (at + 1) i
  pub next : Ends ls ((line_at ls at).depth + 1) i
  pub whole : gather (line_at ls at).depth (record { est = estimate sum most 0; count = children }) (drop i (done_of wrap ls)) ≡ held_at wrap ls at
  pub few : children + at < i
  pub small : sum + weight ls (at + 1) ≤ weight ls i
  pub least_size : most ≤ sum

module _ {wrap : ℕ} {ls : List NodeRecord} {b : List Estimate} {at : ℕ} where
  pub cell_start : Sheet ls → Passed ls (done_of wrap ls) b b at (at + 1) (at + 1) → CellLoop wrap ls b b at 0 0 0 (at + 1)
  cell_start w p = record {
    passed = p;
    next = λ h. w.step at h;
    whole = refl;
    few = omega arith;
    small = omega arith;
    least_size = omega arith;
  }

  -- a child that `cell` passes to `node`
  pub cell_child : {c : List Estimate} {sum most children i : ℕ} → Sheet ls → Holder (line_at ls at) → CellLoop wrap ls b c at sum most children i
      → i < length ls → (line_at ls at).depth < (line_at ls i).depth → Plain (line_at ls i)
  cell_child {i = i} w k c h u =
      (may w at i (record { before = c.passed.after; within = h; deeper = omega (arith, c.next h); between = c.passed.deeper })
      ).elsewhere k.table k.body k.row

  pub cell_again : {c c' : List Estimate} {sum most children i r : ℕ} → CellLoop wrap ls b c at sum most children i → i < length ls
      → (line_at ls at).depth < (line_at ls i).depth → NodeMeets wrap ls c c' i r
      → CellLoop wrap ls b c' at (sum + (get_or c' i none).size) (max most (get_or c' i none).least) (children + 1) r
  cell_again {sum = sum} {most = most} {children = children} {i = i} {r = r} c h u n =
      let w = n.passed in
      let v = w.done i (omega arith) w.after in
      let z = w.sound i (omega arith) w.after in
      let e : (line_at ls i).depth ≡ (line_at ls at).depth + 1 = omega (arith, c.next h) in
      rw v
      (record {
        passed = step c.passed u w;
        next = λ q. omega (arith, n.ends q);
        whole =
            sym (gather_child wrap ls (line_at ls at).depth (record { est = estimate sum most 0; count = children }) i r w.after w.within e w.deeper)
            ∙ c.whole;
        few = omega (arith, c.few, w.after);
        small = omega (arith, n.small, c.small);
        least_size = omega (arith, z.least_size, c.least_size);
      })

  pub cell_fits : {c : List Estimate} {sum most children i : ℕ} → Sheet ls → CellLoop wrap ls b c at sum most children i → (sum ≤ max_size) × (children ≤ 4095)
  cell_fits {sum = sum} {i = i} w c = (fits w (at + 1) i sum c.passed.within c.small, omega (arith, c.few, c.passed.within, w.short))

  pub cell_end : {c : List Estimate} {sum most children i : ℕ} → CellLoop wrap ls b c at sum most children i → Ends ls (line_at ls at).depth i
      → CellPost wrap ls b c at (record { after = i; size = sum; least = most; children = children })
  cell_end {sum = sum} {most = most} {children = children} {i = i} c e = record {
    passed = c.passed;
    ends = e;
    held = sym (gather_stop wrap ls (line_at ls at).depth (record { est = estimate sum most 0; count = children }) i e) ∙ c.whole;
    few = c.few;
    small = c.small;
    least_size = c.least_size;
  }

-- a line that `node` takes and that is neither leaf nor table
pub plain_holder : {l read : NodeRecord} → read ≡ l → Plain l → is_leaf read.kind ≡ false → (kind_number read.kind ≡ table_kind → ⊥) → Holder l
plain_holder f p l t = record {
  leaf = rw (← f) l;
  table = rw (← f) t;
  body = λ e. true≢false (rw e at p);
  row = λ e. true≢false (rw e at p);
}

-- a leaf is sound, and no larger than its weight
leaf_sound : (wrap : ℕ) (l : NodeRecord) → ((leaf_of wrap l).least ≤ (leaf_of wrap l).size) × ((leaf_of wrap l).size ≤ l.own + 1)
unfolding leaf_of
leaf_sound wrap l = go (has_text l.kind) (eqb (kind_number l.kind) break_kind)
  where
    text : Estimate
    text = estimate l.own (min l.own wrap) 0

    go : (t b : Bool) → ((cond t text (cond b (estimate 1 1 0) none)).least ≤ (cond t text (cond b (estimate 1 1 0) none)).size)
        × ((cond t text (cond b (estimate 1 1 0) none)).size ≤ l.own + 1)
    go true b = omega arith
    go false true = omega arith
    go false false = omega arith

-- a line over a part adds at most 13 to it
holder_sound : (l : NodeRecord) (p : Part) → Numbered l p.children → p.least ≤ p.size
    → ((holder_of l (held_of p)).least ≤ (holder_of l (held_of p)).size) × ((holder_of l (held_of p)).size ≤ p.size + 13)
unfolding holder_of
holder_sound l p n h = go (eqb (kind_number l.kind) link_kind)
  where
    link : Estimate
    link = estimate (p.size + 5) (max p.least 5) 0

    other : Estimate
    other = estimate (p.size + prefix_of l p.children) (p.least + prefix_of l p.children) (prefix_of l p.children)

    go : (t : Bool) → ((cond t link other).least ≤ (cond t link other).size) × ((cond t link other).size ≤ p.size + 13)
    go true = omega arith
    go false = omega (arith, prefix_small l p.children n)

module _ {wrap : ℕ} {ls : List NodeRecord} {b : List Estimate} {at : ℕ} (sheet : Sheet ls) (within : at < length ls) where
  -- a line's own store, with an estimate e that its weight bears
  pub meets : {c c' : List Estimate} {e : Estimate} {r : ℕ} → Passed ls (done_of wrap ls) b c at (at + 1) r → Ends ls (line_at ls at).depth r
      → e ≡ est_at (done_of wrap ls) at → e.size + weight ls at ≤ weight ls r → e.least ≤ e.size → c' ≡ set c at e
      → NodeMeets wrap ls b c' at r
  meets {e = e} {r = r} p t f m l s =
      rw s
      (record {
        passed = stored p f (record { small = fits sheet at r e.size p.within m; least_size = l });
        ends = t;
        small = rw (← f) m;
      })

  pub leaf_meets : {c' : List Estimate} {l : NodeRecord} {e : Estimate} → length ls ≤ length b → l ≡ line_at ls at → is_leaf l.kind ≡ true → e ≡ leaf_of wrap l → c' ≡ set b at e
      → NodeMeets wrap ls b c' at (at + 1)
  leaf_meets {l = l} {e = e} sized t k f s =
      let z = leaf_sound wrap l in
      let x : e.least ≤ e.size = rw f z.0 in
      let g : e.size ≤ (line_at ls at).own + 1 = rw (f, ← t) z.1 in
      let a : is_leaf (line_at ls at).kind ≡ true = rw (← t) k in
      let y : e ≡ est_at (done_of wrap ls) at = f ∙ ap (leaf_of wrap) t ∙ leaf_est wrap ls at within a in
      meets (begin (done_of wrap ls) sized within) (λ h. childless a h (dec_lt (line_at ls at).depth (line_at ls (at + 1)).depth)) y (omega (arith, weight_more ls at)) x s
    where
      childless : is_leaf (line_at ls at).kind ≡ true → at + 1 < length ls → Dec ((line_at ls at).depth < (line_at ls (at + 1)).depth)
          → (line_at ls (at + 1)).depth ≤ (line_at ls at).depth
      childless a h (no u) = omega arith
      childless a h (yes u) =
          let p = may sheet at (at + 1) (record {
            before = omega arith;
            within = h;
            deeper = omega (arith, sheet.step at h);
            between = λ k p q. absurd (omega arith);
          }) in
          absurd (true≢false (sym a ∙ p.holder))

  -- what `holder` takes
  pub holder_ready : {c : List Estimate} {r : Part} {l : NodeRecord} → l ≡ line_at ls at → CellPost wrap ls b c at r → Numbered l r.children × Fitting r
  holder_ready {r = r} t m = (
    rw t
        (record {
          rank_low = sheet.rank_low at;
          rank_high = sheet.rank_high at;
          start = sheet.start at;
          few = omega (arith, m.few, m.passed.within, sheet.short);
        }),
    record {
      size = omega (arith, fits sheet (at + 1) r.after r.size m.passed.within m.small);
      least_size = m.least_size;
    },
  )

  pub holder_meets : {c c' : List Estimate} {r : Part} {l : NodeRecord} {e : Estimate} → l ≡ line_at ls at → Holder (line_at ls at) → CellPost wrap ls b c at r
      → e ≡ holder_of l (held_of r) → c' ≡ set c at e → NodeMeets wrap ls b c' at r.after
  holder_meets {r = r} {l = l} {e = e} t k m f s =
      let z = holder_sound l r (holder_ready t m).0 m.least_size in
      let x : e.least ≤ e.size = rw f z.0 in
      let g : e.size ≤ r.size + 13 = rw f z.1 in
      let y : e ≡ est_at (done_of wrap ls) at
      = f ∙ ap (λ (a : NodeRecord). holder_of a (held_of r)) t ∙ ap (λ (h : Children). holder_of (line_at ls at) h) m.held ∙ holder_est wrap ls at within k in
      meets m.passed m.ends y (omega (arith, m.small, weight_more ls at)) x s
