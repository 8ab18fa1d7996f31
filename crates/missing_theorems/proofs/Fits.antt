-- No line is wider at the least than in full, whichever lines these are: from the last line back, a text's least width is the smaller of its size and
-- wrap, children add up their sizes and keep the largest least width, and in each column of a table the largest is at most the sum.
use mathlib.Core.Bool.{Bool, true, false, cond, ◌||◌}
use mathlib.Core.List.{List, [], ◌∷◌, map}
use Prim.Native.Nat.{ℕ, suc, ◌+◌, ◌-◌, ◌≤◌}
use native.Mathlib.Omega.{arith}
use lib.Dec.{leb, eqb}
use lib.ListN.{get_or}
use Rattle.common.specs.Lists.{sum, All}
use Rattle.common.proofs.All.{at_any}
use Rattle.text.specs.Text.{text_estimate}
use Rattle.text.specs.declared.Estimate.{Estimate}
use Rattle.kinds.specs.Kinds.{kind_number, has_text, is_leaf, link_kind, break_kind, table_kind, body_kind, row_kind}
use Rattle.records.specs.declared.NodeRecord.{NodeRecord}
use Rattle.columns.specs.Boxes.{Box, flat}
use Rattle.columns.specs.inner.Boxes.{Measures}
use Rattle.columns.specs.Columns.{size_of, least_of, sums, largest}
use Rattle.resolved_rows.specs.Cells.{rows_under}
use Rattle.grid.specs.Grid.{Entry, grid_of, columns_of, entries_of}
use Rattle.estimates.specs.Estimates.{MeasuredNode, unmeasured, estimate, none, add, Children, no_children, with_child, gather, leaf_of, prefix_of, prefixed, holder_of, box_of, box_rows, tabled, estimate_of, measured}
use Rattle.estimates.proofs.Fillers.{flat_boxes}
use Rattle.estimates.proofs.Tabling.{leasts_sums}
use Rattle.table_layout.specs.inner.Grids.{Fits}

-- an estimate whose least width is no more than its size
abbrev Fit : Estimate → Type 0
Fit e = e.least ≤ e.size

-- ---- a table

module _ (t : ℕ) (rest : List MeasuredNode) (f : All Fits rest) where
  box_fits : (e : Entry) → (box_of t rest e).least ≤ (box_of t rest e).size
  unfolding box_of
  box_fits e = go e.filler
    where
      go : (b : Bool) → cond b 0 (get_or rest (e.owner - suc t) unmeasured).est.least ≤ cond b 0 (get_or rest (e.owner - suc t) unmeasured).est.size
      go true = omega arith
      go false = at_any Fits unmeasured rest (e.owner - suc t) (omega arith) f

  boxes_measure : (es : List Entry) → Measures (map (box_of t rest) es)
  unfolding Measures
  boxes_measure [] = tt
  boxes_measure (e ∷ es) = (box_fits e, boxes_measure es)

tabled_fits : (n : ℕ) (bs : List Box) → Measures bs → Fit (tabled n bs)
unfolding tabled
tabled_fits n bs m = go (eqb n 0)
  where
    go : (t : Bool) → Fit (cond t none (estimate (sum (sums size_of bs n) + (n - 1)) (sum (largest least_of bs n) + (n - 1)) 0))
    go true = omega arith
    go false = omega (arith, leasts_sums bs n m)

-- ---- leaves and holders

leaf_fits : (wrap : ℕ) (l : NodeRecord) → Fit (leaf_of wrap l)
unfolding leaf_of
leaf_fits wrap l = go (has_text l.kind) (eqb (kind_number l.kind) break_kind)
  where
    go : (a b : Bool) → Fit (cond a (text_estimate wrap l.own) (cond b (estimate 1 1 0) none))
    go true b = omega arith
    go false true = omega arith
    go false false = omega arith

gather_fits : (d : ℕ) (a : Children) (ms : List MeasuredNode) → Fit a.est → All Fits ms → Fit (gather d a ms).est
unfolding gather All
gather_fits d a [] h f = h
gather_fits d a (m ∷ ms) h f = go (leb m.line.depth d) (eqb m.line.depth (d + 1)) (λ b g. gather_fits d b ms g f.1)
  where
    go : (p q : Bool) → ((b : Children) → Fit b.est → Fit (gather d b ms).est) → Fit (cond p a (gather d (cond q (with_child a m) a) ms)).est
    go true q ih = h
    go false true ih = ih (with_child a m) (omega (arith, f.0))
    go false false ih = ih a h

holder_fits : (l : NodeRecord) (c : Children) → Fit c.est → Fit (holder_of l c)
unfolding holder_of
holder_fits l c h = go (eqb (kind_number l.kind) link_kind)
  where
    go : (b : Bool) → Fit (cond b (add c.est (estimate 5 5 0)) (prefixed (prefix_of l c.count) c.est))
    go true = omega arith
    go false = omega arith

-- ---- every line

estimate_fits : (wrap t : ℕ) (l : NodeRecord) (ls : List NodeRecord) (rest : List MeasuredNode) → All Fits rest → Fit (estimate_of wrap t l ls rest)
unfolding estimate_of
estimate_fits wrap t l ls rest f = go (is_leaf l.kind) (eqb (kind_number l.kind) body_kind || eqb (kind_number l.kind) row_kind) (eqb (kind_number l.kind) table_kind)
  where
    n : ℕ
    n = columns_of (rows_under l.depth t ls)

    bs : List Box
    bs = flat (box_rows t rest (grid_of (rows_under l.depth t ls)))

    measure : Measures bs
    measure = rw (flat_boxes t rest (grid_of (rows_under l.depth t ls))) (boxes_measure t rest f (entries_of (grid_of (rows_under l.depth t ls))))

    go : (a b c : Bool) → Fit (cond a (leaf_of wrap l) (cond b none (cond c (tabled n bs) (holder_of l (gather l.depth no_children rest)))))
    go true b c = leaf_fits wrap l
    go false true c = omega arith
    go false false true = tabled_fits n bs measure
    go false false false = holder_fits l (gather l.depth no_children rest) (gather_fits l.depth no_children rest (omega arith) f)

pub measured_fits : (wrap t : ℕ) (ks : List NodeRecord) → All Fits (measured wrap t ks)
unfolding measured All
measured_fits wrap t [] = tt
measured_fits wrap t (l ∷ ls) =
    let f = measured_fits wrap (suc t) ls in
    (estimate_fits wrap t l ls (measured wrap (suc t) ls) f, f)
