-- `find_past` meets its contract: the number of the next position is one more, since p is an edge; any other is what `find` gives.
use mathlib.Core.Path.{◌≡◌, sym, ap, ◌∙◌}
use Prim.Native.Nat.{ℕ, ◌+◌}
use native.Mathlib.Omega.{arith}
use Rattle.column_edges.specs.Edges.{count_below}
use Rattle.column_edges.specs.inner.Edges.{is_edge}
use Rattle.column_edges.proofs.Counts.{count_le, count_next}
use Rattle.column_edges.proofs.Words.{is_missing, is_at}
use Rattle.column_edges.proofs.Numbers.find_past.Goals as goal

pub returns-then-not-is_edge : goal.returns-then-not-is_edge
returns-then-not-is_edge c = is_missing _ _ (sym c.is_edge.ensures ∙ c.if-not-is_edge.true)

pub overflow_add-result : goal.overflow_add-result
overflow_add-result c = omega (arith, c.requires.n_value, c.requires.s_bound, count_le (is_edge c.args.self.now.words) c.args.p)

pub returns : goal.returns
returns c =
    let f = is_edge c.args.self.now.words in
    let one : c.args.s ≡ 1 = omega arith in
    is_at _ _ _ (sym c.is_edge.ensures ∙ c.if-not-is_edge.false)
    (ap (λ (n : ℕ). n + 1) c.requires.n_value ∙ count_next f c.args.p c.requires.p_value
    ∙ ap (λ (d : ℕ). count_below f (c.args.p + d)) (sym one))
