-- `find` meets its contract: at an edge it is the lookup by counts, which is the plain one, which is the definition. No number passes the
-- position, so that nothing overflows.
use mathlib.Core.Path.{◌≡◌, sym, ap, ◌∙◌}
use mathlib.Core.Bool.{true}
use Prim.Native.Nat.{ℕ, ◌+◌, ◌/◌}
use native.Mathlib.Omega.{arith}
use lib.ListN.{get_or}
use Rattle.std.specs.Prelude.{Some}
use Rattle.column_edges.specs.inner.Edges.{is_edge}
use Rattle.column_edges.proofs.Words.{is_missing}
use Rattle.column_edges.proofs.Lookup.{counted_plain, plain_edge, counted_at_lem, counted_le}
use Rattle.column_edges.proofs.Numbers.find.Goals as goal
use Rattle.column_edges.proofs.Numbers.find.Goals.{After-below_in_word}

-- past the test the position is an edge
at_edge : (c : After-below_in_word) → is_edge c.args.self.now.words c.args.p ≡ true
at_edge c = sym c.is_edge.ensures ∙ c.if-not-is_edge.false

pub returns-then-not-is_edge : goal.returns-then-not-is_edge
returns-then-not-is_edge c = is_missing _ _ (sym c.is_edge.ensures ∙ c.if-not-is_edge.true)

pub overflow_add-n : goal.overflow_add-n
overflow_add-n c =
    let after : After-below_in_word = (goal.at.overflow_add-n c).After-below_in_word in
    omega (arith, c.below_in_word.ensures, counted_le c.args.self.now.counted c.args.p c.requires (at_edge after), c.requires)

pub returns : goal.returns
returns c =
    let counted = c.args.self.now.counted in
    ap (λ (n : ℕ). Some (get_or c.args.self.now.counts (c.args.p / 64) 0 + n)) c.below_in_word.ensures
    ∙ counted_at_lem _ c.args.self.now.counts c.args.p (at_edge (goal.at.returns c).After-below_in_word)
    ∙ counted_plain counted _ c.requires
    ∙ plain_edge counted.words _ c.requires
