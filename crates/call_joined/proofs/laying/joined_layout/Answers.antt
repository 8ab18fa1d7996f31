-- `call_joined::laying::joined_layout` meets its contract: what is found stands in the front of the lent buffers, which are long enough where something is
-- found, and the rest of each is cleared.
use Rattle.std.proofs.Common.{rules}
use native.Mathlib.Omega.{arith}
use Rattle.std.specs.Prelude.{◌∷◌}
use Rattle.sheet_figures.specs.inner.Early.{early}
use Rattle.arguments.specs.inner.Asked.{verdict_in}
use Rattle.call_layout.specs.inner.Found.{columns_in, entries_in}
use Rattle.call_layout.proofs.Answers.{layout_opened, layout_fit, layout_rooms, layout_told, layout_left}
use Rattle.call_joined.specs.Joined.{joined_boxes_at, joined_layout_of, two_checks}
use Rattle.call_joined.specs.inner.Found.{JoinedLayoutFound}
use Rattle.call_joined.proofs.laying.joined_layout.Goals as goal
use Rattle.call_joined.proofs.laying.joined_layout.Goals.{After-find_layout-found}

pub find_layout-found-requires : goal.find_layout-found-requires
find_layout-found-requires c =
    let a = c.args in
    layout_fit a.wrap a.raw a.width _ a.column.now a.x.now a.wide.now c.of_layout-asked.ensures.verdict

found : (c : After-find_layout-found)
    → JoinedLayoutFound (early (verdict_in c.of_layout-asked.result) ∷ two_checks c.args.sheet.now c.args.left c.args.right) c.args.sheet.now c.args.left c.args.right c.args.wrap c.args.raw
    c.args.width c.find_layout-found.result c.find_layout-found.new.column c.find_layout-found.new.x c.find_layout-found.new.wide
found c =
    layout_opened _ _ (joined_boxes_at c.args.sheet.now c.args.left c.args.right) c.args.wrap c.args.raw c.args.width c.of_layout-asked.ensures.asks c.find_layout-found.ensures

pub zero_rest-requires : goal.zero_rest-requires
unfolding columns_in
zero_rest-requires c =
    grind (arith, (layout_rooms c.args.wrap c.args.raw c.args.width c.of_layout-asked.ensures.verdict (found (goal.at.zero_rest-requires c).After-find_layout-found)).0, c.find_layout-found.auto.column)

pub zero_rest-requires-2 : goal.zero_rest-requires-2
unfolding entries_in
zero_rest-requires-2 c =
    grind (arith, (layout_rooms c.args.wrap c.args.raw c.args.width c.of_layout-asked.ensures.verdict (found (goal.at.zero_rest-requires-2 c).After-find_layout-found)).1, c.find_layout-found.auto.x)

pub zero_rest-requires-3 : goal.zero_rest-requires-3
unfolding entries_in
zero_rest-requires-3 c =
    grind (arith, (layout_rooms c.args.wrap c.args.raw c.args.width c.of_layout-asked.ensures.verdict (found (goal.at.zero_rest-requires-3 c).After-find_layout-found)).2, c.find_layout-found.auto.wide)

pub returns : goal.returns
unfolding columns_in entries_in joined_layout_of
returns c =
    let f = c.find_layout-found in
    let t = found (goal.at.returns c).After-find_layout-found in
    let l =
    layout_left c.args.wrap c.args.raw c.args.width c.of_layout-asked.ensures.verdict t (search rules) (search rules)
    f.auto.column f.auto.x f.auto.wide c.zero_rest.ensures c.zero_rest-2.ensures c.zero_rest-3.ensures in
    record {
      answer_is = layout_told _ _ _ c.args.wrap _ _ _ _ _ c.of_layout-asked.ensures.verdict t;
      left = record { widths = l.widths; xs = l.xs; wides = l.wides; promised = l.promised };
    }
