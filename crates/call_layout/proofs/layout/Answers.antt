-- `call_layout::layout` meets its contract: what is found stands in the front of the lent buffers, which are long enough where something is found,
-- and the rest of each is cleared.
use Rattle.std.proofs.Common.{rules}
use native.Mathlib.Omega.{arith}
use Rattle.std.specs.Prelude.{◌∷◌, Some}
use Rattle.sheet_load.specs.Opening.{after_reading, open_checks}
use Rattle.sheet_figures.specs.Figures.{boxes_at}
use Rattle.sheet_figures.specs.inner.Early.{early}
use Rattle.arguments.specs.inner.Asked.{verdict_in}
use Rattle.call_layout.specs.Layout.{laid_out_of}
use Rattle.call_layout.specs.inner.Found.{columns_in, entries_in, LayoutFound}
use Rattle.call_layout.proofs.Answers.{layout_opened, layout_fit, layout_rooms, layout_told, layout_left}
use Rattle.call_layout.proofs.layout.Goals as goal
use Rattle.call_layout.proofs.layout.Goals.{After-find_layout-found}

found : (c : After-find_layout-found)
    → LayoutFound (early (verdict_in c.of_layout-asked.result) ∷ open_checks (Some c.args.line) c.args.sheet.now) c.args.sheet.now c.args.line c.args.wrap c.args.raw c.args.width
    c.find_layout-found.result c.find_layout-found.new.column c.find_layout-found.new.x c.find_layout-found.new.wide
found c = layout_opened _ _ (boxes_at c.args.sheet.now c.args.line) c.args.wrap c.args.raw c.args.width c.of_layout-asked.ensures.asks c.find_layout-found.ensures

pub find_layout-found-requires : goal.find_layout-found-requires
find_layout-found-requires c =
    let a = c.args in
    layout_fit a.wrap a.raw a.width _ a.column.now a.x.now a.wide.now c.of_layout-asked.ensures.verdict

pub zero_rest-requires : goal.zero_rest-requires
unfolding columns_in
zero_rest-requires c = grind (arith, (layout_rooms c.args.wrap c.args.raw c.args.width c.of_layout-asked.ensures.verdict (found (goal.at.zero_rest-requires c).After-find_layout-found)).0, c.find_layout-found.auto.column)

pub zero_rest-requires-2 : goal.zero_rest-requires-2
unfolding entries_in
zero_rest-requires-2 c = grind (arith, (layout_rooms c.args.wrap c.args.raw c.args.width c.of_layout-asked.ensures.verdict (found (goal.at.zero_rest-requires-2 c).After-find_layout-found)).1, c.find_layout-found.auto.x)

pub zero_rest-requires-3 : goal.zero_rest-requires-3
unfolding entries_in
zero_rest-requires-3 c = grind (arith, (layout_rooms c.args.wrap c.args.raw c.args.width c.of_layout-asked.ensures.verdict (found (goal.at.zero_rest-requires-3 c).After-find_layout-found)).2, c.find_layout-found.auto.wide)

pub returns : goal.returns
unfolding columns_in entries_in laid_out_of after_reading
returns c =
    let f = c.find_layout-found in
    let l =
    layout_left c.args.wrap c.args.raw c.args.width c.of_layout-asked.ensures.verdict (found (goal.at.returns c).After-find_layout-found) (search rules) (search rules)
    f.auto.column f.auto.x f.auto.wide c.zero_rest.ensures c.zero_rest-2.ensures c.zero_rest-3.ensures in
    record {
      answer = layout_told _ _ _ c.args.wrap _ _ _ _ _ c.of_layout-asked.ensures.verdict (found (goal.at.returns c).After-find_layout-found);
      left = record { widths = l.widths; xs = l.xs; wides = l.wides; promised = l.promised };
    }
