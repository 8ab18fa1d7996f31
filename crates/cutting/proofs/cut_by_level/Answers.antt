-- `cutting::cut_by_level` meets its contract. What is written are the widths at the level and the bound; these fill the room, so they are what the
-- cutting leaves.
use mathlib.Core.Path.{◌∙◌}
use Rattle.cutting.proofs.Fill.{filled_cut}
use Rattle.cutting.proofs.cut_by_level.Goals as goal

pub returns : goal.returns
returns c =
    let level = c.level-level.result in
    let bound = c.bound-bound in
    c.fill_widths.ensures
    ∙ filled_cut c.args.leasts.now c.args.wide.now c.args.capacity level bound.result c.requires.holds_leasts c.requires.room_bound bound.ensures
