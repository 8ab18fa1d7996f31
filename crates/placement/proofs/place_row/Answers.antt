-- `placement::place_row` meets its contract: the arm tells the way; sideways a row that tiles the columns has what is asked for, and down the two
-- figures that fill the slices are those of every entry.
use Rattle.placement.proofs.RowLoop.{placed_side, placed_down}
use Rattle.placement.proofs.place_row.Goals as goal

pub returns-in-Sideways : goal.returns-in-Sideways
returns-in-Sideways c = placed_side _ _ _ _ _ _ c.in-Sideways.is c.place_side_row.ensures

pub returns-in-Down : goal.returns-in-Down
returns-in-Down c =
    let d = c.place_down_row.ensures in
    placed_down _ _ _ _ _ c.requires _ _ _ c.in-Down.is d.x_after d.wide_after
