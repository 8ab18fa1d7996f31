-- `grid_build::make_in` meets its contract: the rows by positions stand in the records, and numbered they are the grid.
use Rattle.grid_build.proofs.Making.{ready, made}
use Rattle.grid_build.proofs.make_in.Goals as goal

pub placed_grid-columns-requires : goal.placed_grid-columns-requires
placed_grid-columns-requires c = ready c.args.entries.now c.args.rows.now c.requires.table_ready _ _ c.place_table-placed.auto.entries c.place_table-placed.auto.rows c.place_table-placed.ensures

pub returns : goal.returns
returns c = made c.args.entries.now c.args.rows.now c.requires.table_ready _ _ c.place_table-placed.auto.entries c.place_table-placed.auto.rows c.place_table-placed.ensures c.placed_grid-columns.ensures
