-- `estimates::spread::table_figures` meets its contract: the records are those of the grid, which fit.
use Rattle.grid_build.proofs.Cut.{made_within, made_records}
use Rattle.estimates.proofs.Made.{tabulate_ready}
use Rattle.estimates.proofs.spread.table_figures.Goals as goal

pub records-grid-requires : goal.records-grid-requires
records-grid-requires c = made_within c.make-counts.ensures

pub tabulate-requires : goal.tabulate-requires
tabulate-requires c = tabulate_ready c.args.figures.now c.requires (made_records c.make-counts.ensures c.records-grid.ensures)
