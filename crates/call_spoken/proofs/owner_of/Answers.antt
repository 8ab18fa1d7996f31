-- `call_spoken::owner_of` meets its contract: the records are those of the table's grid.
use Rattle.grid_build.proofs.Cut.{made_within}
use Rattle.call_spoken.proofs.owner_of.Goals as goal

pub records-grid-requires : goal.records-grid-requires
records-grid-requires c = made_within c.make-counts.ensures
