-- `call_joined::speaking::owner_of` meets its contract: the records of both tables are those of their grids.
use Rattle.grid_build.proofs.Cut.{made_within}
use Rattle.call_joined.proofs.speaking.owner_of.Goals as goal

pub records-requires : goal.records-requires
records-requires c = made_within c.make-a.ensures

pub records-requires-2 : goal.records-requires-2
records-requires-2 c = made_within c.make-b.ensures
