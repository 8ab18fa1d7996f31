-- `joined_tables::make` meets its contract: the records of both tables are those of grids that can be joined.
use Rattle.grid_build.proofs.Cut.{made_within}
use Rattle.joined_tables.proofs.Grids.{join_ready}
use Rattle.joined_tables.proofs.make.Goals as goal

pub records-requires : goal.records-requires
records-requires c = made_within c.make-a.ensures

pub records-requires-2 : goal.records-requires-2
records-requires-2 c = made_within c.make-b.ensures

pub join-requires : goal.join-requires
join-requires c = join_ready c.requires.tables c.make-a.ensures c.make-b.ensures c.records.ensures c.records-2.ensures c.requires.record_capacity
