-- `grid_build::make_sound` meets its contract: the lines after the table's are none of it, and the lines up to its end stand in the first places.
use Rattle.grid_build.proofs.Ending.{held_front, ready_front}
use Rattle.grid_build.proofs.make_sound.Goals as goal

pub make_within-requires : goal.make_within-requires
make_within-requires c = ready_front c.end_of-end.ensures c.requires

pub returns : goal.returns
returns c = rw (held_front c.end_of-end.ensures) at c.make_within.ensures
