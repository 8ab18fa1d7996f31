-- `call_layout::read::layout_of` meets its contract: what is arranged is the layout.
use Rattle.table_layout.proofs.LayoutFitted.{layout_capacity}
use Rattle.call_layout.proofs.Found.{layout_made, table_few}
use Rattle.call_layout.proofs.read.layout_of.Goals as goal

pub arrange-a-requires : goal.arrange-a-requires
arrange-a-requires c = record {
  grid_capacity = c.requires.grid_capacity;
  layout_capacity = layout_capacity c.args.t.known.sound c.requires.width_le_max_size c.requires.out_capacity;
}

pub answer_of-requires : goal.answer_of-requires
answer_of-requires c = table_few c.args.t c.arrange-a.ensures

pub returns : goal.returns
returns c = rw c.answer_of.ensures (layout_made c.args.t c.arrange-a.ensures)
