-- `table_layout::arrange` meets its contract: the grid that is made can be laid out, and what is laid out is the table of the definition, by the laws of
-- Grids.
use Rattle.grid_build.proofs.Cut.{made_within}
use Rattle.table_layout.proofs.Grids.{made_layable, made_laid}
use Rattle.table_layout.proofs.arrange.Goals as goal

pub records-requires : goal.records-requires
records-requires c = made_within c.make-counts.ensures

pub lay-laid-requires : goal.lay-laid-requires
lay-laid-requires c = made_layable c.args.t.known c.make-counts.ensures c.records.ensures c.requires.layout_capacity

pub returns : goal.returns
returns c =
    made_laid c.args.t.known c.make-counts.ensures c.records.ensures c.requires.layout_capacity c.lay-laid.ensures
    c.lay-laid.auto.column c.lay-laid.auto.x c.lay-laid.auto.wide _ _ _
