-- `joined_tables::lay_out` meets its contract: the joined grid can be laid out in the front of the slices, and what is laid out there are its boxes, by the
-- laws of Layable.
use mathlib.Core.Path.{sym}
use lib.Seq.{length-take-le}
use Rattle.joined_tables.proofs.Layable.{joined_within, column_in, x_in, wide_in, joined_layable, joined_laid}
use Rattle.joined_tables.proofs.lay_out.Goals as goal

pub records-requires : goal.records-requires
records-requires c = joined_within c.args.t.lines.now c.args.t.left c.args.t.right c.make.ensures c.in_ok-counts.was

pub slice_bounds-lay-end : goal.slice_bounds-lay-end
slice_bounds-lay-end c = column_in c.args.t.lines.now c.args.t.left c.args.t.right c.make.ensures c.in_ok-counts.was c.requires.layout_capacity

pub slice_bounds-lay-end-2 : goal.slice_bounds-lay-end-2
slice_bounds-lay-end-2 c = sym (length-take-le c.in_ok-counts.counts.columns c.args.column.now (column_in c.args.t.lines.now c.args.t.left c.args.t.right c.make.ensures c.in_ok-counts.was c.requires.layout_capacity))

pub slice_bounds-lay-end-3 : goal.slice_bounds-lay-end-3
slice_bounds-lay-end-3 c = x_in c.args.t.lines.now c.args.t.left c.args.t.right c.make.ensures c.in_ok-counts.was c.requires.layout_capacity

pub slice_bounds-lay-end-4 : goal.slice_bounds-lay-end-4
slice_bounds-lay-end-4 c = sym (length-take-le c.in_ok-counts.counts.entries c.args.x.now (x_in c.args.t.lines.now c.args.t.left c.args.t.right c.make.ensures c.in_ok-counts.was c.requires.layout_capacity))

pub slice_bounds-lay-end-5 : goal.slice_bounds-lay-end-5
slice_bounds-lay-end-5 c = wide_in c.args.t.lines.now c.args.t.left c.args.t.right c.make.ensures c.in_ok-counts.was c.requires.layout_capacity

pub slice_bounds-lay-end-6 : goal.slice_bounds-lay-end-6
slice_bounds-lay-end-6 c = sym (length-take-le c.in_ok-counts.counts.entries c.args.wide.now (wide_in c.args.t.lines.now c.args.t.left c.args.t.right c.make.ensures c.in_ok-counts.was c.requires.layout_capacity))

pub lay-laid-requires : goal.lay-laid-requires
lay-laid-requires c =
    joined_layable c.args.t.lines.now c.args.t.left c.args.t.right c.make.ensures c.in_ok-counts.was c.requires.layout_capacity c.args.t.known c.requires.measured c.records.ensures

pub returns : goal.returns
returns c =
    joined_laid c.args.t.lines.now c.args.t.left c.args.t.right c.make.ensures c.in_ok-counts.was c.requires.layout_capacity c.args.t.known c.requires.measured c.records.ensures c.lay-laid.ensures
    c.lay-laid.auto.column c.lay-laid.auto.x c.lay-laid.auto.wide _ _ _
