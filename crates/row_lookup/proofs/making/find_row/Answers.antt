-- `row_lookup::making::find_row` meets its contract: the records have room for the table's entries, rows and columns, and what is laid out is told.
use mathlib.Core.Path.{sym}
use native.Mathlib.Omega.{arith}
use lib.Seq.{length-take-le}
use Rattle.grid_build.proofs.Cut.{made_within}
use Rattle.row_lookup.proofs.Made.{arrange_capacity, spot_made}
use Rattle.row_lookup.proofs.Read.{room_still}
use Rattle.row_lookup.proofs.making.find_row.Goals as goal

pub arrange-a-requires : goal.arrange-a-requires
arrange-a-requires c = record {
  grid_capacity = c.requires.grid_capacity;
  layout_capacity = arrange_capacity c.args.t (omega (arith, c.args.settings.width_bound)) c.requires.max_lines_in_bounds c.requires.places_capacity;
}

pub returns : goal.returns
returns c = spot_made c.args.t {a = c.arrange-a.result} c.arrange-a.ensures (room_still c.arrange-a.auto.x c.arrange-a.auto.wide c.requires.places_capacity) c.row_in.ensures

pub slice_bounds-row_in-end : goal.slice_bounds-row_in-end
slice_bounds-row_in-end c = (made_within c.arrange-a.ensures.made).1

pub slice_bounds-row_in-end-2 : goal.slice_bounds-row_in-end-2
slice_bounds-row_in-end-2 c = sym (length-take-le _ _ (made_within c.arrange-a.ensures.made).1)
