-- The walk from a sheet's first line down: which width each line gets. Place k holds line k + 1.
use Rattle.common.specs.declared.Reason.TheVariants.{TooNarrow}
use Rattle.std.specs.Prelude.{Option, Some, None, Bool, false, cond, ◌&&◌, ◌||◌, List, [], ◌∷◌, ◌++◌, map, ℕ, zero, suc, ◌+◌, ◌-◌, max, eqb, ltb, length, get_or}
use Rattle.common.specs.Refusals.{Check, check}
use Rattle.text.specs.declared.Estimate.{Estimate}
use Rattle.kinds.specs.Kinds.{kind_number, head_kind, quote_kind, ul_kind, ol_kind, dd_kind, cell_kind}
use Rattle.records.specs.NodeRecord.{no_node}
use Rattle.records.specs.declared.NodeRecord.{NodeRecord}
use Rattle.resolved_rows.specs.Listed.{table_rows}
use Rattle.grid.specs.Grid.{shown_line, grid_of, columns_of, entries_of}
use Rattle.estimates.specs.Estimates.{none, estimates}
use Rattle.placement.specs.Place.{Placed}
use Rattle.table_layout.specs.Laying.{places_in}
use Rattle.table_layout.specs.Arranging.{boxes_at}
use Rattle.kinds.specs.declared.Kind.{Kind}

-- ---- what a line passes on

-- head, quote, ul, ol and dd take off their prefix
unfoldable pub takes_off : Kind → Bool
takes_off kind = eqb (kind_number kind) head_kind || eqb (kind_number kind) quote_kind || eqb (kind_number kind) ul_kind || eqb (kind_number kind) ol_kind || eqb (kind_number kind) dd_kind

-- `width_minus`: what a line passes on to its children of the width that it has. A line that takes off its prefix passes on the rest, but no
-- less than its own least width without the prefix; any other line passes on what it has. What has no width passes on none.
unfoldable pub passed_on : Kind → Estimate → Option ℕ → Option ℕ
passed_on kind e None = None
passed_on kind e (Some w) = Some (cond (takes_off kind) (max (w - e.prefix) (e.least - e.prefix)) w)

-- it reports too narrow: the rest is less than that
unfoldable pub too_narrow : Kind → Estimate → Option ℕ → Bool
too_narrow kind e None = false
too_narrow kind e (Some w) = takes_off kind && ltb (w - e.prefix) (e.least - e.prefix)

-- ---- what a table gives its cells

-- a printed cell has its width, a missing one none
abbrev pub printed : ℕ → Option ℕ
printed w = cond (eqb w 0) None (Some w)

-- that of a line, by the lines that entries show and the entries' widths
unfoldable pub printed_in : List ℕ → List ℕ → ℕ → Option ℕ
printed_in [] vs line = None
printed_in (c ∷ cs) [] line = None
printed_in (c ∷ cs) (v ∷ vs) line = cond (eqb c line) (printed v) (printed_in cs vs line)

abbrev pub width_in : Placed → ℕ
width_in p = p.width

-- the width of the cell at place i in the table at place t that has this width; none if the cell is missing, or the table has none
unfoldable pub cell_width : (wrap raw : ℕ) (ks : List NodeRecord) (t : ℕ) → Option ℕ → ℕ → Option ℕ
cell_width wrap raw ks t None i = None
cell_width wrap raw ks t (Some w) i =
    printed_in (map shown_line (entries_of (grid_of (table_rows ks t))))
    (map width_in (places_in (columns_of (table_rows ks t)) (boxes_at wrap ks t) raw w)) (i + 1)

-- ---- the walk

-- what the nearest line of depth d before place i gives; none if there is no such line
unfoldable pub from_nearest : (ℕ → Option ℕ) → List NodeRecord → ℕ → ℕ → Option ℕ
from_nearest gives ks d zero = None
from_nearest gives ks d (suc i) = cond (eqb (get_or ks i no_node).depth d) (gives i) (from_nearest gives ks d i)

-- what the line at place p passes on, where the lines have the widths ws
abbrev pub passed_by : (wrap : ℕ) (ks : List NodeRecord) → List (Option ℕ) → ℕ → Option ℕ
passed_by wrap ks ws p = passed_on (get_or ks p no_node).kind (get_or (estimates wrap ks) p none) (get_or ws p None)

-- the width of the line at place i, where the lines before it have the widths ws: the first line has the page's; a cell its width in its table,
-- which is the nearest line three less deep; any other what its parent passes on, the nearest line one less deep
unfoldable pub line_width : (wrap raw root : ℕ) (ks : List NodeRecord) → List (Option ℕ) → ℕ → Option ℕ
line_width wrap raw root ks ws i =
    cond (eqb i 0) (Some root)
    (cond (eqb (kind_number (get_or ks i no_node).kind) cell_kind)
    (from_nearest (λ t. cell_width wrap raw ks t (get_or ws t None) i) ks ((get_or ks i no_node).depth - 3) i)
    (from_nearest (passed_by wrap ks ws) ks ((get_or ks i no_node).depth - 1) i))

-- one line more
abbrev pub one_more : (wrap raw root : ℕ) (ks : List NodeRecord) → List (Option ℕ) → ℕ → List (Option ℕ)
one_more wrap raw root ks ws i = ws ++ (line_width wrap raw root ks ws i ∷ [])

-- the widths of the first n lines, and of all
unfoldable pub walk_to : (wrap raw root : ℕ) (ks : List NodeRecord) → ℕ → List (Option ℕ)
walk_to wrap raw root ks zero = []
walk_to wrap raw root ks (suc n) = one_more wrap raw root ks (walk_to wrap raw root ks n) n

abbrev pub walk : (wrap raw root : ℕ) (ks : List NodeRecord) → List (Option ℕ)
walk wrap raw root ks = walk_to wrap raw root ks (length ks)

-- ---- 12

-- the line at place i is too narrow
abbrev pub narrow_at : (wrap raw root : ℕ) (ks : List NodeRecord) → ℕ → Bool
narrow_at wrap raw root ks i = too_narrow (get_or ks i no_node).kind (get_or (estimates wrap ks) i none) (get_or (walk wrap raw root ks) i None)

-- the n lines from place i on, in turn, if overflow is off
unfoldable pub narrow_from : (wrap raw root overflow : ℕ) (ks : List NodeRecord) → ℕ → ℕ → List Check
narrow_from wrap raw root overflow ks zero i = []
narrow_from wrap raw root overflow ks (suc n) i =
    check (eqb overflow 0 && narrow_at wrap raw root ks i) TooNarrow (i + 1) ∷ narrow_from wrap raw root overflow ks n (i + 1)

abbrev pub narrow_checks : (wrap raw root overflow : ℕ) (ks : List NodeRecord) → List Check
narrow_checks wrap raw root overflow ks = narrow_from wrap raw root overflow ks (length ks) 0

-- ---- as numbers

-- whether there is a width, and which
unfoldable pub given_number : Option ℕ → ℕ
given_number None = 0
given_number (Some w) = 1

unfoldable pub width_number : Option ℕ → ℕ
width_number None = 0
width_number (Some w) = w
