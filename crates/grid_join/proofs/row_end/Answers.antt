-- `grid_join::row_end` meets its contract: the last entry's end, or 0 where there is none.
use mathlib.Core.Path.{◌≡◌}
use mathlib.Core.List.{List}
use Prim.Native.Nat.{◌-◌, ◌≤◌, ◌<◌}
use native.Mathlib.Omega.{arith}
use lib.ListN.{length, get_or}
use denote.Ref.{Bor}
use Rattle.std.specs.Prelude.{Option, Some, None}
use Rattle.std.specs.Slice.{IsGetResult}
use Rattle.common.proofs.All.{at_all}
use Rattle.records.specs.inner.NodeRecord.{no_entry}
use Rattle.records.specs.declared.Entry.{Entry}
use Rattle.grid_join.specs.inner.Reading.{Narrow}
use Rattle.grid_join.proofs.Putting.{end_last, end_none}
use Rattle.grid_join.proofs.row_end.Goals as goal
use Rattle.grid_join.proofs.row_end.Goals.{In-Some}

-- what is told of the last entry, if there is one, and if there is none
last_some : (xs : List Entry) {r : Option (Bor Entry)} {e : Bor Entry} → IsGetResult xs 0 (length xs - 1) r → r ≡ Some e
    → (0 < length xs) × (e.now ≡ get_or xs (length xs - 1) no_entry)
last_some xs {r} {e} t q =
    let s : IsGetResult xs 0 (length xs - 1) (Some e) = rw q at t in
    (s.3.0, s.4 (omega arith) no_entry)

last_none : (xs : List Entry) {r : Option (Bor Entry)} → IsGetResult xs 0 (length xs - 1) r → r ≡ None → length xs ≤ 0
last_none xs t q = let s : IsGetResult xs 0 (length xs - 1) None = rw q at t in s.3

there : (c : In-Some) → (0 < length c.args.row.now) × (c.in-Some.e.now ≡ get_or c.args.row.now (length c.args.row.now - 1) no_entry)
there c = last_some c.args.row.now c.last.ensures.item c.in-Some.is

pub overflow_add-result : goal.overflow_add-result
overflow_add-result c =
    let t = there c in
    let w : Narrow c.in-Some.e.now = rw t.1 (at_all Narrow no_entry c.args.row.now (length c.args.row.now - 1) c.requires (omega (arith, t.0))) in
    omega (arith, w)

pub returns-in-Some : goal.returns-in-Some
returns-in-Some c = let t = there c in rw t.1 (end_last 0 c.args.row.now t.0)

pub returns-in-None : goal.returns-in-None
returns-in-None c = end_none c.args.row.now (last_none c.args.row.now c.last.ensures.item c.in-None.is)
