-- `row_lookup::starts::entries_before` meets its contract: the end of a row is where the next one starts, and past the last row all entries stand before.
use mathlib.Core.Path.{◌≡◌, ap, ◌∙◌}
use mathlib.Core.List.{List}
use Prim.Native.Nat.{◌-◌, ◌≤◌, ◌<◌}
use native.Mathlib.Omega.{arith}
use lib.ListN.{length, get_or, take}
use lib.Seq.{get_or-take, length-take-le}
use denote.Ref.{Bor}
use Rattle.std.proofs.Common.{rules}
use Rattle.std.specs.Prelude.{Option, Some, None, MatchOption}
use Rattle.std.specs.Slice.{IsGetResult}
use Rattle.records.specs.inner.NodeRecord.{no_row}
use Rattle.records.specs.declared.RowEnd.{RowEnd}
use Rattle.row_lookup.proofs.RowStarts.{before_none, before_some}
use Rattle.row_lookup.proofs.starts.entries_before.Goals as goal

-- what is told of the last row, by whether there is one
by_last : (xs : List RowEnd) (r : Option (Bor RowEnd)) {P G : Type 0} {Q : Bor RowEnd → Type 0} → IsGetResult xs 0 (length xs - 1) r → MatchOption r P Q
    → (length xs ≤ 0 → P → G) → ((row : Bor RowEnd) → 0 < length xs → row.now ≡ get_or xs (length xs - 1) no_row → Q row → G) → G
by_last xs None t p none some = none t.3 p
by_last xs (Some row) t q none some = some row t.3.0 (t.4 (omega arith) no_row) q

pub returns : goal.returns
returns c = λ g e.
    let rows = c.args.rows.now in
    let n = c.min-n.result in
    let long : length (take n rows) ≡ n = length-take-le n rows (omega (arith, c.min-n.ensures)) in
    by_last (take n rows) c.last.result c.last.ensures.item c.map_or.ensures
    (λ h p. p ∙ before_none rows g e c.args.k (omega (arith, c.min-n.ensures, long, h)))
    (λ row h s q.
    let z : c.map_or.result ≡ row.now.end = search rules in
    let at : row.now ≡ get_or rows (n - 1) no_row = s ∙ rw long (get_or-take n rows (n - 1) no_row (omega (arith, long, h))) in
    z ∙ ap (λ (x : RowEnd). x.end) at ∙ rw c.min-n.ensures (before_some rows g e c.args.k (omega (arith, c.min-n.ensures, long, h))))
