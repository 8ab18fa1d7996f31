-- `call_nested::nesting::nest` meets its contract: a table with a width is laid out at it, in arrays that have room for any table; without one it has
-- no layout.
use Rattle.std.proofs.Common.{rules, ◌≡◌, None}
use Rattle.call_nested.proofs.NestCall.{made_none, made_some, small_width}
use Rattle.call_nested.proofs.nesting.nest.Goals as goal

pub returns-in_err-at : goal.returns-in_err-at
returns-in_err-at c =
    let q : c.from_residual.result ≡ None = search rules in
    rw q (made_none c.in_err-at.was)

pub layout_of-layout-requires-clause-width_le_max_size : goal.layout_of-layout-requires-clause-width_le_max_size
layout_of-layout-requires-clause-width_le_max_size c = small_width c.in_ok-at.was c.requires.width_small

pub returns : goal.returns
returns c = made_some c.in_ok-at.was c.layout_of-layout.ensures
