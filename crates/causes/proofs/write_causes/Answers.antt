-- `causes::write_causes` meets its contract. A turn stores the number of column i's cause. At the end all are written.
use mathlib.Core.Path.{◌≡◌, sym, ap, ◌∙◌}
use mathlib.Core.List.{List}
use mathlib.Core.Logic.{inl, inr}
use Prim.Native.Nat.{ℕ, ◌≤◌}
use native.Mathlib.Omega.{arith}
use lib.ListN.{length}
use Rattle.std.specs.Iterator.Adapters.{enumerate_count}
use Rattle.common.proofs.Write.{write_more, write_all}
use Rattle.cutting.proofs.Pairs.{read_next, read_all}
use Rattle.columns.specs.Columns.{up_to}
use Rattle.columns.proofs.Upto.{length_up_to, at_up_to}
use Rattle.causes.specs.Causes.{cause_number}
use Rattle.causes.specs.inner.Telling.{number_at}
use Rattle.causes.proofs.write_causes.Goals as goal
use Rattle.causes.proofs.write_causes.Goals.{Start}

-- the number of each column's cause
abbrev all : (width : ℕ) (sizes shares column : List ℕ) → List ℕ
all width sizes shares column = up_to (length sizes) (number_at width sizes shares column)

-- as many as places
as_many : (c : Start) → length (all c.args.width c.args.sizes.now c.args.shares.now c.args.column.now) ≡ length c.args.cause.now
as_many c = length_up_to (length c.args.sizes.now) _ ∙ sym c.requires.cause_length

pub loop-i-preserved : goal.loop-i-preserved
loop-i-preserved c =
    let zs = c.args.sizes.now in
    let ss = c.args.shares.now in
    let ws = c.args.column.now in
    let g = number_at c.args.width zs ss ws in
    let s = c.loop-i.invariant in
    let t = c.in-Some.ensures.steps in
    let a = read_next zs _ s.1 t.0.0 in
    let b = read_next ss _ s.2 t.0.1.0 in
    let d = read_next ws _ s.3 t.0.1.1 in
    let i = enumerate_count c.loop-i.i-iterator in
    let same = rw (a.1, b.1, d.1) at (c.number.ensures ∙ ap cause_number c.cause_of-why.ensures) in
    let more = write_more (all c.args.width zs ss ws) c.args.cause.now (as_many (goal.at.loop-i-preserved c).Start) c.loop-i.cause i c.number.result
    (omega (arith, a.0, c.requires.cause_length)) s.0 (same ∙ sym (at_up_to (length zs) g i a.0)) in
    (rw (t.2, t.1) more, rw t.2 a.2, rw t.2 b.2, rw t.2 d.2)

pub returns : goal.returns
returns c =
    let s = c.loop-i.invariant in
    let none : length c.args.sizes.now ≤ enumerate_count c.loop-i.i-iterator =
    elim c.in-None.ensures.steps.0 [
      | inl a ↦ read_all c.args.sizes.now _ s.1 a.1.0
      | inr b ↦ elim b.1 [
        | inl d ↦ omega (arith, read_all c.args.shares.now _ s.2 d.1.0, c.requires.shares_length)
        | inr e ↦ omega (arith, read_all c.args.column.now _ s.3 e.1.0, c.requires.column_length)
      ]
    ] in
    write_all (all c.args.width c.args.sizes.now c.args.shares.now c.args.column.now) c.args.cause.now (as_many (goal.at.returns c).Start) c.loop-i.cause (enumerate_count c.loop-i.i-iterator)
    (omega (arith, none, c.requires.cause_length)) s.0
