-- `call_spoken::reply` meets its contract, by the cases of the place.
use Rattle.std.proofs.Common.{rules, ◌≡◌}
use Rattle.std.specs.Prelude.{None, Some, Ok}
use Rattle.call_spoken.specs.Spoken.{reply}
use Rattle.call_spoken.specs.inner.Found.{PartInside}
use Rattle.call_spoken.proofs.reply.Goals as goal

pub bytes_of-requires : goal.bytes_of-requires
unfolding PartInside
bytes_of-requires c =
    let q : c.args.place ≡ Ok (Some c.in-Ok-Some.part) = search rules in
    rw q at c.requires

pub returns-in-Ok-Some : goal.returns-in-Ok-Some
unfolding reply
returns-in-Ok-Some c =
    let q : c.args.place ≡ Ok (Some c.in-Ok-Some.part) = search rules in
    rw q c.bytes_of.ensures

pub returns-in-Ok-None : goal.returns-in-Ok-None
unfolding reply
returns-in-Ok-None c =
    let q : c.args.place ≡ Ok None = search rules in
    rw q

pub returns-in-Err : goal.returns-in-Err
unfolding reply
returns-in-Err c = rw c.in-Err.is
