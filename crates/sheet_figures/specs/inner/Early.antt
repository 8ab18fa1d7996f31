-- What is asked before a sheet is read.
use Rattle.common.specs.declared.Reason.TheVariants.{Setting}
use Rattle.common.specs.declared.Refusal.{Refusal}
use Rattle.std.specs.Prelude.{true, false, Err, Ok, Result}
use Rattle.common.specs.Refusals.{Check, check}

-- the verdict on the arguments alone, asked before the sheet is
unfoldable pub early : Result (Unit {0}) Refusal → Check
early (Ok tt) = check false Setting 0
early (Err why) = record { applies = true; refusal = why }
