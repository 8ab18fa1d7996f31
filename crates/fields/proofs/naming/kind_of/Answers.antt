-- `fields::naming::kind_of` meets its contract: in each arm the name has the length and the bytes of a kind's name (`named`); that it is no
-- kind's elsewhere the check finds (`no_name`).
use native.Mathlib.Omega.{arith}
use Rattle.fields.proofs.Names.{named}
use Rattle.fields.proofs.naming.kind_of.Goals as goal

pub returns-in-116 : goal.returns-in-116
returns-in-116 c = named _ _ (omega arith)

pub returns-in-img : goal.returns-in-img
returns-in-img c = named _ _ (omega arith)

pub returns-in-svg : goal.returns-in-svg
returns-in-svg c = named _ _ (omega arith)

pub returns-in-container : goal.returns-in-container
returns-in-container c = named _ _ (omega arith)

pub returns-in-link : goal.returns-in-link
returns-in-link c = named _ _ (omega arith)

pub returns-in-em : goal.returns-in-em
returns-in-em c = named _ _ (omega arith)

pub returns-in-strong : goal.returns-in-strong
returns-in-strong c = named _ _ (omega arith)

pub returns-in-strike : goal.returns-in-strike
returns-in-strike c = named _ _ (omega arith)

pub returns-in-code : goal.returns-in-code
returns-in-code c = named _ _ (omega arith)

pub returns-in-block : goal.returns-in-block
returns-in-block c = named _ _ (omega arith)

pub returns-in-head : goal.returns-in-head
returns-in-head c = named _ _ (omega arith)

pub returns-in-div : goal.returns-in-div
returns-in-div c = named _ _ (omega arith)

pub returns-in-quote : goal.returns-in-quote
returns-in-quote c = named _ _ (omega arith)

pub returns-in-ul : goal.returns-in-ul
returns-in-ul c = named _ _ (omega arith)

pub returns-in-ol : goal.returns-in-ol
returns-in-ol c = named _ _ (omega arith)

pub returns-in-dl : goal.returns-in-dl
returns-in-dl c = named _ _ (omega arith)

pub returns-in-dt : goal.returns-in-dt
returns-in-dt c = named _ _ (omega arith)

pub returns-in-dd : goal.returns-in-dd
returns-in-dd c = named _ _ (omega arith)

pub returns-in-break : goal.returns-in-break
returns-in-break c = named _ _ (omega arith)

pub returns-in-table : goal.returns-in-table
returns-in-table c = named _ _ (omega arith)

pub returns-in-body : goal.returns-in-body
returns-in-body c = named _ _ (omega arith)

pub returns-in-row : goal.returns-in-row
returns-in-row c = named _ _ (omega arith)

pub returns-in-cell : goal.returns-in-cell
returns-in-cell c = named _ _ (omega arith)

pub returns-in-frag : goal.returns-in-frag
returns-in-frag c = named _ _ (omega arith)

pub returns-in-item : goal.returns-in-item
returns-in-item c = named _ _ (omega arith)

pub returns-in-sup : goal.returns-in-sup
returns-in-sup c = named _ _ (omega arith)

pub returns-in-calc : goal.returns-in-calc
returns-in-calc c = named _ _ (omega arith)
