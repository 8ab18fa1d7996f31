-- `swar::eight` meets its contract: the bytes from the place on are the number's digits.
use native.Mathlib.Omega.{arith}
use Rattle.swar.proofs.Standing.{eight_stands}
use Rattle.swar.proofs.eight.Goals as goal

pub returns : goal.returns
returns c = eight_stands _ _ _ c.requires (λ i. omega (arith, c.type_inv.bytes i)) (omega (arith, c.from_le_bytes.ensures))
