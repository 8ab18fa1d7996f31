-- `replay::input_buffer` meets its contract: zeros that are repeated n times are n, by the law for every n. To count so many one by one
-- goes too deep.
use mathlib.Core.Path.{◌≡◌, sym}
use Prim.Native.Nat.{ℕ}
use lib.ListN.{length, replicate, length-replicate}
use Rattle.replay.proofs.input_buffer.Goals as goal

zeros-long : (n : ℕ) → n ≡ length (replicate {A = ℕ} n 0)
zeros-long n = sym (length-replicate n 0)

pub returns : goal.returns
returns c = zeros-long 1048576
