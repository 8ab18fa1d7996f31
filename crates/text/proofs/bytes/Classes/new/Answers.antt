-- `text::bytes::Classes::new` meets its contract: one test over all 256 entries, which antt computes.
use Rattle.text.specs.Bytes.{class_of}
use Rattle.text.proofs.Tables.{class_each}
use Rattle.text.proofs.bytes.Classes.new.Goals as goal

pub invariant_of-result : goal.invariant_of-result
unfolding class_of
invariant_of-result c = record { each = search class_each }
