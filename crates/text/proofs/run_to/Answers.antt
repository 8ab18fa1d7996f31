-- `text::run_to` meets its contract: nothing is walked, or the stop, which is below 32 or above 126, is no character and no space.
use mathlib.Core.Path.{refl}
use borrow.Author.Rules.{rules}
use Rattle.text.proofs.Runs.{run_start, run_end}
use Rattle.text.proofs.run_to.Goals as goal

pub returns-then-matches : goal.returns-then-matches
returns-then-matches c = record { run = run_end (run_start _ _ (search rules)); kept = λ p. refl }
