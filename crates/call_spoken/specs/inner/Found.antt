-- What the functions within the call take and promise.
use Rattle.std.specs.Prelude.{List, ℕ, ◌+◌, ◌≤◌, length, Option, None, Some, Result, Ok, Err}
use Rattle.common.specs.declared.Refusal.{Refusal}
use Rattle.answers.specs.declared.Part.{Part}

-- the verdict, by where the reply stands
unfoldable pub verdict_at : Result (Option Part) Refusal → Result (Unit {0}) Refusal
verdict_at (Ok p) = Ok tt
verdict_at (Err why) = Err why

-- a part of the sheet lies in it
unfoldable pub PartInside : List ℕ → Result (Option Part) Refusal → Type 0
PartInside s (Ok (Some p)) = p.from + p.length ≤ length s
PartInside s (Ok None) = Unit {0}
PartInside s (Err why) = Unit {0}
