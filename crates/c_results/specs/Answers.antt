-- What crosses to C, by the answer inside: number 0 and line 0 if the call is accepted, and the refusal with zeros if it is not.
use Rattle.std.specs.Prelude.{Bool, not, ℕ, min, eqb, Option, Some, None, Result, Ok, Err}
use Rattle.common.specs.declared.Refusal.{Refusal}
use Rattle.common.specs.Refusals.{reason_number}
use Rattle.text.specs.declared.Estimate.{Estimate}
use Rattle.answers.specs.Numbers.{way_number, under_number, joint_number}
use Rattle.answers.specs.declared.Grid.{Grid}
use Rattle.answers.specs.declared.Layout.{Layout}
use Rattle.answers.specs.declared.Causes.{Causes}
use Rattle.answers.specs.declared.Under.{Under}
use Rattle.answers.specs.declared.Under.TheVariants.{Cell, Gap, Nothing}
use Rattle.answers.specs.declared.Joint.{Joint}
use Rattle.answers.specs.declared.Nested.{Nested}
use Rattle.answers.specs.declared.Part.{Part}
use Rattle.c_results.specs.declared.CheckResult.{CheckResult}
use Rattle.c_results.specs.declared.MeasureResult.{MeasureResult}
use Rattle.c_results.specs.declared.EstimatesResult.{EstimatesResult}
use Rattle.c_results.specs.declared.GridResult.{GridResult}
use Rattle.c_results.specs.declared.LayoutResult.{LayoutResult}
use Rattle.c_results.specs.declared.MissingResult.{MissingResult}
use Rattle.c_results.specs.declared.AtResult.{AtResult}
use Rattle.c_results.specs.declared.WithinResult.{WithinResult}
use Rattle.c_results.specs.declared.JoiningResult.{JoiningResult}
use Rattle.c_results.specs.declared.WalkResult.{WalkResult}
use Rattle.c_results.specs.declared.NestedResult.{NestedResult}
use Rattle.c_results.specs.declared.WindowResult.{WindowResult}
use Rattle.c_results.specs.declared.SpokenResult.{SpokenResult}

-- 0 is text or svg, any other number img
abbrev pub as_img : ℕ → Bool
as_img img = not (eqb img 0)

unfoldable pub check_result : Result (Unit {0}) Refusal → CheckResult
check_result (Ok tt) = record { number = 0; line = 0 }
check_result (Err why) = record { number = reason_number why.reason; line = why.line }

unfoldable pub measure_result : Result Estimate Refusal → MeasureResult
measure_result (Ok e) = record { number = 0; line = 0; size = e.size; least = e.least; prefix = e.prefix }
measure_result (Err why) = record { number = reason_number why.reason; line = why.line; size = 0; least = 0; prefix = 0 }

unfoldable pub estimates_result : Result ℕ Refusal → EstimatesResult
estimates_result (Ok n) = record { number = 0; line = 0; lines = n }
estimates_result (Err why) = record { number = reason_number why.reason; line = why.line; lines = 0 }

unfoldable pub grid_result : Result Grid Refusal → GridResult
grid_result (Ok g) = record { number = 0; line = 0; rows = g.rows; entries = g.entries; columns = g.columns }
grid_result (Err why) = record { number = reason_number why.reason; line = why.line; rows = 0; entries = 0; columns = 0 }

unfoldable pub layout_result : Result Layout Refusal → LayoutResult
layout_result (Ok t) = record { number = 0; line = 0; way = way_number t.way; columns = t.columns; width = t.width }
layout_result (Err why) = record { number = reason_number why.reason; line = why.line; way = 0; columns = 0; width = 0 }

unfoldable pub missing_result : Result Causes Refusal → MissingResult
missing_result (Ok t) = record { number = 0; line = 0; count = t.count; columns = t.columns }
missing_result (Err why) = record { number = reason_number why.reason; line = why.line; count = 0; columns = 0 }

unfoldable pub at_result : Result (Under ℕ) Refusal → AtResult
at_result (Ok (Cell entry)) = record { number = 0; line = 0; what = under_number (Cell entry); entry = entry }
at_result (Ok Gap) = record { number = 0; line = 0; what = under_number {T = ℕ} Gap; entry = 0 }
at_result (Ok Nothing) = record { number = 0; line = 0; what = under_number {T = ℕ} Nothing; entry = 0 }
at_result (Err why) = record { number = reason_number why.reason; line = why.line; what = 0; entry = 0 }

unfoldable pub within_result : Result ℕ Refusal → WithinResult
within_result (Ok count) = record { number = 0; line = 0; count = count }
within_result (Err why) = record { number = reason_number why.reason; line = why.line; count = 0 }

unfoldable pub joining_result : Result Joint Refusal → JoiningResult
joining_result (Ok joint) = record { number = 0; line = 0; joint = joint_number joint }
joining_result (Err why) = record { number = reason_number why.reason; line = why.line; joint = 0 }

unfoldable pub walk_result : Result ℕ Refusal → WalkResult
walk_result (Ok n) = record { number = 0; line = 0; lines = n }
walk_result (Err why) = record { number = reason_number why.reason; line = why.line; lines = 0 }

-- given 1 and the width at which the table is laid out; all zeros if the walk gives it none
unfoldable pub nested_result : Result (Option Nested) Refusal → NestedResult
nested_result (Ok (Some t)) = record { number = 0; line = 0; given = 1; at = t.at; way = way_number t.layout.way; columns = t.layout.columns; width = t.layout.width }
nested_result (Ok None) = record { number = 0; line = 0; given = 0; at = 0; way = 0; columns = 0; width = 0 }
nested_result (Err why) = record { number = reason_number why.reason; line = why.line; given = 0; at = 0; way = 0; columns = 0; width = 0 }

-- how many lines the report has
unfoldable pub window_result : Result ℕ Refusal → WindowResult
window_result (Ok count) = record { number = 0; line = 0; count = count }
window_result (Err why) = record { number = reason_number why.reason; line = why.line; count = 0 }

-- the largest length that is answer
abbrev pub max_length : ℕ
max_length = 4294967295

-- the place and the length of a part of the sheet, or the length of the wording, as far as 32 bits say it
unfoldable pub spoken_result : Result (Option Part) Refusal → ℕ → SpokenResult
spoken_result (Ok (Some p)) wording = record { number = 0; line = 0; of_sheet = 1; from = p.from; length = p.length }
spoken_result (Ok None) wording = record { number = 0; line = 0; of_sheet = 0; from = 0; length = min wording max_length }
spoken_result (Err why) wording = record { number = reason_number why.reason; line = why.line; of_sheet = 0; from = 0; length = 0 }
