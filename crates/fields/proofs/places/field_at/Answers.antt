-- `fields::places::field_at` meets its contract: past the end there is no field, nor where the search finds no stop; else the field ends where
-- the search does (`front_out`, `front_none`, `front_some`).
use mathlib.Core.Path.{sym, ◌∙◌}
use native.Mathlib.Omega.{arith}
use Rattle.fields.proofs.Fronts.{front_out, front_none, front_some}
use Rattle.fields.proofs.places.field_at.Goals as goal

pub returns-in_err-rest-clause-field : goal.returns-in_err-rest-clause-field
returns-in_err-rest-clause-field c = rw c.from_residual.ensures (front_out _ c.args.at c.args.bytes.now (omega (arith, c.in_err-rest.ensures.lookup)))

pub returns-in_err-end-clause-field : goal.returns-in_err-end-clause-field
returns-in_err-end-clause-field c =
    rw c.from_residual-in_err-end.ensures (front_none _ c.args.at c.args.bytes.now c.in_ok-rest.ensures.lookup.0.2 (sym c.stop_in.ensures ∙ c.in_err-end.was))

pub returns-clause-field : goal.returns-clause-field
returns-clause-field c = front_some _ c.args.at c.args.bytes.now c.in_ok-rest.ensures.lookup.0.2 (sym c.stop_in.ensures ∙ c.in_ok-end.was)
