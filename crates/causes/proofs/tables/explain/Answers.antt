-- `causes::tables::explain` meets its contract: the entries are listed by the causes.
use Rattle.causes.proofs.Told.{listable}
use Rattle.causes.proofs.tables.explain.Goals as goal

pub list_missing-requires : goal.list_missing-requires
list_missing-requires c = listable c.requires c.tell_causes.auto.cause
