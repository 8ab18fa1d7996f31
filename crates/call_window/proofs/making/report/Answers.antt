-- `call_window::making::report` meets its contract: the records can be reported on, and the report on them is that on the definition's boxes.
use Rattle.grid_build.proofs.Cut.{made_within}
use Rattle.call_window.proofs.Made.{reportable, window_made}
use Rattle.call_window.proofs.making.report.Goals as goal

pub records-grid-requires : goal.records-grid-requires
records-grid-requires c = made_within c.make-counts.ensures

pub write_report-requires : goal.write_report-requires
write_report-requires c = reportable c.args.t c.make-counts.ensures c.records-grid.ensures c.requires.report_capacity

pub returns : goal.returns
returns c = window_made c.args.t c.make-counts.ensures c.records-grid.ensures c.write_report.ensures _ _ _
