-- A report as the loop hands it over, with its fields in another order, and back again.
use Rattle.stream.specs.declared.Done.{Done}
use Rattle.stream.specs.Report.{placing}
use Rattle.table.specs.declared.Ended.{Ended}

abbrev pub ended_by : Done → Ended
ended_by d = record { written = d.written; answer = d.answer; read = d.read; place = d.place }

abbrev pub report_in : Ended → Done
report_in e = placing e.answer e.place e.read e.written
