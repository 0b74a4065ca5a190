-- The answer of reading a report, as the C host gets it.
use Rattle.std.specs.Prelude.{Result, Ok, Err}
use Rattle.text.specs.declared.Refusal.{Refusal}
use Rattle.report.specs.declared.Report.{Report}
use Rattle.report.specs.Report.{no_report}
use Rattle.caller.specs.Records.{host_report}
use Rattle.desk.specs.Numbers.{accepted, refused}
use Rattle.desk.specs.declared.ReportAnswer.{ReportAnswer}

-- reading gives no length; a refusal carries the one empty report
unfoldable pub report_numbers : Result Report Refusal → ReportAnswer
report_numbers (Ok x) = record { answer = accepted 0; report = host_report x }
report_numbers (Err r) = record { answer = refused r; report = host_report no_report }
