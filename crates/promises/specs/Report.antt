-- Document 01, "The report, 220 bytes": what is promised of esk_report_check, esk_report_read and esk_report_write.
use Rattle.std.specs.Prelude.{◌≡◌, ◌↔◌, List, [], ◌++◌, ℕ, ◌≤◌, length, take, drop, replicate}
use Rattle.report.specs.Report.{check_text, read_report}
use Rattle.report.specs.Record.{report_text, left_by}
use Rattle.caller.specs.Records.{no_host, record_of}
use Rattle.caller.specs.Forms.{host_seen}
use Rattle.caller.specs.Allowed.{Allowed, Held}
use Rattle.caller.specs.Meaning.{Means}
use Rattle.caller.specs.Printed.{printed}
use Rattle.caller.specs.declared.HostReport.{HostReport}
use Rattle.desk.specs.Numbers.{accepted, answer_of, check_numbers, write_numbers}
use Rattle.desk.specs.Reports.{report_numbers}
use Rattle.desk.specs.declared.Answer.{Answer}
use Rattle.desk.specs.declared.ReportAnswer.{ReportAnswer}

-- ---- The calls, by their contracts

abbrev pub check : List ℕ → Answer
check s = check_numbers (check_text s)

abbrev pub read : List ℕ → ReportAnswer
read s = report_numbers (read_report s)

abbrev pub write : HostReport → List ℕ → Answer
write h out = write_numbers (host_seen h (length out)) 220

abbrev pub written : HostReport → List ℕ → List ℕ
written h out = left_by (host_seen h (length out)) (report_text (record_of h)) out

-- every member is 0
abbrev pub no_report : HostReport
no_report =
    record {
      departure = replicate 4 0;
      arrival = replicate 4 0;
      designator = replicate 6 0;
      spare = 0;
      first = no_host;
      later = replicate 7 no_host;
    }

-- ---- The promises

pub record ReportPromises : Type 0 where
  -- the reader answers as the check does
  pub one_answer : (s : List ℕ) → (read s).answer ≡ check s
  -- "any record .. in the answer [of a refusal] is the one fixed empty one": every member is 0
  pub refused : (s : List ℕ) → ¬ ((check s).code ≡ 0) → ((read s).report ≡ no_report) × ((check s).length ≡ 0)
  -- "Reports mean what the published layouts say": where each member stands in the text
  pub means : (s : List ℕ) → (check s).code ≡ 0 → Means s (read s).report
  -- what is read is within document 01's ranges, and in the one form
  pub allowed : (s : List ℕ) → (check s).code ≡ 0 → Allowed (read s).report × Held (read s).report
  -- "Each accepted text reads to one record that writes back the same bytes"
  pub read-write : (s out : List ℕ) → (check s).code ≡ 0 → 220 ≤ length out
      → (write (read s).report out ≡ accepted 220) × (written (read s).report out ≡ s ++ drop 220 out)
  -- "each allowed record writes and reads back", as itself
  pub write_read : (h : HostReport) (out : List ℕ) → Held h → Allowed h → 220 ≤ length out
      → (write h out ≡ accepted 220)
      × (read (take 220 (written h out)) ≡ record { answer = accepted 0; report = h })
      × (drop 220 (written h out) ≡ drop 220 out)
  -- accepted is code 0: a text is accepted just where it is what an allowed record is written as
  pub accepts : (s : List ℕ) → ((check s).code ≡ 0) ↔ ((h : HostReport) × (Held h × Allowed h × (s ≡ report_text (record_of h))))
  -- a record is written just where it is allowed and there is room
  pub writes : (h : HostReport) (out : List ℕ) → ((write h out).code ≡ 0) ↔ (Allowed h × (220 ≤ length out))
  -- a refusal leaves the buffer, and carries nothing but code and place
  pub unwritten : (h : HostReport) (out : List ℕ) → ¬ ((write h out).code ≡ 0)
      → (written h out ≡ out) × (write h out ≡ answer_of (write h out).code (write h out).place)
  -- there are accepted texts, and so allowed records: the printed one; and the empty text is code 1
  pub printed-one : check printed ≡ accepted 0
  pub empty : check [] ≡ answer_of 1 0
