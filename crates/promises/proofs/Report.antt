-- The promises of reports, kept.
use mathlib.Core.Path.{◌≡◌, refl, sym, ap, ◌∙◌}
use mathlib.Core.List.{List, [], ◌++◌}
use Prim.Native.Nat.{ℕ, ◌≤◌}
use native.Mathlib.Omega.{arith}
use native.Mathlib.Nat.{zero-add}
use lib.Dec.{leb}
use lib.ListN.{length, take, drop, length-map}
use lib.Seq.{take_at, drop_at}
use borrow.Author.Tests.{le-leb, leb-true}
use Rattle.text.specs.Over.{over}
use Rattle.text.specs.Checks.{must}
use Rattle.text.specs.Codes.{number_of}
use Rattle.text.proofs.Checks.{must-held, both-fine}
use Rattle.text.proofs.Codes.{numbered}
use Rattle.report.specs.Report.{check_text, got, read_report, report_of}
use Rattle.report.specs.Record.{report_text, left_by}
use Rattle.report.proofs.RoundTrip.{report_sized, report_seven}
use Rattle.caller.specs.Records.{no_host, host_observation, host_later, host_report, record_of}
use Rattle.caller.specs.Forms.{check_host, host_seen}
use Rattle.caller.specs.Allowed.{Allowed, Held}
use Rattle.caller.specs.Printed.{printed}
use Rattle.caller.specs.declared.HostReport.{HostReport}
use Rattle.caller.proofs.Whole.{allowed-fine, fine-allowed}
use Rattle.caller.proofs.Carried as carried
use Rattle.caller.proofs.Meaning as meaning
use Rattle.caller.proofs.Printed.{printed-accepted}
use Rattle.desk.specs.Numbers.{accepted, answer_of, check_numbers, write_numbers}
use Rattle.desk.specs.Reports.{report_numbers}
use Rattle.desk.specs.declared.Answer.{Answer}
use Rattle.promises.specs.Report.{check, read, write, written, no_report, ReportPromises}
use Rattle.std.specs.Prelude.{Result, Ok, Err}
use Rattle.text.specs.declared.Refusal.{Refusal}
use Rattle.text.specs.declared.Code.TheVariants.{NoRoom}

-- ---- What was seen, by the code

-- code 0 is no refusal
fine-zero : (x : Result (Unit {0}) Refusal) (n : ℕ) → (write_numbers x n).code ≡ 0 → x ≡ (Ok tt)
fine-zero (Ok u) n e = refl
fine-zero (Err r) n e = let l = (numbered r.code).least in let z : number_of r.code ≡ 0 = e in absurd (omega arith)

pub check-fine : (s : List ℕ) → (check s).code ≡ 0 → check_text s ≡ (Ok tt)
check-fine s e = go (check_text s) e
  where
    go : (x : Result (Unit {0}) Refusal) → (check_numbers x).code ≡ 0 → x ≡ (Ok tt)
    go (Ok u) z = refl
    go (Err r) z = fine-zero (Err r) 0 z

fine-check : (s : List ℕ) → check_text s ≡ (Ok tt) → check s ≡ accepted 0
fine-check s e = rw e

-- ---- Reading

one_answer : (s : List ℕ) → (read s).answer ≡ check s
unfolding report_numbers read_report
one_answer s = go (check_text s)
  where
    go : (x : Result (Unit {0}) Refusal) → (report_numbers (got x (report_of s))).answer ≡ check_numbers x
    go (Ok u) = refl
    go (Err r) = refl

pub read_is : (s : List ℕ) → check_text s ≡ (Ok tt) → (read s).report ≡ host_report (report_of s)
unfolding report_numbers read_report
read_is s e = rw e

refused : (s : List ℕ) → ¬ ((check s).code ≡ 0) → ((read s).report ≡ no_report) × ((check s).length ≡ 0)
unfolding report_numbers read_report host_report host_observation no_host
refused s n = go (check_text s) n
  where
    go : (x : Result (Unit {0}) Refusal) → ¬ ((check_numbers x).code ≡ 0) → ((report_numbers (got x (report_of s))).report ≡ no_report) × ((check_numbers x).length ≡ 0)
    go (Ok u) m = absurd (m refl)
    go (Err r) m = (refl, refl)

held : (s : List ℕ) → check_text s ≡ (Ok tt) → Held (host_report (report_of s))
unfolding host_report
held s e =
    let z = report_sized s e in
    record {
      departure = z.departure;
      arrival = z.arrival;
      designator = z.designator;
      later = length-map (report_of s).later host_later ∙ report_seven s e;
    }

-- ---- Writing

host_fine : (h : HostReport) (out : List ℕ) → (write h out).code ≡ 0 → host_seen h (length out) ≡ (Ok tt)
host_fine h out e = fine-zero (host_seen h (length out)) 220 e

module _ (h : HostReport) (out : List ℕ) (k : Allowed h) (room : 220 ≤ length out) where
  seen_it : host_seen h (length out) ≡ (Ok tt)
  unfolding host_seen
  seen_it = rw (allowed-fine h k, le-leb 220 (length out) room)

  wrote_it : write h out ≡ accepted 220
  wrote_it = rw seen_it

  left_it : length (report_text (record_of h)) ≡ 220 → written h out ≡ report_text (record_of h) ++ drop 220 out
  unfolding over
  left_it l = rw (seen_it, zero-add (length (report_text (record_of h))), l)

writes : (h : HostReport) (out : List ℕ) → (write h out).code ≡ 0 → Allowed h × (220 ≤ length out)
unfolding host_seen
writes h out e =
    let b = both-fine (check_host h) (must (leb 220 (length out)) NoRoom 0) tt (host_fine h out e) in
    (fine-allowed h b.0, leb-true 220 (length out) (must-held (leb 220 (length out)) NoRoom 0 b.1))

unwritten : (h : HostReport) (out : List ℕ) → ¬ ((write h out).code ≡ 0)
    → (written h out ≡ out) × (write h out ≡ answer_of (write h out).code (write h out).place)
unwritten h out n = go (host_seen h (length out)) n
  where
    go : (x : Result (Unit {0}) Refusal) → ¬ ((write_numbers x 220).code ≡ 0)
        → (left_by x (report_text (record_of h)) out ≡ out) × (write_numbers x 220 ≡ answer_of (write_numbers x 220).code (write_numbers x 220).place)
    go (Ok u) m = absurd (m refl)
    go (Err r) m = (refl, refl)

-- ---- Both ways

read-write : (s out : List ℕ) → (check s).code ≡ 0 → 220 ≤ length out
    → (write (read s).report out ≡ accepted 220) × (written (read s).report out ≡ s ++ drop 220 out)
read-write s out e room =
    let f = check-fine s e in
    let r = carried.read-write s f in
    let h = host_report (report_of s) in
    let t = r.1 in
    let l : length (report_text (record_of h)) ≡ 220 = carried.written-length h (held s f) in
    rw (read_is s f) (wrote_it h out r.0 room, left_it h out r.0 room l ∙ ap (λ (x : List ℕ). x ++ drop 220 out) t)

module _ (h : HostReport) (out : List ℕ) (w : Held h) (k : Allowed h) (room : 220 ≤ length out) where
  text-long : length (report_text (record_of h)) ≡ 220
  text-long = carried.written-length h w

  reads-back : read (report_text (record_of h)) ≡ record { answer = accepted 0; report = h }
  unfolding report_numbers read_report
  reads-back = let b = carried.write_read h w k in rw (b.0, b.1)

  write_read : (write h out ≡ accepted 220)
      × (read (take 220 (written h out)) ≡ record { answer = accepted 0; report = h })
      × (drop 220 (written h out) ≡ drop 220 out)
  write_read =
      let t = report_text (record_of h) in
      let e = left_it h out k room text-long in
      (wrote_it h out k room, rw (e, take_at t (drop 220 out) 220 text-long) reads-back, rw (e, drop_at t (drop 220 out) 220 text-long))

accepts : (s : List ℕ) → (check s).code ≡ 0 → (h : HostReport) × (Held h × Allowed h × (s ≡ report_text (record_of h)))
accepts s e =
    let f = check-fine s e in
    let r = carried.read-write s f in
    (host_report (report_of s), (held s f, r.0, sym r.1))

accepted_by : (s : List ℕ) → (h : HostReport) × (Held h × Allowed h × (s ≡ report_text (record_of h))) → (check s).code ≡ 0
accepted_by s (h, (w, k, e)) = ap (λ (a : Answer). a.code) (fine-check s (ap check_text e ∙ (carried.write_read h w k).0))

empty-refused : check [] ≡ answer_of 1 0
unfolding check_text
empty-refused = refl

pub report_promises : ReportPromises
report_promises =
    record {
      one_answer = one_answer;
      refused = refused;
      means = λ s e. let f = check-fine s e in rw (read_is s f) (meaning.means s f);
      allowed = λ s e. let f = check-fine s e in rw (read_is s f) ((carried.read-write s f).0, held s f);
      read-write = read-write;
      write_read = write_read;
      accepts = λ s. (accepts s, accepted_by s);
      writes = λ h out. (writes h out, λ k. ap (λ (a : Answer). a.code) (wrote_it h out k.0 k.1));
      unwritten = unwritten;
      printed-one = fine-check printed printed-accepted;
      empty = empty-refused;
    }
