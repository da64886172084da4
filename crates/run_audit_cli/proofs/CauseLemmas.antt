-- Each cause gives its status.
use Rattle.std.proofs.Common.{◌≡◌, ◌∙◌, ℕ, ◌≤◌, ◌<◌, ◌⊎◌, inl, inr, List, [], length, true, false, Some, None, Err}
use Rattle.std.proofs.Common.{refl, sym, ap, subst, arith, slice_index_or}
use Rattle.std.specs.List.{Contains}
use Rattle.run_events.specs.declared.plan.Plan.{Plan}
use Rattle.run_events.specs.declared.settings.Settings.{Settings}
use Rattle.run_events.specs.declared.turn.Turn.{Turn}
use Rattle.run_engine.specs.declared.errors.TestRunnerBuildError.{TestRunnerBuildError}
use Rattle.run_input.specs.Lines.{lines_of}
use Rattle.run_input.specs.declared.plan_line.RunnerKeys.{RunnerKeys}
use Rattle.run_output.specs.Faults.{fault_status}
use Rattle.run_output.specs.declared.fault.Fault.{Fault}
use Rattle.run_output.specs.declared.fault.Fault.TheVariants as plain
use Rattle.run_output.specs.declared.fault.PlanFault.{PlanFault}
use Rattle.run_audit_model.specs.declared.audit_event.AuditEvent.{AuditEvent}
use Rattle.run_audit_model.specs.declared.audit_event.Verdict.{Verdict}
use Rattle.run_audit_model.specs.declared.audit_event.Verdict.TheVariants.{Yes, No}
use Rattle.run_cli.specs.Call.{Reading, Writing, HasReadFault, HasWriteFault}
use Rattle.run_cli.specs.Cause.{Gets}
use Rattle.run_cli.specs.Given.{IsAllOf, IsTooLong}
use Rattle.run_cli.specs.Plans.{IsPlanFault, plan_refusal, settings_for}
use Rattle.run_cli.proofs.CauseLemmas.{all_given, never_refused, not_too_long}
use Rattle.run_audit_cli.specs.AuditCauses.{GetsAudited, GetsJudged, audit_statuses}
use Rattle.run_audit_cli.specs.AuditEnds.{EndsWithFault, EndsWithVerdict}
use Rattle.run_audit_cli.specs.AuditGiven.{AnswersAuditor, GivesAudit, GivesAccepted, HasVerdict, IsAuditFault}
use Rattle.run_audit_cli.specs.AuditLines.{IsAuditInput, IsFirstBadAudit}
use Rattle.run_audit_cli.specs.Verdicts.{audit_status}
use Rattle.run_audit_cli.proofs.CourseCauses.{eleven_gets, going_gets, said_gets, stop_gets, unsaid_gets}
use Rattle.run_audit_cli.proofs.ScanLemmas.{audit_or_bad, one_audit}

-- ---- statuses

listed : (k status : ℕ) → k < 11 → slice_index_or audit_statuses k status ≡ status → Contains audit_statuses status
listed k status within is = (k, within, is)

fault_gets : (w : Writing) (fault : Fault) (status : ℕ) → EndsWithFault w fault status
    → Gets status (fault_status fault)
fault_gets w fault status (said, is, inl (memory, short)) = inr (is ∙ ap fault_status memory)
fault_gets w fault status (said, is, inr (same, le, writes)) = inl (is ∙ ap fault_status same)

-- a status that says nothing of the source or the sink failing, and isn't that of a verdict
pub record IsOther (status : ℕ) : Type 0 where
  pub known : Contains audit_statuses status
  pub not_read : status ≡ 10 → ⊥
  pub not_unwritten : status ≡ 9 → ⊥
  pub not_verdict : (status ≡ 0) ⊎ (status ≡ 1) → ⊥

not_said : (n : ℕ) → 1 < n → (n ≡ 0) ⊎ (n ≡ 1) → ⊥
not_said n above (inl is) = omega (arith, above, is)
not_said n above (inr is) = omega (arith, above, is)

other_one : (n : ℕ) → Contains audit_statuses n → (n ≡ 10 → ⊥) → (n ≡ 9 → ⊥) → 1 < n → IsOther n
other_one n known ten nine above =
    record { known = known; not_read = ten; not_unwritten = nine; not_verdict = not_said n above }

other_3 : IsOther 3
other_3 = other_one 3 (listed 2 3 (omega arith) refl) (λ e. omega (arith, e)) (λ e. omega (arith, e)) (omega arith)

other_5 : IsOther 5
other_5 = other_one 5 (listed 3 5 (omega arith) refl) (λ e. omega (arith, e)) (λ e. omega (arith, e)) (omega arith)

other_6 : IsOther 6
other_6 = other_one 6 (listed 4 6 (omega arith) refl) (λ e. omega (arith, e)) (λ e. omega (arith, e)) (omega arith)

other_7 : IsOther 7
other_7 = other_one 7 (listed 5 7 (omega arith) refl) (λ e. omega (arith, e)) (λ e. omega (arith, e)) (omega arith)

other_8 : IsOther 8
other_8 = other_one 8 (listed 6 8 (omega arith) refl) (λ e. omega (arith, e)) (λ e. omega (arith, e)) (omega arith)

other_11 : IsOther 11
other_11 = other_one 11 (listed 9 11 (omega arith) refl) (λ e. omega (arith, e)) (λ e. omega (arith, e)) (omega arith)

other_12 : IsOther 12
other_12 = other_one 12 (listed 10 12 (omega arith) refl) (λ e. omega (arith, e)) (λ e. omega (arith, e)) (omega arith)

other_by : (status expected : ℕ) → Gets status expected → IsOther expected → IsOther status
other_by status expected (inl is) x = subst IsOther (sym is) x
other_by status expected (inr is) x = subst IsOther (sym is) other_11

-- ---- a source that was read

-- the causes of what lines say
pub record GetsLines (lines : List (List ℕ)) (w : Writing) (status : ℕ) : Type 0 where
  pub bad : (number : ℕ) → IsFirstBadAudit lines number → Gets status 3
  pub refused : (k : RunnerKeys) (p : Plan) (ts : List Turn) (es : List AuditEvent) → IsAuditInput lines k p ts es
      → (e : TestRunnerBuildError) → plan_refusal k p ≡ Some e → Gets status 5
  pub judged : (k : RunnerKeys) (p : Plan) (ts : List Turn) (es : List AuditEvent) → IsAuditInput lines k p ts es
      → plan_refusal k p ≡ None → GetsJudged (settings_for k p) ts es w status

gets_read : (r : Reading) (w : Writing) (status : ℕ) (bytes : List ℕ) → IsAllOf r bytes → r.faults_after ≡ r.faults
    → Contains audit_statuses status → (status ≡ 10 → ⊥) → (status ≡ 9 → HasWriteFault w)
    → ((status ≡ 0) ⊎ (status ≡ 1) → w.faults_after ≡ w.faults) → GetsLines (lines_of bytes) w status
    → GetsAudited r w status
gets_read r w status bytes all calm known never unwritten written gets = record {
  known = known;
  unread = λ lt. absurd (omega (arith, lt, calm));
  read = λ is. absurd (never is);
  too_much = λ still much.
      let same = all_given r.left r.left_after much.bytes bytes much.told all.given all.end in
      let above = subst (λ (held : List ℕ). 16777216 < length held) same much.above in
      absurd (omega (arith, above, all.within));
  bad_line = λ still number has.
      let same = all_given r.left r.left_after has.bytes bytes has.told all.given all.end in
      gets.bad number (subst (λ held. IsFirstBadAudit (lines_of held) number) same has.bad);
  refused = λ still k p ts es has e is.
      let same = all_given r.left r.left_after has.bytes bytes has.told all.given all.end in
      gets.refused k p ts es (subst (λ held. IsAuditInput (lines_of held) k p ts es) same has.says) e is;
  judged = λ still k p ts es has none.
      let same = all_given r.left r.left_after has.bytes bytes has.told all.given all.end in
      gets.judged k p ts es (subst (λ held. IsAuditInput (lines_of held) k p ts es) same has.says) none;
  unwritten = unwritten;
  written = written;
}

gets_other : (r : Reading) (w : Writing) (status : ℕ) (bytes : List ℕ) → IsAllOf r bytes → r.faults_after ≡ r.faults
    → IsOther status → GetsLines (lines_of bytes) w status → GetsAudited r w status
gets_other r w status bytes all calm x gets =
    gets_read r w status bytes all calm x.known x.not_read (λ is. absurd (x.not_unwritten is))
    (λ is. absurd (x.not_verdict is)) gets

-- a bad line
line_lines : (lines : List (List ℕ)) (w : Writing) (status number : ℕ) → IsFirstBadAudit lines number → Gets status 3
    → GetsLines lines w status
line_lines lines w status number bad gets = record {
  bad = λ n also. gets;
  refused = λ k p ts es says e is. audit_or_bad lines k p ts es number says bad;
  judged = λ k p ts es says none. audit_or_bad lines k p ts es number says bad;
}

-- a plan that is refused
plan_lines : (lines : List (List ℕ)) (w : Writing) (status : ℕ) (k : RunnerKeys) (p : Plan) (ts : List Turn)
    (es : List AuditEvent) (e : TestRunnerBuildError) → IsAuditInput lines k p ts es → plan_refusal k p ≡ Some e
    → Gets status 5 → GetsLines lines w status
plan_lines lines w status k p ts es e says refused gets = record {
  bad = λ n bad. audit_or_bad lines k p ts es n says bad;
  refused = λ l q us fs also f is. gets;
  judged = λ l q us fs also none.
      let same = one_audit lines k l p q ts us es fs says also in
      never_refused (plan_refusal k p) e
      (subst (λ (x : RunnerKeys × Plan). plan_refusal x.0 x.1 ≡ None) same.0 none) refused;
}

-- a plan that is accepted, with its turns and events
run_lines : (lines : List (List ℕ)) (w : Writing) (status : ℕ) (k : RunnerKeys) (p : Plan) (ts : List Turn)
    (es : List AuditEvent) → IsAuditInput lines k p ts es → plan_refusal k p ≡ None
    → GetsJudged (settings_for k p) ts es w status → GetsLines lines w status
run_lines lines w status k p ts es says accepted gets = record {
  bad = λ n bad. audit_or_bad lines k p ts es n says bad;
  refused = λ l q us fs also e is.
      let same = one_audit lines k l p q ts us es fs says also in
      never_refused (plan_refusal k p) e accepted
      (subst (λ (x : RunnerKeys × Plan). plan_refusal x.0 x.1 ≡ Some e) same.0 is);
  judged = λ l q us fs also none.
      let same = one_audit lines k l p q ts us es fs says also in
      let plans = subst (λ (x : RunnerKeys × Plan). GetsJudged (settings_for x.0 x.1) ts es w status) (sym same.0)
      gets in
      let turns = subst (λ ts. GetsJudged (settings_for l q) ts es w status) (sym same.1) plans in
      subst (λ es. GetsJudged (settings_for l q) us es w status) (sym same.2) turns;
}

given_lines : (r : Reading) (w : Writing) (status : ℕ) (p : Settings) (ts : List Turn) (es : List AuditEvent)
    → (g : GivesAccepted r p ts es) → GetsJudged p ts es w status → GetsLines (lines_of g.given.bytes) w status
given_lines r w status p ts es g gets =
    run_lines (lines_of g.given.bytes) w status g.keys g.plan ts es g.given.says g.accepted
    (subst (λ s. GetsJudged s ts es w status) g.settings gets)

run_gets : (r : Reading) (w : Writing) (status : ℕ) (p : Settings) (ts : List Turn) (es : List AuditEvent)
    → GivesAccepted r p ts es → IsOther status → GetsJudged p ts es w status → GetsAudited r w status
run_gets r w status p ts es g x gets =
    gets_other r w status g.given.bytes g.given.all g.given.calm x (given_lines r w status p ts es g gets)

-- ---- a source that was not read

read_gets : (r : Reading) (w : Writing) (status : ℕ) → HasReadFault r → Gets status 10 → GetsAudited r w status
read_gets r w status rose gets = record {
  known = known gets;
  unread = λ lt. gets;
  read = λ is. rose;
  too_much = λ still much. absurd (still rose);
  bad_line = λ still number has. absurd (still rose);
  refused = λ still k p ts es has e is. absurd (still rose);
  judged = λ still k p ts es has none. absurd (still rose);
  unwritten = λ is. absurd (nine gets is);
  written = λ is. absurd (said gets is);
}
  where
    known : Gets status 10 → Contains audit_statuses status
    known (inl is) = subst (Contains audit_statuses) (sym is) (listed 8 10 (omega arith) refl)
    known (inr is) = subst (Contains audit_statuses) (sym is) (listed 9 11 (omega arith) refl)

    nine : Gets status 10 → status ≡ 9 → ⊥
    nine (inl is) e = omega (arith, is, e)
    nine (inr is) e = omega (arith, is, e)

    said : Gets status 10 → (status ≡ 0) ⊎ (status ≡ 1) → ⊥
    said (inl is) e = not_said status (omega (arith, is)) e
    said (inr is) e = not_said status (omega (arith, is)) e

long_gets : (r : Reading) (w : Writing) (status : ℕ) → IsTooLong r → r.faults_after ≡ r.faults → Gets status 12
    → GetsAudited r w status
long_gets r w status long calm gets =
    let x = other_by status 12 gets other_12 in
    record {
      known = x.known;
      unread = λ lt. absurd (omega (arith, lt, calm));
      read = λ is. absurd (x.not_read is);
      too_much = λ still much. gets;
      bad_line = λ still number has. absurd (not_too_long r has.bytes has.told has.within long);
      refused = λ still k p ts es has e is. absurd (not_too_long r has.bytes has.told has.within long);
      judged = λ still k p ts es has none. absurd (not_too_long r has.bytes has.told has.within long);
      unwritten = λ is. absurd (x.not_unwritten is);
      written = λ is. absurd (x.not_verdict is);
    }

memory_gets : (r : Reading) (w : Writing) (status : ℕ) → r.faults_after ≡ r.faults → status ≡ 11
    → GetsAudited r w status
memory_gets r w status calm is =
    let x : IsOther status = subst IsOther (sym is) other_11 in
    record {
      known = x.known;
      unread = λ lt. inr is;
      read = λ ten. absurd (x.not_read ten);
      too_much = λ still much. inr is;
      bad_line = λ still number has. inr is;
      refused = λ still k p ts es has e refused. inr is;
      judged = λ still k p ts es has none. eleven_gets (settings_for k p) ts es w status is;
      unwritten = λ nine. absurd (x.not_unwritten nine);
      written = λ said. absurd (x.not_verdict said);
    }

same_eleven : (status : ℕ) → Gets status 11 → status ≡ 11
same_eleven status (inl is) = is
same_eleven status (inr is) = is

-- ---- each answer

fault_causes : (r : Reading) (w : Writing) (fault : Fault) (status : ℕ) → IsAuditFault r fault
    → Gets status (fault_status fault) → GetsAudited r w status
fault_causes r w plain.Read status why gets = read_gets r w status why.1 gets
fault_causes r w plain.TooLong status why gets = long_gets r w status why.0 why.1 gets
fault_causes r w plain.Memory status why gets = memory_gets r w status why (same_eleven status gets)
fault_causes r w (plain.Line number) status why gets =
    gets_other r w status why.bytes why.all why.calm (other_by status 3 gets other_3)
    (line_lines (lines_of why.bytes) w status number why.bad gets)
fault_causes r w (plain.Plan fault) status (k, p, ts, es, g, (e, refused, is)) gets =
    gets_other r w status g.bytes g.all g.calm (other_by status 5 gets other_5)
    (plan_lines (lines_of g.bytes) w status k p ts es e g.says refused gets)
fault_causes r w (plain.NotEnabled place) status (p, ts, es, g, stops) gets =
    run_gets r w status p ts es g (other_by status 6 gets other_6)
    (stop_gets p ts es w status place false stops gets)
fault_causes r w (plain.ThirdSignal place) status (p, ts, es, g, stops) gets =
    run_gets r w status p ts es g (other_by status 7 gets other_7) (stop_gets p ts es w status place true stops gets)
fault_causes r w plain.Unfinished status (p, ts, es, g, going) gets =
    run_gets r w status p ts es g (other_by status 8 gets other_8) (going_gets p ts es w status going gets)
fault_causes r w plain.Words status why gets = absurd why
fault_causes r w plain.Report status why gets = absurd why

verdict_known : (verdict : Verdict) → Contains audit_statuses (audit_status verdict)
    × (audit_status verdict < 2)
verdict_known Yes = (listed 0 0 (omega arith) refl, omega arith)
verdict_known (No law place) = (listed 1 1 (omega arith) refl, omega arith)

verdict_causes : (r : Reading) (w : Writing) (verdict : Verdict) (status : ℕ) → HasVerdict r verdict
    → EndsWithVerdict w verdict status → GetsAudited r w status
verdict_causes r w verdict status (p, ts, es, g, right) (inl (is, took, calm)) =
    let known = verdict_known verdict in
    gets_read r w status g.given.bytes g.given.all g.given.calm
    (subst (Contains audit_statuses) (sym is) known.0) (λ ten. omega (arith, ten, is, known.1))
    (λ nine. absurd (omega (arith, nine, is, known.1))) (λ said. calm)
    (given_lines r w status p ts es g (said_gets p ts es w verdict status right is calm))
verdict_causes r w verdict status (p, ts, es, g, right) (inr (inl (is, front, le, rose))) =
    gets_read r w status g.given.bytes g.given.all g.given.calm
    (subst (Contains audit_statuses) (sym is) (listed 7 9 (omega arith) refl)) (λ ten. omega (arith, ten, is))
    (λ nine. rose) (λ said. absurd (not_said status (omega (arith, is)) said))
    (given_lines r w status p ts es g (unsaid_gets p ts es w verdict status right is rose))
verdict_causes r w verdict status (p, ts, es, g, right) (inr (inr (is, short))) =
    memory_gets r w status g.given.calm is

-- what the program answers gives each cause its status
pub audit_causes : (r : Reading) (w : Writing) (status : ℕ) → AnswersAuditor r w status → GetsAudited r w status
audit_causes r w status (inl (verdict, has, ends)) = verdict_causes r w verdict status has ends
audit_causes r w status (inr (fault, why, ends)) = fault_causes r w fault status why (fault_gets w fault status ends)
