-- The machine of setup scripts accepts just the events that keep their law, and leads to an end.
use Rattle.std.proofs.Common.{◌≡◌, ◌∙◌, ◌↔◌, ℕ, ◌+◌, ◌==◌, List, [], ◌∷◌, map, reverse, Some, cond, Bool}
use Rattle.std.proofs.Common.{true, false, ◌||◌, not, refl, sym, ap, ap₂, subst, eq-eqb, eqb-true, count_by}
use Rattle.std.proofs.Common.{add-zero, true≢false}
use Rattle.std.proofs.lemmas.Bool.{and_from, and_parts}
use Rattle.std.specs.List.{All, filter_map, fold}
use Rattle.run_events.specs.declared.settings.Settings.{Settings}
use Rattle.run_model.specs.declared.happening.Happening.{Happening}
use Rattle.run_model.specs.Words.{ended_runs}
use Rattle.run_audit_model.specs.Kept.{OfEachRun}
use Rattle.run_audit_model.specs.Parts.{is_stress, parts}
use Rattle.run_audit_model.specs.Places.{Completes}
use Rattle.run_audit_model.specs.SeenScripts.{KeepsScripts, ScriptNews, began, begins_script, begins_test, ended}
use Rattle.run_audit_model.specs.SeenScripts.{ends_script, seen_script}
use Rattle.run_audit_model.specs.Statuses.{Compared}
use Rattle.run_audit_model.specs.declared.audit_event.AuditEvent.{AuditEvent}
use Rattle.run_audit_model.specs.declared.audit_event.AuditEvent.TheVariants as seen
use Rattle.run_audit_machines.specs.Machines.{CanTell, HoldsInParts, InParts, PartCompletes, IsSeenAs, first_state}
use Rattle.run_audit_machines.specs.Machines.{one_each}
use Rattle.run_audit_machines.specs.Machines.{telling}
use Rattle.run_audit_machines.specs.Scripts.{CanTellScripts, ScriptPart, count_scripts, due_scripts, may_begin}
use Rattle.run_audit_machines.specs.Scripts.{same_script, script_machine, script_part, before_scripts}
use Rattle.run_audit_machines.proofs.DueLemmas.{telling_completes, telling_just}
use Rattle.run_audit_machines.specs.Machines.{AcceptsJust, IsSame}
use Rattle.run_audit_machines.proofs.MachineLemmas.{AllowsEach, seen_completes, seen_just, telling_seen}
use Rattle.run_audit_machines.proofs.RunLemmas.{listed_completes, pairs_same, runs_just}

-- ---- two tell the same just where they are the same

pub scripts_same : (same : Compared → Compared → Bool) → IsSame same → IsSame (same_script same)
scripts_same same is_same (began a) (began b) = (λ h. ap began (eqb-true a b h), λ h. eq-eqb a b (began_of a b h))
  where
    began_of : (a b : ℕ) → ◌≡◌ {A = ScriptNews} (began a) (began b) → a ≡ b
    began_of a b h = cc
scripts_same same is_same (began a) (ended b t) = (λ h. absurd (true≢false (sym h)), λ h. cc)
scripts_same same is_same (ended a s) (began b) = (λ h. absurd (true≢false (sym h)), λ h. cc)
scripts_same same is_same (ended a s) (ended b t) = (
  λ h. let parts = and_parts (a == b) (same s t) h in
      ap₂ ended (eqb-true a b parts.0) ((is_same s t).0 parts.1),
  λ h. and_from (a == b) (same s t) (eq-eqb a b (number_of a b s t h)) ((is_same s t).1 (status_of a b s t h)),
)
  where
    number_of : (a b : ℕ) (s t : Compared) → ◌≡◌ {A = ScriptNews} (ended a s) (ended b t) → a ≡ b
    number_of a b s t h = cc

    status_of : (a b : ℕ) (s t : Compared) → ◌≡◌ {A = ScriptNews} (ended a s) (ended b t) → s ≡ t
    status_of a b s t h = cc

-- ---- a part

one_counted : (a b : ℕ) (e : AuditEvent)
    → count_scripts (a, b) e ≡ (a + cond (begins_script e) 1 0, b + cond (ends_script e) 1 0)
one_counted a b (seen.ScriptStarted index) = ap (λ n. (a + 1, n)) (sym (add-zero b))
one_counted a b (seen.ScriptFinished index status) = ap (λ n. (n, b + 1)) (sym (add-zero a))
one_counted a b e = ap₂ (λ n m. (n, m)) (sym (add-zero a)) (sym (add-zero b))

counted : (a b : ℕ) (before : List AuditEvent) → fold count_scripts (a, b) before
    ≡ (fold (λ n e. n + cond (begins_script e) 1 0) a before, fold (λ n e. n + cond (ends_script e) 1 0) b before)
counted a b [] = refl
counted a b (e ∷ before) = ap (λ n. fold count_scripts n before) (one_counted a b e)
    ∙ counted (a + cond (begins_script e) 1 0) (b + cond (ends_script e) 1 0) before

counts : (before : List AuditEvent)
    → fold count_scripts (0, 0) before ≡ (count_by begins_script before, count_by ends_script before)
counts before = counted 0 0 before

test_allowed : (starts : Bool) (a b : ℕ) → starts ≡ true → (not starts || (a == b)) ≡ true → a ≡ b
test_allowed true a b is allowed = eqb-true a b allowed
test_allowed false a b is allowed = cc

allowed_test : (starts : Bool) (a b : ℕ) → (starts ≡ true → a ≡ b) → (not starts || (a == b)) ≡ true
allowed_test true a b h = eq-eqb a b (h refl)
allowed_test false a b h = refl

told_to : (p : Settings) (run : List Happening) (due : List ScriptNews) → due ≡ due_scripts p run
    → (part : List AuditEvent)
    → ((filter_map seen_script part ≡ due) × AllowsEach count_scripts may_begin (0, 0) part) ↔ KeepsScripts p run part
told_to p run due is_due part = (
  λ h. record {
    told = h.0 ∙ is_due;
    apart = λ before after e is starts.
        test_allowed (begins_test e) (count_by begins_script before) (count_by ends_script before) starts
        (subst (λ n. (not (begins_test e) || (n.0 == n.1)) ≡ true) (counts before) (h.1 before after e is));
  },
  λ k. (
    k.told ∙ sym is_due,
    λ before after e is.
        subst (λ n. (not (begins_test e) || (n.0 == n.1)) ≡ true) (sym (counts before))
        (allowed_test (begins_test e) (count_by begins_script before) (count_by ends_script before)
        (k.apart before after e is)),
  ),
)

script_seen : {Y : Type 0} (news : Y → ScriptNews) (same : ScriptNews → ScriptNews → Bool)
    → IsSeenAs (λ s. (map news s.0, s.1)) (script_part news same) (telling same seen_script count_scripts may_begin)
script_seen news same = telling_seen news same seen_script count_scripts may_begin

-- what a part is that tells what is due
abbrev TellsScripts : {Y : Type 0} → (Y → ScriptNews) → List Y → List AuditEvent → Type 0
TellsScripts news due part =
    (filter_map seen_script part ≡ map news due) × AllowsEach count_scripts may_begin (0, 0) part

script_just : {Y : Type 0} (news : Y → ScriptNews) (same : ScriptNews → ScriptNews → Bool) → IsSame same
    → (due : List Y)
    → AcceptsJust (script_part news same) (before_scripts due) (TellsScripts news due)
script_just news same is_same due = seen_just (λ s. (map news s.0, s.1)) (script_part news same)
    (telling same seen_script count_scripts may_begin) (script_seen news same) (before_scripts due)
    (TellsScripts news due) (telling_just same is_same seen_script count_scripts may_begin (map news due) (0, 0))

pub script_completes : {Y : Type 0} (news : Y → ScriptNews) (same : ScriptNews → ScriptNews → Bool) → IsSame same
    → PartCompletes (script_part news same) (CanTellScripts news)
script_completes news same is_same = seen_completes (λ s. (map news s.0, s.1)) (script_part news same)
    (telling same seen_script count_scripts may_begin) (script_seen news same) (CanTell seen_script may_begin)
    (telling_completes same is_same seen_script count_scripts may_begin)

-- ---- the run

pub scripts_are_law : {Y : Type 0} (news : Y → ScriptNews) (same : ScriptNews → ScriptNews → Bool) → IsSame same
    → (p : Settings) (past : List Happening) (dues : List (List Y))
    → map (map news) dues ≡ map (due_scripts p) (reverse (ended_runs past))
    → (now : InParts (ScriptPart Y) (List (ScriptPart Y))) → first_state one_each (is_stress p)
    (map before_scripts dues) ≡ Some now
    → AcceptsJust (script_machine news same) now (OfEachRun p past (KeepsScripts p))
scripts_are_law news same is_same p past dues are_due now is events =
    let runs = reverse (ended_runs past) in
    let whole = runs_just (script_part news same) before_scripts (TellsScripts news) (script_just news same is_same)
    (is_stress p) dues now is events in
    let each = pairs_same (map news) (due_scripts p) (TellsScripts news) (KeepsScripts p)
    (λ due run is_due part. told_to p run (map news due) is_due part) dues runs are_due (parts p events) in
    (λ a. each.0 (whole.0 a), λ k. whole.1 (each.1 k))

pub scripts_complete : {Y : Type 0} (news : Y → ScriptNews) (same : ScriptNews → ScriptNews → Bool) → IsSame same
    → Completes (script_machine news same) (HoldsInParts (CanTellScripts news) (All (CanTellScripts news)))
scripts_complete news same is_same =
    listed_completes (script_part news same) (CanTellScripts news) (script_completes news same is_same)
