-- Where events stop telling what is due of setup scripts and of tests, by what was told of each part.
use Rattle.std.proofs.Common.{◌≡◌, ◌∙◌, ◌<◌, ℕ, List, [], ◌∷◌, map, length, reverse, Option, Some, None, refl, sym, ap}
use Rattle.std.proofs.Common.{get_or, ap₂, subst, arith, Bool}
use Rattle.std.specs.List.{All}
use Rattle.std.proofs.lemmas.List.{length-map, length-reverse}
use Rattle.std.proofs.lemmas.List.Elements.{All-nil, All-cons, All-head, All-map, All-tail}
use Rattle.run_events.specs.declared.events.ReporterEvent.{ReporterEvent}
use Rattle.run_events.specs.declared.plan.TestInstanceId.{TestInstanceId}
use Rattle.run_events.specs.declared.settings.Settings.{Settings}
use Rattle.run_model.specs.declared.entry.Entry.{Entry}
use Rattle.run_model.specs.declared.happening.Happening.{Happening}
use Rattle.run_model.specs.Journal.{past_of}
use Rattle.run_model.specs.Words.{ended_runs}
use Rattle.run_model.specs.Reruns.{is_one_test}
use Rattle.run_audit_model.specs.Kept.{KeepsLaw}
use Rattle.run_audit_model.specs.Parts.{is_stress}
use Rattle.run_audit_model.specs.SeenScripts.{ScriptNews}
use Rattle.run_audit_model.specs.SeenTests.{TestNews, seen_test}
use Rattle.run_audit_model.specs.declared.audit_event.AuditEvent.{AuditEvent}
use Rattle.run_audit_machines.specs.Accounts.{CanTellEach, accounts_seen}
use Rattle.run_audit_machines.specs.Machines.{HoldsInParts, InParts, IsPlaceOf, first_state, one_each}
use Rattle.run_audit_machines.specs.Scripts.{CanTellScripts, ScriptPart, before_scripts, due_scripts}
use Rattle.run_audit_machines.specs.Tests.{CanTellTests, TestPart, accounts_of}
use Rattle.run_audit_passes.specs.declared.due_script.DueScript.{DueScript}
use Rattle.run_audit_passes.specs.declared.due_test.DueTest.{DueTest}
use Rattle.run_laws.proofs.told.FateLemmas.{over_ended}
use Rattle.run_laws_audit.specs.Due.{script_news, test_news}
use Rattle.run_laws_audit.specs.Plain.{HasPlainStatus}
use Rattle.run_laws_audit.specs.Split.{news_by_part}
use Rattle.run_audit.specs.Needs.{HasTestPlaces, HasToldAll}
use Rattle.run_audit.specs.Stops.{StopsByLaw}
use Rattle.run_audit.specs.Told.{Known, accounts_by_part, accounts_told, no_accounts, script_known, script_part_known}
use Rattle.run_audit.specs.Told.{test_known}
use Rattle.run_audit.specs.declared.needs.Needs.{Needs}
use Rattle.run_audit.proofs.AccountLemmas.{split_accounts}
use Rattle.run_audit.proofs.PartLemmas.{accounts_so, scripts_by_part}
use Rattle.run_audit.proofs.StopLemmas.{one_told}
use Rattle.run_audit.proofs.TellableLemmas.{IsScriptTellable, IsTestTellable, accounts_tellable, all_by_part}
use Rattle.run_audit.proofs.TellableLemmas.{first_holds, script_tellable, test_tellable}

-- what is told of a run that is over has a part for each of its sub-runs, so not none
some_part : {S : Type 0} (needs : Needs) (events : List ReporterEvent) (p : Settings) (journal : List Entry)
    → HasToldAll p journal events → (coming : List S) → length coming ≡ length (ended_runs (past_of p journal))
    → first_state one_each needs.stress coming ≡ None → ⊥
some_part needs events p journal has coming many none =
    one_told needs.stress coming (λ single empty. by_length (ap length empty)) none
  where
    by_length : length coming ≡ 0 → ⊥
    by_length empty =
        let some = over_ended p (reverse journal) has.legal has.over in
        let below : some.0 < length (ended_runs (past_of p journal)) = some.1 in
        omega (arith, empty, below, many)

-- so many are the dues of sub-runs
as_many : {X Y Z : Type 0} (f : X → Z) (g : Y → Z) (xs : List X) (ys : List Y) → map f xs ≡ map g (reverse ys)
    → length xs ≡ length ys
as_many f g xs ys is =
    sym (length-map xs f) ∙ ap length is ∙ length-map (reverse ys) g ∙ length-reverse ys

-- ---- setup scripts

-- parts before their first event
script_parts : (coming : List (ScriptPart (DueScript Known))) (dues : List (List ScriptNews))
    → map script_part_known coming ≡ map before_scripts dues
    → (map before_scripts (map (λ part. part.0) coming) ≡ coming)
    × (map (map script_known) (map (λ part. part.0) coming) ≡ dues)
script_parts [] [] is = (refl, refl)
script_parts [] (due ∷ dues) is = cc
script_parts (part ∷ coming) [] is = cc
script_parts (part ∷ coming) (due ∷ dues) is =
    let first : script_part_known part ≡ before_scripts due = cc in
    let rest : map script_part_known coming ≡ map before_scripts dues = cc in
    let others = script_parts coming dues rest in (
      ap₂ (λ a b. a ∷ b) (ap (λ counts. (part.0, counts)) (sym (ap (λ part. part.1) first))) others.0,
      ap₂ (λ a b. a ∷ b) (ap (λ part. part.0) first) others.1,
    )

-- what is due of them can be told
scripts_each : (coming : List (ScriptPart (DueScript Known))) (dues : List (List ScriptNews))
    → map (map script_known) (map (λ part. part.0) coming) ≡ dues → All (All IsScriptTellable) dues
    → All (CanTellScripts script_known) coming
scripts_each [] dues is all = All-nil (CanTellScripts script_known)
scripts_each (part ∷ coming) [] is all = cc
scripts_each (part ∷ coming) (due ∷ dues) is all =
    let first : map script_known part.0 ≡ due = cc in
    let rest : map (map script_known) (map (λ part. part.0) coming) ≡ dues = cc in
    All-cons (CanTellScripts script_known) part coming
    (subst (All IsScriptTellable) (sym first) (All-head (All IsScriptTellable) due dues all))
    (scripts_each coming dues rest (All-tail (All IsScriptTellable) due dues all))

pub scripts_hold : (stress : Bool) (events : List ReporterEvent) (coming : List (ScriptPart (DueScript Known)))
    (law : InParts (ScriptPart (DueScript Known)) (List (ScriptPart (DueScript Known)))) → All HasPlainStatus events
    → map script_part_known coming ≡ map before_scripts (news_by_part stress script_news [] events)
    → first_state one_each stress coming ≡ Some law
    → HoldsInParts (CanTellScripts script_known) (All (CanTellScripts script_known)) law
scripts_hold stress events coming law plain is first =
    first_holds (CanTellScripts script_known) stress coming law
    (scripts_each coming dues (script_parts coming dues is).1
    (all_by_part stress script_news IsScriptTellable [] events (All-nil IsScriptTellable)
    (λ i d low. script_tellable (get_or events i d) (plain i d low)))) first
  where
    dues : List (List ScriptNews)
    dues = news_by_part stress script_news [] events

pub script_stops : (needs : Needs) (events : List ReporterEvent) (audited : List AuditEvent)
    (coming : List (ScriptPart (DueScript Known)))
    (law : InParts (ScriptPart (DueScript Known)) (List (ScriptPart (DueScript Known)))) (stop : Option ℕ)
    → map script_part_known coming ≡ map before_scripts (news_by_part needs.stress script_news [] events)
    → first_state one_each needs.stress coming ≡ Some law
    → ((p : Settings) (past : List Happening) (dues : List (List (DueScript Known)))
    → map (map script_known) dues ≡ map (due_scripts p) (reverse (ended_runs past))
    → first_state one_each (is_stress p) (map before_scripts dues) ≡ Some law
    → IsPlaceOf (KeepsLaw p past 5) audited stop) → StopsByLaw 5 needs events audited stop
script_stops needs events audited coming law stop is first places p journal of has =
    places p (past_of p journal) (map (λ part. part.0) coming)
    (parts.1 ∙ scripts_by_part needs events p journal of has)
    (ap (first_state one_each (is_stress p)) parts.0
    ∙ ap (λ stress. first_state one_each stress coming) (sym of.stress) ∙ first)
  where
    parts : (map before_scripts (map (λ part. part.0) coming) ≡ coming)
        × (map (map script_known) (map (λ part. part.0) coming) ≡ news_by_part needs.stress script_news [] events)
    parts = script_parts coming (news_by_part needs.stress script_news [] events) is

pub script_some : (needs : Needs) (events : List ReporterEvent) (audited : List AuditEvent)
    (coming : List (ScriptPart (DueScript Known)))
    → map script_part_known coming ≡ map before_scripts (news_by_part needs.stress script_news [] events)
    → first_state one_each needs.stress coming ≡ None → StopsByLaw 5 needs events audited None
script_some needs events audited coming is none p journal of has =
    absurd (some_part needs events p journal has coming
    (sym (length-map coming script_part_known) ∙ ap length is
    ∙ length-map (news_by_part needs.stress script_news [] events) before_scripts
    ∙ ap length (scripts_by_part needs events p journal of has) ∙ length-map (reverse runs) (due_scripts p)
    ∙ length-reverse runs) none)
  where
    runs : List (List Happening)
    runs = ended_runs (past_of p journal)

-- ---- tests

tests_each : (coming : List (TestPart (DueTest Known))) (dues : List (TestPart TestNews))
    → map (accounts_seen test_known) coming ≡ dues → All (CanTellEach is_one_test seen_test) dues
    → All (CanTellTests test_known) coming
tests_each [] dues is all = All-nil (CanTellTests test_known)
tests_each (part ∷ coming) [] is all = cc
tests_each (part ∷ coming) (due ∷ dues) is all =
    let first : accounts_seen test_known part ≡ due = cc in
    let rest : map (accounts_seen test_known) coming ≡ dues = cc in
    All-cons (CanTellTests test_known) part coming
    (subst (CanTellEach is_one_test seen_test) (sym first)
    (All-head (CanTellEach is_one_test seen_test) due dues all))
    (tests_each coming dues rest (All-tail (CanTellEach is_one_test seen_test) due dues all))

pub tests_hold : (needs : Needs) (events : List ReporterEvent) (coming : List (TestPart (DueTest Known)))
    (law : InParts (TestPart (DueTest Known)) (List (TestPart (DueTest Known)))) → HasTestPlaces needs
    → All HasPlainStatus events
    → map (accounts_seen test_known) coming
    ≡ accounts_by_part needs.stress needs.places (no_accounts needs.places) events
    → first_state one_each needs.stress coming ≡ Some law
    → HoldsInParts (CanTellTests test_known) (All (CanTellTests test_known)) law
tests_hold needs events coming law has plain is first =
    first_holds (CanTellTests test_known) needs.stress coming law
    (tests_each coming (map (accounts_told needs.places) news)
    (is ∙ split_accounts needs.stress needs.places [] events)
    (All-map (CanTellEach is_one_test seen_test) (accounts_told needs.places) news
    (λ i d low. accounts_tellable needs.places (get_or news i d) has.apart (each i d low)))) first
  where
    news : List (List (TestInstanceId × TestNews))
    news = news_by_part needs.stress test_news [] events

    each : All (All IsTestTellable) news
    each = all_by_part needs.stress test_news IsTestTellable [] events (All-nil IsTestTellable)
        (λ i d low. test_tellable (get_or events i d) (plain i d low))

pub test_stops : (needs : Needs) (events : List ReporterEvent) (audited : List AuditEvent)
    (coming : List (TestPart (DueTest Known)))
    (law : InParts (TestPart (DueTest Known)) (List (TestPart (DueTest Known)))) (stop : Option ℕ)
    → map (accounts_seen test_known) coming
    ≡ accounts_by_part needs.stress needs.places (no_accounts needs.places) events
    → first_state one_each needs.stress coming ≡ Some law
    → ((p : Settings) (past : List Happening) (dues : List (TestPart (DueTest Known)))
    → map (accounts_seen test_known) dues ≡ map (accounts_of p) (reverse (ended_runs past))
    → first_state one_each (is_stress p) dues ≡ Some law → IsPlaceOf (KeepsLaw p past 2) audited stop)
    → StopsByLaw 2 needs events audited stop
test_stops needs events audited coming law stop is first places p journal of has =
    places p (past_of p journal) coming (is ∙ accounts_so needs events p journal of has)
    (ap (λ stress. first_state one_each stress coming) (sym of.stress) ∙ first)

pub test_some : (needs : Needs) (events : List ReporterEvent) (audited : List AuditEvent)
    (coming : List (TestPart (DueTest Known)))
    → map (accounts_seen test_known) coming
    ≡ accounts_by_part needs.stress needs.places (no_accounts needs.places) events
    → first_state one_each needs.stress coming ≡ None → StopsByLaw 2 needs events audited None
test_some needs events audited coming is none p journal of has =
    absurd (some_part needs events p journal has coming
    (as_many (accounts_seen test_known) (accounts_of p) coming (ended_runs (past_of p journal))
    (is ∙ accounts_so needs events p journal of has)) none)
