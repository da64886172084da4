-- A sub-run tells of its setup scripts what is due of them, one by one.
use Rattle.std.proofs.Common.{◌≡◌, inl, inr, ℕ, ◌+◌, ◌<◌, ◌||◌, List, [], ◌∷◌, ◌++◌, map, Bool, true, false}
use Rattle.std.proofs.Common.{Option, Some, None, filter_map, count_by, cond}
use Rattle.std.proofs.Common.{refl, ap, sym, subst, ◌∙◌, append_assoc}
use Rattle.std.specs.List.{All, flat_map, list_any, range_with_len}
use Rattle.std.proofs.lemmas.List.Elements.{All-head, All-tail, filter_map-append}
use Rattle.std.proofs.lemmas.List.Folds.{list_any-append}
use Rattle.std.proofs.lemmas.List.Sums.{sum_by-append, sum_by-cons}
use Rattle.run_events.specs.declared.cancel.CancelReason.{CancelReason}
use Rattle.run_events.specs.declared.events.ReporterEvent.{ReporterEvent}
use Rattle.run_events.specs.declared.events.ReporterEvent.TheVariants.{Tick, Test}
use Rattle.run_events.specs.declared.events.TestEventKind.{TestEventKind}
use Rattle.run_events.specs.declared.events.TestEventKind.TheVariants as kinds
use Rattle.run_events.specs.declared.settings.Settings.{Settings}
use Rattle.run_events.specs.declared.stress.StressIndex.{StressIndex}
use Rattle.run_model.specs.declared.happening.Happening.{Happening}
use Rattle.run_model.specs.Admission.{scripts_in}
use Rattle.run_model.specs.Words.{finishes, starts, told}
use Rattle.run_laws.specs.Scripts.{ComeFirst, HasScriptFate, IsToldAsRead, starts_test, starts_test_in}
use Rattle.run_laws_cancel.specs.Scripts.{ComeInTurn}
use Rattle.run_laws_events.specs.Names.{NamesThePlan}
use Rattle.run_audit_model.specs.Seen.{as_audited, audited_kind, cancel_seen}
use Rattle.run_audit_model.specs.SeenScripts.{KeepsScripts, begins_script, begins_test, due_script}
use Rattle.run_audit_model.specs.SeenScripts.{ends_script, seen_script}
use Rattle.run_audit_model.specs.declared.audit_event.AuditEvent.{AuditEvent}
use Rattle.run_audit_model.specs.declared.audit_event.AuditEvent.TheVariants as seen
use Rattle.run_laws_audit.specs.Due.{script_news}
use Rattle.run_laws_audit.specs.Plain.{HasPlainStatus}
use Rattle.run_laws_audit.proofs.EdgeLemmas.{IsEdge, Ignores, between_edges}
use Rattle.run_laws_audit.proofs.KeptLemmas.{any_in, kept_count, split_seen}
use Rattle.run_laws_audit.proofs.ListLemmas.{within_edges}
use Rattle.run_laws_audit.proofs.ScriptOrder.{IsBalanced, balanced, begins_this}
use Rattle.run_laws_audit.proofs.ScriptOrder.{ends_this, in_order, is_began, is_ended}
use Rattle.run_laws_audit.proofs.SumLemmas.{none-add}
use Rattle.run_laws_audit.proofs.ReadLemmas.{scripts_read}
use Rattle.run_laws_audit.proofs.ScriptNewsTold.{all_within, any_finished, any_started, due_by_fate, due_short}
use Rattle.run_laws_audit.proofs.ScriptNewsTold.{script_is, turn_told}

-- a start of a test, and the begin and the end of a script, by what is seen
cancel_kind : (why : Option CancelReason) (kill : Bool) → begins_test (cancel_seen why kill) ≡ false
cancel_kind None kill = refl
cancel_kind (Some reason) kill = refl

test_start : (e : ReporterEvent) → begins_test (as_audited e) ≡ starts_test e
test_start Tick = refl
test_start (Test event) = by_kind event.kind
  where
    by_kind : (kind : TestEventKind) → begins_test (audited_kind kind) ≡ starts_test_in kind
    by_kind (kinds.RunBeginCancel event) = cancel_kind event.stats.cancel_reason false
    by_kind (kinds.RunBeginKill event) = cancel_kind event.stats.cancel_reason true
    by_kind kind = refl

begun_seen : (e : AuditEvent) → begins_script e ≡ any_in is_began (seen_script e)
begun_seen (seen.ScriptStarted index) = refl
begun_seen (seen.ScriptFinished index status) = refl
begun_seen e = refl

ended_seen : (e : AuditEvent) → ends_script e ≡ any_in is_ended (seen_script e)
ended_seen (seen.ScriptStarted index) = refl
ended_seen (seen.ScriptFinished index status) = refl
ended_seen e = refl

-- what is needed of all that a sub-run that has ended tells
pub record TellsScripts (p : Settings) (index : Option StressIndex) (run : List Happening) : Type 0 where
  pub named : All (NamesThePlan p index) (told run)
  pub said : All (IsToldAsRead run) (told run)
  pub fates : (k : ℕ) → k < scripts_in p → HasScriptFate p run k
  pub turn : ComeInTurn p (told run)
  pub first : ComeFirst p (told run)

-- so it tells what is due, script after script
pub news_due : (p : Settings) (index : Option StressIndex) (run : List Happening) → TellsScripts p index run
    → filter_map script_news (told run) ≡ flat_map (due_script p run) (range_with_len 0 (scripts_in p))
news_due p index run so =
    in_order (scripts_in p) (due_script p run) (λ k below. due_short p run k (so.fates k below)) (scripts_in p) 0
    (filter_map script_news (told run)) (none-add (scripts_in p)) (all_within p index (told run) so.named)
    (λ k above below. script_is p index run k below (told run) so.named so.said
    ∙ due_by_fate p run k (so.fates k below))
    (turn_told p index (told run) so.named so.turn)

-- and no test starts while a script runs
apart_so : (p : Settings) (index : Option StressIndex) (run : List Happening) → TellsScripts p index run
    → All HasPlainStatus (told run) → (before after : List AuditEvent) (e : AuditEvent)
    → map as_audited (told run) ≡ before ++ e ∷ after
    → begins_test e ≡ true → count_by begins_script before ≡ count_by ends_script before
apart_so p index run so plain before after e is test =
    by_balance (balanced (scripts_in p) (due_script p run) (λ k below. due_short p run k (so.fates k below))
    (scripts_in p) 0 (filter_map seen_script before) (filter_map seen_script (e ∷ after)) (none-add (scripts_in p))
    (sym (scripts_read (told run) plain ∙ news_due p index run so) ∙ ap (filter_map seen_script) is
    ∙ filter_map-append seen_script before (e ∷ after)))
  where
    by_balance : IsBalanced (scripts_in p) (due_script p run) (λ k below. due_short p run k (so.fates k below)) 0
        (filter_map seen_script before) → count_by begins_script before ≡ count_by ends_script before
    by_balance (inl same) =
        kept_count begins_script is_began seen_script begun_seen before ∙ same
        ∙ sym (kept_count ends_script is_ended seen_script ended_seen before)
    by_balance (inr (j, least, below, some, none)) =
        let at = split_seen as_audited (told run) before e after is in
        let earlier = within_edges (NamesThePlan p index) [] at.before (at.element ∷ at.after)
        (subst (All (NamesThePlan p index)) at.is so.named) in
        let seen_before : filter_map script_news at.before ≡ filter_map seen_script before =
        sym (scripts_read at.before (within_edges HasPlainStatus [] at.before (at.element ∷ at.after)
        (subst (All HasPlainStatus) at.is plain))) ∙ ap (filter_map seen_script) at.earlier in
        let begun : list_any (starts j) at.before ≡ true =
        any_started p index j below at.before earlier ∙ ap (list_any (begins_this j)) seen_before ∙ some in
        let over : list_any (finishes j) at.before ≡ true =
        so.first j at.before at.after at.element below at.is
        (sym (test_start at.element) ∙ ap begins_test at.here ∙ test)
        (ap (list_any (starts j)) at.is ∙ list_any-append (starts j) at.before (at.element ∷ at.after)
        ∙ ap (λ b. b || list_any (starts j) (at.element ∷ at.after)) begun) in
        let never : false ≡ true =
        sym none ∙ ap (list_any (ends_this j)) (sym seen_before) ∙ sym (any_finished p index j below at.before earlier)
        ∙ over in cc

pub scripts_kept : (p : Settings) (index : Option StressIndex) (run : List Happening) → TellsScripts p index run
    → All HasPlainStatus (told run) → KeepsScripts p run (map as_audited (told run))
scripts_kept p index run so plain = record {
  told = scripts_read (told run) plain ∙ news_due p index run so;
  apart = apart_so p index run so plain;
}

-- edges tell of no script
edge_script : (e : AuditEvent) → IsEdge e → seen_script e ≡ None
edge_script seen.RunStarted edge = refl
edge_script seen.RunFinished edge = refl
edge_script seen.SubRunStarted edge = refl
edge_script seen.SubRunFinished edge = refl
edge_script e edge = absurd edge

-- nor count as the begin or the end of one
edges_count : (test : AuditEvent → Bool) → ((e : AuditEvent) → IsEdge e → test e ≡ false) → (events : List AuditEvent)
    → All IsEdge events → count_by test events ≡ 0
edges_count test none [] all = refl
edges_count test none (e ∷ events) all =
    sum_by-cons (λ e. cond (test e) 1 0) e events
    ∙ ap (λ b. cond b 1 0 + count_by test events) (none e (All-head IsEdge e events all))
    ∙ none-add (count_by test events) ∙ edges_count test none events (All-tail IsEdge e events all)

edge_begins : (e : AuditEvent) → IsEdge e → begins_script e ≡ false
edge_begins seen.RunStarted edge = refl
edge_begins seen.RunFinished edge = refl
edge_begins seen.SubRunStarted edge = refl
edge_begins seen.SubRunFinished edge = refl
edge_begins e edge = absurd edge

edge_ends : (e : AuditEvent) → IsEdge e → ends_script e ≡ false
edge_ends seen.RunStarted edge = refl
edge_ends seen.RunFinished edge = refl
edge_ends seen.SubRunStarted edge = refl
edge_ends seen.SubRunFinished edge = refl
edge_ends e edge = absurd edge

after_edges : (test : AuditEvent → Bool) → ((e : AuditEvent) → IsEdge e → test e ≡ false)
    → (before events : List AuditEvent) → All IsEdge before → count_by test (before ++ events) ≡ count_by test events
after_edges test none before events opens =
    sum_by-append (λ e. cond (test e) 1 0) before events
    ∙ ap (λ n. n + count_by test events) (edges_count test none before opens) ∙ none-add (count_by test events)

pub ignores : (p : Settings) (run : List Happening) → Ignores (KeepsScripts p run)
ignores p run = record {
  between = λ before part after opens closes kept. record {
    told = sym (between_edges seen_script edge_script before part after opens closes) ∙ kept.told;
    apart = λ earlier later e is test.
        sym (after_edges begins_script edge_begins before earlier opens)
        ∙ kept.apart (before ++ earlier) (later ++ after) e
        (ap (λ es. before ++ (es ++ after)) is
        ∙ ap (λ es. before ++ es) (append_assoc earlier (e ∷ later) after)
        ∙ sym (append_assoc before earlier (e ∷ (later ++ after)))) test
        ∙ after_edges ends_script edge_ends before earlier opens;
  };
  start = λ part kept. record {
    told = kept.told;
    apart = λ before after e is test. by_before before e after kept is test;
  };
}
  where
    by_before : {part : List AuditEvent} (before : List AuditEvent) (e : AuditEvent) (after : List AuditEvent)
        → KeepsScripts p run part → seen.RunStarted ∷ part ≡ before ++ e ∷ after → begins_test e ≡ true
        → count_by begins_script before ≡ count_by ends_script before
    by_before [] e after kept is test = refl
    by_before (b ∷ before) e after kept is test =
        let same : seen.RunStarted ≡ b = cc in
        ap (λ b. count_by begins_script (b ∷ before)) (sym same)
        ∙ sum_by-cons (λ e. cond (begins_script e) 1 0) seen.RunStarted before
        ∙ none-add (count_by begins_script before) ∙ kept.apart before after e (cc) test
        ∙ sym (sum_by-cons (λ e. cond (ends_script e) 1 0) seen.RunStarted before
        ∙ none-add (count_by ends_script before))
        ∙ ap (λ b. count_by ends_script (b ∷ before)) same
