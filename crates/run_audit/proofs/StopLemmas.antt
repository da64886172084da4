-- Where events stop keeping a law, by what was told of each part.
use Rattle.std.proofs.Common.{◌≡◌, ◌∙◌, ℕ, List, [], ◌∷◌, map, length, reverse, filter_map}
use Rattle.std.proofs.Common.{Bool, true, false}
use Rattle.std.proofs.Common.{Option, Some, None, is_some, refl, sym, ap, true≢false}
use Rattle.std.proofs.Common.{arith, ◌<◌}
use Rattle.std.specs.List.{All}
use Rattle.std.proofs.lemmas.List.{length-map, length-reverse}
use Rattle.std.proofs.lemmas.List.Elements.{All-head, All-tail}
use Rattle.run_events.specs.declared.events.ReporterEvent.{ReporterEvent}
use Rattle.run_events.specs.declared.events.ReporterEvent.TheVariants.{Tick, Test}
use Rattle.run_events.specs.declared.events.TestEventKind.{TestEventKind}
use Rattle.run_events.specs.declared.events.TestEventKind.TheVariants.{RunBeginCancel, RunBeginKill}
use Rattle.run_events.specs.declared.settings.Settings.{Settings}
use Rattle.run_events.specs.declared.cancel.CancelReason.{CancelReason}
use Rattle.run_model.specs.declared.entry.Entry.{Entry}
use Rattle.run_model.specs.declared.happening.Happening.{Happening}
use Rattle.run_model.specs.Journal.{past_of}
use Rattle.run_model.specs.Words.{ended_runs, told}
use Rattle.run_audit_model.specs.Kept.{KeepsLaw}
use Rattle.run_audit_model.specs.Parts.{is_stress}
use Rattle.run_audit_model.specs.Seen.{audited_kind, cancel_seen}
use Rattle.run_audit_model.specs.declared.audit_event.AuditEvent.{AuditEvent}
use Rattle.run_audit_machines.specs.Cancels.{CancelPart, cancel_parts, cancels_of, due_cancels}
use Rattle.run_audit_machines.specs.Machines.{InParts, IsPlaceOf, first_state, one_each}
use Rattle.run_laws.proofs.told.FateLemmas.{over_ended}
use Rattle.run_laws_audit.specs.Due.{cancel_news}
use Rattle.run_laws_audit.specs.Split.{news_by_part}
use Rattle.run_laws_audit.proofs.CancelLemmas.{cancels_due}
use Rattle.run_laws_audit.proofs.EdgeLemmas.{IsEdge}
use Rattle.run_laws_audit.proofs.EndedLemmas.{all-reverse}
use Rattle.run_laws_audit.proofs.SplitLemmas.{IsOfNoEdge, split_told}
use Rattle.run_audit.specs.Needs.{AreNeedsOf, HasToldAll}
use Rattle.run_audit.specs.Stops.{StopsByLaw}
use Rattle.run_audit.specs.Told.{no_news, before_cancels}
use Rattle.run_audit.specs.declared.needs.Needs.{Needs}

-- news of no edge are split as the run's sub-runs told them
pub split_so : {Y : Type 0} (news : ReporterEvent → Option Y) → IsOfNoEdge news → (needs : Needs)
    (events : List ReporterEvent) (p : Settings) (journal : List Entry) → AreNeedsOf p needs
    → HasToldAll p journal events → news_by_part needs.stress news [] events
    ≡ map (λ run. filter_map news (told run)) (reverse (ended_runs (past_of p journal)))
split_so news none needs events p journal of has =
    ap (λ stress. news_by_part stress news [] events) of.stress ∙ ap (news_by_part (is_stress p) news []) has.is
    ∙ split_told news none p (reverse journal) has.legal has.over

-- so many parts were told as sub-runs have ended
pub parts_counted : (needs : Needs) (events : List ReporterEvent) (p : Settings) (journal : List Entry)
    → AreNeedsOf p needs → HasToldAll p journal events
    → length (ended_runs (past_of p journal)) ≡ length (news_by_part needs.stress no_news [] events)
parts_counted needs events p journal of has =
    sym (ap length (split_so no_news (λ e edge. refl) needs events p journal of has)
    ∙ length-map (reverse (ended_runs (past_of p journal))) (λ run. filter_map no_news (told run))
    ∙ length-reverse (ended_runs (past_of p journal)))

pub shape_stops : (needs : Needs) (events : List ReporterEvent) (audited : List AuditEvent) (parts : ℕ)
    (stop : Option ℕ) → parts ≡ length (news_by_part needs.stress no_news [] events)
    → ((p : Settings) (past : List Happening) → is_stress p ≡ needs.stress → length (ended_runs past) ≡ parts
    → IsPlaceOf (KeepsLaw p past 1) audited stop) → StopsByLaw 1 needs events audited stop
shape_stops needs events audited parts stop is places p journal of has =
    places p (past_of p journal) (sym of.stress) (parts_counted needs events p journal of has ∙ sym is)

-- no edge tells a cancel
no_cancel : (o : Option CancelReason) (kill : Bool) → ¬ (IsEdge (cancel_seen o kill))
no_cancel None kill edge = edge
no_cancel (Some reason) kill edge = edge

cancel_none : IsOfNoEdge cancel_news
cancel_none Tick edge = absurd edge
cancel_none (Test event) edge = by_kind event.kind edge
  where
    by_kind : (kind : TestEventKind) → IsEdge (audited_kind kind)
        → cancel_news (Test (record event { kind = kind })) ≡ None
    by_kind (RunBeginCancel cancelled) edge = absurd (no_cancel cancelled.stats.cancel_reason false edge)
    by_kind (RunBeginKill cancelled) edge = absurd (no_cancel cancelled.stats.cancel_reason true edge)
    by_kind kind edge = refl

-- what is the same of each element is the same of the list
pub same_each : {X Y : Type 0} (f g : X → Y) (xs : List X) → All (λ x. f x ≡ g x) xs → map f xs ≡ map g xs
same_each f g [] all = refl
same_each f g (x ∷ xs) all =
    let first : f x ≡ g x = All-head (λ x. f x ≡ g x) x xs all in
    ap (λ y. y ∷ map f xs) first ∙ ap (λ ys. g x ∷ ys) (same_each f g xs (All-tail (λ x. f x ≡ g x) x xs all))

-- what is due of cancels was told
cancels_told : (needs : Needs) (events : List ReporterEvent) (p : Settings) (journal : List Entry) → AreNeedsOf p needs
    → HasToldAll p journal events → map before_cancels (news_by_part needs.stress cancel_news [] events)
    ≡ cancel_parts (past_of p journal)
cancels_told needs events p journal of has =
    ap (map before_cancels) (split_so cancel_news cancel_none needs events p journal of has)
    ∙ map_twice (reverse (ended_runs (past_of p journal)))
    ∙ same_each (λ run. before_cancels (filter_map cancel_news (told run))) (λ run. before_cancels (due_cancels run))
    (reverse (ended_runs (past_of p journal)))
    (all-reverse (λ run. before_cancels (filter_map cancel_news (told run)) ≡ before_cancels
    (due_cancels run))
    (ended_runs (past_of p journal)) (paired (ended_runs (past_of p journal)) (cancels_due p (reverse journal)
    has.legal)))
  where
    map_twice : (runs : List (List Happening))
        → map before_cancels (map (λ run. filter_map cancel_news (told run)) runs)
        ≡ map (λ run. before_cancels (filter_map cancel_news (told run))) runs
    map_twice [] = refl
    map_twice (run ∷ runs) = ap (λ ps. before_cancels (filter_map cancel_news (told run)) ∷ ps) (map_twice runs)

    paired : (runs : List (List Happening)) → All (λ run. filter_map cancel_news (told run) ≡ due_cancels run) runs
        → All (λ run. before_cancels (filter_map cancel_news (told run)) ≡ before_cancels (due_cancels run)) runs
    paired runs all i d low = ap before_cancels (all i d low)

-- a run that is over has a first state
pub one_told : {S : Type 0} (stress : Bool) (coming : List S) → (stress ≡ false → coming ≡ [] → ⊥)
    → first_state one_each stress coming ≡ None → ⊥
one_told true coming some is = true≢false (ap is_some is)
one_told false [] some is = some refl refl
one_told false (s ∷ coming) some is = true≢false (ap is_some is)

pub cancel_stops : (needs : Needs) (events : List ReporterEvent) (audited : List AuditEvent) (coming : List CancelPart)
    (law : InParts CancelPart (List CancelPart)) (stop : Option ℕ)
    → coming ≡ map before_cancels (news_by_part needs.stress cancel_news [] events)
    → first_state one_each needs.stress coming ≡ Some law
    → ((p : Settings) (past : List Happening) → first_state one_each (is_stress p) (cancel_parts past) ≡ Some law
    → IsPlaceOf (KeepsLaw p past 4) audited stop) → StopsByLaw 4 needs events audited stop
cancel_stops needs events audited coming law stop is first places p journal of has =
    places p (past_of p journal)
    (ap (λ coming. first_state one_each (is_stress p) coming) (sym (is ∙ cancels_told needs events p journal of has))
    ∙ ap (λ stress. first_state one_each stress coming) (sym of.stress) ∙ first)

-- some part was told of a run that is over
pub cancel_some : (needs : Needs) (events : List ReporterEvent) (audited : List AuditEvent) (coming : List CancelPart)
    → coming ≡ map before_cancels (news_by_part needs.stress cancel_news [] events)
    → first_state one_each needs.stress coming ≡ None → StopsByLaw 4 needs events audited None
cancel_some needs events audited coming is none p journal of has =
    absurd (one_told needs.stress coming (λ single empty. by_length (ap length (sym empty ∙ whole))) none)
  where
    runs : List (List Happening)
    runs = ended_runs (past_of p journal)

    whole : coming ≡ cancel_parts (past_of p journal)
    whole = is ∙ cancels_told needs events p journal of has

    by_length : 0 ≡ length (cancel_parts (past_of p journal)) → ⊥
    by_length empty =
        let some = over_ended p (reverse journal) has.legal has.over in
        let below : some.0 < length runs = some.1 in
        let count : length (cancel_parts (past_of p journal)) ≡ length runs =
        length-map (reverse runs) cancels_of ∙ length-reverse runs in
        omega (arith, empty, below, count)
