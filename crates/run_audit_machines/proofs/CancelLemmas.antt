-- The machine of cancels accepts just the events that keep their law, and leads to an end.
use Rattle.std.proofs.Common.{◌≡◌, ◌∙◌, ◌↔◌, ℕ, ◌==◌, List, [], ◌∷◌, reverse, Some, is_some}
use Rattle.std.proofs.Common.{Bool, true, false, ◌&&◌, ◌||◌, not, if◌then◌else◌, refl, sym, ap, ap₂, subst}
use Rattle.std.proofs.Common.{eq-eqb, eqb-true}
use Rattle.std.specs.List.{All, fold, list_any}
use Rattle.std.proofs.lemmas.Bool.{and_from, and_parts, not-true}
use Rattle.std.proofs.lemmas.List.Elements.{All-cons, All-nil}
use Rattle.run_events.specs.Cancel.{rank}
use Rattle.run_events.specs.declared.cancel.CancelReason.{CancelReason}
use Rattle.run_events.specs.declared.cancel.CancelReason.TheVariants as reasons
use Rattle.run_events.specs.declared.settings.Settings.{Settings}
use Rattle.run_model.specs.declared.happening.Happening.{Happening}
use Rattle.run_model.specs.Words.{ended_runs}
use Rattle.run_audit_model.specs.Kept.{OfEachRun}
use Rattle.run_audit_model.specs.Parts.{closes_part, is_stress}
use Rattle.run_audit_model.specs.Places.{Completes}
use Rattle.run_audit_model.specs.SeenCancels.{KeepsCancels, is_seen_any_start, seen_cancel}
use Rattle.run_audit_model.specs.declared.audit_event.AuditEvent.{AuditEvent}
use Rattle.run_audit_model.specs.declared.audit_event.AuditEvent.TheVariants as seen
use Rattle.run_audit_machines.specs.Cancels.{CancelPart, Cancelled, cancel_machine, cancel_part, cancel_parts}
use Rattle.run_audit_machines.specs.Cancels.{cancels_of}
use Rattle.run_audit_machines.specs.Cancels.{due_cancels, is_same_cancel, cancel_told, may_start}
use Rattle.run_audit_machines.specs.Machines.{HoldsInParts, InParts, IsTellable, PartCompletes, first_state, one_each}
use Rattle.run_audit_machines.proofs.DueLemmas.{telling_completes, telling_just}
use Rattle.run_audit_machines.specs.Machines.{AcceptsJust, IsSame}
use Rattle.run_audit_machines.proofs.RunLemmas.{ends_listed, parts_complete, runs_just}

-- ---- two cancels are told to be the same just where they are

at_rank : ℕ → CancelReason
at_rank n = if n == 0 then reasons.SetupScriptFailure else if n == 1 then reasons.TestFailure else
    if n == 2 then reasons.ReportError else if n == 3 then reasons.GlobalTimeout else
    if n == 4 then reasons.TestFailureImmediate else if n == 5 then reasons.Signal else
    if n == 6 then reasons.Interrupt else reasons.SecondSignal

at_own : (r : CancelReason) → at_rank (rank r) ≡ r
unfolding at_rank
at_own reasons.SetupScriptFailure = refl
at_own reasons.TestFailure = refl
at_own reasons.ReportError = refl
at_own reasons.GlobalTimeout = refl
at_own reasons.TestFailureImmediate = refl
at_own reasons.Signal = refl
at_own reasons.Interrupt = refl
at_own reasons.SecondSignal = refl

same_flag : (a b : Bool) → ((if a then b else not b) ≡ true) ↔ (a ≡ b)
same_flag true b = (λ h. sym h, λ h. sym h)
same_flag false true = (λ h. h, λ h. h)
same_flag false false = (λ h. refl, λ h. refl)

pub cancels_same : IsSame is_same_cancel
cancels_same a b = (
  λ h. let parts = and_parts (rank a.0 == rank b.0) (if a.1 then b.1 else not b.1) h in
      let one = sym (at_own a.0) ∙ ap at_rank (eqb-true (rank a.0) (rank b.0) parts.0) ∙ at_own b.0 in
      ap₂ (λ r k. (r, k)) one ((same_flag a.1 b.1).0 parts.1),
  λ h. and_from (rank a.0 == rank b.0) (if a.1 then b.1 else not b.1)
      (eq-eqb (rank a.0) (rank b.0) (ap (λ c. rank c.0) h)) ((same_flag a.1 b.1).1 (ap (λ c. c.1) h)),
)

-- ---- a part

or_turned : (one some told : Bool) → (some || (one || told)) ≡ ((one || some) || told)
or_turned true true told = refl
or_turned true false told = refl
or_turned false some told = refl

told_before : (told : Bool) (before : List AuditEvent)
    → fold cancel_told told before ≡ (list_any (λ c. is_some (seen_cancel c)) before || told)
told_before told [] = refl
told_before told (e ∷ before) =
    told_before (is_some (seen_cancel e) || told) before
    ∙ or_turned (is_some (seen_cancel e)) (list_any (λ c. is_some (seen_cancel c)) before) told

-- before a part none was told
none_told : (before : List AuditEvent) → fold cancel_told false before ≡ list_any (λ c. is_some (seen_cancel c)) before
none_told before = told_before false before ∙ or_none (list_any (λ c. is_some (seen_cancel c)) before)
  where
    or_none : (b : Bool) → (b || false) ≡ b
    or_none true = refl
    or_none false = refl

start_allowed : (starts told : Bool) → starts ≡ true → not (starts && told) ≡ true → told ≡ false
start_allowed starts told is allowed =
    not-true told (subst (λ s. not (s && told) ≡ true) is allowed)

allowed_start : (starts told : Bool) → (starts ≡ true → told ≡ false) → not (starts && told) ≡ true
allowed_start true told h = ap not (h refl)
allowed_start false told h = refl

pub cancels_just : (run : List Happening) → AcceptsJust cancel_part (cancels_of run) (KeepsCancels run)
cancels_just run part =
    let just = telling_just is_same_cancel cancels_same seen_cancel cancel_told may_start
    (due_cancels run) false part in (
      λ a. let h = just.0 a in record {
        told = h.0;
        no_start = λ before after e is starts.
            sym (none_told before) ∙ start_allowed (is_seen_any_start e) (fold cancel_told false before) starts
            (h.1 before after e is);
      },
      λ k. just.1 (
        k.told,
        λ before after e is.
            allowed_start (is_seen_any_start e) (fold cancel_told false before)
            (λ starts. none_told before ∙ k.no_start before after e is starts),
      ),
    )

-- ---- the run

pub cancels_are_law : (p : Settings) (past : List Happening) (now : InParts CancelPart (List CancelPart))
    → first_state one_each (is_stress p) (cancel_parts past) ≡ Some now
    → AcceptsJust cancel_machine now (OfEachRun p past KeepsCancels)
cancels_are_law p past now is =
    runs_just cancel_part cancels_of KeepsCancels cancels_just (is_stress p) (reverse (ended_runs past)) now is

-- each cancel can be told
pub cancel_tellable : (c : Cancelled) → IsTellable seen_cancel may_start c
cancel_tellable c = (seen.Cancel c.0 c.1, refl, λ stress. not_closing stress c.0 c.1, λ told. refl)
  where
    not_closing : (stress : Bool) (r : CancelReason) (k : Bool) → closes_part stress (seen.Cancel r k) ≡ false
    not_closing true r k = refl
    not_closing false r k = refl

pub all_tellable : (due : List Cancelled) → All (IsTellable seen_cancel may_start) due
all_tellable [] = All-nil (IsTellable seen_cancel may_start)
all_tellable (c ∷ due) = All-cons (IsTellable seen_cancel may_start) c due (cancel_tellable c) (all_tellable due)

pub cancel_part_completes : PartCompletes cancel_part (λ now. Unit {0})
cancel_part_completes =
    let whole = telling_completes is_same_cancel cancels_same seen_cancel cancel_told may_start in record {
      more = λ now h. whole.more now (all_tellable now.0);
      kept = λ now e after h is. tt;
    }

pub cancels_complete : Completes cancel_machine (HoldsInParts (λ now. Unit {0}) (λ coming. Unit {0}))
cancels_complete = parts_complete cancel_part one_each (λ now. Unit {0}) (λ coming. Unit {0}) cancel_part_completes
    (record {
      next = λ c s d h is. (tt, tt);
      ends = λ stress c h. ends_listed cancel_part (λ now. Unit {0}) cancel_part_completes stress c (all_hold c);
    })
  where
    all_hold : (c : List CancelPart) → All (λ now. Unit {0}) c
    all_hold c k d within = tt
