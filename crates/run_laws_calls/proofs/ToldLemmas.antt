-- What holds of each event that a turn tells holds of all that were told.
use Rattle.std.proofs.Common.{◌≡◌, ◌⊎◌, inl, inr, ℕ, List, [], ◌∷◌, ◌++◌, false, Option, Some, None, is_some}
use Rattle.std.proofs.Common.{option_and_then, option_to_list, refl, ap, sym, subst, ◌∙◌, ◌||◌, Bool, true}
use Rattle.std.proofs.Common.{if◌then◌else◌}
use Rattle.std.specs.Prelude.{IfSome}
use Rattle.std.specs.List.{All, list_any}
use Rattle.std.specs.Option.{option_or}
use Rattle.std.proofs.lemmas.List.Elements.{All-nil, All-cons, All-head, All-tail, All-append}
use Rattle.std.proofs.lemmas.List.Folds.{list_any-append}
use Rattle.run_events.specs.Cancel.{greater}
use Rattle.run_events.specs.declared.cancel.CancelReason.{CancelReason}
use Rattle.run_events.specs.declared.events.ReporterEvent.{ReporterEvent}
use Rattle.run_events.specs.declared.settings.Settings.{Settings}
use Rattle.run_model.specs.declared.entry.Entry.{Entry}
use Rattle.run_model.specs.declared.happening.Happening.{Happening}
use Rattle.run_model.specs.Board.{Deed, board, deed_events}
use Rattle.run_model.specs.Journal.{IsLegalBackward, history}
use Rattle.run_model.specs.Turns.{deed_on, happening}
use Rattle.run_model.specs.Words.{clock, ended_runs, events_in, joined_run, reason, sub_run, told}
use Rattle.run_laws.specs.Cancels.{IsCancelled, reason_told, rises}
use Rattle.run_laws.proofs.told.Cancelled.{cancelled_after}
use Rattle.run_laws.proofs.told.Cancels.{IsAfter}
use Rattle.run_laws.proofs.board.DeedFits.{cancel_told}
use Rattle.run_laws.proofs.board.Deeds.{base_of}
use Rattle.run_laws.proofs.board.Kept.{HoldsAfter, IsBeforeRuns, IsOfRun, does_after, from_base, holds, where_joins}
use Rattle.run_laws_calls.specs.Stops.{AreCausesTold, IsUnstopped, latest_reason, tells_cancel}
use Rattle.run_laws_calls.proofs.StopLemmas.{unstopped}
use Rattle.run_laws_calls.proofs.OwnLemmas.{HasKind, IsOwn, SaysReason, cancel_kind, own, says_reason}
use Rattle.run_laws.proofs.board.OnBoard.{frame_of}

-- an enabled turn after a legal journal: what it tells by itself, and as a cause
pub record Tells (p : Settings) (before : List Happening) (x : Happening) : Type 0 where
  pub own : IfSome x.told (IsOwn p)
  pub after : IsAfter x.after
  pub says : SaysReason x.after
  pub caused : IsCancelled p before x

pub tells : (p : Settings) (e : Entry) (before : List Entry) → IsLegalBackward p (e ∷ before)
    → Tells p (sub_run (history p before)) (happening p (history p before) e)
tells p e before legal = record {
  own = own p past e.turn h legal.0;
  after = cancel_told p (frame_of p past) (clock past) base d (does_after p past e h legal.0).marks;
  says = says_reason p (frame_of p past) (clock past) base d (does_after p past e h legal.0).marks;
  caused = cancelled_after p past e h legal.0;
}
  where
    past : List Happening
    past = history p before

    h : HoldsAfter p past
    h = holds p before legal.2

    d : Deed
    d = deed_on p (board p past) e.turn

    base : List Happening
    base = base_of d.begins (sub_run past)

-- each event is of its kind
each_if : (P : ReporterEvent → Type 0) (o : Option ReporterEvent) → ((e : ReporterEvent) → o ≡ Some e → P e)
    → All P (option_to_list o)
each_if P None h = All-nil P
each_if P (Some e) h = All-cons P e [] (h e refl) (All-nil P)

pub kinds : (p : Settings) (backward : List Entry) → IsLegalBackward p backward
    → All (HasKind p) (told (history p backward))
kinds p [] legal = All-nil (HasKind p)
kinds p (e ∷ before) legal =
    All-append (HasKind p) (told (history p before)) _ (kinds p before legal.2)
    (All-append (HasKind p) (option_to_list x.told) (option_to_list x.after)
    (each_if (HasKind p) x.told (λ event is. own_kind event (subst (λ o. IfSome o (IsOwn p)) is t.own)))
    (each_if (HasKind p) x.after (λ event is. cancel_kind p event (subst IsAfter is t.after))))
  where
    x : Happening
    x = happening p (history p before) e

    t : Tells p (sub_run (history p before)) x
    t = tells p e before legal

    own_kind : (event : ReporterEvent) → IsOwn p event → HasKind p event
    own_kind event is = is.number

-- the reason after one more turn is that of its event, if it tells that the run is cancelled, and else that before
latest-append : (xs ys : List ReporterEvent)
    → latest_reason (xs ++ ys) ≡ option_or (latest_reason ys) (latest_reason xs)
latest-append [] ys = or_none (latest_reason ys)
  where
    or_none : (o : Option CancelReason) → o ≡ option_or o None
    or_none None = refl
    or_none (Some r) = refl
latest-append (x ∷ xs) ys =
    ap (λ o. option_or o (reason_told x)) (latest-append xs ys)
    ∙ or_assoc (latest_reason ys) (latest_reason xs) (reason_told x)
  where
    or_assoc : (a b c : Option CancelReason) → option_or (option_or a b) c ≡ option_or a (option_or b c)
    or_assoc None b c = refl
    or_assoc (Some r) b c = refl

own_latest : (o : Option ReporterEvent) → IfSome o (λ event. reason_told event ≡ None)
    → latest_reason (option_to_list o) ≡ None
own_latest None h = refl
own_latest (Some e) h = rw h refl

own_any : (p : Settings) (o : Option ReporterEvent) → IfSome o (IsOwn p)
    → list_any tells_cancel (option_to_list o) ≡ false
own_any p None h = refl
own_any p (Some e) h = rw h.calm refl

-- the reason that is told after that, with the reason of the sub-run then
abbrev pub reason_after : Happening → Option CancelReason
reason_after x = option_and_then reason_told x.after

record Leaves (before cause after : Option CancelReason) : Type 0 where
  latest : greater before cause ≡ option_or after before
  any : is_some (greater before cause) ≡ (is_some before || is_some after)

leaves : (before cause after : Option CancelReason) → is_some after ≡ rises before cause
    → IfSome after (λ reason. Some reason ≡ cause) → Leaves before cause after
leaves None None None exactly is = record { latest = refl; any = refl }
leaves (Some b) None None exactly is = record { latest = refl; any = refl }
leaves before None (Some a) exactly is = cc
leaves None (Some c) None exactly is = cc
leaves None (Some c) (Some a) exactly is = record { latest = sym is; any = refl }
leaves (Some b) (Some c) None exactly is = record {
  latest = rw (sym exactly) refl;
  any = rw (sym exactly) refl;
}
leaves (Some b) (Some c) (Some a) exactly is = record {
  latest = rw (sym exactly) (sym is);
  any = rw (sym exactly) refl;
}

latest_after : (o : Option ReporterEvent) → latest_reason (option_to_list o) ≡ option_and_then reason_told o
latest_after None = refl
latest_after (Some e) = refl

-- so what is told of a sub-run, after one more turn
told_more : (p : Settings) (x : Happening) (run : List Happening) → IfSome x.told (IsOwn p)
    → IfSome x.told (λ event. reason_told event ≡ None) → SaysReason x.after
    → Leaves (reason run) x.cause (reason_after x) → AreCausesTold run → AreCausesTold (x ∷ run)
told_more p x run own calm says leaves h = record {
  any = leaves.any ∙ ap (λ b. b || is_some (reason_after x)) h.any
      ∙ ap (λ b. list_any tells_cancel (told run) || b) (sym says)
      ∙ sym (list_any-append tells_cancel (told run) (option_to_list x.told ++ option_to_list x.after)
      ∙ ap (λ b. list_any tells_cancel (told run) || b)
      (list_any-append tells_cancel (option_to_list x.told) (option_to_list x.after)
      ∙ ap (λ b. b || list_any tells_cancel (option_to_list x.after)) (own_any p x.told own)));
  latest = leaves.latest ∙ ap (λ o. option_or (reason_after x) o) h.latest
      ∙ ap (λ o. option_or o (latest_reason (told run))) (sym (latest_after x.after))
      ∙ sym (latest-append (told run) (option_to_list x.told ++ option_to_list x.after)
      ∙ ap (λ o. option_or o (latest_reason (told run)))
      (latest-append (option_to_list x.told) (option_to_list x.after)
      ∙ ap (λ o. option_or (latest_reason (option_to_list x.after)) o) (own_latest x.told calm)
      ∙ or_none (latest_reason (option_to_list x.after))));
}
  where
    or_none : (o : Option CancelReason) → option_or o None ≡ o
    or_none None = refl
    or_none (Some r) = refl

-- a turn that begins a sub-run is no cause, and so says no reason after it
pub rises_in : (p : Settings) (past : List Happening) (e : Entry) (of : IsOfRun p past e)
    → IsCancelled p (sub_run past) (happening p past e)
    → is_some (reason_after (happening p past e)) ≡ rises (reason of.base) (happening p past e).cause
rises_in p past e of caused = by_begin x.begins refl
  where
    x : Happening
    x = happening p past e

    by_begin : (b : Bool) → x.begins ≡ b → is_some (reason_after x) ≡ rises (reason of.base) x.cause
    by_begin true is =
        let none : x.cause ≡ None = (of.does.marks.begins is).1.cause in
        caused.exactly ∙ ap (rises (reason (sub_run past))) none ∙ sym (ap (rises (reason of.base)) none)
    by_begin false is =
        caused.exactly ∙ ap (λ run. rises (reason run) x.cause) (sym (of.is ∙ ap (λ b. base_of b (sub_run past)) is))

pub causes_told : (p : Settings) (backward : List Entry) → IsLegalBackward p backward
    → AreCausesTold (sub_run (history p backward))
causes_told p [] legal = record { any = refl; latest = refl }
causes_told p (e ∷ before) legal =
    by_run (where_joins p past e (holds p before legal.2) legal.0) (causes_told p before legal.2)
  where
    past : List Happening
    past = history p before

    x : Happening
    x = happening p past e

    t : Tells p (sub_run past) x
    t = tells p e before legal

    by_run : IsOfRun p past e ⊎ IsBeforeRuns p past e → AreCausesTold (sub_run past)
        → AreCausesTold (sub_run (x ∷ past))
    by_run (inl of) h =
        subst AreCausesTold (sym of.joins)
        (told_more p x of.base t.own t.caused.own t.says
        (leaves (reason of.base) x.cause (reason_after x) (rises_in p past e of t.caused) t.caused.with_reason)
        (from_base AreCausesTold p past e of (record { any = refl; latest = refl }) h))
    by_run (inr none) h = subst AreCausesTold (sym none.still) (record { any = refl; latest = refl })

-- and where none tells that the run is cancelled, nothing stopped
pub unstopped_by : (run : List Happening) → AreCausesTold run → list_any tells_cancel (told run) ≡ false → (k : ℕ)
    → IsUnstopped run k
unstopped_by run causes calm k = unstopped k run (causes.any ∙ calm)

-- what holds of each newest sub-run holds of each that has ended
pub each_ended : (P : List Happening → Type 0) (p : Settings)
    → ((backward : List Entry) → IsLegalBackward p backward → P (sub_run (history p backward)))
    → (backward : List Entry) → IsLegalBackward p backward → All P (ended_runs (history p backward))
each_ended P p newest [] legal = All-nil P
each_ended P p newest (e ∷ before) legal =
    by_end (happening p past e).ends (each_ended P p newest before legal.2)
  where
    past : List Happening
    past = history p before

    by_end : (b : Bool) → All P (ended_runs past)
        → All P (if b then sub_run (happening p past e ∷ past) ∷ ended_runs past else ended_runs past)
    by_end true earlier =
        All-cons P (sub_run (happening p past e ∷ past)) (ended_runs past) (newest (e ∷ before) legal) earlier
    by_end false earlier = earlier

pub both_each : (P Q R : List Happening → Type 0) → ((run : List Happening) → P run → Q run → R run)
    → (runs : List (List Happening)) → All P runs → All Q runs → All R runs
both_each P Q R give runs p q i d low = give _ (p i d low) (q i d low)

last_each : (P : ReporterEvent → Type 0) (earlier later : List ReporterEvent) → All P (earlier ++ later) → All P later
last_each P [] later all = all
last_each P (e ∷ earlier) later all = last_each P earlier later (All-tail P e (earlier ++ later) all)

first_each : (P : ReporterEvent → Type 0) (earlier later : List ReporterEvent) → All P (earlier ++ later)
    → All P earlier
first_each P [] later all = All-nil P
first_each P (e ∷ earlier) later all =
    All-cons P e earlier (All-head P e (earlier ++ later) all)
    (first_each P earlier later (All-tail P e (earlier ++ later) all))

-- and what holds of each event of each newest sub-run holds of each event
pub each_told : (P : ReporterEvent → Type 0) (p : Settings)
    → ((backward : List Entry) → IsLegalBackward p backward → All P (told (sub_run (history p backward))))
    → (backward : List Entry) → IsLegalBackward p backward → All P (told (history p backward))
each_told P p newest [] legal = All-nil P
each_told P p newest (e ∷ before) legal =
    All-append P (told past) (events_in x) (each_told P p newest before legal.2)
    (by_run (where_joins p past e (holds p before legal.2) legal.0))
  where
    past : List Happening
    past = history p before

    x : Happening
    x = happening p past e

    by_run : IsOfRun p past e ⊎ IsBeforeRuns p past e → All P (events_in x)
    by_run (inl of) =
        last_each P (told of.base) (events_in x)
        (subst (λ run. All P (told run)) of.joins (newest (e ∷ before) legal))
    by_run (inr none) = subst (λ d. All P (deed_events d)) (sym none.idle) (All-nil P)

-- and the other way round
pub each_newest : (P : ReporterEvent → Type 0) (past : List Happening) → All P (told past) → All P (told (sub_run past))
each_newest P [] all = all
each_newest P (x ∷ past) all = by_begin x.begins (each_newest P past (first_each P (told past) (events_in x) all))
  where
    last : All P (events_in x)
    last = last_each P (told past) (events_in x) all

    by_run : (run : List Happening) → All P (told run) → All P (told (joined_run x run))
    by_run [] earlier = All-nil P
    by_run (y ∷ run) earlier = All-append P (told (y ∷ run)) (events_in x) earlier last

    by_begin : (b : Bool) → All P (told (sub_run past))
        → All P (told (if b then x ∷ [] else joined_run x (sub_run past)))
    by_begin true earlier = last
    by_begin false earlier = by_run (sub_run past) earlier
