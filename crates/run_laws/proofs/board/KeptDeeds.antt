-- What holds of the newest sub-run holds after one more deed that fits it.
use Rattle.std.proofs.Common.{◌≡◌, ℕ, ◌+◌, ◌<◌, ◌≤◌, ◌==◌, ◌&&◌, ◌||◌, List, [], ◌∷◌, ◌++◌, length, drop, Bool, true}
use Rattle.std.proofs.Common.{false, not, if◌then◌else◌, Option, Some, None, option_to_list, option_map, filter_map}
use Rattle.std.proofs.Common.{count_by, cond, refl, ap, sym, subst, ◌∙◌, arith, length-append}
use Rattle.std.specs.List.{All}
use Rattle.std.proofs.lemmas.List.Elements.{filter_map-append, All-nil, All-cons, All-append}
use Rattle.std.proofs.lemmas.List.Sums.{sum_by-append}
use Rattle.std.proofs.lemmas.Option.{same_Some}
use Rattle.run_events.specs.declared.settings.Settings.{Settings}
use Rattle.run_events.specs.declared.message.Message.{Message}
use Rattle.run_events.specs.declared.request.Request.{Request}
use Rattle.run_events.specs.declared.events.ReporterEvent.{ReporterEvent}
use Rattle.run_events.specs.declared.events.ReporterEvent.TheVariants.{Tick, Test}
use Rattle.run_events.specs.declared.events.TestEventKind.{TestEventKind}
use Rattle.run_events.specs.declared.events.TestEventKind.TheVariants.{SetupScriptFinished, TestFinished, TestSkipped}
use Rattle.run_model.specs.declared.entry.Entry.{Entry}
use Rattle.run_model.specs.declared.happening.Happening.{Happening}
use Rattle.run_model.specs.declared.happening.UnitPart.{UnitPart}
use Rattle.run_model.specs.declared.happening.UnitPart.TheVariants.{Joins, Acts}
use Rattle.run_model.specs.declared.unit_view.AttemptTerms.{AttemptTerms}
use Rattle.run_model.specs.declared.unit_view.UnitView.{UnitView}
use Rattle.run_model.specs.Unit.{at_moment, row, is_live, reach}
use Rattle.run_model.specs.Words.{events_in, ns_of, is_on, is_heard, heard, sent, delivered, queue, told}
use Rattle.run_model.specs.Words.{finish_of, finished, skips, skipped, unit_of, unit_after, units}
use Rattle.run_model.specs.Environment.{number_of, number}
use Rattle.run_model.specs.Admission.{is_script, units_in, unit_terms}
use Rattle.run_model.specs.Dispatch.{Moment, event}
use Rattle.run_model.specs.Board.{Deed, said}
use Rattle.run_model.specs.Accounts.{News, HasAccount, IsAccounted, is_mismatched, account_of, pending_of}
use Rattle.run_model.specs.Story.{own_turn, story_of, line_of, request_of, was_left}
use Rattle.run_laws.proofs.board.Holds.{Holds, HasLine, IsOfKind, IsNamed, is_script_role, way_of}
use Rattle.run_laws.proofs.units.AttemptLemmas.{IsMade, IsMadeIf, row_made_if, reach_made_if}
use Rattle.run_laws.proofs.board.Queue.{queue-cons}
use Rattle.run_laws.proofs.units.AccountLemmas.{IsFirst}
use Rattle.run_laws.proofs.units.RowSends.{IsOfKindIf}
use Rattle.run_laws.proofs.units.Rows.{row_keeps}
use Rattle.run_laws.proofs.units.LetGo.{on_way_after}
use Rattle.run_laws.proofs.board.Ordered.{IsOrdered, ordered_after}
use Rattle.run_laws.proofs.units.Lines.{own_request}
use Rattle.run_laws.proofs.units.LineMoves.{line_after}
use Rattle.run_laws.proofs.told.Cancels.{IsAfter, cancel_skips, cancel_finishes}
use Rattle.run_laws.proofs.told.Reported.{reported_after}
use Rattle.run_laws.proofs.board.DeedFits.{cancel_told, PartFits, left_with, left-cons, Does}
use Rattle.run_laws.proofs.board.RoundLemmas.{rounds_kept}
use Rattle.run_laws.proofs.board.Deeds.{does}
use Rattle.run_laws.proofs.board.OnBoard.{Frame, board_of, units-at, units-length}
use Rattle.std.proofs.Common.{nat_lt}
use Rattle.std.specs.List.{list_all}
use Rattle.run_laws.proofs.board.Holds.{IsStill}
use Rattle.run_model.specs.declared.phase.Phase.{Phase}
use Rattle.run_model.specs.declared.phase.Phase.TheVariants.{StartSent, Starting, Running, Grace, KillWait, Leak}
use Rattle.run_model.specs.declared.phase.Phase.TheVariants.{EnvWait, Deciding, Delay, RetrySent, Over}
use Rattle.run_commands.specs.declared.stress_count.StressCondition.{StressCondition}
use Rattle.run_model.specs.Turns.{ends_as}
use Rattle.run_model.specs.Admission.{is_last}
use Rattle.run_model.specs.Admission.{is_done}
use Rattle.run_model.specs.Turns.{is_complete, is_empty}
use Rattle.std.specs.Cmp.{second_so}
use Rattle.run_laws.proofs.board.Order.{all_at}

-- a request says nothing of an account, nor of the name of a unit
reach_account : (mm left : Bool) (request : Option Request) (v : Option UnitView) (t q : List News)
    → HasAccount mm left v t q → HasAccount mm left (reach request v) t q
reach_account mm left None v t q h = h
reach_account mm left (Some request) None t q h = h
reach_account mm left (Some request) (Some u) t q h = by_live (is_live u.phase)
  where
    by_live : (b : Bool) → HasAccount mm left (Some (if b then record u { line = u.line ++ request ∷ [] } else u)) t q
    by_live true = h
    by_live false = h

-- a unit of this number that took no turn later than now
abbrev IsUnit : Settings → ℕ → ℕ → UnitView → Type 0
IsUnit p now k u =
    (number u ≡ k) × (k < units_in p) × (u.latest ≤ now) × (is_script_role u.role ≡ is_script p k)

reach_named : (p : Settings) (now k : ℕ) (request : Option Request) (v : Option UnitView) → IsNamed p now k v
    → IsNamed p now k (reach request v)
reach_named p now k None v h = h
reach_named p now k (Some request) None h = λ u e. cc
reach_named p now k (Some request) (Some u) h = by_live (is_live u.phase)
  where
    at : IsUnit p now k u
    at = h u refl

    by_live : (b : Bool) → IsNamed p now k (Some (if b then record u { line = u.line ++ request ∷ [] } else u))
    by_live true w e = subst (IsUnit p now k) (same_Some _ _ e) (at.0, at.1, at.2, at.3)
    by_live false w e = subst (IsUnit p now k) (same_Some _ _ e) at

-- the account of a test after one more turn, from the parts of that turn
accounted-cons : (p : Settings) (k : ℕ) (x : Happening) (run : List Happening)
    → delivered (x ∷ run) ≤ length (sent run)
    → HasAccount (is_mismatched p k) (left_with k run x.part) (unit_after x.moment k x.part (unit_of k run))
    (account_of k (told run) ++ account_of k (events_in x))
    (pending_of k (drop (if x.taken then 1 else 0) (queue run) ++ option_to_list x.sent))
    → IsAccounted p k (x ∷ run)
accounted-cons p k x run fits h =
    rw (filter_map-append, queue-cons x run fits)
    (reach_account (is_mismatched p k) (was_left k (x ∷ run)) x.request
    (unit_after x.moment k x.part (unit_of k run)) _ _
    (subst (λ left. HasAccount (is_mismatched p k) left (unit_after x.moment k x.part (unit_of k run))
    (account_of k (told run) ++ account_of k (events_in x))
    (pending_of k (drop (if x.taken then 1 else 0) (queue run) ++ option_to_list x.sent))) (left-cons k x run) h))

-- a turn tells one skip or one finish at most
counted_one : (o : Option ReporterEvent)
    → count_by skips (option_to_list o ++ []) + length (filter_map finish_of (option_to_list o ++ [])) ≤ 1
counted_one None = omega arith
counted_one (Some Tick) = omega arith
counted_one (Some (Test e)) = by_kind e.kind
  where
    moment : Moment
    moment = record { clock = e.clock; elapsed = e.elapsed }

    by_kind : (kind : TestEventKind)
        → count_by skips (event moment kind ∷ []) + length (filter_map finish_of (event moment kind ∷ [])) ≤ 1
    by_kind (TestSkipped skip) = omega arith
    by_kind (TestFinished finish) = omega arith
    by_kind (SetupScriptFinished finish) = omega arith
    by_kind kind = omega arith

counted-cons : (x : Happening) (run : List Happening) → IsAfter x.after
    → skipped run + length (finished run) ≤ length run
    → skipped (x ∷ run) + length (finished (x ∷ run)) ≤ length (x ∷ run)
counted-cons x run none short =
    let plain : count_by skips (events_in x) ≡ count_by skips (option_to_list x.told ++ []) =
    sum_by-append (λ e. cond (skips e) 1 0) (option_to_list x.told) (option_to_list x.after)
    ∙ ap (λ n. count_by skips (option_to_list x.told) + n) (cancel_skips x.after none)
    ∙ sym (sum_by-append (λ e. cond (skips e) 1 0) (option_to_list x.told) []) in
    let same : filter_map finish_of (events_in x) ≡ filter_map finish_of (option_to_list x.told ++ []) =
    filter_map-append finish_of (option_to_list x.told) (option_to_list x.after)
    ∙ ap (λ fs. filter_map finish_of (option_to_list x.told) ++ fs) (cancel_finishes x.after none)
    ∙ sym (filter_map-append finish_of (option_to_list x.told) []) in
    let one = counted_one x.told in
    let now : count_by skips (events_in x) + length (filter_map finish_of (events_in x)) ≤ 1 =
    rw (plain, same) one in
    let skip : skipped (x ∷ run) ≡ skipped run + count_by skips (events_in x) =
    sum_by-append (λ e. cond (skips e) 1 0) (told run) (events_in x) in
    let finish : length (finished (x ∷ run)) ≡ length (finished run) + length (filter_map finish_of (events_in x)) =
    ap length (filter_map-append finish_of (told run) (events_in x))
    ∙ length-append (finished run) (filter_map finish_of (events_in x)) in
    omega arith

-- what is sent is of its kind
kind_if : (p : Settings) (o : Option Message) → IsOfKindIf p o → All (IsOfKind p) (option_to_list o)
kind_if p None h = All-nil (IsOfKind p)
kind_if p (Some m) h = All-cons (IsOfKind p) m [] h (All-nil (IsOfKind p))

-- a part keeps the name of each unit
named_after : (p : Settings) (run : List Happening) (now later k : ℕ) (part : Option UnitPart) (v : Option UnitView)
    → now ≤ later
    → IsNamed p now k v → PartFits p now run part → IsNamed p later k (unit_after now k part v)
named_after p run now later k None v le h fits u e = let at = h u e in (at.0, at.1, omega arith, at.3)
named_after p run now later k (Some (Joins first)) v le h (sent, new) u e = at_once (number first == k) refl e
  where
    at_once : (b : Bool) → (number first == k) ≡ b → (if b then Some first else v) ≡ Some u → IsUnit p later k u
    at_once true be e =
        let same : first ≡ u = cc in
        let here : number first ≡ k = grind arith in
        let latest = new.latest in
        subst (IsUnit p later k) same
        (here, subst (λ k. k < units_in p) here new.below, omega arith, new.role ∙ ap (is_script p) here)
    at_once false be e = let at = h u e in (at.0, at.1, omega arith, at.3)
named_after p run now later k (Some (Acts j turn)) v le h fits u e = by_unit (j == k) e
  where
    by_view : (v : Option UnitView) → IsNamed p now k v → option_map (λ w. (row now turn w).next) v ≡ Some u
        → IsUnit p later k u
    by_view None h e = cc
    by_view (Some w) h e =
        let same : (row now turn w).next ≡ u = cc in
        let named : IsUnit p now k w = h w refl in
        let keeps = row_keeps now w.phase turn (at_moment now w) refl in
        let early : (row now turn w).next.latest ≡ now = keeps.latest in
        subst (IsUnit p later k) same
        (ap number_of keeps.role ∙ named.0, named.1, omega arith, ap is_script_role keeps.role ∙ named.3)

    by_unit : (b : Bool) → (if b then option_map (λ w. (row now turn w).next) v else v) ≡ Some u → IsUnit p later k u
    by_unit true e = by_view v h e
    by_unit false e = let at = h u e in (at.0, at.1, omega arith, at.3)

-- a unit that begins is at its first attempt, of which there is none yet
first_made : (mm : Bool) (s : AttemptTerms) (u : UnitView) (sent : Message) → IsFirst mm u sent → u.attempt ≡ 1
    → u.timers.stopwatch.start ≡ 0 → u.delay ≡ 0 → u.terms ≡ s → u.statuses ≡ [] → IsMade s u []
first_made true s u sent (ph, is) a st delay terms ss =
    record { attempt = a; start = st; terms = terms; has = rw ph ss }
first_made false s u sent (ph, is) a st delay terms ss =
    record { attempt = a; start = st; terms = terms; has = rw ph (ss, delay) }

-- a part leaves each unit as its own turns make it
made_after : (p : Settings) (run : List Happening) (now k : ℕ) (part : Option UnitPart)
    → IsMadeIf (unit_terms p k) (unit_of k run) (story_of k run)
    → IsNamed p now k (unit_of k run) → HasLine (unit_of k run) (line_of k run) → PartFits p now run part
    → IsMadeIf (unit_terms p k) (unit_after now k part (unit_of k run))
    (option_to_list (own_turn k now part (line_of k run)) ++ story_of k run)
made_after p run now k None h named line fits = h
made_after p run now k (Some (Joins first)) h named line (sent, new) = begins ((number first) == k) refl
  where
    begins : (b : Bool) → ((number first) == k) ≡ b
        → IsMadeIf (unit_terms p k) (if b then Some first else unit_of k run) (story_of k run)
    begins true e =
        let here : k ≡ (number first) = grind arith in
        let none : unit_of k run ≡ None = ap (λ k. unit_of k run) here ∙ new.unknown in
        rw (rw none at h) (first_made _ _ first sent new.first new.attempt new.start new.delay
        (new.terms ∙ ap (unit_terms p) (sym here)) new.statuses)
    begins false e = h
made_after p run now k (Some (Acts j turn)) h named line taken = by_unit (j == k) refl
  where
    by_unit : (b : Bool) → (j == k) ≡ b
        → IsMadeIf (unit_terms p k)
        (if b then option_map (λ w. (row now turn w).next) (unit_of k run) else unit_of k run)
        (option_to_list (if b then Some (record {
          moment = now;
          turn = turn;
          request = request_of turn (line_of k run);
        }) else None) ++ story_of k run)
    by_unit true e =
        let here : k ≡ j = grind arith in
        let is : unit_of k run ≡ Some taken.unit = ap (λ k. unit_of k run) here ∙ taken.is in
        rw (own_request now turn taken.unit (line_of k run) taken.takes
        (subst (λ v. HasLine v (line_of k run)) is line))
        (row_made_if (unit_terms p k) now turn taken.unit (unit_of k run) (story_of k run)
        is taken.takes (named taken.unit is).2 h)
    by_unit false e = h

-- no turn was heard later than now
heard-within : (hears : Bool) (now ns was : ℕ) → was ≤ now → (if hears then now else was) ≤ now + ns
heard-within true now ns was h = omega arith
heard-within false now ns was h = omega arith

-- once a sub-run is off, each of its units is over: it is complete where it ends, and nothing is done after that
over_still : (v : Option UnitView) → is_done v ≡ true → IsStill v
over_still None done = cc
over_still (Some u) done = by_phase u.phase done
  where
    by_phase : (ph : Phase) → is_last ph ≡ true → ph ≡ Over
    by_phase Over last = refl
    by_phase StartSent last = cc
    by_phase Starting last = cc
    by_phase Running last = cc
    by_phase Grace last = cc
    by_phase KillWait last = cc
    by_phase Leak last = cc
    by_phase EnvWait last = cc
    by_phase Deciding last = cc
    by_phase Delay last = cc
    by_phase RetrySent last = cc

complete_still : (p : Settings) (f : Frame) (now : ℕ) (run : List Happening) → Holds p now run
    → is_complete (board_of p f now run) ≡ true → (k : ℕ) → IsStill (unit_of k run)
complete_still p f now run h complete k = by_part (nat_lt k (units_in p)) refl
  where
    all : list_all is_done (units p run) ≡ true
    all = second_so (is_empty (queue run)) (list_all is_done (units p run)) complete

    none : (v : Option UnitView) → unit_of k run ≡ v → units_in p ≤ k → IsStill v
    none None e le = tt
    none (Some u) e le = absurd (let below : k < units_in p = (h.named k u e).1 in omega arith)

    by_part : (b : Bool) → nat_lt k (units_in p) ≡ b → IsStill (unit_of k run)
    by_part true e =
        let below : k < units_in p = grind arith in
        over_still (unit_of k run) (sym (ap is_done (units-at p run k below))
        ∙ all_at is_done (units p run) k None all (omega (arith, units-length p run)))
    by_part false e = none (unit_of k run) refl (grind arith)

still_after : (p : Settings) (f : Frame) (now : ℕ) (run : List Happening) (e : Entry) (d : Deed) → Holds p now run
    → Does p f now run d → is_on (said now e d ∷ run) ≡ false → (k : ℕ) → IsStill (unit_of k (said now e d ∷ run))
still_after p f now run e d h does off k = by_end d.ends refl (d.begins || is_on run) refl off
  where
    by_deed : (it : Deed) → d ≡ it → IsStill (unit_of k (said now e it ∷ run))
        → IsStill (unit_of k (said now e d ∷ run))
    by_deed it is still = subst (λ d. IsStill (unit_of k (said now e d ∷ run))) (sym is) still

    ended : (o : Option StressCondition) → IsStill (unit_of k run)
        → IsStill (unit_of k (said now e (ends_as now (board_of p f now run).dispatcher o) ∷ run))
    ended None still = still
    ended (Some condition) still = still

    second_false : (a b : Bool) → (a || b) ≡ false → b ≡ false
    second_false false b e = e
    second_false true b e = cc

    by_end : (ends : Bool) → d.ends ≡ ends → (on : Bool) → (d.begins || is_on run) ≡ on → (not ends && on) ≡ false
        → IsStill (unit_of k (said now e d ∷ run))
    by_end true is on at off =
        let end = does.marks.ends is in
        by_deed _ end.0 (ended p.stress (complete_still p f now run h end.1 k))
    by_end false is true at off = cc
    by_end false is false at off =
        by_deed _ (does.marks.still at) (h.still (second_false d.begins (is_on run) at) k)

-- what holds after one more deed that fits
pub holds-cons : (p : Settings) (f : Frame) (now : ℕ) (run : List Happening) (e : Entry) (d : Deed)
    → Holds p now run → Does p f now run d
    → Holds p (now + ns_of e.turn) (said now e d ∷ run)
holds-cons p f now run e d h does = record {
  fits = let room = does.room in omega (arith, length-append (sent run) (option_to_list d.sent));
  counted = counted-cons (said now e d) run (cancel_told p f now run d does.marks) h.counted;
  rounds = rounds_kept p f now run e d h.rounds does.marks;
  heard = heard-within (is_heard (said now e d)) now (ns_of e.turn) (heard run) h.heard;
  named = λ k. reach_named p (now + ns_of e.turn) k d.request (unit_after now k d.part (unit_of k run))
      (named_after p run now (now + ns_of e.turn) k d.part (unit_of k run) (omega arith) (h.named k) does.part);
  accounts = λ k. accounted-cons p k (said now e d) run does.room (does.accounts k);
  reported = λ k. reported_after (unit_terms p k) k now run e d does.room (h.reported k)
      (does.reported k);
  made = λ k. reach_made_if (unit_terms p k) d.request (unit_after now k d.part (unit_of k run)) _
      (made_after p run now k d.part (h.made k) (h.named k) (h.lines k) does.part);
  still = still_after p f now run e d h does;
  kinds = All-append (IsOfKind p) (sent run) (option_to_list d.sent) h.kinds (kind_if p d.sent does.sends);
  on_way = λ k. on_way_after p run now k d.request d.part (unit_of k run) _ _ (way_of k run) (h.on_way k)
      (h.accounts k) refl does.part;
  lines = λ k. (line_after p run now k d.request d.part (h.lines k) (h.taken k) does.part).0;
  taken = λ k. (line_after p run now k d.request d.part (h.lines k) (h.taken k) does.part).1;
  admitted = ordered.admitted;
  tests_sent = ordered.tests_sent;
  sorted = ordered.sorted;
  tests_told = ordered.tests_told;
}
  where
    ordered : IsOrdered p (said now e d ∷ run)
    ordered = ordered_after p f now run e d h does
