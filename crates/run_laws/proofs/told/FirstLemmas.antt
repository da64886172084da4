-- Scripts are told finished before any test is told started, and have their fates.
use Rattle.std.proofs.Common.{◌≡◌, ◌⊎◌, inl, inr, ℕ, zero, suc, ◌<◌, ◌≤◌, ◌==◌, List, [], ◌∷◌, ◌++◌, length, Bool, true}
use Rattle.std.proofs.Common.{false, ◌||◌, Option, Some, None, option_to_list, refl, ap, sym, subst, ◌∙◌, arith}
use Rattle.std.proofs.Common.{append-nil, append_assoc}
use Rattle.std.specs.Prelude.{IfSome}
use Rattle.std.specs.List.{All, list_any}
use Rattle.std.proofs.lemmas.List.Elements.{All-head, All-tail, All-drop, All-weaker}
use Rattle.std.proofs.lemmas.List.Folds.{list_any-append}
use Rattle.run_events.specs.declared.events.ReporterEvent.{ReporterEvent}
use Rattle.run_events.specs.declared.events.ReporterEvent.TheVariants.{Tick, Test}
use Rattle.run_events.specs.declared.events.TestEventKind.{TestEventKind}
use Rattle.run_events.specs.declared.events.TestEventKind.TheVariants.{SetupScriptStarted, TestStarted}
use Rattle.run_events.specs.declared.message.Message.{Message}
use Rattle.run_events.specs.declared.message.Message.TheVariants.{ScriptStart, ScriptSlow, ScriptFinish, Start, Slow}
use Rattle.run_events.specs.declared.message.Message.TheVariants.{AttemptFailed, Retry, Skip, Finish}
use Rattle.run_events.specs.declared.result.ExecuteStatus.{ExecuteStatus}
use Rattle.run_events.specs.declared.settings.Settings.{Settings}
use Rattle.run_model.specs.declared.entry.Entry.{Entry}
use Rattle.run_model.specs.declared.happening.Happening.{Happening}
use Rattle.run_model.specs.declared.phase.Phase.{Phase}
use Rattle.run_model.specs.declared.phase.Phase.TheVariants.{Over}
use Rattle.run_model.specs.declared.unit_view.UnitView.{UnitView}
use Rattle.run_model.specs.Accounts.{News, started, finished, tried, HasAccount, HasAccountAt, is_mismatched}
use Rattle.run_model.specs.Accounts.{account_of, pending_in, pending_of}
use Rattle.run_model.specs.Admission.{is_done, is_last, is_script, scripts_in}
use Rattle.run_model.specs.Attempts.{retries_in, statuses_of}
use Rattle.run_model.specs.Board.{Deed, deed_events, board}
use Rattle.run_model.specs.Dispatch.{having_told}
use Rattle.run_model.specs.Fates.{MeetsAttemptLaw, HasFate, HaveFates}
use Rattle.run_model.specs.Journal.{history, IsLegalBackward}
use Rattle.run_model.specs.Story.{is_at_start, is_at_retry, stopped_at, was_left}
use Rattle.run_model.specs.Turns.{deed_on}
use Rattle.run_model.specs.Words.{clock, delivered, ended_runs, finishes, is_over, queue, sent, starts, starts_in}
use Rattle.run_model.specs.Words.{sub_run, tally, told, unit_of}
use Rattle.run_laws.specs.Scripts.{ComeFirst, HasScriptFate, starts_test, starts_test_in}
use Rattle.run_laws.proofs.told.Cancels.{IsAfter, cancel_is, cancel_apart}
use Rattle.run_laws.proofs.board.OnBoard.{moment_in}
use Rattle.run_laws.proofs.board.DeedFits.{Does, IsInOrder, ToldFits, ToldFitsIn, starts_script_in}
use Rattle.run_laws.proofs.told.FateLemmas.{ended_fates}
use Rattle.run_laws.proofs.board.Holds.{HasEndedAs, Holds, IsOfKind, IsOnWayIn, Way, way_of}
use Rattle.run_laws.proofs.board.Kept.{HoldsAfter, does_after, IsOfRun, IsBeforeRuns, where_joins, holds}
use Rattle.run_laws.proofs.board.Newcomers.{script_number}
use Rattle.run_laws.proofs.units.OneOff.{matches, no_retries_of, script_way}
use Rattle.run_laws.proofs.board.Order.{is_of_script, AreSettled, oldest_not}
use Rattle.run_laws.proofs.board.Ordered.{cancel_starts}
use Rattle.run_laws.proofs.told.Running.{is_finish, is_start, finishes-account, starts-account}
use Rattle.run_laws.proofs.board.OnBoard.{Frame}
use Rattle.run_laws.proofs.board.OnBoard.{frame_of}
use Rattle.run_laws.proofs.board.DeedFits.{cancel_told}
use Rattle.run_laws.proofs.board.Kept.{from_base}

-- a place in events with one more is the new one, or one among them
pub split_last : (es before after : List ReporterEvent) (x e : ReporterEvent) → es ++ x ∷ [] ≡ before ++ e ∷ after
    → ((before ≡ es) × (e ≡ x)) ⊎ ((rest : List ReporterEvent) × (es ≡ before ++ e ∷ rest))
split_last [] [] after x e is = inl (refl, cc)
split_last (y ∷ es) [] after x e is = inr (es, cc)
split_last [] (b ∷ before) after x e is = absurd (nothing before e after cc)
  where
    nothing : (before : List ReporterEvent) (e : ReporterEvent) (after : List ReporterEvent)
        → [] ≡ before ++ e ∷ after → ⊥
    nothing [] e after is = cc
    nothing (b ∷ before) e after is = cc
split_last (y ∷ es) (b ∷ before) after x e is = by_rest (split_last es before after x e cc)
  where
    same : y ≡ b
    same = cc

    by_rest : ((before ≡ es) × (e ≡ x)) ⊎ ((rest : List ReporterEvent) × (es ≡ before ++ e ∷ rest))
        → ((b ∷ before ≡ y ∷ es) × (e ≡ x)) ⊎ ((rest : List ReporterEvent) × (y ∷ es ≡ b ∷ before ++ e ∷ rest))
    by_rest (inl last) = inl (ap (λ es. b ∷ es) last.0 ∙ ap (λ c. c ∷ es) (sym same), last.1)
    by_rest (inr found) = inr (found.0, ap (λ es. y ∷ es) found.1 ∙ ap (λ c. c ∷ before ++ e ∷ found.0) same)

-- what holds of events holds of one more, which is of no script where it is a test's start or one was told before, and
-- before which each script that was told started is told finished where it is a test's start
some_more : (f : ReporterEvent → Bool) (es : List ReporterEvent) (x : ReporterEvent) → list_any f (es ++ x ∷ []) ≡ true
    → f x ≡ false → list_any f es ≡ true
some_more f es x some none = by_last (list_any f es) (sym (list_any-append f es (x ∷ [])) ∙ some)
  where
    by_last : (b : Bool) → (b || (f x || false)) ≡ true → b ≡ true
    by_last true e = refl
    by_last false e = let never : false ≡ true = sym (ap (λ b. b || false) none) ∙ e in cc

some_among : (f : ReporterEvent → Bool) (before rest : List ReporterEvent) (e : ReporterEvent) → f e ≡ true
    → list_any f (before ++ e ∷ rest) ≡ true
some_among f before rest e is =
    list_any-append f before (e ∷ rest) ∙ ap (λ b. list_any f before || (b || list_any f rest)) is
    ∙ either (list_any f before)
  where
    either : (b : Bool) → (b || true) ≡ true
    either true = refl
    either false = refl

first_more : (p : Settings) (es : List ReporterEvent) (x : ReporterEvent) → ComeFirst p es
    → (starts_test x ≡ true → (k : ℕ) → k < scripts_in p → list_any (starts k) es ≡ true
    → list_any (finishes k) es ≡ true)
    → ((k : ℕ) → k < scripts_in p → (starts_test x ≡ true) ⊎ (list_any starts_test es ≡ true) → starts k x ≡ false)
    → ComeFirst p (es ++ x ∷ [])
first_more p es x first finishes_all none k before after e below is test some =
    by_place (split_last es before after x e is)
  where
    by_place : ((before ≡ es) × (e ≡ x)) ⊎ ((rest : List ReporterEvent) × (es ≡ before ++ e ∷ rest))
        → list_any (finishes k) before ≡ true
    by_place (inl (all, last)) =
        let own : starts_test x ≡ true = ap starts_test (sym last) ∙ test in
        ap (list_any (finishes k)) all
        ∙ finishes_all own k below (some_more (starts k) es x some (none k below (inl own)))
    by_place (inr (rest, found)) =
        let told_test : list_any starts_test es ≡ true =
        ap (list_any starts_test) found ∙ some_among starts_test before rest e test in
        first k before rest e below found test (some_more (starts k) es x some (none k below (inr told_test)))

-- of a script nothing waits where no message of one does
number_apart : (p : Settings) (k n : ℕ) → is_script p k ≡ true → is_script p n ≡ false → (n == k) ≡ false
number_apart p k n script test = by_unit (n == k) refl
  where
    by_unit : (b : Bool) → (n == k) ≡ b → b ≡ false
    by_unit false e = refl
    by_unit true e =
        let here : n ≡ k = grind arith in
        let never : false ≡ true = sym test ∙ ap (is_script p) here ∙ script in cc

message_apart : (p : Settings) (k : ℕ) (m : Message) → is_script p k ≡ true → IsOfKind p m → is_of_script m ≡ false
    → pending_in k m ≡ None
message_apart p k (ScriptStart start) script kind other = cc
message_apart p k (ScriptSlow slow) script kind other = refl
message_apart p k (ScriptFinish finish) script kind other = cc
message_apart p k (Start start) script kind other = rw (number_apart p k start.test.unit script kind) refl
message_apart p k (Slow slow) script kind other = refl
message_apart p k (AttemptFailed failure) script kind other = rw (number_apart p k failure.test.unit script kind) refl
message_apart p k (Retry retry) script kind other = rw (number_apart p k retry.start.test.unit script kind) refl
message_apart p k (Skip skip) script kind other = rw (number_apart p k skip.test.unit script kind) refl
message_apart p k (Finish finish) script kind other = rw (number_apart p k finish.test.unit script kind) refl

none_pends : (p : Settings) (k : ℕ) (ms : List Message) → is_script p k ≡ true → All (IsOfKind p) ms
    → list_any is_of_script ms ≡ false → pending_of k ms ≡ []
none_pends p k [] script kinds none = refl
none_pends p k (m ∷ ms) script kinds none =
    rw (message_apart p k m script (All-head (IsOfKind p) m ms kinds) (oldest_not m ms none))
    (none_pends p k ms script (All-tail (IsOfKind p) m ms kinds)
    (later (is_of_script m) (list_any is_of_script ms) none))
  where
    later : (a b : Bool) → (a || b) ≡ false → b ≡ false
    later true b e = cc
    later false b e = e

-- one that is over, of which nothing waits and that wasn't left, was told finished where it was told started
pub over_finished : (ph : Phase) (ss : List ExecuteStatus) (t : List News) → is_last ph ≡ true
    → HasAccountAt false false ph ss t [] → list_any is_start t ≡ true → list_any is_finish t ≡ true
over_finished Over [] t last (told, waits) some = let never : false ≡ true =
    sym (ap (list_any is_start) told) ∙ some in cc
over_finished Over (x ∷ ss) t last (early, (s, (e, inl (told, waits)))) some = cc
over_finished Over (x ∷ ss) t last (early, (s, (e, inr (told, waits)))) some =
    ap (list_any is_finish) told
    ∙ list_any-append is_finish (tried early) (finished (x ∷ ss) ∷ []) ∙ either (list_any is_finish (tried early))
  where
    either : (b : Bool) → (b || true) ≡ true
    either true = refl
    either false = refl
over_finished ph ss t last h some = cc

-- a script isn't left
pub not_left : (ph : Phase) (attempt : ℕ) (ss : List ExecuteStatus) (w : Way) → is_last ph ≡ true
    → IsOnWayIn 0 ph attempt ss w → is_at_retry w.stopped ≡ false
not_left Over attempt [] w last h = ap is_at_retry h
not_left Over attempt (s ∷ ss) w last (at, way) = by_stop w.stopped way
  where
    by_stop : (stopped : Option ℕ) → HasEndedAs stopped 0 (s ∷ ss) → is_at_retry stopped ≡ false
    by_stop None h = refl
    by_stop (Some n) h = let few : length (s ∷ ss) ≤ 0 = h.0.1 in absurd (omega arith)
not_left ph attempt ss w last h = cc

-- so each script that was told started is told finished once no message of a script waits and each is over
pub settled_finished : (p : Settings) (f : Frame) (now : ℕ) (run : List Happening) (k : ℕ) → Holds p now run
    → AreSettled p run → k < scripts_in p → list_any (starts k) (told run) ≡ true
    → list_any (finishes k) (told run) ≡ true
settled_finished p f now run k h (none, all) below some =
    finishes-account k (told run)
    ∙ by_unit (unit_of k run) refl (all k below) (h.accounts k) (sym (starts-account k (told run)) ∙ some)
  where
    script : is_script p k ≡ true
    script = script_number p k below

    pends : pending_of k (queue run) ≡ []
    pends = none_pends p k (queue run) script (All-drop (IsOfKind p) (delivered run) (sent run) h.kinds) none

    by_unit : (v : Option UnitView) → unit_of k run ≡ v → is_done v ≡ true
        → HasAccount (is_mismatched p k) (was_left k run) v (account_of k (told run)) (pending_of k (queue run))
        → list_any is_start (account_of k (told run)) ≡ true → list_any is_finish (account_of k (told run)) ≡ true
    by_unit None is done a some = cc
    by_unit (Some u) is done a some =
        over_finished u.phase u.statuses (account_of k (told run)) done
        (subst (λ left. HasAccountAt false left u.phase u.statuses (account_of k (told run)) []) left
        (subst (λ q. HasAccountAt false (was_left k run) u.phase u.statuses (account_of k (told run)) q) pends
        (subst (λ mm. HasAccountAt mm (was_left k run) u.phase u.statuses (account_of k (told run))
        (pending_of k (queue run)))
        (matches p k script) a))) some
      where
        left : was_left k run ≡ false
        left = not_left u.phase u.attempt u.statuses (way_of k run) done (script_way p now run k u h is script)

-- a test's start is of no script, and no script's start comes after one
test_apart : (p : Settings) (k n : ℕ) → k < scripts_in p → scripts_in p ≤ n → (n == k) ≡ false
test_apart p k n below above = grind arith

start_apart : (p : Settings) (run : List Happening) (k : ℕ) (x : ReporterEvent) → k < scripts_in p
    → ToldFits p (told run) (Some x) → IsInOrder p run x
    → (starts_test x ≡ true) ⊎ (list_any starts_test (told run) ≡ true) → starts k x ≡ false
start_apart p run k Tick below fits order test = refl
start_apart p run k (Test e) below fits order test = by_kind e.kind fits order.script test
  where
    by_kind : (kind : TestEventKind) → ToldFitsIn p (told run) kind
        → (starts_script_in kind ≡ true → list_any starts_test (told run) ≡ false)
        → (starts_test_in kind ≡ true) ⊎ (list_any starts_test (told run) ≡ true) → starts_in k kind ≡ false
    by_kind (TestStarted s) fits early test = test_apart p k s.start.test.unit below fits.0
    by_kind (SetupScriptStarted s) fits early (inl test) = cc
    by_kind (SetupScriptStarted s) fits early (inr test) =
        let never : true ≡ false = sym test ∙ early refl in cc
    by_kind kind fits early test = refl

-- what holds of the events told after one more deed
first_after : (p : Settings) (f : Frame) (now : ℕ) (run : List Happening) (d : Deed) → Holds p now run
    → Does p f now run d → ComeFirst p (told run) → ComeFirst p (told run ++ deed_events d)
first_after p f now run d h does first =
    subst (ComeFirst p) (append_assoc (told run) (option_to_list d.told) (option_to_list d.after))
    (with_cancel (told run ++ option_to_list d.told) d.after cancels (with_own d.told does.tells does.order))
  where
    cancels : IsAfter d.after
    cancels = cancel_told p f now run d does.marks

    with_own : (o : Option ReporterEvent) → ToldFits p (told run) o → IfSome o (IsInOrder p run)
        → ComeFirst p (told run ++ option_to_list o)
    with_own None fits order = subst (ComeFirst p) (sym (append-nil (told run))) first
    with_own (Some x) fits order = first_more p (told run) x first
        (λ test k below some. settled_finished p f now run k h (order.test test) below some)
        (λ k below test. start_apart p run k x below fits order test)

    with_cancel : (es : List ReporterEvent) (o : Option ReporterEvent) → IsAfter o → ComeFirst p es
        → ComeFirst p (es ++ option_to_list o)
    with_cancel es None none first = subst (ComeFirst p) (sym (append-nil es)) first
    with_cancel es (Some x) none first = first_more p es x first
        (λ test. let never : false ≡ true = sym (cancel_starts x none) ∙ test in cc)
        (λ k below test. (cancel_apart x none).0 k)

first_none : (p : Settings) → ComeFirst p []
first_none p k [] after e below is test some = cc
first_none p k (b ∷ before) after e below is test some = cc

pub come_first : (p : Settings) (backward : List Entry) → IsLegalBackward p backward
    → ComeFirst p (told (sub_run (history p backward)))
come_first p [] legal = first_none p
come_first p (e ∷ before) legal = one_more (come_first p before legal.2) (holds p before legal.2)
  where
    past : List Happening
    past = history p before

    one_more : ComeFirst p (told (sub_run past)) → HoldsAfter p past
        → ComeFirst p (told (sub_run (history p (e ∷ before))))
    one_more first h = by_run (where_joins p past e h legal.0)
      where
        by_run : IsOfRun p past e ⊎ IsBeforeRuns p past e → ComeFirst p (told (sub_run (history p (e ∷ before))))
        by_run (inl of) =
            subst (λ run. ComeFirst p (told run)) (sym of.joins)
            (first_after p (frame_of p past) (clock past) of.base (deed_on p (board p past) e.turn) of.holds of.does
            (from_base (λ run. ComeFirst p (told run)) p past e of (first_none p) first))
        by_run (inr none) = subst (λ run. ComeFirst p (told run)) (sym none.still) (first_none p)

-- and each script has its fate
script_fate : (p : Settings) (run : List Happening) (k : ℕ) → k < scripts_in p → HasFate p run k → HasScriptFate p run k
script_fate p run k below fate = by_stop (stopped_at k run) refl
  where
    script : is_script p k ≡ true
    script = script_number p k below

    matched : is_mismatched p k ≡ false
    matched = matches p k script

    none : retries_in p k ≡ 0
    none = no_retries_of p k script

    by_statuses : (ss : List ExecuteStatus) → statuses_of p k run ≡ ss → stopped_at k run ≡ None
        → (s : ExecuteStatus) × ((account_of k (told run) ≡ started ∷ finished (s ∷ []) ∷ [])
        × (statuses_of p k run ≡ s ∷ []))
    by_statuses [] is on = absurd (subst (MeetsAttemptLaw (retries_in p k)) is (fate.finished matched on))
    by_statuses (s ∷ []) is on = (s, (fate.account ∙ rw (matched, on, is) refl, is))
    by_statuses (s ∷ t ∷ ss) is on =
        let law : MeetsAttemptLaw (retries_in p k) (s ∷ t ∷ ss) =
        subst (MeetsAttemptLaw (retries_in p k)) is (fate.finished matched on) in
        let more : 0 < retries_in p k = law.1 in absurd (omega (arith, none))

    by_stop : (stopped : Option ℕ) → stopped_at k run ≡ stopped → HasScriptFate p run k
    by_stop None e = record {
      never = λ never. let no : false ≡ true = sym (ap is_at_start e) ∙ never in cc;
      once = λ began. by_statuses (statuses_of p k run) refl e;
    }
    by_stop (Some zero) e = record {
      never = λ never. fate.account ∙ rw (matched, e) refl;
      once = λ began. let no : true ≡ false = sym (ap is_at_start e) ∙ began in cc;
    }
    by_stop (Some (suc n)) e =
        let tried = (fate.left n e).0 in
        let few : length (statuses_of p k run) ≤ retries_in p k = tried.1 in
        let some : 0 < length (statuses_of p k run) = tried.2 in absurd (omega (arith, none))

pub script_fates : (p : Settings) (backward : List Entry) → IsLegalBackward p backward
    → All (λ run. (k : ℕ) → k < scripts_in p → HasScriptFate p run k) (ended_runs (history p backward))
script_fates p backward legal =
    All-weaker (HaveFates p) (λ run. (k : ℕ) → k < scripts_in p → HasScriptFate p run k)
    (λ run fates k below. script_fate p run k below (fates k (omega arith))) (ended_runs (history p backward))
    (ended_fates p backward legal)
