-- Each slow report that is told in a legal journal finds its unit running.
use Rattle.std.proofs.Common.{◌≡◌, ◌⊎◌, inl, inr, ℕ, ◌==◌, List, [], ◌∷◌, ◌++◌, append-nil, Bool, true, false}
use Rattle.std.proofs.Common.{if◌then◌else◌, Option, Some, None, is_some, option_to_list, option_and_then, option_map}
use Rattle.std.proofs.Common.{drop, refl, ap}
use Rattle.std.proofs.Common.{sym, subst, ◌∙◌, arith, true≢false}
use Rattle.std.specs.List.{cons_option}
use Rattle.std.proofs.lemmas.List.Elements.{filter_map-append}
use Rattle.run_capture.proofs.Facts.{first_none}
use Rattle.run_events.specs.declared.settings.Settings.{Settings}
use Rattle.run_events.specs.declared.message.Message.{Message}
use Rattle.run_events.specs.declared.message.Message.TheVariants.{ScriptSlow, Slow}
use Rattle.run_events.specs.declared.events.ReporterEvent.{ReporterEvent}
use Rattle.run_events.specs.declared.events.ReporterEvent.TheVariants.{Tick, Test}
use Rattle.run_events.specs.declared.events.TestEventKind.{TestEventKind}
use Rattle.run_events.specs.declared.events.TestEventKind.TheVariants as kinds
use Rattle.run_model.specs.declared.entry.Entry.{Entry}
use Rattle.run_model.specs.declared.happening.Happening.{Happening}
use Rattle.run_model.specs.declared.happening.UnitPart.{UnitPart}
use Rattle.run_model.specs.declared.happening.UnitPart.TheVariants.{Joins, Acts}
use Rattle.run_model.specs.declared.unit_view.UnitView.{UnitView}
use Rattle.run_model.specs.Accounts.{HasAccount, News, account_of, is_mismatched, news_in, news_of, pending_in}
use Rattle.run_model.specs.Accounts.{pending_of}
use Rattle.run_model.specs.Board.{Deed, deed_events, said}
use Rattle.run_model.specs.Dispatch.{may_go}
use Rattle.run_model.specs.Journal.{history, IsLegalBackward}
use Rattle.run_model.specs.Turns.{deed_on}
use Rattle.run_model.specs.Unit.{at_moment, row, takes_at}
use Rattle.run_model.specs.Words.{queue, sub_run, tally, told, unit_after, unit_of}
use Rattle.run_laws.specs.Reports.{report_in, report_of, report_of_kind}
use Rattle.run_laws.proofs.board.DeedFits.{IsSentAs, PartFits, left_with}
use Rattle.run_laws.proofs.board.Holds.{Holds}
use Rattle.run_laws.proofs.board.OnBoard.{board_with}
use Rattle.run_laws.proofs.board.Queue.{queue-cons}
use Rattle.run_laws.proofs.units.OpenRows.{IsReportOf, is_open}
use Rattle.run_laws.proofs.units.Rows.{row_asks_own, takes_moment}
use Rattle.run_laws_events.proofs.ByJournal.{IsKept, by_journal}
use Rattle.run_laws_events.proofs.Told.{message_in, message_of, messages_of, is_told, told_from, tells_oldest}
use Rattle.run_laws_display.proofs.CourseLemmas.{runs_by}
use Rattle.run_laws_display.proofs.SlowLemmas.{SlowsFind, find_sent, find_taken, first_silent, open_account, report_own}
use Rattle.run_laws_display.proofs.SlowLemmas.{slow_opens}

-- what events tell of a unit is what the messages would whose delivery they tell
news-message : (k : ℕ) (kind : TestEventKind) → news_in k kind ≡ option_and_then (pending_in k) (message_in kind)
news-message k (kinds.SetupScriptStarted e) = refl
news-message k (kinds.SetupScriptSlow e) = refl
news-message k (kinds.SetupScriptFinished e) = refl
news-message k (kinds.TestStarted e) = refl
news-message k (kinds.TestSlow e) = refl
news-message k (kinds.TestAttemptFailedWillRetry e) = refl
news-message k (kinds.TestRetryStarted e) = refl
news-message k (kinds.TestFinished e) = refl
news-message k (kinds.TestSkipped e) = refl
news-message k kind = refl

account-messages : (k : ℕ) (es : List ReporterEvent) → account_of k es ≡ pending_of k (messages_of es)
account-messages k [] = refl
account-messages k (Tick ∷ es) = account-messages k es
account-messages k (Test e ∷ es) =
    ap (λ o. cons_option o (account_of k es)) (news-message k e.kind)
    ∙ ap (cons_option (option_and_then (pending_in k) (message_in e.kind))) (account-messages k es)
    ∙ by_message (message_in e.kind)
  where
    by_message : (o : Option Message) → cons_option (option_and_then (pending_in k) o) (pending_of k (messages_of es))
        ≡ pending_of k (cons_option o (messages_of es))
    by_message None = refl
    by_message (Some m) = refl

-- a slow report that is sent is of a unit that runs, and of which nothing waits
account_opens : (k : ℕ) (mm left : Bool) (u : UnitView) (o : Option UnitView) (t : List News) (rest more : List Message)
    → o ≡ Some u → is_open u.phase ≡ true → HasAccount mm left o t (pending_of k (rest ++ more))
    → (runs_by t ≡ true) × (pending_of k rest ≡ [])
account_opens k mm left u o t rest more is on h =
    let it = open_account mm left u.phase u.statuses t (pending_of k (rest ++ more)) on
    (subst (λ o. HasAccount mm left o t (pending_of k (rest ++ more))) is h) in
    let none : pending_of k rest ++ pending_of k more ≡ [] = sym (filter_map-append (pending_in k) rest more) ∙ it.1 in
    (it.0, first_none (pending_of k rest) (pending_of k more) none)

unit_opens : (p : Settings) (now k : ℕ) (run : List Happening) (part : Option UnitPart)
    (o : Option Message) (m : Message) → Holds p now run → PartFits p now run part → IsSentAs now run part o
    → o ≡ Some m → is_some (report_in k m) ≡ true
    → (u : UnitView) × ((unit_after now k part (unit_of k run) ≡ Some u) × (is_open u.phase ≡ true))
unit_opens p now k run None o m h fits from sends slow = cc
unit_opens p now k run (Some (Joins first)) None m h fits from sends slow = cc
unit_opens p now k run (Some (Joins first)) (Some n) m h fits (skipped, from) sends slow =
    let never : is_some (report_in k n) ≡ false = first_silent k skipped first n from in
    let same : n ≡ m = cc in
    absurd (true≢false (sym slow ∙ ap (λ m. is_some (report_in k m)) (sym same) ∙ never))
unit_opens p now k run (Some (Acts j turn)) o m h taken from sends slow = (
  (row now turn u).next,
  (
    subst (λ i. (if i == k then option_map (λ v. (row now turn v).next) (unit_of k run) else unit_of k run)
        ≡ Some (row now turn u).next) (sym here)
        (rw itself (ap (option_map (λ v. (row now turn v).next)) (ap (λ i. unit_of i run) (sym here) ∙ taken.is))),
    slow_opens k now u.phase turn (at_moment now u) m refl moved row_sends slow,
  ),
)
  where
    u : UnitView
    u = taken.unit

    moved : takes_at now u.phase (at_moment now u) turn ≡ true
    moved = takes_moment now u.phase u turn taken.takes

    row_sends : (row now turn u).sent ≡ Some m
    row_sends = sym (from ∙ ap (option_and_then (λ v. (row now turn v).sent)) taken.is) ∙ sends

    here : j ≡ k
    here = sym (h.named j u taken.is).0
        ∙ report_own k u.role m (subst (IsReportOf u.role) row_sends
        (row_asks_own now u.phase turn (at_moment now u) refl moved).1) slow

    itself : (k == k) ≡ true
    itself = grind arith

-- of each unit the reports that wait find it running
abbrev FindsRunning : List Happening → Type 0
FindsRunning run = (k : ℕ) → SlowsFind k (runs_by (account_of k (told run))) (queue run)

finds_kept : (p : Settings) → IsKept p FindsRunning
finds_kept p f refused now run e h en does was k =
    subst (λ q. SlowsFind k (runs_by (account_of k (told run ++ deed_events d))) q)
    (sym (queue-cons (said now e d) run does.room))
    (find_sent k (runs_by (account_of k (told run ++ deed_events d))) rest d.sent taken sends)
  where
    d : Deed
    d = deed_on p (board_with p refused f now run) e.turn

    rest : List Message
    rest = drop (if d.taken then 1 else 0) (queue run)

    go : Bool
    go = may_go (tally p run)

    accounted : account_of k (told run ++ deed_events d) ≡ account_of k (told run) ++ account_of k (deed_events d)
    accounted = filter_map-append (news_of k) (told run) (deed_events d)

    split : account_of k (told run ++ deed_events d)
        ≡ account_of k (told run) ++ pending_of k (told_from go d.taken (queue run))
    split = accounted ∙ ap (λ t. account_of k (told run) ++ t) (account-messages k (deed_events d)
        ∙ ap (pending_of k) (tells_oldest p f refused now run e.turn en))

    taken : SlowsFind k (runs_by (account_of k (told run ++ deed_events d))) rest
    taken = subst (λ t. SlowsFind k (runs_by t) rest) (sym split)
        (find_taken k go d.taken (account_of k (told run)) (queue run) (was k))

    sends : (m : Message) → d.sent ≡ Some m → is_some (report_in k m) ≡ true
        → (runs_by (account_of k (told run ++ deed_events d)) ≡ true) × (pending_of k rest ≡ [])
    sends m is slow =
        let unit = unit_opens p now k run d.part d.sent m h does.part does.sent_as is slow in
        let it = account_opens k (is_mismatched p k) (left_with k run d.part) unit.0
        (unit_after now k d.part (unit_of k run))
        (account_of k (told run) ++ account_of k (deed_events d)) rest (option_to_list d.sent) unit.1.0 unit.1.1
        (does.accounts k) in
        (ap runs_by accounted ∙ it.0, it.1)

-- where a list that goes on is split: among the first, or after them
abbrev pub SplitsFirst : {X : Type 0} → List X → List X → X → Type 0
SplitsFirst {X} xs before e = (rest : List X) × (xs ≡ before ++ e ∷ rest)

abbrev pub SplitsLater : {X : Type 0} → List X → List X → List X → List X → X → Type 0
SplitsLater {X} xs ys before after e = (more : List X) × ((before ≡ xs ++ more) × (ys ≡ more ++ e ∷ after))

pub split_append : {X : Type 0} (xs ys before after : List X) (e : X) → xs ++ ys ≡ before ++ e ∷ after
    → SplitsFirst xs before e ⊎ SplitsLater xs ys before after e
split_append [] ys before after e is = inr (before, (refl, is))
split_append (x ∷ xs) ys [] after e is = let head : x ≡ e = cc in inl (xs, ap (λ y. y ∷ xs) head)
split_append {X} (x ∷ xs) ys (b ∷ before) after e is = by_rest (split_append xs ys before after e tail)
  where
    head : x ≡ b
    head = cc

    tail : xs ++ ys ≡ before ++ e ∷ after
    tail = cc

    by_rest : SplitsFirst xs before e ⊎ SplitsLater xs ys before after e
        → SplitsFirst (x ∷ xs) (b ∷ before) e ⊎ SplitsLater (x ∷ xs) ys (b ∷ before) after e
    by_rest (inl (rest, so)) = inl (rest, ap (λ y. y ∷ xs) head ∙ ap (λ ys. b ∷ ys) so)
    by_rest (inr (more, (earlier, so))) =
        inr (more, (ap (λ ys. b ∷ ys) earlier ∙ ap (λ y. y ∷ xs ++ more) (sym head), so))

never_empty : (xs ys : List Message) (m : Message) → xs ++ m ∷ ys ≡ [] → ⊥
never_empty [] ys m is = cc
never_empty (x ∷ xs) ys m is = cc

one_only : (xs ys : List Message) (m n : Message) → xs ++ m ∷ ys ≡ n ∷ [] → (xs ≡ []) × (m ≡ n)
one_only [] ys m n is = (refl, cc)
one_only (x ∷ []) ys m n is = cc
one_only (x ∷ y ∷ xs) ys m n is = cc

-- the message of a slow report
slow_message : (k : ℕ) (e : ReporterEvent) → is_some (report_of k e) ≡ true
    → (m : Message) × ((message_of e ≡ Some m) × (is_some (report_in k m) ≡ true))
slow_message k Tick slow = cc
slow_message k (Test event) slow = by_kind event.kind slow
  where
    by_kind : (kind : TestEventKind) → is_some (report_of_kind k kind) ≡ true
        → (m : Message) × ((message_in kind ≡ Some m) × (is_some (report_in k m) ≡ true))
    by_kind (kinds.SetupScriptSlow slow) is = (ScriptSlow slow, (refl, is))
    by_kind (kinds.TestSlow slow) is = (Slow slow, (refl, is))
    by_kind kind is = cc

-- the report that is told was the oldest message
oldest_finds : (k : ℕ) (go taken : Bool) (q : List Message) (before after : List Message) (m : Message) (runs : Bool)
    → SlowsFind k runs q → before ++ m ∷ after ≡ told_from go taken q → is_some (report_in k m) ≡ true
    → (before ≡ []) × (runs ≡ true)
oldest_finds k go false q before after m runs h is slow =
    absurd (never_empty before after m is)
oldest_finds k go true [] before after m runs h is slow =
    absurd (never_empty before after m is)
oldest_finds k go true (n ∷ rest) before after m runs h is slow = by_told (is_told go n) is
  where
    by_told : (b : Bool) → before ++ m ∷ after ≡ (if b then n ∷ [] else []) → (before ≡ []) × (runs ≡ true)
    by_told true is =
        let it = one_only before after m n is in
        (it.0, h.0 (ap (λ m. is_some (report_in k m)) (sym it.1) ∙ slow))
    by_told false is = absurd (never_empty before after m is)

-- so each slow report that was told finds it running
abbrev SlowsFound : List ReporterEvent → Type 0
SlowsFound events = (k : ℕ) (before after : List ReporterEvent) (e : ReporterEvent) → events ≡ before ++ e ∷ after
    → is_some (report_of k e) ≡ true → runs_by (account_of k before) ≡ true

abbrev AreFound : List Happening → Type 0
AreFound run = FindsRunning run × SlowsFound (told run)

found_kept : (p : Settings) → IsKept p AreFound
found_kept p f refused now run e h en does was = (finds_kept p f refused now run e h en does was.0, found)
  where
    d : Deed
    d = deed_on p (board_with p refused f now run) e.turn

    newest : (k : ℕ) (before more after : List ReporterEvent) (event : ReporterEvent) → before ≡ told run ++ more
        → deed_events d ≡ more ++ event ∷ after → is_some (report_of k event) ≡ true
        → runs_by (account_of k before) ≡ true
    newest k before more after event earlier now_told slow =
        let it = slow_message k event slow in
        let messages : messages_of more ++ it.0 ∷ messages_of after
        ≡ told_from (may_go (tally p run)) d.taken (queue run) =
        ap (λ o. messages_of more ++ cons_option o (messages_of after)) (sym it.1.0)
        ∙ sym (filter_map-append message_of more (event ∷ after)) ∙ ap messages_of (sym now_told)
        ∙ tells_oldest p f refused now run e.turn en in
        let found = oldest_finds k (may_go (tally p run)) d.taken (queue run) (messages_of more) (messages_of after)
        it.0 (runs_by (account_of k (told run))) (was.0 k) messages it.1.1 in
        ap (λ es. runs_by (account_of k es)) earlier
        ∙ ap runs_by (filter_map-append (news_of k) (told run) more
        ∙ ap (λ t. account_of k (told run) ++ t) (account-messages k more ∙ ap (pending_of k) found.0)
        ∙ append-nil (account_of k (told run)))
        ∙ found.1

    found : SlowsFound (told run ++ deed_events d)
    found k before after event is slow = by_part (split_append (told run) (deed_events d) before after event is)
      where
        by_part : SplitsFirst (told run) before event ⊎ SplitsLater (told run) (deed_events d) before after event
            → runs_by (account_of k before) ≡ true
        by_part (inl (rest, earlier)) = was.1 k before rest event earlier slow
        by_part (inr (more, (earlier, now_told))) = newest k before more after event earlier now_told slow

found_none : SlowsFound []
found_none k [] after e is slow = cc
found_none k (x ∷ before) after e is slow = cc

pub slows_found : (p : Settings) (backward : List Entry) → IsLegalBackward p backward
    → SlowsFound (told (sub_run (history p backward)))
slows_found p backward legal = (by_journal p AreFound (λ k. tt, found_none) (found_kept p) backward legal).1
