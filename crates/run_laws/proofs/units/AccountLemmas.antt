-- What a turn of a unit and each delivery does to the account of any unit.
use Rattle.std.proofs.Common.{◌≡◌, ℕ, ◌+◌, ◌==◌, List, [], ◌∷◌, ◌++◌, length, append_assoc, Bool, true, false, not}
use Rattle.std.proofs.Common.{Option, Some, None, option_to_list, if◌then◌else◌, inl, inr, refl, ap, sym, subst, ◌∙◌}
use Rattle.std.proofs.Common.{arith}
use Rattle.std.proofs.lemmas.List.{append-nil}
use Rattle.run_events.specs.declared.message.Message.{Message}
use Rattle.run_events.specs.declared.message.Message.TheVariants.{AttemptFailed, Retry, Skip}
use Rattle.run_events.specs.declared.settings.Settings.{Settings}
use Rattle.run_events.specs.declared.events.TestEventKind.{TestEventKind}
use Rattle.run_events.specs.declared.message.TestSkip.{TestSkip}
use Rattle.run_events.specs.declared.message.AttemptFailed.{AttemptFailed as Failure}
use Rattle.run_events.specs.declared.message.TestRetry.{TestRetry}
use Rattle.run_events.specs.declared.events.TestEventKind.TheVariants.{TestSkipped}
use Rattle.run_events.specs.declared.result.ExecuteStatus.{ExecuteStatus}
use Rattle.run_model.specs.declared.dispatcher_view.Tally.{Tally}
use Rattle.run_model.specs.declared.happening.UnitPart.TheVariants.{Acts}
use Rattle.run_model.specs.declared.phase.Phase.TheVariants.{StartSent, Delay, RetrySent, Over}
use Rattle.run_model.specs.declared.unit_turn.UnitTurn.{UnitTurn}
use Rattle.run_model.specs.declared.unit_turn.UnitTurn.TheVariants.{Answered}
use Rattle.run_model.specs.declared.unit_view.TestRole.{TestRole}
use Rattle.run_model.specs.declared.unit_view.UnitRole.{UnitRole}
use Rattle.run_model.specs.declared.unit_view.UnitRole.TheVariants as roles
use Rattle.run_model.specs.declared.unit_view.UnitView.{UnitView}
use Rattle.run_model.specs.Environment.{number_of, number}
use Rattle.run_model.specs.Unit.{at_moment, row, row_at, takes}
use Rattle.run_model.specs.Words.{unit_after}
use Rattle.run_model.specs.Admission.{is_script, start_message}
use Rattle.run_model.specs.Dispatch.{Moment, event, failed_event, retried_event}
use Rattle.run_laws.proofs.board.Holds.{IsOfKind, is_script_role}
use Rattle.run_laws.proofs.board.ByTurn.{is_answer}
use Rattle.run_model.specs.Accounts.{News, started, failed, retried, finished, skipped, tried, HasAccount}
use Rattle.run_model.specs.Accounts.{HasAccountAt, account_of, news_in, pending_in, pending_of}
use Rattle.run_laws.proofs.units.Rows.{takes_moment}
use Rattle.run_laws.proofs.units.AccountRows.{tried-append, done_by, Stands, stands, waits_more, waits_still}
use Rattle.run_laws.proofs.units.AccountRows.{IsTriedOnce, row_accounted, idle, starts, fails, retries, finishes}
use Rattle.run_laws.proofs.units.AccountRows.{skips}
use Rattle.run_laws.proofs.units.RowSends.{row_sends_own, IsAsRole}

-- a unit's own turn keeps the account of each unit
pub of_row : (mm left : Bool) (now j k : ℕ) (turn : UnitTurn) (u : UnitView) (v : Option UnitView) (t : List News)
    (q : List Message)
    → takes now u turn ≡ true → is_answer turn ≡ false → (number u) ≡ j → ((j == k) ≡ true → v ≡ Some u)
    → ((j == k) ≡ true → left ≡ false) → IsTriedOnce (at_moment now u)
    → ((j == k) ≡ true → mm ≡ false → u.phase ≡ Delay → u.attempt ≡ length u.statuses)
    → HasAccount mm left v t (pending_of k q)
    → HasAccount mm left (unit_after now k (Some (Acts j turn)) v) t
    (pending_of k (q ++ option_to_list (row now turn u).sent))
of_row mm left now j k turn u v t q en other named same unleft once numbered h = by_unit (j == k) refl
  where
    by_unit : (b : Bool) → (j == k) ≡ b
        → HasAccount mm left (unit_after now k (Some (Acts j turn)) v) t
        (pending_of k (q ++ option_to_list (row now turn u).sent))
    by_unit true e =
        let own : (number u) ≡ k = grind arith in
        let was : HasAccountAt mm left u.phase u.statuses t (pending_of (number u) q) =
        subst (λ m. HasAccountAt mm left u.phase u.statuses t (pending_of m q)) (sym own) (rw (same e) at h) in
        rw (e, same e) (subst (λ m. HasAccount mm left (Some (row now turn u).next) t
        (pending_of m (q ++ option_to_list (row now turn u).sent))) own
        (row_accounted mm left now u.phase turn (at_moment now u) t q refl (takes_moment now u.phase u turn en) other
        (unleft e) once (numbered e) was))
    by_unit false e =
        let apart : (number u == k) ≡ false = grind arith in
        rw (
          e,
          row_sends_own now u.phase turn (at_moment now u) k q refl (takes_moment now u.phase u turn en) other
              apart,
        ) h

-- what the answer to a start, and to a retry, makes of the account of its unit
start_accounted : (mm left : Bool) (now : ℕ) (go : Bool) (u : UnitView) (t q : List News) → u.phase ≡ StartSent
    → left ≡ false → HasAccountAt mm left u.phase u.statuses t (started ∷ q)
    → HasAccountAt mm left (row now (Answered go) u).next.phase (row now (Answered go) u).next.statuses
    (t ++ (if go then started ∷ [] else [])) q
start_accounted mm left now go u t q at unleft h = by_stand (stands mm left u.phase u.statuses t (started ∷ q) h)
  where
    by_stand : Stands mm left u.phase u.statuses t (started ∷ q)
        → HasAccountAt mm left (row now (Answered go) u).next.phase (row now (Answered go) u).next.statuses
        (t ++ (if go then started ∷ [] else [])) q
    by_stand (starts mm_not at none told waits) =
        let rest : q ≡ [] = cc in
        rw (at, mm_not, unleft, told, rest) (with_none go)
      where
        with_none : (go : Bool) → HasAccountAt false false
            (row_at now StartSent (Answered go) (record (at_moment now u) { phase = StartSent })).next.phase
            (row_at now StartSent (Answered go) (record (at_moment now u) { phase = StartSent })).next.statuses
            (if go then started ∷ [] else []) []
        with_none true = rw none (refl, refl)
        with_none false = rw none (refl, refl)
    by_stand (idle waits) = cc
    by_stand (fails mm_not early s e told (inl waits)) = let no : started ∷ q ≡ failed s ∷ [] = waits.1 in cc
    by_stand (fails mm_not early s e told (inr waits)) =
        let no : started ∷ q ≡ failed s ∷ retried (length early + 2) ∷ [] = waits.1 in cc
    by_stand (retries mm_not at early s e told waits) = cc
    by_stand (finishes mm_not at unleft early s e told waits) = cc
    by_stand (skips mm at none told waits) = cc

-- the news of unit i, for unit k
abbrev pub news_for : ℕ → News → ℕ → Option News
news_for i n k = if i == k then Some n else None

-- the delivery of the start message of unit i keeps the account of unit k, v, let go or not
pub of_start : (mm left : Bool) (now : ℕ) (moment : Moment) (k i : ℕ) (go : Bool) (u : UnitView)
    (v : Option UnitView) (t : List News) (rest : List Message) (m : Message) (kind : TestEventKind)
    → pending_in k m ≡ news_for i started k → news_in k kind ≡ news_for i started k
    → u.phase ≡ StartSent → ((i == k) ≡ true → v ≡ Some u) → ((i == k) ≡ true → left ≡ false)
    → HasAccount mm left v t (pending_of k (m ∷ rest))
    → HasAccount mm left (unit_after now k (Some (Acts i (Answered go))) v)
    (t ++ account_of k (option_to_list (if go then Some (event moment kind) else None)))
    (pending_of k (rest ++ option_to_list (row now (Answered go) u).sent))
of_start mm left now moment k i go u v t rest m kind pends news at same unleft h = by_unit (i == k) refl
  where
    unsent : (go : Bool) → (row_at now StartSent (Answered go) (at_moment now u)).sent ≡ None
    unsent true = refl
    unsent false = refl

    sends : pending_of k (rest ++ option_to_list (row now (Answered go) u).sent) ≡ pending_of k rest
    sends =
        ap (λ ph. pending_of k (rest ++ option_to_list (row_at now ph (Answered go) (at_moment now u)).sent)) at
        ∙ ap (λ m. pending_of k (rest ++ option_to_list m)) (unsent go) ∙ ap (pending_of k) (append-nil rest)

    tells : (b go : Bool) → (i == k) ≡ b
        → account_of k (option_to_list (if go then Some (event moment kind) else None))
        ≡ (if b then (if go then started ∷ [] else []) else [])
    tells true true e = rw (news, e) refl
    tells false true e = rw (news, e) refl
    tells true false e = refl
    tells false false e = refl

    by_unit : (b : Bool) → (i == k) ≡ b
        → HasAccount mm left (unit_after now k (Some (Acts i (Answered go))) v)
        (t ++ account_of k (option_to_list (if go then Some (event moment kind) else None)))
        (pending_of k (rest ++ option_to_list (row now (Answered go) u).sent))
    by_unit true e =
        rw (sends, tells true go e, e, same e) (start_accounted mm left now go u t (pending_of k rest) at (unleft e)
        (rw (pends, e, same e) at h))
    by_unit false e = rw (sends, tells false go e, e, append-nil t) (rw (pends, e) at h)

-- its failure was told, and its retry is: it is let go once more, or it is left
retry_accounted : (mm left : Bool) (now n : ℕ) (go : Bool) (u : UnitView) (t q : List News) → u.phase ≡ RetrySent
    → HasAccountAt mm left u.phase u.statuses t (retried n ∷ q)
    → HasAccountAt mm (not go) (row now (Answered go) u).next.phase (row now (Answered go) u).next.statuses
    (t ++ (if go then retried n ∷ [] else [])) q
retry_accounted mm left now n go u t q at h = by_stand (stands mm left u.phase u.statuses t (retried n ∷ q) h)
  where
    by_stand : Stands mm left u.phase u.statuses t (retried n ∷ q)
        → HasAccountAt mm (not go) (row now (Answered go) u).next.phase (row now (Answered go) u).next.statuses
        (t ++ (if go then retried n ∷ [] else [])) q
    by_stand (retries mm_not at early s e told waits) =
        let rest : q ≡ [] = cc in
        let same : n ≡ length early + 2 = cc in
        rw (at, mm_not, told, rest, same) (by_go go)
      where
        again_told : (started ∷ tried early ++ failed s ∷ []) ++ retried (length early + 2) ∷ []
            ≡ started ∷ tried u.statuses
        again_told =
            ap (λ ns. started ∷ ns) (append_assoc (tried early) (failed s ∷ []) (retried (length early + 2) ∷ [])
            ∙ sym (tried-append early s) ∙ ap tried (sym e))

        by_go : (go : Bool)
            → HasAccountAt false (not go)
            (row_at now RetrySent (Answered go) (record (at_moment now u) { phase = RetrySent })).next.phase
            (row_at now RetrySent (Answered go) (record (at_moment now u) { phase = RetrySent })).next.statuses
            ((started ∷ tried early ++ failed s ∷ []) ++ (if go then retried (length early + 2) ∷ [] else [])) []
        by_go true = (again_told, refl)
        by_go false = (early, (s, (e, (append-nil (started ∷ tried early ++ failed s ∷ []), refl))))
    by_stand (idle waits) = cc
    by_stand (starts mm_not at none told waits) = cc
    by_stand (fails mm_not early s e told (inl waits)) = let no : retried n ∷ q ≡ failed s ∷ [] = waits.1 in cc
    by_stand (fails mm_not early s e told (inr waits)) =
        let no : retried n ∷ q ≡ failed s ∷ retried (length early + 2) ∷ [] = waits.1 in cc
    by_stand (finishes mm_not at unleft early s e told waits) = cc
    by_stand (skips mm at none told waits) = cc

-- the delivery of the retry message of a unit keeps the account of unit k, v, let go or left
pub of_retry : (mm left later : Bool) (now : ℕ) (moment : Moment) (k : ℕ) (go : Bool) (u : UnitView)
    (v : Option UnitView) (t : List News) (rest : List Message) (retry : TestRetry) (tally : Tally)
    → u.phase ≡ RetrySent → ((retry.start.test.unit == k) ≡ true → v ≡ Some u)
    → ((retry.start.test.unit == k) ≡ true → later ≡ not go) → ((retry.start.test.unit == k) ≡ false → later ≡ left)
    → HasAccount mm left v t (pending_of k (Retry retry ∷ rest))
    → HasAccount mm later (unit_after now k (Some (Acts retry.start.test.unit (Answered go))) v)
    (t ++ account_of k (option_to_list (if go then Some (event moment (retried_event retry tally)) else None)))
    (pending_of k (rest ++ option_to_list (row now (Answered go) u).sent))
of_retry mm left later now moment k go u v t rest retry tally at same here there h =
    by_unit (retry.start.test.unit == k) refl
  where
    unsent : (go : Bool) → (row_at now RetrySent (Answered go) (at_moment now u)).sent ≡ None
    unsent true = refl
    unsent false = refl

    sends : pending_of k (rest ++ option_to_list (row now (Answered go) u).sent) ≡ pending_of k rest
    sends =
        ap (λ ph. pending_of k (rest ++ option_to_list (row_at now ph (Answered go) (at_moment now u)).sent)) at
        ∙ ap (λ m. pending_of k (rest ++ option_to_list m)) (unsent go) ∙ ap (pending_of k) (append-nil rest)

    tells : (b go : Bool) → (retry.start.test.unit == k) ≡ b
        → account_of k (option_to_list (if go then Some (event moment (retried_event retry tally)) else None))
        ≡ (if b then (if go then retried retry.attempt ∷ [] else []) else [])
    tells true true e = rw e refl
    tells false true e = rw e refl
    tells true false e = refl
    tells false false e = refl

    by_unit : (b : Bool) → (retry.start.test.unit == k) ≡ b
        → HasAccount mm later (unit_after now k (Some (Acts retry.start.test.unit (Answered go))) v)
        (t ++ account_of k (option_to_list (if go then Some (event moment (retried_event retry tally)) else None)))
        (pending_of k (rest ++ option_to_list (row now (Answered go) u).sent))
    by_unit true e =
        rw (here e, sends, tells true go e, e, same e)
        (retry_accounted mm left now retry.attempt go u t (pending_of k rest) at (rw (e, same e) at h))
    by_unit false e = rw (there e, sends, tells false go e, e, append-nil t) (rw e at h)

-- the delivery of a slow report keeps the account of each unit
pub of_slow : (mm left : Bool) (moment : Moment) (k : ℕ) (v : Option UnitView) (t : List News) (rest : List Message)
    (m : Message) (kind : TestEventKind) → pending_in k m ≡ None → news_in k kind ≡ None
    → HasAccount mm left v t (pending_of k (m ∷ rest))
    → HasAccount mm left v (t ++ account_of k (event moment kind ∷ [])) (pending_of k (rest ++ []))
of_slow mm left moment k v t rest m kind pends news h = rw (news, append-nil t, append-nil rest) (rw pends at h)

-- the delivery of the failure of an attempt keeps the account of each unit
failure_told : (mm left : Bool) (v : Option UnitView) (t q : List News) (f : ExecuteStatus)
    → HasAccount mm left v t (failed f ∷ q) → HasAccount mm left v (t ++ failed f ∷ []) q
failure_told mm left None t q f h = let no : failed f ∷ q ≡ [] = h.1 in cc
failure_told mm left (Some u) t q f h = by_stand (stands mm left u.phase u.statuses t (failed f ∷ q) h)
  where
    by_stand : Stands mm left u.phase u.statuses t (failed f ∷ q)
        → HasAccountAt mm left u.phase u.statuses (t ++ failed f ∷ []) q
    by_stand (fails mm_not early s e told (inl (at, waits))) =
        let same : f ≡ s = cc in
        let rest : q ≡ [] = cc in
        rw (mm_not, at, told, rest, same) (early, (s, (e, inr (refl, refl))))
    by_stand (fails mm_not early s e told (inr (at, waits))) =
        let same : f ≡ s = cc in
        let rest : q ≡ retried (length early + 2) ∷ [] = cc in
        rw (mm_not, at, told, rest, same) (early, (s, (e, inr (refl, refl))))
    by_stand (idle waits) = cc
    by_stand (starts mm_not at none told waits) = cc
    by_stand (retries mm_not at early s e told waits) = cc
    by_stand (finishes mm_not at unleft early s e told waits) = cc
    by_stand (skips mm at none told waits) = cc

pub of_failed : (mm left : Bool) (moment : Moment) (k : ℕ) (v : Option UnitView) (t : List News) (rest : List Message)
    (failure : Failure) (tally : Tally)
    → HasAccount mm left v t (pending_of k (AttemptFailed failure ∷ rest))
    → HasAccount mm left v (t ++ account_of k (event moment (failed_event failure tally) ∷ []))
    (pending_of k (rest ++ []))
of_failed mm left moment k v t rest failure tally h = by_unit (failure.test.unit == k) refl
  where
    by_unit : (b : Bool) → (failure.test.unit == k) ≡ b → HasAccount mm left v
        (t ++ account_of k (event moment (failed_event failure tally) ∷ [])) (pending_of k (rest ++ []))
    by_unit true e = rw (e, append-nil rest) (failure_told mm left v t (pending_of k rest) failure.status (rw e at h))
    by_unit false e = rw (e, append-nil rest, append-nil t) (rw e at h)

-- the delivery of a finish message keeps the account of each unit
finish_told : (mm left : Bool) (v : Option UnitView) (t q : List News) (fs : List ExecuteStatus)
    → HasAccount mm left v t (finished fs ∷ q) → HasAccount mm left v (t ++ finished fs ∷ []) q
finish_told mm left None t q fs h = let no : finished fs ∷ q ≡ [] = h.1 in cc
finish_told mm left (Some u) t q fs h = by_stand (stands mm left u.phase u.statuses t (finished fs ∷ q) h)
  where
    by_stand : Stands mm left u.phase u.statuses t (finished fs ∷ q)
        → HasAccountAt mm left u.phase u.statuses (t ++ finished fs ∷ []) q
    by_stand (finishes mm_not at unleft early s e told waits) =
        let same : fs ≡ u.statuses = cc in
        let rest : q ≡ [] = cc in
        rw (mm_not, at, unleft, told, rest, same) (done_by u.statuses early s _ [] e (inr (refl, refl)))
    by_stand (idle waits) = cc
    by_stand (starts mm_not at none told waits) = cc
    by_stand (fails mm_not early s e told (inl waits)) = let no : finished fs ∷ q ≡ failed s ∷ [] = waits.1 in cc
    by_stand (fails mm_not early s e told (inr waits)) =
        let no : finished fs ∷ q ≡ failed s ∷ retried (length early + 2) ∷ [] = waits.1 in cc
    by_stand (retries mm_not at early s e told waits) = cc
    by_stand (skips mm at none told waits) = cc

pub of_finish : (mm left : Bool) (moment : Moment) (k i : ℕ) (fs : List ExecuteStatus) (v : Option UnitView)
    (t : List News) (rest : List Message) (m : Message) (kind : TestEventKind)
    → pending_in k m ≡ news_for i (finished fs) k → news_in k kind ≡ news_for i (finished fs) k
    → HasAccount mm left v t (pending_of k (m ∷ rest))
    → HasAccount mm left v (t ++ account_of k (event moment kind ∷ [])) (pending_of k (rest ++ []))
of_finish mm left moment k i fs v t rest m kind pends news h = by_unit (i == k) refl
  where
    by_unit : (b : Bool) → (i == k) ≡ b → HasAccount mm left v
        (t ++ account_of k (event moment kind ∷ [])) (pending_of k (rest ++ []))
    by_unit true e =
        rw (news, e, append-nil rest) (finish_told mm left v t (pending_of k rest) fs (rw (pends, e) at h))
    by_unit false e = rw (news, e, append-nil rest, append-nil t) (rw (pends, e) at h)

-- the delivery of a skip message keeps the account of each unit
skip_told : (mm left : Bool) (v : Option UnitView) (t q : List News)
    → HasAccount mm left v t (skipped ∷ q) → HasAccount mm left v (t ++ skipped ∷ []) q
skip_told mm left None t q h = let no : skipped ∷ q ≡ [] = h.1 in cc
skip_told mm left (Some u) t q h = by_stand (stands mm left u.phase u.statuses t (skipped ∷ q) h)
  where
    by_stand : Stands mm left u.phase u.statuses t (skipped ∷ q)
        → HasAccountAt mm left u.phase u.statuses (t ++ skipped ∷ []) q
    by_stand (skips mm_so at none told waits) =
        let rest : q ≡ [] = cc in rw (mm_so, at, none, told, rest) (inr (refl, refl))
    by_stand (idle waits) = cc
    by_stand (starts mm_not at none told waits) = cc
    by_stand (fails mm_not early s e told (inl waits)) = let no : skipped ∷ q ≡ failed s ∷ [] = waits.1 in cc
    by_stand (fails mm_not early s e told (inr waits)) =
        let no : skipped ∷ q ≡ failed s ∷ retried (length early + 2) ∷ [] = waits.1 in cc
    by_stand (retries mm_not at early s e told waits) = cc
    by_stand (finishes mm_not at unleft early s e told waits) = cc

pub of_skip : (mm left : Bool) (moment : Moment) (k : ℕ) (v : Option UnitView) (t : List News) (rest : List Message)
    (skip : TestSkip)
    → HasAccount mm left v t (pending_of k (Skip skip ∷ rest))
    → HasAccount mm left v (t ++ account_of k (event moment (TestSkipped skip) ∷ [])) (pending_of k (rest ++ []))
of_skip mm left moment k v t rest skip h = by_unit (skip.test.unit == k) refl
  where
    by_unit : (b : Bool) → (skip.test.unit == k) ≡ b
        → HasAccount mm left v (t ++ account_of k (event moment (TestSkipped skip) ∷ [])) (pending_of k (rest ++ []))
    by_unit true e = rw (e, append-nil rest) (skip_told mm left v t (pending_of k rest) (rw e at h))
    by_unit false e = rw (e, append-nil rest, append-nil t) (rw e at h)

-- how a unit begins, by whether it is a test that doesn't match: it is over, and its skip is sent, or it waits for its
-- start
abbrev pub IsFirst : Bool → UnitView → Message → Type 0
IsFirst true u sent = (u.phase ≡ Over)
    × ((t : TestRole) × ((u.role ≡ roles.Test t)
    × ((reason : List ℕ) × (sent ≡ Skip (record { test = t.test; reason = reason })))))
IsFirst false u sent = (u.phase ≡ StartSent) × (sent ≡ start_message u.role u)

pub first_kind : (p : Settings) (first : Bool) (u : UnitView) (sent : Message)
    → is_script_role u.role ≡ is_script p (number u) → IsFirst first u sent → IsOfKind p sent
first_kind p true u sent fits (ph, (t, (role, (reason, is)))) =
    rw is (sym (subst (λ r. is_script_role r ≡ is_script p (number_of r)) role fits))
first_kind p false u sent fits (ph, is) = rw is (by_role u.role fits)
  where
    by_role : (role : UnitRole) → is_script_role role ≡ is_script p (number_of role) → IsOfKind p (start_message role u)
    by_role (roles.Test t) fits = sym fits
    by_role (roles.Script s) fits = sym fits

pub first_role : (first : Bool) (u : UnitView) (sent : Message) → IsFirst first u sent → IsAsRole u.role sent
first_role true u sent (ph, (t, (role, (reason, is)))) = rw (is, role) refl
first_role false u sent (ph, is) = rw is (by_role u.role)
  where
    by_role : (role : UnitRole) → IsAsRole role (start_message role u)
    by_role (roles.Test t) = refl
    by_role (roles.Script s) = refl

-- what its start message tells
start_pends : (role : UnitRole) (u : UnitView) (k : ℕ)
    → pending_in k (start_message role u) ≡ news_for (number_of role) started k
start_pends (roles.Test t) u k = refl
start_pends (roles.Script s) u k = refl

-- its first account
pub begins : (first mm left : Bool) (k : ℕ) (u : UnitView) (sent : Message) (v : Option UnitView) (t : List News)
    (q : List Message)
    → IsFirst first u sent → u.statuses ≡ [] → ((number u == k) ≡ true → mm ≡ first)
    → ((number u == k) ≡ true → v ≡ None)
    → HasAccount mm left v t (pending_of k q)
    → HasAccount mm left (if (number u) == k then Some u else v) (t ++ []) (pending_of k (q ++ sent ∷ []))
begins first mm left k u sent v t q is st mismatched fresh h = by_unit (number u == k) refl
  where
    numbered : (t : TestRole) (b : Bool) → u.role ≡ roles.Test t → (number u == k) ≡ b → (t.test.unit == k) ≡ b
    numbered t b role e = ap (λ r. number_of r == k) (sym role) ∙ e

    by_first : (first : Bool) → (number u == k) ≡ true → IsFirst first u sent → t ≡ [] → pending_of k q ≡ []
        → HasAccountAt first left u.phase u.statuses (t ++ []) (pending_of k (q ++ sent ∷ []))
    by_first true e (ph, (r, (role, (reason, is)))) none waits =
        rw (ph, st, none, is) (inl (
          refl,
          waits_more k q (Skip (record { test = r.test; reason = reason })) []
              (skipped ∷ []) waits (rw (numbered r true role e) refl),
        ))
    by_first false e (ph, is) none waits =
        rw (ph, none, is) (
          st,
          (
            refl,
            waits_more k q (start_message u.role u) [] (started ∷ []) waits
                (rw (start_pends u.role u k, e) refl),
          ),
        )

    apart : (first : Bool) → (number u == k) ≡ false → IsFirst first u sent → pending_of k (sent ∷ []) ≡ []
    apart true e (ph, (r, (role, (reason, is)))) = rw (is, numbered r false role e) refl
    apart false e (ph, is) = rw (is, start_pends u.role u k, e) refl

    by_unit : (b : Bool) → (number u == k) ≡ b
        → HasAccount mm left (if b then Some u else v) (t ++ []) (pending_of k (q ++ sent ∷ []))
    by_unit true e =
        let was = rw (fresh e) at h in
        rw (mismatched e) (by_first first e is was.0 was.1)
    by_unit false e = rw (append-nil t, waits_still k q sent (apart first e is)) h
