-- No message of a script waits behind one of a later script.
use Rattle.std.proofs.Common.{◌≡◌, inl, inr, ℕ, zero, suc, ◌==◌, ◌||◌, List, [], ◌∷◌, ◌++◌, drop, Bool, true, false}
use Rattle.std.proofs.Common.{Option, Some, None, is_some, option_and_then, option_map, refl, ap, sym, subst, ◌∙◌}
use Rattle.std.proofs.Common.{arith}
use Rattle.std.specs.Prelude.{⊤, IfSome}
use Rattle.std.specs.List.{list_any}
use Rattle.std.proofs.lemmas.List.Elements.{filter_map-append}
use Rattle.run_capture.proofs.Facts.{or_right}
use Rattle.run_events.specs.declared.message.Message.{Message}
use Rattle.run_events.specs.declared.message.Message.TheVariants.{ScriptSlow, Slow}
use Rattle.run_events.specs.declared.result.ExecuteStatus.{ExecuteStatus}
use Rattle.run_events.specs.declared.settings.Settings.{Settings}
use Rattle.run_model.specs.declared.happening.Happening.{Happening}
use Rattle.run_model.specs.declared.happening.UnitPart.{UnitPart}
use Rattle.run_model.specs.declared.happening.UnitPart.TheVariants.{Joins, Acts}
use Rattle.run_model.specs.declared.phase.Phase.{Phase}
use Rattle.run_model.specs.declared.phase.Phase.TheVariants.{Delay, Over}
use Rattle.run_model.specs.declared.unit_turn.UnitTurn.{UnitTurn}
use Rattle.run_model.specs.declared.unit_view.UnitRole.{UnitRole}
use Rattle.run_model.specs.declared.unit_view.UnitRole.TheVariants as roles
use Rattle.run_model.specs.declared.unit_view.UnitView.{UnitView}
use Rattle.run_model.specs.Accounts.{News, pending_in, pending_of}
use Rattle.run_model.specs.Admission.{is_done, is_last, start_message}
use Rattle.run_model.specs.Environment.{number, number_of}
use Rattle.run_model.specs.Ending.{last_status}
use Rattle.run_model.specs.Row.{Row}
use Rattle.run_model.specs.Retries.{failure_message, finish_message, next_delay, retry_message, script_finish}
use Rattle.run_model.specs.Unit.{at_moment, row, row_at, takes, takes_at}
use Rattle.run_model.specs.Words.{unit_of}
use Rattle.run_laws.proofs.units.AccountLemmas.{IsFirst}
use Rattle.run_laws.proofs.board.DeedFits.{IsSentAs, PartFits}
use Rattle.run_laws.proofs.board.Holds.{Holds}
use Rattle.run_laws.proofs.units.OpenRows.{IsReport}
use Rattle.run_laws.proofs.units.Rows.{StaysOrGoes, Takes, again, answers, continues, decide_cases, decides, opens}
use Rattle.run_laws.proofs.units.Rows.{passes, row_moves, row_passes, row_takes, takes_moment}
use Rattle.run_laws.proofs.board.OnBoard.{Frame}
use Rattle.run_laws.proofs.board.UnitDeeds.{same_unit}

-- whether a message is one that unit k's account waits for
abbrev pub is_news_of : ℕ → Message → Bool
is_news_of k m = is_some (pending_in k m)

-- behind a message of unit k none of unit j waits
abbrev pub IsBehind : ℕ → ℕ → List Message → Type 0
IsBehind j k [] = ⊤
IsBehind j k (m ∷ ms) = (is_news_of k m ≡ true → pending_of j ms ≡ []) × IsBehind j k ms

-- so of fewer messages
pub behind-drop : (j k n : ℕ) (ms : List Message) → IsBehind j k ms → IsBehind j k (drop n ms)
behind-drop j k zero ms h = h
behind-drop j k (suc n) [] h = h
behind-drop j k (suc n) (m ∷ ms) h = behind-drop j k n ms h.1

pub some-drop : (f : Message → Bool) (n : ℕ) (ms : List Message) → list_any f (drop n ms) ≡ true → list_any f ms ≡ true
some-drop f zero ms h = h
some-drop f (suc n) [] h = h
some-drop f (suc n) (m ∷ ms) h = later (f m) (list_any f ms) (some-drop f n ms h)
  where
    later : (a b : Bool) → b ≡ true → (a || b) ≡ true
    later true b e = refl
    later false b e = e

-- and of one more, which isn't of unit j where one of unit k waits
first_or : (a b : Bool) → a ≡ true → (a || b) ≡ true
first_or a b e = rw e refl

pub behind-more : (j k : ℕ) (ms : List Message) (m : Message) → IsBehind j k ms
    → (list_any (is_news_of k) ms ≡ true → pending_in j m ≡ None) → IsBehind j k (ms ++ m ∷ [])
behind-more j k [] m h apart = (λ news. refl, tt)
behind-more j k (x ∷ ms) m h apart = (
  λ news. filter_map-append (pending_in j) ms (m ∷ [])
      ∙ ap (λ waits. waits ++ pending_of j (m ∷ [])) (h.0 news)
      ∙ alone (apart (first_or (is_news_of k x) (list_any (is_news_of k) ms) news)),
  behind-more j k ms m h.1 (λ some. apart (or_right (is_news_of k x) (list_any (is_news_of k) ms) some)),
)
  where
    alone : pending_in j m ≡ None → pending_of j (m ∷ []) ≡ []
    alone none = rw none refl

-- where nothing of unit k waits, no message of it does
pub none_waits : (k : ℕ) (ms : List Message) → list_any (is_news_of k) ms ≡ true → pending_of k ms ≡ [] → ⊥
none_waits k [] some none = cc
none_waits k (m ∷ ms) some none = by_news (λ some none. none_waits k ms some none) (pending_in k m) refl some none
  where
    by_news : (list_any (is_news_of k) ms ≡ true → pending_of k ms ≡ [] → ⊥) → (o : Option News) → pending_in k m ≡ o
        → (is_some o || list_any (is_news_of k) ms) ≡ true → pending_of k (m ∷ ms) ≡ [] → ⊥
    by_news later None is some none = later some (rw is at none)
    by_news later (Some news) is some none =
        let never : news ∷ pending_of k ms ≡ [] = rw is at none in cc

-- a row sends only of its own unit
abbrev IsNotOf : ℕ → Option Message → Type 0
IsNotOf k o = IfSome o (λ m. pending_in k m ≡ None)

sends_own : (now : ℕ) (ph : Phase) (turn : UnitTurn) (u : UnitView) (k : ℕ) → u.phase ≡ ph
    → takes_at now ph u turn ≡ true
    → (number u == k) ≡ false → IsNotOf k (row_at now ph turn u).sent
sends_own now ph turn u k is en apart = by_take (row_takes now ph turn u en)
  where
    report : (o : Option Message) → IsReport o → IsNotOf k o
    report None h = tt
    report (Some (ScriptSlow slow)) h = refl
    report (Some (Slow slow)) h = refl
    report (Some m) h = absurd h

    failure : (delay : ℕ) (role : UnitRole) (status : Option ExecuteStatus) → (number_of role == k) ≡ false
        → IsNotOf k (failure_message role delay status)
    failure delay (roles.Test t) None apart = tt
    failure delay (roles.Test t) (Some status) apart = rw apart refl
    failure delay (roles.Script s) status apart = tt

    finish : (role : UnitRole) → (number_of role == k) ≡ false → IsNotOf k (finish_message role u)
    finish (roles.Test t) apart = rw apart refl
    finish (roles.Script s) apart = by_last (last_status u.statuses)
      where
        by_last : (o : Option ExecuteStatus) → IsNotOf k (option_map (script_finish s u) o)
        by_last None = tt
        by_last (Some status) = rw apart refl

    retry : (role : UnitRole) → (number_of role == k) ≡ false → IsNotOf k (retry_message role u)
    retry (roles.Test t) apart = rw apart refl
    retry (roles.Script s) apart = tt

    by_way : (r : Row) → StaysOrGoes u r → IsNotOf k r.sent
    by_way r (inl stays) = rw stays.1 tt
    by_way r (inr goes) = rw goes.1 (retry u.role apart)

    by_take : Takes ph turn → IsNotOf k (row_at now ph turn u).sent
    by_take (answers true at to) = rw (at, to) tt
    by_take (answers false at to) = rw (at, to) tt
    by_take (opens on) = report _ (continues u _ (row_moves now ph turn u is on)).sent
    by_take (decides word at to) = rw (at, to) (decide_cases (λ r. IsNotOf k r.sent) now word u
        (λ _. failure (next_delay word u) u.role (last_status u.statuses) apart) (λ _. finish u.role apart))
    by_take (passes at to) = rw at (by_way (row_at now Delay turn u) (row_passes now turn u (is ∙ at)).way)
    by_take (again true at to) = rw (at, to) tt
    by_take (again false at to) = rw (at, to) tt

-- a unit that takes a turn isn't over
goes_on : (now : ℕ) (turn : UnitTurn) (u : UnitView) → takes now u turn ≡ true → is_last u.phase ≡ true → ⊥
goes_on now turn u en done = by_phase u.phase en done
  where
    by_phase : (ph : Phase) → takes_at now ph u turn ≡ true → is_last ph ≡ true → ⊥
    by_phase Over en done = cc
    by_phase ph en done = cc

-- the first message of a unit is of it alone
first_own : (skipped : Bool) (u : UnitView) (m : Message) (k : ℕ) → IsFirst skipped u m → (number u == k) ≡ false
    → pending_in k m ≡ None
first_own true u m k (ph, (t, (role, (reason, is)))) apart =
    rw is (rw (ap (λ r. number_of r == k) (sym role) ∙ apart) refl)
first_own false u m k (ph, is) apart = rw is (by_role u.role apart)
  where
    by_role : (role : UnitRole) → (number_of role == k) ≡ false → pending_in k (start_message role u) ≡ None
    by_role (roles.Test t) apart = rw apart refl
    by_role (roles.Script s) apart = rw apart refl

-- so once unit j is over, nothing more of it is sent
pub sends_none_of : (p : Settings) (f : Frame) (now : ℕ) (run : List Happening) (part : Option UnitPart)
    (sent : Option Message) (j : ℕ) → Holds p now run → PartFits p now run part → IsSentAs now run part sent
    → is_done (unit_of j run) ≡ true
    → IsNotOf j sent
sends_none_of p f now run None sent j h fits from done = rw from tt
sends_none_of p f now run (Some (Joins first)) None j h fits from done = tt
sends_none_of p f now run (Some (Joins first)) (Some m) j h (first_sent, new) (skipped, from) done =
    first_own skipped first m j from (by_unit (number first == j) refl)
  where
    by_unit : (b : Bool) → (number first == j) ≡ b → b ≡ false
    by_unit false e = refl
    by_unit true e =
        let here : j ≡ number first = same_unit (number first) j e in
        let never : false ≡ true = sym (ap (λ j. is_done (unit_of j run)) here ∙ ap is_done new.unknown) ∙ done in cc
sends_none_of p f now run (Some (Acts i turn)) sent j h taken from done =
    subst (IsNotOf j) (sym from) (subst (λ v. IsNotOf j (option_and_then (λ v. (row now turn v).sent) v)) (sym taken.is)
    (sends_own now taken.unit.phase turn (at_moment now taken.unit) j refl
    (takes_moment now taken.unit.phase taken.unit turn taken.takes) (by_unit (number taken.unit == j) refl)))
  where
    by_unit : (b : Bool) → (number taken.unit == j) ≡ b → b ≡ false
    by_unit false e = refl
    by_unit true e =
        let here : j ≡ i = same_unit (number taken.unit) j e ∙ (h.named i taken.unit taken.is).0 in
        absurd (goes_on now turn taken.unit taken.takes
        (sym (ap (λ j. is_done (unit_of j run)) here ∙ ap is_done taken.is) ∙ done))
