-- What is played of bytes that are told, and its status.
use Rattle.std.proofs.Common.{◌≡◌, ◌∙◌, ℕ, ◌<◌, ◌≤◌, ◌⊎◌, inl, inr, List, [], length, Some, sym, ap}
use Rattle.std.proofs.Common.{subst, arith}
use Rattle.run_events.specs.declared.plan.Plan.{Plan}
use Rattle.run_events.specs.declared.turn.Turn.{Turn}
use Rattle.run_input.specs.declared.plan_line.RunnerKeys.{RunnerKeys}
use Rattle.run_input.specs.Input.{plan_line_of}
use Rattle.run_store.specs.Stores.{StoreReading, whole, torn, no_plan, bad, IsReading}
use Rattle.run_store.proofs.WayLemmas.{one_reading}
use Rattle.run_store_io.specs.Reads.{most_stored}
use Rattle.run_cli.specs.Call.{Reading, Writing, HasGiven, HasReadFault}
use Rattle.run_cli.specs.Cause.{Gets, GetsByCourse}
use Rattle.run_cli.specs.declared.command.Command.TheVariants.{Replay}
use Rattle.run_cli.proofs.CauseLemmas.{all_given, given_within, memory_gets}
use Rattle.run_store_cli.specs.Causes.{HasStore, HasTooMuchStored, GetsTorn, GetsPlayed}
use Rattle.run_store_cli.specs.Plays.{IsStore, PlaysInput, PlaysShort, PlaysRead, PlaysSo, whole_store, torn_store}
use Rattle.run_store_cli.specs.Plays.{planless, bad_store, too_long, early}
use Rattle.run_store_cli.specs.Torn.{IsTornInput}
use Rattle.run_store_cli.proofs.PlayCauses.{input_gets}
use Rattle.run_store_cli.proofs.TornCauses.{torn_gets, torn_memory}

-- the bytes of a source are read in one way
same_reading : (r : Reading) (x y : StoreReading) → HasStore r.left x → IsStore r y → y ≡ x
same_reading r x y has given =
    let same = all_given r.left r.left_after has.bytes given.bytes has.told given.given given.end in
    one_reading has.bytes x y has.read (subst (λ bytes. IsReading bytes y) (sym same) given.read)

-- and are no more than they are
not_too_long : (r : Reading) (x : StoreReading) → HasStore r.left x
    → (lost : List ℕ) × HasGiven r lost × (most_stored < length lost) → ⊥
not_too_long r x has (lost, given, above) =
    let most = given_within r.left r.left_after has.bytes lost has.told given in
    let within : length has.bytes ≤ most_stored = has.within in omega arith

-- a plan and turns of a reading
abbrev line_in : StoreReading → List ℕ
line_in (whole line turns) = line
line_in (torn line turns) = line
line_in no_plan = []
line_in (bad place) = []

abbrev turns_in : StoreReading → List Turn
turns_in (whole line turns) = turns
turns_in (torn line turns) = turns
turns_in no_plan = []
turns_in (bad place) = []

-- a line says one plan
one_plan : (line other : List ℕ) (k l : RunnerKeys) (p q : Plan) → other ≡ line → plan_line_of line ≡ Some (k, p)
    → plan_line_of other ≡ Some (l, q) → (l ≡ k) × (q ≡ p)
one_plan line other k l p q same one two =
    let mine : RunnerKeys × Plan = (k, p) in
    let its : RunnerKeys × Plan = (l, q) in
    let both : Some its ≡ Some mine = sym two ∙ ap plan_line_of same ∙ one in
    let pair : its ≡ mine = cc in
    (ap (λ (x : RunnerKeys × Plan). x.0) pair, ap (λ (x : RunnerKeys × Plan). x.1) pair)

-- a plan and turns that were played are those that are there
abbrev AreSame : RunnerKeys → Plan → List Turn → RunnerKeys → Plan → List Turn → Type 0
AreSame k p ts l q us = (l ≡ k) × (q ≡ p) × (us ≡ ts)

moved : (P : RunnerKeys → Plan → List Turn → Type 0) (k l : RunnerKeys) (p q : Plan) (ts us : List Turn)
    → AreSame k p ts l q us → P l q us → P k p ts
moved P k l p q ts us same h =
    subst (λ k. P k p ts) same.0 (subst (λ p. P l p ts) same.1 (subst (λ ts. P l q ts) same.2 h))

-- a whole store is played as a replay of its plan and turns
pub whole_read : (r : Reading) (w : Writing) (status : ℕ) (line : List ℕ) (keys : RunnerKeys) (plan : Plan)
    (turns : List Turn) → HasStore r.left (whole line turns) → plan_line_of line ≡ Some (keys, plan)
    → PlaysRead r w status → PlaysInput keys plan turns w status ⊎ PlaysShort w status
whole_read r w status line keys plan turns has says (whole_store (k, p, ts, run, plays)) =
    let same = same_reading r (whole line turns) (whole run.line ts) has run.store in
    let plans = one_plan line run.line keys k plan p (ap line_in same) says run.says in
    inl (moved (λ k p ts. PlaysInput k p ts w status) keys k plan p turns ts
    (plans.0, plans.1, ap turns_in same) plays)
whole_read r w status line keys plan turns has says (torn_store (k, p, ts, run, plays)) =
    let same = same_reading r (whole line turns) (torn run.line ts) has run.store in cc
whole_read r w status line keys plan turns has says (planless (is, store, writes)) =
    let same = same_reading r (whole line turns) no_plan has store in cc
whole_read r w status line keys plan turns has says (bad_store (place, is, store, writes)) =
    let same = same_reading r (whole line turns) (bad place) has store in cc
whole_read r w status line keys plan turns has says (too_long (is, more, writes)) =
    absurd (not_too_long r (whole line turns) has more)
whole_read r w status line keys plan turns has says (early short) = inr short

-- a torn store is played as one
torn_read : (r : Reading) (w : Writing) (status : ℕ) (line : List ℕ) (keys : RunnerKeys) (plan : Plan)
    (turns : List Turn) → HasStore r.left (torn line turns) → plan_line_of line ≡ Some (keys, plan)
    → PlaysRead r w status → IsTornInput keys plan turns w status ⊎ PlaysShort w status
torn_read r w status line keys plan turns has says (torn_store (k, p, ts, run, plays)) =
    let same = same_reading r (torn line turns) (torn run.line ts) has run.store in
    let plans = one_plan line run.line keys k plan p (ap line_in same) says run.says in
    inl (moved (λ k p ts. IsTornInput k p ts w status) keys k plan p turns ts
    (plans.0, plans.1, ap turns_in same) plays)
torn_read r w status line keys plan turns has says (whole_store (k, p, ts, run, plays)) =
    let same = same_reading r (torn line turns) (whole run.line ts) has run.store in cc
torn_read r w status line keys plan turns has says (planless (is, store, writes)) =
    let same = same_reading r (torn line turns) no_plan has store in cc
torn_read r w status line keys plan turns has says (bad_store (place, is, store, writes)) =
    let same = same_reading r (torn line turns) (bad place) has store in cc
torn_read r w status line keys plan turns has says (too_long (is, more, writes)) =
    absurd (not_too_long r (torn line turns) has more)
torn_read r w status line keys plan turns has says (early short) = inr short

-- 14
planless_read : (r : Reading) (w : Writing) (status : ℕ) → HasStore r.left no_plan → PlaysRead r w status
    → Gets status 14
planless_read r w status has (planless (is, store, writes)) = inl is
planless_read r w status has (early (is, short)) = inr is
planless_read r w status has (too_long (is, more, writes)) = absurd (not_too_long r no_plan has more)
planless_read r w status has (whole_store (k, p, ts, run, plays)) =
    let same = same_reading r no_plan (whole run.line ts) has run.store in cc
planless_read r w status has (torn_store (k, p, ts, run, plays)) =
    let same = same_reading r no_plan (torn run.line ts) has run.store in cc
planless_read r w status has (bad_store (place, is, store, writes)) =
    let same = same_reading r no_plan (bad place) has store in cc

-- 15
bad_read : (r : Reading) (w : Writing) (status place : ℕ) → HasStore r.left (bad place) → PlaysRead r w status
    → Gets status 15
bad_read r w status n has (bad_store (place, is, store, writes)) = inl is
bad_read r w status n has (early (is, short)) = inr is
bad_read r w status n has (too_long (is, more, writes)) = absurd (not_too_long r (bad n) has more)
bad_read r w status n has (whole_store (k, p, ts, run, plays)) =
    let same = same_reading r (bad n) (whole run.line ts) has run.store in cc
bad_read r w status n has (torn_store (k, p, ts, run, plays)) =
    let same = same_reading r (bad n) (torn run.line ts) has run.store in cc
bad_read r w status n has (planless (is, store, writes)) =
    let same = same_reading r (bad n) no_plan has store in cc

-- 12
stored_within : (r : Reading) (x : StoreReading) → HasTooMuchStored r.left → IsStore r x → ⊥
stored_within r x has store =
    let same = ap length (all_given r.left r.left_after has.bytes store.bytes has.told store.given store.end) in
    let above : most_stored < length has.bytes = has.above in
    let within : length store.bytes ≤ most_stored = store.within in omega arith

long_read : (r : Reading) (w : Writing) (status : ℕ) → HasTooMuchStored r.left → PlaysRead r w status
    → Gets status 12
long_read r w status has (too_long (is, more, writes)) = inl is
long_read r w status has (early (is, short)) = inr is
long_read r w status has (whole_store (k, p, ts, run, plays)) =
    absurd (stored_within r (whole run.line ts) has run.store)
long_read r w status has (torn_store (k, p, ts, run, plays)) =
    absurd (stored_within r (torn run.line ts) has run.store)
long_read r w status has (planless (is, store, writes)) = absurd (stored_within r no_plan has store)
long_read r w status has (bad_store (place, is, store, writes)) = absurd (stored_within r (bad place) has store)

-- a source that didn't fail was read so
pub calm_read : (r : Reading) (w : Writing) (status : ℕ) → PlaysSo r w status → ¬ HasReadFault r → PlaysRead r w status
calm_read r w status (inl (inl (is, lost, rose, writes))) calm = absurd (calm rose)
calm_read r w status (inl (inr (rose, short))) calm = absurd (calm rose)
calm_read r w status (inr (quiet, read)) calm = read

-- 10
unread_gets : (r : Reading) (w : Writing) (status : ℕ) → PlaysSo r w status → r.faults < r.faults_after
    → Gets status 10
unread_gets r w status (inl (inl (is, lost, rose, writes))) lt = inl is
unread_gets r w status (inl (inr (rose, (is, short)))) lt = inr is
unread_gets r w status (inr (quiet, read)) lt = absurd (omega arith)

-- a whole store gets what a replay gets, and a torn one
pub whole_gets : (w : Writing) (status : ℕ) (keys : RunnerKeys) (plan : Plan) (turns : List Turn)
    → PlaysInput keys plan turns w status ⊎ PlaysShort w status → GetsByCourse Replay keys plan turns w status
whole_gets w status keys plan turns (inl (ending, is, h)) =
    subst (GetsByCourse Replay keys plan turns w) (sym is) (input_gets keys plan turns w ending h)
whole_gets w status keys plan turns (inr (is, short)) =
    subst (GetsByCourse Replay keys plan turns w) (sym is) (memory_gets Replay keys plan turns w)

torn_store_gets : (w : Writing) (status : ℕ) (keys : RunnerKeys) (plan : Plan) (turns : List Turn)
    → IsTornInput keys plan turns w status ⊎ PlaysShort w status → GetsTorn keys plan turns w status
torn_store_gets w status keys plan turns (inl h) = torn_gets keys plan turns w status h
torn_store_gets w status keys plan turns (inr (is, short)) =
    subst (GetsTorn keys plan turns w) (sym is) (torn_memory keys plan turns w)

-- each cause of `play` gives its status
pub play_gets : (r : Reading) (w : Writing) (status : ℕ) → PlaysSo r w status → GetsPlayed r w status
play_gets r w status h = record {
  unread = unread_gets r w status h;
  too_much = λ calm has. long_read r w status has (calm_read r w status h calm);
  planless = λ calm has. planless_read r w status has (calm_read r w status h calm);
  broken = λ calm place has. bad_read r w status place has (calm_read r w status h calm);
  whole_store = λ calm line keys plan turns has says.
      whole_gets w status keys plan turns (whole_read r w status line keys plan turns has says
      (calm_read r w status h calm));
  torn_store = λ calm line keys plan turns has says.
      torn_store_gets w status keys plan turns (torn_read r w status line keys plan turns has says
      (calm_read r w status h calm));
}
