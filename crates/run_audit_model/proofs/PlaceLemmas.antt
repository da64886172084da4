-- Where a machine stops is the first place at which its events can't be continued to an end.
use Rattle.std.proofs.Common.{◌≡◌, ◌∙◌, ℕ, suc, ◌+◌, List, [], ◌∷◌, Option, Some, None, Bool, true, false}
use Rattle.std.proofs.Common.{option_map, option_and_then, is_some, if◌then◌else◌, refl, sym, ap, subst, arith}
use Rattle.std.proofs.Common.{true≢false}
use Rattle.std.specs.Option.{option_map_or}
use Rattle.run_audit_model.specs.Places.{FailsAt, Machine, state_after, Accepts, Completes, IsStopOf}

-- no state is there after an event that isn't taken
taken_none : {S E : Type 0} (m : Machine S E) (s : S) (e : E) (events : List E) → m.takes s e ≡ None
    → ¬ (Accepts m s (e ∷ events))
taken_none m s e events none (t, (is, done)) =
    absurd (true≢false (ap is_some (sym is ∙ ap (option_and_then (λ t. state_after m t events)) none)))

-- after an event that is taken, a list is accepted exactly where its rest is
accepts_rest : {S E : Type 0} (m : Machine S E) (s t : S) (e : E) (events : List E) → m.takes s e ≡ Some t
    → Accepts m s (e ∷ events) → Accepts m t events
accepts_rest m s t e events taken (u, (is, done)) =
    (u, (sym (ap (option_and_then (λ t. state_after m t events)) taken) ∙ is, done))

accepts_more : {S E : Type 0} (m : Machine S E) (s t : S) (e : E) (events : List E) → m.takes s e ≡ Some t
    → Accepts m t events → Accepts m s (e ∷ events)
accepts_more m s t e events taken (u, (is, done)) =
    (u, (ap (option_and_then (λ t. state_after m t events)) taken ∙ is, done))

-- one event more in front
one_later : {S E : Type 0} (m : Machine S E) (s t : S) (e : E) (events : List E) (place : ℕ) → m.takes s e ≡ Some t
    → FailsAt (Accepts m t) events place → FailsAt (Accepts m s) (e ∷ events) (suc place)
one_later m s t e events place taken stop = record {
  within = omega (arith, stop.within);
  before = (stop.before.0, accepts_more m s t e _ taken stop.before.1);
  here = λ below goes. stop.here (omega (arith, below)) (goes.0, accepts_rest m s t e _ taken goes.1);
  missing = λ keeps. stop.missing (accepts_rest m s t e events taken keeps);
}

-- the next event isn't taken
pub stop_here : {S E : Type 0} (m : Machine S E) (Holds : S → Type 0) → Completes m Holds → (s : S) → Holds s
    → (e : E) (events : List E) → m.takes s e ≡ None → IsStopOf m s (e ∷ events) (Some 0)
stop_here m Holds c s h e events is = record {
  within = omega arith;
  before = c.more s h;
  here = λ below goes. taken_none m s e goes.0 is goes.1;
  missing = taken_none m s e events is;
}

-- it is taken, and the rest goes so
pub stop_later : {S E : Type 0} (m : Machine S E) (s t : S) (e : E) (events : List E) → m.takes s e ≡ Some t
    → (o : Option ℕ) → IsStopOf m t events o → IsStopOf m s (e ∷ events) (option_map suc o)
stop_later m s t e events is None stop = accepts_more m s t e events is stop
stop_later m s t e events is (Some place) stop = one_later m s t e events place is stop

-- no event is left
pub stop_at_end : {S E : Type 0} (m : Machine S E) (Holds : S → Type 0) → Completes m Holds → (s : S) → Holds s
    → (b : Bool) → m.is_done s ≡ b → IsStopOf m s [] (if b then None else Some 0)
stop_at_end m Holds c s h true is = (s, (refl, is))
stop_at_end m Holds c s h false is = record {
  within = omega arith;
  before = c.more s h;
  here = λ below. absurd (omega (arith, below));
  missing = λ keeps. true≢false (sym keeps.1.1 ∙ sym (ap (λ o. option_map_or m.is_done o false) keeps.1.0) ∙ is);
}

-- what stops the rest of some events, with the events before it
abbrev pub Continues : {S E : Type 0} → Machine S E → S → List E → S → List E → ℕ → Type 0
Continues m first events s rest place =
    (o : Option ℕ) → IsStopOf m s rest o → IsStopOf m first events (option_map (λ n. place + n) o)

shifted : (place : ℕ) (o : Option ℕ)
    → option_map (λ n. place + n) (option_map suc o) ≡ option_map (λ n. place + 1 + n) o
shifted place None = refl
shifted place (Some n) = ap Some (omega arith)

pub continues_more : {S E : Type 0} (m : Machine S E) (first : S) (events : List E) (s t : S) (e : E) (rest : List E)
    (place : ℕ) → m.takes s e ≡ Some t → Continues m first events s (e ∷ rest) place
    → Continues m first events t rest (place + 1)
continues_more m first events s t e rest place is h o stop =
    subst (IsStopOf m first events) (shifted place o) (h (option_map suc o) (stop_later m s t e rest is o stop))

unshifted : (o : Option ℕ) → option_map (λ n. 0 + n) o ≡ o
unshifted None = refl
unshifted (Some n) = ap Some (omega arith)

pub continues_first : {S E : Type 0} (m : Machine S E) (s : S) (events : List E) → Continues m s events s events 0
continues_first m s events o stop = subst (IsStopOf m s events) (sym (unshifted o)) stop
