-- What a ticker told, one list after another.
use Rattle.std.proofs.Common.{◌≡◌, ℕ, List, [], ◌∷◌, ◌++◌, Bool, true, ◌||◌, Option, Some, None, refl, sym}
use Rattle.std.proofs.Common.{subst, ap, ◌∙◌, append_assoc}
use Rattle.std.specs.List.{All}
use Rattle.std.proofs.Math.Bool.{or-true}
use Rattle.std.proofs.lemmas.List.{append-nil}
use Rattle.std.proofs.lemmas.List.Elements.{All-nil, All-cons, All-append, All-weaker}
use Rattle.run_events.specs.declared.turn.Turn.{Turn}
use Rattle.run_events.specs.declared.turn.Turn.TheVariants as turns
use Rattle.run_shared.specs.declared.shared.Receipt.{Receipt}
use Rattle.run_shared.specs.declared.offered.Refusal.{Refusal}
use Rattle.run_shared.specs.Settled.{is_settled_turn}
use Rattle.run_drive.specs.Added.{IsSettled}
use Rattle.run_drive.specs.Driven.{is_clock_turn}
use Rattle.run_drive.specs.Ticked.{step_in, steps_in}
use Rattle.run_drive.proofs.TickLemmas.{steps_still, steps_in-append}
use Rattle.run_keep.specs.declared.rounds.Round.{Round}
use Rattle.run_keep.specs.declared.rounds.Round.TheVariants.{StopWaitDue, InfoDue, Answer}
use Rattle.run_keep.specs.declared.rounds.Ticked.{Ticked}
use Rattle.run_keep.specs.Entered.{GivesRefusal, EntersTurn}
use Rattle.run_keep.specs.Rounds.{round_turn, is_round_turn, OfRounds, Rests, Steps, StepsTo, TicksRounds}

-- settled turns, those of rounds and steps are a ticker's
settled_of : (r : Receipt) → IsSettled r → OfRounds r
settled_of r settled =
    subst (λ (b : Bool). (is_clock_turn r.turn || (is_round_turn r.turn || b)) ≡ true) (sym settled)
    (ap (λ (b : Bool). is_clock_turn r.turn || b) (or-true (is_round_turn r.turn)) ∙ or-true (is_clock_turn r.turn))

round_kind : (round : Round) → (is_clock_turn (round_turn round)
    || (is_round_turn (round_turn round) || is_settled_turn (round_turn round))) ≡ true
round_kind StopWaitDue = refl
round_kind InfoDue = refl
round_kind Answer = refl

round_still : (round : Round) → step_in (round_turn round) ≡ []
round_still StopWaitDue = refl
round_still InfoDue = refl
round_still Answer = refl

kind_of : (r : Receipt) (t : Turn) → r.turn ≡ t
    → (is_clock_turn t || (is_round_turn t || is_settled_turn t)) ≡ true → OfRounds r
kind_of r t same kind =
    subst (λ (u : Turn). (is_clock_turn u || (is_round_turn u || is_settled_turn u)) ≡ true) (sym same) kind

all_kinds : (mine : List Receipt) (t : Turn) → (is_clock_turn t || (is_round_turn t || is_settled_turn t)) ≡ true
    → GivesRefusal t None mine → All OfRounds mine
all_kinds mine t kind g =
    subst (All OfRounds) (sym g.2)
    (All-cons OfRounds g.0 g.1 (kind_of g.0 t g.3 kind) (All-weaker IsSettled OfRounds settled_of g.1 g.4))

all_steps : (mine : List Receipt) (t : Turn) → GivesRefusal t None mine → steps_in mine ≡ step_in t ++ []
all_steps mine t g =
    ap steps_in g.2
    ∙ ap (λ (u : Turn). step_in u ++ steps_in g.1) g.3
    ∙ ap (λ (k : List ℕ). step_in t ++ k) (steps_still g.1 g.4)

-- a turn of a round that was taken, and one that was refused
pub rests_taken : (round : Round) (old new : List Receipt) → EntersTurn old (round_turn round) None new → Rests old new
rests_taken round old new e = record {
  mine = e.mine;
  added = e.added;
  kinds = all_kinds e.mine (round_turn round) (round_kind round) e.given;
  still = all_steps e.mine (round_turn round) e.given ∙ append-nil (step_in (round_turn round)) ∙ round_still round;
}

pub rests_refused : (t : Turn) (x : Refusal) (old new : List Receipt) → EntersTurn old t (Some x) new → Rests old new
rests_refused t x old new e = record {
  mine = e.mine;
  added = e.added;
  kinds = All-weaker IsSettled OfRounds settled_of e.mine e.given.0;
  still = steps_still e.mine e.given.0;
}

pub rests_none : (old : List Receipt) → Rests old old
rests_none old = record { mine = []; added = sym (append-nil old); kinds = All-nil OfRounds; still = refl }

added_twice : {X : Type 0} → (a b c x y : List X) → b ≡ a ++ x → c ≡ b ++ y → c ≡ a ++ (x ++ y)
added_twice a b c x y first then = then ∙ ap (λ rs. rs ++ y) first ∙ append_assoc a x y

pub rests_more : (old now new : List Receipt) → Rests old now → Rests now new → Rests old new
rests_more old now new x y = record {
  mine = x.mine ++ y.mine;
  added = added_twice old now new x.mine y.mine x.added y.added;
  kinds = All-append OfRounds x.mine y.mine x.kinds y.kinds;
  still = steps_in-append x.mine y.mine ∙ ap (λ (k : List ℕ). k ++ steps_in y.mine) x.still ∙ y.still;
}

pub rests_thrice : (a b c d : List Receipt) → Rests a b → Rests b c → Rests c d → Rests a d
rests_thrice a b c d x y z = rests_more a b d x (rests_more b c d y z)

-- one step, taken or refused
pub steps_one : {T : Type 0} (has : T → List ℕ → Type 0) (t u : T) (ns : ℕ) (o : Option Refusal)
    (old new : List Receipt) → ((before : List ℕ) → has t before → has u (before ++ ns ∷ []))
    → EntersTurn old (turns.Clock ns) o new → StepsTo has t u o old new
steps_one has t u ns None old new tells e = record {
  mine = e.mine;
  added = e.added;
  kinds = all_kinds e.mine (turns.Clock ns) refl e.given;
  told = λ before h. subst (λ (k : List ℕ). has u (before ++ k))
      (sym (append-nil (steps_in e.mine) ∙ all_steps e.mine (turns.Clock ns) e.given)) (tells before h);
}
steps_one has t u ns (Some x) old new tells e = (
  ns,
  e.given.1,
  record {
    mine = e.mine;
    added = e.added;
    kinds = All-weaker IsSettled OfRounds settled_of e.mine e.given.0;
    told = λ before h. subst (λ (k : List ℕ). has u (before ++ (k ++ ns ∷ [])))
        (sym (steps_still e.mine e.given.0)) (tells before h);
  },
)

pub steps_rest : {T : Type 0} (has : T → List ℕ → Type 0) (t u : T) (old now new : List Receipt)
    → StepsTo has t u None old now → Rests now new → StepsTo has t u None old new
steps_rest has t u old now new x y = record {
  mine = x.mine ++ y.mine;
  added = added_twice old now new x.mine y.mine x.added y.added;
  kinds = All-append OfRounds x.mine y.mine x.kinds y.kinds;
  told = λ before h. subst (λ (k : List ℕ). has u (before ++ (k ++ [])))
      (sym (steps_in-append x.mine y.mine ∙ ap (λ (k : List ℕ). steps_in x.mine ++ k) y.still
      ∙ append-nil (steps_in x.mine))) (x.told before h);
}

pub steps_none : {T : Type 0} (has : T → List ℕ → Type 0) (t : T) (old : List Receipt) → StepsTo has t t None old old
steps_none has t old = record {
  mine = [];
  added = sym (append-nil old);
  kinds = All-nil OfRounds;
  told = λ before h. subst (has t) (sym (append-nil before)) h;
}

steps_twice : (before : List ℕ) (rs ss : List Receipt) (last : List ℕ)
    → (before ++ (steps_in rs ++ [])) ++ (steps_in ss ++ last) ≡ before ++ (steps_in (rs ++ ss) ++ last)
steps_twice before rs ss last =
    ap (λ (k : List ℕ). (before ++ k) ++ (steps_in ss ++ last)) (append-nil (steps_in rs))
    ∙ append_assoc before (steps_in rs) (steps_in ss ++ last)
    ∙ ap (λ (k : List ℕ). before ++ k) (sym (append_assoc (steps_in rs) (steps_in ss) last))
    ∙ ap (λ (k : List ℕ). before ++ (k ++ last)) (sym (steps_in-append rs ss))

joined : {T : Type 0} (has : T → List ℕ → Type 0) (t u v : T) (last : List ℕ) (old now new : List Receipt)
    → Steps has t u [] old now → Steps has u v last now new → Steps has t v last old new
joined has t u v last old now new x y = record {
  mine = x.mine ++ y.mine;
  added = added_twice old now new x.mine y.mine x.added y.added;
  kinds = All-append OfRounds x.mine y.mine x.kinds y.kinds;
  told = λ before h. subst (has v) (steps_twice before x.mine y.mine last)
      (y.told (before ++ (steps_in x.mine ++ [])) (x.told before h));
}

pub steps_more : {T : Type 0} (has : T → List ℕ → Type 0) (t u v : T) (o : Option Refusal) (old now new : List Receipt)
    → StepsTo has t u None old now → StepsTo has u v o now new → StepsTo has t v o old new
steps_more has t u v None old now new x y = joined has t u v [] old now new x y
steps_more has t u v (Some r) old now new x y = (y.0, y.1, joined has t u v (y.0 ∷ []) old now new x y.2)

-- all of a ticker's work
pub ticks_all : {T : Type 0} (has : T → List ℕ → Type 0) (t u : T) (first : List Receipt) (work : Ticked)
    → StepsTo has t u (Some work.refused) first work.receipts → TicksRounds has t u first work
ticks_all has t u first work x = record {
  mine = x.2.mine;
  taken = x.2.added;
  kinds = x.2.kinds;
  last = x.0;
  refused = x.1;
  told = x.2.told;
}
