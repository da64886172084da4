-- What a ticker told, and what became of it.
use Rattle.std.proofs.Common.{◌≡◌, ℕ, List, [], ◌∷◌, ◌++◌, refl, sym, subst, ap, ◌∙◌, append_assoc, Bool, true, false}
use Rattle.std.specs.List.{All}
use Rattle.std.proofs.lemmas.List.{append-nil}
use Rattle.std.proofs.lemmas.List.Elements.{All-nil, All-cons, All-append, All-weaker, All-head, All-tail}
use Rattle.run_events.specs.declared.turn.Turn.{Turn}
use Rattle.run_events.specs.declared.turn.Turn.TheVariants as turns
use Rattle.run_shared.specs.declared.shared.Receipt.{Receipt}
use Rattle.run_shared.specs.declared.offered.Refusal.{Refusal}
use Rattle.run_shared.specs.Settled.{is_settled_turn}
use Rattle.run_drive.specs.declared.work.Work.{Work}
use Rattle.run_drive.specs.declared.settling.Answer.{Answer}
use Rattle.run_drive.specs.declared.settling.Answer.TheVariants.{Taken, Refused}
use Rattle.run_drive.specs.Driven.{OfTicker}
use Rattle.run_drive.specs.Added.{IsSettled, GivesAnswer, Enters, is_taken}
use Rattle.run_drive.specs.Ticked.{step_in, steps_in, RefusesStep, TellsOn, TicksOn, Ticks}
use Rattle.run_drive.proofs.AddedLemmas.{added_twice}
use Rattle.run_drive.proofs.KindLemmas.{settled_of_ticker, step_of_ticker}

-- a settled turn moves no clock
still_turn : (t : Turn) → is_settled_turn t ≡ true → step_in t ≡ []
still_turn turns.Begin s = refl
still_turn turns.Admit s = refl
still_turn turns.Deliver s = refl
still_turn (turns.Started unit pid) s = refl
still_turn (turns.StartFailed unit error) s = refl
still_turn (turns.Exit unit exit) s = refl
still_turn (turns.WaitFailed unit error) s = refl
still_turn (turns.Piece unit stream bytes) s = refl
still_turn (turns.StreamEnd unit stream) s = refl
still_turn (turns.ReadError unit stream error) s = refl
still_turn (turns.Env unit input) s = refl
still_turn (turns.Decide unit word) s = refl
still_turn (turns.UnitDue unit) s = refl
still_turn turns.GlobalDue s = refl
still_turn turns.StopWaitDue s = refl
still_turn turns.InfoDue s = refl
still_turn turns.Answer s = refl
still_turn (turns.Take unit) s = refl
still_turn (turns.Clock ns) s = cc
still_turn (turns.Signal signal) s = refl
still_turn (turns.Key key) s = refl
still_turn turns.Tick s = refl
still_turn turns.ReportCancel s = refl
still_turn turns.End s = refl

pub steps_still : (rs : List Receipt) → All IsSettled rs → steps_in rs ≡ []
steps_still [] each = refl
steps_still (r ∷ rs) each =
    rw (still_turn r.turn (All-head IsSettled r rs each), steps_still rs (All-tail IsSettled r rs each)) refl

pub steps_in-append : (rs ss : List Receipt) → steps_in (rs ++ ss) ≡ steps_in rs ++ steps_in ss
steps_in-append [] ss = refl
steps_in-append (r ∷ rs) ss =
    ap (λ (ns : List ℕ). step_in r.turn ++ ns) (steps_in-append rs ss)
    ∙ sym (append_assoc (step_in r.turn) (steps_in rs) (steps_in ss))

-- the receipts of a step that was answered are of the ticker
of_ticker : (ns : ℕ) (answer : Answer) (mine : List Receipt) (lost : List Refusal)
    → GivesAnswer (turns.Clock ns) answer mine lost → All OfTicker mine
of_ticker ns Taken mine lost h =
    let a = h.0 in
    subst (All OfTicker) (sym a.2)
    (All-cons OfTicker a.0 a.1 (step_of_ticker ns a.0 a.3)
    (All-weaker IsSettled OfTicker settled_of_ticker a.1 a.4))
of_ticker ns (Refused kind) mine lost h = All-weaker IsSettled OfTicker settled_of_ticker mine h.0

-- one step that was told, taken or refused
pub ticks_one : {T : Type 0} (has_told : T → List ℕ → Type 0) (t u : T) (ns : ℕ) (answer : Answer) (old new : Work)
    → ((before : List ℕ) → has_told t before → has_told u (before ++ ns ∷ []))
    → Enters old (turns.Clock ns) answer new → TicksOn has_told t u (is_taken answer) old new
ticks_one has_told t u ns Taken old new tells e =
    let a = e.answered.0 in
    let steps : steps_in e.mine ≡ ns ∷ [] = ap steps_in a.2
    ∙ ap (λ (t : Turn). step_in t ++ steps_in a.1) a.3
    ∙ ap (λ (k : List ℕ). ns ∷ k) (steps_still a.1 a.4) in record {
      mine = e.mine;
      lost = e.lost;
      last = [];
      taken = e.taken;
      refused = e.refused;
      kinds = of_ticker ns Taken e.mine e.lost e.answered;
      told = λ before h. subst (λ (k : List ℕ). has_told u (before ++ (k ++ []))) (sym steps) (tells before h);
      ends = (refl, e.answered.1);
    }
ticks_one has_told t u ns (Refused kind) old new tells e =
    let a = e.answered.1 in record {
      mine = e.mine;
      lost = e.lost;
      last = ns ∷ [];
      taken = e.taken;
      refused = e.refused;
      kinds = of_ticker ns (Refused kind) e.mine e.lost e.answered;
      told = λ before h. subst (λ (k : List ℕ). has_told u (before ++ (k ++ ns ∷ [])))
          (sym (steps_still e.mine e.answered.0)) (tells before h);
      ends = (ns, refl, (a.0, a.1, a.2));
    }

-- none, and more steps
pub ticks_none : {T : Type 0} (has_told : T → List ℕ → Type 0) (t : T) (old : Work)
    → TicksOn has_told t t true old old
ticks_none has_told t old = record {
  mine = [];
  lost = [];
  last = [];
  taken = sym (append-nil old.receipts);
  refused = sym (append-nil old.refused);
  kinds = All-nil OfTicker;
  told = λ before h. subst (has_told t) (sym (append-nil before)) h;
  ends = (refl, refl);
}

steps_twice : (before : List ℕ) (rs ss : List Receipt) (none last : List ℕ) → none ≡ []
    → (before ++ (steps_in rs ++ none)) ++ (steps_in ss ++ last) ≡ before ++ (steps_in (rs ++ ss) ++ last)
steps_twice before rs ss none last e =
    ap (λ (k : List ℕ). (before ++ (steps_in rs ++ k)) ++ (steps_in ss ++ last)) e
    ∙ ap (λ (k : List ℕ). (before ++ k) ++ (steps_in ss ++ last)) (append-nil (steps_in rs))
    ∙ append_assoc before (steps_in rs) (steps_in ss ++ last)
    ∙ ap (λ (k : List ℕ). before ++ k) (sym (append_assoc (steps_in rs) (steps_in ss) last))
    ∙ ap (λ (k : List ℕ). before ++ (k ++ last)) (sym (steps_in-append rs ss))

ends_more : (goes_on : Bool) (last : List ℕ) (none lost : List Refusal) → none ≡ [] → TellsOn goes_on last lost
    → TellsOn goes_on last (none ++ lost)
ends_more goes_on last none lost e h = rw e h

pub ticks_more : {T : Type 0} (has_told : T → List ℕ → Type 0) (t u v : T) (goes_on : Bool) (old now new : Work)
    → TicksOn has_told t u true old now → TicksOn has_told u v goes_on now new → TicksOn has_told t v goes_on old new
ticks_more has_told t u v goes_on old now new x y = record {
  mine = x.mine ++ y.mine;
  lost = x.lost ++ y.lost;
  last = y.last;
  taken = added_twice old.receipts now.receipts new.receipts x.mine y.mine x.taken y.taken;
  refused = added_twice old.refused now.refused new.refused x.lost y.lost x.refused y.refused;
  kinds = All-append OfTicker x.mine y.mine x.kinds y.kinds;
  told = λ before h. subst (has_told v) (steps_twice before x.mine y.mine x.last y.last x.ends.0)
      (y.told (before ++ (steps_in x.mine ++ x.last)) (x.told before h));
  ends = ends_more goes_on y.last x.lost y.lost x.ends.1 y.ends;
}

-- all of the ticker's receipts
pub ticks_kinds : {T : Type 0} (has_told : T → List ℕ → Type 0) (t u : T) (goes_on : Bool) (old new : Work)
    → TicksOn has_told t u goes_on old new → All OfTicker old.receipts → All OfTicker new.receipts
ticks_kinds has_told t u goes_on old new x each =
    subst (All OfTicker) (sym x.taken) (All-append OfTicker old.receipts x.mine each x.kinds)

pub ticks_all : {T : Type 0} (has_told : T → List ℕ → Type 0) (t u : T) (first : List Receipt) (old new : Work)
    → old.receipts ≡ first → old.refused ≡ [] → TicksOn has_told t u false old new → Ticks has_told t u first new
ticks_all has_told t u first old new same none x =
    let e = x.ends in record {
      mine = x.mine;
      taken = x.taken ∙ ap (λ (rs : List Receipt). rs ++ x.mine) same;
      last = e.0;
      refused = (e.2.0, x.refused ∙ ap (λ (xs : List Refusal). xs ++ x.lost) none ∙ e.2.1, e.2.2);
      told = λ before h. subst (λ (k : List ℕ). has_told u (before ++ (steps_in x.mine ++ k))) e.1 (x.told before h);
    }
