-- What came from outside, one list after another.
use Rattle.std.proofs.Common.{◌≡◌, List, [], ◌∷◌, ◌++◌, map, Bool, true, false, cond, ◌&&◌, ◌||◌, Option, Some, None}
use Rattle.std.proofs.Common.{refl, sym, subst, ap, ◌∙◌, append_assoc}
use Rattle.std.specs.Prelude.{option_to_list}
use Rattle.std.specs.List.{All, filter}
use Rattle.std.proofs.Math.Bool.{or-true}
use Rattle.std.proofs.lemmas.List.{append-nil, map-append}
use Rattle.std.proofs.lemmas.List.Elements.{All-nil, All-cons, All-append, All-weaker, All-head, All-tail}
use Rattle.std.proofs.lemmas.List.Elements.{filter-append}
use Rattle.run_events.specs.declared.plan.Hearing.{Hearing}
use Rattle.run_events.specs.declared.turn.Turn.{Turn}
use Rattle.run_events.specs.declared.turn.Turn.TheVariants as turns
use Rattle.run_shared.specs.declared.shared.Receipt.{Receipt}
use Rattle.run_shared.specs.declared.offered.Refusal.{Refusal}
use Rattle.run_shared.specs.Settled.{is_settled_turn}
use Rattle.run_drive.specs.Added.{IsSettled}
use Rattle.run_drive.specs.Driven.{IsMerge}
use Rattle.run_drive.proofs.Merges.{merge_append, merge_first, merge_second}
use Rattle.run_keep.specs.declared.outside.Came.{Came}
use Rattle.run_keep.specs.declared.outside.Came.TheVariants as came
use Rattle.run_keep.specs.declared.listened.Dropped.{Dropped}
use Rattle.run_keep.specs.declared.listened.Dropped.TheVariants.{Unheard, Refused}
use Rattle.run_keep.specs.declared.listened.Listened.{Listened}
use Rattle.run_keep.specs.Outside.{came_turn}
use Rattle.run_keep.specs.Entered.{GivesRefusal, EntersTurn}
use Rattle.run_keep.specs.Listened.{is_outside_turn, OfListener, outside_turns, hears_came, dropped_turn, dropped_turns}
use Rattle.run_keep.specs.Listened.{IsDropped, turns_come, TakesIn, Sorts, HearsOn, HearsOutside}

-- no turn is both of the outside and settled
apart : (t : Turn) → (is_settled_turn t && is_outside_turn t) ≡ false
apart turns.Begin = refl
apart turns.Admit = refl
apart turns.Deliver = refl
apart (turns.Started unit pid) = refl
apart (turns.StartFailed unit error) = refl
apart (turns.Exit unit exit) = refl
apart (turns.WaitFailed unit error) = refl
apart (turns.Piece unit stream bytes) = refl
apart (turns.StreamEnd unit stream) = refl
apart (turns.ReadError unit stream error) = refl
apart (turns.Env unit input) = refl
apart (turns.Decide unit word) = refl
apart (turns.UnitDue unit) = refl
apart turns.GlobalDue = refl
apart turns.StopWaitDue = refl
apart turns.InfoDue = refl
apart turns.Answer = refl
apart (turns.Take unit) = refl
apart (turns.Clock ns) = refl
apart (turns.Signal signal) = refl
apart (turns.Key key) = refl
apart turns.Tick = refl
apart turns.ReportCancel = refl
apart turns.End = refl

not_outside : (t : Turn) → is_settled_turn t ≡ true → is_outside_turn t ≡ false
not_outside t settled = subst (λ (b : Bool). (b && is_outside_turn t) ≡ false) settled (apart t)

settled_outside : (rs : List Receipt) → All IsSettled rs → outside_turns rs ≡ []
settled_outside [] each = refl
settled_outside (r ∷ rs) each =
    subst (λ (b : Bool). cond b (r.turn ∷ outside_turns rs) (outside_turns rs) ≡ [])
    (sym (not_outside r.turn (All-head IsSettled r rs each))) (settled_outside rs (All-tail IsSettled r rs each))

settled_of : (r : Receipt) → IsSettled r → OfListener r
settled_of r settled =
    subst (λ (b : Bool). (is_outside_turn r.turn || b) ≡ true) (sym settled) (or-true (is_outside_turn r.turn))

outside_came : (c : Came) → is_outside_turn (came_turn c) ≡ true
outside_came (came.Signal signal) = refl
outside_came (came.Key key) = refl
outside_came came.Tick = refl

outside_of : (r : Receipt) → is_outside_turn r.turn ≡ true → OfListener r
outside_of r outside = subst (λ (b : Bool). (b || is_settled_turn r.turn) ≡ true) (sym outside) refl

outside_first : (r : Receipt) (rest : List Receipt) → is_outside_turn r.turn ≡ true
    → outside_turns (r ∷ rest) ≡ r.turn ∷ outside_turns rest
outside_first r rest outside =
    subst (λ (b : Bool). cond b (r.turn ∷ outside_turns rest) (outside_turns rest) ≡ r.turn ∷ outside_turns rest)
    (sym outside) refl

-- the receipts of what was taken
kinds_taken : (mine : List Receipt) (c : Came) → GivesRefusal (came_turn c) None mine → All OfListener mine
kinds_taken mine c g =
    subst (All OfListener) (sym g.2)
    (All-cons OfListener g.0 g.1 (outside_of g.0 (ap is_outside_turn g.3 ∙ outside_came c))
    (All-weaker IsSettled OfListener settled_of g.1 g.4))

turn_taken : (mine : List Receipt) (c : Came) → GivesRefusal (came_turn c) None mine
    → outside_turns mine ≡ came_turn c ∷ []
turn_taken mine c g =
    ap outside_turns g.2
    ∙ outside_first g.0 g.1 (ap is_outside_turn g.3 ∙ outside_came c)
    ∙ ap (λ (ts : List Turn). g.0.turn ∷ ts) (settled_outside g.1 g.4)
    ∙ ap (λ (t : Turn). t ∷ []) g.3

-- what is held stays, or is taken, kept, refused or unheard
pub sorts_none : (h : Hearing) (a : Option Came) (old : Listened) → Sorts h a a old old
sorts_none h a old = record {
  mine = [];
  gone = [];
  decided = [];
  taken = sym (append-nil old.receipts);
  dropped = sym (append-nil old.dropped);
  kinds = All-nil OfListener;
  reasons = All-nil (IsDropped h);
  order = refl;
  merged = (refl, refl);
}

pub sorts_taken : (h : Hearing) (c : Came) (old new : Listened)
    → EntersTurn old.receipts (came_turn c) None new.receipts
    → new.dropped ≡ old.dropped → Sorts h (Some c) None old new
sorts_taken h c old new e same = record {
  mine = e.mine;
  gone = [];
  decided = c ∷ [];
  taken = e.added;
  dropped = same ∙ sym (append-nil old.dropped);
  kinds = kinds_taken e.mine c e.given;
  reasons = All-nil (IsDropped h);
  order = refl;
  merged = subst (λ (ts : List Turn). IsMerge ts [] (came_turn c ∷ [])) (sym (turn_taken e.mine c e.given))
      (merge_first (came_turn c));
}

pub sorts_kept : (h : Hearing) (c : Came) (x : Refusal) (old new : Listened)
    → EntersTurn old.receipts (came_turn c) (Some x) new.receipts → new.dropped ≡ old.dropped
    → Sorts h (Some c) (Some c) old new
sorts_kept h c x old new e same = record {
  mine = e.mine;
  gone = [];
  decided = [];
  taken = e.added;
  dropped = same ∙ sym (append-nil old.dropped);
  kinds = All-weaker IsSettled OfListener settled_of e.mine e.given.0;
  reasons = All-nil (IsDropped h);
  order = refl;
  merged = (settled_outside e.mine e.given.0, refl);
}

pub sorts_refused : (h : Hearing) (c : Came) (x : Refusal) (old new : Listened)
    → EntersTurn old.receipts (came_turn c) (Some x) new.receipts → new.dropped ≡ old.dropped ++ Refused x ∷ []
    → Sorts h (Some c) None old new
sorts_refused h c x old new e more = record {
  mine = e.mine;
  gone = Refused x ∷ [];
  decided = c ∷ [];
  taken = e.added;
  dropped = more;
  kinds = All-weaker IsSettled OfListener settled_of e.mine e.given.0;
  reasons = All-cons (IsDropped h) (Refused x) [] tt (All-nil (IsDropped h));
  order = refl;
  merged = rw (settled_outside e.mine e.given.0, e.given.1) (merge_second (came_turn c));
}

pub sorts_unheard : (h : Hearing) (c : Came) (old new : Listened) → hears_came h c ≡ false
    → new.receipts ≡ old.receipts → new.dropped ≡ old.dropped ++ Unheard c ∷ [] → Sorts h (Some c) None old new
sorts_unheard h c old new deaf same more = record {
  mine = [];
  gone = Unheard c ∷ [];
  decided = c ∷ [];
  taken = same ∙ sym (append-nil old.receipts);
  dropped = more;
  kinds = All-nil OfListener;
  reasons = All-cons (IsDropped h) (Unheard c) [] deaf (All-nil (IsDropped h));
  order = refl;
  merged = merge_second (came_turn c);
}

-- something came, or nothing did
pub takes_next : {W : Type 0} (has : W → List Came → Type 0) (w v : W) (c : Came)
    → ((xs : List Came) → has w xs → has v (xs ++ c ∷ [])) → TakesIn has w v None (Some c)
takes_next has w v c says = record { come = λ before h. (c ∷ [], says before h, refl) }

pub takes_none : {W : Type 0} (has : W → List Came → Type 0) (w v : W) (a : Option Came)
    → ((xs : List Came) → has w xs → has v xs) → TakesIn has w v a a
takes_none has w v a says = record {
  come = λ before h. ([], subst (has v) (sym (append-nil before)) (says before h), append-nil (option_to_list a));
}

-- and was sorted then, or wasn't
pub listens_sorted : {W : Type 0} (has : W → List Came → Type 0) (w v : W) (h : Hearing) (a b c : Option Came)
    (old new : Listened) → TakesIn has w v a b → Sorts h b c old new → HearsOn has w v h a c old new
listens_sorted has w v h a b c old new t s = record {
  mine = s.mine;
  gone = s.gone;
  taken = s.taken;
  dropped = s.dropped;
  kinds = s.kinds;
  reasons = s.reasons;
  come = λ before k. let x = t.come before k in (x.0, x.1, (s.decided, x.2 ∙ s.order, s.merged));
}

pub listens_took : {W : Type 0} (has : W → List Came → Type 0) (w v : W) (h : Hearing) (a b : Option Came)
    (old : Listened) → TakesIn has w v a b → HearsOn has w v h a b old old
listens_took has w v h a b old t = listens_sorted has w v h a b b old old t (sorts_none h b old)

pub listens_none : {W : Type 0} (has : W → List Came → Type 0) (w : W) (h : Hearing) (a : Option Came)
    (old : Listened) → HearsOn has w w h a a old old
listens_none has w h a old = listens_took has w w h a a old (takes_none has w w a (λ xs k. k))

-- one list after another
outside_twice : (rs ss : List Receipt) → outside_turns (rs ++ ss) ≡ outside_turns rs ++ outside_turns ss
outside_twice rs ss =
    ap (filter is_outside_turn) (map-append (λ (r : Receipt). r.turn) rs ss)
    ∙ filter-append is_outside_turn (map (λ (r : Receipt). r.turn) rs) (map (λ (r : Receipt). r.turn) ss)

merged_twice : (rs ss : List Receipt) (xs ys : List Dropped) (cs ds : List Came)
    → IsMerge (outside_turns rs) (dropped_turns xs) (turns_come cs)
    → IsMerge (outside_turns ss) (dropped_turns ys) (turns_come ds)
    → IsMerge (outside_turns (rs ++ ss)) (dropped_turns (xs ++ ys)) (turns_come (cs ++ ds))
merged_twice rs ss xs ys cs ds a b =
    rw (outside_twice rs ss, map-append dropped_turn xs ys, map-append came_turn cs ds)
    (merge_append (outside_turns rs) (dropped_turns xs) (turns_come cs) (outside_turns ss) (dropped_turns ys)
    (turns_come ds) a b)

orders_twice : (a b c d1 d2 x1 x2 : List Came) → a ++ d1 ≡ x1 ++ b → b ++ d2 ≡ x2 ++ c
    → a ++ (d1 ++ d2) ≡ (x1 ++ x2) ++ c
orders_twice a b c d1 d2 x1 x2 first then =
    sym (append_assoc a d1 d2)
    ∙ ap (λ (xs : List Came). xs ++ d2) first
    ∙ append_assoc x1 b d2
    ∙ ap (λ (xs : List Came). x1 ++ xs) then
    ∙ sym (append_assoc x1 x2 c)

added_twice : {X : Type 0} → (a b c x y : List X) → b ≡ a ++ x → c ≡ b ++ y → c ≡ a ++ (x ++ y)
added_twice a b c x y first then = then ∙ ap (λ rs. rs ++ y) first ∙ append_assoc a x y

pub listens_more : {W : Type 0} (has : W → List Came → Type 0) (u v w : W) (h : Hearing) (a b c : Option Came)
    (old now new : Listened) → HearsOn has u v h a b old now → HearsOn has v w h b c now new
    → HearsOn has u w h a c old new
listens_more has u v w h a b c old now new x y = record {
  mine = x.mine ++ y.mine;
  gone = x.gone ++ y.gone;
  taken = added_twice old.receipts now.receipts new.receipts x.mine y.mine x.taken y.taken;
  dropped = added_twice old.dropped now.dropped new.dropped x.gone y.gone x.dropped y.dropped;
  kinds = All-append OfListener x.mine y.mine x.kinds y.kinds;
  reasons = All-append (IsDropped h) x.gone y.gone x.reasons y.reasons;
  come = λ before k. let one = x.come before k in
      let two = y.come (before ++ one.0) one.1 in (
        one.0 ++ two.0,
        subst (has w) (append_assoc before one.0 two.0) two.1,
        (
          one.2.0 ++ two.2.0,
          orders_twice (option_to_list a) (option_to_list b) (option_to_list c) one.0 two.0 one.2.0 two.2.0 one.2.1
              two.2.1,
          merged_twice x.mine y.mine x.gone y.gone one.2.0 two.2.0 one.2.2 two.2.2,
        ),
      );
}

-- at last what was held is decided
pub listens_last : {W : Type 0} (has : W → List Came → Type 0) (w v : W) (h : Hearing) (a b : Option Came)
    (old now new : Listened) → HearsOn has w v h a b old now → Sorts h b None now new
    → HearsOn has w v h a None old new
listens_last has w v h a b old now new x s =
    listens_more has w v v h a b None old now new x
    (listens_sorted has v v h b b None now new (takes_none has v v b (λ xs k. k)) s)

pub sorts_last : (h : Hearing) (a b : Option Came) (old new : Listened) → Sorts h a b old new → b ≡ None
    → Sorts h a None old new
sorts_last h a b old new s none = subst (λ (o : Option Came). Sorts h a o old new) none s

-- all of a listener's work
pub hears_all : {W : Type 0} (has : W → List Came → Type 0) (w v : W) (h : Hearing) (old new : Listened)
    → old.receipts ≡ [] → old.dropped ≡ [] → HearsOn has w v h None None old new → HearsOutside has w v h new
hears_all has w v h old new receipts dropped x =
    let mine : new.receipts ≡ x.mine = x.taken ∙ ap (λ (rs : List Receipt). rs ++ x.mine) receipts in
    let gone : new.dropped ≡ x.gone = x.dropped ∙ ap (λ (xs : List Dropped). xs ++ x.gone) dropped in record {
      kinds = subst (All OfListener) (sym mine) x.kinds;
      reasons = subst (All (IsDropped h)) (sym gone) x.reasons;
      come = λ before k. let d = x.come before k in (
        d.0,
        d.1,
        rw (mine, gone) (subst (λ (cs : List Came). IsMerge (outside_turns x.mine) (dropped_turns x.gone)
            (turns_come cs)) (sym (d.2.1 ∙ append-nil d.2.0)) d.2.2),
      );
    }
