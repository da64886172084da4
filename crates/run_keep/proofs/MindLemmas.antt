-- What a keeper heard, one list after another.
use Rattle.std.proofs.Common.{◌≡◌, ℕ, ◌+◌, ◌≤◌, List, [], ◌∷◌, ◌++◌, map, Bool, true, Option, None, refl}
use Rattle.std.proofs.Common.{sym, subst, ap, ◌∙◌, append_assoc, arith}
use Rattle.std.proofs.lemmas.List.{append-nil, map-append}
use Rattle.std.proofs.lemmas.List.Elements.{All-nil, All-append}
use Rattle.std.specs.List.{All}
use Rattle.run_events.specs.declared.ask.SignalAsk.{SignalAsk}
use Rattle.run_events.specs.declared.turn.Turn.{Turn}
use Rattle.run_shared.specs.declared.shared.Receipt.{Receipt}
use Rattle.run_shared.specs.declared.offered.Refusal.{Refusal}
use Rattle.run_shared.specs.declared.orders.Order.{Order}
use Rattle.run_drive.specs.Driven.{OfWorker, child_turns, refused_turns, IsMerge}
use Rattle.run_drive.proofs.Merges.{merge_twice}
use Rattle.run_keep.specs.declared.keeper.Heard.{Heard}
use Rattle.run_keep.specs.declared.kept.Kept.{Kept}
use Rattle.run_keep.specs.Minded.{after, MayHear, Minds, turn_heard, turns_heard, signal_told}
use Rattle.run_keep.specs.Minded.{signals_told, signals_ordered}
use Rattle.run_keep.specs.Minded.{Rises, IsUnwritten, Minded, Tends, KeepsChildren}

-- one list after another
minds_twice : (a b c : Option (ℕ × Bool)) (xs ys : List Heard) → Minds a xs b → Minds b ys c → Minds a (xs ++ ys) c
minds_twice a b c [] ys h k = subst (λ (o : Option (ℕ × Bool)). Minds o ys c) (sym h) k
minds_twice a b c (x ∷ xs) ys h k = (h.0, minds_twice (after a x) b c xs ys h.1 k)

turns_twice : (a b : Option (ℕ × Bool)) (xs ys : List Heard) → Minds a xs b
    → turns_heard a (xs ++ ys) ≡ turns_heard a xs ++ turns_heard b ys
turns_twice a b [] ys h = ap (λ (o : Option (ℕ × Bool)). turns_heard o ys) h
turns_twice a b (x ∷ xs) ys h =
    ap (λ (ts : List Turn). turn_heard a x ++ ts) (turns_twice (after a x) b xs ys h.1)
    ∙ sym (append_assoc (turn_heard a x) (turns_heard (after a x) xs) (turns_heard b ys))

signals_twice : (xs ys : List Heard) → signals_told (xs ++ ys) ≡ signals_told xs ++ signals_told ys
signals_twice [] ys = refl
signals_twice (x ∷ xs) ys =
    ap (λ (ss : List SignalAsk). signal_told x ++ ss) (signals_twice xs ys)
    ∙ sym (append_assoc (signal_told x) (signals_told xs) (signals_told ys))

rises_after : (a b c : ℕ) (os : List Order) → a ≤ b → Rises b os c → Rises a os c
rises_after a b c [] h k = omega (arith, h, k)
rises_after a b c (o ∷ os) h k = (omega (arith, h, k.0), k.1)

rises_twice : (a b c : ℕ) (os ps : List Order) → Rises a os b → Rises b ps c → Rises a (os ++ ps) c
rises_twice a b c [] ps h k = rises_after a b c ps h k
rises_twice a b c (o ∷ os) ps h k = (h.0, rises_twice (o.place + 1) b c os ps h.1 k)

added_twice : {X : Type 0} → (a b c x y : List X) → b ≡ a ++ x → c ≡ b ++ y → c ≡ a ++ (x ++ y)
added_twice a b c x y first then = then ∙ ap (λ rs. rs ++ y) first ∙ append_assoc a x y

-- nothing was heard or added, but the place of the next order may have moved
pub minded_quiet : {W : Type 0} (has : W → List Heard → Type 0) (w v : W) (child : Option (ℕ × Bool)) (old new : Kept)
    → ((xs : List Heard) → has w xs → has v xs) → new.receipts ≡ old.receipts → new.lost ≡ old.lost
    → new.orders ≡ old.orders → old.from ≤ new.from → Minded has w v child child old new
minded_quiet has w v child old new says receipts lost orders later = record {
  mine = [];
  lost = [];
  handed = [];
  taken = receipts ∙ sym (append-nil old.receipts);
  refused = lost ∙ sym (append-nil old.lost);
  ordered = orders ∙ sym (append-nil old.orders);
  rises = later;
  kinds = All-nil OfWorker;
  unwritten = All-nil IsUnwritten;
  heard = λ before h. (
    [],
    subst (has v) (sym (append-nil before)) (says before h),
    refl,
    (refl, refl),
    refl,
  );
}

pub minded_none : {W : Type 0} (has : W → List Heard → Type 0) (w : W) (child : Option (ℕ × Bool)) (old : Kept)
    → Minded has w w child child old old
minded_none has w child old =
    minded_quiet has w w child old old (λ xs h. h) refl refl refl (omega arith)

-- settled turns were added, and nothing was heard
pub minded_settled : {W : Type 0} (has : W → List Heard → Type 0) (w v : W) (child : Option (ℕ × Bool))
    (old new : Kept) (mine : List Receipt) → ((xs : List Heard) → has w xs → has v xs)
    → new.receipts ≡ old.receipts ++ mine → All OfWorker mine → child_turns mine ≡ [] → new.lost ≡ old.lost
    → new.orders ≡ old.orders → new.from ≡ old.from → Minded has w v child child old new
minded_settled has w v child old new mine says taken kinds none lost orders from = record {
  mine = mine;
  lost = [];
  handed = [];
  taken = taken;
  refused = lost ∙ sym (append-nil old.lost);
  ordered = orders ∙ sym (append-nil old.orders);
  rises = omega (arith, from);
  kinds = kinds;
  unwritten = All-nil IsUnwritten;
  heard = λ before h. (
    [],
    subst (has v) (sym (append-nil before)) (says before h),
    refl,
    (none, refl),
    refl,
  );
}

-- one thing was heard
pub minded_one : {W : Type 0} (has : W → List Heard → Type 0) (w v : W) (child : Option (ℕ × Bool)) (x : Heard)
    (old new : Kept) (mine : List Receipt) (lost : List Refusal) (handed : List Order)
    → new.receipts ≡ old.receipts ++ mine → new.lost ≡ old.lost ++ lost → new.orders ≡ old.orders ++ handed
    → Rises old.from handed new.from → All OfWorker mine → All IsUnwritten lost
    → ((xs : List Heard) → has w xs → has v (xs ++ x ∷ [])) → MayHear child x
    → IsMerge (child_turns mine) (refused_turns lost) (turn_heard child x)
    → signals_ordered handed ≡ signal_told x → Minded has w v child (after child x) old new
minded_one has w v child x old new mine lost handed taken refused ordered rises kinds unwritten says may merged told =
    record {
      mine = mine;
      lost = lost;
      handed = handed;
      taken = taken;
      refused = refused;
      ordered = ordered;
      rises = rises;
      kinds = kinds;
      unwritten = unwritten;
      heard = λ before h. (
        x ∷ [],
        says before h,
        (may, refl),
        subst (IsMerge (child_turns mine) (refused_turns lost)) (sym (append-nil (turn_heard child x))) merged,
        told ∙ sym (append-nil (signal_told x)),
      );
    }

pub minded_more : {W : Type 0} (has : W → List Heard → Type 0) (u v w : W) (a b c : Option (ℕ × Bool))
    (old now new : Kept) → Minded has u v a b old now → Minded has v w b c now new → Minded has u w a c old new
minded_more has u v w a b c old now new x y = record {
  mine = x.mine ++ y.mine;
  lost = x.lost ++ y.lost;
  handed = x.handed ++ y.handed;
  taken = added_twice old.receipts now.receipts new.receipts x.mine y.mine x.taken y.taken;
  refused = added_twice old.lost now.lost new.lost x.lost y.lost x.refused y.refused;
  ordered = added_twice old.orders now.orders new.orders x.handed y.handed x.ordered y.ordered;
  rises = rises_twice old.from now.from new.from x.handed y.handed x.rises y.rises;
  kinds = All-append OfWorker x.mine y.mine x.kinds y.kinds;
  unwritten = All-append IsUnwritten x.lost y.lost x.unwritten y.unwritten;
  heard = λ before h. let one = x.heard before h in
      let two = y.heard (before ++ one.0) one.1 in (
        one.0 ++ two.0,
        subst (has w) (append_assoc before one.0 two.0) two.1,
        minds_twice a b c one.0 two.0 one.2 two.2,
        subst (IsMerge (child_turns (x.mine ++ y.mine)) (refused_turns (x.lost ++ y.lost)))
            (sym (turns_twice a b one.0 two.0 one.2))
            (merge_twice x.mine y.mine x.lost y.lost (turns_heard a one.0) (turns_heard b two.0) one.3 two.3),
        map-append (λ (o : Order). o.ask) x.handed y.handed
            ∙ ap (λ (ss : List SignalAsk). ss ++ signals_ordered y.handed) one.4
            ∙ ap (λ (ss : List SignalAsk). signals_told one.0 ++ ss) two.4
            ∙ sym (signals_twice one.0 two.0),
      );
}

-- a worker attends to starts, one after another
pub attends_none : {W : Type 0} (has : W → List Heard → Type 0) (w : W) (goes_on : Bool) (old : Kept)
    → Tends has w w goes_on old old
attends_none has w goes_on old = record {
  each = λ child idle. (child, λ on. idle, minded_none has w child old);
}

pub attends_more : {W : Type 0} (has : W → List Heard → Type 0) (u v w : W) (goes_on : Bool) (old now new : Kept)
    → Tends has u v true old now → Tends has v w goes_on now new → Tends has u w goes_on old new
attends_more has u v w goes_on old now new x y = record {
  each = λ child idle. let one = x.each child idle in
      let two = y.each one.0 (one.1 refl) in
      (two.0, two.1, minded_more has u v w child one.0 two.0 old now new one.2 two.2);
}

-- all of a worker's work
pub keeps_all : {W : Type 0} (has : W → List Heard → Type 0) (w v : W) (goes_on : Bool) (old new : Kept)
    → old.receipts ≡ [] → old.lost ≡ [] → old.orders ≡ [] → old.from ≡ 0 → Tends has w v goes_on old new
    → KeepsChildren has w v new
keeps_all has w v goes_on old new receipts lost orders from x =
    let a = x.each None refl in
    let m = a.2 in
    let mine : new.receipts ≡ m.mine = m.taken ∙ ap (λ (rs : List Receipt). rs ++ m.mine) receipts in
    let gone : new.lost ≡ m.lost = m.refused ∙ ap (λ (xs : List Refusal). xs ++ m.lost) lost in
    let handed : new.orders ≡ m.handed = m.ordered ∙ ap (λ (os : List Order). os ++ m.handed) orders in record {
      kinds = subst (All OfWorker) (sym mine) m.kinds;
      unwritten = subst (All IsUnwritten) (sym gone) m.unwritten;
      rises = subst (λ (n : ℕ). Rises n new.orders new.from) from
          (subst (λ (os : List Order). Rises old.from os new.from) (sym handed) m.rises);
      heard = λ before h. let d = m.heard before h in (
        d.0,
        d.1,
        (a.0, d.2),
        rw (mine, gone) d.3,
        rw handed d.4,
      );
    }

-- and its keeper ended then
pub keeps_ended : {W : Type 0} (has : W → List Heard → Type 0) (u v w : W) (work : Kept) → KeepsChildren has u v work
    → ((xs : List Heard) → has v xs → has w xs) → KeepsChildren has u w work
keeps_ended has u v w work k ends = record {
  kinds = k.kinds;
  unwritten = k.unwritten;
  rises = k.rises;
  heard = λ before h. let d = k.heard before h in (d.0, ends (before ++ d.0) d.1, d.2, d.3, d.4);
}
