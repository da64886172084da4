-- What a worker adds to its work, and what its spawner said meanwhile.
use Rattle.std.proofs.Common.{◌≡◌, ◌≢◌, ℕ, List, [], ◌∷◌, ◌++◌, map, refl, sym, subst, ap, ◌∙◌, append_assoc}
use Rattle.std.proofs.Common.{Bool, true, false, Option, Some, None, if◌then◌else◌}
use Rattle.std.specs.List.{All}
use Rattle.std.proofs.lemmas.List.{append-nil, map-append}
use Rattle.std.proofs.lemmas.List.Elements.{All-nil, All-cons, All-append, All-weaker}
use Rattle.run_events.specs.declared.ask.StartAsk.{StartAsk}
use Rattle.run_events.specs.declared.turn.Turn.{Turn}
use Rattle.run_shared.specs.declared.shared.Receipt.{Receipt}
use Rattle.run_shared.specs.declared.offered.Refusal.{Refusal}
use Rattle.run_shared.specs.declared.offered.RefusalKind.{RefusalKind}
use Rattle.run_shared.specs.declared.offered.RefusalKind.TheVariants.{NotEnabled, ThirdSignal, Full}
use Rattle.run_drive.specs.declared.spawner.Begun.{Begun}
use Rattle.run_drive.specs.declared.spawner.Said.{Said}
use Rattle.run_drive.specs.declared.spawner.Heard.{Heard}
use Rattle.run_drive.specs.declared.spawner.Heard.TheVariants.{Asked, Spoke}
use Rattle.run_drive.specs.declared.awaited.Awaited.{Awaited}
use Rattle.run_drive.specs.declared.awaited.Awaited.TheVariants as awaits
use Rattle.run_drive.specs.declared.work.Work.{Work}
use Rattle.run_drive.specs.declared.settling.Answer.{Answer}
use Rattle.run_drive.specs.declared.settling.Answer.TheVariants.{Taken, Refused}
use Rattle.run_drive.specs.Heard.{begun_turn, said_turn, turns_from}
use Rattle.run_drive.specs.Hearing.{after_begun, after_word, GoesBy, EndsFull}
use Rattle.run_drive.specs.Driven.{is_child_turn, OfWorker, child_turns, refused_turns, IsMerge, Drives}
use Rattle.run_drive.specs.Added.{IsSettled, GivesAnswer, Enters, is_full}
use Rattle.run_drive.specs.Worked.{Begins, Listens, Attends, Works, Reaches, ReachesOn, then_awaited}
use Rattle.run_drive.proofs.AddedLemmas.{added_twice}
use Rattle.run_drive.proofs.HearingLemmas.{reaches_append, goes_append, on_none, on_append, on_reached}
use Rattle.run_drive.proofs.KindLemmas.{said_child, begun_child, settled_of_worker, child_of_worker, child_first}
use Rattle.run_drive.proofs.KindLemmas.{settled_quiet}
use Rattle.run_drive.proofs.Merges.{merge_first, merge_second, merge_twice}

-- the receipts of a child's turn that was answered are of a worker
of_worker : (turn : Turn) (answer : Answer) (mine : List Receipt) (lost : List Refusal) → is_child_turn turn ≡ true
    → GivesAnswer turn answer mine lost → All OfWorker mine
of_worker turn Taken mine lost child h =
    let a = h.0 in
    let own : OfWorker a.0 = child_of_worker a.0 (ap is_child_turn a.3 ∙ child) in
    subst (All OfWorker) (sym a.2)
    (All-cons OfWorker a.0 a.1 own (All-weaker IsSettled OfWorker settled_of_worker a.1 a.4))
of_worker turn (Refused kind) mine lost child h = All-weaker IsSettled OfWorker settled_of_worker mine h.0

-- it was taken or refused
own_turn : (turn : Turn) (answer : Answer) (mine : List Receipt) (lost : List Refusal) → is_child_turn turn ≡ true
    → GivesAnswer turn answer mine lost → IsMerge (child_turns mine) (refused_turns lost) (turn ∷ [])
own_turn turn Taken mine lost child h =
    let a = h.0 in
    let told : child_turns mine ≡ turn ∷ [] = ap child_turns a.2
    ∙ child_first a.0 a.1 (ap is_child_turn a.3 ∙ child)
    ∙ ap (λ (ts : List Turn). a.0.turn ∷ ts) (settled_quiet a.1 a.4)
    ∙ ap (λ (t : Turn). t ∷ []) a.3 in
    rw (told, h.1) (merge_first turn)
own_turn turn (Refused kind) mine lost child h =
    let told : refused_turns lost ≡ turn ∷ [] = ap refused_turns h.1.1 ∙ ap (λ (t : Turn). t ∷ []) h.1.2 in
    rw (settled_quiet mine h.0, told) (merge_second turn)

-- what is waited for then, unless the journal was found full
reached : (a b : Awaited) (during : List Heard) (turn : Turn) (answer : Answer) (mine : List Receipt)
    (lost : List Refusal) → GoesBy a during b → GivesAnswer turn answer mine lost
    → Reaches a during (if is_full answer then None else Some b) lost
reached a b during turn Taken mine lost goes h = goes
reached a b during turn (Refused NotEnabled) mine lost goes h = goes
reached a b during turn (Refused ThirdSignal) mine lost goes h = goes
reached a b during turn (Refused Full) mine lost goes h = ((b, goes), ([], h.1.0, h.1.1, h.1.3))

-- a start was asked for, and its answer offered
pub begins_one : {W : Type 0} (has_said : W → List Heard → Type 0) (w v : W) (start : StartAsk) (begun : Begun)
    (answer : Answer) (old new : Work)
    → ((xs : List Heard) → has_said w xs → has_said v (xs ++ Asked start begun ∷ []))
    → Enters old (begun_turn start.unit begun) answer new
    → Begins has_said w v start (if is_full answer then None else Some (after_begun start begun)) old new
begins_one has_said w v start begun answer old new asks e =
    let turn = begun_turn start.unit begun in
    let child = begun_child start.unit begun in record {
      mine = e.mine;
      lost = e.lost;
      taken = e.taken;
      refused = e.refused;
      kinds = of_worker turn answer e.mine e.lost child e.answered;
      heard = λ before h. (
        begun,
        asks before h,
        own_turn turn answer e.mine e.lost child e.answered,
        reached awaits.Start (after_begun start begun) (Asked start begun ∷ []) turn answer e.mine e.lost
            (refl, refl) e.answered,
      );
    }

-- no word, one word that was offered, and more words
pub listens_none : {W : Type 0} (has_said : W → List Heard → Type 0) (w : W) (unit : ℕ) (a : Awaited) (old : Work)
    → Listens has_said w w unit a (Some a) old old
listens_none has_said w unit a old = record {
  mine = [];
  lost = [];
  taken = sym (append-nil old.receipts);
  refused = sym (append-nil old.refused);
  kinds = All-nil OfWorker;
  heard = λ before h. ([], subst (has_said w) (sym (append-nil before)) h, (refl, refl), refl);
}

pub listens_one : {W : Type 0} (has_said : W → List Heard → Type 0) (w v : W) (unit : ℕ) (a : Awaited) (said : Said)
    (answer : Answer) (old new : Work) → a ≢ awaits.Start
    → ((xs : List Heard) → has_said w xs → has_said v (xs ++ Spoke said ∷ []))
    → Enters old (said_turn unit said) answer new
    → Listens has_said w v unit a (if is_full answer then None else Some (after_word a said)) old new
listens_one has_said w v unit a said answer old new waits says e =
    let turn = said_turn unit said in
    let child = said_child unit said in record {
      mine = e.mine;
      lost = e.lost;
      taken = e.taken;
      refused = e.refused;
      kinds = of_worker turn answer e.mine e.lost child e.answered;
      heard = λ before h. (
        said ∷ [],
        says before h,
        own_turn turn answer e.mine e.lost child e.answered,
        reached a (after_word a said) (Spoke said ∷ []) turn answer e.mine e.lost (waits, refl) e.answered,
      );
    }

-- words after words
spoken_twice : (before : List Heard) (us vs : List Said)
    → (before ++ map Spoke us) ++ map Spoke vs ≡ before ++ map Spoke (us ++ vs)
spoken_twice before us vs =
    append_assoc before (map Spoke us) (map Spoke vs)
    ∙ ap (λ (hs : List Heard). before ++ hs) (sym (map-append Spoke us vs))

pub listens_more : {W : Type 0} (has_said : W → List Heard → Type 0) (w v u : W) (unit : ℕ) (a b : Awaited)
    (next : Option Awaited) (old now new : Work)
    → Listens has_said w v unit a (Some b) old now → Listens has_said v u unit b next now new
    → Listens has_said w u unit a next old new
listens_more has_said w v u unit a b next old now new x y = record {
  mine = x.mine ++ y.mine;
  lost = x.lost ++ y.lost;
  taken = added_twice old.receipts now.receipts new.receipts x.mine y.mine x.taken y.taken;
  refused = added_twice old.refused now.refused new.refused x.lost y.lost x.refused y.refused;
  kinds = All-append OfWorker x.mine y.mine x.kinds y.kinds;
  heard = λ before h.
      let p = x.heard before h in
      let q = y.heard (before ++ map Spoke p.0) p.1 in (
        p.0 ++ q.0,
        subst (has_said u) (spoken_twice before p.0 q.0) q.1,
        subst (IsMerge (child_turns (x.mine ++ y.mine)) (refused_turns (x.lost ++ y.lost)))
            (sym (map-append (said_turn unit) p.0 q.0))
            (merge_twice x.mine y.mine x.lost y.lost (map (said_turn unit) p.0) (map (said_turn unit) q.0) p.2 q.2),
        subst (λ (hs : List Heard). Reaches a hs next (x.lost ++ y.lost)) (sym (map-append Spoke p.0 q.0))
            (reaches_append a b next (map Spoke p.0) (map Spoke q.0) x.lost y.lost p.3 q.3),
      );
}

-- a start at which the journal was found full, and one whose child was listened to
pub attends_begun : {W : Type 0} (has_said : W → List Heard → Type 0) (w v : W) (start : StartAsk) (old new : Work)
    → Begins has_said w v start None old new → Attends has_said w v start false old new
attends_begun has_said w v start old new b = record {
  mine = b.mine;
  lost = b.lost;
  taken = b.taken;
  refused = b.refused;
  kinds = b.kinds;
  heard = λ before h. let p = b.heard before h in (p.0, [], p.1, p.2, p.3);
}

pub attends_heard : {W : Type 0} (has_said : W → List Heard → Type 0) (w v u : W) (start : StartAsk) (a : Awaited)
    (goes_on : Bool) (old now new : Work) → Begins has_said w v start (Some a) old now
    → Listens has_said v u start.unit a (then_awaited goes_on) now new → Attends has_said w u start goes_on old new
attends_heard has_said w v u start a goes_on old now new x y = record {
  mine = x.mine ++ y.mine;
  lost = x.lost ++ y.lost;
  taken = added_twice old.receipts now.receipts new.receipts x.mine y.mine x.taken y.taken;
  refused = added_twice old.refused now.refused new.refused x.lost y.lost x.refused y.refused;
  kinds = All-append OfWorker x.mine y.mine x.kinds y.kinds;
  heard = λ before h.
      let p = x.heard before h in
      let q = y.heard (before ++ Asked start p.0 ∷ []) p.1 in (
        p.0,
        q.0,
        subst (has_said u) (append_assoc before (Asked start p.0 ∷ []) (map Spoke q.0)) q.1,
        merge_twice x.mine y.mine x.lost y.lost (begun_turn start.unit p.0 ∷ []) (map (said_turn start.unit) q.0)
            p.2 q.2,
        reaches_append awaits.Start a (then_awaited goes_on) (Asked start p.0 ∷ []) (map Spoke q.0) x.lost y.lost
            p.3 q.3,
      );
}

-- words stand for turns of the unit that they are heard of
turns_spoken : (unit : ℕ) (words : List Said) → turns_from unit (map Spoke words) ≡ map (said_turn unit) words
turns_spoken unit [] = refl
turns_spoken unit (said ∷ words) = ap (λ (ts : List Turn). said_turn unit said ∷ ts) (turns_spoken unit words)

-- the unit of the last start of a list, or this one
abbrev last_unit : ℕ → List Heard → ℕ
last_unit unit [] = unit
last_unit unit (Asked start begun ∷ rest) = last_unit start.unit rest
last_unit unit (Spoke said ∷ rest) = last_unit unit rest

turns_from-append : (unit : ℕ) (xs ys : List Heard)
    → turns_from unit (xs ++ ys) ≡ turns_from unit xs ++ turns_from (last_unit unit xs) ys
turns_from-append unit [] ys = refl
turns_from-append unit (Asked start begun ∷ xs) ys =
    ap (λ (ts : List Turn). begun_turn start.unit begun ∷ ts) (turns_from-append start.unit xs ys)
turns_from-append unit (Spoke said ∷ xs) ys =
    ap (λ (ts : List Turn). said_turn unit said ∷ ts) (turns_from-append unit xs ys)

-- no start, one that was attended to, and more starts
pub works_none : {W : Type 0} (has_said : W → List Heard → Type 0) (w : W) (goes_on : Bool) (old : Work)
    → Works has_said w w goes_on old old
works_none has_said w goes_on old = record {
  mine = [];
  lost = [];
  taken = sym (append-nil old.receipts);
  refused = sym (append-nil old.refused);
  kinds = All-nil OfWorker;
  heard = λ before h.
      ([], subst (has_said w) (sym (append-nil before)) h, λ unit. (refl, refl), on_none goes_on []);
}

pub works_attended : {W : Type 0} (has_said : W → List Heard → Type 0) (w v : W) (start : StartAsk) (goes_on : Bool)
    (old new : Work) → Attends has_said w v start goes_on old new → Works has_said w v goes_on old new
works_attended has_said w v start goes_on old new x = record {
  mine = x.mine;
  lost = x.lost;
  taken = x.taken;
  refused = x.refused;
  kinds = x.kinds;
  heard = λ before h.
      let p = x.heard before h in (
        Asked start p.0 ∷ map Spoke p.1,
        p.2,
        λ unit. subst
            (λ (ts : List Turn).
            IsMerge (child_turns x.mine) (refused_turns x.lost) (begun_turn start.unit p.0 ∷ ts))
            (sym (turns_spoken start.unit p.1)) p.3,
        on_reached goes_on (Asked start p.0 ∷ map Spoke p.1) x.lost p.4,
      );
}

pub works_more : {W : Type 0} (has_said : W → List Heard → Type 0) (w v u : W) (goes_on : Bool) (old now new : Work)
    → Works has_said w v true old now → Works has_said v u goes_on now new → Works has_said w u goes_on old new
works_more has_said w v u goes_on old now new x y = record {
  mine = x.mine ++ y.mine;
  lost = x.lost ++ y.lost;
  taken = added_twice old.receipts now.receipts new.receipts x.mine y.mine x.taken y.taken;
  refused = added_twice old.refused now.refused new.refused x.lost y.lost x.refused y.refused;
  kinds = All-append OfWorker x.mine y.mine x.kinds y.kinds;
  heard = λ before h.
      let p = x.heard before h in
      let q = y.heard (before ++ p.0) p.1 in (
        p.0 ++ q.0,
        subst (has_said u) (append_assoc before p.0 q.0) q.1,
        λ unit. subst (IsMerge (child_turns (x.mine ++ y.mine)) (refused_turns (x.lost ++ y.lost)))
            (sym (turns_from-append unit p.0 q.0))
            (merge_twice x.mine y.mine x.lost y.lost (turns_from unit p.0) (turns_from (last_unit unit p.0) q.0)
            (p.2 unit) (q.2 (last_unit unit p.0))),
        on_append goes_on p.0 q.0 x.lost y.lost p.3 q.3,
      );
}

-- all of a worker's receipts and refusals
pub drives_all : {W : Type 0} (has_said : W → List Heard → Type 0) (w v : W) (old new : Work) → old.receipts ≡ []
    → old.refused ≡ [] → Works has_said w v false old new → Drives has_said w v new
drives_all has_said w v old new none no_refusal x =
    let receipts : new.receipts ≡ x.mine = x.taken ∙ ap (λ (rs : List Receipt). rs ++ x.mine) none in
    let refused : new.refused ≡ x.lost = x.refused ∙ ap (λ (rs : List Refusal). rs ++ x.lost) no_refusal in record {
      kinds = rw receipts x.kinds;
      heard = λ before h. let p = x.heard before h in (p.0, p.1, rw (receipts, refused) (p.2 0), rw refused p.3);
    }
