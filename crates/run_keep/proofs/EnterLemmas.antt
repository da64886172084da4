-- What was added to the work of a worker.
use Rattle.std.proofs.Common.{◌≡◌, List, [], ◌∷◌, ◌++◌, true, false, Option, Some, None, refl, sym, subst, ap}
use Rattle.std.proofs.Common.{◌∙◌, append_assoc}
use Rattle.std.proofs.lemmas.List.{append-nil}
use Rattle.std.proofs.lemmas.List.Elements.{All-nil, All-cons, All-append, All-weaker}
use Rattle.std.specs.List.{All}
use Rattle.run_events.specs.declared.turn.Turn.{Turn}
use Rattle.run_shared.specs.declared.shared.Receipt.{Receipt}
use Rattle.run_shared.specs.declared.offered.Refusal.{Refusal}
use Rattle.run_drive.specs.Added.{IsSettled, SettlesSome}
use Rattle.run_drive.specs.Driven.{is_child_turn, child_turns, IsMerge, OfWorker}
use Rattle.run_drive.proofs.KindLemmas.{settled_quiet, settled_of_worker, child_of_worker, child_first}
use Rattle.run_drive.proofs.Merges.{merge_first, merge_second}
use Rattle.run_keep.specs.declared.kept.Kept.{Kept}
use Rattle.run_keep.specs.Minded.{is_written, IsUnwritten}
use Rattle.run_keep.specs.Entered.{GivesRefusal, EntersTurn, AddsChildTurn}

-- the receipts of a turn that was taken, and of one that was refused
of_taken : (r : Receipt) (rest : List Receipt) (turn : Turn) → r.turn ≡ turn → is_child_turn turn ≡ true
    → All IsSettled rest → All OfWorker (r ∷ rest)
of_taken r rest turn same child settled =
    All-cons OfWorker r rest (child_of_worker r (ap is_child_turn same ∙ child))
    (All-weaker IsSettled OfWorker settled_of_worker rest settled)

turns_taken : (r : Receipt) (rest : List Receipt) (turn : Turn) → r.turn ≡ turn → is_child_turn turn ≡ true
    → All IsSettled rest → child_turns (r ∷ rest) ≡ turn ∷ []
turns_taken r rest turn same child settled =
    child_first r rest (ap is_child_turn same ∙ child)
    ∙ ap (λ (ts : List Turn). r.turn ∷ ts) (settled_quiet rest settled)
    ∙ ap (λ (t : Turn). t ∷ []) same

pub kinds_taken : (mine : List Receipt) (turn : Turn) → is_child_turn turn ≡ true → GivesRefusal turn None mine
    → All OfWorker mine
kinds_taken mine turn child g = subst (All OfWorker) (sym g.2) (of_taken g.0 g.1 turn g.3 child g.4)

pub turn_taken : (mine : List Receipt) (turn : Turn) → is_child_turn turn ≡ true → GivesRefusal turn None mine
    → child_turns mine ≡ turn ∷ []
turn_taken mine turn child g = ap child_turns g.2 ∙ turns_taken g.0 g.1 turn g.3 child g.4

pub kinds_refused : (mine : List Receipt) → All IsSettled mine → All OfWorker mine
kinds_refused mine settled = All-weaker IsSettled OfWorker settled_of_worker mine settled

-- the turn was taken
pub adds_taken : (old new : Kept) (turn : Turn) → is_child_turn turn ≡ true
    → EntersTurn old.receipts turn None new.receipts → new.lost ≡ old.lost → new.orders ≡ old.orders
    → new.from ≡ old.from → AddsChildTurn old turn new
adds_taken old new turn child e lost orders from = record {
  mine = e.mine;
  lost = [];
  taken = e.added;
  refused = lost ∙ sym (append-nil old.lost);
  orders = orders;
  from = from;
  kinds = kinds_taken e.mine turn child e.given;
  unwritten = All-nil IsUnwritten;
  merged = subst (λ (ts : List Turn). IsMerge ts [] (turn ∷ [])) (sym (turn_taken e.mine turn child e.given))
      (merge_first turn);
}

-- it was refused
pub adds_refused : (old new : Kept) (turn : Turn) (x : Refusal) → is_written turn ≡ false
    → EntersTurn old.receipts turn (Some x) new.receipts → new.lost ≡ old.lost ++ x ∷ [] → new.orders ≡ old.orders
    → new.from ≡ old.from → AddsChildTurn old turn new
adds_refused old new turn x plain e lost orders from = record {
  mine = e.mine;
  lost = x ∷ [];
  taken = e.added;
  refused = lost;
  orders = orders;
  from = from;
  kinds = kinds_refused e.mine e.given.0;
  unwritten = All-cons IsUnwritten x [] (ap is_written e.given.1 ∙ plain) (All-nil IsUnwritten);
  merged = rw (settled_quiet e.mine e.given.0, e.given.1) (merge_second turn);
}

-- what was offered, and what was settled after it
pub enters_taken : (old new : List Receipt) (r : Receipt) → new ≡ old ++ r ∷ [] → EntersTurn old r.turn None new
enters_taken old new r more = record { mine = r ∷ []; added = more; given = (r, [], refl, refl, All-nil IsSettled) }

pub enters_refused : (old : List Receipt) (x : Refusal) → EntersTurn old x.turn (Some x) old
enters_refused old x = record { mine = []; added = sym (append-nil old); given = (All-nil IsSettled, refl) }

gives_more : (turn : Turn) (refusal : Option Refusal) (mine more : List Receipt) → GivesRefusal turn refusal mine
    → All IsSettled more → GivesRefusal turn refusal (mine ++ more)
gives_more turn None mine more g settled = (
  g.0,
  g.1 ++ more,
  ap (λ (rs : List Receipt). rs ++ more) g.2,
  g.3,
  All-append IsSettled g.1 more g.4 settled,
)
gives_more turn (Some x) mine more g settled = (All-append IsSettled mine more g.0 settled, g.1)

pub enters_more : (old now new : List Receipt) (turn : Turn) (refusal : Option Refusal)
    → EntersTurn old turn refusal now → SettlesSome now new → EntersTurn old turn refusal new
enters_more old now new turn refusal e s = record {
  mine = e.mine ++ s.mine;
  added = s.added ∙ ap (λ (rs : List Receipt). rs ++ s.mine) e.added ∙ append_assoc old e.mine s.mine;
  given = gives_more turn refusal e.mine s.mine e.given s.kinds;
}

pub settles_these : (old new more : List Receipt) → new ≡ old ++ more → All IsSettled more → SettlesSome old new
settles_these old new more added kinds = record { mine = more; added = added; kinds = kinds }
