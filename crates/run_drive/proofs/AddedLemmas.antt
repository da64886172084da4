-- What was added to the work of a thread.
use Rattle.std.proofs.Common.{◌≡◌, ℕ, List, [], ◌∷◌, ◌++◌, refl, sym, subst, ap, ◌∙◌, append_assoc}
use Rattle.std.specs.List.{All}
use Rattle.std.proofs.lemmas.List.{append-nil}
use Rattle.std.proofs.lemmas.List.Elements.{All-nil, All-cons, All-append, All-weaker}
use Rattle.run_events.specs.declared.turn.Turn.{Turn}
use Rattle.run_shared.specs.declared.shared.Receipt.{Receipt}
use Rattle.run_shared.specs.declared.offered.Refusal.{Refusal}
use Rattle.run_shared.specs.declared.offered.RefusalKind.{RefusalKind}
use Rattle.run_drive.specs.declared.work.Work.{Work}
use Rattle.run_drive.specs.declared.settling.Answer.{Answer}
use Rattle.run_drive.specs.declared.settling.Answer.TheVariants.{Taken, Refused}
use Rattle.run_drive.specs.Driven.{OfTicker}
use Rattle.run_drive.specs.Added.{IsSettled, SettlesSome, GivesAnswer, Enters}
use Rattle.run_drive.proofs.KindLemmas.{settled_of_ticker}

-- what was added twice
pub added_twice : {X : Type 0} → (a b c x y : List X) → b ≡ a ++ x → c ≡ b ++ y → c ≡ a ++ (x ++ y)
added_twice a b c x y first then = then ∙ ap (λ rs. rs ++ y) first ∙ append_assoc a x y

-- no receipt of a settled turn, and one more
pub settles_none : (old : List Receipt) → SettlesSome old old
settles_none old = record { mine = []; added = sym (append-nil old); kinds = All-nil IsSettled }

pub settles_one : (old : List Receipt) (r : Receipt) → IsSettled r → SettlesSome old (old ++ r ∷ [])
settles_one old r settled =
    record { mine = r ∷ []; added = refl; kinds = All-cons IsSettled r [] settled (All-nil IsSettled) }

pub settles_more : (old now new : List Receipt) → SettlesSome old now → SettlesSome now new → SettlesSome old new
settles_more old now new a b = record {
  mine = a.mine ++ b.mine;
  added = added_twice old now new a.mine b.mine a.added b.added;
  kinds = All-append IsSettled a.mine b.mine a.kinds b.kinds;
}

-- a turn that was taken, one that was refused, and those of settled turns behind it
pub enters_taken : (old new : Work) (r : Receipt) → new.receipts ≡ old.receipts ++ r ∷ []
    → new.refused ≡ old.refused → Enters old r.turn Taken new
enters_taken old new r grown stays = record {
  mine = r ∷ [];
  lost = [];
  taken = grown;
  refused = stays ∙ sym (append-nil old.refused);
  answered = ((r, [], refl, refl, All-nil IsSettled), refl);
}

pub enters_refused : (old new : Work) (x : Refusal) (kind : RefusalKind) → kind ≡ x.kind
    → new.refused ≡ old.refused ++ x ∷ [] → new.receipts ≡ old.receipts → Enters old x.turn (Refused kind) new
enters_refused old new x kind why grown stays = record {
  mine = [];
  lost = x ∷ [];
  taken = stays ∙ sym (append-nil old.receipts);
  refused = grown;
  answered = (All-nil IsSettled, (x, refl, refl, sym why));
}

answers_more : (turn : Turn) (answer : Answer) (mine rest : List Receipt) (lost : List Refusal)
    → GivesAnswer turn answer mine lost → All IsSettled rest → GivesAnswer turn answer (mine ++ rest) lost
answers_more turn Taken mine rest lost h settled =
    let a = h.0 in (
      (
        a.0,
        a.1 ++ rest,
        ap (λ (rs : List Receipt). rs ++ rest) a.2,
        a.3,
        All-append IsSettled a.1 rest a.4 settled,
      ),
      h.1,
    )
answers_more turn (Refused kind) mine rest lost h settled =
    (All-append IsSettled mine rest h.0 settled, h.1)

pub enters_more : (old now new : Work) (turn : Turn) (answer : Answer) → Enters old turn answer now
    → SettlesSome now.receipts new.receipts → new.refused ≡ now.refused → Enters old turn answer new
enters_more old now new turn answer e s stays = record {
  mine = e.mine ++ s.mine;
  lost = e.lost;
  taken = added_twice old.receipts now.receipts new.receipts e.mine s.mine e.taken s.added;
  refused = stays ∙ e.refused;
  answered = answers_more turn answer e.mine s.mine e.lost e.answered s.kinds;
}

-- the receipts of one who only settles
pub only_settled : (new : List Receipt) → SettlesSome [] new → All IsSettled new
only_settled new s = subst (All IsSettled) (sym s.added) s.kinds

pub ticks_settled : (new : List Receipt) → SettlesSome [] new → All OfTicker new
ticks_settled new s =
    subst (All OfTicker) (sym s.added) (All-weaker IsSettled OfTicker settled_of_ticker s.mine s.kinds)
