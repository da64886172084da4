-- What the work of one thread says of what it began with.
use Rattle.std.proofs.Common.{◌≡◌, ℕ, ◌+◌, arith, List, [], ◌∷◌, ◌++◌, length, ap, sym, subst, ◌∙◌, Bool, true, ◌||◌}
use Rattle.std.proofs.Math.Bool.{or-true}
use Rattle.std.proofs.lemmas.List.Elements.{All-append, All-weaker}
use Rattle.std.specs.List.{All}
use Rattle.run_events.specs.declared.plan.Hearing.{Hearing}
use Rattle.run_shared.specs.declared.shared.Receipt.{Receipt}
use Rattle.run_shared.specs.declared.orders.Halt.{Halt}
use Rattle.run_shared.specs.Settled.{is_settled_turn}
use Rattle.run_drive.specs.Added.{IsSettled}
use Rattle.run_drive.specs.Driven.{is_clock_turn}
use Rattle.run_drive.specs.Ticked.{steps_in}
use Rattle.run_drive.proofs.TickLemmas.{steps_still, steps_in-append}
use Rattle.run_keep.specs.declared.keeper.Heard.{Heard}
use Rattle.run_keep.specs.declared.kept.Kept.{Kept}
use Rattle.run_keep.specs.declared.listened.Listened.{Listened}
use Rattle.run_keep.specs.declared.outside.Came.{Came}
use Rattle.run_keep.specs.declared.rounds.Ticked.{Ticked}
use Rattle.run_keep.specs.Halted.{HaltsFor}
use Rattle.run_keep.specs.Listened.{HearsOutside}
use Rattle.run_keep.specs.Minded.{KeepsChildren}
use Rattle.run_keep.specs.Rounds.{is_round_turn, OfRounds, TicksRounds}
use Rattle.run_whole.specs.Own.{IsKeeperWork, HasToldSteps, HasHeardAll}

-- what a keeper that had heard nothing heard
pub own_of : {W : Type 0} (has_heard : W → List Heard → Type 0) (w v : W) (work : Kept)
    → KeepsChildren has_heard w v work → has_heard w [] → IsKeeperWork has_heard v work.receipts work.lost work.orders
own_of has_heard w v work x at_first =
    let h = x.heard [] at_first in record {
      kinds = x.kinds;
      unwritten = x.unwritten;
      end = work.from;
      rises = x.rises;
      during = h.0;
      heard = h.1;
      child = h.2.0;
      minds = h.2.1;
      own = h.3;
      told = h.4;
    }

-- settled turns are those of a ticker of rounds
settled_kind : (r : Receipt) → IsSettled r → OfRounds r
settled_kind r settled =
    subst (λ (b : Bool). (is_clock_turn r.turn || (is_round_turn r.turn || b)) ≡ true) (sym settled)
    (ap (λ (b : Bool). is_clock_turn r.turn || b) (or-true (is_round_turn r.turn)) ∙ or-true (is_clock_turn r.turn))

-- what a ticker that had told nothing told behind settled turns
pub told_of : {T : Type 0} (has_told : T → List ℕ → Type 0) (t u : T) (first : List Receipt) (work : Ticked)
    → TicksRounds has_told t u first work → has_told t [] → All IsSettled first
    → HasToldSteps has_told u work.receipts work.refused
told_of has_told t u first work x at_first settled =
    let steps : steps_in work.receipts ≡ steps_in x.mine = ap steps_in x.taken
    ∙ steps_in-append first x.mine
    ∙ ap (λ (ns : List ℕ). ns ++ steps_in x.mine) (steps_still first settled) in
    let first_kinds : All OfRounds first = All-weaker IsSettled OfRounds settled_kind first settled in record {
      kinds = subst (All OfRounds) (sym x.taken) (All-append OfRounds first x.mine first_kinds x.kinds);
      last = x.last;
      refused = x.refused;
      told = subst (λ (ns : List ℕ). has_told u (ns ++ x.last ∷ [])) (sym steps) (x.told [] at_first);
    }

-- what was heard of an outside of which nothing had come
pub heard_of : {O : Type 0} (has_come : O → List Came → Type 0) (o u : O) (hearing : Hearing) (work : Listened)
    → HearsOutside has_come o u hearing work → has_come o []
    → HasHeardAll has_come hearing u work.receipts work.dropped
heard_of has_come o u hearing work x at_first =
    let h = x.come [] at_first in record {
      kinds = x.kinds;
      reasons = x.reasons;
      during = h.0;
      came = h.1;
      order = h.2;
    }

-- a program that wasn't stopped before was stopped once for each halt
pub halted_of : {S : Type 0} (has_halted : S → ℕ → Type 0) (s u : S) (halts : List Halt)
    → HaltsFor has_halted s u halts → has_halted s 0 → has_halted u (length halts)
halted_of has_halted s u halts x at_first =
    let none : 0 + length halts ≡ length halts = omega arith in
    subst (λ (n : ℕ). has_halted u n) none (x 0 at_first)
