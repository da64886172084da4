use Rattle.std.proofs.Common.{◌≤◌, ap, sym, subst, ◌∙◌, arith, Some}
use Rattle.run_state.specs.Settle.{settled_turn, settling}
use Rattle.run_engine.specs.Lean.{Lean}
use Rattle.run_engine.proofs.SettlingLemmas.{found_is}
use Rattle.run_engine.proofs.LeanLemmas.{is_full, settled_after}
use Rattle.run_engine.proofs.lean.LeanRun.settle.Goals as goal

pub returns-in-Some-clause-refused : goal.returns-in-Some-clause-refused
returns-in-Some-clause-refused g c = λ journal stands. (
  is_full c.args.self.now journal stands (subst (λ (r : Lean). 4294967295 ≤ r.turns) c.self.view_is (omega arith)),
  (
    settled_turn c.in-Some.field-0,
    sym (settled_after c.args.self.now journal c.args.word stands) ∙ sym c.in-Some.ensures,
  ),
)

pub take-requires-clause-enabled : goal.take-requires-clause-enabled
take-requires-clause-enabled g c =
    found_is c.args.self.now.settings c.args.self.now.state.board (settling c.args.self.now.settings c.args.word)
    c.turn-turn.result (sym c.in-Some.ensures ∙ ap Some (sym c.turn-turn.ensures))

pub returns-in-Ok-clause-settles : goal.returns-in-Ok-clause-settles
returns-in-Ok-clause-settles g c = λ journal stands. (c.in-Ok.refusal, c.in-Ok.ensures.takes journal stands)

pub returns-in-Err-clause-part : goal.returns-in-Err-clause-part
returns-in-Err-clause-part g c = λ e sound. (
  c.turn-turn.result,
  sym c.in-Some.ensures ∙ ap Some (sym c.turn-turn.ensures),
  c.in-Err.ensures.part,
)
