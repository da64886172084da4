use Rattle.std.proofs.Common.{◌≡◌, ap, subst, ◌∙◌, option_map}
use Rattle.run_state.specs.Settle.{settled_turn, settling, first_enabled}
use Rattle.run_engine.specs.Lean.{Lean, settled_next}
use Rattle.run_engine.proofs.LeanLemmas.{fields_stand}
use Rattle.run_engine.proofs.UnkeptLemmas.{all_units, is_timely, keeps_seats}
use Rattle.run_engine.proofs.lean.LeanRun.next.Goals as goal

pub next_settled-requires : goal.next_settled-requires
next_settled-requires c =
    let s = fields_stand c.get.result.now c.args.self.now c.self.inside.settings c.self.inside.state
    c.self.inside.turns c.self.inside.broken c.self.view_is c.get.ensures c.requires c.self.invariant in
    record {
      whole = all_units c.get.result.now c.self.inside.state c.self.inside.turns s.0 s.1;
      few = s.1.runnable.few.units;
      seated = keeps_seats c.get.result.now c.self.inside.state c.self.inside.turns s.0 s.1;
      timely = is_timely c.get.result.now c.self.inside.state c.self.inside.turns s.0 s.1;
    }

pub returns : goal.returns
returns c =
    subst (λ (r : Lean). option_map settled_turn c.next_settled.result ≡ settled_next r c.args.word) c.self.view_is
    (c.next_settled.ensures
    ∙ ap (λ p. first_enabled p c.self.inside.state.board (settling p c.args.word)) c.get.ensures)
