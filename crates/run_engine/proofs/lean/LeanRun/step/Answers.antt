use Rattle.std.proofs.Common.{◌<◌, ◌≡◌, arith, false, ap, ◌∙◌, sym}
use Rattle.run_engine.specs.Lean.{Lean}
use Rattle.run_engine.proofs.PartLemmas.{breaks_idle}
use Rattle.run_engine.proofs.LeanLemmas.{fields_stand, refused_by}
use Rattle.run_engine.proofs.UnkeptLemmas.{all_units, is_timely, keeps_seats}
use Rattle.run_engine.proofs.lean.LeanRun.step.Goals as goal

pub named_if_enabled-requires : goal.named_if_enabled-requires
named_if_enabled-requires g c =
    let sound : c.args.self.now.broken ≡ false = ap (λ (r : Lean). r.broken) (sym c.self.view_is) ∙ c.if-self.false in
    let s = fields_stand c.get.result.now c.args.self.now c.self.inside.settings c.self.inside.state
    c.self.inside.turns c.self.inside.broken c.self.view_is c.get.ensures sound c.self.invariant in
    record {
      whole = all_units c.get.result.now c.self.inside.state c.self.inside.turns s.0 s.1;
      seated = keeps_seats c.get.result.now c.self.inside.state c.self.inside.turns s.0 s.1;
      timely = is_timely c.get.result.now c.self.inside.state c.self.inside.turns s.0 s.1;
    }

pub returns-then-self-clause-part : goal.returns-then-self-clause-part
returns-then-self-clause-part g c = λ e journal stands.
    breaks_idle g.R.Reporter.told g.C.Children.asked g.R.Reporter.faults c.args.report.now c.args.children.now _ _ _

pub returns-in-Err-OutOfMemory-clause-part : goal.returns-in-Err-OutOfMemory-clause-part
returns-in-Err-OutOfMemory-clause-part g c = λ e journal stands.
    breaks_idle g.R.Reporter.told g.C.Children.asked g.R.Reporter.faults c.args.report.now c.args.children.now _ _ _

pub returns-in-Err-clause-refused : goal.returns-in-Err-clause-refused
returns-in-Err-clause-refused g c =
    let room : c.self.inside.turns < 4294967295 = omega arith in
    refused_by c.get.result.now c.self.inside.settings c.self.inside.state c.self.inside.turns c.args.self.now
    c.args.turn.now _ c.self.view_is c.get.ensures room c.in-Err.ensures.refused
