use Rattle.std.proofs.Common.{◌≡◌, ◌<◌, false, ap, sym, ◌∙◌}
use Rattle.run_engine.specs.Lean.{Lean}
use Rattle.run_engine.proofs.LeanLemmas.{breaks_by, fields_stand, stands_next, takes_by}
use Rattle.run_engine.proofs.lean.LeanRun.take.Goals as goal

pub carry_unkept-requires-clause-stands : goal.carry_unkept-requires-clause-stands
carry_unkept-requires-clause-stands g c =
    fields_stand c.get-settings.result.now c.args.self.now c.self.inside.settings c.self.inside.state
    c.self.inside.turns c.self.inside.broken c.self.view_is c.get-settings.ensures c.requires.sound c.self.invariant

pub invariant_of-self : goal.invariant_of-self
invariant_of-self g c = λ sound.
    let room : c.self.inside.turns < 4294967295 = rw (sym c.self.view_is) at c.requires.room in
    stands_next g.R.Reporter.told g.C.Children.asked _ c.get-settings.result.now c.self.inside.settings
    c.self.inside.state c.carry_unkept.new.state c.self.inside.turns c.args.turn.now c.in-Ok.refusal
    c.get-settings.ensures room c.in-Ok.ensures.takes (c.self.invariant sound)

pub returns-in-Ok-clause-takes : goal.returns-in-Ok-clause-takes
returns-in-Ok-clause-takes g c =
    takes_by g.R.Reporter.told g.C.Children.asked _ c.get-settings.result.now c.self.inside.settings c.self.inside.state
    c.carry_unkept.new.state c.self.inside.turns c.args.self.now c.args.turn.now c.in-Ok.refusal c.self.view_is
    c.get-settings.ensures c.requires.room c.in-Ok.ensures.takes

pub returns-in-Err-clause-part : goal.returns-in-Err-clause-part
returns-in-Err-clause-part g c =
    breaks_by g.R.Reporter.told g.C.Children.asked _ c.get-settings.result.now c.self.inside.settings
    c.self.inside.state c.self.inside.turns c.args.self.now c.args.turn.now c.self.view_is c.get-settings.ensures
    c.in-Err.ensures.part
