use Rattle.std.proofs.Common.{refl, subst, true, false}
use Rattle.run_engine.specs.Refused.{IsNotNamed}
use Rattle.run_engine.specs.declared.errors.StepError.TheVariants as errors
use Rattle.run_engine.proofs.PartLemmas.{breaks_idle}
use Rattle.run_engine.proofs.UnkeptLemmas.{all_units, is_timely, keeps_seats, not_taken}
use Rattle.run_engine.proofs.course.take_at.Goals as goal

pub named_if_enabled-requires-clause-whole : goal.named_if_enabled-requires-clause-whole
named_if_enabled-requires-clause-whole g c =
    all_units c.args.settings.now c.args.state.now c.args.place c.requires.stands.0 c.requires.stands.1

pub named_if_enabled-requires-clause-seated : goal.named_if_enabled-requires-clause-seated
named_if_enabled-requires-clause-seated g c =
    keeps_seats c.args.settings.now c.args.state.now c.args.place c.requires.stands.0 c.requires.stands.1

pub named_if_enabled-requires-clause-timely : goal.named_if_enabled-requires-clause-timely
named_if_enabled-requires-clause-timely g c =
    is_timely c.args.settings.now c.args.state.now c.args.place c.requires.stands.0 c.requires.stands.1

pub returns-in-Err-OutOfMemory-clause-stops : goal.returns-in-Err-OutOfMemory-clause-stops
returns-in-Err-OutOfMemory-clause-stops g c = λ journal stands.
    breaks_idle g.R.Reporter.told g.C.Children.asked g.R.Reporter.faults c.args.report.now c.args.children.now _ _ _

pub returns-in-Err-NotEnabled-clause-stops : goal.returns-in-Err-NotEnabled-clause-stops
returns-in-Err-NotEnabled-clause-stops g c = λ journal stands.
    let why : IsNotNamed c.args.settings.now c.args.state.now.board c.args.turn.now errors.NotEnabled =
    subst (IsNotNamed c.args.settings.now c.args.state.now.board c.args.turn.now) c.in-Err-NotEnabled.field-0-is
    c.in-Err-NotEnabled.ensures.refused in (
      refl,
      not_taken c.args.settings.now c.args.state.now c.args.place journal c.args.turn.now false stands why.0 why.1,
      (refl, refl, refl),
    )

pub returns-in-Err-ThirdSignal-clause-stops : goal.returns-in-Err-ThirdSignal-clause-stops
returns-in-Err-ThirdSignal-clause-stops g c = λ journal stands.
    let why : IsNotNamed c.args.settings.now c.args.state.now.board c.args.turn.now errors.ThirdSignal =
    subst (IsNotNamed c.args.settings.now c.args.state.now.board c.args.turn.now) c.in-Err-ThirdSignal.field-0-is
    c.in-Err-ThirdSignal.ensures.refused in (
      refl,
      not_taken c.args.settings.now c.args.state.now c.args.place journal c.args.turn.now true stands why.0 why.1,
      (refl, refl, refl),
    )
