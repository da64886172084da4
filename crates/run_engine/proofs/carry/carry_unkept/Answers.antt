use Rattle.run_engine.proofs.PartLemmas.{on_err}
use Rattle.run_engine.proofs.UnkeptLemmas.{can_take, keeps_seats, takes_next, breaks_next}
use Rattle.run_engine.proofs.carry.carry_unkept.Goals as goal

pub act-requires-clause-can : goal.act-requires-clause-can
act-requires-clause-can g c =
    can_take c.args.settings.now c.args.state.now c.args.place c.requires.stands.0 c.args.turn.now c.requires.stands.1
    c.requires.enabled

pub act-requires-clause-seated : goal.act-requires-clause-seated
act-requires-clause-seated g c =
    keeps_seats c.args.settings.now c.args.state.now c.args.place c.requires.stands.0 c.requires.stands.1

pub returns-in_err-told-clause-part : goal.returns-in_err-told-clause-part
returns-in_err-told-clause-part g c =
    on_err c.from_residual.result _ (λ journal stands. breaks_next g.R.Reporter.told g.C.Children.asked _
    c.args.settings.now c.args.state.now c.args.place journal c.args.turn.now stands c.requires.enabled
    c.in_err-told.ensures.part)

pub returns-clause-takes : goal.returns-clause-takes
returns-clause-takes g c = λ journal stands.
    let done = c.in_ok-told.ensures in
    takes_next g.R.Reporter.told g.C.Children.asked _ c.args.settings.now c.args.state.now c.act.new.state.board
    c.forget.new.state c.args.place journal c.args.turn.now c.in_ok-told.told.refused c.in_ok-told.told.refusal stands
    c.requires.enabled (c.forget.ensures.seated done.seated) done.after c.forget.ensures.board done.answered done.marked
    done.told done.asked done.faults
