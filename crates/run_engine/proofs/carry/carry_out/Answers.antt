use Rattle.std.proofs.Common.{◌≡◌, ◌∷◌, ◌++◌, [], length, ap, sym, subst, ◌∙◌, arith}
use Rattle.run_model.specs.Board.{board, deed_events}
use Rattle.run_model.specs.Turns.{deed_on}
use Rattle.run_model.specs.Journal.{past_of}
use Rattle.run_state.specs.Held.{Held, held}
use Rattle.run_engine.specs.World.{entry_of}
use Rattle.run_engine.specs.Standing.{IsRunnable}
use Rattle.run_engine.proofs.PartLemmas.{breaks_off, breaks_idle, part_some}
use Rattle.run_engine.proofs.CarryLemmas.{seated, held-is, can_advance, stands_next, runnable_next, takes_from}
use Rattle.run_engine.proofs.carry.carry_out.Goals as goal

pub act-requires-clause-can : goal.act-requires-clause-can
act-requires-clause-can g c =
    can_advance c.args.settings.now c.args.journal.now.items c.args.state.now.board c.args.turn c.requires.runnable
    (ap (λ (h : Held). h.board) c.requires.stands) c.requires.enabled

pub act-requires-clause-seated : goal.act-requires-clause-seated
act-requires-clause-seated g c = seated c.args.settings.now c.args.state.now _ c.requires.stands

pub returns-in-Ok-answers-clause-takes : goal.returns-in-Ok-answers-clause-takes
returns-in-Ok-answers-clause-takes g c claimed =
    let refused = c.in-Ok-act.told.refused in
    let told = c.in-Ok-act.ensures in
    takes_from g.R.Reporter.told g.C.Children.asked _ c.args.settings.now c.args.journal.now.items
    c.keep.new.journal.items c.args.state.now.board c.args.turn refused c.in-Ok-act.told.refusal claimed
    c.in-Ok.place c.in-Ok.ensures.place (ap (λ (h : Held). h.board) c.requires.stands) c.requires.enabled told.answered
    told.marked told.told told.asked told.faults
    (c.keep.ensures.grown ∙ ap (λ j. j ++ entry_of c.args.turn c.in-Ok-answers.refused ∷ []) c.make_room.ensures.same
    ∙ ap (λ r. c.args.journal.now.items ++ entry_of c.args.turn r ∷ []) c.in-Ok-answers.ensures)

pub returns-in-Ok-answers-clause-runnable : goal.returns-in-Ok-answers-clause-runnable
returns-in-Ok-answers-clause-runnable g c =
    let p = c.args.settings.now in
    let journal = c.args.journal.now.items in
    let refused = c.in-Ok-act.told.refused in
    subst (IsRunnable p)
    (sym (c.keep.ensures.grown
    ∙ ap (λ j. j ++ entry_of c.args.turn c.in-Ok-answers.refused ∷ []) c.make_room.ensures.same
    ∙ ap (λ r. c.args.journal.now.items ++ entry_of c.args.turn r ∷ []) c.in-Ok-answers.ensures))
    (runnable_next p journal c.args.turn refused c.requires.runnable c.requires.room c.requires.enabled
    (c.in-Ok-act.ensures.answered
    ∙ ap (λ (h : Held). length (deed_events (deed_on p h.board c.args.turn))) c.requires.stands))

pub returns-in-Ok-answers-clause-stands : goal.returns-in-Ok-answers-clause-stands
returns-in-Ok-answers-clause-stands g c =
    let p = c.args.settings.now in
    let journal = c.args.journal.now.items in
    let refused = c.in-Ok-act.told.refused in
    subst (λ journal. c.act.new.state ≡ held p (board p (past_of p journal)))
    (sym (c.keep.ensures.grown
    ∙ ap (λ j. j ++ entry_of c.args.turn c.in-Ok-answers.refused ∷ []) c.make_room.ensures.same
    ∙ ap (λ r. c.args.journal.now.items ++ entry_of c.args.turn r ∷ []) c.in-Ok-answers.ensures))
    (held-is p c.act.new.state _ c.in-Ok-act.ensures.seated
    (stands_next p journal c.args.state.now.board c.act.new.state.board c.args.turn refused c.requires.runnable
    (ap (λ (h : Held). h.board) c.requires.stands) c.requires.enabled c.in-Ok-act.ensures.after))

pub returns-in-Err-answers-clause-part : goal.returns-in-Err-answers-clause-part
returns-in-Err-answers-clause-part g c =
    let done = c.in-Ok-act.ensures in
    let deed = deed_on c.args.settings.now c.args.state.now.board c.args.turn in
    breaks_off g.R.Reporter.told g.C.Children.asked _ c.args.settings.now c.args.journal.now.items
    c.args.state.now.board c.args.turn c.in-Ok.place c.in-Ok.ensures.place
    (ap (λ (h : Held). h.board) c.requires.stands) c.requires.enabled
    (part_some g.R.Reporter.told g.C.Children.asked g.R.Reporter.faults c.args.report.now c.act.new.report
    c.args.children.now c.act.new.children c.in-Ok.place (deed_events deed) deed.asked done.asked (record {
      marks = c.in-Ok-act.told.refused;
      refusal = c.in-Ok-act.told.refusal;
      fits = omega (arith, done.answered);
      told = done.told;
      counted = done.faults;
    }))

pub returns-in-Err-clause-part : goal.returns-in-Err-clause-part
returns-in-Err-clause-part g c =
    breaks_off g.R.Reporter.told g.C.Children.asked _ c.args.settings.now c.args.journal.now.items
    c.args.state.now.board c.args.turn c.in-Ok.place c.in-Ok.ensures.place
    (ap (λ (h : Held). h.board) c.requires.stands) c.requires.enabled c.in-Err.ensures.part

pub returns-in_default-clause-part : goal.returns-in_default-clause-part
returns-in_default-clause-part g c =
    breaks_idle g.R.Reporter.told g.C.Children.asked g.R.Reporter.faults c.args.report.now c.args.children.now _ _ _
