-- A settled turn was taken, or none was settled.
use Rattle.std.proofs.Common.{◌∙◌, ap, sym, subst, Some, None}
use Rattle.run_generate.specs.OnWay.{HasNoOutcome, IsOnWay, board_of, next_on}
use Rattle.run_generate.specs.Turns.{made_turn}
use Rattle.run_generate.specs.declared.on_way.OnWay.{OnWay}
use Rattle.run_generate.proofs.ShortLemmas.{unsettled_short}
use Rattle.run_generate.proofs.WayLemmas.{next_settled, same_error, same_way, settled_none, settled_some, takes_next}
use Rattle.run_generate.proofs.on_way.OnWay.go_on.Goals as goal

pub returns-in-Ok-Some-clause-advances : goal.returns-in-Ok-Some-clause-advances
returns-in-Ok-Some-clause-advances c =
    let took = settled_some _ _ _ _ _ _ c.in-Ok-Some.turn c.in-Ok-Some.field-0-is c.in-Ok-Some.ensures.settles
    c.requires.way.0 c.requires.way.1.stands in
    takes_next c.args.self.now c.settle.new.self c.settle.new.report c.settle.new.children c.of-self.result
    c.in-Ok-Some.turn took.0 c.requires.way
    (next_settled c.args.self.now (Some c.in-Ok-Some.turn) c.requires.last
    (sym c.in-Ok-Some.ensures.first ∙ c.in-Ok-Some.field-0-is)) took.1 c.of-self.ensures

pub made_turn-turn-requires : goal.made_turn-turn-requires
made_turn-turn-requires c =
    let same = settled_none _ _ _ _ _ _ c.in-Ok-None.field-0-is c.in-Ok-None.ensures.settles in
    subst IsOnWay
    (sym (same_way c.args.self.now c.settle.new.self c.settle.new.report c.settle.new.children same.0 same.1 same.2))
    c.requires.way

pub take-requires-clause-way : goal.take-requires-clause-way
take-requires-clause-way c =
    let same = settled_none _ _ _ _ _ _ c.in-Ok-None.field-0-is c.in-Ok-None.ensures.settles in
    subst IsOnWay
    (sym (same_way c.args.self.now c.settle.new.self c.settle.new.report c.settle.new.children same.0 same.1 same.2))
    c.requires.way

pub take-requires-clause-goes_on : goal.take-requires-clause-goes_on
take-requires-clause-goes_on c =
    let same = settled_none _ _ _ _ _ _ c.in-Ok-None.field-0-is c.in-Ok-None.ensures.settles in
    subst HasNoOutcome
    (sym (same_way c.args.self.now c.settle.new.self c.settle.new.report c.settle.new.children same.0 same.1 same.2))
    c.requires.goes_on

pub take-requires-clause-next : goal.take-requires-clause-next
take-requires-clause-next c =
    let same = settled_none _ _ _ _ _ _ c.in-Ok-None.field-0-is c.in-Ok-None.ensures.settles in
    let left =
    same_way c.args.self.now c.settle.new.self c.settle.new.report c.settle.new.children same.0 same.1 same.2 in
    ap next_on left
    ∙ next_settled c.args.self.now None c.requires.last (sym c.in-Ok-None.ensures.first ∙ c.in-Ok-None.field-0-is)
    ∙ ap (λ (g : OnWay). made_turn (board_of g)) (sym left) ∙ sym c.made_turn-turn.ensures

pub returns-in-Err-clause-short : goal.returns-in-Err-clause-short
returns-in-Err-clause-short c = λ e.
    unsettled_short c.args.self.now c.in-Err.error c.requires.way c.requires.goes_on
    (c.in-Err.ensures.refused c.requires.way.0 c.requires.way.1.stands) (sym c.of_step.ensures ∙ same_error _ _ e)
