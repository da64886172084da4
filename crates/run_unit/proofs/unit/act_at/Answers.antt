-- The unit stays current and at one of its attempts.
use Rattle.std.proofs.Common.{◌≡◌, ◌≤◌, refl, sym, subst, arith}
use Rattle.run_model.specs.Unit.{at_moment, row}
use Rattle.run_unit.specs.Timely.{IsCurrent, IsTried}
use Rattle.run_unit.proofs.TimelyLemmas.{row_current, at_moment_current}
use Rattle.run_unit.proofs.TriedLemmas.{row_tried}
use Rattle.run_unit.proofs.unit.act_at.Goals as goal

pub returns-in-Ok-clause-current : goal.returns-in-Ok-clause-current
returns-in-Ok-clause-current c =
    let now = c.args.now in
    let unit = c.args.view.now in
    let now_is : now ≤ now = omega arith in
    let next : c.act.new.view ≡ (row now c.args.turn unit).next = c.in-Ok.ensures.row.next in
    subst IsCurrent (sym next) (row_current now unit.phase c.args.turn (at_moment now unit) now_is
    (at_moment_current now unit c.requires.later c.requires.current))

pub returns-in-Ok-clause-tried : goal.returns-in-Ok-clause-tried
returns-in-Ok-clause-tried c =
    let now = c.args.now in
    let unit = c.args.view.now in
    let next : c.act.new.view ≡ (row now c.args.turn unit).next = c.in-Ok.ensures.row.next in
    subst IsTried (sym next) (row_tried now unit.phase c.args.turn (at_moment now unit) refl c.requires.tried)
