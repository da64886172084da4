use Rattle.std.proofs.Common.{◌≡◌, Some, subst}
use Rattle.run_audit_cli.specs.AuditLines.{turn_or_mark_of}
use Rattle.run_audit_cli.proofs.TurnLemmas.{next_turn, turns_few}
use Rattle.run_audit_cli.proofs.reading.read_turns.Goals as goal

pub lines-preserved : goal.lines-preserved
lines-preserved c =
    let says = subst (λ said. turn_or_mark_of c.split_line.result.0.now ≡ Some said) c.in-Ok-Some.field-0-is
    c.in-Ok-Some.ensures in
    rw c.in_ok-push-in-Ok-Some.ensures.ok
    (next_turn _ c.lines.rest.now _ c.split_line.result.0.now _ _ _ c.lines.invariant c.split_line.ensures.lines
    c.split_line.ensures.shorter says)

pub returns-in-Ok-None-clause-few : goal.returns-in-Ok-None-clause-few
returns-in-Ok-None-clause-few c =
    turns_few c.args.bytes.now c.lines.rest.now c.lines.turns c.lines.number c.lines.invariant
