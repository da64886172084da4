use Rattle.run_audit_cli.proofs.SeenLemmas.{seen_more}
use Rattle.run_audit_cli.proofs.reading.read_events.Goals as goal

pub lines-preserved : goal.lines-preserved
lines-preserved c =
    rw c.in_ok-add_seen-in-Ok.ensures.ok
    (seen_more c.args.start _ c.lines.rest.now _ c.split_line.result.0.now _ _ _ c.lines.invariant
    c.split_line.ensures.lines c.split_line.ensures.shorter c.in-Ok.ensures)
