use Rattle.run_audit_line.proofs.FloatLemmas.{value_plain}
use Rattle.run_audit_cli.proofs.audit_lines.read_seen.Goals as goal

pub seen_from-requires : goal.seen_from-requires
seen_from-requires c = value_plain c.args.line.now _ c.in-Ok.ensures.ok
