use Rattle.run_laws_audit_line.proofs.EventLemmas.{lines_read}
use Rattle.run_laws_audit_line.proofs.laws.event_lines_are_read.Goals as goal

pub returns : goal.returns
returns c = lines_read
