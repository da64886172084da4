use Rattle.std.specs.Fmt.{digits}
use Rattle.json.specs.Print.{escape_byte}
use Rattle.run_audit_cli.proofs.VerdictLemmas.{broken_text}
use Rattle.run_audit_cli.proofs.verdict_line.verdict_line.Goals as goal

pub returns-in-Yes : goal.returns-in-Yes
unfolding digits escape_byte
returns-in-Yes c = rw c.in-Yes.is c.from_str.ensures

pub returns-in-No : goal.returns-in-No
returns-in-No c = rw (c.in-No.is, broken_text c.in-No.law c.in-No.place) c.broken_line.ensures
