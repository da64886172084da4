use Rattle.std.specs.Fmt.{digits}
use Rattle.json.specs.Print.{escape_byte}
use Rattle.run_rerun_cli.proofs.verdicts.Verdict.into_line.Goals as goal

pub returns-in-NothingLeft : goal.returns-in-NothingLeft
unfolding digits escape_byte
returns-in-NothingLeft c = rw c.in-NothingLeft.is c.from_str.ensures
