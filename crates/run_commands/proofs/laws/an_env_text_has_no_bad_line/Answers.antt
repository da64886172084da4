use Rattle.run_commands.proofs.EnvTextLemmas.{has_no_bad_line}
use Rattle.run_commands.proofs.laws.an_env_text_has_no_bad_line.Goals as goal

pub returns : goal.returns
returns c = has_no_bad_line
