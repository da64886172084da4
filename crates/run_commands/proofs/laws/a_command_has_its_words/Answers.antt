use Rattle.run_commands.proofs.CommandLemmas.{are_command_words}
use Rattle.run_commands.proofs.laws.a_command_has_its_words.Goals as goal

pub returns : goal.returns
returns c = are_command_words
