use Rattle.run_commands.proofs.EnvGivenLemmas.{given_one_way}
use Rattle.run_commands.proofs.laws.an_environment_is_given_one_way.Goals as goal

pub returns : goal.returns
returns c = given_one_way
