use Rattle.std.proofs.Common.{inr, refl, sym}
use Rattle.run_commands.specs.EnvGiven.{env_given}
use Rattle.run_commands.proofs.script_helpers.env_outcome.Goals as goal

pub returns-in-Bytes-clause-given : goal.returns-in-Bytes-clause-given
unfolding env_given
returns-in-Bytes-clause-given c = rw (c.in-Bytes.is, sym c.as_slice.ensures) c.parse_env_text.ensures.given

pub returns-in-OpenFailed-clause-given : goal.returns-in-OpenFailed-clause-given
unfolding env_given
returns-in-OpenFailed-clause-given c = rw c.in-OpenFailed.is (inr refl)

pub returns-in-ReadFailed-clause-given : goal.returns-in-ReadFailed-clause-given
unfolding env_given
returns-in-ReadFailed-clause-given c = rw c.in-ReadFailed.is (inr refl)
