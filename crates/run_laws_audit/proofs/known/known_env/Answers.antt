use Rattle.std.proofs.Common.{IsUtf8, subst, sym}
use Rattle.std.specs.List.{All}
use Rattle.run_laws_audit.specs.Plain.{IsPlainEnv}
use Rattle.run_laws_audit.proofs.known.known_env.Goals as goal

pub returns-in-Variables : goal.returns-in-Variables
returns-in-Variables c =
    subst IsPlainEnv (sym c.in-Variables.is)
    (subst (All (λ two. IsUtf8 two.0 × IsUtf8 two.1)) c.pairs.ensures.pairs c.known_pairs.ensures)
