use Rattle.run_engine.specs.Builder.{threads_of}
use Rattle.run_model.specs.Once.{HasEachIdOnce}
use Rattle.std.proofs.Common.{subst, sym}
use Rattle.run_engine.proofs.OnceLemmas.{built_once}
use Rattle.run_engine.specs.Builder.{settings_of}
use Rattle.run_laws_display.proofs.laws.built_plans_have_ids_once.Goals as goal

pub returns : goal.returns
returns c = λ builder plan settings built.
    subst HasEachIdOnce (sym built.1) (built_once (settings_of builder plan) (threads_of builder) built.0)
