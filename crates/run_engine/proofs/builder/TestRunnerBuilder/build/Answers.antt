use Rattle.std.proofs.Common.{sym, subst, ◌∙◌}
use Rattle.run_model.specs.Admission.{AreFew}
use Rattle.run_engine.specs.Builder.{threads_of, settings_of}
use Rattle.run_model.specs.Once.{HasEachIdOnce}
use Rattle.run_engine.proofs.FewLemmas.{few_attempts}
use Rattle.run_engine.proofs.OnceLemmas.{built_once}
use Rattle.run_engine.proofs.builder.TestRunnerBuilder.build.Goals as goal

pub new-requires-clause-few : goal.new-requires-clause-few
new-requires-clause-few c =
    subst AreFew (sym c.in-Ok.ensures.settings)
    (few_attempts (settings_of c.args.self c.args.plan) (threads_of c.args.self)
    (sym c.in-Ok-None.ensures ∙ c.in-Ok-None.field-0-is) c.requires)

pub new-requires-clause-once : goal.new-requires-clause-once
new-requires-clause-once c =
    subst HasEachIdOnce (sym c.in-Ok.ensures.settings)
    (built_once (settings_of c.args.self c.args.plan) (threads_of c.args.self)
    (sym c.in-Ok-None.ensures ∙ c.in-Ok-None.field-0-is))
