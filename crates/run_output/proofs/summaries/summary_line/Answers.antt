use Rattle.std.proofs.Common.{◌≡◌, IfOk, List, [], ◌∷◌, ℕ, Some, codes, subst}
use Rattle.serde_json.specs.Data.{string}
use Rattle.run_output.specs.Fields.{count, object_text}
use Rattle.run_output.specs.Stats.{stats_data}
use Rattle.run_output.specs.Summaries.{generated_fields}
use Rattle.run_output.proofs.summaries.summary_line.Goals as goal

pub returns : goal.returns
unfolding generated_fields
returns c = subst
    (λ (word : List ℕ). IfOk c.line.result (λ t. t ≡ object_text
    ((codes "events", Some (count c.args.events))
    ∷ (codes "generate", Some (count c.args.tests))
    ∷ (codes "outcome", Some (string word))
    ∷ (codes "stats", Some (stats_data c.args.stats.now))
    ∷ (codes "turns", Some (count c.args.turns))
    ∷ [])))
    c.outcome_name.ensures c.line.ensures
