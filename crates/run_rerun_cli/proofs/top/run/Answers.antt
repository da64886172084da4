use Rattle.std.proofs.Common.{map, string_bytes, codes, refl, subst}
use Rattle.run_output.specs.declared.fault.Fault.TheVariants.{Words}
use Rattle.run_output.specs.Faults.{fault_text}
use Rattle.run_cli.specs.Call.{writing_of}
use Rattle.run_rerun_cli.specs.ShardEnds.{AnswersShards}
use Rattle.run_rerun_cli.specs.Shelves.{doing_of, shelf_of}
use Rattle.run_rerun_cli.specs.Verdicts.{AnswersRerun}
use Rattle.run_rerun_cli.proofs.CauseLemmas.{rerun_gets}
use Rattle.run_rerun_cli.proofs.ShardEndLemmas.{shards_gets}
use Rattle.run_rerun_cli.proofs.WordLemmas.{one_chain, one_command}
use Rattle.run_rerun_cli.proofs.top.run.Goals as goal

pub returns-in-Some-clause-causes : goal.returns-in-Some-clause-causes
returns-in-Some-clause-causes g c = λ names said.
    let now = c.args.stores.now in
    let end = c.plan.new.stores in
    let s = shelf_of g.T.Stores now end in
    let doing = doing_of g.T.Stores now end in
    let w = writing_of g.K.Sink c.args.sink c.plan.result.sink in
    let status = c.plan.result.status in
    rerun_gets names s doing w status
    (subst (λ ns. AnswersRerun ns s doing w status)
    (one_chain (codes "plan") (map (λ w. string_bytes w) c.args.words.now) (map (λ w. string_bytes w)
    c.in-Some.names.now) names c.in-Some.ensures said) c.plan.ensures.says)

pub returns-in-Some-clause-shards : goal.returns-in-Some-clause-shards
returns-in-Some-clause-shards g c = λ names said.
    absurd (one_command (map (λ w. string_bytes w) c.args.words.now) (map (λ w. string_bytes w) c.in-Some.names.now)
    names c.in-Some.ensures said)

pub returns-in-Some-clause-shards_causes : goal.returns-in-Some-clause-shards_causes
returns-in-Some-clause-shards_causes g c = λ names said.
    absurd (one_command (map (λ w. string_bytes w) c.args.words.now) (map (λ w. string_bytes w) c.in-Some.names.now)
    names c.in-Some.ensures said)

pub returns-in-Some-clause-plan : goal.returns-in-Some-clause-plan
returns-in-Some-clause-plan g c = λ names said.
    let now = c.args.stores.now in
    let end = c.plan.new.stores in
    let s = shelf_of g.T.Stores now end in
    let doing = doing_of g.T.Stores now end in
    let w = writing_of g.K.Sink c.args.sink c.plan.result.sink in
    let status = c.plan.result.status in
    subst (λ ns. AnswersRerun ns s doing w status)
    (one_chain (codes "plan") (map (λ w. string_bytes w) c.args.words.now) (map (λ w. string_bytes w)
    c.in-Some.names.now) names c.in-Some.ensures said) c.plan.ensures.says

pub returns-in-Some-names_in-clause-shards_causes : goal.returns-in-Some-names_in-clause-shards_causes
returns-in-Some-names_in-clause-shards_causes g c = λ names said.
    let now = c.args.stores.now in
    let end = c.shards.new.stores in
    let s = shelf_of g.T.Stores now end in
    let doing = doing_of g.T.Stores now end in
    let w = writing_of g.K.Sink c.args.sink c.shards.result.sink in
    let status = c.shards.result.status in
    shards_gets names s doing w status
    (subst (λ ns. AnswersShards ns s doing w status)
    (one_chain (codes "shards") (map (λ w. string_bytes w) c.args.words.now) (map (λ w. string_bytes w)
    c.in-Some-names_in.names.now) names c.in-Some-names_in.ensures said) c.shards.ensures.says)
