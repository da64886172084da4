use Rattle.run_jobs_cli.proofs.FieldLemmas.{put_entry}
use Rattle.run_jobs_cli.proofs.fields.put_leaf.Goals as goal

pub returns : goal.returns
returns c =
    put_entry c.args.members.now.entries c.insert.new.self.entries c.in_ok-key.key c.in_ok-value.value c.args.key.now
    _ c.in_ok-key.ensures.ok c.in_ok-value.ensures c.in_ok-insert.ensures.entries
