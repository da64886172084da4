use Rattle.run_jobs_cli.proofs.FieldLemmas.{fields_text}
use Rattle.run_jobs_cli.proofs.fields.object_line.Goals as goal

pub returns : goal.returns
returns c =
    fields_text c.args.fields.now c.in_ok-members.members c.in_ok-text.text c.from_string.result
    c.in_ok-members.ensures c.in_ok-text.ensures.text c.from_string.ensures
