use Rattle.run_rerun.proofs.MadeLemmas.{put_entry, was_entry}
use Rattle.run_rerun.proofs.made.put_member.Goals as goal

pub returns-clause-put : goal.returns-clause-put
returns-clause-put c =
    put_entry c.args.members.now.entries c.insert.new.self.entries c.in_ok-from_str.field-0 c.args.value
    c.args.key.now c.in_ok-from_str.ensures.ok c.in_ok-insert.ensures.entries

pub returns-clause-was : goal.returns-clause-was
returns-clause-was c =
    was_entry c.args.members.now c.in_ok-from_str.field-0 c.args.key.now c.in_ok-insert.field-0
    c.in_ok-from_str.ensures.ok c.in_ok-insert.ensures.old
