use Rattle.std.proofs.Common.{◌≡◌, drop}
use Rattle.serde_json.specs.Data.{no_members}
use Rattle.serde_json.specs.View.{members_view}
use Rattle.run_output.specs.Fields.{put_all, rows}
use Rattle.run_jobs_cli.specs.Objects.{leaf_member}
use Rattle.run_jobs_cli.proofs.fields.members_of.Given as goal

abbrev pub invariant-loop-key : goal.invariant-loop-key
invariant-loop-key l =
    put_all (rows leaf_member (drop l.key-index l.fields)) (members_view l.members.entries)
    ≡ put_all (rows leaf_member l.fields) no_members
