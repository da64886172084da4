use Rattle.std.proofs.Common.{◌∙◌, ap, codes}
use Rattle.serde_json.specs.Data.{put}
use Rattle.serde_json.specs.Find.{get_member}
use Rattle.serde_json.specs.View.{members_view, view}
use Rattle.run_rerun.proofs.MadeLemmas.{members_made, or_null, view-Null}
use Rattle.run_rerun.proofs.made.set_members.Goals as goal

pub returns : goal.returns
returns c =
    let first = members_view c.args.members.now.entries in
    members_made c.args.set.now.keys c.args.ids.now c.requires first
    (members_view c.put_member.new.members.entries) (members_view c.put_member-2.new.members.entries)
    (members_view c.put_member-3.new.members.entries) (view c.unwrap_or.result) (view c.in_ok-tests.tests)
    (view c.in_ok-expected.expected) (c.in_ok-was.ensures.put
    ∙ ap (λ d. put (codes "tests") d first) view-Null)
    (ap view c.unwrap_or.ensures
    ∙ or_null c.in_ok-was.was' (get_member (codes "tests") first) c.in_ok-was.ensures.was _ (λ none. view-Null))
    c.in_ok-tests.ensures c.in_ok-put_member.ensures.put c.in_ok-expected.ensures c.in_ok-put_member-2.ensures.put
