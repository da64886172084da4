use Rattle.std.proofs.Common.{◌≡◌, ◌∙◌, Result, Ok, Err, OnOk, codes, refl}
use Rattle.serde_json.specs.Data.{Members, put}
use Rattle.serde_json.specs.View.{members_view, view}
use Rattle.run_output.specs.Fields.{put_all}
use Rattle.run_plan_line.specs.PlanFields.{run_fields}
use Rattle.run_plan_line.proofs.line.put_run.Goals as goal

-- what holds on `Ok` of some members holds of those that they are
on_ok : {A E : Type 0} (r : Result A E) (a b c : Members) → OnOk r (a ≡ b) → b ≡ c → OnOk r (a ≡ c)
on_ok (Ok x) a b c h g = h ∙ g
on_ok (Err e) a b c h g = tt

pub returns-clause-put : goal.returns-clause-put
unfolding run_fields
returns-clause-put c =
    let members = members_view c.put_member.new.members.entries in
    let before : put (codes "version") (view c.from.result) members
    ≡ put_all (run_fields c.args.plan.now) (members_view c.args.members.now.entries)
    = rw (c.from.ensures, c.in_ok-put_member.ensures, c.in_ok-run_id.ensures.is, c.in_ok-put_text.ensures) refl in
    on_ok c.put_member-2.result (members_view c.put_member-2.new.members.entries)
    (put (codes "version") (view c.from.result) members)
    (put_all (run_fields c.args.plan.now) (members_view c.args.members.now.entries)) c.put_member-2.ensures before
