use Rattle.std.proofs.Common.{◌≡◌, ◌∙◌, Bool, map, sym}
use Rattle.std.specs.List.{list_any, zip}
use Rattle.run_profile.specs.declared.scripts.SetupScript.{SetupScript}
use Rattle.run_plan.specs.Rows.{asked_row}
use Rattle.run_plan.specs.Scripted.{wants}
use Rattle.run_plan.proofs.ScriptLemmas.{any_seen, found_more, found_same}
use Rattle.run_plan.proofs.scripted.wanted.Goals as goal
use Rattle.run_plan.proofs.scripted.wanted.Goals.{then-is_wanted+in_ok-push, else-is_wanted}

pub loop-script-preserved : goal.loop-script-preserved
loop-script-preserved c =
    let l = c.loop-script in
    let rows = c.args.rows.now in
    let kept = c.args.kept.now in
    let wants_it = wants c.args.profile.now c.args.picks.now in
    let P = λ (s : SetupScript). list_any (wants_it s) (zip (map asked_row rows) kept) in
    let script = c.script-item.result in
    let test : c.is_wanted.result ≡ P script
    = c.is_wanted.ensures ∙ any_seen asked_row (wants_it script) rows kept in
    elim c.if-is_wanted.branch [
      | then-is_wanted+in_ok-push w ↦
          rw w.found-is
          (found_more P c.args.scripts.now l.found.items w.push.new.self.items l.script-index _ c.loop-script-test.true
          c.script-item.is (sym test ∙ w.if-is_wanted.true) w.in_ok-push.ensures.items l.invariant)
      | else-is_wanted w ↦
          rw w.found-is
          (found_same P c.args.scripts.now l.found.items l.script-index (record { ref_ptr = (0, 0); now = script })
          c.loop-script-test.true c.script-item.is (sym test ∙ w.if-is_wanted.false) l.invariant)
    ]
