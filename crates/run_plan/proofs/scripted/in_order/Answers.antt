use Rattle.std.proofs.Common.{◌≡◌, ◌∙◌, ◌++◌, [], List, Option, ap, find, map, sym}
use Rattle.std.specs.List.{cons_option}
use Rattle.std.specs.Option.{option_copied}
use Rattle.run_profile.specs.declared.scripts.SetupScript.{SetupScript}
use Rattle.run_plan.specs.Scripted.{has_name}
use Rattle.run_plan.proofs.ScriptLemmas.{in_order_more}
use Rattle.run_plan.proofs.scripted.in_order.Goals as goal
use denote.Ref.{Bor}

pub loop-name-preserved : goal.loop-name-preserved
loop-name-preserved c =
    let l = c.loop-name in
    let scripts : List SetupScript = map (λ s. s.now) c.args.scripts.now in
    let name = c.name-item.result in
    let r : Option (Bor SetupScript) = c.script_named.result in
    let found : find (has_name name) scripts ≡ option_copied r
    = sym (rw c.as_str.ensures at c.script_named.ensures) in
    c.in_ok-push_found.ensures
    ∙ ap (λ (x : List SetupScript). x ++ cons_option (option_copied r) []) l.invariant
    ∙ sym (in_order_more c.args.names.now scripts l.name-index name (option_copied r) c.loop-name-test.true
    c.name-item.is found)
