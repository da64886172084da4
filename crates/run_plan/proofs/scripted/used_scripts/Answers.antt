use Rattle.std.proofs.Common.{◌≡◌, ◌∙◌, Bool, IfErr, List, ap, map, option_and_then, subst}
use Rattle.std.specs.List.{zip}
use Rattle.std.specs.Option.{option_copied}
use Rattle.run_profile.specs.ScriptOrder.{script_order}
use Rattle.run_profile.specs.declared.scripts.SetupScript.{SetupScript}
use Rattle.run_plan.specs.Planned.{kept_rows, kept_tests}
use Rattle.run_plan.specs.Rows.{asked_row}
use Rattle.run_plan.specs.Scripted.{IsUnordered, file_ordered, wanted}
use Rattle.run_plan.proofs.scripted.used_scripts.Goals as goal

pub returns-clause-err : goal.returns-clause-err
returns-clause-err c =
    let p = c.args.project.now.profile in
    let picks = c.args.picks.now in
    let rows = map asked_row c.args.rows.now in
    let order = option_and_then script_order (option_copied c.args.config) in
    let same : map (λ s. s.now) c.in_ok-found.found.items
    ≡ wanted p picks (kept_rows picks rows) c.args.project.now.scripts
    = c.in_ok-found.ensures
    ∙ ap (λ (k : List Bool). wanted p picks (zip rows k) c.as_slice-scripts.result.now)
    (c.deref.ensures.value ∙ c.in_ok-kept.ensures)
    ∙ ap (λ (s : List SetupScript). wanted p picks (kept_rows picks rows) s) c.as_slice-scripts.ensures in
    subst (λ (l : List SetupScript). IfErr c.file_ordered.result (IsUnordered (file_ordered order l))) same
    c.file_ordered.ensures.err
