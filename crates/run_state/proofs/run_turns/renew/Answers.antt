use Rattle.std.proofs.Common.{rules, ◌≡◌, ◌∙◌, ap₂, true}
use Rattle.std.specs.List.{list_all}
use Rattle.run_admission.specs.InUse.{new_admissions, is_waiting}
use Rattle.run_state.proofs.StartLemmas.{limits-untouched}
use Rattle.run_state.proofs.run_turns.renew.Goals as goal
use Rattle.run_state.proofs.run_turns.renew.Goals.{then-not-all_wait+in_ok-admission, else-not-all_wait}

pub returns-clause-limits : goal.returns-clause-limits
returns-clause-limits c =
    let p = c.args.settings.now in
    elim c.if-not-all_wait.branch [
      | then-not-all_wait+in_ok-admission w ↦ w.admission-is ∙ w.in_ok-admission.ensures
          ∙ ap₂ (new_admissions p.threads) c.as_slice-groups.ensures c.as_slice-tests.ensures
      | else-not-all_wait w ↦
          let wait : list_all is_waiting c.args.admission.now.seats ≡ true = search rules in
          w.admission-is
          ∙ limits-untouched p c.args.units.now c.args.admission.now c.requires.held c.requires.seated wait
    ]
