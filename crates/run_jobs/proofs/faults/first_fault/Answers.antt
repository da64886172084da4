use Rattle.std.proofs.Common.{◌≡◌, ◌∙◌, ◌<◌, ◌+◌, ◌||◌, length, take, drop, not, sym}
use Rattle.std.proofs.Common.{ap, arith}
use Rattle.std.proofs.Common.{nat_eq}
use Rattle.std.specs.Option.{option_or}
use Rattle.std.proofs.lemmas.List.Folds.{list_any_more}
use lib.Pointwise.{pointwise}
use Rattle.run_jobs.specs.declared.job.Job.{Job}
use Rattle.run_jobs.specs.Jobs.{fault_here, first_fault, has_job}
use Rattle.run_jobs.proofs.FaultLemmas.{fault_step, not_added, one_more_name, or_first, or_second}
use Rattle.run_jobs.proofs.faults.first_fault.Goals as goal

pub returns-then-is_some : goal.returns-then-is_some
returns-then-is_some c =
    let jobs = c.args.jobs.now in
    let place = c.loop-place.place in
    let job = c.index-jobs-place.result in
    let inside : place < length jobs = omega arith in
    let among : not c.in_ok-fresh.fresh ≡ has_job (take place jobs) job.name =
    not_added _ _ c.in_ok-fresh.ensures.added
    ∙ c.loop-place.invariant.known (record { ref_ptr = (0, 0); now = job.name }) in
    let here : c.fault_here-fault.result ≡ fault_here place (has_job (take place jobs) job.name) job.after =
    c.fault_here-fault.ensures
    ∙ ap (λ b. fault_here place b c.as_slice.result.now) among
    ∙ ap (fault_here place (has_job (take place jobs) job.name)) c.as_slice.ensures in
    let rest = first_fault (take (place + 1) jobs) (drop (place + 1) jobs) in
    sym (or_first c.fault_here-fault.result rest (sym c.is_some.ensures ∙ c.if-is_some.true))
    ∙ ap (λ o. option_or o rest) here ∙ sym (fault_step jobs place job inside c.index-jobs-place.is)
    ∙ c.loop-place.invariant.rest

pub loop-place-preserved : goal.loop-place-preserved
loop-place-preserved c =
    let jobs = c.args.jobs.now in
    let place = c.loop-place.place in
    let job = c.index-jobs-place.result in
    let inside : place < length jobs = omega arith in
    let among : not c.in_ok-fresh.fresh ≡ has_job (take place jobs) job.name =
    not_added _ _ c.in_ok-fresh.ensures.added
    ∙ c.loop-place.invariant.known (record { ref_ptr = (0, 0); now = job.name }) in
    let here : c.fault_here-fault.result ≡ fault_here place (has_job (take place jobs) job.name) job.after =
    c.fault_here-fault.ensures
    ∙ ap (λ b. fault_here place b c.as_slice.result.now) among
    ∙ ap (fault_here place (has_job (take place jobs) job.name)) c.as_slice.ensures in
    let rest = first_fault (take (place + 1) jobs) (drop (place + 1) jobs) in
    record {
      known = λ q.
          c.in_ok-fresh.ensures.updates.0 q
          ∙ one_more_name (pointwise nat_eq job.name q.now) _ _ (c.loop-place.invariant.known q)
          ∙ ap (λ (j : Job). has_job (take place jobs) q.now || pointwise nat_eq j.name q.now) c.index-jobs-place.is
          ∙ sym (list_any_more (λ (j : Job). pointwise nat_eq j.name q.now) jobs place job inside);
      rest =
          sym (or_second c.fault_here-fault.result rest (sym c.is_some.ensures ∙ c.if-is_some.false))
          ∙ ap (λ o. option_or o rest) here ∙ sym (fault_step jobs place job inside c.index-jobs-place.is)
          ∙ c.loop-place.invariant.rest;
    }
