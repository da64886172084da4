use Rattle.std.proofs.Common.{ℕ, ◌≡◌, ◌∙◌, ◌+◌, ◌<◌, ◌≤◌, [], length, get_or, Bool, true, false, cond, Some}
use Rattle.std.proofs.Common.{is_none, sym}
use Rattle.std.proofs.Common.{ap, subst, arith}
use Rattle.std.specs.Option.{option_map_or}
use Rattle.std.proofs.lemmas.List.{length-set}
use Rattle.std.proofs.lemmas.List.Elements.{All-get_or}
use Rattle.std.proofs.lemmas.Option.{slice_get-get_or}
use Rattle.run_jobs.specs.declared.job.Job.{Job}
use Rattle.run_jobs.specs.Jobs.{after_of}
use Rattle.run_jobs.specs.Levels.{at_level, job_level, levels_of}
use Rattle.run_jobs.specs.States.{first_unpassed}
use Rattle.run_jobs.proofs.PlaceLemmas.{places_all}
use Rattle.run_jobs.proofs.SettleLemmas.{all_known, set_one}
use Rattle.run_jobs.proofs.settle.settle.Goals as goal

-- the next number is one more at most
next_within : (b : Bool) (next unit i : ℕ) → next ≡ cond b (unit + 1) unit → unit ≤ i → next ≤ i + 1
next_within true next unit i is low = omega arith
next_within false next unit i is low = omega arith

pub loop-number-preserved : goal.loop-number-preserved
loop-number-preserved c =
    let jobs = c.args.jobs.now in
    let level = c.args.level.now in
    let t = c.loop-number.states in
    let i = c.loop-number.number-index in
    let k = get_or level i 0 in
    let job = c.index-jobs-number.result in
    let state = c.next_state-state.result.0 in
    let inside : i < length level = c.loop-number-test.true in
    let within : k < length jobs = All-get_or (λ k. k < length jobs) level i 0 inside c.requires.jobs in
    let after : c.as_slice.result.now ≡ after_of jobs k =
    c.as_slice.ensures
    ∙ sym (ap (λ o. option_map_or (λ (j : Job). j.after) o []) (slice_get-get_or jobs k job within)) in
    record {
      sets = λ w waves ordered is gives.
          let at = All-get_or (λ j. (j < length jobs) × (job_level jobs j ≡ w)) (at_level w 0 (levels_of jobs)) i 0
          (subst (λ xs. i < length xs) is inside) (places_all jobs w) in
          let here : k ≡ get_or (at_level w 0 (levels_of jobs)) i 0 = ap (λ xs. get_or xs i 0) is in
          set_one jobs waves w c.args.states.now t i c.loop-number.unit k c.first_unpassed-unpassed.result
          c.args.results.now state c.next_state-state.result.1 ordered c.requires.states gives
          (subst (λ xs. i < length xs) is inside) here within (ap (job_level jobs) here ∙ at.1)
          (c.first_unpassed-unpassed.ensures ∙ ap (first_unpassed t) after) c.next_state-state.ensures.state
          c.next_state-state.ensures.unit (c.loop-number.invariant.sets w waves ordered is gives);
      few =
          next_within (is_none c.first_unpassed-unpassed.result) c.next_state-state.result.1 c.loop-number.unit i
          c.next_state-state.ensures.unit c.loop-number.invariant.few;
      same = length-set t k (Some state) ∙ c.loop-number.invariant.same;
    }

pub returns : goal.returns
returns c = λ w waves ordered is gives known.
    let jobs = c.args.jobs.now in
    let level = c.args.level.now in
    let i = c.loop-number.number-index in
    let ended : i ≡ length level = omega arith in
    all_known jobs waves w c.args.states.now c.loop-number.states i c.loop-number.unit ordered (ended ∙ ap length is)
    known (c.loop-number.invariant.sets w waves ordered is gives)
