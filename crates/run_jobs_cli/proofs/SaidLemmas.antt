-- Lines say one thing.
use Rattle.std.proofs.Common.{◌≡◌, ◌∙◌, ℕ, List, [], ◌∷◌, ◌++◌, Option, Some, None, refl, ap, sym, subst}
use Rattle.std.proofs.Common.{option_and_then}
use Rattle.std.proofs.lemmas.Option.{none-some, same_Some}
use Rattle.run_events.specs.declared.turn.Turn.{Turn}
use Rattle.run_input.specs.Lines.{lines_of}
use Rattle.run_jobs.specs.Jobs.{Batch}
use Rattle.run_cli.specs.Call.{Reading}
use Rattle.run_cli.proofs.CauseLemmas.{all_given}
use Rattle.run_jobs_cli.specs.JobsCauses.{HasLines}
use Rattle.run_jobs_cli.specs.JobsGiven.{GivesLines}
use Rattle.run_jobs_cli.specs.WaveLines.{IsFirstBadAfter, IsFirstBadJobs, IsJobsInput, wave_line_of, wave_lines_of}
use Rattle.run_jobs_cli.specs.WaveLines.{wave_lists}

-- no lines are said after one that says nothing
none_after : (first : Option (Option Turn))
    → option_and_then (λ said. option_and_then (λ (more : List (Option Turn)). Some (said ∷ more)) None) first ≡ None
none_after None = refl
none_after (Some said) = refl

bad_among : (before : List (List ℕ)) (bad : List ℕ) (after : List (List ℕ)) → wave_line_of bad ≡ None
    → wave_lines_of (before ++ bad ∷ after) ≡ None
bad_among [] bad after outside = rw outside refl
bad_among (line ∷ before) bad after outside =
    let rest = bad_among before bad after outside in rw rest (none_after (wave_line_of line))

-- an input that says jobs has no first bad line
pub jobs_or_bad : {X : Type 0} (lines : List (List ℕ)) (batch : Batch) (lists : List (List Turn)) (number : ℕ)
    → IsJobsInput lines batch lists → IsFirstBadJobs lines number → X
jobs_or_bad [] batch lists number says bad = absurd says
jobs_or_bad (line ∷ others) batch lists number (first, (said, are, is)) bad =
    let after : IsFirstBadAfter others number = rw first at bad in
    let none = ap wave_lines_of after.split ∙ bad_among after.before after.bad after.after after.outside in
    absurd (none-some said (sym none ∙ are))

-- it says one batch
pub one_batch : (lines : List (List ℕ)) (b c : Batch) (ls ms : List (List Turn)) → IsJobsInput lines b ls
    → IsJobsInput lines c ms → (c ≡ b) × (ms ≡ ls)
one_batch [] b c ls ms one other = absurd one
one_batch (line ∷ others) b c ls ms (first, (said, are, is)) (second, (says, too, be)) =
    let same : says ≡ said = same_Some says said (sym too ∙ are) in
    (same_Some c b (sym second ∙ first), be ∙ ap wave_lists same ∙ sym is)

-- what was read is what the source had
pub same_lines : (r : Reading) (Holds Given : List (List ℕ) → Type 0) → HasLines r.left Holds → (g : GivesLines r Given)
    → Holds (lines_of g.bytes)
same_lines r Holds Given has g =
    subst (λ bytes. Holds (lines_of bytes))
    (all_given r.left r.left_after has.bytes g.bytes has.told g.all.given g.all.end) has.holds
