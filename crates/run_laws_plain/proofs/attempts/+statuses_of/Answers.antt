use Rattle.run_events.specs.declared.result.ExecuteStatus.{ExecuteStatus}
use Rattle.std.proofs.Common.{◌≡◌, ℕ, List, ◌+◌, ◌∷◌, ◌++◌, [], Some, length, map, if◌then◌else◌, IfOk, ap, sym, subst}
use Rattle.std.proofs.Common.{◌∙◌}
use Rattle.run_model.specs.Attempts.{ended_statuses, has_ended, status_of, delay_after}
use Rattle.run_model.specs.Story.{pieces}
use Rattle.run_laws_plain.specs.Marks.{with_time}
use Rattle.run_laws_plain.specs.Newest.{NewestAttempt, attempts_with}
use Rattle.run_laws_plain.proofs.StatusLemmas.{map_more}
use Rattle.run_laws_plain.proofs.attempts.+statuses_of.Goals as goal

pub returns : goal.returns
returns t c =
    let terms = c.args.terms in
    let piece = c.newest.inside.piece.now in
    let earlier = pieces c.newest.inside.before.now in
    let more = λ (old : List ExecuteStatus) (delay attempt : ℕ).
    old ++ (if has_ended terms piece then with_time (status_of terms delay attempt piece) ∷ [] else []) in
    subst (λ v. IfOk c.with_status.result (λ l. l ≡ v))
    (ap (λ old. more old c.delay_after-delay.result (c.count_attempts.result + 1)) c.in_ok-statuses.ensures
    ∙ ap (λ d. more (map with_time (ended_statuses terms earlier)) d (c.count_attempts.result + 1))
    c.delay_after-delay.ensures
    ∙ ap (λ n. more (map with_time (ended_statuses terms earlier)) (delay_after terms.retries earlier) (n + 1))
    c.count_attempts.ensures.count
    ∙ sym (map_more (has_ended terms piece) (ended_statuses terms earlier)
    (status_of terms (delay_after terms.retries earlier) (length earlier + 1) piece))
    ∙ ap (λ (n : NewestAttempt). map with_time (ended_statuses terms (attempts_with (Some n)))) c.newest.view_is
    ∙ ap (λ ps. map with_time (ended_statuses terms ps)) (sym c.in-Some.ensures.cut))
    c.with_status.ensures
