-- What a line tells.
use Rattle.std.proofs.Common.{◌∷◌, [], refl}
use Rattle.std.proofs.lemmas.List.{append-nil}
use Rattle.run_show.proofs.recorded.hear_line.Goals as goal

pub returns-in-Ok-Event-clause-told : goal.returns-in-Ok-Event-clause-told
returns-in-Ok-Event-clause-told g c =
    let tells = rw c.in-Ok-Event.field-0-is at c.in-Ok-Event.ensures in
    (c.in-Ok-Event.event ∷ [], c.hear.ensures.heard, (tells, c.failed_after.ensures))

pub returns-in-Ok-Ask-clause-told : goal.returns-in-Ok-Ask-clause-told
returns-in-Ok-Ask-clause-told g c =
    let tells = rw c.in-Ok-Ask.field-0-is at c.in-Ok-Ask.ensures in
    ([], (λ xs heard. rw (append-nil xs) heard), (tells, refl))
