use Rattle.std.proofs.Common.{◌<◌, ap, sym, ◌∙◌, length, Some, slice_set}
use Rattle.std.proofs.lemmas.Option.{slice_get-get_or}
use Rattle.run_admission.specs.Kept.{give_in}
use Rattle.run_admission.proofs.GroupLemmas.{give_is}
use Rattle.run_admission.proofs.groups.give_in_group.Goals as goal

pub give_back-requires : goal.give_back-requires
give_back-requires c =
    let inside : c.in-Some-Some.place < length c.args.groups.now = c.requires.there _ c.in-Some-Some.is-0 in
    c.requires.held _ _ _ c.in-Some-Some.is-0 c.in-Some-Some.is-1
    (slice_get-get_or c.args.groups.now c.in-Some-Some.place c.index-groups-place.result inside)

pub returns-in-Some-Some : goal.returns-in-Some-Some
returns-in-Some-Some c =
    let inside : c.in-Some-Some.place < length c.args.groups.now = c.requires.there _ c.in-Some-Some.is-0 in
    ap (slice_set c.args.groups.now c.in-Some-Some.place) c.give_back.ensures
    ∙ sym (ap (λ o. give_in c.args.groups.now o c.args.slot c.args.weight) c.in-Some-Some.is-0
    ∙ ap (λ o. give_in c.args.groups.now (Some c.in-Some-Some.place) o c.args.weight) c.in-Some-Some.is-1
    ∙ give_is c.args.groups.now c.in-Some-Some.place c.in-Some-Some.slot c.args.weight _
    (slice_get-get_or c.args.groups.now c.in-Some-Some.place c.index-groups-place.result inside))
