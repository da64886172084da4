use Rattle.std.proofs.Common.{◌<◌, ap, sym, ◌∙◌, length, Some, slice_set}
use Rattle.std.proofs.lemmas.Option.{slice_get-get_or}
use Rattle.run_admission.specs.Kept.{free_within, take_in}
use Rattle.run_admission.proofs.GroupLemmas.{free_is, take_is}
use Rattle.run_admission.proofs.groups.take_in_group.Goals as goal

pub take-requires : goal.take-requires
take-requires c =
    let inside : c.in-Some.place < length c.args.groups.now = c.requires.there _ c.in-Some.is in
    c.requires.room _ _ c.in-Some.is
    (slice_get-get_or c.args.groups.now c.in-Some.place c.index-groups-place.result inside)

pub returns-in-Some-clause-slot : goal.returns-in-Some-clause-slot
returns-in-Some-clause-slot c =
    let inside : c.in-Some.place < length c.args.groups.now = c.requires.there _ c.in-Some.is in
    ap (λ n. Some n) c.take.ensures.slot
    ∙ sym (ap (free_within c.args.groups.now) c.in-Some.is ∙ free_is c.args.groups.now c.in-Some.place _
    (slice_get-get_or c.args.groups.now c.in-Some.place c.index-groups-place.result inside))

pub returns-in-Some-clause-after : goal.returns-in-Some-clause-after
returns-in-Some-clause-after c =
    let inside : c.in-Some.place < length c.args.groups.now = c.requires.there _ c.in-Some.is in
    ap (slice_set c.args.groups.now c.in-Some.place) c.take.ensures.after
    ∙ sym (ap (λ o. take_in c.args.groups.now o c.args.test c.args.weight) c.in-Some.is
    ∙ take_is c.args.groups.now c.in-Some.place c.args.test c.args.weight _
    (slice_get-get_or c.args.groups.now c.in-Some.place c.index-groups-place.result inside))
