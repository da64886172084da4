use Rattle.std.proofs.Common.{◌≡◌, ◌<◌, ◌+◌, ap, sym, ◌∙◌, map, take, length, arith, get_or, ◌++◌, ◌∷◌, []}
use Rattle.std.specs.List.{zip}
use Rattle.std.proofs.lemmas.List.{take_more, take_all, map-append}
use Rattle.run_admission.specs.Kept.{unused}
use Rattle.run_admission.proofs.ListLemmas.{length_zip, get_or_zip}
use Rattle.run_admission.proofs.claims.rooms_of.Goals as goal

pub loop-place-preserved : goal.loop-place-preserved
loop-place-preserved c =
    let slots = c.args.slots.now in
    let groups = c.args.groups.now in
    let group = c.index-groups-place.result in
    let inside : c.loop-place.place < length groups = c.loop-place-test.true in
    let n = c.loop-place.place in
    let more : map (λ r. unused r.0 r.1.limit) (take (n + 1) (zip slots groups))
    ≡ map (λ r. unused r.0 r.1.limit) (take n (zip slots groups)) ++ unused (get_or slots n 0) group.limit ∷ [] =
    ap (map (λ r. unused r.0 r.1.limit)) (take_more (zip slots groups) n (0, group)
    (omega (arith, inside, length_zip slots groups c.requires.all)))
    ∙ map-append (λ r. unused r.0 r.1.limit) (take n (zip slots groups)) (get_or (zip slots groups) n (0, group) ∷ [])
    ∙ ap (λ r. map (λ r. unused r.0 r.1.limit) (take n (zip slots groups)) ++ unused r.0 r.1.limit ∷ [])
    (get_or_zip slots groups n 0 group (0, group) (omega (arith, inside, c.requires.all)) inside
    ∙ ap (λ g. (get_or slots n 0, g)) (sym c.index-groups-place.is)) in
    c.in_ok-push.ensures.items ∙ ap (λ us. us ++ c.in_ok-room.room ∷ []) c.loop-place.invariant
    ∙ ap (λ u. map (λ r. unused r.0 r.1.limit) (take n (zip slots groups)) ++ u ∷ []) c.in_ok-room.ensures
    ∙ sym more

pub returns : goal.returns
returns c = c.loop-place.invariant ∙ ap (map (λ r. unused r.0 r.1.limit))
    (take_all c.loop-place.place (zip c.args.slots.now c.args.groups.now)
    (omega (arith, length_zip c.args.slots.now c.args.groups.now c.requires.all, c.loop-place-test.false)))
