use Rattle.std.proofs.Common.{◌≡◌, ◌+◌, true, false, is_some, sym, subst, ◌∙◌, arith, take}
use Rattle.std.specs.BTreeMap.{get}
use Rattle.std.specs.Ordering.{nat_cmp}
use Rattle.std.specs.Cmp.Lexicographic.{slice_cmp}
use Rattle.run_admission.specs.Names.{HasPlaces}
use Rattle.run_admission.proofs.NameLemmas.{places_none, more_same, more_new}
use Rattle.run_admission.proofs.names.places_of.Goals as goal
use Rattle.run_admission.proofs.names.places_of.Goals.{then-not-contains_key+in_ok-copy+in_ok-insert}
use Rattle.run_admission.proofs.names.places_of.Goals.{else-not-contains_key}

pub loop-place-init : goal.loop-place-init
loop-place-init c = places_none c.new-places.result c.new-places.ensures.empty

pub loop-place-preserved : goal.loop-place-preserved
loop-place-preserved c =
    let l = c.loop-place in
    let groups = c.args.groups.now in
    let group = c.index-groups-place.result in
    elim c.if-not-contains_key.branch [
      | then-not-contains_key+in_ok-copy+in_ok-insert w ↦
          let none : is_some (get (slice_cmp nat_cmp) l.places group.name) ≡ false =
          sym c.contains_key.ensures ∙ w.if-not-contains_key.true in
          subst (HasPlaces (take (l.place + 1) groups)) (sym w.places-is)
          (more_new groups l.place group l.places w.insert.new.self w.in_ok-copy.field-0 l.invariant (omega arith)
          c.index-groups-place.is w.in_ok-copy.ensures none w.in_ok-insert.ensures.updates.0)
      | else-not-contains_key w ↦
          let some : is_some (get (slice_cmp nat_cmp) l.places group.name) ≡ true =
          sym c.contains_key.ensures ∙ w.if-not-contains_key.false in
          subst (HasPlaces (take (l.place + 1) groups)) (sym w.places-is)
          (more_same groups l.place group l.places l.invariant (omega arith) c.index-groups-place.is some)
    ]
