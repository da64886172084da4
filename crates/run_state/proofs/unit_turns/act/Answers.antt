use Rattle.std.proofs.Common.{◌≡◌, map, length, get_or, Some, None, option_map, if◌then◌else◌, ap, sym, ◌∙◌}
use Rattle.std.proofs.lemmas.List.{get_or-set_same}
use Rattle.run_admission.specs.InUse.{Admissions}
use Rattle.run_model.specs.Unit.{row}
use Rattle.run_model.specs.Admission.{is_done, limits_of}
use Rattle.run_state.specs.Counted.{holds_asked, holders_in}
use Rattle.run_state.specs.Held.{given_back}
use Rattle.run_state.specs.Placed.{is_no_script}
use Rattle.run_state.proofs.CountedLemmas.{not_last, stands_inside}
use Rattle.run_state.proofs.HoldersLemmas.{counted_fits, counted_set, counted_within}
use Rattle.run_state.proofs.PlaceLemmas.{is_placed, kinds-acted, seats-given, seats-left, tests-kept}
use Rattle.run_state.proofs.SeatLemmas.{acted, limits-acted, test_in_use}
use Rattle.run_state.proofs.unit_turns.act.Goals as goal

pub release-requires : goal.release-requires
release-requires c over le =
    let p = c.args.settings.now in
    let us = c.args.units.now in
    let u = c.requires.takes.0 in
    let at : get_or us c.args.unit None ≡ Some u = c.requires.takes.1 in
    let a = c.args.admission.now in
    rw c.requires.seated (test_in_use p us c.args.unit u at (not_last c.args.now u c.args.turn c.requires.takes.2)
    (is_placed p us a c.args.unit u c.requires.fits.0 c.requires.seated at le) (stands_inside us c.args.unit u at) le)

pub count_after-requires-clause-counted : goal.count_after-requires-clause-counted
count_after-requires-clause-counted c =
    let us = c.args.units.now in
    counted_within (holds_asked c.args.asks) us c.args.unit c.args.holders.now c.holds-held.result c.requires.fits.1
    (stands_inside us c.args.unit c.requires.takes.0 c.requires.takes.1) c.holds-held.ensures.holds

pub count_after-requires-clause-room : goal.count_after-requires-clause-room
count_after-requires-clause-room c =
    let k = c.args.unit in
    let us = c.args.units.now in
    let u = c.requires.takes.0 in
    let v = (row c.args.now c.args.turn u).next in
    let asks = c.args.asks in
    let at : get_or us k None ≡ Some u = c.requires.takes.1 in
    let inside = stands_inside us k u at in
    let after = c.in_ok-effects.ensures.after ∙ acted c.args.now k c.args.turn us u at in
    counted_fits (holds_asked asks) us k c.args.holders.now (Some v) c.holds-held.result c.holds.result
    c.requires.fits.1 inside c.holds-held.ensures.few c.holds-held.ensures.holds
    (c.holds.ensures.holds ∙ ap (λ vs. holds_asked asks (get_or vs k None)) after
    ∙ ap (holds_asked asks) (get_or-set_same us k (Some v) None inside))

pub returns-clause-fits : goal.returns-clause-fits
returns-clause-fits c =
    let p = c.args.settings.now in
    let k = c.args.unit in
    let us = c.args.units.now in
    let u = c.requires.takes.0 in
    let now = c.args.now in
    let v = (row now c.args.turn u).next in
    let asks = c.args.asks in
    let a = c.args.admission.now in
    let b = c.release.new.admission in
    let over = c.in_ok-effects.effects.over in
    let at : get_or us k None ≡ Some u = c.requires.takes.1 in
    let inside = stands_inside us k u at in
    let after = c.in_ok-effects.ensures.after ∙ acted now k c.args.turn us u at in
    let kinds : map is_no_script c.step.new.self ≡ map is_no_script us =
    ap (map is_no_script) after ∙ kinds-acted us k now c.args.turn u at in (
      tests-kept us c.step.new.self a b c.requires.fits.0 kinds
          (ap (λ (a : Admissions). length a.seats) c.release.ensures ∙ seats-given p a k over),
      counted_set (holds_asked asks) us k c.args.holders.now c.count_after.result (Some v) c.holds-held.result
          c.holds.result c.requires.fits.1 inside c.holds-held.ensures.holds
          (c.holds.ensures.holds ∙ ap (λ vs. holds_asked asks (get_or vs k None)) after
          ∙ ap (holds_asked asks) (get_or-set_same us k (Some v) None inside))
          c.count_after.ensures
          ∙ sym (ap (holders_in asks) after),
      seats-left p a b k over c.requires.fits.2 c.release.ensures,
    )

pub returns-clause-seated : goal.returns-clause-seated
returns-clause-seated c =
    let p = c.args.settings.now in
    let k = c.args.unit in
    let us = c.args.units.now in
    let u = c.requires.takes.0 in
    let now = c.args.now in
    let turn = c.args.turn in
    let at : get_or us k None ≡ Some u = c.requires.takes.1 in
    let over = c.in_ok-effects.effects.over in
    c.release.ensures
    ∙ ap (λ (a : Admissions). if over then given_back p a k else a) c.requires.seated
    ∙ sym (limits-acted p us k now turn u over at (not_last now u turn c.requires.takes.2)
    (sym (c.in_ok-effects.ensures.over ∙ ap (λ v. is_done (option_map (λ u. (row now turn u).next) v)) at)))
    ∙ sym (ap (limits_of p) (c.in_ok-effects.ensures.after ∙ acted now k turn us u at))
