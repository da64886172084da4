use Rattle.std.proofs.Common.{◌∙◌, ap, arith, take, sym, subst, [], ◌∷◌, ◌++◌}
use Rattle.std.proofs.lemmas.List.{take_more, length-take}
use Rattle.run_laws_events.specs.Counts.{stats_of_events}
use Rattle.run_laws_plain.specs.Told.{AreSmall, counted_by}
use Rattle.run_laws_plain.proofs.Told.{stats_more, stats_few}
use Rattle.run_laws_plain.proofs.statistics.stats_told.Goals as goal

pub counted-stats-requires : goal.counted-stats-requires
counted-stats-requires c =
    let events = take c.loop-event.event-index c.args.events.now in
    subst AreSmall (sym c.loop-event.invariant)
    (stats_few c.args.settings.now c.args.reason events
    (omega (arith, c.requires.few, length-take c.loop-event.event-index c.args.events.now)))

pub loop-event-preserved : goal.loop-event-preserved
loop-event-preserved c =
    let p = c.args.settings.now in
    let why = c.args.reason in
    let events = take c.loop-event.event-index c.args.events.now in
    let next = take_more c.args.events.now c.loop-event.event-index c.event-item.result c.loop-event-test.true in
    c.counted-stats.ensures
    ∙ ap (λ s. counted_by s c.event-item.result) c.loop-event.invariant
    ∙ sym (stats_more p why events c.event-item.result)
    ∙ ap (λ e. stats_of_events p why (events ++ e ∷ [])) c.event-item.is
    ∙ sym (ap (stats_of_events p why) next)
