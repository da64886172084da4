use Rattle.std.proofs.Common.{rules, arith, ◌≡◌, ◌<◌, length, Some, refl, ap, sym, ◌∙◌}
use Rattle.run_state.specs.Settle.{settled_turn}
use Rattle.run_engine.specs.World.{World}
use Rattle.run_engine.proofs.HeardLemmas.{heard_named}
use Rattle.run_engine.proofs.SettlingLemmas.{first_is_enabled, full_at}
use Rattle.run_engine.proofs.run.Run.settle.Goals as goal

pub returns-in-Some-clause-refused : goal.returns-in-Some-clause-refused
returns-in-Some-clause-refused g c = (
  ap (λ (w : World). length w.journal) (sym c.self.view_is)
      ∙ full_at c.len.result (length c.self.inside.journal.items)
      (search rules) c.if-len-ge-MOST_TURNS.true c.self.invariant.runnable.short,
  (settled_turn c.in-Some.field-0, sym c.in-Some.ensures),
)

pub take_named-requires-clause-enabled : goal.take_named-requires-clause-enabled
take_named-requires-clause-enabled g c =
    first_is_enabled c.args.self.now c.args.word c.turn.result (sym c.in-Some.ensures ∙ ap Some (sym c.turn.ensures))

pub returns-clause-heard : goal.returns-clause-heard
returns-clause-heard g c =
    let count : c.len.result ≡ length c.self.inside.journal.items = search rules in
    let room : length c.args.self.now.journal < 4294967295 = omega (
      arith,
      count,
      ap (λ (w : World). length w.journal) (sym c.self.view_is),
      c.if-len-ge-MOST_TURNS.false,
    ) in
    heard_named g.R.Reporter.told g.C.Children.asked g.R.Reporter.faults c.args.report.now c.take_named.new.report
    c.args.children.now c.take_named.new.children c.turn.result c.args.self.now c.args.self.now
    c.take_named.new.self c.take_named.result refl
    (ap (λ (w : World). w.broken) (sym c.self.view_is) ∙ c.if-self.false) room
    c.take_named.ensures.takes c.take_named.ensures.broken c.take_named.ensures.memory c.take_named.ensures.part
