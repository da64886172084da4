use Rattle.std.proofs.Common.{rules, ◌≡◌, refl, sym, ◌∙◌, None, is_some, true}
use Rattle.std.specs.Option.{IsNone}
use Rattle.run_model.specs.Journal.{past_of, outcome}
use Rattle.run_cli.specs.Call.{Writing}
use Rattle.run_cli.proofs.LivedLemmas.{closed_from, over_from, refused_from, unclosed_from, written_from}
use Rattle.run_cli.proofs.live.finish.Goals as goal

pub returns-then-is_some : goal.returns-then-is_some
returns-then-is_some g c = λ p x.
    let lived = c.args.lived in
    let some : is_some lived.live.error ≡ true = search rules in
    let w : Writing = record {
      taken = g.O.Origin.taken_before;
      taken_after = g.K.Sink.taken c.into_sink-sink.result;
      faults = g.O.Origin.faults_before;
      faults_after = g.K.Sink.faults c.into_sink-sink.result;
    } in
    c.end_refused.ensures p w lived.report.lines.refusals refl refl
    (unclosed_from g.W.Spawner.has_said _ p lived x some)
    (refused_from _ p w lived.report.lines.refusals lived.report lived.live.journal lived.asks lived.live.error
    (λ ys told. c.into_sink-sink.ensures.told ys told) x.left_too)

pub returns-in-Some : goal.returns-in-Some
returns-in-Some g c = λ p x.
    let lived = c.args.lived in
    let none : IsNone lived.live.error = search rules in
    let w : Writing = record {
      taken = g.O.Origin.taken_before;
      taken_after = g.K.Sink.taken c.into_sink-sink.result;
      faults = g.O.Origin.faults_before;
      faults_after = g.K.Sink.faults c.into_sink-sink.result;
    } in
    let left = rw c.in-Some.is at (x.left none) in
    c.end_over.ensures p w lived.report.lines.refusals refl refl (closed_from g.W.Spawner.has_said _ p lived x none)
    (over_from _ p w lived.report.lines.refusals lived.report lived.live.journal lived.asks c.in-Some.outcome
    c.has_refused-refused.result (λ ys told. c.into_sink-sink.ensures.told ys told)
    (λ ys told. c.has_refused-refused.ensures ys told) left)

pub returns-in-None : goal.returns-in-None
returns-in-None g c = λ p x.
    let lived = c.args.lived in
    let none : IsNone lived.live.error = search rules in
    let w : Writing = record {
      taken = g.O.Origin.taken_before;
      taken_after = g.K.Sink.taken c.into_sink-sink.result;
      faults = g.O.Origin.faults_before;
      faults_after = g.K.Sink.faults c.into_sink-sink.result;
    } in
    let unended : outcome p (past_of p lived.live.journal) ≡ None = sym (x.left none).ended ∙ c.in-None.is in
    c.end_open.ensures p w lived.report.lines.refusals refl refl (closed_from g.W.Spawner.has_said _ p lived x none)
    unended
    (written_from _ p w lived.report.lines.refusals lived.report lived.live.journal lived.asks lived.outcome
    (λ ys told. c.into_sink-sink.ensures.told ys told) (x.left none))
