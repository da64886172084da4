use Rattle.run_record.proofs.HeardLemmas.{part_heard}
use Rattle.run_record.proofs.top.run_at.Goals as goal

pub run_plan-own-requires-clause-untaken : goal.run_plan-own-requires-clause-untaken
run_plan-own-requires-clause-untaken g c = λ _ _. (
  rw (c.new.ensures.begun, c.new.ensures.given_up, c.requires.taken, c.requires.faults, c.requires.plan)
      c.begin.ensures,
  c.requires.turns.0,
)

pub finish-outcome-requires : goal.finish-outcome-requires
finish-outcome-requires g c =
    let turns = c.run_plan-own.ensures.turns in
    record { underway = (turns.turns, turns.heard.0) }

pub returns-clause-says : goal.returns-clause-says
returns-clause-says g c =
    let turns = c.run_plan-own.ensures.turns in
    record {
      ran = c.run_plan-own.ensures.says;
      turns = turns.turns;
      journal = turns.journal;
      legal = turns.legal;
      none = turns.none;
      kept = rw c.requires.taken at (rw c.requires.faults at (rw c.requires.plan at
          (rw c.is_over.ensures at (c.finish-outcome.ensures turns.turns turns.heard.0))));
      status_is = c.status.ensures;
    }

pub returns-clause-heard : goal.returns-clause-heard
returns-clause-heard g c =
    part_heard g.B.Listener.heard (λ r. r.report) c.run_plan-own.result.2 c.args.line.now c.run_plan-own.result.1
    c.run_plan-own.ensures.heard

pub returns-clause-turns : goal.returns-clause-turns
returns-clause-turns g c = λ untaken.
    let turns = c.run_plan-own.ensures.turns in
    record {
      turns = turns.turns;
      heard = turns.heard.1 (c.requires.turns.1 untaken);
      journal = turns.journal;
      legal = turns.legal;
      none = turns.none;
    }
