use Rattle.std.proofs.Common.{◌∙◌}
use Rattle.run_whole_cli.proofs.running.run_at.Goals as goal

pub returns-in-Ok-clause-says : goal.returns-in-Ok-clause-says
returns-in-Ok-clause-says g c =
    let left = c.in-Ok.ensures in
    rw c.requires.taken at (rw c.requires.faults at (c.finish.ensures.says c.args.runner (record {
      threads = record {
        count = left.workers ∙ c.workers_of-workers.ensures;
        own = left.own;
        ticker = left.ticker;
        listener = left.listener;
        halts = left.halts;
      };
      left = left.left;
      stands = left.stands;
      once = left.once;
      delivers = left.delivers;
      undelivered = left.undelivered;
      fault_kind = left.fault_kind;
      left_too = left.left_too;
      refused = left.refused;
      kind = left.kind;
    })))

pub returns-in-Ok-clause-heard : goal.returns-in-Ok-clause-heard
returns-in-Ok-clause-heard g c =
    let left = c.in-Ok.ensures in
    c.finish.ensures.heard c.args.runner (record {
      threads = record {
        count = left.workers ∙ c.workers_of-workers.ensures;
        own = left.own;
        ticker = left.ticker;
        listener = left.listener;
        halts = left.halts;
      };
      left = left.left;
      stands = left.stands;
      once = left.once;
      delivers = left.delivers;
      undelivered = left.undelivered;
      fault_kind = left.fault_kind;
      left_too = left.left_too;
      refused = left.refused;
      kind = left.kind;
    })

pub returns-in-Ok-clause-turns : goal.returns-in-Ok-clause-turns
returns-in-Ok-clause-turns g c =
    let left = c.in-Ok.ensures in
    c.finish.ensures.turns c.args.runner (record {
      threads = record {
        count = left.workers ∙ c.workers_of-workers.ensures;
        own = left.own;
        ticker = left.ticker;
        listener = left.listener;
        halts = left.halts;
      };
      left = left.left;
      stands = left.stands;
      once = left.once;
      delivers = left.delivers;
      undelivered = left.undelivered;
      fault_kind = left.fault_kind;
      left_too = left.left_too;
      refused = left.refused;
      kind = left.kind;
    })

pub returns-in-Err-clause-says : goal.returns-in-Err-clause-says
returns-in-Err-clause-says g c =
    rw c.requires.taken at (rw c.requires.faults at
    (c.finish_given_up.ensures.says c.args.runner c.in-Err.ensures.cut_off))

pub returns-in-Err-clause-heard : goal.returns-in-Err-clause-heard
returns-in-Err-clause-heard g c = c.finish_given_up.ensures.heard c.args.runner c.in-Err.ensures.cut_off

pub returns-in-Err-clause-turns : goal.returns-in-Err-clause-turns
returns-in-Err-clause-turns g c = c.finish_given_up.ensures.turns c.args.runner c.in-Err.ensures.cut_off
