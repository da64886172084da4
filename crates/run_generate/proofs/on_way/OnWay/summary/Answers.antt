-- What is counted of a run that is over.
use Rattle.std.proofs.Common.{◌∙◌, sym}
use Rattle.run_generate.proofs.CountLemmas.{counted}
use Rattle.run_generate.proofs.on_way.OnWay.summary.Goals as goal

pub returns-clause-some : goal.returns-clause-some
returns-clause-some c =
    let journal = c.requires.0 in
    let way = c.requires.1 in
    record {
      journal = journal;
      legal = way.stands.runnable.legal;
      generated = way.generated;
      over = sym (c.outcome.ensures journal way.stands) ∙ c.in_ok-outcome.was;
      events = counted c.args.self.now journal way;
      stats_are = c.stats.ensures journal way.stands;
      turns = c.turns.ensures ∙ way.stands.many;
    }

pub returns-in_err-outcome-clause-none : goal.returns-in_err-outcome-clause-none
returns-in_err-outcome-clause-none c = λ e journal stands.
    sym (c.outcome.ensures journal stands) ∙ c.in_err-outcome.was
