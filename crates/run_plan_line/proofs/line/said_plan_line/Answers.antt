use Rattle.serde_json.specs.View.{view}
use Rattle.run_plan_line.proofs.PlanLemmas.{line_says, text_is}
use Rattle.run_plan_line.proofs.line.said_plan_line.Goals as goal

pub returns-clause-text : goal.returns-clause-text
returns-clause-text c =
    text_is c.args.plan.now c.in_ok-text.text (view c.in_ok-value.value)
    c.in_ok-value.ensures.is c.in_ok-text.ensures.text

pub returns-clause-says : goal.returns-clause-says
returns-clause-says c =
    line_says c.args.plan.now c.in_ok-text.text (view c.in_ok-value.value)
    c.in_ok-value.ensures.is c.in_ok-text.ensures.utf8
    c.in_ok-text.ensures.reads_back (record {
      ways = record {
        threads = c.in_ok-value.ensures.threads;
        max_fail = c.in_ok-value.ensures.max_fail;
        retries = c.in_ok-value.ensures.retries;
        repeats = c.in_ok-value.ensures.repeats;
      };
      id = c.in_ok-value.ensures.parsed;
      groups = c.in_ok-value.ensures.groups;
      scripts = c.in_ok-value.ensures.scripts;
      tests = c.in_ok-value.ensures.tests;
      ranks = c.requires.ranks;
      few = c.requires.few;
      units = c.requires.units;
    })
