use Rattle.std.proofs.Common.{◌<◌, ◌^◌, arith}
use Rattle.serde_json.specs.View.{view}
use Rattle.run_wave_line.proofs.WaveLemmas.{line_says, text_is}
use Rattle.run_wave_line.proofs.line.wave_line.Goals as goal

pub returns-clause-text : goal.returns-clause-text
returns-clause-text c =
    let plan = c.args.plan.now in
    text_is c.args.threads plan.head.run_id plan.tests c.in_ok-text.text (view c.in_ok-value.value)
    c.in_ok-value.ensures.is c.in_ok-text.ensures.text

pub returns-clause-says : goal.returns-clause-says
returns-clause-says c =
    let plan = c.args.plan.now in
    let small : c.args.threads < 2 ^ 32 = omega arith in
    line_says c.args.threads plan.head.run_id plan.tests c.in_ok-text.text (view c.in_ok-value.value)
    c.in_ok-value.ensures.is c.in_ok-text.ensures.utf8 c.in_ok-text.ensures.reads_back small c.requires
    c.in_ok-value.ensures.parsed
