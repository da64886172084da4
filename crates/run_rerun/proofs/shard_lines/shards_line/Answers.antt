use Rattle.std.proofs.Common.{◌∙◌, ap}
use Rattle.serde_json.specs.Written.{compact_text, has_float}
use Rattle.run_rerun.proofs.ShardLineLemmas.{no_float}
use Rattle.run_rerun.proofs.shard_lines.shards_line.Goals as goal

pub returns : goal.returns
returns c =
    let value = c.in_ok-value.ensures in
    c.in_ok-text.ensures.text (ap has_float value ∙ no_float c.args.verdict.now) ∙ ap compact_text value
