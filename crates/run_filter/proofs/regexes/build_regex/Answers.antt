use Rattle.std.proofs.Common.{refl}
use Rattle.regex.specs.Patterns.{default_config}
use Rattle.run_filter.proofs.RegexLemmas.{refused_pattern}
use Rattle.run_filter.proofs.regexes.build_regex.Goals as goal

pub returns-in-Err-Syntax-clause-err : goal.returns-in-Err-Syntax-clause-err
returns-in-Err-Syntax-clause-err c =
    let error = c.in-Err-Syntax.field-0-0 in
    let kind = rw c.in-Err-Syntax.field-0-is at c.in-Err-Syntax.ensures.kind in (
      refl,
      refused_pattern default_config c.args.pattern.now error.kind kind
          (c.in-Err-Syntax.ensures.by_grammar error c.in-Err-Syntax.field-0-is),
    )
