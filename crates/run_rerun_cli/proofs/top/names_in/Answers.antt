use Rattle.std.proofs.Common.{◌≡◌, ◌∙◌, ◌<◌, string_bytes, length, sym, rules, arith}
use Rattle.std.proofs.lemmas.Bool.Decides.{nat_tests}
use Rattle.std.proofs.lemmas.Slice.Eq.{bytes_eq-Decides}
use Rattle.run_rerun_cli.proofs.WordLemmas.{none_named, other_named, says_names}
use Rattle.run_rerun_cli.proofs.top.names_in.Goals as goal
use Rattle.run_rerun_cli.proofs.top.names_in.Goals.{else-eq-via-then-eq+else-not-is_empty, else-eq-via-else-eq}

pub returns-then-not-is_empty : goal.returns-then-not-is_empty
returns-then-not-is_empty c =
    let decided = bytes_eq-Decides c.as_str.result.now c.args.command.now in
    let word : c.as_str.result.now ≡ c.args.command.now = grind (rules, decided) in
    let some : 0 < length c.in_ok-word.names.now = grind (arith, nat_tests) in
    says_names (λ w. string_bytes w) c.args.command.now c.args.words.now c.in_ok-word.names.now c.in_ok-word.word.now
    c.in_ok-word.ensures.cases.0 (sym c.as_str.ensures.value ∙ word) some

pub returns-else-eq : goal.returns-else-eq
returns-else-eq c =
    let word = c.args.command.now in
    let names = c.in_ok-word.names.now in
    let decided = bytes_eq-Decides c.as_str.result.now word in
    elim c.else-eq.branch [
      | else-eq-via-then-eq+else-not-is_empty w ↦
          let none : length names ≡ 0 = grind (arith, nat_tests, w.if-not-is_empty.false, w.is_empty.ensures) in
          none_named (λ w. string_bytes w) word c.args.words.now names c.in_ok-word.word.now
          c.in_ok-word.ensures.cases.0 none
      | else-eq-via-else-eq w ↦
          other_named (λ w. string_bytes w) word c.args.words.now names c.in_ok-word.word.now
          c.in_ok-word.ensures.cases.0
          (λ e. let same : c.as_str.result.now ≡ word = c.as_str.ensures.value ∙ e in
          grind (rules, decided, same, w.if-eq.false, c.eq.ensures))
    ]
