use Rattle.std.proofs.Common.{◌≡◌, ◌∙◌, ap, subst, [], ◌∷◌, string_bytes, codes, rules, arith}
use Rattle.std.proofs.Common.{IfSome}
use Rattle.std.proofs.lemmas.Slice.Eq.{bytes_eq-Decides}
use Rattle.run_cli.specs.Commands.{IsNumber}
use Rattle.run_cli.proofs.GenerateLemmas.{test_count}
use Rattle.run_cli.proofs.WordLemmas.{two_items}
use Rattle.run_cli.proofs.command.generated_tests.Goals as goal

pub returns-in-len2-clause-some : goal.returns-in-len2-clause-some
returns-in-len2-clause-some c =
    let word = c.word-item in
    let tests = c.tests-item in
    let same = two_items string_bytes c.args.words.now word.result tests.result (omega arith) (omega arith) word.is
    tests.is in
    let decided = bytes_eq-Decides c.as_str.result.now (codes "generate") in
    let named : string_bytes word.result ≡ codes "generate" = grind (rules, decided) in
    test_count _ (string_bytes tests.result) c.number_of.result
    (same ∙ ap (λ w. w ∷ string_bytes tests.result ∷ []) named)
    (subst (λ text. IfSome c.number_of.result (IsNumber 20000 text)) c.as_str-in-len2.ensures.value
    c.number_of.ensures.some)
