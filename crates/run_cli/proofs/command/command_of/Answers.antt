use Rattle.std.proofs.Common.{◌≡◌, ◌∙◌, ap, subst, [], ◌∷◌, string_bytes, codes, rules, arith}
use Rattle.std.proofs.lemmas.Slice.Eq.{bytes_eq-Decides}
use Rattle.run_cli.specs.Commands.{IsWidth}
use Rattle.run_cli.proofs.WordLemmas.{one_item, two_items}
use Rattle.run_cli.proofs.command.command_of.Goals as goal

pub returns-in-len1-clause-some : goal.returns-in-len1-clause-some
returns-in-len1-clause-some c =
    let same = one_item string_bytes c.args.words.now c.word-item.result (omega arith) (omega arith) c.word-item.is in
    let decided = bytes_eq-Decides c.as_str.result.now (codes "replay") in
    rw same (grind (rules, decided))

pub returns-in_ok-number_of-in-len2-clause-some : goal.returns-in_ok-number_of-in-len2-clause-some
returns-in_ok-number_of-in-len2-clause-some c =
    let word = c.word-item-then-words-lt3 in
    let width = c.width-item in
    let same = two_items string_bytes c.args.words.now word.result width.result (omega arith) (omega arith) word.is
    width.is in
    let decided = bytes_eq-Decides c.as_str-then-words-lt3.result.now (codes "progress") in
    let named : string_bytes word.result ≡ codes "progress" = grind (rules, decided) in
    let says = c.in_ok-number_of-in-len2.ensures.some in (
      string_bytes width.result,
      same ∙ ap (λ w. w ∷ string_bytes width.result ∷ []) named,
      subst (λ text. IsWidth text c.in_ok-number_of-in-len2.field-0) c.as_str-in-len2.ensures.value says,
    )
