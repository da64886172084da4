use Rattle.std.proofs.Common.{rules, ◌≡◌, [], ◌∷◌, ◌++◌}
use Rattle.std.proofs.lemmas.Result.{on_ok_weaker}
use Rattle.json.specs.Token as token
use Rattle.serde_json.specs.Data.{string}
use Rattle.run_output.proofs.PrintLemmas.{array_printed}
use Rattle.run_output.proofs.lists.print_texts.Goals as goal

pub returns : goal.returns
returns c =
    let l = c.loop-text in
    let begun : c.begin_array.new.self ≡ c.args.out.now ++ token.begin_array ∷ [] = search rules in
    on_ok_weaker c.end_array.result (λ e. array_printed string c.args.list.now l.text-index c.args.out.now
    c.begin_array.new.self l.out c.end_array.new.self begun l.invariant (search rules) e) c.end_array.ensures
