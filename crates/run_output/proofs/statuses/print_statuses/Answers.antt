use Rattle.std.proofs.Common.{rules, ◌≡◌, [], ◌∷◌, ◌++◌}
use Rattle.std.proofs.lemmas.Result.{on_ok_weaker}
use Rattle.json.specs.Token as token
use Rattle.run_output.specs.Statuses.{status_data}
use Rattle.run_output.proofs.PrintLemmas.{array_printed}
use Rattle.run_output.proofs.statuses.print_statuses.Goals as goal

pub returns : goal.returns
returns c =
    let l = c.loop-status in
    let begun : c.begin_array.new.self ≡ c.args.out.now ++ token.begin_array ∷ [] = search rules in
    on_ok_weaker c.end_array.result (λ e. array_printed status_data c.args.statuses.now l.status-index c.args.out.now
    c.begin_array.new.self l.out c.end_array.new.self begun l.invariant (search rules) e) c.end_array.ensures
