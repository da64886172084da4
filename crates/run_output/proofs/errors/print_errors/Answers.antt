use Rattle.std.proofs.Common.{rules, ◌≡◌, ◌∙◌, sym, [], ◌∷◌, ◌++◌, map, false, is_none}
use Rattle.std.proofs.lemmas.Result.{on_ok_weaker}
use Rattle.json.specs.Token as token
use Rattle.serde_json.specs.Data.{string}
use Rattle.run_output.specs.Errors.{child_errors, fault_errors, errors_data}
use Rattle.run_output.specs.Printer.{each_tokens}
use Rattle.run_output.proofs.PrintLemmas.{errors_printed}
use Rattle.run_output.proofs.errors.print_errors.Goals as goal

pub returns : goal.returns
returns c =
    let errors = child_errors c.args.child.now in
    let faults = fault_errors c.args.fault in
    let some : is_none (errors_data (errors ++ faults)) ≡ false =
    sym c.has_no_errors.ensures ∙ c.if-has_no_errors.false in
    let begun : c.begin_array.new.self ≡ c.args.out.now ++ token.begin_array ∷ [] = search rules in
    let first : c.print_child.new.out ≡ c.begin_array.new.self ++ each_tokens (map string errors) = search rules in
    let second : c.print_fault.new.out ≡ c.print_child.new.out ++ each_tokens (map string faults) = search rules in
    on_ok_weaker c.end_array.result (λ e. errors_printed errors faults c.args.out.now c.begin_array.new.self
    c.print_child.new.out c.print_fault.new.out c.end_array.new.self some begun first second e) c.end_array.ensures
