use Rattle.std.proofs.Common.{rules, ◌≡◌, ◌∙◌, ap}
use Rattle.json.specs.Print.{print}
use Rattle.run_output.specs.Fields.{line_bytes}
use Rattle.run_output.proofs.FrontsLemmas.{line_ended}
use Rattle.run_output.proofs.printer.Printer.into_line.Goals as goal

pub invariant_of-result : goal.invariant_of-result
invariant_of-result c =
    let p = c.self.inside in
    let bytes : c.push.new.self.items ≡ line_bytes (print p.out.tokens) = search rules in
    (line_ended p.fronts.items p.out.tokens c.push.new.self.items c.self.invariant.1 bytes).0

pub returns : goal.returns
returns c =
    let p = c.self.inside in
    let bytes : c.push.new.self.items ≡ line_bytes (print p.out.tokens) = search rules in
    (line_ended p.fronts.items p.out.tokens c.push.new.self.items c.self.invariant.1 bytes).1
    ∙ ap (λ ts. line_bytes (print ts)) c.self.view_is
