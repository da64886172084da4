use Rattle.std.proofs.Common.{rules, ◌≡◌, [], ◌∷◌, ◌++◌, ◌∙◌}
use Rattle.std.proofs.lemmas.Result.{on_ok_weaker}
use Rattle.json.specs.Token as token
use Rattle.run_output.specs.Printer.{member_tokens}
use Rattle.run_output.proofs.InOrderLemmas.{member_printed, in_order_printed}
use Rattle.run_output.proofs.object.print_in_order.Goals as goal

pub loop-key-preserved : goal.loop-key-preserved
loop-key-preserved g c =
    let l = c.loop-key in
    let field = c.loop-key-item.result in
    let member : c.print_member.new.out ≡ l.out ++ member_tokens field.0.now (g.F.Printed.printed field.1)
    = search rules in
    member_printed g.F.Printed.printed c.args.fields.now l.key-index field l.out c.print_member.new.out
    c.loop-key-item.is c.loop-key-test.true member ∙ l.invariant

pub returns : goal.returns
returns g c =
    let l = c.loop-key in
    let begun : c.begin_object.new.self ≡ c.args.out.now ++ token.begin_object ∷ [] = search rules in
    on_ok_weaker c.end_object.result (λ e.
    in_order_printed g.F.Printed.printed c.args.fields.now l.key-index c.args.out.now c.begin_object.new.self l.out
    c.end_object.new.self c.requires begun l.invariant (search rules) e) c.end_object.ensures
