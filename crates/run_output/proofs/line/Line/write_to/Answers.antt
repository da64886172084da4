use Rattle.std.proofs.Common.{rules, ◌≡◌, ◌<◌, ◌-◌, ◌∙◌, sym, length, take, drop}
use Rattle.std.proofs.lemmas.Result.{on_err_weaker}
use Rattle.run_output.specs.Fronts.{fronts_text, line_text}
use Rattle.run_output.proofs.WrittenLemmas.{part_later, line_after}
use Rattle.run_output.proofs.line.Line.write_to.Goals as goal

pub returns-clause-err : goal.returns-clause-err
returns-clause-err g c =
    let fronts = c.self.inside.fronts.items in
    let last = c.self.inside.last.items in
    let some : 0 < length fronts = search rules in
    let all : line_text c.deref-2.result.now c.deref-3.result.now ≡ c.args.self.now = search rules in
    let some_there : 0 < length c.deref-2.result.now = search rules in
    on_err_weaker c.write_all-2.result
    (part_later _ _ _ (fronts_text 0 c.deref-2.result.now)
    (take (length c.deref-3.result.now - 1) (drop 1 c.deref-3.result.now)) c.args.self.now
    (sym all ∙ line_after c.deref-2.result.now c.deref-3.result.now some_there) c.in_ok-write_fronts.ensures.ok)
    c.write_all-2.ensures.err
