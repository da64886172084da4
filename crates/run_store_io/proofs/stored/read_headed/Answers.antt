use Rattle.std.proofs.Common.{rules, ◌≡◌, true}
use Rattle.run_store.specs.Stores.{is_plan_payload}
use Rattle.run_store_io.proofs.ReadLemmas.{after_plan}
use Rattle.run_store_io.proofs.stored.read_headed.Goals as goal

pub returns-else-not-branch : goal.returns-else-not-branch
returns-else-not-branch c =
    let good : is_plan_payload c.in-Whole.payload.now ≡ true = search rules in
    after_plan c.args.bytes.now c.in-Whole.payload.now c.in-Whole.after.now c.in-Whole.kind c.read_after.result
    c.in-Whole.ensures good c.read_after.ensures
