use Rattle.std.proofs.Common.{◌≡◌, ℕ, rules, ap}
use Rattle.run_shared.proofs.Counts.{count_same}
use Rattle.run_shared.proofs.same_settings.StressCountSame.same.Goals as goal

pub returns-in-Count-Count : goal.returns-in-Count-Count
returns-in-Count-Count c = (
  λ same. let v : c.in-Count-Count.count.value ≡ c.in-Count-Count.other_count.value = search rules in
      let m = count_same c.in-Count-Count.count c.in-Count-Count.other_count v in search rules,
  λ e. search rules,
)
