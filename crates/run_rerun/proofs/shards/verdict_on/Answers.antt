use Rattle.std.proofs.Common.{◌≡◌, ◌≤◌, false, subst}
use Rattle.run_rerun.specs.Found.{FindsItem}
use Rattle.run_rerun.specs.Outstanding.{has_id}
use Rattle.run_rerun.specs.Shards.{shards_with}
use Rattle.run_rerun.proofs.ShardLemmas.{amiss_as, few, few_back}
use Rattle.run_rerun.proofs.shards.verdict_on.Goals as goal

pub returns-in-Some : goal.returns-in-Some
returns-in-Some c =
    let shards = c.args.shards.now in
    let ids = c.args.ids.now in
    let set = c.in_ok-seen.seen.more in
    let is = c.in_ok-seen.ensures.more in
    let first = subst (FindsItem (λ id. has_id set.keys id ≡ false) ids) c.in-Some.is c.in_ok-found.ensures in (
      first.0,
      amiss_as (λ id. has_id set.keys id ≡ false) (λ id. shards_with shards id ≤ 1) ids first.0 c.in-Some.id
          (λ id. few (has_id set.keys id) (shards_with shards id) (is id))
          (λ id. few_back (has_id set.keys id) (shards_with shards id) (is id)) first.1,
    )

pub found_in-requires-clause-most : goal.found_in-requires-clause-most
found_in-requires-clause-most c = λ k d below.
    let set = c.in_ok-seen.seen.more in
    let all = subst (FindsItem (λ id. has_id set.keys id ≡ false) c.args.ids.now) c.in-None.is c.in_ok-found.ensures in
    few _ _ (c.in_ok-seen.ensures.more _) (all k d below)
