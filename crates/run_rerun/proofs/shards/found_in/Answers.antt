use Rattle.std.proofs.Common.{◌≡◌, ◌<◌, ◌≤◌, true, get_or, subst, arith}
use Rattle.run_rerun.specs.Found.{FindsItem}
use Rattle.run_rerun.specs.Outstanding.{has_id}
use Rattle.run_rerun.specs.Shards.{shards_with}
use Rattle.run_rerun.proofs.ShardLemmas.{amiss_as, some, some_back}
use Rattle.run_rerun.proofs.shards.found_in.Goals as goal

pub returns-in-Some : goal.returns-in-Some
returns-in-Some c =
    let shards = c.args.shards.now in
    let ids = c.args.ids.now in
    let set = c.args.once.now in
    let is = c.requires.once in
    let first = subst (FindsItem (λ id. has_id set.keys id ≡ true) ids) c.in-Some.is c.in_ok-found.ensures in (
      c.requires.most,
      (
        first.0,
        amiss_as (λ id. has_id set.keys id ≡ true) (λ id. 0 < shards_with shards id) ids first.0 c.in-Some.id
            (λ id. some (has_id set.keys id) (shards_with shards id) (is id))
            (λ id. some_back (has_id set.keys id) (shards_with shards id) (is id)) first.1,
      ),
    )

pub counted-requires : goal.counted-requires
counted-requires c = λ k d below.
    let shards = c.args.shards.now in
    let ids = c.args.ids.now in
    let set = c.args.once.now in
    let id = get_or ids k d in
    let all = subst (FindsItem (λ id. has_id set.keys id ≡ true) ids) c.in-None.is c.in_ok-found.ensures in
    let least : 0 < shards_with shards id = some _ _ (c.requires.once id) (all k d below) in
    let most : shards_with shards id ≤ 1 = c.requires.most k d below in omega (arith, least, most)
