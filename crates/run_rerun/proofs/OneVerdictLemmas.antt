-- What is said of shards has one status.
use Rattle.std.proofs.Common.{◌≡◌, ◌∙◌, ℕ, ◌<◌, ◌≤◌, List, get_or, refl, sym, ap, subst, arith}
use Rattle.std.specs.List.{All}
use Rattle.std.proofs.lemmas.Option.{get_or_from_slice_get, slice_get_within}
use Rattle.run_events.specs.declared.plan.TestInstanceId.{TestInstanceId}
use Rattle.run_rerun.specs.declared.answers.ShardsVerdict.{ShardsVerdict}
use Rattle.run_rerun.specs.declared.answers.ShardsVerdict.TheVariants.{Whole, Cut, Other, Twice, Missing}
use Rattle.run_rerun.specs.declared.answers.StoredRun.{StoredRun}
use Rattle.run_rerun.specs.Shards.{AreWhole, IsFirstAmiss, SaysShards, shards_with, tests_wanted}
use Rattle.run_rerun.specs.ShardLines.{shards_status}

-- where all items are right, none is amiss
none_amiss : {X : Type 0} (Right : X → Type 0) (xs : List X) (place : ℕ) (x : X) → All Right xs
    → IsFirstAmiss Right xs place x → ⊥
none_amiss Right xs place x all first =
    first.amiss (subst Right (get_or_from_slice_get xs place x x first.at)
    (all place x (slice_get_within xs place x first.at)))

-- so shards that are the whole have no other verdict
whole_or_cut : (shards : List StoredRun) (place : ℕ) → AreWhole shards → SaysShards shards (Cut place) → ⊥
whole_or_cut shards place h (shard, first) = none_amiss _ shards place shard h.complete first

whole_or_other : (shards : List StoredRun) (place : ℕ) → AreWhole shards → SaysShards shards (Other place) → ⊥
whole_or_other shards place h (complete, (shard, first)) = none_amiss _ shards place shard h.one_plan first

whole_or_twice : (shards : List StoredRun) (id : TestInstanceId) → AreWhole shards → SaysShards shards (Twice id) → ⊥
whole_or_twice shards id h (complete, one_plan, (place, first)) =
    none_amiss (λ id. shards_with shards id ≤ 1) (tests_wanted shards) place id
    (λ k d below. let once = h.once k d below in omega (arith, once)) first

whole_or_missing : (shards : List StoredRun) (id : TestInstanceId) → AreWhole shards
    → SaysShards shards (Missing id) → ⊥
whole_or_missing shards id h (complete, one_plan, most, (place, first)) =
    none_amiss (λ id. 0 < shards_with shards id) (tests_wanted shards) place id
    (λ k d below. let once = h.once k d below in omega (arith, once)) first

-- and any two verdicts have one status
pub one_status : (shards : List StoredRun) (a b : ShardsVerdict) → SaysShards shards a → SaysShards shards b
    → shards_status a ≡ shards_status b
one_status shards (Whole t p) (Whole u q) (h, t_is, p_is) (g, u_is, q_is) =
    let tests : t ≡ u = t_is ∙ sym u_is in
    let passed : p ≡ q = p_is ∙ sym q_is in
    ap (λ n. shards_status (Whole n p)) tests ∙ ap (λ n. shards_status (Whole u n)) passed
one_status shards (Whole t p) (Cut n) (h, t_is, p_is) says = absurd (whole_or_cut shards n h says)
one_status shards (Cut n) (Whole t p) says (h, t_is, p_is) = absurd (whole_or_cut shards n h says)
one_status shards (Whole t p) (Other n) (h, t_is, p_is) says = absurd (whole_or_other shards n h says)
one_status shards (Other n) (Whole t p) says (h, t_is, p_is) = absurd (whole_or_other shards n h says)
one_status shards (Whole t p) (Twice i) (h, t_is, p_is) says = absurd (whole_or_twice shards i h says)
one_status shards (Twice i) (Whole t p) says (h, t_is, p_is) = absurd (whole_or_twice shards i h says)
one_status shards (Whole t p) (Missing i) (h, t_is, p_is) says = absurd (whole_or_missing shards i h says)
one_status shards (Missing i) (Whole t p) says (h, t_is, p_is) = absurd (whole_or_missing shards i h says)
one_status shards (Cut n) (Cut xn) says also = refl
one_status shards (Cut n) (Other xn) says also = refl
one_status shards (Cut n) (Twice xi) says also = refl
one_status shards (Cut n) (Missing xi) says also = refl
one_status shards (Other n) (Cut xn) says also = refl
one_status shards (Other n) (Other xn) says also = refl
one_status shards (Other n) (Twice xi) says also = refl
one_status shards (Other n) (Missing xi) says also = refl
one_status shards (Twice i) (Cut xn) says also = refl
one_status shards (Twice i) (Other xn) says also = refl
one_status shards (Twice i) (Twice xi) says also = refl
one_status shards (Twice i) (Missing xi) says also = refl
one_status shards (Missing i) (Cut xn) says also = refl
one_status shards (Missing i) (Other xn) says also = refl
one_status shards (Missing i) (Twice xi) says also = refl
one_status shards (Missing i) (Missing xi) says also = refl
