-- The limits of groups by their names, as one group more comes.
use Rattle.std.proofs.Common.{◌≡◌, ◌∙◌, ℕ, nat_eq, List, [], ◌∷◌, ◌++◌, Option, Some, None, option_map, is_some, cond}
use Rattle.std.proofs.Common.{Bool, true, false, refl, sym, ap, true≢false}
use Rattle.std.specs.BTreeMap.{BTreeMap, get, is_at}
use Rattle.std.specs.Cmp.Lexicographic.{slice_cmp, texts_ties}
use Rattle.std.specs.Ordering.{nat_cmp}
use lib.Pointwise.{bytes_decides, pointwise}
use Rattle.run_events.specs.declared.plan.Group.{Group}
use Rattle.run_laws_events.specs.PlanLimits.{group_named}
use Rattle.run_audit_passes.specs.LimitTable.{AreLimits}
use Rattle.run_audit_passes.proofs.TakenLemmas.{no_limit}

-- the first of two that is there
abbrev first_there : Option Group → Option Group → Option Group
first_there None o = o
first_there (Some g) o = Some g

abbrev named_one : List ℕ → Group → Option Group
named_one name group = cond (pointwise nat_eq group.name name) (Some group) None

named_more : (name : List ℕ) (groups : List Group) (group : Group) → group_named name (groups ++ group ∷ [])
    ≡ first_there (group_named name groups) (named_one name group)
named_more name [] group = refl
named_more name (g ∷ groups) group = by (pointwise nat_eq g.name name) (named_more name groups group)
  where
    by : (b : Bool)
        → group_named name (groups ++ group ∷ []) ≡ first_there (group_named name groups) (named_one name group)
        → cond b (Some g) (group_named name (groups ++ group ∷ []))
        ≡ first_there (cond b (Some g) (group_named name groups)) (named_one name group)
    by true more = refl
    by false more = more

first_alone : (o : Option Group) → first_there o None ≡ o
first_alone None = refl
first_alone (Some g) = refl

first_stays : (o q : Option Group) → is_some o ≡ true → first_there o q ≡ o
first_stays None q is = absurd (true≢false (sym is))
first_stays (Some g) q is = refl

same_there : (o : Option Group) → is_some (option_map (λ g. g.limit) o) ≡ is_some o
same_there None = refl
same_there (Some g) = refl

-- one whose name another has
pub limits_kept : (limits : BTreeMap (List ℕ) ℕ) (group : Group)
    → is_some (get (slice_cmp nat_cmp) limits group.name) ≡ true → (groups : List Group) → AreLimits groups limits
    → AreLimits (groups ++ group ∷ []) limits
limits_kept limits group has groups are name =
    are name ∙ sym (ap (option_map (λ g. g.limit)) (named_more name groups group
    ∙ by (pointwise nat_eq group.name name) refl))
  where
    by : (b : Bool) → pointwise nat_eq group.name name ≡ b
        → first_there (group_named name groups) (cond b (Some group) None) ≡ group_named name groups
    by true same =
        first_stays (group_named name groups) (Some group)
        (sym (same_there (group_named name groups)) ∙ ap is_some (sym (are name))
        ∙ ap (λ n. is_some (get (slice_cmp nat_cmp) limits n)) (sym ((bytes_decides group.name name).0 same)) ∙ has)
    by false other = first_alone (group_named name groups)

not_there : (o : Option ℕ) → is_some o ≡ false → o ≡ None
not_there None is = refl
not_there (Some n) is = absurd (true≢false is)

-- one of a new name
pub limits_added : (limits after : BTreeMap (List ℕ) ℕ) (key : List ℕ) (group : Group) → key ≡ group.name
    → is_some (get (slice_cmp nat_cmp) limits group.name) ≡ false
    → ((q : List ℕ) → get (slice_cmp nat_cmp) after q
    ≡ cond (is_at (slice_cmp nat_cmp key) q) (Some group.limit) (get (slice_cmp nat_cmp) limits q))
    → (groups : List Group) → AreLimits groups limits → AreLimits (groups ++ group ∷ []) after
limits_added limits after key group same new put groups are name =
    put name
    ∙ ap (λ b. cond b (Some group.limit) (get (slice_cmp nat_cmp) limits name))
    (sym (texts_ties key name) ∙ ap (λ x. pointwise nat_eq x name) same)
    ∙ by (pointwise nat_eq group.name name) refl
    ∙ sym (ap (option_map (λ g. g.limit)) (named_more name groups group))
  where
    by : (b : Bool) → pointwise nat_eq group.name name ≡ b
        → cond b (Some group.limit) (get (slice_cmp nat_cmp) limits name)
        ≡ option_map (λ g. g.limit) (first_there (group_named name groups) (cond b (Some group) None))
    by true own =
        let none = no_limit groups limits name are
        (ap (get (slice_cmp nat_cmp) limits) (sym ((bytes_decides group.name name).0 own))
        ∙ not_there (get (slice_cmp nat_cmp) limits group.name) new) in
        sym (ap (λ o. option_map (λ g. g.limit) (first_there o (Some group))) none)
    by false other = are name ∙ sym (ap (option_map (λ g. g.limit)) (first_alone (group_named name groups)))
