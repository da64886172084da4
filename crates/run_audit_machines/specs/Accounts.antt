-- What is due of each of some names in a part, as a machine: each event tells of one of them what is due of it next.
use Rattle.std.specs.Prelude.{◌≡◌, List, [], ◌∷◌, map, Bool, true, false, if◌then◌else◌, Option, Some, None}
use Rattle.std.specs.Prelude.{ℕ, zero, suc, ◌+◌, length, set, slice_get, option_map, filter_map}
use Rattle.std.specs.List.{All, list_all, list_any}
use Rattle.std.specs.Option.{option_map_or}
use Rattle.run_audit_model.specs.Places.{Machine}
use Rattle.run_audit_model.specs.declared.audit_event.AuditEvent.{AuditEvent}
use Rattle.run_audit_machines.specs.Machines.{StaysWithin, both_there, due_after, is_none_due}

-- what is told of a name
abbrev pub told_under : {I X : Type 0} → (I → I → Bool) → I → Option (I × X) → Option X
told_under one name None = None
told_under one name (Some told) = if one told.0 name then Some told.1 else None

-- the names, each with what is still due of it, once something was told
abbrev pub account_after : {I Y X : Type 0} → (I → I → Bool) → (Y → X → Bool) → Option (I × X) → I × List Y
    → Option (I × List Y)
account_after one same told account =
    option_map (λ due. (account.0, due)) (due_after same account.1 (told_under one account.0 told))

abbrev pub accounts_after : {I Y X : Type 0} → (I → I → Bool) → (Y → X → Bool) → Option (I × X) → List (I × List Y)
    → Option (List (I × List Y))
accounts_after one same told [] = Some []
accounts_after one same told (account ∷ accounts) = option_map (λ p. p.0 ∷ p.1)
    (both_there (account_after one same told account) (accounts_after one same told accounts))

abbrev pub names_in : {I X : Type 0} → List (I × X) → List I
names_in accounts = map (λ account. account.0) accounts

-- nothing is told, or something of one of these names
abbrev pub is_told_of : {I X : Type 0} → (I → I → Bool) → List I → Option (I × X) → Bool
is_told_of one names told = option_map_or (λ t. list_any (one t.0) names) told true

abbrev pub accounts_machine : {I Y X E : Type 0} → (I → I → Bool) → (Y → X → Bool) → (E → Option (I × X))
    → Machine (List (I × List Y)) E
accounts_machine one same told = record {
  takes = λ accounts e. if is_told_of one (names_in accounts) (told e) then accounts_after one same (told e) accounts
      else None;
  is_done = λ accounts. list_all (λ account. is_none_due account.1) accounts;
}

-- events tell of each name what is due of it, and of no other
abbrev pub TellsEach : {I X E : Type 0} → (I → I → Bool) → (E → Option (I × X)) → List E → List (I × List X) → Type 0
TellsEach one told events [] = Unit {0}
TellsEach one told events (account ∷ accounts) =
    (filter_map (λ e. told_under one account.0 (told e)) events ≡ account.1) × TellsEach one told events accounts

abbrev pub TellsAccounts : {I X E : Type 0} → (I → I → Bool) → (E → Option (I × X)) → List (I × List X) → List E
    → Type 0
TellsAccounts one told accounts events = TellsEach one told events accounts
    × All (λ e. is_told_of one (names_in accounts) (told e) ≡ true) events

-- no two names are the same
abbrev pub AreApart : {I : Type 0} → (I → I → Bool) → List I → Type 0
AreApart one [] = Unit {0}
AreApart one (name ∷ names) =
    All (λ other. (one name other ≡ false) × (one other name ≡ false)) names × AreApart one names

-- some event tells it of a name, and stays within the part
abbrev pub IsTellableOf : {I X : Type 0} → (AuditEvent → Option (I × X)) → I → X → Type 0
IsTellableOf told name x = (e : AuditEvent) × (told e ≡ Some (name, x)) × StaysWithin e

-- all that is still due can be told
pub record CanTellEach {I X : Type 0} (one : I → I → Bool) (told : AuditEvent → Option (I × X))
    (accounts : List (I × List X)) : Type 0 where
  pub apart : AreApart one (names_in accounts)
  pub each : All (λ account. All (IsTellableOf told account.0) account.1) accounts

-- accounts of what stands for what is told
abbrev pub account_seen : {I Y X : Type 0} → (Y → X) → I × List Y → I × List X
account_seen news account = (account.0, map news account.1)

abbrev pub accounts_seen : {I Y X : Type 0} → (Y → X) → List (I × List Y) → List (I × List X)
accounts_seen news accounts = map (account_seen news) accounts

-- the one place of some names at which a test passes; or none
abbrev pub IsOnlyAt : {I : Type 0} → (I → Bool) → List I → ℕ → Type 0
IsOnlyAt test [] place = ⊥
IsOnlyAt test (name ∷ names) zero = (test name ≡ true) × (list_any test names ≡ false)
IsOnlyAt test (name ∷ names) (suc place) = (test name ≡ false) × IsOnlyAt test names place

abbrev pub IsOwnPlace : {I : Type 0} → (I → Bool) → List I → Option ℕ → Type 0
IsOwnPlace test names None = list_any test names ≡ false
IsOwnPlace test names (Some place) = IsOnlyAt test names place

-- names, each with the items of its queue; and how many items all queues have
abbrev pub accounts_by : {I Q Y : Type 0} → (Q → List Y) → List I → List Q → List (I × List Y)
accounts_by items [] queues = []
accounts_by items (name ∷ names) [] = []
accounts_by items (name ∷ names) (queue ∷ queues) = (name, items queue) ∷ accounts_by items names queues

abbrev pub count_items : {Q Y : Type 0} → (Q → List Y) → List Q → ℕ
count_items items [] = 0
count_items items (queue ∷ queues) = length (items queue) + count_items items queues

-- the queue at a place gives its first item, or has none
abbrev pub IsFrontOf : {Y : Type 0} → Option Y → List Y → List Y → Type 0
IsFrontOf None before after = (before ≡ []) × (after ≡ [])
IsFrontOf (Some y) before after = before ≡ y ∷ after

abbrev pub PopsAt : {Q Y : Type 0} → (Q → List Y) → List Q → ℕ → Option Y → List Q → Type 0
PopsAt {Q} items queues place item after = (queue left : Q) × (slice_get queues place ≡ Some queue)
    × IsFrontOf item (items queue) (items left) × (after ≡ set queues place left)
