-- The step of accounts in which one name alone is told of, by the queues of what is due.
use Rattle.std.specs.Prelude.{slice_get}
use Rattle.std.proofs.Common.{◌≡◌, ◌∙◌, ℕ, zero, suc, ◌+◌, ◌<◌, ◌==◌, List, [], ◌∷◌, length, set, Option, Some, None}
use Rattle.std.proofs.Common.{option_map, is_some, Bool, true, false, ◌&&◌, if◌then◌else◌, refl, sym, ap, ap₂}
use Rattle.std.proofs.Common.{true≢false, arith, ne_eqb}
use Rattle.std.specs.List.{list_all, list_any}
use Rattle.std.proofs.lemmas.Bool.{or_left, or_parts, or_right}
use Rattle.std.proofs.lemmas.Option.{same_Some}
use Rattle.run_audit_machines.specs.Accounts.{IsOnlyAt, account_after, accounts_after, accounts_by}
use Rattle.run_audit_machines.specs.Accounts.{PopsAt, count_items, is_told_of, names_in, told_under}
use Rattle.run_audit_machines.specs.Machines.{both_there, due_after, is_none_due}

-- nothing is told of a name
account_kept : {I Y X : Type 0} (one : I → I → Bool) (same : Y → X → Bool) (o : Option (I × X)) (account : I × List Y)
    → told_under one account.0 o ≡ None → account_after one same o account ≡ Some account
account_kept one same o account none =
    ap (λ t. option_map (λ due. (account.0, due)) (due_after same account.1 t)) none

not_told : {I X : Type 0} (one : I → I → Bool) (name : I) (t : I × X) → one t.0 name ≡ false
    → told_under one name (Some t) ≡ None
not_told one name t other = ap (λ b. if b then Some t.1 else None) other

was_told : {I X : Type 0} (one : I → I → Bool) (name : I) (t : I × X) → one t.0 name ≡ true
    → told_under one name (Some t) ≡ Some t.1
was_told one name t own = ap (λ b. if b then Some t.1 else None) own

pub untold_kept : {I Y X : Type 0} (one : I → I → Bool) (same : Y → X → Bool) (accounts : List (I × List Y))
    → accounts_after one same None accounts ≡ Some accounts
untold_kept one same [] = refl
untold_kept one same (account ∷ accounts) =
    ap (λ b. option_map (λ p. p.0 ∷ p.1) (both_there (Some account) b)) (untold_kept one same accounts)

others_kept : {I Q Y X : Type 0} (one : I → I → Bool) (same : Y → X → Bool) (items : Q → List Y) (t : I × X)
    (names : List I) (queues : List Q) → list_any (one t.0) names ≡ false
    → accounts_after one same (Some t) (accounts_by items names queues) ≡ Some (accounts_by items names queues)
others_kept one same items t [] queues none = refl
others_kept one same items t (name ∷ names) [] none = refl
others_kept one same items t (name ∷ names) (queue ∷ queues) none =
    let parts = or_parts (one t.0 name) (list_any (one t.0) names) none in
    ap₂ (λ a b. option_map (λ p. p.0 ∷ p.1) (both_there a b))
    (account_kept one same (Some t) (name, items queue) (not_told one name t parts.0))
    (others_kept one same items t names queues parts.1)

-- the one that is told of
pub own_taken : {I Q Y X : Type 0} (one : I → I → Bool) (same : Y → X → Bool) (items : Q → List Y) (t : I × X)
    (names : List I) (queues : List Q) (place : ℕ) (queue left : Q) → IsOnlyAt (one t.0) names place
    → slice_get queues place ≡ Some queue → due_after same (items queue) (Some t.1) ≡ Some (items left)
    → accounts_after one same (Some t) (accounts_by items names queues)
    ≡ Some (accounts_by items names (set queues place left))
own_taken one same items t [] queues place queue left only at is = absurd only
own_taken one same items t (name ∷ names) [] place queue left only at is = absurd (true≢false (ap is_some (sym at)))
own_taken one same items t (name ∷ names) (q ∷ queues) zero queue left only at is =
    ap₂ (λ a b. option_map (λ p. p.0 ∷ p.1) (both_there a b))
    (ap₂ (λ n l. option_map (λ due. (name, due)) (due_after same (items l) n)) (was_told one name t only.0)
    (same_Some q queue at) ∙ ap (option_map (λ due. (name, due))) is)
    (others_kept one same items t names queues only.1)
own_taken one same items t (name ∷ names) (q ∷ queues) (suc place) queue left only at is =
    ap₂ (λ a b. option_map (λ p. p.0 ∷ p.1) (both_there a b))
    (account_kept one same (Some t) (name, items q) (not_told one name t only.0))
    (own_taken one same items t names queues place queue left only.1 at is)

there_none : {S T : Type 0} (a : Option S) → both_there {S = S} {T = T} a None ≡ None
there_none None = refl
there_none (Some s) = refl

pub own_stopped : {I Q Y X : Type 0} (one : I → I → Bool) (same : Y → X → Bool) (items : Q → List Y) (t : I × X)
    (names : List I) (queues : List Q) (place : ℕ) (queue : Q) → IsOnlyAt (one t.0) names place
    → slice_get queues place ≡ Some queue → due_after same (items queue) (Some t.1) ≡ None
    → accounts_after one same (Some t) (accounts_by items names queues) ≡ None
own_stopped one same items t [] queues place queue only at is = absurd only
own_stopped one same items t (name ∷ names) [] place queue only at is = absurd (true≢false (ap is_some (sym at)))
own_stopped one same items t (name ∷ names) (q ∷ queues) zero queue only at is =
    ap (λ a. option_map (λ p. p.0 ∷ p.1) (both_there a (accounts_after one same (Some t)
    (accounts_by items names queues))))
    (ap₂ (λ n l. option_map (λ due. (name, due)) (due_after same (items l) n)) (was_told one name t only.0)
    (same_Some q queue at) ∙ ap (option_map (λ due. (name, due))) is)
own_stopped one same items t (name ∷ names) (q ∷ queues) (suc place) queue only at is =
    let first = account_after one same (Some t) (name, items q) in
    ap (λ b. option_map (λ p. p.0 ∷ p.1) (both_there first b))
    (own_stopped one same items t names queues place queue only.1 at is)
    ∙ ap (option_map (λ p. p.0 ∷ p.1)) (there_none first)

-- ---- the machine

pub names_by : {I Q Y : Type 0} (items : Q → List Y) (names : List I) (queues : List Q) → length names ≡ length queues
    → names_in (accounts_by items names queues) ≡ names
names_by items [] queues long = refl
names_by items (name ∷ names) [] long = absurd (omega (arith, long))
names_by items (name ∷ names) (queue ∷ queues) long =
    ap (λ l. name ∷ l) (names_by items names queues (omega (arith, long)))

only_any : {I : Type 0} (test : I → Bool) (names : List I) (place : ℕ) → IsOnlyAt test names place
    → list_any test names ≡ true
only_any test [] place only = absurd only
only_any test (name ∷ names) zero only = or_left (test name) (list_any test names) only.0
only_any test (name ∷ names) (suc place) only =
    or_right (test name) (list_any test names) (only_any test names place only.1)

-- what the machine makes of news
abbrev pub Made : {I Y X : Type 0} → (I → I → Bool) → (Y → X → Bool) → List (I × List Y) → Option (I × X)
    → Option (List (I × List Y))
Made one same accounts o = if is_told_of one (names_in accounts) o then accounts_after one same o accounts else None

pub untold : {I Y X : Type 0} (one : I → I → Bool) (same : Y → X → Bool) (accounts : List (I × List Y))
    (o : Option (I × X)) → o ≡ None → Made one same accounts o ≡ Some accounts
untold one same accounts o none =
    ap (Made one same accounts) none ∙ untold_kept one same accounts

pub no_place : {I Q Y X : Type 0} (one : I → I → Bool) (same : Y → X → Bool) (items : Q → List Y) (names : List I)
    (queues : List Q) (o : Option (I × X)) (t : I × X) → length names ≡ length queues → o ≡ Some t
    → list_any (one t.0) names ≡ false → Made one same (accounts_by items names queues) o ≡ None
no_place one same items names queues o t long is none =
    ap (Made one same (accounts_by items names queues)) is
    ∙ ap (λ b. if b then accounts_after one same (Some t) (accounts_by items names queues) else None)
    (ap (list_any (one t.0)) (names_by items names queues long) ∙ none)

there_any : {I Q Y : Type 0} (one : I → I → Bool) (items : Q → List Y) (names : List I) (queues : List Q) (name : I)
    (place : ℕ) → length names ≡ length queues → IsOnlyAt (one name) names place
    → list_any (one name) (names_in (accounts_by items names queues)) ≡ true
there_any one items names queues name place long only =
    ap (list_any (one name)) (names_by items names queues long) ∙ only_any (one name) names place only

pub told_taken : {I Q Y X : Type 0} (one : I → I → Bool) (same : Y → X → Bool) (items : Q → List Y) (names : List I)
    (queues after : List Q) (o : Option (I × X)) (t : I × X) (place : ℕ) (y : Y) → length names ≡ length queues
    → o ≡ Some t → IsOnlyAt (one t.0) names place → PopsAt items queues place (Some y) after → same y t.1 ≡ true
    → Made one same (accounts_by items names queues) o ≡ Some (accounts_by items names after)
told_taken one same items names queues after o t place y long is only pops told =
    ap (Made one same (accounts_by items names queues)) is
    ∙ ap (λ b. if b then accounts_after one same (Some t) (accounts_by items names queues) else None)
    (there_any one items names queues t.0 place long only)
    ∙ own_taken one same items t names queues place pops.0 pops.1 only pops.2
    (ap (λ l. due_after same l (Some t.1)) pops.3 ∙ ap (λ b. if b then Some (items pops.1) else None) told)
    ∙ ap (λ l. Some (accounts_by items names l)) (sym pops.4)

pub told_stopped : {I Q Y X : Type 0} (one : I → I → Bool) (same : Y → X → Bool) (items : Q → List Y) (names : List I)
    (queues after : List Q) (o : Option (I × X)) (t : I × X) (place : ℕ) (y : Y) → length names ≡ length queues
    → o ≡ Some t → IsOnlyAt (one t.0) names place → PopsAt items queues place (Some y) after → same y t.1 ≡ false
    → Made one same (accounts_by items names queues) o ≡ None
told_stopped one same items names queues after o t place y long is only pops told =
    ap (Made one same (accounts_by items names queues)) is
    ∙ ap (λ b. if b then accounts_after one same (Some t) (accounts_by items names queues) else None)
    (there_any one items names queues t.0 place long only)
    ∙ own_stopped one same items t names queues place pops.0 only pops.2
    (ap (λ l. due_after same l (Some t.1)) pops.3 ∙ ap (λ b. if b then Some (items pops.1) else None) told)

pub empty_stopped : {I Q Y X : Type 0} (one : I → I → Bool) (same : Y → X → Bool) (items : Q → List Y) (names : List I)
    (queues : List Q) (o : Option (I × X)) (t : I × X) (place : ℕ) (queue : Q) → length names ≡ length queues
    → o ≡ Some t → IsOnlyAt (one t.0) names place → slice_get queues place ≡ Some queue → items queue ≡ []
    → Made one same (accounts_by items names queues) o ≡ None
empty_stopped one same items names queues o t place queue long is only at none =
    ap (Made one same (accounts_by items names queues)) is
    ∙ ap (λ b. if b then accounts_after one same (Some t) (accounts_by items names queues) else None)
    (there_any one items names queues t.0 place long only)
    ∙ own_stopped one same items t names queues place queue only at (ap (λ l. due_after same l (Some t.1)) none)

-- ---- how many are left

pub length_set : {Q : Type 0} (queues : List Q) (place : ℕ) (left : Q) → length (set queues place left) ≡ length queues
length_set [] place left = refl
length_set (q ∷ queues) zero left = refl
length_set (q ∷ queues) (suc place) left = ap suc (length_set queues place left)

pub one_fewer : {Q Y : Type 0} (items : Q → List Y) (queues : List Q) (place : ℕ) (queue left : Q) (y : Y)
    → slice_get queues place ≡ Some queue → items queue ≡ y ∷ items left
    → count_items items (set queues place left) + 1 ≡ count_items items queues
one_fewer items [] place queue left y at is = absurd (true≢false (ap is_some (sym at)))
one_fewer items (q ∷ queues) zero queue left y at is =
    let own : length (items q) ≡ length (items left) + 1 =
    ap (λ l. length (items l)) (same_Some q queue at) ∙ ap length is ∙ omega arith in
    omega (arith, own)
one_fewer items (q ∷ queues) (suc place) queue left y at is =
    let more = one_fewer items queues place queue left y at is in omega (arith, more)

above_none : (n : ℕ) → (suc n == 0) ≡ false
above_none n = ne_eqb (suc n) 0 (λ is. omega (arith, is))

none_items : {Y : Type 0} (l : List Y) → is_none_due l ≡ (length l == 0)
none_items [] = refl
none_items (y ∷ l) = sym (above_none (length l))

sum_none : (a b : ℕ) → ((a == 0) && (b == 0)) ≡ (a + b == 0)
sum_none zero b = ap (λ n. n == 0) (omega arith)
sum_none (suc a) b =
    let whole : suc a + b ≡ suc (a + b) = omega arith in
    ap (λ x. x && (b == 0)) (above_none a) ∙ sym (above_none (a + b)) ∙ ap (λ n. n == 0) (sym whole)

pub all_done : {I Q Y : Type 0} (items : Q → List Y) (names : List I) (queues : List Q) → length names ≡ length queues
    → list_all (λ account. is_none_due account.1) (accounts_by items names queues) ≡ (count_items items queues == 0)
all_done items [] [] long = refl
all_done items [] (queue ∷ queues) long = absurd (omega (arith, long))
all_done items (name ∷ names) [] long = absurd (omega (arith, long))
all_done items (name ∷ names) (queue ∷ queues) long =
    ap₂ (λ a b. a && b) (none_items (items queue)) (all_done items names queues (omega (arith, long)))
    ∙ sum_none (length (items queue)) (count_items items queues)

-- ---- what a queue gives at the place of a name

pub only_within : {I : Type 0} (test : I → Bool) (names : List I) (place : ℕ) → IsOnlyAt test names place
    → place < length names
only_within test [] place only = absurd only
only_within test (name ∷ names) zero only = omega arith
only_within test (name ∷ names) (suc place) only =
    let more = only_within test names place only.1 in omega (arith, more)

same_count : {Q Y : Type 0} (items : Q → List Y) (queues : List Q) (place : ℕ) (queue left : Q)
    → slice_get queues place ≡ Some queue → items queue ≡ items left
    → count_items items (set queues place left) ≡ count_items items queues
same_count items [] place queue left at is = absurd (true≢false (ap is_some (sym at)))
same_count items (q ∷ queues) zero queue left at is =
    ap (λ l. length l + count_items items queues) (sym is ∙ ap items (sym (same_Some q queue at)))
same_count items (q ∷ queues) (suc place) queue left at is =
    ap (λ n. length (items q) + n) (same_count items queues place queue left at is)

pub none_popped : {Q Y : Type 0} (items : Q → List Y) (queues after : List Q) (place : ℕ)
    → PopsAt items queues place None after
    → (length after ≡ length queues) × (count_items items after ≡ count_items items queues)
none_popped items queues after place pops = (
  ap length pops.4 ∙ length_set queues place pops.1,
  ap (count_items items) pops.4 ∙ same_count items queues place pops.0 pops.1 pops.2 (pops.3.0 ∙ sym pops.3.1),
)

pub one_popped : {Q Y : Type 0} (items : Q → List Y) (queues after : List Q) (place : ℕ) (y : Y)
    → PopsAt items queues place (Some y) after
    → (length after ≡ length queues) × (count_items items after + 1 ≡ count_items items queues)
one_popped items queues after place y pops = (
  ap length pops.4 ∙ length_set queues place pops.1,
  ap (λ l. count_items items l + 1) pops.4 ∙ one_fewer items queues place pops.0 pops.1 y pops.2 pops.3,
)
