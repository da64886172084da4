-- The places of ids, as one more comes.
use Rattle.std.specs.Prelude.{nat_eq}
use Rattle.std.proofs.Common.{zero, ◌+◌, ◌<◌, arith, get_or, is_some, map, take}
use Rattle.std.proofs.Common.{drop}
use Rattle.std.specs.List.{All, IsDistinct}
use Rattle.std.proofs.lemmas.List.{drop_more, length-map, length-take-le, map-append, map_more, take-append-drop}
use Rattle.std.proofs.lemmas.List.Elements.{All-from_recursion, All-head, All-tail, All-weaker}
use Rattle.std.proofs.lemmas.Map.Keys.{IsDistinct-head, IsDistinct-tail}
use Rattle.std.proofs.Common.{◌≡◌, ◌∙◌, ℕ, suc, List, [], ◌∷◌, ◌++◌, length, Option, Some, None, cond, Bool}
use Rattle.std.proofs.Common.{true, false}
use Rattle.std.proofs.Common.{refl, sym, ap, ap₂, subst, true≢false}
use Rattle.std.specs.List.{list_any}
use Rattle.std.specs.BTreeMap.{is_at}
use Rattle.std.proofs.lemmas.Bool.{and_parts, cases_Bool, false_from_ne_true, or_from, or_parts}
use lib.Pointwise.{bytes_decides, pointwise}
use Rattle.std.proofs.Common.{⊎_elim}
use Rattle.run_events.specs.declared.plan.TestInstanceId.{TestInstanceId}
use Rattle.run_model.specs.Reruns.{id_order, is_one_test}
use Rattle.run_model.proofs.RerunLemmas.{one_test}
use Rattle.run_audit_machines.specs.Accounts.{AreApart, IsOnlyAt, IsOwnPlace}
use Rattle.run_audit_machines.proofs.TestLemmas.{one_itself}

same_id : (a b : TestInstanceId) → is_one_test a b ≡ true → a ≡ b
same_id a b is =
    let parts = and_parts (pointwise nat_eq a.binary b.binary) (pointwise nat_eq a.name b.name) is in
    ap₂ (λ x y. record { binary = x; name = y }) ((bytes_decides a.binary b.binary).0 parts.0)
    ((bytes_decides a.name b.name).0 parts.1)

-- ids that are apart are so both ways
other_way : (a b : TestInstanceId) → is_one_test a b ≡ false → is_one_test b a ≡ false
other_way a b apart = false_from_ne_true (is_one_test b a) (λ is.
    true≢false (sym (one_itself a) ∙ ap (is_one_test a) (sym (same_id b a is)) ∙ apart))

-- one more that doesn't pass, and one that does
none_more : {I : Type 0} (test : I → Bool) (ids : List I) (x : I) → list_any test ids ≡ false → test x ≡ false
    → list_any test (ids ++ x ∷ []) ≡ false
none_more test [] x none other = or_from (test x) false other refl
none_more test (id ∷ ids) x none other =
    let parts = or_parts (test id) (list_any test ids) none in
    or_from (test id) (list_any test (ids ++ x ∷ [])) parts.0 (none_more test ids x parts.1 other)

only_more : {I : Type 0} (test : I → Bool) (ids : List I) (x : I) (place : ℕ) → IsOnlyAt test ids place
    → test x ≡ false → IsOnlyAt test (ids ++ x ∷ []) place
only_more test [] x place only other = absurd only
only_more test (id ∷ ids) x zero only other = (only.0, none_more test ids x only.1 other)
only_more test (id ∷ ids) x (suc place) only other = (only.0, only_more test ids x place only.1 other)

only_last : {I : Type 0} (test : I → Bool) (ids : List I) (x : I) → list_any test ids ≡ false → test x ≡ true
    → IsOnlyAt test (ids ++ x ∷ []) (length ids)
only_last test [] x none own = (own, refl)
only_last test (id ∷ ids) x none own =
    let parts = or_parts (test id) (list_any test ids) none in (parts.0, only_last test ids x parts.1 own)

own_more : {I : Type 0} (test : I → Bool) (ids : List I) (x : I) (o : Option ℕ) → IsOwnPlace test ids o
    → test x ≡ false → IsOwnPlace test (ids ++ x ∷ []) o
own_more test ids x None none other = none_more test ids x none other
own_more test ids x (Some place) only other = only_more test ids x place only other

pub place_more : (ids : List TestInstanceId) (x q : TestInstanceId) (place : ℕ) (o : Option ℕ)
    → IsOwnPlace (is_one_test x) ids None → place ≡ length ids → IsOwnPlace (is_one_test q) ids o
    → IsOwnPlace (is_one_test q) (ids ++ x ∷ []) (cond (is_at (id_order x) q) (Some place) o)
place_more ids x q place o new long own =
    ⊎_elim (λ is. by_own is) (λ apart. by_other apart) (cases_Bool (is_one_test x q))
  where
    by_own : is_one_test x q ≡ true
        → IsOwnPlace (is_one_test q) (ids ++ x ∷ []) (cond (is_at (id_order x) q) (Some place) o)
    by_own is =
        let same = same_id x q is in
        let none = subst (λ i. list_any (is_one_test i) ids ≡ false) same new in
        let itself = subst (λ i. is_one_test i x ≡ true) same (one_itself x) in
        let only = subst (IsOnlyAt (is_one_test q) (ids ++ x ∷ [])) (sym long)
        (only_last (is_one_test q) ids x none itself) in
        subst (λ b. IsOwnPlace (is_one_test q) (ids ++ x ∷ []) (cond b (Some place) o)) (sym (one_test x q ∙ is)) only

    by_other : is_one_test x q ≡ false
        → IsOwnPlace (is_one_test q) (ids ++ x ∷ []) (cond (is_at (id_order x) q) (Some place) o)
    by_other apart =
        subst (λ b. IsOwnPlace (is_one_test q) (ids ++ x ∷ []) (cond b (Some place) o)) (sym (one_test x q ∙ apart))
        (own_more (is_one_test q) ids x o own (other_way x q apart))

pub none_of : {X : Type 0} (o : Option X) → is_some o ≡ false → o ≡ None
none_of None is = refl
none_of (Some x) is = absurd (true≢false is)

-- one more of a list, by what is read of it
pub ids_more : {T : Type 0} (f : T → TestInstanceId) (tests : List T) (place : ℕ) (test : T)
    → place < length tests → test ≡ get_or tests place test
    → map f (take (place + 1) tests) ≡ map f (take place tests) ++ f test ∷ []
ids_more f tests place test within is =
    map_more f tests place test within ∙ ap (λ t. map f (take place tests) ++ f t ∷ []) (sym is)

pub ids_long : {T : Type 0} (f : T → TestInstanceId) (tests : List T) (place : ℕ) → place < length tests
    → place ≡ length (map f (take place tests))
ids_long f tests place within =
    sym (length-map (take place tests) f ∙ length-take-le place tests (omega arith))

-- what holds of all of two lists, of the second
all_after : (Q : TestInstanceId → Type 0) (xs ys : List TestInstanceId) → All Q (xs ++ ys) → All Q ys
all_after Q [] ys h = h
all_after Q (x ∷ xs) ys h = all_after Q xs ys (All-tail Q x (xs ++ ys) h)

-- an id that stands before itself
twice : (ids rest : List TestInstanceId) (x : TestInstanceId) (place : ℕ) → IsOnlyAt (is_one_test x) ids place
    → AreApart is_one_test (ids ++ x ∷ rest) → ⊥
twice [] rest x place only apart = only
twice (id ∷ ids) rest x zero only apart =
    let own = All-head (λ other. (is_one_test id other ≡ false) × (is_one_test other id ≡ false)) x rest
    (all_after (λ other. (is_one_test id other ≡ false) × (is_one_test other id ≡ false)) ids (x ∷ rest) apart.0) in
    true≢false (sym only.0 ∙ own.1)
twice (id ∷ ids) rest x (suc place) only apart = twice ids rest x place only.1 apart.1

own_twice : (ids rest : List TestInstanceId) (x : TestInstanceId) (o : Option ℕ) → is_some o ≡ true
    → IsOwnPlace (is_one_test x) ids o → AreApart is_one_test (ids ++ x ∷ rest) → ⊥
own_twice ids rest x None is own apart = true≢false (sym is)
own_twice ids rest x (Some place) is own apart = twice ids rest x place own apart

pub not_apart : {T : Type 0} (f : T → TestInstanceId) (tests : List T) (place : ℕ) (test : T)
    (ids : List TestInstanceId)
    (o : Option ℕ) → place < length tests → test ≡ get_or tests place test → ids ≡ map f (take place tests)
    → is_some o ≡ true → IsOwnPlace (is_one_test (f test)) ids o → AreApart is_one_test (map f tests) → ⊥
not_apart f tests place test ids o within is ids_are there own apart =
    let rest = drop (place + 1) tests in
    let whole : tests ≡ take place tests ++ test ∷ rest =
    sym (take-append-drop place tests)
    ∙ ap (λ l. take place tests ++ l) (drop_more tests place test within ∙ ap (λ t. t ∷ rest) (sym is)) in
    let split = ap (map f) whole ∙ map-append f (take place tests) (test ∷ rest)
    ∙ ap (λ l. l ++ f test ∷ map f rest) (sym ids_are) in
    own_twice ids (map f rest) (f test) o there own (subst (AreApart is_one_test) split apart)

-- ids of which no two are equal are apart
pub apart_of : (ids : List TestInstanceId) → IsDistinct is_one_test ids → AreApart is_one_test ids
apart_of [] h = tt
apart_of (id ∷ ids) h = (
  All-weaker (λ other. is_one_test id other ≡ false)
      (λ other. (is_one_test id other ≡ false) × (is_one_test other id ≡ false))
      (λ other apart. (apart, other_way id other apart)) ids
      (All-from_recursion (λ other. is_one_test id other ≡ false) ids (IsDistinct-head is_one_test id ids h)),
  apart_of ids (IsDistinct-tail is_one_test id ids h),
)
