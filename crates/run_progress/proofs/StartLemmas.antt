-- Running tests with the numbers of their starts, as entries of a map.
use Rattle.std.proofs.Common.{◌≡◌, ℕ, ◌+◌, ◌<◌, List, [], ◌∷◌, ◌++◌, Bool, true, false, not, Option, None, Some}
use Rattle.std.proofs.Common.{refl, sym, ap, subst, ◌∙◌, map, cond}
use Rattle.std.specs.Prelude.{if◌then◌else◌, IfSome, unwrap_or}
use Rattle.std.specs.BTreeMap.{insert_entry, is_at}
use Rattle.std.specs.Cmp.{first_so, nat_cmp_is, second_so}
use Rattle.std.specs.List.{AllByRecursion, IsDistinct}
use Rattle.std.specs.List.Sorted.{IsStrictlySortedBy}
use Rattle.std.specs.Map.{keys_of, values_of, lookup, remove_entry, set_value}
use Rattle.std.specs.Map.Calls.{RetainsPairs}
use Rattle.std.specs.Ordering.{eq_by_cmp, is_eq, match_ordering, nat_cmp}
use Rattle.std.specs.declared.cmp.Ordering.{Ordering}
use Rattle.std.specs.declared.cmp.Ordering.TheVariants.{Less, Equal, Greater}
use Rattle.std.proofs.lemmas.Cmp.{eq_by_cmp_equiv, nat_cmp_total}
use Rattle.std.proofs.lemmas.Map.{NonePasses}
use Rattle.std.proofs.lemmas.Map.Entries.{none_past_head}
use Rattle.std.proofs.lemmas.Map.Keys.{IsDistinct-from_sorted, IsDistinct-tail}
use Rattle.std.proofs.lemmas.Slice.Eq.{bytes_eq-Decides}
use Rattle.run_events.specs.declared.plan.TestInstanceId.{TestInstanceId}
use Rattle.run_progress.specs.declared.running_test.RunningTest.{RunningTest}
use Rattle.run_progress.specs.declared.running_test.RunningTestStatus.TheVariants as statuses
use Rattle.run_progress.specs.Deeds.{is_same}
use Rattle.run_progress.specs.Edits.{paused_more, slowed, without}
use Rattle.run_progress.specs.Starts.{paused_each, without_start}

-- tests with their numbers
abbrev pub Numbered : Type 0
Numbered = List (ℕ × RunningTest)

-- ---- ids

abbrev pub id_with : List ℕ → List ℕ → TestInstanceId
id_with binary name = record { binary = binary; name = name }

pub same_is : (a b : TestInstanceId) → is_same a b ≡ true → a ≡ b
same_is a b e =
    ap (λ binary. id_with binary a.name) ((bytes_eq-Decides a.binary b.binary).0 (first_so _ _ e))
    ∙ ap (id_with b.binary) ((bytes_eq-Decides a.name b.name).0 (second_so _ _ e))

pub same_itself : (a : TestInstanceId) → is_same a a ≡ true
same_itself a =
    let binary = (bytes_eq-Decides a.binary a.binary).1 refl in
    let name = (bytes_eq-Decides a.name a.name).1 refl in
    rw (binary, name) refl

-- ---- a fact of each entry

abbrev pub AllOf : (ℕ × RunningTest → Type 0) → Numbered → Type 0
AllOf P tests = AllByRecursion P tests

pub all_weaker : (P Q : ℕ × RunningTest → Type 0) → ((e : ℕ × RunningTest) → P e → Q e)
    → (tests : Numbered) → AllOf P tests → AllOf Q tests
all_weaker P Q gives [] all = tt
all_weaker P Q gives (e ∷ tests) all = (gives e all.0, all_weaker P Q gives tests all.1)

pub all_both : (P Q R : ℕ × RunningTest → Type 0) → ((e : ℕ × RunningTest) → P e → Q e → R e)
    → (tests : Numbered) → AllOf P tests → AllOf Q tests → AllOf R tests
all_both P Q R gives [] first second = tt
all_both P Q R gives (e ∷ tests) first second =
    (gives e first.0 second.0, all_both P Q R gives tests first.1 second.1)

pub all_push : (P : ℕ × RunningTest → Type 0) (tests : Numbered) (e : ℕ × RunningTest) → AllOf P tests → P e
    → AllOf P (tests ++ e ∷ [])
all_push P [] e all last = (last, tt)
all_push P (first ∷ tests) e all last = (all.0, all_push P tests e all.1 last)

-- ---- the entry with a number

-- no entry after one that passes passes
abbrev pub OncePasses : (ℕ → Bool) → Numbered → Type 0
OncePasses test [] = Unit {0}
OncePasses test (e ∷ tests) = (test e.0 ≡ true → NonePasses test tests) × OncePasses test tests

pub once_from_distinct : (number : ℕ) (tests : Numbered) → IsDistinct (eq_by_cmp nat_cmp) (keys_of tests)
    → OncePasses (is_at (nat_cmp number)) tests
once_from_distinct number [] distinct = tt
once_from_distinct number (e ∷ tests) distinct = (
  none_past_head (eq_by_cmp_equiv nat_cmp_total) number e tests distinct,
  once_from_distinct number tests (IsDistinct-tail (eq_by_cmp nat_cmp) e.0 (keys_of tests) distinct),
)

pub once : (number : ℕ) (tests : Numbered) → IsStrictlySortedBy nat_cmp (keys_of tests)
    → OncePasses (is_at (nat_cmp number)) tests
once number tests ordered =
    once_from_distinct number tests (IsDistinct-from_sorted nat_cmp (keys_of tests) ordered)

-- all that remain don't pass
pub removed_none : (test : ℕ → Bool) (tests : Numbered) → OncePasses test tests
    → AllOf (λ e. test e.0 ≡ false) (remove_entry test tests)
removed_none test [] single = tt
removed_none test (e ∷ tests) single = by_test (removed_none test tests single.1) (test e.0) refl
  where
    by_test : AllOf (λ e. test e.0 ≡ false) (remove_entry test tests) → (b : Bool) → test e.0 ≡ b
        → AllOf (λ e. test e.0 ≡ false) (cond b tests (e ∷ remove_entry test tests))
    by_test rest true is = single.0 is
    by_test rest false is = (is, rest)

pub all_removed : (P : ℕ × RunningTest → Type 0) (test : ℕ → Bool) (tests : Numbered) → AllOf P tests
    → AllOf P (remove_entry test tests)
all_removed P test [] all = tt
all_removed P test (e ∷ tests) all = by_test (all_removed P test tests all.1) (test e.0)
  where
    by_test : AllOf P (remove_entry test tests) → (b : Bool) → AllOf P (cond b tests (e ∷ remove_entry test tests))
    by_test rest true = all.1
    by_test rest false = (all.0, rest)

-- without a test that none is
pub without_none : (id : TestInstanceId) (tests : Numbered) → AllOf (λ e. is_same e.1.test id ≡ false) tests
    → without id (values_of tests) ≡ values_of tests
without_none id [] none = refl
without_none id (e ∷ tests) none = rw (none.0, without_none id tests none.1) refl

-- the tests without the entry at a number are those without the test there
pub without_removed : (id : TestInstanceId) (test : ℕ → Bool) (tests : Numbered) → OncePasses test tests
    → AllOf (λ e. is_same e.1.test id ≡ test e.0) tests
    → values_of (remove_entry test tests) ≡ without id (values_of tests)
without_removed id test [] single are = refl
without_removed id test (e ∷ tests) single are =
    rw are.0 (by_test (without_removed id test tests single.1 are.1) (test e.0) refl)
  where
    by_test : values_of (remove_entry test tests) ≡ without id (values_of tests) → (b : Bool) → test e.0 ≡ b
        → values_of (cond b tests (e ∷ remove_entry test tests))
        ≡ cond (not b) (e.1 ∷ without id (values_of tests)) (without id (values_of tests))
    by_test rest true is = sym (without_none id tests (all_both (λ e. is_same e.1.test id ≡ test e.0)
        (λ e. test e.0 ≡ false) (λ e. is_same e.1.test id ≡ false) (λ e same none. same ∙ none) tests are.1
        (single.0 is)))
    by_test rest false is = ap (λ (l : List RunningTest). e.1 ∷ l) rest

-- the last entry stays where another is removed
pub remove_push : (test : ℕ → Bool) (tests : Numbered) (e : ℕ × RunningTest) → test e.0 ≡ false
    → remove_entry test (tests ++ e ∷ []) ≡ remove_entry test tests ++ e ∷ []
remove_push test [] e not_it = rw not_it refl
remove_push test (first ∷ tests) e not_it = by_test (remove_push test tests e not_it) (test first.0)
  where
    by_test : remove_entry test (tests ++ e ∷ []) ≡ remove_entry test tests ++ e ∷ [] → (b : Bool)
        → cond b (tests ++ e ∷ []) (first ∷ remove_entry test (tests ++ e ∷ []))
        ≡ cond b tests (first ∷ remove_entry test tests) ++ e ∷ []
    by_test rest true = refl
    by_test rest false = ap (λ (l : Numbered). first ∷ l) rest

-- nothing else is removed where the last one is
pub remove_last : (test : ℕ → Bool) (tests : Numbered) (e : ℕ × RunningTest) → AllOf (λ e. test e.0 ≡ false) tests
    → test e.0 ≡ true → remove_entry test (tests ++ e ∷ []) ≡ tests
remove_last test [] e none it = rw it refl
remove_last test (first ∷ tests) e none it =
    rw none.0 (ap (λ rest. first ∷ rest) (remove_last test tests e none.1 it))

-- ---- numbers

pub above : (number other : ℕ) → other < number → nat_cmp number other ≡ Greater
above number other less = sym (nat_cmp_is number other Greater less)

pub not_above : (number other : ℕ) → other < number → is_at (nat_cmp number) other ≡ false
not_above number other less = ap is_eq (above number other less)

pub not_below : (number other : ℕ) → number < other → is_at (nat_cmp number) other ≡ false
not_below number other less = ap is_eq (sym (nat_cmp_is number other Less less))

pub at_itself : (number : ℕ) → is_at (nat_cmp number) number ≡ true
at_itself number = ap is_eq (sym (nat_cmp_is number number Equal refl))

-- a start that comes after all stands at the end
pub insert_last : (tests : Numbered) (number : ℕ) (running : RunningTest) → AllOf (λ e. e.0 < number) tests
    → insert_entry nat_cmp tests number running ≡ tests ++ (number, running) ∷ []
insert_last [] number running before = refl
insert_last (e ∷ tests) number running before =
    subst (λ (o : Ordering). match_ordering o ((number, running) ∷ e ∷ tests) ((e.0, running) ∷ tests)
    (e ∷ insert_entry nat_cmp tests number running) ≡ e ∷ (tests ++ (number, running) ∷ []))
    (sym (above number e.0 before.0)) (ap (λ rest. e ∷ rest) (insert_last tests number running before.1))

pub values_push : (tests : Numbered) (number : ℕ) (running : RunningTest)
    → values_of (tests ++ (number, running) ∷ []) ≡ values_of tests ++ running ∷ []
values_push [] number running = refl
values_push (e ∷ tests) number running = ap (λ rest. e.1 ∷ rest) (values_push tests number running)

-- ---- without a start

pub left_all : (P : ℕ × RunningTest → Type 0) (start : Option ℕ) (tests : Numbered) → AllOf P tests
    → AllOf P (without_start start tests)
left_all P None tests all = all
left_all P (Some number) tests all = all_removed P (is_at (nat_cmp number)) tests all

-- the last entry stays where an earlier start leaves
pub left_push : (start : Option ℕ) (next : ℕ) (tests : Numbered) (running : RunningTest) → IfSome start (λ n. n < next)
    → without_start start (tests ++ (next, running) ∷ []) ≡ without_start start tests ++ (next, running) ∷ []
left_push None next tests running before = refl
left_push (Some number) next tests running before =
    remove_push (is_at (nat_cmp number)) tests (next, running) (not_below number next before)

-- ---- a test is slow

abbrev pub slow : RunningTest → RunningTest
slow running = record running { status = statuses.Slow }

pub slowed_none : (id : TestInstanceId) (tests : Numbered) → AllOf (λ e. is_same e.1.test id ≡ false) tests
    → map (slowed id) (values_of tests) ≡ values_of tests
slowed_none id [] none = refl
slowed_none id (e ∷ tests) none = rw (none.0, slowed_none id tests none.1) refl

pub slowed_one : (id : TestInstanceId) (test : ℕ → Bool) (tests : Numbered) (running : RunningTest)
    → OncePasses test tests → AllOf (λ e. is_same e.1.test id ≡ test e.0) tests → lookup test tests ≡ Some running
    → values_of (set_value test tests (slow running)) ≡ map (slowed id) (values_of tests)
slowed_one id test [] running single are there = refl
slowed_one id test (e ∷ tests) running single are there =
    rw are.0 (by_test (slowed_one id test tests running single.1 are.1) (test e.0) refl there)
  where
    by_test : (lookup test tests ≡ Some running
        → values_of (set_value test tests (slow running)) ≡ map (slowed id) (values_of tests))
        → (b : Bool) → test e.0 ≡ b → cond b (Some e.1) (lookup test tests) ≡ Some running
        → values_of (cond b ((e.0, slow running) ∷ tests) (e ∷ set_value test tests (slow running)))
        ≡ (if b then slow e.1 else e.1) ∷ map (slowed id) (values_of tests)
    by_test rest true is there =
        let it : e.1 ≡ running = ap (λ (o : Option RunningTest). unwrap_or o e.1) there in
        subst (λ (other : RunningTest). slow other ∷ values_of tests ≡ slow e.1 ∷ map (slowed id) (values_of tests)) it
        (ap (λ rest. slow e.1 ∷ rest) (sym (slowed_none id tests (all_both (λ e. is_same e.1.test id ≡ test e.0)
        (λ e. test e.0 ≡ false) (λ e. is_same e.1.test id ≡ false) (λ e same none. same ∙ none) tests are.1
        (single.0 is)))))
    by_test rest false is there = ap (λ (l : List RunningTest). e.1 ∷ l) (rest there)

pub all_set : (P : ℕ × RunningTest → Type 0) (test : ℕ → Bool) (tests : Numbered) (old new : RunningTest)
    → AllOf P tests → lookup test tests ≡ Some old → ((number : ℕ) → P (number, old) → P (number, new))
    → AllOf P (set_value test tests new)
all_set P test [] old new all there gives = tt
all_set P test (e ∷ tests) old new all there gives =
    by_test (λ is. all_set P test tests old new all.1 is gives) (test e.0) there
  where
    by_test : (lookup test tests ≡ Some old → AllOf P (set_value test tests new)) → (b : Bool)
        → cond b (Some e.1) (lookup test tests) ≡ Some old
        → AllOf P (cond b ((e.0, new) ∷ tests) (e ∷ set_value test tests new))
    by_test rest true there =
        let it : e.1 ≡ old = ap (λ (o : Option RunningTest). unwrap_or o e.1) there in
        (gives e.0 (subst (λ (running : RunningTest). P (e.0, running)) it all.0), all.1)
    by_test rest false there = (all.0, rest there)

-- ---- a pause ends

pub paused_each_values : (pause : ℕ) (tests : Numbered)
    → values_of (paused_each pause tests) ≡ map (paused_more pause) (values_of tests)
paused_each_values pause [] = refl
paused_each_values pause (e ∷ tests) = ap (λ rest. paused_more pause e.1 ∷ rest) (paused_each_values pause tests)

pub paused_each_keys : (pause : ℕ) (tests : Numbered) → keys_of (paused_each pause tests) ≡ keys_of tests
paused_each_keys pause [] = refl
paused_each_keys pause (e ∷ tests) = ap (λ rest. e.0 ∷ rest) (paused_each_keys pause tests)

pub all_paused_each : (P : ℕ × RunningTest → Type 0) (pause : ℕ) (tests : Numbered)
    → ((e : ℕ × RunningTest) → P e → P (e.0, paused_more pause e.1)) → AllOf P tests → AllOf P (paused_each pause tests)
all_paused_each P pause [] gives all = tt
all_paused_each P pause (e ∷ tests) gives all = (gives e all.0, all_paused_each P pause tests gives all.1)

-- what calls that keep each entry, with its pauses, leave
pub paused_each_from_retain : {F : Type 0} (T : F → ℕ → RunningTest → Bool → RunningTest → F → Type 0)
    (f : F) (pause : ℕ)
    → ((k : ℕ) (v : RunningTest) (b : Bool) (w : RunningTest) (f' : F) → T f k v b w f'
    → (b ≡ true) × (w ≡ paused_more pause v) × (f' ≡ f))
    → (tests kept : Numbered) → RetainsPairs T f tests kept → kept ≡ paused_each pause tests
paused_each_from_retain T f pause told [] kept is = is
paused_each_from_retain T f pause told (e ∷ tests) kept is =
    let t = told e.0 e.1 is.0 is.1 is.2 is.4 in
    is.6 ∙ ap (λ b. cond b ((e.0, is.1) ∷ is.3) is.3) t.0
    ∙ ap (λ (w : RunningTest). (e.0, w) ∷ is.3) t.1
    ∙ ap (λ (rest : Numbered). (e.0, paused_more pause e.1) ∷ rest)
    (paused_each_from_retain T f pause told tests is.3 (subst (λ g. RetainsPairs T g tests is.3) t.2 is.5))
