-- What columns say of the tests of a list, and rows of them.
use Rattle.std.proofs.Common.{◌≡◌, ℕ, zero, suc, ◌+◌, ◌<◌, Bool, false, List, [], ◌∷◌, ◌++◌, length, take, map, get_or}
use Rattle.std.proofs.Common.{Option, Some, arith, add-one, refl, sym, subst, slice_get}
use Rattle.std.specs.List.{AllZip}
use Rattle.run_filter.specs.declared.facts.Facts.{Facts}
use Rattle.run_profile.specs.declared.scripts.ScriptRule.{ScriptRule}
use Rattle.run_profile.specs.declared.settings.Override.{Override}
use Rattle.run_profile.specs.declared.settings.Profile.{Profile}
use Rattle.run_plan.specs.Asks.{FilterSays, IsAsked, IsProfileFault, IsSeen, SaysOf, default_filter, no_group}
use Rattle.run_plan.specs.Columns.{AreProfileSays, AreSeen, AreWordsSays, AtEach, IsColumn, asked_at, cell, given_group}
use Rattle.run_plan.specs.Columns.{row_of, said_group}
use Rattle.run_plan.specs.Listed.{Listed}
use Rattle.run_plan.specs.declared.asked.Asked.{Asked}
use Rattle.run_plan.specs.declared.choices.Picks.{Picks}
use Rattle.run_plan.specs.declared.columns.ProfileSays.{ProfileSays}
use Rattle.run_plan.specs.declared.filters.AskError.{AskError}
use Rattle.run_plan.specs.declared.filters.AskError.TheVariants as errors

-- a place more
next_place : {R A B : Type 0} (g : R → A) (Q : ℕ → A → B → Type 0) (xs : List R) (ys : List B) (i : ℕ) (x : R) (y : B)
    → i < length xs → x ≡ get_or xs i x → Q i (g x) y → AtEach Q (map g (take i xs)) ys
    → AtEach Q (map g (take (suc i) xs)) (ys ++ y ∷ [])
next_place g Q [] ys i x y within is one h = absurd (omega (arith, within))
next_place g Q (z ∷ xs) [] zero x y within is one h = (subst (λ w. Q 0 (g w) y) is one, tt)
next_place g Q (z ∷ xs) (w ∷ ys) zero x y within is one h = absurd h
next_place g Q (z ∷ xs) [] (suc i) x y within is one h = absurd h
next_place g Q (z ∷ xs) (w ∷ ys) (suc i) x y within is one h =
    (h.0, next_place g (λ n. Q (suc n)) xs ys i x y (omega (arith, within)) is one h.1)

pub place_more : {R A B : Type 0} (g : R → A) (Q : ℕ → A → B → Type 0) (xs : List R) (ys new : List B) (i : ℕ) (x : R)
    (y : B) → i < length xs → x ≡ get_or xs i x → new ≡ ys ++ y ∷ [] → Q i (g x) y
    → AtEach Q (map g (take i xs)) ys → AtEach Q (map g (take (i + 1) xs)) new
place_more g Q xs ys new i x y within is made one h =
    subst (λ l. AtEach Q (map g (take (i + 1) xs)) l) (sym made)
    (rw add-one (next_place g Q xs ys i x y within is one h))

-- the same of what depends on the place alone
next_alone : {R B : Type 0} (Q : ℕ → B → Type 0) (xs : List R) (ys : List B) (i : ℕ) (y : B) → i < length xs → Q i y
    → AtEach (λ n x b. Q n b) (take i xs) ys → AtEach (λ n x b. Q n b) (take (suc i) xs) (ys ++ y ∷ [])
next_alone Q [] ys i y within one h = absurd (omega (arith, within))
next_alone Q (z ∷ xs) [] zero y within one h = (one, tt)
next_alone Q (z ∷ xs) (w ∷ ys) zero y within one h = absurd h
next_alone Q (z ∷ xs) [] (suc i) y within one h = absurd h
next_alone Q (z ∷ xs) (w ∷ ys) (suc i) y within one h =
    (h.0, next_alone (λ n. Q (suc n)) xs ys i y (omega (arith, within)) one h.1)

pub alone_more : {R B : Type 0} (Q : ℕ → B → Type 0) (xs : List R) (ys new : List B) (i : ℕ) (y : B)
    → i < length xs → new ≡ ys ++ y ∷ [] → Q i y → AtEach (λ n x b. Q n b) (take i xs) ys
    → AtEach (λ n x b. Q n b) (take (i + 1) xs) new
alone_more Q xs ys new i y within made one h =
    subst (λ l. AtEach (λ n x b. Q n b) (take (i + 1) xs) l) (sym made)
    (rw add-one (next_alone Q xs ys i y within one h))

-- what a function gives stands so, place by place
pub zip_of_map : {A B : Type 0} (h : A → B) (xs : List A) → AllZip (λ x y. y ≡ h x) xs (map h xs)
zip_of_map h [] = tt
zip_of_map h (x ∷ xs) = (refl, zip_of_map h xs)

-- what a filter says of tests as they are seen is its column
pub column_of_seen : (list : List Listed) (group : ℕ → List ℕ) (in_default : ℕ → Bool) (filter : Option (List ℕ))
    (tests : List Facts) (column : List Bool)
    → AtEach (λ i (l : Listed). IsSeen l.1 l.2 (group i) (in_default i)) list tests
    → AllZip (FilterSays filter) tests column → IsColumn list group in_default filter column
column_of_seen [] group in_default filter [] [] seen says = tt
column_of_seen [] group in_default filter [] (b ∷ bs) seen says = absurd says
column_of_seen [] group in_default filter (f ∷ fs) column seen says = absurd seen
column_of_seen (l ∷ ls) group in_default filter [] column seen says = absurd seen
column_of_seen (l ∷ ls) group in_default filter (f ∷ fs) [] seen says = absurd says
column_of_seen (l ∷ ls) group in_default filter (f ∷ fs) (b ∷ bs) seen says = (
  (f, seen.0, says.0),
  column_of_seen ls (λ i. group (suc i)) (λ i. in_default (suc i)) filter fs bs seen.1 says.1,
)

-- columns of several filters
pub columns_of_seen : {F : Type 0} (of : F → Option (List ℕ)) (filters : List F) (columns : List (List Bool))
    (list : List Listed) (group : ℕ → List ℕ) (in_default : ℕ → Bool) (tests : List Facts)
    → AtEach (λ i (l : Listed). IsSeen l.1 l.2 (group i) (in_default i)) list tests
    → AllZip (λ f. AllZip (FilterSays (of f)) tests) filters columns
    → AllZip (λ f. IsColumn list group in_default (of f)) filters columns
columns_of_seen of [] [] list group in_default tests seen says = tt
columns_of_seen of [] (c ∷ cs) list group in_default tests seen says = absurd says
columns_of_seen of (f ∷ fs) [] list group in_default tests seen says = absurd says
columns_of_seen of (f ∷ fs) (c ∷ cs) list group in_default tests seen says = (
  column_of_seen list group in_default (of f) tests c seen says.0,
  columns_of_seen of fs cs list group in_default tests seen says.1,
)

-- a column's cell is what the filter says of the test at its place
cell_says : (list : List Listed) (group : ℕ → List ℕ) (in_default : ℕ → Bool) (filter : Option (List ℕ))
    (column : List Bool) (i : ℕ) (l : Listed) → slice_get list i ≡ Some l
    → IsColumn list group in_default filter column → SaysOf l (group i) (in_default i) filter (cell i column)
cell_says [] group in_default filter column i l is h = cc
cell_says (x ∷ xs) group in_default filter [] i l is h = absurd h
cell_says (x ∷ xs) group in_default filter (b ∷ bs) zero l is h =
    let same : x ≡ l = cc in
    subst (λ y. SaysOf y (group 0) (in_default 0) filter b) same h.0
cell_says (x ∷ xs) group in_default filter (b ∷ bs) (suc i) l is h =
    cell_says xs (λ n. group (suc n)) (λ n. in_default (suc n)) filter bs i l is h.1

-- a row has what each filter says of the test at its place
row_says : {F : Type 0} (of : F → Option (List ℕ)) (filters : List F) (columns : List (List Bool))
    (list : List Listed) (group : ℕ → List ℕ) (in_default : ℕ → Bool) (i : ℕ) (l : Listed) → slice_get list i ≡ Some l
    → AllZip (λ f. IsColumn list group in_default (of f)) filters columns
    → AllZip (λ f. SaysOf l (group i) (in_default i) (of f)) filters (row_of columns i)
row_says of [] [] list group in_default i l is h = tt
row_says of [] (c ∷ cs) list group in_default i l is h = absurd h
row_says of (f ∷ fs) [] list group in_default i l is h = absurd h
row_says of (f ∷ fs) (c ∷ cs) list group in_default i l is h =
    (cell_says list group in_default (of f) c i l is h.0, row_says of fs cs list group in_default i l is h.1)

-- the test at a place is asked so
asked_is : (p : Profile) (picks : Picks) (list : List Listed) (says : ProfileSays) (words : List (List Bool)) (i : ℕ)
    (l : Listed) → slice_get list i ≡ Some l → AreProfileSays p list says
    → AreWordsSays p list says picks.filters words → IsAsked p picks l (asked_at picks.filters says words i)
asked_is p picks list says words i l is profile spoken = record {
  in_default = cell_says list (λ n. no_group) (λ n. false) _ says.in_default i l is profile.in_default;
  overrides = row_says (λ (o : Override). o.filter) p.overrides says.overrides list (λ n. no_group)
      (λ n. cell n says.in_default) i l is profile.overrides;
  rules = row_says (λ (r : ScriptRule). r.filter) p.rules says.rules list (λ n. no_group)
      (λ n. cell n says.in_default) i l is profile.rules;
  is_picked = (
    row_of words i,
    row_says Some picks.filters words list (said_group p says)
        (λ n. cell n says.in_default) i l is spoken,
    refl,
  );
}

each_so : {R A B : Type 0} (g : R → A) (P : A → B → Type 0) (f : ℕ → B) (xs : List R) (ys : List B)
    → AtEach (λ i x y. y ≡ f i) xs ys → ((i : ℕ) (a : A) → slice_get (map g xs) i ≡ Some a → P a (f i))
    → AllZip P (map g xs) ys
each_so g P f [] [] made so = tt
each_so g P f [] (y ∷ ys) made so = absurd made
each_so g P f (x ∷ xs) [] made so = absurd made
each_so g P f (x ∷ xs) (y ∷ ys) made so = (
  subst (P (g x)) (sym made.0) (so 0 (g x) refl),
  each_so g P (λ i. f (suc i)) xs ys made.1 (λ i a is. so (suc i) a is),
)

-- each test is asked so
pub each_asked : {R : Type 0} (g : R → Listed) (p : Profile) (filters : List (List ℕ)) (rows : List R)
    (says : ProfileSays) (words : List (List Bool)) (asked : List Asked)
    → AreWordsSays p (map g rows) says filters words
    → AtEach (λ i row a. a ≡ asked_at filters says words i) rows asked
    → (picks : Picks) → picks.filters ≡ filters → AreProfileSays p (map g rows) says
    → AllZip (IsAsked p picks) (map g rows) asked
each_asked g p filters rows says words asked spoken made picks same profile =
    let own : AreWordsSays p (map g rows) says picks.filters words
    = subst (λ own. AreWordsSays p (map g rows) says own words) (sym same) spoken in
    each_so g (IsAsked p picks) (asked_at picks.filters says words) rows asked
    (subst (λ own. AtEach (λ i row a. a ≡ asked_at own says words i) rows asked) (sym same) made)
    (λ i l is. asked_is p picks (map g rows) says words i l is profile own)

-- what the filters of a profile say of tests as they are seen is what they say of each
pub says_are : (p : Profile) (list : List Listed) (in_default : List Bool) (tests : List Facts) (says : ProfileSays)
    → AreSeen list [] in_default tests → says.in_default ≡ in_default
    → AllZip (λ (o : Override). AllZip (FilterSays o.filter) tests) p.overrides says.overrides
    → AllZip (λ (r : ScriptRule). AllZip (FilterSays r.filter) tests) p.rules says.rules
    → IsColumn list (λ i. no_group) (λ i. false) (default_filter p) in_default → AreProfileSays p list says
says_are p list in_default tests says seen same overrides rules asked =
    let own : AtEach (λ i (l : Listed). IsSeen l.1 l.2 no_group (cell i says.in_default)) list tests
    = subst (λ held. AtEach (λ i (l : Listed). IsSeen l.1 l.2 no_group (cell i held)) list tests) (sym same) seen in
    record {
      in_default = subst (IsColumn list (λ i. no_group) (λ i. false) (default_filter p)) (sym same) asked;
      overrides = columns_of_seen (λ (o : Override). o.filter) p.overrides says.overrides list (λ i. no_group)
          (λ i. cell i says.in_default) tests own overrides;
      rules = columns_of_seen (λ (r : ScriptRule). r.filter) p.rules says.rules list (λ i. no_group)
          (λ i. cell i says.in_default) tests own rules;
    }

-- tests that are seen in groups that were found are seen in those
pub seen_in_groups : {R : Type 0} (g : R → Listed) (group : ℕ → List ℕ) (in_default : ℕ → Bool) (rows : List R)
    (groups : List (List ℕ)) (tests : List Facts) → AtEach (λ i row found. found ≡ group i) rows groups
    → AtEach (λ i (l : Listed). IsSeen l.1 l.2 (given_group groups i) (in_default i)) (map g rows) tests
    → AtEach (λ i (l : Listed). IsSeen l.1 l.2 (group i) (in_default i)) (map g rows) tests
seen_in_groups g group in_default [] groups tests found seen = seen
seen_in_groups g group in_default (r ∷ rs) [] tests found seen = absurd found
seen_in_groups g group in_default (r ∷ rs) (n ∷ ns) [] found seen = absurd seen
seen_in_groups g group in_default (r ∷ rs) (n ∷ ns) (t ∷ ts) found seen = (
  subst (λ its. IsSeen (g r).1 (g r).2 its (in_default 0) t) found.0 seen.0,
  seen_in_groups g (λ i. group (suc i)) (λ i. in_default (suc i)) rs ns ts found.1 seen.1,
)

-- a fault of filters that stand so is one of filters that stand there
pub fault_so : (P Q : List ℕ → List ℕ → Type 0) → ((path text : List ℕ) → P path text → Q path text) → (e : AskError)
    → IsProfileFault P e → IsProfileFault Q e
fault_so P Q so (errors.OfProfile path place fault) h = (h.0, so path h.0 h.1, h.2)
fault_so P Q so (errors.OfWords number place fault) h = h
fault_so P Q so errors.AsksItself h = h
fault_so P Q so errors.OutOfMemory h = h
