-- Finishes that go into suites, and counts of them.
use Rattle.std.proofs.Common.{◌≡◌, ℕ, zero, suc, ◌+◌, ◌<◌, Bool, true, false, not, ◌&&◌, ◌||◌, if◌then◌else◌, cond}
use Rattle.std.proofs.Common.{List, [], ◌∷◌, ◌++◌, length, drop, get_or, map, Option, Some, None, refl, sym, ap, ◌∙◌}
use Rattle.std.proofs.Common.{arith, length-append}
use Rattle.std.proofs.Math.ListN.{set}
use Rattle.std.proofs.lemmas.List.{map-append}
use Rattle.std.proofs.lemmas.List.Sums.{sum_by_push}
use Rattle.std.specs.List.{count_by, list_any}
use Rattle.run_junit.specs.declared.reason.Fault.{Fault}
use Rattle.run_junit.specs.declared.reason.Fault.TheVariants as faults
use Rattle.run_junit.specs.declared.suites.Counts.{Counts}
use Rattle.run_junit.specs.declared.suites.Kept.{Kept}
use Rattle.run_junit.specs.Heard.{IsBehindLast, case_bytes, counts_with, kept_empty, kept_suite, kept_with, put_kept}
use Rattle.run_junit.specs.Suites.{Finish, Suite, counts_of, fault_counted, counts_as_error, counts_as_failure}
use Rattle.run_junit.specs.Suites.{put_last, put_each, put_finish}
use Rattle.run_junit.specs.Suites.{suite_of, suites_of}

-- one finish more
pub put_all_more : (suites : List Suite) (xs : List Finish) (x : Finish)
    → put_each suites (xs ++ x ∷ []) ≡ put_finish x (put_each suites xs)
put_all_more suites [] x = refl
put_all_more suites (y ∷ ys) x = put_all_more (put_finish y suites) ys x

-- whether something fits, by what is kept of it
any_map : {S T : Type 0} (f : S → T) (fits : S → Bool) (other : T → Bool) (ss : List S)
    → ((s : S) → other (f s) ≡ fits s) → list_any other (map f ss) ≡ list_any fits ss
any_map f fits other [] same = refl
any_map f fits other (s ∷ ss) same =
    ap (λ b. b || list_any other (map f ss)) (same s) ∙ ap (λ b. fits s || b) (any_map f fits other ss same)

put_either : {S T : Type 0} (f : S → T) (b : Bool) (s g : S) (h : T) (ss put_there : List S) (put_here : List T)
    → h ≡ f g → put_here ≡ map f put_there
    → (if b then h ∷ map f ss else f s ∷ put_here) ≡ map f (if b then g ∷ ss else s ∷ put_there)
put_either f true s g h ss put_there put_here same rest = ap (λ t. t ∷ map f ss) same
put_either f false s g h ss put_there put_here same rest = ap (λ ts. f s ∷ ts) rest

-- something that goes into the last one that it fits into, by what is kept of all
pub put_map : {S T : Type 0} (f : S → T) (fits : S → Bool) (other : T → Bool) (grown : S → S) (grows : T → T) (new : S)
    (made : T) (ss : List S) → ((s : S) → other (f s) ≡ fits s) → ((s : S) → grows (f s) ≡ f (grown s)) → made ≡ f new
    → put_last other grows made (map f ss) ≡ map f (put_last fits grown new ss)
put_map f fits other grown grows new made [] same more first = ap (λ t. t ∷ []) first
put_map f fits other grown grows new made (s ∷ ss) same more first =
    ap (λ (b : Bool). if b then grows (f s) ∷ map f ss else f s ∷ put_last other grows made (map f ss))
    (ap (λ b. b && not (list_any other (map f ss))) (same s)
    ∙ ap (λ b. fits s && not b) (any_map f fits other ss same))
    ∙ put_either f (fits s && not (list_any fits ss)) s (grown s) (grows (f s)) ss (put_last fits grown new ss)
    (put_last other grows made (map f ss)) (more s) (put_map f fits other grown grows new made ss same more first)

-- a test that is off, of two of which neither holds
pub first_off : (a b : Bool) → (a || b) ≡ false → a ≡ false
first_off true b e = cc
first_off false b e = refl

pub second_off : (a b : Bool) → (a || b) ≡ false → b ≡ false
second_off true b e = cc
second_off false b e = e

-- where nothing fits it goes behind all
pub put_behind : {S : Type 0} (fits : S → Bool) (grown : S → S) (new : S) (ss : List S) → list_any fits ss ≡ false
    → ss ++ new ∷ [] ≡ put_last fits grown new ss
put_behind fits grown new [] none = refl
put_behind fits grown new (s ∷ ss) none =
    ap (λ ts. s ∷ ts) (put_behind fits grown new ss (second_off (fits s) (list_any fits ss) none))
    ∙ ap (λ (b : Bool). if b && not (list_any fits ss) then grown s ∷ ss else s ∷ put_last fits grown new ss)
    (sym (first_off (fits s) (list_any fits ss) none))

both_off : (a b : Bool) → a ≡ false → b ≡ false → (a || b) ≡ false
both_off true b e f = cc
both_off false b e f = f

any_here : (a b : Bool) → a ≡ true → (a || b) ≡ true
any_here true b e = refl
any_here false b e = cc

any_later : (a b : Bool) → b ≡ true → (a || b) ≡ true
any_later true b e = refl
any_later false b e = e

any_at : {S : Type 0} (fits : S → Bool) (ss : List S) (n : ℕ) (d : S) → n < length ss → fits (get_or ss n d) ≡ true
    → list_any fits ss ≡ true
any_at fits [] n d below fit = absurd (omega arith)
any_at fits (s ∷ ss) zero d below fit = any_here (fits s) (list_any fits ss) fit
any_at fits (s ∷ ss) (suc n) d below fit =
    any_later (fits s) (list_any fits ss) (any_at fits ss n d (omega arith) fit)

last_fits : (a b : Bool) → a ≡ true → b ≡ false → (a && not b) ≡ true
last_fits true true e f = cc
last_fits true false e f = refl
last_fits false b e f = cc

later_fits : (a b : Bool) → b ≡ true → (a && not b) ≡ false
later_fits true true f = refl
later_fits true false f = cc
later_fits false b f = refl

-- where something fits it goes into the last
pub put_into : {S : Type 0} (fits : S → Bool) (grown : S → S) (new : S) (ss : List S) (n : ℕ) (d : S) → n < length ss
    → fits (get_or ss n d) ≡ true → list_any fits (drop (suc n) ss) ≡ false
    → set ss n (grown (get_or ss n d)) ≡ put_last fits grown new ss
put_into fits grown new [] n d below fit none = absurd (omega arith)
put_into fits grown new (s ∷ ss) zero d below fit none =
    ap (λ (b : Bool). if b then grown s ∷ ss else s ∷ put_last fits grown new ss)
    (sym (last_fits (fits s) (list_any fits ss) fit none))
put_into fits grown new (s ∷ ss) (suc n) d below fit none =
    ap (λ ts. s ∷ ts) (put_into fits grown new ss n d (omega arith) fit none)
    ∙ ap (λ (b : Bool). if b then grown s ∷ ss else s ∷ put_last fits grown new ss)
    (sym (later_fits (fits s) (list_any fits ss) (any_at fits ss n d (omega arith) fit)))

-- items from a place on, where none behind it fits and it doesn't
pub any_from : {S : Type 0} (fits : S → Bool) (ss : List S) (i : ℕ) (d : S) → i < length ss
    → fits (get_or ss i d) ≡ false → list_any fits (drop (suc i) ss) ≡ false → list_any fits (drop i ss) ≡ false
any_from fits [] i d below off rest = absurd (omega arith)
any_from fits (s ∷ ss) zero d below off rest = both_off (fits s) (list_any fits ss) off rest
any_from fits (s ∷ ss) (suc i) d below off rest = any_from fits ss i d (omega arith) off rest

-- an item, whatever stands for one that isn't there
pub same_item : {S : Type 0} (ss : List S) (i : ℕ) (d other : S) → i < length ss → get_or ss i d ≡ get_or ss i other
same_item [] i d other below = absurd (omega arith)
same_item (s ∷ ss) zero d other below = refl
same_item (s ∷ ss) (suc i) d other below = same_item ss i d other (omega arith)

pub not_so : (b : Bool) → not b ≡ true → b ≡ false
not_so true e = cc
not_so false e = refl

pub so : (b : Bool) → not b ≡ false → b ≡ true
so true e = refl
so false e = cc

-- something that goes where a place says that is right behind the last that it fits into
pub put_place : {S : Type 0} (fits : S → Bool) (grown : S → S) (new : S) (ss : List S) (n : ℕ) (d : S)
    → IsBehindLast fits ss (suc n) → set ss n (grown (get_or ss n d)) ≡ put_last fits grown new ss
put_place fits grown new ss n d is =
    put_into fits grown new ss n d (omega (arith, is.within)) (is.last n d refl) is.none

pub put_no_place : {S : Type 0} (fits : S → Bool) (grown : S → S) (new : S) (ss : List S) → IsBehindLast fits ss 0
    → ss ++ new ∷ [] ≡ put_last fits grown new ss
put_no_place fits grown new ss is = put_behind fits grown new ss is.none

-- counts, by their parts
pub same_counts : (t u f g e h : ℕ) → t ≡ u → f ≡ g → e ≡ h
    → (let c : Counts = record { tests = t; failures = f; errors = e } in c)
    ≡ record { tests = u; failures = g; errors = h }
same_counts t u f g e h p q r =
    ap (λ (n : ℕ). let c : Counts = record { tests = n; failures = f; errors = e } in c) p
    ∙ ap (λ (n : ℕ). let c : Counts = record { tests = u; failures = n; errors = e } in c) q
    ∙ ap (λ (n : ℕ). let c : Counts = record { tests = u; failures = g; errors = n } in c) r

counts_fault : (n m k : ℕ) (fault : Option Fault)
    → (let c : Counts = record {
      tests = n + 1;
      failures = m + cond (counts_as_failure fault) 1 0;
      errors = k + cond (counts_as_error fault) 1 0;
    } in c)
    ≡ counts_with (record { tests = n; failures = m; errors = k }) fault
counts_fault n m k None = same_counts _ _ _ _ _ _ refl (omega arith) (omega arith)
counts_fault n m k (Some faults.Failure) = same_counts _ _ _ _ _ _ refl refl (omega arith)
counts_fault n m k (Some faults.Error) = same_counts _ _ _ _ _ _ refl (omega arith) refl

-- the counts of one finish more
pub counts_more : (xs : List Finish) (x : Finish)
    → counts_of (xs ++ x ∷ []) ≡ counts_with (counts_of xs) (fault_counted x)
counts_more xs x =
    let tests : length (xs ++ x ∷ []) ≡ length xs + 1 = omega (arith, length-append xs (x ∷ [])) in
    same_counts _ _ _ _ _ _ tests (sum_by_push (λ (f : Finish). cond (counts_as_failure (fault_counted f)) 1 0) xs x)
    (sum_by_push (λ (f : Finish). cond (counts_as_error (fault_counted f)) 1 0) xs x)
    ∙ counts_fault (length xs) (count_by (λ f. counts_as_failure (fault_counted f)) xs)
    (count_by (λ f. counts_as_error (fault_counted f)) xs) (fault_counted x)

same_kept : (name : List ℕ) (b c : Counts) (xs ys : List (List ℕ)) → b ≡ c → xs ≡ ys
    → (let k : Kept = record { name = name; counts = b; cases = xs } in k)
    ≡ record { name = name; counts = c; cases = ys }
same_kept name b c xs ys p q =
    ap (λ (d : Counts). let k : Kept = record { name = name; counts = d; cases = xs } in k) p
    ∙ ap (λ (zs : List (List ℕ)). let k : Kept = record { name = name; counts = c; cases = zs } in k) q

-- what is kept of a suite with one finish more
kept_more : (started : Option ℕ) (x : Finish) (suite : Suite)
    → kept_with (fault_counted x) (case_bytes started x) (kept_suite started suite)
    ≡ kept_suite started (record suite { finishes = suite.finishes ++ x ∷ [] })
kept_more started x suite = same_kept suite.name _ _ _ _ (sym (counts_more suite.finishes x))
    (sym (map-append (case_bytes started) suite.finishes (x ∷ [])))

-- what is kept of a suite of one finish
kept_first : (started : Option ℕ) (x : Finish)
    → kept_with (fault_counted x) (case_bytes started x) (kept_empty (suite_of x))
    ≡ kept_suite started (record { name = suite_of x; finishes = x ∷ [] })
kept_first started x = same_kept (suite_of x) _ _ _ _ (sym (counts_more [] x)) refl

-- what is kept of suites with one finish more
pub suites_more : (started : Option ℕ) (xs : List Finish) (x : Finish)
    → put_kept (suite_of x) (fault_counted x) (case_bytes started x) (map (kept_suite started) (suites_of xs))
    ≡ map (kept_suite started) (suites_of (xs ++ x ∷ []))
unfolding suites_of
suites_more started xs x =
    put_map (kept_suite started) _ _ _ _ _ _ (put_each [] xs) (λ s. refl) (kept_more started x) (kept_first started x)
    ∙ ap (map (kept_suite started)) (sym (put_all_more [] xs x))
