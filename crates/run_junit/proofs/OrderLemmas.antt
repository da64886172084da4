-- Each finish stands once in a suite of its name, in order.
use Rattle.std.proofs.Common.{◌≡◌, ℕ, ◌+◌, Bool, true, false, not, ◌&&◌, if◌then◌else◌, cond, List, [], ◌∷◌}
use Rattle.std.proofs.Common.{◌++◌, bytes_eq, refl, sym, ap, ◌∙◌, subst, arith, append_assoc, append-nil}
use Rattle.std.proofs.lemmas.List.Sums.{sum_by-append, sum_by-cons, sum_by_push}
use Rattle.std.proofs.lemmas.Slice.Eq.{bytes_eq-Decides}
use Rattle.std.specs.List.{count_by, filter, list_any}
use Rattle.run_junit.specs.Laws.{finishes_of_suites, has_suite_name, is_of_suite}
use Rattle.run_junit.specs.Suites.{Finish, Suite, put_each, put_finish, suite_of, suites_of}
use Rattle.run_junit.proofs.SuiteLemmas.{first_off, second_off}

-- a suite with one finish more
abbrev grown : Finish → Suite → Suite
grown x suite = record suite { finishes = suite.finishes ++ x ∷ [] }

-- how many finishes fit, in suites of which one has one more
count_either : (fits : Finish → Bool) (x : Finish) (b : Bool) (s : Suite) (ss put_there : List Suite)
    → count_by fits (finishes_of_suites put_there) ≡ count_by fits (finishes_of_suites ss) + cond (fits x) 1 0
    → count_by fits (finishes_of_suites (if b then grown x s ∷ ss else s ∷ put_there))
    ≡ count_by fits (finishes_of_suites (s ∷ ss)) + cond (fits x) 1 0
count_either fits x true s ss put_there rest =
    let one = λ (f : Finish). cond (fits f) 1 0 in
    let here = sum_by-append one (s.finishes ++ x ∷ []) (finishes_of_suites ss) in
    let more = sum_by_push one s.finishes x in
    let there = sum_by-append one s.finishes (finishes_of_suites ss) in
    omega (arith, here, more, there)
count_either fits x false s ss put_there rest =
    let one = λ (f : Finish). cond (fits f) 1 0 in
    let here = sum_by-append one s.finishes (finishes_of_suites put_there) in
    let there = sum_by-append one s.finishes (finishes_of_suites ss) in
    omega (arith, here, there, rest)

count_put : (fits : Finish → Bool) (x : Finish) (ss : List Suite)
    → count_by fits (finishes_of_suites (put_finish x ss)) ≡ count_by fits (finishes_of_suites ss) + cond (fits x) 1 0
count_put fits x [] = refl
count_put fits x (s ∷ ss) =
    count_either fits x (has_suite_name (suite_of x) s && not (list_any (has_suite_name (suite_of x)) ss)) s ss
    (put_finish x ss)
    (count_put fits x ss)

count_all : (fits : Finish → Bool) (ss : List Suite) (xs : List Finish)
    → count_by fits (finishes_of_suites (put_each ss xs)) ≡ count_by fits (finishes_of_suites ss) + count_by fits xs
count_all fits ss [] = omega arith
count_all fits ss (x ∷ xs) =
    let one = λ (f : Finish). cond (fits f) 1 0 in
    let later = count_all fits (put_finish x ss) xs in
    let here = count_put fits x ss in
    let first = sum_by-cons one x xs in
    omega (arith, later, here, first)

-- each finish stands once in a suite
pub once : (finishes : List Finish) (fits : Finish → Bool)
    → count_by fits (finishes_of_suites (suites_of finishes)) ≡ count_by fits finishes
unfolding suites_of
once finishes fits = let all = count_all fits [] finishes in omega (arith, all)

-- where none fits none is found
filter_none : {X : Type 0} (fits : X → Bool) (xs : List X) → list_any fits xs ≡ false → filter fits xs ≡ []
filter_none fits [] none = refl
filter_none fits (x ∷ xs) none =
    ap (λ (b : Bool). cond b (x ∷ filter fits xs) (filter fits xs)) (first_off (fits x) (list_any fits xs) none)
    ∙ filter_none fits xs (second_off (fits x) (list_any fits xs) none)

-- the finishes of a suite, where it has the name
abbrev named : List ℕ → List Suite → List Finish
named name suites = finishes_of_suites (filter (has_suite_name name) suites)

same_name : (name : List ℕ) → bytes_eq name name ≡ true
same_name name = (bytes_eq-Decides name name).1 refl

-- of finishes of this name
own_either : (x : Finish) (s : Suite) (ss put_there : List Suite) (f a : Bool)
    → has_suite_name (suite_of x) s ≡ f → list_any (has_suite_name (suite_of x)) ss ≡ a
    → named (suite_of x) put_there ≡ named (suite_of x) ss ++ x ∷ []
    → named (suite_of x) (if f && not a then grown x s ∷ ss else s ∷ put_there)
    ≡ finishes_of_suites (cond f (s ∷ filter (has_suite_name (suite_of x)) ss)
    (filter (has_suite_name (suite_of x)) ss)) ++ x ∷ []
own_either x s ss put_there true false is any rest =
    let none = filter_none (has_suite_name (suite_of x)) ss any in
    ap (λ (b : Bool). finishes_of_suites (cond b (grown x s ∷ filter (has_suite_name (suite_of x)) ss)
    (filter (has_suite_name (suite_of x)) ss))) is
    ∙ ap (λ (suites : List Suite). (s.finishes ++ x ∷ []) ++ finishes_of_suites suites) none
    ∙ append-nil (s.finishes ++ x ∷ [])
    ∙ ap (λ fs. fs ++ x ∷ []) (sym (append-nil s.finishes))
    ∙ ap (λ (suites : List Suite). (s.finishes ++ finishes_of_suites suites) ++ x ∷ []) (sym none)
own_either x s ss put_there true true is any rest =
    ap (λ (b : Bool). finishes_of_suites (cond b (s ∷ filter (has_suite_name (suite_of x)) put_there)
    (filter (has_suite_name (suite_of x)) put_there))) is
    ∙ ap (λ fs. s.finishes ++ fs) rest
    ∙ sym (append_assoc s.finishes (named (suite_of x) ss) (x ∷ []))
own_either x s ss put_there false a is any rest =
    ap (λ (b : Bool). finishes_of_suites (cond b (s ∷ filter (has_suite_name (suite_of x)) put_there)
    (filter (has_suite_name (suite_of x)) put_there))) is
    ∙ rest

own_put : (x : Finish) (ss : List Suite)
    → named (suite_of x) (put_finish x ss) ≡ named (suite_of x) ss ++ x ∷ []
own_put x [] =
    ap (λ (b : Bool). finishes_of_suites (cond b
    ((let s : Suite = record { name = suite_of x; finishes = x ∷ [] } in s) ∷ [])
    [])) (same_name (suite_of x))
own_put x (s ∷ ss) =
    own_either x s ss (put_finish x ss) (has_suite_name (suite_of x) s) (list_any (has_suite_name (suite_of x)) ss) refl
    refl
    (own_put x ss)

-- the first suite stays
with_first : (name : List ℕ) (s : Suite) (ss others : List Suite) (is : Bool) → named name others ≡ named name ss
    → finishes_of_suites (cond is (s ∷ filter (has_suite_name name) others) (filter (has_suite_name name) others))
    ≡ finishes_of_suites (cond is (s ∷ filter (has_suite_name name) ss) (filter (has_suite_name name) ss))
with_first name s ss others true rest = ap (λ fs. s.finishes ++ fs) rest
with_first name s ss others false rest = rest

-- of finishes of another name
other_either : (name : List ℕ) (x : Finish) (s : Suite) (ss put_there : List Suite) (f a : Bool)
    → has_suite_name (suite_of x) s ≡ f → is_of_suite name x ≡ false → named name put_there ≡ named name ss
    → named name (if f && not a then grown x s ∷ ss else s ∷ put_there) ≡ named name (s ∷ ss)
other_either name x s ss put_there true false is off rest =
    let same : s.name ≡ suite_of x = (bytes_eq-Decides s.name (suite_of x)).0 is in
    let here : bytes_eq s.name name ≡ false = ap (λ n. bytes_eq n name) same ∙ off in
    ap (λ (b : Bool). finishes_of_suites (cond b (grown x s ∷ filter (has_suite_name name) ss)
    (filter (has_suite_name name) ss))) here
    ∙ ap (λ (b : Bool). finishes_of_suites (cond b (s ∷ filter (has_suite_name name) ss)
    (filter (has_suite_name name) ss))) (sym here)
other_either name x s ss put_there true true is off rest = with_first name s ss put_there (has_suite_name name s) rest
other_either name x s ss put_there false a is off rest = with_first name s ss put_there (has_suite_name name s) rest

other_put : (name : List ℕ) (x : Finish) (ss : List Suite) → is_of_suite name x ≡ false
    → named name (put_finish x ss) ≡ named name ss
other_put name x [] off =
    ap (λ (b : Bool). finishes_of_suites (cond b
    ((let s : Suite = record { name = suite_of x; finishes = x ∷ [] } in s) ∷ [])
    [])) off
other_put name x (s ∷ ss) off =
    other_either name x s ss (put_finish x ss) (has_suite_name (suite_of x) s)
    (list_any (has_suite_name (suite_of x)) ss) refl
    off (other_put name x ss off)

-- of any
put_order : (name : List ℕ) (x : Finish) (ss : List Suite) (of : Bool) → is_of_suite name x ≡ of
    → named name (put_finish x ss) ≡ named name ss ++ (if of then x ∷ [] else [])
put_order name x ss true is =
    let same : suite_of x ≡ name = (bytes_eq-Decides (suite_of x) name).0 is in
    subst (λ (n : List ℕ). named n (put_finish x ss) ≡ named n ss ++ x ∷ []) same (own_put x ss)
put_order name x ss false is = other_put name x ss is ∙ sym (append-nil (named name ss))

joined : (of : Bool) (x : Finish) (xs : List Finish) → (if of then x ∷ [] else []) ++ xs ≡ cond of (x ∷ xs) xs
joined true x xs = refl
joined false x xs = refl

all_order : (name : List ℕ) (ss : List Suite) (xs : List Finish)
    → named name (put_each ss xs) ≡ named name ss ++ filter (is_of_suite name) xs
all_order name ss [] = sym (append-nil (named name ss))
all_order name ss (x ∷ xs) =
    all_order name (put_finish x ss) xs
    ∙ ap (λ fs. fs ++ filter (is_of_suite name) xs) (put_order name x ss (is_of_suite name x) refl)
    ∙ append_assoc (named name ss) _ _
    ∙ ap (λ fs. named name ss ++ fs) (joined (is_of_suite name x) x (filter (is_of_suite name) xs))

-- the finishes of a name stand in its suite in the order in which they were told
pub in_order : (finishes : List Finish) (name : List ℕ)
    → finishes_of_suites (filter (has_suite_name name) (suites_of finishes)) ≡ filter (is_of_suite name) finishes
unfolding suites_of
in_order finishes name = all_order name [] finishes
