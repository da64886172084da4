-- What filters say of lists of tests, from what their parts say.
use Rattle.std.proofs.Common.{ℕ, ◌≡◌, inl, inr, refl, subst, Bool, ◌&&◌, ◌||◌, not, List, [], ◌∷◌, map, zip}
use Rattle.std.proofs.Common.{Result, Ok, Err}
use Rattle.std.specs.List.{AllZip}
use Rattle.std.specs.declared.vec.Vec.{Vec}
use Rattle.std.specs.declared.alloc.Global.{Global}
use Rattle.regex.specs.declared.string.regex.Regex.{Regex}
use Rattle.run_filter.specs.declared.facts.Facts.{Facts}
use Rattle.run_filter.specs.declared.facts.Subject.{Subject}
use Rattle.run_filter.specs.declared.fault.FilterError.{FilterError}
use Rattle.run_filter.specs.declared.fault.FilterError.TheVariants.{Wrong, OutOfMemory}
use Rattle.run_filter.specs.declared.filter.Matcher.TheVariants as matchers
use Rattle.run_filter.specs.Tree.{Tree, is, negation, both, either}
use Rattle.run_filter.specs.Holds.{fact_of, IsRegexOf, is_found, HoldsOf}
use Rattle.run_filter.specs.Held.{Maps, AreRegexes, HoldsOfTests, HoldsByText}
use Rattle.run_filter.specs.Grammar.{filter_of}

-- what a function says of each item it says of the list
pub each_mapped : {A B : Type 0} (R : A → B → Type 0) (f : A → B) (xs : List A) → ((x : A) → R x (f x))
    → AllZip R xs (map f xs)
each_mapped R f [] h = tt
each_mapped R f (x ∷ xs) h = (h x, each_mapped R f xs h)

-- answers that are a function's of other answers
pub each_changed : {A B C : Type 0} (R : A → B → Type 0) (S : A → C → Type 0) (f : B → C) (xs : List A) (ps : List B)
    → ((x : A) (p : B) → R x p → S x (f p)) → AllZip R xs ps → AllZip S xs (map f ps)
each_changed R S f [] [] h r = tt
each_changed R S f [] (p ∷ ps) h r = absurd r
each_changed R S f (x ∷ xs) [] h r = absurd r
each_changed R S f (x ∷ xs) (p ∷ ps) h r = (h x p r.0, each_changed R S f xs ps h r.1)

-- answers that are a function's of two other answers
pub each_joined : {A B C D : Type 0} (R : A → B → Type 0) (Q : A → C → Type 0) (S : A → D → Type 0) (f : B × C → D)
    (xs : List A) (ps : List B) (qs : List C) → ((x : A) (p : B) (q : C) → R x p → Q x q → S x (f (p, q)))
    → AllZip R xs ps → AllZip Q xs qs → AllZip S xs (map f (zip ps qs))
each_joined R Q S f [] [] [] h r s = tt
each_joined R Q S f [] (p ∷ ps) qs h r s = absurd r
each_joined R Q S f [] [] (q ∷ qs) h r s = absurd s
each_joined R Q S f (x ∷ xs) [] qs h r s = absurd r
each_joined R Q S f (x ∷ xs) (p ∷ ps) [] h r s = absurd s
each_joined R Q S f (x ∷ xs) (p ∷ ps) (q ∷ qs) h r s = (h x p q r.0 s.0, each_joined R Q S f xs ps qs h r.1 s.1)

-- what is found of tests: each regex of the filter is well formed, and these are the answers
abbrev pub AreHeld : Tree → List Facts → List Bool → Type 0
AreHeld t tests held = AreRegexes t × AllZip (HoldsOf t) tests held

-- a filter that says of each test what a function does
pub mapped_held : (r : Result (Vec Bool Global) FilterError) (t u : Tree) (f : Facts → Bool) (tests : List Facts)
    → t ≡ u → Maps r tests f → AreRegexes u → ((x : Facts) → HoldsOf u x (f x)) → HoldsOfTests r t tests
mapped_held (Ok held) t u f tests e h r k = rw e (rw h (r, each_mapped (HoldsOf u) f tests k))
mapped_held (Err (Wrong place fault)) t u f tests e h r k = absurd h
mapped_held (Err OutOfMemory) t u f tests e h r k = tt

pub pattern_held : (s : Subject) (place : ℕ) (pattern : List ℕ) (r : Regex) (tests : List Facts) (held : List Bool)
    → IsRegexOf pattern r → held ≡ map (λ facts. is_found r (fact_of s facts)) tests
    → AreHeld (is s (matchers.Regex place pattern)) tests held
pattern_held s place pattern r tests held i h =
    rw h (
      (λ p at g. (r, subst (λ (x : List ℕ). IsRegexOf x r) g.0 i)),
      each_mapped (HoldsOf (is s (matchers.Regex place pattern))) (λ facts. is_found r (fact_of s facts)) tests
          (λ x. (r, i, refl)),
    )

pub negation_held : (t : Tree) (tests : List Facts) (ps held given : List Bool) → given ≡ ps
    → held ≡ map (λ b. not b) given → AreHeld t tests ps → AreHeld (negation t) tests held
negation_held t tests ps held given g h a =
    rw h (rw g (a.0, each_changed (HoldsOf t) (HoldsOf (negation t)) (λ b. not b) tests ps (λ x p k. (p, k, refl)) a.1))

-- the regexes of two operands are those of both
both_regexes : (t u : Tree) → AreRegexes t → AreRegexes u → AreRegexes (both t u)
both_regexes t u f g pattern place (inl h) = f pattern place h
both_regexes t u f g pattern place (inr h) = g pattern place h

either_regexes : (t u : Tree) → AreRegexes t → AreRegexes u → AreRegexes (either t u)
either_regexes t u f g pattern place (inl h) = f pattern place h
either_regexes t u f g pattern place (inr h) = g pattern place h

pub both_held : (t u : Tree) (tests : List Facts) (ps qs held xs ys : List Bool) → xs ≡ ps → ys ≡ qs
    → held ≡ map (λ p. p.0 && p.1) (zip xs ys) → AreHeld t tests ps → AreHeld u tests qs
    → AreHeld (both t u) tests held
both_held t u tests ps qs held xs ys x y h a b =
    rw h (rw x (rw y (
      both_regexes t u a.0 b.0,
      each_joined (HoldsOf t) (HoldsOf u) (HoldsOf (both t u)) (λ p. p.0 && p.1) tests ps qs
          (λ x p q k l. (p, q, k, l, refl)) a.1 b.1,
    )))

pub either_held : (t u : Tree) (tests : List Facts) (ps qs held xs ys : List Bool) → xs ≡ ps → ys ≡ qs
    → held ≡ map (λ p. p.0 || p.1) (zip xs ys) → AreHeld t tests ps → AreHeld u tests qs
    → AreHeld (either t u) tests held
either_held t u tests ps qs held xs ys x y h a b =
    rw h (rw x (rw y (
      either_regexes t u a.0 b.0,
      each_joined (HoldsOf t) (HoldsOf u) (HoldsOf (either t u)) (λ p. p.0 || p.1) tests ps qs
          (λ x p q k l. (p, q, k, l, refl)) a.1 b.1,
    )))

-- what the filter of a text says is what the text says
pub text_held : (r : Result (Vec Bool Global) FilterError) (t : Tree) (text : List ℕ) (tests : List Facts)
    → filter_of text ≡ Ok t → HoldsOfTests r t tests → HoldsByText r text tests
text_held (Ok held) t text tests e h = (t, e, h)
text_held (Err error) t text tests e h = inr (t, e, h)
