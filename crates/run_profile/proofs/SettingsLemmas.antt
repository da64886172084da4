-- The first override that matches and says a setting.
use Rattle.std.proofs.Common.{ℕ, zero, suc, ◌≡◌, ◌<◌, ◌+◌, Bool, true, false, not, ◌&&◌, List, [], ◌∷◌, length}
use Rattle.std.proofs.Common.{Option, Some, None, option_map, subst}
use Rattle.std.proofs.Common.{position, arith, cond, ap, sym, ◌∙◌, refl, nat_lt}
use Rattle.std.specs.List.{zip, position_or_len}
use Rattle.std.proofs.lemmas.Bool.{and_parts}
use Rattle.std.proofs.lemmas.Bool.Decides.{nat_tests}
use Rattle.run_profile.specs.declared.settings.Setting.{Setting}
use Rattle.run_profile.specs.declared.settings.Override.{Override}
use Rattle.run_profile.specs.declared.settings.Said.{Said}
use Rattle.run_profile.specs.Settings.{first_match, first_plain, gives, names, IsFirstGiver, IsFirstSaid, IsGiver}
use Rattle.run_profile.specs.Settings.{IsSaid}

-- the first place in a list with one more item in front
position_step : (b : Bool) (n len : ℕ)
    → cond (nat_lt (cond (not b) (1 + n) 0) (suc len)) (Some (cond (not b) (1 + n) 0)) None
    ≡ cond b (Some 0) (option_map suc (cond (nat_lt n len) (Some n) None))
position_step true n len = grind (arith, nat_tests)
position_step false n len = grind (arith, nat_tests)

position_front : {X : Type 0} (p : X → Bool) (x : X) (xs : List X)
    → position p (x ∷ xs) ≡ cond (p x) (Some 0) (option_map suc (position p xs))
position_front p x xs = position_step (p x) (position_or_len p xs) (length xs)

-- the first override that matches and says a setting, by recursion
abbrev first_in : Setting → List Override → List Bool → Option ℕ
first_in s [] ms = None
first_in s (o ∷ os) [] = None
first_in s (o ∷ os) (m ∷ ms) = cond (m && names s o.said) (Some 0) (option_map suc (first_in s os ms))

first_match_is : (s : Setting) (os : List Override) (ms : List Bool) → first_match s os ms ≡ first_in s os ms
first_match_is s [] [] = refl
first_match_is s [] (m ∷ ms) = refl
first_match_is s (o ∷ os) [] = refl
first_match_is s (o ∷ os) (m ∷ ms) =
    position_front (gives s) (m, o) (zip ms os)
    ∙ ap (λ r. cond (m && names s o.said) (Some 0) (option_map suc r)) (first_match_is s os ms)

both_false : (a b : Bool) → (a && b) ≡ false → a ≡ true → b ≡ true → ⊥
both_false true true e p q = cc
both_false true false e p q = cc
both_false false b e p q = cc

nowhere : (s : Setting) (o : Override) (os : List Override) (m : Bool) (ms : List Bool) → (m && names s o.said) ≡ false
    → ((k : ℕ) → ¬ IsGiver s os ms k) → (k : ℕ) → ¬ IsGiver s (o ∷ os) (m ∷ ms) k
nowhere s o os m ms e none zero h =
    let is : Some m ≡ Some true = h.0 in
    let yes : m ≡ true = cc in
    both_false m (names s o.said) e yes h.1
nowhere s o os m ms e none (suc k) h = none k h

before : (s : Setting) (o : Override) (os : List Override) (m : Bool) (ms : List Bool) (p : ℕ)
    → (m && names s o.said) ≡ false → ((k : ℕ) → k < p → ¬ IsGiver s os ms k)
    → (k : ℕ) → k < suc p → ¬ IsGiver s (o ∷ os) (m ∷ ms) k
before s o os m ms p e none zero below h =
    let is : Some m ≡ Some true = h.0 in
    let yes : m ≡ true = cc in
    both_false m (names s o.said) e yes h.1
before s o os m ms p e none (suc k) below h = none k (omega arith) h

step : (s : Setting) (o : Override) (os : List Override) (m : Bool) (ms : List Bool) (b : Bool)
    → (m && names s o.said) ≡ b → (r : Option ℕ) → IsFirstGiver s os ms r
    → IsFirstGiver s (o ∷ os) (m ∷ ms) (cond b (Some 0) (option_map suc r))
step s o os m ms true e r rest =
    let parts = and_parts m (names s o.said) e in
    ((ap Some parts.0, parts.1), λ k below h. absurd (omega arith))
step s o os m ms false e None rest = nowhere s o os m ms e rest
step s o os m ms false e (Some p) rest = (rest.0, before s o os m ms p e rest.1)

giver_in : (s : Setting) (os : List Override) (ms : List Bool) → IsFirstGiver s os ms (first_in s os ms)
giver_in s [] ms = λ k h. h.1
giver_in s (o ∷ os) [] = λ k h. let e : None ≡ Some true = h.0 in cc
giver_in s (o ∷ os) (m ∷ ms) = step s o os m ms (m && names s o.said) refl (first_in s os ms) (giver_in s os ms)

pub first_giver : (setting : Setting) (overrides : List Override) (matches : List Bool)
    → IsFirstGiver setting overrides matches (first_match setting overrides matches)
first_giver s os ms =
    let P : Option ℕ → Type 0 = λ r. IsFirstGiver s os ms r in
    subst P (sym (first_match_is s os ms)) (giver_in s os ms)

-- the same of plain keys
abbrev said_in : Setting → List Said → Option ℕ
said_in s [] = None
said_in s (x ∷ xs) = cond (names s x) (Some 0) (option_map suc (said_in s xs))

first_plain_is : (s : Setting) (xs : List Said) → first_plain s xs ≡ said_in s xs
first_plain_is s [] = refl
first_plain_is s (x ∷ xs) =
    position_front (names s) x xs ∙ ap (λ r. cond (names s x) (Some 0) (option_map suc r)) (first_plain_is s xs)

unsaid : (s : Setting) (x : Said) (xs : List Said) → names s x ≡ false → ((k : ℕ) → ¬ IsSaid s xs k)
    → (k : ℕ) → ¬ IsSaid s (x ∷ xs) k
unsaid s x xs e none zero h = let yes : names s x ≡ true = h in cc
unsaid s x xs e none (suc k) h = none k h

unsaid_before : (s : Setting) (x : Said) (xs : List Said) (p : ℕ) → names s x ≡ false
    → ((k : ℕ) → k < p → ¬ IsSaid s xs k) → (k : ℕ) → k < suc p → ¬ IsSaid s (x ∷ xs) k
unsaid_before s x xs p e none zero below h = let yes : names s x ≡ true = h in cc
unsaid_before s x xs p e none (suc k) below h = none k (omega arith) h

said_step : (s : Setting) (x : Said) (xs : List Said) (b : Bool) → names s x ≡ b → (r : Option ℕ) → IsFirstSaid s xs r
    → IsFirstSaid s (x ∷ xs) (cond b (Some 0) (option_map suc r))
said_step s x xs true e r rest = (e, λ k below h. absurd (omega arith))
said_step s x xs false e None rest = unsaid s x xs e rest
said_step s x xs false e (Some p) rest = (rest.0, unsaid_before s x xs p e rest.1)

said_first : (s : Setting) (xs : List Said) → IsFirstSaid s xs (said_in s xs)
said_first s [] = λ k h. h
said_first s (x ∷ xs) = said_step s x xs (names s x) refl (said_in s xs) (said_first s xs)

pub first_said : (setting : Setting) (plain : List Said) → IsFirstSaid setting plain (first_plain setting plain)
first_said s xs =
    let P : Option ℕ → Type 0 = λ r. IsFirstSaid s xs r in
    subst P (sym (first_plain_is s xs)) (said_first s xs)
