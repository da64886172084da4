-- The first line of an input.
use Rattle.std.proofs.Common.{◌≡◌, ◌∙◌, ℕ, suc, ◌<◌, ◌≤◌, ◌^◌, ◌==◌, ◌&&◌, List, [], ◌∷◌, length}
use Rattle.std.proofs.Common.{Some, Bool, true, false, if◌then◌else◌, not, refl, sym, ap, subst, arith}
use Rattle.std.proofs.Common.{is_some, nat_le, ap₂}
use Rattle.std.specs.List.{list_all}
use Rattle.std.proofs.lemmas.Bool.Decides.{nat_tests}
use Rattle.run_events.specs.declared.plan.Plan.{Plan}
use Rattle.run_events.specs.declared.turn.Turn.{Turn}
use Rattle.run_input.specs.declared.plan_line.RunnerKeys.{RunnerKeys}
use Rattle.run_input.specs.Lines.{lines_of, at_front}
use Rattle.run_input.specs.Input.{plan_line_of, IsInput}
use Rattle.run_store.specs.Records.{most_bytes}
use Rattle.run_store.specs.Stores.{is_plan_payload}

-- a line that has no line feed, and at most so many bytes
abbrev IsShortLine : ℕ → List ℕ → Type 0
IsShortLine n line = (list_all (λ b. not (b == 10)) line ≡ true) × (length line ≤ n)

-- lists that begin the same have one first item
same_first : (x y : List ℕ) (xs ys : List (List ℕ)) → x ∷ xs ≡ y ∷ ys → x ≡ y
same_first x y xs ys e = cc e

-- a line with one more byte at its front
one_longer : (b : ℕ) (n : ℕ) (line : List ℕ) → (b == 10) ≡ false → IsShortLine n line → IsShortLine (suc n) (b ∷ line)
one_longer b n line e h = (ap₂ (λ (x y : Bool). not x && y) e h.0, omega (arith, h.1))

-- a byte before lines that are such makes lines that are such
short_front : (b : ℕ) (c : Bool) (n : ℕ) (ls : List (List ℕ)) → (b == 10) ≡ c
    → ((l : List ℕ) (rest : List (List ℕ)) → ls ≡ l ∷ rest → IsShortLine n l) → (line : List ℕ) (rest : List (List ℕ))
    → (if c then [] ∷ ls else at_front b ls) ≡ line ∷ rest → IsShortLine (suc n) line
short_front b true n ls is f line rest e =
    subst (IsShortLine (suc n)) (same_first [] line ls rest e) (refl, omega arith)
short_front b false n [] is f line rest e =
    subst (IsShortLine (suc n)) (same_first (b ∷ []) line [] rest e)
    (one_longer b n [] is (refl, omega arith))
short_front b false n (l ∷ ls) is f line rest e =
    subst (IsShortLine (suc n)) (same_first (b ∷ l) line ls rest e) (one_longer b n l is (f l ls refl))

-- the first line is such a line
first_short : (bytes line : List ℕ) (rest : List (List ℕ)) → lines_of bytes ≡ line ∷ rest
    → IsShortLine (length bytes) line
first_short [] line rest e = cc e
first_short (b ∷ bytes) line rest e =
    short_front b (b == 10) (length bytes) (lines_of bytes) refl (first_short bytes) line rest e

-- the first line of an input says a plan
pub plan_first : (lines : List (List ℕ)) (line : List ℕ) (others : List (List ℕ)) (keys : RunnerKeys) (plan : Plan)
    (turns : List Turn) → lines ≡ line ∷ others → IsInput lines keys plan turns
    → plan_line_of line ≡ Some (keys, plan)
plan_first [] line others keys plan turns e h = absurd h
plan_first (first ∷ lines) line others keys plan turns e h =
    ap plan_line_of (sym (same_first first line lines others e)) ∙ h.0

-- the first line of an input is a plan line that a store can have
pub line_payload : (bytes line : List ℕ) (others : List (List ℕ)) (keys : RunnerKeys) (plan : Plan) (turns : List Turn)
    → lines_of bytes ≡ line ∷ others → IsInput (lines_of bytes) keys plan turns → length bytes ≤ 2 ^ 24
    → is_plan_payload line ≡ true
line_payload bytes line others keys plan turns first says within =
    let short = first_short bytes line others first in
    let there : is_some (plan_line_of line) ≡ true =
    ap is_some (plan_first (lines_of bytes) line others keys plan turns first says) in
    let low : nat_le (length line) most_bytes ≡ true = grind (arith, nat_tests, short.1, within) in
    ap₂ (λ (x : Bool) (y : Bool). x && y) there (ap₂ (λ (x : Bool) (y : Bool). x && y) short.0 low)

-- an input has a byte
pub some_input : (bytes : List ℕ) (keys : RunnerKeys) (plan : Plan) (turns : List Turn)
    → IsInput (lines_of bytes) keys plan turns → 0 < length bytes
some_input [] keys plan turns h = absurd h
some_input (b ∷ bytes) keys plan turns h = omega arith
