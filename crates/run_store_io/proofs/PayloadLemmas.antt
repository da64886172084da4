-- The payload of a plan line.
use Rattle.std.proofs.Common.{◌≡◌, ◌∙◌, ℕ, ◌≤◌, ◌==◌, ◌&&◌, ◌||◌, List, [], ◌∷◌, length, Bool, true, false, not}
use Rattle.std.proofs.Common.{is_some}
use Rattle.std.proofs.Common.{nat_le, refl, sym, ap, ap₂, arith, Result, Ok, Err, IfOk, true≢false}
use Rattle.std.specs.List.{list_all, list_any}
use Rattle.std.proofs.lemmas.Bool.Decides.{nat_tests}
use Rattle.run_input.specs.Input.{plan_line_of}
use Rattle.run_store.specs.Records.{most_bytes}
use Rattle.run_store.specs.Stores.{is_plan_payload}

-- a byte that is none, before others that are none
feed_here : (c x y : Bool) → (x ≡ false → y ≡ true) → (c || x) ≡ false → (not c && y) ≡ true
feed_here true x y f e = absurd (true≢false e)
feed_here false x y f e = f e

-- bytes that have no line feed have others alone
no_feed : (bytes : List ℕ) → list_any (λ b. b == 10) bytes ≡ false → list_all (λ b. not (b == 10)) bytes ≡ true
no_feed [] e = refl
no_feed (b ∷ bytes) e = feed_here (b == 10) _ _ (no_feed bytes) e

-- what is true besides changes nothing
and_true : (b : Bool) → (b && (true && true)) ≡ b
and_true true = refl
and_true false = refl

-- bytes with no line feed, that aren't too long, are a right payload if they are a plan line
pub plan_said : {E : Type 0} (payload : List ℕ) (r : Result Bool E) → list_any (λ b. b == 10) payload ≡ false
    → length payload ≤ most_bytes → IfOk r (λ is. is ≡ is_some (plan_line_of payload))
    → IfOk r (λ is. is ≡ is_plan_payload payload)
plan_said payload (Ok is) none short h =
    let low : nat_le (length payload) most_bytes ≡ true = grind (arith, nat_tests, short) in
    h ∙ sym (ap₂ (λ (x y : Bool). is_some (plan_line_of payload) && (x && y)) (no_feed payload none) low
    ∙ and_true (is_some (plan_line_of payload)))
plan_said payload (Err e) none short h = tt
