-- The delays before further attempts, in whole numbers.
use Rattle.std.proofs.Common.{◌≡◌, ◌⊎◌, inl, inr, ℕ, zero, suc, ◌+◌, ◌-◌, ◌*◌, ◌^◌, ◌/◌, ◌==◌, ◌≤◌, ◌<◌, nat_lt, min}
use Rattle.std.proofs.Common.{List, [], ◌∷◌}
use Rattle.std.proofs.Common.{length, Bool, true, false, if◌then◌else◌, Option, Some, None, unwrap_or, slice_get}
use Rattle.std.proofs.Common.{refl, ap}
use Rattle.std.proofs.Common.{subst, ◌∙◌, arith}
use Rattle.std.proofs.Math.Nat.{lt-div-mul-add, div-mul-le_self, pow-suc}
use Rattle.std.specs.List.{All}
use Rattle.std.specs.Option.{option_map_or}
use Rattle.std.proofs.lemmas.List.Elements.{All-nil, All-cons, All-append, All-weaker}
use Rattle.run_laws_rows.specs.Delays.{HasItsDelay, IsDelayOf, IsLeastPart, doubled, limited, retries_by, word_for}
use Rattle.run_laws_rows.proofs.ResultLemmas.{first_of}
use Rattle.run_events.specs.declared.result.ExecuteStatus.{ExecuteStatus}
use Rattle.run_events.specs.declared.retry_policy.RetryPolicy.{RetryPolicy}
use Rattle.run_events.specs.declared.retry_policy.RetryPolicy.TheVariants.{Exponential, Fixed}
use Rattle.run_events.specs.declared.settings.Settings.{Settings}
use Rattle.run_model.specs.declared.entry.Entry.{Entry}
use Rattle.run_model.specs.declared.happening.Happening.{Happening}
use Rattle.run_model.specs.Accounts.{account_of}
use Rattle.run_model.specs.Admission.{scripts_in, unit_terms}
use Rattle.run_model.specs.Attempts.{drawn_word, pieces_of, ended_statuses, status_of, statuses_of, has_ended}
use Rattle.run_model.specs.Attempts.{delay_after}
use Rattle.run_model.specs.Fates.{told_ended}
use Rattle.run_model.specs.Story.{Attempt, cut, OwnTurn}
use Rattle.run_model.specs.Words.{sub_run, told}
use Rattle.run_model.specs.Journal.{IsLegalBackward, history}
use Rattle.run_laws.proofs.told.OnceLemmas.{told_once}
use Rattle.run_laws.proofs.board.Kept.{accounts, made}
use Rattle.run_model.specs.declared.unit_view.AttemptTerms.{AttemptTerms}
use Rattle.run_events.specs.declared.plan.PlanScript.{PlanScript}
use Rattle.run_events.specs.declared.plan.PlanTest.{PlanTest}
use Rattle.run_model.specs.Backoff.{delay_by}
use Rattle.run_model.specs.Admission.{terms_if, terms_at, script_terms_if}
use Rattle.run_model.specs.Backoff.{capped, jittered}

-- a delay that doubles
doubles : (delay n : ℕ) → min (delay * 2 ^ n) (2 ^ 64 - 1) ≡ doubled delay n
doubles delay zero = let one : delay * 2 ^ 0 ≡ delay = grind arith in rw one refl
doubles delay (suc n) =
    let twice : delay * 2 ^ suc n ≡ delay * 2 ^ n + delay * 2 ^ n = twice_is delay (2 ^ n) (2 ^ suc n) (pow-suc 2 n) in
    rw twice (saturates (delay * 2 ^ n) (doubled delay n) (doubles delay n))
  where
    twice_is : (a b c : ℕ) → c ≡ b * 2 → a * c ≡ a * b + a * b
    twice_is a b c is = rw is (grind arith)

    saturates : (a b : ℕ) → min a (2 ^ 64 - 1) ≡ b
        → min (a + a) (2 ^ 64 - 1) ≡ min (b + b) 18446744073709551615
    saturates a b is = omega (arith, is)

capped_is : (most : Option ℕ) (delay : ℕ) → capped most delay ≡ limited most delay
capped_is None delay = refl
capped_is (Some most) delay = refl

-- a part of one
part : (word whole : ℕ) → IsLeastPart word whole (jittered word whole)
part word whole =
    as_part (whole * (2 ^ 32 + word + 1)) (jittered word whole) same (ceiling (whole * (2 ^ 32 + word + 1)))
  where
    ceiling : (a : ℕ) → (a ≤ (a + (2 ^ 33 - 1)) / 2 ^ 33 * 2 ^ 33) × ((a + (2 ^ 33 - 1)) / 2 ^ 33 * 2 ^ 33 < a + 2 ^ 33)
    ceiling a =
        let over : a + (2 ^ 33 - 1) < (a + (2 ^ 33 - 1)) / 2 ^ 33 * 2 ^ 33 + 2 ^ 33 =
        lt-div-mul-add {a = a + (2 ^ 33 - 1)} {b = 2 ^ 33} (omega arith) in
        let under : (a + (2 ^ 33 - 1)) / 2 ^ 33 * 2 ^ 33 ≤ a + (2 ^ 33 - 1) =
        div-mul-le_self (a + (2 ^ 33 - 1)) (2 ^ 33) in
        (omega (arith, over), omega (arith, under))

    same : whole * (2 ^ 32 + word + 1) ≡ whole * (4294967297 + word)
    same = let sum : 2 ^ 32 + word + 1 ≡ 4294967297 + word = omega arith in ap (λ n. whole * n) sum

    as_part : (a q : ℕ) → a ≡ whole * (4294967297 + word) → (a ≤ q * 2 ^ 33) × (q * 2 ^ 33 < a + 2 ^ 33)
        → IsLeastPart word whole q
    as_part a q is h = record {
      enough = subst (λ a. a ≤ q * 8589934592) is h.0;
      least = subst (λ a. q * 8589934592 < a + 8589934592) is h.1;
    }

-- so each delay
delay_of : (policy : RetryPolicy) (n word : ℕ) → IsDelayOf policy n word (delay_by policy n word)
delay_of (Fixed count whole false) n word = refl
delay_of (Fixed count whole true) n word = part word whole
delay_of (Exponential count first false most) n word =
    capped_is most (min (first * 2 ^ n) (2 ^ 64 - 1)) ∙ ap (limited most) (doubles first n)
delay_of (Exponential count first true most) n word =
    subst (λ whole. IsLeastPart word whole (jittered word (capped most (min (first * 2 ^ n) (2 ^ 64 - 1)))))
    (capped_is most (min (first * 2 ^ n) (2 ^ 64 - 1)) ∙ ap (limited most) (doubles first n))
    (part word (capped most (min (first * 2 ^ n) (2 ^ 64 - 1))))

-- the plan's policy is that of the unit
policy_is : (p : Settings) (k : ℕ) → (unit_terms p k).retries ≡ retries_by p k
policy_is p k = by_kind (nat_lt k (scripts_in p))
  where
    by_script : (o : Option PlanScript) → (script_terms_if p o).retries ≡ Fixed 0 0 false
    by_script None = refl
    by_script (Some script) = refl

    by_test : (o : Option PlanTest) → (terms_if p o).retries
        ≡ option_map_or (λ test. unwrap_or p.retries test.retries) o (Fixed 0 0 false)
    by_test None = refl
    by_test (Some test) = refl

    by_kind : (b : Bool)
        → (if b then script_terms_if p (slice_get p.plan.scripts k) else terms_at p (k - scripts_in p)).retries
        ≡ (if b then Fixed 0 0 false
        else option_map_or (λ test. unwrap_or p.retries test.retries) (slice_get p.plan.tests (k - scripts_in p))
        (Fixed 0 0 false))
    by_kind true = by_script (slice_get p.plan.scripts k)
    by_kind false = by_test (slice_get p.plan.tests (k - scripts_in p))

-- an attempt has the word of its decision, whatever attempts come after it
within : (ps : List Attempt) (n word : ℕ) → word_for n ps ≡ Some word → n ≤ length ps
within [] n word is = cc
within (cut other after ∷ earlier) n word is =
    by_here (length earlier + 1 == n) refl (within earlier n word) is
  where
    by_here : (b : Bool) → (length earlier + 1 == n) ≡ b → (word_for n earlier ≡ Some word → n ≤ length earlier)
        → (if b then Some (drawn_word after) else word_for n earlier) ≡ Some word → n ≤ suc (length earlier)
    by_here true e rest is = grind arith
    by_here false e rest is = let h : n ≤ length earlier = rest is in omega arith

wider : (earlier : List Attempt) (n word : ℕ) (other after : List OwnTurn) → word_for n earlier ≡ Some word
    → word_for n (cut other after ∷ earlier) ≡ Some word
wider earlier n word other after is =
    let h : n ≤ length earlier = within earlier n word is in
    let apart : (length earlier + 1 == n) ≡ false = grind arith in
    rw apart is

-- so of each attempt that has ended, on these terms
abbrev HasDelay : RetryPolicy → List Attempt → ExecuteStatus → Type 0
HasDelay policy ps s = ((s.attempt ≡ 1) × (s.delay ≡ 0))
    ⊎ ((n : ℕ) × (word : ℕ) × (s.attempt ≡ n + 2) × (word_for (n + 1) ps ≡ Some word)
    × IsDelayOf policy n word s.delay)

later : (policy : RetryPolicy) (earlier : List Attempt) (piece after : List OwnTurn) (s : ExecuteStatus)
    → HasDelay policy earlier s → HasDelay policy (cut piece after ∷ earlier) s
later policy earlier piece after s (inl h) = inl h
later policy earlier piece after s (inr (n, word, at, is, h)) =
    inr (n, word, at, wider earlier (n + 1) word piece after is, h)

all_of : (terms : AttemptTerms) (ps : List Attempt) → All (HasDelay terms.retries ps) (ended_statuses terms ps)
all_of terms [] = All-nil (HasDelay terms.retries [])
all_of terms (cut piece after ∷ earlier) =
    All-append (HasDelay terms.retries (cut piece after ∷ earlier)) (ended_statuses terms earlier) _
    (All-weaker (HasDelay terms.retries earlier) (HasDelay terms.retries (cut piece after ∷ earlier))
    (later terms.retries earlier piece after) (ended_statuses terms earlier) (all_of terms earlier))
    (last (has_ended terms piece))
  where
    here : (n : ℕ) → (n == n) ≡ true
    here n = grind arith

    own : (earlier : List Attempt) → HasDelay terms.retries (cut piece after ∷ earlier)
        (status_of terms (delay_after terms.retries earlier) (length earlier + 1) piece)
    own [] = inl (refl, refl)
    own (cut q d ∷ more) =
        let none : (length (cut q d ∷ more) + 1 == length more + 1) ≡ false = grind arith in
        let sum : length (cut q d ∷ more) + 1 ≡ length more + 2 = omega arith in
        inr (
          length more,
          drawn_word d,
          sum,
          rw (none, here (length more + 1)) refl,
          delay_of terms.retries (length more) (drawn_word d),
        )

    last : (b : Bool) → All (HasDelay terms.retries (cut piece after ∷ earlier))
        (if b then status_of terms (delay_after terms.retries earlier) (length earlier + 1) piece ∷ [] else [])
    last true = All-cons (HasDelay terms.retries (cut piece after ∷ earlier)) _ [] (own earlier)
        (All-nil (HasDelay terms.retries (cut piece after ∷ earlier)))
    last false = All-nil (HasDelay terms.retries (cut piece after ∷ earlier))

pub delays_whole : (p : Settings) (backward : List Entry) → IsLegalBackward p backward → (k : ℕ)
    → All (HasItsDelay p (sub_run (history p backward)) k)
    (told_ended (account_of k (told (sub_run (history p backward)))))
delays_whole p backward legal k =
    first_of (HasItsDelay p run k) _ (statuses_of p k run)
    (told_once p run k (accounts p backward legal k) (λ u is. (made p backward legal k u is).statuses)).once
    (subst (λ policy. All (HasDelay policy (pieces_of k run)) (statuses_of p k run)) (policy_is p k)
    (all_of (unit_terms p k) (pieces_of k run)))
  where
    run : List Happening
    run = sub_run (history p backward)
