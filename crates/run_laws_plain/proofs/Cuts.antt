-- Where a story is cut.
use Rattle.std.proofs.Common.{◌≡◌, ◌≢◌, length, ℕ, ◌+◌, ◌<◌, ◌≤◌, zero, suc, List, [], ◌∷◌, take, drop, Bool, true}
use Rattle.std.proofs.Common.{false}
use Rattle.std.proofs.Common.{if◌then◌else◌, arith, ap, refl, ◌∙◌, sym}
use Rattle.run_model.specs.Story.{OwnTurn, Attempt, cut, begins_attempt, decides, pieces, with_turn}
use Rattle.run_laws_plain.specs.Newest.{newest, with_one, decided_count, after_decide}

with_one-suc : (n : ℕ) → with_one (suc n) ≡ suc n + 1
with_one-suc n = grind arith

after-suc : (is : Bool) (n : ℕ) → after_decide is (suc n) ≡ suc n + 1
after-suc is n = grind arith

-- a story whose newest attempt has no turn has none
none_one : (b : Bool) (n : ℕ) (t : OwnTurn) (before : List OwnTurn) → (if b then 1 else with_one n) ≡ 0
    → (n ≡ 0 → pieces before ≡ [])
    → (if b then cut (t ∷ []) [] ∷ pieces before else with_turn t (pieces before)) ≡ []
none_one true n t before none rest = absurd (omega arith)
none_one false zero t before none rest = ap (with_turn t) (rest refl)
none_one false (suc n) t before none rest = absurd (omega (arith, with_one-suc n))

pub no_piece : (story : List OwnTurn) → newest story ≡ 0 → pieces story ≡ []
no_piece [] none = refl
no_piece (t ∷ before) none = none_one (begins_attempt t.turn) (newest before) t before none (no_piece before)

-- fewer turns are from its decide on than it has
within_one : (b is : Bool) (m d : ℕ) → (if b then 1 else with_one m) ≢ 0 → (m ≢ 0 → d < m)
    → (if b then 0 else after_decide is d) < (if b then 1 else with_one m)
within_one true is m d some rest = omega arith
within_one false is zero d some rest = absurd (some refl)
within_one false true (suc m) zero some rest = let less = rest (λ e. absurd (omega arith)) in
    omega (arith, with_one-suc m)
within_one false false (suc m) zero some rest = omega (arith, with_one-suc m)
within_one false is (suc m) (suc d) some rest =
    let less = rest (λ e. absurd (omega arith)) in omega (arith, with_one-suc m, after-suc is d)

pub decided_within : (story : List OwnTurn) → newest story ≢ 0 → decided_count story < newest story
decided_within [] some = absurd (some refl)
decided_within (t ∷ before) some =
    within_one (begins_attempt t.turn) (decides t.turn) (newest before) (decided_count before)
    some (decided_within before)

-- the attempts of a story, whose newest one has so many turns, so many of them from its decide on
abbrev cut_at : ℕ → ℕ → List OwnTurn → List Attempt
cut_at n d story = cut (drop d (take n story)) (take d (take n story)) ∷ pieces (drop n story)

turn_more : (t : OwnTurn) (m d : ℕ) (before : List OwnTurn) → suc m ≤ length before
    → with_turn t (cut_at (suc m) d before) ≡ cut_at (suc (suc m)) (after_decide (decides t.turn) d) (t ∷ before)
turn_more t m d [] within = absurd (omega arith)
turn_more t m zero (b ∷ bs) within = by_decide (decides t.turn)
  where
    by_decide : (is : Bool)
        → (if is then cut (b ∷ take m bs) (t ∷ []) else cut (t ∷ b ∷ take m bs) []) ∷ pieces (drop m bs)
        ≡ cut_at (suc (suc m)) (if is then 1 else 0) (t ∷ b ∷ bs)
    by_decide true = refl
    by_decide false = refl
turn_more t m (suc d) (b ∷ bs) within =
    sym (ap (λ d. cut_at (suc (suc m)) d (t ∷ b ∷ bs)) (after-suc (decides t.turn) d ∙ one_after (suc d)))
  where
    one_after : (n : ℕ) → n + 1 ≡ suc n
    one_after n = omega arith

newest_within : (story : List OwnTurn) → newest story ≤ length story
newest_within [] = omega arith
newest_within (t ∷ before) = by_begin (begins_attempt t.turn) (newest before) (newest_within before)
  where
    by_begin : (b : Bool) (m : ℕ) → m ≤ length before → (if b then 1 else with_one m) ≤ length (t ∷ before)
    by_begin true m le = omega arith
    by_begin false zero le = omega arith
    by_begin false (suc m) le = omega (arith, with_one-suc m)

cut_one : (b : Bool) (m n d : ℕ) (t : OwnTurn) (before : List OwnTurn) → (if b then 1 else with_one m) ≡ suc n
    → m ≤ length before → ((k : ℕ) → m ≡ suc k → pieces before ≡ cut_at (suc k) d before)
    → (if b then cut (t ∷ []) [] ∷ pieces before else with_turn t (pieces before))
    ≡ cut_at (suc n) (if b then 0 else after_decide (decides t.turn) d) (t ∷ before)
cut_one true m n d t before is within rest =
    let first : n ≡ 0 = omega arith in
    sym (ap (λ k. cut_at (suc k) 0 (t ∷ before)) first)
cut_one false zero n d t before is within rest = absurd (omega arith)
cut_one false (suc m) n d t before is within rest =
    let next : n ≡ suc m = omega (arith, with_one-suc m) in
    ap (with_turn t) (rest m refl) ∙ turn_more t m d before within
    ∙ sym (ap (λ k. cut_at (suc k) (after_decide (decides t.turn) d) (t ∷ before)) next)

cut_story : (story : List OwnTurn) (n : ℕ) → newest story ≡ suc n
    → pieces story ≡ cut_at (suc n) (decided_count story) story
cut_story [] n is = absurd (omega arith)
cut_story (t ∷ before) n is =
    cut_one (begins_attempt t.turn) (newest before) n (decided_count before) t before is (newest_within before)
    (cut_story before)

pub cut_newest : (story : List OwnTurn) (n d : ℕ) → n ≡ newest story → d ≡ decided_count story → n ≢ 0
    → pieces story ≡ cut (drop d (take n story)) (take d (take n story)) ∷ pieces (drop n story)
cut_newest story zero d is at some = absurd (some refl)
cut_newest story (suc n) d is at some =
    cut_story story n (sym is) ∙ sym (ap (λ d. cut_at (suc n) d story) at)
