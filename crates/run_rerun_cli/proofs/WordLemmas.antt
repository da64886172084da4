-- The words of the program.
use Rattle.std.proofs.Common.{◌≡◌, ◌∙◌, ◌<◌, ℕ, List, [], ◌∷◌, length, map, codes, ap, sym, arith}
use Rattle.run_rerun_cli.specs.PlanWords.{IsCallOf, IsPlanOf, IsShardsOf}

-- words that begin with a command, and go on
pub says_names : {A : Type 0} (f : A → List ℕ) (word : List ℕ) (words names : List A) (command : A)
    → words ≡ command ∷ names → f command ≡ word → 0 < length names → IsCallOf word (map f words) (map f names)
says_names f word words [] command is same some = absurd (omega arith)
says_names f word words (name ∷ names) command is same some =
    (ap (map f) is ∙ ap (λ w. w ∷ map f (name ∷ names)) same, λ none. cc)

-- words that don't go on, or that begin with another command
pub none_named : {A : Type 0} (f : A → List ℕ) (word : List ℕ) (words names : List A) (command : A)
    → words ≡ command ∷ names → length names ≡ 0 → (others : List (List ℕ)) → IsCallOf word (map f words) others → ⊥
none_named f word words [] command is none others call =
    let both : f command ∷ [] ≡ word ∷ others = sym (ap (map f) is) ∙ call.0 in
    let rest : [] ≡ others = cc in call.1 (sym rest)
none_named f word words (name ∷ names) command is none others call = absurd (omega (arith, none))

pub other_named : {A : Type 0} (f : A → List ℕ) (word : List ℕ) (words names : List A) (command : A)
    → words ≡ command ∷ names → (f command ≡ word → ⊥) → (others : List (List ℕ)) → IsCallOf word (map f words) others
    → ⊥
other_named f word words names command is differs others call =
    let both : f command ∷ map f names ≡ word ∷ others = sym (ap (map f) is) ∙ call.0 in
    let first : f command ≡ word = cc in differs first

-- words are those of one call
pub one_chain : (word : List ℕ) (words names others : List (List ℕ)) → IsCallOf word words names
    → IsCallOf word words others → names ≡ others
one_chain word words names others one other = let first = one.0 in let second = other.0 in cc

-- of one command
pub one_command : (words names others : List (List ℕ)) → IsPlanOf words names → IsShardsOf words others → ⊥
one_command words names others plan shards =
    let both : codes "plan" ∷ names ≡ codes "shards" ∷ others = sym plan.0 ∙ shards.0 in
    let first : 112 ≡ 115 = ap letter both in omega (arith, first)
  where
    letter_of : List ℕ → ℕ
    letter_of [] = 0
    letter_of (c ∷ cs) = c

    letter : List (List ℕ) → ℕ
    letter [] = 0
    letter (word ∷ words) = letter_of word
