-- What a file gives is what its text says.
use Rattle.std.proofs.Common.{◌≡◌, Bool, true, false, true≢false, cond, ℕ, ◌+◌, List, [], ◌∷◌, ◌++◌, length, map}
use Rattle.std.proofs.Common.{Option, Some, Result, Ok, Err, refl, ap, sym, subst, ◌∙◌, arith, append_assoc, append-nil}
use Rattle.std.proofs.Common.{length-append}
use Rattle.std.proofs.lemmas.Cmp.{nat_list_cmp_total}
use Rattle.std.proofs.lemmas.List.{reverse-append}
use Rattle.std.proofs.lemmas.Map.Text.{is_eq-slice_cmp}
use Rattle.std.proofs.lemmas.Slice.Eq.{bytes_eq-Decides}
use Rattle.std.specs.Cmp.Lexicographic.{slice_cmp}
use Rattle.std.specs.List.{AllByRecursion}
use Rattle.std.specs.List.Sorted.{IsStrictlySortedBy}
use Rattle.std.specs.Ordering.{nat_cmp, is_eq, match_ordering, ordering_reverse}
use Rattle.std.specs.Str.{bytes_eq}
use Rattle.std.specs.Str.Lines.{lines}
use Rattle.std.specs.declared.cmp.Ordering.{Ordering}
use Rattle.std.specs.declared.cmp.Ordering.TheVariants.{Less, Equal, Greater}
use Rattle.run_commands.specs.declared.env_line.BrokenRule.{BrokenRule}
use Rattle.run_commands.specs.declared.errors.SetupScriptOutputError.{SetupScriptOutputError}
use Rattle.run_commands.specs.Pair.{Pair}
use Rattle.run_commands.specs.EnvLine.{pair_of}
use Rattle.run_commands.specs.EnvMap.{IsByName, IsLatest, value_of}
use Rattle.run_commands.specs.EnvText.{Set, IsEnvOf, IsRefusedEnv, refusal_for}
use Rattle.run_commands.specs.EnvGiven.{set_pair, set_by, env_from, env_given, IsGivenOneWay}
use Rattle.run_commands.proofs.EnvTextLemmas.{set-push, refused_for}

-- of two tests alike the first counts
cond-again : (test : Bool) (first second third : Option (List ℕ))
    → cond test first third ≡ cond test first (cond test second third)
cond-again true first second third = refl
cond-again false first second third = refl

-- of two tests that don't pass together either may come first
cond-swap : (one other : Bool) (first second third : Option (List ℕ)) → (one ≡ true → other ≡ true → ⊥)
    → cond one first (cond other second third) ≡ cond other second (cond one first third)
cond-swap true true first second third apart = absurd (apart refl refl)
cond-swap true false first second third apart = refl
cond-swap false other first second third apart = refl

-- bytes that compare as equal are equal
equal-bytes : (xs ys : List ℕ) → slice_cmp nat_cmp xs ys ≡ Equal → xs ≡ ys
equal-bytes xs ys same = (bytes_eq-Decides xs ys).0 (sym (is_eq-slice_cmp xs ys) ∙ ap is_eq same)

-- bytes of which one is above the other are not the name of both
not-both : (xs ys name : List ℕ) → slice_cmp nat_cmp xs ys ≡ Greater → bytes_eq name ys ≡ true → bytes_eq name xs ≡ true
    → ⊥
not-both xs ys name above second first =
    let same = sym ((bytes_eq-Decides name xs).0 first) ∙ (bytes_eq-Decides name ys).0 second in
    true≢false (sym ((bytes_eq-Decides xs ys).1 same) ∙ sym (is_eq-slice_cmp xs ys) ∙ ap is_eq above)

-- a name that is set has the value, and each other name what it had
value-set_pair : (name : List ℕ) (pairs : List Pair) (pair : Pair)
    → value_of name (set_pair pairs pair) ≡ cond (bytes_eq name pair.0) (Some pair.1) (value_of name pairs)
value-set_pair name [] pair = refl
value-set_pair name (first ∷ pairs) pair = by (slice_cmp nat_cmp pair.0 first.0) refl (value-set_pair name pairs pair)
  where
    by : (order : Ordering) → slice_cmp nat_cmp pair.0 first.0 ≡ order
        → value_of name (set_pair pairs pair) ≡ cond (bytes_eq name pair.0) (Some pair.1) (value_of name pairs)
        → value_of name (match_ordering order (pair ∷ first ∷ pairs) ((first.0, pair.1) ∷ pairs)
        (first ∷ set_pair pairs pair))
        ≡ cond (bytes_eq name pair.0) (Some pair.1) (value_of name (first ∷ pairs))
    by Less is later = refl
    by Equal is later =
        cond-again (bytes_eq name first.0) (Some pair.1) (Some first.1) (value_of name pairs)
        ∙ ap (λ key. cond (bytes_eq name key) (Some pair.1) (value_of name (first ∷ pairs)))
        (sym (equal-bytes pair.0 first.0 is))
    by Greater is later =
        ap (cond (bytes_eq name first.0) (Some first.1)) later
        ∙ cond-swap (bytes_eq name first.0) (bytes_eq name pair.0) (Some first.1) (Some pair.1) (value_of name pairs)
        (not-both pair.0 first.0 name is)

-- the names of these pairs are above this one
abbrev AllAbove : List ℕ → List Pair → Type 0
AllAbove key pairs = AllByRecursion (λ k. slice_cmp nat_cmp key k ≡ Less) (map (λ p. p.0) pairs)

-- what is above a key is above a lower one
all_above : (low high : List ℕ) (pairs : List Pair) → slice_cmp nat_cmp low high ≡ Less → AllAbove high pairs
    → AllAbove low pairs
all_above low high [] below all = tt
all_above low high (pair ∷ pairs) below all =
    (nat_list_cmp_total.trans low high pair.0 below all.0, all_above low high pairs below all.1)

-- a pair above a key, among pairs above it
above-set_pair : (key : List ℕ) (pairs : List Pair) (pair : Pair) → slice_cmp nat_cmp key pair.0 ≡ Less
    → AllAbove key pairs → AllAbove key (set_pair pairs pair)
above-set_pair key [] pair below all = (below, tt)
above-set_pair key (first ∷ pairs) pair below all =
    by (slice_cmp nat_cmp pair.0 first.0) (above-set_pair key pairs pair below all.1)
  where
    by : (order : Ordering) → AllAbove key (set_pair pairs pair)
        → AllAbove key (match_ordering order (pair ∷ first ∷ pairs) ((first.0, pair.1) ∷ pairs)
        (first ∷ set_pair pairs pair))
    by Less later = (below, all)
    by Equal later = all
    by Greater later = (all.0, later)

-- pairs by name stay so with one more
by_name-set_pair : (pairs : List Pair) (pair : Pair) → IsByName pairs → IsByName (set_pair pairs pair)
unfolding IsStrictlySortedBy
by_name-set_pair [] pair sorted = (tt, tt)
by_name-set_pair (first ∷ pairs) pair sorted =
    by (slice_cmp nat_cmp pair.0 first.0) refl (by_name-set_pair pairs pair sorted.1)
  where
    by : (order : Ordering) → slice_cmp nat_cmp pair.0 first.0 ≡ order → IsByName (set_pair pairs pair)
        → IsByName (match_ordering order (pair ∷ first ∷ pairs) ((first.0, pair.1) ∷ pairs)
        (first ∷ set_pair pairs pair))
    by Less is later = ((is, all_above pair.0 first.0 pairs is sorted.0), sorted)
    by Equal is later = sorted
    by Greater is later = (
      above-set_pair first.0 pairs pair
          (nat_list_cmp_total.antisymm first.0 pair.0 ∙ ap ordering_reverse is) sorted.0,
      later,
    )

-- the latest pairs, with one more
latest-set_pair : (given pairs : List Pair) (pair : Pair) → IsLatest given pairs
    → IsLatest (given ++ pair ∷ []) (set_pair pairs pair)
latest-set_pair given pairs pair so_far = record {
  by_name = by_name-set_pair pairs pair so_far.by_name;
  latest = λ name. value-set_pair name pairs pair
      ∙ ap (cond (bytes_eq name pair.0) (Some pair.1)) (so_far.latest name)
      ∙ ap (value_of name) (sym (reverse-append given (pair ∷ [])));
}

-- lines set these pairs after others, of all of which these are the latest
record SetsAfter (lines' : List (List ℕ)) (given pairs : List Pair) : Type 0 where
  pub more : List Pair
  pub sets : Set lines' more
  pub latest : IsLatest (given ++ more) pairs

-- one line before others
sets_first : (line : List ℕ) (lines' : List (List ℕ)) (given pairs : List Pair) (pair : Pair) → pair_of line ≡ Ok pair
    → SetsAfter lines' (given ++ pair ∷ []) pairs → SetsAfter (line ∷ lines') given pairs
sets_first line lines' given pairs pair says rest = record {
  more = pair ∷ rest.more;
  sets = ap (λ outcome. outcome ∷ map pair_of lines') says ∙ ap (λ outcomes. Ok pair ∷ outcomes) rest.sets;
  latest = subst (λ all. IsLatest all pairs) (append_assoc given (pair ∷ []) rest.more) rest.latest;
}

-- pairs that lines give are what they set
given_set : (lines' : List (List ℕ)) (number : ℕ) (given old pairs : List Pair) → IsLatest given old
    → env_from number old lines' ≡ Ok pairs → SetsAfter lines' given pairs
given_set [] number given old pairs so_far gives = record {
  more = [];
  sets = refl;
  latest = let same : old ≡ pairs = cc in
      subst (λ all. IsLatest all pairs) (sym (append-nil given)) (subst (λ ps. IsLatest given ps) same so_far);
}
given_set (line ∷ lines') number given old pairs so_far gives =
    by (pair_of line) refl
    (λ pair. given_set lines' (number + 1) (given ++ pair ∷ []) (set_pair old pair) pairs
    (latest-set_pair given old pair so_far)) gives
  where
    by : (says : Result Pair BrokenRule) → pair_of line ≡ says
        → ((pair : Pair) → env_from (number + 1) (set_pair old pair) lines' ≡ Ok pairs
        → SetsAfter lines' (given ++ pair ∷ []) pairs)
        → set_by number old says (λ more. env_from (number + 1) more lines') ≡ Ok pairs
        → SetsAfter (line ∷ lines') given pairs
    by (Ok pair) is later gives' = sets_first line lines' given pairs pair is (later pair gives')
    by (Err broken) is later gives' = absurd (cc)

-- an error that lines give is that of their first bad line
given_refused : (lines' read : List (List ℕ)) (number : ℕ) (given old : List Pair) (error : SetupScriptOutputError)
    → Set read given → number ≡ length read + 1 → env_from number old lines' ≡ Err error
    → IsRefusedEnv (read ++ lines') error
given_refused [] read number given old error sets counted gives = absurd (cc)
given_refused (line ∷ lines') read number given old error sets counted gives =
    by (pair_of line) refl
    (λ pair is. given_refused lines' (read ++ line ∷ []) (number + 1) (given ++ pair ∷ []) (set_pair old pair) error
    (set-push read line given pair sets is) (omega (arith, counted, length-append read (line ∷ [])))) gives
  where
    by : (says : Result Pair BrokenRule) → pair_of line ≡ says
        → ((pair : Pair) → pair_of line ≡ Ok pair → env_from (number + 1) (set_pair old pair) lines' ≡ Err error
        → IsRefusedEnv ((read ++ line ∷ []) ++ lines') error)
        → set_by number old says (λ more. env_from (number + 1) more lines') ≡ Err error
        → IsRefusedEnv (read ++ line ∷ lines') error
    by (Ok pair) is later gives' =
        subst (λ all. IsRefusedEnv all error) (append_assoc read (line ∷ []) lines') (later pair is gives')
    by (Err broken) is later gives' =
        let same : refusal_for broken number ≡ error = cc in
        subst (λ e. IsRefusedEnv (read ++ line ∷ lines') e) same
        (refused_for (read ++ line ∷ lines') broken number (record {
          before = read;
          bad = line;
          after = lines';
          split = refl;
          given = given;
          good = sets;
          breaks = is;
          counted = counted;
        }))

-- of no lines no pairs are the latest
latest_none : IsLatest [] []
unfolding IsStrictlySortedBy
latest_none = record { by_name = tt; latest = λ name. refl }

-- bytes that give pairs say them
given_says : (bytes : List ℕ) (pairs : List Pair) → SetsAfter (lines bytes) [] pairs → IsEnvOf bytes pairs
given_says bytes pairs set = record { given = set.more; lines_set = set.sets; latest = set.latest }

-- what bytes give is what they say
pub given_one_way : IsGivenOneWay
unfolding env_given
given_one_way = record {
  pairs = λ bytes pairs gives. given_says bytes pairs (given_set (lines bytes) 1 [] [] pairs latest_none gives);
  refused = λ bytes error gives. given_refused (lines bytes) [] 1 [] [] error refl refl gives;
}
