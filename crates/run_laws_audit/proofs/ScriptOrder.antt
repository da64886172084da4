-- News of scripts that are told one by one stand in the order of the scripts.
use Rattle.std.proofs.Common.{◌≡◌, ◌⊎◌, inl, inr, ℕ, zero, suc, ◌+◌, ◌<◌, ◌≤◌, ◌==◌, ◌||◌, List, [], ◌∷◌, ◌++◌, Bool}
use Rattle.std.proofs.Common.{true, false, if◌then◌else◌, Option, Some, None, filter_map, count_by, cond, refl, ap, sym}
use Rattle.std.proofs.Common.{subst, ◌∙◌, arith}
use Rattle.std.specs.List.{All, cons_option, flat_map, list_any, range_with_len}
use Rattle.std.proofs.lemmas.Bool.Decides.{nat_tests}
use Rattle.std.proofs.lemmas.List.Elements.{All-nil, All-cons, All-head, All-tail}
use Rattle.std.proofs.lemmas.List.Sums.{sum_by-cons}
use Rattle.run_audit_model.specs.SeenScripts.{ScriptNews, began, ended}
use Rattle.run_audit_model.specs.Statuses.{Compared}
use Rattle.run_laws_audit.proofs.ListLemmas.{split_kept}

-- the number of a script of which something is told
abbrev pub number : ScriptNews → ℕ
number (began k) = k
number (ended k status) = k

-- whether it tells the begin, and the end, of script k; and of any
abbrev pub begins_this : ℕ → ScriptNews → Bool
begins_this k (began j) = j == k
begins_this k (ended j status) = false

abbrev pub ends_this : ℕ → ScriptNews → Bool
ends_this k (began j) = false
ends_this k (ended j status) = j == k

abbrev pub is_began : ScriptNews → Bool
is_began (began j) = true
is_began (ended j status) = false

abbrev pub is_ended : ScriptNews → Bool
is_ended (began j) = false
is_ended (ended j status) = true

-- what is told of script k alone
abbrev pub if_this : ℕ → ScriptNews → Option ScriptNews
if_this k told = if number told == k then Some told else None

abbrev pub of_script : ℕ → List ScriptNews → List ScriptNews
of_script k news = filter_map (if_this k) news

-- nothing is told of a script, or its begin and then its end
abbrev pub IsShort : ℕ → List ScriptNews → Type 0
IsShort k due = (due ≡ []) ⊎ ((status : Compared) × (due ≡ began k ∷ ended k status ∷ []))

-- before the begin of a script each that was begun has a lower number, and has ended
abbrev pub AreInTurn : ℕ → ℕ → List ScriptNews → Type 0
AreInTurn low high news = (j k : ℕ) (before after : List ScriptNews) → low ≤ j → j < high → k < high
    → news ≡ before ++ began k ∷ after → list_any (begins_this j) before ≡ true
    → (j < k) × (list_any (ends_this j) before ≡ true)

abbrev pub IsWithin : ℕ → ℕ → ScriptNews → Type 0
IsWithin low high told = (low ≤ number told) × (number told < high)

abbrev pub AreWithin : ℕ → ℕ → List ScriptNews → Type 0
AreWithin low high news = All (IsWithin low high) news

-- one number is another, or not
itself : (k : ℕ) → (k == k) ≡ true
itself k = grind (arith, nat_tests)

-- of one more, what is told of a script
this_cons : (k : ℕ) (told : ScriptNews) (news : List ScriptNews) (b : Bool) → (number told == k) ≡ b
    → of_script k (told ∷ news) ≡ cons_option (if b then Some told else None) (of_script k news)
this_cons k told news b is = ap (λ b. cons_option (if b then Some told else None) (of_script k news)) is

-- news of no script below, and not of this one, are of scripts above
above_all : (low high : ℕ) (news : List ScriptNews) → AreWithin low high news → of_script low news ≡ []
    → AreWithin (low + 1) high news
above_all low high [] within none = All-nil (IsWithin (low + 1) high)
above_all low high (told ∷ news) within none =
    by_number (above_all low high news (All-tail (IsWithin low high) told news within))
    (number told == low) refl
  where
    head : IsWithin low high told
    head = All-head (IsWithin low high) told news within

    by_number : (of_script low news ≡ [] → AreWithin (low + 1) high news) → (b : Bool) → (number told == low) ≡ b
        → AreWithin (low + 1) high (told ∷ news)
    by_number later true is =
        let never : told ∷ of_script low news ≡ [] = sym (this_cons low told news true is) ∙ none in cc
    by_number later false is =
        let least : low ≤ number told = head.0 in
        let apart : low + 1 ≤ number told = grind (arith, nat_tests) in
        All-cons (IsWithin (low + 1) high) told news (apart, head.1)
        (later (sym (this_cons low told news false is) ∙ none))

-- where something was told of scripts from this one on, one by one, and of each what is due, it is due in order
module _ (high : ℕ) (due : ℕ → List ScriptNews) (short : (k : ℕ) → k < high → IsShort k (due k)) where
  abbrev AreDue : ℕ → List ScriptNews → Type 0
  AreDue low news = (k : ℕ) → low ≤ k → k < high → of_script k news ≡ due k

  -- the first is no end
  no_end : (k : ℕ) (status : Compared) (news : List ScriptNews) → k < high
      → of_script k (ended k status ∷ news) ≡ due k → ⊥
  no_end k status news below is = by_due (short k below) (sym (this_cons k (ended k status) news true (itself k)) ∙ is)
    where
      by_due : IsShort k (due k) → ended k status ∷ of_script k news ≡ due k → ⊥
      by_due (inl none) is = let never : ended k status ∷ of_script k news ≡ [] = is ∙ none in cc
      by_due (inr (other, some)) is =
          let never : ended k status ∷ of_script k news ≡ began k ∷ ended k other ∷ [] = is ∙ some in cc

  -- nor is it the begin of a later one, where the first script is told at all
  first_begins : (low : ℕ) (status : Compared) (told : ScriptNews) (news : List ScriptNews)
      → AreWithin low high (told ∷ news)
      → AreDue low (told ∷ news) → AreInTurn low high (told ∷ news)
      → of_script low (told ∷ news) ≡ began low ∷ ended low status ∷ [] → told ≡ began low
  first_begins low status (ended k other) news within due_all turn some =
      let here : (low ≤ k) × (k < high) =
      All-head (IsWithin low high) (ended k other) news within in
      absurd (no_end k other news here.1 (due_all k here.0 here.1))
  first_begins low status (began k) news within due_all turn some = by_number (k == low) refl
    where
      here : (low ≤ k) × (k < high)
      here = All-head (IsWithin low high) (began k) news within

      by_number : (b : Bool) → (k == low) ≡ b → began k ≡ began low
      by_number true is = let same : k ≡ low = grind (arith, nat_tests) in ap began same
      by_number false is =
          let later = split_kept (if_this low) news [] (began low) (ended low status ∷ [])
          (sym (this_cons low (began k) news false is) ∙ some) in
          let known = kept_this low later.element later.kept in
          let least : low ≤ k = here.0 in
          let most : k < high = here.1 in
          let lower : low < high = omega arith in
          let found = turn k low (began k ∷ later.before) later.after least most lower
          (ap (λ es. began k ∷ es) (later.is ∙ ap (λ e. later.before ++ e ∷ later.after) known))
          (ap (λ b. b || list_any (begins_this k) later.before) (itself k)) in
          let never : k < low = found.0 in absurd (omega arith)
        where
          kept_this : (k : ℕ) (told : ScriptNews) → if_this k told ≡ Some (began low) → told ≡ began low
          kept_this k told is = by_kept (number told == k) is
            where
              by_kept : (b : Bool) → (if b then Some told else None) ≡ Some (began low) → told ≡ began low
              by_kept true is = cc
              by_kept false is = cc

  -- and the second is its end
  second_ends : (low : ℕ) (status : Compared) (told : ScriptNews) (news : List ScriptNews)
      → AreWithin low high (began low ∷ told ∷ news)
      → AreDue low (began low ∷ told ∷ news) → AreInTurn low high (began low ∷ told ∷ news)
      → of_script low (told ∷ news) ≡ ended low status ∷ [] → told ≡ ended low status
  second_ends low status (ended k other) news within due_all turn some = by_number (k == low) refl
    where
      by_number : (b : Bool) → (k == low) ≡ b → ended k other ≡ ended low status
      by_number true is =
          let same : ended k other ∷ of_script low news ≡ ended low status ∷ [] =
          sym (this_cons low (ended k other) news true is) ∙ some in cc
      by_number false is =
          let here : (low ≤ k) × (k < high) =
          All-head (IsWithin low high) (ended k other) news
          (All-tail (IsWithin low high) (began low) (ended k other ∷ news) within) in
          let apart : (low == k) ≡ false = grind (arith, nat_tests) in
          absurd (no_end k other news here.1
          (sym (this_cons k (began low) (ended k other ∷ news) false apart) ∙ due_all k here.0 here.1))
  second_ends low status (began k) news within due_all turn some = by_number (k == low) refl
    where
      here : (low ≤ k) × (k < high)
      here = All-head (IsWithin low high) (began k) news
          (All-tail (IsWithin low high) (began low) (began k ∷ news) within)

      by_number : (b : Bool) → (k == low) ≡ b → began k ≡ ended low status
      by_number true is =
          let never : began k ∷ of_script low news ≡ ended low status ∷ [] =
          sym (this_cons low (began k) news true is) ∙ some in cc
      by_number false is =
          let first : (low ≤ low) × (low < high) =
          All-head (IsWithin low high) (began low) (began k ∷ news) within in
          let found = turn low k (began low ∷ []) news first.0 first.1 here.1 refl
          (ap (λ b. b || false) (itself low)) in
          let never : false ≡ true = found.1 in cc

  -- what comes after the first script is of the others
  rest_due : (low : ℕ) (status : Compared) (news : List ScriptNews)
      → AreDue low (began low ∷ ended low status ∷ news) → AreDue (low + 1) news
  rest_due low status news due_all k above below =
      let apart : (low == k) ≡ false = grind (arith, nat_tests) in
      sym (this_cons k (began low) (ended low status ∷ news) false apart
      ∙ this_cons k (ended low status) news false apart) ∙ due_all k (omega arith) below

  rest_turn : (low : ℕ) (status : Compared) (news : List ScriptNews)
      → AreInTurn low high (began low ∷ ended low status ∷ news) → AreInTurn (low + 1) high news
  rest_turn low status news turn j k before after above lower upper is some =
      let apart : (low == j) ≡ false = grind (arith, nat_tests) in
      let found = turn j k (began low ∷ ended low status ∷ before) after (omega arith) lower upper
      (ap (λ es. began low ∷ ended low status ∷ es) is)
      (ap (λ b. b || list_any (begins_this j) before) apart ∙ some) in
      (found.0, ap (λ b. b || list_any (ends_this j) before) (sym apart) ∙ found.1)

  pub in_order : (n low : ℕ) (news : List ScriptNews) → low + n ≡ high → AreWithin low high news
      → AreDue low news → AreInTurn low high news → news ≡ flat_map due (range_with_len low n)
  in_order zero low [] is within due_all turn = refl
  in_order zero low (told ∷ news) is within due_all turn =
      let here : (low ≤ number told) × (number told < high) =
      All-head (IsWithin low high) told news within in
      let least : low ≤ number told = here.0 in
      let most : number told < high = here.1 in absurd (omega arith)
  in_order (suc n) low news is within due_all turn =
      by_short (λ news. in_order n (low + 1) news (omega arith)) (short low (omega arith))
    where
      Later : Type 0
      Later = (news : List ScriptNews) → AreWithin (low + 1) high news → AreDue (low + 1) news
          → AreInTurn (low + 1) high news → news ≡ flat_map due (range_with_len (low + 1) n)

      first : of_script low news ≡ due low
      first = due_all low (omega arith) (omega arith)

      none_due : due low ≡ [] → AreDue (low + 1) news
      none_due none k above below = due_all k (omega arith) below

      later_turn : AreInTurn (low + 1) high news
      later_turn j k before after above lower upper is some = turn j k before after (omega arith) lower upper is some

      some_due : Later → (status : Compared) → due low ≡ began low ∷ ended low status ∷ [] → (news : List ScriptNews)
          → AreWithin low high news → AreDue low news → AreInTurn low high news
          → of_script low news ≡ began low ∷ ended low status ∷ []
          → news ≡ due low ++ flat_map due (range_with_len (low + 1) n)
      some_due later status due_is [] within due_all turn is = cc
      some_due later status due_is (told ∷ []) within due_all turn some =
          let begins : told ≡ began low = first_begins low status told [] within due_all turn some in
          let one : number told == low ≡ true = ap (λ told. number told == low) begins ∙ itself low in
          let never : told ∷ [] ≡ began low ∷ ended low status ∷ [] =
          sym (this_cons low told [] true one) ∙ some in cc
      some_due later status due_is (told ∷ other ∷ news) within due_all turn some =
          let begins : told ≡ began low = first_begins low status told (other ∷ news) within due_all turn some in
          by_first status due_is other news (subst (λ told. AreWithin low high (told ∷ other ∷ news)) begins within)
          (subst (λ told. AreDue low (told ∷ other ∷ news)) begins due_all)
          (subst (λ told. AreInTurn low high (told ∷ other ∷ news)) begins turn)
          (subst (λ told. of_script low (told ∷ other ∷ news) ≡ began low ∷ ended low status ∷ []) begins some)
          (ap (λ told. told ∷ other ∷ news) begins)
        where
          by_second : (status : Compared) → due low ≡ began low ∷ ended low status ∷ [] → (news : List ScriptNews)
              → AreWithin low high (began low ∷ ended low status ∷ news)
              → AreDue low (began low ∷ ended low status ∷ news)
              → AreInTurn low high (began low ∷ ended low status ∷ news) → of_script low news ≡ []
              → began low ∷ ended low status ∷ news ≡ due low ++ flat_map due (range_with_len (low + 1) n)
          by_second status due_is news within due_all turn none =
              ap (λ es. began low ∷ ended low status ∷ es)
              (later news
              (above_all low high news (All-tail (IsWithin low high) (ended low status) news
              (All-tail (IsWithin low high) (began low) (ended low status ∷ news) within)) none)
              (rest_due low status news due_all) (rest_turn low status news turn))
              ∙ ap (λ es. es ++ flat_map due (range_with_len (low + 1) n)) (sym due_is)

          by_first : (status : Compared) → due low ≡ began low ∷ ended low status ∷ [] → (other : ScriptNews)
              (news : List ScriptNews) → AreWithin low high (began low ∷ other ∷ news)
              → AreDue low (began low ∷ other ∷ news)
              → AreInTurn low high (began low ∷ other ∷ news)
              → of_script low (began low ∷ other ∷ news) ≡ began low ∷ ended low status ∷ []
              → told ∷ other ∷ news ≡ began low ∷ other ∷ news
              → told ∷ other ∷ news ≡ due low ++ flat_map due (range_with_len (low + 1) n)
          by_first status due_is other news within due_all turn some same =
              let after : of_script low (other ∷ news) ≡ ended low status ∷ [] =
              tail_is (sym (this_cons low (began low) (other ∷ news) true (itself low)) ∙ some) in
              let ends : other ≡ ended low status =
              second_ends low status other news within due_all turn after in
              same ∙ ap (λ other. began low ∷ other ∷ news) ends
              ∙ by_second status due_is news
              (subst (λ other. AreWithin low high (began low ∷ other ∷ news)) ends within)
              (subst (λ other. AreDue low (began low ∷ other ∷ news)) ends due_all)
              (subst (λ other. AreInTurn low high (began low ∷ other ∷ news)) ends turn)
              (tail_is (sym (this_cons low (ended low status) news true (itself low))
              ∙ subst (λ other. of_script low (other ∷ news) ≡ ended low status ∷ []) ends after))
            where
              tail_is : {x y : ScriptNews} {xs ys : List ScriptNews} → x ∷ xs ≡ y ∷ ys → xs ≡ ys
              tail_is e = cc

      by_short : Later → IsShort low (due low) → news ≡ due low ++ flat_map due (range_with_len (low + 1) n)
      by_short later (inl none) =
          later news (above_all low high news within (first ∙ none))
          (none_due none) later_turn
          ∙ ap (λ es. es ++ flat_map due (range_with_len (low + 1) n)) (sym none)
      by_short later (inr (status, some)) = some_due later status some news within due_all turn (first ∙ some)

  -- the first of what is due in order ends as much as it begins, or begins a script that it doesn't end
  abbrev pub IsBalanced : ℕ → List ScriptNews → Type 0
  IsBalanced low news = (count_by is_began news ≡ count_by is_ended news)
      ⊎ ((j : ℕ) × (low ≤ j) × (j < high) × (list_any (begins_this j) news ≡ true)
      × (list_any (ends_this j) news ≡ false))

  pub balanced : (n low : ℕ) (news later : List ScriptNews) → low + n ≡ high
      → flat_map due (range_with_len low n) ≡ news ++ later → IsBalanced low news
  balanced n low [] later size is = inl refl
  balanced zero low (told ∷ news) later size is = cc
  balanced (suc n) low (told ∷ news) later size is =
      by_short (λ news later is. balanced n (low + 1) news later (omega arith) is) (short low (omega arith))
    where
      Later : Type 0
      Later = (news later : List ScriptNews) → flat_map due (range_with_len (low + 1) n) ≡ news ++ later
          → IsBalanced (low + 1) news

      lower : (news : List ScriptNews) → IsBalanced (low + 1) news → IsBalanced low news
      lower news (inl same) = inl same
      lower news (inr (j, above, below, some, none)) = inr (j, omega arith, below, some, none)

      -- the begin and the end of the first script
      with_first : (status : Compared) (news : List ScriptNews) → IsBalanced (low + 1) news
          → IsBalanced low (began low ∷ ended low status ∷ news)
      with_first status news (inl same) =
          let begun : count_by is_began (began low ∷ ended low status ∷ news) ≡ 1 + (0 + count_by is_began news) =
          sum_by-cons (λ told. cond (is_began told) 1 0) (began low) (ended low status ∷ news)
          ∙ ap (λ n. 1 + n) (sum_by-cons (λ told. cond (is_began told) 1 0) (ended low status) news) in
          let over : count_by is_ended (began low ∷ ended low status ∷ news) ≡ 0 + (1 + count_by is_ended news) =
          sum_by-cons (λ told. cond (is_ended told) 1 0) (began low) (ended low status ∷ news)
          ∙ ap (λ n. 0 + n) (sum_by-cons (λ told. cond (is_ended told) 1 0) (ended low status) news) in
          inl (omega (arith, begun, over, same))
      with_first status news (inr (j, above, below, some, none)) =
          let apart : (low == j) ≡ false = grind (arith, nat_tests) in
          inr (
            j,
            omega arith,
            below,
            ap (λ b. b || list_any (begins_this j) news) apart ∙ some,
            ap (λ b. b || list_any (ends_this j) news) apart ∙ none,
          )

      by_two : Later → (status : Compared) (told : ScriptNews) (news later : List ScriptNews)
          → began low ∷ ended low status ∷ flat_map due (range_with_len (low + 1) n) ≡ (told ∷ news) ++ later
          → IsBalanced low (told ∷ news)
      by_two rest status told [] later is =
          let begins : began low ≡ told = cc in
          inr (
            low,
            omega arith,
            omega arith,
            ap (λ told. begins_this low told || false) (sym begins) ∙ ap (λ b. b || false) (itself low),
            ap (λ told. ends_this low told || false) (sym begins),
          )
      by_two rest status told (other ∷ news) later is =
          let begins : began low ≡ told = cc in
          let ends : ended low status ≡ other = cc in
          let more : flat_map due (range_with_len (low + 1) n) ≡ news ++ later = cc in
          subst (λ told. IsBalanced low (told ∷ other ∷ news)) begins
          (subst (λ other. IsBalanced low (began low ∷ other ∷ news)) ends
          (with_first status news (rest news later more)))

      by_short : Later → IsShort low (due low) → IsBalanced low (told ∷ news)
      by_short rest (inl none) =
          lower (told ∷ news) (rest (told ∷ news) later
          (ap (λ es. es ++ flat_map due (range_with_len (low + 1) n)) (sym none) ∙ is))
      by_short rest (inr (status, some)) =
          by_two rest status told news later
          (ap (λ es. es ++ flat_map due (range_with_len (low + 1) n)) (sym some) ∙ is)
