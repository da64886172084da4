-- Scripts that are found one by one.
use Rattle.std.proofs.Common.{◌≡◌, ◌∙◌, ℕ, zero, suc, ◌+◌, ◌<◌, ◌||◌, Bool, true, false, List, [], ◌∷◌, ◌++◌}
use Rattle.std.proofs.Common.{length, take, drop, map, cond, if◌then◌else◌, filter, find, get_or, Option, Some, None}
use Rattle.std.proofs.Common.{refl, sym, ap, append_assoc, arith}
use Rattle.std.proofs.lemmas.List.{append-nil, drop_more, length-map, map-append, take_more}
use Rattle.std.proofs.lemmas.List.Elements.{filter_more, filter_map-append}
use Rattle.std.specs.List.{filter_map, list_any, zip}
use Rattle.run_profile.specs.declared.scripts.SetupScript.{SetupScript}
use Rattle.run_profile.specs.declared.settings.Profile.{Profile}
use Rattle.run_plan.specs.Listed.{AskedTest}
use Rattle.run_plan.specs.Scripted.{has_name, in_order, script_numbers, wants}
use Rattle.run_plan.specs.declared.choices.Picks.{Picks}
use denote.Ref.{Bor}

-- a script more, or none
filtered : (P : SetupScript → Bool) (xs : List SetupScript) (i : ℕ) (x : SetupScript) (b : Bool) → i < length xs
    → x ≡ get_or xs i x → P x ≡ b → filter P (take (i + 1) xs) ≡ filter P (take i xs) ++ cond b (x ∷ []) []
filtered P xs i x b within is test =
    filter_more P xs i x within
    ∙ ap (λ y. filter P (take i xs) ++ cond (P y) (y ∷ []) []) (sym is)
    ∙ ap (λ c. filter P (take i xs) ++ cond c (x ∷ []) []) test

pub found_more : (P : SetupScript → Bool) (xs : List SetupScript) (seen new : List (Bor SetupScript)) (i : ℕ)
    (x : Bor SetupScript) → i < length xs → x.now ≡ get_or xs i x.now → P x.now ≡ true → new ≡ seen ++ x ∷ []
    → map (λ s. s.now) seen ≡ filter P (take i xs) → map (λ s. s.now) new ≡ filter P (take (i + 1) xs)
found_more P xs seen new i x within is test made h =
    ap (map (λ s. s.now)) made ∙ map-append (λ s. s.now) seen (x ∷ []) ∙ ap (λ l. l ++ x.now ∷ []) h
    ∙ sym (filtered P xs i x.now true within is test)

pub found_same : (P : SetupScript → Bool) (xs : List SetupScript) (seen : List (Bor SetupScript)) (i : ℕ)
    (x : Bor SetupScript) → i < length xs → x.now ≡ get_or xs i x.now → P x.now ≡ false
    → map (λ s. s.now) seen ≡ filter P (take i xs) → map (λ s. s.now) seen ≡ filter P (take (i + 1) xs)
found_same P xs seen i x within is test h =
    h ∙ sym (append-nil (filter P (take i xs))) ∙ sym (filtered P xs i x.now false within is test)

-- the script of a name more, or none
pub in_order_more : (names : List (List ℕ)) (scripts : List SetupScript) (i : ℕ) (name : List ℕ)
    (r : Option SetupScript) → i < length names → name ≡ get_or names i name → find (has_name name) scripts ≡ r
    → in_order (take (i + 1) names) scripts ≡ in_order (take i names) scripts ++ filter_map (λ o. o) (r ∷ [])
in_order_more names scripts i name r within is found =
    ap (λ l. in_order l scripts) (take_more names i name within ∙ ap (λ y. take i names ++ y ∷ []) (sym is))
    ∙ filter_map-append (λ n. find (has_name n) scripts) (take i names) (name ∷ [])
    ∙ ap (λ o. in_order (take i names) scripts ++ filter_map (λ p. p) (o ∷ [])) found

-- the numbers of the scripts from a place on, by whether the first is wanted
numbered : (p : Profile) (picks : Picks) (row : AskedTest × Bool) (n : ℕ) (script : SetupScript)
    (scripts : List SetupScript) (b : Bool) → wants p picks script row ≡ b
    → script_numbers p picks row n (script ∷ scripts)
    ≡ cond b (n ∷ []) [] ++ script_numbers p picks row (n + 1) scripts
numbered p picks row n script scripts true e =
    ap (λ c. if c then n ∷ script_numbers p picks row (n + 1) scripts else script_numbers p picks row (n + 1) scripts) e
numbered p picks row n script scripts false e =
    ap (λ c. if c then n ∷ script_numbers p picks row (n + 1) scripts else script_numbers p picks row (n + 1) scripts) e

pub number_more : (p : Profile) (picks : Picks) (row : AskedTest × Bool) (scripts : List SetupScript)
    (seen new whole : List ℕ) (n i : ℕ) (script : SetupScript) (b : Bool) → i < length scripts
    → script ≡ get_or scripts i script → wants p picks script row ≡ b → new ≡ seen ++ cond b (n ∷ []) []
    → seen ++ script_numbers p picks row n (drop i scripts) ≡ whole
    → new ++ script_numbers p picks row (n + 1) (drop (i + 1) scripts) ≡ whole
number_more p picks row scripts seen new whole n i script b within is test made h =
    let rest = script_numbers p picks row (n + 1) (drop (i + 1) scripts) in
    let there : drop i scripts ≡ script ∷ drop (i + 1) scripts
    = drop_more scripts i script within ∙ ap (λ w. w ∷ drop (i + 1) scripts) (sym is) in
    ap (λ l. l ++ rest) made ∙ append_assoc seen (cond b (n ∷ []) []) rest
    ∙ ap (λ l. seen ++ l) (sym (numbered p picks row n script (drop (i + 1) scripts) b test))
    ∙ ap (λ l. seen ++ script_numbers p picks row n l) (sym there) ∙ h

-- a test for each pair, of what is seen of its first
pub any_seen : {R A B : Type 0} (g : R → A) (f : A × B → Bool) (rs : List R) (bs : List B)
    → list_any (λ (pair : R × B). f (g pair.0, pair.1)) (zip rs bs) ≡ list_any f (zip (map g rs) bs)
any_seen g f [] bs = refl
any_seen g f (r ∷ rs) [] = refl
any_seen g f (r ∷ rs) (b ∷ bs) = ap (λ t. f (g r, b) || t) (any_seen g f rs bs)

-- what stands at a place, of what is seen of a list
pub seen_within : (xs : List (Bor SetupScript)) (i : ℕ) → i < length xs → i < length (map (λ s. s.now) xs)
seen_within xs i h = rw length-map h

pub seen_at : (xs : List (Bor SetupScript)) (i : ℕ) (x : Bor SetupScript) → i < length xs → x ≡ get_or xs i x
    → x.now ≡ get_or (map (λ s. s.now) xs) i x.now
seen_at [] i x within is = absurd (omega (arith, within))
seen_at (y ∷ ys) zero x within is = ap (λ (s : Bor SetupScript). s.now) is
seen_at (y ∷ ys) (suc i) x within is = seen_at ys i x (omega (arith, within)) is

pub length_seen : (xs : List (Bor SetupScript)) (m : ℕ) → m < length xs → m < length (map (λ s. s.now) xs)
length_seen xs m h = rw length-map h
