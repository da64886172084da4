-- The steps of a predicate, and a fact in parts.
use Rattle.std.proofs.Common.{ℕ, zero, suc, ◌≡◌, ◌<◌, ◌≤◌, ◌+◌, ◌-◌, ◌==◌, ◌&&◌, List, [], ◌∷◌, ◌++◌, length, take}
use Rattle.std.proofs.Common.{drop}
use Rattle.std.proofs.Common.{Bool, true, false, Result, Ok, arith, nat_eq, get_or}
use Rattle.std.proofs.Common.{slice_range, refl}
use Rattle.std.proofs.Common.{if◌then◌else◌, codes, not, ap, ◌∙◌}
use Rattle.std.proofs.lemmas.List.{drop_more}
use Rattle.run_profile.specs.declared.scan.ByteKind.TheVariants.{Space, Name}
use Rattle.run_profile.specs.declared.cfg.PlatformFault.{PlatformFault}
use Rattle.run_profile.specs.declared.cfg.PlatformFault.TheVariants.{NotExpected}
use Rattle.run_profile.specs.Reads.{◌>>=◌, or_refuse}
use Rattle.run_profile.specs.Scan.{after_bytes, is_at}
use Rattle.run_profile.specs.Platform.{closed, is_fact, items, joins, predicate, quoted_value}
use lib.Pointwise.{pointwise}

-- a predicate whose name ends at `end`, with what stands at `next`
abbrev pub named : ℕ → List (List ℕ) → List ℕ → ℕ → ℕ → ℕ → Result (Bool × ℕ) PlatformFault
named room facts text start end next =
    if is_at text next 61 then quoted_value facts text (slice_range text start end) (after_bytes Space text (next + 1))
    else if not (is_at text next 40) then Ok (is_fact facts (slice_range text start end), next)
    else if pointwise nat_eq (slice_range text start end) (codes "not")
    then predicate room facts text (next + 1) >>= (λ inner. closed text (not inner.0) inner.1)
    else or_refuse (joins (slice_range text start end)) (NotExpected start)
    >>= (λ all. items room all facts text (next + 1))

pub predicate_named : (room : ℕ) (facts : List (List ℕ)) (text : List ℕ) (at start end next : ℕ) → 0 < room
    → start ≡ after_bytes Space text at → end ≡ after_bytes Name text start → next ≡ after_bytes Space text end
    → (end == start) ≡ false
    → predicate room facts text at ≡ named (room - 1) facts text start end next
predicate_named zero facts text at start end next some s e n differ = absurd (omega arith)
predicate_named (suc room) facts text at start end next some s e n differ =
    let before : suc room - 1 ≡ room = omega arith in
    rw (before, n, e, s) (rw (← s, ← e, differ))

and_regroup : (a b c : Bool) → (a && (b && c)) ≡ ((a && b) && c)
and_regroup true b c = refl
and_regroup false b c = refl

and_false : (a : Bool) → (a && false) ≡ false
and_false true = refl
and_false false = refl

-- equal to two lists joined: equal to both, in parts
pub pointwise_joined : (xs ys zs : List ℕ)
    → pointwise nat_eq xs (ys ++ zs)
    ≡ (pointwise nat_eq (take (length ys) xs) ys && pointwise nat_eq (drop (length ys) xs) zs)
pointwise_joined xs [] zs = refl
pointwise_joined [] (y ∷ ys) zs = refl
pointwise_joined (x ∷ xs) (y ∷ ys) zs =
    rw (pointwise_joined xs ys zs)
    (and_regroup (nat_eq x y) (pointwise nat_eq (take (length ys) xs) ys) (pointwise nat_eq (drop (length ys) xs) zs))

-- equal to a list with one more item in front, from a place on
pointwise_from : (xs zs : List ℕ) (z n : ℕ) → n < length xs
    → pointwise nat_eq (drop n xs) (z ∷ zs) ≡ (nat_eq (get_or xs n 0) z && pointwise nat_eq (drop (n + 1) xs) zs)
pointwise_from xs zs z n h = rw (drop_more xs n 0 h)

pub says_parts : (fact name quoted : List ℕ) → length name < length fact
    → pointwise nat_eq fact (name ++ 61 ∷ quoted)
    ≡ (pointwise nat_eq (take (length name) fact) name
    && (nat_eq (get_or fact (length name) 0) 61 && pointwise nat_eq (drop (length name + 1) fact) quoted))
says_parts fact name quoted h =
    pointwise_joined fact name (61 ∷ quoted)
    ∙ ap (λ b. pointwise nat_eq (take (length name) fact) name && b) (pointwise_from fact quoted 61 (length name) h)

pub says_short : (fact name quoted : List ℕ) → length fact ≤ length name
    → pointwise nat_eq fact (name ++ 61 ∷ quoted) ≡ false
says_short [] [] quoted h = refl
says_short [] (n ∷ ns) quoted h = refl
says_short (f ∷ fs) [] quoted h = absurd (omega arith)
says_short (f ∷ fs) (n ∷ ns) quoted h = rw (says_short fs ns quoted (omega arith)) (and_false (nat_eq f n))
