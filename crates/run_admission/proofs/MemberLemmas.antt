-- How many tests are of each group, counted one test after another.
use Rattle.std.proofs.Common.{◌≡◌, ◌≢◌, ℕ, ◌+◌, ◌<◌, ◌^◌, ◌==◌, List, length, get_or, set, take, replicate, Bool, true}
use Rattle.std.proofs.Common.{false}
use Rattle.std.proofs.Common.{Some, None, count_by, refl, ap, sym, ◌∙◌, arith, get_or-set_other}
use Rattle.std.specs.Option.{option_map_or}
use Rattle.std.proofs.Math.ListN.{length-set}
use Rattle.std.proofs.lemmas.Grind.{get_or-set_at}
use Rattle.std.proofs.lemmas.List.{length-replicate, get_or-replicate, get_or_default}
use Rattle.std.proofs.lemmas.List.Sums.{count_by-le-length, count_by_more_yes, count_by_more_no}
use Rattle.run_admission.specs.declared.seat.Claim.{Claim}
use Rattle.run_admission.specs.InUse.{is_of}
use Rattle.run_admission.specs.Kept.{AreMembers, nobody}

-- before any test
pub none_counted : (many : ℕ) (claims : List Claim) → AreMembers many (take 0 claims) (replicate many 0)
none_counted many claims = record {
  all = length-replicate many 0;
  each = λ g h. get_or-replicate many g 0 0 h;
}

-- a test of no group
pub none_more : (many n : ℕ) (claims : List Claim) (counts : List ℕ) → AreMembers many (take n claims) counts
    → n < length claims → (get_or claims n nobody.0).group ≡ None → AreMembers many (take (n + 1) claims) counts
none_more many n claims counts so inside none = record {
  all = so.all;
  each = λ g h. so.each g h
      ∙ sym (count_by_more_no (is_of g) claims n nobody.0 inside (ap (λ o. option_map_or (λ h. h == g) o false) none));
}

-- a test of a group
pub one_more : (many n h was : ℕ) (claims : List Claim) (counts : List ℕ) → AreMembers many (take n claims) counts
    → n < length claims → (get_or claims n nobody.0).group ≡ Some h → h < many → was ≡ get_or counts h was
    → AreMembers many (take (n + 1) claims) (set counts h (was + 1))
one_more many n h was claims counts so inside some there stood = record {
  all = length-set counts h (was + 1) ∙ so.all;
  each = λ g below. by_group g below (g == h) refl;
}
  where
    of : (g : ℕ) → is_of g (get_or claims n nobody.0) ≡ (h == g)
    of g = ap (λ o. option_map_or (λ h. h == g) o false) some

    by_group : (g : ℕ) → g < many → (b : Bool) → (g == h) ≡ b
        → get_or (set counts h (was + 1)) g 0 ≡ count_by (is_of g) (take (n + 1) claims)
    by_group g below true e =
        let is : g ≡ h = grind arith in
        let same : (h == g) ≡ true = grind (arith, is) in
        get_or-set_at counts h g (was + 1) 0 is (omega (arith, so.all, there))
        ∙ ap (λ n. n + 1) (stood ∙ get_or_default counts h was 0 (omega (arith, so.all, there)))
        ∙ ap (λ k. get_or counts k 0 + 1) (sym is) ∙ ap (λ n. n + 1) (so.each g below)
        ∙ sym (count_by_more_yes (is_of g) claims n nobody.0 inside (of g ∙ same))
    by_group g below false e =
        let apart : g ≢ h = grind arith in
        let other : (h == g) ≡ false = grind (arith, apart) in
        get_or-set_other counts h g (was + 1) 0 apart ∙ so.each g below
        ∙ sym (count_by_more_no (is_of g) claims n nobody.0 inside (of g ∙ other))

-- few tests are of each group, where there are few
pub few_of_each : (many : ℕ) (claims : List Claim) (counts : List ℕ) → AreMembers many claims counts
    → length claims < 2 ^ 32 → (g : ℕ) → g < many → get_or counts g 0 < 2 ^ 32
few_of_each many claims counts so few g h = omega (arith, so.each g h, count_by-le-length (is_of g) claims, few)
