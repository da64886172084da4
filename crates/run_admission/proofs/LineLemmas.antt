-- Which test of a line may come first, by what is kept of the lines.
use Rattle.std.proofs.Common.{◌≡◌, ◌≢◌, ℕ, ◌+◌, ◌-◌, ◌<◌, ◌≤◌, ◌==◌, ◌&&◌, ◌||◌, List, length, get_or, set, map, min}
use Rattle.std.proofs.Common.{Bool, true, false, not, if◌then◌else◌, Option, Some, None, nat_le, slice_get, refl, ap}
use Rattle.std.proofs.Common.{sym}
use Rattle.std.proofs.Common.{subst, ◌∙◌, arith, inl, inr, get_or-set_other}
use Rattle.std.proofs.Math.ListN.{length-set}
use Rattle.std.specs.Option.{option_map_or}
use Rattle.std.proofs.lemmas.Grind.{get_or-set_at}
use Rattle.run_capture.proofs.Facts.{both_true}
use Rattle.run_admission.specs.declared.seat.Claim.{Claim}
use Rattle.run_admission.specs.declared.seat.Seat.{Seat}
use Rattle.run_admission.specs.declared.seat.Seat.TheVariants.{Gone}
use Rattle.run_admission.specs.InUse.{is_waiting, fits_beside}
use Rattle.run_admission.specs.Kept.{Use, nobody, comes}
use Rattle.run_admission.specs.Least.{none}
use Rattle.run_admission.specs.Lined.{Queue, IsFirst, IsMember, IsLined, IsHead, empty, without, line_of, weight_of}
use Rattle.run_admission.specs.Lined.{room_of}
use Rattle.run_admission.specs.Lined.{weight_at}
use Rattle.run_admission.proofs.WholeLemmas.{limit_at}
use Rattle.run_admission.proofs.RuleLemmas.{limit_is}

-- each limit is kept
abbrev pub AreWithin : List Use → Type 0
AreWithin us = (g : ℕ) (u : Use) → slice_get us g ≡ Some u → u.used ≤ u.limit

-- so much more fits beside what is in use exactly where it fits what is left
fits_left : (used limit weight : ℕ) → used ≤ limit → nat_le (used + weight) limit ≡ nat_le weight (limit - used)
fits_left used limit weight h = by_case (nat_le (used + weight) limit) refl
  where
    by_case : (b : Bool) → nat_le (used + weight) limit ≡ b
        → nat_le (used + weight) limit ≡ nat_le weight (limit - used)
    by_case true e =
        let le : used + weight ≤ limit = grind (arith, e) in
        let so : weight ≤ limit - used = omega arith in
        let is : nat_le weight (limit - used) ≡ true = grind (arith, so) in
        e ∙ sym is
    by_case false e =
        let more : limit < used + weight = grind (arith, e) in
        let so : limit - used < weight = omega arith in
        let is : nat_le weight (limit - used) ≡ false = grind (arith, so) in
        e ∙ sym is

nothing_fits : (n : ℕ) → nat_le 0 n ≡ true
nothing_fits n = grind arith

-- a test may come, if it waits, exactly where what it takes is left in its line
fits_by : (us : List Use) (limits : List ℕ) (w : ℕ) → map (λ u. u.limit) us ≡ limits → AreWithin us
    → (m : Bool) (o : Option ℕ) → ((g : ℕ) → o ≡ Some g → g < length us)
    → (not m || option_map_or (λ g. option_map_or (λ u. fits_beside u.used u.limit w) (slice_get us g) true) o true)
    ≡ nat_le (if m then option_map_or (λ g. min w (get_or limits g 0)) o 0 else 0)
    (room_of us (if m then option_map_or (λ g. g) o (length limits) else length limits))
fits_by us limits w is within false o there = sym (nothing_fits (room_of us (length limits)))
fits_by us limits w is within true None there = sym (nothing_fits (room_of us (length limits)))
fits_by us limits w is within true (Some g) there =
    let u = limit_at us g (there g refl) in
    let limit : get_or limits g 0 ≡ u.0.limit = ap (λ l. get_or l g 0) (sym is) ∙ limit_is us g u.0 u.1 in
    ap (λ o. option_map_or (λ u. fits_beside u.used u.limit w) o true) u.1
    ∙ fits_left u.0.used u.0.limit (min w u.0.limit) (within g u.0 u.1)
    ∙ ap (λ l. nat_le (min w l) (u.0.limit - u.0.used)) (sym limit)
    ∙ ap (λ o. nat_le (min w (get_or limits g 0)) (option_map_or (λ u. u.limit - u.used) o 0)) (sym u.1)

pub comes_is : (us : List Use) (limits : List ℕ) (c : Claim) (s : Seat) → map (λ u. u.limit) us ≡ limits → AreWithin us
    → ((g : ℕ) → c.group ≡ Some g → g < length us)
    → comes us (c, s) ≡ (is_waiting s && nat_le (weight_of limits c) (room_of us (line_of limits c)))
comes_is us limits c s is within there =
    ap (λ b. is_waiting s && b) (fits_by us limits c.weight is within c.matched c.group there)

-- of two limits that differ in one line at most, a test of another may come by both_true or by none
other_by : (us afters : List Use) (limits : List ℕ) (w line : ℕ) (m : Bool) (o : Option ℕ)
    → ((g : ℕ) → g ≢ line → slice_get afters g ≡ slice_get us g)
    → (if m then option_map_or (λ g. g) o (length limits) else length limits) ≢ line
    → (not m || option_map_or (λ g. option_map_or (λ u. fits_beside u.used u.limit w) (slice_get afters g) true) o true)
    ≡ (not m || option_map_or (λ g. option_map_or (λ u. fits_beside u.used u.limit w) (slice_get us g) true) o true)
other_by us afters limits w line false o same apart = refl
other_by us afters limits w line true None same apart = refl
other_by us afters limits w line true (Some g) same apart =
    ap (λ o. option_map_or (λ u. fits_beside u.used u.limit w) o true) (same g apart)

pub comes_other : (us afters : List Use) (limits : List ℕ) (line : ℕ) (c : Claim) (s : Seat)
    → ((g : ℕ) → g ≢ line → slice_get afters g ≡ slice_get us g) → line_of limits c ≢ line
    → comes afters (c, s) ≡ comes us (c, s)
comes_other us afters limits line c s same apart =
    ap (λ b. is_waiting s && b) (other_by us afters limits c.weight line c.matched c.group same apart)

-- a line of a test is one of the lines
line_by : (limits : List ℕ) (m : Bool) (o : Option ℕ) → ((g : ℕ) → o ≡ Some g → g < length limits)
    → (if m then option_map_or (λ g. g) o (length limits) else length limits) < length limits + 1
line_by limits false o there = omega arith
line_by limits true None there = omega arith
line_by limits true (Some g) there = omega (arith, there g refl)

pub line_inside : (limits : List ℕ) (c : Claim) → ((g : ℕ) → c.group ≡ Some g → g < length limits)
    → line_of limits c < length limits + 1
line_inside limits c there = line_by limits c.matched c.group there

-- the first of a line that stands for its tests, of which no other line changed
pub head_stays : (us afters : List Use) (limits : List ℕ) (claims : List Claim) (seats seated : List Seat)
    (line first : ℕ)
    → ((k : ℕ) → k < length claims → line_of limits (get_or claims k nobody.0) ≡ line
    → comes afters (get_or claims k nobody.0, get_or seated k Gone)
    ≡ comes us (get_or claims k nobody.0, get_or seats k Gone))
    → IsHead us limits claims seats line first → IsHead afters limits claims seated line first
head_stays us afters limits claims seats seated line first same h = record {
  before = λ k inside own e. h.before k inside own (sym (same k inside own) ∙ e);
  there = elim h.there [
    | inl e ↦ inl e
    | inr s ↦ inr (s.0, s.1, same first s.0 s.1 ∙ s.2)
  ];
}

-- the first of a line, as it is found, is the first of its tests that may come
pub head_is : (us : List Use) (limits : List ℕ) (claims : List Claim) (seats : List Seat) (lines : List Queue)
    (places : List ℕ) (line room first : ℕ) → map (λ u. u.limit) us ≡ limits → AreWithin us
    → ((k g : ℕ) → (get_or claims k nobody.0).group ≡ Some g → g < length us)
    → IsLined limits claims seats lines places → line < length lines → room ≡ room_of us line
    → IsFirst (get_or lines line empty) room first → IsHead us limits claims seats line first
head_is us limits claims seats lines places line room first is within there q known left f = record {
  before = λ k inside own e. not_after k inside own (both_true _ _ (sym (at k) ∙ e));
  there = elim f.there [
    | inl e ↦ inl e
    | inr s ↦ inr (found s.0 s.1 s.2 s.3 s.4 (is_waiting (get_or seats first Gone)) refl)
  ];
}
  where
    at : (k : ℕ) → comes us (get_or claims k nobody.0, get_or seats k Gone)
        ≡ (is_waiting (get_or seats k Gone)
        && nat_le (weight_of limits (get_or claims k nobody.0))
        (room_of us (line_of limits (get_or claims k nobody.0))))
    at k = comes_is us limits (get_or claims k nobody.0) (get_or seats k Gone) is within (there k)

    not_after : (k : ℕ) → k < length claims → line_of limits (get_or claims k nobody.0) ≡ line
        → (is_waiting (get_or seats k Gone) ≡ true)
        × (nat_le (weight_of limits (get_or claims k nobody.0)) (room_of us (line_of limits (get_or claims k nobody.0)))
        ≡ true)
        → first ≤ k
    not_after k inside own e =
        let p = get_or places k 0 in
        let here : p < length (get_or lines line empty).tests =
        omega (arith, q.inside k inside, ap (λ l. length (get_or lines l empty).tests) own) in
        let test : get_or (get_or lines line empty).tests p 0 ≡ k =
        ap (λ l. get_or (get_or lines l empty).tests p 0) (sym own) ∙ q.placed k inside in
        let m = q.members line p known here in
        let weight : get_or (get_or lines line empty).weights p 0 ≡ weight_of limits (get_or claims k nobody.0) =
        m.weighs ∙ ap (λ t. weight_at limits (get_or claims t nobody.0) (get_or seats t Gone)) test
        ∙ ap (λ b. if b then weight_of limits (get_or claims k nobody.0) else none) e.0 in
        let fits : nat_le (weight_of limits (get_or claims k nobody.0)) (room_of us line) ≡ true =
        ap (λ l. nat_le (weight_of limits (get_or claims k nobody.0)) (room_of us l)) (sym own) ∙ e.1 in
        let le : weight_of limits (get_or claims k nobody.0) ≤ room_of us line = le_of _ _ fits in
        omega (arith, f.below p here (omega (arith, weight, le, left)), test)
      where
        le_of : (a b : ℕ) → nat_le a b ≡ true → a ≤ b
        le_of a b e = grind (arith, e)

    le_true : (a c : ℕ) → a ≤ c → nat_le a c ≡ true
    le_true a c h = grind (arith, h)

    come : (p : ℕ) → get_or (get_or lines line empty).weights p 0 ≢ none
        → get_or (get_or lines line empty).weights p 0 ≤ room
        → line_of limits (get_or claims first nobody.0) ≡ line → (b : Bool) → is_waiting (get_or seats first Gone) ≡ b
        → get_or (get_or lines line empty).weights p 0
        ≡ (if b then weight_of limits (get_or claims first nobody.0) else none)
        → (is_waiting (get_or seats first Gone)
        && nat_le (weight_of limits (get_or claims first nobody.0))
        (room_of us (line_of limits (get_or claims first nobody.0)))) ≡ true
    come p some le own true e weight =
        ap (λ b. b && nat_le (weight_of limits (get_or claims first nobody.0))
        (room_of us (line_of limits (get_or claims first nobody.0)))) e
        ∙ le_true _ _ (omega (arith, weight, le, left, ap (room_of us) own))
    come p some le own false e weight = absurd (some weight)

    found : (p : ℕ) → p < length (get_or lines line empty).tests
        → get_or (get_or lines line empty).weights p 0 ≢ none → get_or (get_or lines line empty).weights p 0 ≤ room
        → get_or (get_or lines line empty).tests p 0 ≡ first → (b : Bool) → is_waiting (get_or seats first Gone) ≡ b
        → (first < length claims) × (line_of limits (get_or claims first nobody.0) ≡ line)
        × (comes us (get_or claims first nobody.0, get_or seats first Gone) ≡ true)
    found p here some le test b e =
        let m = q.members line p known here in
        let inside : first < length claims = omega (arith, m.known, test) in
        let own : line_of limits (get_or claims first nobody.0) ≡ line =
        ap (λ t. line_of limits (get_or claims t nobody.0)) (sym test) ∙ m.own in
        let weight : get_or (get_or lines line empty).weights p 0
        ≡ (if b then weight_of limits (get_or claims first nobody.0) else none) =
        m.weighs ∙ ap (λ t. weight_at limits (get_or claims t nobody.0) (get_or seats t Gone)) test
        ∙ ap (λ b. if b then weight_of limits (get_or claims first nobody.0) else none) e in
        (inside, own, at first ∙ come p some le own b e weight)

-- the tests of a line stay as one leaves, and so do the weights of others
tests_stay : (lines : List Queue) (l p j : ℕ) → l < length lines
    → (get_or (set lines l (without (get_or lines l empty) p)) j empty).tests ≡ (get_or lines j empty).tests
tests_stay lines l p j inside = by_line (j == l) refl
  where
    by_line : (b : Bool) → (j == l) ≡ b
        → (get_or (set lines l (without (get_or lines l empty) p)) j empty).tests ≡ (get_or lines j empty).tests
    by_line true e =
        let is : j ≡ l = grind arith in
        ap (λ (q : Queue). q.tests) (get_or-set_at lines l j (without (get_or lines l empty) p) empty is inside)
        ∙ ap (λ l. (get_or lines l empty).tests) (sym is)
    by_line false e =
        let apart : j ≢ l = grind arith in
        ap (λ (q : Queue). q.tests) (get_or-set_other lines l j (without (get_or lines l empty) p) empty apart)

-- a test that leaves stands no more, and the others as before
member_after : (limits : List ℕ) (claims : List Claim) (seats : List Seat) (lines : List Queue) (places : List ℕ)
    (t : ℕ) (s : Seat) → IsLined limits claims seats lines places → length claims ≡ length seats → t < length claims
    → line_of limits (get_or claims t nobody.0) < length lines → is_waiting s ≡ false
    → (j p : ℕ) → j < length lines → p < length (get_or lines j empty).tests
    → get_or (get_or (set lines (line_of limits (get_or claims t nobody.0))
    (without (get_or lines (line_of limits (get_or claims t nobody.0)) empty) (get_or places t 0))) j empty).weights p 0
    ≡ weight_at limits (get_or claims (get_or (get_or lines j empty).tests p 0) nobody.0)
    (get_or (set seats t s) (get_or (get_or lines j empty).tests p 0) Gone)
member_after limits claims seats lines places t s q paired known inside gone j p low high =
    by_line (j == l) (p == get_or places t 0) refl refl
  where
    l : ℕ
    l = line_of limits (get_or claims t nobody.0)

    test : ℕ
    test = get_or (get_or lines j empty).tests p 0

    m : IsMember limits claims seats places j p (get_or (get_or lines j empty).tests p 0)
        (get_or (get_or lines j empty).weights p 0)
    m = q.members j p low high

    other : get_or (get_or lines j empty).tests p 0 ≢ t → get_or (get_or lines j empty).weights p 0
        ≡ weight_at limits (get_or claims (get_or (get_or lines j empty).tests p 0) nobody.0)
        (get_or (set seats t s) (get_or (get_or lines j empty).tests p 0) Gone)
    other apart =
        m.weighs ∙ ap (weight_at limits (get_or claims test nobody.0))
        (sym (get_or-set_other seats t test s Gone apart))

    left : j ≡ l
        → get_or (get_or (set lines l (without (get_or lines l empty) (get_or places t 0))) j empty).weights p 0
        ≡ get_or (set (get_or lines l empty).weights (get_or places t 0) none) p 0
    left is =
        ap (λ (q : Queue). get_or q.weights p 0)
        (get_or-set_at lines l j (without (get_or lines l empty) (get_or places t 0)) empty is inside)

    same_weight : j ≡ l → get_or (get_or lines l empty).weights p 0 ≡ get_or (get_or lines j empty).weights p 0
    same_weight is = ap (λ l. get_or (get_or lines l empty).weights p 0) (sym is)

    weightless : weight_at limits (get_or claims t nobody.0) s ≡ none
    weightless = ap (λ b. if b then weight_of limits (get_or claims t nobody.0) else none) gone

    by_line : (b c : Bool) → (j == l) ≡ b → (p == get_or places t 0) ≡ c
        → get_or (get_or (set lines l (without (get_or lines l empty) (get_or places t 0))) j empty).weights p 0
        ≡ weight_at limits (get_or claims (get_or (get_or lines j empty).tests p 0) nobody.0)
        (get_or (set seats t s) (get_or (get_or lines j empty).tests p 0) Gone)
    by_line false c e f =
        let apart : j ≢ l = grind arith in
        ap (λ (q : Queue). get_or q.weights p 0)
        (get_or-set_other lines l j (without (get_or lines l empty) (get_or places t 0)) empty apart)
        ∙ other (λ is. apart (sym m.own ∙ ap (λ t. line_of limits (get_or claims t nobody.0)) is))
    by_line true false e f =
        let is : j ≡ l = grind arith in
        let apart : p ≢ get_or places t 0 = grind arith in
        left is
        ∙ get_or-set_other (get_or lines l empty).weights (get_or places t 0) p none 0 apart
        ∙ same_weight is
        ∙ other (λ same. apart (sym m.there ∙ ap (λ t. get_or places t 0) same))
    by_line true true e f =
        let is : j ≡ l = grind arith in
        let here : p ≡ get_or places t 0 = grind arith in
        let it : get_or (get_or lines j empty).tests p 0 ≡ t =
        ap (λ j. get_or (get_or lines j empty).tests p 0) is
        ∙ ap (λ p. get_or (get_or lines l empty).tests p 0) here ∙ q.placed t known in
        left is
        ∙ get_or-set_at (get_or lines l empty).weights (get_or places t 0) p none 0 here
        (omega (arith, q.inside t known, q.even l inside))
        ∙ sym weightless
        ∙ ap (weight_at limits (get_or claims t nobody.0))
        (sym (get_or-set_at seats t (get_or (get_or lines j empty).tests p 0) s Gone it (omega arith)))
        ∙ ap (λ t'. weight_at limits (get_or claims t' nobody.0)
        (get_or (set seats t s) (get_or (get_or lines j empty).tests p 0) Gone)) (sym it)

pub lined_leave : (limits : List ℕ) (claims : List Claim) (seats : List Seat) (lines : List Queue) (places : List ℕ)
    (t : ℕ) (s : Seat) → IsLined limits claims seats lines places → length claims ≡ length seats → t < length claims
    → line_of limits (get_or claims t nobody.0) < length lines → is_waiting s ≡ false
    → IsLined limits claims (set seats t s) (set lines (line_of limits (get_or claims t nobody.0))
    (without (get_or lines (line_of limits (get_or claims t nobody.0)) empty) (get_or places t 0))) places
lined_leave limits claims seats lines places t s q paired known inside gone = record {
  count = length-set lines l w ∙ q.count;
  all = q.all;
  even = λ j h. evens j (omega (arith, h, length-set lines l w)) (j == l) refl;
  inside = λ k h. omega (arith, q.inside k h, ap length (stay (line_of limits (get_or claims k nobody.0))));
  placed = λ k h. ap (λ ts. get_or ts (get_or places k 0) 0) (stay (line_of limits (get_or claims k nobody.0)))
      ∙ q.placed k h;
  members = λ j p low high.
      member j p (omega (arith, low, length-set lines l w)) (omega (arith, high, ap length (stay j)));
}
  where
    l : ℕ
    l = line_of limits (get_or claims t nobody.0)

    w : Queue
    w = without (get_or lines l empty) (get_or places t 0)

    stay : (j : ℕ) → (get_or (set lines l (without (get_or lines l empty) (get_or places t 0))) j empty).tests
        ≡ (get_or lines j empty).tests
    stay j = tests_stay lines l (get_or places t 0) j inside

    evens : (j : ℕ) → j < length lines → (b : Bool) → (j == l) ≡ b
        → length (get_or (set lines l (without (get_or lines l empty) (get_or places t 0))) j empty).weights
        ≡ length (get_or (set lines l (without (get_or lines l empty) (get_or places t 0))) j empty).tests
    evens j h true e =
        let is : j ≡ l = grind arith in
        ap (λ (q : Queue). length q.weights) (get_or-set_at lines l j w empty is inside)
        ∙ length-set (get_or lines l empty).weights (get_or places t 0) none ∙ q.even l inside
        ∙ ap (λ l. length (get_or lines l empty).tests) (sym is) ∙ sym (ap length (stay j))
    evens j h false e =
        let apart : j ≢ l = grind arith in
        ap (λ (q : Queue). length q.weights) (get_or-set_other lines l j w empty apart) ∙ q.even j h
        ∙ sym (ap length (stay j))

    member : (j p : ℕ) → j < length lines → p < length (get_or lines j empty).tests
        → IsMember limits claims (set seats t s) places j p
        (get_or (get_or (set lines l (without (get_or lines l empty) (get_or places t 0))) j empty).tests p 0)
        (get_or (get_or (set lines l (without (get_or lines l empty) (get_or places t 0))) j empty).weights p 0)
    member j p low high =
        let m = q.members j p low high in
        subst (λ ts. IsMember limits claims (set seats t s) places j p (get_or ts p 0)
        (get_or (get_or (set lines l (without (get_or lines l empty) (get_or places t 0))) j empty).weights p 0))
        (sym (stay j))
        record {
          known = m.known;
          own = m.own;
          there = m.there;
          weighs = member_after limits claims seats lines places t s q paired known inside gone j p low high;
        }

-- the lines stay as a test that doesn't wait moves to another seat in which it doesn't
pub lined_moves : (limits : List ℕ) (claims : List Claim) (seats seated : List Seat) (lines : List Queue)
    (places : List ℕ) → ((k : ℕ) → is_waiting (get_or seated k Gone) ≡ is_waiting (get_or seats k Gone))
    → IsLined limits claims seats lines places → IsLined limits claims seated lines places
lined_moves limits claims seats seated lines places same q = record {
  count = q.count;
  all = q.all;
  even = q.even;
  inside = q.inside;
  placed = q.placed;
  members = λ j p low high.
      let m = q.members j p low high in
      let t = get_or (get_or lines j empty).tests p 0 in
      record {
        known = m.known;
        own = m.own;
        there = m.there;
        weighs = m.weighs ∙ ap (λ b. if b then weight_of limits (get_or claims t nobody.0) else none) (sym (same t));
      };
}
