-- The lines of a sub-run as it begins, built test by test.
use Rattle.std.proofs.Common.{◌≡◌, ◌≢◌, ℕ, zero, suc, ◌+◌, ◌<◌, ◌==◌, List, [], ◌∷◌, ◌++◌, length, get_or, set, map}
use Rattle.std.proofs.Common.{replicate, Bool}
use Rattle.std.proofs.Common.{true, false, Some, refl, ap, sym, subst, ◌∙◌, arith, get_or-set_other}
use Rattle.std.proofs.Math.ListN.{length-set}
use Rattle.std.proofs.lemmas.Grind.{get_or-set_at}
use Rattle.std.proofs.lemmas.List.{length-append, length-replicate, get_or-replicate, get_or_append_left, get_or_at}
use Rattle.run_admission.specs.declared.seat.Claim.{Claim}
use Rattle.run_admission.specs.declared.seat.Seat.TheVariants.{Waiting, Gone}
use Rattle.run_admission.specs.Kept.{Use, nobody}
use Rattle.run_admission.specs.Lined.{Queue, IsInOrder, IsFirst, IsJoined, IsDrafted, IsLined, IsQueued, HasFirsts}
use Rattle.run_admission.specs.Lined.{empty}
use Rattle.run_admission.specs.Lined.{joined}
use Rattle.run_admission.specs.Lined.{line_of, weight_of, weight_at, room_of}
use Rattle.run_admission.proofs.LineLemmas.{AreWithin, head_is, line_inside}
use Rattle.run_admission.proofs.QueueLemmas.{AreThere}
use Rattle.run_admission.proofs.ListLemmas.{get_default}

-- at first no line has a test
pub drafted_first : (limits : List ℕ) (claims : List Claim)
    → IsDrafted limits claims 0 (replicate (length limits + 1) empty) []
drafted_first limits claims = record {
  count = length-replicate (length limits + 1) empty;
  all = refl;
  within = omega arith;
  order = λ l h. subst (λ (q : Queue). IsInOrder q.tests q.weights) (sym (at l (omega (arith, h, many))))
      (record { many = refl; rising = λ p q a b. absurd (omega arith) });
  inside = λ k h. absurd (omega arith);
  placed = λ k h. absurd (omega arith);
  members = λ l p low high.
      absurd (omega (arith, high, ap (λ (q : Queue). length q.tests) (at l (omega (arith, low, many)))));
}
  where
    many : length (replicate (length limits + 1) empty) ≡ length limits + 1
    many = length-replicate (length limits + 1) empty

    at : (l : ℕ) → l < length limits + 1 → get_or (replicate (length limits + 1) empty) l empty ≡ empty
    at l h = get_or-replicate (length limits + 1) l empty empty h

-- a test at a place stands there, however it is read
joined_by : (limits : List ℕ) (claims : List Claim) (joins : ℕ) (places : List ℕ) (l p t w test weight : ℕ) → test ≡ t
    → weight ≡ w → IsJoined limits claims joins places l p t w → IsJoined limits claims joins places l p test weight
joined_by limits claims joins places l p t w test weight e f j = record {
  known = omega (arith, j.known);
  own = ap (λ t. line_of limits (get_or claims t nobody.0)) e ∙ j.own;
  there = ap (λ t. get_or places t 0) e ∙ j.there;
  weighs = f ∙ j.weighs ∙ ap (λ t. weight_of limits (get_or claims t nobody.0)) (sym e);
}

-- a line that has a test is one of the lines
past_end : (xs : List Queue) (i p : ℕ) → p < length (get_or xs i empty).tests → i < length xs
past_end [] i p h = absurd (omega arith)
past_end (x ∷ xs) zero p h = omega arith
past_end (x ∷ xs) (suc i) p h = let rest : i < length xs = past_end xs i p h in omega arith

-- a test joins the line at a place, which is its own
pub drafted_next : (limits : List ℕ) (claims : List Claim) (k l : ℕ) (lines : List Queue) (places : List ℕ)
    → IsDrafted limits claims k lines places → k < length claims → line_of limits (get_or claims k nobody.0) ≡ l
    → l < length lines
    → IsDrafted limits claims (k + 1)
    (set lines l (joined (get_or lines l empty) k (weight_of limits (get_or claims k nobody.0))))
    (places ++ length (get_or lines l empty).tests ∷ [])
drafted_next limits claims k l lines places d known own low = record {
  count = length-set lines l j ∙ d.count;
  all = omega (arith, d.all, length-append places (n ∷ []));
  within = omega arith;
  order = λ i h. orders i (omega (arith, h, length-set lines l j)) (i == l) refl;
  inside = λ t h. insides t h (t == k) refl;
  placed = λ t h. placeds t h (t == k) refl;
  members = λ i p a b. member i p (omega (arith, a, length-set lines l j)) b (i == l) (p == n) refl refl;
}
  where
    q : Queue
    q = get_or lines l empty

    n : ℕ
    n = length (get_or lines l empty).tests

    w : ℕ
    w = weight_of limits (get_or claims k nobody.0)

    j : Queue
    j = joined (get_or lines l empty) k (weight_of limits (get_or claims k nobody.0))

    here : (i : ℕ) → i ≡ l
        → get_or (set lines l (joined (get_or lines l empty) k (weight_of limits (get_or claims k nobody.0)))) i empty
        ≡ joined (get_or lines l empty) k (weight_of limits (get_or claims k nobody.0))
    here i is = get_or-set_at lines l i j empty is low

    other : (i : ℕ) → i ≢ l
        → get_or (set lines l (joined (get_or lines l empty) k (weight_of limits (get_or claims k nobody.0)))) i empty
        ≡ get_or lines i empty
    other i apart = get_or-set_other lines l i j empty apart

    -- the tests and the weights that a line had stay
    stays : (i p : ℕ) → i < length lines → p < length (get_or lines i empty).tests → (b : Bool) → (i == l) ≡ b
        → (p < length (get_or (set lines l (joined (get_or lines l empty) k (weight_of limits
        (get_or claims k nobody.0)))) i empty).tests)
        × (get_or (get_or (set lines l (joined (get_or lines l empty) k (weight_of limits
        (get_or claims k nobody.0)))) i empty).tests p 0 ≡ get_or (get_or lines i empty).tests p 0)
        × (get_or (get_or (set lines l (joined (get_or lines l empty) k (weight_of limits
        (get_or claims k nobody.0)))) i empty).weights p 0 ≡ get_or (get_or lines i empty).weights p 0)
    stays i p a h true e =
        let is : i ≡ l = grind arith in
        let inside : p < n = omega (arith, h, ap (λ l. length (get_or lines l empty).tests) is) in (
          omega (arith, inside, ap (λ (q : Queue). length q.tests) (here i is), length-append q.tests (k ∷ [])),
          ap (λ (q : Queue). get_or q.tests p 0) (here i is) ∙ get_or_append_left q.tests (k ∷ []) 0 p inside
              ∙ ap (λ l. get_or (get_or lines l empty).tests p 0) (sym is),
          ap (λ (q : Queue). get_or q.weights p 0) (here i is)
              ∙ get_or_append_left q.weights (w ∷ []) 0 p (omega (arith, inside, (d.order l low).many))
              ∙ ap (λ l. get_or (get_or lines l empty).weights p 0) (sym is),
        )
    stays i p a h false e =
        let apart : i ≢ l = grind arith in (
          omega (arith, h, ap (λ (q : Queue). length q.tests) (other i apart)),
          ap (λ (q : Queue). get_or q.tests p 0) (other i apart),
          ap (λ (q : Queue). get_or q.weights p 0) (other i apart),
        )

    orders : (i : ℕ) → i < length lines → (b : Bool) → (i == l) ≡ b
        → IsInOrder (get_or (set lines l (joined (get_or lines l empty) k (weight_of limits
        (get_or claims k nobody.0)))) i empty).tests (get_or (set lines l (joined (get_or lines l empty) k
        (weight_of limits (get_or claims k nobody.0)))) i empty).weights
    orders i h true e =
        let is : i ≡ l = grind arith in
        let o = d.order l low in
        subst (λ (q : Queue). IsInOrder q.tests q.weights) (sym (here i is))
        (record {
          many = omega (arith, o.many, length-append q.tests (k ∷ []), length-append q.weights (w ∷ []));
          rising = λ p r a b. rise p r a (omega (arith, b, length-append q.tests (k ∷ []))) (r == n) refl;
        })
      where
        rise : (p r : ℕ) → p < r → r < n + 1 → (b : Bool) → (r == n) ≡ b
            → get_or (q.tests ++ k ∷ []) p 0 < get_or (q.tests ++ k ∷ []) r 0
        rise p r a b true e =
            let last : r ≡ n = grind arith in
            let inside : p < n = omega arith in
            omega (
              arith,
              get_or_append_left q.tests (k ∷ []) 0 p inside,
              get_or_at q.tests k [] 0 r (sym last),
              (d.members l p low inside).known,
            )
        rise p r a b false e =
            let apart : r ≢ n = grind arith in
            let inside : r < n = omega arith in
            omega (
              arith,
              get_or_append_left q.tests (k ∷ []) 0 p (omega arith),
              get_or_append_left q.tests (k ∷ []) 0 r inside,
              (d.order l low).rising p r a inside,
            )
    orders i h false e =
        let apart : i ≢ l = grind arith in
        subst (λ (q : Queue). IsInOrder q.tests q.weights) (sym (other i apart)) (d.order i h)

    -- the place of an earlier test, and of this one
    place : (t : ℕ) → t < k → get_or (places ++ length (get_or lines l empty).tests ∷ []) t 0 ≡ get_or places t 0
    place t h = get_or_append_left places (n ∷ []) 0 t (omega (arith, d.all))

    mine : get_or (places ++ length (get_or lines l empty).tests ∷ []) k 0 ≡ length (get_or lines l empty).tests
    mine = get_or_at places n [] 0 k d.all

    low_of : (t : ℕ) → t < k → line_of limits (get_or claims t nobody.0) < length lines
    low_of t h = past_end lines (line_of limits (get_or claims t nobody.0)) (get_or places t 0) (d.inside t h)

    insides : (t : ℕ) → t < k + 1 → (b : Bool) → (t == k) ≡ b
        → get_or (places ++ length (get_or lines l empty).tests ∷ []) t 0
        < length (get_or (set lines l (joined (get_or lines l empty) k (weight_of limits
        (get_or claims k nobody.0)))) (line_of limits (get_or claims t nobody.0)) empty).tests
    insides t h true e =
        let is : t ≡ k = grind arith in
        let at : line_of limits (get_or claims t nobody.0) ≡ l =
        ap (λ t. line_of limits (get_or claims t nobody.0)) is ∙ own in
        omega (
          arith,
          mine,
          ap (λ t. get_or (places ++ n ∷ []) t 0) is,
          ap (λ (q : Queue). length q.tests) (here (line_of limits (get_or claims t nobody.0)) at),
          length-append q.tests (k ∷ []),
        )
    insides t h false e =
        let apart : t ≢ k = grind arith in
        let before : t < k = omega arith in
        let i = line_of limits (get_or claims t nobody.0) in
        omega (
          arith,
          place t before,
          (stays i (get_or places t 0) (low_of t before)
              (d.inside t before) (i == l) refl).0,
        )

    placeds : (t : ℕ) → t < k + 1 → (b : Bool) → (t == k) ≡ b
        → get_or (get_or (set lines l (joined (get_or lines l empty) k (weight_of limits
        (get_or claims k nobody.0)))) (line_of limits (get_or claims t nobody.0)) empty).tests
        (get_or (places ++ length (get_or lines l empty).tests ∷ []) t 0) 0 ≡ t
    placeds t h true e =
        let is : t ≡ k = grind arith in
        let at : line_of limits (get_or claims t nobody.0) ≡ l =
        ap (λ t. line_of limits (get_or claims t nobody.0)) is ∙ own in
        ap (λ (q : Queue). get_or q.tests (get_or (places ++ n ∷ []) t 0) 0)
        (here (line_of limits (get_or claims t nobody.0)) at)
        ∙ ap (λ t. get_or (q.tests ++ k ∷ []) (get_or (places ++ n ∷ []) t 0) 0) is
        ∙ ap (λ p. get_or (q.tests ++ k ∷ []) p 0) mine
        ∙ get_or_at q.tests k [] 0 n refl
        ∙ sym is
    placeds t h false e =
        let apart : t ≢ k = grind arith in
        let before : t < k = omega arith in
        let i = line_of limits (get_or claims t nobody.0) in
        ap (λ p. get_or (get_or (set lines l j) i empty).tests p 0) (place t before)
        ∙ (stays i (get_or places t 0) (low_of t before) (d.inside t before) (i == l) refl).1
        ∙ d.placed t before

    member_old : (i p : ℕ) → i < length lines → p < length (get_or lines i empty).tests
        → IsJoined limits claims (k + 1) (places ++ length (get_or lines l empty).tests ∷ []) i p
        (get_or (get_or (set lines l (joined (get_or lines l empty) k (weight_of limits
        (get_or claims k nobody.0)))) i empty).tests p 0)
        (get_or (get_or (set lines l (joined (get_or lines l empty) k (weight_of limits
        (get_or claims k nobody.0)))) i empty).weights p 0)
    member_old i p a h =
        let m = d.members i p a h in
        let s = stays i p a h (i == l) refl in
        joined_by limits claims (k + 1) (places ++ n ∷ []) i p (get_or (get_or lines i empty).tests p 0)
        (get_or (get_or lines i empty).weights p 0) _ _ s.1 s.2
        (record {
          known = omega (arith, m.known);
          own = m.own;
          there = place (get_or (get_or lines i empty).tests p 0) m.known ∙ m.there;
          weighs = m.weighs;
        })

    member : (i p : ℕ) → i < length lines
        → p < length (get_or (set lines l (joined (get_or lines l empty) k (weight_of limits
        (get_or claims k nobody.0)))) i empty).tests
        → (b c : Bool) → (i == l) ≡ b → (p == length (get_or lines l empty).tests) ≡ c
        → IsJoined limits claims (k + 1) (places ++ length (get_or lines l empty).tests ∷ []) i p
        (get_or (get_or (set lines l (joined (get_or lines l empty) k (weight_of limits
        (get_or claims k nobody.0)))) i empty).tests p 0)
        (get_or (get_or (set lines l (joined (get_or lines l empty) k (weight_of limits
        (get_or claims k nobody.0)))) i empty).weights p 0)
    member i p a h false c e f =
        let apart : i ≢ l = grind arith in
        member_old i p a (omega (arith, h, ap (λ (q : Queue). length q.tests) (other i apart)))
    member i p a h true false e f =
        let is : i ≡ l = grind arith in
        let apart : p ≢ n = grind (arith, f) in
        member_old i p a
        (omega (
          arith,
          h,
          apart,
          ap (λ (q : Queue). length q.tests) (here i is),
          length-append q.tests (k ∷ []),
          ap (λ l. length (get_or lines l empty).tests) is,
        ))
    member i p a h true true e f =
        let is : i ≡ l = grind arith in
        let last : p ≡ n = grind (arith, f) in
        joined_by limits claims (k + 1) (places ++ n ∷ []) i p k w _ _
        (ap (λ (q : Queue). get_or q.tests p 0) (here i is) ∙ get_or_at q.tests k [] 0 p (sym last))
        (ap (λ (q : Queue). get_or q.weights p 0) (here i is)
        ∙ get_or_at q.weights w [] 0 p ((d.order l low).many ∙ sym last))
        (record { known = omega arith; own = own ∙ sym is; there = mine ∙ sym last; weighs = refl })

-- all have joined, and wait
pub drafted_last : (limits : List ℕ) (claims : List Claim) (n : ℕ) (lines : List Queue) (places : List ℕ)
    → n ≡ length claims → IsDrafted limits claims n lines places
    → IsLined limits claims (replicate (length claims) Waiting) lines places
drafted_last limits claims n lines places all d = record {
  count = d.count;
  all = d.all ∙ all;
  even = λ l h. (d.order l h).many;
  inside = λ k h. d.inside k (omega arith);
  placed = λ k h. d.placed k (omega arith);
  members = λ l p a b.
      let m = d.members l p a b in
      let t = get_or (get_or lines l empty).tests p 0 in
      record {
        known = omega (arith, m.known);
        own = m.own;
        there = m.there;
        weighs = m.weighs
            ∙ ap (λ s. weight_at limits (get_or claims t nobody.0) s)
            (sym (get_or-replicate (length claims) t Waiting Gone (omega (arith, m.known))));
      };
}

-- and so the first of each line that there is room for is known
pub queued_first : (us : List Use) (claims : List Claim) (n : ℕ) (lines : List Queue) (places firsts : List ℕ)
    → n ≡ length claims → AreWithin us → AreThere us claims
    → IsDrafted (map (λ u. u.limit) us) claims n lines places → length firsts ≡ length lines
    → ((l : ℕ) → l < length lines → IsFirst (get_or lines l empty) (room_of us l) (get_or firsts l 0))
    → IsQueued us claims (replicate (length claims) Waiting)
    (record { lines = lines; places = places; firsts = firsts })
queued_first us claims n lines places firsts all within there d many each = record {
  lined = drafted_last (map (λ u. u.limit) us) claims n lines places all d;
  all = many;
  heads = λ l h. head_is us (map (λ u. u.limit) us) claims (replicate (length claims) Waiting) lines places l
      (room_of us l) (get_or firsts l 0) refl within there
      (drafted_last (map (λ u. u.limit) us) claims n lines places all d) h refl (each l h);
}

-- a line that is built is in order, where all are
pub order_at : (lines before rest : List Queue) (line : Queue) → before ++ line ∷ rest ≡ lines
    → ((l : ℕ) → l < length lines → IsInOrder (get_or lines l empty).tests (get_or lines l empty).weights)
    → IsInOrder line.tests line.weights
order_at lines before rest line is all =
    subst (λ (q : Queue). IsInOrder q.tests q.weights)
    (ap (λ l. get_or l (length before) empty) (sym is) ∙ get_or_at before line rest empty (length before) refl)
    (all (length before) (omega (arith, ap length is, length-append before (line ∷ rest))))

-- a test joins, as it was read
pub drafted_step : (limits : List ℕ) (claims : List Claim) (k line weight place : ℕ) (lines : List Queue)
    (places joins : List ℕ) (c e : Claim) (q j : Queue) → IsDrafted limits claims k lines places → k < length claims
    → ((g : ℕ) → (get_or claims k nobody.0).group ≡ Some g → g < length limits)
    → line ≡ line_of limits (get_or claims k c) → weight ≡ weight_of limits (get_or claims k e)
    → q ≡ get_or lines line q → j ≡ joined q k weight → place ≡ length q.tests → joins ≡ places ++ place ∷ []
    → IsDrafted limits claims (k + 1) (set lines line j) joins
drafted_step limits claims k line weight place lines places joins c e q j d known there own weighs read is here all =
    subst (λ l. IsDrafted limits claims (k + 1) (set lines line l) joins) (sym same)
    (subst (IsDrafted limits claims (k + 1)
    (set lines line (joined (get_or lines line empty) k (weight_of limits (get_or claims k nobody.0)))))
    (sym (all ∙ ap (λ n. places ++ n ∷ []) (here ∙ ap (λ (q : Queue). length q.tests) at)))
    (drafted_next limits claims k line lines places d known
    (ap (line_of limits) (get_default claims k nobody.0 c known) ∙ sym own) low))
  where
    low : line < length lines
    low =
        omega (
          arith,
          line_inside limits (get_or claims k nobody.0) there,
          d.count,
          own,
          ap (line_of limits) (get_default claims k c nobody.0 known),
        )

    at : q ≡ get_or lines line empty
    at = read ∙ get_default lines line q empty low

    same : j ≡ joined (get_or lines line empty) k (weight_of limits (get_or claims k nobody.0))
    same =
        is ∙ ap (λ q. joined q k weight) at
        ∙ ap (joined (get_or lines line empty) k)
        (weighs ∙ ap (weight_of limits) (get_default claims k e nobody.0 known))

-- the first of one more line is found
pub firsts_next : (us : List Use) (lines : List Queue) (k room first : ℕ) (firsts founds : List ℕ) (q : Queue)
    → HasFirsts us lines k firsts → k < length lines → q ≡ get_or lines k q → room ≡ room_of us k
    → IsFirst q room first → founds ≡ firsts ++ first ∷ [] → HasFirsts us lines (k + 1) founds
firsts_next us lines k room first firsts founds q h inside read left found is = record {
  all = omega (arith, h.all, ap length is, length-append firsts (first ∷ []));
  each = λ l low. subst (IsFirst (get_or lines l empty) (room_of us l)) (sym (ap (λ xs. get_or xs l 0) is))
      (by_line l low (l == k) refl);
}
  where
    by_line : (l : ℕ) → l < k + 1 → (b : Bool) → (l == k) ≡ b
        → IsFirst (get_or lines l empty) (room_of us l) (get_or (firsts ++ first ∷ []) l 0)
    by_line l low true e =
        let same : l ≡ k = grind arith in
        subst (IsFirst (get_or lines l empty) (room_of us l))
        (sym (get_or_at firsts first [] 0 l (h.all ∙ sym same)))
        (subst (λ r. IsFirst (get_or lines l empty) r first) (left ∙ ap (room_of us) (sym same))
        (subst (λ q. IsFirst q room first)
        (read ∙ get_default lines k q empty inside ∙ ap (λ l. get_or lines l empty) (sym same)) found))
    by_line l low false e =
        let apart : l ≢ k = grind arith in
        subst (IsFirst (get_or lines l empty) (room_of us l))
        (sym (get_or_append_left firsts (first ∷ []) 0 l (omega (arith, h.all, low, apart))))
        (h.each l (omega (arith, low, apart)))
