-- Units after a turn, and what is kept in their place after it.
use Rattle.std.proofs.Common.{◌≡◌, ◌≢◌, inl, inr, ℕ, ◌<◌, ◌≤◌, ◌==◌, List, [], ◌∷◌, ◌++◌, length, get_or, set, map}
use Rattle.std.proofs.Common.{nat_lt, Bool, true, false, if◌then◌else◌, Option, Some, None, option_map}
use Rattle.std.proofs.Common.{get_or-set_other, length-set, refl, ap, sym, subst, ◌∙◌, arith}
use Rattle.std.proofs.lemmas.Grind.{get_or-set_at}
use Rattle.std.proofs.lemmas.List.{length-map, set_past, set-get_or}
use Rattle.run_events.specs.declared.request.Request.{Request}
use Rattle.run_events.specs.declared.settings.Settings.{Settings}
use Rattle.run_model.specs.declared.happening.UnitPart.{UnitPart}
use Rattle.run_model.specs.declared.happening.UnitPart.TheVariants.{Joins, Acts}
use Rattle.run_model.specs.declared.unit_turn.UnitTurn.{UnitTurn}
use Rattle.run_model.specs.declared.unit_view.UnitView.{UnitView}
use Rattle.run_model.specs.Environment.{number}
use Rattle.run_model.specs.Admission.{is_done}
use Rattle.run_model.specs.Unit.{is_live, reached, row, row_at, at_moment}
use Rattle.run_model.specs.Board.{units_after, reach_all}
use Rattle.run_engine.specs.Forgotten.{line_kept, latest_kept, AreOver, MayForget, AreForgotten}
use Rattle.run_engine.proofs.ForgottenLemmas.{at_map, last_is}

-- what may be kept, by what both are
pub kept_by : (p : Settings) (k : ℕ) (u v w x : Option UnitView) → w ≡ u → x ≡ v → MayForget p k u v
    → MayForget p k w x
kept_by p k u v w x a b m =
    subst (λ w. MayForget p k w x) (sym a) (subst (λ x. MayForget p k u x) (sym b) m)

-- what is kept may be kept otherwise
pub over_more : (p : Settings) (k : ℕ) (u v w : Option UnitView) → MayForget p k u v → AreOver p k v w
    → AreOver p k u w
over_more p k u v w (inl e) more = subst (λ u. AreOver p k u w) e more
over_more p k u v w (inr o) more = record {
  test = o.test;
  over = o.over;
  kept_over = more.kept_over;
  line = o.line;
  kept_line = more.kept_line;
  latest = omega (arith, o.latest, more.latest);
}

-- one unit, and what is kept in its place, are set
pub forgotten-set : (p : Settings) (us vs : List (Option UnitView)) (j : ℕ) (u v : Option UnitView)
    → AreForgotten p us vs → MayForget p j u v → AreForgotten p (set us j u) (set vs j v)
forgotten-set p us vs j u v h m = record {
  whole = length-set vs j v ∙ h.whole ∙ sym (length-set us j u);
  each = λ k. by_place k (j == k) refl;
}
  where
    by_room : (k : ℕ) (b : Bool) → k ≡ j → nat_lt j (length us) ≡ b
        → MayForget p k (get_or (set us j u) k None) (get_or (set vs j v) k None)
    by_room k true here e =
        let within : j < length us = grind (arith, e) in
        let kept_within : j < length vs = omega (arith, h.whole) in
        kept_by p k u v _ _ (get_or-set_at us j k u None here within) (get_or-set_at vs j k v None here kept_within)
        (subst (λ k. MayForget p k u v) (sym here) m)
    by_room k false here e =
        let past : length us ≤ j = grind (arith, e) in
        let kept_past : length vs ≤ j = omega (arith, h.whole) in
        kept_by p k (get_or us k None) (get_or vs k None) _ _ (ap (λ us. get_or us k None) (set_past us j u past))
        (ap (λ vs. get_or vs k None) (set_past vs j v kept_past)) (h.each k)

    by_place : (k : ℕ) (b : Bool) → (j == k) ≡ b
        → MayForget p k (get_or (set us j u) k None) (get_or (set vs j v) k None)
    by_place k true e =
        let here : k ≡ j = grind (arith, e) in by_room k (nat_lt j (length us)) here refl
    by_place k false e =
        let apart : k ≢ j = grind (arith, e) in
        kept_by p k (get_or us k None) (get_or vs k None) _ _ (get_or-set_other us j k u None apart)
        (get_or-set_other vs j k v None apart) (h.each k)

-- one more unit is kept otherwise
pub forgotten-one : (p : Settings) (us vs : List (Option UnitView)) (k : ℕ) (v : Option UnitView)
    → AreForgotten p us vs → MayForget p k (get_or us k None) v → AreForgotten p us (set vs k v)
forgotten-one p us vs k v h m = subst (λ us. AreForgotten p us (set vs k v)) (set-get_or us k None)
    (forgotten-set p us vs k (get_or us k None) v h m)

-- each unit, and what is kept in its place, are changed alike
forgotten-map : (p : Settings) (f : Option UnitView → Option UnitView) (us vs : List (Option UnitView)) → f None ≡ None
    → ((k : ℕ) (u v : Option UnitView) → MayForget p k u v → MayForget p k (f u) (f v)) → AreForgotten p us vs
    → AreForgotten p (map f us) (map f vs)
forgotten-map p f us vs none all h = record {
  whole = length-map vs f ∙ h.whole ∙ sym (length-map us f);
  each = λ k. kept_by p k (f (get_or us k None)) (f (get_or vs k None)) _ _ (at us k) (at vs k)
      (all k (get_or us k None) (get_or vs k None) (h.each k));
}
  where
    at : (us : List (Option UnitView)) (k : ℕ) → get_or (map f us) k None ≡ f (get_or us k None)
    at us k = ap (get_or (map f us) k) (sym none) ∙ at_map f None us k

-- a unit that is over is over after a turn of it, with no request
abbrev acted : ℕ → UnitTurn → Option UnitView → Option UnitView
acted now turn u = option_map (λ u. (row now turn u).next) u

abbrev IsStillOver : ℕ → Option UnitView → Type 0
IsStillOver now u = (is_done u ≡ true) × (line_kept u ≡ []) × (latest_kept u ≡ now)

over_acted : (now : ℕ) (turn : UnitTurn) (u : Option UnitView) → is_done u ≡ true → line_kept u ≡ []
    → IsStillOver now (acted now turn u)
over_acted now turn None over line = cc
over_acted now turn (Some u) over line =
    subst (λ ph. IsStillOver now (Some (row_at now ph turn (at_moment now u)).next)) (sym (last_is u.phase over))
    (over, line, refl)

kept_acted : (p : Settings) (now k : ℕ) (turn : UnitTurn) (u v : Option UnitView) → MayForget p k u v
    → MayForget p k (acted now turn u) (acted now turn v)
kept_acted p now k turn u v (inl e) = inl (ap (acted now turn) e)
kept_acted p now k turn u v (inr o) =
    let was = over_acted now turn u o.over o.line in
    let is = over_acted now turn v o.kept_over o.kept_line in
    inr (record {
      test = o.test;
      over = was.0;
      kept_over = is.0;
      line = was.1;
      kept_line = is.1;
      latest = omega (arith, was.2, is.2);
    })

-- the units after a part that one had in a turn
forgotten-part : (p : Settings) (now : ℕ) (part : Option UnitPart) (us vs : List (Option UnitView))
    → AreForgotten p us vs → AreForgotten p (units_after now part us) (units_after now part vs)
forgotten-part p now None us vs h = h
forgotten-part p now (Some (Joins first)) us vs h =
    forgotten-set p us vs (number first) (Some first) (Some first) h (inl refl)
forgotten-part p now (Some (Acts j turn)) us vs h =
    forgotten-set p us vs j (acted now turn (get_or us j None)) (acted now turn (get_or vs j None)) h
    (kept_acted p now j turn (get_or us j None) (get_or vs j None) (h.each j))

-- a broadcast doesn't reach a unit that is over
unreached : (request : Request) (u : Option UnitView) → is_done u ≡ true → option_map (reached request) u ≡ u
unreached request None over = cc
unreached request (Some u) over =
    ap (λ b. Some (if b then record u { line = u.line ++ request ∷ [] } else u)) (ap is_live (last_is u.phase over))

kept_reached : (p : Settings) (request : Request) (k : ℕ) (u v : Option UnitView) → MayForget p k u v
    → MayForget p k (option_map (reached request) u) (option_map (reached request) v)
kept_reached p request k u v (inl e) = inl (ap (option_map (reached request)) e)
kept_reached p request k u v (inr o) =
    kept_by p k u v _ _ (unreached request u o.over) (unreached request v o.kept_over) (inr o)

forgotten-reach : (p : Settings) (request : Option Request) (us vs : List (Option UnitView)) → AreForgotten p us vs
    → AreForgotten p (reach_all request us) (reach_all request vs)
forgotten-reach p None us vs h = h
forgotten-reach p (Some request) us vs h =
    forgotten-map p (option_map (reached request)) us vs refl (kept_reached p request) h

-- the units after a deed
pub forgotten-moved : (p : Settings) (now : ℕ) (part : Option UnitPart) (request : Option Request)
    (us vs : List (Option UnitView)) → AreForgotten p us vs
    → AreForgotten p (reach_all request (units_after now part us)) (reach_all request (units_after now part vs))
forgotten-moved p now part request us vs h =
    forgotten-reach p request (units_after now part us) (units_after now part vs) (forgotten-part p now part us vs h)

-- and where a sub-run begins, before any was admitted
pub forgotten-anew : (p : Settings) (us vs : List (Option UnitView)) → AreForgotten p us vs
    → AreForgotten p (map (λ (u : Option UnitView). None) us) (map (λ (u : Option UnitView). None) vs)
forgotten-anew p us vs h = forgotten-map p (λ u. None) us vs refl (λ k u v m. inl refl) h
