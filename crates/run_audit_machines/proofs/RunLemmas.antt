-- A machine over the parts of a whole run: it accepts just the events whose parts are right, and leads to an end.
use Rattle.std.specs.Prelude.{IfSome}
use Rattle.std.proofs.Common.{◌≡◌, ◌∙◌, ◌↔◌, List, [], ◌∷◌, ◌++◌, map, Option, Some, None, option_map, is_some}
use Rattle.std.proofs.Common.{Bool, true, false, refl, sym, ap, ap₂, subst, true≢false}
use Rattle.std.specs.List.{All}
use Rattle.std.proofs.lemmas.List.Elements.{All-cons, All-head, All-nil, All-tail}
use Rattle.std.proofs.lemmas.Option.{same_Some, cond_some}
use Rattle.run_audit_model.specs.Kept.{Pairwise}
use Rattle.run_audit_model.specs.Parts.{closes_part, first_part, opens_part, parts_from}
use Rattle.run_audit_model.specs.Places.{Machine, Accepts, Completes}
use Rattle.run_audit_model.specs.declared.audit_event.AuditEvent.{AuditEvent}
use Rattle.run_audit_model.specs.declared.audit_event.AuditEvent.TheVariants as seen
use Rattle.run_audit_machines.specs.Machines.{AreAccepted, HoldsInParts, InParts, PartCompletes, StaysWithin, Supply}
use Rattle.run_audit_machines.specs.Machines.{first_state, endless, one_each, over_parts, part_state, takes_between}
use Rattle.run_audit_machines.specs.Machines.{takes_within}
use Rattle.run_audit_machines.specs.Machines.{AcceptsJust}
use Rattle.run_audit_machines.proofs.MachineLemmas.{end_from, step_from}
use Rattle.run_audit_machines.proofs.PartLemmas.{IsTakenAt, accepted_from, accepted_to, parts_rest, rest_by, rest_of}

-- ---- just the events whose parts are accepted, one after the other

first_to : {S C : Type 0} (m : Machine S AuditEvent) (supply : Supply S C) (c : C) (now : InParts S C)
    (n : Option (S × C)) → supply.next c ≡ n → option_map (λ n. part_state false n.1 (Some n.0)) n ≡ Some now
    → AcceptsJust (over_parts m supply) now (λ es. AreAccepted m supply c (parts_from false (Some []) es))
first_to m supply c now None next is es = absurd (true≢false (ap is_some (sym is)))
first_to m supply c now (Some n) next is es =
    let same = same_Some _ now is in (
      λ a. let x = accepted_to m supply false n.1 (Some n.0) es
          (subst (λ v. Accepts (over_parts m supply) v es) (sym same) a) in
          subst (AreAccepted m supply c) (sym (parts_rest false [] es)) (n.0, n.1, next, x.0, x.1),
      λ h. let x = subst (AreAccepted m supply c) (parts_rest false [] es) h in
          let there = same_Some n (x.0, x.1) (sym next ∙ x.2) in
          subst (λ v. Accepts (over_parts m supply) v es) same
          (accepted_from m supply false es n.1 (Some n.0)
          (subst (λ v. IsTakenAt m supply false v.1 (Some v.0) es) (sym there) (x.3, x.4))),
    )

pub parts_just : {S C : Type 0} (m : Machine S AuditEvent) (supply : Supply S C) (stress : Bool) (c : C)
    (now : InParts S C) → first_state supply stress c ≡ Some now
    → AcceptsJust (over_parts m supply) now
    (λ es. AreAccepted m supply c (parts_from stress (first_part stress) es))
parts_just m supply true c now is es =
    let same = same_Some _ now is in (
      λ a. accepted_to m supply true c None es (subst (λ v. Accepts (over_parts m supply) v es) (sym same) a),
      λ h. subst (λ v. Accepts (over_parts m supply) v es) same (accepted_from m supply true es c None h),
    )
parts_just m supply false c now is es = first_to m supply c now (supply.next c) refl is es

-- ---- first states in a list, each for one part; and one for all parts

pub listed_to : {S D : Type 0} (m : Machine S AuditEvent) (start : D → S) (Keeps : D → List AuditEvent → Type 0)
    → ((d : D) → AcceptsJust m (start d) (Keeps d)) → (dues : List D) (parts : List (List AuditEvent))
    → AreAccepted m one_each (map start dues) parts → Pairwise Keeps dues parts
listed_to m start Keeps just [] [] h = tt
listed_to m start Keeps just [] (part ∷ parts) h = absurd (true≢false (ap is_some (sym h.2)))
listed_to m start Keeps just (d ∷ dues) [] h = absurd (true≢false (sym h))
listed_to m start Keeps just (d ∷ dues) (part ∷ parts) h =
    let same = same_Some (start d, map start dues) (h.0, h.1) h.2 in (
      (just d part).0 (subst (λ s. Accepts m s part) (ap (λ p. p.0) (sym same)) h.3),
      listed_to m start Keeps just dues parts
          (subst (λ c. AreAccepted m one_each c parts) (ap (λ p. p.1) (sym same)) h.4),
    )

pub listed_from : {S D : Type 0} (m : Machine S AuditEvent) (start : D → S) (Keeps : D → List AuditEvent → Type 0)
    → ((d : D) → AcceptsJust m (start d) (Keeps d)) → (dues : List D) (parts : List (List AuditEvent))
    → Pairwise Keeps dues parts → AreAccepted m one_each (map start dues) parts
listed_from m start Keeps just [] [] h = refl
listed_from m start Keeps just [] (part ∷ parts) h = absurd h
listed_from m start Keeps just (d ∷ dues) [] h = absurd h
listed_from m start Keeps just (d ∷ dues) (part ∷ parts) h =
    (start d, map start dues, refl, (just d part).1 h.0, listed_from m start Keeps just dues parts h.1)

-- the parts of a run, each by what is due of it
pub runs_just : {S D : Type 0} (m : Machine S AuditEvent) (start : D → S) (Keeps : D → List AuditEvent → Type 0)
    → ((d : D) → AcceptsJust m (start d) (Keeps d)) → (stress : Bool) (dues : List D) (now : InParts S (List S))
    → first_state one_each stress (map start dues) ≡ Some now → AcceptsJust (over_parts m one_each) now
    (λ es. Pairwise Keeps dues (parts_from stress (first_part stress) es))
runs_just m start Keeps just stress dues now is es =
    let whole = parts_just m one_each stress (map start dues) now is es in (
      λ a. listed_to m start Keeps just dues (parts_from stress (first_part stress) es) (whole.0 a),
      λ h. whole.1 (listed_from m start Keeps just dues (parts_from stress (first_part stress) es) h),
    )

pub endless_to : {S : Type 0} (m : Machine S AuditEvent) (s : S) (Keeps : List AuditEvent → Type 0)
    → AcceptsJust m s Keeps → (parts : List (List AuditEvent)) → AreAccepted m endless s parts → All Keeps parts
endless_to m s Keeps just [] h = All-nil Keeps
endless_to m s Keeps just (part ∷ parts) h =
    let same = same_Some (s, s) (h.0, h.1) h.2 in
    All-cons Keeps part parts ((just part).0 (subst (λ t. Accepts m t part) (ap (λ p. p.0) (sym same)) h.3))
    (endless_to m s Keeps just parts (subst (λ c. AreAccepted m endless c parts) (ap (λ p. p.1) (sym same)) h.4))

pub endless_from : {S : Type 0} (m : Machine S AuditEvent) (s : S) (Keeps : List AuditEvent → Type 0)
    → AcceptsJust m s Keeps → (parts : List (List AuditEvent)) → All Keeps parts → AreAccepted m endless s parts
endless_from m s Keeps just [] h = refl
endless_from m s Keeps just (part ∷ parts) h = (
  s,
  s,
  refl,
  (just part).1 (All-head Keeps part parts h),
  endless_from m s Keeps just parts (All-tail Keeps part parts h),
)

-- two lists that are the same by what they stand for, each with the parts
pub pairs_same : {A B C : Type 0} (f : A → C) (g : B → C) (K : A → List AuditEvent → Type 0)
    (L : B → List AuditEvent → Type 0)
    → ((a : A) (b : B) → f a ≡ g b → (part : List AuditEvent) → K a part ↔ L b part) → (xs : List A) (bs : List B)
    → map f xs ≡ map g bs → (parts : List (List AuditEvent)) → Pairwise K xs parts ↔ Pairwise L bs parts
pairs_same f g K L each [] [] is [] = (λ h. tt, λ h. tt)
pairs_same f g K L each [] [] is (part ∷ parts) = (λ h. h, λ h. h)
pairs_same f g K L each [] (b ∷ bs) is parts = cc
pairs_same f g K L each (a ∷ xs) [] is parts = cc
pairs_same f g K L each (a ∷ xs) (b ∷ bs) is [] = (λ h. h, λ h. h)
pairs_same f g K L each (a ∷ xs) (b ∷ bs) is (part ∷ parts) =
    let head : f a ≡ g b = cc in
    let tail : map f xs ≡ map g bs = cc in
    let own = each a b head part in
    let rest = pairs_same f g K L each xs bs tail parts in
    (λ h. (own.0 h.0, rest.0 h.1), λ h. (own.1 h.0, rest.1 h.1))

-- the parts of a run, each by the same law
pub ever_just : {S : Type 0} (m : Machine S AuditEvent) (s : S) (Keeps : List AuditEvent → Type 0)
    → AcceptsJust m s Keeps → (stress : Bool) (now : InParts S S) → first_state endless stress s ≡ Some now
    → AcceptsJust (over_parts m endless) now (λ es. All Keeps (parts_from stress (first_part stress) es))
ever_just m s Keeps just stress now is es =
    let whole = parts_just m endless stress s now is es in (
      λ a. endless_to m s Keeps just (parts_from stress (first_part stress) es) (whole.0 a),
      λ h. whole.1 (endless_from m s Keeps just (parts_from stress (first_part stress) es) h),
    )

-- ---- to an end

closer : Bool → AuditEvent
closer true = seen.SubRunFinished
closer false = seen.RunFinished

closer_closes : (stress : Bool) → closes_part stress (closer stress) ≡ true
unfolding closer
closer_closes true = refl
closer_closes false = refl

rest_within : (stress : Bool) (part rest : List AuditEvent) → All StaysWithin part
    → rest_of stress (part ++ closer stress ∷ rest) ≡ (part, parts_from stress None rest)
rest_within stress [] rest stays =
    ap (λ b. rest_by b (closer stress) (parts_from stress None rest) (rest_of stress rest)) (closer_closes stress)
rest_within stress (e ∷ part) rest stays =
    let more = part ++ closer stress ∷ rest in
    ap₂ (λ b r. rest_by b e (parts_from stress None more) r) (All-head StaysWithin e part stays stress)
    (rest_within stress part rest (All-tail StaysWithin e part stays))

-- a part that ends, and what then leads to the end of the run
closed : {S C : Type 0} (m : Machine S AuditEvent) (supply : Supply S C) (stress : Bool) (c : C) (s : S)
    (part rest : List AuditEvent) → Accepts m s part → All StaysWithin part
    → Accepts (over_parts m supply) (part_state stress c None) rest
    → Accepts (over_parts m supply) (part_state stress c (Some s)) (part ++ closer stress ∷ rest)
closed m supply stress c s part rest a stays more =
    accepted_from m supply stress (part ++ closer stress ∷ rest) c (Some s)
    (subst (λ r. Accepts m s r.0 × AreAccepted m supply c r.1) (sym (rest_within stress part rest stays))
    (a, accepted_to m supply stress c None rest more))

-- from between parts
pub ends_listed : {S : Type 0} (m : Machine S AuditEvent) (Holds : S → Type 0) → PartCompletes m Holds
    → (stress : Bool) (coming : List S) → All Holds coming
    → (events : List AuditEvent) × Accepts (over_parts m one_each) (part_state stress coming None) events
ends_listed m Holds part stress [] h = ([], end_from (over_parts m one_each) (part_state stress [] None) refl)
ends_listed m Holds part stress (s ∷ coming) h =
    let more = ends_listed m Holds part stress coming (All-tail Holds s coming h) in
    let own = part.more s (All-head Holds s coming h) in (
      seen.SubRunStarted ∷ own.0 ++ closer stress ∷ more.0,
      step_from (over_parts m one_each) (part_state stress (s ∷ coming) None) (part_state stress coming (Some s))
          seen.SubRunStarted (own.0 ++ closer stress ∷ more.0) refl
          (closed m one_each stress coming s own.0 more.0 own.1 own.2 more.1),
    )

pub ends_endless : {S : Type 0} (m : Machine S AuditEvent) (stress : Bool) (s : S)
    → (events : List AuditEvent) × Accepts (over_parts m endless) (part_state stress s None) events
ends_endless m stress s = ([], end_from (over_parts m endless) (part_state stress s None) refl)

-- what is asked of a supply: what holds of what is left holds on, and of the first states; and it leads to an end
pub record SupplyCompletes {S C : Type 0} (m : Machine S AuditEvent) (supply : Supply S C) (Holds : S → Type 0)
    (Comes : C → Type 0) : Type 0 where
  pub next : (c : C) (s : S) (d : C) → Comes c → supply.next c ≡ Some (s, d) → Holds s × Comes d
  pub ends : (stress : Bool) (c : C) → Comes c
      → (events : List AuditEvent) × Accepts (over_parts m supply) (part_state stress c None) events

more_of : {S C : Type 0} (m : Machine S AuditEvent) (supply : Supply S C) (Holds : S → Type 0) (Comes : C → Type 0)
    → PartCompletes m Holds → SupplyCompletes m supply Holds Comes → (stress : Bool) (c : C) (o : Option S)
    → IfSome o Holds → Comes c
    → (events : List AuditEvent) × Accepts (over_parts m supply) (part_state stress c o) events
more_of m supply Holds Comes part all stress c None within comes = all.ends stress c comes
more_of m supply Holds Comes part all stress c (Some s) within comes =
    let own = part.more s within in
    let more = all.ends stress c comes in
    (own.0 ++ closer stress ∷ more.0, closed m supply stress c s own.0 more.0 own.1 own.2 more.1)

-- what holds is kept, event by event
opened_keeps : {S C : Type 0} (m : Machine S AuditEvent) (supply : Supply S C) (Holds : S → Type 0)
    (Comes : C → Type 0) → SupplyCompletes m supply Holds Comes → (stress : Bool) (c : C) (u : InParts S C)
    (n : Option (S × C)) → supply.next c ≡ n → option_map (λ n. part_state stress n.1 (Some n.0)) n ≡ Some u
    → Comes c → HoldsInParts Holds Comes u
opened_keeps m supply Holds Comes all stress c u None next is comes = absurd (true≢false (ap is_some (sym is)))
opened_keeps m supply Holds Comes all stress c u (Some n) next is comes =
    let both = all.next c n.0 n.1 comes next in
    subst (HoldsInParts Holds Comes) (same_Some _ u is) (record { within = both.0; comes = both.1 })

between_keeps : {S C : Type 0} (m : Machine S AuditEvent) (supply : Supply S C) (Holds : S → Type 0)
    (Comes : C → Type 0) → SupplyCompletes m supply Holds Comes → (stress : Bool) (c : C) (u : InParts S C)
    (b : Bool) → takes_between supply stress c b ≡ Some u → Comes c → HoldsInParts Holds Comes u
between_keeps m supply Holds Comes all stress c u true is comes =
    opened_keeps m supply Holds Comes all stress c u (supply.next c) refl is comes
between_keeps m supply Holds Comes all stress c u false is comes =
    subst (HoldsInParts Holds Comes) (same_Some _ u is) (record { within = tt; comes = comes })

taken_keeps : {S C : Type 0} (m : Machine S AuditEvent) (Holds : S → Type 0) (Comes : C → Type 0)
    → PartCompletes m Holds → (stress : Bool) (c : C) (s : S) (e : AuditEvent) (u : InParts S C) (o : Option S)
    → m.takes s e ≡ o → option_map (λ t. part_state stress c (Some t)) o ≡ Some u → Holds s → Comes c
    → HoldsInParts Holds Comes u
taken_keeps m Holds Comes part stress c s e u None taken is h comes = absurd (true≢false (ap is_some (sym is)))
taken_keeps m Holds Comes part stress c s e u (Some t) taken is h comes =
    subst (HoldsInParts Holds Comes) (same_Some _ u is)
    (record { within = part.kept s e t h taken; comes = comes })

within_keeps : {S C : Type 0} (m : Machine S AuditEvent) (Holds : S → Type 0) (Comes : C → Type 0)
    → PartCompletes m Holds → (stress : Bool) (c : C) (s : S) (e : AuditEvent) (u : InParts S C) (b : Bool)
    → takes_within m stress c s e b ≡ Some u → Holds s → Comes c → HoldsInParts Holds Comes u
within_keeps m Holds Comes part stress c s e u true is h comes =
    subst (HoldsInParts Holds Comes) (cond_some (m.is_done s) _ u is).1 (record { within = tt; comes = comes })
within_keeps m Holds Comes part stress c s e u false is h comes =
    taken_keeps m Holds Comes part stress c s e u (m.takes s e) refl is h comes

kept_of : {S C : Type 0} (m : Machine S AuditEvent) (supply : Supply S C) (Holds : S → Type 0) (Comes : C → Type 0)
    → PartCompletes m Holds → SupplyCompletes m supply Holds Comes → (stress : Bool) (c : C) (o : Option S)
    (e : AuditEvent) (u : InParts S C) → IfSome o Holds → Comes c
    → (over_parts m supply).takes (part_state stress c o) e ≡ Some u → HoldsInParts Holds Comes u
kept_of m supply Holds Comes part all stress c None e u within comes is =
    between_keeps m supply Holds Comes all stress c u (opens_part e) is comes
kept_of m supply Holds Comes part all stress c (Some s) e u within comes is =
    within_keeps m Holds Comes part stress c s e u (closes_part stress e) is within comes

pub parts_complete : {S C : Type 0} (m : Machine S AuditEvent) (supply : Supply S C) (Holds : S → Type 0)
    (Comes : C → Type 0) → PartCompletes m Holds → SupplyCompletes m supply Holds Comes
    → Completes (over_parts m supply) (HoldsInParts Holds Comes)
parts_complete m supply Holds Comes part all = record {
  more = λ now h. more_of m supply Holds Comes part all now.stress now.coming now.within h.within h.comes;
  kept = λ now e u h is.
      kept_of m supply Holds Comes part all now.stress now.coming now.within e u h.within h.comes is;
}

pub listed_completes : {S : Type 0} (m : Machine S AuditEvent) (Holds : S → Type 0) → PartCompletes m Holds
    → Completes (over_parts m one_each) (HoldsInParts Holds (All Holds))
listed_completes m Holds part = parts_complete m one_each Holds (All Holds) part (record {
  next = listed_next Holds;
  ends = ends_listed m Holds part;
})
  where
    listed_next : {T : Type 0} (Held : T → Type 0) (c : List T) (s : T) (d : List T) → All Held c
        → one_each.next c ≡ Some (s, d) → Held s × All Held d
    listed_next Held [] s d h is = absurd (true≢false (ap is_some (sym is)))
    listed_next Held (x ∷ c) s d h is =
        let same = same_Some (x, c) (s, d) is in (
          subst Held (ap (λ p. p.0) same) (All-head Held x c h),
          subst (All Held) (ap (λ p. p.1) same)
              (All-tail Held x c h),
        )

pub endless_completes : {S : Type 0} (m : Machine S AuditEvent) (Holds : S → Type 0) → PartCompletes m Holds
    → Completes (over_parts m endless) (HoldsInParts Holds Holds)
endless_completes m Holds part = parts_complete m endless Holds Holds part (record {
  next = λ c s d h is. let same = same_Some (c, c) (s, d) is in
      (subst Holds (ap (λ p. p.0) same) h, subst Holds (ap (λ p. p.1) same) h);
  ends = λ stress c h. ends_endless m stress c;
})
