-- Flags of orders.
use Rattle.std.proofs.Common.{◌≡◌, ℕ, ◌+◌, ◌<◌, ◌≤◌, ◌==◌, if◌then◌else◌, List, [], ◌∷◌, ◌++◌, length, map}
use Rattle.std.proofs.Common.{Bool, true, false, refl}
use Rattle.std.proofs.Common.{Option, Some, None, ap, sym, ◌∙◌, arith, rules, get_or, set, subst, replicate, take, drop}
use Rattle.std.proofs.lemmas.List.{append_assoc, map-append, append-nil, take_more, take-append-drop}
use Rattle.std.proofs.lemmas.List.Sums.{sum_by_push}
use Rattle.std.proofs.lemmas.List.Elements.{All-append, Contains-append_left, Contains-append_right}
use Rattle.std.proofs.lemmas.Grind.{common_steps}
use Rattle.std.specs.List.{All, Contains}
use Rattle.std.specs.Option.{IsSome}
use Rattle.run_events.specs.declared.ask.Ask.{Ask}
use Rattle.run_events.specs.declared.ask.SignalAsk.{SignalAsk}
use Rattle.run_model.specs.Words.{times}
use Rattle.run_shared.specs.declared.orders.Errand.{Errand}
use Rattle.run_shared.specs.declared.orders.Errand.TheVariants as errands
use Rattle.run_shared.specs.declared.orders.Order.{Order}
use Rattle.run_shared.specs.declared.orders.Halt.{Halt}
use Rattle.run_shared.specs.declared.order_check.OrderFault.{OrderFault}
use Rattle.run_shared.specs.declared.order_check.OrderFault.TheVariants.{Unasked, Repeated, Lost, OutOfMemory}
use Rattle.run_shared.specs.Receipts.{bit, concatenated, Marks}
use Rattle.run_shared.specs.Orders.{errand_at, ordered, halted, errand_places, WasAsked, Delivers, IsOrderFault}
use Rattle.run_shared.specs.Orders.{IsFaultAfter, HasFaultAfter, Flags, IsNextOrder, signal_to}
use Rattle.run_shared.proofs.Marked.{bit_small, cut_joined, marks_more, marks_none, next_joined}
use Rattle.run_shared.proofs.Marked.{repeated_after}

-- one thing more that was asked, and whose place had no flag
pub flags_one : (asked : List (ℕ × Ask)) (seen : List Bool) (place : ℕ) (e : Errand) → WasAsked asked (place, e)
    → place < length seen → get_or seen place false ≡ false
    → Flags asked seen (set seen place true) ((place, e) ∷ [])
flags_one asked seen place e there below fresh = record {
  each = (search rules);
  marked = λ ns m. marks_more seen ns place below fresh m;
}

-- a place whose flag is set comes twice with one thing more of it
pub flagged_twice : (asked : List (ℕ × Ask)) (seen : List Bool) (place : ℕ) (e : Errand)
    → get_or seen place false ≡ true → HasFaultAfter asked seen ((place, e) ∷ []) (Repeated place)
flagged_twice asked seen place e flagged =
    λ ns m. let h = m.each place in grind (arith, common_steps, sum_by_push)

pub unasked_one : (asked : List (ℕ × Ask)) (seen : List Bool) (place : ℕ) (e : Errand)
    → (WasAsked asked (place, e) → ⊥) → HasFaultAfter asked seen ((place, e) ∷ []) (Unasked place)
unasked_one asked seen place e not = λ ns m. (e, search rules, not)

pub flags_none : (asked : List (ℕ × Ask)) (seen : List Bool) → Flags asked seen seen []
flags_none asked seen = record { each = (search rules); marked = λ ns m. rw append-nil m }

pub errand_places-append : (xs ys : List (ℕ × Errand))
    → errand_places (xs ++ ys) ≡ errand_places xs ++ errand_places ys
errand_places-append xs ys = map-append (λ (x : ℕ × Errand). x.0) xs ys

pub flags_more : (asked : List (ℕ × Ask)) (seen now after : List Bool) (xs ys : List (ℕ × Errand))
    → Flags asked seen now xs → Flags asked now after ys → Flags asked seen after (xs ++ ys)
flags_more asked seen now after xs ys a b = record {
  each = All-append (WasAsked asked) xs ys a.each b.each;
  marked = λ ns m. rw (errand_places-append xs ys, ← append_assoc ns (errand_places xs) (errand_places ys))
      (b.marked (ns ++ errand_places xs) (a.marked ns m));
}

-- what is wrong after what was asked is wrong with all of it
places_three : (xs ys zs : List (ℕ × Errand))
    → errand_places (xs ++ (ys ++ zs)) ≡ errand_places xs ++ (errand_places ys ++ errand_places zs)
places_three xs ys zs =
    errand_places-append xs (ys ++ zs)
    ∙ ap (λ (ns : List ℕ). errand_places xs ++ ns) (errand_places-append ys zs)

fault_later : (asked : List (ℕ × Ask)) (ns : List ℕ) (xs ys zs : List (ℕ × Errand)) (e : OrderFault)
    → IsFaultAfter asked (ns ++ errand_places xs) ys e → IsFaultAfter asked ns (xs ++ (ys ++ zs)) e
fault_later asked ns xs ys zs (Unasked place) h = (
  h.0,
  Contains-append_right xs (ys ++ zs) _ (Contains-append_left ys zs _ h.1),
  h.2,
)
fault_later asked ns xs ys zs (Repeated place) h =
    rw (places_three xs ys zs) (repeated_after place ns (errand_places xs) (errand_places ys) (errand_places zs) h)
fault_later asked ns xs ys zs (Lost place) h = absurd h
fault_later asked ns xs ys zs OutOfMemory h = absurd h

pub fault_after : (asked : List (ℕ × Ask)) (seen now : List Bool) (xs ys zs : List (ℕ × Errand)) (e : OrderFault)
    → Flags asked seen now xs → HasFaultAfter asked now ys e → HasFaultAfter asked seen (xs ++ (ys ++ zs)) e
fault_after asked seen now xs ys zs e flags h =
    λ ns m. fault_later asked ns xs ys zs e (h (ns ++ errand_places xs) (flags.marked ns m))

-- the same with nothing before, and with nothing behind
pub fault_first : (asked : List (ℕ × Ask)) (seen : List Bool) (xs ys : List (ℕ × Errand)) (e : OrderFault)
    → HasFaultAfter asked seen xs e → HasFaultAfter asked seen (xs ++ ys) e
fault_first asked seen xs ys e h = fault_after asked seen seen [] xs ys e (flags_none asked seen) h

pub fault_last : (asked : List (ℕ × Ask)) (seen now : List Bool) (xs ys : List (ℕ × Errand)) (e : OrderFault)
    → Flags asked seen now xs → HasFaultAfter asked now ys e → HasFaultAfter asked seen (xs ++ ys) e
fault_last asked seen now xs ys e flags h =
    subst (λ (zs : List (ℕ × Errand)). HasFaultAfter asked seen (xs ++ zs) e) (append-nil ys)
    (fault_after asked seen now xs ys [] e flags h)

-- what lists of orders hand on
pub ordered-append : (os ps : List Order) → ordered (os ++ ps) ≡ ordered os ++ ordered ps
ordered-append os ps = map-append (λ (o : Order). (o.place, errands.Signal o.ask)) os ps

pub halted-append : (hs is : List Halt) → halted (hs ++ is) ≡ halted hs ++ halted is
halted-append hs is = map-append (λ (h : Halt). (h.place, errands.Stop)) hs is

-- one item more of a list is handed on, or is at fault
pub flags_next : {X : Type 0} (f : X → ℕ × Errand) (asked : List (ℕ × Ask)) (seen now after : List Bool) (xs : List X)
    (i : ℕ) (d : X) → i < length xs → Flags asked seen now (map f (take i xs))
    → Flags asked now after (f (get_or xs i d) ∷ []) → Flags asked seen after (map f (take (i + 1) xs))
flags_next f asked seen now after xs i d below before new =
    let x = get_or xs i d in
    subst (Flags asked seen after)
    (sym (ap (map f) (take_more xs i d below) ∙ map-append f (take i xs) (x ∷ [])))
    (flags_more asked seen now after (map f (take i xs)) (f x ∷ []) before new)

cut_near : {X : Type 0} (xs : List X) (i : ℕ) (d : X) → i < length xs
    → xs ≡ take i xs ++ ((get_or xs i d ∷ []) ++ drop (i + 1) xs)
cut_near xs i d below =
    sym (take-append-drop (i + 1) xs)
    ∙ ap (λ ys. ys ++ drop (i + 1) xs) (take_more xs i d below)
    ∙ append_assoc (take i xs) (get_or xs i d ∷ []) (drop (i + 1) xs)

pub fault_next : {X : Type 0} (f : X → ℕ × Errand) (asked : List (ℕ × Ask)) (seen now : List Bool) (xs : List X)
    (i : ℕ) (d : X) (e : OrderFault) → i < length xs → Flags asked seen now (map f (take i xs))
    → HasFaultAfter asked now (f (get_or xs i d) ∷ []) e → HasFaultAfter asked seen (map f xs) e
fault_next f asked seen now xs i d e below before fault =
    let x = get_or xs i d in
    let rest = drop (i + 1) xs in
    subst (λ (ys : List (ℕ × Errand)). HasFaultAfter asked seen ys e)
    (sym (ap (map f) (cut_near xs i d below) ∙ map-append f (take i xs) ((x ∷ []) ++ rest)))
    (fault_after asked seen now (map f (take i xs)) (f x ∷ []) (map f rest) e before fault)

-- the same of the orders of lists
pub next_ordered : (xss : List (List Order)) (i : ℕ) (xs : List Order) → i < length xss → xs ≡ get_or xss i xs
    → ordered (concatenated (take (i + 1) xss)) ≡ ordered (concatenated (take i xss)) ++ ordered xs
next_ordered xss i xs below is =
    ap ordered (next_joined xss i xs below is) ∙ ordered-append (concatenated (take i xss)) xs

pub cut_ordered : (xss : List (List Order)) (i : ℕ) (xs : List Order) → i < length xss → xs ≡ get_or xss i xs
    → ordered (concatenated xss)
    ≡ ordered (concatenated (take i xss)) ++ (ordered xs ++ ordered (concatenated (drop (i + 1) xss)))
cut_ordered xss i xs below is =
    ap ordered (cut_joined xss i xs below is)
    ∙ ordered-append (concatenated (take i xss)) (xs ++ concatenated (drop (i + 1) xss))
    ∙ ap (λ (ys : List (ℕ × Errand)). ordered (concatenated (take i xss)) ++ ys)
    (ordered-append xs (concatenated (drop (i + 1) xss)))

-- where each thing asked has its flag, each was handed on once
flagged_once : (asked : List (ℕ × Ask)) (now : List Bool) (ns : List ℕ) (k : ℕ) → Marks now ns
    → get_or now k false ≡ true → times k ns ≡ 1
flagged_once asked now ns k m flagged = m.each k ∙ ap bit flagged

pub delivers_of : (asked : List (ℕ × Ask)) (n : ℕ) (now : List Bool) (xs : List (ℕ × Errand))
    → Flags asked (replicate n false) now xs
    → ((k : ℕ) → IsSome (errand_at asked k) → get_or now k false ≡ true) → Delivers asked xs
delivers_of asked n now xs flags all =
    let m = flags.marked [] (marks_none n) in record {
      each = flags.each;
      apart = λ k. rw (m.each k) (bit_small (get_or now k false));
      once = λ k there. flagged_once asked now (errand_places xs) k m (all k there);
    }

pub lost_of : (asked : List (ℕ × Ask)) (n : ℕ) (now : List Bool) (xs : List (ℕ × Errand)) (place : ℕ)
    → Flags asked (replicate n false) now xs → IsSome (errand_at asked place) → get_or now place false ≡ false
    → IsOrderFault asked xs (Lost place)
lost_of asked n now xs place flags there none =
    let m = flags.marked [] (marks_none n) in (there, m.each place ∙ ap bit none)

pub fault_of : (asked : List (ℕ × Ask)) (n : ℕ) (xs : List (ℕ × Errand)) (e : OrderFault)
    → HasFaultAfter asked (replicate n false) xs e → IsOrderFault asked xs e
fault_of asked n xs (Unasked place) h = h [] (marks_none n)
fault_of asked n xs (Repeated place) h = h [] (marks_none n)
fault_of asked n xs (Lost place) h = absurd (h [] (marks_none n))
fault_of asked n xs OutOfMemory h = absurd (h [] (marks_none n))

-- the signal that was found first
signal_if : (unit : ℕ) (b : Bool) (a ask : SignalAsk) → (b ≡ true → a.unit ≡ unit)
    → (if b then Some a else None) ≡ Some ask
    → (Some (errands.Signal a) ≡ Some (errands.Signal ask)) × (ask.unit ≡ unit)
signal_if unit true a ask same found = let s = same refl in grind (arith, common_steps)
signal_if unit false a ask same found = search rules

signal_of : (unit : ℕ) (e : Option Errand) (ask : SignalAsk) → signal_to unit e ≡ Some ask
    → (e ≡ Some (errands.Signal ask)) × (ask.unit ≡ unit)
signal_of unit None ask found = search rules
signal_of unit (Some errands.Stop) ask found = search rules
signal_of unit (Some (errands.Signal a)) ask found =
    signal_if unit (a.unit == unit) a ask (λ same. grind (arith, common_steps)) found

pub order_found : (asked : List (ℕ × Ask)) (unit from : ℕ) (o : Order)
    → signal_to unit (errand_at asked o.place) ≡ Some o.ask → from ≤ o.place
    → ((k : ℕ) → from ≤ k → k < o.place → signal_to unit (errand_at asked k) ≡ None)
    → IsNextOrder asked unit from o
order_found asked unit from o found later before =
    let both = signal_of unit (errand_at asked o.place) o.ask found in
    record { asked_there = both.0; to_unit = both.1; later = later; first = before }
