-- A generated journal, the newest entry first.
use Rattle.std.proofs.Common.{◌≡◌, ℕ, zero, suc, ◌-◌, ◌≤◌, List, [], ◌∷◌, ◌++◌, length, take, reverse, Some}
use Rattle.std.proofs.Common.{option_map, slice_get, refl, ap, sym, ◌∙◌, subst, arith, length-append}
use Rattle.std.proofs.lemmas.List.{reverse-append, reverse-reverse, take-append-le}
use Rattle.std.proofs.lemmas.Option.{slice_get_within}
use Rattle.run_events.specs.declared.settings.Settings.{Settings}
use Rattle.run_model.specs.Board.{board}
use Rattle.run_model.specs.Journal.{history}
use Rattle.run_model.specs.declared.entry.Entry.{Entry}
use Rattle.run_generate.specs.Turns.{IsGenerated, last_turn, next_turn}
use Rattle.run_laws_generate.proofs.Next.{stage_of, next_by, next-is}
use Rattle.run_laws_generate.proofs.Course.{IsGeneratedBack, board_back, last_back}
use Rattle.run_generate.proofs.WayLemmas.{last_turn-push}

-- an entry of the first of two lists, and that after the first
get_front : {X : Type 0} (xs ys : List X) (k : ℕ) (x : X) → slice_get xs k ≡ Some x → slice_get (xs ++ ys) k ≡ Some x
get_front [] ys k x is = cc
get_front (y ∷ xs) ys zero x is = is
get_front (y ∷ xs) ys (suc k) x is = get_front xs ys k x is

-- the element after a list
get_next : {X : Type 0} (xs : List X) (x : X) → slice_get (xs ++ x ∷ []) (length xs) ≡ Some x
get_next [] x = refl
get_next (y ∷ xs) x = get_next xs x

-- the first of two lists
take_front : {X : Type 0} (xs ys : List X) → take (length xs) (xs ++ ys) ≡ xs
take_front [] ys = refl
take_front (x ∷ xs) ys = ap (λ zs. x ∷ zs) (take_front xs ys)

-- the first element of a list stands last in its reverse
reverse-cons : {X : Type 0} (x : X) (xs : List X) → reverse (x ∷ xs) ≡ reverse xs ++ x ∷ []
reverse-cons x xs = reverse-append (x ∷ []) xs

-- its last turn is that of the entry that stands first
pub last-back : (backward : List Entry) → stage_of (last_turn (reverse backward)) ≡ last_back backward
last-back [] = refl
last-back (e ∷ before) =
    ap (λ xs. stage_of (last_turn xs)) (reverse-cons e before) ∙ ap stage_of (last_turn-push (reverse before) e)

-- its next turn
pub next-back : (p : Settings) (backward : List Entry)
    → next_turn p (reverse backward) ≡ next_by p (board_back p backward) (last_back backward)
next-back p backward =
    next-is p (board p (history p (reverse (reverse backward)))) (last_turn (reverse backward))
    ∙ (ap (λ es. next_by p (board p (history p es)) (stage_of (last_turn (reverse backward))))
    (reverse-reverse backward)
    ∙ ap (next_by p (board_back p backward)) (last-back backward))

-- the entries before the last of a generated journal are one too
generated_front : (p : Settings) (xs : List Entry) (e : Entry) → IsGenerated p (xs ++ e ∷ []) → IsGenerated p xs
generated_front p xs e generated = λ k x is.
    ap (next_turn p) (sym (take-append-le k xs (e ∷ []) (within k x is)))
    ∙ generated k x (get_front xs (e ∷ []) k x is)
  where
    within : (k : ℕ) (x : Entry) → slice_get xs k ≡ Some x → k ≤ length xs
    within k x is = let inside = slice_get_within xs k x is in omega arith

-- so each turn of a generated journal, newest first, is the next one after those before it
pub generated_back : (p : Settings) (backward : List Entry) → IsGenerated p (reverse backward)
    → IsGeneratedBack p backward
generated_back p [] generated = tt
generated_back p (e ∷ before) generated = (
  sym (next-back p before) ∙ (ap (next_turn p) (sym (take_front (reverse before) (e ∷ [])))
      ∙ pushed (length (reverse before)) e (get_next (reverse before) e)),
  generated_back p before (generated_front p (reverse before) e pushed),
)
  where
    pushed : IsGenerated p (reverse before ++ e ∷ [])
    pushed = subst (IsGenerated p) (reverse-cons e before) generated
