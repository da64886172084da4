-- How a worker listens, one list after another.
use Rattle.std.proofs.Common.{◌≡◌, List, [], ◌∷◌, ◌++◌, Bool, true, false, Option, Some, None, refl, sym, subst, ap}
use Rattle.std.proofs.Common.{◌∙◌, append_assoc, inl, inr}
use Rattle.run_shared.specs.declared.offered.Refusal.{Refusal}
use Rattle.run_drive.specs.declared.spawner.Heard.{Heard}
use Rattle.run_drive.specs.declared.spawner.Heard.TheVariants.{Asked, Spoke}
use Rattle.run_drive.specs.declared.awaited.Awaited.{Awaited}
use Rattle.run_drive.specs.declared.awaited.Awaited.TheVariants as awaits
use Rattle.run_drive.specs.Hearing.{after_begun, after_word, GoesBy, EndsFull, IsHeardOut}
use Rattle.run_drive.specs.Worked.{Reaches, ReachesOn, then_awaited}

-- one list after another
pub goes_append : (a b c : Awaited) (xs ys : List Heard) → GoesBy a xs b → GoesBy b ys c → GoesBy a (xs ++ ys) c
goes_append a b c [] ys h k = subst (λ (d : Awaited). GoesBy d ys c) (sym h) k
goes_append a b c (Asked start begun ∷ xs) ys h k = (h.0, goes_append (after_begun start begun) b c xs ys h.1 k)
goes_append a b c (Spoke said ∷ xs) ys h k = (h.0, goes_append (after_word a said) b c xs ys h.1 k)

-- refusals that end so end so behind others
pub ends_append : (xs ys : List Refusal) → EndsFull ys → EndsFull (xs ++ ys)
ends_append xs ys e =
    (xs ++ e.0, e.1, ap (λ (zs : List Refusal). xs ++ zs) e.2 ∙ sym (append_assoc xs e.0 (e.1 ∷ [])), e.3)

pub reaches_append : (a b : Awaited) (next : Option Awaited) (xs ys : List Heard) (first then : List Refusal)
    → GoesBy a xs b → Reaches b ys next then → Reaches a (xs ++ ys) next (first ++ then)
reaches_append a b (Some c) xs ys first then h k = goes_append a b c xs ys h k
reaches_append a b None xs ys first then h k =
    ((k.0.0, goes_append a b k.0.0 xs ys h k.0.1), ends_append first then k.1)

-- from start to start, and to the end
pub on_none : (goes_on : Bool) (lost : List Refusal) → ReachesOn goes_on [] lost
on_none true lost = refl
on_none false lost = (awaits.Start, refl, inl refl)

pub on_append : (goes_on : Bool) (xs ys : List Heard) (first then : List Refusal)
    → GoesBy awaits.Start xs awaits.Start → ReachesOn goes_on ys then → ReachesOn goes_on (xs ++ ys) (first ++ then)
on_append true xs ys first then h k = goes_append awaits.Start awaits.Start awaits.Start xs ys h k
on_append false xs ys first then h k =
    let later = goes_append awaits.Start awaits.Start k.0 xs ys h k.1 in
    elim k.2 [
      | inl start ↦ (k.0, later, inl start)
      | inr full ↦ (k.0, later, inr (ends_append first then full))
    ]

pub on_reached : (goes_on : Bool) (during : List Heard) (lost : List Refusal)
    → Reaches awaits.Start during (then_awaited goes_on) lost → ReachesOn goes_on during lost
on_reached true during lost h = h
on_reached false during lost h = (h.0.0, h.0.1, inr h.1)
