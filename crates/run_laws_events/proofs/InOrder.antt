-- Until a cause stands each message that is delivered is told, and so what is told of starts and retries are the first.
use Rattle.std.proofs.Common.{◌≡◌, ℕ, ◌+◌, List, [], ◌∷◌, ◌++◌, drop, take, Bool, true, false, if◌then◌else◌, Option}
use Rattle.std.proofs.Common.{Some, None, is_none, nat_lt, option_to_list, filter_map, refl, ap, sym, subst, ◌∙◌}
use Rattle.std.proofs.Common.{append-nil, append_assoc}
use Rattle.std.proofs.Math.Seq.{take-add}
use Rattle.std.proofs.lemmas.List.{take-append-drop, take-append-le}
use Rattle.std.proofs.lemmas.List.Elements.{filter_map-append}
use Rattle.run_events.specs.Cancel.{greater, rank}
use Rattle.run_events.specs.declared.cancel.CancelReason.{CancelReason}
use Rattle.run_events.specs.declared.settings.Settings.{Settings}
use Rattle.run_events.specs.declared.message.Message.{Message}
use Rattle.run_model.specs.declared.entry.Entry.{Entry}
use Rattle.run_model.specs.declared.happening.Happening.{Happening}
use Rattle.run_model.specs.Board.{Deed, said}
use Rattle.run_model.specs.Journal.{history, IsLegalBackward}
use Rattle.run_model.specs.Turns.{deed_on, starting}
use Rattle.run_model.specs.Words.{delivered, queue, reason, sent, sub_run, told}
use Rattle.run_laws.specs.Laws.{Extends}
use Rattle.run_laws.proofs.board.OnBoard.{board_with}
use Rattle.run_laws_events.proofs.ByJournal.{IsKept, by_journal}
use Rattle.run_laws_events.proofs.Told.{messages_of, told_from, told-more}
use Rattle.run_laws.proofs.board.Limits.{calm_before}

-- what is told of these messages is the first of them that was sent
abbrev AreFirst : {X : Type 0} → (Message → Option X) → List Happening → Type 0
AreFirst f run = Extends (filter_map f (messages_of (told run))) (filter_map f (sent run))

abbrev AreTold : List Happening → Type 0
AreTold run = messages_of (told run) ≡ take (delivered run) (sent run)

abbrev IsInOrder : {X : Type 0} → (Message → Option X) → List Happening → Type 0
IsInOrder f run = (reason run ≡ None → AreTold run) × AreFirst f run

all_taken : (taken : Bool) (q : List Message) → told_from true taken q ≡ take (if taken then 1 else 0) q
all_taken true [] = refl
all_taken true (m ∷ rest) = refl
all_taken false [] = refl
all_taken false (m ∷ rest) = refl

none_started : {X : Type 0} (f : Message → Option X) (taken : Bool) (q : List Message)
    → ((m : Message) → is_none (starting m) ≡ true → f m ≡ None) → filter_map f (told_from false taken q) ≡ []
none_started f true [] none = refl
none_started f true (m ∷ rest) none = by_start (is_none (starting m)) refl
  where
    by_start : (b : Bool) → is_none (starting m) ≡ b → filter_map f (if b then m ∷ [] else []) ≡ []
    by_start true is = rw (none m is) refl
    by_start false is = refl
none_started f false q none = refl

first_of_all : {X : Type 0} (f : Message → Option X) (n : ℕ) (ms : List Message)
    → Extends (filter_map f (take n ms)) (filter_map f ms)
first_of_all f n ms = (
  filter_map f (drop n ms),
  ap (filter_map f) (sym (take-append-drop n ms)) ∙ filter_map-append f (take n ms) (drop n ms),
)

first_kept : {X : Type 0} (f : Message → Option X) (ts ms ys : List Message)
    → Extends (filter_map f ts) (filter_map f ms) → Extends (filter_map f ts) (filter_map f (ms ++ ys))
first_kept f ts ms ys (more, is) = (
  more ++ filter_map f ys,
  filter_map-append f ms ys ∙ ap (λ xs. xs ++ filter_map f ys) is
      ∙ append_assoc (filter_map f ts) more (filter_map f ys),
)

in_order_kept : (p : Settings) {X : Type 0} (f : Message → Option X)
    → ((m : Message) → is_none (starting m) ≡ true → f m ≡ None) → IsKept p (IsInOrder f)
in_order_kept p g none f refused now run e h en does was = by_cause (reason run) refl
  where
    d : Deed
    d = deed_on p (board_with p refused f now run) e.turn

    more : messages_of (told (said now e d ∷ run))
        ≡ messages_of (told run) ++ told_from (is_none (reason run)) d.taken (queue run)
    more = told-more p f refused now run e en

    by_cause : (why : Option CancelReason) → reason run ≡ why → IsInOrder g (said now e d ∷ run)
    by_cause None calm =
        let all : AreTold (said now e d ∷ run) =
        more ∙ ap (λ o. messages_of (told run) ++ told_from (is_none o) d.taken (queue run)) calm
        ∙ ap (λ ms. messages_of (told run) ++ ms) (all_taken d.taken (queue run))
        ∙ ap (λ ms. ms ++ take (if d.taken then 1 else 0) (queue run)) (was.0 calm)
        ∙ sym (take-add (delivered run) (if d.taken then 1 else 0) (sent run))
        ∙ sym (take-append-le (delivered run + (if d.taken then 1 else 0)) (sent run) (option_to_list d.sent) does.room)
        in (
          λ later. all,
          subst (λ ms. Extends (filter_map g ms) (filter_map g (sent (said now e d ∷ run)))) (sym all)
              (first_of_all g (delivered (said now e d ∷ run)) (sent (said now e d ∷ run))),
        )
    by_cause (Some why) stands =
        let same : filter_map g (messages_of (told (said now e d ∷ run))) ≡ filter_map g (messages_of (told run)) =
        ap (filter_map g) more
        ∙ filter_map-append g (messages_of (told run)) (told_from (is_none (reason run)) d.taken (queue run))
        ∙ ap (λ o. filter_map g (messages_of (told run)) ++ filter_map g (told_from (is_none o) d.taken (queue run)))
        stands
        ∙ ap (λ xs. filter_map g (messages_of (told run)) ++ xs) (none_started g d.taken (queue run) none)
        ∙ append-nil (filter_map g (messages_of (told run))) in (
          λ later. let never : Some why ≡ None = sym stands ∙ calm_before (reason run) d.cause later in cc,
          subst (λ xs. Extends xs (filter_map g (sent (said now e d ∷ run)))) (sym same)
              (first_kept g (messages_of (told run)) (sent run) (option_to_list d.sent) was.1),
        )

pub told_first : (p : Settings) {X : Type 0} (f : Message → Option X)
    → ((m : Message) → is_none (starting m) ≡ true → f m ≡ None) → (backward : List Entry) → IsLegalBackward p backward
    → Extends (filter_map f (messages_of (told (sub_run (history p backward)))))
    (filter_map f (sent (sub_run (history p backward))))
told_first p f none backward legal =
    (by_journal p (IsInOrder f) (λ calm. refl, ([], refl)) (in_order_kept p f none) backward legal).1
