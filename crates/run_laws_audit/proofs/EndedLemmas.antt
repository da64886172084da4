-- What holds of each sub-run as it ends holds of each that has ended.
use Rattle.std.proofs.Common.{◌≡◌, List, [], ◌∷◌, reverse, Bool, true, false, if◌then◌else◌, refl, subst, sym}
use Rattle.std.specs.List.{All}
use Rattle.std.proofs.lemmas.List.{reverse-append}
use Rattle.std.proofs.lemmas.List.Elements.{All-nil, All-cons, All-head, All-tail, All-push}
use Rattle.run_events.specs.declared.settings.Settings.{Settings}
use Rattle.run_model.specs.declared.entry.Entry.{Entry}
use Rattle.run_model.specs.declared.happening.Happening.{Happening}
use Rattle.run_model.specs.Journal.{IsLegalBackward, history}
use Rattle.run_model.specs.Turns.{happening}
use Rattle.run_model.specs.Words.{ended_runs, sub_run}

-- what holds of a sub-run that a turn ends holds of each that has ended
pub each_end : (P : List Happening → Type 0) (p : Settings)
    → ((e : Entry) (before : List Entry) → IsLegalBackward p (e ∷ before)
    → (happening p (history p before) e).ends ≡ true → P (sub_run (history p (e ∷ before))))
    → (backward : List Entry) → IsLegalBackward p backward → All P (ended_runs (history p backward))
each_end P p at_end [] legal = All-nil P
each_end P p at_end (e ∷ before) legal = by_end x.ends refl (each_end P p at_end before legal.2)
  where
    past : List Happening
    past = history p before

    x : Happening
    x = happening p past e

    by_end : (b : Bool) → x.ends ≡ b → All P (ended_runs past)
        → All P (if b then sub_run (x ∷ past) ∷ ended_runs past else ended_runs past)
    by_end true is earlier = All-cons P (sub_run (x ∷ past)) (ended_runs past) (at_end e before legal is) earlier
    by_end false is earlier = earlier

pub all-reverse : {X : Type 0} (P : X → Type 0) (xs : List X) → All P xs → All P (reverse xs)
all-reverse P [] all = All-nil P
all-reverse P (x ∷ xs) all =
    subst (All P) (sym (reverse-append (x ∷ []) xs))
    (All-push P (reverse xs) x (all-reverse P xs (All-tail P x xs all)) (All-head P x xs all))
