-- What came of each attempt is told once.
use Rattle.std.proofs.Common.{◌≡◌, inl, inr, ℕ, ◌+◌, List, [], ◌∷◌, ◌++◌, Bool, true, false, Option, Some, None}
use Rattle.std.proofs.Common.{option_to_list, refl, ap, sym, subst, ◌∙◌}
use Rattle.std.specs.Prelude.{IfSome}
use Rattle.std.proofs.lemmas.List.{append-nil}
use Rattle.run_events.specs.declared.result.ExecuteStatus.{ExecuteStatus}
use Rattle.run_events.specs.declared.settings.Settings.{Settings}
use Rattle.run_model.specs.declared.happening.Happening.{Happening}
use Rattle.run_model.specs.declared.phase.Phase.{Phase}
use Rattle.run_model.specs.declared.phase.Phase.TheVariants.{StartSent, Starting, Running, Grace, KillWait, Leak}
use Rattle.run_model.specs.declared.phase.Phase.TheVariants.{EnvWait, Deciding, Delay, RetrySent, Over}
use Rattle.run_model.specs.declared.unit_view.UnitView.{UnitView}
use Rattle.run_model.specs.Accounts.{News, started, failed, finished, tried, tried_from, HasAccount, HasAccountAt}
use Rattle.run_model.specs.Accounts.{IsAccounted, account_of, is_mismatched}
use Rattle.run_model.specs.Admission.{is_done, is_last}
use Rattle.run_model.specs.Attempts.{statuses_of}
use Rattle.run_model.specs.Story.{was_left}
use Rattle.run_model.specs.Ending.{last_status}
use Rattle.run_model.specs.Words.{told as told_events, unit_of}
use Rattle.run_laws.specs.Laws.{Extends}
use Rattle.run_model.specs.Fates.{told_ended}
use Rattle.run_laws.specs.Once.{finished_with, IsToldOnce}
use Rattle.run_laws.proofs.units.AccountRows.{last-append}

-- attempts that a further one follows, with what is told after them
told_ended-tried_from : (n : ℕ) (ss : List ExecuteStatus) (news : List News)
    → told_ended (tried_from n ss ++ news) ≡ ss ++ told_ended news
told_ended-tried_from n [] news = refl
told_ended-tried_from n (s ∷ ss) news = ap (λ ss. s ∷ ss) (told_ended-tried_from (n + 1) ss news)

told_ended-tried : (ss : List ExecuteStatus) (news : List News) → told_ended (tried ss ++ news) ≡ ss ++ told_ended news
told_ended-tried ss news = told_ended-tried_from 1 ss news

all_tried : (ss : List ExecuteStatus) → told_ended (tried ss) ≡ ss
all_tried ss =
    ap told_ended (sym (append-nil (tried ss))) ∙ told_ended-tried ss [] ∙ append-nil ss

finished-tried_from : (n : ℕ) (ss : List ExecuteStatus) (news : List News)
    → finished_with (tried_from n ss ++ news) ≡ finished_with news
finished-tried_from n [] news = refl
finished-tried_from n (s ∷ ss) news = finished-tried_from (n + 1) ss news

finished-tried : (ss : List ExecuteStatus) (news : List News) → finished_with (tried ss ++ news) ≡ finished_with news
finished-tried ss news = finished-tried_from 1 ss news

none_finished : (ss : List ExecuteStatus) → finished_with (tried ss) ≡ None
none_finished ss = ap finished_with (sym (append-nil (tried ss))) ∙ finished-tried ss []

-- by what was told, those told are the first of these, and a finish is told with just those
record TellsOnce (t : List News) (ss : List ExecuteStatus) : Type 0 where
  once : Extends (told_ended t) ss
  finish : IfSome (finished_with t) (λ fs. told_ended t ≡ fs)

none_told : (ss : List ExecuteStatus) → TellsOnce [] ss
none_told ss = record { once = (ss, refl); finish = tt }

begun : (ss : List ExecuteStatus) → TellsOnce (started ∷ tried ss) ss
begun ss = record {
  once = ([], sym (append-nil (told_ended (tried ss)) ∙ all_tried ss));
  finish = rw (none_finished ss) tt;
}

-- the last one wasn't told, or was as one that failed, or with the finish
waiting : (early ss : List ExecuteStatus) (s : ExecuteStatus) → ss ≡ early ++ s ∷ []
    → TellsOnce (started ∷ tried early) ss
waiting early ss s e = record {
  once = (s ∷ [], e ∙ sym (ap (λ ts. ts ++ s ∷ []) (all_tried early)));
  finish = rw (none_finished early) tt;
}

failed_all : (early ss : List ExecuteStatus) (s : ExecuteStatus) → ss ≡ early ++ s ∷ []
    → told_ended (started ∷ tried early ++ failed s ∷ []) ≡ ss
failed_all early ss s e = told_ended-tried early (failed s ∷ []) ∙ sym e

finished_all : (early ss : List ExecuteStatus) (s : ExecuteStatus) → ss ≡ early ++ s ∷ []
    → told_ended (started ∷ tried early ++ finished ss ∷ []) ≡ ss
finished_all early ss s e =
    told_ended-tried early (finished ss ∷ [])
    ∙ ap (λ o. early ++ (option_to_list o ++ [])) (ap last_status e ∙ last-append early s) ∙ sym e

failing : (early ss : List ExecuteStatus) (s : ExecuteStatus) → ss ≡ early ++ s ∷ []
    → TellsOnce (started ∷ tried early ++ failed s ∷ []) ss
failing early ss s e = record {
  once = ([], sym (append-nil _ ∙ failed_all early ss s e));
  finish = rw (finished-tried early (failed s ∷ [])) tt;
}

finishing : (early ss : List ExecuteStatus) (s : ExecuteStatus) → ss ≡ early ++ s ∷ []
    → TellsOnce (started ∷ tried early ++ finished ss ∷ []) ss
finishing early ss s e = record {
  once = ([], sym (append-nil _ ∙ finished_all early ss s e));
  finish = rw (finished-tried early (finished ss ∷ [])) (finished_all early ss s e);
}

by_phase : (mm left : Bool) (ph : Phase) (ss : List ExecuteStatus) (t q : List News) → HasAccountAt mm left ph ss t q
    → TellsOnce t ss
by_phase false left StartSent ss t q (none, (told, waits)) = rw told (none_told ss)
by_phase false left Starting ss t q (told, waits) = rw told (begun ss)
by_phase false left Running ss t q (told, waits) = rw told (begun ss)
by_phase false left Grace ss t q (told, waits) = rw told (begun ss)
by_phase false left KillWait ss t q (told, waits) = rw told (begun ss)
by_phase false left Leak ss t q (told, waits) = rw told (begun ss)
by_phase false left EnvWait ss t q (told, waits) = rw told (begun ss)
by_phase false left Deciding ss t q (early, (s, (e, (told, waits)))) = rw told (waiting early ss s e)
by_phase false left Delay ss t q (early, (s, (e, inl (told, waits)))) = rw told (waiting early ss s e)
by_phase false left Delay ss t q (early, (s, (e, inr (told, waits)))) = rw told (failing early ss s e)
by_phase false left RetrySent ss t q (early, (s, (e, inl (told, waits)))) = rw told (waiting early ss s e)
by_phase false left RetrySent ss t q (early, (s, (e, inr (told, waits)))) = rw told (failing early ss s e)
by_phase false true Over ss t q (early, (s, (e, (told, waits)))) = rw told (failing early ss s e)
by_phase false false Over [] t q (told, waits) = rw told (none_told [])
by_phase false false Over (x ∷ ss) t q (early, (s, (e, inl (told, waits)))) = rw told (waiting early (x ∷ ss) s e)
by_phase false false Over (x ∷ ss) t q (early, (s, (e, inr (told, waits)))) = rw told (finishing early (x ∷ ss) s e)
by_phase true left Over [] t q (inl (told, waits)) = rw told (none_told [])
by_phase true left Over [] t q (inr (told, waits)) = rw told (record { once = ([], refl); finish = tt })
by_phase true left Over (s ∷ ss) t q h = absurd h
by_phase true left ph ss t q h = absurd h

by_unit : (mm left : Bool) (v : Option UnitView) (ss : List ExecuteStatus) (t q : List News) → HasAccount mm left v t q
    → ((u : UnitView) → v ≡ Some u → u.statuses ≡ ss) → TellsOnce t ss
by_unit mm left None ss t q h same = rw h.0 (none_told ss)
by_unit mm left (Some u) ss t q h same =
    subst (TellsOnce t) (same u refl) (by_phase mm left u.phase u.statuses t q h)

-- so of each unit, whose attempts are its own turns
pub told_once : (p : Settings) (run : List Happening) (k : ℕ) → IsAccounted p k run
    → ((u : UnitView) → unit_of k run ≡ Some u → u.statuses ≡ statuses_of p k run)
    → IsToldOnce p run k
told_once p run k h same =
    let it = by_unit (is_mismatched p k) (was_left k run) (unit_of k run) (statuses_of p k run)
    (account_of k (told_events run)) _ h same in
    record { once = it.once; finish = it.finish }

-- where it is over and nothing waits to be told, all attempts were told
over_told : (mm left : Bool) (ph : Phase) (ss : List ExecuteStatus) (t : List News) → is_last ph ≡ true
    → HasAccountAt mm left ph ss t [] → told_ended t ≡ ss
over_told false true Over ss t last (early, (s, (e, (told, waits)))) = rw told (failed_all early ss s e)
over_told false false Over [] t last (told, waits) = rw told refl
over_told false false Over (x ∷ ss) t last (early, (s, (e, inl (told, waits)))) = cc
over_told false false Over (x ∷ ss) t last (early, (s, (e, inr (told, waits)))) =
    rw told (finished_all early (x ∷ ss) s e)
over_told true left Over [] t last (inl (told, waits)) = cc
over_told true left Over [] t last (inr (told, waits)) = rw told refl
over_told true left Over (s ∷ ss) t last h = absurd h
over_told mm left ph ss t last h = cc

pub all_told : (mm left : Bool) (v : Option UnitView) (ss : List ExecuteStatus) (t : List News) → is_done v ≡ true
    → HasAccount mm left v t [] → ((u : UnitView) → v ≡ Some u → u.statuses ≡ ss) → told_ended t ≡ ss
all_told mm left None ss t done h same = cc
all_told mm left (Some u) ss t done h same =
    over_told mm left u.phase u.statuses t done h ∙ same u refl
