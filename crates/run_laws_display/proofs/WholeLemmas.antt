-- What is told in a run names the plan, and what is told of a unit in one sub-run is a course.
use Rattle.std.proofs.Common.{◌≡◌, ◌⊎◌, inl, inr, ℕ, List, [], ◌∷◌, ◌++◌, Option, Some, refl, ap, sym, subst, ◌∙◌}
use Rattle.std.specs.List.{All, cons_option}
use Rattle.std.proofs.lemmas.List.Elements.{All-append, All-head, All-nil, All-tail, All-weaker}
use Rattle.std.proofs.lemmas.List.Elements.{filter_map-append}
use Rattle.run_events.specs.declared.settings.Settings.{Settings}
use Rattle.run_events.specs.declared.stress.StressIndex.{StressIndex}
use Rattle.run_events.specs.declared.events.ReporterEvent.{ReporterEvent}
use Rattle.run_events.specs.declared.events.ReporterEvent.TheVariants.{Test}
use Rattle.run_events.specs.declared.events.TestEvent.{TestEvent}
use Rattle.run_model.specs.declared.entry.Entry.{Entry}
use Rattle.run_model.specs.declared.happening.Happening.{Happening}
use Rattle.run_model.specs.Accounts.{News, account_of, is_mismatched, news_in, news_of, pending_of}
use Rattle.run_model.specs.Board.{deed_events}
use Rattle.run_model.specs.Journal.{history, IsLegalBackward}
use Rattle.run_model.specs.Story.{was_left}
use Rattle.run_model.specs.SubRuns.{stress_index}
use Rattle.run_model.specs.Turns.{happening}
use Rattle.run_model.specs.Words.{events_in, is_running, queue, sub_run, told, unit_of}
use Rattle.run_laws.proofs.board.Kept.{IsBeforeRuns, IsOfRun, holds, where_joins}
use Rattle.run_laws.proofs.told.Running.{finishes-account, starts-account}
use Rattle.run_laws_events.specs.Names.{NamesThePlan}
use Rattle.run_laws_events.proofs.AnswersNamed.{events_named}
use Rattle.run_laws_display.proofs.CourseLemmas.{IsCourse, account_course, runs_by}

-- an event among others, of which this holds
pub all_after : (P : ReporterEvent → Type 0) (before after : List ReporterEvent) → All P (before ++ after) → All P after
all_after P [] after all = all
all_after P (e ∷ before) after all = all_after P before after (All-tail P e (before ++ after) all)

pub all_at : (P : ReporterEvent → Type 0) (before after : List ReporterEvent) (e : ReporterEvent)
    → All P (before ++ e ∷ after) → P e
all_at P before after e all = All-head P e after (all_after P before (e ∷ after) all)

-- an event names the plan, and some sub-run
abbrev pub NamesInSome : Settings → ReporterEvent → Type 0
NamesInSome p e = (index : Option StressIndex) × NamesThePlan p index e

-- that holds of what is told in any sub-run
pub named_whole : (p : Settings) (backward : List Entry) → IsLegalBackward p backward
    → All (NamesInSome p) (told (history p backward))
named_whole p [] legal = All-nil (NamesInSome p)
named_whole p (e ∷ before) legal =
    All-append (NamesInSome p) (told past) (events_in x) (named_whole p before legal.2)
    (by_run (where_joins p past e (holds p before legal.2) legal.0))
  where
    past : List Happening
    past = history p before

    x : Happening
    x = happening p past e

    index : Option StressIndex
    index = stress_index p (history p (e ∷ before))

    by_run : IsOfRun p past e ⊎ IsBeforeRuns p past e → All (NamesInSome p) (events_in x)
    by_run (inl of) =
        All-weaker (NamesThePlan p index) (NamesInSome p) (λ event named. (index, named)) (events_in x)
        (all_after (NamesThePlan p index) (told of.base) (events_in x)
        (subst (All (NamesThePlan p index)) (ap told of.joins) (events_named p (e ∷ before) legal)))
    by_run (inr idle) =
        subst (λ d. All (NamesInSome p) (deed_events d)) (sym idle.idle) (All-nil (NamesInSome p))

pub course_newest : (p : Settings) (backward : List Entry) → IsLegalBackward p backward → (k : ℕ)
    → IsCourse (account_of k (told (sub_run (history p backward))))
course_newest p backward legal k =
    account_course (is_mismatched p k) (was_left k run) (unit_of k run) (account_of k (told run))
    (pending_of k (queue run)) ((holds p backward legal).accounts k)
  where
    run : List Happening
    run = sub_run (history p backward)

-- what is told of a unit says whether it runs
pub runs-is : (k : ℕ) (events : List ReporterEvent) → runs_by (account_of k events) ≡ is_running events k
runs-is k events = rw (starts-account k events, finishes-account k events) refl

-- what is told of a unit by two lists, one after the other
pub account_append : (k : ℕ) (es fs : List ReporterEvent) → account_of k (es ++ fs) ≡ account_of k es ++ account_of k fs
account_append k es fs = filter_map-append (news_of k) es fs

-- what is told of a unit, where an event tells news of it
pub account_split : (k : ℕ) (before after : List ReporterEvent) (event : TestEvent) (n : News)
    → news_in k event.kind ≡ Some n
    → account_of k (before ++ Test event ∷ after) ≡ account_of k before ++ n ∷ account_of k after
account_split k before after event n is =
    filter_map-append (news_of k) before (Test event ∷ after)
    ∙ ap (λ o. account_of k before ++ cons_option o (account_of k after)) is
