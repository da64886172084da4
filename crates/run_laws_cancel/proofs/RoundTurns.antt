-- Where the turns of rounds, of keys and of ticks can come.
use Rattle.std.proofs.Common.{◌≡◌, ◌&&◌, ◌||◌, not, List, Bool, true, false, is_none, is_some, refl}
use Rattle.run_events.specs.Hearing.{heard_key}
use Rattle.run_events.specs.declared.input.Key.{Key as KeyName}
use Rattle.run_events.specs.declared.settings.Settings.{Settings}
use Rattle.run_events.specs.declared.turn.Turn.TheVariants.{Answer, InfoDue, Key, StopWaitDue, Tick}
use Rattle.run_model.specs.declared.happening.Happening.{Happening}
use Rattle.run_model.specs.Dispatch.{query_waits, stop_waits}
use Rattle.run_model.specs.Rounds.{open_round}
use Rattle.run_model.specs.Turns.{enabled}
use Rattle.run_model.specs.Words.{is_on, is_over, sub_run}
use Rattle.run_laws_cancel.specs.Enabled.{goes_on, is_free}
use Rattle.run_laws_cancel.specs.Rounds.{has_answer, is_late, is_waited_for}
use Rattle.std.proofs.Common.{ap, ◌∙◌}
use Rattle.run_model.specs.declared.entry.Entry.{Entry}
use Rattle.run_model.specs.Journal.{history, IsLegalBackward}
use Rattle.run_laws_cancel.proofs.WaitLemmas.{late_as}

group : (a b c : Bool) → (a && (b && c)) ≡ (a && b && c)
group true b c = refl
group false b c = refl

group_more : (a b c d : Bool) → (a && (b && c && d)) ≡ (a && b && c && d)
group_more true b c d = refl
group_more false b c d = refl

-- one that is late is so by its turns, where its round is open
late_where : (a w h late by_turns : Bool) → (w ≡ true → late ≡ by_turns)
    → (a && w && (h || late)) ≡ (a && w && (h || by_turns))
late_where a true h late by_turns is = ap (λ late. a && true && (h || late)) (is refl)
late_where true false h late by_turns is = refl
late_where false false h late by_turns is = refl

pub stops_so : (p : Settings) (backward : List Entry) → IsLegalBackward p backward
    → enabled p (history p backward) StopWaitDue
    ≡ (goes_on (history p backward) && stop_waits (open_round (sub_run (history p backward)))
    && (not (is_waited_for p (history p backward)) || is_late (history p backward)))
stops_so p backward legal =
    let past : List Happening = history p backward in
    group_more (not (is_over past)) (is_on (sub_run past)) (stop_waits (open_round (sub_run past))) _
    ∙ late_where (goes_on past) (stop_waits (open_round (sub_run past))) (not (is_waited_for p past)) _ (is_late past)
    (late_as p backward stop_waits refl legal)

pub queries_so : (p : Settings) (backward : List Entry) → IsLegalBackward p backward
    → enabled p (history p backward) InfoDue
    ≡ (goes_on (history p backward) && query_waits (open_round (sub_run (history p backward)))
    && (not (has_answer (history p backward) || is_waited_for p (history p backward)) || is_late (history p backward)))
queries_so p backward legal =
    let past : List Happening = history p backward in
    group_more (not (is_over past)) (is_on (sub_run past)) (query_waits (open_round (sub_run past))) _
    ∙ late_where (goes_on past) (query_waits (open_round (sub_run past)))
    (not (has_answer past || is_waited_for p past)) _ (is_late past) (late_as p backward query_waits refl legal)

pub answers_so : (p : Settings) (past : List Happening)
    → enabled p past Answer ≡ (goes_on past && query_waits (open_round (sub_run past)) && has_answer past)
answers_so p past = group_more (not (is_over past)) (is_on (sub_run past)) (query_waits (open_round (sub_run past))) _

pub keys_so : (p : Settings) (past : List Happening) (key : KeyName)
    → enabled p past (Key key) ≡ (is_free past && is_some (heard_key p.plan.hearing.input key))
keys_so p past key = group_more (not (is_over past)) (is_on (sub_run past)) (is_none (open_round (sub_run past))) _

pub ticks_so : (p : Settings) (past : List Happening) → enabled p past Tick ≡ is_free past
ticks_so p past = group (not (is_over past)) (is_on (sub_run past)) (is_none (open_round (sub_run past)))
