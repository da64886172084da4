-- The line of a unit after a row of the unit table, and after a broadcast.
use Rattle.std.proofs.Common.{◌≡◌, inl, inr, ℕ, ◌+◌, ◌≤◌, ◌==◌, List, [], ◌∷◌, ◌++◌, drop, length, Bool, true, false}
use Rattle.std.proofs.Common.{◌&&◌, ◌||◌, if◌then◌else◌, Option, Some, None, option_to_list, refl, ap, sym, subst}
use Rattle.std.proofs.Common.{◌∙◌, arith, length-drop}
use Rattle.std.proofs.lemmas.List.{append-nil}
use Rattle.run_capture.specs.Captured.{Captured, is_done, with_wait_error}
use Rattle.run_events.specs.declared.result.ChildExit.{ChildExit}
use Rattle.run_events.specs.declared.result.ChildExecutionOutput.TheVariants.{Output}
use Rattle.run_events.specs.declared.request.Request.{Request}
use Rattle.run_events.specs.declared.request.Request.TheVariants.{Stop, Continue, Shutdown, OtherCancel, GetInfo}
use Rattle.run_events.specs.declared.request.TermSignal.{TermSignal}
use Rattle.run_events.specs.declared.request.TermSignal.TheVariants.{Kill}
use Rattle.run_events.specs.declared.request.TerminateReason.{TerminateReason}
use Rattle.run_events.specs.declared.request.TerminateReason.TheVariants.{Signal as Signalled}
use Rattle.run_model.specs.declared.happening.UnitPart.TheVariants.{Acts}
use Rattle.run_model.specs.declared.phase.Phase.{Phase}
use Rattle.run_model.specs.declared.phase.Phase.TheVariants.{StartSent, Starting, Running, Grace, KillWait, Leak}
use Rattle.run_model.specs.declared.phase.Phase.TheVariants.{EnvWait, Deciding, Delay, RetrySent, Over}
use Rattle.run_model.specs.declared.unit_turn.UnitTurn.{UnitTurn}
use Rattle.run_model.specs.declared.unit_turn.UnitTurn.TheVariants.{Answered, Started, StartFailed, Exit, WaitFailed}
use Rattle.run_model.specs.declared.unit_turn.UnitTurn.TheVariants.{Piece, StreamEnd, ReadError, Env, Due, Take}
use Rattle.run_model.specs.declared.unit_view.UnitView.{UnitView}
use Rattle.run_model.specs.Terminate.{terminate_method}
use Rattle.run_model.specs.Slow.{one_more, is_out_of_time}
use Rattle.run_model.specs.Ending.{settled, exited, leaking, awaits_env, awaiting_env, ended, result_of}
use Rattle.run_model.specs.Row.{Row}
use Rattle.run_model.specs.Requests.{asked_to_end, requested, take_row, has_request}
use Rattle.run_model.specs.Unit.{at_moment, row, row_at, takes, takes_at, having_heard, heard_with, slow_row}
use Rattle.run_model.specs.Unit.{slow_again, in_grace, out_of_time, is_live, reach}
use Rattle.run_model.specs.Story.{is_live_unit, oldest, request_of, takes_request}
use Rattle.run_laws.proofs.board.Holds.{HasLineIn, HasLine}
use Rattle.run_laws.proofs.units.OpenRows.{is_open, Moves}
use Rattle.run_laws.proofs.units.Rows.{Takes, answers, opens, decides, passes, again, row_moves, row_takes}
use Rattle.run_laws.proofs.units.Rows.{takes_moment, decide_cases, StaysOrGoes, row_passes}

-- the line after a turn: the oldest request is taken
abbrev pub left_of : UnitTurn → List Request → List Request
left_of Take line = drop 1 line
left_of _ line = line

-- a row of an attempt that goes on leaves the line so
exited_line : (now : ℕ) (exit : Option ChildExit) (leaked : Bool) (c : Captured) (u : UnitView)
    → (exited now exit leaked c u).line ≡ u.line
exited_line now exit leaked c u = by_env (awaits_env (result_of exit c.errors leaked u) u)
  where
    by_env : (b : Bool) → (if b
        then awaiting_env now exit leaked c u
        else ended now (result_of exit c.errors leaked u) (Output c.output c.errors) u).line ≡ u.line
    by_env true = refl
    by_env false = refl

settled_line : (now : ℕ) (exit : Option ChildExit) (c : Captured) (u : UnitView) → (settled now exit c u).line ≡ u.line
settled_line now exit c u = by_done (u.terms.skips_leak_detection || is_done c)
  where
    by_done : (b : Bool) → (if b then exited now exit false c u else leaking now exit c u).line ≡ u.line
    by_done true = exited_line now exit false c u
    by_done false = refl

heard_line : (now : ℕ) (c : Captured) (u : UnitView) → (heard_with now c u).line ≡ u.line
heard_line now c u = by_done (is_done c)
  where
    by_done : (b : Bool) → (if b then exited now u.exit false c u else record u { capture = c }).line ≡ u.line
    by_done true = exited_line now u.exit false c u
    by_done false = refl

slow_line : (now n : ℕ) (u : UnitView) → (slow_row now n u).next.line ≡ u.line
slow_line now n u = by_time (is_out_of_time u.terms.slow n) (u.terms.slow.grace == 0)
  where
    by_time : (out none : Bool)
        → (if out then (if none then out_of_time n u else in_grace now n u) else slow_again now n u).next.line ≡ u.line
    by_time false none = refl
    by_time true true = refl
    by_time true false = refl

pub taken_line : (now : ℕ) (ph : Phase) (u : UnitView) → (take_row now ph u.line u).next.line ≡ drop 1 u.line
taken_line now ph u = by_line u.line refl
  where
    by_signal : (reason : TerminateReason) (signal : TermSignal) (v : UnitView)
        → (asked_to_end now reason signal v).next.line ≡ v.line
    by_signal reason Kill v = refl
    by_signal reason signal v = refl

    by_request : (ph : Phase) (request : Request) (v : UnitView) → (requested now ph request v).next.line ≡ v.line
    by_request ph (Stop round) v = refl
    by_request ph Continue v = refl
    by_request ph (GetInfo round) v = refl
    by_request Running (Shutdown request) v = by_signal (Signalled request)
        (terminate_method (Signalled request) v.terms.slow.grace) v
    by_request Grace (Shutdown request) v = refl
    by_request Delay (Shutdown request) v = refl
    by_request Delay OtherCancel v = refl
    by_request ph request v = refl

    by_line : (line : List Request) → u.line ≡ line → (take_row now ph line u).next.line ≡ drop 1 line
    by_line [] e = e
    by_line (request ∷ line) e = by_request ph request (record u { line = line })

pub row_line : (now : ℕ) (ph : Phase) (turn : UnitTurn) (u : UnitView) → is_open ph ≡ true
    → takes_at now ph u turn ≡ true → (row_at now ph turn u).next.line ≡ left_of turn u.line
row_line now Starting (Started pid) u on en = refl
row_line now Starting (StartFailed error) u on en = refl
row_line now Running Due u on en = slow_line now (one_more u.timers.slow_count) u
row_line now Running Take u on en = taken_line now Running u
row_line now Running (Exit exit) u on en = settled_line now (Some exit) u.capture u
row_line now Running (WaitFailed error) u on en = settled_line now None (with_wait_error u.capture error) u
row_line now Running (Piece stream bytes) u on en = refl
row_line now Running (StreamEnd stream) u on en = refl
row_line now Running (ReadError stream error) u on en = refl
row_line now Grace Due u on en = refl
row_line now Grace Take u on en = taken_line now Grace u
row_line now Grace (Exit exit) u on en = settled_line now (Some exit) u.capture u
row_line now Grace (WaitFailed error) u on en = settled_line now None (with_wait_error u.capture error) u
row_line now Grace (Piece stream bytes) u on en = refl
row_line now Grace (StreamEnd stream) u on en = refl
row_line now Grace (ReadError stream error) u on en = refl
row_line now KillWait (Exit exit) u on en = settled_line now (Some exit) u.capture u
row_line now KillWait (WaitFailed error) u on en = settled_line now None (with_wait_error u.capture error) u
row_line now Leak Due u on en = exited_line now u.exit true u.capture u
row_line now Leak Take u on en = taken_line now Leak u
row_line now Leak (Piece stream bytes) u on en = heard_line now (having_heard u.capture (Piece stream bytes)) u
row_line now Leak (StreamEnd stream) u on en = heard_line now (having_heard u.capture (StreamEnd stream)) u
row_line now Leak (ReadError stream error) u on en = heard_line now (having_heard u.capture (ReadError stream error)) u
row_line now EnvWait (Env input) u on en = refl
row_line now ph turn u on en = cc

-- whether a turn takes a request
abbrev pub is_take : UnitTurn → Bool
is_take Take = true
is_take _ = false

left_of-is : (turn : UnitTurn) (line : List Request) → left_of turn line ≡ drop (if is_take turn then 1 else 0) line
left_of-is Take line = refl
left_of-is turn line = refl

open_line : (ph : Phase) (line is : List Request) → is_open ph ≡ true → HasLineIn ph line is → line ≡ is
open_line Starting line is on h = h
open_line Running line is on h = h
open_line Grace line is on h = h
open_line KillWait line is on h = h
open_line Leak line is on h = h
open_line EnvWait line is on h = h
open_line ph line is on h = cc

has_open_line : (ph : Phase) (line is : List Request) → is_open ph ≡ true → line ≡ is → HasLineIn ph line is
has_open_line Starting line is on e = e
has_open_line Running line is on e = e
has_open_line Grace line is on e = e
has_open_line KillWait line is on e = e
has_open_line Leak line is on e = e
has_open_line EnvWait line is on e = e
has_open_line ph line is on e = cc

moved_line : (u : UnitView) (r : Row) (is : List Request) → Moves u r → r.next.line ≡ is
    → HasLineIn r.next.phase r.next.line is
moved_line u r is (inl goes) e = has_open_line r.next.phase r.next.line is goes.phase e
moved_line u r is (inr ends) e = rw ends.phase e

-- in a delay it takes its oldest request, and is let go on by some
delay_line : (now : ℕ) (u : UnitView) (is : List Request) → u.phase ≡ Delay → u.line ≡ is
    → HasLineIn (row_at now Delay Take u).next.phase (row_at now Delay Take u).next.line (drop 1 is)
delay_line now u is at e = by_way (row_passes now Take u at).way (taken_line now Delay u ∙ ap (drop 1) e)
  where
    by_way : StaysOrGoes u (row_at now Delay Take u)
        → (row_at now Delay Take u).next.line ≡ drop 1 is
        → HasLineIn (row_at now Delay Take u).next.phase (row_at now Delay Take u).next.line (drop 1 is)
    by_way (inl way) line = subst (λ ph. HasLineIn ph (row_at now Delay Take u).next.line (drop 1 is)) (sym way.0) line
    by_way (inr way) line = subst (λ ph. HasLineIn ph (row_at now Delay Take u).next.line (drop 1 is)) (sym way.0) line

pub takes_request-is : (j k : ℕ) (turn : UnitTurn) → takes_request k (Some (Acts j turn)) ≡ (is_take turn && (j == k))
takes_request-is j k Take = refl
takes_request-is j k turn = refl

-- an own turn of a unit takes the oldest request where it takes one
pub own_line : (now : ℕ) (turn : UnitTurn) (u : UnitView) (is : List Request) → takes now u turn ≡ true
    → HasLineIn u.phase u.line is
    → HasLineIn (row now turn u).next.phase (row now turn u).next.line (drop (if is_take turn then 1 else 0) is)
own_line now turn u is en h = by_take (row_takes now u.phase turn u en)
  where
    by_go : (go : Bool) → HasLineIn StartSent u.line is
        → HasLineIn (row_at now StartSent (Answered go) (at_moment now u)).next.phase
        (row_at now StartSent (Answered go) (at_moment now u)).next.line is
    by_go true h = h.0 ∙ sym h.1
    by_go false h = h.0

    moves : (ph : Phase) {own : UnitTurn} → u.phase ≡ ph → turn ≡ own
        → HasLineIn (row_at now ph own (at_moment now u)).next.phase (row_at now ph own (at_moment now u)).next.line
        (drop (if is_take own then 1 else 0) is)
        → HasLineIn (row now turn u).next.phase (row now turn u).next.line (drop (if is_take turn then 1 else 0) is)
    moves ph {own} at to has =
        subst (λ turn. HasLineIn (row now turn u).next.phase (row now turn u).next.line
        (drop (if is_take turn then 1 else 0) is)) (sym to)
        (subst (λ ph. HasLineIn (row_at now ph own (at_moment now u)).next.phase
        (row_at now ph own (at_moment now u)).next.line (drop (if is_take own then 1 else 0) is)) (sym at) has)

    by_take : Takes u.phase turn
        → HasLineIn (row now turn u).next.phase (row now turn u).next.line (drop (if is_take turn then 1 else 0) is)
    by_take (answers go at to) = moves StartSent at to (by_go go (subst (λ ph. HasLineIn ph u.line is) at h))
    by_take (opens on) =
        moved_line (at_moment now u) (row_at now u.phase turn (at_moment now u))
        (drop (if is_take turn then 1 else 0) is)
        (row_moves now u.phase turn (at_moment now u) refl on)
        (row_line now u.phase turn (at_moment now u) on (takes_moment now u.phase u turn en)
        ∙ left_of-is turn u.line ∙ ap (drop (if is_take turn then 1 else 0)) (open_line u.phase u.line is on h))
    by_take (decides word at to) = moves Deciding at to
        (decide_cases (λ r. HasLineIn r.next.phase r.next.line is) now word (at_moment now u)
        (λ again. subst (λ ph. HasLineIn ph u.line is) at h) (λ done. refl))
    by_take (passes at (inl to)) = moves Delay at to (subst (λ ph. HasLineIn ph u.line is) at h)
    by_take (passes at (inr to)) = moves Delay at to (delay_line now (at_moment now u) is at
        (subst (λ ph. HasLineIn ph u.line is) at h))
    by_take (again true at to) = moves RetrySent at to (subst (λ ph. HasLineIn ph u.line is) at h)
    by_take (again false at to) = moves RetrySent at to refl

-- so the request that it takes is the oldest of its line by the history
pub own_request : (now : ℕ) (turn : UnitTurn) (u : UnitView) (is : List Request) → takes now u turn ≡ true
    → HasLineIn u.phase u.line is → request_of turn is ≡ request_of turn u.line
own_request now Take u is en h = by_phase u.phase en h
  where
    by_phase : (ph : Phase) → takes_at now ph u Take ≡ true → HasLineIn ph u.line is → oldest is ≡ oldest u.line
    by_phase Running en h = ap oldest (sym h)
    by_phase Grace en h = ap oldest (sym h)
    by_phase Leak en h = ap oldest (sym h)
    by_phase Delay en h = ap oldest (sym h)
    by_phase ph en h = cc
own_request now turn u is en h = refl

-- and there is one
pub own_taken : (now : ℕ) (turn : UnitTurn) (u : UnitView) (n : ℕ) (all : List Request) → takes now u turn ≡ true
    → HasLineIn u.phase u.line (drop n all) → n ≤ length all → n + (if is_take turn then 1 else 0) ≤ length all
own_taken now Take u n all en h le = by_phase u.phase en h
  where
    some : (line : List Request) → has_request line ≡ true → line ≡ drop n all → n + 1 ≤ length all
    some [] en e = cc
    some (request ∷ line) en e = grind (arith, length-drop n all, ap length e)

    by_phase : (ph : Phase) → takes_at now ph u Take ≡ true → HasLineIn ph u.line (drop n all) → n + 1 ≤ length all
    by_phase Running en h = some u.line en h
    by_phase Grace en h = some u.line en h
    by_phase Leak en h = some u.line en h
    by_phase Delay en h = some u.line en h
    by_phase ph en h = cc
own_taken now turn u n all en h le = omega arith

-- a request that is broadcast stands in the line of a live unit
pub reach_line : (request : Option Request) (v : Option UnitView) (is : List Request) → HasLine v is
    → HasLine (reach request v) (is ++ (if is_live_unit v then option_to_list request else []))
reach_line None None is h = append-nil is ∙ h
reach_line (Some request) None is h = append-nil is ∙ h
reach_line None (Some u) is h = by_live (is_live u.phase)
  where
    by_live : (b : Bool) → HasLine (Some u) (is ++ (if b then [] else []))
    by_live true = subst (HasLine (Some u)) (sym (append-nil is)) h
    by_live false = subst (HasLine (Some u)) (sym (append-nil is)) h
reach_line (Some request) (Some u) is h = by_phase u.phase refl h
  where
    live : (ph : Phase) → HasLineIn ph u.line is → is_live ph ≡ true
        → HasLineIn ph (u.line ++ request ∷ []) (is ++ request ∷ [])
    live StartSent h e = cc
    live Over h e = cc
    live Starting h e = ap (λ line. line ++ request ∷ []) h
    live Running h e = ap (λ line. line ++ request ∷ []) h
    live Grace h e = ap (λ line. line ++ request ∷ []) h
    live KillWait h e = ap (λ line. line ++ request ∷ []) h
    live Leak h e = ap (λ line. line ++ request ∷ []) h
    live EnvWait h e = ap (λ line. line ++ request ∷ []) h
    live Deciding h e = ap (λ line. line ++ request ∷ []) h
    live Delay h e = ap (λ line. line ++ request ∷ []) h
    live RetrySent h e = ap (λ line. line ++ request ∷ []) h

    by_phase : (ph : Phase) → u.phase ≡ ph → HasLineIn u.phase u.line is
        → HasLine (Some (if is_live u.phase then record u { line = u.line ++ request ∷ [] } else u))
        (is ++ (if is_live u.phase then request ∷ [] else []))
    by_phase ph e h = by_live (is_live u.phase) refl
      where
        by_live : (b : Bool) → is_live u.phase ≡ b
            → HasLine (Some (if b then record u { line = u.line ++ request ∷ [] } else u))
            (is ++ (if b then request ∷ [] else []))
        by_live true e = live u.phase h e
        by_live false e = subst (HasLine (Some u)) (sym (append-nil is)) h
