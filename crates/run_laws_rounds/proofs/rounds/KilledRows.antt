-- A unit is in KillWait exactly where it has run out of time and is given none to end by itself.
use Rattle.std.proofs.Common.{◌≡◌, ◌⊎◌, inl, inr, ℕ, ◌==◌, ◌&&◌, nat_le, max, List, [], ◌∷◌, ◌++◌, Bool, true, false}
use Rattle.std.proofs.Common.{Option, Some, None}
use Rattle.std.proofs.Common.{if◌then◌else◌, option_map, refl, ap, sym, subst, ◌∙◌, arith}
use Rattle.std.proofs.Common.{◌||◌}
use Rattle.run_capture.specs.Captured.{Captured, is_done, with_wait_error}
use Rattle.run_events.specs.declared.request.Request.{Request}
use Rattle.run_events.specs.declared.request.Request.TheVariants.{Stop, Continue, Shutdown, OtherCancel, GetInfo}
use Rattle.run_events.specs.declared.request.TermSignal.{TermSignal}
use Rattle.run_events.specs.declared.request.TermSignal.TheVariants.{Kill}
use Rattle.run_events.specs.declared.result.ChildExit.{ChildExit}
use Rattle.run_events.specs.declared.result.ChildExecutionOutput.TheVariants.{Output}
use Rattle.run_model.specs.declared.phase.Phase.{Phase}
use Rattle.run_model.specs.declared.phase.Phase.TheVariants.{StartSent, Starting, Running, Grace, KillWait, Leak}
use Rattle.run_model.specs.declared.phase.Phase.TheVariants.{EnvWait, Deciding, Delay, RetrySent, Over}
use Rattle.run_model.specs.declared.unit_turn.UnitTurn.{UnitTurn}
use Rattle.run_model.specs.declared.unit_turn.UnitTurn.TheVariants.{Answered, Started, StartFailed, Exit, WaitFailed}
use Rattle.run_model.specs.declared.unit_turn.UnitTurn.TheVariants.{Piece, StreamEnd, ReadError, Env, Due, Take}
use Rattle.run_model.specs.declared.unit_turn.UnitTurn.TheVariants.{Decide}
use Rattle.run_model.specs.declared.unit_view.UnitView.{UnitView}
use Rattle.run_model.specs.Terminate.{terminate_method}
use Rattle.run_events.specs.declared.request.TerminateReason.{TerminateReason}
use Rattle.run_events.specs.declared.request.TerminateReason.TheVariants.{Signal as Signalled}
use Rattle.run_model.specs.Slow.{one_more, is_out_of_time, ends_after}
use Rattle.run_model.specs.Ending.{settled, exited, leaking, ended, awaits_env, awaiting_env, result_of}
use Rattle.run_model.specs.Requests.{asked_to_end, requested, take_row}
use Rattle.run_model.specs.Unit.{row_at, takes_at, having_heard, running_row, waited_row, slow_row, slow_again}
use Rattle.run_model.specs.Unit.{in_grace, out_of_time, at_moment, is_live, reach, row}
use Rattle.run_laws.proofs.units.Rows.{decide_cases, takes_moment}
use Rattle.run_events.specs.declared.settings.Settings.{Settings}
use Rattle.run_model.specs.declared.entry.Entry.{Entry}
use Rattle.run_model.specs.declared.happening.Happening.{Happening}
use Rattle.run_model.specs.declared.happening.UnitPart.{UnitPart}
use Rattle.run_model.specs.declared.happening.UnitPart.TheVariants.{Joins, Acts}
use Rattle.run_model.specs.Board.{Deed, board}
use Rattle.run_model.specs.Environment.{number}
use Rattle.run_model.specs.Journal.{IsLegalBackward, history}
use Rattle.run_model.specs.Turns.{deed_on}
use Rattle.run_model.specs.Words.{clock, sub_run, unit_after, unit_of}
use Rattle.run_laws.proofs.board.DeedFits.{PartFits}
use Rattle.run_laws.proofs.board.Kept.{IsBeforeRuns, IsOfRun, from_base, holds, where_joins}
use Rattle.std.specs.Prelude.{⊤}
use Rattle.run_events.specs.declared.plan.SlowTimeout.{SlowTimeout}
use Rattle.run_laws.proofs.units.AccountLemmas.{IsFirst}
use Rattle.run_model.specs.Accounts.{is_mismatched}

-- by what its phase says: where it isn't killed so it has time, or is given some
abbrev pub is_at_once : UnitView → Bool
is_at_once u = is_out_of_time u.terms.slow u.timers.slow_count && (u.terms.slow.grace == 0)

abbrev pub IsKilledIn : Phase → UnitView → Type 0
IsKilledIn Starting u = is_at_once u ≡ false
IsKilledIn Running u = is_at_once u ≡ false
IsKilledIn Grace u = is_at_once u ≡ false
IsKilledIn KillWait u = is_at_once u ≡ true
IsKilledIn ph u = ⊤

-- phases of which nothing is said
abbrev done_with : Phase → Bool
done_with Starting = false
done_with Running = false
done_with Grace = false
done_with KillWait = false
done_with ph = true

apart : (ph : Phase) (u : UnitView) → done_with ph ≡ true → IsKilledIn ph u
apart Starting u e = cc
apart Running u e = cc
apart Grace u e = cc
apart KillWait u e = cc
apart StartSent u e = tt
apart Leak u e = tt
apart EnvWait u e = tt
apart Deciding u e = tt
apart Delay u e = tt
apart RetrySent u e = tt
apart Over u e = tt

abbrev Kills : UnitView → Type 0
Kills u = IsKilledIn u.phase u

-- one with the same phase, terms and count
same : (u v : UnitView) (ph : Phase) → v.phase ≡ ph → v.terms ≡ u.terms → v.timers.slow_count ≡ u.timers.slow_count
    → IsKilledIn ph u → Kills v
same u v ph phase terms count h = subst (λ ph. IsKilledIn ph v) (sym phase) (by_phase ph h)
  where
    is : is_at_once v ≡ is_at_once u
    is = ap (λ terms. is_out_of_time terms.slow v.timers.slow_count && (terms.slow.grace == 0)) terms
        ∙ ap (λ n. is_out_of_time u.terms.slow n && (u.terms.slow.grace == 0)) count

    by_phase : (ph : Phase) → IsKilledIn ph u → IsKilledIn ph v
    by_phase Starting h = is ∙ h
    by_phase Running h = is ∙ h
    by_phase Grace h = is ∙ h
    by_phase KillWait h = is ∙ h
    by_phase ph h = tt

-- an attempt that begins was never slow
never : (slow : SlowTimeout) → (is_out_of_time slow 0 && (slow.grace == 0)) ≡ false
never slow = by_most slow.terminate_after
  where
    by_most : (o : Option ℕ) → (ends_after o 0 && (slow.grace == 0)) ≡ false
    by_most None = refl
    by_most (Some most) = let late : nat_le (max most 1) 0 ≡ false = grind arith in rw late refl

-- its child is done with
exited_so : (now : ℕ) (exit : Option ChildExit) (leaked : Bool) (c : Captured) (u : UnitView)
    → Kills (exited now exit leaked c u)
exited_so now exit leaked c u = by_env (awaits_env (result_of exit c.errors leaked u) u)
  where
    by_env : (b : Bool) → Kills (if b then awaiting_env now exit leaked c u
        else ended now (result_of exit c.errors leaked u) (Output c.output c.errors) u)
    by_env true = tt
    by_env false = tt

settled_so : (now : ℕ) (exit : Option ChildExit) (c : Captured) (u : UnitView) → Kills (settled now exit c u)
settled_so now exit c u = by_done (u.terms.skips_leak_detection || is_done c)
  where
    by_done : (b : Bool) → Kills (if b then exited now exit false c u else leaking now exit c u)
    by_done true = exited_so now exit false c u
    by_done false = tt

running_so : (now : ℕ) (ph : Phase) (turn : UnitTurn) (u : UnitView) → u.phase ≡ ph → IsKilledIn ph u
    → Kills (running_row now turn u).next
running_so now ph (Exit exit) u is h = settled_so now (Some exit) u.capture u
running_so now ph (WaitFailed error) u is h = settled_so now None (with_wait_error u.capture error) u
running_so now ph turn u is h = same u _ ph is refl refl h

waited_so : (now : ℕ) (turn : UnitTurn) (u : UnitView) → u.phase ≡ Leak → Kills (waited_row now turn u).next
waited_so now Due u is = exited_so now u.exit true u.capture u
waited_so now turn u is = by_done (having_heard u.capture turn) (is_done (having_heard u.capture turn))
  where
    by_done : (c : Captured) (b : Bool) → Kills (if b then exited now u.exit false c u else record u { capture = c })
    by_done c true = exited_so now u.exit false c u
    by_done c false = same u _ Leak is refl refl tt

-- it is slow once more
slow_so : (now n : ℕ) (u : UnitView) → u.phase ≡ Running → Kills (slow_row now n u).next
slow_so now n u is = by_time (is_out_of_time u.terms.slow n) (u.terms.slow.grace == 0) refl refl
  where
    by_time : (out none : Bool) → is_out_of_time u.terms.slow n ≡ out → (u.terms.slow.grace == 0) ≡ none
        → Kills (if out then (if none then out_of_time n u else in_grace now n u) else slow_again now n u).next
    by_time false none o g = subst (λ ph. IsKilledIn ph (slow_again now n u).next) (sym is) (rw o refl)
    by_time true true o g = rw (o, g) refl
    by_time true false o g = rw (o, g) refl

-- it takes a request
taken_so : (now : ℕ) (ph : Phase) (u : UnitView) → u.phase ≡ ph → IsKilledIn ph u
    → Kills (take_row now ph u.line u).next
taken_so now ph u is h = by_line u.line
  where
    still : (line : List Request) → Kills (record u { line = line })
    still line = same u (record u { line = line }) ph is refl refl h

    ends : (reason : TerminateReason) (signal : TermSignal) (line : List Request) → ph ≡ Running
        → Kills (asked_to_end now reason signal (record u { line = line })).next
    ends reason Kill line runs = still line
    ends reason signal line runs = subst (λ ph. IsKilledIn ph u) runs h

    by_request : (q : Phase) (request : Request) (line : List Request) → ph ≡ q
        → Kills (requested now q request (record u { line = line })).next
    by_request q (Stop round) line e = same u _ ph is refl refl h
    by_request q Continue line e = same u _ ph is refl refl h
    by_request q (GetInfo round) line e = still line
    by_request Running (Shutdown request) line e = ends (Signalled request)
        (terminate_method (Signalled request) u.terms.slow.grace) line e
    by_request Grace (Shutdown request) line e = subst (λ ph. IsKilledIn ph u) e h
    by_request Delay (Shutdown request) line e = tt
    by_request Delay OtherCancel line e = tt
    by_request q request line e = still line

    by_line : (line : List Request) → Kills (take_row now ph line u).next
    by_line [] = same u u ph is refl refl h
    by_line (request ∷ line) = by_request ph request line refl

-- each row
pub row_kills : (now : ℕ) (ph : Phase) (turn : UnitTurn) (u : UnitView) → u.phase ≡ ph → takes_at now ph u turn ≡ true
    → IsKilledIn ph u → Kills (row_at now ph turn u).next
row_kills now StartSent (Answered true) u is en h = never u.terms.slow
row_kills now StartSent (Answered false) u is en h = tt
row_kills now Starting (Started pid) u is en h = h
row_kills now Starting (StartFailed error) u is en h = tt
row_kills now Running Due u is en h = slow_so now (one_more u.timers.slow_count) u is
row_kills now Running Take u is en h = taken_so now Running u is h
row_kills now Running (Exit exit) u is en h = running_so now Running (Exit exit) u is h
row_kills now Running (WaitFailed error) u is en h = running_so now Running (WaitFailed error) u is h
row_kills now Running (Piece stream bytes) u is en h = running_so now Running (Piece stream bytes) u is h
row_kills now Running (StreamEnd stream) u is en h = running_so now Running (StreamEnd stream) u is h
row_kills now Running (ReadError stream error) u is en h = running_so now Running (ReadError stream error) u is h
row_kills now Grace Due u is en h = h
row_kills now Grace Take u is en h = taken_so now Grace u is h
row_kills now Grace (Exit exit) u is en h = running_so now Grace (Exit exit) u is h
row_kills now Grace (WaitFailed error) u is en h = running_so now Grace (WaitFailed error) u is h
row_kills now Grace (Piece stream bytes) u is en h = running_so now Grace (Piece stream bytes) u is h
row_kills now Grace (StreamEnd stream) u is en h = running_so now Grace (StreamEnd stream) u is h
row_kills now Grace (ReadError stream error) u is en h = running_so now Grace (ReadError stream error) u is h
row_kills now KillWait (Exit exit) u is en h = running_so now KillWait (Exit exit) u is h
row_kills now KillWait (WaitFailed error) u is en h = running_so now KillWait (WaitFailed error) u is h
row_kills now Leak Due u is en h = waited_so now Due u is
row_kills now Leak Take u is en h = taken_so now Leak u is tt
row_kills now Leak (Piece stream bytes) u is en h = waited_so now (Piece stream bytes) u is
row_kills now Leak (StreamEnd stream) u is en h = waited_so now (StreamEnd stream) u is
row_kills now Leak (ReadError stream error) u is en h = waited_so now (ReadError stream error) u is
row_kills now EnvWait (Env input) u is en h = tt
row_kills now Deciding (Decide word) u is en h = decide_cases (λ r. Kills r.next) now word u (λ again. tt) (λ done. tt)
row_kills now Delay Due u is en h = tt
row_kills now Delay Take u is en h = taken_so now Delay u is tt
row_kills now RetrySent (Answered true) u is en h = never u.terms.slow
row_kills now RetrySent (Answered false) u is en h = tt
row_kills now ph turn u is en h = cc

-- so of each unit of the newest sub-run
abbrev pub KillsIf : Option UnitView → Type 0
KillsIf None = ⊤
KillsIf (Some u) = IsKilledIn u.phase u

reach_kills : (request : Option Request) (v : Option UnitView) → KillsIf v → KillsIf (reach request v)
reach_kills None v h = h
reach_kills (Some request) None h = h
reach_kills (Some request) (Some u) h = by_live (is_live u.phase)
  where
    by_live : (b : Bool) → KillsIf (Some (if b then record u { line = u.line ++ request ∷ [] } else u))
    by_live true = same u (record u { line = u.line ++ request ∷ [] }) u.phase refl refl refl h
    by_live false = h

moment_kills : (now : ℕ) (u : UnitView) → IsKilledIn u.phase u → IsKilledIn u.phase (at_moment now u)
moment_kills now u h = same u (at_moment now u) u.phase refl refl refl h

part_kills : (p : Settings) (now : ℕ) (run : List Happening) (k : ℕ) (part : Option UnitPart)
    → PartFits p now run part → KillsIf (unit_of k run) → KillsIf (unit_after now k part (unit_of k run))
part_kills p now run k None fits h = h
part_kills p now run k (Some (Joins first)) (sent, new) h = begins (number first == k)
  where
    by_first : (mm : Bool) → IsFirst mm first sent → IsKilledIn first.phase first
    by_first true is = subst (λ ph. IsKilledIn ph first) (sym is.0) tt
    by_first false is = subst (λ ph. IsKilledIn ph first) (sym is.0) tt

    begins : (b : Bool) → KillsIf (if b then Some first else unit_of k run)
    begins true = by_first (is_mismatched p (number first)) new.first
    begins false = h
part_kills p now run k (Some (Acts j turn)) fits h = by_unit (j == k) refl
  where
    by_unit : (b : Bool) → (j == k) ≡ b
        → KillsIf (if b then option_map (λ w. (row now turn w).next) (unit_of k run) else unit_of k run)
    by_unit true e =
        let here : k ≡ j = grind arith in
        let mine : unit_of k run ≡ Some fits.unit = ap (λ k. unit_of k run) here ∙ fits.is in
        subst (λ v. KillsIf (option_map (λ w. (row now turn w).next) v)) (sym mine)
        (row_kills now fits.unit.phase turn (at_moment now fits.unit) refl
        (takes_moment now fits.unit.phase fits.unit turn fits.takes)
        (moment_kills now fits.unit (subst KillsIf mine h)))
    by_unit false e = h

pub kills : (p : Settings) (backward : List Entry) → IsLegalBackward p backward → (k : ℕ)
    → KillsIf (unit_of k (sub_run (history p backward)))
kills p [] legal k = tt
kills p (e ∷ before) legal k =
    by_run (kills p before legal.2 k) (where_joins p past e (holds p before legal.2) legal.0)
  where
    past : List Happening
    past = history p before

    d : Deed
    d = deed_on p (board p past) e.turn

    Of : List Happening → Type 0
    Of run = KillsIf (unit_of k run)

    by_run : Of (sub_run past) → IsOfRun p past e ⊎ IsBeforeRuns p past e → Of (sub_run (history p (e ∷ before)))
    by_run was (inl of) = subst Of (sym of.joins)
        (reach_kills d.request (unit_after (clock past) k d.part (unit_of k of.base))
        (part_kills p (clock past) of.base k d.part of.does.part (from_base Of p past e of tt was)))
    by_run was (inr before) = subst Of (sym before.still) tt
