-- What each generated turn does to the board: which one it is, and what is left after it.
use Rattle.std.proofs.Common.{◌≡◌, ℕ, ◌+◌, ◌*◌, ◌<◌, ◌&&◌, not, List, [], ◌∷◌, ◌++◌, map, Bool, true, false, Option}
use Rattle.std.proofs.Common.{Some, None}
use Rattle.std.proofs.Common.{if◌then◌else◌, option_map, option_and_then, refl, ap, sym, ◌∙◌, subst}
use Rattle.std.specs.Option.{option_or}
use Rattle.std.specs.List.{list_all, range_with_len}
use Rattle.run_capture.specs.declared.test_output.Stream.TheVariants as streams
use Rattle.run_clock.specs.Sleep.{fires_now}
use Rattle.run_events.specs.declared.settings.Settings.{Settings}
use Rattle.run_events.specs.declared.turn.Turn.{Turn}
use Rattle.run_events.specs.declared.turn.Turn.TheVariants as turns
use Rattle.run_model.specs.Admission.{units_in}
use Rattle.run_model.specs.Board.{Board, step, unit_in}
use Rattle.run_model.specs.Dispatch.{is_main}
use Rattle.run_model.specs.Turns.{deed_on, enabled_on, run_takes}
use Rattle.run_model.specs.Words.{ns_of}
use Rattle.run_model.specs.declared.unit_view.UnitView.{UnitView}
use Rattle.run_state.specs.Settle.{first_enabled, first_turns, last_turns, of_each, settling}
use Rattle.run_generate.specs.Turns.{exit_at}
use Rattle.run_laws_generate.proofs.Children.{exit_eases, found, started_eases, stream_eases, stream_first}
use Rattle.run_laws_generate.proofs.Delivers.{deliver_eases}
use Rattle.run_laws_generate.proofs.Moves.{Eases, IsCalm}
use Rattle.run_laws_generate.proofs.Admits.{admit_eases, clock_eases}
use Rattle.run_laws_generate.proofs.OwnSteps.{begin_eases, cancel_eases, end_eases}
use Rattle.run_laws_generate.proofs.Next.{Stage, at_rest, after_tick, after_end, stage_of, is_asked, is_running}
use Rattle.run_laws_generate.proofs.Next.{first_in, time_by, made_by, next_by}
use Rattle.run_laws_generate.proofs.Steps.{IsKnown, both-right, decide_eases, due_eases, take_eases}

-- between the turns of one child, it is the first that runs, and after its stream's end the one whose stream has ended
abbrev pub IsAt : Stage → Option ℕ → Board → Type 0
IsAt at_rest current b = current ≡ None
IsAt after_tick current b = (current ≡ None) × ((k : ℕ) × (first_in is_running b ≡ Some k))
IsAt after_end current b = (k : ℕ) × ((current ≡ Some k) × (first_in is_running b ≡ Some k))

-- what a turn counts as
abbrev pub cost_of : Turn → ℕ
cost_of (turns.Clock ns) = 20
cost_of turn = 1

-- how many milliseconds the clock moves with it
abbrev pub ticks_of : Turn → ℕ
ticks_of (turns.Clock ns) = 1
ticks_of turn = 0

-- the board after a turn is calm, and less is to come
pub record Goes (p : Settings) (last : Stage) (turn : Turn) (b : Board) : Type 0 where
  pub current : Option ℕ
  pub eases : Eases last (stage_of (Some turn)) (cost_of turn) current b (step b turn (deed_on p b turn))
  pub at : IsAt (stage_of (Some turn)) current (step b turn (deed_on p b turn))
  pub time : ns_of turn ≡ 1000000 * ticks_of turn

-- the turns that a run takes by itself
abbrev pub is_settled : Turn → Bool
is_settled turns.Begin = true
is_settled turns.ReportCancel = true
is_settled turns.Deliver = true
is_settled (turns.Take k) = true
is_settled (turns.Decide k word) = true
is_settled (turns.UnitDue k) = true
is_settled turns.GlobalDue = true
is_settled turns.Admit = true
is_settled turns.End = true
is_settled turn = false

-- the turns of two lists
all_both : (xs ys : List Turn) → list_all is_settled xs ≡ true → list_all is_settled ys ≡ true
    → list_all is_settled (xs ++ ys) ≡ true
all_both [] ys all more = more
all_both (x ∷ xs) ys all more = by_first (is_settled x) all (λ rest. all_both xs ys rest more)
  where
    by_first : (b : Bool) → (b && list_all is_settled xs) ≡ true
        → (list_all is_settled xs ≡ true → list_all is_settled (xs ++ ys) ≡ true)
        → (b && list_all is_settled (xs ++ ys)) ≡ true
    by_first true all rest = rest all
    by_first false all rest = cc

-- a turn of each of some units
all_each : (turn : ℕ → Turn) → ((k : ℕ) → is_settled (turn k) ≡ true) → (ks : List ℕ)
    → list_all is_settled (map turn ks) ≡ true
all_each turn each [] = refl
all_each turn each (k ∷ ks) = ap (λ b. b && list_all is_settled (map turn ks)) (each k) ∙ all_each turn each ks

-- all turns that a run takes by itself are so
pub all_settled : (p : Settings) (word : ℕ) → list_all is_settled (settling p word) ≡ true
all_settled p word =
    all_both first_turns (takes ++ (decides ++ (dues ++ last_turns))) refl
    (all_both takes (decides ++ (dues ++ last_turns))
    (all_each turns.Take (λ k. refl) (range_with_len 0 (units_in p)))
    (all_both decides (dues ++ last_turns)
    (all_each (λ k. turns.Decide k word) (λ k. refl) (range_with_len 0 (units_in p)))
    (all_both dues last_turns (all_each turns.UnitDue (λ k. refl) (range_with_len 0 (units_in p))) refl)))
  where
    takes : List Turn
    takes = of_each p turns.Take

    decides : List Turn
    decides = of_each p (λ k. turns.Decide k word)

    dues : List Turn
    dues = of_each p turns.UnitDue

-- the first of some turns that is enabled
pub record IsFirst (p : Settings) (b : Board) (turn : Turn) : Type 0 where
  pub settled : is_settled turn ≡ true
  pub en : enabled_on p b turn ≡ true

-- the first that is enabled is so
pub first_is : (p : Settings) (b : Board) (ts : List Turn) (turn : Turn) → list_all is_settled ts ≡ true
    → first_enabled p b ts ≡ Some turn → IsFirst p b turn
first_is p b [] turn all first = cc
first_is p b (t ∷ ts) turn all first =
    by_first (enabled_on p b t) refl (is_settled t) refl all first (λ all first. first_is p b ts turn all first)
  where
    by_first : (en : Bool) → enabled_on p b t ≡ en → (settled : Bool) → is_settled t ≡ settled
        → (settled && list_all is_settled ts) ≡ true
        → (if en then Some t else first_enabled p b ts) ≡ Some turn
        → (list_all is_settled ts ≡ true → first_enabled p b ts ≡ Some turn → IsFirst p b turn) → IsFirst p b turn
    by_first en is false of all first rest = cc
    by_first true is true of all first rest =
        let same : t ≡ turn = cc in subst (IsFirst p b) same (record { settled = of; en = is })
    by_first false is true of all first rest = rest all first

-- what each of those does
by_itself : (p : Settings) (b : Board) (turn : Turn) → IsKnown p b → IsCalm None b → b.clock < 60000000000
    → is_settled turn ≡ true → enabled_on p b turn ≡ true → Goes p at_rest turn b
by_itself p b turns.Begin known calm early settled en =
    record { current = None; eases = begin_eases p b calm en; at = refl; time = refl }
by_itself p b turns.ReportCancel known calm early settled en =
    record { current = None; eases = cancel_eases p b calm en; at = refl; time = refl }
by_itself p b turns.Deliver known calm early settled en =
    record { current = None; eases = deliver_eases p b known calm en; at = refl; time = refl }
by_itself p b (turns.Take k) known calm early settled en =
    record { current = None; eases = take_eases p b k calm en; at = refl; time = refl }
by_itself p b (turns.Decide k word) known calm early settled en =
    record { current = None; eases = decide_eases p b k word known calm en; at = refl; time = refl }
by_itself p b (turns.UnitDue k) known calm early settled en =
    record { current = None; eases = due_eases p b k early calm en; at = refl; time = refl }
by_itself p b turns.GlobalDue known calm early settled en =
    let fires : fires_now b.clock b.dispatcher.causes.global ≡ true =
    both-right (is_main b.dispatcher) (fires_now b.clock b.dispatcher.causes.global)
    (both-right (not b.dispatcher.over) (run_takes p b turns.GlobalDue) en) in
    let never : false ≡ true = sym (ap (fires_now b.clock) calm.quiet.global) ∙ fires in cc
by_itself p b turns.Admit known calm early settled en =
    record { current = None; eases = admit_eases p b known calm en; at = refl; time = refl }
by_itself p b turns.End known calm early settled en =
    record { current = None; eases = end_eases p b calm en; at = refl; time = refl }
by_itself p b turn known calm early settled en = cc

-- two turns that are there are one where they are equal
same_some : (x y : Turn) → Some x ≡ Some y → x ≡ y
same_some x y e = cc

-- what the next turn does
pub goes : (p : Settings) (b : Board) (last : Stage) (current : Option ℕ) (turn : Turn) → IsKnown p b
    → IsCalm current b → b.clock < 60000000000 → IsAt last current b → next_by p b last ≡ Some turn
    → enabled_on p b turn ≡ true → Goes p last turn b
goes p b after_tick current turn known calm early at next en =
    let k : ℕ = at.1.0 in
    let same : turns.StreamEnd k streams.Combined ≡ turn =
    same_some (turns.StreamEnd k streams.Combined) turn
    (sym (ap (option_map (λ k. turns.StreamEnd k streams.Combined)) at.1.1) ∙ next) in
    subst (λ turn. Goes p after_tick turn b) same (record {
      current = Some k;
      eases = stream_eases p b k (subst (λ c. IsCalm c b) at.0 calm) at.1.1;
      at = (k, (refl, stream_first p b k at.1.1));
      time = refl;
    })
goes p b after_end current turn known calm early at next en =
    let k : ℕ = at.0 in
    let child = found is_running b k at.1.1 in
    let same : turns.Exit k (exit_at k child.unit.attempt) ≡ turn =
    same_some (turns.Exit k (exit_at k child.unit.attempt)) turn
    (sym (ap (option_and_then (λ k. option_map (λ (u : UnitView). turns.Exit k (exit_at k u.attempt)) (unit_in b k)))
    at.1.1
    ∙ ap (option_map (λ (u : UnitView). turns.Exit k (exit_at k u.attempt))) child.is) ∙ next) in
    subst (λ turn. Goes p after_end turn b) same (record {
      current = None;
      eases = exit_eases p b k (exit_at k child.unit.attempt) known (subst (λ c. IsCalm c b) at.1.0 calm) at.1.1;
      at = refl;
      time = refl;
    })
goes p b at_rest current turn known calm early at next en =
    by_first (first_enabled p b (settling p 0)) refl next
  where
    calm_now : IsCalm None b
    calm_now = subst (λ c. IsCalm c b) at calm

    by_runs : (o : Option ℕ) → first_in is_running b ≡ o → option_map (λ k. turns.Clock 1000000) o ≡ Some turn
        → Goes p at_rest turn b
    by_runs None is next = cc
    by_runs (Some k) is next =
        let same : turns.Clock 1000000 ≡ turn = cc in
        subst (λ turn. Goes p at_rest turn b) same
        (record { current = None; eases = clock_eases p b calm_now; at = (refl, (k, is)); time = refl })

    by_asked : (o : Option ℕ) → first_in is_asked b ≡ o
        → option_or (option_map (λ k. turns.Started k (k + 1)) o) (time_by b) ≡ Some turn → Goes p at_rest turn b
    by_asked None is next = by_runs (first_in is_running b) refl next
    by_asked (Some k) is next =
        let same : turns.Started k (k + 1) ≡ turn = cc in
        subst (λ turn. Goes p at_rest turn b) same (record {
          current = None;
          eases = started_eases p b k (k + 1) known calm_now (subst (λ t. enabled_on p b t ≡ true) (sym same) en);
          at = refl;
          time = refl;
        })

    by_first : (o : Option Turn) → first_enabled p b (settling p 0) ≡ o → option_or o (made_by b) ≡ Some turn
        → Goes p at_rest turn b
    by_first None is next = by_asked (first_in is_asked b) refl next
    by_first (Some t) is next =
        let same : t ≡ turn = cc in
        let first = first_is p b (settling p 0) t (all_settled p 0) is in
        subst (λ turn. Goes p at_rest turn b) same (by_itself p b t known calm_now early first.settled first.en)
