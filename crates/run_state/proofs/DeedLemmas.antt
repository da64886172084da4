-- What a delivery does in its parts, and what a turn of the run's own leaves of what is kept.
use Rattle.std.proofs.Common.{◌≡◌, ◌+◌, ℕ, zero, suc, List, [], ◌∷◌, ◌++◌, map, drop, filter_map, Option, Some, None}
use Rattle.std.proofs.Common.{option_map}
use Rattle.std.proofs.Common.{Bool, true, false, if◌then◌else◌, refl, ap, ap₂, sym, ◌∙◌, arith}
use Rattle.std.proofs.Common.{Result, Ok, Err, IfOk, OnOk, add-zero, append-nil, option_to_list}
use Rattle.run_admission.specs.InUse.{Admissions}
use Rattle.run_events.specs.declared.ask.Ask.{Ask}
use Rattle.run_events.specs.declared.info.InfoResponse.{InfoResponse}
use Rattle.run_events.specs.declared.message.Message.{Message}
use Rattle.run_events.specs.declared.request.Request.{Request}
use Rattle.run_events.specs.declared.settings.Settings.{Settings}
use Rattle.run_events.specs.declared.turn.Turn.{Turn}
use Rattle.run_events.specs.declared.turn.Turn.TheVariants.{Clock}
use Rattle.run_model.specs.declared.unit_turn.UnitTurn.{UnitTurn}
use Rattle.run_model.specs.declared.dispatcher_view.DispatcherView.{DispatcherView}
use Rattle.run_model.specs.declared.happening.UnitPart.{UnitPart}
use Rattle.run_model.specs.declared.happening.UnitPart.TheVariants.{Joins}
use Rattle.run_model.specs.declared.unit_view.UnitView.{UnitView}
use Rattle.run_model.specs.Admission.{Newcomer, seat_of, limits_of, scripts_in}
use Rattle.run_model.specs.Board.{Board, Deed, anew, deed_events, dispatched, moved, moved_in, reach_all, step}
use Rattle.run_model.specs.Board.{unit_in, units_after}
use Rattle.run_model.specs.Cancel.{Cause, cause_of, caused}
use Rattle.run_model.specs.Dispatch.{go_of, moment_by}
use Rattle.run_model.proofs.RerunLemmas.{unseen-none}
use Rattle.run_model.specs.Reruns.{unseen_among}
use Rattle.run_model.specs.Rounds.{answer_of}
use Rattle.run_model.specs.Turns.{admission, answer_to, delivered_as, delivers, delivery, delivery_of, event_of}
use Rattle.run_model.specs.Turns.{nothing_done}
use Rattle.run_model.specs.Turns.{deed_on, done_by, starting, taken_deed, tally_with, turn_of_unit}
use Rattle.run_model.specs.Unit.{is_live, reached}
use Rattle.run_model.specs.Words.{ns_of}
use Rattle.run_laws.proofs.board.Tallies.{with_cause-none}
use Rattle.run_dispatch.proofs.BoardLemmas.{delivery-told}
use Rattle.run_state.proofs.RoundLemmas.{LeavesRound, answers_kept, asks_kept, delivery_leaves}
use Rattle.run_state.specs.declared.effects.Effects.{Effects}
use Rattle.run_state.specs.Done.{Done}
use Rattle.run_state.specs.declared.kept.Kept.{Kept}
use Rattle.run_state.specs.Held.{Held, KeepsSeats, kept_of, units_with}

-- the board once the oldest message was taken, and the dispatcher has heard it
abbrev pub heard : Board → Message → List Message → Board
heard b m rest = record b {
  queue = rest;
  dispatcher = dispatched b.clock b.dispatcher (delivers b.clock b.dispatcher m nothing_done);
}

-- and once its unit was answered
abbrev pub answered : Board → Message → List Message → Board
answered b m rest = moved (heard b m rest) (answer_to (heard b m rest) (starting m) (go_of b.dispatcher.tally m))

-- what a unit alone does leaves the dispatcher as it was
pub idle : (now : ℕ) (part : Option UnitPart) (sent : Option Message) (info : List (ℕ × InfoResponse))
    (asked : Option Ask)
    (d : DispatcherView)
    → dispatched now d (record nothing_done { part = part; sent = sent; info = info; asked = asked }) ≡ d
idle now part sent info asked d =
    let none : d.causes.signals + 0 ≡ d.causes.signals = omega arith in
    let unseen = option_map (unseen_among []) d.rerun in
    ap₂ (λ t n. record d { tally = t; causes = record d.causes { signals = n }; rerun = unseen })
    (with_cause-none d.tally) none
    ∙ ap (λ rerun. record d { rerun = rerun }) (unseen-none [] (λ id. refl) d.rerun)

-- so it moves the units, the queue and the answers alone; where it gives no answer, the units and the queue; and
-- nothing done leaves the board
pub unit_moved : (b : Board) (part : Option UnitPart) (sent : Option Message) (info : List (ℕ × InfoResponse))
    (asked : Option Ask) (us : List (Option UnitView)) (queue : List Message) (answers : List InfoResponse)
    → us ≡ units_after b.clock part b.units → queue ≡ b.queue ++ option_to_list sent
    → answers ≡ b.answers ++ filter_map (answer_of b.dispatcher.rounds.asks) info
    → record b { units = us; queue = queue; answers = answers }
    ≡ moved b (record nothing_done { part = part; sent = sent; info = info; asked = asked })
unit_moved b part sent info asked us queue answers acts sends gives =
    ap (λ us. record b { units = us; queue = queue; answers = answers }) acts
    ∙ ap₂ (λ queue answers. record b {
      units = units_after b.clock part b.units;
      queue = queue;
      answers = answers;
    }) sends gives
    ∙ ap (λ d. record b {
      units = units_after b.clock part b.units;
      queue = b.queue ++ option_to_list sent;
      answers = b.answers ++ filter_map (answer_of b.dispatcher.rounds.asks) info;
      dispatcher = d;
    }) (sym (idle b.clock part sent info asked b.dispatcher))

silent_moved : (b : Board) (part : Option UnitPart) (sent : Option Message) (asked : Option Ask)
    → record b { units = units_after b.clock part b.units; queue = b.queue ++ option_to_list sent }
    ≡ moved b (record nothing_done { part = part; sent = sent; asked = asked })
silent_moved b part sent asked =
    unit_moved b part sent [] asked (units_after b.clock part b.units)
    (b.queue ++ option_to_list sent) b.answers refl refl
    (sym (append-nil b.answers))

pub nothing_moved : (b : Board) → b ≡ moved b nothing_done
nothing_moved b = ap (λ queue. record b { queue = queue }) (sym (append-nil b.queue)) ∙ silent_moved b None None None

-- an admission moves the units and the queue
pub admission_moved : (p : Settings) (b : Board) (new : Option Newcomer) (us : List (Option UnitView))
    (queue : List Message)
    → us ≡ units_with p b.units new → queue ≡ b.queue ++ option_to_list (option_map (λ n. n.sent) new)
    → record b { units = us; queue = queue } ≡ moved b (admission new)
admission_moved p b new us queue joins sends =
    ap₂ (λ us queue. record b { units = us; queue = queue }) joins sends ∙ by_new new
  where
    by_new : (new : Option Newcomer)
        → record b {
          units = units_with p b.units new;
          queue = b.queue ++ option_to_list (option_map (λ n. n.sent) new);
        } ≡ moved b (admission new)
    by_new None = silent_moved b None None None
    by_new (Some new) = silent_moved b (Some (Joins new.unit)) (Some new.sent) None

-- a delivery leaves what the open round asks
pub delivery_asks : (now : ℕ) (d : DispatcherView) (m : Message) (answer : Deed)
    → (dispatched now d (delivers now d m answer)).rounds.asks ≡ d.rounds.asks
delivery_asks now d m answer =
    let leaves = delivery_leaves now d m answer in
    asks_kept now d (delivers now d m answer) leaves.opens leaves.closes leaves.begins

-- then each unit is reached, and the delivery is done
pub delivery-is : (b : Board) (m : Message) (rest : List Message) → b.queue ≡ m ∷ rest
    → record (answered b m rest) {
      units = reach_all (delivers b.clock b.dispatcher m nothing_done).request (answered b m rest).units;
    } ≡ moved b (delivery b b.queue)
delivery-is b m rest waits =
    by_answer (starting m) (go_of b.dispatcher.tally m)
    ∙ sym (ap (λ q. moved (record b { queue = q }) (delivery (record b { queue = q }) q)) waits)
  where
    by_cause : (part : Option UnitPart) (sent : Option Message) (info : List (ℕ × InfoResponse)) (asked : Option Ask)
        (cause : Option Cause)
        → LeavesRound (caused (moment_by b.clock b.dispatcher.watch) (tally_with b (event_of b m)) cause
        (delivered_as b m (record nothing_done { part = part; sent = sent; info = info; asked = asked })))
        → (dispatched b.clock b.dispatcher
        (caused (moment_by b.clock b.dispatcher.watch) (tally_with b (event_of b m)) cause
        (delivered_as b m nothing_done))).rounds.asks ≡ b.dispatcher.rounds.asks
        → record (moved (record b {
          queue = rest;
          dispatcher = dispatched b.clock b.dispatcher
              (caused (moment_by b.clock b.dispatcher.watch) (tally_with b (event_of b m)) cause
              (delivered_as b m nothing_done));
        }) (record nothing_done { part = part; sent = sent; info = info; asked = asked })) {
          units = reach_all (caused (moment_by b.clock b.dispatcher.watch) (tally_with b (event_of b m)) cause
              (delivered_as b m nothing_done)).request
              (units_after b.clock part b.units);
        }
        ≡ moved (record b { queue = m ∷ rest })
        (caused (moment_by b.clock b.dispatcher.watch) (tally_with b (event_of b m)) cause
        (delivered_as b m (record nothing_done { part = part; sent = sent; info = info; asked = asked })))
    by_cause part sent info asked None leaves asks =
        let deed : Deed =
        delivered_as b m (record nothing_done { part = part; sent = sent; info = info; asked = asked }) in
        ap₂ (λ answers d. record (moved (record b { queue = m ∷ rest }) deed) { answers = answers; dispatcher = d })
        (ap (λ asks. b.answers ++ filter_map (answer_of asks) info) asks
        ∙ answers_kept b.dispatcher.rounds.asks deed b.answers leaves.opens leaves.closes leaves.tells)
        (idle b.clock part sent info asked (dispatched b.clock b.dispatcher (delivered_as b m nothing_done)))
    by_cause part sent info asked (Some cause) leaves asks =
        let deed : Deed = caused (moment_by b.clock b.dispatcher.watch) (tally_with b (event_of b m)) (Some cause)
        (delivered_as b m (record nothing_done { part = part; sent = sent; info = info; asked = asked })) in
        ap₂ (λ answers d. record (moved (record b { queue = m ∷ rest }) deed) { answers = answers; dispatcher = d })
        (ap (λ asks. b.answers ++ filter_map (answer_of asks) info) asks
        ∙ answers_kept b.dispatcher.rounds.asks deed b.answers leaves.opens leaves.closes leaves.tells)
        (idle b.clock part sent info asked (dispatched b.clock b.dispatcher
        (caused (moment_by b.clock b.dispatcher.watch) (tally_with b (event_of b m)) (Some cause)
        (delivered_as b m nothing_done))))

    parts : (part : Option UnitPart) (sent : Option Message) (info : List (ℕ × InfoResponse)) (asked : Option Ask)
        → record (moved (heard b m rest)
        (record nothing_done { part = part; sent = sent; info = info; asked = asked })) {
          units = reach_all (delivers b.clock b.dispatcher m nothing_done).request (units_after b.clock part b.units);
        }
        ≡ moved (record b { queue = m ∷ rest }) (delivery_of (record b { queue = m ∷ rest }) m
        (record nothing_done { part = part; sent = sent; info = info; asked = asked }))
    parts part sent info asked =
        by_cause part sent info asked (cause_of b.dispatcher.rules (tally_with b (event_of b m)) m)
        (delivery_leaves b.clock b.dispatcher m
        (record nothing_done { part = part; sent = sent; info = info; asked = asked }))
        (delivery_asks b.clock b.dispatcher m nothing_done)

    by_answer : (unit : Option ℕ) (go : Option Bool)
        → record (moved (heard b m rest) (answer_to (heard b m rest) unit go)) {
          units = reach_all (delivers b.clock b.dispatcher m nothing_done).request
              (moved (heard b m rest) (answer_to (heard b m rest) unit go)).units;
        }
        ≡ moved (record b { queue = m ∷ rest }) (delivery_of (record b { queue = m ∷ rest }) m (answer_to b unit go))
    by_answer None go = parts None None [] None
    by_answer (Some k) None = parts None None [] None
    by_answer (Some k) (Some go) =
        parts (answer_to b (Some k) (Some go)).part (answer_to b (Some k) (Some go)).sent
        (answer_to b (Some k) (Some go)).info (answer_to b (Some k) (Some go)).asked

-- so do the calls of a delivery, one after another
pub delivered : (b x mid left : Board) (m : Message) (rest : List Message) (unit : Option ℕ) (go : Option Bool)
    (request : Option Request)
    → b.queue ≡ m ∷ rest → x ≡ heard b m rest → unit ≡ starting m → go ≡ go_of b.dispatcher.tally m
    → request ≡ (delivers b.clock b.dispatcher m nothing_done).request → mid ≡ moved x (answer_to x unit go)
    → left ≡ record mid { units = reach_all request mid.units } → left ≡ moved b (delivery b b.queue)
delivered b x mid left m rest unit go request waits hears starts answers asks goes reaches =
    reaches
    ∙ ap₂ (λ (a : Board) r. record a { units = reach_all r a.units })
    (goes ∙ ap₂ (λ u g. moved x (answer_to x u g)) starts answers
    ∙ ap (λ y. moved y (answer_to y (starting m) (go_of b.dispatcher.tally m))) hears) asks
    ∙ delivery-is b m rest waits

-- what it tells
pub delivery_tells : (b : Board) (m : Message) (rest : List Message) → b.queue ≡ m ∷ rest
    → deed_events (delivers b.clock b.dispatcher m nothing_done) ≡ deed_events (delivery b b.queue)
delivery_tells b m rest waits =
    sym (delivery-told b m (answer_to b (starting m) (go_of b.dispatcher.tally m)))
    ∙ sym (ap (λ q. deed_events (delivery b q)) waits)

-- a request leaves what a unit holds of the limits
seat-reached : (request : Request) (u : Option UnitView) → seat_of (option_map (reached request) u) ≡ seat_of u
seat-reached request None = refl
seat-reached request (Some u) = by_live (is_live u.phase)
  where
    by_live : (b : Bool)
        → seat_of (Some (if b then record u { line = u.line ++ request ∷ [] } else u)) ≡ seat_of (Some u)
    by_live true = refl
    by_live false = refl

seats-reached : (request : Request) (n : ℕ) (us : List (Option UnitView))
    → map seat_of (drop n (map (option_map (reached request)) us)) ≡ map seat_of (drop n us)
seats-reached request zero [] = refl
seats-reached request zero (u ∷ us) =
    ap (λ seat. seat ∷ map seat_of (map (option_map (reached request)) us)) (seat-reached request u)
    ∙ ap (λ seats. seat_of u ∷ seats) (seats-reached request zero us)
seats-reached request (suc n) [] = refl
seats-reached request (suc n) (u ∷ us) = seats-reached request n us

pub limits-reached : (p : Settings) (request : Option Request) (us : List (Option UnitView))
    → limits_of p (reach_all request us) ≡ limits_of p us
limits-reached p None us = refl
limits-reached p (Some request) us =
    ap (λ seats. record (limits_of p us) { seats = seats }) (seats-reached request (scripts_in p) us)

-- so it leaves what is kept beside the units
pub kept-reached : (p : Settings) (request : Option Request) (us : List (Option UnitView))
    → kept_of p (reach_all request us) ≡ kept_of p us
kept-reached p request us = ap (λ limits. record (kept_of p us) { limits = limits }) (limits-reached p request us)

-- what is kept beside the units is that of others, with the limits of these
pub kept_with : (p : Settings) (us vs : List (Option UnitView)) (kept : Kept) (limits : Admissions)
    → kept ≡ kept_of p us → limits ≡ limits_of p vs → record kept { limits = limits } ≡ kept_of p vs
kept_with p us vs kept limits old is = ap₂ (λ (k : Kept) limits. record k { limits = limits }) old is

-- a turn of the run's own that begins no sub-run leaves it
pub done_seated : (p : Settings) (old new : Held) (deed : Deed) → KeepsSeats p old → deed.part ≡ None
    → deed.begins ≡ false → new.board ≡ moved old.board deed → new.kept ≡ old.kept → KeepsSeats p new
done_seated p old new deed seated none on after kept =
    kept ∙ seated ∙ sym (kept-reached p deed.request old.board.units)
    ∙ sym (ap (λ part. kept_of p (reach_all deed.request (units_after old.board.clock part old.board.units))) none)
    ∙ sym (ap (λ begins. kept_of p (moved_in (if begins then anew old.board else old.board) deed).units) on)
    ∙ sym (ap (λ (b : Board). kept_of p b.units) after)

-- so does a call that answers what it gives
pub answer_seated : {E : Type 0} (p : Settings) (old new : Held) (deed : Deed) (answer : Result Effects E)
    → KeepsSeats p old → deed.part ≡ None → deed.begins ≡ false → IfOk answer (Done old deed new)
    → OnOk answer (KeepsSeats p new)
answer_seated p old new deed (Ok effects) seated none on does =
    done_seated p old new deed seated none on does.after does.kept
answer_seated p old new deed (Err lack) seated none on does = tt

-- a turn that names a unit leaves the clock
pub unit_stepped : (p : Settings) (b : Board) (turn : Turn) (named : ℕ × UnitTurn) → turn_of_unit turn ≡ Some named
    → moved b (taken_deed b.clock named.0 named.1 (unit_in b named.0)) ≡ step b turn (deed_on p b turn)
unit_stepped p b turn named names =
    ap (λ now. record (moved b deed) { clock = now })
    (sym (add-zero b.clock) ∙ ap (λ ns. b.clock + ns) (none turn names))
    ∙ ap (λ n. step b turn (done_by p b turn n)) (sym names)
  where
    deed : Deed
    deed = taken_deed b.clock named.0 named.1 (unit_in b named.0)

    none : (turn : Turn) → turn_of_unit turn ≡ Some named → 0 ≡ ns_of turn
    none (Clock ns) names = cc
    none turn names = refl
