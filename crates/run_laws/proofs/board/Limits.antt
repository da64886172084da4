-- After each event told in a legal journal the limits are kept.
use Rattle.std.proofs.Common.{◌≡◌, ◌||◌, ◌⊎◌, inl, inr, ℕ, zero, suc, ◌<◌, ◌≤◌, List, [], ◌∷◌, ◌++◌, length, take, drop}
use Rattle.std.proofs.Common.{Bool, true, false, if◌then◌else◌, Option, Some, None, is_some, option_to_list, nat_lt}
use Rattle.std.proofs.Common.{refl, ap, sym, subst, ◌∙◌, arith, length-append}
use Rattle.std.specs.List.{range_with_len}
use Rattle.std.proofs.lemmas.List.{append-nil, append_assoc, take-append-le, take_all}
use Rattle.run_events.specs.declared.settings.Settings.{Settings}
use Rattle.run_events.specs.declared.message.Message.{Message}
use Rattle.run_events.specs.declared.events.ReporterEvent.{ReporterEvent}
use Rattle.run_admission.specs.declared.seat.Seat.{Seat}
use Rattle.run_admission.specs.declared.seat.Seat.TheVariants.{Gone}
use Rattle.run_admission.specs.InUse.{is_in_use}
use Rattle.run_admission.proofs.FewerLemmas.{kept_gone}
use Rattle.run_model.specs.declared.entry.Entry.{Entry}
use Rattle.run_model.specs.declared.happening.Happening.{Happening}
use Rattle.run_events.specs.Cancel.{greater, rank}
use Rattle.run_events.specs.declared.cancel.CancelReason.{CancelReason}
use Rattle.run_model.specs.Words.{clock, is_over, sub_run, reason, queue, told, unit_of, unit_after, was_refused}
use Rattle.run_model.specs.Admission.{tests_in, seat_of}
use Rattle.run_model.specs.Unit.{is_live, reach}
use Rattle.run_model.specs.declared.unit_view.UnitView.{UnitView}
use Rattle.run_events.specs.declared.request.Request.{Request}
use Rattle.run_model.specs.Board.{Deed, board, deed_events, said}
use Rattle.run_model.specs.Turns.{deed_on}
use Rattle.run_model.specs.Journal.{history, IsLegalBackward}
use Rattle.run_laws.specs.Limits.{seat_told, limits_with}
use Rattle.run_laws.proofs.board.Queue.{queue-cons}
use Rattle.run_laws.proofs.told.Cancels.{IsAfter, cancel_apart}
use Rattle.run_laws.proofs.board.DeedFits.{cancel_told, Does}
use Rattle.run_laws.proofs.board.Kept.{HoldsAfter, IsOfRun, IsBeforeRuns, where_joins}
use Rattle.run_laws.proofs.board.Kept.{holds}
use Rattle.run_laws.proofs.board.OpenSeats.{opened, at_last, Along, AreLower, same_lower, along-now, along-lower}
use Rattle.run_laws.proofs.board.OpenSeats.{along-append, along-drop, at_last-lower, at_last-append, at_last-drop}
use Rattle.run_laws.proofs.board.BoardSeats.{board_seat, seat_after, AreKeptIn, kept_fewer}
use Rattle.run_laws.proofs.told.ToldSeats.{seat_told-nothing, seat_told-other}
use Rattle.run_laws.proofs.board.StartMoves.{MovesSeats}
use Rattle.run_laws.proofs.board.SeatMoves.{begin_moves, moves}
use Rattle.run_laws.proofs.board.OnBoard.{Frame}
use Rattle.run_laws.proofs.board.OnBoard.{frame_of}
use Rattle.run_laws.proofs.board.Deeds.{base_of}
use Rattle.run_laws.proofs.board.Kept.{from_base}

-- after each event told in a sub-run the limits are kept, and in the board's seats they are. Where no cause stands they
-- are kept too while the messages that wait are told, and the seats after the last of these are below the board's: once
-- one stands no further seat is opened, and a test that is left holds by what was told a seat that it has given back
record AreOpen (p : Settings) (run : List Happening) : Type 0 where
  before : (n : ℕ) → AreKeptIn p (seat_told (take n (told run)))
  along : reason run ≡ None → Along (AreKeptIn p) (seat_told (told run)) (queue run)
  last : reason run ≡ None → AreLower (at_last (seat_told (told run)) (queue run)) (board_seat run)
  board : AreKeptIn p (board_seat run)

-- so they are kept in the seats by all that was told
kept_now : (p : Settings) (run : List Happening) → AreOpen p run → AreKeptIn p (seat_told (told run))
kept_now p run o =
    subst (λ es. AreKeptIn p (seat_told es)) (take_all (length (told run)) (told run) (omega arith))
    (o.before (length (told run)))

-- where no cause stands after one more, none stood before
pub calm_before : (why cause : Option CancelReason) → greater why cause ≡ None → why ≡ None
calm_before None cause e = refl
calm_before (Some r) None e = cc
calm_before (Some r) (Some s) e = by_rank (nat_lt (rank r) (rank s)) e
  where
    by_rank : (b : Bool) → (if b then Some s else Some r) ≡ None → Some r ≡ None
    by_rank true e = cc
    by_rank false e = cc

-- what holds of each prefix of a list, and of the list with one event more, holds of each prefix of that
prefixes : (P : List ReporterEvent → Type 0) (es : List ReporterEvent) (o : Option ReporterEvent)
    → ((n : ℕ) → P (take n es)) → P (es ++ option_to_list o) → (n : ℕ) → P (take n (es ++ option_to_list o))
prefixes P es o before now n = by_length (nat_lt (length es) n) refl
  where
    one : (o : Option ReporterEvent) → length (option_to_list o) ≤ 1
    one None = omega arith
    one (Some e) = omega arith

    by_length : (b : Bool) → nat_lt (length es) n ≡ b → P (take n (es ++ option_to_list o))
    by_length true e =
        let longer : length es < n = grind (arith, e) in
        let whole : length (es ++ option_to_list o) ≤ n = omega (arith, one o, length-append es (option_to_list o)) in
        subst P (sym (take_all n (es ++ option_to_list o) whole)) now
    by_length false e =
        let within : n ≤ length es = grind (arith, e) in
        subst P (sym (take-append-le n es (option_to_list o) within)) (before n)

-- seats below seats that are below others are below those
lower-on : (a b c : ℕ → Seat) → AreLower a b → AreLower b c → AreLower a c
lower-on a b c h i k used = let same : a k ≡ b k = h k used in same ∙ i k (ap is_in_use (sym same) ∙ used)

-- the seats along a queue with one message more, which leaves the last ones where they are kept
along_sent : (p : Settings) (seat other : ℕ → Seat) (ms : List Message) (o : Option Message)
    → Along (AreKeptIn p) seat ms → AreLower (at_last (at_last seat ms) (option_to_list o)) other → AreKeptIn p other
    → Along (AreKeptIn p) seat (ms ++ option_to_list o)
along_sent p seat other ms None along lower kept = subst (Along (AreKeptIn p) seat) (sym (append-nil ms)) along
along_sent p seat other ms (Some m) along lower kept =
    along-append (AreKeptIn p) ms seat m along (kept_fewer p (opened m (at_last seat ms)) other lower kept)

-- an event that the run is cancelled leaves the seats
seat_told-cancel : (k : ℕ) (es : List ReporterEvent) (o : Option ReporterEvent) → IsAfter o
    → seat_told (es ++ option_to_list o) k ≡ seat_told es k
seat_told-cancel k es None h = seat_told-nothing k es
seat_told-cancel k es (Some e) h = let apart = cancel_apart e h in seat_told-other k es e (apart.0 k) (apart.1 k)

-- what holds of the seats after a sub-run holds after one more deed
open-cons : (p : Settings) (f : Frame) (now : ℕ) (run : List Happening) (e : Entry) (d : Deed)
    → Does p f now run d → MovesSeats p now run d → AreOpen p run → AreOpen p (said now e d ∷ run)
open-cons p f now run e d does moves o = record {
  before = λ n. subst (λ es. AreKeptIn p (seat_told (take n es))) events
      (prefixes (λ es. AreKeptIn p (seat_told es)) own d.after
      (prefixes (λ es. AreKeptIn p (seat_told es)) (told run) d.told o.before own_kept)
      (subst (λ es. AreKeptIn p (seat_told es)) (sym events)
      (kept_fewer p after (seat_told own) after_own own_kept)) n);
  along = λ calm. subst (Along (AreKeptIn p) after) (sym waiting)
      (along_sent p after (seat_after now d.part run) rest d.sent (along (before calm)) (sent (before calm)) board);
  last = λ calm. reached_above d.request
      (subst (λ q. AreLower (at_last after q) (seat_after now d.part run)) (sym waiting)
      (subst (λ seat. AreLower seat (seat_after now d.part run))
      (sym (at_last-append rest (option_to_list d.sent) after)) (sent (before calm))));
  board = kept_fewer p (board_seat (said now e d ∷ run)) (seat_after now d.part run) (reached_same d.request) board;
}
  where
    after : ℕ → Seat
    after = seat_told (told run ++ deed_events d)

    rest : List Message
    rest = drop (if d.taken then 1 else 0) (queue run)

    own : List ReporterEvent
    own = told run ++ option_to_list d.told

    events : own ++ option_to_list d.after ≡ told run ++ deed_events d
    events = append_assoc (told run) (option_to_list d.told) (option_to_list d.after)

    cancels : IsAfter d.after
    cancels = cancel_told p f now run d does.marks

    after_own : AreLower after (seat_told own)
    after_own = same_lower _ _ (λ k. ap (λ es. seat_told es k) (sym events) ∙ seat_told-cancel k own d.after cancels)

    -- a broadcast leaves the seats
    seat_reached : (request : Option Request) (v : Option UnitView) → seat_of (reach request v) ≡ seat_of v
    seat_reached None v = refl
    seat_reached (Some request) None = refl
    seat_reached (Some request) (Some u) = by_live (is_live u.phase)
      where
        by_live : (b : Bool)
            → seat_of (Some (if b then record u { line = u.line ++ request ∷ [] } else u)) ≡ seat_of (Some u)
        by_live true = refl
        by_live false = refl

    reached_same : (request : Option Request)
        → AreLower (λ k. seat_of (reach request (unit_after now k d.part (unit_of k run)))) (seat_after now d.part run)
    reached_same request = same_lower _ _ (λ k. seat_reached request (unit_after now k d.part (unit_of k run)))

    reached_above : {seat : ℕ → Seat} → (request : Option Request) → AreLower seat (seat_after now d.part run)
        → AreLower seat (λ k. seat_of (reach request (unit_after now k d.part (unit_of k run))))
    reached_above request below k used =
        below k used ∙ sym (seat_reached request (unit_after now k d.part (unit_of k run)))

    waiting : queue (said now e d ∷ run) ≡ rest ++ option_to_list d.sent
    waiting = queue-cons (said now e d) run does.room

    before : greater (reason run) d.cause ≡ None → reason run ≡ None
    before calm = calm_before (reason run) d.cause calm

    own_along : reason run ≡ None → Along (AreKeptIn p) (seat_told own) rest
    own_along calm = along-lower (AreKeptIn p) (kept_fewer p) rest (seat_told own)
        (at_last (seat_told (told run)) (take (if d.taken then 1 else 0) (queue run))) moves.tells
        (along-drop (AreKeptIn p) (if d.taken then 1 else 0) (queue run) (seat_told (told run)) (o.along calm))

    own_kept : AreKeptIn p (seat_told own)
    own_kept = by_cause (reason run) refl
      where
        by_cause : (why : Option CancelReason) → reason run ≡ why → AreKeptIn p (seat_told own)
        by_cause None calm = along-now (AreKeptIn p) (seat_told own) rest (own_along calm)
        by_cause (Some r) cause =
            kept_fewer p (seat_told own) (seat_told (told run)) (moves.opens_none (ap is_some cause)) (kept_now p run o)

    along : reason run ≡ None → Along (AreKeptIn p) after rest
    along calm = along-lower (AreKeptIn p) (kept_fewer p) rest after (seat_told own) after_own (own_along calm)

    last : reason run ≡ None → AreLower (at_last (seat_told own) rest) (board_seat run)
    last calm = lower-on (at_last (seat_told own) rest) (at_last (seat_told (told run)) (queue run)) (board_seat run)
        (subst (AreLower (at_last (seat_told own) rest))
        (at_last-drop (if d.taken then 1 else 0) (queue run) (seat_told (told run)))
        (at_last-lower rest (seat_told own)
        (at_last (seat_told (told run)) (take (if d.taken then 1 else 0) (queue run))) moves.tells))
        (o.last calm)

    sent : reason run ≡ None
        → AreLower (at_last (at_last after rest) (option_to_list d.sent)) (seat_after now d.part run)
    sent calm = lower-on (at_last (at_last after rest) (option_to_list d.sent))
        (at_last (at_last (seat_told own) rest) (option_to_list d.sent)) (seat_after now d.part run)
        (at_last-lower (option_to_list d.sent) (at_last after rest) (at_last (seat_told own) rest)
        (at_last-lower rest after (seat_told own) after_own))
        (moves.sends calm (last calm))

    board : AreKeptIn p (seat_after now d.part run)
    board = moves.keeps o.board

-- where no seat is in use, the limits are kept
gone : (p : Settings) (seat : ℕ → Seat) → ((k : ℕ) → is_in_use (seat k) ≡ false) → AreKeptIn p seat
gone p seat none =
    kept_fewer p seat (λ k. Gone)
    (λ k used. let bad : true ≡ false = sym used ∙ none k in cc)
    (kept_gone (limits_with p seat) (range_with_len 0 (tests_in p)))

-- the empty sub-run has no test in use, so that the limits are kept
open-nil : (p : Settings) → AreOpen p []
open-nil p = record {
  before = before;
  along = λ calm. gone p (seat_told []) (λ k. refl);
  last = λ calm k used. cc;
  board = gone p (board_seat []) (λ k. refl);
}
  where
    before : (n : ℕ) → AreKeptIn p (seat_told (take n []))
    before zero = gone p (seat_told []) (λ k. refl)
    before (suc n) = gone p (seat_told []) (λ k. refl)

-- in the newest sub-run after every legal journal the limits are kept, on the board and as the messages are told
opens : (p : Settings) (backward : List Entry) → IsLegalBackward p backward → AreOpen p (sub_run (history p backward))
opens p [] legal = open-nil p
opens p (e ∷ before) legal = one_more (opens p before legal.2) (holds p before legal.2)
  where
    past : List Happening
    past = history p before

    one_more : AreOpen p (sub_run (history p before)) → HoldsAfter p (history p before)
        → AreOpen p (sub_run (history p (e ∷ before)))
    one_more o h = by_run (where_joins p past e h legal.0)
      where
        by_run : IsOfRun p past e ⊎ IsBeforeRuns p past e → AreOpen p (sub_run (history p (e ∷ before)))
        by_run (inl of) =
            subst (AreOpen p) (sym of.joins)
            (open-cons p (frame_of p past) (clock past) of.base e (deed_on p (board p past) e.turn) of.does
            (moves_base d.begins refl)
            (from_base (AreOpen p) p past e of (open-nil p) o))
          where
            d : Deed
            d = deed_on p (board p past) e.turn

            moves_base : (b : Bool) → d.begins ≡ b → MovesSeats p (clock past) of.base d
            moves_base true is =
                subst (λ run. MovesSeats p (clock past) run d) (sym (of.is ∙ ap (λ b. base_of b (sub_run past)) is))
                (begin_moves p (clock past) d (of.does.marks.begins is).1
                (of.does.marks.bounds (ap (λ b. b || d.ends) is)).0)
            moves_base false is =
                subst (λ run. MovesSeats p (clock past) run d) (sym (of.is ∙ ap (λ b. base_of b (sub_run past)) is))
                (moves p (frame_of p past) (was_refused past) (clock past) (sub_run past) e.turn h legal.0)
        by_run (inr before) = subst (AreOpen p) (sym before.still) (open-nil p)

-- the limits are kept after each event told in the newest sub-run after every legal journal
pub limits : (p : Settings) (backward : List Entry) (n : ℕ) → IsLegalBackward p backward
    → AreKeptIn p (seat_told (take n (told (sub_run (history p backward)))))
limits p backward n legal = (opens p backward legal).before n
