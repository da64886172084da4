-- When a sub-run can begin, a message be delivered, and the clock move.
use Rattle.std.specs.Prelude.{ℕ, ◌≡◌, ◌+◌, nat_lt, List, [], ◌∷◌, Bool, true, false, ◌&&◌, ◌||◌, not, count_by}
use Rattle.std.specs.Prelude.{is_some, sum_by}
use Rattle.run_events.specs.declared.settings.Settings.{Settings}
use Rattle.run_events.specs.declared.turn.Turn.{Turn}
use Rattle.run_events.specs.declared.turn.Turn.TheVariants.{Begin, Clock, Deliver, End}
use Rattle.run_model.specs.declared.entry.Entry.{Entry}
use Rattle.run_model.specs.declared.happening.Happening.{Happening}
use Rattle.run_model.specs.Journal.{IsLegal, past_of}
use Rattle.run_model.specs.Turns.{enabled}
use Rattle.run_model.specs.Words.{is_over, ns_of, sub_run}
use Rattle.run_laws_cancel.specs.Enabled.{is_free}

-- whether a turn is a begin, an end or a delivery
abbrev pub begins_sub_run : Turn → Bool
begins_sub_run Begin = true
begins_sub_run _ = false

abbrev pub is_end : Turn → Bool
is_end End = true
is_end _ = false

abbrev pub is_delivery : Turn → Bool
is_delivery Deliver = true
is_delivery _ = false

-- whether the latest begin or end of a history is a begin
abbrev pub is_begun : List Happening → Bool
is_begun [] = false
is_begun (x ∷ past) = begins_sub_run x.turn || (not (is_end x.turn) && is_begun past)

-- how many turns of a sub-run sent a message, and how many were deliveries
abbrev pub messages_in : List Happening → ℕ
messages_in run = count_by (λ x. is_some x.sent) run

abbrev pub deliveries_in : List Happening → ℕ
deliveries_in run = count_by (λ x. is_delivery x.turn) run

-- by how much the turns of a history moved the clock
abbrev pub time_in : List Happening → ℕ
time_in past = sum_by (λ x. ns_of x.turn) past

-- after every legal journal a sub-run can begin exactly where the run isn't over, and the latest begin or end is no
-- begin
abbrev pub BeginsComeBetween : Type 0
BeginsComeBetween = (p : Settings) (journal : List Entry) → IsLegal p journal
    → enabled p (past_of p journal) Begin ≡ (not (is_over (past_of p journal)) && not (is_begun (past_of p journal)))

-- a message can be delivered exactly where the newest sub-run is free, and fewer were delivered in it than sent
abbrev pub DeliveriesComeFree : Type 0
DeliveriesComeFree = (p : Settings) (journal : List Entry) → IsLegal p journal
    → enabled p (past_of p journal) Deliver
    ≡ (is_free (past_of p journal)
    && nat_lt (deliveries_in (sub_run (past_of p journal))) (messages_in (sub_run (past_of p journal))))

-- and the clock can move exactly where the run isn't over, and by no more than to the greatest moment
abbrev pub ClockFits : Type 0
ClockFits = (p : Settings) (journal : List Entry) (ns : ℕ) → IsLegal p journal
    → enabled p (past_of p journal) (Clock ns)
    ≡ (not (is_over (past_of p journal)) && nat_lt (time_in (past_of p journal) + ns) 18446744073709551616)
