-- The turn that is settled is of a kind that a run takes by itself.
use Rattle.std.proofs.Common.{◌≡◌, ℕ, List, [], ◌∷◌, ◌++◌, map, Bool, true, false, Option, Some, None, refl, sym, ◌∙◌}
use Rattle.std.proofs.Common.{subst, if◌then◌else◌, rules}
use Rattle.std.proofs.Common.{option_map}
use Rattle.std.proofs.lemmas.List.Elements.{All-append, All-nil, All-cons, All-head, All-tail}
use Rattle.std.specs.List.{All, range_with_len}
use Rattle.std.specs.Option.{IfSome}
use Rattle.run_events.specs.declared.settings.Settings.{Settings}
use Rattle.run_events.specs.declared.turn.Turn.{Turn}
use Rattle.run_events.specs.declared.turn.Turn.TheVariants as turns
use Rattle.run_model.specs.Admission.{units_in}
use Rattle.run_model.specs.Board.{Board, board}
use Rattle.run_model.specs.Turns.{enabled_on}
use Rattle.run_state.specs.Settle.{settling, first_turns, last_turns, of_each, first_enabled}
use Rattle.run_engine.specs.World.{World, history_of}
use Rattle.run_engine.specs.Settling.{first_settled}
use Rattle.run_shared.specs.Settled.{is_settled_turn}

abbrev Settled : Turn → Type 0
Settled t = is_settled_turn t ≡ true

-- each turn of a list that is tried is of such a kind
each_settled : (turn : ℕ → Turn) → ((unit : ℕ) → Settled (turn unit)) → (units : List ℕ) → All Settled (map turn units)
each_settled turn each [] = All-nil Settled
each_settled turn each (unit ∷ units) =
    All-cons Settled (turn unit) (map turn units) (each unit) (each_settled turn each units)

three_settled : (a b c : Turn) → Settled a → Settled b → Settled c → All Settled (a ∷ b ∷ c ∷ [])
three_settled a b c first second third =
    All-cons Settled a (b ∷ c ∷ []) first
    (All-cons Settled b (c ∷ []) second (All-cons Settled c [] third (All-nil Settled)))

of_units : (p : Settings) (turn : ℕ → Turn) → ((unit : ℕ) → Settled (turn unit)) → (rest : List Turn) → All Settled rest
    → All Settled (of_each p turn ++ rest)
of_units p turn each rest later =
    All-append Settled (of_each p turn) rest (each_settled turn each (range_with_len 0 (units_in p))) later

due_settled : (p : Settings) → All Settled (of_each p turns.UnitDue ++ last_turns)
due_settled p =
    of_units p turns.UnitDue (λ unit. refl) last_turns (three_settled turns.GlobalDue turns.Admit
    turns.End refl refl refl)

settling_settled : (p : Settings) (word : ℕ) → All Settled (settling p word)
settling_settled p word =
    let decide : ℕ → Turn = λ unit. turns.Decide unit word in
    let decides = of_each p decide ++ (of_each p turns.UnitDue ++ last_turns) in
    All-append Settled first_turns (of_each p turns.Take ++ decides)
    (three_settled turns.Begin turns.ReportCancel turns.Deliver refl refl refl)
    (of_units p turns.Take (λ unit. refl) decides
    (of_units p decide (λ unit. refl) (of_each p turns.UnitDue ++ last_turns) (due_settled p)))

-- so is the first that is enabled
found_settled : (enabled : Bool) (t : Turn) (rest : Option Turn) → Settled t → IfSome rest Settled
    → IfSome (if enabled then Some t else rest) Settled
found_settled true t rest own later = own
found_settled false t rest own later = later

first_settled_kind : (p : Settings) (b : Board) (ts : List Turn) → All Settled ts
    → IfSome (first_enabled p b ts) Settled
first_settled_kind p b [] each = tt
first_settled_kind p b (t ∷ ts) each =
    found_settled (enabled_on p b t) t (first_enabled p b ts) (All-head Settled t ts each)
    (first_settled_kind p b ts (All-tail Settled t ts each))

-- the turn that is settled, if there is one
pub settled_kind : (w : World) (word : ℕ) (found : Option (ℕ × Turn))
    → option_map (λ (p : ℕ × Turn). p.1) found ≡ first_settled w word → IfSome found (λ p. is_settled_turn p.1 ≡ true)
settled_kind w word None is = tt
settled_kind w word (Some p) is =
    subst (λ (o : Option Turn). IfSome o Settled) (sym is)
    (first_settled_kind w.settings (board w.settings (history_of w)) (settling w.settings word)
    (settling_settled w.settings word))
