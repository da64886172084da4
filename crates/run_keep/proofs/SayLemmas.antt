-- What a keeper says of its child.
use Rattle.std.proofs.Common.{◌≡◌, ℕ, ◌+◌, List, [], ◌∷◌, ◌++◌, Bool, true, false, Option, Some, None, refl, sym}
use Rattle.std.proofs.Common.{subst, ◌∙◌, arith, rules}
use Rattle.std.proofs.lemmas.List.{append-nil}
use Rattle.std.proofs.lemmas.List.Elements.{All-nil}
use Rattle.run_commands.specs.declared.script_helpers.EnvInput.{EnvInput}
use Rattle.run_events.specs.declared.ask.StartAsk.{StartAsk}
use Rattle.run_events.specs.declared.turn.Turn.{Turn}
use Rattle.run_events.specs.declared.turn.Turn.TheVariants as turns
use Rattle.run_shared.specs.declared.offered.Refusal.{Refusal}
use Rattle.run_drive.specs.declared.spawner.Begun.{Begun}
use Rattle.run_drive.specs.declared.spawner.Begun.TheVariants.{Started, Refused}
use Rattle.run_drive.specs.declared.spawner.Said.{Said}
use Rattle.run_drive.specs.declared.spawner.Said.TheVariants.{Piece, End, ReadError, Exit, WaitFailed, Env}
use Rattle.run_drive.specs.Heard.{begun_turn, said_turn}
use Rattle.run_drive.specs.Driven.{child_turns, IsMerge}
use Rattle.run_drive.proofs.KindLemmas.{settled_quiet, said_child}
use Rattle.run_drive.proofs.Merges.{merge_first}
use Rattle.run_keep.specs.declared.keeper.Heard.{Heard}
use Rattle.run_keep.specs.declared.keeper.Heard.TheVariants.{Asked, Spoke}
use Rattle.run_keep.specs.declared.kept.Kept.{Kept}
use Rattle.run_keep.specs.Minded.{IsUnwritten, MayHear, Minded, after, child_after, ends_child, is_written, runs}
use Rattle.run_keep.specs.Minded.{child_started}
use Rattle.run_keep.specs.Minded.{turn_heard, signal_told}
use Rattle.run_keep.specs.Entered.{AddsChildTurn, EntersTurn}
use Rattle.run_keep.proofs.EnterLemmas.{kinds_refused, kinds_taken, turn_taken}
use Rattle.run_keep.proofs.MindLemmas.{minded_more, minded_one, minded_quiet, minded_settled}

-- the answer to a start, and the end of a child, tell nothing that a child wrote
pub begun_unwritten : (unit : ℕ) (begun : Begun) → is_written (begun_turn unit begun) ≡ false
begun_unwritten unit (Started pid) = refl
begun_unwritten unit (Refused error) = refl

pub end_unwritten : (unit : ℕ) (said : Said) → ends_child said ≡ true → is_written (said_turn unit said) ≡ false
end_unwritten unit (Piece stream bytes) end = search rules
end_unwritten unit (End stream) end = search rules
end_unwritten unit (ReadError stream error) end = search rules
end_unwritten unit (Exit exit) end = refl
end_unwritten unit (WaitFailed error) end = refl
end_unwritten unit (Env input) end = search rules

-- a child that was waited for runs no more, and another word leaves it
end_after : (unit : ℕ) (on : Bool) (said : Said) → ends_child said ≡ true
    → child_after (Some (unit, on)) said ≡ Some (unit, false)
end_after unit on (Piece stream bytes) end = search rules
end_after unit on (End stream) end = search rules
end_after unit on (ReadError stream error) end = search rules
end_after unit on (Exit exit) end = refl
end_after unit on (WaitFailed error) end = refl
end_after unit on (Env input) end = search rules

word_after : (child : Option (ℕ × Bool)) (said : Said) → ends_child said ≡ false → child_after child said ≡ child
word_after child (Piece stream bytes) end = refl
word_after child (End stream) end = refl
word_after child (ReadError stream error) end = refl
word_after child (Exit exit) end = search rules
word_after child (WaitFailed error) end = search rules
word_after child (Env input) end = refl

-- a thing was heard, and its turn was taken or refused
minded_added : {W : Type 0} (has : W → List Heard → Type 0) (w v : W) (child : Option (ℕ × Bool)) (x : Heard)
    (turn : Turn) (old new : Kept) → ((xs : List Heard) → has w xs → has v (xs ++ x ∷ [])) → MayHear child x
    → turn_heard child x ≡ turn ∷ [] → signal_told x ≡ [] → AddsChildTurn old turn new
    → Minded has w v child (after child x) old new
minded_added has w v child x turn old new says may stands quiet a =
    minded_one has w v child x old new a.mine a.lost [] a.taken a.refused (a.orders ∙ sym (append-nil old.orders))
    (omega (arith, a.from)) a.kinds a.unwritten says may
    (rw stands a.merged) (sym quiet)

pub minded_begun : {W : Type 0} (has : W → List Heard → Type 0) (w v : W) (child : Option (ℕ × Bool))
    (start : StartAsk) (begun : Begun) (on : Bool) (old new : Kept)
    → ((xs : List Heard) → has w xs → has v (xs ++ Asked start begun ∷ [])) → runs child ≡ false
    → Some (start.unit, on) ≡ child_started start.unit begun → AddsChildTurn old (begun_turn start.unit begun) new
    → Minded has w v child (Some (start.unit, on)) old new
minded_begun has w v child start begun on old new says idle is a =
    subst (λ (last : Option (ℕ × Bool)). Minded has w v child last old new) (sym is)
    (minded_added has w v child (Asked start begun) (begun_turn start.unit begun) old new says idle refl refl a)

pub minded_end : {W : Type 0} (has : W → List Heard → Type 0) (w v : W) (unit : ℕ) (on : Bool) (said : Said)
    (old new : Kept) → ((xs : List Heard) → has w xs → has v (xs ++ Spoke said ∷ [])) → ends_child said ≡ true
    → AddsChildTurn old (said_turn unit said) new → Minded has w v (Some (unit, on)) (Some (unit, false)) old new
minded_end has w v unit on said old new says end a =
    subst (λ (last : Option (ℕ × Bool)). Minded has w v (Some (unit, on)) last old new) (end_after unit on said end)
    (minded_added has w v (Some (unit, on)) (Spoke said) (said_turn unit said) old new says (search rules) refl refl a)

pub minded_env : {W : Type 0} (has : W → List Heard → Type 0) (w v : W) (unit : ℕ) (input : EnvInput)
    (old new : Kept) → ((xs : List Heard) → has w xs → has v (xs ++ Spoke (Env input) ∷ []))
    → AddsChildTurn old (turns.Env unit input) new → Minded has w v (Some (unit, false)) (Some (unit, false)) old new
minded_env has w v unit input old new says a =
    minded_added has w v (Some (unit, false)) (Spoke (Env input)) (turns.Env unit input) old new says (search rules)
    refl refl a

-- a word was taken and said, or refused and not said
pub minded_word : {W : Type 0} (has : W → List Heard → Type 0) (w v : W) (unit : ℕ) (on : Bool) (said : Said)
    (old new : Kept) → ((xs : List Heard) → has w xs → has v (xs ++ Spoke said ∷ [])) → ends_child said ≡ false
    → EntersTurn old.receipts (said_turn unit said) None new.receipts → new.lost ≡ old.lost → new.orders ≡ old.orders
    → new.from ≡ old.from → Minded has w v (Some (unit, on)) (Some (unit, on)) old new
minded_word has w v unit on said old new says goes_on e lost orders from =
    let child : Option (ℕ × Bool) = Some (unit, on) in
    let turn = said_turn unit said in
    let is_child = said_child unit said in
    let merged : IsMerge (child_turns e.mine) [] (turn ∷ []) =
    subst (λ (ts : List Turn). IsMerge ts [] (turn ∷ [])) (sym (turn_taken e.mine turn is_child e.given))
    (merge_first turn) in
    subst (λ (last : Option (ℕ × Bool)). Minded has w v child last old new) (word_after child said goes_on)
    (minded_one has w v child (Spoke said) old new e.mine [] [] e.added (lost ∙ sym (append-nil old.lost))
    (orders ∙ sym (append-nil old.orders)) (omega (arith, from)) (kinds_taken e.mine turn is_child e.given)
    (All-nil IsUnwritten) says (search rules) merged refl)

pub minded_refused : {W : Type 0} (has : W → List Heard → Type 0) (w : W) (child : Option (ℕ × Bool)) (turn : Turn)
    (x : Refusal) (old new : Kept) → EntersTurn old.receipts turn (Some x) new.receipts → new.lost ≡ old.lost
    → new.orders ≡ old.orders → new.from ≡ old.from → Minded has w w child child old new
minded_refused has w child turn x old new e lost orders from =
    minded_settled has w w child old new e.mine (λ xs h. h) e.added (kinds_refused e.mine e.given.0)
    (settled_quiet e.mine e.given.0) lost orders from

-- a keeper that looked for something, and said nothing so far
pub minded_still : {W : Type 0} (has : W → List Heard → Type 0) (w v : W) (child : Option (ℕ × Bool)) (old : Kept)
    → ((xs : List Heard) → has w xs → has v xs) → Minded has w v child child old old
minded_still has w v child old says = minded_quiet has w v child old old says refl refl refl (omega arith)

pub minded_then : {W : Type 0} (has : W → List Heard → Type 0) (u v w : W) (a b : Option (ℕ × Bool)) (old new : Kept)
    → ((xs : List Heard) → has u xs → has v xs) → Minded has v w a b old new → Minded has u w a b old new
minded_then has u v w a b old new says m = minded_more has u v w a a b old old new (minded_still has u v a old says) m
