-- What a worker waits for, and how it listens to its spawner.
use Rattle.std.specs.Prelude.{zero, pos, ◌≡◌, ◌≢◌, ◌⊎◌, List, [], ◌∷◌, ◌++◌, Bool, true, false, is_some}
use Rattle.run_events.specs.declared.ask.StartAsk.{StartAsk}
use Rattle.run_events.specs.declared.result.ChildExit.{ChildExit}
use Rattle.run_events.specs.declared.result.ChildExit.TheVariants.{Code, Signal}
use Rattle.run_shared.specs.declared.offered.Refusal.{Refusal}
use Rattle.run_shared.specs.declared.offered.RefusalKind.TheVariants as kinds
use Rattle.run_drive.specs.declared.spawner.Begun.{Begun}
use Rattle.run_drive.specs.declared.spawner.Begun.TheVariants.{Started, Refused}
use Rattle.run_drive.specs.declared.spawner.Said.{Said}
use Rattle.run_drive.specs.declared.spawner.Said.TheVariants.{Piece, End, ReadError, Exit, WaitFailed, Env}
use Rattle.run_drive.specs.declared.spawner.Heard.{Heard}
use Rattle.run_drive.specs.declared.spawner.Heard.TheVariants.{Asked, Spoke}
use Rattle.run_drive.specs.declared.awaited.Awaited.{Awaited}
use Rattle.run_drive.specs.declared.awaited.Awaited.TheVariants as awaits

-- after a start that was answered so: a word of the child, or another start
abbrev pub after_begun : StartAsk → Begun → Awaited
after_begun start (Started pid) = awaits.Word (is_some start.env_path)
after_begun start (Refused error) = awaits.Start

-- after an exit: the environment file, of a child that has one and exited with code 0; else another start
abbrev pub after_exit : ChildExit → Bool → Awaited
after_exit (Code (pos zero)) true = awaits.Env
after_exit (Code (pos zero)) false = awaits.Start
after_exit (Code code) env = awaits.Start
after_exit (Signal signal) env = awaits.Start

-- after a word: of a child that goes on its next word, of one that ended its environment file or another start
abbrev pub after_word : Awaited → Said → Awaited
after_word (awaits.Word env) (Exit exit) = after_exit exit env
after_word (awaits.Word env) (WaitFailed error) = awaits.Start
after_word (awaits.Word env) _ = awaits.Word env
after_word awaits.Env said = awaits.Start
after_word awaits.Start said = awaits.Start

-- who waits for the first hears this list, and waits for the second then: a start is asked for only where one is
-- awaited, and a word is heard only where none is
abbrev pub GoesBy : Awaited → List Heard → Awaited → Type 0
GoesBy a [] b = a ≡ b
GoesBy a (Asked start begun ∷ rest) b = (a ≡ awaits.Start) × GoesBy (after_begun start begun) rest b
GoesBy a (Spoke said ∷ rest) b = (a ≢ awaits.Start) × GoesBy (after_word a said) rest b

-- the last refusal says that the journal is full
abbrev pub EndsFull : List Refusal → Type 0
EndsFull xs = (before : List Refusal) × (x : Refusal) × (xs ≡ before ++ x ∷ []) × (x.kind ≡ kinds.Full)

-- what was heard is heard out: each child to its end, but the last one where the journal was found full
abbrev pub IsHeardOut : List Heard → List Refusal → Type 0
IsHeardOut during refused =
    (b : Awaited) × GoesBy awaits.Start during b × ((b ≡ awaits.Start) ⊎ EndsFull refused)
