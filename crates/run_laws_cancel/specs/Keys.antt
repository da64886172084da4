-- Which keys can come to a run, and what each is to it.
use Rattle.std.specs.Prelude.{◌≡◌, ◌⊎◌, List, [], ◌∷◌, ◌++◌, Bool, true, false, Some, None}
use Rattle.run_events.specs.declared.events.TestEventKind.{TestEventKind}
use Rattle.run_events.specs.declared.events.TestEventKind.TheVariants.{InfoStarted, InputEnter}
use Rattle.run_events.specs.declared.input.InputHandlerKind.TheVariants.{Standard}
use Rattle.run_events.specs.declared.input.Key.{Key}
use Rattle.run_events.specs.declared.input.KeyCode.TheVariants.{Char, Enter}
use Rattle.run_events.specs.declared.request.Request.TheVariants.{GetInfo}
use Rattle.run_events.specs.declared.settings.Settings.{Settings}
use Rattle.run_events.specs.declared.turn.Turn.TheVariants.{Key as Pressed}
use Rattle.run_model.specs.declared.entry.Entry.{Entry}
use Rattle.run_model.specs.declared.happening.Happening.{Happening}
use Rattle.run_model.specs.Journal.{IsLegal, past_of}
use Rattle.run_model.specs.Rounds.{of_told, round_count}
use Rattle.run_model.specs.Turns.{enabled, happening}
use Rattle.run_model.specs.Words.{sub_run}
use Rattle.run_laws_cancel.specs.Enabled.{is_free}

-- the press of `t`, whose code is 116, with no modifier; that of enter, with one or with none
abbrev pub letter_t : Key
letter_t = record { code = Char 116; modified = false; press = true }

abbrev pub enter : Bool → Key
enter modified = record { code = Enter; modified = modified; press = true }

-- a key is one of these
abbrev pub IsKnown : Key → Type 0
IsKnown key = (key ≡ letter_t) ⊎ ((modified : Bool) × (key ≡ enter modified))

-- a key can come exactly where the newest sub-run is free, the plan's handlers hear keys, and it is one of these
pub record ComesAsKnown (p : Settings) (past : List Happening) (key : Key) : Type 0 where
  pub only : enabled p past (Pressed key) ≡ true
      → (is_free past ≡ true) × (p.plan.hearing.input ≡ Standard) × IsKnown key
  pub each : is_free past ≡ true → p.plan.hearing.input ≡ Standard → IsKnown key
      → enabled p past (Pressed key) ≡ true

-- that holds after every legal journal
abbrev pub KnownKeysCome : Type 0
KnownKeysCome = (p : Settings) (journal : List Entry) (key : Key) → IsLegal p journal
    → ComesAsKnown p (past_of p journal) key

-- whether an event tells that the units are asked what they are doing, and whether it tells that enter was pressed
abbrev pub asks_in : TestEventKind → Bool
asks_in (InfoStarted event) = true
asks_in kind = false

abbrev pub enters_in : TestEventKind → Bool
enters_in (InputEnter event) = true
enters_in kind = false

-- but for the event that it tells first and what it asks of the live units, a turn does nothing
pub record TellsAlone (x : Happening) : Type 0 where
  pub part : x.part ≡ None
  pub sent : x.sent ≡ None
  pub info : x.info ≡ []
  pub taken : x.taken ≡ false
  pub after : x.after ≡ None
  pub asked : x.asked ≡ None
  pub cause : x.cause ≡ None
  pub stops : x.stops ≡ false
  pub begins : x.begins ≡ false
  pub ends : x.ends ≡ false
  pub over : x.over ≡ false

-- a `t` opens a round in which the units are asked what they are doing, and tells that; an enter asks nothing of them,
-- and tells that it was pressed; a key does no more; and no other turn tells that enter was pressed
pub record DoesAsItsKey (run : List Happening) (x : Happening) : Type 0 where
  pub query : x.turn ≡ Pressed letter_t
      → (of_told asks_in false x.told ≡ true) × (x.request ≡ Some (GetInfo (round_count run)))
  pub entered : (modified : Bool) → x.turn ≡ Pressed (enter modified)
      → (of_told enters_in false x.told ≡ true) × (x.request ≡ None)
  pub no_more : (key : Key) → x.turn ≡ Pressed key → TellsAlone x
  pub only : of_told enters_in false x.told ≡ true → (modified : Bool) × (x.turn ≡ Pressed (enter modified))

-- that holds of each turn of every legal journal
abbrev pub KeysDoTheirs : Type 0
KeysDoTheirs = (p : Settings) (journal : List Entry) (e : Entry) → IsLegal p (journal ++ e ∷ [])
    → DoesAsItsKey (sub_run (past_of p journal)) (happening p (past_of p journal) e)
