-- The last that told events say of something, after one more turn.
use Rattle.std.proofs.Common.{◌≡◌, List, [], ◌∷◌, ◌++◌, append-nil, Option, filter_map, option_to_list, refl, ap, ◌∙◌}
use Rattle.std.proofs.lemmas.List.Elements.{filter_map-append}
use Rattle.run_events.specs.Stats.{last_or}
use Rattle.run_events.specs.declared.events.ReporterEvent.{ReporterEvent}
use Rattle.run_events.specs.declared.events.TestEvent.{TestEvent}
use Rattle.run_progress.specs.Seen.{last_told}
use Rattle.run_laws_display.specs.Displays.{events_heard, heard_in}

-- what told events say of something, in order
abbrev pub said : {X : Type 0} → (TestEvent → Option X) → List ReporterEvent → List X
said tells events = filter_map tells (events_heard events)

last-append : {X : Type 0} (start : X) (xs ys : List X) → last_or start (xs ++ ys) ≡ last_or (last_or start xs) ys
last-append start [] ys = refl
last-append start (x ∷ xs) ys = last-append x xs ys

said-append : {X : Type 0} (tells : TestEvent → Option X) (es fs : List ReporterEvent)
    → said tells (es ++ fs) ≡ said tells es ++ said tells fs
said-append tells es fs =
    ap (filter_map tells) (filter_map-append heard_in es fs)
    ∙ filter_map-append tells (events_heard es) (events_heard fs)

-- after the events of a turn, of which that of its cause says nothing
pub last_more : {X : Type 0} (start : X) (tells : TestEvent → Option X) (es : List ReporterEvent)
    (own cause : Option ReporterEvent) → said tells (option_to_list cause) ≡ []
    → last_told start tells (events_heard (es ++ (option_to_list own ++ option_to_list cause)))
    ≡ last_or (last_told start tells (events_heard es)) (said tells (option_to_list own))
last_more start tells es own cause none =
    ap (last_or start) (said-append tells es (option_to_list own ++ option_to_list cause))
    ∙ last-append start (said tells es) (said tells (option_to_list own ++ option_to_list cause))
    ∙ ap (last_or (last_or start (said tells es))) (said-append tells (option_to_list own) (option_to_list cause)
    ∙ ap (λ xs. said tells (option_to_list own) ++ xs) none ∙ append-nil (said tells (option_to_list own)))
