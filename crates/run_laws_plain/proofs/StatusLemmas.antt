-- The statuses of attempts with one more, if there is one.
use Rattle.std.proofs.Common.{◌≡◌, List, [], ◌∷◌, ◌++◌, map, Bool, true, false, if◌then◌else◌}
use Rattle.std.proofs.lemmas.List.{map-append}
use Rattle.run_events.specs.declared.result.ExecuteStatus.{ExecuteStatus}
use Rattle.run_laws_plain.specs.Marks.{with_time}

pub map_more : (b : Bool) (statuses : List ExecuteStatus) (s : ExecuteStatus)
    → map with_time (statuses ++ (if b then s ∷ [] else [])) ≡ map with_time statuses
    ++ (if b then with_time s ∷ [] else [])
map_more true statuses s = map-append with_time statuses (s ∷ [])
map_more false statuses s = map-append with_time statuses []
