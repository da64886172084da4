-- The last status of some.
use Rattle.std.proofs.Common.{suc, ◌≡◌, ◌-◌, List, [], ◌∷◌, length, refl, ap, ◌∙◌, arith}
use Rattle.std.specs.Prelude.{slice_get}
use Rattle.run_events.specs.declared.result.ExecuteStatus.{ExecuteStatus}
use Rattle.run_model.specs.Ending.{last_status}

-- the last status stands at the last place
pub last_given : (ss : List ExecuteStatus) → last_status ss ≡ slice_get ss (length ss - 1)
last_given [] = refl
last_given (s ∷ []) = refl
last_given (s ∷ t ∷ ss) =
    let last : suc (length ss) ≡ length (s ∷ t ∷ ss) - 1 = omega arith in
    let before : length (t ∷ ss) - 1 ≡ length ss = omega arith in
    last_given (t ∷ ss) ∙ ap (slice_get (t ∷ ss)) before ∙ ap (slice_get (s ∷ t ∷ ss)) last
