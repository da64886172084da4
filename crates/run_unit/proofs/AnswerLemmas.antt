-- The answers to the queries of a line.
use Rattle.std.proofs.Common.{ℕ, ◌≡◌, ◌+◌, ◌<◌, List, [], ◌∷◌, ◌++◌, length, take, get_or, Option, Some, None, refl, ap}
use Rattle.std.proofs.Common.{◌∙◌}
use Rattle.std.proofs.lemmas.List.{take_more}
use Rattle.run_events.specs.declared.info.InfoResponse.{InfoResponse}
use Rattle.run_events.specs.declared.request.Request.{Request}
use Rattle.run_events.specs.declared.request.Request.TheVariants.{GetInfo}
use Rattle.run_model.specs.Info.{rounds_in, answers_to}

-- the answers to the queries of a line are those to its parts
answers_append : (line rest : List Request) (answer : Option InfoResponse)
    → answers_to (rounds_in (line ++ rest)) answer ≡ answers_to (rounds_in line) answer ++ answers_to (rounds_in
    rest) answer
answers_append line rest None = refl
answers_append [] rest (Some answer) = refl
answers_append (GetInfo round ∷ line) rest (Some answer) = ap (◌∷◌ (round, answer)) (answers_append line rest (Some
    answer))
answers_append (request ∷ line) rest (Some answer) = answers_append line rest (Some answer)

-- with one more request they are those so far, and then the answer to that one
pub answers_more : (line : List Request) (i : ℕ) (d : Request) (answer : Option InfoResponse)
    → i < length line
    → answers_to (rounds_in (take (i + 1) line)) answer
    ≡ answers_to (rounds_in (take i line)) answer ++ answers_to (rounds_in (get_or line i d ∷ [])) answer
answers_more line i d answer lt =
    ap (λ l. answers_to (rounds_in l) answer) (take_more line i d lt)
    ∙ answers_append (take i line) (get_or line i d ∷ []) answer
