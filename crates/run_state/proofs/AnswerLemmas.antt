-- Which answers are to what the open round asks.
use Rattle.std.proofs.Common.{◌≡◌, ℕ, List, [], ◌∷◌, ◌++◌, filter_map, option_and_then, Option, Some, None}
use Rattle.std.proofs.Common.{option_to_list}
use Rattle.std.proofs.Common.{append_assoc, refl, ap, sym, ◌∙◌}
use Rattle.std.specs.List.{cons_option}
use Rattle.std.proofs.lemmas.List.Elements.{filter_map-append}
use Rattle.run_events.specs.declared.info.InfoResponse.{InfoResponse}
use Rattle.run_events.specs.declared.request.Request.{Request}
use Rattle.run_events.specs.declared.request.Request.TheVariants.{GetInfo}
use Rattle.run_model.specs.Info.{round_of}
use Rattle.run_model.specs.Rounds.{answer_of}

-- a round of queries asks these
pub asks_query : (asks : Option Request) (round : ℕ) → option_and_then round_of asks ≡ Some round
    → asks ≡ Some (GetInfo round)
asks_query None round is = cc
asks_query (Some (GetInfo other)) round is = cc
asks_query (Some request) round is = cc

-- no answer is to any other
pub none_answers : (asks : Option Request) (info : List (ℕ × InfoResponse)) → option_and_then round_of asks ≡ None
    → filter_map (answer_of asks) info ≡ []
none_answers None [] is = refl
none_answers None (answer ∷ info) is = none_answers None info is
none_answers (Some (GetInfo round)) info is = cc
none_answers (Some request) [] is = refl
none_answers (Some request) (answer ∷ info) is = none_answers (Some request) info is

-- one more answer comes last, where it is to it
pub kept_more : {X Y : Type 0} (f : X → Option Y) (before : List Y) (xs : List X) (x : X)
    → (before ++ filter_map f xs) ++ option_to_list (f x) ≡ before ++ filter_map f (xs ++ x ∷ [])
kept_more {Y = Y} f before xs x =
    append_assoc before (filter_map f xs) (option_to_list (f x))
    ∙ ap (λ ys. before ++ (filter_map f xs ++ ys)) (one (f x))
    ∙ sym (ap (λ ys. before ++ ys) (filter_map-append f xs (x ∷ [])))
  where
    one : (y : Option Y) → option_to_list y ≡ cons_option y []
    one None = refl
    one (Some y) = refl
