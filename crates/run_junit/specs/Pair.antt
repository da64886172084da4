-- What a listener, and another where there is one, have heard.
use Rattle.std.specs.Prelude.{List, Option, IfSome}

-- both have heard this list
pub record BothHeard {A B X : Type 0} (heard : A → List X → Type 0) (other : B → List X → Type 0) (first : A)
    (second : Option B) (events : List X) : Type 0 where
  pub first_heard : heard first events
  pub second_heard : IfSome second (λ b. other b events)
