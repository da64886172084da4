-- A reading that may be refused.
use Rattle.std.specs.Prelude.{Result, Ok, Err, Option, Some, None}

infixl 10 ◌>>=◌
-- the next step reads on from a value, and a refusal stays one
abbrev pub ◌>>=◌ : {A B E : Type 0} → Result A E → (A → Result B E) → Result B E
Ok a >>= f = f a
Err e >>= f = Err e

-- a value that is there, and else this refusal
abbrev pub or_refuse : {A E : Type 0} → Option A → E → Result A E
or_refuse (Some a) e = Ok a
or_refuse None e = Err e

-- the first value that is there
abbrev pub or_else : {A : Type 0} → Option A → Option A → Option A
or_else (Some a) other = Some a
or_else None other = other
