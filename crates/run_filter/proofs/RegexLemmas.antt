-- Patterns that the grammar of regexes refuses.
use Rattle.std.proofs.Common.{ℕ, ◌≡◌, ◌≢◌, ◌<◌, ◌≤◌, inl, inr, List, Option, Some, None, arith}
use Rattle.std.specs.Prelude.{IfSome, IsSomeAnd}
use Rattle.std.specs.Str.{chars}
use Rattle.regex.specs.Patterns.{Reads, Refuses, Config}
use Rattle.regex_syntax.specs.Grammar.{read}
use Rattle.regex.specs.Failures.{IsPattern}
use Rattle.regex_syntax.specs.declared.error.ErrorKind.{ErrorKind}
use Rattle.regex_syntax.specs.declared.error.ErrorKind.TheVariants.{OutOfMemory}

-- where nothing is found, nothing that is found has a property
none_found : {A : Type 0} (o : Option A) (P : A → Type 0) → o ≡ None → IsSomeAnd o P → ⊥
none_found None P e h = h
none_found (Some x) P e h = cc

-- what is found has no two properties that exclude one another
not_both : {A : Type 0} (o : Option A) (P Q : A → Type 0) → IfSome o P → IsSomeAnd o Q
    → ((x : A) → P x → Q x → ⊥) → ⊥
not_both None P Q p q f = q
not_both (Some x) P Q p q f = f x p q

too_deep : (limit depth : ℕ) → limit < depth → depth ≤ limit → ⊥
too_deep limit depth h k = absurd (omega arith)

-- a pattern that is refused isn't read
pub refused_pattern : (config : Config) (pattern : List ℕ) (kind : ErrorKind) → kind ≢ OutOfMemory
    → Refuses config pattern kind → IsPattern config pattern → ⊥
unfolding Reads Refuses
refused_pattern config pattern kind n (inl memory) p = n memory
refused_pattern config pattern kind n (inr (inl none)) p = none_found (read config (chars pattern)) _ none p.2
refused_pattern config pattern kind n (inr (inr deep)) p =
    not_both (read config (chars pattern)) _ _ deep.1 p.2 (λ x h k. too_deep config.nest_limit x.0.depth h k.0)
