-- Equalities that hold of the same values alone: of numbers, texts, lists and options, and of two parts.
use Rattle.std.proofs.Common.{rules, ◌≡◌, Bool, true, nat_eq, refl, ap}
use Rattle.std.specs.Prelude.{◌↔◌, ◌&&◌, Some, None}
use Rattle.std.specs.Cmp.{unsigned_Decides}
use Rattle.std.specs.Option.{option_eq}
use Rattle.std.proofs.lemmas.Bool.{and_parts, and_from}
use lib.Pointwise.{pointwise, pointwise_decides}
use Rattle.run_laws_display.specs.Values.{IsSameness}

pub both : {P Q : Type 0} (x y : Bool) → (x ≡ true) ↔ P → (y ≡ true) ↔ Q → ((x && y) ≡ true) ↔ (P × Q)
both x y p q =
    (λ e. (p.0 (and_parts x y e).0, q.0 (and_parts x y e).1), λ parts. and_from x y (p.1 parts.0) (q.1 parts.1))

pub numbers : IsSameness nat_eq
numbers = unsigned_Decides

pub texts : IsSameness (pointwise nat_eq)
texts = pointwise_decides numbers

pub lists_of_texts : IsSameness (pointwise (pointwise nat_eq))
lists_of_texts = pointwise_decides texts

pub options : {A : Type 0} (eq : A → A → Bool) → IsSameness eq → IsSameness (option_eq eq)
options eq same None None = (λ _. refl, λ _. refl)
options eq same None (Some b) = (λ e. cc, λ e. cc)
options eq same (Some a) None = (λ e. cc, λ e. cc)
options eq same (Some a) (Some b) = (λ e. ap Some ((same a b).0 e), λ e. (same a b).1 (search (e, rules)))
