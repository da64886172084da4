use Rattle.std.proofs.Common.{◌≡◌, Option, Some, None, refl, sym}
use Rattle.uuid.specs.Text.{parsed}
use Rattle.run_jobs_cli.proofs.jobs_line.parse_uuid.Goals as goal

-- what is nothing in particular is nothing
nothing_where : {A : Type 0} (o : Option A) → ((x : A) → o ≡ Some x → ⊥) → o ≡ None
nothing_where None never = refl
nothing_where (Some x) never = absurd (never x refl)

pub returns-in-Err : goal.returns-in-Err
returns-in-Err c = sym (nothing_where (parsed c.args.text.now) (λ u e. let f = c.in-Err.ensures.ok.1 (u, e) in cc))
