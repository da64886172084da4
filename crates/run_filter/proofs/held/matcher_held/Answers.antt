use lib.Pointwise.{pointwise}
use Rattle.std.proofs.Common.{ap, refl, nat_eq, List, ℕ}
use Rattle.std.specs.Str.{chars}
use Rattle.run_filter.specs.declared.filter.Matcher.TheVariants as matchers
use Rattle.run_filter.specs.Globs.{fits_some}
use Rattle.run_filter.specs.Tree.{is}
use Rattle.run_filter.specs.Holds.{fact_of, stands_in}
use Rattle.run_filter.proofs.HeldLemmas.{mapped_held}
use Rattle.run_filter.proofs.held.matcher_held.Goals as goal

pub returns-in-Contains : goal.returns-in-Contains
returns-in-Contains c =
    mapped_held c.part_held.result _ (is c.args.subject (matchers.Contains c.in-Contains.part))
    (λ x. stands_in c.as_str.result.now (fact_of c.args.subject x)) c.args.tests.now
    (ap (is c.args.subject) c.in-Contains.is) c.part_held.ensures (λ pattern place no. absurd no)
    (λ x. ap (λ (part : List ℕ). stands_in part (fact_of c.args.subject x)) c.as_str.ensures)

pub returns-in-Equals : goal.returns-in-Equals
returns-in-Equals c =
    mapped_held c.text_held.result _ (is c.args.subject (matchers.Equals c.in-Equals.text))
    (λ x. pointwise nat_eq (fact_of c.args.subject x) c.as_str-in-Equals.result.now) c.args.tests.now
    (ap (is c.args.subject) c.in-Equals.is) c.text_held.ensures (λ pattern place no. absurd no)
    (λ x. ap (λ (text : List ℕ). pointwise nat_eq (fact_of c.args.subject x) text) c.as_str-in-Equals.ensures)

pub returns-in-Glob : goal.returns-in-Glob
returns-in-Glob c =
    mapped_held c.glob_held.result _ (is c.args.subject (matchers.Glob c.in-Glob.glob))
    (λ x. fits_some c.in-Glob.glob (chars (fact_of c.args.subject x))) c.args.tests.now
    (ap (is c.args.subject) c.in-Glob.is) c.glob_held.ensures (λ pattern place no. absurd no) (λ x. refl)
