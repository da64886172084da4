-- A filter without its memory.
use Rattle.run_filter.specs.declared.facts.Subject.{Subject}
use Rattle.run_filter.specs.declared.filter.Matcher.{Matcher}
use Rattle.run_filter.specs.declared.filter.Filter.{Filter}
use Rattle.run_filter.specs.declared.filter.Filter.TheVariants.{All, Nothing, Default, Is, Not', And', Or'}

pub data Tree : Type 0 where
  all : Tree
  nothing : Tree
  default : Tree
  is : Subject → Matcher → Tree
  negation : Tree → Tree
  both : Tree → Tree → Tree
  either : Tree → Tree → Tree

abbrev pub tree_of : Filter → Tree
tree_of All = all
tree_of Nothing = nothing
tree_of Default = default
tree_of (Is subject matcher) = is subject matcher
tree_of (Not' p f) = negation (tree_of f)
tree_of (And' p f q g) = both (tree_of f) (tree_of g)
tree_of (Or' p f q g) = either (tree_of f) (tree_of g)
