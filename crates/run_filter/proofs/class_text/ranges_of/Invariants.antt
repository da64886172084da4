use Rattle.std.proofs.Common.{◌≡◌, ◌++◌, length, option_map}
use Rattle.run_filter.specs.GlobText.{first_range, items_of}
use Rattle.run_filter.proofs.class_text.ranges_of.Given as goal

abbrev pub invariant-loop-fuel : goal.invariant-loop-fuel
invariant-loop-fuel l = items_of first_range (length l.fn.text) l.fn.text ≡ option_map (λ ps. l.ranges ++ ps)
    (items_of first_range l.fuel l.rest)

abbrev pub decreases-loop-fuel : goal.decreases-loop-fuel
decreases-loop-fuel l = l.fuel
