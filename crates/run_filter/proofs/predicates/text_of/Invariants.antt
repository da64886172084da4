use Rattle.std.proofs.Common.{◌≡◌, ◌≤◌, ◌-◌, length, drop}
use Rattle.run_filter.specs.Grammar.{text_of, with_front}
use Rattle.run_filter.proofs.predicates.text_of.Given as goal

abbrev pub invariant-loop-fuel : goal.invariant-loop-fuel
invariant-loop-fuel l = record {
  read : text_of (length l.text - l.at) l.sign (drop l.at l.text) ≡ with_front l.bytes
      (text_of l.fuel l.sign (drop l.place l.text));
  end : l.place ≤ length l.text;
}

abbrev pub decreases-loop-fuel : goal.decreases-loop-fuel
decreases-loop-fuel l = l.fuel
