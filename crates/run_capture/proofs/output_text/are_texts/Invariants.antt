use Rattle.std.proofs.Common.{◌≡◌}
use Rattle.serde_json.specs.View.{members_view}
use Rattle.run_capture.specs.OutputText.{has_only_texts}
use Rattle.run_capture.proofs.output_text.are_texts.Given as goal

abbrev pub invariant-loop-key : goal.invariant-loop-key
invariant-loop-key l =
    has_only_texts (members_view l.key-iterator) ≡ has_only_texts (members_view l.members.entries)
