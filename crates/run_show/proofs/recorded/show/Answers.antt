-- What was shown.
use Rattle.std.proofs.Common.{ap, refl, sym, subst, ◌∙◌}
use Rattle.run_show.specs.Shown.{EndsBy, ReadsLines}
use Rattle.run_show.proofs.ShownLemmas.{rose_between, shows_on}
use Rattle.run_show.proofs.recorded.show.Goals as goal

pub returns : goal.returns
returns g c =
    let ended = c.hear_lines-read.ensures.ended in
    let report = c.hear_lines-read.new.report in
    let start = c.hear_lines-read.ensures.start ∙ c.new-report.ensures.start in
    record {
      events = ended.0;
      read = c.hear_lines-read.result;
      reads = subst (λ left. ReadsLines left ended.0 c.hear_lines-read.result) c.new-lines.ensures.ahead ended.2;
      failed = rose_between _ _ _ _ _ (ap g.S.Source.faults c.new-lines.ensures.source)
          (ap g.S.Source.faults c.into_source.ensures) c.hear_lines-read.ensures.fault;
      went = report.went;
      report = shows_on _ _ _ _ _ _ _ _ _ _ report.went ended.0
          (sym (c.hear_lines-read.ensures.settings ∙ c.new-report.ensures.settings))
          (sym (ap g.K.Sink.taken start)) refl (sym (ap g.K.Sink.faults start)) refl
          (c.into_sink.ensures ended.0 ended.1);
      ends = subst (λ went. EndsBy went c.hear_lines-read.result c.ended-ending.result) c.went.ensures
          c.ended-ending.ensures;
    }
