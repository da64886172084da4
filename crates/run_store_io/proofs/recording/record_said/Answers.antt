use Rattle.run_store_io.proofs.LineLemmas.{some_input, line_payload}
use Rattle.run_store_io.proofs.RecordedLemmas.{record_of, record_error}
use Rattle.run_store_io.proofs.recording.record_said.Goals as goal

pub first_line-requires : goal.first_line-requires
first_line-requires g c =
    some_input c.args.bytes.now c.args.input.keys c.args.input.plan c.args.input.turns c.requires.says

pub write_store-requires : goal.write_store-requires
write_store-requires g c =
    line_payload c.args.bytes.now c.first_line.result.now c.first_line.ensures.0 c.args.input.keys c.args.input.plan
    c.args.input.turns c.first_line.ensures.1 c.requires.says c.requires.within

pub returns-in-Ok-clause-ok : goal.returns-in-Ok-clause-ok
returns-in-Ok-clause-ok g c = record {
  line = c.first_line.result.now;
  turns = c.as_slice.result.now;
  said = record_of c.args.bytes.now c.first_line.result.now c.first_line.ensures.0 c.args.input.keys c.args.input.plan
      c.args.input.turns c.as_slice.result.now c.as_slice.ensures c.first_line.ensures.1 c.requires.says;
  storable = c.in-Ok.ensures.ok.0;
  took = c.in-Ok.ensures.ok.1;
}

pub returns-clause-err : goal.returns-clause-err
returns-clause-err g c =
    record_error c.args.bytes.now _ _ c.in-Err.error (record {
      line = c.first_line.result.now;
      turns = c.as_slice.result.now;
      said = record_of c.args.bytes.now c.first_line.result.now c.first_line.ensures.0 c.args.input.keys
          c.args.input.plan c.args.input.turns c.as_slice.result.now c.as_slice.ensures c.first_line.ensures.1
          c.requires.says;
      cause = c.in-Err.ensures.err.0;
      took = c.in-Err.ensures.err.1;
    })
