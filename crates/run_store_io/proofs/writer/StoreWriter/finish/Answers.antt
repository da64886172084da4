use Rattle.std.proofs.Common.{◌∙◌, Bool, refl, sym, subst}
use Rattle.run_store_io.specs.Written.{IsFinishError}
use Rattle.run_store_io.specs.declared.error.StoreError.TheVariants.{Write}
use Rattle.run_store_io.proofs.WriteLemmas.{end_took, end_part}
use Rattle.run_store_io.proofs.writer.StoreWriter.finish.Goals as goal

pub returns-in-Ok-clause-ok : goal.returns-in-Ok-clause-ok
returns-in-Ok-clause-ok g c = λ start plan turns h.
    end_took g.K.Sink start plan turns c.args.self (g.K.Sink.taken c.write_record.new.sink) c.as_slice.result.now h
    (c.as_slice.ensures ∙ c.to_be_bytes-count.ensures) c.in-Ok.ensures.ok

pub returns-in-Err-clause-err : goal.returns-in-Err-clause-err
returns-in-Err-clause-err g c = (
  subst (λ (b : Bool). IsFinishError b Write) (sym c.if-closed.false) refl,
  λ start plan turns h.
      end_part g.K.Sink start plan turns c.args.self (g.K.Sink.taken c.write_record.new.sink) c.as_slice.result.now h
      (c.as_slice.ensures ∙ c.to_be_bytes-count.ensures) c.in-Err.ensures.err,
)
