use Rattle.std.proofs.Common.{refl}
use Rattle.std.specs.Hash.{le_bytes}
use Rattle.run_events.specs.declared.signal.SignalHandlerKind.TheVariants.{Standard, DebuggerMode, Noop}
use Rattle.run_laws_display.proofs.compared.kinds_are_told_apart_by_hash.Goals as goal

pub returns : goal.returns
unfolding le_bytes
returns c Standard Standard = (λ _. refl, λ _. refl)
returns c Standard DebuggerMode = (λ e. cc, λ e. cc)
returns c Standard Noop = (λ e. cc, λ e. cc)
returns c DebuggerMode Standard = (λ e. cc, λ e. cc)
returns c DebuggerMode DebuggerMode = (λ _. refl, λ _. refl)
returns c DebuggerMode Noop = (λ e. cc, λ e. cc)
returns c Noop Standard = (λ e. cc, λ e. cc)
returns c Noop DebuggerMode = (λ e. cc, λ e. cc)
returns c Noop Noop = (λ _. refl, λ _. refl)
