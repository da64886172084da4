-- Whether a run hears keys.
use Rattle.run_events.specs.declared.input.InputHandlerKind.{InputHandlerKind}
use Rattle.run_events.specs.declared.input.InputHandlerKind.TheVariants as inputs
use Rattle.run_events.specs.declared.input.InputHandlerStatus.{InputHandlerStatus}
use Rattle.run_events.specs.declared.input.InputHandlerStatus.TheVariants.{Enabled, Disabled}

-- with the standard handlers it does, and `t` asks for information
abbrev pub handler_status : InputHandlerKind → InputHandlerStatus
handler_status inputs.Standard = Enabled 116
handler_status inputs.Noop = Disabled
