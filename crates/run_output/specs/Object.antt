-- What an object in the making holds.
use Rattle.std.specs.Prelude.{Option}
use Rattle.serde_json.specs.Data.{Data, Members}
use Rattle.run_output.specs.Rows.{members_from}
use Rattle.run_output.specs.declared.object.Object.{Object}

-- its members
abbrev pub members_of : {F : Type 0} → (F → Option Data) → Object F → Members
members_of printed object = members_from printed object.rows.items
