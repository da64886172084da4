-- What a plan line says of what its tests run under.
use Rattle.std.specs.Prelude.{ℕ, List, [], ◌∷◌, Option, None, option_map, option_and_then, if◌then◌else◌, nat_eq}
use Rattle.std.specs.Prelude.{codes}
use Rattle.serde_json.specs.Data.{Data}
use Rattle.serde_json.specs.Find.{get, as_str}
use Rattle.run_commands.specs.CommandWords.{command_words}
use Rattle.run_commands.specs.declared.interceptor.Interceptor.{Interceptor}
use Rattle.run_commands.specs.declared.interceptor.Interceptor.TheVariants as under
use Rattle.run_input.specs.Fields.{◌>>=◌, when, is_object_of}
use lib.Pointwise.{pointwise}

-- a debugger, or a tracer, of the command that a text is
abbrev pub interceptor_with : List ℕ → List ℕ → Option Interceptor
interceptor_with kind command =
    if pointwise nat_eq kind (codes "debugger") then option_map under.Debugger (command_words command)
    else if pointwise nat_eq kind (codes "tracer") then option_map under.Tracer (command_words command)
    else None

unfoldable pub interceptor_of : Data → Option Interceptor
interceptor_of d = do
  _ ← when (is_object_of (codes "command" ∷ codes "kind" ∷ []) d)
  command ← option_and_then as_str (get (codes "command") d)
  kind ← option_and_then as_str (get (codes "kind") d)
  interceptor_with kind command
