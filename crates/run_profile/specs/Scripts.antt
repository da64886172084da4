-- What a file says of setup scripts, and of the tests that they run before.
use Rattle.std.specs.Prelude.{ℕ, ◌+◌, ◌==◌, Bool, true, false, List, [], ◌∷◌, ◌++◌, length, codes, nat_eq}
use Rattle.std.specs.Prelude.{Option, Some, None, is_some, unwrap_or, Ok, if◌then◌else◌}
use Rattle.std.specs.List.{list_any}
use Rattle.toml.specs.Data.{Data, Items, no_items, item, Members, no_members, member, as_array, as_str, as_table}
use Rattle.run_commands.specs.CommandWords.{command_words}
use Rattle.run_profile.specs.declared.cfg.Cfg.{Cfg}
use Rattle.run_profile.specs.declared.errors.Fault.TheVariants as faults
use Rattle.run_profile.specs.declared.errors.ProfileError.TheVariants.{Refused}
use Rattle.run_profile.specs.declared.scripts.RelativeTo.{RelativeTo}
use Rattle.run_profile.specs.declared.scripts.RelativeTo.TheVariants as bases
use Rattle.run_profile.specs.declared.scripts.ScriptCommand.{ScriptCommand}
use Rattle.run_profile.specs.declared.scripts.SetupScript.{SetupScript}
use Rattle.run_profile.specs.declared.scripts.ScriptRule.{ScriptRule}
use Rattle.run_profile.specs.Fields.{ProfileRead, Reader, needed, only_keys, optional_key, or_nothing, refused}
use Rattle.run_profile.specs.Fields.{text_read, texts_read, those, truth_read}
use Rattle.run_profile.specs.Reads.{◌>>=◌, or_refuse}
use Rattle.run_profile.specs.Refusals.{dotted, item_path}
use Rattle.run_profile.specs.Said.{terms_read}
use Rattle.run_profile.specs.Scope.{conditions, holds_of}
use lib.Pointwise.{pointwise}

-- the words of a command, where there are some
abbrev pub words_split : List ℕ → Option (List (List ℕ)) → ProfileRead (List (List ℕ))
words_split path words = or_refuse words (Refused path faults.NotCommand)

-- a text that is split as a shell does, or a list, of one word at least
abbrev pub words_said : Option (List ℕ) → Reader (List (List ℕ))
words_said (Some text) path d = words_split path (command_words text)
words_said None path d = do
  words ← texts_read path d
  if length words == 0 then refused path faults.NotCommand else Ok words

abbrev pub words_read : Reader (List (List ℕ))
words_read path d = words_said (as_str d) path d

-- the folder that a program is a path below
abbrev pub base_word : List ℕ → List ℕ → ProfileRead RelativeTo
base_word path word =
    if pointwise nat_eq word (codes "none") then Ok bases.Nothing
    else if pointwise nat_eq word (codes "workspace-root") then Ok bases.WorkspaceRoot
    else if pointwise nat_eq word (codes "target") then Ok bases.Target
    else refused path faults.NotWord

unfoldable pub base_read : Reader RelativeTo
base_read path d = do
  word ← text_read path d
  base_word path word

-- a command: its words, or a table of them and of the folder that the program is a path below
abbrev pub command_form : Bool → Reader ScriptCommand
command_form true path d = do
  _ ← only_keys (codes "command-line" ∷ codes "relative-to" ∷ []) path d
  words ← needed words_read path (codes "command-line") d
  base ← optional_key base_read path (codes "relative-to") d
  Ok (record { words = words; relative_to = unwrap_or base bases.Nothing })
command_form false path d = do
  words ← words_read path d
  Ok (record { words = words; relative_to = bases.Nothing })

abbrev pub command_read : Reader ScriptCommand
command_read path d = command_form (is_some (as_table d)) path d

-- whether its streams are captured
abbrev pub captures_read : List ℕ → Data → ProfileRead (Option Bool × Option Bool)
captures_read path d = do
  stdout ← optional_key truth_read path (codes "capture-stdout") d
  stderr ← optional_key truth_read path (codes "capture-stderr") d
  Ok (stdout, stderr)

abbrev pub script_keys : List (List ℕ)
script_keys =
    codes "capture-stderr" ∷ codes "capture-stdout" ∷ codes "command" ∷ codes "leak-timeout" ∷ codes "slow-timeout"
    ∷ []

-- the script of a name
unfoldable pub script_entry : List ℕ → List ℕ → Data → ProfileRead SetupScript
script_entry path name d = do
  _ ← only_keys script_keys path d
  command ← needed command_read path (codes "command") d
  terms ← terms_read path d
  captures ← captures_read path d
  Ok (record {
    name = name;
    command = command;
    slow = terms.0;
    leak = terms.1;
    capture_stdout = captures.0;
    capture_stderr = captures.1;
  })

-- the scripts of a table, in the order of their names
abbrev pub script_entries : List ℕ → Members → ProfileRead (List SetupScript)
script_entries path no_members = Ok []
script_entries path (member name d ms) = do
  script ← script_entry (dotted path name) name d
  scripts ← script_entries path ms
  Ok (script ∷ scripts)

abbrev pub setup_table : Reader (List SetupScript)
setup_table path d = do
  members ← or_refuse (as_table d) (Refused path faults.NotTable)
  script_entries path members

-- what stands at the key `scripts` of a file: setup scripts alone
abbrev pub scripts_read : Reader (List SetupScript)
scripts_read path d = do
  _ ← only_keys (codes "setup" ∷ []) path d
  or_nothing setup_table path (codes "setup") d

-- a name that one of the scripts has
abbrev pub is_known_script : List SetupScript → List ℕ → Bool
is_known_script scripts name = list_any (λ s. pointwise nat_eq s.name name) scripts

abbrev pub known_script : List SetupScript → List ℕ → List ℕ → ProfileRead (List ℕ)
known_script scripts path name = if is_known_script scripts name then Ok name else refused path faults.UnknownName

abbrev pub script_name_read : List SetupScript → Reader (List ℕ)
script_name_read scripts path d = do
  name ← text_read path d
  known_script scripts path name

-- the names of a list, counted from its front
abbrev pub scripts_named : List SetupScript → List ℕ → ℕ → Items → ProfileRead (List (List ℕ))
scripts_named scripts path number no_items = Ok []
scripts_named scripts path number (item d ds) = do
  name ← script_name_read scripts (item_path path number) d
  names ← scripts_named scripts path (number + 1) ds
  Ok (name ∷ names)

-- the scripts of a rule: a name, or a list of names
abbrev pub one_script : List SetupScript → List ℕ → List ℕ → ProfileRead (List (List ℕ))
one_script scripts path text = do
  name ← known_script scripts path text
  Ok (name ∷ [])

abbrev pub setup_said : List SetupScript → Option (List ℕ) → Reader (List (List ℕ))
setup_said scripts (Some text) path d = one_script scripts path text
setup_said scripts None path d = do
  items ← or_refuse (as_array d) (Refused path faults.NotList)
  scripts_named scripts path 0 items

abbrev pub setup_read : List SetupScript → Reader (List (List ℕ))
setup_read scripts path d = setup_said scripts (as_str d) path d

-- which tests a rule is for: whether its platform is this one, and its filter
abbrev pub rule_scope : Cfg → List ℕ → Data → ProfileRead (Bool × Option (List ℕ))
rule_scope cfg path d = do
  holds ← optional_key (holds_of cfg) path (codes "platform") d
  filter ← optional_key text_read path (codes "filter") d
  _ ← conditions path holds filter None
  Ok (unwrap_or holds true, filter)

-- the rule of this number in a profile, where its platform is this one
unfoldable pub rule_of : Cfg → List SetupScript → List ℕ → ℕ → Reader (Option ScriptRule)
rule_of cfg scripts profile number path d = do
  _ ← only_keys (codes "filter" ∷ codes "platform" ∷ codes "setup" ∷ []) path d
  scope ← rule_scope cfg path d
  names ← needed (setup_read scripts) path (codes "setup") d
  Ok (if scope.0 then Some (record { profile = profile; number = number; filter = scope.1; scripts = names }) else None)

-- those of a list, counted from its front
abbrev pub rule_entries : Cfg → List SetupScript → List ℕ → List ℕ → ℕ → Items → ProfileRead (List ScriptRule)
rule_entries cfg scripts profile path number no_items = Ok []
rule_entries cfg scripts profile path number (item d ds) = do
  first ← rule_of cfg scripts profile number (item_path path number) d
  rest ← rule_entries cfg scripts profile path (number + 1) ds
  Ok (those first ++ rest)

abbrev pub rules_read : Cfg → List SetupScript → List ℕ → Reader (List ScriptRule)
rules_read cfg scripts profile path d = do
  items ← or_refuse (as_array d) (Refused path faults.NotList)
  rule_entries cfg scripts profile path 0 items
