-- What words choose.
use Rattle.std.specs.Prelude.{ℕ, ◌+◌, ◌≡◌, ⊤, Bool, true, false, List, [], ◌∷◌, ◌++◌, Option, Some, None}
use Rattle.std.specs.Prelude.{Result, Ok, Err, if◌then◌else◌, nat_eq, option_map}
use Rattle.std.specs.Result.{result_ok}
use Rattle.run_events.specs.declared.retry_policy.MaxFail.TheVariants as fails
use Rattle.run_commands.specs.declared.stress_count.StressCondition.TheVariants as conditions
use Rattle.run_filter.specs.PartitionWord.{partition_of}
use Rattle.run_input.specs.PlanStress.{repeats_named}
use Rattle.run_profile.specs.Time.{time_said}
use Rattle.run_plan.specs.Settings.{flag_named, setting_named}
use Rattle.run_plan.specs.Values.{flaky_by_name, max_fail_named, parts_at, retries_named}
use Rattle.run_plan.specs.Values.{run_ignored_named, some_number_named}
use Rattle.run_plan.specs.declared.choices.Choices.{Choices}
use Rattle.run_plan.specs.declared.choices.Files.{Files}
use Rattle.run_plan.specs.declared.choices.Picks.{Picks}
use Rattle.run_plan.specs.declared.choices.Ways.{Ways}
use Rattle.run_plan.specs.declared.settings.FileSetting.{FileSetting}
use Rattle.run_plan.specs.declared.settings.FileSetting.TheVariants as file
use Rattle.run_plan.specs.declared.settings.PickSetting.{PickSetting}
use Rattle.run_plan.specs.declared.settings.PickSetting.TheVariants as pick
use Rattle.run_plan.specs.declared.settings.WaySetting.{WaySetting}
use Rattle.run_plan.specs.declared.settings.WaySetting.TheVariants as way
use Rattle.run_plan.specs.declared.settings.Setting.{Setting}
use Rattle.run_plan.specs.declared.settings.Setting.TheVariants as settings
use Rattle.run_plan.specs.declared.settings.Flag.{Flag}
use Rattle.run_plan.specs.declared.settings.Flag.TheVariants as flags
use Rattle.run_plan.specs.declared.word_fault.WordFault.{WordFault}
use Rattle.run_plan.specs.declared.word_fault.WordFault.TheVariants as faults
use Rattle.run_plan.specs.declared.word_fault.Untaken.{Untaken}
use Rattle.run_plan.specs.declared.word_fault.Untaken.TheVariants as untaken
use Rattle.run_plan.specs.declared.word_fault.WordError.{WordError}
use Rattle.run_plan.specs.declared.word_fault.WordError.TheVariants as errors

-- nothing is chosen
abbrev pub no_files : Files
no_files = record { list = None; cfg = None; config = None }

abbrev pub no_picks : Picks
no_picks = record {
  filters = [];
  names = [];
  skips = [];
  is_exact = false;
  ignores_default_filter = false;
  run_ignored = None;
  partition = None;
}

abbrev pub no_ways : Ways
no_ways = record {
  profile = None;
  threads = None;
  retries = None;
  flaky = None;
  max_fail = None;
  stress = None;
  no_capture = false;
}

abbrev pub no_choices : Choices
no_choices = record { files = no_files; picks = no_picks; ways = no_ways }

-- with what is there
abbrev pub with_ok : {A B E : Type 0} → (A → B) → Result A E → Result B E
with_ok f (Ok x) = Ok (f x)
with_ok f (Err e) = Err e

-- a value that is one, of what wasn't said before
abbrev pub once : {A : Type 0} → Option A → Option A → Result (Option A) WordFault
once said None = Err faults.BadValue
once None (Some value) = Ok (Some value)
once (Some said) (Some value) = Err faults.Twice

-- files, with a value for one
abbrev pub file_taken : FileSetting → List ℕ → Files → Result Files WordFault
file_taken file.List value c = with_ok (λ x. record c { list = x }) (once c.list (Some value))
file_taken file.Cfg value c = with_ok (λ x. record c { cfg = x }) (once c.cfg (Some value))
file_taken file.Config value c = with_ok (λ x. record c { config = x }) (once c.config (Some value))

-- which tests run, with a value more
abbrev pub pick_taken : PickSetting → List ℕ → Picks → Result Picks WordFault
pick_taken pick.Filter value c = Ok (record c { filters = c.filters ++ value ∷ [] })
pick_taken pick.Skip value c = Ok (record c { skips = c.skips ++ value ∷ [] })
pick_taken pick.RunIgnored value c =
    with_ok (λ x. record c { run_ignored = x }) (once c.run_ignored (run_ignored_named value))
pick_taken pick.Partition value c =
    with_ok (λ x. record c { partition = x }) (once c.partition (result_ok (partition_of value)))

-- how they run, with a value more
abbrev pub way_taken : WaySetting → List ℕ → Ways → Result Ways WordFault
way_taken way.Profile value c = with_ok (λ x. record c { profile = x }) (once c.profile (Some value))
way_taken way.Threads value c = with_ok (λ x. record c { threads = x }) (once c.threads (some_number_named value))
way_taken way.Retries value c = with_ok (λ x. record c { retries = x }) (once c.retries (retries_named value))
way_taken way.Flaky value c = with_ok (λ x. record c { flaky = x }) (once c.flaky (flaky_by_name value))
way_taken way.StressCount value c =
    with_ok (λ x. record c { stress = x }) (once c.stress (option_map conditions.Count (repeats_named value)))
way_taken way.StressDuration value c =
    with_ok (λ x. record c { stress = x })
    (once c.stress (option_map conditions.Duration (result_ok (time_said value))))
way_taken way.MaxFail value c = with_ok (λ x. record c { max_fail = x }) (once c.max_fail (max_fail_named value))

-- what is chosen, with a value for a setting
abbrev pub with_setting : Setting → List ℕ → Choices → Result Choices WordFault
with_setting (settings.File setting) value c = with_ok (λ x. record c { files = x }) (file_taken setting value c.files)
with_setting (settings.Pick setting) value c = with_ok (λ x. record c { picks = x }) (pick_taken setting value c.picks)
with_setting (settings.Way setting) value c = with_ok (λ x. record c { ways = x }) (way_taken setting value c.ways)

-- with a word that has no value
abbrev pub with_flag : Flag → Choices → Result Choices WordFault
with_flag flags.Exact c = Ok (record c { picks = record c.picks { is_exact = true } })
with_flag flags.IgnoreDefaultFilter c = Ok (record c { picks = record c.picks { ignores_default_filter = true } })
with_flag flags.NoFailFast c =
    with_ok (λ x. record c { ways = record c.ways { max_fail = x } }) (once c.ways.max_fail (Some fails.All))
with_flag flags.NoCapture c = Ok (record c { ways = record c.ways { no_capture = true } })

-- with a name
abbrev pub with_name : List ℕ → Choices → Choices
with_name name c = record c { picks = record c.picks { names = c.picks.names ++ name ∷ [] } }

-- whether a word begins with `-`
abbrev pub is_dashed : List ℕ → Bool
is_dashed [] = false
is_dashed (byte ∷ bytes) = nat_eq byte 45

-- what is chosen after a word: of a word with a dash, its name, and the value after its `=` or else in the next word,
-- whose setting then stands beside
abbrev pub WordRead : Type 0
WordRead = Result (Option Setting × Choices) WordFault

abbrev pub valued : Option Setting → Option Flag → List ℕ → Choices → WordRead
valued (Some setting) flag value c = with_ok (λ x. (None, x)) (with_setting setting value c)
valued None (Some flag) value c = Err faults.HasValue
valued None None value c = Err faults.Unknown

abbrev pub alone : Option Setting → Option Flag → Choices → WordRead
alone (Some setting) flag c = Ok (Some setting, c)
alone None (Some flag) c = with_ok (λ x. (None, x)) (with_flag flag c)
alone None None c = Err faults.Unknown

abbrev pub dashed : Option (List ℕ × List ℕ) → List ℕ → Choices → WordRead
dashed (Some parts) word c = valued (setting_named parts.0) (flag_named parts.0) parts.1 c
dashed None word c = alone (setting_named word) (flag_named word) c

abbrev pub word_read : Option Setting → List ℕ → Choices → WordRead
word_read (Some setting) word c = with_ok (λ x. (None, x)) (with_setting setting word c)
word_read None word c = if is_dashed word then dashed (parts_at 61 word) word c else Ok (None, with_name word c)

-- what words choose, from this place on; else the first that is wrong
abbrev pub and_then_at : {A B : Type 0} → ℕ → (A → Result B (ℕ × WordFault)) → Result A WordFault
    → Result B (ℕ × WordFault)
and_then_at place f (Ok x) = f x
and_then_at place f (Err fault) = Err (place, fault)

abbrev pub words_end : ℕ → Option Setting → Choices → Result Choices (ℕ × WordFault)
words_end place None c = Ok c
words_end place (Some setting) c = Err (place, faults.NoValue)

abbrev pub words_from : ℕ → Option Setting → Choices → List (List ℕ) → Result Choices (ℕ × WordFault)
words_from place wanted c [] = words_end place wanted c
words_from place wanted c (word ∷ words) =
    and_then_at place (λ read. words_from (place + 1) read.0 read.1 words) (word_read wanted word c)

abbrev pub choices_of : List (List ℕ) → Result Choices (ℕ × WordFault)
choices_of words = words_from 0 None no_choices words

-- a call takes what is right, and refuses what isn't by its fault, or for want of memory
abbrev pub TakesValue : {A X : Type 0} → Result X Untaken → Result A WordFault → A → Type 0
TakesValue (Ok x) said new = said ≡ Ok new
TakesValue (Err (untaken.Fault fault)) said new = said ≡ Err fault
TakesValue (Err untaken.OutOfMemory) said new = ⊤

abbrev pub TakesWord : Result (Option Setting) Untaken → WordRead → Choices → Type 0
TakesWord (Ok wanted) said new = said ≡ Ok (wanted, new)
TakesWord (Err (untaken.Fault fault)) said new = said ≡ Err fault
TakesWord (Err untaken.OutOfMemory) said new = ⊤

abbrev pub word_error : ℕ → Untaken → WordError
word_error place (untaken.Fault fault) = errors.Wrong place fault
word_error place untaken.OutOfMemory = errors.OutOfMemory

abbrev pub ReadsWords : Result Choices WordError → Result Choices (ℕ × WordFault) → Type 0
ReadsWords (Ok choices) said = said ≡ Ok choices
ReadsWords (Err (errors.Wrong place fault)) said = said ≡ Err (place, fault)
ReadsWords (Err errors.OutOfMemory) said = ⊤
