-- What a call answers, of what its files say.
use Rattle.std.specs.Prelude.{ℕ, ◌≡◌, ◌<◌, ◌⊎◌, ⊤, ◌++◌, Bool, true, false, List, [], ◌∷◌, codes, length, map}
use Rattle.std.specs.Prelude.{Option, Some, None, option_and_then, unwrap_or, Result, Ok, Err}
use Rattle.std.specs.List.{AllZip, zip}
use Rattle.std.specs.Option.{option_copied}
use Rattle.toml.specs.Data.{Members, no_members, get_member}
use Rattle.toml.specs.Parse.{parse_document}
use Rattle.run_input.specs.ReadsValue.{RefusesLine}
use Rattle.run_input.specs.ValueOf.{json_value}
use Rattle.run_profile.specs.Levels.{project_of}
use Rattle.run_profile.specs.Notes.{notes_from}
use Rattle.run_profile.specs.ScriptOrder.{script_order}
use Rattle.run_profile.specs.declared.errors.Fault.{Fault}
use Rattle.run_profile.specs.declared.errors.ProfileError.{ProfileError}
use Rattle.run_profile.specs.declared.errors.ProfileError.TheVariants.{Refused}
use Rattle.run_profile.specs.declared.levels.Project.{Project}
use Rattle.run_profile.specs.declared.scripts.SetupScript.{SetupScript}
use Rattle.run_profile.specs.declared.settings.Profile.{Profile}
use Rattle.run_plan_line.specs.PlanFields.{plan_text}
use Rattle.run_plan_line.specs.declared.said.SaidPlan.{SaidPlan}
use Rattle.run_plan.specs.Asks.{IsAskError, IsAsked, AsksNotItself, default_filter}
use Rattle.run_plan.specs.Listed.{AskedTest, listed}
use Rattle.run_plan.specs.Planned.{planned, used_in}
use Rattle.run_plan.specs.Platform.{platform_given}
use Rattle.run_plan.specs.PlanSaid.{IsLineOfPlan, fits_plan, runs_any}
use Rattle.run_plan.specs.Scripted.{file_ordered}
use Rattle.run_plan.specs.TestList.{list_of}
use Rattle.run_plan.specs.Versions.{needs_newer}
use Rattle.run_plan.specs.declared.asked.Asked.{Asked}
use Rattle.run_plan.specs.declared.asked.Call.{Call}
use Rattle.run_plan.specs.declared.calls.NotedLine.{NotedLine}
use Rattle.run_plan.specs.declared.calls.Texts.{Texts}
use Rattle.run_plan.specs.declared.choices.Choices.{Choices}
use Rattle.run_plan.specs.declared.choices.Picks.{Picks}
use Rattle.run_plan.specs.declared.choices.Ways.{Ways}
use Rattle.run_plan.specs.declared.filters.AskError.TheVariants as asks
use Rattle.run_plan.specs.declared.plan_fault.PlanFault.{PlanFault}
use Rattle.run_plan.specs.declared.plan_fault.PlanFault.TheVariants as faults
use Rattle.run_plan.specs.declared.test_list.TestList.{TestList}

-- the list that a text is
abbrev pub list_in : Texts → Option TestList
list_in texts = option_and_then list_of (json_value texts.list.now)

-- the document of the project's file; of no file, an empty one
abbrev pub document_of : Option (List ℕ) → Option Members
document_of None = Some no_members
document_of (Some text) = parse_document text

abbrev pub document_in : Texts → Option Members
document_in texts = document_of (option_copied texts.config)

-- the chosen profile of the document, of no more than 64 that inherit from each other
abbrev pub project_in : Texts → Ways → Members → Result Project ProfileError
project_in texts ways members =
    project_of 64 (platform_given (option_copied texts.cfg)) (unwrap_or ways.profile (codes "default")) members

pub record IsProject (texts : Texts) (ways : Ways) (document : Members) (project : Project) : Type 0 where
  pub is_document : document_in texts ≡ Some document
  pub is_project : project_in texts ways document ≡ Ok project

-- what filters say of each listed test, where the default filter doesn't ask itself
pub record AreAsked (list : TestList) (p : Profile) (picks : Picks) (asked : List Asked) : Type 0 where
  pub sound : AsksNotItself (default_filter p)
  pub each : AllZip (IsAsked p picks) (listed list) asked

-- the scripts that tests want, in the order of the project's file, where it is known
abbrev pub ordered_scripts : Option (List ℕ) → Project → Picks → List AskedTest → Option (List SetupScript)
ordered_scripts config project picks rows =
    file_ordered (option_and_then script_order config) (used_in project picks rows)

-- the plan of tests of which filters say so much
pub record IsPlanWhere (config : Option (List ℕ)) (list : TestList) (project : Project) (choices : Choices)
    (call : Call) (rows : List AskedTest) (plan : SaidPlan) : Type 0 where
  pub used : List SetupScript
  pub are_used : ordered_scripts config project choices.picks rows ≡ Some used
  pub is : plan ≡ planned list project choices call rows used

-- the plan of a list and a project with its file, by what filters say
pub record IsPlan (config : Option (List ℕ)) (list : TestList) (project : Project) (choices : Choices) (call : Call)
    (plan : SaidPlan) : Type 0 where
  pub is_old : needs_newer project.versions ≡ false
  pub asked : List Asked
  pub are_asked : AreAsked list project.profile choices.picks asked
  pub is : IsPlanWhere config list project choices call (zip (listed list) asked) plan

abbrev pub OfPlan : Option (List ℕ) → TestList → Project → Choices → Call → (SaidPlan → Type 0) → Type 0
OfPlan config list project choices call P = (plan : SaidPlan) × IsPlan config list project choices call plan × P plan

-- the scripts that tests want have no known order
abbrev pub LacksOrder : Option (List ℕ) → TestList → Project → Picks → Type 0
LacksOrder config list project picks =
    (asked : List Asked) × AreAsked list project.profile picks asked
    × (ordered_scripts config project picks (zip (listed list) asked) ≡ None)

-- the line of the plan of a list and a project, or why there is none
abbrev pub AnswersProject : Result (List ℕ) PlanFault → Option (List ℕ) → TestList → Project → Choices → Call → Type 0
AnswersProject (Ok text) config list project choices call = OfPlan config list project choices call (IsLineOfPlan text)
AnswersProject (Err (faults.ProfileFilter path place fault)) config list project choices call =
    IsAskError project.profile choices.picks (asks.OfProfile path place fault)
AnswersProject (Err faults.AsksItself) config list project choices call =
    IsAskError project.profile choices.picks asks.AsksItself
AnswersProject (Err (faults.Filter number place fault)) config list project choices call =
    IsAskError project.profile choices.picks (asks.OfWords number place fault)
AnswersProject (Err faults.NeedsNewer) config list project choices call = needs_newer project.versions ≡ true
AnswersProject (Err faults.ScriptOrder) config list project choices call =
    LacksOrder config list project choices.picks
AnswersProject (Err faults.TooMany) config list project choices call =
    (4294967295 < length list.binaries) ⊎ OfPlan config list project choices call (λ plan. fits_plan plan ≡ false)
AnswersProject (Err faults.TooLong) config list project choices call =
    OfPlan config list project choices call (λ plan. 16777216 < length (plan_text plan))
AnswersProject (Err faults.NoTests) config list project choices call =
    OfPlan config list project choices call (λ plan. runs_any plan ≡ false)
AnswersProject (Err faults.OutOfMemory) config list project choices call = ⊤
AnswersProject (Err (faults.List error)) config list project choices call = ⊥
AnswersProject (Err (faults.NotToml error)) config list project choices call = ⊥
AnswersProject (Err (faults.Profile path fault)) config list project choices call = ⊥

-- the keys of the project's file that change no plan
abbrev pub notes_in : Members → Project → List (List ℕ)
notes_in document project = notes_from (get_member (codes "profile") document) project.names

-- the same of a list and what the files say of a project
abbrev pub AnswersFiles : Result NotedLine PlanFault → Texts → TestList → Choices → Call → Type 0
AnswersFiles (Ok noted) texts list choices call =
    (document : Members) × (project : Project) × IsProject texts choices.ways document project
    × AnswersProject (Ok noted.line) (option_copied texts.config) list project choices call
    × (noted.notes ≡ notes_in document project)
AnswersFiles (Err (faults.NotToml error)) texts list choices call = document_in texts ≡ None
AnswersFiles (Err (faults.Profile path fault)) texts list choices call =
    (document : Members) × (document_in texts ≡ Some document)
    × (project_in texts choices.ways document ≡ Err (Refused path fault))
AnswersFiles (Err faults.OutOfMemory) texts list choices call = ⊤
AnswersFiles (Err e) texts list choices call =
    (document : Members) × (project : Project) × IsProject texts choices.ways document project
    × AnswersProject (Err e) (option_copied texts.config) list project choices call

-- and of a call
abbrev pub AnswersCall : Result NotedLine PlanFault → Texts → Choices → Call → Type 0
AnswersCall (Err (faults.List error)) texts choices call = RefusesLine error (list_in texts)
AnswersCall (Err faults.OutOfMemory) texts choices call = ⊤
AnswersCall answer texts choices call =
    (list : TestList) × (list_in texts ≡ Some list) × AnswersFiles answer texts list choices call

-- why a text is no document, or a document no project
abbrev pub IsNoDocument : Option (List ℕ) → PlanFault → Type 0
IsNoDocument config (faults.NotToml error) = document_of config ≡ None
IsNoDocument config faults.OutOfMemory = ⊤
IsNoDocument config e = ⊥

abbrev pub IsNoProject : Result Project ProfileError → PlanFault → Type 0
IsNoProject project (faults.Profile path fault) = project ≡ Err (Refused path fault)
IsNoProject project faults.OutOfMemory = ⊤
IsNoProject project e = ⊥

-- why there is no plan of tests of which filters say so much
abbrev pub LacksPlan : Option (List ℕ) → TestList → Project → Choices → Call → List AskedTest → PlanFault → Type 0
LacksPlan config list project choices call rows faults.ScriptOrder =
    ordered_scripts config project choices.picks rows ≡ None
LacksPlan config list project choices call rows faults.TooMany =
    (plan : SaidPlan) × IsPlanWhere config list project choices call rows plan × (fits_plan plan ≡ false)
LacksPlan config list project choices call rows faults.OutOfMemory = ⊤
LacksPlan config list project choices call rows fault = ⊥
