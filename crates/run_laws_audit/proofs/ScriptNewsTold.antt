-- What the events of a sub-run tell of setup scripts.
use Rattle.std.proofs.Common.{◌≡◌, inl, inr, ℕ, ◌+◌, ◌<◌, ◌≤◌, ◌==◌, List, [], ◌∷◌, map, Bool, true, false}
use Rattle.std.proofs.Common.{if◌then◌else◌, Option, Some, None, option_map, option_and_then, filter_map}
use Rattle.std.proofs.Common.{refl, ap, sym, subst, ◌∙◌, arith}
use Rattle.std.specs.Prelude.{IfSome}
use Rattle.std.specs.List.{All, list_any}
use Rattle.std.proofs.lemmas.Bool.Decides.{nat_tests}
use Rattle.std.proofs.lemmas.List.{map-id}
use Rattle.std.proofs.lemmas.List.Elements.{All-head}
use Rattle.run_events.specs.declared.events.ReporterEvent.{ReporterEvent}
use Rattle.run_events.specs.declared.events.ReporterEvent.TheVariants.{Tick, Test}
use Rattle.run_events.specs.declared.events.TestEventKind.{TestEventKind}
use Rattle.run_events.specs.declared.events.TestEventKind.TheVariants as kinds
use Rattle.run_events.specs.declared.message.ScriptUnit.{ScriptUnit}
use Rattle.run_events.specs.declared.message.TestUnit.{TestUnit}
use Rattle.run_events.specs.declared.result.ScriptEnv.{ScriptEnv}
use Rattle.run_events.specs.declared.settings.Settings.{Settings}
use Rattle.run_events.specs.declared.stress.StressIndex.{StressIndex}
use Rattle.run_model.specs.declared.happening.Happening.{Happening}
use Rattle.run_model.specs.Accounts as news
use Rattle.run_model.specs.Accounts.{News, account_of, attempt_of, news_in, news_of}
use Rattle.run_model.specs.Admission.{scripts_in}
use Rattle.run_model.specs.Attempts.{statuses_of}
use Rattle.run_model.specs.Story.{never_started, story_of}
use Rattle.run_model.specs.Words.{finishes, finishes_in, starts, starts_in, told}
use Rattle.run_laws.specs.Scripts.{HasScriptFate, IsToldAsRead}
use Rattle.run_laws.specs.Starts.{env_said}
use Rattle.run_laws_cancel.specs.Scripts.{ComeInTurn}
use Rattle.run_laws_events.specs.Names.{IsScriptNamed, IsTestNamed, NamesThePlan, NamesThePlanIn}
use Rattle.run_audit_model.specs.SeenScripts.{ScriptNews, began, due_script}
use Rattle.run_audit_model.specs.SeenScripts.{ended}
use Rattle.run_output.specs.Statuses.{script_status_data}
use Rattle.run_audit_model.specs.Statuses.{compared_in, due_script_status}
use Rattle.run_laws_audit.specs.Due.{script_news, script_news_in}
use Rattle.run_laws_audit.proofs.IdLemmas.{planned, planned_script}
use Rattle.run_laws_audit.proofs.KeptLemmas.{any_in, kept_all, kept_any, kept_twice}
use Rattle.run_laws_audit.proofs.ListLemmas.{filter-seen, split_kept, within_edges}
use Rattle.run_laws_audit.proofs.ScriptOrder.{AreInTurn, AreWithin, IsShort, IsWithin, begins_this}
use Rattle.run_laws_audit.proofs.ScriptOrder.{ends_this, if_this, of_script}

-- a unit of a test has the number of no script
test_number : (p : Settings) (index : Option StressIndex) (unit : TestUnit) (k : ℕ) → k < scripts_in p
    → IsTestNamed p index unit → (unit.unit == k) ≡ false
test_number p index unit k below named =
    let it = planned p index unit named in
    let is : unit.unit ≡ scripts_in p + it.place = it.number in
    grind (arith, nat_tests)

-- what is told of script k, as it is seen, where this came of its environment file
abbrev as_script : ℕ → ScriptEnv → News → ScriptNews
as_script k env (news.finished (status ∷ statuses)) = ended k (due_script_status status env)
as_script k env other = began k

none_of : (k : ℕ) (env : ScriptEnv) (b : Bool) (told_so : News) → b ≡ false
    → None ≡ option_map (as_script k env) (if b then Some told_so else None)
none_of k env false t e = refl
none_of k env true t e = cc

module _ (p : Settings) (index : Option StressIndex) (run : List Happening) (k : ℕ) (below : k < scripts_in p) where
  abbrev env : ScriptEnv
  env = env_said (story_of k run)

  abbrev IsScriptTold : TestEventKind → Type 0
  IsScriptTold kind =
      option_and_then (if_this k) (script_news_in kind) ≡ option_map (as_script k env) (news_in k kind)

  abbrev IsReadIn : TestEventKind → Type 0
  IsReadIn (kinds.SetupScriptFinished finish) = finish.status.env ≡ env_said (story_of finish.script.unit run)
  IsReadIn kind = Unit {0}

  started_seen : (script : ScriptUnit) → IsScriptNamed p index script
      → (if script.index == k then Some (began script.index) else None)
      ≡ option_map (as_script k env) (if script.unit == k then Some news.started else None)
  started_seen script named =
      ap (λ i. if i == k then Some (began i) else None) (planned_script p index script named).index
      ∙ by_number (script.unit == k) refl
    where
      by_number : (b : Bool) → (script.unit == k) ≡ b → (if b then Some (began script.unit) else None)
          ≡ option_map (as_script k env) (if b then Some news.started else None)
      by_number false e = refl
      by_number true e = let same : script.unit ≡ k = grind (arith, nat_tests) in ap (λ n. Some (began n)) same

  of_kind : (kind : TestEventKind) → NamesThePlanIn p index kind → IsReadIn kind → IsScriptTold kind
  of_kind (kinds.SetupScriptStarted event) named said = started_seen event.script named
  of_kind (kinds.SetupScriptFinished event) named said =
      ap (λ i. if i == k then Some (ended i (Some (compared_in (script_status_data event.status)))) else None)
      (planned_script p index event.script named).index
      ∙ by_number (event.script.unit == k) refl
    where
      by_number : (b : Bool) → (event.script.unit == k) ≡ b
          → (if b then Some (ended event.script.unit (Some (compared_in (script_status_data event.status)))) else None)
          ≡ option_map (as_script k env) (if b then Some (news.finished (attempt_of event.status ∷ [])) else None)
      by_number false e = refl
      by_number true e =
          let same : event.script.unit ≡ k = grind (arith, nat_tests) in
          ap (λ n. Some (ended n (Some (compared_in (script_status_data event.status))))) same
          ∙ ap (λ env. Some (ended k (due_script_status (attempt_of event.status) env)))
          (said ∙ ap (λ n. env_said (story_of n run)) same)
  of_kind (kinds.TestStarted event) named said =
      none_of k env _ _ (test_number p index event.start.test k below named)
  of_kind (kinds.TestAttemptFailedWillRetry event) named said =
      none_of k env _ _ (test_number p index event.failed.test k below named)
  of_kind (kinds.TestRetryStarted event) named said =
      none_of k env _ _ (test_number p index event.retry.start.test k below named)
  of_kind (kinds.TestFinished event) named said =
      none_of k env _ _ (test_number p index event.finish.test k below named)
  of_kind (kinds.TestSkipped event) named said =
      none_of k env _ _ (test_number p index event.test k below named.0)
  of_kind kind named said = refl

  read_in : (kind : TestEventKind) (clock elapsed : ℕ)
      → IsToldAsRead run (Test (record { clock = clock; elapsed = elapsed; kind = kind })) → IsReadIn kind
  read_in (kinds.SetupScriptFinished finish) clock elapsed said = said
  read_in kind clock elapsed said = tt

  of_event : (e : ReporterEvent) → NamesThePlan p index e → IsToldAsRead run e
      → option_and_then (if_this k) (script_news e) ≡ option_map (as_script k env) (news_of k e)
  of_event Tick named said = refl
  of_event (Test event) named said =
      of_kind event.kind named (read_in event.kind event.clock event.elapsed said)

  -- so what is told of a script by its number is what is told of its unit
  pub script_is : (events : List ReporterEvent) → All (NamesThePlan p index) events → All (IsToldAsRead run) events
      → of_script k (filter_map script_news events) ≡ map (as_script k env) (account_of k events)
  script_is events named said =
      kept_twice script_news (if_this k) events
      ∙ ap (filter_map (λ e. option_and_then (if_this k) (script_news e))) (sym (map-id events))
      ∙ filter-seen (λ e. option_and_then (if_this k) (script_news e)) (λ e. e) (as_script k env) (news_of k) events
      (λ i d low. of_event _ (named i d low) (said i d low))

-- and that is due by its fate
pub due_by_fate : (p : Settings) (run : List Happening) (k : ℕ) → HasScriptFate p run k
    → map (as_script k (env_said (story_of k run))) (account_of k (told run)) ≡ due_script p run k
due_by_fate p run k fate = by_never (never_started k run) refl
  where
    env : ScriptEnv
    env = env_said (story_of k run)

    by_never : (b : Bool) → never_started k run ≡ b → map (as_script k env) (account_of k (told run))
        ≡ (if b then [] else began k ∷ map (λ status. ended k (due_script_status status env)) (statuses_of p k run))
    by_never true is = ap (map (as_script k env)) (fate.never is)
    by_never false is =
        let once = fate.once is in
        ap (map (as_script k env)) once.1.0
        ∙ ap (λ ss. began k ∷ map (λ status. ended k (due_script_status status env)) ss) (sym once.1.1)

pub due_short : (p : Settings) (run : List Happening) (k : ℕ) → HasScriptFate p run k → IsShort k (due_script p run k)
due_short p run k fate = by_never (never_started k run) refl
  where
    env : ScriptEnv
    env = env_said (story_of k run)

    by_never : (b : Bool) → never_started k run ≡ b → IsShort k (if b then []
        else began k ∷ map (λ status. ended k (due_script_status status env)) (statuses_of p k run))
    by_never true is = inl refl
    by_never false is =
        let once = fate.once is in
        inr (
          due_script_status once.0 env,
          ap (λ ss. began k ∷ map (λ status. ended k (due_script_status status env)) ss) once.1.1,
        )

-- whether an event starts, and finishes, script j, by what it tells of scripts
module _ (p : Settings) (index : Option StressIndex) (j : ℕ) (below : j < scripts_in p) where
  same_index : (script : ScriptUnit) → IsScriptNamed p index script → (script.unit == j) ≡ (script.index == j)
  same_index script named = ap (λ n. n == j) (sym (planned_script p index script named).index)

  starts_kind : (kind : TestEventKind) → NamesThePlanIn p index kind
      → starts_in j kind ≡ any_in (begins_this j) (script_news_in kind)
  starts_kind (kinds.SetupScriptStarted event) named = same_index event.script named
  starts_kind (kinds.TestStarted event) named = test_number p index event.start.test j below named
  starts_kind kind named = refl

  finishes_kind : (kind : TestEventKind) → NamesThePlanIn p index kind
      → finishes_in j kind ≡ any_in (ends_this j) (script_news_in kind)
  finishes_kind (kinds.SetupScriptFinished event) named = same_index event.script named
  finishes_kind (kinds.TestFinished event) named = test_number p index event.finish.test j below named
  finishes_kind kind named = refl

  starts_event : (e : ReporterEvent) → NamesThePlan p index e → starts j e ≡ any_in (begins_this j) (script_news e)
  starts_event Tick named = refl
  starts_event (Test event) named = starts_kind event.kind named

  finishes_event : (e : ReporterEvent) → NamesThePlan p index e → finishes j e ≡ any_in (ends_this j) (script_news e)
  finishes_event Tick named = refl
  finishes_event (Test event) named = finishes_kind event.kind named

  pub any_started : (events : List ReporterEvent) → All (NamesThePlan p index) events
      → list_any (starts j) events ≡ list_any (begins_this j) (filter_map script_news events)
  any_started events named =
      kept_any (starts j) (begins_this j) script_news events (λ i d low. starts_event _ (named i d low))

  pub any_finished : (events : List ReporterEvent) → All (NamesThePlan p index) events
      → list_any (finishes j) events ≡ list_any (ends_this j) (filter_map script_news events)
  any_finished events named =
      kept_any (finishes j) (ends_this j) script_news events (λ i d low. finishes_event _ (named i d low))

-- what is told of scripts is of scripts of the plan, and comes in turn
number_within : (p : Settings) (index : Option StressIndex) (script : ScriptUnit) → IsScriptNamed p index script
    → (0 ≤ script.index) × (script.index < scripts_in p)
number_within p index script named =
    let it = planned_script p index script named in
    let below : script.unit < scripts_in p = it.below in
    let same : script.index ≡ script.unit = it.index in (omega arith, omega arith)

within_kind : (p : Settings) (index : Option StressIndex) (kind : TestEventKind) → NamesThePlanIn p index kind
    → IfSome (script_news_in kind) (IsWithin 0 (scripts_in p))
within_kind p index (kinds.SetupScriptStarted event) named = number_within p index event.script named
within_kind p index (kinds.SetupScriptFinished event) named = number_within p index event.script named
within_kind p index kind named = tt

within_event : (p : Settings) (index : Option StressIndex) (e : ReporterEvent) → NamesThePlan p index e
    → IfSome (script_news e) (IsWithin 0 (scripts_in p))
within_event p index Tick named = tt
within_event p index (Test event) named = within_kind p index event.kind named

pub all_within : (p : Settings) (index : Option StressIndex) (events : List ReporterEvent)
    → All (NamesThePlan p index) events → AreWithin 0 (scripts_in p) (filter_map script_news events)
all_within p index events named =
    kept_all script_news (IsWithin 0 (scripts_in p)) events (λ i d low. within_event p index _ (named i d low))

pub turn_told : (p : Settings) (index : Option StressIndex) (events : List ReporterEvent)
    → All (NamesThePlan p index) events → ComeInTurn p events
    → AreInTurn 0 (scripts_in p) (filter_map script_news events)
turn_told p index events named turn j k before after least below upper is some =
    let at = split_kept script_news events before (began k) after is in
    let all = subst (All (NamesThePlan p index)) at.is named in
    let earlier = within_edges (NamesThePlan p index) [] at.before (at.element ∷ at.after) all in
    let own = All-head (NamesThePlan p index) at.element []
    (within_edges (NamesThePlan p index) at.before (at.element ∷ []) at.after all) in
    let found = turn j k at.before at.after at.element below upper at.is
    (starts_event p index k upper at.element own ∙ ap (any_in (begins_this k)) at.kept ∙ itself k)
    (any_started p index j below at.before earlier ∙ ap (list_any (begins_this j)) at.earlier ∙ some) in (
      found.0,
      ap (list_any (ends_this j)) (sym at.earlier) ∙ sym (any_finished p index j below at.before earlier) ∙ found.1,
    )
  where
    itself : (k : ℕ) → (k == k) ≡ true
    itself k = grind (arith, nat_tests)
