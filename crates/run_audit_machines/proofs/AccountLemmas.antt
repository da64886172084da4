-- The machine of accounts takes just the events that tell each account, and leads to an end.
use Rattle.std.specs.Prelude.{filter_map}
use Rattle.std.proofs.Common.{◌≡◌, ◌∙◌, List, [], ◌∷◌, ◌++◌, Option, Some, None, option_map, is_some, Bool}
use Rattle.std.proofs.Common.{true, false, if◌then◌else◌, refl, sym, ap, ap₂, subst, true≢false}
use Rattle.std.proofs.Common.{append-nil}
use Rattle.std.specs.List.{All, cons_option, list_all, list_any}
use Rattle.std.proofs.lemmas.Bool.{and_parts, and_from, or_left, or_right}
use Rattle.std.proofs.lemmas.List.Elements.{All-append, All-cons, All-head, All-nil, All-tail, All-weaker}
use Rattle.std.proofs.lemmas.List.Elements.{filter_map-append}
use Rattle.std.proofs.lemmas.Option.{same_Some}
use Rattle.run_audit_model.specs.Places.{Accepts}
use Rattle.run_audit_model.specs.declared.audit_event.AuditEvent.{AuditEvent}
use Rattle.run_audit_machines.specs.Accounts.{AreApart, CanTellEach, IsTellableOf, TellsAccounts, TellsEach}
use Rattle.run_audit_machines.specs.Accounts.{account_after, accounts_after, accounts_machine, is_told_of, names_in}
use Rattle.run_audit_machines.specs.Accounts.{told_under}
use Rattle.run_audit_machines.specs.Machines.{PartCompletes, StaysWithin, both_there, due_after, is_none_due}
use Rattle.run_audit_machines.specs.Machines.{AcceptsJust, IsSame}
use Rattle.run_audit_machines.proofs.MachineLemmas.{due_of_step, end_from, end_of, none_due}
use Rattle.run_audit_machines.proofs.MachineLemmas.{step_from, step_of, step_of_due, there_parts}

-- ---- one event

mapped : {A B : Type 0} (f : A → B) (o : Option A) (y : B) → option_map f o ≡ Some y
    → (x : A) × (o ≡ Some x) × (f x ≡ y)
mapped f None y is = absurd (true≢false (ap is_some (sym is)))
mapped f (Some x) y is = (x, refl, same_Some (f x) y is)

taken_if : {A : Type 0} (b : Bool) (o : Option A) (y : A) → (if b then o else None) ≡ Some y → (b ≡ true) × (o ≡ Some y)
taken_if true o y is = (refl, is)
taken_if false o y is = absurd (true≢false (ap is_some (sym is)))

-- the parts of a step of all accounts
first_step : {I X : Type 0} (one : I → I → Bool) (same : X → X → Bool) (o : Option (I × X)) (account : I × List X)
    (accounts after : List (I × List X)) → accounts_after one same o (account ∷ accounts) ≡ Some after
    → (due : List X) × (rest : List (I × List X)) × (due_after same account.1 (told_under one account.0 o) ≡ Some due)
    × (accounts_after one same o accounts ≡ Some rest) × ((account.0, due) ∷ rest ≡ after)
first_step one same o account accounts after is =
    let pair = mapped (λ p. p.0 ∷ p.1)
    (both_there (account_after one same o account) (accounts_after one same o accounts)) after is in
    let parts = there_parts (account_after one same o account) (accounts_after one same o accounts) pair.0 pair.1 in
    let own = mapped (λ due. (account.0, due)) (due_after same account.1
    (told_under one account.0 o)) pair.0.0 parts.0 in
    (own.0, pair.0.1, own.1, parts.1, ap (λ a. a ∷ pair.0.1) own.2 ∙ pair.2)

names_kept : {I X : Type 0} (one : I → I → Bool) (same : X → X → Bool) (o : Option (I × X))
    (accounts after : List (I × List X)) → accounts_after one same o accounts ≡ Some after
    → names_in after ≡ names_in accounts
names_kept one same o [] after is = ap names_in (sym (same_Some [] after is))
names_kept one same o (account ∷ accounts) after is =
    let x = first_step one same o account accounts after is in
    ap names_in (sym x.4) ∙ ap (λ names. account.0 ∷ names) (names_kept one same o accounts x.1 x.3)

each_to : {I X E : Type 0} (one : I → I → Bool) (same : X → X → Bool) → IsSame same → (told : E → Option (I × X))
    (e : E) (events : List E) (accounts after : List (I × List X))
    → accounts_after one same (told e) accounts ≡ Some after → TellsEach one told events after
    → TellsEach one told (e ∷ events) accounts
each_to one same is_same told e events [] after is h = tt
each_to one same is_same told e events (account ∷ accounts) after is h =
    let x = first_step one same (told e) account accounts after is in
    let both = subst (TellsEach one told events) (sym x.4) h in (
      ap (cons_option (told_under one account.0 (told e))) both.0
          ∙ due_of_step same is_same (told_under one account.0 (told e)) account.1 x.0 x.2,
      each_to one same is_same told e events accounts x.1 x.3 both.1,
    )

-- what is left of each account by the events that follow
left_of : {I X E : Type 0} → (I → I → Bool) → (E → Option (I × X)) → List E → List (I × List X) → List (I × List X)
left_of one told events [] = []
left_of one told events (account ∷ accounts) =
    (account.0, filter_map (λ e. told_under one account.0 (told e)) events) ∷ left_of one told events accounts

each_from : {I X E : Type 0} (one : I → I → Bool) (same : X → X → Bool) → IsSame same → (told : E → Option (I × X))
    (e : E) (events : List E) (accounts : List (I × List X)) → TellsEach one told (e ∷ events) accounts
    → accounts_after one same (told e) accounts ≡ Some (left_of one told events accounts)
unfolding left_of
each_from one same is_same told e events [] h = refl
each_from one same is_same told e events (account ∷ accounts) h =
    let left = filter_map (λ e. told_under one account.0 (told e)) events in
    let own = step_of_due same is_same (told_under one account.0 (told e)) account.1 left h.0 in
    ap₂ (λ a b. option_map (λ p. p.0 ∷ p.1) (both_there (option_map (λ due. (account.0, due)) a) b)) own
    (each_from one same is_same told e events accounts h.1)

tells_left : {I X E : Type 0} (one : I → I → Bool) (told : E → Option (I × X)) (events : List E)
    (accounts : List (I × List X)) → TellsEach one told events (left_of one told events accounts)
unfolding left_of
tells_left one told events [] = tt
tells_left one told events (account ∷ accounts) = (refl, tells_left one told events accounts)

names_left : {I X E : Type 0} (one : I → I → Bool) (told : E → Option (I × X)) (events : List E)
    (accounts : List (I × List X)) → names_in (left_of one told events accounts) ≡ names_in accounts
unfolding left_of
names_left one told events [] = refl
names_left one told events (account ∷ accounts) =
    ap (λ names. account.0 ∷ names) (names_left one told events accounts)

-- ---- just the events that tell each

none_left : {I X E : Type 0} (one : I → I → Bool) (told : E → Option (I × X)) (accounts : List (I × List X))
    → list_all (λ account. is_none_due account.1) accounts ≡ true → TellsEach one told [] accounts
none_left one told [] is = tt
none_left one told (account ∷ accounts) is =
    let parts = and_parts (is_none_due account.1) _ is in
    (none_due account.1 parts.0, none_left one told accounts parts.1)

all_left : {I X E : Type 0} (one : I → I → Bool) (told : E → Option (I × X)) (accounts : List (I × List X))
    → TellsEach one told [] accounts → list_all (λ account. is_none_due account.1) accounts ≡ true
all_left one told [] h = refl
all_left one told (account ∷ accounts) h =
    and_from (is_none_due account.1) _ (ap is_none_due (sym h.0)) (all_left one told accounts h.1)

accounts_to : {I X E : Type 0} (one : I → I → Bool) (same : X → X → Bool) → IsSame same → (told : E → Option (I × X))
    (accounts : List (I × List X)) (events : List E) → Accepts (accounts_machine one same told) accounts events
    → TellsAccounts one told accounts events
accounts_to one same is_same told accounts [] a =
    (none_left one told accounts (end_of (accounts_machine one same told) accounts a), All-nil _)
accounts_to one same is_same told accounts (e ∷ events) a =
    let x = step_of (accounts_machine one same told) accounts e events a in
    let parts = taken_if (is_told_of one (names_in accounts) (told e)) (accounts_after one same
    (told e) accounts) x.0 x.1 in
    let more = accounts_to one same is_same told x.0 events x.2 in
    let names = names_kept one same (told e) accounts x.0 parts.1 in (
      each_to one same is_same told e events accounts x.0 parts.1 more.0,
      All-cons (λ e. is_told_of one (names_in accounts) (told e) ≡ true) e events parts.0
          (subst (λ ns. All (λ e. is_told_of one ns (told e) ≡ true) events) names more.1),
    )

accounts_from : {I X E : Type 0} (one : I → I → Bool) (same : X → X → Bool) → IsSame same
    → (told : E → Option (I × X)) (accounts : List (I × List X)) (events : List E)
    → TellsAccounts one told accounts events → Accepts (accounts_machine one same told) accounts events
accounts_from one same is_same told accounts [] h =
    end_from (accounts_machine one same told) accounts (all_left one told accounts h.0)
accounts_from one same is_same told accounts (e ∷ events) h =
    let P = λ (e : _). is_told_of one (names_in accounts) (told e) ≡ true in
    let left = left_of one told events accounts in
    let own = All-head (λ e. is_told_of one (names_in accounts) (told e) ≡ true) e events h.1 in
    let more = All-tail (λ e. is_told_of one (names_in accounts) (told e) ≡ true) e events h.1 in
    step_from (accounts_machine one same told) accounts left e events
    (ap (λ b. if b then accounts_after one same (told e) accounts else None) own
    ∙ each_from one same is_same told e events accounts h.0)
    (accounts_from one same is_same told left events (
      tells_left one told events accounts,
      subst (λ ns. All (λ e. is_told_of one ns (told e) ≡ true) events) (sym
          (names_left one told events accounts)) more,
    ))

pub accounts_just : {I X E : Type 0} (one : I → I → Bool) (same : X → X → Bool) → IsSame same
    → (told : E → Option (I × X)) (accounts : List (I × List X))
    → AcceptsJust (accounts_machine one same told) accounts (TellsAccounts one told accounts)
accounts_just one same is_same told accounts events =
    (accounts_to one same is_same told accounts events, accounts_from one same is_same told accounts events)

-- ---- to an end: the events that tell what is due of a name, name after name

tellings : {I X : Type 0} (told : AuditEvent → Option (I × X)) (name : I) (due : List X)
    → All (IsTellableOf told name) due → List AuditEvent
tellings told name [] h = []
tellings told name (x ∷ due) h =
    (All-head (IsTellableOf told name) x due h).0 ∷ tellings told name due (All-tail (IsTellableOf told name) x due h)

-- they tell it of this name, and nothing of another
tell_own : {I X : Type 0} (one : I → I → Bool) (told : AuditEvent → Option (I × X)) (name : I)
    → one name name ≡ true → (due : List X) (h : All (IsTellableOf told name) due)
    → filter_map (λ e. told_under one name (told e)) (tellings told name due h) ≡ due
unfolding tellings
tell_own one told name itself [] h = refl
tell_own one told name itself (x ∷ due) h =
    let own = All-head (IsTellableOf told name) x due h in
    ap₂ cons_option
    (ap (told_under one name) own.1 ∙ ap (λ b. if b then Some x else None) itself)
    (tell_own one told name itself due (All-tail (IsTellableOf told name) x due h))

tell_none : {I X : Type 0} (one : I → I → Bool) (told : AuditEvent → Option (I × X)) (name other : I)
    → one name other ≡ false → (due : List X) (h : All (IsTellableOf told name) due)
    → filter_map (λ e. told_under one other (told e)) (tellings told name due h) ≡ []
unfolding tellings
tell_none one told name other apart [] h = refl
tell_none one told name other apart (x ∷ due) h =
    let own = All-head (IsTellableOf told name) x due h in
    ap₂ cons_option
    (ap (told_under one other) own.1 ∙ ap (λ b. if b then Some x else None) apart)
    (tell_none one told name other apart due (All-tail (IsTellableOf told name) x due h))

stay : {I X : Type 0} (told : AuditEvent → Option (I × X)) (name : I) (due : List X)
    (h : All (IsTellableOf told name) due) → All StaysWithin (tellings told name due h)
unfolding tellings
stay told name [] h = All-nil StaysWithin
stay told name (x ∷ due) h =
    let own = All-head (IsTellableOf told name) x due h in
    let rest = All-tail (IsTellableOf told name) x due h in
    All-cons StaysWithin own.0 (tellings told name due rest) own.2 (stay told name due rest)

-- each is told of a name that is one of these
are_told : {I X : Type 0} (one : I → I → Bool) (told : AuditEvent → Option (I × X)) (name : I) (names : List I)
    → list_any (one name) names ≡ true → (due : List X) (h : All (IsTellableOf told name) due)
    → All (λ e. is_told_of one names (told e) ≡ true) (tellings told name due h)
unfolding tellings
are_told one told name names among [] h = All-nil _
are_told one told name names among (x ∷ due) h =
    let own = All-head (IsTellableOf told name) x due h in
    let rest = All-tail (IsTellableOf told name) x due h in
    All-cons (λ e. is_told_of one names (told e) ≡ true) own.0 (tellings told name due rest)
    (ap (is_told_of one names) own.1 ∙ among) (are_told one told name names among due rest)

-- all of them
abbrev Tellable : {I X : Type 0} → (AuditEvent → Option (I × X)) → I × List X → Type 0
Tellable told account = All (IsTellableOf told account.0) account.1

all_tellings : {I X : Type 0} (told : AuditEvent → Option (I × X)) (accounts : List (I × List X))
    → All (Tellable told) accounts → List AuditEvent
all_tellings told [] h = []
all_tellings told (account ∷ accounts) h =
    tellings told account.0 account.1 (All-head (Tellable told) account accounts h)
    ++ all_tellings told accounts (All-tail (Tellable told) account accounts h)

all_stay : {I X : Type 0} (told : AuditEvent → Option (I × X)) (accounts : List (I × List X))
    (h : All (Tellable told) accounts) → All StaysWithin (all_tellings told accounts h)
unfolding all_tellings
all_stay told [] h = All-nil StaysWithin
all_stay told (account ∷ accounts) h =
    All-append StaysWithin _ _ (stay told account.0 account.1 (All-head (Tellable told) account accounts h))
    (all_stay told accounts (All-tail (Tellable told) account accounts h))

-- nothing is told of a name that is none of theirs
tell_no_other : {I X : Type 0} (one : I → I → Bool) (told : AuditEvent → Option (I × X)) (name : I)
    (accounts : List (I × List X)) → All (λ other. (one name other ≡ false)
    × (one other name ≡ false)) (names_in accounts)
    → (h : All (Tellable told) accounts) → filter_map (λ e. told_under one name (told e))
    (all_tellings told accounts h) ≡ []
unfolding all_tellings
tell_no_other one told name [] apart h = refl
tell_no_other one told name (account ∷ accounts) apart h =
    let own = All-head (Tellable told) account accounts h in
    let rest = All-tail (Tellable told) account accounts h in
    let P = All-head (λ other. (one name other ≡ false) × (one other name ≡ false)) account.0
    (names_in accounts) apart in
    let Q = All-tail (λ other. (one name other ≡ false) × (one other name ≡ false)) account.0
    (names_in accounts) apart in
    filter_map-append (λ e. told_under one name (told e)) (tellings told account.0 account.1 own)
    (all_tellings told accounts rest)
    ∙ ap₂ (λ a b. a ++ b) (tell_none one told account.0 name P.1 account.1 own)
    (tell_no_other one told name accounts Q rest)

-- events in front that tell nothing of any of the names
each_behind : {I X : Type 0} (one : I → I → Bool) (told : AuditEvent → Option (I × X)) (name : I) (due : List X)
    (h : All (IsTellableOf told name) due) (events : List AuditEvent) (accounts : List (I × List X))
    → All (λ other. (one name other ≡ false) × (one other name ≡ false)) (names_in accounts)
    → TellsEach one told events accounts → TellsEach one told (tellings told name due h ++ events) accounts
each_behind one told name due h events [] apart is = tt
each_behind one told name due h events (account ∷ accounts) apart is =
    let P = All-head (λ other. (one name other ≡ false) × (one other name ≡ false)) account.0
    (names_in accounts) apart in
    let Q = All-tail (λ other. (one name other ≡ false) × (one other name ≡ false)) account.0
    (names_in accounts) apart in (
      filter_map-append (λ e. told_under one account.0 (told e)) (tellings told name due h) events
          ∙ ap₂ (λ a b. a ++ b) (tell_none one told name account.0 P.0 due h) is.0,
      each_behind one told name due h events accounts Q is.1,
    )

tells_each : {I X : Type 0} (one : I → I → Bool) → ((name : I) → one name name ≡ true)
    → (told : AuditEvent → Option (I × X)) (accounts : List (I × List X)) → AreApart one (names_in accounts)
    → (h : All (Tellable told) accounts) → TellsEach one told (all_tellings told accounts h) accounts
unfolding all_tellings
tells_each one itself told [] apart h = tt
tells_each one itself told (account ∷ accounts) apart h =
    let own = All-head (Tellable told) account accounts h in
    let rest = All-tail (Tellable told) account accounts h in (
      filter_map-append (λ e. told_under one account.0 (told e)) (tellings told account.0 account.1 own)
          (all_tellings told accounts rest)
          ∙ ap₂ (λ a b. a ++ b) (tell_own one told account.0 (itself account.0) account.1 own)
          (tell_no_other one told account.0 accounts apart.0 rest)
          ∙ append-nil account.1,
      each_behind one told account.0 account.1 own (all_tellings told accounts rest) accounts apart.0
          (tells_each one itself told accounts apart.1 rest),
    )

-- a name that is told of among some is among more
one_more : {I X : Type 0} (one : I → I → Bool) (name : I) (names : List I) (o : Option (I × X))
    → is_told_of one names o ≡ true → is_told_of one (name ∷ names) o ≡ true
one_more one name names None is = refl
one_more one name names (Some told) is = or_right (one told.0 name) (list_any (one told.0) names) is

are_of_names : {I X : Type 0} (one : I → I → Bool) → ((name : I) → one name name ≡ true)
    → (told : AuditEvent → Option (I × X)) (accounts : List (I × List X)) (h : All (Tellable told) accounts)
    → All (λ e. is_told_of one (names_in accounts) (told e) ≡ true) (all_tellings told accounts h)
unfolding all_tellings
are_of_names one itself told [] h = All-nil _
are_of_names one itself told (account ∷ accounts) h =
    let own = All-head (Tellable told) account accounts h in
    let rest = All-tail (Tellable told) account accounts h in
    let names = names_in accounts in
    All-append (λ e. is_told_of one (account.0 ∷ names) (told e) ≡ true) _ _
    (are_told one told account.0 (account.0 ∷ names)
    (or_left (one account.0 account.0) (list_any (one account.0) names) (itself account.0)) account.1 own)
    (All-weaker (λ e. is_told_of one names (told e) ≡ true) (λ e. is_told_of one (account.0 ∷ names) (told e) ≡ true)
    (λ e. one_more one account.0 names (told e)) (all_tellings told accounts rest)
    (are_of_names one itself told accounts rest))

-- what can be told can be told on
due_kept : {X : Type 0} (same : X → X → Bool) (P : X → Type 0) (o : Option X) (due left : List X)
    → due_after same due o ≡ Some left → All P due → All P left
due_kept same P None due left is h = subst (All P) (same_Some due left is) h
due_kept same P (Some x) [] left is h = absurd (true≢false (ap is_some (sym is)))
due_kept same P (Some x) (y ∷ due) left is h =
    let parts = taken_if (same y x) (Some due) left is in
    subst (All P) (same_Some due left parts.1) (All-tail P y due h)

tellable_kept : {I X : Type 0} (one : I → I → Bool) (same : X → X → Bool) (told : AuditEvent → Option (I × X))
    (o : Option (I × X)) (accounts after : List (I × List X)) → accounts_after one same o accounts ≡ Some after
    → All (Tellable told) accounts → All (Tellable told) after
tellable_kept one same told o [] after is h = subst (All (Tellable told)) (same_Some [] after is) h
tellable_kept one same told o (account ∷ accounts) after is h =
    let x = first_step one same o account accounts after is in
    subst (All (Tellable told)) x.4 (All-cons (Tellable told) (account.0, x.0) x.1
    (due_kept same (IsTellableOf told account.0) (told_under one account.0 o) account.1 x.0 x.2
    (All-head (Tellable told) account accounts h))
    (tellable_kept one same told o accounts x.1 x.3 (All-tail (Tellable told) account accounts h)))

pub accounts_complete : {I X : Type 0} (one : I → I → Bool) (same : X → X → Bool) → IsSame same
    → ((name : I) → one name name ≡ true) → (told : AuditEvent → Option (I × X))
    → PartCompletes (accounts_machine one same told) (CanTellEach one told)
accounts_complete one same is_same itself told = record {
  more = λ accounts h. let events = all_tellings told accounts h.each in (
    events,
    accounts_from one same is_same told accounts events
        (tells_each one itself told accounts h.apart h.each, are_of_names one itself told accounts h.each),
    all_stay told accounts h.each,
  );
  kept = λ accounts e after h is.
      let parts = taken_if (is_told_of one (names_in accounts) (told e)) (accounts_after one same (told e) accounts)
      after is in record {
        apart = subst (AreApart one) (sym (names_kept one same (told e) accounts after parts.1)) h.apart;
        each = tellable_kept one same told (told e) accounts after parts.1 h.each;
      };
}
