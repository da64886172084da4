-- The starts asked after a turn, and what came of an environment file, by the units of the plan.
use Rattle.std.proofs.Common.{◌≡◌, ℕ, ◌+◌, ◌==◌, List, [], ◌∷◌, ◌++◌, map, length, Bool, true, false, if◌then◌else◌}
use Rattle.std.proofs.Common.{Option, Some, None, option_map, option_to_list, refl, ap, sym, subst, ◌∙◌, arith}
use Rattle.std.proofs.Common.{append-nil, unwrap_or}
use Rattle.std.specs.Prelude.{⊤, IfSome}
use Rattle.std.specs.List.{All, range_with_len}
use Rattle.std.proofs.lemmas.List.FromFn.{map-range_with_len_more}
use Rattle.std.proofs.lemmas.Option.{same_Some}
use Rattle.run_events.specs.Result.{is_success}
use Rattle.run_events.specs.declared.message.Message.{Message}
use Rattle.run_events.specs.declared.request.Request.{Request}
use Rattle.run_events.specs.declared.result.ScriptEnv.TheVariants.{Unread}
use Rattle.run_events.specs.declared.settings.Settings.{Settings}
use Rattle.run_model.specs.declared.happening.Happening.{Happening}
use Rattle.run_model.specs.declared.happening.UnitPart.{UnitPart}
use Rattle.run_model.specs.declared.happening.UnitPart.TheVariants.{Joins, Acts}
use Rattle.run_model.specs.declared.phase.Phase.{Phase}
use Rattle.run_model.specs.declared.phase.Phase.TheVariants.{StartSent, RetrySent, Over, Starting, Running, Grace}
use Rattle.run_model.specs.declared.phase.Phase.TheVariants.{KillWait, Leak, EnvWait, Deciding, Delay}
use Rattle.run_model.specs.declared.unit_turn.UnitTurn.{UnitTurn}
use Rattle.run_model.specs.declared.unit_turn.UnitTurn.TheVariants.{Answered}
use Rattle.run_model.specs.declared.unit_view.AttemptTerms.{AttemptTerms}
use Rattle.run_model.specs.declared.unit_view.UnitView.{UnitView}
use Rattle.run_model.specs.Environment.{number}
use Rattle.run_model.specs.Admission.{unit_terms}
use Rattle.run_model.specs.Accounts.{is_mismatched}
use Rattle.run_model.specs.Ending.{last_status}
use Rattle.run_model.specs.Retries.{has_passed}
use Rattle.run_model.specs.Unit.{at_moment, is_live, reach, row, takes, takes_at}
use Rattle.run_model.specs.Story.{OwnTurn, Attempt, cut, begins_attempt, decides, own_turn, story_of, line_of}
use Rattle.run_model.specs.Story.{request_of, pieces, with_turn}
use Rattle.run_model.specs.Attempts.{attempt_in, env_in, pieces_of}
use Rattle.run_model.specs.Words.{sent, told, unit_after, unit_of, units}
use Rattle.run_laws.specs.Starts.{env_said, start_at, starts_by, starts_asked, start_told, message_of}
use Rattle.run_laws.proofs.units.AccountLemmas.{IsFirst}
use Rattle.run_laws.proofs.units.AttemptLemmas.{HasPieces, IsMade, IsMadeIf}
use Rattle.run_laws.proofs.board.DeedFits.{PartFits, asked_by}
use Rattle.run_laws.proofs.units.FaceLemmas.{face, face_row, start_face, starts_in, no_start, own_start, attempt_to}
use Rattle.run_laws.proofs.units.FaceLemmas.{row_asks_start, is_start}
use Rattle.run_laws.proofs.board.Holds.{Holds}
use Rattle.run_laws.proofs.board.Newcomers.{IsPlanned}
use Rattle.run_laws.proofs.units.ReadLemmas.{is_given, HasRead, awaited_result, row_reads}
use Rattle.run_laws.proofs.units.Rows.{row_starts_none, takes_moment}
use Rattle.run_laws.proofs.board.OnBoard.{Frame}

-- what came of its environment file is what its own turns say; of a unit that wasn't admitted there is none
abbrev pub HasReadIf : Option UnitView → List OwnTurn → Type 0
HasReadIf None story = ⊤
HasReadIf (Some u) story = (u.env ≡ env_said story) × HasRead u.phase u

-- a unit that was admitted is that of the plan
abbrev pub IsPlannedIf : Settings → List (Option UnitView) → ℕ → Option UnitView → Type 0
IsPlannedIf p us k None = ⊤
IsPlannedIf p us k (Some u) = IsPlanned p us k u

-- a start is that of a unit that was admitted
pub record IsStartOfUnit (p : Settings) (run : List Happening) (m : Message) : Type 0 where
  pub unit : ℕ
  pub view : UnitView
  pub matched : is_mismatched p unit ≡ false
  pub is : option_map face (unit_of unit run) ≡ Some view
  pub sent : message_of view ≡ m

-- what holds of the starts in a sub-run
pub record HasStarts (p : Settings) (run : List Happening) : Type 0 where
  pub asked : (k : ℕ) → starts_asked k run ≡ starts_by (option_map face (unit_of k run)) (length (pieces_of k run))
  pub reads : (k : ℕ) → HasReadIf (unit_of k run) (story_of k run)
  pub planned : (k : ℕ) → is_mismatched p k ≡ false → IsPlannedIf p (units p run) k (option_map face (unit_of k run))
  pub sent : All (λ m. is_start m ≡ true → IsStartOfUnit p run m) (sent run)
  pub told : All (λ e. IfSome (start_told e) (IsStartOfUnit p run)) (told run)

-- a turn that lets none go begins no attempt
pieces-other : (t : OwnTurn) (ps : List Attempt) → length (with_turn t ps) ≡ length ps
pieces-other t [] = refl
pieces-other t (cut piece [] ∷ earlier) = by_kind (decides t.turn)
  where
    by_kind : (b : Bool) → length ((if b then cut piece (t ∷ []) else cut (t ∷ piece) []) ∷ earlier)
        ≡ length (cut piece [] ∷ earlier)
    by_kind true = refl
    by_kind false = refl
pieces-other t (cut piece (d ∷ after) ∷ earlier) = refl

pieces-begins : (t : OwnTurn) (story : List OwnTurn) (b : Bool) → begins_attempt t.turn ≡ b
    → length (pieces (t ∷ story)) ≡ (if b then length (pieces story) + 1 else length (pieces story))
pieces-begins t story true e = rw e (omega arith)
pieces-begins t story false e = rw e (pieces-other t (pieces story))

-- a unit that is let go is at the attempt after those that it has
next_attempt : (terms : AttemptTerms) (now : ℕ) (ph : Phase) (turn : UnitTurn) (u : UnitView) (ps : List Attempt)
    → takes_at now ph u turn ≡ true → begins_attempt turn ≡ true → HasPieces terms ph u ps → u.attempt ≡ attempt_in ps
    → attempt_to ph u.attempt ≡ 1 + length ps
next_attempt terms now StartSent (Answered true) u [] en begins h at = at
next_attempt terms now RetrySent (Answered true) u (cut piece (d ∷ after) ∷ earlier) en begins h at = omega arith
next_attempt terms now StartSent (Answered true) u (a ∷ earlier) en begins h at = absurd h
next_attempt terms now RetrySent (Answered true) u [] en begins h at = absurd h
next_attempt terms now RetrySent (Answered true) u (cut piece [] ∷ earlier) en begins h at = absurd h
next_attempt terms now ph (Answered true) u ps en begins h at = cc
next_attempt terms now ph turn u ps en begins h at = cc

-- the starts asked after a part
pub asked_after : (p : Settings) (f : Frame) (now : ℕ) (run : List Happening) (k : ℕ) (part : Option UnitPart)
    → Holds p now run → PartFits p now run part
    → starts_asked k run ≡ starts_by (option_map face (unit_of k run)) (length (pieces_of k run))
    → starts_asked k run ++ starts_in k (asked_by now run part)
    ≡ starts_by (option_map face (unit_after now k part (unit_of k run)))
    (length (pieces (option_to_list (own_turn k now part (line_of k run)) ++ story_of k run)))
asked_after p f now run k None h fits was = append-nil (starts_asked k run) ∙ was
asked_after p f now run k (Some (Joins first)) h (first_sent, new) was =
    append-nil (starts_asked k run) ∙ by_unit (number first == k) refl
  where
    by_unit : (b : Bool) → (number first == k) ≡ b → starts_asked k run
        ≡ starts_by (option_map face (if b then Some first else unit_of k run)) (length (pieces_of k run))
    by_unit false e = was
    by_unit true e =
        let here : k ≡ number first = grind arith in
        let none : unit_of k run ≡ None = ap (λ k. unit_of k run) here ∙ new.unknown in
        let story : story_of k run ≡ [] = subst (λ v. IsMadeIf (unit_terms p k) v (story_of k run)) none (h.made k) in
        was ∙ ap (λ v. starts_by (option_map face v) (length (pieces_of k run))) none
        ∙ sym (ap (λ s. starts_by (Some (face first)) (length (pieces s))) story)
asked_after p f now run k (Some (Acts j turn)) h taken was = by_unit (j == k) refl
  where
    u : UnitView
    u = taken.unit

    w : UnitView
    w = at_moment now u

    moved : takes_at now u.phase w turn ≡ true
    moved = takes_moment now u.phase u turn taken.takes

    row_asked : asked_by now run (Some (Acts j turn)) ≡ (row now turn u).asked
    row_asked = rw taken.is refl

    own : OwnTurn
    own = record { moment = now; turn = turn; request = request_of turn (line_of k run) }

    n : ℕ
    n = length (pieces_of k run)

    by_begin : (b c : Bool) → begins_attempt turn ≡ b → (number u == k) ≡ c
        → starts_in k (row now turn u).asked
        ≡ (if b then (if c then start_at w (attempt_to u.phase u.attempt) ∷ [] else []) else [])
    by_begin true c e at =
        ap (starts_in k) (row_asks_start now u.phase turn (at_moment now u) moved e)
        ∙ own_start k (attempt_to u.phase u.attempt) w
        ∙ rw at refl
    by_begin false c e at =
        no_start k (row now turn u).asked (row_starts_none now u.phase turn (at_moment now u) refl moved e)

    one_more : (b : Bool) → begins_attempt turn ≡ b → (number u == k) ≡ true → unit_of k run ≡ Some u
        → starts_asked k run ++ starts_in k (row now turn u).asked
        ≡ starts_by (Some (face u)) (length (pieces (own ∷ story_of k run)))
    one_more false e at is =
        ap (λ s. starts_asked k run ++ s) (by_begin false true e at) ∙ append-nil (starts_asked k run) ∙ was
        ∙ ap (λ v. starts_by (option_map face v) n) is
        ∙ sym (ap (starts_by (Some (face u))) (pieces-begins own (story_of k run) false e))
    one_more true e at is =
        let made : IsMade (unit_terms p k) u (pieces_of k run) =
        subst (λ v. IsMadeIf (unit_terms p k) v (story_of k run)) is (h.made k) in
        let next : attempt_to u.phase u.attempt ≡ 1 + n =
        next_attempt (unit_terms p k) now u.phase turn u (pieces_of k run) taken.takes e made.has made.attempt in
        ap (λ s. starts_asked k run ++ s) (by_begin true true e at)
        ∙ ap (λ s. s ++ start_at w (attempt_to u.phase u.attempt) ∷ [])
        (was ∙ ap (λ v. starts_by (option_map face v) n) is)
        ∙ ap (λ a. map (start_at (face u)) (range_with_len 1 n) ++ a ∷ [])
        (start_face w (attempt_to u.phase u.attempt) ∙ ap (start_at (face u)) next)
        ∙ sym (map-range_with_len_more (start_at (face u)) 1 n (1 + n) refl)
        ∙ sym (ap (starts_by (Some (face u))) (pieces-begins own (story_of k run) true e))

    by_unit : (b : Bool) → (j == k) ≡ b
        → starts_asked k run ++ starts_in k (asked_by now run (Some (Acts j turn)))
        ≡ starts_by (option_map face (if b then option_map (λ w. (row now turn w).next)
        (unit_of k run) else unit_of k run))
        (length (pieces (option_to_list (if b then Some own else None) ++ story_of k run)))
    by_unit true e =
        let here : k ≡ j = grind arith in
        let is : unit_of k run ≡ Some u = ap (λ k. unit_of k run) here ∙ taken.is in
        let named : number u ≡ k = (h.named k u is).0 in
        ap (λ a. starts_asked k run ++ starts_in k a) row_asked
        ∙ one_more (begins_attempt turn) refl (grind arith) is
        ∙ sym (ap (λ v. starts_by v (length (pieces (own ∷ story_of k run))))
        (face_row now turn (unit_of k run) ∙ ap (option_map face) is))
    by_unit false e =
        let named : number u ≡ j = (h.named j u taken.is).0 in
        ap (λ a. starts_asked k run ++ starts_in k a) row_asked
        ∙ ap (λ s. starts_asked k run ++ s)
        (by_begin (begins_attempt turn) false refl (grind arith) ∙ none (begins_attempt turn))
        ∙ append-nil (starts_asked k run) ∙ was
      where
        none : (b : Bool)
            → (if b then (if false then start_at w (attempt_to u.phase u.attempt) ∷ [] else []) else []) ≡ []
        none true = refl
        none false = refl

-- what came of its environment file is what its own turns say, after a part
read_as : (ph : Phase) (u v : UnitView) → v.env ≡ u.env → v.statuses ≡ u.statuses → awaited_result v ≡ awaited_result u
    → HasRead ph u → HasRead ph v
read_as EnvWait u v env ss result (none, ok) = (ap is_given env ∙ none, ap is_success result ∙ ok)
read_as Deciding u v env ss result h = λ given. ap (λ ss. has_passed (last_status ss)) ss
    ∙ h (sym (ap is_given env) ∙ given)
read_as Over u v env ss result h = λ given. ap (λ ss. has_passed (last_status ss)) ss
    ∙ h (sym (ap is_given env) ∙ given)
read_as StartSent u v env ss result h = ap is_given env ∙ h
read_as Starting u v env ss result h = ap is_given env ∙ h
read_as Running u v env ss result h = ap is_given env ∙ h
read_as Grace u v env ss result h = ap is_given env ∙ h
read_as KillWait u v env ss result h = ap is_given env ∙ h
read_as Leak u v env ss result h = ap is_given env ∙ h
read_as Delay u v env ss result h = ap is_given env ∙ h
read_as RetrySent u v env ss result h = ap is_given env ∙ h

pub read_reach : (request : Option Request) (v : Option UnitView) (story : List OwnTurn) → HasReadIf v story
    → HasReadIf (reach request v) story
read_reach None v story h = h
read_reach (Some request) None story h = h
read_reach (Some request) (Some u) story h = by_live (is_live u.phase)
  where
    by_live : (b : Bool) → HasReadIf (Some (if b then record u { line = u.line ++ request ∷ [] } else u)) story
    by_live true = (h.0, read_as u.phase u (record u { line = u.line ++ request ∷ [] }) refl refl refl h.1)
    by_live false = h

-- a unit that begins has read none
first_read : (mm : Bool) (u : UnitView) (m : Message) → IsFirst mm u m → u.env ≡ Unread → HasRead u.phase u
first_read true u m (ph, more) env =
    subst (λ ph. HasRead ph u) (sym ph) (λ given. let never : false ≡ true = sym (ap is_given env) ∙ given in cc)
first_read false u m (ph, is) env = subst (λ ph. HasRead ph u) (sym ph) (ap is_given env)

pub read_after : (p : Settings) (f : Frame) (now : ℕ) (run : List Happening) (k : ℕ) (part : Option UnitPart)
    → Holds p now run → PartFits p now run part → HasReadIf (unit_of k run) (story_of k run)
    → HasReadIf (unit_after now k part (unit_of k run))
    (option_to_list (own_turn k now part (line_of k run)) ++ story_of k run)
read_after p f now run k None h fits was = was
read_after p f now run k (Some (Joins first)) h (first_sent, new) was = by_unit (number first == k) refl
  where
    by_unit : (b : Bool) → (number first == k) ≡ b
        → HasReadIf (if b then Some first else unit_of k run) (story_of k run)
    by_unit false e = was
    by_unit true e =
        let here : k ≡ number first = grind arith in
        let none : unit_of k run ≡ None = ap (λ k. unit_of k run) here ∙ new.unknown in
        let story : story_of k run ≡ [] = subst (λ v. IsMadeIf (unit_terms p k) v (story_of k run)) none (h.made k) in
        (new.env ∙ sym (ap env_said story), first_read _ first first_sent new.first new.env)
read_after p f now run k (Some (Acts j turn)) h taken was = by_unit (j == k) refl
  where
    u : UnitView
    u = taken.unit

    own : OwnTurn
    own = record { moment = now; turn = turn; request = request_of turn (line_of k run) }

    by_view : (v : Option UnitView) → v ≡ Some u → HasReadIf v (story_of k run)
        → HasReadIf (option_map (λ w. (row now turn w).next) v) (own ∷ story_of k run)
    by_view None is was = cc
    by_view (Some w) is was =
        let same : w ≡ u = same_Some _ _ is in
        let moved : takes_at now w.phase (at_moment now w) turn ≡ true =
        takes_moment now w.phase w turn (ap (λ w. takes now w turn) same ∙ taken.takes) in
        let reads = row_reads now w.phase turn (at_moment now w) refl moved
        (read_as w.phase w (at_moment now w) refl refl refl was.1) in
        (reads.env ∙ ap (unwrap_or (env_in turn)) was.0, reads.has)

    by_unit : (b : Bool) → (j == k) ≡ b
        → HasReadIf (if b then option_map (λ w. (row now turn w).next) (unit_of k run) else unit_of k run)
        (option_to_list (if b then Some own else None) ++ story_of k run)
    by_unit true e =
        let here : k ≡ j = grind arith in
        by_view (unit_of k run) (ap (λ k. unit_of k run) here ∙ taken.is) was
    by_unit false e = was
