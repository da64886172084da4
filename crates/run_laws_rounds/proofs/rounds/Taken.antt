-- What a unit took and answered after one more turn.
use Rattle.std.proofs.Common.{◌≡◌, ◌⊎◌, inl, inr, ℕ, ◌==◌, ◌&&◌, List, [], ◌∷◌, ◌++◌, drop, Bool, true, false}
use Rattle.std.proofs.Common.{if◌then◌else◌, Option, Some, None, is_none, option_map, option_to_list, unwrap_or, refl}
use Rattle.std.proofs.Common.{ap, sym, subst, ◌∙◌, arith, append_assoc}
use Rattle.std.specs.Option.{option_or}
use Rattle.std.proofs.lemmas.List.{append-nil, map-append}
use Rattle.std.proofs.lemmas.List.Elements.{filter_map-append}
use Rattle.run_events.specs.declared.info.InfoResponse.{InfoResponse}
use Rattle.run_events.specs.declared.request.Request.{Request}
use Rattle.run_events.specs.declared.result.ExecuteStatus.{ExecuteStatus}
use Rattle.run_events.specs.declared.settings.Settings.{Settings}
use Rattle.run_model.specs.declared.entry.Entry.{Entry}
use Rattle.run_model.specs.declared.happening.Happening.{Happening}
use Rattle.run_model.specs.declared.happening.UnitPart.{UnitPart}
use Rattle.run_model.specs.declared.happening.UnitPart.TheVariants.{Joins, Acts}
use Rattle.run_model.specs.declared.phase.Phase.{Phase}
use Rattle.run_model.specs.declared.phase.Phase.TheVariants.{Deciding, Delay, Over}
use Rattle.run_model.specs.declared.unit_turn.UnitTurn.{UnitTurn}
use Rattle.run_model.specs.declared.unit_turn.UnitTurn.TheVariants.{Answered, Take}
use Rattle.run_model.specs.declared.unit_view.UnitView.{UnitView}
use Rattle.run_model.specs.Accounts.{News, HasAccount, HasAccountAt, account_of, is_mismatched, pending_of}
use Rattle.run_model.specs.Admission.{is_done, is_last}
use Rattle.run_model.specs.Board.{Deed, said}
use Rattle.run_model.specs.Ending.{last_status}
use Rattle.run_model.specs.Environment.{number}
use Rattle.run_model.specs.Info.{round_of, rounds_in}
use Rattle.run_model.specs.Story.{OwnTurn, broadcast_to, deliveries, lets_go, line_of, oldest, own_turn, was_left}
use Rattle.run_model.specs.Story.{request_of, stopped_at, story_of, taken_by, takes_request}
use Rattle.run_model.specs.Unit.{at_moment, reach, row, takes, takes_at}
use Rattle.run_model.specs.Words.{queue, reason, told, unit_after, unit_of}
use Rattle.run_laws_rounds.specs.Requests.{answers_by, has_finished, is_turn_of, requests_taken}
use Rattle.run_laws.proofs.board.DeedFits.{PartFits, or_none}
use Rattle.run_laws.proofs.board.Facts.{unstopped}
use Rattle.run_laws.proofs.board.Holds.{HasLine, HasLineIn, Holds, IsOnWay, way_of}
use Rattle.run_laws.proofs.board.Queue.{drop-sent}
use Rattle.run_laws_rounds.proofs.rounds.DeedAnswers.{info_by}
use Rattle.run_laws_rounds.proofs.rounds.RowAnswers.{rounds_by}
use Rattle.run_laws_rounds.proofs.rounds.RowLeaves.{LeavesOwn, heard_with, row_leaves, still_left, stopped_with}
use Rattle.run_laws.proofs.units.AccountRows.{last-append}
use Rattle.run_laws.proofs.board.ByTurn.{is_answer}
use Rattle.run_laws.proofs.units.LineMoves.{part_line}
use Rattle.run_laws.proofs.units.Lines.{is_take, own_request, takes_request-is}
use Rattle.run_laws.proofs.units.LetGo.{and_false, and_true, lets_go-is}
use Rattle.run_laws.proofs.units.Rows.{takes_moment}
use Rattle.run_laws.proofs.board.OnBoard.{Frame}

-- the request that a part takes from this line, if it is a turn of unit k that takes one
abbrev pub request_with : ℕ → ℕ → Option UnitPart → List Request → List Request
request_with k now part line = requests_taken (option_to_list (own_turn k now part line))

pub taken_more : (o : Option OwnTurn) (story : List OwnTurn)
    → requests_taken (option_to_list o ++ story) ≡ requests_taken story ++ requests_taken (option_to_list o)
taken_more None story = sym (append-nil (requests_taken story))
taken_more (Some t) story = refl

-- the line after one more turn
pub line-cons : (p : Settings) (f : Frame) (run : List Happening) (now k : ℕ) (e : Entry) (d : Deed)
    → Holds p now run → PartFits p now run d.part
    → line_of k (said now e d ∷ run)
    ≡ drop (if takes_request k d.part then 1 else 0) (line_of k run)
    ++ heard_with d.request (unit_after now k d.part (unit_of k run))
line-cons p f run now k e d h fits =
    drop-sent (taken_by k run) (if takes_request k d.part then 1 else 0) (broadcast_to k run)
    (heard_with d.request (unit_after now k d.part (unit_of k run)))
    (part_line p run now k d.part (h.lines k) (h.taken k) fits).1

-- what is taken and what is left are the line before
pub oldest_first : (line : List Request) → option_to_list (oldest line) ++ drop 1 line ≡ line
oldest_first [] = refl
oldest_first (request ∷ line) = refl

request_line : (k now : ℕ) (part : Option UnitPart) (line : List Request)
    → request_with k now part line ++ drop (if takes_request k part then 1 else 0) line ≡ line
request_line k now None line = refl
request_line k now (Some (Joins first)) line = refl
request_line k now (Some (Acts j Take)) line = by_unit (j == k)
  where
    by_unit : (b : Bool)
        → requests_taken (option_to_list (if b
        then Some (record { moment = now; turn = Take; request = oldest line }) else None))
        ++ drop (if b then 1 else 0) line ≡ line
    by_unit true = oldest_first line
    by_unit false = refl
request_line k now (Some (Acts j turn)) line = by_unit (j == k)
  where
    by_unit : (b : Bool)
        → requests_taken (option_to_list (if b
        then Some (record { moment = now; turn = turn; request = None }) else None)) ++ line ≡ line
    by_unit true = refl
    by_unit false = refl

-- what a unit took, and its line, are what was broadcast to it; and what it answered are the queries that it took, and
-- those of its line where it has finished
pub record HasAnswered (k : ℕ) (run : List Happening) : Type 0 where
  pub whole : requests_taken (story_of k run) ++ line_of k run ≡ broadcast_to k run
  pub rounds : rounds_by (answers_by k run)
      ≡ rounds_in (requests_taken (story_of k run)) ++ rounds_in (if has_finished k run then line_of k run else [])

pub whole-cons : (p : Settings) (f : Frame) (run : List Happening) (now k : ℕ) (e : Entry) (d : Deed)
    → Holds p now run → PartFits p now run d.part → HasAnswered k run
    → requests_taken (story_of k (said now e d ∷ run)) ++ line_of k (said now e d ∷ run)
    ≡ broadcast_to k (said now e d ∷ run)
whole-cons p f run now k e d h fits was =
    ap (λ rs. rs ++ line_of k (said now e d ∷ run))
    (taken_more (own_turn k now d.part (line_of k run)) (story_of k run))
    ∙ ap (λ rs. (taken ++ asked) ++ rs) (line-cons p f run now k e d h fits)
    ∙ append_assoc taken asked (left ++ heard) ∙ ap (λ rs. taken ++ rs) (sym (append_assoc asked left heard))
    ∙ ap (λ rs. taken ++ (rs ++ heard)) (request_line k now d.part (line_of k run))
    ∙ sym (append_assoc taken (line_of k run) heard) ∙ ap (λ rs. rs ++ heard) was.whole
  where
    taken : List Request
    taken = requests_taken (story_of k run)

    asked : List Request
    asked = request_with k now d.part (line_of k run)

    left : List Request
    left = drop (if takes_request k d.part then 1 else 0) (line_of k run)

    heard : List Request
    heard = heard_with d.request (unit_after now k d.part (unit_of k run))

-- what a part answers, and what it leaves to answer
abbrev Leaves : ℕ → ℕ → List Happening → Option UnitPart → List (ℕ × InfoResponse) → Type 0
Leaves k now run part info =
    rounds_in (if has_finished k run then line_of k run else [])
    ++ rounds_by (if is_turn_of k part then info else [])
    ≡ rounds_in (request_with k now part (line_of k run))
    ++ rounds_in (if is_done (unit_after now k part (unit_of k run))
    && is_none (stopped_with (stopped_at k run) (lets_go k part) (reason run) (deliveries k run))
    then drop (if takes_request k part then 1 else 0) (line_of k run) else [])

-- a part of no turn of its own
leaves_still : (k : ℕ) (run : List Happening)
    → rounds_in (if has_finished k run then line_of k run else []) ++ []
    ≡ rounds_in (if is_done (unit_of k run) && is_none (option_or (stopped_at k run) None) then line_of k run else [])
leaves_still k run =
    append-nil _ ∙ ap (λ o. rounds_in (if is_done (unit_of k run) && is_none o then line_of k run else []))
    (sym (or_none (stopped_at k run)))

-- a unit that decides, or whose delay passes, has an attempt that ended
pub ended_in : (mm left : Bool) (ph : Phase) (ss : List ExecuteStatus) (t q : List News)
    → (ph ≡ Deciding) ⊎ (ph ≡ Delay)
    → HasAccountAt mm left ph ss t q → (s : ExecuteStatus) × (last_status ss ≡ Some s)
ended_in true left Over ss t q (inl at) h = cc
ended_in true left Over ss t q (inr at) h = cc
ended_in true left ph ss t q at h = absurd h
ended_in false left Deciding ss t q at (early, (s, (e, h))) = (s, ap last_status e ∙ last-append early s)
ended_in false left Delay ss t q at (early, (s, (e, h))) = (s, ap last_status e ∙ last-append early s)
ended_in false left ph ss t q (inl at) h = cc
ended_in false left ph ss t q (inr at) h = cc

own_leaves : (p : Settings) (f : Frame) (now : ℕ) (run : List Happening) (k : ℕ) (turn : UnitTurn) (u : UnitView)
    → Holds p now run → unit_of k run ≡ Some u → takes now u turn ≡ true
    → ((go : Bool) → turn ≡ Answered go → go ≡ is_none (reason run))
    → LeavesOwn turn (line_of k run) (stopped_with (stopped_at k run) (is_answer turn) (reason run) (deliveries k run))
    (row now turn u)
own_leaves p f now run k turn u h is en goes =
    row_leaves now u.phase turn (at_moment now u) (line_of k run) (stopped_at k run) (reason run)
    (deliveries k run) refl
    (takes_moment now u.phase u turn en) (own_request now turn u (line_of k run) en line)
    (λ at. subst (λ ph. HasLineIn ph u.line (line_of k run)) at line)
    (unstopped (is_mismatched p k) now u turn (way_of k run) en
    (subst (λ v. IsOnWay (is_mismatched p k) v (way_of k run)) is (h.on_way k)))
    goes
    (λ at. ended_in (is_mismatched p k) (was_left k run) u.phase u.statuses (account_of k (told run))
    (pending_of k (queue run)) at
    (subst (λ v. HasAccount (is_mismatched p k) (was_left k run) v (account_of k (told run))
    (pending_of k (queue run))) is (h.accounts k)))
  where
    line : HasLineIn u.phase u.line (line_of k run)
    line = subst (λ v. HasLine v (line_of k run)) is (h.lines k)

-- nothing that takes a turn is over
takes_on : (now : ℕ) (u : UnitView) (turn : UnitTurn) → takes now u turn ≡ true → is_last u.phase ≡ false
takes_on now u turn en = by_phase u.phase en
  where
    by_phase : (ph : Phase) → takes_at now ph u turn ≡ true → is_last ph ≡ false
    by_phase Over en = cc
    by_phase ph en = refl

part_leaves : (p : Settings) (f : Frame) (now : ℕ) (run : List Happening) (k : ℕ) (part : Option UnitPart)
    (info : List (ℕ × InfoResponse)) → Holds p now run → PartFits p now run part → info ≡ info_by now run part
    → Leaves k now run part info
part_leaves p f now run k None info h fits is = leaves_still k run
part_leaves p f now run k (Some (Joins first)) info h (sent, new) is = begins (number first == k) refl
  where
    begins : (b : Bool) → (number first == k) ≡ b
        → rounds_in (if has_finished k run then line_of k run else []) ++ []
        ≡ rounds_in (if is_done (if b then Some first else unit_of k run) && is_none (option_or (stopped_at k run) None)
        then line_of k run else [])
    begins true e =
        let here : k ≡ number first = grind arith in
        let none : unit_of k run ≡ None = ap (λ k. unit_of k run) here ∙ new.unknown in
        let empty : line_of k run ≡ [] = subst (λ v. HasLine v (line_of k run)) none (h.lines k) in
        rw (none, empty) (either (is_last first.phase && is_none (option_or (stopped_at k run) None)))
      where
        either : (b : Bool) → [] ≡ rounds_in (if b then [] else [])
        either true = refl
        either false = refl
    begins false e = leaves_still k run
part_leaves p f now run k (Some (Acts j turn)) info h fits is = by_unit (j == k) refl
  where
    u : UnitView
    u = fits.unit

    given : info ≡ (row now turn u).info
    given = is ∙ ap (λ v. unwrap_or (option_map (λ v. (row now turn v).info) v) []) fits.is

    Part : Bool → Bool → Bool → Type 0
    Part own delivers takes = rounds_in (if has_finished k run then line_of k run else [])
        ++ rounds_by (if own then info else [])
        ≡ rounds_in (requests_taken (option_to_list (if own
        then Some (record { moment = now; turn = turn; request = request_of turn (line_of k run) }) else None)))
        ++ rounds_in (if is_done
        (if own then option_map (λ w. (row now turn w).next) (unit_of k run) else unit_of k run)
        && is_none (stopped_with (stopped_at k run) delivers (reason run) (deliveries k run))
        then drop (if takes then 1 else 0) (line_of k run) else [])

    apart : Part false false false
    apart = leaves_still k run

    own : (j == k) ≡ true → Part true (is_answer turn) (is_take turn)
    own e =
        let here : k ≡ j = grind arith in
        let mine : unit_of k run ≡ Some u = ap (λ k. unit_of k run) here ∙ fits.is in
        let going : has_finished k run ≡ false =
        ap (λ v. is_done v && is_none (stopped_at k run)) mine
        ∙ ap (λ b. b && is_none (stopped_at k run)) (takes_on now u turn fits.takes) in
        rw (going, mine, given) (own_leaves p f now run k turn u h mine fits.takes fits.answers)

    by_unit : (b : Bool) → (j == k) ≡ b → Leaves k now run (Some (Acts j turn)) info
    by_unit true e =
        rw (lets_go-is j k turn, takes_request-is j k turn, e, and_true (is_answer turn), and_true (is_take turn))
        (own e)
    by_unit false e =
        rw (
          lets_go-is j k turn,
          takes_request-is j k turn,
          e,
          and_false (is_answer turn),
          and_false
              (is_take turn),
        ) apart

-- so what a unit took and answered after one more turn
rounds-cons : (p : Settings) (f : Frame) (run : List Happening) (now k : ℕ) (e : Entry) (d : Deed)
    → Holds p now run → PartFits p now run d.part → d.info ≡ info_by now run d.part → HasAnswered k run
    → rounds_by (answers_by k (said now e d ∷ run))
    ≡ rounds_in (requests_taken (story_of k (said now e d ∷ run)))
    ++ rounds_in (if has_finished k (said now e d ∷ run) then line_of k (said now e d ∷ run) else [])
rounds-cons p f run now k e d h fits is was =
    map-append (λ (a : ℕ × InfoResponse). a.0) (answers_by k run) (if is_turn_of k d.part then d.info else [])
    ∙ ap (λ ns. ns ++ given) was.rounds ∙ append_assoc (rounds_in took) before given
    ∙ ap (λ ns. rounds_in took ++ ns) (part_leaves p f now run k d.part d.info h fits is)
    ∙ sym (append_assoc (rounds_in took) (rounds_in asked) _)
    ∙ ap (λ ns. ns ++ rounds_in (if is_done v && is_none stopped then left else []))
    (sym (filter_map-append round_of took asked)
    ∙ ap rounds_in (sym (taken_more (own_turn k now d.part (line_of k run)) (story_of k run))))
    ∙ ap (λ rs. rounds_in (requests_taken (story_of k (said now e d ∷ run))) ++ rounds_in rs)
    (sym (ap (λ rs. if is_done (reach d.request v) && is_none stopped then rs else [])
    (line-cons p f run now k e d h fits)
    ∙ still_left d.request v stopped left))
  where
    took : List Request
    took = requests_taken (story_of k run)

    asked : List Request
    asked = request_with k now d.part (line_of k run)

    before : List ℕ
    before = rounds_in (if has_finished k run then line_of k run else [])

    given : List ℕ
    given = rounds_by (if is_turn_of k d.part then d.info else [])

    v : Option UnitView
    v = unit_after now k d.part (unit_of k run)

    stopped : Option ℕ
    stopped = stopped_with (stopped_at k run) (lets_go k d.part) (reason run) (deliveries k run)

    left : List Request
    left = drop (if takes_request k d.part then 1 else 0) (line_of k run)

pub answered-cons : (p : Settings) (f : Frame) (run : List Happening) (now k : ℕ) (e : Entry) (d : Deed)
    → Holds p now run → PartFits p now run d.part → d.info ≡ info_by now run d.part → HasAnswered k run
    → HasAnswered k (said now e d ∷ run)
answered-cons p f run now k e d h fits is was = record {
  whole = whole-cons p f run now k e d h fits was;
  rounds = rounds-cons p f run now k e d h fits is was;
}

pub answered-none : (k : ℕ) → HasAnswered k []
answered-none k = record { whole = refl; rounds = refl }
