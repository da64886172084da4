-- How far a run came whose memory was wanting.
use Rattle.std.proofs.Common.{◌≡◌, ◌⊎◌, ℕ, ◌≤◌, ◌<◌, ◌+◌, inl, inr, List, [], ◌∷◌, ◌++◌, length, map, zip, take}
use Rattle.std.proofs.Common.{slice_get}
use Rattle.std.proofs.Common.{get_or, Bool, true, false, Option, Some, None, option_to_list, refl, ap, sym, subst, ◌∙◌}
use Rattle.std.proofs.Common.{arith, append_assoc, length-append, IsTrue, zero, suc}
use Rattle.std.proofs.lemmas.List.{append-nil}
use Rattle.run_capture.specs.declared.source.Failed.{Failed}
use Rattle.run_events.specs.declared.settings.Settings.{Settings}
use Rattle.run_events.specs.declared.turn.Turn.{Turn}
use Rattle.run_events.specs.declared.ask.Ask.{Ask}
use Rattle.run_events.specs.declared.events.ReporterEvent.{ReporterEvent}
use Rattle.run_model.specs.declared.entry.Entry.{Entry}
use Rattle.run_model.specs.declared.happening.Happening.{Happening}
use Rattle.run_model.specs.Words.{told, asked, answers, events_in}
use Rattle.run_model.specs.Turns.{enabled, happening}
use Rattle.run_model.specs.Journal.{past_of, IsLegal}
use Rattle.run_laws.specs.Course.{turns_of}
use Rattle.run_engine.specs.World.{flagged, entry_of}
use Rattle.run_engine.specs.Broken.{IsSent, IsPart, after_journal}
use Rattle.run_engine.proofs.JournalLemmas.{past_of-push, legal-push}
use Rattle.run_engine.proofs.TakesLemmas.{answers-push, asked-push, turns-push}
use Rattle.run_capture.specs.Bytes.{Takes}
use Rattle.run_cli.specs.Call.{Writing}
use Rattle.run_cli.specs.Commands.{progress_form}
use Rattle.run_cli.specs.Short.{HasRunOut, told_last}

-- a legal journal of the first turns, that has told these answers and maybe some more of its latest turn, and asked
-- these asks and maybe one more
pub record Reaches (p : Settings) (turns : List Turn) (told_so : List (ReporterEvent × Bool))
    (asked_so : List (ℕ × Ask)) : Type 0 where
  pub journal : List Entry
  pub legal : IsLegal p journal
  pub taken : ℕ
  pub takes : turns_of journal ≡ take taken turns
  pub left : List (ReporterEvent × Bool)
  pub answers_are : told_so ++ left ≡ answers (past_of p journal)
  pub few : length left ≤ told_last (past_of p journal)
  pub later : List (ℕ × Ask)
  pub asked_are : asked_so ++ later ≡ asked (past_of p journal)
  pub one : length later ≤ 1

-- where nothing of a further turn went out
reaches_here : (p : Settings) (turns : List Turn) (journal : List Entry) (taken : ℕ)
    (extra : List (ReporterEvent × Bool)) (sent : List (ℕ × Ask)) → IsLegal p journal
    → turns_of journal ≡ take taken turns → extra ≡ [] → sent ≡ []
    → Reaches p turns (answers (past_of p journal) ++ extra) (asked (past_of p journal) ++ sent)
reaches_here p turns journal taken extra sent legal takes no_extra no_sent = record {
  journal = journal;
  legal = legal;
  taken = taken;
  takes = takes;
  left = [];
  answers_are = append-nil (answers (past_of p journal) ++ extra)
      ∙ ap (λ es. answers (past_of p journal) ++ es) no_extra ∙ append-nil (answers (past_of p journal));
  few = omega arith;
  later = [];
  asked_are = append-nil (asked (past_of p journal) ++ sent)
      ∙ ap (λ sends. asked (past_of p journal) ++ sends) no_sent ∙ append-nil (asked (past_of p journal));
  one = omega arith;
}

-- events beside marks, and those beside which none stands, each beside one that isn't set
abbrev padded : {X : Type 0} → List X → List Bool → List Bool
padded [] marks = []
padded (x ∷ xs) [] = false ∷ padded xs []
padded (x ∷ xs) (b ∷ marks) = b ∷ padded xs marks

-- there is a mark for each
padded_length : {X : Type 0} (xs : List X) (marks : List Bool) → length (padded xs marks) ≡ length xs
padded_length [] marks = refl
padded_length (x ∷ xs) [] = ap (λ n. suc n) (padded_length xs [])
padded_length (x ∷ xs) (b ∷ marks) = ap (λ n. suc n) (padded_length xs marks)

-- the events beside which none stands
abbrev beyond : {X : Type 0} → List X → List Bool → List (X × Bool)
beyond [] marks = []
beyond (x ∷ xs) [] = (x, false) ∷ beyond xs []
beyond (x ∷ xs) (b ∷ marks) = beyond xs marks

-- where there are no marks
beyond_none : {X : Type 0} (xs : List X) → beyond xs [] ≡ zip xs (padded xs [])
beyond_none [] = refl
beyond_none (x ∷ xs) = ap (λ ys. (x, false) ∷ ys) (beyond_none xs)

-- marked events and the others are all of them
zip_padded : {X : Type 0} (xs : List X) (marks : List Bool) → length marks ≤ length xs
    → zip xs marks ++ beyond xs marks ≡ zip xs (padded xs marks)
zip_padded [] [] few = refl
zip_padded [] (b ∷ marks) few = refl
zip_padded (x ∷ xs) [] few = ap (λ ys. (x, false) ∷ ys) (beyond_none xs)
zip_padded (x ∷ xs) (b ∷ marks) few = ap (λ ys. (x, b) ∷ ys) (zip_padded xs marks (omega arith))

-- no more than all stand beside none
beyond_length : {X : Type 0} (xs : List X) (marks : List Bool) → length (beyond xs marks) ≤ length xs
beyond_length [] marks = omega arith
beyond_length (x ∷ xs) [] = omega (arith, beyond_length xs [])
beyond_length (x ∷ xs) (b ∷ marks) = omega (arith, beyond_length xs marks)

-- the asks of a turn that went out, and the one that didn't
sent_rest : (place : ℕ) (ask : Option Ask) (sent : List (ℕ × Ask)) → IsSent place ask sent
    → (later : List (ℕ × Ask)) × (sent ++ later ≡ map (λ ask. (place, ask)) (option_to_list ask)) × (length later ≤ 1)
sent_rest place None sent (inl none) = ([], ap (λ sends. sends ++ []) none, omega arith)
sent_rest place (Some a) sent (inl none) = ((place, a) ∷ [], ap (λ sends. sends ++ (place, a) ∷ []) none, omega arith)
sent_rest place ask sent (inr all) = ([], append-nil sent ∙ all, omega arith)

-- the turn at a place
there : (turns : List Turn) (place : ℕ) (turn : Turn) → slice_get turns place ≡ Some turn
    → (place < length turns) × (turn ≡ get_or turns place turn)
there [] place turn e = cc
there (t ∷ turns) zero turn e = (omega arith, cc)
there (t ∷ turns) (suc place) turn e = let rest = there turns place turn e in (omega (arith, rest.0), rest.1)

-- where a part of one went out
reaches_further : (p : Settings) (turns : List Turn) (journal : List Entry) (taken : ℕ) (turn : Turn)
    (extra : List (ReporterEvent × Bool)) (sent : List (ℕ × Ask)) → IsLegal p journal
    → turns_of journal ≡ take taken turns → slice_get turns taken ≡ Some turn
    → IsTrue (enabled p (past_of p journal) turn) → IsPart p journal turn extra sent
    → Reaches p turns (answers (past_of p journal) ++ extra) (asked (past_of p journal) ++ sent)
reaches_further p turns journal taken turn extra sent legal takes at on part =
    let events : List ReporterEvent = events_in (after_journal p journal turn) in
    let refused : List Bool = padded events part.marks in
    let longer : List Entry = journal ++ entry_of turn refused ∷ [] in
    let left : List (ReporterEvent × Bool) = beyond events part.marks in
    let rest = sent_rest (length journal) (after_journal p journal turn).asked sent part.asked in
    let here = there turns taken turn at in
    record {
      journal = longer;
      legal = legal-push p journal (entry_of turn refused) legal on (padded_length events part.marks);
      taken = taken + 1;
      takes = turns-push journal turns taken turn turn refused here.0 takes here.1;
      left = left;
      answers_are = append_assoc (answers (past_of p journal)) extra left
          ∙ ap (λ es. answers (past_of p journal) ++ es)
          (ap (λ es. es ++ left) part.told ∙ zip_padded events part.marks part.fits)
          ∙ sym (answers-push p journal (entry_of turn refused));
      few = subst (λ past. length left ≤ told_last past) (sym (past_of-push p journal (entry_of turn refused)))
          (beyond_length events part.marks);
      later = rest.0;
      asked_are = append_assoc (asked (past_of p journal)) sent rest.0
          ∙ ap (λ sends. asked (past_of p journal) ++ sends) rest.1
          ∙ sym (asked-push p journal (entry_of turn refused));
      one = rest.2;
    }

-- so it is, however far it came
pub reaches : (p : Settings) (turns : List Turn) (journal : List Entry) (taken : ℕ)
    (extra : List (ReporterEvent × Bool)) (sent : List (ℕ × Ask)) → IsLegal p journal
    → turns_of journal ≡ take taken turns
    → ((extra ≡ []) × (sent ≡ []))
    ⊎ ((turn : Turn) × (slice_get turns taken ≡ Some turn) × IsPart p journal turn extra sent)
    → Reaches p turns (answers (past_of p journal) ++ extra) (asked (past_of p journal) ++ sent)
reaches p turns journal taken extra sent legal takes (inl none) =
    reaches_here p turns journal taken extra sent legal takes none.0 none.1
reaches p turns journal taken extra sent legal takes (inr more) = by_enabled more.2.is_enabled
  where
    by_enabled : ((extra ≡ []) × (sent ≡ [])) ⊎ IsTrue (enabled p (past_of p journal) more.0)
        → Reaches p turns (answers (past_of p journal) ++ extra) (asked (past_of p journal) ++ sent)
    by_enabled (inl none) = reaches_here p turns journal taken extra sent legal takes none.0 none.1
    by_enabled (inr on) =
        reaches_further p turns journal taken more.0 extra sent legal takes more.1 on more.2

-- a sink that stands as it stood took nothing
takes_nothing : (taken : Option (List ℕ)) → Takes taken taken []
takes_nothing None = refl
takes_nothing (Some bytes) = ap Some (sym (append-nil bytes))

-- memory was wanting before the first turn
pub nothing_ran : (p : Settings) (width : ℕ) (turns : List Turn) (w : Writing) (lines : List ℕ)
    → w.taken_after ≡ w.taken → w.faults_after ≡ w.faults → lines ≡ []
    → HasRunOut (progress_form p width) p turns w lines
nothing_ran p width turns w lines same still none = (
  [],
  none,
  record {
    journal = [];
    legal = tt;
    taken = 0;
    takes = refl;
    later = [];
    asked = refl;
    one = omega arith;
    took = record {
      events = [];
      left = [];
      flags = refl;
      few = omega arith;
      took = ([], refl, subst (λ t. Takes w.taken t []) (sym same) (takes_nothing w.taken));
      counted = still;
    };
  },
)
