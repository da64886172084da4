-- The units of a sub-run know which one it is.
use Rattle.std.proofs.Common.{◌≡◌, inl, inr, ◌⊎◌, ℕ, ◌||◌, ◌==◌, List, [], ◌∷◌, ◌++◌, length, not, ◌&&◌, Bool, true}
use Rattle.std.proofs.Common.{false, if◌then◌else◌, Option}
use Rattle.std.proofs.Common.{Some, None, option_map, refl, ap, sym, subst, ◌∙◌, arith}
use Rattle.std.proofs.lemmas.Option.{same_Some}
use Rattle.std.specs.Prelude.{⊤}
use Rattle.std.specs.Cmp.{second_so}
use Rattle.run_events.specs.declared.request.Request.{Request}
use Rattle.run_events.specs.declared.settings.Settings.{Settings}
use Rattle.run_events.specs.declared.stress.StressIndex.{StressIndex}
use Rattle.run_model.specs.declared.entry.Entry.{Entry}
use Rattle.run_model.specs.declared.happening.Happening.{Happening}
use Rattle.run_model.specs.declared.happening.UnitPart.{UnitPart}
use Rattle.run_model.specs.declared.happening.UnitPart.TheVariants.{Joins, Acts}
use Rattle.run_model.specs.declared.unit_view.UnitView.{UnitView}
use Rattle.run_model.specs.Admission.{index_of_role}
use Rattle.run_model.specs.Board.{Deed, board}
use Rattle.run_model.specs.Environment.{number}
use Rattle.run_model.specs.Journal.{history, IsLegalBackward}
use Rattle.run_model.specs.SubRuns.{ended_before, index_at, stress_index}
use Rattle.run_model.specs.Turns.{happening, deed_on, nothing_done}
use Rattle.run_model.specs.Unit.{at_moment, reach, is_live, row}
use Rattle.run_model.specs.Words.{clock, ended_runs, is_on, joined_run, sub_run, unit_of, unit_after}
use Rattle.run_laws.proofs.board.Deeds.{base_of}
use Rattle.run_laws.proofs.board.DeedFits.{Does, JoinsAs, PartFits}
use Rattle.run_laws.proofs.board.Kept.{HoldsAfter, IsOfRun, IsBeforeRuns, where_joins, holds, does_after}
use Rattle.run_laws.proofs.board.OnBoard.{frame_of, index_in}
use Rattle.run_laws.proofs.units.Rows.{row_keeps}
use Rattle.run_laws.proofs.units.FaceLemmas.{face}

-- a unit is of this sub-run, and each of some is
abbrev pub IsOfIndex : Option StressIndex → Option UnitView → Type 0
IsOfIndex index None = ⊤
IsOfIndex index (Some u) = index_of_role u.role ≡ index

abbrev pub AreIndexed : Option StressIndex → List Happening → Type 0
AreIndexed index run = (k : ℕ) → IsOfIndex index (unit_of k run)

reach_index : (index : Option StressIndex) (request : Option Request) (v : Option UnitView) → IsOfIndex index v
    → IsOfIndex index (reach request v)
reach_index index None v h = h
reach_index index (Some request) None h = tt
reach_index index (Some request) (Some u) h = by_live (is_live u.phase)
  where
    by_live : (b : Bool) → IsOfIndex index (Some (if b then record u { line = u.line ++ request ∷ [] } else u))
    by_live true = h
    by_live false = h

part_index : (index : Option StressIndex) (now k : ℕ) (part : Option UnitPart) (v : Option UnitView)
    → JoinsAs index part
    → IsOfIndex index v → IsOfIndex index (unit_after now k part v)
part_index index now k None v joins h = h
part_index index now k (Some (Joins first)) v joins h = by_unit (number first == k)
  where
    by_unit : (b : Bool) → IsOfIndex index (if b then Some first else v)
    by_unit true = joins
    by_unit false = h
part_index index now k (Some (Acts j turn)) v joins h = by_unit (j == k)
  where
    acts : (v : Option UnitView) → IsOfIndex index v → IsOfIndex index (option_map (λ w. (row now turn w).next) v)
    acts None h = tt
    acts (Some u) h = ap index_of_role (row_keeps now u.phase turn (at_moment now u) refl).role ∙ h

    by_unit : (b : Bool) → IsOfIndex index (if b then option_map (λ w. (row now turn w).next) v else v)
    by_unit true = acts v h
    by_unit false = h

-- while a sub-run is on, as many have ended as where it began
not_first : (a b : Bool) → (not a && b) ≡ true → a ≡ false
not_first true b e = cc
not_first false b e = refl

on_past : (past : List Happening) → is_on (sub_run past) ≡ true → ended_before past ≡ length (ended_runs past)
on_past [] on = cc
on_past (x ∷ past) on = by_begin x.begins refl (on_past past) on
  where
    counted : (begins : Bool) → x.begins ≡ begins → x.ends ≡ false
        → (if begins then length (ended_runs past) else ended_before past) ≡ length (ended_runs past)
        → ended_before (x ∷ past) ≡ length (ended_runs (x ∷ past))
    counted begins is goes_on same =
        ap (λ b. if b then length (ended_runs past) else ended_before past) is ∙ same
        ∙ sym (ap (λ b. length (if b then sub_run (x ∷ past) ∷ ended_runs past else ended_runs past)) goes_on)

    by_begin : (b : Bool) → x.begins ≡ b
        → (is_on (sub_run past) ≡ true → ended_before past ≡ length (ended_runs past))
        → is_on (if b then x ∷ [] else joined_run x (sub_run past)) ≡ true
        → ended_before (x ∷ past) ≡ length (ended_runs (x ∷ past))
    by_begin true is before on = counted true is (not_first x.ends (x.begins || false) on) refl
    by_begin false is before on = by_run (sub_run past) refl on
      where
        by_run : (run : List Happening) → sub_run past ≡ run → is_on (joined_run x run) ≡ true
            → ended_before (x ∷ past) ≡ length (ended_runs (x ∷ past))
        by_run [] same on = cc
        by_run (y ∷ run) same on =
            let was : is_on (sub_run past) ≡ true = ap is_on same
            ∙ ap (λ b. b || is_on (y ∷ run)) (sym is) ∙ second_so (not x.ends) (x.begins || is_on (y ∷ run)) on in
            counted false is (not_first x.ends (x.begins || is_on (y ∷ run)) on) (before was)

-- each unit of the newest sub-run is of that one
pub indexed : (p : Settings) (backward : List Entry) → IsLegalBackward p backward
    → AreIndexed (stress_index p (history p backward)) (sub_run (history p backward))
indexed p [] legal = λ k. tt
indexed p (e ∷ before) legal =
    by_run (indexed p before legal.2) (where_joins p past e (holds p before legal.2) legal.0)
  where
    past : List Happening
    past = history p before

    x : Happening
    x = happening p past e

    d : Deed
    d = deed_on p (board p past) e.turn

    index : Option StressIndex
    index = stress_index p (x ∷ past)

    at : ℕ → Option StressIndex
    at n = option_map (λ condition. index_at condition n) p.stress

    by_run : AreIndexed (stress_index p past) (sub_run past) → IsOfRun p past e ⊎ IsBeforeRuns p past e
        → AreIndexed index (sub_run (x ∷ past))
    by_run was (inr none) = subst (AreIndexed index) (sym none.still) (λ k. tt)
    by_run was (inl of) = subst (AreIndexed index) (sym of.joins) (λ k. reach_index index x.request _
        (part_index index x.moment k x.part (unit_of k of.base) joins (base_so d.begins refl k)))
      where
        stays : d.begins ≡ false → index ≡ stress_index p past
        stays is = ap (λ b. at (if b then length (ended_runs past) else ended_before past)) is

        base_so : (b : Bool) → d.begins ≡ b → AreIndexed index of.base
        base_so true is = subst (AreIndexed index) (sym (of.is ∙ ap (λ b. base_of b (sub_run past)) is)) (λ k. tt)
        base_so false is = subst (AreIndexed index) (sym (of.is ∙ ap (λ b. base_of b (sub_run past)) is))
            (subst (λ i. AreIndexed i (sub_run past)) (sym (stays is)) was)

        joins_by : (b : Bool) → d.begins ≡ b → (on : Bool) → is_on of.base ≡ on → JoinsAs index d.part
        joins_by true is on at = subst (JoinsAs index) (sym (of.does.marks.begins is).1.part) tt
        joins_by false is false off =
            subst (λ (d : Deed). JoinsAs index d.part) (sym (of.does.marks.still (rw (is, off) refl))) tt
        joins_by false is true on =
            let same : of.base ≡ sub_run past = of.is ∙ ap (λ b. base_of b (sub_run past)) is in
            subst (λ i. JoinsAs i d.part)
            (sym (stays is ∙ ap at (on_past past (ap is_on (sym same) ∙ on)))) of.does.index

        joins : JoinsAs index d.part
        joins = joins_by d.begins refl (is_on of.base) refl

-- so the face of each says that
pub index_of_face : (index : Option StressIndex) (run : List Happening) (k : ℕ) (v : UnitView) → AreIndexed index run
    → option_map face (unit_of k run) ≡ Some v → index_of_role v.role ≡ index
index_of_face index run k v indexed is = by_unit (unit_of k run) (indexed k) is
  where
    by_unit : (w : Option UnitView) → IsOfIndex index w → option_map face w ≡ Some v → index_of_role v.role ≡ index
    by_unit None h is = cc
    by_unit (Some u) h is = ap (λ (v : UnitView). index_of_role v.role) (sym (same_Some _ _ is)) ∙ h
