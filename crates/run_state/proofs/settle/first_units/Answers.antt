use Rattle.std.proofs.Common.{◌≡◌, ◌<◌, ◌+◌, ℕ, true, get_or, length}
use Rattle.std.proofs.Common.{None, slice_index_or, refl, sym, subst, ◌∙◌, arith}
use Rattle.run_model.specs.declared.unit_turn.UnitTurn.TheVariants as own
use Rattle.run_model.specs.Board.{unit_in}
use Rattle.run_model.specs.Turns.{unit_takes}
use Rattle.run_state.specs.Counted.{working_in}
use Rattle.run_state.specs.Held.{Held}
use Rattle.run_state.proofs.FirstLemmas.{IsFirstBy, none_more, none_all, first_more, first_all, first_none}
use Rattle.run_state.proofs.WorkingLemmas.{first_working}
use Rattle.run_state.proofs.settle.first_units.Goals as goal

pub loop-place-init : goal.loop-place-init
loop-place-init c =
    let b = c.args.state.now.board in
    (λ j below. absurd (omega arith), first_none b (own.Decide c.args.word), first_none b own.Due)

pub returns-then-wants : goal.returns-then-wants
returns-then-wants c =
    let b = c.args.state.now.board in
    let at = c.loop-place.place in
    let unit = c.working_at-unit.result in
    let here : unit ≡ get_or (working_in b.units) at 0 =
    subst (λ (h : Held). unit ≡ get_or (working_in h.board.units) at 0) c.state.view_is c.working_at-unit.ensures in
    let inside : at < length (working_in b.units) =
    subst (λ (h : Held). at < length (working_in h.board.units)) c.state.view_is (omega arith) in
    let takes : unit_takes b.clock (unit_in b unit) own.Take ≡ true =
    subst (λ (h : Held). unit_takes h.board.clock (slice_index_or h.board.units unit None) own.Take ≡ true)
    c.state.view_is (sym c.wants-wants.ensures.take ∙ c.if-wants.true) in
    record {
      take = (
        first_working b own.Take at unit inside (sym here) c.loop-place.invariant.0 takes,
        λ e. cc,
      );
      decide = λ e. cc;
      due = λ e. cc;
    }

pub loop-place-preserved : goal.loop-place-preserved
loop-place-preserved c =
    let b = c.args.state.now.board in
    let word = c.args.word in
    let at = c.loop-place.place in
    let unit = c.working_at-unit.result in
    let wants = c.wants-wants.result in
    let here : unit ≡ get_or (working_in b.units) at 0 =
    subst (λ (h : Held). unit ≡ get_or (working_in h.board.units) at 0) c.state.view_is c.working_at-unit.ensures in
    let inside : at < length (working_in b.units) =
    subst (λ (h : Held). at < length (working_in h.board.units)) c.state.view_is (omega arith) in
    let takes : unit_takes b.clock (unit_in b unit) own.Take ≡ wants.take =
    subst (λ (h : Held). unit_takes h.board.clock (slice_index_or h.board.units unit None) own.Take ≡ wants.take)
    c.state.view_is (sym c.wants-wants.ensures.take) in
    let decides : unit_takes b.clock (unit_in b unit) (own.Decide word) ≡ wants.decide =
    subst (λ (h : Held). unit_takes h.board.clock (slice_index_or h.board.units unit None) (own.Decide word)
    ≡ wants.decide) c.state.view_is (sym (c.wants-wants.ensures.decide word)) in
    let due : unit_takes b.clock (unit_in b unit) own.Due ≡ wants.due =
    subst (λ (h : Held). unit_takes h.board.clock (slice_index_or h.board.units unit None) own.Due ≡ wants.due)
    c.state.view_is (sym c.wants-wants.ensures.due) in (
      none_more b own.Take at unit here (takes ∙ c.if-wants.false) c.loop-place.invariant.0,
      subst (IsFirstBy b (own.Decide word) (at + 1)) (sym c.first_of-decide.ensures)
          (first_more b (own.Decide word) at unit wants.decide c.loop-place.decide inside here decides
          c.loop-place.invariant.1),
      subst (IsFirstBy b own.Due (at + 1)) (sym c.first_of-due.ensures)
          (first_more b own.Due at unit wants.due c.loop-place.due inside here due c.loop-place.invariant.2),
    )

pub returns : goal.returns
returns c =
    let b = c.args.state.now.board in
    let at = c.loop-place.place in
    let count : c.working_count-place-end.result ≡ length (working_in b.units) =
    subst (λ (h : Held). c.working_count-place-end.result ≡ length (working_in h.board.units)) c.state.view_is
    c.working_count-place-end.ensures in
    let all : at ≡ length (working_in b.units) = omega (arith, count) in
    record {
      take = (tt, λ e. none_all b own.Take at all c.loop-place.invariant.0);
      decide = λ e. first_all b (own.Decide c.args.word) at c.loop-place.decide all c.loop-place.invariant.1;
      due = λ e. first_all b own.Due at c.loop-place.due all c.loop-place.invariant.2;
    }
