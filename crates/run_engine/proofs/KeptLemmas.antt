-- What a state forgets may be forgotten.
use Rattle.std.proofs.Common.{◌≡◌, ℕ, get_or, set, List, [], ◌∷◌, Bool, true, false, not, ◌&&◌, Option, Some, None}
use Rattle.std.proofs.Common.{refl, ap, sym, subst, arith, inl, inr, if◌then◌else◌}
use Rattle.run_events.specs.declared.request.Request.{Request}
use Rattle.run_events.specs.declared.settings.Settings.{Settings}
use Rattle.run_model.specs.declared.unit_view.UnitView.{UnitView}
use Rattle.run_model.specs.Admission.{is_done, is_last, is_script}
use Rattle.run_model.specs.Board.{Board}
use Rattle.run_model.specs.Requests.{has_request}
use Rattle.run_unit.specs.Gone.{gone, is_spent}
use Rattle.run_state.specs.Forgotten.{forgotten, forgotten_at, test_forgotten}
use Rattle.run_engine.specs.Forgotten.{AreOver, IsForgotten, MayForget, line_kept}
use Rattle.run_engine.proofs.ForgottenMoves.{forgotten-one}

both : (a b : Bool) → a && b ≡ true → (a ≡ true) × (b ≡ true)
both true true e = (refl, refl)
both true false e = cc
both false b e = cc

no_line : (line : List Request) → not (has_request line) ≡ true → line ≡ []
no_line [] e = refl
no_line (r ∷ rs) e = cc

-- a unit that nothing is kept of is over, and so is the one in whose place it is kept
gone_for : (p : Settings) (k : ℕ) (u : Option UnitView) (v : UnitView) → is_script p k ≡ false → is_spent v ≡ true
    → MayForget p k u (Some v) → AreOver p k u (Some gone)
gone_for p k u v test spent (inl same) =
    let is = both (is_last v.phase) (not (has_request v.line)) spent in
    record {
      test = test;
      over = subst (λ u. is_done u ≡ true) same is.0;
      kept_over = refl;
      line = subst (λ u. line_kept u ≡ []) same (no_line v.line is.1);
      kept_line = refl;
      latest = omega arith;
    }
gone_for p k u v test spent (inr were) = record {
  test = test;
  over = were.over;
  kept_over = refl;
  line = were.line;
  kept_line = refl;
  latest = omega arith;
}

may_forget : (p : Settings) (k : ℕ) (u v : Option UnitView) → is_script p k ≡ false → MayForget p k u v
    → MayForget p k u (forgotten v)
may_forget p k u None test may = may
may_forget p k u (Some v) test may = by_spent (is_spent v) refl
  where
    by_spent : (b : Bool) → is_spent v ≡ b → MayForget p k u (if b then Some gone else Some v)
    by_spent true e = inr (gone_for p k u v test e may)
    by_spent false e = may

-- a board of which one more unit is forgotten
pub forgets : (p : Settings) (b c : Board) (k : ℕ) → IsForgotten p b c
    → IsForgotten p b (record c { units = test_forgotten p k c.units })
forgets p b c k h = by_script (is_script p k) refl
  where
    by_script : (s : Bool) → is_script p k ≡ s
        → IsForgotten p b (record c { units = if s then c.units else forgotten_at k c.units })
    by_script true e = h
    by_script false e = record {
      rest = ap (λ (x : Board). record x { units = forgotten_at k c.units }) h.rest;
      units = forgotten-one p b.units c.units k (forgotten (get_or c.units k None)) h.units
          (may_forget p k (get_or b.units k None) (get_or c.units k None) e (h.units.each k));
    }
