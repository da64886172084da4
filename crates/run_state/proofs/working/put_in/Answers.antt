use Rattle.std.proofs.Common.{◌≡◌, ◌⊎◌, ℕ, Ok, Err, sym, subst, ◌∙◌}
use Rattle.run_state.proofs.WorkingLemmas.{put-near}
use Rattle.run_state.proofs.working.put_in.Goals as goal
use Rattle.run_state.proofs.working.put_in.Goals.{in-Ok, in-Ok-2}

pub returns-in-Ok-insert-clause-ok : goal.returns-in-Ok-insert-clause-ok
returns-in-Ok-insert-clause-ok c flags is inside off =
    let place = c.match-binary_search.place in
    c.in-Ok-insert.ensures.items
    ∙ put-near c.args.numbers.now.items flags c.args.number c.binary_search.result place is inside off
    (rw c.as_slice.ensures.value at c.binary_search.ensures.position) at
  where
    ends : ℕ → Type 0
    ends place = (c.binary_search.result ≡ Ok place) ⊎ (c.binary_search.result ≡ Err place)

    at : ends c.match-binary_search.place
    at = elim c.match-binary_search.branch [
      | in-Ok w ↦ subst ends (sym w.place-is) w.in-Ok.is
      | in-Ok-2 w ↦ subst ends (sym w.place-is) w.in-Ok.is
    ]
