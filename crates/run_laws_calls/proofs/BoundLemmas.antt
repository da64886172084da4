-- What is told of a unit so far tells at most one start, one finish after it, and one skip.
use Rattle.std.proofs.Common.{◌≡◌, inl, inr, ◌+◌, ◌≤◌, List, [], ◌∷◌, ◌++◌, Bool, true, false, not}
use Rattle.std.proofs.Common.{count_by, sym, subst, arith}
use Rattle.run_events.specs.Stats.{one_if}
use Rattle.run_events.specs.declared.result.ExecuteStatus.{ExecuteStatus}
use Rattle.run_model.specs.declared.phase.Phase.{Phase}
use Rattle.run_model.specs.declared.phase.Phase.TheVariants.{StartSent, Starting, Running, Grace, KillWait, Leak}
use Rattle.run_model.specs.declared.phase.Phase.TheVariants.{EnvWait, Deciding, Delay, RetrySent, Over}
use Rattle.run_model.specs.Accounts.{HasAccountAt, HasAccountIn, HasSkipIn, IsDone, News, failed, finished, skipped}
use Rattle.run_model.specs.Accounts.{started, tried}
use Rattle.run_laws.proofs.told.Running.{is_finish, is_start}
use Rattle.run_laws_calls.proofs.NewsLemmas.{count-cons, count-last, count-tried}
use Rattle.run_laws_calls.proofs.NewsLemmas.{finishes_these, is_skip_news, skips_these, starts_these}

-- by whether it is a test that doesn't match
pub record IsBounded (mm : Bool) (t : List News) : Type 0 where
  pub starts : count_by is_start t ≤ one_if (not mm)
  pub finishes : count_by is_finish t ≤ count_by is_start t
  pub skips : count_by is_skip_news t ≤ one_if mm

bounded_none : (mm : Bool) → IsBounded mm []
bounded_none mm = record { starts = omega arith; finishes = omega arith; skips = omega arith }

bounded_skip : IsBounded true (skipped ∷ [])
bounded_skip = record { starts = omega arith; finishes = omega arith; skips = omega arith }

-- news none of which is a start, a finish or a skip
record IsNone (ns : List News) : Type 0 where
  starts : count_by is_start ns ≡ 0
  finishes : count_by is_finish ns ≡ 0
  skips : count_by is_skip_news ns ≡ 0

none_tried : (ss : List ExecuteStatus) → IsNone (tried ss)
none_tried ss = record {
  starts = count-tried is_start starts_these ss;
  finishes = count-tried is_finish finishes_these ss;
  skips = count-tried is_skip_news skips_these ss;
}

none_failed : (ss : List ExecuteStatus) (s : ExecuteStatus) → IsNone (tried ss ++ failed s ∷ [])
none_failed ss s = record {
  starts = count-last is_start (failed s) (tried ss) (count-tried is_start starts_these ss);
  finishes = count-last is_finish (failed s) (tried ss) (count-tried is_finish finishes_these ss);
  skips = count-last is_skip_news (failed s) (tried ss) (count-tried is_skip_news skips_these ss);
}

bounded_going : (ns : List News) → IsNone ns → IsBounded false (started ∷ ns)
bounded_going ns none =
    let start : count_by is_start (started ∷ ns) ≡ 1 + count_by is_start ns = count-cons is_start started ns in
    let finish : count_by is_finish (started ∷ ns) ≡ 0 + count_by is_finish ns = count-cons is_finish started ns in
    let skip : count_by is_skip_news (started ∷ ns) ≡ 0 + count_by is_skip_news ns =
    count-cons is_skip_news started ns in
    record {
      starts = omega (arith, start, none.starts);
      finishes = omega (arith, start, finish, none.starts, none.finishes);
      skips = omega (arith, skip, none.skips);
    }

bounded_done : (ns : List News) (ss : List ExecuteStatus) → IsNone ns
    → IsBounded false (started ∷ ns ++ finished ss ∷ [])
bounded_done ns ss none =
    let all : List News = ns ++ finished ss ∷ [] in
    let start : count_by is_start (started ∷ all) ≡ 1 + count_by is_start all = count-cons is_start started all in
    let finish : count_by is_finish (started ∷ all) ≡ 0 + count_by is_finish all = count-cons is_finish started all in
    let skip : count_by is_skip_news (started ∷ all) ≡ 0 + count_by is_skip_news all =
    count-cons is_skip_news started all in
    let starts : count_by is_start all ≡ 0 = count-last is_start (finished ss) ns none.starts in
    let finishes : count_by is_finish all ≡ 1 = count-last is_finish (finished ss) ns none.finishes in
    let skips : count_by is_skip_news all ≡ 0 = count-last is_skip_news (finished ss) ns none.skips in
    record {
      starts = omega (arith, start, starts);
      finishes = omega (arith, start, finish, starts, finishes);
      skips = omega (arith, skip, skips);
    }

-- an account, in each phase
going : (t : List News) (ss : List ExecuteStatus) → t ≡ started ∷ tried ss → IsBounded false t
going t ss is = subst (IsBounded false) (sym is) (bounded_going (tried ss) (none_tried ss))

failing : (t : List News) (ss : List ExecuteStatus) (s : ExecuteStatus) → t ≡ started ∷ tried ss ++ failed s ∷ []
    → IsBounded false t
failing t ss s is = subst (IsBounded false) (sym is) (bounded_going (tried ss ++ failed s ∷ []) (none_failed ss s))

finishing : (t : List News) (early ss : List ExecuteStatus) → t ≡ started ∷ tried early ++ finished ss ∷ []
    → IsBounded false t
finishing t early ss is = subst (IsBounded false) (sym is) (bounded_done (tried early) ss (none_tried early))

untold : (mm : Bool) (t : List News) → t ≡ [] → IsBounded mm t
untold mm t is = subst (IsBounded mm) (sym is) (bounded_none mm)

done : (left : Bool) (ss : List ExecuteStatus) (t q : List News) → IsDone left ss t q → IsBounded false t
done true ss t q (early, (s, (e, h))) = failing t early s h.0
done false [] t q h = untold false t h.0
done false (x ∷ ss) t q (early, (s, (e, inl h))) = going t early h.0
done false (x ∷ ss) t q (early, (s, (e, inr h))) = finishing t early (x ∷ ss) h.0

bounded_in : (left : Bool) (ph : Phase) (ss : List ExecuteStatus) (t q : List News) → HasAccountIn left ph ss t q
    → IsBounded false t
bounded_in left StartSent ss t q (none, h) = untold false t h.0
bounded_in left Starting ss t q h = going t ss h.0
bounded_in left Running ss t q h = going t ss h.0
bounded_in left Grace ss t q h = going t ss h.0
bounded_in left KillWait ss t q h = going t ss h.0
bounded_in left Leak ss t q h = going t ss h.0
bounded_in left EnvWait ss t q h = going t ss h.0
bounded_in left Deciding ss t q (early, (s, (e, h))) = going t early h.0
bounded_in left Delay ss t q (early, (s, (e, inl h))) = going t early h.0
bounded_in left Delay ss t q (early, (s, (e, inr h))) = failing t early s h.0
bounded_in left RetrySent ss t q (early, (s, (e, inl h))) = going t early h.0
bounded_in left RetrySent ss t q (early, (s, (e, inr h))) = failing t early s h.0
bounded_in left Over ss t q h = done left ss t q h

skip_in : (ph : Phase) (ss : List ExecuteStatus) (t q : List News) → HasSkipIn ph ss t q → IsBounded true t
skip_in Over [] t q (inl h) = untold true t h.0
skip_in Over [] t q (inr h) = subst (IsBounded true) (sym h.0) bounded_skip
skip_in Over (s ∷ ss) t q h = absurd h
skip_in ph ss t q h = absurd h

pub bounded_at : (mm left : Bool) (ph : Phase) (ss : List ExecuteStatus) (t q : List News)
    → HasAccountAt mm left ph ss t q → IsBounded mm t
bounded_at true left ph ss t q h = skip_in ph ss t q h
bounded_at false left ph ss t q h = bounded_in left ph ss t q h
