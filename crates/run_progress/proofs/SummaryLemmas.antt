-- Parts of a summary, comma_joined.
use Rattle.std.proofs.Common.{◌≡◌, ℕ, Bool, true, false, List, [], ◌∷◌, ◌++◌, refl, ap, sym, append-nil, append_assoc}
use Rattle.std.proofs.Common.{◌<◌, suc, arith}
use Rattle.std.specs.Prelude.{codes, decimal, nat_lt, length, ◌==◌, if◌then◌else◌}
use Rattle.std.proofs.lemmas.Bool.{lt-ltb, ne_eqb}
use Rattle.std.proofs.lemmas.List.Concat.{flat_map-append}
use Rattle.run_events.specs.declared.stats.RunStats.{RunStats}
use Rattle.run_progress.specs.Summary.{count_text, failed_kinds, in_parentheses, comma_joined, passed_kinds}
use Rattle.run_progress.specs.Summary.{summary_text}
use Rattle.run_progress.specs.Parts.{after_commas, closed, with_kind}

-- the first part, and each other after a comma
pub joined-cons : (text : List ℕ) (rest : List (List ℕ)) → comma_joined (text ∷ rest) ≡ text ++ after_commas rest
joined-cons text [] = sym (append-nil text)
joined-cons text (next ∷ rest) =
    rw (joined-cons next rest) (ap (λ tail. text ++ tail) (sym (append_assoc (codes ", ") next (after_commas rest))))

-- a text where it is there
abbrev pub where_there : Bool → List ℕ → List (List ℕ)
where_there there text = if there then text ∷ [] else []

-- kinds with one more, where it is there
abbrev pub with_text : Bool → List ℕ → List ℕ → List ℕ
with_text there text kinds = if there
    then kinds ++ ((if length kinds == 0 then codes " (" else codes ", ") ++ text) else kinds

-- no successor is 0
pub not_zero : (n : ℕ) → (suc n == 0) ≡ false
not_zero n = ne_eqb (suc n) 0 (λ e. omega (arith, e))

-- three kinds added one after another, and closed, by which of them are there
pub texts_closed : (p q r : Bool) (x y z : List ℕ)
    → closed (with_text r z (with_text q y (with_text p x [])))
    ≡ in_parentheses (where_there p x ++ (where_there q y ++ where_there r z))
texts_closed true true true x y z =
    simp not_zero (ap (λ text. codes " (" ++ (text ++ codes ")")) (append_assoc x (codes ", " ++ y) (codes ", " ++ z)))
texts_closed true true false x y z = simp not_zero
texts_closed true false true x y z = simp not_zero
texts_closed true false false x y z = simp not_zero
texts_closed false true true x y z = simp not_zero
texts_closed false true false x y z = simp not_zero
texts_closed false false true x y z = simp not_zero
texts_closed false false false x y z = refl

-- the kinds of passed tests are added one after another, and closed
pub kinds_closed : (stats : RunStats)
    → passed_kinds stats
    ≡ closed (with_kind stats.leaky (codes " leaky") (with_kind stats.flaky (codes " flaky")
    (with_kind stats.passed_slow (codes " slow") [])))
unfolding passed_kinds
kinds_closed stats = sym (texts_closed (nat_lt 0 stats.passed_slow) (nat_lt 0 stats.flaky) (nat_lt 0 stats.leaky)
    (decimal stats.passed_slow ++ codes " slow") (decimal stats.flaky ++ codes " flaky")
    (decimal stats.leaky ++ codes " leaky"))

-- the kind of failed tests, where it has some
pub failed_kinds-some : (stats : RunStats) → 0 < stats.leaky_failed
    → codes " (" ++ (decimal stats.leaky_failed ++ codes " due to being leaky)") ≡ failed_kinds stats
failed_kinds-some stats some =
    rw (lt-ltb 0 stats.leaky_failed some) (ap (λ text. codes " (" ++ text)
    (sym (append_assoc (decimal stats.leaky_failed) (codes " due to being leaky") (codes ")"))))

-- the parts of a summary are added one after another
pub parts_joined : (stats : RunStats)
    → summary_text stats
    ≡ ((((decimal stats.passed ++ (codes " passed" ++ passed_kinds stats))
    ++ after_commas (count_text stats.failed (codes " failed" ++ failed_kinds stats)))
    ++ after_commas (count_text stats.exec_failed (codes " exec failed")))
    ++ after_commas (count_text stats.failed_timed_out (codes " timed out")))
    ++ (codes ", " ++ (decimal stats.skipped ++ codes " skipped"))
unfolding summary_text
parts_joined stats = simp (joined-cons, flat_map-append, append_assoc, append-nil)
