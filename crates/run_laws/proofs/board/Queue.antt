-- The message queue after one more turn.
use Rattle.std.proofs.Common.{◌≡◌, ℕ, ◌+◌, ◌≤◌, List, ◌∷◌, ◌++◌, length, drop, if◌then◌else◌, option_to_list, ap, sym}
use Rattle.std.proofs.Common.{◌∙◌, arith, length-drop}
use Rattle.std.proofs.lemmas.List.{drop-drop, drop-append-le}
use Rattle.run_model.specs.declared.happening.Happening.{Happening}
use Rattle.run_model.specs.Words.{sent, delivered, queue}

-- dropping from a longer list what a list has enough of
pub drop-sent : {X : Type 0} (n m : ℕ) (xs ys : List X) → n + m ≤ length xs
    → drop (n + m) (xs ++ ys) ≡ drop m (drop n xs) ++ ys
drop-sent n m xs ys h = drop-append-le (n + m) xs ys h ∙ ap (λ zs. zs ++ ys) (sym (drop-drop m n xs))

-- the queue loses what was taken and gains what was sent
pub queue-cons : (x : Happening) (past : List Happening) → delivered (x ∷ past) ≤ length (sent past)
    → queue (x ∷ past) ≡ drop (if x.taken then 1 else 0) (queue past) ++ option_to_list x.sent
queue-cons x past h = drop-sent (delivered past) (if x.taken then 1 else 0) (sent past) (option_to_list x.sent) h

-- a message waits where fewer were delivered than sent
pub lt-from_queue : {M : Type 0} (n : ℕ) (ms rest : List M) (m : M) → drop n ms ≡ m ∷ rest → n + 1 ≤ length ms
lt-from_queue n ms rest m e = grind (arith, length-drop n ms, ap length e)
