-- Rows that are made one by one.
use Rattle.std.proofs.Common.{◌≡◌, ◌∙◌, ℕ, zero, suc, ◌+◌, ◌<◌, List, [], ◌∷◌, ◌++◌, map, length, take, get_or, min}
use Rattle.std.proofs.Common.{refl, sym, ap, arith}
use Rattle.std.proofs.Common.{add-one, append_assoc, Bool}
use Rattle.std.proofs.lemmas.List.{map-append}
use Rattle.std.specs.List.{zip}
use Rattle.run_plan.specs.Listed.{AskedTest, Listed, listed_from}
use Rattle.run_plan.specs.Rows.{asked_row, listed_row}
use Rattle.run_plan.specs.declared.asked.Asked.{Asked}
use Rattle.run_plan.specs.declared.rows.AskedRow.{AskedRow}
use Rattle.run_plan.specs.declared.rows.ListRow.{ListRow}
use Rattle.run_plan.specs.declared.test_list.TestBinary.{TestBinary}

-- the next pair of two lists
pub next_pair : {R A B : Type 0} (g : R → A) (rs : List R) (bs : List B) (i : ℕ) (r : R) (b : B) → i < length rs
    → i < length bs → r ≡ get_or rs i r → b ≡ get_or bs i b
    → take (suc i) (zip (map g rs) bs) ≡ take i (zip (map g rs) bs) ++ (g r, b) ∷ []
next_pair g [] bs i r b h k er eb = absurd (omega (arith, h))
next_pair g (x ∷ rs) [] i r b h k er eb = absurd (omega (arith, k))
next_pair g (x ∷ rs) (y ∷ bs) zero r b h k er eb = ap (λ p. p ∷ []) (sym (rw (er, eb) refl))
next_pair g (x ∷ rs) (y ∷ bs) (suc i) r b h k er eb =
    ap (λ more. (g x, y) ∷ more) (next_pair g rs bs i r b (omega (arith, h)) (omega (arith, k)) er eb)

-- all pairs, after as many as there are
pub all_pairs : {R A B : Type 0} (g : R → A) (rs : List R) (bs : List B) (n : ℕ) → n ≡ min (length rs) (length bs)
    → take n (zip (map g rs) bs) ≡ zip (map g rs) bs
all_pairs g [] bs zero e = refl
all_pairs g [] bs (suc n) e = refl
all_pairs g (x ∷ rs) [] zero e = refl
all_pairs g (x ∷ rs) [] (suc n) e = refl
all_pairs g (x ∷ rs) (y ∷ bs) zero e = absurd (omega (arith, e))
all_pairs g (x ∷ rs) (y ∷ bs) (suc n) e = ap (λ more. (g x, y) ∷ more) (all_pairs g rs bs n (omega (arith, e)))

-- a row more, with what filters say of it
pub next_row : (all new : List AskedRow) (x : AskedRow) (rows : List ListRow) (bs : List Asked) (i : ℕ)
    → new ≡ all ++ x ∷ [] → i < length rows → i < length bs → x.row ≡ get_or rows i x.row
    → x.asked.now ≡ get_or bs i x.asked.now → map asked_row all ≡ take i (zip (map listed_row rows) bs)
    → map asked_row new ≡ take (i + 1) (zip (map listed_row rows) bs)
next_row all new x rows bs i made h k er eb is =
    ap (map asked_row) made ∙ map-append asked_row all (x ∷ []) ∙ ap (λ xs. xs ++ asked_row x ∷ []) is
    ∙ sym (rw add-one (next_pair listed_row rows bs i x.row x.asked.now h k er eb))

-- a test more of the plan
pub next_test : {T : Type 0} (f : AskedTest × Bool → T) (all new : List T) (t : T) (rows : List AskedRow)
    (bs : List Bool) (i : ℕ) (r : AskedRow) (b : Bool) → new ≡ all ++ t ∷ [] → t ≡ f (asked_row r, b)
    → i < length rows → i < length bs → r ≡ get_or rows i r → b ≡ get_or bs i b
    → all ≡ map f (take i (zip (map asked_row rows) bs)) → new ≡ map f (take (i + 1) (zip (map asked_row rows) bs))
next_test f all new t rows bs i r b made one h k er eb is =
    let next : take (i + 1) (zip (map asked_row rows) bs)
    ≡ take i (zip (map asked_row rows) bs) ++ (asked_row r, b) ∷ []
    = rw add-one (next_pair asked_row rows bs i r b h k er eb) in
    made ∙ ap (λ x. all ++ x ∷ []) one ∙ ap (λ xs. xs ++ f (asked_row r, b) ∷ []) is
    ∙ sym (map-append f (take i (zip (map asked_row rows) bs)) ((asked_row r, b) ∷ [])) ∙ ap (map f) (sym next)

-- the tests of the next binary
pub next_binary : (front new whole : List Listed) (place : ℕ) (b : TestBinary) (bs rest : List TestBinary)
    → bs ≡ b ∷ rest → new ≡ front ++ map (λ test. (place, b, test)) b.tests
    → front ++ listed_from place bs ≡ whole → new ++ listed_from (place + 1) rest ≡ whole
next_binary front new whole place b bs rest there made is =
    let step : (front ++ map (λ test. (place, b, test)) b.tests) ++ listed_from (place + 1) rest
    ≡ front ++ listed_from place (b ∷ rest) = append_assoc front _ _ in
    ap (λ xs. xs ++ listed_from (place + 1) rest) made ∙ step
    ∙ ap (λ xs. front ++ listed_from place xs) (sym there) ∙ is
