-- A key that is put among keys in byte order.
use Rattle.std.proofs.Common.{◌≡◌, refl, ap, sym, subst, ◌∙◌, arith, ℕ, zero, suc, ◌+◌, ◌<◌, ◌≤◌}
use Rattle.std.proofs.Common.{List, [], ◌∷◌, ◌++◌, length, get_or, Option, Bool, true, false, ◌&&◌}
use Rattle.std.specs.Prelude.{slice_set, insert, ⊤}
use Rattle.std.proofs.lemmas.Bool.{and_parts, and_from}
use Rattle.std.specs.Borrow.{Bor}
use Rattle.std.specs.Ordering.{nat_cmp, match_ordering, ordering_reverse, is_gt}
use Rattle.std.specs.Cmp.Lexicographic.{slice_cmp, nat_list_cmp_total}
use Rattle.std.specs.declared.cmp.Ordering.{Ordering}
use Rattle.std.specs.declared.cmp.Ordering.TheVariants.{Less, Equal, Greater}
use Rattle.serde_json.specs.Data.{Data, member, put}
use Rattle.run_output.specs.Printer.{or_null}
use Rattle.run_output.specs.Rows.{members_from, row_place, has_key, starts_above, ascend}

-- ---- keys that ascend

abbrev pub StartsAbove : {F : Type 0} → List ℕ → List (Bor (List ℕ) × F) → Type 0
StartsAbove key [] = ⊤
StartsAbove key (row ∷ rows) = slice_cmp nat_cmp row.0.now key ≡ Greater

abbrev pub Ascend : {F : Type 0} → List (Bor (List ℕ) × F) → Type 0
Ascend [] = ⊤
Ascend (row ∷ rows) = StartsAbove row.0.now rows × Ascend rows

greater_if : (o : Ordering) → is_gt o ≡ true → o ≡ Greater
greater_if Less e = absurd (cc)
greater_if Equal e = absurd (cc)
greater_if Greater e = refl

starts_above_if : {F : Type 0} (key : List ℕ) (rows : List (Bor (List ℕ) × F)) → starts_above key rows ≡ true
    → StartsAbove key rows
starts_above_if key [] e = tt
starts_above_if key (row ∷ rows) e = greater_if _ e

pub ascend_if : {F : Type 0} (rows : List (Bor (List ℕ) × F)) → ascend rows ≡ true → Ascend rows
ascend_if [] e = tt
ascend_if (row ∷ rows) e =
    (starts_above_if row.0.now rows (and_parts _ _ e).0, ascend_if rows (and_parts _ _ e).1)

starts_above_from : {F : Type 0} (key : List ℕ) (rows : List (Bor (List ℕ) × F)) → StartsAbove key rows
    → starts_above key rows ≡ true
starts_above_from key [] e = refl
starts_above_from key (row ∷ rows) e = ap is_gt e

pub ascend_from : {F : Type 0} (rows : List (Bor (List ℕ) × F)) → Ascend rows → ascend rows ≡ true
ascend_from [] e = refl
ascend_from (row ∷ rows) e =
    and_from _ _ (starts_above_from row.0.now rows e.0) (ascend_from rows e.1)

-- below is turned to above, and back
turned : (k l : List ℕ) → slice_cmp nat_cmp k l ≡ Less → slice_cmp nat_cmp l k ≡ Greater
turned k l e = nat_list_cmp_total.antisymm l k ∙ ap ordering_reverse e

turned_back : (k l : List ℕ) → slice_cmp nat_cmp k l ≡ Greater → slice_cmp nat_cmp l k ≡ Less
turned_back k l e = nat_list_cmp_total.antisymm l k ∙ ap ordering_reverse e

-- above what is above
pub above_both : (a b c : List ℕ) → slice_cmp nat_cmp a b ≡ Greater → slice_cmp nat_cmp b c ≡ Greater
    → slice_cmp nat_cmp a c ≡ Greater
above_both a b c e f = turned c a (nat_list_cmp_total.trans c b a (turned_back b c f) (turned_back a b e))

-- what stands above the last stands above each
above_each : {F : Type 0} (key : List ℕ) (row : Bor (List ℕ) × F) (rows : List (Bor (List ℕ) × F))
    (d : Bor (List ℕ) × F) → Ascend (row ∷ rows)
    → slice_cmp nat_cmp key (get_or (row ∷ rows) (length rows) d).0.now ≡ Greater
    → (slice_cmp nat_cmp key row.0.now ≡ Greater) × (row_place key rows ≡ length rows)
above_each key row [] d up e = (e, refl)
above_each key row (next ∷ rows) d up e =
    let rest = above_each key next rows d up.1 e in (
      above_both key next.0.now row.0.now rest.0 up.0,
      ap (λ o. match_ordering o 0 0 (suc (row_place key rows))) rest.0 ∙ ap (λ n. suc n) rest.1,
    )

pub above_last : {F : Type 0} (key : List ℕ) (rows : List (Bor (List ℕ) × F)) (n : ℕ) (d : Bor (List ℕ) × F)
    → ascend rows ≡ true → n + 1 ≡ length rows → slice_cmp nat_cmp key (get_or rows n d).0.now ≡ Greater
    → row_place key rows ≡ length rows
above_last key [] n d up e above = absurd (omega (arith, e))
above_last key (row ∷ rows) n d up e above =
    let here : n ≡ length rows = omega (arith, e) in
    let each = above_each key row rows d (ascend_if (row ∷ rows) up)
    (subst (λ n. slice_cmp nat_cmp key (get_or (row ∷ rows) n d).0.now ≡ Greater) here above) in
    ap (λ o. match_ordering o 0 0 (suc (row_place key rows))) each.0 ∙ ap (λ n. suc n) each.1

-- ---- a new key

starts_above_inserted : {F : Type 0} (n : ℕ) (low : List ℕ) (row : Bor (List ℕ) × F) (rows : List (Bor (List ℕ) × F))
    → StartsAbove low rows → slice_cmp nat_cmp row.0.now low ≡ Greater → StartsAbove low (insert rows n row)
starts_above_inserted zero low row rows up above = above
starts_above_inserted (suc n) low row [] up above = above
starts_above_inserted (suc n) low row (next ∷ rows) up above = up

-- it is put where it belongs, by how it compares to the first
ascend_by : {F : Type 0} (o : Ordering) (row next : Bor (List ℕ) × F) (rows : List (Bor (List ℕ) × F)) (n : ℕ)
    (b : Bool) → slice_cmp nat_cmp row.0.now next.0.now ≡ o → match_ordering o false true b ≡ false
    → Ascend (next ∷ rows)
    → (b ≡ false → Ascend (insert rows n row))
    → Ascend (insert (next ∷ rows) (match_ordering o 0 0 (suc n)) row)
ascend_by Less row next rows n b e new up rest = (turned row.0.now next.0.now e, up)
ascend_by Equal row next rows n b e new up rest = absurd (cc)
ascend_by Greater row next rows n b e new up rest =
    (starts_above_inserted n next.0.now row rows up.0 e, rest new)

ascend_with : {F : Type 0} (row : Bor (List ℕ) × F) (rows : List (Bor (List ℕ) × F))
    → has_key row.0.now rows ≡ false → Ascend rows → Ascend (insert rows (row_place row.0.now rows) row)
ascend_with row [] new up = (tt, tt)
ascend_with row (next ∷ rows) new up =
    ascend_by (slice_cmp nat_cmp row.0.now next.0.now) row next rows (row_place row.0.now rows) (has_key row.0.now rows)
    refl new up (λ new. ascend_with row rows new up.1)

pub ascend_inserted : {F : Type 0} (row : Bor (List ℕ) × F) (rows : List (Bor (List ℕ) × F))
    → has_key row.0.now rows ≡ false → ascend rows ≡ true → ascend (insert rows (row_place row.0.now rows) row) ≡ true
ascend_inserted row rows new up = ascend_from _ (ascend_with row rows new (ascend_if rows up))

members_by : {F : Type 0} (printed : F → Option Data) (o : Ordering) (row next : Bor (List ℕ) × F)
    (rows : List (Bor (List ℕ) × F)) (n : ℕ) (b : Bool) → match_ordering o false true b ≡ false
    → (b ≡ false → members_from printed (insert rows n row)
    ≡ put row.0.now (or_null (printed row.1)) (members_from printed rows))
    → members_from printed (insert (next ∷ rows) (match_ordering o 0 0 (suc n)) row)
    ≡ match_ordering o (member row.0.now (or_null (printed row.1)) (members_from printed (next ∷ rows)))
    (member next.0.now (or_null (printed row.1)) (members_from printed rows))
    (member next.0.now (or_null (printed next.1))
    (put row.0.now (or_null (printed row.1)) (members_from printed rows)))
members_by printed Less row next rows n b new rest = refl
members_by printed Equal row next rows n b new rest = absurd (cc)
members_by printed Greater row next rows n b new rest =
    ap (member next.0.now (or_null (printed next.1))) (rest new)

pub members_inserted : {F : Type 0} (printed : F → Option Data) (row : Bor (List ℕ) × F)
    (rows : List (Bor (List ℕ) × F)) → has_key row.0.now rows ≡ false
    → members_from printed (insert rows (row_place row.0.now rows) row)
    ≡ put row.0.now (or_null (printed row.1)) (members_from printed rows)
members_inserted printed row [] new = refl
members_inserted printed row (next ∷ rows) new =
    members_by printed (slice_cmp nat_cmp row.0.now next.0.now) row next rows (row_place row.0.now rows)
    (has_key row.0.now rows) new (members_inserted printed row rows)

-- ---- a key that stands above all

rank_all_by : (o : Ordering) (n m : ℕ) → match_ordering o 0 0 (suc n) ≡ suc m → (o ≡ Greater) × (n ≡ m)
rank_all_by Less n m e = absurd (cc)
rank_all_by Equal n m e = absurd (cc)
rank_all_by Greater n m e = (refl, omega (arith, e))

-- it is new
pub new_last : {F : Type 0} (key : List ℕ) (rows : List (Bor (List ℕ) × F)) → row_place key rows ≡ length rows
    → has_key key rows ≡ false
new_last key [] e = refl
new_last key (row ∷ rows) e =
    let at = rank_all_by (slice_cmp nat_cmp key row.0.now) (row_place key rows) (length rows) e in
    ap (λ o. match_ordering o false true (has_key key rows)) at.0 ∙ new_last key rows at.1

-- and goes to the end
pub inserted_last : {X : Type 0} (x : X) (xs : List X) (n : ℕ) → n ≡ length xs → insert xs n x ≡ xs ++ x ∷ []
inserted_last x [] zero e = refl
inserted_last x [] (suc n) e = absurd (omega (arith, e))
inserted_last x (y ∷ xs) zero e = absurd (omega (arith, e))
inserted_last x (y ∷ xs) (suc n) e = ap (λ l. y ∷ l) (inserted_last x xs n (omega (arith, e)))

-- ---- a key that is there

rank_by : (o : Ordering) (n m : ℕ) → n ≤ m → match_ordering o 0 0 (suc n) ≤ suc m
rank_by Less n m e = omega arith
rank_by Equal n m e = omega arith
rank_by Greater n m e = omega (arith, e)

pub rank_bound : {F : Type 0} (key : List ℕ) (rows : List (Bor (List ℕ) × F)) → row_place key rows ≤ length rows
rank_bound key [] = omega arith
rank_bound key (row ∷ rows) =
    rank_by (slice_cmp nat_cmp key row.0.now) (row_place key rows) (length rows) (rank_bound key rows)

found_by : (o : Ordering) (b : Bool) (n m : ℕ) → match_ordering o false true b ≡ true → (b ≡ true → n < m)
    → match_ordering o 0 0 (suc n) < suc m
found_by Less b n m e f = absurd (cc)
found_by Equal b n m e f = omega arith
found_by Greater b n m e f = omega (arith, f e)

pub found_bound : {F : Type 0} (key : List ℕ) (rows : List (Bor (List ℕ) × F)) → has_key key rows ≡ true
    → row_place key rows < length rows
found_bound key [] e = absurd (cc)
found_bound key (row ∷ rows) e =
    found_by (slice_cmp nat_cmp key row.0.now) (has_key key rows) (row_place key rows) (length rows)
    e (found_bound key rows)

-- what stands there is replaced
starts_above_there : {F : Type 0} (low : List ℕ) (rows : List (Bor (List ℕ) × F)) (n : ℕ) (d : Bor (List ℕ) × F)
    (field : F) → starts_above low (slice_set rows n ((get_or rows n d).0, field)) ≡ starts_above low rows
starts_above_there low [] n d field = refl
starts_above_there low (row ∷ rows) zero d field = refl
starts_above_there low (row ∷ rows) (suc n) d field = refl

pub ascend_there : {F : Type 0} (rows : List (Bor (List ℕ) × F)) (n : ℕ) (d : Bor (List ℕ) × F) (field : F)
    → ascend (slice_set rows n ((get_or rows n d).0, field)) ≡ ascend rows
ascend_there [] n d field = refl
ascend_there (row ∷ rows) zero d field = refl
ascend_there (row ∷ rows) (suc n) d field =
    ap (λ b. b && ascend (slice_set rows n ((get_or rows n d).0, field))) (starts_above_there row.0.now rows n d field)
    ∙ ap (λ b. starts_above row.0.now rows && b) (ascend_there rows n d field)

there_by : {F : Type 0} (printed : F → Option Data) (o : Ordering) (key : List ℕ) (field : F) (row : Bor (List ℕ) × F)
    (rows : List (Bor (List ℕ) × F)) (n : ℕ) (d : Bor (List ℕ) × F) (b : Bool) → match_ordering o false true b ≡ true
    → (b ≡ true → members_from printed (slice_set rows n ((get_or rows n d).0, field))
    ≡ put key (or_null (printed field)) (members_from printed rows))
    → members_from printed (slice_set (row ∷ rows) (match_ordering o 0 0 (suc n))
    ((get_or (row ∷ rows) (match_ordering o 0 0 (suc n)) d).0, field))
    ≡ match_ordering o (member key (or_null (printed field)) (members_from printed (row ∷ rows)))
    (member row.0.now (or_null (printed field)) (members_from printed rows))
    (member row.0.now (or_null (printed row.1)) (put key (or_null (printed field)) (members_from printed rows)))
there_by printed Less key field row rows n d b e rest = absurd (cc)
there_by printed Equal key field row rows n d b e rest = refl
there_by printed Greater key field row rows n d b e rest = ap (member row.0.now (or_null (printed row.1))) (rest e)

pub members_there : {F : Type 0} (printed : F → Option Data) (key : List ℕ) (field : F)
    (rows : List (Bor (List ℕ) × F)) (d : Bor (List ℕ) × F) → has_key key rows ≡ true
    → members_from printed (slice_set rows (row_place key rows) ((get_or rows (row_place key rows) d).0, field))
    ≡ put key (or_null (printed field)) (members_from printed rows)
members_there printed key field [] d e = absurd (cc)
members_there printed key field (row ∷ rows) d e =
    there_by printed (slice_cmp nat_cmp key row.0.now) key field row rows (row_place key rows) d (has_key key rows) e
    (members_there printed key field rows d)

-- with it, the keys ascend
pub ascend_last : {F : Type 0} (row : Bor (List ℕ) × F) (rows new : List (Bor (List ℕ) × F))
    → row_place row.0.now rows ≡ length rows → ascend rows ≡ true → new ≡ rows ++ row ∷ [] → ascend new ≡ true
ascend_last row rows new last up more =
    ap ascend (more ∙ sym (inserted_last row rows (row_place row.0.now rows) last))
    ∙ ascend_inserted row rows (new_last row.0.now rows last) up

-- and the members are as if it were put
pub members_last : {F : Type 0} (printed : F → Option Data) (row : Bor (List ℕ) × F)
    (rows new : List (Bor (List ℕ) × F)) → row_place row.0.now rows ≡ length rows → new ≡ rows ++ row ∷ []
    → members_from printed new ≡ put row.0.now (or_null (printed row.1)) (members_from printed rows)
members_last printed row rows new last more =
    ap (members_from printed) (more ∙ sym (inserted_last row rows (row_place row.0.now rows) last))
    ∙ members_inserted printed row rows (new_last row.0.now rows last)
