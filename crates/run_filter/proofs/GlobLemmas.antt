-- Pieces along a text, and what a star makes of the places behind it.
use Rattle.std.proofs.Common.{ℕ, ◌≡◌, ◌≢◌, sym, ◌∙◌, refl, subst, ap, ◌+◌, ◌<◌, length, arith, Bool, true, false}
use Rattle.std.proofs.Common.{◌&&◌, ◌||◌, List, [], ◌∷◌, Option, Some, None, if◌then◌else◌}
use Rattle.run_filter.specs.declared.glob.Piece.{Piece}
use Rattle.run_filter.specs.declared.glob.Piece.TheVariants.{Char, AnyChar, Star, Class}
use Rattle.run_filter.specs.Globs.{takes, fits}
use Rattle.run_filter.specs.Walks.{at_star}

-- two truth values each of which follows from the other
pub bool_same : (a b : Bool) → (a ≡ true → b ≡ true) → (b ≡ true → a ≡ true) → a ≡ b
bool_same true b f g = sym (f refl)
bool_same false true f g = g refl
bool_same false false f g = refl

pub and_right : (a b : Bool) → (a && b) ≡ true → b ≡ true
and_right true b h = h
and_right false b h = cc

pub and_left : (a b : Bool) → (a && b) ≡ true → a ≡ true
and_left true b h = refl
and_left false b h = cc

pub or_right : (a b : Bool) → b ≡ true → (a || b) ≡ true
or_right true b h = refl
or_right false b h = h

pub or_left : (a b : Bool) → a ≡ true → (a || b) ≡ true
or_left true b h = refl
or_left false b h = cc

-- the two parts of where a walk leads
abbrev pieces_in : List Piece → Option (List Piece × List ℕ) → List Piece
pieces_in d None = d
pieces_in d (Some r) = r.0

abbrev text_in : List ℕ → Option (List Piece × List ℕ) → List ℕ
text_in d None = d
text_in d (Some r) = r.1

-- one character of a piece that takes it
pub fits-taken : (p : Piece) (ps : List Piece) (c : ℕ) (cs : List ℕ) → takes p c ≡ true → fits (p ∷ ps) (c ∷ cs)
    ≡ fits ps cs
fits-taken (Char d) ps c cs h = rw h refl
fits-taken AnyChar ps c cs h = refl
fits-taken Star ps c cs h = cc
fits-taken (Class n r) ps c cs h = rw h refl

pub fits-untaken : (p : Piece) (ps : List Piece) (c : ℕ) (cs : List ℕ) → p ≢ Star → takes p c ≡ false → fits (p ∷ ps)
    (c ∷ cs) ≡ false
fits-untaken (Char d) ps c cs n h = rw h refl
fits-untaken AnyChar ps c cs n h = cc
fits-untaken Star ps c cs n h = absurd (n refl)
fits-untaken (Class m r) ps c cs n h = rw h refl

pub fits-short : (p : Piece) (ps : List Piece) → p ≢ Star → fits (p ∷ ps) [] ≡ false
fits-short (Char d) ps n = refl
fits-short AnyChar ps n = refl
fits-short Star ps n = absurd (n refl)
fits-short (Class m r) ps n = refl

pub at_star-taken : (p : Piece) (ps : List Piece) (c : ℕ) (cs : List ℕ) → takes p c ≡ true → at_star (p ∷ ps) (c ∷ cs)
    ≡ at_star ps cs
at_star-taken (Char d) ps c cs h = rw h refl
at_star-taken AnyChar ps c cs h = refl
at_star-taken Star ps c cs h = cc
at_star-taken (Class n r) ps c cs h = rw h refl

-- a text from some place of another on
data IsTail : List ℕ → List ℕ → Type 0 where
  here : {cs : List ℕ} → IsTail cs cs
  there : {c : ℕ} {us cs : List ℕ} → IsTail us cs → IsTail us (c ∷ cs)

tail_of_tail : {u : ℕ} {us cs : List ℕ} → IsTail (u ∷ us) cs → IsTail us cs
tail_of_tail here = there here
tail_of_tail (there t) = there (tail_of_tail t)

tail_cons : {u c : ℕ} {us cs : List ℕ} → IsTail (u ∷ us) (c ∷ cs) → IsTail us cs
tail_cons here = here
tail_cons (there t) = tail_of_tail t

-- what a star fits it fits with more text before it
star_on : (ps : List Piece) {us cs : List ℕ} → IsTail us cs → fits (Star ∷ ps) us ≡ true → fits (Star ∷ ps) cs ≡ true
star_on ps here h = h
star_on ps (there {c} {us} {cs} t) h = or_right (fits ps (c ∷ cs)) (fits (Star ∷ ps) cs) (star_on ps t h)

if_some : (b : Bool) (o : Option (List Piece × List ℕ)) (r : List Piece × List ℕ)
    → (if b then o else None) ≡ Some r → o ≡ Some r
if_some true o r e = e
if_some false o r e = cc

-- pieces that stand somewhere behind lead to a star that fits what is left from the first place on
front : (ps : List Piece) (cs us : List ℕ) (qs : List Piece) (ds : List ℕ) → IsTail us cs
    → at_star ps cs ≡ Some (qs, ds) → fits ps us ≡ true → fits (Star ∷ qs) ds ≡ true
front [] cs us qs ds t e h = cc
front (Star ∷ ps) cs us qs ds t e h =
    let p : ps ≡ qs = ap (pieces_in []) e in
    let q : cs ≡ ds = ap (text_in []) e in
    subst (λ (x : List ℕ). fits (Star ∷ qs) x ≡ true) q
    (subst (λ (x : List Piece). fits (Star ∷ x) cs ≡ true) p (star_on ps t h))
front (Char d ∷ ps) [] us qs ds t e h = cc
front (AnyChar ∷ ps) [] us qs ds t e h = cc
front (Class m r ∷ ps) [] us qs ds t e h = cc
front (Char d ∷ ps) (c ∷ cs) [] qs ds t e h = cc
front (AnyChar ∷ ps) (c ∷ cs) [] qs ds t e h = cc
front (Class m r ∷ ps) (c ∷ cs) [] qs ds t e h = cc
front (Char d ∷ ps) (c ∷ cs) (u ∷ us) qs ds t e h =
    front ps cs us qs ds (tail_cons t) (if_some (takes (Char d) c) (at_star ps cs) (qs, ds) e)
    (and_right (takes (Char d) u) (fits ps us) h)
front (AnyChar ∷ ps) (c ∷ cs) (u ∷ us) qs ds t e h = front ps cs us qs ds (tail_cons t) e h
front (Class m r ∷ ps) (c ∷ cs) (u ∷ us) qs ds t e h =
    front ps cs us qs ds (tail_cons t) (if_some (takes (Class m r) c) (at_star ps cs) (qs, ds) e)
    (and_right (takes (Class m r) u) (fits ps us) h)

pub or_cases : (a b : Bool) (P : Type 0) → (a || b) ≡ true → (a ≡ true → P) → (b ≡ true → P) → P
or_cases true b P h f g = f refl
or_cases false b P h f g = g h

star_front : (ps : List Piece) (cs us : List ℕ) (qs : List Piece) (ds : List ℕ) → IsTail us cs
    → at_star ps cs ≡ Some (qs, ds) → fits (Star ∷ ps) us ≡ true → fits (Star ∷ qs) ds ≡ true
star_front ps cs [] qs ds t e h = front ps cs [] qs ds t e h
star_front ps cs (u ∷ us) qs ds t e h =
    or_cases (fits ps (u ∷ us)) (fits (Star ∷ ps) us) _ h
    (λ k. front ps cs (u ∷ us) qs ds t e k)
    (λ k. star_front ps cs us qs ds (tail_of_tail t) e k)

plain_front : (b : Bool) (ps : List Piece) (cs : List ℕ) (qs : List Piece) (ds : List ℕ)
    → (if b then at_star ps cs else None) ≡ Some (qs, ds)
    → (at_star ps cs ≡ Some (qs, ds) → fits ps cs ≡ fits (Star ∷ qs) ds)
    → (b && fits ps cs) ≡ fits (Star ∷ qs) ds
plain_front true ps cs qs ds e f = f e
plain_front false ps cs qs ds e f = cc

-- pieces that lead to a star fit where the star fits what is left
pub fits-at_star : (ps : List Piece) (cs : List ℕ) (qs : List Piece) (ds : List ℕ)
    → at_star ps cs ≡ Some (qs, ds) → fits ps cs ≡ fits (Star ∷ qs) ds
fits-at_star [] cs qs ds e = cc
fits-at_star (Star ∷ ps) cs qs ds e =
    let p : ps ≡ qs = ap (pieces_in []) e in
    let q : cs ≡ ds = ap (text_in []) e in
    subst (λ (x : List ℕ). fits (Star ∷ ps) cs ≡ fits (Star ∷ qs) x) q
    (subst (λ (x : List Piece). fits (Star ∷ ps) cs ≡ fits (Star ∷ x) cs) p refl)
fits-at_star (Char d ∷ ps) [] qs ds e = cc
fits-at_star (AnyChar ∷ ps) [] qs ds e = cc
fits-at_star (Class m r ∷ ps) [] qs ds e = cc
fits-at_star (Char d ∷ ps) (c ∷ cs) qs ds e =
    plain_front (takes (Char d) c) ps cs qs ds e (fits-at_star ps cs qs ds)
fits-at_star (AnyChar ∷ ps) (c ∷ cs) qs ds e = fits-at_star ps cs qs ds e
fits-at_star (Class m r ∷ ps) (c ∷ cs) qs ds e =
    plain_front (takes (Class m r) c) ps cs qs ds e (fits-at_star ps cs qs ds)

fits_star_one : (ps : List Piece) (cs : List ℕ) → fits ps cs ≡ true → fits (Star ∷ ps) cs ≡ true
fits_star_one ps [] h = h
fits_star_one ps (c ∷ cs) h = or_left (fits ps (c ∷ cs)) (fits (Star ∷ ps) cs) h

-- from a star on the first place where the pieces before the next star stand serves
pub star-at_star : (ps : List Piece) (cs : List ℕ) (qs : List Piece) (ds : List ℕ)
    → at_star ps cs ≡ Some (qs, ds) → fits (Star ∷ ps) cs ≡ fits (Star ∷ qs) ds
star-at_star ps cs qs ds e = bool_same _ _
    (λ h. star_front ps cs cs qs ds here e h)
    (λ h. fits_star_one ps cs (fits-at_star ps cs qs ds e ∙ h))

-- pieces that fit here, and pieces that don't
pub star-fits : (ps : List Piece) (cs : List ℕ) → fits ps cs ≡ true → fits (Star ∷ ps) cs ≡ true
star-fits = fits_star_one

pub star-misses : (ps : List Piece) (c : ℕ) (cs : List ℕ) → fits ps (c ∷ cs) ≡ false
    → fits (Star ∷ ps) (c ∷ cs) ≡ fits (Star ∷ ps) cs
star-misses ps c cs h = rw h refl

pub star-end : (ps : List Piece) → fits ps [] ≡ false → fits (Star ∷ ps) [] ≡ false
star-end ps h = h

-- where no piece is left
pub fits-none : (ps : List Piece) (cs : List ℕ) → length ps < 1 → cs ≡ [] → fits ps cs ≡ true
fits-none [] cs l e = rw e refl
fits-none (p ∷ ps) cs l e = absurd (omega arith)

pub fits-left : (ps : List Piece) (cs : List ℕ) (c : ℕ) (ds : List ℕ) → length ps < 1 → cs ≡ c ∷ ds → fits ps cs ≡ false
fits-left [] cs c ds l e = rw e refl
fits-left (p ∷ ps) cs c ds l e = absurd (omega arith)

-- a walk to a star leaves less
pub at_star-smaller : (ps : List Piece) (cs : List ℕ) (qs : List Piece) (ds : List ℕ)
    → at_star ps cs ≡ Some (qs, ds) → length qs + length ds < length ps + length cs
at_star-smaller [] cs qs ds e = cc
at_star-smaller (Star ∷ ps) cs qs ds e =
    let p : ps ≡ qs = ap (pieces_in []) e in
    let q : cs ≡ ds = ap (text_in []) e in
    omega (arith, ap length p, ap length q)
at_star-smaller (Char d ∷ ps) [] qs ds e = cc
at_star-smaller (AnyChar ∷ ps) [] qs ds e = cc
at_star-smaller (Class m r ∷ ps) [] qs ds e = cc
at_star-smaller (Char d ∷ ps) (c ∷ cs) qs ds e =
    let h = at_star-smaller ps cs qs ds (if_some (takes (Char d) c) (at_star ps cs) (qs, ds) e) in omega arith
at_star-smaller (AnyChar ∷ ps) (c ∷ cs) qs ds e =
    let h = at_star-smaller ps cs qs ds e in omega arith
at_star-smaller (Class m r ∷ ps) (c ∷ cs) qs ds e =
    let h = at_star-smaller ps cs qs ds (if_some (takes (Class m r) c) (at_star ps cs) (qs, ds) e) in omega arith
