-- Lists that are read item by item, and the profiles that inherit from each other.
use Rattle.std.proofs.Common.{ℕ, zero, suc, ◌≡◌, ◌<◌, ◌-◌, List, [], ◌∷◌, ◌++◌, true, false, Option}
use Rattle.std.proofs.Common.{Ok, Err, refl, ap, sym, append_assoc, arith, if◌then◌else◌}
use Rattle.toml.specs.Data.{Data}
use Rattle.run_profile.specs.Reads.{◌>>=◌}
use Rattle.run_profile.specs.Fields.{ProfileRead, before}
use Rattle.run_profile.specs.Levels.{base_of, chain, is_default}

-- one item more in front of what is read
pub before_push : {A : Type 0} (front : List A) (x : A) (read : ProfileRead (List A))
    → before (front ++ x ∷ []) read ≡ before front (read >>= (λ rest. Ok (x ∷ rest)))
before_push front x (Ok rest) = ap Ok (append_assoc front (x ∷ []) rest)
before_push front x (Err e) = refl

abbrev next : ℕ → Option Data → List ℕ → ProfileRead (List (List ℕ))
next room profiles name =
    if is_default name then Ok (name ∷ [])
    else (base_of profiles name >>= λ base. chain room profiles base >>= λ names. Ok (name ∷ names))

chain_next : (room : ℕ) (profiles : Option Data) (name : List ℕ) → 0 < room
    → chain room profiles name ≡ next (room - 1) profiles name
chain_next zero profiles name some = absurd (omega arith)
chain_next (suc room) profiles name some =
    let less : suc room - 1 ≡ room = omega arith in
    rw less

pub chain_ends : (front : List (List ℕ)) (room : ℕ) (profiles : Option Data) (name : List ℕ) → 0 < room
    → is_default name ≡ true → before front (chain room profiles name) ≡ Ok (front ++ name ∷ [])
chain_ends front room profiles name some e = rw (chain_next room profiles name some, e)

else_step : (front : List (List ℕ)) (name : List ℕ) (others : List ℕ → ProfileRead (List (List ℕ)))
    (read : ProfileRead (List ℕ))
    → before front (read >>= λ base. others base >>= λ names. Ok (name ∷ names))
    ≡ (read >>= λ base. before (front ++ name ∷ []) (others base))
else_step front name others (Ok base) = sym (before_push front name (others base))
else_step front name others (Err e) = refl

pub chain_else : (front : List (List ℕ)) (room : ℕ) (profiles : Option Data) (name : List ℕ) → 0 < room
    → is_default name ≡ false
    → before front (chain room profiles name)
    ≡ (base_of profiles name >>= λ base. before (front ++ name ∷ []) (chain (room - 1) profiles base))
chain_else front room profiles name some other =
    rw (chain_next room profiles name some, other)
    (else_step front name (λ base. chain (room - 1) profiles base) (base_of profiles name))

pub chain_step : (front : List (List ℕ)) (room : ℕ) (profiles : Option Data) (name base : List ℕ) → 0 < room
    → is_default name ≡ false → base_of profiles name ≡ Ok base
    → before front (chain room profiles name) ≡ before (front ++ name ∷ []) (chain (room - 1) profiles base)
chain_step front room profiles name base some other is =
    rw (chain_next room profiles name some, other, is)
    (sym (before_push front name (chain (room - 1) profiles base)))
