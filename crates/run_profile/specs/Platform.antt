-- Whether a text names the platform that tests run on.
use Rattle.std.specs.Prelude.{ℕ, zero, suc, ◌+◌, ◌==◌, ◌||◌, ◌&&◌, not, Bool, true, false, List, ◌∷◌, ◌++◌}
use Rattle.std.specs.Prelude.{length, codes}
use Rattle.std.specs.Prelude.{Option, Some, None, Result, Ok, Err, if◌then◌else◌, nat_eq}
use Rattle.std.specs.Prelude.{slice_range}
use Rattle.std.specs.List.{list_any, starts_with}
use Rattle.run_profile.specs.declared.scan.ByteKind.TheVariants.{Space, Name, Quoted}
use Rattle.run_profile.specs.declared.cfg.Cfg.{Cfg}
use Rattle.run_profile.specs.declared.cfg.PlatformFault.{PlatformFault}
use Rattle.run_profile.specs.declared.cfg.PlatformFault.TheVariants.{NotExpected, TooDeep}
use Rattle.run_profile.specs.Reads.{◌>>=◌, or_refuse}
use Rattle.run_profile.specs.Scan.{after_bytes, is_at}
use lib.Pointwise.{pointwise}

-- whether a name is a fact, and whether the fact that it has a quoted value is one
abbrev pub is_fact : List (List ℕ) → List ℕ → Bool
is_fact facts name = list_any (λ fact. pointwise nat_eq fact name) facts

abbrev pub has_value : List (List ℕ) → List ℕ → List ℕ → Bool
has_value facts name quoted = list_any (λ fact. pointwise nat_eq fact (name ++ 61 ∷ quoted)) facts

-- A reading gives a truth and the place after what it read and the spaces after that.
-- A truth, where a parenthesis closes at a place
abbrev pub closed : List ℕ → Bool → ℕ → Result (Bool × ℕ) PlatformFault
closed text truth at = if is_at text at 41 then Ok (truth, after_bytes Space text (at + 1)) else Err (NotExpected at)

-- whether a name has the value that stands in double quotes at a place
abbrev pub quoted_value : List (List ℕ) → List ℕ → List ℕ → ℕ → Result (Bool × ℕ) PlatformFault
quoted_value facts text name at =
    let end = after_bytes Quoted text (at + 1) in
    if not (is_at text at 34) then Err (NotExpected at)
    else if not (is_at text end 34) then Err (NotExpected end)
    else Ok (has_value facts name (slice_range text at (end + 1)), after_bytes Space text (end + 1))

-- the words that join predicates: whether all are to hold
abbrev pub joins : List ℕ → Option Bool
joins name =
    if pointwise nat_eq name (codes "all") then Some true
    else if pointwise nat_eq name (codes "any") then Some false
    else None

-- of all, each holds, and of any, one does
abbrev pub all_or_any : Bool → Bool → Bool → Bool
all_or_any all first others = if all then first && others else first || others

abbrev mutual
  -- a predicate: a name, a name with a value, or `not`, `all` or `any` of predicates in parentheses; with no more than
  -- so many items and parentheses before it ends
  pub predicate : ℕ → List (List ℕ) → List ℕ → ℕ → Result (Bool × ℕ) PlatformFault
  predicate zero facts text at = Err (TooDeep at)
  predicate (suc room) facts text at =
      let start = after_bytes Space text at in
      let end = after_bytes Name text start in
      let next = after_bytes Space text end in
      let name = slice_range text start end in
      if end == start then Err (NotExpected start)
      else if is_at text next 61 then quoted_value facts text name (after_bytes Space text (next + 1))
      else if not (is_at text next 40) then Ok (is_fact facts name, next)
      else if pointwise nat_eq name (codes "not")
      then predicate room facts text (next + 1) >>= (λ inner. closed text (not inner.0) inner.1)
      else or_refuse (joins name) (NotExpected start) >>= (λ all. items room all facts text (next + 1))

  -- predicates with commas between, up to a parenthesis that closes: whether all hold, or any does
  pub items : ℕ → Bool → List (List ℕ) → List ℕ → ℕ → Result (Bool × ℕ) PlatformFault
  items zero all facts text at = Err (TooDeep at)
  items (suc room) all facts text at =
      let place = after_bytes Space text at in
      if is_at text place 41 then Ok (all, after_bytes Space text (place + 1))
      else predicate room facts text place >>= (λ first.
      if is_at text first.1 44
      then items room all facts text (first.1 + 1) >>= (λ others. Ok (all_or_any all first.0 others.0, others.1))
      else closed text first.0 first.1)

-- the predicate that stands between `cfg(` and the parenthesis at the text's end
abbrev pub whole_predicate : ℕ → List (List ℕ) → List ℕ → Result Bool PlatformFault
whole_predicate room facts text =
    predicate room facts text 4 >>= (λ read.
    if is_at text read.1 41 && (read.1 + 1 == length text) then Ok read.0 else Err (NotExpected read.1))

-- whether a text names the platform: it is its triple, or a predicate in `cfg(..)` that holds of it
unfoldable pub platform_names : ℕ → Cfg → List ℕ → Result Bool PlatformFault
platform_names room cfg text =
    if starts_with nat_eq text (codes "cfg(") then whole_predicate room cfg.facts text
    else Ok (pointwise nat_eq text cfg.triple)
