-- The lines of an environment text that were read so far.
use Rattle.std.proofs.Common.{◌≡◌, Bool, true, cond, ℕ, ◌+◌, ◌≤◌, ◌<◌, ◌==◌, List, [], ◌∷◌, ◌++◌, length, map, reverse}
use Rattle.std.proofs.Common.{Some, Ok, Err, refl, ap, sym, ◌∙◌, arith, append_assoc, append-nil, length-append}
use Rattle.std.proofs.lemmas.Bool.Decides.{nat_tests}
use Rattle.std.proofs.lemmas.List.{map-append, reverse-append}
use Rattle.std.proofs.lemmas.Map.Text.{is_eq-slice_cmp, btree_map_updates_text}
use Rattle.std.specs.BTreeMap.{BTreeMap, IsOrdered, UpdatesBy, is_at}
use Rattle.std.specs.Cmp.Lexicographic.{slice_cmp, nat_list_eq_equiv}
use Rattle.std.specs.Map.{lookup}
use Rattle.std.specs.Ordering.{nat_cmp}
use Rattle.std.specs.Str.{bytes_eq}
use Rattle.std.specs.Str.Lines.{lines}
use Rattle.std.specs.String.{string_bytes, string_cmp}
use Rattle.std.specs.declared.alloc.Global.{Global}
use Rattle.std.specs.declared.string.String.{String}
use Rattle.run_commands.specs.declared.env_line.BrokenRule.{BrokenRule}
use Rattle.run_commands.specs.declared.env_line.BrokenRule.TheVariants as rule
use Rattle.run_commands.specs.Pair.{Pair}
use Rattle.run_commands.specs.EnvLine.{pair_of}
use Rattle.run_commands.specs.EnvGiven.{set_pair, set_by, env_from}
use Rattle.run_commands.specs.EnvMap.{value_of, value_in, pairs_in, SetsVariable}
use Rattle.run_commands.specs.EnvText.{Set, IsEnvOf, IsFirstBreach, IsRefusedEnv, HasNoBadLine, refusal_for}
use Rattle.run_commands.proofs.EnvMapLemmas.{by_name}

-- one line more sets one pair more
pub set-push : (read : List (List ℕ)) (line : List ℕ) (given : List Pair) (pair : Pair)
    → Set read given → pair_of line ≡ Ok pair → Set (read ++ line ∷ []) (given ++ pair ∷ [])
set-push read line given pair so_far sets =
    map-append pair_of read (line ∷ [])
    ∙ ap (λ outcomes. outcomes ++ pair_of line ∷ []) so_far
    ∙ ap (λ outcome. map Ok given ++ outcome ∷ []) sets
    ∙ sym (map-append Ok given (pair ∷ []))

-- a key that is set has the value, and each other name what it had
pub sets_variable : (key : String Global) (old new : BTreeMap (String Global) (List ℕ)) (name value stored : List ℕ)
    → string_bytes key ≡ name → stored ≡ value
    → UpdatesBy string_cmp (λ k. slice_cmp nat_cmp (string_bytes key) (string_bytes k)) old new (Some stored)
    → IsOrdered string_cmp new → SetsVariable old new name value
sets_variable key old new name value stored is_name is_value updates ordered = record {
  ordered = ordered;
  values = λ other.
      btree_map_updates_text (string_bytes key) old new (Some stored) updates other
      ∙ ap (λ test. cond test (Some stored) (value_in other old)) (nat_list_eq_equiv.symm (string_bytes key) other)
      ∙ ap (λ bytes. cond (bytes_eq other bytes) (Some stored) (value_in other old)) is_name
      ∙ ap (λ set. cond (bytes_eq other name) (Some set) (value_in other old)) is_value;
}

-- a map has the value that its entries have as pairs
value-in : (entries : List (String Global × List ℕ)) (name : List ℕ)
    → value_of name (pairs_in entries) ≡ lookup (is_at (λ k. slice_cmp nat_cmp name (string_bytes k))) entries
value-in [] name = refl
value-in (entry ∷ entries) name =
    rw (is_eq-slice_cmp name (string_bytes entry.0))
    (ap (cond (bytes_eq name (string_bytes entry.0)) (Some entry.1)) (value-in entries name))

-- the lines before the rest set pairs, the map has the latest of them, the next line has this number, and what is given
-- of all lines is what comes after the map's pairs
pub record ReadSoFar (bytes rest : List ℕ) (entries : BTreeMap (String Global) (List ℕ)) (number : ℕ) : Type 0 where
  pub read : List (List ℕ)
  pub split : lines bytes ≡ read ++ lines rest
  pub given : List Pair
  pub sets : Set read given
  pub ordered : IsOrdered string_cmp entries
  pub latest : (name : List ℕ) → value_in name entries ≡ value_of name (reverse given)
  pub counted : number ≡ length read + 1
  pub room : number + length rest ≤ length bytes + 1
  pub going : env_from 1 [] (lines bytes) ≡ env_from number (pairs_in entries.entries) (lines rest)

-- nothing is read at the start
pub read_nothing : (bytes : List ℕ) (entries : BTreeMap (String Global) (List ℕ)) → entries.entries ≡ []
    → IsOrdered string_cmp entries
    → ReadSoFar bytes bytes entries 1
read_nothing bytes entries empty ordered = record {
  read = [];
  split = refl;
  given = [];
  sets = refl;
  ordered = ordered;
  latest = λ name. ap (lookup (is_at (λ k. slice_cmp nat_cmp name (string_bytes k)))) empty;
  counted = refl;
  room = omega arith;
  going = ap (λ es. env_from 1 (pairs_in es) (lines bytes)) (sym empty);
}

-- one line more is read
pub read_more : (bytes rest after line name value : List ℕ) (old new : BTreeMap (String Global) (List ℕ)) (number : ℕ)
    → ReadSoFar bytes rest old number → lines rest ≡ line ∷ lines after → length after < length rest
    → pair_of line ≡ Ok (name, value) → SetsVariable old new name value
    → pairs_in new.entries ≡ set_pair (pairs_in old.entries) (name, value) → ReadSoFar bytes after new (number + 1)
read_more bytes rest after line name value old new number so_far first shorter says change set = record {
  read = so_far.read ++ line ∷ [];
  split = so_far.split ∙ ap (λ lines'. so_far.read ++ lines') first
      ∙ sym (append_assoc so_far.read (line ∷ []) (lines after));
  given = so_far.given ++ (name, value) ∷ [];
  sets = set-push so_far.read line so_far.given (name, value) so_far.sets says;
  ordered = change.ordered;
  latest = λ other. change.values other
      ∙ ap (cond (bytes_eq other name) (Some value)) (so_far.latest other)
      ∙ ap (value_of other) (sym (reverse-append so_far.given ((name, value) ∷ [])));
  counted = omega (arith, so_far.counted, length-append so_far.read (line ∷ []));
  room = omega (arith, so_far.room);
  going = so_far.going ∙ ap (env_from number (pairs_in old.entries)) first
      ∙ ap (λ says'. set_by number (pairs_in old.entries) says' (λ more. env_from (number + 1) more (lines after))) says
      ∙ ap (λ pairs. env_from (number + 1) pairs (lines after)) (sym set);
}

-- a list that is found empty
pub nothing_left : (bytes : List ℕ) (test : Bool) → test ≡ (length bytes == 0) → test ≡ true → bytes ≡ []
nothing_left [] test is found = refl
nothing_left (byte ∷ bytes) test is found = absurd (grind (arith, nat_tests))

-- with no byte left the map is that of all lines
pub read_all_lines : (bytes rest : List ℕ) (entries : BTreeMap (String Global) (List ℕ)) (number : ℕ)
    → ReadSoFar bytes rest entries number → rest ≡ [] → IsEnvOf bytes (pairs_in entries.entries)
read_all_lines bytes rest entries number so_far done = record {
  given = so_far.given;
  lines_set = ap (map pair_of) (so_far.split ∙ ap (λ left. so_far.read ++ lines left) done ∙ append-nil so_far.read)
      ∙ so_far.sets;
  latest = record {
    by_name = by_name entries.entries so_far.ordered;
    latest = λ name. value-in entries.entries name ∙ so_far.latest name;
  };
}

-- the next line is the first bad one where it breaks a rule
pub read_bad : (bytes rest after line : List ℕ) (entries : BTreeMap (String Global) (List ℕ)) (number : ℕ)
    (broken : BrokenRule)
    → ReadSoFar bytes rest entries number → lines rest ≡ line ∷ lines after → pair_of line ≡ Err broken
    → IsFirstBreach (lines bytes) broken number
read_bad bytes rest after line entries number broken so_far first breaks = record {
  before = so_far.read;
  bad = line;
  after = lines after;
  split = so_far.split ∙ ap (λ lines'. so_far.read ++ lines') first;
  given = so_far.given;
  good = so_far.sets;
  breaks = breaks;
  counted = so_far.counted;
}

-- the error for the first bad line refuses the text
pub refused_for : (lines' : List (List ℕ)) (broken : BrokenRule) (number : ℕ)
    → IsFirstBreach lines' broken number → IsRefusedEnv lines' (refusal_for broken number)
refused_for lines' rule.Utf8 number bad = bad
refused_for lines' rule.EqualsSign number bad = bad
refused_for lines' rule.Key number bad = bad

-- what says its pairs is not refused
no_such_line : (before : List (List ℕ)) (bad : List ℕ) (after : List (List ℕ)) (given : List Pair) (broken : BrokenRule)
    → Set (before ++ bad ∷ after) given → pair_of bad ≡ Err broken → ⊥
no_such_line [] bad after [] broken sets breaks = cc
no_such_line [] bad after (pair ∷ given) broken sets breaks = cc
no_such_line (line ∷ before) bad after [] broken sets breaks = cc
no_such_line (line ∷ before) bad after (pair ∷ given) broken sets breaks =
    let rest : Set (before ++ bad ∷ after) given = cc in no_such_line before bad after given broken rest breaks

-- a text whose lines set pairs has no bad line
pub has_no_bad_line : HasNoBadLine
has_no_bad_line lines' given broken number sets bad =
    no_such_line bad.before bad.bad bad.after given broken (rw bad.split at sets) bad.breaks
