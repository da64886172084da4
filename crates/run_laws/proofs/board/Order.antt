-- Messages of scripts come before those of tests.
use Rattle.std.proofs.Common.{◌≡◌, ℕ, zero, suc, ◌<◌, List, [], ◌∷◌, ◌++◌, drop, length, get_or, Bool, true, false}
use Rattle.std.proofs.Common.{not, ◌||◌, Option, Some, None, arith, option_to_list, refl, ap, sym, subst, ◌∙◌}
use Rattle.std.specs.Prelude.{⊤}
use Rattle.std.specs.List.{list_all, list_any}
use Rattle.std.specs.Cmp.{first_so, second_so}
use Rattle.std.proofs.lemmas.List.{append-nil}
use Rattle.std.proofs.lemmas.List.Folds.{list_any-append}
use Rattle.run_events.specs.declared.message.Message.{Message}
use Rattle.run_events.specs.declared.message.Message.TheVariants.{ScriptStart, ScriptSlow, ScriptFinish}
use Rattle.run_events.specs.declared.settings.Settings.{Settings}
use Rattle.run_model.specs.declared.happening.Happening.{Happening}
use Rattle.run_model.specs.Admission.{is_done, scripts_in}
use Rattle.run_model.specs.Words.{queue, unit_of}

-- whether a message is of a script
abbrev pub is_of_script : Message → Bool
is_of_script (ScriptStart start) = true
is_of_script (ScriptSlow slow) = true
is_of_script (ScriptFinish finish) = true
is_of_script _ = false

-- no message of a script comes after one of a test
abbrev pub AreSorted : List Message → Type 0
AreSorted [] = ⊤
AreSorted (m ∷ ms) = (is_of_script m ≡ false → list_any is_of_script ms ≡ false) × AreSorted ms

-- no message of a test is among some
abbrev pub no_test : List Message → Type 0
no_test ms = list_any (λ m. not (is_of_script m)) ms ≡ false

-- each script is over
abbrev pub AreScriptsOver : Settings → List Happening → Type 0
AreScriptsOver p run = (k : ℕ) → k < scripts_in p → is_done (unit_of k run) ≡ true

-- and no message of one waits
abbrev pub AreSettled : Settings → List Happening → Type 0
AreSettled p run = (list_any is_of_script (queue run) ≡ false) × AreScriptsOver p run

-- each item of a list on which a test holds throughout passes
pub all_at : {X : Type 0} (f : X → Bool) (xs : List X) (k : ℕ) (d : X) → list_all f xs ≡ true → k < length xs
    → f (get_or xs k d) ≡ true
all_at f [] k d h l = absurd (omega arith)
all_at f (x ∷ xs) zero d h l = first_so (f x) (list_all f xs) h
all_at f (x ∷ xs) (suc k) d h l = all_at f xs k d (second_so (f x) (list_all f xs) h) (omega arith)

-- either of two
pub either_false : (a b : Bool) → (a || b) ≡ false → (a ≡ false) × (b ≡ false)
either_false true b e = cc
either_false false b e = (refl, e)

-- messages with one more, which is no script's where one of a test is among them
pub sorted-more : (ms : List Message) (m : Message) → AreSorted ms → (is_of_script m ≡ true → no_test ms)
    → AreSorted (ms ++ m ∷ [])
sorted-more [] m h late = (λ e. refl, tt)
sorted-more (x ∷ ms) m h late = (
  λ test. list_any-append is_of_script ms (m ∷ []) ∙ ap (λ b. b || (is_of_script m || false)) (h.0 test)
      ∙ by_kind (is_of_script m) refl test,
  sorted-more ms m h.1 (λ e. (either_false (not (is_of_script x)) _ (late e)).1),
)
  where
    by_kind : (b : Bool) → is_of_script m ≡ b → is_of_script x ≡ false → (b || false) ≡ false
    by_kind false e test = refl
    by_kind true e test =
        let never : true ≡ false = sym (ap not test) ∙ (either_false (not (is_of_script x)) _ (late e)).0 in cc

pub sorted-if : (ms : List Message) (o : Option Message) → AreSorted ms
    → ((m : Message) → o ≡ Some m → is_of_script m ≡ true → no_test ms) → AreSorted (ms ++ option_to_list o)
sorted-if ms None h late = subst AreSorted (sym (append-nil ms)) h
sorted-if ms (Some m) h late = sorted-more ms m h (late m refl)

-- messages but the first ones
pub sorted-drop : (n : ℕ) (ms : List Message) → AreSorted ms → AreSorted (drop n ms)
sorted-drop zero ms h = h
sorted-drop (suc n) [] h = h
sorted-drop (suc n) (m ∷ ms) h = sorted-drop n ms h.1

pub none-drop : (n : ℕ) (ms : List Message) → list_any is_of_script ms ≡ false
    → list_any is_of_script (drop n ms) ≡ false
none-drop zero ms h = h
none-drop (suc n) [] h = h
none-drop (suc n) (m ∷ ms) h = none-drop n ms (either_false (is_of_script m) _ h).1

-- where the oldest of sorted ones is of a test, none is of a script
pub none_behind : (m : Message) (ms : List Message) → AreSorted (m ∷ ms) → is_of_script m ≡ false
    → list_any is_of_script (m ∷ ms) ≡ false
none_behind m ms h test = rw test (h.0 test)

-- and the oldest isn't of a script where none is
pub oldest_not : (m : Message) (ms : List Message) → list_any is_of_script (m ∷ ms) ≡ false → is_of_script m ≡ false
oldest_not m ms h = (either_false (is_of_script m) _ h).0
