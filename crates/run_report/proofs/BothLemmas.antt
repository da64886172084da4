-- What both have told after one event more.
use Rattle.std.proofs.Common.{List, [], ◌∷◌, ◌++◌, Option, None, Some, Err, subst, sym, append-nil}
use Rattle.std.proofs.lemmas.List.Elements.{filter_map-append}
use Rattle.std.specs.List.{filter_map}
use Rattle.run_events.specs.declared.reporter.ReportFault.{ReportFault}
use Rattle.run_events.specs.declared.reporter.ReportFault.TheVariants.{OutOfMemory, Refused}
use Rattle.run_events.specs.Tell.{Adds, answered}
use Rattle.run_report.specs.Both.{BothTold, taken_event}

-- some events more, of which the listener heard those that weren't refused
both_more : {A B E X : Type 0} (told : A → List (X × Option E) → Type 0) (heard : B → List X → Type 0)
    (a c : A) (b d : B) (answers : List (X × Option E))
    → Adds told a c answers → Adds heard b d (filter_map taken_event answers)
    → (xs : List (X × Option E)) → BothTold told heard a b xs → BothTold told heard c d (xs ++ answers)
both_more told heard a c b d answers tells hears xs both = record {
  lines_told = tells xs both.lines_told;
  report_heard = subst (heard d) (sym (filter_map-append taken_event xs answers))
      (hears (filter_map taken_event xs) both.report_heard);
}

-- a listener that hears nothing more
hears_nothing : {B X : Type 0} (heard : B → List X → Type 0) (b : B) → Adds heard b b []
hears_nothing heard b xs so_far = subst (heard b) (sym (append-nil xs)) so_far

-- an event that the lines took
pub both_took : {A B E X : Type 0} (told : A → List (X × Option E) → Type 0) (heard : B → List X → Type 0)
    (a c : A) (b d : B) (x : X) → Adds told a c ((x, None) ∷ []) → Adds heard b d (x ∷ [])
    → (xs : List (X × Option E)) → BothTold told heard a b xs → BothTold told heard c d (xs ++ (x, None) ∷ [])
both_took told heard a c b d x tells hears = both_more told heard a c b d ((x, None) ∷ []) tells hears

-- an event that the lines didn't take
pub both_not : {A B E X : Type 0} (told : A → List (X × Option E) → Type 0) (heard : B → List X → Type 0)
    (a c : A) (b : B) (x : X) (fault : ReportFault E) → Adds told a c (answered x (Err fault))
    → (xs : List (X × Option E)) → BothTold told heard a b xs → BothTold told heard c b (xs ++ answered x (Err fault))
both_not told heard a c b x (Refused e) tells =
    both_more told heard a c b b ((x, Some e) ∷ []) tells (hears_nothing heard b)
both_not told heard a c b x OutOfMemory tells = both_more told heard a c b b [] tells (hears_nothing heard b)
