-- What is needed of a plan's settings, and what a run has told.
use Rattle.std.specs.Prelude.{◌≡◌, List, map, length, true}
use Rattle.run_events.specs.declared.events.ReporterEvent.{ReporterEvent}
use Rattle.run_events.specs.declared.settings.Settings.{Settings}
use Rattle.run_model.specs.declared.entry.Entry.{Entry}
use Rattle.run_model.specs.Journal.{IsLegal, past_of}
use Rattle.run_model.specs.Once.{HasEachIdOnce}
use Rattle.run_model.specs.Reruns.{is_one_test}
use Rattle.run_model.specs.Words.{is_over, told}
use Rattle.run_audit_model.specs.Parts.{is_stress}
use Rattle.run_audit_machines.specs.Accounts.{AreApart}
use Rattle.run_audit.specs.declared.needs.Needs.{Needs}

-- no two tests have one id, and there are so many
pub record HasTestPlaces (needs : Needs) : Type 0 where
  pub apart : AreApart is_one_test needs.places
  pub many : length needs.places ≡ needs.tests

-- these are needed of these settings, in whose plan each id stands once
pub record AreNeedsOf (p : Settings) (needs : Needs) : Type 0 where
  pub stress : needs.stress ≡ is_stress p
  pub places : needs.places ≡ map (λ test. test.id) p.plan.tests
  pub once : HasEachIdOnce p
  pub has : HasTestPlaces needs

-- a legal journal's run is over, and has told these events
pub record HasToldAll (p : Settings) (journal : List Entry) (events : List ReporterEvent) : Type 0 where
  pub legal : IsLegal p journal
  pub over : is_over (past_of p journal) ≡ true
  pub is : events ≡ told (past_of p journal)
