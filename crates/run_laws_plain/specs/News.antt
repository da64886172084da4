-- What is told of a unit, as the definitions say it.
use Rattle.run_model.specs.Accounts.{News as Defined, started, failed, retried, finished, skipped}
use Rattle.run_laws_plain.specs.declared.accounts.News.{News}
use Rattle.run_laws_plain.specs.declared.accounts.News.TheVariants.{Started, Failed, Retried, Finished, Skipped}

abbrev pub defined : News → Defined
defined Started = started
defined (Failed status) = failed status
defined (Retried attempt) = retried attempt
defined (Finished statuses) = finished statuses
defined Skipped = skipped
