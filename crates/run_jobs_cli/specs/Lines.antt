-- What a line of jobs that was read says.
use Rattle.run_jobs.specs.Jobs.{Batch}
use Rattle.run_jobs_cli.specs.declared.jobs_line.JobsLine.{JobsLine}

abbrev pub batch_said : JobsLine → Batch
batch_said line = record { run_id = line.run_id; threads = line.threads; jobs = line.jobs }
