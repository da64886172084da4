use Rattle.run_laws_audit.proofs.PlainLemmas.{script_status_plain}
use Rattle.run_laws_audit.proofs.known.known_script_status.Goals as goal

pub returns : goal.returns
returns c =
    script_status_plain c.args.status.now c.known_number.ensures c.known_number-2.ensures c.known_result.ensures
    c.known_output.ensures.streams c.known_output.ensures.errors c.known_env.ensures
