use Rattle.run_wave_line.proofs.WaveLemmas.{put_entry}
use Rattle.run_wave_line.proofs.values.put_member.Goals as goal

pub returns : goal.returns
returns c =
    put_entry c.args.members.now.entries c.insert.new.self.entries c.in_ok-from_str.field-0 c.args.value
    c.args.key.now c.in_ok-from_str.ensures.ok c.in_ok-insert.ensures.entries
