use Rattle.std.proofs.Common.{◌+◌, sym}
use Rattle.std.proofs.lemmas.List.{take_rest}
use Rattle.run_filter.proofs.PartitionLemmas.{partition_of-no_kind, partition_of-no_slash, partition_of-slash}
use Rattle.run_filter.proofs.partition_word.partition_of.Goals as goal

pub returns-in_default : goal.returns-in_default
returns-in_default c = partition_of-no_kind c.args.word.now c.in_default.ensures

pub returns-in_default-first_slash : goal.returns-in_default-first_slash
returns-in_default-first_slash c =
    partition_of-no_slash c.args.word.now c.in-Some.kind c.in-Some.numbers.now c.in-Some.ensures
    (sym c.in_default-first_slash.ensures.value)

pub returns : goal.returns
returns c =
    let h = rw (take_rest c.in-Some.numbers.now (c.in-Some-first_slash.slash + 1)) at c.part_of.ensures in
    rw (partition_of-slash c.args.word.now c.in-Some.kind c.in-Some.numbers.now c.in-Some-first_slash.slash
    c.in-Some.ensures (sym c.in-Some-first_slash.ensures.value)) h
