use Rattle.std.proofs.Common.{subst, arith}
use Rattle.run_model.specs.Admission.{scripts_in}
use Rattle.run_laws.proofs.board.Newcomers.{becomes, seats}
use Rattle.run_state.specs.Held.{Comes, IsNext, Opens}
use Rattle.run_state.proofs.ScriptLemmas.{open_first}
use Rattle.run_state.proofs.admission.next_newcomer.Goals as goal

pub overflow_cast-place : goal.overflow_cast-place
overflow_cast-place c =
    let p = c.args.settings.now in
    let us = c.args.units.now in
    let opens : Opens p us c.in-Script.place = subst (IsNext p us) c.in-Script.is c.requires.next in
    let within = (open_first (scripts_in p) us c.in-Script.place opens.is).0 in
    omega (arith, within, c.requires.few.units)

pub script_of-requires-clause-planned : goal.script_of-requires-clause-planned
script_of-requires-clause-planned c =
    let p = c.args.settings.now in
    let us = c.args.units.now in
    let opens : Opens p us c.in-Script.place = subst (IsNext p us) c.in-Script.is c.requires.next in
    (open_first (scripts_in p) us c.in-Script.place opens.is).0

pub overflow_add-place : goal.overflow_add-place
overflow_add-place c =
    let p = c.args.settings.now in
    let us = c.args.units.now in
    let comes : Comes p us c.in-Test.admitted = subst (IsNext p us) c.in-Test.is c.requires.next in
    let within = (seats p us c.in-Test.admitted comes.is).within in
    omega (arith, within, c.requires.whole, c.requires.few.units, c.len.ensures, c.place_of.ensures)

pub newcomer_of-requires-clause-planned : goal.newcomer_of-requires-clause-planned
newcomer_of-requires-clause-planned c =
    let p = c.args.settings.now in
    let us = c.args.units.now in
    let comes : Comes p us c.in-Test.admitted = subst (IsNext p us) c.in-Test.is c.requires.next in
    let within = (seats p us c.in-Test.admitted comes.is).within in
    omega (arith, within, c.requires.whole)

pub newcomer_of-requires-clause-made : goal.newcomer_of-requires-clause-made
newcomer_of-requires-clause-made c =
    let p = c.args.settings.now in
    let us = c.args.units.now in
    let comes : Comes p us c.in-Test.admitted = subst (IsNext p us) c.in-Test.is c.requires.next in
    becomes p c.args.index us c.in-Test.admitted comes.is

pub returns-in_ok-new-in-Script-clause-within : goal.returns-in_ok-new-in-Script-clause-within
returns-in_ok-new-in-Script-clause-within c =
    let p = c.args.settings.now in
    let us = c.args.units.now in
    let opens : Opens p us c.in-Script.place = subst (IsNext p us) c.in-Script.is c.requires.next in
    (open_first (scripts_in p) us c.in-Script.place opens.is).1.0

pub returns-in_ok-new-in-Script-clause-absent : goal.returns-in_ok-new-in-Script-clause-absent
returns-in_ok-new-in-Script-clause-absent c =
    let p = c.args.settings.now in
    let us = c.args.units.now in
    let opens : Opens p us c.in-Script.place = subst (IsNext p us) c.in-Script.is c.requires.next in
    (open_first (scripts_in p) us c.in-Script.place opens.is).1.1

pub returns-in_ok-new-in-Test-clause-within : goal.returns-in_ok-new-in-Test-clause-within
returns-in_ok-new-in-Test-clause-within c =
    let p = c.args.settings.now in
    let us = c.args.units.now in
    let comes : Comes p us c.in-Test.admitted = subst (IsNext p us) c.in-Test.is c.requires.next in
    let within = (seats p us c.in-Test.admitted comes.is).within in
    omega (arith, within, c.len.ensures, c.place_of.ensures)

pub returns-in_ok-new-in-Test-clause-absent : goal.returns-in_ok-new-in-Test-clause-absent
returns-in_ok-new-in-Test-clause-absent c =
    let p = c.args.settings.now in
    let us = c.args.units.now in
    let comes : Comes p us c.in-Test.admitted = subst (IsNext p us) c.in-Test.is c.requires.next in
    let absent = (seats p us c.in-Test.admitted comes.is).absent in
    rw (c.len.ensures, c.place_of.ensures) absent
