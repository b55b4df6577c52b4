use Rattle.std.proofs.Common.{refl}
use Rattle.compile.proofs.Emitting.{led_on}
use Rattle.compile.proofs.Fronts.{keeps_set}
use Rattle.compile.proofs.emit.lead_on.Goals as goal

pub returns-in-Some-clause-line : goal.returns-in-Some-clause-line
returns-in-Some-clause-line c before after instr old is at =
    led_on c.args.code.now.items before after instr old c.args.next c.args.at c.in-Some.line.now is at c.in-Some.ensures.value

pub returns-in-Some-clause-kept : goal.returns-in-Some-clause-kept
returns-in-Some-clause-kept c front far kept =
    keeps_set front c.args.code.now.items _ c.args.at (record { instr = c.in-Some.line.now.instr; next = c.args.next }) far refl kept
