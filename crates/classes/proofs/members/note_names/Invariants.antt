use Rattle.std.proofs.Common.{◌≡◌, map, drop}
use Rattle.classes.specs.declared.fault.ClassFault.TheVariants.{Twice}
use Rattle.classes.specs.Names.{repeats_after}
use Rattle.classes.specs.Members.{param_names}
use Rattle.classes.specs.Faults.{twice_faults}
use Rattle.classes.specs.Noted.{noted}
use Rattle.classes.proofs.members.note_names.Given as goal

abbrev pub invariant-loop-param : goal.invariant-loop-param
invariant-loop-param l =
    noted l.found (map Twice (repeats_after l.seen (param_names (drop l.param-index l.params))))
    ≡ noted l.fn.first (twice_faults (param_names l.params))
