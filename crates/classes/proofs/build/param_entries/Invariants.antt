use Rattle.std.proofs.Common.{◌≡◌, ◌++◌, drop, map}
use Rattle.classes.specs.Table.{param_of}
use Rattle.classes.proofs.build.param_entries.Given as goal

abbrev pub invariant-loop-param : goal.invariant-loop-param
invariant-loop-param l =
    l.entries.items ++ map (param_of l.names) (drop l.param-index l.params) ≡ map (param_of l.names) l.params
