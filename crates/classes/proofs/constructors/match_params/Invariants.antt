use Rattle.std.proofs.Common.{◌≡◌, drop, map}
use Rattle.classes.specs.Members.{are_params_of}
use Rattle.classes.specs.Finals.{final_of}
use Rattle.classes.proofs.constructors.match_params.Given as goal

abbrev pub invariant-loop-field : goal.invariant-loop-field
invariant-loop-field l =
    are_params_of (map final_of (drop l.field-index l.finals)) l.rest ≡ are_params_of (map final_of l.finals) l.params
