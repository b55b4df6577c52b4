use Rattle.std.proofs.Common.{◌≡◌, ◌-◌, reverse, drop}
use Rattle.std.specs.List.{list_any}
use Rattle.core_program.specs.Views.{program_of}
use Rattle.state.specs.Frames.{frames_in}
use Rattle.machine.specs.Inside.{frame_inside, cell_inside}
use Rattle.machine.proofs.inside.stands_inside.Given as goal

abbrev pub invariant-loop-depth : goal.invariant-loop-depth
invariant-loop-depth l = list_any (frame_inside (program_of l.program)) (drop l.depth (reverse (frames_in l.cell))) ≡ cell_inside (program_of l.program) l.cell

abbrev pub decreases-loop-depth : goal.decreases-loop-depth
decreases-loop-depth l = l.frames - l.depth
