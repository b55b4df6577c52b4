use Rattle.std.proofs.Common.{reverse, sym, ◌∙◌, arith}
use Rattle.std.proofs.lemmas.List.{length-reverse}
use Rattle.core_program.specs.Views.{program_of}
use Rattle.state.specs.Frames.{frames_in}
use Rattle.machine.specs.Inside.{frame_inside}
use Rattle.machine.proofs.Insides.{past_one, at_one, at_end, any_reverse}
use Rattle.machine.proofs.inside.stands_inside.Goals as goal

pub loop-depth-init : goal.loop-depth-init
loop-depth-init c = any_reverse (frame_inside (program_of c.args.program.now)) (frames_in c.args.cell.now)

pub loop-depth-preserved : goal.loop-depth-preserved
loop-depth-preserved c =
    past_one (program_of c.args.program.now) (reverse (frames_in c.args.cell.now)) c.loop-depth.depth (sym c.depth_inside.ensures ∙ c.if-depth_inside.false) ∙ c.loop-depth.invariant

pub returns-then-depth_inside : goal.returns-then-depth_inside
returns-then-depth_inside c =
    sym (at_one (program_of c.args.program.now) (reverse (frames_in c.args.cell.now)) c.loop-depth.depth (sym c.depth_inside.ensures ∙ c.if-depth_inside.true)) ∙ c.loop-depth.invariant

pub returns : goal.returns
returns c =
    let fs = reverse (frames_in c.args.cell.now) in
    sym (at_end (program_of c.args.program.now) fs c.loop-depth.depth (omega (arith, length-reverse (frames_in c.args.cell.now), c.frames-frames.ensures, c.loop-depth-test.false))) ∙ c.loop-depth.invariant
