-- No marks say nothing.
use Rattle.std.proofs.Common.{◌∙◌, subst, sym}
use Rattle.core_program.specs.Views.{program_of}
use Rattle.explain.specs.Strict.{AreEntryMarks}
use Rattle.explain.proofs.EntryMarks.{no_marks}
use Rattle.explain.proofs.strict.keep_strictly.Goals as goal

pub keeps_strictly-requires : goal.keeps_strictly-requires
keeps_strictly-requires g c =
    let P = program_of c.args.walk.now.program.now in
    subst (λ marks. AreEntryMarks P marks) (sym (c.as_slice.ensures.value ∙ c.new-none.ensures.items)) (no_marks P)
