use Rattle.std.proofs.Common.{ap, is_ok}
use Rattle.core_program.specs.Views.{program_of}
use Rattle.sources.proofs.Verdicts.{judged, refuted_source}
use Rattle.sources.proofs.accepting.judged_in.Goals as goal

pub returns-in-Ok : goal.returns-in-Ok
returns-in-Ok c = λ file is.
    let made = c.in_ok-inferred.field-0 in
    judged (program_of c.args.source.now.program) c.args.source.now.sets c.verdict_on.new.nodes made.inferred.methods.items made.verdict c.in_ok-inferred.ensures (ap is_ok c.in-Ok.is)

pub returns-in-Err : goal.returns-in-Err
returns-in-Err c = λ file is.
    let made = c.in_ok-inferred.field-0 in
    refuted_source file is.0 c.args.source.now c.verdict_on.new.nodes made.inferred.methods.items made.verdict c.in-Err.broken c.refuse_broken.result is.1 c.in_ok-inferred.ensures c.in-Err.is c.refuse_broken.ensures
