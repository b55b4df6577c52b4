use Rattle.core_program.specs.Views.{program_of}
use Rattle.sources.proofs.Verdicts.{judgement}
use Rattle.sources.proofs.accepting.verdict_on.Goals as goal

pub returns : goal.returns
returns c =
    let source = c.args.source.now in
    let s = c.requires.1.1 in
    let least = c.in_ok-inferred.ensures.least s.typed in
    judgement (program_of source.program) source.sets c.infer.new.algebra c.in_ok-inferred.inferred.methods.items c.verdict-kept.result s.typed s.relevant s.few c.in_ok-inferred.ensures.count c.in_ok-inferred.ensures.known
    least (c.verdict-kept.ensures.accepted source.sets s.typed s.relevant s.few least) c.verdict-kept.ensures.holds c.verdict-kept.ensures.broken c.verdict-kept.ensures.refuted
