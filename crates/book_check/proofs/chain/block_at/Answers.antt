-- A block whose statements keep the paths that are held is a sequence.
use Rattle.std.proofs.Common.{sym, ◌∙◌}
use Rattle.std.proofs.lemmas.Option.{IfSome_then}
use Rattle.book_check.specs.Judges.{judge_program, judge_value}
use Rattle.book_check.proofs.PairLemmas.{block_kept}
use Rattle.book_check.proofs.chain.block_at.Goals as goal

pub returns : goal.returns
returns c = IfSome_then c.sequence_at.result c.sequence_at.ensures (λ b value H holds.
    block_kept (judge_program c.args.judge.now) (judge_value c.args.judge.now) c.args.body.now c.args.numbers.now H c.if-body-numbers.false (sym c.all_keep_paths.ensures ∙ c.if-not-all_keep_paths.false)
    ∙ value H holds)
