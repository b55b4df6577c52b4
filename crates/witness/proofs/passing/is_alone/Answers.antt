use Rattle.std.proofs.Common.{sym, ap, subst, ◌∙◌}
use Rattle.core_program.specs.Views.{program_of}
use Rattle.witness.specs.Tables.{count_at}
use Rattle.witness.specs.Walks.{allows}
use Rattle.witness.specs.Unseen.{HasUnseenStep}
use Rattle.witness.proofs.passing.is_alone.Goals as goal

pub is_unseen-requires : goal.is_unseen-requires
is_unseen-requires c = sym c.requires.coded

pub returns-clause-allowed : goal.returns-clause-allowed
returns-clause-allowed c = λ yes. ap (λ xs. allows c.args.search.now.counted (count_at xs) c.args.thread) (sym c.as_slice.ensures.value) ∙ sym c.allows.ensures ∙ c.if-not-allows.false

pub returns-clause-alone : goal.returns-clause-alone
returns-clause-alone c = λ yes q stands. subst (λ p. HasUnseenStep p q c.args.thread) (ap program_of c.requires.runs) (c.is_unseen.ensures yes q stands)
