use Rattle.std.proofs.Common.{◌≤◌, length, sym, subst, arith}
use Rattle.syntax.specs.Limits.{most_tokens}
use Rattle.sources.proofs.TokenCounts.{few_tokens}
use Rattle.sources.proofs.reading.tree_of.Goals as goal

pub parse-requires : goal.parse-requires
parse-requires c = subst (λ ts. length ts ≤ most_tokens) (sym c.as_slice.ensures.value) (omega (arith, few_tokens c.in_ok-tokens.ensures, c.requires))
