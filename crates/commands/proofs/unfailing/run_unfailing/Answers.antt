-- A count that stays 0 didn't rise; and words that are a row of no file that couldn't be read are a row, or have the usage's status.
use Rattle.std.proofs.Common.{◌≡◌, inl, inr, sym, ◌∙◌, arith}
use Rattle.edge.specs.Faults.{Rose}
use Rattle.commands.proofs.unfailing.run_unfailing.Goals as goal

no_rise : Rose 0 0 → ⊥
no_rise rose = omega (arith, rose)

pub returns-clause-read : goal.returns-clause-read
returns-clause-read c = λ e. elim (c.run.ensures.usage (λ row is. no_rise (c.run.ensures.cannot_read row is e).unread.first.rose)) [
  | inl says ↦ absurd (let both : 6 ≡ 9 = sym e ∙ says.0 in cc)
  | inr fails ↦ no_rise (fails.2)
]

pub returns-clause-written : goal.returns-clause-written
returns-clause-written c = λ e. no_rise (c.run.ensures.cannot_write e)

pub returns-clause-usage : goal.returns-clause-usage
returns-clause-usage c = λ none. elim (c.run.ensures.usage none) [
  | inl says ↦ says.0
  | inr fails ↦ absurd (no_rise (fails.2))
]

pub returns-clause-exact : goal.returns-clause-exact
returns-clause-exact c = λ row files asked. c.run.ensures.exact row files asked

pub returns-clause-text : goal.returns-clause-text
returns-clause-text c = λ row files asked. c.run.ensures.complete row files asked (λ name named. no_rise) no_rise
