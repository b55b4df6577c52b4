-- A statement whose value is absorbed changes nothing; what is absorbed stays so where the value does.
use Rattle.std.proofs.Common.{◌≡◌, ◌==◌, true, sym, ap, subst, ◌∙◌}
use Rattle.std.proofs.lemmas.Bool.{and_parts}
use Rattle.std.specs.List.{list_any}
use Rattle.conditions.specs.Conditions.{cond_of, value_of}
use Rattle.core_program.specs.Views.{stmt_of}
use Rattle.book_check.specs.Judges.{judge_program, judge_value}
use Rattle.book_check.proofs.BlockLemmas.{absorbed_before, statement_absorbed}
use Rattle.book_check.proofs.rule_values.statement_and_rest.Goals as goal

pub returns-then-both-clause-value : goal.returns-then-both-clause-value
returns-then-both-clause-value c =
    let j = c.args.judge.now in
    let parts = and_parts c.keeps_paths-keeps.result c.has_number.result (sym c.both.ensures ∙ c.if-both.true) in
    λ H. statement_absorbed (judge_program j) (judge_value j) (value_of (cond_of c.args.rest.value)) c.args.rest.absorbed.items c.args.number (stmt_of c.args.s.now)
    (sym c.keeps_paths-keeps.ensures ∙ parts.0)
    (subst (λ ms. list_any (λ m. m == c.args.number) ms ≡ true) c.as_slice.ensures.value (sym c.has_number.ensures ∙ parts.1))
    c.requires.absorbed H

pub returns-clause-absorbed : goal.returns-clause-absorbed
returns-clause-absorbed c =
    let j = c.args.judge.now in
    c.in_ok-longer.ensures (judge_value j) (value_of (cond_of c.in_ok-whole.whole)) (λ is.
    let parts = and_parts c.keeps_paths-keeps.result c.same.result (sym c.both-2.ensures ∙ is) in
    absorbed_before (judge_program j) (judge_value j) (value_of (cond_of c.args.rest.value)) (value_of (cond_of c.in_ok-later.later)) (value_of (cond_of c.in_ok-whole.whole))
    c.args.rest.absorbed.items c.args.number (stmt_of c.args.s.now) (sym c.keeps_paths-keeps.ensures ∙ parts.0)
    (λ H. ap (λ t. value_of t H) (sym (c.same.ensures.0 parts.1)))
    c.in_ok-later.ensures.value c.in_ok-whole.ensures.value c.requires.absorbed)
