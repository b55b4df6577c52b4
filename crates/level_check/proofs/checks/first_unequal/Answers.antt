-- One class more, and all of them.
use Rattle.std.proofs.Common.{◌+◌, ◌∙◌, length, sym, ap, arith}
use Rattle.std.proofs.lemmas.List.{length-map}
use Rattle.core_program.specs.Views.{program_of, core_class_of}
use Rattle.levels.specs.Walks.{level_in}
use Rattle.level_check.specs.Kept.{differs}
use Rattle.level_check.proofs.Keeping.{differs_not, next_differs, none_differs, there_is}
use Rattle.level_check.proofs.checks.first_unequal.Goals as goal

pub returns-then-differs-clause-earlier : goal.returns-then-differs-clause-earlier
returns-then-differs-clause-earlier c = λ d less differs. c.loop-class.invariant.1 d (let same = c.loop-class.invariant.0 in omega (arith, less, same)) differs

pub loop-class-preserved : goal.loop-class-preserved
loop-class-preserved c =
    let P = program_of c.args.program.now in
    let at = c.loop-class.class-index in
    let there = there_is (core_class_of c.args.program.now) c.classes-class-items.result.now P.classes at c.class-item.result c.classes-class-items.ensures c.loop-class-test.true c.class-item.is in (
      ap (λ n. n + 1) c.loop-class.invariant.0,
      next_differs P c.args.levels.now at c.loop-class.invariant.1
          (differs_not P c.args.levels.now at (core_class_of c.args.program.now c.class-item.result) there
          (ap (λ k. differs (level_in c.args.levels.now) k c.class-item.result.above) (sym c.loop-class.invariant.0) ∙ sym c.differs.ensures ∙ c.if-differs.false)),
    )

pub returns-clause-none : goal.returns-clause-none
returns-clause-none c =
    let P = program_of c.args.program.now in
    let many = sym (ap length c.classes-class-items.ensures) ∙ length-map c.classes-class-items.result.now (core_class_of c.args.program.now) in
    none_differs P c.args.levels.now (λ k less. c.loop-class.invariant.1 k (let end = c.loop-class-test.false in omega (arith, less, many, end)))
