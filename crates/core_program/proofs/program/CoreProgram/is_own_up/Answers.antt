use Rattle.std.proofs.Common.{◌-◌, ◌+◌, length, sym, ap, ◌∙◌, arith}
use Rattle.std.proofs.lemmas.List.{length-map}
use Rattle.core_program.specs.Kept.{kept_class}
use Rattle.core_program.specs.Pairs.{is_own_up}
use Rattle.core_program.specs.Views.{kept_classes}
use Rattle.core_program.proofs.Climbing.{own_on, own_nowhere}
use Rattle.core_program.proofs.program.CoreProgram.is_own_up.Goals as goal

pub returns-in_default-class_at : goal.returns-in_default-class_at
returns-in_default-class_at c =
    let parts = kept_classes c.args.self.now in
    let names = c.args.self.now.names.items in
    let left = length parts - c.loop.counter in
    let gone = c.in_default-class_at.ensures in
    sym (ap (λ o. is_own_up parts names left o c.args.method) c.in-Some.is ∙ own_nowhere parts names left c.in-Some.id c.args.method (sym gone)) ∙ c.loop.invariant

pub loop-preserved : goal.loop-preserved
loop-preserved c =
    let parts = kept_classes c.args.self.now in
    let names = c.args.self.now.names.items in
    let left = length parts - c.loop.counter in
    let long = length-map c.args.self.now.classes.items kept_class in
    let there = sym c.in-Some-class_at.ensures in
    sym (ap (λ o. is_own_up parts names left o c.args.method) c.in-Some.is
    ∙ own_on parts names (length parts - (c.loop.counter + 1)) left c.in-Some.id c.args.method (kept_class c.in-Some-class_at.class.now)
    (omega (arith, c.loop-test.true, c.len-end.ensures, long)) there (sym c.is_own_of.ensures ∙ c.if-is_own_of.false))
    ∙ c.loop.invariant
