use Rattle.std.proofs.Common.{◌-◌, ◌+◌, length, sym, ap, ◌∙◌, arith}
use Rattle.std.proofs.lemmas.List.{length-map}
use Rattle.core_program.specs.Kept.{kept_class}
use Rattle.core_program.specs.Pairs.{nearest_named}
use Rattle.core_program.specs.Views.{kept_classes}
use Rattle.core_program.proofs.Climbing.{nearest_here, nearest_on, nearest_none, nearest_nowhere, nearest_ends}
use Rattle.core_program.proofs.program.CoreProgram.nearest_named.Goals as goal

pub returns-in_default : goal.returns-in_default
returns-in_default c =
    let parts = kept_classes c.args.self.now in
    let names = c.args.self.now.names.items in
    let left = length parts - c.loop.counter in
    sym (ap (λ o. nearest_named parts names left o c.args.name) c.in_default.is ∙ nearest_none parts names left c.args.name) ∙ c.loop.invariant

pub returns-in_default-class_at : goal.returns-in_default-class_at
returns-in_default-class_at c =
    let parts = kept_classes c.args.self.now in
    let names = c.args.self.now.names.items in
    let left = length parts - c.loop.counter in
    let gone = c.in_default-class_at.ensures in
    sym (ap (λ o. nearest_named parts names left o c.args.name) c.in-Some.is ∙ nearest_nowhere parts names left c.in-Some.id c.args.name (sym gone)) ∙ c.loop.invariant

pub returns-in-Some-own_named : goal.returns-in-Some-own_named
returns-in-Some-own_named c =
    let parts = kept_classes c.args.self.now in
    let names = c.args.self.now.names.items in
    let left = length parts - c.loop.counter in
    let long = length-map c.args.self.now.classes.items kept_class in
    let there = sym c.in-Some-class_at.ensures in
    sym (ap (λ o. nearest_named parts names left o c.args.name) c.in-Some.is
    ∙ nearest_here parts names (length parts - (c.loop.counter + 1)) left c.in-Some.id c.args.name c.in-Some-own_named.own (kept_class c.in-Some-class_at.class.now)
    (omega (arith, c.loop-test.true, c.len-end.ensures, long)) there (sym c.own_named.ensures ∙ c.in-Some-own_named.is))
    ∙ c.loop.invariant

pub loop-preserved : goal.loop-preserved
loop-preserved c =
    let parts = kept_classes c.args.self.now in
    let names = c.args.self.now.names.items in
    let left = length parts - c.loop.counter in
    let long = length-map c.args.self.now.classes.items kept_class in
    let there = sym c.in-Some-class_at.ensures in
    sym (ap (λ o. nearest_named parts names left o c.args.name) c.in-Some.is
    ∙ nearest_on parts names (length parts - (c.loop.counter + 1)) left c.in-Some.id c.args.name (kept_class c.in-Some-class_at.class.now)
    (omega (arith, c.loop-test.true, c.len-end.ensures, long)) there (sym c.own_named.ensures ∙ c.in_default-own_named.is))
    ∙ c.loop.invariant

pub returns : goal.returns
returns c =
    let parts = kept_classes c.args.self.now in
    let names = c.args.self.now.names.items in
    let left = length parts - c.loop.counter in
    let long = length-map c.args.self.now.classes.items kept_class in
    sym (nearest_ends parts names left c.args.name c.loop.at (omega (arith, c.loop-test.false, c.len-end.ensures, long))) ∙ c.loop.invariant
