use Rattle.std.proofs.Common.{ℕ, ◌==◌, ◌-◌, ◌+◌, ◌++◌, Option, not, filter, length, sym, ap, ◌∙◌, arith}
use Rattle.std.proofs.lemmas.List.{length-map}
use Rattle.core_program.specs.Kept.{kept_class}
use Rattle.core_program.specs.Pairs.{as_list, all_named}
use Rattle.core_program.specs.Views.{kept_classes}
use Rattle.core_program.proofs.Climbing.{all_on, all_none, all_nowhere, all_end, one_added, none_left}
use Rattle.core_program.proofs.program.CoreProgram.add_named.Goals as goal

pub returns-in_default : goal.returns-in_default
returns-in_default c =
    let parts = kept_classes c.args.self.now in
    let names = c.args.self.now.names.items in
    let left = length parts - c.loop.counter in
    none_left c.args.method c.loop.all.items (all_named parts names left c.loop.at c.args.name)
    (c.args.all.now.items ++ filter (λ m. not (m == c.args.method)) (all_named parts names (length parts) c.args.from c.args.name))
    (ap (λ (o : Option ℕ). all_named parts names left o c.args.name) c.in_default.is ∙ all_none parts names left c.args.name) c.loop.invariant

pub returns-in_default-class_at : goal.returns-in_default-class_at
returns-in_default-class_at c =
    let parts = kept_classes c.args.self.now in
    let names = c.args.self.now.names.items in
    let left = length parts - c.loop.counter in
    none_left c.args.method c.loop.all.items (all_named parts names left c.loop.at c.args.name)
    (c.args.all.now.items ++ filter (λ m. not (m == c.args.method)) (all_named parts names (length parts) c.args.from c.args.name))
    (ap (λ (o : Option ℕ). all_named parts names left o c.args.name) c.in-Some.is ∙ all_nowhere parts names left c.in-Some.id c.args.name (sym c.in_default-class_at.ensures)) c.loop.invariant

pub loop-preserved : goal.loop-preserved
loop-preserved c =
    let parts = kept_classes c.args.self.now in
    let names = c.args.self.now.names.items in
    let left = length parts - c.loop.counter in
    let long = length-map c.args.self.now.classes.items kept_class in
    let there = sym c.in-Some-class_at.ensures in
    let class = kept_class c.in-Some-class_at.class.now in
    let rest = all_named parts names (length parts - (c.loop.counter + 1)) class.above c.args.name in
    one_added c.args.method c.loop.all.items c.add_other.new.all.items
    (c.args.all.now.items ++ filter (λ m. not (m == c.args.method)) (all_named parts names (length parts) c.args.from c.args.name))
    rest (all_named parts names left c.loop.at c.args.name) c.own_named.result c.in_ok-add_other.ensures
    (ap (λ (o : Option ℕ). all_named parts names left o c.args.name) c.in-Some.is
    ∙ all_on parts names (length parts - (c.loop.counter + 1)) left c.in-Some.id c.args.name class (omega (arith, c.loop-test.true, c.len-end.ensures, long)) there
    ∙ ap (λ (o : Option ℕ). as_list o ++ rest) (sym c.own_named.ensures))
    c.loop.invariant

pub returns : goal.returns
returns c =
    let parts = kept_classes c.args.self.now in
    let names = c.args.self.now.names.items in
    let left = length parts - c.loop.counter in
    let long = length-map c.args.self.now.classes.items kept_class in
    none_left c.args.method c.loop.all.items (all_named parts names left c.loop.at c.args.name)
    (c.args.all.now.items ++ filter (λ m. not (m == c.args.method)) (all_named parts names (length parts) c.args.from c.args.name))
    (all_end parts names left c.args.name c.loop.at (omega (arith, c.loop-test.false, c.len-end.ensures, long))) c.loop.invariant
