-- One method more, enough of them, and all.
use Rattle.std.proofs.Common.{refl, ap, sym, ◌∙◌, arith}
use Rattle.algebra.specs.Basics.{below_of}
use Rattle.algebra.specs.HeldPaths.{has_path}
use Rattle.rules.specs.Near.{rel_of}
use Rattle.rules.proofs.BasicLemmas.{below_itself}
use Rattle.refutation.specs.Tables.{said_by}
use Rattle.refutation.proofs.Reached.{joined_more, joined_enough, joined_reaches, joined_all}
use Rattle.refutation.proofs.up.said_over.Goals as goal

pub loop-method-init : goal.loop-method-init
loop-method-init c = record { above = below_itself c.args.from; whole = refl }

pub loop-method-preserved : goal.loop-method-preserved
loop-method-preserved c =
    joined_more (rel_of c.args.floors.now.sets.now) c.args.floors.now.tables.items c.args.methods.now (has_path c.args.held.now) c.args.from c.loop-method.so_far c.at.result c.join-so_far.result c.loop-method.method-index c.method-item.result
    c.loop-method-test.true c.method-item.is c.at.ensures c.join-so_far.ensures c.loop-method.invariant

pub returns-then-below-clause-whole : goal.returns-then-below-clause-whole
returns-then-below-clause-whole c = λ low.
    let rel = rel_of c.args.floors.now.sets.now in
    joined_enough rel (said_by rel c.args.floors.now.tables.items) c.args.methods.now (has_path c.args.held.now) c.args.from c.loop-method.so_far c.loop-method.method-index c.loop-method.invariant c.args.enough (sym c.below.ensures ∙ c.if-below.true) low

pub returns-then-below-clause-reached : goal.returns-then-below-clause-reached
returns-then-below-clause-reached c =
    let rel = rel_of c.args.floors.now.sets.now in
    joined_reaches rel (said_by rel c.args.floors.now.tables.items) c.args.methods.now (has_path c.args.held.now) c.args.from c.loop-method.so_far c.loop-method.method-index c.loop-method.invariant c.args.enough (sym c.below.ensures ∙ c.if-below.true)

pub returns-clause-whole : goal.returns-clause-whole
returns-clause-whole c = λ low.
    let rel = rel_of c.args.floors.now.sets.now in
    joined_all rel (said_by rel c.args.floors.now.tables.items) c.args.methods.now (has_path c.args.held.now) c.args.from c.loop-method.so_far c.loop-method.method-index c.loop-method.invariant (omega (arith, c.loop-method-test.false))

pub returns-clause-reached : goal.returns-clause-reached
returns-clause-reached c =
    let rel = rel_of c.args.floors.now.sets.now in
    ap (below_of c.args.enough) (joined_all rel (said_by rel c.args.floors.now.tables.items) c.args.methods.now (has_path c.args.held.now) c.args.from c.loop-method.so_far c.loop-method.method-index c.loop-method.invariant (omega (arith, c.loop-method-test.false)))
