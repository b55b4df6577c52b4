-- The decision is in the list afterwards.
use Rattle.std.proofs.Common.{arith}
use Rattle.conditions.proofs.Decisions.{at_most_one, IsFit, inserted, numbered}
use Rattle.conditions.proofs.rows.Rows.add.Goals as goal

pub overflow_add-result : goal.overflow_add-result
overflow_add-result c = let f = c.in_ok-n.ensures in omega (arith, f.within, f.len, c.len-len.ensures.small, c.len-len.ensures.len, at_most_one c.in_ok-n.field-0-1)

pub invariant_of-self-2 : goal.invariant_of-self-2
invariant_of-self-2 c =
    (inserted c.self.inside.decisions.keys c.insert_full.new.self.keys c.args.self.now c.args.decision c.self.view_is c.self.invariant
    record { held_there = c.requires.held_there; free_there = c.requires.free_there; canonical = c.requires.canonical } c.in_ok-n.ensures.keys).is

pub returns-clause-grows : goal.returns-clause-grows
returns-clause-grows c =
    inserted c.self.inside.decisions.keys c.insert_full.new.self.keys c.args.self.now c.args.decision c.self.view_is c.self.invariant
    record { held_there = c.requires.held_there; free_there = c.requires.free_there; canonical = c.requires.canonical } c.in_ok-n.ensures.keys

pub returns-clause-stands : goal.returns-clause-stands
returns-clause-stands c =
    let fit : IsFit c.args.self.now c.args.decision = record { held_there = c.requires.held_there; free_there = c.requires.free_there; canonical = c.requires.canonical } in
    let s = c.in_ok-n.ensures.stored in
    numbered c.insert_full.new.self.keys c.args.self.now c.args.decision s.0 c.in_ok-n.n fit
    (inserted c.self.inside.decisions.keys c.insert_full.new.self.keys c.args.self.now c.args.decision c.self.view_is c.self.invariant fit c.in_ok-n.ensures.keys)
    s.1 s.2
