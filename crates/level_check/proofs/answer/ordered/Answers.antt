-- The answer from the first bad one.
use Rattle.std.proofs.Common.{inl}
use Rattle.core_program.specs.Views.{program_of}
use Rattle.rules.specs.Near.{rel_of}
use Rattle.levels.specs.Walks.{level_in}
use Rattle.level_check.proofs.Answering.{is_ordered, is_first, not_both, same_end}
use Rattle.level_check.proofs.answer.ordered.Goals as goal

pub returns-in-None-clause-first : goal.returns-in-None-clause-first
returns-in-None-clause-first c = not_both (program_of c.args.program.now) (rel_of c.args.sets.now) (level_in c.args.levels.now.of.items) (is_ordered (program_of c.args.program.now) (rel_of c.args.sets.now) (level_in c.args.levels.now.of.items) c.in_ok-found.field-0 c.in-None.is c.in_ok-found.ensures)

pub returns-in-None-clause-no_circle : goal.returns-in-None-clause-no_circle
returns-in-None-clause-no_circle c =
    c.level_laws.ensures (program_of c.args.program.now) c.args.sets.now (level_in c.args.levels.now.of.items) c.requires.typed c.requires.relevant c.requires.marked
    (is_ordered (program_of c.args.program.now) (rel_of c.args.sets.now) (level_in c.args.levels.now.of.items) c.in_ok-found.field-0 c.in-None.is c.in_ok-found.ensures)

pub returns-in-Some-clause-all : goal.returns-in-Some-clause-all
returns-in-Some-clause-all c =
    let P = program_of c.args.program.now in
    let rel = rel_of c.args.sets.now in
    let level = level_in c.args.levels.now.of.items in
    λ ordered. absurd (not_both P rel level ordered c.in-Some.bad.method c.in-Some.bad.class c.in-Some.bad.under (is_first P rel level c.in_ok-found.field-0 c.in-Some.bad c.in-Some.is c.in_ok-found.ensures))

pub returns-in-Some-clause-first : goal.returns-in-Some-clause-first
returns-in-Some-clause-first c =
    let P = program_of c.args.program.now in
    let rel = rel_of c.args.sets.now in
    let level = level_in c.args.levels.now.of.items in
    let bad = c.in-Some.bad in
    let own = is_first P rel level c.in_ok-found.field-0 bad c.in-Some.is c.in_ok-found.ensures in
    λ m k u first. inl (same_end bad.method m bad.class k bad.under u c.end_of.result c.end_of.ensures (c.answer_laws.ensures P rel level bad.method m bad.class k bad.under u own first))
