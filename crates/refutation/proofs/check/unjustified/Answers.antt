-- One line more, and the first that doesn't follow.
use Rattle.std.proofs.Common.{◌≡◌, true, false, length, take, inr, refl, rules, subst, sym, ◌∙◌, arith}
use Rattle.core_program.specs.Views.{program_of, method_of}
use Rattle.rules.specs.Near.{rel_of}
use Rattle.refutation.specs.Tables.{TablesSay}
use Rattle.refutation.specs.Works.{look_work}
use Rattle.refutation.specs.Wrongs.{justified_at}
use Rattle.refutation.proofs.CheckLemmas.{pass_none, pass_more, pass_all, first_failing, placed_within, placed_line, says_next}
use Rattle.refutation.proofs.Known.{lines_before}
use Rattle.refutation.proofs.Rooms.{some_told, some_spent, none_spent, left_start, left_kept, left_none}
use Rattle.refutation.proofs.RowLemmas.{same_count}
use Rattle.refutation.proofs.check.unjustified.Goals as goal

pub loop-at-init : goal.loop-at-init
loop-at-init c =
    let P = program_of c.args.program.now in
    let size = c.in_ok-floors.ensures.size ∙ same_count method_of c.methods.result.now P.methods c.methods.ensures in
    record {
      same = c.in_ok-floors.ensures.sets;
      size = size;
      says = c.in_ok-floors.ensures.says;
      known = λ e. absurd (let f : false ≡ true = e in cc);
      left = left_start (look_work P) (rel_of c.args.sets.now) c.in_ok-floors.floors.tables.items (length P.methods) size c.in_ok-floors.ensures.says;
      before = pass_none (justified_at P (rel_of c.args.sets.now) c.args.lines.now) c.args.lines.now;
    }

pub follows-requires-clause-there : goal.follows-requires-clause-there
follows-requires-clause-there c =
    let within = placed_within (program_of c.args.program.now) (rel_of c.args.sets.now) c.args.lines.now c.loop-at.at c.index-lines-at.result c.requires c.loop-at-test.true c.index-lines-at.is in
    omega (arith, within, c.loop-at.invariant.size)

pub returns-then-not-passes-clause-first : goal.returns-then-not-passes-clause-first
returns-then-not-passes-clause-first c =
    let P = program_of c.args.program.now in
    let rel = rel_of c.args.sets.now in
    let lines = c.args.lines.now in
    let before = c.loop-at.invariant in
    let l = c.index-lines-at.result in
    let fails : c.in-Some.passes ≡ false = search rules in
    let told = some_told _ _ c.in_ok-passes.field-0 c.in-Some.passes c.in-Some.is
    (c.in_ok-passes.ensures.follows _ before.same before.says (lines_before P rel lines c.loop-at.at c.requires before.before) (placed_line P rel lines c.loop-at.at l c.requires c.loop-at-test.true c.index-lines-at.is)) in
    first_failing (justified_at P rel lines) lines c.loop-at.at l c.loop-at-test.true c.index-lines-at.is (sym told.0 ∙ fails) before.before

pub returns-in_default-clause-over : goal.returns-in_default-clause-over
returns-in_default-clause-over c =
    let P = program_of c.args.program.now in
    let rel = rel_of c.args.sets.now in
    let before = c.loop-at.invariant in
    let tables = c.loop-at.floors.tables.items in
    let says = subst (λ s. TablesSay (rel_of s) tables (take c.loop-at.at c.args.lines.now)) (sym before.same) before.says in
    let less = none_spent _ _ c.in_ok-passes.field-0 c.in_default.is (c.in_ok-passes.ensures.work _ says) in
    inr (refl, left_none P rel tables c.loop-at.looks.left before.size before.left less)

pub loop-at-preserved : goal.loop-at-preserved
loop-at-preserved c =
    let P = program_of c.args.program.now in
    let rel = rel_of c.args.sets.now in
    let lines = c.args.lines.now in
    let before = c.loop-at.invariant in
    let tables = c.loop-at.floors.tables.items in
    let l = c.index-lines-at.result in
    let passes : c.in-Some.passes ≡ true = search rules in
    let told = some_told _ _ c.in_ok-passes.field-0 c.in-Some.passes c.in-Some.is
    (c.in_ok-passes.ensures.follows _ before.same before.says (lines_before P rel lines c.loop-at.at c.requires before.before) (placed_line P rel lines c.loop-at.at l c.requires c.loop-at-test.true c.index-lines-at.is)) in
    let says = subst (λ s. TablesSay (rel_of s) tables (take c.loop-at.at lines)) (sym before.same) before.says in
    let spent = some_spent _ _ c.in_ok-passes.field-0 c.in-Some.passes c.in-Some.is (c.in_ok-passes.ensures.work _ says) passes in
    record {
      same = c.follows.ensures.sets ∙ before.same;
      size = c.follows.ensures.size ∙ before.size;
      says = says_next rel c.follows.new.floors.tables.items lines c.loop-at.at l c.loop-at-test.true c.index-lines-at.is (told.1 passes);
      known = c.in_ok-passes.ensures.known;
      left = left_kept (look_work P) rel tables c.follows.new.floors.tables.items c.loop-at.looks.left c.follows.new.looks.left (length P.methods) before.size before.left spent;
      before = pass_more (justified_at P rel lines) lines c.loop-at.at l c.loop-at-test.true c.index-lines-at.is (sym told.0 ∙ passes) before.before;
    }

pub returns-clause-first : goal.returns-clause-first
returns-clause-first c =
    pass_all (justified_at (program_of c.args.program.now) (rel_of c.args.sets.now) c.args.lines.now) c.args.lines.now c.loop-at.at (omega (arith, c.loop-at-test.false)) c.loop-at.invariant.before
