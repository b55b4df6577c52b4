-- Nothing is said at first.
use Rattle.std.proofs.Common.{◌≡◌, true, rules, [], refl, sym, subst, ◌∙◌}
use Rattle.core_program.specs.Views.{program_of, method_of}
use Rattle.rules.specs.Near.{rel_of}
use Rattle.refutation.specs.Lines.{AreAscending}
use Rattle.refutation.specs.Passes.{Passes}
use Rattle.refutation.specs.Tables.{TablesSay}
use Rattle.refutation.proofs.PassLaws.{broken_certificate}
use Rattle.refutation.proofs.RowLemmas.{same_count}
use Rattle.refutation.proofs.BodyLemmas.{none_body_settled}
use Rattle.refutation.proofs.WaitLemmas.{none_settled}
use Rattle.refutation.proofs.passes.blame.Goals as goal

pub passes-requires-clause-agrees : goal.passes-requires-clause-agrees
passes-requires-clause-agrees c =
    let P = program_of c.args.program.now in
    let floors = c.in_ok-floors.floors in
    let made = c.in_ok-floors.ensures in
    let none = c.new-lines.ensures.items in
    record {
      same = made.sets;
      size = made.size ∙ same_count method_of c.methods-count.result.now P.methods c.methods-count.ensures;
      says = subst (λ s. TablesSay (rel_of s) floors.tables.items c.new-lines.result.items) (sym made.sets) (subst (TablesSay (rel_of c.args.sets.now) floors.tables.items) (sym none) made.says);
      ascend = subst AreAscending (sym none) tt;
    }

pub passes-requires-clause-settled : goal.passes-requires-clause-settled
passes-requires-clause-settled c = none_settled (program_of c.args.program.now) (rel_of c.args.sets.now) c.new-lines.result.items c.in_ok-methods.methods c.in_ok-methods.ensures.wait

pub passes-requires-clause-bodies : goal.passes-requires-clause-bodies
passes-requires-clause-bodies c = none_body_settled (program_of c.args.program.now) (rel_of c.args.sets.now) c.new-lines.result.items c.in_ok-bodies.bodies c.in_ok-bodies.ensures.wait

pub passes-requires-clause-known : goal.passes-requires-clause-known
passes-requires-clause-known c = record {
  size = c.in_ok-known.ensures.size ∙ same_count method_of c.methods-count.result.now (program_of c.args.program.now).methods c.methods-count.ensures;
  told = λ m asleep. absurd (c.in_ok-known.ensures.none m asleep);
}

pub returns-then-branch-clause-certificate : goal.returns-then-branch-clause-certificate
returns-then-branch-clause-certificate c =
    let P = program_of c.args.program.now in
    let rel = rel_of c.args.sets.now in
    let lines = c.passes.new.said.lines.items in
    let broken : c.in_ok-passes.field-0 ≡ true = search rules in
    broken_certificate P rel (record { all = lines; broken = true }) (subst (λ b. Passes P rel [] (record { all = lines; broken = b })) broken c.in_ok-passes.ensures.passes) refl
