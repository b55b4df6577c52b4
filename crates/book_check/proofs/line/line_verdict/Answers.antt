-- The tree is right and the steps aren't; both are and an overriding method's tree isn't; the bound is broken; and nothing is wrong.
use Rattle.std.proofs.Common.{inl, inr, refl, sym, ap, subst, slice_get, ◌∙◌}
use Rattle.std.proofs.lemmas.Bool.{both_ways}
use Rattle.algebra.specs.Basics.{below_of}
use Rattle.algebra.specs.HeldPaths.{has_path}
use Rattle.conditions.specs.Conditions.{value_of}
use Rattle.core_program.specs.Views.{method_of}
use Rattle.books.specs.Derivations.{node}
use Rattle.rules.specs.Rules.{declared_bound}
use Rattle.book_check.specs.Good.{IsStep, IsTabled, IsUnder}
use Rattle.book_check.specs.Conclusions.{tree_numbered}
use Rattle.book_check.specs.Judges.{judge_assignment, judge_program, judge_rel, judge_table, judge_value}
use Rattle.effects.specs.Parts.{StmtP}
use Rattle.book_check.specs.Parts.{places}
use Rattle.book_check.specs.Walks.{IsWalkEnd}
use Rattle.book_check.proofs.Admissible.{cond_is}
use Rattle.std.proofs.lemmas.Result.{err_from_is_err_and}
use Rattle.book_check.specs.Nearness.{steps_near, AreOwnNear}
use Rattle.book_check.proofs.WalkLemmas.{near_nodes}
use Rattle.book_check.proofs.VerdictLemmas.{bad_from}
use Rattle.book_check.proofs.line.line_verdict.Goals as goal

pub returns-then-not-branch-clause-verdict : goal.returns-then-not-branch-clause-verdict
returns-then-not-branch-clause-verdict g c =
    let j = c.args.steps.now.judge.now in
    let tabled = subst (λ z. IsTabled z (tree_numbered (slice_get (judge_table j) c.args.line.now.number))) c.rel-rel.ensures
    (subst (λ t. IsTabled c.rel-rel.result.now t) c.tree_or-tree.ensures.tree (c.is_tabled.ensures.0 c.if-not-is_tabled.false)) in (
      c.m.view_is,
      tabled,
      inl (
        (λ under. both_ways c.in_ok-is_under.field-0 c.if-not-branch.true
            (c.in_ok-is_under.ensures.under.1 (subst (λ ps. IsUnder ps (judge_value j c.args.line.now.node) (judge_value j c.args.line.now.number)) (sym c.as_slice-required.ensures.value) under))),
        refl,
      ),
    )

pub returns-in-Bad-clause-verdict : goal.returns-in-Bad-clause-verdict
returns-in-Bad-clause-verdict g c =
    let j = c.args.steps.now.judge.now in
    let d = node c.args.line.now.word c.args.line.now.node (g.L.Premises.Nodes.nodes c.args.line.now.premises) in
    let body = StmtP (method_of c.args.method.now).body in
    let tabled = subst (λ z. IsTabled z (tree_numbered (slice_get (judge_table j) c.args.line.now.number))) c.rel-rel.ensures
    (subst (λ t. IsTabled c.rel-rel.result.now t) c.tree_or-tree.ensures.tree (c.is_tabled.ensures.0 c.if-not-is_tabled.false)) in
    let under = subst (λ ps. IsUnder ps (judge_value j c.args.line.now.node) (judge_value j c.args.line.now.number)) c.as_slice-required.ensures.value (c.in_ok-is_under.ensures.under.0 c.if-not-branch.false) in (
      c.m.view_is,
      tabled,
      inr (
        under,
        bad_from (IsStep (judge_program j) (judge_rel j) (judge_value j) (judge_assignment j)) (places body d) c.in-Bad.node
            (subst (λ e. IsWalkEnd (IsStep (judge_program j) (judge_rel j) (judge_value j) (judge_assignment j)) (places body d) 0 e) c.in-Bad.is c.in_ok-walk_node.ensures.end),
      ),
    )

pub returns-then-not-branch-2-clause-verdict : goal.returns-then-not-branch-2-clause-verdict
returns-then-not-branch-2-clause-verdict g c =
    let j = c.args.steps.now.judge.now in
    let method = method_of c.args.method.now in
    let P = judge_program j in
    let A = judge_assignment j in
    let V = judge_value j in
    let d = node c.args.line.now.word c.args.line.now.node (g.L.Premises.Nodes.nodes c.args.line.now.premises) in
    let xs = places (StmtP method.body) d in
    let tabled = subst (λ z. IsTabled z (tree_numbered (slice_get (judge_table j) c.args.line.now.number))) c.rel-rel.ensures
    (subst (λ t. IsTabled c.rel-rel.result.now t) c.tree_or-tree.ensures.tree (c.is_tabled.ensures.0 c.if-not-is_tabled.false)) in
    let under = subst (λ ps. IsUnder ps (V c.args.line.now.node) (V c.args.line.now.number)) c.as_slice-required.ensures.value (c.in_ok-is_under.ensures.under.0 c.if-not-branch.false) in
    let steps = (subst (λ e. IsWalkEnd (IsStep P (judge_rel j) V A) xs 0 e) c.in-Good.is c.in_ok-walk_node.ensures.end).0 in (
      c.m.view_is,
      tabled,
      record { under = under; steps = steps },
      (λ below. both_ways c.in_ok-are_overs_under.field-0 c.if-not-branch-2.true (c.in_ok-are_overs_under.ensures.under.1 below)),
    )

pub returns-then-not-is_bounded-clause-verdict : goal.returns-then-not-is_bounded-clause-verdict
returns-then-not-is_bounded-clause-verdict g c =
    let j = c.args.steps.now.judge.now in
    let method = method_of c.args.method.now in
    let P = judge_program j in
    let A = judge_assignment j in
    let V = judge_value j in
    let d = node c.args.line.now.word c.args.line.now.node (g.L.Premises.Nodes.nodes c.args.line.now.premises) in
    let xs = places (StmtP method.body) d in
    let tabled = subst (λ z. IsTabled z (tree_numbered (slice_get (judge_table j) c.args.line.now.number))) c.rel-rel.ensures
    (subst (λ t. IsTabled c.rel-rel.result.now t) c.tree_or-tree.ensures.tree (c.is_tabled.ensures.0 c.if-not-is_tabled.false)) in
    let under = subst (λ ps. IsUnder ps (V c.args.line.now.node) (V c.args.line.now.number)) c.as_slice-required.ensures.value (c.in_ok-is_under.ensures.under.0 c.if-not-branch.false) in
    let steps = (subst (λ e. IsWalkEnd (IsStep P (judge_rel j) V A) xs 0 e) c.in-Good.is c.in_ok-walk_node.ensures.end).0 in
    let tree = slice_get (judge_table j) c.args.line.now.number in
    let limit = declared_bound method.annotated in
    let held = has_path method.requires_ in
    let same = ap (λ t. below_of (value_of t held) limit) c.tree_or-tree.ensures.tree ∙ ap (λ b. below_of b limit) (sym (cond_is tree held)) in (
      c.m.view_is,
      tabled,
      record { under = under; steps = steps },
      c.in_ok-are_overs_under.ensures.under.0 c.if-not-branch-2.false,
      (λ bounded. both_ways c.is_bounded.result c.if-not-is_bounded.true (c.is_bounded.ensures ∙ same ∙ bounded)),
    )

pub returns-clause-verdict : goal.returns-clause-verdict
returns-clause-verdict g c =
    let j = c.args.steps.now.judge.now in
    let method = method_of c.args.method.now in
    let P = judge_program j in
    let A = judge_assignment j in
    let V = judge_value j in
    let d = node c.args.line.now.word c.args.line.now.node (g.L.Premises.Nodes.nodes c.args.line.now.premises) in
    let xs = places (StmtP method.body) d in
    let tabled = subst (λ z. IsTabled z (tree_numbered (slice_get (judge_table j) c.args.line.now.number))) c.rel-rel.ensures
    (subst (λ t. IsTabled c.rel-rel.result.now t) c.tree_or-tree.ensures.tree (c.is_tabled.ensures.0 c.if-not-is_tabled.false)) in
    let under = subst (λ ps. IsUnder ps (V c.args.line.now.node) (V c.args.line.now.number)) c.as_slice-required.ensures.value (c.in_ok-is_under.ensures.under.0 c.if-not-branch.false) in
    let steps = (subst (λ e. IsWalkEnd (IsStep P (judge_rel j) V A) xs 0 e) c.in-Good.is c.in_ok-walk_node.ensures.end).0 in
    let tree = slice_get (judge_table j) c.args.line.now.number in
    let limit = declared_bound method.annotated in
    let held = has_path method.requires_ in
    let same = ap (λ t. below_of (value_of t held) limit) c.tree_or-tree.ensures.tree ∙ ap (λ b. below_of b limit) (sym (cond_is tree held)) in
    record {
      tabled = tabled;
      stepped = record { under = under; steps = steps };
      overrides = c.in_ok-are_overs_under.ensures.under.0 c.if-not-branch-2.false;
      bounded = sym same ∙ sym c.is_bounded.ensures ∙ c.if-not-is_bounded.false;
    }

pub returns-in_err-walk_node-clause-near : goal.returns-in_err-walk_node-clause-near
returns-in_err-walk_node-clause-near g c = λ own near.
    let j = c.args.steps.now.judge.now in
    let d = node c.args.line.now.word c.args.line.now.node (g.L.Premises.Nodes.nodes c.args.line.now.premises) in
    let p = err_from_is_err_and c.from_residual-in_err-walk_node.result c.from_residual-in_err-walk_node.ensures.1 in
    rw (p.1, p.2) (c.in_err-walk_node.ensures.near (near_nodes (AreOwnNear j) (steps_near c.args.steps.now) (judge_table j) d own near))
