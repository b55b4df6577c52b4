use Rattle.std.proofs.Common.{Some, None, sym, ◌∙◌}
use Rattle.core_program.specs.Views.{expr_of, exprs_from, program_of}
use Rattle.explain.proofs.NameLemmas.{passed_path}
use Rattle.explain.proofs.names.passed.Goals as goal

pub returns-in_err-passed_expr : goal.returns-in_err-passed_expr
returns-in_err-passed_expr c =
    c.from_residual.ensures ∙ sym (passed_path (program_of c.args.program.now) (expr_of c.args.receiver.now) (exprs_from c.args.args.now) c.args.root None c.in_err-passed_expr.ensures)

pub returns : goal.returns
returns c =
    c.path_of.ensures
    ∙ sym (passed_path (program_of c.args.program.now) (expr_of c.args.receiver.now) (exprs_from c.args.args.now) c.args.root (Some (expr_of c.in_ok-passed_expr.field-0.now)) c.in_ok-passed_expr.ensures)
