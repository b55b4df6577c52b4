use Rattle.std.proofs.Common.{◌∷◌, refl, ap, sym, ◌∙◌}
use Rattle.printer.specs.Layout.{writes, Fixed}
use Rattle.syntax.specs.declared.terminal.Terminal.TheVariants as T
use Rattle.printer.specs.Printing.{further_lexemes, param_lexemes}
use Rattle.printer.proofs.Writing.{item_step, item_end, writes_one}
use Rattle.printer.proofs.print.write_further_params.Goals as goal

pub loop-param-preserved : goal.loop-param-preserved
loop-param-preserved c =
    item_step (λ z. further_lexemes (param_lexemes c.args.keeps_final) z) (λ x. Fixed T.Comma ∷ param_lexemes c.args.keeps_final x) (λ x xs. refl)
    c.args.params.now c.loop-param.param-index c.param-item.result c.loop-param.to c.write_param.new.to (writes c.args.to.now (further_lexemes (param_lexemes c.args.keeps_final) (c.args.params.now)))
    c.loop-param-test.true c.param-item.is c.loop-param.invariant (c.in_ok-write_param.ensures ∙ ap (λ p. writes p (param_lexemes c.args.keeps_final c.param-item.result)) c.in_ok-terminal.ensures.put ∙ sym (writes_one c.loop-param.to (Fixed T.Comma) (param_lexemes c.args.keeps_final c.param-item.result)))

pub returns : goal.returns
returns c =
    item_end (λ z. further_lexemes (param_lexemes c.args.keeps_final) z) refl c.args.params.now c.loop-param.param-index c.loop-param.to (writes c.args.to.now (further_lexemes (param_lexemes c.args.keeps_final) (c.args.params.now)))
    c.loop-param-test.false c.loop-param.invariant
