use Rattle.std.proofs.Common.{◌∷◌, map, refl, ap, sym, ◌∙◌}
use Rattle.printer.specs.Layout.{writes, Fixed}
use Rattle.syntax.specs.declared.terminal.Terminal.TheVariants as T
use Rattle.printer.specs.Printing.{further_lexemes, lock_lexemes}
use Rattle.syntax.specs.Views.{lock_of}
use Rattle.printer.proofs.Writing.{item_step, item_end, writes_one}
use Rattle.printer.proofs.print.write_further_locks.Goals as goal

pub loop-lock-preserved : goal.loop-lock-preserved
loop-lock-preserved c =
    item_step (λ z. further_lexemes lock_lexemes (map lock_of z)) (λ x. Fixed T.Comma ∷ lock_lexemes (lock_of x)) (λ x xs. refl)
    c.args.locks.now c.loop-lock.lock-index c.lock-item.result c.loop-lock.to c.write_lock.new.to (writes c.args.to.now (further_lexemes lock_lexemes (map lock_of c.args.locks.now)))
    c.loop-lock-test.true c.lock-item.is c.loop-lock.invariant (c.in_ok-write_lock.ensures ∙ ap (λ p. writes p (lock_lexemes (lock_of c.lock-item.result))) c.in_ok-terminal.ensures.put ∙ sym (writes_one c.loop-lock.to (Fixed T.Comma) (lock_lexemes (lock_of c.lock-item.result))))

pub returns : goal.returns
returns c =
    item_end (λ z. further_lexemes lock_lexemes (map lock_of z)) refl c.args.locks.now c.loop-lock.lock-index c.loop-lock.to (writes c.args.to.now (further_lexemes lock_lexemes (map lock_of c.args.locks.now)))
    c.loop-lock-test.false c.loop-lock.invariant
