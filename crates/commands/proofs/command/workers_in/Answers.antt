-- A word that is no number of workers is the decimal digits of none.
use Rattle.std.proofs.Common.{◌≡◌, ◌∙◌, decimal, true, false, not, sym, ap, arith}
use Rattle.std.proofs.lemmas.Fmt.{parse-decimal}
use Rattle.std.proofs.lemmas.Slice.Eq.{bytes_eq-Decides}
use Rattle.commands.proofs.command.workers_in.Goals as goal

pub returns-in_default : goal.returns-in_default
returns-in_default c = λ n small e.
    let ok = parse-decimal 32 n c.args.word.now c.parse.result (omega (arith, small)) (omega (arith, small)) e c.parse.ensures.value.0 in
    absurd (let f = sym c.in_default.is ∙ ok in cc)

pub returns-then-ne : goal.returns-then-ne
returns-then-ne c = λ n small e.
    let ok = sym c.in-Ok.is ∙ parse-decimal 32 n c.args.word.now c.parse.result (omega (arith, small)) (omega (arith, small)) e c.parse.ensures.value.0 in
    let same : c.in-Ok.number ≡ n = cc in
    let equal = (bytes_eq-Decides c.format.result.now c.args.word.now).1 (c.format.ensures.text ∙ ap decimal same ∙ sym e) in
    absurd (let f : true ≡ false = sym c.if-ne.true ∙ c.ne.ensures ∙ ap not equal in cc)

pub returns-else-number-lt-MOST_WORKERS : goal.returns-else-number-lt-MOST_WORKERS
returns-else-number-lt-MOST_WORKERS c = λ n small e.
    let ok = sym c.in-Ok.is ∙ parse-decimal 32 n c.args.word.now c.parse.result (omega (arith, small)) (omega (arith, small)) e c.parse.ensures.value.0 in
    let same : c.in-Ok.number ≡ n = cc in
    absurd (omega (arith, small, same, c.if-number-lt-MOST_WORKERS.false))
