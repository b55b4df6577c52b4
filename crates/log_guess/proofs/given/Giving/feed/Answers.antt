-- The bytes that are left begin with the one at which it ends.
use Rattle.std.proofs.Common.{◌+◌, drop, ap, sym, ◌∙◌, subst}
use Rattle.std.proofs.lemmas.List.{drop_more}
use Rattle.log_guess.specs.Places.{guards_from, IsTextEnd}
use Rattle.log_guess.proofs.given.Giving.feed.Goals as goal

pub returns-in-Err : goal.returns-in-Err
returns-in-Err c =
    let at = c.loop-byte.byte-index in
    let bytes = c.args.bytes.now in
    subst (λ g. IsTextEnd g c.in-Err.end)
    (sym (c.loop-byte.invariant.read ∙ ap (guards_from c.loop-byte.self) (drop_more bytes at 0 c.loop-byte-test.true)))
    (c.in-Err.ensures (drop (at + 1) bytes))
