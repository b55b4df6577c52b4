-- A test falls where its branches do and the first is at most the second.
use Rattle.std.proofs.Common.{◌≡◌, ◌↔◌, ◌&&◌, true, sym, subst}
use Rattle.algebra.specs.HeldPaths.{Held}
use Rattle.conditions.specs.Conditions.{cond_of, value_of, IsCanonical}
use Rattle.rules.specs.Rules.{AtMost}
use Rattle.book_check.specs.Good.{IsAntitoneValue}
use Rattle.book_check.proofs.LineLemmas.{falls_test}
use Rattle.book_check.proofs.line.+falls.Goals as goal

pub returns-in-Test : goal.returns-in-Test
returns-in-Test t c =
    let p = c.in-Test.field-0 in
    let a = c.in-Test.a.value in
    let b = c.in-Test.b.value in
    let here = c.below-here.result in
    let held = c.falls-held.result in
    let free = c.falls-free.result in
    let first : (here ≡ true) ↔ ((H : Held) → AtMost (value_of (cond_of a) H) (value_of (cond_of b) H)) =
    subst (λ z. (here ≡ true) ↔ ((H : Held) → AtMost (value_of (cond_of a) H) (value_of (cond_of z) H))) c.deref-in-Test.ensures
    (subst (λ z. (here ≡ true) ↔ ((H : Held) → AtMost (value_of (cond_of z) H) (value_of (cond_of c.deref-in-Test.result.now) H))) c.deref.ensures c.below-here.ensures) in
    let second : (held ≡ true) ↔ IsAntitoneValue (value_of (cond_of a)) = subst (λ z. (held ≡ true) ↔ IsAntitoneValue (value_of (cond_of z))) c.deref-in-Test-2.ensures c.falls-held.ensures in
    let third : (free ≡ true) ↔ IsAntitoneValue (value_of (cond_of b)) = subst (λ z. (free ≡ true) ↔ IsAntitoneValue (value_of (cond_of z))) c.deref-in-Test-3.ensures c.falls-free.ensures in
    let whole = falls_test p (cond_of a) (cond_of b) here held free (subst (λ z. IsCanonical (cond_of z)) c.in-Test.is c.requires) first second third in
    subst (λ x. (x ≡ true) ↔ IsAntitoneValue (value_of (cond_of c.args.t.now))) (sym c.all_three.ensures)
    (subst (λ z. ((here && (held && free)) ≡ true) ↔ IsAntitoneValue (value_of (cond_of z))) (sym c.in-Test.is) whole)
