-- The book of all lines.
use Rattle.std.proofs.Common.{length, map, sym, ap, subst, arith}
use Rattle.conditions.specs.Conditions.{cond_of}
use Rattle.core_program.specs.Views.{program_of}
use Rattle.books.specs.Memory.{book_of, method_line_of}
use Rattle.book_check.specs.Good.{IsGoodBook}
use Rattle.derive.specs.Derived.{IsDerived}
use Rattle.derive.specs.Lines.{AreLinesOf}
use Rattle.derive.specs.Pools.{pool_table}
use Rattle.book_check.specs.NearBooks.{IsNearBook}
use Rattle.book_check.proofs.CanonicalLemmas.{trees_canonical}
use Rattle.derive.proofs.NearLemmas.{near_book}
use Rattle.derive.proofs.Whole.{derived, written, good}
use Rattle.rules.proofs.Required.{required_in_rel}
use Rattle.rules.specs.Near.{loc_of, rel_of}
use Rattle.derive.proofs.derive_book.derive.Goals as goal

pub lines-requires-clause-few : goal.lines-requires-clause-few
lines-requires-clause-few c = let own = ap (λ trees. length (map cond_of trees)) c.as_slice-own.ensures.value in omega (arith, own, c.requires.count, c.requires.typed.size)

pub new-requires : goal.new-requires
new-requires c =
    let P = program_of c.args.program.now in
    let rel = rel_of c.args.sets.now in
    let trees = map cond_of c.args.inferred.now.methods.items in
    let table = pool_table c.lines.new.pool in
    let lines = map method_line_of c.in_ok-methods.methods.items in
    let pool = c.in_ok-methods.ensures.pool in
    let made = subst (λ own. AreLinesOf P rel (map cond_of own) (length P.methods) table lines) c.as_slice-own.ensures.value c.in_ok-methods.ensures.lines in
    written P rel trees table lines made c.requires.count c.requires.typed (omega (arith, c.requires.typed.size)) pool.few pool.trees

pub returns-clause-derived : goal.returns-clause-derived
returns-clause-derived c =
    let P = program_of c.args.program.now in
    let rel = rel_of c.args.sets.now in
    let trees = map cond_of c.args.inferred.now.methods.items in
    let table = pool_table c.lines.new.pool in
    let lines = map method_line_of c.in_ok-methods.methods.items in
    let made = subst (λ own. AreLinesOf P rel (map cond_of own) (length P.methods) table lines) c.as_slice-own.ensures.value c.in_ok-methods.ensures.lines in
    subst (λ book. IsDerived P rel trees (book_of book)) (sym c.new.ensures) (derived P rel trees table lines made c.requires.count c.in_ok-methods.ensures.pool.distinct)

pub returns-clause-good : goal.returns-clause-good
returns-clause-good c = λ keeps.
    let P = program_of c.args.program.now in
    let rel = rel_of c.args.sets.now in
    let trees = map cond_of c.args.inferred.now.methods.items in
    let table = pool_table c.lines.new.pool in
    let lines = map method_line_of c.in_ok-methods.methods.items in
    let made = subst (λ own. AreLinesOf P rel (map cond_of own) (length P.methods) table lines) c.as_slice-own.ensures.value c.in_ok-methods.ensures.lines in
    subst (λ book. IsGoodBook P rel (book_of book)) (sym c.new.ensures)
    (good P rel trees table lines made c.requires.count (λ m method is. required_in_rel P c.args.sets.now c.requires.relevant c.requires.typed m method is) c.requires.canonical keeps)

pub returns-clause-near : goal.returns-clause-near
returns-clause-near c = λ keeps.
    let P = program_of c.args.program.now in
    let sets = c.args.sets.now in
    let rel = rel_of sets in
    let trees = map cond_of c.args.inferred.now.methods.items in
    let table = pool_table c.lines.new.pool in
    let lines = map method_line_of c.in_ok-methods.methods.items in
    let pool = c.in_ok-methods.ensures.pool in
    let made = subst (λ own. AreLinesOf P rel (map cond_of own) (length P.methods) table lines) c.as_slice-own.ensures.value c.in_ok-methods.ensures.lines in
    subst (λ book. IsNearBook rel (loc_of sets) (book_of book)) (sym c.new.ensures)
    (near_book P sets c.requires.relevant trees table lines made
    (good P rel trees table lines made c.requires.count (λ m method is. required_in_rel P sets c.requires.relevant c.requires.typed m method is) c.requires.canonical keeps)
    (trees_canonical table pool.trees))
