-- One line more.
use Rattle.std.proofs.Common.{◌≡◌, map, [], ◌∷◌, length, Some, slice_get, sym, ap, subst, arith, ◌∙◌}
use Rattle.std.proofs.lemmas.List.{map-append, length-map}
use Rattle.core_program.specs.Views.{method_of, program_of}
use Rattle.books.specs.Memory.{method_line_of}
use Rattle.derive.specs.Bases.{own_trees}
use Rattle.derive.specs.Lines.{AreLinesOf}
use Rattle.derive.specs.Pools.{pool_table}
use Rattle.derive.proofs.LineLemmas.{no_lines, lines_more}
use Rattle.derive.proofs.MoveLemmas.{get_seen}
use Rattle.rules.specs.Near.{rel_of}
use Rattle.derive.proofs.derive_book.lines.Goals as goal

pub loop-m-init : goal.loop-m-init
loop-m-init c =
    let g = c.args.basis.now in
    let P = program_of g.program.now in
    let table = pool_table c.args.pool.now in
    record {
      pool = c.requires.pool c.new-table.result;
      lines = subst (λ ls. AreLinesOf P (rel_of g.sets.now) (own_trees g) 0 table (map method_line_of ls)) (sym c.new-lines.ensures.items) (no_lines P (rel_of g.sets.now) (own_trees g) table c.requires.none);
    }

pub returns-clause-lines : goal.returns-clause-lines
returns-clause-lines c =
    let g = c.args.basis.now in
    let P = program_of g.program.now in
    let e = sym (length-map c.methods-method-items.result.now method_of) ∙ ap length c.methods-method-items.ensures in
    let count : c.loop-m.m ≡ length P.methods = omega (arith, e, c.loop-m-test.false, c.loop-m.auto.m-end) in
    subst (λ n. AreLinesOf P (rel_of g.sets.now) (own_trees g) n (pool_table c.loop-m.pool) (map method_line_of c.loop-m.lines.items)) count c.loop-m.invariant.lines

pub loop-m-preserved : goal.loop-m-preserved
loop-m-preserved c =
    let g = c.args.basis.now in
    let P = program_of g.program.now in
    let at : slice_get P.methods c.loop-m.m ≡ Some (method_of c.method-item.result) =
    ap (λ ms. slice_get ms c.loop-m.m) (sym c.methods-method-items.ensures) ∙ get_seen method_of c.methods-method-items.result.now c.loop-m.m c.method-item.result c.loop-m-test.true c.method-item.is in
    record {
      pool = c.in_ok-made.ensures.pool;
      lines = lines_more P (rel_of g.sets.now) (own_trees g) c.loop-m.m (method_of c.method-item.result) (pool_table c.loop-m.pool) (pool_table c.line.new.pool) (map method_line_of c.loop-m.lines.items)
          (map method_line_of c.push.new.self.items) (method_line_of c.in_ok-made.made) at c.loop-m.invariant.lines c.in_ok-made.ensures.line
          (ap (map method_line_of) c.in_ok-push.ensures.items ∙ map-append method_line_of c.loop-m.lines.items (c.in_ok-made.made ∷ []));
    }
