-- A node is raised to the greater mark of the two nodes before it.
use Rattle.std.proofs.Common.{◌≡◌, ◌<◌, max, get_or, length, ◌∙◌, ap, subst, sym, arith}
use Rattle.fixpoint.proofs.AssignmentLemmas.{length-above}
use Rattle.fixpoint.proofs.ReachLemmas.{rows, pair_at, unmet, above-set, under-set}
use Rattle.fixpoint.proofs.tests.ReachRising.raise.Goals as goal

pub returns-clause-exact : goal.returns-clause-exact
returns-clause-exact c =
    let r = c.args.self.now in
    let paired : length r.before.items ≡ length r.marks.items = omega (arith, r.paired, r.before.ok, r.marks.ok) in
    let pair = pair_at r.before.items r.marks.items c.args.cell c.index.result.now paired c.requires c.index.ensures in
    let first : c.mark_at.result ≡ get_or r.marks.items c.index.result.now.0 0 = c.mark_at.ensures ∙ ap (λ xs. get_or xs c.index.result.now.0 0) c.deref.ensures.value in
    let second : c.mark_at-2.result ≡ get_or r.marks.items c.index.result.now.1 0 = c.mark_at-2.ensures ∙ ap (λ xs. get_or xs c.index.result.now.1 0) c.deref-2.ensures.value in
    let mark : c.max-mark.result ≡ max (get_or r.marks.items c.index.result.now.0 0) (get_or r.marks.items c.index.result.now.1 0) = c.max-mark.ensures ∙ ap (λ n. max n c.mark_at-2.result) first ∙ ap (λ n. max (get_or r.marks.items c.index.result.now.0 0) n) second in
    let own : c.mark_at-3.result ≡ get_or r.marks.items c.args.cell 0 = c.mark_at-3.ensures ∙ ap (λ xs. get_or xs c.args.cell 0) c.deref-3.ensures.value in
    unmet r.before.items r.marks.items c.args.cell c.max-mark.result c.index.result.now pair mark (omega (arith, own, c.if-mark-mark_at.false))

pub returns-clause-rises : goal.returns-clause-rises
returns-clause-rises c = λ rose.
    let r = c.args.self.now in
    let own : c.mark_at-3.result ≡ get_or r.marks.items c.args.cell 0 = c.mark_at-3.ensures ∙ ap (λ xs. get_or xs c.args.cell 0) c.deref-3.ensures.value in
    above-set r.marks.items c.args.cell c.max-mark.result (omega (arith, own, c.if-mark-mark_at.false))

pub returns-clause-under : goal.returns-clause-under
returns-clause-under c = λ rose x closed above.
    let r = c.args.self.now in
    let paired : length r.before.items ≡ length r.marks.items = omega (arith, r.paired, r.before.ok, r.marks.ok) in
    let pair = pair_at r.before.items r.marks.items c.args.cell c.index.result.now paired c.requires c.index.ensures in
    let first : c.mark_at.result ≡ get_or r.marks.items c.index.result.now.0 0 = c.mark_at.ensures ∙ ap (λ xs. get_or xs c.index.result.now.0 0) c.deref.ensures.value in
    let second : c.mark_at-2.result ≡ get_or r.marks.items c.index.result.now.1 0 = c.mark_at-2.ensures ∙ ap (λ xs. get_or xs c.index.result.now.1 0) c.deref-2.ensures.value in
    let mark : c.max-mark.result ≡ max (get_or r.marks.items c.index.result.now.0 0) (get_or r.marks.items c.index.result.now.1 0) = c.max-mark.ensures ∙ ap (λ n. max n c.mark_at-2.result) first ∙ ap (λ n. max (get_or r.marks.items c.index.result.now.0 0) n) second in
    under-set r.before.items x r.marks.items c.args.cell c.max-mark.result c.index.result.now pair mark (closed c.args.cell (subst (λ n. c.args.cell < n) (sym (length-above x (rows r.marks.items) above)) c.requires)) above
