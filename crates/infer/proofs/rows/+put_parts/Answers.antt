use Rattle.algebra.specs.HeldPaths.{has_path}
use Rattle.std.proofs.Common.{sym, ◌∙◌, ap}
use Rattle.infer.proofs.RowLemmas.{parts_more, parts_repeated, put_and_taken}
use Rattle.infer.proofs.rows.+put_parts.Goals as goal

pub returns-clause-row : goal.returns-clause-row
returns-clause-row g t c = parts_more (λ qs. g.G.Algebra.value c.args.algebra.now c.args.value.now (has_path qs)) c.args.row.now.items c.put_parts.new.row.items c.put_parts-2.new.row.items
    c.args.held.now.items c.put_parts.new.held.items c.push-2.new.self.items c.args.paths.now c.in-Some.rest.now c.copy.result (let a = c.in-Some.ensures.cases in let b = c.copy.ensures in let d = c.in-Some.path-is in cc) c.in_ok-push-2.ensures.items c.in_ok-put_parts.ensures.held c.in_ok-put_parts.ensures.row c.in_ok-put_parts-2.ensures.row

pub returns-then-has-clause-row : goal.returns-then-has-clause-row
returns-then-has-clause-row g t c = parts_repeated c.repeat_from.result (g.G.Algebra.value c.args.algebra.now c.args.value.now) c.args.row.now.items c.put_parts.new.row.items c.repeat_from.new.row.items c.args.held.now.items c.args.paths.now c.in-Some.rest.now c.in-Some.path.now c.len-first.result
    (let a = c.in-Some.ensures.cases in let d = c.in-Some.path-is in cc) (ap (λ qs. has_path qs c.in-Some.path.now) (sym (c.as_slice-2.ensures.value ∙ c.in_ok-put_parts.ensures.held)) ∙ sym c.has.ensures ∙ c.if-has.true)
    (c.len-first.ensures ∙ c.args.row.now.ok.0) c.in_ok-put_parts.ensures.row c.repeat_from.ensures

pub returns-clause-held : goal.returns-clause-held
returns-clause-held g t c = put_and_taken c.args.held.now.items c.put_parts.new.held.items c.push-2.new.self.items c.put_parts-2.new.held.items c.pop.new.self.items c.copy.result _
    c.in_ok-put_parts.ensures.held c.in_ok-push-2.ensures.items c.in_ok-put_parts-2.ensures.held c.put_parts-2.new.held.ok.0 c.pop.ensures.rest
