use Rattle.std.proofs.Common.{◌++◌, ◌-◌, ap, sym, ◌∙◌, arith}
use Rattle.std.proofs.lemmas.List.{append-nil}
use Rattle.classes.specs.Climbs.{fields_above}
use Rattle.classes.specs.Families.{tree_of}
use Rattle.classes.specs.Lines.{ancestors}
use Rattle.classes.proofs.Climbing.{list_later}
use Rattle.classes.proofs.FieldLines.{all_with_fields, no_more}
use Rattle.classes.proofs.family.Family.line_with_fields.Goals as goal

pub loop-left-preserved : goal.loop-left-preserved
loop-left-preserved c =
    let up = fields_above (tree_of c.args.self.now) in
    ap (λ o. c.push.new.self.items ++ ancestors up (c.loop-left.left - 1) o) c.fields_above-next-in-loop-left.ensures
    ∙ list_later up c.loop-left.left c.in-Some.class c.loop-left.line.items c.push.new.self.items _ c.loop-left-test.true
    (ap (λ o. c.loop-left.line.items ++ ancestors up c.loop-left.left o) (sym c.in-Some.is) ∙ c.loop-left.invariant)
    c.in_ok-push.ensures.items

pub returns-in_default : goal.returns-in_default
returns-in_default c =
    let tree = tree_of c.args.self.now in
    let line = c.loop-left.line.items in
    sym (append-nil line)
    ∙ ap (λ o. line ++ ancestors (fields_above tree) c.loop-left.left o) (sym c.in_default.is)
    ∙ c.loop-left.invariant
    ∙ all_with_fields tree c.args.number (sym c.is_on_circle.ensures ∙ c.if-is_on_circle.false)

pub returns : goal.returns
returns c =
    let tree = tree_of c.args.self.now in
    let line = c.loop-left.line.items in
    let past = c.loop-left-test.false in
    sym (append-nil line)
    ∙ ap (λ ks. line ++ ks) (sym (no_more (fields_above tree) c.loop-left.left c.loop-left.next (omega (arith, past))))
    ∙ c.loop-left.invariant
    ∙ all_with_fields tree c.args.number (sym c.is_on_circle.ensures ∙ c.if-is_on_circle.false)
