use Rattle.std.proofs.Common.{sym, ap, subst, ◌∙◌, is_some}
use Rattle.classes.specs.Jumps.{AreOfBucket}
use Rattle.classes.specs.Table.{own_field}
use Rattle.classes.specs.Views.{table_data}
use Rattle.classes.proofs.Jumping.{fields_fall, found_there, found_stepped, found_ended}
use Rattle.classes.proofs.entries.ClassTable.field_by_jumps.Goals as goal

pub returns-then-is_some : goal.returns-then-is_some
returns-then-is_some c =
    let t = table_data c.args.self.now in
    let own = own_field t c.args.name.now in
    let fall = subst (λ b. AreOfBucket c.args.jumps.now own b) (sym c.bucket-bucket.ensures.is) (fields_fall t c.args.jumps.now c.requires c.args.name.now) in
    c.own_field-found.ensures
    ∙ found_there t c.args.jumps.now c.requires own c.passed-from.result (ap is_some (sym c.own_field-found.ensures) ∙ sym c.is_some.ensures ∙ c.if-is_some.true)
    ∙ c.passed-from.ensures own fall ∙ c.loop.invariant

pub returns-in_err-at : goal.returns-in_err-at
returns-in_err-at c =
    let t = table_data c.args.self.now in
    let own = own_field t c.args.name.now in
    let fall = subst (λ b. AreOfBucket c.args.jumps.now own b) (sym c.bucket-bucket.ensures.is) (fields_fall t c.args.jumps.now c.requires c.args.name.now) in
    c.from_residual.ensures
    ∙ found_ended t c.args.jumps.now c.requires own c.passed-from.result (sym c.above.ensures ∙ c.in_err-at.was) (ap is_some (sym c.own_field-found.ensures) ∙ sym c.is_some.ensures ∙ c.if-is_some.false)
    ∙ c.passed-from.ensures own fall ∙ c.loop.invariant

pub loop-preserved : goal.loop-preserved
loop-preserved c =
    let t = table_data c.args.self.now in
    let own = own_field t c.args.name.now in
    let fall = subst (λ b. AreOfBucket c.args.jumps.now own b) (sym c.bucket-bucket.ensures.is) (fields_fall t c.args.jumps.now c.requires c.args.name.now) in
    found_stepped t c.args.jumps.now c.requires own c.passed-from.result c.in_ok-at.at (sym c.above.ensures ∙ c.in_ok-at.was) (ap is_some (sym c.own_field-found.ensures) ∙ sym c.is_some.ensures ∙ c.if-is_some.false)
    ∙ c.passed-from.ensures own fall ∙ c.loop.invariant
