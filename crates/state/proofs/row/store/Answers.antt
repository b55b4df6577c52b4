use Rattle.std.proofs.Common.{◌<◌, ◌≡◌, length, refl, sym, ap, subst, ◌∙◌, arith, vec_len}
use Rattle.std.specs.Prelude.{Some}
use Rattle.state.specs.Slots.{filled_in, SlotWritten}
use Rattle.state.proofs.Addresses.{differ}
use Rattle.state.proofs.Grids.{filled_more, filled_within, set_written, set_filled, push_written}
use Rattle.std.proofs.Math.ListN.{set, length-set}
use Rattle.state.proofs.row.store.Goals as goal

pub returns-in-Some-clause-ok : goal.returns-in-Some-clause-ok
returns-in-Some-clause-ok g c =
    let below : c.args.at < length c.args.slots.now.items = omega (arith, c.in-Some.ensures.variant.0 refl) in
    set_written c.args.slots.now.items c.args.at (Some c.args.value) below

pub returns-in-Some-clause-filled : goal.returns-in-Some-clause-filled
returns-in-Some-clause-filled g c =
    let below : c.args.at < length c.args.slots.now.items = omega (arith, c.in-Some.ensures.variant.0 refl) in
    set_filled c.args.slots.now.items c.args.at c.args.value below c.requires.empty

pub returns-in-Some-clause-bound : goal.returns-in-Some-clause-bound
returns-in-Some-clause-bound g c = let p = filled_within (set c.args.slots.now.items c.args.at (Some c.args.value)) in omega (arith, length-set c.args.slots.now.items c.args.at (Some c.args.value))

pub returns-in_ok-push-in-None-clause-ok : goal.returns-in_ok-push-in-None-clause-ok
returns-in_ok-push-in-None-clause-ok g c =
    let past = λ (h : c.args.at < vec_len c.args.slots.now). differ (sym (c.in-None.ensures.variant.1 h)) in
    let at_end : c.args.at ≡ length c.args.slots.now.items = omega (arith, past, c.requires.within) in
    subst (λ xs. SlotWritten c.args.slots.now.items xs c.args.at (Some c.args.value)) (sym c.in_ok-push-in-None.ensures.items) (push_written c.args.slots.now.items c.args.at (Some c.args.value) at_end)

pub returns-in_ok-push-in-None-clause-filled : goal.returns-in_ok-push-in-None-clause-filled
returns-in_ok-push-in-None-clause-filled g c =
    ap filled_in c.in_ok-push-in-None.ensures.items ∙ filled_more c.args.slots.now.items (Some c.args.value) ∙ omega arith

pub returns-in_ok-push-in-None-clause-bound : goal.returns-in_ok-push-in-None-clause-bound
returns-in_ok-push-in-None-clause-bound g c = let p = filled_within c.push.new.self.items in omega arith

pub returns-in_err-push-in-None-clause-bound : goal.returns-in_err-push-in-None-clause-bound
returns-in_err-push-in-None-clause-bound g c = let p = filled_within c.push.new.self.items in omega arith
