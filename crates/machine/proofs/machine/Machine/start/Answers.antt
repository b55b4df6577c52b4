use Rattle.std.proofs.Common.{[], ◌∷◌, ◌++◌, ap, ◌∙◌, arith}
use Rattle.std.specs.FinMap as finite
use Rattle.std.specs.FinMap.{get-empty}
use Rattle.core_program.specs.Views.{program_of}
use Rattle.state.specs.Memory.{address_cmp}
use Rattle.state.specs.States.{main_address}
use Rattle.machine.proofs.Counting.{start_counted}
use Rattle.machine.proofs.Starting.{started, start_kept}
use Rattle.machine.proofs.machine.Machine.start.Goals as goal

pub add-requires : goal.add-requires
add-requires c = ap (λ h. finite.get h main_address) c.new-heap.ensures ∙ get-empty address_cmp main_address

pub invariant_of-result : goal.invariant_of-result
invariant_of-result c =
    let class = c.args.program.now.main_class in (
      c.requires,
      omega (arith, c.in_ok-push.ensures.len, c.new-threads.ensures.len),
      omega arith,
      start_kept (program_of c.args.program.now) c.args.code.now.code.items c.add.new.self c.new.result c.push.new.self.items c.new-2.result.items
          (c.in_ok-add.ensures.ok ∙ (λ j. finite.insert (c.new-heap.ensures j) main_address (record { class = class; values = c.in_ok-values.ensures j }))) c.new.ensures
          (c.in_ok-push.ensures.items ∙ (λ j. c.new-threads.ensures.items j ++ (c.ready.ensures j ∷ []))) c.new-2.ensures.items c.args.code.now.entry.items c.args.code.now.room.items,
      start_counted (program_of c.args.program.now) c.add.new.self c.new.result
          (c.in_ok-add.ensures.ok ∙ (λ j. finite.insert (c.new-heap.ensures j) main_address (record { class = class; values = c.in_ok-values.ensures j }))) c.new.ensures,
      c.new-3.ensures,
    )

pub returns-clause-stands : goal.returns-clause-stands
returns-clause-stands c =
    let class = c.args.program.now.main_class in
    started (program_of c.args.program.now) c.args.code.now.code.items c.add.new.self c.new.result c.push.new.self.items c.new-2.result.items
    (c.in_ok-add.ensures.ok ∙ (λ j. finite.insert (c.new-heap.ensures j) main_address (record { class = class; values = c.in_ok-values.ensures j }))) c.new.ensures
    (c.in_ok-push.ensures.items ∙ (λ j. c.new-threads.ensures.items j ++ (c.ready.ensures j ∷ []))) c.new-2.ensures.items
