use Rattle.std.proofs.Common.{◌≡◌, None, true, false, sym, ap, subst, ◌∙◌}
use Rattle.std.specs.Prelude.{map, not, is_some, slice_get}
use Rattle.core_program.specs.Views.{program_of}
use Rattle.state.specs.declared.value.Value.TheVariants.{Ref}
use Rattle.replay.specs.Answers.{Gives}
use Rattle.replay.specs.Evaluation.{make}
use Rattle.replay.specs.Entries.{plain_thread_of}
use Rattle.replay.proofs.Numbers.{numbered_added, made_is}
use Rattle.replay.proofs.effects.make.Goals as goal

pub invariant_of-plain-2 : goal.invariant_of-plain-2
invariant_of-plain-2 c =
    numbered_added c.plain.inside.heap c.add.new.self c.args.thread (record { thread = c.args.thread; count = c.in-Some.count }) (record { class = c.args.class; values = c.in_ok-values.values.items }) c.add.result
    (λ i. record { thread = c.args.thread; count = c.in-Some.ensures.count i }) c.add.ensures.ok c.add.ensures.err c.plain.invariant

pub returns : goal.returns
returns c =
    let P = program_of c.args.program.now in
    let there : slice_get (program_of c.args.program.now).classes c.args.class ≡ None → ⊥ = λ none. let k : true ≡ false = sym (ap (λ o. not (is_some o)) none) ∙ sym c.lacks_class.ensures ∙ c.if-lacks_class.false in absurd cc in
    let inside = c.plain.inside in
    subst (λ q. make P c.args.thread c.args.class (slice_get P.classes c.args.class) c.args.arguments.now q ≡ Gives (Ref (record { thread = c.args.thread; count = c.in-Some.count })) (record { heap = c.add.new.self; locks = inside.locks; threads = map plain_thread_of inside.threads.items; output = inside.output.items }))
    c.plain.view_is
    (made_is P c.args.thread c.args.class c.in-Some.count (slice_get P.classes c.args.class) c.args.arguments.now (record { heap = inside.heap; locks = inside.locks; threads = map plain_thread_of inside.threads.items; output = inside.output.items }) c.add.new.self
    (record { class = c.args.class; values = c.in_ok-values.values.items }) there c.in-Some.ensures.count c.in-Some.ensures.some c.in_ok-values.ensures c.in_ok-add.ensures.ok)
