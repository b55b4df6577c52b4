-- What is noted of a call changes nothing that is seen of the machine.
use Rattle.std.proofs.Common.{◌≡◌, ◌+◌, ◌<◌, sym, ap, subst, ◌∙◌}
use Rattle.std.specs.Prelude.{OnOk, OnErr}
use Rattle.core_program.specs.Typed.{IsTyped}
use Rattle.semantics.specs.Step.{outcome}
use Rattle.machine.specs.Standing.{program_run, StandsFor, IsTurn, IsSame}
use Rattle.machine.proofs.machine.Machine.step.Goals as goal

pub take-requires : goal.take-requires
take-requires c = record {
  made = subst (λ m. m.made < 4294967295) (sym c.note.ensures) c.requires;
  decided = c.turn-turn.ensures;
}

pub returns-clause-turn : goal.returns-clause-turn
returns-clause-turn c q h =
    subst (λ m. IsTurn c.args.thread c.take.result c.take.new.self q (outcome (program_run m) q c.args.thread)) c.note.ensures (c.take.ensures.turn q (subst (λ m. StandsFor m q) (sym c.note.ensures) h))

pub returns-clause-kept : goal.returns-clause-kept
returns-clause-kept c = subst (λ m. OnErr c.take.result (IsSame c.take.new.self m)) c.note.ensures c.take.ensures.kept

pub returns-clause-lean : goal.returns-clause-lean
returns-clause-lean c typed q h =
    c.take.ensures.lean (subst (λ m. IsTyped (program_run m)) (sym c.note.ensures) typed) q (subst (λ m. StandsFor m q) (sym c.note.ensures) h)

pub returns-clause-counted : goal.returns-clause-counted
returns-clause-counted c = subst (λ m. OnOk c.take.result (c.take.new.self.made ≡ m.made + 1)) c.note.ensures c.take.ensures.counted

pub returns-clause-program : goal.returns-clause-program
returns-clause-program c = c.take.ensures.program ∙ ap (λ m. m.program) c.note.ensures

pub returns-clause-code : goal.returns-clause-code
returns-clause-code c = c.take.ensures.code ∙ ap (λ m. m.code) c.note.ensures
