-- What is noted of a call changes nothing that is seen of the machine.
use Rattle.std.proofs.Common.{◌≡◌, ◌+◌, ◌<◌, sym, ap, subst, ◌∙◌}
use Rattle.std.specs.Prelude.{Ok, Err}
use Rattle.semantics.specs.Step.{outcome, kind_of}
use Rattle.machine.specs.Standing.{program_run, StandsFor, IsTurn, IsSame}
use Rattle.machine.proofs.KindTurns.{kind_told, no_kind}
use Rattle.machine.proofs.machine.Machine.step_kind.Goals as goal

pub take-requires : goal.take-requires
take-requires c = record {
  made = subst (λ m. m.made < 4294967295) (sym c.note.ensures) c.requires;
  decided = c.turn-turn.ensures;
}

pub returns-in-Ok-clause-turn : goal.returns-in-Ok-clause-turn
returns-in-Ok-clause-turn c q h =
    let taken = subst (λ m. IsTurn c.args.thread (Ok tt) c.take.new.self q (outcome (program_run m) q c.args.thread)) c.note.ensures (c.in-Ok.ensures.turn q (subst (λ m. StandsFor m q) (sym c.note.ensures) h)) in
    kind_told c.args.thread c.take.new.self q c.turn_kind-kind.result (outcome (program_run c.args.self.now) q c.args.thread) (λ kind is. c.turn_kind-kind.ensures q kind (subst (λ m. StandsFor m q) (sym c.note.ensures) h) (ap (λ m. kind_of (program_run m) q c.args.thread) c.note.ensures ∙ is)) taken

pub returns-in-Ok-clause-counted : goal.returns-in-Ok-clause-counted
returns-in-Ok-clause-counted c = subst (λ m. c.take.new.self.made ≡ m.made + 1) c.note.ensures c.in-Ok.ensures.counted

pub returns-in-Ok-clause-program : goal.returns-in-Ok-clause-program
returns-in-Ok-clause-program c = c.in-Ok.ensures.program ∙ ap (λ m. m.program) c.note.ensures

pub returns-in-Ok-clause-code : goal.returns-in-Ok-clause-code
returns-in-Ok-clause-code c = c.in-Ok.ensures.code ∙ ap (λ m. m.code) c.note.ensures

pub returns-in-Err-clause-turn : goal.returns-in-Err-clause-turn
returns-in-Err-clause-turn c q h =
    let taken = subst (λ m. IsTurn c.args.thread (Err c.in-Err.end) c.take.new.self q (outcome (program_run m) q c.args.thread)) c.note.ensures (c.in-Err.ensures.turn q (subst (λ m. StandsFor m q) (sym c.note.ensures) h)) in
    no_kind c.args.thread c.take.new.self q c.in-Err.end (outcome (program_run c.args.self.now) q c.args.thread) taken

pub returns-in-Err-clause-kept : goal.returns-in-Err-clause-kept
returns-in-Err-clause-kept c = subst (λ m. IsSame c.take.new.self m) c.note.ensures c.in-Err.ensures.kept

pub returns-in-Err-clause-program : goal.returns-in-Err-clause-program
returns-in-Err-clause-program c = c.in-Err.ensures.program ∙ ap (λ m. m.program) c.note.ensures

pub returns-in-Err-clause-code : goal.returns-in-Err-clause-code
returns-in-Err-clause-code c = c.in-Err.ensures.code ∙ ap (λ m. m.code) c.note.ensures
