-- What is told of a call is what evaluation gives.
use Rattle.std.proofs.Common.{◌≡◌, ℕ, ◌<◌, List, length, sym, ap, subst, ◌∙◌}
use Rattle.std.specs.Prelude.{Option}
use Rattle.std.proofs.lemmas.Option.{same_Some}
use Rattle.core_program.specs.Core.{Program}
use Rattle.core_program.specs.Typed.{IsTyped}
use Rattle.state.specs.declared.value.Value.{Value}
use Rattle.semantics.specs.Run.{IsUninterrupted}
use Rattle.replay.specs.Plain.{Plain, plain_of}
use Rattle.replay.specs.Answers.{Answer, Gives, Fails, Blocked, Short, Deep}
use Rattle.replay.specs.Evaluation.{most_number, evaluate}
use Rattle.replay.specs.Calls.{Asked, EvaluationAgrees}
use Rattle.replay.specs.Records.{Told, IsTold}
use Rattle.replay.specs.Given.{GivesTold, IsGiven}
use Rattle.replay.proofs.Neat.{neat_of}
use Rattle.replay.proofs.Schedules.{call_replayed}

module _ (P : Program) (s : List ℕ) (told : Told) (is : IsTold P s told) where
  by_answer : (a : Answer (Option Value)) → EvaluationAgrees P told.thread is.steps told.method is.before is.after a → GivesTold is.before told a
  by_answer (Gives given plain) (state, result, flat, ready) = (result ∙ sym is.result, ap (λ (p : Plain). p.output) state.1 ∙ is.prints)
  by_answer (Fails kind) h = h
  by_answer (Blocked a holder) h = h
  by_answer Short h = h
  by_answer Deep h = tt

  pub given_of : IsTyped P → IsUninterrupted P s → length s < most_number → IsGiven P s told
  given_of typed alone short =
      let r = call_replayed P typed (neat_of P typed) s alone short is.place is.steps told.thread is.before is.after is.call in
      let same : r.asked ≡ record { on = told.on; method = told.method; arguments = is.arguments } = same_Some r.asked (record { on = told.on; method = told.method; arguments = is.arguments }) (sym r.is ∙ is.asked) in
      record {
        place = is.place;
        entry = is.entry;
        before = is.before;
        ran = is.call.before;
        arguments = is.arguments;
        turns = is.steps;
        gives = by_answer (evaluate P (plain_of is.before) told.thread told.on told.method is.arguments is.steps)
            (subst (λ (a : Asked). EvaluationAgrees P told.thread is.steps a.method is.before is.after (evaluate P (plain_of is.before) told.thread a.on a.method a.arguments is.steps)) same r.agrees);
      }
