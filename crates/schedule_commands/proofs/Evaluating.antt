-- What is told of a call is what evaluation gives, where no call is too deep.
use Rattle.std.proofs.Common.{◌≡◌, ℕ, ◌<◌, ◌≤◌, List, length, refl, sym, ap, subst, ◌∙◌, arith}
use Rattle.std.specs.Prelude.{Option}
use Rattle.std.proofs.lemmas.Option.{same_Some}
use Rattle.core_program.specs.Core.{Program}
use Rattle.core_program.specs.Typed.{IsTyped}
use Rattle.replay.specs.Plain.{Plain, plain_of}
use Rattle.replay.specs.Answers.{Answer, Gives, Fails, Blocked, Short, Deep}
use Rattle.replay.specs.Evaluation.{most_number, evaluate}
use Rattle.replay.specs.Calls.{Asked, EvaluationAgrees}
use Rattle.replay.specs.Records.{Told, IsTold, AreCallsTold, HasNoDeep, IsFirstTooDeep}
use Rattle.replay.proofs.Neat.{neat_of}
use Rattle.replay.proofs.Schedules.{call_replayed}
use Rattle.state.specs.declared.value.Value.{Value}
use Rattle.semantics.specs.Run.{IsUninterrupted}
use Rattle.schedule_commands.specs.Evaluated.{IsEvaluated, AreEvaluated, HasDeep}

module _ (P : Program) (s : List ℕ) (none : HasNoDeep P s) (told : Told) (is : IsTold P s told) where
  -- what evaluation in the state before the call answers
  abbrev given : Answer (Option Value)
  given = evaluate P (plain_of is.before) told.thread told.on told.method is.arguments is.steps

  by_answer : (a : Answer (Option Value)) → given ≡ a → EvaluationAgrees P told.thread is.steps told.method is.before is.after a → IsEvaluated P s told
  by_answer (Gives result plain) e (state, same, flat, ready) = record {
    is = is;
    plain = plain;
    gives = e ∙ ap (λ x. Gives x plain) (same ∙ sym is.result);
    state = state;
    prints = ap (λ (p : Plain). p.output) state.1 ∙ is.prints;
    done = ready;
  }
  by_answer (Fails kind) e h = absurd h
  by_answer (Blocked a holder) e h = absurd h
  by_answer Short e h = absurd h
  by_answer Deep e h = absurd (none is.place is.steps told.thread is.before is.after is.call h)

  evaluated_of : IsTyped P → IsUninterrupted P s → length s < most_number → IsEvaluated P s told
  evaluated_of typed alone short =
      let r = call_replayed P typed (neat_of P typed) s alone short is.place is.steps told.thread is.before is.after is.call in
      let same : r.asked ≡ record { on = told.on; method = told.method; arguments = is.arguments } = same_Some r.asked (record { on = told.on; method = told.method; arguments = is.arguments }) (sym r.is ∙ is.asked) in
      by_answer given refl (subst (λ (a : Asked). EvaluationAgrees P told.thread is.steps a.method is.before is.after (evaluate P (plain_of is.before) told.thread a.on a.method a.arguments is.steps)) same r.agrees)

pub are_evaluated : (P : Program) (s : List ℕ) → IsTyped P → IsUninterrupted P s → length s ≤ 200000 → HasNoDeep P s → (calls : List Told) → AreCallsTold P s calls → AreEvaluated P s calls
are_evaluated P s typed alone short none calls told = record {
  told = told;
  each = λ n call at. evaluated_of P s none call (told.each n call at) typed alone (omega (arith, short));
}

-- a call that is too deep is one that is deep
pub one_deep : (P : Program) (s : List ℕ) (entry : ℕ) → IsFirstTooDeep P s entry → HasDeep P s
one_deep P s entry is = record { place = is.place; steps = is.steps; thread = is.thread; before = is.before; after = is.after; call = is.call; deep = is.deep }

pub deep_or_none : (P : Program) (s : List ℕ) → HasDeep P s → HasNoDeep P s → ⊥
deep_or_none P s is none = none is.place is.steps is.thread is.before is.after is.call is.deep
