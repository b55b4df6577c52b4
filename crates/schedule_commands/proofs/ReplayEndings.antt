-- Which ending comes for the answer to `replay`.
use Rattle.std.proofs.Common.{◌≡◌, ℕ, Bool, true, false, List, refl, sym, subst, ◌∙◌}
use Rattle.core_program.specs.Core.{Program}
use Rattle.replay.specs.Records.{HasNoDeep}
use Rattle.rules.specs.Rules.{IsAccepted}
use Rattle.schedule_commands.specs.Schedules.{HasInput, EndsOutside}
use Rattle.schedule_commands.specs.Serialise.{SerialiseFact}
use Rattle.schedule_commands.proofs.ScheduleEndings.{serialise_caused, serialise_apart, inputs_apart}
use Rattle.sources.specs.declared.refusal.Ending.{Ending}
use Rattle.sources.specs.declared.refusal.Ending.TheVariants as ending
use Rattle.semantics.specs.Units.{written_order}
use Rattle.schedule_commands.specs.Evaluated.{HasDeep}
use Rattle.schedule_commands.specs.Replay.{NoReplay, too_deep, ReplayAnswer, ReplayFact, not_serialised, no_replay, replayed}
use Rattle.schedule_commands.proofs.Evaluating.{one_deep, deep_or_none}

-- where `serialise` refuses, `replay` ends as it does
refused_fact : (file text : List ℕ) (ended : Ending) → (ended ≡ ending.Done → ⊥) → SerialiseFact file text ended → ReplayFact file text ended
refused_fact file text ending.Done other is = absurd (other refl)
refused_fact file text ending.CallTooDeep other is = absurd is
refused_fact file text ended other is = is

pub replay_ends : (P : Program) (s : List ℕ) (ended : Ending) (line : List ℕ) → NoReplay P s ended line → (ended ≡ ending.CallTooDeep) × HasDeep P s
replay_ends P s _ _ (too_deep entry is) = (refl, one_deep P s entry is)

pub replay_caused : (file text : List ℕ) (ended : Ending) (out : List ℕ) → ReplayAnswer file text ended out → ReplayFact file text ended
replay_caused file text _ _ (not_serialised {ended = ended} {line = line} other is) = refused_fact file text ended other (serialise_caused file text ended line is)
replay_caused file text _ _ (no_replay {ended = ended} {line = line} tree P s q input accepted ran closed serial is) =
    let r = replay_ends P (written_order P s) ended line is in subst (ReplayFact file text) (sym r.0) (tree, P, s, input, (accepted, (q, ran, closed), r.1))
replay_caused file text _ _ (replayed tree P s q input accepted ran closed is) = (tree, P, s, input, (accepted, (q, ran, closed), is.few))

-- how `serialise` ends there
abbrev before_calls : Ending → Ending
before_calls ending.CallTooDeep = ending.Done
before_calls ended = ended

outside : (file text : List ℕ) (F : Program → List ℕ → Type 0) → HasInput file text (λ P s. IsAccepted P × EndsOutside P s × F P s) → SerialiseFact file text ending.Done
outside file text F f = (f.0, f.1, f.2, f.3, (f.4.0, f.4.1))

serialise_fact : (file text : List ℕ) (ended : Ending) → ReplayFact file text ended → SerialiseFact file text (before_calls ended)
serialise_fact file text ending.Done f = outside file text (λ P s. HasNoDeep P (written_order P s)) f
serialise_fact file text ending.CallTooDeep f = outside file text (λ P s. HasDeep P (written_order P s)) f
serialise_fact file text ended f = f

abbrev is_deep : Ending → Bool
is_deep ending.CallTooDeep = true
is_deep ended = false

is_too_deep : (ended : Ending) → is_deep ended ≡ true → ended ≡ ending.CallTooDeep
is_too_deep ending.CallTooDeep is = refl
is_too_deep ended is = absurd cc

same_before : (ended : Ending) → is_deep ended ≡ false → before_calls ended ≡ ended
same_before ending.CallTooDeep is = absurd cc
same_before ended is = refl

-- one schedule is replayed and isn't
never_both : (file text : List ℕ) → ReplayFact file text ending.Done → ReplayFact file text ending.CallTooDeep → ⊥
never_both file text f g =
    inputs_apart file text (λ P s. IsAccepted P × EndsOutside P s × HasNoDeep P (written_order P s)) (λ P s. IsAccepted P × EndsOutside P s × HasDeep P (written_order P s)) (λ P s a b. deep_or_none P (written_order P s) b.2 a.2) f g

-- a schedule that is too deep is too deep alone
deep_alone : (file text : List ℕ) (other : Ending) → ReplayFact file text ending.CallTooDeep → ReplayFact file text other → is_deep other ≡ false → ⊥
deep_alone file text other f g shallow =
    let same : ending.Done ≡ other = serialise_apart file text ending.Done (before_calls other) (serialise_fact file text ending.CallTooDeep f) (serialise_fact file text other g) ∙ same_before other shallow in
    never_both file text (subst (ReplayFact file text) (sym same) g) f

pub replay_apart : (file text : List ℕ) (one other : Ending) → ReplayFact file text one → ReplayFact file text other → one ≡ other
replay_apart file text one other f g = by (is_deep one) refl (is_deep other) refl
  where
    by : (b : Bool) → is_deep one ≡ b → (c : Bool) → is_deep other ≡ c → one ≡ other
    by true d true e = is_too_deep one d ∙ sym (is_too_deep other e)
    by true d false e = absurd (deep_alone file text other (subst (ReplayFact file text) (is_too_deep one d) f) g e)
    by false d true e = absurd (deep_alone file text one (subst (ReplayFact file text) (is_too_deep other e) g) f d)
    by false d false e = sym (same_before one d) ∙ serialise_apart file text (before_calls one) (before_calls other) (serialise_fact file text one f) (serialise_fact file text other g) ∙ same_before other e
