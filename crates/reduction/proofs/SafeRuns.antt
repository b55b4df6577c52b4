-- Along every run from a safe state: no step is Bare, and the words of units are reducible.
use Rattle.std.proofs.Common.{◌≡◌, ℕ, ◌+◌, Bool, true, false, ◌&&◌, ◌||◌, ◌==◌, List, [], ◌∷◌, Some, None, refl, sym, ap, subst, ◌∙◌}
use Rattle.std.specs.Prelude.{Option, slice_get, option_and_then, if◌then◌else◌}
use Rattle.paths.specs.Paths.{PathData}
use Rattle.core_program.specs.Core.{Program}
use Rattle.rules.specs.Effect.{Assignment}
use Rattle.state.specs.declared.value.StepKind.{StepKind}
use Rattle.state.specs.declared.value.StepKind.TheVariants.{Both, Right, Left, Other, Bare}
use Rattle.state.specs.Memory.{IsNumbered}
use Rattle.state.specs.States.{Thread, State, initial}
use Rattle.semantics.specs.Step.{Change, Move, Outcome, Moves, Absent, IsDone, HadFaulted, Waits, outcome, step, state_after, moved, outcome_kind, kind_of}
use Rattle.semantics.specs.Run.{run, run_from, inside, is_inside_some}
use Rattle.semantics.specs.Units.{Entry, entry_then, entries_from, entries, units, word_of, is_commit}
use Rattle.semantics.specs.Words.{IsReducible, fits_phase}
use Rattle.semantics.proofs.RunLemmas.{step_numbered, initial_numbered, moves_in}
use Rattle.reduction.specs.Phases.{Phase, phase_of, allowed}
use Rattle.reduction.specs.Safe.{IsFree, IsSafe, flags_after}
use Rattle.reduction.specs.Turn.{Accepted}
use Rattle.std.specs.Prelude.{slice_set}
use Rattle.std.proofs.lemmas.Bool.{eqb-false, eq-eqb}
use Rattle.std.proofs.lemmas.Option.{same_Some}
use Rattle.base.proofs.Lists.{set_other}
use Rattle.semantics.proofs.Changed.{ThreadAfter, kept, begun, thread_after}
use Rattle.reduction.proofs.SafeSteps.{step_fine, step_safe, initial_safe}
use Rattle.reduction.proofs.Phases.{Judged, added_entry, judged_words}

not_bare : (p : Phase) → allowed p Bare ≡ true → ⊥
not_bare Rattle.reduction.specs.Phases.Free e = absurd (let k : false ≡ true = e in cc)
not_bare Rattle.reduction.specs.Phases.Opened e = absurd (let k : false ≡ true = e in cc)
not_bare Rattle.reduction.specs.Phases.Committed e = absurd (let k : false ≡ true = e in cc)

module _ (P : Program) (rel : ℕ → List PathData) (A : Assignment) (accepted : Accepted P rel A) where
  -- a state that a schedule runs to from a safe one is safe
  pub run_safe : (s : List ℕ) (q r : State) (flags : ℕ → Bool) → IsNumbered q.heap → IsSafe P rel A q flags → run_from P q s ≡ Some r → (later : ℕ → Bool) × IsSafe P rel A r later × IsNumbered r.heap
  run_safe [] q r flags numbered safe is =
      let same : q ≡ r = same_Some _ _ is in
      (flags, subst (λ x. IsSafe P rel A x flags) same safe, subst (λ (x : State). IsNumbered x.heap) same numbered)
  run_safe (t ∷ s) q r flags numbered safe is =
      elim (step P q t) as (λ o. step P q t ≡ o → option_and_then (λ next. run_from P next s) o ≡ Some r → (later : ℕ → Bool) × IsSafe P rel A r later × IsNumbered r.heap) [
        | None ↦ λ e ran. absurd (let k : None ≡ Some r = ran in cc)
        | Some next ↦ λ e ran. let m = moves_in P q next t (outcome P q t) refl e in
            run_safe s next r (flags_after P q flags t (m.0).kind) (step_numbered P q t next numbered e)
            (subst (λ x. IsSafe P rel A x (flags_after P q flags t (m.0).kind)) m.2 (step_safe P rel A accepted q flags t m.0 numbered safe m.1)) ran
      ] refl is

  kind_is : (o : Outcome) → outcome_kind o ≡ Some Bare → (move : Move) × (o ≡ Moves move) × (move.kind ≡ Bare)
  kind_is (Moves move) e = (move, refl, same_Some _ _ e)
  kind_is Absent e = absurd (let k : None ≡ Some Bare = e in cc)
  kind_is IsDone e = absurd (let k : None ≡ Some Bare = e in cc)
  kind_is (HadFaulted why) e = absurd (let k : None ≡ Some Bare = e in cc)
  kind_is (Waits a h) e = absurd (let k : None ≡ Some Bare = e in cc)

  -- no next step of a safe state is Bare
  pub safe_not_bare : (q : State) (flags : ℕ → Bool) (t : ℕ) → IsNumbered q.heap → IsSafe P rel A q flags → kind_of P q t ≡ Some Bare → ⊥
  safe_not_bare q flags t numbered safe is =
      let m = kind_is (outcome P q t) is in
      let fine = step_fine P rel A accepted q flags t m.0 numbered safe m.1 in
      not_bare (phase_of (inside P q t) (flags t)) (subst (λ k. allowed (phase_of (inside P q t) (flags t)) k ≡ true) m.2 fine.kind)

  pub never_bare : IsFree P P.main → (s : List ℕ) (q : State) → run P s ≡ Some q → (t : ℕ) → kind_of P q t ≡ Some Bare → ⊥
  never_bare free s q is t bare =
      let r = run_safe s (initial P) q (λ t. false) (initial_numbered P) (initial_safe P rel A free) is in
      safe_not_bare q r.0 t r.2 r.1 bare

  -- Words.

  -- whether the call that a thread stands in made a Left or Other step
  abbrev call_flag : State → (ℕ → Bool) → ℕ → Bool
  call_flag q flags v = inside P q v && flags v

  inside_after : (c : Change) (before after : Option Thread) → ThreadAfter c before after → is_inside_some P after ≡ is_inside_some P before
  inside_after c before _ kept = refl
  inside_after c before _ (begun a m is none) = sym (ap (is_inside_some P) none)

  other_inside : (q : State) (t v : ℕ) (move : Move) → (v == t) ≡ false → inside P (moved t move q) v ≡ inside P q v
  other_inside q t v move other =
      inside_after move.change _ _ (thread_after move.change (record q { threads = slice_set q.threads t move.thread }) v) ∙ ap (is_inside_some P) (set_other q.threads t v move.thread (eqb-false v t other))

  other_flag : (q : State) (flags : ℕ → Bool) (t v : ℕ) (move : Move) → (v == t) ≡ false → call_flag q flags v ≡ call_flag (moved t move q) (flags_after P q flags t move.kind) v
  other_flag q flags t v move other = λ i. sym (other_inside q t v move other) i && sym (ap (λ b. if b then (inside P q t && flags t) || is_commit move.kind else flags v) other) i

  own_flag : (q : State) (flags : ℕ → Bool) (t : ℕ) (kind : StepKind) → flags_after P q flags t kind t ≡ (call_flag q flags t || is_commit kind)
  own_flag q flags t kind = ap (λ b. if b then (inside P q t && flags t) || is_commit kind else flags t) (eq-eqb t t refl)

  -- what a phase admits outside, a new call admits
  inner_fits : (i c : Bool) (kind : StepKind) → allowed (phase_of i c) kind ≡ true → fits_phase (i && c) kind ≡ true
  inner_fits true true kind e = e
  inner_fits true false Both e = refl
  inner_fits true false Right e = refl
  inner_fits true false Left e = refl
  inner_fits true false Other e = refl
  inner_fits true false Bare e = absurd (let k : false ≡ true = e in cc)
  inner_fits false c Both e = refl
  inner_fits false c Right e = refl
  inner_fits false c Left e = refl
  inner_fits false c Other e = refl
  inner_fits false c Bare e = absurd (let k : false ≡ true = e in cc)

  and_left : (a b : Bool) → a ≡ true → (a && b) ≡ b
  and_left true b e = refl
  and_left false b e = absurd cc

  and_false : (a b : Bool) → a ≡ false → (a && b) ≡ false
  and_false true b e = absurd cc
  and_false false b e = refl

  pub words_judged : (s : List ℕ) (q : State) (flags : ℕ → Bool) (place : ℕ) → IsNumbered q.heap → IsSafe P rel A q flags → Judged (call_flag q flags) (units (entries_from P q place s))
  words_judged [] q flags place numbered safe = tt
  words_judged (t ∷ s) q flags place numbered safe = by_outcome (outcome P q t) refl (λ r f n sa. words_judged s r f (place + 1) n sa)
    where
      by_outcome : (o : Outcome) → outcome P q t ≡ o → ((r : State) (f : ℕ → Bool) → IsNumbered r.heap → IsSafe P rel A r f → Judged (call_flag r f) (units (entries_from P r (place + 1) s)))
          → Judged (call_flag q flags) (units (entry_then P q place t o (λ next. entries_from P next (place + 1) s)))
      by_outcome (Moves move) is rec =
          let fine = step_fine P rel A accepted q flags t move numbered safe is in
          added_entry (record { place = place; thread = t; kind = move.kind; inside = inside P (moved t move q) t }) (units (entries_from P (moved t move q) (place + 1) s))
          (call_flag q flags) (call_flag (moved t move q) (flags_after P q flags t move.kind)) (λ v other. other_flag q flags t v move other) (inside P (moved t move q) t)
          (λ stays. and_left _ _ stays ∙ own_flag q flags t move.kind) (λ leaves. and_false _ _ leaves)
          (inner_fits (inside P q t) (flags t) move.kind fine.kind)
          (rec (moved t move q) (flags_after P q flags t move.kind) (step_numbered P q t (moved t move q) numbered (ap (state_after q t) is)) (step_safe P rel A accepted q flags t move numbered safe is))
      by_outcome Absent is rec = tt
      by_outcome IsDone is rec = tt
      by_outcome (HadFaulted why) is rec = tt
      by_outcome (Waits a h) is rec = tt

  pub run_words : IsFree P P.main → (s : List ℕ) (n : ℕ) (u : List Entry) → slice_get (units (entries P s)) n ≡ Some u → IsReducible (word_of u)
  run_words free s n u is = judged_words (units (entries P s)) (call_flag (initial P) (λ t. false)) (words_judged s (initial P) (λ t. false) 0 (initial_numbered P) (initial_safe P rel A free)) n u is
