-- Accesses to fields: their kind is one that the phase admits, since a guard that the rules count as held is held.
use Rattle.std.proofs.Common.{◌≡◌, ℕ, Bool, true, false, List, [], ◌∷◌, ◌++◌, Some, None, refl, sym, ap, subst, ◌∙◌}
use Rattle.std.specs.Prelude.{Option, slice_get, if◌then◌else◌}
use Rattle.base.proofs.Options.{then_parts}
use Rattle.paths.specs.Paths.{PathData, extended_some}
use Rattle.algebra.specs.declared.basic.Basic.{Basic}
use Rattle.algebra.specs.declared.basic.Basic.TheVariants.{Mover, Atomic, Error}
use Rattle.algebra.specs.HeldPaths.{Held, holds_at}
use Rattle.core_program.specs.Core as core
use Rattle.core_program.specs.Core.{Program}
use Rattle.core_program.specs.Locks.{leads_on}
use Rattle.rules.specs.Guards.{guard_by, mutable_guard, field_guard}
use Rattle.rules.specs.Effect.{write_guarded, access_effect}
use Rattle.state.specs.declared.value.Address.{Address}
use Rattle.state.specs.declared.value.Value.{Value}
use Rattle.state.specs.declared.value.Value.TheVariants as value
use Rattle.state.specs.declared.value.StepKind.{StepKind}
use Rattle.state.specs.declared.value.StepKind.TheVariants.{Both, Other}
use Rattle.semantics.specs.Step.{Shared, next_at, followed, holds_object, some_address, mutable_kind, access_kind}
use Rattle.semantics.specs.Locking.{guarded_kind, holds}
use Rattle.reduction.specs.Phases.{Phase, PassesPart, allowed, stepped, freed, IsDownClosed}
use Rattle.reduction.specs.Leads.{Env, machine_memory, next_value, lead_from, lead, Sound, LeadsTo}
use Rattle.reduction.proofs.PhaseLemmas.{const_stays, mover_stays, atomic_stays, no_error, both_allowed, atomic_allows, freed_rises}
use Rattle.reduction.proofs.LeadLemmas.{then_of, leads_from}
use Rattle.reduction.proofs.SetLemmas.{extended_is, holds_some}

-- what the rules ask of an access to a guarded field, by whether they count the guard as held
abbrev guarded_effect : (writes_only writes held : Bool) → Basic
guarded_effect false writes held = if held then Mover else Error
guarded_effect true writes held = write_guarded writes held

guarded_is : (writes_only writes : Bool) (o : Option PathData) (H : Held) → access_effect writes (guard_by writes_only o) H ≡ guarded_effect writes_only writes (holds_at o H)
guarded_is false writes None H = refl
guarded_is false writes (Some p) H = refl
guarded_is true writes None H = refl
guarded_is true writes (Some p) H = refl

-- the phase admits a step of this kind, and what stands after it fits
abbrev pub Admits : (Phase → Type 0) → Phase → StepKind → Type 0
Admits L p kind = (allowed p kind ≡ true) × L (stepped kind p)

module _ (L : Phase → Type 0) (falls : IsDownClosed L) (p : Phase) where
  mover_admits : PassesPart p Mover L → Admits L p Both
  mover_admits r = (both_allowed p, mover_stays L p r)

  other_admits : PassesPart p Atomic L → Admits L p Other
  other_admits r = (atomic_allows L p r, atomic_stays L p r)

  both_admits : PassesPart p Atomic L → Admits L p Both
  both_admits r = (both_allowed p, falls p (freed false p) (freed_rises false p) (atomic_stays L p r))

  -- what the rules count as held is held
  guarded : (writes_only writes counted held : Bool) → (counted ≡ true → held ≡ true) → PassesPart p (guarded_effect writes_only writes counted) L → Admits L p (guarded_kind writes_only writes held)
  guarded false writes true true sure r = mover_admits r
  guarded false writes true false sure r = absurd (let e : false ≡ true = sure refl in cc)
  guarded false writes false held sure r = absurd (no_error L p r)
  guarded true false true true sure r = mover_admits r
  guarded true false true false sure r = absurd (let e : false ≡ true = sure refl in cc)
  guarded true false false true sure r = both_admits r
  guarded true false false false sure r = other_admits r
  guarded true true true true sure r = other_admits r
  guarded true true true false sure r = absurd (let e : false ≡ true = sure refl in cc)
  guarded true true false held sure r = absurd (no_error L p r)

module _ (P : Program) (see : Shared) (t : ℕ) where
  if_all : {A : Type 0} (b : Bool) (o : Option A) (x : A) → (if b then o else None) ≡ Some x → o ≡ Some x
  if_all true o x e = e
  if_all false o x e = absurd (let k : None ≡ Some x = e in cc)

  next_followed : (v : Value) (f : ℕ) (w : Value) → next_value P (machine_memory P see.object_at) v f ≡ Some w → next_at P see t v f ≡ Some w
  next_followed (value.Ref a) f w e = if_all (leads_on (slice_get P.fields f)) (machine_memory P see.object_at a f) w e
  next_followed (value.Int n) f w e = e
  next_followed (value.Truth b) f w e = e
  next_followed value.Null f w e = e

  -- what final fields lead to, fields lead to
  pub leads_followed : (fs : List ℕ) (v w : Value) → lead_from P (machine_memory P see.object_at) v fs ≡ Some w → followed P see t v fs ≡ Some w
  leads_followed [] v w e = e
  leads_followed (f ∷ fs) v w e =
      let parts = then_parts (λ u. lead_from P (machine_memory P see.object_at) u fs) (next_value P (machine_memory P see.object_at) v f) w e in
      then_of (λ u. followed P see t u fs) (next_at P see t v f) parts.0 (Some w) (next_followed v f parts.0 parts.1) (leads_followed fs parts.0 w parts.2)

  module _ (env : Env) (H : Held) (held : Address → Bool) (sound : Sound P (machine_memory P see.object_at) env H held)
      (sure : (b : Address) → held b ≡ true → holds t (see.lock_at b) ≡ true)
      (os_top : Option PathData) (a : Address) (leads : LeadsTo P (machine_memory P see.object_at) env os_top (value.Ref a)) where
    guard_held : (fs : List ℕ) (o : Option PathData) → LeadsTo P (machine_memory P see.object_at) env o (value.Ref a) → (g : Option PathData) → extended_some o fs ≡ g → holds_at g H ≡ true
        → holds_object P see t (some_address P see t (followed P see t (value.Ref a) fs)) ≡ true
    guard_held fs None l g is has = absurd (let e : None ≡ g = is in let s = holds_some g H has in let k : None ≡ Some s.0 = e ∙ s.1 in cc)
    guard_held fs (Some p) l g is has =
        let s = holds_some g H has in
        let at = sound.at s.0 s.2 in
        let whole : lead_from P (machine_memory P see.object_at) (env p.root) (p.fields ++ fs) ≡ Some (value.Ref at.0) = ap (λ y. lead P (machine_memory P see.object_at) env y) (extended_is p fs s.0 (is ∙ s.1)) ∙ at.1 in
        let last : lead_from P (machine_memory P see.object_at) (value.Ref a) fs ≡ Some (value.Ref at.0) = sym (leads_from P (machine_memory P see.object_at) env p (value.Ref a) fs l) ∙ whole in
        ap (λ o. holds_object P see t (some_address P see t o)) (leads_followed fs (value.Ref a) (value.Ref at.0) last) ∙ sure at.0 at.2

    module _ (L : Phase → Type 0) (falls : IsDownClosed L) (p : Phase) (writes : Bool) where
      mutable_admits : (writes_only : Bool) (guard : Option PathData) → PassesPart p (access_effect writes (mutable_guard writes_only guard os_top) H) L → Admits L p (mutable_kind P see t writes_only writes a guard)
      mutable_admits writes_only None r = other_admits L falls p r
      mutable_admits writes_only (Some g) r = guarded L falls p writes_only writes (holds_at (extended_some os_top g.fields) H) (holds_object P see t (some_address P see t (followed P see t (value.Ref a) g.fields)))
          (λ has. guard_held g.fields os_top leads (extended_some os_top g.fields) refl has)
          (subst (λ b. PassesPart p b L) (guarded_is writes_only writes (extended_some os_top g.fields) H) r)

      by_finality : (x : core.Field) (final : Bool) → PassesPart p (access_effect writes (if final then Rattle.rules.specs.declared.guard.Guard.TheVariants.Final else mutable_guard x.writes_only x.guard os_top) H) L
          → Admits L p (if final then Both else mutable_kind P see t x.writes_only writes a x.guard)
      by_finality x true r = (both_allowed p, const_stays L p r)
      by_finality x false r = mutable_admits x.writes_only x.guard r

      -- an access of the operand's object
      pub access_admits : (o : Option core.Field) → PassesPart p (access_effect writes (field_guard o os_top) H) L → Admits L p (access_kind P see t writes a o)
      access_admits None r = absurd (no_error L p r)
      access_admits (Some x) r = by_finality x x.is_final r
