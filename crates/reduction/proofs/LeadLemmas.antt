-- Where paths lead, in a memory that has grown and through longer paths; operands and their paths.
use Rattle.std.proofs.Common.{◌≡◌, ℕ, zero, suc, Bool, true, false, List, [], ◌∷◌, ◌++◌, Some, None, refl, ap, subst, ◌∙◌}
use Rattle.std.specs.Prelude.{Option, option_and_then, slice_get, if◌then◌else◌}
use Rattle.base.proofs.Options.{then_parts}
use Rattle.paths.specs.Paths.{PathData}
use Rattle.algebra.specs.HeldPaths.{Held}
use Rattle.core_program.specs.Core.{Program}
use Rattle.core_program.specs.Locks.{leads_on}
use Rattle.state.specs.declared.value.Address.{Address}
use Rattle.state.specs.declared.value.Value.{Value}
use Rattle.state.specs.declared.value.Value.TheVariants as value
use Rattle.state.specs.Values.{top, under, popped, dropped}
use Rattle.reduction.specs.Leads.{Env, Memory, next_value, lead_from, lead, Grows, Sound, Paths, LeadsTo, MayLeadTo, top_path, under_path, taken_paths, dropped_paths}
use Rattle.reduction.specs.Safe.{LeadEach}

pub then_of : {A B : Type 0} (f : A → Option B) (o : Option A) (a : A) (r : Option B) → o ≡ Some a → f a ≡ r → option_and_then f o ≡ r
then_of f o a r is e = ap (option_and_then f) is ∙ e

module _ (P : Program) where
  if_grows : (t : Bool) (o k : Option Value) (v : Value) → (t ≡ true → o ≡ Some v → k ≡ Some v) → (if t then o else None) ≡ Some v → (if t then k else None) ≡ Some v
  if_grows true o k v grows e = grows refl e
  if_grows false o k v grows e = e

  module _ (h k : Memory) (grows : Grows P h k) where
    pub next_grows : (v : Value) (f : ℕ) (w : Value) → next_value P h v f ≡ Some w → next_value P k v f ≡ Some w
    next_grows (value.Ref a) f w e = if_grows (leads_on (slice_get P.fields f)) (h a f) (k a f) w (grows a f w) e
    next_grows (value.Int n) f w e = e
    next_grows (value.Truth b) f w e = e
    next_grows value.Null f w e = e

    pub from_grows : (fs : List ℕ) (v w : Value) → lead_from P h v fs ≡ Some w → lead_from P k v fs ≡ Some w
    from_grows [] v w e = e
    from_grows (f ∷ fs) v w e =
        let parts = then_parts (λ u. lead_from P h u fs) (next_value P h v f) w e in
        then_of (λ u. lead_from P k u fs) (next_value P k v f) parts.0 (Some w) (next_grows v f parts.0 parts.1) (from_grows fs parts.0 w parts.2)

    pub leads_grows : (env : Env) (o : Option PathData) (v : Value) → LeadsTo P h env o v → LeadsTo P k env o v
    leads_grows env None v e = tt
    leads_grows env (Some p) v e = from_grows p.fields (env p.root) v e

    pub may_shrink : (env : Env) (o : Option PathData) (v : Value) → MayLeadTo P k env o v → MayLeadTo P h env o v
    may_shrink env None v e = tt
    may_shrink env (Some p) v e = λ w is. e w (from_grows p.fields (env p.root) w is)

    pub sound_grows : (env : Env) (H : Held) (held : Address → Bool) → Sound P h env H held → Sound P k env H held
    sound_grows env H held s = record { at = λ q has. let r = s.at q has in (r.0, from_grows q.fields (env q.root) (value.Ref r.0) r.1, r.2) }

    pub each_grows : (env : Env) (os : Paths) (vs : List Value) → LeadEach P h env os vs → LeadEach P k env os vs
    each_grows env [] vs l = tt
    each_grows env (o ∷ os) vs l = (leads_grows env o (top vs) l.0, each_grows env os (under vs) l.1)

  module _ (h : Memory) where
    pub grows_itself : Grows P h h
    grows_itself a f v on e = e

    pub from_append : (fs gs : List ℕ) (v : Value) → lead_from P h v (fs ++ gs) ≡ option_and_then (λ u. lead_from P h u gs) (lead_from P h v fs)
    from_append [] gs v = refl
    from_append (f ∷ fs) gs v =
        elim (next_value P h v f) as (λ o. option_and_then (λ u. lead_from P h u (fs ++ gs)) o ≡ option_and_then (λ u. lead_from P h u gs) (option_and_then (λ u. lead_from P h u fs) o)) [
          | None ↦ refl
          | Some w ↦ from_append fs gs w
        ]

    pub sound_more : (env : Env) (H : Held) (held more : Address → Bool) → ((a : Address) → held a ≡ true → more a ≡ true) → Sound P h env H held → Sound P h env H more
    sound_more env H held more part s = record { at = λ q has. let r = s.at q has in (r.0, r.1, part r.0 r.2) }

    -- what a known path leads to, the operand, is what its longer path begins with
    pub leads_from : (env : Env) (p : PathData) (v : Value) (fs : List ℕ) → lead P h env p ≡ Some v → lead_from P h (env p.root) (p.fields ++ fs) ≡ lead_from P h v fs
    leads_from env p v fs is = from_append p.fields fs (env p.root) ∙ ap (option_and_then (λ u. lead_from P h u fs)) is

    module _ (env : Env) where
      pub each_top : (os : Paths) (vs : List Value) → LeadEach P h env os vs → LeadsTo P h env (top_path os) (top vs)
      each_top [] vs l = tt
      each_top (o ∷ os) vs l = l.0

      pub each_under : (os : Paths) (vs : List Value) → LeadEach P h env os vs → LeadEach P h env (under_path os) (under vs)
      each_under [] vs l = tt
      each_under (o ∷ os) vs l = l.1

      pub each_dropped : (n : ℕ) (os : Paths) (vs : List Value) → LeadEach P h env os vs → LeadEach P h env (dropped_paths n os) (dropped n vs)
      each_dropped zero os vs l = l
      each_dropped (suc n) os vs l = each_dropped n (under_path os) (under vs) (each_under os vs l)

      -- as many values as paths, each as its path tells
      abbrev pub Aligned : Paths → List Value → Type 0
      Aligned [] [] = Unit {0}
      Aligned [] (v ∷ vs) = ⊥
      Aligned (o ∷ os) [] = ⊥
      Aligned (o ∷ os) (v ∷ vs) = LeadsTo P h env o v × Aligned os vs

      pub aligned_taken : (n : ℕ) (os found : Paths) (vs values : List Value) → LeadEach P h env os vs → Aligned found values → Aligned (taken_paths n found os) (popped n values vs)
      aligned_taken zero os found vs values l a = a
      aligned_taken (suc n) os found vs values l a = aligned_taken n (under_path os) (top_path os ∷ found) (under vs) (top vs ∷ values) (each_under os vs l) (each_top os vs l, a)

      -- the value at the place of a known path
      pub aligned_at : (os : Paths) (vs : List Value) (k : ℕ) (p : PathData) → Aligned os vs → slice_get os k ≡ Some (Some p) → (v : Value) × (slice_get vs k ≡ Some v) × (lead P h env p ≡ Some v)
      aligned_at [] vs k p a e = absurd cc
      aligned_at (o ∷ os) [] k p a e = absurd a
      aligned_at (None ∷ os) (v ∷ vs) zero p a e = absurd cc
      aligned_at (Some q ∷ os) (v ∷ vs) zero p a e = let same : q ≡ p = cc in (v, refl, subst (λ x. lead P h env x ≡ Some v) same a.0)
      aligned_at (None ∷ os) (v ∷ vs) (suc k) p a e = aligned_at os vs k p a.1 e
      aligned_at (Some q ∷ os) (v ∷ vs) (suc k) p a e = aligned_at os vs k p a.1 e
