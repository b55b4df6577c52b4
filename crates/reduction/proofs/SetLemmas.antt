-- Sets of held paths along the statements of a block.
use Rattle.std.proofs.Common.{◌≡◌, ℕ, Bool, true, false, ◌==◌, List, ◌++◌, Some, None, refl, sym, ap, subst, ◌∙◌, arith}
use Rattle.std.specs.Prelude.{Option, length, nat_le, if◌then◌else◌}
use Rattle.std.proofs.lemmas.Bool.Decides.{nat_tests}
use Rattle.std.proofs.lemmas.Bool.{eqb-true, or_parts}
use Rattle.base.proofs.Options.{then_parts}
use Rattle.paths.specs.Paths.{PathData, extended, most_fields}
use Rattle.algebra.specs.HeldPaths.{Held, holds_at}
use Rattle.core_program.specs.Core.{Program, Expr, Stmt, Stmts, EmptyS, BlockS, LocalS, SetVarS, SetFieldS, DoS, IfS, WhileS, SyncS, ReturnS, PrintS, StartS, and_stmt}
use Rattle.core_program.specs.Locks.{path_of}
use Rattle.rules.specs.Effect.{after_local, after_stmt}
use Rattle.state.specs.declared.value.Address.{Address}
use Rattle.state.specs.declared.value.Value.TheVariants as value
use Rattle.reduction.specs.Leads.{Env, Memory, lead_from, lead, Sound, MayLeadTo}
use Rattle.reduction.specs.Fits.{SlotsAgree, Apart, Fresh, FreshEach, stores, stores_each}
use Rattle.reduction.proofs.LeadLemmas.{from_append}

if_chosen : {A : Type 0} (t : Bool) (x y : A) → (if t then Some x else None) ≡ Some y → x ≡ y
if_chosen true x y e = cc
if_chosen false x y e = absurd cc

-- a path that was extended
pub extended_is : (p : PathData) (fs : List ℕ) (q : PathData) → extended p fs ≡ Some q → record { root = p.root; fields = p.fields ++ fs } ≡ q
extended_is p fs q e = if_chosen (nat_le (length (p.fields ++ fs)) most_fields) (record { root = p.root; fields = p.fields ++ fs }) q e

pub holds_some : (o : Option PathData) (H : Held) → holds_at o H ≡ true → (p : PathData) × (o ≡ Some p) × (H p ≡ true)
holds_some None H e = absurd cc
holds_some (Some p) H e = (p, refl, e)

turned : (a b : ℕ) → (a == b) ≡ false → (b == a) ≡ false
turned a b e = grind (arith, nat_tests)

module _ (P : Program) (h : Memory) (env later : Env) (held : Address → Bool) where
  -- a path whose root is as before leads where it led
  kept_at : (q : PathData) → later q.root ≡ env q.root → (a : Address) × (lead P h env q ≡ Some (value.Ref a)) × (held a ≡ true) → (a : Address) × (lead P h later q ≡ Some (value.Ref a)) × (held a ≡ true)
  kept_at q same (a, leads, is) = (a, ap (λ v. lead_from P h v q.fields) same ∙ leads, is)

  pub sound_kept : (H : Held) → ((q : PathData) → H q ≡ true → later q.root ≡ env q.root) → Sound P h env H held → Sound P h later H held
  sound_kept H same s = record { at = λ q has. kept_at q (same q has) (s.at q has) }

  module _ (H : Held) (s : Sound P h env H held) (x : ℕ) (e : Expr) (kept : (y : ℕ) → (x == y) ≡ false → later y ≡ env y) where
    -- without the paths rooted at x
    without_sound : (q : PathData) → (b : Bool) → (q.root == x) ≡ b → (if b then false else H q) ≡ true → (a : Address) × (lead P h later q ≡ Some (value.Ref a)) × (held a ≡ true)
    without_sound q true is has = absurd cc
    without_sound q false is has = kept_at q (kept q.root (turned q.root x is)) (s.at q has)

    -- with x as a second name of the path p
    renamed_at : (p q r : PathData) → MayLeadTo P h env (Some p) (later x) → q.root ≡ x → extended p q.fields ≡ Some r → H r ≡ true → (a : Address) × (lead P h later q ≡ Some (value.Ref a)) × (held a ≡ true)
    renamed_at p q r may rooted is has =
        let at = s.at r has in
        let whole : lead_from P h (env p.root) (p.fields ++ q.fields) ≡ Some (value.Ref at.0) = ap (λ y. lead P h env y) (extended_is p q.fields r is) ∙ at.1 in
        let parts = then_parts (λ u. lead_from P h u q.fields) (lead_from P h (env p.root) p.fields) (value.Ref at.0) (sym (from_append P h p.fields q.fields (env p.root)) ∙ whole) in
        (at.0, ap (λ v. lead_from P h v q.fields) (ap later rooted ∙ may parts.0 parts.1) ∙ parts.2, at.2)

    alias_sound : (p q : PathData) → MayLeadTo P h env (Some p) (later x) → (b : Bool) → (q.root == x) ≡ b → (if b then holds_at (extended p q.fields) H else H q) ≡ true → (a : Address) × (lead P h later q ≡ Some (value.Ref a)) × (held a ≡ true)
    alias_sound p q may true is has = let r = holds_some (extended p q.fields) H has in renamed_at p q r.0 may (eqb-true q.root x is) r.1 r.2
    alias_sound p q may false is has = kept_at q (kept q.root (turned q.root x is)) (s.at q has)

    pub local_sound : (o : Option PathData) → MayLeadTo P h env o (later x) → Sound P h later (after_local H x o) held
    local_sound None may = record { at = λ q has. without_sound q (q.root == x) refl has }
    local_sound (Some p) may = record { at = λ q has. alias_sound p q may (q.root == x) refl has }

  -- the set after a statement
  pub after_sound : (st : Stmt) (H : Held) → SlotsAgree P h st env later → Fresh H st → Sound P h env H held → Sound P h later (after_stmt P st H) held
  after_sound (LocalS x true ty e) H a fresh s = local_sound H s x e a.kept (path_of P e) a.local
  after_sound (LocalS x false ty e) H a fresh s = sound_kept H (λ q has. a.kept q.root (fresh.at q has)) s
  after_sound EmptyS H a fresh s = sound_kept H (λ q has. a.kept q.root (fresh.at q has)) s
  after_sound (BlockS ss) H a fresh s = sound_kept H (λ q has. a.kept q.root (fresh.at q has)) s
  after_sound (SetVarS x e) H a fresh s = sound_kept H (λ q has. a.kept q.root (fresh.at q has)) s
  after_sound (SetFieldS e f g) H a fresh s = sound_kept H (λ q has. a.kept q.root (fresh.at q has)) s
  after_sound (DoS e drops) H a fresh s = sound_kept H (λ q has. a.kept q.root (fresh.at q has)) s
  after_sound (IfS c t u) H a fresh s = sound_kept H (λ q has. a.kept q.root (fresh.at q has)) s
  after_sound (WhileS c t) H a fresh s = sound_kept H (λ q has. a.kept q.root (fresh.at q has)) s
  after_sound (SyncS p t) H a fresh s = sound_kept H (λ q has. a.kept q.root (fresh.at q has)) s
  after_sound (ReturnS e) H a fresh s = sound_kept H (λ q has. a.kept q.root (fresh.at q has)) s
  after_sound (PrintS e) H a fresh s = sound_kept H (λ q has. a.kept q.root (fresh.at q has)) s
  after_sound (StartS e) H a fresh s = sound_kept H (λ q has. a.kept q.root (fresh.at q has)) s

module _ (H : Held) (ss : Stmts) (x : ℕ) (apart : stores_each ss x ≡ false) (fresh : (q : PathData) → H q ≡ true → stores_each ss q.root ≡ false) where
  without_fresh : (q : PathData) (b : Bool) → (q.root == x) ≡ b → (if b then false else H q) ≡ true → stores_each ss q.root ≡ false
  without_fresh q true is has = absurd cc
  without_fresh q false is has = fresh q has

  alias_fresh : (p q : PathData) (b : Bool) → (q.root == x) ≡ b → (if b then holds_at (extended p q.fields) H else H q) ≡ true → stores_each ss q.root ≡ false
  alias_fresh p q true is has = subst (λ y. stores_each ss y ≡ false) (sym (eqb-true q.root x is)) apart
  alias_fresh p q false is has = fresh q has

  local_fresh : (o : Option PathData) → FreshEach (after_local H x o) ss
  local_fresh None = record { at = λ q has. without_fresh q (q.root == x) refl has }
  local_fresh (Some p) = record { at = λ q has. alias_fresh p q (q.root == x) refl has }

pub after_fresh : (P : Program) (st : Stmt) (ss : Stmts) (H : Held) → Apart st ss → FreshEach H (and_stmt st ss) → FreshEach (after_stmt P st H) ss
after_fresh P (LocalS x true ty e) ss H apart f = local_fresh H ss x apart (λ q has. (or_parts (x == q.root) (stores_each ss q.root) (f.at q has)).1) (path_of P e)
after_fresh P (LocalS x false ty e) ss H apart f = record { at = λ q has. (or_parts (stores (LocalS x false ty e) q.root) (stores_each ss q.root) (f.at q has)).1 }
after_fresh P EmptyS ss H apart f = record { at = λ q has. f.at q has }
after_fresh P (BlockS ts) ss H apart f = record { at = λ q has. (or_parts (stores (BlockS ts) q.root) (stores_each ss q.root) (f.at q has)).1 }
after_fresh P (SetVarS x e) ss H apart f = record { at = λ q has. (or_parts (stores (SetVarS x e) q.root) (stores_each ss q.root) (f.at q has)).1 }
after_fresh P (SetFieldS e x g) ss H apart f = record { at = λ q has. f.at q has }
after_fresh P (DoS e drops) ss H apart f = record { at = λ q has. f.at q has }
after_fresh P (IfS c t u) ss H apart f = record { at = λ q has. (or_parts (stores (IfS c t u) q.root) (stores_each ss q.root) (f.at q has)).1 }
after_fresh P (WhileS c t) ss H apart f = record { at = λ q has. (or_parts (stores (WhileS c t) q.root) (stores_each ss q.root) (f.at q has)).1 }
after_fresh P (SyncS p t) ss H apart f = record { at = λ q has. (or_parts (stores (SyncS p t) q.root) (stores_each ss q.root) (f.at q has)).1 }
after_fresh P (ReturnS e) ss H apart f = record { at = λ q has. f.at q has }
after_fresh P (PrintS e) ss H apart f = record { at = λ q has. f.at q has }
after_fresh P (StartS e) ss H apart f = record { at = λ q has. f.at q has }
