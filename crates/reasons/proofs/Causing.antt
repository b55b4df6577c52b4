-- What is told of an error is so.
use Rattle.std.proofs.Common.{◌≡◌, ℕ, Bool, true, false, not, ◌&&◌, ◌||◌, List, [], ◌∷◌, slice_get, Some, None, if◌then◌else◌, refl, sym, ap, ◌∙◌}
use Rattle.std.specs.Prelude.{Option, find}
use Rattle.std.specs.List.{list_all}
use Rattle.std.proofs.lemmas.Bool.{or_right}
use Rattle.std.proofs.lemmas.Option.{same_Some, none-some}
use Rattle.paths.specs.Paths.{PathData, path_eq}
use Rattle.paths.specs.Renamings.{under_call}
use Rattle.paths.proofs.PathOrder.{eq_itself}
use Rattle.algebra.specs.declared.basic.Basic.{Basic}
use Rattle.algebra.specs.declared.basic.Basic.TheVariants.{Mover, Error}
use Rattle.algebra.specs.HeldPaths.{Held, has_path, holds_at}
use Rattle.core_program.specs.Core.{Program, Expr, Exprs, IntE, TruthE, NullE, ThisE, VarE, NotE, NegE, BinaryE, AndE, OrE, GetE, CallE, NewE}
use Rattle.core_program.specs.Core.{EmptyS, BlockS, LocalS, SetVarS, SetFieldS, DoS, IfS, WhileS, SyncS, ReturnS, PrintS, StartS}
use Rattle.core_program.specs.Locks.{path_of}
use Rattle.rules.specs.declared.guard.Guard.{Guard}
use Rattle.rules.specs.declared.guard.Guard.TheVariants as guard
use Rattle.rules.specs.Guards.{guard_of}
use Rattle.rules.specs.Effect.{Assignment, access_effect, held_under, required_paths, variable_effect, write_guarded}
use Rattle.rules.specs.Mentions.{paths_of}
use Rattle.rules.specs.Rules.{IsSubset}
use Rattle.effects.specs.Parts.{Part, ExprP, StmtP}
use Rattle.explain.specs.PartEffects.{lock_effect, own_of}
use Rattle.explain.specs.declared.names.Alias.{Alias}
use Rattle.explain.specs.Causes.{access_cause, call_cause, cause_of, lacking}
use Rattle.reasons.specs.Causing.{IsAccessCause, IsCallCause, IsCause}

-- of a search for a path that isn't held: all are, or this one is among them and isn't
abbrev Fails : Held → List PathData → Option PathData → Type 0
Fails test ps None = list_all test ps ≡ true
Fails test ps (Some q) = (has_path ps q ≡ true) × (test q ≡ false)

fails_later : (test : Held) (p : PathData) (ps : List PathData) (o : Option PathData) → test p ≡ true → Fails test ps o → Fails test (p ∷ ps) o
fails_later test p ps None passes h = ap (λ b. b && list_all test ps) passes ∙ h
fails_later test p ps (Some q) passes h = (or_right (path_eq p q) (has_path ps q) h.0, h.1)

first_fails : (test : Held) (ps : List PathData) → Fails test ps (find (λ q. not (test q)) ps)
first_fails test [] = refl
first_fails test (p ∷ ps) = by (test p) refl (first_fails test ps)
  where
    by : (b : Bool) → test p ≡ b → Fails test ps (find (λ q. not (test q)) ps) → Fails test (p ∷ ps) (if not b then Some p else find (λ q. not (test q)) ps)
    by true is later = fails_later test p ps (find (λ q. not (test q)) ps) is later
    by false is later = (ap (λ b. b || has_path ps p) (eq_itself p), is)

bare_named : (b : Bool) → (if b then Mover else Error) ≡ Error → b ≡ false
bare_named true e = absurd cc
bare_named false e = refl

bare_write : (writes b : Bool) → write_guarded writes b ≡ Error → b ≡ false
bare_write false true e = absurd cc
bare_write false false e = absurd cc
bare_write true true e = absurd cc
bare_write true false e = refl

no_variable : {X : Type 0} (is_final : Bool) → variable_effect is_final ≡ Error → X
no_variable true e = absurd cc
no_variable false e = absurd cc

no_lock : {X : Type 0} (held : Bool) → lock_effect held ≡ Error → X
no_lock true e = absurd cc
no_lock false e = absurd cc

if_error : (b : Bool) (x : Basic) → b ≡ true → (if b then x else Error) ≡ Error → x ≡ Error
if_error true x is e = e
if_error false x is e = absurd (let f : false ≡ true = is in cc)

isnt_held : (b : Bool) (o : Option PathData) (H : Held) (p : PathData) → b ≡ true → (b && holds_at o H) ≡ false → o ≡ Some p → H p ≡ false
isnt_held true None H p relevant e is = absurd (none-some p is)
isnt_held true (Some r) H p relevant e is = ap H (sym (same_Some r p is)) ∙ e
isnt_held false o H p relevant e is = absurd (let f : false ≡ true = relevant in cc)

module _ (P : Program) (rel : ℕ → List PathData) (A : Assignment) (aliases : List Alias) (H : Held) where
  access_meant : (writes : Bool) (e : Expr) (f : ℕ) (g : Guard) → guard_of P f (path_of P e) ≡ g → access_effect writes g H ≡ Error → IsAccessCause P rel A H e f (access_cause P aliases H e f g)
  access_meant writes e f guard.Final at is = absurd cc
  access_meant writes e f guard.Free at is = absurd cc
  access_meant writes e f (guard.Named p) at is = record { on = refl; of = refl; guard = at; free = bare_named (H p) is }
  access_meant writes e f guard.Unnamed at is = record { of = refl; guard = at; since = refl }
  access_meant writes e f (guard.WriteNamed p) at is = record { on = refl; of = refl; guard = at; free = bare_write writes (H p) is }
  access_meant writes e f guard.WriteUnnamed at is = record { of = refl; guard = at; since = refl }

  lacking_meant : (e : Expr) (m : ℕ) (args : Exprs) (q : PathData) (o : Option PathData) → under_call (path_of P e) (paths_of P args) q ≡ o → has_path (required_paths (slice_get P.methods m)) q ≡ true
      → has_path (rel m) q ≡ true → held_under (rel m) (path_of P e) (paths_of P args) H q ≡ false → IsCallCause P rel A H e m args (lacking P aliases H e m args q o)
  lacking_meant e m args q None is required relevant fails = record { of = refl; required = required; name = is; since = refl }
  lacking_meant e m args q (Some p) is required relevant fails = record {
    of = refl;
    required = required;
    name = is;
    free = isnt_held (has_path (rel m) q) (under_call (path_of P e) (paths_of P args) q) H p relevant fails is;
  }

  call_meant : (e : Expr) (m : ℕ) (args : Exprs) (o : Option PathData) → IsSubset (has_path (required_paths (slice_get P.methods m))) (has_path (rel m))
      → Fails (held_under (rel m) (path_of P e) (paths_of P args) H) (required_paths (slice_get P.methods m)) o
      → (if list_all (held_under (rel m) (path_of P e) (paths_of P args) H) (required_paths (slice_get P.methods m)) then A m (held_under (rel m) (path_of P e) (paths_of P args) H) else Error) ≡ Error
      → IsCallCause P rel A H e m args (call_cause P aliases H e m args o)
  call_meant e m args None relevant all is =
      let K = held_under (rel m) (path_of P e) (paths_of P args) H in
      record { of = refl; all = all; wrong = if_error (list_all K (required_paths (slice_get P.methods m))) (A m K) all is }
  call_meant e m args (Some q) relevant fails is = lacking_meant e m args q (under_call (path_of P e) (paths_of P args) q) refl fails.0 (relevant q fails.0) fails.1

pub part_meant : (P : Program) (rel : ℕ → List PathData) (A : Assignment) (aliases : List Alias) (H : Held) (x : Part) → ((m : ℕ) → IsSubset (has_path (required_paths (slice_get P.methods m))) (has_path (rel m)))
    → own_of P rel A x H ≡ Error → IsCause P rel A H x (cause_of P rel aliases H x)
part_meant P rel A aliases H (ExprP (IntE v)) relevant is = absurd cc
part_meant P rel A aliases H (ExprP (TruthE b)) relevant is = absurd cc
part_meant P rel A aliases H (ExprP NullE) relevant is = absurd cc
part_meant P rel A aliases H (ExprP ThisE) relevant is = absurd cc
part_meant P rel A aliases H (ExprP (VarE x is_final ty)) relevant is = no_variable is_final is
part_meant P rel A aliases H (ExprP (NotE e)) relevant is = absurd cc
part_meant P rel A aliases H (ExprP (NegE e)) relevant is = absurd cc
part_meant P rel A aliases H (ExprP (BinaryE op a b)) relevant is = absurd cc
part_meant P rel A aliases H (ExprP (AndE a b)) relevant is = absurd cc
part_meant P rel A aliases H (ExprP (OrE a b)) relevant is = absurd cc
part_meant P rel A aliases H (ExprP (GetE e f)) relevant is = access_meant P rel A aliases H false e f (guard_of P f (path_of P e)) refl is
part_meant P rel A aliases H (ExprP (CallE e m args)) relevant is =
    call_meant P rel A aliases H e m args _ (relevant m) (first_fails (held_under (rel m) (path_of P e) (paths_of P args) H) (required_paths (slice_get P.methods m))) is
part_meant P rel A aliases H (ExprP (NewE c args)) relevant is = absurd cc
part_meant P rel A aliases H (StmtP EmptyS) relevant is = absurd cc
part_meant P rel A aliases H (StmtP (BlockS ss)) relevant is = absurd cc
part_meant P rel A aliases H (StmtP (LocalS x is_final ty e)) relevant is = absurd cc
part_meant P rel A aliases H (StmtP (SetVarS x e)) relevant is = absurd cc
part_meant P rel A aliases H (StmtP (SetFieldS e f g)) relevant is = access_meant P rel A aliases H true e f (guard_of P f (path_of P e)) refl is
part_meant P rel A aliases H (StmtP (DoS e drops)) relevant is = absurd cc
part_meant P rel A aliases H (StmtP (IfS c s t)) relevant is = absurd cc
part_meant P rel A aliases H (StmtP (WhileS c s)) relevant is = absurd cc
part_meant P rel A aliases H (StmtP (SyncS p s)) relevant is = no_lock (H p) is
part_meant P rel A aliases H (StmtP (ReturnS e)) relevant is = absurd cc
part_meant P rel A aliases H (StmtP (PrintS e)) relevant is = absurd cc
part_meant P rel A aliases H (StmtP (StartS e)) relevant is = absurd cc
