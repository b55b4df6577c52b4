-- With the path that would help held, a part by itself can be moved.
use Rattle.std.proofs.Common.{◌≡◌, ℕ, Bool, true, false, List, [], ◌∷◌, Some, None, if◌then◌else◌, refl, sym, ap, ◌∙◌}
use Rattle.paths.specs.Paths.{PathData}
use Rattle.algebra.specs.declared.basic.Basic.TheVariants.{Mover, Error}
use Rattle.algebra.specs.Basics.{below_of}
use Rattle.algebra.specs.HeldPaths.{Held, with_path}
use Rattle.algebra.proofs.Sets.{with_itself}
use Rattle.core_program.specs.Core.{Program, IntE, TruthE, NullE, ThisE, VarE, NotE, NegE, BinaryE, AndE, OrE, GetE, CallE, NewE}
use Rattle.core_program.specs.Core.{EmptyS, BlockS, LocalS, SetVarS, SetFieldS, DoS, IfS, WhileS, SyncS, ReturnS, PrintS, StartS}
use Rattle.core_program.specs.Locks.{path_of}
use Rattle.rules.specs.declared.guard.Guard.{Guard}
use Rattle.rules.specs.declared.guard.Guard.TheVariants.{Final, Free, Named, Unnamed, WriteNamed, WriteUnnamed}
use Rattle.rules.specs.Guards.{guard_of}
use Rattle.rules.specs.Mentions.{paths_of}
use Rattle.rules.specs.Effect.{Assignment, access_effect, write_guarded, call_of}
use Rattle.rules.specs.Rules.{AtMost}
use Rattle.effects.specs.Parts.{Part, ExprP, StmtP}
use Rattle.explain.specs.PartEffects.{own_of, lock_effect}
use Rattle.explain.specs.Helping.{guard_help, first_path, names_here, help}

guard_helps : (writes : Bool) (guard : Guard) (H : Held) (p : PathData) → guard_help writes guard ≡ Some p → AtMost (access_effect writes guard (with_path p H)) Mover
guard_helps writes Final H p e = absurd (let f : None ≡ Some p = e in cc)
guard_helps writes Free H p e = absurd (let f : None ≡ Some p = e in cc)
guard_helps writes Unnamed H p e = absurd (let f : None ≡ Some p = e in cc)
guard_helps writes WriteUnnamed H p e = absurd (let f : None ≡ Some p = e in cc)
guard_helps true (WriteNamed q) H p e = absurd (let f : None ≡ Some p = e in cc)
guard_helps false (WriteNamed q) H p e =
    let same : p ≡ q = cc in
    ap (λ t. below_of (write_guarded false t) Mover) (ap (λ z. with_path p H z) (sym same) ∙ with_itself p H)
guard_helps true (Named q) H p e =
    let same : p ≡ q = cc in
    ap (λ t. below_of (if t then Mover else Error) Mover) (ap (λ z. with_path p H z) (sym same) ∙ with_itself p H)
guard_helps false (Named q) H p e =
    let same : p ≡ q = cc in
    ap (λ t. below_of (if t then Mover else Error) Mover) (ap (λ z. with_path p H z) (sym same) ∙ with_itself p H)

first_passes : (test : PathData → Bool) (ps : List PathData) (p : PathData) → first_path test ps ≡ Some p → test p ≡ true
first_passes test [] p e = absurd (let f : None ≡ Some p = e in cc)
first_passes test (q ∷ qs) p e = by (test q) refl e (first_passes test qs p)
  where
    by : (t : Bool) → test q ≡ t → (if t then Some q else first_path test qs) ≡ Some p → (first_path test qs ≡ Some p → test p ≡ true) → test p ≡ true
    by true t e later = let same : q ≡ p = cc in ap test (sym same) ∙ t
    by false t e later = later e

module _ (P : Program) (rel : ℕ → List PathData) (A : Assignment) where
  pub part_helps : (x : Part) (H : Held) (p : PathData) → help P rel A x H ≡ Some p → AtMost (own_of P rel A x (with_path p H)) Mover
  part_helps (ExprP (IntE v)) H p e = refl
  part_helps (ExprP (TruthE b)) H p e = refl
  part_helps (ExprP NullE) H p e = refl
  part_helps (ExprP ThisE) H p e = refl
  part_helps (ExprP (VarE x is_final ty)) H p e = absurd (let f : None ≡ Some p = e in cc)
  part_helps (ExprP (NotE u)) H p e = refl
  part_helps (ExprP (NegE u)) H p e = refl
  part_helps (ExprP (BinaryE op a b)) H p e = refl
  part_helps (ExprP (AndE a b)) H p e = refl
  part_helps (ExprP (OrE a b)) H p e = refl
  part_helps (ExprP (GetE u f)) H p e = guard_helps false (guard_of P f (path_of P u)) H p e
  part_helps (ExprP (CallE u m args)) H p e =
      first_passes (λ p. below_of (call_of P rel A m (path_of P u) (paths_of P args) (with_path p H)) Mover) (names_here (path_of P u) (paths_of P args) (rel m)) p e
  part_helps (ExprP (NewE c args)) H p e = refl
  part_helps (StmtP EmptyS) H p e = refl
  part_helps (StmtP (BlockS ss)) H p e = refl
  part_helps (StmtP (LocalS x is_final ty u)) H p e = refl
  part_helps (StmtP (SetVarS x u)) H p e = refl
  part_helps (StmtP (SetFieldS u f g)) H p e = guard_helps true (guard_of P f (path_of P u)) H p e
  part_helps (StmtP (DoS u drops)) H p e = refl
  part_helps (StmtP (IfS c s t)) H p e = refl
  part_helps (StmtP (WhileS c s)) H p e = refl
  part_helps (StmtP (SyncS q s)) H p e =
      let same : q ≡ p = cc in
      ap (λ t. below_of (lock_effect t) Mover) (ap (λ z. with_path p H z) same ∙ with_itself p H)
  part_helps (StmtP (ReturnS o)) H p e = refl
  part_helps (StmtP (PrintS u)) H p e = absurd (let f : None ≡ Some p = e in cc)
  part_helps (StmtP (StartS u)) H p e = absurd (let f : None ≡ Some p = e in cc)
