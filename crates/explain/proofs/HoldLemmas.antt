-- Which lock helps a part.
use Rattle.std.proofs.Common.{◌≡◌, ℕ, Bool, true, false, List, [], ◌∷◌, Some, None, if◌then◌else◌, refl, sym, ap, subst, ◌∙◌}
use Rattle.std.specs.Prelude.{Option, find}
use Rattle.std.proofs.lemmas.Option.{same_Some, none-some}
use Rattle.paths.specs.Paths.{PathData}
use Rattle.algebra.specs.declared.basic.Basic.TheVariants.{Mover}
use Rattle.algebra.specs.HeldPaths.{Held, with_path}
use Rattle.core_program.specs.Core.{Program, Expr, IntE, TruthE, NullE, ThisE, VarE, NotE, NegE, BinaryE, AndE, OrE, GetE, CallE, NewE}
use Rattle.core_program.specs.Core.{EmptyS, BlockS, LocalS, SetVarS, SetFieldS, DoS, IfS, WhileS, SyncS, ReturnS, PrintS, StartS}
use Rattle.core_program.specs.Locks.{path_of}
use Rattle.rules.specs.declared.guard.Guard.{Guard}
use Rattle.rules.specs.declared.guard.Guard.TheVariants as guard
use Rattle.rules.specs.Guards.{guard_of}
use Rattle.rules.specs.Effect.{Assignment}
use Rattle.rules.specs.Rules.{AtMost}
use Rattle.effects.specs.Parts.{Part, ExprP, StmtP}
use Rattle.explain.specs.PartEffects.{own_of}
use Rattle.explain.specs.Helping.{help}
use Rattle.explain.proofs.Helping.{part_helps}
use Rattle.explain.specs.declared.deeds.Help.{Help}
use Rattle.explain.specs.declared.deeds.Help.TheVariants as helps
use Rattle.explain.specs.declared.names.Alias.{Alias}
use Rattle.explain.specs.Deeds.{help_of, hold_or, no_access_help, no_call_help, no_help}
use Rattle.explain.specs.Names.{meant, names_from, second_name}

-- ---- locks that help

abbrev IsNoHold : Help → Type 0
IsNoHold (helps.Hold p second) = ⊥
IsNoHold reason = Unit {0}

access_none : (P : Program) (e : Expr) (g : Guard) → IsNoHold (no_access_help P e g)
access_none P e guard.Final = tt
access_none P e guard.Free = tt
access_none P e (guard.Named p) = tt
access_none P e guard.Unnamed = tt
access_none P e (guard.WriteNamed p) = tt
access_none P e guard.WriteUnnamed = tt

call_none : (P : Program) (e : Expr) (o : Option PathData) → IsNoHold (no_call_help P e o)
call_none P e None = tt
call_none P e (Some p) = tt

part_none : (P : Program) (x : Part) → IsNoHold (no_help P x)
part_none P (ExprP (IntE v)) = tt
part_none P (ExprP (TruthE b)) = tt
part_none P (ExprP NullE) = tt
part_none P (ExprP ThisE) = tt
part_none P (ExprP (VarE x is_final ty)) = tt
part_none P (ExprP (NotE e)) = tt
part_none P (ExprP (NegE e)) = tt
part_none P (ExprP (BinaryE op a b)) = tt
part_none P (ExprP (AndE a b)) = tt
part_none P (ExprP (OrE a b)) = tt
part_none P (ExprP (GetE e f)) = access_none P e (guard_of P f (path_of P e))
part_none P (ExprP (CallE e m args)) = call_none P e (path_of P e)
part_none P (ExprP (NewE c args)) = tt
part_none P (StmtP EmptyS) = tt
part_none P (StmtP (BlockS ss)) = tt
part_none P (StmtP (LocalS x is_final ty e)) = tt
part_none P (StmtP (SetVarS x e)) = tt
part_none P (StmtP (SetFieldS e f g)) = access_none P e (guard_of P f (path_of P e))
part_none P (StmtP (DoS e drops)) = tt
part_none P (StmtP (IfS c s t)) = tt
part_none P (StmtP (WhileS c s)) = tt
part_none P (StmtP (SyncS p s)) = tt
part_none P (StmtP (ReturnS e)) = tt
part_none P (StmtP (PrintS e)) = tt
part_none P (StmtP (StartS e)) = tt

held_lock : (aliases : List Alias) (H : Held) (o : Option PathData) (reason : Help) (p : PathData) (second : Option PathData) → IsNoHold reason → hold_or aliases H o reason ≡ helps.Hold p second → o ≡ Some p
held_lock aliases H None reason p second none is = absurd (subst IsNoHold is none)
held_lock aliases H (Some q) reason p second none is = let same : q ≡ p = cc in ap Some same

pub hold_moves : (P : Program) (rel : ℕ → List PathData) (A : Assignment) (aliases : List Alias) (x : Part) (H : Held) (p : PathData) (second : Option PathData) → help_of P rel A aliases x H ≡ helps.Hold p second
    → AtMost (own_of P rel A x (with_path p H)) Mover
hold_moves P rel A aliases x H p second is = part_helps P rel A x H p (held_lock aliases H (help P rel A x H) (no_help P x) p second (part_none P x) is)

pub hold_told : (P : Program) (rel : ℕ → List PathData) (A : Assignment) (aliases : List Alias) (x : Part) (H : Held) (p : PathData) → help P rel A x H ≡ Some p
    → help_of P rel A aliases x H ≡ helps.Hold p (second_name aliases H p)
hold_told P rel A aliases x H p is = ap (λ o. hold_or aliases H o (no_help P x)) is

found_passes : (test : Held) (ps : List PathData) (q : PathData) → find test ps ≡ Some q → test q ≡ true
found_passes test [] q is = absurd (none-some q is)
found_passes test (p ∷ ps) q is = by (test p) refl is (found_passes test ps q)
  where
    by : (b : Bool) → test p ≡ b → (if b then Some p else find test ps) ≡ Some q → (find test ps ≡ Some q → test q ≡ true) → test q ≡ true
    by true passes e later = ap test (sym (same_Some p q e)) ∙ passes
    by false passes e later = later e

pub second_held : (aliases : List Alias) (H : Held) (p q : PathData) → second_name aliases H p ≡ Some q → H q ≡ true
second_held aliases H p q is = found_passes H (meant aliases p ∷ names_from aliases (meant aliases p)) q is
