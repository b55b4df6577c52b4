-- Where no lock is told none helps, and what is told of a lock is so.
use Rattle.std.proofs.Common.{◌≡◌, ℕ, Bool, true, false, ◌&&◌, ◌||◌, List, [], ◌∷◌, Some, None, if◌then◌else◌, refl, sym, ap, ◌∙◌, inl, inr}
use Rattle.std.specs.Prelude.{Option, slice_get}
use Rattle.std.specs.List.{list_all}
use Rattle.std.proofs.lemmas.Bool.{false≢true, or_cases, or_left, or_right}
use Rattle.std.proofs.lemmas.Option.{none-some}
use Rattle.paths.specs.Paths.{PathData, path_eq}
use Rattle.paths.specs.Renamings.{under_call}
use Rattle.paths.proofs.PathOrder.{eq_is, eq_itself}
use Rattle.algebra.specs.declared.basic.Basic.TheVariants.{Mover, Error}
use Rattle.algebra.specs.Basics.{below_of}
use Rattle.algebra.specs.HeldPaths.{Held, has_path, holds_at, with_path}
use Rattle.core_program.specs.Core.{Program, Expr, IntE, TruthE, NullE, ThisE, VarE, NotE, NegE, BinaryE, AndE, OrE, GetE, CallE, NewE}
use Rattle.core_program.specs.Core.{EmptyS, BlockS, LocalS, SetVarS, SetFieldS, DoS, IfS, WhileS, SyncS, ReturnS, PrintS, StartS}
use Rattle.core_program.specs.Locks.{path_of}
use Rattle.effects.specs.Parts.{Part, ExprP, StmtP}
use Rattle.rules.specs.declared.guard.Guard.{Guard}
use Rattle.rules.specs.declared.guard.Guard.TheVariants.{Final, Free, Named, Unnamed, WriteNamed, WriteUnnamed}
use Rattle.rules.specs.Guards.{guard_of}
use Rattle.rules.specs.Mentions.{paths_of}
use Rattle.rules.specs.Effect.{Assignment, access_effect, call_of, held_under, required_paths, variable_effect, write_guarded}
use Rattle.explain.specs.PartEffects.{own_of}
use Rattle.explain.specs.Helping.{first_path, guard_help, help, names_here, path_before}
use Rattle.explain.proofs.Helping.{part_helps}
use Rattle.explain.specs.declared.names.Alias.{Alias}
use Rattle.explain.specs.Deeds.{help_of, hold_or, no_access_help, no_call_help, no_help}
use Rattle.reasons.specs.Helpless.{access_at, called_on, IsHeld, IsHelp, IsHelpless}

-- ---- the names of a callee's paths

none_passes : (test : PathData → Bool) (ps : List PathData) (p : PathData) → first_path test ps ≡ None → has_path ps p ≡ true → test p ≡ false
none_passes test [] p none has = absurd (false≢true has)
none_passes test (q ∷ qs) p none has = by (test q) refl none (λ later there. none_passes test qs p later there)
  where
    by : (b : Bool) → test q ≡ b → (if b then Some q else first_path test qs) ≡ None → (first_path test qs ≡ None → has_path qs p ≡ true → test p ≡ false) → test p ≡ false
    by true is found later = absurd (none-some q (sym found))
    by false is found later = elim (or_cases (path_eq q p) (has_path qs p) has) as (λ _. test p ≡ false) [
      | inl same ↦ ap test (sym (eq_is q p same)) ∙ is
      | inr there ↦ later found there
    ]

before_later : (o : Option PathData) (ps : List PathData) (p : PathData) → has_path ps p ≡ true → has_path (path_before o ps) p ≡ true
before_later None ps p has = has
before_later (Some q) ps p has = or_right (path_eq q p) (has_path ps p) has

in_names : (receiver : Option PathData) (args : List (Option PathData)) (qs : List PathData) (q p : PathData) → has_path qs q ≡ true → under_call receiver args q ≡ Some p → has_path (names_here receiver args qs) p ≡ true
in_names receiver args [] q p has named = absurd (false≢true has)
in_names receiver args (r ∷ rs) q p has named = elim (or_cases (path_eq r q) (has_path rs q) has) as (λ _. has_path (names_here receiver args (r ∷ rs)) p ≡ true) [
  | inl same ↦ ap (λ o. has_path (path_before o (names_here receiver args rs)) p) (ap (under_call receiver args) (eq_is r q same) ∙ named) ∙ or_left (path_eq p p) (has_path (names_here receiver args rs) p) (eq_itself p)
  | inr later ↦ before_later (under_call receiver args r) (names_here receiver args rs) p (in_names receiver args rs q p later named)
]

-- a path that is the name of no relevant path leaves the set with which the callee begins
same_under : (receiver : Option PathData) (args : List (Option PathData)) (qs : List PathData) (p : PathData) (H : Held) → has_path (names_here receiver args qs) p ≡ false
    → held_under qs receiver args (with_path p H) ≡ held_under qs receiver args H
same_under receiver args qs p H unnamed = λ i q. at q (has_path qs q) (under_call receiver args q) refl refl i
  where
    other : (q n : PathData) → has_path qs q ≡ true → under_call receiver args q ≡ Some n → (b : Bool) → path_eq p n ≡ b → (b || H n) ≡ H n
    other q n relevant named false is = refl
    other q n relevant named true is =
        absurd (false≢true (sym unnamed ∙ in_names receiver args qs q p relevant (named ∙ ap Some (sym (eq_is p n is)))))

    at : (q : PathData) (b : Bool) (o : Option PathData) → has_path qs q ≡ b → under_call receiver args q ≡ o → (b && holds_at o (with_path p H)) ≡ (b && holds_at o H)
    at q false o relevant named = refl
    at q true None relevant named = refl
    at q true (Some n) relevant named = other q n relevant named (path_eq p n) refl

-- a path that is held leaves the set
with_held : (p : PathData) (H : Held) → H p ≡ true → with_path p H ≡ H
with_held p H held = λ i q. at q (path_eq p q) refl i
  where
    at : (q : PathData) (b : Bool) → path_eq p q ≡ b → (b || H q) ≡ H q
    at q false is = refl
    at q true is = sym (ap H (sym (eq_is p q is)) ∙ held)

never : {X : Type 0} → true ≡ false → X
never e = absurd (false≢true (sym e))

no_variable : {X : Type 0} (is_final : Bool) → below_of (variable_effect is_final) Mover ≡ false → X
no_variable true e = never e
no_variable false e = never e

no_name : {X : Type 0} (p : PathData) → Some p ≡ None → X
no_name p e = absurd (none-some p (sym e))

never_moved : (held : Bool) → below_of (write_guarded true held) Mover ≡ false
never_moved true = refl
never_moved false = refl

access_helpless : (writes : Bool) (g : Guard) (H : Held) → guard_help writes g ≡ None → below_of (access_effect writes g H) Mover ≡ false → (p : PathData) → below_of (access_effect writes g (with_path p H)) Mover ≡ false
access_helpless writes Final H none stays p = never stays
access_helpless writes Free H none stays p = stays
access_helpless true (Named q) H none stays p = no_name q none
access_helpless false (Named q) H none stays p = no_name q none
access_helpless writes Unnamed H none stays p = stays
access_helpless true (WriteNamed q) H none stays p = never_moved (with_path p H q)
access_helpless false (WriteNamed q) H none stays p = no_name q none
access_helpless writes WriteUnnamed H none stays p = stays

module _ (P : Program) (rel : ℕ → List PathData) (A : Assignment) where
  call_helpless : (m : ℕ) (receiver : Option PathData) (args : List (Option PathData)) (H : Held)
      → first_path (λ p. below_of (call_of P rel A m receiver args (with_path p H)) Mover) (names_here receiver args (rel m)) ≡ None
      → below_of (call_of P rel A m receiver args H) Mover ≡ false → (p : PathData) → below_of (call_of P rel A m receiver args (with_path p H)) Mover ≡ false
  call_helpless m receiver args H none stays p = by (has_path (names_here receiver args (rel m)) p) refl
    where
      by : (b : Bool) → has_path (names_here receiver args (rel m)) p ≡ b → below_of (call_of P rel A m receiver args (with_path p H)) Mover ≡ false
      by true is = none_passes (λ q. below_of (call_of P rel A m receiver args (with_path q H)) Mover) (names_here receiver args (rel m)) p none is
      by false is =
          ap (λ (K : Held). below_of (if list_all K (required_paths (slice_get P.methods m)) then A m K else Error) Mover) (same_under receiver args (rel m) p H is) ∙ stays

  part_helpless : (x : Part) (H : Held) → help P rel A x H ≡ None → below_of (own_of P rel A x H) Mover ≡ false → IsHelpless P rel A x H
  part_helpless (ExprP (IntE v)) H none stays p = never stays
  part_helpless (ExprP (TruthE b)) H none stays p = never stays
  part_helpless (ExprP NullE) H none stays p = never stays
  part_helpless (ExprP ThisE) H none stays p = never stays
  part_helpless (ExprP (VarE x is_final ty)) H none stays p = no_variable is_final stays
  part_helpless (ExprP (NotE u)) H none stays p = never stays
  part_helpless (ExprP (NegE u)) H none stays p = never stays
  part_helpless (ExprP (BinaryE op a b)) H none stays p = never stays
  part_helpless (ExprP (AndE a b)) H none stays p = never stays
  part_helpless (ExprP (OrE a b)) H none stays p = never stays
  part_helpless (ExprP (GetE u f)) H none stays p = access_helpless false (guard_of P f (path_of P u)) H none stays p
  part_helpless (ExprP (CallE u m args)) H none stays p = call_helpless m (path_of P u) (paths_of P args) H none stays p
  part_helpless (ExprP (NewE c args)) H none stays p = never stays
  part_helpless (StmtP EmptyS) H none stays p = never stays
  part_helpless (StmtP (BlockS ss)) H none stays p = never stays
  part_helpless (StmtP (LocalS x is_final ty u)) H none stays p = never stays
  part_helpless (StmtP (SetVarS x u)) H none stays p = never stays
  part_helpless (StmtP (SetFieldS u f g)) H none stays p = access_helpless true (guard_of P f (path_of P u)) H none stays p
  part_helpless (StmtP (DoS u drops)) H none stays p = never stays
  part_helpless (StmtP (IfS c s t)) H none stays p = never stays
  part_helpless (StmtP (WhileS c s)) H none stays p = never stays
  part_helpless (StmtP (SyncS q s)) H none stays p = no_name q none
  part_helpless (StmtP (ReturnS u)) H none stays p = never stays
  part_helpless (StmtP (PrintS u)) H none stays p = refl
  part_helpless (StmtP (StartS u)) H none stays p = refl

  access_meant : (x : Part) (H : Held) (writes : Bool) (e : Expr) (g : Guard) → access_at P x ≡ Some (e, g) → guard_help writes g ≡ None → below_of (access_effect writes g H) Mover ≡ false → IsHelpless P rel A x H
      → IsHelp P rel A x H (no_access_help P e g)
  access_meant x H writes e Final at none stays helpless = never stays
  access_meant x H writes e Free at none stays helpless = (e, record { access = at; helpless = helpless })
  access_meant x H true e (Named q) at none stays helpless = no_name q none
  access_meant x H false e (Named q) at none stays helpless = no_name q none
  access_meant x H writes e Unnamed at none stays helpless = (e, refl, inl (record { access = at; helpless = helpless }))
  access_meant x H true e (WriteNamed q) at none stays helpless = (e, q, record { access = at; helpless = helpless })
  access_meant x H false e (WriteNamed q) at none stays helpless = no_name q none
  access_meant x H writes e WriteUnnamed at none stays helpless = (e, refl, inr (record { access = at; helpless = helpless }))

  call_meant : (x : Part) (H : Held) (e : Expr) → called_on x ≡ Some e → IsHelpless P rel A x H → (o : Option PathData) → path_of P e ≡ o → IsHelp P rel A x H (no_call_help P e o)
  call_meant x H e at helpless None is = (e, refl, is, record { call = at; helpless = helpless })
  call_meant x H e at helpless (Some r) is = (e, r, is, record { call = at; helpless = helpless })

  none_meant : (x : Part) (H : Held) → help P rel A x H ≡ None → below_of (own_of P rel A x H) Mover ≡ false → IsHelp P rel A x H (no_help P x)
  none_meant (ExprP (IntE v)) H none stays = never stays
  none_meant (ExprP (TruthE b)) H none stays = never stays
  none_meant (ExprP NullE) H none stays = never stays
  none_meant (ExprP ThisE) H none stays = never stays
  none_meant (ExprP (VarE x is_final ty)) H none stays = no_variable is_final stays
  none_meant (ExprP (NotE u)) H none stays = never stays
  none_meant (ExprP (NegE u)) H none stays = never stays
  none_meant (ExprP (BinaryE op a b)) H none stays = never stays
  none_meant (ExprP (AndE a b)) H none stays = never stays
  none_meant (ExprP (OrE a b)) H none stays = never stays
  none_meant (ExprP (GetE u f)) H none stays = access_meant (ExprP (GetE u f)) H false u (guard_of P f (path_of P u)) refl none stays (part_helpless (ExprP (GetE u f)) H none stays)
  none_meant (ExprP (CallE u m args)) H none stays = call_meant (ExprP (CallE u m args)) H u refl (part_helpless (ExprP (CallE u m args)) H none stays) (path_of P u) refl
  none_meant (ExprP (NewE c args)) H none stays = never stays
  none_meant (StmtP EmptyS) H none stays = never stays
  none_meant (StmtP (BlockS ss)) H none stays = never stays
  none_meant (StmtP (LocalS x is_final ty u)) H none stays = never stays
  none_meant (StmtP (SetVarS x u)) H none stays = never stays
  none_meant (StmtP (SetFieldS u f g)) H none stays =
      access_meant (StmtP (SetFieldS u f g)) H true u (guard_of P f (path_of P u)) refl none stays (part_helpless (StmtP (SetFieldS u f g)) H none stays)
  none_meant (StmtP (DoS u drops)) H none stays = never stays
  none_meant (StmtP (IfS c s t)) H none stays = never stays
  none_meant (StmtP (WhileS c s)) H none stays = never stays
  none_meant (StmtP (SyncS q s)) H none stays = no_name q none
  none_meant (StmtP (ReturnS u)) H none stays = never stays
  none_meant (StmtP (PrintS u)) H none stays = λ p. refl
  none_meant (StmtP (StartS u)) H none stays = λ p. refl

  -- a lock that is told isn't held, and helps
  held_meant : (x : Part) (H : Held) (p : PathData) → help P rel A x H ≡ Some p → below_of (own_of P rel A x H) Mover ≡ false → IsHeld P rel A x H p
  held_meant x H p named stays = record { free = by (H p) refl; moves = part_helps P rel A x H p named }
    where
      by : (b : Bool) → H p ≡ b → b ≡ false
      by false is = refl
      by true is = absurd (false≢true (sym stays ∙ ap (λ K. below_of (own_of P rel A x K) Mover) (sym (with_held p H is)) ∙ part_helps P rel A x H p named))

  pub help_meant : (aliases : List Alias) (x : Part) (H : Held) → below_of (own_of P rel A x H) Mover ≡ false → IsHelp P rel A x H (help_of P rel A aliases x H)
  help_meant aliases x H stays = by (help P rel A x H) refl
    where
      by : (o : Option PathData) → help P rel A x H ≡ o → IsHelp P rel A x H (hold_or aliases H o (no_help P x))
      by None is = none_meant x H is stays
      by (Some p) is = held_meant x H p is stays
