-- Writes of fields that nothing guards: such a write can't be moved, and of each field the first one is kept.
use Rattle.std.proofs.Common.{◌≡◌, ℕ, ◌+◌, ◌<◌, ◌≤◌, Bool, true, false, List, [], ◌∷◌, ◌++◌, length, get_or, drop, map, refl, sym, ap, ◌∙◌, append-nil, drop_of_length-le}
use Rattle.std.specs.Prelude.{Option, Some, None, option_map, if◌then◌else◌}
use Rattle.std.proofs.lemmas.Option.{none-some}
use Rattle.base.proofs.Lists.{next_drop}
use Rattle.paths.specs.Paths.{PathData}
use Rattle.algebra.specs.HeldPaths.{Held}
use Rattle.core_program.specs.Core.{Program, Stmt, EmptyS, BlockS, LocalS, SetVarS, SetFieldS, DoS, IfS, WhileS, SyncS, ReturnS, PrintS, StartS}
use Rattle.core_program.specs.Locks.{path_of}
use Rattle.core_program.specs.declared.program.CoreMethod.{CoreMethod}
use Rattle.core_program.specs.Views.{method_of}
use Rattle.effects.specs.Parts.{Part, ExprP, StmtP}
use Rattle.rules.specs.declared.guard.Guard.{Guard}
use Rattle.rules.specs.declared.guard.Guard.TheVariants.{Final, Free, Named, Unnamed, WriteNamed, WriteUnnamed}
use Rattle.rules.specs.Effect.{Assignment, access_effect}
use Rattle.rules.specs.Guards.{guard_of}
use Rattle.explain.specs.declared.unguarded.BareWrite.{BareWrite}
use Rattle.explain.specs.PartEffects.{own_of}
use Rattle.explain.specs.StepReadings.{own_at}
use Rattle.explain.specs.Unguarded.{bare_field, bare_in, bare_writes, first_writes, if_free, with_write, writes_from, writes_in, writes_of}
use Rattle.explain.specs.Views.{heavy_in, is_heavy}
use Rattle.explain.specs.Visits.{Visit}

-- ---- such a write can't be moved

free_heavy : (guard : Guard) (f k : ℕ) (H : Held) → if_free guard f ≡ Some k → is_heavy (access_effect true guard H) ≡ true
free_heavy Final f k H is = absurd (none-some k is)
free_heavy Free f k H is = refl
free_heavy (Named p) f k H is = absurd (none-some k is)
free_heavy Unnamed f k H is = absurd (none-some k is)
free_heavy (WriteNamed p) f k H is = absurd (none-some k is)
free_heavy WriteUnnamed f k H is = absurd (none-some k is)

module _ (P : Program) (rel : ℕ → List PathData) (A : Assignment) where
  stmt_heavy : (s : Stmt) (k : ℕ) (H : Held) → bare_in P s ≡ Some k → is_heavy (own_of P rel A (StmtP s) H) ≡ true
  stmt_heavy EmptyS k H is = absurd (none-some k is)
  stmt_heavy (BlockS ss) k H is = absurd (none-some k is)
  stmt_heavy (LocalS x is_final ty e) k H is = absurd (none-some k is)
  stmt_heavy (SetVarS x e) k H is = absurd (none-some k is)
  stmt_heavy (SetFieldS e f g) k H is = free_heavy (guard_of P f (path_of P e)) f k H is
  stmt_heavy (DoS e drops) k H is = absurd (none-some k is)
  stmt_heavy (IfS c s t) k H is = absurd (none-some k is)
  stmt_heavy (WhileS c s) k H is = absurd (none-some k is)
  stmt_heavy (SyncS p s) k H is = absurd (none-some k is)
  stmt_heavy (ReturnS e) k H is = absurd (none-some k is)
  stmt_heavy (PrintS e) k H is = absurd (none-some k is)
  stmt_heavy (StartS e) k H is = absurd (none-some k is)

  part_heavy : (part : Part) (k : ℕ) (H : Held) → bare_field P part ≡ Some k → is_heavy (own_of P rel A part H) ≡ true
  part_heavy (ExprP e) k H is = absurd (none-some k is)
  part_heavy (StmtP s) k H is = stmt_heavy s k H is

  -- a part that can be moved is no such write
  one_heavy : (m : ℕ) (v : Visit) (o : Option ℕ) (t : Bool) (vs : List Visit) (ws : List BareWrite) → bare_field P v.part ≡ o → ((k : ℕ) → o ≡ Some k → t ≡ true) → writes_of P m vs ≡ ws
      → writes_of P m (if t then v ∷ vs else vs) ≡ with_write (option_map (λ f. record { method = m; node = v.node; field = f }) o) ws
  one_heavy m v o true vs ws is heavy rest = λ i. with_write (option_map (λ f. record { method = m; node = v.node; field = f }) (is i)) (rest i)
  one_heavy m v None false vs ws is heavy rest = rest
  one_heavy m v (Some k) false vs ws is heavy rest = let e : false ≡ true = heavy k refl in absurd cc

  -- so those parts that can't be moved have all such writes
  pub heavy_writes : (m : ℕ) (vs : List Visit) → writes_of P m (heavy_in P rel A vs) ≡ writes_of P m vs
  heavy_writes m [] = refl
  heavy_writes m (v ∷ vs) =
      one_heavy m v (bare_field P v.part) (is_heavy (own_at P rel A v)) (heavy_in P rel A vs) (writes_of P m vs) refl (λ k is. part_heavy v.part k v.held is) (heavy_writes m vs)

-- ---- of each field the first

-- whatever writes are still to come, what is kept of them and of these is the same
abbrev pub IsKept : (old new ws : List BareWrite) → Type 0
IsKept old new ws = (rest : List BareWrite) → (new ++ first_writes new rest) ≡ (old ++ first_writes old (ws ++ rest))

module _ (P : Program) where
  -- the methods of a program: after one more, at the end
  pub one_more_method : (methods : List CoreMethod) (i : ℕ) (method : CoreMethod) (old new all : List BareWrite) → i < length methods → method ≡ get_or methods i method
      → IsKept old new (writes_in P i (method_of method)) → (old ++ first_writes old (writes_from P i (map method_of (drop i methods)))) ≡ all
      → (new ++ first_writes new (writes_from P (i + 1) (map method_of (drop (i + 1) methods)))) ≡ all
  one_more_method methods i method old new all below is adds before =
      adds (writes_from P (i + 1) (map method_of (drop (i + 1) methods)))
      ∙ ap (λ ms. old ++ first_writes old (writes_from P i (map method_of ms))) (sym (next_drop methods i method below is)) ∙ before

  pub all_methods : (methods : List CoreMethod) (i : ℕ) (writes : List BareWrite) → length methods ≤ i → map method_of methods ≡ P.methods
      → (writes ++ first_writes writes (writes_from P i (map method_of (drop i methods)))) ≡ first_writes [] (writes_from P 0 (map method_of methods)) → writes ≡ bare_writes P
  all_methods methods i writes past are so_far =
      sym (append-nil writes) ∙ ap (λ ms. writes ++ first_writes writes (writes_from P i (map method_of ms))) (sym (drop_of_length-le methods past)) ∙ so_far
      ∙ ap (λ ms. first_writes [] (writes_from P 0 ms)) are
