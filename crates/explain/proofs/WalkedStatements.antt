-- The walk through each kind of statement.
use Rattle.std.proofs.Common.{◌≡◌, ℕ, ◌+◌, ◌<◌, Bool, true, false, List, [], ◌∷◌, ◌++◌, Option, Some, length, drop, get_or, slice_set, refl, sym, ap, ◌∙◌, subst, append_assoc, append-nil, if◌then◌else◌}
use Rattle.std.proofs.lemmas.List.{map-append}
use Rattle.paths.specs.Paths.{PathData}
use Rattle.algebra.specs.declared.basic.Basic.{Basic}
use Rattle.algebra.specs.declared.basic.Basic.TheVariants.{Const, Mover, Atomic}
use Rattle.algebra.specs.Basics.{seq_of, join_of, star_of, lift_of, below_of}
use Rattle.algebra.specs.HeldPaths.{Held, with_path}
use Rattle.algebra.proofs.Sequences.{associative, unit_after, unit_before}
use Rattle.core_program.specs.declared.tree.CoreStmt.{CoreStmt}
use Rattle.core_program.specs.Views.{stmt_of, stmts_from}
use Rattle.base.proofs.Lists.{next_drop}
use Rattle.core_program.specs.declared.types.CoreType.{CoreType}
use Rattle.core_program.specs.Core.{Program, Expr, Stmt, Stmts, EmptyS, BlockS, LocalS, SetVarS, SetFieldS, DoS, IfS, WhileS, SyncS, ReturnS, PrintS, StartS, and_stmt}
use Rattle.core_program.specs.Locks.{path_of}
use Rattle.core_program.specs.Sizes.{nodes_of, stmt_nodes}
use Rattle.effects.specs.Parts.{StmtP}
use Rattle.rules.specs.Effect.{Assignment, access_of, expr_effect, sync_effect, effect, block_effect, after_stmt}
use Rattle.explain.proofs.Readings.{stmt_moved}
use Rattle.explain.specs.PartEffects.{lock_effect}
use Rattle.explain.specs.StepReadings.{own_at}
use Rattle.explain.specs.Steps.{of_greater, of_taken, expr_steps, stmt_steps, block_steps}
use Rattle.explain.specs.Visits.{Visit, visit, by_lock, expr_visits, stmt_visits, block_visits}
use Rattle.explain.specs.declared.found.Found.{Found}
use Rattle.explain.specs.declared.found.Visited.{Visited}
use Rattle.explain.specs.Basics.{basics_by_lock, expr_basics, stmt_basics, block_basics}
use Rattle.explain.specs.Views.{visit_of, visits_of, heavy_in, is_heavy, inner}
use Rattle.explain.specs.Walked.{next, Walked, WalkedExpr, WalkedStmt, InsideStmt, WalkedBlock, WalkedBranches}
use Rattle.explain.proofs.Walking.{heavy_append, heavy_one, two, behind, noted, with_basics, with_visits, with_effect, entered, expr_long, stmt_long, behind_walk, at_expr, nothing}

-- a list behind another, where the test passes only if it is empty, and then this one
own_or : (t : Bool) (before steps own : List Visit) → (t ≡ true → steps ≡ []) → (before ++ steps) ++ (if t then own else []) ≡ before ++ (if t then own else steps)
own_or true before steps own empty = ap (λ l. (before ++ l) ++ own) (empty refl) ∙ ap (λ l. l ++ own) (append-nil before)
own_or false before steps own empty = append-nil (before ++ steps)

-- one of two lists
chosen : (keeps : Bool) (xs ys : List Visited) (us vs : List Visit) → visits_of xs ≡ us → visits_of ys ≡ vs → visits_of (if keeps then xs else ys) ≡ (if keeps then us else vs)
chosen true xs ys us vs one other = one
chosen false xs ys us vs one other = other

module _ (P : Program) (rel : ℕ → List PathData) (A : Assignment) where
  -- the same at another name of the number
  pub at_stmt : (s : Stmt) (H : Held) (loop : Option ℕ) {old new : Found} {a : Basic} (n : ℕ) → next old ≡ n → WalkedStmt P rel A s H loop old a new
      → Walked P rel A (stmt_visits P s n H loop) (stmt_steps P rel A s n H loop) (stmt_basics P rel A s H) (effect P rel A s H) old a new
  at_stmt s H loop {old = old} {new = new} {a = a} n is w =
      subst (λ k. Walked P rel A (stmt_visits P s k H loop) (stmt_steps P rel A s k H loop) (stmt_basics P rel A s H) (effect P rel A s H) old a new) is w

  pub at_block : (ss : Stmts) (H : Held) (loop : Option ℕ) {old new : Found} {a : Basic} (n : ℕ) → next old ≡ n → WalkedBlock P rel A ss H loop old a new
      → Walked P rel A (block_visits P ss n H loop) (block_steps P rel A ss n H loop) (block_basics P rel A ss H) (block_effect P rel A ss H) old a new
  at_block ss H loop {old = old} {new = new} {a = a} n is w =
      subst (λ k. Walked P rel A (block_visits P ss k H loop) (block_steps P rel A ss k H loop) (block_basics P rel A ss H) (block_effect P rel A ss H) old a new) is w

  pub at_branches : (s t : Stmt) (H : Held) (loop : Option ℕ) {old new : Found} {a : Basic} (n : ℕ) → next old ≡ n → WalkedBranches P rel A s t H loop old a new
      → Walked P rel A (stmt_visits P s n H loop ++ stmt_visits P t (n + stmt_nodes s) H loop)
      (of_greater (effect P rel A s H) (effect P rel A t H) (stmt_steps P rel A s n H loop) (stmt_steps P rel A t (n + stmt_nodes s) H loop))
      (stmt_basics P rel A s H ++ stmt_basics P rel A t H) (join_of (effect P rel A s H) (effect P rel A t H)) old a new
  at_branches s t H loop {old = old} {new = new} {a = a} n is w =
      subst (λ k. Walked P rel A (stmt_visits P s k H loop ++ stmt_visits P t (k + stmt_nodes s) H loop)
      (of_greater (effect P rel A s H) (effect P rel A t H) (stmt_steps P rel A s k H loop) (stmt_steps P rel A t (k + stmt_nodes s) H loop))
      (stmt_basics P rel A s H ++ stmt_basics P rel A t H) (join_of (effect P rel A s H) (effect P rel A t H)) old a new) is w

  pub whole_stmt : (s : Stmt) (H : Held) → stmt_basics P rel A s H ≡ effect P rel A s H ∷ inner (stmt_basics P rel A s H)
  whole_stmt EmptyS H = refl
  whole_stmt (BlockS ss) H = refl
  whole_stmt (LocalS x is_final ty e) H = refl
  whole_stmt (SetVarS x e) H = refl
  whole_stmt (SetFieldS e f g) H = refl
  whole_stmt (DoS e drops) H = refl
  whole_stmt (IfS c s t) H = refl
  whole_stmt (WhileS c s) H = refl
  whole_stmt (SyncS p s) H = refl
  whole_stmt (ReturnS value) H = refl
  whole_stmt (PrintS e) H = refl
  whole_stmt (StartS e) H = refl

  pub entered_stmt : (s : Stmt) (H : Held) (loop : Option ℕ) (old front mid new : Found) (a d : Basic) (place : ℕ) → place ≡ next old
      → front.basics.items ≡ old.basics.items ++ Const ∷ [] → front.steps ≡ old.steps → front.heavy ≡ old.heavy
      → InsideStmt P rel A s place H loop front a mid
      → d ≡ a → new.basics.items ≡ slice_set mid.basics.items place a → new.steps ≡ mid.steps → new.heavy ≡ mid.heavy
      → WalkedStmt P rel A s H loop old d new
  entered_stmt s H loop old front mid new a d place is room steps heavy w given set steps_kept heavy_kept =
      subst (λ k. Walked P rel A (stmt_visits P s k H loop) (stmt_steps P rel A s k H loop) (stmt_basics P rel A s H) (effect P rel A s H) old d new) is
      (entered P rel A (stmt_basics P rel A s H) new place d is room steps heavy w (whole_stmt s H) given set steps_kept heavy_kept)

  -- ---- one kind of statement after the other

  pub block_walked : (ss : Stmts) (H : Held) (loop : Option ℕ) (n : ℕ) {old new : Found} {a : Basic} → next old ≡ n + 1
      → WalkedBlock P rel A ss H loop old a new → InsideStmt P rel A (BlockS ss) n H loop old a new
  block_walked ss H loop n start w = behind P rel A (record { node = n; part = StmtP (BlockS ss); held = H; loop = loop }) refl (at_block ss H loop (n + 1) start w)

  pub local_walked : (x : ℕ) (is_final : Bool) (ty : CoreType) (e : Expr) (H : Held) (loop : Option ℕ) (n : ℕ) {old new : Found} {a : Basic} (d : Basic) → next old ≡ n + 1
      → WalkedExpr P rel A e H loop old a new → d ≡ seq_of a Mover → InsideStmt P rel A (LocalS x is_final ty e) n H loop old d new
  local_walked x is_final ty e H loop n d start w is =
      with_effect P rel A (seq_of (expr_effect P rel A e H) Mover) d (is ∙ ap (λ z. seq_of z Mover) w.effect_is)
      (behind P rel A (record { node = n; part = StmtP (LocalS x is_final ty e); held = H; loop = loop }) refl (at_expr P rel A e H loop (n + 1) start w))

  pub set_var_walked : (x : ℕ) (e : Expr) (H : Held) (loop : Option ℕ) (n : ℕ) {old new : Found} {a : Basic} (d : Basic) → next old ≡ n + 1
      → WalkedExpr P rel A e H loop old a new → d ≡ seq_of a Mover → InsideStmt P rel A (SetVarS x e) n H loop old d new
  set_var_walked x e H loop n d start w is =
      with_effect P rel A (seq_of (expr_effect P rel A e H) Mover) d (is ∙ ap (λ z. seq_of z Mover) w.effect_is)
      (behind P rel A (record { node = n; part = StmtP (SetVarS x e); held = H; loop = loop }) refl (at_expr P rel A e H loop (n + 1) start w))

  pub set_field_walked : (e : Expr) (f : ℕ) (g : Expr) (H : Held) (loop : Option ℕ) (n : ℕ) {old mid late : Found} {a b : Basic} (new : Found) (own c d : Basic) → next old ≡ n + 1
      → WalkedExpr P rel A e H loop old a mid → WalkedExpr P rel A g H loop mid b late
      → own ≡ access_of P true f (path_of P e) H → new.basics ≡ late.basics
      → visits_of new.steps.items ≡ visits_of late.steps.items ++ (if below_of own Mover then [] else visit n (StmtP (SetFieldS e f g)) H loop)
      → visits_of new.heavy.items ≡ visits_of late.heavy.items ++ (if is_heavy own then visit n (StmtP (SetFieldS e f g)) H loop else [])
      → c ≡ seq_of b own → d ≡ seq_of a c → InsideStmt P rel A (SetFieldS e f g) n H loop old d new
  set_field_walked e f g H loop n {late = late} new own c d start one other own_is basics steps heavy c_is d_is =
      let v : Visit = record { node = n; part = StmtP (SetFieldS e f g); held = H; loop = loop } in
      with_basics P rel A (ap (λ l. expr_basics P rel A e H ++ l) (append-nil (expr_basics P rel A g H)))
      (two P rel A d (at_expr P rel A e H loop (n + 1) start one)
      (two P rel A c (at_expr P rel A g H loop (n + 1 + nodes_of e) (behind_walk P rel A (n + 1) (nodes_of e) start (expr_long P rel A e H) one) other)
      (noted P rel A v own late new own_is basics steps heavy) c_is) d_is)

  -- the same of a part that is known to be such an assignment
  pub set_field_known : (x : Stmt) (e : Expr) (f : ℕ) (g : Expr) (H : Held) (loop : Option ℕ) (n : ℕ) {old mid late : Found} {a b : Basic} (new : Found) (own c d : Basic) → x ≡ SetFieldS e f g → next old ≡ n + 1
      → WalkedExpr P rel A e H loop old a mid → WalkedExpr P rel A g H loop mid b late
      → own ≡ access_of P true f (path_of P e) H → new.basics ≡ late.basics
      → visits_of new.steps.items ≡ visits_of late.steps.items ++ (if below_of own Mover then [] else visit n (StmtP x) H loop)
      → visits_of new.heavy.items ≡ visits_of late.heavy.items ++ (if is_heavy own then visit n (StmtP x) H loop else [])
      → c ≡ seq_of b own → d ≡ seq_of a c → InsideStmt P rel A x n H loop old d new
  set_field_known x e f g H loop n {old = old} {late = late} new own c d is start one other own_is basics steps heavy c_is d_is =
      subst (λ z. visits_of new.steps.items ≡ visits_of late.steps.items ++ (if below_of own Mover then [] else visit n (StmtP z) H loop)
      → visits_of new.heavy.items ≡ visits_of late.heavy.items ++ (if is_heavy own then visit n (StmtP z) H loop else [])
      → InsideStmt P rel A z n H loop old d new) (sym is)
      (λ s r. set_field_walked e f g H loop n new own c d start one other own_is basics s r c_is d_is) steps heavy

  pub do_walked : (e : Expr) (drops : Bool) (H : Held) (loop : Option ℕ) (n : ℕ) {old new : Found} {a : Basic} → next old ≡ n + 1
      → WalkedExpr P rel A e H loop old a new → InsideStmt P rel A (DoS e drops) n H loop old a new
  do_walked e drops H loop n start w = behind P rel A (record { node = n; part = StmtP (DoS e drops); held = H; loop = loop }) refl (at_expr P rel A e H loop (n + 1) start w)

  pub return_walked : (e : Expr) (H : Held) (loop : Option ℕ) (n : ℕ) {old new : Found} {a : Basic} → next old ≡ n + 1
      → WalkedExpr P rel A e H loop old a new → InsideStmt P rel A (ReturnS (Some e)) n H loop old a new
  return_walked e H loop n start w = behind P rel A (record { node = n; part = StmtP (ReturnS (Some e)); held = H; loop = loop }) refl (at_expr P rel A e H loop (n + 1) start w)

  pub if_walked : (e : Expr) (s t : Stmt) (H : Held) (loop : Option ℕ) (n : ℕ) {old mid new : Found} {a b : Basic} (d : Basic) → next old ≡ n + 1
      → WalkedExpr P rel A e H loop old a mid → WalkedBranches P rel A s t H loop mid b new → d ≡ seq_of a b → InsideStmt P rel A (IfS e s t) n H loop old d new
  if_walked e s t H loop n d start one other is =
      let v : Visit = record { node = n; part = StmtP (IfS e s t); held = H; loop = loop } in
      with_visits P rel A
      (ap (λ l. expr_visits e (n + 1) H loop ++ l)
      (append_assoc (stmt_visits P s (n + 1 + nodes_of e) H loop) (stmt_visits P t (n + 1 + nodes_of e + stmt_nodes s) H loop) (v ∷ [])))
      (two P rel A d (at_expr P rel A e H loop (n + 1) start one)
      (behind P rel A v refl (at_branches s t H loop (n + 1 + nodes_of e) (behind_walk P rel A (n + 1) (nodes_of e) start (expr_long P rel A e H) one) other)) is)

  pub while_walked : (e : Expr) (s : Stmt) (H : Held) (loop : Option ℕ) (n : ℕ) {old mid new : Found} {a b : Basic} (d : Basic) → next old ≡ n + 1
      → WalkedExpr P rel A e H (Some n) old a mid → WalkedStmt P rel A s H (Some n) mid b new → d ≡ seq_of a (star_of (seq_of b a)) → InsideStmt P rel A (WhileS e s) n H loop old d new
  while_walked e s H loop n {a = a} {b = b} d start one other is =
      let v : Visit = record { node = n; part = StmtP (WhileS e s); held = H; loop = loop } in
      with_effect P rel A (seq_of (expr_effect P rel A e H) (star_of (seq_of (effect P rel A s H) (expr_effect P rel A e H)))) d
      (is ∙ (λ i. seq_of (one.effect_is i) (star_of (seq_of (other.effect_is i) (one.effect_is i)))))
      (two P rel A (seq_of a b) (at_expr P rel A e H (Some n) (n + 1) start one)
      (behind P rel A v refl (at_stmt s H (Some n) (n + 1 + nodes_of e) (behind_walk P rel A (n + 1) (nodes_of e) start (expr_long P rel A e H) one) other)) refl)

  -- the lock is held already
  pub held_walked : (p : PathData) (s : Stmt) (H : Held) (loop : Option ℕ) (n : ℕ) {old new : Found} {a : Basic} → H p ≡ true → next old ≡ n + 1
      → WalkedStmt P rel A s H loop old a new → InsideStmt P rel A (SyncS p s) n H loop old a new
  held_walked p s H loop n {old = old} {new = new} {a = a} held start w =
      let v : Visit = record { node = n; part = StmtP (SyncS p s); held = H; loop = loop } in
      subst (λ (t : Bool). Walked P rel A
      (by_lock t (stmt_visits P s (n + 1) H loop) (stmt_visits P s (n + 1) (with_path p H) loop) ++ (v ∷ []))
      (by_lock t (stmt_steps P rel A s (n + 1) H loop) (of_taken (effect P rel A s (with_path p H)) (v ∷ []) (stmt_steps P rel A s (n + 1) (with_path p H) loop)))
      (basics_by_lock t (stmt_basics P rel A s H) (stmt_basics P rel A s (with_path p H)))
      (sync_effect t (effect P rel A s H) (effect P rel A s (with_path p H))) old a new) (sym held)
      (behind P rel A v (ap (λ (t : Bool). is_heavy (lock_effect t)) held) (at_stmt s H loop (n + 1) start w))

  -- the lock is taken: the part is a step itself where its body can be moved
  pub taken_walked : (p : PathData) (s : Stmt) (H : Held) (loop : Option ℕ) (n : ℕ) {old mid : Found} {a : Basic} (new : Found) (d : Basic) → H p ≡ false → next old ≡ n + 1
      → WalkedStmt P rel A s (with_path p H) loop old a mid → new.basics ≡ mid.basics
      → visits_of new.steps.items ≡ visits_of mid.steps.items ++ (if below_of a Mover then visit n (StmtP (SyncS p s)) H loop else [])
      → visits_of new.heavy.items ≡ visits_of mid.heavy.items ++ visit n (StmtP (SyncS p s)) H loop
      → d ≡ lift_of a → InsideStmt P rel A (SyncS p s) n H loop old d new
  taken_walked p s H loop n {old = old} {mid = mid} {a = a} new d free start w basics steps heavy is =
      let v : Visit = record { node = n; part = StmtP (SyncS p s); held = H; loop = loop } in
      let inside = at_stmt s (with_path p H) loop (n + 1) start w in
      let vs = stmt_visits P s (n + 1) (with_path p H) loop in
      subst (λ (t : Bool). Walked P rel A
      (by_lock t (stmt_visits P s (n + 1) H loop) (stmt_visits P s (n + 1) (with_path p H) loop) ++ (v ∷ []))
      (by_lock t (stmt_steps P rel A s (n + 1) H loop) (of_taken (effect P rel A s (with_path p H)) (v ∷ []) (stmt_steps P rel A s (n + 1) (with_path p H) loop)))
      (basics_by_lock t (stmt_basics P rel A s H) (stmt_basics P rel A s (with_path p H)))
      (sync_effect t (effect P rel A s H) (effect P rel A s (with_path p H))) old d new) (sym free)
      (record {
        effect_is = is ∙ ap lift_of inside.effect_is;
        basics_are = ap (λ z. z.items) basics ∙ inside.basics_are;
        steps_are = steps ∙ ap (λ (b : Basic). visits_of mid.steps.items ++ (if below_of b Mover then v ∷ [] else [])) inside.effect_is
            ∙ ap (λ l. l ++ (if below_of (effect P rel A s (with_path p H)) Mover then v ∷ [] else [])) inside.steps_are
            ∙ own_or (below_of (effect P rel A s (with_path p H)) Mover) (visits_of old.steps.items) (stmt_steps P rel A s (n + 1) (with_path p H) loop) (v ∷ [])
            (stmt_moved P rel A s (n + 1) (with_path p H) loop);
        heavy_are = heavy ∙ ap (λ l. l ++ (v ∷ [])) inside.heavy_are ∙ append_assoc (visits_of old.heavy.items) (heavy_in P rel A vs) (v ∷ [])
            ∙ ap (λ l. visits_of old.heavy.items ++ l) (sym (heavy_append P rel A vs (v ∷ []) ∙ ap (λ l. heavy_in P rel A vs ++ l) (heavy_one P rel A v (ap (λ (t : Bool). is_heavy (lock_effect t)) free))));
      })

  -- what is atomic by itself, behind its value
  atomic_walked : (v : Visit) (e : Expr) (H : Held) (loop : Option ℕ) (n : ℕ) {old mid : Found} {a : Basic} (new : Found) (d : Basic) → Atomic ≡ own_at P rel A v → next old ≡ n + 1
      → WalkedExpr P rel A e H loop old a mid → new.basics ≡ mid.basics
      → visits_of new.steps.items ≡ visits_of mid.steps.items ++ (v ∷ []) → visits_of new.heavy.items ≡ visits_of mid.heavy.items ++ (v ∷ [])
      → d ≡ seq_of a Atomic
      → Walked P rel A (expr_visits e (n + 1) H loop ++ (v ∷ [])) (expr_steps P rel A e (n + 1) H loop ++ (if below_of (own_at P rel A v) Mover then [] else v ∷ []))
      (expr_basics P rel A e H) (seq_of (expr_effect P rel A e H) (own_at P rel A v)) old d new
  atomic_walked v e H loop n {mid = mid} new d own start w basics steps heavy is =
      with_basics P rel A (append-nil (expr_basics P rel A e H)) (two P rel A d (at_expr P rel A e H loop (n + 1) start w) (noted P rel A v Atomic mid new own basics steps heavy) is)

  pub print_walked : (e : Expr) (H : Held) (loop : Option ℕ) (n : ℕ) {old mid : Found} {a : Basic} (new : Found) (d : Basic) → next old ≡ n + 1
      → WalkedExpr P rel A e H loop old a mid → new.basics ≡ mid.basics
      → visits_of new.steps.items ≡ visits_of mid.steps.items ++ visit n (StmtP (PrintS e)) H loop → visits_of new.heavy.items ≡ visits_of mid.heavy.items ++ visit n (StmtP (PrintS e)) H loop
      → d ≡ seq_of a Atomic → InsideStmt P rel A (PrintS e) n H loop old d new
  print_walked e H loop n new d start w basics steps heavy is =
      atomic_walked (record { node = n; part = StmtP (PrintS e); held = H; loop = loop }) e H loop n new d refl start w basics steps heavy is

  pub start_walked : (e : Expr) (H : Held) (loop : Option ℕ) (n : ℕ) {old mid : Found} {a : Basic} (new : Found) (d : Basic) → next old ≡ n + 1
      → WalkedExpr P rel A e H loop old a mid → new.basics ≡ mid.basics
      → visits_of new.steps.items ≡ visits_of mid.steps.items ++ visit n (StmtP (StartS e)) H loop → visits_of new.heavy.items ≡ visits_of mid.heavy.items ++ visit n (StmtP (StartS e)) H loop
      → d ≡ seq_of a Atomic → InsideStmt P rel A (StartS e) n H loop old d new
  start_walked e H loop n new d start w basics steps heavy is =
      atomic_walked (record { node = n; part = StmtP (StartS e); held = H; loop = loop }) e H loop n new d refl start w basics steps heavy is

  -- ---- both branches of an `if`: the steps so far are taken away before each, and put back behind

  pub branches_walked : (s t : Stmt) (H : Held) (loop : Option ℕ) (old one left three right five new : Found) (first second given : Basic)
      → one.basics ≡ old.basics → one.steps.items ≡ [] → one.heavy ≡ old.heavy → WalkedStmt P rel A s H loop one first left
      → three.basics ≡ left.basics → three.steps.items ≡ [] → three.heavy ≡ left.heavy → WalkedStmt P rel A t H loop three second right
      → (keeps : Bool) → keeps ≡ below_of second first
      → five.basics ≡ right.basics → five.steps.items ≡ (if keeps then left.steps.items else right.steps.items) → five.heavy ≡ right.heavy
      → new.basics ≡ five.basics → new.steps.items ≡ old.steps.items ++ five.steps.items → new.heavy ≡ five.heavy
      → given ≡ join_of first second → WalkedBranches P rel A s t H loop old given new
  branches_walked s t H loop old one left three right five new first second given b1 s1 e1 w b2 s2 e2 v keeps test b3 s3 e3 b4 s4 e4 is =
      let start : next one ≡ next old = ap (λ z. length z.items) b1 in
      let m = next old + stmt_nodes s in
      let w2 = at_stmt s H loop (next old) start w in
      let v2 = at_stmt t H loop m (ap (λ z. length z.items) b2 ∙ behind_walk P rel A (next old) (stmt_nodes s) start (stmt_long P rel A s H) w) v in
      let us = stmt_visits P s (next old) H loop in
      let vs = stmt_visits P t m H loop in
      record {
        effect_is = is ∙ (λ i. join_of (w2.effect_is i) (v2.effect_is i));
        basics_are = ap (λ z. z.items) b4 ∙ ap (λ z. z.items) b3 ∙ v2.basics_are
            ∙ ap (λ z. z.items ++ stmt_basics P rel A t H) b2 ∙ ap (λ l. l ++ stmt_basics P rel A t H) w2.basics_are
            ∙ ap (λ z. (z.items ++ stmt_basics P rel A s H) ++ stmt_basics P rel A t H) b1
            ∙ append_assoc old.basics.items (stmt_basics P rel A s H) (stmt_basics P rel A t H);
        steps_are = ap visits_of s4 ∙ map-append visit_of old.steps.items five.steps.items
            ∙ ap (λ l. visits_of old.steps.items ++ l)
            (ap visits_of s3
            ∙ chosen keeps left.steps.items right.steps.items
            (stmt_steps P rel A s (next old) H loop) (stmt_steps P rel A t m H loop)
            (w2.steps_are ∙ ap (λ l. visits_of l ++ stmt_steps P rel A s (next old) H loop) s1)
            (v2.steps_are ∙ ap (λ l. visits_of l ++ stmt_steps P rel A t m H loop) s2)
            ∙ ap (λ (b : Bool). if b then stmt_steps P rel A s (next old) H loop else stmt_steps P rel A t m H loop)
            (test ∙ (λ i. below_of (v2.effect_is i) (w2.effect_is i))));
        heavy_are = ap (λ z. visits_of z.items) e4 ∙ ap (λ z. visits_of z.items) e3 ∙ v2.heavy_are
            ∙ ap (λ z. visits_of z.items ++ heavy_in P rel A vs) e2 ∙ ap (λ l. l ++ heavy_in P rel A vs) w2.heavy_are
            ∙ ap (λ z. (visits_of z.items ++ heavy_in P rel A us) ++ heavy_in P rel A vs) e1
            ∙ append_assoc (visits_of old.heavy.items) (heavy_in P rel A us) (heavy_in P rel A vs)
            ∙ ap (λ l. visits_of old.heavy.items ++ l) (sym (heavy_append P rel A us vs));
      }

  -- ---- the statements of a block, one after the other

  -- a basic so far, where any walk through the rest makes a walk through all
  abbrev pub StmtsSoFar : Stmts → Held → Stmts → Held → Option ℕ → Found → Basic → Found → Type 0
  StmtsSoFar rest G all H loop old so_far now = (b : Basic) (new : Found) → WalkedBlock P rel A rest G loop now b new → WalkedBlock P rel A all H loop old (seq_of so_far b) new

  pub start_stmts : (ss : Stmts) (G H : Held) (loop : Option ℕ) (old : Found) → G ≡ H → StmtsSoFar ss G ss H loop old Const old
  start_stmts ss G H loop old same b new w =
      let at : WalkedBlock P rel A ss H loop old b new = subst (λ K. WalkedBlock P rel A ss K loop old b new) same w in
      with_effect P rel A (block_effect P rel A ss H) (seq_of Const b) (unit_before b ∙ at.effect_is) at

  pub more_stmts : (ss : List CoreStmt) (i : ℕ) (s : CoreStmt) (G K : Held) (H : Held) (loop : Option ℕ) (all : Stmts) (old now mid : Found) (so_far a after : Basic) → i < length ss → s ≡ get_or ss i s
      → WalkedStmt P rel A (stmt_of s) G loop now a mid → after ≡ seq_of so_far a → K ≡ after_stmt P (stmt_of s) G
      → StmtsSoFar (stmts_from (drop i ss)) G all H loop old so_far now → StmtsSoFar (stmts_from (drop (i + 1) ss)) K all H loop old after mid
  more_stmts ss i s G K H loop all old now mid so_far a after below is one after_is later given b new w =
      let rest = stmts_from (drop (i + 1) ss) in
      let L = after_stmt P (stmt_of s) G in
      let n = next now in
      let at : WalkedBlock P rel A rest L loop mid b new = subst (λ M. WalkedBlock P rel A rest M loop mid b new) later w in
      let both : WalkedBlock P rel A (and_stmt (stmt_of s) rest) G loop now (seq_of a b) new =
      two P rel A (seq_of a b) one (at_block rest L loop (n + stmt_nodes (stmt_of s)) (behind_walk P rel A n (stmt_nodes (stmt_of s)) refl (stmt_long P rel A (stmt_of s) G) one) at) refl in
      let whole = given (seq_of a b) new (subst (λ l. WalkedBlock P rel A (stmts_from l) G loop now (seq_of a b) new) (sym (next_drop ss i s below is)) both) in
      with_effect P rel A (block_effect P rel A all H) (seq_of after b) (ap (λ z. seq_of z b) after_is ∙ associative so_far a b ∙ whole.effect_is) whole

  pub end_stmts : (ss : List CoreStmt) (i : ℕ) (G H : Held) (loop : Option ℕ) (all : Stmts) (old now : Found) (so_far : Basic) → drop i ss ≡ []
      → StmtsSoFar (stmts_from (drop i ss)) G all H loop old so_far now → WalkedBlock P rel A all H loop old so_far now
  end_stmts ss i G H loop all old now so_far none given =
      let whole = given Const now (subst (λ l. WalkedBlock P rel A (stmts_from l) G loop now Const now) (sym none) (nothing P rel A now)) in
      with_effect P rel A (block_effect P rel A all H) so_far (sym (unit_after so_far) ∙ whole.effect_is) whole
