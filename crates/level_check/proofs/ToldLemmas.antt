-- What visits tell, one list after the other.
use Rattle.std.proofs.Common.{◌≡◌, ◌<◌, ◌+◌, ℕ, Bool, true, false, List, [], ◌∷◌, ◌++◌, Result, Ok, Err, length, drop, get_or, refl, sym, ap, ◌∙◌, append_assoc, arith}
use Rattle.std.specs.Prelude.{OnOk, ◌≤◌, ◌^◌, ◌==◌, nat_lt, max, if◌then◌else◌}
use Rattle.std.proofs.lemmas.List.{map-append}
use Rattle.base.proofs.Lists.{next_drop}
use Rattle.paths.specs.Paths.{PathData}
use Rattle.algebra.specs.HeldPaths.{Held, with_path}
use Rattle.core_program.specs.declared.tree.CoreExpr.{CoreExpr}
use Rattle.core_program.specs.declared.tree.CoreStmt.{CoreStmt}
use Rattle.core_program.specs.Core.{Stmt, SyncS}
use Rattle.core_program.specs.Locks.{path_of}
use Rattle.rules.specs.Mentions.{paths_of}
use Rattle.core_program.specs.Views.{program_of, expr_of, exprs_from, stmt_of, stmts_from}
use Rattle.rules.specs.Effect.{after_stmt, held_under}
use Rattle.rules.specs.Near.{rel_of}
use Rattle.levels.specs.Walks.{level_in, LevelVisit, Comes, Bad, call_visits, syncs_in, syncs_in_each, lock_class, expr_visits, exprs_visits, visits, block_visits, sync_visits}
use Rattle.level_check.specs.declared.walk.Walk.{Walk}
use Rattle.level_check.specs.Told.{ToldLevel, Calls, Wrong, CallTold, itself, any_of, OriginOf, known_to, tell_call, call_in, visit_tells, told, told_bad, expr_told, exprs_told, stmt_told, block_told}

pub told_append : (call : CallTold) (xs ys : List LevelVisit) → told call (xs ++ ys) ≡ told call xs ++ told call ys
told_append call xs ys = map-append (visit_tells call) xs ys

on_ok : {A E F G : Type 0} (r : Result A E) → (F → G) → OnOk r F → OnOk r G
on_ok (Ok x) f h = f h
on_ok (Err e) f h = tt

two : (call : CallTold) (xs ys zs : List LevelVisit) (old mid new : List ToldLevel) → zs ≡ xs ++ ys → mid ≡ old ++ told call xs → new ≡ mid ++ told call ys → new ≡ old ++ told call zs
two call xs ys zs old mid new is first second =
    second ∙ ap (λ x. x ++ told call ys) first ∙ append_assoc old (told call xs) (told call ys) ∙ ap (λ x. old ++ x) (sym (ap (told call) is ∙ told_append call xs ys))

pub last_of_two : {A E : Type 0} (r : Result A E) (call : CallTold) (xs ys zs : List LevelVisit) (old mid new : List ToldLevel) → zs ≡ xs ++ ys → mid ≡ old ++ told call xs → OnOk r (new ≡ mid ++ told call ys) → OnOk r (new ≡ old ++ told call zs)
last_of_two r call xs ys zs old mid new is first second = on_ok r (two call xs ys zs old mid new is first) second

pub last_of_three : {A E : Type 0} (r : Result A E) (call : CallTold) (xs ys ws zs : List LevelVisit) (old mid late new : List ToldLevel) → zs ≡ xs ++ (ys ++ ws) → mid ≡ old ++ told call xs → late ≡ mid ++ told call ys → OnOk r (new ≡ late ++ told call ws) → OnOk r (new ≡ old ++ told call zs)
last_of_three r call xs ys ws zs old mid late new is first second third =
    on_ok r (λ last. two call xs (ys ++ ws) zs old mid new is first (two call ys ws (ys ++ ws) mid late new refl second last)) third

-- a step of a loop that adds what an item tells
more : (now new whole here rest all : List ToldLevel) → new ≡ now ++ here → all ≡ here ++ rest → now ++ all ≡ whole → new ++ rest ≡ whole
more now new whole here rest all new_is all_is so_far = ap (λ x. x ++ rest) new_is ∙ append_assoc now here rest ∙ ap (λ x. now ++ x) (sym all_is) ∙ so_far

module _ (w : Walk) where
  pub more_exprs : (es : List CoreExpr) (i : ℕ) (e : CoreExpr) (H : Held) (u : ℕ) (now new whole : List ToldLevel) → i < length es → e ≡ get_or es i e → new ≡ now ++ expr_told w (expr_of e) H u
      → now ++ exprs_told w (exprs_from (drop i es)) H u ≡ whole → new ++ exprs_told w (exprs_from (drop (i + 1) es)) H u ≡ whole
  more_exprs es i e H u now new whole below is new_is so_far =
      more now new whole (expr_told w (expr_of e) H u) (exprs_told w (exprs_from (drop (i + 1) es)) H u) (exprs_told w (exprs_from (drop i es)) H u) new_is
      (ap (λ l. exprs_told w (exprs_from l) H u) (next_drop es i e below is)
      ∙ told_append (call_in w) (expr_visits (program_of w.program.now) (rel_of w.sets.now) (expr_of e) H u) (exprs_visits (program_of w.program.now) (rel_of w.sets.now) (exprs_from (drop (i + 1) es)) H u)) so_far

  pub more_stmts : (ss : List CoreStmt) (i : ℕ) (s : CoreStmt) (H K : Held) (u place later : ℕ) (now new whole : List ToldLevel) → i < length ss → s ≡ get_or ss i s → new ≡ now ++ stmt_told w (stmt_of s) place H u
      → later ≡ place + syncs_in (stmt_of s) → K ≡ after_stmt (program_of w.program.now) (stmt_of s) H
      → now ++ block_told w (stmts_from (drop i ss)) place H u ≡ whole → new ++ block_told w (stmts_from (drop (i + 1) ss)) later K u ≡ whole
  more_stmts ss i s H K u place later now new whole below is new_is later_is set_is so_far =
      more now new whole (stmt_told w (stmt_of s) place H u) (block_told w (stmts_from (drop (i + 1) ss)) later K u) (block_told w (stmts_from (drop i ss)) place H u) new_is
      (ap (λ l. block_told w (stmts_from l) place H u) (next_drop ss i s below is)
      ∙ told_append (call_in w) (visits (program_of w.program.now) (rel_of w.sets.now) (level_in w.levels.now) w.slots.now (stmt_of s) place H u)
      (block_visits (program_of w.program.now) (rel_of w.sets.now) (level_in w.levels.now) w.slots.now (stmts_from (drop (i + 1) ss)) (place + syncs_in (stmt_of s)) (after_stmt (program_of w.program.now) (stmt_of s) H) u)
      ∙ (λ j. stmt_told w (stmt_of s) place H u ++ block_told w (stmts_from (drop (i + 1) ss)) (sym later_is j) (sym set_is j) u)) so_far

  -- a `synchronized` by whether its path is held
  pub sync_held : (p : PathData) (s : Stmt) (place : ℕ) (H : Held) (u : ℕ) → H p ≡ true → stmt_told w (SyncS p s) place H u ≡ stmt_told w s (place + 1) H u
  sync_held p s place H u is =
      ap (λ b. told (call_in w) (sync_visits (program_of w.program.now) (rel_of w.sets.now) (level_in w.levels.now) w.slots.now b place (lock_class (program_of w.program.now) w.slots.now p) u
      (visits (program_of w.program.now) (rel_of w.sets.now) (level_in w.levels.now) w.slots.now s (place + 1) H u)
      (visits (program_of w.program.now) (rel_of w.sets.now) (level_in w.levels.now) w.slots.now s (place + 1) (with_path p H) (max u (level_in w.levels.now (lock_class (program_of w.program.now) w.slots.now p)))))) is

  taken_at : (b : Bool) (place class u : ℕ) (taken : List LevelVisit) → told (call_in w) (if b then taken else Bad place class u ∷ taken) ≡ (if b then [] else Wrong place class u ∷ []) ++ told (call_in w) taken
  taken_at true place class u taken = refl
  taken_at false place class u taken = refl

  pub sync_taken : (p : PathData) (s : Stmt) (place : ℕ) (H : Held) (u : ℕ) → H p ≡ false
      → stmt_told w (SyncS p s) place H u ≡ told_bad place (lock_class (program_of w.program.now) w.slots.now p) u (level_in w.levels.now (lock_class (program_of w.program.now) w.slots.now p))
      ++ stmt_told w s (place + 1) (with_path p H) (max u (level_in w.levels.now (lock_class (program_of w.program.now) w.slots.now p)))
  sync_taken p s place H u is =
      ap (λ b. told (call_in w) (sync_visits (program_of w.program.now) (rel_of w.sets.now) (level_in w.levels.now) w.slots.now b place (lock_class (program_of w.program.now) w.slots.now p) u
      (visits (program_of w.program.now) (rel_of w.sets.now) (level_in w.levels.now) w.slots.now s (place + 1) H u)
      (visits (program_of w.program.now) (rel_of w.sets.now) (level_in w.levels.now) w.slots.now s (place + 1) (with_path p H) (max u (level_in w.levels.now (lock_class (program_of w.program.now) w.slots.now p)))))) is
      ∙ taken_at (nat_lt u (level_in w.levels.now (lock_class (program_of w.program.now) w.slots.now p))) place (lock_class (program_of w.program.now) w.slots.now p) u _

  -- an expression of two parts
  pub both_told : {A E : Type 0} (r : Result A E) (H : Held) (u : ℕ) (zs : List LevelVisit) (a b a2 b2 : CoreExpr) (old mid new : List ToldLevel)
      → zs ≡ expr_visits (program_of w.program.now) (rel_of w.sets.now) (expr_of a) H u ++ expr_visits (program_of w.program.now) (rel_of w.sets.now) (expr_of b) H u → a2 ≡ a → b2 ≡ b
      → mid ≡ old ++ expr_told w (expr_of a2) H u → OnOk r (new ≡ mid ++ expr_told w (expr_of b2) H u) → OnOk r (new ≡ old ++ told (call_in w) zs)
  both_told r H u zs a b a2 b2 old mid new is first second one other =
      last_of_two r (call_in w) (expr_visits (program_of w.program.now) (rel_of w.sets.now) (expr_of a2) H u) (expr_visits (program_of w.program.now) (rel_of w.sets.now) (expr_of b2) H u) zs old mid new
      (is ∙ (λ i. expr_visits (program_of w.program.now) (rel_of w.sets.now) (expr_of (sym first i)) H u ++ expr_visits (program_of w.program.now) (rel_of w.sets.now) (expr_of (sym second i)) H u)) one other

  -- a call: its receiver, its arguments, and the call itself
  pub call_told : {A E : Type 0} (r : Result A E) (H : Held) (u : ℕ) (zs : List LevelVisit) (a a2 a3 : CoreExpr) (m : ℕ) (args args2 args3 : List CoreExpr) (old mid late new : List ToldLevel)
      → zs ≡ expr_visits (program_of w.program.now) (rel_of w.sets.now) (expr_of a) H u ++ (exprs_visits (program_of w.program.now) (rel_of w.sets.now) (exprs_from args) H u
      ++ call_visits (program_of w.program.now) (rel_of w.sets.now) m (path_of (program_of w.program.now) (expr_of a)) (paths_of (program_of w.program.now) (exprs_from args)) H u)
      → a2 ≡ a → a3 ≡ a → args2 ≡ args → args3 ≡ args
      → mid ≡ old ++ expr_told w (expr_of a2) H u → late ≡ mid ++ exprs_told w (exprs_from args2) H u
      → OnOk r (new ≡ late ++ visit_tells (call_in w) (Comes m (λ k. held_under (rel_of w.sets.now k) (path_of (program_of w.program.now) (expr_of a3)) (paths_of (program_of w.program.now) (exprs_from args3)) H) u) ∷ [])
      → OnOk r (new ≡ old ++ told (call_in w) zs)
  call_told r H u zs a a2 a3 m args args2 args3 old mid late new is first second third fourth one other last =
      last_of_three r (call_in w) (expr_visits (program_of w.program.now) (rel_of w.sets.now) (expr_of a2) H u) (exprs_visits (program_of w.program.now) (rel_of w.sets.now) (exprs_from args2) H u)
      (call_visits (program_of w.program.now) (rel_of w.sets.now) m (path_of (program_of w.program.now) (expr_of a3)) (paths_of (program_of w.program.now) (exprs_from args3)) H u) zs old mid late new
      (is ∙ (λ i. expr_visits (program_of w.program.now) (rel_of w.sets.now) (expr_of (sym first i)) H u ++ (exprs_visits (program_of w.program.now) (rel_of w.sets.now) (exprs_from (sym third i)) H u
      ++ call_visits (program_of w.program.now) (rel_of w.sets.now) m (path_of (program_of w.program.now) (expr_of (sym second i))) (paths_of (program_of w.program.now) (exprs_from (sym fourth i))) H u))) one other
      last

  -- a loop: its test and its body
  pub while_told : {A E : Type 0} (r : Result A E) (H : Held) (u place : ℕ) (zs : List LevelVisit) (a a2 : CoreExpr) (b b2 : CoreStmt) (old mid new : List ToldLevel)
      → zs ≡ expr_visits (program_of w.program.now) (rel_of w.sets.now) (expr_of a) H u ++ visits (program_of w.program.now) (rel_of w.sets.now) (level_in w.levels.now) w.slots.now (stmt_of b) place H u → a2 ≡ a → b2 ≡ b
      → mid ≡ old ++ expr_told w (expr_of a2) H u → OnOk r (new ≡ mid ++ stmt_told w (stmt_of b2) place H u) → OnOk r (new ≡ old ++ told (call_in w) zs)
  while_told r H u place zs a a2 b b2 old mid new is first second one other =
      last_of_two r (call_in w) (expr_visits (program_of w.program.now) (rel_of w.sets.now) (expr_of a2) H u) (visits (program_of w.program.now) (rel_of w.sets.now) (level_in w.levels.now) w.slots.now (stmt_of b2) place H u) zs old mid new
      (is ∙ (λ i. expr_visits (program_of w.program.now) (rel_of w.sets.now) (expr_of (sym first i)) H u ++ visits (program_of w.program.now) (rel_of w.sets.now) (level_in w.levels.now) w.slots.now (stmt_of (sym second i)) place H u)) one other

  -- a choice: its test and its branches
  pub if_told : {A E : Type 0} (r : Result A E) (H : Held) (u place later : ℕ) (zs : List LevelVisit) (a a2 : CoreExpr) (b b2 d d2 : CoreStmt) (old mid late new : List ToldLevel)
      → zs ≡ expr_visits (program_of w.program.now) (rel_of w.sets.now) (expr_of a) H u ++ (visits (program_of w.program.now) (rel_of w.sets.now) (level_in w.levels.now) w.slots.now (stmt_of b) place H u
      ++ visits (program_of w.program.now) (rel_of w.sets.now) (level_in w.levels.now) w.slots.now (stmt_of d) (place + syncs_in (stmt_of b)) H u) → a2 ≡ a → b2 ≡ b → d2 ≡ d → later ≡ place + syncs_in (stmt_of b2)
      → mid ≡ old ++ expr_told w (expr_of a2) H u → late ≡ mid ++ stmt_told w (stmt_of b2) place H u → OnOk r (new ≡ late ++ stmt_told w (stmt_of d2) later H u) → OnOk r (new ≡ old ++ told (call_in w) zs)
  if_told r H u place later zs a a2 b b2 d d2 old mid late new is first second third place_is one other last =
      last_of_three r (call_in w) (expr_visits (program_of w.program.now) (rel_of w.sets.now) (expr_of a2) H u) (visits (program_of w.program.now) (rel_of w.sets.now) (level_in w.levels.now) w.slots.now (stmt_of b2) place H u)
      (visits (program_of w.program.now) (rel_of w.sets.now) (level_in w.levels.now) w.slots.now (stmt_of d2) later H u) zs old mid late new
      (is ∙ (λ i. expr_visits (program_of w.program.now) (rel_of w.sets.now) (expr_of (sym first i)) H u ++ (visits (program_of w.program.now) (rel_of w.sets.now) (level_in w.levels.now) w.slots.now (stmt_of (sym second i)) place H u
      ++ visits (program_of w.program.now) (rel_of w.sets.now) (level_in w.levels.now) w.slots.now (stmt_of (sym third i)) (place + syncs_in (stmt_of (sym second i))) H u))
      ∙ (λ i. expr_visits (program_of w.program.now) (rel_of w.sets.now) (expr_of a2) H u ++ (visits (program_of w.program.now) (rel_of w.sets.now) (level_in w.levels.now) w.slots.now (stmt_of b2) place H u
      ++ visits (program_of w.program.now) (rel_of w.sets.now) (level_in w.levels.now) w.slots.now (stmt_of d2) (sym place_is i) H u))) one other last

-- a call of a method that others override
pub any_told : (over : ℕ → List ℕ) (origin : OriginOf) (row : List ℕ) (m : ℕ) (known : ℕ → Held) (K : Held) (u : ℕ) → row ≡ over m → (length row == 0) ≡ false → K ≡ known_to m origin known → Calls (any_of m) K u ≡ tell_call over origin m known u
any_told over origin row m known K u is some same =
    ap (λ (f : Held). Calls (any_of m) f u) same ∙ sym (ap (λ b. if b then Calls (itself m) (known m) u else Calls (any_of m) (known_to m origin known) u) (ap (λ l. length l == 0) (sym is) ∙ some))

-- Places.

pub syncs_next : (ss : List CoreStmt) (i : ℕ) (s : CoreStmt) → i < length ss → s ≡ get_or ss i s → syncs_in_each (stmts_from (drop i ss)) ≡ syncs_in (stmt_of s) + syncs_in_each (stmts_from (drop (i + 1) ss))
syncs_next ss i s below is = ap (λ l. syncs_in_each (stmts_from l)) (next_drop ss i s below is)

pub room_left : (ss : List CoreStmt) (i : ℕ) (s : CoreStmt) (place start : ℕ) → i < length ss → s ≡ get_or ss i s → place + syncs_in_each (stmts_from (drop i ss)) ≡ start + syncs_in_each (stmts_from ss) → start + syncs_in_each (stmts_from ss) ≤ 2 ^ 63
    → place + syncs_in (stmt_of s) ≤ 2 ^ 63
room_left ss i s place start below is so_far room = within place (syncs_in (stmt_of s)) (syncs_in_each (stmts_from (drop (i + 1) ss))) (syncs_in_each (stmts_from (drop i ss))) (start + syncs_in_each (stmts_from ss)) (syncs_next ss i s below is) so_far room
  where
    within : (p a b c d : ℕ) → c ≡ a + b → p + c ≡ d → d ≤ 2 ^ 63 → p + a ≤ 2 ^ 63
    within p a b c d parts sum room = omega (arith, parts, sum, room)

pub place_left : (ss : List CoreStmt) (i : ℕ) (s : CoreStmt) (place later start : ℕ) → i < length ss → s ≡ get_or ss i s → later ≡ place + syncs_in (stmt_of s) → place + syncs_in_each (stmts_from (drop i ss)) ≡ start
    → later + syncs_in_each (stmts_from (drop (i + 1) ss)) ≡ start
place_left ss i s place later start below is later_is so_far = further place later (syncs_in (stmt_of s)) (syncs_in_each (stmts_from (drop (i + 1) ss))) (syncs_in_each (stmts_from (drop i ss))) start (syncs_next ss i s below is) later_is so_far
  where
    further : (p l a b c d : ℕ) → c ≡ a + b → l ≡ p + a → p + c ≡ d → l + b ≡ d
    further p l a b c d parts later sum = omega (arith, parts, later, sum)

pub room_same : (p a b : ℕ) → a ≡ b → p + a ≤ 2 ^ 63 → p + b ≤ 2 ^ 63
room_same p a b same room = omega (arith, same, room)
