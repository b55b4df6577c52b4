-- The statements of a block, one after the other.
use Rattle.std.proofs.Common.{◌≡◌, ℕ, ◌+◌, ◌<◌, Bool, ◌&&◌, true, List, [], ◌∷◌, ◌++◌, Option, Some, None, option_map, map, length, drop, get_or, refl, ap, sym, ◌∙◌, arith}
use Rattle.std.proofs.lemmas.List.{append_assoc}
use Rattle.std.proofs.Math.Bool.{and_assoc}
use Rattle.base.proofs.Lists.{next_drop}
use Rattle.paths.specs.Paths.{PathData}
use Rattle.core_program.specs.declared.types.CoreType.{CoreType}
use Rattle.core_program.specs.declared.tree.CoreStmt.{CoreStmt}
use Rattle.core_program.specs.Core.{Expr, Stmts, BlockS, EmptyS, IfS, SyncS, no_stmts, and_stmt}
use Rattle.core_program.specs.Core as node
use Rattle.core_program.specs.Views as core
use Rattle.syntax.specs.declared.tree.Stmt.{Stmt}
use Rattle.syntax.specs.Trees.{LockTree, StmtTree, StmtTrees}
use Rattle.syntax.specs.Trees as tree
use Rattle.syntax.specs.Views.{stmt_of, stmts_from}
use Rattle.classes.specs.Table.{TableData}
use Rattle.typing.specs.declared.fault.TypeFault.{TypeFault}
use Rattle.typing.specs.Completion.{completes, completes_each, locals_in, locals_in_each}
use Rattle.typing.specs.Gathered.{one_more}
use Rattle.typing.specs.Noted.{type_noted}
use Rattle.typing.specs.Locks.{lock_rule}
use Rattle.typing.specs.Rulings.{gain, loss, both}
use Rattle.typing.specs.Scopes.{Scope}
use Rattle.typing.specs.Stmts.{if_node, scope_after, stmt_core, block_core, stmt_faults, block_faults, unreachable}
use Rattle.typing.proofs.Gathering.{so_far, so_far_more, before_rest, linked}
use Rattle.typing.proofs.Noting.{noted_append}

-- a statement before others
abbrev pub link : node.Stmt × Stmts → Stmts
link p = and_stmt p.0 p.1

all_statements : (nodes : List CoreStmt) → before_rest core.stmt_of link nodes (Some no_stmts) ≡ Some (core.stmts_from nodes)
all_statements [] = refl
all_statements (s ∷ nodes) = ap (linked core.stmt_of link (Some s)) (all_statements nodes)

pub blocks_end : (nodes : Option (List CoreStmt)) → option_map (λ ns. BlockS (core.stmts_from ns)) nodes ≡ option_map BlockS (so_far core.stmt_of link nodes (Some no_stmts))
blocks_end None = refl
blocks_end (Some nodes) = ap (option_map BlockS) (sym (all_statements nodes))

pub one_branch : (c : Option Expr) (s : Option node.Stmt) → option_map if_node (both c (both s (Some EmptyS))) ≡ option_map (λ p. IfS p.0 p.1 EmptyS) (both c s)
one_branch None s = refl
one_branch (Some c) None = refl
one_branch (Some c) (Some s) = refl

module _ (t : TableData) (class : ℕ) (returns : Option CoreType) (first : ℕ) where
  abbrev core_from : Scope → ℕ → List Stmt → Option Stmts
  core_from scope before ss = block_core t class returns first scope before (stmts_from (map stmt_of ss))

  abbrev faults_from : Scope → ℕ → Bool → List Stmt → List TypeFault
  faults_from scope before live ss = block_faults t class returns first scope before live (stmts_from (map stmt_of ss))

  sync_whole : (p : Option PathData) (ss : Option Stmts) → option_map (λ q. SyncS q.0 q.1) (both p (option_map BlockS ss)) ≡ option_map (λ q. SyncS q.0 (BlockS q.1)) (both p ss)
  sync_whole None ss = refl
  sync_whole (Some p) None = refl
  sync_whole (Some p) (Some ss) = refl

  pub sync_made : (s : StmtTree) (l : LockTree) (ss : StmtTrees) (at before : ℕ) (scope : Scope) (path : Option PathData) (body : Option node.Stmt)
      → s ≡ tree.SyncS l ss at → path ≡ gain (lock_rule t class scope l) → body ≡ option_map BlockS (block_core t class returns first scope before ss)
      → option_map (λ q. SyncS q.0 q.1) (both path body) ≡ stmt_core t class returns first scope before s
  sync_made s l ss at before scope path body is one two =
      ap (λ z. option_map (λ q. SyncS q.0 q.1) (both z body)) one
      ∙ ap (λ z. option_map (λ q. SyncS q.0 q.1) (both (gain (lock_rule t class scope l)) z)) two
      ∙ sync_whole (gain (lock_rule t class scope l)) (block_core t class returns first scope before ss)
      ∙ ap (stmt_core t class returns first scope before) (sym is)

  pub sync_fault : (s : StmtTree) (l : LockTree) (ss : StmtTrees) (at before : ℕ) (scope : Scope) (found second third : Option TypeFault)
      → s ≡ tree.SyncS l ss at → second ≡ type_noted found (loss (lock_rule t class scope l)) → third ≡ type_noted second (block_faults t class returns first scope before true ss)
      → third ≡ type_noted found (stmt_faults t class returns first scope before s)
  sync_fault s l ss at before scope found second third is one two =
      let inner = block_faults t class returns first scope before true ss in
      two
      ∙ ap (λ z. type_noted z inner) one
      ∙ sym (noted_append found (loss (lock_rule t class scope l)) inner)
      ∙ ap (λ z. type_noted found (stmt_faults t class returns first scope before z)) (sym is)

  pub statement_step : (ss : List Stmt) (i : ℕ) (s : Stmt) (nodes next : Option (List CoreStmt)) (part : Option CoreStmt) (scope after : Scope) (before behind : ℕ) (whole : Option Stmts)
      → i < length ss → s ≡ get_or ss i s
      → so_far core.stmt_of link nodes (core_from scope before (drop i ss)) ≡ whole
      → option_map core.stmt_of part ≡ stmt_core t class returns first scope before (stmt_of s)
      → after ≡ scope_after t class returns first scope before (stmt_of s)
      → behind ≡ before + locals_in (stmt_of s)
      → next ≡ one_more nodes part
      → so_far core.stmt_of link next (core_from after behind (drop (i + 1) ss)) ≡ whole
  statement_step ss i s nodes next part scope after before behind whole within at so is declared counted one =
      let e = next_drop ss i s within at in
      let others = drop (i + 1) ss in
      ap (λ n. so_far core.stmt_of link n (core_from after behind others)) one
      ∙ so_far_more core.stmt_of link nodes part (core_from after behind others)
      ∙ ap (λ p. so_far core.stmt_of link nodes (option_map link (both p (core_from after behind others)))) is
      ∙ ap (λ z. so_far core.stmt_of link nodes (option_map link (both (stmt_core t class returns first scope before (stmt_of s)) (core_from z behind others)))) declared
      ∙ ap (λ z. so_far core.stmt_of link nodes (option_map link (both (stmt_core t class returns first scope before (stmt_of s)) (core_from (scope_after t class returns first scope before (stmt_of s)) z others)))) counted
      ∙ ap (λ z. so_far core.stmt_of link nodes (core_from scope before z)) (sym e)
      ∙ so

  pub statement_fault : (ss : List Stmt) (i : ℕ) (s : Stmt) (found second third whole : Option TypeFault) (scope after : Scope) (before behind : ℕ) (live later : Bool)
      → i < length ss → s ≡ get_or ss i s
      → type_noted found (faults_from scope before live (drop i ss)) ≡ whole
      → second ≡ type_noted found (unreachable live (stmt_of s))
      → third ≡ type_noted second (stmt_faults t class returns first scope before (stmt_of s))
      → after ≡ scope_after t class returns first scope before (stmt_of s)
      → behind ≡ before + locals_in (stmt_of s)
      → later ≡ (live && completes (stmt_of s))
      → type_noted third (faults_from after behind later (drop (i + 1) ss)) ≡ whole
  statement_fault ss i s found second third whole scope after before behind live later within at so one two declared counted reached =
      let e = next_drop ss i s within at in
      let others = drop (i + 1) ss in
      let own = stmt_faults t class returns first scope before (stmt_of s) in
      let next = scope_after t class returns first scope before (stmt_of s) in
      let last = faults_from next (before + locals_in (stmt_of s)) (live && completes (stmt_of s)) others in
      ap (λ z. type_noted third (faults_from z behind later others)) declared
      ∙ ap (λ z. type_noted third (faults_from next z later others)) counted
      ∙ ap (λ z. type_noted third (faults_from next (before + locals_in (stmt_of s)) z others)) reached
      ∙ ap (λ z. type_noted z last) two
      ∙ ap (λ z. type_noted (type_noted z own) last) one
      ∙ sym (noted_append (type_noted found (unreachable live (stmt_of s))) own last)
      ∙ sym (noted_append found (unreachable live (stmt_of s)) (own ++ last))
      ∙ ap (λ z. type_noted found (faults_from scope before live z)) (sym e)
      ∙ so

pub locals_step : (ss : List Stmt) (i : ℕ) (s : Stmt) (locals more whole : ℕ)
    → i < length ss → s ≡ get_or ss i s
    → locals + locals_in_each (stmts_from (map stmt_of (drop i ss))) ≡ whole
    → more ≡ locals + locals_in (stmt_of s)
    → more + locals_in_each (stmts_from (map stmt_of (drop (i + 1) ss))) ≡ whole
locals_step ss i s locals more whole within at so is =
    let e = next_drop ss i s within at in
    let rest = locals_in_each (stmts_from (map stmt_of (drop (i + 1) ss))) in
    let sum : more + rest ≡ locals + (locals_in (stmt_of s) + rest) = omega (arith, is) in
    sum ∙ ap (λ z. locals + locals_in_each (stmts_from (map stmt_of z))) (sym e) ∙ so

pub completes_step : (ss : List Stmt) (i : ℕ) (s : Stmt) (live later whole : Bool)
    → i < length ss → s ≡ get_or ss i s
    → (live && completes_each (stmts_from (map stmt_of (drop i ss)))) ≡ whole
    → later ≡ (live && completes (stmt_of s))
    → (later && completes_each (stmts_from (map stmt_of (drop (i + 1) ss)))) ≡ whole
completes_step ss i s live later whole within at so is =
    let e = next_drop ss i s within at in
    let rest = completes_each (stmts_from (map stmt_of (drop (i + 1) ss))) in
    ap (λ z. z && rest) is
    ∙ and_assoc live (completes (stmt_of s)) rest
    ∙ ap (λ z. live && completes_each (stmts_from (map stmt_of z))) (sym e)
    ∙ so

-- a scope that grew twice
pub grown : {A : Type 0} (start middle last more : List A) → middle ≡ start ++ more → (rest : List A) × (last ≡ middle ++ rest) → (all : List A) × (last ≡ start ++ all)
grown start middle last more first second =
    (more ++ second.0, second.1 ∙ ap (λ z. z ++ second.0) first ∙ append_assoc start more second.0)

-- the count behind a statement
pub behind : (before locals more own count : ℕ) → more ≡ locals + own → own ≡ count → before + more ≡ before + locals + count
behind before locals more own count one two = omega (arith, one, two)
