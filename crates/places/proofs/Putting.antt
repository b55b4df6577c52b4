-- The places of a node and then those of its parts are those of all its nodes.
use Rattle.std.proofs.Common.{◌≡◌, ℕ, List, [], ◌∷◌, ◌++◌, map, sym, ap, ◌∙◌, append_assoc}
use Rattle.std.proofs.lemmas.List.{map-append}
use Rattle.syntax.specs.declared.tree.Name.{Name}
use Rattle.syntax.specs.Trees.{ExprTree, ExprTrees, CallE, NewE, StmtTree, StmtTrees, BlockS, SyncS, LockTree}
use Rattle.places.specs.Slots.{local_names, block_locals}
use Rattle.places.specs.Sources.{Source, FromExpr, FromStmt, InSync, source_offset, expr_place, expr_sources, exprs_sources, stmt_sources, block_sources}

put : (old pushed : List ℕ) (p : ℕ) (s : Source) (us all : List Source) (rest : List ℕ) → pushed ≡ old ++ p ∷ [] → p ≡ source_offset s → rest ≡ map source_offset us → (s ∷ us) ≡ all
    → pushed ++ rest ≡ old ++ map source_offset all
put old pushed p s us all rest more here own whole =
    (λ i. more i ++ own i) ∙ append_assoc old (p ∷ []) (map source_offset us) ∙ ap (λ q. old ++ (q ∷ map source_offset us)) here ∙ ap (λ z. old ++ map source_offset z) whole

pub put_call : (old pushed mid : List ℕ) (p : ℕ) (e f : ExprTree) (n : Name) (es later : ExprTrees) (u : ExprTree) → pushed ≡ old ++ p ∷ [] → p ≡ expr_place u
    → mid ≡ pushed ++ map source_offset (expr_sources f) → f ≡ e → later ≡ es → u ≡ CallE e n es → mid ++ map source_offset (exprs_sources later) ≡ old ++ map source_offset (expr_sources u)
put_call old pushed mid p e f n es later u more here next same args is =
    ap (λ z. z ++ map source_offset (exprs_sources later)) next
    ∙ append_assoc pushed (map source_offset (expr_sources f)) (map source_offset (exprs_sources later))
    ∙ put old pushed p (FromExpr u) (expr_sources e ++ exprs_sources es) (expr_sources u) (map source_offset (expr_sources f) ++ map source_offset (exprs_sources later)) more here
    ((λ i. map source_offset (expr_sources (same i)) ++ map source_offset (exprs_sources (args i))) ∙ sym (map-append source_offset (expr_sources e) (exprs_sources es)))
    (ap (λ z. FromExpr z ∷ (expr_sources e ++ exprs_sources es)) is ∙ ap expr_sources (sym is))

pub put_new : (old pushed : List ℕ) (p : ℕ) (n : Name) (es later : ExprTrees) (at : ℕ) (u : ExprTree) → pushed ≡ old ++ p ∷ [] → p ≡ expr_place u → later ≡ es
    → u ≡ NewE n es at → pushed ++ map source_offset (exprs_sources later) ≡ old ++ map source_offset (expr_sources u)
put_new old pushed p n es later at u more here args is =
    put old pushed p (FromExpr u) (exprs_sources es) (expr_sources u) (map source_offset (exprs_sources later)) more here (ap (λ z. map source_offset (exprs_sources z)) args)
    (ap (λ z. FromExpr z ∷ exprs_sources es) is ∙ ap expr_sources (sym is))

pub put_block : (old pushed : List ℕ) (p : ℕ) (ss later : StmtTrees) (at : ℕ) (u : StmtTree) → pushed ≡ old ++ p ∷ [] → p ≡ source_offset (FromStmt u) → later ≡ ss
    → u ≡ BlockS ss at → pushed ++ map source_offset (block_sources later) ≡ old ++ map source_offset (stmt_sources u)
put_block old pushed p ss later at u more here same is =
    put old pushed p (FromStmt u) (block_sources ss) (stmt_sources u) (map source_offset (block_sources later)) more here (ap (λ z. map source_offset (block_sources z)) same)
    (ap (λ z. FromStmt z ∷ block_sources ss) is ∙ ap stmt_sources (sym is))

pub put_sync : (old pushed again : List ℕ) (p : ℕ) (l : LockTree) (ss later : StmtTrees) (at : ℕ) (u : StmtTree) → pushed ≡ old ++ p ∷ [] → again ≡ pushed ++ p ∷ []
    → p ≡ source_offset (FromStmt u) → later ≡ ss → u ≡ SyncS l ss at → again ++ map source_offset (block_sources later) ≡ old ++ map source_offset (stmt_sources u)
put_sync old pushed again p l ss later at u more next here same is =
    ap (λ z. z ++ map source_offset (block_sources later)) next
    ∙ append_assoc pushed (p ∷ []) (map source_offset (block_sources later))
    ∙ put old pushed p (FromStmt u) (InSync u ∷ block_sources ss) (stmt_sources u) (p ∷ map source_offset (block_sources later)) more here
    ((λ i. here i ∷ map source_offset (block_sources (same i))))
    (ap (λ z. FromStmt z ∷ (InSync z ∷ block_sources ss)) is ∙ ap stmt_sources (sym is))

-- the names of the locals of a block, and of a `synchronized`
pub locals_block : (ss later : StmtTrees) (at : ℕ) (u : StmtTree) → later ≡ ss → u ≡ BlockS ss at → block_locals later ≡ local_names u
locals_block ss later at u same is = ap block_locals same ∙ ap local_names (sym is)

pub locals_sync : (l : LockTree) (ss later : StmtTrees) (at : ℕ) (u : StmtTree) → later ≡ ss → u ≡ SyncS l ss at → block_locals later ≡ local_names u
locals_sync l ss later at u same is = ap block_locals same ∙ ap local_names (sym is)
