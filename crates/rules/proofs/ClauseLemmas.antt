-- Clauses of lists of mentions.
use Rattle.std.proofs.Common.{◌≡◌, ℕ, ◌+◌, ◌<◌, List, [], ◌∷◌, ◌++◌, length, drop, get_or, refl, sym, ap, ◌∙◌, append_assoc}
use Rattle.std.specs.Prelude.{Result, Ok, Err, OnOk}
use Rattle.base.proofs.Lists.{next_drop}
use Rattle.core_program.specs.declared.tree.CoreExpr.{CoreExpr}
use Rattle.core_program.specs.declared.tree.CoreStmt.{CoreStmt}
use Rattle.core_program.specs.Core.{Program}
use Rattle.core_program.specs.Views.{expr_of, exprs_from, stmt_of, stmts_from}
use Rattle.rules.specs.declared.clauses.Clause.{Clause}
use Rattle.rules.specs.Mentions.{Mention, Accesses, expr_mentions, exprs_mentions, mentions, block_mentions}
use Rattle.rules.specs.Clauses.{clauses_at, clauses_of}

pub clauses_append : (P : Program) (m : ℕ) (xs ys : List Mention) → clauses_of P m (xs ++ ys) ≡ clauses_of P m xs ++ clauses_of P m ys
clauses_append P m [] ys = refl
clauses_append P m (x ∷ xs) ys = ap (λ r. clauses_at P m x ++ r) (clauses_append P m xs ys) ∙ sym (append_assoc (clauses_at P m x) (clauses_of P m xs) (clauses_of P m ys))

-- a step of a loop that adds what an item gives
more : (now new whole here rest all : List Clause) → new ≡ now ++ here → all ≡ here ++ rest → now ++ all ≡ whole → new ++ rest ≡ whole
more now new whole here rest all new_is all_is so_far = ap (λ x. x ++ rest) new_is ∙ append_assoc now here rest ∙ ap (λ x. now ++ x) (sym all_is) ∙ so_far

pub more_exprs : (P : Program) (m : ℕ) (es : List CoreExpr) (i : ℕ) (e : CoreExpr) (now new whole : List Clause) → i < length es → e ≡ get_or es i e → new ≡ now ++ clauses_of P m (expr_mentions (expr_of e)) → now ++ clauses_of P m (exprs_mentions (exprs_from (drop i es))) ≡ whole → new ++ clauses_of P m (exprs_mentions (exprs_from (drop (i + 1) es))) ≡ whole
more_exprs P m es i e now new whole below is new_is so_far =
    more now new whole (clauses_of P m (expr_mentions (expr_of e))) (clauses_of P m (exprs_mentions (exprs_from (drop (i + 1) es)))) (clauses_of P m (exprs_mentions (exprs_from (drop i es)))) new_is
    (ap (λ l. clauses_of P m (exprs_mentions (exprs_from l))) (next_drop es i e below is) ∙ clauses_append P m (expr_mentions (expr_of e)) (exprs_mentions (exprs_from (drop (i + 1) es)))) so_far

pub more_stmts : (P : Program) (m : ℕ) (ss : List CoreStmt) (i : ℕ) (s : CoreStmt) (now new whole : List Clause) → i < length ss → s ≡ get_or ss i s → new ≡ now ++ clauses_of P m (mentions (stmt_of s)) → now ++ clauses_of P m (block_mentions (stmts_from (drop i ss))) ≡ whole → new ++ clauses_of P m (block_mentions (stmts_from (drop (i + 1) ss))) ≡ whole
more_stmts P m ss i s now new whole below is new_is so_far =
    more now new whole (clauses_of P m (mentions (stmt_of s))) (clauses_of P m (block_mentions (stmts_from (drop (i + 1) ss)))) (clauses_of P m (block_mentions (stmts_from (drop i ss)))) new_is
    (ap (λ l. clauses_of P m (block_mentions (stmts_from l))) (next_drop ss i s below is) ∙ clauses_append P m (mentions (stmt_of s)) (block_mentions (stmts_from (drop (i + 1) ss)))) so_far

pub on_ok : {A E F G : Type 0} (r : Result A E) → (F → G) → OnOk r F → OnOk r G
on_ok (Ok x) f h = f h
on_ok (Err e) f h = tt

two : (P : Program) (m : ℕ) (xs ys zs : List Mention) (old mid new : List Clause) → zs ≡ xs ++ ys → mid ≡ old ++ clauses_of P m xs → new ≡ mid ++ clauses_of P m ys → new ≡ old ++ clauses_of P m zs
two P m xs ys zs old mid new is first second =
    second ∙ ap (λ x. x ++ clauses_of P m ys) first ∙ append_assoc old (clauses_of P m xs) (clauses_of P m ys) ∙ ap (λ x. old ++ x) (sym (ap (clauses_of P m) is ∙ clauses_append P m xs ys))

pub last_of_two : {A E : Type 0} (r : Result A E) (P : Program) (m : ℕ) (xs ys zs : List Mention) (old mid new : List Clause) → zs ≡ xs ++ ys → mid ≡ old ++ clauses_of P m xs → OnOk r (new ≡ mid ++ clauses_of P m ys) → OnOk r (new ≡ old ++ clauses_of P m zs)
last_of_two r P m xs ys zs old mid new is first second = on_ok r (two P m xs ys zs old mid new is first) second

pub last_of_three : {A E : Type 0} (r : Result A E) (P : Program) (m : ℕ) (xs ys ws zs : List Mention) (old mid late new : List Clause) → zs ≡ xs ++ (ys ++ ws) → mid ≡ old ++ clauses_of P m xs → late ≡ mid ++ clauses_of P m ys → OnOk r (new ≡ late ++ clauses_of P m ws) → OnOk r (new ≡ old ++ clauses_of P m zs)
last_of_three r P m xs ys ws zs old mid late new is first second third =
    on_ok r (λ last. two P m xs (ys ++ ws) zs old mid new is first (two P m ys ws (ys ++ ws) mid late new refl second last)) third

-- What a part mentions, with its own parts as the code reads them.

pub two_read : (a b a2 b2 : CoreExpr) (zs : List Mention) → zs ≡ expr_mentions (expr_of a) ++ expr_mentions (expr_of b) → a2 ≡ a → b2 ≡ b → zs ≡ expr_mentions (expr_of a2) ++ expr_mentions (expr_of b2)
two_read a b a2 b2 zs is first second = is ∙ (λ i. expr_mentions (expr_of (sym first i)) ++ expr_mentions (expr_of (sym second i)))

pub while_read : (a a2 : CoreExpr) (b b2 : CoreStmt) (zs : List Mention) → zs ≡ expr_mentions (expr_of a) ++ mentions (stmt_of b) → a2 ≡ a → b2 ≡ b → zs ≡ expr_mentions (expr_of a2) ++ mentions (stmt_of b2)
while_read a a2 b b2 zs is first second = is ∙ (λ i. expr_mentions (expr_of (sym first i)) ++ mentions (stmt_of (sym second i)))

pub if_read : (a a2 : CoreExpr) (b b2 d d2 : CoreStmt) (zs : List Mention) → zs ≡ expr_mentions (expr_of a) ++ (mentions (stmt_of b) ++ mentions (stmt_of d)) → a2 ≡ a → b2 ≡ b → d2 ≡ d → zs ≡ expr_mentions (expr_of a2) ++ (mentions (stmt_of b2) ++ mentions (stmt_of d2))
if_read a a2 b b2 d d2 zs is first second third = is ∙ (λ i. expr_mentions (expr_of (sym first i)) ++ (mentions (stmt_of (sym second i)) ++ mentions (stmt_of (sym third i))))

pub set_read : (a a2 a3 b b2 : CoreExpr) (f : ℕ) (zs : List Mention) → zs ≡ Accesses (expr_of a) f ∷ (expr_mentions (expr_of a) ++ expr_mentions (expr_of b)) → a2 ≡ a → a3 ≡ a → b2 ≡ b → zs ≡ Accesses (expr_of a2) f ∷ (expr_mentions (expr_of a3) ++ expr_mentions (expr_of b2))
set_read a a2 a3 b b2 f zs is first second third = is ∙ (λ i. Accesses (expr_of (sym first i)) f ∷ (expr_mentions (expr_of (sym second i)) ++ expr_mentions (expr_of (sym third i))))

pub last_of_access : {A E : Type 0} (r : Result A E) (P : Program) (m : ℕ) (x : Mention) (xs ys zs : List Mention) (old mid late new : List Clause) → zs ≡ x ∷ (xs ++ ys) → mid ≡ old ++ clauses_at P m x → late ≡ mid ++ clauses_of P m xs → OnOk r (new ≡ late ++ clauses_of P m ys) → OnOk r (new ≡ old ++ clauses_of P m zs)
last_of_access r P m x xs ys zs old mid late new is first second third = on_ok r (λ last.
    two P m xs ys (xs ++ ys) mid late new refl second last ∙ ap (λ l. l ++ clauses_of P m (xs ++ ys)) first
    ∙ append_assoc old (clauses_at P m x) (clauses_of P m (xs ++ ys)) ∙ ap (λ l. old ++ clauses_of P m l) (sym is)) third
