-- One turn of the loops of locks and blocks, and their ends, as the functions of the parser use them.
use Rattle.std.proofs.Common.{◌≡◌, ℕ, zero, suc, ◌<◌, ◌-◌, Bool, true, false, List, [], ◌∷◌, length, Ok, ◌∙◌, refl, sym, ap, subst, arith}
use Rattle.lexer.specs.declared.tokens.Token.{Token}
use Rattle.syntax.specs.declared.terminal.Terminal.TheVariants as T
use Rattle.syntax.specs.Tokens.{is, token}
use Rattle.syntax.specs.Trees.{StmtTree, ThisE, EmptyS, BlockS}
use Rattle.syntax.specs.Views.{stmts_from}
use Rattle.parser.proofs.LoopLaw.{loop_done, loop_more, Takes}
use Rattle.parser.proofs.Loops.{right_shorter}
use Rattle.parser.proofs.Parts.{is_token}
use Rattle.parser.proofs.Lists.{several_takes}
use Rattle.parser.proofs.PlainStatements.{StmtL, Ends}
use Rattle.parser.proofs.Statements.{stmt_long, right_statement}
use Rattle.parser.specs.Combine.{Res, ◌>>=◌, starts, loop, beyond, item_step, take_one}
use Rattle.parser.specs.Expressions.{leaf, primary}
use Rattle.parser.specs.Statements.{block_goes_on, begins_statement, expression_statement, finish_from, plain_statement}
use Rattle.parser.specs.Blocks.{braces, statement_at, statement_with, block_at, block_statement}

stmt_l_long : (in_block : Bool) (zs : List Token) (s : StmtTree) → StmtL in_block zs s → 0 < length zs
stmt_l_long in_block zs s p = stmt_long s zs p.0

pub statement_shorter : (h : ℕ) (in_block : Bool) (ts : List Token) (s : StmtTree) (r : List Token) → statement_at h in_block ts ≡ Ok (s, r) → length r < length ts
statement_shorter h in_block ts s r e = right_shorter (statement_at h in_block) (StmtL in_block) (Ends h) ts s r (stmt_l_long in_block) (statement_at h in_block ts) (right_statement h in_block ts).at e

statement_takes : (h : ℕ) → Takes block_goes_on (item_step (statement_at h true))
statement_takes h = several_takes (statement_at h true) (StmtL true) (Ends h) (token T.Semicolon 0 ∷ [], EmptyS 0, (refl, λ e. refl)) (stmt_l_long true) (λ ss. Unit {0}) (λ so a r p q. tt)
    block_goes_on (λ x xs g. right_statement h true (x ∷ xs)) (λ ns ts. Unit {0}) tt (λ n rest xs ys f q. tt)

pub statement_more : (h : ℕ) (ss : List StmtTree) (ts : List Token) → starts block_goes_on ts ≡ true
    → loop block_goes_on (item_step (statement_at h true)) ss ts ≡ (item_step (statement_at h true) ss ts >>= loop block_goes_on (item_step (statement_at h true)))
statement_more h ss ts g = loop_more block_goes_on (item_step (statement_at h true)) (statement_takes h) ss ts g

pub statement_done : (h : ℕ) (ss : List StmtTree) (ts : List Token) → starts block_goes_on ts ≡ false → loop block_goes_on (item_step (statement_at h true)) ss ts ≡ Ok (ss, ts)
statement_done h ss ts g = loop_done block_goes_on (item_step (statement_at h true)) ss ts g

pub statement_zero : (in_block : Bool) (ts : List Token) → statement_at 0 in_block ts ≡ beyond (begins_statement in_block) ts
unfolding statement_at block_at
statement_zero in_block ts = refl

pub statement_positive : (h : ℕ) → 0 < h → (in_block : Bool) (ts : List Token) → statement_at h in_block ts ≡ statement_with h (statement_at (h - 1)) (block_at (h - 1)) in_block ts
unfolding statement_at block_at
statement_positive zero pos in_block ts = absurd (omega (arith, pos))
statement_positive (suc h) pos in_block ts =
    let same : suc h - 1 ≡ h = omega arith in
    subst (λ z. statement_with (suc h) (statement_at h) (block_at h) in_block ts ≡ statement_with (suc h) (statement_at z) (block_at z) in_block ts) (sym same) refl

pub block_zero : (ts : List Token) → block_at 0 ts ≡ beyond (is T.OpenBrace) ts
unfolding statement_at block_at
block_zero ts = refl

pub block_positive : (h : ℕ) → 0 < h → (ts : List Token) → block_at h ts ≡ braces (statement_at (h - 1) true) ts
unfolding statement_at block_at
block_positive zero pos ts = absurd (omega (arith, pos))
block_positive (suc h) pos ts =
    let same : suc h - 1 ≡ h = omega arith in
    subst (λ z. braces (statement_at h true) ts ≡ braces (statement_at z true) ts) (sym same) refl

-- a block as a statement, in the terms of a block
pub block_statement_is : (h : ℕ) → 0 < h → (ts : List Token) → block_statement h (statement_at (h - 1)) (block_at (h - 1)) ts ≡ (block_at h ts >>= λ b ts. Ok (BlockS (stmts_from b.1) b.0, ts))
unfolding block_statement
block_statement_is h pos ts = ap (λ z. z >>= λ b ts. Ok (BlockS (stmts_from b.1) b.0, ts)) (sym (block_positive h pos ts))

this_with : (h : ℕ) (inner : Bool → List Token → Res StmtTree) (block : List Token → Res (ℕ × List StmtTree × ℕ)) (in_block : Bool) (at : ℕ) (xs : List Token)
    → statement_with h inner block in_block (token T.This at ∷ xs) ≡ finish_from h (ThisE at) xs
unfolding statement_with plain_statement expression_statement primary leaf
this_with h inner block true at xs = refl
this_with h inner block false at xs = refl

same_read : {A : Type 0} (y z : A × List Token) (r : Res A) → r ≡ Ok y → r ≡ Ok z → y ≡ z
same_read y z r h k = cc

-- a statement that begins with `this`, from what stands behind that on
pub this_statement : (h : ℕ) → 0 < h → (in_block : Bool) (ts rest : List Token) (at : ℕ) → starts (is T.This) ts ≡ true → take_one T.This ts ≡ Ok (at, rest)
    → statement_at h in_block ts ≡ finish_from h (ThisE at) rest
this_statement h some in_block [] rest at this taken = absurd cc
this_statement h some in_block (x ∷ xs) rest at this taken =
    let same = is_token T.This x this in
    let read : take_one T.This (x ∷ xs) ≡ Ok (x.at, xs) = subst (λ y. take_one T.This (y ∷ xs) ≡ Ok (x.at, xs)) (sym same) refl in
    let both = same_read (x.at, xs) (at, rest) (take_one T.This (x ∷ xs)) read taken in
    statement_positive h some in_block (x ∷ xs)
    ∙ subst (λ y. statement_with h (statement_at (h - 1)) (block_at (h - 1)) in_block (y ∷ xs) ≡ finish_from h (ThisE x.at) xs) (sym same)
    (this_with h (statement_at (h - 1)) (block_at (h - 1)) in_block x.at xs)
    ∙ ap (λ p. finish_from h (ThisE p.0) p.1) both
