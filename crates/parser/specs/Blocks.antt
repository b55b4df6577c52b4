-- Recursive descent for statements, with the height still allowed as its budget.
use Rattle.std.specs.Prelude.{ℕ, zero, suc, Bool, true, false, List, Ok, if◌then◌else◌}
use Rattle.lexer.specs.declared.tokens.Token.{Token}
use Rattle.syntax.specs.declared.terminal.Terminal.TheVariants as T
use Rattle.syntax.specs.Tokens.{is}
use Rattle.syntax.specs.Trees.{ExprTree, StmtTree, BlockS, IfS, IfElseS, WhileS, SyncS}
use Rattle.syntax.specs.Views.{stmts_from}
use Rattle.parser.specs.Combine.{Res, ◌>>=◌, starts, take_one, beyond, several}
use Rattle.parser.specs.Words.{lock}
use Rattle.parser.specs.Statements.{begins_statement, condition, block_goes_on, plain_statement}

-- the offset of the opening brace, the items, and the offset of the closing brace
unfoldable pub braces : (List Token → Res StmtTree) → List Token → Res (ℕ × List StmtTree × ℕ)
braces item ts = take_one T.OpenBrace ts >>= λ b ts. several block_goes_on item ts >>= λ ss ts. take_one T.CloseBrace ts >>= λ c ts. Ok ((b, ss, c), ts)

-- branches are read by inner, the block of a `synchronized` by block
module _ (h : ℕ) (inner : Bool → List Token → Res StmtTree) (block : List Token → Res (ℕ × List StmtTree × ℕ)) where
  -- what may follow the first branch of an `if`: an `else` belongs to the innermost one
  unfoldable pub else_part : ℕ → ExprTree → StmtTree → List Token → Res StmtTree
  else_part at e s ts =
      if starts (is T.Else) ts then (take_one T.Else ts >>= λ d ts. inner false ts >>= λ t ts. Ok (IfElseS e s t at, ts)) else Ok (IfS e s at, ts)

  -- an `if` with one branch or two
  unfoldable pub if_statement : List Token → Res StmtTree
  if_statement ts = take_one T.If ts >>= λ d ts. condition h ts >>= λ e ts. inner false ts >>= λ s ts. else_part d e s ts

  -- a `while` with its body
  unfoldable pub while_statement : List Token → Res StmtTree
  while_statement ts = take_one T.While ts >>= λ d ts. condition h ts >>= λ e ts. inner false ts >>= λ s ts. Ok (WhileS e s d, ts)

  -- a `synchronized` with its lock and block
  unfoldable pub sync_statement : List Token → Res StmtTree
  sync_statement ts =
      take_one T.Synchronized ts >>= λ d ts. take_one T.OpenParen ts >>= λ o ts. lock ts >>= λ l ts. take_one T.CloseParen ts >>= λ c ts.
      block ts >>= λ b ts. Ok (SyncS l (stmts_from b.1) d, ts)

  -- a block as a statement of its own, in which declarations may stand
  unfoldable pub block_statement : List Token → Res StmtTree
  block_statement ts = braces (inner true) ts >>= λ b ts. Ok (BlockS (stmts_from b.1) b.0, ts)

  -- a statement by its first token, of a kind with statements in it or of another
  unfoldable pub statement_with : Bool → List Token → Res StmtTree
  statement_with in_block ts =
      if starts (is T.OpenBrace) ts then block_statement ts
      else if starts (is T.If) ts then if_statement ts
      else if starts (is T.While) ts then while_statement ts
      else if starts (is T.Synchronized) ts then sync_statement ts
      else plain_statement h in_block ts

-- Statements and blocks of a height that is allowed, each read through the other.
unfoldable mutual
  -- a statement of at most h nodes in height; in a block it may be a declaration
  pub statement_at : ℕ → Bool → List Token → Res StmtTree
  statement_at zero in_block ts = beyond (begins_statement in_block) ts
  statement_at (suc h) in_block ts = statement_with (suc h) (statement_at h) (block_at h) in_block ts

  -- a block that counts as one node, of at most h nodes in height
  pub block_at : ℕ → List Token → Res (ℕ × List StmtTree × ℕ)
  block_at zero ts = beyond (is T.OpenBrace) ts
  block_at (suc h) ts = braces (statement_at h true) ts
