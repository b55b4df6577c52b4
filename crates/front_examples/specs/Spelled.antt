-- Tokens, and parts of trees that they spell.
use Rattle.std.specs.Prelude.{true, [], ◌∷◌, Some, codes}
use Rattle.lexer.specs.declared.tokens.Token.{Token}
use Rattle.syntax.specs.declared.terminal.Terminal.TheVariants as T
use Rattle.syntax.specs.declared.tree.Name.{Name}
use Rattle.syntax.specs.declared.tree.Op.TheVariants as O
use Rattle.syntax.specs.declared.tree.TypeName.TheVariants as Y
use Rattle.syntax.specs.Tokens.{token, name_token, number_token}
use Rattle.syntax.specs.Trees.{ExprTree, BinaryE, StmtTree, EmptyS, MethodTree}
use Rattle.front_examples.specs.Written.{name, x_name, x, seven_tree, param, method_tree, this_lock, lock_tree, one_stmt}

-- the token of the name `x`, at 9
abbrev pub x_token : Token
x_token = name_token x_name

-- the token of the number 7, at 8
abbrev pub seven_token : Token
seven_token = number_token 7 (codes "7") 8

-- the name `f`
abbrev pub f : Name
f = name (codes "f") 11

-- the token of the name `f`, at 11
abbrev pub f_token : Token
f_token = name_token f

-- `x + 7`
abbrev pub sum : ExprTree
sum = BinaryE O.Add x seven_tree 10

-- `;`
abbrev pub empty : StmtTree
empty = EmptyS 8

-- the token `;`, at 8
abbrev pub empty_token : Token
empty_token = token T.Semicolon 8

-- `atomic int f(final int x) requires this, x { ; }`
abbrev pub full_method : MethodTree
full_method = record (method_tree f (param true Y.Int x_name ∷ []) (Some Y.Int) (one_stmt empty)) { atomic = true; locks = this_lock ∷ lock_tree (Some x_name) [] 9 ∷ [] }
