-- Reading members, classes and programs.
use Rattle.std.specs.Prelude.{Bool, true, false, not, ◌&&◌, List, [], Option, Some, None, Ok, if◌then◌else◌}
use Rattle.lexer.specs.declared.tokens.Token.{Token}
use Rattle.syntax.specs.declared.terminal.Terminal.TheVariants as T
use Rattle.syntax.specs.declared.tree.Name.{Name}
use Rattle.syntax.specs.declared.tree.Param.{Param}
use Rattle.syntax.specs.declared.tree.TypeName.{TypeName}
use Rattle.syntax.specs.declared.tree.TypeName.TheVariants as Y
use Rattle.syntax.specs.Limits.{most_height}
use Rattle.syntax.specs.Tokens.{is}
use Rattle.syntax.specs.Trees.{LockTree, MemberTree, FieldM, CtorM, MethodM, ClassTree, ProgramTree}
use Rattle.syntax.specs.Views.{stmts_from}
use Rattle.parser.specs.Combine.{Res, ◌>>=◌, starts, first, take_one, flag, several, separated}
use Rattle.parser.specs.Words.{a_name, is_name, field_name, lock, type_name}
use Rattle.parser.specs.Statements.{block_goes_on}
use Rattle.parser.specs.Blocks.{block_at}

-- a parameter; `final` may stand before it, which counts in a method alone
unfoldable pub param : Bool → List Token → Res Param
param of_ctor ts =
    Ok (flag T.Final ts) >>= λ f ts. type_name ts >>= λ t ts. first a_name ts >>= λ n ts.
    Ok (record { is_final = f && not of_ctor; ty = t; name = n }, ts)

-- the parameters up to the closing parenthesis, which may be none
unfoldable pub param_list : Bool → List Token → Res (List Param)
param_list of_ctor ts = if starts (is T.CloseParen) ts then Ok ([], ts) else separated (param of_ctor) ts

-- the parameters of a method or constructor, in their parentheses
unfoldable pub params : Bool → List Token → Res (List Param)
params of_ctor ts =
    take_one T.OpenParen ts >>= λ o ts. param_list of_ctor ts >>= λ ps ts.
    take_one T.CloseParen ts >>= λ c ts. Ok (ps, ts)

-- the locks after `requires`; none where the word doesn't stand
unfoldable pub required : List Token → Res (List LockTree)
required ts = if starts (is T.Requires) ts then (take_one T.Requires ts >>= λ d ts. separated lock ts) else Ok ([], ts)

-- a method from its parameters on: what stood before them is known
unfoldable pub method_rest : Bool → Option TypeName → Name → List Token → Res MemberTree
method_rest atomic returns n ts =
    params false ts >>= λ ps ts. required ts >>= λ ls ts. block_at most_height ts >>= λ b ts.
    Ok (MethodM record { atomic = atomic; returns = returns; name = n; params = ps; locks = ls; body = stmts_from b.1; end = b.2 }, ts)

-- a line of a constructor: `this.f = p;`
unfoldable pub set : List Token → Res (Name × Name)
set ts =
    take_one T.This ts >>= λ t ts. field_name ts >>= λ f ts. take_one T.Assign ts >>= λ d ts. first a_name ts >>= λ p ts.
    take_one T.Semicolon ts >>= λ c ts. Ok ((f, p), ts)

-- a constructor from its parameters on, with its lines up to the closing brace
unfoldable pub ctor_rest : Name → List Token → Res MemberTree
ctor_rest n ts =
    params true ts >>= λ ps ts. take_one T.OpenBrace ts >>= λ b ts. several block_goes_on set ts >>= λ ss ts. take_one T.CloseBrace ts >>= λ c ts.
    Ok (CtorM n ps ss, ts)

-- a guard, if there is one, and whether it is one of writes alone
unfoldable pub guard : List Token → Res (Option LockTree × Bool)
guard ts =
    if starts (is T.GuardedBy) ts then (take_one T.GuardedBy ts >>= λ d ts. lock ts >>= λ l ts. Ok ((Some l, false), ts))
    else if starts (is T.WriteGuardedBy) ts then (take_one T.WriteGuardedBy ts >>= λ d ts. lock ts >>= λ l ts. Ok ((Some l, true), ts))
    else Ok ((None, false), ts)

-- a field that isn't final, from its guard on
unfoldable pub field_rest : TypeName → Name → List Token → Res MemberTree
field_rest ty n ts = guard ts >>= λ g ts. take_one T.Semicolon ts >>= λ c ts.
    Ok (FieldM record { is_final = false; ty = ty; name = n; guard = g.0; writes_only = g.1 }, ts)

-- a member that began with a type: its name, and then a method where a parenthesis opens, else a field
unfoldable pub typed_rest : TypeName → List Token → Res MemberTree
typed_rest ty ts = first a_name ts >>= λ n ts.
    if starts (is T.OpenParen) ts then method_rest false (Some ty) n ts else field_rest ty n ts

-- a field from `final` on; it has no guard
unfoldable pub final_field : List Token → Res MemberTree
final_field ts =
    take_one T.Final ts >>= λ d ts. type_name ts >>= λ t ts. first a_name ts >>= λ n ts. take_one T.Semicolon ts >>= λ c ts.
    Ok (FieldM record { is_final = true; ty = t; name = n; guard = None; writes_only = false }, ts)

-- the type that a method gives, or `void`
unfoldable pub result_type : List Token → Res (Option TypeName)
result_type ts = if starts (is T.Void) ts then (take_one T.Void ts >>= λ d ts. Ok (None, ts)) else (type_name ts >>= λ t ts. Ok (Some t, ts))

-- a method from its result type on
unfoldable pub plain_method : Bool → List Token → Res MemberTree
plain_method atomic ts = result_type ts >>= λ r ts. first a_name ts >>= λ n ts. method_rest atomic r n ts

-- a member that begins with a name: a constructor where a parenthesis follows, else the name is the class of its type
unfoldable pub named_member : List Token → Res MemberTree
named_member ts = first a_name ts >>= λ n ts.
    if starts (is T.OpenParen) ts then ctor_rest n ts else typed_rest (Y.Class n) ts

-- a member without `public`, by its first token
unfoldable pub bare_member : List Token → Res MemberTree
bare_member ts =
    if starts (is T.Final) ts then final_field ts
    else if starts (is T.Atomic) ts then (take_one T.Atomic ts >>= λ d ts. plain_method true ts)
    else if starts (is T.Void) ts then plain_method false ts
    else if starts is_name ts then named_member ts
    else (type_name ts >>= λ t ts. typed_rest t ts)

-- a member; `public` may stand before it and says nothing
unfoldable pub member : List Token → Res MemberTree
member ts = Ok (flag T.Public ts) >>= λ p ts. bare_member ts

-- whether `implements Runnable` stands here
unfoldable pub runnable : List Token → Res Bool
runnable ts =
    if starts (is T.Implements) ts then (take_one T.Implements ts >>= λ d ts. take_one T.Runnable ts >>= λ e ts. Ok (true, ts)) else Ok (false, ts)

-- the name behind `extends`, if there is one
unfoldable pub extended : List Token → Res (Option Name)
extended ts = if starts (is T.Extends) ts then (take_one T.Extends ts >>= λ d ts. first a_name ts >>= λ n ts. Ok (Some n, ts)) else Ok (None, ts)

-- a class; `public` may stand before it and says nothing
unfoldable pub class_at : List Token → Res ClassTree
class_at ts =
    Ok (flag T.Public ts) >>= λ p ts. take_one T.Class ts >>= λ c ts. first a_name ts >>= λ n ts. extended ts >>= λ above ts. runnable ts >>= λ r ts.
    take_one T.OpenBrace ts >>= λ b ts. several block_goes_on member ts >>= λ ms ts. take_one T.CloseBrace ts >>= λ e ts.
    Ok (record { name = n; above = above; runnable = r; members = ms }, ts)

-- classes up to the end of the tokens
unfoldable pub program : List Token → Res ProgramTree
program ts = several (λ x. true) class_at ts
