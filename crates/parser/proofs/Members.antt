-- Members, classes and programs are read right.
use Rattle.std.proofs.Common.{◌≡◌, ℕ, ◌<◌, ◌≤◌, ◌&&◌, not, Bool, true, false, List, [], ◌∷◌, ◌++◌, length, Option, Some, None, refl, sym, ◌∙◌, ap, subst, append_assoc, append-nil, arith, length-append, inl, inr}
use Rattle.std.proofs.Math.Bool.{and-false, and-true}
use Rattle.lexer.specs.declared.tokens.Token.{Token}
use Rattle.syntax.specs.declared.terminal.Terminal.{Terminal}
use Rattle.syntax.specs.declared.terminal.Terminal.TheVariants as T
use Rattle.syntax.specs.declared.tree.Name.{Name}
use Rattle.syntax.specs.declared.tree.Param.{Param}
use Rattle.syntax.specs.declared.tree.TypeName.{TypeName}
use Rattle.syntax.specs.declared.tree.TypeName.TheVariants as Y
use Rattle.syntax.specs.Grammar.{SpellsLock, IsType, IsFlag, IsOptional, IsResultType, SpellsParam, SpellsCtorParam, SpellsSet, SpellsGuard, SpellsField, SpellsRequires, SpellsBare, SpellsMember, SpellsExtends, SpellsRunnable, SpellsClass, Separates, Follows, Repeats, Wide}
use Rattle.syntax.specs.Heights.{body_height, highest_member, highest_body}
use Rattle.syntax.specs.Limits.{most_height}
use Rattle.syntax.specs.Tokens.{token, name_token}
use Rattle.syntax.proofs.Fields.{final_field as final_tree, mutable_field as mutable_tree}
use Rattle.syntax.specs.Trees.{LockTree, StmtTree, StmtTrees, no_stmts, FieldTree, MemberTree, FieldM, CtorM, MethodM, ClassTree, ProgramTree}
use Rattle.syntax.specs.Views.{stmts_from}
use Rattle.parser.proofs.TokenLaws.{right_field}
use Rattle.parser.proofs.Expressions.{along_length, append_left}
use Rattle.parser.proofs.Lists.{right_several, right_separated}
use Rattle.parser.proofs.Parts.{One, right_one, right_tok, right_name, right_done, right_if, right_flag, x_name}
use Rattle.parser.proofs.Right.{Right, Any, Some_of, right_seq, right_weaker}
use Rattle.parser.proofs.PlainStatements.{right_type, right_lock, this_lock, this_lock_is as this_is}
use Rattle.parser.proofs.Statements.{BlockL, right_block}
use Rattle.parser.specs.Combine.{Res, ◌>>=◌, starts, several}
use Rattle.parser.specs.Words.{lock}
use Rattle.parser.specs.Statements.{block_goes_on}
use Rattle.parser.specs.Members.{param, param_list, params, required, method_rest, set, ctor_rest, guard, field_rest, typed_rest, final_field, result_type, plain_method, named_member, bare_member, member, extended, runnable, class_at, program}

-- a terminal that may stand, and then
flag_optional : (t : Terminal) (f : Bool) (zs : List Token) → IsFlag t f zs → IsOptional t zs
flag_optional t true zs p = inr p
flag_optional t false zs p = inl p

-- parameters

-- a parameter, of a constructor or of a method
abbrev pub ParamL : Bool → List Token → Param → Type 0
ParamL true zs p = SpellsCtorParam p zs
ParamL false zs p = SpellsParam p zs

make_param : Bool → Bool → TypeName → Name → Param
make_param of_ctor f ty n = record { is_final = f && not of_ctor; ty = ty; name = n }

param_is : (of_ctor f : Bool) (ty : TypeName) (n : Name) (fs : List Token) (x : Token) → IsFlag T.Final f fs → IsType ty x
    → ParamL of_ctor (fs ++ (x ∷ name_token n ∷ [])) (make_param of_ctor f ty n)
unfolding make_param
param_is true f ty n fs x p q = (fs, x, and-false f, flag_optional T.Final f fs p, q, refl)
param_is false f ty n fs x p q = (fs, x, subst (λ z. IsFlag T.Final z fs) (sym (and-true f)) p, q, refl)

pub right_param : (of_ctor : Bool) (ts : List Token) → Right (param of_ctor) (ParamL of_ctor) Any ts
unfolding param make_param
right_param of_ctor ts =
    right_seq (right_flag T.Final ts) (λ f. (token T.Int 0 ∷ name_token x_name ∷ [], make_param of_ctor f Y.Int x_name, λ fs p. param_is of_ctor f Y.Int x_name fs (token T.Int 0) p refl)) (λ f r _.
    right_one (right_type r) (λ ty. (name_token x_name ∷ [], make_param of_ctor f ty x_name, λ x q fs p. param_is of_ctor f ty x_name fs x p q)) (λ ty r.
    right_name (λ n. ([], make_param of_ctor f ty n, λ x q fs p. param_is of_ctor f ty n fs x p q)) (λ n r.
    right_done (λ x q fs p. param_is of_ctor f ty n fs x p q) tt)))

pub param_example : (of_ctor : Bool) → Some_of (ParamL of_ctor)
param_example true = (token T.Int 0 ∷ name_token x_name ∷ [], record { is_final = false; ty = Y.Int; name = x_name }, ([], token T.Int 0, refl, inl refl, refl, refl))
param_example false = (token T.Int 0 ∷ name_token x_name ∷ [], record { is_final = false; ty = Y.Int; name = x_name }, ([], token T.Int 0, refl, refl, refl))

pub param_long : (of_ctor : Bool) (zs : List Token) (p : Param) → ParamL of_ctor zs p → 0 < length zs
param_long true zs p q = along_length zs _ q.5 (append_left q.0 _ _)
param_long false zs p q = along_length zs _ q.4 (append_left q.0 _ _)

abbrev pub FollowingParams : Bool → List Param → List Token → Type 0
FollowingParams of_ctor ps zs = Follows (λ p zs. ParamL of_ctor zs p) ps zs

abbrev pub ParamsL : Bool → List Param → List Token → Type 0
ParamsL of_ctor ps zs = Separates (λ p zs. ParamL of_ctor zs p) ps zs

params_inside : (of_ctor : Bool) (ts : List Token) → Right (param_list of_ctor) (λ zs ps. ParamsL of_ctor ps zs) Any ts
unfolding param_list
params_inside of_ctor ts =
    right_if (λ e. right_done refl tt)
    (λ e. right_weaker (λ zs b m. m) (λ b r q. tt)
    (right_separated (param of_ctor) (ParamL of_ctor) Any (param_example of_ctor) (param_long of_ctor) (λ ps. Unit {0}) (λ so a r p q. tt)
    (right_param of_ctor) (FollowingParams of_ctor) refl (λ a rest d xs ys p q. (xs, ys, d, p, q, refl))
    (ParamsL of_ctor) (λ a rest xs ys p q. (xs, ys, p, q, refl)) tt ts))

-- parameters in parentheses, and then
abbrev ParamsIn : Bool → List Token → List Param → Type 0
ParamsIn of_ctor zs ps = (o c : ℕ) × (xs : List Token) × ParamsL of_ctor ps xs × (zs ≡ token T.OpenParen o ∷ xs ++ (token T.CloseParen c ∷ []))

params_law : (of_ctor : Bool) (ts : List Token) → Right (params of_ctor) (ParamsIn of_ctor) Any ts
unfolding params
params_law of_ctor ts =
    right_tok T.OpenParen (λ o. (token T.CloseParen 0 ∷ [], [], (o, 0, [], refl, refl))) (λ o r.
    right_seq (params_inside of_ctor r) (λ ps. (token T.CloseParen 0 ∷ [], ps, λ xs p. (o, 0, xs, p, refl))) (λ ps r _.
    right_tok T.CloseParen (λ c. ([], ps, λ xs p. (o, c, xs, p, refl))) (λ c r. right_done (λ xs p. (o, c, xs, p, refl)) tt)))

params_list : (o c : ℕ) (xs ys zs : List Token) → zs ≡ token T.OpenParen o ∷ xs ++ (token T.CloseParen c ∷ [])
    → token T.OpenParen o ∷ xs ++ (token T.CloseParen c ∷ ys) ≡ zs ++ ys
params_list o c xs ys zs e = ap (λ z. token T.OpenParen o ∷ z) (sym (append_assoc xs (token T.CloseParen c ∷ []) ys)) ∙ sym (ap (λ z. z ++ ys) e)

right_params : (of_ctor : Bool) {B : Type 0} {k : List Param → List Token → Res B} {L : List Token → B → Type 0} {Post2 : B → List Token → Type 0} {ts : List Token}
    → ((ps : List Param) → Some_of (λ ys b. (o c : ℕ) (xs : List Token) → ParamsL of_ctor ps xs → L (token T.OpenParen o ∷ xs ++ (token T.CloseParen c ∷ ys)) b))
    → ((ps : List Param) (r : List Token) → Right (k ps) (λ ys b. (o c : ℕ) (xs : List Token) → ParamsL of_ctor ps xs → L (token T.OpenParen o ∷ xs ++ (token T.CloseParen c ∷ ys)) b) Post2 r)
    → Right (λ ts. params of_ctor ts >>= k) L Post2 ts
right_params of_ctor {B} {k} {L} {Post2} {ts} more law =
    right_seq (params_law of_ctor ts)
    (λ ps. let s = more ps in (s.0, s.1, λ zs c. subst (λ z. L z s.1) (params_list c.0 c.1 c.2 s.0 zs c.4) (s.2 c.0 c.1 c.2 c.3)))
    (λ ps r _. right_weaker (λ ys b m zs c. subst (λ z. L z b) (params_list c.0 c.1 c.2 ys zs c.4) (m c.0 c.1 c.2 c.3)) (λ b s p. p) (law ps r))

-- locks that a method requires

pub lock_long : (zs : List Token) (l : LockTree) → SpellsLock l zs → 0 < length zs
lock_long zs l p = along_length zs _ p.4 (omega arith)

right_required : (ts : List Token) → Right required (λ zs ls. SpellsRequires ls zs) Any ts
unfolding required
right_required ts =
    right_if
    (λ e. right_tok T.Requires (λ d. (token T.This 0 ∷ [], this_lock ∷ [], (token T.This 0 ∷ [], d, (token T.This 0 ∷ [], [], this_is, refl, refl), refl))) (λ d r.
    right_weaker (λ zs ls m. m) (λ b r q. tt)
    (right_separated lock (λ zs l. SpellsLock l zs) Any (token T.This 0 ∷ [], this_lock, this_is) lock_long (λ ls. Unit {0}) (λ so a r p q. tt)
    right_lock (λ ls zs. Follows SpellsLock ls zs) refl (λ a rest d xs ys p q. (xs, ys, d, p, q, refl))
    (λ ls zs. SpellsRequires ls (token T.Requires d ∷ zs)) (λ a rest xs ys p q. (xs ++ ys, d, (xs, ys, p, q, refl), refl)) tt r)))
    (λ e. right_done refl tt)

-- methods

abbrev Of : (List Token → List Token) → List Token → MemberTree → Type 0
Of front ys m = SpellsBare m (front ys)

make_method : Bool → Option TypeName → Name → List Param → List LockTree → StmtTrees → ℕ → MemberTree
make_method atomic returns n ps ls body end =
    MethodM record { atomic = atomic; returns = returns; name = n; params = ps; locks = ls; body = body; end = end }

-- what stands behind the name of a method
abbrev MethodRest : Bool → Option TypeName → Name → List Token → MemberTree → Type 0
MethodRest atomic returns n ys m = (fs : List Token) (x : Token) → IsFlag T.Atomic atomic fs → IsResultType returns x → SpellsBare m (fs ++ (x ∷ name_token n ∷ ys))

method_is : (atomic : Bool) (returns : Option TypeName) (n : Name) (ps : List Param) (ls : List LockTree) (b : ℕ × List StmtTree × ℕ)
    (zs rs xs : List Token) (o c : ℕ) → BlockL zs b → SpellsRequires ls rs → ParamsL false ps xs
    → MethodRest atomic returns n (token T.OpenParen o ∷ xs ++ (token T.CloseParen c ∷ rs ++ (zs ++ []))) (make_method atomic returns n ps ls (stmts_from b.1) b.2)
unfolding make_method
method_is atomic returns n ps ls b zs rs xs o c p q r fs x s t = (
  fs,
  xs,
  rs,
  p.0,
  x,
  o,
  c,
  b.0,
  s,
  t,
  r,
  q,
  p.1,
  ap (λ z. fs ++ (x ∷ name_token n ∷ token T.OpenParen o ∷ xs ++ (token T.CloseParen c ∷ rs ++ z))) (append-nil zs ∙ p.2),
)

empty_block : BlockL (token T.OpenBrace 0 ∷ token T.CloseBrace 0 ∷ []) (0, [], 0)
empty_block = ([], refl, refl)

abbrev pub LowMember : MemberTree → List Token → Type 0
LowMember m r = body_height m ≤ most_height

right_method_rest : (atomic : Bool) (returns : Option TypeName) (n : Name) (ts : List Token)
    → Right (method_rest atomic returns n) (MethodRest atomic returns n) LowMember ts
unfolding method_rest make_method
right_method_rest atomic returns n ts =
    let e : List Token = token T.OpenBrace 0 ∷ token T.CloseBrace 0 ∷ [] in
    right_params false (λ ps. (e, make_method atomic returns n ps [] no_stmts 0, λ o c xs p. method_is atomic returns n ps [] (0, [], 0) e [] xs o c empty_block refl p)) (λ ps r.
    right_seq (right_required r) (λ ls. (e, make_method atomic returns n ps ls no_stmts 0, λ rs q o c xs p. method_is atomic returns n ps ls (0, [], 0) e rs xs o c empty_block q p)) (λ ls r _.
    right_seq (right_block most_height r) (λ b. ([], make_method atomic returns n ps ls (stmts_from b.1) b.2, λ zs s rs q o c xs p. method_is atomic returns n ps ls b zs rs xs o c s q p)) (λ b r low.
    right_done (λ zs s rs q o c xs p. method_is atomic returns n ps ls b zs rs xs o c s q p) low)))

method_some : (atomic : Bool) (returns : Option TypeName) (n : Name) → Some_of (MethodRest atomic returns n)
unfolding make_method
method_some atomic returns n = (
  token T.OpenParen 0 ∷ token T.CloseParen 0 ∷ token T.OpenBrace 0 ∷ token T.CloseBrace 0 ∷ [],
  make_method atomic returns n [] [] no_stmts 0,
  method_is atomic returns n [] [] (0, [], 0) (token T.OpenBrace 0 ∷ token T.CloseBrace 0 ∷ []) [] [] 0 0 empty_block refl refl,
)

-- constructors

pub right_set : (ts : List Token) → Right set (λ zs p. SpellsSet p zs) Any ts
unfolding set
right_set ts =
    right_tok T.This (λ t. (token T.Dot 0 ∷ name_token x_name ∷ token T.Assign 0 ∷ name_token x_name ∷ token T.Semicolon 0 ∷ [], (x_name, x_name), (t, 0, 0, 0, refl))) (λ t r.
    right_field (λ f. (token T.Assign 0 ∷ name_token x_name ∷ token T.Semicolon 0 ∷ [], (f, x_name), λ d. (t, d, 0, 0, refl))) (λ f r.
    right_tok T.Assign (λ e. (name_token x_name ∷ token T.Semicolon 0 ∷ [], (f, x_name), λ d. (t, d, e, 0, refl))) (λ e r.
    right_name (λ p. (token T.Semicolon 0 ∷ [], (f, p), λ d. (t, d, e, 0, refl))) (λ p r.
    right_tok T.Semicolon (λ c. ([], (f, p), λ d. (t, d, e, c, refl))) (λ c r. right_done (λ d. (t, d, e, c, refl)) tt)))))

pub set_example : Some_of (λ zs p. SpellsSet p zs)
set_example = (token T.This 0 ∷ token T.Dot 0 ∷ name_token x_name ∷ token T.Assign 0 ∷ name_token x_name ∷ token T.Semicolon 0 ∷ [], (x_name, x_name), (0, 0, 0, 0, refl))

pub set_long : (zs : List Token) (p : Name × Name) → SpellsSet p zs → 0 < length zs
set_long zs p q = along_length zs _ q.4 (omega arith)

sets_law : (ts : List Token) → Right (several block_goes_on set) (λ zs ss. Repeats SpellsSet ss zs) Any ts
sets_law ts =
    right_weaker (λ zs b m. m) (λ b r q. tt)
    (right_several set (λ zs p. SpellsSet p zs) Any set_example set_long (λ ss. Unit {0}) (λ so a r p q. tt)
    block_goes_on (λ x xs g. right_set (x ∷ xs)) (λ ss zs. Repeats SpellsSet ss zs) refl (λ a rest xs ys p q. (xs, ys, p, q, refl)) tt ts)

right_ctor_rest : (n : Name) (ts : List Token) → Right (ctor_rest n) (λ ys m. SpellsBare m (name_token n ∷ ys)) LowMember ts
unfolding ctor_rest
right_ctor_rest n ts =
    right_params true (λ ps. (token T.OpenBrace 0 ∷ token T.CloseBrace 0 ∷ [], CtorM n ps [], λ o c xs p. (xs, [], o, c, 0, 0, p, refl, refl))) (λ ps r.
    right_tok T.OpenBrace (λ b. (token T.CloseBrace 0 ∷ [], CtorM n ps [], λ o c xs p. (xs, [], o, c, b, 0, p, refl, refl))) (λ b r.
    right_seq (sets_law r) (λ ss. (token T.CloseBrace 0 ∷ [], CtorM n ps ss, λ ys q o c xs p. (xs, ys, o, c, b, 0, p, q, refl))) (λ ss r _.
    right_tok T.CloseBrace (λ e. ([], CtorM n ps ss, λ ys q o c xs p. (xs, ys, o, c, b, e, p, q, refl))) (λ e r.
    right_done (λ ys q o c xs p. (xs, ys, o, c, b, e, p, q, refl)) (omega arith)))))

-- fields

right_guard : (ts : List Token) → Right guard (λ zs g. SpellsGuard g.1 g.0 zs) Any ts
unfolding guard
right_guard ts =
    right_if (λ e. right_tok T.GuardedBy (λ d. (token T.This 0 ∷ [], (Some this_lock, false), (token T.This 0 ∷ [], d, this_is, refl))) (λ d r.
    right_seq (right_lock r) (λ l. ([], (Some l, false), λ xs p. (xs, d, p, ap (λ z. token T.GuardedBy d ∷ z) (append-nil xs)))) (λ l r _.
    right_done (λ xs p. (xs, d, p, ap (λ z. token T.GuardedBy d ∷ z) (append-nil xs))) tt)))
    (λ e. right_if (λ e. right_tok T.WriteGuardedBy (λ d. (token T.This 0 ∷ [], (Some this_lock, true), (token T.This 0 ∷ [], d, this_is, refl))) (λ d r.
    right_seq (right_lock r) (λ l. ([], (Some l, true), λ xs p. (xs, d, p, ap (λ z. token T.WriteGuardedBy d ∷ z) (append-nil xs)))) (λ l r _.
    right_done (λ xs p. (xs, d, p, ap (λ z. token T.WriteGuardedBy d ∷ z) (append-nil xs))) tt)))
    (λ e. right_done (refl, refl) tt))

right_field_rest : (ty : TypeName) (n : Name) (ts : List Token) → Right (field_rest ty n) (λ ys m. (x : Token) → IsType ty x → SpellsBare m (x ∷ name_token n ∷ ys)) LowMember ts
unfolding field_rest
right_field_rest ty n ts =
    right_seq (right_guard ts) (λ g. (token T.Semicolon 0 ∷ [], FieldM (mutable_tree ty n g.1 g.0), λ gs p x q. (x, gs, 0, q, p, refl))) (λ g r _.
    right_tok T.Semicolon (λ c. ([], FieldM (mutable_tree ty n g.1 g.0), λ gs p x q. (x, gs, c, q, p, refl))) (λ c r.
    right_done (λ gs p x q. (x, gs, c, q, p, refl)) (omega arith)))

abbrev TypedRest : TypeName → List Token → MemberTree → Type 0
TypedRest ty ys m = (x : Token) → IsType ty x → SpellsBare m (x ∷ ys)

right_typed_rest : (ty : TypeName) (ts : List Token) → Right (typed_rest ty) (TypedRest ty) LowMember ts
unfolding typed_rest
right_typed_rest ty ts =
    right_name (λ n. (token T.Semicolon 0 ∷ [], FieldM (mutable_tree ty n false None), λ x q. (x, [], 0, q, (refl, refl), refl))) (λ n r.
    right_if (λ e. right_weaker (λ ys m k x q. k [] x refl q) (λ m r k. k) (right_method_rest false (Some ty) n r))
    (λ e. right_weaker (λ ys m k. k) (λ m r k. k) (right_field_rest ty n r)))

right_final_field : (ts : List Token) → Right final_field (λ zs m. SpellsBare m zs) LowMember ts
unfolding final_field
right_final_field ts =
    right_tok T.Final (λ d. (token T.Int 0 ∷ name_token x_name ∷ token T.Semicolon 0 ∷ [], FieldM (final_tree Y.Int x_name), (token T.Int 0, d, 0, refl, refl, refl, refl))) (λ d r.
    right_one (right_type r) (λ ty. (name_token x_name ∷ token T.Semicolon 0 ∷ [], FieldM (final_tree ty x_name), λ x q. (x, d, 0, q, refl, refl, refl))) (λ ty r.
    right_name (λ n. (token T.Semicolon 0 ∷ [], FieldM (final_tree ty n), λ x q. (x, d, 0, q, refl, refl, refl))) (λ n r.
    right_tok T.Semicolon (λ c. ([], FieldM (final_tree ty n), λ x q. (x, d, c, q, refl, refl, refl))) (λ c r.
    right_done (λ x q. (x, d, c, q, refl, refl, refl)) (omega arith)))))

abbrev ResultToken : Token → Option TypeName → Type 0
ResultToken x r = IsResultType r x

right_result : (ts : List Token) → Right result_type (One ResultToken) Any ts
unfolding result_type
right_result ts =
    right_if (λ e. right_tok T.Void (λ d. ([], None, (token T.Void d, refl, refl))) (λ d r. right_done (token T.Void d, refl, refl) tt))
    (λ e. right_one (right_type ts) (λ ty. ([], Some ty, λ x q. (x, q, refl))) (λ ty r. right_done (λ x q. (x, q, refl)) tt))

right_plain_method : (atomic : Bool) (ts : List Token)
    → Right (plain_method atomic) (λ ys m. (fs : List Token) → IsFlag T.Atomic atomic fs → SpellsBare m (fs ++ ys)) LowMember ts
unfolding plain_method
right_plain_method atomic ts =
    right_one (right_result ts) (λ r. let s = method_some atomic r x_name in (name_token x_name ∷ s.0, s.1, λ x q fs p. s.2 fs x p q)) (λ r ts.
    right_name (λ n. let s = method_some atomic r n in (s.0, s.1, λ x q fs p. s.2 fs x p q)) (λ n ts.
    right_weaker (λ ys m k x q fs p. k fs x p q) (λ m r k. k) (right_method_rest atomic r n ts)))

field_some : (ty : TypeName) → Some_of (TypedRest ty)
field_some ty = (name_token x_name ∷ token T.Semicolon 0 ∷ [], FieldM (mutable_tree ty x_name false None), λ x q. (x, [], 0, q, (refl, refl), refl))

right_named_member : (ts : List Token) → Right named_member (λ zs m. SpellsBare m zs) LowMember ts
unfolding named_member
right_named_member ts =
    right_name (λ n. let s = field_some (Y.Class n) in (s.0, s.1, s.2 (name_token n) refl)) (λ n r.
    right_if (λ e. right_ctor_rest n r) (λ e. right_weaker (λ ys m k. k (name_token n) refl) (λ m r k. k) (right_typed_rest (Y.Class n) r)))

right_bare_member : (ts : List Token) → Right bare_member (λ zs m. SpellsBare m zs) LowMember ts
unfolding bare_member
right_bare_member ts =
    right_if (λ e. right_final_field ts) (λ e.
    right_if (λ e. right_tok T.Atomic (λ d. let s = method_some true None x_name in (token T.Void 0 ∷ name_token x_name ∷ s.0, s.1, s.2 (token T.Atomic d ∷ []) (token T.Void 0) (d, refl) refl)) (λ d r.
    right_weaker (λ ys m k. k (token T.Atomic d ∷ []) (d, refl)) (λ m r k. k) (right_plain_method true r))) (λ e.
    right_if (λ e. right_weaker (λ ys m k. k [] refl) (λ m r k. k) (right_plain_method false ts)) (λ e.
    right_if (λ e. right_named_member ts) (λ e.
    right_one (right_type ts) field_some (λ ty r. right_typed_rest ty r)))))

pub right_member : (ts : List Token) → Right member (λ zs m. SpellsMember m zs) LowMember ts
unfolding member
right_member ts =
    right_seq (right_flag T.Public ts) (λ f. let s = field_some Y.Int in (token T.Int 0 ∷ s.0, s.1, λ ps p. (ps, token T.Int 0 ∷ s.0, flag_optional T.Public f ps p, s.2 (token T.Int 0) refl, refl))) (λ f r _.
    right_weaker (λ ys m k ps p. (ps, ys, flag_optional T.Public f ps p, k, refl)) (λ m r k. k) (right_bare_member r))

whole_field_long : (fin : Bool) (t : FieldTree) (zs : List Token) → SpellsField fin t zs → 0 < length zs
whole_field_long true t zs p = along_length zs _ p.6 (omega arith)
whole_field_long false t zs p = along_length zs _ p.5 (omega arith)

bare_long : (m : MemberTree) (zs : List Token) → SpellsBare m zs → 0 < length zs
bare_long (FieldM t) zs p = whole_field_long t.is_final t zs p
bare_long (CtorM n ps ss) zs p = along_length zs _ p.8 (omega arith)
bare_long (MethodM m) zs p = along_length zs _ p.13 (append_left p.0 _ _)

pub member_long : (zs : List Token) (m : MemberTree) → SpellsMember m zs → 0 < length zs
member_long zs m p = along_length zs _ p.4 (let k = bare_long m p.1 p.3 in omega (arith, length-append p.0 p.1, k))

pub member_example : Some_of (λ zs m. SpellsMember m zs)
member_example = (
  token T.Int 0 ∷ name_token x_name ∷ token T.Semicolon 0 ∷ [],
  FieldM (mutable_tree Y.Int x_name false None),
  ([], token T.Int 0 ∷ name_token x_name ∷ token T.Semicolon 0 ∷ [], inl refl, (token T.Int 0, [], 0, refl, (refl, refl), refl), refl),
)

more_members : (so : List MemberTree) (m : MemberTree) → body_height m ≤ most_height → highest_member so ≤ most_height → highest_member (so ++ (m ∷ [])) ≤ most_height
more_members [] m a b = omega (arith, a)
more_members (x ∷ so) m a b = let k : highest_member so ≤ most_height = omega (arith, b) in let i = more_members so m a k in omega (arith, b, i)

members_law : (ts : List Token) → Right (several block_goes_on member) (λ zs ms. Repeats SpellsMember ms zs) (λ ms r. highest_member ms ≤ most_height) ts
members_law ts =
    right_weaker (λ zs b m. m) (λ b r q. q.0)
    (right_several member (λ zs m. SpellsMember m zs) LowMember member_example member_long (λ ms. highest_member ms ≤ most_height) (λ so m r a b. more_members so m a b)
    block_goes_on (λ x xs g. right_member (x ∷ xs)) (λ ms zs. Repeats SpellsMember ms zs) refl (λ a rest xs ys p q. (xs, ys, p, q, refl)) (omega arith) ts)

right_runnable : (ts : List Token) → Right runnable (λ zs r. SpellsRunnable r zs) Any ts
unfolding runnable
right_runnable ts =
    right_if (λ e. right_tok T.Implements (λ d. (token T.Runnable 0 ∷ [], true, (d, 0, refl))) (λ d r.
    right_tok T.Runnable (λ e. ([], true, (d, e, refl))) (λ e r. right_done (d, e, refl) tt)))
    (λ e. right_done refl tt)

right_extended : (ts : List Token) → Right extended (λ zs above. SpellsExtends above zs) Any ts
unfolding extended
right_extended ts =
    right_if (λ e. right_tok T.Extends (λ d. (name_token x_name ∷ [], Some x_name, (d, refl))) (λ d r.
    right_name (λ n. ([], Some n, (d, refl))) (λ n r. right_done (d, refl) tt)))
    (λ e. right_done refl tt)

make_class : Name → Option Name → Bool → List MemberTree → ClassTree
make_class n above r ms = record { name = n; above = above; runnable = r; members = ms }

abbrev pub LowClass : ClassTree → List Token → Type 0
LowClass c r = highest_member c.members ≤ most_height

pub right_class : (ts : List Token) → Right class_at (λ zs c. SpellsClass c zs) LowClass ts
unfolding class_at make_class
right_class ts =
    let e : List Token = token T.OpenBrace 0 ∷ token T.CloseBrace 0 ∷ [] in
    right_seq (right_flag T.Public ts) (λ f. (token T.Class 0 ∷ name_token x_name ∷ e, make_class x_name None false [], λ ps p. (ps, [], [], [], 0, 0, 0, flag_optional T.Public f ps p, refl, refl, refl, refl))) (λ f r _.
    right_tok T.Class (λ d. (name_token x_name ∷ e, make_class x_name None false [], λ ps p. (ps, [], [], [], d, 0, 0, flag_optional T.Public f ps p, refl, refl, refl, refl))) (λ d r.
    right_name (λ n. (e, make_class n None false [], λ ps p. (ps, [], [], [], d, 0, 0, flag_optional T.Public f ps p, refl, refl, refl, refl))) (λ n r.
    right_seq (right_extended r) (λ a. (e, make_class n a false [], λ es x ps p. (ps, es, [], [], d, 0, 0, flag_optional T.Public f ps p, x, refl, refl, refl))) (λ a r _.
    right_seq (right_runnable r) (λ k. (e, make_class n a k [], λ rs q es x ps p. (ps, es, rs, [], d, 0, 0, flag_optional T.Public f ps p, x, q, refl, refl))) (λ k r _.
    right_tok T.OpenBrace (λ b. (token T.CloseBrace 0 ∷ [], make_class n a k [], λ rs q es x ps p. (ps, es, rs, [], d, b, 0, flag_optional T.Public f ps p, x, q, refl, refl))) (λ b r.
    right_seq (members_law r) (λ ms. (token T.CloseBrace 0 ∷ [], make_class n a k ms, λ xs s rs q es x ps p. (ps, es, rs, xs, d, b, 0, flag_optional T.Public f ps p, x, q, s, refl))) (λ ms r low.
    right_tok T.CloseBrace (λ e. ([], make_class n a k ms, λ xs s rs q es x ps p. (ps, es, rs, xs, d, b, e, flag_optional T.Public f ps p, x, q, s, refl))) (λ e r.
    right_done (λ xs s rs q es x ps p. (ps, es, rs, xs, d, b, e, flag_optional T.Public f ps p, x, q, s, refl)) low))))))))

pub class_long : (zs : List Token) (c : ClassTree) → SpellsClass c zs → 0 < length zs
class_long zs c p = along_length zs _ p.11 (append_left p.0 _ _)

pub class_example : Some_of (λ zs c. SpellsClass c zs)
unfolding make_class
class_example = (token T.Class 0 ∷ name_token x_name ∷ token T.OpenBrace 0 ∷ token T.CloseBrace 0 ∷ [], make_class x_name None false [], ([], [], [], [], 0, 0, 0, inl refl, refl, refl, refl, refl))

more_classes : (so : ProgramTree) (c : ClassTree) → highest_member c.members ≤ most_height → highest_body so ≤ most_height → highest_body (so ++ (c ∷ [])) ≤ most_height
more_classes [] c a b = omega (arith, a)
more_classes (x ∷ so) c a b = let k : highest_body so ≤ most_height = omega (arith, b) in let i = more_classes so c a k in omega (arith, b, i)

-- a program is read right: what is read is no higher than the limit, and no token is left
pub right_program : (ts : List Token) → Right program (λ zs t. Wide zs t) (λ t r. (highest_body t ≤ most_height) × (starts (λ x. true) r ≡ false)) ts
unfolding program
right_program ts =
    right_several class_at (λ zs c. SpellsClass c zs) LowClass class_example class_long (λ t. highest_body t ≤ most_height) (λ so c r a b. more_classes so c a b)
    (λ x. true) (λ x xs g. right_class (x ∷ xs)) (λ t zs. Wide zs t) refl (λ a rest xs ys p q. (xs, ys, p, q, refl)) (omega arith) ts
