-- Each name of a tree is the text of one of the tokens that the grammar relates to it.
use Rattle.std.proofs.Common.{ℕ, Bool, true, false, List, [], ◌∷◌, ◌++◌, Option, Some, None, sym, subst}
use Rattle.std.specs.List.{All, Contains, flat_map}
use Rattle.std.proofs.lemmas.List.Elements.{recursion_from_All, All-from_recursion, All-contains_itself}
use Rattle.lexer.specs.declared.tokens.Token.{Token}
use Rattle.syntax.specs.declared.tree.Name.{Name}
use Rattle.syntax.specs.declared.tree.Param.{Param}
use Rattle.syntax.specs.declared.tree.TypeName.{TypeName}
use Rattle.syntax.specs.declared.tree.TypeName.TheVariants as Y
use Rattle.syntax.specs.Grammar.{IsType, IsResultType, SpellsFields, SpellsRoot, SpellsLock, Spells, SpellsArgs, SpellsMoreArgs, SpellsStmt, SpellsStmts, Repeats, Follows, Separates, SpellsParam, SpellsCtorParam, SpellsSet, SpellsGuard, SpellsRequires, SpellsField, SpellsBare, SpellsMember, SpellsExtends, SpellsClass, Wide}
use Rattle.syntax.specs.Names.{names_of_type, names_of_result, names_of_root, names_of_lock, names_of_expr, names_of_exprs, names_of_stmt, names_of_stmts, names_of_param, names_of_set, names_of_guard, names_of_field, names_of_member, names_of_extends, names_of_class, names_of_program}
use Rattle.syntax.specs.Tokens.{name_token}
use Rattle.syntax.specs.Trees.{LockTree, ExprTree, ExprTrees, NumberE, LeastE, TruthE, NullE, ThisE, VarE, ParenE, NotE, NegE, BinaryE, GetE, CallE, NewE, no_exprs, more_exprs, StmtTree, StmtTrees, EmptyS, BlockS, LocalS, SetVarS, SetFieldS, DoS, IfS, IfElseS, WhileS, SyncS, ReturnS, PrintS, StartS, no_stmts, more_stmts, FieldTree, MemberTree, FieldM, CtorM, MethodM, ClassTree, ProgramTree}

-- P holds of each element
abbrev Each : {A : Type 0} → (A → Type 0) → List A → Type 0
Each P [] = Unit {0}
Each P (x ∷ xs) = P x × Each P xs

all_both : {A : Type 0} (P : A → Type 0) (xs ys : List A) → Each P xs → Each P ys → Each P (xs ++ ys)
all_both P [] ys a b = b
all_both P (x ∷ xs) ys a b = (a.0, all_both P xs ys a.1 b)

all_left : {A : Type 0} (P : A → Type 0) (xs ys : List A) → Each P (xs ++ ys) → Each P xs
all_left P [] ys a = tt
all_left P (x ∷ xs) ys a = (a.0, all_left P xs ys a.1)

all_right : {A : Type 0} (P : A → Type 0) (xs ys : List A) → Each P (xs ++ ys) → Each P ys
all_right P [] ys a = a
all_right P (x ∷ xs) ys a = all_right P xs ys a.1

-- what holds of each token holds of the token of each name
module _ (P : Token → Type 0) where
  abbrev Named : List Name → Type 0
  Named ns = Each (λ n. P (name_token n)) ns

  both : (ms ns : List Name) → Named ms → Named ns → Named (ms ++ ns)
  both ms ns a b = all_both (λ n. P (name_token n)) ms ns a b

  left : (xs ys : List Token) → Each P (xs ++ ys) → Each P xs
  left xs ys a = all_left P xs ys a

  right : (xs ys : List Token) → Each P (xs ++ ys) → Each P ys
  right xs ys a = all_right P xs ys a

  type_named : (ty : TypeName) (x : Token) → IsType ty x → P x → Named (names_of_type ty)
  type_named Y.Int x s h = tt
  type_named Y.Boolean x s h = tt
  type_named (Y.Class n) x s h = (subst P s h, tt)

  result_named : (r : Option TypeName) (x : Token) → IsResultType r x → P x → Named (names_of_result r)
  result_named None x s h = tt
  result_named (Some ty) x s h = type_named ty x s h

  root_named : (r : Option Name) (at : ℕ) (x : Token) → SpellsRoot r at x → P x → Named (names_of_root r)
  root_named None at x s h = tt
  root_named (Some n) at x s h = (subst P s.0 h, tt)

  fields_named : (ns : List Name) (ts : List Token) → SpellsFields ns ts → Each P ts → Named ns
  fields_named [] ts s a = tt
  fields_named (n ∷ ns) ts s a = let h = subst (Each P) s.3 a in (h.1.0, fields_named ns s.0 s.2 h.1.1)

  lock_named : (l : LockTree) (ts : List Token) → SpellsLock l ts → Each P ts → Named (names_of_lock l)
  lock_named l ts s a =
      let h = subst (Each P) s.4 a in both (names_of_root l.root) l.fields (root_named l.root l.at s.0 s.2 h.0) (fields_named l.fields s.1 s.3 h.1)

  mutual
    expr_named : (e : ExprTree) (ts : List Token) → Spells e ts → Each P ts → Named (names_of_expr e)
    expr_named (NumberE n at) ts s a = tt
    expr_named (LeastE at) ts s a = tt
    expr_named (TruthE b at) ts s a = tt
    expr_named (NullE at) ts s a = tt
    expr_named (ThisE at) ts s a = tt
    expr_named (VarE n) ts s a = ((subst (Each P) s a).0, tt)
    expr_named (ParenE e at) ts s a = expr_named e s.0 s.2 (left s.0 _ (subst (Each P) s.3 a).1)
    expr_named (NotE e at) ts s a = expr_named e s.0 s.1 (subst (Each P) s.3 a).1
    expr_named (NegE e at) ts s a = expr_named e s.0 s.1 (subst (Each P) s.3 a).1
    expr_named (BinaryE op e f at) ts s a = let h = subst (Each P) s.6 a in
        both (names_of_expr e) (names_of_expr f) (expr_named e s.0 s.2 (left s.0 _ h)) (expr_named f s.1 s.3 (right s.0 _ h).1)
    expr_named (GetE e n) ts s a = let h = subst (Each P) s.4 a in
        both (names_of_expr e) (n ∷ []) (expr_named e s.0 s.2 (left s.0 _ h)) ((right s.0 _ h).1.0, tt)
    expr_named (CallE e n args) ts s a = let h = subst (Each P) s.8 a in let r = right s.0 _ h in
        both (names_of_expr e) (n ∷ names_of_exprs args) (expr_named e s.0 s.5 (left s.0 _ h)) (r.1.0, args_named args s.1 s.7 (left s.1 _ r.1.1.1))
    expr_named (NewE n args at) ts s a = let h = subst (Each P) s.4 a in (h.1.0, args_named args s.0 s.3 (left s.0 _ h.1.1.1))

    args_named : (es : ExprTrees) (ts : List Token) → SpellsArgs es ts → Each P ts → Named (names_of_exprs es)
    args_named no_exprs ts s a = tt
    args_named (more_exprs e es) ts s a = let h = subst (Each P) s.4 a in
        both (names_of_expr e) (names_of_exprs es) (expr_named e s.0 s.2 (left s.0 _ h)) (more_args_named es s.1 s.3 (right s.0 _ h))

    more_args_named : (es : ExprTrees) (ts : List Token) → SpellsMoreArgs es ts → Each P ts → Named (names_of_exprs es)
    more_args_named no_exprs ts s a = tt
    more_args_named (more_exprs e es) ts s a = let h = (subst (Each P) s.5 a).1 in
        both (names_of_expr e) (names_of_exprs es) (expr_named e s.0 s.3 (left s.0 _ h)) (more_args_named es s.1 s.4 (right s.0 _ h))

  mutual
    stmt_named : (st : StmtTree) (ts : List Token) → SpellsStmt st ts → Each P ts → Named (names_of_stmt st)
    stmt_named (EmptyS at) ts s a = tt
    stmt_named (BlockS ss at) ts s a = stmts_named ss s.0 s.2 (left s.0 _ (subst (Each P) s.3 a).1)
    stmt_named (LocalS fin ty n e at) ts s a = let h = right s.0 _ (subst (Each P) s.9 a) in
        both (names_of_type ty) (n ∷ names_of_expr e) (type_named ty s.2 s.6 h.0) (h.1.0, expr_named e s.1 s.7 (left s.1 _ h.1.1.1))
    stmt_named (SetVarS n e at) ts s a = let h = subst (Each P) s.3 a in (h.0, expr_named e s.0 s.2 (left s.0 _ h.1.1))
    stmt_named (SetFieldS e n f at) ts s a = let h = subst (Each P) s.7 a in let r = right s.0 _ h in
        both (names_of_expr e) (n ∷ names_of_expr f) (expr_named e s.0 s.4 (left s.0 _ h)) (r.1.0, expr_named f s.1 s.6 (left s.1 _ r.1.1.1))
    stmt_named (DoS e at) ts s a = expr_named e s.0 s.2 (left s.0 _ (subst (Each P) s.5 a))
    stmt_named (IfS e b at) ts s a = let h = (subst (Each P) s.7 a).1.1 in
        both (names_of_expr e) (names_of_stmt b) (expr_named e s.0 s.4 (left s.0 _ h)) (stmt_named b s.1 s.5 (right s.0 _ h).1)
    stmt_named (IfElseS e b c at) ts s a = let h = (subst (Each P) s.12 a).1.1 in let r = (right s.0 _ h).1 in
        both (names_of_expr e) (names_of_stmt b ++ names_of_stmt c) (expr_named e s.0 s.6 (left s.0 _ h))
        (both (names_of_stmt b) (names_of_stmt c) (stmt_named b s.1 s.7 (left s.1 _ r)) (stmt_named c s.2 s.8 (right s.1 _ r).1))
    stmt_named (WhileS e b at) ts s a = let h = (subst (Each P) s.7 a).1.1 in
        both (names_of_expr e) (names_of_stmt b) (expr_named e s.0 s.4 (left s.0 _ h)) (stmt_named b s.1 s.5 (right s.0 _ h).1)
    stmt_named (SyncS l ss at) ts s a = let h = (subst (Each P) s.8 a).1.1 in
        both (names_of_lock l) (names_of_stmts ss) (lock_named l s.0 s.6 (left s.0 _ h)) (stmts_named ss s.1 s.7 (left s.1 _ (right s.0 _ h).1.1))
    stmt_named (ReturnS None at) ts s a = tt
    stmt_named (ReturnS (Some e) at) ts s a = expr_named e s.0 s.2 (left s.0 _ (subst (Each P) s.3 a).1)
    stmt_named (PrintS e at) ts s a = expr_named e s.0 s.8 (left s.0 _ (subst (Each P) s.9 a).1.1.1.1.1.1)
    stmt_named (StartS e at) ts s a = expr_named e s.0 s.9 (left s.0 _ (subst (Each P) s.10 a).1.1.1)

    stmts_named : (ss : StmtTrees) (ts : List Token) → SpellsStmts ss ts → Each P ts → Named (names_of_stmts ss)
    stmts_named no_stmts ts s a = tt
    stmts_named (more_stmts b ss) ts s a = let h = subst (Each P) s.4 a in
        both (names_of_stmt b) (names_of_stmts ss) (stmt_named b s.0 s.2 (left s.0 _ h)) (stmts_named ss s.1 s.3 (right s.0 _ h))

  -- lists of parts that have the law
  module _ {A : Type 0} (Q : A → List Token → Type 0) (names : A → List Name) (law : (x : A) (ts : List Token) → Q x ts → Each P ts → Named (names x)) where
    repeats_named : (xs : List A) (ts : List Token) → Repeats Q xs ts → Each P ts → Named (flat_map names xs)
    repeats_named [] ts s a = tt
    repeats_named (x ∷ xs) ts s a = let h = subst (Each P) s.4 a in
        both (names x) (flat_map names xs) (law x s.0 s.2 (left s.0 _ h)) (repeats_named xs s.1 s.3 (right s.0 _ h))

    follows_named : (xs : List A) (ts : List Token) → Follows Q xs ts → Each P ts → Named (flat_map names xs)
    follows_named [] ts s a = tt
    follows_named (x ∷ xs) ts s a = let h = (subst (Each P) s.5 a).1 in
        both (names x) (flat_map names xs) (law x s.0 s.3 (left s.0 _ h)) (follows_named xs s.1 s.4 (right s.0 _ h))

    separates_named : (xs : List A) (ts : List Token) → Separates Q xs ts → Each P ts → Named (flat_map names xs)
    separates_named [] ts s a = tt
    separates_named (x ∷ xs) ts s a = let h = subst (Each P) s.4 a in
        both (names x) (flat_map names xs) (law x s.0 s.2 (left s.0 _ h)) (follows_named xs s.1 s.3 (right s.0 _ h))

  param_named : (p : Param) (ts : List Token) → SpellsParam p ts → Each P ts → Named (names_of_param p)
  param_named p ts s a = let h = right s.0 _ (subst (Each P) s.4 a) in both (names_of_type p.ty) (p.name ∷ []) (type_named p.ty s.1 s.3 h.0) (h.1.0, tt)

  ctor_param_named : (p : Param) (ts : List Token) → SpellsCtorParam p ts → Each P ts → Named (names_of_param p)
  ctor_param_named p ts s a = let h = right s.0 _ (subst (Each P) s.5 a) in both (names_of_type p.ty) (p.name ∷ []) (type_named p.ty s.1 s.4 h.0) (h.1.0, tt)

  set_named : (p : Name × Name) (ts : List Token) → SpellsSet p ts → Each P ts → Named (names_of_set p)
  set_named p ts s a = let h = subst (Each P) s.4 a in (h.1.1.0, (h.1.1.1.1.0, tt))

  guard_named : (writes_only : Bool) (guard : Option LockTree) (ts : List Token) → SpellsGuard writes_only guard ts → Each P ts → Named (names_of_guard guard)
  guard_named writes_only None ts s a = tt
  guard_named writes_only (Some l) ts s a = lock_named l s.0 s.2 (subst (Each P) s.3 a).1

  requires_named : (ls : List LockTree) (ts : List Token) → SpellsRequires ls ts → Each P ts → Named (flat_map names_of_lock ls)
  requires_named [] ts s a = tt
  requires_named (l ∷ ls) ts s a = separates_named SpellsLock names_of_lock lock_named (l ∷ ls) s.0 s.2 (subst (Each P) s.3 a).1

  field_named : (fin : Bool) (f : FieldTree) (ts : List Token) → SpellsField fin f ts → Each P ts → Named (names_of_field f)
  field_named true f ts s a = let h = (subst (Each P) s.6 a).1 in
      both (names_of_type f.ty) (f.name ∷ names_of_guard f.guard) (type_named f.ty s.0 s.3 h.0) (h.1.0, subst (λ g. Named (names_of_guard g)) (sym s.4) tt)
  field_named false f ts s a = let h = subst (Each P) s.5 a in
      both (names_of_type f.ty) (f.name ∷ names_of_guard f.guard) (type_named f.ty s.0 s.3 h.0)
      (h.1.0, guard_named f.writes_only f.guard s.1 s.4 (left s.1 _ h.1.1))

  bare_named : (m : MemberTree) (ts : List Token) → SpellsBare m ts → Each P ts → Named (names_of_member m)
  bare_named (FieldM f) ts s a = field_named f.is_final f ts s a
  bare_named (CtorM n params sets) ts s a = let h = subst (Each P) s.8 a in (
    h.0,
    both (flat_map names_of_param params) (flat_map names_of_set sets)
        (separates_named SpellsCtorParam names_of_param ctor_param_named params s.0 s.6 (left s.0 _ h.1.1))
        (repeats_named SpellsSet names_of_set set_named sets s.1 s.7 (left s.1 _ (right s.0 _ h.1.1).1.1)),
  )
  bare_named (MethodM m) ts s a =
      let h = right s.0 _ (subst (Each P) s.13 a) in
      let k = h.1.1.1 in
      let r = (right s.1 _ k).1 in
      let params = flat_map names_of_param m.params in
      let locks = flat_map names_of_lock m.locks in
      let body = names_of_stmts m.body in
      both (names_of_result m.returns) (m.name ∷ params ++ (locks ++ body)) (result_named m.returns s.4 s.9 h.0) (
        h.1.0,
        both params (locks ++ body) (separates_named SpellsParam names_of_param param_named m.params s.1 s.10 (left s.1 _ k))
            (both locks body (requires_named m.locks s.2 s.11 (left s.2 _ r)) (stmts_named m.body s.3 s.12 (left s.3 _ (right s.2 _ r).1))),
      )

  member_named : (m : MemberTree) (ts : List Token) → SpellsMember m ts → Each P ts → Named (names_of_member m)
  member_named m ts s a = bare_named m s.1 s.3 (right s.0 _ (subst (Each P) s.4 a))

  extends_named : (above : Option Name) (ts : List Token) → SpellsExtends above ts → Each P ts → Named (names_of_extends above)
  extends_named None ts s a = tt
  extends_named (Some n) ts s a = ((subst (Each P) s.1 a).1.0, tt)

  class_named : (c : ClassTree) (ts : List Token) → SpellsClass c ts → Each P ts → Named (names_of_class c)
  class_named c ts s a = let h = right s.0 _ (subst (Each P) s.11 a) in (
    h.1.0,
    both (names_of_extends c.above) (flat_map names_of_member c.members) (extends_named c.above s.1 s.8 (left s.1 _ h.1.1))
        (repeats_named SpellsMember names_of_member member_named c.members s.3 s.10 (left s.3 _ (right s.2 _ (right s.1 _ h.1.1)).1)),
  )

  program_named : (t : ProgramTree) (ts : List Token) → Wide ts t → Each P ts → Named (names_of_program t)
  program_named t ts s a = repeats_named SpellsClass names_of_class class_named t ts s a

-- what holds of each token of a program holds of each of its names
pub each_name : (P : Token → Type 0) (t : ProgramTree) (ts : List Token) → Wide ts t → All P ts → All (λ n. P (name_token n)) (names_of_program t)
each_name P t ts s a =
    All-from_recursion (λ n. P (name_token n)) (names_of_program t) (program_named P t ts s (recursion_from_All P ts a))

pub names_are_tokens : (t : ProgramTree) (ts : List Token) → Wide ts t → All (λ n. Contains ts (name_token n)) (names_of_program t)
names_are_tokens t ts s = each_name (Contains ts) t ts s (All-contains_itself ts)
