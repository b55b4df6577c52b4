-- What is spelled is read: locks, types, and statements without statements in them.
use Rattle.std.proofs.Common.{◌≡◌, ℕ, ◌<◌, ◌≤◌, ◌&&◌, nat_lt, Bool, true, false, List, [], ◌∷◌, ◌++◌, length, Option, Some, None, Ok, Err, refl, sym, ◌∙◌, ap, subst, append_assoc, append-nil, arith}
use Rattle.std.proofs.lemmas.Bool.{ltb-false, cond-false, cond-true, and_right}
use Rattle.lexer.specs.declared.tokens.Token.{Token}
use Rattle.syntax.specs.declared.terminal.Terminal.TheVariants as T
use Rattle.syntax.specs.declared.tree.Name.{Name}
use Rattle.syntax.specs.declared.tree.TypeName.{TypeName}
use Rattle.syntax.specs.declared.tree.TypeName.TheVariants as Y
use Rattle.syntax.specs.Grammar.{Spells, SpellsStmt, SpellsLock, SpellsFields, SpellsRoot, IsType, IsFlag, is_postfix, may_be_statement, is_local, offset}
use Rattle.syntax.specs.Heights.{height, stmt_height}
use Rattle.syntax.specs.Tokens.{is, token, name_token, number_token}
use Rattle.syntax.specs.Trees.{LockTree, ExprTree, NumberE, LeastE, TruthE, NullE, ThisE, VarE, ParenE, NotE, NegE, BinaryE, GetE, CallE, NewE, StmtTree, EmptyS, LocalS, SetVarS, SetFieldS, DoS, ReturnS, PrintS, StartS}
use Rattle.parser.proofs.FirstTokens.{Same, same, same_along, same_weaker, same_then, same_bind, same_allow, at_list, calm_close, calm_semicolon, no_semicolon}
use Rattle.parser.proofs.Complete.{reads, reads_any}
use Rattle.parser.proofs.Expressions.{spelled_long}
use Rattle.parser.proofs.Lists.{shift}
use Rattle.parser.proofs.Loops.{member_done}
use Rattle.parser.proofs.Fields.{field_more, field_done}
use Rattle.parser.proofs.PlainStatements.{first_is}
use Rattle.parser.specs.Combine.{Res, ◌>>=◌, starts, take_one, loop, item_step}
use Rattle.parser.specs.Words.{is_name, field_name, lock, type_name}
use Rattle.syntax.specs.Offsets.{first_at}
use Rattle.parser.specs.Expressions.{leaf, below, dots, primary, new_rest, postfix}
use Rattle.parser.specs.Statements.{begins_local, condition, return_statement, print_statement, start_rest, assign, assigned, local_rest, local_statement, call_end, target, finish, finish_from, new_statement, name_statement, expression_statement, plain_statement}

-- locks

fields_read : (ns so : List Name) (fs f : List Token) → SpellsFields ns fs → starts (is T.Dot) f ≡ false
    → loop (is T.Dot) (item_step field_name) so (fs ++ f) ≡ Ok (so ++ ns, f)
unfolding field_name
fields_read [] so fs f s c =
    ap (λ z. loop (is T.Dot) (item_step field_name) so (z ++ f)) s ∙ field_done so f c ∙ ap (λ z. Ok (z, f)) (sym (append-nil so))
fields_read (n ∷ ns) so fs f s c =
    ap (λ z. loop (is T.Dot) (item_step field_name) so (z ++ f)) s.3 ∙ field_more so (token T.Dot s.1 ∷ name_token n ∷ s.0 ++ f) refl
    ∙ fields_read ns (so ++ (n ∷ [])) s.0 f s.2 c ∙ ap (λ z. Ok (z, f)) (shift so n ns)

pub lock_read : (l : LockTree) (ls f : List Token) → SpellsLock l ls → starts (is T.Dot) f ≡ false → lock (ls ++ f) ≡ Ok (l, f)
unfolding lock
lock_read l ls f s c = root l.root l.at refl refl s.2
  where
    root : (r : Option Name) (at : ℕ) → l.root ≡ r → l.at ≡ at → SpellsRoot r at s.0 → lock (ls ++ f) ≡ Ok (l, f)
    root None at e i x =
        ap (λ z. lock (z ++ f)) (s.4 ∙ ap (λ z. z ∷ s.1) x)
        ∙ ap (λ r. r >>= λ fs ts. Ok (record { root = None; fields = fs; at = at }, ts)) (fields_read l.fields [] s.1 f s.3 c)
        ∙ ap (λ z. Ok (record { root = z; fields = l.fields; at = at }, f)) (sym e) ∙ ap (λ z. Ok (record { root = l.root; fields = l.fields; at = z }, f)) (sym i)
    root (Some n) at e i x =
        ap (λ z. lock (z ++ f)) (s.4 ∙ ap (λ z. z ∷ s.1) x.0)
        ∙ ap (λ r. r >>= λ fs ts. Ok (record { root = Some n; fields = fs; at = n.at }, ts)) (fields_read l.fields [] s.1 f s.3 c)
        ∙ ap (λ z. Ok (record { root = z; fields = l.fields; at = n.at }, f)) (sym e) ∙ ap (λ z. Ok (record { root = l.root; fields = l.fields; at = z }, f)) (sym (i ∙ x.1))

-- types

pub type_read : (ty : TypeName) (x : Token) (f : List Token) → IsType ty x → type_name (x ∷ f) ≡ Ok (ty, f)
unfolding type_name
type_read Y.Int x f i = ap (λ z. type_name (z ∷ f)) i
type_read Y.Boolean x f i = ap (λ z. type_name (z ∷ f)) i
type_read (Y.Class n) x f i = ap (λ z. type_name (z ∷ f)) i

module _ (h : ℕ) (some : 0 < h) where
  -- an expression in parentheses
  pub condition_read : (e : ExprTree) (xs f : List Token) (o c : ℕ) → Spells e xs
      → Same (height e < h) (condition h (token T.OpenParen o ∷ xs ++ (token T.CloseParen c ∷ f))) (Ok (e, f))
  unfolding condition
  condition_read e xs f o c s =
      same_bind {low2 = height e < h} (λ e ts. take_one T.CloseParen ts >>= λ c ts. Ok (e, ts)) (λ q. q) (λ q. q)
      (reads_any e (reads e) h some xs (token T.CloseParen c ∷ f) s (calm_close 6 c f)) (same refl)

  -- `= expr ;`
  assign_read : (make : ExprTree → ℕ → StmtTree) (v : ExprTree) (ys f : List Token) (d c : ℕ) → Spells v ys
      → Same (height v < h) (assign h make (token T.Assign d ∷ ys ++ (token T.Semicolon c ∷ f))) (Ok (make v d, f))
  unfolding assign assigned
  assign_read make v ys f d c s =
      same_bind {low2 = height v < h} (λ v ts. Ok (make v.0 v.1, ts)) (λ q. q) (λ q. q)
      (same_bind {low2 = height v < h} (λ v ts. take_one T.Semicolon ts >>= λ c ts. Ok ((v, d), ts)) (λ q. q) (λ q. q)
      (reads_any v (reads v) h some ys (token T.Semicolon c ∷ f) s (calm_semicolon 6 c f)) (same refl))
      (same refl)

  abbrev pub PlainRead : StmtTree → List Token → List Token → Type 0
  PlainRead s zs f = (in_block : Bool) → (in_block ≡ false → is_local s ≡ false) → Same (stmt_height s ≤ h) (plain_statement h in_block (zs ++ f)) (Ok (s, f))

  pub read_empty : (at : ℕ) (zs f : List Token) → SpellsStmt (EmptyS at) zs → PlainRead (EmptyS at) zs f
  unfolding plain_statement
  read_empty at zs f s b l = at_list (plain_statement h b) (ap (λ z. z ++ f) s) (same refl)

  pub read_return : (e : Option ExprTree) (at : ℕ) (zs f : List Token) → SpellsStmt (ReturnS e at) zs → PlainRead (ReturnS e at) zs f
  unfolding plain_statement return_statement
  read_return None at zs f s b l = at_list (plain_statement h b) (ap (λ z. z ++ f) s.1) (same refl)
  read_return (Some e) at zs f s b l =
      let end1 = token T.Semicolon s.1 in
      at_list (plain_statement h b) (ap (λ z. z ++ f) s.3 ∙ ap (λ z. token T.Return at ∷ z) (append_assoc s.0 (end1 ∷ []) f))
      (same_along (cond-false (starts (is T.Semicolon) (s.0 ++ (end1 ∷ f))) _ _ (no_semicolon e s.0 (end1 ∷ f) s.2))
      (same_bind {low2 = stmt_height (ReturnS (Some e) at) ≤ h} (λ e ts. take_one T.Semicolon ts >>= λ c ts. Ok (ReturnS (Some e) at, ts)) (λ q. omega (arith, q)) (λ q. q)
      (reads_any e (reads e) h some s.0 (end1 ∷ f) s.2 (calm_semicolon 6 s.1 f)) (same refl)))

  pub read_print : (e : ExprTree) (at : ℕ) (zs f : List Token) → SpellsStmt (PrintS e at) zs → PlainRead (PrintS e at) zs f
  unfolding plain_statement print_statement
  read_print e at zs f s b l =
      let close = token T.CloseParen s.6 in
      let end1 = token T.Semicolon s.7 in
      at_list (plain_statement h b) (ap (λ z. z ++ f) s.9 ∙ ap (λ z. token T.System at ∷ token T.Dot s.1 ∷ token T.Out s.2 ∷ token T.Dot s.3 ∷ token T.Println s.4 ∷ token T.OpenParen s.5 ∷ z) (append_assoc s.0 (close ∷ end1 ∷ []) f))
      (same_bind {low2 = stmt_height (PrintS e at) ≤ h} (λ v ts. take_one T.Semicolon ts >>= λ c ts. Ok (PrintS v at, ts)) (λ q. omega (arith, q)) (λ q. q)
      (condition_read e s.0 (end1 ∷ f) s.5 s.6 s.8) (same refl))

  pub read_start : (e : ExprTree) (at : ℕ) (zs f : List Token) → SpellsStmt (StartS e at) zs → PlainRead (StartS e at) zs f
  unfolding plain_statement new_statement start_rest
  read_start e at zs f s b l =
      let end1 = token T.Dot s.4 ∷ token T.Start s.5 ∷ token T.OpenParen s.6 ∷ token T.CloseParen s.7 ∷ token T.Semicolon s.8 ∷ [] in
      at_list (plain_statement h b) (ap (λ z. z ++ f) s.10 ∙ ap (λ z. token T.New at ∷ token T.Thread s.1 ∷ token T.OpenParen s.2 ∷ z) (append_assoc s.0 (token T.CloseParen s.3 ∷ end1) f))
      (same_bind {low2 = stmt_height (StartS e at) ≤ h} (λ v ts. take_one T.Dot ts >>= λ d ts. take_one T.Start ts >>= λ s ts. take_one T.OpenParen ts >>= λ o ts. take_one T.CloseParen ts >>= λ c ts. take_one T.Semicolon ts >>= λ e ts. Ok (StartS v at, ts))
      (λ q. omega (arith, q)) (λ q. q) (condition_read e s.0 (end1 ++ f) s.2 s.3 s.9) (same refl))

  local_rest_read : (fin : Bool) (ty : TypeName) (at : ℕ) (n : Name) (v : ExprTree) (ys f : List Token) (d c : ℕ) → Spells v ys
      → Same (stmt_height (LocalS fin ty n v at) ≤ h) (local_rest h fin ty at (name_token n ∷ token T.Assign d ∷ ys ++ (token T.Semicolon c ∷ f))) (Ok (LocalS fin ty n v at, f))
  unfolding local_rest
  local_rest_read fin ty at n v ys f d c s = same_weaker (λ q. omega (arith, q)) (assign_read (λ v d. LocalS fin ty n v at) v ys f d c s)

  -- a declaration, by its `final` and its type
  local_read : (fin : Bool) (ty : TypeName) (at : ℕ) (n : Name) (v : ExprTree) (fs ys f : List Token) (x : Token) (d c : ℕ) → IsFlag T.Final fin fs → IsType ty x → Spells v ys
      → at ≡ offset (fs ++ (x ∷ [])) → Same (stmt_height (LocalS fin ty n v at) ≤ h) (plain_statement h true (fs ++ (x ∷ name_token n ∷ token T.Assign d ∷ ys ++ (token T.Semicolon c ∷ f)))) (Ok (LocalS fin ty n v at, f))
  unfolding plain_statement local_statement name_statement
  local_read true ty at n v fs ys f x d c p i s a =
      let end1 = name_token n ∷ token T.Assign d ∷ ys ++ (token T.Semicolon c ∷ f) in
      let same_at : p.0 ≡ at = sym (a ∙ ap (λ z. offset (z ++ (x ∷ []))) p.1) in
      at_list (plain_statement h true) (ap (λ z. z ++ (x ∷ end1)) p.1)
      (same_along (ap (λ r. r >>= λ t ts. local_rest h true t p.0 ts) (type_read ty x end1 i))
      (subst (λ z. Same (stmt_height (LocalS true ty n v at) ≤ h) (local_rest h true ty z end1) (Ok (LocalS true ty n v at, f))) (sym same_at) (local_rest_read true ty at n v ys f d c s)))
  local_read false Y.Int at n v fs ys f x d c p i s a =
      let end1 = name_token n ∷ token T.Assign d ∷ ys ++ (token T.Semicolon c ∷ f) in
      let same_at : x.at ≡ at = sym (a ∙ ap (λ z. offset (z ++ (x ∷ []))) p) in
      at_list (plain_statement h true) (ap (λ z. z ++ (x ∷ end1)) p ∙ ap (λ z. z ∷ end1) i)
      (subst (λ z. Same (stmt_height (LocalS false Y.Int n v at) ≤ h) (local_rest h false Y.Int z end1) (Ok (LocalS false Y.Int n v at, f))) (sym same_at) (local_rest_read false Y.Int at n v ys f d c s))
  local_read false Y.Boolean at n v fs ys f x d c p i s a =
      let end1 = name_token n ∷ token T.Assign d ∷ ys ++ (token T.Semicolon c ∷ f) in
      let same_at : x.at ≡ at = sym (a ∙ ap (λ z. offset (z ++ (x ∷ []))) p) in
      at_list (plain_statement h true) (ap (λ z. z ++ (x ∷ end1)) p ∙ ap (λ z. z ∷ end1) i)
      (subst (λ z. Same (stmt_height (LocalS false Y.Boolean n v at) ≤ h) (local_rest h false Y.Boolean z end1) (Ok (LocalS false Y.Boolean n v at, f))) (sym same_at) (local_rest_read false Y.Boolean at n v ys f d c s))
  local_read false (Y.Class m) at n v fs ys f x d c p i s a =
      let end1 = name_token n ∷ token T.Assign d ∷ ys ++ (token T.Semicolon c ∷ f) in
      let same_at : m.at ≡ at = sym (a ∙ ap (λ z. offset (z ++ (x ∷ []))) p ∙ ap (λ z. z.at) i) in
      at_list (plain_statement h true) (ap (λ z. z ++ (x ∷ end1)) p ∙ ap (λ z. z ∷ end1) i)
      (subst (λ z. Same (stmt_height (LocalS false (Y.Class m) n v at) ≤ h) (local_rest h false (Y.Class m) z end1) (Ok (LocalS false (Y.Class m) n v at, f))) (sym same_at) (local_rest_read false (Y.Class m) at n v ys f d c s))

  offset_same : (fs ys : List Token) (x : Token) → offset (fs ++ (x ∷ ys)) ≡ offset (fs ++ (x ∷ []))
  offset_same [] ys x = refl
  offset_same (y ∷ fs) ys x = refl

  pub read_local : (fin : Bool) (ty : TypeName) (n : Name) (v : ExprTree) (at : ℕ) (zs f : List Token) → SpellsStmt (LocalS fin ty n v at) zs → PlainRead (LocalS fin ty n v at) zs f
  read_local fin ty n v at zs f s true l =
      let end1 = name_token n ∷ token T.Assign s.3 ∷ s.1 ++ (token T.Semicolon s.4 ∷ []) in
      at_list (plain_statement h true) (ap (λ z. z ++ f) s.9 ∙ append_assoc s.0 (s.2 ∷ end1) f ∙ ap (λ z. s.0 ++ (s.2 ∷ name_token n ∷ token T.Assign s.3 ∷ z)) (append_assoc s.1 (token T.Semicolon s.4 ∷ []) f))
      (local_read fin ty at n v s.0 s.1 f s.2 s.3 s.4 s.5 s.6 s.7 (s.8 ∙ ap offset s.9 ∙ offset_same s.0 end1 s.2))
  read_local fin ty n v at zs f s false l = absurd (let k = l refl in cc)

  -- statements that begin with a postfix

  bind_assoc : {A B C : Type 0} (r : Res A) (f : A → List Token → Res B) (g : B → List Token → Res C) → ((r >>= f) >>= g) ≡ (r >>= λ a ts. f a ts >>= g)
  bind_assoc (Ok y) f g = refl
  bind_assoc (Err e) f g = refl

  starts_and : (b : Bool) (test : Token → Bool) (ts : List Token) → starts test ts ≡ false → starts (λ x. b && test x) ts ≡ false
  starts_and b test [] e = refl
  starts_and b test (x ∷ xs) e = and_right b (test x) e

  plain_other : (b : Bool) (x : Token) (xs : List Token) → is T.Semicolon x ≡ false → is T.Return x ≡ false → is T.System x ≡ false → is T.New x ≡ false
      → is_name x ≡ false → begins_local x ≡ false → plain_statement h b (x ∷ xs) ≡ (postfix h (below h) (x ∷ xs) >>= finish h)
  unfolding plain_statement expression_statement finish_from postfix
  plain_other b x xs e1 e2 e3 e4 e5 e6 =
      cond-false (is T.Semicolon x) _ _ e1 ∙ cond-false (is T.Return x) _ _ e2 ∙ cond-false (is T.System x) _ _ e3 ∙ cond-false (is T.New x) _ _ e4
      ∙ cond-false (is_name x) _ _ e5 ∙ cond-false (b && begins_local x) _ _ (and_right b (begins_local x) e6)
      ∙ sym (bind_assoc (primary h (below h) (x ∷ xs)) (dots h (below h)) (finish h))

  as_postfix : (p : ExprTree) (b : Bool) (zs f : List Token) → Spells p zs → is_postfix p ≡ true → starts is_name f ≡ false
      → plain_statement h b (zs ++ f) ≡ (postfix h (below h) (zs ++ f) >>= finish h)
  unfolding plain_statement name_statement new_statement finish_from postfix primary leaf
  as_postfix (NumberE n at) b zs f s p c = subst (λ z. plain_statement h b (z ++ f) ≡ (postfix h (below h) (z ++ f) >>= finish h)) (sym s.2) (plain_other b (number_token n s.0 at) f refl refl refl refl refl refl)
  as_postfix (LeastE at) b zs f s p c = cc
  as_postfix (TruthE true at) b zs f s p c = subst (λ z. plain_statement h b (z ++ f) ≡ (postfix h (below h) (z ++ f) >>= finish h)) (sym s) (plain_other b (token T.True at) f refl refl refl refl refl refl)
  as_postfix (TruthE false at) b zs f s p c = subst (λ z. plain_statement h b (z ++ f) ≡ (postfix h (below h) (z ++ f) >>= finish h)) (sym s) (plain_other b (token T.False at) f refl refl refl refl refl refl)
  as_postfix (NullE at) b zs f s p c = subst (λ z. plain_statement h b (z ++ f) ≡ (postfix h (below h) (z ++ f) >>= finish h)) (sym s) (plain_other b (token T.Null at) f refl refl refl refl refl refl)
  as_postfix (ThisE at) b zs f s p c = subst (λ z. plain_statement h b (z ++ f) ≡ (postfix h (below h) (z ++ f) >>= finish h)) (sym s) (plain_other b (token T.This at) f refl refl refl refl refl refl)
  as_postfix (VarE n) b zs f s p c = subst (λ z. plain_statement h b (z ++ f) ≡ (postfix h (below h) (z ++ f) >>= finish h)) (sym s) (cond-false (starts (λ x. b && is_name x) f) _ _ (starts_and b is_name f c))
  as_postfix (ParenE e at) b zs f s p c = subst (λ z. plain_statement h b (z ++ f) ≡ (postfix h (below h) (z ++ f) >>= finish h)) (sym s.3)
      (plain_other b (token T.OpenParen at) ((s.0 ++ (token T.CloseParen s.1 ∷ [])) ++ f) refl refl refl refl refl refl)
  as_postfix (NotE e at) b zs f s p c = cc
  as_postfix (NegE e at) b zs f s p c = cc
  as_postfix (BinaryE o e g at) b zs f s p c = cc
  as_postfix (GetE e n) b zs f s p c =
      let t = token T.Dot s.1 ∷ name_token n ∷ [] in
      subst (λ z. plain_statement h b z ≡ (postfix h (below h) z >>= finish h)) (sym (ap (λ z. z ++ f) s.4 ∙ append_assoc s.0 t f))
      (as_postfix e b s.0 (t ++ f) s.2 s.3 refl)
  as_postfix (CallE e n args) b zs f s p c =
      let t = token T.Dot s.2 ∷ name_token n ∷ token T.OpenParen s.3 ∷ s.1 ++ (token T.CloseParen s.4 ∷ []) in
      subst (λ z. plain_statement h b z ≡ (postfix h (below h) z >>= finish h)) (sym (ap (λ z. z ++ f) s.8 ∙ append_assoc s.0 t f))
      (as_postfix e b s.0 (t ++ f) s.5 s.6 refl)
  as_postfix (NewE n args at) b zs f s p c = subst (λ z. plain_statement h b (z ++ f) ≡ (postfix h (below h) (z ++ f) >>= finish h)) (sym s.4)
      (sym (bind_assoc (new_rest h (below h) at (name_token n ∷ token T.OpenParen s.1 ∷ (s.0 ++ (token T.CloseParen s.2 ∷ [])) ++ f)) (dots h (below h)) (finish h)))

  post_read : {low : Type 0} {r : Res StmtTree} (p : ExprTree) (b : Bool) (zs f : List Token) → Spells p zs → is_postfix p ≡ true → starts is_name f ≡ false
      → starts (is T.OpenParen) f ≡ false → starts (is T.Dot) f ≡ false → (low → height p ≤ h) → Same low (finish h p f) r → Same low (plain_statement h b (zs ++ f)) r
  unfolding dots
  post_read {low} p b zs f s i no_name no_paren no_dot l g =
      same_along (as_postfix p b zs f s i no_name)
      (same_bind {low2 = low} (finish h) l (λ q. q) (same_then ((reads p).postfix i h some zs f s no_paren) (member_done h p f no_dot)) g)

  pub read_set_var : (n : Name) (v : ExprTree) (at : ℕ) (zs f : List Token) → SpellsStmt (SetVarS n v at) zs → PlainRead (SetVarS n v at) zs f
  unfolding finish
  read_set_var n v at zs f s b l =
      let t = token T.Assign at ∷ s.0 ++ (token T.Semicolon s.1 ∷ f) in
      at_list (plain_statement h b) (ap (λ z. z ++ f) s.3 ∙ ap (λ z. name_token n ∷ token T.Assign at ∷ z) (append_assoc s.0 (token T.Semicolon s.1 ∷ []) f))
      (post_read (VarE n) b (name_token n ∷ []) t refl refl refl refl refl (λ q. omega (arith, some))
      (same_weaker (λ q. omega (arith, q)) (assign_read (SetVarS n) v s.0 f at s.1 s.2)))

  pub read_set_field : (e : ExprTree) (n : Name) (v : ExprTree) (at : ℕ) (zs f : List Token) → SpellsStmt (SetFieldS e n v at) zs → PlainRead (SetFieldS e n v at) zs f
  unfolding finish
  read_set_field e n v at zs f s b l =
      let t = token T.Assign at ∷ s.1 ++ (token T.Semicolon s.3 ∷ f) in
      let front = token T.Dot s.2 ∷ name_token n ∷ [] in
      at_list (plain_statement h b)
      (ap (λ z. z ++ f) s.7 ∙ append_assoc s.0 (token T.Dot s.2 ∷ name_token n ∷ token T.Assign at ∷ s.1 ++ (token T.Semicolon s.3 ∷ [])) f
      ∙ ap (λ z. s.0 ++ (token T.Dot s.2 ∷ name_token n ∷ token T.Assign at ∷ z)) (append_assoc s.1 (token T.Semicolon s.3 ∷ []) f)
      ∙ sym (append_assoc s.0 front t))
      (post_read (GetE e n) b (s.0 ++ front) t (s.0, s.2, s.4, s.5, refl) refl refl refl refl (λ q. omega (arith, q))
      (same_weaker (λ q. omega (arith, q)) (assign_read (SetFieldS e n) v s.1 f at s.3 s.6)))

  call_postfix : (e : ExprTree) → may_be_statement e ≡ true → is_postfix e ≡ true
  call_postfix (NumberE n at) c = cc
  call_postfix (LeastE at) c = cc
  call_postfix (TruthE b at) c = cc
  call_postfix (NullE at) c = cc
  call_postfix (ThisE at) c = cc
  call_postfix (VarE n) c = cc
  call_postfix (ParenE e at) c = cc
  call_postfix (NotE e at) c = cc
  call_postfix (NegE e at) c = cc
  call_postfix (BinaryE o e f at) c = cc
  call_postfix (GetE e n) c = cc
  call_postfix (CallE e n args) c = refl
  call_postfix (NewE n args at) c = refl

  offset_left : (xs ys : List Token) → 0 < length xs → offset (xs ++ ys) ≡ offset xs
  offset_left [] ys p = absurd (omega (arith, p))
  offset_left (x ∷ xs) ys p = refl

  pub read_do : (e : ExprTree) (at : ℕ) (zs f : List Token) → SpellsStmt (DoS e at) zs → PlainRead (DoS e at) zs f
  unfolding finish call_end
  read_do e at zs f s b l =
      let end1 = token T.Semicolon s.1 in
      let place : first_at e ≡ at = first_is e s.0 s.2 ∙ sym (offset_left s.0 (end1 ∷ []) (spelled_long e s.0 s.2)) ∙ sym (ap offset s.5) ∙ sym s.4 in
      at_list (plain_statement h b) (ap (λ z. z ++ f) s.5 ∙ append_assoc s.0 (end1 ∷ []) f)
      (post_read e b s.0 (end1 ∷ f) s.2 (call_postfix e s.3) refl refl refl (λ q. omega (arith, q))
      (same_along (cond-true (may_be_statement e) (call_end h e (end1 ∷ f)) (target h e (end1 ∷ f)) s.3)
      (same_allow (nat_lt (height e) h) (end1 ∷ f) (λ i q. let k : h ≤ height e = ltb-false (height e) h i in omega (arith, k, q)) (λ i. same (ap (λ z. Ok (DoS e z, f)) place)))))
