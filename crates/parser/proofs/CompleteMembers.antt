-- What is spelled is read: members, classes and programs.
use Rattle.std.proofs.Common.{◌≡◌, ℕ, ◌<◌, ◌≤◌, ◌+◌, ◌&&◌, not, Bool, true, false, List, [], ◌∷◌, ◌++◌, length, Option, Some, None, Ok, refl, sym, ◌∙◌, ap, subst, append_assoc, append-nil, arith, inl, inr}
use Rattle.std.proofs.Math.Bool.{and-false, and-true}
use Rattle.std.proofs.lemmas.Bool.{cond-false}
use Rattle.lexer.specs.declared.tokens.Token.{Token}
use Rattle.syntax.specs.declared.terminal.Terminal.{Terminal}
use Rattle.syntax.specs.declared.terminal.Terminal.TheVariants as T
use Rattle.syntax.specs.declared.tree.Name.{Name}
use Rattle.syntax.specs.declared.tree.Param.{Param}
use Rattle.syntax.specs.declared.tree.TypeName.{TypeName}
use Rattle.syntax.specs.declared.tree.TypeName.TheVariants as Y
use Rattle.syntax.specs.Grammar.{SpellsStmts, SpellsLock, IsType, IsFlag, IsOptional, IsResultType, SpellsSet, SpellsGuard, SpellsField, SpellsRequires, SpellsBare, SpellsMember, SpellsExtends, SpellsRunnable, SpellsClass, Separates, Follows, Repeats, Wide}
use Rattle.syntax.specs.Heights.{stmt_heights, body_height, highest_member, highest_body}
use Rattle.syntax.specs.Limits.{most_height}
use Rattle.syntax.specs.Tokens.{is, token, name_token}
use Rattle.syntax.proofs.Fields.{final_field as final_tree, mutable_field as mutable_tree, each_field}
use Rattle.syntax.specs.Trees.{LockTree, StmtTrees, MethodTree, FieldTree, MemberTree, FieldM, CtorM, MethodM, ClassTree, ProgramTree}
use Rattle.syntax.specs.Views.{stmts_from}
use Rattle.parser.proofs.FirstTokens.{Same, same, same_along, same_then, same_bind, at_list}
use Rattle.parser.proofs.CompletePlain.{lock_read, type_read}
use Rattle.parser.proofs.CompleteStatements.{block_read, items_read}
use Rattle.parser.proofs.Lists.{shift}
use Rattle.parser.proofs.LoopLaw.{loop_done, loop_more, Takes}
use Rattle.parser.proofs.MemberLoops.{param_takes, lock_takes, set_takes, member_takes, class_takes}
use Rattle.parser.proofs.Members.{ParamL, class_long}
use Rattle.parser.specs.Combine.{Res, ◌>>=◌, starts, first, take_one, flag, flagged, loop, several, separated, item_step, comma_step}
use Rattle.parser.specs.Words.{a_name, field_name, lock, type_name}
use Rattle.parser.specs.Statements.{block_goes_on}
use Rattle.parser.specs.Blocks.{block_at}
use Rattle.parser.specs.Members.{param, param_list, params, required, method_rest, set, ctor_rest, guard, field_rest, typed_rest, final_field, result_type, plain_method, named_member, bare_member, member, extended, runnable, class_at, program}

-- terminals that may stand

flag_off : (t : Terminal) (f : List Token) → starts (is t) f ≡ false → flag t f ≡ (false, f)
flag_off t [] e = refl
flag_off t (x ∷ xs) e = ap (λ b. flagged b (x ∷ xs)) e

flag_read : (t : Terminal) → ((d : ℕ) → is t (token t d) ≡ true) → (b : Bool) (fs f : List Token) → IsFlag t b fs → starts (is t) f ≡ false → flag t (fs ++ f) ≡ (b, f)
flag_read t pass true fs f p e = ap (λ z. flag t (z ++ f)) p.1 ∙ ap (λ b. flagged b (token t p.0 ∷ f)) (pass p.0)
flag_read t pass false fs f p e = ap (λ z. flag t (z ++ f)) p ∙ flag_off t f e

optional_read : (t : Terminal) → ((d : ℕ) → is t (token t d) ≡ true) → (fs f : List Token) → IsOptional t fs → starts (is t) f ≡ false → (b : Bool) × (flag t (fs ++ f) ≡ (b, f))
optional_read t pass fs f (inl p) e = (false, flag_read t pass false fs f p e)
optional_read t pass fs f (inr p) e = (true, flag_read t pass true fs f p e)

-- the first token of a type
type_first : (test : Token → Bool) (v : Bool) → ((d : ℕ) → test (token T.Int d) ≡ v) → ((d : ℕ) → test (token T.Boolean d) ≡ v) → ((n : Name) → test (name_token n) ≡ v)
    → (ty : TypeName) (x : Token) → IsType ty x → test x ≡ v
type_first test v a b c Y.Int x i = ap test i ∙ a x.at
type_first test v a b c Y.Boolean x i = ap test i ∙ b x.at
type_first test v a b c (Y.Class n) x i = ap test i ∙ c n

-- parameters

make_param : Bool → TypeName → Name → Param
make_param b ty n = record { is_final = b; ty = ty; name = n }

-- what is read behind the word `final`
param_tail : Bool → Bool × List Token → Res Param
param_tail of_ctor y = type_name y.1 >>= λ t ts. first a_name ts >>= λ n ts. Ok (make_param (y.0 && not of_ctor) t n, ts)

param_is : (of_ctor : Bool) (ts : List Token) → param of_ctor ts ≡ param_tail of_ctor (flag T.Final ts)
unfolding param param_tail make_param
param_is of_ctor ts = refl

param_tail_read : (of_ctor b : Bool) (ty : TypeName) (x : Token) (n : Name) (f : List Token) → IsType ty x → param_tail of_ctor (b, x ∷ name_token n ∷ f) ≡ Ok (make_param (b && not of_ctor) ty n, f)
unfolding param_tail
param_tail_read of_ctor b ty x n f i = ap (λ r. r >>= λ t ts. first a_name ts >>= λ n ts. Ok (make_param (b && not of_ctor) t n, ts)) (type_read ty x (name_token n ∷ f) i)

param_read : (of_ctor : Bool) (p : Param) (zs f : List Token) → ParamL of_ctor zs p → param of_ctor (zs ++ f) ≡ Ok (p, f)
unfolding make_param
param_read true p zs f s =
    let t = s.1 ∷ name_token p.name ∷ f in
    let o = optional_read T.Final (λ d. refl) s.0 t s.3 (type_first (is T.Final) false (λ d. refl) (λ d. refl) (λ n. refl) p.ty s.1 s.4) in
    ap (λ z. param true (z ++ f)) s.5 ∙ ap (param true) (append_assoc s.0 (s.1 ∷ name_token p.name ∷ []) f) ∙ param_is true (s.0 ++ t) ∙ ap (param_tail true) o.1
    ∙ param_tail_read true o.0 p.ty s.1 p.name f s.4 ∙ ap (λ z. Ok (make_param z p.ty p.name, f)) (and-false o.0 ∙ sym s.2)
param_read false p zs f s =
    let t = s.1 ∷ name_token p.name ∷ f in
    ap (λ z. param false (z ++ f)) s.4 ∙ ap (param false) (append_assoc s.0 (s.1 ∷ name_token p.name ∷ []) f) ∙ param_is false (s.0 ++ t)
    ∙ ap (param_tail false) (flag_read T.Final (λ d. refl) p.is_final s.0 t s.2 (type_first (is T.Final) false (λ d. refl) (λ d. refl) (λ n. refl) p.ty s.1 s.3))
    ∙ param_tail_read false p.is_final p.ty s.1 p.name f s.3 ∙ ap (λ z. Ok (make_param z p.ty p.name, f)) (and-true p.is_final)

-- parts with commas between them
module _ {A : Type 0} (item : List Token → Res A) (P : A → List Token → Type 0) (takes : Takes (is T.Comma) (comma_step item)) (Fine : List Token → Type 0)
    (comma : (d : ℕ) (f : List Token) → Fine (token T.Comma d ∷ f)) (read : (a : A) (xs f : List Token) → P a xs → Fine f → item (xs ++ f) ≡ Ok (a, f)) where
  follows_fine : (rest : List A) (zs f : List Token) → Follows P rest zs → Fine f → Fine (zs ++ f)
  follows_fine [] zs f s c = subst (λ z. Fine (z ++ f)) (sym s) c
  follows_fine (a ∷ rest) zs f s c = subst (λ z. Fine (z ++ f)) (sym s.5) (comma s.2 ((s.0 ++ s.1) ++ f))

  follows_read : (rest so : List A) (zs f : List Token) → Follows P rest zs → Fine f → starts (is T.Comma) f ≡ false
      → loop (is T.Comma) (comma_step item) so (zs ++ f) ≡ Ok (so ++ rest, f)
  follows_read [] so zs f s c e =
      ap (λ z. loop (is T.Comma) (comma_step item) so (z ++ f)) s ∙ loop_done (is T.Comma) (comma_step item) so f e ∙ ap (λ z. Ok (z, f)) (sym (append-nil so))
  follows_read (a ∷ rest) so zs f s c e =
      let go = loop (is T.Comma) (comma_step item) in
      ap (λ z. go so (z ++ f)) s.5 ∙ ap (λ z. go so (token T.Comma s.2 ∷ z)) (append_assoc s.0 s.1 f)
      ∙ loop_more (is T.Comma) (comma_step item) takes so (token T.Comma s.2 ∷ s.0 ++ (s.1 ++ f)) refl
      ∙ ap (λ r. (r >>= λ x ts. Ok (so ++ (x ∷ []), ts)) >>= go) (read a s.0 (s.1 ++ f) s.3 (follows_fine rest s.1 f s.4 c))
      ∙ follows_read rest (so ++ (a ∷ [])) s.1 f s.4 c e ∙ ap (λ z. Ok (z, f)) (shift so a rest)

  separated_read : (a : A) (rest : List A) (zs f : List Token) → Separates P (a ∷ rest) zs → Fine f → starts (is T.Comma) f ≡ false → separated item (zs ++ f) ≡ Ok (a ∷ rest, f)
  separated_read a rest zs f s c e =
      ap (λ z. separated item (z ++ f)) s.4 ∙ ap (separated item) (append_assoc s.0 s.1 f)
      ∙ ap (λ r. r >>= λ x ts. loop (is T.Comma) (comma_step item) (x ∷ []) ts) (read a s.0 (s.1 ++ f) s.2 (follows_fine rest s.1 f s.3 c))
      ∙ follows_read rest (a ∷ []) s.1 f s.3 c e

param_first : (of_ctor : Bool) (p : Param) (zs f : List Token) → ParamL of_ctor zs p → starts (is T.CloseParen) (zs ++ f) ≡ false
param_first true p zs f s =
    ap (λ z. starts (is T.CloseParen) (z ++ f)) s.5 ∙ front s.0 s.3
  where
    front : (fs : List Token) → IsOptional T.Final fs → starts (is T.CloseParen) ((fs ++ (s.1 ∷ name_token p.name ∷ [])) ++ f) ≡ false
    front fs (inl i) = ap (λ z. starts (is T.CloseParen) ((z ++ (s.1 ∷ name_token p.name ∷ [])) ++ f)) i ∙ type_first (is T.CloseParen) false (λ d. refl) (λ d. refl) (λ n. refl) p.ty s.1 s.4
    front fs (inr i) = ap (λ z. starts (is T.CloseParen) ((z ++ (s.1 ∷ name_token p.name ∷ [])) ++ f)) i.1
param_first false p zs f s =
    ap (λ z. starts (is T.CloseParen) (z ++ f)) s.4 ∙ front p.is_final s.0 s.2
  where
    front : (b : Bool) (fs : List Token) → IsFlag T.Final b fs → starts (is T.CloseParen) ((fs ++ (s.1 ∷ name_token p.name ∷ [])) ++ f) ≡ false
    front true fs i = ap (λ z. starts (is T.CloseParen) ((z ++ (s.1 ∷ name_token p.name ∷ [])) ++ f)) i.1
    front false fs i = ap (λ z. starts (is T.CloseParen) ((z ++ (s.1 ∷ name_token p.name ∷ [])) ++ f)) i ∙ type_first (is T.CloseParen) false (λ d. refl) (λ d. refl) (λ n. refl) p.ty s.1 s.3

abbrev Params : Bool → List Param → List Token → Type 0
Params of_ctor ps zs = Separates (λ p zs. ParamL of_ctor zs p) ps zs

param_list_read : (of_ctor : Bool) (ps : List Param) (zs f : List Token) (c : ℕ) → Params of_ctor ps zs → param_list of_ctor (zs ++ (token T.CloseParen c ∷ f)) ≡ Ok (ps, token T.CloseParen c ∷ f)
unfolding param_list
param_list_read of_ctor [] zs f c s = ap (λ z. param_list of_ctor (z ++ (token T.CloseParen c ∷ f))) s
param_list_read of_ctor (p ∷ ps) zs f c s =
    let end1 = token T.CloseParen c ∷ f in
    cond-false (starts (is T.CloseParen) (zs ++ end1)) _ _ (ap (λ z. starts (is T.CloseParen) (z ++ end1)) s.4 ∙ ap (starts (is T.CloseParen)) (append_assoc s.0 s.1 end1) ∙ param_first of_ctor p s.0 (s.1 ++ end1) s.2)
    ∙ separated_read (param of_ctor) (λ p zs. ParamL of_ctor zs p) (param_takes of_ctor) (λ f. Unit {0}) (λ d f. tt) (λ p xs f q _. param_read of_ctor p xs f q) p ps zs end1 s tt refl

params_read : (of_ctor : Bool) (ps : List Param) (zs f : List Token) (o c : ℕ) → Params of_ctor ps zs → params of_ctor (token T.OpenParen o ∷ zs ++ (token T.CloseParen c ∷ f)) ≡ Ok (ps, f)
unfolding params
params_read of_ctor ps zs f o c s = ap (λ r. r >>= λ ps ts. take_one T.CloseParen ts >>= λ c ts. Ok (ps, ts)) (param_list_read of_ctor ps zs f c s)

-- required locks
required_read : (ls : List LockTree) (zs f : List Token) (b : ℕ) → SpellsRequires ls zs → required (zs ++ (token T.OpenBrace b ∷ f)) ≡ Ok (ls, token T.OpenBrace b ∷ f)
unfolding required
required_read [] zs f b s = ap (λ z. required (z ++ (token T.OpenBrace b ∷ f))) s
required_read (l ∷ ls) zs f b s =
    ap (λ z. required (z ++ (token T.OpenBrace b ∷ f))) s.3
    ∙ separated_read lock SpellsLock lock_takes (λ f. starts (is T.Dot) f ≡ false) (λ d f. refl) (λ l xs f p c. lock_read l xs f p c) l ls s.0 (token T.OpenBrace b ∷ f) s.2 refl refl

-- methods
method_read : (atomic : Bool) (returns : Option TypeName) (n : Name) (ps : List Param) (ls : List LockTree) (body : StmtTrees) (xs rs ys f : List Token) (o c b e : ℕ)
    → Params false ps xs → SpellsRequires ls rs → SpellsStmts body ys
    → Same (1 + stmt_heights body ≤ most_height) (method_rest atomic returns n (token T.OpenParen o ∷ xs ++ (token T.CloseParen c ∷ rs ++ (token T.OpenBrace b ∷ ys ++ (token T.CloseBrace e ∷ f)))))
    (Ok (MethodM record { atomic = atomic; returns = returns; name = n; params = ps; locks = ls; body = body; end = e }, f))
unfolding method_rest
method_read atomic returns n ps ls body xs rs ys f o c b e p q s =
    let t = token T.OpenBrace b ∷ ys ++ (token T.CloseBrace e ∷ f) in
    let whole = block_read body (items_read body) most_height ys f b e s in
    let make : List Param → List LockTree → StmtTrees → ℕ → MemberTree = λ ps ls body e. MethodM record { atomic = atomic; returns = returns; name = n; params = ps; locks = ls; body = body; end = e } in
    same_along (ap (λ r. r >>= λ ps ts. required ts >>= λ ls ts. block_at most_height ts >>= λ b ts. Ok (make ps ls (stmts_from b.1) b.2, ts)) (params_read false ps xs (rs ++ t) o c p)
    ∙ ap (λ r. r >>= λ ls ts. block_at most_height ts >>= λ b ts. Ok (make ps ls (stmts_from b.1) b.2, ts)) (required_read ls rs (ys ++ (token T.CloseBrace e ∷ f)) b q))
    (same_bind {low2 = 1 + stmt_heights body ≤ most_height} (λ b ts. Ok (make ps ls (stmts_from b.1) b.2, ts)) (λ q. q) (λ q. q) whole.2
    (same (ap (λ z. Ok (make ps ls z e, f)) whole.1)))

-- parts one after another
module _ {A : Type 0} (item : List Token → Res A) (P : A → List Token → Type 0) (go : Token → Bool) (takes : Takes go (item_step item))
    (low : A → Type 0) (lows : List A → Type 0) (head : (a : A) (rest : List A) → lows (a ∷ rest) → low a) (tail : (a : A) (rest : List A) → lows (a ∷ rest) → lows rest)
    (begins : (a : A) (xs f : List Token) → P a xs → starts go (xs ++ f) ≡ true)
    (read : (a : A) (xs f : List Token) → P a xs → Same (low a) (item (xs ++ f)) (Ok (a, f))) where
  repeats_read : (rest so : List A) (zs f : List Token) → Repeats P rest zs → starts go f ≡ false → Same (lows rest) (loop go (item_step item) so (zs ++ f)) (Ok (so ++ rest, f))
  repeats_read [] so zs f s e =
      same (ap (λ z. loop go (item_step item) so (z ++ f)) s ∙ loop_done go (item_step item) so f e ∙ ap (λ z. Ok (z, f)) (sym (append-nil so)))
  repeats_read (a ∷ rest) so zs f s e =
      at_list (loop go (item_step item) so) (ap (λ z. z ++ f) s.4 ∙ append_assoc s.0 s.1 f)
      (same_along (loop_more go (item_step item) takes so (s.0 ++ (s.1 ++ f)) (begins a s.0 (s.1 ++ f) s.2))
      (same_then
      (same_bind {low2 = lows rest} (loop go (item_step item)) (λ q. q) (λ q. tail a rest q)
      (same_bind {low2 = lows (a ∷ rest)} (λ x ts. Ok (so ++ (x ∷ []), ts)) (λ q. head a rest q) (λ q. q) (read a s.0 (s.1 ++ f) s.2) (same refl))
      (repeats_read rest (so ++ (a ∷ [])) s.1 f s.3 e))
      (ap (λ z. Ok (z, f)) (shift so a rest))))

set_read : (p : Name × Name) (zs f : List Token) → SpellsSet p zs → set (zs ++ f) ≡ Ok (p, f)
unfolding set field_name
set_read p zs f s = ap (λ z. set (z ++ f)) s.4

sets_read : (ss : List (Name × Name)) (zs f : List Token) (c : ℕ) → Repeats SpellsSet ss zs
    → Same (Unit {0}) (loop block_goes_on (item_step set) [] (zs ++ (token T.CloseBrace c ∷ f))) (Ok (ss, token T.CloseBrace c ∷ f))
sets_read ss zs f c s =
    repeats_read set SpellsSet block_goes_on set_takes (λ p. Unit {0}) (λ ps. Unit {0}) (λ a r q. tt) (λ a r q. tt) (λ p xs f q. ap (λ z. starts block_goes_on (z ++ f)) q.4) (λ p xs f q. same (set_read p xs f q))
    ss [] zs (token T.CloseBrace c ∷ f) s refl

-- members

abbrev BareRead : MemberTree → Type 0
BareRead m = (zs f : List Token) → SpellsBare m zs → Same (body_height m ≤ most_height) (bare_member (zs ++ f)) (Ok (m, f))

-- a member that begins with its type
typed_member : (ty : TypeName) (x : Token) (ts : List Token) → IsType ty x → starts (is T.OpenParen) ts ≡ false → bare_member (x ∷ ts) ≡ typed_rest ty ts
unfolding bare_member named_member
typed_member Y.Int x ts i e = ap (λ z. bare_member (z ∷ ts)) i ∙ ap (λ r. r >>= λ t ts. typed_rest t ts) (type_read Y.Int (token T.Int x.at) ts refl)
typed_member Y.Boolean x ts i e = ap (λ z. bare_member (z ∷ ts)) i ∙ ap (λ r. r >>= λ t ts. typed_rest t ts) (type_read Y.Boolean (token T.Boolean x.at) ts refl)
typed_member (Y.Class n) x ts i e = ap (λ z. bare_member (z ∷ ts)) i ∙ cond-false (starts (is T.OpenParen) ts) _ _ e

no_guard : List Token → Bool → Res (Option LockTree × Bool)
no_guard ts writes_only = Ok ((None, writes_only), ts)

guard_read : (w : Bool) (g : Option LockTree) (gs f : List Token) (c : ℕ) → SpellsGuard w g gs
    → guard (gs ++ (token T.Semicolon c ∷ f)) ≡ Ok ((g, w), token T.Semicolon c ∷ f)
unfolding guard no_guard
guard_read w None gs f c s = ap (λ z. guard (z ++ (token T.Semicolon c ∷ f))) s.1 ∙ ap (no_guard (token T.Semicolon c ∷ f)) (sym s.0)
guard_read false (Some l) gs f c s =
    ap (λ z. guard (z ++ (token T.Semicolon c ∷ f))) s.3 ∙ ap (λ r. r >>= λ l ts. Ok ((Some l, false), ts)) (lock_read l s.0 (token T.Semicolon c ∷ f) s.2 refl)
guard_read true (Some l) gs f c s =
    ap (λ z. guard (z ++ (token T.Semicolon c ∷ f))) s.3 ∙ ap (λ r. r >>= λ l ts. Ok ((Some l, true), ts)) (lock_read l s.0 (token T.Semicolon c ∷ f) s.2 refl)

guard_first : (w : Bool) (g : Option LockTree) (gs f : List Token) (c : ℕ) → SpellsGuard w g gs → starts (is T.OpenParen) (gs ++ (token T.Semicolon c ∷ f)) ≡ false
guard_first w None gs f c s = ap (λ z. starts (is T.OpenParen) (z ++ (token T.Semicolon c ∷ f))) s.1
guard_first false (Some l) gs f c s = ap (λ z. starts (is T.OpenParen) (z ++ (token T.Semicolon c ∷ f))) s.3
guard_first true (Some l) gs f c s = ap (λ z. starts (is T.OpenParen) (z ++ (token T.Semicolon c ∷ f))) s.3

read_final : (ty : TypeName) (n : Name) → BareRead (FieldM (final_tree ty n))
unfolding bare_member final_field
read_final ty n zs f s =
    same (ap (λ z. bare_member (z ++ f)) s.6
    ∙ ap (λ r. r >>= λ t ts. first a_name ts >>= λ n ts. take_one T.Semicolon ts >>= λ c ts. Ok (FieldM (final_tree t n), ts)) (type_read ty s.0 (name_token n ∷ token T.Semicolon s.2 ∷ f) s.3))

read_field : (ty : TypeName) (n : Name) (w : Bool) (g : Option LockTree) → BareRead (FieldM (mutable_tree ty n w g))
unfolding typed_rest field_rest
read_field ty n w g zs f s =
    let end1 = token T.Semicolon s.2 ∷ f in
    same (ap (λ z. bare_member (z ++ f)) s.5 ∙ ap (λ z. bare_member (s.0 ∷ name_token n ∷ z)) (append_assoc s.1 (token T.Semicolon s.2 ∷ []) f)
    ∙ typed_member ty s.0 (name_token n ∷ s.1 ++ end1) s.3 refl
    ∙ cond-false (starts (is T.OpenParen) (s.1 ++ end1)) _ _ (guard_first w g s.1 f s.2 s.4)
    ∙ ap (λ r. r >>= λ g ts. take_one T.Semicolon ts >>= λ c ts. Ok (FieldM (mutable_tree ty n g.1 g.0), ts)) (guard_read w g s.1 f s.2 s.4))

read_ctor : (n : Name) (ps : List Param) (ss : List (Name × Name)) → BareRead (CtorM n ps ss)
unfolding bare_member named_member ctor_rest
read_ctor n ps ss zs f s =
    let t = token T.OpenBrace s.4 ∷ s.1 ++ (token T.CloseBrace s.5 ∷ f) in
    at_list bare_member
    (ap (λ z. z ++ f) s.8 ∙ ap (λ z. name_token n ∷ token T.OpenParen s.2 ∷ z) (append_assoc s.0 (token T.CloseParen s.3 ∷ token T.OpenBrace s.4 ∷ s.1 ++ (token T.CloseBrace s.5 ∷ [])) f)
    ∙ ap (λ z. name_token n ∷ token T.OpenParen s.2 ∷ s.0 ++ (token T.CloseParen s.3 ∷ token T.OpenBrace s.4 ∷ z)) (append_assoc s.1 (token T.CloseBrace s.5 ∷ []) f))
    (same_along (ap (λ r. r >>= λ ps ts. take_one T.OpenBrace ts >>= λ b ts. several block_goes_on set ts >>= λ ss ts. take_one T.CloseBrace ts >>= λ c ts. Ok (CtorM n ps ss, ts)) (params_read true ps s.0 t s.2 s.3 s.6))
    (same_bind {low2 = Unit {0}} (λ ss ts. take_one T.CloseBrace ts >>= λ c ts. Ok (CtorM n ps ss, ts)) (λ q. tt) (λ q. tt) (sets_read ss s.1 f s.5 s.7) (same refl)))

result_read : (r : Option TypeName) (x : Token) (f : List Token) → IsResultType r x → result_type (x ∷ f) ≡ Ok (r, f)
unfolding result_type
result_read None x f i = ap (λ z. result_type (z ∷ f)) i
result_read (Some ty) x f i =
    cond-false (is T.Void x) _ _ (type_first (is T.Void) false (λ d. refl) (λ d. refl) (λ n. refl) ty x i) ∙ ap (λ r. r >>= λ t ts. Ok (Some t, ts)) (type_read ty x f i)

plain_is : (atomic : Bool) (r : Option TypeName) (x : Token) (n : Name) (f : List Token) → IsResultType r x → plain_method atomic (x ∷ name_token n ∷ f) ≡ method_rest atomic r n f
unfolding plain_method
plain_is atomic r x n f i = ap (λ r. r >>= λ r ts. first a_name ts >>= λ n ts. method_rest atomic r n ts) (result_read r x (name_token n ∷ f) i)

-- what stands before the parameters of a method
method_front : (atomic : Bool) (r : Option TypeName) (fs : List Token) (x : Token) (n : Name) (o : ℕ) (f : List Token) → IsFlag T.Atomic atomic fs → IsResultType r x
    → bare_member (fs ++ (x ∷ name_token n ∷ token T.OpenParen o ∷ f)) ≡ method_rest atomic r n (token T.OpenParen o ∷ f)
unfolding bare_member typed_rest
method_front true r fs x n o f a i =
    ap (λ z. bare_member (z ++ (x ∷ name_token n ∷ token T.OpenParen o ∷ f))) a.1 ∙ plain_is true r x n (token T.OpenParen o ∷ f) i
method_front false None fs x n o f a i =
    ap (λ z. bare_member (z ++ (x ∷ name_token n ∷ token T.OpenParen o ∷ f))) a ∙ ap (λ z. bare_member (z ∷ name_token n ∷ token T.OpenParen o ∷ f)) i
    ∙ plain_is false None (token T.Void x.at) n (token T.OpenParen o ∷ f) refl
method_front false (Some ty) fs x n o f a i =
    ap (λ z. bare_member (z ++ (x ∷ name_token n ∷ token T.OpenParen o ∷ f))) a ∙ typed_member ty x (name_token n ∷ token T.OpenParen o ∷ f) i refl

read_method : (m : MethodTree) → BareRead (MethodM m)
read_method m zs f s =
    let close = token T.CloseBrace m.end in
    let rest = token T.OpenBrace s.7 ∷ s.3 ++ (close ∷ []) in
    at_list bare_member
    (ap (λ z. z ++ f) s.13 ∙ append_assoc s.0 (s.4 ∷ name_token m.name ∷ token T.OpenParen s.5 ∷ s.1 ++ (token T.CloseParen s.6 ∷ s.2 ++ rest)) f
    ∙ ap (λ z. s.0 ++ (s.4 ∷ name_token m.name ∷ token T.OpenParen s.5 ∷ z)) (append_assoc s.1 (token T.CloseParen s.6 ∷ s.2 ++ rest) f
    ∙ ap (λ z. s.1 ++ (token T.CloseParen s.6 ∷ z)) (append_assoc s.2 rest f ∙ ap (λ z. s.2 ++ (token T.OpenBrace s.7 ∷ z)) (append_assoc s.3 (close ∷ []) f))))
    (same_along (method_front m.atomic m.returns s.0 s.4 m.name s.5 (s.1 ++ (token T.CloseParen s.6 ∷ s.2 ++ (token T.OpenBrace s.7 ∷ s.3 ++ (close ∷ f)))) s.8 s.9)
    (method_read m.atomic m.returns m.name m.params m.locks m.body s.1 s.2 s.3 f s.5 s.6 s.7 m.end s.10 s.11 s.12))

bare_read : (m : MemberTree) → BareRead m
bare_read (FieldM t) = λ zs f s.
    each_field (λ ts m. (f : List Token) → Same (body_height m ≤ most_height) (bare_member (ts ++ f)) (Ok (m, f)))
    (λ ty n ts s f. read_final ty n ts f s) (λ ty n w g ts s f. read_field ty n w g ts f s) t zs s f
bare_read (CtorM n ps ss) = read_ctor n ps ss
bare_read (MethodM m) = read_method m

-- the first tokens of members
module _ (test : Token → Bool) (v : Bool) (final : (d : ℕ) → test (token T.Final d) ≡ v) (int : (d : ℕ) → test (token T.Int d) ≡ v) (boolean : (d : ℕ) → test (token T.Boolean d) ≡ v)
    (name : (n : Name) → test (name_token n) ≡ v) (void : (d : ℕ) → test (token T.Void d) ≡ v) (atomic : (d : ℕ) → test (token T.Atomic d) ≡ v) where
  front_first : (b : Bool) (r : Option TypeName) (fs : List Token) (x : Token) (ys : List Token) → IsFlag T.Atomic b fs → IsResultType r x → starts test (fs ++ (x ∷ ys)) ≡ v
  front_first true r fs x ys a i = ap (λ z. starts test (z ++ (x ∷ ys))) a.1 ∙ atomic a.0
  front_first false None fs x ys a i = ap (λ z. starts test (z ++ (x ∷ ys))) a ∙ ap test i ∙ void x.at
  front_first false (Some ty) fs x ys a i = ap (λ z. starts test (z ++ (x ∷ ys))) a ∙ type_first test v int boolean name ty x i

  field_first : (fin : Bool) (t : FieldTree) (zs f : List Token) → SpellsField fin t zs → starts test (zs ++ f) ≡ v
  field_first true t zs f s = ap (λ z. starts test (z ++ f)) s.6 ∙ final s.1
  field_first false t zs f s = ap (λ z. starts test (z ++ f)) s.5 ∙ type_first test v int boolean name t.ty s.0 s.3

  bare_first : (m : MemberTree) (zs f : List Token) → SpellsBare m zs → starts test (zs ++ f) ≡ v
  bare_first (FieldM t) zs f s = field_first t.is_final t zs f s
  bare_first (CtorM n ps ss) zs f s = ap (λ z. starts test (z ++ f)) s.8 ∙ name n
  bare_first (MethodM m) zs f s =
      let t = name_token m.name ∷ token T.OpenParen s.5 ∷ s.1 ++ (token T.CloseParen s.6 ∷ s.2 ++ (token T.OpenBrace s.7 ∷ s.3 ++ (token T.CloseBrace m.end ∷ []))) in
      ap (λ z. starts test (z ++ f)) s.13 ∙ ap (starts test) (append_assoc s.0 (s.4 ∷ t) f) ∙ front_first m.atomic m.returns s.0 s.4 (t ++ f) s.8 s.9

no_public : (m : MemberTree) (zs f : List Token) → SpellsBare m zs → starts (is T.Public) (zs ++ f) ≡ false
no_public = bare_first (is T.Public) false (λ d. refl) (λ d. refl) (λ d. refl) (λ n. refl) (λ d. refl) (λ d. refl)

bare_goes_on : (m : MemberTree) (zs f : List Token) → SpellsBare m zs → starts block_goes_on (zs ++ f) ≡ true
bare_goes_on = bare_first block_goes_on true (λ d. refl) (λ d. refl) (λ d. refl) (λ n. refl) (λ d. refl) (λ d. refl)

member_goes_on : (m : MemberTree) (zs f : List Token) → SpellsMember m zs → starts block_goes_on (zs ++ f) ≡ true
member_goes_on m zs f s = ap (λ z. starts block_goes_on (z ++ f)) s.4 ∙ front s.0 s.2
  where
    front : (ps : List Token) → IsOptional T.Public ps → starts block_goes_on ((ps ++ s.1) ++ f) ≡ true
    front ps (inl i) = ap (λ z. starts block_goes_on ((z ++ s.1) ++ f)) i ∙ bare_goes_on m s.1 f s.3
    front ps (inr i) = ap (λ z. starts block_goes_on ((z ++ s.1) ++ f)) i.1

member_tail : Bool × List Token → Res MemberTree
member_tail y = bare_member y.1

member_is : (ts : List Token) → member ts ≡ member_tail (flag T.Public ts)
unfolding member member_tail
member_is ts = refl

member_read : (m : MemberTree) (zs f : List Token) → SpellsMember m zs → Same (body_height m ≤ most_height) (member (zs ++ f)) (Ok (m, f))
unfolding member_tail
member_read m zs f s =
    let o = optional_read T.Public (λ d. refl) s.0 (s.1 ++ f) s.2 (no_public m s.1 f s.3) in
    at_list member (ap (λ z. z ++ f) s.4 ∙ append_assoc s.0 s.1 f)
    (same_along (member_is (s.0 ++ (s.1 ++ f)) ∙ ap member_tail o.1) (bare_read m s.1 f s.3))

members_read : (ms : List MemberTree) (zs f : List Token) (c : ℕ) → Repeats SpellsMember ms zs
    → Same (highest_member ms ≤ most_height) (loop block_goes_on (item_step member) [] (zs ++ (token T.CloseBrace c ∷ f))) (Ok (ms, token T.CloseBrace c ∷ f))
members_read ms zs f c s =
    repeats_read member SpellsMember block_goes_on member_takes (λ m. body_height m ≤ most_height) (λ ms. highest_member ms ≤ most_height) (λ a r q. omega (arith, q)) (λ a r q. omega (arith, q))
    member_goes_on member_read ms [] zs (token T.CloseBrace c ∷ f) s refl

runnable_read : (r : Bool) (rs f : List Token) (b : ℕ) → SpellsRunnable r rs → runnable (rs ++ (token T.OpenBrace b ∷ f)) ≡ Ok (r, token T.OpenBrace b ∷ f)
unfolding runnable
runnable_read true rs f b s = ap (λ z. runnable (z ++ (token T.OpenBrace b ∷ f))) s.2
runnable_read false rs f b s = ap (λ z. runnable (z ++ (token T.OpenBrace b ∷ f))) s

extended_read : (above : Option Name) (es f : List Token) → SpellsExtends above es → starts (is T.Extends) f ≡ false → extended (es ++ f) ≡ Ok (above, f)
unfolding extended
extended_read (Some n) es f s e = ap (λ z. extended (z ++ f)) s.1
extended_read None es f s e = ap (λ z. extended (z ++ f)) s ∙ cond-false (starts (is T.Extends) f) _ _ e

-- what stands behind the name of a class doesn't begin with `extends` again
no_extends : (r : Bool) (rs f : List Token) (b : ℕ) → SpellsRunnable r rs → starts (is T.Extends) (rs ++ (token T.OpenBrace b ∷ f)) ≡ false
no_extends true rs f b s = ap (λ z. starts (is T.Extends) (z ++ (token T.OpenBrace b ∷ f))) s.2
no_extends false rs f b s = ap (λ z. starts (is T.Extends) (z ++ (token T.OpenBrace b ∷ f))) s

make_class : Name → Option Name → Bool → List MemberTree → ClassTree
make_class n above r ms = record { name = n; above = above; runnable = r; members = ms }

class_tail : Bool × List Token → Res ClassTree
class_tail y =
    take_one T.Class y.1 >>= λ c ts. first a_name ts >>= λ n ts. extended ts >>= λ above ts. runnable ts >>= λ r ts.
    take_one T.OpenBrace ts >>= λ b ts. several block_goes_on member ts >>= λ ms ts. take_one T.CloseBrace ts >>= λ e ts. Ok (make_class n above r ms, ts)

class_is : (ts : List Token) → class_at ts ≡ class_tail (flag T.Public ts)
unfolding class_at class_tail make_class
class_is ts = refl

class_read : (c : ClassTree) (zs f : List Token) → SpellsClass c zs → Same (highest_member c.members ≤ most_height) (class_at (zs ++ f)) (Ok (c, f))
unfolding class_tail make_class
class_read c zs f s =
    let close = token T.CloseBrace s.6 in
    let t = s.3 ++ (close ∷ f) in
    let u = s.2 ++ (token T.OpenBrace s.5 ∷ t) in
    let v = token T.Class s.4 ∷ name_token c.name ∷ s.1 ++ u in
    let o = optional_read T.Public (λ d. refl) s.0 v s.7 refl in
    let ends = token T.OpenBrace s.5 ∷ s.3 ++ (close ∷ []) in
    at_list class_at
    (ap (λ z. z ++ f) s.11 ∙ append_assoc s.0 (token T.Class s.4 ∷ name_token c.name ∷ s.1 ++ (s.2 ++ ends)) f
    ∙ ap (λ z. s.0 ++ (token T.Class s.4 ∷ name_token c.name ∷ z)) (append_assoc s.1 (s.2 ++ ends) f
    ∙ ap (λ z. s.1 ++ z) (append_assoc s.2 ends f ∙ ap (λ z. s.2 ++ (token T.OpenBrace s.5 ∷ z)) (append_assoc s.3 (close ∷ []) f))))
    (same_along (class_is (s.0 ++ v) ∙ ap class_tail o.1
    ∙ ap (λ r. r >>= λ a ts. runnable ts >>= λ r ts. take_one T.OpenBrace ts >>= λ b ts. several block_goes_on member ts >>= λ ms ts. take_one T.CloseBrace ts >>= λ e ts. Ok (make_class c.name a r ms, ts))
    (extended_read c.above s.1 u s.8 (no_extends c.runnable s.2 t s.5 s.9))
    ∙ ap (λ r. r >>= λ r ts. take_one T.OpenBrace ts >>= λ b ts. several block_goes_on member ts >>= λ ms ts. take_one T.CloseBrace ts >>= λ e ts. Ok (make_class c.name c.above r ms, ts))
    (runnable_read c.runnable s.2 t s.5 s.9))
    (same_bind {low2 = highest_member c.members ≤ most_height} (λ ms ts. take_one T.CloseBrace ts >>= λ e ts. Ok (make_class c.name c.above c.runnable ms, ts)) (λ q. q) (λ q. q) (members_read c.members s.3 f s.6 s.10) (same refl)))

any_first : (zs f : List Token) → 0 < length zs → starts (λ x. true) (zs ++ f) ≡ true
any_first [] f h = absurd (omega (arith, h))
any_first (x ∷ zs) f h = refl

-- every program that is spelled is read, or is too deep
pub program_read : (t : ProgramTree) (ts : List Token) → Wide ts t → Same (highest_body t ≤ most_height) (program ts) (Ok (t, []))
unfolding program
program_read t ts s =
    at_list program (sym (append-nil ts))
    (repeats_read class_at SpellsClass (λ x. true) class_takes (λ c. highest_member c.members ≤ most_height) (λ t. highest_body t ≤ most_height) (λ a r q. omega (arith, q)) (λ a r q. omega (arith, q))
    (λ c xs f p. any_first xs f (class_long xs c p)) class_read t [] ts [] s refl)
