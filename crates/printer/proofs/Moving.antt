-- The tokens of a tree at other offsets are related by the grammar to a tree that differs in offsets alone.
use Rattle.std.proofs.Common.{◌≡◌, ℕ, suc, Bool, true, false, List, [], ◌∷◌, ◌++◌, map, Option, Some, None, inl, refl, ap, ap₂, sym, ◌∙◌, subst}
use Rattle.std.specs.Option.{option_map}
use Rattle.lexer.specs.declared.tokens.Token.{Token}
use Rattle.syntax.specs.declared.terminal.Terminal.TheVariants as T
use Rattle.syntax.specs.declared.tree.Name.{Name}
use Rattle.syntax.specs.declared.tree.Param.{Param}
use Rattle.syntax.specs.declared.tree.TypeName.{TypeName}
use Rattle.syntax.specs.Grammar.{SpellsLock, Repeats, Follows, Separates, SpellsParam, SpellsCtorParam, SpellsSet, SpellsGuard, SpellsFinalField, SpellsMutableField, SpellsRequires, SpellsBare, SpellsMember, SpellsExtends, SpellsRunnable, SpellsClass, Wide}
use Rattle.printer.specs.Layout.{PlainToken, Fixed, plain_token_at}
use Rattle.printer.specs.Printing.{all_lexemes, further_lexemes, listed_lexemes, flag_lexemes, name_lexeme, type_lexeme, result_lexeme, lock_lexemes, stmts_lexemes, param_lexemes, set_lexemes, guard_lexemes, requires_lexemes, member_lexemes, runnable_lexemes, extends_lexemes, class_lexemes, program_lexemes}
use Rattle.printer.specs.Reprinted.{AreLexemes}
use Rattle.syntax.specs.Tokens.{token, name_token, guard_word}
use Rattle.syntax.specs.Trees.{LockTree, MemberTree, FieldM, CtorM, MethodM, ClassTree, ProgramTree}
use Rattle.syntax.proofs.Fields.{final_field, mutable_field, each_field}
use Rattle.printer.specs.Unplaced.{bare_name, bare_type, bare_lock, bare_stmts, bare_param, bare_set, bare_member, bare_class, without_offsets}
use Rattle.printer.proofs.Placing.{placed, after, placed_both, Known, front, back, together, spelled, named, Law}
use Rattle.printer.proofs.MovingExprs.{flag_known, flag_placed, type_law, result_law, lock_law}
use Rattle.printer.proofs.MovingStmts.{end_of, close_of, stmts_law}

pub repeats_law : {A : Type 0} (R : A → List Token → Type 0) (g : A → List PlainToken) (bare : A → A) → ((a : A) (ts : List Token) → R a ts → Known ts → Law R g bare a)
    → (all : List A) (ts : List Token) → Repeats R all ts → Known ts → Law (Repeats R) (all_lexemes g) (map bare) all
repeats_law {A} R g bare law [] ts eq kn = record { known = tt; moved = λ f k. ([], refl, refl) }
repeats_law {A} R g bare law (a ∷ rest) ts (xs, ys, s, u, eq) kn =
    let kn2 = subst Known eq kn in
    let l = law a xs s (front xs ys kn2) in
    let r = repeats_law R g bare law rest ys u (back xs ys kn2) in
    record {
      known = together (g a) (all_lexemes g rest) l.known r.known;
      moved = λ f k. let m = l.moved f k in let q = r.moved f (after k (g a)) in
          (m.0 ∷ q.0, (placed f k (g a), placed f (after k (g a)) (all_lexemes g rest), m.1, q.1, placed_both f k (g a) (all_lexemes g rest)), ap₂ (λ x y. x ∷ y) m.2 q.2);
    }

pub follows_law : {A : Type 0} (R : A → List Token → Type 0) (g : A → List PlainToken) (bare : A → A) → ((a : A) (ts : List Token) → R a ts → Known ts → Law R g bare a)
    → (all : List A) (ts : List Token) → Follows R all ts → Known ts → Law (Follows R) (further_lexemes g) (map bare) all
follows_law {A} R g bare law [] ts eq kn = record { known = tt; moved = λ f k. ([], refl, refl) }
follows_law {A} R g bare law (a ∷ rest) ts (xs, ys, d, s, u, eq) kn =
    let kn2 = (subst Known eq kn).1 in
    let l = law a xs s (front xs ys kn2) in
    let r = follows_law R g bare law rest ys u (back xs ys kn2) in
    record {
      known = (spelled T.Comma, together (g a) (further_lexemes g rest) l.known r.known);
      moved = λ f k. let m = l.moved f (suc k) in let q = r.moved f (after (suc k) (g a)) in (
        m.0 ∷ q.0,
        (placed f (suc k) (g a), placed f (after (suc k) (g a)) (further_lexemes g rest), f k, m.1, q.1, ap (λ z. token T.Comma (f k) ∷ z) (placed_both f (suc k) (g a) (further_lexemes g rest))),
        ap₂ (λ x y. x ∷ y) m.2 q.2,
      );
    }

pub separates_law : {A : Type 0} (R : A → List Token → Type 0) (g : A → List PlainToken) (bare : A → A) → ((a : A) (ts : List Token) → R a ts → Known ts → Law R g bare a)
    → (all : List A) (ts : List Token) → Separates R all ts → Known ts → Law (Separates R) (listed_lexemes g) (map bare) all
separates_law {A} R g bare law [] ts eq kn = record { known = tt; moved = λ f k. ([], refl, refl) }
separates_law {A} R g bare law (a ∷ rest) ts (xs, ys, s, u, eq) kn =
    let kn2 = subst Known eq kn in
    let l = law a xs s (front xs ys kn2) in
    let r = follows_law R g bare law rest ys u (back xs ys kn2) in
    record {
      known = together (g a) (further_lexemes g rest) l.known r.known;
      moved = λ f k. let m = l.moved f k in let q = r.moved f (after k (g a)) in
          (m.0 ∷ q.0, (placed f k (g a), placed f (after k (g a)) (further_lexemes g rest), m.1, q.1, placed_both f k (g a) (further_lexemes g rest)), ap₂ (λ x y. x ∷ y) m.2 q.2);
    }

pub param_law : (p : Param) (ts : List Token) → SpellsParam p ts → Known ts → Law SpellsParam (param_lexemes true) bare_param p
param_law p ts (fs, x, fl, t, eq) kn =
    let kn2 = back fs (x ∷ name_token p.name ∷ []) (subst Known eq kn) in
    let a = type_law p.ty x t kn2.0 in
    let rest = type_lexeme p.ty ∷ name_lexeme p.name ∷ [] in
    record {
      known = together (flag_lexemes T.Final p.is_final) rest (flag_known T.Final p.is_final) (a.known, (kn2.1.0, tt));
      moved = λ f k. let j = after k (flag_lexemes T.Final p.is_final) in let b = a.moved (f j) in (
        record { is_final = p.is_final; ty = b.0; name = named p.name (f (suc j)) },
        (placed f k (flag_lexemes T.Final p.is_final), plain_token_at (f j) (type_lexeme p.ty), flag_placed T.Final p.is_final f k, b.1, placed_both f k (flag_lexemes T.Final p.is_final) rest),
        ap (λ z. record { is_final = p.is_final; ty = z; name = bare_name p.name }) b.2,
      );
    }

pub ctor_param_law : (p : Param) (ts : List Token) → SpellsCtorParam p ts → Known ts → Law SpellsCtorParam (param_lexemes false) bare_param p
ctor_param_law p ts (fs, x, plain, o, t, eq) kn =
    let kn2 = back fs (x ∷ name_token p.name ∷ []) (subst Known eq kn) in
    let a = type_law p.ty x t kn2.0 in
    record {
      known = (a.known, (kn2.1.0, tt));
      moved = λ f k. let b = a.moved (f k) in (
        record { is_final = false; ty = b.0; name = named p.name (f (suc k)) },
        ([], plain_token_at (f k) (type_lexeme p.ty), refl, inl refl, b.1, refl),
        ap₂ (λ y z. record { is_final = y; ty = z; name = bare_name p.name }) (sym plain) b.2,
      );
    }

pub set_law : (p : Name × Name) (ts : List Token) → SpellsSet p ts → Known ts → Law SpellsSet set_lexemes bare_set p
set_law p ts (t, d, e, c, eq) kn =
    let kn2 = subst Known eq kn in
    record {
      known = (spelled T.This, (spelled T.Dot, (kn2.1.1.0, (spelled T.Assign, (kn2.1.1.1.1.0, (spelled T.Semicolon, tt))))));
      moved = λ f k. let k2 = suc (suc k) in let k4 = suc (suc k2) in
          ((named p.0 (f k2), named p.1 (f k4)), (f k, f (suc k), f (suc k2), f (suc k4), refl), refl);
    }

pub guard_law : (writes_only : Bool) (guard : Option LockTree) (ts : List Token) → SpellsGuard writes_only guard ts → Known ts
    → Law (SpellsGuard writes_only) (guard_lexemes writes_only) (option_map bare_lock) guard
guard_law writes_only None ts (is, s) kn = record { known = tt; moved = λ f k. (None, (is, refl), refl) }
guard_law writes_only (Some l) ts (xs, d, s, eq) kn =
    let a = lock_law l xs s (subst Known eq kn).1 in
    record {
      known = (spelled (guard_word writes_only), a.known);
      moved = λ f k. let m = a.moved f (suc k) in (Some m.0, (placed f (suc k) (lock_lexemes l), f k, m.1, refl), ap Some m.2);
    }

pub requires_from : (l : LockTree) (ls bs : List LockTree) (o : ℕ) (zs : List Token) → Separates SpellsLock bs zs → map bare_lock bs ≡ map bare_lock (l ∷ ls)
    → (b : List LockTree) × SpellsRequires b (token T.Requires o ∷ zs) × (map bare_lock b ≡ map bare_lock (l ∷ ls))
requires_from l ls [] o zs s e = absurd (cc)
requires_from l ls (b ∷ bs) o zs s e = (b ∷ bs, (zs, o, s, refl), e)

pub requires_law : (locks : List LockTree) (ts : List Token) → SpellsRequires locks ts → Known ts → Law SpellsRequires requires_lexemes (map bare_lock) locks
requires_law [] ts s kn = record { known = tt; moved = λ f k. ([], refl, refl) }
requires_law (l ∷ ls) ts (xs, d, s, eq) kn =
    let a = separates_law SpellsLock lock_lexemes bare_lock lock_law (l ∷ ls) xs s (subst Known eq kn).1 in
    record {
      known = (spelled T.Requires, a.known);
      moved = λ f k. let m = a.moved f (suc k) in requires_from l ls m.0 (f k) (placed f (suc k) (listed_lexemes lock_lexemes (l ∷ ls))) m.1 m.2;
    }

abbrev pub IsLawful : List Token → MemberTree → Type 0
IsLawful ts m = Known ts → Law SpellsBare member_lexemes bare_member m

pub final_law : (ty : TypeName) (n : Name) (ts : List Token) → SpellsFinalField (final_field ty n) ts → IsLawful ts (FieldM (final_field ty n))
final_law ty n ts (x, d, c, t, g, w, eq) kn =
    let kn2 = (subst Known eq kn).1 in
    let a = type_law ty x t kn2.0 in
    record {
      known = (spelled T.Final, (a.known, (kn2.1.0, (spelled T.Semicolon, tt))));
      moved = λ f k. let j = suc k in let b = a.moved (f j) in (
        FieldM (final_field b.0 (named n (f (suc j)))),
        (plain_token_at (f j) (type_lexeme ty), f k, f (suc (suc j)), b.1, refl, refl, refl),
        ap (λ z. FieldM (final_field z (bare_name n))) b.2,
      );
    }

pub mutable_law : (ty : TypeName) (n : Name) (writes_only : Bool) (guard : Option LockTree) (ts : List Token)
    → SpellsMutableField (mutable_field ty n writes_only guard) ts → IsLawful ts (FieldM (mutable_field ty n writes_only guard))
mutable_law ty n writes_only guard ts (x, gs, c, t, g, eq) kn =
    let kn2 = subst Known eq kn in
    let a = type_law ty x t kn2.0 in
    let l = guard_law writes_only guard gs g (front gs (token T.Semicolon c ∷ []) kn2.1.1) in
    let guards = guard_lexemes writes_only guard in
    record {
      known = (a.known, (kn2.1.0, together guards end_of l.known (spelled T.Semicolon, tt)));
      moved = λ f k. let i = suc (suc k) in let b = a.moved (f k) in let m = l.moved f i in (
        FieldM (mutable_field b.0 (named n (f (suc k))) writes_only m.0),
        (
          plain_token_at (f k) (type_lexeme ty),
          placed f i guards,
          f (after i guards),
          b.1,
          m.1,
          ap (λ z. plain_token_at (f k) (type_lexeme ty) ∷ name_token (named n (f (suc k))) ∷ z) (placed_both f i guards end_of),
        ),
        ap₂ (λ y z. FieldM (mutable_field y (bare_name n) writes_only z)) b.2 m.2,
      );
    }

pub bare_law : (m : MemberTree) (ts : List Token) → SpellsBare m ts → IsLawful ts m
bare_law (FieldM t) ts s = each_field IsLawful final_law mutable_law t ts s
bare_law (CtorM n params sets) ts (xs, ys, o, c, b, d, ps, ss, eq) = λ kn.
    let kn2 = subst Known eq kn in
    let tail = token T.CloseParen c ∷ token T.OpenBrace b ∷ ys ++ (token T.CloseBrace d ∷ []) in
    let l = separates_law SpellsCtorParam (param_lexemes false) bare_param ctor_param_law params xs ps (front xs tail kn2.1.1) in
    let r = repeats_law SpellsSet set_lexemes bare_set set_law sets ys ss (front ys (token T.CloseBrace d ∷ []) (back xs tail kn2.1.1).1.1) in
    let listed = listed_lexemes (param_lexemes false) params in
    let body = all_lexemes set_lexemes sets in
    let rest = Fixed T.CloseParen ∷ Fixed T.OpenBrace ∷ body ++ close_of in
    record {
      known = (kn2.0, (spelled T.OpenParen, together listed rest l.known (spelled T.CloseParen, (spelled T.OpenBrace, together body close_of r.known (spelled T.CloseBrace, tt)))));
      moved = λ f k. let i = suc (suc k) in let j = after i listed in let h = suc (suc j) in let m = l.moved f i in let q = r.moved f h in (
        CtorM (named n (f k)) m.0 q.0,
        (
          placed f i listed,
          placed f h body,
          f (suc k),
          f j,
          f (suc j),
          f (after h body),
          m.1,
          q.1,
          ap (λ z. name_token (named n (f k)) ∷ token T.OpenParen (f (suc k)) ∷ z)
              (placed_both f i listed rest ∙ ap (λ z. placed f i listed ++ (token T.CloseParen (f j) ∷ token T.OpenBrace (f (suc j)) ∷ z)) (placed_both f h body close_of)),
        ),
        ap₂ (λ y z. CtorM (bare_name n) y z) m.2 q.2,
      );
    }
bare_law (MethodM m) ts (fs, xs, rs, ys, x, o, c, b, fl, ty, ps, rq, ss, eq) = λ kn.
    let inner = token T.OpenBrace b ∷ ys ++ (token T.CloseBrace m.end ∷ []) in
    let tail = token T.CloseParen c ∷ rs ++ inner in
    let kn2 = back fs (x ∷ name_token m.name ∷ token T.OpenParen o ∷ xs ++ tail) (subst Known eq kn) in
    let kn3 = kn2.1.1.1 in
    let kn4 = (back xs tail kn3).1 in
    let a = result_law m.returns x ty kn2.0 in
    let l = separates_law SpellsParam (param_lexemes true) bare_param param_law m.params xs ps (front xs tail kn3) in
    let r = requires_law m.locks rs rq (front rs inner kn4) in
    let w = stmts_law m.body ys ss (front ys (token T.CloseBrace m.end ∷ []) (back rs inner kn4).1) in
    let flags = flag_lexemes T.Atomic m.atomic in
    let listed = listed_lexemes (param_lexemes true) m.params in
    let needs = requires_lexemes m.locks in
    let body = stmts_lexemes m.body in
    let block = Fixed T.OpenBrace ∷ body ++ close_of in
    let behind = Fixed T.CloseParen ∷ needs ++ block in
    let rest = result_lexeme m.returns ∷ name_lexeme m.name ∷ Fixed T.OpenParen ∷ listed ++ behind in
    record {
      known = together flags rest (flag_known T.Atomic m.atomic)
          (a.known, (kn2.1.0, (spelled T.OpenParen, together listed behind l.known (spelled T.CloseParen, together needs block r.known (spelled T.OpenBrace, together body close_of w.known (spelled T.CloseBrace, tt))))));
      moved = λ f k.
          let j = after k flags in
          let i = suc (suc (suc j)) in
          let h = after i listed in
          let g = after (suc h) needs in
          let e = after (suc g) body in
          let t = a.moved (f j) in
          let n = l.moved f i in
          let q = r.moved f (suc h) in
          let v = w.moved f (suc g) in (
            MethodM record { atomic = m.atomic; returns = t.0; name = named m.name (f (suc j)); params = n.0; locks = q.0; body = v.0; end = f e },
            (
              placed f k flags,
              placed f i listed,
              placed f (suc h) needs,
              placed f (suc g) body,
              plain_token_at (f j) (result_lexeme m.returns),
              f (suc (suc j)),
              f h,
              f g,
              flag_placed T.Atomic m.atomic f k,
              t.1,
              n.1,
              q.1,
              v.1,
              placed_both f k flags rest
                  ∙ ap (λ z. placed f k flags ++ (plain_token_at (f j) (result_lexeme m.returns) ∷ name_token (named m.name (f (suc j))) ∷ token T.OpenParen (f (suc (suc j))) ∷ z))
                  (placed_both f i listed behind
                  ∙ ap (λ z. placed f i listed ++ (token T.CloseParen (f h) ∷ z))
                  (placed_both f (suc h) needs block ∙ ap (λ z. placed f (suc h) needs ++ (token T.OpenBrace (f g) ∷ z)) (placed_both f (suc g) body close_of))),
            ),
            ap₂ (λ y z. MethodM record { atomic = m.atomic; returns = y; name = bare_name m.name; params = z; locks = map bare_lock q.0; body = bare_stmts v.0; end = 0 }) t.2 n.2
                ∙ ap₂ (λ y z. MethodM record { atomic = m.atomic; returns = option_map bare_type m.returns; name = bare_name m.name; params = map bare_param m.params; locks = y; body = z; end = 0 }) q.2 v.2,
          );
    }

pub member_law : (m : MemberTree) (ts : List Token) → SpellsMember m ts → Known ts → Law SpellsMember member_lexemes bare_member m
member_law m ts (ps, xs, o, s, eq) kn =
    let l = bare_law m xs s (back ps xs (subst Known eq kn)) in
    record { known = l.known; moved = λ f k. let b = l.moved f k in (b.0, ([], placed f k (member_lexemes m), inl refl, b.1, refl), b.2) }

pub runnable_known : (runnable : Bool) → AreLexemes (runnable_lexemes runnable)
runnable_known true = (spelled T.Implements, (spelled T.Runnable, tt))
runnable_known false = tt

pub runnable_placed : (runnable : Bool) (f : ℕ → ℕ) (k : ℕ) → SpellsRunnable runnable (placed f k (runnable_lexemes runnable))
runnable_placed true f k = (f k, f (suc k), refl)
runnable_placed false f k = refl

extends_law : (above : Option Name) (ts : List Token) → SpellsExtends above ts → Known ts → Law SpellsExtends extends_lexemes (option_map bare_name) above
extends_law None ts s kn = record { known = tt; moved = λ f k. (None, refl, refl) }
extends_law (Some n) ts s kn =
    let kn2 = subst Known s.1 kn in
    record { known = (spelled T.Extends, (kn2.1.0, tt)); moved = λ f k. (Some (named n (f (suc k))), (f k, refl), refl) }

pub class_law : (c : ClassTree) (ts : List Token) → SpellsClass c ts → Known ts → Law SpellsClass class_lexemes bare_class c
class_law c ts (ps, es, rs, xs, d, b, e, o, en, rn, ms, eq) kn =
    let inner = token T.OpenBrace b ∷ xs ++ (token T.CloseBrace e ∷ []) in
    let kn2 = (back ps (token T.Class d ∷ name_token c.name ∷ es ++ (rs ++ inner)) (subst Known eq kn)).1 in
    let x = extends_law c.above es en (front es (rs ++ inner) kn2.1) in
    let kn3 = back rs inner (back es (rs ++ inner) kn2.1) in
    let l = repeats_law SpellsMember member_lexemes bare_member member_law c.members xs ms (front xs (token T.CloseBrace e ∷ []) kn3.1) in
    let ups = extends_lexemes c.above in
    let runs = runnable_lexemes c.runnable in
    let body = all_lexemes member_lexemes c.members in
    let block = Fixed T.OpenBrace ∷ body ++ close_of in
    record {
      known = (
        spelled T.Class,
        (kn2.0, together ups (runs ++ block) x.known (together runs block (runnable_known c.runnable) (spelled T.OpenBrace, together body close_of l.known (spelled T.CloseBrace, tt)))),
      );
      moved = λ f k. let h = suc (suc k) in let u = x.moved f h in let i = after h ups in let j = after i runs in let m = l.moved f (suc j) in (
        record { name = named c.name (f (suc k)); above = u.0; runnable = c.runnable; members = m.0 },
        (
          [],
          placed f h ups,
          placed f i runs,
          placed f (suc j) body,
          f k,
          f j,
          f (after (suc j) body),
          inl refl,
          u.1,
          runnable_placed c.runnable f i,
          m.1,
          ap (λ z. token T.Class (f k) ∷ name_token (named c.name (f (suc k))) ∷ z)
              (placed_both f h ups (runs ++ block)
              ∙ ap (λ z. placed f h ups ++ z)
              (placed_both f i runs block ∙ ap (λ z. placed f i runs ++ (token T.OpenBrace (f j) ∷ z)) (placed_both f (suc j) body close_of))),
        ),
        ap₂ (λ y z. record { name = bare_name c.name; above = y; runnable = c.runnable; members = z }) u.2 m.2,
      );
    }

pub program_law : (t : ProgramTree) (ts : List Token) → Wide ts t → Known ts → Law (Repeats SpellsClass) program_lexemes without_offsets t
program_law t ts s kn = let l = repeats_law SpellsClass class_lexemes bare_class class_law t ts s kn in record { known = l.known; moved = l.moved }
