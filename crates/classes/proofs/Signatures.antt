-- Signatures: what equals the same is equal, the other way round, and each has its own.
use Rattle.std.proofs.Common.{◌≡◌, ℕ, Bool, true, false, not, ◌&&◌, ◌||◌, ◌==◌, List, [], ◌∷◌, Option, Some, None, refl, sym, subst, ◌∙◌, bytes_eq, is_some, inl, inr}
use Rattle.std.specs.List.{list_any}
use Rattle.std.proofs.lemmas.Bool.{and_parts, and_from, or_cases, or_left, or_right, eqb-true, eq-eqb}
use Rattle.std.proofs.lemmas.Slice.Eq.{bytes_eq-Decides}
use Rattle.syntax.specs.declared.tree.Param.{Param}
use Rattle.syntax.specs.declared.tree.TypeName.{TypeName}
use Rattle.syntax.specs.declared.tree.TypeName.TheVariants as Y
use Rattle.classes.specs.Members.{is_same_type}
use Rattle.classes.specs.Overriding.{FieldPlace, LockMeaning, Signature, are_same_places, is_same_lock, are_among, same_where_known, same_mark, are_alike, is_same_result, is_same_signature}

pub wrong : {X : Type 0} → false ≡ true → X
wrong e = absurd (let f : false ≡ true = e in cc)

-- ---- the parts of a signature: what equals the same is equal

bytes_chain : (xs ys zs : List ℕ) → bytes_eq xs ys ≡ true → bytes_eq ys zs ≡ true → bytes_eq xs zs ≡ true
bytes_chain xs ys zs first second = subst (λ l. bytes_eq l zs ≡ true) (sym ((bytes_eq-Decides xs ys).0 first)) second

mark_chain : (a b c : Bool) → same_mark a b ≡ true → same_mark b c ≡ true → same_mark a c ≡ true
mark_chain true true c first second = second
mark_chain true false c first second = wrong first
mark_chain false true c first second = wrong first
mark_chain false false c first second = second

type_chain : (t u v : TypeName) → is_same_type t u ≡ true → is_same_type u v ≡ true → is_same_type t v ≡ true
type_chain Y.Int Y.Int v first second = second
type_chain Y.Int Y.Boolean v first second = wrong first
type_chain Y.Int (Y.Class n) v first second = wrong first
type_chain Y.Boolean Y.Int v first second = wrong first
type_chain Y.Boolean Y.Boolean v first second = second
type_chain Y.Boolean (Y.Class n) v first second = wrong first
type_chain (Y.Class m) Y.Int v first second = wrong first
type_chain (Y.Class m) Y.Boolean v first second = wrong first
type_chain (Y.Class m) (Y.Class n) Y.Int first second = wrong second
type_chain (Y.Class m) (Y.Class n) Y.Boolean first second = wrong second
type_chain (Y.Class m) (Y.Class n) (Y.Class o) first second = bytes_chain m.text n.text o.text first second

result_chain : (t u v : Option TypeName) → is_same_result t u ≡ true → is_same_result u v ≡ true → is_same_result t v ≡ true
result_chain None None v first second = second
result_chain None (Some u) v first second = wrong first
result_chain (Some t) None v first second = wrong first
result_chain (Some t) (Some u) None first second = wrong second
result_chain (Some t) (Some u) (Some v) first second = type_chain t u v first second

params_chain : (ps qs rs : List Param) → are_alike ps qs ≡ true → are_alike qs rs ≡ true → are_alike ps rs ≡ true
params_chain [] [] rs first second = second
params_chain [] (q ∷ qs) rs first second = wrong first
params_chain (p ∷ ps) [] rs first second = wrong first
params_chain (p ∷ ps) (q ∷ qs) [] first second = wrong second
params_chain (p ∷ ps) (q ∷ qs) (r ∷ rs) first second =
    let a = and_parts (same_mark p.is_final q.is_final) (is_same_type p.ty q.ty && are_alike ps qs) first in
    let b = and_parts (is_same_type p.ty q.ty) (are_alike ps qs) a.1 in
    let c = and_parts (same_mark q.is_final r.is_final) (is_same_type q.ty r.ty && are_alike qs rs) second in
    let d = and_parts (is_same_type q.ty r.ty) (are_alike qs rs) c.1 in
    and_from (same_mark p.is_final r.is_final) (is_same_type p.ty r.ty && are_alike ps rs) (mark_chain p.is_final q.is_final r.is_final a.0 c.0)
    (and_from (is_same_type p.ty r.ty) (are_alike ps rs) (type_chain p.ty q.ty r.ty b.0 d.0) (params_chain ps qs rs b.1 d.1))

number_chain : (a b c : ℕ) → (a == b) ≡ true → (b == c) ≡ true → (a == c) ≡ true
number_chain a b c first second = eq-eqb a c (eqb-true a b first ∙ eqb-true b c second)

places_chain : (fs gs hs : List FieldPlace) → are_same_places fs gs ≡ true → are_same_places gs hs ≡ true → are_same_places fs hs ≡ true
places_chain [] [] hs first second = second
places_chain [] (g ∷ gs) hs first second = wrong first
places_chain (f ∷ fs) [] hs first second = wrong first
places_chain (f ∷ fs) (g ∷ gs) [] first second = wrong second
places_chain (f ∷ fs) (g ∷ gs) (h ∷ hs) first second =
    let a = and_parts (f.class == g.class) (f.place == g.place && are_same_places fs gs) first in
    let b = and_parts (f.place == g.place) (are_same_places fs gs) a.1 in
    let c = and_parts (g.class == h.class) (g.place == h.place && are_same_places gs hs) second in
    let d = and_parts (g.place == h.place) (are_same_places gs hs) c.1 in
    and_from (f.class == h.class) (f.place == h.place && are_same_places fs hs) (number_chain f.class g.class h.class a.0 c.0)
    (and_from (f.place == h.place) (are_same_places fs hs) (number_chain f.place g.place h.place b.0 d.0) (places_chain fs gs hs b.1 d.1))

lock_chain : (r s t : LockMeaning) → is_same_lock r s ≡ true → is_same_lock s t ≡ true → is_same_lock r t ≡ true
lock_chain r s t first second =
    let a = and_parts (r.slot == s.slot) (are_same_places r.fields s.fields) first in
    let b = and_parts (s.slot == t.slot) (are_same_places s.fields t.fields) second in
    and_from (r.slot == t.slot) (are_same_places r.fields t.fields) (number_chain r.slot s.slot t.slot a.0 b.0) (places_chain r.fields s.fields t.fields a.1 b.1)

among_same : (r s : LockMeaning) (ts : List LockMeaning) → is_same_lock r s ≡ true → list_any (is_same_lock s) ts ≡ true → list_any (is_same_lock r) ts ≡ true
among_same r s [] same has = wrong has
among_same r s (t ∷ ts) same has = elim (or_cases (is_same_lock s t) (list_any (is_same_lock s) ts) has) as (λ _. (is_same_lock r t || list_any (is_same_lock r) ts) ≡ true) [
  | inl here ↦ or_left (is_same_lock r t) (list_any (is_same_lock r) ts) (lock_chain r s t same here)
  | inr later ↦ or_right (is_same_lock r t) (list_any (is_same_lock r) ts) (among_same r s ts same later)
]

one_among : (r : LockMeaning) (ss ts : List LockMeaning) → list_any (is_same_lock r) ss ≡ true → are_among ss ts ≡ true → list_any (is_same_lock r) ts ≡ true
one_among r [] ts has all = wrong has
one_among r (s ∷ ss) ts has all =
    let both = and_parts (list_any (is_same_lock s) ts) (are_among ss ts) all in
    elim (or_cases (is_same_lock r s) (list_any (is_same_lock r) ss) has) as (λ _. list_any (is_same_lock r) ts ≡ true) [
      | inl here ↦ among_same r s ts here both.0
      | inr later ↦ one_among r ss ts later both.1
    ]

among_chain : (rs ss ts : List LockMeaning) → are_among rs ss ≡ true → are_among ss ts ≡ true → are_among rs ts ≡ true
among_chain [] ss ts first second = refl
among_chain (r ∷ rs) ss ts first second =
    let both = and_parts (list_any (is_same_lock r) ss) (are_among rs ss) first in
    and_from (list_any (is_same_lock r) ts) (are_among rs ts) (one_among r ss ts both.0 second) (among_chain rs ss ts both.1 second)

locks_chain : (a b c : Option (List LockMeaning)) → (is_some b || not (is_some a)) ≡ true → same_where_known a b ≡ true → same_where_known b c ≡ true → same_where_known a c ≡ true
locks_chain None b c known first second = refl
locks_chain (Some rs) None c known first second = wrong known
locks_chain (Some rs) (Some ss) None known first second = refl
locks_chain (Some rs) (Some ss) (Some ts) known first second =
    let a = and_parts (are_among rs ss) (are_among ss rs) first in
    let b = and_parts (are_among ss ts) (are_among ts ss) second in
    and_from (are_among rs ts) (are_among ts rs) (among_chain rs ss ts a.0 b.0) (among_chain ts ss rs b.1 a.1)

-- what has the signature of one, whose locks are known where its own are, has that of whatever that has it of
pub signature_chain : (m n o : Signature) → (is_some n.locks || not (is_some m.locks)) ≡ true → is_same_signature m n ≡ true → is_same_signature n o ≡ true → is_same_signature m o ≡ true
signature_chain m n o known first second =
    let a = and_parts (are_alike m.params n.params) (is_same_result m.returns n.returns && (same_mark m.atomic n.atomic && same_where_known m.locks n.locks)) first in
    let b = and_parts (is_same_result m.returns n.returns) (same_mark m.atomic n.atomic && same_where_known m.locks n.locks) a.1 in
    let c = and_parts (same_mark m.atomic n.atomic) (same_where_known m.locks n.locks) b.1 in
    let d = and_parts (are_alike n.params o.params) (is_same_result n.returns o.returns && (same_mark n.atomic o.atomic && same_where_known n.locks o.locks)) second in
    let e = and_parts (is_same_result n.returns o.returns) (same_mark n.atomic o.atomic && same_where_known n.locks o.locks) d.1 in
    let f = and_parts (same_mark n.atomic o.atomic) (same_where_known n.locks o.locks) e.1 in
    and_from (are_alike m.params o.params) (is_same_result m.returns o.returns && (same_mark m.atomic o.atomic && same_where_known m.locks o.locks)) (params_chain m.params n.params o.params a.0 d.0)
    (and_from (is_same_result m.returns o.returns) (same_mark m.atomic o.atomic && same_where_known m.locks o.locks) (result_chain m.returns n.returns o.returns b.0 e.0)
    (and_from (same_mark m.atomic o.atomic) (same_where_known m.locks o.locks) (mark_chain m.atomic n.atomic o.atomic c.0 f.0) (locks_chain m.locks n.locks o.locks known c.1 f.1)))

-- ---- the other way round

bytes_back : (xs ys : List ℕ) → bytes_eq xs ys ≡ true → bytes_eq ys xs ≡ true
bytes_back xs ys e = subst (λ l. bytes_eq ys l ≡ true) (sym ((bytes_eq-Decides xs ys).0 e)) ((bytes_eq-Decides ys ys).1 refl)

mark_back : (a b : Bool) → same_mark a b ≡ true → same_mark b a ≡ true
mark_back true true same = refl
mark_back true false same = wrong same
mark_back false true same = wrong same
mark_back false false same = refl

type_back : (t u : TypeName) → is_same_type t u ≡ true → is_same_type u t ≡ true
type_back Y.Int Y.Int same = refl
type_back Y.Int Y.Boolean same = wrong same
type_back Y.Int (Y.Class n) same = wrong same
type_back Y.Boolean Y.Int same = wrong same
type_back Y.Boolean Y.Boolean same = refl
type_back Y.Boolean (Y.Class n) same = wrong same
type_back (Y.Class m) Y.Int same = wrong same
type_back (Y.Class m) Y.Boolean same = wrong same
type_back (Y.Class m) (Y.Class n) same = bytes_back m.text n.text same

result_back : (t u : Option TypeName) → is_same_result t u ≡ true → is_same_result u t ≡ true
result_back None None same = refl
result_back None (Some u) same = wrong same
result_back (Some t) None same = wrong same
result_back (Some t) (Some u) same = type_back t u same

params_back : (ps qs : List Param) → are_alike ps qs ≡ true → are_alike qs ps ≡ true
params_back [] [] same = refl
params_back [] (q ∷ qs) same = wrong same
params_back (p ∷ ps) [] same = wrong same
params_back (p ∷ ps) (q ∷ qs) same =
    let a = and_parts (same_mark p.is_final q.is_final) (is_same_type p.ty q.ty && are_alike ps qs) same in
    let b = and_parts (is_same_type p.ty q.ty) (are_alike ps qs) a.1 in
    and_from (same_mark q.is_final p.is_final) (is_same_type q.ty p.ty && are_alike qs ps) (mark_back p.is_final q.is_final a.0)
    (and_from (is_same_type q.ty p.ty) (are_alike qs ps) (type_back p.ty q.ty b.0) (params_back ps qs b.1))

locks_back : (a b : Option (List LockMeaning)) → same_where_known a b ≡ true → same_where_known b a ≡ true
locks_back None None same = refl
locks_back None (Some ss) same = refl
locks_back (Some rs) None same = refl
locks_back (Some rs) (Some ss) same =
    let both = and_parts (are_among rs ss) (are_among ss rs) same in
    and_from (are_among ss rs) (are_among rs ss) both.1 both.0

pub signature_back : (m n : Signature) → is_same_signature m n ≡ true → is_same_signature n m ≡ true
signature_back m n same =
    let a = and_parts (are_alike m.params n.params) (is_same_result m.returns n.returns && (same_mark m.atomic n.atomic && same_where_known m.locks n.locks)) same in
    let b = and_parts (is_same_result m.returns n.returns) (same_mark m.atomic n.atomic && same_where_known m.locks n.locks) a.1 in
    let c = and_parts (same_mark m.atomic n.atomic) (same_where_known m.locks n.locks) b.1 in
    and_from (are_alike n.params m.params) (is_same_result n.returns m.returns && (same_mark n.atomic m.atomic && same_where_known n.locks m.locks)) (params_back m.params n.params a.0)
    (and_from (is_same_result n.returns m.returns) (same_mark n.atomic m.atomic && same_where_known n.locks m.locks) (result_back m.returns n.returns b.0)
    (and_from (same_mark n.atomic m.atomic) (same_where_known n.locks m.locks) (mark_back m.atomic n.atomic c.0) (locks_back m.locks n.locks c.1)))

-- ---- with itself

mark_self : (b : Bool) → same_mark b b ≡ true
mark_self true = refl
mark_self false = refl

text_self : (xs : List ℕ) → bytes_eq xs xs ≡ true
text_self xs = (bytes_eq-Decides xs xs).1 refl

type_self : (t : TypeName) → is_same_type t t ≡ true
type_self Y.Int = refl
type_self Y.Boolean = refl
type_self (Y.Class n) = text_self n.text

result_self : (t : Option TypeName) → is_same_result t t ≡ true
result_self None = refl
result_self (Some t) = type_self t

params_self : (ps : List Param) → are_alike ps ps ≡ true
params_self [] = refl
params_self (p ∷ ps) =
    and_from (same_mark p.is_final p.is_final) (is_same_type p.ty p.ty && are_alike ps ps) (mark_self p.is_final)
    (and_from (is_same_type p.ty p.ty) (are_alike ps ps) (type_self p.ty) (params_self ps))

places_self : (fs : List FieldPlace) → are_same_places fs fs ≡ true
places_self [] = refl
places_self (f ∷ fs) =
    and_from (f.class == f.class) (f.place == f.place && are_same_places fs fs) (eq-eqb f.class f.class refl)
    (and_from (f.place == f.place) (are_same_places fs fs) (eq-eqb f.place f.place refl) (places_self fs))

lock_self : (r : LockMeaning) → is_same_lock r r ≡ true
lock_self r = and_from (r.slot == r.slot) (are_same_places r.fields r.fields) (eq-eqb r.slot r.slot refl) (places_self r.fields)

among_more : (rs ss : List LockMeaning) (s : LockMeaning) → are_among rs ss ≡ true → are_among rs (s ∷ ss) ≡ true
among_more [] ss s all = refl
among_more (r ∷ rs) ss s all =
    let both = and_parts (list_any (is_same_lock r) ss) (are_among rs ss) all in
    and_from (is_same_lock r s || list_any (is_same_lock r) ss) (are_among rs (s ∷ ss)) (or_right (is_same_lock r s) (list_any (is_same_lock r) ss) both.0) (among_more rs ss s both.1)

among_self : (rs : List LockMeaning) → are_among rs rs ≡ true
among_self [] = refl
among_self (r ∷ rs) =
    and_from (is_same_lock r r || list_any (is_same_lock r) rs) (are_among rs (r ∷ rs)) (or_left (is_same_lock r r) (list_any (is_same_lock r) rs) (lock_self r)) (among_more rs rs r (among_self rs))

locks_self : (a : Option (List LockMeaning)) → same_where_known a a ≡ true
locks_self None = refl
locks_self (Some rs) = and_from (are_among rs rs) (are_among rs rs) (among_self rs) (among_self rs)

pub signature_self : (m : Signature) → is_same_signature m m ≡ true
signature_self m =
    and_from (are_alike m.params m.params) (is_same_result m.returns m.returns && (same_mark m.atomic m.atomic && same_where_known m.locks m.locks)) (params_self m.params)
    (and_from (is_same_result m.returns m.returns) (same_mark m.atomic m.atomic && same_where_known m.locks m.locks) (result_self m.returns)
    (and_from (same_mark m.atomic m.atomic) (same_where_known m.locks m.locks) (mark_self m.atomic) (locks_self m.locks)))
