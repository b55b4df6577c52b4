-- Which methods may override which: parameters, result, `atomic` and `requires` are the same, and `requires` by what its locks mean.
use Rattle.std.specs.Prelude.{ℕ, ◌+◌, Bool, true, false, not, ◌&&◌, ◌==◌, nat_le, List, [], ◌∷◌, ◌++◌, Option, Some, None, length, bytes_eq, if◌then◌else◌}
use Rattle.std.specs.List.{list_any, list_all}
use Rattle.std.specs.Option.{option_and_then, option_map, option_or}
use Rattle.syntax.specs.declared.tree.Name.{Name}
use Rattle.syntax.specs.declared.tree.Param.{Param}
use Rattle.syntax.specs.declared.tree.TypeName.{TypeName}
use Rattle.syntax.specs.declared.tree.TypeName.TheVariants as Y
use Rattle.syntax.specs.Trees.{LockTree, MethodTree, MemberTree, FieldM, CtorM, MethodM, ProgramTree}
use Rattle.classes.specs.declared.overriding.TheConstants.{MOST_LOCK_FIELDS}
use Rattle.classes.specs.Members.{is_same_type}
use Rattle.classes.specs.Lines.{class_named, ancestor_classes, members_at}

-- ---- what a lock of `requires` means

-- a field by the number of the class that declares it and by its place among the fields of that class
pub record FieldPlace : Type 0 where
  pub class : ℕ
  pub place : ℕ

-- a field that a name means, whether it is final, and its type
pub record FoundField : Type 0 where
  pub at : FieldPlace
  pub is_final : Bool
  pub ty : TypeName

-- the first field of this name among members, of which so many fields stand before
abbrev pub field_from : ℕ → ℕ → List MemberTree → List ℕ → Option FoundField
field_from class place [] name = None
field_from class place (FieldM f ∷ ms) name =
    if bytes_eq f.name.text name
    then Some (record { at = record { class = class; place = place }; is_final = f.is_final; ty = f.ty })
    else field_from class (place + 1) ms name
field_from class place (CtorM n params sets ∷ ms) name = field_from class place ms name
field_from class place (MethodM m ∷ ms) name = field_from class place ms name

-- the first field of this name in the first of these classes that has one
abbrev pub field_along : ProgramTree → List ℕ → List ℕ → Option FoundField
field_along tree [] name = None
field_along tree (k ∷ ks) name = option_or (field_from k 0 (members_at tree k) name) (field_along tree ks name)

-- the field that a name means in a class: its own, or else the nearest ancestor's
abbrev pub field_named : ProgramTree → ℕ → List ℕ → Option FoundField
field_named tree k name = field_along tree (k ∷ ancestor_classes tree k) name

-- the number of the class that a type is
abbrev pub class_of_type : ProgramTree → TypeName → Option ℕ
class_of_type tree Y.Int = None
class_of_type tree Y.Boolean = None
class_of_type tree (Y.Class n) = class_named tree n.text

-- what a lock means, as far as it is read: the slot that it begins at, the fields that it leads through, and the class of the object there
pub record LockMeaning : Type 0 where
  pub slot : ℕ
  pub fields : List FieldPlace
  pub class : ℕ

-- a slot alone
abbrev pub reach_from : ℕ → ℕ → LockMeaning
reach_from slot class = record { slot = slot; fields = []; class = class }

-- one field further, to an object of a class
abbrev pub reach_on : LockMeaning → FoundField → ℕ → LockMeaning
reach_on r f class = record { slot = r.slot; fields = r.fields ++ f.at ∷ []; class = class }

-- through a field that is final and has a class type
abbrev pub through : ProgramTree → LockMeaning → FoundField → Option LockMeaning
through tree r f = if f.is_final then option_map (reach_on r f) (class_of_type tree f.ty) else None

-- along the fields of a lock
abbrev pub reach_along : ProgramTree → LockMeaning → List Name → Option LockMeaning
reach_along tree r [] = Some r
reach_along tree r (n ∷ ns) =
    option_and_then (λ next. reach_along tree next ns) (option_and_then (λ f. through tree r f) (field_named tree r.class n.text))

-- the first parameter of this name, where the first of these has this slot; it is final and has a class type
abbrev pub param_root : ProgramTree → ℕ → List Param → List ℕ → Option LockMeaning
param_root tree slot [] name = None
param_root tree slot (p ∷ ps) name =
    if bytes_eq p.name.text name
    then (if p.is_final then option_map (reach_from slot) (class_of_type tree p.ty) else None)
    else param_root tree (slot + 1) ps name

-- where a lock of a method of the class with number k begins
abbrev pub lock_root : ProgramTree → ℕ → List Param → Option Name → Option LockMeaning
lock_root tree k params None = Some (reach_from 0 k)
lock_root tree k params (Some n) = param_root tree 1 params n.text

-- the most fields that a lock leads through
abbrev pub most_lock_fields : ℕ
most_lock_fields = MOST_LOCK_FIELDS

-- what a lock means: none where a name in it is unknown or where it is no lock
abbrev pub meaning_of : ProgramTree → ℕ → List Param → LockTree → Option LockMeaning
meaning_of tree k params l =
    if nat_le (length l.fields) most_lock_fields
    then option_and_then (λ r. reach_along tree r l.fields) (lock_root tree k params l.root)
    else None

-- what each of these locks means, where all mean something
abbrev pub meanings_of : ProgramTree → ℕ → List Param → List LockTree → Option (List LockMeaning)
meanings_of tree k params [] = Some []
meanings_of tree k params (l ∷ ls) =
    option_and_then (λ r. option_map (λ rs. r ∷ rs) (meanings_of tree k params ls)) (meaning_of tree k params l)

-- ---- the same

-- whether two lists of fields are equal: place by place the same class and the same field of it
abbrev pub are_same_places : List FieldPlace → List FieldPlace → Bool
are_same_places [] [] = true
are_same_places [] (g ∷ gs) = false
are_same_places (f ∷ fs) [] = false
are_same_places (f ∷ fs) (g ∷ gs) = f.class == g.class && (f.place == g.place && are_same_places fs gs)

-- whether two locks are the same: they begin at the same slot and lead through the same fields
abbrev pub is_same_lock : LockMeaning → LockMeaning → Bool
is_same_lock r s = r.slot == s.slot && are_same_places r.fields s.fields

-- whether each of these locks is one of those
abbrev pub are_among : List LockMeaning → List LockMeaning → Bool
are_among rs ss = list_all (λ r. list_any (is_same_lock r) ss) rs

-- whether two sets of locks are the same, where both are known
abbrev pub same_where_known : Option (List LockMeaning) → Option (List LockMeaning) → Bool
same_where_known (Some rs) (Some ss) = are_among rs ss && are_among ss rs
same_where_known None other = true
same_where_known (Some rs) None = true

-- whether two marks are the same
abbrev pub same_mark : Bool → Bool → Bool
same_mark true b = b
same_mark false b = not b

-- whether parameters have the same types and `final` marks, in order
abbrev pub are_alike : List Param → List Param → Bool
are_alike [] [] = true
are_alike [] (q ∷ qs) = false
are_alike (p ∷ ps) [] = false
are_alike (p ∷ ps) (q ∷ qs) = same_mark p.is_final q.is_final && (is_same_type p.ty q.ty && are_alike ps qs)

-- whether two results are the same; none is `void`
abbrev pub is_same_result : Option TypeName → Option TypeName → Bool
is_same_result None None = true
is_same_result None (Some u) = false
is_same_result (Some t) None = false
is_same_result (Some t) (Some u) = is_same_type t u

-- what a method and one that it overrides must have in common; no result is `void`, and the locks of `requires` are what they mean
pub record Signature : Type 0 where
  pub atomic : Bool
  pub returns : Option TypeName
  pub params : List Param
  pub locks : Option (List LockMeaning)

-- the signature of a method of the class with number k
abbrev pub signature_of : ProgramTree → ℕ → MethodTree → Signature
signature_of tree k m = record { atomic = m.atomic; returns = m.returns; params = m.params; locks = meanings_of tree k m.params m.locks }

-- whether two signatures have the same parts
abbrev pub is_same_signature : Signature → Signature → Bool
is_same_signature m n =
    are_alike m.params n.params
    && (is_same_result m.returns n.returns
    && (same_mark m.atomic n.atomic
    && same_where_known m.locks n.locks))

-- whether a method of the class with number k may override one of the class with number j
abbrev pub may_override : ProgramTree → ℕ → MethodTree → ℕ → MethodTree → Bool
may_override tree k m j n = is_same_signature (signature_of tree k m) (signature_of tree j n)

-- ---- what is overridden

-- a method by its name and its signature
pub record Heading : Type 0 where
  pub name : Name
  pub signature : Signature

-- the methods among members of the class with number k
abbrev pub headings : ProgramTree → ℕ → List MemberTree → List Heading
headings tree k [] = []
headings tree k (FieldM f ∷ ms) = headings tree k ms
headings tree k (CtorM n params sets ∷ ms) = headings tree k ms
headings tree k (MethodM m ∷ ms) = record { name = m.name; signature = signature_of tree k m } ∷ headings tree k ms

-- the methods that a class itself declares
abbrev pub headings_at : ProgramTree → ℕ → List Heading
headings_at tree k = headings tree k (members_at tree k)

-- whether two methods have one name and may not override each other
abbrev pub clashes : Heading → Heading → Bool
clashes m n = bytes_eq m.name.text n.name.text && not (is_same_signature m.signature n.signature)

-- whether a method overrides one that it may not override, where its class inherits from these classes; each class has its methods
abbrev pub overrides_badly : (ℕ → List Heading) → List ℕ → Heading → Bool
overrides_badly methods ancestor_classes m = list_any (λ j. list_any (clashes m) (methods j)) ancestor_classes
