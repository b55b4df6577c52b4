-- The method that runs is like the one that it runs for: what the class rules ask of methods that override, read on the core program.
use Rattle.std.proofs.Common.{◌≡◌, ◌≢◌, ℕ, ◌+◌, ◌<◌, ◌==◌, ◌||◌, ◌&&◌, ◌⊎◌, zero, suc, Bool, true, false, List, [], ◌∷◌, ◌++◌, map, length, Option, Some, None, is_none, refl, ap, ap₂, sym, ◌∙◌, subst, inl, inr, slice_get, bytes_eq, arith, option_map, unwrap_or}
use Rattle.std.specs.Prelude.{IsSome}
use Rattle.std.specs.List.{list_any}
use Rattle.std.specs.Option.{option_or, is_some}
use Rattle.std.proofs.lemmas.Bool.{and_parts, or_cases, eqb-true, eqb-false}
use Rattle.std.proofs.lemmas.List.Folds.{list_any-append}
use Rattle.std.proofs.lemmas.Option.{none-some, same_Some, slice_get_within}
use Rattle.std.proofs.lemmas.Slice.Eq.{bytes_eq-Decides}
use Rattle.paths.specs.Paths.{PathData}
use Rattle.core_program.specs.Core.{Program, Method}
use Rattle.core_program.specs.Dispatch.{is_kind_of, Overrides}
use Rattle.core_program.specs.Typed.{AreAlike, IsEntry}
use Rattle.syntax.specs.Trees.{MemberTree, FieldM, CtorM, MethodM, ClassTree, ProgramTree}
use Rattle.classes.specs.Members.{has_none, is_bare, is_entry}
use Rattle.classes.specs.Lines.{above, ancestor_classes, members_in, members_at, all_members}
use Rattle.classes.specs.Overriding.{LockMeaning, meanings_of, are_among, same_where_known, same_mark, are_alike, is_same_result, may_override}
use Rattle.classes.proofs.Faultless.{IsFaultless, along_lines, inherited_step, inherited_none, overriding}
use Rattle.classes.specs.Table.{TableData, MethodData, type_of, above_in_table, is_of_kind, own_method, method_number}
use Rattle.typing.specs.Rulings.{gain}
use Rattle.typing.specs.Locks.{lock_rule}
use Rattle.typing.specs.Classes.{runner, inherited_count}
use Rattle.typing.specs.Order.{IsLined}
use Rattle.typing.specs.Programs.{all_there, ascending, method_scope}
use Rattle.typing.proofs.Ancestry.{from_above, kind_itself, kind_up, kind_on, kind_top, kind_place}
use Rattle.typing.proofs.Inversions.{none_of}
use Rattle.typing.proofs.Lined.{named_on, named_top}
use Rattle.typing.proofs.Paired.{own_named, named_itself, line_named, pair_is, entry_of}
use Rattle.classes.proofs.Parts.{Each, each_at, nothing_at, mapped_at, before_mapped}
use Rattle.base.proofs.Lists.{at_either}
use Rattle.typing.proofs.Parts.{there_are}
use Rattle.typing.proofs.PathsInOrder.{Among, same_ascending}
use Rattle.typing.proofs.Meanings.{IsKnown, shown, locks_meant, all_among}
use Rattle.typing.proofs.Places.{MethodAt, own_methods, own_method_class, fields_at, methods_at, method_entry, method_entries}
use Rattle.typing.proofs.Built.{IsBuilt, IsMethod, empty_is}
use Rattle.typing.proofs.Built as parts
use Rattle.typing.proofs.TreeLines.{the_table, place, table_long, above_same, lined, line_same}
use Rattle.typing.proofs.Agreement.{method_there, own_method_place, methods_owned, kinds_same}
use Rattle.typing.proofs.EqualSignatures.{marks_same, param_pair, params_same, results_same}

-- ---- where a method is written

-- a method among the members of its class
pub record IsWritten (tree : ProgramTree) (d : MethodAt) : Type 0 where
  pub class : ClassTree
  pub at : slice_get tree d.class ≡ Some class
  pub place : ℕ
  pub there : slice_get class.members place ≡ Some (MethodM d.method)

record IsMember (k : ℕ) (ms : List MemberTree) (d : MethodAt) : Type 0 where
  class : d.class ≡ k
  place : ℕ
  there : slice_get ms place ≡ Some (MethodM d.method)

one_later : (k : ℕ) (x : MemberTree) (ms : List MemberTree) (d : MethodAt) → IsMember k ms d → IsMember k (x ∷ ms) d
one_later k x ms d m = record { class = m.class; place = suc m.place; there = m.there }

member_of : (k : ℕ) (ms : List MemberTree) (i : ℕ) (d : MethodAt) → slice_get (own_methods k ms) i ≡ Some d → IsMember k ms d
member_of k [] i d h = absurd (nothing_at i d h)
member_of k (FieldM f ∷ ms) i d h = one_later k (FieldM f) ms d (member_of k ms i d h)
member_of k (CtorM n params sets ∷ ms) i d h = one_later k (CtorM n params sets) ms d (member_of k ms i d h)
member_of k (MethodM m ∷ ms) zero d h =
    let same : record { class = k; method = m } ≡ d = same_Some (record { class = k; method = m }) d h in
    record { class = sym (ap (λ z. z.class) same); place = 0; there = ap (λ (z : MethodAt). Some (MethodM z.method)) same }
member_of k (MethodM m ∷ ms) (suc i) d h = one_later k (MethodM m) ms d (member_of k ms i d h)

record IsIn (k : ℕ) (cs : ProgramTree) (d : MethodAt) : Type 0 where
  class : ClassTree
  index : ℕ
  number : d.class ≡ k + index
  at : slice_get cs index ≡ Some class
  place : ℕ
  there : slice_get class.members place ≡ Some (MethodM d.method)

is_in : (k : ℕ) (cs : ProgramTree) (n : ℕ) (d : MethodAt) → slice_get (methods_at k cs) n ≡ Some d → IsIn k cs d
is_in k [] n d h = absurd (nothing_at n d h)
is_in k (c ∷ cs) n d h = by_part (at_either (own_methods k c.members) (methods_at (k + 1) cs) n d h) (λ m at. is_in (k + 1) cs m d at)
  where
    by_part : (slice_get (own_methods k c.members) n ≡ Some d) ⊎ ((m : ℕ) × (n ≡ length (own_methods k c.members) + m) × (slice_get (methods_at (k + 1) cs) m ≡ Some d)) → ((m : ℕ) → slice_get (methods_at (k + 1) cs) m ≡ Some d → IsIn (k + 1) cs d) → IsIn k (c ∷ cs) d
    by_part (inl here) later =
        let m = member_of k c.members n d here in
        record { class = c; index = 0; number = omega (arith, m.class); at = refl; place = m.place; there = m.there }
    by_part (inr rest) later =
        let r = later rest.0 rest.2 in
        record { class = r.class; index = suc r.index; number = omega (arith, r.number); at = r.at; place = r.place; there = r.there }

pub written : (tree : ProgramTree) (n : ℕ) (d : MethodAt) → slice_get (methods_at 0 tree) n ≡ Some d → IsWritten tree d
written tree n d h =
    let r = is_in 0 tree n d h in
    let number : d.class ≡ r.index = omega (arith, r.number) in
    record { class = r.class; at = ap (slice_get tree) number ∙ r.at; place = r.place; there = r.there }

module _ (tree : ProgramTree) (P : Program) (b : IsBuilt tree P) (whole : IsFaultless tree) where
  abbrev t : TableData
  t = the_table tree

  abbrev in_line : IsLined t
  in_line = lined tree whole

  -- ---- what runs in a class stands in it or below the method that it runs for

  -- a method of the same name, in a class that is of the kind of the other's class
  pub record IsOver (n : ℕ) (d : MethodData) : Type 0 where
    pub method : MethodData
    pub is : slice_get t.methods n ≡ Some method
    pub same : method.name ≡ d.name
    pub kind : is_of_kind t method.class d.class ≡ true

  pub runs_over : (n : ℕ) (d : MethodData) → slice_get t.methods n ≡ Some d → (k : ℕ) → k < length t.classes → is_of_kind t k d.class ≡ true → IsOver (runner t k n d) d
  runs_over n d at k low = from_above (above_in_table t) (length t.classes) in_line.below in_line.apart (λ k. is_of_kind t k d.class ≡ true → IsOver (runner t k n d) d) step k low
    where
      step : (k : ℕ) → k < length t.classes → ((e : ℕ) → above_in_table t k ≡ Some e → is_of_kind t e d.class ≡ true → IsOver (runner t e n d) d) → is_of_kind t k d.class ≡ true → IsOver (runner t k n d) d
      step k low later kind = by_own (own_method t d.name k) refl
        where
          own_itself : k ≡ d.class → own_method t d.name k ≡ Some n
          own_itself same = ap (own_method t d.name) same ∙ named_itself t in_line n d at

          over_at : (x : ℕ) → own_method t d.name k ≡ Some x → IsOver x d
          over_at x found =
              let m = own_named t in_line d.name k x found in
              record { method = m.method; is = m.is; same = m.same; kind = ap (λ z. is_of_kind t z d.class) m.class ∙ kind }

          by_own : (o : Option ℕ) → own_method t d.name k ≡ o → IsOver (runner t k n d) d
          by_own o found = by_above (above_in_table t k) refl
            where
              by_found : (o : Option ℕ) → own_method t d.name k ≡ o → (e : ℕ) → above_in_table t k ≡ Some e → IsOver (unwrap_or (option_or o (method_number t e d.name)) n) d
              by_found (Some x) is e up_is = over_at x is
              by_found None none e up_is = later e up_is (further (k == d.class) refl (sym (kind_on (above_in_table t) (length t.classes) in_line.below in_line.apart k e d.class low up_is) ∙ kind))
                where
                  further : (test : Bool) → (k == d.class) ≡ test → (test || is_of_kind t e d.class) ≡ true → is_of_kind t e d.class ≡ true
                  further true same h = absurd (none-some n (sym none ∙ own_itself (eqb-true k d.class same)))
                  further false same h = h

              by_above : (a : Option ℕ) → above_in_table t k ≡ a → IsOver (runner t k n d) d
              by_above None none =
                  let mine : k ≡ d.class = eqb-true k d.class (sym (kind_top (above_in_table t) (length t.classes) in_line.below in_line.apart k d.class low none) ∙ kind) in
                  let runs : runner t k n d ≡ n = ap (λ o. unwrap_or o n) (named_top t in_line d.name k none ∙ own_itself mine) in
                  subst (λ z. IsOver z d) (sym runs) (over_at n (own_itself mine))
              by_above (Some e) up_is =
                  subst (λ z. IsOver z d) (sym (ap (λ o. unwrap_or o n) (named_on t in_line d.name k e up_is))) (by_found (own_method t d.name k) refl e up_is)

  -- ---- alike

  module _ (known : Each (λ d. IsKnown tree whole d.field.ty) (fields_at (inherited_count t) 0 tree))
      (known_params : (n : ℕ) (d : MethodAt) → slice_get (methods_at 0 tree) n ≡ Some d → Each (λ p. IsKnown tree whole p.ty) d.method.params) where
    -- the required locks, where the class rules find them the same
    locks_same : (k j : ℕ) (ms ns : Option (List LockMeaning)) (rs ss : List LockMeaning) (ps qs : List PathData)
        → ms ≡ Some rs → ns ≡ Some ss → map (shown tree whole) rs ≡ ps → map (shown tree whole) ss ≡ qs → same_where_known ms ns ≡ true → ascending ps ≡ ascending qs
    locks_same k j ms ns rs ss ps qs one two first second h =
        let both = and_parts (are_among rs ss) (are_among ss rs) (sym (ap₂ same_where_known one two) ∙ h) in
        same_ascending ps qs
        (λ p among. subst (Among p) second (all_among tree whole rs ss both.0 p (subst (Among p) (sym first) among)))
        (λ p among. subst (Among p) first (all_among tree whole ss rs both.1 p (subst (Among p) (sym second) among)))

    -- two methods of which the first may override the second are alike in the core
    alike_parts : (n m : ℕ) (c d : MethodAt) → slice_get (methods_at 0 tree) n ≡ Some c → slice_get (methods_at 0 tree) m ≡ Some d
        → (x : IsMethod t P n c) (y : IsMethod t P m d) → may_override tree c.class c.method d.class d.method ≡ true → AreAlike x.method y.method
    alike_parts n m c d at_c at_d x y may =
        let meanings_c = meanings_of tree c.class c.method.params c.method.locks in
        let meanings_d = meanings_of tree d.class d.method.params d.method.locks in
        let a = and_parts (are_alike c.method.params d.method.params)
        (is_same_result c.method.returns d.method.returns && (same_mark c.method.atomic d.method.atomic && same_where_known meanings_c meanings_d)) may in
        let r = and_parts (is_same_result c.method.returns d.method.returns) (same_mark c.method.atomic d.method.atomic && same_where_known meanings_c meanings_d) a.1 in
        let s = and_parts (same_mark c.method.atomic d.method.atomic) (same_where_known meanings_c meanings_d) r.1 in
        let paths_c = there_are (map (λ l. gain (lock_rule t c.class (method_scope t c.method) l)) c.method.locks) x.paths x.locks in
        let paths_d = there_are (map (λ l. gain (lock_rule t d.class (method_scope t d.method) l)) d.method.locks) y.paths y.locks in
        let meant_c = locks_meant tree whole known c.class c.method.params c.method.locks x.paths (known_params n c at_c) paths_c in
        let meant_d = locks_meant tree whole known d.class d.method.params d.method.locks y.paths (known_params m d at_d) paths_d in
        record {
          params = ap (λ z. z.params) (sym x.node) ∙ params_same t.names c.method.params d.method.params a.0 ∙ ap (λ z. z.params) y.node;
          result = ap (λ z. z.result) (sym x.node) ∙ results_same t.names c.method.returns d.method.returns r.0 ∙ ap (λ z. z.result) y.node;
          annotated = ap (λ z. z.annotated) (sym x.node) ∙ marks_same c.method.atomic d.method.atomic s.0 ∙ ap (λ z. z.annotated) y.node;
          requires_ = ap (λ z. z.requires_) (sym x.node)
              ∙ locks_same c.class d.class meanings_c meanings_d meant_c.meanings meant_d.meanings x.paths y.paths
              meant_c.are meant_d.are meant_c.paths meant_d.paths s.1
              ∙ ap (λ z. z.requires_) y.node;
        }

    entry_at : (n : ℕ) (d : MethodData) → slice_get t.methods n ≡ Some d → (c : MethodAt) × (slice_get (methods_at 0 tree) n ≡ Some c) × (method_entry t.names c ≡ d)
    entry_at n d at = before_mapped (method_entry t.names) (methods_at 0 tree) n d (ap (λ z. slice_get z n) (sym (method_entries t.names 0 tree)) ∙ at)

    core_at : (n : ℕ) (method : Method) (c : MethodAt) → slice_get (methods_at 0 tree) n ≡ Some c → slice_get P.methods n ≡ Some method → (x : IsMethod t P n c) × (x.method ≡ method)
    core_at n method c at is = let x = method_there tree P b n c at in (x, same_Some x.method method (sym x.is ∙ is))

    -- a method that runs for another one is like it
    pub over_alike : (n m : ℕ) (d : MethodData) (first second : Method) → slice_get t.methods m ≡ Some d → IsOver n d → slice_get P.methods n ≡ Some first → slice_get P.methods m ≡ Some second → AreAlike first second
    over_alike n m d first second at over is_first is_second = by_same (n == m) refl
      where
        refl_alike : first ≡ second → AreAlike first second
        refl_alike same = subst (AreAlike first) same (record { params = refl; result = refl; annotated = refl; requires_ = refl })

        c_at : (c : MethodAt) × (slice_get (methods_at 0 tree) n ≡ Some c) × (method_entry t.names c ≡ over.method)
        c_at = entry_at n over.method over.is

        d_at : (c : MethodAt) × (slice_get (methods_at 0 tree) m ≡ Some c) × (method_entry t.names c ≡ d)
        d_at = entry_at m d at

        -- of one class they would be one method
        one_class : over.method.class ≡ d.class → n ≡ m
        one_class same =
            same_Some n m (
            sym (named_itself t in_line n over.method over.is)
            ∙ ap₂ (own_method t) over.same same
            ∙ named_itself t in_line m d at)

        apart_alike : n ≢ m → AreAlike first second
        apart_alike differs =
            let k = over.method.class in
            let low : k < length t.classes = in_line.owned n over.method over.is in
            let p = kind_place (above_in_table t) (length t.classes) in_line.below in_line.apart k d.class low over.kind in
            in_line_at p.0 (ap (λ z. slice_get z p.0) (sym (line_same tree whole k)) ∙ p.1)
          where
            in_line_at : (p : ℕ) → slice_get (over.method.class ∷ ancestor_classes tree over.method.class) p ≡ Some d.class → AreAlike first second
            in_line_at zero here = absurd (differs (one_class (same_Some over.method.class d.class here)))
            in_line_at (suc p) there =
                let c_class : c_at.0.class ≡ over.method.class = ap (λ z. z.class) c_at.2 in
                let d_class : d_at.0.class ≡ d.class = ap (λ z. z.class) d_at.2 in
                let w = written tree n c_at.0 c_at.1 in
                let v = written tree m d_at.0 d_at.1 in
                let named : bytes_eq c_at.0.method.name.text d_at.0.method.name.text ≡ true =
                (bytes_eq-Decides c_at.0.method.name.text d_at.0.method.name.text).1 (ap (λ z. z.name) c_at.2 ∙ over.same ∙ sym (ap (λ z. z.name) d_at.2)) in
                let inherits : slice_get (ancestor_classes tree c_at.0.class) p ≡ Some d_at.0.class = ap (λ k. slice_get (ancestor_classes tree k) p) c_class ∙ there ∙ ap Some (sym d_class) in
                let members : slice_get (members_at tree d_at.0.class) v.place ≡ Some (MethodM d_at.0.method) = ap (λ o. slice_get (members_in o) v.place) v.at ∙ v.there in
                let may = overriding tree c_at.0.class w.class (whole.classes c_at.0.class w.class w.at) w.place c_at.0.method (ap (λ o. slice_get (members_in o) w.place) w.at ∙ w.there) p d_at.0.class inherits v.place d_at.0.method members named in
                let x = core_at n first c_at.0 c_at.1 is_first in
                let y = core_at m second d_at.0 d_at.1 is_second in
                subst (λ z. AreAlike z second) x.1 (subst (AreAlike x.0.method) y.1 (alike_parts n m c_at.0 d_at.0 c_at.1 d_at.1 x.0 y.0 may))

        by_same : (test : Bool) → (n == m) ≡ test → AreAlike first second
        by_same true same = refl_alike (same_Some first second (sym is_first ∙ ap (slice_get P.methods) (eqb-true n m same) ∙ is_second))
        by_same false other = apart_alike (eqb-false n m other)

    -- a method that overrides another one is like it
    pub overriding_alike : (over m : ℕ) (first second : Method) → Overrides P over m → slice_get P.methods over ≡ Some first → slice_get P.methods m ≡ Some second → AreAlike first second
    overriding_alike over m first second o is_first is_second =
        let e = entry_of t in_line P b.classes (methods_owned tree P b) over o.method o.is in
        let low : o.method.class < length t.classes = subst (λ z. z < length t.classes) e.2 (in_line.owned over e.0 e.1) in
        let pair = pair_is t in_line P b.classes (methods_owned tree P b) o.method.class m over low o.runs in
        over_alike over m pair.method first second pair.is (subst (λ z. IsOver z pair.method) (sym pair.runs) (runs_over m pair.method pair.is o.method.class low pair.kind)) is_first is_second

    -- ---- methods to begin with

    -- some method of this name that a thread can begin with, of a class in the line
    record IsBegun (text : List ℕ) (k : ℕ) : Type 0 where
      number : ℕ
      written_at : MethodAt
      at : slice_get (methods_at 0 tree) number ≡ Some written_at
      kind : is_of_kind t k written_at.class ≡ true
      name : written_at.method.name.text ≡ text
      bare : is_bare written_at.method ≡ true

    none_outside : (text : List ℕ) (k : ℕ) → slice_get tree k ≡ None → list_any (is_entry text) (members_at tree k) ≡ true → ⊥
    none_outside text k none some = let e : false ≡ true = sym (ap (λ o. list_any (is_entry text) (members_in o)) none) ∙ some in cc

    own_begun : (text : List ℕ) (k : ℕ) → list_any (is_entry text) (members_at tree k) ≡ true → IsBegun text k
    own_begun text k some = by_class (slice_get tree k) refl
      where
        by_class : (o : Option ClassTree) → slice_get tree k ≡ o → IsBegun text k
        by_class None none = absurd (none_outside text k none some)
        by_class (Some C) at =
            let e = parts.entry_at text k C.members (sym (ap (λ o. list_any (is_entry text) (members_in o)) at) ∙ some) in
            let p = place tree k C at in
            let n = length p.methods_before + e.0 in
            let low : k < length t.classes = let w = slice_get_within tree k C at in omega (arith, w, table_long tree) in
            let class_is : e.1.class ≡ k = each_at (λ d. d.class ≡ k) (own_methods k C.members) e.0 e.1 (own_method_class k C.members) e.2 in
            record {
              number = n;
              written_at = e.1;
              at = own_method_place tree P b k C at e.0 n e.1 refl e.2;
              kind = ap (is_of_kind t k) class_is ∙ kind_itself (above_in_table t) (length t.classes) in_line.below in_line.apart k low;
              name = e.3;
              bare = e.4;
            }

    begun : (text : List ℕ) (k : ℕ) → k < length t.classes → list_any (is_entry text) (all_members tree k) ≡ true → IsBegun text k
    begun text k = along_lines tree whole (λ k. k < length t.classes → list_any (is_entry text) (all_members tree k) ≡ true → IsBegun text k) first next k
      where
        first : (k : ℕ) → above tree k ≡ None → k < length t.classes → list_any (is_entry text) (all_members tree k) ≡ true → IsBegun text k
        first k none low some = own_begun text k (sym (ap (λ ms. list_any (is_entry text) (ms ++ members_at tree k)) (inherited_none tree whole k none)) ∙ some)

        next : (k d : ℕ) → above tree k ≡ Some d → (d < length t.classes → list_any (is_entry text) (all_members tree d) ≡ true → IsBegun text d) → k < length t.classes → list_any (is_entry text) (all_members tree k) ≡ true → IsBegun text k
        next k d is later low some =
            let in_table : above_in_table t k ≡ Some d = ap (λ f. f k) (above_same tree) ∙ is in
            elim (or_cases (list_any (is_entry text) (all_members tree d)) (list_any (is_entry text) (members_at tree k))
            (sym (list_any-append (is_entry text) (all_members tree d) (members_at tree k)) ∙ sym (ap (λ ms. list_any (is_entry text) (ms ++ members_at tree k)) (inherited_step tree whole k d is)) ∙ some)) as (λ _. IsBegun text k) [
              | inl from_above_it ↦
                  let r = later (in_line.below k d in_table) from_above_it in
                  record { number = r.number; written_at = r.written_at; at = r.at; kind = kind_up (above_in_table t) (length t.classes) in_line.below in_line.apart k d r.written_at.class low in_table r.kind; name = r.name; bare = r.bare }
              | inr own ↦ own_begun text k own
            ]

    -- the method of that name that runs for the class
    pub entry_there : (text : List ℕ) (k : ℕ) → k < length t.classes → list_any (is_entry text) (all_members tree k) ≡ true
        → (m : ℕ) × (method_number t k text ≡ Some m) × IsEntry P k m
    entry_there text k low some =
        let r = begun text k low some in
        let d = method_entry t.names r.written_at in
        let d_at : slice_get t.methods r.number ≡ Some d = ap (λ z. slice_get z r.number) (method_entries t.names 0 tree) ∙ mapped_at (method_entry t.names) (methods_at 0 tree) r.number r.written_at r.at in
        let over = runs_over r.number d d_at k low r.kind in
        let n = runner t k r.number d in
        let found : method_number t k d.name ≡ Some n = found_of (method_number t k d.name) r.number (named_there r.number d d_at k low r.kind) in
        let x = entry_at n over.method over.is in
        let running = method_there tree P b n x.0 x.1 in
        let bare = method_there tree P b r.number r.written_at r.at in
        let alike = over_alike n r.number d running.method bare.method d_at over running.is bare.is in
        let plain = and_parts (is_none r.written_at.method.returns) (has_none r.written_at.method.params && has_none r.written_at.method.locks) r.bare in
        let rest = and_parts (has_none r.written_at.method.params) (has_none r.written_at.method.locks) plain.1 in
        let no_params = empty_is r.written_at.method.params rest.0 in
        let no_locks = empty_is r.written_at.method.locks rest.1 in
        let no_result = none_of r.written_at.method.returns plain.0 in
        let paths_none : [] ≡ bare.paths =
        same_Some [] bare.paths (ap (λ z. all_there (map (λ l. gain (lock_rule t r.written_at.class (method_scope t r.written_at.method) l)) z)) (sym no_locks) ∙ bare.locks) in
        let kind_of = run_kind r.number d d_at k low r.kind over in (
          n,
          ap (method_number t k) (sym r.name) ∙ found,
          record {
            method = running.method;
            is = running.is;
            of_class = ap (is_kind_of P k) (ap (λ z. z.class) (sym running.node) ∙ ap (λ z. z.class) x.2) ∙ kinds_same tree P b k over.method.class ∙ kind_of;
            no_parameters = alike.params ∙ ap (λ z. z.params) (sym bare.node) ∙ ap (map (param_pair t.names)) no_params;
            no_result = alike.result ∙ ap (λ z. z.result) (sym bare.node) ∙ ap (option_map (type_of t.names)) no_result;
            no_locks = alike.requires_ ∙ ap (λ z. z.requires_) (sym bare.node) ∙ ap ascending (sym paths_none);
          },
        )
      where
        found_of : (o : Option ℕ) (n : ℕ) → IsSome o → o ≡ Some (unwrap_or o n)
        found_of None n some = absurd (let e : false ≡ true = some in cc)
        found_of (Some x) n some = refl

        -- a class that is of the kind of a method's class finds some method of its name
        named_there : (n : ℕ) (d : MethodData) → slice_get t.methods n ≡ Some d → (k : ℕ) → k < length t.classes → is_of_kind t k d.class ≡ true → IsSome (method_number t k d.name)
        named_there n d at k low = from_above (above_in_table t) (length t.classes) in_line.below in_line.apart (λ k. is_of_kind t k d.class ≡ true → IsSome (method_number t k d.name)) step k low
          where
            either : (o p : Option ℕ) → IsSome p → IsSome (option_or o p)
            either None p some = some
            either (Some x) p some = refl

            step : (k : ℕ) → k < length t.classes → ((e : ℕ) → above_in_table t k ≡ Some e → is_of_kind t e d.class ≡ true → IsSome (method_number t e d.name)) → is_of_kind t k d.class ≡ true → IsSome (method_number t k d.name)
            step k low later kind = by_above (above_in_table t k) refl
              where
                mine : k ≡ d.class → IsSome (own_method t d.name k)
                mine same = ap is_some (ap (own_method t d.name) same ∙ named_itself t in_line n d at)

                by_above : (a : Option ℕ) → above_in_table t k ≡ a → IsSome (method_number t k d.name)
                by_above None none =
                    ap is_some (named_top t in_line d.name k none)
                    ∙ mine (eqb-true k d.class (sym (kind_top (above_in_table t) (length t.classes) in_line.below in_line.apart k d.class low none) ∙ kind))
                by_above (Some e) up_is =
                    ap is_some (named_on t in_line d.name k e up_is)
                    ∙ by_test (k == d.class) refl (sym (kind_on (above_in_table t) (length t.classes) in_line.below in_line.apart k e d.class low up_is) ∙ kind)
                  where
                    first_some : (o p : Option ℕ) → IsSome o → IsSome (option_or o p)
                    first_some None p some = absurd (let e : false ≡ true = some in cc)
                    first_some (Some x) p some = refl

                    by_test : (test : Bool) → (k == d.class) ≡ test → (test || is_of_kind t e d.class) ≡ true → IsSome (option_or (own_method t d.name k) (method_number t e d.name))
                    by_test true same h = first_some (own_method t d.name k) (method_number t e d.name) (mine (eqb-true k d.class same))
                    by_test false same h = either (own_method t d.name k) (method_number t e d.name) (later e up_is h)

        -- what runs for a class is a method that the class has
        run_kind : (n : ℕ) (d : MethodData) → slice_get t.methods n ≡ Some d → (k : ℕ) → k < length t.classes → is_of_kind t k d.class ≡ true → (over : IsOver (runner t k n d) d) → is_of_kind t k over.method.class ≡ true
        run_kind n d at k low kind over = by_found (method_number t k d.name) refl
          where
            by_found : (o : Option ℕ) → method_number t k d.name ≡ o → is_of_kind t k over.method.class ≡ true
            by_found None none =
                let itself : runner t k n d ≡ n = ap (λ o. unwrap_or o n) none in
                let same : over.method ≡ d = same_Some over.method d (sym over.is ∙ ap (slice_get t.methods) itself ∙ at) in
                ap (λ z. is_of_kind t k z.class) same ∙ kind
            by_found (Some x) is =
                let f = line_named t in_line d.name k x low is in
                let itself : runner t k n d ≡ x = ap (λ o. unwrap_or o n) is in
                let same : over.method ≡ f.method = same_Some over.method f.method (sym over.is ∙ ap (slice_get t.methods) itself ∙ f.is) in
                ap (λ z. is_of_kind t k z.class) same ∙ f.kind
