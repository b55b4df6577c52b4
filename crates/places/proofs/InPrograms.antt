-- The nodes of the methods of a program in step with what they were made of.
use Rattle.std.proofs.Common.{◌≡◌, ℕ, ◌+◌, List, [], ◌∷◌, ◌++◌, length, map, Option, Some, slice_get, refl, sym, ap, ap₂, subst, ◌∙◌, Contains, arith}
use Rattle.std.proofs.lemmas.List.{map-append}
use Rattle.syntax.specs.Trees.{MemberTree, FieldM, CtorM, MethodM, MethodTree, ProgramTree}
use Rattle.core_program.specs.declared.types.CoreType.{CoreType}
use Rattle.core_program.specs.Core.{Program, Method, Stmts, BlockS}
use Rattle.algebra.specs.HeldPaths.{Held}
use Rattle.effects.specs.Parts.{StmtP}
use Rattle.explain.specs.PartEffects.{stmt_parts}
use Rattle.explain.specs.Visits.{Visit, part_visits}
use Rattle.explain.proofs.Numbering.{part_numbered}
use Rattle.classes.specs.Table.{TableData, table_of}
use Rattle.typing.specs.Programs.{core_of, method_scope, method_result}
use Rattle.typing.specs.Stmts.{block_core}
use Rattle.classes.proofs.Parts.{mapped_at, before_mapped}
use Rattle.typing.proofs.Places.{own_methods, methods_at, core_method}
use Rattle.typing.proofs.Built.{built, method_is}
use Rattle.places.specs.Sources.{methods_among, methods_in, method_places, method_sources, source_offset}
use Rattle.places.specs.Slots.{slot_names}
use Rattle.places.specs.Making.{AreMade, AreNamed, IsMadeOf, HasTree, IsToldAt}
use Rattle.places.proofs.AtNumbers.{made_at}
use Rattle.places.proofs.InStepStmts.{body_made}
use Rattle.places.proofs.SlotsNamed.{StandAt, locals_stand, method_named, named_goes}

own_trees : (k : ℕ) (ms : List MemberTree) → map (λ d. d.method) (own_methods k ms) ≡ methods_among ms
own_trees k [] = refl
own_trees k (FieldM f ∷ ms) = own_trees k ms
own_trees k (CtorM n params sets ∷ ms) = own_trees k ms
own_trees k (MethodM m ∷ ms) = ap (λ z. m ∷ z) (own_trees k ms)

trees : (k : ℕ) (cs : ProgramTree) → map (λ d. d.method) (methods_at k cs) ≡ methods_in cs
trees k [] = refl
trees k (c ∷ cs) =
    map-append (λ d. d.method) (own_methods k c.members) (methods_at (k + 1) cs)
    ∙ ap₂ (λ x y. x ++ y) (own_trees k c.members) (trees (k + 1) cs)

-- wherever a part of a body is made, the slots have the method's names of slots
pub named_body : (t : TableData) (class : ℕ) (returns : Option CoreType) (m : MethodTree) (ss : Stmts) → block_core t class returns (1 + length m.params) (method_scope t m) 0 m.body ≡ Some ss
    → AreMade t class returns (1 + length m.params) (AreNamed (slot_names m)) (stmt_parts (BlockS ss)) (method_sources m)
named_body t class returns m ss h =
    body_made t class returns (1 + length m.params) (AreNamed (slot_names m)) (λ before xs. StandAt (slot_names m) (1 + length m.params + before) xs) (named_goes (slot_names m) (1 + length m.params))
    (method_scope t m) (method_named t m) m ss h (locals_stand m)

pub method_made : (tree : ProgramTree) (P : Program) → core_of tree ≡ Some P → (k : ℕ) (method : Method) → slice_get P.methods k ≡ Some method → HasTree (table_of tree) tree k method
method_made tree P h k method is =
    let t = table_of tree in
    let all = (built tree P h).methods in
    let there = ap (λ os. slice_get os k) all ∙ mapped_at Some P.methods k method is in
    let d = before_mapped (core_method t) (methods_at 0 tree) k (Some method) there in
    let m = method_is t P k d.0 method is d.2 in
    let source = d.0.method in
    let made = named_body t d.0.class (method_result t source) source m.stmts m.body in
    record {
      m = source;
      is = ap (λ ms. slice_get ms k) (sym (trees 0 tree)) ∙ mapped_at (λ d. d.method) (methods_at 0 tree) k d.0 d.1;
      made = record {
        made = subst (λ x. AreMade t x.class (method_result t source) (1 + length source.params) (AreNamed (slot_names source)) (stmt_parts x.body) (method_sources source)) m.node made;
        name = ap (λ x. x.place_at) (sym m.node);
      };
    }

pub visited_told : (t : TableData) (P : Program) (method : Method) (m : MethodTree) (H : Held) (v : Visit) → IsMadeOf t method m
    → Contains (part_visits P (StmtP method.body) 0 H) v → IsToldAt t method m v
visited_told t P method m H v made is =
    let its = part_numbered P (StmtP method.body) 0 H v is in
    let at = made_at t method.class (method_result t m) (1 + length m.params) (AreNamed (slot_names m)) made.made its.index v.part its.part in
    let same : v.node ≡ its.index = omega (arith, its.number) in
    record {
      source = at.source;
      made = at.made;
      place = ap (slice_get (method_places m)) same ∙ mapped_at source_offset (method_sources m) its.index at.source at.is;
    }
