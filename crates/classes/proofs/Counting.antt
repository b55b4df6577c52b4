-- A class has no more names of fields or methods than members.
use Rattle.std.proofs.Common.{◌≤◌, List, [], ◌∷◌, length, arith}
use Rattle.syntax.specs.Trees.{MemberTree, FieldM, CtorM, MethodM}
use Rattle.classes.specs.Names.{distinct}
use Rattle.classes.specs.Members.{field_names, method_names}
use Rattle.classes.proofs.OwnLemmas.{few_after}

fields_among : (members : List MemberTree) → length (field_names members) ≤ length members
fields_among [] = omega arith
fields_among (FieldM f ∷ ms) = let later = fields_among ms in omega arith
fields_among (CtorM n params sets ∷ ms) = let later = fields_among ms in omega arith
fields_among (MethodM m ∷ ms) = let later = fields_among ms in omega arith

methods_among : (members : List MemberTree) → length (method_names members) ≤ length members
methods_among [] = omega arith
methods_among (FieldM f ∷ ms) = let later = methods_among ms in omega arith
methods_among (CtorM n params sets ∷ ms) = let later = methods_among ms in omega arith
methods_among (MethodM m ∷ ms) = let later = methods_among ms in omega arith

pub few_fields : (members : List MemberTree) → length (distinct (field_names members)) ≤ length members
few_fields members =
    let names = few_after [] (field_names members) in
    let among = fields_among members in
    omega arith

pub few_methods : (members : List MemberTree) → length (distinct (method_names members)) ≤ length members
few_methods members =
    let names = few_after [] (method_names members) in
    let among = methods_among members in
    omega arith
