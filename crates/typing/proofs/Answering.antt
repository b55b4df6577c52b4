-- What the top call tells of a program.
use Rattle.std.proofs.Common.{◌≡◌, ◌⊎◌, inl, inr, List, Option, Some, None, Result, Ok, Err, map, option_map, ap, sym, subst, ◌∙◌, refl}
use Rattle.std.specs.Prelude.{ℕ, IfSome, MatchResult, IsSome, Vec}
use Rattle.std.specs.declared.alloc.Global.{Global}
use Rattle.std.proofs.lemmas.Simd.{map-map}
use Rattle.std.proofs.lemmas.Option.{none-some, same_Some}
use Rattle.core_program.specs.Core.{Program, Field, Method}
use Rattle.core_program.specs.Views.{method_of}
use Rattle.core_program.specs.declared.program.CoreMethod.{CoreMethod}
use Rattle.syntax.specs.Trees.{ProgramTree}
use Rattle.classes.specs.Table.{TableData, MethodData, table_of}
use Rattle.typing.specs.declared.fault.TypeFault.{TypeFault}
use Rattle.typing.specs.declared.fault.TypeFault.TheVariants.{NoMemory as OutOfMemory}
use Rattle.typing.specs.Noted.{type_noted}
use Rattle.typing.specs.Programs.{IsFirstTypeFault, IsCoreOf, program_type_faults, type_faults_from, program_node, all_there, all_core_fields, all_core_methods}
use Rattle.typing.specs.Rulings.{both}
use Rattle.typing.proofs.Agreement.{methods_owned}
use Rattle.typing.proofs.Built.{built}
use Rattle.typing.proofs.Complete.{one_core, program_there}
use Rattle.typing.proofs.FirstFaults.{first_is, none_is, no_first, one_first}

-- what was found in a program whose classes these are, with this table
pub record Found (tree : ProgramTree) (found : Option TypeFault) (fields : Option (List Field)) (methods : Option (List Method)) : Type 0 where
  pub first : found ≡ type_noted None (program_type_faults tree)
  pub fields_are : fields ≡ all_there (all_core_fields (table_of tree) 0 tree)
  pub methods_are : methods ≡ all_there (all_core_methods (table_of tree) 0 tree)

pub found_in : (tree classes : ProgramTree) (t : TableData) (found : Option TypeFault) (fields : Option (List Field)) (methods : Option (List Method))
    → classes ≡ tree → t ≡ table_of tree
    → found ≡ type_noted None (type_faults_from t 0 classes)
    → fields ≡ all_there (all_core_fields t 0 classes)
    → methods ≡ all_there (all_core_methods t 0 classes)
    → Found tree found fields methods
found_in tree classes t found fields methods whole table one two three = record {
  first = one ∙ ap (λ z. type_noted None (type_faults_from z 0 classes)) table ∙ ap (λ z. type_noted None (type_faults_from (table_of tree) 0 z)) whole;
  fields_are = two ∙ ap (λ z. all_there (all_core_fields z 0 classes)) table ∙ ap (λ z. all_there (all_core_fields (table_of tree) 0 z)) whole;
  methods_are = three ∙ ap (λ z. all_there (all_core_methods z 0 classes)) table ∙ ap (λ z. all_there (all_core_methods (table_of tree) 0 z)) whole;
}

pub told : (tree : ProgramTree) (f : TypeFault) (fields : Option (List Field)) (methods : Option (List Method)) → Found tree (Some f) fields methods → IsFirstTypeFault tree f
told tree f fields methods h = first_is tree f (sym h.first)

pub made : (tree classes : ProgramTree) (t : TableData) (fields : Option (List Field)) (methods : Option (List Method)) (P : Program)
    → classes ≡ tree → t ≡ table_of tree → Found tree None fields methods
    → Some P ≡ option_map (program_node t) (both fields methods)
    → IsCoreOf tree P
made tree classes t fields methods P whole table h node = record {
  faultless = none_is tree (sym h.first);
  core = sym (
      node
      ∙ ap (λ z. option_map (program_node z) (both fields methods)) table
      ∙ ap (λ f. option_map (program_node (table_of tree)) (both f methods)) h.fields_are
      ∙ ap (λ m. option_map (program_node (table_of tree)) (both (all_there (all_core_fields (table_of tree) 0 tree)) m)) h.methods_are);
}

-- ---- from an exact answer to what it is for a given core program or fault

pub core_told : {A : Type 0} (view : A → Program) (result : Result A TypeFault) (tree : ProgramTree)
    → MatchResult result (λ p. IsCoreOf tree (view p)) (λ e. (e ≡ OutOfMemory) ⊎ IsFirstTypeFault tree e)
    → (P : Program) → IsCoreOf tree P → MatchResult result (λ p. view p ≡ P) (λ e. e ≡ OutOfMemory)
core_told view (Ok p) tree exact P core = one_core tree (view p) P exact core
core_told view (Err e) tree (inl memory) P core = memory
core_told view (Err e) tree (inr first) P core = absurd (no_first tree e core.faultless first)

pub fault_told : {A : Type 0} (view : A → Program) (result : Result A TypeFault) (tree : ProgramTree)
    → MatchResult result (λ p. IsCoreOf tree (view p)) (λ e. (e ≡ OutOfMemory) ⊎ IsFirstTypeFault tree e)
    → (f : TypeFault) → IsFirstTypeFault tree f → MatchResult result (λ _. ⊥) (λ e. (e ≡ f) ⊎ (e ≡ OutOfMemory))
fault_told view (Ok p) tree exact f first = no_first tree f exact.faultless first
fault_told view (Err e) tree (inl memory) f first = inr memory
fault_told view (Err e) tree (inr told) f first = inl (one_first tree e f told first)

-- ---- no part is missing

pub first_there : {A B C : Type 0} (f : A × B → C) (a : Option A) (b : Option B) (c : C) → option_map f (both a b) ≡ Some c → IsSome a
first_there f None b c h = absurd cc
first_there f (Some a) b c h = refl

pub second_there : {A B C : Type 0} (f : A × B → C) (a : Option A) (b : Option B) (c : C) → option_map f (both a b) ≡ Some c → IsSome b
second_there f None b c h = absurd cc
second_there f (Some a) None c h = absurd cc
second_there f (Some a) (Some b) c h = refl

pub mapped_there : {A B : Type 0} (f : A → B) (o : Option A) → IsSome (option_map f o) → IsSome o
mapped_there f None h = h
mapped_there f (Some a) h = refl

pub all_are_there : (tree classes : ProgramTree) (t : TableData) (fields : Option (List Field)) (methods : Option (List Method))
    → classes ≡ tree → t ≡ table_of tree → Found tree None fields methods
    → (P : Program) × (option_map (program_node t) (both fields methods) ≡ Some P)
all_are_there tree classes t fields methods whole table h =
    let there = program_there tree (none_is tree (sym h.first)) in (
      there.0,
      ap (λ z. option_map (program_node z) (both fields methods)) table
          ∙ ap (λ f. option_map (program_node (table_of tree)) (both f methods)) h.fields_are
          ∙ ap (λ m. option_map (program_node (table_of tree)) (both (all_there (all_core_fields (table_of tree) 0 tree)) m)) h.methods_are
          ∙ there.1,
    )

-- the classes of all methods are those that the table tells
pub all_owned : (tree classes : ProgramTree) (t : TableData) (fields : Option (List Field)) (methods : Option (List Method))
    → classes ≡ tree → t ≡ table_of tree → Found tree None fields methods
    → IfSome methods (λ ms. map (λ (m : Method). m.class) ms ≡ map (λ (m : MethodData). m.class) t.methods)
all_owned tree classes t fields methods whole table h =
    let (P, node) = all_are_there tree classes t fields methods whole table h in
    let core = made tree classes t fields methods P whole table h (sym node) in
    let owned = methods_owned tree P (built tree P core.core) in
    by_methods P owned fields methods node
  where
    by_methods : (P : Program) → map (λ (m : Method). m.class) P.methods ≡ map (λ (m : MethodData). m.class) (table_of tree).methods
        → (fs : Option (List Field)) (ms : Option (List Method)) → option_map (program_node t) (both fs ms) ≡ Some P
        → IfSome ms (λ ms. map (λ (m : Method). m.class) ms ≡ map (λ (m : MethodData). m.class) t.methods)
    by_methods P owned fs None node = tt
    by_methods P owned None (Some ms) node = absurd (none-some P node)
    by_methods P owned (Some fs) (Some ms) node =
        ap (λ (Q : Program). map (λ (m : Method). m.class) Q.methods) (same_Some (program_node t (fs, ms)) P node)
        ∙ owned ∙ ap (λ (z : TableData). map (λ (m : MethodData). m.class) z.methods) (sym table)

-- the classes of the methods in memory, where those of the methods as plain data are these
pub owned_there : (owners : List ℕ) (items : Option (List CoreMethod)) (all : Option (Vec CoreMethod Global)) (methods : Vec CoreMethod Global) → option_map (λ v. v.items) all ≡ items → all ≡ Some methods
    → IfSome (option_map (map method_of) items) (λ ms. map (λ (m : Method). m.class) ms ≡ owners) → map (λ (m : CoreMethod). m.class) methods.items ≡ owners
owned_there owners items all methods are is owned =
    let there = sym are ∙ ap (option_map (λ (v : Vec CoreMethod Global). v.items)) is in
    sym (map-map (λ (m : Method). m.class) method_of methods.items)
    ∙ subst (λ o. IfSome (option_map (map method_of) o) (λ ms. map (λ (m : Method). m.class) ms ≡ owners)) there owned
