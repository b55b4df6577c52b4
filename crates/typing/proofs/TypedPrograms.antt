-- The core program of a program without faults is typed.
use Rattle.std.proofs.Common.{Result, Ok, Err, MatchResult, IfOk, ◌≡◌, ℕ, ◌+◌, ◌<◌, ◌≤◌, Bool, true, false, ◌&&◌, List, [], ◌∷◌, ◌++◌, map, flat_map, length, Option, Some, None, is_some, refl, ap, sym, ◌∙◌, subst, slice_get, position, bytes_eq, arith, option_map, unwrap_or, if◌then◌else◌}
use Rattle.std.specs.Prelude.{codes}
use Rattle.std.specs.List.{list_any}
use Rattle.std.proofs.lemmas.Bool.{and_parts}
use Rattle.std.proofs.lemmas.List.{length-map}
use Rattle.std.proofs.lemmas.Option.{slice_get_within, same_Some}
use Rattle.std.proofs.lemmas.Slice.Eq.{bytes_eq-Decides}
use Rattle.lexer.specs.declared.tokens.Token.{Token}
use Rattle.paths.specs.Paths.{PathData}
use Rattle.core_program.specs.Core.{Program, Class, Method, Stmts}
use Rattle.core_program.specs.Dispatch.{Overrides}
use Rattle.core_program.specs.Sizes.{stmt_nodes}
use Rattle.core_program.specs.Types.{Variable}
use Rattle.core_program.specs.Typed as typed
use Rattle.core_program.specs.Typed.{IsEntry, IsType, IsLock, size_of, most_nodes, AreAlike, IsTypedMethod, AreTypedStmts, IsTyped}
use Rattle.syntax.specs.Grammar.{Grammar, Repeats, SpellsClass}
use Rattle.syntax.specs.Limits.{most_tokens}
use Rattle.syntax.specs.Trees.{LockTree, MethodTree, ProgramTree}
use Rattle.classes.specs.Members.{has_none, finals_of, class_names, is_entry}
use Rattle.classes.specs.Lines.{all_members}
use Rattle.classes.specs.Faults.{is_class_in}
use Rattle.classes.specs.Faults as class_fault
use Rattle.classes.proofs.Faultless as class_rules
use Rattle.classes.proofs.Faultless.{IsFaultless, faultless}
use Rattle.classes.specs.Table.{TableData, ClassData, type_of, class_number, method_number, table_of}
use Rattle.typing.specs.declared.fault.TypeFault.TheVariants.{MissingReturn}
use Rattle.typing.specs.Completion.{completes_each}
use Rattle.typing.specs.Locks.{lock_rule}
use Rattle.typing.specs.Rulings.{gain, loss, both}
use Rattle.typing.specs.Stmts.{block_core, block_faults}
use Rattle.typing.specs.Classes.{inherited_count, class_core}
use Rattle.typing.specs.Programs.{all_there, ascending, method_scope, method_result, method_node, missing_return, IsCoreOf}
use Rattle.typing.proofs.Agreement.{core_class, classes_many}
use Rattle.typing.proofs.Built.{IsBuilt, built, method_is, place_of_name}
use Rattle.typing.proofs.Complete.{back_empty}
use Rattle.typing.proofs.Inversions.{gain_of, both_of}
use Rattle.typing.proofs.Overridden.{entry_there, overriding_alike}
use Rattle.classes.proofs.Parts.{Each, each_at, mapped_at}
use Rattle.typing.proofs.Parts.{all_of, there_are, part_at, as_many, head_same, tail_same}
use Rattle.base.proofs.Lists.{get_below}
use Rattle.base.proofs.Options.{map_parts}
use Rattle.typing.proofs.PathsInOrder.{each_ascending, sorted_ascending}
use Rattle.typing.proofs.Places.{MethodAt, fields_at, methods_at, core_field, core_method, method_classes_between}
use Rattle.typing.proofs.Spelled.{program_long}
use Rattle.typing.proofs.TreeLines.{the_table, table_long}
use Rattle.typing.proofs.TypedExprs.{Seen}
use Rattle.typing.proofs.TypedLocks.{lock_holds}
use Rattle.typing.proofs.TypedStmts.{AreFine, block_fine}
use Rattle.typing.proofs.MemberFacts.{all_guarded, IsLow, all_low, IsKnownMethod, HasNoFaults, all_faultless, all_size, bodies_long}
use Rattle.typing.proofs.StmtSizes.{stmt_sizes}
use Rattle.typing.proofs.SeenScopes.{params_seen}
use Rattle.typing.proofs.EqualSignatures.{param_pair}
use Rattle.typing.proofs.TypedClasses.{agrees, fields_known, methods_known, method_params_known, result_known, params_known, none_kept, field_typed, class_typed}

never_completes : (some done : Bool) (at : ℕ) → some ≡ true → (if some && done then MissingReturn at ∷ [] else []) ≡ [] → done ≡ false
never_completes true true at is h = absurd (let e : MissingReturn at ∷ [] ≡ [] = h in cc)
never_completes true false at is h = refl
never_completes false done at is h = absurd (let e : false ≡ true = is in cc)

some_mapped : {A B : Type 0} (f : A → B) (o : Option A) → is_some (option_map f o) ≡ true → is_some o ≡ true
some_mapped f (Some a) h = refl
some_mapped f None h = h

module _ (tree : ProgramTree) (P : Program) (b : IsBuilt tree P) (whole : IsFaultless tree) where
  abbrev t : TableData
  t = the_table tree

  abbrev known_in : List ℕ → Bool
  known_in = is_class_in tree

  -- ---- main

  pub record IsMain : Type 0 where
    entry_data : ClassData
    at : slice_get t.classes P.main_class ≡ Some entry_data
    pub entry : IsEntry P P.main_class P.main
    plain : has_none (finals_of (all_members tree P.main_class)) ≡ true

  pub main_is_there : IsMain
  main_is_there =
      let c = class_rules.main_class tree whole in
      let C = c.1 in
      let named = and_parts (bytes_eq C.name.text (codes "Main")) (has_none (finals_of (all_members tree c.0)) && list_any (is_entry (codes "main")) (all_members tree c.0)) c.3 in
      let rest = and_parts (has_none (finals_of (all_members tree c.0))) (list_any (is_entry (codes "main")) (all_members tree c.0)) named.1 in
      let text_is : C.name.text ≡ codes "Main" = (bytes_eq-Decides C.name.text (codes "Main")).0 named.0 in
      let number : class_number t (codes "Main") ≡ Some c.0 =
      ap (λ z. position (bytes_eq z) t.names) (sym text_is)
      ∙ place_of_name (class_names tree) whole.names c.0 C.name (mapped_at (λ c. c.name) tree c.0 C c.2) in
      let class_is : P.main_class ≡ c.0 = b.main_class_is ∙ ap (λ o. unwrap_or o 0) number in
      let low : c.0 < length t.classes = let w = slice_get_within tree c.0 C c.2 in omega (arith, w, table_long tree) in
      let row = get_below t.classes c.0 low in
      let e = entry_there tree P b whole (fields_known tree P b whole) (method_params_known tree P b whole) (codes "main") c.0 low rest.1 in
      let main_found : P.main ≡ e.0 =
      b.main_is ∙ ap (λ k. unwrap_or (method_number t k (codes "main")) 0) (sym b.main_class_is ∙ class_is) ∙ ap (λ o. unwrap_or o 0) e.1 in
      record {
        entry_data = row.0;
        at = ap (slice_get t.classes) class_is ∙ row.1;
        entry = subst (λ k. IsEntry P k P.main) (sym class_is) (subst (IsEntry P c.0) (sym main_found) e.2);
        plain = ap (λ k. has_none (finals_of (all_members tree k))) class_is ∙ rest.0;
      }

  pub no_finals : (class : Class) → slice_get P.classes P.main_class ≡ Some class → class.finals ≡ []
  no_finals class at =
      let m = main_is_there in
      ap (λ (z : Class). z.finals) (sym (same_Some (class_core t P.main_class m.entry_data) class (sym (core_class tree P b P.main_class m.entry_data m.at) ∙ at)))
      ∙ none_kept tree P b whole P.main_class m.plain

  pub methods_alike : (over m : ℕ) (first second : Method) → Overrides P over m → slice_get P.methods over ≡ Some first → slice_get P.methods m ≡ Some second → AreAlike first second
  methods_alike = overriding_alike tree P b whole (fields_known tree P b whole) (method_params_known tree P b whole)

  -- ---- methods

  -- the variables of a method at its beginning
  abbrev vars_of : MethodTree → List Variable
  vars_of m = typed.parameters_in_scope 1 (map (param_pair t.names) m.params)

  seen_in : (m : MethodTree) → Seen (method_scope t m) (vars_of m)
  seen_in m = params_seen t 1 m.params (omega arith)

  locks_hold : (k : ℕ) (m : MethodTree) (ls : List LockTree) (ps : List PathData) → map (λ l. gain (lock_rule t k (method_scope t m) l)) ls ≡ map Some ps → Each (IsLock P k (vars_of m)) ps
  locks_hold k m [] [] e = tt
  locks_hold k m [] (p ∷ ps) e = absurd (let x : [] ≡ Some p ∷ map Some ps = e in cc)
  locks_hold k m (l ∷ ls) [] e = absurd (let x : gain (lock_rule t k (method_scope t m) l) ∷ map (λ l. gain (lock_rule t k (method_scope t m) l)) ls ≡ [] = e in cc)
  locks_hold k m (l ∷ ls) (p ∷ ps) e =
      let one = gain (lock_rule t k (method_scope t m) l) in
      let rest = map (λ l. gain (lock_rule t k (method_scope t m) l)) ls in (
        lock_holds t P (agrees tree P b whole) k (vars_of m) (method_scope t m) (seen_in m) l p
            (gain_of (lock_rule t k (method_scope t m) l) p (head_same one (Some p) rest (map Some ps) e)),
        locks_hold k m ls ps (tail_same one (Some p) rest (map Some ps) e),
      )

  body_fine : (d : MethodAt) (stmts : Stmts)
      → block_core t d.class (method_result t d.method) (1 + length d.method.params) (method_scope t d.method) 0 d.method.body ≡ Some stmts
      → AreFine t P (agrees tree P b whole) d.class (method_result t d.method) (1 + length d.method.params) (omega arith) (vars_of d.method) 0 d.method.body stmts
  body_fine d stmts is =
      block_fine t P (agrees tree P b whole) d.class (method_result t d.method) (1 + length d.method.params) (omega arith)
      (method_scope t d.method) (vars_of d.method) (seen_in d.method) 0 d.method.body stmts is

  -- a body has no more nodes than the statements of its method
  body_long : (d : MethodAt) (x : Method) → core_method t d ≡ Some x → stmt_nodes x.body ≤ 1 + stmt_sizes d.method.body
  body_long d x h =
      let paths = all_there (map (λ l. gain (lock_rule t d.class (method_scope t d.method) l)) d.method.locks) in
      let stmts = block_core t d.class (method_result t d.method) (1 + length d.method.params) (method_scope t d.method) 0 d.method.body in
      let p = map_parts (method_node t d.class d.method) (both paths stmts) x h in
      let fine = body_fine d p.0.1 (both_of paths stmts p.0 p.1).1 in
      subst (λ z. stmt_nodes z.body ≤ 1 + stmt_sizes d.method.body) p.2 (omega (arith, fine.nodes))

  module _ (low : Each IsLow (methods_at 0 tree)) (faultless : Each (HasNoFaults t) (methods_at 0 tree)) where
    pub method_typed : (m : ℕ) (method : Method) → slice_get P.methods m ≡ Some method → IsTypedMethod P method
    method_typed m method at =
        let r = part_at (core_method t) (methods_at 0 tree) P.methods b.methods m method at in
        let d = r.0 in
        let is = method_is t P m d method at r.2 in
        let fine = body_fine d is.stmts is.body in
        let within = (each_at (λ d. (0 ≤ d.class) × (d.class < 0 + length tree)) (methods_at 0 tree) m d (method_classes_between 0 tree) r.1).1 in
        let known = each_at (IsKnownMethod known_in) (methods_at 0 tree) m d (methods_known tree P b whole) r.1 in
        let many = length-map d.method.params (param_pair t.names) in
        let faults = flat_map (λ l. loss (lock_rule t d.class (method_scope t d.method) l)) d.method.locks in
        let inner = block_faults t d.class (method_result t d.method) (1 + length d.method.params) (method_scope t d.method) 0 true d.method.body in
        let ends : missing_return t d.method ≡ [] =
        back_empty inner (missing_return t d.method)
        (back_empty faults (inner ++ missing_return t d.method) (each_at (HasNoFaults t) (methods_at 0 tree) m d faultless r.1)) in
        let next : 1 + length d.method.params + 0 ≡ 1 + length (map (param_pair t.names) d.method.params) = omega (arith, many) in
        subst (IsTypedMethod P) is.node (record {
          class = omega (arith, within, classes_many tree P b);
          params = all_of (λ p. IsType P p.1) (map (param_pair t.names) d.method.params) (params_known tree P b whole d.method.params known.params);
          result = result_known tree P b whole d.method.returns known.result;
          locks = all_of (IsLock P d.class (vars_of d.method)) (ascending is.paths)
              (each_ascending (IsLock P d.class (vars_of d.method)) is.paths
              (locks_hold d.class d.method d.method.locks is.paths
              (there_are (map (λ l. gain (lock_rule t d.class (method_scope t d.method) l)) d.method.locks) is.paths is.locks)));
          ascending = sorted_ascending is.paths;
          slots = omega (arith, many, fine.declare);
          body = subst (AreTypedStmts P d.class (method_result t d.method) is.stmts (vars_of d.method)) next fine.are_typed;
          returns = λ some. fine.ends ∙ never_completes (is_some d.method.returns) (completes_each d.method.body) d.method.end (some_mapped (type_of t.names) d.method.returns some) ends;
          low = omega (arith, fine.height, each_at IsLow (methods_at 0 tree) m d low r.1);
          few_params = omega (arith, many, known.few);
          few_locals = omega (arith, fine.declare, fine.low (omega arith));
        })

  -- ---- size

  pub size_is_low : (ts : List Token) → Repeats SpellsClass tree ts → length ts ≤ most_tokens → size_of P ≤ most_nodes
  size_is_low ts wide few =
      omega (
        arith,
        few,
        program_long tree ts wide,
        all_size (inherited_count t) 0 tree,
        classes_many tree P b,
        as_many (core_field t) (fields_at (inherited_count t) 0 tree) P.fields b.fields,
        as_many (core_method t) (methods_at 0 tree) P.methods b.methods,
        bodies_long t (methods_at 0 tree) P.methods b.methods body_long,
      )

-- the core program of a tree that the grammar relates to a source's tokens is typed
pub core_is_typed : (tree : ProgramTree) (P : Program) (ts : List Token) → class_fault.all_class_faults tree ≡ [] → IsCoreOf tree P → Grammar ts tree
    → length ts ≤ most_tokens → IsTyped P
core_is_typed tree P ts sound_tree core grammar few =
    let b = built tree P core.core in
    let whole = faultless tree sound_tree in
    record {
      classes = class_typed tree P b whole;
      overriding = methods_alike tree P b whole;
      fields = field_typed tree P b whole (all_guarded (inherited_count (table_of tree)) 0 tree ts grammar.0);
      methods = method_typed tree P b whole (all_low 0 tree grammar.1) (all_faultless (table_of tree) 0 tree core.faultless);
      main = (main_is_there tree P b whole).entry;
      no_finals = no_finals tree P b whole;
      size = size_is_low tree P b whole ts grammar.0 few;
    }

-- so is what answers with it
pub result_typed : {A E : Type 0} (view : A → Program) (bad : E → Type 0) (result : Result A E) (tree : ProgramTree) → class_fault.all_class_faults tree ≡ []
    → MatchResult result (λ p. IsCoreOf tree (view p)) bad
    → (ts : List Token) → length ts ≤ most_tokens → Grammar ts tree → IfOk result (λ p. IsTyped (view p))
result_typed view bad (Ok p) tree sound_tree core ts few grammar = core_is_typed tree (view p) ts sound_tree core grammar few
result_typed view bad (Err e) tree sound_tree core ts few grammar = tt
