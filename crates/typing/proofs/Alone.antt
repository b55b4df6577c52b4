-- Where no class extends another, a core class has its own members alone.
use Rattle.std.proofs.Common.{◌≡◌, ◌<◌, ◌+◌, ◌==◌, ℕ, suc, Bool, true, false, List, [], ◌∷◌, map, filter, length, Some, None, refl, sym, ap, ap₂, ◌∙◌, arith, slice_get, if◌then◌else◌}
use Rattle.std.specs.Prelude.{codes}
use Rattle.std.proofs.Math.Path.{fun_ext}
use Rattle.std.proofs.lemmas.Bool.{eqb-true}
use Rattle.std.proofs.lemmas.Option.{slice_get_within}
use Rattle.base.proofs.NumberLemmas.{eqb_turned}
use Rattle.core_program.specs.Core.{Program, Method}
use Rattle.core_program.specs.Typed.{fields_from, is_final_at}
use Rattle.syntax.specs.Trees.{ClassTree, ProgramTree}
use Rattle.classes.specs.Faults as class_fault
use Rattle.classes.specs.Lines.{ancestors, says_in, says_so}
use Rattle.classes.proofs.Faultless.{faultless, nothing_above, nothing_counts}
use Rattle.classes.specs.Table.{TableData, MethodData, above_in_table, is_of_kind, own_method, method_number, table_of}
use Rattle.typing.specs.Alone.{AreAlone, own_targets, class_alone}
use Rattle.typing.specs.Classes.{is_final_in, field_numbers, inherited_count, fields_of_each, runner, targets_from}
use Rattle.typing.specs.Order.{IsLined}
use Rattle.typing.specs.Programs.{IsCoreOf}
use Rattle.typing.proofs.Ancestry.{kind_top, nothing_above_it}
use Rattle.typing.proofs.Agreement.{core_class, methods_owned, numbers}
use Rattle.typing.proofs.Built.{built}
use Rattle.typing.proofs.Lined.{fields_top, named_top}
use Rattle.typing.proofs.Paired.{own_runs}
use Rattle.typing.proofs.Parts.{head_same, tail_same}
use Rattle.typing.proofs.TreeLines.{the_table, place, above_same, table_long, lined}
use Rattle.typing.proofs.TypedClasses.{finality_same}

module _ (t : TableData) (lined : IsLined t) (k : ℕ) (low : k < length t.classes) (none : above_in_table t k ≡ None) where
  alone_pairs : (n : ℕ) (ds : List MethodData) (ms : List Method) → map (λ (m : Method). m.class) ms ≡ map (λ (d : MethodData). d.class) ds
      → ((i j : ℕ) (d : MethodData) → j ≡ n + i → slice_get ds i ≡ Some d → slice_get t.methods j ≡ Some d) → targets_from t k n ds ≡ own_targets k n ms
  alone_pairs n [] [] same there = refl
  alone_pairs n [] (m ∷ ms) same there = absurd (let e : m.class ∷ map (λ (m : Method). m.class) ms ≡ [] = same in cc)
  alone_pairs n (d ∷ ds) [] same there = absurd (let e : [] ≡ d.class ∷ map (λ (d : MethodData). d.class) ds = same in cc)
  alone_pairs n (d ∷ ds) (m ∷ ms) same there =
      let rest = alone_pairs (n + 1) ds ms (tail_same m.class d.class (map (λ (m : Method). m.class) ms) (map (λ (d : MethodData). d.class) ds) same) (λ i j x number is. there (suc i) j x (omega (arith, number)) is) in
      let class_is = head_same m.class d.class (map (λ (m : Method). m.class) ms) (map (λ (d : MethodData). d.class) ds) same in
      let kind : is_of_kind t k d.class ≡ (m.class == k) =
      kind_top (above_in_table t) (length t.classes) lined.below lined.apart k d.class low none ∙ eqb_turned k d.class ∙ ap (λ z. z == k) (sym class_is) in
      step (m.class == k) (is_of_kind t k d.class) refl kind rest
    where
      step : (b kind : Bool) → (m.class == k) ≡ b → kind ≡ b → targets_from t k (n + 1) ds ≡ own_targets k (n + 1) ms
          → (if kind then (n, runner t k n d) ∷ targets_from t k (n + 1) ds else targets_from t k (n + 1) ds) ≡ (if b then (n, n) ∷ own_targets k (n + 1) ms else own_targets k (n + 1) ms)
      step true kind test is rest =
          let mine : d.class ≡ k = sym (head_same m.class d.class (map (λ (m : Method). m.class) ms) (map (λ (d : MethodData). d.class) ds) same) ∙ eqb-true m.class k test in
          ap (λ b. if b then (n, runner t k n d) ∷ targets_from t k (n + 1) ds else targets_from t k (n + 1) ds) is
          ∙ ap₂ (λ j ps. (n, j) ∷ ps) (own_runs t lined k n d low (there 0 n d (omega arith) refl) mine) rest
      step false kind test is rest = ap (λ b. if b then (n, runner t k n d) ∷ targets_from t k (n + 1) ds else targets_from t k (n + 1) ds) is ∙ rest

-- nothing is above a class in the table
table_alone : (tree : ProgramTree) → AreAlone tree → (k : ℕ) → above_in_table (the_table tree) k ≡ None
table_alone tree alone k = ap (λ f. f k) (above_same tree) ∙ nothing_above tree alone k

pub none_inherited : (tree : ProgramTree) → AreAlone tree → (k : ℕ) → inherited_count (table_of tree) k ≡ 0
none_inherited tree alone k =
    ap (λ ks. length (fields_of_each (the_table tree) ks))
    (ap (λ o. ancestors (above_in_table (the_table tree)) (length (the_table tree).classes) o) (table_alone tree alone k)
    ∙ nothing_above_it (above_in_table (the_table tree)) (length (the_table tree).classes))

pub alone_classes : (tree : ProgramTree) (P : Program) → class_fault.all_class_faults tree ≡ [] → AreAlone tree → IsCoreOf tree P → (k : ℕ) (c : ClassTree) → slice_get tree k ≡ Some c
    → slice_get P.classes k ≡ Some (class_alone (table_of tree) P.fields P.methods k c)
alone_classes tree P none alone core k c at =
    let b = built tree P core.core in
    let whole = faultless tree none in
    let t = the_table tree in
    let in_line = lined tree whole in
    let p = place tree k c at in
    let entry = p.entry in
    let low : k < length t.classes = let w = slice_get_within tree k c at in omega (arith, w, table_long tree) in
    let top : above_in_table t k ≡ None = table_alone tree alone k in
    let own : field_numbers t k ≡ fields_from k 0 P.fields = fields_top t in_line k top ∙ sym (numbers tree P b k c at) in
    let runnable : says_so tree k ≡ c.runnable = (nothing_counts tree k (nothing_above tree alone k)).0 ∙ ap says_in at in
    let run : (if says_so tree k then method_number t k (codes "run") else None) ≡ (if c.runnable then own_method t (codes "run") k else None) =
    ap (λ z. if z then method_number t k (codes "run") else None) runnable ∙ ap (λ o. if c.runnable then o else None) (named_top t in_line (codes "run") k top) in
    let pairs : targets_from t k 0 t.methods ≡ own_targets k 0 P.methods =
    alone_pairs t in_line k low top 0 t.methods P.methods (methods_owned tree P b) (λ i j d number is. let same : j ≡ i = omega (arith, number) in ap (slice_get t.methods) same ∙ is) in
    let test : (λ f. is_final_in (slice_get t.fields f)) ≡ (λ f. is_final_at (slice_get P.fields f)) = fun_ext (finality_same tree P b whole) in
    core_class tree P b k _ entry
    ∙ (λ i. Some (record {
      fields = own i;
      finals = filter (test i) (own i);
      run = run i;
      above = nothing_above tree alone k i;
      targets = pairs i;
    }))
