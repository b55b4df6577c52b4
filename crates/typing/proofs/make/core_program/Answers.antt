-- What the program keeps tells the classes of the table.
use Rattle.std.proofs.Common.{List, map, sym, ap, subst, ◌∙◌}
use Rattle.classes.specs.Views.{table_data}
use Rattle.core_program.specs.declared.program.CoreMethod.{CoreMethod}
use Rattle.core_program.specs.Pairs.{KeptClass, AreNamedOnce, AreOwned, class_with_pairs}
use Rattle.core_program.specs.Views.{field_of, method_of}
use Rattle.typing.proofs.Numbered.{classes_as, named_once, owned_as}
use Rattle.typing.proofs.make.core_program.Goals as goal

pub invariant_of-result-clause-few : goal.invariant_of-result-clause-few
invariant_of-result-clause-few c = c.in_ok-names.ensures.few

pub invariant_of-result-clause-named : goal.invariant_of-result-clause-named
invariant_of-result-clause-named c =
    let numbers = c.in_ok-names.names.items in
    subst (λ (kept : List KeptClass). AreNamedOnce kept numbers) (sym c.in_ok-classes.ensures)
    (named_once (table_data c.args.table.now) c.requires.lined numbers c.in_ok-names.ensures.numbered)

pub invariant_of-result-clause-owned : goal.invariant_of-result-clause-owned
invariant_of-result-clause-owned c =
    let numbers = c.in_ok-names.names.items in
    let owners = map (λ (m : CoreMethod). m.class) c.args.methods.items in
    subst (λ (kept : List KeptClass). AreOwned kept numbers owners) (sym c.in_ok-classes.ensures)
    (owned_as (table_data c.args.table.now) c.requires.lined numbers c.in_ok-names.ensures.numbered owners c.requires.owned)

pub returns : goal.returns
returns c =
    let t = table_data c.args.table.now in
    let numbers = c.in_ok-names.names.items in
    let classes = ap (λ (kept : List KeptClass). map (class_with_pairs kept numbers) kept) c.in_ok-classes.ensures ∙ classes_as t c.requires.lined numbers c.in_ok-names.ensures.numbered in
    let main_class = c.main_class-main_class.ensures in
    let main = c.main_method-main.ensures main_class in
    λ i. record {
      classes = classes i;
      fields = map field_of c.args.fields.items;
      methods = map method_of c.args.methods.items;
      main_class = main_class i;
      main = main i;
    }
