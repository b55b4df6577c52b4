use Rattle.std.proofs.Common.{◌≡◌, Some, [], ap, sym, ◌∙◌, option_map}
use Rattle.std.proofs.lemmas.Result.{IfOk-weaker}
use Rattle.classes.specs.Views.{class_data, table_data}
use Rattle.core_program.specs.Kept.{kept_class}
use Rattle.typing.specs.Kept.{class_part, part_of_number}
use Rattle.typing.specs.Merged.{class_over}
use Rattle.typing.proofs.Filling.{known_below}
use Rattle.typing.proofs.Inheriting.{entry_at, entry_above, class_made_on, class_made_top}
use Rattle.typing.proofs.class_bodies.class_at.Goals as goal

pub returns-in_default : goal.returns-in_default
returns-in_default c =
    let t = table_data c.args.table.now in
    let class = c.value_of-class.result.now in
    let at = entry_at class_data t c.classes.result.now c.args.id class c.classes.ensures c.value_of-class.ensures in
    IfOk-weaker c.core_class.result (λ made. kept_class made ≡ class_over t (class_data class) c.args.run []) (λ made. Some (kept_class made) ≡ part_of_number t c.args.id)
    (λ made is. class_made_top t c.requires.lined c.args.id (class_data class) (kept_class made) c.args.run at (entry_above t c.args.id (class_data class) at ∙ c.in_default.is) c.requires.run is)
    c.core_class.ensures

pub value_of-above-requires : goal.value_of-above-requires
value_of-above-requires c =
    let t = table_data c.args.table.now in
    let class = c.value_of-class.result.now in
    let d = c.in-Some.above in
    let at = entry_at class_data t c.classes.result.now c.args.id class c.classes.ensures c.value_of-class.ensures in
    let above = entry_above t c.args.id (class_data class) at ∙ c.in-Some.is in record {
      within = known_below kept_class (class_part t d) c.args.known.now t.classes d (c.requires.lined.below c.args.id d above) (c.requires.above d above);
    }

pub returns : goal.returns
returns c =
    let t = table_data c.args.table.now in
    let class = c.value_of-class.result.now in
    let d = c.in-Some.above in
    let over = c.value_of-above.result.now in
    let at = entry_at class_data t c.classes.result.now c.args.id class c.classes.ensures c.value_of-class.ensures in
    let above = entry_above t c.args.id (class_data class) at ∙ c.in-Some.is in
    IfOk-weaker c.core_class-2.result (λ made. kept_class made ≡ class_over t (class_data class) c.args.run c.as_slice.result.now) (λ made. Some (kept_class made) ≡ part_of_number t c.args.id)
    (λ made is.
    class_made_on t c.requires.lined c.args.id d (class_data class) (kept_class made) (kept_class over) c.args.run at above
    (ap (option_map kept_class) (sym c.value_of-above.ensures) ∙ c.requires.above d above) c.requires.run
    (is ∙ ap (class_over t (class_data class) c.args.run) c.as_slice.ensures.value))
    c.core_class-2.ensures
