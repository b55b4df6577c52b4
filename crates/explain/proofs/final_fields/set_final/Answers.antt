-- A field that isn't there, and one that gets another finality.
use Rattle.std.proofs.Common.{ap, sym, ◌∙◌, arith, map, slice_get}
use Rattle.std.proofs.lemmas.List.{length-map}
use Rattle.std.proofs.lemmas.Option.{get_or_from_slice_get, none-some, slice_get_past}
use Rattle.core_program.specs.declared.program.CoreField.{CoreField}
use Rattle.core_program.specs.Views.{field_of}
use Rattle.explain.specs.OneFinal.{with_finality}
use Rattle.explain.proofs.OneFinal.{finality_past, finality_read, finality_set}
use Rattle.explain.proofs.final_fields.set_final.Goals as goal

pub returns-then-place-len-clause-made : goal.returns-then-place-len-clause-made
returns-then-place-len-clause-made c =
    let fields = c.args.fields.now.items in
    sym (finality_past (map field_of fields) c.args.field c.args.is_final (omega (arith, length-map fields field_of, c.if-place-len.true, c.len.ensures, c.args.fields.now.ok, c.field.view_is)))

pub returns-then-place-len-clause-was : goal.returns-then-place-len-clause-was
returns-then-place-len-clause-was c =
    let fields = c.args.fields.now.items in
    let past = slice_get_past (map field_of fields) c.args.field (omega (arith, length-map fields field_of, c.if-place-len.true, c.len.ensures, c.args.fields.now.ok, c.field.view_is)) in
    λ x is. absurd (none-some x (sym past ∙ is))

pub returns-clause-made : goal.returns-clause-made
returns-clause-made c =
    let fields = c.args.fields.now.items in
    finality_set fields c.field.inside.0 c.args.is_final _
    (λ was is. ap (λ (x : CoreField). record (field_of x) { is_final = c.args.is_final }) (c.index_mut.ensures.value ∙ get_or_from_slice_get fields c.field.inside.0 was _ is))
    ∙ ap (λ k. with_finality k c.args.is_final (map field_of fields)) c.field.view_is

pub returns-clause-was : goal.returns-clause-was
returns-clause-was c =
    let fields = c.args.fields.now.items in
    λ x is.
    finality_read fields c.field.inside.0 c.index.result.now x (ap (λ k. slice_get (map field_of fields) k) c.field.view_is ∙ is) ∙ ap (λ (row : CoreField). row.is_final) (sym c.index.ensures)
