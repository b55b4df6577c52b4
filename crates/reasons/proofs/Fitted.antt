-- Where it is told of a variable or a field that it isn't final, it helps to make it final.
use Rattle.std.proofs.Common.{◌≡◌, ℕ, Bool, true, false, not, List, Option, Some, None, slice_get, refl, sym, ap, subst, ◌∙◌, if◌then◌else◌}
use Rattle.std.proofs.lemmas.Bool.{and_parts, false≢true, not-true}
use Rattle.std.proofs.lemmas.Option.{none-some, same_Some}
use Rattle.algebra.specs.declared.basic.Basic.{Basic}
use Rattle.algebra.specs.Basics.{below_of}
use Rattle.core_program.specs.Core.{Method, Program}
use Rattle.explain.specs.declared.names.Alias.{Alias}
use Rattle.explain.specs.declared.names.Lack.{Lack}
use Rattle.explain.specs.declared.names.Lack.TheVariants as lacks
use Rattle.explain.specs.FinalFields.{can_be_final, field_finalised}
use Rattle.explain.specs.Finalising.{assigns, finalised}
use Rattle.explain.specs.Fitting.{final_fits, first_lack, fitting, fitting_of, IsFitting}
use Rattle.explain.specs.Whys.{ExplainedData}
use Rattle.paths.specs.Paths.{PathData}
use Rattle.rules.specs.Effect.{Assignment}

none_or_other : {X : Type 0} (b : Bool) (x : X) → (if b then Some x else None) ≡ None → b ≡ false
none_or_other true x is = absurd (none-some x (sym is))
none_or_other false x is = refl

module _ (P : Program) (rel : ℕ → List PathData) (A : Assignment) where
  fits : (method : Method) (limit : Basic) (x : Lack) → final_fits P rel A method limit x ≡ true → IsFitting P rel A method limit x
  fits method limit (lacks.Variable x) is =
      let parts = and_parts (not (assigns x method.body)) (below_of (finalised P rel A method x) limit) is in
      record { kept = not-true (assigns x method.body) parts.0; within = parts.1 }
  fits method limit (lacks.Field f) is =
      let parts = and_parts (can_be_final P f) (below_of (field_finalised P rel A method f) limit) is in
      record { can_be = parts.0; within = parts.1 }
  fits method limit lacks.Long is = absurd (false≢true is)
  fits method limit lacks.Value is = absurd (false≢true is)

  one_fits : (method : Method) (limit : Basic) (o : Option Lack) (x : Lack) → fitting_of P rel A (Some method) limit o ≡ Some x → (o ≡ Some x) × IsFitting P rel A method limit x
  one_fits method limit None x is = absurd (none-some x is)
  one_fits method limit (Some y) x is = by (final_fits P rel A method limit y) refl is
    where
      by : (b : Bool) → final_fits P rel A method limit y ≡ b → (if b then Some y else None) ≡ Some x → (Some y ≡ Some x) × IsFitting P rel A method limit x
      by true passes e = (e, subst (IsFitting P rel A method limit) (same_Some y x e) (fits method limit y passes))
      by false passes e = absurd (none-some x e)

  module _ (aliases : List Alias) (x : ExplainedData) (method : Method) (there : slice_get P.methods x.method ≡ Some method) where
    at_method : fitting P rel A aliases x ≡ fitting_of P rel A (Some method) x.limit (first_lack P rel A aliases x.why)
    at_method = ap (λ m. fitting_of P rel A m x.limit (first_lack P rel A aliases x.why)) there

    pub told_first : (lack : Lack) → fitting P rel A aliases x ≡ Some lack → first_lack P rel A aliases x.why ≡ Some lack
    told_first lack is = (one_fits method x.limit (first_lack P rel A aliases x.why) lack (sym at_method ∙ is)).0

    pub told_fits : (lack : Lack) → fitting P rel A aliases x ≡ Some lack → IsFitting P rel A method x.limit lack
    told_fits lack is = (one_fits method x.limit (first_lack P rel A aliases x.why) lack (sym at_method ∙ is)).1

    pub none_fits : (lack : Lack) → first_lack P rel A aliases x.why ≡ Some lack → fitting P rel A aliases x ≡ None → final_fits P rel A method x.limit lack ≡ false
    none_fits lack first is =
        none_or_other (final_fits P rel A method x.limit lack) lack (ap (fitting_of P rel A (Some method) x.limit) (sym first) ∙ sym at_method ∙ is)
