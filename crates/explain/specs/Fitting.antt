-- Of which variable or field a told method is asked whether it should be final, and whether that helps. Only one is asked: where the method
-- lacks names by two of them, to make one final seldom helps.
use Rattle.std.specs.Prelude.{◌≡◌, ℕ, Bool, true, false, List, Option, Some, None, slice_get, if◌then◌else◌}
use Rattle.std.specs.Option.{option_or}
use Rattle.paths.specs.Paths.{PathData}
use Rattle.algebra.specs.declared.basic.Basic.{Basic}
use Rattle.core_program.specs.Core.{Program, Method}
use Rattle.rules.specs.Effect.{Assignment}
use Rattle.rules.specs.Rules.{AtMost}
use Rattle.explain.specs.declared.causes.Cause.{Cause}
use Rattle.explain.specs.declared.causes.Cause.TheVariants as cause
use Rattle.explain.specs.declared.deeds.Help.{Help}
use Rattle.explain.specs.declared.deeds.Help.TheVariants as helps
use Rattle.explain.specs.declared.names.Alias.{Alias}
use Rattle.explain.specs.declared.names.Lack.{Lack}
use Rattle.explain.specs.declared.names.Lack.TheVariants as lack
use Rattle.explain.specs.Causes.{cause_of}
use Rattle.explain.specs.Deeds.{help_of}
use Rattle.explain.specs.FinalFields.{can_be_final, field_finalised, final_field_fits}
use Rattle.explain.specs.Finalising.{assigns, final_variable_fits, finalised}
use Rattle.explain.specs.Visits.{Visit}
use Rattle.explain.specs.Whys.{WhyData, Wrong, Looped, Compound, Two, Overridden, Nothing, ExplainedData}

-- the variable or the field that isn't final, where an expression has no path since it isn't
abbrev pub lacking_final : Lack → Option Lack
lacking_final (lack.Variable x) = Some (lack.Variable x)
lacking_final (lack.Field f) = Some (lack.Field f)
lacking_final lack.Long = None
lacking_final lack.Value = None

-- that by which a lock has no name, where that is what is wrong
abbrev pub lack_in_cause : Cause → Option Lack
lack_in_cause (cause.Bare receiver f writes_only p second) = None
lack_in_cause (cause.Nameless f writes_only lack) = lacking_final lack
lack_in_cause (cause.Lacking m q p second) = None
lack_in_cause (cause.LackingName m q lack) = lacking_final lack
lack_in_cause (cause.Refused m) = None
lack_in_cause cause.Other = None

-- that by which the lock that would help has no name
abbrev pub lack_in_help : Help → Option Lack
lack_in_help (helps.Hold p second) = None
lack_in_help helps.Unguarded = None
lack_in_help helps.WritesOnly = None
lack_in_help (helps.Unnamed lack) = lacking_final lack
lack_in_help helps.NoneNamed = None
lack_in_help (helps.ReceiverUnnamed lack) = lacking_final lack
lack_in_help helps.Seen = None

module _ (P : Program) (rel : ℕ → List PathData) (A : Assignment) where
  module _ (aliases : List Alias) where
    -- that of a part that is an error by itself
    abbrev pub lack_of_error : Visit → Option Lack
    lack_of_error v = lack_in_cause (cause_of P rel aliases v.held v.part)

    -- that of a step
    abbrev pub lack_of_step : Visit → Option Lack
    lack_of_step v = lack_in_help (help_of P rel A aliases v.part v.held)

    -- that of the first part of a reason that has one
    abbrev pub first_lack : WhyData → Option Lack
    first_lack (Wrong v) = lack_of_error v
    first_lack (Looped v n) = lack_of_step v
    first_lack (Compound v) = lack_of_step v
    first_lack (Two v w) = option_or (lack_of_step v) (lack_of_step w)
    first_lack (Overridden m b) = None
    first_lack Nothing = None

  -- whether it helps a method, which may be at most this, to make that final
  abbrev pub final_fits : Method → (limit : Basic) → Lack → Bool
  final_fits method limit (lack.Variable x) = final_variable_fits P rel A method limit x
  final_fits method limit (lack.Field f) = final_field_fits P rel A method limit f
  final_fits method limit lack.Long = false
  final_fits method limit lack.Value = false

  -- this variable or field, where there is one and it helps a method, which may be at most this, to make it final
  abbrev pub fitting_of : Option Method → (limit : Basic) → Option Lack → Option Lack
  fitting_of None limit x = None
  fitting_of (Some method) limit None = None
  fitting_of (Some method) limit (Some x) = if final_fits method limit x then Some x else None

  -- the first variable or field by which an explained method lacks a name, where it helps to make that final
  abbrev pub fitting : List Alias → ExplainedData → Option Lack
  fitting aliases x = fitting_of (slice_get P.methods x.method) x.limit (first_lack aliases x.why)

  -- nothing assigns to the variable again, and with it final the body of the method is at most this
  pub record IsFittingVariable (method : Method) (limit : Basic) (x : ℕ) : Type 0 where
    pub kept : assigns x method.body ≡ false
    pub within : AtMost (finalised P rel A method x) limit

  -- no method assigns to the field, and `Main` hasn't got it; and with it final the body of the method is at most this
  pub record IsFittingField (method : Method) (limit : Basic) (f : ℕ) : Type 0 where
    pub can_be : can_be_final P f ≡ true
    pub within : AtMost (field_finalised P rel A method f) limit

  -- it helps the method, which may be at most this, to make the variable or the field final
  abbrev pub IsFitting : Method → (limit : Basic) → Lack → Type 0
  IsFitting method limit (lack.Variable x) = IsFittingVariable method limit x
  IsFitting method limit (lack.Field f) = IsFittingField method limit f
  IsFitting method limit lack.Long = ⊥
  IsFitting method limit lack.Value = ⊥
