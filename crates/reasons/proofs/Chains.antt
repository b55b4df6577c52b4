-- What is known of an explanation that is told of a method that is more than it may be; and that explanations don't lead in a circle.
use Rattle.std.proofs.Common.{◌≡◌, ℕ, ◌<◌, true, false, List, Option, Some, None, slice_get, refl, sym, ap, subst, ◌∙◌, arith}
use Rattle.std.specs.Prelude.{Contains}
use Rattle.std.proofs.lemmas.Bool.{false≢true, ltb-true}
use Rattle.std.proofs.lemmas.Option.{same_Some}
use Rattle.paths.specs.Paths.{PathData}
use Rattle.algebra.specs.Basics.{below_of}
use Rattle.algebra.specs.HeldPaths.{has_path}
use Rattle.core_program.specs.Core.{Program, Method}
use Rattle.core_program.specs.Typed.{IsTyped}
use Rattle.infer.specs.Least.{IsLeast}
use Rattle.rules.specs.Effect.{Assignment, required_paths}
use Rattle.rules.specs.Near.{AreRelevant, MethodPaths, rel_of}
use Rattle.rules.specs.Overriding.{AreOverriders}
use Rattle.rules.specs.Rules.{IsSubset}
use Rattle.rules.specs.Search.{row_at}
use Rattle.rules.proofs.Required.{required_in_rel}
use Rattle.explain.specs.declared.grounds.Ground.{Ground}
use Rattle.explain.specs.declared.names.Alias.{Alias}
use Rattle.explain.specs.declared.ranking.Bounds.{Bounds}
use Rattle.explain.specs.Causes.{cause_of}
use Rattle.explain.specs.Grounds.{level_at, rank_at, why_by}
use Rattle.explain.specs.Leads.{AreGrounded, IsReasonChain, IsMoreThanLimit, IsReasonBy, LeadsToTold, chain, reason_lead, leads_below, limit_for, link}
use Rattle.explain.specs.Programs.{found_of}
use Rattle.explain.specs.Visits.{Visit}
use Rattle.explain.specs.Whys.{ExplainedData, Wrong}
use Rattle.reasons.specs.Causing.{IsCause}
use Rattle.reasons.proofs.Causing.{part_meant}
use Rattle.reasons.proofs.Founding.{limit_atomic}
use Rattle.reasons.proofs.Known.{as_known, by_ground, error_known}

-- an explanation of a method that is more than it may be, by its ground
pub record IsToldMore (bounds : Bounds) (P : Program) (rel : ℕ → List PathData) (A : Assignment) (overs : ℕ → List ℕ) (grounds : List Ground) (x : ExplainedData) : Type 0 where
  pub method : Method
  pub more : IsMoreThanLimit bounds P A x.method method
  pub limit_is : x.limit ≡ limit_for bounds P A x.method method
  pub found_is : x.found ≡ found_of A x.method method
  pub why_is : x.why ≡ why_by P rel A overs grounds x.method method (limit_for bounds P A x.method method)

module _ (P : Program) (sets : List MethodPaths) (A : Assignment) (rows : List (List ℕ)) (typed : IsTyped P) (relevant : AreRelevant P sets) (least : IsLeast P (rel_of sets) A) (are : AreOverriders P rows)
    (bounds : Bounds) (grounds : List Ground) (grounded : AreGrounded bounds P (rel_of sets) A (row_at rows) grounds) where
  abbrev rel : ℕ → List PathData
  rel = rel_of sets

  abbrev overs : ℕ → List ℕ
  overs = row_at rows

  abbrev Told : ExplainedData → Type 0
  Told x = IsToldMore bounds P rel A overs grounds x

  pub told_above : (x : ExplainedData) → Told x → below_of x.found x.limit ≡ false
  told_above x told = (λ i. below_of (told.found_is i) (told.limit_is i)) ∙ told.more.above

  pub told_reason : (x : ExplainedData) → Told x → (method : Method) → slice_get P.methods x.method ≡ Some method → IsReasonBy P rel A (overs x.method) method (level_at grounds x.method) x.limit x.why
  told_reason x told method there =
      let same : told.method ≡ method = same_Some told.method method (sym told.more.there ∙ there) in
      subst (λ n. IsReasonBy P rel A (overs x.method) n (level_at grounds x.method) x.limit x.why) same
      (subst (λ l. IsReasonBy P rel A (overs x.method) told.method (level_at grounds x.method) l x.why) (sym told.limit_is)
      (subst (λ w. IsReasonBy P rel A (overs x.method) told.method (level_at grounds x.method) (limit_for bounds P A x.method told.method) w) (sym told.why_is)
      (by_ground P sets A rows typed relevant least are bounds grounds grounded x.method told.method told.more)))

  pub required_relevant : (m : ℕ) → IsSubset (has_path (required_paths (slice_get P.methods m))) (has_path (rel m))
  required_relevant m = by (slice_get P.methods m) refl
    where
      by : (o : Option Method) → slice_get P.methods m ≡ o → IsSubset (has_path (required_paths o)) (has_path (rel m))
      by None is = λ q e. absurd (false≢true e)
      by (Some method) is = required_in_rel P sets relevant typed m method is

  pub told_cause : (x : ExplainedData) → Told x → (v : Visit) → x.why ≡ Wrong v → (aliases : List Alias) → IsCause P rel A v.held v.part (cause_of P rel aliases v.held v.part)
  told_cause x told v why aliases =
      let limit = limit_for bounds P A x.method told.method in
      let by = as_known P sets A rows typed relevant least are x.method told.method (level_at grounds x.method) limit (Wrong v) (limit_atomic bounds P A x.method told.method)
      (subst (λ w. IsReasonBy P rel A (overs x.method) told.method (level_at grounds x.method) limit w) (sym told.why_is ∙ why)
      (by_ground P sets A rows typed relevant least are bounds grounds grounded x.method told.method told.more)) in
      part_meant P rel A aliases v.held v.part required_relevant (error_known P rel A by.known by.less v.part v.held by.reason.own)

  -- ---- no circle

  module _ (xs : List ExplainedData) (all : (x : ExplainedData) → Contains xs x → Told x) where
    lead_falls : (x y : ExplainedData) → LeadsToTold P rel xs x y → rank_at grounds y.method < rank_at grounds x.method
    lead_falls x y l =
        let told = all x l.first in
        let why = why_by P rel A overs grounds x.method told.method (limit_for bounds P A x.method told.method) in
        let lead : reason_lead P rel why ≡ Some y.method = ap (reason_lead P rel) (sym told.why_is) ∙ l.leads in
        ltb-true (rank_at grounds y.method) (rank_at grounds x.method)
        (sym (ap (leads_below grounds (rank_at grounds x.method)) lead) ∙ grounded.falls x.method told.method told.more)

    chain_falls : (x y : ExplainedData) → IsReasonChain P rel xs x y → rank_at grounds y.method < rank_at grounds x.method
    chain_falls x y (link l) = lead_falls x y l
    chain_falls x z (chain {y = y} l rest) = let one = lead_falls x y l in let others = chain_falls y z rest in omega (arith, one, others)

    pub no_chain : (x : ExplainedData) → IsReasonChain P rel xs x x → ⊥
    no_chain x c = let falls = chain_falls x x c in omega (arith, falls)
