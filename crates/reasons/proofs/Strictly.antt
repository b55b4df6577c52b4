-- Each method that is told where all count as `atomic` is more than it may be, and when all keep these bounds.
use Rattle.std.proofs.Common.{◌≡◌, ◌↔◌, ℕ, true, false, List, Some, Contains, slice_get, ap, subst, arith}
use Rattle.paths.specs.Paths.{PathData}
use Rattle.algebra.specs.Basics.{below_of}
use Rattle.algebra.specs.HeldPaths.{has_path}
use Rattle.core_program.specs.Core.{Program, Method}
use Rattle.core_program.specs.Typed.{IsTyped}
use Rattle.infer.specs.Least.{IsLeast}
use Rattle.rules.specs.Effect.{Assignment}
use Rattle.rules.specs.Near.{AreFew, AreRelevant, MethodPaths, rel_of}
use Rattle.rules.specs.Overriding.{AreOverriders}
use Rattle.rules.specs.Rules.{IsAntitone, IsClosed}
use Rattle.rules.specs.Search.{row_at}
use Rattle.rules.proofs.BasicLemmas.{below_chain}
use Rattle.rules.proofs.Required.{required_in_rel}
use Rattle.rules.proofs.UniqueSets.{unique_sets}
use Rattle.explain.specs.Visits.{Visit}
use Rattle.explain.specs.declared.grounds.Ground.{Ground}
use Rattle.explain.specs.declared.names.Alias.{Alias}
use Rattle.explain.specs.declared.ranking.Bounds.TheVariants.{Strict}
use Rattle.explain.specs.Causes.{cause_of}
use Rattle.explain.specs.Grounds.{level_at}
use Rattle.explain.specs.Leads.{AreGrounded, IsReasonChain, IsReasonBy}
use Rattle.explain.specs.Programs.{found_of}
use Rattle.explain.specs.Strict.{IsStrictlyAccepted, keep_all, strict_bound, strict_explanations}
use Rattle.explain.specs.Whys.{ExplainedData, Wrong}
use Rattle.explain.proofs.Strictly.{all_kept, all_strictly_told, kept_at}
use Rattle.reasons.specs.Causing.{IsCause}
use Rattle.reasons.proofs.Chains.{IsToldMore, no_chain, told_above, told_cause, told_reason}

module _ (P : Program) (sets : List MethodPaths) (A : Assignment) (rows : List (List ℕ)) (typed : IsTyped P) (relevant : AreRelevant P sets) (least : IsLeast P (rel_of sets) A) (are : AreOverriders P rows)
    (grounds : List Ground) (grounded : AreGrounded Strict P (rel_of sets) A (row_at rows) grounds) where
  abbrev rel : ℕ → List PathData
  rel = rel_of sets

  abbrev overs : ℕ → List ℕ
  overs = row_at rows

  -- each explanation is told of a method that is more than it may be
  strictly_told : (x : ExplainedData) → Contains (strict_explanations P rel A overs grounds) x → IsToldMore Strict P rel A overs grounds x
  strictly_told x c =
      let told = all_strictly_told P rel A overs grounds x c in
      record {
        method = told.method;
        more = record { there = told.there; above = told.above };
        limit_is = ap (λ (y : ExplainedData). y.limit) told.is;
        found_is = ap (λ (y : ExplainedData). y.found) told.is;
        why_is = ap (λ (y : ExplainedData). y.why) told.is;
      }

  pub strictly_above : (x : ExplainedData) → Contains (strict_explanations P rel A overs grounds) x → below_of x.found x.limit ≡ false
  strictly_above x c = told_above P sets A rows typed relevant least are Strict grounds grounded x (strictly_told x c)

  pub strictly_reasons : (x : ExplainedData) → Contains (strict_explanations P rel A overs grounds) x → (method : Method) → slice_get P.methods x.method ≡ Some method
      → IsReasonBy P rel A (overs x.method) method (level_at grounds x.method) x.limit x.why
  strictly_reasons x c method there = told_reason P sets A rows typed relevant least are Strict grounds grounded x (strictly_told x c) method there

  pub strictly_causes : (x : ExplainedData) → Contains (strict_explanations P rel A overs grounds) x → (v : Visit) → x.why ≡ Wrong v → (aliases : List Alias)
      → IsCause P rel A v.held v.part (cause_of P rel aliases v.held v.part)
  strictly_causes x c v why aliases = told_cause P sets A rows typed relevant least are Strict grounds grounded x (strictly_told x c) v why aliases

  pub strictly_end : (x : ExplainedData) → IsReasonChain P rel (strict_explanations P rel A overs grounds) x x → ⊥
  strictly_end = no_chain P sets A rows typed relevant least are Strict grounds grounded (strict_explanations P rel A overs grounds) strictly_told

-- each method keeps its bound in the least closed assignment exactly where the program is accepted so
pub strictly_decides : (P : Program) (sets : List MethodPaths) (A : Assignment) → IsTyped P → AreRelevant P sets → AreFew sets → IsLeast P (rel_of sets) A → (keep_all P A ≡ true) ↔ IsStrictlyAccepted P
strictly_decides P sets A typed relevant few least = (
  λ all. record {
    sets = sets;
    relevant = relevant;
    few = few;
    assignment = A;
    falling = least.falling;
    closed = least.closed;
    bounds = λ m method is. kept_at P A P.methods 0 all m m method (omega arith) is;
  },
  λ accepted. all_kept P A P.methods 0 (λ k j method number is.
      let same : k ≡ j = omega (arith, number) in
      let there : slice_get P.methods j ≡ Some method = subst (λ n. slice_get P.methods n ≡ Some method) same is in
      let one = unique_sets P accepted.sets sets accepted.relevant relevant in
      let falling = subst (λ s. IsAntitone (rel_of s) accepted.assignment) one accepted.falling in
      let closed = subst (λ s. IsClosed P (rel_of s) accepted.assignment) one accepted.closed in
      below_chain (found_of A j method) (found_of accepted.assignment j method) (strict_bound P j method)
      (least.below accepted.assignment falling closed j (has_path method.requires_) (required_in_rel P sets relevant typed j method there)) (accepted.bounds j method there)),
)
