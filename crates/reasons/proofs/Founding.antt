-- By what is known before a rank some method is more than a level, as long as the least closed assignment gives more to one that has that
-- rank or a greater one: else that assignment could be lowered. So each method that is more than it may be gets a rank.
use Rattle.std.proofs.Common.{◌≡◌, ◌≢◌, ℕ, ◌==◌, Bool, true, false, not, ◌||◌, List, Option, Some, None, slice_get, refl, sym, ap, ◌∙◌, if◌then◌else◌, arith, inl, inr}
use Rattle.std.specs.Prelude.{nat_le, nat_lt}
use Rattle.std.specs.List.{list_all}
use Rattle.std.proofs.lemmas.Bool.{and_from, eq-eqb, false≢true, leb-true, ltb-false, le-leb, true_from_ne_false}
use Rattle.std.proofs.lemmas.Option.{same_Some, none-some}
use Rattle.base.proofs.Lists.{all_at}
use Rattle.paths.specs.Paths.{PathData}
use Rattle.algebra.specs.declared.basic.Basic.{Basic}
use Rattle.algebra.specs.declared.basic.Basic.TheVariants.{Atomic, Cmpd, Error}
use Rattle.algebra.specs.Basics.{below_of}
use Rattle.algebra.specs.HeldPaths.{Held, has_path}
use Rattle.core_program.specs.Core.{Program, Method, IntE, TruthE, NullE, ThisE, VarE, NotE, NegE, BinaryE, AndE, OrE, GetE, CallE, NewE}
use Rattle.core_program.specs.Dispatch.{Overrides}
use Rattle.core_program.specs.Locks.{path_of}
use Rattle.core_program.specs.Typed.{IsTyped}
use Rattle.effects.specs.Parts.{Part, ExprP, StmtP}
use Rattle.infer.specs.Least.{IsLeast}
use Rattle.rules.specs.Effect.{Assignment, effect, held_under, required_paths}
use Rattle.rules.specs.Mentions.{paths_of}
use Rattle.rules.specs.Near.{AreRelevant, MethodPaths, rel_of}
use Rattle.rules.specs.Overriding.{AreOverriders}
use Rattle.rules.specs.Rules.{AtMost, IsAntitone, IsClosed, IsSubset, declared_bound, held_in}
use Rattle.rules.specs.Search.{row_at}
use Rattle.rules.proofs.BasicLemmas.{below_chain, below_itself}
use Rattle.rules.proofs.EffectRises.{stmt_rises}
use Rattle.rules.proofs.Falling.{stmt_falls}
use Rattle.rules.proofs.Required.{required_in_rel}
use Rattle.rules.proofs.SetLemmas.{first, second}
use Rattle.explain.specs.declared.grounds.Ground.{Ground}
use Rattle.explain.specs.declared.ranking.Bounds.{Bounds}
use Rattle.explain.specs.declared.ranking.Bounds.TheVariants.{Declared, Strict}
use Rattle.explain.specs.Explaining.{is_error_of_part, why_of}
use Rattle.explain.specs.Grounds.{lowered, lowered_if, rank_at}
use Rattle.explain.specs.Leads.{AreGrounded, IsMoreThanLimit, is_grounded_by, is_reason, reason_lead, leads_below, limit_for}
use Rattle.explain.specs.Meanings.{are_within, IsReasonOf}
use Rattle.explain.specs.PartEffects.{own_of}
use Rattle.explain.specs.Programs.{called_by, found_of, keeps}
use Rattle.explain.specs.Ranking.{AreAllRanked, open_rank}
use Rattle.explain.specs.Strict.{is_thread_entry, keeps_strictly}
use Rattle.explain.specs.Whys.{WhyData, Wrong, Looped, Compound, Two, Overridden, Nothing}
use Rattle.explain.proofs.Meant.{meant}
use Rattle.reasons.proofs.LeastRuns.{below_lesser, bound_atomic, in_more, in_rel, lesser_first, lesser_second}

-- ---- an assignment that is lowered

module _ (A : Assignment) (grounds : List Ground) (from : ℕ) (level : Basic) where
  less_if : (late : Bool) (b : Basic) → AtMost (lowered_if late level b) b
  less_if true b = lesser_first b level
  less_if false b = below_itself b

  pub less : (m : ℕ) (H : Held) → AtMost (lowered A grounds from level m H) (A m H)
  less m H = less_if (nat_le from (rank_at grounds m)) (A m H)

  -- what is at most what is assigned, and at most the level where the method is lowered, is at most what is known
  known_if : (late : Bool) (x b : Basic) → AtMost x b → (late ≡ true → AtMost x level) → AtMost x (lowered_if late level b)
  known_if true x b low small = below_lesser x b level low (small refl)
  known_if false x b low small = low

  level_if : (late : Bool) (b : Basic) → late ≡ true → AtMost (lowered_if late level b) level
  level_if true b is = lesser_second b level
  level_if false b is = absurd (false≢true is)

  pub at_level : (m : ℕ) (H : Held) → nat_le from (rank_at grounds m) ≡ true → AtMost (lowered A grounds from level m H) level
  at_level m H late = level_if (nat_le from (rank_at grounds m)) (A m H) late

  pub known_falls : (rel : ℕ → List PathData) → IsAntitone rel A → IsAntitone rel (lowered A grounds from level)
  known_falls rel falling m H K inside part =
      known_if (nat_le from (rank_at grounds m)) (lowered A grounds from level m K) (A m H)
      (below_chain (lowered A grounds from level m K) (A m K) (A m H) (less m K) (falling m H K inside part)) (at_level m K)

  module _ (P : Program) (rel : ℕ → List PathData) (rows : List (List ℕ)) (least : IsLeast P rel A) (are : AreOverriders P rows)
      (fits : (m : ℕ) (method : Method) → slice_get P.methods m ≡ Some method → nat_le from (rank_at grounds m) ≡ true → are_within P rel (lowered A grounds from level) (row_at rows m) method level ≡ true) where
    abbrev known : Assignment
    known = lowered A grounds from level

    abbrev late : ℕ → Bool
    late m = nat_le from (rank_at grounds m)

    falls : IsAntitone rel known
    falls = known_falls rel least.falling

    -- the body of a method that is lowered is at most the level, and so is each method that overrides it
    body_small : (m : ℕ) (method : Method) → slice_get P.methods m ≡ Some method → late m ≡ true → (H : Held) → IsSubset (has_path method.requires_) H → AtMost (effect P rel known method.body H) level
    body_small m method there is H has =
        let begun = has_path method.requires_ in
        below_chain (effect P rel known method.body H) (effect P rel known method.body begun) level (stmt_falls P rel known falls method.body begun H has)
        (first (below_of (effect P rel known method.body begun) level) (list_all (λ n. below_of (known n (held_in (rel n) begun)) level) (row_at rows m)) (fits m method there is))

    over_small : (m : ℕ) (method : Method) → slice_get P.methods m ≡ Some method → late m ≡ true → (over : ℕ) → Overrides P over m → (H : Held) → IsSubset (has_path method.requires_) H
        → AtMost (known over (held_in (rel over) H)) level
    over_small m method there is over o H has =
        let begun = has_path method.requires_ in
        below_chain (known over (held_in (rel over) H)) (known over (held_in (rel over) begun)) level
        (falls over (held_in (rel over) begun) (held_in (rel over) H) (in_rel (rel over) H) (in_more (rel over) begun H has))
        (all_at (λ n. below_of (known n (held_in (rel n) begun)) level) (row_at rows m)
        (second (below_of (effect P rel known method.body begun) level) (list_all (λ n. below_of (known n (held_in (rel n) begun)) level) (row_at rows m)) (fits m method there is))
        over ((are m over).1 o))

    closed : IsClosed P rel known
    closed = record {
      bodies = λ m method there H inside has.
          known_if (late m) (effect P rel known method.body H) (A m H)
          (below_chain (effect P rel known method.body H) (effect P rel A method.body H) (A m H) (stmt_rises P rel known A (λ n K inner. less n K) method.body H)
          (least.closed.bodies m method there H inside has))
          (λ is. body_small m method there is H has);
      overrides = λ m over method there o H inside has.
          known_if (late m) (known over (held_in (rel over) H)) (A m H)
          (below_chain (known over (held_in (rel over) H)) (A over (held_in (rel over) H)) (A m H) (less over (held_in (rel over) H))
          (least.closed.overrides m over method there o H inside has))
          (λ is. over_small m method there is over o H has);
    }

    -- so what is assigned to it is at most the level
    pub within_level : (m : ℕ) (method : Method) → IsSubset (has_path method.requires_) (has_path (rel m)) → late m ≡ true → AtMost (found_of A m method) level
    within_level m method inside is =
        below_chain (found_of A m method) (known m (has_path method.requires_)) level (least.below known falls closed m (has_path method.requires_) inside) (at_level m (has_path method.requires_) is)

-- ---- to which methods a reason by what is known leads

module _ (P : Program) (rel : ℕ → List PathData) (A : Assignment) (grounds : List Ground) (from : ℕ) where
  abbrev by_rank : Assignment
  by_rank = lowered A grounds from Atomic

  -- a call of a method that is lowered is no more than atomic, where it has all that it requires
  call_low : (x : Part) (H : Held) (k : ℕ) → called_by x ≡ Some k → nat_le from (rank_at grounds k) ≡ true → is_error_of_part P rel x H ≡ false → AtMost (own_of P rel by_rank x H) Atomic
  call_low (StmtP s) H k e late own = absurd (none-some k e)
  call_low (ExprP (IntE v)) H k e late own = absurd (none-some k e)
  call_low (ExprP (TruthE b)) H k e late own = absurd (none-some k e)
  call_low (ExprP NullE) H k e late own = absurd (none-some k e)
  call_low (ExprP ThisE) H k e late own = absurd (none-some k e)
  call_low (ExprP (VarE x is_final ty)) H k e late own = absurd (none-some k e)
  call_low (ExprP (NotE a)) H k e late own = absurd (none-some k e)
  call_low (ExprP (NegE a)) H k e late own = absurd (none-some k e)
  call_low (ExprP (BinaryE op a b)) H k e late own = absurd (none-some k e)
  call_low (ExprP (AndE a b)) H k e late own = absurd (none-some k e)
  call_low (ExprP (OrE a b)) H k e late own = absurd (none-some k e)
  call_low (ExprP (GetE a f)) H k e late own = absurd (none-some k e)
  call_low (ExprP (NewE c args)) H k e late own = absurd (none-some k e)
  call_low (ExprP (CallE a n args)) H k e late own = by (list_all K (required_paths (slice_get P.methods n))) own
    where
      K : Held
      K = held_under (rel n) (path_of P a) (paths_of P args) H

      by : (t : Bool) → not t ≡ false → AtMost (if t then by_rank n K else Error) Atomic
      by true is = at_level A grounds from Atomic n K (ap (λ j. nat_le from (rank_at grounds j)) (same_Some n k e) ∙ late)
      by false is = absurd cc

  -- a part that is compound is no error of itself
  compound_own : (x : Part) (H : Held) (k : ℕ) → called_by x ≡ Some k → own_of P rel by_rank x H ≡ Cmpd → is_error_of_part P rel x H ≡ false
  compound_own (StmtP s) H k e own = absurd (none-some k e)
  compound_own (ExprP (IntE v)) H k e own = absurd (none-some k e)
  compound_own (ExprP (TruthE b)) H k e own = absurd (none-some k e)
  compound_own (ExprP NullE) H k e own = absurd (none-some k e)
  compound_own (ExprP ThisE) H k e own = absurd (none-some k e)
  compound_own (ExprP (VarE x is_final ty)) H k e own = absurd (none-some k e)
  compound_own (ExprP (NotE a)) H k e own = absurd (none-some k e)
  compound_own (ExprP (NegE a)) H k e own = absurd (none-some k e)
  compound_own (ExprP (BinaryE op a b)) H k e own = absurd (none-some k e)
  compound_own (ExprP (AndE a b)) H k e own = absurd (none-some k e)
  compound_own (ExprP (OrE a b)) H k e own = absurd (none-some k e)
  compound_own (ExprP (GetE a f)) H k e own = absurd (none-some k e)
  compound_own (ExprP (NewE c args)) H k e own = absurd (none-some k e)
  compound_own (ExprP (CallE a n args)) H k e own = by (list_all K (required_paths (slice_get P.methods n))) own
    where
      K : Held
      K = held_under (rel n) (path_of P a) (paths_of P args) H

      by : (t : Bool) → (if t then by_rank n K else Error) ≡ Cmpd → not t ≡ false
      by true is = refl
      by false is = absurd cc

  not_low : (b c : Basic) → AtMost b Atomic → b ≡ c → below_of c Atomic ≡ false → ⊥
  not_low b c low is above = false≢true (sym above ∙ ap (λ d. below_of d Atomic) (sym is) ∙ low)

  -- a reason leads to no method that is lowered
  pub leads_apart : (overs : List ℕ) (method : Method) (why : WhyData) → IsReasonOf P rel by_rank overs method Atomic why → (k : ℕ) → reason_lead P rel why ≡ Some k → nat_le from (rank_at grounds k) ≡ true → ⊥
  leads_apart overs method (Wrong v) means k e late = by (is_error_of_part P rel v.part v.held) refl e
    where
      by : (t : Bool) → is_error_of_part P rel v.part v.held ≡ t → (if t then None else called_by v.part) ≡ Some k → ⊥
      by true is leads = none-some k leads
      by false is leads = not_low (own_of P rel by_rank v.part v.held) Error (call_low v.part v.held k leads late is) means.own refl
  leads_apart overs method (Looped v n) means k e late = none-some k e
  leads_apart overs method (Compound v) means k e late =
      not_low (own_of P rel by_rank v.part v.held) Cmpd (call_low v.part v.held k e late (compound_own v.part v.held k e means.own)) means.own refl
  leads_apart overs method (Two v w) means k e late = none-some k e
  leads_apart overs method (Overridden n b) means k e late =
      let there : nat_le from (rank_at grounds n) ≡ true = ap (λ j. nat_le from (rank_at grounds j)) (same_Some n k e) ∙ late in
      not_low (by_rank n (held_in (rel n) (has_path method.requires_))) b (at_level A grounds from Atomic n (held_in (rel n) (has_path method.requires_)) there) (sym means.is) means.above
  leads_apart overs method Nothing means k e late = none-some k e

  -- so it leads below the rank, and there is one
  leads_under : (lead : Option ℕ) → ((k : ℕ) → lead ≡ Some k → nat_le from (rank_at grounds k) ≡ true → ⊥) → leads_below grounds from lead ≡ true
  leads_under None apart = refl
  leads_under (Some k) apart =
      true_from_ne_false (nat_lt (rank_at grounds k) from) (λ e. let past = ltb-false (rank_at grounds k) from e in apart k refl (le-leb from (rank_at grounds k) past))

  is_one : (overs : List ℕ) (method : Method) (why : WhyData) → IsReasonOf P rel by_rank overs method Atomic why → is_reason why ≡ true
  is_one overs method (Wrong v) means = refl
  is_one overs method (Looped v n) means = refl
  is_one overs method (Compound v) means = refl
  is_one overs method (Two v w) means = refl
  is_one overs method (Overridden n b) means = refl
  is_one overs method Nothing means = absurd means

  pub grounded : (overs : List ℕ) (method : Method) (why : WhyData) → IsReasonOf P rel by_rank overs method Atomic why → is_grounded_by P rel grounds from why ≡ true
  grounded overs method why means = and_from (is_reason why) (leads_below grounds from (reason_lead P rel why)) (is_one overs method why means) (leads_under (reason_lead P rel why) (leads_apart overs method why means))

-- ---- each method gets a rank

atomic_or : (t annotated : Bool) → AtMost Atomic (if t then Atomic else declared_bound annotated)
atomic_or true annotated = refl
atomic_or false annotated = bound_atomic annotated

-- what a method may have without being told is at least atomic
pub limit_atomic : (bounds : Bounds) (P : Program) (A : Assignment) (m : ℕ) (method : Method) → AtMost Atomic (limit_for bounds P A m method)
limit_atomic Declared P A m method = atomic_or (keeps A m method) method.annotated
limit_atomic Strict P A m method = atomic_or (keeps_strictly P A m method) (method.annotated || not (is_thread_entry P m))

module _ (P : Program) (sets : List MethodPaths) (A : Assignment) (rows : List (List ℕ)) (typed : IsTyped P) (relevant : AreRelevant P sets) (least : IsLeast P (rel_of sets) A) (are : AreOverriders P rows)
    (bounds : Bounds) (grounds : List Ground) (all : AreAllRanked bounds P (rel_of sets) A (row_at rows) grounds) where
  abbrev rel : ℕ → List PathData
  rel = rel_of sets

  abbrev overs : ℕ → List ℕ
  overs = row_at rows

  late_open : (m : ℕ) → nat_le all.round (rank_at grounds m) ≡ true → rank_at grounds m ≡ open_rank
  late_open m late = elim (all.ranked.early m) as (λ _. rank_at grounds m ≡ open_rank) [
    | inl early ↦ (let past = leb-true all.round (rank_at grounds m) late in absurd (omega (arith, early, past)))
    | inr is ↦ is
  ]

  open_late : (m : ℕ) → rank_at grounds m ≡ open_rank → nat_le all.round (rank_at grounds m) ≡ true
  open_late m is = let low = all.below in le-leb all.round (rank_at grounds m) (omega (arith, low, is))

  fits : (m : ℕ) (method : Method) → slice_get P.methods m ≡ Some method → nat_le all.round (rank_at grounds m) ≡ true → are_within P rel (lowered A grounds all.round Atomic) (overs m) method Atomic ≡ true
  fits m method there late = by (are_within P rel (lowered A grounds all.round Atomic) (overs m) method Atomic) refl
    where
      why : WhyData
      why = why_of P rel (lowered A grounds all.round Atomic) (overs m) m method Atomic

      stuck : (t g : Bool) → (not t || not g) ≡ true → t ≡ true → g ≡ true → ⊥
      stuck true true e is so = false≢true e
      stuck true false e is so = false≢true so
      stuck false g e is so = false≢true is

      by : (t : Bool) → are_within P rel (lowered A grounds all.round Atomic) (overs m) method Atomic ≡ t → t ≡ true
      by true is = refl
      by false is = absurd (stuck (rank_at grounds m == open_rank) (is_grounded_by P rel grounds all.round why) (all.stuck m method there)
          (eq-eqb (rank_at grounds m) open_rank (late_open m late))
          (grounded P rel A grounds all.round (overs m) method why (meant P rel (lowered A grounds all.round Atomic) (overs m) m method Atomic refl is)))

  pub all_closed : (m : ℕ) (method : Method) → IsMoreThanLimit bounds P A m method → rank_at grounds m ≡ open_rank → ⊥
  all_closed m method more is =
      let low = within_level A grounds all.round Atomic P rel rows least are fits m method (required_in_rel P sets relevant typed m method more.there) (open_late m is) in
      false≢true (sym more.above ∙ below_chain (found_of A m method) Atomic (limit_for bounds P A m method) low (limit_atomic bounds P A m method))

  pub all_grounded : AreGrounded bounds P rel A overs grounds
  all_grounded = record {
    falls = λ m method more. ap (leads_below grounds (rank_at grounds m)) (sym (all.ranked.leads m method more)) ∙ all.ranked.falls m (all_closed m method more);
    levels = all.ranked.levels;
    circles = all.ranked.circles;
  }
