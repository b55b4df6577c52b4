-- What is told by what is known: it is so, and leads to methods that are more than they may be.
use Rattle.std.proofs.Common.{◌≡◌, ℕ, Bool, true, false, List, [], ◌∷◌, Option, Some, None, slice_get, refl, sym, ap, subst, ◌∙◌, if◌then◌else◌}
use Rattle.std.specs.List.{list_all}
use Rattle.std.proofs.lemmas.Bool.{and_from, and_parts, false≢true, false_from_ne_true}
use Rattle.std.proofs.lemmas.Option.{same_Some, none-some}
use Rattle.paths.specs.Paths.{PathData}
use Rattle.algebra.specs.declared.basic.Basic.{Basic}
use Rattle.algebra.specs.declared.basic.Basic.TheVariants.{Const, Mover, Atomic, Cmpd, Error}
use Rattle.algebra.specs.Basics.{below_of}
use Rattle.algebra.specs.HeldPaths.{Held, has_path}
use Rattle.core_program.specs.Core.{Program, Method, IntE, TruthE, NullE, ThisE, VarE, NotE, NegE, BinaryE, AndE, OrE, GetE, CallE, NewE}
use Rattle.core_program.specs.Core.{EmptyS, BlockS, LocalS, SetVarS, SetFieldS, DoS, IfS, WhileS, SyncS, ReturnS, PrintS, StartS}
use Rattle.core_program.specs.Locks.{path_of}
use Rattle.core_program.specs.Typed.{IsTyped}
use Rattle.effects.specs.Parts.{Part, ExprP, StmtP}
use Rattle.infer.specs.Least.{IsLeast}
use Rattle.rules.specs.Effect.{Assignment, call_of, effect, held_under, required_paths}
use Rattle.rules.specs.Mentions.{paths_of}
use Rattle.rules.specs.Near.{AreRelevant, MethodPaths, rel_of}
use Rattle.rules.specs.Overriding.{AreOverriders}
use Rattle.rules.specs.Rules.{AtMost, held_in}
use Rattle.rules.specs.Search.{row_at}
use Rattle.rules.proofs.BasicLemmas.{below_chain, below_itself}
use Rattle.rules.proofs.Required.{required_in_rel}
use Rattle.rules.proofs.SetLemmas.{all_has, first}
use Rattle.explain.specs.declared.grounds.Ground.{Ground}
use Rattle.explain.specs.declared.ranking.Bounds.{Bounds}
use Rattle.explain.specs.Explaining.{body_why, over_of, why_of}
use Rattle.explain.specs.Steps.{stmt_steps}
use Rattle.explain.specs.Views.{errors_in}
use Rattle.explain.specs.Visits.{stmt_visits}
use Rattle.explain.specs.Grounds.{level_at, lowered, rank_at, why_by, why_from}
use Rattle.explain.specs.Leads.{AreGrounded, IsLevel, IsMoreThanLimit, IsReasonBy, IsReasonKnown, is_reason, limit_for}
use Rattle.explain.specs.Meanings.{are_within, IsAboveLimit, IsReasonOf}
use Rattle.explain.specs.PartEffects.{own_of}
use Rattle.explain.specs.Programs.{called_by, found_of, led_to}
use Rattle.explain.specs.Whys.{WhyData, Wrong, Looped, Compound, Two, Overridden, Nothing}
use Rattle.explain.proofs.Meant.{meant}
use Rattle.reasons.proofs.Founding.{less, limit_atomic}
use Rattle.reasons.proofs.LeastRuns.{within}

-- what is at least compound is more than atomic
above_atomic : (a b limit : Basic) → AtMost Atomic limit → below_of a limit ≡ false → AtMost a b → below_of b Atomic ≡ false
above_atomic a b limit atomic above high = by (below_of b Atomic) refl
  where
    by : (t : Bool) → below_of b Atomic ≡ t → t ≡ false
    by false is = refl
    by true is = absurd (false≢true (sym above ∙ below_chain a Atomic limit (below_chain a b Atomic high is) atomic))

-- what is at least an error is one
error_above : (b : Basic) → AtMost Error b → b ≡ Error
error_above Const e = absurd cc
error_above Mover e = absurd cc
error_above Atomic e = absurd cc
error_above Cmpd e = absurd cc
error_above Error e = refl

-- ---- where a method is within a limit, no reason is found

module _ (rel : ℕ → List PathData) (A : Assignment) (limit : Basic) (H : Held) where
  none_over : (overs : List ℕ) → list_all (λ m. below_of (A m (held_in (rel m) H)) limit) overs ≡ true → over_of rel A limit overs H ≡ Nothing
  none_over [] all = refl
  none_over (m ∷ ms) all =
      let parts = and_parts (below_of (A m (held_in (rel m) H)) limit) (list_all (λ n. below_of (A n (held_in (rel n) H)) limit) ms) all in
      ap (λ (t : Bool). if t then over_of rel A limit ms H else Overridden m (A m (held_in (rel m) H))) parts.0 ∙ none_over ms parts.1

none_within : (P : Program) (rel : ℕ → List PathData) (A : Assignment) (overs : List ℕ) (self : ℕ) (method : Method) (limit : Basic) → are_within P rel A overs method limit ≡ true
    → why_of P rel A overs self method limit ≡ Nothing
none_within P rel A overs self method limit all =
    let H = has_path method.requires_ in
    let parts = and_parts (below_of (effect P rel A method.body H) limit) (list_all (λ m. below_of (A m (held_in (rel m) H)) limit) overs) all in
    ap (λ (t : Bool). if t then over_of rel A limit overs H
    else body_why P rel A self (effect P rel A method.body H) (errors_in P rel A (stmt_visits P method.body 0 H None)) (stmt_steps P rel A method.body 0 H None)) parts.0
    ∙ none_over rel A limit H overs parts.1

-- ---- parts by what is known

module _ (P : Program) (rel : ℕ → List PathData) (A known : Assignment) (less_known : (m : ℕ) (H : Held) → AtMost (known m H) (A m H)) where
  -- an error by what is known is one
  pub error_known : (x : Part) (H : Held) → own_of P rel known x H ≡ Error → own_of P rel A x H ≡ Error
  error_known (ExprP (IntE v)) H is = is
  error_known (ExprP (TruthE b)) H is = is
  error_known (ExprP NullE) H is = is
  error_known (ExprP ThisE) H is = is
  error_known (ExprP (VarE x is_final ty)) H is = is
  error_known (ExprP (NotE a)) H is = is
  error_known (ExprP (NegE a)) H is = is
  error_known (ExprP (BinaryE op a b)) H is = is
  error_known (ExprP (AndE a b)) H is = is
  error_known (ExprP (OrE a b)) H is = is
  error_known (ExprP (GetE a f)) H is = is
  error_known (ExprP (NewE c args)) H is = is
  error_known (ExprP (CallE a n args)) H is = by (list_all K (required_paths (slice_get P.methods n))) is
    where
      K : Held
      K = held_under (rel n) (path_of P a) (paths_of P args) H

      by : (t : Bool) → (if t then known n K else Error) ≡ Error → (if t then A n K else Error) ≡ Error
      by true e = error_above (A n K) (subst (λ b. AtMost b (A n K)) e (less_known n K))
      by false e = refl
  error_known (StmtP EmptyS) H is = is
  error_known (StmtP (BlockS ss)) H is = is
  error_known (StmtP (LocalS x is_final ty e)) H is = is
  error_known (StmtP (SetVarS x e)) H is = is
  error_known (StmtP (SetFieldS e f g)) H is = is
  error_known (StmtP (DoS e drops)) H is = is
  error_known (StmtP (IfS c s t)) H is = is
  error_known (StmtP (WhileS c s)) H is = is
  error_known (StmtP (SyncS p s)) H is = is
  error_known (StmtP (ReturnS e)) H is = is
  error_known (StmtP (PrintS e)) H is = is
  error_known (StmtP (StartS e)) H is = is

-- ---- of a least closed assignment

module _ (P : Program) (sets : List MethodPaths) (A : Assignment) (rows : List (List ℕ)) (typed : IsTyped P) (relevant : AreRelevant P sets) (least : IsLeast P (rel_of sets) A) (are : AreOverriders P rows) where
  abbrev rel : ℕ → List PathData
  rel = rel_of sets

  abbrev overs : ℕ → List ℕ
  overs = row_at rows

  -- a method to which more than a limit is assigned has a reason
  pub reasoned : (m : ℕ) (method : Method) → slice_get P.methods m ≡ Some method → (limit : Basic) → AtMost Atomic limit → below_of (found_of A m method) limit ≡ false
      → IsReasonOf P rel A (overs m) method limit (why_of P rel A (overs m) m method limit)
  reasoned m method there limit atomic above =
      meant P rel A (overs m) m method limit atomic
      (false_from_ne_true (are_within P rel A (overs m) method limit)
      (λ e. false≢true (sym above ∙ within P rel A rows least are m method there (required_in_rel P sets relevant typed m method there) limit e)))

  -- ---- the method to which a reason leads

  module _ (known : Assignment) (less_known : (m : ℕ) (H : Held) → AtMost (known m H) (A m H)) where
    -- a call that is compound by itself has a compound method
    call_above : (k : ℕ) (other : Method) → slice_get P.methods k ≡ Some other → (receiver : Option PathData) (args : List (Option PathData)) (H : Held) → call_of P rel known k receiver args H ≡ Cmpd
        → below_of (found_of A k other) Atomic ≡ false
    call_above k other there receiver args H is = by (list_all K (required_paths (slice_get P.methods k))) refl is
      where
        K : Held
        K = held_under (rel k) receiver args H

        by : (t : Bool) → list_all K (required_paths (slice_get P.methods k)) ≡ t → (if t then known k K else Error) ≡ Cmpd → below_of (found_of A k other) Atomic ≡ false
        by true has compound =
            let held = all_has other.requires_ K (sym (ap (λ o. list_all K (required_paths o)) there) ∙ has) in
            above_atomic (known k K) (found_of A k other) Atomic refl (ap (λ b. below_of b Atomic) compound)
            (below_chain (known k K) (A k K) (found_of A k other) (less_known k K) (least.falling k (has_path other.requires_) K (λ q e. first (has_path (rel k) q) _ e) held))
        by false has compound = absurd cc

    part_above : (k : ℕ) (other : Method) → slice_get P.methods k ≡ Some other → (x : Part) (H : Held) → own_of P rel known x H ≡ Cmpd → called_by x ≡ Some k → below_of (found_of A k other) Atomic ≡ false
    part_above k other there (StmtP s) H is e = absurd (none-some k e)
    part_above k other there (ExprP (IntE v)) H is e = absurd (none-some k e)
    part_above k other there (ExprP (TruthE b)) H is e = absurd (none-some k e)
    part_above k other there (ExprP NullE) H is e = absurd (none-some k e)
    part_above k other there (ExprP ThisE) H is e = absurd (none-some k e)
    part_above k other there (ExprP (VarE x is_final ty)) H is e = absurd (none-some k e)
    part_above k other there (ExprP (NotE a)) H is e = absurd (none-some k e)
    part_above k other there (ExprP (NegE a)) H is e = absurd (none-some k e)
    part_above k other there (ExprP (BinaryE op a b)) H is e = absurd (none-some k e)
    part_above k other there (ExprP (AndE a b)) H is e = absurd (none-some k e)
    part_above k other there (ExprP (OrE a b)) H is e = absurd (none-some k e)
    part_above k other there (ExprP (GetE a f)) H is e = absurd (none-some k e)
    part_above k other there (ExprP (NewE c args)) H is e = absurd (none-some k e)
    part_above k other there (ExprP (CallE a n args)) H is e =
        let same : n ≡ k = same_Some n k e in
        call_above k other there (path_of P a) (paths_of P args) H (sym (ap (λ j. call_of P rel known j (path_of P a) (paths_of P args) H) same) ∙ is)

    -- an overriding method that is more than the limit where the paths are held that the overridden one requires
    over_above : (m : ℕ) (method : Method) → slice_get P.methods m ≡ Some method → (limit : Basic) → AtMost Atomic limit → (k : ℕ) (other : Method) → slice_get P.methods k ≡ Some other
        → (b : Basic) → IsAboveLimit rel known (overs m) (has_path method.requires_) limit k b → below_of (found_of A k other) Atomic ≡ false
    over_above m method there limit atomic k other at b over =
        let H = has_path method.requires_ in
        let alike = typed.overriding k m other method ((are m k).0 over.there) at there in
        above_atomic b (found_of A k other) limit atomic over.above
        (subst (λ c. AtMost c (found_of A k other)) (sym over.is)
        (below_chain (known k (held_in (rel k) H)) (A k (held_in (rel k) H)) (found_of A k other) (less_known k (held_in (rel k) H))
        (least.falling k (has_path other.requires_) (held_in (rel k) H) (λ q e. first (has_path (rel k) q) (H q) e)
        (λ q e. and_from (has_path (rel k) q) (H q) (required_in_rel P sets relevant typed k other at q e) (sym (ap (λ ps. has_path ps q) alike.requires_) ∙ e)))))

    pub led_above_by : (m : ℕ) (method : Method) → slice_get P.methods m ≡ Some method → (limit : Basic) → AtMost Atomic limit → (why : WhyData) → IsReasonOf P rel known (overs m) method limit why
        → (k : ℕ) (other : Method) → led_to why ≡ Some k → slice_get P.methods k ≡ Some other → below_of (found_of A k other) Atomic ≡ false
    led_above_by m method there limit atomic (Wrong v) means k other e at = absurd (none-some k e)
    led_above_by m method there limit atomic (Looped v n) means k other e at = absurd (none-some k e)
    led_above_by m method there limit atomic (Compound v) means k other e at = part_above k other at v.part v.held means.own e
    led_above_by m method there limit atomic (Two v w) means k other e at = absurd (none-some k e)
    led_above_by m method there limit atomic (Overridden n b) means k other e at =
        over_above m method there limit atomic k other at b (subst (λ j. IsAboveLimit rel known (overs m) (has_path method.requires_) limit j b) (same_Some n k e) means)
    led_above_by m method there limit atomic Nothing means k other e at = absurd means

  -- ---- by its ground

  -- the level by which a method is explained, or its limit
  abbrev level_or : Option Basic → Basic → Basic
  level_or None limit = limit
  level_or (Some level) limit = level

  pub as_known : (m : ℕ) (method : Method) (level : Option Basic) (limit : Basic) (why : WhyData) → AtMost Atomic limit → IsReasonBy P rel A (overs m) method level limit why
      → IsReasonKnown P rel A (overs m) method (level_or level limit) why
  as_known m method None limit why atomic means = record { known = A; less = λ n H. below_itself (A n H); is_level = atomic; reason = means }
  as_known m method (Some level) limit why atomic means = means

  by_level : (grounds : List Ground) (m : ℕ) (method : Method) → slice_get P.methods m ≡ Some method → (rank : ℕ) (level : Option Basic) (limit : Basic) → AtMost Atomic limit → below_of (found_of A m method) limit ≡ false
      → IsLevel level (why_from P rel A overs grounds level rank m method limit) → IsReasonBy P rel A (overs m) method level limit (why_from P rel A overs grounds level rank m method limit)
  by_level grounds m method there rank None limit atomic above is = reasoned m method there limit atomic above
  by_level grounds m method there rank (Some level) limit atomic above is = record {
    known = lowered A grounds rank level;
    less = less A grounds rank level;
    is_level = is.0;
    reason = meant P rel (lowered A grounds rank level) (overs m) m method level is.0
        (false_from_ne_true (are_within P rel (lowered A grounds rank level) (overs m) method level)
        (λ e. false≢true (ap is_reason (sym (none_within P rel (lowered A grounds rank level) (overs m) m method level e)) ∙ is.1)));
  }

  module _ (bounds : Bounds) (grounds : List Ground) (grounded : AreGrounded bounds P rel A overs grounds) where
    -- the reason of a method that is more than it may be
    pub by_ground : (m : ℕ) (method : Method) → IsMoreThanLimit bounds P A m method
        → IsReasonBy P rel A (overs m) method (level_at grounds m) (limit_for bounds P A m method) (why_by P rel A overs grounds m method (limit_for bounds P A m method))
    by_ground m method more =
        by_level grounds m method more.there (rank_at grounds m) (level_at grounds m) (limit_for bounds P A m method) (limit_atomic bounds P A m method) more.above (grounded.levels m method more)

    pub ground_above : (m : ℕ) (method : Method) → IsMoreThanLimit bounds P A m method → (k : ℕ) (other : Method) → led_to (why_by P rel A overs grounds m method (limit_for bounds P A m method)) ≡ Some k
        → slice_get P.methods k ≡ Some other → below_of (found_of A k other) Atomic ≡ false
    ground_above m method more k other e at =
        let limit = limit_for bounds P A m method in
        let why = why_by P rel A overs grounds m method limit in
        let r = as_known m method (level_at grounds m) limit why (limit_atomic bounds P A m method) (by_ground m method more) in
        led_above_by r.known r.less m method more.there (level_or (level_at grounds m) limit) r.is_level why r.reason k other e at
