-- How it ends, and what is told, by which bounds are asked for.
use Rattle.std.proofs.Common.{◌≡◌, ℕ, ◌+◌, Bool, true, false, List, [], ◌∷◌, ◌++◌, Contains, Option, Some, None, if◌then◌else◌, filter, length, map, slice_get, refl, sym, ap, subst, ◌∙◌, append-nil}
use Rattle.std.proofs.lemmas.Option.{slice_get_within}
use Rattle.algebra.specs.declared.basic.Basic.{Basic}
use Rattle.algebra.specs.Basics.{below_of}
use Rattle.algebra.specs.HeldPaths.{has_path}
use Rattle.core_program.specs.Core.{Program, Method}
use Rattle.core_program.specs.Typed.{IsTyped}
use Rattle.explain.specs.declared.names.Alias.{Alias}
use Rattle.explain.specs.Causes.{cause_of}
use Rattle.effects.specs.Parts.{StmtP}
use Rattle.explain.specs.Grounds.{level_at}
use Rattle.explain.specs.Leads.{AreGrounded, IsReasonChain, IsReasonBy, LeadsAreTold}
use Rattle.explain.specs.Programs.{explained, explained_methods, led, led_to, marked}
use Rattle.explain.specs.Ranking.{AreAllRanked}
use Rattle.explain.specs.Strict.{entries_behind, settled_from, keep_all, keeps_strictly, refused_strictly, strict_bound, strict_from, strictly_broken, strictly_broken_from}
use Rattle.explain.specs.Visits.{Visit, part_visits}
use Rattle.explain.specs.declared.grounds.Ground.{Ground}
use Rattle.explain.specs.Whys.{ExplainedData, Wrong}
use Rattle.explain.proofs.Closing.{leads_are_told, strict_leads_are_told}
use Rattle.explain.proofs.Strictly.{none_broken_strictly, none_explained, some_broken_strictly}
use Rattle.explain.proofs.Telling.{IsRest, rest_first, rest_next, whole}
use Rattle.paths.specs.Paths.{PathData}
use Rattle.reasons.specs.Causing.{IsCause}
use Rattle.reasons.proofs.Founding.{all_grounded}
use Rattle.reasons.proofs.Strictly.{strictly_above, strictly_causes, strictly_decides, strictly_end, strictly_reasons}
use Rattle.reasons.proofs.ToldAbove.{all_above, all_causes, all_end, all_reasons}
use Rattle.rules.specs.Effect.{Assignment}
use Rattle.rules.specs.Near.{MethodPaths, rel_of}
use Rattle.rules.specs.Overriding.{AreOverriders}
use Rattle.rules.specs.Search.{row_at}
use Rattle.sources.specs.declared.refusal.Ending.{Ending}
use Rattle.sources.specs.declared.refusal.Ending.TheVariants.{Done, Refused, Inadmissible, NoSchedule, Stopped, Open, BookRefused, NothingToBlame, BlameRefused, LevelsRefused, CallTooDeep}
use Rattle.sources.specs.Verdicts.{HasLeast}
use Rattle.explain_commands.specs.declared.words.Order.{Order}
use Rattle.explain_commands.specs.declared.words.Order.TheVariants.{Why, All, Strict}
use Rattle.explain_commands.specs.Broken.{broken_methods, ending_for, refused_in}
use Rattle.explain_commands.specs.Explained.{AreAmongMethods}
use Rattle.explain_commands.specs.Orders.{IsProgramVerdict, bounds_for, broken_for, ending_in, explanations_for, strict_ending}
use Rattle.explain_commands.specs.Placed.{IsNamedBy}
use Rattle.explain_commands.proofs.Placing.{named_there}
use Rattle.explain_commands.proofs.Breaking.{all_there, all_within, AreLed, exactly_broken, led_fine, none_refused, nothing_explained}

-- ---- how it ends

ends_by : (ms : List ℕ) → (ms ≡ [] → ⊥) → Inadmissible ≡ ending_for ms
ends_by [] some = absurd (some refl)
ends_by (m ∷ ms) some = refl

strict_ends : (P : Program) (A : Assignment) → strict_ending (keep_all P A) ≡ ending_for (strictly_broken P A)
strict_ends P A = by (keep_all P A) refl
  where
    by : (b : Bool) → keep_all P A ≡ b → strict_ending b ≡ ending_for (strictly_broken P A)
    by true is = ap ending_for (sym (none_broken_strictly P A P.methods 0 is))
    by false is = ends_by (strictly_broken P A) (some_broken_strictly P A P.methods 0 is)

pub ends_for : (order : Order) (P : Program) (A : Assignment) (declared : Ending) → declared ≡ ending_for (broken_methods P A) → ending_in order P A declared ≡ ending_for (broken_for order P A)
ends_for Why P A declared is = is
ends_for All P A declared is = is
ends_for Strict P A declared is = strict_ends P A

-- a listing asks for the bounds that methods declare
listed : (P : Program) (ending : Ending) → IsProgramVerdict Why P ending → IsProgramVerdict All P ending
listed P Done v = v
listed P Refused v = absurd v
listed P Inadmissible v = v
listed P NoSchedule v = absurd v
listed P Stopped v = absurd v
listed P Open v = absurd v
listed P BookRefused v = absurd v
listed P NothingToBlame v = absurd v
listed P BlameRefused v = absurd v
listed P LevelsRefused v = absurd v
listed P CallTooDeep v = absurd v

pub verdict_for : (order : Order) (P : Program) (sets : List MethodPaths) (A : Assignment) (declared : Ending) → IsTyped P → HasLeast P sets A → IsProgramVerdict Why P declared
    → IsProgramVerdict order P (ending_in order P A declared)
verdict_for Why P sets A declared typed least verdict = verdict
verdict_for All P sets A declared typed least verdict = listed P declared verdict
verdict_for Strict P sets A declared typed least verdict = by (keep_all P A) refl
  where
    by : (b : Bool) → keep_all P A ≡ b → IsProgramVerdict Strict P (strict_ending b)
    by true is = (strictly_decides P sets A typed least.relevant least.few least.least).0 is
    by false is = λ accepted. let c : true ≡ false = sym ((strictly_decides P sets A typed least.relevant least.few least.least).1 accepted) ∙ is in cc

-- ---- what is told where each method counts as `atomic`

both_led : (n : ℕ) (xs ys : List ExplainedData) → AreLed n xs → AreLed n ys → AreLed n (xs ++ ys)
both_led n [] ys one other = other
both_led n (x ∷ xs) ys one other = (one.0, one.1, both_led n xs ys one.2 other)

module _ (P : Program) (rel : ℕ → List PathData) (A : Assignment) (overs : ℕ → List ℕ) (grounds : List Ground) where
  strictly_refused : (methods : List Method) (m : ℕ) → refused_in (strict_from P rel A overs grounds m methods) ≡ strictly_broken_from P A m methods
  strictly_refused [] m = refl
  strictly_refused (method ∷ methods) m = by (keeps_strictly P A m method) (strictly_refused methods (m + 1))
    where
      by : (b : Bool) → refused_in (strict_from P rel A overs grounds (m + 1) methods) ≡ strictly_broken_from P A (m + 1) methods
          → refused_in ((if b then [] else explained P rel A overs grounds true (strict_bound P m method) m method ∷ []) ++ strict_from P rel A overs grounds (m + 1) methods)
          ≡ (if b then strictly_broken_from P A (m + 1) methods else m ∷ strictly_broken_from P A (m + 1) methods)
      by true rest = rest
      by false rest = ap (λ ms. m ∷ ms) rest

  strictly_there : (methods : List Method) (m : ℕ) → IsRest P rel A overs grounds m methods → AreAmongMethods (length P.methods) (strict_from P rel A overs grounds m methods)
  strictly_there [] m r = tt
  strictly_there (method ∷ methods) m r = by (keeps_strictly P A m method) (strictly_there methods (m + 1) (rest_next P rel A overs grounds m method methods r))
    where
      by : (b : Bool) → AreAmongMethods (length P.methods) (strict_from P rel A overs grounds (m + 1) methods)
          → AreAmongMethods (length P.methods) ((if b then [] else explained P rel A overs grounds true (strict_bound P m method) m method ∷ []) ++ strict_from P rel A overs grounds (m + 1) methods)
      by true rest = rest
      by false rest = (slice_get_within P.methods m method (rest_first P rel A overs grounds m method methods r), rest)

  -- none of those behind them is refused, and all are there
  behind_fine : (xs : List ExplainedData) (told : List Bool) → AreLed (length P.methods) (entries_behind P rel A overs grounds told xs)
  behind_fine [] told = tt
  behind_fine (x ∷ xs) told =
      let more = led P rel A overs grounds (length P.methods) told (led_to x.why) in
      both_led (length P.methods) more (entries_behind P rel A overs grounds (marked told (explained_methods more)) xs) (led_fine P rel A overs grounds (length P.methods) told (led_to x.why))
      (behind_fine xs (marked told (explained_methods more)))

  refused_both : (xs ys : List ExplainedData) → refused_in ys ≡ [] → refused_in (xs ++ ys) ≡ refused_in xs
  refused_both [] ys none = none
  refused_both (x ∷ xs) ys none = by x.is_refused (refused_both xs ys none)
    where
      by : (b : Bool) → refused_in (xs ++ ys) ≡ refused_in xs → map (λ z. z.method) (if b then x ∷ filter (λ z. z.is_refused) (xs ++ ys) else filter (λ z. z.is_refused) (xs ++ ys))
          ≡ map (λ z. z.method) (if b then x ∷ filter (λ z. z.is_refused) xs else filter (λ z. z.is_refused) xs)
      by true rest = ap (λ ms. x.method ∷ ms) rest
      by false rest = rest

  among_both : (n : ℕ) (xs ys : List ExplainedData) → AreAmongMethods n xs → AreAmongMethods n ys → AreAmongMethods n (xs ++ ys)
  among_both n [] ys one other = other
  among_both n (x ∷ xs) ys one other = (one.0, among_both n xs ys one.1 other)

  -- the entries behind the refused ones
  abbrev entries : List ExplainedData
  entries = entries_behind P rel A overs grounds (settled_from P A 0 P.methods) (refused_strictly P rel A overs grounds)

  entries_fine : AreLed (length P.methods) entries
  entries_fine = behind_fine (refused_strictly P rel A overs grounds) (settled_from P A 0 P.methods)

  -- ---- by what is asked for

  -- the explanations are of exactly the methods that break their bounds
  pub exactly_for : (order : Order) → refused_in (explanations_for order P rel A overs grounds) ≡ broken_for order P A
  exactly_for Why = exactly_broken P rel A overs grounds
  exactly_for All = exactly_broken P rel A overs grounds
  exactly_for Strict = refused_both (refused_strictly P rel A overs grounds) entries (ap refused_in (sym (append-nil entries)) ∙ none_refused (length P.methods) entries [] entries_fine) ∙ strictly_refused P.methods 0

  -- and all their methods are there
  pub there_for : (order : Order) → AreAmongMethods (length P.methods) (explanations_for order P rel A overs grounds)
  there_for Why = all_there P rel A overs grounds
  there_for All = all_there P rel A overs grounds
  there_for Strict =
      among_both (length P.methods) (refused_strictly P rel A overs grounds) entries (strictly_there P.methods 0 (whole P rel A overs grounds))
      (subst (AreAmongMethods (length P.methods)) (append-nil entries) (all_within (length P.methods) entries [] entries_fine tt))

  -- each method by which one of them is more than it may be is told, unless it is atomic
  pub closed_for : (order : Order) → LeadsAreTold P A (explanations_for order P rel A overs grounds)
  closed_for Why = leads_are_told P rel A overs grounds
  closed_for All = leads_are_told P rel A overs grounds
  closed_for Strict = strict_leads_are_told P rel A overs grounds

  -- where none breaks its bound, nothing is explained
  pub nothing_for : (order : Order) → broken_for order P A ≡ [] → explanations_for order P rel A overs grounds ≡ []
  nothing_for Why none = nothing_explained P rel A overs grounds none
  nothing_for All none = nothing_explained P rel A overs grounds none
  nothing_for Strict none = none_explained P rel A overs grounds none

module _ (P : Program) (sets : List MethodPaths) (A : Assignment) (rows : List (List ℕ)) (typed : IsTyped P) (least : HasLeast P sets A) (are : AreOverriders P rows) where
  -- each method that is more than it may be has a rank
  pub grounded_for : (order : Order) (grounds : List Ground) → AreAllRanked (bounds_for order) P (rel_of sets) A (row_at rows) grounds → AreGrounded (bounds_for order) P (rel_of sets) A (row_at rows) grounds
  grounded_for order grounds all = all_grounded P sets A rows typed least.relevant least.least are (bounds_for order) grounds all

  pub above_for : (order : Order) (grounds : List Ground) → AreGrounded (bounds_for order) P (rel_of sets) A (row_at rows) grounds
      → (x : ExplainedData) → Contains (explanations_for order P (rel_of sets) A (row_at rows) grounds) x → below_of x.found x.limit ≡ false
  above_for Why grounds are_grounds = all_above P sets A rows typed least.relevant least.least are grounds are_grounds
  above_for All grounds are_grounds = all_above P sets A rows typed least.relevant least.least are grounds are_grounds
  above_for Strict grounds are_grounds = strictly_above P sets A rows typed least.relevant least.least are grounds are_grounds

  pub reasons_for : (order : Order) (grounds : List Ground) → AreGrounded (bounds_for order) P (rel_of sets) A (row_at rows) grounds
      → (x : ExplainedData) → Contains (explanations_for order P (rel_of sets) A (row_at rows) grounds) x → (method : Method) → slice_get P.methods x.method ≡ Some method
      → IsReasonBy P (rel_of sets) A (row_at rows x.method) method (level_at grounds x.method) x.limit x.why
  reasons_for Why grounds are_grounds = all_reasons P sets A rows typed least.relevant least.least are grounds are_grounds
  reasons_for All grounds are_grounds = all_reasons P sets A rows typed least.relevant least.least are grounds are_grounds
  reasons_for Strict grounds are_grounds = strictly_reasons P sets A rows typed least.relevant least.least are grounds are_grounds

  pub circle_for : (order : Order) (grounds : List Ground) → AreGrounded (bounds_for order) P (rel_of sets) A (row_at rows) grounds
      → (x : ExplainedData) → IsReasonChain P (rel_of sets) (explanations_for order P (rel_of sets) A (row_at rows) grounds) x x → ⊥
  circle_for Why grounds are_grounds = all_end P sets A rows typed least.relevant least.least are grounds are_grounds
  circle_for All grounds are_grounds = all_end P sets A rows typed least.relevant least.least are grounds are_grounds
  circle_for Strict grounds are_grounds = strictly_end P sets A rows typed least.relevant least.least are grounds are_grounds

  pub causes_for : (order : Order) (grounds : List Ground) → AreGrounded (bounds_for order) P (rel_of sets) A (row_at rows) grounds
      → (x : ExplainedData) → Contains (explanations_for order P (rel_of sets) A (row_at rows) grounds) x → (v : Visit) → x.why ≡ Wrong v → (aliases : List Alias)
      → IsCause P (rel_of sets) A v.held v.part (cause_of P (rel_of sets) aliases v.held v.part)
  causes_for Why grounds are_grounds = all_causes P sets A rows typed least.relevant least.least are grounds are_grounds
  causes_for All grounds are_grounds = all_causes P sets A rows typed least.relevant least.least are grounds are_grounds
  causes_for Strict grounds are_grounds = strictly_causes P sets A rows typed least.relevant least.least are grounds are_grounds

  -- the visits that a reason names are parts of the method's body
  pub named_for : (order : Order) (grounds : List Ground) → AreGrounded (bounds_for order) P (rel_of sets) A (row_at rows) grounds
      → (x : ExplainedData) → Contains (explanations_for order P (rel_of sets) A (row_at rows) grounds) x → (method : Method) → slice_get P.methods x.method ≡ Some method → (v : Visit) → IsNamedBy x.why v
      → Contains (part_visits P (StmtP method.body) 0 (has_path method.requires_)) v
  named_for order grounds are_grounds x c method there v named =
      by (level_at grounds x.method) (reasons_for order grounds are_grounds x c method there)
    where
      by : (level : Option Basic) → IsReasonBy P (rel_of sets) A (row_at rows x.method) method level x.limit x.why → Contains (part_visits P (StmtP method.body) 0 (has_path method.requires_)) v
      by None means = named_there P (rel_of sets) A (row_at rows x.method) method x.limit x.why v named means
      by (Some level) means = named_there P (rel_of sets) means.known (row_at rows x.method) method level x.why v named means.reason
