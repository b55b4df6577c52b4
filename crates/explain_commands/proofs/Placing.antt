-- Each part that a reason names stands in its place.
use Rattle.std.proofs.Common.{◌≡◌, ℕ, List, Option, Some, None, Contains, map, slice_get, ap, ◌∙◌, ◌⊎◌, inl, inr}
use Rattle.std.specs.Prelude.{unwrap_or}
use Rattle.algebra.specs.declared.basic.Basic.{Basic}
use Rattle.algebra.specs.declared.basic.Basic.TheVariants.{Atomic, Cmpd}
use Rattle.algebra.specs.HeldPaths.{has_path}
use Rattle.classes.proofs.Parts.{mapped_at}
use Rattle.classes.specs.Table.{table_of}
use Rattle.core_program.specs.Core.{Program, Method}
use Rattle.effects.specs.Parts.{StmtP}
use Rattle.explain.proofs.AllVisits.{part_among}
use Rattle.explain.specs.Meanings.{IsAmong, IsReasonOf}
use Rattle.explain.specs.Steps.{stmt_steps}
use Rattle.explain.specs.Visits.{Visit, part_visits}
use Rattle.explain.specs.Whys.{WhyData}
use Rattle.paths.specs.Paths.{PathData}
use Rattle.places.proofs.InPrograms.{method_made, visited_told}
use Rattle.places.specs.Sources.{methods_in}
use Rattle.rules.specs.Effect.{Assignment}
use Rattle.syntax.specs.Trees.{MemberTree, MethodM, ProgramTree}
use Rattle.typing.specs.Programs.{core_of}
use Rattle.explain_commands.specs.Answers.{pages_of}
use Rattle.explain_commands.specs.Explained.{places_at, slots_at}
use Rattle.explain_commands.specs.Placed.{IsNamedBy, error, repeated, call, first, second, StandsInPlace}

module _ (P : Program) (rel : ℕ → List PathData) (A : Assignment) (overs : List ℕ) (method : Method) where
  abbrev steps : List Visit
  steps = stmt_steps P rel A method.body 0 (has_path method.requires_) None

  -- each step is a part that the walk comes to
  step_there : (v : Visit) → Contains steps v → Contains (part_visits P (StmtP method.body) 0 (has_path method.requires_)) v
  step_there v there = part_among P rel A (StmtP method.body) 0 (has_path method.requires_) v there

  -- a named part is one that the walk comes to
  pub named_there : (limit : Basic) (why : WhyData) (v : Visit) → IsNamedBy why v → IsReasonOf P rel A overs method limit why → Contains (part_visits P (StmtP method.body) 0 (has_path method.requires_)) v
  named_there limit _ _ (error v) means = means.there
  named_there limit _ _ (repeated v n) means = step_there v means.0.there
  named_there limit _ _ (call v) means = step_there v means.there
  named_there limit _ _ (first v w) means = by means.1
    where
      by : (IsAmong P rel A steps Atomic v × (IsAmong P rel A steps Atomic w ⊎ IsAmong P rel A steps Cmpd w)) ⊎ (IsAmong P rel A steps Cmpd v × IsAmong P rel A steps Atomic w)
          → Contains (part_visits P (StmtP method.body) 0 (has_path method.requires_)) v
      by (inl both) = step_there v both.0.there
      by (inr both) = step_there v both.0.there
  named_there limit _ _ (second v w) means = by means.1
    where
      either : IsAmong P rel A steps Atomic w ⊎ IsAmong P rel A steps Cmpd w → Contains (part_visits P (StmtP method.body) 0 (has_path method.requires_)) w
      either (inl one) = step_there w one.there
      either (inr one) = step_there w one.there

      by : (IsAmong P rel A steps Atomic v × (IsAmong P rel A steps Atomic w ⊎ IsAmong P rel A steps Cmpd w)) ⊎ (IsAmong P rel A steps Cmpd v × IsAmong P rel A steps Atomic w)
          → Contains (part_visits P (StmtP method.body) 0 (has_path method.requires_)) w
      by (inl both) = either both.1
      by (inr both) = step_there w both.1.there

pub placed : (name file : List ℕ) (tree : ProgramTree) (P : Program) → core_of tree ≡ Some P → (k : ℕ) (method : Method) → slice_get P.methods k ≡ Some method → (v : Visit)
    → Contains (part_visits P (StmtP method.body) 0 (has_path method.requires_)) v → StandsInPlace tree (pages_of name file tree k) k method v
placed name file tree P core k method is v there =
    let its = method_made tree P core k method is in
    let told = visited_told (table_of tree) P method its.m (has_path method.requires_) v its.made there in
    let member : slice_get (map MethodM (methods_in tree)) k ≡ Some (MethodM its.m) = mapped_at MethodM (methods_in tree) k its.m its.is in
    record {
      its = its;
      told = told;
      offset = ap (λ (m : Option MemberTree). unwrap_or (slice_get (places_at m) v.node) 0) member ∙ ap (λ (o : Option ℕ). unwrap_or o 0) told.place;
      slots = ap slots_at member;
    }
