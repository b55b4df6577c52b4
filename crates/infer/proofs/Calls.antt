-- A call, by the names of the callee's relevant paths.
use Rattle.std.proofs.Common.{◌≡◌, ℕ, Bool, true, false, List, [], ◌∷◌, map, refl, ap, ◌∙◌, ◌&&◌, ◌||◌}
use Rattle.std.specs.Prelude.{Option, slice_get, if◌then◌else◌}
use Rattle.std.specs.List.{list_all}
use Rattle.std.proofs.lemmas.Bool.{or_left, or_right}
use Rattle.paths.specs.Paths.{PathData, path_eq}
use Rattle.paths.specs.Renamings.{under_call}
use Rattle.paths.proofs.PathOrder.{eq_is, eq_itself}
use Rattle.algebra.specs.declared.basic.Basic.{Basic}
use Rattle.algebra.specs.declared.basic.Basic.TheVariants.{Error}
use Rattle.algebra.specs.HeldPaths.{Held, has_path, holds_at}
use Rattle.core_program.specs.Core.{Program}
use Rattle.rules.specs.Near.{MethodPaths, rel_of}
use Rattle.rules.specs.Effect.{held_under, required_paths, call_of}
use Rattle.infer.specs.Tables.{chosen, table_or_empty, table_assignment}
use Rattle.infer.specs.Names.{name_in, held_partners}

and_held : (h v : Bool) → h ≡ true → v ≡ (h && v)
and_held true v e = refl
and_held false v e = absurd cc

module _ (o : Option PathData) (args : List (Option PathData)) where
  -- each path with its name at the call
  abbrev pub named_at : List PathData → List (PathData × Option PathData)
  named_at ps = map (λ q. (q, under_call o args q)) ps

  name_step : (H : Held) (b h : Bool) (here there later : Option PathData) → (b ≡ true → here ≡ there) → holds_at later H ≡ (h && holds_at there H) → holds_at (if b then here else later) H ≡ ((b || h) && holds_at there H)
  name_step H true h here there later same rest = ap (λ n. holds_at n H) (same refl)
  name_step H false h here there later same rest = rest

  name_held : (H : Held) (ps : List PathData) (q : PathData) → holds_at (name_in (named_at ps) q) H ≡ (has_path ps q && holds_at (under_call o args q) H)
  name_held H [] q = refl
  name_held H (p ∷ ps) q = name_step H (path_eq p q) (has_path ps q) (under_call o args p) (under_call o args q) (name_in (named_at ps) q) (λ same. ap (under_call o args) (eq_is p q same)) (name_held H ps q)

  partners_of : (H : Held) (rel ps : List PathData) → ((q : PathData) → has_path ps q ≡ true → has_path rel q ≡ true) → held_partners (named_at ps) H ≡ map (held_under rel o args H) ps
  partners_of H rel [] part = refl
  partners_of H rel (p ∷ ps) part =
      let head = and_held (has_path rel p) (holds_at (under_call o args p) H) (part p (or_left (path_eq p p) (has_path ps p) (eq_itself p))) in
      let rest = partners_of H rel ps (λ q has. part q (or_right (path_eq p q) (has_path ps q) has)) in
      λ i. head i ∷ rest i

  pub call_is : (P : Program) (sets : List MethodPaths) (tables : List (List Basic)) (m : ℕ) (pairs pairs2 : List (PathData × Option PathData)) (table : List Basic) (required : List PathData) (picked : Basic) (H : Held)
      → pairs ≡ named_at (rel_of sets m) → pairs2 ≡ named_at (rel_of sets m)
      → table ≡ table_or_empty (slice_get tables m) → required ≡ required_paths (slice_get P.methods m)
      → picked ≡ chosen (held_partners pairs H) table
      → (if list_all (λ q. holds_at (name_in pairs2 q) H) required then picked else Error) ≡ call_of P (rel_of sets) (table_assignment (rel_of sets) tables) m o args H
  call_is P sets tables m pairs pairs2 table required picked H pairs_are pairs2_are table_is required_is picked_is =
      let names : ◌≡◌ {A = Held} (λ q. holds_at (name_in pairs2 q) H) (held_under (rel_of sets m) o args H) = (λ i q. (ap (λ ns. holds_at (name_in ns q) H) pairs2_are ∙ name_held H (rel_of sets m) q) i) in
      let entry = picked_is ∙ (λ i. chosen (held_partners (pairs_are i) H) (table_is i)) ∙ ap (λ bits. chosen bits (table_or_empty (slice_get tables m))) (partners_of H (rel_of sets m) (rel_of sets m) (λ q has. has)) in
      λ i. if list_all (names i) (required_is i) then entry i else Error
