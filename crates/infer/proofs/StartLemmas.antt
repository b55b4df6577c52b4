-- From const everywhere to the least tables.
use Rattle.std.proofs.Common.{◌≡◌, ℕ, ◌*◌, ◌^◌, ◌≤◌, List, length, sym, ap, subst, ◌∙◌}
use Rattle.algebra.specs.declared.basic.Basic.{Basic}
use Rattle.core_program.specs.Core.{Program}
use Rattle.core_program.specs.Typed.{IsTyped}
use Rattle.fixpoint.specs.Assignments as fix
use Rattle.rules.specs.Near.{MethodPaths, AreRelevant, AreFew, rel_of}
use Rattle.rules.specs.Search.{row_at as overs_at}
use Rattle.rules.specs.Nearest.{AreNearest}
use Rattle.rules.specs.Called.{AreCallers}
use Rattle.infer.specs.Tables.{table_assignment}
use Rattle.infer.specs.Cells.{table_numbers, tables_in, all_const, is_met, rooms_of, AreTables, AreCells}
use Rattle.infer.specs.Least.{IsLeast}
use Rattle.infer.proofs.CellLemmas.{length_numbers, length_above}
use Rattle.infer.proofs.LeastLemmas.{length_tables_in, const_tables, const_room, is_least}
use Rattle.rules.proofs.Required.{required_in_rel}

module _ (P : Program) (sets : List MethodPaths) (start : List (List Basic)) (count : ℕ) (start_is : start ≡ tables_in (rel_of sets) all_const 0 count) (all : count ≡ length P.methods) where
  start_at : start ≡ tables_in (rel_of sets) all_const 0 (length P.methods)
  start_at = start_is ∙ ap (tables_in (rel_of sets) all_const 0) all

  pub start_length : length start ≡ length P.methods
  start_length = ap length start_at ∙ length_tables_in (rel_of sets) all_const 0 (length P.methods)

  pub start_cells : (overs : List (List ℕ)) → length P.methods ≤ 2 ^ 32 → AreFew sets → (len room : ℕ) (rows : List (List ℕ)) → len ≡ length start → room ≡ 1024 * len → AreCallers P (overs_at overs) rows → AreCells P (overs_at overs) (rel_of sets) start room rows
  start_cells overs below few len room rows is room_is callers = record {
    few = below;
    each = subst (AreTables P (rel_of sets)) (sym start_at) (const_tables P (rel_of sets));
    enough = subst (λ n. rooms_of start ≤ n) (sym room_is) (subst (λ n. rooms_of start ≤ 1024 * n) (sym is)
        (subst (λ ts. rooms_of ts ≤ 1024 * length ts) (sym start_at) (const_room P sets few)));
    callers = callers;
  }

  -- where every demand is met, above the start and below all others
  pub least_count : (tables : List (List Basic)) → fix.IsAbove (table_numbers tables) (table_numbers start) → length tables ≡ length P.methods
  least_count tables up = sym (length_numbers tables) ∙ length_above (table_numbers tables) (table_numbers start) up ∙ length_numbers start ∙ start_length

  pub least_is : (overs : List (List ℕ)) → IsTyped P → AreRelevant P sets → AreNearest P overs → (tables : List (List Basic)) → fix.AreAllMet (is_met P (overs_at overs) (rel_of sets)) (table_numbers tables)
      → fix.IsBetween (is_met P (overs_at overs) (rel_of sets)) (table_numbers start) (table_numbers tables) → IsLeast P (rel_of sets) (table_assignment (rel_of sets) tables)
  least_is overs typed relevant nearest tables closed between = is_least P typed overs nearest (rel_of sets) (λ m method is. required_in_rel P sets relevant typed m method is) tables closed
      (subst (λ ts. fix.IsBetween (is_met P (overs_at overs) (rel_of sets)) (table_numbers ts) (table_numbers tables)) start_at between)
