-- What one question to a cell tells: its demand is met, or its table rises.
use Rattle.std.proofs.Common.{IsTrue, ◌≡◌, ℕ, ◌-◌, ◌<◌, ◌≤◌, Bool, true, false, ◌&&◌, List, length, slice_get, slice_set, Some, sym, ap, subst, ◌∙◌, arith}
use Rattle.base.proofs.Lists.{get_below}
use Rattle.paths.specs.Paths.{PathData}
use Rattle.algebra.specs.declared.basic.Basic.{Basic}
use Rattle.core_program.specs.Core.{Program, Method}
use Rattle.fixpoint.specs.Assignments.{IsAbove, AreAllMet}
use Rattle.rules.specs.Called.{counts_as_caller}
use Rattle.infer.specs.Tables.{table_or_empty, table_assignment}
use Rattle.infer.specs.Cells.{table_numbers, demands_of, demands_at, are_below, joined_tables, is_met_by, is_met, rooms_of, AreTables, AreCells}
use Rattle.infer.proofs.OtherLemmas.{joined_covers, others_met}
use Rattle.infer.proofs.CellLemmas.{tables_same, length_numbers, length_above, each_falls, risen_tables, risen_above, risen_room, risen_under, demanded_length}

-- the same of tables and of their numbers
pub numbers_met : (P : Program) (overs : ℕ → List ℕ) (rel : ℕ → List PathData) (tables : List (List Basic)) (m : ℕ) → is_met_by P overs rel tables m ≡ is_met P overs rel (table_numbers tables) m
numbers_met P overs rel tables m = ap (λ ts. is_met_by P overs rel ts m) (sym (tables_same tables))

module _ (P : Program) (overs : ℕ → List ℕ) (rel : ℕ → List PathData) (tables : List (List Basic)) (m : ℕ) (ds own : List Basic) (ds_are : ds ≡ demands_at P overs rel (table_assignment rel tables) m) (own_is : own ≡ table_or_empty (slice_get tables m)) where
  -- the test is whether the demand is met
  pub test_by : AreTables P rel tables → (b : Bool) → b ≡ are_below ds own → b ≡ is_met_by P overs rel tables m
  test_by each b is = is ∙ (λ i. are_below (ds_are i) (own_is i))
      ∙ ap (λ t. t && are_below (demands_at P overs rel (table_assignment rel tables) m) (table_or_empty (slice_get tables m))) (sym (each_falls P rel tables each m))

  -- what a rise keeps and gives
  pub record Rises (risen : List Basic) (room : ℕ) (rows : List (List ℕ)) : Type 0 where
    pub cells : AreCells P overs rel (slice_set tables m risen) (room - 1) rows
    pub some : 1 ≤ room
    pub rises : IsAbove (table_numbers (slice_set tables m risen)) (table_numbers tables)
    pub under : (x : List (List ℕ)) → AreAllMet (is_met P overs rel) x → IsAbove x (table_numbers tables) → IsAbove x (table_numbers (slice_set tables m risen))
    pub others : (k : ℕ) → counts_as_caller P overs k m ≡ false → ((k ≡ m → ⊥) → IsTrue (is_met P overs rel (table_numbers tables) k)) → IsTrue (is_met P overs rel (table_numbers (slice_set tables m risen)) k)

  risen_cells : (room : ℕ) (rows : List (List ℕ)) → AreCells P overs rel tables room rows → (risen : List Basic) → AreTables P rel (slice_set tables m risen) → rooms_of (slice_set tables m risen) < rooms_of tables
      → AreCells P overs rel (slice_set tables m risen) (room - 1) rows
  risen_cells room rows cells risen each falls =
      let enough = cells.enough in
      record { few = cells.few; each = each; enough = omega arith; callers = cells.callers }

  rises_at : (room : ℕ) (rows : List (List ℕ)) → AreCells P overs rel tables room rows → m < length (table_numbers tables) → (method : Method) → slice_get P.methods m ≡ Some method → (old : List Basic) → slice_get tables m ≡ Some old
      → are_below ds own ≡ false → Rises (joined_tables (demands_of P overs rel (table_assignment rel tables) m (Some method)) old) room rows
  rises_at room rows cells within method is old is_old unmet =
      let ds_is : ds ≡ demands_of P overs rel (table_assignment rel tables) m (Some method) = ds_are ∙ ap (demands_of P overs rel (table_assignment rel tables) m) is in
      let own_old : own ≡ old = own_is ∙ ap table_or_empty is_old in
      let unmet_there : are_below (demands_of P overs rel (table_assignment rel tables) m (Some method)) old ≡ false = (λ i. are_below (sym ds_is i) (sym own_old i)) ∙ unmet in
      let falls = risen_room P overs rel tables m method old is is_old cells.each unmet_there in
      let inside : m < length tables = subst (λ n. m < n) (length_numbers tables) within in
      let risen = joined_tables (demands_of P overs rel (table_assignment rel tables) m (Some method)) old in
      let each = risen_tables P overs rel tables m method old is is_old cells.each in
      let covered : are_below (demands_at P overs rel (table_assignment rel tables) m) risen ≡ true =
      subst (λ o. are_below (demands_of P overs rel (table_assignment rel tables) m o) risen ≡ true) (sym is)
      (joined_covers (demands_of P overs rel (table_assignment rel tables) m (Some method)) old (demanded_length P overs rel tables m method old is is_old cells.each)) in
      record {
        cells = risen_cells room rows cells risen each falls;
        some = (let e = cells.enough in omega arith);
        rises = risen_above P overs rel tables m method old is is_old cells.each;
        under = λ x closed up. risen_under P overs rel tables m method old is is_old cells.each x
            (closed m (subst (λ n. m < n) (sym (length_above x (table_numbers tables) up)) within)) up;
        others = λ k quiet before. sym (numbers_met P overs rel (slice_set tables m risen) k) ∙ others_met P overs rel tables m risen inside each covered k quiet (λ differs. numbers_met P overs rel tables k ∙ before differs);
      }

  pub rises_now : (risen : List Basic) (room : ℕ) (rows : List (List ℕ)) → AreCells P overs rel tables room rows → m < length (table_numbers tables) → are_below ds own ≡ false → risen ≡ joined_tables ds own → Rises risen room rows
  rises_now risen room rows cells within unmet is =
      let inside : m < length tables = subst (λ n. m < n) (length_numbers tables) within in
      let table = get_below tables m inside in
      let method = get_below P.methods m (subst (λ n. m < n) cells.each.count inside) in
      let same : risen ≡ joined_tables (demands_of P overs rel (table_assignment rel tables) m (Some method.0)) table.0
      = is ∙ (λ i. joined_tables ((ds_are ∙ ap (demands_of P overs rel (table_assignment rel tables) m) method.1) i) ((own_is ∙ ap table_or_empty table.1) i)) in
      subst (λ r. Rises r room rows) (sym same) (rises_at room rows cells within method.0 method.1 table.0 table.1 unmet)
