-- Expressions with arguments: what the arguments give one by one, and what a call or a `new` makes of them.
use Rattle.std.proofs.Common.{◌≡◌, ℕ, ◌+◌, ◌<◌, List, [], ◌∷◌, ◌++◌, Option, Some, None, option_map, map, length, drop, get_or, refl, ap, sym, ◌∙◌}
use Rattle.std.specs.declared.alloc.Global.{Global}
use Rattle.std.specs.declared.vec.Vec.{Vec}
use Rattle.base.proofs.Lists.{next_drop}
use Rattle.core_program.specs.Core.{no_exprs}
use Rattle.syntax.specs.declared.tree.Expr.{Expr}
use Rattle.syntax.specs.declared.tree.Name.{Name}
use Rattle.syntax.specs.Trees.{ExprTree, ExprTrees, CallE, NewE}
use Rattle.syntax.specs.Views.{expr_tree, exprs_from}
use Rattle.classes.specs.Table.{TableData}
use Rattle.typing.specs.declared.fault.TypeFault.{TypeFault}
use Rattle.typing.specs.declared.types.TypedExpr.{TypedExpr}
use Rattle.typing.specs.Exprs.{elaborated, elaborated_each, expr_faults, each_faults, call_fault, new_fault}
use Rattle.typing.specs.Gathered.{one_more}
use Rattle.typing.specs.Noted.{type_noted}
use Rattle.typing.specs.Rules.{TypedData, TypedList, with_argument, call_rule, new_rule}
use Rattle.typing.specs.Rulings.{ruled, both}
use Rattle.typing.specs.Scopes.{Scope}
use Rattle.typing.specs.Views.{typed_data, typed_list}
use Rattle.typing.proofs.Gathering.{so_far, so_far_more, before_rest, linked}
use Rattle.typing.proofs.Noting.{noted_append}

-- no arguments
abbrev pub no_rest : Option TypedList
no_rest = Some (record { types = []; nodes = no_exprs })

all_arguments : (parts : List TypedExpr) → before_rest typed_data with_argument parts no_rest ≡ Some (typed_list parts)
all_arguments [] = refl
all_arguments (a ∷ parts) = ap (linked typed_data with_argument (Some a)) (all_arguments parts)

pub arguments_end : (parts : Option (List TypedExpr)) → so_far typed_data with_argument parts no_rest ≡ option_map typed_list parts
arguments_end None = refl
arguments_end (Some parts) = all_arguments parts

-- all arguments
pub all_typed : (all : Option (Vec TypedExpr Global)) (parts : Option (List TypedExpr)) (whole : Option TypedList)
    → option_map (λ v. v.items) all ≡ parts → so_far typed_data with_argument parts no_rest ≡ whole
    → option_map (λ v. typed_list v.items) all ≡ whole
all_typed None parts whole is so = ap (option_map typed_list) is ∙ sym (arguments_end parts) ∙ so
all_typed (Some v) parts whole is so = ap (option_map typed_list) is ∙ sym (arguments_end parts) ∙ so

module _ (t : TableData) (class : ℕ) (scope : Scope) where
  abbrev types_from : List Expr → Option TypedList
  types_from es = elaborated_each t class scope (exprs_from (map expr_tree es))

  pub argument_step : (args : List Expr) (i : ℕ) (arg : Expr) (parts next : Option (List TypedExpr)) (part : Option TypedExpr) (whole : Option TypedList)
      → i < length args → arg ≡ get_or args i arg
      → so_far typed_data with_argument parts (elaborated_each t class scope (exprs_from (map expr_tree (drop i args)))) ≡ whole
      → option_map typed_data part ≡ elaborated t class scope (expr_tree arg) → next ≡ one_more parts part
      → so_far typed_data with_argument next (elaborated_each t class scope (exprs_from (map expr_tree (drop (i + 1) args)))) ≡ whole
  argument_step args i arg parts next part whole within at so is one =
      let e = next_drop args i arg within at in
      let rest = types_from (drop (i + 1) args) in
      ap (λ n. so_far typed_data with_argument n rest) one
      ∙ so_far_more typed_data with_argument parts part rest
      ∙ ap (λ p. so_far typed_data with_argument parts (option_map with_argument (both p rest))) is
      ∙ ap (λ z. so_far typed_data with_argument parts (types_from z)) (sym e)
      ∙ so

  pub argument_fault : (args : List Expr) (i : ℕ) (arg : Expr) (first next whole : Option TypeFault)
      → i < length args → arg ≡ get_or args i arg
      → type_noted first (each_faults t class scope (exprs_from (map expr_tree (drop i args)))) ≡ whole
      → next ≡ type_noted first (expr_faults t class scope (expr_tree arg))
      → type_noted next (each_faults t class scope (exprs_from (map expr_tree (drop (i + 1) args)))) ≡ whole
  argument_fault args i arg first next whole within at so is =
      let e = next_drop args i arg within at in
      ap (λ n. type_noted n (each_faults t class scope (exprs_from (map expr_tree (drop (i + 1) args))))) is
      ∙ sym (noted_append first (expr_faults t class scope (expr_tree arg)) (each_faults t class scope (exprs_from (map expr_tree (drop (i + 1) args)))))
      ∙ ap (λ z. type_noted first (each_faults t class scope (exprs_from (map expr_tree z)))) (sym e)
      ∙ so

  pub call_typed : (tree e : ExprTree) (n : Name) (es : ExprTrees) (r : Option TypedData) (a : Option TypedList)
      → tree ≡ CallE e n es → r ≡ elaborated t class scope e → a ≡ elaborated_each t class scope es
      → ruled (call_rule t n) (both r a) ≡ elaborated t class scope tree
  call_typed tree e n es r a is receiver args =
      ap (λ z. ruled (call_rule t n) (both z a)) receiver
      ∙ ap (λ z. ruled (call_rule t n) (both (elaborated t class scope e) z)) args
      ∙ ap (elaborated t class scope) (sym is)

  pub call_noted : (tree e : ExprTree) (n : Name) (es : ExprTrees) (r : Option TypedData) (a : Option TypedList) (first second third : Option TypeFault)
      → tree ≡ CallE e n es → r ≡ elaborated t class scope e → a ≡ elaborated_each t class scope es
      → second ≡ type_noted first (expr_faults t class scope e) → third ≡ type_noted second (each_faults t class scope es)
      → type_noted third (call_fault t n r a) ≡ type_noted first (expr_faults t class scope tree)
  call_noted tree e n es r a first second third is receiver args one two =
      let last = call_fault t n (elaborated t class scope e) (elaborated_each t class scope es) in
      ap (λ z. type_noted third (call_fault t n z a)) receiver
      ∙ ap (λ z. type_noted third (call_fault t n (elaborated t class scope e) z)) args
      ∙ ap (λ z. type_noted z last) two
      ∙ ap (λ z. type_noted (type_noted z (each_faults t class scope es)) last) one
      ∙ sym (noted_append (type_noted first (expr_faults t class scope e)) (each_faults t class scope es) last)
      ∙ sym (noted_append first (expr_faults t class scope e) (each_faults t class scope es ++ last))
      ∙ ap (λ z. type_noted first (expr_faults t class scope z)) (sym is)

  pub new_typed : (tree : ExprTree) (n : Name) (es : ExprTrees) (at : ℕ) (a : Option TypedList)
      → tree ≡ NewE n es at → a ≡ elaborated_each t class scope es
      → ruled (new_rule t n) a ≡ elaborated t class scope tree
  new_typed tree n es at a is args = ap (ruled (new_rule t n)) args ∙ ap (elaborated t class scope) (sym is)

  pub new_noted : (tree : ExprTree) (n : Name) (es : ExprTrees) (at : ℕ) (a : Option TypedList) (first second : Option TypeFault)
      → tree ≡ NewE n es at → a ≡ elaborated_each t class scope es → second ≡ type_noted first (each_faults t class scope es)
      → type_noted second (new_fault t n a) ≡ type_noted first (expr_faults t class scope tree)
  new_noted tree n es at a first second is args one =
      ap (λ z. type_noted second (new_fault t n z)) args
      ∙ ap (λ z. type_noted z (new_fault t n (elaborated_each t class scope es))) one
      ∙ sym (noted_append first (each_faults t class scope es) (new_fault t n (elaborated_each t class scope es)))
      ∙ ap (λ z. type_noted first (expr_faults t class scope z)) (sym is)
