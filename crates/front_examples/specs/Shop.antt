-- A constructor that is right, and a program with its class table.
use Rattle.std.specs.Prelude.{ℕ, ◌+◌, true, false, List, [], ◌∷◌, Some, codes}
use Rattle.syntax.specs.declared.tree.Name.{Name}
use Rattle.syntax.specs.declared.tree.Param.{Param}
use Rattle.syntax.specs.declared.tree.TypeName.{TypeName}
use Rattle.syntax.specs.declared.tree.TypeName.TheVariants as Y
use Rattle.syntax.specs.Trees.{ExprTree, ThisE, GetE, ReturnS, MemberTree, FieldM, CtorM, MethodM, ClassTree, ProgramTree}
use Rattle.core_program.specs.declared.types.CoreType.TheVariants as T
use Rattle.classes.specs.Table.{TableData, table_of}
use Rattle.typing.specs.Scopes.{Scope}
use Rattle.front_examples.specs.Written.{name, class_type_name, param, field_tree, field, method_tree, bare_method, class_tree, class_below, this_lock, one_stmt}

-- `final int low; final A up;`, and `Pair(int low, A up) { this.low = low; this.up = up; }`
abbrev pub two_finals : List (TypeName × Name)
two_finals = (Y.Int, name (codes "low") 3) ∷ (class_type_name (codes "A") 5, name (codes "up") 6) ∷ []

-- the parameters of that constructor
abbrev pub two_params : List Param
two_params = param false Y.Int (name (codes "low") 11) ∷ param false (class_type_name (codes "A") 12) (name (codes "up") 13) ∷ []

-- its two lines, each of which sets a field to the parameter of the same name
abbrev pub two_sets : List (Name × Name)
two_sets = (name (codes "low") 14, name (codes "low") 15) ∷ (name (codes "up") 16, name (codes "up") 17) ∷ []

-- the constructor `Pair`, which takes and sets each final field in order
abbrev pub right_constructor : MemberTree
right_constructor = CtorM (name (codes "Pair") 9) two_params two_sets

-- The program, with an offset for each name:
--     class Item {
--       final int price; Item(int price) { this.price = price; }
--       int left guarded_by this;
--       int take(final int n) requires this { return this.left; }
--       void log() { } }
--     class Rare extends Item {
--       final Item twin; boolean sold; Rare(int price, Item twin) { this.price = price; this.twin = twin; }
--       int take(final int n) requires this { return this.twin.left; } }
--     class Main { void main() { } }
--     class Job implements Runnable { public void run() { } }
abbrev pub price : Name
price = name (codes "price") 2

-- `final int n`
abbrev pub n_param : Param
n_param = param true Y.Int (name (codes "n") 6)

-- `int take(final int n) requires this { return ..; }`, at an offset
abbrev pub take_at : ℕ → ExprTree → MemberTree
take_at at e = MethodM (record (method_tree (name (codes "take") at) (n_param ∷ []) (Some Y.Int) (one_stmt (ReturnS (Some e) (at + 3)))) { locks = this_lock ∷ []; end = at + 9 })

-- the class Item: a final field with its constructor, a guarded field, and the methods `take` and `log`
abbrev pub item : ClassTree
item = class_tree (name (codes "Item") 1)
    (field true Y.Int price
    ∷ CtorM (name (codes "Item") 3) (param false Y.Int (name (codes "price") 3) ∷ []) ((name (codes "price") 3, name (codes "price") 3) ∷ [])
    ∷ FieldM (record (field_tree false Y.Int (name (codes "left") 4)) { guard = Some this_lock })
    ∷ take_at 10 (GetE (ThisE 13) (name (codes "left") 14))
    ∷ bare_method (name (codes "log") 20) ∷ [])

-- the class Rare, which extends Item with two fields and overrides `take`
abbrev pub rare : ClassTree
rare = class_below (name (codes "Rare") 30) (name (codes "Item") 31)
    (field true (class_type_name (codes "Item") 32) (name (codes "twin") 33)
    ∷ field false Y.Boolean (name (codes "sold") 34)
    ∷ CtorM (name (codes "Rare") 35) (param false Y.Int (name (codes "price") 36) ∷ param false (class_type_name (codes "Item") 37) (name (codes "twin") 38) ∷ [])
    ((name (codes "price") 39, name (codes "price") 39) ∷ (name (codes "twin") 39, name (codes "twin") 39) ∷ [])
    ∷ take_at 40 (GetE (GetE (ThisE 43) (name (codes "twin") 44)) (name (codes "left") 45)) ∷ [])

-- the class Main with an empty `main`
abbrev pub main_class_tree : ClassTree
main_class_tree = class_tree (name (codes "Main") 60) (bare_method (name (codes "main") 61) ∷ [])

-- the class Job, which implements Runnable
abbrev pub job : ClassTree
job = record (class_tree (name (codes "Job") 70) (bare_method (name (codes "run") 71) ∷ [])) { runnable = true }

-- the whole program, in which Item is the class 0, Rare 1, Main 2 and Job 3
abbrev pub shop : ProgramTree
shop = item ∷ rare ∷ main_class_tree ∷ job ∷ []

-- its class table
abbrev pub shop_table : TableData
shop_table = table_of shop

-- in scope: a final int `n`, a boolean `b`, a final `r` of the class Rare, an `i` of the class Item and a `j` of the class Job
abbrev pub in_scope : Scope
in_scope =
    record { name = codes "n"; variable = record { slot = 1; is_final = true; ty = T.Int } }
    ∷ record { name = codes "b"; variable = record { slot = 2; is_final = false; ty = T.Boolean } }
    ∷ record { name = codes "r"; variable = record { slot = 3; is_final = true; ty = T.Class 1 } }
    ∷ record { name = codes "i"; variable = record { slot = 4; is_final = false; ty = T.Class 0 } }
    ∷ record { name = codes "j"; variable = record { slot = 5; is_final = false; ty = T.Class 3 } } ∷ []
