-- Classes with locks, and what locks and methods mean in them.
--     class A { final L lock; L open; }
--     class B extends A { final L lock; final int num; }
--     class L { final L next; }
-- The second `lock` is a fault of the field's name, and yet a lock of B that goes through it has a meaning.
use Rattle.std.specs.Prelude.{ℕ, Bool, true, false, List, [], ◌∷◌, Some, None, codes}
use Rattle.syntax.specs.declared.tree.Param.{Param}
use Rattle.syntax.specs.declared.tree.TypeName.{TypeName}
use Rattle.syntax.specs.declared.tree.TypeName.TheVariants as Y
use Rattle.syntax.specs.Trees.{no_stmts, MethodTree, ProgramTree}
use Rattle.classes.specs.Overriding.{FieldPlace, FoundField, LockMeaning, Signature, Heading}
use Rattle.front_examples.specs.Written.{name, class_type_name, param, field, class_tree, class_below, method_tree, this_lock, lock_tree}
use Rattle.front_examples.specs.Shop.{n_param}

-- the program of these three classes
abbrev pub locked_program : ProgramTree
locked_program =
    class_tree (name (codes "A") 1) (field true (class_type_name (codes "L") 2) (name (codes "lock") 3) ∷ field false (class_type_name (codes "L") 4) (name (codes "open") 5) ∷ [])
    ∷ class_below (name (codes "B") 21) (name (codes "A") 22) (field true (class_type_name (codes "L") 24) (name (codes "lock") 25) ∷ field true Y.Int (name (codes "num") 26) ∷ [])
    ∷ class_tree (name (codes "L") 31) (field true (class_type_name (codes "L") 32) (name (codes "next") 33) ∷ []) ∷ []

-- where a field stands: the number of its class, and its place in it
abbrev pub field_place : ℕ → ℕ → FieldPlace
field_place class at = record { class = class; place = at }

-- a field as it was found, in a class or above it
abbrev pub found : (class at : ℕ) → Bool → TypeName → FoundField
found class at is_final ty = record { at = field_place class at; is_final = is_final; ty = ty }

-- what a lock means: the slot that it begins at, the places of its fields, and the class that it ends at
abbrev pub reach : ℕ → List FieldPlace → ℕ → LockMeaning
reach slot fields class = record { slot = slot; fields = fields; class = class }

-- `(final L p, final B q, L s)`
abbrev pub first_params : List Param
first_params = param true (class_type_name (codes "L") 0) (name (codes "p") 0) ∷ param true (class_type_name (codes "B") 0) (name (codes "q") 0) ∷ param false (class_type_name (codes "L") 0) (name (codes "s") 0) ∷ []

-- the signature of an `int` method of the class B with the parameter `final int n`, which requires `this`
abbrev pub signature : Signature
signature = record { atomic = false; returns = Some Y.Int; params = n_param ∷ []; locks = Some (reach 0 [] 1 ∷ []) }

-- the heading of a method with this name, which stands at 7, and this signature
abbrev pub method_heading : List ℕ → Signature → Heading
method_heading text its = record { name = name text 7; signature = its }

-- `void m(final int n) requires this { }`
abbrev pub requiring : MethodTree
requiring = record (method_tree (name (codes "m") 0) (n_param ∷ []) None no_stmts) { locks = this_lock ∷ [] }

-- `void pick(final L x) requires x { }`, where the parameter has a name of its own
abbrev pub pick : List ℕ → MethodTree
pick text = record (method_tree (name (codes "pick") 0) (param true (class_type_name (codes "L") 0) (name text 0) ∷ []) None no_stmts) { locks = lock_tree (Some (name text 0)) [] 0 ∷ [] }

-- `void on() requires this.lock { }`, where A and B have locks of their own
abbrev pub on_lock : MethodTree
on_lock = record (method_tree (name (codes "on") 0) [] None no_stmts) { locks = lock_tree None (name (codes "lock") 0 ∷ []) 0 ∷ [] }
