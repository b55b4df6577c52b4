-- Classes above each other, two of them on a circle.
--     class A { int a; void m() { } }
--     class B extends A implements Runnable { final int b; }
--     class C extends B { int a; int c; }
--     class D extends X { }
--     class E extends F { int e; }
--     class F extends E implements Runnable { }
--     class G extends F { int g; }
--     class A extends C { }
use Rattle.std.specs.Prelude.{true, false, [], ◌∷◌, codes}
use Rattle.syntax.specs.declared.tree.TypeName.TheVariants as Y
use Rattle.syntax.specs.Trees.{MemberTree, ProgramTree}
use Rattle.front_examples.specs.Written.{name, field, bare_method, class_tree, class_below}

-- `int a;` of the class A
abbrev pub a_field : MemberTree
a_field = field false Y.Int (name (codes "a") 2)

-- `void m() { }` of the class A
abbrev pub m_method : MemberTree
m_method = bare_method (name (codes "m") 4)

-- `final int b;` of the class B
abbrev pub b_field : MemberTree
b_field = field true Y.Int (name (codes "b") 13)

-- a field `a` of the class C, which has the name of one in A
abbrev pub other_a_field : MemberTree
other_a_field = field false Y.Boolean (name (codes "a") 22)

-- `int c;` of the class C
abbrev pub c_field : MemberTree
c_field = field false Y.Int (name (codes "c") 24)

-- `int g;` of the class G
abbrev pub g_field : MemberTree
g_field = field false Y.Int (name (codes "g") 62)

-- the program: E and F stand above each other, D extends a class that isn't there, and the last class has the name of the first
abbrev pub lined : ProgramTree
lined =
    class_tree (name (codes "A") 0) (a_field ∷ m_method ∷ [])
    ∷ record (class_below (name (codes "B") 10) (name (codes "A") 11) (b_field ∷ [])) { runnable = true }
    ∷ class_below (name (codes "C") 20) (name (codes "B") 21) (other_a_field ∷ c_field ∷ [])
    ∷ class_below (name (codes "D") 30) (name (codes "X") 31) []
    ∷ class_below (name (codes "E") 40) (name (codes "F") 41) (field false Y.Int (name (codes "e") 42) ∷ [])
    ∷ record (class_below (name (codes "F") 50) (name (codes "E") 51) []) { runnable = true }
    ∷ class_below (name (codes "G") 60) (name (codes "F") 61) (g_field ∷ [])
    ∷ class_below (name (codes "A") 70) (name (codes "C") 71) [] ∷ []
