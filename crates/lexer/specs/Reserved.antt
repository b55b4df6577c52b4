-- The words that are no names.
use Rattle.std.specs.Prelude.{ℕ, Bool, List, [], ◌∷◌, codes, bytes_eq}
use Rattle.std.specs.List.{list_any}

-- the reserved words of Java 8, and those of this language
abbrev pub reserved : List (List ℕ)
reserved = codes "abstract" ∷ codes "assert" ∷ codes "boolean" ∷ codes "break" ∷ codes "byte" ∷ codes "case" ∷ codes "catch" ∷ codes "char"
    ∷ codes "class" ∷ codes "const" ∷ codes "continue" ∷ codes "default" ∷ codes "do" ∷ codes "double" ∷ codes "else" ∷ codes "enum"
    ∷ codes "extends" ∷ codes "final" ∷ codes "finally" ∷ codes "float" ∷ codes "for" ∷ codes "goto" ∷ codes "if" ∷ codes "implements"
    ∷ codes "import" ∷ codes "instanceof" ∷ codes "int" ∷ codes "interface" ∷ codes "long" ∷ codes "native" ∷ codes "new" ∷ codes "package"
    ∷ codes "private" ∷ codes "protected" ∷ codes "public" ∷ codes "return" ∷ codes "short" ∷ codes "static" ∷ codes "strictfp" ∷ codes "super"
    ∷ codes "switch" ∷ codes "synchronized" ∷ codes "this" ∷ codes "throw" ∷ codes "throws" ∷ codes "transient" ∷ codes "try" ∷ codes "void"
    ∷ codes "volatile" ∷ codes "while" ∷ codes "true" ∷ codes "false" ∷ codes "null" ∷ codes "atomic" ∷ codes "guarded_by" ∷ codes "requires"
    ∷ codes "write_guarded_by" ∷ codes "System" ∷ codes "Thread" ∷ codes "Runnable" ∷ []

-- whether a word is one of these
abbrev pub is_reserved : List ℕ → Bool
is_reserved word = list_any (λ other. bytes_eq other word) reserved
