-- The rules of the family of near paths, as the bodies of a program have them: facts, and links from one method's paths to another's.
use Rattle.std.specs.Prelude.{◌≡◌, ℕ, ◌+◌, Bool, false, ◌&&◌, ◌==◌, List, [], ◌∷◌, ◌++◌, map, length, nat_le, Option, Some, None, Contains, slice_get, if◌then◌else◌}
use Rattle.paths.specs.Paths.{PathData, extended}
use Rattle.core_program.specs.Core.{Program, Method}
use Rattle.core_program.specs.Locks.{path_of}
use Rattle.rules.specs.Guards.{guard_of, guard_path}
use Rattle.rules.specs.Near.{begins_in}
use Rattle.rules.specs.Mentions.{Mention, Accesses, Calls, Locks, Names, mentions, paths_of}
use Rattle.rules.specs.declared.clauses.Way.{Way}
use Rattle.rules.specs.declared.clauses.Way.TheVariants as way
use Rattle.rules.specs.declared.clauses.Link.{Link}
use Rattle.rules.specs.declared.clauses.Clause.{Clause}
use Rattle.rules.specs.declared.clauses.Clause.TheVariants as clause

-- the path is near the method
abbrev pub fact : ℕ → PathData → Clause
fact m p = clause.Fact (record { method = m; path = p })

-- in the method `to` this path, where there is one, is what the slot of the method `from` stands for
abbrev pub link_clauses : (from root to : ℕ) → Option PathData → List Clause
link_clauses from root to None = []
link_clauses from root to (Some start) = clause.Leads (record { from = from; to = to; way = way.Passed root start }) ∷ []

-- the same of a slot that is `this` or a parameter of a method with so many parameters
abbrev pub passed_clauses : (params from root to : ℕ) → Option PathData → List Clause
passed_clauses params from root to start = if nat_le root params then link_clauses from root to start else []

-- what is passed for the slots from this one on
abbrev pub all_passed : (params from root to : ℕ) → List (Option PathData) → List Clause
all_passed params from root to [] = []
all_passed params from root to (start ∷ rest) = passed_clauses params from root to start ++ all_passed params from (root + 1) to rest

-- how many parameters a method has, where it is there
abbrev pub params_of : Option Method → Option ℕ
params_of None = None
params_of (Some m) = Some (length m.params)

-- a call of a method with so many parameters, where it is there
abbrev pub call_clauses : (from to : ℕ) → Option ℕ → Option PathData → List (Option PathData) → List Clause
call_clauses from to None receiver args = []
call_clauses from to (Some params) receiver args = passed_clauses params from 0 to receiver ++ all_passed params from 1 to args

-- a guard's path, where it has one, is near the method
abbrev pub guard_clauses : ℕ → Option PathData → List Clause
guard_clauses m None = []
guard_clauses m (Some p) = fact m p ∷ []

-- what one mention in the body of a method gives
abbrev pub clauses_at : Program → ℕ → Mention → List Clause
clauses_at P m (Accesses e f) = guard_clauses m (guard_path (guard_of P f (path_of P e)))
clauses_at P m (Calls e callee args) = call_clauses callee m (params_of (slice_get P.methods callee)) (path_of P e) (paths_of P args)
clauses_at P m (Locks p) = fact m p ∷ []
clauses_at P m (Names x e) = link_clauses m x m (path_of P e)

-- the clauses of all that the body of method m mentions
abbrev pub clauses_of : Program → ℕ → List Mention → List Clause
clauses_of P m [] = []
clauses_of P m (x ∷ xs) = clauses_at P m x ++ clauses_of P m xs

-- the clauses of a method: its required paths, and what its body mentions
abbrev pub method_clauses : Program → ℕ → Method → List Clause
method_clauses P m method = map (λ p. fact m p) method.requires_ ++ clauses_of P m (mentions method.body)

-- the clauses of methods that are numbered from here on
abbrev pub clauses_from : Program → ℕ → List Method → List Clause
clauses_from P m [] = []
clauses_from P m (method ∷ methods) = method_clauses P m method ++ clauses_from P (m + 1) methods

-- the class of a method, where it is there
abbrev pub method_class : Option Method → Option ℕ
method_class None = None
method_class (Some m) = Some m.class

-- a number is this one, where it is there
abbrev pub is_this_number : Option ℕ → ℕ → Bool
is_this_number None n = false
is_this_number (Some k) n = k == n

-- what an overriding method with so many parameters tells a method of a class, where both are there
abbrev pub kept_clauses : (over m : ℕ) → Option ℕ → Option ℕ → List Clause
kept_clauses over m None class = []
kept_clauses over m (Some params) None = []
kept_clauses over m (Some params) (Some class) = clause.Leads (record { from = over; to = m; way = way.Kept params class }) ∷ []

-- the path that one becomes on a way, where it becomes one
abbrev pub led_by : Program → Way → PathData → Option PathData
led_by P (way.Passed root start) p = if p.root == root then extended start p.fields else None
led_by P (way.Kept params class) p = if nat_le p.root params && begins_in P class p.root p.fields then Some p else None

-- the least family that meets these clauses
pub data ReachedPath (P : Program) (clauses : List Clause) : ℕ → PathData → Type 0 where
  given : {m : ℕ} {p : PathData} → Contains clauses (fact m p) → ReachedPath P clauses m p
  led : {p : PathData} (link : Link) (q : PathData) → ReachedPath P clauses link.from q → Contains clauses (clause.Leads link) → led_by P link.way q ≡ Some p → ReachedPath P clauses link.to p
