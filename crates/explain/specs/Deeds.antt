-- What a step does, and which lock would help it.
use Rattle.std.specs.Prelude.{ℕ, List, Option, Some, None}
use Rattle.paths.specs.Paths.{PathData}
use Rattle.algebra.specs.HeldPaths.{Held}
use Rattle.core_program.specs.Core.{Program, Expr, GetE, CallE, SetFieldS, SyncS, PrintS, StartS}
use Rattle.core_program.specs.Locks.{path_of}
use Rattle.effects.specs.Parts.{Part, ExprP, StmtP}
use Rattle.rules.specs.declared.guard.Guard.{Guard}
use Rattle.rules.specs.declared.guard.Guard.TheVariants as guard
use Rattle.rules.specs.Guards.{guard_of}
use Rattle.rules.specs.Effect.{Assignment, call_of}
use Rattle.rules.specs.Mentions.{paths_of}
use Rattle.explain.specs.Helping.{help}
use Rattle.explain.specs.declared.deeds.Deed.{Deed}
use Rattle.explain.specs.declared.deeds.Deed.TheVariants as deed
use Rattle.explain.specs.declared.deeds.Help.{Help}
use Rattle.explain.specs.declared.deeds.Help.TheVariants as helps
use Rattle.explain.specs.declared.names.Alias.{Alias}
use Rattle.explain.specs.Names.{lack_of, second_name}
use Rattle.explain.specs.Takings.{taken_lock}

-- why no lock helps an access, by how its field is guarded; where a lock helps, this isn't asked
abbrev pub no_access_help : Program → Expr → Guard → Help
no_access_help P e guard.Final = helps.Unguarded
no_access_help P e guard.Free = helps.Unguarded
no_access_help P e (guard.Named p) = helps.Unguarded
no_access_help P e guard.Unnamed = helps.Unnamed (lack_of P e)
no_access_help P e (guard.WriteNamed p) = helps.WritesOnly
no_access_help P e guard.WriteUnnamed = helps.Unnamed (lack_of P e)

-- why no lock helps a call on a receiver that has this path or none
abbrev pub no_call_help : Program → Expr → Option PathData → Help
no_call_help P e None = helps.ReceiverUnnamed (lack_of P e)
no_call_help P e (Some p) = helps.NoneNamed

-- why no lock helps a part
abbrev pub no_help : Program → Part → Help
no_help P (ExprP (GetE e f)) = no_access_help P e (guard_of P f (path_of P e))
no_help P (ExprP (CallE e m args)) = no_call_help P e (path_of P e)
no_help P (StmtP (SetFieldS e f g)) = no_access_help P e (guard_of P f (path_of P e))
no_help P part = helps.Seen

-- this lock, where there is one, with another name under which it is held, if there is such; else the reason
abbrev pub hold_or : List Alias → Held → Option PathData → Help → Help
hold_or aliases H None reason = reason
hold_or aliases H (Some p) reason = helps.Hold p (second_name aliases H p)

module _ (P : Program) (rel : ℕ → List PathData) (A : Assignment) where
  -- what a part does by itself, where these methods override each
  abbrev pub deed_of_part : (overs : ℕ → List ℕ) → Part → Held → Deed
  deed_of_part overs (ExprP (GetE e f)) H = deed.Reads (path_of P e) f (guard_of P f (path_of P e))
  deed_of_part overs (ExprP (CallE e m args)) H = deed.Calls m (call_of P rel A m (path_of P e) (paths_of P args) H) (taken_lock P rel A (overs m) m (path_of P e) (paths_of P args) H)
  deed_of_part overs (StmtP (SetFieldS e f g)) H = deed.Writes (path_of P e) f (guard_of P f (path_of P e))
  deed_of_part overs (StmtP (SyncS p s)) H = deed.Locks p
  deed_of_part overs (StmtP (PrintS e)) H = deed.Prints
  deed_of_part overs (StmtP (StartS e)) H = deed.Starts
  deed_of_part overs part H = deed.Other

  -- the lock that would help a part, else why there is none
  abbrev pub help_of : List Alias → Part → Held → Help
  help_of aliases part H = hold_or aliases H (help P rel A part H) (no_help P part)
