-- Certificates of refusal: lines of which each follows from those before it, and of which the last is above its method's bound.
use Rattle.std.specs.Prelude.{◌≡◌, ℕ, ◌-◌, ◌&&◌, Bool, true, false, not, List, length, take, Option, Some, None, slice_get}
use Rattle.std.specs.List.{list_all}
use Rattle.paths.specs.Paths.{PathData}
use Rattle.algebra.specs.declared.basic.Basic.{Basic}
use Rattle.algebra.specs.declared.basic.Basic.TheVariants.{Error}
use Rattle.algebra.specs.Basics.{below_of}
use Rattle.algebra.specs.HeldPaths.{has_path}
use Rattle.core_program.specs.Core.{Program, Method}
use Rattle.rules.specs.Rules.{declared_bound}
use Rattle.refutation.specs.Lines.{LineData, certified_up}

-- the paths are relevant ones, and have the required ones of the method, which is there
abbrev pub are_placed : Option Method → (rel held : List PathData) → Bool
are_placed None rel held = false
are_placed (Some method) rel held = list_all (has_path rel) held && list_all (has_path held) method.requires_

-- the line has its place: a method of the program, at a part of its relevant paths that has its required ones
abbrev pub is_placed : Program → (rel : ℕ → List PathData) → LineData → Bool
is_placed P rel l = are_placed (slice_get P.methods l.method) (rel l.method) l.held

-- the line follows from these: a call of its method comes to at least its basic at its paths
abbrev pub is_justified : Program → (rel : ℕ → List PathData) → List LineData → LineData → Bool
is_justified P rel ls l = below_of l.found (certified_up P rel ls l.method (has_path l.held))

-- the greatest basic that a method may have at its required paths; any, where it isn't there
abbrev pub bound_of : Option Method → Basic
bound_of None = Error
bound_of (Some method) = declared_bound method.annotated

-- whether a basic is at most the bound of method m
abbrev pub keeps_bound : Program → ℕ → Basic → Bool
keeps_bound P m b = below_of b (bound_of (slice_get P.methods m))

-- there is a line, and its basic is above the bound of its method
abbrev pub breaks : Program → Option LineData → Bool
breaks P None = false
breaks P (Some l) = not (keeps_bound P l.method l.found)

-- each line has its place and follows from those before it
pub record AreCertificateLines (P : Program) (rel : ℕ → List PathData) (lines : List LineData) : Type 0 where
  pub placed : (k : ℕ) (l : LineData) → slice_get lines k ≡ Some l → is_placed P rel l ≡ true
  pub steps : (k : ℕ) (l : LineData) → slice_get lines k ≡ Some l → is_justified P rel (take k lines) l ≡ true

-- a certificate of refusal: such lines, the last of which is above the bound of its method
pub record IsCertificate (P : Program) (rel : ℕ → List PathData) (lines : List LineData) : Type 0 where
  pub each : AreCertificateLines P rel lines
  pub broken : breaks P (slice_get lines (length lines - 1)) ≡ true
