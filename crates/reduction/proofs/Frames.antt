-- Frames fit in smaller phases and grown memories, and what the innermost unfolds into fits.
use Rattle.std.proofs.Common.{◌≡◌, ◌⊎◌, ℕ, Bool, true, false, List, [], ◌∷◌, ◌++◌, refl}
use Rattle.std.specs.Prelude.{if◌then◌else◌}
use Rattle.paths.specs.Paths.{PathData}
use Rattle.core_program.specs.Core.{Program}
use Rattle.rules.specs.Effect.{Assignment}
use Rattle.state.specs.Work.{unfolded}
use Rattle.state.specs.States.{Frame}
use Rattle.reduction.specs.Phases.{Phase, Free, phase_le}
use Rattle.reduction.specs.Leads.{env_of, Memory, Grows, Paths}
use Rattle.reduction.specs.Fits.{awaited, Opens}
use Rattle.reduction.specs.Safe.{FramesFit, outer_phase, frames_inside, releases_in_work}
use Rattle.reduction.proofs.LeadLemmas.{grows_itself, each_grows}
use Rattle.reduction.proofs.FitLemmas.{fits_moves}
use Rattle.reduction.proofs.Unfolding.{fits_unfolds}

if_falls : (b : Bool) (p q : Phase) → phase_le p q ≡ true → phase_le (if b then p else Free) (if b then q else Free) ≡ true
if_falls true p q small = small
if_falls false p q small = refl

pub outer_falls : (P : Program) (fs : List Frame) (p q : Phase) → phase_le p q ≡ true → phase_le (outer_phase P fs p) (outer_phase P fs q) ≡ true
outer_falls P fs p q small = if_falls (frames_inside P fs) p q small

module _ (P : Program) (rel : ℕ → List PathData) (A : Assignment) (h k : Memory) (grows : Grows P h k) where
  pub frames_move : (fs : List Frame) (os : Paths) (p q : Phase) → phase_le p q ≡ true → FramesFit P rel A h fs os q → FramesFit P rel A k fs os p
  frames_move [] os p q small f = tt
  frames_move (g ∷ fs) os p q small f = record {
    paths = f.paths;
    lead = each_grows P h k grows (env_of g.slots) f.paths g.operands f.lead;
    fits = fits_moves P rel A h k grows (releases_in_work fs) (λ next. FramesFit P rel A h fs (awaited P g.method) (outer_phase P fs next)) (λ next. FramesFit P rel A k fs (awaited P g.method) (outer_phase P fs next))
        (λ x y le f. frames_move fs (awaited P g.method) (outer_phase P fs x) (outer_phase P fs y) (outer_falls P fs x y le) f) g.work (env_of g.slots) (os ++ f.paths) p q small f.fits;
  }

pub frames_unfold : (P : Program) (rel : ℕ → List PathData) (A : Assignment) (h : Memory) (f : Frame) (below : List Frame) (p : Phase) → (fits : FramesFit P rel A h (f ∷ below) [] p)
    → Opens P rel A h (releases_in_work below) (λ next. FramesFit P rel A h below (awaited P f.method) (outer_phase P below next)) (unfolded f.work) (env_of f.slots) p fits.paths
    ⊎ Opens P rel A h (releases_in_work below) (λ next. FramesFit P rel A h below (awaited P f.method) (outer_phase P below next)) (unfolded f.work) (env_of f.slots) p []
frames_unfold P rel A h f below p fits =
    fits_unfolds P rel A h (releases_in_work below) (λ next. FramesFit P rel A h below (awaited P f.method) (outer_phase P below next))
    (λ x y le k. frames_move P rel A h h (grows_itself P h) below (awaited P f.method) (outer_phase P below x) (outer_phase P below y) (outer_falls P below x y le) k)
    f.work (env_of f.slots) p fits.paths fits.fits
