-- Places that a clause's paths come to, each with its shape, as the check remembers them.
use Rattle.std.specs.Prelude.{◌≡◌, ◌⊎◌, ℕ, ◌+◌, ◌<◌, ◌≤◌, Bool, true, false, List, slice_get, Option, Some, None}
use Rattle.ap_instr.specs.declared.instruction.Instr.{Instr}
use Rattle.ap_instr.specs.declared.compiled.Predicate.{Predicate}
use Rattle.ap_instr.specs.Code.{Compiled}
use Rattle.ap_codecheck.specs.declared.walk.Way.{Way}
use Rattle.ap_codecheck.specs.declared.shape.Shape.{Shape as Kept}
use Rattle.ap_codecheck.specs.Shape.{Shape, after}
use Rattle.ap_codecheck.specs.Paths.{Path}
use Rattle.ap_codecheck.specs.Held.{shape_of, AreAlike}
use Rattle.ap_codecheck.specs.Judged.{IsFineFrom, IsJudged}
use Rattle.ap_codecheck.specs.Walk.{is_inner, elsewhere}

-- what stands in a list stays at its place
abbrev pub Keeps : List Way → List Way → Type 0
Keeps old new = (k : ℕ) (w : Way) → slice_get old k ≡ Some w → slice_get new k ≡ Some w

-- the place is remembered with the shape
pub record IsKnown (ways : List Way) (at : ℕ) (s : Shape) : Type 0 where
  pub number : ℕ
  pub way : Way
  pub held : slice_get ways number ≡ Some way
  pub place : way.place ≡ at
  pub shape : shape_of way.shape ≡ s

-- the place isn't remembered with a shape that is kept like this one
abbrev pub IsUnknown : List Way → ℕ → Kept → Type 0
IsUnknown ways at s = (k : ℕ) (w : Way) → slice_get ways k ≡ Some w → w.place ≡ at → AreAlike w.shape s → ⊥

-- what one of the ways has that isn't one of others: this place and shape
abbrev pub IsNew : List Way → (ℕ → Type 0) → Shape → Way → Type 0
IsNew old P s w = ((k : ℕ) × (slice_get old k ≡ Some w)) ⊎ (P w.place × (shape_of w.shape ≡ s))

-- one place and shape at most is remembered newly
pub record Remembers (old new : List Way) (at : Option ℕ) (s : Shape) : Type 0 where
  pub keeps : Keeps old new
  pub known : (l : ℕ) → at ≡ Some l → IsKnown new l s
  pub only : (k : ℕ) (w : Way) → slice_get new k ≡ Some w → IsNew old (λ l. at ≡ Some l) s w

-- control comes from a place and shape to another one
abbrev pub Comes : Compiled → ℕ → Shape → ℕ → Shape → Type 0
Comes code a r b t = (n : ℕ) × Path code n a r b t

-- control comes to each way
abbrev pub AreReached : Compiled → Predicate → ℕ → Shape → List Way → Type 0
AreReached code p a r ways = (k : ℕ) (w : Way) → slice_get ways k ≡ Some w → (p.start ≤ w.place) × Comes code a r w.place (shape_of w.shape)

-- the ways that are further on than a place are fine
abbrev pub AreFineBehind : Compiled → Predicate → ℕ → List Way → Type 0
AreFineBehind code p at ways = (k : ℕ) (w : Way) → slice_get ways k ≡ Some w → at < w.place → IsFineFrom code p w.place (shape_of w.shape)

-- the place is fine with the shape where the ways further on are
pub record IsSettled (code : Compiled) (p : Predicate) (at : ℕ) (s : Shape) (ways : List Way) : Type 0 where
  pub within : at < p.end
  pub fine : AreFineBehind code p at ways → IsFineFrom code p at s

-- the instruction at a place was judged, and what it leads to elsewhere is remembered; whether control goes on behind it to
-- what wasn't remembered
pub record IsPassed (code : Compiled) (at : ℕ) (s t : Shape) (old new : List Way) (on : Bool) : Type 0 where
  pub instr : Instr
  pub held : slice_get code.instructions at ≡ Some instr
  pub judged : IsJudged code at s
  pub behind : t ≡ after instr s
  pub remembers : Remembers old new (elsewhere instr) t
  pub goes : on ≡ true → is_inner instr ≡ true
  pub stops : on ≡ false → is_inner instr ≡ true → IsKnown new (at + 1) t

-- the paths from a place on were followed to what is remembered
pub record IsFollowed (code : Compiled) (p : Predicate) (from : ℕ) (s : Shape) (old new : List Way) : Type 0 where
  pub keeps : Keeps old new
  pub reached : (a : ℕ) (r : Shape) → AreReached code p a r old → Comes code a r from s → AreReached code p a r new
  pub settled : IsSettled code p from s new

-- the remembered way of a number has this place and shape, or there is none
abbrev pub IsWay : List Way → ℕ → Shape → Option ℕ → Type 0
IsWay ways number s None = slice_get ways number ≡ None
IsWay ways number s (Some at) = (w : Way) × (slice_get ways number ≡ Some w) × (w.place ≡ at) × (shape_of w.shape ≡ s)
