-- Open sections beside the goals of their frames that are out.
use Rattle.std.specs.Prelude.{◌≡◌, ℕ, suc, ◌≤◌, true, List, [], ◌∷◌, map}
use Rattle.std.specs.List.{AllByRecursion}
use Rattle.ap_frames.specs.Slots.{is_running, may_be_given_back}
use Rattle.ap_instr.specs.Code.{Compiled}
use Rattle.ap_tie.specs.Sections as seen
use Rattle.ap_open.specs.Opened.{rest_in}
use Rattle.ap_open.specs.Away.{Away, Level}
use Rattle.ap_section.specs.Views.{view_of}
use Rattle.ap_section.specs.Ready.{IsReady}
use Rattle.ap_section.specs.Slots.{IsAtFrame, IsPlaceIn, told_of}
use Rattle.ap_post.specs.declared.post.Post.{Post}
use Rattle.ap_post.specs.Posted.{Posted}
use Rattle.ap_post.specs.Posts.{posted_in}
use Rattle.ap_stack.specs.declared.stack.Open.{Open}

-- ---- as the laws name them

abbrev pub aways_of : List Posted → List Away
aways_of out = map (λ a. a.away) out

abbrev pub aways_in : Post → ℕ → List Away
aways_in p f = aways_of (posted_in p f)

abbrev pub level_of : Post → Open → Level
level_of p e = record { section = view_of e.section; place = e.place; since = e.since; aways = aways_in p e.frame }

-- the outermost first
abbrev pub levels_of : Post → List Open → List Level
levels_of p es = map (level_of p) es

-- ---- goals of a section's newest frame that are out

-- its slot runs from its goal on, by that code, with all that is left
pub record IsOut (code : Compiled) (s : seen.Section) (a : Posted) : Type 0 where
  pub code_is : a.code ≡ code
  pub place : IsPlaceIn a.away.place s
  pub first : told_of may_be_given_back a.away.place s ≡ true
  pub rest : a.away.key.rest ≡ rest_in s

-- none of them is of slot i
abbrev pub AreNotAt : ℕ → List Posted → Type 0
AreNotAt i out = AllByRecursion (λ a. a.away.place ≡ i → ⊥) out

-- no two are of one slot
abbrev pub AreApart : List Posted → Type 0
AreApart [] = Unit {0}
AreApart (a ∷ out) = AreNotAt a.away.place out × AreApart out

pub record AreOut (code : Compiled) (s : seen.Section) (out : List Posted) : Type 0 where
  pub each : AllByRecursion (IsOut code s) out
  pub apart : AreApart out

-- ---- a section that waits

-- it is at its newest frame, a slot of which runs in the next section; others are out
pub record IsOpen (code : Compiled) (p : Post) (e : Open) : Type 0 where
  pub ready : IsReady code e.section
  pub at_frame : IsAtFrame (view_of e.section)
  pub place : IsPlaceIn e.place (view_of e.section)
  pub runs : told_of is_running e.place (view_of e.section) ≡ true
  pub out : AreOut code (view_of e.section) (posted_in p e.frame)
  pub elsewhere : AreNotAt e.place (posted_in p e.frame)

-- their frames' numbers rise, from lo on and below hi
abbrev pub Rise : ℕ → List Open → ℕ → Type 0
Rise lo [] hi = lo ≤ hi
Rise lo (e ∷ es) hi = (lo ≤ e.frame) × Rise (suc e.frame) es hi
