-- The same open sections, when goals of other searches come and go.
use Rattle.std.proofs.Common.{◌≡◌, ℕ, suc, ◌<◌, ◌≤◌, List, [], ◌∷◌, refl, ap, sym, ◌∙◌, subst, arith}
use Rattle.std.specs.List.{AllByRecursion}
use Rattle.ap_instr.specs.Code.{Compiled}
use Rattle.ap_open.specs.Away.{Away, Level}
use Rattle.ap_section.specs.Views.{view_of}
use Rattle.ap_post.specs.declared.post.Post.{Post}
use Rattle.ap_post.specs.Posts.{posted_in, SamePosted, SameBelow}
use Rattle.ap_stack.specs.declared.stack.Open.{Open}
use Rattle.ap_stack.specs.declared.stack.Stack.{Stack}
use Rattle.ap_stack.specs.Levels.{aways_of, level_of, levels_of, AreNotAt, AreOut, IsOpen, Rise}
use Rattle.ap_stack.specs.Stacks.{code_in, section_in, levels_in, away_in, IsGood}

-- ---- frames by their numbers

pub rise-at-most : (es : List Open) (lo hi : ℕ) → Rise lo es hi → lo ≤ hi
rise-at-most [] lo hi h = h
rise-at-most (e ∷ es) lo hi h =
    let first : lo ≤ e.frame = h.0 in
    let last : suc e.frame ≤ hi = rise-at-most es (suc e.frame) hi h.1 in
    omega arith

-- the goals of their frames are as they were
abbrev pub SameIn : Post → Post → List Open → Type 0
SameIn p q es = AllByRecursion (λ e. posted_in q e.frame ≡ posted_in p e.frame) es

pub rise-same : (p q : Post) (es : List Open) (lo hi : ℕ) → ((g : ℕ) → lo ≤ g → g < hi → posted_in q g ≡ posted_in p g) → Rise lo es hi → SameIn p q es
rise-same p q [] lo hi same h = tt
rise-same p q (e ∷ es) lo hi same h =
    let first : lo ≤ e.frame = h.0 in
    let last : suc e.frame ≤ hi = rise-at-most es (suc e.frame) hi h.1 in
    (same e.frame first (omega arith), rise-same p q es (suc e.frame) hi (λ g l u. same g (omega arith) u) h.1)

-- ---- sections that wait

open-same : (code : Compiled) (p q : Post) (e : Open) → posted_in q e.frame ≡ posted_in p e.frame → IsOpen code p e → IsOpen code q e
open-same code p q e same h = record {
  ready = h.ready;
  at_frame = h.at_frame;
  place = h.place;
  runs = h.runs;
  out = subst (AreOut code (view_of e.section)) (sym same) h.out;
  elsewhere = subst (AreNotAt e.place) (sym same) h.elsewhere;
}

pub opens-same : (code : Compiled) (p q : Post) (es : List Open) → SameIn p q es → AllByRecursion (IsOpen code p) es → AllByRecursion (IsOpen code q) es
opens-same code p q [] same h = tt
opens-same code p q (e ∷ es) same h = (open-same code p q e same.0 h.0, opens-same code p q es same.1 h.1)

abbrev level_with : Open → List Away → Level
level_with e ps = record { section = view_of e.section; place = e.place; since = e.since; aways = ps }

level-same : (p q : Post) (e : Open) → posted_in q e.frame ≡ posted_in p e.frame → level_of q e ≡ level_of p e
level-same p q e same = ap (λ ps. level_with e (aways_of ps)) same

pub levels-same : (p q : Post) (es : List Open) → SameIn p q es → levels_of q es ≡ levels_of p es
levels-same p q [] same = refl
levels-same p q (e ∷ es) same =
    ap (λ l. l ∷ levels_of q es) (level-same p q e same.0) ∙ ap (λ ls. level_of p e ∷ ls) (levels-same p q es same.1)

-- ---- all of a search

-- the goals of its frames, whose numbers are below that one, are as they were
module _ (p q : Post) (s : Stack) (n : ℕ) (good : IsGood p s) (within : s.frame < n) (same : SameBelow n p q) where
  same-in : SameIn p q s.outer.items
  same-in = rise-same p q s.outer.items s.first s.frame (λ g l u. same g (omega arith)) good.rise

  pub levels-elsewhere : levels_in q s ≡ levels_in p s
  levels-elsewhere = levels-same p q s.outer.items same-in

  pub away-elsewhere : away_in q s ≡ away_in p s
  away-elsewhere = ap aways_of (same s.frame within)

  pub good-elsewhere : p.next ≤ q.next → IsGood q s
  good-elsewhere more = record {
    ready = good.ready;
    outer = opens-same (code_in s) p q s.outer.items same-in good.outer;
    at_frame = good.at_frame;
    none_out = λ e. same s.frame within ∙ good.none_out e;
    out = subst (AreOut (code_in s) (section_in s)) (sym (same s.frame within)) good.out;
    rise = good.rise;
    below = let old : s.frame < p.next = good.below in omega arith;
  }

-- all goals are
module _ (p q : Post) (s : Stack) (good : IsGood p s) (same : SamePosted p q) where
  pub levels-posted : levels_in q s ≡ levels_in p s
  levels-posted = levels-elsewhere p q s (suc s.frame) good (omega arith) (λ g l. same g)

  pub away-posted : away_in q s ≡ away_in p s
  away-posted = ap aways_of (same s.frame)

  pub good-posted : p.next ≤ q.next → IsGood q s
  good-posted more = good-elsewhere p q s (suc s.frame) good (omega arith) (λ g l. same g) more
