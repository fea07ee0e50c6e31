-- What it is to a search that a goal of one of its frames goes out.
use Rattle.std.proofs.Common.{◌≡◌, ℕ, suc, ◌-◌, ◌<◌, ◌≤◌, true, List, [], ◌∷◌, ◌++◌, Some, slice_get, refl, ap, sym, ◌∙◌, subst, arith}
use Rattle.std.proofs.lemmas.Bool.{true≢false}
use Rattle.std.proofs.lemmas.List.{map-append}
use Rattle.std.specs.List.{AllByRecursion}
use Rattle.ap_term.specs.Tree.{Tree, Trees}
use Rattle.ap_term.specs.UpToNames.{SameUpToNames}
use Rattle.ap_term.proofs.Zips.{AllByRecursion-append}
use Rattle.ap_laws.specs.Graft.{arguments}
use Rattle.ap_cells.specs.Trees.{tree_at, trees}
use Rattle.ap_frames.specs.declared.slots.Stand.TheVariants.{Running}
use Rattle.ap_frames.specs.declared.slots.Run.TheVariants.{First}
use Rattle.ap_frames.specs.Slots.{is_startable, is_running}
use Rattle.ap_group.specs.Groups.{Pushed}
use Rattle.ap_instr.specs.Code.{Compiled}
use Rattle.ap_steps.specs.Standing.{tuple_under}
use Rattle.ap_tie.specs.Sections as seen
use Rattle.ap_tie.specs.Sections.{section, bottom, parcall, nothing}
use Rattle.ap_tied.specs.SlotCalls.{stood}
use Rattle.ap_open.specs.Away.{Key, Away, Level, Carries}
use Rattle.ap_open.specs.Away as away
use Rattle.ap_open.specs.Opened.{rest_in}
use Rattle.ap_open.specs.Calling.{MayBegin, IsGoalIn}
use Rattle.ap_open.specs.Sharing.{IsKeyOf, SharingLaw}
use Rattle.ap_section.specs.Views as views
use Rattle.ap_section.specs.Views.{view_of}
use Rattle.ap_section.specs.Ready.{IsReady}
use Rattle.ap_section.specs.Slots.{IsAtFrame, IsPlaceIn, IsReadyAt, IsGoalOf, IsParcelOf, told_of}
use Rattle.ap_section.proofs.Stood.{told-row, ready-apart, place-stood, told-else}
use Rattle.ap_post.specs.declared.post.Post.{Post}
use Rattle.ap_post.specs.Posted.{Posted}
use Rattle.ap_post.specs.Posts.{posted_in, OthersPosted, SameJobs, IsMore}
use Rattle.ap_stack.specs.declared.stack.Open.{Open}
use Rattle.ap_stack.specs.declared.stack.Stack.{Stack}
use Rattle.ap_stack.specs.Levels.{aways_of, aways_in, level_of, levels_of, AreNotAt, AreOut, IsOpen, Rise}
use Rattle.ap_stack.specs.Stacks.{code_in, levels_in, section_in, away_in, IsGood, Pays, Goes}
use Rattle.ap_stack.proofs.Counts.{rest-stood, no-more-stood, stays-pays, outer-stays}
use Rattle.ap_stack.proofs.Outs.{all-split, outs-started, aways-append}
use Rattle.ap_stack.proofs.Elsewhere.{rise-at-most, SameIn, rise-same, opens-same, levels-same}

-- ---- the goal of a slot, and its key

pub may-begin : (i : ℕ) (s : seen.Section) → IsAtFrame s → IsReadyAt i s → MayBegin i s
may-begin i (section m c b bottom) at ready = absurd at
may-begin i (section m c b (parcall f q rd w qs st)) at ready =
    let r = told-row is_startable i (section m c b (parcall f q rd w qs st)) ready.1 in
    (at.0, ready.2, ready.0.0, r.0, r.1, r.2)

key-goal : (code : Compiled) (i number rest : ℕ) (ts : Trees) (s : seen.Section) → IsGoalOf i s number → IsParcelOf i s ts → (g : Tree) (n : ℕ) → IsGoalIn code i s g n
    → away.IsGoalOf code (record { predicate = number; tuple = ts; rest = rest }) g n
key-goal code i number rest ts (section m c b bottom) goal parcel g n is = absurd is
key-goal code i number rest ts (section m c b (parcall f q rd w qs st)) goal parcel g n is =
    let same : goal.0 ≡ is.goal = let e : Some goal.0 ≡ Some is.goal = sym goal.1 ∙ is.place in cc in
    let same' : parcel.0 ≡ is.goal = let e : Some parcel.0 ≡ Some is.goal = sym parcel.1 ∙ is.place in cc in
    let number-is : is.goal.predicate ≡ number = sym (ap (λ (z : Pushed). z.predicate) same) ∙ goal.2 in
    record {
      predicate = is.predicate;
      known = subst (λ k. slice_get code.predicates k ≡ Some is.predicate) number-is is.known;
      named = is.named;
      same = parcel.2 ∙ subst (λ (z : Pushed). SameUpToNames (tuple_under (tree_at (trees f.cells)) z.arguments) (arguments g)) (sym same') is.same;
      below = is.below;
    }

rest-is : (s : seen.Section) → views.budget_in s - views.spent_in s ≡ rest_in s
rest-is (section m c b st) = refl

pub is-key : (code : Compiled) (i number rest : ℕ) (ts : Trees) (s : seen.Section) → IsGoalOf i s number → IsParcelOf i s ts → rest ≡ views.budget_in s - views.spent_in s
    → IsKeyOf code i s (record { predicate = number; tuple = ts; rest = rest })
is-key code i number rest ts s goal parcel left = record { goal = key-goal code i number rest ts s goal parcel; rest = left ∙ rest-is s }

-- ---- another newest section

-- all that facts speak of but the newest section is as it was, and that tends its frame
pub record SameButNewest (s t : Stack) : Type 0 where
  pub sound : code_in t ≡ code_in s
  pub outer : t.outer.items ≡ s.outer.items
  pub frame : t.frame ≡ s.frame
  pub first : t.first ≡ s.first
  pub tends : t.tends ≡ true

not-below : (g f : ℕ) → g < f → g ≡ f → ⊥
not-below g f h e = omega arith

below-first : (g lo f : ℕ) → g < lo → lo ≤ f → g ≡ f → ⊥
below-first g lo f h k e = omega arith

pub newest-goes : (p : Post) (s : Stack) (q : Post) (t : Stack) → IsGood p s → SameButNewest s t → SameJobs p q → q.next ≡ p.next → OthersPosted s.frame p q
    → IsReady (code_in s) t.newest → IsAtFrame (section_in t) → AreOut (code_in s) (section_in t) (posted_in q s.frame)
    → Carries (code_in s) (levels_in p s) (section_in s) (away_in p s) (levels_in p s) (section_in t) (aways_in q s.frame) → Pays p s t → Goes p s q t
newest-goes p s q t good same jobs next others ready at out carries pays =
    let code = code_in s in
    let unmoved : SameIn p q s.outer.items = rise-same p q s.outer.items s.first s.frame (λ g l u. others g (not-below g s.frame u)) good.rise in
    let opened : AllByRecursion (IsOpen code q) t.outer.items = subst (AllByRecursion (IsOpen code q)) (sym same.outer) (opens-same code p q s.outer.items unmoved good.outer) in
    let out' : AreOut code (section_in t) (posted_in q t.frame) = subst (λ f. AreOut code (section_in t) (posted_in q f)) (sym same.frame) out in
    let rise' : Rise t.first s.outer.items s.frame = subst (λ n. Rise n s.outer.items s.frame) (sym same.first) good.rise in
    let rise'' : Rise t.first t.outer.items s.frame = subst (λ es. Rise t.first es s.frame) (sym same.outer) rise' in
    let levels-are : levels_in q t ≡ levels_in p s = ap (levels_of q) same.outer ∙ levels-same p q s.outer.items unmoved in
    let c1 = subst (λ ls. Carries code (levels_in p s) (section_in s) (away_in p s) ls (section_in t) (aways_in q s.frame)) (sym levels-are) carries in
    let least : s.first ≤ s.frame = rise-at-most s.outer.items s.first s.frame good.rise in
    let old : s.frame < p.next = good.below in
    record {
      good = record {
        ready = subst (λ c. IsReady c t.newest) (sym same.sound) ready;
        outer = subst (λ c. AllByRecursion (IsOpen c q) t.outer.items) (sym same.sound) opened;
        at_frame = λ _. at;
        none_out = λ e. absurd (true≢false (sym same.tends ∙ e));
        out = subst (λ c. AreOut c (section_in t) (posted_in q t.frame)) (sym same.sound) out';
        rise = subst (Rise t.first t.outer.items) (sym same.frame) rise'';
        below = let now : t.frame ≡ s.frame = same.frame in omega arith;
      };
      sound = same.sound;
      first = same.first;
      carries = subst (λ f. Carries code (levels_in p s) (section_in s) (away_in p s) (levels_in q t) (section_in t) (aways_in q f)) (sym same.frame) c1;
      pays = pays;
      below = λ g l. others g (below-first g s.first s.frame l least);
      jobs = jobs;
      next = omega arith;
    }

-- ---- a goal of the newest frame goes out

pub offered-goes : SharingLaw → (p : Post) (s : Stack) (q : Post) (t : Stack) (i : ℕ) (a : Posted) → IsGood p s → s.tends ≡ true → SameButNewest s t → SameJobs p q → q.next ≡ p.next
    → IsMore s.frame a p q → a.code ≡ code_in s → a.away.place ≡ i → IsKeyOf (code_in s) i (section_in s) a.away.key → IsReadyAt i (section_in s)
    → section_in t ≡ stood i (Running First) nothing (section_in s) → IsAtFrame (section_in t) → IsReady (code_in s) t.newest → t.share ≡ s.share → Goes p s q t
offered-goes law p s q t i a good tends same jobs next more coded placed is-key-of ready stands at ready' share =
    let code = code_in s in
    let j = a.away.place in
    let ps = posted_in p s.frame in
    let ready-j : IsReadyAt j (section_in s) = subst (λ k. IsReadyAt k (section_in s)) (sym placed) ready in
    let key-j : IsKeyOf code j (section_in s) a.away.key = subst (λ k. IsKeyOf code k (section_in s) a.away.key) (sym placed) is-key-of in
    let stands-j : section_in t ≡ stood j (Running First) nothing (section_in s) = stands ∙ ap (λ k. stood k (Running First) nothing (section_in s)) (sym placed) in
    let outs = outs-started code (section_in s) ps a good.out coded ready-j.0 ready-j.1 key-j.rest in
    let outs' = subst (λ v. AreOut code v (ps ++ a ∷ [])) (sym stands-j) outs in
    let left = law.leaves code (levels_in p s) (section_in s) (away_in p s) j a.away.key (may-begin j (section_in s) (good.at_frame tends) ready-j) key-j in
    let c1 = subst (λ v. Carries code (levels_in p s) (section_in s) (away_in p s) (levels_in p s) v (away_in p s ++ a.away ∷ [])) (sym stands-j) left in
    let c2 = subst (Carries code (levels_in p s) (section_in s) (away_in p s) (levels_in p s) (section_in t)) (sym (ap aways_of more.now ∙ aways-append ps (a ∷ []))) c1 in
    newest-goes p s q t good same jobs next more.others ready' at (subst (AreOut code (section_in t)) (sym more.now) outs') c2
    (stays-pays p s t same.outer share (no-more-stood i (Running First) nothing (section_in s) (section_in t) refl stands))

-- ---- a goal of a frame further out goes out

rise-front : (lo hi : ℕ) (before : List Open) (e : Open) (after : List Open) → Rise lo (before ++ e ∷ after) hi → Rise lo before e.frame × Rise (suc e.frame) after hi
rise-front lo hi [] e after h = h
rise-front lo hi (b ∷ before) e after h = let r = rise-front (suc b.frame) hi before e after h.1 in ((h.0, r.0), r.1)

rise-with : (lo hi : ℕ) (before : List Open) (e d : Open) (after : List Open) → d.frame ≡ e.frame → Rise lo (before ++ e ∷ after) hi → Rise lo (before ++ d ∷ after) hi
rise-with lo hi [] e d after same h = (subst (λ f. lo ≤ f) (sym same) h.0, subst (λ f. Rise (suc f) after hi) (sym same) h.1)
rise-with lo hi (b ∷ before) e d after same h = (h.0, rise-with (suc b.frame) hi before e d after same h.1)

not-above : (g f : ℕ) → suc f ≤ g → g ≡ f → ⊥
not-above g f h e = omega arith

levels-split : (p : Post) (before : List Open) (e : Open) (after : List Open) → levels_of p (before ++ e ∷ after) ≡ levels_of p before ++ level_of p e ∷ levels_of p after
levels-split p before e after = map-append (level_of p) before (e ∷ after)

-- the section that waits, once slot i of it was begun elsewhere
begun-open : (code : Compiled) (p q : Post) (e d : Open) (a : Posted) → IsOpen code p e → d.place ≡ e.place → d.frame ≡ e.frame → posted_in q e.frame ≡ posted_in p e.frame ++ a ∷ [] → a.code ≡ code
    → IsReadyAt a.away.place (view_of e.section) → view_of d.section ≡ stood a.away.place (Running First) nothing (view_of e.section) → IsAtFrame (view_of d.section) → IsReady code d.section → a.away.key.rest ≡ rest_in (view_of e.section) → IsOpen code q d
begun-open code p q e d a waits place frame now coded ready stands at ready' rest =
    let j = a.away.place in
    let ps = posted_in p e.frame in
    let v = view_of e.section in
    let t = stood j (Running First) nothing v in
    let now-d : posted_in q d.frame ≡ ps ++ a ∷ [] = ap (posted_in q) frame ∙ now in
    let apart : e.place ≡ j → ⊥ = λ e'. ready-apart j e.place v ready.1 waits.runs (sym e') in
    let outs = subst (λ x. AreOut code x (ps ++ a ∷ [])) (sym stands) (outs-started code v ps a waits.out coded ready.0 ready.1 rest) in
    let place-e : IsPlaceIn e.place (view_of d.section) = subst (IsPlaceIn e.place) (sym stands) (place-stood e.place j (Running First) nothing v waits.place) in
    let runs-e : told_of is_running e.place (view_of d.section) ≡ true = ap (told_of is_running e.place) stands ∙ told-else is_running e.place j (Running First) nothing v waits.place.0 apart ∙ waits.runs in
    let not-e : AreNotAt e.place (ps ++ a ∷ []) = AllByRecursion-append (λ x. x.away.place ≡ e.place → ⊥) ps (a ∷ []) waits.elsewhere ((λ e'. apart (sym e')), tt) in
    record {
      ready = ready';
      at_frame = at;
      place = subst (λ k. IsPlaceIn k (view_of d.section)) (sym place) place-e;
      runs = subst (λ k. told_of is_running k (view_of d.section) ≡ true) (sym place) runs-e;
      out = subst (AreOut code (view_of d.section)) (sym now-d) outs;
      elsewhere = subst (λ ps'. AreNotAt d.place ps') (sym now-d) (subst (λ k. AreNotAt k (ps ++ a ∷ [])) (sym place) not-e);
    }

-- all that facts speak of is as it was, but that section
pub record SameBut (s t : Stack) (before : List Open) (e d : Open) (after : List Open) : Type 0 where
  pub sound : code_in t ≡ code_in s
  pub was : s.outer.items ≡ before ++ e ∷ after
  pub is : t.outer.items ≡ before ++ d ∷ after
  pub newest : t.newest ≡ s.newest
  pub frame : t.frame ≡ s.frame
  pub first : t.first ≡ s.first
  pub tends : t.tends ≡ s.tends
  pub place : d.place ≡ e.place
  pub since : d.since ≡ e.since
  pub number : d.frame ≡ e.frame

abbrev pub level_by : seen.Section → ℕ → ℕ → List Away → Level
level_by v i n ps = record { section = v; place = i; since = n; aways = ps }

-- the levels without that section's
abbrev pub with_level : Post → List Open → Level → List Open → List Level
with_level p before a after = levels_of p before ++ a ∷ levels_of p after

pub levels-with : (p : Post) (s : Stack) (before : List Open) (e : Open) (after : List Open) → s.outer.items ≡ before ++ e ∷ after → levels_in p s ≡ with_level p before (level_of p e) after
levels-with p s before e after was = ap (levels_of p) was ∙ levels-split p before e after

-- a section further out stands otherwise, and other goals of its frame are out
pub changed-below : (p : Post) (s : Stack) (q : Post) (t : Stack) (before : List Open) (e d : Open) (after : List Open) → IsGood p s → SameBut s t before e d after → SameJobs p q → q.next ≡ p.next → OthersPosted e.frame p q
    → IsOpen (code_in s) q d → Carries (code_in s) (with_level p before (level_of p e) after) (section_in s) (away_in p s) (with_level p before (level_of q d) after) (section_in s) (away_in p s) → Pays p s t → Goes p s q t
changed-below p s q t before e d after good same jobs next others open-d carries pays =
    let code = code_in s in
    let rise : Rise s.first (before ++ e ∷ after) s.frame = subst (λ es. Rise s.first es s.frame) same.was good.rise in
    let parts = rise-front s.first s.frame before e after rise in
    let first-e : s.first ≤ e.frame = rise-at-most before s.first e.frame parts.0 in
    let last-e : suc e.frame ≤ s.frame = rise-at-most after (suc e.frame) s.frame parts.1 in
    let same-before : SameIn p q before = rise-same p q before s.first e.frame (λ g l u. others g (not-below g e.frame u)) parts.0 in
    let same-after : SameIn p q after = rise-same p q after (suc e.frame) s.frame (λ g l u. others g (not-above g e.frame l)) parts.1 in
    let same-own : posted_in q s.frame ≡ posted_in p s.frame = others s.frame (not-above s.frame e.frame last-e) in
    let opens = subst (AllByRecursion (IsOpen code p)) same.was good.outer in
    let open-parts = all-split (IsOpen code p) before (e ∷ after) opens in
    let opens' : AllByRecursion (IsOpen code q) (before ++ d ∷ after) =
    AllByRecursion-append (IsOpen code q) before (d ∷ after) (opens-same code p q before same-before open-parts.0) (open-d, opens-same code p q after same-after open-parts.1.1) in
    let opens'' : AllByRecursion (IsOpen code q) t.outer.items = subst (AllByRecursion (IsOpen code q)) (sym same.is) opens' in
    let levels-q : levels_in q t ≡ with_level p before (level_of q d) after =
    levels-with q t before d after same.is ∙ ap (λ ls. ls ++ level_of q d ∷ levels_of q after) (levels-same p q before same-before) ∙ ap (λ ls. levels_of p before ++ level_of q d ∷ ls) (levels-same p q after same-after) in
    let c1 = subst (λ ls. Carries code ls (section_in s) (away_in p s) (with_level p before (level_of q d) after) (section_in s) (away_in p s)) (sym (levels-with p s before e after same.was)) carries in
    let c2 = subst (λ ls. Carries code (levels_in p s) (section_in s) (away_in p s) ls (section_in s) (away_in p s)) (sym levels-q) c1 in
    let c3 = subst (λ x. Carries code (levels_in p s) (section_in s) (away_in p s) (levels_in q t) (view_of x) (away_in p s)) (sym same.newest) c2 in
    let away-is : away_in q t ≡ away_in p s = ap (aways_in q) same.frame ∙ ap aways_of same-own in
    let old : s.frame < p.next = good.below in
    let now : t.frame ≡ s.frame = same.frame in
    let own : posted_in q t.frame ≡ posted_in p s.frame = ap (posted_in q) same.frame ∙ same-own in
    let out' : AreOut code (section_in s) (posted_in q t.frame) = subst (AreOut code (section_in s)) (sym own) good.out in
    let rise' : Rise s.first (before ++ d ∷ after) s.frame = rise-with s.first s.frame before e d after same.number rise in
    let rise'' : Rise s.first t.outer.items s.frame = subst (λ es. Rise s.first es s.frame) (sym same.is) rise' in
    let rise3 : Rise t.first t.outer.items s.frame = subst (λ n. Rise n t.outer.items s.frame) (sym same.first) rise'' in
    record {
      good = record {
        ready = subst (λ c. IsReady c t.newest) (sym same.sound) (subst (IsReady code) (sym same.newest) good.ready);
        outer = subst (λ c. AllByRecursion (IsOpen c q) t.outer.items) (sym same.sound) opens'';
        at_frame = λ z. subst (λ x. IsAtFrame (view_of x)) (sym same.newest) (good.at_frame (sym same.tends ∙ z));
        none_out = λ z. own ∙ good.none_out (sym same.tends ∙ z);
        out = subst (λ c. AreOut c (section_in t) (posted_in q t.frame)) (sym same.sound) (subst (λ x. AreOut code (view_of x) (posted_in q t.frame)) (sym same.newest) out');
        rise = subst (Rise t.first t.outer.items) (sym same.frame) rise3;
        below = omega arith;
      };
      sound = same.sound;
      first = same.first;
      carries = subst (Carries code (levels_in p s) (section_in s) (away_in p s) (levels_in q t) (section_in t)) (sym away-is) c3;
      pays = pays;
      below = λ g l. others g (below-first g s.first e.frame l first-e);
      jobs = jobs;
      next = omega arith;
    }

-- a level by what it is of
pub level-is : (q : Post) (d : Open) (v : seen.Section) (i n f : ℕ) (ps : List Away) → view_of d.section ≡ v → d.place ≡ i → d.since ≡ n → d.frame ≡ f → aways_in q f ≡ ps → level_of q d ≡ level_by v i n ps
level-is q d v i n f ps view place since number out =
    ap (λ x. level_by x d.place d.since (aways_in q d.frame)) view ∙ ap (λ x. level_by v x d.since (aways_in q d.frame)) place ∙ ap (λ x. level_by v i x (aways_in q d.frame)) since
    ∙ ap (level_by v i n) (ap (aways_in q) number ∙ out)

-- the section that waits there
pub open-there : (p : Post) (s : Stack) (before : List Open) (e : Open) (after : List Open) → IsGood p s → s.outer.items ≡ before ++ e ∷ after → IsOpen (code_in s) p e
open-there p s before e after good was =
    (all-split (IsOpen (code_in s) p) before (e ∷ after) (subst (AllByRecursion (IsOpen (code_in s) p)) was good.outer)).1.0

pub offered-below : SharingLaw → (p : Post) (s : Stack) (q : Post) (t : Stack) (before : List Open) (e d : Open) (after : List Open) (i : ℕ) (a : Posted) → IsGood p s → SameBut s t before e d after → t.share ≡ s.share → SameJobs p q → q.next ≡ p.next
    → IsMore e.frame a p q → a.code ≡ code_in s → a.away.place ≡ i → IsKeyOf (code_in s) i (view_of e.section) a.away.key → IsReadyAt i (view_of e.section)
    → view_of d.section ≡ stood i (Running First) nothing (view_of e.section) → IsAtFrame (view_of d.section) → IsReady (code_in s) d.section → Goes p s q t
offered-below law p s q t before e d after i a good same share jobs next more coded placed is-key-of ready stands at ready' =
    let code = code_in s in
    let j = a.away.place in
    let ps = posted_in p e.frame in
    let v = view_of e.section in
    let ready-j : IsReadyAt j v = subst (λ k. IsReadyAt k v) (sym placed) ready in
    let key-j : IsKeyOf code j v a.away.key = subst (λ k. IsKeyOf code k v a.away.key) (sym placed) is-key-of in
    let stands-j : view_of d.section ≡ stood j (Running First) nothing v = stands ∙ ap (λ k. stood k (Running First) nothing v) (sym placed) in
    let begun : Level = level_by (stood j (Running First) nothing v) e.place e.since (aways_of ps ++ a.away ∷ []) in
    let open-e = open-there p s before e after good same.was in
    let open-d : IsOpen code q d = begun-open code p q e d a open-e same.place same.number more.now coded ready-j stands-j at ready' key-j.rest in
    let d-is : level_of q d ≡ begun =
    level-is q d (stood j (Running First) nothing v) e.place e.since e.frame (aways_of ps ++ a.away ∷ []) stands-j same.place same.since same.number (ap aways_of more.now ∙ aways-append ps (a ∷ [])) in
    let left = law.leaves_below code (levels_of p before) (levels_of p after) (level_of p e) (section_in s) (away_in p s) j a.away.key (may-begin j v open-e.at_frame ready-j) key-j in
    let c1 = subst (λ l. Carries code (with_level p before (level_of p e) after) (section_in s) (away_in p s) (with_level p before l after) (section_in s) (away_in p s)) (sym d-is) left in
    changed-below p s q t before e d after good same jobs next more.others open-d c1
    (λ b r o u tie h. outer-stays b s t before e d after same.was same.is same.newest share same.since (ap rest_in stands ∙ rest-stood i (Running First) nothing v) (no-more-stood i (Running First) nothing v (view_of d.section) refl stands) h)
