-- What it is to a search that a goal of a frame further out comes back, and that sections within one are left.
use Rattle.std.proofs.Common.{◌≡◌, ℕ, ◌+◌, ◌-◌, ◌<◌, ◌≤◌, true, false, List, [], ◌∷◌, ◌++◌, refl, ap, sym, ◌∙◌, subst, arith, rules}
use Rattle.std.specs.List.{AllByRecursion}
use Rattle.ap_core.specs.Tasks.{Task}
use Rattle.ap_core.specs.Relation.{Rules}
use Rattle.ap_frames.specs.declared.slots.Stand.{Stand}
use Rattle.ap_frames.specs.declared.slots.Stand.TheVariants.{Ended}
use Rattle.ap_frames.specs.declared.slots.Ending.TheVariants as ending
use Rattle.ap_frames.specs.Rows.{stopped}
use Rattle.ap_frames.specs.Slots.{is_running}
use Rattle.ap_ledger.specs.Counts.{capped}
use Rattle.ap_tracked.specs.Tracked.{Tracked}
use Rattle.ap_instr.specs.Code.{Compiled}
use Rattle.ap_tie.specs.Sections as seen
use Rattle.ap_tie.specs.Sections.{section, Held, nothing, held}
use Rattle.ap_tied.specs.SlotCalls.{stood, answered}
use Rattle.ap_open.specs.Opened as opened
use Rattle.ap_open.specs.Opened.{rest_in}
use Rattle.ap_open.specs.Away.{RunsWhole, AreAway, Level, AreBeside, TiedBeside, Carries, without, Outcome, found, failed_at, spent_all, stopped_at, given_back, IsOutcomeOf, returned}
use Rattle.ap_open.specs.Sharing.{SharingLaw}
use Rattle.ap_section.specs.Views.{view_of, budget_in}
use Rattle.ap_section.specs.Ready.{IsReady}
use Rattle.ap_section.specs.Slots.{IsAtFrame, IsPlaceIn, told_of}
use Rattle.ap_section.specs.Owed.{owed}
use Rattle.ap_section.proofs.Stood.{place-stood, told-else}
use Rattle.ap_post.specs.declared.post.Post.{Post}
use Rattle.ap_post.specs.declared.outcome.Outcome.{Outcome as Came}
use Rattle.ap_post.specs.Posted.{Posted}
use Rattle.ap_post.specs.Posts.{posted_in, SameBelow, SameJobs, IsLess}
use Rattle.ap_post.specs.Jobs.{outcome_of, cost_by, IsPaid}
use Rattle.ap_stack.specs.declared.stack.Open.{Open}
use Rattle.ap_stack.specs.declared.stack.Stack.{Stack}
use Rattle.ap_stack.specs.Counts.{owed_by}
use Rattle.ap_stack.specs.Levels.{aways_of, aways_in, level_of, levels_of, IsOut, AreNotAt, AreOut, IsOpen}
use Rattle.ap_stack.specs.Stacks.{code_in, levels_in, section_in, away_in, IsGood, Pays, Goes}
use Rattle.ap_stack.proofs.Counts.{capped-both, rest-stood, budget-stood, owed-stood, owed-returned, budget-returned, outer-counts, popped-counts}
use Rattle.ap_stack.proofs.Moves.{stopped as left}
use Rattle.ap_stack.proofs.Offers.{SameBut, level_by, with_level, levels-with, changed-below, level-is, open-there}
use Rattle.ap_stack.proofs.Outs.{all-less, outs-less, aways-append, without-none}
use Rattle.ap_stack.proofs.Returns.{may-return, outs-returned}
use Rattle.ap_stack.proofs.Elsewhere.{rise-at-most, levels-elsewhere, away-elsewhere, good-elsewhere}

-- ---- a goal comes back

-- its slot stands otherwise
returned-stands : (i : ℕ) (o : Outcome) (s : seen.Section) → (y : Stand (Unit {0})) × (h : Held) × (returned i o s ≡ stood i y h s)
returned-stands i (found a cost more) s = (answered cost more, held a, refl)
returned-stands i (failed_at cost) s = (Ended ending.Failed cost, nothing, refl)
returned-stands i spent_all s = (Ended ending.Spent (rest_in s), nothing, refl)
returned-stands i (stopped_at cost) s = (stopped (Unit {0}) true cost, nothing, refl)
returned-stands i given_back s = (stopped (Unit {0}) false 0, nothing, refl)

rest-returned : (i : ℕ) (o : Outcome) (s : seen.Section) → rest_in (returned i o s) ≡ rest_in s
rest-returned i o s = let r = returned-stands i o s in ap rest_in r.2 ∙ rest-stood i r.0 r.1 s

-- what is known of it while it is out
pub out-there : (code : Compiled) (p : Post) (e : Open) (a : Posted) (q : Post) → IsOpen code p e → IsLess e.frame a p q → IsOut code (view_of e.section) a
out-there code p e a q waits less = (outs-less code (view_of e.section) less.before a less.behind (subst (AreOut code (view_of e.section)) less.was waits.out)).0

-- the section that waits, behind that
returned-open : (code : Compiled) (p q : Post) (e d : Open) (a : Posted) (o : Outcome) → IsOpen code p e → d.place ≡ e.place → d.frame ≡ e.frame → IsLess e.frame a p q
    → view_of d.section ≡ returned a.away.place o (view_of e.section) → IsAtFrame (view_of d.section) → IsReady code d.section → IsOpen code q d
returned-open code p q e d a o waits place frame less stands at ready =
    let i = a.away.place in
    let v = view_of e.section in
    let rest = less.before ++ less.behind in
    let outs = outs-less code v less.before a less.behind (subst (AreOut code v) less.was waits.out) in
    let apart = all-less (λ (x : Posted). x.away.place ≡ e.place → ⊥) less.before a less.behind (subst (AllByRecursion (λ (x : Posted). x.away.place ≡ e.place → ⊥)) less.was waits.elsewhere) in
    let stand = returned-stands i o v in
    let is : view_of d.section ≡ stood i stand.0 stand.1 v = stands ∙ stand.2 in
    let left-d : posted_in q d.frame ≡ rest = ap (posted_in q) frame ∙ less.left in
    let outs' : AreOut code (view_of d.section) rest = subst (λ x. AreOut code x rest) (sym stands) (outs-returned code v i o rest outs.2 outs.1) in
    let place-e : IsPlaceIn e.place (view_of d.section) = subst (IsPlaceIn e.place) (sym is) (place-stood e.place i stand.0 stand.1 v waits.place) in
    let runs-e : told_of is_running e.place (view_of d.section) ≡ true = ap (told_of is_running e.place) is ∙ told-else is_running e.place i stand.0 stand.1 v waits.place.0 (λ x. apart.0 (sym x)) ∙ waits.runs in
    record {
      ready = ready;
      at_frame = at;
      place = subst (λ k. IsPlaceIn k (view_of d.section)) (sym place) place-e;
      runs = subst (λ k. told_of is_running k (view_of d.section) ≡ true) (sym place) runs-e;
      out = subst (AreOut code (view_of d.section)) (sym left-d) outs';
      elsewhere = subst (λ ps. AreNotAt d.place ps) (sym left-d) (subst (λ k. AreNotAt k rest) (sym place) apart.1);
    }

returned-below : SharingLaw → (p : Post) (s : Stack) (q : Post) (t : Stack) (before : List Open) (e d : Open) (after : List Open) (a : Posted) (o : Outcome) → IsGood p s → SameBut s t before e d after → SameJobs p q → q.next ≡ p.next
    → IsLess e.frame a p q → IsOutcomeOf a.code a.away.key o → view_of d.section ≡ returned a.away.place o (view_of e.section) → IsAtFrame (view_of d.section) → IsReady (code_in s) d.section → Pays p s t → Goes p s q t
returned-below law p s q t before e d after a o good same jobs next less fits stands at ready pays =
    let code = code_in s in
    let i = a.away.place in
    let v = view_of e.section in
    let rest = less.before ++ less.behind in
    let open-e = open-there p s before e after good same.was in
    let outs = outs-less code v less.before a less.behind (subst (AreOut code v) less.was open-e.out) in
    let fits' : IsOutcomeOf code a.away.key o = subst (λ c. IsOutcomeOf c a.away.key o) outs.0.code_is fits in
    let open-d = returned-open code p q e d a o open-e same.place same.number less stands at ready in
    let was : aways_in p e.frame ≡ aways_of less.before ++ a.away ∷ aways_of less.behind = ap aways_of less.was ∙ aways-append less.before (a ∷ less.behind) in
    let left : aways_in q e.frame ≡ without i (aways_of less.before ++ aways_of less.behind) =
    ap aways_of less.left ∙ sym (without-none i rest outs.1) ∙ ap (without i) (aways-append less.before less.behind) in
    let back : Level = level_by (returned i o v) e.place e.since (without i (aways_of less.before ++ aways_of less.behind)) in
    let d-is : level_of q d ≡ back = level-is q d (returned i o v) e.place e.since e.frame (without i (aways_of less.before ++ aways_of less.behind)) stands same.place same.since same.number left in
    let c0 = law.comes_back_below code (levels_of p before) (levels_of p after) (level_of p e) (section_in s) (away_in p s) (aways_of less.before) (aways_of less.behind) a.away o was fits' (may-return i o v open-e.at_frame outs.0.first) in
    let c1 = subst (λ l. Carries code (with_level p before (level_of p e) after) (section_in s) (away_in p s) (with_level p before l after) (section_in s) (away_in p s)) (sym d-is) c0 in
    changed-below p s q t before e d after good same jobs next less.others open-d c1 pays

-- what a section further out is tied to
there : (code : Compiled) (r : Rules) (P : Tracked → Task → Type 0) (front : List Level) (a : Level) (back : List Level) (o : Tracked) (t : Task) → AreBeside code r P (front ++ a ∷ back) o t → (z : Task) × AreAway code r a.aways z
there code r P [] a back o t h = (t, h.4)
there code r P (b ∷ front) a back o t h = there code r P front a back h.5 h.6 h.8

-- its share, which counts what the slot has cost, is added
returned-pays : (p : Post) (s : Stack) (q : Post) (t : Stack) (before : List Open) (e d : Open) (after : List Open) (a : Posted) (o : Came) → IsGood p s → SameBut s t before e d after → IsLess e.frame a p q → IsPaid a.code a.away.key o
    → view_of d.section ≡ returned a.away.place (outcome_of o.ending) (view_of e.section) → t.share ≡ capped (s.share + o.share) → Pays p s t
returned-pays p s q t before e d after a o good same less paid stands share = λ b r u k tie h.
    let code = code_in s in
    let v = view_of e.section in
    let i = a.away.place in
    let out = out-there code p e a q (open-there p s before e after good same.was) less in
    let tie' = subst (λ ls. AreBeside code r (TiedBeside code r (section_in s) (away_in p s)) ls u k) (levels-with p s before e after same.was) tie in
    let tied = there code r (TiedBeside code r (section_in s) (away_in p s)) (levels_of p before) (level_of p e) (levels_of p after) u k tie' in
    let was : aways_in p e.frame ≡ aways_of less.before ++ a.away ∷ aways_of less.behind = ap aways_of less.was ∙ aways-append less.before (a ∷ less.behind) in
    let runs = (all-less (RunsWhole code r tied.0) (aways_of less.before) a.away (aways_of less.behind) (subst (λ ps. AreAway code r ps tied.0) was tied.1)).0 in
    let cost = subst (λ c. IsPaid c a.away.key o) out.code_is paid r runs.0 runs.1 runs.2 runs.3 in
    let c = cost_by a.away.key.rest o.ending in
    outer-counts b s t before e d after c same.was same.is same.newest same.since (ap budget_in stands ∙ budget-returned i o.ending v) (ap rest_in stands ∙ rest-returned i (outcome_of o.ending) v)
    (subst (λ x. owed x ≤ owed v + c) (sym stands) (owed-returned i a.away.key.rest o.ending v out.rest))
    (λ n l. subst (λ m. capped (n + c) ≤ m) (sym share) (capped-both n c s.share o.share l cost)) h

pub comes-back : SharingLaw → (p : Post) (s : Stack) (q : Post) (t : Stack) (before : List Open) (e d : Open) (after : List Open) (a : Posted) (o : Came) → IsGood p s → SameBut s t before e d after → SameJobs p q → q.next ≡ p.next
    → IsLess e.frame a p q → IsOutcomeOf a.code a.away.key (outcome_of o.ending) → view_of d.section ≡ returned a.away.place (outcome_of o.ending) (view_of e.section) → IsAtFrame (view_of d.section) → IsReady (code_in s) d.section
    → IsPaid a.code a.away.key o → t.share ≡ capped (s.share + o.share) → Goes p s q t
comes-back law p s q t before e d after a o good same jobs next less fits stands at ready paid share =
    returned-below law p s q t before e d after a (outcome_of o.ending) good same jobs next less fits stands at ready (returned-pays p s q t before e d after a o good same less paid stands share)

-- ---- the newest section is left

own-least : (s : seen.Section) → opened.spent_in s ≤ owed s
own-least (section m c b st) = omega arith

-- its slot has cost no more than it owes
stopped-owes : (i since : ℕ) (v s t : seen.Section) → t ≡ stood i (stopped (Unit {0}) true (opened.spent_in s - since)) nothing v → owed t ≤ owed v + (owed s - since)
stopped-owes i since v s t is =
    let k : owed (stood i (stopped (Unit {0}) true (opened.spent_in s - since)) nothing v) ≤ owed v + (opened.spent_in s - since) = owed-stood i (stopped (Unit {0}) true (opened.spent_in s - since)) nothing v in
    let l = own-least s in
    let m : owed (stood i (stopped (Unit {0}) true (opened.spent_in s - since)) nothing v) ≤ owed v + (owed s - since) = omega (arith, k, l) in
    subst (λ z. owed z ≤ owed v + (owed s - since)) (sym is) m

pub left-goes : SharingLaw → (p : Post) (s : Stack) (es : List Open) (e : Open) → s.outer.items ≡ es ++ e ∷ [] → (t : Stack) → t.outer.items ≡ es → code_in t ≡ code_in s → t.first ≡ s.first → t.frame ≡ e.frame → t.tends ≡ true → t.share ≡ s.share → IsGood p s
    → IsReady (code_in s) t.newest → IsAtFrame (section_in t) → section_in t ≡ stood e.place (stopped (Unit {0}) true (opened.spent_in (section_in s) - e.since)) nothing (view_of e.section) → Goes p s p t
left-goes law p s es e outer t same sound first frame tends share good ready at stands =
    let st : Stand (Unit {0}) = stopped (Unit {0}) true (opened.spent_in (section_in s) - e.since) in
    left p s es e outer st nothing t same sound first frame tends good ready at stands (law.abandons (code_in s) (levels_of p es) [] (level_of p e) (section_in s) (away_in p s))
    (λ n r o u tie h. popped-counts n s t es e outer same share (ap budget_in stands ∙ budget-stood e.place st nothing (view_of e.section)) (λ k. stopped-owes e.place e.since (view_of e.section) (section_in s) (section_in t) stands) h)

-- ---- goals of frames within are left

-- a search whose frames have smaller numbers stays where it was
pub below-goes : SharingLaw → (p : Post) (s : Stack) (q : Post) (n : ℕ) → IsGood p s → s.frame < n → SameBelow n p q → SameJobs p q → q.next ≡ p.next → Goes p s q s
below-goes law p s q n good within same jobs next =
    let code = code_in s in
    let more : p.next ≤ q.next = omega (arith, next) in
    let c1 = law.stays code (levels_in p s) (section_in s) (away_in p s) in
    let c2 = subst (λ ls. Carries code (levels_in p s) (section_in s) (away_in p s) ls (section_in s) (away_in p s)) (sym (levels-elsewhere p q s n good within same)) c1 in
    record {
      good = good-elsewhere p q s n good within same more;
      sound = refl;
      first = refl;
      carries = subst (Carries code (levels_in p s) (section_in s) (away_in p s) (levels_in q s) (section_in s)) (sym (away-elsewhere p q s n good within same)) c2;
      pays = λ b r o u tie h. h;
      below = λ g l. same g (least g s.first s.frame l (rise-at-most s.outer.items s.first s.frame good.rise) within);
      jobs = jobs;
      next = more;
    }
  where
    least : (g lo f : ℕ) → g < lo → lo ≤ f → f < n → g < n
    least g lo f h k l = omega arith

-- its share counts more
pub paid-goes : (p : Post) (s : Stack) (q : Post) (t : Stack) (d m : ℕ) → Goes p s q t → m ≡ capped (t.share + d) → Goes p s q (record t { share = m })
paid-goes p s q t d m goes is = record {
  good = record { ready = goes.good.ready; outer = goes.good.outer; at_frame = goes.good.at_frame; none_out = goes.good.none_out; out = goes.good.out; rise = goes.good.rise; below = goes.good.below };
  sound = goes.sound;
  first = goes.first;
  carries = goes.carries;
  pays = λ b r o u tie h. let k = goes.pays b r o u tie h in record { given = k.given; paid = subst (λ x. capped (owed_by t.outer.items (owed (section_in t))) ≤ x) (sym is) (more (owed_by t.outer.items (owed (section_in t))) t.share d k.paid) };
  below = goes.below;
  jobs = goes.jobs;
  next = goes.next;
}
  where
    more : (n a d : ℕ) → capped n ≤ a → capped n ≤ capped (a + d)
    more n a d h = search rules
