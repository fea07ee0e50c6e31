-- What it is to a search that a goal of its newest frame comes back, or that nothing does.
use Rattle.std.proofs.Common.{◌≡◌, ℕ, ◌+◌, ◌≤◌, true, false, List, [], ◌∷◌, ◌++◌, refl, ap, sym, ◌∙◌, subst, arith}
use Rattle.ap_frames.specs.declared.slots.Stand.TheVariants.{Ended}
use Rattle.ap_frames.specs.declared.slots.Ending.TheVariants as ending
use Rattle.ap_frames.specs.Rows.{stopped}
use Rattle.ap_frames.specs.Slots.{may_be_given_back}
use Rattle.ap_instr.specs.Code.{Compiled}
use Rattle.ap_tie.specs.Sections as seen
use Rattle.ap_tie.specs.Sections.{section, bottom, parcall, nothing, held, machine_in}
use Rattle.ap_tie.specs.Settled.{HasFailed}
use Rattle.ap_tied.specs.SlotCalls.{answered}
use Rattle.ap_open.specs.Away.{RunsWhole, AreAway, TiedBeside, Carries, without, Outcome, found, failed_at, spent_all, stopped_at, given_back, IsOutcomeOf, returned}
use Rattle.ap_open.specs.Opened.{rest_in}
use Rattle.ap_open.specs.Sharing.{MayReturn, SharingLaw}
use Rattle.ap_section.specs.Ready.{IsReady}
use Rattle.ap_section.specs.Slots.{IsAtFrame, told_of}
use Rattle.ap_section.proofs.Stood.{told-row}
use Rattle.ap_post.specs.declared.post.Post.{Post}
use Rattle.ap_post.specs.Posted.{Posted}
use Rattle.ap_post.specs.Posts.{SamePosted, SameJobs, IsLess}
use Rattle.ap_post.specs.declared.outcome.Outcome.{Outcome as Came}
use Rattle.ap_post.specs.Jobs.{outcome_of, cost_by, IsPaid}
use Rattle.ap_section.specs.Views.{budget_in}
use Rattle.ap_section.specs.Owed.{owed}
use Rattle.ap_ledger.specs.Counts.{capped}
use Rattle.ap_stack.specs.declared.stack.Stack.{Stack}
use Rattle.ap_stack.specs.Levels.{aways_of, aways_in, IsOut, AreNotAt, AreOut}
use Rattle.ap_stack.specs.Stacks.{code_in, levels_in, section_in, away_in, IsGood, Pays, Goes}
use Rattle.ap_stack.proofs.Counts.{capped-both, counted, owed-returned, budget-returned}
use Rattle.ap_stack.proofs.Debts.{innermost}
use Rattle.ap_stack.proofs.Outs.{all-less, outs-stood, outs-less, aways-append, without-none}
use Rattle.ap_stack.proofs.Elsewhere.{good-posted, levels-posted, away-posted}
use Rattle.ap_stack.proofs.Offers.{SameButNewest, newest-goes}

-- ---- slots to which goals come back

has-failed : (s : seen.Section) → IsAtFrame s → HasFailed (machine_in s).roots [] (machine_in s)
has-failed (section m c b bottom) at = absurd at
has-failed (section m c b (parcall f q rd w qs st)) at = at.0

pub may-return : (i : ℕ) (o : Outcome) (s : seen.Section) → IsAtFrame s → told_of may_be_given_back i s ≡ true → MayReturn i o s
may-return i (found a cost more) s at first = tt
may-return i (failed_at cost) s at first = tt
may-return i spent_all s at first = tt
may-return i (stopped_at cost) s at first = tt
may-return i given_back (section m c b bottom) at first = absurd at
may-return i given_back (section m c b (parcall f q rd w qs st)) at first = told-row may_be_given_back i (section m c b (parcall f q rd w qs st)) first

pub outs-returned : (code : Compiled) (s : seen.Section) (i : ℕ) (o : Outcome) (ps : List Posted) → AreOut code s ps → AreNotAt i ps → AreOut code (returned i o s) ps
outs-returned code s i (found a cost more) ps outs n = outs-stood code s i (answered cost more) (held a) ps outs n
outs-returned code s i (failed_at cost) ps outs n = outs-stood code s i (Ended ending.Failed cost) nothing ps outs n
outs-returned code s i spent_all ps outs n = outs-stood code s i (Ended ending.Spent (rest_in s)) nothing ps outs n
outs-returned code s i (stopped_at cost) ps outs n = outs-stood code s i (stopped (Unit {0}) true cost) nothing ps outs n
outs-returned code s i given_back ps outs n = outs-stood code s i (stopped (Unit {0}) false 0) nothing ps outs n

-- ---- one comes back

-- what is known of it while it is out
pub out-of : (p : Post) (s : Stack) (a : Posted) (q : Post) → IsGood p s → IsLess s.frame a p q → IsOut (code_in s) (section_in s) a
out-of p s a q good less = (outs-less (code_in s) (section_in s) less.before a less.behind (subst (AreOut (code_in s) (section_in s)) less.was good.out)).0

pub returned-goes : SharingLaw → (p : Post) (s : Stack) (q : Post) (t : Stack) (a : Posted) (o : Outcome) → IsGood p s → s.tends ≡ true → SameButNewest s t → SameJobs p q → q.next ≡ p.next
    → IsLess s.frame a p q → IsOutcomeOf a.code a.away.key o → section_in t ≡ returned a.away.place o (section_in s) → IsAtFrame (section_in t) → IsReady (code_in s) t.newest → Pays p s t → Goes p s q t
returned-goes law p s q t a o good tends same jobs next less fits stands at ready pays =
    let code = code_in s in
    let v = section_in s in
    let i = a.away.place in
    let rest = less.before ++ less.behind in
    let outs = outs-less code v less.before a less.behind (subst (AreOut code v) less.was good.out) in
    let fits' : IsOutcomeOf code a.away.key o = subst (λ c. IsOutcomeOf c a.away.key o) outs.0.code_is fits in
    let outs' : AreOut code (section_in t) rest = subst (λ x. AreOut code x rest) (sym stands) (outs-returned code v i o rest outs.2 outs.1) in
    let was : away_in p s ≡ aways_of less.before ++ a.away ∷ aways_of less.behind = ap aways_of less.was ∙ aways-append less.before (a ∷ less.behind) in
    let left : without i (aways_of less.before ++ aways_of less.behind) ≡ aways_in q s.frame =
    ap (without i) (sym (aways-append less.before less.behind)) ∙ without-none i rest outs.1 ∙ ap aways_of (sym less.left) in
    let back = law.comes_back code (levels_in p s) v (aways_of less.before) (aways_of less.behind) a.away o (has-failed v (good.at_frame tends)) fits' (may-return i o v (good.at_frame tends) outs.0.first) in
    let c1 = subst (λ ps. Carries code (levels_in p s) v ps (levels_in p s) (returned i o v) (without i (aways_of less.before ++ aways_of less.behind))) (sym was) back in
    let c2 = subst (Carries code (levels_in p s) v (away_in p s) (levels_in p s) (returned i o v)) left c1 in
    let c3 = subst (λ x. Carries code (levels_in p s) v (away_in p s) (levels_in p s) x (aways_in q s.frame)) (sym stands) c2 in
    newest-goes p s q t good same jobs next less.others ready at (subst (AreOut code (section_in t)) (sym less.left) outs') c3 pays

-- its share, which counts what the slot has cost, is added
pub returned-pays : (p : Post) (s : Stack) (q : Post) (t : Stack) (a : Posted) (o : Came) → IsGood p s → t.outer.items ≡ s.outer.items → IsLess s.frame a p q → IsPaid a.code a.away.key o
    → section_in t ≡ returned a.away.place (outcome_of o.ending) (section_in s) → t.share ≡ capped (s.share + o.share) → Pays p s t
returned-pays p s q t a o good outer less paid stands share = λ b r u k tie h.
    let code = code_in s in
    let v = section_in s in
    let out = out-of p s a q good less in
    let tied = innermost code r (TiedBeside code r v (away_in p s)) (levels_in p s) u k tie in
    let was : away_in p s ≡ aways_of less.before ++ a.away ∷ aways_of less.behind = ap aways_of less.was ∙ aways-append less.before (a ∷ less.behind) in
    let runs = (all-less (RunsWhole code r tied.1) (aways_of less.before) a.away (aways_of less.behind) (subst (λ ps. AreAway code r ps tied.1) was tied.2.2)).0 in
    let cost = subst (λ c. IsPaid c a.away.key o) out.code_is paid r runs.0 runs.1 runs.2 runs.3 in
    let d = cost_by a.away.key.rest o.ending in
    counted b s t d outer (ap budget_in stands ∙ budget-returned a.away.place o.ending v) (subst (λ x. owed x ≤ owed v + d) (sym stands) (owed-returned a.away.place a.away.key.rest o.ending v out.rest))
    (λ n l. subst (λ m. capped (n + d) ≤ m) (sym share) (capped-both n d s.share o.share l cost)) h

-- ---- none does

-- where no goal has come or gone a search is where it was
pub posted-goes : SharingLaw → (p : Post) (s : Stack) (q : Post) → IsGood p s → SamePosted p q → SameJobs p q → q.next ≡ p.next → Goes p s q s
posted-goes law p s q good same jobs next =
    let code = code_in s in
    let c1 = law.stays code (levels_in p s) (section_in s) (away_in p s) in
    let c2 = subst (λ ls. Carries code (levels_in p s) (section_in s) (away_in p s) ls (section_in s) (away_in p s)) (sym (levels-posted p q s good same)) c1 in
    record {
      good = good-posted p q s good same (omega arith);
      sound = refl;
      first = refl;
      carries = subst (Carries code (levels_in p s) (section_in s) (away_in p s) (levels_in q s) (section_in s)) (sym (away-posted p q s good same)) c2;
      pays = λ b r o u tie h. h;
      below = λ g l. same g;
      jobs = jobs;
      next = omega arith;
    }
