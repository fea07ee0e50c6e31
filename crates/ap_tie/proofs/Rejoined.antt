-- A machine into which a group's answers were copied stands for the joined state.
use Rattle.std.proofs.Common.{◌≡◌, ℕ, ◌<◌, Bool, true, false, List, [], ◌∷◌, ◌++◌, map, None, refl, ap, ap₂, sym, ◌∙◌, subst, arith}
use Rattle.std.specs.Prelude.{length, slice_get}
use Rattle.std.specs.List.{AllByRecursion}
use Rattle.ap_term.specs.Tuples.{tuple_under, arguments}
use Rattle.ap_term.proofs.TreeLists.{arguments-applied, instance_all-append_trees}
use Rattle.ap_match.proofs.Tuples.{tuple_under-agree}
use Rattle.ap_term.proofs.TreeLists.{first-same, rest-same}
use Rattle.ap_term.specs.declared.clauses.Check.{Check}
use Rattle.ap_term.specs.Tree.{Tree, Trees, var, int, atom, node, none, more, append_trees}
use Rattle.ap_term.specs.Substitution.{instance, instance_all}
use Rattle.ap_term.specs.Goals.{Program}
use Rattle.ap_term.specs.WellFormed.{IsProgram}
use Rattle.ap_term.proofs.Zips.{AllByRecursion-map}
use Rattle.ap_cells.specs.declared.cells.Raw.{Raw}
use Rattle.ap_laws.specs.Graft.{lifted_var, fitted}
use Rattle.ap_tracked.specs.Tracked.{Goal, call, fork, moved, opened, Tracked}
use Rattle.ap_tracked.specs.Marks.{marked}
use Rattle.ap_tracked.specs.Instances.{Inst}
use Rattle.ap_tracked.specs.Kept.{IsKept}
use Rattle.ap_tracked.proofs.Marks.{marked-calls}
use Rattle.ap_graft.specs.Variables.{LocalGoal, LocalGoals, IsTrackedBelow}
use Rattle.ap_graft.specs.Grafts.{behind, put_first, tracked_graft, tracked_grafts}
use Rattle.ap_graft.specs.Joins.{AreAnswers, AllMet}
use Rattle.ap_graft.proofs.Joins.{joining}
use Rattle.ap_graft.proofs.Sets.{joined_set}
use Rattle.ap_graft.proofs.Variables.{below_from}
use Rattle.ap_instr.specs.Code.{Compiled}
use Rattle.ap_match.specs.Fits.{Fits, Agree, Becomes, Answered}
use Rattle.ap_steps.specs.Standing.{Waits}
use Rattle.ap_standing.specs.Machine.{standing, Machine}
use Rattle.ap_standing.specs.Holds.{AtReturn, SetOf, SetAt, IsOpenAt, AreOpen, IsNamed, AllNamed, IsNamedGoal, AreNamed, IsPlain, Holds, HoldsPoints}
use Rattle.ap_standing.proofs.Moved.{Waits-agree}
use Rattle.ap_standing.proofs.Named.{named-opened, named-moved}
use Rattle.ap_group.specs.Groups.{Pushed, Forked}
use Rattle.ap_tie.specs.Sections.{Slots}
use Rattle.ap_tie.specs.Forked.{goal_by, goals_under, IsForked}
use Rattle.ap_tie.specs.Settled.{IsJoined}
use Rattle.ap_tie.specs.Rejoined.{MeetAnswers, IsKnown, IsPushed, HasRejoined, RejoinLaw, AsGeneral, MeetLaw}

-- ---- goals and their arguments

arguments-instance : (f : ℕ → Tree) (g : Tree) → IsNamed g → instance_all f (arguments g) ≡ arguments (instance f g)
arguments-instance f (var x) h = absurd h
arguments-instance f (int z) h = absurd h
arguments-instance f (atom a) h = refl
arguments-instance f (node a ts) h = refl

arguments-by : (code : Compiled) (k : ℕ → Tree) (p : Pushed) → IsKnown code p → arguments (goal_by (slice_get code.predicates p.predicate) (tuple_under k p.arguments)) ≡ tuple_under k p.arguments
arguments-by code k p (q, e) = ap (λ o. arguments (goal_by o (tuple_under k p.arguments))) e ∙ arguments-applied q.name (tuple_under k p.arguments)

-- the goals on both sides are equal one by one, and so is what stands behind them
abbrev AreSame : Compiled → (ℕ → Tree) → (ℕ → Tree) → List Pushed → Trees → Type 0
AreSame code k f [] none = Unit {0}
AreSame code k f (p ∷ ps) (more g gs) = (tuple_under k p.arguments ≡ instance_all f (arguments g)) × AreSame code k f ps gs
AreSame code k f _ _ = ⊥

split : (code : Compiled) (k f : ℕ → Tree) (b : ℕ) (pr : Program) (ps : List Pushed) (gs : Trees) (us : List Tracked) (xs ys : Trees) → AllByRecursion (IsKnown code) ps → AllNamed gs → length ps ≡ length us → AreAnswers pr b gs us
    → append_trees (goals_under code k ps) xs ≡ append_trees (instance_all f gs) ys → AreSame code k f ps gs × (xs ≡ ys)
split code k f b pr [] none [] xs ys h n l a e = (tt, e)
split code k f b pr [] none (u ∷ us) xs ys h n l a e = absurd a
split code k f b pr [] (more g gs) [] xs ys h n l a e = absurd a
split code k f b pr [] (more g gs) (u ∷ us) xs ys h n l a e = absurd (cc)
split code k f b pr (p ∷ ps) none [] xs ys h n l a e = absurd (cc)
split code k f b pr (p ∷ ps) none (u ∷ us) xs ys h n l a e = absurd a
split code k f b pr (p ∷ ps) (more g gs) [] xs ys h n l a e = absurd a
split code k f b pr (p ∷ ps) (more g gs) (u ∷ us) xs ys h n l a e =
    let r = split code k f b pr ps gs us xs ys h.1 n.1 (cc) a.1 (rest-same e) in
    ((sym (arguments-by code k p h.0) ∙ ap arguments (first-same e) ∙ sym (arguments-instance f g n.0), r.0), r.1)

meets-all : (code : Compiled) (k f : ℕ → Tree) (ps : List Pushed) (gs : Trees) (us : List Tracked) → AreSame code k f ps gs → MeetAnswers k ps us → AllMet gs us f
meets-all code k f [] none [] s m = tt
meets-all code k f [] none (u ∷ us) s m = absurd m
meets-all code k f [] (more g gs) us s m = absurd s
meets-all code k f (p ∷ ps) none us s m = absurd s
meets-all code k f (p ∷ ps) (more g gs) [] s m = absurd m
meets-all code k f (p ∷ ps) (more g gs) (u ∷ us) s m = ((m.0.0, sym s.0 ∙ m.0.1), meets-all code k f ps gs us s.1 m.1)

all-meet : (code : Compiled) (k f : ℕ → Tree) (ps : List Pushed) (gs : Trees) (us : List Tracked) → AreSame code k f ps gs → AllMet gs us f → MeetAnswers k ps us
all-meet code k f [] none [] s m = tt
all-meet code k f [] none (u ∷ us) s m = absurd m
all-meet code k f [] (more g gs) us s m = absurd s
all-meet code k f (p ∷ ps) none us s m = absurd s
all-meet code k f (p ∷ ps) (more g gs) [] s m = absurd m
all-meet code k f (p ∷ ps) (more g gs) (u ∷ us) s m = ((m.0.0, s.0 ∙ m.0.1), all-meet code k f ps gs us s.1 m.1)

-- ---- the forked state with its group as a conjunction

named-all : (own : ℕ → Tree) (ts : Trees) → AllNamed ts → AllNamed (instance_all own ts)
named-all own none h = tt
named-all own (more (var x) ts) h = absurd h.0
named-all own (more (int z) ts) h = absurd h.0
named-all own (more (atom a) ts) h = (tt, named-all own ts h.1)
named-all own (more (node a us) ts) h = (tt, named-all own ts h.1)

pub opened-marks : (P : ℕ → Type 0) (cs : List Check) (ts : Trees) (own : ℕ → Tree) (now : List Check) (gs : List Goal) → LocalGoal P (fork cs ts own now)
    → marked (opened (fork cs ts own now ∷ gs)) ≡ append_trees (instance_all own ts) (marked gs)
opened-marks P cs none own now gs h = absurd h
opened-marks P cs (more t ts) own now gs h = ap (more (instance own t)) (marked-calls own ts gs)

-- ---- the joined state

abbrev IsGood : Tracked → Type 0
IsGood s = AreNamed s.goals × (s.fault ≡ None)

good-put : (gs : List Goal) (b : ℕ) (s u : Tracked) → AreNamed gs → IsGood s → u.goals ≡ [] → u.fault ≡ None → IsGood (put_first gs b s u)
good-put [] b s u h g e q = g
good-put (fork cs ts own now ∷ K) b s u h g e q = g
good-put (call t ∷ K) b s u h g e q = (
  subst AreNamed (sym (ap₂ (λ hs f. map (moved (lifted_var b s.next)) hs ++ behind f (map (moved (fitted t b s.next u.tuple)) K)) e q)) (AllByRecursion-map IsNamedGoal IsNamedGoal (moved (fitted t b s.next u.tuple)) (named-moved (fitted t b s.next u.tuple)) K h.1),
  q,
)

good-grafts : (pr : Program) (c b : ℕ) (gs : Trees) (us : List Tracked) (s : Tracked) → AreAnswers pr c gs us → IsGood s → IsGood (tracked_grafts b s us)
good-grafts pr c b none [] s a g = g
good-grafts pr c b none (u ∷ us) s a g = absurd a
good-grafts pr c b (more t gs) [] s a g = absurd a
good-grafts pr c b (more t gs) (u ∷ us) s a g = good-grafts pr c b gs us (tracked_graft b s u) a.1 (good-put (opened s.goals) b s u (named-opened s.goals g.0) g a.0.ended a.0.quiet)

module _ (code : Compiled) (p : Program) (o : Tracked) (roots : List ℕ) (f : Forked) (w : Slots) (j : Tracked) (good : IsProgram p) (below : IsTrackedBelow o) (i : IsJoined code p o roots f w j) (pushed : IsPushed code roots f i.answers) where
  abbrev s : Tracked
  s = i.forked

  abbrev answers : List Tracked
  answers = i.answers

  abbrev x : IsForked code roots f i.forked
  x = i.is_forked

  abbrev goals : Trees
  goals = instance_all x.own x.goals

  below_s : IsTrackedBelow s
  below_s = below_from p o s good below i.kept.from

  named : AllNamed goals
  named = named-all x.own x.goals (subst AreNamed x.first x.plain.1).0

  marks_are : marked (opened s.goals) ≡ append_trees goals (marked x.behind)
  marks_are = ap (λ gs. marked (opened gs)) x.first ∙ opened-marks (λ v. v < s.next) x.checks x.goals x.own x.now x.behind (subst (LocalGoals (λ v. v < s.next)) x.first below_s.0).0

  joined_kept : IsKept p o (tracked_grafts s.next s answers)
  joined_kept = (joining p o s x.checks x.goals x.own x.now x.behind answers good below i.kept x.first x.apart i.each).0

  joined_is_plain : IsPlain j
  joined_is_plain =
      let g = good-grafts p s.next s.next goals answers s i.each (x.plain.1, x.plain.2) in
      subst IsPlain (sym i.same) (below_from p o (tracked_grafts s.next s answers) good below joined_kept.from, g.0, g.1)

  -- what the fork's cells are under an instance of the joined state
  found : (gs t : Trees) → Inst j gs t → (k : ℕ → Tree) × Fits f.cells k × MeetAnswers k f.goals answers × Waits code f.returns roots k gs t
  found gs t z =
      let m = (joined_set p o s x.checks x.goals x.own x.now x.behind answers good below i.kept x.first x.apart i.each gs t).0 (subst (λ v. Inst v gs t) i.same z) in
      let v : ℕ → Tree = m.0 in
      let a = (x.same (append_trees (instance_all v goals) gs) t).1 (v, ap (append_trees (instance_all v goals)) m.2 ∙ sym (instance_all-append_trees v goals (marked x.behind)) ∙ ap (instance_all v) (sym marks_are), m.3) in
      let d = split code a.0 v s.next p f.goals goals answers a.1 gs pushed.known named pushed.many i.each (sym a.4) in
      (a.0, a.2, all-meet code a.0 v f.goals goals answers d.0 m.1, subst (λ qs. Waits code f.returns roots a.0 qs t) d.1 a.3)

  some-met : (k : ℕ → Tree) × Fits f.cells k × MeetAnswers k f.goals answers
  some-met = let m = found (instance_all var (marked j.goals)) (instance_all var j.tuple) (var, refl, refl) in (m.0, m.1, m.2)

  module _ (n : Machine) (h : HasRejoined roots f i.answers n) where
    forth : (gs t : Trees) → SetOf code n gs t → Inst j gs t
    forth gs t z =
        let here : AtReturn code (standing n) gs t = subst (λ now. SetAt code (standing n) n.x n.y now gs t) h.now z in
        let k : ℕ → Tree = here.0 in
        let c = h.cells.only k here.1 in
        let waits : Waits code f.returns roots k gs t = subst (λ ws. Waits code ws roots k gs t) h.returns (subst (λ rs. Waits code n.returns rs k gs t) h.roots_stay here.2) in
        let inst = (x.same (append_trees (goals_under code k f.goals) gs) t).0 (k, gs, c.0, waits, refl) in
        let d = split code k inst.0 s.next p f.goals goals answers gs (instance_all inst.0 (marked x.behind)) pushed.known named pushed.many i.each (inst.1 ∙ ap (instance_all inst.0) marks_are ∙ instance_all-append_trees inst.0 goals (marked x.behind)) in
        subst (λ v. Inst v gs t) (sym i.same)
        ((joined_set p o s x.checks x.goals x.own x.now x.behind answers good below i.kept x.first x.apart i.each gs t).1 (inst.0, meets-all code k inst.0 f.goals goals answers d.0 c.1, d.1, inst.2))

    back : (gs t : Trees) → Inst j gs t → SetOf code n gs t
    back gs t z =
        let m = found gs t z in
        let l = h.cells.each m.0 m.1 m.2 in
        let waits : Waits code f.returns roots l.0 gs t = Waits-agree code (length f.cells) m.0 l.0 l.1 f.returns roots pushed.within pushed.inside gs t m.3 in
        let there : AtReturn code (standing n) gs t = (l.0, l.2, subst (λ rs. Waits code n.returns rs l.0 gs t) (sym h.roots_stay) (subst (λ ws. Waits code ws roots l.0 gs t) (sym h.returns) waits)) in
        subst (λ now. SetAt code (standing n) n.x n.y now gs t) (sym h.now) there

    rejoined : Holds code n (j ∷ [])
    rejoined =
        (j ∷ [], [], ((λ gs t. (forth gs t, back gs t)), refl), (joined_is_plain, tt), subst (IsOpenAt code) (sym h.now) tt, subst (AreOpen code) (sym h.returns) x.open_returns, subst (λ ps. HoldsPoints code n.roots ps []) (sym h.points) refl, refl)

pub rejoins : RejoinLaw
rejoins = record { some = some-met; rejoined = λ code p o roots f w j n good below i pushed h. rejoined code p o roots f w j good below i pushed n h }

-- ---- answers that are met one after another

MeetAnswers-more : (k : ℕ → Tree) (ps : List Pushed) (us : List Tracked) (p : Pushed) (u : Tracked) → MeetAnswers k ps us → (h : ℕ → Tree) × (tuple_under k p.arguments ≡ instance_all h u.tuple) → MeetAnswers k (ps ++ p ∷ []) (us ++ u ∷ [])
MeetAnswers-more k [] [] p u m l = (l, tt)
MeetAnswers-more k [] (v ∷ us) p u m l = absurd m
MeetAnswers-more k (q ∷ ps) [] p u m l = absurd m
MeetAnswers-more k (q ∷ ps) (v ∷ us) p u m l = (m.0, MeetAnswers-more k ps us p u m.1 l)

MeetAnswers-last : (k : ℕ → Tree) (ps : List Pushed) (us : List Tracked) (p : Pushed) (u : Tracked) → length ps ≡ length us → MeetAnswers k (ps ++ p ∷ []) (us ++ u ∷ []) → MeetAnswers k ps us × (h : ℕ → Tree) × (tuple_under k p.arguments ≡ instance_all h u.tuple)
MeetAnswers-last k [] [] p u n m = (tt, m.0.0, m.0.1)
MeetAnswers-last k [] (v ∷ us) p u n m = absurd (cc)
MeetAnswers-last k (q ∷ ps) [] p u n m = absurd (cc)
MeetAnswers-last k (q ∷ ps) (v ∷ us) p u n m = let r = MeetAnswers-last k ps us p u (cc) m.1 in ((m.0, r.0), r.1, r.2)

module _ (cs ds es : List Raw) (ps : List Pushed) (us : List Tracked) (p : Pushed) (u : Tracked) (ts : Trees) (many : length ps ≡ length us) (within : AllByRecursion (λ a. a < length cs) p.arguments) (general : AsGeneral ts u.tuple) (b : Becomes cs ds (λ k. MeetAnswers k ps us) (λ k. Unit {0})) where
  -- the last goal's answer is met by the map in the cells of the others
  last-there : (k l : ℕ → Tree) → Agree (length cs) k l → (h : ℕ → Tree) × (tuple_under k p.arguments ≡ instance_all h u.tuple) → (h : ℕ → Tree) × (tuple_under l p.arguments ≡ instance_all h ts)
  last-there k l a m = let g = general.1 m.0 in (g.0, sym (tuple_under-agree (length cs) k l a p.arguments within) ∙ m.1 ∙ g.1)

  one-met : (r : Bool) → Answered ds es (λ k. (h : ℕ → Tree) × (tuple_under k p.arguments ≡ instance_all h ts)) r → Answered cs es (λ k. MeetAnswers k (ps ++ p ∷ []) (us ++ u ∷ [])) r
  one-met true c = record {
    longer = omega (arith, b.longer, c.longer);
    only = λ k z.
        let d = c.only k z in
        let e = b.only k d.0 in
        let g = general.0 d.1.0 in
        (e.0, MeetAnswers-more k ps us p u e.1 (g.0, d.1.1 ∙ g.1), tt);
    each = λ k z m.
        let l = MeetAnswers-last k ps us p u many m in
        let d = b.each k z l.0 in
        let e = c.each d.0 d.2 (last-there k d.0 d.1 (l.1, l.2)) in
        (e.0, (λ y v. d.1 y v ∙ e.1 y (omega (arith, b.longer))), e.2);
  }
  one-met false c = λ k z m.
      let l = MeetAnswers-last k ps us p u many m in
      let d = b.each k z l.0 in
      c d.0 d.2 (last-there k d.0 d.1 (l.1, l.2))

pub meeting : MeetLaw
meeting = record {
  none_met = λ cs. record { longer = omega arith; only = λ k z. (z, tt, tt); each = λ k z m. (k, (λ y v. refl), z) };
  one_more = λ cs ds es ps us p u ts r many within general b. one-met cs ds es ps us p u ts many within general b r;
}
