-- A call, and the clause that is taken next.
use Rattle.std.proofs.Common.{◌≡◌, ℕ, ◌+◌, ◌*◌, ◌<◌, ◌≤◌, List, [], ◌∷◌, ◌++◌, length, Option, Some, None, slice_get, refl, ap, ap₂, sym, ◌∙◌, subst, arith}
use Rattle.std.proofs.lemmas.List.{get_or-take}
use Rattle.std.proofs.Math.Nat.{mul-le-mul_left}
use Rattle.std.specs.List.{AllByRecursion}
use Rattle.ap_term.specs.Tree.{Trees}
use Rattle.ap_term.specs.Goals.{Program}
use Rattle.ap_term.specs.WellFormed.{IsProgram}
use Rattle.ap_tracked.specs.Tracked.{Tracked}
use Rattle.std.specs.Prelude.{IfSome}
use Rattle.ap_cells.specs.declared.cells.Raw.{Raw}
use Rattle.ap_instr.specs.declared.compiled.Predicate.{Predicate}
use Rattle.ap_instr.specs.Code.{Compiled}
use Rattle.ap_instr.specs.StandsFor.{StandsFor, clause_places}
use Rattle.ap_steps.specs.Moves.{held}
use Rattle.ap_steps.specs.Standing.{Return, AtCall}
use Rattle.ap_standing.specs.Machine.{Point, calling, inside, failed, Machine, standing_at, places_from, places}
use Rattle.ap_standing.specs.Holds.{AreOpen, HoldsPoints, HoldsRest, Holds, Turned}
use Rattle.ap_standing.specs.Laws.{machine, IsTurn, KeepsStanding, SameArguments}
use Rattle.ap_standing.proofs.Calls.{turned, taken, skipped, renamed}
use Rattle.ap_standing.proofs.Turns.{SameSet-trans, rest-none, AtCall-registers}
use Rattle.ap_standing.proofs.Machines.{points-failed, failed-points}
use Rattle.ap_machine.specs.View.{Paused}
use Rattle.ap_tracked.specs.Instances.{Inst}
use Rattle.ap_control.specs.declared.alternatives.Alternative.{Alternative}
use Rattle.ap_control.specs.Heads.{IsShut, PassesOver}
use Rattle.ap_machine.specs.Choices.{Stays, AtNewest, Returned, LeavesOut, places_of, called_point, points_left}
use Rattle.ap_machine.specs.Live.{IsLive, kept_points, AreLive, KeepsLive, UnifiesAtNewest}
use Rattle.ap_machine.specs.Lasting.{moves_to_end, moves_of_points, moves_left}
use Rattle.ap_machine.proofs.Alternatives.{Returned-trans}

-- what is left depends on the call's own arguments alone
regiven : (code : Compiled) (roots : List ℕ) (qs : List Point) (point other : Point) → other.cells ≡ point.cells → other.returns ≡ point.returns → other.predicate ≡ point.predicate
    → (q : Predicate) → slice_get code.predicates point.predicate ≡ Some q → SameArguments q.arity (held other.arguments) (held point.arguments)
    → (ls : List ℕ) (ss : List Tracked) → HoldsRest code roots point ls qs ss → HoldsRest code roots other ls qs ss
regiven code roots qs point other ec er ep q known args ls ss h =
    let u = h.0 in
    let n : ℕ = u.predicate.arity in
    let eq : q ≡ u.predicate = let e : Some q ≡ Some u.predicate = sym known ∙ u.known in cc in
    let named : Point = record point { arguments = other.arguments } in
    let I : Trees → Trees → Type 0 = AtCall code (standing_at roots point) (held point.arguments) u.predicate.name n in
    let J : Trees → Trees → Type 0 = AtCall code (standing_at roots point) (held other.arguments) u.predicate.name n in
    let given : HoldsRest code roots named ls qs ss = (
      record {
        predicate = u.predicate;
        state = u.state;
        goal = u.goal;
        rest = u.rest;
        clauses = u.clauses;
        known = u.known;
        same = SameSet-trans J I (Inst u.state)
            (AtCall-registers code (standing_at roots point) (held other.arguments) (held point.arguments) u.predicate.name n (subst (λ (p : Predicate). SameArguments p.arity (held other.arguments) (held point.arguments)) eq args))
            u.same;
        plain = u.plain;
        first = u.first;
        ordinary = u.ordinary;
        heads = u.heads;
        good = u.good;
        reads = u.reads;
        open_returns = u.open_returns;
      },
      h.1,
      h.2,
      h.3,
    ) in
    renamed code roots qs named other ec er refl ep ls ss given

module _ (code : Compiled) (cs : List Raw) (x y : List ℕ) (ws : List Return) (roots : List ℕ) (qs : List Point) (number : ℕ)
    (q : Predicate) (known : slice_get code.predicates number ≡ Some q) (p : Program) (good : IsProgram p) (stands : StandsFor code p) where
  abbrev before : Machine
  before = machine cs x y ws roots qs (calling number)

  -- the call's own registers, as a choice point's arguments
  abbrev here : Point
  here = record { cells = cs; returns = ws; arguments = x; predicate = number; place = 0; behind = None }

  -- clauses that can't be entered have no children
  passed : (ls rest : List ℕ) → PassesOver code cs (held x) ls rest → (ss : List Tracked) → HoldsRest code roots here ls qs ss → HoldsRest code roots here rest qs ss
  passed ls rest p ss h = go p.passed ls p.are p.shut h
    where
      go : (ks ls : List ℕ) → ls ≡ ks ++ rest → AllByRecursion (IsShut code cs (held x)) ks → HoldsRest code roots here ls qs ss → HoldsRest code roots here rest qs ss
      go [] ls e shut h = subst (λ us. HoldsRest code roots here us qs ss) e h
      go (k ∷ ks) ls e shut h =
          go ks (ks ++ rest) refl shut.1
          (skipped code roots qs here k (ks ++ rest) x y (λ n w a b. refl) (shut.0 (held y)) ss (subst (λ us. HoldsRest code roots here us qs ss) e h))

  -- the children by the clauses that are left
  turned-to : (rest : List ℕ) → PassesOver code cs (held x) (clause_places code q) rest → (ss : List Tracked) → Holds code before ss → (ts : List Tracked) × Turned p 1 ss ts × HoldsRest code roots here rest qs ts
  turned-to rest over ss h =
      let t = turned code roots qs p good stands q here known x y (λ w a b. refl) ss h in
      (t.0, t.1, passed (clause_places code q) rest over t.0 t.2)

  pub entered-none : PassesOver code cs (held x) (clause_places code q) [] → IsTurn code p before (machine cs x y ws roots qs failed)
  entered-none over ss h =
      let t = turned-to [] over ss h in
      (t.0, t.1, points-failed code (machine cs x y ws roots qs failed) refl h.5 t.0 (rest-none code roots here qs t.0 t.2))

  pub entered-one : (l : ℕ) (ls : List ℕ) → PassesOver code cs (held x) (clause_places code q) (l ∷ ls) → PassesOver code cs (held x) ls [] → IsTurn code p before (machine cs x y ws roots qs (inside l))
  entered-one l ls over none ss h =
      let t = turned-to (l ∷ ls) over ss h in
      (t.0, t.1, taken code roots qs here l ls qs x y (λ n w a b. refl) (λ left u. rest-none code roots here qs left (passed ls [] none left u)) t.0 t.2)

  -- a choice point for the call, with clauses that are left
  kept-for : (a : Alternative) (left : List Tracked) → HoldsRest code roots here (a.place ∷ places_from code a.behind) qs left → HoldsPoints code roots (called_point number q.arity a before ∷ qs) left
  kept-for a left h =
      regiven code roots qs here (called_point number q.arity a before) refl refl refl q known (λ w c b. get_or-take (q.arity + 1) x w 0 b) (a.place ∷ places_from code a.behind) left h

  pub entered-many : (a : Alternative) → PassesOver code cs (held x) (clause_places code q) (a.place ∷ places_from code a.behind)
      → IsTurn code p before (machine cs x y ws roots (called_point number q.arity a before ∷ qs) failed)
  entered-many a over ss h =
      let t = turned-to (a.place ∷ places_from code a.behind) over ss h in
      (t.0, t.1, points-failed code (machine cs x y ws roots (called_point number q.arity a before ∷ qs) failed) refl h.5 t.0 (kept-for a t.0 t.2))

  -- the first clause is taken, and the choice point is for those behind it
  pub entered-first : (l : ℕ) (ls : List ℕ) (a : Alternative) → PassesOver code cs (held x) (clause_places code q) (l ∷ ls) → PassesOver code cs (held x) ls (a.place ∷ places_from code a.behind)
      → IsTurn code p before (machine cs x y ws roots (called_point number q.arity a before ∷ qs) (inside l))
  entered-first l ls a over behind ss h =
      let t = turned-to (l ∷ ls) over ss h in (
        t.0,
        t.1,
        taken code roots qs here l ls (called_point number q.arity a before ∷ qs) x y (λ n w a b. refl) (λ left u. kept-for a left (passed ls (a.place ∷ places_from code a.behind) behind left u)) t.0 t.2,
      )

-- ---- the next clause of the newest choice point

module _ (code : Compiled) (s u : Paused) (back : Returned s u) (due : s.machine.now ≡ failed) (q : Point) (qs : List Point) (is : s.machine.points ≡ q ∷ qs) where
  at : AtNewest u.machine
  at = back.at

  same : at.point ≡ q
  same = let e : at.point ∷ at.others ≡ q ∷ qs = sym at.points ∙ back.points ∙ is in cc

  left-of : (ss : List Tracked) → Holds code s.machine ss → HoldsRest code u.machine.roots q (places code q) qs ss
  left-of ss h =
      subst (λ rs. HoldsPoints code rs (q ∷ qs) ss) (sym back.stays.roots)
      (subst (λ ps. HoldsPoints code s.machine.roots ps ss) is (failed-points code s.machine due ss h))

  pub still-failed : KeepsStanding code s.machine u.machine
  still-failed ss h =
      let l = left-of ss h in
      let opens : AreOpen code u.machine.returns = subst (AreOpen code) (sym (at.returns ∙ ap (λ (p : Point). p.returns) same)) l.0.open_returns in
      points-failed code u.machine (back.now ∙ due) opens ss (subst (λ ps. HoldsPoints code u.machine.roots ps ss) (sym (back.points ∙ is)) l)

  pub retaken : (t : Paused) → Returned s t → Returned t u → (rest : List ℕ) → LeavesOut code t.machine (places_from code q.behind) rest → (points : List Point)
      → ((left : List Tracked) → HoldsRest code u.machine.roots q rest qs left → HoldsPoints code u.machine.roots points left) → (place : ℕ) → q.place ≡ place
      → KeepsStanding code s.machine (machine u.machine.cells u.machine.x u.machine.y u.machine.returns u.machine.roots points (inside place))
  retaken t first second rest out points keep place ep ss h =
      let roots : List ℕ = u.machine.roots in
      let keeps : (left : List Tracked) → HoldsRest code roots q (places_from code q.behind) qs left → HoldsRest code roots q rest qs left =
      subst (λ rs. (left : List Tracked) → HoldsRest code rs q (places_from code q.behind) qs left → HoldsRest code rs q rest qs left) (sym second.stays.roots) (out.keeps q qs (first.points ∙ is))
      in
      let t = taken code roots qs q q.place (places_from code q.behind) points u.machine.x u.machine.y (λ n w a b. at.x w ∙ ap (λ (p : Point). held p.arguments w) same) (λ left r. keep left (keeps left r)) ss (left-of ss h) in
      subst (λ l. Holds code (machine u.machine.cells u.machine.x u.machine.y u.machine.returns roots points (inside l)) ss) ep
      (subst (λ cs. Holds code (machine cs u.machine.x u.machine.y u.machine.returns roots points (inside q.place)) ss) (sym (at.cells ∙ ap (λ (p : Point). p.cells) same))
      (subst (λ ws. Holds code (machine q.cells u.machine.x u.machine.y ws roots points (inside q.place)) ss) (sym (at.returns ∙ ap (λ (p : Point). p.returns) same)) t))

-- what the other clauses' places are called
pub named-anew : (code : Compiled) (roots : List ℕ) (q : Point) (qs : List Point) (place : ℕ) (behind : Option ℕ) (left : List Tracked)
    → HoldsRest code roots q (place ∷ places_from code behind) qs left → HoldsPoints code roots (record q { place = place; behind = behind } ∷ qs) left
named-anew code roots q qs place behind left h = renamed code roots qs q (record q { place = place; behind = behind }) refl refl refl refl (place ∷ places_from code behind) left h

-- ---- the machine behind a call

module _ (code : Compiled) (m : Machine) (number : ℕ) (due : m.now ≡ calling number) (predicate : Predicate) (found : Some predicate ≡ slice_get code.predicates number)
    (p : Program) (q : Predicate) (known : slice_get code.predicates number ≡ Some q) (good : IsProgram p) (stands : StandsFor code p) where
  abbrev calls : Machine
  calls = record m { now = calling number }

  same-predicate : predicate ≡ q
  same-predicate = let e : Some predicate ≡ Some q = found ∙ known in cc

  enters : (m' : Machine) → IsTurn code p calls m' → IsTurn code p m m'
  enters m' t = subst (λ n. IsTurn code p (record m { now = n }) m') (sym due) t

  -- the predicate's clauses that are left
  passes : (rest : List ℕ) → PassesOver code m.cells (held m.x) (clause_places code predicate) rest → PassesOver code m.cells (held m.x) (clause_places code q) rest
  passes rest over = subst (λ (r : Predicate). PassesOver code m.cells (held m.x) (clause_places code r) rest) same-predicate over

  -- a choice point for the call, where the arity is the other one
  called-same : (a : Alternative) → called_point number q.arity a m ≡ called_point number predicate.arity a m
  called-same a = ap (λ (r : Predicate). called_point number r.arity a m) (sym same-predicate)

  pub turns-to-none : PassesOver code m.cells (held m.x) (clause_places code predicate) [] → IsTurn code p m (record m { now = failed })
  turns-to-none over = enters (record m { now = failed }) (entered-none code m.cells m.x m.y m.returns m.roots m.points number q known p good stands (passes [] over))

  pub turns-to-one : (l : ℕ) (ls : List ℕ) → PassesOver code m.cells (held m.x) (clause_places code predicate) (l ∷ ls) → PassesOver code m.cells (held m.x) ls [] → IsTurn code p m (record m { now = inside l })
  turns-to-one l ls over none =
      enters (record m { now = inside l }) (entered-one code m.cells m.x m.y m.returns m.roots m.points number q known p good stands l ls (passes (l ∷ ls) over) none)

  pub turns-to-many : (a : Alternative) → PassesOver code m.cells (held m.x) (clause_places code predicate) (a.place ∷ places_from code a.behind)
      → IsTurn code p m (record m { points = called_point number predicate.arity a m ∷ m.points; now = failed })
  turns-to-many a over =
      subst (λ c. IsTurn code p m (record m { points = c ∷ m.points; now = failed })) (called-same a)
      (enters (record m { points = called_point number q.arity a m ∷ m.points; now = failed })
      (entered-many code m.cells m.x m.y m.returns m.roots m.points number q known p good stands a (passes (a.place ∷ places_from code a.behind) over)))

  pub turns-to-first : (l : ℕ) (ls : List ℕ) (a : Alternative) → PassesOver code m.cells (held m.x) (clause_places code predicate) (l ∷ ls) → PassesOver code m.cells (held m.x) ls (a.place ∷ places_from code a.behind)
      → IsTurn code p m (record m { points = called_point number predicate.arity a m ∷ m.points; now = inside l })
  turns-to-first l ls a over behind =
      subst (λ c. IsTurn code p m (record m { points = c ∷ m.points; now = inside l })) (called-same a)
      (enters (record m { points = called_point number q.arity a m ∷ m.points; now = inside l })
      (entered-first code m.cells m.x m.y m.returns m.roots m.points number q known p good stands l ls a (passes (l ∷ ls) over) behind))

module _ (code : Compiled) (s t u n r : Paused) (q : Point) (qs : List Point) (is : s.machine.points ≡ q ∷ qs) (due : s.machine.now ≡ failed) (first : Returned s t) (second : Returned t u)
    (behind : Option ℕ) (eb : q.behind ≡ behind) (place : ℕ) (ep : q.place ≡ place) (found : Option Alternative) (out : LeavesOut code t.machine (places_from code behind) (places_of code found))
    (en : (q : Point) (qs : List Point) → u.machine.points ≡ q ∷ qs → n ≡ record u { machine = record u.machine { points = points_left found q qs } })
    (er : r ≡ record n { machine = record n.machine { now = inside place } }) where
  back : Returned s u
  back = Returned-trans s t u first second

  left-out : LeavesOut code t.machine (places_from code q.behind) (places_of code found)
  left-out = subst (λ o. LeavesOut code t.machine (places_from code o) (places_of code found)) (sym eb) out

  abbrev whole : Paused
  whole = record u { machine = machine u.machine.cells u.machine.x u.machine.y u.machine.returns u.machine.roots (points_left found q qs) (inside place) }

  is-whole : r ≡ whole
  is-whole = er ∙ ap (λ (n : Paused). record n { machine = record n.machine { now = inside place } }) (en q qs (back.points ∙ is))

  keep : (roots : List ℕ) (found : Option Alternative) (left : List Tracked) → HoldsRest code roots q (places_of code found) qs left → HoldsPoints code roots (points_left found q qs) left
  keep roots None left h = rest-none code roots q qs left h
  keep roots (Some a) left h = named-anew code roots q qs a.place a.behind left h

  pub retried-holds : KeepsStanding code s.machine r.machine
  retried-holds =
      subst (λ (w : Paused). KeepsStanding code s.machine w.machine) (sym is-whole)
      (retaken code s u back due q qs is t first second (places_of code found) left-out (points_left found q qs) (keep u.machine.roots found) place ep)

  fewer : (found : Option Alternative) → length (places_of code found) ≤ length (places_from code q.behind)
      → 2 * length q.returns + 2 + moves_of_points code (points_left found q qs) < moves_of_points code (q ∷ qs)
  fewer None l = omega (arith, mul-le-mul_left (2 * length q.returns + 3) l)
  fewer (Some a) l = omega (arith, mul-le-mul_left (2 * length q.returns + 3) l)

  moves : moves_left code s.machine ≡ moves_of_points code (q ∷ qs)
  moves = let e : moves_left code s.machine ≡ 0 + moves_of_points code (q ∷ qs) = ap₂ (λ now ps. moves_to_end now (length s.machine.returns) + moves_of_points code ps) due is in omega arith

  pub retried-fewer : moves_left code r.machine < moves_left code s.machine
  unfolding back at
  retried-fewer =
      let n : ℕ = moves_of_points code (points_left found q qs) in
      let f : 2 * length q.returns + 2 + n < moves_left code s.machine = subst (λ m. 2 * length q.returns + 2 + n < m) (sym moves) (fewer found left-out.fewer) in
      let g : 2 * length u.machine.returns + 2 + n < moves_left code s.machine =
      subst (λ ws. 2 * length ws + 2 + n < moves_left code s.machine) (sym (back.at.returns ∙ ap (λ (p : Point). p.returns) (same code s u back due q qs is))) f
      in
      subst (λ (w : Paused). moves_left code w.machine < moves_left code s.machine) (sym is-whole) g

  pub retried-stays : Stays s r
  retried-stays =
      subst (Stays s) (sym is-whole)
      (record { x = back.stays.x; y = back.stays.y; roots = back.stays.roots; spent = back.stays.spent; budget = back.stays.budget; older = back.stays.older })

  -- the choice points behind the newest one are live, and that is if another clause of it is left
  pub retried-live : IfSome found (λ a. UnifiesAtNewest code t.machine a.place) → KeepsLive code s.machine r.machine
  retried-live unifies h =
      let others : AllByRecursion (IsLive code) qs =
      subst (λ ps. AllByRecursion (IsLive code) (kept_points failed ps)) is (subst (λ now. AllByRecursion (IsLive code) (kept_points now s.machine.points)) due h)
      in
      subst (λ (w : Paused). AreLive code w.machine) (sym is-whole) (points found unifies others)
    where
      points : (found : Option Alternative) → IfSome found (λ a. UnifiesAtNewest code t.machine a.place) → AllByRecursion (IsLive code) qs → AllByRecursion (IsLive code) (points_left found q qs)
      points None unifies others = others
      points (Some a) unifies others = (unifies q qs (first.points ∙ is), others)
