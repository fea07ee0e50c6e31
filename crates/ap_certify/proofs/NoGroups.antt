-- A search of a program without groups comes to no group.
use Rattle.std.proofs.Common.{ℕ, ◌+◌, ◌⊎◌, inl, inr, List, [], ◌∷◌, ◌++◌, map, Option, Some, None, subst, sym}
use Rattle.std.specs.List.{flat_map}
use Rattle.ap_term.specs.Tree.{Tree, Trees, none, more}
use Rattle.ap_term.specs.Substitution.{instance, Subst, value, shift}
use Rattle.ap_term.specs.Unification.{mgu}
use Rattle.ap_term.specs.Builtins.{builtin}
use Rattle.ap_term.specs.declared.faults.Fault.{Fault}
use Rattle.ap_term.specs.Faults.{fault_of}
use Rattle.ap_term.specs.Goals as goals
use Rattle.ap_term.specs.Goals.{Clause, Program}
use Rattle.ap_cge.specs.Stripped.{stripped_part, stripped}
use Rattle.ap_certify.specs.declared.certified.Scope.TheVariants.{Every}
use Rattle.ap_tracked.specs.Tracked.{Goal, call, fork, moved, renamed, placed, Tracked, child_if, clause_children, call_children, children_unless, children_by, opened, IsOneOf}
use Rattle.ap_tracked.specs.Forks.{Fork, ComesFirst, Forks, here, below, beside}
use Rattle.ap_certify.specs.Certificate.{AreMissingGiven}

abbrev pub AllCalls : List Goal → Type 0
AllCalls [] = Unit {0}
AllCalls (call t ∷ gs) = AllCalls gs
AllCalls (fork cs ts f now ∷ gs) = ⊥

abbrev pub CallParts : List goals.Part → Type 0
CallParts [] = Unit {0}
CallParts (goals.call t ∷ ps) = CallParts ps
CallParts (goals.group cs ts ∷ ps) = ⊥

abbrev pub NoGroups : Program → Type 0
NoGroups [] = Unit {0}
NoGroups (c ∷ cs) = CallParts c.body × NoGroups cs

both_calls : (gs hs : List Goal) → AllCalls gs → AllCalls hs → AllCalls (gs ++ hs)
both_calls [] hs a b = b
both_calls (call t ∷ gs) hs a b = both_calls gs hs a b
both_calls (fork cs ts f now ∷ gs) hs a b = absurd a

goals_before : (ts : Trees) (ps : List goals.Part) → CallParts ps → CallParts (goals.calls ts ++ ps)
goals_before none ps h = h
goals_before (more t ts) ps h = goals_before ts ps h

stripped_parts : (ps : List goals.Part) → CallParts (flat_map stripped_part ps)
stripped_parts [] = tt
stripped_parts (goals.call t ∷ ps) = stripped_parts ps
stripped_parts (goals.group cs ts ∷ ps) = goals_before ts (flat_map stripped_part ps) (stripped_parts ps)

pub stripped_none : (p : Program) → NoGroups (stripped p)
stripped_none [] = tt
stripped_none (c ∷ cs) = (stripped_parts c.body, stripped_none cs)

moved_calls : (u : ℕ → Tree) (gs : List Goal) → AllCalls gs → AllCalls (map (moved u) gs)
moved_calls u [] h = tt
moved_calls u (call t ∷ gs) h = moved_calls u gs h
moved_calls u (fork cs ts f now ∷ gs) h = absurd h

placed_calls : (f : ℕ → Tree) (ps : List goals.Part) → CallParts ps → AllCalls (map (placed f) ps)
placed_calls f [] h = tt
placed_calls f (goals.call t ∷ ps) h = placed_calls f ps h
placed_calls f (goals.group cs ts ∷ ps) h = absurd h

of_both : {A : Type 0} (x : A) (xs ys : List A) → IsOneOf x (xs ++ ys) → IsOneOf x xs ⊎ IsOneOf x ys
of_both x [] ys h = inr h
of_both x (y ∷ xs) ys (inl e) = inl (inl e)
of_both x (y ∷ xs) ys (inr h) = elim (of_both x xs ys h) [ inl k ↦ inl (inr k) | inr k ↦ inr k ]

child_calls : (s t : Tracked) (rest : List Goal) (o : Option Subst) (body : List Goal) (takes : ℕ) → AllCalls body → AllCalls rest → IsOneOf t (child_if s rest o body takes) → AllCalls t.goals
child_calls s t rest None body takes a b i = absurd i
child_calls s t rest (Some m) body takes a b (inl e) =
    let P : Tracked → Type 0 = λ x. AllCalls x.goals in subst P (sym e) (moved_calls (value m) (body ++ rest) (both_calls body rest a b))
child_calls s t rest (Some m) body takes a b (inr i) = absurd i

by_clauses : (p : Program) (s t : Tracked) (g : Tree) (rest : List Goal) → NoGroups p → AllCalls rest → IsOneOf t (flat_map (clause_children s g rest) p) → AllCalls t.goals
by_clauses [] s t g rest h b i = absurd i
by_clauses (c ∷ cs) s t g rest h b i =
    elim (of_both t (clause_children s g rest c) (flat_map (clause_children s g rest) cs) i) [
      | inl k ↦ child_calls s t rest (mgu g (instance (shift s.next) c.head)) (map (placed (renamed c.vars s.next)) c.body) (c.vars + 1) (placed_calls (renamed c.vars s.next) c.body h.0) b k
      | inr k ↦ by_clauses cs s t g rest h.1 b k
    ]

by_call : (p : Program) (s t : Tracked) (g : Tree) (rest : List Goal) (o : Option (Option Subst)) → NoGroups p → AllCalls rest → IsOneOf t (call_children p s g rest o) → AllCalls t.goals
by_call p s t g rest None h b i = by_clauses p s t g rest h b i
by_call p s t g rest (Some answer) h b i = child_calls s t rest answer [] 0 tt b i

fault_calls : (e : Option Fault) (s t : Tracked) (ss : List Tracked) → (IsOneOf t ss → AllCalls t.goals) → IsOneOf t (children_unless e s ss) → AllCalls t.goals
fault_calls None s t ss a i = a i
fault_calls (Some e) s t ss a (inl q) = let P : Tracked → Type 0 = λ x. AllCalls x.goals in subst P (sym q) tt
fault_calls (Some e) s t ss a (inr i) = absurd i

below_calls : (p : Program) (s t : Tracked) (gs : List Goal) → NoGroups p → AllCalls gs → IsOneOf t (children_by p s (opened gs)) → AllCalls t.goals
below_calls p s t [] h a i = absurd i
below_calls p s t (call g ∷ rest) h a i = fault_calls (fault_of g) s t (call_children p s g rest (builtin g)) (by_call p s t g rest (builtin g) h a) i
below_calls p s t (fork cs ts f now ∷ rest) h a i = absurd a

not_first : (f : Fork) (gs : List Goal) → AllCalls gs → ComesFirst f gs → ⊥
not_first f [] a h = h
not_first f (call t ∷ gs) a h = h
not_first f (fork cs ts own now ∷ gs) a h = a

no_fork : (p : Program) → NoGroups p → {s : Tracked} {d : ℕ} {f : Fork} → Forks p s d f → AllCalls s.goals → ⊥
no_fork p h (here {s = s} {f = f} l first) a = not_first f s.goals a first
no_fork p h (below {s = s} t l i k) a = no_fork p h k (below_calls p s t s.goals h a i)
no_fork p h (beside e g n k i u m) a = no_fork p h k a

pub plain_given : (p : Program) → AreMissingGiven (stripped p) Every
plain_given p goal w n u d f k = absurd (no_fork (stripped p) (stripped_none p) k tt)
