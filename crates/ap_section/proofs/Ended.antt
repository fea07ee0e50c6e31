-- Why a section comes back, by why its search does.
use Rattle.std.proofs.Common.{◌≡◌, ℕ, List, [], ◌∷◌, sym, subst, IfOk, Ok, Err}
use Rattle.std.specs.Prelude.{Result}
use Rattle.ap_tracked.specs.Tracked.{Tracked}
use Rattle.ap_instr.specs.Code.{Compiled}
use Rattle.ap_standing.specs.Machine.{Machine}
use Rattle.ap_standing.specs.Holds.{Holds}
use Rattle.ap_machine.specs.View.{Paused}
use Rattle.ap_machine.specs.Stands.{HasGoals}
use Rattle.ap_machine.specs.Ends as search
use Rattle.ap_machine.specs.Ends.{AreStates}
use Rattle.ap_machine.specs.declared.advance.Turn.{Turn as SearchTurn}
use Rattle.ap_machine.specs.declared.advance.Turn.TheVariants as searching
use Rattle.ap_tie.specs.Sections as seen
use Rattle.ap_tie.specs.Sections.{section, Stack}
use Rattle.ap_tie.specs.Settled.{AreClosed}
use Rattle.ap_tied.specs.Settling as tied
use Rattle.ap_tied.specs.Ties.{stack_in}
use Rattle.ap_section.specs.declared.advance.Turn.TheVariants.{Answer}
use Rattle.ap_section.specs.Ends.{IsCallNext, Ends}
use Rattle.ap_section.specs.Moving.{IsEndedBy}

goals-same : (ss : List Tracked) → HasGoals ss → tied.HasGoals ss
goals-same [] h = h
goals-same (s ∷ ss) h = h

call-next : (code : Compiled) (m : Machine) → ((ss : List Tracked) → Holds code m ss → HasGoals ss) → IsCallNext code m
call-next code m h = λ ss holds. goals-same ss (h ss holds)

pub search-ends : (code : Compiled) (left : ℕ) (q p : Paused) (su st : Stack) (turn : SearchTurn) → search.Ends code left q p turn → ((ss : List Tracked) → Holds code p.machine ss → AreStates p.machine ss turn)
    → IsEndedBy code left (section q.machine q.spent q.budget su) (section p.machine p.spent p.budget st) turn
search-ends code left q p su st searching.Answer h k = h
search-ends code left q p su st searching.Failed h k = h
search-ends code left q p su st searching.Spent h k = (call-next code p.machine k, h.1)
search-ends code left q p su st searching.More h k = (call-next code p.machine k, h.1, h.2)
search-ends code left q p su st searching.Stopped h k = tt
search-ends code left q p su st searching.Group h k = h

pub answer-ends : (code : Compiled) (left : ℕ) (u v : seen.Section) → AreClosed (stack_in v) → IsEndedBy code left u v searching.Answer → Ends code left u v Answer
answer-ends code left u (section m c b st) h k = (k, h)

pub both-ok : {A E : Type 0} (r : Result A E) (P Q R : A → Type 0) → ((x : A) → P x → Q x → R x) → IfOk r P → IfOk r Q → IfOk r R
both-ok (Ok x) P Q R f h k = f x h k
both-ok (Err e) P Q R f h k = h

pub ended-same : (code : Compiled) (left : ℕ) (u v u' v' : seen.Section) (turn : SearchTurn) → u' ≡ u → v' ≡ v → IsEndedBy code left u v turn → IsEndedBy code left u' v' turn
ended-same code left u v u' v' turn e f h = subst (λ w. IsEndedBy code left w v' turn) (sym e) (subst (λ w. IsEndedBy code left u w turn) (sym f) h)

pub one-ok : {A E : Type 0} (r : Result A E) (P R : A → Type 0) → ((x : A) → P x → R x) → IfOk r P → IfOk r R
one-ok (Ok x) P R f h = f x h
one-ok (Err e) P R f h = h
