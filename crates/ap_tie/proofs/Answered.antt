-- What an answer leaves of a slot.
use Rattle.std.proofs.Common.{◌≡◌, ℕ, ◌-◌, ◌⊎◌, inl, inr, Bool, true, if◌then◌else◌, List, [], ◌∷◌, ◌++◌, Some, None, ap, sym, ◌∙◌, subst}
use Rattle.std.specs.Prelude.{not, length}
use Rattle.std.proofs.lemmas.Bool.{false≢true}
use Rattle.std.proofs.lemmas.Option.{none-some, same_Some}
use Rattle.ap_term.specs.Tree.{Tree, none, more}
use Rattle.ap_laws.specs.Graft.{IsOf}
use Rattle.ap_core.specs.Tasks.{Answer, Task, Progress, idle, stored, busy, held, redone, again, drained}
use Rattle.ap_core.specs.Conditions.{is_running, is_exhausted, spent_by, has_answer, has_more}
use Rattle.ap_core.specs.Relation.{Rules, Recorded, recorded, answer_slot, answer, plain_answer, mapped, cost_of}
use Rattle.ap_core.specs.Lifting.{running_of}
use Rattle.ap_core.proofs.Options.{Some-if}
use Rattle.ap_frames.specs.declared.slots.Answer.{Answer as Noted}
use Rattle.ap_frames.specs.Slots.{tuples_of}
use Rattle.ap_parcall_laws.specs.Alike.{StandsAs, HasAnswer, AreAlike}
use Rattle.ap_instr.specs.Code.{Compiled}
use Rattle.ap_tie.specs.Sections as views
use Rattle.ap_tie.specs.Sections.{no_slot, slot, Held, nothing, rows}
use Rattle.ap_tie.specs.Tied.{AnswersFrom, HoldsSource}
use Rattle.ap_tie.specs.Answered.{IsSource, AnswerSlotLaw, AlikeLaw}

-- the answer that comes first is the slot's
abbrev Found : Answer → Task → Progress → Type 0
Found a t y = (m : List Answer) × (c : ℕ) × ((y ≡ held m a t c) ⊎ (y ≡ again m a t c))

made : (k : Bool) (x : Progress) (y : Recorded) (v : Progress) → recorded k (answer_slot x) ≡ Some y → answer_slot x ≡ Some v → y.1 ≡ v
made k x y v n e = ap (λ (z : Recorded). z.1) (same_Some _ _ (sym n ∙ ap (recorded k) e))

found : (k : Bool) (x : Progress) (y : Recorded) (z t : Task) (a : Answer) → running_of x ≡ Some z → answer z ≡ Some (a, t) → recorded k (answer_slot x) ≡ Some y → has_answer y.1 ≡ true → Found a t y.1
found k (idle i) y z t a h e n d = absurd (none-some _ h)
found k (stored m) y z t a h e n d = absurd (none-some _ h)
found k (busy s u) y z t a h e n d =
    let o = Some-if (is_running s) (Some u) z h in
    let f : answer_slot (busy s u) ≡ Some (held [] a t (spent_by t)) =
    ap (λ j. if j then mapped (λ (v : Answer × Task). held [] v.0 v.1 (spent_by v.1)) (answer u) else None) o.0 ∙ ap (mapped (λ (v : Answer × Task). held [] v.0 v.1 (spent_by v.1))) (ap answer (same_Some _ _ o.1) ∙ e) in
    ([], spent_by t, inl (made k (busy s u) y (held [] a t (spent_by t)) n f))
found k (held m w u c) y z t a h e n d = absurd (none-some _ h)
found k (redone m s u i) y z t a h e n d =
    let o = Some-if (is_running s) (Some u) z h in
    let f : answer_slot (redone m s u i) ≡ Some (again m a t (spent_by t - i)) =
    ap (λ j. if j then mapped (λ (v : Answer × Task). again m v.0 v.1 (spent_by v.1 - i)) (answer u) else None) o.0 ∙ ap (mapped (λ (v : Answer × Task). again m v.0 v.1 (spent_by v.1 - i))) (ap answer (same_Some _ _ o.1) ∙ e) in
    (m, spent_by t - i, inr (made k (redone m s u i) y (again m a t (spent_by t - i)) n f))
found k (again m w u c) y z t a h e n d = absurd (none-some _ h)
found k (drained m s u i c) y z t a h e n d =
    let o = Some-if (is_running s) (Some u) z h in
    let f : answer_slot (drained m s u i c) ≡ Some (drained (m ++ a ∷ []) s t i c) =
    ap (λ j. if j then mapped (λ (v : Answer × Task). drained (m ++ v.0 ∷ []) s v.1 i c) (answer u) else None) o.0 ∙ ap (mapped (λ (v : Answer × Task). drained (m ++ v.0 ∷ []) s v.1 i c)) (ap answer (same_Some _ _ o.1) ∙ e) in
    absurd (false≢true (sym (ap has_answer (made k (drained m s u i c) y (drained (m ++ a ∷ []) s t i c) n f)) ∙ d))

-- whatever holds the alternatives, a section or what else: it stands for z
pub answers_from : (Source : Task → Type 0) (b : ℕ) (g : Tree) (y : Progress) (z t : Task) (a : Answer) → Source z → answer z ≡ Some (a, t) → IsOf g b (plain_answer a) → Found a t y → AnswersFrom Source b g y
answers_from Source b g y z t a s e i (m, c, o) = (m, a, t, z, c, s, e, i, o)

with_cost : (t : Task) (a : Answer) (y : Progress) (n : Noted (Unit {0})) → n.cost ≡ cost_of y → n.has_more ≡ has_more y → Found a t y → HasAnswer t n.cost y × (not (is_exhausted t) ≡ n.has_more)
with_cost t a y n h k (m, c, inl e) = ((m, a, inl (e ∙ ap (held m a t) (sym (h ∙ ap cost_of e)))), sym (k ∙ ap has_more e))
with_cost t a y n h k (m, c, inr e) = ((m, a, inr (e ∙ ap (again m a t) (sym (h ∙ ap cost_of e)))), sym (k ∙ ap has_more e))

sourced : (code : Compiled) (p : Rules) (b : ℕ) (g : Tree) (y : Progress) (z t : Task) (a : Answer) (h : Held) → IsSource code p b g h z → answer z ≡ Some (a, t) → IsOf g b (plain_answer a) → Found a t y → HoldsSource code p b g h y
sourced code p b g y z t a nothing s e i f = tt
sourced code p b g y z t a (views.held c) s e i f = (s.0, answers_from (_) b g y z t a s.1 e i f)

pub answer_slots : AnswerSlotLaw
answer_slots code p r b g x y z t a e h n running comes event has source is_of loud stand cost is_more =
    let f = found x.0 x.1 y z t a running comes event has in
    let w = with_cost t a y.1 n cost is_more f in
    (loud, subst (λ s. StandsAs r s (length (tuples_of e)) y.1) (sym stand) (t, w.0, w.1), sourced code p b g y.1 z t a h source comes is_of f)

pub alike : AlikeLaw
alike code p r b none no_slot v h = subst (AreAlike p.loud r (rows no_slot)) (sym h) tt
alike code p r b none (slot x j w) v h = absurd h
alike code p r b (more g gs) no_slot v h = absurd h
alike code p r b (more g gs) (slot x j w) v (k, y, u, l, rest, z) = subst (AreAlike p.loud r (rows (slot x j w))) (sym z) (l.0, l.1, alike code p r b gs w u rest)
