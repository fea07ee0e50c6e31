-- The posts of new seats.
use Rattle.std.proofs.Common.{◌≡◌, ◌≢◌, ℕ, ◌/◌, Bool, List, [], ◌∷◌, ◌++◌, map, length, All, Option, None, sym, ap, ◌∙◌, subst, arith, length-append}
use Rattle.std.proofs.lemmas.List.Elements.{All-push}
use Rattle.std.proofs.lemmas.Option.{none-some}
use mathlib.Core.Logic.{dite}
use native.Mathlib.Decide.{ℕ_discrete}
use Rattle.ap_board.specs.declared.ticket.Ticket.{Ticket}
use Rattle.ap_board.specs.declared.view.View.{View}
use Rattle.ap_board.specs.History.{has}
use Rattle.ap_board.specs.Rule.{role}
use Rattle.ap_board.specs.Seats.{IsNewSeat}
use Rattle.ap_desk.specs.declared.note.Note.{Note}
use Rattle.ap_desk.specs.Offered.{goal_of, taken_of}
use Rattle.ap_post.specs.declared.job.Job.{Job}
use Rattle.ap_post.specs.declared.outcome.Outcome.{Outcome}
use Rattle.ap_post.specs.declared.post.Post.{Post}
use Rattle.ap_post.specs.Posted.{posted}
use Rattle.ap_post.specs.Posts.{IsNew}
use Rattle.ap_post.proofs.Noted.{V}

-- a seat of this table that nothing was done with
abbrev pub IsSat : {Z : Type 0} → Z → Z × View Job Outcome → Type 0
IsSat z s = (s.0 ≡ z) × (pads : ℕ) × IsNewSeat pads s.1.number s.1

pub no_goal : (pads n : ℕ) (v : V) → IsNewSeat pads n v → (p r : ℕ) (x : Job) (b : Bool) → role v p ≡ has r x b → ⊥
no_goal pads n v new p r x b e = dite (ℕ_discrete (p / pads) n)
    (λ (is : p / pads ≡ n). none-some x (sym (ap (taken_of {P = Job}) (new.own p is)) ∙ ap (taken_of {P = Job}) e))
    (λ (ne : p / pads ≢ n). none-some x (sym (ap (taken_of {P = Job}) (new.foreign p ne)) ∙ ap (taken_of {P = Job}) e))

pub none_posted : {Z : Type 0} (d : Z × V × List Ticket × Option ℕ × List Note) (z : Z) (v : V) → d ≡ (z, v, [], None, []) → (f : ℕ) → length (posted d.1 d.4 f) ≡ 0
none_posted {Z} d z v e f = ap (λ (x : Z × V × List Ticket × Option ℕ × List Note). length (posted x.1 x.4 f)) e

pub new_post : (p : Post) → p.desk.2 ≡ [] → p.desk.3 ≡ None → p.desk.4 ≡ [] → IsNew p
new_post p t a n = record { jobs = ap (map (goal_of p.desk.1)) t; asked = a; none = λ f. ap (λ (x : List Note). posted p.desk.1 x f) n }

-- one post more
pub one_more_new : (ps qs : List Post) (p : Post) → qs ≡ ps ++ p ∷ [] → All IsNew ps → IsNew p → All IsNew qs
one_more_new ps qs p e all new = subst (All IsNew) (sym e) (All-push IsNew ps p all new)

pub one_more_counted : {Y : Type 0} (ps qs : List Post) (p : Post) (ys : List Y) (y : Y) → qs ≡ ps ++ p ∷ [] → length ps ≡ length ys → length qs ≡ length (ys ++ y ∷ [])
one_more_counted ps qs p ys y e n = let l = ap length e in let a = length-append ps (p ∷ []) in let b = length-append ys (y ∷ []) in omega (arith, l, a, b, n)
