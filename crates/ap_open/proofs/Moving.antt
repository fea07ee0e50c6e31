-- Moves of the innermost section.
use Rattle.std.proofs.Common.{ℕ, List, [], ◌∷◌, sym, subst, ◌≡◌, Some}
use Rattle.ap_core.specs.declared.events.Kind.TheVariants as kinds
use Rattle.ap_core.specs.Tasks.{Task}
use Rattle.ap_core.specs.Relation.{Rules}
use Rattle.ap_core.specs.Lifting.{at_end}
use Rattle.ap_tracked.specs.Tracked.{Tracked}
use Rattle.ap_instr.specs.Code.{Compiled}
use Rattle.ap_tie.specs.Sections.{Section, section, bottom, parcall}
use Rattle.ap_tied.specs.SlotCalls.{readied_behind, SlotCallsLaw}
use Rattle.ap_tied.specs.Ties.{IsSearched, IsTied, Goes}
use Rattle.ap_open.specs.Opened.{Outer, Keeps}
use Rattle.ap_open.specs.Moving.{HasAnsweredAgain, restarted, MovingLaw}
use Rattle.ap_open.proofs.Opening.{Leads, leads_open, leads_by, goes_on_by}

-- tied to a task of a safe search
abbrev pub IsAt : Compiled → Rules → Section → Tracked → Task → Type 0
IsAt code p s n z = IsSearched code p n × IsTied code p n s z

pub keeps_by : (code : Compiled) (outer : List Outer) (s s' : Section) → ((p : Rules) → Leads p (IsAt code p s) (IsAt code p s')) → Keeps code outer s outer s'
keeps_by code outer s s' f p o q rest given h = goes_on_by code p o q rest outer outer s s' given (λ t k. leads_open code p (IsAt code p s) (IsAt code p s') outer (f p) o t k) h

moves : (code : Compiled) (outer : List Outer) (s s' : Section) → Goes code s s' → Keeps code outer s outer s'
moves code outer s s' g = keeps_by code outer s s' (λ p n z h. let a = g p n z h.0 h.1 in (a.0, a.1, a.2, (h.0, a.3)))

module _ (law : SlotCallsLaw) where
  pub restart_one : (code : Compiled) (p : Rules) (o : Tracked) (t : Task) (s : Section) (i : ℕ) → HasAnsweredAgain i s → IsAt code p s o t
      → (u : Task) × (at_end p kinds.Restart [] t ≡ Some u) × IsAt code p (restarted i s) o u
  restart_one code p o t (section m c b bottom) i has h = absurd has
  restart_one code p o t (section m c b (parcall f q rd w qs st)) i (is, above, x, row, has) h =
      let a = law.restarts code p o m c b f q i w qs st t x (subst (λ r. IsTied code p o (section m c b (parcall f q r w qs st)) t) is h.1) above row has in
      (a.0, a.1, (h.0, subst (λ r. IsTied code p o (section m c b (parcall f q r (readied_behind i w) qs st)) a.0) (sym is) a.2))

  restarts : (code : Compiled) (outer : List Outer) (s : Section) (i : ℕ) → HasAnsweredAgain i s → Keeps code outer s outer (restarted i s)
  restarts code outer s i has =
      keeps_by code outer s (restarted i s) (λ p n z h. let a = restart_one code p n z s i has h in ((kinds.Restart, []) ∷ [], a.0, leads_by p kinds.Restart [] z a.0 a.1, a.2))

  pub moving : MovingLaw
  moving = record {
    stays = λ code outer s p o q rest given h. h;
    goes_on = λ code o o' o'' s s' s'' f g p n q rest given h. g p n q rest given (f p n q rest given h);
    moves = moves;
    restarts = restarts;
  }
