-- What ties say of sections that have spent, and that are done.
use Rattle.std.proofs.Common.{◌≡◌, inl, inr, true, ap, subst}
use Rattle.ap_core.specs.Tasks.{Task}
use Rattle.ap_core.specs.Conditions.{is_exhausted, spent_by}
use Rattle.ap_core.specs.Relation.{Rules, has_spent}
use Rattle.ap_tracked.specs.Tracked.{Tracked}
use Rattle.ap_instr.specs.Code.{Compiled}
use Rattle.ap_tie.specs.Sections.{Section, section, bottom, parcall}
use Rattle.ap_tied.specs.Settling.{SettlingLaw, RestingLaw}
use Rattle.ap_tied.specs.Ties.{IsTied}
use Rattle.ap_open.specs.Opened.{spent_in}
use Rattle.ap_open.specs.Calling.{IsDone, IsSpent}

pub spent_tied : (code : Compiled) (p : Rules) (o : Tracked) (s : Section) (t : Task) → IsTied code p o s t → spent_by t ≡ spent_in s
spent_tied code p o (section m c b st) t h = let (ss, xs, l, h0, h1, h2, is) = h.holds in ap spent_by is

pub ended : RestingLaw → (code : Compiled) (p : Rules) (o : Tracked) (s : Section) (t : Task) → IsDone s → IsTied code p o s t → is_exhausted t ≡ true
ended resting code p o (section m c b st) t done h = resting.ended code p o m c b t (subst (λ k. IsTied code p o (section m c b k) t) done.stack h) done.now done.points

pub spent : RestingLaw → SettlingLaw → (code : Compiled) (p : Rules) (o : Tracked) (s : Section) (t : Task) → IsSpent code s → IsTied code p o s t → has_spent p.loud t ≡ true
spent resting settling code p o (section m c b st) t (inl k) h = resting.spent code p o m c b st t h k.0 k.1
spent resting settling code p o (section m c b bottom) t (inr k) h = absurd k
spent resting settling code p o (section m c b (parcall f q rd w qs st)) t (inr k) h = settling.spends code p o m c b f q rd w qs st t h k.0 k.1
