-- Where a query's search begins, and what its answers do.
use Rattle.std.proofs.Common.{ℕ, List, [], ◌∷◌, ◌++◌, refl, ap, ◌∙◌, subst}
use Rattle.ap_term.specs.Tree.{Trees}
use Rattle.ap_term.specs.Goals.{Query}
use Rattle.ap_term.specs.Search.{State, start}
use Rattle.ap_term.specs.UpToNames.{SameUpToNames}
use Rattle.ap_term.specs.WellFormed.{IsQuery}
use Rattle.ap_term.proofs.Zips.{AllZip-push}
use Rattle.ap_core.specs.declared.events.Kind.TheVariants as kinds
use Rattle.ap_core.specs.Tasks.{task, exhausted, alternative, state}
use Rattle.ap_core.specs.Relation.{Rules, emitting, while_going, at_root, mapped}
use Rattle.ap_core.specs.Reached.{beginning, after_all, and_then}
use Rattle.ap_tracked.specs.Tracked.{Tracked}
use Rattle.ap_graft.specs.Laws.{StartLaw}
use Rattle.ap_graft.specs.Starts.{tracked_start}
use Rattle.ap_instr.specs.Code.{Compiled}
use Rattle.ap_standing.specs.Machine.{Machine}
use Rattle.ap_standing.specs.Holds.{Holds}
use Rattle.ap_tie.specs.Sections.{Section, section, bottom}
use Rattle.ap_tied.specs.Reaching.{BeginningLaw}
use Rattle.ap_tied.specs.Settling.{IsAnswerIn, RestingLaw}
use Rattle.ap_tied.specs.Ties.{IsSearched, IsTied}
use Rattle.ap_open.specs.Opened.{IsSolving}
use Rattle.ap_open.specs.Calling.{IsAnswering}
use Rattle.ap_open.specs.Solving.{past_answer, SolvingLaw}
use Rattle.ap_open.proofs.Opening.{after_more}

module _ (beginning_is : BeginningLaw) (starting : StartLaw) (resting : RestingLaw) where
  begun : (code : Compiled) (p : Rules) (q : Query) (m : Machine) (rest : ℕ) → IsQuery q → IsSearched code p (tracked_start q) → Holds code m (tracked_start q ∷ [])
      → IsSolving code p (tracked_start q) (start q) rest [] (section m 0 rest bottom) []
  begun code p q m rest is searched holds = record {
    events = [];
    core = beginning p (start q) rest;
    led = refl;
    rules = refl;
    going = refl;
    opened = (
      searched,
      subst (λ s. IsTied code p (tracked_start q) (section m 0 rest bottom) (task rest 0 (alternative (state s) exhausted))) (starting.start q is)
          (beginning_is.tied code p (tracked_start q) m rest searched (starting.kept p.program q).means holds),
    );
    emitted = tt;
  }

  emits : (code : Compiled) (p : Rules) (o : Tracked) (q : State) (rest : ℕ) (s : Section) (given : List Trees) (tuple : Trees) → IsAnswering s → IsAnswerIn s tuple
      → IsSolving code p o q rest [] s given → IsSolving code p o q rest [] (past_answer s) (given ++ tuple ∷ [])
  emits code p o q rest (section m c b st) given tuple is names h =
      let (y, v, is_answer, same, left, none, frames, states) = resting.answered code p o m c b st h.core.root h.opened.0 h.opened.1 is.at in record {
        events = h.events ++ (kinds.Answer, []) ∷ [];
        core = emitting h.core (y, v);
        led = after_more h.events ((kinds.Answer, []) ∷ []) (beginning p q rest) h.core h.led
            ∙ ap (λ g. and_then (while_going g (at_root kinds.Answer h.core)) (after_all [])) h.going ∙ ap (λ o. and_then (mapped (emitting h.core) o) (after_all [])) is_answer;
        rules = h.rules;
        going = h.going;
        opened = (h.opened.0, left);
        emitted = AllZip-push SameUpToNames given h.core.emitted tuple y.tuple h.emitted (same tuple names);
      }

  pub solving : SolvingLaw
  solving = record { begun = begun; emits = emits }
