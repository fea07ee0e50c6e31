-- Searches that go on beside others, and what a goal's own comes to.
use Rattle.std.proofs.Common.{◌≡◌, ℕ, Bool, List, [], ◌∷◌, ◌++◌, Option, Some, None, option_and_then, refl, ap, sym, ◌∙◌, subst}
use Rattle.std.proofs.lemmas.Option.{none-some, same_Some}
use Rattle.std.specs.List.{AllZip}
use Rattle.ap_term.specs.Tree.{Tree, Trees}
use Rattle.ap_term.specs.Search.{State}
use Rattle.ap_term.specs.UpToNames.{SameUpToNames}
use Rattle.ap_core.specs.Tasks.{Task}
use Rattle.ap_core.specs.Relation.{Rules}
use Rattle.ap_core.specs.Reached.{Happening, beginning}
use Rattle.ap_core.specs.Lifting.{at_end}
use Rattle.ap_tracked.specs.Tracked.{Tracked}
use Rattle.ap_tracked.specs.Forks.{alone}
use Rattle.ap_instr.specs.Code.{Compiled}
use Rattle.ap_standing.specs.Machine.{Machine}
use Rattle.ap_standing.specs.Holds.{Holds}
use Rattle.ap_tie.specs.Sections.{Section, section, bottom}
use Rattle.ap_tied.specs.Happened.{happened}
use Rattle.ap_tied.specs.Reaching.{BeginningLaw, whole}
use Rattle.ap_tied.specs.Settling.{SettlingLaw, RestingLaw}
use Rattle.ap_tied.specs.Ties.{IsSearched}
use Rattle.ap_open.specs.Opened.{IsSolving, spent_in}
use Rattle.ap_open.specs.Calling.{IsAnswering, HasMore, IsDone, IsSpent}
use Rattle.ap_open.specs.Away.{Away, Level, OpenBeside, Carries, IsSearch, IsSolvingBeside, found, failed_at, spent_all, stopped_at, FitsAs}
use Rattle.ap_open.specs.Sharing.{OutcomeLaw}
use Rattle.ap_open.proofs.Opening.{core_after, after_more}
use Rattle.ap_open.proofs.Resting.{spent_tied, ended, spent}

pub happened_more : (p : Rules) (es fs : List Happening) (t u : Task) → happened p es t ≡ Some u → happened p (es ++ fs) t ≡ happened p fs u
happened_more p [] fs t u h = ap (happened p fs) (same_Some _ _ h)
happened_more p (e ∷ es) fs t u h = go (at_end p e.0 e.1 t) h (happened_more p es fs)
  where
    go : (o : Option Task) → option_and_then (happened p es) o ≡ Some u → ((t u : Task) → happened p es t ≡ Some u → happened p (es ++ fs) t ≡ happened p fs u) → option_and_then (happened p (es ++ fs)) o ≡ happened p fs u
    go None h rec = absurd (none-some _ h)
    go (Some x) h rec = rec x u h

searches : (code : Compiled) (p : Rules) (o : Tracked) (rest : ℕ) (levels levels' : List Level) (s s' : Section) (aways aways' : List Away) → Carries code levels s aways levels' s' aways'
    → IsSearch code p o rest levels s aways → IsSearch code p o rest levels' s' aways'
searches code p o rest levels levels' s s' aways aways' f h =
    let a = f p o h.task h.opened in
    record { events = h.events ++ a.0; task = a.1; led = happened_more p h.events a.0 (whole rest o) h.task h.led ∙ a.2; opened = a.3 }

solves : (code : Compiled) (p : Rules) (o : Tracked) (q : State) (rest : ℕ) (levels levels' : List Level) (s s' : Section) (aways aways' : List Away) (given : List Trees)
    → Carries code levels s aways levels' s' aways' → IsSolvingBeside code p o q rest levels s aways given → IsSolvingBeside code p o q rest levels' s' aways' given
solves code p o q rest levels levels' s s' aways aways' given f h =
    let (es, u, event, opened) = f p o h.core.root h.opened in
    let b = core_after p es h.core u h.rules h.going event in record {
      events = h.events ++ es;
      core = b.0;
      led = after_more h.events es (beginning p q rest) h.core h.led ∙ b.1;
      rules = b.2.rules;
      going = b.2.going;
      opened = subst (λ t. OpenBeside code p o levels' s' aways' t) (sym b.2.root) opened;
      emitted = subst (AllZip SameUpToNames given) (sym b.2.emitted) h.emitted;
    }

alone_is : (code : Compiled) (p : Rules) (o : Tracked) (q : State) (rest : ℕ) (s : Section) (given : List Trees) → IsSolvingBeside code p o q rest [] s [] given → IsSolving code p o q rest [] s given
alone_is code p o q rest s given h = record { events = h.events; core = h.core; led = h.led; rules = h.rules; going = h.going; opened = (h.opened.0, h.opened.1); emitted = h.emitted }

beside_is : (code : Compiled) (p : Rules) (o : Tracked) (q : State) (rest : ℕ) (s : Section) (given : List Trees) → IsSolving code p o q rest [] s given → IsSolvingBeside code p o q rest [] s [] given
beside_is code p o q rest s given h = record { events = h.events; core = h.core; led = h.led; rules = h.rules; going = h.going; opened = (h.opened.0, h.opened.1, tt); emitted = h.emitted }

module _ (beginning_is : BeginningLaw) (resting : RestingLaw) (settling : SettlingLaw) where
  begun : (code : Compiled) (p : Rules) (g : Tree) (n : ℕ) (m : Machine) (rest : ℕ) → IsSearched code p (alone g n) → Holds code m (alone g n ∷ []) → IsSearch code p (alone g n) rest [] (section m 0 rest bottom) []
  begun code p g n m rest searched holds = record {
    events = [];
    task = whole rest (alone g n);
    led = refl;
    opened = (searched, beginning_is.tied code p (alone g n) m rest searched (tt, tt) holds, tt);
  }

  module _ (code : Compiled) (p : Rules) (g : Tree) (n rest : ℕ) (s : Section) where
    answers : (more : Bool) → IsSearch code p (alone g n) rest [] s [] → IsAnswering s → HasMore code s more → FitsAs code rest p g n (found s (spent_in s) more)
    answers more h is has = (h.task, (h.events, h.led), h.opened.1, is, has, refl)

    fails : IsSearch code p (alone g n) rest [] s [] → IsDone s → FitsAs code rest p g n (failed_at (spent_in s))
    fails h done = (h.task, (h.events, h.led), ended resting code p (alone g n) s h.task done h.opened.1, sym (spent_tied code p (alone g n) s h.task h.opened.1))

    spends : IsSearch code p (alone g n) rest [] s [] → IsSpent code s → FitsAs code rest p g n spent_all
    spends h is = (h.task, (h.events, h.led), spent resting settling code p (alone g n) s h.task is h.opened.1)

    stops : (aways : List Away) → IsSearch code p (alone g n) rest [] s aways → FitsAs code rest p g n (stopped_at (spent_in s))
    stops aways h = (h.task, (h.events, h.led), sym (spent_tied code p (alone g n) s h.task h.opened.1))

    stops_within : (a : Level) (levels : List Level) (aways : List Away) → IsSearch code p (alone g n) rest (a ∷ levels) s aways → FitsAs code rest p g n (stopped_at (spent_in a.section))
    stops_within a levels aways h = (h.task, (h.events, h.led), sym (spent_tied code p (alone g n) a.section h.task h.opened.1))

  pub outcomes : OutcomeLaw
  outcomes = record {
    searches = searches;
    solves = solves;
    alone_is = alone_is;
    beside_is = beside_is;
    begun = begun;
    answers = answers;
    fails = fails;
    spends = spends;
    stops = stops;
    stops_within = λ code p g n rest a levels s aways h. stops_within code p g n rest s a levels aways h;
  }
