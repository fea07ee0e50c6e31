-- What the search of a goal by these sections comes to.
use Rattle.std.proofs.Common.{◌≡◌, ℕ, ◌≤◌, Bool, true, false, List, [], ◌∷◌, refl, ap, sym, ◌∙◌, subst, arith, rules}
use Rattle.ap_term.specs.Tree.{Tree}
use Rattle.ap_ledger.specs.Counts.{capped}
use Rattle.ap_core.specs.Tasks.{Task}
use Rattle.ap_core.specs.Relation.{Rules}
use Rattle.ap_tracked.specs.Tracked.{Tracked}
use Rattle.ap_instr.specs.Code.{Compiled}
use Rattle.ap_tie.specs.Sections as seen
use Rattle.ap_tie.specs.Sections.{section, machine_in}
use Rattle.ap_tracked.specs.Forks.{alone}
use Rattle.ap_open.specs.Away.{Away, Level, TiedBeside, OpenBeside, IsSearch, FitsAs, found, failed_at, spent_all, stopped_at}
use Rattle.ap_open.specs.Opened.{spent_in}
use Rattle.ap_open.specs.Calling.{IsAnswering, HasMore, IsDone, IsSpent}
use Rattle.ap_open.specs.Sharing.{first_of, OutcomeLaw}
use Rattle.ap_section.specs.Views as views
use Rattle.ap_section.specs.Views.{view_of}
use Rattle.ap_section.specs.Owed.{owed}
use Rattle.ap_section.specs.Ends.{HasNext, HasNothing}
use Rattle.ap_post.specs.declared.post.Post.{Post}
use Rattle.ap_post.specs.Posts.{posted_in}
use Rattle.ap_stack.specs.declared.stack.Open.{Open}
use Rattle.ap_stack.specs.declared.stack.Stack.{Stack}
use Rattle.ap_stack.specs.Counts.{owed_by, AreGiven, Counts}
use Rattle.ap_stack.proofs.Counts.{capped-less}
use Rattle.ap_stack.proofs.Debts.{innermost, spent-owes}
use Rattle.ap_stack.specs.Levels.{aways_of, levels_of}
use Rattle.ap_stack.specs.Stacks.{code_in, levels_in, section_in, away_in, spent_outside}

-- a search by that section alone, none of whose goals is out
abbrev IsSearchBy : Post → Stack → Rules → Tree → ℕ → ℕ → Type 0
IsSearchBy p s r g n rest = IsSearch (code_in s) r (alone g n) rest (levels_in p s) (section_in s) (away_in p s)

search-alone : (p : Post) (s : Stack) (r : Rules) (g : Tree) (n rest : ℕ) → s.outer.items ≡ [] → posted_in p s.frame ≡ [] → IsSearchBy p s r g n rest → IsSearch (code_in s) r (alone g n) rest [] (section_in s) []
search-alone p s r g n rest only none search =
    subst (IsSearch (code_in s) r (alone g n) rest [] (section_in s)) (ap aways_of none) (subst (λ ls. IsSearch (code_in s) r (alone g n) rest ls (section_in s) (away_in p s)) (ap (levels_of p) only) search)

has-more : (code : Compiled) (s : seen.Section) (more : Bool) → (more ≡ false → HasNothing s) → (more ≡ true → HasNext code s) → HasMore code s more
has-more code (section m c b st) more none some = record { none = none; some = some }

spent-is : (s : seen.Section) → views.spent_in s ≡ spent_in s
spent-is (section m c b st) = refl

-- ---- it stands at an answer, or has ended

pub answer-fits : OutcomeLaw → (p : Post) (s : Stack) (spent : ℕ) (more : Bool) → s.outer.items ≡ [] → posted_in p s.frame ≡ [] → IsAnswering (section_in s) → spent ≡ views.spent_in (section_in s)
    → (more ≡ false → HasNothing (section_in s)) → (more ≡ true → HasNext (code_in s) (section_in s))
    → (r : Rules) (g : Tree) (n rest : ℕ) → IsSearchBy p s r g n rest → FitsAs (code_in s) rest r g n (found (section_in s) spent more)
answer-fits law p s spent more only none answering count nothing next r g n rest search =
    let v = section_in s in
    let fits = law.answers (code_in s) r g n rest v more (search-alone p s r g n rest only none search) answering (has-more (code_in s) v more nothing next) in
    subst (λ k. FitsAs (code_in s) rest r g n (found v k more)) (sym (count ∙ spent-is v)) fits

spent-alone : (p : Post) (s : Stack) (spent : ℕ) → s.outer.items ≡ [] → spent ≡ spent_outside p s → spent ≡ spent_in (section_in s)
spent-alone p s spent only count = count ∙ ap (λ es. spent_in (first_of (levels_of p es) (section_in s))) only

pub failure-fits : OutcomeLaw → (p : Post) (s : Stack) (spent : ℕ) → s.outer.items ≡ [] → posted_in p s.frame ≡ [] → IsDone (section_in s) → spent ≡ spent_outside p s
    → (r : Rules) (g : Tree) (n rest : ℕ) → IsSearchBy p s r g n rest → FitsAs (code_in s) rest r g n (failed_at spent)
failure-fits law p s spent only none done count r g n rest search =
    let fits = law.fails (code_in s) r g n rest (section_in s) (search-alone p s r g n rest only none search) done in
    subst (λ k. FitsAs (code_in s) rest r g n (failed_at k)) (sym (spent-alone p s spent only count)) fits

pub spent-fits : OutcomeLaw → (p : Post) (s : Stack) → s.outer.items ≡ [] → posted_in p s.frame ≡ [] → IsSpent (code_in s) (section_in s)
    → (r : Rules) (g : Tree) (n rest : ℕ) → IsSearchBy p s r g n rest → FitsAs (code_in s) rest r g n spent_all
spent-fits law p s only none spent r g n rest search = law.spends (code_in s) r g n rest (section_in s) (search-alone p s r g n rest only none search) spent

-- ---- it was asked to stop

stops-at : OutcomeLaw → (code : Compiled) (r : Rules) (g : Tree) (n rest : ℕ) (levels : List Level) (s : seen.Section) (aways : List Away) → IsSearch code r (alone g n) rest levels s aways
    → FitsAs code rest r g n (stopped_at (spent_in (first_of levels s)))
stops-at law code r g n rest [] s aways search = law.stops code r g n rest s aways search
stops-at law code r g n rest (a ∷ levels) s aways search = law.stops_within code r g n rest a levels s aways search

pub stop-fits : OutcomeLaw → (p : Post) (s : Stack) (spent : ℕ) → spent ≡ spent_outside p s → (r : Rules) (g : Tree) (n rest : ℕ) → IsSearchBy p s r g n rest → FitsAs (code_in s) rest r g n (stopped_at spent)
stop-fits law p s spent count r g n rest search =
    subst (λ k. FitsAs (code_in s) rest r g n (stopped_at k)) (sym count) (stops-at law (code_in s) r g n rest (levels_in p s) (section_in s) (away_in p s) search)

-- ---- what it is charged

least-first : (a n : ℕ) → capped a ≤ n → (b : ℕ) → b ≤ a → capped b ≤ n
least-first a n h b l = capped-less b a n l h

own-least : (s : seen.Section) → spent_in s ≤ owed s
own-least (section m c b st) = omega arith

-- the outermost section's calls are owed
first-owed : (p : Post) (s : Stack) (es : List Open) (n : ℕ) → n ≡ spent_in (first_of (levels_of p es) (section_in s)) → n ≤ owed_by es (owed (section_in s))
first-owed p s [] n e = let k = own-least (section_in s) in omega (arith, e, k)
first-owed p s (x ∷ es) n e = let k = own-least (view_of x.section) in omega (arith, e, k)

pub first-paid : (p : Post) (s : Stack) (rest spent : ℕ) → spent ≡ spent_outside p s → Counts rest s → capped spent ≤ s.share
first-paid p s rest spent count h = least-first (owed_by s.outer.items (owed (section_in s))) s.share h.paid spent (first-owed p s s.outer.items spent count)

pub newest-paid : (s : Stack) (rest spent : ℕ) → s.outer.items ≡ [] → spent ≡ views.spent_in (section_in s) → Counts rest s → capped spent ≤ s.share
newest-paid s rest spent only count h =
    let k = own-least (section_in s) in
    let e = spent-is (section_in s) in
    least-first (owed (section_in s)) s.share (subst (λ es. capped (owed_by es (owed (section_in s))) ≤ s.share) only h.paid) spent (omega (arith, k, e, count))

-- its whole budget is
pub budget-paid : (p : Post) (s : Stack) (rest : ℕ) (r : Rules) (o : Tracked) (u : Task) → s.outer.items ≡ [] → IsSpent (code_in s) (section_in s) → OpenBeside (code_in s) r o (levels_in p s) (section_in s) (away_in p s) u → Counts rest s
    → rest ≤ owed (section_in s)
budget-paid p s rest r o u only spent tie h =
    let tied = innermost (code_in s) r (TiedBeside (code_in s) r (section_in s) (away_in p s)) (levels_in p s) o u tie in
    let given : views.budget_in (section_in s) ≡ rest = subst (λ es. AreGiven rest es (views.budget_in (section_in s))) only h.given in
    let owes = spent-owes (code_in s) r tied.0 (section_in s) tied.1 tied.2.1 spent in
    omega (arith, given, owes)

pub spent-paid : (p : Post) (s : Stack) (rest : ℕ) (r : Rules) (o : Tracked) (u : Task) → s.outer.items ≡ [] → IsSpent (code_in s) (section_in s) → OpenBeside (code_in s) r o (levels_in p s) (section_in s) (away_in p s) u → Counts rest s
    → capped rest ≤ s.share
spent-paid p s rest r o u only spent tie h =
    least-first (owed (section_in s)) s.share (subst (λ es. capped (owed_by es (owed (section_in s))) ≤ s.share) only h.paid) rest (budget-paid p s rest r o u only spent tie h)

-- nothing is
pub none-paid : (n : ℕ) → capped 0 ≤ n
none-paid n = search rules
