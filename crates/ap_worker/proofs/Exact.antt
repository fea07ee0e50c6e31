-- Where there is no group, the share of the query's search counts just what is charged.
use Rattle.std.proofs.lemmas.List.{length-append}
use Rattle.std.proofs.Common.{◌≡◌, ℕ, false, ◌+◌, ◌^◌, ◌<◌, ◌≤◌, min, max, List, [], ◌∷◌, ◌++◌, length, zero, suc, Result, Ok, Err, IfOk, refl, ap, sym, ◌∙◌, subst, arith, rules}
use Rattle.ap_ledger.specs.Counts.{capped}
use Rattle.ap_ledger.specs.declared.share.Total.{Total}
use Rattle.atomic_table.specs.Seated.{TableId}
use Rattle.ap_board.specs.Rows.{seats_of}
use Rattle.ap_term.specs.Tree.{Trees}
use Rattle.ap_term.specs.Goals.{Query}
use Rattle.ap_term.specs.Search.{start}
use Rattle.ap_core.specs.Relation.{Rules}
use Rattle.ap_graft.specs.Starts.{tracked_start}
use Rattle.ap_instr.specs.Code.{Compiled}
use Rattle.ap_outside.specs.declared.halting.Halt.{Halt}
use Rattle.ap_tie.specs.Sections.{Section, section, bottom}
use Rattle.ap_tied.specs.Ties.{stack_in}
use Rattle.ap_open.specs.Opened as opened
use Rattle.ap_open.specs.Away.{IsSolvingBeside}
use Rattle.ap_open.specs.Solving.{past_answer}
use Rattle.ap_open.specs.Ungrouped.{AreCalls, IsUngrouped}
use Rattle.ap_open.proofs.Unforked.{unforked}
use Rattle.ap_section.specs.Views.{spent_in}
use Rattle.ap_section.specs.Owed.{owed}
use Rattle.ap_post.specs.declared.post.Post.{Post}
use Rattle.ap_stack.specs.declared.stack.Stack.{Stack}
use Rattle.ap_stack.specs.declared.stack.Ending.{Ending}
use Rattle.ap_stack.specs.declared.stack.Ending.TheVariants as ending
use Rattle.ap_stack.specs.Counts.{IsLone}
use Rattle.ap_stack.specs.Stacks.{levels_in, section_in, away_in, spent_outside}
use Rattle.ap_worker.specs.declared.emission.Answered.{Answered}
use Rattle.ap_worker.specs.declared.emission.Ended.{Ended}
use Rattle.ap_worker.specs.declared.lead.Lead.{Lead}
use Rattle.ap_worker.specs.Charged.{charge_after}
use Rattle.ap_worker.specs.Leads.{MadeNoMore}
use Rattle.ap_worker.specs.Totals.{NoneTaken, ended_with}
use Rattle.ap_worker.proofs.Charging.{spent-alone}

pub frameless : (code : Compiled) (p : Rules) (q : Query) (budget : ℕ) (w : Post) (s : Stack) (given : List Trees) → IsUngrouped p.program → AreCalls q.question.body
    → IsSolvingBeside code p (tracked_start q) (start q) budget (levels_in w s) (section_in s) (away_in w s) given → stack_in (section_in s) ≡ bottom
frameless code p q budget w s given plain calls h = (unforked code p q budget (levels_in w s) (section_in s) (away_in w s) given plain calls h).1

spent-past : (s : Section) → spent_in (past_answer s) ≡ spent_in s
spent-past (section m c b st) = refl

counted-none : (a c : ℕ) → a ≡ 0 → c ≡ 0 → a ≡ capped c
counted-none a c e f = search rules

-- where it begins
pub begun-lone : (s : Stack) → s.outer.items ≡ [] → s.tends ≡ false → s.share ≡ 0 → spent_in (section_in s) ≡ 0 → IsLone s
begun-lone s outer runs share none = record { outer = outer; runs = runs; counted = counted-none s.share (spent_in (section_in s)) share none }

-- past an answer
pub past-lone : (s t : Stack) → t.outer.items ≡ s.outer.items → t.tends ≡ s.tends → t.share ≡ s.share → section_in t ≡ past_answer (section_in s) → IsLone s → IsLone t
past-lone s t outer tends share past h = record {
  outer = outer ∙ h.outer;
  runs = tends ∙ h.runs;
  counted = share ∙ h.counted ∙ ap capped (sym (ap spent_in past ∙ spent-past (section_in s)));
}

spent-is : (s : Section) → opened.spent_in s ≡ spent_in s
spent-is (section m c b st) = refl

within : (a c : ℕ) → a ≤ c → capped a ≤ c
within a c h = search rules

-- where so many are charged
pub no-more : (w : Post) (s : Stack) (n c : ℕ) → n ≡ spent_outside w s → n ≤ c → IsLone s → s.share ≤ c
no-more w s n c is most h =
    let same : n ≡ spent_in (section_in s) = is ∙ spent-alone w s h.outer ∙ spent-is (section_in s) in
    subst (λ k. k ≤ c) (sym h.counted) (within (spent_in (section_in s)) c (subst (λ k. k ≤ c) same most))

pub charge-least : (e : Ending) (n budget : ℕ) → n ≤ charge_after e n budget
charge-least ending.Failed n budget = omega arith
charge-least ending.Spent n budget = omega arith

-- the total of a search that made no more
pub total-exact : (t : Total) (n m : ℕ) (r : Result Answered Halt) (l : Lead) → IfOk r (λ e. MadeNoMore l e.charged) → (l.worker.taken.items ≡ [] → t.sum ≤ l.query.share) → IfOk (ended_with t n m r) (λ e. e.charged ≤ e.total.sum) → IfOk (ended_with t n m r) (λ e. e.total.sum ≡ e.charged)
total-exact t n m (Ok a) l made most least = same a.charged l.query.share t.sum made.0 (most made.1) least
  where
    same : (c share sum : ℕ) → share ≤ c → sum ≤ share → c ≤ sum → sum ≡ c
    same c share sum a b d = omega arith
total-exact t n m (Err h) l made most least = tt

-- one worker, of which no other took anything
pub one-of : (n k : ℕ) → 0 < n → n ≤ k → k ≡ 1 → n ≡ 1
one-of n k some few one = omega (arith, some, few, one)

pub none-taken : (t : Total) (n m : ℕ) (r : Result Answered Halt) → n ≡ 0 → m ≡ 0 → IfOk (ended_with t n m r) NoneTaken
none-taken t n m (Ok a) e f = (e, f)
none-taken t n m (Err h) e f = tt

-- the only worker leads
none-longer : {X : Type 0} (u w : X) (us : List X) → length (u ∷ (us ++ w ∷ [])) ≡ 1 → ⊥
none-longer u w [] h = omega (arith, h)
none-longer u w (v ∷ us) h = omega (arith, h)

pub none-left : {X : Type 0} (ws us : List X) (w : X) → ws ≡ us ++ w ∷ [] → length ws ≡ 1 → us ≡ []
none-left ws [] w e one = refl
none-left ws (u ∷ us) w e one = absurd (none-longer u w us (sym (ap length e) ∙ one))

pub fresh-spent : (s : Section) → owed s ≡ 0 → spent_in s ≡ 0
fresh-spent (section m c b st) h = omega (arith, h)

-- a worker for each seat
pub counted-first : {a b n : ℕ} → a ≡ 0 → b ≡ n → a + b ≡ n
counted-first e f = omega (arith, e, f)

pub counted-on : (a b m k n : ℕ) → a ≡ m + 1 → k ≡ suc b → m + k ≡ n → a + b ≡ n
counted-on a b m k n e f h = omega (arith, e, f, h)

one-seat : (a n : ℕ) → a ≡ n → a + 1 ≡ suc n
one-seat a n e = omega (arith, e)

pub seats-count : (P O : Type 0) (z : TableId) (workers pads n : ℕ) → length (seats_of {P = P} {O = O} z workers pads n) ≡ n
seats-count P O z workers pads zero = refl
seats-count P O z workers pads (suc n) = length-append (seats_of {P = P} {O = O} z workers pads n) _ ∙ one-seat (length (seats_of {P = P} {O = O} z workers pads n)) n (seats-count P O z workers pads n)
