-- What the steps of a worker are to the query's search beside it.
use Rattle.std.proofs.Common.{◌≡◌, ◌≢◌, ℕ, suc, ◌≤◌, ◌<◌, List, [], ◌∷◌, refl, ap, sym, ◌∙◌, subst, arith}
use Rattle.ap_instr.specs.Code.{Compiled}
use Rattle.ap_tie.specs.Sections.{Section}
use Rattle.ap_open.specs.Away.{Away, Level, Carries}
use Rattle.ap_open.specs.Sharing.{SharingLaw}
use Rattle.ap_post.specs.Posts.{SameBelow}
use Rattle.ap_stack.specs.declared.stack.Stack.{Stack}
use Rattle.ap_stack.specs.Counts.{Counts}
use Rattle.ap_stack.specs.Stacks.{code_in, levels_in, section_in, away_in, IsGood, Goes}
use Rattle.ap_stack.proofs.Elsewhere.{levels-elsewhere, good-elsewhere}
use Rattle.ap_stack.specs.Levels.{aways_of}
use Rattle.ap_worker.specs.declared.lead.Lead.{Lead}
use Rattle.ap_worker.specs.Leads.{IsLeading, LeadGoes, LeadStays}
use Rattle.ap_worker.specs.Workers.{IsStaffed, WorkerGoes, WorkerHelps}
use Rattle.ap_worker.proofs.Staffed.{free-staffed, staffed-floor}

-- ---- the query's search stays

stays-by : (l m : Lead) (n : ℕ) → l.query.frame < n → SameBelow n l.worker.post m.worker.post → l.worker.post.next ≤ m.worker.post.next → m.query ≡ l.query → IsStaffed m.worker
    → (m.worker.taken.items ≢ [] → l.query.frame < m.worker.floor) → IsLeading l → LeadStays l m
stays-by l m n within same next query staffed above h =
    let p = l.worker.post in
    let q = m.worker.post in record {
      leads = record {
        staffed = staffed;
        good = subst (IsGood q) (sym query) (good-elsewhere p q l.query n h.good within same next);
        above = λ some. subst (λ (s : Stack). s.frame < m.worker.floor) (sym query) (above some);
      };
      query = query;
      levels = ap (levels_in q) query ∙ levels-elsewhere p q l.query n h.good within same;
      away = ap (away_in q) query ∙ ap aways_of (same l.query.frame within);
    }

-- the worker goes on with searches of others' goals
pub worked-stays : (l m : Lead) → l.worker.taken.items ≢ [] → WorkerGoes l.worker m.worker → m.query ≡ l.query → IsLeading l → LeadStays l m
worked-stays l m some goes query h =
    let above = h.above some in
    let floor = goes.floor in
    stays-by l m l.worker.floor above goes.below goes.next query goes.staffed (λ _. omega arith) h

above-floor : {X : Type 0} (ts : List X) (f a b n : ℕ) → (ts ≢ [] → f < a) → a ≤ b → f < n → (ts ≡ [] → b ≡ n) → f < b
above-floor [] f a b n above floor below risen = let e = risen refl in omega arith
above-floor (t ∷ ts) f a b n above floor below risen = let o = above (λ e. cc) in omega arith

-- it takes one more goal at most
pub helped-stays : (l m : Lead) → WorkerHelps l.worker m.worker → m.query ≡ l.query → IsLeading l → LeadStays l m
helped-stays l m helps query h =
    stays-by l m (suc l.query.frame) (omega arith) (λ g less. helps.posted g) helps.next query helps.staffed
    (λ some. above-floor l.worker.taken.items l.query.frame l.worker.floor m.worker.floor l.worker.post.next h.above helps.floor h.good.below (λ free. helps.risen free some)) h

pub stays-then : (l m n : Lead) → LeadStays l m → LeadStays m n → LeadStays l n
stays-then l m n a b = record { leads = b.leads; query = b.query ∙ a.query; levels = b.levels ∙ a.levels; away = b.away ∙ a.away }

-- ---- it goes on

carries-to : (code : Compiled) (l k j : List Level) (s t u : Section) (a b c : List Away) → Carries code l s a k t b → j ≡ k → u ≡ t → c ≡ b → Carries code l s a j u c
carries-to code l k j s t u a b c h levels section away =
    subst (λ z. Carries code l s a j u z) (sym away) (subst (λ z. Carries code l s a j z b) (sym section) (subst (λ z. Carries code l s a z t b) (sym levels) h))

pub goes-then-stays : (l m n : Lead) → LeadGoes l m → LeadStays m n → LeadGoes l n
goes-then-stays l m n a b = record {
  leads = b.leads;
  code = ap code_in b.query ∙ a.code;
  carries = carries-to (code_in l.query) (levels_in l.worker.post l.query) (levels_in m.worker.post m.query) (levels_in n.worker.post n.query) (section_in l.query) (section_in m.query) (section_in n.query)
      (away_in l.worker.post l.query) (away_in m.worker.post m.query) (away_in n.worker.post n.query) a.carries b.levels (ap section_in b.query) b.away;
  pays = λ k r o u tie h. subst (Counts k) (sym b.query) (a.pays k r o u tie h);
}

pub stays-goes : SharingLaw → (l m : Lead) → LeadStays l m → LeadGoes l m
stays-goes law l m b = record {
  leads = b.leads;
  code = ap code_in b.query;
  carries = carries-to (code_in l.query) (levels_in l.worker.post l.query) (levels_in l.worker.post l.query) (levels_in m.worker.post m.query) (section_in l.query) (section_in l.query) (section_in m.query)
      (away_in l.worker.post l.query) (away_in l.worker.post l.query) (away_in m.worker.post m.query)
      (law.stays (code_in l.query) (levels_in l.worker.post l.query) (section_in l.query) (away_in l.worker.post l.query)) b.levels (ap section_in b.query) b.away;
  pays = λ k r o u tie h. subst (Counts k) (sym b.query) h;
}

-- by its own step, where no search of another's goal is open
pub query-goes : (l m : Lead) → l.worker.taken.items ≡ [] → m.worker.taken.items ≡ l.worker.taken.items → m.worker.floor ≡ l.worker.floor → Goes l.worker.post l.query m.worker.post m.query → IsLeading l → LeadGoes l m
query-goes l m free items floor goes h =
    let next = goes.next in
    let low = staffed-floor l.worker h.staffed in record {
      leads = record {
        staffed = free-staffed l.worker m.worker items free goes.jobs.jobs (omega arith) h.staffed;
        good = goes.good;
        above = λ some. absurd (some (items ∙ free));
      };
      code = goes.sound;
      carries = goes.carries;
      pays = goes.pays;
    }
