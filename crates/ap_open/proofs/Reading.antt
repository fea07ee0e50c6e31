-- The blocks of what is searched, as blocks of what was read.
use Rattle.std.proofs.Common.{◌≡◌, ℕ, ◌⊎◌, List, [], ◌∷◌, map, length, Option, refl, ap, sym, ◌∙◌, subst}
use Rattle.std.proofs.lemmas.List.Elements.{All-append, All-cons}
use Rattle.ap_term.specs.declared.fixed.TheConstants.{QUERY}
use Rattle.ap_term.specs.declared.faults.Fault.{Fault}
use Rattle.ap_term.specs.Tree.{Trees}
use Rattle.ap_term.specs.Goals.{Program, Query, joined}
use Rattle.ap_term.specs.Search.{start, search, variables}
use Rattle.ap_term.specs.Blocks.{IsPrefix, End, no_more, budget_spent, stopped, error, Begins, IsAllUpTo, IsEnd, IsBlock}
use Rattle.ap_term.specs.WellFormed.{IsClause, IsProgram, IsQuery}
use Rattle.ap_laws.proofs.Conjunctions.{query}
use Rattle.ap_codegen.proofs.AskedClause.{asked_fits}
use Rattle.ap_graft.specs.Laws.{StartLaw}
use Rattle.ap_graft.specs.Starts.{tracked_start}
use Rattle.ap_graft.specs.Uncalled.{NeverCalls}
use Rattle.ap_instr.specs.Code.{Compiled}
use Rattle.ap_instr.specs.StandsFor.{asked, asked_query, StandsFor}
use Rattle.ap_tied.specs.Ties.{IsSearched}
use Rattle.ap_open.specs.Solving.{IsCharged}
use Rattle.ap_open.specs.Reading.{AreRead, IsSafeQuery, rules_beside, ReadingLaw}
use Rattle.ap_open.proofs.Stripping.{never_calls}
use Rattle.ap_open.proofs.Ungrouped.{asked_ungrouped}
use Rattle.ap_open.proofs.Tracing.{applied_named, same_search, same_answers}

asked_good : (a : Program) (q : Query) → IsProgram a → IsQuery q → IsProgram (joined a (asked_query q))
asked_good a q good is = All-append IsClause a (asked q ∷ q.lifted) good (All-cons IsClause (asked q) q.lifted (asked_fits q.question (asked q) is.question refl refl refl) is.lifted)

module _ (line : Trees → List ℕ) (program a : Program) (asks q : Query) (good : IsProgram program) (is : IsQuery asks) (good_asked : IsProgram a) (is_asked : IsQuery q) (read : AreRead program asks a q)
    (never : NeverCalls QUERY (joined program asks)) where
  pub searches : (n : ℕ) → search (joined a (asked_query q)) n (start q ∷ []) ≡ search (joined program asks) n (start asks ∷ [])
  searches n = same_search program a asks q ((query asks is).2 program good) is (asked_good a q good_asked is_asked) is_asked read never n

  begins : (ls : List (List ℕ)) → Begins line (joined a (asked_query q)) (start q) ls → Begins line (joined program asks) (start asks) ls
  begins ls h =
      (h.0, λ d le. subst (λ r. IsPrefix ls (map line r.tuples)) (same_answers program a asks q ((query asks is).2 program good) is (asked_good a q good_asked is_asked) is_asked read never d) (h.1 d le))

  all : (f : Option Fault) (ls : List (List ℕ)) → IsAllUpTo line (joined a (asked_query q)) (start q) f ls → IsAllUpTo line (joined program asks) (start asks) f ls
  all f ls h = (
    h.0,
    λ d le.
        subst (λ r. (ls ≡ map line r.tuples) × (f ≡ r.fault)) (same_answers program a asks q ((query asks is).2 program good) is (asked_good a q good_asked is_asked) is_asked read never d) (h.1 d le),
  )

  module _ (budget limit : ℕ) (ls : List (List ℕ)) where
    ends : (e : End) → IsEnd line (joined a (asked_query q)) (start q) budget limit ls e → IsEnd line (joined program asks) (start asks) budget limit ls e
    ends no_more h = (h.0, all _ ls h.1)
    ends budget_spent h = (h.0, ap (λ f. f.ended) (sym (searches budget)) ∙ h.1)
    ends stopped h = h
    ends (error e) h = (h.0, all _ ls h.1)

    pub blocks : (e : End) → IsBlock line (joined a (asked_query q)) (start q) budget limit ls e → IsBlock line (joined program asks) (start asks) budget limit ls e
    blocks e h = record {
      begins = begins ls h.begins;
      few = h.few;
      found = subst (λ f. IsPrefix (map line f.answers) ls ⊎ (length ls ≡ limit)) (searches budget) h.found;
      ends = ends e h.ends;
    }

  pub charges : (c : ℕ) (ls : List (List ℕ)) → IsCharged line (joined a (asked_query q)) (start q) c ls → IsCharged line (joined program asks) (start asks) c ls
  charges c ls h n lt = let r = h n lt in (ap (λ f. f.ended) (sym (searches n)) ∙ r.0, subst (λ f. IsPrefix (map line f.answers) ls) (searches n) r.1)

module _ (starting : StartLaw) where
  searched : (code : Compiled) (a : Program) (q : Query) → IsProgram a → IsQuery q → NeverCalls QUERY (joined a q) → IsSafeQuery a q → StandsFor code (joined a (asked_query q)) → IsSearched code (rules_beside a q) (tracked_start q)
  searched code a q good is never is_safe stands = record {
    program = asked_good a q good is;
    code_stands = stands;
    safe = starting.asked a q (asked q) is (applied_named QUERY (variables q.question.vars)) never (starting.safe a q is is_safe);
    below = starting.below q is;
    quiet = λ g. refl;
  }

  pub reading : ReadingLaw
  reading = record {
    never_calls = never_calls;
    searched = searched;
    blocks = λ line program a asks q budget limit ls end good is good_asked is_asked read never h. blocks line program a asks q good is good_asked is_asked read never budget limit ls end h;
    charges = λ line program a asks q c ls good is good_asked is_asked read never h. charges line program a asks q good is good_asked is_asked read never c ls h;
    searches = λ program a asks q n good is good_asked is_asked read never. searches (λ t. []) program a asks q good is good_asked is_asked read never n;
    ungrouped = asked_ungrouped;
  }
