-- Steps with their labels inside an environment are still the clause's code with its groups. The environment is given back
-- before the last step, so that labels which led to it lead there.
use Rattle.std.proofs.Common.{[], ◌≡◌, ℕ, zero, suc, ◌<◌, ◌≤◌, Bool, true, false, ◌&&◌, if◌then◌else◌, List, ◌∷◌, ◌++◌, length, refl, ap, sym, ◌∙◌, subst, arith}
use Rattle.std.specs.List.{list_all}
use Rattle.std.proofs.lemmas.Bool.{false≢true, and_parts}
use Rattle.ap_term.specs.Tree.{none, more}
use Rattle.ap_term.specs.Goals.{Clause}
use Rattle.ap_instr.specs.Step.{Step, execute, proceed, frame, jump, group}
use Rattle.ap_instr.specs.Runs.{AsksOpenly}
use Rattle.ap_codegen.specs.declared.steps.Step.{Step as Emitted}
use Rattle.ap_codegen.specs.declared.steps.Step.TheVariants.{Allocate, Deallocate}
use Rattle.ap_codegen.specs.Emitted.{step_of, Lead, lead_of, leads_of}
use Rattle.ap_codegen.specs.Temporary.{ends}
use Rattle.ap_codegen.specs.CodeOf.{calls_apart}
use Rattle.ap_codegen.specs.Framed.{leaving, left_leads}
use Rattle.ap_codegen.specs.Grouped.{passed_over, flow, Unmarks, has_turns, rest_from, AreTurns, IsGroupedCode, IsEnded}
use Rattle.ap_codegen.proofs.Framing.{Through, through_step, ends_outside, openly_step}
use Rattle.ap_codegen.proofs.EndedLeads.{ended_some}

-- what runs through the one runs through the other, both ways
abbrev AreAlike : List Step → List Step → Type 0
AreAlike is js = Through is js × Through js is

alike_step : (i : Step) (is js : List Step) → AreAlike is js → AreAlike (i ∷ is) (i ∷ js)
alike_step i is js a = (through_step i is js a.0, through_step i js is a.1)

alike_rest : (i : Step) (is js : List Step) → AreAlike is js → AreAlike (rest_from i is) (rest_from i js)
alike_rest (group n) is js a = alike_step (group n) is js a
alike_rest i is js a = a

alike_last : (i : Step) (is : List Step) → ends i ≡ true → AreAlike (frame ∷ i ∷ is) (i ∷ is)
alike_last i is e = (only, each)
  where
    only : Through (frame ∷ i ∷ is) (i ∷ is)
    only none x y bs r = r
    only (more t ts) x y bs r = absurd r

    each : Through (i ∷ is) (frame ∷ i ∷ is)
    each none x y bs r = r
    each (more t ts) x y bs r = absurd (ends_outside i is t ts x y bs e r)

unmarks_alike : (from to : List Step) (before behind : List Step) → AreAlike before from → AreAlike behind to → (AsksOpenly to → AsksOpenly behind) → Unmarks from to → Unmarks before behind
unmarks_alike from to before behind a b o u = record {
  only = λ x y bs r. let v = u.only x y bs (b.0 none x y bs r) in (v.0, v.1, a.1 none x y v.0 v.2);
  each = λ x y ms bs m r. b.1 none x y bs (u.each x y ms bs m (a.0 none x y ms r));
  openly = o u.openly;
}

passed_below : (l : Lead) → passed_over l ≤ l.1
passed_below (jump, n) = omega arith
passed_below (_, n) = omega arith

never_turns : (i : Step) → ends i ≡ true → has_turns i ≡ true → ⊥
never_turns (execute p n) e f = false≢true f
never_turns proceed e f = false≢true f
never_turns _ e f = false≢true e

-- ---- the environment given back

left_last : (l : Lead) → ends l.0 ≡ true → left_leads (l ∷ []) ≡ (frame, 0) ∷ l ∷ []
left_last l e = ap (λ b. if b then (frame, 0) ∷ l ∷ [] else l ∷ []) e

left_on : (l : Lead) (ls : List Lead) → ends l.0 ≡ false → left_leads (l ∷ ls) ≡ l ∷ left_leads ls
left_on l ls e = ap (λ b. if b then (frame, 0) ∷ l ∷ left_leads ls else l ∷ left_leads ls) e

leads_left : (es : List Emitted) → leads_of (leaving es) ≡ left_leads (leads_of es)
leads_left [] = refl
leads_left (e ∷ es) = go (ends (step_of e)) (leads_left es)
  where
    go : (b : Bool) → leads_of (leaving es) ≡ left_leads (leads_of es)
        → leads_of (if b then Deallocate ∷ e ∷ leaving es else e ∷ leaving es) ≡ (if b then (frame, 0) ∷ lead_of e ∷ left_leads (leads_of es) else lead_of e ∷ left_leads (leads_of es))
    go true h = ap (λ ls. (frame, 0) ∷ lead_of e ∷ ls) h
    go false h = ap (λ ls. lead_of e ∷ ls) h

left_apart : (ls : List Lead) → list_all (λ l. calls_apart l.0) ls ≡ true → list_all (λ l. calls_apart l.0) (left_leads ls) ≡ true
left_apart [] h = h
left_apart (l ∷ ls) h =
    let b = and_parts (calls_apart l.0) (list_all (λ l. calls_apart l.0) ls) h in
    go (ap (λ c. c && list_all (λ l. calls_apart l.0) (left_leads ls)) b.0 ∙ left_apart ls b.1) (ends l.0)
  where
    go : list_all (λ l. calls_apart l.0) (l ∷ left_leads ls) ≡ true → (b : Bool) → list_all (λ l. calls_apart l.0) (if b then (frame, 0) ∷ l ∷ left_leads ls else l ∷ left_leads ls) ≡ true
    go next true = next
    go next false = next

module _ (rest : List Lead) where
  left_alike : (ls : List Lead) (n : ℕ) → IsEnded ls → n < length ls → AreAlike (flow n (left_leads ls ++ rest)) (flow n (ls ++ rest))
  left_alike [] n h b = absurd h
  left_alike (l ∷ []) zero h b = subst (λ ks. AreAlike (flow 0 (ks ++ rest)) (flow 0 (l ∷ rest))) (sym (left_last l h.0)) (alike_last l.0 (flow (passed_over l) rest) h.0)
  left_alike (l ∷ []) (suc n) h b = absurd (omega arith)
  left_alike (l ∷ m ∷ ls) zero h b =
      let p = passed_below l in
      let q = h.1 in
      subst (λ ks. AreAlike (flow 0 (ks ++ rest)) (flow 0 (l ∷ ((m ∷ ls) ++ rest)))) (sym (left_on l (m ∷ ls) h.0))
      (alike_step l.0 (flow (passed_over l) (left_leads (m ∷ ls) ++ rest)) (flow (passed_over l) ((m ∷ ls) ++ rest)) (left_alike (m ∷ ls) (passed_over l) h.2 (omega arith)))
  left_alike (l ∷ m ∷ ls) (suc n) h b =
      subst (λ ks. AreAlike (flow (suc n) (ks ++ rest)) (flow n ((m ∷ ls) ++ rest))) (sym (left_on l (m ∷ ls) h.0)) (left_alike (m ∷ ls) n h.2 (omega arith))

  left_openly : (ls : List Lead) (n : ℕ) → IsEnded ls → n < length ls → AsksOpenly (flow n (ls ++ rest)) → AsksOpenly (flow n (left_leads ls ++ rest))
  left_openly [] n h b o = absurd h
  left_openly (l ∷ []) zero h b o = subst (λ ks. AsksOpenly (flow 0 (ks ++ rest))) (sym (left_last l h.0)) o
  left_openly (l ∷ []) (suc n) h b o = absurd (omega arith)
  left_openly (l ∷ m ∷ ls) zero h b o =
      let p = passed_below l in
      let q = h.1 in
      let c : passed_over l < length (m ∷ ls) = omega arith in
      subst (λ ks. AsksOpenly (flow 0 (ks ++ rest))) (sym (left_on l (m ∷ ls) h.0))
      (openly_step l.0 (flow (passed_over l) ((m ∷ ls) ++ rest)) (flow (passed_over l) (left_leads (m ∷ ls) ++ rest)) (left_alike (m ∷ ls) (passed_over l) h.2 c).1 (left_openly (m ∷ ls) (passed_over l) h.2 c) o)
  left_openly (l ∷ m ∷ ls) (suc n) h b o = subst (λ ks. AsksOpenly (flow (suc n) (ks ++ rest))) (sym (left_on l (m ∷ ls) h.0)) (left_openly (m ∷ ls) n h.2 (omega arith) o)

  left_turns : (ls : List Lead) → IsEnded ls → AreTurns ls rest → AreTurns (left_leads ls) rest
  left_turns [] h t = absurd h
  left_turns (l ∷ []) h t = subst (λ ks. AreTurns ks rest) (sym (left_last l h.0)) (λ e. absurd (false≢true e), (λ e. absurd (never_turns l.0 h.0 e), tt))
  left_turns (l ∷ m ∷ ls) h t =
      let q = h.1 in
      let c : l.1 < length (m ∷ ls) = omega arith in
      subst (λ ks. AreTurns ks rest) (sym (left_on l (m ∷ ls) h.0)) (
        λ e. unmarks_alike (rest_from l.0 (flow 0 ((m ∷ ls) ++ rest))) (flow l.1 ((m ∷ ls) ++ rest)) (rest_from l.0 (flow 0 (left_leads (m ∷ ls) ++ rest))) (flow l.1 (left_leads (m ∷ ls) ++ rest))
            (alike_rest l.0 (flow 0 (left_leads (m ∷ ls) ++ rest)) (flow 0 ((m ∷ ls) ++ rest)) (left_alike (m ∷ ls) 0 h.2 (omega arith))) (left_alike (m ∷ ls) l.1 h.2 c) (left_openly (m ∷ ls) l.1 h.2 c) (t.0 e),
        left_turns (m ∷ ls) h.2 t.1,
      )

framed_leads : (c : Clause) (ls : List Lead) → IsGroupedCode c ls → IsEnded ls → IsGroupedCode c ((frame, 0) ∷ left_leads ls)
framed_leads c ls k h = record {
  reads = λ rest. record {
    only = λ x y bs r. (k.reads rest).only x y bs ((left_alike rest ls 0 h (ended_some ls h)).0 none x y bs r);
    each = λ x y bs a. (left_alike rest ls 0 h (ended_some ls h)).1 none x y bs ((k.reads rest).each x y bs a);
  };
  openly = λ rest. left_openly rest ls 0 h (ended_some ls h) (k.openly rest);
  turns = λ rest. (λ e. absurd (false≢true e), left_turns rest ls h (k.turns rest));
  apart = left_apart ls k.apart;
}

pub framed_grouped : (c : Clause) (es : List Emitted) (n : ℕ) → IsGroupedCode c (leads_of es) → IsEnded (leads_of es) → IsGroupedCode c (leads_of (Allocate n ∷ leaving es))
framed_grouped c es n k h = subst (λ ls. IsGroupedCode c ((frame, 0) ∷ ls)) (sym (leads_left es)) (framed_leads c (leads_of es) k h)
