-- Clauses one behind another, with choice instructions before them, are read in order.
use Rattle.std.proofs.Common.{◌≡◌, ℕ, zero, suc, ◌+◌, ◌≤◌, ◌==◌, Bool, true, false, if◌then◌else◌, List, [], ◌∷◌, ◌++◌, length, drop, map, ◌⊎◌, inl, inr, refl, ap, sym, ◌∙◌, subst, arith, append_assoc}
use Rattle.ap_term.proofs.TreeLists.{count_trees-instance_all}
use Rattle.std.specs.List.{AllZip}
use Rattle.std.proofs.lemmas.Bool.Decides.{Decides-eqb}
use Rattle.ap_term.specs.Tree.{Tree, Trees, var, none, more, count_trees}
use Rattle.ap_term.specs.Substitution.{instance_all}
use Rattle.ap_term.specs.Goals.{Clause}
use Rattle.ap_tracked.specs.Tracked.{placed}
use Rattle.ap_tracked.specs.Marks.{marked}
use Rattle.ap_instr.specs.declared.instruction.Instr.{Instr}
use Rattle.ap_instr.specs.declared.instruction.Instr.TheVariants.{Fail, Try}
use Rattle.ap_instr.specs.Code.{Compiled}
use Rattle.ap_instr.specs.Step.{Step, other}
use Rattle.ap_instr.specs.Steps.{steps_behind}
use Rattle.ap_instr.specs.Runs.{Reads, set, spread, arguments}
use Rattle.ap_instr.specs.StandsFor.{ReadsAt, tried, alternatives}
use Rattle.ap_instr.proofs.Registers.{set-above}
use Rattle.ap_codegen.specs.Assembled.{AreSequences, AreCoded, places, retries, choices, chosen, together}
use Rattle.ap_codegen.proofs.Registers.{set_here}
use Rattle.ap_codegen.proofs.Straight.{both_sequences}

pub drop_append : {A : Type 0} (xs ys : List A) → drop (length xs) (xs ++ ys) ≡ ys
drop_append [] ys = refl
drop_append (x ∷ xs) ys = drop_append xs ys

pub drop_twice : {A : Type 0} (m n : ℕ) (xs : List A) → drop (m + n) xs ≡ drop n (drop m xs)
drop_twice zero n xs = let e : 0 + n ≡ n = omega arith in ap (λ k. drop k xs) e
drop_twice (suc m) n [] = drop_nil (suc m + n) ∙ sym (drop_nil n)
  where
    drop_nil : {A : Type 0} (k : ℕ) → drop {A = A} k [] ≡ []
    drop_nil zero = refl
    drop_nil (suc k) = refl
drop_twice (suc m) n (x ∷ xs) = let e : suc m + n ≡ suc (m + n) = omega arith in ap (λ k. drop k (x ∷ xs)) e ∙ drop_twice m n xs

-- ---- code that reads as a clause begins with an instruction of it

spread_agree : (k l : ℕ → Tree) (p n : ℕ) → ((w : ℕ) → p ≤ w → k w ≡ l w) → spread k p n ≡ spread l p n
spread_agree k l p zero h = refl
spread_agree k l p (suc n) h = ap (λ t. more t (spread k (p + 1) n)) (h p (omega arith)) ∙ ap (more (l p)) (spread_agree k l (p + 1) n (λ w i. h w (omega arith)))

-- registers that hold these terms from number p on
abbrev loaded : ℕ → Trees → ℕ → Tree
loaded p none w = var 0
loaded p (more t ts) w = set (loaded (p + 1) ts) p t w

spread_loaded : (p : ℕ) (ts : Trees) → spread (loaded p ts) p (count_trees ts) ≡ ts
spread_loaded p none = refl
spread_loaded p (more t ts) =
    let e : count_trees ts + 1 ≡ suc (count_trees ts) = omega arith in
    ap (spread (loaded p (more t ts)) p) e
    ∙ ap (λ u. more u (spread (loaded p (more t ts)) (p + 1) (count_trees ts))) (set_here (loaded (p + 1) ts) p t)
    ∙ ap (more t) (spread_agree (loaded p (more t ts)) (loaded (p + 1) ts) (p + 1) (count_trees ts) (λ w i. set-above (loaded (p + 1) ts) p w t (omega arith)) ∙ spread_loaded (p + 1) ts)

not_other : (is : List Step) (c : Clause) → Reads (other ∷ is) c → ⊥
not_other is c r =
    let ts : Trees = instance_all var (arguments c.head) in
    r.each (loaded 1 ts) (λ w. var 0) (marked (map (placed var) c.body)) (var, ap (spread (loaded 1 ts) 1) (sym (count_trees-instance_all var (arguments c.head))) ∙ spread_loaded 1 ts, refl)

single : (code : Compiled) (at : ℕ) (is : List Instr) (c : Clause) → Reads (steps_behind code at 0 is) c → alternatives at is ≡ at ∷ []
single code at [] c r = refl
single code at (Try l ∷ is) c r = absurd (not_other (steps_behind code (at + 1) 0 is) c r)
single code at (Fail ∷ is) c r = absurd (not_other (steps_behind code (at + 1) 0 is) c r)
single code at (i ∷ is) c r = refl

-- ---- places

tried_retries : (at : ℕ) (is : List Instr) (bs : List (List Instr)) (later : List Instr) → tried (retries at (is ∷ bs) ++ later) ≡ places at (is ∷ bs)
tried_retries at is [] later = refl
tried_retries at is (b ∷ bs) later = ap (λ l. at ∷ l) (tried_retries (at + length is) b bs later)

pub length_retries : (at : ℕ) (bs : List (List Instr)) → length (retries at bs) ≡ length bs
length_retries at [] = refl
length_retries at (is ∷ []) = refl
length_retries at (is ∷ b ∷ bs) = ap suc (length_retries (at + length is) (b ∷ bs))

places_read : (code : Compiled) (at : ℕ) (bs : List (List Instr)) (later : List Instr) (cs : List Clause) → AreCoded code at bs cs → drop at code.instructions ≡ together bs ++ later → AllZip (ReadsAt code) (places at bs) cs
places_read code at [] later [] h e = tt
places_read code at [] later (c ∷ cs) h e = h
places_read code at (is ∷ bs) later [] h e = h
places_read code at (is ∷ bs) later (c ∷ cs) h e =
    let d : drop at code.instructions ≡ is ++ (together bs ++ later) = e ∙ append_assoc is (together bs) later in (
      h.0.reads (together bs ++ later) d,
      places_read code (at + length is) bs later cs h.1 (drop_twice at (length is) code.instructions ∙ ap (drop (length is)) d ∙ drop_append is (together bs ++ later)),
    )

pub chosen_many : (n : ℕ) → chosen (suc (suc n)) ≡ suc (suc n)
chosen_many n = go (1 == suc (suc n)) refl
  where
    go : (b : Bool) → (1 == suc (suc n)) ≡ b → (if b then 0 else suc (suc n)) ≡ suc (suc n)
    go true e = absurd (let k : 1 ≡ suc (suc n) = (Decides-eqb 1 (suc (suc n))).0 e in omega arith)
    go false e = refl

-- where its clauses begin, by its instructions
pub block_places : (code : Compiled) (start base : ℕ) (bs : List (List Instr)) (later : List Instr) (cs : List Clause) → AreCoded code base bs cs
    → base ≡ start + chosen (length bs) → drop start code.instructions ≡ choices base bs ++ (together bs ++ later)
    → alternatives start (drop start code.instructions) ≡ places base bs
block_places code start base [] later cs h b e = ap (alternatives start) e
block_places code start base (is ∷ []) later [] h b e = absurd h
block_places code start base (is ∷ []) later (c ∷ cs) h b e =
    let same : start ≡ base = omega (arith, b) in
    single code start (drop start code.instructions) c (places_read code start (is ∷ []) later (c ∷ cs) (subst (λ n. AreCoded code n (is ∷ []) (c ∷ cs)) (sym same) h) e).0.reads ∙ ap (λ n. n ∷ []) same
block_places code start base (is ∷ i ∷ bs) later cs h b e = ap (alternatives start) e ∙ ap (λ l. base ∷ l) (tried_retries (base + length is) i bs (together (is ∷ i ∷ bs) ++ later))

-- the clauses of a predicate whose instructions begin at a place
pub block_read : (code : Compiled) (start base : ℕ) (bs : List (List Instr)) (later : List Instr) (cs : List Clause) → AreCoded code base bs cs
    → base ≡ start + chosen (length bs) → drop start code.instructions ≡ choices base bs ++ (together bs ++ later)
    → AllZip (ReadsAt code) (alternatives start (drop start code.instructions)) cs
block_read code start base bs later cs h b e = subst (λ l. AllZip (ReadsAt code) l cs) (sym (block_places code start base bs later cs h b e)) (go bs cs h b e)
  where
    go : (bs : List (List Instr)) (cs : List Clause) → AreCoded code base bs cs → base ≡ start + chosen (length bs) → drop start code.instructions ≡ choices base bs ++ (together bs ++ later) → AllZip (ReadsAt code) (places base bs) cs
    go [] [] h b e = tt
    go [] (c ∷ cs) h b e = absurd h
    go (is ∷ []) cs h b e =
        let same : base ≡ start = omega (arith, b) in
        places_read code base (is ∷ []) later cs h (ap (λ n. drop n code.instructions) same ∙ e)
    go (is ∷ i ∷ bs) cs h b e =
        let ks : List Instr = retries (base + length is) (i ∷ bs) in
        let n : base ≡ start + suc (length ks) = b ∙ ap (λ n. start + n) (chosen_many (length bs)) ∙ ap (λ n. start + suc n) (sym (length_retries (base + length is) (i ∷ bs))) in
        places_read code base (is ∷ i ∷ bs) later cs h
        (ap (λ k. drop k code.instructions) n ∙ drop_twice start (suc (length ks)) code.instructions ∙ ap (drop (suc (length ks))) e ∙ drop_append (choices base (is ∷ i ∷ bs)) (together (is ∷ i ∷ bs) ++ later))

-- ---- checks

retries_sequences : (code : Compiled) (from at : ℕ) (bs : List (List Instr)) → AreSequences code from (retries at bs)
retries_sequences code from at [] = tt
retries_sequences code from at (is ∷ []) = (λ l e. cc, tt)
retries_sequences code from at (is ∷ b ∷ bs) = (λ l e. cc, retries_sequences code (from + 1) (at + length is) (b ∷ bs))

choices_sequences : (code : Compiled) (from at : ℕ) (bs : List (List Instr)) → AreSequences code from (choices at bs)
choices_sequences code from at [] = (λ l e. cc, tt)
choices_sequences code from at (is ∷ []) = tt
choices_sequences code from at (is ∷ b ∷ bs) = (λ l e. cc, retries_sequences code (from + 1) (at + length is) (b ∷ bs))

together_sequences : (code : Compiled) (at : ℕ) (bs : List (List Instr)) (later : List Instr) (cs : List Clause) → AreCoded code at bs cs → drop at code.instructions ≡ together bs ++ later → AreSequences code at (together bs)
together_sequences code at [] later cs h e = tt
together_sequences code at (is ∷ bs) later [] h e = absurd h
together_sequences code at (is ∷ bs) later (c ∷ cs) h e =
    let d : drop at code.instructions ≡ is ++ (together bs ++ later) = e ∙ append_assoc is (together bs) later in
    both_sequences code at is (together bs) (h.0.sequences (together bs ++ later) d)
    (together_sequences code (at + length is) bs later cs h.1 (drop_twice at (length is) code.instructions ∙ ap (drop (length is)) d ∙ drop_append is (together bs ++ later)))

-- how many choice instructions stand before clauses, where there are any
pub length_choices : (base : ℕ) (bs : List (List Instr)) → (length (choices base bs) ≡ chosen (length bs)) ⊎ (bs ≡ [])
length_choices base [] = inr refl
length_choices base (b ∷ []) = inl refl
length_choices base (b ∷ d ∷ bs) = inl (ap suc (length_retries (base + length b) (d ∷ bs)) ∙ sym (chosen_many (length bs)))

-- each check and each group of a predicate's instructions leads to the group as a sequence
pub block_sequences : (code : Compiled) (start base : ℕ) (bs : List (List Instr)) (later : List Instr) (cs : List Clause) → AreCoded code base bs cs
    → base ≡ start + chosen (length bs) → drop start code.instructions ≡ choices base bs ++ (together bs ++ later) → AreSequences code start (choices base bs ++ together bs)
block_sequences code start base bs later cs h b e = both_sequences code start (choices base bs) (together bs) (choices_sequences code start base bs) (go (length_choices base bs))
  where
    go : (length (choices base bs) ≡ chosen (length bs)) ⊎ (bs ≡ []) → AreSequences code (start + length (choices base bs)) (together bs)
    go (inr n) = subst (λ cs. AreSequences code (start + length (choices base bs)) (together cs)) (sym n) tt
    go (inl n) =
        let k : start + length (choices base bs) ≡ base = ap (λ m. start + m) n ∙ sym b in
        let behind : drop base code.instructions ≡ together bs ++ later =
        ap (λ n. drop n code.instructions) (sym k)
        ∙ drop_twice start (length (choices base bs)) code.instructions
        ∙ ap (drop (length (choices base bs))) e
        ∙ drop_append (choices base bs) (together bs ++ later) in
        subst (λ n. AreSequences code n (together bs)) (sym k) (together_sequences code base bs later cs h behind)
