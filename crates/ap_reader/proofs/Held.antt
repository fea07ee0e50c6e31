-- The stack of terms, as it is put on and taken from, and that the steps of a term find on it what they take.
use Rattle.std.proofs.Common.{◌≡◌, ℕ, ◌<◌, List, [], ◌∷◌, ◌++◌, map, length, take, drop, codes, min, refl, sym, ap, subst, ◌∙◌, append_assoc, arith}
use Rattle.std.proofs.Math.Seq.{drop-append_seam, take-append_seam}
use Rattle.std.proofs.lemmas.List.{append-nil, length-map, length-append, drop-map, take-map, same_from_push}
use Rattle.ap_lexer.specs.Lexeme.{Text}
use Rattle.ap_term.specs.Tree as term
use Rattle.ap_term.specs.TermView.{tree_of}
use Rattle.ap_term.specs.declared.terms.Term.{Term}
use Rattle.ap_reader.specs.declared.pass.Step.{Step}
use Rattle.ap_reader.specs.declared.pass.Step.TheVariants as step
use Rattle.ap_reader.specs.declared.terms.Stack.{Stack}
use Rattle.ap_reader.specs.Grammar.{Tree, Single, Positive, Negative, Prefix, Infix, Group, Compound, Empty, Listed, Tailed, Items, Begin, Then}
use Rattle.ap_reader.specs.Step.{place, postfix, posts}
use Rattle.ap_reader.specs.Written.{Written, Atom, Node, Paren, Nil, Cons, name_at, cell, meaning}
use Rattle.ap_reader.specs.Evaluated.{Value, ATerm, Gathered, top_term, made, left, with_rest, cells, each_meaning, arguments-is, listed-is}
use Rattle.ap_reader.specs.Build.{term_in}
use Rattle.ap_reader.specs.Held.{row, begins, Held, Fits, AllFit}
use Rattle.ap_reader.proofs.Trees.{map-push}

pub put_held : (ns : List Text) (vs : List Value) (x : Written) (t : Term) (old new : Stack) → Held ns vs old → tree_of t ≡ term_in ns x → new.terms.items ≡ old.terms.items ++ t ∷ [] → new.begun.items ≡ old.begun.items → Held ns (ATerm x ∷ vs) new
put_held ns vs x t old new h e k b = record {
  terms_are = ap (map tree_of) k ∙ map-push tree_of old.terms.items t ∙ ap (λ l. l ++ tree_of t ∷ []) h.terms_are ∙ ap (λ y. row ns vs ++ y ∷ []) e;
  begun_are = b ∙ h.begun_are;
}

pub begin_held : (ns : List Text) (vs : List Value) (old new : Stack) → Held ns vs old → new.terms.items ≡ old.terms.items → new.begun.items ≡ old.begun.items ++ length old.terms.items ∷ [] → Held ns (Gathered [] ∷ vs) new
begin_held ns vs old new h k b = record {
  terms_are = ap (map tree_of) k ∙ h.terms_are ∙ sym (append-nil (row ns vs));
  begun_are = b ∙ ap (λ l. l ++ length old.terms.items ∷ []) h.begun_are ∙ ap (λ n. begins ns vs ++ n ∷ []) (sym (length-map old.terms.items tree_of) ∙ ap length h.terms_are);
}

pub some_terms : (ns : List Text) (x : Written) (vs : List Value) (s : Stack) → Held ns (ATerm x ∷ vs) s → 0 < length s.terms.items
some_terms ns x vs s h = omega (arith, ap length h.terms_are, length-map s.terms.items tree_of, length-append (row ns vs) (term_in ns x ∷ []))

pub take_held : (ns : List Text) (x : Written) (vs : List Value) (old new : Stack) (t : Term) → Held ns (ATerm x ∷ vs) old → old.terms.items ≡ new.terms.items ++ t ∷ [] → new.begun.items ≡ old.begun.items → (tree_of t ≡ term_in ns x) × Held ns vs new
take_held ns x vs old new t h e b =
    let both : map tree_of new.terms.items ++ tree_of t ∷ [] ≡ row ns vs ++ term_in ns x ∷ [] = sym (map-push tree_of new.terms.items t) ∙ sym (ap (map tree_of) e) ∙ h.terms_are in
    let same = same_from_push (map tree_of new.terms.items) (row ns vs) (tree_of t) (term_in ns x) both in
    (same.1, record { terms_are = same.0; begun_are = b ∙ h.begun_are })

pub some_begun : (ns : List Text) (ys : List Written) (vs : List Value) (s : Stack) → Held ns (Gathered ys ∷ vs) s → 0 < length s.begun.items
some_begun ns ys vs s h = omega (arith, ap length h.begun_are, length-append (begins ns vs) (length (row ns vs) ∷ []))

pub first_held : (ns : List Text) (ys : List Written) (vs : List Value) (old new : Stack) (n : ℕ) → Held ns (Gathered ys ∷ vs) old → old.begun.items ≡ new.begun.items ++ n ∷ [] → (min n (length old.terms.items) ≡ length (row ns vs)) × (new.begun.items ≡ begins ns vs)
first_held ns ys vs old new n h e =
    let same = same_from_push new.begun.items (begins ns vs) n (length (row ns vs)) (sym e ∙ h.begun_are) in
    (omega (arith, same.1, ap length h.terms_are, length-map old.terms.items tree_of, length-append (row ns vs) (map (term_in ns) ys)), same.0)

pub items_held : (ns : List Text) (ys : List Written) (vs : List Value) (old new : Stack) (v : List Term) (n : ℕ) → Held ns (Gathered ys ∷ vs) old → (n ≡ length (row ns vs)) × (new.begun.items ≡ begins ns vs) → v ≡ drop n old.terms.items → new.terms.items ≡ take n old.terms.items → (map tree_of v ≡ map (term_in ns) ys) × Held ns vs new
items_held ns ys vs old new v n h first d k =
    let behind : map tree_of (drop n old.terms.items) ≡ map (term_in ns) ys =
    sym (drop-map tree_of n old.terms.items) ∙ ap (drop n) h.terms_are ∙ ap (λ m. drop m (row ns vs ++ map (term_in ns) ys)) first.0 ∙ drop-append_seam (row ns vs) (map (term_in ns) ys) in
    let front : map tree_of (take n old.terms.items) ≡ row ns vs =
    sym (take-map tree_of n old.terms.items) ∙ ap (take n) h.terms_are ∙ ap (λ m. take m (row ns vs ++ map (term_in ns) ys)) first.0 ∙ take-append_seam (row ns vs) (map (term_in ns) ys) in
    (ap (map tree_of) d ∙ behind, record { terms_are = ap (map tree_of) k ∙ front; begun_are = first.1 })

-- an item joins those below it where it is
pub held_item : (ns : List Text) (x : Written) (ys : List Written) (vs : List Value) (s : Stack) → Held ns (ATerm x ∷ Gathered ys ∷ vs) s → Held ns (Gathered (ys ++ x ∷ []) ∷ vs) s
held_item ns x ys vs s h = record {
  terms_are = h.terms_are ∙ append_assoc (row ns vs) (map (term_in ns) ys) (term_in ns x ∷ []) ∙ ap (λ l. row ns vs ++ l) (sym (map-push (term_in ns) ys x));
  begun_are = h.begun_are;
}

pub same_term : (a b : Written) → ATerm a ≡ ATerm b → a ≡ b
same_term a b e = ap (λ v. top_term (v ∷ [])) e

module _ (xs : List Written) (ns : List Text) (t : term.Tree) (old new : Stack) where
  abbrev pub Gives : Step → List Value → Written → Type 0
  Gives s vs x = Fits s vs → made xs s vs ≡ ATerm x → Held ns vs old → (t ≡ term_in ns x) × Held ns (left xs s vs) new

  pub prefix-gives : (at : ℕ) (name : Text) → name ≡ name_at xs at → ((y : Written) (vs : List Value) → Held ns (ATerm y ∷ vs) old → (t ≡ term_in ns (Node name (Cons y Nil))) × Held ns vs new) → (vs : List Value) (x : Written) → Gives (step.Prefix at) vs x
  prefix-gives at name n p [] x f e h = absurd f
  prefix-gives at name n p (Gathered ys ∷ vs) x f e h = absurd f
  prefix-gives at name n p (ATerm y ∷ vs) x f e h =
      let got = p y vs h in
      (got.0 ∙ ap (λ m. term_in ns (Node m (Cons y Nil))) n ∙ ap (term_in ns) (same_term (Node (name_at xs at) (Cons y Nil)) x e), got.1)

  pub infix-gives : (at : ℕ) (name : Text) → name ≡ name_at xs at → ((y z : Written) (vs : List Value) → Held ns (ATerm z ∷ ATerm y ∷ vs) old → (t ≡ term_in ns (Node name (Cons y (Cons z Nil)))) × Held ns vs new) → (vs : List Value) (x : Written) → Gives (step.Infix at) vs x
  infix-gives at name n p [] x f e h = absurd f.0
  infix-gives at name n p (Gathered ys ∷ vs) x f e h = absurd f.0
  infix-gives at name n p (ATerm z ∷ []) x f e h = absurd f.1
  infix-gives at name n p (ATerm z ∷ Gathered ys ∷ vs) x f e h = absurd f.1
  infix-gives at name n p (ATerm z ∷ ATerm y ∷ vs) x f e h =
      let got = p y z vs h in
      (got.0 ∙ ap (λ m. term_in ns (Node m (Cons y (Cons z Nil)))) n ∙ ap (term_in ns) (same_term (Node (name_at xs at) (Cons y (Cons z Nil))) x e), got.1)

  pub compound-gives : (at : ℕ) (name : Text) → name ≡ name_at xs at → ((ys : List Written) (y : Written) (vs : List Value) → Held ns (ATerm y ∷ Gathered ys ∷ vs) old → (t ≡ term_in ns (Node name (with_rest ys (Cons y Nil)))) × Held ns vs new) → (vs : List Value) (x : Written) → Gives (step.Compound at) vs x
  compound-gives at name n p [] x f e h = absurd f.0
  compound-gives at name n p (Gathered ys ∷ vs) x f e h = absurd f.0
  compound-gives at name n p (ATerm y ∷ []) x f e h = absurd f.1
  compound-gives at name n p (ATerm y ∷ ATerm z ∷ vs) x f e h = absurd f.1
  compound-gives at name n p (ATerm y ∷ Gathered ys ∷ vs) x f e h =
      let got = p ys y vs h in
      (got.0 ∙ ap (λ m. term_in ns (Node m (with_rest ys (Cons y Nil)))) n ∙ ap (term_in ns) (same_term (Node (name_at xs at) (with_rest ys (Cons y Nil))) x e), got.1)

  pub empty-gives : ((ys : List Written) (vs : List Value) → Held ns (Gathered ys ∷ vs) old → Held ns vs new) → t ≡ term_in ns (Atom (codes "[]")) → (vs : List Value) (x : Written) → Gives step.Empty vs x
  empty-gives p k [] x f e h = absurd f
  empty-gives p k (ATerm y ∷ vs) x f e h = absurd f
  empty-gives p k (Gathered ys ∷ vs) x f e h = (k ∙ ap (term_in ns) (same_term (Atom (codes "[]")) x e), p ys vs h)

  pub list-gives : ((ys : List Written) (y : Written) (vs : List Value) → Held ns (ATerm y ∷ Gathered ys ∷ vs) old → (t ≡ term_in ns (cells ys (cell y (Atom (codes "[]"))))) × Held ns vs new) → (vs : List Value) (x : Written) → Gives step.List vs x
  list-gives p [] x f e h = absurd f.0
  list-gives p (Gathered ys ∷ vs) x f e h = absurd f.0
  list-gives p (ATerm y ∷ []) x f e h = absurd f.1
  list-gives p (ATerm y ∷ ATerm z ∷ vs) x f e h = absurd f.1
  list-gives p (ATerm y ∷ Gathered ys ∷ vs) x f e h =
      let got = p ys y vs h in
      (got.0 ∙ ap (term_in ns) (same_term (cells ys (cell y (Atom (codes "[]")))) x e), got.1)

  pub tailed-gives : ((ys : List Written) (y u : Written) (vs : List Value) → Held ns (ATerm u ∷ ATerm y ∷ Gathered ys ∷ vs) old → (t ≡ term_in ns (cells ys (cell y u))) × Held ns vs new) → (vs : List Value) (x : Written) → Gives step.Tailed vs x
  tailed-gives p [] x f e h = absurd f.0
  tailed-gives p (Gathered ys ∷ vs) x f e h = absurd f.0
  tailed-gives p (ATerm u ∷ []) x f e h = absurd f.1
  tailed-gives p (ATerm u ∷ Gathered ys ∷ vs) x f e h = absurd f.1
  tailed-gives p (ATerm u ∷ ATerm y ∷ []) x f e h = absurd f.2
  tailed-gives p (ATerm u ∷ ATerm y ∷ ATerm z ∷ vs) x f e h = absurd f.2
  tailed-gives p (ATerm u ∷ ATerm y ∷ Gathered ys ∷ vs) x f e h =
      let got = p ys y u vs h in
      (got.0 ∙ ap (term_in ns) (same_term (cells ys (cell y u)) x e), got.1)

  pub group-gives : ((y : Written) (vs : List Value) → Held ns (ATerm y ∷ vs) old → (t ≡ term_in ns y) × Held ns vs new) → (vs : List Value) (x : Written) → Gives step.Group vs x
  group-gives p [] x f e h = absurd f
  group-gives p (Gathered ys ∷ vs) x f e h = absurd f
  group-gives p (ATerm y ∷ vs) x f e h =
      let got = p y vs h in
      (got.0 ∙ ap (term_in ns) (same_term (Paren y) x e), got.1)

-- what the steps leave that make no term of their own
pub group_stays : (xs : List Written) (ns : List Text) (s : Stack) (vs : List Value) → Fits step.Group vs → Held ns vs s → Held ns (made xs step.Group vs ∷ left xs step.Group vs) s
group_stays xs ns s [] f h = absurd f
group_stays xs ns s (Gathered ys ∷ vs) f h = absurd f
group_stays xs ns s (ATerm y ∷ vs) f h = record { terms_are = h.terms_are; begun_are = h.begun_are }

pub item_stays : (xs : List Written) (ns : List Text) (s : Stack) (vs : List Value) → Fits step.Item vs → Held ns vs s → Held ns (made xs step.Item vs ∷ left xs step.Item vs) s
item_stays xs ns s [] f h = absurd f.0
item_stays xs ns s (Gathered ys ∷ vs) f h = absurd f.0
item_stays xs ns s (ATerm y ∷ []) f h = absurd f.1
item_stays xs ns s (ATerm y ∷ ATerm z ∷ vs) f h = absurd f.1
item_stays xs ns s (ATerm y ∷ Gathered ys ∷ vs) f h = held_item ns y ys vs s h

-- each other step makes a term
pub makes-term : (xs : List Written) (s : Step) (vs : List Value) → (s ≡ step.Group → ⊥) → (s ≡ step.Begin → ⊥) → (s ≡ step.Item → ⊥) → made xs s vs ≡ ATerm (top_term (made xs s vs ∷ []))
makes-term xs (step.Operand at) vs g b i = refl
makes-term xs (step.Integer z) vs g b i = refl
makes-term xs (step.Prefix at) vs g b i = refl
makes-term xs (step.Infix at) vs g b i = refl
makes-term xs step.Group vs g b i = absurd (g refl)
makes-term xs step.Begin vs g b i = absurd (b refl)
makes-term xs step.Item vs g b i = absurd (i refl)
makes-term xs (step.Compound at) vs g b i = refl
makes-term xs step.Empty vs g b i = refl
makes-term xs step.List vs g b i = refl
makes-term xs step.Tailed vs g b i = refl

-- ---- the steps of a term fit

module _ (xs : List Written) where
  along : (vs : List Value) (a b : List Step) → a ≡ b → AllFit xs vs b → AllFit xs vs a
  along vs a b e f = subst (AllFit xs vs) (sym e) f

  mutual
    pub fits : (t : Tree) (vs : List Value) (rest : List Step) → AllFit xs (ATerm (meaning xs t) ∷ vs) rest → AllFit xs vs (postfix t ++ rest)
    fits (Single at) vs rest f = (tt, f)
    fits (Positive n) vs rest f = (tt, f)
    fits (Negative sign i n) vs rest f = (tt, f)
    fits (Prefix o t) vs rest f =
        along vs ((postfix t ++ step.Prefix (place o) ∷ []) ++ rest) (postfix t ++ step.Prefix (place o) ∷ rest) (append_assoc (postfix t) (step.Prefix (place o) ∷ []) rest)
        (fits t vs (step.Prefix (place o) ∷ rest) (tt, f))
    fits (Infix l o r) vs rest f =
        along vs ((postfix l ++ (postfix r ++ step.Infix (place o) ∷ [])) ++ rest) (postfix l ++ (postfix r ++ step.Infix (place o) ∷ rest))
        (append_assoc (postfix l) (postfix r ++ step.Infix (place o) ∷ []) rest ∙ ap (λ y. postfix l ++ y) (append_assoc (postfix r) (step.Infix (place o) ∷ []) rest))
        (fits l vs (postfix r ++ step.Infix (place o) ∷ rest) (fits r (ATerm (meaning xs l) ∷ vs) (step.Infix (place o) ∷ rest) ((tt, tt), f)))
    fits (Group t) vs rest f =
        along vs ((postfix t ++ step.Group ∷ []) ++ rest) (postfix t ++ step.Group ∷ rest) (append_assoc (postfix t) (step.Group ∷ []) rest)
        (fits t vs (step.Group ∷ rest) (tt, f))
    fits (Compound at i items t) vs rest f =
        along vs ((posts items ++ (postfix t ++ step.Compound at ∷ [])) ++ rest) (posts items ++ (postfix t ++ step.Compound at ∷ rest))
        (append_assoc (posts items) (postfix t ++ step.Compound at ∷ []) rest ∙ ap (λ y. posts items ++ y) (append_assoc (postfix t) (step.Compound at ∷ []) rest))
        (gather_fits items vs (postfix t ++ step.Compound at ∷ rest) (fits t (Gathered (each_meaning xs items) ∷ vs) (step.Compound at ∷ rest)
        ((tt, tt), subst (λ a. AllFit xs (ATerm (Node (name_at xs at) a) ∷ vs) rest) (sym (arguments-is xs items (Cons (meaning xs t) Nil))) f)))
    fits Empty vs rest f = (tt, (tt, f))
    fits (Listed items t) vs rest f =
        along vs ((posts items ++ (postfix t ++ step.List ∷ [])) ++ rest) (posts items ++ (postfix t ++ step.List ∷ rest))
        (append_assoc (posts items) (postfix t ++ step.List ∷ []) rest ∙ ap (λ y. posts items ++ y) (append_assoc (postfix t) (step.List ∷ []) rest))
        (gather_fits items vs (postfix t ++ step.List ∷ rest) (fits t (Gathered (each_meaning xs items) ∷ vs) (step.List ∷ rest)
        ((tt, tt), subst (λ a. AllFit xs (ATerm a ∷ vs) rest) (sym (listed-is xs items (cell (meaning xs t) (Atom (codes "[]"))))) f)))
    fits (Tailed items t u) vs rest f =
        along vs ((posts items ++ (postfix t ++ (postfix u ++ step.Tailed ∷ []))) ++ rest) (posts items ++ (postfix t ++ (postfix u ++ step.Tailed ∷ rest)))
        (append_assoc (posts items) (postfix t ++ (postfix u ++ step.Tailed ∷ [])) rest ∙ ap (λ y. posts items ++ y) (append_assoc (postfix t) (postfix u ++ step.Tailed ∷ []) rest ∙ ap (λ y. postfix t ++ y) (append_assoc (postfix u) (step.Tailed ∷ []) rest)))
        (gather_fits items vs (postfix t ++ (postfix u ++ step.Tailed ∷ rest)) (fits t (Gathered (each_meaning xs items) ∷ vs) (postfix u ++ step.Tailed ∷ rest)
        (fits u (ATerm (meaning xs t) ∷ Gathered (each_meaning xs items) ∷ vs) (step.Tailed ∷ rest)
        ((tt, tt, tt), subst (λ a. AllFit xs (ATerm a ∷ vs) rest) (sym (listed-is xs items (cell (meaning xs t) (meaning xs u)))) f))))

    gather_fits : (items : Items) (vs : List Value) (rest : List Step) → AllFit xs (Gathered (each_meaning xs items) ∷ vs) rest → AllFit xs vs (posts items ++ rest)
    gather_fits Begin vs rest f = (tt, f)
    gather_fits (Then items t at) vs rest f =
        along vs ((posts items ++ (postfix t ++ step.Item ∷ [])) ++ rest) (posts items ++ (postfix t ++ step.Item ∷ rest))
        (append_assoc (posts items) (postfix t ++ step.Item ∷ []) rest ∙ ap (λ y. posts items ++ y) (append_assoc (postfix t) (step.Item ∷ []) rest))
        (gather_fits items vs (postfix t ++ step.Item ∷ rest) (fits t (Gathered (each_meaning xs items) ∷ vs) (step.Item ∷ rest) ((tt, tt), f)))
