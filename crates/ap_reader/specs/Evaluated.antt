-- Steps, one after another, on a stack of values.
use Rattle.std.specs.Prelude.{◌≡◌, List, [], ◌∷◌, ◌++◌, codes, slice_get, refl}
use Rattle.std.proofs.Common.{◌∙◌, ap, append_assoc}
use Rattle.ap_reader.specs.declared.pass.Step.{Step}
use Rattle.ap_reader.specs.declared.pass.Step.TheVariants as step
use Rattle.ap_reader.specs.Grammar.{Tree, Single, Positive, Negative, Prefix, Infix, Group, Compound, Empty, Listed, Tailed, Items, Begin, Then}
use Rattle.ap_reader.specs.Step.{place, postfix, posts}
use Rattle.ap_reader.specs.Written.{Written, Variable, Integer, Atom, Node, Paren, Writtens, Nil, Cons, leaf_at, name_at, cell, meaning, arguments, listed}

-- a term, or the items of what is open
pub data Value : Type 0 where
  ATerm : Written → Value
  Gathered : List Written → Value

abbrev pub with_rest : List Written → Writtens → Writtens
with_rest [] rest = rest
with_rest (x ∷ xs) rest = Cons x (with_rest xs rest)

abbrev pub cells : List Written → Written → Written
cells [] rest = rest
cells (x ∷ xs) rest = cell x (cells xs rest)

-- the value on top as a term, or as items, and the values below it
abbrev pub top_term : List Value → Written
top_term (ATerm x ∷ vs) = x
top_term _ = Variable 0

abbrev pub top_items : List Value → List Written
top_items (Gathered ys ∷ vs) = ys
top_items _ = []

abbrev pub below : List Value → List Value
below [] = []
below (v ∷ vs) = vs

module _ (xs : List Written) where
  -- what a step makes of the values on top
  abbrev pub made : Step → List Value → Value
  made (step.Operand at) vs = ATerm (leaf_at (slice_get xs at))
  made (step.Integer z) vs = ATerm (Integer z)
  made (step.Prefix at) vs = ATerm (Node (name_at xs at) (Cons (top_term vs) Nil))
  made (step.Infix at) vs = ATerm (Node (name_at xs at) (Cons (top_term (below vs)) (Cons (top_term vs) Nil)))
  made step.Group vs = ATerm (Paren (top_term vs))
  made step.Begin vs = Gathered []
  made step.Item vs = Gathered (top_items (below vs) ++ top_term vs ∷ [])
  made (step.Compound at) vs = ATerm (Node (name_at xs at) (with_rest (top_items (below vs)) (Cons (top_term vs) Nil)))
  made step.Empty vs = ATerm (Atom (codes "[]"))
  made step.List vs = ATerm (cells (top_items (below vs)) (cell (top_term vs) (Atom (codes "[]"))))
  made step.Tailed vs = ATerm (cells (top_items (below (below vs))) (cell (top_term (below vs)) (top_term vs)))

  -- the values that it leaves as they are
  abbrev pub left : Step → List Value → List Value
  left (step.Operand at) vs = vs
  left (step.Integer z) vs = vs
  left (step.Prefix at) vs = below vs
  left (step.Infix at) vs = below (below vs)
  left step.Group vs = below vs
  left step.Begin vs = vs
  left step.Item vs = below (below vs)
  left (step.Compound at) vs = below (below vs)
  left step.Empty vs = below vs
  left step.List vs = below (below vs)
  left step.Tailed vs = below (below (below vs))

  abbrev pub evaluated : List Value → List Step → List Value
  evaluated vs [] = vs
  evaluated vs (s ∷ steps) = evaluated (made s vs ∷ left s vs) steps

  abbrev pub each_meaning : Items → List Written
  each_meaning Begin = []
  each_meaning (Then items t at) = each_meaning items ++ meaning xs t ∷ []

  pub with_rest-push : (ys : List Written) (x : Written) (rest : Writtens) → with_rest (ys ++ x ∷ []) rest ≡ with_rest ys (Cons x rest)
  with_rest-push [] x rest = refl
  with_rest-push (y ∷ ys) x rest = ap (Cons y) (with_rest-push ys x rest)

  pub cells-push : (ys : List Written) (x rest : Written) → cells (ys ++ x ∷ []) rest ≡ cells ys (cell x rest)
  cells-push [] x rest = refl
  cells-push (y ∷ ys) x rest = ap (cell y) (cells-push ys x rest)

  pub arguments-is : (items : Items) (rest : Writtens) → with_rest (each_meaning items) rest ≡ arguments xs items rest
  arguments-is Begin rest = refl
  arguments-is (Then items t at) rest = with_rest-push (each_meaning items) (meaning xs t) rest ∙ arguments-is items (Cons (meaning xs t) rest)

  pub listed-is : (items : Items) (rest : Written) → cells (each_meaning items) rest ≡ listed xs items rest
  listed-is Begin rest = refl
  listed-is (Then items t at) rest = cells-push (each_meaning items) (meaning xs t) rest ∙ listed-is items (cell (meaning xs t) rest)

  -- the steps of a term leave its meaning on the stack
  mutual
    pub evaluates : (t : Tree) (vs : List Value) (rest : List Step) → evaluated vs (postfix t ++ rest) ≡ evaluated (ATerm (meaning xs t) ∷ vs) rest
    evaluates (Single at) vs rest = refl
    evaluates (Positive n) vs rest = refl
    evaluates (Negative sign i n) vs rest = refl
    evaluates (Prefix o t) vs rest = ap (evaluated vs) (append_assoc (postfix t) (step.Prefix (place o) ∷ []) rest) ∙ evaluates t vs (step.Prefix (place o) ∷ rest)
    evaluates (Infix l o r) vs rest = ap (evaluated vs) (append_assoc (postfix l) (postfix r ++ step.Infix (place o) ∷ []) rest ∙ ap (λ y. postfix l ++ y) (append_assoc (postfix r) (step.Infix (place o) ∷ []) rest)) ∙ evaluates l vs (postfix r ++ step.Infix (place o) ∷ rest) ∙ evaluates r (ATerm (meaning xs l) ∷ vs) (step.Infix (place o) ∷ rest)
    evaluates (Group t) vs rest = ap (evaluated vs) (append_assoc (postfix t) (step.Group ∷ []) rest) ∙ evaluates t vs (step.Group ∷ rest)
    evaluates (Compound at i items t) vs rest = ap (evaluated vs) (append_assoc (posts items) (postfix t ++ step.Compound at ∷ []) rest ∙ ap (λ y. posts items ++ y) (append_assoc (postfix t) (step.Compound at ∷ []) rest)) ∙ gathers items vs (postfix t ++ step.Compound at ∷ rest) ∙ evaluates t (Gathered (each_meaning items) ∷ vs) (step.Compound at ∷ rest) ∙ ap (λ a. evaluated (ATerm (Node (name_at xs at) a) ∷ vs) rest) (arguments-is items (Cons (meaning xs t) Nil))
    evaluates Empty vs rest = refl
    evaluates (Listed items t) vs rest = ap (evaluated vs) (append_assoc (posts items) (postfix t ++ step.List ∷ []) rest ∙ ap (λ y. posts items ++ y) (append_assoc (postfix t) (step.List ∷ []) rest)) ∙ gathers items vs (postfix t ++ step.List ∷ rest) ∙ evaluates t (Gathered (each_meaning items) ∷ vs) (step.List ∷ rest) ∙ ap (λ a. evaluated (ATerm a ∷ vs) rest) (listed-is items (cell (meaning xs t) (Atom (codes "[]"))))
    evaluates (Tailed items t u) vs rest = ap (evaluated vs) (append_assoc (posts items) (postfix t ++ (postfix u ++ step.Tailed ∷ [])) rest ∙ ap (λ y. posts items ++ y) (append_assoc (postfix t) (postfix u ++ step.Tailed ∷ []) rest ∙ ap (λ y. postfix t ++ y) (append_assoc (postfix u) (step.Tailed ∷ []) rest))) ∙ gathers items vs (postfix t ++ (postfix u ++ step.Tailed ∷ rest)) ∙ evaluates t (Gathered (each_meaning items) ∷ vs) (postfix u ++ step.Tailed ∷ rest) ∙ evaluates u (ATerm (meaning xs t) ∷ Gathered (each_meaning items) ∷ vs) (step.Tailed ∷ rest) ∙ ap (λ a. evaluated (ATerm a ∷ vs) rest) (listed-is items (cell (meaning xs t) (meaning xs u)))

    pub gathers : (items : Items) (vs : List Value) (rest : List Step) → evaluated vs (posts items ++ rest) ≡ evaluated (Gathered (each_meaning items) ∷ vs) rest
    gathers Begin vs rest = refl
    gathers (Then items t at) vs rest = ap (evaluated vs) (append_assoc (posts items) (postfix t ++ step.Item ∷ []) rest ∙ ap (λ y. posts items ++ y) (append_assoc (postfix t) (step.Item ∷ []) rest)) ∙ gathers items vs (postfix t ++ step.Item ∷ rest) ∙ evaluates t (Gathered (each_meaning items) ∷ vs) (step.Item ∷ rest)

-- what the code keeps of the values, the one on top last
abbrev pub stacked : {A : Type 0} → (Value → A) → List Value → List A
stacked f [] = []
stacked f (v ∷ vs) = stacked f vs ++ f v ∷ []
