-- A step that names the same among other leaves makes the same.
use Rattle.std.proofs.Common.{◌≡◌, List, [], ◌∷◌, ◌++◌, refl, sym, ap, subst, ◌∙◌, append_assoc}
use Rattle.ap_lexer.specs.Lexeme.{Text}
use Rattle.ap_reader.specs.declared.pass.Step.{Step}
use Rattle.ap_reader.specs.declared.pass.Step.TheVariants as p
use Rattle.ap_reader.specs.Written.{Written, Node, Nil, Cons, name_of}
use Rattle.ap_reader.specs.Evaluated.{Value, ATerm, top_term, top_items, below, made, left, evaluated, with_rest}
use Rattle.ap_reader.specs.Held.{Fits, AllFit}
use Rattle.ap_reader.specs.Build.{step_names, leaf_names, names}
use Rattle.ap_reader.specs.Long.{IsSame}

made_same : (xs ys : List Written) (real step : Step) (vs : List Value) → IsSame xs ys real step → made xs real vs ≡ made ys step vs
made_same xs ys (p.Operand at) step vs k = ap ATerm (sym k.2) ∙ ap (λ s. made ys s vs) (sym k.1)
made_same xs ys (p.Prefix at) step vs k = ap (λ x. ATerm (Node (name_of x) (Cons (top_term vs) Nil))) (sym k.2) ∙ ap (λ s. made ys s vs) (sym k.1)
made_same xs ys (p.Infix at) step vs k = ap (λ x. ATerm (Node (name_of x) (Cons (top_term (below vs)) (Cons (top_term vs) Nil)))) (sym k.2) ∙ ap (λ s. made ys s vs) (sym k.1)
made_same xs ys (p.Compound at) step vs k = ap (λ x. ATerm (Node (name_of x) (with_rest (top_items (below vs)) (Cons (top_term vs) Nil)))) (sym k.2) ∙ ap (λ s. made ys s vs) (sym k.1)
made_same xs ys (p.Integer z) step vs k = ap (λ s. made ys s vs) (sym k)
made_same xs ys p.Group step vs k = ap (λ s. made ys s vs) (sym k)
made_same xs ys p.Begin step vs k = ap (λ s. made ys s vs) (sym k)
made_same xs ys p.Item step vs k = ap (λ s. made ys s vs) (sym k)
made_same xs ys p.Empty step vs k = ap (λ s. made ys s vs) (sym k)
made_same xs ys p.List step vs k = ap (λ s. made ys s vs) (sym k)
made_same xs ys p.Tailed step vs k = ap (λ s. made ys s vs) (sym k)

left_same : (xs ys : List Written) (real step : Step) (vs : List Value) → IsSame xs ys real step → left xs real vs ≡ left ys step vs
left_same xs ys (p.Operand at) step vs k = ap (λ s. left ys s vs) (sym k.1)
left_same xs ys (p.Prefix at) step vs k = ap (λ s. left ys s vs) (sym k.1)
left_same xs ys (p.Infix at) step vs k = ap (λ s. left ys s vs) (sym k.1)
left_same xs ys (p.Compound at) step vs k = ap (λ s. left ys s vs) (sym k.1)
left_same xs ys (p.Integer z) step vs k = ap (λ s. left ys s vs) (sym k)
left_same xs ys p.Group step vs k = ap (λ s. left ys s vs) (sym k)
left_same xs ys p.Begin step vs k = ap (λ s. left ys s vs) (sym k)
left_same xs ys p.Item step vs k = ap (λ s. left ys s vs) (sym k)
left_same xs ys p.Empty step vs k = ap (λ s. left ys s vs) (sym k)
left_same xs ys p.List step vs k = ap (λ s. left ys s vs) (sym k)
left_same xs ys p.Tailed step vs k = ap (λ s. left ys s vs) (sym k)

pub names_same : (xs ys : List Written) (real step : Step) → IsSame xs ys real step → step_names xs real ≡ step_names ys step
names_same xs ys (p.Operand at) step k = ap leaf_names (sym k.2) ∙ ap (step_names ys) (sym k.1)
names_same xs ys (p.Prefix at) step k = ap (λ x. name_of x ∷ []) (sym k.2) ∙ ap (step_names ys) (sym k.1)
names_same xs ys (p.Infix at) step k = ap (λ x. name_of x ∷ []) (sym k.2) ∙ ap (step_names ys) (sym k.1)
names_same xs ys (p.Compound at) step k = ap (λ x. name_of x ∷ []) (sym k.2) ∙ ap (step_names ys) (sym k.1)
names_same xs ys (p.Integer z) step k = ap (step_names ys) (sym k)
names_same xs ys p.Group step k = ap (step_names ys) (sym k)
names_same xs ys p.Begin step k = ap (step_names ys) (sym k)
names_same xs ys p.Item step k = ap (step_names ys) (sym k)
names_same xs ys p.Empty step k = ap (step_names ys) (sym k)
names_same xs ys p.List step k = ap (step_names ys) (sym k)
names_same xs ys p.Tailed step k = ap (step_names ys) (sym k)

pub fits_same : (xs ys : List Written) (real step : Step) (vs : List Value) → IsSame xs ys real step → Fits real vs → Fits step vs
fits_same xs ys (p.Operand at) step vs k f = subst (λ s. Fits s vs) (sym k.1) f
fits_same xs ys (p.Prefix at) step vs k f = subst (λ s. Fits s vs) (sym k.1) f
fits_same xs ys (p.Infix at) step vs k f = subst (λ s. Fits s vs) (sym k.1) f
fits_same xs ys (p.Compound at) step vs k f = subst (λ s. Fits s vs) (sym k.1) f
fits_same xs ys (p.Integer z) step vs k f = subst (λ s. Fits s vs) (sym k) f
fits_same xs ys p.Group step vs k f = subst (λ s. Fits s vs) (sym k) f
fits_same xs ys p.Begin step vs k f = subst (λ s. Fits s vs) (sym k) f
fits_same xs ys p.Item step vs k f = subst (λ s. Fits s vs) (sym k) f
fits_same xs ys p.Empty step vs k f = subst (λ s. Fits s vs) (sym k) f
fits_same xs ys p.List step vs k f = subst (λ s. Fits s vs) (sym k) f
fits_same xs ys p.Tailed step vs k f = subst (λ s. Fits s vs) (sym k) f

evaluated_push : (xs : List Written) (vs : List Value) (steps : List Step) (s : Step) → evaluated xs vs (steps ++ s ∷ []) ≡ made xs s (evaluated xs vs steps) ∷ left xs s (evaluated xs vs steps)
evaluated_push xs vs [] s = refl
evaluated_push xs vs (r ∷ steps) s = evaluated_push xs (made xs r vs ∷ left xs r vs) steps s

-- the values behind one step more
pub folded : (xs ys : List Written) (done : List Step) (real step : Step) → IsSame xs ys real step → made ys step (evaluated xs [] done) ∷ left ys step (evaluated xs [] done) ≡ evaluated xs [] (done ++ real ∷ [])
folded xs ys done real step k =
    let vs = evaluated xs [] done in
    ap (λ v. v ∷ left ys step vs) (sym (made_same xs ys real step vs k)) ∙ ap (λ l. made xs real vs ∷ l) (sym (left_same xs ys real step vs k)) ∙ sym (evaluated_push xs [] done real)

pub fits_at : (xs : List Written) (vs : List Value) (done more : List Step) (s : Step) → AllFit xs vs (done ++ s ∷ more) → Fits s (evaluated xs vs done)
fits_at xs vs [] more s f = f.0
fits_at xs vs (r ∷ done) more s f = fits_at xs (made xs r vs ∷ left xs r vs) done more s f.1

pub names_push : (xs : List Written) (done : List Step) (s : Step) → names xs (done ++ s ∷ []) ≡ names xs done ++ step_names xs s
names_push xs [] s = last (step_names xs s)
  where
    last : (ns : List Text) → ns ++ [] ≡ ns
    last [] = refl
    last (n ∷ ns) = ap (λ l. n ∷ l) (last ns)
names_push xs (r ∷ done) s = ap (λ l. step_names xs r ++ l) (names_push xs done s) ∙ sym (append_assoc (step_names xs r) (names xs done) (step_names xs s))

pub names_split : (xs : List Written) (done more : List Step) (s : Step) → names xs (done ++ s ∷ more) ≡ names xs done ++ (step_names xs s ++ names xs more)
names_split xs [] more s = refl
names_split xs (r ∷ done) more s = ap (λ l. step_names xs r ++ l) (names_split xs done more s) ∙ sym (append_assoc (step_names xs r) (names xs done) (step_names xs s ++ names xs more))
