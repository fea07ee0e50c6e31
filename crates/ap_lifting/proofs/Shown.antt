-- What stands for a body, under instances.
use Rattle.std.proofs.Common.{◌≡◌, ℕ, Bool, true, false, List, [], ◌∷◌, ◌++◌, map, refl, ap, sym, ◌∙◌, subst, Option, Some, None}
use Rattle.ap_term.specs.Tree.{Tree, Trees, none, more, append_trees}
use Rattle.ap_term.specs.Substitution.{instance, instance_all}
use Rattle.ap_term.specs.Goals.{Program, plain_goals}
use Rattle.ap_term.proofs.Copies.{instance_twice, instance_all_twice}
use Rattle.ap_term.proofs.TreeLists.{instance_all-append_trees}
use Rattle.ap_term.proofs.WellFormed.{callable-instance}
use Rattle.ap_lifting.specs.Body.{Body, goal, conjunction, disjunction, parallel, conditional}
use Rattle.ap_lifting.specs.Lifted.{stays, lifted_goal}
use Rattle.ap_lifting.specs.WrittenSearch.{Item, calling, choosing, entering, operand_items, items, instance_body, instance_item, items_if}
use Rattle.ap_lifting.specs.Shown.{IsOrdinary, IsEntry, IsChoice, Alone, InTurn, Operand, Shows, ShowsItem, ShowsAll, ShowsIf}
use Rattle.ap_lifting.proofs.LiftedCalls.{named_callable}

-- ---- bodies

stays-instance : (l : Bool) (f : ℕ → Tree) (b : Body) → stays l (instance_body f b) ≡ stays l b
stays-instance l f (goal t) = refl
stays-instance l f (conjunction a b) = refl
stays-instance l f (disjunction a b) = refl
stays-instance l f (parallel a b) = refl
stays-instance l f (conditional cs b) = refl

-- ---- what stands for them

module _ (names : ℕ → ℕ) (count : ℕ) (p : Program) where
  pub ShowsAll-append : (is js : List Item) (ts us : Trees) → ShowsAll names count p is ts → ShowsAll names count p js us → ShowsAll names count p (is ++ js) (append_trees ts us)
  ShowsAll-append [] js none us h k = k
  ShowsAll-append (i ∷ is) js (more t ts) us h k = (h.0, ShowsAll-append is js ts us h.1 k)
  ShowsAll-append [] js (more _ _) us h k = absurd h
  ShowsAll-append (_ ∷ _) js none us h k = absurd h

  one_item : (i : Item) (ts : Trees) → Alone names count p (ShowsItem names count p i) ts → ShowsAll names count p (i ∷ []) ts
  one_item i none h = absurd h
  one_item i (more t none) h = (h, tt)
  one_item i (more t (more u ts)) h = absurd h

  operand_shows : (s : Bool) (b : Body) (ts : Trees) → ((us : Trees) → Shows names count p b us → ShowsAll names count p (items b) us) → Operand names count p s (Shows names count p b) ts
      → ShowsAll names count p (operand_items s b (items b)) ts
  operand_shows true b ts e h = e ts h
  operand_shows false b ts e h = one_item (entering b) ts h

  pub items_show : (b : Body) (ts : Trees) → Shows names count p b ts → ShowsAll names count p (items b) ts
  items_show (goal t) ts h = one_item (calling t) ts h
  items_show (conjunction a b) ts h =
      subst (ShowsAll names count p (items a ++ items b)) (sym h.2) (ShowsAll-append (items a) (items b) h.0 h.1 (items_show a h.0 h.3) (items_show b h.1 h.4))
  items_show (disjunction a b) ts h = one_item (choosing a b) ts h
  items_show (parallel a b) ts h =
      subst (ShowsAll names count p (operand_items (stays false a) a (items a) ++ operand_items (stays true b) b (items b))) (sym h.2)
      (ShowsAll-append (operand_items (stays false a) a (items a)) (operand_items (stays true b) b (items b)) h.0 h.1
      (operand_shows (stays false a) a h.0 (items_show a) h.3) (operand_shows (stays true b) b h.1 (items_show b) h.4))
  items_show (conditional cs b) ts h = items_show b ts h

  pub items_show_if : (b : Option Body) (ts : Trees) → ShowsIf names count p b ts → ShowsAll names count p (items_if b) ts
  items_show_if None ts h = subst (ShowsAll names count p []) (sym h) tt
  items_show_if (Some b) ts h = items_show b ts h

  module _ (f : ℕ → Tree) where
    ordinary_kept : (t : Tree) → IsOrdinary names count p t → IsOrdinary names count p (instance f t)
    ordinary_kept t h = record {
      callable = callable-instance f t h.callable;
      other = λ i l. named_callable (names i) t f h.callable ∙ h.other i l;
    }

    entry_kept : (S R : Trees → Type 0) → ((ts : Trees) → S ts → R (instance_all f ts)) → (t : Tree) → IsEntry names count p S t → IsEntry names count p R (instance f t)
    entry_kept S R e t h = record {
      vars = h.vars;
      line = h.line;
      number = h.number;
      fixed = h.fixed;
      args = λ x. instance f (h.args x);
      body = h.body;
      is = ap (instance f) h.is ∙ instance_twice h.args f (lifted_goal names h.vars h.line h.number);
      clauses = h.clauses;
      inside = subst R (instance_all_twice h.args f (plain_goals h.body)) (e (instance_all h.args (plain_goals h.body)) h.inside);
    }

    choice_kept : (S R U V : Trees → Type 0) → ((ts : Trees) → S ts → U (instance_all f ts)) → ((ts : Trees) → R ts → V (instance_all f ts)) → (t : Tree) → IsChoice names count p S R t
        → IsChoice names count p U V (instance f t)
    choice_kept S R U V e d t h = record {
      vars = h.vars;
      line = h.line;
      number = h.number;
      fixed = h.fixed;
      args = λ x. instance f (h.args x);
      first = h.first;
      second = h.second;
      is = ap (instance f) h.is ∙ instance_twice h.args f (lifted_goal names h.vars h.line h.number);
      clauses = h.clauses;
      in_first = subst U (instance_all_twice h.args f (plain_goals h.first)) (e (instance_all h.args (plain_goals h.first)) h.in_first);
      in_second = subst V (instance_all_twice h.args f (plain_goals h.second)) (d (instance_all h.args (plain_goals h.second)) h.in_second);
    }

    alone_kept : (P Q : Tree → Type 0) → ((t : Tree) → P t → Q (instance f t)) → (ts : Trees) → Alone names count p P ts → Alone names count p Q (instance_all f ts)
    alone_kept P Q e none h = absurd h
    alone_kept P Q e (more t none) h = e t h
    alone_kept P Q e (more t (more u ts)) h = absurd h

    in_turn_kept : (S R U V : Trees → Type 0) → ((ts : Trees) → S ts → U (instance_all f ts)) → ((ts : Trees) → R ts → V (instance_all f ts)) → (ts : Trees) → InTurn names count p S R ts
        → InTurn names count p U V (instance_all f ts)
    in_turn_kept S R U V e d ts h = (instance_all f h.0, instance_all f h.1, ap (instance_all f) h.2 ∙ instance_all-append_trees f h.0 h.1, e h.0 h.3, d h.1 h.4)

    operand_kept : (s : Bool) (S R : Trees → Type 0) → ((ts : Trees) → S ts → R (instance_all f ts)) → (ts : Trees) → Operand names count p s S ts → Operand names count p s R (instance_all f ts)
    operand_kept true S R e ts h = e ts h
    operand_kept false S R e ts h = alone_kept (IsEntry names count p S) (IsEntry names count p R) (entry_kept S R e) ts h

    pub shows_kept : (b : Body) (ts : Trees) → Shows names count p b ts → Shows names count p (instance_body f b) (instance_all f ts)
    shows_kept (goal t) ts h =
        alone_kept (λ u. (u ≡ t) × IsOrdinary names count p t) (λ u. (u ≡ instance f t) × IsOrdinary names count p (instance f t)) (λ u k. (ap (instance f) k.0, ordinary_kept t k.1)) ts h
    shows_kept (conjunction a b) ts h =
        in_turn_kept (Shows names count p a) (Shows names count p b) (Shows names count p (instance_body f a)) (Shows names count p (instance_body f b)) (shows_kept a) (shows_kept b) ts h
    shows_kept (disjunction a b) ts h =
        alone_kept (IsChoice names count p (Shows names count p a) (Shows names count p b)) (IsChoice names count p (Shows names count p (instance_body f a)) (Shows names count p (instance_body f b)))
        (choice_kept (Shows names count p a) (Shows names count p b) (Shows names count p (instance_body f a)) (Shows names count p (instance_body f b)) (shows_kept a) (shows_kept b)) ts h
    shows_kept (parallel a b) ts h =
        in_turn_kept (Operand names count p (stays false a) (Shows names count p a)) (Operand names count p (stays true b) (Shows names count p b))
        (Operand names count p (stays false (instance_body f a)) (Shows names count p (instance_body f a))) (Operand names count p (stays true (instance_body f b)) (Shows names count p (instance_body f b)))
        (λ us k. subst (λ s. Operand names count p s (Shows names count p (instance_body f a)) (instance_all f us)) (sym (stays-instance false f a))
        (operand_kept (stays false a) (Shows names count p a) (Shows names count p (instance_body f a)) (shows_kept a) us k))
        (λ us k. subst (λ s. Operand names count p s (Shows names count p (instance_body f b)) (instance_all f us)) (sym (stays-instance true f b))
        (operand_kept (stays true b) (Shows names count p b) (Shows names count p (instance_body f b)) (shows_kept b) us k)) ts h
    shows_kept (conditional cs b) ts h = shows_kept b ts h

    item_kept : (i : Item) (t : Tree) → ShowsItem names count p i t → ShowsItem names count p (instance_item f i) (instance f t)
    item_kept (calling u) t h = (ap (instance f) h.0, ordinary_kept u h.1)
    item_kept (choosing a b) t h = choice_kept (Shows names count p a) (Shows names count p b) (Shows names count p (instance_body f a)) (Shows names count p (instance_body f b)) (shows_kept a) (shows_kept b) t h
    item_kept (entering b) t h = entry_kept (Shows names count p b) (Shows names count p (instance_body f b)) (shows_kept b) t h

    pub all_kept : (is : List Item) (ts : Trees) → ShowsAll names count p is ts → ShowsAll names count p (map (instance_item f) is) (instance_all f ts)
    all_kept [] none h = tt
    all_kept (i ∷ is) (more t ts) h = (item_kept i t h.0, all_kept is ts h.1)
    all_kept [] (more _ _) h = absurd h
    all_kept (_ ∷ _) none h = absurd h
