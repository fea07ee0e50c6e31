-- The steps that structures take, by the instructions of their arguments.
use Rattle.std.proofs.Common.{◌≡◌, ℕ, ◌+◌, ◌<◌, ◌≤◌, Bool, true, false, List, ◌∷◌, length, ap, sym, ◌∙◌, subst, arith}
use Rattle.ap_term.specs.Tree.{Tree, Trees, var, node, count_trees}
use Rattle.ap_term.proofs.Facts.{funext}
use Rattle.ap_cells.specs.declared.cells.Raw.{Raw}
use Rattle.ap_cells.specs.Trees.{tree_at, trees}
use Rattle.ap_instr.specs.Code.{Compiled}
use Rattle.ap_instr.specs.Step.{get_structure, put_structure}
use Rattle.ap_instr.specs.Steps.{steps_from}
use Rattle.ap_instr.specs.Runs.{set, spread}
use Rattle.ap_instr.proofs.Registers.{count-spread}
use Rattle.ap_match.specs.Fits.{Fits, Becomes, Answered}
use Rattle.ap_steps.specs.Moves.{IsStuck}
use Rattle.ap_steps.specs.Arguments.{BuiltAll, IsStuckInside, KeepTrees}
use Rattle.ap_steps.specs.Found.{MatchedAll}
use Rattle.ap_steps.specs.Ways.{StepTaken}
use Rattle.ap_steps.proofs.NewCells.{asked-of}
use Rattle.ap_steps.proofs.StructureSteps.{node-args, node-name, structure-built, structure-stuck, structure-found, found-stuck, another-stuck, got-apart, got-built}

module _ (code : Compiled) (at f n a : ℕ) (cs : List Raw) (x y : ℕ → ℕ) where
  -- an argument's term that is there
  pub found-taken : (p : ℕ) → ((k : ℕ → Tree) → Fits cs k → k (x a) ≡ node f (spread k p n)) → (ds : List Raw) (x' y' : ℕ → ℕ) (b : Bool) → MatchedAll code at p n cs x y ds x' y' b → StepTaken code (get_structure f n a) at n cs x y ds x' y' b
  found-taken p found ds x' y' true m = structure-found cs x y f n a (steps_from code at) p found ds x' y' (steps_from code (at + n)) (p + n) m
  found-taken p found ds x' y' false m = found-stuck cs x y f n a (steps_from code at) p found m

  -- another one
  pub another-taken : (g p m : ℕ) → (g ≡ f → m ≡ n → ⊥) → ((k : ℕ → Tree) → Fits cs k → k (x a) ≡ node g (spread k p m)) → IsStuck cs x y (get_structure f n a ∷ steps_from code at)
  another-taken g p m apart found =
      another-stuck cs x y f n a (steps_from code at)
      (λ k ts h e q. let r : node g (spread k p m) ≡ node f ts = sym (found k h) ∙ q in
      apart (node-name g f (spread k p m) ts r) (sym (count-spread k p m) ∙ ap count_trees (node-args g f (spread k p m) ts r) ∙ e))

  pub no_structure : (t : Tree) → ((ts : Trees) → t ≡ node f ts → ⊥) → ((k : ℕ → Tree) → Fits cs k → k (x a) ≡ t) → IsStuck cs x y (get_structure f n a ∷ steps_from code at)
  no_structure t apart found = another-stuck cs x y f n a (steps_from code at) (λ k ts h e q. apart ts (sym (found k h) ∙ q))

  -- one that is built and bound to a variable, which the argument was before
  module _ (inside_x : (w : ℕ) → x w < length cs) (inside_y : (w : ℕ) → y w < length cs) (variable first : ℕ) (is_first : first ≡ length cs) (inside : variable < length cs) (unbound : tree_at (trees cs) variable ≡ var variable) (was : tree_at (trees cs) (x a) ≡ var variable) where
    pub built-taken : (ds es : List Raw) (x' y' : ℕ → ℕ) → KeepTrees cs ds → BuiltAll n cs x y (steps_from code at) ds x' y' (steps_from code (at + n)) → ((w : ℕ) → x' w < length ds) → ((w : ℕ) → y' w < length ds) → (b : Bool)
        → Answered ds es (λ k. k variable ≡ node f (spread k first n)) b → StepTaken code (get_structure f n a) at n cs x y es x' y' b
    built-taken ds es x' y' keep built in_x in_y b answer =
        go b (subst (λ q. Answered ds es (λ k. k (x a) ≡ node f (spread k q n)) b) is_first (asked-of cs ds es variable (x a) keep longer inside (inside_x a) unbound was (λ k. node f (spread k first n)) b answer))
      where
        longer : length cs ≤ length ds
        longer = let l : length ds ≡ length cs + n = built.longer in omega arith

        go : (b : Bool) → Answered ds es (λ k. k (x a) ≡ node f (spread k (length cs) n)) b → StepTaken code (get_structure f n a) at n cs x y es x' y' b
        go true becomes = got-built cs x y f n a (steps_from code at) inside_x inside_y ds es x' y' (steps_from code (at + n)) built in_x in_y becomes
        go false never = got-apart cs x y f n a (steps_from code at) inside_x inside_y ds es x' y' (steps_from code (at + n)) built never

  -- one that is put into a register
  module _ (inside_x : (w : ℕ) → x w < length cs) (inside_y : (w : ℕ) → y w < length cs) (first whole : ℕ) (is_first : first ≡ length cs) (is_whole : whole ≡ length cs + n) (xa : ℕ → ℕ) (put : (w : ℕ) → xa w ≡ set x a whole w) where
    registers : xa ≡ set x a whole
    registers = funext xa (set x a whole) put

    pub put-taken : (ds es : List Raw) (x' y' : ℕ → ℕ) (p : ℕ) → BuiltAll n cs xa y (steps_from code at) ds x' y' (steps_from code (at + n)) → p ≡ length ds → Becomes ds es (λ k. Unit {0}) (λ k. k p ≡ node f (spread k first n))
        → ((k : ℕ → Tree) → Fits ds k → k p ≡ node f (spread k first n) → Fits es k) → StepTaken code (put_structure f n a) at n cs x y es x' y' true
    put-taken ds es x' y' p built is_p becomes fits =
        structure-built cs x y inside_x inside_y f n a whole is_whole (steps_from code at) ds es x' y' (steps_from code (at + n)) (subst (λ u. BuiltAll n cs u y (steps_from code at) ds x' y' (steps_from code (at + n))) registers built) becomes.longer
        (λ l h. let o = becomes.only l h in (o.0, subst (λ q. l q ≡ node f (spread l (length cs) n)) place (subst (λ q. l p ≡ node f (spread l q n)) is_first o.2)))
        (λ l h e. fits l h (subst (λ q. l p ≡ node f (spread l q n)) (sym is_first) (subst (λ q. l q ≡ node f (spread l (length cs) n)) (sym place) e)))
      where
        place : p ≡ whole
        place = let q : length ds ≡ length cs + n = built.longer in omega arith

    pub put-stuck : IsStuckInside (length cs + n) n cs xa y (steps_from code at) → IsStuck cs x y (put_structure f n a ∷ steps_from code at)
    put-stuck stuck =
        structure-stuck cs x y inside_x inside_y f n a whole is_whole (steps_from code at)
        (subst (λ u. IsStuckInside whole n cs u y (steps_from code at)) registers (subst (λ w. IsStuckInside w n cs xa y (steps_from code at)) (sym is_whole) stuck))
