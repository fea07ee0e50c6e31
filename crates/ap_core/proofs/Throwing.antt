-- An answer that is thrown away.
use Rattle.std.specs.Prelude.{Box, Vec}
use Rattle.std.specs.declared.alloc.Global.{Global}
use Rattle.std.proofs.Common.{map, subst, ◌≡◌, ℕ, Bool, true, false, List, [], ◌∷◌, ◌++◌, Option, Some, None, if◌then◌else◌, refl, ap, sym, ◌∙◌}
use Rattle.ap_core.specs.declared.tasks.Busy.{Busy}
use Rattle.ap_core.specs.declared.tasks.Answer.{Answer as CodeAnswer}
use Rattle.ap_core.specs.declared.tasks.Task.{Task as CodeTask}
use Rattle.ap_core.specs.declared.tasks.Progress.{Progress as CodeProgress}
use Rattle.ap_core.specs.declared.tasks.Progress.TheVariants as progress
use Rattle.ap_core.specs.TaskView.{answer_of, progress_view, task_view}
use Rattle.ap_core.proofs.Levels.{view_drained}
use Rattle.ap_core.specs.Tasks.{Answer, Task, Progress, drained}
use Rattle.ap_core.specs.Conditions.{is_running}
use Rattle.ap_core.specs.Relation.{mapped, answer}
use Rattle.ap_core.specs.Outcome.{Thrown, thrown_answer}

pub thrown_made : (x : Busy) (m l : List Answer) (t u : Task) (i e : ℕ) → Thrown true x m t l u → thrown_answer (drained m x t i e) ≡ Some (drained l x u i e)
thrown_made x m l t u i e h =
    let a = h.1.0 in
    ap (λ b. if b then mapped (λ y. drained (m ++ y.0 ∷ []) x y.1 i e) (answer t) else None) h.0
    ∙ ap (mapped {A = Answer × Task} {B = Progress} (λ y. drained (m ++ y.0 ∷ []) x y.1 i e)) h.1.1
    ∙ ap (λ k. Some (drained k x u i e)) (sym h.1.2)

pub thrown_none : (x : Busy) (m l : List Answer) (t u : Task) (i e : ℕ) → Thrown false x m t l u → thrown_answer (drained m x t i e) ≡ None
thrown_none x m l t u i e h = go (is_running x) (answer t) h.0
  where
    go : (b : Bool) (o : Option (Answer × Task)) → (if b then o else None) ≡ None → (if b then mapped {A = Answer × Task} {B = Progress} (λ y. drained (m ++ y.0 ∷ []) x y.1 i e) o else None) ≡ None
    go true None k = refl
    go true (Some y) k = absurd (cc)
    go false o k = refl

pub thrown_same : (x : Busy) (m l : List Answer) (t u : Task) (i e : ℕ) → Thrown false x m t l u → drained l x u i e ≡ drained m x t i e
thrown_same x m l t u i e h = ap (λ k. drained k x u i e) h.1 ∙ ap (λ v. drained m x v i e) h.2

-- the slot that was read, and the one that is written
pub drained_made : (x : CodeProgress) (m l : Vec CodeAnswer Global) (s : Busy) (t w : Box CodeTask Global) (u : CodeTask) (i e : ℕ) (b : Bool) → x ≡ progress.Drained m s t i e → u ≡ t.value
    → Thrown b s (map answer_of m.items) (task_view u) (map answer_of l.items) (task_view w.value) → b ≡ true → thrown_answer (progress_view x) ≡ Some (progress_view (progress.Drained l s w i e))
drained_made x m l s t w u i e b q g h v =
    let k : Thrown true s (map answer_of m.items) (task_view u) (map answer_of l.items) (task_view w.value) = subst (λ d. Thrown d s (map answer_of m.items) (task_view u) (map answer_of l.items) (task_view w.value)) v h in
    ap thrown_answer (ap progress_view q ∙ view_drained m s t i e ∙ ap (λ y. drained (map answer_of m.items) s (task_view y) i e) (sym g))
    ∙ thrown_made s (map answer_of m.items) (map answer_of l.items) (task_view u) (task_view w.value) i e k ∙ ap Some (sym (view_drained l s w i e))

pub drained_refused : (x : CodeProgress) (m l : Vec CodeAnswer Global) (s : Busy) (t w : Box CodeTask Global) (u : CodeTask) (i e : ℕ) (b : Bool) → x ≡ progress.Drained m s t i e → u ≡ t.value
    → Thrown b s (map answer_of m.items) (task_view u) (map answer_of l.items) (task_view w.value) → b ≡ false
    → (thrown_answer (progress_view x) ≡ None) × (progress_view (progress.Drained l s w i e) ≡ progress_view x)
drained_refused x m l s t w u i e b q g h v =
    let k : Thrown false s (map answer_of m.items) (task_view u) (map answer_of l.items) (task_view w.value) = subst (λ d. Thrown d s (map answer_of m.items) (task_view u) (map answer_of l.items) (task_view w.value)) v h in
    let r : progress_view x ≡ drained (map answer_of m.items) s (task_view u) i e = ap progress_view q ∙ view_drained m s t i e ∙ ap (λ y. drained (map answer_of m.items) s (task_view y) i e) (sym g) in (
      ap thrown_answer r ∙ thrown_none s (map answer_of m.items) (map answer_of l.items) (task_view u) (task_view w.value) i e k,
      view_drained l s w i e ∙ thrown_same s (map answer_of m.items) (map answer_of l.items) (task_view u) (task_view w.value) i e k ∙ sym r,
    )

pub drained_kept : (x : CodeProgress) (m l : Vec CodeAnswer Global) (s : Busy) (t w : Box CodeTask Global) (u : CodeTask) (i e : ℕ) → x ≡ progress.Drained m s t i e → u ≡ t.value
    → (map answer_of l.items ≡ map answer_of m.items) × (task_view w.value ≡ task_view u) → progress_view (progress.Drained l s w i e) ≡ progress_view x
drained_kept x m l s t w u i e q g h =
    view_drained l s w i e ∙ ap (λ k. drained k s (task_view w.value) i e) h.0 ∙ ap (λ v. drained (map answer_of m.items) s v i e) h.1
    ∙ sym (ap progress_view q ∙ view_drained m s t i e ∙ ap (λ y. drained (map answer_of m.items) s (task_view y) i e) (sym g))
