-- Workers that have taken no goal.
use Rattle.std.proofs.Common.{◌≡◌, ◌≤◌, All, List, [], ◌∷◌, ◌++◌, Option, sym, ◌∙◌, subst, arith}
use Rattle.std.specs.List.{AllByRecursion}
use Rattle.std.proofs.lemmas.List.Elements.{All-from_recursion, recursion_from_All}
use Rattle.ap_post.specs.Posts.{jobs_in}
use Rattle.ap_stack.specs.Stacks.{IsGood}
use Rattle.ap_worker.specs.declared.lead.Lead.{Lead}
use Rattle.ap_worker.specs.declared.worker.Worker.{Worker}
use Rattle.ap_worker.specs.Leads.{IsLeading}
use Rattle.ap_worker.specs.Workers.{AreTaken, IsStaffed, IsIdle}

none-taken : (w : Worker) → w.taken.items ≡ [] → jobs_in w.post ≡ [] → w.floor ≡ 0 → IsStaffed w
none-taken w taken jobs floor =
    subst (λ ts. AreTaken w.post w.floor ts (jobs_in w.post) w.post.next) (sym taken)
    (subst (λ js. AreTaken w.post w.floor [] js w.post.next) (sym jobs) (let e = floor in omega arith))

-- one that leads from now on
pub idle-leads : (l : Lead) → l.worker.taken.items ≡ [] → jobs_in l.worker.post ≡ [] → l.worker.floor ≡ 0 → IsGood l.worker.post l.query → IsLeading l
idle-leads l taken jobs floor good = record { staffed = none-taken l.worker taken jobs floor; good = good; above = λ some. absurd (some taken) }

last : (us : List Worker) (w : Worker) → AllByRecursion IsIdle (us ++ w ∷ []) → AllByRecursion IsIdle us × IsIdle w
last [] w h = (tt, h.0)
last (u ∷ us) w h = let r = last us w h.1 in ((h.0, r.0), r.1)

-- the last one leads, the others serve
pub last-idle : (ws us : List Worker) (w : Worker) → ws ≡ us ++ w ∷ [] → All IsIdle ws → All IsIdle us × IsIdle w
last-idle ws us w e h = let r = last us w (recursion_from_All IsIdle (us ++ w ∷ []) (subst (All IsIdle) e h)) in (All-from_recursion IsIdle us r.0, r.1)
