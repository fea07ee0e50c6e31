-- Events of the innermost of open sections, and those of the core.
use Rattle.std.proofs.Common.{◌≡◌, ℕ, List, [], ◌∷◌, ◌++◌, Option, Some, None, option_and_then, refl, ap, sym, ◌∙◌, subst}
use Rattle.std.proofs.lemmas.Option.{none-some, same_Some}
use Rattle.std.specs.List.{AllZip}
use Rattle.ap_term.specs.Tree.{Trees}
use Rattle.ap_term.specs.Search.{State}
use Rattle.ap_term.specs.UpToNames.{SameUpToNames}
use Rattle.ap_core.specs.declared.events.Kind.{Kind}
use Rattle.ap_core.specs.declared.events.Kind.TheVariants as kinds
use Rattle.ap_core.specs.declared.tasks.Status.TheVariants.{GoingOn}
use Rattle.ap_core.specs.Tasks.{Task}
use Rattle.ap_core.specs.Relation.{Rules, own, in_task, mapped, Core, with_root, at_root, along, while_going, after}
use Rattle.ap_core.specs.Reached.{Happening, beginning, after_all, and_then}
use Rattle.ap_core.specs.Lifting.{at_end}
use Rattle.ap_tracked.specs.Tracked.{Tracked}
use Rattle.ap_instr.specs.Code.{Compiled}
use Rattle.ap_tie.specs.Sections.{Section}
use Rattle.ap_tied.specs.Happened.{happened}
use Rattle.ap_open.specs.Opened.{Outer, AreOpen, OpenTied, IsSolving}
use Rattle.ap_open.proofs.Lifting.{through, lift_all}

-- ---- the innermost section

-- from each of the one kind events lead to one of the other
abbrev pub Leads : Rules → (Tracked → Task → Type 0) → (Tracked → Task → Type 0) → Type 0
Leads p P Q = (n : Tracked) (z : Task) → P n z → (es : List Happening) × (u : Task) × (happened p es z ≡ Some u) × Q n u

pub leads_open : (code : Compiled) (p : Rules) (P Q : Tracked → Task → Type 0) (outer : List Outer) → Leads p P Q → Leads p (AreOpen code p P outer) (AreOpen code p Q outer)
leads_open code p P Q [] f o t h = f o t h
leads_open code p P Q (a ∷ outer) f o t (searched, tied, failed, n, z, runs, inner) =
    let r = leads_open code p P Q outer f n z inner in
    let l = lift_all code p o a.section a.place r.0 t z r.1 n a.since tied runs r.2 in
    (through a.place r.0, l.0, l.1, (searched, l.2, failed, n, r.1, l.3, r.3))

-- one event
pub leads_by : (p : Rules) (k : Kind) (path : List ℕ) (t u : Task) → at_end p k path t ≡ Some u → happened p ((k, path) ∷ []) t ≡ Some u
leads_by p k path t u h = ap (option_and_then (happened p [])) h

-- the last of the sections outside is open itself
pub from_last : (code : Compiled) (p : Rules) (P : Tracked → Task → Type 0) (outer : List Outer) (a : Outer) (o : Tracked) (t : Task)
    → AreOpen code p P (outer ++ a ∷ []) o t → AreOpen code p (AreOpen code p P (a ∷ [])) outer o t
from_last code p P [] a o t h = h
from_last code p P (b ∷ outer) a o t (searched, tied, failed, n, z, runs, inner) = (searched, tied, failed, n, z, runs, from_last code p P outer a n z inner)

pub to_last : (code : Compiled) (p : Rules) (P : Tracked → Task → Type 0) (outer : List Outer) (a : Outer) (o : Tracked) (t : Task)
    → AreOpen code p (AreOpen code p P (a ∷ [])) outer o t → AreOpen code p P (outer ++ a ∷ []) o t
to_last code p P [] a o t h = h
to_last code p P (b ∷ outer) a o t (searched, tied, failed, n, z, runs, inner) = (searched, tied, failed, n, z, runs, to_last code p P outer a n z inner)

-- ---- the core

-- an event that tasks have is one of the root's
of_root : (p : Rules) (k : Kind) (c : Core) (u : Task) → c.rules ≡ p → own p k c.root ≡ Some u → at_root k c ≡ Some (with_root c u)
of_root p k c u r h = go k (ap (λ x. own x k c.root) r ∙ h)
  where
    go : (k : Kind) → own c.rules k c.root ≡ Some u → at_root k c ≡ Some (with_root c u)
    go kinds.Infer h = ap (mapped (with_root c)) h
    go kinds.Fork h = ap (mapped (with_root c)) h
    go kinds.Start h = absurd (none-some _ h)
    go kinds.Answer h = absurd (none-some _ h)
    go kinds.Fail h = absurd (none-some _ h)
    go kinds.Spend h = absurd (none-some _ h)
    go kinds.Stop h = absurd (none-some _ h)
    go kinds.Stopped h = absurd (none-some _ h)
    go kinds.Join h = ap (mapped (with_root c)) h
    go kinds.Break h = ap (mapped (with_root c)) h
    go kinds.Redo h = ap (mapped (with_root c)) h
    go kinds.Restart h = ap (mapped (with_root c)) h
    go kinds.Raise h = absurd (none-some _ h)
    go kinds.Drain h = ap (mapped (with_root c)) h
    go kinds.Forget h = absurd (none-some _ h)
    go kinds.Replay h = ap (mapped (with_root c)) h

of_core : (p : Rules) (k : Kind) (path : List ℕ) (c : Core) (u : Task) → c.rules ≡ p → c.status ≡ GoingOn → at_end p k path c.root ≡ Some u → after k path c ≡ Some (with_root c u)
of_core p k path c u r g h = ap (λ s. while_going s (along k path c)) g ∙ go path h
  where
    go : (path : List ℕ) → at_end p k path c.root ≡ Some u → along k path c ≡ Some (with_root c u)
    go [] h = of_root p k c u r h
    go (i ∷ path) h = ap (mapped (with_root c)) (ap (λ x. in_task x k i path c.root) r ∙ h)

-- a core that goes on by the rules, with that task
pub record Stands (p : Rules) (u : Task) (given : List Trees) (d : Core) : Type 0 where
  pub root : d.root ≡ u
  pub rules : d.rules ≡ p
  pub going : d.status ≡ GoingOn
  pub emitted : d.emitted ≡ given

pub core_after : (p : Rules) (es : List Happening) (c : Core) (u : Task) → c.rules ≡ p → c.status ≡ GoingOn → happened p es c.root ≡ Some u → (d : Core) × (after_all es c ≡ Some d) × Stands p u c.emitted d
core_after p [] c u r g h = (c, refl, record { root = same_Some _ _ h; rules = r; going = g; emitted = refl })
core_after p (e ∷ es) c u r g h = go (at_end p e.0 e.1 c.root) refl h (core_after p es)
  where
    go : (x : Option Task) → at_end p e.0 e.1 c.root ≡ x → option_and_then (happened p es) x ≡ Some u
        → ((c : Core) (u : Task) → c.rules ≡ p → c.status ≡ GoingOn → happened p es c.root ≡ Some u → (d : Core) × (after_all es c ≡ Some d) × Stands p u c.emitted d)
        → (d : Core) × (after_all (e ∷ es) c ≡ Some d) × Stands p u c.emitted d
    go None same h rec = absurd (none-some _ h)
    go (Some x) same h rec =
        let a = rec (with_root c x) u r g h in
        (a.0, ap (λ o. and_then o (after_all es)) (of_core p e.0 e.1 c x r g same) ∙ a.1, a.2)

pub after_more : (es fs : List Happening) (c d : Core) → after_all es c ≡ Some d → after_all (es ++ fs) c ≡ after_all fs d
after_more [] fs c d h = ap (after_all fs) (same_Some _ _ h)
after_more (e ∷ es) fs c d h = go (after e.0 e.1 c) h (after_more es fs)
  where
    go : (o : Option Core) → and_then o (after_all es) ≡ Some d → ((c d : Core) → after_all es c ≡ Some d → after_all (es ++ fs) c ≡ after_all fs d) → and_then o (after_all (es ++ fs)) ≡ after_all fs d
    go None h rec = absurd (none-some _ h)
    go (Some x) h rec = rec x d h

-- A search goes on by events that lead from whatever task its open sections are tied to, to one that the others are tied to.
pub goes_on_by : (code : Compiled) (p : Rules) (o : Tracked) (q : State) (rest : ℕ) (outer outer' : List Outer) (s s' : Section) (given : List Trees)
    → ((t : Task) → OpenTied code p o outer s t → (es : List Happening) × (u : Task) × (happened p es t ≡ Some u) × OpenTied code p o outer' s' u)
    → IsSolving code p o q rest outer s given → IsSolving code p o q rest outer' s' given
goes_on_by code p o q rest outer outer' s s' given f h =
    let a = f h.core.root h.opened in
    let b = core_after p a.0 h.core a.1 h.rules h.going a.2 in record {
      events = h.events ++ a.0;
      core = b.0;
      led = after_more h.events a.0 (beginning p q rest) h.core h.led ∙ b.1;
      rules = b.2.rules;
      going = b.2.going;
      opened = subst (OpenTied code p o outer' s') (sym b.2.root) a.3;
      emitted = subst (AllZip SameUpToNames given) (sym b.2.emitted) h.emitted;
    }
