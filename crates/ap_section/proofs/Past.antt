-- A section whose search made turns, and went past groups between them.
use Rattle.std.proofs.Common.{◌≡◌, ◌∙◌, ◌≤◌, max, List, [], ◌∷◌, ap, sym, subst, refl, arith}
use Rattle.ap_instr.specs.Code.{Compiled}
use Rattle.ap_machine.specs.View.{Paused, IsFor}
use Rattle.ap_machine.specs.Past.{AdvancedPast}
use Rattle.ap_tied.specs.Reaching.{ReachingLaw}
use Rattle.ap_section.specs.declared.section.Section.{Section}
use Rattle.ap_section.specs.declared.section.Section.TheOpen.{Section-F}
use Rattle.ap_section.specs.Ready.{AreMatched}
use Rattle.ap_section.specs.Moving.{HasMoved}
use Rattle.ap_section.proofs.Parts.{IsShutNow, part_now}
use Rattle.ap_section.proofs.Shut.{seen_now, moved-on, turned-now, turned-shut}
use Rattle.ap_section.proofs.Forked.{plain-leads}

past-more : (code : Compiled) (past : List Paused) (q p : Paused) → AdvancedPast code q past p → q.spent ≤ p.spent
past-more code [] q p h = h.more
past-more code (g ∷ gs) q p h =
    let (for_g, here, u, gone, for_u, turned) = h.1 in
    let before : q.spent ≤ g.spent = past-more code gs q g h.0 in
    let same : u.spent ≡ g.spent = ap (λ (r : Paused). r.spent) gone.goes_on in
    omega (arith, turned.more)

past-budget : (code : Compiled) (past : List Paused) (q p : Paused) → AdvancedPast code q past p → p.budget ≡ q.budget
past-budget code [] q p h = h.budget
past-budget code (g ∷ gs) q p h =
    let (for_g, here, u, gone, for_u, turned) = h.1 in
    turned.budget ∙ ap (λ (r : Paused). r.budget) gone.goes_on ∙ past-budget code gs q g h.0

-- the same forks are open where only control went on
gone-shut : (code : Compiled) (s : Section-F Section) (u : Paused) → IsFor code u → u.older ≡ s.search.older → IsShutNow code s → IsShutNow code (record s { search = u })
gone-shut code s u for_u older shut = ((for_u, subst (λ gs. AreMatched code gs (part_now s).frames) (sym older) shut.0.1, shut.0.2), shut.1)

pub past-came : ReachingLaw → (code : Compiled) (s : Section-F Section) (past : List Paused) (p : Paused) → AdvancedPast code s.search past p → IsFor code p → p.spent ≤ max s.search.budget s.search.spent → IsShutNow code s
    → HasMoved code (seen_now s) (seen_now (record s { search = p })) × IsShutNow code (record s { search = p })
past-came law code s [] p h for_p few shut = (turned-now law code s p h few shut, turned-shut code s p h for_p shut)
past-came law code s (g ∷ gs) p h for_p few shut =
    let (for_g, here, u, gone, for_u, turned) = h.1 in
    let there : Section-F Section = record s { search = g } in
    let behind : Section-F Section = record s { search = u } in
    let same : u.spent ≡ g.spent = ap (λ (r : Paused). r.spent) gone.goes_on in
    let budget : u.budget ≡ s.search.budget = ap (λ (r : Paused). r.budget) gone.goes_on ∙ past-budget code gs s.search g h.0 in
    let more : s.search.spent ≤ g.spent = past-more code gs s.search g h.0 in
    let on : u.spent ≤ p.spent = turned.more in
    let came = past-came law code s gs g h.0 for_g (omega (arith, few)) shut in
    let plain = plain-leads code there u s.frames refl law came.1 here for_u gone in
    let closed = gone-shut code there u for_u (ap (λ (r : Paused). r.older) gone.goes_on) came.1 in (
      moved-on law code (seen_now s) (seen_now behind) (seen_now (record s { search = p })) (moved-on law code (seen_now s) (seen_now there) (seen_now behind) came.0 plain.moved)
          (turned-now law code behind p turned (omega (arith, few)) closed),
      turned-shut code behind p turned for_p closed,
    )
