use Rattle.std.proofs.Common.{ℕ, Some, subst, sym}
use Rattle.ap_term.specs.Tree.{Tree}
use Rattle.ap_index.specs.Keys.{IsKeyOf}
use Rattle.ap_index.specs.Index.{tried_from, IsLinkOf, IsNextOf}
use Rattle.ap_match.specs.Fits.{Fits}
use Rattle.ap_standing.specs.Machine.{places_from}
use Rattle.ap_control.specs.Heads.{PassesOver}
use Rattle.ap_control.specs.Choosing.{HasKey}
use Rattle.ap_control.proofs.Keys.{passes-others, tried-places}
use Rattle.ap_control.proofs.choosing.next_choice.Goals as goal

pub returns-in-Linked : goal.returns-in-Linked
returns-in-Linked c = λ cs x known.
    let code = c.args.sound.now in
    let key = c.in-Some-key.own.key in
    let at = c.in-Some.at in
    let from = places_from code (Some at) in
    let link : IsLinkOf code at c.in-Linked.link = subst (IsNextOf code c.args.choice.now.named.behind) c.in-Linked.is c.requires.next at c.in-Some.is in
    let own : (k : ℕ → Tree) → Fits cs k → IsKeyOf key (k (x 1)) = subst (HasKey cs x) c.in-Some-key.is known in
    subst (λ b. PassesOver code cs x (places_from code b) (places_from code c.next.result)) (sym c.in-Some.is)
    (subst (PassesOver code cs x from) (tried-places code c.next.result) (passes-others code cs x key own from (tried_from code c.next.result) (c.next.ensures code link)))

pub returns-in-Row : goal.returns-in-Row
returns-in-Row c = λ cs x known.
    let code = c.args.sound.now in
    subst (λ b. PassesOver code cs x (places_from code b) (places_from code c.next_of_row.result)) (sym c.in-Some.is)
    (c.next_of_row.ensures cs x (subst (HasKey cs x) c.in-Some-key.is known))
