use Rattle.std.proofs.Common.{◌≡◌, ◌∷◌, ap, sym, ◌∙◌}
use Rattle.ap_standing.specs.Machine.{places_from}
use Rattle.ap_control.proofs.Passed.{passes-none}
use Rattle.ap_control.proofs.unasked.chosen_unasked.Goals as goal

pub returns-in-Some-free_at : goal.returns-in-Some-free_at
returns-in-Some-free_at c = λ n cs x.
    let code = c.args.sound.now in
    let found = c.args.found.now.named in
    let one = c.alternative_of.result in
    let next = c.in-Some-free_at.next.alternative in
    let place : one.place ≡ found.place = c.alternative_of.ensures.place in
    let behind : one.behind ≡ found.behind = c.alternative_of.ensures.behind in
    record {
      first =
          passes-none code cs x (found.place ∷ places_from code found.behind) (one.place ∷ places_from code one.behind)
          (ap (λ l. l ∷ places_from code found.behind) (sym place) ∙ ap (λ b. one.place ∷ places_from code b) (sym behind));
      next =
          passes-none code cs x (places_from code one.behind) (next.place ∷ places_from code next.behind)
          (ap (places_from code) (behind ∙ c.in-Some.is) ∙ c.in-Some-free_at.ensures.places);
      sure = c.in-Some-free_at.ensures.sure n cs x;
    }
