-- The query's search, past an answer.
use Rattle.std.proofs.Common.{◌≡◌, ℕ, ◌<◌, true, false, [], refl, sym, ◌∙◌, subst}
use Rattle.std.proofs.lemmas.Bool.{false≢true}
use Rattle.std.specs.List.{AllByRecursion}
use Rattle.ap_instr.specs.Code.{Compiled}
use Rattle.ap_section.specs.Ready.{IsReady}
use Rattle.ap_post.specs.declared.post.Post.{Post}
use Rattle.ap_post.specs.Posts.{posted_in}
use Rattle.ap_stack.specs.declared.stack.Stack.{Stack}
use Rattle.ap_stack.specs.Levels.{AreApart, AreOut, IsOut, IsOpen, Rise}
use Rattle.ap_stack.specs.Stacks.{code_in, section_in, IsGood}

pub past-good : (p : Post) (s t : Stack) → code_in t ≡ code_in s → t.outer ≡ s.outer → t.frame ≡ s.frame → t.first ≡ s.first → t.tends ≡ s.tends → ((code : Compiled) → IsReady code s.newest → IsReady code t.newest)
    → IsGood p s → s.tends ≡ false → IsGood p t
past-good p s t code outer frame first tends ready good runs =
    let items : t.outer.items ≡ s.outer.items = cc in
    let none : posted_in p t.frame ≡ [] = subst (λ f. posted_in p f ≡ []) (sym frame) (good.none_out runs) in
    record {
      ready = subst (λ k. IsReady k t.newest) (sym code) (ready (code_in s) good.ready);
      outer = subst (λ k. AllByRecursion (IsOpen k p) t.outer.items) (sym code) (subst (λ es. AllByRecursion (IsOpen (code_in s) p) es) (sym items) good.outer);
      at_frame = λ e. absurd (false≢true (sym runs ∙ sym tends ∙ e));
      none_out = λ e. none;
      out = subst (AreOut (code_in t) (section_in t)) (sym none) (record { each = tt; apart = tt });
      rise = subst (λ n. Rise n t.outer.items t.frame) (sym first) (subst (λ es. Rise s.first es t.frame) (sym items) (subst (λ f. Rise s.first s.outer.items f) (sym frame) good.rise));
      below = subst (λ f. f < p.next) (sym frame) good.below;
    }
