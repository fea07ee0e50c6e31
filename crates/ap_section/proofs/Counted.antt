-- Which frames a section has behind a change.
use Rattle.std.proofs.Common.{◌≡◌, ◌∙◌, ◌+◌, ◌-◌, ◌<◌, [], ◌∷◌, ◌++◌, length, take, ap, sym, subst, Option, Some, None, MatchOption, Vec, Global, vec_len, arith}
use Rattle.std.proofs.lemmas.List.{length_push}
use Rattle.ap_term.specs.Tree.{Trees}
use Rattle.ap_term.specs.Blocks.{IsPrefix}
use Rattle.ap_term.proofs.Lists.{prefix-refl}
use Rattle.ap_frames.specs.declared.frame.Frame.{Frame}
use Rattle.ap_instr.specs.Code.{Compiled}
use Rattle.ap_machine.specs.View.{Paused}
use Rattle.ap_machine.specs.Forking.{HasGoneOn}
use Rattle.ap_section.specs.declared.section.Section.{Section, out-Section}
use Rattle.ap_section.specs.declared.section.Section.TheViews.{out-roll-Section}
use Rattle.ap_section.specs.Lending.{frames_in, count_in}
use Rattle.ap_section.proofs.Newest.{Top, searching}
use Rattle.ap_section.proofs.Forked.{with_room, with_search}
use Rattle.ap_section.proofs.Back.{with_fewer, left-before}

pub frames-searching : (s : Section) (p : Paused) → frames_in (searching s p) ≡ frames_in s
frames-searching s p = ap (λ z. z.frames.items) (out-roll-Section (record (out-Section s) { search = p }))

pub frames-room : (s : Section) (r : Vec (Frame Section Trees) Global) (p : Paused) → r.items ≡ frames_in s → frames_in (with_search s r p) ≡ frames_in s
frames-room s r p room = frames-searching (with_room s r) p ∙ ap (λ z. z.frames.items) (out-roll-Section (record (out-Section s) { frames = r })) ∙ room

pub frames-fewer : (s : Section) (p : Paused) (v : Vec (Frame Section Trees) Global) (f : Frame Section Trees) → Top s f
    → v.items ≡ take (vec_len (out-Section (searching s p)).frames - 1) (out-Section (searching s p)).frames.items → IsPrefix (frames_in (with_fewer s p v)) (frames_in s)
frames-fewer s p v f t rest = (
  f ∷ [],
  ap (λ z. z.frames.items ++ f ∷ []) (out-roll-Section (record (out-Section (searching s p)) { frames = v })) ∙ ap (λ fs. fs ++ f ∷ []) (left-before s p v f t rest) ∙ sym t.items,
)

pub frames-same : (s t : Section) → frames_in t ≡ frames_in s → IsPrefix (frames_in t) (frames_in s)
frames-same s t e = subst (IsPrefix (frames_in t)) e (prefix-refl (frames_in t))

pub count-same : (s t : Section) → frames_in t ≡ frames_in s → count_in t ≡ count_in s
count-same s t e = (out-Section t).frames.ok.0 ∙ ap length e ∙ sym (out-Section s).frames.ok.0

some-frame : (s : Section) (f : Frame Section Trees) → Top s f → 0 < count_in s
some-frame s f t = let h = (out-Section s).frames.ok.0 ∙ ap length t.items ∙ length_push t.before f in omega arith

pub count-fewer : {X : Type 0} (s : Section) (p : Paused) (v : Vec (Frame Section Trees) Global) (f : Frame Section Trees) (o : Option X) → Top s f
    → MatchOption o ((count_in (searching s p) ≡ 0) × (vec_len v ≡ 0)) (λ _. vec_len v + 1 ≡ count_in (searching s p)) → count_in (with_fewer s p v) < count_in s
count-fewer s p v f None t h = let some = some-frame s f t in let same = count-same s (searching s p) (frames-searching s p) in let none = h.0 in absurd (omega arith)
count-fewer s p v f (Some x) t h =
    let same = count-same s (searching s p) (frames-searching s p) in
    let left : count_in (with_fewer s p v) ≡ vec_len v = ap (λ z. vec_len z.frames) (out-roll-Section (record (out-Section (searching s p)) { frames = v })) in
    omega arith

-- a group that was gone past
pub past-group : (code : Compiled) (s : Section) (r : Vec (Frame Section Trees) Global) (p : Paused) → HasGoneOn code (out-Section (with_room s r)).search p → HasGoneOn code (out-Section s).search (out-Section (with_search s r p)).search
past-group code s r p h = subst (λ z. HasGoneOn code (out-Section s).search z.search) (sym (out-roll-Section (record (out-Section (with_room s r)) { search = p })))
    (subst (λ z. HasGoneOn code z.search p) (out-roll-Section (record (out-Section s) { frames = r })) h)
