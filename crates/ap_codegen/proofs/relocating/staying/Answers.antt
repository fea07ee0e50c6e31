use Rattle.std.proofs.Common.{◌≡◌, ◌+◌, ◌-◌, ◌≤◌, ℕ, zero, suc, List, [], ◌∷◌, drop, refl, ap, sym, ◌∙◌, arith}
use Rattle.std.proofs.lemmas.List.{drop_more, drop_all}
use Rattle.ap_codegen.specs.declared.relocating.Change.{Change as Chosen}
use Rattle.ap_codegen.specs.Relocated.{Change, kept, dropped, change_of, changes_of, staying}
use Rattle.ap_codegen.proofs.relocating.staying.Goals as goal

staying_more : (n m : ℕ) (c : Change) (cs : List Change) → n ≡ m + 1 → staying n (c ∷ cs) ≡ staying 1 (c ∷ []) + staying m cs
staying_more zero m c cs e = absurd (omega (arith, e))
staying_more (suc n) m c cs e = ap (λ k. staying (suc k) (c ∷ cs)) (let d : n ≡ m = omega (arith, e) in d) ∙ one c
  where
    one : (c : Change) → staying (suc m) (c ∷ cs) ≡ staying 1 (c ∷ []) + staying m cs
    one (kept i u o) = omega arith
    one (dropped i) = omega arith

one_more : (c : Change) → staying 1 (c ∷ []) ≤ 1
one_more (kept i u o) = omega arith
one_more (dropped i) = omega arith

none_left : (n : ℕ) → staying n [] ≡ 0
none_left zero = refl
none_left (suc n) = refl

pub loop-change-preserved : goal.loop-change-preserved
loop-change-preserved c =
    let i : ℕ = c.loop-change.change-index in
    let left : ℕ = c.loop-change.left in
    let h : Chosen = c.change-item.result in
    let cs : List Chosen = c.args.changes.now in
    let behind : List Change = changes_of (drop (i + 1) cs) in
    let here : changes_of (drop i cs) ≡ change_of h ∷ behind = ap changes_of (drop_more cs i h c.loop-change-test.true) ∙ ap (λ x. change_of x ∷ behind) (sym c.change-item.is) in
    let some = c.if-left-eq0.false in
    let m : left ≡ left - 1 + 1 = omega (arith, some) in
    let s : staying left (changes_of (drop i cs)) ≡ c.stays-count.result + staying (left - 1) behind =
    ap (staying left) here ∙ staying_more left (left - 1) (change_of h) behind m ∙ ap (λ n. n + staying (left - 1) behind) (sym c.stays-count.ensures) in
    let one = one_more (change_of h) in
    let r = c.stays-count.ensures in
    let few = c.loop-change.invariant.few in
    let sum = c.loop-change.invariant.sum in
    record { few = omega (arith, one, r, few, m); sum = omega (arith, s, sum) }

pub returns : goal.returns
returns c =
    let e = ap (λ cs. staying c.loop-change.left (changes_of cs)) (drop_all c.loop-change.change-index c.args.changes.now c.loop-change-test.false) ∙ none_left c.loop-change.left in
    let sum = c.loop-change.invariant.sum in
    omega (arith, e, sum)
