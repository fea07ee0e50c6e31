-- Lists of numbers some of which are forgotten, one after another.
use Rattle.std.proofs.Common.{◌≡◌, ◌≢◌, ℕ, zero, suc, ◌+◌, ◌<◌, ◌≤◌, ◌==◌, Bool, true, false, if◌then◌else◌, List, [], ◌∷◌, length, inl, inr, refl, ap, sym, ◌∙◌, subst, get_or-set_same, get_or-set_other, arith}
use Rattle.std.proofs.lemmas.Bool.{false≢true}
use Rattle.std.proofs.lemmas.Bool.Decides.{Decides-eqb}
use Rattle.std.proofs.Math.ListN.{set as set_at}
use Rattle.ap_instr.specs.Runs.{set}
use Rattle.ap_codegen.specs.Relocated.{by}
use Rattle.ap_term.proofs.Facts.{lt-or-eq}

pub by_set : (ns : List ℕ) (p n w : ℕ) → p < length ns → by (set_at ns p n) w ≡ set (by ns) p n w
by_set ns p n w l = go (w == p) refl
  where
    go : (b : Bool) → (w == p) ≡ b → by (set_at ns p n) w ≡ (if b then n else by ns w)
    go true e = ap (by (set_at ns p n)) ((Decides-eqb w p).0 e) ∙ get_or-set_same ns p n 0 l
    go false e = let d : w ≢ p = λ k. false≢true (sym e ∙ (Decides-eqb w p).1 k) in get_or-set_other ns p w n 0 d

-- of a list those numbers are left up to a place that are fine, and all from there on
pub record IsLeft (old now : List ℕ) (i : ℕ) (P : ℕ → ℕ → Type 0) : Type 0 where
  pub count : length now ≡ length old
  pub fine : (p : ℕ) → p < i → 0 < by now p → (by old p ≡ by now p) × P p (by now p)
  pub rest : (p : ℕ) → i ≤ p → by now p ≡ by old p

-- the next one is forgotten
pub left_out : (old now : List ℕ) (i : ℕ) (P : ℕ → ℕ → Type 0) → i < length now → length (set_at now i 0) ≡ length now → IsLeft old now i P → IsLeft old (set_at now i 0) (i + 1) P
left_out old now i P b n h = record {
  count = n ∙ h.count;
  fine = λ p l k. elim (lt-or-eq p i l) as (λ _. (by old p ≡ by (set_at now i 0) p) × P p (by (set_at now i 0) p)) [
    | inl c ↦
        let e : by (set_at now i 0) p ≡ by now p = get_or-set_other now i p 0 0 (other p c) in
        let f = h.fine p c (subst (λ n. 0 < n) e k) in
        (f.0 ∙ sym e, subst (P p) (sym e) f.1)
    | inr e ↦ absurd (let z : by (set_at now i 0) p ≡ 0 = ap (by (set_at now i 0)) e ∙ get_or-set_same now i 0 0 b in omega (arith, k, z))
  ];
  rest = λ p l. get_or-set_other now i p 0 0 (behind p l) ∙ h.rest p (omega arith);
}
  where
    other : (p : ℕ) → p < i → p ≢ i
    other p c e = omega arith

    behind : (p : ℕ) → i + 1 ≤ p → p ≢ i
    behind p l e = omega arith
