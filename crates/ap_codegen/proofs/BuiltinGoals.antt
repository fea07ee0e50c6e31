-- A relation's name is the name that it was found by.
use Rattle.std.proofs.Common.{◌≡◌, ℕ, ◌==◌, Bool, true, false, if◌then◌else◌, Option, Some, None, refl, ap, sym, ◌∙◌}
use Rattle.std.proofs.lemmas.Bool.Decides.{Decides-eqb}
use Rattle.ap_term.specs.declared.builtins.Op.TheVariants.{Eq, Ne, Lt, Gt, Le, Ge}
use Rattle.ap_term.specs.declared.builtins.Relation.{Relation}
use Rattle.ap_term.specs.declared.builtins.Relation.TheVariants.{Unify, NotUnify, Same, NotSame, Is, Compare}
use Rattle.ap_term.specs.declared.fixed.TheConstants.{UNIFY, NOT_UNIFY, SAME, NOT_SAME, IS, EQUAL, NOT_EQUAL, LESS, GREATER, AT_MOST, AT_LEAST}
use Rattle.ap_term.specs.Builtins.{relation_named}
use Rattle.ap_instr.specs.Builtin.{relation_name}

named : (a k : ℕ) (s : Relation) (o : Option Relation) (r : Relation) → relation_name s ≡ k → (o ≡ Some r → relation_name r ≡ a) → (if a == k then Some s else o) ≡ Some r → relation_name r ≡ a
named a k s o r n rest e = go (a == k) refl e
  where
    go : (b : Bool) → (a == k) ≡ b → (if b then Some s else o) ≡ Some r → relation_name r ≡ a
    go true d e = let q : s ≡ r = cc in ap relation_name (sym q) ∙ n ∙ sym ((Decides-eqb a k).0 d)
    go false d e = rest e

nothing_named : (a : ℕ) (r : Relation) → None ≡ Some r → relation_name r ≡ a
nothing_named a r e = cc

pub relation_back : (a : ℕ) (r : Relation) → relation_named a ≡ Some r → relation_name r ≡ a
relation_back a r e =
    named a UNIFY Unify _ r refl
    (named a NOT_UNIFY NotUnify _ r refl
    (named a SAME Same _ r refl
    (named a NOT_SAME NotSame _ r refl
    (named a IS Is _ r refl
    (named a EQUAL (Compare Eq) _ r refl
    (named a NOT_EQUAL (Compare Ne) _ r refl
    (named a LESS (Compare Lt) _ r refl
    (named a GREATER (Compare Gt) _ r refl
    (named a AT_MOST (Compare Le) _ r refl (named a AT_LEAST (Compare Ge) None r refl (nothing_named a r))))))))))) e
