-- A clause that is called with anything: what stands in its head may be anything too, and its other variables are free and share nothing.
use Rattle.std.specs.Prelude.{ℕ}
use Rattle.ap_term.specs.Tree.{Trees}
use Rattle.ap_sharing.specs.VarSet.{without}
use Rattle.ap_sharing.specs.Sets.{sets_of}
use Rattle.ap_sharing.specs.Share.{norm}
use Rattle.ap_absunify.specs.TermSets.{var_set_all}
use Rattle.ap_absunify.specs.declared.states.State.{State}
use Rattle.ap_absunify.specs.State.{made}
use Rattle.ap_patterns.specs.Entering.{own, own_sets}

-- the state in which a clause of n variables is entered, of the arguments of its head
abbrev pub anyhow : ℕ → Trees → State
anyhow n hs = made (norm (record { sets = sets_of (own_sets n); any = var_set_all hs })) (without (own n) (var_set_all hs))
