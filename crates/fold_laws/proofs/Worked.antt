-- What is said of voters and entries, computed on small states: it has the right changes, and refuses wrong ones.
use Rattle.std.proofs.Common.{◌≡◌, true, false, List, [], ◌∷◌, ◌++◌, Some, refl, subst}
use Rattle.rsct_packet.specs.Providers.{without_all}
use Rattle.proposal_core.specs.declared.group_state.Running.{Running}
use Rattle.proposal_core.specs.Fold.{joins_of}
use Rattle.proposal_core.specs.Lists.{is_at_limit}
use Rattle.proposal_core.specs.Samples.{member, place_of}
use Rattle.fold_laws.specs.Voters.{leavers_of, AreWhoStay}
use Rattle.fold_laws.specs.Changes.{Changes}
use Rattle.fold_laws.specs.Room.{MayCome}
use Rattle.fold_laws.specs.Samples.{both, expulsion, message, leaving, one_leaves, list_of, lateness}

not_empty : {A : Type 0} (x : A) (xs : List A) → [] ≡ x ∷ xs → ⊥
not_empty x xs e = absurd cc

pub expelled_goes : Changes both (place_of 3) expulsion (record both { members = member 1 ∷ [] })
expelled_goes = record { members = refl; value = refl; value_at = refl; attrs = refl; failed = refl; reflected = refl; running = refl }

pub expeller_stays : Changes both (place_of 3) expulsion (record both { members = [] }) → ⊥
expeller_stays h = not_empty (member 1) [] h.members

pub value_stays : Changes both (place_of 3) message (record both { value = [] }) → ⊥
value_stays h = not_empty _ _ h.value

pub other_votes : AreWhoStay one_leaves (member 2 ∷ [])
other_votes = record { running = λ run e. on run (some_is e); idle = λ e. absurd cc }
  where
    some_is : {run : Running} → Some leaving ≡ Some run → leaving ≡ run
    some_is e = cc

    on : (run : Running) → leaving ≡ run → member 2 ∷ [] ≡ without_all both.members (leavers_of run.proposal) ++ joins_of run.proposal
    on run e = subst (λ (z : Running). member 2 ∷ [] ≡ without_all both.members (leavers_of z.proposal) ++ joins_of z.proposal) e refl

pub nobody_votes : AreWhoStay one_leaves [] → ⊥
nobody_votes h = not_empty (member 2) [] (h.running leaving refl)

pub last_begins : MayCome (list_of 4095) false message
unfolding is_at_limit
last_begins = refl

pub full_takes_none : MayCome (list_of 4096) false message → ⊥
unfolding is_at_limit
full_takes_none h = absurd cc

pub lateness_is_said : MayCome (list_of 4096) false lateness
lateness_is_said = refl

pub lateness_is_said_once : MayCome (list_of 5) true lateness → ⊥
lateness_is_said_once h = absurd cc
