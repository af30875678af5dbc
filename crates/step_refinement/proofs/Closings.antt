-- The entry with which a leader closes a phase has the tally that its kind says; what fits at the end of a list fits
-- what the whole list makes of the base.
use Rattle.std.proofs.Common.{◌≡◌, ◌≤◌, ◌<◌, List, Option, Some, None, Bool, true, false, refl, subst, inl, inr, arith}
use Rattle.std.specs.Prelude.{nat_le, if◌then◌else◌}
use Rattle.std.proofs.lemmas.Bool.{and_parts}
use Rattle.std.proofs.lemmas.Bool.Decides.{nat_tests}
use Rattle.rsct_packet.specs.declared.ids.ViewId.{ViewId}
use Rattle.proposal_core.specs.declared.entry.Entry.{Entry}
use Rattle.proposal_core.specs.declared.entry.Vote.{Vote}
use Rattle.proposal_core.specs.declared.entry.Vote.TheVariants as vote
use Rattle.proposal_core.specs.declared.group_state.Running.{Running}
use Rattle.proposal_core.specs.Fold.{max_phases, fits}
use Rattle.proposal_core.specs.GroupView.{GroupView}
use Rattle.proposal_core.specs.Lists.{has_room, entry_fits}
use Rattle.vote_phases.specs.Tally.{TallyView, has_open, rows_of, tally_of, outcome}
use Rattle.node_state.specs.declared.group.Led.{Led}
use Rattle.node_state.specs.Leading.{closed_by, closing, closing_of, closing_entry}
use Rattle.run_safety.specs.Bases.{state_of_list}
use Rattle.run_safety.specs.Tallies.{IsTallied}
use Rattle.step_refinement.specs.Ghost.{Ghost, Keeps}

-- an outcome is the tally of the rows
outcome_is : (t : TallyView) (v : Vote) → outcome t ≡ Some v → tally_of (rows_of t.voters) ≡ v
outcome_is t v q = by (has_open t) q
  where
    by : (b : Bool) → (if b then None else Some (tally_of (rows_of t.voters))) ≡ Some v → tally_of (rows_of t.voters) ≡ v
    by true q = absurd (cc)
    by false q = cc

pub closing_tallied : (l : Led) (t : Option TallyView) (run : Option Running) (e : Entry) → closing_entry l t run ≡ Some e → IsTallied e
unfolding closing_entry closing_of closing closed_by
closing_tallied l None run e q = absurd (cc)
closing_tallied l (Some t) None e q = absurd (cc)
closing_tallied l (Some t) (Some run) e q = by (outcome t) refl q
  where
    one : (v : Vote) (last : Bool) → tally_of (rows_of t.voters) ≡ v → nat_le max_phases run.phase ≡ last → IsTallied (closing l t run v last)
    one vote.Approve last o p = o
    one vote.Reject last o p = inl o
    one vote.Continue true o p = let le : max_phases ≤ run.phase = grind (arith, nat_tests) in inr (o, le)
    one vote.Continue false o p = let lt : run.phase < max_phases = grind (arith, nat_tests) in (o, lt)

    by : (o : Option Vote) → outcome t ≡ o → closing_of l t run o ≡ Some e → IsTallied e
    by None o q = absurd (cc)
    by (Some v) o q =
        let z : closing l t run v (nat_le max_phases run.phase) ≡ e = cc in
        subst IsTallied z (one v (nat_le max_phases run.phase) (outcome_is t v o) refl)

pub fits_whole : (x : Ghost) (v : ViewId) (full : List Entry) (l : GroupView) (e : Entry) → Keeps x v full l → entry_fits l e ≡ true → fits (state_of_list x.bases v full) e ≡ true
unfolding entry_fits
fits_whole x v full l e k h = subst (λ s. fits s e ≡ true) k.state (and_parts (fits l.state e) (has_room l e) h).0
