-- Who is late is announced first, in views of level 2.
use Rattle.std.specs.Prelude.{ℕ, ◌==◌, ◌≡◌, ◌⊎◌, List, [], ◌∷◌, Some, None, if◌then◌else◌}
use Rattle.std.specs.List.{last_or}
use Rattle.rsct_packet.specs.declared.ids.ProviderId.{ProviderId}
use Rattle.rsct_packet.specs.declared.ids.Member.{Member}
use Rattle.proposal_core.specs.declared.entry.RowVote.{RowVote}
use Rattle.proposal_core.specs.declared.entry.RowVote.TheVariants as row_vote
use Rattle.proposal_core.specs.declared.entry.Row.{Row}
use Rattle.proposal_core.specs.declared.entry.Closed.{Closed}
use Rattle.proposal_core.specs.declared.entry.Entry.{Entry}
use Rattle.proposal_core.specs.declared.entry.Entry.TheVariants.{Once, Begin, Phase, Approve, Reject, Late}
use Rattle.node_state.specs.declared.config.Config.{Config}
use Rattle.node_state.specs.declared.happened.Happened.{Happened}
use Rattle.node_state.specs.declared.happened.Happened.TheVariants as happened
use Rattle.node_state.specs.Settings.{view_level}
use Rattle.run_safety.specs.Past.{History, earlier, EachRecord}
use Rattle.run_safety.specs.Stays.{Stay, stays}
use Rattle.entry_laws.specs.late_rows.Late.{PutBefore}

-- the members of the view that the node is in
abbrev pub members_after : ℕ → Happened → List Member → List Member
members_after n (happened.In m v ms) old = if m == n then ms else old
members_after n _ old = old

abbrev pub members_now : ℕ → List Happened → List Member
members_now n [] = []
members_now n (r ∷ rs) = members_after n r (members_now n rs)

-- what the node put into its list of the group in that view
abbrev pub stay_entries : List Stay → List Entry
stay_entries [] = []
stay_entries (s ∷ older) = s.entries

abbrev pub entries_here : ℕ → List ℕ → List Happened → List Entry
entries_here n g rs = stay_entries (stays n g rs)

-- those with a default as late, in order
abbrev pub late_first : ProviderId → RowVote → List ProviderId → List ProviderId
late_first p (row_vote.Cast v) ps = ps
late_first p (row_vote.Late d) ps = p ∷ ps
late_first p (row_vote.Failed d) ps = ps

abbrev pub late_in : List Row → List ProviderId
late_in [] = []
late_in (r ∷ rows) = late_first r.provider r.vote (late_in rows)

-- nobody was late, or the entry before announces just these, in this protocol and phase
abbrev pub RowsTold : List Entry → Closed → Type 0
RowsTold es c = (late_in c.rows ≡ []) ⊎ (last_or None es ≡ Some (Late c.proto c.phase (late_in c.rows)))

abbrev pub EntryTold : List Entry → Entry → Type 0
EntryTold es (Once x) = Unit {0}
EntryTold es (Begin x) = Unit {0}
EntryTold es (Phase c) = RowsTold es c
EntryTold es (Approve c) = RowsTold es c
EntryTold es (Reject c) = RowsTold es c
EntryTold es (Late proto phase ps) = Unit {0}

abbrev pub RecordTold : Config → List Happened → History → Happened → Type 0
RecordTold c now before (happened.Put n v g i e) =
    (PutBefore (earlier now before) v g i → ⊥) → view_level c (members_now n (earlier now before)) ≡ 2 → EntryTold (entries_here n g (earlier now before)) e
RecordTold c now before _ = Unit {0}

-- In a view of level 2, where an entry that closes a phase is first put and has rows of voters that were late, the entry
-- before it in the node's list announces just these voters, in their order, in that protocol and phase.
abbrev pub LateWereAnnounced : Config → History → Type 0
LateWereAnnounced c h = EachRecord (RecordTold c) h
