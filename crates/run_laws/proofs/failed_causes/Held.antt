-- Whoever a node held of a group, by its records, was asked for in that group.
use Rattle.std.proofs.Common.{◌≡◌, ℕ, List, Some, true, sym, subst, refl}
use Rattle.std.specs.Prelude.{slice_get}
use Rattle.rsct_packet.specs.declared.ids.ViewId.{ViewId}
use Rattle.rsct_packet.specs.declared.ids.ProviderId.{ProviderId}
use Rattle.rsct_packet.specs.Providers.{among}
use Rattle.rsct_packet.specs.Search.{Has}
use Rattle.proposal_core.specs.declared.entry.Entry.{Entry}
use Rattle.proposal_core.specs.declared.proposal.Proposal.{Proposal}
use Rattle.proposal_core.specs.declared.group_state.GroupState.{GroupState}
use Rattle.proposal_core.specs.Fold.{present}
use Rattle.node_state.specs.declared.config.Config.{Config}
use Rattle.node_state.specs.declared.happened.Happened.{Happened}
use Rattle.node_state.specs.declared.happened.Happened.TheVariants as happened
use Rattle.run_safety.specs.Past.{records_of}
use Rattle.run_safety.specs.Stays.{Stay, stays, is_join_of}
use Rattle.run_safety.specs.Bases.{base_state}
use Rattle.run_safety.specs.Group.{Put, Noted, Based, kept, Origin}
use Rattle.run_safety.specs.Group as group
use Rattle.run_safety.proofs.SightLaws.{put_seen, line_kept, line_seen, own_line, line_recorded}
use Rattle.run_safety.proofs.Whole.{Whole}
use Rattle.run_safety.proofs.Lives.{whole}
use Rattle.step_refinement.specs.Tied.{Scene, Rests, opening_of}
use Rattle.step_refinement.specs.Runs.{Reached}
use Rattle.step_refinement.proofs.RunLaw.{reached_rests}
use Rattle.row_laws.proofs.hearing.Handing.{among_is}
use Rattle.row_laws.specs.failed_rows.Failures.{state_of_stay}
use Rattle.row_laws.proofs.failed_rows.Asked.{Joins, AllJoin, AllThere, fold_there, based_there, join_carried}
use Rattle.provider_laws.proofs.attending.Fresh.{Fine, all_fine}

-- ---- of every scene

-- whom a node held in a stay of these records was asked for in the group, in all records
abbrev pub Held : List Happened → Type 0
Held whole =
    (n : ℕ) (g : List ℕ) (rs : List Happened) → ((r : Happened) → Has r rs → Has r whole) → (x : Stay) → Has x (stays n g rs) → (p : ProviderId) → among (present (state_of_stay x)) p ≡ true → (y : Proposal) × Has (happened.Asked p p.join g y) whole

pub held_asked : (c : Config) (w : Scene) → Reached c w → Held (records_of w.before)
held_asked c w k n g rs more x h p there =
    let f : Fine (AllThere Is) (Joins Is) x = all_fine n g (AllThere Is) (Joins Is) (λ q i. absurd i) rs puts bases x h in
    fold_there Is x.view x.base 0 x.entries f.base f.entries p (among_is (present (state_of_stay x)) p there)
  where
    Is : ProviderId → Type 0
    Is p = (y : Proposal) × Has (happened.Asked p p.join g y) (records_of w.before)

    t : Rests g w
    t = reached_rests c w k g

    o : Whole (opening_of w.config) t.ghost.nodes t.ghost.ps t.ghost.all t.ghost.leads t.ghost.bases
    o = whole t.life

    logged : (v : ViewId) (i : ℕ) (e : Entry) → slice_get (o.log v) i ≡ Some e → (p : ProviderId) → is_join_of p e ≡ true → Is p
    logged v i e get p names =
        let a = o.once.asked v i p p.join e get (join_carried p e names) in
        let b = o.once.sent v p p.join a.0 a.1 in
        (a.0, line_recorded g (Noted (group.Asked p p.join a.0)) (happened.Asked p p.join g a.0) refl w.before (subst (Has (Noted (group.Asked p p.join a.0))) t.lines b.1))

    joined : AllJoin Is t.ghost.all
    joined m v i e h = logged v i e (o.good.inv.records (Put m v i e) (line_kept (Put m v i e) t.ghost.all h))

    puts : (v : ViewId) (i : ℕ) (e : Entry) → Has (happened.Put n v g i e) rs → (p : ProviderId) → is_join_of p e ≡ true → Is p
    puts v i e h =
        logged v i e (o.good.inv.records (Put n v i e) (subst (λ z. Has (Put n v i e) (kept z)) (sym t.lines) (put_seen n v g i e w.before (more (happened.Put n v g i e) h))))

    bases : (v u : ViewId) (len : ℕ) (s : GroupState) → Has (happened.Base n v g u len s) rs → (p : ProviderId) → Has p (present s) → Is p
    bases v u len s h =
        let b : Origin = record { old = u; len = len; state = s } in
        let seen : Has (Noted (Based n v b)) t.ghost.all = subst (Has (Noted (Based n v b))) (sym t.lines) (line_seen (Noted (Based n v b)) g (happened.Base n v g u len s) (λ qs. own_line g (Noted (Based n v b))) w.before (more (happened.Base n v g u len s) h)) in
        let is : t.ghost.bases v ≡ Some b = o.based_ok.noted n v b seen in
        subst (λ z. AllThere Is (base_state z)) is (based_there Is t.life joined v)
