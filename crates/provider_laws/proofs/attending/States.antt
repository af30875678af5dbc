-- In each scene: entries that were put name no joiner twice, so nobody stands twice in a base or in a node's state of a group.
use Rattle.std.proofs.Common.{◌≡◌, ℕ, List, [], ◌∷◌, Option, Some, None, refl, sym, subst, inl, inr, ⊎_elim}
use Rattle.rsct_packet.specs.declared.ids.ViewId.{ViewId}
use Rattle.rsct_packet.specs.Search.{Has}
use Rattle.rsct_packet.proofs.HasLaws.{has_append}
use Rattle.proposal_core.specs.declared.entry.Entry.{Entry}
use Rattle.proposal_core.specs.declared.entry.Entry.TheVariants.{Once, Begin}
use Rattle.proposal_core.specs.declared.group_state.GroupState.{GroupState}
use Rattle.proposal_core.specs.GroupView.{GroupView}
use Rattle.proposal_core.specs.Fold.{joins_of, present, after}
use Rattle.proposal_core.specs.Lists.{list_or_new}
use Rattle.node_state.specs.declared.config.Config.{Config}
use Rattle.node_state.specs.declared.happened.Happened.{Happened}
use Rattle.node_state.specs.declared.happened.Happened.TheVariants as happened
use Rattle.node_state.specs.State.{row_of, list_of, state_of}
use Rattle.run_safety.specs.Past.{History, EachRecord, Within, earlier, records_of}
use Rattle.run_safety.specs.Group.{Put, Line, Kept, Noted, Based}
use Rattle.run_safety.specs.Bases.{base_state, state_of_list}
use Rattle.run_safety.proofs.Prefix.{IsPrefix}
use Rattle.run_safety.proofs.Whole.{Whole}
use Rattle.run_safety.proofs.Lives.{whole}
use Rattle.step_refinement.specs.Ghost.{KeepsIf}
use Rattle.step_refinement.specs.Tied.{Scene, NodeIs, NodeIsIf, Rests, opening_of}
use Rattle.step_refinement.specs.Runs.{Reached}
use Rattle.step_refinement.proofs.RunLaw.{reached_rests}
use Rattle.row_laws.specs.honest_votes.Casts.{RecordCast, EntryCast}
use Rattle.row_laws.proofs.honest_votes.Law.{recorded_votes}
use Rattle.provider_laws.specs.attending.Places.{Alone, Named, PutNamed, EntriesNameOnce, MembersStandOnce}
use Rattle.provider_laws.proofs.attending.Alone.{differ_alone, after_alone}
use Rattle.row_laws.proofs.failed_rows.Founded.{AllPut, listed, folded, based}
use Rattle.run_safety.proofs.SightLaws.{own_line, line_seen, line_recorded}

-- ---- entries that were put

entry_named : (rs : List Happened) (e : Entry) → EntryCast rs e → Named e
entry_named rs (Once x) k = differ_alone (joins_of x) k
entry_named rs (Begin x) k = differ_alone (joins_of x) k
entry_named rs _ k = tt

record_named : (now : List Happened) (before : History) (r : Happened) → RecordCast now before r → PutNamed now before r
record_named now before (happened.Put n v g i e) k = entry_named (earlier now before) e k
record_named now before _ k = tt

within_named : (now : List Happened) (before : History) → Within RecordCast now before → Within PutNamed now before
within_named [] before k = tt
within_named (r ∷ now) before k = (record_named now before r k.0, within_named now before k.1)

each_named : (h : History) → EachRecord RecordCast h → EachRecord PutNamed h
each_named [] k = tt
each_named (e ∷ before) k = (within_named e.records before k.0, each_named before k.1)

pub entries_named : EntriesNameOnce
entries_named c w reached = each_named w.before (recorded_votes c w reached)

now_has : (now : List Happened) (before : History) → Within PutNamed now before → (n : ℕ) (v : ViewId) (g : List ℕ) (i : ℕ) (e : Entry) → Has (happened.Put n v g i e) now → Named e
now_has [] before k n v g i e h = absurd h
now_has (r ∷ now) before k n v g i e (inl q) = subst (λ z. PutNamed now before z) (sym q) k.0
now_has (r ∷ now) before k n v g i e (inr h) = now_has now before k.1 n v g i e h

pub put_named : (h : History) → EachRecord PutNamed h → (n : ℕ) (v : ViewId) (g : List ℕ) (i : ℕ) (e : Entry) → Has (happened.Put n v g i e) (records_of h) → Named e
put_named [] k n v g i e h = absurd h
put_named (x ∷ before) k n v g i e h =
    ⊎_elim (λ (a : Has (happened.Put n v g i e) x.records). now_has x.records before k.0 n v g i e a) (λ (b : Has (happened.Put n v g i e) (records_of before)). put_named before k.1 n v g i e b) (has_append (happened.Put n v g i e) x.records (records_of before) h)

-- ---- what a group sees of them

abbrev based_line : ℕ → ViewId → ViewId → ℕ → GroupState → Line
based_line n v old len s = Noted (Based n v (record { old = old; len = len; state = s }))

-- ---- states

-- an entry that names no joiner twice
keeps : (s : GroupState) (v : ViewId) (i : ℕ) (e : Entry) → Named e → Alone (present s) → Alone (present (after s v i e))
keeps s v i e n a = after_alone s v i e a n

module _ (c : Config) (w : Scene) (reached : Reached c w) where
  named_of : (g : List ℕ) → AllPut Named (reached_rests c w reached g).ghost.all
  named_of g = subst (AllPut Named) (sym (reached_rests c w reached g).lines) (λ n v i e h. put_named w.before (entries_named c w reached) n v g i e (line_recorded g (Kept (Put n v i e)) (happened.Put n v g i e) refl w.before h))

  -- nobody stands twice in a base
  based_alone : (g : List ℕ) (v : ViewId) → Alone (present (base_state ((reached_rests c w reached g).ghost.bases v)))
  based_alone g v = based Named (λ s. Alone (present s)) tt keeps (λ rs u s a. a) (reached_rests c w reached g).life (named_of g) v

  pub noted_alone : (n : ℕ) (v : ViewId) (g : List ℕ) (old : ViewId) (len : ℕ) (s : GroupState) → Has (happened.Base n v g old len s) (records_of w.before) → Alone (present s)
  noted_alone n v g old len s h =
      let t = reached_rests c w reached g in
      let o : Whole (opening_of w.config) t.ghost.nodes t.ghost.ps t.ghost.all t.ghost.leads t.ghost.bases = whole t.life in
      let seen : Has (based_line n v old len s) t.ghost.all = subst (Has (based_line n v old len s)) (sym t.lines) (line_seen (based_line n v old len s) g (happened.Base n v g old len s) (λ rs. own_line g (based_line n v old len s)) w.before h) in
      let is : t.ghost.bases v ≡ Some (record { old = old; len = len; state = s }) = o.based_ok.noted n v (record { old = old; len = len; state = s }) seen in
      subst (λ z. Alone (present (base_state z))) is (based_alone g v)

pub stand_once : MembersStandOnce
unfolding state_of list_of
stand_once c w reached n s up g = by (row_of s g).list k.row_is.list
  where
    t : Rests g w
    t = reached_rests c w reached g

    k : NodeIs t.ghost g n s
    k = (subst (NodeIsIf w.config t.ghost g n (w.incs n)) up (t.nodes n)).0

    o : Whole (opening_of w.config) t.ghost.nodes t.ghost.ps t.ghost.all t.ghost.leads t.ghost.bases
    o = whole t.life

    full : List Entry
    full = (t.ghost.nodes n).list

    front : IsPrefix full (o.log s.views.view)
    front = subst (λ v. IsPrefix full (o.log v)) k.stands.view (o.good.inv.node n).part

    all : Alone (present (state_of_list t.ghost.bases s.views.view full))
    all =
        folded Named (λ x. Alone (present x)) tt keeps (λ rs u x a. a) s.views.view (base_state (t.ghost.bases s.views.view)) 0 full (based_alone c w reached g s.views.view) (listed Named (opening_of w.config) t.ghost.nodes t.ghost.ps t.ghost.all t.ghost.leads t.ghost.bases o (named_of c w reached g) s.views.view full front)

    by : (l : Option GroupView) → KeepsIf t.ghost s.views.view full l → Alone (present (list_or_new l).state)
    by None h = tt
    by (Some l) h = subst (λ z. Alone (present z)) (sym h.state) all
