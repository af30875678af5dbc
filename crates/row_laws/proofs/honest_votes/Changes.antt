-- What each kind of change of a step keeps: that votes were cast.
use Rattle.std.proofs.Common.{◌≡◌, ◌⊎◌, ℕ, ◌-◌, List, [], ◌∷◌, ◌++◌, drop, Option, Some, None, Bool, true, false, refl, sym, ap, ◌∙◌, subst, inl, inr, ⊎_elim, length}
use Rattle.std.specs.Prelude.{not, filter, nat_le, reverse, ◌==◌, ◌&&◌, find, nat_lt, is_none, map, is_some}
use Rattle.std.proofs.lemmas.Bool.{and_parts}
use Rattle.rsct_packet.specs.declared.ids.ViewId.{ViewId}
use Rattle.rsct_packet.specs.declared.ids.ProviderId.{ProviderId}
use Rattle.rsct_packet.specs.Providers.{among, differ}
use Rattle.rsct_packet.specs.Search.{Has}
use Rattle.rsct_packet.proofs.HasLaws.{has_append, append_has_left, has_map, has_filter, find_has, has_drop}
use Rattle.group_attr.specs.declared.attrs.Phases.{Phases}
use Rattle.proposal_core.specs.declared.proposal.Proposal.{Proposal}
use Rattle.proposal_core.specs.declared.entry.Entry.{Entry}
use Rattle.proposal_core.specs.declared.entry.Entry.TheVariants.{Once, Begin, Late, Phase, Approve, Reject}
use Rattle.proposal_core.specs.declared.group_state.GroupState.{GroupState}
use Rattle.proposal_core.specs.declared.group_state.Running.{Running}
use Rattle.proposal_core.specs.Fold.{fits, begun, approve, apply, after_if, after, runs, present, max_providers}
use Rattle.proposal_core.proofs.FoldLaws.{idle_approved}
use Rattle.proposal_core.specs.GroupView.{GroupView}
use Rattle.proposal_core.specs.Lists.{list_or_new, state_in, has_room, entry_fits, with_entry, is_at_limit}
use Rattle.batch_rules.specs.Waiting.{batches_joins, has_instance, waits_join}
use Rattle.vote_phases.specs.Tally.{TallyView, tally_fail}
use Rattle.node_state.specs.declared.group.GroupRow.{GroupRow}
use Rattle.node_state.specs.declared.group.Led.{Led}
use Rattle.node_state.specs.declared.happened.Happened.{Happened}
use Rattle.node_state.specs.declared.state.Core.{Core}
use Rattle.node_state.specs.State.{row_of, with_row, with_led, led_of, list_of, state_of, len_of, fits_at_end, leader_of, others, recorded, row_found, is_this, leader_in, leads_in, leads, set_leader, with_sessions, has_name, held_rows, decisions_with, leader_by}
use Rattle.node_state.specs.Sending.{sent, send_on, network_to}
use Rattle.node_state.specs.Leading.{put, tally_for, tally_set, tally_opened, closing_entry, with_tally}
use Rattle.run_safety.specs.Past.{History, records_of}
use Rattle.step_refinement.proofs.Turns.{has_turned, has_last, has_pushed_on}
use Rattle.row_laws.specs.honest_votes.Casts.{NamesOnce, EntryCast, EntriesCast, TallyCast, IsCast, RecordCast, PartsCast, InstallCast, InstallIfCast, ViewPacketCast, BallotCast, KeptCast, BodyCast}
use Rattle.std.specs.Option.{option_map}
use Rattle.rsct_packet.specs.declared.ids.ProtoId.{ProtoId}
use Rattle.proposal_core.specs.declared.entry.Vote.{Vote}
use Rattle.client_callbacks.specs.declared.told.Why.{Why}
use Rattle.client_callbacks.specs.declared.told.Why.TheVariants.{Dissolved, NoSource}
use Rattle.session_state.specs.State.{outstanding}
use Rattle.session_state.specs.HandOn.{take_telling}
use Rattle.node_state.specs.Deciding.{keep_decision, lacks_source, source_len, is_idle_empty, meant_attrs, join_refusal, keep_attrs, wait_join}
use Rattle.node_state.specs.Following.{vote_cast}
use Rattle.node_state.proofs.NameOrder.{row_here}
use Rattle.rsct_packet.specs.Ids.{same_view}
use Rattle.rsct_packet.proofs.ProviderLaws.{filter_differs}
use Rattle.view_state.specs.declared.install.Part.{Part}
use Rattle.view_state.specs.declared.install.Source.{Source}
use Rattle.view_state.specs.declared.install.Install.{Install}
use Rattle.view_state.specs.declared.install.Base.{Base}
use Rattle.view_state.specs.Parts.{part_len}
use Rattle.view_state.specs.Bases.{source_at, parts_in, parts_from, bases_of, base_named}
use Rattle.view_state.specs.Cut.{all_fit, lacking_if, lacking_of}
use Rattle.view_state.specs.declared.packet.ViewSend.{ViewSend}
use Rattle.view_state.specs.declared.views.ViewWork.{ViewWork}
use Rattle.view_state.specs.Views.{own_install, views_entered, views_at_work}
use Rattle.node_state.specs.Applying.{part_of_list, own_parts, Lacking, lacking_in, lacking, level_set, base_row, base_leader, view_entered, number_of, dissolved}
use Rattle.step_refinement.proofs.BaseOrder.{bases_ordered, row_of_base}
use Rattle.group_attr.specs.declared.attrs.Attrs.{Attrs}
use Rattle.group_attr.specs.Agree.{agree}
use Rattle.step_refinement.proofs.Decisions.{differ_push, apart_instances}
use Rattle.node_state.specs.Ticks.{ring_ask, ticked_in}
use Rattle.client_callbacks.specs.declared.ballot.Filled.{Filled}
use Rattle.session_state.specs.declared.state.KeptBallot.{KeptBallot}
use Rattle.session_state.specs.declared.state.SessionState.{SessionState}
use Rattle.node_state.specs.declared.packet.Body.{Body}
use Rattle.node_state.specs.declared.packet.Packet.{Packet}
use Rattle.node_state.specs.Step.{is_used}
use Rattle.step_walk.proofs.Changes.{Any, Viewing, Asks, Prepares, Answers, Refuses, Installs, Takes, Gathers, Reminds, viewing, KeepsRing}
use Rattle.step_walk.proofs.Kept.{KeptIs, OneMore, told_no_more}
use Rattle.step_walk.proofs.Waiting.{chosen_differ, cast_apart}
use Rattle.step_walk.proofs.Evidence.{IsLed, Saying, delivered, Plain, Turning, Arisen, chosen, chosen_attrs, KeepsBeside, KeepsLed, KeepsEnding, Keeping, KeepsPackets, KeepsEntering, KeepsCalling, KeepsDelivery}
use Rattle.step_walk.proofs.Delivering.{at_delivered}
use Rattle.step_walk.proofs.Parts.{IsEntering, on_enters}
use Rattle.row_laws.proofs.honest_votes.More.{entry_on, entries_on, install_on, ballot_on}
use Rattle.row_laws.proofs.honest_votes.At.{found, leads_row, leads_is, RowIs, At, at_fewer, at_sent_on, more_pushed, at_recorded, at_sessions, at_views, at_row_for, at_row}
use Rattle.row_laws.proofs.honest_votes.Closes.{closing_cast, failed_cast, ticked_cast, voted_cast, opened_cast, runs_is}
use Rattle.row_laws.proofs.honest_votes.Gathers.{WorkIs, begun_work, ask_work, prepare_work, answer_work, refuse_work, install_work, taken_work, ticks_work, install_again_work}
use Rattle.node_state.specs.declared.happened.Happened.TheVariants as happened
use Rattle.node_state.specs.declared.packet.Body.TheVariants as body
use Rattle.view_state.specs.declared.packet.ViewPacket.TheVariants as packet
use Rattle.client_callbacks.specs.declared.told.Why.TheVariants as why
use Rattle.session_state.specs.HandOn as session
use Rattle.step_walk.proofs.Kept as walk

-- ---- rows

entry_pushed : (rs : List Happened) (l : GroupView) (v : ViewId) (e : Entry) → EntryCast rs e → EntriesCast rs l.entries → EntriesCast rs (with_entry l v e).entries
unfolding with_entry
entry_pushed rs l v e new old d i = by (has_append d l.entries (e ∷ []) i)
  where
    by : Has d l.entries ⊎ Has d (e ∷ []) → EntryCast rs d
    by (inl j) = old d j
    by (inr (inl q)) = subst (EntryCast rs) (sym q) new
    by (inr (inr z)) = absurd z

-- an entry that begins and ends at once leaves nothing running, and one of who is late leaves what runs
pub once_idle : (st : GroupState) (v : ViewId) (i : ℕ) (x : Proposal) → fits st (Once x) ≡ true → (after st v i (Once x)).running ≡ None
unfolding after after_if apply approve
once_idle st v i x e =
    ap (λ b. (after_if st v i (Once x) b).running) e ∙ idle_approved (begun st v i x) v i None (begun st v i x).running refl

pub late_same : (st : GroupState) (v : ViewId) (i : ℕ) (e : Entry) → apply st v i e ≡ st → after st v i e ≡ st
unfolding after after_if
late_same st v i e same = by (fits st e)
  where
    by : (b : Bool) → after_if st v i e b ≡ st
    by true = same
    by false = refl

-- where the phase that runs is as it was, so is the tally
row_is_same : (rs : List Happened) (led : Bool) (row now : GroupRow) → now.led.tally ≡ row.led.tally → (state_in now.list).running ≡ (state_in row.list).running → RowIs rs led row → RowIs rs led now
row_is_same rs led row now t r (inl e) = inl (t ∙ e)
row_is_same rs led row now t r (inr k) = inr (k.0, subst (λ (z : Option TallyView × Option Running). TallyCast rs z.0 z.1) (λ i. (sym t i, sym r i)) k.1)

-- where nothing runs, no vote counts
pub row_is_idle : (rs : List Happened) (led : Bool) (row now : GroupRow) → now.led.tally ≡ row.led.tally → (state_in now.list).running ≡ None → RowIs rs led row → RowIs rs led now
row_is_idle rs led row now t r (inl e) = inl (t ∙ e)
row_is_idle rs led row now t r (inr k) = inr (k.0, subst (λ z. TallyCast rs now.led.tally z) (sym r) (by now.led.tally))
  where
    by : (o : Option TallyView) → TallyCast rs o None
    by None = tt
    by (Some x) = tt

pub row_ticked : (rs : List Happened) (led : Bool) (row : GroupRow) → RowIs rs led row → RowIs rs led (record row { led = record (row.led) { tally = ticked_in row.led.tally } })
row_ticked rs led row (inl e) = inl (ap ticked_in e)
row_ticked rs led row (inr k) = inr (k.0, by row.led.tally k.1)
  where
    by : (o : Option TallyView) → TallyCast rs o (state_in row.list).running → TallyCast rs (ticked_in o) (state_in row.list).running
    by None z = tt
    by (Some t) z = ticked_cast rs t (state_in row.list).running z

-- a vote is counted
row_voted : (rs : List Happened) (led : Bool) (row : GroupRow) (p : ProviderId) (v : Vote) (value message : Option (List ℕ)) → ((r : Running) → (state_in row.list).running ≡ Some r → IsCast rs p r.proto r.phase v) → RowIs rs led row → RowIs rs led (record row { led = vote_cast row.led p v value message row.led.tally })
unfolding vote_cast
row_voted rs led row p v value message ok k = by row.led.tally refl k
  where
    run : Option Running
    run = (state_in row.list).running

    by : (o : Option TallyView) → row.led.tally ≡ o → RowIs rs led row → ((vote_cast row.led p v value message o).tally ≡ None) ⊎ ((led ≡ true) × TallyCast rs (vote_cast row.led p v value message o).tally run)
    by None e j = inl e
    by (Some t) e (inl none) = let z : Some t ≡ None = sym e ∙ none in absurd (cc)
    by (Some t) e (inr j) = inr (j.0, voted_cast rs p v t run ok (subst (λ z. TallyCast rs z run) e j.1))

pub row_failed : (rs : List Happened) (led : Bool) (row : GroupRow) (p : ProviderId) (t : TallyView) → row.led.tally ≡ Some t → RowIs rs led row → RowIs rs led (record row { led = record (row.led) { tally = Some (tally_fail p t) } })
row_failed rs led row p t e (inl none) = let z : Some t ≡ None = sym e ∙ none in absurd (cc)
row_failed rs led row p t e (inr k) = inr (k.0, failed_cast rs p t (state_in row.list).running (subst (λ z. TallyCast rs z (state_in row.list).running) e k.1))

-- what the node does not lead is not counted
pub row_unled : (rs : List Happened) (led : Bool) (row : GroupRow) → led ≡ false → RowIs rs led row → row.led.tally ≡ None
row_unled rs led row e (inl none) = none
row_unled rs led row e (inr k) = let z : true ≡ false = sym k.0 ∙ e in absurd (cc)

-- ---- ballots

cast_so : (rs past : List Happened) (p : ProviderId) (proto : ProtoId) (phase : ℕ) (o : Option Filled) → walk.IsCast rs p proto phase o → BallotCast (rs ++ past) p proto phase o
cast_so rs past p proto phase None k = tt
cast_so rs past p proto phase (Some b) k = record { value = b.value; message = b.message; recorded = append_has_left _ rs past k }

-- ---- what begins

-- a join that is not refused does not wait yet
join_new : (s : Core) (g : List ℕ) (p : ProviderId) (attrs : Attrs) → join_refusal s g p attrs ≡ None → among (led_of s g).waiting.joins p ≡ false
unfolding join_refusal
join_new s g p attrs e = apart_instances (present (state_of s g)) (led_of s g).waiting.joins p (first (not idle && not (agree attrs (state_of s g).attrs)) e)
  where
    idle : Bool
    idle = is_idle_empty (state_of s g)

    here : List ProviderId
    here = present (state_of s g) ++ (led_of s g).waiting.joins

    rest : Option Why
    rest = elim (lacks_source s (meant_attrs (state_of s g) attrs idle).source p.node) as (λ _. Option Why) [ true ↦ Some (NoSource (source_len s (meant_attrs (state_of s g) attrs idle).source)) | false ↦ elim (nat_le max_providers (length here)) as (λ _. Option Why) [ true ↦ Some (why.GroupFull 64) | false ↦ elim (is_none (state_of s g).running && is_at_limit (list_of s g)) as (λ _. Option Why) [ true ↦ Some (why.ListFull (list_of s g).len (list_of s g).bytes) | false ↦ None ] ] ]

    second : (b : Bool) → (elim b as (λ _. Option Why) [ true ↦ Some why.DuplicateInstance | false ↦ rest ]) ≡ None → b ≡ false
    second false q = refl
    second true q = absurd (cc)

    first : (b : Bool) → (elim b as (λ _. Option Why) [ true ↦ Some why.BadAttributes | false ↦ elim (has_instance here p) as (λ _. Option Why) [ true ↦ Some why.DuplicateInstance | false ↦ rest ] ]) ≡ None → has_instance here p ≡ false
    first true q = absurd (cc)
    first false q = second (has_instance here p) q

-- ---- what the own lists lack

module _ (rs : List Happened) where
  abbrev LackingCast : List Lacking → Type 0
  LackingCast xs = (x : Lacking) → Has x xs → EntriesCast rs x.entries

  abbrev IfEntries : Option (List Entry) → Type 0
  IfEntries None = Unit {0}
  IfEntries (Some es) = EntriesCast rs es

  abbrev IfLacking : Option (List Lacking) → Type 0
  IfLacking None = Unit {0}
  IfLacking (Some xs) = LackingCast xs

  lacks_cast : (v : ViewId) (l : GroupView) (p : Part) → EntriesCast rs p.entries → IfEntries (lacking_of v l p)
  unfolding lacking_of lacking_if
  lacks_cast v l p all = by (nat_le (part_len p) l.len) (nat_lt l.len p.start) (all_fit v l (drop (l.len - p.start) p.entries))
    where
      by : (a b c : Bool) → IfEntries (elim a as (λ _. Option (List Entry)) [ true ↦ Some [] | false ↦ elim b as (λ _. Option (List Entry)) [ true ↦ None | false ↦ lacking_if c (drop (l.len - p.start) p.entries) ] ])
      by true b c = λ e i. absurd i
      by false true c = tt
      by false false true = λ e i. all e (has_drop (l.len - p.start) p.entries e i)
      by false false false = tt

  lacking_in_cast : (s : Core) (ps : List Part) → PartsCast rs ps → IfLacking (lacking_in s ps)
  unfolding lacking_in
  lacking_in_cast s [] all = λ x i. absurd i
  lacking_in_cast s (p ∷ ps) all =
      by (lacking_of s.views.view (list_of s p.name) p) (lacks_cast s.views.view (list_of s p.name) p (all p (inl refl))) (lacking_in s ps) (lacking_in_cast s ps (λ q i. all q (inr i)))
    where
      by : (a : Option (List Entry)) → IfEntries a → (b : Option (List Lacking)) → IfLacking b → IfLacking (elim a as (λ _. Option (List Lacking)) [ None ↦ None | Some es ↦ elim b as (λ _. Option (List Lacking)) [ None ↦ None | Some xs ↦ Some (record { name = p.name; entries = es } ∷ xs) ] ])
      by None j b k = tt
      by (Some es) j None k = tt
      by (Some es) j (Some xs) k = λ x i. at x i
        where
          at : (x : Lacking) → Has x (record { name = p.name; entries = es } ∷ xs) → EntriesCast rs x.entries
          at x (inl e) = subst (λ (z : Lacking). EntriesCast rs z.entries) (sym e) j
          at x (inr i) = k x i

  parts_from_cast : (i : Install) (v : ViewId) → InstallCast rs i → PartsCast rs (parts_from i v)
  unfolding parts_from source_at
  parts_from_cast i v all = by (find (λ (s : Source). same_view s.view v) i.sources) refl
    where
      by : (o : Option Source) → find (λ (s : Source). same_view s.view v) i.sources ≡ o → PartsCast rs (parts_in o)
      by None e = λ p j. absurd j
      by (Some s) e = all s (find_has (λ (s : Source). same_view s.view v) i.sources s e).0

  lacking_cast : (s : Core) (i : Install) → InstallCast rs i → IfLacking (lacking s i)
  unfolding lacking
  lacking_cast s i all = lacking_in_cast s (parts_from i s.views.view) (parts_from_cast i s.views.view all)

abbrev pub Every : List ℕ → Type 0
Every g = Unit {0}

abbrev pub NoGroup : List ℕ → Type 0
NoGroup g = ⊥

-- but for one group
abbrev pub But : List ℕ → List ℕ → Type 0
But g k = g ≡ k → ⊥

-- who joins together differs
abbrev pub NamesApart : Core → List ℕ → Phases → Proposal → Type 0
NamesApart s g phases x = NamesOnce x

-- evidence is asked for
pub sure : {A : Type 0} → A ⊎ ⊥ → A
sure (inl a) = a
sure (inr z) = absurd z

module _ (h : History) where
  abbrev pub all_of : Core → List Happened
  all_of s = s.records ++ records_of h

  abbrev pub Full : Core → Type 0
  Full s = At h Every s

  abbrev Is : Core → GroupRow → Type 0
  Is s row = RowIs (all_of s) (leads_row s row) row

  -- what stands in a list was cast
  listed : (T : List ℕ → Type 0) (s : Core) (g : List ℕ) (e : Entry) → Has e (list_of s g).entries → At h T s → EntryCast (all_of s) e
  unfolding list_of row_of
  listed T s g e i a = by (find (has_name g) s.groups) refl i
    where
      by : (o : Option GroupRow) → find (has_name g) s.groups ≡ o → Has e (list_or_new (row_found g o).list).entries → EntryCast (all_of s) e
      by None q j = absurd j
      by (Some row) q j = a.lists row (find_has (has_name g) s.groups row q).0 e j

  saying_cast : (T : List ℕ → Type 0) (s : Core) (b : Body) → Saying s b → At h T s → BodyCast (all_of s) b
  saying_cast T s (body.Vote v g proto phase p vote value message) (inl i) a = record { value = value; message = message; recorded = append_has_left _ s.records (records_of h) i }
  saying_cast T s (body.Vote v g proto phase p vote value message) (inr k) a =
      subst (λ (z : ProviderId × ProtoId × ℕ × Option Filled). BallotCast (all_of s) z.0 z.1 z.2 z.3) (λ i. (k.2 i, k.3 i, k.4 i, k.5 i)) (a.kept k.0 k.1)
  saying_cast T s (body.Entry v g place stable e) i a = listed T s g e i a
  saying_cast T s (body.View (packet.Taken v)) saying a = tt
  saying_cast T s (body.View (packet.Prepare v mask)) saying a = absurd saying
  saying_cast T s (body.View (packet.Answer v old parts)) saying a = absurd saying
  saying_cast T s (body.View (packet.Refuse v n)) saying a = absurd saying
  saying_cast T s (body.View (packet.Install i)) saying a = absurd saying
  saying_cast T s (body.Ring x) saying a = tt
  saying_cast T s (body.Report rows) saying a = tt
  saying_cast T s (body.Lookup v g) saying a = tt
  saying_cast T s (body.Name v g n) saying a = tt
  saying_cast T s (body.Request v g q r phases x) saying a = tt
  saying_cast T s (body.Tell v g q r y) saying a = tt
  saying_cast T s (body.Ack v g n) saying a = tt
  saying_cast T s (body.Gone v g q) saying a = tt
  saying_cast T s (body.Query question what) saying a = tt
  saying_cast T s (body.Reply question text) saying a = tt

  pub beside : (T : List ℕ → Type 0) → KeepsBeside (At h T) Any
  beside T =
      record {
        row = λ s g f ok aside a. at_row h T s g f aside.mild.name (λ x all e i. all e (aside.entries x e i)) (aside.apart (found s g)) (λ t. subst (λ o. RowIs (all_of s) (is_this s.views.me (leader_by s.config.mode s.views.view.coord o)) (f (found s g))) (sym (aside.mild.leader (found s g))) (row_is_same (all_of s) (leads_row s (found s g)) (found s g) (f (found s g)) (aside.tally (found s g)) (ap (λ (st : GroupState). st.running) (aside.mild.state (found s g))) (a.tallies g t))) a;
        sends = λ s network to b saying a. at_sent_on h T s network to b (saying_cast T s b saying a) a;
        notes = λ s n client v place t a. at_recorded h T s (happened.Noted n client v place t) tt a;
      }

  -- ---- an entry is put and heard

  -- with what lasts as more is recorded
  abbrev pub With : (List ℕ → Type 0) → (List Happened → Type 0) → Core → Type 0
  With T E s = At h T s × E (all_of s)

  abbrev Lasts : (List Happened → Type 0) → Type 0
  Lasts E = (rs ts : List Happened) → ((r : Happened) → Has r rs → Has r ts) → E rs → E ts

  pushed : (E : List Happened → Type 0) → Lasts E → (T : List ℕ → Type 0) (s : Core) (r : Happened) → RecordCast (reverse s.records) h r → With T E s → With T E (recorded s r)
  unfolding recorded
  pushed E lasts T s r ok a = (at_recorded h T s r ok a.0, lasts (all_of s) ((s.records ++ r ∷ []) ++ records_of h) (λ x i. more_pushed h T s.records r x i) a.1)

  beside_with : (E : List Happened → Type 0) → Lasts E → (T : List ℕ → Type 0) → KeepsBeside (With T E) Any
  unfolding with_row send_on
  beside_with E lasts T =
      let b = beside T in
      record { row = λ s g f ok aside a. (b.row s g f ok aside a.0, a.1); sends = λ s network to x saying a. (b.sends s network to x saying a.0, a.1); notes = λ s n client v place t a. pushed E lasts T s (happened.Noted n client v place t) tt a }

  delivery : (E : List Happened → Type 0) → Lasts E → (T : List ℕ → Type 0) (g : List ℕ) (e : Entry) → ((rs : List Happened) → E rs → EntryCast rs e) → KeepsDelivery (With T E) g e
  unfolding send_on with_sessions
  delivery E lasts T g e cast =
      record {
        sends = λ s network to v place stable a. (at_sent_on h T s network to (body.Entry v g place stable e) (cast (all_of s) a.1) a.0, a.1);
        hears = λ s before after bs c i j a. pushed E lasts T s (happened.Heard c.provider s.views.view g i e after.members after.value) tt a;
        casts = λ s p proto phase vote value message a. pushed E lasts T s (happened.Cast p proto phase vote value message) tt a;
        handed = λ s before after bs kept a. (at_sessions h T s (session.handed_on s.sessions g before after e bs) (λ k i. ⊎_elim (λ (j : Has k s.sessions.kept). (a.0).kept k j) (λ (j : KeptIs s.records k). cast_so s.records (records_of h) k.provider k.proto k.phase k.ballot.filled j) (kept k i)) a.0, a.1);
      }

  abbrev pub put_row : Core → GroupRow → Entry → GroupRow
  put_row s row e = record row { list = Some (with_entry (list_or_new row.list) s.views.view e) }

  at_put : (E : List Happened → Type 0) → Lasts E → (T U : List ℕ → Type 0) (s : Core) (g : List ℕ) (e : Entry) (ns : List ℕ) (stable : ℕ) (bs : List (Option Filled)) → ((rs : List Happened) → E rs → EntryCast rs e) → ((k : List ℕ) → U k → (g ≡ k → ⊥) → T k) → (U g → Is s (put_row s (found s g) e)) → With T E s → With U E (delivered s g e ns stable bs)
  unfolding put with_row
  at_put E lasts T U s g e ns stable bs cast others own a =
      let f : GroupRow → GroupRow = λ row. put_row s row e in
      let r : Happened = happened.Put s.views.me s.views.view g (len_of s g) e in
      let ok : EntryCast (all_of s) e = cast (all_of s) a.1 in
      let before : EntryCast (reverse s.records ++ records_of h) e = entry_on (all_of s) (reverse s.records ++ records_of h) (λ x i. has_turned x s.records (records_of h) i) e ok in
      at_delivered (With U E) g e (delivery E lasts U g e cast) s ns stable bs (pushed E lasts U (with_row s g f) r before (at_row_for h T U s g f (λ x. refl) (λ x all. entry_pushed (all_of s) (list_or_new x.list) s.views.view e ok all) (λ z. z) others own a.0, a.1))

  -- an entry that was cast
  put_cast : (T U : List ℕ → Type 0) (s : Core) (g : List ℕ) (e : Entry) (ns : List ℕ) (stable : ℕ) (bs : List (Option Filled)) → EntryCast (all_of s) e → ((k : List ℕ) → U k → (g ≡ k → ⊥) → T k) → (U g → Is s (put_row s (found s g) e)) → At h T s → At h U (delivered s g e ns stable bs)
  put_cast T U s g e ns stable bs ok others own a = (at_put (λ rs. EntryCast rs e) (λ rs ts more k. entry_on rs ts more e k) T U s g e ns stable bs (λ rs k. k) others own (a, ok)).0

  -- ---- what a leader does

  plain_row : (s : Core) (g : List ℕ) (e : Entry) → Plain NamesApart s g e → fits_at_end s g e ≡ true → Is s (found s g) → Is s (put_row s (found s g) e) × EntryCast (all_of s) e
  unfolding fits_at_end entry_fits list_of row_of with_entry apply
  plain_row s g (Once x) once room k =
      (row_is_idle (all_of s) (leads_row s (found s g)) (found s g) (put_row s (found s g) (Once x)) refl (once_idle (state_in (found s g).list) s.views.view (list_or_new (found s g).list).len x (and_parts (fits (state_in (found s g).list) (Once x)) (has_room (list_or_new (found s g).list) (Once x)) room).0) k, once)
  plain_row s g (Late proto phase ps) plain room k =
      (row_is_same (all_of s) (leads_row s (found s g)) (found s g) (put_row s (found s g) (Late proto phase ps)) refl (ap (λ (st : GroupState). st.running) (late_same (state_in (found s g).list) s.views.view (list_or_new (found s g).list).len (Late proto phase ps) refl)) k, tt)
  plain_row s g (Begin x) plain room k = absurd plain
  plain_row s g (Phase c) plain room k = absurd plain
  plain_row s g (Approve c) plain room k = absurd plain
  plain_row s g (Reject c) plain room k = absurd plain

  casts : (s : Core) (g : List ℕ) (e : Entry) → Turning NamesApart s g e → Is s (found s g) → EntryCast (all_of s) e
  unfolding led_of state_of list_of row_of
  casts s g e turning k = by e turning
    where
      made : (e : Entry) → closing_entry (found s g).led (found s g).led.tally (state_in (found s g).list).running ≡ Some e → EntryCast (all_of s) e
      made e q = at k
        where
          at : Is s (found s g) → EntryCast (all_of s) e
          at (inl none) = closing_cast (all_of s) (found s g).led None (state_in (found s g).list).running e tt (ap (λ o. closing_entry (found s g).led o (state_in (found s g).list).running) (sym none) ∙ q)
          at (inr k) = closing_cast (all_of s) (found s g).led (found s g).led.tally (state_in (found s g).list).running e k.1 q

      by : (e : Entry) → Turning NamesApart s g e → EntryCast (all_of s) e
      by (Begin x) t = t
      by (Late proto phase ps) t = tt
      by x t = made x t

  pub opened : (s : Core) (g : List ℕ) → leads s g ≡ true → At h (But g) s → At h Every (tally_opened s g)
  unfolding tally_opened tally_set with_led led_of state_of list_of row_of
  opened s g led a =
      at_row_for h (But g) Every s g (λ row. record row { led = record (row.led) { tally = Some (tally_for (state_in (found s g).list) (found s g).led.gone); given = [] } }) (λ x. refl) (λ x all. all) (λ z. z) (λ k u ne. ne) (λ u. inr (leads_is s g ∙ led, opened_cast (all_of s) (state_in (found s g).list) (found s g).led.gone (state_in (found s g).list).running)) a

  -- what a leader keeps changes, and the tally does not
  led_row : (s : Core) (g : List ℕ) (f : Led → Led) → ((l : Led) → (f l).tally ≡ l.tally) → (differ (found s g).led.waiting.joins ≡ true → differ (f (found s g).led).waiting.joins ≡ true) → Full s → Full (with_led s g f)
  unfolding with_led
  led_row s g f same waits a =
      at_row h Every s g (λ row. record row { led = f row.led }) (λ x. refl) (λ x all. all) waits (λ t. row_is_same (all_of s) (leads_row s (found s g)) (found s g) (record (found s g) { led = f (found s g).led }) (same (found s g).led) refl (a.tallies g t)) a

  leading : KeepsLed Full (λ g. At h (But g)) NamesApart (IsLed ⊥)
  unfolding keep_decision tally_set with_led led_of row_of
  leading =
      record {
        decides = λ s g q r y ok fair a. led_row s g _ (λ l. refl) (λ z. z) a;
        puts = λ s g e ns stable bs ok fits plain a. (let k = plain_row s g e plain fits (a.tallies g tt) in put_cast Every Every s g e ns stable bs k.1 (λ k u ne. tt) (λ u. k.0) a);
        turns = λ s g e ns stable bs ok fits turning a. put_cast Every (But g) s g e ns stable bs (casts s g e turning (a.tallies g tt)) (λ k u ne. tt) (λ u. absurd (u refl)) a;
        rests = λ s g ok a. at_row_for h (But g) Every s g _ (λ x. refl) (λ x all. all) (λ z. z) (λ k u ne. ne) (λ u. inl refl) a;
        opens = λ s g ok a. opened s g (sure ok) a;
      }

  keeping : Keeping Full (λ g. At h (But g)) NamesApart ⊥
  keeping = record { order = λ s a. inl a.order; order_between = λ g s a. inl a.order; beside = beside Every; between = λ g. beside (But g); led = leading }

  pub ending : KeepsEnding Full NamesApart
  unfolding led_of row_of
  ending =
      record {
        fails = λ s g a. refl;
        casts_out = λ s g k out from due a. refl;
        reflects = λ s g k v i from due a. refl;
        joins = λ s g a taken. filter_differs (λ (q : ProviderId). not (lacks_source s (chosen_attrs s g).source q.node)) (chosen s g) (chosen_differ (batches_joins (state_of s g).attrs.batch) (led_of s g).waiting.joins (a.apart g));
      }

  -- ---- packets

  -- what is known of a packet that is given to a node
  pub record Known (s : Core) (q : Packet) : Type 0 where
    pub cast : BodyCast (all_of s) q.body
    pub entry : (v : ViewId) (g : List ℕ) (place stable : ℕ) (e : Entry) → q.body ≡ body.Entry v g place stable e → is_used s q v ≡ true → (place == len_of s g) ≡ true → leads s g ≡ false
    pub request : (v : ViewId) (g : List ℕ) (p : ProviderId) (r : ℕ) (phases : Phases) (x : Proposal) → q.body ≡ body.Request v g p r phases x → q.to ≡ s.views.me → is_used s q v ≡ true → leads (set_leader s g s.views.me) g ≡ true

  -- a leader is known
  pub led_by : (s : Core) (g : List ℕ) (n : ℕ) → Is s (record (found s g) { leader = Some n }) → Full s → Full (set_leader s g n)
  unfolding set_leader
  led_by s g n own a = at_row h Every s g (λ row. record row { leader = Some n }) (λ x. refl) (λ x all. all) (λ z. z) (λ t. own) a

  pub idle_row : (s : Core) (g : List ℕ) → leads s g ≡ false → Full s → (found s g).led.tally ≡ None
  idle_row s g un a = row_unled (all_of s) (leads_row s (found s g)) (found s g) (leads_is s g ∙ un) (a.tallies g tt)

  -- nobody leads where nobody is known
  pub unnamed : (s : Core) (g : List ℕ) → is_none (leader_of s g) ≡ true → leads s g ≡ false
  unfolding leads leads_in leader_of
  unnamed s g e = by (leader_in s (row_of s g)) e
    where
      by : (o : Option ℕ) → is_none o ≡ true → is_this s.views.me o ≡ false
      by None e = refl
      by (Some n) e = absurd (cc)

  pub noted : (s : Core) (g : List ℕ) → leads (set_leader s g s.views.me) g ≡ true → Full s → Full (set_leader s g s.views.me)
  unfolding set_leader with_row leads leads_in leader_in row_of
  noted s g leads_it a = led_by s g s.views.me (own (a.tallies g tt)) a
    where
      now : leads_row s (record (found s g) { leader = Some s.views.me }) ≡ true
      now = ap (leads_row s) (sym (row_here g (λ row. record row { leader = Some s.views.me }) (λ x. refl) s a.order)) ∙ leads_it

      own : Is s (found s g) → Is s (record (found s g) { leader = Some s.views.me })
      own (inl e) = inl e
      own (inr k) = inr (now, k.1)

  counts : (s : Core) (g : List ℕ) (proto : ProtoId) (phase : ℕ) (p : ProviderId) (v : Vote) (value message : Option (List ℕ)) → IsCast (all_of s) p proto phase v → runs proto phase (state_of s g).running ≡ true → Full s → Full (with_led s g (λ l. vote_cast l p v value message l.tally))
  unfolding with_led state_of list_of row_of
  counts s g proto phase p v value message ok runs_it a =
      at_row h Every s g (λ row. record row { led = vote_cast row.led p v value message row.led.tally }) (λ x. refl) (λ x all. all) (cast_apart (found s g).led p v value message (found s g).led.tally) (λ t. row_voted (all_of s) (leads_row s (found s g)) (found s g) p v value message now (a.tallies g t)) a
    where
      now : (r : Running) → (state_in (found s g).list).running ≡ Some r → IsCast (all_of s) p r.proto r.phase v
      now r e =
          let k = runs_is proto phase r (ap (runs proto phase) (sym e) ∙ runs_it) in
          subst (λ (z : ProtoId × ℕ). IsCast (all_of s) p z.0 z.1 v) (λ i. (k.0 i, k.1 i)) ok

  waits : (s : Core) (g : List ℕ) (p : ProviderId) (r : ℕ) (attrs : Attrs) → join_refusal s g p attrs ≡ None → Full s → Full (wait_join s g p r attrs (is_idle_empty (state_of s g)))
  unfolding wait_join keep_decision with_led led_of row_of
  waits s g p r attrs e a =
      let d : Core = keep_decision s g p r None in
      led_row d g (λ l. record l { waiting = waits_join p l.waiting; join_attrs = keep_attrs l.join_attrs p attrs (is_idle_empty (state_of s g)) }) (λ l. refl) (λ z. differ_push (found d g).led.waiting.joins p z (ap (λ (row : GroupRow). among row.led.waiting.joins p) (row_here g (λ row. record row { led = record (row.led) { decided = decisions_with (record { provider = p; request = r; why = None }) row.led.decided } }) (λ x. refl) s a.order) ∙ join_new s g p attrs e)) (led_row s g _ (λ l. refl) (λ z. z) a)

  pub telling : (s : Core) (p : ProviderId) (r : ℕ) (y : Why) → Full s → Full (recorded (with_sessions s (take_telling s.sessions p r y)) (happened.Told p r y))
  telling s p r y a =
      at_recorded h Every (with_sessions s (take_telling s.sessions p r y)) (happened.Told p r y) tt (at_sessions h Every s (take_telling s.sessions p r y) (λ k i. a.kept k (told_no_more s.sessions p r y k i)) a)

  pub packets : KeepsPackets Full (λ g. At h (But g)) NamesApart ⊥ Known
  unfolding with_tally with_led led_of row_of
  packets =
      record {
        keeping = keeping;
        names = λ s ns a. record { sends = a.sends; kept = a.kept; lists = a.lists; views = a.views; puts = a.puts; order = a.order; tallies = a.tallies; apart = a.apart };
        reach = λ s x a. record { sends = a.sends; kept = a.kept; lists = a.lists; views = a.views; puts = a.puts; order = a.order; tallies = a.tallies; apart = a.apart };
        named = λ s g n e a. led_by s g n (inl (idle_row s g (unnamed s g e) a)) a;
        requested = λ s q v g p r phases x k to is used a. (noted s g (k.request v g p r phases x is to used) a, inl (k.request v g p r phases x is to used));
        changes = λ s q v g p r phases x k to is used none fair. ap differ none;
        joins = λ s g q r attrs e a. waits s g q r attrs e a;
        tells = λ s q r y telling_it numbered a. telling s q r y a;
        comes = λ s q v g place stable e bs k to is used at fits a. (let z = k.entry v g place stable e is used at in (put_cast Every Every s g e [] 0 bs (subst (BodyCast (all_of s)) is k.cast) (λ k u ne. tt) (λ u. inl (idle_row s g z a)) a, inl z));
        follows = λ s g n un a. led_by s g n (inl (idle_row s g (sure un) a)) a;
        casts = λ s q v g proto phase p vote value message k is led runs_it a. counts s g proto phase p vote value message (subst (BodyCast (all_of s)) is k.cast) runs_it a;
        fails = λ s g p t led e a. at_row h Every s g _ (λ x. refl) (λ x all. all) (λ z. z) (λ u. row_failed (all_of s) (leads_row s (found s g)) (found s g) p t e (a.tallies g tt)) a;
        ticks = λ s g led a. at_row h Every s g _ (λ x. refl) (λ x all. all) (λ z. z) (λ u. row_ticked (all_of s) (leads_row s (found s g)) (found s g) (a.tallies g tt)) a;
        reopens = λ s g led a. opened s g (sure led) (at_fewer h Every (But g) s (λ k ne. tt) a);
      }

  -- ---- views

  abbrev pub Loose : Core → Type 0
  Loose s = At h NoGroup s

  -- what a rule of views sends and installs was cast
  pub record Works (s : Core) (w : ViewWork) : Type 0 where
    pub sends : (x : ViewSend) → Has x w.sends → ViewPacketCast (all_of s) x.packet
    pub install : InstallIfCast (all_of s) w.install

  -- what the install has and the node lacks was cast
  abbrev Lacks : Install → List Lacking → List Happened → Type 0
  Lacks i xs rs = InstallCast rs i × LackingCast rs xs

  abbrev pub Leaving : Install → List Lacking → Core → Type 0
  Leaving i xs s = With NoGroup (Lacks i xs) s

  lacks_on : (i : Install) (xs : List Lacking) → Lasts (Lacks i xs)
  lacks_on i xs rs ts more k = (install_on rs ts more i k.0, λ x j. entries_on rs ts more x.entries (k.1 x j))

  -- the own lists
  own_parts_cast : (s : Core) → Full s → PartsCast (s.records ++ records_of h) (own_parts s)
  unfolding own_parts held_rows part_of_list
  own_parts_cast s a p i =
      let k = has_map (λ (row : GroupRow). part_of_list row (list_or_new row.list)) p (filter (λ (row : GroupRow). is_some row.list) s.groups) i in
      let j = has_filter (λ (row : GroupRow). is_some row.list) k.0 s.groups k.1 in
      subst (λ (z : Part). EntriesCast (s.records ++ records_of h) z.entries) (sym k.2) (a.lists k.0 j.0)

  viewing_work : (s : Core) (v : Viewing) → Arisen Known s v → Full s → WorkIs (all_of s) s.views (viewing s v)
  viewing_work s v arisen a = by v arisen
    where
      w : ViewWork
      w = views_at_work s.views

      begun : WorkIs (all_of s) s.views w
      begun = begun_work (all_of s) s.views a.views

      own : PartsCast (all_of s) (own_parts s)
      own = own_parts_cast s a

      by : (v : Viewing) → Arisen Known s v → WorkIs (all_of s) s.views (viewing s v)
      by (Asks mask) z = ask_work (all_of s) s.views w mask (own_parts s) own begun
      by (Prepares from inc v mask) z = prepare_work (all_of s) s.views w from inc v mask (own_parts s) own begun
      by (Answers v x) z = answer_work (all_of s) s.views w v x (subst (BodyCast (all_of s)) z.2 (z.1).cast) begun
      by (Refuses v n) z = refuse_work (all_of s) s.views w v n begun
      by (Installs i) z = install_work (all_of s) s.views w i (subst (BodyCast (all_of s)) z.2 (z.1).cast) begun
      by (Takes from v) z = taken_work (all_of s) s.views w from v begun
      by Gathers z = ticks_work (all_of s) s.views w (ring_ask s) (own_parts s) own begun
      by Reminds z = install_again_work (all_of s) s.views w begun

  -- the records of an entering put nothing
  entering_none : (s : Core) (r : Happened) → IsEntering r → Full s → Full (recorded s r)
  entering_none s (happened.In n v ms) is a = at_recorded h Every s (happened.In n v ms) tt a
  entering_none s (happened.Base n v g u len st) is a = at_recorded h Every s (happened.Base n v g u len st) tt a
  entering_none s _ is a = absurd is

  -- in a view that is entered nothing is counted yet
  at_view_entered : (s : Core) (i : Install) → InstallCast (all_of s) i → Loose s → Full (view_entered s i (bases_of i))
  unfolding level_set base_row views_entered own_install
  at_view_entered s i ok a = on_enters Full entering_none s i first
    where
      bs : List Base
      bs = bases_of i

      t : Core
      t = record s { views = views_entered s.views i; sessions = level_set s i.members; groups = map base_row bs; names = map base_leader bs }

      own : (b : Bool) → InstallIfCast (all_of s) (elim b as (λ _. Option Install) [ true ↦ Some i | false ↦ None ])
      own true = ok
      own false = tt

      install_of : InstallIfCast (all_of s) (own_install s.views i)
      install_of = own (i.view.coord == s.views.me && i.view.inc == s.views.inc)

      tally : (g : List ℕ) → (found t g).led.tally ≡ None
      tally g = ap (λ o. (row_found g o).led.tally) (row_of_base g bs) ∙ by (base_named bs g)
        where
          by : (o : Option Base) → (row_found g (option_map base_row o)).led.tally ≡ None
          by None = refl
          by (Some b) = refl

      idle : (g : List ℕ) → (found t g).led.waiting.joins ≡ []
      idle g = ap (λ o. (row_found g o).led.waiting.joins) (row_of_base g bs) ∙ by (base_named bs g)
        where
          by : (o : Option Base) → (row_found g (option_map base_row o)).led.waiting.joins ≡ []
          by None = refl
          by (Some b) = refl

      first : Full t
      first =
          record {
            sends = a.sends;
            kept = a.kept;
            lists = λ row j. let k = has_map base_row row bs j in subst (λ (z : GroupRow). EntriesCast (all_of s) (list_or_new z.list).entries) (sym k.2) (λ e z. absurd z);
            views = (tt, install_of);
            puts = a.puts;
            order = bases_ordered i;
            tallies = λ g u. inl (tally g);
            apart = λ g. ap differ (idle g);
          }

  -- a vote is recorded and kept
  votes : (s : Core) (t : SessionState) (m : OneMore s.sessions t) → Full s → Full (recorded (with_sessions s t) (happened.Cast m.ballot.provider m.ballot.proto m.ballot.phase m.filled.vote m.filled.value m.filled.message))
  unfolding recorded with_sessions
  votes s t m a = at_sessions h Every (recorded s r) t all (at_recorded h Every s r tt a)
    where
      r : Happened
      r = happened.Cast m.ballot.provider m.ballot.proto m.ballot.phase m.filled.vote m.filled.value m.filled.message

      now : List Happened
      now = (s.records ++ r ∷ []) ++ records_of h

      all : (x : KeptBallot) → Has x t.kept → KeptCast now x
      all x i = by (has_append x s.sessions.kept (m.ballot ∷ []) (subst (Has x) m.more i))
        where
          own : KeptCast now m.ballot
          own = subst (λ b. BallotCast now m.ballot.provider m.ballot.proto m.ballot.phase b) (sym m.full) (record { value = m.filled.value; message = m.filled.message; recorded = has_last r s.records (records_of h) })

          by : Has x s.sessions.kept ⊎ Has x (m.ballot ∷ []) → KeptCast now x
          by (inl j) = ballot_on (all_of s) now (λ y z. has_pushed_on r y s.records (records_of h) z) x.provider x.proto x.phase x.ballot.filled (a.kept x j)
          by (inr (inl e)) = subst (KeptCast now) (sym e) own
          by (inr (inr z)) = absurd z

  pub calling : KeepsCalling Full
  calling =
      record {
        sessions = λ s t less a. at_sessions h Every s t (λ k i. a.kept k (less k i)) a;
        refuses = λ s n client fault a. at_recorded h Every s (happened.Refused n client fault) tt a;
        asks = λ s p r g x a. at_recorded h Every s (happened.Asked p r g x) tt a;
        votes = votes;
      }

  leaves : (s : Core) (w : ViewWork) (i : Install) (xs : List Lacking) → w.install ≡ Some i → lacking s i ≡ Some xs → Full s → Works s w → Leaving i xs s
  leaves s w i xs e q a works =
      let ok : InstallCast (all_of s) i = subst (InstallIfCast (all_of s)) e works.install in
      (at_fewer h Every NoGroup s (λ g z. tt) a, (ok, subst (IfLacking (all_of s)) q (lacking_cast (all_of s) s i ok)))

  pub entering : KeepsEntering Full Works Leaving Known
  unfolding dissolved sent send_on
  entering =
      record {
        views = λ s v arisen a. (let k = viewing_work s v arisen a in (at_views h Every s (viewing s v).views k.views k.me k.view a, record { sends = k.sends; install = k.install }));
        sends = λ s w x i a works. (at_sent_on h Every s (network_to s x.to) x.to (body.View x.packet) (works.sends x i) a, record { sends = works.sends; install = works.install });
        leaves = leaves;
        beside = λ i xs. beside_with (Lacks i xs) (lacks_on i xs) NoGroup;
        fills = λ s i xs x e bs here there a. at_put (Lacks i xs) (lacks_on i xs) NoGroup NoGroup s x.name e [] 0 bs (λ rs k. k.1 x here e there) (λ k z ne. z) (λ z. absurd z) a;
        enters = λ s i xs a. at_view_entered s i (a.1).0 a.0;
        dissolves = λ s q x e a. telling s x.provider (number_of (outstanding s.sessions x.provider)) Dissolved a;
      }

  pub ring : KeepsRing Full
  ring =
      record {
        rings = λ s rs a. record { sends = a.sends; kept = a.kept; lists = a.lists; views = a.views; puts = a.puts; order = a.order; tallies = a.tallies; apart = a.apart };
        sends = λ s network to x a. at_sent_on h Every s network to (body.Ring x) tt a;
        records = λ s n network id members neighbour a. at_recorded h Every s (happened.Ring n network id members neighbour) tt a;
      }
