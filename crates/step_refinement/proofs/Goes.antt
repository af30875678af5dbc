-- What holds of a group goes on holding.
use Rattle.std.proofs.Common.{◌≢◌, ◌≡◌, ◌≤◌, ◌⊎◌, ⊎_elim, arith, ℕ, List, Option, Some, None, true, refl, sym, ap, ◌∙◌, subst, inl, inr}
use Rattle.std.specs.Prelude.{Bool, slice_get}
use Rattle.rsct_packet.specs.declared.ids.ViewId.{ViewId}
use Rattle.rsct_packet.specs.declared.ids.Member.{Member}
use Rattle.rsct_packet.specs.declared.ids.ProviderId.{ProviderId}
use Rattle.rsct_packet.specs.Search.{Has}
use Rattle.proposal_core.specs.declared.entry.Entry.{Entry}
use Rattle.proposal_core.specs.declared.proposal.Proposal.{Proposal}
use Rattle.proposal_core.specs.GroupView.{GroupView, new_list}
use Rattle.proposal_core.specs.Lists.{list_or_new}
use Rattle.name_server.specs.declared.names.Leader.{Leader}
use Rattle.view_state.specs.declared.answer.Answer.{Answer}
use Rattle.view_state.specs.declared.exchange.Exchange.{Exchange}
use Rattle.view_state.specs.declared.install.Part.{Part}
use Rattle.view_state.specs.declared.install.Install.{Install}
use Rattle.view_state.specs.declared.install.Base.{Base}
use Rattle.view_state.specs.Cut.{all_fit}
use Rattle.view_state.specs.Bases.{bases_of, base_named}
use Rattle.view_state.specs.declared.packet.ViewPacket.{ViewPacket}
use Rattle.view_state.specs.declared.packet.ViewPacket.TheVariants as view
use Rattle.view_state.specs.declared.views.Views.{Views}
use Rattle.session_state.specs.declared.state.Request.{Request}
use Rattle.session_state.specs.declared.state.SessionState.{SessionState}
use Rattle.node_state.specs.declared.config.Config.{Config}
use Rattle.node_state.specs.declared.group.GroupRow.{GroupRow}
use Rattle.node_state.specs.declared.group.Led.{Led}
use Rattle.node_state.specs.declared.packet.Body.{Body}
use Rattle.node_state.specs.declared.packet.Body.TheVariants as body
use Rattle.node_state.specs.declared.packet.Packet.{Packet}
use Rattle.node_state.specs.declared.state.Core.{Core}
use Rattle.node_state.specs.Settings.{is_fixed}
use Rattle.node_state.specs.State.{InNameOrder, row_of, acked_from}
use Rattle.run_safety.specs.Group.{member, Standing, Reply, Noted, Asked, Told, In, Put, kept}
use Rattle.run_safety.specs.Group as group
use Rattle.run_safety.specs.Bases.{state_of_list, base_state}
use Rattle.run_safety.specs.Past.{fold_from}
use Rattle.step_refinement.specs.Ghost.{Asking, asking, Ghost, Seen, Goes, FitIn, KeepsIf, CarriesIf, part_of, ReplyIs, GathersIf, BaseIsOf, Installs, InstallsIf, IsStable}
use Rattle.step_refinement.specs.Tied.{Numbered, Waiting, Sound, ShowsLeader, ShowsView, ShowsBody, Shows, Stands, KnowsLeader, RowIs, Owed, Owes, LeaderKeeps, Names, Idles, Closed, NodeOf, NodeIsIf, IsAcked}

pub goes_same : (x : Ghost) → Goes x x
goes_same x =
    record { packets = λ p h. h; records = λ r h. h; lines = λ l h. h; leads = λ v l e. e; bases = λ v s. refl; asks = refl; shut = λ v h. h; asked = λ a h. h }

module _ (x y : Ghost) (o : Goes x y) where
  pub seen_on : (v : ViewId) → Seen x v → Seen y v
  seen_on v h = (h.0, h.1, h.2, o.records (In h.0 h.1 v h.2) h.3)

  pub state_on : (v : ViewId) (full : List Entry) → Seen x v → state_of_list x.bases v full ≡ state_of_list y.bases v full
  state_on v full h = ap (λ b. fold_from v (base_state b) 0 full) (sym (o.bases v h))

  fits_on : (v : ViewId) (full : List Entry) → Seen x v → FitIn x v full → FitIn y v full
  fits_on v full s h = subst (λ b. all_fit v (new_list (base_state b)) full ≡ true) (sym (o.bases v s)) h

  pub stable_on : (v : ViewId) (k : ℕ) → IsStable x v k → IsStable y v k
  stable_on v k (inl e) = inl e
  stable_on v k (inr h) = inr (o.packets (group.Stable v k) h)

  pub keeps_on : (v : ViewId) (full : List Entry) (l : Option GroupView) → Seen x v → KeepsIf x v full l → KeepsIf y v full l
  keeps_on v full None s h = (h.0, o.bases v s ∙ h.1)
  keeps_on v full (Some l) s h =
      record { starts = h.starts; len = h.len; entries = h.entries; state = h.state ∙ state_on v full s; bytes = h.bytes; fits = fits_on v full s h.fits }

  pub carries_on : (v : ViewId) (full : List Entry) (p : Option Part) → Seen x v → CarriesIf x v full p → CarriesIf y v full p
  carries_on v full None s h = (h.0, o.bases v s ∙ h.1)
  carries_on v full (Some p) s h =
      record { starts = h.starts; entries = h.entries; state = h.state ∙ state_on v full s; fits = fits_on v full s h.fits; stable = stable_on v p.start h.stable }

  reply_on : (g : List ℕ) (v : ViewId) (a : Answer) (r : Reply) → ReplyIs x g v a r → ReplyIs y g v a r
  reply_on g v a r h =
      record {
        node = h.node;
        inc = h.inc;
        view = h.view;
        sent = o.packets (group.Answer v r) h.sent;
        seen = seen_on a.view h.seen;
        part = carries_on a.view r.list (part_of g a.parts) h.seen h.part;
        names = h.names;
      }

  pub gathers_on : (g : List ℕ) (n inc : ℕ) (v promise : ViewId) (e : Option Exchange) → GathersIf x g n inc v promise e → GathersIf y g n inc v promise e
  gathers_on g n inc v promise None h = λ a. h (sym o.asks ∙ a)
  gathers_on g n inc v promise (Some e) h =
      record {
        view = h.view;
        coord = h.coord;
        inc_of = h.inc_of;
        later = h.later;
        lt = h.lt;
        answers = h.answers;
        made = h.made;
        replies = h.replies;
        members = h.members;
        shown = λ a i. let z = h.shown a i in (z.0, z.1, reply_on g promise a z.0 z.2);
        came = λ r i. let z = h.came r i in (z.0, z.1, reply_on g promise z.0 r z.2);
        own = h.own;
        single = h.single;
        asked = h.asked;
        asks = o.asks ∙ h.asks;
      }

  -- an install's view is one that its coordinator entered
  base_on : (v : ViewId) (ms : List Member) (b : Option Base) → Seen x v → BaseIsOf x v ms b → BaseIsOf y v ms b
  base_on v ms None s h = o.bases v s ∙ h
  base_on v ms (Some b) s h = (o.bases v s ∙ h.0, (h.1.0, h.1.1, o.leads v (member b.leader h.1.0) h.1.2))

  pub installs_on : (g : List ℕ) (i : Install) → Installs x g i → Installs y g i
  installs_on g i h =
      record {
        whole = h.whole;
        sent = o.packets (group.Install i.view i.members h.whole) h.sent;
        entered = seen_on i.view h.entered;
        seen = λ s k. seen_on s.view (h.seen s k);
        parts = λ s k. carries_on s.view (h.whole s.view) (part_of g s.parts) (h.seen s k) (h.parts s k);
        names = h.names;
        rest = h.rest;
        base = base_on i.view i.members (base_named (bases_of i) g) h.entered h.base;
        asks = o.asks ∙ h.asks;
      }

  pub install_on : (g : List ℕ) (i : Option Install) → InstallsIf x g i → InstallsIf y g i
  install_on g None h = tt
  install_on g (Some i) h = installs_on g i h

  shows_view_on : (g : List ℕ) (from inc : ℕ) (p : ViewPacket) → ShowsView x g from inc p → ShowsView y g from inc p
  shows_view_on g from inc (view.Prepare v mask) h = o.asks ∙ h
  shows_view_on g from inc (view.Answer v old parts) h = (h.0, o.packets _ h.1, seen_on old h.2, carries_on old h.0 (part_of g parts) h.2 h.3, h.4)
  shows_view_on g from inc (view.Refuse v n) h = tt
  shows_view_on g from inc (view.Install i) h = installs_on g i h
  shows_view_on g from inc (view.Taken v) h = tt

  shows_leader_on : (v : ViewId) (n : ℕ) → ShowsLeader x v n → ShowsLeader y v n
  shows_leader_on v n h = record { inc = h.inc; leads = o.leads v (member n h.inc) h.leads }

  shows_body_on : (g : List ℕ) (from inc to : ℕ) (b : Body) → ShowsBody x g from inc to b → ShowsBody y g from inc to b
  shows_body_on g from inc to (body.Ring p) h = tt
  shows_body_on g from inc to (body.Report rows) h = tt
  shows_body_on g from inc to (body.View p) h = shows_view_on g from inc p h
  shows_body_on g from inc to (body.Lookup v k) h = o.asks ∙ h
  shows_body_on g from inc to (body.Name v k n) h = λ e. let z = h e in
      ((λ ne. shows_leader_on v n (z.0 ne)), λ none. o.shut v (z.1 none))
  shows_body_on g from inc to (body.Request v k p r phases q) h = (
    o.asked (asking p r k) h.0,
    h.1,
    λ e. let z = h.2 e in
        record { sent = o.packets (group.Request v p r q) z.sent; leader = shows_leader_on v to z.leader },
  )
  shows_body_on g from inc to (body.Tell v k p r why) h = (o.asked (asking p r k) h.0, λ e. o.packets (group.Refusal v p r) (h.1 e))
  shows_body_on g from inc to (body.Entry v k i stable e) h = λ q. let z = h q in
      record { sent = o.packets (group.Append v i e) z.sent; stable = stable_on v stable z.stable; leads = o.leads v (member from inc) z.leads }
  shows_body_on g from inc to (body.Ack v k n) h = λ e. o.packets (group.Ack v from inc n) (h e)
  shows_body_on g from inc to (body.Vote v k proto phase p vote value message) h = tt
  shows_body_on g from inc to (body.Gone v k p) h = tt
  shows_body_on g from inc to (body.Query question what) h = tt
  shows_body_on g from inc to (body.Reply question text) h = tt

  pub shows_on : (g : List ℕ) (p : Packet) → Shows x g p → Shows y g p
  shows_on g p h = shows_body_on g p.from p.inc p.to p.body h

  pub knows_on : (v : ViewId) (ms : List Member) (n : Option ℕ) → KnowsLeader x v ms n → KnowsLeader y v ms n
  knows_on v ms None h = tt
  knows_on v ms (Some n) h = (h.0, h.1, o.leads v (member n h.0) h.2)

  pub acked_on : (v : ViewId) (m i k : ℕ) → IsAcked x v m i k → IsAcked y v m i k
  acked_on v m i k (inl e) = inl e
  acked_on v m i k (inr h) = inr (o.packets (group.Ack v m i k) h)

module _ (x y : Ghost) (o : Goes x y) (m : ℕ) where
  -- what is owed goes on, where none of it is put or told, and nothing is asked
  pub owes_by : ((a : Asking) → a.provider.node ≡ m → Has a y.asked → Has a x.asked) → ((u : ViewId) (k : ℕ) (e : Entry) → Has (Put m u k e) (kept y.all) → Has (Put m u k e) (kept x.all)) → ((p : ProviderId) (r : ℕ) (u : ViewId) → p.node ≡ m → Has (Noted (Told p r u)) y.all → Has (Noted (Told p r u)) x.all) → (g : List ℕ) (inc : ℕ) (s : SessionState) → Owes x g m inc s → Owes y g m inc s
  owes_by asked puts told g inc s h =
      record {
        me = h.me;
        inc_of = h.inc_of;
        providers = h.providers;
        own = λ q i. let k = h.own q i in (k.0, k.1, o.asked (asking q.provider q.request q.group) k.2, k.3);
        requests = λ q i e. owed q (h.requests q i e);
        attended = h.attended;
        given = λ a i e. h.given a (asked a e i) e;
      }
    where
      owed : (q : Request) → Owed x m inc q → Owed y m inc q
      owed q h =
          record {
            node = h.node;
            inc_of = h.inc_of;
            asked = o.lines _ h.asked;
            unput = λ u k e i. h.unput u k e (puts u k e i);
            untold = λ u i. h.untold u (told q.provider q.request u h.node i);
          }

  -- what a leader keeps goes on, where it is named nowhere, and nothing is refused
  pub decides_by : (y.nodes m).list ≡ (x.nodes m).list → ((v : ViewId) (l : Member) → y.leads v ≡ Some l → x.leads v ≡ Some l) → ((v : ViewId) (p : ProviderId) (r : ℕ) → Has (group.Refusal v p r) y.ps → Has (group.Refusal v p r) x.ps) → (inc : ℕ) (v : ViewId) (l : Led) → LeaderKeeps x m inc v l → LeaderKeeps y m inc v l
  decides_by list leads refusals inc v l h =
      record {
        refused = λ p r e c i. h.refused p r (leads v (member m inc) e) (λ k. c (o.shut v k)) (refusals v p r i);
        begun = λ p r i e a b c. h.begun p r i e (leads v (member m inc) a) (subst (λ z. slice_get z i ≡ Some e) list b) c;
        waiting = λ p e i. let z = h.waiting p (leads v (member m inc) e) i in
            record {
              proposal = z.proposal;
              sent = o.packets _ z.sent;
              joins = z.joins;
              open_still = λ k. z.open_still (refusals v p p.join k);
              unbegun = λ i e b c. z.unbegun i e (subst (λ l. slice_get l i ≡ Some e) list b) c;
              decided = z.decided;
            };
        later = λ u l e p r i. h.later u l (leads u (member m inc) e) p r (refusals u p r i);
        again = λ p d why e q. o.packets (group.Refusal v p d.request) (h.again p d why e q);
        leads_it = λ p i. o.leads v (member m inc) (h.leads_it p i);
        apart = h.apart;
        lasts = h.lasts;
      }

  -- a node that stands as it stood, with other rows
  pub node_rows_by : y.nodes m ≡ x.nodes m → (g : List ℕ) (fixed : Bool) (s : Views) (row row' : GroupRow) (rows rows' : List GroupRow) (t u : SessionState) (table now : List Leader) → RowIs x m s.view s.members row' → ((j k : ℕ) → y.leads s.view ≡ Some (member m j) → Has (group.Stable s.view k) y.ps → (b i : ℕ) → Has (member b i) s.members → b ≢ m → k ≤ acked_from b row'.led.acked) → InNameOrder rows' → Waiting y rows' → Owes y g m s.inc u → LeaderKeeps y m s.inc s.view row'.led → Names y g fixed m s.inc s.view s.members now → Idles y m s.inc s.view fixed row' rows' → NodeOf x g m fixed s row rows t table → NodeOf y g m fixed s row' rows' u now
  node_rows_by same g fixed s row row' rows rows' t u table now is covers order waits owes decides names idles h =
      let seen : Seen x s.view = (m, s.inc, s.members, h.stands.seated) in
      record {
        stands = record {
          me = h.stands.me;
          up = h.stands.up;
          inc = ap (λ (k : Standing). k.inc) same ∙ h.stands.inc;
          view = ap (λ (k : Standing). k.view) same ∙ h.stands.view;
          promise = ap (λ (k : Standing). k.promise) same ∙ h.stands.promise;
          seated = o.records _ h.stands.seated;
        };
        row_is = record {
          list = subst (λ l. KeepsIf y s.view l row'.list) (sym (ap (λ (k : Standing). k.list) same)) (keeps_on x y o s.view (x.nodes m).list row'.list seen is.list);
          stable = stable_on x y o s.view (list_or_new row'.list).start is.stable;
          leader = knows_on x y o s.view s.members row'.leader is.leader;
          acked = λ k i a. acked_on x y o s.view k i (acked_from k row'.led.acked) (is.acked k i a);
          covers = covers;
        };
        order = order;
        gathering = gathers_on x y o g m s.inc s.view s.promise s.gathering h.gathering;
        install = install_on x y o g s.install h.install;
        owes = owes;
        decides = decides;
        names = names;
        asks = o.asks ∙ h.asks;
        led = λ e. shows_leader_on x y o s.view s.view.coord (h.led e);
        waits = waits;
        idles = idles;
      }

  -- with the same rows
  pub node_by : y.nodes m ≡ x.nodes m → (g : List ℕ) (fixed : Bool) (s : Views) (row : GroupRow) (rows : List GroupRow) (t u : SessionState) (table now : List Leader) → ((j k : ℕ) → y.leads s.view ≡ Some (member m j) → Has (group.Stable s.view k) y.ps → (b i : ℕ) → Has (member b i) s.members → b ≢ m → k ≤ acked_from b row.led.acked) → Owes y g m s.inc u → LeaderKeeps y m s.inc s.view row.led → Names y g fixed m s.inc s.view s.members now → Idles y m s.inc s.view fixed row rows → NodeOf x g m fixed s row rows t table → NodeOf y g m fixed s row rows u now
  node_by same g fixed s row rows t u table now covers owes decides names idles h =
      node_rows_by same g fixed s row row rows rows t u table now h.row_is covers h.order (λ k p e. o.asked (asking p p.join k) (h.waits k p e)) owes decides names idles h

-- some node entered the view, or refused something in it
abbrev pub Settled : Ghost → ViewId → Type 0
Settled x v = Seen x v ⊎ ((p : ProviderId) × (r : ℕ) × Has (group.Refusal v p r) x.ps)

-- what was of node m is as it was: no other leads where that is settled, nothing is refused where it leads, it asks
-- nothing, and none of its records is new
pub record Spares (x y : Ghost) (m : ℕ) : Type 0 where
  pub goes : Goes x y
  pub list : (y.nodes m).list ≡ (x.nodes m).list
  pub leads : (v : ViewId) → Settled x v → y.leads v ≡ x.leads v
  pub refusals : (v : ViewId) (p : ProviderId) (r : ℕ) → Has (group.Refusal v p r) y.ps → Has (group.Refusal v p r) x.ps ⊎ ((i : ℕ) → y.leads v ≡ Some (member m i) → ⊥)
  pub puts : (u : ViewId) (k : ℕ) (e : Entry) → Has (Put m u k e) (kept y.all) → Has (Put m u k e) (kept x.all)
  pub told : (p : ProviderId) (r : ℕ) (u : ViewId) → p.node ≡ m → Has (Noted (Told p r u)) y.all → Has (Noted (Told p r u)) x.all
  pub stables : (v : ViewId) (k : ℕ) → Has (group.Stable v k) y.ps → Has (group.Stable v k) x.ps ⊎ ((i : ℕ) → y.leads v ≡ Some (member m i) → ⊥)
  pub shut : (v : ViewId) → v.coord ≡ m → Has v y.shut → Has v x.shut
  pub shut_led : (v : ViewId) (i : ℕ) → y.leads v ≡ Some (member m i) → Has v y.shut → Has v x.shut
  pub asked : (a : Asking) → a.provider.node ≡ m → Has a y.asked → Has a x.asked

-- nobody is named, nothing is refused, nobody asks, and who is told had asked
pub record Still (x y : Ghost) : Type 0 where
  pub goes : Goes x y
  pub leads : (v : ViewId) → Settled x v → y.leads v ≡ x.leads v
  pub refusals : (v : ViewId) (p : ProviderId) (r : ℕ) → Has (group.Refusal v p r) y.ps → Has (group.Refusal v p r) x.ps
  pub stables : (v : ViewId) (k : ℕ) → Has (group.Stable v k) y.ps → Has (group.Stable v k) x.ps
  pub shut : (v : ViewId) → Has v y.shut → Has v x.shut
  pub asked : (a : Asking) → Has a y.asked → Has a x.asked
  pub asks : (p : ProviderId) (r : ℕ) (q : Proposal) → Has (Noted (Asked p r q)) y.all → Has (Noted (Asked p r q)) x.all
  pub told : (p : ProviderId) (r : ℕ) (u : ViewId) → Has (Noted (Told p r u)) y.all → Has (Noted (Told p r u)) x.all ⊎ Numbered x p r
  pub incs : (m : ℕ) → (x.nodes m).inc ≤ (y.nodes m).inc
  pub closed : (v : ViewId) → Has v x.shut → Closed x.nodes x.leads x.asks v → Closed y.nodes y.leads y.asks v

pub still_same : (x : Ghost) → Still x x
still_same x =
    record { goes = goes_same x; leads = λ v s. refl; refusals = λ v p r h. h; stables = λ v k h. h; shut = λ v h. h; asked = λ a h. h; asks = λ p r q h. h; told = λ p r u h. inl h; incs = λ m. omega arith; closed = λ v s c. c }

pub numbered_on : (x y : Ghost) → Goes x y → (p : ProviderId) (r : ℕ) → Numbered x p r → Numbered y p r
numbered_on x y o p r (inl e) = inl e
numbered_on x y o p r (inr h) = inr (h.0, o.asked (asking p r h.0) h.1)

module _ (x y : Ghost) (o : Still x y) where
  pub still_spares : (m : ℕ) → (y.nodes m).list ≡ (x.nodes m).list → ((u : ViewId) (k : ℕ) (e : Entry) → Has (Put m u k e) (kept y.all) → Has (Put m u k e) (kept x.all)) → ((p : ProviderId) (r : ℕ) (u : ViewId) → p.node ≡ m → Has (Noted (Told p r u)) y.all → Has (Noted (Told p r u)) x.all) → Spares x y m
  still_spares m list puts told =
      record {
        goes = o.goes;
        list = list;
        leads = o.leads;
        refusals = λ v p r h. inl (o.refusals v p r h);
        stables = λ v k h. inl (o.stables v k h);
        puts = puts;
        told = told;
        shut = λ v e h. o.shut v h;
        shut_led = λ v i e h. o.shut v h;
        asked = λ a e h. o.asked a h;
      }

  pub sound_on : (g : List ℕ) → Sound g x → Sound g y
  sound_on g t =
      record {
        refused = λ v p r h. seen_on x y o.goes v (t.refused v p r (o.refusals v p r h));
        unled = λ v p r h e. let k = o.refusals v p r h in o.goes.shut v (t.unled v p r k (sym (o.leads v (inr (p, r, k))) ∙ e));
        shut = λ v h. let k = t.shut v (o.shut v h) in
            (seen_on x y o.goes v k.0, ⊎_elim (λ (e : x.leads v ≡ None). inl (o.leads v (inl k.0) ∙ e)) (λ (c : Closed x.nodes x.leads x.asks v). inr (o.closed v (o.shut v h) c)) k.1);
        asked = λ p r q h. o.goes.asked (asking p r g) (t.asked p r q (o.asks p r q h));
        one = λ p r h k a b. t.one p r h k (o.asked (asking p r h) a) (o.asked (asking p r k) b);
        started = λ a h. let i = t.started a (o.asked a h) in let j = o.incs a.provider.node in omega arith;
        told = λ p r u h. ⊎_elim (λ (i : Has (Noted (Told p r u)) x.all). numbered_on x y o.goes p r (t.told p r u i)) (λ (i : Numbered x p r). numbered_on x y o.goes p r i) (o.told p r u h);
      }

pub spares_same : (x : Ghost) (m : ℕ) → Spares x x m
spares_same x m = still_spares x x (still_same x) m refl (λ u k e h. h) (λ p r u e h. h)

module _ (x y : Ghost) (m : ℕ) (o : Spares x y m) where
  pub row_on : (v : ViewId) (ms : List Member) (row : GroupRow) → Seen x v → RowIs x m v ms row → RowIs y m v ms row
  row_on v ms row seen h =
      record {
        list = subst (λ l. KeepsIf y v l row.list) (sym o.list) (keeps_on x y o.goes v (x.nodes m).list row.list seen h.list);
        stable = stable_on x y o.goes v (list_or_new row.list).start h.stable;
        leader = knows_on x y o.goes v ms row.leader h.leader;
        acked = λ k i a. acked_on x y o.goes v k i (acked_from k row.led.acked) (h.acked k i a);
        covers = λ j k e c b i a ne. ⊎_elim (λ (z : Has (group.Stable v k) x.ps). h.covers j k (sym (o.leads v (inl seen)) ∙ e) z b i a ne) (λ (z : (i : ℕ) → y.leads v ≡ Some (member m i) → ⊥). absurd (z j e)) (o.stables v k c);
      }

  pub owes_on : (g : List ℕ) (inc : ℕ) (s : SessionState) → Owes x g m inc s → Owes y g m inc s
  owes_on g inc s h = owes_by x y o.goes m o.asked o.puts o.told g inc s h

  pub decides_on : (inc : ℕ) (v : ViewId) (l : Led) → Seen x v → LeaderKeeps x m inc v l → LeaderKeeps y m inc v l
  decides_on inc v l seen h =
      record {
        refused = λ p r e c i. h.refused p r (sym (o.leads v (inl seen)) ∙ e) (λ k. c (o.goes.shut v k)) (old v p r e i);
        begun = λ p r i e a b c. h.begun p r i e (sym (o.leads v (inl seen)) ∙ a) (subst (λ z. slice_get z i ≡ Some e) o.list b) c;
        waiting = λ p e i. let z = h.waiting p (sym (o.leads v (inl seen)) ∙ e) i in
            record {
              proposal = z.proposal;
              sent = o.goes.packets _ z.sent;
              joins = z.joins;
              open_still = λ k. z.open_still (old v p p.join e k);
              unbegun = λ i e b c. z.unbegun i e (subst (λ l. slice_get l i ≡ Some e) o.list b) c;
              decided = z.decided;
            };
        later = λ u l e p r i. let k = old u p r e i in h.later u l (sym (o.leads u (inr (p, r, k))) ∙ e) p r k;
        again = λ p d why e q. o.goes.packets (group.Refusal v p d.request) (h.again p d why e q);
        leads_it = λ p i. o.goes.leads v (member m inc) (h.leads_it p i);
        apart = h.apart;
        lasts = h.lasts;
      }
    where
      old : (u : ViewId) (p : ProviderId) (r : ℕ) → y.leads u ≡ Some (member m inc) → Has (group.Refusal u p r) y.ps → Has (group.Refusal u p r) x.ps
      old u p r e i = ⊎_elim (λ (k : Has (group.Refusal u p r) x.ps). k) (λ (k : (i : ℕ) → y.leads u ≡ Some (member m i) → ⊥). absurd (k inc e)) (o.refusals u p r i)

  pub names_on : (g : List ℕ) (fixed : Bool) (inc : ℕ) (v : ViewId) (ms : List Member) (table : List Leader) → Seen x v → Names x g fixed m inc v ms table → Names y g fixed m inc v ms table
  names_on g fixed inc v ms table seen h =
      record {
        named = λ k a b c e. let z = h.named k a b c e in (z.0, z.1, o.leads v (inl seen) ∙ z.2);
        unnamed = λ a b c e. o.leads v (inl seen) ∙ h.unnamed a b c e;
        full = λ a b c e. h.full a b c (o.shut v a e);
      }

  pub idles_on : (inc : ℕ) (v : ViewId) (fixed : Bool) (row : GroupRow) (rows : List GroupRow) → Seen x v → Idles x m inc v fixed row rows → Idles y m inc v fixed row rows
  idles_on inc v fixed row rows seen h =
      record { few = h.few; shut = λ e k. h.shut (sym (o.leads v (inl seen)) ∙ e) (o.shut_led v inc e k) }

  -- all but where it stands
  pub rest_on : (g : List ℕ) (fixed : Bool) (s t : Views) (row : GroupRow) (rows : List GroupRow) (u : SessionState) (table : List Leader) → Stands y m t → t.view ≡ s.view → t.inc ≡ s.inc → t.members ≡ s.members → t.install ≡ s.install → GathersIf y g m t.inc t.view t.promise t.gathering → NodeOf x g m fixed s row rows u table → NodeOf y g m fixed t row rows u table
  rest_on g fixed s t row rows u table stands a b c d gathering h =
      record {
        stands = stands;
        row_is = subst (λ (k : ViewId × List Member). RowIs y m k.0 k.1 row) (λ z. (sym a z, sym c z)) (row_on s.view s.members row (m, s.inc, s.members, h.stands.seated) h.row_is);
        order = h.order;
        gathering = gathering;
        install = subst (λ k. InstallsIf y g k) (sym d) (install_on x y o.goes g s.install h.install);
        owes = subst (λ k. Owes y g m k u) (sym b) (owes_on g s.inc u h.owes);
        decides = subst (λ (k : ℕ × ViewId). LeaderKeeps y m k.0 k.1 row.led) (λ z. (sym b z, sym a z)) (decides_on s.inc s.view row.led (m, s.inc, s.members, h.stands.seated) h.decides);
        names = subst (λ (k : ℕ × ViewId × List Member). Names y g fixed m k.0 k.1 k.2 table) (λ z. (sym b z, sym a z, sym c z)) (names_on g fixed s.inc s.view s.members table (m, s.inc, s.members, h.stands.seated) h.names);
        asks = o.goes.asks ∙ h.asks;
        led = λ e. subst (λ z. ShowsLeader y z z.coord) (sym a) (shows_leader_on x y o.goes s.view s.view.coord (h.led e));
        waits = λ k p e. o.goes.asked (asking p p.join k) (h.waits k p e);
        idles = subst (λ (k : ℕ × ViewId). Idles y m k.0 k.1 fixed row rows) (λ z. (sym b z, sym a z)) (idles_on s.inc s.view fixed row rows (m, s.inc, s.members, h.stands.seated) h.idles);
      }

  pub stands_on : y.nodes m ≡ x.nodes m → (s : Views) → Stands x m s → Stands y m s
  stands_on e s h =
      record {
        me = h.me;
        up = h.up;
        inc = ap (λ (k : Standing). k.inc) e ∙ h.inc;
        view = ap (λ (k : Standing). k.view) e ∙ h.view;
        promise = ap (λ (k : Standing). k.promise) e ∙ h.promise;
        seated = o.goes.records _ h.seated;
      }

  pub node_on : y.nodes m ≡ x.nodes m → (g : List ℕ) (fixed : Bool) (s : Views) (row : GroupRow) (rows : List GroupRow) (u : SessionState) (table : List Leader) → NodeOf x g m fixed s row rows u table → NodeOf y g m fixed s row rows u table
  node_on e g fixed s row rows u table h =
      rest_on g fixed s s row rows u table (stands_on e s h.stands) refl refl refl refl (gathers_on x y o.goes g m s.inc s.view s.promise s.gathering h.gathering) h

  pub node_if_on : y.nodes m ≡ x.nodes m → (c : Config) (g : List ℕ) (inc : ℕ) (s : Option Core) → NodeIsIf c x g m inc s → NodeIsIf c y g m inc s
  node_if_on e c g inc None h = ap (λ (k : Standing). k.inc) e ∙ h
  node_if_on e c g inc (Some s) h =
      (node_on e g (is_fixed s.config.mode) s.views (row_of s g) s.groups s.sessions s.names h.0, h.1, h.2)
