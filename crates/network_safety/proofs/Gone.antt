-- A goodbye leaves no session of its name and no provider of its client, and sends GONE for each of them.
use Rattle.std.proofs.Common.{◌≡◌, ◌⊎◌, ℕ, List, [], ◌∷◌, ◌++◌, Option, Some, None, Bool, true, false, refl, sym, ap, ◌∙◌, subst, inl, inr, arith}
use Rattle.std.specs.Prelude.{◌==◌, suc, filter, find, fold, length, not, is_none, if◌then◌else◌}
use Rattle.std.specs.List.{list_any}
use Rattle.std.specs.Option.{option_map}
use Rattle.std.proofs.lemmas.Bool.{eqb-true, eq-eqb, ne_eqb}
use Rattle.rsct_packet.specs.declared.ids.ProviderId.{ProviderId}
use Rattle.rsct_packet.specs.Search.{Has, place_where}
use Rattle.rsct_packet.proofs.HasLaws.{append_has_left, append_has_right, has_filter, filter_has, find_has, find_none}
use Rattle.client_callbacks.specs.declared.ballot.Filled.{Filled}
use Rattle.subscribe_core.specs.declared.subs.ClientToken.{ClientToken}
use Rattle.session_state.specs.declared.fault.GsFault.{GsFault}
use Rattle.session_state.specs.declared.fault.GsFault.TheVariants as fault
use Rattle.session_state.specs.declared.state.Provider.{Provider}
use Rattle.session_state.specs.declared.state.Session.{Session}
use Rattle.session_state.specs.State.{is_session, is_named, is_client_of, token_in, client_token}
use Rattle.session_state.specs.Calls.{or_fault, fault_if, is_empty, no_session_fault, client_fault, unless_fault, removed_at, end_session, goodbye_taken}
use Rattle.node_state.specs.declared.call.CallLine.{CallLine}
use Rattle.node_state.specs.declared.call.CallLine.TheVariants as call
use Rattle.node_state.specs.declared.config.Config.{Config}
use Rattle.node_state.specs.declared.happened.Happened.{Happened}
use Rattle.node_state.specs.declared.packet.Body.TheVariants as body
use Rattle.node_state.specs.declared.packet.Packet.{Packet}
use Rattle.node_state.specs.declared.state.Core.{Core}
use Rattle.view_state.specs.declared.install.Install.{Install}
use Rattle.node_state.specs.HandOn.{Answering}
use Rattle.node_state.specs.State.{frozen, row_of, leader_in, leader_of, with_row, with_led, set_leader, recorded, with_sessions}
use Rattle.node_state.specs.Sending.{packet_on, network_to, send_on, sent, send_if_known}
use Rattle.node_state.specs.Leading.{put}
use Rattle.node_state.specs.Deciding.{keep_decision, wait_join}
use Rattle.node_state.specs.Applying.{level_set, dissolved}
use Rattle.node_state.specs.Calls.{refuse_call, send_gone, send_all_gone, goodbye_said, take_call}
use Rattle.node_state.specs.Step.{NodeEvent, Ticks, Asks, Calls, at_work, stepped}
use Rattle.node_state.specs.Step as step
use Rattle.node_state.proofs.NameOrder.{text_same, text_self}
use Rattle.world_model.specs.World.{World, empty_world}
use Rattle.world_laws.specs.world_answers.Answers.{answered_after}
use Rattle.step_refinement.specs.Tied.{Scene}
use Rattle.provider_laws.specs.leaving.Scenes.{Recounted}
use Rattle.run_safety.specs.Past.{History}
use Rattle.run_safety.specs.Stays.{client_of}
use Rattle.run_safety.proofs.Tests.{has_any}
use Rattle.row_laws.proofs.failed_rows.Owners.{Owned, known_session, removed_was}
use Rattle.row_laws.proofs.hearing.Handing.{some_is}
use Rattle.row_laws.proofs.hearing.Rules.{gone_sends}
use Rattle.provider_laws.proofs.leaving.Calling.{Apart}
use Rattle.provider_laws.proofs.leaving.Keeping.{Kept, KeptIf}
use Rattle.provider_laws.proofs.leaving.Law.{clean, recounted_ran}
use Rattle.provider_laws.proofs.leaving.Left.{Left, left_stepped}
use Rattle.row_laws.proofs.failed_rows.Origin.{root_of}
use Rattle.step_walk.proofs.Changes.{Any, Whatever, viewing, KeepsParts, KeepsRing, KeepsRules, KeepsViews}
use Rattle.step_walk.proofs.Parts.{on_hands, on_enters}
use Rattle.step_walk.proofs.Ringing.{by_ring}
use Rattle.step_walk.proofs.Walking.{whatever, on_stepped}
use Rattle.world_safety.specs.Mirrors.{core_at, Mirrors}
use Rattle.world_safety.proofs.Runs.{every_run_is_reached}
use Rattle.remote_clients.specs.declared.clients.RemoteClient.{RemoteClient}
use Rattle.remote_clients.specs.declared.sessions.Sessions.{Sessions}
use Rattle.remote_clients.specs.Clients.{is_of_key, is_gone, goodbye_if, goodbye_owed}
use Rattle.daemon_model.specs.Daemon.{Daemon, goodbye_in, without_key, key_over, left_for, stepped_for, is_due, ticked, ticked_if, mended}
use Rattle.daemon_model.specs.Daemon as daemon
use Rattle.daemon_model.specs.Actions.{Action, Opens, EndsKey, Mends, Hears, did}
use Rattle.daemon_model.specs.Actions as action
use Rattle.network_model.specs.Network.{Act, no_net, acted, net_after}
use Rattle.network_model.specs.Fits.{IsSpelledSend, NetworkRun}
use Rattle.network_safety.specs.Gone.{IsFree, IsOf, SaysGone, IsGone, ClientsOfEndedKeysAreGone, IsOwnAction, NamesStayFree}
use Rattle.network_safety.proofs.Standing.{IsCore}
use Rattle.network_safety.proofs.Law.{nothing_stands, AllGo, all_go}

-- ---- one session of a name

apart_same : (xs : List Session) (a b : Session) → Apart xs → Has a xs → Has b xs → a.name ≡ b.name → a ≡ b
apart_same [] a b k i j e = absurd i
apart_same (x ∷ xs) a b k (inl p) (inl q) e = p ∙ sym q
apart_same (x ∷ xs) a b k (inl p) (inr j) e = absurd (k.0 b j (sym e ∙ ap (λ (y : Session). y.name) p))
apart_same (x ∷ xs) a b k (inr i) (inl q) e = absurd (k.0 a i (e ∙ ap (λ (y : Session). y.name) q))
apart_same (x ∷ xs) a b k (inr i) (inr j) e = apart_same xs a b k.1 i j e

not_empty : (xs : List Session) (y : Session) → Has y xs → is_empty xs ≡ false
not_empty [] y i = absurd i
not_empty (x ∷ xs) y i = ne_eqb (length (x ∷ xs)) 0 (λ is. omega (arith, is))

-- no session of the token is left where the first of it was taken out
none_left : (t : ClientToken) (xs : List Session) → Apart xs → ((y z : Session) → Has y xs → Has z xs → y.token.number ≡ z.token.number → y.name ≡ z.name) → (z : Session) → Has z (removed_at (place_where (is_session t) xs) xs) → is_session t z ≡ true → ⊥
none_left t [] k single z i e = i
none_left t (x ∷ xs) k single z i e = by (is_session t x) refl i (none_left t xs k.1 (λ a b p q. single a b (inr p) (inr q)) z)
  where
    head : is_session t x ≡ false → z ≡ x → ⊥
    head f q = let a : true ≡ false = sym e ∙ ap (is_session t) q ∙ f in cc

    at : (o : Option ℕ) → is_session t x ≡ false → (Has z (removed_at o xs) → is_session t z ≡ true → ⊥) → Has z (removed_at (option_map suc o) (x ∷ xs)) → ⊥
    at None f rest (inl q) = head f q
    at None f rest (inr j) = rest j e
    at (Some n) f rest (inl q) = head f q
    at (Some n) f rest (inr j) = rest j e

    by : (b : Bool) → is_session t x ≡ b → Has z (removed_at (if b then Some 0 else option_map suc (place_where (is_session t) xs)) (x ∷ xs)) → (Has z (removed_at (place_where (is_session t) xs) xs) → is_session t z ≡ true → ⊥) → ⊥
    by true f j rest =
        k.0 z j (single z x (inr j) (inl refl) (eqb-true z.token.number t.number e ∙ sym (eqb-true x.token.number t.number f)))
    by false f j rest = at (place_where (is_session t) xs) f rest j

-- ---- packets that are sent stay

module _ (root : Core) where
  abbrev Stay : Core → Type 0
  Stay s = (q : Packet) → Has q root.sends → Has q s.sends

  parts : KeepsParts Stay Any
  unfolding send_on put with_row recorded with_sessions
  parts =
      record {
        sends = λ s network to b spoken k q i. append_has_left q s.sends (packet_on s network to b ∷ []) (k q i);
        puts = λ s g e ok k. k;
        hears = λ s g before after e bs c i h k. k;
        casts = λ s p proto phase vote value message k. k;
        handed = λ s g before after e bs k. k;
      }

  stay_keeps : KeepsRules Stay Whatever
  unfolding with_row with_led keep_decision wait_join set_leader recorded with_sessions
  stay_keeps =
      record {
        keeps = record {
          row = λ s g f ok mild k. k;
          decides = λ s g q r y ok fair k. k;
          sends = parts.sends;
          notes = λ s n c v place t k. k;
          hands = on_hands Stay Any parts;
        };
        names = λ s ns k. k;
        reach = λ s x k. k;
        leads = λ s g n k. k;
        joins = λ s g q r a e k. k;
        tells = λ s q r y telling e k. k;
      }

  stay_ring : KeepsRing Stay
  unfolding send_on recorded
  stay_ring =
      record {
        rings = λ s rs k. k;
        sends = λ s network to x k q i. append_has_left q s.sends (packet_on s network to (body.Ring x) ∷ []) (k q i);
        records = λ s n network id ms b k. k;
      }

  stay_views : KeepsViews Stay
  unfolding recorded with_sessions dissolved
  stay_views =
      record {
        views = λ s v k. k;
        enters = λ s i k. on_enters Stay (λ t r a z. z) s i k;
        dissolves = λ s q x e k. k;
      }

-- what a call sends is sent by its step
call_stays : (f : Answering) (s : Core) (a : CallLine) (q : Packet) → Has q (take_call (at_work s) a).sends → Has q (stepped f s (Calls a)).sends
call_stays f s a =
    let root : Core = take_call (at_work s) a in
    on_stepped (Stay root) Whatever (stay_keeps root) (by_ring (Stay root) Whatever (stay_keeps root) (stay_ring root)) (stay_views root) f s (Calls a) (whatever (Calls a)) (λ q i. i)

-- ---- GONE for each of some providers

gone_later : (xs : List Provider) (s : Core) (q : Packet) → Has q s.sends → Has q (fold send_gone s xs).sends
unfolding send_gone send_if_known sent send_on
gone_later [] s q i = i
gone_later (x ∷ xs) s q i = gone_later xs (send_gone s x) q (by (leader_of s x.group))
  where
    by : (o : Option ℕ) → Has q (send_if_known s o (body.Gone s.views.view x.group x.provider)).sends
    by None = i
    by (Some n) = append_has_left q s.sends (packet_on s (network_to s n) n (body.Gone s.views.view x.group x.provider) ∷ []) i

-- it sends and does nothing else
same_leader : (s : Core) (x : Provider) (g : List ℕ) → (leader_of (send_gone s x) g ≡ leader_of s g) × ((send_gone s x).views ≡ s.views)
unfolding send_gone sent send_on send_if_known leader_of row_of leader_in
same_leader s x g = by (leader_of s x.group)
  where
    by : (o : Option ℕ) → (leader_of (send_if_known s o (body.Gone s.views.view x.group x.provider)) g ≡ leader_of s g) × ((send_if_known s o (body.Gone s.views.view x.group x.provider)).views ≡ s.views)
    by None = (refl, refl)
    by (Some n) = (refl, refl)

gone_among : (xs : List Provider) (s : Core) (x : Provider) (leader : ℕ) → Has x xs → leader_of s x.group ≡ Some leader → (q : Packet) × Has q (fold send_gone s xs).sends × SaysGone s x leader q
unfolding send_gone send_if_known sent send_on packet_on
gone_among [] s x leader i known = absurd i
gone_among (y ∷ ys) s x leader (inl e) known =
    (packet, gone_later ys (send_gone s y) packet here, record { receiver = refl; says = refl })
  where
    packet : Packet
    packet = packet_on s (network_to s leader) leader (body.Gone s.views.view x.group x.provider)

    first : Has packet (send_if_known s (Some leader) (body.Gone s.views.view x.group x.provider)).sends
    first = append_has_right packet s.sends (packet ∷ []) (inl refl)

    here : Has packet (send_gone s y).sends
    here = subst (λ (z : Provider). Has packet (send_gone s z).sends) e (subst (λ o. Has packet (send_if_known s o (body.Gone s.views.view x.group x.provider)).sends) (sym known) first)
gone_among (y ∷ ys) s x leader (inr i) known =
    let same = same_leader s y x.group in
    let k = gone_among ys (send_gone s y) x leader i (same.0 ∙ known) in
    (k.0, k.1, record { receiver = k.2.receiver; says = k.2.says ∙ ap (λ v. body.Gone v.view x.group x.provider) same.1 })

-- ---- a goodbye

module _ (of : ProviderId → Option (List ℕ)) (s : Core) (name : List ℕ) (owned : Owned of s.sessions) (apart : Apart s.sessions.sessions) where
  abbrev token : ClientToken
  token = client_token s.sessions name

  abbrev ending : List Provider
  ending = filter (is_client_of token) s.sessions.providers

  -- a client that is there may say goodbye
  none_refused : (y : Session) → Has y s.sessions.sessions → y.name ≡ name → client_fault s.sessions token ≡ None
  unfolding client_fault no_session_fault client_token
  none_refused y i e = by (find (is_named name) s.sessions.sessions) refl
    where
      is_it : is_named name y ≡ true
      is_it = subst (λ z. is_named z y ≡ true) e (text_self y.name)

      by : (o : Option Session) → find (is_named name) s.sessions.sessions ≡ o → or_fault (fault_if (is_empty s.sessions.sessions) fault.NoInit) (fault_if (not (list_any (is_session (token_in o)) s.sessions.sessions)) fault.BadClientToken) ≡ None
      by None q = absurd (find_none (is_named name) s.sessions.sessions y (ap (λ o. is_none o) q) i is_it)
      by (Some z) q =
          let known : list_any (is_session z.token) s.sessions.sessions ≡ true = has_any (is_session z.token) s.sessions.sessions z (find_has (is_named name) s.sessions.sessions z q).0 (eq-eqb z.token.number z.token.number refl) in
          ap (λ b. or_fault (fault_if b fault.NoInit) (fault_if (not (list_any (is_session z.token) s.sessions.sessions)) fault.BadClientToken)) (not_empty s.sessions.sessions y i) ∙ ap (λ b. fault_if (not b) fault.BadClientToken) known

  refused_none : {f : GsFault} → client_fault s.sessions token ≡ Some f → IsFree name s
  refused_none {f} q y i e = let z : None ≡ Some f = sym (none_refused y i e) ∙ q in cc

  pub goodbye_frees : IsFree name (take_call s (call.Goodbye name))
  unfolding take_call goodbye_taken end_session goodbye_said refuse_call recorded with_sessions
  goodbye_frees = by (client_fault s.sessions token) refl
    where
      by : (o : Option GsFault) → client_fault s.sessions token ≡ o → IsFree name (goodbye_said s name ending (unless_fault o (end_session s.sessions token)))
      by (Some f) q z i e = refused_none q z i e
      by None q z i e =
          let d : Core = record s { sessions = end_session s.sessions token } in
          let y = known_session s.sessions name owned.low q in
          let j : Has z (removed_at (place_where (is_session token) s.sessions.sessions) s.sessions.sessions) = subst (λ u. Has z u.sessions) (gone_sends d ending).sessions i in
          let same : z ≡ y.0 = apart_same s.sessions.sessions z y.0 apart (removed_was (is_session token) z s.sessions.sessions j) y.1 (e ∙ sym y.3) in
          none_left token s.sessions.sessions apart owned.single z j (ap (is_session token) same ∙ eq-eqb (y.0).token.number token.number y.2)

  -- the providers of the client are those of its token
  its_token : (x : Provider) → IsOf name s x → client_fault s.sessions token ≡ None → x.client.number ≡ token.number
  its_token x k q =
      let y = known_session s.sessions name owned.low q in
      let same : k.session ≡ y.0 = apart_same s.sessions.sessions k.session y.0 apart k.there y.1 (k.named ∙ sym y.3) in
      sym k.token ∙ ap (λ (z : Session). z.token.number) same ∙ y.2

  -- who has the name of one of them is one of them
  also_its : (x y : Provider) → Has x s.sessions.providers → Has y s.sessions.providers → y.provider ≡ x.provider → IsOf name s x → IsOf name s y
  also_its x y i j e k =
      let a = owned.owner x i in
      let b = owned.owner y j in
      record {
        session = b.0;
        there = b.1;
        token = b.2;
        named = some_is (sym b.3 ∙ ap of e ∙ a.3) ∙ owned.single a.0 k.session a.1 k.there (a.2 ∙ sym k.token) ∙ k.named;
      }

  pub goodbye_ends : (x z : Provider) → Has x s.sessions.providers → IsOf name s x → Has z (take_call s (call.Goodbye name)).sessions.providers → z.provider ≡ x.provider → ⊥
  unfolding take_call goodbye_taken end_session goodbye_said refuse_call recorded with_sessions
  goodbye_ends x z i k = by (client_fault s.sessions token) refl
    where
      by : (o : Option GsFault) → client_fault s.sessions token ≡ o → Has z (goodbye_said s name ending (unless_fault o (end_session s.sessions token))).sessions.providers → z.provider ≡ x.provider → ⊥
      by (Some f) q j e = refused_none q k.session k.there k.named
      by None q j e =
          let d : Core = record s { sessions = end_session s.sessions token } in
          let h = has_filter (λ (y : Provider). not (is_client_of token y)) z s.sessions.providers (subst (λ u. Has z u.providers) (gone_sends d ending).sessions j) in
          let own : is_client_of token z ≡ true = eq-eqb z.client.number token.number (its_token z (also_its x z i h.0 e k) q) in
          let no : false ≡ true = sym (ap (λ b. not b) own) ∙ h.1 in cc

  pub goodbye_tells : (x : Provider) (leader : ℕ) → Has x s.sessions.providers → IsOf name s x → frozen s ≡ false → leader_of s x.group ≡ Some leader → (q : Packet) × Has q (take_call s (call.Goodbye name)).sends × SaysGone s x leader q
  unfolding take_call goodbye_taken goodbye_said send_all_gone with_sessions leader_of leader_in row_of frozen
  goodbye_tells x leader i k thawed known = by (client_fault s.sessions token) refl
    where
      by : (o : Option GsFault) → client_fault s.sessions token ≡ o → (q : Packet) × Has q (goodbye_said s name ending (unless_fault o (end_session s.sessions token))).sends × SaysGone s x leader q
      by (Some f) q = absurd (refused_none q k.session k.there k.named)
      by None q =
          let d : Core = record s { sessions = end_session s.sessions token } in
          let own : is_client_of token x ≡ true = eq-eqb x.client.number token.number (its_token x k q) in
          let g = gone_among ending d x leader (filter_has (is_client_of token) x s.sessions.providers i own) known in
          (g.0, subst (λ b. Has g.0 (elim b as (λ _. Core) [ true ↦ d | false ↦ fold send_gone d ending ]).sends) (sym thawed) g.1, record { receiver = g.2.receiver; says = g.2.says })

-- ---- in a network

-- what is known of the sessions of a node that is up, in the scene of its world
kept_by : (c : Config) (w : World) (s : Scene) → Mirrors c w s → Recounted c s → (n : ℕ) (d : Daemon) → IsCore (Some d) (core_at w.nodes n) → (h : History) × Owned (λ p. client_of p h) d.core.sessions × Apart d.core.sessions.sessions
kept_by c w s m r n d here = let k = by (core_at w.nodes n) refl here in (s.before, k.0, k.1)
  where
    by : (o : Option Core) → core_at w.nodes n ≡ o → IsCore (Some d) o → Owned (λ p. client_of p s.before) d.core.sessions × Apart d.core.sessions.sessions
    by None up is = absurd is
    by (Some x) up is =
        let k : Kept s.before x = subst (KeptIf s.before) (m.cores n ∙ up) ((clean c s (recounted_ran c s r)).nodes n) in
        let same : x.sessions ≡ d.core.sessions = ap (λ (z : Core). z.sessions) is in
        (subst (Owned (λ p. client_of p s.before)) same k.owners, subst (λ u. Apart u.sessions) same k.apart)

kept_in : (c : Config) (acts : List Act) → NetworkRun IsSpelledSend c acts → (n : ℕ) (d : Daemon) → (net_after c acts).daemons n ≡ Some d → (h : History) × Owned (λ p. client_of p h) d.core.sessions × Apart d.core.sessions.sessions
unfolding net_after
kept_in c acts run n d at =
    let g : AllGo c no_net [] acts = all_go c run.mode acts no_net [] (empty_world c) (nothing_stands c run.mode) run.may in
    let x = every_run_is_reached c g.events g.stand.world.may in
    let here : IsCore (Some d) (core_at g.world.nodes n) = subst (λ o. IsCore o (core_at g.world.nodes n)) at (g.stand.world.nodes n) in
    kept_by c (answered_after c g.events) x.0 x.4 x.6 n d (subst (λ (w : World). IsCore (Some d) (core_at w.nodes n)) (sym g.stand.world.is) here)

-- a step leaves no session that its call does not leave, and no provider
free_behind : (name : List ℕ) (f : Answering) (s : Core) (e : NodeEvent) → IsFree name (root_of (at_work s) e) → IsFree name (stepped f s e)
free_behind name f s e k y i = k y (subst (Has y) (left_stepped f s e).slim.sessions.names i)

pub clients_of_ended_keys_are_gone : ClientsOfEndedKeysAreGone
unfolding key_over left_for frozen leader_of leader_in row_of
clients_of_ended_keys_are_gone c acts run n d at key f name owes =
    let k = kept_in c acts run n d at in
    let s : Core = at_work d.core in
    let t : Core = stepped f d.core (Calls (call.Goodbye name)) in
    let left : Left (root_of s (Calls (call.Goodbye name))) t = left_stepped f d.core (Calls (call.Goodbye name)) in
    let same : (key_over key f d).core.sessions ≡ t.sessions = ap (λ o. (without_key key (daemon.goodbye_said key o f d)).core.sessions) owes in
    record {
      free = λ y i. free_behind name f d.core (Calls (call.Goodbye name)) (goodbye_frees (λ p. client_of p k.0) s name k.1 k.2) y (subst (λ u. Has y u.sessions) same i);
      ended = λ x z i its j e.
          let o = left.slim.sessions.provs z (subst (λ u. Has z u.providers) same j) in
          goodbye_ends (λ p. client_of p k.0) s name k.1 k.2 x o.0 i (at_work_of x its) o.1 (o.2 ∙ e);
      told = λ x leader i its thawed known.
          let g = goodbye_tells (λ p. client_of p k.0) s name k.1 k.2 x leader i (at_work_of x its) thawed known in
          (g.0, call_stays f d.core (call.Goodbye name) g.0 g.1, record { receiver = g.2.receiver; says = g.2.says });
    }
  where
    at_work_of : (x : Provider) → IsOf name d.core x → IsOf name (at_work d.core) x
    at_work_of x k = record { session = k.session; there = k.there; token = k.token; named = k.named }

-- ---- what a daemon does of its own

-- a goodbye makes no session
fewer_sessions : (s : Core) (other : List ℕ) (y : Session) → Has y (take_call s (call.Goodbye other)).sessions.sessions → Has y s.sessions.sessions
unfolding take_call goodbye_taken end_session goodbye_said refuse_call recorded with_sessions
fewer_sessions s other y = by (client_fault s.sessions token)
  where
    token : ClientToken
    token = client_token s.sessions other

    ending : List Provider
    ending = filter (is_client_of token) s.sessions.providers

    by : (o : Option GsFault) → Has y (goodbye_said s other ending (unless_fault o (end_session s.sessions token))).sessions.sessions → Has y s.sessions.sessions
    by (Some f) i = i
    by None i =
        let d : Core = record s { sessions = end_session s.sessions token } in
        removed_was (is_session token) y s.sessions.sessions (subst (λ u. Has y u.sessions) (gone_sends d ending).sessions i)

-- a key owes a goodbye, or nothing
goodbye_free : (name : List ℕ) (f : Answering) (key : ℕ) (d : Daemon) (gone : List ℕ) (o : Option RemoteClient) → IsFree name d.core → IsFree name (without_key key (daemon.goodbye_said key (goodbye_if gone key o) f d)).core
unfolding left_for
goodbye_free name f key d gone None k = k
goodbye_free name f key d gone (Some client) k = by (is_gone gone key)
  where
    by : (b : Bool) → IsFree name (without_key key (daemon.goodbye_said key (if b then None else Some (call.Goodbye client.name)) f d)).core
    by true = k
    by false = free_behind name f d.core (Calls (call.Goodbye client.name)) (λ y i. k y (fewer_sessions (at_work d.core) client.name y i))

over_free : (name : List ℕ) (f : Answering) (key : ℕ) (d : Daemon) (o : Option Sessions) → IsFree name d.core → IsFree name (without_key key (daemon.goodbye_said key (goodbye_in o key) f d)).core
unfolding goodbye_owed
over_free name f key d None k = k
over_free name f key d (Some s) k = goodbye_free name f key d s.clients.gone (find (is_of_key key) s.clients.made) k

pub names_stay_free : NamesStayFree
unfolding did key_over mended stepped_for left_for
names_stay_free name d (action.Ticks moment answers) own k = by (is_due d.last moment)
  where
    by : (b : Bool) → IsFree name (ticked_if b moment answers d).core
    by true = free_behind name answers d.core Ticks k
    by false = k
names_stay_free name d (EndsKey key answers) own k = over_free name answers key d d.sessions k
names_stay_free name d (Mends answers) own k = free_behind name answers d.core (Asks _) k
names_stay_free name d _ own k = absurd own
