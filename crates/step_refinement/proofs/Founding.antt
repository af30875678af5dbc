-- A coordinator founds the view that it gathered for: the last answer makes the install, which is sent, and applied where
-- the own lists go on to it.
use Rattle.std.proofs.Common.{◌≡◌, ◌⊎◌, ℕ, List, [], ◌∷◌, ◌++◌, length, drop, Option, Some, None, Bool, true, false, cond, refl, sym, ap, ◌∙◌, subst, inl, inr, ⊎_elim}
use Rattle.std.specs.Prelude.{map, find, fold, if◌then◌else◌}
use Rattle.std.specs.Option.{option_map}
use Rattle.std.specs.Str.{bytes_eq}
use Rattle.rsct_packet.specs.declared.ids.ViewId.{ViewId}
use Rattle.rsct_packet.specs.declared.ids.Member.{Member}
use Rattle.rsct_packet.specs.declared.ids.ProviderId.{ProviderId}
use Rattle.rsct_packet.specs.Search.{Has}
use Rattle.rsct_packet.proofs.HasLaws.{has_append, append_has_left, append_has_right}
use Rattle.proposal_core.specs.declared.entry.Entry.{Entry}
use Rattle.proposal_core.specs.declared.proposal.Proposal.{Proposal}
use Rattle.name_server.specs.Names.{node_of}
use Rattle.view_state.specs.declared.exchange.Exchange.{Exchange}
use Rattle.view_state.specs.declared.install.Part.{Part}
use Rattle.view_state.specs.declared.install.Source.{Source}
use Rattle.view_state.specs.declared.install.Install.{Install}
use Rattle.view_state.specs.declared.install.Base.{Base}
use Rattle.view_state.specs.Answers.{install_of}
use Rattle.view_state.specs.Bases.{source_at, parts_from, base_of, bases_of, base_named}
use Rattle.view_state.specs.declared.packet.ViewPacket.TheVariants as view
use Rattle.view_state.specs.declared.packet.ViewSend.{ViewSend}
use Rattle.view_state.specs.Views.{others_of}
use Rattle.node_state.specs.declared.packet.Body.TheVariants as body
use Rattle.node_state.specs.declared.packet.Packet.{Packet}
use Rattle.node_state.specs.declared.state.Core.{Core}
use Rattle.node_state.specs.Settings.{is_fixed}
use Rattle.node_state.specs.State.{row_found, row_of, list_of, held_rows}
use Rattle.proposal_core.specs.Lists.{list_or_new}
use Rattle.node_state.specs.Sending.{joins_nodes, ring_network, network_to, level_for, domain_at, packet_on, send_on, sent}
use Rattle.node_state.specs.HandOn.{Answering}
use Rattle.node_state.specs.Applying.{Lacking, lacking_in, lacking, fill_lists, base_leader, view_entered, sides_dissolved, entering_noted, taken_sent, owed_sent, entered, entered_if, apply_install}
use Rattle.view_state.specs.Cut.{lacking_of}
use Rattle.run_safety.specs.ViewOrder.{Lt}
use Rattle.run_safety.specs.Group.{member, members_of, Standing, Reply, Origin, In, Kept, kept, lines_from}
use Rattle.run_safety.specs.Group as group
use Rattle.run_safety.specs.Bases.{Bases, leader_of}
use Rattle.run_safety.specs.Moves.{Leads, Opening, Life, Quiet, Collected, based, Founds}
use Rattle.run_safety.proofs.Order.{cases_view}
use Rattle.run_safety.proofs.Past.{reply_member}
use Rattle.run_safety.proofs.Founds.{found_new, found_unled}
use Rattle.run_safety.proofs.Whole.{Whole}
use Rattle.run_safety.proofs.Lives.{whole}
use Rattle.step_refinement.specs.Ghost.{Ghost, Seen, CarriesIf, Gathers, BaseIsOf, Installs, origin_of, part_of}
use Rattle.step_refinement.specs.Tied.{ShowsBody, Shows, Names, NodeOf, NodeIsIf, Scene, opening_of, Tied}
use Rattle.step_refinement.specs.Rules.{at_node}
use Rattle.step_refinement.proofs.Goes.{Settled, spares_same, seen_on, carries_on, shows_on, rest_on}
use Rattle.step_refinement.proofs.Changed.{changes, set_view, view_here, view_there}
use Rattle.node_state.proofs.NameOrder.{text_same, text_self}
use Rattle.step_refinement.proofs.Works.{tied_views, asked_free}
use Rattle.step_refinement.proofs.Sides.{SourcesAre}
use Rattle.step_refinement.proofs.Replies as replies
use Rattle.step_refinement.proofs.Arrived.{arrived_tied}
use Rattle.step_refinement.proofs.Entering.{Leaving, Move, After, enters_arrived}
use Rattle.step_refinement.proofs.LedGroups.{groups_led_tied}

-- ---- the table of a coordinator is that of the bases

table_is : (g : List ℕ) (bs : List Base) → node_of g (map base_leader bs) ≡ option_map (λ (b : Base). b.leader) (base_named bs g)
unfolding base_leader base_named
table_is g [] = refl
table_is g (b ∷ bs) =
    ap (λ t. if t then Some b.leader else node_of g (map base_leader bs)) (both g b.name) ∙ by (bytes_eq b.name g) (table_is g bs)
  where
    both : (a c : List ℕ) → bytes_eq a c ≡ bytes_eq c a
    both a c = at (bytes_eq a c) (bytes_eq c a) refl refl
      where
        at : (p q : Bool) → bytes_eq a c ≡ p → bytes_eq c a ≡ q → p ≡ q
        at true true e f = refl
        at false false e f = refl
        at true false e f = absurd (let z = text_same a c e in let y : bytes_eq c a ≡ true = subst (λ k. bytes_eq k a ≡ true) z (text_self a) in cc)
        at false true e f = absurd (let z = text_same c a f in let y : bytes_eq a c ≡ true = subst (λ k. bytes_eq k c ≡ true) z (text_self c) in cc)

    by : (t : Bool) → node_of g (map base_leader bs) ≡ option_map (λ (b : Base). b.leader) (find (λ (b : Base). bytes_eq b.name g) bs) → (if t then Some b.leader else node_of g (map base_leader bs)) ≡ option_map (λ (b : Base). b.leader) (cond t (Some b) (find (λ (b : Base). bytes_eq b.name g) bs))
    by true k = refl
    by false k = k

-- ---- what is sent

abbrev pub sends_out : Core → List ViewSend → Core
sends_out s xs = fold (λ c (x : ViewSend). sent c x.to (body.View x.packet)) s xs

-- it changes nothing but what is sent, and what is sent is one of these
pub record Sent (s : Core) (xs : List ViewSend) (c : Core) : Type 0 where
  pub ps : List Packet
  pub is : c ≡ record s { sends = ps }
  pub new : (p : Packet) → Has p ps → Has p s.sends ⊎ ((x : ViewSend) × Has x xs × (p.body ≡ body.View x.packet))

pub sends_are : (xs : List ViewSend) (s : Core) → Sent s xs (sends_out s xs)
unfolding sent send_on packet_on
sends_are [] s = record { ps = s.sends; is = refl; new = λ p h. inl h }
sends_are (x ∷ xs) s =
    let k = sends_are xs (sent s x.to (body.View x.packet)) in
    record {
      ps = k.ps;
      is = k.is;
      new = λ p h. ⊎_elim (λ (a : Has p (s.sends ++ packet_on s (network_to s x.to) x.to (body.View x.packet) ∷ [])). older p (has_append p s.sends (packet_on s (network_to s x.to) x.to (body.View x.packet) ∷ []) a)) (λ (b : (y : ViewSend) × Has y xs × (p.body ≡ body.View y.packet)). inr (b.0, inr b.1, b.2)) (k.new p h);
    }
  where
    older : (p : Packet) → Has p s.sends ⊎ Has p (packet_on s (network_to s x.to) x.to (body.View x.packet) ∷ []) → Has p s.sends ⊎ ((y : ViewSend) × Has y (x ∷ xs) × (p.body ≡ body.View y.packet))
    older p (inl h) = inl h
    older p (inr (inl e)) = inr (x, inl refl, ap (λ (z : Packet). z.body) e)
    older p (inr (inr z)) = absurd z

pub sends_more : (xs ys : List ViewSend) (s : Core) → sends_out s (xs ++ ys) ≡ sends_out (sends_out s xs) ys
sends_more [] ys s = refl
sends_more (x ∷ xs) ys s = sends_more xs ys (sent s x.to (body.View x.packet))

-- nothing is gathered
abbrev pub ungathered : Core → Core
ungathered s = record s { views = record (s.views) { gathering = None } }

pub ungathered_sends : (xs : List ViewSend) (s : Core) → sends_out (ungathered s) xs ≡ ungathered (sends_out s xs)
unfolding sent send_on packet_on network_to ring_network joins_nodes level_for domain_at
ungathered_sends [] s = refl
ungathered_sends (x ∷ xs) s = ungathered_sends xs (sent s x.to (body.View x.packet))

abbrev pub installs_to : Install → List ℕ → List ViewSend
installs_to i ns = map (λ m. record { to = m; packet = view.Install i }) ns

-- all of them are installs
installs_all : (i : Install) (ns : List ℕ) (x : ViewSend) → Has x (installs_to i ns) → x.packet ≡ view.Install i
installs_all i [] x h = absurd h
installs_all i (m ∷ ns) x (inl e) = ap (λ (z : ViewSend). z.packet) e
installs_all i (m ∷ ns) x (inr h) = installs_all i ns x h

-- what the lists lack is that of the groups and the view
pub lacking_same : (s c : Core) (i : Install) → s.views.view ≡ c.views.view → s.groups ≡ c.groups → lacking s i ≡ lacking c i
unfolding lacking lacking_in list_of row_of
lacking_same s c i v gs = parts (parts_from i s.views.view) ∙ ap (λ u. lacking_in c (parts_from i u)) v
  where
    list : (h : List ℕ) → list_of s h ≡ list_of c h
    list h = λ j. list_or_new (row_found h (find (λ row. bytes_eq row.name h) (gs j))).list

    parts : (ps : List Part) → lacking_in s ps ≡ lacking_in c ps
    parts [] = refl
    parts (p ∷ ps) =
        λ j. elim (lacking_of (v j) (list p.name j) p) as (λ _. Option (List Lacking)) [
          | None ↦ None
          | Some es ↦ elim (parts ps j) as (λ _. Option (List Lacking)) [ None ↦ None | Some xs ↦ Some (record { name = p.name; entries = es } ∷ xs) ]
        ]

-- ---- the move

module _ (g : List ℕ) (w : Scene) (n : ℕ) (s : Core) (t : Tied g w n s) (e : Exchange) (h : Gathers t.ghost g n s.views.inc s.views.view s.views.promise e) (quiet : Quiet (kept t.ghost.all)) where
  abbrev x : Ghost
  x = t.ghost

  abbrev o : Opening
  o = opening_of w.config

  abbrev i : Install
  i = install_of e

  abbrev P : ViewId
  P = s.views.promise

  abbrev rs : List Reply
  rs = h.replies

  ss : ViewId → List Entry
  ss = replies.ss x g n s.views.inc s.views.view P e h

  view_is : i.view ≡ P
  view_is = replies.view_is x g n s.views.inc s.views.view P e h

  members_are : i.members ≡ members_of rs
  members_are = replies.members_are x g n s.views.inc s.views.view P e h

  abbrev was : Standing
  was = record { inc = s.views.inc; view = s.views.view; promise = P; list = (x.nodes n).list }

  was_is : x.nodes n ≡ was
  was_is = λ j. record { inc = t.own.0.stands.inc j; view = t.own.0.stands.view j; promise = t.own.0.stands.promise j; list = (x.nodes n).list }

  collected : Collected x.ps n was rs ss
  unfolding ss
  collected = replies.collected x g n s.views.inc s.views.view P e h was refl refl refl t.own.0.stands.up

  k : Whole o x.nodes x.ps x.all x.leads x.bases
  k = whole t.life

  unseen : Seen x P → ⊥
  unseen a =
      found_new o x.nodes x.ps (kept x.all) k.log x.leads n was rs ss was_is k.good collected a.0 a.1 a.2 a.3

  unled : x.leads P ≡ None
  unled = found_unled o x.nodes x.ps (kept x.all) k.log x.leads n was rs ss was_is k.good collected

  unsettled : (v : ViewId) → Settled x v → v ≡ P → ⊥
  unsettled v (inl a) q = unseen (subst (Seen x) q a)
  unsettled v (inr a) q = unseen (subst (Seen x) q (t.sound.refused v a.0 a.1 a.2))

  -- the base, and who leads
  base : Option Origin
  base = option_map origin_of (base_of i g)

  leads : Leads
  leads = set_view x.leads P (leader_of P base)

  bases : Bases
  bases = set_view x.bases P base

  leads_there : (v : ViewId) → (v ≡ P → ⊥) → leads v ≡ x.leads v
  unfolding leads
  leads_there v ne = view_there x.leads P (leader_of P base) v ne

  bases_there : (v : ViewId) → (v ≡ P → ⊥) → bases v ≡ x.bases v
  unfolding bases
  bases_there v ne = view_there x.bases P base v ne

  leads_here : leads P ≡ leader_of P base
  unfolding leads
  leads_here = view_here x.leads P (leader_of P base)

  bases_here : bases P ≡ base
  unfolding bases
  bases_here = view_here x.bases P base

  bases_at : bases i.view ≡ base
  bases_at = ap bases view_is ∙ bases_here

  leads_at : leads i.view ≡ leader_of P base
  leads_at = ap leads view_is ∙ leads_here

  abbrev Founded : ViewId → List Member → Option Origin → Type 0
  Founded v ms b =
      Life o (at_node x.nodes n (record { inc = s.views.inc; view = v; promise = v; list = [] })) (group.Install v ms ss ∷ x.ps) (based n v b (Kept (In n s.views.inc v ms) ∷ lines_from n s.views.view (length (x.nodes n).list) (drop (length (x.nodes n).list) (ss s.views.view)) x.all)) leads bases

  founded : Founded P (members_of rs) base
  unfolding ss base
  founded =
      Founds x.nodes (at_node x.nodes n (record { inc = s.views.inc; view = P; promise = P; list = [] })) x.ps x.all x.leads leads x.bases bases n was rs ss base t.life was_is quiet collected (replies.base_there x g n s.views.inc s.views.view P e h) (record { here = bases_here; there = bases_there }) (record { here = leads_here; there = leads_there }) (changes x.nodes n (record { inc = s.views.inc; view = P; promise = P; list = [] }))

  life : Founded i.view i.members (bases i.view)
  life =
      subst (λ (z : ViewId × List Member × Option Origin). Founded z.0 z.1 z.2) (λ j. (sym view_is j, sym members_are j, sym bases_at j)) founded

  abbrev z : Ghost
  z = record x { leads = leads; bases = bases }

  base_named_is : base_named (bases_of i) g ≡ base_of i g
  base_named_is = replies.named_base x g n s.views.inc s.views.view P e h

  based_as : (b : Option Base) → base_of i g ≡ b → BaseIsOf z i.view i.members b
  unfolding base
  based_as None q = bases_at ∙ ap (option_map origin_of) q
  based_as (Some b) q =
      let l = replies.base_leads x g n s.views.inc s.views.view P e h b q in
      (bases_at ∙ ap (option_map origin_of) q, (l.0, l.1, leads_at ∙ ap (λ a. leader_of P (option_map origin_of a)) q ∙ l.2))

  base_is : BaseIsOf z i.view i.members (base_named (bases_of i) g)
  base_is = subst (BaseIsOf z i.view i.members) (sym base_named_is) (based_as (base_of i g) refl)

  table : node_of g (map base_leader (bases_of i)) ≡ option_map (λ (b : Base). b.leader) (base_of i g)
  table = table_is g (bases_of i) ∙ ap (option_map (λ (b : Base). b.leader)) base_named_is

  names : (fixed : Bool) → Names z g fixed n s.views.inc i.view i.members (map base_leader (bases_of i))
  unfolding base
  names fixed =
      record {
        named = λ m a b d q. named m (base_of i g) refl (sym table ∙ q);
        unnamed = λ a b d q. unnamed (base_of i g) refl (sym table ∙ q);
        full = λ a b d q. absurd (unseen (subst (Seen x) view_is (t.sound.shut i.view q).0));
      }
    where
      named : (m : ℕ) (b : Option Base) → base_of i g ≡ b → option_map (λ (b : Base). b.leader) b ≡ Some m → (j : ℕ) × Has (member m j) i.members × (leads i.view ≡ Some (member m j))
      named m None q r = absurd (cc)
      named m (Some b) q r =
          let same : b.leader ≡ m = cc in
          let l = (based_as (Some b) q).1 in
          (l.0, subst (λ y. Has (member y l.0) i.members) same l.1, l.2 ∙ ap (λ y. Some (member y l.0)) same)

      unnamed : (b : Option Base) → base_of i g ≡ b → option_map (λ (b : Base). b.leader) b ≡ None → leads i.view ≡ None
      unnamed None q r = leads_at ∙ ap (λ a. leader_of P (option_map origin_of a)) q
      unnamed (Some b) q r = absurd (cc)

  refusal_old : (v : ViewId) (p : ProviderId) (r : ℕ) → Has (group.Refusal v p r) (group.Install i.view i.members ss ∷ x.ps) → Has (group.Refusal v p r) x.ps
  refusal_old v p r (inl q) = absurd (cc)
  refusal_old v p r (inr j) = j

  stable_old : (v : ViewId) (k : ℕ) → Has (group.Stable v k) (group.Install i.view i.members ss ∷ x.ps) → Has (group.Stable v k) x.ps
  stable_old v k (inl q) = absurd (cc)
  stable_old v k (inr j) = j

  request_old : (v : ViewId) (p : ProviderId) (r : ℕ) (a : Proposal) → Has (group.Request v p r a) (group.Install i.view i.members ss ∷ x.ps) → Has (group.Request v p r a) x.ps
  request_old v p r a (inl q) = absurd (cc)
  request_old v p r a (inr j) = j

  leads_on : (v : ViewId) (l : Member) → x.leads v ≡ Some l → leads v ≡ Some l
  leads_on v l q =
      ⊎_elim (λ (a : v ≡ P). absurd (let y : x.leads v ≡ None = ap x.leads a ∙ unled in none_some (sym y ∙ q))) (λ (a : v ≡ P → ⊥). leads_there v a ∙ q) (cases_view v P)
    where
      none_some : None ≡ Some l → ⊥
      none_some q = cc

  sources : SourcesAre h.answers i.sources
  sources = replies.sources x g n s.views.inc s.views.view P e h

  rest : (v : ViewId) → source_at i.sources v ≡ None → ss v ≡ []
  unfolding ss
  rest v q = replies.whole_none x g n s.views.inc s.views.view P e h v q

  parts : (c : Source) → Has c i.sources → CarriesIf x c.view (ss c.view) (part_of g c.parts)
  unfolding ss
  parts c j = replies.whole_carries x g n s.views.inc s.views.view P e h c j

  abbrev founder_moves : Move x o g n s.views.inc s.views.view i
  founder_moves =
      record {
        whole = ss;
        ps = group.Install i.view i.members ss ∷ x.ps;
        leads = leads;
        bases = bases;
        life = life;
        sent = inl refl;
        more = λ p j. inr j;
        refusals = refusal_old;
        stables = stable_old;
        requests = request_old;
        leads_on = leads_on;
        leads_same = λ v a. leads_there v (unsettled v a);
        bases_same = λ v a. bases_there v (λ q. unseen (subst (Seen x) q a));
        rest = rest;
        parts = parts;
        differ = sources.differ;
        base = base_is;
        names = names;
        unrefused = λ q p r j. unseen (subst (Seen x) view_is (t.sound.refused i.view p r j));
      }

  -- the install shows the one that was made
  moved : (y : Ghost) → y.leads ≡ leads → y.bases ≡ bases → (b : Option Base) → BaseIsOf z i.view i.members b → BaseIsOf y i.view i.members b
  moved y a c None q = ap (λ f. f i.view) c ∙ q
  moved y a c (Some b) q = (ap (λ f. f i.view) c ∙ q.0, (q.1.0, q.1.1, ap (λ f. f i.view) a ∙ q.1.2))

  install_shown : (y : Ghost) → After x y i.view (group.Install i.view i.members ss ∷ x.ps) leads bases → Installs y g i
  install_shown y a =
      record {
        whole = ss;
        sent = subst (Has (group.Install i.view i.members ss)) (sym a.packets) (inl refl);
        entered = a.entered;
        seen = λ c j. seen_on x y a.goes c.view (old_seen c j);
        parts = λ c j. carries_on x y a.goes c.view (ss c.view) (part_of g c.parts) (old_seen c j) (parts c j);
        names = sources.differ;
        rest = rest;
        base = moved y a.leaders a.origins (base_named (bases_of i) g) base_is;
        asks = a.goes.asks ∙ h.asks;
      }
    where
      old_seen : (c : Source) → Has c i.sources → Seen x c.view
      old_seen c j = replies.source_seen x g n s.views.inc s.views.view P e h c j

-- ---- the view is founded

module _ (g : List ℕ) (w : Scene) (n : ℕ) (f : Answering) (s : Core) (t : Tied g w n s) (e : Exchange) (h : Gathers t.ghost g n s.views.inc s.views.view s.views.promise e) (quiet : Quiet (kept t.ghost.all)) where
  abbrev made : Install
  made = install_of e

  abbrev s0 : Core
  s0 = ungathered s

  abbrev out : List ViewSend
  out = installs_to made (others_of s.views.me made.members)

  sends : Sent s0 out (sends_out s0 out)
  sends = sends_are out s0

  abbrev s1 : Core
  s1 = record s0 { sends = sends.ps }

  own_views : NodeOf t.ghost g n (is_fixed s.config.mode) s0.views (row_of s g) s.groups s.sessions s.names
  own_views =
      let k = t.own.0 in
      rest_on t.ghost t.ghost n (spares_same t.ghost n) g (is_fixed s.config.mode) s.views s0.views (row_of s g) s.groups s.sessions s.names (record { me = k.stands.me; up = k.stands.up; inc = k.stands.inc; view = k.stands.view; promise = k.stands.promise; seated = k.stands.seated }) refl refl refl refl (λ a. absurd (let z : true ≡ false = sym h.asks ∙ a in cc)) k

  -- it is no longer gathered
  pub dropped : Tied g w n s0
  dropped = tied_views g w n s t s0.views own_views refl

  own1 : NodeIsIf w.config t.ghost g n (w.incs n) (Some s1)
  unfolding row_of
  own1 = (own_views, t.own.1, t.own.2)

  abbrev leaves : Leaving g w n s1
  leaves =
      record { ghost = t.ghost; life = t.life; lines = t.lines; own = own1; others = t.others; sound = t.sound; placed = t.placed; nobody = t.nobody; turns = t.turns }

  later : Lt s.views.view made.view
  later = subst (Lt s.views.view) (sym (view_is g w n s t e h quiet)) h.lt

  among : Has (member n s.views.inc) made.members
  among =
      let k = collected g w n s t e h quiet in
      let r = k.own in
      let q : Has (member r.0.node r.0.inc) (members_of h.replies) = reply_member r.0 h.replies r.1 in
      subst (Has (member n s.views.inc)) (sym (members_are g w n s t e h quiet)) (subst (λ m. Has m (members_of h.replies)) (λ j. member (r.2 j) (k.only r.0 r.1 r.2 j)) q)

  -- the install is sent, and applied
  module _ (xs : List Lacking) (lacks : lacking s made ≡ Some xs) where
    lacks1 : lacking s1 made ≡ Some xs
    lacks1 = lacking_same s1 s made refl refl ∙ lacks

    abbrev move : Move t.ghost (opening_of w.config) g n s.views.inc s.views.view made
    move = founder_moves g w n s t e h quiet

    shown : (y : Ghost) → After t.ghost y made.view move.ps move.leads move.bases → (p : Packet) → Has p (sends.ps ++ w.sent) → Shows y g p
    shown y a p j = at (has_append p sends.ps w.sent j)
      where
        new : Has p s.sends ⊎ ((q : ViewSend) × Has q out × (p.body ≡ body.View q.packet)) → Shows y g p
        new (inl i) = shows_on t.ghost y a.goes g p (t.packets p (append_has_left p s.sends w.sent i))
        new (inr i) =
            let q : p.body ≡ body.View (view.Install made) = i.2 ∙ ap (λ z. body.View z) (installs_all made (others_of s.views.me made.members) i.0 i.1) in
            subst (ShowsBody y g p.from p.inc p.to) (sym q) (install_shown g w n s t e h quiet y a)

        at : Has p sends.ps ⊎ Has p w.sent → Shows y g p
        at (inl i) = new (sends.new p i)
        at (inr i) = shows_on t.ghost y a.goes g p (t.packets p (append_has_right p s.sends w.sent i))

    applied : Tied g w n (entered f s1 made xs)
    unfolding entered
    applied =
        let k = arrived_tied g w n (view_entered (fill_lists f s1 xs) made (bases_of made)) (held_rows (fill_lists f s1 xs)) (fill_lists f s1 xs).views.view (bases_of made) (enters_arrived g w n f s1 leaves (asked_free g w n s t h.asks) made xs move (install_shown g w n s t e h quiet) shown later among lacks1) in
        groups_led_tied g w n (owed_sent (taken_sent (entering_noted (sides_dissolved (view_entered (fill_lists f s1 xs) made (bases_of made)) (held_rows (fill_lists f s1 xs)) (fill_lists f s1 xs).views.view (bases_of made)) (bases_of made)))) f k.1 k.0

    pub founds_tied : Tied g w n (apply_install f (sends_out s0 out) (Some made))
    unfolding apply_install entered_if
    founds_tied =
        subst (λ c. Tied g w n (entered_if f c made (lacking c made))) (sym sends.is) (subst (λ l. Tied g w n (entered_if f s1 made l)) (sym lacks1) applied)
