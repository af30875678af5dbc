-- Each request and each ballot of a run is that of its call, or of a client that was handed a notice.
use Rattle.std.proofs.Common.{◌≡◌, ◌⊎◌, ◌≤◌, ℕ, ◌+◌, List, [], ◌∷◌, Option, Some, None, true, refl, sym, ap, ◌∙◌, subst, inl, inr, arith}
use Rattle.std.specs.Prelude.{◌==◌, find, reverse}
use Rattle.std.specs.Str.{bytes_eq}
use Rattle.std.proofs.lemmas.Bool.{eqb-true, and_parts}
use Rattle.rsct_packet.specs.declared.ids.ProviderId.{ProviderId}
use Rattle.rsct_packet.specs.declared.ids.ProtoId.{ProtoId}
use Rattle.rsct_packet.specs.Search.{Has}
use Rattle.rsct_packet.proofs.HasLaws.{append_has_left, append_has_right, has_reverse, reverse_has, find_has}
use Rattle.proposal_core.specs.declared.entry.Vote.{Vote}
use Rattle.proposal_core.specs.declared.proposal.Proposal.{Proposal}
use Rattle.proposal_core.specs.declared.proposal.Proposal.TheVariants as proposal
use Rattle.subscribe_core.specs.declared.subs.ClientToken.{ClientToken}
use Rattle.session_state.specs.declared.state.MemberToken.{MemberToken}
use Rattle.session_state.specs.declared.state.Provider.{Provider}
use Rattle.session_state.specs.declared.state.SessionState.{SessionState}
use Rattle.session_state.specs.State.{is_member_of, is_client_of, is_in_group, member_in, client_token, member_token}
use Rattle.session_state.specs.Calls.{new_provider}
use Rattle.view_state.specs.Views.{views_new}
use Rattle.node_state.specs.declared.call.CallLine.{CallLine}
use Rattle.node_state.specs.declared.call.CallLine.TheVariants as call
use Rattle.node_state.specs.declared.config.Config.{Config}
use Rattle.node_state.specs.declared.happened.Happened.{Happened}
use Rattle.node_state.specs.declared.happened.Happened.TheVariants as happened
use Rattle.node_state.specs.declared.state.Core.{Core}
use Rattle.node_state.specs.State.{with_sessions}
use Rattle.node_state.specs.HandOn.{Answering}
use Rattle.node_state.specs.Applying.{level_set}
use Rattle.node_state.specs.Calls.{caller, take_call}
use Rattle.node_state.specs.Step.{NodeEvent, Ticks, Asks, Given, Calls, Garbage, at_work, stepped, started}
use Rattle.node_state.proofs.NameOrder.{text_same}
use Rattle.world_model.specs.Run.{Happening}
use Rattle.world_model.specs.declared.event.Event.{Event}
use Rattle.world_model.specs.declared.event.Event.TheVariants.{Call}
use Rattle.run_safety.specs.Past.{History, records_of}
use Rattle.run_safety.specs.Stays.{client_of}
use Rattle.step_refinement.specs.Tied.{Scene, NodeIs, NodeIsIf, Rests}
use Rattle.step_refinement.specs.Rules.{over}
use Rattle.run_induction.proofs.Idle.{Idle}
use Rattle.run_induction.proofs.Ran.{Ran}
use Rattle.run_induction.proofs.Laws.{IfUp, UpClaim, UpLaw, ups_hold}
use Rattle.row_laws.specs.failed_rows.Scenes.{Names}
use Rattle.row_laws.proofs.failed_rows.Between.{CoreFails}
use Rattle.row_laws.proofs.failed_rows.Origin.{root_of}
use Rattle.row_laws.proofs.failed_rows.Owners.{goodbye_named}
use Rattle.row_laws.proofs.failed_rows.Law.{playing, played_ran, rests_in, fails_hold}
use Rattle.call_laws.specs.Calls.{IsClients, AsksFor, AskedByCall, CastByCall, HeardAmong, CallsAreSaid, EachCallIsSaid, CallsOfScenesAreSaid}
use Rattle.call_laws.proofs.Kin.{Alike, alike_then, alike_back}
use Rattle.call_laws.proofs.Walked.{Answers, heard_more, Walked, walked_stepped}
use Rattle.call_laws.proofs.Outcomes.{next_of, Proposes, Gives, Leaves, Refuses, From, from_same, comer, call_comes}

-- the provider asked for its join in this group
abbrev Asked : List Happened → ProviderId → List ℕ → Type 0
Asked rs p g = (x : Proposal) × Has (happened.Asked p p.join g x) rs

asked_alike : (rs : List Happened) (y z : Provider) → Alike y z → Asked rs z.provider z.group → Asked rs y.provider y.group
asked_alike rs y z a k = subst (λ (q : ProviderId × List ℕ). Asked rs q.0 q.1) (λ i. (sym a.provider i, sym a.group i)) k

-- the join numbers of a node's providers were given once, and each asked for its join in its group
pub record Tokens (h : History) (t : SessionState) : Type 0 where
  pub low : (y : Provider) → Has y t.providers → 1 ≤ y.provider.join
  pub single : (a b : Provider) → Has a t.providers → Has b t.providers → a.provider.join ≡ b.provider.join → Alike a b
  pub asked : (y : Provider) → Has y t.providers → Asked (records_of h) y.provider y.group

tokens_on : (e : Happening) (h : History) (t : SessionState) → Tokens h t → Tokens (e ∷ h) t
tokens_on e h t k =
    record { low = k.low; single = k.single; asked = λ y i. let a = k.asked y i in (a.0, append_has_right (happened.Asked y.provider y.provider.join y.group a.0) e.records (records_of h) a.1) }

started_tokens : (c : Config) (n j : ℕ) (h : History) → Tokens h (started c n j).sessions
unfolding started with_sessions level_set views_new
started_tokens c n j h = record { low = λ y i. absurd i; single = λ a b i k e. absurd i; asked = λ y i. absurd i }

-- a provider of the node is the client's, in this group
record Mine (h : History) (n : ℕ) (client g : List ℕ) (y : Provider) : Type 0 where
  clients : IsClients client g y.provider h
  group : y.group ≡ g
  node : y.provider.node ≡ n

single_has : {A : Type 0} (x y : A) → Has x (y ∷ []) → x ≡ y
single_has x y (inl e) = e
single_has x y (inr z) = absurd z

-- ---- a step

module _ (c : Config) (w : Scene) (n : ℕ) (f : Answering) (s : Core) (e : NodeEvent) (v : Event) (k : Ran playing c w) (up : w.cores n ≡ Some s) (own : Tokens w.before s.sessions) where
  abbrev t : Core
  t = stepped f s e

  abbrev root : Core
  root = root_of (at_work s) e

  rests : (g : List ℕ) → Rests g w
  rests g = rests_in c w k g

  here : NodeIs (rests []).ghost [] n s
  here = (subst (NodeIsIf w.config (rests []).ghost [] n (w.incs n)) up ((rests []).nodes n)).0

  were : CoreFails w.before s
  were = subst (IfUp (CoreFails w.before)) up ((fails_hold c w k).nodes n)

  numbered : (y : Provider) → Has y s.sessions.providers → y.provider.join ≤ s.sessions.last_request
  numbered = ((rests []).turns n s up).numbered

  walked : Walked root t
  walked = walked_stepped f s e

  rooted : (d : NodeEvent) → (new : Provider) × From s.sessions new (root_of (at_work s) d)
  rooted Ticks = let new = next_of s.sessions (record { number = 0 }) [] 0 in (new, from_same s.sessions new (at_work s) refl)
  rooted (Asks mask) = let new = next_of s.sessions (record { number = 0 }) [] 0 in (new, from_same s.sessions new (at_work s) refl)
  rooted (Given q) = let new = next_of s.sessions (record { number = 0 }) [] 0 in (new, from_same s.sessions new (at_work s) refl)
  rooted Garbage = let new = next_of s.sessions (record { number = 0 }) [] 0 in (new, from_same s.sessions new (at_work s) refl)
  rooted (Calls d) = (comer s.sessions d, (call_comes d (at_work s) refl).from)

  abbrev new : Provider
  new = (rooted e).0

  -- it was there before, or is new
  abbrev Comes : Provider → Type 0
  Comes y = ((x : Provider) × Has x s.sessions.providers × Alike y x) ⊎ (Alike y new × (new.provider.join ≡ s.sessions.last_request + 1) × Asked root.records new.provider new.group)

  comes : (y : Provider) → Has y t.sessions.providers → Comes y
  comes y i = by ((rooted e).1.was z.0 z.1)
    where
      z : (z : Provider) × Has z root.sessions.providers × Alike y z
      z = walked.kin.was y i

      by : Has z.0 s.sessions.providers ⊎ ((z.0 ≡ new) × (new.provider.join ≡ s.sessions.last_request + 1) × Asked root.records new.provider new.group) → Comes y
      by (inl j) = inl (z.0, j, z.2)
      by (inr a) = inr (subst (Alike y) a.0 z.2, a.1, a.2)

  join_alike : (y z : Provider) → Alike y z → y.provider.join ≡ z.provider.join
  join_alike y z a = ap (λ (p : ProviderId). p.join) a.provider

  tokens_after : Tokens (over v t ∷ w.before) t.sessions
  tokens_after =
      record { low = λ y i. low y (comes y i); single = λ a b i j q. single a b (comes a i) (comes b j) q; asked = λ y i. asked y (comes y i) }
    where
      low : (y : Provider) → Comes y → 1 ≤ y.provider.join
      low y (inl a) = let l = own.low a.0 a.1 in let q = join_alike y a.0 a.2 in omega (arith, l, q)
      low y (inr a) = let q = join_alike y new a.0 in let z = a.1 in omega (arith, q, z)

      late : (x y : Provider) → Has x s.sessions.providers → x.provider.join ≡ y.provider.join → y.provider.join ≡ s.sessions.last_request + 1 → ⊥
      late x y i q z = let l = numbered x i in omega (arith, l, q, z)

      single : (a b : Provider) → Comes a → Comes b → a.provider.join ≡ b.provider.join → Alike a b
      single a b (inl x) (inl y) q =
          let z : x.0.provider.join ≡ y.0.provider.join = sym (join_alike a x.0 x.2) ∙ q ∙ join_alike b y.0 y.2 in
          alike_then a x.0 b x.2 (alike_then x.0 y.0 b (own.single x.0 y.0 x.1 y.1 z) (alike_back b y.0 y.2))
      single a b (inl x) (inr y) q = absurd (late x.0 new x.1 (sym (join_alike a x.0 x.2) ∙ q ∙ join_alike b new y.0) y.1)
      single a b (inr x) (inl y) q = absurd (late y.0 new y.1 (sym (join_alike b y.0 y.2) ∙ sym q ∙ join_alike a new x.0) x.1)
      single a b (inr x) (inr y) q = alike_then a new b x.0 (alike_back b new y.0)

      asked : (y : Provider) → Comes y → Asked (records_of (over v t ∷ w.before)) y.provider y.group
      asked y (inl a) =
          let z = asked_alike (records_of w.before) y a.0 a.2 (own.asked a.0 a.1) in
          (z.0, append_has_right (happened.Asked y.provider y.provider.join y.group z.0) (reverse t.records) (records_of w.before) z.1)
      asked y (inr a) =
          let z = asked_alike root.records y new a.0 a.2 in
          let r : Happened = happened.Asked y.provider y.provider.join y.group z.0 in
          (z.0, append_has_left r (reverse t.records) (records_of w.before) (reverse_has r t.records (walked.grown r z.1)))

  -- ---- whose a provider is that a call names

  mine : (client g : List ℕ) (y : Provider) → Has y s.sessions.providers → is_member_of (caller s.sessions client g) y ≡ true → Mine w.before n client g y
  unfolding caller member_token
  mine client g y i named = by (find (is_in_group token g) s.sessions.providers) refl (eqb-true _ _ named)
    where
      token : ClientToken
      token = client_token s.sessions client

      by : (o : Option Provider) → find (is_in_group token g) s.sessions.providers ≡ o → y.provider.join ≡ (member_in o).number → Mine w.before n client g y
      by None q join = absurd (let l = own.low y i in omega (arith, l, join))
      by (Some z) q join =
          let h = find_has (is_in_group token g) s.sessions.providers z q in
          let both = and_parts (is_client_of token z) (bytes_eq z.group g) h.1 in
          let a : Alike y z = own.single y z i h.0 join in
          let of : is_client_of token y ≡ true = ap (λ (t : ClientToken). t.number == token.number) a.client ∙ both.0 in
          let group : y.group ≡ g = a.group ∙ text_same z.group g both.1 in
          let join = own.asked y i in
          record {
            clients = record {
              caller = goodbye_named (λ p. client_of p w.before) s.sessions client were.owners y i of;
              join = join.0;
              joined = subst (λ z. Has (happened.Asked y.provider y.provider.join z join.0) (records_of w.before)) group join.1;
            };
            group = group;
            node = (here.owes.providers y i).0;
          }

  -- ---- requests

  called : (d : CallLine) (p : ProviderId) → v ≡ Call n d → p.node ≡ n → Some v ≡ Some (Call p.node d)
  called d p says node = ap (λ (z : Event). Some z) (says ∙ ap (λ m. Call m d) (sym node))

  module _ (p : ProviderId) (r : ℕ) (g : List ℕ) (x : Proposal) where
    abbrev asks : Happened
    asks = happened.Asked p r g x

    -- by a call of a provider that is there
    made : (d : CallLine) (client h : List ℕ) (make : Provider → ℕ → Proposal) (rs : List Happened) → v ≡ Call n d → Proposes s.sessions (caller s.sessions client h) make rs → Has asks rs → ((y : Provider) → y.provider ≡ p → IsClients client h p w.before → g ≡ h → x ≡ make y r → AsksFor d w.before p r g x) → AskedByCall (Some v) w.before p r g x
    made d client h make rs says a i fit =
        let m : Mine w.before n client h a.who = mine client h a.who a.there a.named in
        let q : asks ≡ happened.Asked a.who.provider (s.sessions.last_request + 1) a.who.group (make a.who (s.sessions.last_request + 1)) = single_has _ _ (subst (Has asks) a.is i) in
        let who : a.who.provider ≡ p = cc in
        let number : s.sessions.last_request + 1 ≡ r = cc in
        let group : g ≡ a.who.group = cc in
        let is : x ≡ make a.who (s.sessions.last_request + 1) = cc in
        record {
          line = d;
          is = called d p says (ap (λ (z : ProviderId). z.node) (sym who) ∙ m.node);
          asks = fit a.who who (subst (λ z. IsClients client h z w.before) who m.clients) (group ∙ m.group) (is ∙ ap (make a.who) number);
        }

    by_call : (d : CallLine) (rs : List Happened) → v ≡ Call n d → Leaves s.sessions d rs → Has asks rs → AskedByCall (Some v) w.before p r g x
    by_call (call.Join client h instance attrs) rs says l i =
        let new : ProviderId = new_provider s.sessions instance in
        let q : asks ≡ happened.Asked new (s.sessions.last_request + 1) h (proposal.Join (new ∷ []) attrs None) = single_has _ _ (subst (Has asks) l i) in
        let who : p ≡ new = cc in
        let number : r ≡ s.sessions.last_request + 1 = cc in
        let group : g ≡ h = cc in
        let is : x ≡ proposal.Join (new ∷ []) attrs None = cc in
        record {
          line = call.Join client h instance attrs;
          is = called (call.Join client h instance attrs) p says (ap (λ (z : ProviderId). z.node) who ∙ here.owes.me);
          asks = (group, ap (λ (z : ProviderId). z.instance) who, number ∙ sym (ap (λ (z : ProviderId). z.join) who), is ∙ ap (λ (z : ProviderId). proposal.Join (z ∷ []) attrs None) (sym who));
        }
    by_call (call.Leave client h phases) rs says l i =
        made (call.Leave client h phases) client h (λ y r. proposal.Leave y.provider r) rs says l i (λ y who own group is. (own, group, is ∙ ap (λ z. proposal.Leave z r) who))
    by_call (call.Expel client h phases out) rs says l i =
        made (call.Expel client h phases out) client h (λ y r. proposal.Expel y.provider r out) rs says l i (λ y who own group is. (own, group, is ∙ ap (λ z. proposal.Expel z r out) who))
    by_call (call.ChangeState client h phases value) rs says l i =
        made (call.ChangeState client h phases value) client h (λ y r. proposal.State y.provider r value) rs says l i (λ y who own group is. (own, group, is ∙ ap (λ z. proposal.State z r value) who))
    by_call (call.SendMessage client h phases bytes) rs says l i =
        made (call.SendMessage client h phases bytes) client h (λ y r. proposal.Message y.provider r bytes) rs says l i (λ y who own group is. (own, group, is ∙ ap (λ z. proposal.Message z r bytes) who))
    by_call (call.ChangeAttributes client h phases attrs) rs says l i =
        made (call.ChangeAttributes client h phases attrs) client h (λ y r. proposal.Attributes y.provider r attrs) rs says l i (λ y who own group is. (own, group, is ∙ ap (λ z. proposal.Attributes z r attrs) who))
    by_call (call.Vote client h vote value) rs says l i = absurd (let q : asks ≡ happened.Cast l.who.provider l.phase.proto l.phase.phase vote value None = single_has _ _ (subst (Has asks) l.is i) in cc)
    by_call (call.Init node name votes) rs says l i = absurd (subst (Has asks) l i)
    by_call (call.Subscribe client h) rs says l i = absurd (subst (Has asks) l i)
    by_call (call.Unsubscribe client h) rs says l i = absurd (subst (Has asks) l i)
    by_call (call.Goodbye client) rs says l i = absurd (subst (Has asks) l i)

    asked_in : (d : NodeEvent) → Names n d v → Has asks (root_of (at_work s) d).records → AskedByCall (Some v) w.before p r g x
    asked_in Ticks says i = absurd i
    asked_in (Asks mask) says i = absurd i
    asked_in (Given q) says i = absurd i
    asked_in Garbage says i = absurd i
    asked_in (Calls d) says i = by (call_comes d (at_work s) refl).leaves
      where
        rs : List Happened
        rs = (take_call (at_work s) d).records

        by : Refuses rs ⊎ Leaves s.sessions d rs → AskedByCall (Some v) w.before p r g x
        by (inl a) = absurd (let q : asks ≡ happened.Refused a.0 a.1 a.2 = single_has _ _ (subst (Has asks) a.3 i) in cc)
        by (inr l) = by_call d rs (says d refl) l i

  -- ---- ballots

  module _ (p : ProviderId) (proto : ProtoId) (phase : ℕ) (vote : Vote) (value message : Option (List ℕ)) where
    abbrev casts : Happened
    casts = happened.Cast p proto phase vote value message

    none_made : (m : MemberToken) (make : Provider → ℕ → Proposal) (rs : List Happened) → Proposes s.sessions m make rs → Has casts rs → ⊥
    none_made m make rs a i = let q : casts ≡ happened.Asked a.who.provider (s.sessions.last_request + 1) a.who.group (make a.who (s.sessions.last_request + 1)) = single_has _ _ (subst (Has casts) a.is i) in cc

    given : (client h : List ℕ) (b : Vote) (u : Option (List ℕ)) (rs : List Happened) → v ≡ Call n (call.Vote client h b u) → Gives s.sessions (caller s.sessions client h) b u rs → Has casts rs → CastByCall (Some v) w.before p vote value message
    given client h b u rs says a i =
        let m : Mine w.before n client h a.who = mine client h a.who a.there a.named in
        let q : casts ≡ happened.Cast a.who.provider a.phase.proto a.phase.phase b u None = single_has _ _ (subst (Has casts) a.is i) in
        let who : a.who.provider ≡ p = cc in
        let same : b ≡ vote = cc in
        let sent : u ≡ value = cc in
        let bare : message ≡ None = cc in
        record {
          client = client;
          group = h;
          is = called (call.Vote client h vote value) p (says ∙ (λ i. Call n (call.Vote client h (same i) (sent i)))) (ap (λ (z : ProviderId). z.node) (sym who) ∙ m.node);
          own = subst (λ z. IsClients client h z w.before) who m.clients;
          bare = bare;
        }

    cast_by : (d : CallLine) (rs : List Happened) → v ≡ Call n d → Leaves s.sessions d rs → Has casts rs → CastByCall (Some v) w.before p vote value message
    cast_by (call.Join client h instance attrs) rs says l i = absurd (let q : casts ≡ happened.Asked (new_provider s.sessions instance) (s.sessions.last_request + 1) h (proposal.Join (new_provider s.sessions instance ∷ []) attrs None) = single_has _ _ (subst (Has casts) l i) in cc)
    cast_by (call.Leave client h phases) rs says l i = absurd (none_made _ _ rs l i)
    cast_by (call.Expel client h phases out) rs says l i = absurd (none_made _ _ rs l i)
    cast_by (call.ChangeState client h phases u) rs says l i = absurd (none_made _ _ rs l i)
    cast_by (call.SendMessage client h phases bytes) rs says l i = absurd (none_made _ _ rs l i)
    cast_by (call.ChangeAttributes client h phases attrs) rs says l i = absurd (none_made _ _ rs l i)
    cast_by (call.Vote client h b u) rs says l i = given client h b u rs says l i
    cast_by (call.Init node name votes) rs says l i = absurd (subst (Has casts) l i)
    cast_by (call.Subscribe client h) rs says l i = absurd (subst (Has casts) l i)
    cast_by (call.Unsubscribe client h) rs says l i = absurd (subst (Has casts) l i)
    cast_by (call.Goodbye client) rs says l i = absurd (subst (Has casts) l i)

    cast_in : (d : NodeEvent) → Names n d v → Has casts (root_of (at_work s) d).records → CastByCall (Some v) w.before p vote value message
    cast_in Ticks says i = absurd i
    cast_in (Asks mask) says i = absurd i
    cast_in (Given q) says i = absurd i
    cast_in Garbage says i = absurd i
    cast_in (Calls d) says i = by (call_comes d (at_work s) refl).leaves
      where
        rs : List Happened
        rs = (take_call (at_work s) d).records

        by : Refuses rs ⊎ Leaves s.sessions d rs → CastByCall (Some v) w.before p vote value message
        by (inl a) = absurd (let q : casts ≡ happened.Refused a.0 a.1 a.2 = single_has _ _ (subst (Has casts) a.3 i) in cc)
        by (inr l) = cast_by d rs (says d refl) l i

  said : Names n e v → CallsAreSaid (over v t) w.before
  said says =
      record { asked = λ p r g x i. asked p r g x (walked.fresh (happened.Asked p r g x) (has_reverse (happened.Asked p r g x) t.records i)); cast = λ p proto phase vote value message i. cast p proto phase vote value message (walked.fresh (happened.Cast p proto phase vote value message) (has_reverse (happened.Cast p proto phase vote value message) t.records i)) }
    where
      asked : (p : ProviderId) (r : ℕ) (g : List ℕ) (x : Proposal) → Has (happened.Asked p r g x) root.records ⊎ Answers t.records (happened.Asked p r g x) → AskedByCall (Some v) w.before p r g x
      asked p r g x (inl i) = asked_in p r g x e says i
      asked p r g x (inr z) = absurd z

      cast : (p : ProviderId) (proto : ProtoId) (phase : ℕ) (vote : Vote) (value message : Option (List ℕ)) → Has (happened.Cast p proto phase vote value message) root.records ⊎ Answers t.records (happened.Cast p proto phase vote value message) → CastByCall (Some v) w.before p vote value message ⊎ HeardAmong (reverse t.records) p
      cast p proto phase vote value message (inl i) = inl (cast_in p proto phase vote value message e says i)
      cast p proto phase vote value message (inr h) = inr (heard_more t.records (reverse t.records) p (λ r i. reverse_has r t.records i) h)

-- ---- every scene

abbrev pub tokens : UpClaim
tokens = record { sent = λ h x. Unit {0}; node = λ m inc ps h s. Tokens h s.sessions; lines = EachCallIsSaid }

-- where no node takes a step nothing is asked or cast
idle_said : (e : Happening) (h : History) → ((r : Happened) → Has r e.records → Idle r) → CallsAreSaid e h
idle_said e h idle =
    record { asked = λ p r g x i. absurd (idle (happened.Asked p r g x) i); cast = λ p proto phase vote value message i. absurd (idle (happened.Cast p proto phase vote value message) i) }

pub telling : (c : Config) → UpLaw playing c tokens
telling c =
    record {
      none = tt;
      sent_on = λ e h x k. tt;
      stays = λ w e t o m s up all k. tokens_on e w.before s.sessions k;
      comes = λ w e t o m came down. started_tokens c m (w.incs m + 1) (e ∷ w.before);
      lines_on = λ w e t o k. (idle_said e w.before o.idle, k);
      steps = λ w n f s e v r next up arises says h k.
          record {
            sends = λ x i. tt;
            node = tokens_after c w n f s e v r up k;
            others = λ m ne d is b. tokens_on (over v (stepped f s e)) w.before d.sessions b;
            lines = (said c w n f s e v r up k says, h.lines);
          };
    }

pub calls_of_scenes_are_said : CallsOfScenesAreSaid
calls_of_scenes_are_said c w k = (ups_hold playing c tokens (telling c) w (played_ran c w k)).lines
