-- Providers ask for one thing at a time: what changes of sessions leave of that.
use Rattle.std.proofs.Common.{◌≡◌, ◌≤◌, ◌⊎◌, ℕ, ◌+◌, List, [], ◌∷◌, ◌++◌, Option, Some, None, Bool, true, false, refl, sym, ap, ◌∙◌, subst, inl, inr, ⊎_elim, arith}
use Rattle.std.specs.Prelude.{◌==◌, ◌||◌, not, map, filter, fold, find, is_none, if◌then◌else◌, reverse}
use Rattle.std.proofs.lemmas.Bool.{eqb-true, and_parts}
use Rattle.rsct_packet.specs.declared.ids.ViewId.{ViewId}
use Rattle.rsct_packet.specs.declared.ids.ProviderId.{ProviderId}
use Rattle.rsct_packet.specs.Providers.{among, same_provider}
use Rattle.rsct_packet.specs.Search.{Has, edit_where}
use Rattle.rsct_packet.proofs.HasLaws.{has_filter, filter_has, has_append, append_has_left, append_has_right, find_has, find_none}
use Rattle.proposal_core.specs.declared.entry.Entry.{Entry}
use Rattle.proposal_core.specs.declared.entry.Entry.TheVariants.{Once, Begin, Phase, Approve, Reject, Late}
use Rattle.proposal_core.specs.declared.proposal.Proposal.{Proposal}
use Rattle.proposal_core.specs.declared.proposal.Proposal.TheVariants.{Join, Leave, Fail, Expel, State, Message, Attributes, Reflect}
use Rattle.proposal_core.specs.declared.group_state.GroupState.{GroupState}
use Rattle.client_callbacks.specs.declared.ballot.Filled.{Filled}
use Rattle.client_callbacks.specs.declared.told.Why.{Why}
use Rattle.session_state.specs.declared.casts.Cast.{Cast}
use Rattle.session_state.specs.declared.state.Provider.{Provider}
use Rattle.session_state.specs.declared.state.Request.{Request}
use Rattle.session_state.specs.declared.state.SessionState.{SessionState}
use Rattle.session_state.specs.State.{is_provider, is_request, is_asked_by, outstanding, with_provider, end_request, without_providers}
use Rattle.session_state.specs.HandOn.{kept_ended, kept_after, beginners, hearers, part_taken, opened_after, open_phases, keep_casts, proposal_begun, requests_after, removed_from, casts_out, heard, handed_on, taking_part, is_join_request, is_dissolved, takes_telling, told_of, take_telling, is_join}
use Rattle.node_state.specs.declared.happened.Happened.{Happened}
use Rattle.node_state.specs.declared.happened.Happened.TheVariants as happened
use Rattle.run_safety.specs.ViewOrder.{Le}
use Rattle.run_safety.specs.Past.{records_of}
use Rattle.run_safety.specs.Group as group
use Rattle.run_safety.specs.Requests.{requests_of, carried}
use Rattle.run_safety.proofs.Order.{lt_refl, le_trans}
use Rattle.step_refinement.specs.Tied.{JoinPut, InTurn, SentInTurn, Turns, Scene}
use Rattle.step_refinement.proofs.SessionLaws.{provider_self, provider_same, Attended}
use Rattle.std.proofs.lemmas.List.{reverse-append}

-- ---- more is recorded

pub put_on : (rs ts : List Happened) → ((r : Happened) → Has r rs → Has r ts) → (p : ProviderId) (v u : ViewId) → Le v u → JoinPut rs p v → JoinPut ts p u
put_on rs ts more p v u le h =
    record { at_view = h.at_view; named = h.named; place = h.place; entry = h.entry; put = more (happened.Put p.node h.at_view h.named h.place h.entry) h.put; joins = h.joins; by_then = le_trans h.at_view v u h.by_then le }

pub turn_on : (rs ts : List Happened) → ((r : Happened) → Has r rs → Has r ts) → (v u : ViewId) → Le v u → (t : SessionState) → InTurn v rs t → InTurn u ts t
turn_on rs ts more v u le t h =
    record { single = h.single; joined = λ y i. ⊎_elim (λ (a : (q : Request) × Has q t.requests × (q.provider ≡ y.provider) × (q.request ≡ y.provider.join) × (is_join q.proposal ≡ true)). inl a) (λ (a : JoinPut rs y.provider v). inr (put_on rs ts more y.provider v u le a)) (h.joined y i); numbered = h.numbered; owner = h.owner }

pub sent_on_more : (rs ts : List Happened) → ((r : Happened) → Has r rs → Has r ts) → (ps qs : List group.Packet) → ((v : ViewId) (p : ProviderId) (r : ℕ) (y : Proposal) → Has (group.Request v p r y) qs → Has (group.Request v p r y) ps) → SentInTurn rs ps → SentInTurn ts qs
sent_on_more rs ts more ps qs old h v p r y i =
    ⊎_elim (λ (a : r ≡ p.join). inl a) (λ (a : JoinPut rs p v). inr (put_on rs ts more p v v (lt_refl v) a)) (h v p r y (old v p r y i))

pub has_pushed_on : (r x : Happened) (rs bs : List Happened) → Has x (rs ++ bs) → Has x ((rs ++ r ∷ []) ++ bs)
has_pushed_on r x rs bs h =
    ⊎_elim (λ (a : Has x rs). append_has_left x (rs ++ r ∷ []) bs (append_has_left x rs (r ∷ []) a)) (λ (a : Has x bs). append_has_right x (rs ++ r ∷ []) bs a) (has_append x rs bs h)

pub has_last : (r : Happened) (rs bs : List Happened) → Has r ((rs ++ r ∷ []) ++ bs)
has_last r rs bs = append_has_left r (rs ++ r ∷ []) bs (append_has_right r rs (r ∷ []) (inl refl))

has_reverse : (x : Happened) (rs : List Happened) → Has x rs → Has x (reverse rs)
has_reverse x [] h = absurd h
has_reverse x (r ∷ rs) h =
    let turned : reverse (r ∷ rs) ≡ reverse rs ++ (r ∷ []) = reverse-append (r ∷ []) rs in
    subst (Has x) (sym turned) (⊎_elim (λ (e : x ≡ r). append_has_right x (reverse rs) (r ∷ []) (inl e)) (λ (i : Has x rs). append_has_left x (reverse rs) (r ∷ []) (has_reverse x rs i)) h)

pub has_turned : (x : Happened) (rs bs : List Happened) → Has x (rs ++ bs) → Has x (reverse rs ++ bs)
has_turned x rs bs h =
    ⊎_elim (λ (a : Has x rs). append_has_left x (reverse rs) bs (has_reverse x rs a)) (λ (a : Has x bs). append_has_right x (reverse rs) bs a) (has_append x rs bs h)

module _ (w : Scene) (n : ℕ) (v : ViewId) (rs : List Happened) (t : SessionState) (ps : List group.Packet) (h : Turns w n v rs t ps) where
  -- one more record, and packets that are no requests
  pub turns_pushed : (r : Happened) → Turns w n v (rs ++ r ∷ []) t ps
  turns_pushed r =
      record {
        own = turn_on (rs ++ records_of w.before) ((rs ++ r ∷ []) ++ records_of w.before) (λ x i. has_pushed_on r x rs (records_of w.before) i) v v (lt_refl v) t h.own;
        others = h.others;
        sent = sent_on_more (rs ++ records_of w.before) ((rs ++ r ∷ []) ++ records_of w.before) (λ x i. has_pushed_on r x rs (records_of w.before) i) ps ps (λ v p r y i. i) h.sent;
      }

  pub turns_packets : (qs : List group.Packet) → ((v : ViewId) (p : ProviderId) (r : ℕ) (y : Proposal) → Has (group.Request v p r y) qs → Has (group.Request v p r y) ps) → Turns w n v rs t qs
  turns_packets qs old = record { own = h.own; others = h.others; sent = λ v p r y i. h.sent v p r y (old v p r y i) }

  pub packet_turns : (q : group.Packet) → ((v : ViewId) (p : ProviderId) (r : ℕ) (y : Proposal) → group.Request v p r y ≡ q → ⊥) → Turns w n v rs t (q ∷ ps)
  packet_turns q other = turns_packets (q ∷ ps) (λ u p r y i. old u p r y i)
    where
      old : (u : ViewId) (p : ProviderId) (r : ℕ) (y : Proposal) → Has (group.Request u p r y) (q ∷ ps) → Has (group.Request u p r y) ps
      old u p r y (inl e) = absurd (other u p r y e)
      old u p r y (inr i) = i

  pub turns_sessions : (u : SessionState) → InTurn v (rs ++ records_of w.before) u → Turns w n v rs u ps
  turns_sessions u k = record { own = k; others = h.others; sent = h.sent }

-- ---- fewer requests and providers

-- nothing comes in, and a request ends with its provider, or with what is out
pub record Fewer (s t : SessionState) (out : List (ProviderId × ℕ)) : Type 0 where
  pub last : t.last_request ≡ s.last_request
  pub providers : (y : Provider) → Has y t.providers → (z : Provider) × Has z s.providers × (y.provider ≡ z.provider) × (y.client ≡ z.client)
  pub requests : (q : Request) → Has q t.requests → Has q s.requests
  pub stays : (y : Provider) → Has y t.providers → (q : Request) → Has q s.requests → q.provider ≡ y.provider → Has q t.requests ⊎ Has {A = ProviderId × ℕ} (q.provider, q.request) out

pub fewer_turn : (rs ts : List Happened) → ((r : Happened) → Has r rs → Has r ts) → (v : ViewId) (s t : SessionState) (out : List (ProviderId × ℕ)) → Fewer s t out → ((q : Request) → Has q s.requests → q.request ≡ q.provider.join → Has {A = ProviderId × ℕ} (q.provider, q.request) out → JoinPut ts q.provider v) → InTurn v rs s → InTurn v ts t
fewer_turn rs ts more v s t out f ended h =
    record {
      single = λ a b i j e. h.single a b (f.requests a i) (f.requests b j) e;
      joined = λ y i. let z = f.providers y i in joined y i z.0 z.2 (h.joined z.0 z.1);
      numbered = λ y i. let z = f.providers y i in
          let l = h.numbered z.0 z.1 in
          let e : y.provider.join ≡ z.0.provider.join = ap (λ (p : ProviderId). p.join) z.2 in
          let k = f.last in omega arith;
      owner = λ a b i j e. let x = f.providers a i in
          let y = f.providers b j in x.3 ∙ h.owner x.0 y.0 x.1 y.1 (sym x.2 ∙ e ∙ y.2) ∙ sym y.3;
    }
  where
    joined : (y : Provider) → Has y t.providers → (z : Provider) → y.provider ≡ z.provider → ((q : Request) × Has q s.requests × (q.provider ≡ z.provider) × (q.request ≡ z.provider.join) × (is_join q.proposal ≡ true)) ⊎ JoinPut rs z.provider v → ((q : Request) × Has q t.requests × (q.provider ≡ y.provider) × (q.request ≡ y.provider.join) × (is_join q.proposal ≡ true)) ⊎ JoinPut ts y.provider v
    joined y i z e (inr a) = inr (subst (λ p. JoinPut ts p v) (sym e) (put_on rs ts more z.provider v v (lt_refl v) a))
    joined y i z e (inl a) = by (f.stays y i a.0 a.1 (a.2 ∙ sym e))
      where
        by : Has a.0 t.requests ⊎ Has {A = ProviderId × ℕ} (a.0.provider, a.0.request) out → ((q : Request) × Has q t.requests × (q.provider ≡ y.provider) × (q.request ≡ y.provider.join) × (is_join q.proposal ≡ true)) ⊎ JoinPut ts y.provider v
        by (inl k) = inl (a.0, k, a.2 ∙ sym e, a.3 ∙ ap (λ (p : ProviderId). p.join) (sym e), a.4)
        by (inr k) =
            inr (subst (λ p. JoinPut ts p v) (a.2 ∙ sym e) (ended a.0 a.1 (a.3 ∙ ap (λ (p : ProviderId). p.join) (sym a.2)) k))

pub fewer_same : (s t : SessionState) (out : List (ProviderId × ℕ)) → t.last_request ≡ s.last_request → t.providers ≡ s.providers → t.requests ≡ s.requests → Fewer s t out
fewer_same s t out a b c =
    record { last = a; providers = λ y h. (y, subst (Has y) b h, refl, refl); requests = λ q h. subst (Has q) c h; stays = λ y i q h e. inl (subst (Has q) (sym c) h) }

pub fewer_then : (s t u : SessionState) (out : List (ProviderId × ℕ)) → Fewer s t out → Fewer t u out → Fewer s u out
fewer_then s t u out a b =
    record {
      last = b.last ∙ a.last;
      providers = λ y h. let k = b.providers y h in
          let j = a.providers k.0 k.1 in (j.0, j.1, k.2 ∙ j.2, k.3 ∙ j.3);
      requests = λ q h. a.requests q (b.requests q h);
      stays = λ y i q h e. let k = b.providers y i in
          ⊎_elim (λ (j : Has q t.requests). b.stays y i q j e) (λ (j : Has {A = ProviderId × ℕ} (q.provider, q.request) out). inr j) (a.stays k.0 k.1 q h (e ∙ k.2));
    }

fewer_fold : {A : Type 0} (f : SessionState → A → SessionState) (out : List (ProviderId × ℕ)) → ((s : SessionState) (x : A) → Fewer s (f s x) out) → (xs : List A) (s : SessionState) → Fewer s (fold f s xs) out
fewer_fold f out step [] s = fewer_same s s out refl refl refl
fewer_fold f out step (x ∷ xs) s = fewer_then s (f s x) (fold f (f s x) xs) out (step s x) (fewer_fold f out step xs (f s x))

edited : (p : ProviderId) (f : Provider → Provider) → ((x : Provider) → ((f x).provider ≡ x.provider) × ((f x).client ≡ x.client)) → (xs : List Provider) (y : Provider) → Has y (edit_where (is_provider p) f xs) → (z : Provider) × Has z xs × (y.provider ≡ z.provider) × (y.client ≡ z.client)
edited p f keeps [] y h = absurd h
edited p f keeps (x ∷ xs) y h = by (is_provider p x) h (edited p f keeps xs y)
  where
    by : (b : Bool) → Has y (if b then f x ∷ xs else x ∷ edit_where (is_provider p) f xs) → (Has y (edit_where (is_provider p) f xs) → (z : Provider) × Has z xs × (y.provider ≡ z.provider) × (y.client ≡ z.client)) → (z : Provider) × Has z (x ∷ xs) × (y.provider ≡ z.provider) × (y.client ≡ z.client)
    by true (inl e) k = (x, inl refl, ap (λ (w : Provider). w.provider) e ∙ (keeps x).0, ap (λ (w : Provider). w.client) e ∙ (keeps x).1)
    by true (inr i) k = (y, inr i, refl, refl)
    by false (inl e) k = (x, inl refl, ap (λ (w : Provider). w.provider) e, ap (λ (w : Provider). w.client) e)
    by false (inr i) k = let r = k i in (r.0, inr r.1, r.2, r.3)

module _ (out : List (ProviderId × ℕ)) where
  fewer_provider : (s : SessionState) (p : ProviderId) (f : Provider → Provider) → ((x : Provider) → ((f x).provider ≡ x.provider) × ((f x).client ≡ x.client)) → Fewer s (with_provider s p f) out
  unfolding with_provider
  fewer_provider s p f keeps =
      record { last = refl; providers = λ y h. edited p f keeps s.providers y h; requests = λ q h. h; stays = λ y i q h e. inl h }

  fewer_kept : (s : SessionState) (g : List ℕ) (e : Entry) → Fewer s (kept_after s g e) out
  unfolding kept_after kept_ended
  fewer_kept s g (Once x) = fewer_same s s out refl refl refl
  fewer_kept s g (Begin x) = fewer_same s s out refl refl refl
  fewer_kept s g (Phase c) = fewer_same s _ out refl refl refl
  fewer_kept s g (Approve c) = fewer_same s _ out refl refl refl
  fewer_kept s g (Reject c) = fewer_same s _ out refl refl refl
  fewer_kept s g (Late proto phase ps) = fewer_same s s out refl refl refl

  fewer_parts : (s : SessionState) (ps : List ProviderId) → Fewer s (part_taken s ps) out
  unfolding part_taken
  fewer_parts s ps =
      fewer_fold (λ t p. with_provider t p taking_part) out (λ t p. fewer_provider t p taking_part (λ x. (refl, refl))) ps s

  opened_keeps : (e : Entry) (after : GroupState) (x : Provider) → ((opened_after e after x).provider ≡ x.provider) × ((opened_after e after x).client ≡ x.client)
  unfolding opened_after
  opened_keeps (Once x) after y = (refl, refl)
  opened_keeps (Begin x) after y = (refl, refl)
  opened_keeps (Phase c) after y = (refl, refl)
  opened_keeps (Approve c) after y = (refl, refl)
  opened_keeps (Reject c) after y = (refl, refl)
  opened_keeps (Late proto phase ps) after y = (refl, refl)

  fewer_opened : (s : SessionState) (e : Entry) (after : GroupState) (ps : List ProviderId) → Fewer s (open_phases s e after ps) out
  unfolding open_phases
  fewer_opened s e after ps =
      fewer_fold (λ t p. with_provider t p (opened_after e after)) out (λ t p. fewer_provider t p (opened_after e after) (opened_keeps e after)) ps s

  fewer_casts : (s : SessionState) (g : List ℕ) (cs : List Cast) → Fewer s (keep_casts s g cs) out
  unfolding keep_casts
  fewer_casts s g cs = fewer_same s _ out refl refl refl

  pub fewer_without : (s : SessionState) (ps : List ProviderId) → Fewer s (without_providers s ps) out
  unfolding without_providers
  fewer_without s ps =
      record {
        last = refl;
        providers = λ y h. (y, (has_filter (λ x. not (among ps x.provider)) y s.providers h).0, refl, refl);
        requests = λ q h. (has_filter (λ q. not (among ps q.provider)) q s.requests h).0;
        stays = λ y i q h e. inl (filter_has (λ q. not (among ps q.provider)) q s.requests h (ap (λ z. not (among ps z)) e ∙ (has_filter (λ x. not (among ps x.provider)) y s.providers i).1));
      }

  fewer_ended : (s : SessionState) (p : ProviderId) (r : ℕ) → Has {A = ProviderId × ℕ} (p, r) out → Fewer s (end_request s p r) out
  unfolding end_request
  fewer_ended s p r there =
      record {
        last = refl;
        providers = λ y h. (y, h, refl, refl);
        requests = λ q h. (has_filter (λ q. not (is_request p r q)) q s.requests h).0;
        stays = λ y i q h e. by q h (is_request p r q) refl;
      }
    where
      by : (q : Request) → Has q s.requests → (b : Bool) → is_request p r q ≡ b → Has q (filter (λ q. not (is_request p r q)) s.requests) ⊎ Has {A = ProviderId × ℕ} (q.provider, q.request) out
      by q h false k = inl (filter_has (λ q. not (is_request p r q)) q s.requests h (ap not k))
      by q h true k =
          let a = and_parts (same_provider q.provider p) (q.request == r) k in
          inr (subst (λ (z : ProviderId × ℕ). Has {A = ProviderId × ℕ} z out) (λ i. (sym (provider_same q.provider p a.0) i, sym (eqb-true q.request r a.1) i)) there)

  fewer_joins : (ps : List ProviderId) (s : SessionState) → ((p : ProviderId) → Has p ps → Has {A = ProviderId × ℕ} (p, p.join) out) → Fewer s (fold (λ t (p : ProviderId). end_request t p p.join) s ps) out
  fewer_joins [] s there = fewer_same s s out refl refl refl
  fewer_joins (p ∷ ps) s there =
      fewer_then s (end_request s p p.join) (fold (λ t (p : ProviderId). end_request t p p.join) (end_request s p p.join) ps) out (fewer_ended s p p.join (there p (inl refl))) (fewer_joins ps (end_request s p p.join) (λ q i. there q (inr i)))

joins_there : (ps : List ProviderId) (p : ProviderId) → Has p ps → Has {A = ProviderId × ℕ} (p, p.join) (map (λ (p : ProviderId). (p, p.join)) ps)
joins_there [] p h = absurd h
joins_there (q ∷ ps) p (inl e) = inl (λ i. (e i, (e i).join))
joins_there (q ∷ ps) p (inr h) = inr (joins_there ps p h)

fewer_begun : (s : SessionState) (x : Proposal) → Fewer s (proposal_begun s x) (requests_of x)
unfolding proposal_begun
fewer_begun s (Join ps attrs n) = fewer_joins (requests_of (Join ps attrs n)) ps s (λ p h. joins_there ps p h)
fewer_begun s (Leave p r) = fewer_ended ((p, r) ∷ []) s p r (inl refl)
fewer_begun s (Fail out) = fewer_same s s [] refl refl refl
fewer_begun s (Expel p r out) = fewer_ended ((p, r) ∷ []) s p r (inl refl)
fewer_begun s (State p r value) = fewer_ended ((p, r) ∷ []) s p r (inl refl)
fewer_begun s (Message p r bytes) = fewer_ended ((p, r) ∷ []) s p r (inl refl)
fewer_begun s (Attributes p r attrs) = fewer_ended ((p, r) ∷ []) s p r (inl refl)
fewer_begun s (Reflect view place value) = fewer_same s s [] refl refl refl

fewer_requests : (s : SessionState) (e : Entry) → Fewer s (requests_after s e) (carried e)
unfolding requests_after
fewer_requests s (Once x) = fewer_begun s x
fewer_requests s (Begin x) = fewer_begun s x
fewer_requests s (Phase c) = fewer_same s s [] refl refl refl
fewer_requests s (Approve c) = fewer_same s s [] refl refl refl
fewer_requests s (Reject c) = fewer_same s s [] refl refl refl
fewer_requests s (Late proto phase ps) = fewer_same s s [] refl refl refl

-- an entry is handed on: what it begins ends
pub handed_fewer : (s : SessionState) (g : List ℕ) (before after : GroupState) (e : Entry) (bs : List (Option Filled)) → Fewer s (handed_on s g before after e bs) (carried e)
unfolding handed_on heard
handed_fewer s g before after e bs =
    let out : List (ProviderId × ℕ) = carried e in
    let t : SessionState = part_taken (kept_after s g e) (beginners s g e) in
    let o : SessionState = open_phases t e after (hearers s g before e) in
    let u : SessionState = keep_casts o g (casts_out s g before after e bs) in
    let d : SessionState = requests_after u e in
    let a = fewer_then s (kept_after s g e) t out (fewer_kept out s g e) (fewer_parts out (kept_after s g e) (beginners s g e)) in
    let b = fewer_then s t o out a (fewer_opened out t e after (hearers s g before e)) in
    let c = fewer_then s o u out b (fewer_casts out o g (casts_out s g before after e bs)) in
    let k = fewer_then s u d out c (fewer_requests u e) in
    fewer_then s d (without_providers d (removed_from after (hearers s g before e))) out k (fewer_without out d (removed_from after (hearers s g before e)))

-- ---- a provider is told

pub told_turn : (v : ViewId) (rs : List Happened) (s : SessionState) (p : ProviderId) (r : ℕ) (y : Why) → InTurn v rs s → InTurn v rs (take_telling s p r y)
unfolding take_telling told_of outstanding
told_turn v rs s p r y h = by (takes_telling s p r y) (is_join_request (outstanding s p)) (is_dissolved y) refl
  where
    drop : InTurn v rs (without_providers s (p ∷ []))
    drop = fewer_turn rs rs (λ x i. i) v s (without_providers s (p ∷ [])) [] (fewer_without [] s (p ∷ [])) (λ q i e j. absurd j) h

    -- its join is what is outstanding
    asked_join : (q : Request) → Has q s.requests → q.provider ≡ p → is_join q.proposal ≡ true → is_join_request (outstanding s p) ≡ true
    asked_join q i e j = found (find (is_asked_by p) s.requests) refl
      where
        found : (o : Option Request) → find (is_asked_by p) s.requests ≡ o → is_join_request o ≡ true
        found None k = absurd (find_none (is_asked_by p) s.requests q (ap is_none k) i (ap (λ z. same_provider z p) e ∙ provider_self p))
        found (Some z) k =
            let a = find_has (is_asked_by p) s.requests z k in
            let same : z ≡ q = h.single z q a.0 i (provider_same z.provider p a.1 ∙ sym e) in ap (λ (x : Request). is_join x.proposal) same ∙ j

    end : is_join_request (outstanding s p) ≡ false → InTurn v rs (record s { requests = filter (λ (q : Request). not (among (p ∷ []) q.provider)) s.requests })
    end none =
        record {
          single = λ a b i j e. h.single a b (has_filter (λ (q : Request). not (among (p ∷ []) q.provider)) a s.requests i).0 (has_filter (λ (q : Request). not (among (p ∷ []) q.provider)) b s.requests j).0 e;
          joined = λ z i. joined z (h.joined z i);
          numbered = h.numbered;
          owner = h.owner;
        }
      where
        joined : (z : Provider) → ((q : Request) × Has q s.requests × (q.provider ≡ z.provider) × (q.request ≡ z.provider.join) × (is_join q.proposal ≡ true)) ⊎ JoinPut rs z.provider v → ((q : Request) × Has q (filter (λ (q : Request). not (among (p ∷ []) q.provider)) s.requests) × (q.provider ≡ z.provider) × (q.request ≡ z.provider.join) × (is_join q.proposal ≡ true)) ⊎ JoinPut rs z.provider v
        joined z (inr a) = inr a
        joined z (inl a) = at (same_provider p a.0.provider) refl
          where
            at : (b : Bool) → same_provider p a.0.provider ≡ b → ((q : Request) × Has q (filter (λ (q : Request). not (among (p ∷ []) q.provider)) s.requests) × (q.provider ≡ z.provider) × (q.request ≡ z.provider.join) × (is_join q.proposal ≡ true)) ⊎ JoinPut rs z.provider v
            at true k = absurd (let j = asked_join a.0 a.1 (sym (provider_same p a.0.provider k)) a.4 in cc)
            at false k = inl (a.0, filter_has (λ (q : Request). not (among (p ∷ []) q.provider)) a.0 s.requests a.1 (ap (λ b. not (b || false)) k), a.2, a.3, a.4)

    by : (a b c : Bool) → is_join_request (outstanding s p) ≡ b → InTurn v rs (if a then (if b || c then without_providers s (p ∷ []) else record s { requests = filter (λ (q : Request). not (among (p ∷ []) q.provider)) s.requests }) else s)
    by false b c k = h
    by true true c k = drop
    by true false true k = drop
    by true false false k = end k

-- ---- an entry is put

pub put_turn : (bs rs : List Happened) (v : ViewId) (s t : SessionState) (me : ℕ) (g : List ℕ) (k : ℕ) (e : Entry) → ((q : Request) → Has q s.requests → q.provider.node ≡ me) → Fewer s t (carried e) → InTurn v (rs ++ bs) s → InTurn v ((rs ++ happened.Put me v g k e ∷ []) ++ bs) t
put_turn bs rs v s t me g k e mine f h =
    fewer_turn (rs ++ bs) ((rs ++ happened.Put me v g k e ∷ []) ++ bs) (λ x i. has_pushed_on (happened.Put me v g k e) x rs bs i) v s t (carried e) f (λ q i j c. ended q i j c) h
  where
    ended : (q : Request) → Has q s.requests → q.request ≡ q.provider.join → Has {A = ProviderId × ℕ} (q.provider, q.request) (carried e) → JoinPut ((rs ++ happened.Put me v g k e ∷ []) ++ bs) q.provider v
    ended q i j c =
        record {
          at_view = v;
          named = g;
          place = k;
          entry = e;
          put = subst (λ m. Has (happened.Put m v g k e) ((rs ++ happened.Put me v g k e ∷ []) ++ bs)) (sym (mine q i)) (has_last (happened.Put me v g k e) rs bs);
          joins = subst (λ z. Has {A = ProviderId × ℕ} (q.provider, z) (carried e)) j c;
          by_then = lt_refl v;
        }

-- nothing was asked
pub idle_turn : (v : ViewId) (rs : List Happened) (t : SessionState) → t.providers ≡ [] → t.requests ≡ [] → InTurn v rs t
idle_turn v rs t a b =
    record {
      single = λ x y i j e. absurd (subst (Has x) b i);
      joined = λ y i. absurd (subst (Has y) a i);
      numbered = λ y i. absurd (subst (Has y) a i);
      owner = λ x y i j e. absurd (subst (Has x) a i);
    }

-- ---- a request is asked

asked_more : {rs : List Happened} {v : ViewId} (s : SessionState) (q : Request) (y : Provider) → ((a : Request) × Has a s.requests × (a.provider ≡ y.provider) × (a.request ≡ y.provider.join) × (is_join a.proposal ≡ true)) ⊎ JoinPut rs y.provider v → ((a : Request) × Has a (s.requests ++ q ∷ []) × (a.provider ≡ y.provider) × (a.request ≡ y.provider.join) × (is_join a.proposal ≡ true)) ⊎ JoinPut rs y.provider v
asked_more s q y (inl a) = inl (a.0, append_has_left a.0 s.requests (q ∷ []) a.1, a.2, a.3, a.4)
asked_more s q y (inr a) = inr a

-- a new provider asks to join
pub joined_turn : (v : ViewId) (rs : List Happened) (s : SessionState) (x : Provider) (q : Request) → Attended s → InTurn v rs s → x.provider.join ≡ s.last_request + 1 → q.provider ≡ x.provider → q.request ≡ x.provider.join → is_join q.proposal ≡ true → InTurn v rs (record s { last_request = s.last_request + 1; providers = s.providers ++ x ∷ []; requests = s.requests ++ q ∷ [] })
joined_turn v rs s x q attended h new same number joins =
    record {
      single = λ a b i j e. single a b (has_append a s.requests (q ∷ []) i) (has_append b s.requests (q ∷ []) j) e;
      joined = λ y i. joined y (has_append y s.providers (x ∷ []) i);
      numbered = λ y i. numbered y (has_append y s.providers (x ∷ []) i);
      owner = λ a b i j e. owner a b (has_append a s.providers (x ∷ []) i) (has_append b s.providers (x ∷ []) j) e;
    }
  where
    other : (y : Provider) → Has y s.providers → y.provider ≡ x.provider → ⊥
    other y i e =
        let l = h.numbered y i in
        let k : y.provider.join ≡ x.provider.join = ap (λ (p : ProviderId). p.join) e in omega arith

    fresh : (a : Request) → Has a s.requests → a.provider ≡ q.provider → ⊥
    fresh a i e = let y = attended a i in other y.0 y.1 (y.2 ∙ e ∙ same)

    single : (a b : Request) → Has a s.requests ⊎ Has a (q ∷ []) → Has b s.requests ⊎ Has b (q ∷ []) → a.provider ≡ b.provider → a ≡ b
    single a b (inl i) (inl j) e = h.single a b i j e
    single a b (inr (inl i)) (inr (inl j)) e = i ∙ sym j
    single a b (inl i) (inr (inl j)) e = absurd (fresh a i (e ∙ ap (λ (z : Request). z.provider) j))
    single a b (inr (inl i)) (inl j) e = absurd (fresh b j (sym e ∙ ap (λ (z : Request). z.provider) i))
    single a b (inr (inr z)) j e = absurd z
    single a b i (inr (inr z)) e = absurd z

    joined : (y : Provider) → Has y s.providers ⊎ Has y (x ∷ []) → ((a : Request) × Has a (s.requests ++ q ∷ []) × (a.provider ≡ y.provider) × (a.request ≡ y.provider.join) × (is_join a.proposal ≡ true)) ⊎ JoinPut rs y.provider v
    joined y (inr (inr z)) = absurd z
    joined y (inr (inl e)) =
        inl (q, append_has_right q s.requests (q ∷ []) (inl refl), same ∙ ap (λ (z : Provider). z.provider) (sym e), number ∙ ap (λ (z : Provider). z.provider.join) (sym e), joins)
    joined y (inl i) = asked_more s q y (h.joined y i)

    numbered : (y : Provider) → Has y s.providers ⊎ Has y (x ∷ []) → y.provider.join ≤ s.last_request + 1
    numbered y (inl i) = let l = h.numbered y i in omega arith
    numbered y (inr (inl e)) = let k : y.provider.join ≡ x.provider.join = ap (λ (z : Provider). z.provider.join) e in omega arith
    numbered y (inr (inr z)) = absurd z

    owner : (a b : Provider) → Has a s.providers ⊎ Has a (x ∷ []) → Has b s.providers ⊎ Has b (x ∷ []) → a.provider ≡ b.provider → a.client ≡ b.client
    owner a b (inl i) (inl j) e = h.owner a b i j e
    owner a b (inr (inl i)) (inr (inl j)) e = ap (λ (z : Provider). z.client) (i ∙ sym j)
    owner a b (inl i) (inr (inl j)) e = absurd (other a i (e ∙ ap (λ (z : Provider). z.provider) j))
    owner a b (inr (inl i)) (inl j) e = absurd (other b j (sym e ∙ ap (λ (z : Provider). z.provider) i))
    owner a b (inr (inr z)) j e = absurd z
    owner a b i (inr (inr z)) e = absurd z

-- a provider without an outstanding request asks
pub asked_turn : (v : ViewId) (rs : List Happened) (s : SessionState) (q : Request) → InTurn v rs s → outstanding s q.provider ≡ None → InTurn v rs (record s { last_request = s.last_request + 1; requests = s.requests ++ q ∷ [] })
unfolding outstanding
asked_turn v rs s q h free =
    record {
      single = λ a b i j e. single a b (has_append a s.requests (q ∷ []) i) (has_append b s.requests (q ∷ []) j) e;
      joined = λ y i. asked_more s q y (h.joined y i);
      numbered = λ y i. let l = h.numbered y i in omega arith;
      owner = h.owner;
    }
  where
    fresh : (a : Request) → Has a s.requests → a.provider ≡ q.provider → ⊥
    fresh a i e = find_none (is_asked_by q.provider) s.requests a (ap is_none free) i (ap (λ z. same_provider z q.provider) e ∙ provider_self q.provider)

    single : (a b : Request) → Has a s.requests ⊎ Has a (q ∷ []) → Has b s.requests ⊎ Has b (q ∷ []) → a.provider ≡ b.provider → a ≡ b
    single a b (inl i) (inl j) e = h.single a b i j e
    single a b (inr (inl i)) (inr (inl j)) e = i ∙ sym j
    single a b (inl i) (inr (inl j)) e = absurd (fresh a i (e ∙ ap (λ (z : Request). z.provider) j))
    single a b (inr (inl i)) (inl j) e = absurd (fresh b j (sym e ∙ ap (λ (z : Request). z.provider) i))
    single a b (inr (inr z)) j e = absurd z
    single a b i (inr (inr z)) e = absurd z
