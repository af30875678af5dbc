-- Appends, starts and the entering of views keep all parts.
use Rattle.std.proofs.Common.{refl, Some, None, Option, ◌≤◌, ◌≡◌, ℕ, ◌+◌, ◌<◌, ◌⊎◌, List, [], ◌∷◌, ◌++◌, length, drop, Bool, true, false, sym, ap, ◌∙◌, subst, inl, inr, ⊎_elim, arith}
use Rattle.std.specs.Prelude.{not, if◌then◌else◌, slice_get}
use Rattle.rsct_packet.specs.declared.ids.ViewId.{ViewId}
use Rattle.rsct_packet.specs.declared.ids.Member.{Member}
use Rattle.rsct_packet.specs.declared.ids.ProviderId.{ProviderId}
use Rattle.proposal_core.specs.declared.entry.Entry.{Entry}
use Rattle.proposal_core.specs.declared.proposal.Proposal.{Proposal}
use Rattle.proposal_core.specs.Fold.{fits}
use Rattle.rsct_packet.specs.Search.{Has}
use Rattle.run_safety.specs.ViewOrder.{is_same, Lt}
use Rattle.run_safety.specs.Group.{member, Standing, Reply, members_of, Origin, Packet, Install, Append, Request, Refusal, Ack, Stable, Record, In, Put, Note, Based, Heard, Told, Line, Kept, Noted, kept, lines_from, puts_from}
use Rattle.run_safety.specs.GroupLists.{puts_of}
use Rattle.run_safety.specs.Bases.{Bases, state_of_list, side_state, BaseIs, leading, leader_of}
use Rattle.run_safety.specs.Requests.{carried, Meets}
use Rattle.run_safety.specs.Tallies.{IsTallied}
use Rattle.run_safety.specs.Moves.{Leads, Changes, Opening, Alone, Together, Born, Quiet, Collected, SetAt, MayLead, based, entered, grown, Due}
use Rattle.run_safety.specs.GroupLaws.{AskedAndUntold, AskedFirst}
use Rattle.run_safety.proofs.Order.{eq_true, eq_same, cases_view}
use Rattle.run_safety.proofs.Prefix.{IsPrefix, prefix_refl, prefix_get, prefix_next, caught_up, at_end}
use Rattle.run_safety.proofs.Tracks.{put_many, has_many}
use Rattle.run_safety.proofs.Appends.{Extends, extends_grows}
use Rattle.run_safety.proofs.Past.{reply_member, born_number}
use Rattle.std.specs.Prelude.{find}
use Rattle.rsct_packet.specs.Providers.{among}
use Rattle.rsct_packet.proofs.HasLaws.{has_get, has_drop}
use Rattle.run_safety.proofs.Moves.{Good, gave_front, move_lead, move_follow, move_start, move_enter, move_name}
use Rattle.run_safety.proofs.Founds.{move_found, found_unled, within, own_front}
use Rattle.run_safety.proofs.PastIn.{start_unled}
use Rattle.run_safety.proofs.Firsts.{Firsts, at_longer, firsts_other, firsts_name, firsts_lead, firsts_many}
use Rattle.run_safety.proofs.Lines.{kept_entered, has_entered, note_entered}
use Rattle.run_safety.proofs.OnceLaw.{OnceOk, asked_lines, well_put, logged_well, once_move}
use Rattle.run_safety.proofs.BasesLaw.{bases_move, bases_enter, bases_found, leads_member}
use Rattle.run_safety.proofs.HeardLaw.{heard_on}
use Rattle.run_safety.proofs.Whole.{Whole, kind, was_sent, once_still}
use Rattle.run_safety.proofs.StableLaw.{StableOk, stable_on, puts_more, puts_many}
use Rattle.run_safety.proofs.TallyLaw.{tally_extends, tally_based}

-- one entry more in the log of a view
unfoldable log_with : (ViewId → List Entry) → ViewId → Entry → ViewId → List Entry
log_with log v e u = if is_same u v then log u ++ e ∷ [] else log u

log_extends : (log : ViewId → List Entry) (v : ViewId) (e : Entry) → Extends log (log_with log v e) v e
unfolding log_with
log_extends log v e =
    record {
      here = ap (λ b. if b then log v ++ e ∷ [] else log v) (eq_same v);
      there = λ u ne. by u ne (is_same u v) refl;
    }
  where
    by : (u : ViewId) → (u ≡ v → ⊥) → (b : Bool) → is_same u v ≡ b → (if b then log u ++ e ∷ [] else log u) ≡ log u
    by u ne true q = absurd (ne (eq_true u v q))
    by u ne false q = refl

-- an entry of the longer log is old, or the new one
log_cases : (log log' : ViewId → List Entry) (v : ViewId) (e : Entry) → Extends log log' v e → (u : ViewId) (i : ℕ) (f : Entry) → slice_get (log' u) i ≡ Some f → (slice_get (log u) i ≡ Some f) ⊎ ((u ≡ v) × (i ≡ length (log v)) × (f ≡ e))
log_cases log log' v e ext u i f h = by (cases_view u v)
  where
    new : (u ≡ v) → slice_get (log v ++ e ∷ []) i ≡ Some f → (slice_get (log v) i ≡ Some f) ⊎ (i ≡ length (log v)) → (slice_get (log u) i ≡ Some f) ⊎ ((u ≡ v) × (i ≡ length (log v)) × (f ≡ e))
    new s g (inl a) = inl (subst (λ w. slice_get (log w) i ≡ Some f) (sym s) a)
    new s g (inr b) =
        let k : slice_get (log v ++ e ∷ []) (length (log v)) ≡ Some f = subst (λ k. slice_get (log v ++ e ∷ []) k ≡ Some f) b g in
        let l = at_end (log v) e [] in
        let same : f ≡ e = cc in
        inr (s, b, same)

    by : (u ≡ v) ⊎ (u ≡ v → ⊥) → (slice_get (log u) i ≡ Some f) ⊎ ((u ≡ v) × (i ≡ length (log v)) × (f ≡ e))
    by (inr ne) = inl (subst (λ l. slice_get l i ≡ Some f) (ext.there u ne) h)
    by (inl s) =
        let g : slice_get (log v ++ e ∷ []) i ≡ Some f = subst (λ l. slice_get l i ≡ Some f) (ap log' s ∙ ext.here) h in
        new s g (at_longer (log v) e i f g)

-- a base is noted after all else
asked_based : (n : ℕ) (v : ViewId) (b : Option Origin) (all : List Line) → AskedFirst all → AskedFirst (based n v b all)
asked_based n v None all h = h
asked_based n v (Some b) all h = h

-- no one leads the view in which a node starts
unled_start : (o : Opening) (nodes : ℕ → Standing) (ps : List Packet) (tr : List Record) (log : ViewId → List Entry) (leads : Leads) → Good o nodes ps tr log leads → (n : ℕ) (v : ViewId) (ms : List Member) → Born o n ((nodes n).inc + 1) v ms → ((o ≡ Alone) ⊎ (leads v ≡ None)) → leads v ≡ None
unled_start o nodes ps tr log leads good n v ms born (inr e) = e
unled_start Alone nodes ps tr log leads good n v ms born (inl e) =
    ap leads born.0 ∙ start_unled nodes ps tr log leads good.inv good.past n
unled_start (Together w all) nodes ps tr log leads good n v ms born (inl e) = absurd (cc)

module _ (o : Opening) (nodes : ℕ → Standing) (ps : List Packet) (all : List Line) (leads : Leads) (bases : Bases) (w : Whole o nodes ps all leads bases) where
  abbrev pub log : ViewId → List Entry
  log = w.log

  abbrev pub tr : List Record
  tr = kept all

  -- a put that is new
  old_note : (x : Note) (n : ℕ) (v : ViewId) (i : ℕ) (e : Entry) → Has (Noted x) (Kept (Put n v i e) ∷ all) → Has (Noted x) all
  old_note x n v i e (inl q) = absurd (cc)
  old_note x n v i e (inr h) = h

  old_in : (m j : ℕ) (u : ViewId) (ms : List Member) (n : ℕ) (v : ViewId) (i : ℕ) (e : Entry) → Has (In m j u ms) (Put n v i e ∷ tr) → Has (In m j u ms) tr
  old_in m j u ms n v i e (inl q) = absurd (cc)
  old_in m j u ms n v i e (inr h) = h

  -- a put of a node that is up, into the view that it is in
  news : (n : ℕ) (e : Entry) (log' : ViewId → List Entry) → 0 < (nodes n).inc → slice_get (log' (nodes n).view) (length (nodes n).list) ≡ Some e → (m k : ℕ) (f : Entry) (u : ViewId) → Has (Put m u k f) (Put n (nodes n).view (length (nodes n).list) e ∷ tr) → Has (Put m u k f) tr ⊎ ((u ≡ (nodes m).view) × (0 < (nodes m).inc) × (slice_get (log' u) k ≡ Some f))
  news n e log' up at m k f u (inr h) = inl h
  news n e log' up at m k f u (inl q) =
      let a : m ≡ n = cc in
      let b : u ≡ (nodes n).view = cc in
      let c : k ≡ length (nodes n).list = cc in
      let d : f ≡ e = cc in
      inr (
        b ∙ ap (λ z. (nodes z).view) (sym a),
        subst (λ z. 0 < (nodes z).inc) (sym a) up,
        subst (λ (z : ViewId × ℕ × Entry). slice_get (log' z.0) z.1 ≡ Some z.2) (λ z. (sym b z, sym c z, sym d z)) at,
      )

  pub whole_appends : (now : ℕ → Standing) (n : ℕ) (e : Entry) → 0 < (nodes n).inc → leads (nodes n).view ≡ Some (member n (nodes n).inc) → (nodes n).view ≡ (nodes n).promise → ((p : ProviderId) (r : ℕ) → Has (p, r) (carried e) → Due ps (nodes n).view (nodes n).list e p r) → IsTallied e → fits (state_of_list bases (nodes n).view (nodes n).list) e ≡ true → Changes nodes now n (grown (nodes n) e) → Whole o now (Append (nodes n).view (length (nodes n).list) e ∷ ps) (Kept (Put n (nodes n).view (length (nodes n).list) e) ∷ all) leads bases
  whole_appends now n e up led same due closes room c =
      record {
        log = log';
        good = move_lead o nodes ps tr log leads w.good now log' n e up led same c ext;
        firsts = subst (λ l. Firsts (Put n v (length l) e ∷ tr) log' leads) (sym all_of) (firsts_lead tr log log' leads n x.inc e v led ext w.firsts);
        of_base = w.of_base;
        of_none = w.of_none;
        based_ok = bases_move o nodes ps all log leads bases w.good w.based_ok ps' all' (λ u r h. inr h) (λ u ms ss h. inr h) (λ u ms ss h. was_sent (Install u ms ss) k ps (λ q. omega arith) h) (λ m u b h. inr h) (λ m u b h. old_note (Based m u b) n v (length x.list) e h) (λ m j u ms h. inl (old_in m j u ms n v (length x.list) e h));
        heard = heard_on all all' log log' bases bases (λ u. (extends_grows log log' v e ext).at u) (λ u i f h. refl) (λ p u i f ms value h. old_note (Heard p u i f ms value) n v (length x.list) e h) w.heard;
        once = once_move o nodes ps all log leads w.good w.once ps' all' log' (λ u p r y h. inr h) (λ u p r y h. was_sent (Request u p r y) k ps (λ q. omega arith) h) (λ u p r h. inr h) (λ y h. inr h) (λ r h. inr h) (λ p r u h. old_note (Told p r u) n v (length x.list) e h) (news n e log' up here) asked apart refused (well_put o nodes ps all log leads w.good w.once n e up (record { by = λ p r d. (due p r d).sent; unrefused = λ p r d. (due p r d).open_still }), w.once.order);
        stable = stable_on ps ps' tr (kept all') (λ u m j l h. was_sent (Ack u m j l) k ps (λ q. omega arith) h) (λ u l h. was_sent (Stable u l) k ps (λ q. omega arith) h) (λ r h. inr h) (λ m u. puts_more m u (Put n v (length x.list) e) tr) w.stable;
        tallied = tally_extends w.log log' bases v e ext (log_cases w.log log' v e ext) closes (subst (λ l. fits (state_of_list bases v l) e ≡ true) all_of room) w.tallied;
      }
    where
      x : Standing
      x = nodes n

      v : ViewId
      v = (nodes n).view

      k : Packet
      k = Append (nodes n).view (length (nodes n).list) e

      ps' : List Packet
      ps' = Append (nodes n).view (length (nodes n).list) e ∷ ps

      all' : List Line
      all' = Kept (Put n (nodes n).view (length (nodes n).list) e) ∷ all

      log' : ViewId → List Entry
      log' = log_with w.log (nodes n).view e

      ext : Extends w.log (log_with w.log (nodes n).view e) (nodes n).view e
      ext = log_extends w.log (nodes n).view e

      all_of : (nodes n).list ≡ w.log (nodes n).view
      all_of = (w.good.inv.node n).whole (nodes n).inc led

      here : slice_get (log_with w.log (nodes n).view e (nodes n).view) (length (nodes n).list) ≡ Some e
      here = ap (λ l. slice_get l (length (nodes n).list)) ext.here ∙ subst (λ l. slice_get (w.log (nodes n).view ++ e ∷ []) (length l) ≡ Some e) (sym all_of) (at_end (w.log (nodes n).view) e [])

      asked : (u : ViewId) (i : ℕ) (p : ProviderId) (r : ℕ) (f : Entry) → slice_get (log_with w.log (nodes n).view e u) i ≡ Some f → Has (p, r) (carried f) → (y : Proposal) × Has (Request u p r y) ps × Meets p y f
      asked u i p r f h d = by (log_cases w.log (log_with w.log (nodes n).view e) (nodes n).view e ext u i f h)
        where
          by : (slice_get (w.log u) i ≡ Some f) ⊎ ((u ≡ (nodes n).view) × (i ≡ length (w.log (nodes n).view)) × (f ≡ e)) → (y : Proposal) × Has (Request u p r y) ps × Meets p y f
          by (inl g) = w.once.asked u i p r f g d
          by (inr q) =
              let s = (due p r (subst (λ z. Has (p, r) (carried z)) q.2 d)).sent in
              subst (λ (z : ViewId × Entry). (y : Proposal) × Has (Request z.0 p r y) ps × Meets p y z.1) (λ z. (sym q.0 z, sym q.2 z)) s

      apart : (u : ViewId) (i l : ℕ) (p : ProviderId) (r : ℕ) (f g : Entry) → slice_get (log_with w.log (nodes n).view e u) i ≡ Some f → Has (p, r) (carried f) → slice_get (log_with w.log (nodes n).view e u) l ≡ Some g → Has (p, r) (carried g) → i ≡ l
      apart u i l p r f g h c' k' d' = by (log_cases w.log (log_with w.log (nodes n).view e) (nodes n).view e ext u i f h) (log_cases w.log (log_with w.log (nodes n).view e) (nodes n).view e ext u l g k')
        where
          never : (j : ℕ) (q : Entry) → u ≡ (nodes n).view → slice_get (w.log u) j ≡ Some q → Has (p, r) (carried q) → Has (p, r) (carried e) → ⊥
          never j q s m a b = (due p r b).unbegun j q (subst (λ z. slice_get z j ≡ Some q) (ap w.log s ∙ sym all_of) m) a

          by : (slice_get (w.log u) i ≡ Some f) ⊎ ((u ≡ (nodes n).view) × (i ≡ length (w.log (nodes n).view)) × (f ≡ e)) → (slice_get (w.log u) l ≡ Some g) ⊎ ((u ≡ (nodes n).view) × (l ≡ length (w.log (nodes n).view)) × (g ≡ e)) → i ≡ l
          by (inl a) (inl b) = w.once.apart u i l p r f g a c' b d'
          by (inr a) (inr b) = a.1 ∙ sym b.1
          by (inl a) (inr b) = absurd (never i f b.0 a c' (subst (λ z. Has (p, r) (carried z)) b.2 d'))
          by (inr a) (inl b) = absurd (never l g a.0 b d' (subst (λ z. Has (p, r) (carried z)) a.2 c'))

      refused : (u : ViewId) (i : ℕ) (p : ProviderId) (r : ℕ) (f : Entry) → Has (Refusal u p r) (Append (nodes n).view (length (nodes n).list) e ∷ ps) → slice_get (log_with w.log (nodes n).view e u) i ≡ Some f → Has (p, r) (carried f) → ⊥
      refused u i p r f q h d = by (was_sent (Refusal u p r) (Append (nodes n).view (length (nodes n).list) e) ps (λ q. omega arith) q) (log_cases w.log (log_with w.log (nodes n).view e) (nodes n).view e ext u i f h)
        where
          by : Has (Refusal u p r) ps → (slice_get (w.log u) i ≡ Some f) ⊎ ((u ≡ (nodes n).view) × (i ≡ length (w.log (nodes n).view)) × (f ≡ e)) → ⊥
          by s (inl a) = w.once.refused u i p r f s a d
          by s (inr a) =
              (due p r (subst (λ z. Has (p, r) (carried z)) a.2 d)).open_still (subst (λ z. Has (Refusal z p r) ps) a.0 s)

  pub whole_follows : (now : ℕ → Standing) (n : ℕ) (e : Entry) → 0 < (nodes n).inc → (nodes n).view ≡ (nodes n).promise → Has (Append (nodes n).view (length (nodes n).list) e) ps → Changes nodes now n (grown (nodes n) e) → Whole o now ps (Kept (Put n (nodes n).view (length (nodes n).list) e) ∷ all) leads bases
  whole_follows now n e up same sent c =
      record {
        log = log;
        good = move_follow o nodes ps tr log leads w.good now n e up same sent c;
        firsts = firsts_many n (nodes n).view (e ∷ []) (nodes n).list (length (nodes n).list) tr log leads refl (prefix_next (nodes n).list (log (nodes n).view) e (w.good.inv.node n).part here) w.firsts;
        of_base = w.of_base;
        of_none = w.of_none;
        based_ok = bases_move o nodes ps all log leads bases w.good w.based_ok ps all' (λ u r h. h) (λ u ms ss h. h) (λ u ms ss h. h) (λ m u b h. inr h) (λ m u b h. old_note (Based m u b) n (nodes n).view (length (nodes n).list) e h) (λ m j u ms h. inl (old_in m j u ms n (nodes n).view (length (nodes n).list) e h));
        heard = heard_on all all' log log bases bases (λ u. prefix_refl (log u)) (λ u i f h. refl) (λ p u i f ms value h. old_note (Heard p u i f ms value) n (nodes n).view (length (nodes n).list) e h) w.heard;
        once = once_still o nodes ps all leads bases w ps all' (λ u p r y h. h) (λ u p r y h. h) (λ u p r h. h) (λ u p r h. h) (λ y h. inr h) (λ r h. inr h) (λ p r u h. old_note (Told p r u) n (nodes n).view (length (nodes n).list) e h) (news n e log up here) (well_put o nodes ps all log leads w.good w.once n e up (logged_well o nodes ps all log leads w.good w.once n e (length (nodes n).list) here), w.once.order);
        stable = stable_on ps ps tr (kept all') (λ u m j l h. h) (λ u l h. h) (λ r h. inr h) (λ m u. puts_more m u (Put n (nodes n).view (length (nodes n).list) e) tr) w.stable;
        tallied = w.tallied;
      }
    where
      all' : List Line
      all' = Kept (Put n (nodes n).view (length (nodes n).list) e) ∷ all

      here : slice_get (w.log (nodes n).view) (length (nodes n).list) ≡ Some e
      here = w.good.inv.packet (Append (nodes n).view (length (nodes n).list) e) sent

  pub whole_starts : (now : ℕ → Standing) (n : ℕ) (v : ViewId) (ms : List Member) → Quiet tr → Born o n ((nodes n).inc + 1) v ms → ((o ≡ Alone) ⊎ (leads v ≡ None)) → Changes nodes now n (record { inc = (nodes n).inc + 1; view = v; promise = v; list = [] }) → Whole o now ps (Kept (In n ((nodes n).inc + 1) v ms) ∷ all) leads bases
  whole_starts now n v ms quiet born how c =
      record {
        log = log;
        good = move_start o nodes ps tr log leads w.good now n v ms quiet born (unled_start o nodes ps tr log leads w.good n v ms born how) c;
        firsts = firsts_other tr (In n j v ms ∷ tr) log leads (λ h. h) (λ r h. inr h) w.firsts;
        of_base = w.of_base;
        of_none = w.of_none;
        based_ok = bases_move o nodes ps all log leads bases w.good w.based_ok ps all' (λ u r h. h) (λ u ms ss h. h) (λ u ms ss h. h) (λ m u b h. inr h) (λ m u b h. old (Based m u b) h) (λ m i u ns h. new m i u ns h);
        heard = heard_on all all' log log bases bases (λ u. prefix_refl (log u)) (λ u i f h. refl) (λ p u i f ms value h. old (Heard p u i f ms value) h) w.heard;
        once = once_still o nodes ps all leads bases w ps all' (λ u p r y h. h) (λ u p r y h. h) (λ u p r h. h) (λ u p r h. h) (λ y h. inr h) (λ r h. inr h) (λ p r u h. old (Told p r u) h) (λ m k f u h. inl (put m k f u h)) w.once.order;
        stable = stable_on ps ps tr (kept all') (λ u m i l h. h) (λ u l h. h) (λ r h. inr h) (λ m u. omega arith) w.stable;
        tallied = w.tallied;
      }
    where
      j : ℕ
      j = (nodes n).inc + 1

      all' : List Line
      all' = Kept (In n ((nodes n).inc + 1) v ms) ∷ all

      old : (x : Note) → Has (Noted x) (Kept (In n ((nodes n).inc + 1) v ms) ∷ all) → Has (Noted x) all
      old x (inl q) = absurd (cc)
      old x (inr h) = h

      new : (m i : ℕ) (u : ViewId) (ns : List Member) → Has (In m i u ns) (In n ((nodes n).inc + 1) v ms ∷ tr) → Has (In m i u ns) tr ⊎ (u.number ≡ 1)
      new m i u ns (inr h) = inl h
      new m i u ns (inl q) =
          let a : u ≡ v = cc in
          inr (ap (λ (z : ViewId). z.number) a ∙ born_number o n ((nodes n).inc + 1) v ms born)

      put : (m k : ℕ) (f : Entry) (u : ViewId) → Has (Put m u k f) (In n ((nodes n).inc + 1) v ms ∷ tr) → Has (Put m u k f) tr
      put m k f u (inl q) = absurd (cc)
      put m k f u (inr h) = h

  -- what a node that enters a view changes of the other parts
  pub record EnteredParts (ps' : List Packet) (all' : List Line) : Type 0 where
    pub firsts : Firsts (kept all') w.log leads
    pub once : OnceOk ps' all' w.log
    pub stable : StableOk ps' (kept all')

  pub entered_parts : (ps' : List Packet) (n : ℕ) (v : ViewId) (ms : List Member) (ss : ViewId → List Entry) (b : Option Origin) → 0 < (nodes n).inc → IsPrefix (nodes n).list (ss (nodes n).view) → IsPrefix (ss (nodes n).view) (w.log (nodes n).view) → ((r : Record) → Has r (kept (entered n (nodes n) v ms ss b all)) → (m k : ℕ) (e : Entry) (u : ViewId) → r ≡ Put m u k e → slice_get (w.log u) k ≡ Some e) → ((q : Packet) → Has q ps → Has q ps') → ((q : Packet) → (kind q ≡ 1 → ⊥) → Has q ps' → Has q ps) → EnteredParts ps' (entered n (nodes n) v ms ss b all)
  entered_parts ps' n v ms ss b up front inside ok more less =
      record {
        firsts = subst (λ t. Firsts t w.log leads) (sym same) (firsts_other (puts_from n x.view (length x.list) es tr) t' w.log leads (λ h. h) (λ r h. inr h) (firsts_many n x.view es x.list (length x.list) tr w.log leads refl prefix w.firsts));
        once = once_still o nodes ps all leads bases w ps' all' (λ u p r y h. more (Request u p r y) h) (λ u p r y h. less (Request u p r y) (λ e. omega arith) h) (λ u p r h. more (Refusal u p r) h) (λ u p r h. less (Refusal u p r) (λ e. omega arith) h) (λ y h. has_entered y n x v ms ss b all h) (λ r h. subst (λ t. Has r t) (sym same) (inr (has_many r n x.view (length x.list) es tr h))) (λ p r u h. old_told p r u (note_entered (Told p r u) n x v ms ss b all h)) (λ m k e u h. new_put m k e u h (subst (λ t. Has (Put m u k e) t) same h)) (asked_based n v b (Kept (In n x.inc v ms) ∷ lines_from n x.view (length x.list) es all) (asked_lines n x.view (length x.list) es all (λ e h. well e h) w.once.order));
        stable = stable_on ps ps' tr (kept all') (λ u m j l h. less (Ack u m j l) (λ e. omega arith) h) (λ u l h. less (Stable u l) (λ e. omega arith) h) (λ r h. subst (λ t. Has r t) (sym same) (inr (has_many r n x.view (length x.list) es tr h))) longer w.stable;
      }
    where
      x : Standing
      x = nodes n

      es : List Entry
      es = drop (length (nodes n).list) (ss (nodes n).view)

      all' : List Line
      all' = entered n (nodes n) v ms ss b all

      t' : List Record
      t' = In n (nodes n).inc v ms ∷ puts_from n (nodes n).view (length (nodes n).list) (drop (length (nodes n).list) (ss (nodes n).view)) tr

      same : kept (entered n (nodes n) v ms ss b all) ≡ In n (nodes n).inc v ms ∷ puts_from n (nodes n).view (length (nodes n).list) (drop (length (nodes n).list) (ss (nodes n).view)) tr
      same = kept_entered n (nodes n) v ms ss b all

      prefix : IsPrefix ((nodes n).list ++ drop (length (nodes n).list) (ss (nodes n).view)) (w.log (nodes n).view)
      prefix = subst (λ l. IsPrefix l (w.log (nodes n).view)) (sym (caught_up (nodes n).list (ss (nodes n).view) front)) inside

      old_told : (p : ProviderId) (r : ℕ) (u : ViewId) → ((c : Origin) × (b ≡ Some c) × (Told p r u ≡ Based n v c)) ⊎ Has (Noted (Told p r u)) all → Has (Noted (Told p r u)) all
      old_told p r u (inl k) = let e = k.2 in absurd (cc)
      old_told p r u (inr h) = h

      new_put : (m k : ℕ) (e : Entry) (u : ViewId) → Has (Put m u k e) (kept (entered n (nodes n) v ms ss b all)) → Has (Put m u k e) (In n (nodes n).inc v ms ∷ puts_from n (nodes n).view (length (nodes n).list) (drop (length (nodes n).list) (ss (nodes n).view)) tr) → Has (Put m u k e) tr ⊎ ((u ≡ (nodes m).view) × (0 < (nodes m).inc) × (slice_get (w.log u) k ≡ Some e))
      new_put m k e u g (inl q) = absurd (cc)
      new_put m k e u g (inr h) = by (put_many m n u (nodes n).view k e (length (nodes n).list) (drop (length (nodes n).list) (ss (nodes n).view)) tr h)
        where
          by : Has (Put m u k e) tr ⊎ ((n ≡ m) × ((nodes n).view ≡ u)) → Has (Put m u k e) tr ⊎ ((u ≡ (nodes m).view) × (0 < (nodes m).inc) × (slice_get (w.log u) k ≡ Some e))
          by (inl i) = inl i
          by (inr q) = inr (
            sym q.1 ∙ ap (λ z. (nodes z).view) q.0,
            subst (λ z. 0 < (nodes z).inc) q.0 up,
            ok (Put m u k e) g m k e u refl,
          )

      well : (e : Entry) → Has e (drop (length (nodes n).list) (ss (nodes n).view)) → AskedAndUntold all n e
      well e h =
          let k = has_get e (ss (nodes n).view) (has_drop (length (nodes n).list) (ss (nodes n).view) e h) in
          well_put o nodes ps all w.log leads w.good w.once n e up (logged_well o nodes ps all w.log leads w.good w.once n e k.0 (prefix_get (ss (nodes n).view) (w.log (nodes n).view) inside k.0 e k.2))

      longer : (m : ℕ) (u : ViewId) → length (puts_of m u tr) ≤ length (puts_of m u (kept (entered n (nodes n) v ms ss b all)))
      longer m u = subst (λ t. length (puts_of m u tr) ≤ length (puts_of m u t)) (sym same) (puts_many m u n (nodes n).view (length (nodes n).list) (drop (length (nodes n).list) (ss (nodes n).view)) tr)

  pub whole_enters : (now : ℕ → Standing) (n : ℕ) (v : ViewId) (ms : List Member) (ss : ViewId → List Entry) → Quiet tr → 0 < (nodes n).inc → (nodes n).promise ≡ v → Lt (nodes n).view v → Has (member n (nodes n).inc) ms → Has (Install v ms ss) ps → Changes nodes now n (record (nodes n) { view = v; promise = v; list = [] }) → Whole o now ps (entered n (nodes n) v ms ss (bases v) all) leads bases
  whole_enters now n v ms ss quiet up at lt among sent c =
      record {
        log = log;
        good = good;
        firsts = parts.firsts;
        of_base = w.of_base;
        of_none = w.of_none;
        based_ok = bases_enter o nodes ps all log leads bases w.good w.based_ok n (nodes n) v ms ss;
        heard = heard_on all all' log log bases bases (λ u. prefix_refl (log u)) (λ u i f h. refl) (λ p u i f ns value h. old_heard p u i f ns value (note_entered (Heard p u i f ns value) n (nodes n) v ms ss (bases v) all h)) w.heard;
        once = parts.once;
        stable = parts.stable;
        tallied = w.tallied;
      }
    where
      all' : List Line
      all' = entered n (nodes n) v ms ss (bases v) all

      good : Good o now ps (kept (entered n (nodes n) v ms ss (bases v) all)) w.log leads
      good = subst (λ t. Good o now ps t w.log leads) (sym (kept_entered n (nodes n) v ms ss (bases v) all)) (move_enter o nodes ps tr w.log leads w.good now n v ms ss quiet up at lt among sent c)

      front : IsPrefix (nodes n).list (ss (nodes n).view)
      front = gave_front (nodes n) v ss lt ((w.good.inv.packet (Install v ms ss) sent).gave n (nodes n).inc among)

      parts : EnteredParts ps (entered n (nodes n) v ms ss (bases v) all)
      parts = entered_parts ps n v ms ss (bases v) up front ((w.good.inv.packet (Install v ms ss) sent).sources (nodes n).view) (λ r h m k e u q. good.inv.records (Put m u k e) (subst (λ z. Has z (kept all')) q h)) (λ q h. h) (λ q ne h. h)

      old_heard : (p : ProviderId) (u : ViewId) (i : ℕ) (f : Entry) (ns : List ProviderId) (value : List ℕ) → ((d : Origin) × (bases v ≡ Some d) × (Heard p u i f ns value ≡ Based n v d)) ⊎ Has (Noted (Heard p u i f ns value)) all → Has (Noted (Heard p u i f ns value)) all
      old_heard p u i f ns value (inl k) = let e = k.2 in absurd (cc)
      old_heard p u i f ns value (inr h) = h

  pub whole_founds : (now : ℕ → Standing) (leads' : Leads) (bases' : Bases) (n : ℕ) (rs : List Reply) (ss : ViewId → List Entry) (b : Option Origin) → Quiet tr → Collected ps n (nodes n) rs ss → BaseIs rs ss (λ u. side_state bases ss u) b → SetAt bases bases' (nodes n).promise b → SetAt leads leads' (nodes n).promise (leader_of (nodes n).promise b) → Changes nodes now n (record (nodes n) { view = (nodes n).promise; list = [] }) → Whole o now (Install (nodes n).promise (members_of rs) ss ∷ ps) (entered n (nodes n) (nodes n).promise (members_of rs) ss b all) leads' bases'
  whole_founds now leads' bases' n rs ss b quiet ok base set_base set_lead c =
      record {
        log = log;
        good = named b base set_lead;
        firsts = firsts_name (kept all') log leads leads' on parts.firsts;
        of_base = λ u d e. of_base u d e (cases_view u v);
        of_none = λ u m i e q. of_none u m i e q (cases_view u v);
        based_ok = bases_found o nodes ps all log leads bases w.good w.based_ok bases' n x rs ss b refl ok base set_base;
        heard = heard_on all all' log log bases bases' (λ u. prefix_refl (log u)) same_base (λ p u i f ns value h. old_heard p u i f ns value (note_entered (Heard p u i f ns value) n x v ms ss b all h)) w.heard;
        once = parts.once;
        stable = parts.stable;
        tallied = tally_based log bases bases' same_base w.tallied;
      }
    where
      x : Standing
      x = nodes n

      v : ViewId
      v = (nodes n).promise

      ms : List Member
      ms = members_of rs

      more : List Packet
      more = Install (nodes n).promise (members_of rs) ss ∷ ps

      all' : List Line
      all' = entered n (nodes n) (nodes n).promise (members_of rs) ss b all

      unled : leads (nodes n).promise ≡ None
      unled = found_unled o nodes ps tr w.log leads n (nodes n) rs ss refl w.good ok

      good : Good o now more (kept all') w.log leads
      good = subst (λ t. Good o now more t w.log leads) (sym (kept_entered n (nodes n) (nodes n).promise (members_of rs) ss b all)) (move_found o nodes now ps tr w.log leads n (nodes n) rs ss refl w.good quiet ok c)

      -- the coordinator is a member
      own : Has (member (nodes n).promise.coord (nodes n).promise.inc) (members_of rs)
      own =
          let k = ok.own in
          let i = ok.only k.0 k.1 k.2 in
          subst (λ m. Has m (members_of rs)) (λ z. member ((k.2 ∙ sym ok.coord) z) ((i ∙ sym ok.inc) z)) (reply_member k.0 rs k.1)

      on : (u : ViewId) (l : Member) → leads u ≡ Some l → leads' u ≡ Some l
      on u l e = set_lead.there u (λ s. absurd (let f : None ≡ Some l = sym unled ∙ ap leads (sym s) ∙ e in cc)) ∙ e

      -- the base names the leader
      named : (d : Option Origin) → BaseIs rs ss (λ u. side_state bases ss u) d → SetAt leads leads' (nodes n).promise (leader_of (nodes n).promise d) → Good o now more (kept all') w.log leads'
      named None h set = subst (Good o now more (kept all') w.log) (λ z u. same u z) good
        where
          same : (u : ViewId) → leads u ≡ leads' u
          same u = ⊎_elim (λ (s : u ≡ (nodes n).promise). subst (λ k. leads k ≡ leads' k) (sym s) (unled ∙ sym set.here)) (λ (ne : u ≡ (nodes n).promise → ⊥). sym (set.there u ne)) (cases_view u (nodes n).promise)
      named (Some d) h set =
          let l : Member = leading (nodes n).promise (find (λ p. not (among d.state.failed p)) d.state.members) in
          move_name o now more (kept all') w.log leads good leads' (nodes n).promise l.node l.inc unled set.here set.there (inr (members_of rs, ss, inl refl, leads_member rs ss (λ u. side_state bases ss u) (nodes n).promise d h own))

      parts : EnteredParts more all'
      parts = entered_parts more n (nodes n).promise (members_of rs) ss b ok.up (own_front ps tr n (nodes n) rs ss nodes w.log leads refl w.good.inv ok) (within ps tr n (nodes n) rs ss nodes w.log leads refl w.good.inv ok (nodes n).view) (λ r h m k e u q. good.inv.records (Put m u k e) (subst (λ z. Has z (kept all')) q h)) (λ q h. inr h) (λ q ne h. was_sent q (Install (nodes n).promise (members_of rs) ss) ps ne h)

      of_base : (u : ViewId) (d : Origin) → bases' u ≡ Some d → (u ≡ (nodes n).promise) ⊎ (u ≡ (nodes n).promise → ⊥) → leads' u ≡ leader_of u (Some d)
      of_base u d e (inr ne) = set_lead.there u ne ∙ w.of_base u d (sym (set_base.there u ne) ∙ e)
      of_base u d e (inl s) =
          let f : b ≡ Some d = sym set_base.here ∙ ap bases' (sym s) ∙ e in
          ap leads' s ∙ set_lead.here ∙ ap (leader_of (nodes n).promise) f ∙ ap (λ k. leader_of k (Some d)) (sym s)

      of_none : (u : ViewId) (m i : ℕ) → bases' u ≡ None → leads' u ≡ Some (member m i) → (u ≡ (nodes n).promise) ⊎ (u ≡ (nodes n).promise → ⊥) → MayLead o u m
      of_none u m i e q (inr ne) = w.of_none u m i (sym (set_base.there u ne) ∙ e) (sym (set_lead.there u ne) ∙ q)
      of_none u m i e q (inl s) =
          let f : b ≡ None = sym set_base.here ∙ ap bases' (sym s) ∙ e in
          let g : None ≡ Some (member m i) = sym (ap leads' s ∙ set_lead.here ∙ ap (leader_of (nodes n).promise) f) ∙ q in
          absurd (cc)

      same_base : (u : ViewId) (i : ℕ) (f : Entry) → slice_get (w.log u) i ≡ Some f → bases u ≡ bases' u
      same_base u i f h = ⊎_elim (λ (s : u ≡ (nodes n).promise). absurd (let z : w.log u ≡ [] = ap w.log s ∙ w.good.inv.none (nodes n).promise unled in let h' : slice_get [] i ≡ Some f = subst (λ l. slice_get l i ≡ Some f) z h in cc)) (λ (ne : u ≡ (nodes n).promise → ⊥). sym (set_base.there u ne)) (cases_view u (nodes n).promise)

      old_heard : (p : ProviderId) (u : ViewId) (i : ℕ) (f : Entry) (ns : List ProviderId) (value : List ℕ) → ((d : Origin) × (b ≡ Some d) × (Heard p u i f ns value ≡ Based n (nodes n).promise d)) ⊎ Has (Noted (Heard p u i f ns value)) all → Has (Noted (Heard p u i f ns value)) all
      old_heard p u i f ns value (inl k) = let e = k.2 in absurd (cc)
      old_heard p u i f ns value (inr h) = h
