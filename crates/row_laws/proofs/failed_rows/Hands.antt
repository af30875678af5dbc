-- An entry is handed on: what is recorded of that is neither put nor of a view.
use Rattle.std.proofs.Common.{◌≡◌, ◌⊎◌, ℕ, List, [], ◌∷◌, length, Option, Some, None, Bool, true, false, refl, sym, ap, ◌∙◌, subst, inl, inr, ⊎_elim, ◌++◌}
use Rattle.std.specs.Prelude.{not, map, filter, flat_map, reverse}
use Rattle.std.specs.Str.{bytes_eq}
use Rattle.std.proofs.lemmas.Bool.{and_parts}
use Rattle.rsct_packet.specs.declared.ids.ProviderId.{ProviderId}
use Rattle.rsct_packet.specs.declared.ids.ProtoId.{ProtoId}
use Rattle.rsct_packet.specs.declared.ids.ViewId.{ViewId}
use Rattle.rsct_packet.specs.Search.{Has}
use Rattle.rsct_packet.proofs.HasLaws.{has_append, has_filter, append_has_left, append_has_right}
use Rattle.proposal_core.specs.declared.entry.Entry.{Entry}
use Rattle.proposal_core.specs.declared.entry.Entry.TheVariants.{Once, Begin}
use Rattle.proposal_core.specs.Fold.{joins_of}
use Rattle.session_state.specs.declared.state.Provider.{Provider}
use Rattle.session_state.specs.State.{provider_of}
use Rattle.proposal_core.specs.declared.group_state.GroupState.{GroupState}
use Rattle.subscribe_core.specs.declared.subs.Subscription.{Subscription}
use Rattle.subscribe_core.specs.Subs.{is_of_group, differs}
use Rattle.client_callbacks.specs.declared.ballot.Filled.{Filled}
use Rattle.client_callbacks.specs.Ballots.{BallotView}
use Rattle.session_state.specs.declared.casts.Cast.{Cast}
use Rattle.session_state.specs.declared.state.SessionState.{SessionState}
use Rattle.session_state.specs.HandOn.{hears, hearers_in, brought_by, beginners, hearers, cast_of, casts_of, casts_out, is_present}
use Rattle.session_state.specs.HandOn as session
use Rattle.node_state.specs.declared.happened.Happened.{Happened}
use Rattle.node_state.specs.declared.happened.Happened.TheVariants as happened
use Rattle.node_state.specs.declared.state.Core.{Core}
use Rattle.node_state.specs.State.{recorded_all, with_sessions}
use Rattle.node_state.specs.HandOn.{Answering, fills, cast_record, cast_records, heard, note_of, notes, noted, hand_on}
use Rattle.run_safety.specs.Past.{History, records_of}
use Rattle.run_safety.specs.Stays.{is_join_of}
use Rattle.node_state.proofs.NameOrder.{text_same}
use Rattle.row_laws.proofs.hearing.Handing.{has_among, handed_kept}
use Rattle.row_laws.specs.failed_rows.Failures.{TakenOff}
use Rattle.row_laws.proofs.failed_rows.Living.{IsLive, handed_lives, handed_slim}
use Rattle.row_laws.proofs.failed_rows.Facts.{Quiet, quiet_unasked, quiet_asks, Lives, OwnFor, own_pushed, PutOff, off_heard, JoinedIn, Takers, takers_pushed}
use Rattle.row_laws.proofs.failed_rows.Origin.{Origin, SlimIf, slim_more, slim_on}
use Rattle.row_laws.proofs.failed_rows.At.{At, at_recorded_all, at_sessions}
use Rattle.row_laws.proofs.failed_rows.Sends.{at_casts_sent}

abbrev AllQuiet : List Happened → Type 0
AllQuiet rs = (r : Happened) → Has r rs → Quiet r

cast_quiet : (p : ProviderId) (proto : ProtoId) (phase : ℕ) (b : Option Filled) → AllQuiet (cast_record p proto phase b)
unfolding cast_record
cast_quiet p proto phase None r i = absurd i
cast_quiet p proto phase (Some b) r (inl e) = subst Quiet (sym e) tt
cast_quiet p proto phase (Some b) r (inr z) = absurd z

casts_quiet : (p : ProviderId) (c : Option (ProtoId × ℕ × BallotView)) → AllQuiet (cast_records p c)
unfolding cast_records
casts_quiet p None r i = absurd i
casts_quiet p (Some x) r i = cast_quiet p x.0 x.1 (x.2).filled r i

heard_quiet : (s : Core) (g : List ℕ) (i : ℕ) (e : Entry) (after : GroupState) (c : Cast) → AllQuiet (heard s g i e after c)
unfolding heard
heard_quiet s g i e after c r (inl q) = subst Quiet (sym q) tt
heard_quiet s g i e after c r (inr j) = casts_quiet c.provider c.cast r j

all_quiet : (s : Core) (g : List ℕ) (i : ℕ) (e : Entry) (after : GroupState) (cs : List Cast) → AllQuiet (flat_map (heard s g i e after) cs)
all_quiet s g i e after [] r j = absurd j
all_quiet s g i e after (c ∷ cs) r j =
    ⊎_elim (λ (k : Has r (heard s g i e after c)). heard_quiet s g i e after c r k) (λ (k : Has r (flat_map (heard s g i e after) cs)). all_quiet s g i e after cs r k) (has_append r (heard s g i e after c) (flat_map (heard s g i e after) cs) j)

-- each who hears casts, or casts nothing, and what it hears is recorded
cast_there : (e : Entry) (after : GroupState) (level : ℕ) (ps : List ProviderId) (bs : List (Option Filled)) (p : ProviderId) → Has p ps → (c : Cast) × Has c (casts_of e after level ps bs) × (c.provider ≡ p)
unfolding cast_of
cast_there e after level [] bs p i = absurd i
cast_there e after level (q ∷ ps) [] p (inl k) = (cast_of e after level q None, inl refl, sym k)
cast_there e after level (q ∷ ps) [] p (inr i) = let k = cast_there e after level ps [] p i in (k.0, inr k.1, k.2)
cast_there e after level (q ∷ ps) (b ∷ bs) p (inl k) = (cast_of e after level q b, inl refl, sym k)
cast_there e after level (q ∷ ps) (b ∷ bs) p (inr i) = let k = cast_there e after level ps bs p i in (k.0, inr k.1, k.2)

cast_heard : (s : Core) (g : List ℕ) (i : ℕ) (e : Entry) (after : GroupState) (cs : List Cast) (c : Cast) → Has c cs → Has (happened.Heard c.provider s.views.view g i e after.members after.value) (flat_map (heard s g i e after) cs)
unfolding heard
cast_heard s g i e after [] c j = absurd j
cast_heard s g i e after (d ∷ cs) c (inl q) =
    append_has_left (happened.Heard c.provider s.views.view g i e after.members after.value) (heard s g i e after d) (flat_map (heard s g i e after) cs) (inl (ap (λ (z : Cast). happened.Heard z.provider s.views.view g i e after.members after.value) q))
cast_heard s g i e after (d ∷ cs) c (inr j) =
    append_has_right (happened.Heard c.provider s.views.view g i e after.members after.value) (heard s g i e after d) (flat_map (heard s g i e after) cs) (cast_heard s g i e after cs c j)

heard_there : (s : Core) (g : List ℕ) (i : ℕ) (before : GroupState) (e : Entry) (after : GroupState) (p : ProviderId) (bs : List (Option Filled)) → Has p (hearers s.sessions g before e) → Has (happened.Heard p s.views.view g i e after.members after.value) (flat_map (heard s g i e after) (casts_out s.sessions g before after e bs))
unfolding casts_out
heard_there s g i before e after p bs hears =
    let k = cast_there e after s.sessions.level (hearers s.sessions g before e) bs p hears in
    subst (λ z. Has (happened.Heard z s.views.view g i e after.members after.value) (flat_map (heard s g i e after) (casts_out s.sessions g before after e bs))) k.2 (cast_heard s g i e after (casts_out s.sessions g before after e bs) k.0 k.1)

-- who begins is of the group, and the entry names it in a join
begins_in : (t : SessionState) (g : List ℕ) (e : Entry) (p : ProviderId) (x : Provider) → provider_of t p ≡ Some x → Has p (beginners t g e) → (x.group ≡ g) × (is_join_of p e ≡ true)
unfolding beginners hearers_in
begins_in t g e p x q h =
    let k = has_filter (λ z. hears g false (provider_of t z)) p (brought_by e) h in
    (text_same x.group g (and_parts (not x.takes_part) (bytes_eq x.group g) (ap (hears g false) (sym q) ∙ k.1)).1, named e k.0)
  where
    named : (e : Entry) → Has p (brought_by e) → is_join_of p e ≡ true
    named (Once y) j = has_among (joins_of y) p j
    named (Begin y) j = has_among (joins_of y) p j
    named _ j = absurd j

notes_quiet : (s : Core) (g : List ℕ) (place : Option ℕ) (st : GroupState) (us : List Subscription) → AllQuiet (map (note_of s g place st) us)
unfolding note_of
notes_quiet s g place st [] r j = absurd j
notes_quiet s g place st (u ∷ us) r (inl q) = subst Quiet (sym q) tt
notes_quiet s g place st (u ∷ us) r (inr j) = notes_quiet s g place st us r j

module _ (h : History) (said : ProviderId → Type 0) (origin : Origin) (P L M : Type 0) (T G Q : List ℕ → Type 0) where
  -- with sessions that come later, of which it is said already who is over
  record Pending (u : SessionState) (s : Core) : Type 0 where
    at : At h said origin P L M T G Q s
    next : OwnFor h said origin.born u s
    takers : Takers s.views.me u (reverse s.records ++ records_of h)
    slim : SlimIf origin.root u s.records

  pending_all : (u : SessionState) (rs : List Happened) (s : Core) → AllQuiet rs → Pending u s → Pending u (recorded_all s rs)
  unfolding recorded_all
  pending_all u rs s quiet k =
      record { at = at_recorded_all h said origin P L M T G Q rs s quiet k.at; next = own_pushed h said origin.born u s rs (λ r i p. quiet_unasked r (quiet r i) p) k.next; takers = takers_pushed h s.views.me u s.records rs k.takers; slim = slim_more origin.root u s.records rs (λ r i. quiet_asks r (quiet r i)) k.slim }

  pending_noted : (u : SessionState) (s : Core) (g : List ℕ) (i : ℕ) (before after : GroupState) → Pending u s → Pending u (noted s g i before after)
  unfolding noted notes
  pending_noted u s g i before after k = by (differs before after)
    where
      by : (b : Bool) → Pending u (elim b as (λ _. Core) [ true ↦ recorded_all s (map (note_of s g (Some i) after) (filter (is_of_group g) s.sessions.subs.live)) | false ↦ s ])
      by true = pending_all u (map (note_of s g (Some i) after) (filter (is_of_group g) s.sessions.subs.live)) s (notes_quiet s g (Some i) after (filter (is_of_group g) s.sessions.subs.live)) k
      by false = k

  pub at_handed : (f : Answering) (s : Core) (to : Option ℕ) (g : List ℕ) (i : ℕ) (before after : GroupState) (e : Entry) (v : ViewId) → s.views.view ≡ v → Has (happened.Put s.views.me v g i e) (reverse s.records ++ records_of h) → ((p : ProviderId) → p.node ≡ s.views.me → Has p (hearers s.sessions g before e) → is_present after p ≡ false → PutOff (reverse s.records ++ records_of h) p v g i e) → At h said origin P L M T G Q s → At h said origin P L M T G Q (hand_on f s to g i before after e)
  unfolding hand_on recorded_all
  at_handed f s to g i before after e v at put off a =
      let bs : List (Option Filled) = fills f (length s.records) s.sessions e after (hearers s.sessions g before e) in
      let cs : List Cast = casts_out s.sessions g before after e bs in
      let rs : List Happened = flat_map (heard s g i e after) cs in
      let t : Core = noted (recorded_all s rs) g i before after in
      let u : SessionState = session.handed_on s.sessions g before after e bs in
      let k : Pending u t = pending_noted u (recorded_all s rs) g i before after (record {
        at = at_recorded_all h said origin P L M T G Q rs s (all_quiet s g i e after cs) a;
        next = own bs;
        takers = takers_pushed h s.views.me u s.records rs (begins bs);
        slim = slim_more origin.root u s.records rs (λ r j. quiet_asks r (all_quiet s g i e after cs r j)) (slim_on origin.root s.sessions u s.records (handed_slim s.sessions g before after e bs) a.slim);
      }) in
      at_casts_sent h said origin P L M T G Q (with_sessions t u) g to cs (at_sessions h said origin P L M T G Q t u k.slim k.next k.takers k.at)
    where
      -- whoever takes part did before, or begins by the entry
      begins : (bs : List (Option Filled)) → Takers s.views.me (session.handed_on s.sessions g before after e bs) (reverse s.records ++ records_of h)
      begins bs p y q part = by (b.4 part)
        where
          b : (x : Provider) × (provider_of s.sessions p ≡ Some x) × (y.group ≡ x.group) × (x.takes_part ≡ true → y.takes_part ≡ true) × (y.takes_part ≡ true → (x.takes_part ≡ true) ⊎ Has p (beginners s.sessions g e))
          b = (handed_kept s.sessions g before after e bs).back p y q

          by : ((b.0).takes_part ≡ true) ⊎ Has p (beginners s.sessions g e) → JoinedIn s.views.me p y.group (reverse s.records ++ records_of h)
          by (inl was) = subst (λ k. JoinedIn s.views.me p k (reverse s.records ++ records_of h)) (sym b.2) (a.takers p b.0 b.1 was)
          by (inr new) =
              let k = begins_in s.sessions g e p b.0 b.1 new in
              subst (λ z. JoinedIn s.views.me p z (reverse s.records ++ records_of h)) (sym (b.2 ∙ k.0)) (v, i, e, put, k.1)

      heards : List (Option Filled) → List Happened
      heards bs = flat_map (heard s g i e after) (casts_out s.sessions g before after e bs)

      quiet : (bs : List (Option Filled)) → AllQuiet (heards bs)
      quiet bs = all_quiet s g i e after (casts_out s.sessions g before after e bs)

      own : (bs : List (Option Filled)) → OwnFor h said origin.born (session.handed_on s.sessions g before after e bs) (record s { records = s.records ++ heards bs })
      own bs p node inc asked =
          by (own_pushed h said origin.born s.sessions s (heards bs) (λ r j q. quiet_unasked r (quiet bs r j) q) a.own p node inc asked)
        where
          taken : Has p (hearers s.sessions g before e) → is_present after p ≡ false → TakenOff (reverse (s.records ++ heards bs) ++ records_of h) p
          taken hears gone =
              off_heard (records_of h) s.records (heards bs) p v g i e after.members after.value (quiet bs) (subst (λ z. Has (happened.Heard p z g i e after.members after.value) (heards bs)) at (heard_there s g i before e after p bs hears)) (off p node hears gone)

          live : IsLive (session.handed_on s.sessions g before after e bs) p ⊎ (Has p (hearers s.sessions g before e) × (is_present after p ≡ false)) → Lives said (session.handed_on s.sessions g before after e bs) (reverse (s.records ++ heards bs) ++ records_of h) p
          live (inl k) = inl k
          live (inr k) = inr (inr (inr (taken k.0 k.1)))

          by : Lives said s.sessions (reverse (s.records ++ heards bs) ++ records_of h) p → Lives said (session.handed_on s.sessions g before after e bs) (reverse (s.records ++ heards bs) ++ records_of h) p
          by (inl k) = live (handed_lives s.sessions g before after e bs p k)
          by (inr k) = inr k
