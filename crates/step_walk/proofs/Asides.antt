-- What changes beside lists, tallies and leaders keeps what is kept by each such change: sending, noting, forgetting, waiting.
use Rattle.node_state.specs.HandOn.{notes, noted}
use Rattle.std.specs.Prelude.{◌-◌, drop, max, nat_le, if◌then◌else◌}
use Rattle.proposal_core.specs.GroupView.{GroupView}
use Rattle.proposal_core.specs.Lists.{len_in, state_in, forgotten}
use Rattle.std.proofs.Common.{◌≡◌, ◌++◌, ℕ, List, [], ◌∷◌, length, Option, Some, None, Bool, true, false, refl, sym, subst, inl, inr, append_assoc, append-nil}
use Rattle.std.specs.Prelude.{not, map, filter, fold, flat_map}
use Rattle.rsct_packet.specs.declared.ids.ProviderId.{ProviderId}
use Rattle.rsct_packet.specs.declared.ids.ProtoId.{ProtoId}
use Rattle.rsct_packet.specs.Providers.{among}
use Rattle.rsct_packet.specs.Search.{Has}
use Rattle.rsct_packet.proofs.HasLaws.{has_map, append_has_left, append_has_right, has_drop}
use Rattle.proposal_core.specs.declared.proposal.Cause.TheVariants.{Died, Gone}
use Rattle.proposal_core.specs.declared.entry.Entry.{Entry}
use Rattle.proposal_core.specs.declared.group_state.GroupState.{GroupState}
use Rattle.batch_rules.specs.Waiting.{WaitingView, add_failure}
use Rattle.subscribe_core.specs.Subs.{is_of_group, differs}
use Rattle.client_callbacks.specs.declared.ballot.Filled.{Filled}
use Rattle.client_callbacks.specs.Ballots.{BallotView}
use Rattle.session_state.specs.declared.casts.Cast.{Cast}
use Rattle.session_state.specs.declared.state.SessionState.{SessionState}
use Rattle.session_state.specs.HandOn.{hearers, casts_out}
use Rattle.session_state.specs.HandOn as session
use Rattle.node_state.specs.declared.group.Led.{Led}
use Rattle.node_state.specs.declared.happened.Happened.{Happened}
use Rattle.node_state.specs.declared.happened.Happened.TheVariants as happened
use Rattle.node_state.specs.declared.packet.Body.{Body}
use Rattle.node_state.specs.declared.state.Core.{Core}
use Rattle.node_state.specs.State.{with_led, led_of, state_of, len_of, list_forgotten, forget_below, frozen, leader_of, others, least_acked, recorded, recorded_all, with_sessions}
use Rattle.node_state.specs.Sending.{send_on, sent, send_all, send_if_known, network_to, vote_of}
use Rattle.node_state.specs.HandOn.{Answering, fills, heard, note_of, notes, noted, ballot_sent, cast_sent_of, casts_sent, hand_on}
use Rattle.node_state.specs.Leading.{put, put_and_hand, forget_least, with_waiting, wait_if, new_members_wait, appended}
use Rattle.step_walk.proofs.Waiting.{Few, Apart, MildWaits, fails_few, fails_apart}
use Rattle.rsct_packet.specs.Providers.{differ}
use Rattle.proposal_core.specs.Lists.{list_or_new}
use Rattle.std.proofs.Common.{◌∙◌}
use Rattle.step_walk.proofs.Changes.{put_sent, handing}
use Rattle.step_walk.proofs.Kept.{IsCast, CastIs, cast_is_on, casts_recorded}
use Rattle.step_walk.proofs.Evidence.{Saying, delivered, KeepsBeside}

-- what a subscriber is told
abbrev pub IsNote : Happened → Type 0
IsNote (happened.Noted n c v i told) = Unit {0}
IsNote _ = ⊥

pub forgotten_len : (m : ℕ) (l : Option GroupView) → len_in (list_forgotten m l) ≡ len_in l
unfolding forgotten
forgotten_len m None = refl
forgotten_len m (Some l) = by (nat_le m l.len)
  where
    by : (b : Bool) → (if b then record l { start = max l.start m; entries = drop (m - l.start) l.entries } else l).len ≡ l.len
    by true = refl
    by false = refl

pub forgotten_state : (m : ℕ) (l : Option GroupView) → state_in (list_forgotten m l) ≡ state_in l
unfolding forgotten
forgotten_state m None = refl
forgotten_state m (Some l) = by (nat_le m l.len)
  where
    by : (b : Bool) → (if b then record l { start = max l.start m; entries = drop (m - l.start) l.entries } else l).state ≡ l.state
    by true = refl
    by false = refl

forgotten_has : (m : ℕ) (l : Option GroupView) (e : Entry) → Has e (list_or_new (list_forgotten m l)).entries → Has e (list_or_new l).entries
unfolding forgotten
forgotten_has m None e i = i
forgotten_has m (Some l) e i = by (nat_le m l.len) i
  where
    by : (b : Bool) → Has e (if b then record l { start = max l.start m; entries = drop (m - l.start) l.entries } else l).entries → Has e l.entries
    by true j = has_drop (m - l.start) l.entries e j
    by false j = j

pub at_either : (P : Core → Type 0) {s t : Core} (b : Bool) → P s → P t → P (elim b as (λ _. Core) [ true ↦ s | false ↦ t ])
at_either P true p q = p
at_either P false p q = q

pub at_fold : (P : Core → Type 0) {A : Type 0} (f : Core → A → Core) → ((s : Core) (x : A) → P s → P (f s x)) → (xs : List A) {s : Core} → P s → P (fold f s xs)
at_fold P f one [] p = p
at_fold P f one (x ∷ xs) {s} p = at_fold P f one xs (one s x p)

-- what sends a ballot records nothing
cast_records_same : (s : Core) (g : List ℕ) (to : Option ℕ) (p : ProviderId) (c : Option (ProtoId × ℕ × BallotView)) → (cast_sent_of s g to p c).records ≡ s.records
unfolding cast_sent_of ballot_sent send_if_known sent send_on
cast_records_same s g to p None = refl
cast_records_same s g to p (Some c) = by to (c.2).filled
  where
    by : (o : Option ℕ) (b : Option Filled) → (ballot_sent s g o p c.0 c.1 b).records ≡ s.records
    by o None = refl
    by None (Some b) = refl
    by (Some n) (Some b) = refl

casts_records : (g : List ℕ) (to : Option ℕ) (cs : List Cast) (s : Core) → (fold (λ t (c : Cast). cast_sent_of t g to c.provider c.cast) s cs).records ≡ s.records
casts_records g to [] s = refl
casts_records g to (c ∷ cs) s = casts_records g to cs (cast_sent_of s g to c.provider c.cast) ∙ cast_records_same s g to c.provider c.cast

casts_sent_records : (s : Core) (g : List ℕ) (to : Option ℕ) (cs : List Cast) → (casts_sent s g to cs).records ≡ s.records
unfolding casts_sent
casts_sent_records s g to cs = by (frozen s)
  where
    by : (b : Bool) → (elim b as (λ _. Core) [ true ↦ s | false ↦ fold (λ t (c : Cast). cast_sent_of t g to c.provider c.cast) s cs ]).records ≡ s.records
    by true = refl
    by false = casts_records g to cs s

-- no record is lost
abbrev pub Longer : Core → Core → Type 0
Longer s t = (r : Happened) → Has r s.records → Has r t.records

noted_longer : (s : Core) (g : List ℕ) (i : ℕ) (before after : GroupState) → Longer s (noted s g i before after)
unfolding noted notes recorded_all
noted_longer s g i before after r j = by (differs before after)
  where
    by : (b : Bool) → Has r (elim b as (λ _. Core) [ true ↦ recorded_all s (map (note_of s g (Some i) after) (filter (is_of_group g) s.sessions.subs.live)) | false ↦ s ]).records
    by true = append_has_left r s.records (map (note_of s g (Some i) after) (filter (is_of_group g) s.sessions.subs.live)) j
    by false = j

pub handed_longer : (f : Answering) (s : Core) (to : Option ℕ) (g : List ℕ) (i : ℕ) (before after : GroupState) (e : Entry) → Longer s (hand_on f s to g i before after e)
unfolding hand_on with_sessions recorded_all
handed_longer f s to g i before after e r j =
    let bs : List (Option Filled) = fills f (length s.records) s.sessions e after (hearers s.sessions g before e) in
    let cs : List Cast = casts_out s.sessions g before after e bs in
    let rs : List Happened = flat_map (heard s g i e after) cs in
    let t : Core = noted (recorded_all s rs) g i before after in
    let u : SessionState = session.handed_on s.sessions g before after e bs in
    subst (Has r) (sym (casts_sent_records (with_sessions t u) g to cs)) (noted_longer (recorded_all s rs) g i before after r (append_has_left r s.records rs j))

module _ (P : Core → Type 0) (Ok : List ℕ → Type 0) (k : KeepsBeside P Ok) where
  -- ---- what is sent and recorded

  pub at_sent : {s : Core} (to : ℕ) (b : Body) → Saying s b → P s → P (sent s to b)
  unfolding sent
  at_sent {s} to b saying p = k.sends s (network_to s to) to b saying p

  pub at_sent_all : {s : Core} (ns : List ℕ) (b : Body) → ((t : Core) → Saying t b) → P s → P (send_all s ns b)
  unfolding send_all
  at_sent_all ns b saying p = at_fold P (λ t n. sent t n b) (λ t n q. at_sent n b (saying t) q) ns p

  pub at_known : {s : Core} (to : Option ℕ) (b : Body) → Saying s b → P s → P (send_if_known s to b)
  unfolding send_if_known
  at_known None b saying p = p
  at_known (Some n) b saying p = at_sent n b saying p

  note_kept : {s : Core} (r : Happened) → IsNote r → P s → P (recorded s r)
  note_kept {s} (happened.Noted n c v i t) a p = k.notes s n c v i t p
  note_kept _ a p = absurd a

  pub at_notes : (rs : List Happened) {s : Core} → ((r : Happened) → Has r rs → IsNote r) → P s → P (recorded_all s rs)
  unfolding recorded recorded_all
  at_notes [] {s} all p = subst (λ z. P (record s { records = z })) (sym (append-nil s.records)) p
  at_notes (r ∷ rs) {s} all p =
      subst (λ z. P (record s { records = z })) (append_assoc s.records (r ∷ []) rs) (at_notes rs (λ q h. all q (inr h)) (note_kept r (all r (inl refl)) p))

  -- ---- handing on

  at_ballot : {s : Core} (g : List ℕ) (to : Option ℕ) (p : ProviderId) (proto : ProtoId) (phase : ℕ) (b : Option Filled) → IsCast s.records p proto phase b → P s → P (ballot_sent s g to p proto phase b)
  unfolding ballot_sent vote_of
  at_ballot g to p proto phase None cast q = q
  at_ballot {s} g to p proto phase (Some b) cast q = at_known to _ (inl cast) q

  at_cast : {s : Core} (g : List ℕ) (to : Option ℕ) (p : ProviderId) (o : Option (ProtoId × ℕ × BallotView)) → CastIs s.records p o → P s → P (cast_sent_of s g to p o)
  unfolding cast_sent_of
  at_cast g to p None cast q = q
  at_cast g to p (Some c) cast q = at_ballot g to p c.0 c.1 (c.2).filled cast q

  at_each_cast : (g : List ℕ) (to : Option ℕ) (cs : List Cast) (s : Core) → ((c : Cast) → Has c cs → CastIs s.records c.provider c.cast) → P s → P (fold (λ t (c : Cast). cast_sent_of t g to c.provider c.cast) s cs)
  at_each_cast g to [] s casts p = p
  at_each_cast g to (c ∷ cs) s casts p =
      at_each_cast g to cs (cast_sent_of s g to c.provider c.cast) (λ x i. subst (λ rs. CastIs rs x.provider x.cast) (sym (cast_records_same s g to c.provider c.cast)) (casts x (inr i))) (at_cast g to c.provider c.cast (casts c (inl refl)) p)

  at_casts : (s : Core) (g : List ℕ) (to : Option ℕ) (cs : List Cast) → ((c : Cast) → Has c cs → CastIs s.records c.provider c.cast) → P s → P (casts_sent s g to cs)
  unfolding casts_sent
  at_casts s g to cs casts p = at_either P (frozen s) p (at_each_cast g to cs s casts p)

  -- what follows after an entry was heard
  pub at_rest_handed : (f : Answering) (c : Core) (to : Option ℕ) (g : List ℕ) (i : ℕ) (before after : GroupState) (e : Entry) → P (handing c g i before after e (fills f (length c.records) c.sessions e after (hearers c.sessions g before e))) → P (hand_on f c to g i before after e)
  unfolding hand_on noted notes note_of recorded_all with_sessions
  at_rest_handed f c to g i before after e p =
      let a = told (differs before after) in at_casts (with_sessions (noted (recorded_all c rs) g i before after) u) g to cs a.1 a.0
    where
      bs : List (Option Filled)
      bs = fills f (length c.records) c.sessions e after (hearers c.sessions g before e)

      cs : List Cast
      cs = casts_out c.sessions g before after e bs

      rs : List Happened
      rs = flat_map (heard c g i e after) cs

      u : SessionState
      u = session.handed_on c.sessions g before after e bs

      d0 : Core
      d0 = with_sessions (recorded_all c rs) u

      old : (x : Cast) → Has x cs → CastIs (c.records ++ rs) x.provider x.cast
      old x j = cast_is_on rs (c.records ++ rs) (λ r h. append_has_right r c.records rs h) x.provider x.cast (casts_recorded c g i e after cs x j)

      told : (b : Bool) → P (with_sessions (elim b as (λ _. Core) [ true ↦ notes (recorded_all c rs) g (Some i) after | false ↦ recorded_all c rs ]) u) × ((x : Cast) → Has x cs → CastIs (elim b as (λ _. Core) [ true ↦ notes (recorded_all c rs) g (Some i) after | false ↦ recorded_all c rs ]).records x.provider x.cast)
      told false = (p, old)
      told true =
          let live = filter (is_of_group g) c.sessions.subs.live in
          let ns : List Happened = map (note_of (recorded_all c rs) g (Some i) after) live in
          (at_notes ns {s = d0} (λ r j. (let q = has_map (note_of (recorded_all c rs) g (Some i) after) r live j in subst IsNote (sym q.2) tt)) p, λ x j. cast_is_on (c.records ++ rs) ((c.records ++ rs) ++ ns) (λ r h. append_has_left r (c.records ++ rs) ns h) x.provider x.cast (old x j))

  -- ---- a row changes

  pub at_led : {s : Core} (g : List ℕ) (ok : Ok g) (f : Led → Led) → ((l : Led) → (f l).decided ≡ l.decided) → ((l : Led) → Few l.waiting → Few (f l).waiting) → ((l : Led) → differ l.waiting.joins ≡ true → differ (f l).waiting.joins ≡ true) → ((l : Led) → (f l).tally ≡ l.tally) → ((l : Led) → (f l).given ≡ l.given) → P s → P (with_led s g f)
  unfolding with_led
  at_led {s} g ok f decided few apart tally given p =
      k.row s g (λ row. record row { led = f row.led }) ok (record { mild = record { name = λ x. refl; leader = λ x. refl; len = λ x. refl; state = λ x. refl; decided = λ x. decided x.led; few = λ x w. few x.led w }; entries = λ x e i. i; apart = λ x e. apart x.led e; tally = λ x. tally x.led; given = λ x. given x.led }) p

  pub at_forgets : {s : Core} (g : List ℕ) (ok : Ok g) (n : ℕ) → P s → P (forget_below s g n)
  unfolding forget_below
  at_forgets {s} g ok n p =
      k.row s g (λ row. record row { list = list_forgotten n row.list }) ok (record { mild = record { name = λ x. refl; leader = λ x. refl; len = λ x. forgotten_len n x.list; state = λ x. forgotten_state n x.list; decided = λ x. refl; few = λ x w. w }; entries = λ x e i. forgotten_has n x.list e i; apart = λ x e. e; tally = λ x. refl; given = λ x. refl }) p

  pub at_forgets_least : {s : Core} (g : List ℕ) (ok : Ok g) → P s → P (forget_least s g)
  unfolding forget_least
  at_forgets_least {s} g ok p = at_forgets g ok (least_acked s g) p

  pub at_waiting : {s : Core} (g : List ℕ) (ok : Ok g) (f : WaitingView → WaitingView) → MildWaits f → Apart f → P s → P (with_waiting s g f)
  unfolding with_waiting
  at_waiting g ok f m apart p = at_led g ok (λ l. record l { waiting = f l.waiting }) (λ l. refl) (λ l w. m l.waiting w) (λ l e. apart l.waiting e) (λ l. refl) (λ l. refl) p

  at_waits_if : {s : Core} (g : List ℕ) (ok : Ok g) (q : ProviderId) (a b : Bool) → P s → P (wait_if s g q a b)
  unfolding wait_if
  at_waits_if g ok q true b p = at_waiting g ok (add_failure q Died) (fails_few q Died) (fails_apart q Died) p
  at_waits_if g ok q false true p = at_waiting g ok (add_failure q Gone) (fails_few q Gone) (fails_apart q Gone) p
  at_waits_if g ok q false false p = p

  pub at_new_members : {s : Core} (g : List ℕ) (ok : Ok g) (before after : GroupState) → P s → P (new_members_wait s g before after)
  unfolding new_members_wait
  at_new_members {s} g ok before after p =
      at_fold P (λ t q. wait_if t g q (among after.failed q) (among (led_of s g).gone q)) (λ t q h. at_waits_if g ok q (among after.failed q) (among (led_of s g).gone q) h) (filter (λ q. not (among before.members q)) after.members) p

  -- what follows after the leader's entry was heard
  pub at_rest_appended : (f : Answering) (s : Core) (g : List ℕ) (ok : Ok g) (e : Entry) → ((bs : List (Option Filled)) → P (delivered s g e (others (put s g e)) (least_acked (put s g e) g) bs)) → P (appended f s g e)
  unfolding appended
  at_rest_appended f s g ok e p =
      let t : Core = put s g e in
      let u : Core = put_sent s g e (others t) (least_acked t g) in
      at_new_members g ok (state_of s g) (state_of t g) (at_forgets_least g ok (at_rest_handed f u (leader_of u g) g (len_of s g) (state_of s g) (state_of t g) e (p (fills f (length u.records) u.sessions e (state_of t g) (hearers u.sessions g (state_of s g) e)))))

  -- and after one that was put alone
  pub at_rest_put : (f : Answering) (s : Core) (to : Option ℕ) (g : List ℕ) (e : Entry) → ((bs : List (Option Filled)) → P (delivered s g e [] 0 bs)) → P (put_and_hand f s to g e)
  unfolding put_and_hand send_all
  at_rest_put f s to g e p =
      let t : Core = put s g e in
      at_rest_handed f t to g (len_of s g) (state_of s g) (state_of t g) e (p (fills f (length t.records) t.sessions e (state_of t g) (hearers t.sessions g (state_of s g) e)))
