-- What a node does in a step, change by change.
use Rattle.std.proofs.Common.{◌≡◌, ◌⊎◌, ℕ, List, [], ◌∷◌, length, Option, Some, None, Bool, true, false, refl, sym, ap, ◌∙◌, subst, inl, inr, ⊎_elim, append_assoc}
use Rattle.std.specs.Prelude.{map, filter, fold, flat_map}
use Rattle.std.proofs.lemmas.List.{append-nil}
use Rattle.rsct_packet.specs.declared.ids.ProviderId.{ProviderId}
use Rattle.rsct_packet.specs.declared.ids.ProtoId.{ProtoId}
use Rattle.rsct_packet.specs.Search.{Has}
use Rattle.rsct_packet.proofs.HasLaws.{has_map, has_append}
use Rattle.proposal_core.specs.declared.entry.Entry.{Entry}
use Rattle.proposal_core.specs.declared.group_state.GroupState.{GroupState}
use Rattle.proposal_core.specs.Lists.{len_in, state_in, list_or_new, with_entry}
use Rattle.subscribe_core.specs.Subs.{is_of_group, differs}
use Rattle.client_callbacks.specs.declared.ballot.Filled.{Filled}
use Rattle.client_callbacks.specs.Ballots.{BallotView}
use Rattle.session_state.specs.declared.casts.Cast.{Cast}
use Rattle.session_state.specs.declared.state.SessionState.{SessionState}
use Rattle.session_state.specs.HandOn.{hearers, casts_out}
use Rattle.session_state.specs.HandOn as session
use Rattle.node_state.specs.declared.group.GroupRow.{GroupRow}
use Rattle.node_state.specs.declared.group.Led.{Led}
use Rattle.node_state.specs.declared.happened.Happened.{Happened}
use Rattle.node_state.specs.declared.happened.Happened.TheVariants as happened
use Rattle.node_state.specs.declared.packet.Body.{Body}
use Rattle.node_state.specs.declared.state.Core.{Core}
use Rattle.node_state.specs.State.{InNameOrder, row_of, with_row, with_led, list_of, state_of, len_of, frozen, recorded, recorded_all, with_sessions}
use Rattle.node_state.specs.Sending.{send_on, sent, send_all, send_if_known}
use Rattle.node_state.specs.HandOn.{Answering, fills, cast_record, cast_records, heard, note_of, notes, noted, ballot_sent, cast_sent_of, casts_sent, hand_on}
use Rattle.node_state.specs.Leading.{put, put_and_hand}
use Rattle.row_laws.specs.hearing.Changes.{Same, Aside, Inner, Unentered, handing, Does, Stays, Then, Records, Hands}
use Rattle.node_state.proofs.NameOrder.{KeepsName, cases_text, row_here, row_there, rows_ordered}

pub inner_aside : (r : Happened) → Inner r → Aside r
inner_aside (happened.Ring n k i ms m) a = tt
inner_aside (happened.Asked p r g x) a = tt
inner_aside (happened.Told p r why) a = tt
inner_aside (happened.Noted n c v i told) a = tt
inner_aside (happened.Refused n c fault) a = tt
inner_aside (happened.Shown n line) a = tt
inner_aside _ a = absurd a

-- ---- no view is entered

pub inner_unentered : (r : Happened) → Inner r → Unentered r
inner_unentered (happened.Up n j) a = absurd a
inner_unentered (happened.Down n) a = absurd a
inner_unentered (happened.In n v ms) a = absurd a
inner_unentered (happened.Base n v g u len s) a = absurd a
inner_unentered (happened.Put n v g i e) a = absurd a
inner_unentered (happened.Heard p v g i e ms value) a = absurd a
inner_unentered _ a = tt

abbrev pub Calm : Core → Core → Type 0
Calm c d = (r : Happened) → Has r d.records → Has r c.records ⊎ Unentered r

pub calm_same : (c d : Core) → d.records ≡ c.records → Calm c d
calm_same c d e r h = inl (subst (Has r) e h)

pub calm_then : (a b c : Core) → Calm a b → Calm b c → Calm a c
calm_then a b c p q r h = ⊎_elim (λ (i : Has r b.records). p r i) (λ (u : Unentered r). inr u) (q r h)

pub calm_all : (rs : List Happened) (c : Core) → ((r : Happened) → Has r rs → Unentered r) → Calm c (recorded_all c rs)
unfolding recorded_all
calm_all rs c aside r h = ⊎_elim (λ (i : Has r c.records). inl i) (λ (i : Has r rs). inr (aside r i)) (has_append r c.records rs h)

pub heards_calm : (c : Core) (h : List ℕ) (i : ℕ) (e : Entry) (after : GroupState) (cs : List Cast) (r : Happened) → Has r (flat_map (heard c h i e after) cs) → Unentered r
unfolding heard cast_records cast_record
heards_calm c h i e after [] r k = absurd k
heards_calm c h i e after (x ∷ cs) r k = by (has_append r (heard c h i e after x) (flat_map (heard c h i e after) cs) k) (heards_calm c h i e after cs r)
  where
    filled : (y : ProtoId × ℕ × BallotView) (b : Option Filled) → Has r (cast_record x.provider y.0 y.1 b) → Unentered r
    filled y None j = absurd j
    filled y (Some b) (inl q) = subst Unentered (sym q) tt
    filled y (Some b) (inr z) = absurd z

    casts : (o : Option (ProtoId × ℕ × BallotView)) → Has r (cast_records x.provider o) → Unentered r
    casts None j = absurd j
    casts (Some y) j = filled y (y.2).filled j

    by : Has r (heard c h i e after x) ⊎ Has r (flat_map (heard c h i e after) cs) → (Has r (flat_map (heard c h i e after) cs) → Unentered r) → Unentered r
    by (inl (inl q)) rest = subst Unentered (sym q) tt
    by (inl (inr j)) rest = casts x.cast j
    by (inr j) rest = rest j

pub calm_handing : (s c : Core) (h : List ℕ) (e : Entry) (bs : List (Option Filled)) → Same (put s h e) c → Calm s (handing c h (len_of s h) (state_of s h) (state_of (put s h e) h) e bs)
unfolding put recorded recorded_all with_sessions with_row
calm_handing s c h e bs same r k =
    ⊎_elim (λ (i : Has r c.records). ⊎_elim (λ (j : Has r s.records). inl j) (λ (j : Has r (happened.Put s.views.me s.views.view h (len_of s h) e ∷ [])). inr (one j)) (has_append r s.records (happened.Put s.views.me s.views.view h (len_of s h) e ∷ []) (subst (Has r) same.records i))) (λ (i : Has r (flat_map (heard c h (len_of s h) e (state_of (put s h e) h)) (casts_out c.sessions h (state_of s h) (state_of (put s h e) h) e bs))). inr (heards_calm c h (len_of s h) e (state_of (put s h e) h) (casts_out c.sessions h (state_of s h) (state_of (put s h e) h) e bs) r i)) (has_append r c.records (flat_map (heard c h (len_of s h) e (state_of (put s h e) h)) (casts_out c.sessions h (state_of s h) (state_of (put s h e) h) e bs)) k)
  where
    one : Has r (happened.Put s.views.me s.views.view h (len_of s h) e ∷ []) → Unentered r
    one (inl q) = subst Unentered (sym q) tt
    one (inr z) = absurd z

-- the views stay too
pub record Keeps (c d : Core) : Type 0 where
  pub order : InNameOrder d.groups
  pub views : d.views ≡ c.views
  pub does : Does c d
  pub calm : Calm c d

abbrev pub Onward : Core → Core → Type 0
Onward c d = InNameOrder c.groups → Keeps c d

pub same_self : (c : Core) → Same c c
same_self c = record { me = refl; inc = refl; view = refl; sessions = refl; records = refl; lens = λ h. refl; states = λ h. refl }

pub onward_same : (c : Core) → Onward c c
onward_same c o = record { order = o; views = refl; does = Stays c c (same_self c); calm = calm_same c c refl }

pub onward_then : (a b c : Core) → Onward a b → Onward b c → Onward a c
onward_then a b c p q o =
    let x = p o in
    let y = q x.order in record { order = y.order; views = y.views ∙ x.views; does = Then a b c x.does y.does; calm = calm_then a b c x.calm y.calm }

-- ---- what is sent

-- nothing but what is sent changes
pub record Sends (c d : Core) : Type 0 where
  pub groups : d.groups ≡ c.groups
  pub views : d.views ≡ c.views
  pub sessions : d.sessions ≡ c.sessions
  pub records : d.records ≡ c.records

pub sends_nothing : (c : Core) → Sends c c
sends_nothing c = record { groups = refl; views = refl; sessions = refl; records = refl }

pub sends_then : (a b c : Core) → Sends a b → Sends b c → Sends a c
sends_then a b c p q = record { groups = q.groups ∙ p.groups; views = q.views ∙ p.views; sessions = q.sessions ∙ p.sessions; records = q.records ∙ p.records }

pub sends_fold : {A : Type 0} (f : Core → A → Core) → ((c : Core) (x : A) → Sends c (f c x)) → (xs : List A) (c : Core) → Sends c (fold f c xs)
sends_fold f one [] c = sends_nothing c
sends_fold f one (x ∷ xs) c = sends_then c (f c x) (fold f (f c x) xs) (one c x) (sends_fold f one xs (f c x))

pub same_sends : (c d : Core) → Sends c d → Same c d
unfolding len_of state_of list_of row_of
same_sends c d k =
    record {
      me = ap (λ z. z.me) k.views;
      inc = ap (λ z. z.inc) k.views;
      view = ap (λ z. z.view) k.views;
      sessions = k.sessions;
      records = k.records;
      lens = λ h. ap (λ rows. len_of (record c { groups = rows }) h) k.groups;
      states = λ h. ap (λ rows. state_of (record c { groups = rows }) h) k.groups;
    }

pub onward_sends : (c d : Core) → Sends c d → Onward c d
onward_sends c d k o = record { order = subst InNameOrder (sym k.groups) o; views = k.views; does = Stays c d (same_sends c d k); calm = calm_same c d k.records }

pub sends_on : (c : Core) (network to : ℕ) (b : Body) → Sends c (send_on c network to b)
unfolding send_on
sends_on c network to b = record { groups = refl; views = refl; sessions = refl; records = refl }

pub sends_one : (c : Core) (to : ℕ) (b : Body) → Sends c (sent c to b)
unfolding sent
sends_one c to b = sends_on c _ to b

pub sends_all : (c : Core) (ns : List ℕ) (b : Body) → Sends c (send_all c ns b)
unfolding send_all
sends_all c ns b = sends_fold (λ t n. sent t n b) (λ t n. sends_one t n b) ns c

pub sends_known : (c : Core) (to : Option ℕ) (b : Body) → Sends c (send_if_known c to b)
unfolding send_if_known
sends_known c None b = sends_nothing c
sends_known c (Some n) b = sends_one c n b

sends_cast : (c : Core) (k : List ℕ) (to : Option ℕ) (x : Cast) → Sends c (cast_sent_of c k to x.provider x.cast)
unfolding cast_sent_of ballot_sent
sends_cast c k to x = by x.cast
  where
    ballot : (p : ProviderId) (y : ProtoId × ℕ × BallotView) (b : Option Filled) → Sends c (ballot_sent c k to p y.0 y.1 b)
    ballot p y None = sends_nothing c
    ballot p y (Some b) = sends_known c to _

    by : (o : Option (ProtoId × ℕ × BallotView)) → Sends c (cast_sent_of c k to x.provider o)
    by None = sends_nothing c
    by (Some y) = ballot x.provider y (y.2).filled

sends_casts : (c : Core) (k : List ℕ) (to : Option ℕ) (cs : List Cast) → Sends c (casts_sent c k to cs)
unfolding casts_sent
sends_casts c k to cs = by (frozen c)
  where
    by : (b : Bool) → Sends c (elim b as (λ _. Core) [ true ↦ c | false ↦ fold (λ t x. cast_sent_of t k to x.provider x.cast) c cs ])
    by true = sends_nothing c
    by false = sends_fold (λ t (x : Cast). cast_sent_of t k to x.provider x.cast) (λ t x. sends_cast t k to x) cs c

-- ---- rows

pub onward_row : (c : Core) (h : List ℕ) (f : GroupRow → GroupRow) → KeepsName f → ((row : GroupRow) → len_in (f row).list ≡ len_in row.list) → ((row : GroupRow) → state_in (f row).list ≡ state_in row.list) → Onward c (with_row c h f)
unfolding len_of state_of list_of with_row
onward_row c h f keeps lens states o =
    record { order = rows_ordered h f keeps c o; views = refl; does = Stays c (with_row c h f) (record { me = refl; inc = refl; view = refl; sessions = refl; records = refl; lens = λ k. by (λ (row : GroupRow). len_in row.list) lens k (cases_text h k); states = λ k. by (λ (row : GroupRow). state_in row.list) states k (cases_text h k) }); calm = calm_same c (with_row c h f) refl }
  where
    by : {A : Type 0} (F : GroupRow → A) → ((row : GroupRow) → F (f row) ≡ F row) → (k : List ℕ) → (h ≡ k) ⊎ (h ≡ k → ⊥) → F (row_of (with_row c h f) k) ≡ F (row_of c k)
    by F same k (inl e) = subst (λ z. F (row_of (with_row c h f) z) ≡ F (row_of c z)) e (ap F (row_here h f keeps c o) ∙ same (row_of c h))
    by F same k (inr ne) = ap F (row_there h f keeps c k ne)

pub onward_led : (c : Core) (h : List ℕ) (f : Led → Led) → Onward c (with_led c h f)
unfolding with_led
onward_led c h f = onward_row c h (λ row. record row { led = f row.led }) (λ x. refl) (λ row. refl) (λ row. refl)

-- ---- what is recorded

pub records_all : (rs : List Happened) (c : Core) → ((r : Happened) → Has r rs → Inner r) → Does c (recorded_all c rs)
unfolding recorded recorded_all
records_all [] c aside = subst (λ z. Does c (record c { records = z })) (sym (append-nil c.records)) (Stays c c (same_self c))
records_all (r ∷ rs) c aside =
    subst (λ z. Does c (record c { records = z })) (append_assoc c.records (r ∷ []) rs) (Then c (recorded c r) (recorded_all (recorded c r) rs) (Records c r (aside r (inl refl))) (records_all rs (recorded c r) (λ q k. aside q (inr k))))

pub onward_records : (rs : List Happened) (c : Core) → ((r : Happened) → Has r rs → Inner r) → Onward c (recorded_all c rs)
unfolding recorded_all
onward_records rs c aside o = record { order = o; views = refl; does = records_all rs c aside; calm = calm_all rs c (λ r k. inner_unentered r (aside r k)) }

-- ---- handing on

-- put, and handed on from a state of the same
pub handed_onward : (f : Answering) (s c : Core) (to : Option ℕ) (h : List ℕ) (e : Entry) → InNameOrder s.groups → InNameOrder c.groups → c.views ≡ s.views → Same (put s h e) c → Keeps s (hand_on f c to h (len_of s h) (state_of s h) (state_of (put s h e) h) e)
unfolding hand_on noted notes note_of recorded_all with_sessions casts_out
handed_onward f s c to h e os oc views same =
    let a : Keeps d0 d1 = told (differs before after) in
    let b : Keeps d1 (casts_sent d1 h to cs) = onward_sends d1 (casts_sent d1 h to cs) (sends_casts d1 h to cs) a.order in
    record { order = b.order; views = b.views ∙ a.views ∙ views; does = Then s d1 (casts_sent d1 h to cs) (Then s d0 d1 (Hands s c h e bs os same) a.does) b.does; calm = calm_then s d0 (casts_sent d1 h to cs) (calm_handing s c h e bs same) (calm_then d0 d1 (casts_sent d1 h to cs) a.calm b.calm) }
  where
    before : GroupState
    before = state_of s h

    after : GroupState
    after = state_of (put s h e) h

    i : ℕ
    i = len_of s h

    bs : List (Option Filled)
    bs = fills f (length c.records) c.sessions e after (hearers c.sessions h before e)

    cs : List Cast
    cs = casts_out c.sessions h before after e bs

    rs : List Happened
    rs = flat_map (heard c h i e after) cs

    u : SessionState
    u = session.handed_on c.sessions h before after e bs

    d0 : Core
    d0 = with_sessions (recorded_all c rs) u

    d1 : Core
    d1 = with_sessions (noted (recorded_all c rs) h i before after) u

    told : (b : Bool) → Keeps d0 (with_sessions (elim b as (λ _. Core) [ true ↦ notes (recorded_all c rs) h (Some i) after | false ↦ recorded_all c rs ]) u)
    told false = onward_same d0 oc
    told true =
        let live = filter (is_of_group h) c.sessions.subs.live in
        let ns : List Happened = map (note_of (recorded_all c rs) h (Some i) after) live in
        onward_records ns d0 (λ r k. let q = has_map (note_of (recorded_all c rs) h (Some i) after) r live k in subst Inner (sym q.2) tt) oc

pub put_order : (s : Core) (h : List ℕ) (e : Entry) → InNameOrder s.groups → InNameOrder (put s h e).groups
unfolding put recorded
put_order s h e o = rows_ordered h (λ row. record row { list = Some (with_entry (list_or_new row.list) s.views.view e) }) (λ x. refl) s o

pub put_views : (s : Core) (h : List ℕ) (e : Entry) → (put s h e).views ≡ s.views
unfolding put recorded with_row
put_views s h e = refl

pub put_handed_onward : (f : Answering) (s : Core) (to : Option ℕ) (h : List ℕ) (e : Entry) → Onward s (put_and_hand f s to h e)
unfolding put_and_hand
put_handed_onward f s to h e o = handed_onward f s (put s h e) to h e o (put_order s h e o) (put_views s h e) (same_self (put s h e))
