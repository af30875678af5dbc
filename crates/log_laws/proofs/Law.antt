-- The law: field by field, what logs have of Seen records is Seen.
use Rattle.std.proofs.Common.{◌≡◌, ◌<◌, ◌≤◌, ◌+◌, ℕ, inl, inr, refl, sym, ap, ◌∙◌, subst, Bool, true, false, List, ◌∷◌, length, Option, Some, None}
use Rattle.std.specs.Prelude.{◌&&◌, not, filter, take, IsTrue}
use Rattle.rsct_packet.specs.declared.ids.Member.{Member}
use Rattle.rsct_packet.specs.declared.ids.ProtoId.{ProtoId}
use Rattle.rsct_packet.specs.declared.ids.ProviderId.{ProviderId}
use Rattle.rsct_packet.specs.declared.ids.ViewId.{ViewId}
use Rattle.rsct_packet.specs.Ids.{is_member}
use Rattle.rsct_packet.specs.Search.{Has}
use Rattle.proposal_core.specs.declared.entry.Closed.{Closed}
use Rattle.proposal_core.specs.declared.entry.Entry.{Entry}
use Rattle.proposal_core.specs.declared.entry.Entry.TheVariants.{Once, Begin, Phase, Approve, Reject, Late}
use Rattle.proposal_core.specs.declared.entry.RowVote.{RowVote}
use Rattle.proposal_core.specs.declared.entry.RowVote.TheVariants as row_vote
use Rattle.proposal_core.specs.declared.group_state.GroupState.{GroupState}
use Rattle.proposal_core.specs.Fold.{fits, present}
use Rattle.view_state.proofs.ViewOrder.{same_view_is}
use Rattle.session_state.specs.declared.state.OpenPhase.{OpenPhase}
use Rattle.node_state.specs.declared.happened.Happened.{Happened}
use Rattle.node_state.specs.declared.happened.Happened.TheVariants as happened
use Rattle.run_safety.specs.Past.{inc_now, view_now, puts_of, base_of, fold_from}
use Rattle.run_safety.specs.Sight.{inc_in}
use Rattle.run_safety.specs.SafeLists.{NextPlace, InItsView, Fitting, is_later, Rising, AmongMembers}
use Rattle.run_safety.specs.SafeHeard.{is_after, InOrder, HeardState}
use Rattle.run_safety.specs.Stays.{Stay, part, takes_part}
use Rattle.row_laws.specs.honest_votes.Casts.{RowCast, RowsCast, EntryCast}
use Rattle.entry_laws.specs.closing_rows.Rows.{HasRows}
use Rattle.provider_laws.specs.attending.Places.{IsNext}
use Rattle.provider_laws.specs.single_casts.Single.{HeardOpened, CastAfterNotice, NotCastBefore}
use Rattle.run_laws.specs.seen_runs.Seen.{StartsLater, RisesSeen, StartedSeen, SameSeen, from_of, LeavesTogether, is_from, lives, marked, CutFrom, BaseSeen, SameBases, SameEntry, TallySeen, VotesSeen, AskedInOne, BeginsOnce, OnceSeen, RowsSeen, HeardSeen, SeenAt, Seen}
use Rattle.run_laws.specs.seen_runs.Rings.{RingSeenAt, RingSeen}
use Rattle.log_laws.specs.Logs.{LivesAreLogged, Logs, Nothing, Writes, LeavesOut, Upright, AllUpright}
use Rattle.log_laws.specs.Law.{LogsAreSeen, LoggedRingsAreSeen}
use Rattle.log_laws.proofs.Kept.{was_recorded, IsWork, work_logged, told_before, same_puts, same_base, same_latest, same_count, same_heard, same_state_at, same_state, same_view_now, same_stays}
use Rattle.log_laws.proofs.Past.{last_start, entered_started, members_same, entered_once, view_up, in_by_logs, entered_by_logs, OldEntered, old_entered, from_entered, same_from}

-- ---- a record that logs have

module _ (rs ls : List Happened) (k : Logs rs ls) (a : LivesAreLogged rs ls) (seen : Seen rs) (logged : Seen ls) (upright : AllUpright rs) where
  was : (x : Happened) → Has x ls → Has x rs
  was x h = was_recorded rs ls k x h

  kept : (x : Happened) → IsWork x → Has x rs → Has x ls
  kept x w h = work_logged rs ls k x w h

  -- ---- nodes and views

  life : (r : Happened) → StartsLater rs r → StartsLater ls r
  life (happened.Up n j) q = λ i h. q i (was (happened.Up n i) h)
  life _ q = tt

  rising : (r : Happened) → Upright rs r → Rising rs r → Rising ls r
  rising (happened.In n v ms) up q = subst (λ o. IsTrue (is_later o v)) (same_view_now rs ls k n up (a n up)) q
  rising _ up q = tt

  rises : (r : Happened) → RisesSeen rs r → RisesSeen ls r
  rises (happened.In n v ms) q = λ u ns h e. q u ns (was (happened.In n u ns) h) e
  rises _ q = tt

  among : (r : Happened) → Upright rs r → AmongMembers rs r → AmongMembers ls r
  among (happened.In n v ms) up q = subst (λ j. IsTrue (is_member ms n j)) (a n up) q
  among _ up q = tt

  started : (r : Happened) → Upright rs r → StartedSeen rs r → StartedSeen ls r
  started (happened.In n v ms) up q = subst (λ j. (0 < j) × (inc_in n ms ≡ j)) (a n up) q
  started _ up q = tt

  members : (r : Happened) → SameSeen rs r → SameSeen ls r
  members (happened.In n v ms) q = λ m ns h. q m ns (was (happened.In m v ns) h)
  members _ q = tt

  -- a node started, by the logs, in the incarnation in which it enters a view
  its_start : (n : ℕ) (v : ViewId) (ms : List Member) → StartedSeen ls (happened.In n v ms) → Has (happened.Up n (inc_in n ms)) ls
  its_start n v ms q = subst (λ j. Has (happened.Up n j) ls) (sym q.1) (last_start n ls q.0)

  together : (r : Happened) → StartedSeen ls r → LeavesTogether rs r → LeavesTogether ls r
  together (happened.In n w ms) up q = λ m v g h from own.
      let there : Has (happened.Up m (inc_in m ms)) ls = entered_started m w ms ls logged h in
      sym (same_puts rs ls k n v g) ∙ q m v g (was (happened.In m w ms) h) (same_from m (inc_in m ms) w rs ls k seen logged there ∙ from) (same_from n (inc_in n ms) w rs ls k seen logged (its_start n w ms up) ∙ own) ∙ same_puts rs ls k m v g
  together _ up q = tt

  -- ---- bases

  -- whoever came from the old view of a base came from it by the logs
  module _ (u : ViewId) (old : (m : ℕ) (ms : List Member) → Has (happened.In m u ms) rs → Has (happened.In m u ms) ls) where
    came : (m j : ℕ) (v : ViewId) → from_of m j v rs ≡ Some u → from_of m j v ls ≡ Some u
    came m j v e =
        let q = from_entered m j v u rs e in
        let there : Has (happened.Up m j) ls = subst (λ i. Has (happened.Up m i) ls) q.2 (entered_started m u q.0 ls logged (old m q.0 q.1)) in
        sym (same_from m j v rs ls k seen logged there) ∙ e

    comes : (m j : ℕ) (v : ViewId) → from_of m j v ls ≡ Some u → from_of m j v rs ≡ Some u
    comes m j v e =
        let q = from_entered m j v u ls e in
        let there : Has (happened.Up m j) ls = subst (λ i. Has (happened.Up m i) ls) q.2 (entered_started m u q.0 ls logged q.1) in
        same_from m j v rs ls k seen logged there ∙ e

    is_some : (o : Option ViewId) → is_from u o ≡ true → o ≡ Some u
    is_some None e = absurd (cc)
    is_some (Some t) e = ap Some (same_view_is t u e)

    same_is_from : (m j : ℕ) (v : ViewId) → is_from u (from_of m j v rs) ≡ is_from u (from_of m j v ls)
    same_is_from m j v = by (is_from u (from_of m j v rs)) (is_from u (from_of m j v ls)) refl refl
      where
        forth : is_from u (from_of m j v rs) ≡ true → is_from u (from_of m j v ls) ≡ true
        forth e =
            let z : from_of m j v rs ≡ Some u = is_some (from_of m j v rs) e in
            ap (is_from u) (came m j v z) ∙ sym (ap (is_from u) z) ∙ e

        back : is_from u (from_of m j v ls) ≡ true → is_from u (from_of m j v rs) ≡ true
        back e =
            let z : from_of m j v ls ≡ Some u = is_some (from_of m j v ls) e in
            ap (is_from u) (comes m j v z) ∙ sym (ap (is_from u) z) ∙ e

        by : (x y : Bool) → is_from u (from_of m j v rs) ≡ x → is_from u (from_of m j v ls) ≡ y → is_from u (from_of m j v rs) ≡ is_from u (from_of m j v ls)
        by true y p q = p ∙ sym (forth p)
        by false true p q = back q ∙ sym q
        by false false p q = p ∙ sym q

    same_lives : (v : ViewId) (ms : List Member) (p : ProviderId) → lives rs v ms u p ≡ lives ls v ms u p
    same_lives v ms p = ap (λ b. is_member ms p.node p.inc && b) (same_is_from p.node p.inc v)

    same_marked : (v : ViewId) (ms : List Member) (s : GroupState) → marked rs v ms u s ≡ marked ls v ms u s
    same_marked v ms s = λ i. record s { failed = filter (λ p. not (same_lives v ms p i)) (present s) }

    cut : (v : ViewId) (ms : List Member) (g : List ℕ) (len : ℕ) (s : GroupState) → CutFrom rs v ms g u len s → CutFrom ls v ms g u len s
    cut v ms g len s c =
        record {
          from = ((c.from).0, (c.from).1, came (c.from).0.node (c.from).0.inc v (c.from).2);
          node = c.node;
          reaches = subst (λ es. len ≤ length es) (same_puts rs ls k c.node u g) c.reaches;
          knows = λ m t l x h. kept (happened.Base c.node u g t l x) tt (c.knows m t l x (was (happened.Base m u g t l x) h));
          state = c.state ∙ same_marked v ms (fold_from u (base_of c.node u g rs) 0 (take len (puts_of c.node u g rs))) ∙ ap (marked ls v ms u) (λ i. fold_from u (same_base rs ls k c.node u g i) 0 (take len (same_puts rs ls k c.node u g i)));
        }

  base : (r : Happened) → Upright rs r → ((n : ℕ) (v : ViewId) (g : List ℕ) (u : ViewId) (len : ℕ) (s : GroupState) → happened.Base n v g u len s ≡ r → (m : ℕ) (ms : List Member) → Has (happened.In m u ms) rs → Has (happened.In m u ms) ls) → BaseSeen rs r → BaseSeen ls r
  base (happened.Base n v g u len s) up old q =
      let here = entered_by_logs rs ls k a upright n v up in
      let same : here.0 ≡ q.members = members_same n n v q.members here.0 rs seen q.entered (was (happened.In n v here.0) here.1) in
      record {
        members = q.members;
        entered = subst (λ ms. Has (happened.In n v ms) ls) same here.1;
        cut = cut u (old n v g u len s refl) v q.members g len s q.cut;
        same = λ m t l x h. q.same m t l x (was (happened.Base m v g t l x) h);
      }
  base _ up old q = tt

  bases : (r : Happened) → SameBases rs r → SameBases ls r
  bases (happened.In n w ms) q = λ m l v os ns g u len s x y z.
      kept (happened.Base l v g u len s) tt (q m l v os ns g u len s (was (happened.In m v os) x) (was (happened.In l v ns) y) (was (happened.Base m v g u len s) z))
  bases _ q = tt

  -- ---- entries

  in_view : (r : Happened) → InItsView rs r → InItsView ls r
  in_view (happened.Put n v g i e) q = in_by_logs rs ls k a upright n v q
  in_view _ q = tt

  place : (r : Happened) → NextPlace rs r → NextPlace ls r
  place (happened.Put n v g i e) q = q ∙ ap length (same_puts rs ls k n v g)
  place _ q = tt

  entry : (r : Happened) → SameEntry rs r → SameEntry ls r
  entry (happened.Put n v g i e) q = λ m f h. q m f (was (happened.Put m v g i f) h)
  entry _ q = tt

  fitting : (r : Happened) → Fitting rs r → Fitting ls r
  fitting (happened.Put n v g i e) q = subst (λ s. IsTrue (fits s e)) (same_state rs ls k n v g) q
  fitting _ q = tt

  tally : (r : Happened) → TallySeen rs r → TallySeen ls r
  tally (happened.Put n v g i e) q = q
  tally _ q = tt

  row_cast : (proto : ProtoId) (phase : ℕ) (p : ProviderId) (x : RowVote) → RowCast rs proto phase p x → RowCast ls proto phase p x
  row_cast proto phase p (row_vote.Cast v) q =
      record { value = q.value; message = q.message; recorded = kept (happened.Cast p proto phase v q.value q.message) tt q.recorded }
  row_cast proto phase p (row_vote.Late d) q = tt
  row_cast proto phase p (row_vote.Failed d) q = tt

  rows_cast : (c : Closed) → RowsCast rs c → RowsCast ls c
  rows_cast c q = λ r h. row_cast c.proto c.phase r.provider r.vote (q r h)

  entry_cast : (e : Entry) → EntryCast rs e → EntryCast ls e
  entry_cast (Once x) q = q
  entry_cast (Begin x) q = q
  entry_cast (Phase c) q = rows_cast c q
  entry_cast (Approve c) q = rows_cast c q
  entry_cast (Reject c) q = rows_cast c q
  entry_cast (Late proto phase ps) q = tt

  votes : (r : Happened) → VotesSeen rs r → VotesSeen ls r
  votes (happened.Put n v g i e) q = entry_cast e q
  votes _ q = tt

  asked : (r : Happened) → AskedInOne rs r → AskedInOne ls r
  asked (happened.Asked p r g x) q = λ h y there. q h y (was (happened.Asked p r h y) there)
  asked _ q = tt

  begins : (n : ℕ) (g : List ℕ) (e : Entry) (p : ProviderId) (r : ℕ) → BeginsOnce rs n g e p r → BeginsOnce ls n g e p r
  begins n g e p r b =
      record {
        asked = ((b.asked).0, kept (happened.Asked p r g (b.asked).0) tt (b.asked).1, (b.asked).2);
        untold = λ t. b.untold (told_before rs ls k p r t);
        once = λ v h i f there c. b.once v h i f (was (happened.Put n v h i f) there) c;
      }

  once : (r : Happened) → OnceSeen rs r → OnceSeen ls r
  once (happened.Put n v g i e) q = λ p r node c. begins n g e p r (q p r node c)
  once _ q = tt

  rows : (r : Happened) → RowsSeen rs r → RowsSeen ls r
  rows (happened.Put n v g i e) q = subst (λ s. HasRows s e) (same_state_at rs ls k n v g i) q
  rows _ q = tt

  -- ---- providers

  -- a node that is in a view has by the logs the incarnation that it has
  same_inc : (n : ℕ) (v : ViewId) → view_now n rs ≡ Some v → inc_now n rs ≡ inc_now n ls
  same_inc n v e = a n (view_up n v rs upright e)

  heard : (r : Happened) → HeardSeen rs r → HeardSeen ls r
  heard (happened.Heard p v g i e ms value) q =
      let is_in : view_now p.node rs ≡ Some v = q.2.0 in
      (sym (same_latest rs ls k p.node v g) ∙ q.0, subst (λ o. IsNext p e o i) (same_heard rs ls k p v g) q.1, (in_by_logs rs ls k a upright p.node v is_in, sym (same_inc p.node v is_in) ∙ q.2.1))
  heard _ q = tt

  takes : (r : Happened) → HeardSeen rs r → InOrder rs r → InOrder ls r
  takes (happened.Heard p v g i e ms value) h q =
      let is_in : view_now p.node rs ≡ Some v = h.2.0 in
      let stays_are = same_stays rs ls k p.node (view_up p.node v rs upright is_in) (same_inc p.node v is_in) g in
      subst (λ (z : ℕ × List Stay). IsTrue (is_after z.0 (part p z.1).first i) × IsTrue (takes_part i (part p z.1))) (λ t. (same_count rs ls k p v g t, stays_are t)) q
  takes _ h q = tt

  carries : (r : Happened) → HeardState rs r → HeardState ls r
  carries (happened.Heard p v g i e ms value) q = subst (λ (s : GroupState). (ms ≡ s.members) × (value ≡ s.value)) (same_state_at rs ls k p.node v g (i + 1)) q
  carries _ q = tt

  opened : (p : ProviderId) (o : OpenPhase) → HeardOpened rs p o → HeardOpened ls p o
  opened p o h =
      record { view = h.view; group = h.group; place = h.place; entry = h.entry; members = h.members; value = h.value; there = kept (happened.Heard p h.view h.group h.place h.entry h.members h.value) tt h.there; opened = h.opened }

  noticed : (r : Happened) → CastAfterNotice rs r → CastAfterNotice ls r
  noticed (happened.Cast p proto phase vote value message) q = opened p (record { proto = proto; phase = phase }) q
  noticed _ q = tt

  cast : (r : Happened) → NotCastBefore rs r → NotCastBefore ls r
  cast (happened.Cast p proto phase vote value message) q = λ v x y h. q v x y (was (happened.Cast p proto phase v x y) h)
  cast _ q = tt

  -- ---- all of it

  seen_at : (r : Happened) → SeenAt rs r → Upright rs r → OldEntered (r ∷ rs) (r ∷ ls) → SeenAt ls r
  seen_at r s up old =
      let begun : StartedSeen ls r = started r up s.started in
      record {
        life = life r s.life;
        rising = rising r up s.rising;
        rises = rises r s.rises;
        among = among r up s.among;
        started = begun;
        members = members r s.members;
        together = together r begun s.together;
        base = base r up earlier s.base;
        bases = bases r s.bases;
        in_view = in_view r s.in_view;
        place = place r s.place;
        entry = entry r s.entry;
        fitting = fitting r s.fitting;
        tally = tally r s.tally;
        votes = votes r s.votes;
        asked = asked r s.asked;
        once = once r s.once;
        rows = rows r s.rows;
        heard = heard r s.heard;
        takes_part = takes r s.heard s.takes_part;
        carries = carries r s.carries;
        noticed = noticed r s.noticed;
        cast = cast r s.cast;
      }
    where
      earlier : (n : ℕ) (v : ViewId) (g : List ℕ) (u : ViewId) (len : ℕ) (st : GroupState) → happened.Base n v g u len st ≡ r → (m : ℕ) (ms : List Member) → Has (happened.In m u ms) rs → Has (happened.In m u ms) ls
      earlier n v g u len st is m ms h = at (old n v g u len st (inl is) m ms (inr h))
        where
          at : Has (happened.In m u ms) (r ∷ ls) → Has (happened.In m u ms) ls
          at (inl e) = let z : happened.Base n v g u len st ≡ happened.In m u ms = is ∙ sym e in absurd (cc)
          at (inr q) = q

-- ---- all records

-- what was entered earlier was entered earlier by the logs
old_before : (r : Happened) (rs ls : List Happened) → RisesSeen rs r → OldEntered (r ∷ rs) (r ∷ ls) → OldEntered rs ls
old_before r rs ls rises old n v g u len s base m ms h = at (old n v g u len s (inr base) m ms (inr h))
  where
    at : Has (happened.In m u ms) (r ∷ ls) → Has (happened.In m u ms) ls
    at (inl e) = absurd (entered_once m u ms r rs rises e h)
    at (inr q) = q

all_seen : (rs ls : List Happened) → Logs rs ls → Seen rs → AllUpright rs → OldEntered rs ls → Seen ls
all_seen _ _ Nothing s upright old = tt
all_seen _ _ (Writes r rs ls k a) s upright old =
    let older : Seen ls = all_seen rs ls k s.1 upright.1 (old_before r rs ls s.0.rises old) in
    (seen_at rs ls k a s.1 older upright.1 r s.0 upright.0 old, older)
all_seen _ _ (LeavesOut r rs ls k o) s upright old = all_seen rs ls k s.1 upright.1 (λ n v g u len st base m ms h. old n v g u len st (inr base) m ms (inr h))

pub logs_are_seen : LogsAreSeen
logs_are_seen rs ls k s upright come = all_seen rs ls k s upright (old_entered rs ls k s upright come)

-- ---- rings

ring_seen : (net : ℕ) (rs ls : List Happened) → Logs rs ls → (r : Happened) → RingSeen net rs r → RingSeen net ls r
ring_seen net rs ls k (happened.Ring n network id ms b) q = λ e.
    let x : RingSeenAt rs n net id ms b = q e in
    record { same = λ m ns d h. x.same m ns d (was_recorded rs ls k (happened.Ring m net id ns d) h); mine = x.mine; led = x.led; beside = x.beside }
ring_seen net rs ls k _ q = tt

pub rings_are_seen : LoggedRingsAreSeen
rings_are_seen net _ _ Nothing s = tt
rings_are_seen net _ _ (Writes r rs ls k a) s = (ring_seen net rs ls k r s.0, rings_are_seen net rs ls k s.1)
rings_are_seen net _ _ (LeavesOut r rs ls k o) s = rings_are_seen net rs ls k s.1
