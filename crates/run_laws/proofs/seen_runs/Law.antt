-- The law: what every run records shows itself.
use Rattle.std.proofs.Common.{◌≡◌, ℕ, sym, inl, inr, subst, refl, Bool, true, false, List, [], ◌∷◌, ◌++◌, Some}
use Rattle.std.specs.Prelude.{if◌then◌else◌}
use Rattle.rsct_packet.specs.declared.ids.ViewId.{ViewId}
use Rattle.rsct_packet.specs.declared.ids.ProviderId.{ProviderId}
use Rattle.rsct_packet.specs.Search.{Has}
use Rattle.rsct_packet.proofs.HasLaws.{append_has_right}
use Rattle.proposal_core.specs.declared.entry.Entry.{Entry}
use Rattle.proposal_core.specs.declared.proposal.Proposal.{Proposal}
use Rattle.node_state.specs.declared.happened.Happened.{Happened}
use Rattle.node_state.specs.declared.happened.Happened.TheVariants as happened
use Rattle.run_safety.specs.Past.{History, records_of, earlier, Within, EachRecord, is_list}
use Rattle.run_safety.specs.SafeHeard.{latest_put, put_after, InOrder, HeardState}
use Rattle.run_safety.specs.Requests.{carried}
use Rattle.row_laws.specs.hearing.Hearing.{AtPut}
use Rattle.row_laws.proofs.hearing.Listening.{providers_hear}
use Rattle.row_laws.specs.honest_votes.Casts.{RecordCast}
use Rattle.entry_laws.specs.closing_rows.Rows.{RecordRows}
use Rattle.entry_laws.proofs.closing_rows.Law.{rows_are_voters}
use Rattle.provider_laws.specs.attending.Places.{NextHeard}
use Rattle.provider_laws.proofs.attending.Law.{places_once}
use Rattle.provider_laws.proofs.attending.OrderLaw.{heard_in_order}
use Rattle.provider_laws.specs.single_casts.Single.{CastAfterNotice, NotCastBefore}
use Rattle.provider_laws.proofs.single_casts.Law.{cast_after_notice}
use Rattle.provider_laws.proofs.single_casts.Once.{cast_once}
use Rattle.row_laws.proofs.honest_votes.Law.{recorded_votes}
use Rattle.run_laws.specs.seen_runs.Seen.{SeenAt, Seen, VotesSeen, RowsSeen, HeardSeen, AskedInOne, BeginsOnce, OnceSeen}
use Rattle.run_laws.specs.seen_runs.Law.{EveryTraceIsSeen}
use Rattle.run_laws.proofs.seen_runs.Pairs.{Two, each_both}
use Rattle.run_laws.proofs.seen_runs.Folds.{heard_folds}
use Rattle.run_laws.proofs.seen_runs.Shown.{BeginsThere, OnceThere, GroupShown, all_shown}
use Rattle.run_laws.proofs.seen_runs.Nodes.{NodeShown}
use Rattle.run_laws.proofs.seen_runs.Scenes.{all_show, nodes_shown}
use Rattle.run_laws.proofs.failed_causes.Renamed.{asked_in_one}

votes_seen : (now : List Happened) (before : History) (r : Happened) → RecordCast now before r → VotesSeen (now ++ records_of before) r
votes_seen now before (happened.Put n v g i e) k = k
votes_seen now before _ k = tt

-- what was put last among some records was put last
latest_more : (n : ℕ) (v : ViewId) (g : List ℕ) (x : ℕ × Entry) (now xs : List Happened) → latest_put n v g now ≡ Some x → latest_put n v g (now ++ xs) ≡ Some x
latest_more n v g x [] xs e = absurd (cc)
latest_more n v g x (r ∷ now) xs e = by r e (latest_more n v g x now xs)
  where
    by : (r : Happened) → put_after n v g r (latest_put n v g now) ≡ Some x → (latest_put n v g now ≡ Some x → latest_put n v g (now ++ xs) ≡ Some x) → put_after n v g r (latest_put n v g (now ++ xs)) ≡ Some x
    by (happened.Put m u h i f) e old = at (is_list n v g m u h) e old
      where
        at : (b : Bool) → (if b then Some (i, f) else latest_put n v g now) ≡ Some x → (latest_put n v g now ≡ Some x → latest_put n v g (now ++ xs) ≡ Some x) → (if b then Some (i, f) else latest_put n v g (now ++ xs)) ≡ Some x
        at true e old = e
        at false e old = old e
    by _ e old = old e

-- what laws of runs say of a record and its event
record Said (now : List Happened) (before : History) (r : Happened) : Type 0 where
  votes : RecordCast now before r
  rows : RecordRows now before r
  put : AtPut now before r
  next : NextHeard now before r

said_rows : (now : List Happened) (before : History) (r : Happened) → Said now before r → RowsSeen (now ++ records_of before) r × HeardSeen (now ++ records_of before) r
said_rows now before (happened.Put n v g i e) k = (k.rows, tt)
said_rows now before (happened.Heard p v g i e ms value) k = (tt, (latest_more p.node v g (i, e) now (records_of before) k.put.0, k.next.0, k.next.1))
said_rows now before _ k = (tt, tt)

-- ---- requests, over all groups

-- each request in one group
abbrev OneGroup : List Happened → Type 0
OneGroup rs = (p : ProviderId) (r : ℕ) (g h : List ℕ) (x y : Proposal) → Has (happened.Asked p r g x) rs → Has (happened.Asked p r h y) rs → g ≡ h

asked_in_one_seen : (rs : List Happened) (r : Happened) → OneGroup (r ∷ rs) → AskedInOne rs r
asked_in_one_seen rs (happened.Asked p r g x) one = λ h y i. one p r h g y x (inr i) (inl refl)
asked_in_one_seen rs _ one = tt

pub seen_after : (newer older : List Happened) → Seen (newer ++ older) → Seen older
seen_after [] older k = k
seen_after (r ∷ newer) older k = seen_after newer older k.1

-- what a node put was asked in that group
put_asked : (n : ℕ) (v : ViewId) (g : List ℕ) (i : ℕ) (e : Entry) (p : ProviderId) (r : ℕ) (rs : List Happened) → Seen rs → p.node ≡ n → Has (p, r) (carried e) → Has (happened.Put n v g i e) rs → (x : Proposal) × Has (happened.Asked p r g x) rs
put_asked n v g i e p r [] s node c k = absurd k
put_asked n v g i e p r (q ∷ rs) s node c (inl z) =
    let o : OnceSeen rs (happened.Put n v g i e) = subst (OnceSeen rs) (sym z) s.0.once in
    let a = (o p r node c).asked in
    (a.0, inr a.1)
put_asked n v g i e p r (q ∷ rs) s node c (inr k) = let a = put_asked n v g i e p r rs s.1 node c k in (a.0, inr a.1)

once_seen : (rs : List Happened) (r : Happened) → Seen rs → OneGroup rs → OnceThere rs r → OnceSeen rs r
once_seen rs (happened.Put n v g i e) seen one there = λ p r node c. at p r node c (there p r node c)
  where
    at : (p : ProviderId) (r : ℕ) → p.node ≡ n → Has (p, r) (carried e) → BeginsThere rs n g e p r → BeginsOnce rs n g e p r
    at p r node c k = record { asked = k.asked; untold = k.untold; once = again }
      where
        again : (u : ViewId) (h : List ℕ) (j : ℕ) (f : Entry) → Has (happened.Put n u h j f) rs → Has (p, r) (carried f) → ⊥
        again u h j f there d =
            let a = put_asked n u h j f p r rs seen node d there in
            let same : h ≡ g = one p r h g a.0 (k.asked).0 a.1 (k.asked).1 in
            k.once u j f (subst (λ z. Has (happened.Put n u z j f) rs) same there) d
once_seen rs _ seen one there = tt

-- all of it, of one record
record All (now : List Happened) (before : History) (r : Happened) : Type 0 where
  group : GroupShown (now ++ records_of before) r
  node : NodeShown (now ++ records_of before) r
  said : Said now before r
  carries : HeardState (earlier now before) r
  order : InOrder (earlier now before) r
  noticed : CastAfterNotice (now ++ records_of before) r
  cast : NotCastBefore (now ++ records_of before) r

seen_at : (now : List Happened) (before : History) (r : Happened) → Seen (now ++ records_of before) → OneGroup (r ∷ now ++ records_of before) → All now before r → SeenAt (now ++ records_of before) r
seen_at now before r old one k =
    let s = said_rows now before r k.said in
    record {
      life = k.node.later;
      rising = k.node.rising;
      rises = k.group.rises;
      among = k.node.among;
      started = k.node.started;
      members = k.group.members;
      together = k.group.together;
      base = k.group.base;
      bases = k.group.bases_same;
      in_view = k.node.in_view;
      place = k.group.place;
      entry = k.group.entry;
      fitting = k.group.fitting;
      tally = k.group.tally;
      votes = votes_seen now before r k.said.votes;
      asked = asked_in_one_seen (now ++ records_of before) r one;
      once = once_seen (now ++ records_of before) r old (λ p q g h x y a b. one p q g h x y (inr a) (inr b)) k.group.once;
      rows = s.0;
      heard = s.1;
      takes_part = k.order;
      carries = k.carries;
      noticed = k.noticed;
      cast = k.cast;
    }

-- of the records of one event, and of those before
seen_now : (now : List Happened) (before : History) → OneGroup (now ++ records_of before) → Within All now before → Seen (records_of before) → Seen (now ++ records_of before)
seen_now [] before one k old = old
seen_now (r ∷ now) before one k old =
    let so_far : Seen (now ++ records_of before) = seen_now now before (λ p q g h x y a b. one p q g h x y (inr a) (inr b)) k.1 old in
    (seen_at now before r so_far one k.0, so_far)

seen_all : (h : History) → OneGroup (records_of h) → EachRecord All h → Seen (records_of h)
seen_all [] one k = tt
seen_all (e ∷ before) one k =
    seen_now e.records before one k.0 (seen_all before (λ p q g h x y a b. one p q g h x y (append_has_right (happened.Asked p q g x) e.records (records_of before) a) (append_has_right (happened.Asked p q h y) e.records (records_of before) b)) k.1)

pub traces_seen : EveryTraceIsSeen
traces_seen c w k =
    let a : EachRecord (Two RecordCast RecordRows) w.before = each_both (λ now before r x y. (x, y)) w.before (recorded_votes c w k) (rows_are_voters c w k) in
    let b : EachRecord (Two AtPut NextHeard) w.before = each_both (λ now before r x y. (x, y)) w.before (providers_hear c w k) (places_once c w k) in
    let s : EachRecord Said w.before = each_both (λ now before r x y. record { votes = x.0; rows = x.1; put = y.0; next = y.1 }) w.before a b in
    let d : EachRecord (Two (λ now before r. CastAfterNotice (now ++ records_of before) r) (λ now before r. NotCastBefore (now ++ records_of before) r)) w.before = each_both (λ now before r x y. (x, y)) w.before (cast_after_notice c w k) (cast_once c w k) in
    let g : EachRecord (Two (λ now before r. GroupShown (now ++ records_of before) r) (λ now before r. NodeShown (now ++ records_of before) r)) w.before = each_both (λ now before r x y. (x, y)) w.before (all_shown w.before (all_show c w k)) (nodes_shown c w k) in
    let o : EachRecord (Two (λ now before r. HeardState (earlier now before) r) (λ now before r. InOrder (earlier now before) r)) w.before = each_both (λ now before r x y. (x, y)) w.before (heard_folds c w k) (heard_in_order c w k) in
    let x : EachRecord (Two (Two Said (Two (λ now before r. HeardState (earlier now before) r) (λ now before r. InOrder (earlier now before) r))) (Two (λ now before r. CastAfterNotice (now ++ records_of before) r) (λ now before r. NotCastBefore (now ++ records_of before) r))) w.before = each_both (λ now before r x y. (x, y)) w.before (each_both (λ now before r x y. (x, y)) w.before s o) d in
    seen_all w.before (asked_in_one c w k) (each_both (λ now before r p q. record { group = p.0; node = p.1; said = q.0.0; carries = q.0.1.0; order = q.0.1.1; noticed = q.1.0; cast = q.1.1 }) w.before g x)
