-- What a provider hears is one walk through its group's lists.
use Rattle.std.proofs.Common.{◌≡◌, ◌⊎◌, inl, inr, ℕ, ◌+◌, Bool, true, false, List, [], ◌∷◌, ◌++◌, length, Some, None, refl, sym, ap, subst, ◌∙◌, arith, append_assoc}
use Rattle.std.specs.Prelude.{slice_get, if◌then◌else◌}
use Rattle.rsct_packet.specs.declared.ids.ViewId.{ViewId}
use Rattle.rsct_packet.specs.declared.ids.ProviderId.{ProviderId}
use Rattle.rsct_packet.specs.Providers.{same_provider}
use Rattle.rsct_packet.specs.Search.{Has}
use Rattle.rsct_packet.proofs.HasLaws.{has_append, append_has_right}
use Rattle.proposal_core.specs.declared.entry.Entry.{Entry}
use Rattle.node_state.specs.declared.happened.Happened.{Happened}
use Rattle.node_state.specs.declared.happened.Happened.TheVariants as happened
use Rattle.world_model.specs.Run.{Happening}
use Rattle.run_safety.specs.Past.{History, EachEvent, EachRecord, Within, earlier, records_of, view_now, inc_now, puts_of}
use Rattle.run_safety.specs.Moves.{Opening}
use Rattle.run_safety.specs.SafeGroups.{SafeGroups}
use Rattle.run_safety.specs.SafeHeard.{NotLetGo, AllHear, heard_count}
use Rattle.run_safety.specs.Sight.{inc_in}
use Rattle.run_safety.specs.Stays.{Stay, stays, is_join_of, part, passes, first_in, was_let_go}
use Rattle.run_safety.specs.ViewOrder.{Le}
use Rattle.run_safety.proofs.HeardLaw.{get_within}
use Rattle.run_safety.proofs.Order.{le_antisym, cases_view}
use Rattle.step_refinement.proofs.SessionLaws.{provider_same}
use Rattle.row_laws.specs.hearing.Hearing.{last_heard}
use Rattle.row_laws.proofs.failed_rows.Asked.{join_carried}
use Rattle.run_laws.specs.failed_causes.Entering.{FollowsEntering}
use Rattle.run_laws.specs.seen_runs.Once.{RequestsBeginOnce}
use Rattle.run_laws.specs.seen_runs.Seen.{Seen, SeenAt}
use Rattle.run_laws.proofs.failed_causes.Cut.{follows_before}
use Rattle.run_laws.proofs.failed_causes.Records.{Every, every_after, every_of}
use Rattle.run_laws.proofs.failed_causes.Views.{put_entered}
use Rattle.run_laws.proofs.seen_runs.Law.{seen_after}
use Rattle.hearing_laws.specs.Walk.{Hearing, heard_by, GoesOn, IsBehind, Follows, IsWalk, SafeHearingsWalk}
use Rattle.hearing_laws.proofs.Views.{had, LastPut, latest_is, put_get, view_in, view_latest, members_same}
use Rattle.hearing_laws.proofs.Stays.{stay_is, place_joins}
use Rattle.hearing_laws.proofs.Passed.{Facts, facts_after, Before, passed}
use Rattle.hearing_laws.proofs.Hearing.{first_of, Latest, latest, heard_some, last_is, count_none, Hears, hears, older_view, puts_heard, next_is}

-- ---- one hearing more

module _ (o : Opening) (h : History) (safe : SafeGroups o h) (seen : Seen (records_of h)) (requests : RequestsBeginOnce h) (p : ProviderId) (after all : List Happened) (front : records_of h ≡ after ++ all) where
  more : (y : Happened) → Has y all → Has y (records_of h)
  more y k = subst (Has y) (sym front) (append_has_right y after all k)

  seen_all : Seen all
  seen_all = seen_after after all (subst Seen front seen)

  -- all that it hears is of one group, where its join was put
  one_group : (v w : ViewId) (g k : List ℕ) (i j : ℕ) (e f : Entry) (ms os : List ProviderId) (value val : List ℕ) → Has (happened.Heard p v g i e ms value) all → Has (happened.Heard p w k j f os val) all → k ≡ g
  one_group v w g k i j e f ms os value val a b =
      let x = hears p v g i e ms value all seen_all a in
      let y = hears p w k j f os val all seen_all b in
      (requests.once p p.join k g y.view x.view y.place x.place y.entry x.entry (more _ y.begun) (join_carried p y.entry y.joins) (more _ x.begun) (join_carried p x.entry x.joins)).0

  module _ (later rs : List Happened) (v : ViewId) (g : List ℕ) (i : ℕ) (e : Entry) (ms : List ProviderId) (value : List ℕ) (is : all ≡ later ++ happened.Heard p v g i e ms value ∷ rs) (facts : Facts p all rs) where
    abbrev r : Happened
    r = happened.Heard p v g i e ms value

    at : SeenAt rs r
    at = (seen_after later (r ∷ rs) (subst Seen is seen_all)).0

    in_all : (y : Happened) → Has y (r ∷ rs) → Has y all
    in_all y k = subst (Has y) (sym is) (append_has_right y later (r ∷ rs) k)

    one : (w : ViewId) (k : List ℕ) (j : ℕ) (f : Entry) (os : List ProviderId) (val : List ℕ) → Has (happened.Heard p w k j f os val) all → k ≡ g
    one w k j f os val z = one_group v w g k i j e f ms os value val (in_all r (inl refl)) z

    put : LastPut p.node v g i e rs
    put = latest_is rs facts.seen p.node v g i e at.heard.0

    now : view_now p.node rs ≡ Some v
    now = at.heard.2.0

    inc : inc_now p.node rs ≡ p.inc
    inc = at.heard.2.1

    abbrev later_then : List Happened
    later_then = later ++ r ∷ []

    all_then : all ≡ later_then ++ rs
    all_then = is ∙ sym (append_assoc later (r ∷ []) rs)

    -- where it heard nothing of the view yet, its join is this entry, or it passed
    abbrev Begins : Type 0
    Begins = (is_join_of p e ≡ true) ⊎ ((i ≡ 0) × Before o h safe seen p g after all front one rs v)

    unheard_begins : ((j : ℕ) (f : Entry) (os : List ProviderId) (val : List ℕ) → Has (happened.Heard p v g j f os val) rs → ⊥) → Begins
    unheard_begins none = by (stays p.node g rs) refl (first_of p (heard_count p v g rs) i (part p (stays p.node g rs)).first at.takes_part.0)
      where
        count : heard_count p v g rs ≡ 0
        count = count_none p v g rs none

        by : (xs : List Stay) → stays p.node g rs ≡ xs → (f : ℕ) × ((part p (stays p.node g rs)).first ≡ Some f) × (i ≡ f + heard_count p v g rs) → Begins
        by [] q (f, first, place) = let no : None ≡ Some f = ap (λ (xs : List Stay). (part p xs).first) (sym q) ∙ first in absurd (cc)
        by (s ∷ older) q (f, first, place) = of (passes p s.base (part p older)) refl (ap (λ (xs : List Stay). (part p xs).first) (sym q) ∙ first)
          where
            stay : (view_now p.node rs ≡ Some s.view) × (s.entries ≡ puts_of p.node s.view g rs)
            stay = stay_is p.node g rs facts.seen s older q

            view : s.view ≡ v
            view = let both : Some s.view ≡ Some v = sym stay.0 ∙ now in cc

            here : f ≡ i
            here = let c = count in let k = place in omega (arith, c, k)

            of : (b : Bool) → passes p s.base (part p older) ≡ b → first_in p s.entries b ≡ Some f → Begins
            of true t z =
                let zero : i ≡ 0 = let a : 0 ≡ f = cc in sym here ∙ sym a in
                inr (zero, subst (Before o h safe seen p g after all front one rs) view (passed o h safe seen p g after all front one older s later_then rs all_then facts q inc t (λ j d os val k. none j d os val (subst (λ w. Has (happened.Heard p w g j d os val) rs) view k))))
            of false t z =
                let there : slice_get s.entries i ≡ Some e = ap (λ (es : List Entry). slice_get es i) (stay.1 ∙ ap (λ w. puts_of p.node w g rs) view) ∙ put_get rs facts.seen p.node v g i e put.there in
                inl (place_joins p s.entries i e (z ∙ ap Some here) there)

    first_hearing : heard_by p rs ≡ [] → is_join_of p e ≡ true
    first_hearing q = by (unheard_begins (λ j f os val k. heard_some p v g j f os val rs k q))
      where
        by : Begins → is_join_of p e ≡ true
        by (inl k) = k
        by (inr (zero, b)) = let no : b.hearing ∷ b.rest ≡ [] = sym b.is ∙ q in absurd (cc)

    module _ (a : Hearing) (rest : List Hearing) (heard : heard_by p rs ≡ a ∷ rest) where
      k : Latest p rs a rest
      k = latest p rs a rest heard

      abbrev last : Happened
      last = happened.Heard p a.view a.group a.place a.entry k.members k.value

      before : Seen (last ∷ k.older)
      before = seen_after k.newer (last ∷ k.older) (subst Seen k.is facts.seen)

      back : (y : Happened) → Has y (last ∷ k.older) → Has y rs
      back y z = subst (Has y) (sym k.is) (append_has_right y k.newer (last ∷ k.older) z)

      same_group : a.group ≡ g
      same_group = one a.view a.group a.place a.entry k.members k.value (in_all last (inr (back last (inl refl))))

      its : Hears p a.view a.group a.place a.entry (last ∷ k.older)
      its = hears p a.view a.group a.place a.entry k.members k.value (last ∷ k.older) before (inl refl)

      not_later : Le a.view v
      not_later = view_latest p.node rs facts.seen v now a.view its.members (back (happened.In p.node a.view its.members) its.entered) (its.inc ∙ sym inc)

      -- what was put of this view before the latest hearing was put there
      put_then : (j : ℕ) (f : Entry) → Has (happened.Put p.node v g j f) k.older → a.view ≡ v
      put_then j f z =
          let was = put_entered p.node v g j f k.older before.1 z in
          let own = view_in p.node rs facts.seen v now in
          let same : was.0 ≡ own.0 = members_same rs facts.seen p.node p.node v was.0 own.0 (back (happened.In p.node v was.0) (inr was.1)) own.1 in
          let low : Le v a.view = view_latest p.node k.older before.1 a.view before.0.heard.2.0 v was.0 was.1 (ap (inc_in p.node) same ∙ own.2 ∙ inc ∙ sym before.0.heard.2.1) in
          le_antisym a.view v not_later low

      next : a.view ≡ v → i ≡ a.place + 1
      next view = next_is p e i (last_heard p v g rs) a.place (subst (λ (z : ViewId × List ℕ). last_heard p z.0 z.1 rs ≡ Some a.place) (λ j. (view j, same_group j)) (last_is p rs a rest k)) at.heard.1

      -- no join of it begins here, since one began before
      joined : is_join_of p e ≡ false
      joined = by (is_join_of p e) refl
        where
          by : (b : Bool) → is_join_of p e ≡ b → b ≡ false
          by false q = refl
          by true q =
              let began : Happened = happened.Put p.node its.view a.group its.place its.entry in
              let there : Has began k.older = had began last k.older (λ z. cc) its.begun in
              let now_put : Happened = happened.Put p.node v g i e in
              let same = requests.once p p.join a.group g its.view v its.place i its.entry e (more began (in_all began (inr (back began its.begun)))) (join_carried p its.entry its.joins) (more now_put (in_all now_put (inr put.there))) (join_carried p e q) in
              let here : Has (happened.Put p.node v g i its.entry) k.older = subst (λ (z : List ℕ × ViewId × ℕ). Has (happened.Put p.node z.1 z.0 z.2 its.entry) k.older) (λ j. (same.0 j, same.1 j, same.2 j)) there in
              let view : a.view ≡ v = put_then i its.entry here in
              let within = get_within i its.entry (puts_of p.node v g k.older) (put_get k.older before.1 p.node v g i its.entry here) in
              let size : length (puts_of p.node a.view a.group k.older) ≡ a.place + 1 = (latest_is k.older before.1 p.node a.view a.group a.place a.entry before.0.heard.0).last in
              let same_size : length (puts_of p.node v g k.older) ≡ a.place + 1 = (λ j. length (puts_of p.node (sym view j) (sym same_group j) k.older)) ∙ size in
              let place = next view in
              absurd (omega (arith, within, same_size, place))

      behind : IsBehind (records_of h) a (record { view = v; group = g; place = i; entry = e })
      behind = by (cases_view v a.view)
        where
          by : (v ≡ a.view) ⊎ (v ≡ a.view → ⊥) → IsBehind (records_of h) a (record { view = v; group = g; place = i; entry = e })
          by (inl q) = inl (q, next (sym q))
          by (inr other) = of (unheard_begins none)
            where
              none : (j : ℕ) (f : Entry) (os : List ProviderId) (val : List ℕ) → Has (happened.Heard p v g j f os val) rs → ⊥
              none j f os val z = at_last (has_append (happened.Heard p v g j f os val) k.newer (last ∷ k.older) (subst (Has (happened.Heard p v g j f os val)) k.is z))
                where
                  at_last : Has (happened.Heard p v g j f os val) k.newer ⊎ Has (happened.Heard p v g j f os val) (last ∷ k.older) → ⊥
                  at_last (inl y) = heard_some p v g j f os val k.newer y k.none
                  at_last (inr (inl y)) = let view : v ≡ a.view = cc in other view
                  at_last (inr (inr y)) = other (sym (older_view p v g j f os val rs facts.seen now inc a rest k y))

              of : Begins → IsBehind (records_of h) a (record { view = v; group = g; place = i; entry = e })
              of (inl q) = let no : true ≡ false = sym q ∙ joined in absurd (cc)
              of (inr (zero, b)) =
                  let both : a ∷ rest ≡ b.hearing ∷ b.rest = sym heard ∙ b.is in
                  let same : b.hearing ≡ a = cc in
                  inr (zero, subst (λ (z : Hearing). GoesOn (records_of h) g z.view (z.place + 1) v) same b.goes)

      follows : Follows (records_of h) p a (record { view = v; group = g; place = i; entry = e })
      follows = record { group = sym same_group; joined = joined; behind = behind }

-- ---- a whole run

module _ (o : Opening) (h : History) (safe : SafeGroups o h) (seen : Seen (records_of h)) (bases : Every FollowsEntering (records_of h)) (requests : RequestsBeginOnce h) (p : ProviderId) where
  abbrev Walks : List Happened → Type 0
  Walks rs = IsWalk (records_of h) p (heard_by p rs)

  -- the records of an event, and those before it
  module _ (after : List Happened) (e : Happening) (before : History) (front : records_of h ≡ after ++ records_of (e ∷ before)) (all_hear : EachEvent (λ event before. Within (AllHear event) event.records before) (e ∷ before)) where
    abbrev here : List Happened
    here = records_of (e ∷ before)

    facts_at : (later rs : List Happened) → here ≡ later ++ rs → was_let_go p before ≡ false → Facts p here rs
    facts_at later rs is spared =
        facts_after p here later rs
        (subst (Facts p here) is
        (record {
          seen = seen_after after here (subst Seen front seen);
          bases = every_after FollowsEntering after here (subst (Every FollowsEntering) front bases);
          heard = puts_heard p here e before spared (λ y k. k) all_hear;
        }))

    one_more : (later now : List Happened) (v : ViewId) (g : List ℕ) (i : ℕ) (x : Entry) (ms : List ProviderId) (value : List ℕ) → here ≡ later ++ happened.Heard p v g i x ms value ∷ earlier now before → was_let_go p before ≡ false → Walks (earlier now before)
        → IsWalk (records_of h) p (record { view = v; group = g; place = i; entry = x } ∷ heard_by p (earlier now before))
    one_more later now v g i x ms value is spared k = by (heard_by p (earlier now before)) refl k
      where
        r : Happened
        r = happened.Heard p v g i x ms value

        facts : Facts p here (earlier now before)
        facts = facts_at (later ++ r ∷ []) (earlier now before) (is ∙ sym (append_assoc later (r ∷ []) (earlier now before))) spared

        by : (xs : List Hearing) → heard_by p (earlier now before) ≡ xs → IsWalk (records_of h) p xs → IsWalk (records_of h) p (record { view = v; group = g; place = i; entry = x } ∷ xs)
        by [] q z = first_hearing o h safe seen requests p after here front later (earlier now before) v g i x ms value is facts q
        by (a ∷ rest) q z = (follows o h safe seen requests p after here front later (earlier now before) v g i x ms value is facts a rest q, z)

    walk_now : (later now : List Happened) → e.records ≡ later ++ now → Within NotLetGo now before → Walks (records_of before) → Walks (earlier now before)
    walk_now later [] is spared k = k
    walk_now later (happened.Heard q v g i x ms value ∷ now) is spared k =
        by (same_provider q p) refl (walk_now (later ++ r ∷ []) now (is ∙ sym (append_assoc later (r ∷ []) now)) spared.1 k)
      where
        r : Happened
        r = happened.Heard q v g i x ms value

        whole : here ≡ later ++ r ∷ earlier now before
        whole = ap (λ rs. rs ++ records_of before) is ∙ append_assoc later (r ∷ now) (records_of before)

        by : (b : Bool) → same_provider q p ≡ b → Walks (earlier now before) → IsWalk (records_of h) p (if b then record { view = v; group = g; place = i; entry = x } ∷ heard_by p (earlier now before) else heard_by p (earlier now before))
        by true t z =
            let own : q ≡ p = provider_same q p t in
            one_more later now v g i x ms value (whole ∙ (λ j. later ++ happened.Heard (own j) v g i x ms value ∷ earlier now before)) (subst (λ y. was_let_go y before ≡ false) own spared.0) z
        by false t z = z
    walk_now later (r ∷ now) is spared k = walk_now (later ++ r ∷ []) now (is ∙ sym (append_assoc later (r ∷ []) now)) spared.1 k

  walks : (after : List Happened) (k : History) → records_of h ≡ after ++ records_of k → EachEvent (λ event before. Within (AllHear event) event.records before) k → EachRecord NotLetGo k → Walks (records_of k)
  walks after [] front all_hear spared = tt
  walks after (e ∷ before) front all_hear spared =
      walk_now after e before front all_hear [] e.records refl spared.0 (walks (after ++ e.records) before (front ∙ sym (append_assoc after e.records (records_of before))) all_hear.1 spared.1)

pub hearings_walk : SafeHearingsWalk
hearings_walk o h safe seen bases hears spared requests p =
    walks o h safe seen (every_of FollowsEntering (λ now before r. FollowsEntering now r) (λ now before r k. follows_before r now (records_of before) k) h bases) requests p [] h refl hears spared
