-- Where a provider that passes into a view stood before: it heard last what the group's bases lead back to.
use Rattle.std.proofs.Common.{◌≡◌, ◌⊎◌, inl, inr, ℕ, ◌+◌, Bool, true, false, not, List, [], ◌∷◌, ◌++◌, length, Option, Some, None, refl, sym, ap, subst, ◌∙◌, arith, append_assoc}
use Rattle.std.specs.Prelude.{◌&&◌, is_some, is_none, slice_get}
use Rattle.std.proofs.lemmas.Bool.{and_parts}
use Rattle.rsct_packet.specs.declared.ids.ViewId.{ViewId}
use Rattle.rsct_packet.specs.declared.ids.Member.{Member}
use Rattle.rsct_packet.specs.declared.ids.ProviderId.{ProviderId}
use Rattle.rsct_packet.specs.Providers.{among}
use Rattle.rsct_packet.specs.Search.{Has}
use Rattle.rsct_packet.proofs.HasLaws.{append_has_left, append_has_right}
use Rattle.proposal_core.specs.declared.entry.Entry.{Entry}
use Rattle.proposal_core.specs.declared.group_state.GroupState.{GroupState}
use Rattle.proposal_core.specs.Fold.{empty_state, present}
use Rattle.node_state.specs.declared.happened.Happened.{Happened}
use Rattle.node_state.specs.declared.happened.Happened.TheVariants as happened
use Rattle.run_safety.specs.Past.{History, records_of, view_now, inc_now, puts_of}
use Rattle.run_safety.specs.Group.{Origin, In, Line, Noted, kept}
use Rattle.run_safety.specs.Group as group
use Rattle.run_safety.specs.GroupLists.{From}
use Rattle.run_safety.specs.GroupLists as lists
use Rattle.run_safety.specs.Moves.{Opening}
use Rattle.run_safety.specs.SafeGroups.{SafeGroups}
use Rattle.run_safety.specs.Sight.{inc_in, lines_of}
use Rattle.run_safety.specs.Stays.{Stay, stays, Part, part, passes, first_in}
use Rattle.run_safety.specs.ViewOrder.{Lt, Le}
use Rattle.run_safety.proofs.Order.{le_antisym}
use Rattle.run_safety.proofs.SightLaws.{line_seen, own_line}
use Rattle.row_laws.proofs.hearing.Handing.{among_is}
use Rattle.run_laws.specs.failed_causes.Entering.{FollowsEntering}
use Rattle.run_laws.specs.seen_runs.Seen.{Seen}
use Rattle.run_laws.proofs.failed_causes.Records.{Every, every_after}
use Rattle.run_laws.proofs.seen_runs.Froms.{in_kept, in_recorded}
use Rattle.run_laws.proofs.seen_runs.Law.{seen_after}
use Rattle.run_laws.proofs.seen_runs.Sights.{puts_same}
use Rattle.hearing_laws.specs.Walk.{Hearing, heard_by, GoesOn, Next, Over}
use Rattle.hearing_laws.proofs.Passing.{passers_come_from_the_base}
use Rattle.hearing_laws.proofs.Views.{put_get, view_in, view_latest, left_puts, left_hears, entered_before}
use Rattle.hearing_laws.proofs.Stays.{Came, came, stay_is, IsHeardBy, heard_last}
use Rattle.hearing_laws.proofs.Hearing.{heard_skip, Hears, hears, heard_since, Newest, newest}

-- ---- what passing says

pub record Passes (p : ProviderId) (base : GroupState) (old : Part) : Type 0 where
  first : ℕ
  first_is : old.first ≡ Some first
  last : old.last ≡ None
  there : among (present base) p ≡ true
  lives : among base.failed p ≡ false

passing : (p : ProviderId) (base : GroupState) (old : Part) → passes p base old ≡ true → Passes p base old
passing p base old q = by old.first old.last refl refl (among base.failed p) refl a.0 b.0 c.1
  where
    a : (is_some old.first ≡ true) × ((is_none old.last && (among (present base) p && not (among base.failed p))) ≡ true)
    a = and_parts (is_some old.first) (is_none old.last && (among (present base) p && not (among base.failed p))) q

    b : (is_none old.last ≡ true) × ((among (present base) p && not (among base.failed p)) ≡ true)
    b = and_parts (is_none old.last) (among (present base) p && not (among base.failed p)) a.1

    c : (among (present base) p ≡ true) × (not (among base.failed p) ≡ true)
    c = and_parts (among (present base) p) (not (among base.failed p)) b.1

    by : (f l : Option ℕ) → old.first ≡ f → old.last ≡ l → (t : Bool) → among base.failed p ≡ t → is_some f ≡ true → is_none l ≡ true → not t ≡ true → Passes p base old
    by None l x y t z r s u = absurd (cc)
    by (Some f) (Some l) x y t z r s u = absurd (cc)
    by (Some f) None x y true z r s u = absurd (cc)
    by (Some f) None x y false z r s u = record { first = f; first_is = x; last = y; there = c.0; lives = z }

-- ---- where a provider that passes stood before

-- what records say up to a moment
pub record Facts (p : ProviderId) (all rs : List Happened) : Type 0 where
  pub seen : Seen rs
  pub bases : Every FollowsEntering rs
  pub heard : Every (IsHeardBy p all) rs

pub facts_after : (p : ProviderId) (all newer older : List Happened) → Facts p all (newer ++ older) → Facts p all older
facts_after p all newer older k =
    record { seen = seen_after newer older k.seen; bases = every_after FollowsEntering newer older k.bases; heard = every_after (IsHeardBy p all) newer older k.heard }

module _ (o : Opening) (h : History) (safe : SafeGroups o h) (seen : Seen (records_of h)) (p : ProviderId) (g : List ℕ) (after all : List Happened) (front : records_of h ≡ after ++ all) (one : (w : ViewId) (k : List ℕ) (i : ℕ) (e : Entry) (ms : List ProviderId) (value : List ℕ) → Has (happened.Heard p w k i e ms value) all → k ≡ g) where
  abbrev run : List Happened
  run = records_of h

  abbrev L : List Line
  L = lines_of g h

  -- what it heard last, from where the group goes on in the view
  pub record Before (rs : List Happened) (v : ViewId) : Type 0 where
    pub hearing : Hearing
    pub rest : List Hearing
    pub is : heard_by p rs ≡ hearing ∷ rest
    pub goes : GoesOn run g hearing.view (hearing.place + 1) v

  -- the moment before the node entered the view of its latest stay, from the one in which the stay before was its latest
  pub record Back (s x : Stay) (older : List Stay) (rs : List Happened) : Type 0 where
    before : List Happened
    later : List Happened
    is : all ≡ later ++ before
    facts : Facts p all before
    stayed : stays p.node g before ≡ x ∷ older
    inc : inc_now p.node before ≡ p.inc
    state : GroupState
    noted : Has (happened.Base p.node s.view g x.view (length x.entries) state) run
    heard : ((i : ℕ) (e : Entry) (ms : List ProviderId) (value : List ℕ) → Has (happened.Heard p s.view g i e ms value) rs → ⊥) → heard_by p rs ≡ heard_by p before
    nothing : x.entries ≡ [] → (i : ℕ) (e : Entry) (ms : List ProviderId) (value : List ℕ) → Has (happened.Heard p x.view g i e ms value) before → ⊥
    newest : (m : ℕ) → length x.entries ≡ m + 1 → Newest p x.view m before

  in_run : (y : Happened) (later rs : List Happened) → all ≡ later ++ rs → Has y rs → Has y run
  in_run y later rs is k = subst (Has y) (sym front) (append_has_right y after all (subst (Has y) (sym is) (append_has_right y later rs k)))

  -- one step back: the stay before, from which the node came into the view, and in which the base ended
  module _ (s x : Stay) (older : List Stay) (later rs : List Happened) (is : all ≡ later ++ rs) (facts : Facts p all rs) (at : stays p.node g rs ≡ s ∷ x ∷ older) (inc : inc_now p.node rs ≡ p.inc) (pass : Passes p s.base (part p (x ∷ older))) where
    c : Came p.node g rs s (x ∷ older)
    c = came p.node g rs facts.seen facts.bases s (x ∷ older) at

    abbrev entering : List Happened
    entering = happened.In p.node s.view c.members ∷ c.before

    cut : Facts p all (c.newer ++ entering)
    cut = subst (Facts p all) c.is facts

    there : Facts p all entering
    there = facts_after p all c.newer entering cut

    facts_then : Facts p all c.before
    facts_then = facts_after p all (happened.In p.node s.view c.members ∷ []) c.before there

    inc_then : inc_now p.node c.before ≡ p.inc
    inc_then = c.inc ∙ inc

    inc_in_view : inc_in p.node c.members ≡ p.inc
    inc_in_view = there.seen.0.started.1 ∙ inc_then

    stay : (view_now p.node c.before ≡ Some x.view) × (x.entries ≡ puts_of p.node x.view g c.before)
    stay = stay_is p.node g c.before facts_then.seen x older c.stayed

    was : (ms : List Member) × Has (happened.In p.node x.view ms) c.before × (inc_in p.node ms ≡ inc_now p.node c.before)
    was = view_in p.node c.before facts_then.seen x.view stay.0

    same_inc : inc_in p.node was.0 ≡ inc_in p.node c.members
    same_inc = was.2 ∙ inc_then ∙ sym inc_in_view

    less : Lt x.view s.view
    less = there.seen.0.rises x.view was.0 was.1 same_inc

    -- all records, around that moment
    abbrev upto : List Happened
    upto = after ++ (later ++ c.newer)

    whole : run ≡ upto ++ entering
    whole =
        front ∙ ap (λ ys. after ++ ys) (is ∙ ap (λ ys. later ++ ys) c.is) ∙ ap (λ ys. after ++ ys) (sym (append_assoc later c.newer entering)) ∙ sym (append_assoc after (later ++ c.newer) entering)

    seen_whole : Seen (upto ++ entering)
    seen_whole = subst Seen whole seen

    entered_then : Has (happened.In p.node s.view c.members) entering
    entered_then = inl refl

    back : (y : Happened) → Has y c.before → Has y rs
    back y k = subst (Has y) (sym c.is) (append_has_right y c.newer entering (inr k))

    in_all : (y : Happened) → Has y entering → Has y run
    in_all y k = subst (Has y) (sym whole) (append_has_right y upto entering k)

    line_in : (v : ViewId) (ms : List Member) → inc_in p.node ms ≡ p.inc → Has (happened.In p.node v ms) run → Has (In p.node p.inc v ms) (kept L)
    line_in v ms same k = subst (λ j. Has (In p.node j v ms) (kept L)) same (in_kept g p.node v ms h k)

    record Ended : Type 0 where
      state : GroupState
      noted : Has (happened.Base p.node s.view g x.view (length x.entries) state) run

    based : (u : ViewId) (len : ℕ) → Has (happened.Base p.node s.view g u len s.base) rs → Ended
    based u len k = record { state = s.base; noted = subst (λ (z : ViewId × ℕ). Has (happened.Base p.node s.view g z.0 z.1 s.base) run) (λ j. (view j, size j)) noted }
      where
        noted : Has (happened.Base p.node s.view g u len s.base) run
        noted = in_run (happened.Base p.node s.view g u len s.base) later rs is k

        b : Origin
        b = record { old = u; len = len; state = s.base }

        base_line : Has (Noted (group.Based p.node s.view b)) L
        base_line = line_seen (Noted (group.Based p.node s.view b)) g (happened.Base p.node s.view g u len s.base) (λ ys. own_line g (Noted (group.Based p.node s.view b))) h noted

        comes : From (kept L) p.node p.inc s.view u × (length (lists.puts_of p.node u (kept L)) ≡ len)
        comes = passers_come_from_the_base o L (safe g) p.node s.view b p c.members base_line (line_in s.view c.members inc_in_view (in_all (happened.In p.node s.view c.members) entered_then)) (among_is (present s.base) p pass.there) pass.lives

        old : Has (happened.In p.node u comes.0.was.0) run × (p.inc ≡ inc_in p.node comes.0.was.0)
        old = in_recorded g p.node p.inc u comes.0.was.0 h comes.0.was.1

        old_then : Has (happened.In p.node u comes.0.was.0) c.before
        old_then = entered_before p.node u s.view comes.0.was.0 c.members (sym old.1 ∙ sym inc_in_view) comes.0.less upto c.before seen_whole (subst (Has (happened.In p.node u comes.0.was.0)) whole old.0)

        low : Le u x.view
        low = view_latest p.node c.before facts_then.seen x.view stay.0 u comes.0.was.0 old_then (sym old.1 ∙ sym inc_then)

        high : Le x.view u
        high = comes.0.last x.view (was.0, line_in x.view was.0 (was.2 ∙ inc_then) (in_all (happened.In p.node x.view was.0) (inr was.1))) less

        view : u ≡ x.view
        view = le_antisym u x.view low high

        puts : puts_of p.node x.view g run ≡ x.entries
        puts =
            ap (puts_of p.node x.view g) whole ∙ left_puts p.node x.view s.view was.0 c.members same_inc less g upto entering seen_whole (inr was.1) entered_then ∙ sym stay.1

        size : len ≡ length x.entries
        size =
            sym comes.1 ∙ ap (λ (es : List Entry). length es) (puts_same p.node u g h) ∙ ap (λ w. length (puts_of p.node w g run)) view ∙ ap (λ (es : List Entry). length es) puts

    -- whoever stands in a base, the group has one
    ended : Ended
    ended = by c.base
      where
        by : (s.base ≡ empty_state) ⊎ ((u : ViewId) × (len : ℕ) × Has (happened.Base p.node s.view g u len s.base) rs) → Ended
        by (inl q) = let none : false ≡ true = ap (λ (t : GroupState). among (present t) p) (sym q) ∙ pass.there in absurd (cc)
        by (inr (u, len, k)) = based u len k

    -- where it heard nothing in the view it heard the latest before it entered it
    heard_then : ((i : ℕ) (e : Entry) (ms : List ProviderId) (value : List ℕ) → Has (happened.Heard p s.view g i e ms value) rs → ⊥) → heard_by p rs ≡ heard_by p c.before
    heard_then unheard = ap (heard_by p) c.is ∙ heard_skip p c.newer entering none
      where
        here : (w : ViewId) (k : List ℕ) (i : ℕ) (e : Entry) (ms : List ProviderId) (value : List ℕ) → Has (happened.Heard p w k i e ms value) c.newer → Has (happened.Heard p w k i e ms value) rs
        here w k i e ms value z = subst (Has (happened.Heard p w k i e ms value)) (sym c.is) (append_has_left (happened.Heard p w k i e ms value) c.newer entering z)

        now : view_now p.node rs ≡ Some s.view
        now = (stay_is p.node g rs facts.seen s (x ∷ older) at).0

        none : (w : ViewId) (k : List ℕ) (i : ℕ) (e : Entry) (ms : List ProviderId) (value : List ℕ) → Has (happened.Heard p w k i e ms value) c.newer → ⊥
        none w k i e ms value z =
            let low : Le s.view w = heard_since p s.view w c.members k i e ms value inc_in_view c.newer entering cut.seen entered_then z in
            let mine : Hears p w k i e rs = hears p w k i e ms value rs facts.seen (here w k i e ms value z) in
            let high : Le w s.view = view_latest p.node rs facts.seen s.view now w mine.members mine.entered (mine.inc ∙ sym inc) in
            let view : w ≡ s.view = le_antisym w s.view high low in
            let name : k ≡ g = one w k i e ms value (subst (Has (happened.Heard p w k i e ms value)) (sym is) (append_has_right (happened.Heard p w k i e ms value) later rs (here w k i e ms value z))) in
            unheard i e ms value (subst (λ (y : ViewId × List ℕ). Has (happened.Heard p y.0 y.1 i e ms value) rs) (λ j. (view j, name j)) (here w k i e ms value z))

    nothing : x.entries ≡ [] → (i : ℕ) (e : Entry) (ms : List ProviderId) (value : List ℕ) → Has (happened.Heard p x.view g i e ms value) c.before → ⊥
    nothing q i e ms value z =
        let put = put_get c.before facts_then.seen p.node x.view g i e (hears p x.view g i e ms value c.before facts_then.seen z).put in
        let none : None ≡ Some e = ap (λ (es : List Entry). slice_get es i) (sym q ∙ stay.1) ∙ put in
        absurd (cc)

    abbrev later_then : List Happened
    later_then = (later ++ c.newer) ++ happened.In p.node s.view c.members ∷ []

    all_then : all ≡ later_then ++ c.before
    all_then =
        is ∙ ap (λ ys. later ++ ys) c.is ∙ sym (append_assoc later c.newer entering) ∙ sym (append_assoc (later ++ c.newer) (happened.In p.node s.view c.members ∷ []) c.before)

    -- where entries were put it heard the last of them
    last_there : (m : ℕ) → length x.entries ≡ m + 1 → Newest p x.view m c.before
    last_there m len =
        let k = heard_last p g all x older m pass.first len pass.first_is pass.last c.before facts_then.seen facts_then.bases facts_then.heard c.stayed in
        let seen_all : Seen ((later ++ c.newer) ++ entering) = subst Seen (is ∙ ap (λ ys. later ++ ys) c.is ∙ sym (append_assoc later c.newer entering)) (seen_after after all (subst Seen front seen)) in
        let split : Has (happened.Heard p x.view g m k.0 k.1 k.2) ((later ++ c.newer) ++ entering) = subst (Has (happened.Heard p x.view g m k.0 k.1 k.2)) (is ∙ ap (λ ys. later ++ ys) c.is ∙ sym (append_assoc later c.newer entering)) k.3 in
        let old = left_hears p.node x.view s.view was.0 c.members same_inc less p refl g m k.0 k.1 k.2 (later ++ c.newer) entering seen_all (inr was.1) entered_then split in
        newest p x.view g m k.0 k.1 k.2 c.before facts_then.seen stay.0 inc_then (ap (λ (es : List Entry). length es) (sym stay.1) ∙ len) (λ w n i f os val z. one w n i f os val (subst (Has (happened.Heard p w n i f os val)) (sym all_then) (append_has_right (happened.Heard p w n i f os val) later_then c.before z))) (by k.0 k.1 k.2 old)
      where
        by : (e : Entry) (ms : List ProviderId) (value : List ℕ) → Has (happened.Heard p x.view g m e ms value) entering → Has (happened.Heard p x.view g m e ms value) c.before
        by e ms value (inl q) = absurd (cc)
        by e ms value (inr k) = k

    step_back : Back s x older rs
    step_back =
        record {
          before = c.before;
          later = later_then;
          is = all_then;
          facts = facts_then;
          stayed = c.stayed;
          inc = inc_then;
          state = (ended).state;
          noted = (ended).noted;
          heard = heard_then;
          nothing = nothing;
          newest = last_there;
        }

  -- who passes into a view heard the latest where the group goes on from
  pub passed : (older : List Stay) (s : Stay) (later rs : List Happened) → all ≡ later ++ rs → Facts p all rs → stays p.node g rs ≡ s ∷ older → inc_now p.node rs ≡ p.inc → passes p s.base (part p older) ≡ true
      → ((i : ℕ) (e : Entry) (ms : List ProviderId) (value : List ℕ) → Has (happened.Heard p s.view g i e ms value) rs → ⊥) → Before rs s.view
  passed [] s later rs is facts at inc pass unheard = absurd (cc)
  passed (x ∷ older) s later rs is facts at inc pass unheard =
      let k : Passes p s.base (part p (x ∷ older)) = passing p s.base (part p (x ∷ older)) pass in
      let b : Back s x older rs = step_back s x older later rs is facts at inc k in
      on k.first k.first_is b (λ q m. passed older x b.later b.before b.is b.facts b.stayed b.inc m (b.nothing q))
    where
      from : (f : ℕ) (es : List Entry) (b : Bool) → es ≡ [] → passes p x.base (part p older) ≡ b → first_in p es b ≡ Some f → passes p x.base (part p older) ≡ true
      from f es true q t z = t
      from f [] false q t z = absurd (cc)
      from f (y ∷ es) false q t z = absurd (cc)

      empty : (b : Back s x older rs) → x.entries ≡ [] → Before b.before x.view → Before rs s.view
      empty b q old =
          record {
            hearing = old.hearing;
            rest = old.rest;
            is = b.heard unheard ∙ old.is;
            goes = Over s.view p.node x.view b.state (subst (λ n. Has (happened.Base p.node s.view g x.view n b.state) run) (ap (λ (es : List Entry). length es) q) b.noted) old.goes;
          }

      full : (b : Back s x older rs) (m : ℕ) → length x.entries ≡ m + 1 → Newest p x.view m b.before → Before rs s.view
      full b m len n =
          record {
            hearing = n.hearing;
            rest = n.rest;
            is = b.heard unheard ∙ n.is;
            goes = Next s.view p.node b.state (subst (λ (z : ViewId × ℕ). Has (happened.Base p.node s.view g z.0 z.1 b.state) run) (λ j. (sym n.view j, size j)) b.noted);
          }
        where
          size : length x.entries ≡ n.hearing.place + 1
          size = len ∙ ap (λ z. z + 1) (sym n.place)

      on : (f : ℕ) → (part p (x ∷ older)).first ≡ Some f → (b : Back s x older rs) → (x.entries ≡ [] → passes p x.base (part p older) ≡ true → Before b.before x.view) → Before rs s.view
      on f first b rest = by x.entries refl
        where
          by : (es : List Entry) → x.entries ≡ es → Before rs s.view
          by [] q = empty b q (rest q (from f x.entries (passes p x.base (part p older)) q refl first))
          by (y ∷ es) q =
              let more : length x.entries ≡ length (y ∷ es) = ap (λ (ys : List Entry). length ys) q in
              let len : length x.entries ≡ length es + 1 = omega (arith, more) in
              full b (length es) len (b.newest (length es) len)
