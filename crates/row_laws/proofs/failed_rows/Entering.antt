-- Entering a view, and what a rule of views leaves.
use Rattle.std.proofs.Common.{◌≡◌, ◌⊎◌, ℕ, List, [], ◌∷◌, ◌++◌, Option, Some, None, Bool, true, false, refl, sym, ap, ◌∙◌, subst, inl, inr, ⊎_elim, append_assoc, append-nil}
use Rattle.std.specs.Prelude.{◌==◌, ◌&&◌, not, map, filter, fold, find, flat_map, is_some, reverse, if◌then◌else◌}
use Rattle.std.specs.Str.{bytes_eq}
use Rattle.std.specs.Option.{option_map}
use Rattle.std.proofs.lemmas.Bool.{and_parts, eq-eqb}
use Rattle.std.proofs.lemmas.List.{reverse-append}
use Rattle.rsct_packet.specs.declared.ids.ProviderId.{ProviderId}
use Rattle.rsct_packet.specs.Ids.{same_view}
use Rattle.rsct_packet.specs.Providers.{among, none_among}
use Rattle.rsct_packet.specs.Search.{Has}
use Rattle.rsct_packet.proofs.HasLaws.{has_append, append_has_right, has_map, has_filter, all_has, find_has, has_reverse}
use Rattle.group_attr.specs.Attrs.{host_membership}
use Rattle.proposal_core.specs.declared.proposal.Cause.TheVariants.{Died}
use Rattle.proposal_core.specs.declared.proposal.Proposal.{Proposal}
use Rattle.proposal_core.specs.declared.proposal.Proposal.TheVariants.{Join}
use Rattle.proposal_core.specs.declared.entry.Entry.{Entry}
use Rattle.proposal_core.specs.declared.group_state.GroupState.{GroupState}
use Rattle.proposal_core.specs.declared.group_state.Running.{Running}
use Rattle.proposal_core.specs.Fold.{empty_state, present, joins_of, joiners_in, can_begin, joiners_fit_at, joiners_fit}
use Rattle.proposal_core.specs.Lists.{state_in, len_in}
use Rattle.batch_rules.specs.Waiting.{add_failure}
use Rattle.subscribe_core.specs.declared.subs.Subscription.{Subscription}
use Rattle.client_callbacks.specs.declared.told.Told.TheVariants as told
use Rattle.client_callbacks.specs.declared.told.Why.TheVariants.{Dissolved}
use Rattle.session_state.specs.declared.state.Provider.{Provider}
use Rattle.session_state.specs.State.{is_provider, provider_of, outstanding}
use Rattle.view_state.specs.declared.install.Install.{Install}
use Rattle.view_state.specs.declared.install.Base.{Base}
use Rattle.view_state.specs.Bases.{bases_of, base_named}
use Rattle.view_state.specs.declared.packet.ViewPacket.TheVariants as packet
use Rattle.view_state.specs.declared.packet.ViewSend.{ViewSend}
use Rattle.view_state.specs.declared.views.ViewWork.{ViewWork}
use Rattle.view_state.specs.Views.{views_entered}
use Rattle.node_state.specs.declared.group.GroupRow.{GroupRow}
use Rattle.node_state.specs.declared.happened.Happened.{Happened}
use Rattle.node_state.specs.declared.happened.Happened.TheVariants as happened
use Rattle.node_state.specs.declared.packet.Body.TheVariants as body
use Rattle.node_state.specs.declared.state.Core.{Core}
use Rattle.node_state.specs.State.{row_found, row_of, list_of, state_of, held_rows, recorded, recorded_all, with_sessions, with_row, with_led, has_name}
use Rattle.node_state.specs.Sending.{sent, send_requests}
use Rattle.node_state.specs.HandOn.{Answering, subscriber_name, note_of}
use Rattle.node_state.specs.Leading.{put_and_hand, with_waiting, tally_opened}
use Rattle.node_state.specs.Applying.{Lacking, lacking, fill_lists, level_set, base_row, base_record, view_entered, is_in_base, number_of, dissolved, dissolved_if, group_dissolved, sides_dissolved, base_note, entering_note, entering_noted, taken_sent, owed_sent, wait_failed, phase_reopened, lead, lead_groups, entered, entered_if, apply_install, views_taken}
use Rattle.run_safety.specs.Past.{History, records_of, inc_now}
use Rattle.run_safety.specs.Stays.{Stay, asks_join, is_refused, stays, with_base}
use Rattle.node_state.proofs.NameOrder.{row_here, text_same, found_itself}
use Rattle.step_refinement.proofs.SessionLaws.{provider_same}
use Rattle.step_refinement.proofs.BaseOrder.{bases_ordered, row_of_base, base_noted}
use Rattle.row_laws.proofs.hearing.Handing.{among_is, has_among}
use Rattle.row_laws.proofs.honest_votes.At.{found}
use Rattle.row_laws.proofs.honest_votes.Changes.{Every, NoGroup}
use Rattle.row_laws.specs.failed_rows.Failures.{FromElsewhere, IsCut, EachPut}
use Rattle.row_laws.proofs.failed_rows.Queues.{Stays, failed_stays}
use Rattle.row_laws.proofs.failed_rows.Bases.{bases_put, bases_track, base_is, new_stay, bases_entered}
use Rattle.row_laws.proofs.failed_rows.Facts.{Whys, JoinedIn, takers_pushed, Quiet, Unasked, BasesFit, Stepped, stepped_incs, BodyFails, body_on, Track, own_pushed, Split, split, turned_split}
use Rattle.row_laws.proofs.failed_rows.Living.{slim_same}
use Rattle.row_laws.proofs.failed_rows.Origin.{Origin, slim_more, slim_on}
use Rattle.row_laws.proofs.failed_rows.At.{At, at_fold, at_sent, at_recorded_all, at_views, at_told}
use Rattle.row_laws.proofs.failed_rows.Sends.{at_requests_sent, at_votes_again}
use Rattle.row_laws.proofs.failed_rows.Puts.{at_put_and_handed_for}
use Rattle.row_laws.proofs.failed_rows.Leading.{at_waits, at_opened_anew, at_closes}
use Rattle.row_laws.proofs.failed_rows.Ending.{at_led_groups}

-- a member is no joiner
no_joiner : (st : GroupState) (p : ProviderId) → joiners_fit st ≡ true → among st.members p ≡ true → among (joiners_in st.running) p ≡ false
unfolding joiners_fit joiners_fit_at can_begin
no_joiner st p fit m = by st.running fit
  where
    of : (x : Proposal) → can_begin st x ≡ true → among (joins_of x) p ≡ false
    of (Join ps attrs n) k = at (among ps p) refl
      where
        at : (b : Bool) → among ps p ≡ b → b ≡ false
        at false e = refl
        at true e =
            let out : not (among st.members p) ≡ true = all_has (λ q. not (among st.members q)) ps p (and_parts (none_among st.members ps) _ k).0 (among_is ps p e) in
            let z : not true ≡ true = ap not (sym m) ∙ out in absurd (cc)
    of _ k = refl

    by : (run : Option Running) → joiners_fit_at st run ≡ true → among (joiners_in run) p ≡ false
    by None k = refl
    by (Some run) k = of run.proposal k

module _ (h : History) (said : ProviderId → Type 0) (origin : Origin) (P L M : Type 0) (live : L) where
  abbrev Full : Core → Type 0
  Full s = At h said origin P L M Every NoGroup Every s

  -- while the old lists are filled, nothing is said of what is put
  abbrev Loose : Core → Type 0
  Loose s = At h said origin ⊥ L M NoGroup NoGroup NoGroup s

  loosened : (s : Core) → Full s → Loose s
  loosened s a =
      record {
        inc = a.inc;
        counted = a.counted;
        own = a.own;
        slim = a.slim;
        sends = a.sends;
        puts = λ z. absurd z;
        accepted = a.accepted;
        whose = a.whose;
        order = a.order;
        tracks = a.tracks;
        marks = a.marks;
        tallies = λ g z. absurd z;
        queues = λ fit g z. absurd z;
        apart = a.apart;
        led = λ g z. absurd z;
        whys = a.whys;
        takers = a.takers;
      }

  -- (1)
  entries_filled : (f : Answering) (g : List ℕ) (es : List Entry) (s : Core) → Loose s → Loose (fold (λ u e. put_and_hand f u None g e) s es)
  entries_filled f g [] s a = a
  entries_filled f g (e ∷ es) s a =
      entries_filled f g es (put_and_hand f s None g e) (at_put_and_handed_for h said origin ⊥ L M NoGroup NoGroup NoGroup NoGroup NoGroup f s None g e live (λ z. absurd z) (λ k u ne. u) (λ k u ne. u) (λ u. absurd u) (λ fit u. absurd u) a)

  all_filled : (f : Answering) (xs : List Lacking) (s : Core) → Loose s → Loose (fold (λ t (x : Lacking). fold (λ u e. put_and_hand f u None x.name e) t x.entries) s xs)
  all_filled f [] s a = a
  all_filled f (x ∷ xs) s a = all_filled f xs (fold (λ u e. put_and_hand f u None x.name e) s x.entries) (entries_filled f x.name x.entries s a)

  -- (2) in a view that is entered nothing is counted yet, and nobody waits
  at_view_entered : (s : Core) (i : Install) → Loose s → Full (view_entered s i (bases_of i))
  unfolding view_entered level_set base_record base_row base_named views_entered recorded_all joiners_fit joiners_fit_at provider_of
  at_view_entered s i a =
      record {
        inc = a.inc;
        counted = a.counted;
        own = own_pushed h said origin.born s.sessions s rs unasked a.own;
        slim = slim_on origin.root s.sessions (level_set s i.members) (s.records ++ rs) (slim_same s.sessions (level_set s i.members) refl refl refl) (slim_more origin.root s.sessions s.records rs asks a.slim);
        sends = λ p j. subst (λ z. BodyFails said z p.body) (sym turned) (body_on said (reverse rs) (reverse s.records ++ records_of h) p.body (a.sends p j));
        puts = λ l fit. subst (λ z. EachPut (reverse z) h) (append_assoc s.records (entering ∷ []) (map (base_noted me i.view) bs)) (bases_put h me i.view bs (s.records ++ entering ∷ []) (subst (λ z. EachPut z h) (sym (reverse-append s.records (entering ∷ []))) tt));
        accepted = λ m r j. ⊎_elim (λ (k : Has r s.records). a.accepted m r k) (λ (k : Has r rs). plain r k) (has_append r s.records rs j);
        whose = λ r j. ⊎_elim (λ (k : Has r s.records). a.whose r k) (λ (k : Has r rs). mine r k) (has_append r s.records rs j);
        order = bases_ordered i;
        tracks = λ l g. subst (λ z. Track (stays me g (reverse z ++ records_of h)) i.view (len_in (row_found g (find (has_name g) (map base_row bs))).list) (state_in (row_found g (find (has_name g) (map base_row bs))).list)) (append_assoc s.records (entering ∷ []) (map (base_noted me i.view) bs)) (bases_track me i.view i.members g bs s.records (records_of h) (bases_ordered i));
        marks = λ l g p j. absurd (unmarked g (base_named bs g) p (ap (λ (x : GroupRow). among x.led.gone p) (sym (row_is g)) ∙ j));
        tallies = λ g u. inl (ap (λ (x : GroupRow). x.led.tally) (row_is g) ∙ uncounted g (base_named bs g));
        queues = λ fit g u. inl (ap (λ (x : GroupRow). x.led.waiting.failures) (row_is g) ∙ unqueued g (base_named bs g));
        apart = λ l fit g. ap (λ (x : GroupRow). joiners_fit (state_in x.list)) (row_is g) ∙ fitted fit g;
        led = λ g z. absurd z;
        whys = λ g. subst (λ (x : GroupRow). Whys x.led) (sym (row_is g)) (unkept g (base_named bs g));
        takers = takers_pushed h me s.sessions s.records rs a.takers;
      }
    where
      bs : List Base
      bs = bases_of i

      me : ℕ
      me = s.views.me

      entering : Happened
      entering = happened.In me i.view i.members

      rs : List Happened
      rs = entering ∷ map (base_noted me i.view) bs

      turned : reverse (s.records ++ rs) ++ records_of h ≡ reverse rs ++ (reverse s.records ++ records_of h)
      turned = ap (λ z. z ++ records_of h) (reverse-append s.records rs) ∙ append_assoc (reverse rs) (reverse s.records) (records_of h)

      plain : (r : Happened) → Has r rs → is_refused r ≡ false
      plain r (inl e) = ap is_refused e
      plain r (inr j) = let k = has_map (base_noted me i.view) r bs j in ap is_refused k.2

      unasked : (r : Happened) → Has r rs → (p : ProviderId) → asks_join p r ≡ false
      unasked r (inl e) p = ap (asks_join p) e
      unasked r (inr j) p = let k = has_map (base_noted me i.view) r bs j in ap (asks_join p) k.2

      asks : (r : Happened) → Has r rs → Unasked r
      asks r (inl e) = subst Unasked (sym e) tt
      asks r (inr j) = let k = has_map (base_noted me i.view) r bs j in subst Unasked (sym k.2) tt

      mine : (r : Happened) → Has r rs → Stepped me r
      mine r (inl e) = subst (Stepped me) (sym e) refl
      mine r (inr j) = let k = has_map (base_noted me i.view) r bs j in subst (Stepped me) (sym k.2) refl

      row_is : (g : List ℕ) → row_found g (find (has_name g) (map base_row bs)) ≡ row_found g (option_map base_row (base_named bs g))
      row_is g = ap (row_found g) (row_of_base g bs)

      unmarked : (g : List ℕ) (o : Option Base) (p : ProviderId) → among (row_found g (option_map base_row o)).led.gone p ≡ true → ⊥
      unmarked g None p e = cc
      unmarked g (Some b) p e = cc

      unkept : (g : List ℕ) (o : Option Base) → Whys (row_found g (option_map base_row o)).led
      unkept g None d j = absurd j
      unkept g (Some b) d j = absurd j

      uncounted : (g : List ℕ) (o : Option Base) → (row_found g (option_map base_row o)).led.tally ≡ None
      uncounted g None = refl
      uncounted g (Some b) = refl

      unqueued : (g : List ℕ) (o : Option Base) → (row_found g (option_map base_row o)).led.waiting.failures ≡ []
      unqueued g None = refl
      unqueued g (Some b) = refl

      fitted : BasesFit (s.records ++ rs) → (g : List ℕ) → joiners_fit (state_in (row_found g (option_map base_row (base_named bs g))).list) ≡ true
      fitted fit g = by (base_named bs g) refl
        where
          map_has : {A B : Type 0} (f : A → B) (x : A) (xs : List A) → Has x xs → Has (f x) (map f xs)
          map_has f x [] k = absurd k
          map_has f x (y ∷ ys) (inl q) = inl (ap f q)
          map_has f x (y ∷ ys) (inr k) = inr (map_has f x ys k)

          named_there : (xs : List Base) (b : Base) → base_named xs g ≡ Some b → Has b xs
          named_there xs b e = (find_has (λ (b : Base). bytes_eq b.name g) xs b e).0

          noted_there : (b : Base) → base_named bs g ≡ Some b → Has (base_noted me i.view b) (s.records ++ rs)
          noted_there b e = append_has_right (base_noted me i.view b) s.records rs (inr (map_has (base_noted me i.view) b bs (named_there bs b e)))

          by : (o : Option Base) → base_named bs g ≡ o → joiners_fit (state_in (row_found g (option_map base_row o)).list) ≡ true
          by None e = refl
          by (Some b) e = fit (base_noted me i.view b) (noted_there b e)

  -- (3) each that is dissolved was held up to then, and is not in the base, or the base came from another view
  module _ (s : Core) (i : Install) (was : Loose s) where
    abbrev bases : List Base
    bases = bases_of i

    abbrev old_stays : List ℕ → List Stay
    old_stays g = stays s.views.me g (reverse s.records ++ records_of h)

    -- where a base was noted the node had been in the view before, in its incarnation
    record NotedAt (t : Core) (b : Base) : Type 0 where
      newer : List Happened
      older : List Happened
      is : reverse t.records ++ records_of h ≡ newer ++ base_noted s.views.me i.view b ∷ older
      stayed : (g : List ℕ) → (x : Stay) × (stays s.views.me g older ≡ x ∷ old_stays g)
      inc : inc_now s.views.me older ≡ origin.born

    record Inside (t : Core) : Type 0 where
      at : Full t
      me : t.views.me ≡ s.views.me
      stayed : (g : List ℕ) → stays s.views.me g (reverse t.records ++ records_of h) ≡ new_stay i.view (base_is (base_named bases g)) ∷ old_stays g
      noted : (b : Base) → Has b bases → NotedAt t b

    inside_entered : Full (view_entered s i bases) → Inside (view_entered s i bases)
    unfolding view_entered recorded_all base_record views_entered
    inside_entered a =
        record {
          at = a;
          me = refl;
          stayed = λ g. subst (λ z. stays s.views.me g (reverse z ++ records_of h) ≡ new_stay i.view (base_is (base_named bases g)) ∷ old_stays g) (append_assoc s.records (happened.In s.views.me i.view i.members ∷ []) (map (base_noted s.views.me i.view) bases)) (bases_entered s.views.me i.view i.members g bases s.records (records_of h) (bases_ordered i));
          noted = λ b k. noted_at b (split b bases k);
        }
      where
        rs : List Happened
        rs = happened.In s.views.me i.view i.members ∷ map (base_noted s.views.me i.view) bases

        me : ℕ
        me = s.views.me

        entering : Happened
        entering = happened.In me i.view i.members

        first : List Happened
        first = s.records ++ entering ∷ []

        -- the bases before leave what was before
        still : (g : List ℕ) (bs : List Base) (acc : List Happened) → (x : Stay) × (stays me g (reverse acc ++ records_of h) ≡ x ∷ old_stays g) → (x : Stay) × (stays me g (reverse (acc ++ map (base_noted me i.view) bs) ++ records_of h) ≡ x ∷ old_stays g)
        still g [] acc k = (k.0, ap (λ z. stays me g (reverse z ++ records_of h)) (append-nil acc) ∙ k.1)
        still g (b ∷ bs) acc k =
            let z = still g bs (acc ++ base_noted me i.view b ∷ []) (by (me == me && bytes_eq b.name g) refl) in
            (z.0, ap (λ y. stays me g (reverse y ++ records_of h)) (sym (append_assoc acc (base_noted me i.view b ∷ []) (map (base_noted me i.view) bs))) ∙ z.1)
          where
            old : List Stay
            old = stays me g (reverse acc ++ records_of h)

            by : (t : Bool) → (me == me && bytes_eq b.name g) ≡ t → (x : Stay) × (stays me g (reverse (acc ++ base_noted me i.view b ∷ []) ++ records_of h) ≡ x ∷ old_stays g)
            by true q =
                (record (k.0) { base = b.state }, ap (λ z. stays me g (z ++ records_of h)) (reverse-append acc (base_noted me i.view b ∷ [])) ∙ ap (λ z. if z then with_base b.state old else old) q ∙ ap (with_base b.state) k.1)
            by false q =
                (k.0, ap (λ z. stays me g (z ++ records_of h)) (reverse-append acc (base_noted me i.view b ∷ [])) ∙ ap (λ z. if z then with_base b.state old else old) q ∙ k.1)

        here : (g : List ℕ) → (x : Stay) × (stays me g (reverse first ++ records_of h) ≡ x ∷ old_stays g)
        here g =
            (new_stay i.view empty_state, ap (λ z. stays me g (z ++ records_of h)) (reverse-append s.records (entering ∷ [])) ∙ ap (λ z. if z then new_stay i.view empty_state ∷ old_stays g else old_stays g) (eq-eqb me me refl))

        -- the records are of the step
        own : (bs : List Base) (r : Happened) → Has r (first ++ map (base_noted me i.view) bs) → Stepped me r
        own bs r k = by (has_append r first (map (base_noted me i.view) bs) k)
          where
            by : Has r first ⊎ Has r (map (base_noted me i.view) bs) → Stepped me r
            by (inl j) = ⊎_elim (λ (a : Has r s.records). was.whose r a) last (has_append r s.records (entering ∷ []) j)
              where
                last : Has r (entering ∷ []) → Stepped me r
                last (inl e) = subst (Stepped me) (sym e) refl
                last (inr z) = absurd z
            by (inr j) = let z = has_map (base_noted me i.view) r bs j in subst (Stepped me) (sym z.2) refl

        map_split : (xs : List Base) (b : Base) (ys : List Base) → map (base_noted me i.view) (xs ++ b ∷ ys) ≡ map (base_noted me i.view) xs ++ base_noted me i.view b ∷ map (base_noted me i.view) ys
        map_split [] b ys = refl
        map_split (x ∷ xs) b ys = ap (λ z. base_noted me i.view x ∷ z) (map_split xs b ys)

        noted_at : (b : Base) → Split b bases → NotedAt (view_entered s i bases) b
        noted_at b k =
            record {
              newer = reverse (map (base_noted me i.view) k.after);
              older = reverse (first ++ map (base_noted me i.view) k.before) ++ records_of h;
              is = ap (λ z. reverse (s.records ++ entering ∷ map (base_noted me i.view) z) ++ records_of h) k.is ∙ ap (λ z. reverse (s.records ++ entering ∷ z) ++ records_of h) (map_split k.before b k.after) ∙ ap (λ z. reverse z ++ records_of h) (sym (append_assoc s.records (entering ∷ []) (map (base_noted me i.view) k.before ++ base_noted me i.view b ∷ map (base_noted me i.view) k.after)) ∙ sym (append_assoc first (map (base_noted me i.view) k.before) (base_noted me i.view b ∷ map (base_noted me i.view) k.after))) ∙ turned_split (base_noted me i.view b) (first ++ map (base_noted me i.view) k.before) (map (base_noted me i.view) k.after) (records_of h);
              stayed = λ g. still g k.before first (here g);
              inc = stepped_incs me me (reverse (first ++ map (base_noted me i.view) k.before)) (records_of h) (λ r j. own k.before r (has_reverse r (first ++ map (base_noted me i.view) k.before) j)) ∙ was.counted;
            }

    -- it is not in the base, or the base is from another view than the last
    abbrev CutIn : Core → List ℕ → ProviderId → Stay → GroupState → Type 0
    CutIn t g p last st = (among (present st) p ≡ false) ⊎ FromElsewhere (reverse t.records ++ records_of h) p g (new_stay i.view st) last

    cut_of : (t : Core) (g : List ℕ) (p : ProviderId) → Inside t → p.node ≡ s.views.me → p.inc ≡ origin.born → Has p (present (state_in (found s g).list)) → is_in_base s.views.view p (base_named bases g) ≡ false → JoinedIn s.views.me p g (reverse t.records ++ records_of h) → IsCut (reverse t.records ++ records_of h) p
    unfolding is_in_base base_named
    cut_of t g p k node inc there out joined =
        record {
          group = g;
          stay = new_stay i.view (base_is (base_named bases g));
          last = track.stay;
          rest = track.older;
          stays_so = ap (λ n. stays n g (reverse t.records ++ records_of h)) node ∙ k.stayed g ∙ ap (λ xs. new_stay i.view (base_is (base_named bases g)) ∷ xs) track.is;
          empty = refl;
          joined = subst (λ n. JoinedIn n p g (reverse t.records ++ records_of h)) (sym node) joined;
          held = ap (λ z. among (present z) p) track.state ∙ has_among (present (state_in (found s g).list)) p there;
          cut = by (base_named bases g) refl out;
        }
      where
        track : Track (old_stays g) s.views.view (len_in (found s g).list) (state_in (found s g).list)
        track = was.tracks live g

        by : (o : Option Base) → base_named bases g ≡ o → is_in_base s.views.view p o ≡ false → CutIn t g p track.stay (base_is o)
        by None e q = inl refl
        by (Some b) e q = among_it (among (present b.state) p) refl q
          where
            k_has : Has b bases × (bytes_eq b.name g ≡ true)
            k_has = find_has (λ (x : Base). bytes_eq x.name g) bases b e

            left_false : (c : Bool) → (c && true) ≡ false → c ≡ false
            left_false true y = absurd (cc)
            left_false false y = refl

            among_it : (c : Bool) → among (present b.state) p ≡ c → (same_view b.from s.views.view && among (present b.state) p) ≡ false → CutIn t g p track.stay b.state
            among_it false z q = inl z
            among_it true c q =
                let at : NotedAt t b = k.noted b k_has.0 in
                let z = at.stayed g in
                inr (record {
                  from = b.from;
                  len = b.len;
                  newer = at.newer;
                  older = at.older;
                  moment = subst (λ (y : ℕ × List ℕ). reverse t.records ++ records_of h ≡ at.newer ++ happened.Base y.0 i.view y.1 b.from b.len b.state ∷ at.older) (λ j. (sym node j, text_same b.name g k_has.1 j)) at.is;
                  entered = z.0;
                  rest = track.older;
                  stays_so = ap (λ n. stays n g at.older) node ∙ z.1 ∙ ap (λ xs. z.0 ∷ xs) track.is;
                  apart = ap (same_view b.from) track.view ∙ left_false (same_view b.from s.views.view) (ap (λ y. same_view b.from s.views.view && y) (sym c) ∙ q);
                  inc = ap (λ n. inc_now n at.older) node ∙ at.inc ∙ sym inc;
                })

    inside_dissolved : (t : Core) (p : ProviderId) (r : ℕ) → (p.node ≡ s.views.me → p.inc ≡ origin.born → IsCut (reverse t.records ++ records_of h) p) → Inside t → Inside (dissolved t p r)
    unfolding dissolved recorded with_sessions
    inside_dissolved t p r cut k =
        record {
          at = at_told h said origin P L M Every NoGroup Every t p r Dissolved (λ me inc j. inr (refl, cut (me ∙ k.me) inc)) k.at;
          me = k.me;
          stayed = λ g. ap (λ z. stays s.views.me g (z ++ records_of h)) turned ∙ k.stayed g;
          noted = λ b j. let at : NotedAt t b = k.noted b j in record { newer = happened.Told p r Dissolved ∷ at.newer; older = at.older; is = ap (λ z. z ++ records_of h) turned ∙ ap (λ z. happened.Told p r Dissolved ∷ z) at.is; stayed = at.stayed; inc = at.inc };
        }
      where
        turned : reverse (t.records ++ happened.Told p r Dissolved ∷ []) ≡ happened.Told p r Dissolved ∷ reverse t.records
        turned = reverse-append t.records (happened.Told p r Dissolved ∷ [])

    inside_if : (t : Core) (g : List ℕ) (p : ProviderId) (o : Option Provider) → provider_of t.sessions p ≡ o → Has p (present (state_in (found s g).list)) → Inside t → Inside (dissolved_if t g s.views.view (base_named bases g) o)
    unfolding dissolved_if provider_of
    inside_if t g p None e there k = k
    inside_if t g p (Some x) e there k = by x.takes_part refl (bytes_eq x.group g) refl (is_in_base s.views.view x.provider (base_named bases g)) refl
      where
        same : x.provider ≡ p
        same = provider_same x.provider p (find_has (is_provider p) t.sessions.providers x e).1

        by : (a : Bool) → x.takes_part ≡ a → (b : Bool) → bytes_eq x.group g ≡ b → (c : Bool) → is_in_base s.views.view x.provider (base_named bases g) ≡ c → Inside (elim (a && b && not c) as (λ _. Core) [ true ↦ dissolved t x.provider (number_of (outstanding t.sessions x.provider)) | false ↦ t ])
        by false part b y c q = k
        by true part false y c q = k
        by true part true y true q = k
        by true part true y false q =
            inside_dissolved t x.provider (number_of (outstanding t.sessions x.provider)) (λ node inc. cut_of t g x.provider k node inc (subst (λ z. Has z (present (state_in (found s g).list))) (sym same) there) q joined) k
          where
            joined : JoinedIn s.views.me x.provider g (reverse t.records ++ records_of h)
            joined =
                subst (λ (z : ℕ × ProviderId × List ℕ). JoinedIn z.0 z.1 z.2 (reverse t.records ++ records_of h)) (λ j. (k.me j, sym same j, text_same x.group g y j)) ((k.at).takers p x e part)

    inside_group : (row : GroupRow) → found s row.name ≡ row → (ps : List ProviderId) → ((p : ProviderId) → Has p ps → Has p (present (state_in row.list))) → (t : Core) → Inside t → Inside (fold (λ (t : Core) p. dissolved_if t row.name s.views.view (base_named bases row.name) (provider_of t.sessions p)) t ps)
    inside_group row is [] all t k = k
    inside_group row is (p ∷ ps) all t k =
        inside_group row is ps (λ q j. all q (inr j)) (dissolved_if t row.name s.views.view (base_named bases row.name) (provider_of t.sessions p)) (inside_if t row.name p (provider_of t.sessions p) refl (subst (λ (z : GroupRow). Has p (present (state_in z.list))) (sym is) (all p (inl refl))) k)

    inside_sides : (rows : List GroupRow) → ((row : GroupRow) → Has row rows → Has row s.groups) → (t : Core) → Inside t → Inside (fold (group_dissolved s.views.view bases) t rows)
    unfolding group_dissolved
    inside_sides [] all t k = k
    inside_sides (row ∷ rows) all t k =
        inside_sides rows (λ x j. all x (inr j)) (group_dissolved s.views.view bases t row) (inside_group row (ap (row_found row.name) (found_itself s.groups row was.order (all row (inl refl)))) (present (state_in row.list)) (λ p j. j) t k)

    at_sides : Full (view_entered s i bases) → Full (sides_dissolved (view_entered s i bases) (held_rows s) s.views.view bases)
    unfolding sides_dissolved held_rows
    at_sides a =
        (inside_sides (filter (λ (row : GroupRow). is_some row.list) s.groups) (λ row j. (has_filter (λ (row : GroupRow). is_some row.list) row s.groups j).0) (view_entered s i bases) (inside_entered a)).at

  -- (4)
  note_quiet : (s : Core) (bs : List Base) (u : Subscription) (r : Happened) → Has r (entering_note s bs u) → Quiet r
  unfolding entering_note base_note note_of
  note_quiet s bs u r i = by (bytes_eq u.group host_membership) i
    where
      base : (o : Option Base) → Has r (base_note s u o) → Quiet r
      base None j = absurd j
      base (Some b) (inl e) = subst Quiet (sym e) tt
      base (Some b) (inr z) = absurd z

      by : (b : Bool) → Has r (elim b as (λ _. List Happened) [ true ↦ happened.Noted s.views.me (subscriber_name s.sessions u) s.views.view None (told.Hosts s.views.view s.views.members) ∷ [] | false ↦ base_note s u (base_named bs u.group) ]) → Quiet r
      by true (inl e) = subst Quiet (sym e) tt
      by true (inr z) = absurd z
      by false j = base (base_named bs u.group) j

  notes_quiet : (s : Core) (bs : List Base) (us : List Subscription) (r : Happened) → Has r (flat_map (entering_note s bs) us) → Quiet r
  notes_quiet s bs [] r i = absurd i
  notes_quiet s bs (u ∷ us) r i =
      ⊎_elim (λ (j : Has r (entering_note s bs u)). note_quiet s bs u r j) (λ (j : Has r (flat_map (entering_note s bs) us)). notes_quiet s bs us r j) (has_append r (entering_note s bs u) (flat_map (entering_note s bs) us) i)

  at_entering_noted : (s : Core) (bs : List Base) → Full s → Full (entering_noted s bs)
  unfolding entering_noted
  at_entering_noted s bs a = at_recorded_all h said origin P L M Every NoGroup Every (flat_map (entering_note s bs) s.sessions.subs.live) s (notes_quiet s bs s.sessions.subs.live) a

  -- (5) and (6)
  at_taken_sent : (s : Core) → Full s → Full (taken_sent s)
  unfolding taken_sent
  at_taken_sent s a = by (s.views.view.coord == s.views.me)
    where
      by : (b : Bool) → Full (elim b as (λ _. Core) [ true ↦ s | false ↦ sent s s.views.view.coord (body.View (packet.Taken s.views.view)) ])
      by true = a
      by false = at_sent h said origin P L M Every NoGroup Every s s.views.view.coord (body.View (packet.Taken s.views.view)) tt a

  at_owed_sent : (s : Core) → Full s → Full (owed_sent s)
  unfolding owed_sent
  at_owed_sent s a = at_votes_again h said origin P L M Every NoGroup Every (send_requests s) (at_requests_sent h said origin P L M Every NoGroup Every s a)

  -- (7)
  failed_waits : (G : List ℕ → Type 0) (g : List ℕ) (st : GroupState) (ps : List ProviderId) (s : Core) → G g → state_in (found s g).list ≡ st → ((p : ProviderId) → Has p ps → (among st.members p ≡ true) × (among st.failed p ≡ true)) → At h said origin P L M Every G Every s → At h said origin P L M Every G Every (fold (λ t p. with_waiting t g (add_failure p Died)) s ps)
  unfolding with_waiting with_led with_row row_of
  failed_waits G g st [] s led is all a = a
  failed_waits G g st (p ∷ ps) s led is all a =
      failed_waits G g st ps (with_waiting s g (add_failure p Died)) led (ap (λ (z : GroupRow). state_in z.list) (row_here g (λ row. record row { led = record (row.led) { waiting = add_failure p Died row.led.waiting } }) (λ x. refl) s a.order) ∙ is) (λ q i. all q (inr i)) (at_waits h said origin P L M Every G Every s g p Died led (λ fit w. new fit) a)
    where
      new : BasesFit s.records → Stays (state_in (found s g).list) p ≡ true
      new fit =
          let k = all p (inl refl) in
          failed_stays (state_in (found s g).list) p (ap (λ (z : GroupState). among z.failed p) is ∙ k.1) (no_joiner (state_in (found s g).list) p (a.apart live fit g) (ap (λ (z : GroupState). among z.members p) is ∙ k.0))

  at_group_led : (f : Answering) (G : List ℕ → Type 0) (s : Core) (g : List ℕ) → G g → At h said origin P L M Every G Every s → At h said origin P L M Every G Every (lead f s g)
  unfolding lead wait_failed phase_reopened state_of list_of row_of
  at_group_led f G s g led a = by (is_some st.running)
    where
      st : GroupState
      st = state_in (found s g).list

      t : Core
      t = wait_failed s g (filter (among st.members) st.failed)

      waits : At h said origin P L M Every G Every t
      waits =
          failed_waits G g st (filter (among st.members) st.failed) s led refl (λ p i. let k = has_filter (among st.members) p st.failed i in (k.1, has_among st.failed p k.0)) a

      by : (b : Bool) → At h said origin P L M Every G Every (phase_reopened f t g b)
      by false = waits
      by true = at_closes h said origin P L M Every G Every f (tally_opened t g) g live tt led (at_opened_anew h said origin P L M Every G Every t g live led waits)

  at_groups_led : (f : Answering) (s : Core) → Full s → Full (lead_groups f s)
  unfolding lead_groups
  at_groups_led f s a = at_led_groups h said origin P L M live (lead f) (at_group_led f) s a

  at_entered : (f : Answering) (s : Core) (i : Install) (xs : List Lacking) → Full s → Full (entered f s i xs)
  unfolding entered fill_lists
  at_entered f s i xs a =
      let t : Core = fill_lists f s xs in
      let bs : List Base = bases_of i in
      let filled : Loose t = all_filled f xs s (loosened s a) in
      let v : Core = view_entered t i bs in
      let d : Core = sides_dissolved v (held_rows t) t.views.view bs in
      let e : Full d = at_sides t i filled (at_view_entered t i filled) in
      at_groups_led f (owed_sent (taken_sent (entering_noted d bs))) (at_owed_sent (taken_sent (entering_noted d bs)) (at_taken_sent (entering_noted d bs) (at_entering_noted d bs e)))

  at_applied : (f : Answering) (s : Core) (o : Option Install) → Full s → Full (apply_install f s o)
  unfolding apply_install entered_if
  at_applied f s None a = a
  at_applied f s (Some i) a = by (lacking s i)
    where
      by : (o : Option (List Lacking)) → Full (entered_if f s i o)
      by None = a
      by (Some xs) = at_entered f s i xs a

  -- ---- a rule of views

  pub at_views_taken : (f : Answering) (s : Core) (w : ViewWork) → w.views.me ≡ s.views.me → w.views.view ≡ s.views.view → w.views.inc ≡ s.views.inc → Full s → Full (views_taken f s w)
  unfolding views_taken
  at_views_taken f s w me view inc a =
      let c : Core = record s { views = w.views } in
      let d : Core = fold (λ t (x : ViewSend). sent t x.to (body.View x.packet)) c w.sends in
      at_applied f d w.install (at_fold h said origin P L M Every NoGroup Every (λ t (x : ViewSend). sent t x.to (body.View x.packet)) w.sends (λ t x i k. at_sent h said origin P L M Every NoGroup Every t x.to (body.View x.packet) tt k) c (at_views h said origin P L M Every NoGroup Every s w.views me view inc a))
