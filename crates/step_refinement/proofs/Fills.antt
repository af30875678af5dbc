-- As a view is entered, the list of the old one is filled up first: what it lacks is put, and handed on. The lines are no
-- life of the group until the view is entered.
use Rattle.std.proofs.Common.{◌≡◌, ℕ, ◌+◌, ◌-◌, ◌≤◌, suc, List, [], ◌∷◌, ◌++◌, length, drop, Option, Some, None, Bool, true, false, refl, sym, ap, ◌∙◌, subst, inl, inr, ⊎_elim, append_assoc, length-append, arith}
use Rattle.std.specs.Prelude.{reverse, fold, flat_map, nat_le, nat_lt, if◌then◌else◌}
use Rattle.std.specs.Str.{bytes_eq}
use Rattle.std.proofs.lemmas.List.{append-nil, drop-drop, drop_all, length-drop}
use Rattle.std.proofs.lemmas.Bool.Decides.{nat_tests}
use Rattle.rsct_packet.specs.declared.ids.ViewId.{ViewId}
use Rattle.rsct_packet.specs.declared.ids.ProviderId.{ProviderId}
use Rattle.rsct_packet.specs.declared.ids.ProtoId.{ProtoId}
use Rattle.rsct_packet.specs.Search.{Has}
use Rattle.rsct_packet.proofs.HasLaws.{has_append}
use Rattle.proposal_core.specs.declared.entry.Entry.{Entry}
use Rattle.proposal_core.specs.declared.group_state.GroupState.{GroupState}
use Rattle.proposal_core.specs.GroupView.{GroupView}
use Rattle.proposal_core.specs.Lists.{list_or_new, with_entry}
use Rattle.client_callbacks.specs.declared.ballot.Filled.{Filled}
use Rattle.client_callbacks.specs.Ballots.{BallotView}
use Rattle.session_state.specs.declared.casts.Cast.{Cast}
use Rattle.session_state.specs.declared.state.Request.{Request}
use Rattle.session_state.specs.declared.state.SessionState.{SessionState}
use Rattle.session_state.specs.HandOn.{hearers, casts_out}
use Rattle.session_state.specs.HandOn as session
use Rattle.view_state.specs.declared.install.Part.{Part}
use Rattle.view_state.specs.Parts.{part_len}
use Rattle.view_state.specs.Cut.{all_fit, lacking_if, lacking_of}
use Rattle.view_exchange.specs.Longest.{NamesDiffer}
use Rattle.view_bases.proofs.CutLaws.{fit_ends}
use Rattle.node_state.specs.declared.happened.Happened.{Happened}
use Rattle.node_state.specs.declared.happened.Happened.TheVariants as happened
use Rattle.node_state.specs.declared.group.GroupRow.{GroupRow}
use Rattle.node_state.specs.declared.state.Core.{Core}
use Rattle.node_state.specs.State.{InNameOrder, row_of, with_row, list_of, state_of, len_of, frozen, recorded, recorded_all, with_sessions}
use Rattle.node_state.specs.Sending.{send_if_known}
use Rattle.node_state.specs.HandOn.{Answering, fills, heard, noted, ballot_sent, cast_sent_of, casts_sent, hand_on}
use Rattle.node_state.specs.Leading.{put, put_and_hand}
use Rattle.node_state.specs.Applying.{Lacking, lacking_in, fill_lists}
use Rattle.run_safety.specs.Past.{earlier, view_now, records_of}
use Rattle.run_safety.specs.Sight.{lines_of}
use Rattle.run_safety.specs.Group.{Put, Note, Heard, Line, Kept, Noted, lines_from}
use Rattle.run_safety.specs.Bases.{state_of_list}
use Rattle.run_safety.specs.Requests.{carried}
use Rattle.run_safety.proofs.Order.{lt_refl}
use Rattle.step_refinement.specs.Ghost.{Ghost, FitIn, Keeps, Carries, CarriesIf, part_of}
use Rattle.step_refinement.specs.Tied.{Scene, lines_now, InTurn}
use Rattle.step_refinement.proofs.Works.{Passes, lines_pushed, now_pushed}
use Rattle.node_state.proofs.NameOrder.{text_self, text_same, text_other, row_here, row_there, rows_ordered}
use Rattle.step_refinement.proofs.SessionLaws.{Later, later_then, handed_later, handed_gone}
use Rattle.step_refinement.proofs.Fits.{fits_more, fits_front}
use Rattle.step_refinement.proofs.Puts.{pushed_keeps}
use Rattle.step_refinement.proofs.Handed.{handed_records}
use Rattle.step_refinement.proofs.Sprinkled.{Sprinkled, Bare, Same, With, sprinkled_on}
use Rattle.step_refinement.proofs.Turns.{Fewer, turn_on, has_pushed_on, put_turn, handed_fewer}
use Rattle.view_state.specs.declared.views.Views.{Views}

-- an entry more at the end
lines_pushed_from : (n : ℕ) (v : ViewId) (es : List Entry) (i : ℕ) (e : Entry) (all : List Line) → lines_from n v i (es ++ e ∷ []) all ≡ Kept (Put n v (i + length es) e) ∷ lines_from n v i es all
lines_pushed_from n v [] i e all = let q : i ≡ i + 0 = omega arith in ap (λ k. Kept (Put n v k e) ∷ all) q
lines_pushed_from n v (x ∷ es) i e all =
    let q : (i + 1) + length es ≡ i + suc (length es) = omega arith in
    lines_pushed_from n v es (i + 1) e (Kept (Put n v i x) ∷ all) ∙ ap (λ k. Kept (Put n v k e) ∷ lines_from n v (i + 1) es (Kept (Put n v i x) ∷ all)) q

-- ballots without a leader are not sent
unsent : (c : Core) (k : List ℕ) (cs : List Cast) → casts_sent c k None cs ≡ c
unfolding casts_sent cast_sent_of ballot_sent send_if_known
unsent c k cs = by (frozen c)
  where
    ballot : (c : Core) (p : ProviderId) (x : ProtoId × ℕ × BallotView) (b : Option Filled) → ballot_sent c k None p x.0 x.1 b ≡ c
    ballot c p x None = refl
    ballot c p x (Some b) = refl

    one : (c : Core) (p : ProviderId) (o : Option (ProtoId × ℕ × BallotView)) → cast_sent_of c k None p o ≡ c
    one c p None = refl
    one c p (Some x) = ballot c p x (x.2).filled

    all : (cs : List Cast) (c : Core) → fold (λ d x. cast_sent_of d k None x.provider x.cast) c cs ≡ c
    all [] c = refl
    all (x ∷ cs) c = all cs (cast_sent_of c k None x.provider x.cast) ∙ one c x.provider x.cast

    by : (b : Bool) → elim b as (λ _. Core) [ true ↦ c | false ↦ fold (λ d x. cast_sent_of d k None x.provider x.cast) c cs ] ≡ c
    by true = refl
    by false = all cs c

-- of what lists lack, the group's
abbrev pub collected : List ℕ → List Lacking → List Entry
collected g [] = []
collected g (y ∷ xs) = if bytes_eq y.name g then y.entries ++ collected g xs else collected g xs

module _ (g : List ℕ) (w : Scene) (n : ℕ) (x : Ghost) (s : Core) where
  abbrev pub full : List Entry
  full = (x.nodes n).list

  -- a provider of the node heard an entry that was filled in, at its place
  pub record HeardIn (es : List Entry) (y : Note) : Type 0 where
    pub provider : ProviderId
    pub own : provider.node ≡ n
    pub front : List Entry
    pub e : Entry
    pub rest : List Entry
    pub split : es ≡ front ++ e ∷ rest
    pub state : GroupState
    pub state_is : state ≡ state_of_list x.bases s.views.view (full ++ (front ++ e ∷ []))
    pub is : y ≡ Heard provider s.views.view (length full + length front) e state.members state.value

  heard_more : (es more : List Entry) (y : Note) → HeardIn es y → HeardIn (es ++ more) y
  heard_more es more y h =
      record {
        provider = h.provider;
        own = h.own;
        front = h.front;
        e = h.e;
        rest = h.rest ++ more;
        split = ap (λ z. z ++ more) h.split ∙ append_assoc h.front (h.e ∷ h.rest) more;
        state = h.state;
        state_is = h.state_is;
        is = h.is;
      }

  -- so much was filled in since s
  pub record Fills (es : List Entry) (c : Core) : Type 0 where
    pub config : c.config ≡ s.config
    pub views : c.views ≡ s.views
    pub names : c.names ≡ s.names
    pub sends : c.sends ≡ s.sends
    pub order : InNameOrder c.groups
    pub keeps : Keeps x s.views.view (full ++ es) (list_of c g)
    pub later : Later s.sessions c.sessions
    pub gone : (q : Request) (e : Entry) → Has q c.sessions.requests → Has e es → Has (q.provider, q.request) (carried e) → ⊥
    pub lines : List Line
    pub among : Sprinkled (HeardIn es) (lines_from n s.views.view (length full) es x.all) lines
    pub is : lines_now g w c ≡ lines
    pub placed : (m : ℕ) → view_now m (earlier (reverse c.records) w.before) ≡ view_now m (earlier (reverse s.records) w.before)
    pub turn : InTurn s.views.view (c.records ++ records_of w.before) c.sessions
    pub recorded_on : (r : Happened) → Has r (s.records ++ records_of w.before) → Has r (c.records ++ records_of w.before)

  module _ (me : s.views.me ≡ n) (mine : (q : Request) → Has q s.sessions.requests → q.provider.node ≡ n) (own : (q : ProviderId) → ((y : SessionState) → Later s.sessions y → (b : GroupState) (k : List ℕ) (e : Entry) → Has q (hearers y k b e) → q.node ≡ n)) where
    unseen_too : (es : List Entry) (c : Core) (r : Happened) → Passes g r → Fills es c → Fills es (recorded c r)
    unfolding recorded list_of row_of
    unseen_too es c r unseen t =
        record {
          config = t.config;
          views = t.views;
          names = t.names;
          sends = t.sends;
          order = t.order;
          keeps = t.keeps;
          later = t.later;
          gone = t.gone;
          lines = t.lines;
          among = t.among;
          is = lines_pushed g c.records r w.before (lines_of g w.before) ∙ ap (λ z. z ++ lines_now g w c) (unseen.0 (earlier (reverse c.records) w.before)) ∙ t.is;
          placed = λ m. now_pushed m c.records r w.before ∙ unseen.1 m (view_now m (earlier (reverse c.records) w.before)) ∙ t.placed m;
          turn = turn_on (c.records ++ records_of w.before) ((c.records ++ r ∷ []) ++ records_of w.before) (λ y i. has_pushed_on (r) y c.records (records_of w.before) i) s.views.view s.views.view (lt_refl s.views.view) c.sessions t.turn;
          recorded_on = λ y i. has_pushed_on (r) y c.records (records_of w.before) (t.recorded_on y i);
        }

    heard_too : (es : List Entry) (c : Core) (p : ProviderId) (v : ViewId) (i : ℕ) (e : Entry) (st : GroupState) → HeardIn es (Heard p v i e st.members st.value) → Fills es c → Fills es (recorded c (happened.Heard p v g i e st.members st.value))
    unfolding recorded list_of row_of
    heard_too es c p v i e st new t =
        record {
          config = t.config;
          views = t.views;
          names = t.names;
          sends = t.sends;
          order = t.order;
          keeps = t.keeps;
          later = t.later;
          gone = t.gone;
          lines = Noted (Heard p v i e st.members st.value) ∷ t.lines;
          among = With (Heard p v i e st.members st.value) (lines_from n s.views.view (length full) es x.all) t.lines new t.among;
          is = lines_pushed g c.records (happened.Heard p v g i e st.members st.value) w.before (lines_of g w.before) ∙ ap (λ b. (if b then Noted (Heard p v i e st.members st.value) ∷ [] else []) ++ lines_now g w c) (text_self g) ∙ ap (λ l. Noted (Heard p v i e st.members st.value) ∷ l) t.is;
          placed = λ m. now_pushed m c.records (happened.Heard p v g i e st.members st.value) w.before ∙ t.placed m;
          turn = turn_on (c.records ++ records_of w.before) ((c.records ++ happened.Heard p v g i e st.members st.value ∷ []) ++ records_of w.before) (λ y j. has_pushed_on (happened.Heard p v g i e st.members st.value) y c.records (records_of w.before) j) s.views.view s.views.view (lt_refl s.views.view) c.sessions t.turn;
          recorded_on = λ y j. has_pushed_on (happened.Heard p v g i e st.members st.value) y c.records (records_of w.before) (t.recorded_on y j);
        }

    abbrev put_row : Entry → Core → GroupRow → GroupRow
    put_row e c row = record row { list = Some (with_entry (list_or_new row.list) c.views.view e) }

    -- another group's entry
    put_other : (es : List Entry) (c : Core) (h : List ℕ) (e : Entry) (u : SessionState) → (h ≡ g → ⊥) → Later c.sessions u → Fewer c.sessions u (carried e) → Fills es c → Fills es (with_sessions (put c h e) u)
    unfolding put recorded with_sessions with_row row_of list_of
    put_other es c h e u ne l f t =
        record {
          config = t.config;
          views = t.views;
          names = t.names;
          sends = t.sends;
          order = rows_ordered h (put_row e c) (λ y. refl) c t.order;
          keeps = subst (λ (row : GroupRow). Keeps x s.views.view (full ++ es) (list_or_new row.list)) (sym (row_there h (put_row e c) (λ y. refl) c g ne)) t.keeps;
          later = later_then s.sessions c.sessions u t.later l;
          gone = λ q d i. t.gone q d (l.requests q i);
          lines = t.lines;
          among = t.among;
          is = lines_pushed g c.records (happened.Put c.views.me c.views.view h (len_of c h) e) w.before (lines_of g w.before) ∙ ap (λ b. (if b then Kept (Put c.views.me c.views.view (len_of c h) e) ∷ [] else []) ++ lines_now g w c) (text_other h g ne) ∙ t.is;
          placed = λ m. now_pushed m c.records (happened.Put c.views.me c.views.view h (len_of c h) e) w.before ∙ t.placed m;
          turn = subst (λ z. InTurn z ((c.records ++ happened.Put c.views.me c.views.view h (len_of c h) e ∷ []) ++ records_of w.before) u) (ap (λ (z : Views). z.view) t.views) (put_turn (records_of w.before) c.records c.views.view c.sessions u c.views.me h (len_of c h) e (λ q i. mine q (t.later.requests q i) ∙ sym me ∙ ap (λ (z : Views). z.me) (sym t.views)) f (subst (λ z. InTurn z (c.records ++ records_of w.before) c.sessions) (ap (λ (z : Views). z.view) (sym t.views)) t.turn));
          recorded_on = λ y i. has_pushed_on (happened.Put c.views.me c.views.view h (len_of c h) e) y c.records (records_of w.before) (t.recorded_on y i);
        }

    len_now : (es : List Entry) (c : Core) → Fills es c → len_of c g ≡ length full + length es
    unfolding len_of
    len_now es c t = t.keeps.len ∙ length-append full es

    keeps_more : (es : List Entry) (c : Core) (e : Entry) → FitIn x s.views.view (full ++ (es ++ e ∷ [])) → Fills es c → Keeps x s.views.view (full ++ (es ++ e ∷ [])) (with_entry (list_of c g) c.views.view e)
    keeps_more es c e fit t =
        let a : Keeps x s.views.view ((full ++ es) ++ e ∷ []) (with_entry (list_of c g) s.views.view e) = pushed_keeps x x s.views.view (full ++ es) (list_of c g) e refl t.keeps (subst (FitIn x s.views.view) (sym (append_assoc full es (e ∷ []))) fit) in
        let v : s.views.view ≡ c.views.view = ap (λ z. z.view) (sym t.views) in
        let b : Keeps x s.views.view ((full ++ es) ++ e ∷ []) (with_entry (list_of c g) c.views.view e) = subst (λ z. Keeps x s.views.view ((full ++ es) ++ e ∷ []) (with_entry (list_of c g) z e)) v a in
        subst (λ z. Keeps x s.views.view z (with_entry (list_of c g) c.views.view e)) (append_assoc full es (e ∷ [])) b

    -- the own group's entry
    put_own : (es : List Entry) (c : Core) (e : Entry) (u : SessionState) → FitIn x s.views.view (full ++ (es ++ e ∷ [])) → Later c.sessions u → ((q : Request) → Has q u.requests → Has (q.provider, q.request) (carried e) → ⊥) → Fewer c.sessions u (carried e) → Fills es c → Fills (es ++ e ∷ []) (with_sessions (put c g e) u) × (state_of (put c g e) g ≡ state_of_list x.bases s.views.view (full ++ (es ++ e ∷ [])))
    unfolding put recorded with_sessions with_row row_of list_of state_of
    put_own es c e u fit l gone f t =
        let here : list_of (with_row c g (put_row e c)) g ≡ with_entry (list_of c g) c.views.view e = ap (λ (row : GroupRow). list_or_new row.list) (row_here g (put_row e c) (λ y. refl) c t.order) in
        let keeps : Keeps x s.views.view (full ++ (es ++ e ∷ [])) (list_of (with_row c g (put_row e c)) g) = subst (Keeps x s.views.view (full ++ (es ++ e ∷ []))) (sym here) (keeps_more es c e fit t) in
        let line : Line = Kept (Put n s.views.view (length full + length es) e) in (
          record {
            config = t.config;
            views = t.views;
            names = t.names;
            sends = t.sends;
            order = rows_ordered g (put_row e c) (λ y. refl) c t.order;
            keeps = keeps;
            later = later_then s.sessions c.sessions u t.later l;
            gone = λ q d i j. ⊎_elim (λ (a : Has d es). t.gone q d (l.requests q i) a) (λ (a : Has d (e ∷ [])). last q i d a) (has_append d es (e ∷ []) j);
            lines = line ∷ t.lines;
            among = subst (λ z. Sprinkled (HeardIn (es ++ e ∷ [])) z (line ∷ t.lines)) (sym (lines_pushed_from n s.views.view es (length full) e x.all)) (Same line (lines_from n s.views.view (length full) es x.all) t.lines (sprinkled_on (HeardIn es) (HeardIn (es ++ e ∷ [])) (heard_more es (e ∷ [])) (lines_from n s.views.view (length full) es x.all) t.lines t.among));
            is = lines_pushed g c.records (happened.Put c.views.me c.views.view g (len_of c g) e) w.before (lines_of g w.before) ∙ ap (λ b. (if b then Kept (Put c.views.me c.views.view (len_of c g) e) ∷ [] else []) ++ lines_now g w c) (text_self g) ∙ (λ i. Kept (Put (me_is i) (view_is i) (len_now es c t i) e) ∷ t.is i);
            placed = λ m. now_pushed m c.records (happened.Put c.views.me c.views.view g (len_of c g) e) w.before ∙ t.placed m;
            turn = subst (λ z. InTurn z ((c.records ++ happened.Put c.views.me c.views.view g (len_of c g) e ∷ []) ++ records_of w.before) u) (ap (λ (z : Views). z.view) t.views) (put_turn (records_of w.before) c.records c.views.view c.sessions u c.views.me g (len_of c g) e (λ q i. mine q (t.later.requests q i) ∙ sym me ∙ ap (λ (z : Views). z.me) (sym t.views)) f (subst (λ z. InTurn z (c.records ++ records_of w.before) c.sessions) (ap (λ (z : Views). z.view) (sym t.views)) t.turn));
            recorded_on = λ y i. has_pushed_on (happened.Put c.views.me c.views.view g (len_of c g) e) y c.records (records_of w.before) (t.recorded_on y i);
          },
          keeps.state,
        )
      where
        me_is : c.views.me ≡ n
        me_is = ap (λ z. z.me) t.views ∙ me

        view_is : c.views.view ≡ s.views.view
        view_is = ap (λ z. z.view) t.views

        last : (q : Request) → Has q u.requests → (d : Entry) → Has d (e ∷ []) → Has (q.provider, q.request) (carried d) → ⊥
        last q i d (inl a) b = gone q i (subst (λ z. Has {A = ProviderId × ℕ} (q.provider, q.request) (carried z)) a b)
        last q i d (inr z) b = z

    -- an entry is put and handed on: the group's own, or another's
    puts_own : (f : Answering) (es : List Entry) (c : Core) (e : Entry) → FitIn x s.views.view (full ++ (es ++ e ∷ [])) → Fills es c → Fills (es ++ e ∷ []) (put_and_hand f c None g e)
    unfolding put_and_hand hand_on put recorded with_row with_sessions
    puts_own f es c e fit t =
        let before : GroupState = state_of c g in
        let st : GroupState = state_of (put c g e) g in
        let bs : List (Option Filled) = fills f (length (put c g e).records) c.sessions e st (hearers c.sessions g before e) in
        let u : SessionState = session.handed_on c.sessions g before st e bs in
        let cs : List Cast = casts_out c.sessions g before st e bs in
        let hears : (q : ProviderId) → Has q (hearers c.sessions g before e) → q.node ≡ n = λ q i. own q c.sessions t.later before g e i in
        let k = put_own es c e u fit (handed_later c.sessions g before st e bs) (handed_gone c.sessions g before st e bs) (handed_fewer c.sessions g before st e bs) t in
        let new : (p : ProviderId) → p.node ≡ n → HeardIn (es ++ e ∷ []) (Heard p c.views.view (len_of c g) e st.members st.value) = λ p at.
        record {
          provider = p;
          own = at;
          front = es;
          e = e;
          rest = [];
          split = refl;
          state = st;
          state_is = k.1;
          is = λ i. Heard p ((ap (λ z. z.view) t.views) i) (len_now es c t i) e st.members st.value;
        } in
        subst (Fills (es ++ e ∷ [])) (sym (unsent (with_sessions (noted (recorded_all (put c g e) (flat_map (heard (put c g e) g (len_of c g) e st) cs)) g (len_of c g) before st) u) g cs)) (handed_records g n g c.views.view (len_of c g) e st (Fills (es ++ e ∷ [])) (λ d r un j. unseen_too (es ++ e ∷ []) d r un j) (λ d p at j. heard_too (es ++ e ∷ []) d p c.views.view (len_of c g) e st (new p at) j) f (put c g e) before refl hears k.0)

    puts_other : (f : Answering) (h : List ℕ) → (h ≡ g → ⊥) → (es : List Entry) (c : Core) (e : Entry) → Fills es c → Fills es (put_and_hand f c None h e)
    unfolding put_and_hand hand_on put recorded with_row with_sessions
    puts_other f h ne es c e t =
        let before : GroupState = state_of c h in
        let st : GroupState = state_of (put c h e) h in
        let bs : List (Option Filled) = fills f (length (put c h e).records) c.sessions e st (hearers c.sessions h before e) in
        let u : SessionState = session.handed_on c.sessions h before st e bs in
        let cs : List Cast = casts_out c.sessions h before st e bs in
        let hears : (q : ProviderId) → Has q (hearers c.sessions h before e) → q.node ≡ n = λ q i. own q c.sessions t.later before h e i in
        let k : Fills es (with_sessions (put c h e) u) = put_other es c h e u ne (handed_later c.sessions h before st e bs) (handed_fewer c.sessions h before st e bs) t in
        subst (Fills es) (sym (unsent (with_sessions (noted (recorded_all (put c h e) (flat_map (heard (put c h e) h (len_of c h) e st) cs)) h (len_of c h) before st) u) h cs)) (handed_records g n h c.views.view (len_of c h) e st (Fills es) (λ d r un j. unseen_too es d r un j) (λ d p at j. unseen_too es d (happened.Heard p c.views.view h (len_of c h) e st.members st.value) ((λ rs. ap (λ b. if b then Noted (Heard p c.views.view (len_of c h) e st.members st.value) ∷ [] else []) (text_other h g ne)), λ m o. refl) j) f (put c h e) before refl hears k)

    fits_so_far : (es more : List Entry) → FitIn x s.views.view (full ++ (es ++ more)) → FitIn x s.views.view (full ++ es)
    fits_so_far es more fit =
        fits_front x s.views.view (full ++ es) more (subst (FitIn x s.views.view) (sym (append_assoc full es more)) fit)

    fills_own : (f : Answering) (more es : List Entry) (c : Core) → FitIn x s.views.view (full ++ (es ++ more)) → Fills es c → Fills (es ++ more) (fold (λ u e. put_and_hand f u None g e) c more)
    fills_own f [] es c fit t = subst (λ z. Fills z c) (sym (append-nil es)) t
    fills_own f (e ∷ more) es c fit t =
        let now : FitIn x s.views.view (full ++ ((es ++ e ∷ []) ++ more)) = subst (λ z. FitIn x s.views.view (full ++ z)) (sym (append_assoc es (e ∷ []) more)) fit in
        subst (λ z. Fills z (fold (λ u d. put_and_hand f u None g d) (put_and_hand f c None g e) more)) (append_assoc es (e ∷ []) more) (fills_own f more (es ++ e ∷ []) (put_and_hand f c None g e) now (puts_own f es c e (fits_so_far (es ++ e ∷ []) more now) t))

    fills_other : (f : Answering) (h : List ℕ) → (h ≡ g → ⊥) → (more es : List Entry) (c : Core) → Fills es c → Fills es (fold (λ u e. put_and_hand f u None h e) c more)
    fills_other f h ne [] es c t = t
    fills_other f h ne (e ∷ more) es c t = fills_other f h ne more es (put_and_hand f c None h e) (puts_other f h ne es c e t)

    -- all that the lists lack, of which this is the group's
    pub fills_all : (f : Answering) (xs : List Lacking) (es : List Entry) (c : Core) → FitIn x s.views.view (full ++ (es ++ collected g xs)) → Fills es c → Fills (es ++ collected g xs) (fill_lists f c xs)
    unfolding fill_lists
    fills_all f [] es c fit t = subst (λ z. Fills z c) (sym (append-nil es)) t
    fills_all f (y ∷ xs) es c fit t = by (bytes_eq y.name g) refl fit (λ more d fit u. fills_all f xs more d fit u)
      where
        next : Core
        next = fold (λ u e. put_and_hand f u None y.name e) c y.entries

        by : (b : Bool) → bytes_eq y.name g ≡ b → FitIn x s.views.view (full ++ (es ++ (if b then y.entries ++ collected g xs else collected g xs))) → ((more : List Entry) (d : Core) → FitIn x s.views.view (full ++ (more ++ collected g xs)) → Fills more d → Fills (more ++ collected g xs) (fill_lists f d xs)) → Fills (es ++ (if b then y.entries ++ collected g xs else collected g xs)) (fill_lists f c (y ∷ xs))
        by true q fit rest =
            let now : FitIn x s.views.view (full ++ ((es ++ y.entries) ++ collected g xs)) = subst (λ z. FitIn x s.views.view (full ++ z)) (sym (append_assoc es y.entries (collected g xs))) fit in
            let own : Fills (es ++ y.entries) next = subst (λ z. Fills (es ++ y.entries) (fold (λ u e. put_and_hand f u None z e) c y.entries)) (sym (text_same y.name g q)) (fills_own f y.entries es c (fits_so_far (es ++ y.entries) (collected g xs) now) t) in
            subst (λ z. Fills z (fill_lists f next xs)) (append_assoc es y.entries (collected g xs)) (rest (es ++ y.entries) next now own)
        by false q fit rest = rest es next fit (fills_other f y.name (λ (e : y.name ≡ g). absurd (let k = text_self g in let z = ap (λ m. bytes_eq m g) e in cc)) y.entries es c t)

-- ---- what a list lacks

-- a node without a change yet
pub nothing_filled : (g : List ℕ) (w : Scene) (n : ℕ) (x : Ghost) (s : Core) → InNameOrder s.groups → Keeps x s.views.view (x.nodes n).list (list_of s g) → Later s.sessions s.sessions → lines_now g w s ≡ x.all → InTurn s.views.view (s.records ++ records_of w.before) s.sessions → Fills g w n x s [] s
nothing_filled g w n x s order keeps later lines turn =
    record {
      config = refl;
      views = refl;
      names = refl;
      sends = refl;
      order = order;
      keeps = subst (λ z. Keeps x s.views.view z (list_of s g)) (sym (append-nil (x.nodes n).list)) keeps;
      later = later;
      gone = λ q e i j. absurd j;
      lines = x.all;
      among = Bare x.all;
      is = lines;
      placed = λ m. refl;
      turn = turn;
      recorded_on = λ r i. i;
    }

pub dropped : (a k : ℕ) (xs : List Entry) → a ≤ k → drop (k - a) (drop a xs) ≡ drop k xs
dropped a k xs le = let q : a + (k - a) ≡ k = omega arith in drop-drop (k - a) a xs ∙ ap (λ z. drop z xs) q

-- a part with the whole list's end has just the entries that the list lacks
lacking_own : (x : Ghost) (v : ViewId) (full whole : List Entry) (l : GroupView) (p : Part) (es : List Entry) → Keeps x v full l → Carries x v whole p → lacking_of v l p ≡ Some es → es ≡ drop (length full) whole
unfolding lacking_of lacking_if
lacking_own x v full whole l p es k c = by (nat_le (part_len p) l.len) (nat_lt l.len p.start) (all_fit v l (drop (l.len - p.start) p.entries)) refl refl
  where
    ends : part_len p ≡ length whole
    ends = let a = c.starts in let b : length p.entries ≡ length whole - p.start = ap length c.entries ∙ length-drop p.start whole in omega arith

    by : (a b d : Bool) → nat_le (part_len p) l.len ≡ a → nat_lt l.len p.start ≡ b → elim a as (λ _. Option (List Entry)) [ true ↦ Some [] | false ↦ elim b as (λ _. Option (List Entry)) [ true ↦ None | false ↦ lacking_if d (drop (l.len - p.start) p.entries) ] ] ≡ Some es → es ≡ drop (length full) whole
    by true b d q r e =
        let le : part_len p ≤ l.len = grind (arith, nat_tests) in
        let n = k.len in
        let m = ends in
        let short : length whole ≤ length full = omega arith in
        let z : es ≡ [] = cc in z ∙ sym (drop_all (length full) whole short)
    by false true d q r e = absurd (cc)
    by false false false q r e = absurd (cc)
    by false false true q r e =
        let le : p.start ≤ l.len = grind (arith, nat_tests) in
        let z : es ≡ drop (l.len - p.start) p.entries = cc in
        z ∙ ap (drop (l.len - p.start)) c.entries ∙ dropped p.start l.len whole le ∙ ap (λ i. drop i whole) k.len

-- of parts with other names nothing is collected
none_collected : (g : List ℕ) (s : Core) (ps : List Part) (xs : List Lacking) → ((q : Part) → Has q ps → q.name ≡ g → ⊥) → lacking_in s ps ≡ Some xs → collected g xs ≡ []
unfolding lacking_in
none_collected g s [] xs others e = let q : xs ≡ [] = cc in ap (collected g) q
none_collected g s (p ∷ ps) xs others e =
    by (lacking_of s.views.view (list_of s p.name) p) (lacking_in s ps) refl e (λ ys q. none_collected g s ps ys (λ z i. others z (inr i)) q)
  where
    by : (a : Option (List Entry)) (b : Option (List Lacking)) → lacking_in s ps ≡ b → elim a as (λ _. Option (List Lacking)) [ None ↦ None | Some es ↦ elim b as (λ _. Option (List Lacking)) [ None ↦ None | Some ys ↦ Some (record { name = p.name; entries = es } ∷ ys) ] ] ≡ Some xs → ((ys : List Lacking) → lacking_in s ps ≡ Some ys → collected g ys ≡ []) → collected g xs ≡ []
    by None b q e rest = absurd (cc)
    by (Some es) None q e rest = absurd (cc)
    by (Some es) (Some ys) q e rest =
        let z : xs ≡ record { name = p.name; entries = es } ∷ ys = cc in
        ap (collected g) z ∙ ap (λ b. if b then es ++ collected g ys else collected g ys) (text_other p.name g (others p (inl refl))) ∙ rest ys q

-- what is lacking of the group is the rest of the whole list
pub lacking_is : (x : Ghost) (g : List ℕ) (full whole : List Entry) (s : Core) (ps : List Part) (xs : List Lacking) → NamesDiffer ps → Keeps x s.views.view full (list_of s g) → CarriesIf x s.views.view whole (part_of g ps) → lacking_in s ps ≡ Some xs → collected g xs ≡ drop (length full) whole
unfolding lacking_in
lacking_is x g full whole s [] xs d k c e =
    let q : xs ≡ [] = cc in
    let short : length whole ≤ length full = let z = ap length c.0 in omega arith in
    ap (collected g) q ∙ sym (drop_all (length full) whole short)
lacking_is x g full whole s (p ∷ ps) xs d k c e =
    by (bytes_eq p.name g) (lacking_of s.views.view (list_of s p.name) p) (lacking_in s ps) refl refl refl c e (λ ys c q. lacking_is x g full whole s ps ys d.1 k c q)
  where
    by : (t : Bool) (a : Option (List Entry)) (b : Option (List Lacking)) → bytes_eq p.name g ≡ t → lacking_of s.views.view (list_of s p.name) p ≡ a → lacking_in s ps ≡ b → CarriesIf x s.views.view whole (if t then Some p else part_of g ps) → elim a as (λ _. Option (List Lacking)) [ None ↦ None | Some es ↦ elim b as (λ _. Option (List Lacking)) [ None ↦ None | Some ys ↦ Some (record { name = p.name; entries = es } ∷ ys) ] ] ≡ Some xs → ((ys : List Lacking) → CarriesIf x s.views.view whole (part_of g ps) → lacking_in s ps ≡ Some ys → collected g ys ≡ drop (length full) whole) → collected g xs ≡ drop (length full) whole
    by t None b r o q c e rest = absurd (cc)
    by t (Some es) None r o q c e rest = absurd (cc)
    by true (Some es) (Some ys) r o q c e rest =
        let z : xs ≡ record { name = p.name; entries = es } ∷ ys = cc in
        let same : p.name ≡ g = text_same p.name g r in
        let mine : lacking_of s.views.view (list_of s g) p ≡ Some es = ap (λ k. lacking_of s.views.view (list_of s k) p) (sym same) ∙ o in
        let none : collected g ys ≡ [] = none_collected g s ps ys (λ q i h. d.0 q i (h ∙ sym same)) q in
        ap (collected g) z ∙ ap (λ b. if b then es ++ collected g ys else collected g ys) r ∙ ap (λ l. es ++ l) none ∙ append-nil es ∙ lacking_own x s.views.view full whole (list_of s g) p es k c mine
    by false (Some es) (Some ys) r o q c e rest =
        let z : xs ≡ record { name = p.name; entries = es } ∷ ys = cc in
        ap (collected g) z ∙ ap (λ b. if b then es ++ collected g ys else collected g ys) r ∙ rest ys c q

-- what a list lacks was tried at its end
pub lacking_tried : (v : ViewId) (l : GroupView) (p : Part) (es : List Entry) → lacking_of v l p ≡ Some es → all_fit v l es ≡ true
unfolding lacking_of lacking_if
lacking_tried v l p es = by (nat_le (part_len p) l.len) (nat_lt l.len p.start) (all_fit v l (drop (l.len - p.start) p.entries)) refl
  where
    by : (a b d : Bool) → all_fit v l (drop (l.len - p.start) p.entries) ≡ d → elim a as (λ _. Option (List Entry)) [ true ↦ Some [] | false ↦ elim b as (λ _. Option (List Entry)) [ true ↦ None | false ↦ lacking_if d (drop (l.len - p.start) p.entries) ] ] ≡ Some es → all_fit v l es ≡ true
    by true b d r e = let z : es ≡ [] = cc in ap (all_fit v l) z ∙ fit_ends v l
    by false true d r e = absurd (cc)
    by false false false r e = absurd (cc)
    by false false true r e = let z : es ≡ drop (l.len - p.start) p.entries = cc in ap (all_fit v l) z ∙ r

-- what is lacking of the group fits behind its list
pub lacking_fits : (x : Ghost) (g : List ℕ) (full : List Entry) (s : Core) (ps : List Part) (xs : List Lacking) → NamesDiffer ps → Keeps x s.views.view full (list_of s g) → lacking_in s ps ≡ Some xs → FitIn x s.views.view (full ++ collected g xs)
unfolding lacking_in
lacking_fits x g full s [] xs d k e =
    let q : xs ≡ [] = cc in subst (FitIn x s.views.view) (sym (ap (λ z. full ++ collected g z) q ∙ append-nil full)) k.fits
lacking_fits x g full s (p ∷ ps) xs d k e =
    by (bytes_eq p.name g) (lacking_of s.views.view (list_of s p.name) p) (lacking_in s ps) refl refl refl e (λ ys q. lacking_fits x g full s ps ys d.1 k q)
  where
    by : (t : Bool) (a : Option (List Entry)) (b : Option (List Lacking)) → bytes_eq p.name g ≡ t → lacking_of s.views.view (list_of s p.name) p ≡ a → lacking_in s ps ≡ b → elim a as (λ _. Option (List Lacking)) [ None ↦ None | Some es ↦ elim b as (λ _. Option (List Lacking)) [ None ↦ None | Some ys ↦ Some (record { name = p.name; entries = es } ∷ ys) ] ] ≡ Some xs → ((ys : List Lacking) → lacking_in s ps ≡ Some ys → FitIn x s.views.view (full ++ collected g ys)) → FitIn x s.views.view (full ++ collected g xs)
    by t None b r o q e rest = absurd (cc)
    by t (Some es) None r o q e rest = absurd (cc)
    by true (Some es) (Some ys) r o q e rest =
        let z : xs ≡ record { name = p.name; entries = es } ∷ ys = cc in
        let same : p.name ≡ g = text_same p.name g r in
        let mine : lacking_of s.views.view (list_of s g) p ≡ Some es = ap (λ k. lacking_of s.views.view (list_of s k) p) (sym same) ∙ o in
        let none : collected g ys ≡ [] = none_collected g s ps ys (λ q i h. d.0 q i (h ∙ sym same)) q in
        let is : collected g xs ≡ es = ap (collected g) z ∙ ap (λ b. if b then es ++ collected g ys else collected g ys) r ∙ ap (λ l. es ++ l) none ∙ append-nil es in
        subst (λ c. FitIn x s.views.view (full ++ c)) (sym is) (fits_more x s.views.view full es (list_of s g) k (lacking_tried s.views.view (list_of s g) p es mine))
    by false (Some es) (Some ys) r o q e rest =
        let z : xs ≡ record { name = p.name; entries = es } ∷ ys = cc in
        let is : collected g xs ≡ collected g ys = ap (collected g) z ∙ ap (λ b. if b then es ++ collected g ys else collected g ys) r in
        subst (λ c. FitIn x s.views.view (full ++ c)) (sym is) (rest ys q)
