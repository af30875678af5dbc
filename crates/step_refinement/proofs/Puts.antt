-- ENTRY: an entry is put at the end of the list, and handed on.
use Rattle.std.proofs.Common.{◌≡◌, ◌≢◌, ◌≤◌, ◌<◌, ◌⊎◌, ℕ, zero, suc, ◌+◌, List, [], ◌∷◌, ◌++◌, length, drop, take, Some, true, refl, sym, ap, ◌∙◌, subst, inl, inr, length-append, arith}
use Rattle.std.specs.Prelude.{reverse, slice_get, if◌then◌else◌}
use Rattle.std.proofs.lemmas.Bool.{cases_eq}
use Rattle.rsct_packet.specs.declared.ids.ViewId.{ViewId}
use Rattle.rsct_packet.specs.declared.ids.ProviderId.{ProviderId}
use Rattle.rsct_packet.specs.Search.{Has}
use Rattle.proposal_core.specs.declared.entry.Entry.{Entry}
use Rattle.proposal_core.specs.declared.proposal.Proposal.{Proposal}
use Rattle.proposal_core.specs.Sizes.{entry_len}
use Rattle.proposal_core.specs.declared.group_state.GroupState.{GroupState}
use Rattle.proposal_core.specs.Fold.{after}
use Rattle.proposal_core.specs.GroupView.{GroupView, new_list}
use Rattle.proposal_core.specs.Lists.{list_or_new, with_entry}
use Rattle.view_state.specs.Cut.{all_fit}
use Rattle.session_state.specs.declared.state.Request.{Request}
use Rattle.session_state.specs.declared.state.SessionState.{SessionState}
use Rattle.node_state.specs.declared.happened.Happened.TheVariants as happened
use Rattle.node_state.specs.declared.group.GroupRow.{GroupRow}
use Rattle.node_state.specs.declared.state.Core.{Core}
use Rattle.node_state.specs.Settings.{is_fixed}
use Rattle.node_state.specs.State.{row_of, acked_from, with_row, list_of, state_of, len_of, fits_at_end, recorded, with_sessions}
use Rattle.node_state.specs.Leading.{put}
use Rattle.run_safety.specs.Past.{fold_from, records_of}
use Rattle.run_safety.specs.Sight.{lines_with, lines_of}
use Rattle.run_safety.specs.Group.{member, Standing, Kept, Noted, Asked, Told, Put, kept}
use Rattle.run_safety.specs.Group as group
use Rattle.run_safety.specs.GroupLists.{puts_of}
use Rattle.run_safety.specs.Bases.{base_state, state_of_list}
use Rattle.run_safety.specs.Requests.{carried}
use Rattle.run_safety.specs.Moves.{Follows, grown}
use Rattle.run_safety.proofs.Whole.{Whole}
use Rattle.run_safety.proofs.Lives.{whole}
use Rattle.step_refinement.specs.Ghost.{Ghost, Lives, Goes, Keeps, FitIn}
use Rattle.step_refinement.specs.Tied.{RowIs, Owed, Owes, LeaderKeeps, Closed, NodeOf, Scene, opening_of, lines_now, Tied}
use Rattle.step_refinement.specs.Rules.{at_node}
use Rattle.step_refinement.proofs.Goes.{Spares, Still, still_spares, sound_on, node_if_on, stable_on, knows_on, acked_on, gathers_on, install_on, shows_on}
use Rattle.step_refinement.proofs.Idle.{idles_with}
use Rattle.step_refinement.proofs.Changed.{set_here, set_there, changes, incs_set}
use Rattle.step_refinement.proofs.Works.{lines_pushed, placed_pushed}
use Rattle.node_state.proofs.NameOrder.{text_self, text_other, row_here, row_there, rows_ordered}
use Rattle.step_refinement.proofs.RowWorks.{keeps_of, waits_with, waits_of}
use Rattle.step_refinement.proofs.SessionLaws.{Later, owes_later}
use Rattle.step_refinement.proofs.Fits.{fits_one, bytes_pushed}
use Rattle.step_refinement.proofs.Turns.{Fewer, turns_pushed, turns_packets, turns_sessions, put_turn}

-- ---- lists with one more entry

pub fold_pushed : (v : ViewId) (xs : List Entry) (s : GroupState) (i : ℕ) (e : Entry) → fold_from v s i (xs ++ e ∷ []) ≡ after (fold_from v s i xs) v (i + length xs) e
fold_pushed v [] s i e = let q : i ≡ i + 0 = omega arith in ap (λ k. after s v k e) q
fold_pushed v (x ∷ xs) s i e =
    let q : (i + 1) + length xs ≡ i + suc (length xs) = omega arith in
    fold_pushed v xs (after s v i x) (i + 1) e ∙ ap (λ k. after (fold_from v (after s v i x) (i + 1) xs) v k e) q

drop_pushed : (k : ℕ) (xs : List Entry) (e : Entry) → k ≤ length xs → drop k (xs ++ e ∷ []) ≡ drop k xs ++ e ∷ []
drop_pushed zero xs e l = refl
drop_pushed (suc k) [] e l = absurd (omega arith)
drop_pushed (suc k) (x ∷ xs) e l = drop_pushed k xs e (omega arith)

take_all : (xs : List Entry) → take (length xs) xs ≡ xs
take_all [] = refl
take_all (x ∷ xs) = ap (λ l. x ∷ l) (take_all xs)

take_pushed : (xs : List Entry) (e : Entry) → take (length xs + 1) (xs ++ e ∷ []) ≡ xs ++ e ∷ []
take_pushed xs e =
    let q : length xs + 1 ≡ length (xs ++ e ∷ []) = sym (length-append xs (e ∷ [])) in ap (λ k. take k (xs ++ e ∷ [])) q ∙ take_all (xs ++ e ∷ [])

pub pushed_keeps : (x y : Ghost) (v : ViewId) (full : List Entry) (l : GroupView) (e : Entry) → y.bases v ≡ x.bases v → Keeps x v full l → FitIn x v (full ++ e ∷ []) → Keeps y v (full ++ e ∷ []) (with_entry l v e)
unfolding with_entry
pushed_keeps x y v full l e b h fit =
    let more : length (full ++ e ∷ []) ≡ length full + 1 = length-append full (e ∷ []) in
    let from : 0 + length full ≡ length full = omega arith in
    record {
      starts = let a = h.starts in omega arith;
      len = ap (λ k. k + 1) h.len ∙ sym more;
      entries = ap (λ es. es ++ e ∷ []) h.entries ∙ sym (drop_pushed l.start full e h.starts);
      state = (λ i. after (h.state i) v ((h.len ∙ sym from) i) e) ∙ sym (fold_pushed v full (base_state (x.bases v)) 0 e) ∙ ap (λ z. fold_from v (base_state z) 0 (full ++ e ∷ [])) (sym b);
      bytes = ap (λ k. k + entry_len e) h.bytes ∙ sym (bytes_pushed full e);
      fits = subst (λ z. all_fit v (new_list (base_state z)) (full ++ e ∷ []) ≡ true) (sym b) fit;
    }

-- ---- the sessions that are left

pub record Leaves (s t : SessionState) (e : Entry) : Type 0 where
  pub later : Later s t
  pub gone : (q : Request) → Has q t.requests → Has (q.provider, q.request) (carried e) → ⊥
  pub fewer : Fewer s t (carried e)

-- the put of the entry stands, and the state is that after it
abbrev pub After : List ℕ → List ℕ → ℕ → ViewId → ℕ → Entry → GroupState → Ghost → Type 0
After g h n v i e st x = h ≡ g → Has (Put n v i e) (kept x.all) × (st ≡ state_of_list x.bases v (take (i + 1) (puts_of n v (kept x.all))))

module _ (g : List ℕ) (w : Scene) (n : ℕ) (s : Core) (t : Tied g w n s) (h : List ℕ) (e : Entry) (u : SessionState) (l : Leaves s.sessions u e) (thawed : s.views.promise ≡ s.views.view) where
  -- another group's entry
  pub put_other : (h ≡ g → ⊥) → Tied g w n (with_sessions (put s h e) u)
  unfolding put recorded with_sessions with_row row_of
  put_other ne =
      record {
        ghost = t.ghost;
        life = t.life;
        lines = t.lines ∙ sym (lines_pushed g s.records (happened.Put s.views.me s.views.view h (len_of s h) e) w.before (lines_of g w.before) ∙ ap (λ b. (if b then Kept (Put s.views.me s.views.view (len_of s h) e) ∷ [] else []) ++ lines_now g w s) (text_other h g ne));
        own = (
          record {
            stands = t.own.0.stands;
            row_is = subst (RowIs t.ghost n s.views.view s.views.members) (sym (row_there h (λ row. record row { list = Some (with_entry (list_or_new row.list) s.views.view e) }) (λ x. refl) s g ne)) t.own.0.row_is;
            order = rows_ordered h (λ row. record row { list = Some (with_entry (list_or_new row.list) s.views.view e) }) (λ x. refl) s t.own.0.order;
            gathering = t.own.0.gathering;
            install = t.own.0.install;
            owes = owes_later t.ghost g n s.views.inc s.sessions u l.later t.own.0.owes;
            decides = subst (λ (row : GroupRow). LeaderKeeps t.ghost n s.views.inc s.views.view row.led) (sym (row_there h (λ row. record row { list = Some (with_entry (list_or_new row.list) s.views.view e) }) (λ x. refl) s g ne)) t.own.0.decides;
            names = t.own.0.names;
            asks = t.own.0.asks;
            led = t.own.0.led;
            waits = waits_with t.ghost s h (λ row. record row { list = Some (with_entry (list_or_new row.list) s.views.view e) }) (λ x. refl) t.own.0.order t.own.0.waits (waits_of g w n s t h);
            idles = idles_with t.ghost n s.views.inc s.views.view (is_fixed s.config.mode) s h g (λ row. record row { list = Some (with_entry (list_or_new row.list) s.views.view e) }) (λ x. refl) (λ row k. refl) t.own.0.order (λ q. absurd (ne q)) t.own.0.idles;
          },
          t.own.1,
          t.own.2,
        );
        others = t.others;
        packets = t.packets;
        sound = t.sound;
        placed = placed_pushed w n s (happened.Put s.views.me s.views.view h (len_of s h) e) (λ m o. refl) t.placed;
        nobody = t.nobody;
        turns = turns_sessions w n s.views.view (s.records ++ happened.Put s.views.me s.views.view h (len_of s h) e ∷ []) s.sessions t.ghost.ps (turns_pushed w n s.views.view s.records s.sessions t.ghost.ps t.turns (happened.Put s.views.me s.views.view h (len_of s h) e)) u (put_turn (records_of w.before) s.records s.views.view s.sessions u s.views.me h (len_of s h) e (λ q i. (t.own.0.owes.own q i).0 ∙ sym t.own.0.stands.me) l.fewer t.turns.own);
      }

module _ (g : List ℕ) (w : Scene) (n : ℕ) (s : Core) (t : Tied g w n s) (e : Entry) (u : SessionState) (l : Leaves s.sessions u e) (room : fits_at_end s g e ≡ true) where
  abbrev z : Standing
  z = t.ghost.nodes n

  abbrev put_line : group.Record
  put_line = Put n (t.ghost.nodes n).view (length (t.ghost.nodes n).list) e

  -- the entry is put
  abbrev pub put_ghost : List group.Packet → Ghost
  put_ghost ps = record { nodes = at_node t.ghost.nodes n (grown (t.ghost.nodes n) e); ps = ps; all = Kept put_line ∷ t.ghost.all; leads = t.ghost.leads; bases = t.ghost.bases; asks = t.ghost.asks; shut = t.ghost.shut; asked = t.ghost.asked }

  abbrev put_row : GroupRow → GroupRow
  put_row row = record row { list = Some (with_entry (list_or_new row.list) s.views.view e) }

  keeps : Keeps t.ghost s.views.view (t.ghost.nodes n).list (list_of s g)
  unfolding list_of
  keeps = keeps_of t.ghost s.views.view (t.ghost.nodes n).list (row_of s g).list t.own.0.row_is.list

  fit : FitIn t.ghost s.views.view ((t.ghost.nodes n).list ++ e ∷ [])
  unfolding fits_at_end
  fit = fits_one t.ghost s.views.view (t.ghost.nodes n).list e (list_of s g) keeps room

  pub len_now : len_of s g ≡ length (t.ghost.nodes n).list
  unfolding len_of
  len_now = keeps.len

  module _ (ps : List group.Packet) (more : (p : group.Packet) → Has p t.ghost.ps → Has p ps) (refusals : (v : ViewId) (p : ProviderId) (r : ℕ) → Has (group.Refusal v p r) ps → Has (group.Refusal v p r) t.ghost.ps) (stables : (v : ViewId) (k : ℕ) → Has (group.Stable v k) ps → Has (group.Stable v k) t.ghost.ps) (requests : (v : ViewId) (p : ProviderId) (r : ℕ) (a : Proposal) → Has (group.Request v p r a) ps → Has (group.Request v p r a) t.ghost.ps) (unshut : t.ghost.leads s.views.view ≡ Some (member n s.views.inc) → Has s.views.view t.ghost.shut → ⊥) (lives : Lives (opening_of w.config) (put_ghost ps)) (decides : LeaderKeeps (put_ghost ps) n s.views.inc s.views.view (row_of s g).led) where
    abbrev y : Ghost
    y = put_ghost ps

    goes : Goes t.ghost y
    goes = record { packets = more; records = λ r h. inr h; lines = λ r h. inr h; leads = λ v l e. e; bases = λ v s. refl; asks = refl; shut = λ v h. h; asked = λ a h. h }

    still : Still t.ghost y
    still =
        record {
          goes = goes;
          leads = λ v s. refl;
          refusals = refusals;
          stables = stables;
          shut = λ v h. h;
          asked = λ a h. h;
          asks = λ p r q h. not_asked p r q h;
          told = λ p r v h. inl (told_old p r v h);
          incs = λ m. incs_set t.ghost.nodes n (grown (t.ghost.nodes n) e) (omega arith) m;
          closed = λ v s c. closed v s c (cases_eq c.node n);
        }
      where
        -- nothing is put where the view is shut to the group
        closed : (v : ViewId) → Has v t.ghost.shut → (c : Closed t.ghost.nodes t.ghost.leads t.ghost.asks v) → (c.node ≡ n) ⊎ (c.node ≢ n) → Closed y.nodes y.leads y.asks v
        closed v h c (inl q) =
            let same : s.views.view ≡ v = sym t.own.0.stands.view ∙ ap (λ m. (t.ghost.nodes m).view) (sym q) ∙ c.stands in
            let led : t.ghost.leads s.views.view ≡ Some (member n s.views.inc) = ap t.ghost.leads same ∙ c.led ∙ (λ i. Some (member (q i) (t.ghost.nodes (q i)).inc)) ∙ ap (λ j. Some (member n j)) t.own.0.stands.inc in
            absurd (unshut led (subst (λ z. Has z t.ghost.shut) (sym same) h))
        closed v h c (inr ne) =
            let there : at_node t.ghost.nodes n (grown (t.ghost.nodes n) e) c.node ≡ t.ghost.nodes c.node = set_there t.ghost.nodes n (grown (t.ghost.nodes n) e) c.node ne in
            record {
              asks_not = c.asks_not;
              node = c.node;
              stands = ap (λ (k : Standing). k.view) there ∙ c.stands;
              led = c.led ∙ ap (λ (k : Standing). Some (member c.node k.inc)) (sym there);
              bare = ap (λ (k : Standing). k.list) there ∙ c.bare;
            }

        told_old : (p : ProviderId) (r : ℕ) (v : ViewId) → Has (Noted (Told p r v)) (Kept put_line ∷ t.ghost.all) → Has (Noted (Told p r v)) t.ghost.all
        told_old p r v (inl q) = absurd (cc)
        told_old p r v (inr h) = h

        not_asked : (p : ProviderId) (r : ℕ) (q : Proposal) → Has (Noted (Asked p r q)) (Kept put_line ∷ t.ghost.all) → Has (Noted (Asked p r q)) t.ghost.all
        not_asked p r q (inl z) = absurd (cc)
        not_asked p r q (inr h) = h

    spares : (m : ℕ) → m ≢ n → Spares t.ghost y m
    spares m ne =
        still_spares t.ghost y still m (ap (λ (k : Standing). k.list) (set_there t.ghost.nodes n (grown (t.ghost.nodes n) e) m ne)) (λ v k f h. not_put v k f h) (λ p r v q h. not_told p r v h)
      where
        not_put : (v : ViewId) (k : ℕ) (f : Entry) → Has (Put m v k f) (put_line ∷ kept t.ghost.all) → Has (Put m v k f) (kept t.ghost.all)
        not_put v k f (inl q) = absurd (ne (at q))
          where
            at : Put m v k f ≡ put_line → m ≡ n
            at q = cc
        not_put v k f (inr h) = h

        not_told : (p : ProviderId) (r : ℕ) (v : ViewId) → Has (Noted (Told p r v)) (Kept put_line ∷ t.ghost.all) → Has (Noted (Told p r v)) t.ghost.all
        not_told p r v (inl q) = absurd (cc)
        not_told p r v (inr h) = h

    here : at_node t.ghost.nodes n (grown (t.ghost.nodes n) e) n ≡ grown (t.ghost.nodes n) e
    here = set_here t.ghost.nodes n (grown (t.ghost.nodes n) e)

    row_after : RowIs y n s.views.view s.views.members (put_row (row_of s g))
    unfolding with_entry list_of
    row_after =
        record {
          list = subst (λ full. Keeps y s.views.view full (with_entry (list_of s g) s.views.view e)) (sym (ap (λ (k : Standing). k.list) here)) (pushed_keeps t.ghost y s.views.view (t.ghost.nodes n).list (list_of s g) e refl keeps fit);
          stable = stable_on t.ghost y goes s.views.view (list_or_new (row_of s g).list).start t.own.0.row_is.stable;
          leader = knows_on t.ghost y goes s.views.view s.views.members (row_of s g).leader t.own.0.row_is.leader;
          acked = λ m i a. acked_on t.ghost y goes s.views.view m i (acked_from m (row_of s g).led.acked) (t.own.0.row_is.acked m i a);
          covers = λ j k q h. t.own.0.row_is.covers j k q (stables s.views.view k h);
        }

    owed_after : (q : Request) → Has q u.requests → q.group ≡ g → Owed y n s.views.inc q
    owed_after q i c =
        let k = t.own.0.owes.requests q (l.later.requests q i) c in
        record {
          node = k.node;
          inc_of = k.inc_of;
          asked = inr k.asked;
          unput = λ v j f h b. unput v j f h b;
          untold = λ v h. untold v h;
        }
      where
        unput : (v : ViewId) (j : ℕ) (f : Entry) → Has (Put n v j f) (put_line ∷ kept t.ghost.all) → Has (q.provider, q.request) (carried f) → ⊥
        unput v j f (inl a) b = let same : f ≡ e = at a in l.gone q i (subst (λ x. Has {A = ProviderId × ℕ} (q.provider, q.request) (carried x)) same b)
          where
            at : Put n v j f ≡ put_line → f ≡ e
            at a = cc
        unput v j f (inr a) b = (t.own.0.owes.requests q (l.later.requests q i) c).unput v j f a b

        untold : (v : ViewId) → Has (Noted (Told q.provider q.request v)) (Kept put_line ∷ t.ghost.all) → ⊥
        untold v (inl a) = cc
        untold v (inr a) = (t.own.0.owes.requests q (l.later.requests q i) c).untold v a

    own_after : NodeOf y g n (is_fixed s.config.mode) s.views (put_row (row_of s g)) (with_row s g put_row).groups u s.names
    own_after =
        let k = t.own.0 in
        record {
          stands = record {
            me = k.stands.me;
            up = k.stands.up;
            inc = ap (λ (q : Standing). q.inc) here ∙ k.stands.inc;
            view = ap (λ (q : Standing). q.view) here ∙ k.stands.view;
            promise = ap (λ (q : Standing). q.promise) here ∙ k.stands.promise;
            seated = inr k.stands.seated;
          };
          row_is = row_after;
          order = rows_ordered g put_row (λ x. refl) s k.order;
          gathering = gathers_on t.ghost y goes g n s.views.inc s.views.view s.views.promise s.views.gathering k.gathering;
          install = install_on t.ghost y goes g s.views.install k.install;
          owes = record { me = less.me; inc_of = less.inc_of; providers = less.providers; own = less.own; requests = owed_after; attended = less.attended; given = less.given };
          decides = decides;
          names = record { named = k.names.named; unnamed = k.names.unnamed; full = k.names.full };
          asks = k.asks;
          led = λ q. let a = k.led q in record { inc = a.inc; leads = a.leads };
          waits = waits_with t.ghost s g put_row (λ x. refl) k.order k.waits (waits_of g w n s t g);
          idles = record { few = λ q a. absurd (cc); shut = λ a h. absurd (unshut a h) };
        }
      where
        less : Owes t.ghost g n s.views.inc u
        less = owes_later t.ghost g n s.views.inc s.sessions u l.later t.own.0.owes

    lines_after : y.all ≡ lines_with g (reverse (s.records ++ happened.Put s.views.me s.views.view g (len_of s g) e ∷ [])) w.before (lines_of g w.before)
    lines_after =
        ap (λ k. Kept put_line ∷ k) t.lines ∙ (λ i. Kept (Put (sym t.own.0.stands.me i) (t.own.0.stands.view i) (sym len_now i) e) ∷ lines_now g w s) ∙ ap (λ b. (if b then Kept (Put s.views.me s.views.view (len_of s g) e) ∷ [] else []) ++ lines_now g w s) (sym (text_self g)) ∙ sym (lines_pushed g s.records (happened.Put s.views.me s.views.view g (len_of s g) e) w.before (lines_of g w.before))

    state_after : state_of (put s g e) g ≡ state_of_list t.ghost.bases s.views.view (take (len_of s g + 1) (puts_of n s.views.view (kept y.all)))
    unfolding state_of list_of put recorded row_of
    state_after =
        let k : Whole (opening_of w.config) y.nodes y.ps y.all y.leads y.bases = whole lives in
        let a : state_of (put s g e) g ≡ (with_entry (list_of s g) s.views.view e).state = ap (λ (row : GroupRow). (list_or_new row.list).state) (row_here g put_row (λ x. refl) s t.own.0.order) in
        let b : (with_entry (list_of s g) s.views.view e).state ≡ state_of_list t.ghost.bases s.views.view ((t.ghost.nodes n).list ++ e ∷ []) = (pushed_keeps t.ghost y s.views.view (t.ghost.nodes n).list (list_of s g) e refl keeps fit).state in
        let c : puts_of n s.views.view (kept y.all) ≡ (t.ghost.nodes n).list ++ e ∷ [] = ap (λ v. puts_of n v (kept y.all)) (sym t.own.0.stands.view ∙ sym (ap (λ (q : Standing). q.view) here)) ∙ (k.good.past.seated n).list ∙ ap (λ (q : Standing). q.list) here in
        let d : take (len_of s g + 1) (puts_of n s.views.view (kept y.all)) ≡ (t.ghost.nodes n).list ++ e ∷ [] = (λ i. take (len_now i + 1) (c i)) ∙ take_pushed (t.ghost.nodes n).list e in
        a ∙ b ∙ ap (state_of_list t.ghost.bases s.views.view) (sym d)

    -- the node and the world after it
    pub put_tied : (t' : Tied g w n (with_sessions (put s g e) u)) × (Has (Put n s.views.view (len_of s g) e) (kept t'.ghost.all) × (state_of (put s g e) g ≡ state_of_list t'.ghost.bases s.views.view (take (len_of s g + 1) (puts_of n s.views.view (kept t'.ghost.all))))) × ((p : group.Packet) → Has p ps → Has p t'.ghost.ps) × ((v : ViewId) → t'.ghost.leads v ≡ t.ghost.leads v)
    unfolding put recorded with_sessions row_of with_row
    put_tied = (
      record {
        ghost = y;
        life = lives;
        lines = lines_after;
        own = (subst (λ row. NodeOf y g n (is_fixed s.config.mode) s.views row (with_row s g put_row).groups u s.names) (sym (row_here g put_row (λ x. refl) s t.own.0.order)) own_after, t.own.1, t.own.2);
        others = λ m ne. node_if_on t.ghost y m (spares m ne) (set_there t.ghost.nodes n (grown (t.ghost.nodes n) e) m ne) w.config g (w.incs m) (w.cores m) (t.others m ne);
        packets = λ p i. shows_on t.ghost y goes g p (t.packets p i);
        sound = sound_on t.ghost y still g t.sound;
        placed = placed_pushed w n s (happened.Put s.views.me s.views.view g (len_of s g) e) (λ m o. refl) t.placed;
        nobody = t.nobody;
        turns = turns_packets w n s.views.view (s.records ++ happened.Put s.views.me s.views.view g (len_of s g) e ∷ []) u t.ghost.ps (turns_sessions w n s.views.view (s.records ++ happened.Put s.views.me s.views.view g (len_of s g) e ∷ []) s.sessions t.ghost.ps (turns_pushed w n s.views.view s.records s.sessions t.ghost.ps t.turns (happened.Put s.views.me s.views.view g (len_of s g) e)) u (put_turn (records_of w.before) s.records s.views.view s.sessions u s.views.me g (len_of s g) e (λ q i. (t.own.0.owes.own q i).0 ∙ sym t.own.0.stands.me) l.fewer t.turns.own)) ps requests;
      },
      (inl (λ i. Put n (sym t.own.0.stands.view i) (len_now i) e), state_after),
      (λ p h. h),
      (λ v. refl),
    )

-- the own group's entry, as it was sent
module _ (g : List ℕ) (w : Scene) (n : ℕ) (s : Core) (t : Tied g w n s) (e : Entry) (u : SessionState) (l : Leaves s.sessions u e) (room : fits_at_end s g e ≡ true) (thawed : s.views.promise ≡ s.views.view) (sent_it : Has (group.Append s.views.view (len_of s g) e) t.ghost.ps) where
  sent_there : Has (group.Append (t.ghost.nodes n).view (length (t.ghost.nodes n).list) e) t.ghost.ps
  sent_there = subst (λ (k : ViewId × ℕ). Has (group.Append k.0 k.1 e) t.ghost.ps) (λ i. (sym t.own.0.stands.view i, len_now g w n s t e u l room i)) sent_it

  follows : Lives (opening_of w.config) (put_ghost g w n s t e u l room t.ghost.ps)
  follows =
      Follows t.ghost.nodes (at_node t.ghost.nodes n (grown (t.ghost.nodes n) e)) t.ghost.ps t.ghost.all t.ghost.leads t.ghost.bases n (t.ghost.nodes n) e t.life refl (subst (λ k. 0 < k) (sym t.own.0.stands.inc) t.own.0.stands.up) (t.own.0.stands.view ∙ sym thawed ∙ sym t.own.0.stands.promise) sent_there (changes t.ghost.nodes n (grown (t.ghost.nodes n) e))

  -- the leader has the whole list already
  unled : t.ghost.leads s.views.view ≡ Some (member n s.views.inc) → ⊥
  unled q =
      let k : Whole (opening_of w.config) t.ghost.nodes t.ghost.ps t.ghost.all t.ghost.leads t.ghost.bases = whole t.life in
      let a : slice_get (k.log (t.ghost.nodes n).view) (length (t.ghost.nodes n).list) ≡ Some e = k.good.inv.packet (group.Append (t.ghost.nodes n).view (length (t.ghost.nodes n).list) e) sent_there in
      let b : (t.ghost.nodes n).list ≡ k.log (t.ghost.nodes n).view = (k.good.inv.node n).whole s.views.inc (ap t.ghost.leads t.own.0.stands.view ∙ q) in
      past (t.ghost.nodes n).list e (subst (λ xs. slice_get xs (length (t.ghost.nodes n).list) ≡ Some e) (sym b) a)
    where
      past : (xs : List Entry) (e : Entry) → slice_get xs (length xs) ≡ Some e → ⊥
      past [] e q = cc
      past (x ∷ xs) e q = past xs e q

  decides : LeaderKeeps (put_ghost g w n s t e u l room t.ghost.ps) n s.views.inc s.views.view (row_of s g).led
  decides =
      record {
        refused = λ p r q c. absurd (unled q);
        begun = λ p r i f q. absurd (unled q);
        waiting = λ p q. absurd (unled q);
        later = t.own.0.decides.later;
        again = t.own.0.decides.again;
        leads_it = t.own.0.decides.leads_it;
        apart = t.own.0.decides.apart;
        lasts = t.own.0.decides.lasts;
      }

  pub put_own : (t' : Tied g w n (with_sessions (put s g e) u)) × (Has (Put n s.views.view (len_of s g) e) (kept t'.ghost.all) × (state_of (put s g e) g ≡ state_of_list t'.ghost.bases s.views.view (take (len_of s g + 1) (puts_of n s.views.view (kept t'.ghost.all)))))
  put_own = let k = put_tied g w n s t e u l room t.ghost.ps (λ p h. h) (λ v p r h. h) (λ v k h. h) (λ v p r a h. h) (λ q h. unled q) follows decides in (k.0, k.1)
