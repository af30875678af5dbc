-- What is handed on: each provider hears the entry at its place, and ballots go to the leader.
use Rattle.std.proofs.Common.{arith, ◌≡◌, ◌⊎◌, ℕ, ◌+◌, List, [], ◌∷◌, ◌++◌, length, take, Option, Some, None, Bool, true, false, refl, sym, ap, ◌∙◌, subst, inl, inr, ⊎_elim, append_assoc}
use Rattle.std.specs.Prelude.{reverse, map, filter, fold, flat_map, if◌then◌else◌}
use Rattle.std.proofs.lemmas.List.{append-nil}
use Rattle.rsct_packet.specs.declared.ids.ViewId.{ViewId}
use Rattle.rsct_packet.specs.declared.ids.ProviderId.{ProviderId}
use Rattle.rsct_packet.specs.declared.ids.ProtoId.{ProtoId}
use Rattle.rsct_packet.specs.Search.{Has}
use Rattle.rsct_packet.proofs.HasLaws.{has_append, has_map}
use Rattle.proposal_core.specs.declared.entry.Entry.{Entry}
use Rattle.proposal_core.specs.declared.proposal.Proposal.{Proposal}
use Rattle.proposal_core.specs.declared.group_state.GroupState.{GroupState}
use Rattle.client_callbacks.specs.declared.ballot.Filled.{Filled}
use Rattle.client_callbacks.specs.Ballots.{BallotView}
use Rattle.session_state.specs.declared.casts.Cast.{Cast}
use Rattle.session_state.specs.declared.state.SessionState.{SessionState}
use Rattle.session_state.specs.HandOn.{hearers, casts_out}
use Rattle.session_state.specs.HandOn as session
use Rattle.subscribe_core.specs.Subs.{is_of_group, differs}
use Rattle.view_state.specs.declared.views.Views.{Views}
use Rattle.node_state.specs.declared.happened.Happened.{Happened}
use Rattle.node_state.specs.declared.happened.Happened.TheVariants as happened
use Rattle.node_state.specs.declared.packet.Body.TheVariants as body
use Rattle.node_state.specs.declared.state.Core.{Core}
use Rattle.node_state.specs.State.{row_of, frozen, recorded, recorded_all, with_sessions}
use Rattle.node_state.specs.Sending.{sent, send_on, send_if_known, vote_of}
use Rattle.node_state.specs.HandOn.{Answering, fills, cast_record, cast_records, heard, note_of, notes, noted, ballot_sent, cast_sent_of, casts_sent, hand_on}
use Rattle.run_safety.specs.Past.{earlier}
use Rattle.run_safety.specs.Sight.{lines_of}
use Rattle.run_safety.specs.Group.{Noted, Heard, Asked, Told, Put, kept}
use Rattle.run_safety.specs.Group as group
use Rattle.run_safety.specs.GroupLists.{puts_of}
use Rattle.run_safety.specs.Bases.{state_of_list}
use Rattle.run_safety.specs.Moves.{Hears}
use Rattle.step_refinement.specs.Ghost.{Ghost, Goes}
use Rattle.step_refinement.specs.Tied.{Scene, lines_now, Tied}
use Rattle.step_refinement.proofs.Goes.{Spares, Still, still_spares, sound_on, node_if_on, shows_on}
use Rattle.step_refinement.proofs.Works.{Passes, lines_pushed, placed_pushed, tied_sent}
use Rattle.std.specs.Str.{bytes_eq}
use Rattle.node_state.proofs.NameOrder.{cases_text, text_self, text_other}
use Rattle.step_refinement.proofs.SessionLaws.{cast_has}
use Rattle.step_refinement.proofs.Puts.{After}
use Rattle.step_refinement.proofs.Turns.{turns_pushed}

-- what is heard of an entry at its place, or no group sees it
abbrev Fine : List ℕ → List ℕ → ℕ → ViewId → ℕ → Entry → GroupState → Happened → Type 0
Fine g h n v i e st r = Passes g r ⊎ ((p : ProviderId) × (p.node ≡ n) × (r ≡ happened.Heard p v h i e st.members st.value))

module _ (g : List ℕ) (n : ℕ) (h : List ℕ) (v : ViewId) (i : ℕ) (e : Entry) (st : GroupState) (P : Core → Type 0) (unseen : (c : Core) (r : Happened) → Passes g r → P c → P (recorded c r)) (hear : (c : Core) (p : ProviderId) → p.node ≡ n → P c → P (recorded c (happened.Heard p v h i e st.members st.value))) where
  one_too : (c : Core) (r : Happened) → Fine g h n v i e st r → P c → P (recorded c r)
  one_too c r (inl u) t = unseen c r u t
  one_too c r (inr k) t = subst (λ z. P (recorded c z)) (sym k.2) (hear c k.0 k.1 t)

  -- records, one after another
  all_too : (rs : List Happened) (c : Core) → ((r : Happened) → Has r rs → Fine g h n v i e st r) → P c → P (recorded_all c rs)
  unfolding recorded recorded_all
  all_too [] c fine t = subst (λ z. P (record c { records = z })) (sym (append-nil c.records)) t
  all_too (r ∷ rs) c fine t =
      subst (λ z. P (record c { records = z })) (append_assoc c.records (r ∷ []) rs) (all_too rs (recorded c r) (λ q k. fine q (inr k)) (one_too c r (fine r (inl refl)) t))

  unseen_casts : (p : ProviderId) (o : Option (ProtoId × ℕ × BallotView)) (r : Happened) → Has r (cast_records p o) → Passes g r
  unfolding cast_records cast_record
  unseen_casts p None r k = absurd k
  unseen_casts p (Some x) r k = at (x.2).filled k
    where
      at : (b : Option Filled) → Has r (cast_record p x.0 x.1 b) → Passes g r
      at None k = absurd k
      at (Some b) (inl q) = subst (Passes g) (sym q) ((λ rs. refl), λ m o. refl)
      at (Some b) (inr z) = absurd z

  fine_heard : (c : Core) → c.views.view ≡ v → (cs : List Cast) → ((x : Cast) → Has x cs → x.provider.node ≡ n) → (r : Happened) → Has r (flat_map (heard c h i e st) cs) → Fine g h n v i e st r
  unfolding heard
  fine_heard c at [] own r k = absurd k
  fine_heard c at (x ∷ cs) own r k =
      ⊎_elim (λ (a : Has r (heard c h i e st x)). one a) (λ (b : Has r (flat_map (heard c h i e st) cs)). fine_heard c at cs (λ y j. own y (inr j)) r b) (has_append r (heard c h i e st x) (flat_map (heard c h i e st) cs) k)
    where
      one : Has r (happened.Heard x.provider c.views.view h i e st.members st.value ∷ cast_records x.provider x.cast) → Fine g h n v i e st r
      one (inl q) = inr (x.provider, own x (inl refl), q ∙ ap (λ z. happened.Heard x.provider z h i e st.members st.value) at)
      one (inr j) = inl (unseen_casts x.provider x.cast r j)

  -- what is recorded as the entry is handed on
  pub handed_records : (f : Answering) (c : Core) (before : GroupState) → c.views.view ≡ v → ((p : ProviderId) → Has p (hearers c.sessions h before e) → p.node ≡ n) → P (with_sessions c (session.handed_on c.sessions h before st e (fills f (length c.records) c.sessions e st (hearers c.sessions h before e)))) → P (with_sessions (noted (recorded_all c (flat_map (heard c h i e st) (casts_out c.sessions h before st e (fills f (length c.records) c.sessions e st (hearers c.sessions h before e))))) h i before st) (session.handed_on c.sessions h before st e (fills f (length c.records) c.sessions e st (hearers c.sessions h before e))))
  unfolding noted notes note_of recorded_all with_sessions casts_out
  handed_records f c before at own t = by (differs before st)
    where
      bs : List (Option Filled)
      bs = fills f (length c.records) c.sessions e st (hearers c.sessions h before e)

      cs : List Cast
      cs = casts_out c.sessions h before st e bs

      rs : List Happened
      rs = flat_map (heard c h i e st) cs

      u : SessionState
      u = session.handed_on c.sessions h before st e bs

      told : P (recorded_all (with_sessions c u) rs)
      told = all_too rs (with_sessions c u) (fine_heard c at cs (λ x j. own x.provider (cast_has e st c.sessions.level (hearers c.sessions h before e) bs x j))) t

      by : (b : Bool) → P (with_sessions (elim b [ true ↦ notes (recorded_all c rs) h (Some i) st | false ↦ recorded_all c rs ]) u)
      by false = told
      by true =
          let ns : List Happened = map (note_of (recorded_all c rs) h (Some i) st) (filter (is_of_group h) c.sessions.subs.live) in
          all_too ns (recorded_all (with_sessions c u) rs) (λ r j. let q = has_map (note_of (recorded_all c rs) h (Some i) st) r (filter (is_of_group h) c.sessions.subs.live) j in inl (subst (Passes g) (sym q.2) ((λ ts. refl), λ m o. refl))) told

module _ (g : List ℕ) (w : Scene) (n : ℕ) (h : List ℕ) (v : ViewId) (i : ℕ) (e : Entry) (st : GroupState) where
  -- a step that has put the entry
  pub record Stepping (views : Views) (c : Core) : Type 0 where
    pub tied : Tied g w n c
    pub same : c.views ≡ views
    pub after : After g h n v i e st tied.ghost

  module _ (views : Views) where
    unseen_too : (c : Core) (r : Happened) → Passes g r → Stepping views c → Stepping views (recorded c r)
    unfolding recorded row_of
    unseen_too c r unseen t =
        record {
          tied = record {
            ghost = t.tied.ghost;
            life = t.tied.life;
            lines = t.tied.lines ∙ sym (lines_pushed g c.records r w.before (lines_of g w.before) ∙ ap (λ z. z ++ lines_now g w c) (unseen.0 (earlier (reverse c.records) w.before)));
            own = t.tied.own;
            others = t.tied.others;
            packets = t.tied.packets;
            sound = t.tied.sound;
            placed = placed_pushed w n c r unseen.1 t.tied.placed;
            nobody = t.tied.nobody;
            turns = turns_pushed w n c.views.view c.records c.sessions t.tied.ghost.ps t.tied.turns r;
          };
          same = t.same;
          after = t.after;
        }

    heard_goes : (x : Ghost) (l : group.Note) → Goes x (record x { all = Noted l ∷ x.all })
    heard_goes x l = record { packets = λ p h. h; records = λ r h. h; lines = λ r h. inr h; leads = λ v l e. e; bases = λ v s. refl; asks = refl; shut = λ v h. h; asked = λ a h. h }

    heard_still : (x : Ghost) (p : ProviderId) (ms : List ProviderId) (value : List ℕ) → Still x (record x { all = Noted (Heard p v i e ms value) ∷ x.all })
    heard_still x p ms value =
        record {
          goes = heard_goes x (Heard p v i e ms value);
          leads = λ v s. refl;
          refusals = λ v p r h. h;
          stables = λ v k h. h;
          shut = λ v h. h;
          asked = λ a h. h;
          asks = λ q r y h. not_asked q r y h;
          told = λ q r u h. inl (told_old q r u h);
          incs = λ m. omega arith;
          closed = λ v s c. c;
        }
      where
        told_old : (q : ProviderId) (r : ℕ) (u : ViewId) → Has (Noted (Told q r u)) (Noted (Heard p v i e ms value) ∷ x.all) → Has (Noted (Told q r u)) x.all
        told_old q r u (inl z) = absurd (cc)
        told_old q r u (inr k) = k

        not_asked : (q : ProviderId) (r : ℕ) (y : Proposal) → Has (Noted (Asked q r y)) (Noted (Heard p v i e ms value) ∷ x.all) → Has (Noted (Asked q r y)) x.all
        not_asked q r y (inl z) = absurd (cc)
        not_asked q r y (inr k) = k

    heard_spares : (x : Ghost) (p : ProviderId) (ms : List ProviderId) (value : List ℕ) (m : ℕ) → Spares x (record x { all = Noted (Heard p v i e ms value) ∷ x.all }) m
    heard_spares x p ms value m =
        still_spares x (record x { all = Noted (Heard p v i e ms value) ∷ x.all }) (heard_still x p ms value) m refl (λ u k e h. h) (λ q r u e h. not_told q r u h)
      where
        not_told : (q : ProviderId) (r : ℕ) (u : ViewId) → Has (Noted (Told q r u)) (Noted (Heard p v i e ms value) ∷ x.all) → Has (Noted (Told q r u)) x.all
        not_told q r u (inl z) = absurd (cc)
        not_told q r u (inr k) = k

    heard_too : (c : Core) (p : ProviderId) → p.node ≡ n → h ≡ g → Stepping views c → Stepping views (recorded c (happened.Heard p v h i e st.members st.value))
    unfolding recorded row_of
    heard_too c p at same t =
        record {
          tied = record {
            ghost = y;
            life = Hears x.nodes x.ps x.all y.all x.leads x.bases p v i e t.tied.life (subst (λ k. Has (Put k v i e) (kept x.all)) (sym at) facts.0) st (facts.1 ∙ ap (λ k. state_of_list x.bases v (take (i + 1) (puts_of k v (kept x.all)))) (sym at)) (record { newer = []; older = x.all; was = refl; is = refl });
            lines = ap (λ l. Noted (Heard p v i e st.members st.value) ∷ l) t.tied.lines ∙ ap (λ b. (if b then Noted (Heard p v i e st.members st.value) ∷ [] else []) ++ lines_now g w c) (sym (text_self g) ∙ ap (λ k. bytes_eq k g) (sym same)) ∙ sym (lines_pushed g c.records (happened.Heard p v h i e st.members st.value) w.before (lines_of g w.before));
            own = node_if_on x y n (heard_spares x p st.members st.value n) refl w.config g (w.incs n) (Some c) t.tied.own;
            others = λ m ne. node_if_on x y m (heard_spares x p st.members st.value m) refl w.config g (w.incs m) (w.cores m) (t.tied.others m ne);
            packets = λ q k. shows_on x y (heard_goes x (Heard p v i e st.members st.value)) g q (t.tied.packets q k);
            sound = sound_on x y (heard_still x p st.members st.value) g t.tied.sound;
            placed = placed_pushed w n c (happened.Heard p v h i e st.members st.value) (λ m o. refl) t.tied.placed;
            nobody = t.tied.nobody;
            turns = turns_pushed w n c.views.view c.records c.sessions t.tied.ghost.ps t.tied.turns (happened.Heard p v h i e st.members st.value);
          };
          same = t.same;
          after = t.after;
        }
      where
        x : Ghost
        x = t.tied.ghost

        y : Ghost
        y = record (t.tied.ghost) { all = Noted (Heard p v i e st.members st.value) ∷ t.tied.ghost.all }

        facts : Has (Put n v i e) (kept t.tied.ghost.all) × (st ≡ state_of_list t.tied.ghost.bases v (take (i + 1) (puts_of n v (kept t.tied.ghost.all))))
        facts = t.after same

    hears_too : (c : Core) (p : ProviderId) → p.node ≡ n → Stepping views c → Stepping views (recorded c (happened.Heard p v h i e st.members st.value))
    hears_too c p at t =
        ⊎_elim (λ (q : h ≡ g). heard_too c p at q t) (λ (ne : h ≡ g → ⊥). unseen_too c (happened.Heard p v h i e st.members st.value) ((λ rs. ap (λ b. if b then Noted (Heard p v i e st.members st.value) ∷ [] else []) (text_other h g ne)), λ m o. refl) t) (cases_text h g)

  -- a step from there on
  pub record Going (views : Views) (c : Core) : Type 0 where
    pub tied : Tied g w n c
    pub same : c.views ≡ views

  -- ballots concern no group's life
  cast_too : (views : Views) (c : Core) (k : List ℕ) (to : Option ℕ) (p : ProviderId) (o : Option (ProtoId × ℕ × BallotView)) → Going views c → Going views (cast_sent_of c k to p o)
  unfolding cast_sent_of ballot_sent send_if_known vote_of sent send_on
  cast_too views c k to p None t = t
  cast_too views c k to p (Some x) t = ballot (x.2).filled to
    where
      ballot : (b : Option Filled) (to : Option ℕ) → Going views (ballot_sent c k to p x.0 x.1 b)
      ballot None to = t
      ballot (Some b) None = t
      ballot (Some b) (Some m) =
          record { tied = tied_sent g w n c t.tied m (body.Vote c.views.view k x.0 x.1 p b.vote b.value b.message) tt; same = t.same }

  casts_fold : (views : Views) (k : List ℕ) (to : Option ℕ) (cs : List Cast) (c : Core) → Going views c → Going views (fold (λ d x. cast_sent_of d k to x.provider x.cast) c cs)
  casts_fold views k to [] c t = t
  casts_fold views k to (x ∷ cs) c t = casts_fold views k to cs (cast_sent_of c k to x.provider x.cast) (cast_too views c k to x.provider x.cast t)

  casts_too : (views : Views) (k : List ℕ) (to : Option ℕ) (cs : List Cast) (c : Core) → Going views c → Going views (casts_sent c k to cs)
  unfolding casts_sent
  casts_too views k to cs c t = by (frozen c)
    where
      by : (b : Bool) → Going views (elim b [ true ↦ c | false ↦ fold (λ d x. cast_sent_of d k to x.provider x.cast) c cs ])
      by true = t
      by false = casts_fold views k to cs c t

  -- handed on
  pub handed_tied : (views : Views) (f : Answering) (to : Option ℕ) (c : Core) (before : GroupState) → c.views.view ≡ v → ((p : ProviderId) → Has p (hearers c.sessions h before e) → p.node ≡ n) → Stepping views (with_sessions c (session.handed_on c.sessions h before st e (fills f (length c.records) c.sessions e st (hearers c.sessions h before e)))) → Going views (hand_on f c to h i before st e)
  unfolding hand_on
  handed_tied views f to c before at own t =
      let bs : List (Option Filled) = fills f (length c.records) c.sessions e st (hearers c.sessions h before e) in
      let cs : List Cast = casts_out c.sessions h before st e bs in
      let k : Stepping views (with_sessions (noted (recorded_all c (flat_map (heard c h i e st) cs)) h i before st) (session.handed_on c.sessions h before st e bs)) =
      handed_records g n h v i e st (Stepping views) (unseen_too views) (hears_too views) f c before at own t in
      casts_too views h to cs (with_sessions (noted (recorded_all c (flat_map (heard c h i e st) cs)) h i before st) (session.handed_on c.sessions h before st e bs)) (record { tied = k.tied; same = k.same })
