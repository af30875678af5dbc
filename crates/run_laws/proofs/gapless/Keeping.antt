-- All that a step does keeps what stands of a provider at its node.
use Rattle.std.proofs.Common.{◌≡◌, ℕ, List, [], ◌∷◌, ◌++◌, Option, Bool, true, false, refl, sym, ap, ◌∙◌, subst, inl, inr, ⊎_elim, append_assoc}
use Rattle.std.specs.Prelude.{reverse, flat_map, map}
use Rattle.std.proofs.lemmas.List.{reverse-append}
use Rattle.rsct_packet.specs.declared.ids.ViewId.{ViewId}
use Rattle.rsct_packet.specs.declared.ids.ProviderId.{ProviderId}
use Rattle.rsct_packet.specs.Search.{Has}
use Rattle.rsct_packet.proofs.HasLaws.{append_has_left, append_has_right, has_map}
use Rattle.proposal_core.specs.declared.entry.Entry.{Entry}
use Rattle.proposal_core.specs.declared.group_state.GroupState.{GroupState}
use Rattle.client_callbacks.specs.declared.ballot.Filled.{Filled}
use Rattle.client_callbacks.specs.declared.told.Why.{Why}
use Rattle.session_state.specs.declared.state.SessionState.{SessionState}
use Rattle.session_state.specs.State.{provider_of}
use Rattle.session_state.specs.HandOn.{casts_out, take_telling, handed_on}
use Rattle.view_state.specs.declared.install.Install.{Install}
use Rattle.view_state.specs.declared.install.Base.{Base}
use Rattle.view_state.specs.Bases.{bases_of, base_named}
use Rattle.view_state.specs.Views.{views_entered}
use Rattle.node_state.specs.declared.happened.Happened.{Happened}
use Rattle.node_state.specs.declared.happened.Happened.TheVariants as happened
use Rattle.node_state.specs.declared.state.Core.{Core}
use Rattle.node_state.specs.State.{InNameOrder, row_of, with_row, list_of, state_of, len_of, recorded, recorded_all, with_sessions}
use Rattle.node_state.specs.HandOn.{heard}
use Rattle.node_state.specs.Leading.{put}
use Rattle.node_state.specs.Applying.{level_set, base_row, base_record, view_entered}
use Rattle.run_safety.specs.Past.{History, earlier, records_of}
use Rattle.run_safety.specs.Stays.{stays}
use Rattle.step_refinement.proofs.BaseOrder.{bases_ordered, base_noted}
use Rattle.row_laws.specs.hearing.Changes.{Same, handing}
use Rattle.row_laws.proofs.hearing.Attending.{pushed, pushed_reverse, heard_at}
use Rattle.row_laws.proofs.hearing.Doing.{base_len, entered_groups}
use Rattle.provider_laws.proofs.attending.Entering.{state_named, inside_stays}
use Rattle.run_laws.specs.seen_runs.Seen.{Seen, SeenAt}
use Rattle.run_laws.specs.gapless.Takers.{Taker, Stood, AskedJoin, Dissolving}
use Rattle.run_laws.proofs.gapless.Firsts.{taker_passed}
use Rattle.run_laws.proofs.gapless.Growing.{Unasked, asked_back, Over, over_more, dissolving_more, Inert}
use Rattle.run_laws.proofs.gapless.Standing.{Law, Inv, inv_record, inv_told}
use Rattle.run_laws.proofs.gapless.Putting.{inv_handed}
use Rattle.run_laws.proofs.gapless.TakerWalk.{Fine, Alike, Keeps}
use Rattle.provider_laws.proofs.attending.Ordering.{put_made}
use Rattle.provider_laws.proofs.attending.Turns.{within_pushed}
use Rattle.run_laws.proofs.seen_runs.Law.{seen_after}
use Rattle.row_laws.proofs.failed_rows.Bases.{base_is, new_stay}

pub fine_inert : (r : Happened) → Fine r → Inert r
fine_inert (happened.Ring n k i ms o) a = tt
fine_inert (happened.Cast p proto phase vote value message) a = tt
fine_inert (happened.Noted n c v i told) a = tt
fine_inert (happened.Shown n line) a = tt
fine_inert _ a = absurd a

-- records of an entering
abbrev Entered : Happened → Type 0
Entered (happened.In n v ms) = Unit {0}
Entered (happened.Base n v g u len s) = Unit {0}
Entered _ = ⊥

entered_unasked : (r : Happened) → Entered r → Unasked r
entered_unasked (happened.Asked p r g x) a = absurd a
entered_unasked _ a = tt

module _ (n : ℕ) (before : History) (p : ProviderId) (node : p.node ≡ n) (final : List Happened) where
  -- the event records more than this
  abbrev pub Ahead : List Happened → Type 0
  Ahead rs = (more : List Happened) × (rs ++ more ≡ final)

  abbrev pub Inv_at : Core → Type 0
  Inv_at s = Inv n before p node final s.views.view s.sessions (reverse s.records) (len_of s) (state_of s)

  pub record Standing (s : Core) : Type 0 where
    pub order : InNameOrder s.groups
    pub me : s.views.me ≡ n
    pub inv : Ahead s.records → Inv_at s

  ahead_less : (xs ys : List Happened) → Ahead (xs ++ ys) → Ahead xs
  ahead_less xs ys a = (ys ++ a.0, sym (append_assoc xs ys a.0) ∙ a.1)

  standing_alike : (s t : Core) → Alike s t → Standing s → Standing t
  standing_alike s t a k =
      record {
        order = a.order k.order;
        me = a.same.me ∙ k.me;
        inv = λ h. subst (λ (z : ViewId × SessionState × List Happened × (List ℕ → ℕ) × (List ℕ → GroupState)). Inv n before p node final z.0 z.1 (reverse z.2) z.3 z.4) (λ i. (sym a.same.view i, sym a.same.sessions i, sym a.same.records i, (λ g. sym (a.same.lens g) i), (λ g. sym (a.same.states g) i))) (k.inv (h.0, ap (λ z. z ++ h.0) (sym a.same.records) ∙ h.1));
      }

  standing_records : (s : Core) (r : Happened) → Fine r → Standing s → Standing (recorded s r)
  unfolding recorded len_of state_of list_of row_of
  standing_records s r fine k =
      record {
        order = k.order;
        me = k.me;
        inv = λ h. subst (λ z. Inv n before p node final s.views.view s.sessions z (len_of s) (state_of s)) (sym (reverse-append s.records (r ∷ []))) (inv_record n before p node final s.views.view (len_of s) (state_of s) s.sessions (reverse s.records) r (fine_inert r fine) (k.inv (ahead_less s.records (r ∷ []) h)));
      }

  standing_tells : (s : Core) (q : ProviderId) (r : ℕ) (y : Why) → Standing s → Standing (recorded (with_sessions s (take_telling s.sessions q r y)) (happened.Told q r y))
  unfolding recorded with_sessions len_of state_of list_of row_of
  standing_tells s q r y k =
      record {
        order = k.order;
        me = k.me;
        inv = λ h. subst (λ z. Inv n before p node final s.views.view (take_telling s.sessions q r y) z (len_of s) (state_of s)) (sym (reverse-append s.records (happened.Told q r y ∷ []))) (inv_told n before p node final s.views.view (len_of s) (state_of s) s.sessions (reverse s.records) q r y (k.inv (ahead_less s.records (happened.Told q r y ∷ []) h)));
      }

  -- ---- a view is entered

  -- records of an entering add nothing that is spoken of
  pushed_asked : (g : List ℕ) (rs now : List Happened) → ((r : Happened) → Has r rs → Entered r) → AskedJoin g p (earlier (pushed rs now) before) → AskedJoin g p (earlier now before)
  pushed_asked g [] now all a = a
  pushed_asked g (r ∷ rs) now all a =
      asked_back g p r (earlier now before) (entered_unasked r (all r (inl refl))) (pushed_asked g rs (r ∷ now) (λ q h. all q (inr h)) a)

  pushed_over : (g : List ℕ) (rs now : List Happened) → Over n g p (earlier now before) → Over n g p (earlier (pushed rs now) before)
  pushed_over g [] now k = k
  pushed_over g (r ∷ rs) now k = pushed_over g rs (r ∷ now) (over_more n g p r (earlier now before) k)

  pushed_dissolving : (rs now : List Happened) → Dissolving p (earlier now before) → Dissolving p (earlier (pushed rs now) before)
  pushed_dissolving [] now k = k
  pushed_dissolving (r ∷ rs) now k = pushed_dissolving rs (r ∷ now) (dissolving_more p r (earlier now before) k)

  entered_law : (now : List Happened) (h : History) (r : Happened) → Entered r → Law n before p node final now h r
  entered_law now h (happened.Put m v g i e) a = absurd a
  entered_law now h _ a = tt

  module _ (s : Core) (i : Install) (k : Standing s) where
    abbrev bs : List Base
    bs = bases_of i

    abbrev core : Core
    core = view_entered s i bs

    abbrev entering : Happened
    entering = happened.In s.views.me i.view i.members

    abbrev new : List Happened
    new = entering ∷ map (base_noted s.views.me i.view) bs

    abbrev now : List Happened
    now = pushed new (reverse s.records)

    entered_all : (r : Happened) → Has r new → Entered r
    entered_all r (inl e) = subst Entered (sym e) tt
    entered_all r (inr h) = let q = has_map (base_noted s.views.me i.view) r bs h in subst Entered (sym q.2) tt

    turned : reverse core.records ≡ now
    unfolding view_entered recorded_all views_entered base_record
    turned = pushed_reverse new s.records

    stays_at : (g : List ℕ) → stays n g (earlier now before) ≡ new_stay i.view (base_is (base_named bs g)) ∷ stays n g (earlier (reverse s.records) before)
    stays_at g =
        subst (λ m. stays m g (earlier now before) ≡ new_stay i.view (base_is (base_named bs g)) ∷ stays m g (earlier (reverse s.records) before)) k.me (inside_stays before s i g)

    groups : core.groups ≡ map base_row bs
    groups = entered_groups s i bs

    same_found : (q : ProviderId) → provider_of core.sessions q ≡ provider_of s.sessions q
    unfolding view_entered recorded_all level_set provider_of
    same_found q = refl

    same_requests : core.sessions.requests ≡ s.sessions.requests
    unfolding view_entered recorded_all level_set
    same_requests = refl

    stood_on : (g : List ℕ) (b : Bool) → Stood s.sessions p g b → Stood core.sessions p g b
    stood_on g b x = record { provider = x.provider; found = same_found p ∙ x.found; group = x.group; part_is = x.part_is }

    inv_entered : Inv_at s → Inv n before p node final i.view core.sessions now (len_of core) (state_of core)
    inv_entered v =
        record {
          stay = λ g. record {
            now = new_stay i.view (base_is (base_named bs g));
            older = stays n g (earlier (reverse s.records) before);
            is = stays_at g;
            view = refl;
            len_is = sym (base_len core bs groups g);
            state = sym (state_named core bs groups g);
          };
          waits = λ g a. ⊎_elim (λ (x : Stood s.sessions p g false). inl (stood_on g false x)) (λ (x : Over n g p (earlier (reverse s.records) before)). inr (pushed_over g new (reverse s.records) x)) (v.waits g (pushed_asked g new (reverse s.records) entered_all a));
          takes = λ g a. let b = taker_passed p i.view (base_is (base_named bs g)) (stays n g (earlier (reverse s.records) before)) (subst (Taker p) (stays_at g) a) in
              ⊎_elim (λ (x : Stood s.sessions p g true). inl (stood_on g true x)) (λ (x : Dissolving p (earlier (reverse s.records) before)). inr (pushed_dissolving new (reverse s.records) x)) (v.takes g b.0);
          joins = λ q h j. let a = v.joins q (subst (Has q) same_requests h) j in (a.0, λ y f. a.1 y (sym (same_found q.provider) ∙ f));
          law = within_pushed (Law n before p node final) Entered entered_law new (reverse s.records) before entered_all v.law;
        }

    standing_enters : Standing core
    unfolding view_entered recorded_all views_entered base_record
    standing_enters =
        record {
          order = bases_ordered i;
          me = k.me;
          inv = λ h. subst (λ z. Inv n before p node final i.view core.sessions z (len_of core) (state_of core)) (sym turned) (inv_entered (k.inv (ahead_less s.records new h)));
        }

  -- ---- an entry is put and handed on

  module _ (seen : Seen (earlier (reverse final) before)) where
    seen_at : (xs : List Happened) (r : Happened) (ys : List Happened) → xs ++ r ∷ ys ≡ final → SeenAt (earlier (reverse xs) before) r
    seen_at xs r ys e = (seen_after (reverse ys) (r ∷ earlier (reverse xs) before) (subst Seen (ap (λ z. reverse z ++ records_of before) (sym e) ∙ ap (λ z. z ++ records_of before) (reverse-append xs (r ∷ ys) ∙ ap (λ z. z ++ reverse xs) (reverse-append (r ∷ []) ys)) ∙ ap (λ z. z ++ records_of before) (append_assoc (reverse ys) (r ∷ []) (reverse xs)) ∙ append_assoc (reverse ys) (r ∷ reverse xs) (records_of before)) seen)).0

    standing_hands : (s c : Core) (h : List ℕ) (e : Entry) (bs : List (Option Filled)) → Same (put s h e) c → InNameOrder c.groups → Standing s → Standing (handing c h (len_of s h) (state_of s h) (state_of (put s h e) h) e bs)
    unfolding put recorded recorded_all with_sessions heard with_row casts_out len_of state_of list_of row_of
    standing_hands s c h e bs same order k =
        record { order = order; me = same.me ∙ k.me; inv = subst Q (λ i. (sym same.view i, sym same.sessions i, sym same.records i, (λ g. sym (same.lens g) i), (λ g. sym (same.states g) i))) first }
      where
        st : GroupState
        st = state_of (put s h e) h

        heards : ViewId → SessionState → List Happened
        heards v t = flat_map (heard_at v h (len_of s h) e st) (casts_out t h (state_of s h) st e bs)

        Q : (ViewId × SessionState × List Happened × (List ℕ → ℕ) × (List ℕ → GroupState)) → Type 0
        Q z =
            Ahead (z.2 ++ flat_map (heard_at z.0 h (len_of s h) e st) (casts_out z.1 h (state_of s h) st e bs)) → Inv n before p node final z.0 (handed_on z.1 h (state_of s h) st e bs) (reverse (z.2 ++ flat_map (heard_at z.0 h (len_of s h) e st) (casts_out z.1 h (state_of s h) st e bs))) z.3 z.4

        rs : List Happened
        rs = flat_map (heard_at s.views.view h (len_of s h) e st) (casts_out s.sessions h (state_of s h) st e bs)

        at : (m : ℕ) → n ≡ m → Ahead ((s.records ++ happened.Put m s.views.view h (len_of s h) e ∷ []) ++ rs) → Inv n before p node final s.views.view (handed_on s.sessions h (state_of s h) st e bs) (reverse ((s.records ++ happened.Put m s.views.view h (len_of s h) e ∷ []) ++ rs)) (len_of (put s h e)) (state_of (put s h e))
        at m q a = subst (λ z. Inv n before p node final s.views.view (handed_on s.sessions h (state_of s h) st e bs) (reverse ((s.records ++ happened.Put z s.views.view h (len_of s h) e ∷ []) ++ rs)) (len_of (put s h e)) (state_of (put s h e))) q (own (subst (λ z. Ahead ((s.records ++ happened.Put z s.views.view h (len_of s h) e ∷ []) ++ rs)) (sym q) a))
          where
            r : Happened
            r = happened.Put n s.views.view h (len_of s h) e

            own : Ahead ((s.records ++ r ∷ []) ++ rs) → Inv n before p node final s.views.view (handed_on s.sessions h (state_of s h) st e bs) (reverse ((s.records ++ r ∷ []) ++ rs)) (len_of (put s h e)) (state_of (put s h e))
            own b =
                let made = put_made s h e k.order in
                let less = ahead_less (s.records ++ r ∷ []) rs b in
                let place : s.records ++ r ∷ less.0 ≡ final = sym (append_assoc s.records (r ∷ []) less.0) ∙ less.1 in
                inv_handed n before p node final s.views.view s.sessions (reverse s.records) (len_of s) (len_of (put s h e)) (state_of s) (state_of (put s h e)) (k.inv (ahead_less s.records (r ∷ []) less)) h e bs made.0 made.1 made.2 (seen_at s.records r less.0 place) s.records refl (λ x j. subst (Has x) b.1 (append_has_left x ((s.records ++ r ∷ []) ++ rs) b.0 (append_has_right x (s.records ++ r ∷ []) rs j)))

        first : Q (s.views.view, s.sessions, (put s h e).records, len_of (put s h e), state_of (put s h e))
        first = at s.views.me (sym k.me)

    pub standing_keeps : Keeps Standing
    standing_keeps = record { order = λ s k. k.order; alike = standing_alike; records = standing_records; tells = standing_tells; hands = standing_hands; enters = standing_enters }
