-- What nodes gather for a view, and install.
use Rattle.std.proofs.Common.{◌≡◌, ◌⊎◌, ℕ, List, [], ◌∷◌, Option, Some, None, Bool, true, false, refl, sym, subst, inl, inr, ⊎_elim}
use Rattle.std.specs.Prelude.{◌==◌, ◌&&◌, not, map, filter, length, nat_le, if◌then◌else◌}
use Rattle.rsct_packet.specs.declared.ids.ViewId.{ViewId}
use Rattle.rsct_packet.specs.declared.mask.Mask.{Mask}
use Rattle.rsct_packet.specs.Ids.{same_view, is_member}
use Rattle.rsct_packet.specs.Mask.{has_node, with_node, nodes_of}
use Rattle.rsct_packet.specs.Search.{Has, place_where, edit_where, insert_before}
use Rattle.rsct_packet.proofs.HasLaws.{has_append, has_map}
use Rattle.view_state.specs.declared.answer.Answer.{Answer}
use Rattle.view_state.specs.declared.exchange.Exchange.{Exchange}
use Rattle.view_state.specs.declared.sides.Kept.{Kept}
use Rattle.view_state.specs.declared.sides.Side.{Side}
use Rattle.view_state.specs.declared.install.Part.{Part}
use Rattle.view_state.specs.declared.install.Source.{Source}
use Rattle.view_state.specs.declared.install.Install.{Install}
use Rattle.view_state.specs.Parts.{part_len}
use Rattle.view_state.specs.Answers.{max_parts, opened, may_answer, has_answered, kept_of, is_beaten, better_of, is_kept_of, is_kept_above, with_kept_at, with_kept, with_parts, side_with, side_from, is_side_of, is_side_above, with_side_at, with_side, with_answer, all_answered, source_of, install_of, is_spelled}
use Rattle.view_state.specs.declared.packet.ViewPacket.{ViewPacket}
use Rattle.view_state.specs.declared.packet.ViewPacket.TheVariants as packet
use Rattle.view_state.specs.declared.packet.ViewSend.{ViewSend}
use Rattle.view_state.specs.declared.views.Views.{Views}
use Rattle.view_state.specs.declared.views.RingAsk.{RingAsk}
use Rattle.view_state.specs.declared.views.ViewWork.{ViewWork}
use Rattle.view_state.specs.Views.{is_frozen, is_coordinator, others_of, view_sent, view_sent_all, gathering_set, promised, begin_install, gathered, gather_on, own_answer, ask_others, next_view, may_ask, ask_if, ask_rule, answered, prepare, prepare_rule, answer_to, answer_rule, refused_by, refuse_to, refuse_rule, installed, install_rule, taken_rule, aged, prepare_again, tick_asks, note_stuck, asks_or_ages, gathering_ticks, install_again_of, install_again, views_at_work}
use Rattle.node_state.specs.declared.happened.Happened.{Happened}
use Rattle.row_laws.specs.honest_votes.Casts.{EntriesCast, PartsCast, InstallCast, ExchangeCast, ViewPacketCast, GatheringCast, InstallIfCast, ViewsCast}

has_insert : {A : Type 0} (test : A → Bool) (x y : A) (xs : List A) → Has y (insert_before test x xs) → (y ≡ x) ⊎ Has y xs
has_insert test x y [] (inl e) = inl e
has_insert test x y [] (inr z) = absurd z
has_insert {A = A} test x y (z ∷ xs) i = by (test z) i (has_insert test x y xs)
  where
    by : (b : Bool) → Has y (if b then x ∷ z ∷ xs else z ∷ insert_before test x xs) → (Has y (insert_before test x xs) → (y ≡ x) ⊎ Has y xs) → (y ≡ x) ⊎ Has y (z ∷ xs)
    by true (inl e) k = inl e
    by true (inr j) k = inr j
    by false (inl e) k = inr (inl e)
    by false (inr j) k = ⊎_elim (λ (a : y ≡ x). inl a) (λ (a : Has y xs). inr (inr a)) (k j)

has_edited : {A : Type 0} (test : A → Bool) (f : A → A) (y : A) (xs : List A) → Has y (edit_where test f xs) → Has y xs ⊎ ((x : A) × Has x xs × (y ≡ f x))
has_edited test f y [] i = absurd i
has_edited {A = A} test f y (x ∷ xs) i = by (test x) i (has_edited test f y xs)
  where
    by : (b : Bool) → Has y (if b then f x ∷ xs else x ∷ edit_where test f xs) → (Has y (edit_where test f xs) → Has y xs ⊎ ((x : A) × Has x xs × (y ≡ f x))) → Has y (x ∷ xs) ⊎ ((z : A) × Has z (x ∷ xs) × (y ≡ f z))
    by true (inl e) k = inr (x, inl refl, e)
    by true (inr j) k = inl (inr j)
    by false (inl e) k = inl (inl e)
    by false (inr j) k = ⊎_elim (λ (a : Has y xs). inl (inr a)) (λ (a : (x : A) × Has x xs × (y ≡ f x)). inr (a.0, inr a.1, a.2)) (k j)

abbrev send_of : ViewPacket → ℕ → ViewSend
send_of y n = record { to = n; packet = y }

module _ (rs : List Happened) where
  abbrev KeptsCast : List Kept → Type 0
  KeptsCast ks = (k : Kept) → Has k ks → EntriesCast rs k.part.entries

  better_cast : (new old : Kept) → EntriesCast rs new.part.entries → EntriesCast rs old.part.entries → EntriesCast rs (better_of new old).part.entries
  better_cast new old a b = by (is_beaten old new.node (part_len new.part))
    where
      by : (t : Bool) → EntriesCast rs (elim t as (λ _. Kept) [ true ↦ new | false ↦ old ]).part.entries
      by true = a
      by false = b

  with_kept_cast : (ks : List Kept) (new : Kept) → EntriesCast rs new.part.entries → KeptsCast ks → KeptsCast (with_kept ks new)
  unfolding with_kept
  with_kept_cast ks new a all = by (place_where (is_kept_of new.part.name) ks)
    where
      by : (o : Option ℕ) → KeptsCast (with_kept_at ks new o)
      by None k i = ⊎_elim (λ (e : k ≡ new). subst (λ (z : Kept). EntriesCast rs z.part.entries) (sym e) a) (λ (j : Has k ks). all k j) (has_insert (is_kept_above new.part.name) new k ks i)
      by (Some n) k i =
          ⊎_elim (λ (j : Has k ks). all k j) (λ (z : (x : Kept) × Has x ks × (k ≡ better_of new x)). subst (λ (y : Kept). EntriesCast rs y.part.entries) (sym z.2) (better_cast new z.0 a (all z.0 z.1))) (has_edited (is_kept_of new.part.name) (better_of new) k ks i)

  with_parts_cast : (node : ℕ) (ps : List Part) (ks : List Kept) → PartsCast rs ps → KeptsCast ks → KeptsCast (with_parts node ks ps)
  unfolding with_parts
  with_parts_cast node [] ks parts all = all
  with_parts_cast node (p ∷ ps) ks parts all =
      with_parts_cast node ps (with_kept ks (kept_of node p)) (λ q i. parts q (inr i)) (with_kept_cast ks (kept_of node p) (parts p (inl refl)) all)

  -- one more answer
  answer_cast : (x : Exchange) (a : Answer) → PartsCast rs a.parts → ExchangeCast rs x → ExchangeCast rs (with_answer x a)
  unfolding with_answer with_side side_with side_from
  answer_cast x a parts all = by (place_where (is_side_of a.view) x.sides)
    where
      by : (o : Option ℕ) → (s : Side) → Has s (with_side_at x.sides a o) → KeptsCast s.parts
      by None s i =
          ⊎_elim (λ (e : s ≡ side_from a). subst (λ (z : Side). KeptsCast z.parts) (sym e) (λ k j. let b = has_map (kept_of a.node) k a.parts j in subst (λ (z : Kept). EntriesCast rs z.part.entries) (sym b.2) (parts b.0 b.1))) (λ (j : Has s x.sides). all s j) (has_insert (is_side_above a.view) (side_from a) s x.sides i)
      by (Some n) s i =
          ⊎_elim (λ (j : Has s x.sides). all s j) (λ (z : (y : Side) × Has y x.sides × (s ≡ side_with a y)). subst (λ (y : Side). KeptsCast y.parts) (sym z.2) (with_parts_cast a.node a.parts (z.0).parts parts (all z.0 z.1))) (has_edited (is_side_of a.view) (side_with a) s x.sides i)

  install_cast : (x : Exchange) → ExchangeCast rs x → InstallCast rs (install_of x)
  unfolding install_of
  install_cast x all s i p j =
      let a = has_map source_of s x.sides i in
      let b = has_map (λ (k : Kept). k.part) p (a.0).parts (subst (λ (z : Source). Has p z.parts) a.2 j) in
      subst (λ (z : Part). EntriesCast rs z.entries) (sym b.2) (all a.0 a.1 b.0 b.1)

  -- what a rule of views makes
  pub record WorkIs (v : Views) (w : ViewWork) : Type 0 where
    pub views : ViewsCast rs w.views
    pub me : w.views.me ≡ v.me
    pub view : w.views.view ≡ v.view
    pub sends : (x : ViewSend) → Has x w.sends → ViewPacketCast rs x.packet
    pub install : InstallIfCast rs w.install

  module _ (v : Views) where
    pub begun_work : ViewsCast rs v → WorkIs v (views_at_work v)
    begun_work k = record { views = k; me = refl; view = refl; sends = λ x i. absurd i; install = tt }

    sent_work : (w : ViewWork) (to : ℕ) (y : ViewPacket) → ViewPacketCast rs y → WorkIs v w → WorkIs v (view_sent w to y)
    unfolding view_sent
    sent_work w to y ok k = record { views = k.views; me = k.me; view = k.view; sends = λ x i. by x (has_append x w.sends (send_of y to ∷ []) i); install = k.install }
      where
        by : (x : ViewSend) → Has x w.sends ⊎ Has x (send_of y to ∷ []) → ViewPacketCast rs x.packet
        by x (inl i) = k.sends x i
        by x (inr (inl e)) = subst (λ (z : ViewSend). ViewPacketCast rs z.packet) (sym e) ok
        by x (inr (inr z)) = absurd z

    sent_all_work : (w : ViewWork) (ns : List ℕ) (y : ViewPacket) → ViewPacketCast rs y → WorkIs v w → WorkIs v (view_sent_all w ns y)
    unfolding view_sent_all
    sent_all_work w ns y ok k = record { views = k.views; me = k.me; view = k.view; sends = λ x i. by x (has_append x w.sends (map (send_of y) ns) i); install = k.install }
      where
        by : (x : ViewSend) → Has x w.sends ⊎ Has x (map (send_of y) ns) → ViewPacketCast rs x.packet
        by x (inl i) = k.sends x i
        by x (inr i) = let a = has_map (send_of y) x ns i in subst (λ (z : ViewSend). ViewPacketCast rs z.packet) (sym a.2) ok

    gathering_work : (w : ViewWork) (g : Option Exchange) → GatheringCast rs g → WorkIs v w → WorkIs v (gathering_set w g)
    unfolding gathering_set
    gathering_work w g ok k = record { views = (ok, k.views.1); me = k.me; view = k.view; sends = k.sends; install = k.install }

    promised_work : (w : ViewWork) (u : ViewId) → WorkIs v w → WorkIs v (promised w u)
    unfolding promised
    promised_work w u k = record { views = (tt, k.views.1); me = k.me; view = k.view; sends = k.sends; install = k.install }

    installs_work : (w : ViewWork) (i : Install) (b : Bool) → InstallCast rs i → WorkIs v w → WorkIs v (begin_install w i b)
    unfolding begin_install
    installs_work w i false ok k = k
    installs_work w i true ok k =
        let a = sent_all_work w (others_of w.views.me i.members) (packet.Install i) ok k in
        record { views = a.views; me = a.me; view = a.view; sends = a.sends; install = ok }

    gathers_work : (w : ViewWork) (g : Exchange) → ExchangeCast rs g → WorkIs v w → WorkIs v (gather_on w g)
    unfolding gather_on gathered
    gathers_work w g ok k = by (all_answered g)
      where
        by : (b : Bool) → WorkIs v (gathered w g b)
        by false = gathering_work w (Some g) ok k
        by true = installs_work (gathering_set w None) (install_of g) (is_spelled (install_of g)) (install_cast g ok) (gathering_work w None tt k)

    asks_work : (w : ViewWork) (u : ViewId) (mask : Mask) (parts : List Part) (b : Bool) → PartsCast rs parts → WorkIs v w → WorkIs v (ask_others w u mask parts b)
    unfolding ask_others opened
    asks_work w u mask parts false ok k = promised_work w u k
    asks_work w u mask parts true ok k =
        gathers_work (view_sent_all (promised w u) (filter (λ n. not (n == w.views.me)) (nodes_of mask)) (packet.Prepare u mask)) (with_answer (opened u mask) (own_answer w.views parts)) (answer_cast (opened u mask) (own_answer w.views parts) ok (λ s i. absurd i)) (sent_all_work (promised w u) (filter (λ n. not (n == w.views.me)) (nodes_of mask)) (packet.Prepare u mask) tt (promised_work w u k))

    pub ask_work : (w : ViewWork) (mask : Mask) (parts : List Part) → PartsCast rs parts → WorkIs v w → WorkIs v (ask_rule w mask parts)
    unfolding ask_rule ask_if
    ask_work w mask parts ok k = by (may_ask w.views mask)
      where
        by : (b : Bool) → WorkIs v (ask_if w mask parts b)
        by false = k
        by true = asks_work w (next_view w.views) mask parts (nat_le (length parts) max_parts) ok k

    answered_work : (w : ViewWork) (u : ViewId) (parts : List Part) → PartsCast rs parts → WorkIs v w → WorkIs v (answered w u parts)
    unfolding answered
    answered_work w u parts ok k = by (nat_le (length parts) max_parts)
      where
        by : (b : Bool) → WorkIs v (elim b as (λ _. ViewWork) [ true ↦ view_sent w u.coord (packet.Answer u w.views.view parts) | false ↦ w ])
        by true = sent_work w u.coord (packet.Answer u w.views.view parts) ok k
        by false = k

    prepared_work : (w : ViewWork) (u : ViewId) (parts : List Part) (a b c : Bool) → PartsCast rs parts → WorkIs v w → WorkIs v (prepare w u parts a b c)
    unfolding prepare
    prepared_work w u parts true b c ok k = answered_work (promised w u) u parts ok (promised_work w u k)
    prepared_work w u parts false true c ok k = answered_work w u parts ok k
    prepared_work w u parts false false true ok k = sent_work w u.coord (packet.Refuse u w.views.promise.number) tt k
    prepared_work w u parts false false false ok k = k

    pub prepare_work : (w : ViewWork) (from inc : ℕ) (u : ViewId) (mask : Mask) (parts : List Part) → PartsCast rs parts → WorkIs v w → WorkIs v (prepare_rule w from inc u mask parts)
    unfolding prepare_rule
    prepare_work w from inc u mask parts ok k = prepared_work w u parts _ _ _ ok k

    pub answer_work : (w : ViewWork) (u : ViewId) (a : Answer) → PartsCast rs a.parts → WorkIs v w → WorkIs v (answer_rule w u a)
    unfolding answer_rule answer_to
    answer_work w u a ok k = by w.views.gathering k.views.0
      where
        at : (g : Exchange) → ExchangeCast rs g → (b : Bool) → WorkIs v (elim b as (λ _. ViewWork) [ true ↦ gather_on w (with_answer g a) | false ↦ w ])
        at g all true = gathers_work w (with_answer g a) (answer_cast g a ok all) k
        at g all false = k

        by : (o : Option Exchange) → GatheringCast rs o → WorkIs v (answer_to w u a o)
        by None all = k
        by (Some g) all = at g all (same_view g.view u && may_answer g a.node)

    pub refuse_work : (w : ViewWork) (u : ViewId) (n : ℕ) → WorkIs v w → WorkIs v (refuse_rule w u n)
    unfolding refuse_rule refuse_to refused_by
    refuse_work w u n k = by w.views.gathering
      where
        at : (b : Bool) → WorkIs v (elim b as (λ _. ViewWork) [ true ↦ refused_by w n | false ↦ w ])
        at true = record { views = (tt, k.views.1); me = k.me; view = k.view; sends = k.sends; install = k.install }
        at false = k

        by : (o : Option Exchange) → WorkIs v (refuse_to w u n o)
        by None = k
        by (Some g) = at (same_view g.view u)

    pub install_work : (w : ViewWork) (i : Install) → InstallCast rs i → WorkIs v w → WorkIs v (install_rule w i)
    unfolding install_rule installed
    install_work w i ok k = by (same_view w.views.view i.view) (same_view w.views.promise i.view && is_member i.members w.views.me w.views.inc)
      where
        by : (a b : Bool) → WorkIs v (installed w i a b)
        by true b = sent_work w i.view.coord (packet.Taken i.view) tt k
        by false true = record { views = k.views; me = k.me; view = k.view; sends = k.sends; install = ok }
        by false false = k

    pub taken_work : (w : ViewWork) (from : ℕ) (u : ViewId) → WorkIs v w → WorkIs v (taken_rule w from u)
    unfolding taken_rule
    taken_work w from u k = by (same_view w.views.view u)
      where
        by : (b : Bool) → WorkIs v (elim b as (λ _. ViewWork) [ true ↦ record w { views = record (w.views) { taken = with_node w.views.taken from } } | false ↦ w ])
        by true = record { views = k.views; me = k.me; view = k.view; sends = k.sends; install = k.install }
        by false = k

    -- ---- a tick

    again_work : (w : ViewWork) → WorkIs v w → WorkIs v (prepare_again w w.views.gathering)
    unfolding prepare_again aged
    again_work w k = by w.views.gathering k.views.0
      where
        by : (o : Option Exchange) → GatheringCast rs o → WorkIs v (prepare_again w o)
        by None all = k
        by (Some g) all =
            sent_all_work (gathering_set w (Some (aged g))) (filter (λ n. not (has_answered g n)) (nodes_of g.asked)) (packet.Prepare g.view g.asked) tt (gathering_work w (Some (aged g)) all k)

    pub ticks_work : (w : ViewWork) (a : Option RingAsk) (parts : List Part) → PartsCast rs parts → WorkIs v w → WorkIs v (gathering_ticks w a parts)
    unfolding gathering_ticks asks_or_ages note_stuck
    ticks_work w None parts ok k = again_work w k
    ticks_work w (Some a) parts ok k = by (tick_asks w.views a)
      where
        noted_work : WorkIs v (note_stuck w)
        noted_work = record { views = k.views; me = k.me; view = k.view; sends = k.sends; install = k.install }

        by : (b : Bool) → WorkIs v (asks_or_ages (note_stuck w) a parts b)
        by true = ask_work (note_stuck w) a.mask parts ok noted_work
        by false = again_work (note_stuck w) noted_work

    pub install_again_work : (w : ViewWork) → WorkIs v w → WorkIs v (install_again w)
    unfolding install_again install_again_of
    install_again_work w k = by (is_coordinator w.views && not (is_frozen w.views))
      where
        of : (o : Option Install) → InstallIfCast rs o → WorkIs v (install_again_of w o)
        of None all = k
        of (Some i) all = sent_all_work w (filter (λ n. not (has_node w.views.taken n)) (others_of w.views.me w.views.members)) (packet.Install i) all k

        by : (b : Bool) → WorkIs v (elim b as (λ _. ViewWork) [ true ↦ install_again_of w w.views.install | false ↦ w ])
        by true = of w.views.install k.views.1
        by false = k
