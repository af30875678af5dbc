-- Whoever joins later was neither put nor heard.
use Rattle.std.proofs.Common.{◌≡◌, ◌≤◌, ℕ, suc, List, [], ◌∷◌, Option, Some, None, Bool, true, false, refl, sym, ap, ◌∙◌, subst, inl, inr, arith, ◌⊎◌}
use Rattle.std.specs.Prelude.{not, ◌==◌, ◌&&◌, is_some, is_none, slice_get, if◌then◌else◌}
use Rattle.std.specs.Option.{option_map}
use Rattle.std.specs.Str.{bytes_eq}
use Rattle.std.proofs.lemmas.Bool.{eqb-true}
use Rattle.rsct_packet.specs.declared.ids.ViewId.{ViewId}
use Rattle.rsct_packet.specs.declared.ids.ProviderId.{ProviderId}
use Rattle.rsct_packet.specs.Providers.{among}
use Rattle.rsct_packet.specs.Search.{Has, place_where}
use Rattle.rsct_packet.proofs.HasLaws.{has_append}
use Rattle.proposal_core.specs.declared.entry.Entry.{Entry}
use Rattle.proposal_core.specs.declared.group_state.GroupState.{GroupState}
use Rattle.proposal_core.specs.Fold.{empty_state, present}
use Rattle.node_state.specs.declared.config.Config.{Config}
use Rattle.node_state.specs.declared.happened.Happened.{Happened}
use Rattle.node_state.specs.declared.happened.Happened.TheVariants as happened
use Rattle.node_state.specs.declared.state.Core.{Core}
use Rattle.node_state.specs.State.{len_of}
use Rattle.run_safety.specs.Past.{records_of}
use Rattle.run_safety.specs.Stays.{Stay, stays, with_base, with_entry, is_join_of, first_in, part}
use Rattle.run_safety.specs.Group.{Put, kept}
use Rattle.run_safety.proofs.Order.{lt_not_same}
use Rattle.run_safety.proofs.SightLaws.{put_seen}
use Rattle.run_safety.proofs.Whole.{Whole}
use Rattle.run_safety.proofs.Lives.{whole}
use Rattle.node_state.proofs.NameOrder.{text_same}
use Rattle.step_refinement.specs.Ghost.{asking}
use Rattle.step_refinement.specs.Tied.{Scene, NodeIs, NodeIsIf, Rests, opening_of}
use Rattle.step_refinement.specs.Runs.{Reached}
use Rattle.step_refinement.proofs.RunLaw.{reached_rests}
use Rattle.row_laws.specs.hearing.Hearing.{last_heard}
use Rattle.row_laws.proofs.hearing.Attending.{Stance, Before, Left, Gone, Attends}
use Rattle.row_laws.proofs.hearing.Listening.{Rested, reached_attends}
use Rattle.provider_laws.proofs.attending.Staying.{none_count}
use Rattle.provider_laws.proofs.attending.Ordering.{Fresh}
use Rattle.row_laws.proofs.failed_rows.Asked.{join_carried}

-- ---- what stands in a stay was put, or is a base that the node recorded

pub record Fine (B : GroupState → Type 0) (E : Entry → Type 0) (x : Stay) : Type 0 where
  pub base : B x.base
  pub entries : (e : Entry) → Has e x.entries → E e

module _ (n : ℕ) (g : List ℕ) (B : GroupState → Type 0) (E : Entry → Type 0) (bare : B empty_state) where
  abbrev AllFine : List Stay → Type 0
  AllFine xs = (x : Stay) → Has x xs → Fine B E x

  abbrev AllPut : List Happened → Type 0
  AllPut rs = (v : ViewId) (i : ℕ) (e : Entry) → Has (happened.Put n v g i e) rs → E e

  abbrev AllBased : List Happened → Type 0
  AllBased rs = (v u : ViewId) (len : ℕ) (s : GroupState) → Has (happened.Base n v g u len s) rs → B s

  fine_if : (xs : List Stay) (b : Bool) → AllFine xs → AllFine (if b then [] else xs)
  fine_if xs true k x h = absurd h
  fine_if xs false k x h = k x h

  fine_in : (v : ViewId) (xs : List Stay) (b : Bool) → AllFine xs → AllFine (if b then record { view = v; base = empty_state; entries = [] } ∷ xs else xs)
  fine_in v xs true k x (inl q) = subst (Fine B E) (sym q) (record { base = bare; entries = λ e h. absurd h })
  fine_in v xs true k x (inr h) = k x h
  fine_in v xs false k x h = k x h

  fine_base : (s : GroupState) (xs : List Stay) → B s → AllFine xs → AllFine (with_base s xs)
  fine_base s [] a k x h = absurd h
  fine_base s (y ∷ ys) a k x (inl q) = subst (Fine B E) (sym q) (record { base = a; entries = (k y (inl refl)).entries })
  fine_base s (y ∷ ys) a k x (inr h) = k x (inr h)

  fine_put : (d : Entry) (xs : List Stay) → E d → AllFine xs → AllFine (with_entry d xs)
  fine_put d [] a k x h = absurd h
  fine_put d (y ∷ ys) a k x (inr h) = k x (inr h)
  fine_put d (y ∷ ys) a k x (inl q) = subst (Fine B E) (sym q) (record { base = (k y (inl refl)).base; entries = λ e h. by e (has_append e y.entries (d ∷ []) h) })
    where
      by : (e : Entry) → Has e y.entries ⊎ Has e (d ∷ []) → E e
      by e (inl h) = (k y (inl refl)).entries e h
      by e (inr (inl z)) = subst E (sym z) a
      by e (inr (inr z)) = absurd z

  pub all_fine : (rs : List Happened) → AllPut rs → AllBased rs → AllFine (stays n g rs)
  all_fine [] puts bases = λ x h. absurd h
  all_fine (r ∷ rs) puts bases = by r puts bases (all_fine rs (λ v i e h. puts v i e (inr h)) (λ v u len s h. bases v u len s (inr h)))
    where
      by : (r : Happened) → AllPut (r ∷ rs) → AllBased (r ∷ rs) → AllFine (stays n g rs) → AllFine (stays n g (r ∷ rs))
      by (happened.Up m j) puts bases k = fine_if (stays n g rs) (m == n) k
      by (happened.Down m) puts bases k = fine_if (stays n g rs) (m == n) k
      by (happened.In m v ms) puts bases k = fine_in v (stays n g rs) (m == n) k
      by (happened.Base m v h u len s) puts bases k = at (m == n) (bytes_eq h g) refl refl
        where
          at : (a b : Bool) → (m == n) ≡ a → bytes_eq h g ≡ b → AllFine (if a && b then with_base s (stays n g rs) else stays n g rs)
          at true true p q = fine_base s (stays n g rs) (bases v u len s (inl (λ j. happened.Base (sym (eqb-true m n p) j) v (sym (text_same h g q) j) u len s))) k
          at true false p q = k
          at false b p q = k
      by (happened.Put m v h i d) puts bases k = at (m == n) (bytes_eq h g) refl refl
        where
          at : (a b : Bool) → (m == n) ≡ a → bytes_eq h g ≡ b → AllFine (if a && b then with_entry d (stays n g rs) else stays n g rs)
          at true true p q = fine_put d (stays n g rs) (puts v i d (inl (λ j. happened.Put (sym (eqb-true m n p) j) v (sym (text_same h g q) j) i d))) k
          at true false p q = k
          at false b p q = k
      by _ puts bases k = k

-- ---- who is named nowhere has no first place

place_none : (p : ProviderId) (es : List Entry) → ((e : Entry) → Has e es → is_join_of p e ≡ false) → place_where (is_join_of p) es ≡ None
place_none p [] all = refl
place_none p (e ∷ es) all = ap (λ b. if b then Some 0 else option_map suc (place_where (is_join_of p) es)) (all e (inl refl)) ∙ ap (option_map suc) (place_none p es (λ d h. all d (inr h)))

pub none_first : (p : ProviderId) (xs : List Stay) → ((x : Stay) → Has x xs → (e : Entry) → Has e x.entries → is_join_of p e ≡ false) → (part p xs).first ≡ None
none_first p [] all = refl
none_first p (x ∷ older) all =
    ap (first_in p x.entries) (ap (λ (o : Option ℕ). is_some o && (is_none (part p older).last && (among (present x.base) p && not (among x.base.failed p)))) (none_first p older (λ y h. all y (inr h)))) ∙ place_none p x.entries (all x (inl refl))

-- ---- who is named was asked

module _ (c : Config) (w : Scene) (reached : Reached c w) (n : ℕ) (s : Core) (up : w.cores n ≡ Some s) where
  rested : Rested (w.incs n) w.before n s
  rested = (reached_attends c w reached).up n s up

  -- a join of the node that was put has a number that was given
  put_given : (p : ProviderId) → p.node ≡ n → p.inc ≡ w.incs n → (v : ViewId) (g : List ℕ) (i : ℕ) (e : Entry) → Has (happened.Put n v g i e) (records_of w.before) → is_join_of p e ≡ true → p.join ≤ s.sessions.last_request
  put_given p node inc_is v g i e h join =
      let t : Rests g w = reached_rests c w reached g in
      let o : Whole (opening_of w.config) t.ghost.nodes t.ghost.ps t.ghost.all t.ghost.leads t.ghost.bases = whole t.life in
      let k : NodeIs t.ghost g n s = (subst (NodeIsIf w.config t.ghost g n (w.incs n)) up (t.nodes n)).0 in
      let seen : Has (Put n v i e) (kept t.ghost.all) = subst (λ z. Has (Put n v i e) (kept z)) (sym t.lines) (put_seen n v g i e w.before h) in
      let get : slice_get (o.log v) i ≡ Some e = o.good.inv.records (Put n v i e) seen in
      let a = o.once.asked v i p p.join e get (join_carried p e join) in
      let b = o.once.sent v p p.join a.0 a.1 in
      k.owes.given (asking p p.join g) (t.sound.asked p p.join a.0 b.1) node (inc_is ∙ sym rested.inc_of)

  pub fresh_now : Fresh n (w.incs n) w.before s.views.view s.sessions.last_request
  fresh_now p node inc_is later g =
      (none_first p (stays n g (records_of w.before)) (λ x h e j. named x h e j (is_join_of p e) refl), none_count p s.views.view g (records_of w.before) (by (last_heard p s.views.view g (records_of w.before)) refl))
    where
      Stands : Entry → Type 0
      Stands e = (v : ViewId) × (i : ℕ) × Has (happened.Put n v g i e) (records_of w.before)

      named : (x : Stay) → Has x (stays n g (records_of w.before)) → (e : Entry) → Has e x.entries → (b : Bool) → is_join_of p e ≡ b → is_join_of p e ≡ false
      named x h e j false q = q
      named x h e j true q =
          let z = (all_fine n g (λ s. Unit {0}) Stands tt (records_of w.before) (λ v i d m. (v, i, m)) (λ v u len s m. tt) x h).entries e j in
          absurd (let le = put_given p node inc_is z.0 g z.1 e z.2 q in omega (arith, le, later))

      out : (j : ℕ) → Stance (w.incs n) s.views.view s.sessions (len_of s) p s.views.view g j → ⊥
      out j (Before a) = omega (arith, a, inc_is)
      out j (Left a) = lt_not_same s.views.view s.views.view a refl
      out j (Gone a b) = omega (arith, b, later)
      out j (Attends a b x d e f) = let z = (rested.at.own p x d).2 in omega (arith, z, later)

      by : (o : Option ℕ) → last_heard p s.views.view g (records_of w.before) ≡ o → last_heard p s.views.view g (records_of w.before) ≡ None
      by None z = z
      by (Some j) z = absurd (out j (rested.at.heard p s.views.view g j node z))
