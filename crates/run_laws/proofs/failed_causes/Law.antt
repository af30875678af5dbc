-- Who was over, and was held all the same, did not pass into the view.
use Rattle.std.proofs.Common.{◌≡◌, ◌⊎◌, ℕ, List, [], ◌∷◌, ◌++◌, Option, Some, None, Bool, true, false, refl, sym, ap, ◌∙◌, subst, inl, inr, append-nil, append_assoc}
use Rattle.std.specs.Prelude.{not, ◌==◌, ◌&&◌, ◌||◌, is_some, is_none, if◌then◌else◌, IsTrue}
use Rattle.std.specs.List.{list_any}
use Rattle.std.specs.Str.{bytes_eq}
use Rattle.std.proofs.lemmas.Bool.{eqb-true, eq-eqb, or_parts}
use Rattle.rsct_packet.specs.declared.ids.ViewId.{ViewId}
use Rattle.rsct_packet.specs.declared.ids.Member.{Member}
use Rattle.rsct_packet.specs.declared.ids.ProviderId.{ProviderId}
use Rattle.rsct_packet.specs.Providers.{among}
use Rattle.rsct_packet.specs.Search.{Has}
use Rattle.rsct_packet.proofs.HasLaws.{append_has_right}
use Rattle.client_callbacks.specs.declared.told.Why.{Why}
use Rattle.session_state.specs.HandOn.{is_dissolved}
use Rattle.proposal_core.specs.declared.entry.Entry.{Entry}
use Rattle.proposal_core.specs.declared.proposal.Proposal.{Proposal}
use Rattle.proposal_core.specs.declared.group_state.GroupState.{GroupState}
use Rattle.proposal_core.specs.Fold.{present}
use Rattle.node_state.specs.declared.happened.Happened.{Happened}
use Rattle.node_state.specs.declared.happened.Happened.TheVariants as happened
use Rattle.run_safety.specs.Past.{History, EachRecord, records_of, earlier}
use Rattle.run_safety.specs.SafeLists.{Each}
use Rattle.run_safety.specs.SafeHeard.{heard_count, is_after, InOrder}
use Rattle.run_safety.specs.Stays.{Stay, stays, with_entry, is_join_of, Part, part, passes}
use Rattle.run_safety.specs.Sight.{inc_in}
use Rattle.run_safety.specs.ViewOrder.{Le}
use Rattle.run_safety.proofs.Order.{le_antisym}
use Rattle.run_safety.proofs.Tests.{has_any}
use Rattle.node_state.proofs.NameOrder.{text_same, text_self}
use Rattle.row_laws.proofs.hearing.Handing.{among_is}
use Rattle.provider_laws.proofs.attending.OrderLaw.{heard_in_order}
use Rattle.row_laws.specs.failed_rows.Failures.{state_in_stays, state_held, FromElsewhere, IsCut, IsRefused, WasTold, TakenOff, StoodThere}
use Rattle.row_laws.proofs.failed_rows.Asked.{join_carried}
use Rattle.run_laws.specs.seen_runs.Seen.{Seen, SeenAt, OnceSeen, BeginsOnce, WasTold as WasRefused}
use Rattle.run_laws.proofs.seen_runs.Scenes.{all_show}
use Rattle.run_laws.proofs.seen_runs.Law.{traces_seen, seen_after}
use Rattle.run_laws.specs.failed_causes.Passed.{puts_join, BaseFirst, DidNotPass, WhoIsOverDidNotPass, ElsewhereFails}
use Rattle.run_laws.proofs.failed_causes.Ended.{Out, Firsts, out_on, there_out, first_out, off_out}
use Rattle.run_laws.proofs.failed_causes.Bases.{First, bases_come_first, bases_follow}
use Rattle.run_laws.proofs.failed_causes.Cut.{Cut, CutOut, Entries, follows_before, cut_on, there_cut}
use Rattle.run_laws.proofs.failed_causes.Elsewhere.{Aways, aways_of, bases_away}
use Rattle.run_laws.proofs.failed_causes.Held.{Held, held_asked}
use Rattle.run_laws.proofs.failed_causes.Views.{Rises, rises_of, now_entered, put_entered, AtStay, AtFront, at_front, RisesAt}
use Rattle.run_laws.proofs.failed_causes.Sent.{SentIn, JoinsSent, joins_sent}
use Rattle.run_laws.proofs.failed_causes.Renamed.{joined_in_one}
use Rattle.run_laws.proofs.failed_causes.Records.{every_of, every_after, Every}
use Rattle.run_laws.specs.failed_causes.Entering.{FollowsEntering}
use Rattle.std.proofs.lemmas.List.Folds.{list_any-append}

-- ---- one record after another

pub firsts_of : (h : History) → EachRecord (λ now before r. BaseFirst (earlier now before) r) h → Firsts (records_of h)
firsts_of = every_of BaseFirst (λ now before r. BaseFirst (earlier now before) r) (λ now before r k. k)

pub entries_of : (h : History) → EachRecord First h → Entries (records_of h)
entries_of = every_of FollowsEntering First (λ now before r k. follows_before r now (records_of before) k.1)

-- what is heard is heard in order, at each record
abbrev pub Ordered : List Happened → Type 0
Ordered = Every InOrder

pub ordered_of : (h : History) → Each InOrder h → Ordered (records_of h)
ordered_of = every_of InOrder (λ now before r. InOrder (earlier now before) r) (λ now before r k. k)

-- ---- a join is put once at its node, after it was asked

-- its node puts its join
record PutsIt (p : ProviderId) (g : List ℕ) (r : Happened) : Type 0 where
  view : ViewId
  place : ℕ
  entry : Entry
  is : r ≡ happened.Put p.node view g place entry
  joins : is_join_of p entry ≡ true

puts_it : (p : ProviderId) (g : List ℕ) (r : Happened) → puts_join p g r ≡ true → PutsIt p g r
puts_it p g (happened.Put m v h i e) q = by (m == p.node) (bytes_eq h g) (is_join_of p e) refl refl refl q
  where
    by : (a b c : Bool) → (m == p.node) ≡ a → bytes_eq h g ≡ b → is_join_of p e ≡ c → (a && (b && c)) ≡ true → PutsIt p g (happened.Put m v h i e)
    by true true true x y z q =
        let node : m ≡ p.node = eqb-true m p.node x in
        let name : h ≡ g = text_same h g y in
        record { view = v; place = i; entry = e; is = (λ k. happened.Put (node k) v (name k) i e); joins = z }
    by true true false x y z q = absurd (cc)
    by true false c x y z q = absurd (cc)
    by false b c x y z q = absurd (cc)
puts_it p g _ q = absurd (cc)

-- the law of its record
begins_once : (p : ProviderId) (g : List ℕ) (r : Happened) (rs : List Happened) → (x : PutsIt p g r) → SeenAt rs r → BeginsOnce rs p.node g x.entry p p.join
begins_once p g r rs x s =
    let o : OnceSeen rs (happened.Put p.node x.view g x.place x.entry) = subst (OnceSeen rs) x.is s.once in
    o p p.join refl (join_carried p x.entry x.joins)

or_right : (b c : Bool) → c ≡ true → (b || c) ≡ true
or_right true c q = refl
or_right false c q = q

-- it was asked for in that group
asked_in : (p : ProviderId) (g : List ℕ) (rs : List Happened) → Seen rs → list_any (puts_join p g) rs ≡ true → (x : Proposal) × Has (happened.Asked p p.join g x) rs
asked_in p g [] s q = absurd (cc)
asked_in p g (r ∷ rs) s q = by (puts_join p g r) refl q (asked_in p g rs s.1)
  where
    by : (b : Bool) → puts_join p g r ≡ b → (b || list_any (puts_join p g) rs) ≡ true → (list_any (puts_join p g) rs ≡ true → (x : Proposal) × Has (happened.Asked p p.join g x) rs) → (x : Proposal) × Has (happened.Asked p p.join g x) (r ∷ rs)
    by true e q rest = let a = (begins_once p g r rs (puts_it p g r e) s.0).asked in (a.0, inr a.1)
    by false e q rest = let a = rest q in (a.0, inr a.1)

-- its join among these records
record ItsPut (p : ProviderId) (g : List ℕ) (rs : List Happened) : Type 0 where
  view : ViewId
  place : ℕ
  entry : Entry
  there : Has (happened.Put p.node view g place entry) rs
  joins : is_join_of p entry ≡ true

its_put : (p : ProviderId) (g : List ℕ) (rs : List Happened) → list_any (puts_join p g) rs ≡ true → ItsPut p g rs
its_put p g [] q = absurd (cc)
its_put p g (r ∷ rs) q = by (puts_join p g r) refl q (its_put p g rs)
  where
    by : (b : Bool) → puts_join p g r ≡ b → (b || list_any (puts_join p g) rs) ≡ true → (list_any (puts_join p g) rs ≡ true → ItsPut p g rs) → ItsPut p g (r ∷ rs)
    by true e q rest =
        let x = puts_it p g r e in
        record { view = x.view; place = x.place; entry = x.entry; there = inl (sym x.is); joins = x.joins }
    by false e q rest =
        let x = rest q in
        record { view = x.view; place = x.place; entry = x.entry; there = inr x.there; joins = x.joins }

none_later : (p : ProviderId) (g : List ℕ) (newer older : List Happened) → Seen (newer ++ older) → ItsPut p g older → list_any (puts_join p g) newer ≡ false
none_later p g [] older s x = refl
none_later p g (r ∷ newer) older s x = by (puts_join p g r) refl (none_later p g newer older s.1 x)
  where
    more : (ys : List Happened) → Has (happened.Put p.node x.view g x.place x.entry) (ys ++ older)
    more [] = x.there
    more (y ∷ ys) = inr (more ys)

    by : (b : Bool) → puts_join p g r ≡ b → list_any (puts_join p g) newer ≡ false → (b || list_any (puts_join p g) newer) ≡ false
    by true e rest =
        absurd ((begins_once p g r (newer ++ older) (puts_it p g r e) s.0).once x.view g x.place x.entry (more newer) (join_carried p x.entry x.joins))
    by false e rest = rest

-- ---- whose join is not put, and who was taken off where it took part

unput_out : (p : ProviderId) (g : List ℕ) (rs : List Happened) → Firsts rs → list_any (puts_join p g) rs ≡ false → Out false p (stays p.node g rs)
unput_out p g rs f q =
    subst (λ z. Out false p (stays p.node g z)) (append-nil rs) (out_on false p g rs [] (subst Firsts (sym (append-nil rs)) f) q tt)

list_out : (p : ProviderId) (e : Entry) (f : ℕ) (xs : List Stay) → (part p (with_entry e xs)).first ≡ Some f → among (present (state_in_stays (with_entry e xs))) p ≡ false → Out true p (with_entry e xs)
list_out p e f [] q off = absurd (cc)
list_out p e f (x ∷ older) q off = off_out p x older e f q off

module _ (p : ProviderId) (h : List ℕ) (newer older : List Happened) (v : ViewId) (i : ℕ) (e : Entry) where
  abbrev it : Happened
  it = happened.Put p.node v h i e

  put_is : stays p.node h (it ∷ older) ≡ with_entry e (stays p.node h older)
  put_is = λ k. if eq-eqb p.node p.node refl k && text_self h k then with_entry e (stays p.node h older) else stays p.node h older

  joined : (f : ℕ) → (part p (stays p.node h (it ∷ older))).first ≡ Some f → Firsts (it ∷ older) → list_any (puts_join p h) (it ∷ older) ≡ true
  joined f first firsts = by (list_any (puts_join p h) (it ∷ older)) refl
    where
      by : (b : Bool) → list_any (puts_join p h) (it ∷ older) ≡ b → b ≡ true
      by true q = refl
      by false q =
          absurd (let z : Some f ≡ None = sym first ∙ first_out p (stays p.node h (it ∷ older)) (unput_out p h (it ∷ older) firsts q) in cc)

  gone_out : (f : ℕ) → (part p (stays p.node h (it ∷ older))).first ≡ Some f → among (present (state_held p.node h (it ∷ older))) p ≡ false → Firsts (newer ++ it ∷ older) → Seen (newer ++ it ∷ older) → Out true p (stays p.node h (newer ++ it ∷ older))
  gone_out f first off firsts seen =
      let put : ItsPut p h (it ∷ older) = its_put p h (it ∷ older) (joined f first (every_after BaseFirst newer (it ∷ older) firsts)) in
      out_on true p h newer (it ∷ older) firsts (none_later p h newer (it ∷ older) seen put) (subst (Out true p) (sym put_is) (list_out p e f (stays p.node h older) (ap (λ z. (part p z).first) (sym put_is) ∙ first) (ap (λ z. among (present (state_in_stays z)) p) (sym put_is) ∙ off)))

-- ---- who was refused is put nowhere

none_any : (t : Happened → Bool) (rs : List Happened) → ((r : Happened) → Has r rs → t r ≡ false) → list_any t rs ≡ false
none_any t [] all = refl
none_any t (r ∷ rs) all = ap (λ b. b || list_any t rs) (all r (inl refl)) ∙ none_any t rs (λ q h. all q (inr h))

module _ (p : ProviderId) (g : List ℕ) (why : Why) (older : List Happened) (refused : IsRefused older p p.join) where
  -- a telling of it
  abbrev tells : Happened
  tells = happened.Told p p.join why

  older_unput : list_any (puts_join p g) older ≡ false
  older_unput = none_any (puts_join p g) older (λ r h. by r h (puts_join p g r) refl)
    where
      by : (r : Happened) → Has r older → (b : Bool) → puts_join p g r ≡ b → puts_join p g r ≡ false
      by r h false q = q
      by r h true q =
          let x = puts_it p g r q in
          absurd (refused.unput x.view g x.place x.entry (subst (λ z. Has z older) x.is h) x.joins)

  still_told : (newer : List Happened) → WasRefused p p.join (newer ++ tells ∷ older)
  still_told [] = inl (refl, refl)
  still_told (r ∷ newer) = inr (still_told newer)

  pub refused_unput : (newer : List Happened) → Seen (newer ++ tells ∷ older) → list_any (puts_join p g) (newer ++ tells ∷ older) ≡ false
  refused_unput [] s = older_unput
  refused_unput (r ∷ newer) s = by (puts_join p g r) refl (refused_unput newer s.1)
    where
      by : (b : Bool) → puts_join p g r ≡ b → list_any (puts_join p g) (newer ++ tells ∷ older) ≡ false → (b || list_any (puts_join p g) (newer ++ tells ∷ older)) ≡ false
      by false e rest = rest
      by true e rest = absurd ((begins_once p g r (newer ++ tells ∷ older) (puts_it p g r e) s.0).untold (still_told newer))

any_right : (t : Happened → Bool) (xs ys : List Happened) → list_any t ys ≡ true → list_any t (xs ++ ys) ≡ true
any_right t xs ys q = list_any-append t xs ys ∙ or_right (list_any t xs) (list_any t ys) q

-- neither here nor there
none_parts : (t : Happened → Bool) (xs ys : List Happened) → list_any t (xs ++ ys) ≡ false → (list_any t xs ≡ false) × (list_any t ys ≡ false)
none_parts t xs ys q = or_parts (list_any t xs) (list_any t ys) (sym (list_any-append t xs ys) ∙ q)

-- each join is asked for in one group
abbrev pub OneGroup : List Happened → Type 0
OneGroup rs = (p : ProviderId) (g h : List ℕ) (x y : Proposal) → Has (happened.Asked p p.join g x) rs → Has (happened.Asked p p.join h y) rs → g ≡ h

passes_there : (p : ProviderId) (base : GroupState) (x : Part) → passes p base x ≡ true → among (present base) p ≡ true
passes_there p base x k = by (is_some x.first) (is_none x.last) (among (present base) p) k
  where
    by : (a b c : Bool) → (a && (b && (c && not (among base.failed p)))) ≡ true → c ≡ true
    by true true true q = refl
    by true true false q = absurd (cc)
    by true false c q = absurd (cc)
    by false b c q = absurd (cc)

-- nor is it on the failed list
passes_unfailed : (p : ProviderId) (base : GroupState) (x : Part) → passes p base x ≡ true → among base.failed p ≡ false
passes_unfailed p base x k = by (is_some x.first) (is_none x.last) (among (present base) p) (among base.failed p) k
  where
    by : (a b c d : Bool) → (a && (b && (c && not d))) ≡ true → d ≡ false
    by true true true false q = refl
    by true true true true q = absurd (cc)
    by true true false d q = absurd (cc)
    by true false c d q = absurd (cc)
    by false b c d q = absurd (cc)

-- these are the first records of a run
abbrev pub IsFront : List Happened → List Happened → Type 0
IsFront rs run = (after : List Happened) × (run ≡ after ++ rs)

-- who hears has a first place
first_of : (count i : ℕ) (o : Option ℕ) → IsTrue (is_after count o i) → (f : ℕ) × (o ≡ Some f)
first_of count i None k = absurd (let z : false ≡ true = k in cc)
first_of count i (Some f) k = (f, refl)

-- ---- the law

module _ (rs : List Happened) (v : ViewId) (g : List ℕ) (p : ProviderId) (seen : Seen rs) (firsts : Firsts rs) (order : Ordered rs) (entries : Entries rs) (away : Aways rs) (all : List Happened) (front : IsFront rs all) (single : OneGroup all) (held : Held all) (st : StoodThere rs v g p) where
  more : (r : Happened) → Has r rs → Has r all
  more r h = subst (Has r) (sym front.1) (append_has_right r front.0 rs h)

  seen_now : Seen (st.newer ++ st.older)
  seen_now = subst Seen st.moment seen

  seen_then : Seen st.older
  seen_then = seen_after st.newer st.older seen_now

  firsts_then : Firsts st.older
  firsts_then = every_after BaseFirst st.newer st.older (subst Firsts st.moment firsts)

  order_then : Ordered st.older
  order_then = every_after InOrder st.newer st.older (subst Ordered st.moment order)

  -- what the records of its own node say
  abbrev Says : Type 0
  Says =
      (among (present (st.stay).base) p ≡ true) × (passes p (st.stay).base (part p st.rest) ≡ false) × (list_any (is_join_of p) (st.stay).entries ≡ false) × (list_any (puts_join p g) st.newer ≡ false)

  abbrev Joined : Type 0
  Joined = list_any (puts_join p g) (st.newer ++ st.older) ≡ true

  finish : list_any (puts_join p g) st.newer ≡ false → (among (present (st.stay).base) p ≡ true) × ((passes p (st.stay).base (part p st.rest) ≡ false) × (list_any (is_join_of p) (st.stay).entries ≡ false)) → Says
  finish later z = (z.0, z.1.0, z.1.1, later)

  done : (a : Bool) → list_any (puts_join p g) st.newer ≡ false → Out a p (stays p.node g st.older) → Says
  done a later out = finish later (there_out a p st.stay st.rest (subst (Out a p) st.stays_so out) st.holds)

  -- so its node puts its join in one group
  joined_once : (h : List ℕ) → Joined → list_any (puts_join p h) (st.newer ++ st.older) ≡ true → h ≡ g
  joined_once h q other =
      let a = asked_in p g (st.newer ++ st.older) seen_now q in
      let b = asked_in p h (st.newer ++ st.older) seen_now other in
      single p h g b.0 a.0 (more (happened.Asked p p.join h b.0) (subst (Has (happened.Asked p p.join h b.0)) (sym st.moment) b.1)) (more (happened.Asked p p.join g a.0) (subst (Has (happened.Asked p p.join g a.0)) (sym st.moment) a.1))

  -- its node never put its join
  never_put : list_any (puts_join p g) (st.newer ++ st.older) ≡ false → Says
  never_put q =
      done false (none_parts (puts_join p g) st.newer st.older q).0 (unput_out p g st.older firsts_then (none_parts (puts_join p g) st.newer st.older q).1)

  module _ (told : WasTold st.older p) where
    abbrev tells_it : Happened
    tells_it = happened.Told p told.number told.why

    moment_told : st.newer ++ st.older ≡ (st.newer ++ told.newer) ++ tells_it ∷ told.older
    moment_told = ap (λ z. st.newer ++ z) told.moment ∙ sym (append_assoc st.newer told.newer (tells_it ∷ told.older))

    there : (r : Happened) → Has r told.older → Has r all
    there r h =
        more r (subst (Has r) (sym st.moment) (append_has_right r st.newer st.older (subst (Has r) (sym told.moment) (append_has_right r told.newer (tells_it ∷ told.older) (inr h)))))

    -- its join was refused
    module _ (k : IsRefused told.older p told.number) where
      tells_refused : st.newer ++ st.older ≡ (st.newer ++ told.newer) ++ happened.Told p p.join told.why ∷ told.older
      tells_refused = moment_told ∙ ap (λ n. (st.newer ++ told.newer) ++ happened.Told p n told.why ∷ told.older) k.join

      refused : Says
      refused =
          never_put (ap (list_any (puts_join p g)) tells_refused ∙ refused_unput p g told.why told.older (subst (IsRefused told.older p) k.join k) (st.newer ++ told.newer) (subst Seen tells_refused seen_now))

    -- it was told as its node entered a view
    module _ (k : IsCut told.older p) where
      cut_put : ItsPut p k.group st.older
      cut_put =
          let j = k.joined in
          record {
            view = j.0;
            place = j.1;
            entry = j.2;
            there = subst (Has (happened.Put p.node j.0 k.group j.1 j.2)) (sym told.moment) (append_has_right (happened.Put p.node j.0 k.group j.1 j.2) told.newer (tells_it ∷ told.older) (inr j.3));
            joins = j.4;
          }

      -- its node held it in the group of its join
      same_group : Joined → k.group ≡ g
      same_group q =
          let a = asked_in p g (st.newer ++ st.older) seen_now q in
          let b = held p.node k.group told.older there k.last (subst (Has k.last) (sym k.stays_so) (inr (inl refl))) p k.held in
          single p k.group g b.0 a.0 b.1 (more (happened.Asked p p.join g a.0) (subst (Has (happened.Asked p p.join g a.0)) (sym st.moment) a.1))

      settled : Joined → list_any (puts_join p g) told.older ≡ true → passes p (k.stay).base (part p (k.last ∷ k.rest)) ≡ false → Says
      settled q put apart =
          by (cut_on p g told.newer (tells_it ∷ told.older) (subst Firsts told.moment firsts_then) (subst Entries told.moment (every_after FollowsEntering st.newer st.older (subst Entries st.moment entries))) (none_parts (puts_join p g) st.newer told.newer none).1 (cut, λ u. refl))
        where
          none : list_any (puts_join p g) (st.newer ++ told.newer) ≡ false
          none = none_later p g (st.newer ++ told.newer) (tells_it ∷ told.older) (subst Seen moment_told seen_now) (its_put p g (tells_it ∷ told.older) put)

          later : list_any (puts_join p g) st.newer ≡ false
          later = (none_parts (puts_join p g) st.newer told.newer none).0

          cut : Cut p (stays p.node g told.older)
          cut =
              subst (Cut p) (sym (subst (λ h. stays p.node h told.older ≡ k.stay ∷ k.last ∷ k.rest) (same_group q) k.stays_so)) (apart, ap (list_any (is_join_of p)) k.empty)

          by : CutOut p g (told.newer ++ tells_it ∷ told.older) ⊎ Out false p (stays p.node g (told.newer ++ tells_it ∷ told.older)) → Says
          by (inl c) =
              finish later (there_cut p st.stay st.rest (subst (Cut p) st.stays_so (subst (λ z. Cut p (stays p.node g z)) (sym told.moment) c.0)) st.holds)
          by (inr o) = done false later (subst (λ z. Out false p (stays p.node g z)) (sym told.moment) o)

      away_then : Aways told.older
      away_then =
          (every_after ElsewhereFails told.newer (tells_it ∷ told.older) (subst Aways told.moment (every_after ElsewhereFails st.newer st.older (subst Aways st.moment away)))).1

      -- whoever is there in a base from elsewhere failed
      from_elsewhere : FromElsewhere told.older p k.group k.stay k.last → among (present (k.stay).base) p ≡ true → among (k.stay).base.failed p ≡ true
      from_elsewhere c there =
          let base : Happened = happened.Base p.node (k.stay).view k.group c.from c.len (k.stay).base in
          (every_after ElsewhereFails c.newer (base ∷ c.older) (subst Aways c.moment away_then)).0 c.entered k.last c.rest c.stays_so c.apart p refl c.inc (among_is (present (k.stay).base) p there)

      was_cut : Joined → Says
      was_cut q = by (passes p (k.stay).base (part p (k.last ∷ k.rest))) refl k.cut
        where
          put : list_any (puts_join p g) told.older ≡ true
          put =
              let j = subst (λ h. (v : ViewId) × (i : ℕ) × (e : Entry) × Has (happened.Put p.node v h i e) told.older × (is_join_of p e ≡ true)) (same_group q) k.joined in
              has_any (puts_join p g) told.older (happened.Put p.node j.0 g j.1 j.2) j.3 (λ z. eq-eqb p.node p.node refl z && (text_self g z && j.4 z))

          by : (b : Bool) → passes p (k.stay).base (part p (k.last ∷ k.rest)) ≡ b → (among (present (k.stay).base) p ≡ false) ⊎ FromElsewhere told.older p k.group k.stay k.last → Says
          by false z c = settled q put z
          by true z (inl absent) =
              absurd (let y : true ≡ false = sym (passes_there p (k.stay).base (part p (k.last ∷ k.rest)) z) ∙ absent in cc)
          by true z (inr c) =
              absurd (let y : true ≡ false = sym (from_elsewhere c (passes_there p (k.stay).base (part p (k.last ∷ k.rest)) z)) ∙ passes_unfailed p (k.stay).base (part p (k.last ∷ k.rest)) z in cc)

  module _ (off : TakenOff st.older p) where
    abbrev off_it : Happened
    off_it = happened.Put p.node off.view off.group off.place off.entry

    abbrev off_heard : Happened
    off_heard = happened.Heard p off.view off.group off.place off.entry off.members off.value

    abbrev off_newer : List Happened
    off_newer = off.newer ++ off_heard ∷ off.between

    off_moment : st.older ≡ off_newer ++ off_it ∷ off.older
    off_moment = off.moment ∙ sym (append_assoc off.newer (off_heard ∷ off.between) (off_it ∷ off.older))

    firsts_off : Firsts (off_newer ++ off_it ∷ off.older)
    firsts_off = subst Firsts off_moment firsts_then

    -- it had a first place there, since it heard the entry
    first : (f : ℕ) × ((part p (stays p.node off.group (off_it ∷ off.older))).first ≡ Some f)
    first =
        let heard : InOrder (off.between ++ off_it ∷ off.older) off_heard = (every_after InOrder off.newer (off_heard ∷ (off.between ++ off_it ∷ off.older)) (subst Ordered off.moment order_then)).0 in
        let f = first_of (heard_count p off.view off.group (off.between ++ off_it ∷ off.older)) off.place (part p (stays p.node off.group (off.between ++ off_it ∷ off.older))).first heard.0 in
        (f.0, ap (λ xs. (part p xs).first) (sym off.still) ∙ f.1)

    -- so its join was put
    its_join : list_any (puts_join p off.group) st.older ≡ true
    its_join =
        ap (list_any (puts_join p off.group)) off_moment ∙ any_right (puts_join p off.group) off_newer (off_it ∷ off.older) (joined p off.group off_newer off.older off.view off.place off.entry first.0 first.1 (every_after BaseFirst off_newer (off_it ∷ off.older) firsts_off))

    gone : Out true p (stays p.node off.group st.older)
    gone =
        subst (λ z. Out true p (stays p.node off.group z)) (sym off_moment) (gone_out p off.group off_newer off.older off.view off.place off.entry first.0 first.1 off.off firsts_off (subst Seen off_moment seen_then))

    taken : Joined → Says
    taken q =
        let same : off.group ≡ g = joined_once off.group q (any_right (puts_join p off.group) st.newer st.older its_join) in
        done true (none_later p g st.newer st.older seen_now (its_put p g st.older (subst (λ h. list_any (puts_join p h) st.older ≡ true) same its_join))) (subst (λ h. Out true p (stays p.node h st.older)) same gone)

  says : Says
  says = by (list_any (puts_join p g) (st.newer ++ st.older)) refl st.over
    where
      was_told : Joined → (told : WasTold st.older p) → IsRefused told.older p told.number ⊎ ((is_dissolved told.why ≡ true) × IsCut told.older p) → Says
      was_told q told (inl k) = refused told k
      was_told q told (inr k) = was_cut told k.1 q

      by : (b : Bool) → list_any (puts_join p g) (st.newer ++ st.older) ≡ b → WasTold st.older p ⊎ TakenOff st.older p → Says
      by false q over = never_put q
      by true q (inl told) = was_told q told told.ends
      by true q (inr off) = taken off q

  -- ---- nor does any other node

  module _ (rises : Rises rs) (sent : JoinsSent all) where
    older_all : (r : Happened) → Has r st.older → Has r all
    older_all r h = more r (subst (Has r) (sym st.moment) (append_has_right r st.newer st.older h))

    stood : AtStay p.node g st.older st.stay
    stood =
        subst (AtFront p.node g st.older) st.stays_so (at_front p.node g st.older seen_then (every_after RisesAt st.newer st.older (subst Rises st.moment rises)))

    -- a node puts an entry into the view's list that names it
    module _ (m i : ℕ) (e : Entry) (put : Has (happened.Put m v g i e) all) (names : is_join_of p e ≡ true) where
      sends : SentIn all p g v
      sends = sent m v g i e p put names

      its_inc : p.inc ≡ inc_in p.node stood.members
      its_inc =
          sends.inc stood.members (older_all (happened.In p.node v stood.members) (subst (λ u. Has (happened.In p.node u stood.members) st.older) st.view stood.entered))

      -- a view in which its node was before is no later one
      by_then : (u : ViewId) (ms : List Member) → Has (happened.In p.node u ms) st.older → p.inc ≡ inc_in p.node ms → Le u v
      by_then u ms h inc = subst (Le u) st.view (stood.latest u ms h (sym inc ∙ its_inc))

      -- so its node did not put its join there before
      here : ItsPut p g st.older → ⊥
      here x =
          let a = put_entered p.node x.view g x.place x.entry st.older seen_then x.there in
          let inc : p.inc ≡ inc_in p.node a.0 = (sent p.node x.view g x.place x.entry p (older_all (happened.Put p.node x.view g x.place x.entry) x.there) x.joins).inc a.0 (older_all (happened.In p.node x.view a.0) a.1) in
          let same : x.view ≡ v = le_antisym x.view v (by_then x.view a.0 a.1 inc) (sends.own x.view x.place x.entry (older_all (happened.Put p.node x.view g x.place x.entry) x.there) x.joins) in
          let stands : Has x.entry (st.stay).entries = stood.puts x.place x.entry (subst (λ u. Has (happened.Put p.node u g x.place x.entry) st.older) (same ∙ sym st.view) x.there) in
          let z : true ≡ false = sym (has_any (is_join_of p) (st.stay).entries x.entry stands x.joins) ∙ says.2 in
          cc

      in_group : (h : List ℕ) → ItsPut p h st.older → ⊥
      in_group h x =
          let other : SentIn all p h x.view = sent p.node x.view h x.place x.entry p (older_all (happened.Put p.node x.view h x.place x.entry) x.there) x.joins in
          let same : h ≡ g = single p h g (other.asked).0 (sends.asked).0 (other.asked).1 (sends.asked).1 in
          here (subst (λ z. ItsPut p z st.older) same x)

      -- nor was it told of it
      not_refused : (told : WasTold st.older p) → IsRefused told.older p told.number → ⊥
      not_refused told k =
          let u : ViewId = (k.in_view).0 in
          let a = now_entered p.node u told.older (k.in_view).1 in
          let moment : all ≡ (front.0 ++ (st.newer ++ told.newer)) ++ happened.Told p p.join told.why ∷ told.older = front.1 ∙ ap (λ z. front.0 ++ z) (st.moment ∙ tells_refused told k) ∙ sym (append_assoc front.0 (st.newer ++ told.newer) (happened.Told p p.join told.why ∷ told.older)) in
          let t = sends.told (front.0 ++ (st.newer ++ told.newer)) told.older told.why u moment (k.in_view).1 in
          let le : Le u v = by_then u a.0 (subst (Has (happened.In p.node u a.0)) (sym told.moment) (append_has_right (happened.In p.node u a.0) told.newer (tells_it told ∷ told.older) (inr a.1))) (t.1 a.0 (there told (happened.In p.node u a.0) a.1)) in
          let z : true ≡ false = sym t.0 ∙ le in
          cc

      unput : WasTold st.older p ⊎ TakenOff st.older p → ⊥
      unput (inl told) = by told.ends
        where
          by : IsRefused told.older p told.number ⊎ ((is_dissolved told.why ≡ true) × IsCut told.older p) → ⊥
          by (inl k) = not_refused told k
          by (inr k) = in_group (k.1).group (cut_put told k.1)
      unput (inr off) = in_group off.group (its_put p off.group st.older (its_join off))

    named_nowhere : (m i : ℕ) (e : Entry) → Has (happened.Put m v g i e) all → is_join_of p e ≡ false
    named_nowhere m i e put = by (is_join_of p e) refl
      where
        by : (b : Bool) → is_join_of p e ≡ b → is_join_of p e ≡ false
        by false q = q
        by true q = absurd (unput m i e put q st.over)

    pub did_not_pass : DidNotPass all rs v g p
    did_not_pass =
        record {
          newer = st.newer;
          older = st.older;
          moment = st.moment;
          stay = st.stay;
          rest = st.rest;
          stays_so = st.stays_so;
          view = st.view;
          of_base = says.0;
          apart = says.1;
          unnamed = named_nowhere;
          later = says.3;
        }

pub over_did_not_pass : WhoIsOverDidNotPass
over_did_not_pass c w k v g p st =
    did_not_pass (records_of w.before) v g p (traces_seen c w k) (firsts_of w.before (bases_come_first c w k)) (ordered_of w.before (heard_in_order c w k)) (entries_of w.before (bases_follow c w k)) (aways_of w.before (bases_away c w k)) (records_of w.before) ([], refl) (joined_in_one c w k) (held_asked c w k) st (rises_of w.before (all_show c w k)) (joins_sent c w k)
