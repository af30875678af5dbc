-- How a provider stands at its node goes on, where it is told, and where an entry is handed on.
use Rattle.std.proofs.Common.{◌≡◌, ◌⊎◌, ℕ, List, [], ◌∷◌, Option, Some, None, Bool, true, false, refl, sym, ap, ◌∙◌, inl, inr, ⊎_elim}
use Rattle.std.specs.Prelude.{◌==◌, ◌&&◌, ◌||◌, not, find, filter, is_some, if◌then◌else◌}
use Rattle.std.proofs.lemmas.Bool.{eqb-true}
use Rattle.rsct_packet.specs.declared.ids.ProviderId.{ProviderId}
use Rattle.rsct_packet.specs.Providers.{among, same_provider}
use Rattle.rsct_packet.specs.Search.{Has}
use Rattle.rsct_packet.proofs.HasLaws.{has_append, find_has}
use Rattle.proposal_core.specs.declared.entry.Entry.{Entry}
use Rattle.proposal_core.specs.declared.group_state.GroupState.{GroupState}
use Rattle.proposal_core.specs.Fold.{joiners_in, present}
use Rattle.client_callbacks.specs.declared.told.Why.{Why}
use Rattle.client_callbacks.specs.declared.ballot.Filled.{Filled}
use Rattle.session_state.specs.declared.state.Provider.{Provider}
use Rattle.session_state.specs.declared.state.Request.{Request}
use Rattle.session_state.specs.declared.state.SessionState.{SessionState}
use Rattle.session_state.specs.State.{provider_of, is_provider, is_asked_by, outstanding, without_providers}
use Rattle.session_state.specs.HandOn.{is_join, is_join_request, is_numbered, is_dissolved, takes_telling, told_of, take_telling, beginners, hearers, is_present, handed_on}
use Rattle.step_refinement.proofs.SessionLaws.{provider_same}
use Rattle.row_laws.proofs.hearing.Handing.{has_among, handed_kept, handed_begun, hearer_found, new_hears, some_is}
use Rattle.row_laws.proofs.failed_rows.Living.{IsLive, handed_lives}
use Rattle.run_laws.specs.gapless.Takers.{Stood}
use Rattle.provider_laws.proofs.leaving.Comes.{live_found, found_live}

-- ---- a provider is told

-- who is kept is found as before
pub find_kept : (p : ProviderId) (keep : Provider → Bool) (xs : List Provider) (x : Provider) → keep x ≡ true → find (is_provider p) xs ≡ Some x → find (is_provider p) (filter keep xs) ≡ Some x
find_kept p keep [] x k e = absurd (cc)
find_kept p keep (y ∷ ys) x k e = by (keep y) (is_provider p y) refl refl e (find_kept p keep ys x k)
  where
    by : (a b : Bool) → keep y ≡ a → is_provider p y ≡ b → (if b then Some y else find (is_provider p) ys) ≡ Some x → (find (is_provider p) ys ≡ Some x → find (is_provider p) (filter keep ys) ≡ Some x) → find (is_provider p) (if a then y ∷ filter keep ys else filter keep ys) ≡ Some x
    by true true m q e rest = ap (λ b. if b then Some y else find (is_provider p) (filter keep ys)) q ∙ e
    by true false m q e rest = ap (λ b. if b then Some y else find (is_provider p) (filter keep ys)) q ∙ rest e
    by false true m q e rest = absurd (let z : true ≡ false = sym k ∙ ap keep (sym (some_is e)) ∙ m in cc)
    by false false m q e rest = rest e

find_without : (p : ProviderId) (out : List ProviderId) (xs : List Provider) (x : Provider) → among out p ≡ false → find (is_provider p) xs ≡ Some x → find (is_provider p) (filter (λ (x : Provider). not (among out x.provider)) xs) ≡ Some x
find_without p out xs x off e =
    find_kept p (λ (x : Provider). not (among out x.provider)) xs x (ap (λ q. not (among out q)) (provider_same x.provider p (find_has (is_provider p) xs x e).1) ∙ ap not off) e

-- it is of a join that the provider has outstanding under that number, or says that the group is dissolved
abbrev pub Drops : SessionState → ProviderId → ℕ → Why → Type 0
Drops s q r y = ((z : Request) × (outstanding s q ≡ Some z) × (z.request ≡ r) × (is_join z.proposal ≡ true)) ⊎ (is_dissolved y ≡ true)

pub told_stands : (s : SessionState) (q : ProviderId) (r : ℕ) (y : Why) (p : ProviderId) (x : Provider) → provider_of s p ≡ Some x → (provider_of (take_telling s q r y) p ≡ Some x) ⊎ ((q ≡ p) × Drops s q r y)
unfolding take_telling told_of takes_telling without_providers provider_of
told_stands s q r y p x found = by (is_some (find (is_provider q) s.providers)) (outstanding s q) refl (is_dissolved y) refl
  where
    dropped : Drops s q r y → (b : Bool) → same_provider q p ≡ b → (find (is_provider p) (filter (λ (x : Provider). not (among (q ∷ []) x.provider)) s.providers) ≡ Some x) ⊎ ((q ≡ p) × Drops s q r y)
    dropped why true e = inr (provider_same q p e, why)
    dropped why false e = inl (find_without p (q ∷ []) s.providers x (ap (λ b. b || false) e) found)

    by : (o : Bool) (n : Option Request) → outstanding s q ≡ n → (d : Bool) → is_dissolved y ≡ d → (provider_of (if o && (is_numbered r n || d) then (if is_join_request n || d then without_providers s (q ∷ []) else record s { requests = filter (λ (z : Request). not (among (q ∷ []) z.provider)) s.requests }) else s) p ≡ Some x) ⊎ ((q ≡ p) × Drops s q r y)
    by false n e d f = inl found
    by true None e true f = dropped (inr f) (same_provider q p) refl
    by true None e false f = inl found
    by true (Some z) e d f = at (z.request == r) (is_join z.proposal) d refl refl f
      where
        at : (a b c : Bool) → (z.request == r) ≡ a → is_join z.proposal ≡ b → is_dissolved y ≡ c → (provider_of (if a || c then (if b || c then without_providers s (q ∷ []) else record s { requests = filter (λ (z : Request). not (among (q ∷ []) z.provider)) s.requests }) else s) p ≡ Some x) ⊎ ((q ≡ p) × Drops s q r y)
        at true true c k m g = dropped (inl (z, e, eqb-true z.request r k, m)) (same_provider q p) refl
        at true false true k m g = dropped (inr g) (same_provider q p) refl
        at true false false k m g = inl found
        at false b true k m g = gone b (dropped (inr g) (same_provider q p) refl)
          where
            gone : (b : Bool) → (find (is_provider p) (filter (λ (x : Provider). not (among (q ∷ []) x.provider)) s.providers) ≡ Some x) ⊎ ((q ≡ p) × Drops s q r y) → (provider_of (if b || true then without_providers s (q ∷ []) else record s { requests = filter (λ (z : Request). not (among (q ∷ []) z.provider)) s.requests }) p ≡ Some x) ⊎ ((q ≡ p) × Drops s q r y)
            gone true u = u
            gone false u = u
        at false b false k m g = inl found

-- whose request is outstanding
pub asked_own : (s : SessionState) (q : ProviderId) (z : Request) → outstanding s q ≡ Some z → Has z s.requests × (z.provider ≡ q)
unfolding outstanding
asked_own s q z e = let k = find_has (is_asked_by q) s.requests z e in (k.0, provider_same z.provider q k.1)

-- ---- an entry is handed on

pub present_is : (st : GroupState) (p : ProviderId) → Has p (present st) → is_present st p ≡ true
unfolding is_present
present_is st p h = by (has_append p st.members (joiners_in st.running) h)
  where
    second : (a b : Bool) → b ≡ true → (a || b) ≡ true
    second true b e = refl
    second false b e = e

    by : Has p st.members ⊎ Has p (joiners_in st.running) → (among st.members p || among (joiners_in st.running) p) ≡ true
    by (inl i) = ap (λ b. b || among (joiners_in st.running) p) (has_among st.members p i)
    by (inr i) = second (among st.members p) (among (joiners_in st.running) p) (has_among (joiners_in st.running) p i)

module _ (s : SessionState) (h : List ℕ) (before after : GroupState) (e : Entry) (bs : List (Option Filled)) (p : ProviderId) where
  abbrev w : SessionState
  w = handed_on s h before after e bs

  -- it is found again, or heard the entry and is not present after it
  abbrev Again : Provider → Type 0
  Again x = (y : Provider) × (provider_of w p ≡ Some y) × (y.group ≡ x.group) × (x.takes_part ≡ true → y.takes_part ≡ true) × (y.takes_part ≡ true → (x.takes_part ≡ true) ⊎ Has p (beginners s h e))

  handed_again : (x : Provider) → provider_of s p ≡ Some x → Again x ⊎ (Has p (hearers s h before e) × (is_present after p ≡ false))
  handed_again x found = ⊎_elim (λ (l : IsLive w p). inl (again l)) (λ (k : Has p (hearers s h before e) × (is_present after p ≡ false)). inr k) (handed_lives s h before after e bs p (found_live s p x found))
    where
      again : IsLive w p → Again x
      again l =
          let y = live_found w p l in
          let b = (handed_kept s h before after e bs).back p y.0 y.1 in
          let same : b.0 ≡ x = some_is (sym b.1 ∙ found) in
          (y.0, y.1, b.2 ∙ ap (λ (z : Provider). z.group) same, λ t. b.3 (ap (λ (z : Provider). z.takes_part) same ∙ t), λ t. ⊎_elim (λ (u : (b.0).takes_part ≡ true). inl (ap (λ (z : Provider). z.takes_part) (sym same) ∙ u)) (λ (u : Has p (beginners s h e)). inr u) (b.4 t))

  -- who hears is of the group
  hears_group : (g : List ℕ) (b : Bool) → Stood s p g b → Has p (hearers s h before e) → (h ≡ g) × ((b ≡ true) ⊎ Has p (beginners s h e))
  hears_group g b k a =
      let f = hearer_found s h before e p a in
      let same : f.0 ≡ k.provider = some_is (sym f.1 ∙ k.found) in
      (sym f.2 ∙ ap (λ (z : Provider). z.group) same ∙ k.group, ⊎_elim (λ (u : (f.0).takes_part ≡ true). inl (sym k.part_is ∙ ap (λ (z : Provider). z.takes_part) (sym same) ∙ u)) (λ (u : Has p (beginners s h e)). inr u) f.3)

  pub begins_group : (g : List ℕ) (b : Bool) → Stood s p g b → Has p (beginners s h e) → h ≡ g
  begins_group g b k a = (hears_group g b k (new_hears s h before e p a)).0

  -- who takes part goes on, where it is present after it, or of another group
  pub stood_takes : (g : List ℕ) → Stood s p g true → (h ≡ g → Has p (present after)) → Stood w p g true
  stood_takes g k there = by (handed_again k.provider k.found)
    where
      by : Again k.provider ⊎ (Has p (hearers s h before e) × (is_present after p ≡ false)) → Stood w p g true
      by (inl a) = record { provider = a.0; found = a.1; group = a.2 ∙ k.group; part_is = a.3 k.part_is }
      by (inr a) =
          let c = present_is after p (there (hears_group g true k a.0).0) in
          absurd (let z : true ≡ false = sym c ∙ a.1 in cc)

  -- who begins takes part then
  pub stood_begins : (g : List ℕ) (b : Bool) → Stood s p g b → Has p (beginners s h e) → Has p (present after) → Stood w p g true
  stood_begins g b k begin there = by (handed_again k.provider k.found)
    where
      by : Again k.provider ⊎ (Has p (hearers s h before e) × (is_present after p ≡ false)) → Stood w p g true
      by (inl a) = record { provider = a.0; found = a.1; group = a.2 ∙ k.group; part_is = handed_begun s h before after e bs p begin a.0 a.1 }
      by (inr a) = let c = present_is after p there in absurd (let z : true ≡ false = sym c ∙ a.1 in cc)

  -- who waits, and does not begin, waits on
  pub stood_waits : (g : List ℕ) → Stood s p g false → (Has p (beginners s h e) → ⊥) → Stood w p g false
  stood_waits g k none = by (handed_again k.provider k.found)
    where
      on : (y : Provider) → (y.takes_part ≡ true → ((k.provider).takes_part ≡ true) ⊎ Has p (beginners s h e)) → (b : Bool) → y.takes_part ≡ b → y.takes_part ≡ false
      on y back false q = q
      on y back true q = absurd (⊎_elim (λ (u : (k.provider).takes_part ≡ true). let z : true ≡ false = sym u ∙ k.part_is in cc) none (back q))

      by : Again k.provider ⊎ (Has p (hearers s h before e) × (is_present after p ≡ false)) → Stood w p g false
      by (inl a) = record { provider = a.0; found = a.1; group = a.2 ∙ k.group; part_is = on a.0 a.4 (a.0).takes_part refl }
      by (inr a) = absurd (⊎_elim (λ (u : false ≡ true). let z = u in cc) none (hears_group g false k a.0).1)
