-- Which phase is open for a provider, after what is recorded as an entry is handed on.
use Rattle.std.proofs.Common.{◌≡◌, ℕ, ◌+◌, List, [], ◌∷◌, Option, Some, None, Bool, true, false, refl, sym, ap, ◌∙◌, subst, inl, inr, ◌⊎◌}
use Rattle.std.specs.Prelude.{◌==◌, flat_map, if◌then◌else◌}
use Rattle.std.proofs.lemmas.Bool.{and_parts}
use Rattle.std.proofs.lemmas.Bool.Decides.{nat_tests}
use Rattle.std.proofs.Common.{arith}
use Rattle.rsct_packet.specs.declared.ids.ViewId.{ViewId}
use Rattle.rsct_packet.specs.declared.ids.ProviderId.{ProviderId}
use Rattle.rsct_packet.specs.declared.ids.ProtoId.{ProtoId}
use Rattle.rsct_packet.specs.Ids.{same_proto}
use Rattle.rsct_packet.specs.Providers.{same_provider}
use Rattle.rsct_packet.specs.Search.{Has}
use Rattle.proposal_core.specs.declared.entry.Entry.{Entry}
use Rattle.proposal_core.specs.declared.entry.Closed.{Closed}
use Rattle.proposal_core.specs.declared.entry.Entry.TheVariants.{Begin, Phase, Late}
use Rattle.proposal_core.specs.declared.group_state.GroupState.{GroupState}
use Rattle.proposal_core.specs.declared.group_state.Running.{Running}
use Rattle.proposal_core.specs.Fold.{runs, fits, begun, next_phase, advance, apply, after_if, after}
use Rattle.client_callbacks.specs.declared.ballot.Filled.{Filled}
use Rattle.client_callbacks.specs.Ballots.{BallotView}
use Rattle.session_state.specs.declared.casts.Cast.{Cast}
use Rattle.session_state.specs.declared.state.OpenPhase.{OpenPhase}
use Rattle.session_state.specs.HandOn.{opens_phase, running_phase, is_late}
use Rattle.node_state.specs.declared.happened.Happened.{Happened}
use Rattle.node_state.specs.declared.happened.Happened.TheVariants as happened
use Rattle.node_state.specs.HandOn.{cast_record, cast_records}
use Rattle.run_safety.specs.Past.{History, Within, earlier}
use Rattle.step_refinement.proofs.SessionLaws.{provider_same, provider_self}
use Rattle.row_laws.proofs.hearing.Attending.{pushed, pushed_append, heard_at}
use Rattle.provider_laws.specs.single_casts.Ballots.{opens, open_by, open_phase, CastInPhase}
use Rattle.provider_laws.proofs.single_casts.Asking.{Silent, another}
use Rattle.provider_laws.proofs.attending.Turns.{casts_keep}

-- ---- the phase that an entry that fits opens is the one that runs after it

running_now : (s : GroupState) (v : ViewId) (i : ℕ) (e : Entry) → fits s e ≡ true → (after s v i e).running ≡ (apply s v i e).running
unfolding after after_if
running_now s v i e f = ap (λ b. (after_if s v i e b).running) f

phase_runs : (s : GroupState) (c : Closed) (o : Option Running) → runs c.proto c.phase o ≡ true → running_phase (next_phase s c.value o).running ≡ Some (record { proto = c.proto; phase = c.phase + 1 })
unfolding runs next_phase advance
phase_runs s c None k = absurd (cc)
phase_runs s c (Some run) k =
    let a : run.phase ≡ c.phase = number c.phase run.phase (and_parts (c.phase == run.phase) (same_proto c.proto run.proto) k).0 in
    let b : run.proto ≡ c.proto = proto c.proto run.proto (and_parts (c.phase == run.phase) (same_proto c.proto run.proto) k).1 in
    (λ i. Some (record { proto = b i; phase = a i + 1 }))
  where
    number : (x y : ℕ) → (x == y) ≡ true → y ≡ x
    number x y z = grind (arith, nat_tests)

    proto : (x y : ProtoId) → same_proto x y ≡ true → y ≡ x
    proto x y z = grind (arith, nat_tests)

pub opens_running : (s : GroupState) (v : ViewId) (i : ℕ) (e : Entry) → fits s e ≡ true → opens_phase e ≡ true → running_phase (after s v i e).running ≡ opens e v i
unfolding fits apply begun
opens_running s v i (Begin x) f k = ap running_phase (running_now s v i (Begin x) f)
opens_running s v i (Phase c) f k = ap running_phase (running_now s v i (Phase c) f) ∙ phase_runs s c s.running (and_parts (runs c.proto c.phase s.running) _ f).0
opens_running s v i _ f k = absurd (cc)

-- ---- records

abbrev pub Phased : List Happened → History → Happened → Type 0
Phased now before r = CastInPhase (earlier now before) r

pub silent_phased : (now : List Happened) (before : History) (r : Happened) → Silent r → Phased now before r
silent_phased now before (happened.Cast p proto phase vote value message) a = absurd a
silent_phased now before _ a = tt

pub silent_open : (p : ProviderId) (r : Happened) → Silent r → (rs : List Happened) → open_phase p (r ∷ rs) ≡ open_phase p rs
silent_open p (happened.Heard q v h i e ms value) a rs = absurd a
silent_open p _ a rs = refl

late_open : (e : Entry) (v : ViewId) (i : ℕ) (old : Option OpenPhase) → is_late e ≡ true → open_by e v i old ≡ old
late_open (Late proto phase ps) v i old late = refl
late_open _ v i old late = absurd (cc)

opened_by : (e : Entry) (v : ViewId) (i : ℕ) (old : Option OpenPhase) → opens_phase e ≡ true → open_by e v i old ≡ opens e v i
opened_by (Begin x) v i old k = refl
opened_by (Phase c) v i old k = refl
opened_by _ v i old k = absurd (cc)

module _ (v : ViewId) (h : List ℕ) (i : ℕ) (e : Entry) (st : GroupState) (before : History) where
  abbrev notice : ProviderId → Happened
  notice q = happened.Heard q v h i e st.members st.value

  abbrev phase_of : ProviderId → List Happened → Option OpenPhase
  phase_of p now = open_phase p (earlier now before)

  -- what is cast changes nothing
  after_cast : (p q : ProviderId) (o : Option (ProtoId × ℕ × BallotView)) (now : List Happened) → phase_of p (pushed (cast_records q o) now) ≡ phase_of p now
  after_cast p q o now = casts_keep (λ z. phase_of p z ≡ phase_of p now) (λ w proto phase b z k. k) q o now refl

  abbrev all : List Cast → List Happened
  all cs = flat_map (heard_at v h i e st) cs

  abbrev one : Cast → List Happened
  one c = heard_at v h i e st c

  joined : (c : Cast) (cs : List Cast) (now : List Happened) → pushed (all (c ∷ cs)) now ≡ pushed (all cs) (pushed (one c) now)
  joined c cs now = pushed_append (one c) (all cs) now

  one_other : (c : Cast) (p : ProviderId) (now : List Happened) → (c.provider ≡ p → ⊥) → phase_of p (pushed (one c) now) ≡ phase_of p now
  one_other c p now ne = after_cast p c.provider c.cast (notice c.provider ∷ now) ∙ another c.provider p (open_by e v i (phase_of p now)) (phase_of p now) ne

  one_late : (c : Cast) (p : ProviderId) (now : List Happened) → is_late e ≡ true → phase_of p (pushed (one c) now) ≡ phase_of p now
  one_late c p now late = after_cast p c.provider c.cast (notice c.provider ∷ now) ∙ by (same_provider c.provider p)
    where
      by : (b : Bool) → (if b then open_by e v i (phase_of p now) else phase_of p now) ≡ phase_of p now
      by true = late_open e v i (phase_of p now) late
      by false = refl

  own_phase : (p : ProviderId) (now : List Happened) → opens_phase e ≡ true → phase_of p (notice p ∷ now) ≡ opens e v i
  own_phase p now k = ap (λ b. if b then open_by e v i (phase_of p now) else phase_of p now) (provider_self p) ∙ opened_by e v i (phase_of p now) k

  pub opens_other : (cs : List Cast) (p : ProviderId) (now : List Happened) → ((c : Cast) → Has c cs → c.provider ≡ p → ⊥) → phase_of p (pushed (all cs) now) ≡ phase_of p now
  opens_other [] p now ne = refl
  opens_other (c ∷ cs) p now ne =
      ap (phase_of p) (joined c cs now) ∙ opens_other cs p (pushed (one c) now) (λ d k. ne d (inr k)) ∙ one_other c p now (ne c (inl refl))

  pub opens_late : (cs : List Cast) (p : ProviderId) (now : List Happened) → is_late e ≡ true → phase_of p (pushed (all cs) now) ≡ phase_of p now
  opens_late [] p now late = refl
  opens_late (c ∷ cs) p now late = ap (phase_of p) (joined c cs now) ∙ opens_late cs p (pushed (one c) now) late ∙ one_late c p now late

  -- whoever heard has the phase open
  pub opens_own : (cs : List Cast) (p : ProviderId) (now : List Happened) → opens_phase e ≡ true → (phase_of p (pushed (all cs) now) ≡ opens e v i) ⊎ ((phase_of p (pushed (all cs) now) ≡ phase_of p now) × ((c : Cast) → Has c cs → c.provider ≡ p → ⊥))
  opens_own [] p now k = inr (refl, λ c h q. h)
  opens_own (c ∷ cs) p now k = by (opens_own cs p (pushed (one c) now) k)
    where
      own : (b : Bool) → same_provider c.provider p ≡ b → phase_of p (pushed (all cs) (pushed (one c) now)) ≡ phase_of p (pushed (one c) now) → ((d : Cast) → Has d cs → d.provider ≡ p → ⊥) → (phase_of p (pushed (all (c ∷ cs)) now) ≡ opens e v i) ⊎ ((phase_of p (pushed (all (c ∷ cs)) now) ≡ phase_of p now) × ((d : Cast) → Has d (c ∷ cs) → d.provider ≡ p → ⊥))
      own true z q none =
          let at : c.provider ≡ p = provider_same c.provider p z in
          inl (ap (phase_of p) (joined c cs now) ∙ q ∙ after_cast p c.provider c.cast (notice c.provider ∷ now) ∙ subst (λ m. phase_of p (notice m ∷ now) ≡ opens e v i) (sym at) (own_phase p now k))
      own false z q none = inr (ap (phase_of p) (joined c cs now) ∙ q ∙ one_other c p now ne, others)
        where
          ne : c.provider ≡ p → ⊥
          ne y = let m : same_provider c.provider p ≡ true = subst (λ m. same_provider c.provider m ≡ true) y (provider_self c.provider) in let u : true ≡ false = sym m ∙ z in absurd (cc)

          others : (d : Cast) → Has d (c ∷ cs) → d.provider ≡ p → ⊥
          others d (inl y) f = ne (ap (λ (m : Cast). m.provider) (sym y) ∙ f)
          others d (inr y) f = none d y f

      by : (phase_of p (pushed (all cs) (pushed (one c) now)) ≡ opens e v i) ⊎ ((phase_of p (pushed (all cs) (pushed (one c) now)) ≡ phase_of p (pushed (one c) now)) × ((d : Cast) → Has d cs → d.provider ≡ p → ⊥)) → (phase_of p (pushed (all (c ∷ cs)) now) ≡ opens e v i) ⊎ ((phase_of p (pushed (all (c ∷ cs)) now) ≡ phase_of p now) × ((d : Cast) → Has d (c ∷ cs) → d.provider ≡ p → ⊥))
      by (inl z) = inl (ap (phase_of p) (joined c cs now) ∙ z)
      by (inr z) = own (same_provider c.provider p) refl z.0 z.1

  one_phased : (p : ProviderId) (o : Option (ProtoId × ℕ × BallotView)) (now : List Happened) → ((y : ProtoId × ℕ × BallotView) → o ≡ Some y → (opens_phase e ≡ true) × (opens e v i ≡ Some (record { proto = y.0; phase = y.1 }))) → Within Phased now before → Within Phased (pushed (notice p ∷ cast_records p o) now) before
  unfolding cast_records cast_record
  one_phased p None now k law = (tt, law)
  one_phased p (Some y) now k law = by (y.2).filled
    where
      by : (b : Option Filled) → Within Phased (pushed (cast_record p y.0 y.1 b) (notice p ∷ now)) before
      by None = (tt, law)
      by (Some f) = (own_phase p now (k y refl).0 ∙ (k y refl).1, (tt, law))

  pub opens_law : (cs : List Cast) (now : List Happened) → ((c : Cast) → Has c cs → (y : ProtoId × ℕ × BallotView) → c.cast ≡ Some y → (opens_phase e ≡ true) × (opens e v i ≡ Some (record { proto = y.0; phase = y.1 }))) → Within Phased now before → Within Phased (pushed (all cs) now) before
  opens_law [] now k law = law
  opens_law (c ∷ cs) now k law =
      subst (λ l. Within Phased l before) (sym (joined c cs now)) (opens_law cs (pushed (one c) now) (λ d z. k d (inr z)) (one_phased c.provider c.cast now (k c (inl refl)) law))
