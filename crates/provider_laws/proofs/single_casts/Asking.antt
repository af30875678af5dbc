-- Whether a ballot is due, after what is recorded as an entry is handed on.
use Rattle.std.proofs.Common.{◌≡◌, ℕ, List, [], ◌∷◌, Option, Some, None, Bool, true, false, refl, sym, ap, ◌∙◌, subst, inl, inr, ◌⊎◌, ⊎_elim}
use Rattle.std.specs.Prelude.{flat_map, if◌then◌else◌}
use Rattle.std.proofs.lemmas.Bool.{and_parts}
use Rattle.rsct_packet.specs.declared.ids.ViewId.{ViewId}
use Rattle.rsct_packet.specs.declared.ids.ProviderId.{ProviderId}
use Rattle.rsct_packet.specs.declared.ids.ProtoId.{ProtoId}
use Rattle.rsct_packet.specs.Providers.{same_provider, among}
use Rattle.rsct_packet.specs.Search.{Has}
use Rattle.proposal_core.specs.declared.entry.Entry.{Entry}
use Rattle.proposal_core.specs.declared.entry.Entry.TheVariants.{Once, Begin, Phase, Approve, Reject, Late}
use Rattle.proposal_core.specs.declared.group_state.GroupState.{GroupState}
use Rattle.proposal_core.specs.declared.group_state.Running.{Running}
use Rattle.proposal_core.specs.Fold.{voters}
use Rattle.client_callbacks.specs.declared.ballot.Filled.{Filled}
use Rattle.client_callbacks.specs.Ballots.{BallotView}
use Rattle.session_state.specs.declared.casts.Cast.{Cast}
use Rattle.session_state.specs.HandOn.{opens_phase, asks, running_phase, is_late, cast_in, cast_of, casts_of}
use Rattle.node_state.specs.declared.happened.Happened.{Happened}
use Rattle.node_state.specs.declared.happened.Happened.TheVariants as happened
use Rattle.node_state.specs.HandOn.{cast_record, cast_records}
use Rattle.run_safety.specs.Past.{History, Within, earlier}
use Rattle.row_laws.specs.hearing.Changes.{Inner}
use Rattle.step_refinement.proofs.SessionLaws.{provider_same, provider_self}
use Rattle.row_laws.proofs.hearing.Attending.{pushed, pushed_append, heard_at}
use Rattle.provider_laws.specs.single_casts.Ballots.{due_by, ballot_due, CastWhenDue}
use Rattle.row_laws.proofs.hearing.Handing.{some_is}

-- ---- records by which nothing is heard or cast

abbrev pub Silent : Happened → Type 0
Silent (happened.Heard p v g i e ms value) = ⊥
Silent (happened.Cast p proto phase vote value message) = ⊥
Silent _ = Unit {0}

pub inner_silent : (r : Happened) → Inner r → Silent r
inner_silent (happened.Heard p v g i e ms value) a = a
inner_silent (happened.Cast p proto phase vote value message) a = a
inner_silent _ a = tt

-- what was cast until now
abbrev pub Rightly : List Happened → History → Happened → Type 0
Rightly now before r = CastWhenDue (earlier now before) r

pub silent_law : (now : List Happened) (before : History) (r : Happened) → Silent r → Rightly now before r
silent_law now before (happened.Cast p proto phase vote value message) a = absurd a
silent_law now before _ a = tt

pub silent_due : (p : ProviderId) (r : Happened) → Silent r → (rs : List Happened) → ballot_due p (r ∷ rs) ≡ ballot_due p rs
silent_due p (happened.Heard q v h i e ms value) a rs = absurd a
silent_due p (happened.Cast q proto phase vote value message) a rs = absurd a
silent_due p _ a rs = refl

-- ---- one provider hears, and casts or not

-- what is of another provider
pub another : {A : Type 0} (q p : ProviderId) (x y : A) → (q ≡ p → ⊥) → (if same_provider q p then x else y) ≡ y
another q p x y ne = by (same_provider q p) refl
  where
    by : (b : Bool) → same_provider q p ≡ b → (if b then x else y) ≡ y
    by true k = absurd (ne (provider_same q p k))
    by false k = refl

pub cast_another : (p q : ProviderId) (proto : ProtoId) (phase : ℕ) (f : Filled) (rs : List Happened) → (q ≡ p → ⊥) → ballot_due p (happened.Cast q proto phase f.vote f.value f.message ∷ rs) ≡ ballot_due p rs
cast_another p q proto phase f rs ne = another q p false (ballot_due p rs) ne

late_by : (e : Entry) (b : Bool) → is_late e ≡ true → due_by e b ≡ b
late_by (Late proto phase ps) b late = refl
late_by _ b late = absurd (cc)

opens_by : (e : Entry) (b : Bool) → opens_phase e ≡ true → due_by e b ≡ true
opens_by (Begin x) b opens = refl
opens_by (Phase c) b opens = refl
opens_by _ b opens = absurd (cc)

-- a Late opens no phase
pub late_opens : (e : Entry) → is_late e ≡ true → opens_phase e ≡ true → ⊥
late_opens (Once x) late opens = absurd (cc)
late_opens (Begin x) late opens = absurd (cc)
late_opens (Phase c) late opens = absurd (cc)
late_opens (Approve c) late opens = absurd (cc)
late_opens (Reject c) late opens = absurd (cc)
late_opens (Late proto phase ps) late opens = absurd (cc)

module _ (v : ViewId) (h : List ℕ) (i : ℕ) (e : Entry) (st : GroupState) (before : History) where
  abbrev notice : ProviderId → Happened
  notice q = happened.Heard q v h i e st.members st.value

  abbrev due : ProviderId → List Happened → Bool
  due p now = ballot_due p (earlier now before)

  own_due : (p : ProviderId) (now : List Happened) → opens_phase e ≡ true → due p (notice p ∷ now) ≡ true
  own_due p now opens = ap (λ b. if b then due_by e (due p now) else due p now) (provider_self p) ∙ opens_by e (due p now) opens

  one_other : (q p : ProviderId) (o : Option (ProtoId × ℕ × BallotView)) (now : List Happened) → (q ≡ p → ⊥) → due p (pushed (notice q ∷ cast_records q o) now) ≡ due p now
  unfolding cast_records cast_record
  one_other q p None now ne = another q p (due_by e (due p now)) (due p now) ne
  one_other q p (Some y) now ne = by (y.2).filled
    where
      by : (b : Option Filled) → due p (pushed (cast_record q y.0 y.1 b) (notice q ∷ now)) ≡ due p now
      by None = another q p (due_by e (due p now)) (due p now) ne
      by (Some f) = cast_another p q y.0 y.1 f (earlier (notice q ∷ now) before) ne ∙ another q p (due_by e (due p now)) (due p now) ne

  one_late : (q p : ProviderId) (now : List Happened) → is_late e ≡ true → due p (notice q ∷ now) ≡ due p now
  one_late q p now late = by (same_provider q p)
    where
      by : (b : Bool) → (if b then due_by e (due p now) else due p now) ≡ due p now
      by true = late_by e (due p now) late
      by false = refl

  -- a ballot is due from the notice on, unless it is cast with it
  one_own : (p : ProviderId) (o : Option (ProtoId × ℕ × BallotView)) (now : List Happened) → opens_phase e ≡ true → (due p (pushed (notice p ∷ cast_records p o) now) ≡ true) ⊎ ((y : ProtoId × ℕ × BallotView) × (o ≡ Some y))
  unfolding cast_records
  one_own p None now opens = inl (own_due p now opens)
  one_own p (Some y) now opens = inr (y, refl)

  one_law : (p : ProviderId) (o : Option (ProtoId × ℕ × BallotView)) (now : List Happened) → ((y : ProtoId × ℕ × BallotView) → o ≡ Some y → opens_phase e ≡ true) → Within Rightly now before → Within Rightly (pushed (notice p ∷ cast_records p o) now) before
  unfolding cast_records cast_record
  one_law p None now opens k = (tt, k)
  one_law p (Some y) now opens k = by (y.2).filled
    where
      by : (b : Option Filled) → Within Rightly (pushed (cast_record p y.0 y.1 b) (notice p ∷ now)) before
      by None = (tt, k)
      by (Some f) = (own_due p now (opens y refl), (tt, k))

  -- ---- all hear, one after another

  abbrev all : List Cast → List Happened
  all cs = flat_map (heard_at v h i e st) cs

  abbrev one : Cast → List Happened
  one c = heard_at v h i e st c

  joined : (c : Cast) (cs : List Cast) (now : List Happened) → pushed (all (c ∷ cs)) now ≡ pushed (all cs) (pushed (one c) now)
  joined c cs now = pushed_append (one c) (all cs) now

  pub run_other : (cs : List Cast) (p : ProviderId) (now : List Happened) → ((c : Cast) → Has c cs → c.provider ≡ p → ⊥) → due p (pushed (all cs) now) ≡ due p now
  run_other [] p now ne = refl
  run_other (c ∷ cs) p now ne =
      ap (due p) (joined c cs now) ∙ run_other cs p (pushed (one c) now) (λ d k. ne d (inr k)) ∙ one_other c.provider p c.cast now (ne c (inl refl))

  pub run_late : (cs : List Cast) (p : ProviderId) (now : List Happened) → is_late e ≡ true → ((c : Cast) → Has c cs → c.cast ≡ None) → due p (pushed (all cs) now) ≡ due p now
  unfolding cast_records
  run_late [] p now late none = refl
  run_late (c ∷ cs) p now late none =
      ap (due p) (joined c cs now) ∙ run_late cs p (pushed (one c) now) late (λ d k. none d (inr k)) ∙ ap (λ o. due p (pushed (notice c.provider ∷ cast_records c.provider o) now)) (none c (inl refl)) ∙ one_late c.provider p now late

  -- one of them cast
  pub record CastIn (cs : List Cast) (p : ProviderId) : Type 0 where
    pub cast : Cast
    pub there : Has cast cs
    pub by : cast.provider ≡ p
    pub given : ProtoId × ℕ × BallotView
    pub is : cast.cast ≡ Some given

  pub run_own : (cs : List Cast) (p : ProviderId) (now : List Happened) → opens_phase e ≡ true → (due p (pushed (all cs) now) ≡ true) ⊎ (CastIn cs p ⊎ ((due p (pushed (all cs) now) ≡ due p now) × ((c : Cast) → Has c cs → c.provider ≡ p → ⊥)))
  run_own [] p now opens = inr (inr (refl, λ c k q. k))
  run_own (c ∷ cs) p now opens = by (run_own cs p (pushed (one c) now) opens)
    where
      own : (b : Bool) → same_provider c.provider p ≡ b → due p (pushed (all cs) (pushed (one c) now)) ≡ due p (pushed (one c) now) → ((d : Cast) → Has d cs → d.provider ≡ p → ⊥) → (due p (pushed (all (c ∷ cs)) now) ≡ true) ⊎ (CastIn (c ∷ cs) p ⊎ ((due p (pushed (all (c ∷ cs)) now) ≡ due p now) × ((d : Cast) → Has d (c ∷ cs) → d.provider ≡ p → ⊥)))
      own true k q none =
          let at : c.provider ≡ p = provider_same c.provider p k in
          ⊎_elim (λ (z : due c.provider (pushed (one c) now) ≡ true). inl (ap (due p) (joined c cs now) ∙ q ∙ subst (λ m. due m (pushed (one c) now) ≡ true) at z)) (λ (z : (y : ProtoId × ℕ × BallotView) × (c.cast ≡ Some y)). inr (inl (record { cast = c; there = inl refl; by = at; given = z.0; is = z.1 }))) (one_own c.provider c.cast now opens)
      own false k q none = inr (inr (ap (due p) (joined c cs now) ∙ q ∙ one_other c.provider p c.cast now ne, others))
        where
          ne : c.provider ≡ p → ⊥
          ne z = let m : same_provider c.provider p ≡ true = subst (λ m. same_provider c.provider m ≡ true) z (provider_self c.provider) in let u : true ≡ false = sym m ∙ k in absurd (cc)

          others : (d : Cast) → Has d (c ∷ cs) → d.provider ≡ p → ⊥
          others d (inl z) f = ne (ap (λ (m : Cast). m.provider) (sym z) ∙ f)
          others d (inr z) f = none d z f

      by : (due p (pushed (all cs) (pushed (one c) now)) ≡ true) ⊎ (CastIn cs p ⊎ ((due p (pushed (all cs) (pushed (one c) now)) ≡ due p (pushed (one c) now)) × ((d : Cast) → Has d cs → d.provider ≡ p → ⊥))) → (due p (pushed (all (c ∷ cs)) now) ≡ true) ⊎ (CastIn (c ∷ cs) p ⊎ ((due p (pushed (all (c ∷ cs)) now) ≡ due p now) × ((d : Cast) → Has d (c ∷ cs) → d.provider ≡ p → ⊥)))
      by (inl z) = inl (ap (due p) (joined c cs now) ∙ z)
      by (inr (inl z)) = inr (inl (record { cast = z.cast; there = inr z.there; by = z.by; given = z.given; is = z.is }))
      by (inr (inr z)) = own (same_provider c.provider p) refl z.0 z.1

  pub run_law : (cs : List Cast) (now : List Happened) → ((c : Cast) → Has c cs → (y : ProtoId × ℕ × BallotView) → c.cast ≡ Some y → opens_phase e ≡ true) → Within Rightly now before → Within Rightly (pushed (all cs) now) before
  run_law [] now opens k = k
  run_law (c ∷ cs) now opens k =
      subst (λ l. Within Rightly l before) (sym (joined c cs now)) (run_law cs (pushed (one c) now) (λ d z. opens d (inr z)) (one_law c.provider c.cast now (opens c (inl refl)) k))

-- ---- what is cast with a notice

pub asks_opens : (e : Entry) (after : GroupState) (p : ProviderId) → asks e after p ≡ true → opens_phase e ≡ true
unfolding asks
asks_opens e after p k = (and_parts (opens_phase e) (among (voters after) p) k).0

-- just where the notice asks for a vote, in the phase that runs
abbrev pub InPhase : Entry → GroupState → ProtoId × ℕ × BallotView → Type 0
InPhase e after y = (opens_phase e ≡ true) × (running_phase after.running ≡ Some (record { proto = y.0; phase = y.1 }))

one_in_phase : (e : Entry) (after : GroupState) (level : ℕ) (p : ProviderId) (b : Option Filled) (y : ProtoId × ℕ × BallotView) → (cast_of e after level p b).cast ≡ Some y → InPhase e after y
unfolding cast_of
one_in_phase e after level p b y = by (asks e after p) refl
  where
    cast : (run : Option Running) (b : Option Filled) → cast_in run level b ≡ Some y → running_phase run ≡ Some (record { proto = y.0; phase = y.1 })
    cast None b q = absurd (cc)
    cast (Some run) None q = absurd (cc)
    cast (Some run) (Some f) q = ap (λ (k : ProtoId × ℕ × BallotView). Some (record { proto = k.0; phase = k.1 })) (some_is q)

    by : (t : Bool) → asks e after p ≡ t → (if t then cast_in after.running level b else None) ≡ Some y → InPhase e after y
    by false k q = absurd (cc)
    by true k q = (asks_opens e after p k, cast after.running b q)

pub in_phase : (e : Entry) (after : GroupState) (level : ℕ) (ps : List ProviderId) (bs : List (Option Filled)) (c : Cast) → Has c (casts_of e after level ps bs) → (y : ProtoId × ℕ × BallotView) → c.cast ≡ Some y → InPhase e after y
in_phase e after level [] bs c h y q = absurd h
in_phase e after level (p ∷ ps) [] c (inl z) y q = one_in_phase e after level p None y (ap (λ (m : Cast). m.cast) (sym z) ∙ q)
in_phase e after level (p ∷ ps) [] c (inr z) y q = in_phase e after level ps [] c z y q
in_phase e after level (p ∷ ps) (b ∷ bs) c (inl z) y q = one_in_phase e after level p b y (ap (λ (m : Cast). m.cast) (sym z) ∙ q)
in_phase e after level (p ∷ ps) (b ∷ bs) c (inr z) y q = in_phase e after level ps bs c z y q

-- and it is filled
one_filled : (e : Entry) (after : GroupState) (level : ℕ) (p : ProviderId) (b : Option Filled) (y : ProtoId × ℕ × BallotView) → (cast_of e after level p b).cast ≡ Some y → (f : Filled) × ((y.2).filled ≡ Some f)
unfolding cast_of
one_filled e after level p b y = by (asks e after p)
  where
    cast : (run : Option Running) (b : Option Filled) → cast_in run level b ≡ Some y → (f : Filled) × ((y.2).filled ≡ Some f)
    cast None b q = absurd (cc)
    cast (Some run) None q = absurd (cc)
    cast (Some run) (Some f) q = (f, ap (λ (k : ProtoId × ℕ × BallotView). (k.2).filled) (sym (some_is q)))

    by : (t : Bool) → (if t then cast_in after.running level b else None) ≡ Some y → (f : Filled) × ((y.2).filled ≡ Some f)
    by false q = absurd (cc)
    by true q = cast after.running b q

pub filled_with : (e : Entry) (after : GroupState) (level : ℕ) (ps : List ProviderId) (bs : List (Option Filled)) (c : Cast) → Has c (casts_of e after level ps bs) → (y : ProtoId × ℕ × BallotView) → c.cast ≡ Some y → (f : Filled) × ((y.2).filled ≡ Some f)
filled_with e after level [] bs c h y q = absurd h
filled_with e after level (p ∷ ps) [] c (inl z) y q = one_filled e after level p None y (ap (λ (m : Cast). m.cast) (sym z) ∙ q)
filled_with e after level (p ∷ ps) [] c (inr z) y q = filled_with e after level ps [] c z y q
filled_with e after level (p ∷ ps) (b ∷ bs) c (inl z) y q = one_filled e after level p b y (ap (λ (m : Cast). m.cast) (sym z) ∙ q)
filled_with e after level (p ∷ ps) (b ∷ bs) c (inr z) y q = filled_with e after level ps bs c z y q
