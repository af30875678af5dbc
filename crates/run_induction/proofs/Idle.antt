-- What is recorded in events in which no node takes a step: nodes start and stop, and what is noted. And what such a record leaves
-- as it is of other nodes.
use Rattle.std.proofs.Common.{◌≡◌, ◌≢◌, ◌⊎◌, ℕ, List, [], ◌∷◌, ◌++◌, Bool, true, false, refl, sym, ap, ◌∙◌, subst, inl, inr, ⊎_elim, append_assoc}
use Rattle.std.specs.Prelude.{◌==◌, ◌&&◌, map, reverse, if◌then◌else◌}
use Rattle.std.specs.Str.{bytes_eq}
use Rattle.std.proofs.lemmas.Bool.{eqb-true, eq-eqb}
use Rattle.std.proofs.lemmas.List.{reverse-append}
use Rattle.rsct_packet.specs.declared.ids.Member.{Member}
use Rattle.rsct_packet.specs.declared.ids.ViewId.{ViewId}
use Rattle.rsct_packet.specs.Search.{Has}
use Rattle.rsct_packet.proofs.HasLaws.{has_append, has_map, has_reverse}
use Rattle.adapter_ring.specs.declared.ring.Ring.{Ring}
use Rattle.proposal_core.specs.Fold.{empty_state}
use Rattle.node_state.specs.declared.config.Config.{Config}
use Rattle.node_state.specs.declared.happened.Happened.{Happened}
use Rattle.node_state.specs.declared.happened.Happened.TheVariants as happened
use Rattle.node_state.specs.State.{with_sessions}
use Rattle.node_state.specs.Step.{started, first_view, first_members, own_rings, ring_record}
use Rattle.run_safety.specs.Past.{History, Within, inc_after, inc_now}
use Rattle.run_safety.specs.SafeHeard.{enters}
use Rattle.run_safety.specs.Stays.{Stay, with_base, with_entry, stays_after, stays}
use Rattle.step_refinement.specs.Runs.{IsNote}

abbrev pub Idle : Happened → Type 0
Idle (happened.Up n j) = Unit {0}
Idle (happened.Down n) = Unit {0}
Idle (happened.Ring n k i ms o) = Unit {0}
Idle (happened.In n v ms) = Unit {0}
Idle (happened.Refused n client fault) = Unit {0}
Idle (happened.Shown n line) = Unit {0}
Idle _ = ⊥

abbrev pub AllIdle : List Happened → Type 0
AllIdle rs = (r : Happened) → Has r rs → Idle r

-- of a node other than this one, where it tells of starts, stops, views, lists or requests
abbrev pub Elsewhere : ℕ → Happened → Type 0
Elsewhere m (happened.Up n j) = n ≢ m
Elsewhere m (happened.Down n) = n ≢ m
Elsewhere m (happened.In n v ms) = n ≢ m
Elsewhere m (happened.Base n v g u len s) = n ≢ m
Elsewhere m (happened.Put n v g i e) = n ≢ m
Elsewhere m (happened.Asked p r g x) = p.node ≢ m
Elsewhere m _ = Unit {0}

abbrev pub AllElsewhere : ℕ → List Happened → Type 0
AllElsewhere m rs = (r : Happened) → Has r rs → Elsewhere m r

pub note_idle : (r : Happened) → IsNote r → Idle r
note_idle (happened.Refused n client fault) a = tt
note_idle (happened.Shown n line) a = tt
note_idle _ a = absurd a

pub note_elsewhere : (m : ℕ) (r : Happened) → IsNote r → Elsewhere m r
note_elsewhere m (happened.Refused n client fault) a = tt
note_elsewhere m (happened.Shown n line) a = tt
note_elsewhere m _ a = absurd a

-- ---- a node that starts

pub each_started : (P : Happened → Type 0) (c : Config) (n j : ℕ) → P (happened.Up n j) → ((x : Ring) → P (ring_record n x)) → ((v : ViewId) (ms : List Member) → P (happened.In n v ms)) → (r : Happened) → Has r (started c n j).records → P r
unfolding started with_sessions
each_started P c n j up ring enters r (inl e) = subst P (sym e) up
each_started P c n j up ring enters r (inr i) = by (has_append r (map (ring_record n) rings) (happened.In n (first_view c c.mode n j) (first_members c c.mode n j) ∷ []) i)
  where
    rings : List Ring
    rings = own_rings c c.mode n j

    by : Has r (map (ring_record n) rings) ⊎ Has r (happened.In n (first_view c c.mode n j) (first_members c c.mode n j) ∷ []) → P r
    by (inl k) = let z = has_map (ring_record n) r rings k in subst P (sym z.2) (ring z.0)
    by (inr (inl e)) = subst P (sym e) (enters (first_view c c.mode n j) (first_members c c.mode n j))
    by (inr (inr z)) = absurd z

pub started_idle : (c : Config) (n j : ℕ) → AllIdle (reverse (started c n j).records)
unfolding ring_record
started_idle c n j r i =
    each_started Idle c n j tt (λ x. tt) (λ v ms. tt) r (has_reverse r (started c n j).records i)

pub started_elsewhere : (c : Config) (n j m : ℕ) → n ≢ m → AllElsewhere m (reverse (started c n j).records)
unfolding ring_record
started_elsewhere c n j m ne r i =
    each_started (Elsewhere m) c n j ne (λ x. tt) (λ v ms. ne) r (has_reverse r (started c n j).records i)

-- ---- what holds of records where each that is idle has it

module _ (P : List Happened → History → Happened → Type 0) (quiet : (r : Happened) (now : List Happened) (before : History) → Idle r → P now before r) where
  pub within_idle : (rs : List Happened) (before : History) → AllIdle rs → Within P rs before
  within_idle [] before idle = tt
  within_idle (r ∷ rs) before idle = (quiet r rs before (idle r (inl refl)), within_idle rs before (λ q i. idle q (inr i)))

-- ---- what such records leave as it is of a node

pub other_node : (n m : ℕ) → n ≢ m → (n == m) ≡ false
other_node n m ne = by (n == m) refl
  where
    by : (b : Bool) → (n == m) ≡ b → b ≡ false
    by false e = refl
    by true e = absurd (ne (eqb-true n m e))

inc_one : (m : ℕ) (r : Happened) (old : ℕ) → Elsewhere m r → inc_after m r old ≡ old
inc_one m (happened.Up n j) old ne = ap (λ b. if b then j else old) (other_node n m ne)
inc_one m _ old ne = refl

pub stay_elsewhere : (m : ℕ) (g : List ℕ) (r : Happened) (old : List Stay) → Elsewhere m r → stays_after m g r old ≡ old
stay_elsewhere m g (happened.Up n j) old ne = ap (λ b. if b then [] else old) (other_node n m ne)
stay_elsewhere m g (happened.Down n) old ne = ap (λ b. if b then [] else old) (other_node n m ne)
stay_elsewhere m g (happened.In n v ms) old ne =
    ap (λ b. if b then record { view = v; base = empty_state; entries = [] } ∷ old else old) (other_node n m ne)
stay_elsewhere m g (happened.Base n v h u len s) old ne =
    ap (λ b. if b && bytes_eq h g then with_base s old else old) (other_node n m ne)
stay_elsewhere m g (happened.Put n v h i e) old ne =
    ap (λ b. if b && bytes_eq h g then with_entry e old else old) (other_node n m ne)
stay_elsewhere m g _ old ne = refl

pub enters_elsewhere : (m : ℕ) (r : Happened) → Elsewhere m r → enters m r ≡ false
enters_elsewhere m (happened.In n v ms) ne = other_node n m ne
enters_elsewhere m _ ne = refl

pub inc_elsewhere : (m : ℕ) (rs xs : List Happened) → AllElsewhere m rs → inc_now m (rs ++ xs) ≡ inc_now m xs
inc_elsewhere m [] xs all = refl
inc_elsewhere m (r ∷ rs) xs all =
    inc_one m r (inc_now m (rs ++ xs)) (all r (inl refl)) ∙ inc_elsewhere m rs xs (λ q i. all q (inr i))

pub stays_elsewhere : (m : ℕ) (g : List ℕ) (rs xs : List Happened) → AllElsewhere m rs → stays m g (rs ++ xs) ≡ stays m g xs
stays_elsewhere m g [] xs all = refl
stays_elsewhere m g (r ∷ rs) xs all =
    stay_elsewhere m g r (stays m g (rs ++ xs)) (all r (inl refl)) ∙ stays_elsewhere m g rs xs (λ q i. all q (inr i))

-- ---- a node that has started

module _ (c : Config) (n j : ℕ) where
  abbrev rings : List Happened
  rings = map (ring_record n) (own_rings c c.mode n j)

  abbrev pub first_stay : Stay
  first_stay = record { view = first_view c c.mode n j; base = empty_state; entries = [] }

  abbrev entry : Happened
  entry = happened.In n (first_view c c.mode n j) (first_members c c.mode n j)

  started_records : (started c n j).records ≡ happened.Up n j ∷ rings ++ entry ∷ []
  unfolding started with_sessions
  started_records = refl

  pub started_turned : (xs : List Happened) → reverse (started c n j).records ++ xs ≡ entry ∷ reverse rings ++ happened.Up n j ∷ xs
  started_turned xs =
      ap (λ z. reverse z ++ xs) started_records ∙ ap (λ z. z ++ xs) (reverse-append (happened.Up n j ∷ []) (rings ++ entry ∷ []) ∙ ap (λ z. z ++ happened.Up n j ∷ []) (reverse-append rings (entry ∷ []))) ∙ ap (λ z. entry ∷ z) (append_assoc (reverse rings) (happened.Up n j ∷ []) xs)

  rings_elsewhere : (m : ℕ) → AllElsewhere m (reverse rings)
  unfolding ring_record
  rings_elsewhere m r i =
      let z = has_map (ring_record n) r (own_rings c c.mode n j) (has_reverse r rings i) in subst (Elsewhere m) (sym z.2) tt

  -- it is in this incarnation, and has one stay
  started_inc : (xs : List Happened) → inc_now n (reverse (started c n j).records ++ xs) ≡ j
  started_inc xs =
      ap (inc_now n) (started_turned xs) ∙ inc_elsewhere n (reverse rings) (happened.Up n j ∷ xs) (rings_elsewhere n) ∙ ap (λ b. if b then j else inc_now n xs) (eq-eqb n n refl)

  started_stays : (g : List ℕ) (xs : List Happened) → stays n g (reverse (started c n j).records ++ xs) ≡ first_stay ∷ []
  started_stays g xs =
      ap (stays n g) (started_turned xs) ∙ ap (λ b. if b then first_stay ∷ stays n g (reverse rings ++ happened.Up n j ∷ xs) else stays n g (reverse rings ++ happened.Up n j ∷ xs)) (eq-eqb n n refl) ∙ ap (λ z. first_stay ∷ z) (stays_elsewhere n g (reverse rings) (happened.Up n j ∷ xs) (rings_elsewhere n) ∙ ap (λ b. if b then [] else stays n g xs) (eq-eqb n n refl))

-- among the records of an event are those of its start, and the others are not of it
pub record Came (c : Config) (m j : ℕ) (rs : List Happened) : Type 0 where
  pub later : List Happened
  pub first : List Happened
  pub is : rs ≡ later ++ (reverse (started c m j).records ++ first)
  pub after : AllElsewhere m later
  pub before : AllElsewhere m first

-- more is recorded, and not of it
pub came_more : (c : Config) (m j : ℕ) (new rs : List Happened) → AllElsewhere m new → Came c m j rs → Came c m j (new ++ rs)
came_more c m j new rs all k =
    record {
      later = new ++ k.later;
      first = k.first;
      is = ap (λ l. new ++ l) k.is ∙ sym (append_assoc new k.later (reverse (started c m j).records ++ k.first));
      after = λ r i. ⊎_elim (λ (a : Has r new). all r a) (λ (a : Has r k.later). k.after r a) (has_append r new k.later i);
      before = k.before;
    }

module _ (c : Config) (m j : ℕ) (rs : List Happened) (k : Came c m j rs) where
  pub came_is : (xs : List Happened) → rs ++ xs ≡ k.later ++ (reverse (started c m j).records ++ (k.first ++ xs))
  came_is xs =
      ap (λ l. l ++ xs) k.is ∙ append_assoc k.later (reverse (started c m j).records ++ k.first) xs ∙ ap (λ l. k.later ++ l) (append_assoc (reverse (started c m j).records) k.first xs)

  pub came_inc : (xs : List Happened) → inc_now m (rs ++ xs) ≡ j
  came_inc xs =
      ap (inc_now m) (came_is xs) ∙ inc_elsewhere m k.later (reverse (started c m j).records ++ (k.first ++ xs)) k.after ∙ started_inc c m j (k.first ++ xs)

  pub came_stays : (g : List ℕ) (xs : List Happened) → stays m g (rs ++ xs) ≡ first_stay c m j ∷ []
  came_stays g xs =
      ap (stays m g) (came_is xs) ∙ stays_elsewhere m g k.later (reverse (started c m j).records ++ (k.first ++ xs)) k.after ∙ started_stays c m j g (k.first ++ xs)
