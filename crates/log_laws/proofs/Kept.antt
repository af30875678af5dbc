-- What logs keep of records: what is there, what was put and heard, and where nodes are.
use Rattle.std.proofs.Common.{◌≡◌, ◌≢◌, ◌<◌, ℕ, ◌⊎◌, ⊎_elim, inl, inr, refl, sym, ap, ◌∙◌, subst, true, false, List, [], ◌∷◌, Option, Some, None, arith}
use Rattle.std.specs.Prelude.{◌==◌, take, if◌then◌else◌}
use Rattle.std.proofs.lemmas.Bool.{cases_eq, eq-eqb, ne_eqb}
use Rattle.rsct_packet.specs.declared.ids.Member.{Member}
use Rattle.rsct_packet.specs.declared.ids.ProviderId.{ProviderId}
use Rattle.rsct_packet.specs.declared.ids.RingId.{RingId}
use Rattle.rsct_packet.specs.declared.ids.ViewId.{ViewId}
use Rattle.rsct_packet.specs.declared.mask.Mask.{Mask}
use Rattle.rsct_packet.specs.Search.{Has}
use Rattle.proposal_core.specs.declared.entry.Entry.{Entry}
use Rattle.proposal_core.specs.declared.group_state.GroupState.{GroupState}
use Rattle.proposal_core.specs.Fold.{empty_state}
use Rattle.node_state.specs.declared.happened.Happened.{Happened}
use Rattle.node_state.specs.declared.happened.Happened.TheVariants.{Up, Down, Ring, In}
use Rattle.run_safety.specs.Past.{inc_now, inc_after, view_now, place_after, puts_of, puts_after, base_of, base_after, fold_from, state_at, state_now}
use Rattle.run_safety.specs.Stays.{stays, stays_after}
use Rattle.run_safety.specs.SafeHeard.{latest_put, put_after, heard_count}
use Rattle.run_safety.specs.SafeHeard as safe
use Rattle.row_laws.specs.hearing.Hearing.{last_heard}
use Rattle.row_laws.specs.hearing.Hearing as hearing
use Rattle.run_laws.specs.seen_runs.Seen.{WasTold}
use Rattle.log_laws.specs.Logs.{is_up, up_after, IsLeftOut, Logs, Nothing, Writes, LeavesOut}

-- ---- what is there

-- what logs have was recorded
pub was_recorded : (rs ls : List Happened) → Logs rs ls → (x : Happened) → Has x ls → Has x rs
was_recorded _ _ Nothing x h = h
was_recorded _ _ (Writes r rs ls k a) x (inl e) = inl e
was_recorded _ _ (Writes r rs ls k a) x (inr h) = inr (was_recorded rs ls k x h)
was_recorded _ _ (LeavesOut r rs ls k o) x h = inr (was_recorded rs ls k x h)

-- a record of what no life that is left out does
abbrev pub IsWork : Happened → Type 0
IsWork (Up n j) = ⊥
IsWork (Down n) = ⊥
IsWork (Ring n network id ms b) = ⊥
IsWork (In n v ms) = ⊥
IsWork _ = Unit {0}

pub not_left_out : (rs ls : List Happened) (r : Happened) → IsLeftOut rs ls r → IsWork r → ⊥
not_left_out rs ls (Up n j) o w = w
not_left_out rs ls (Down n) o w = w
not_left_out rs ls (Ring n network id ms b) o w = w
not_left_out rs ls (In n v ms) o w = w
not_left_out rs ls _ o w = o

-- which logs have
pub work_logged : (rs ls : List Happened) → Logs rs ls → (x : Happened) → IsWork x → Has x rs → Has x ls
work_logged _ _ Nothing x w h = h
work_logged _ _ (Writes r rs ls k a) x w (inl e) = inl e
work_logged _ _ (Writes r rs ls k a) x w (inr h) = inr (work_logged rs ls k x w h)
work_logged _ _ (LeavesOut r rs ls k o) x w (inl e) = absurd (not_left_out rs ls x (subst (IsLeftOut rs ls) (sym e) o) w)
work_logged _ _ (LeavesOut r rs ls k o) x w (inr h) = work_logged rs ls k x w h

-- a view is entered in the logs, or is one of a node alone that they leave out
pub entered_or_alone : (rs ls : List Happened) → Logs rs ls → (n : ℕ) (v : ViewId) (ms : List Member) → Has (In n v ms) rs → Has (In n v ms) ls ⊎ ((j : ℕ) × (ms ≡ record { node = n; inc = j } ∷ []))
entered_or_alone _ _ Nothing n v ms h = absurd h
entered_or_alone _ _ (Writes r rs ls k a) n v ms (inl e) = inl (inl e)
entered_or_alone _ _ (Writes r rs ls k a) n v ms (inr h) =
    ⊎_elim (λ (q : Has (In n v ms) ls). inl (inr q)) (λ (q : (j : ℕ) × (ms ≡ record { node = n; inc = j } ∷ [])). inr q) (entered_or_alone rs ls k n v ms h)
entered_or_alone _ _ (LeavesOut r rs ls k o) n v ms (inl e) = inr (inc_now n rs, (subst (IsLeftOut rs ls) (sym e) o).1)
entered_or_alone _ _ (LeavesOut r rs ls k o) n v ms (inr h) = entered_or_alone rs ls k n v ms h

-- who was told by the logs was told
pub told_before : (rs ls : List Happened) → Logs rs ls → (p : ProviderId) (r : ℕ) → WasTold p r ls → WasTold p r rs
told_before _ _ Nothing p r h = h
told_before _ _ (Writes x rs ls k a) p r (inl t) = inl t
told_before _ _ (Writes x rs ls k a) p r (inr h) = inr (told_before rs ls k p r h)
told_before _ _ (LeavesOut x rs ls k o) p r h = inr (told_before rs ls k p r h)

-- ---- what was put and heard

-- what goes along the records, and what is left out does not change, is the same along the logs
along : {A : Type 0} (f : List Happened → A) (step : Happened → A → A) → ((r : Happened) (rs : List Happened) → f (r ∷ rs) ≡ step r (f rs)) → ((rs ls : List Happened) (r : Happened) → IsLeftOut rs ls r → (a : A) → step r a ≡ a)
    → (rs ls : List Happened) → Logs rs ls → f rs ≡ f ls
along f step goes still _ _ Nothing = refl
along f step goes still _ _ (Writes r rs ls k a) = goes r rs ∙ ap (step r) (along f step goes still rs ls k) ∙ sym (goes r ls)
along f step goes still _ _ (LeavesOut r rs ls k o) = goes r rs ∙ still rs ls r o (f rs) ∙ along f step goes still rs ls k

module _ (rs ls : List Happened) (k : Logs rs ls) where
  pub same_puts : (n : ℕ) (v : ViewId) (g : List ℕ) → puts_of n v g rs ≡ puts_of n v g ls
  same_puts n v g = along (puts_of n v g) (puts_after n v g) (λ r rs. refl) still rs ls k
    where
      still : (rs ls : List Happened) (r : Happened) → IsLeftOut rs ls r → (a : List Entry) → puts_after n v g r a ≡ a
      still rs ls (Up m j) o a = refl
      still rs ls (Down m) o a = refl
      still rs ls (Ring m network id ms b) o a = refl
      still rs ls (In m u ms) o a = refl
      still rs ls _ o a = absurd o

  pub same_base : (n : ℕ) (v : ViewId) (g : List ℕ) → base_of n v g rs ≡ base_of n v g ls
  same_base n v g = along (base_of n v g) (base_after n v g) (λ r rs. refl) still rs ls k
    where
      still : (rs ls : List Happened) (r : Happened) → IsLeftOut rs ls r → (a : GroupState) → base_after n v g r a ≡ a
      still rs ls (Up m j) o a = refl
      still rs ls (Down m) o a = refl
      still rs ls (Ring m network id ms b) o a = refl
      still rs ls (In m u ms) o a = refl
      still rs ls _ o a = absurd o

  pub same_latest : (n : ℕ) (v : ViewId) (g : List ℕ) → latest_put n v g rs ≡ latest_put n v g ls
  same_latest n v g = along (latest_put n v g) (put_after n v g) (λ r rs. refl) still rs ls k
    where
      still : (rs ls : List Happened) (r : Happened) → IsLeftOut rs ls r → (a : Option (ℕ × Entry)) → put_after n v g r a ≡ a
      still rs ls (Up m j) o a = refl
      still rs ls (Down m) o a = refl
      still rs ls (Ring m network id ms b) o a = refl
      still rs ls (In m u ms) o a = refl
      still rs ls _ o a = absurd o

  pub same_count : (p : ProviderId) (v : ViewId) (g : List ℕ) → heard_count p v g rs ≡ heard_count p v g ls
  same_count p v g = along (heard_count p v g) (safe.heard_after p v g) (λ r rs. refl) still rs ls k
    where
      still : (rs ls : List Happened) (r : Happened) → IsLeftOut rs ls r → (a : ℕ) → safe.heard_after p v g r a ≡ a
      still rs ls (Up m j) o a = refl
      still rs ls (Down m) o a = refl
      still rs ls (Ring m network id ms b) o a = refl
      still rs ls (In m u ms) o a = refl
      still rs ls _ o a = absurd o

  pub same_heard : (p : ProviderId) (v : ViewId) (g : List ℕ) → last_heard p v g rs ≡ last_heard p v g ls
  same_heard p v g = along (last_heard p v g) (hearing.heard_after p v g) (λ r rs. refl) still rs ls k
    where
      still : (rs ls : List Happened) (r : Happened) → IsLeftOut rs ls r → (a : Option ℕ) → hearing.heard_after p v g r a ≡ a
      still rs ls (Up m j) o a = refl
      still rs ls (Down m) o a = refl
      still rs ls (Ring m network id ms b) o a = refl
      still rs ls (In m u ms) o a = refl
      still rs ls _ o a = absurd o

  pub same_state_at : (n : ℕ) (v : ViewId) (g : List ℕ) (i : ℕ) → state_at n v g i rs ≡ state_at n v g i ls
  same_state_at n v g i = ap (λ (z : GroupState × List Entry). fold_from v z.0 0 (take i z.1)) (λ t. (same_base n v g t, same_puts n v g t))

  pub same_state : (n : ℕ) (v : ViewId) (g : List ℕ) → state_now n v g rs ≡ state_now n v g ls
  same_state n v g = ap (λ (z : GroupState × List Entry). fold_from v z.0 0 z.1) (λ t. (same_base n v g t, same_puts n v g t))

-- ---- where a node is

pub if_same : {A : Type 0} (m n : ℕ) (x y : A) → m ≡ n → (if m == n then x else y) ≡ x
if_same m n x y e = ap (λ b. if b then x else y) (eq-eqb m n e)

pub if_other : {A : Type 0} (m n : ℕ) (x y : A) → m ≢ n → (if m == n then x else y) ≡ y
if_other m n x y ne = ap (λ b. if b then x else y) (ne_eqb m n ne)

-- what a node's life, from its start on, makes of it: it begins with the same each time, and what other nodes do does not change it
record OfLife {A : Type 0} (n : ℕ) (f : List Happened → A) (step : Happened → A → A) : Type 0 where
  goes : (r : Happened) (rs : List Happened) → f (r ∷ rs) ≡ step r (f rs)
  begins : A
  starts : (m j : ℕ) (a : A) → m ≡ n → step (Up m j) a ≡ begins
  starts_other : (m j : ℕ) (a : A) → m ≢ n → step (Up m j) a ≡ a
  stops_other : (m : ℕ) (a : A) → m ≢ n → step (Down m) a ≡ a
  enters_other : (m : ℕ) (v : ViewId) (ms : List Member) (a : A) → m ≢ n → step (In m v ms) a ≡ a
  rings : (m network : ℕ) (id : RingId) (ms : Mask) (b : ℕ) (a : A) → step (Ring m network id ms b) a ≡ a

-- it is the same along the logs where the node is up, in the incarnation that it has by them
in_life : {A : Type 0} (n : ℕ) (f : List Happened → A) (step : Happened → A → A) → OfLife n f step → (rs ls : List Happened) → Logs rs ls → is_up n rs ≡ true → inc_now n rs ≡ inc_now n ls → f rs ≡ f ls
in_life n f step l _ _ Nothing up same = refl
in_life {A} n f step l _ _ (Writes r rs ls k a) up same =
    l.goes r rs ∙ by r up same (λ u s. in_life n f step l rs ls k u s) ∙ sym (l.goes r ls)
  where
    Older : Type 0
    Older = is_up n rs ≡ true → inc_now n rs ≡ inc_now n ls → f rs ≡ f ls

    by : (r : Happened) → up_after n r (is_up n rs) ≡ true → inc_after n r (inc_now n rs) ≡ inc_after n r (inc_now n ls) → Older → step r (f rs) ≡ step r (f ls)
    by (Up m j) up same older = elim (cases_eq m n) [
      | inl e ↦ l.starts m j (f rs) e ∙ sym (l.starts m j (f ls) e)
      | inr ne ↦ ap (step (Up m j)) (older (sym (if_other m n true (is_up n rs) ne) ∙ up) (sym (if_other m n j (inc_now n rs) ne) ∙ same ∙ if_other m n j (inc_now n ls) ne))
    ]
    by (Down m) up same older = elim (cases_eq m n) [
      | inl e ↦ absurd (let z : false ≡ true = sym (if_same m n false (is_up n rs) e) ∙ up in cc)
      | inr ne ↦ ap (step (Down m)) (older (sym (if_other m n false (is_up n rs) ne) ∙ up) same)
    ]
    by r up same older = ap (step r) (older up same)
in_life {A} n f step l _ _ (LeavesOut r rs ls k o) up same = l.goes r rs ∙ by r o up same (λ u s. in_life n f step l rs ls k u s)
  where
    Older : Type 0
    Older = is_up n rs ≡ true → inc_now n rs ≡ inc_now n ls → f rs ≡ f ls

    by : (r : Happened) → IsLeftOut rs ls r → up_after n r (is_up n rs) ≡ true → inc_after n r (inc_now n rs) ≡ inc_now n ls → Older → step r (f rs) ≡ f ls
    by (Up m j) o up same older = elim (cases_eq m n) [
      | inl e ↦ absurd (let less : inc_now n ls < j = subst (λ i. inc_now i ls < j) e o in let z : j ≡ inc_now n ls = sym (if_same m n j (inc_now n rs) e) ∙ same in omega (arith, less, z))
      | inr ne ↦ l.starts_other m j (f rs) ne ∙ older (sym (if_other m n true (is_up n rs) ne) ∙ up) (sym (if_other m n j (inc_now n rs) ne) ∙ same)
    ]
    by (Down m) o up same older = elim (cases_eq m n) [
      | inl e ↦ absurd (let z : false ≡ true = sym (if_same m n false (is_up n rs) e) ∙ up in cc)
      | inr ne ↦ l.stops_other m (f rs) ne ∙ older (sym (if_other m n false (is_up n rs) ne) ∙ up) same
    ]
    by (Ring m network id ms b) o up same older = l.rings m network id ms b (f rs) ∙ older up same
    by (In m v ms) o up same older = elim (cases_eq m n) [
      | inl e ↦ absurd (let less : inc_now n ls < inc_now n rs = subst (λ i. inc_now i ls < inc_now i rs) e o.0 in omega (arith, less, same))
      | inr ne ↦ l.enters_other m v ms (f rs) ne ∙ older up same
    ]
    by _ o up same older = absurd o

module _ (rs ls : List Happened) (k : Logs rs ls) (n : ℕ) (up : is_up n rs ≡ true) (same : inc_now n rs ≡ inc_now n ls) where
  -- the view that it is in
  pub same_view_now : view_now n rs ≡ view_now n ls
  same_view_now = in_life n (view_now n) (place_after n) life rs ls k up same
    where
      life : OfLife n (view_now n) (place_after n)
      life = record {
        goes = λ r rs. refl;
        begins = None;
        starts = λ m j a e. if_same m n None a e;
        starts_other = λ m j a ne. if_other m n None a ne;
        stops_other = λ m a ne. if_other m n None a ne;
        enters_other = λ m v ms a ne. if_other m n (Some v) a ne;
        rings = λ m network id ms b a. refl;
      }

  -- and its stays since it started
  pub same_stays : (g : List ℕ) → stays n g rs ≡ stays n g ls
  same_stays g = in_life n (stays n g) (stays_after n g) life rs ls k up same
    where
      life : OfLife n (stays n g) (stays_after n g)
      life = record {
        goes = λ r rs. refl;
        begins = [];
        starts = λ m j a e. if_same m n [] a e;
        starts_other = λ m j a ne. if_other m n [] a ne;
        stops_other = λ m a ne. if_other m n [] a ne;
        enters_other = λ m v ms a ne. if_other m n (record { view = v; base = empty_state; entries = [] } ∷ a) a ne;
        rings = λ m network id ms b a. refl;
      }

  -- and that it is up
  pub same_up : is_up n rs ≡ is_up n ls
  same_up = in_life n (is_up n) (up_after n) life rs ls k up same
    where
      life : OfLife n (is_up n) (up_after n)
      life = record {
        goes = λ r rs. refl;
        begins = true;
        starts = λ m j a e. if_same m n true a e;
        starts_other = λ m j a ne. if_other m n true a ne;
        stops_other = λ m a ne. if_other m n false a ne;
        enters_other = λ m v ms a ne. refl;
        rings = λ m network id ms b a. refl;
      }
