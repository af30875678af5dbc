-- What a part of a step adds, and how parts come one after another.
use Rattle.std.proofs.Common.{◌≡◌, ◌≤◌, ◌<◌, ◌⊎◌, ℕ, ◌+◌, ◌*◌, List, [], ◌∷◌, ◌++◌, length, fold, Some, None, Option, true, refl, sym, ap, ◌∙◌, subst, inl, inr, arith, length-append}
use Rattle.std.specs.Prelude.{is_some}
use Rattle.std.proofs.Math.Nat.{mul-suc, mul-zero}
use Rattle.std.proofs.lemmas.List.{nil_from_length}
use Rattle.rsct_packet.specs.Search.{Has}
use Rattle.rsct_packet.proofs.HasLaws.{has_append}
use Rattle.proposal_core.specs.Lists.{state_in}
use Rattle.session_state.specs.declared.state.SessionState.{SessionState}
use Rattle.node_state.specs.declared.group.GroupRow.{GroupRow}
use Rattle.node_state.specs.declared.group.Led.{Led}
use Rattle.node_state.specs.declared.happened.Happened.{Happened}
use Rattle.node_state.specs.declared.packet.Body.{Body}
use Rattle.node_state.specs.declared.packet.Packet.{Packet}
use Rattle.node_state.specs.declared.state.Core.{Core}
use Rattle.node_state.specs.State.{row_of, with_row, with_led, led_of, list_of, state_of, recorded, recorded_all, with_sessions}
use Rattle.node_state.specs.Sending.{send_on, sent, send_all, send_if_known, packet_on}
use Rattle.node_state.proofs.NameOrder.{KeepsName, cases_text, row_here, row_there, rows_ordered}
use Rattle.send_laws.specs.Bound.{puts_of, Room, Stands, Within}
use Rattle.send_laws.specs.Lasting.{WaitsFew, FewBody, FewSent, Lasting}
use Rattle.send_laws.proofs.Counts.{joins_in, puts_both, waits_with}

-- from one state to another in the same view
pub record Goes (c : ℕ) (s t : Core) : Type 0 where
  pub within : Within c s t
  pub stands : Stands t
  pub views : t.views ≡ s.views
  pub config : t.config ≡ s.config
  pub lasts : Lasting s → Lasting t

pub goes_same : (s : Core) → Stands s → Goes 0 s s
goes_same s k = record { within = omega arith; stands = k; views = refl; config = refl; lasts = λ h. h }

pub goes_then : (a b : ℕ) (s t u : Core) → Goes a s t → Goes b t u → Goes (a + b) s u
goes_then a b s t u x y =
    record { within = omega (arith, x.within, y.within); stands = y.stands; views = y.views ∙ x.views; config = y.config ∙ x.config; lasts = λ h. y.lasts (x.lasts h) }

pub goes_more : (a b : ℕ) (s t : Core) → a ≤ b → Goes a s t → Goes b s t
goes_more a b s t le x = record { within = omega (arith, x.within, le); stands = x.stands; views = x.views; config = x.config; lasts = x.lasts }

-- at no cost
pub then_free : (a : ℕ) (s t u : Core) → Goes a s t → Goes 0 t u → Goes a s u
then_free a s t u x y = goes_more (a + 0) a s u (omega arith) (goes_then a 0 s t u x y)

pub free_then : (a : ℕ) (s t u : Core) → Goes 0 s t → Goes a t u → Goes a s u
free_then a s t u x y = goes_more (0 + a) a s u (omega arith) (goes_then 0 a s t u x y)

abbrev pub times : {A : Type 0} → ℕ → List A → ℕ
times c [] = 0
times c (x ∷ xs) = c + times c xs

pub goes_fold : {A : Type 0} (c : ℕ) (f : Core → A → Core) → ((s : Core) (x : A) → Stands s → Goes c s (f s x)) → (xs : List A) (s : Core) → Stands s → Goes (times c xs) s (fold f s xs)
goes_fold c f one [] s k = goes_same s k
goes_fold c f one (x ∷ xs) s k =
    let a : Goes c s (f s x) = one s x k in goes_then c (times c xs) s (f s x) (fold f (f s x) xs) a (goes_fold c f one xs (f s x) a.stands)

pub times_each : {A : Type 0} (c : ℕ) (xs : List A) → times c xs ≡ c * length xs
times_each c [] = sym (mul-zero c)
times_each c (x ∷ xs) = omega (arith, times_each c xs, mul-suc c (length xs))

times_none : {A : Type 0} (xs : List A) → times 0 xs ≡ 0
times_none xs = omega (arith, times_each 0 xs)

times_one : {A : Type 0} (xs : List A) → times 1 xs ≡ length xs
times_one xs = omega (arith, times_each 1 xs)

pub fold_free : {A : Type 0} (f : Core → A → Core) → ((s : Core) (x : A) → Stands s → Goes 0 s (f s x)) → (xs : List A) (s : Core) → Stands s → Goes 0 s (fold f s xs)
fold_free f one xs s k = subst (λ c. Goes c s (fold f s xs)) (times_none xs) (goes_fold 0 f one xs s k)

pub fold_each : {A : Type 0} (f : Core → A → Core) → ((s : Core) (x : A) → Stands s → Goes 1 s (f s x)) → (xs : List A) (s : Core) → Stands s → Goes (length xs) s (fold f s xs)
fold_each f one xs s k = subst (λ c. Goes c s (fold f s xs)) (times_one xs) (goes_fold 1 f one xs s k)

-- ---- rows

row_room : (s : Core) (g : List ℕ) (f : GroupRow → GroupRow) → KeepsName f → Stands s → Room (state_in (f (row_of s g)).list) → (h : List ℕ) → Room (state_of (with_row s g f) h)
unfolding state_of list_of
row_room s g f keeps k room h = by (cases_text g h)
  where
    by : (g ≡ h) ⊎ (g ≡ h → ⊥) → Room (state_of (with_row s g f) h)
    by (inl q) =
        subst (λ z. Room (state_of (with_row s g f) z)) q (subst (λ (r : GroupRow). Room (state_in r.list)) (sym (row_here g f keeps s k.order)) room)
    by (inr ne) = subst (λ (r : GroupRow). Room (state_in r.list)) (sym (row_there g f keeps s h ne)) (k.room h)

row_waits : (s : Core) (g : List ℕ) (f : GroupRow → GroupRow) → KeepsName f → Stands s → WaitsFew (f (row_of s g)) → ((h : List ℕ) → WaitsFew (row_of s h)) → (h : List ℕ) → WaitsFew (row_of (with_row s g f) h)
row_waits s g f keeps k new all h = by (cases_text g h)
  where
    by : (g ≡ h) ⊎ (g ≡ h → ⊥) → WaitsFew (row_of (with_row s g f) h)
    by (inl q) = subst (λ z. WaitsFew (row_of (with_row s g f) z)) q (subst WaitsFew (sym (row_here g f keeps s k.order)) new)
    by (inr ne) = subst WaitsFew (sym (row_there g f keeps s h ne)) (all h)

-- a row changes
pub goes_row : (c : ℕ) (s : Core) (g : List ℕ) (f : GroupRow → GroupRow) → KeepsName f → Stands s → joins_in (f (row_of s g)) ≤ joins_in (row_of s g) + c → Room (state_in (f (row_of s g)).list) → (WaitsFew (row_of s g) → WaitsFew (f (row_of s g))) → Goes c s (with_row s g f)
unfolding row_of with_row
goes_row c s g f keeps k few room waits =
    record {
      within = omega (arith, waits_with g f s.groups k.order, few);
      stands = record { few = k.few; order = rows_ordered g f keeps s k.order; room = row_room s g f keeps k room };
      views = refl;
      config = refl;
      lasts = λ h. record { rings = h.rings; waits = row_waits s g f keeps k (waits (h.waits g)) h.waits; views = h.views; sent = h.sent };
    }

-- no join comes to wait
pub fewer_wait : (row new : GroupRow) → new.leader ≡ row.leader → length new.led.waiting.joins ≤ length row.led.waiting.joins → WaitsFew row → WaitsFew new
fewer_wait row new same few w = record { few = omega (arith, few, w.few); known = by w.known }
  where
    by : (row.led.waiting.joins ≡ []) ⊎ (is_some row.leader ≡ true) → (new.led.waiting.joins ≡ []) ⊎ (is_some new.leader ≡ true)
    by (inl e) =
        let z : length row.led.waiting.joins ≡ 0 = ap length e in inl (nil_from_length new.led.waiting.joins (omega (arith, few, z)))
    by (inr e) = inr (subst (λ o. is_some o ≡ true) (sym same) e)

-- what is led changes
pub goes_led : (s : Core) (g : List ℕ) (change : Led → Led) → Stands s → length (change (led_of s g)).waiting.joins ≤ length (led_of s g).waiting.joins → Goes 0 s (with_led s g change)
unfolding with_led led_of state_of list_of
goes_led s g change k few =
    goes_row 0 s g (λ row. record row { led = change row.led }) (λ x. refl) k (omega (arith, few)) (k.room g) (fewer_wait (row_of s g) (record (row_of s g) { led = change (row_of s g).led }) refl few)

-- a join comes to wait, where a leader is known
pub goes_joined : (s : Core) (g : List ℕ) (change : Led → Led) → Stands s → length (change (led_of s g)).waiting.joins ≤ length (led_of s g).waiting.joins + 1 → length (led_of s g).waiting.joins < 64 → is_some (row_of s g).leader ≡ true → Goes 1 s (with_led s g change)
unfolding with_led led_of state_of list_of
goes_joined s g change k few less known =
    goes_row 1 s g (λ row. record row { led = change row.led }) (λ x. refl) k few (k.room g) (λ w. record { few = omega (arith, few, less); known = inr known })

-- ---- packets and records

-- one packet more
pub sent_few : (ps : List Packet) (q : Packet) → FewBody q.body → FewSent ps → FewSent (ps ++ q ∷ [])
sent_few ps q few all p h = by (has_append p ps (q ∷ []) h)
  where
    last : Has p (q ∷ []) → FewBody p.body
    last (inl e) = subst (λ (z : Packet). FewBody z.body) (sym e) few
    last (inr z) = absurd z

    by : Has p ps ⊎ Has p (q ∷ []) → FewBody p.body
    by (inl i) = all p i
    by (inr i) = last i

pub goes_sent_on : (s : Core) (network to : ℕ) (b : Body) → FewBody b → Stands s → Goes 1 s (send_on s network to b)
unfolding send_on packet_on state_of list_of row_of
goes_sent_on s network to b few k =
    record {
      within = omega (arith, length-append s.sends (packet_on s network to b ∷ []));
      stands = record { few = k.few; order = k.order; room = k.room };
      views = refl;
      config = refl;
      lasts = λ h. record { rings = h.rings; waits = h.waits; views = h.views; sent = sent_few s.sends (packet_on s network to b) few h.sent };
    }

pub goes_sent : (s : Core) (to : ℕ) (b : Body) → FewBody b → Stands s → Goes 1 s (sent s to b)
unfolding sent
goes_sent s to b few k = goes_sent_on s _ to b few k

pub goes_sent_all : (ns : List ℕ) (s : Core) (b : Body) → FewBody b → Stands s → Goes (length ns) s (send_all s ns b)
unfolding send_all
goes_sent_all ns s b few k = fold_each (λ t n. sent t n b) (λ t n h. goes_sent t n b few h) ns s k

pub goes_sent_if : (s : Core) (to : Option ℕ) (b : Body) → FewBody b → Stands s → Goes 1 s (send_if_known s to b)
unfolding send_if_known
goes_sent_if s None b few k = goes_more 0 1 s s (omega arith) (goes_same s k)
goes_sent_if s (Some n) b few k = goes_sent s n b few k

-- records that are no puts
pub goes_recorded_all : (s : Core) (rs : List Happened) → puts_of rs ≡ 0 → Stands s → Goes 0 s (recorded_all s rs)
unfolding recorded_all state_of list_of row_of
goes_recorded_all s rs none k =
    record {
      within = omega (arith, puts_both s.records rs, none);
      stands = record { few = k.few; order = k.order; room = k.room };
      views = refl;
      config = refl;
      lasts = λ h. record { rings = h.rings; waits = h.waits; views = h.views; sent = h.sent };
    }

pub goes_recorded : (s : Core) (r : Happened) → puts_of (r ∷ []) ≡ 0 → Stands s → Goes 0 s (recorded s r)
unfolding recorded recorded_all
goes_recorded s r none k = goes_recorded_all s (r ∷ []) none k

pub goes_sessions : (s : Core) (x : SessionState) → Stands s → Goes 0 s (with_sessions s x)
unfolding with_sessions state_of list_of row_of
goes_sessions s x k =
    record {
      within = omega arith;
      stands = record { few = k.few; order = k.order; room = k.room };
      views = refl;
      config = refl;
      lasts = λ h. record { rings = h.rings; waits = h.waits; views = h.views; sent = h.sent };
    }
