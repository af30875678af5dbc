-- What a try to begin something in a group leaves: its list has grown, less waits there, or nothing more begins there.
use Rattle.std.proofs.Common.{◌≡◌, ◌≤◌, ◌<◌, ◌⊎◌, ℕ, zero, suc, ◌+◌, List, [], ◌∷◌, length, Option, Some, None, Bool, true, false, refl, sym, ap, ◌∙◌, subst, inl, inr, arith}
use Rattle.std.specs.Prelude.{filter}
use Rattle.std.specs.Option.{option_map}
use Rattle.rsct_packet.specs.declared.ids.ProviderId.{ProviderId}
use Rattle.rsct_packet.specs.Lists.{is_empty}
use Rattle.rsct_packet.specs.Providers.{among}
use Rattle.group_attr.specs.declared.attrs.Phases.{Phases}
use Rattle.group_attr.specs.declared.attrs.Phases.TheVariants.{One, Many}
use Rattle.proposal_core.specs.declared.proposal.Failure.{Failure}
use Rattle.proposal_core.specs.declared.proposal.Proposal.{Proposal}
use Rattle.proposal_core.specs.declared.proposal.Proposal.TheVariants.{Fail, Reflect}
use Rattle.proposal_core.specs.declared.entry.Entry.{Entry}
use Rattle.proposal_core.specs.declared.entry.Entry.TheVariants.{Once, Begin}
use Rattle.proposal_core.specs.declared.group_state.GroupState.{GroupState}
use Rattle.proposal_core.specs.GroupView.{GroupView}
use Rattle.proposal_core.specs.Lists.{list_or_new, len_in, entry_fits, with_entry}
use Rattle.batch_rules.specs.Waiting.{WaitingView, batches_failures, chosen_of, left_of, next_failures, failures_left}
use Rattle.source_target.specs.declared.Due.{Due}
use Rattle.source_target.specs.declared.Due.TheVariants as due
use Rattle.source_target.specs.Due as target
use Rattle.client_callbacks.specs.declared.told.Why.{Why}
use Rattle.client_callbacks.specs.declared.told.Why.TheVariants.{NoSource}
use Rattle.node_state.specs.declared.group.GroupRow.{GroupRow}
use Rattle.node_state.specs.declared.group.Led.{Led}
use Rattle.node_state.specs.declared.packet.Body.{Body}
use Rattle.node_state.specs.declared.packet.Body.TheVariants as body
use Rattle.node_state.specs.declared.state.Core.{Core}
use Rattle.node_state.specs.State.{row_of, with_row, with_led, led_of, list_of, state_of, len_of, fits_at_end, others, least_acked, leader_of, decisions_with, recorded}
use Rattle.node_state.specs.Sending.{send_on, sent, send_all, network_to}
use Rattle.node_state.specs.HandOn.{Answering}
use Rattle.node_state.specs.Leading.{put, with_waiting, appended, append_if_fits, tally_opened, closes, begin_many, begins}
use Rattle.node_state.specs.Deciding.{keep_decision, refused, source_len}
use Rattle.node_state.specs.Ending.{Pass, begun_now, failures_begin, source_refused, may_begin}
use Rattle.node_state.proofs.NameOrder.{cases_text, row_here, row_there}
use Rattle.step_walk.proofs.Waiting.{MildWaits, failures_few}
use Rattle.step_walk.proofs.Parts.{on_handing}
use Rattle.step_walk.proofs.Leading.{on_sent_all, on_rest_handed, on_forgets_least, on_new_members, on_opened, on_closes}
use Rattle.provider_laws.proofs.resting.Orderly.{Orderly, MildLed}
use Rattle.provider_laws.proofs.resting.Growing.{led_grows}
use Rattle.provider_laws.proofs.resting.Onward.{IsNamed, Onward, self, onward_then, named_on, onward_alike, onward_row, onward_parts, keeps_onward}

-- ---- what rests

abbrev pub fit_of : GroupView → Proposal → Phases → Bool
fit_of l x One = entry_fits l (Once x)
fit_of l x Many = entry_fits l (Begin x)

abbrev pub lists_of : Core → List ℕ → Option GroupView
lists_of s h = (row_of s h).list

-- whether what is due fits
abbrev pub due_fits : (List ℕ → Option GroupView) → List ℕ → GroupState → List ℕ → Due → Bool
due_fits ls g st h (due.CastOut out) = fit_of (list_or_new (ls g)) (Fail (chosen_of (batches_failures st.attrs.batch) out)) st.attrs.phases
due_fits ls g st h (due.Reflect v i) = fit_of (list_or_new (ls g)) (Reflect v i (list_or_new (ls h)).state.value) st.attrs.source_phases

-- nothing is due and no join waits, or what is due does not fit
abbrev pub SettledDue : (List ℕ → Option GroupView) → List ℕ → GroupState → List ProviderId → List ℕ → Option Due → Type 0
SettledDue ls g st js h None = js ≡ []
SettledDue ls g st js h (Some d) = due_fits ls g st h d ≡ false

abbrev pub SettledBy : (List ℕ → Option GroupView) → List ℕ → GroupState → List ProviderId → Option (List ℕ) → Type 0
SettledBy ls g st js None = js ≡ []
SettledBy ls g st js (Some h) = SettledDue ls g st js h (target.due st (option_map (λ (l : GroupView). l.state) (ls h)))

abbrev pub Settled : (List ℕ → Option GroupView) → List ℕ → List ProviderId → Type 0
Settled ls g js = SettledBy ls g (list_or_new (ls g)).state js (list_or_new (ls g)).state.attrs.source

abbrev pub RestIn : (List ℕ → Option GroupView) → List ℕ → WaitingView → Type 0
RestIn ls g w = may_begin (list_or_new (ls g)) ≡ true → (w.failures ≡ []) × Settled ls g w.joins

-- nothing more begins in the group
abbrev pub Rest : Core → List ℕ → Type 0
Rest s g = RestIn (lists_of s) g (led_of s g).waiting

pub rest_on : (s t : Core) (g : List ℕ) → ((h : List ℕ) → (row_of t h).list ≡ (row_of s h).list) → (led_of t g).waiting ≡ (led_of s g).waiting → Rest s g → Rest t g
rest_on s t g same w k = subst (λ (x : (List ℕ → Option GroupView) × WaitingView). RestIn x.0 g x.1) (λ i. (λ h. sym (same h) i, sym w i)) k

-- ---- what changed is what waits in one group

pub record Still (g : List ℕ) (s t : Core) : Type 0 where
  pub onward : Onward s t
  pub lists : (h : List ℕ) → (row_of t h).list ≡ (row_of s h).list
  pub others : (h : List ℕ) → (g ≡ h → ⊥) → (led_of t h).waiting ≡ (led_of s h).waiting

pub still_self : (g : List ℕ) (s : Core) → Orderly s → Still g s s
still_self g s k = record { onward = self s k; lists = λ h. refl; others = λ h ne. refl }

pub still_then : (g : List ℕ) (s t u : Core) → Still g s t → Still g t u → Still g s u
still_then g s t u a b =
    record { onward = onward_then s t u a.onward b.onward; lists = λ h. b.lists h ∙ a.lists h; others = λ h ne. b.others h ne ∙ a.others h ne }

-- what is led changes
still_led : (s : Core) (g : List ℕ) (f : Led → Led) → MildLed f → Orderly s → IsNamed s g → Still g s (with_led s g f)
unfolding with_led led_of
still_led s g f m k named =
    record {
      onward = onward_row s s g (λ row. record row { led = f row.led }) named (led_grows f m) (self s k);
      lists = λ h. same h (cases_text g h);
      others = λ h ne. ap (λ (row : GroupRow). row.led.waiting) (row_there g (λ row. record row { led = f row.led }) (λ x. refl) s h ne);
    }
  where
    same : (h : List ℕ) → (g ≡ h) ⊎ (g ≡ h → ⊥) → (row_of (with_row s g (λ row. record row { led = f row.led })) h).list ≡ (row_of s h).list
    same h (inl e) = subst (λ z. (row_of (with_row s g (λ row. record row { led = f row.led })) z).list ≡ (row_of s z).list) e (ap (λ (row : GroupRow). row.list) (row_here g (λ row. record row { led = f row.led }) (λ x. refl) s k.order))
    same h (inr ne) = ap (λ (row : GroupRow). row.list) (row_there g (λ row. record row { led = f row.led }) (λ x. refl) s h ne)

led_here : (s : Core) (g : List ℕ) (f : Led → Led) → Orderly s → led_of (with_led s g f) g ≡ f (led_of s g)
unfolding with_led led_of
led_here s g f k = ap (λ (row : GroupRow). row.led) (row_here g (λ row. record row { led = f row.led }) (λ x. refl) s k.order)

pub still_waiting : (s : Core) (g : List ℕ) (f : WaitingView → WaitingView) → MildWaits f → Orderly s → IsNamed s g → Still g s (with_waiting s g f)
unfolding with_waiting
still_waiting s g f m k named = still_led s g (λ l. record l { waiting = f l.waiting }) (λ l w. m l.waiting w) k named

pub waiting_here : (s : Core) (g : List ℕ) (f : WaitingView → WaitingView) → Orderly s → (led_of (with_waiting s g f) g).waiting ≡ f (led_of s g).waiting
unfolding with_waiting
waiting_here s g f k = ap (λ (l : Led). l.waiting) (led_here s g (λ l. record l { waiting = f l.waiting }) k)

still_sent : (s : Core) (g : List ℕ) (to : ℕ) (b : Body) → Orderly s → Still g s (sent s to b)
unfolding sent send_on row_of led_of
still_sent s g to b k = record { onward = onward_alike s s (send_on s (network_to s to) to b) refl refl refl (self s k); lists = λ h. refl; others = λ h ne. refl }

-- with what waits in the group too
pub record Held (g : List ℕ) (s t : Core) : Type 0 where
  pub still : Still g s t
  pub waits : (led_of t g).waiting ≡ (led_of s g).waiting

held_refused : (s : Core) (g : List ℕ) (p : ProviderId) (r : ℕ) (y : Why) → Orderly s → IsNamed s g → Held g s (refused s g p r y)
unfolding refused keep_decision sent send_on row_of led_of
held_refused s g p r y k named =
    let decide : Led → Led = λ l. record l { decided = decisions_with (record { provider = p; request = r; why = Some y }) l.decided } in
    let t : Core = keep_decision s g p r (Some y) in
    let a : Still g s t = still_led s g decide (λ l w. w) k named in
    record {
      still = still_then g s t (refused s g p r y) a (still_sent t g p.node (body.Tell s.views.view g p r y) a.onward.orderly);
      waits = ap (λ (l : Led). l.waiting) (led_here s g decide k);
    }

pub held_source : (g : List ℕ) (source : Option (List ℕ)) (ps : List ProviderId) (s : Core) → Orderly s → IsNamed s g → Held g s (source_refused s g source ps)
unfolding source_refused
held_source g source [] s k named = record { still = still_self g s k; waits = refl }
held_source g source (p ∷ ps) s k named =
    let t : Core = refused s g p p.join (NoSource (source_len s source)) in
    let a : Held g s t = held_refused s g p p.join (NoSource (source_len s source)) k named in
    let b = held_source g source ps t a.still.onward.orderly (named_on s t g a.still.onward named) in
    record { still = still_then g s t (source_refused t g source ps) a.still b.still; waits = b.waits ∙ a.waits }

-- ---- beginning

appended_more : (f : Answering) (s : Core) (g : List ℕ) (e : Entry) → Orderly s → IsNamed s g → Onward s (appended f s g e) × (len_of s g < len_of (appended f s g e) g)
unfolding appended put len_of list_of recorded with_row row_of with_entry
appended_more f s g e k named =
    let t : Core = put s g e in
    let a : Onward s t = (onward_parts s).puts s g e named (self s k) in
    let n : IsNamed t g = named_on s t g a named in
    let one : len_of t g ≡ len_of s g + 1 = longer in
    let u : Core = send_all t (others t) (body.Entry t.views.view g (len_of s g) (least_acked t g) e) in
    let z : Onward t (appended f s g e) = on_new_members (Onward t) (IsNamed t) (keeps_onward t) g n (state_of s g) (state_of t g) (on_forgets_least (Onward t) (IsNamed t) (keeps_onward t) g n (on_rest_handed (Onward t) (IsNamed t) (keeps_onward t) f u (leader_of u g) g (len_of s g) (state_of s g) (state_of t g) e (on_handing (Onward t) (IsNamed t) (onward_parts t) u g (len_of s g) (state_of s g) (state_of t g) e _ (on_sent_all (Onward t) (IsNamed t) (keeps_onward t) (others t) (body.Entry t.views.view g (len_of s g) (least_acked t g) e) (λ z. tt) (self t a.orderly))))) in
    (onward_then s t (appended f s g e) a z, let m : len_of t g ≤ len_of (appended f s g e) g = z.lens g in omega (arith, one, m))
  where
    longer : len_of (put s g e) g ≡ len_of s g + 1
    longer = ap (λ (row : GroupRow). len_in row.list) (row_here g (λ row. record row { list = Some (with_entry (list_or_new row.list) s.views.view e) }) (λ x. refl) s k.order)

pub begins_on : (f : Answering) (s : Core) (g : List ℕ) (x : Proposal) (phases : Phases) → Orderly s → IsNamed s g → fit_of (list_of s g) x phases ≡ true → Onward s (begins f s g x phases) × (len_of s g < len_of (begins f s g x phases) g)
unfolding begins begin_many fits_at_end append_if_fits
begins_on f s g x One k named e =
    subst (λ b. Onward s (append_if_fits f s g (Once x) b) × (len_of s g < len_of (append_if_fits f s g (Once x) b) g)) (sym e) (appended_more f s g (Once x) k named)
begins_on f s g x Many k named e =
    let a : Core = appended f s g (Begin x) in
    let m = appended_more f s g (Begin x) k named in
    let n : IsNamed a g = named_on s a g m.0 named in
    let z : Onward a (closes f (tally_opened a g) g) = on_closes (Onward a) (IsNamed a) (keeps_onward a) f g n (on_opened (Onward a) (IsNamed a) (keeps_onward a) g n (self a m.0.orderly)) in
    subst (λ b. Onward s (begin_many f s g x b) × (len_of s g < len_of (begin_many f s g x b) g)) (sym e) (onward_then s a (closes f (tally_opened a g) g) m.0 z, let y : len_of a g ≤ len_of (closes f (tally_opened a g) g) g = z.lens g in let w = m.1 in omega (arith, y, w))

pub begins_off : (f : Answering) (s : Core) (g : List ℕ) (x : Proposal) (phases : Phases) → fit_of (list_of s g) x phases ≡ false → begins f s g x phases ≡ s
unfolding begins begin_many fits_at_end append_if_fits
begins_off f s g x One e = ap (append_if_fits f s g (Once x)) e
begins_off f s g x Many e = ap (begin_many f s g x) e

-- ---- what a try leaves

abbrev pub count : Core → List ℕ → ℕ
count s g = length (led_of s g).waiting.failures + length (led_of s g).waiting.joins

pub data Outcome (g : List ℕ) (s : Core) (q : Pass) : Type 0 where
  Grown : Onward s q.core → q.began ≡ true → len_of s g < len_of q.core g → Outcome g s q
  Used : Still g s q.core → q.began ≡ true → count q.core g < count s g → Outcome g s q
  Rests : Still g s q.core → Rest q.core g → Outcome g s q

pub data Failing (g : List ℕ) (s : Core) (q : Pass) : Type 0 where
  Ends : q.began ≡ true → Outcome g s q → Failing g s q
  Nothing : Still g s q.core → q.began ≡ false → (led_of q.core g).waiting.failures ≡ [] → count q.core g ≤ count s g → Failing g s q

pub len_still : (g : List ℕ) (s t : Core) → Still g s t → len_of t g ≡ len_of s g
unfolding len_of list_of
len_still g s t a = ap len_in (a.lists g)

pub len_still_at : (g : List ℕ) (s t : Core) → Still g s t → (h : List ℕ) → len_of t h ≡ len_of s h
unfolding len_of list_of
len_still_at g s t a h = ap len_in (a.lists h)

pub after_still : (g : List ℕ) (s t : Core) (q : Pass) → Still g s t → count t g ≤ count s g → Outcome g t q → Outcome g s q
after_still g s t q a fewer (Grown b e less) = Grown (onward_then s t q.core a.onward b) e (let z = len_still g s t a in omega (arith, z, less))
after_still g s t q a fewer (Used b e less) = Used (still_then g s t q.core a b) e (omega (arith, fewer, less))
after_still g s t q a fewer (Rests b r) = Rests (still_then g s t q.core a b) r

-- a beginning after which less waits: what is begun fits, or not
pub begins_try : (f : Answering) (s t : Core) (g : List ℕ) (x : Proposal) (phases : Phases) → IsNamed s g → Still g s t → count t g < count s g → Outcome g s (begun_now (begins f t g x phases))
begins_try f s t g x phases named a less = by (fit_of (list_of t g) x phases) refl
  where
    by : (b : Bool) → fit_of (list_of t g) x phases ≡ b → Outcome g s (begun_now (begins f t g x phases))
    by true e =
        let m = begins_on f t g x phases a.onward.orderly (named_on s t g a.onward named) e in
        Grown (onward_then s t (begins f t g x phases) a.onward m.0) refl (let z = len_still g s t a in let y = m.1 in omega (arith, z, y))
    by false e = subst (λ (c : Core). Outcome g s (begun_now c)) (sym (begins_off f t g x phases e)) (Used a refl less)

-- ---- lists that get shorter

pub left_bound : {A : Type 0} (b : Bool) (xs : List A) (n : ℕ) → length xs ≤ suc n → length (left_of b xs) ≤ n
left_bound true xs n k = omega arith
left_bound false [] n k = omega arith
left_bound false (x ∷ xs) n k = omega (arith, k)

pub left_fewer : {A : Type 0} (b : Bool) (xs : List A) → length (left_of b xs) ≤ length xs
left_fewer true xs = omega arith
left_fewer false [] = omega arith
left_fewer false (x ∷ xs) = omega arith

pub left_less : {A : Type 0} (test : A → Bool) (b : Bool) (xs : List A) → is_empty (filter test (chosen_of b xs)) ≡ false → length (left_of b xs) < length xs
left_less test true [] e = absurd (cc)
left_less test false [] e = absurd (cc)
left_less test true (x ∷ xs) e = omega arith
left_less test false (x ∷ xs) e = omega arith

pub nothing_long : {A : Type 0} (xs : List A) → length xs ≤ 0 → xs ≡ []
nothing_long [] k = refl
nothing_long (x ∷ xs) k = absurd (omega (arith, k))

-- ---- failures

pub failures_try : (n : ℕ) (f : Answering) (s : Core) (g : List ℕ) → Orderly s → IsNamed s g → length (led_of s g).waiting.failures ≤ n → Failing g s (failures_begin n f s g)
unfolding failures_begin
failures_try zero f s g k named few = Nothing (still_self g s k) refl (nothing_long (led_of s g).waiting.failures few) (omega arith)
failures_try (suc n) f s g k named few = by (is_empty out) refl (failures_try n f t g a.onward.orderly (named_on s t g a.onward named) fewer)
  where
    w : WaitingView
    w = (led_of s g).waiting

    b : Bool
    b = batches_failures (state_of s g).attrs.batch

    out : List Failure
    out = filter (λ (x : Failure). among (state_of s g).members x.provider) (next_failures (state_of s g).attrs.batch w)

    t : Core
    t = with_waiting s g (failures_left (state_of s g).attrs.batch)

    a : Still g s t
    a = still_waiting s g (failures_left (state_of s g).attrs.batch) (failures_few (state_of s g).attrs.batch) k named

    now : (led_of t g).waiting ≡ failures_left (state_of s g).attrs.batch w
    now = waiting_here s g (failures_left (state_of s g).attrs.batch) k

    fewer : length (led_of t g).waiting.failures ≤ n
    fewer = subst (λ (z : WaitingView). length z.failures ≤ n) (sym now) (left_bound b w.failures n few)

    not_more : count t g ≤ count s g
    not_more = subst (λ (z : WaitingView). length z.failures + length z.joins ≤ count s g) (sym now) (let y = left_fewer b w.failures in omega (arith, y))

    by : (c : Bool) → is_empty out ≡ c → Failing g t (failures_begin n f t g) → Failing g s (elim c as (λ _. Pass) [ true ↦ failures_begin n f t g | false ↦ begun_now (begins f t g (Fail out) (state_of s g).attrs.phases) ])
    by true e (Ends q o) = Ends q (after_still g s t (failures_begin n f t g) a not_more o)
    by true e (Nothing z q none less) = Nothing (still_then g s t (failures_begin n f t g).core a z) q none (omega (arith, less, not_more))
    by false e rest =
        Ends refl (begins_try f s t g (Fail out) (state_of s g).attrs.phases named a (subst (λ (z : WaitingView). length z.failures + length z.joins < count s g) (sym now) (let y = left_less (λ (x : Failure). among (state_of s g).members x.provider) b w.failures e in omega (arith, y))))
