-- What opening, closing and beginning do.
use Rattle.std.proofs.Common.{◌≡◌, ℕ, zero, suc, ◌-◌, ◌<◌, Bool, true, false, ◌&&◌, List, [], Option, Some, None, refl, sym, ap, ◌∙◌, arith}
use Rattle.proposal_core.specs.declared.proposal.Proposal.{Proposal}
use Rattle.proposal_core.specs.declared.entry.Entry.{Entry}
use Rattle.proposal_core.specs.declared.entry.Entry.TheVariants.{Begin}
use Rattle.proposal_core.specs.declared.group_state.Running.{Running}
use Rattle.vote_phases.specs.Tally.{TallyView}
use Rattle.client_callbacks.specs.declared.votes.VoteItem.{VoteItem}
use Rattle.node_state.specs.declared.group.Led.{Led}
use Rattle.node_state.specs.declared.state.Core.{Core}
use Rattle.node_state.specs.State.{nothing_led, fits_at_end}
use Rattle.node_state.specs.HandOn.{Answering}
use Rattle.node_state.specs.Leading.{appended, tally_set, tally_opened, closing_entry, is_phase, closes_from, closes, begin_many}
use Rattle.node_groups.specs.Keeps.{Keeps}
use Rattle.entry_delivery.specs.Received.{Handing}
use Rattle.entry_delivery.specs.Doing.{Joins, Does}
use Rattle.entry_delivery.proofs.DoingLaws.{does_nothing, does_then, does_after, does_before, does_as}
use Rattle.group_leading.specs.Closing.{next_closing, goes_on, closed_with, closed_if, closed_where}
use Rattle.group_leading.proofs.WorkLaws.{keeps_follows}

-- ---- one phase

pub nothing_closes : (l : Led) (t : Option TallyView) → None ≡ closing_entry l t None
unfolding closing_entry
nothing_closes l None = refl
nothing_closes l (Some t) = refl

pub nothing_led_closes : (run : Option Running) → None ≡ closing_entry nothing_led None run
unfolding closing_entry
nothing_led_closes run = refl

pub closed_next : (scripts : List (Option (List (Option VoteItem)))) (P : List Handing → Type 0) (s t u : Core) (g : List ℕ) (e : Entry) (opens : Bool) → opens ≡ true → Does scripts P s t (λ f. appended f s g e) → u ≡ tally_opened t g → Keeps t u → Does scripts P s u (λ f. closed_with f s g e opens)
unfolding closed_with
closed_next scripts P s t u g e opens h appending opening keeps =
    rw h (does_before scripts P s t u (λ f. appended f s g e) (λ x. tally_opened x g) appending opening (keeps_follows t u keeps))

pub closed_last : (scripts : List (Option (List (Option VoteItem)))) (P : List Handing → Type 0) (s t u : Core) (g : List ℕ) (e : Entry) (opens : Bool) → opens ≡ false → Does scripts P s t (λ f. appended f s g e) → u ≡ tally_set t g None → Keeps t u → Does scripts P s u (λ f. closed_with f s g e opens)
unfolding closed_with
closed_last scripts P s t u g e opens h appending ending keeps =
    rw h (does_before scripts P s t u (λ f. appended f s g e) (λ x. tally_set x g None) appending ending (keeps_follows t u keeps))

pub closed_here : (scripts : List (Option (List (Option VoteItem)))) (P : List Handing → Type 0) (s t : Core) (g : List ℕ) (e : Entry) (fits : Bool) → fits ≡ true → Does scripts P s t (λ f. closed_with f s g e (is_phase e)) → Does scripts P s t (λ f. closed_if f s g e fits)
unfolding closed_if
closed_here scripts P s t g e fits h closing = rw h closing

pub closed_nowhere : (scripts : List (Option (List (Option VoteItem)))) (P : List Handing → Type 0) → P [] → (s : Core) (g : List ℕ) (e : Entry) (fits : Bool) → fits ≡ false → Does scripts P s s (λ f. closed_if f s g e fits)
unfolding closed_if
closed_nowhere scripts P p s g e fits h = rw h (does_nothing scripts P s p)

pub closed_none : (scripts : List (Option (List (Option VoteItem)))) (P : List Handing → Type 0) → P [] → (s : Core) (g : List ℕ) (o : Option Entry) → None ≡ o → Does scripts P s s (λ f. closed_where f s g o)
unfolding closed_where
closed_none scripts P p s g o h = rw (← h) (does_nothing scripts P s p)

pub closed_some : (scripts : List (Option (List (Option VoteItem)))) (P : List Handing → Type 0) (s t : Core) (g : List ℕ) (e : Entry) (o : Option Entry) → Some e ≡ o → Does scripts P s t (λ f. closed_if f s g e (fits_at_end s g e)) → Does scripts P s t (λ f. closed_where f s g o)
unfolding closed_where
closed_some scripts P s t g e o h closing = rw (← h) closing

pub goes_nowhere : (s : Core) (g : List ℕ) (o : Option Entry) → None ≡ o → false ≡ goes_on s g o
unfolding goes_on
goes_nowhere s g o h = rw (← h) refl

pub goes_there : (s : Core) (g : List ℕ) (e : Entry) (o : Option Entry) → Some e ≡ o → fits_at_end s g e && is_phase e ≡ goes_on s g o
unfolding goes_on
goes_there s g e o h = rw (← h) refl

-- ---- one phase after another

-- so many phases more, where a next one is opened
abbrev closes_after : ℕ → Answering → Core → List ℕ → Option Entry → Bool → Core
closes_after n f s g o true = closes_from n f (closed_where f s g o) g
closes_after n f s g o false = closed_where f s g o

after_head : (fits opens : Bool) (s next last : Core) (rest : Core → Core)
    → let one : Core = elim fits [ true ↦ elim opens [ true ↦ next | false ↦ last ] | false ↦ s ] in
    let all : Core = elim fits [ false ↦ s | true ↦ elim opens [ true ↦ rest next | false ↦ last ] ] in
    all ≡ elim (fits && opens) [ true ↦ rest one | false ↦ one ]
after_head true true s next last rest = refl
after_head true false s next last rest = refl
after_head false opens s next last rest = refl

after_entry : (n : ℕ) (f : Answering) (s : Core) (g : List ℕ) (o : Option Entry)
    → let all : Core = elim o [
      | None ↦ s
      | Some e ↦ elim (fits_at_end s g e) [
        | false ↦ s
        | true ↦ elim (is_phase e) [ true ↦ closes_from n f (tally_opened (appended f s g e) g) g | false ↦ tally_set (appended f s g e) g None ]
      ]
    ] in
    all ≡ closes_after n f s g o (goes_on s g o)
unfolding closed_where closed_if closed_with goes_on
after_entry n f s g None = refl
after_entry n f s g (Some e) = after_head (fits_at_end s g e) (is_phase e) s (tally_opened (appended f s g e) g) (tally_set (appended f s g e) g None) (λ x. closes_from n f x g)

closes_at : (n : ℕ) (f : Answering) (s : Core) (g : List ℕ) → 0 < n → closes_from n f s g ≡ closes_after (n - 1) f s g (next_closing s g) (goes_on s g (next_closing s g))
unfolding closes_from
closes_at zero f s g lt = absurd (omega arith)
closes_at (suc n) f s g lt = let less : suc n - 1 ≡ n = omega arith in rw less (after_entry n f s g (next_closing s g))

pub no_phase : (scripts : List (Option (List (Option VoteItem)))) (P : List Handing → Type 0) → P [] → (s : Core) (g : List ℕ) (n : ℕ) → n ≡ 0 → Does scripts P s s (λ f. closes_from n f s g)
unfolding closes_from
no_phase scripts P p s g n h = rw h (does_nothing scripts P s p)

pub last_phase : (scripts : List (Option (List (Option VoteItem)))) (P : List Handing → Type 0) (s t : Core) (g : List ℕ) (n : ℕ) → 0 < n → goes_on s g (next_closing s g) ≡ false → Does scripts P s t (λ f. closed_where f s g (next_closing s g)) → Does scripts P s t (λ f. closes_from n f s g)
last_phase scripts P s t g n lt last closing =
    does_as scripts P s t (λ f. closed_where f s g (next_closing s g)) (λ f. closes_from n f s g) (λ f. sym (closes_at n f s g lt ∙ ap (closes_after (n - 1) f s g (next_closing s g)) last)) closing

pub next_phase : (scripts : List (Option (List (Option VoteItem)))) (P Q W : List Handing → Type 0) → Joins P Q W → (s t u : Core) (g : List ℕ) (n : ℕ) → 0 < n → goes_on s g (next_closing s g) ≡ true → Does scripts P s t (λ f. closed_where f s g (next_closing s g)) → Does scripts Q t u (λ f. closes_from (n - 1) f t g)
    → Does scripts W s u (λ f. closes_from n f s g)
next_phase scripts P Q W join s t u g n lt opens closing next =
    does_as scripts W s u (λ f. closes_from (n - 1) f (closed_where f s g (next_closing s g)) g) (λ f. closes_from n f s g) (λ f. sym (closes_at n f s g lt ∙ ap (closes_after (n - 1) f s g (next_closing s g)) opens))
    (does_then scripts P Q W join s t u (λ f. closed_where f s g (next_closing s g)) (λ f x. closes_from (n - 1) f x g) closing next)

-- ---- beginning

pub opened_does : (scripts : List (Option (List (Option VoteItem)))) (P Q W : List Handing → Type 0) → Joins P Q W → (s t u w : Core) (g : List ℕ) (e : Entry) → Does scripts P s t (λ f. appended f s g e) → u ≡ tally_opened t g → Keeps t u → Does scripts Q u w (λ f. closes f u g)
    → Does scripts W s w (λ f. closes f (tally_opened (appended f s g e) g) g)
opened_does scripts P Q W join s t u w g e appending opening keeps closing =
    let next : Does scripts Q t w (λ f. closes f (tally_opened t g) g) =
    does_as scripts Q t w (λ f. closes f u g) (λ f. closes f (tally_opened t g) g) (λ f. ap (λ (x : Core). closes f x g) opening) (does_after scripts Q t u w (λ f. closes f u g) (keeps_follows t u keeps) closing) in
    does_then scripts P Q W join s t w (λ f. appended f s g e) (λ f x. closes f (tally_opened x g) g) appending next

pub begun_where : (scripts : List (Option (List (Option VoteItem)))) (P : List Handing → Type 0) (s t : Core) (g : List ℕ) (x : Proposal) (fits : Bool) → fits ≡ true → Does scripts P s t (λ f. closes f (tally_opened (appended f s g (Begin x)) g) g) → Does scripts P s t (λ f. begin_many f s g x fits)
unfolding begin_many
begun_where scripts P s t g x fits h d = rw h d

pub begun_nowhere : (scripts : List (Option (List (Option VoteItem)))) (P : List Handing → Type 0) → P [] → (s : Core) (g : List ℕ) (x : Proposal) (fits : Bool) → fits ≡ false → Does scripts P s s (λ f. begin_many f s g x fits)
unfolding begin_many
begun_nowhere scripts P p s g x fits h = rw h (does_nothing scripts P s p)
