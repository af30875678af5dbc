-- How the parts of a tick come together.
use Rattle.std.proofs.Common.{◌≡◌, ℕ, suc, ◌-◌, ◌<◌, ◌≤◌, Bool, true, false, ◌==◌, List, [], ◌∷◌, length, get_or, take, drop, Option, Some, None, refl, sym, ap, subst, arith}
use Rattle.std.specs.Prelude.{fold, is_none, ◌&&◌}
use Rattle.std.proofs.lemmas.List.{take_all}
use Rattle.client_callbacks.specs.declared.votes.VoteItem.{VoteItem}
use Rattle.proposal_core.specs.declared.entry.Entry.{Entry}
use Rattle.proposal_core.specs.declared.group_state.Running.{Running}
use Rattle.proposal_core.specs.GroupView.{GroupView}
use Rattle.proposal_core.specs.Lists.{state_in}
use Rattle.vote_phases.specs.Tally.{TallyView, expires}
use Rattle.node_state.specs.declared.state.Core.{Core}
use Rattle.node_state.specs.State.{fits_at_end, frozen, led_groups, led_of, list_of, others, row_of, state_of}
use Rattle.node_state.specs.HandOn.{Answering}
use Rattle.node_state.specs.Leading.{append_if_fits, with_tally, closes}
use Rattle.node_state.specs.Ticks.{announced, late_appended, ticked_in, tally_ticks, sent_again, tick_group, tick_led}
use Rattle.entry_delivery.specs.Received.{Handing}
use Rattle.entry_delivery.specs.Doing.{Joins, Does}
use Rattle.entry_delivery.proofs.DoingLaws.{does_then, does_before, does_as, does_nothing}
use Rattle.node_groups.specs.Keeps.{Keeps}
use Rattle.group_leading.proofs.WorkLaws.{keeps_follows}
use Rattle.group_deciding.specs.LateVotes.{late_in, late_entry, appended_late}

abbrev pub Scripts : Type 0
Scripts = List (Option (List (Option VoteItem)))

late_same : (f : Answering) (s : Core) (g : List ℕ) (t : TallyView) (b : Bool) (run : Option Running) → (state_of s g).running ≡ run → appended_late f s g (late_in t b run) ≡ announced f s g t b
unfolding late_in appended_late announced late_appended
late_same f s g t false None e = refl
late_same f s g t false (Some run) e = refl
late_same f s g t true None e = rw e refl
late_same f s g t true (Some run) e = rw e refl

abbrev ticked : Answering → Core → List ℕ → Core
ticked f u g = closes f (with_tally u g (ticked_in (led_of u g).tally)) g

phase_same : (f : Answering) (s : Core) (g : List ℕ) (t : TallyView) → ticked f (appended_late f s g (late_entry s g (Some t))) g ≡ tally_ticks f s g (Some t)
unfolding late_entry tally_ticks
phase_same f s g t = ap (λ u. ticked f u g) (late_same f s g t (s.sessions.level == 2 && expires t) (state_of s g).running refl)

late_head : (t : TallyView) (b : Bool) (l : Option GroupView) → None ≡ l → late_in t b (state_in l).running ≡ None
unfolding late_in
late_head t b None e = refl
late_head t b (Some l) e = absurd cc

-- no list is held
pub late_missing : (s : Core) (g : List ℕ) (o : Option TallyView) → None ≡ (row_of s g).list → late_entry s g o ≡ None
unfolding late_entry state_of list_of
late_missing s g None e = refl
late_missing s g (Some t) e = late_head t (s.sessions.level == 2 && expires t) (row_of s g).list e

pub announced_none : (scripts : Scripts) (P : List Handing → Type 0) → P [] → (s : Core) (g : List ℕ) (o : Option Entry) → None ≡ o → Does scripts P s s (λ f. appended_late f s g o)
unfolding appended_late
announced_none scripts P p s g o e = subst (λ (x : Option Entry). Does scripts P s s (λ f. appended_late f s g x)) e (does_nothing scripts P s p)

pub announced_some : (scripts : Scripts) (P : List Handing → Type 0) (s t : Core) (g : List ℕ) (o : Option Entry) (e : Entry) → Some e ≡ o → Does scripts P s t (λ f. append_if_fits f s g e (fits_at_end s g e)) → Does scripts P s t (λ f. appended_late f s g o)
unfolding appended_late
announced_some scripts P s t g o e same d = subst (λ (x : Option Entry). Does scripts P s t (λ f. appended_late f s g x)) same d

opened_same : (f : Answering) (s : Core) (g : List ℕ) (o : Option TallyView) → is_none o ≡ false → ticked f (appended_late f s g (late_entry s g o)) g ≡ tally_ticks f s g o
opened_same f s g None e = absurd cc
opened_same f s g (Some t) e = phase_same f s g t

-- the tally is open: announced, ticked, closed
pub phase_does : (scripts : Scripts) (P Q W : List Handing → Type 0) → Joins P Q W → (s t u w : Core) (g : List ℕ) (o : Option TallyView) → is_none o ≡ false → Does scripts P s t (λ f. appended_late f s g (late_entry s g o))
    → u ≡ with_tally t g (ticked_in (led_of t g).tally) → Keeps t u → Does scripts Q u w (λ f. closes f u g) → Does scripts W s w (λ f. tally_ticks f s g o)
phase_does scripts P Q W join s t u w g o found first e keeps last =
    does_as scripts W s w (λ f. ticked f (appended_late f s g (late_entry s g o)) g) (λ f. tally_ticks f s g o) (λ f. opened_same f s g o found)
    (does_then scripts P Q W join s u w (λ f. let v : Core = appended_late f s g (late_entry s g o) in with_tally v g (ticked_in (led_of v g).tally)) (λ f v. closes f v g)
    (does_before scripts P s t u (λ f. appended_late f s g (late_entry s g o)) (λ v. with_tally v g (ticked_in (led_of v g).tally)) first e (keeps_follows t u keeps)) last)

rests_same : (f : Answering) (s : Core) (g : List ℕ) (o : Option TallyView) → is_none o ≡ true → s ≡ tally_ticks f s g o
unfolding tally_ticks
rests_same f s g None e = refl
rests_same f s g (Some t) e = absurd cc

-- no tally is open
pub phase_rests : (scripts : Scripts) (P : List Handing → Type 0) → P [] → (s : Core) (g : List ℕ) (o : Option TallyView) → is_none o ≡ true → Does scripts P s s (λ f. tally_ticks f s g o)
phase_rests scripts P p s g o e = does_as scripts P s s (λ f. s) (λ f. tally_ticks f s g o) (λ f. rests_same f s g o e) (does_nothing scripts P s p)

pub group_does : (scripts : Scripts) (P : List Handing → Type 0) (s t u : Core) (g : List ℕ) → Does scripts P s t (λ f. tally_ticks f s g (led_of s g).tally) → u ≡ fold (sent_again g) t (others t) → Keeps t u → Does scripts P s u (λ f. tick_group f s g)
unfolding tick_group
group_does scripts P s t u g first e keeps =
    does_before scripts P s t u (λ f. tally_ticks f s g (led_of s g).tally) (λ v. fold (sent_again g) v (others v)) first e (keeps_follows t u keeps)

groups_from : (gs : List (List ℕ)) (g : List ℕ) → 1 ≤ length gs → g ≡ get_or gs 0 g → gs ≡ g ∷ take (length gs - 1) (drop 1 gs)
groups_from [] g some same = absurd (omega arith)
groups_from (x ∷ gs) g some same = let all : take (suc (length gs) - 1) gs ≡ gs = take_all _ gs (omega arith) in rw (same, all) refl

-- no group is left
pub groups_none : (scripts : Scripts) (P : List Handing → Type 0) → P [] → (s : Core) (gs : List (List ℕ)) → length gs < 1 → Does scripts P s s (λ f. fold (tick_group f) s gs)
groups_none scripts P p s [] few = does_nothing scripts P s p
groups_none scripts P p s (g ∷ gs) few = absurd (omega arith)

-- the first group, and then the others
pub groups_do : (scripts : Scripts) (P Q W : List Handing → Type 0) → Joins P Q W → (s t u : Core) (gs : List (List ℕ)) (g : List ℕ) → 1 ≤ length gs → g ≡ get_or gs 0 g → Does scripts P s t (λ f. tick_group f s g) → Does scripts Q t u (λ f. fold (tick_group f) t (take (length gs - 1) (drop 1 gs)))
    → Does scripts W s u (λ f. fold (tick_group f) s gs)
groups_do scripts P Q W join s t u gs g some same first next =
    does_as scripts W s u (λ f. fold (tick_group f) (tick_group f s g) (take (length gs - 1) (drop 1 gs))) (λ f. fold (tick_group f) s gs) (λ f. ap (fold (tick_group f) s) (sym (groups_from gs g some same)))
    (does_then scripts P Q W join s t u (λ f. tick_group f s g) (λ f v. fold (tick_group f) v (take (length gs - 1) (drop 1 gs))) first next)

-- where a node is frozen, and where it is not
pub led_head : (b : Bool) (s t : Core) → b ≡ true → s ≡ elim b [ true ↦ s | false ↦ t ]
led_head true s t e = refl
led_head false s t e = absurd cc

pub led_tail : (b : Bool) (s t : Core) → b ≡ false → t ≡ elim b [ true ↦ s | false ↦ t ]
led_tail true s t e = absurd cc
led_tail false s t e = refl

-- a frozen node does nothing
pub led_frozen : (scripts : Scripts) (P : List Handing → Type 0) → P [] → (s : Core) → frozen s ≡ true → Does scripts P s s (λ f. tick_led f s)
unfolding tick_led
led_frozen scripts P p s e = does_as scripts P s s (λ f. s) (λ f. tick_led f s) (λ f. led_head (frozen s) s (fold (tick_group f) s (led_groups s)) e) (does_nothing scripts P s p)

pub led_runs : (scripts : Scripts) (P : List Handing → Type 0) (s t : Core) → frozen s ≡ false → Does scripts P s t (λ f. fold (tick_group f) s (led_groups s)) → Does scripts P s t (λ f. tick_led f s)
unfolding tick_led
led_runs scripts P s t e done =
    does_as scripts P s t (λ f. fold (tick_group f) s (led_groups s)) (λ f. tick_led f s) (λ f. led_tail (frozen s) s (fold (tick_group f) s (led_groups s)) e) done
