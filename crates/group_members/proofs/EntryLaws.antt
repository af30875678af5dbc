-- What an entry, or its acknowledgement, does.
use Rattle.std.proofs.Common.{◌≡◌, ℕ, Bool, true, false, List, Option, Some, refl, sym, ap, ◌∙◌}
use Rattle.std.specs.Prelude.{nat_lt}
use Rattle.std.proofs.lemmas.Bool.{eq-eqb, ne_eqb}
use Rattle.proposal_core.specs.declared.entry.Entry.{Entry}
use Rattle.client_callbacks.specs.declared.votes.VoteItem.{VoteItem}
use Rattle.node_state.specs.declared.packet.Body.TheVariants as body
use Rattle.node_state.specs.declared.state.Core.{Core}
use Rattle.node_state.specs.State.{len_of, holds, fits_at_end, forget_below, set_leader}
use Rattle.node_state.specs.Sending.{sent}
use Rattle.node_state.specs.HandOn.{Answering}
use Rattle.node_state.specs.Leading.{put_and_hand}
use Rattle.node_state.specs.Following.{entry_next, entry_elsewhere, take_entry}
use Rattle.node_groups.specs.Keeps.{Keeps}
use Rattle.node_groups.proofs.KeepLaws.{keeps_itself, keeps_then, keeps_as, sent_keeps}
use Rattle.entry_delivery.specs.Received.{Handing}
use Rattle.entry_delivery.specs.Doing.{Does}
use Rattle.entry_delivery.proofs.DoingLaws.{does_before}
use Rattle.group_leading.proofs.WorkLaws.{keeps_follows}
use Rattle.group_leading.proofs.RowLaws.{leader_keeps, forgets_keep}

-- ---- ENTRY

-- acknowledged to a leader, which is known then, and forgotten below a place
abbrev pub followed : ℕ → List ℕ → ℕ → Core → Core
followed from g stable t = forget_below (set_leader (sent t from (body.Ack t.views.view g (len_of t g))) g from) g stable

pub followed_keeps : (from : ℕ) (g : List ℕ) (stable : ℕ) (t : Core) → Keeps t (followed from g stable t)
followed_keeps from g stable t =
    let u : Core = sent t from (body.Ack t.views.view g (len_of t g)) in
    keeps_then t u _ (sent_keeps t from _) (keeps_then u (set_leader u g from) _ (leader_keeps u g from) (forgets_keep (set_leader u g from) g stable))

pub next_does : (scripts : List (Option (List (Option VoteItem)))) (P : List Handing → Type 0) (s t u : Core) (from : ℕ) (g : List ℕ) (stable : ℕ) (e : Entry) → Does scripts P s t (λ f. put_and_hand f s (Some from) g e) → u ≡ followed from g stable t
    → Does scripts P s u (λ f. entry_next f s from g stable e true)
unfolding entry_next
next_does scripts P s t u from g stable e putting following =
    does_before scripts P s t u (λ f. put_and_hand f s (Some from) g e) (followed from g stable) putting following (keeps_follows t u (keeps_as t (followed from g stable t) u following (followed_keeps from g stable t)))

elsewhere_if_keeps : (s : Core) (from : ℕ) (g : List ℕ) (stable : ℕ) (is_held : Bool) → Keeps s (elim is_held [ true ↦ forget_below s g stable | false ↦ s ])
elsewhere_if_keeps s from g stable true = forgets_keep s g stable
elsewhere_if_keeps s from g stable false = keeps_itself s

pub elsewhere_keeps : (s : Core) (from : ℕ) (g : List ℕ) (stable : ℕ) (is_below : Bool) → Keeps s (entry_elsewhere s from g stable is_below)
unfolding entry_elsewhere
elsewhere_keeps s from g stable true = keeps_then s (sent s from (body.Ack s.views.view g (len_of s g))) _ (sent_keeps s from _) (forgets_keep _ g stable)
elsewhere_keeps s from g stable false = elsewhere_if_keeps s from g stable (holds s g)

pub entry_passed : (f : Answering) (s : Core) (from : ℕ) (g : List ℕ) (place stable : ℕ) (e : Entry) → (place ≡ len_of s g → ⊥) → entry_elsewhere s from g stable (nat_lt place (len_of s g)) ≡ take_entry f s from g place stable e
unfolding take_entry
entry_passed f s from g place stable e other = rw (ne_eqb place (len_of s g) other, take_entry) refl

entry_at_end : (f : Answering) (s : Core) (from : ℕ) (g : List ℕ) (place stable : ℕ) (e : Entry) → place ≡ len_of s g → entry_next f s from g stable e (fits_at_end s g e) ≡ take_entry f s from g place stable e
unfolding take_entry
entry_at_end f s from g place stable e at = rw (eq-eqb place (len_of s g) at, take_entry) refl

pub entry_unfit : (f : Answering) (s : Core) (from : ℕ) (g : List ℕ) (place stable : ℕ) (e : Entry) → place ≡ len_of s g → fits_at_end s g e ≡ false → s ≡ take_entry f s from g place stable e
unfolding entry_next
entry_unfit f s from g place stable e at unfit = ap (entry_next f s from g stable e) (sym unfit) ∙ entry_at_end f s from g place stable e at

pub entry_fit : (f : Answering) (s : Core) (from : ℕ) (g : List ℕ) (place stable : ℕ) (e : Entry) → place ≡ len_of s g → fits_at_end s g e ≡ true → entry_next f s from g stable e true ≡ take_entry f s from g place stable e
entry_fit f s from g place stable e at fit = ap (entry_next f s from g stable e) (sym fit) ∙ entry_at_end f s from g place stable e at
