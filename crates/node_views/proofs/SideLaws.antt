-- One old list after another is gone through for those who are dissolved.
use Rattle.std.proofs.Common.{◌≡◌, ℕ, ◌+◌, ◌<◌, ◌≤◌, List, [], ◌∷◌, ◌++◌, length, take, get_or, filter, Option, Some, None, is_some, refl, sym, ap, subst, ◌∙◌}
use Rattle.std.specs.List.{fold}
use Rattle.std.proofs.lemmas.List.{take_more, take_all}
use Rattle.std.proofs.lemmas.List.Elements.{filter-append}
use Rattle.std.proofs.lemmas.List.Sums.{fold-append}
use Rattle.rsct_packet.specs.declared.ids.ProviderId.{ProviderId}
use Rattle.rsct_packet.specs.declared.ids.ViewId.{ViewId}
use Rattle.proposal_core.specs.Fold.{joiners_in}
use Rattle.proposal_core.specs.GroupView.{GroupView}
use Rattle.client_callbacks.specs.declared.votes.VoteItem.{VoteItem}
use Rattle.session_state.specs.State.{provider_of}
use Rattle.view_state.specs.declared.install.Base.{Base}
use Rattle.view_state.specs.Bases.{base_named}
use Rattle.node_state.specs.declared.group.GroupRow.{GroupRow}
use Rattle.node_state.specs.declared.state.Core.{Core}
use Rattle.node_state.specs.HandOn.{Answering}
use Rattle.node_state.specs.Applying.{dissolved_if, group_dissolved, sides_dissolved}
use Rattle.entry_delivery.specs.Received.{Handing}
use Rattle.entry_delivery.specs.Doing.{Joins, Does}
use Rattle.entry_delivery.proofs.DoingLaws.{does_then, does_nothing, does_as}

abbrev held : List GroupRow → List GroupRow
held rows = filter (λ (row : GroupRow). is_some row.list) rows

-- one provider of a group
abbrev pub one_dissolved : List ℕ → ViewId → Option Base → Answering → Core → ProviderId → Core
one_dissolved g old b f t p = dissolved_if t g old b (provider_of t.sessions p)

-- a group with no list
pub unheld_does : (scripts : List (Option (List (Option VoteItem)))) (P : List Handing → Type 0) → P [] → (old : ViewId) (bs : List Base) (s : Core) (row : GroupRow) → row.list ≡ None → Does scripts P s s (λ f. fold (group_dissolved old bs) s (filter (λ (x : GroupRow). is_some x.list) (row ∷ [])))
unheld_does scripts P p old bs s row none = does_as scripts P s s (λ f. s) _ (λ f. rw none refl) (does_nothing scripts P s p)

-- the members, and then the running joiners
pub list_does : (scripts : List (Option (List (Option VoteItem)))) (P Q W : List Handing → Type 0) → Joins P Q W → (old : ViewId) (bs : List Base) (s t u : Core) (row : GroupRow) (l : GroupView) (b : Option Base) → row.list ≡ Some l → b ≡ base_named bs row.name
    → Does scripts P s t (λ f. fold (one_dissolved row.name old b f) s l.state.members) → Does scripts Q t u (λ f. fold (one_dissolved row.name old b f) t (joiners_in l.state.running))
    → Does scripts W s u (λ f. fold (group_dissolved old bs) s (filter (λ (x : GroupRow). is_some x.list) (row ∷ [])))
unfolding group_dissolved
list_does scripts P Q W join old bs s t u row l b some base first next =
    let one : Core → ProviderId → Core = λ t p. dissolved_if t row.name old b (provider_of t.sessions p) in
    does_as scripts W s u (λ f. fold one (fold one s l.state.members) (joiners_in l.state.running)) _ (λ f. rw (some, ← base) (sym (fold-append one s l.state.members (joiners_in l.state.running))))
    (does_then scripts P Q W join s t u (λ f. fold one s l.state.members) (λ f y. fold one y (joiners_in l.state.running)) first next)

pub sides_more : (scripts : List (Option (List (Option VoteItem)))) (P Q W : List Handing → Type 0) → Joins P Q W → (old : ViewId) (bs : List Base) (s t u : Core) (rows : List GroupRow) (k : ℕ) (row : GroupRow) → k < length rows → row ≡ get_or rows k row
    → Does scripts P s t (λ f. fold (group_dissolved old bs) s (filter (λ (x : GroupRow). is_some x.list) (take k rows))) → Does scripts Q t u (λ f. fold (group_dissolved old bs) t (filter (λ (x : GroupRow). is_some x.list) (row ∷ [])))
    → Does scripts W s u (λ f. fold (group_dissolved old bs) s (filter (λ (x : GroupRow). is_some x.list) (take (k + 1) rows)))
sides_more scripts P Q W join old bs s t u rows k row lt is first next =
    let more : take (k + 1) rows ≡ take k rows ++ row ∷ [] = take_more rows k row lt ∙ ap (λ x. take k rows ++ x ∷ []) (sym is) in
    does_as scripts W s u (λ f. fold (group_dissolved old bs) (fold (group_dissolved old bs) s (held (take k rows))) (held (row ∷ []))) _
    (λ f. sym
    (ap (λ zs. fold (group_dissolved old bs) s (held zs)) more
    ∙ (ap (fold (group_dissolved old bs) s) (filter-append (λ (x : GroupRow). is_some x.list) (take k rows) (row ∷ [])) ∙ fold-append (group_dissolved old bs) s (held (take k rows)) (held (row ∷ [])))))
    (does_then scripts P Q W join s t u (λ f. fold (group_dissolved old bs) s (held (take k rows))) (λ f y. fold (group_dissolved old bs) y (held (row ∷ []))) first next)

pub sides_all : (scripts : List (Option (List (Option VoteItem)))) (P : List Handing → Type 0) (old : ViewId) (bs : List Base) (s t : Core) (rows : List GroupRow) (k : ℕ) → length rows ≤ k
    → Does scripts P s t (λ f. fold (group_dissolved old bs) s (filter (λ (x : GroupRow). is_some x.list) (take k rows))) → Does scripts P s t (λ f. sides_dissolved s (filter (λ (x : GroupRow). is_some x.list) rows) old bs)
unfolding sides_dissolved
sides_all scripts P old bs s t rows k past done = subst (λ zs. Does scripts P s t (λ f. fold (group_dissolved old bs) s (held zs))) (take_all k rows past) done
