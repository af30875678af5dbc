-- Who is lost is told of, row by row.
use Rattle.std.proofs.Common.{◌≡◌, ℕ, zero, suc, ◌+◌, ◌<◌, Bool, true, false, cond, List, [], ◌∷◌, length, take, Option, Some, None, refl, ◌∙◌, arith}
use Rattle.std.specs.Prelude.{filter, fold, is_some, slice_get}
use Rattle.rsct_packet.specs.declared.ids.ProviderId.{ProviderId}
use Rattle.proposal_core.specs.Fold.{present}
use Rattle.proposal_core.specs.Lists.{state_in}
use Rattle.node_state.specs.declared.group.GroupRow.{GroupRow}
use Rattle.node_state.specs.declared.packet.Body.{Body}
use Rattle.node_state.specs.declared.packet.Body.TheVariants as body
use Rattle.node_state.specs.declared.state.Core.{Core}
use Rattle.node_state.specs.State.{leader_of}
use Rattle.node_state.specs.Sending.{send_on, sent, send_if_known}
use Rattle.node_state.specs.Ticks.{is_lost, lost_told}
use Rattle.node_groups.specs.Keeps.{Keeps}
use Rattle.node_groups.proofs.KeepLaws.{keeps_itself, keeps_then, sent_keeps}
use Rattle.node_owed.specs.Losses.{told_if, told_at}

abbrev is_held : GroupRow → Bool
is_held row = is_some row.list

one_told : (b : Bool) (s : Core) (row : GroupRow) → told_if s row b ≡ fold lost_told s (cond b (row ∷ []) [])
one_told true s row = refl
one_told false s row = refl

more_head : (b : Bool) (s : Core) (row : GroupRow) (xs ys : List GroupRow) (o : Option GroupRow) → ((t : Core) → told_at (fold lost_told t xs) o ≡ fold lost_told t ys)
    → told_at (fold lost_told s (cond b (row ∷ xs) xs)) o ≡ fold lost_told s (cond b (row ∷ ys) ys)
more_head true s row xs ys o ih = ih (lost_told s row)
more_head false s row xs ys o ih = ih s

-- one row more
pub told_more : (s : Core) (rows : List GroupRow) (i : ℕ) → i < length rows → told_at (fold lost_told s (filter (λ row. is_some row.list) (take i rows))) (slice_get rows i) ≡ fold lost_told s (filter (λ row. is_some row.list) (take (i + 1) rows))
unfolding told_at
told_more s [] i h = absurd (omega arith)
told_more s (row ∷ rows) zero h = one_told (is_held row) s row
told_more s (row ∷ rows) (suc i) h =
    let below : i < length rows = omega arith in
    let e : suc i + 1 ≡ suc (i + 1) = omega arith in
    rw e (more_head (is_held row) s row (filter is_held (take i rows)) (filter is_held (take (i + 1) rows)) (slice_get rows i) (λ t. told_more t rows i below))

-- ---- what is kept

keeps_sent : (s : Core) (to : Option ℕ) (b : Body) → Keeps s (send_if_known s to b)
unfolding send_if_known
keeps_sent s None b = keeps_itself s
keeps_sent s (Some n) b = sent_keeps s n b

sent_groups : (s : Core) (to : Option ℕ) (b : Body) → (send_if_known s to b).groups ≡ s.groups
unfolding send_if_known sent send_on
sent_groups s None b = refl
sent_groups s (Some n) b = refl

keeps_each : (s : Core) (g : List ℕ) (ps : List ProviderId) → Keeps s (fold (λ t p. send_if_known t (leader_of t g) (body.Gone t.views.view g p)) s ps)
keeps_each s g [] = keeps_itself s
keeps_each s g (p ∷ ps) = keeps_then _ _ _ (keeps_sent s (leader_of s g) (body.Gone s.views.view g p)) (keeps_each (send_if_known s (leader_of s g) (body.Gone s.views.view g p)) g ps)

each_groups : (s : Core) (g : List ℕ) (ps : List ProviderId) → (fold (λ t p. send_if_known t (leader_of t g) (body.Gone t.views.view g p)) s ps).groups ≡ s.groups
each_groups s g [] = refl
each_groups s g (p ∷ ps) = each_groups (send_if_known s (leader_of s g) (body.Gone s.views.view g p)) g ps ∙ sent_groups s (leader_of s g) (body.Gone s.views.view g p)

keeps_lost : (s : Core) (row : GroupRow) → Keeps s (lost_told s row)
unfolding lost_told
keeps_lost s row = keeps_each s row.name (filter (is_lost s) (present (state_in row.list)))

lost_groups : (s : Core) (row : GroupRow) → (lost_told s row).groups ≡ s.groups
unfolding lost_told
lost_groups s row = each_groups s row.name (filter (is_lost s) (present (state_in row.list)))

pub keeps_told : (s : Core) (rows : List GroupRow) → Keeps s (fold lost_told s rows)
keeps_told s [] = keeps_itself s
keeps_told s (row ∷ rows) = keeps_then _ _ _ (keeps_lost s row) (keeps_told (lost_told s row) rows)

pub told_groups : (s : Core) (rows : List GroupRow) → (fold lost_told s rows).groups ≡ s.groups
told_groups s [] = refl
told_groups s (row ∷ rows) = told_groups (lost_told s row) rows ∙ lost_groups s row
