-- What a provider that is gone does.
use Rattle.std.proofs.Common.{◌≡◌, ℕ, ◌||◌, Bool, true, false, not, cond, List, [], ◌∷◌, Option, Some, None, is_some, refl, sym, ap, ◌∙◌}
use Rattle.std.specs.Prelude.{find}
use Rattle.std.specs.Option.{option_map}
use Rattle.std.specs.Str.{bytes_eq}
use Rattle.rsct_packet.specs.Text.{name_lt}
use Rattle.rsct_packet.specs.declared.ids.ProviderId.{ProviderId}
use Rattle.rsct_packet.specs.Providers.{same_provider, among, without}
use Rattle.proposal_core.specs.declared.proposal.Cause.TheVariants.{Gone}
use Rattle.proposal_core.specs.Fold.{present}
use Rattle.vote_phases.specs.Tally.{TallyView, tally_fail}
use Rattle.batch_rules.specs.Waiting.{WaitingView, add_failure, drop_join}
use Rattle.client_callbacks.specs.declared.votes.VoteItem.{VoteItem}
use Rattle.node_state.specs.declared.group.GroupRow.{GroupRow}
use Rattle.node_state.specs.declared.group.Led.{Led}
use Rattle.node_state.specs.declared.state.Core.{Core}
use Rattle.node_state.specs.State.{AllAfter, InNameOrder, row_found, row_of, rows_with, with_row, with_led, led_of, state_of, leads, has_name}
use Rattle.node_state.specs.HandOn.{Answering}
use Rattle.node_state.specs.Leading.{with_waiting, with_tally, closes}
use Rattle.node_state.specs.Following.{tally_failed, wait_gone, marked, gone_present, gone_of, take_gone}
use Rattle.node_groups.specs.Keeps.{Keeps}
use Rattle.node_state.proofs.NameOrder.{after_less, none_after}
use Rattle.node_groups.proofs.RowLaws.{changed_in, same_rows}
use Rattle.node_groups.proofs.KeepLaws.{keeps_itself, keeps_as, led_keeps}
use Rattle.entry_delivery.specs.Received.{Handing}
use Rattle.entry_delivery.specs.Doing.{Does}
use Rattle.entry_delivery.proofs.DoingLaws.{does_as, does_before}
use Rattle.group_leading.proofs.WorkLaws.{keeps_follows}
use Rattle.group_leading.proofs.RowLaws.{does_row, does_behind}

waiting_keeps : (s : Core) (g : List ℕ) (change : WaitingView → WaitingView) → Keeps s (with_waiting s g change)
unfolding with_waiting
waiting_keeps s g change = led_keeps s g (λ l. record l { waiting = change l.waiting })

-- ---- the vote fails

tally_none : (f : Answering) (s : Core) (g : List ℕ) (p : ProviderId) (tally : Option TallyView) → is_some tally ≡ false → s ≡ tally_failed f s g p tally
unfolding tally_failed
tally_none f s g p None e = refl
tally_none f s g p (Some t) e = absurd (cc)

pub unfailed_does : (scripts : List (Option (List (Option VoteItem)))) (P : List Handing → Type 0) → P [] → (s : Core) (g : List ℕ) (p : ProviderId) → is_some (led_of s g).tally ≡ false → Does scripts P s s (λ f. tally_failed f s g p (led_of s g).tally)
unfailed_does scripts P q s g p none = does_row scripts P q s s s (λ f. tally_failed f s g p (led_of s g).tally) (keeps_itself s) (λ f. tally_none f s g p (led_of s g).tally none) refl

tally_some : (f : Answering) (s : Core) (g : List ℕ) (p : ProviderId) (tally : Option TallyView) → is_some tally ≡ true → closes f (with_tally s g (option_map (tally_fail p) tally)) g ≡ tally_failed f s g p tally
unfolding tally_failed
tally_some f s g p None e = absurd (cc)
tally_some f s g p (Some t) e = refl

tally_keeps : (s : Core) (g : List ℕ) (tally : Option TallyView) → Keeps s (with_tally s g tally)
unfolding with_tally
tally_keeps s g tally = led_keeps s g (λ l. record l { tally = tally })

pub failing_does : (scripts : List (Option (List (Option VoteItem)))) (P : List Handing → Type 0) (s t u : Core) (g : List ℕ) (p : ProviderId) → is_some (led_of s g).tally ≡ true
    → t ≡ with_tally s g (option_map (tally_fail p) (led_of s g).tally) → Does scripts P t u (λ f. closes f t g) → Does scripts P s u (λ f. tally_failed f s g p (led_of s g).tally)
failing_does scripts P s t u g p some failing closing =
    does_as scripts P s u (λ f. closes f (with_tally s g (option_map (tally_fail p) (led_of s g).tally)) g) (λ f. tally_failed f s g p (led_of s g).tally) (λ f. tally_some f s g p (led_of s g).tally some)
    (does_behind scripts P s t u (with_tally s g (option_map (tally_fail p) (led_of s g).tally)) (λ f x. closes f x g) (tally_keeps s g _) failing closing)

-- ---- it waits as a failure

waits_if_keeps : (is_member : Bool) (s : Core) (g : List ℕ) (p : ProviderId) → Keeps s (elim is_member [ true ↦ with_waiting s g (add_failure p Gone) | false ↦ s ])
waits_if_keeps true s g p = waiting_keeps s g (add_failure p Gone)
waits_if_keeps false s g p = keeps_itself s

pub gone_waits_keeps : (s : Core) (g : List ℕ) (p : ProviderId) → Keeps s (wait_gone s g p)
unfolding wait_gone
gone_waits_keeps s g p = waits_if_keeps (among (state_of s g).members p) s g p

pub present_does : (scripts : List (Option (List (Option VoteItem)))) (P : List Handing → Type 0) (s t u w : Core) (g : List ℕ) (p : ProviderId) → t ≡ with_led s g (λ l. record l { gone = marked l.gone p })
    → Does scripts P t u (λ f. tally_failed f t g p (led_of t g).tally) → w ≡ wait_gone u g p → Does scripts P s w (λ f. gone_present f s g p)
unfolding gone_present
present_does scripts P s t u w g p marking failing waiting =
    does_behind scripts P s t w _ (λ f x. wait_gone (tally_failed f x g p (led_of x g).tally) g p) (led_keeps s g _) marking
    (does_before scripts P t u w (λ f. tally_failed f t g p (led_of t g).tally) (λ x. wait_gone x g p) failing waiting (keeps_follows u w (keeps_as u (wait_gone u g p) w waiting (gone_waits_keeps u g p))))

-- ---- a join that waits

same_if_there : (eq lt : Bool) (g : List ℕ) (there row : GroupRow) (rows rest : List GroupRow) → name_lt g row.name ≡ lt → AllAfter row.name rows → (find (has_name g) rows ≡ Some there → rest ≡ rows)
    → cond eq (Some row) (find (has_name g) rows) ≡ Some there → changed_in (λ x. x) g row rows rest eq lt ≡ row ∷ rows
same_if_there true lt g there row rows rest l a ih found = refl
same_if_there false true g there row rows rest l a ih found = let none : find (has_name g) rows ≡ None = none_after g rows (after_less g row.name rows l a) in absurd (cc)
same_if_there false false g there row rows rest l a ih found = ap (λ (xs : List GroupRow). row ∷ xs) (ih found)

-- a row that is there, and stays as it is
same_there : (g : List ℕ) (there : GroupRow) (rows : List GroupRow) → InNameOrder rows → find (has_name g) rows ≡ Some there → rows_with g (λ x. x) rows ≡ rows
unfolding rows_with
same_there g there [] o found = absurd (cc)
same_there g there (row ∷ rows) o found =
    same_if_there (bytes_eq row.name g) (name_lt g row.name) g there row rows (rows_with g (λ x. x) rows) refl o.0 (same_there g there rows o.1) found

led_same : (s : Core) (g : List ℕ) (change : Led → Led) (there : GroupRow) → InNameOrder s.groups → find (has_name g) s.groups ≡ Some there → change (led_of s g) ≡ led_of s g → with_led s g change ≡ s
unfolding with_led with_row led_of row_of
led_same s g change there o found e =
    ap (λ (rows : List GroupRow). record s { groups = rows })
    (same_rows g (λ row. record row { led = change row.led }) (λ row. row) s.groups o (ap (λ (l : Led). record (row_found g (find (has_name g) s.groups)) { led = l }) e)
    ∙ same_there g there s.groups o found)

not_first : (b : Bool) (rest : Bool) → (b || rest) ≡ false → (b ≡ false) × (rest ≡ false)
not_first true rest e = absurd (cc)
not_first false rest e = (refl, e)

none_without : (ps : List ProviderId) (p : ProviderId) → among ps p ≡ false → without ps p ≡ ps
none_without [] p e = refl
none_without (q ∷ ps) p e =
    let parts = not_first (same_provider q p) (among ps p) e in
    ap (λ (b : Bool). cond (not b) (q ∷ without ps p) (without ps p)) parts.0 ∙ ap (λ (rest : List ProviderId). q ∷ rest) (none_without ps p parts.1)

unfound : (f : Answering) (s : Core) (g : List ℕ) (p : ProviderId) → find (has_name g) s.groups ≡ None → s ≡ gone_of f s g p false (among (led_of s g).waiting.joins p)
unfolding gone_of led_of row_of
unfound f s g p none = rw (none, gone_of) refl

-- no join waits in a group that has no row
pub join_none : (f : Answering) (s : Core) (g : List ℕ) (p : ProviderId) (row : Option GroupRow) → row ≡ find (has_name g) s.groups → is_some row ≡ false → s ≡ gone_of f s g p false (among (led_of s g).waiting.joins p)
join_none f s g p None e h = unfound f s g p (sym e)
join_none f s g p (Some row) e h = absurd (cc)

found : (f : Answering) (s : Core) (g : List ℕ) (p : ProviderId) (there : GroupRow) (waits : Bool) → among (led_of s g).waiting.joins p ≡ waits → InNameOrder s.groups → find (has_name g) s.groups ≡ Some there
    → with_waiting s g (drop_join p) ≡ gone_of f s g p false waits
unfolding gone_of with_waiting
found f s g p there true e o row = refl
found f s g p there false e o row =
    led_same s g (λ l. record l { waiting = drop_join p l.waiting }) there o row
    (ap (λ (joins : List ProviderId). record (led_of s g) { waiting = record (led_of s g).waiting { joins = joins } }) (none_without (led_of s g).waiting.joins p e))

pub join_some : (f : Answering) (s t : Core) (g : List ℕ) (p : ProviderId) (row : Option GroupRow) → row ≡ find (has_name g) s.groups → is_some row ≡ true → InNameOrder s.groups → t ≡ with_waiting s g (drop_join p)
    → t ≡ gone_of f s g p false (among (led_of s g).waiting.joins p)
join_some f s t g p None e h o dropped = absurd (cc)
join_some f s t g p (Some row) e h o dropped = dropped ∙ found f s g p row (among (led_of s g).waiting.joins p) refl o (sym e)

-- ---- GONE

pub gone_unled : (f : Answering) (s : Core) (g : List ℕ) (p : ProviderId) → leads s g ≡ false → s ≡ take_gone f s g p
unfolding take_gone
gone_unled f s g p e = rw (e, take_gone) refl

gone_led : (f : Answering) (s : Core) (g : List ℕ) (p : ProviderId) → leads s g ≡ true → gone_of f s g p (among (present (state_of s g)) p) (among (led_of s g).waiting.joins p) ≡ take_gone f s g p
unfolding take_gone
gone_led f s g p e = rw (e, take_gone) refl

pub gone_here : (f : Answering) (s : Core) (g : List ℕ) (p : ProviderId) → leads s g ≡ true → among (present (state_of s g)) p ≡ true → gone_present f s g p ≡ take_gone f s g p
unfolding gone_of
gone_here f s g p e here = ap (λ (b : Bool). gone_of f s g p b (among (led_of s g).waiting.joins p)) (sym here) ∙ gone_led f s g p e

pub away_does : (scripts : List (Option (List (Option VoteItem)))) (P : List Handing → Type 0) → P [] → (s t : Core) (g : List ℕ) (p : ProviderId) → leads s g ≡ true → among (present (state_of s g)) p ≡ false
    → ((f : Answering) → t ≡ gone_of f s g p false (among (led_of s g).waiting.joins p)) → Keeps s t → Does scripts P s t (λ f. take_gone f s g p)
away_does scripts P q s t g p e away dropped keeps =
    does_row scripts P q s t t (λ f. take_gone f s g p) keeps (λ f. dropped f ∙ (ap (λ (b : Bool). gone_of f s g p b (among (led_of s g).waiting.joins p)) (sym away) ∙ gone_led f s g p e)) refl
