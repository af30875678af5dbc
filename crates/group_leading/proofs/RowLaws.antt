-- Changes of one row of the table, and rules of the step with changes that ask no client.
use Rattle.std.proofs.Common.{◌≡◌, ℕ, List, [], ◌∷◌, length, Bool, Option, Some, None, is_some, Bor, Result, Ok, Err, refl, sym, ap, ◌∙◌}
use Rattle.std.specs.List.{fold}
use Rattle.std.specs.Option.{option_copied}
use Rattle.std.specs.Result.{OnOk}
use Rattle.client_callbacks.specs.declared.votes.VoteItem.{VoteItem}
use Rattle.node_state.specs.declared.state.Core.{Core}
use Rattle.node_state.specs.State.{set_leader, list_forgotten, forget_below}
use Rattle.node_state.specs.HandOn.{Answering}
use Rattle.node_groups.specs.Keeps.{Stays, Keeps}
use Rattle.node_groups.proofs.KeepLaws.{stays_itself, stays_then, stays_as, keeps_as, row_keeps, forgotten_state}
use Rattle.entry_delivery.specs.Received.{Handing}
use Rattle.entry_delivery.specs.Doing.{Does}
use Rattle.entry_delivery.proofs.DoingLaws.{does_after, does_as}
use Rattle.group_leading.specs.Working.{AtWork}
use Rattle.group_leading.proofs.AnswerLaws.{does_some}
use Rattle.group_leading.proofs.WorkLaws.{keeps_follows, work_kept, kept_does}

-- ---- changes

pub leader_keeps : (s : Core) (g : List ℕ) (n : ℕ) → Keeps s (set_leader s g n)
unfolding set_leader
leader_keeps s g n = row_keeps s g (λ row. record row { leader = Some n }) (λ x. refl) (λ x. refl)

pub forgets_keep : (s : Core) (g : List ℕ) (n : ℕ) → Keeps s (forget_below s g n)
unfolding forget_below
forgets_keep s g n = row_keeps s g (λ row. record row { list = list_forgotten n row.list }) (λ x. refl) (λ x. forgotten_state n x.list)

pub fold_stays : {A : Type 0} (f : Core → A → Core) → ((s : Core) (a : A) → Stays s (f s a)) → (s : Core) (xs : List A) → Stays s (fold f s xs)
fold_stays f stays s [] = stays_itself s
fold_stays f stays s (x ∷ xs) = stays_then s (f s x) (fold f (f s x) xs) (stays s x) (fold_stays f stays (f s x) xs)

-- ---- rows

-- a change that is the whole row
pub does_row : (scripts : List (Option (List (Option VoteItem)))) (P : List Handing → Type 0) → P [] → (s t k : Core) (row : Answering → Core) → Keeps s k → ((f : Answering) → k ≡ row f) → t ≡ k → Does scripts P s t row
does_row scripts P p s t k row keeps same e = kept_does scripts P p s t row (λ f. e ∙ same f) (keeps_as s k t e keeps)

pub work_row : {C : Type 0} (s t k : Core) (clients : List C) → AtWork s clients → Keeps s k → t ≡ k → AtWork t clients
work_row s t k clients w keeps e = work_kept s t clients (keeps_as s k t e keeps) w

-- a row behind a change
pub does_behind : (scripts : List (Option (List (Option VoteItem)))) (P : List Handing → Type 0) (s t u k : Core) (row : Answering → Core → Core) → Keeps s k → t ≡ k → Does scripts P t u (λ f. row f t) → Does scripts P s u (λ f. row f k)
does_behind scripts P s t u k row keeps e next =
    does_as scripts P s u (λ f. row f t) (λ f. row f k) (λ f. ap (row f) e) (does_after scripts P s t u (λ f. row f t) (keeps_follows s t (keeps_as s k t e keeps)) next)

-- as many clients as sessions again, where clients were told
pub work_told : {C : Type 0} (scripts : List (Option (List (Option VoteItem)))) (P : List Handing → Type 0) (s t k : Core) (cs ds : List C) → AtWork s cs → Stays s k → Does scripts P s t (λ f. k) → length ds ≡ length t.sessions.sessions → AtWork t ds
work_told scripts P s t k cs ds w stays telling aligned =
    let kept : Stays s t = stays_as s k t (does_some scripts P s t (λ f. k) telling).1 stays in
    record { ready = record { level = rw kept.sessions.1 w.ready.level; aligned = aligned }; order = kept.order w.order }

-- from two clauses
pub on_ok_two : {T E P Q R : Type 0} (r : Result T E) → (P → Q → R) → OnOk r P → OnOk r Q → OnOk r R
on_ok_two (Ok x) f p q = f p q
on_ok_two (Err d) f p q = tt

-- what is behind a reference is there as the reference is
pub copied_is : {A : Type 0} (o : Option (Bor A)) (r : Option A) (b : Bool) → option_copied o ≡ r → is_some o ≡ b → is_some r ≡ b
copied_is None r b e h = ap is_some (sym e) ∙ h
copied_is (Some x) r b e h = ap is_some (sym e) ∙ h
