-- What a name does.
use Rattle.std.proofs.Common.{◌≡◌, ℕ, ◌==◌, Bool, true, false, List, Option, Some, None, refl, ap, arith}
use Rattle.std.specs.List.{fold}
use Rattle.std.proofs.lemmas.Bool.{ne_eqb}
use Rattle.client_callbacks.specs.declared.told.Why.TheVariants.{GroupsFull}
use Rattle.session_state.specs.declared.state.Request.{Request}
use Rattle.name_server.specs.declared.names.Leader.{Leader}
use Rattle.name_server.specs.Names.{answer_at, table_at, looked_up, lookup}
use Rattle.node_state.specs.declared.packet.Body.{Body}
use Rattle.node_state.specs.declared.state.Core.{Core}
use Rattle.node_state.specs.State.{with_row, set_leader}
use Rattle.node_state.specs.Sending.{sent, send_request}
use Rattle.node_state.specs.Following.{take_tell, requests_of, named, is_name_used, take_name}
use Rattle.node_groups.specs.Keeps.{Stays, Keeps}
use Rattle.session_state.proofs.OwnerLaws.{owners_themselves}
use Rattle.node_state.proofs.AlongLaws.{along_same}
use Rattle.node_groups.proofs.KeepLaws.{keeps_then, keeps_as, sent_keeps}
use Rattle.group_leading.proofs.RowLaws.{fold_stays}
use Rattle.group_members.proofs.TellLaws.{tell_stays}

-- ---- LOOKUP

stays_at : (g : List ℕ) (asker : ℕ) (table : List Leader) (is_full : Bool) (there : Option ℕ) → answer_at asker is_full there ≡ None → table_at g asker table is_full there ≡ table
stays_at g asker table is_full (Some n) h = refl
stays_at g asker table true None h = refl
stays_at g asker table false None h = absurd (cc)

-- a name that is refused changes nothing
pub full_stays : (g : List ℕ) (asker : ℕ) (table : List Leader) → looked_up g asker table ≡ None → lookup g asker table ≡ table
full_stays g asker table h = stays_at g asker table _ _ h

-- a table of names, and an answer
pub looked_keeps : (s t : Core) (table : List Leader) (to : ℕ) (b : Body) → t ≡ sent (record s { names = table }) to b → Keeps s t
looked_keeps s t table to b e =
    let u : Core = record s { names = table } in
    let kept : Keeps s u = record { records = omega arith; sessions = (refl, refl); order = λ o. o; handed = refl; owners = owners_themselves s.sessions; along = along_same s u refl refl } in
    keeps_as s (sent u to b) t e (keeps_then s u (sent u to b) kept (sent_keeps u to b))

-- ---- NAME

-- a leader that becomes known changes no request
pub requests_led : (s t : Core) (g : List ℕ) (n : ℕ) → t ≡ set_leader s g n → requests_of t g ≡ requests_of s g
unfolding requests_of set_leader with_row
requests_led s t g n e = ap (λ (x : Core). requests_of x g) e

pub name_unused : (s : Core) (g : List ℕ) (n : ℕ) → is_name_used s g n ≡ false → s ≡ take_name s g n
unfolding take_name
name_unused s g n e = rw (e, take_name) refl

pub name_refused : (s : Core) (g : List ℕ) (n : ℕ) → is_name_used s g n ≡ true → n ≡ 0 → fold (λ t (q : Request). take_tell t q.provider q.request (GroupsFull 64)) s (requests_of s g) ≡ take_name s g n
unfolding take_name named
name_refused s g n used none = rw (used, none, take_name) refl

named_if : (s t : Core) (g : List ℕ) (n : ℕ) (is_none : Bool) → is_none ≡ false → t ≡ fold send_request (set_leader s g n) (requests_of s g) → t ≡ named s g n is_none
unfolding named
named_if s t g n false e led = led
named_if s t g n true e led = absurd (cc)

pub name_led : (s t : Core) (g : List ℕ) (n : ℕ) → is_name_used s g n ≡ true → (n ≡ 0 → ⊥) → t ≡ fold send_request (set_leader s g n) (requests_of s g) → t ≡ take_name s g n
unfolding take_name
name_led s t g n used some led = rw (used, take_name) (named_if s t g n (n == 0) (ne_eqb n 0 some) led)

pub refused_stays : (s : Core) (g : List ℕ) → Stays s (fold (λ t (q : Request). take_tell t q.provider q.request (GroupsFull 64)) s (requests_of s g))
refused_stays s g = fold_stays (λ t (q : Request). take_tell t q.provider q.request (GroupsFull 64)) (λ t q. tell_stays t q.provider q.request (GroupsFull 64)) s (requests_of s g)
