-- What one group sees of a run: its lines, the latest first.
use Rattle.std.specs.Prelude.{ℕ, ◌==◌, List, [], ◌∷◌, ◌++◌, Option, Some, None, if◌then◌else◌}
use Rattle.std.specs.Str.{bytes_eq}
use Rattle.rsct_packet.specs.declared.ids.ViewId.{ViewId}
use Rattle.rsct_packet.specs.declared.ids.ProviderId.{ProviderId}
use Rattle.rsct_packet.specs.declared.ids.Member.{Member}
use Rattle.node_state.specs.declared.happened.Happened.{Happened}
use Rattle.node_state.specs.declared.happened.Happened.TheVariants as happened
use Rattle.run_safety.specs.Past.{History, earlier, view_now}
use Rattle.run_safety.specs.Group.{Line, Kept, Noted, In, Put, Begins, Based, Heard, Asked, Told}

-- the incarnation in which the node is a member
abbrev pub inc_in : ℕ → List Member → ℕ
inc_in n [] = 0
inc_in n (m ∷ ms) = if m.node == n then m.inc else inc_in n ms

-- the view that the node is in; where it is in none, one that no node enters
abbrev pub view_or_none : Option ViewId → ViewId
view_or_none None = record { number = 0; coord = 0; inc = 0 }
view_or_none (Some v) = v

-- a refusal is told in the view that the node is in
abbrev pub told_in : ProviderId → ℕ → Option ViewId → List Line
told_in p r o = Noted (Told p r (view_or_none o)) ∷ []

-- what a record is to the group, after the records before it
abbrev pub lines_at : List ℕ → List Happened → Happened → List Line
lines_at g rs (happened.In n v ms) = Kept (In n (inc_in n ms) v ms) ∷ []
lines_at g rs (happened.Put n v h i e) = if bytes_eq h g then Kept (Put n v i e) ∷ [] else []
lines_at g rs (happened.Base n v h old len s) =
    if bytes_eq h g then Noted (Based n v (record { old = old; len = len; state = s })) ∷ [] else []
lines_at g rs (happened.Heard p v h i e ms value) = if bytes_eq h g then Noted (Heard p v i e ms value) ∷ [] else []
lines_at g rs (happened.Asked p r h x) = if bytes_eq h g then Noted (Asked p r x) ∷ [] else []
lines_at g rs (happened.Told p r why) = told_in p r (view_now p.node rs)
lines_at g rs _ = []

-- the lines of one event, before which these were
abbrev pub lines_with : List ℕ → List Happened → History → List Line → List Line
lines_with g [] before all = Kept Begins ∷ all
lines_with g (r ∷ now) before all = lines_at g (earlier now before) r ++ lines_with g now before all

abbrev pub lines_of : List ℕ → History → List Line
lines_of g [] = []
lines_of g (e ∷ before) = lines_with g e.records before (lines_of g before)
