-- The table of rules: what each line keeps, by the lines before it, and the line that shows it where it does not.
use Rattle.std.specs.Prelude.{ℕ, Bool, true, false, not, ◌==◌, ◌&&◌, ◌||◌, ◌+◌, List, [], ◌∷◌, ◌++◌, filter, find, length, map, take, slice_get, Option, Some, None, nat_le, nat_lt, is_none, IsTrue, if◌then◌else◌}
use Rattle.std.specs.List.{list_any, list_all}
use Rattle.std.specs.Str.{bytes_eq}
use Rattle.rsct_packet.specs.declared.ids.Member.{Member}
use Rattle.rsct_packet.specs.declared.ids.ProtoId.{ProtoId}
use Rattle.rsct_packet.specs.declared.ids.ProviderId.{ProviderId}
use Rattle.rsct_packet.specs.declared.ids.RingId.{RingId}
use Rattle.rsct_packet.specs.declared.ids.ViewId.{ViewId}
use Rattle.rsct_packet.specs.Ids.{last_u32, same_view, same_member, same_proto, same_ring, view_lt, is_member}
use Rattle.rsct_packet.specs.Providers.{same_provider}
use Rattle.proposal_core.specs.declared.proposal.Proposal.{Proposal}
use Rattle.proposal_core.specs.declared.proposal.Proposal.TheVariants as proposal
use Rattle.proposal_core.specs.declared.entry.Vote.{Vote}
use Rattle.proposal_core.specs.declared.entry.Vote.TheVariants as vote
use Rattle.proposal_core.specs.declared.entry.RowVote.{RowVote}
use Rattle.proposal_core.specs.declared.entry.RowVote.TheVariants as row_vote
use Rattle.proposal_core.specs.declared.entry.Row.{Row}
use Rattle.proposal_core.specs.declared.entry.Closed.{Closed}
use Rattle.proposal_core.specs.declared.entry.Entry.{Entry}
use Rattle.proposal_core.specs.declared.entry.Entry.TheVariants as entry
use Rattle.proposal_core.specs.declared.group_state.GroupState.{GroupState}
use Rattle.proposal_core.specs.declared.group_state.Running.{Running}
use Rattle.proposal_core.specs.Fold.{max_phases, fits, voters, present}
use Rattle.vote_phases.specs.Tally.{tally_of}
use Rattle.run_audit.specs.declared.broken.Rule.{Rule}
use Rattle.run_audit.specs.declared.broken.Rule.TheVariants as rule
use Rattle.run_audit.specs.declared.broken.Verdict.{Verdict}
use Rattle.run_audit.specs.declared.broken.Verdict.TheVariants.{Seen, Broken}
use Rattle.record_lines.specs.declared.line.BaseLine.{BaseLine}
use Rattle.word_laws.specs.declared.kind.Kind.{Kind}
use Rattle.record_lines.specs.declared.line.Line.{Line}
use Rattle.record_lines.specs.declared.line.Line.TheVariants as line
use Rattle.record_lines.specs.declared.line.OpenPhase.{OpenPhase}
use Rattle.record_lines.specs.declared.line.What.{What}
use Rattle.record_lines.specs.declared.line.What.TheVariants as what
use Rattle.entry_words.specs.Wording.{entry_text}
use Rattle.word_laws.specs.Entries.{kind_of}
use Rattle.word_laws.specs.Values.{spaced}
use Rattle.record_lines.specs.Writing.{kind_name, what_name, base_words}
use Rattle.run_audit.specs.Past.{first_no, last_no, inc_of, view_of, is_at, members_of, listed, from_of, is_list, puts_of, list_of, fold_from, base_of, base_state, state_of, Part, part_of, takes_part, last_heard}

-- ---- small tests

unfoldable pub all_same : {A : Type 0} → (A → A → Bool) → List A → List A → Bool
all_same same [] [] = true
all_same same [] (y ∷ ys) = false
all_same same (x ∷ xs) [] = false
all_same same (x ∷ xs) (y ∷ ys) = same x y && all_same same xs ys

-- entries and bases are the same where they are written the same
unfoldable pub same_entry : Entry → Entry → Bool
same_entry e f = bytes_eq (entry_text e) (entry_text f)

unfoldable pub same_base : BaseLine → BaseLine → Bool
same_base a b = bytes_eq (spaced (base_words a)) (spaced (base_words b))

unfoldable pub same_kind : Kind → Kind → Bool
same_kind a b = bytes_eq (kind_name a) (kind_name b)

-- what a provider hears of an entry
unfoldable pub what_of : Entry → What
what_of (entry.Once x) = what.Once (kind_of x)
what_of (entry.Begin x) = what.Begin (kind_of x)
what_of (entry.Phase c) = what.Phase
what_of (entry.Approve c) = what.Approve
what_of (entry.Reject c) = what.Reject
what_of (entry.Late proto phase ps) = what.Late

unfoldable pub same_what : What → What → Bool
same_what a b = bytes_eq (what_name a) (what_name b)

unfoldable pub same_vote : Vote → Vote → Bool
same_vote vote.Approve vote.Approve = true
same_vote vote.Continue vote.Continue = true
same_vote vote.Reject vote.Reject = true
same_vote _ _ = false

-- of what is there
unfoldable pub if_some : {A : Type 0} → Option A → (A → Bool) → Bool
if_some None test = true
if_some (Some x) test = test x

unfoldable pub is_in : {A : Type 0} → (A → A → Bool) → List A → A → Bool
is_in same xs x = list_any (same x) xs

-- ---- which lines

unfoldable pub is_up : ℕ → Line → Bool
is_up n (line.Up m j) = m == n
is_up n _ = false

unfoldable pub is_ring_of : ℕ → RingId → Line → Bool
is_ring_of net id (line.Ring m k jd ms b) = k == net && same_ring jd id
is_ring_of net id _ = false

unfoldable pub is_in_of : ViewId → Line → Bool
is_in_of v (line.In m u ms) = same_view u v
is_in_of v _ = false

unfoldable pub is_base_of : ViewId → List ℕ → Line → Bool
is_base_of v g (line.Base m u h b) = is_list v g u h
is_base_of v g _ = false

unfoldable pub is_own_base : ℕ → ViewId → List ℕ → Line → Bool
is_own_base n v g (line.Base m u h b) = m == n && is_list v g u h
is_own_base n v g _ = false

unfoldable pub is_put_of : ℕ → ViewId → List ℕ → Line → Bool
is_put_of n v g (line.Put m u h i e) = m == n && is_list v g u h
is_put_of n v g _ = false

unfoldable pub is_put_at : ViewId → List ℕ → ℕ → Line → Bool
is_put_at v g i (line.Put m u h j e) = is_list v g u h && j == i
is_put_at v g i _ = false

-- a phase opens
unfoldable pub is_opening : Entry → Bool
is_opening (entry.Begin x) = true
is_opening (entry.Phase c) = true
is_opening _ = false

unfoldable pub opens_there : ℕ → ViewId → List ℕ → Line → Bool
opens_there n v g (line.Put m u h i e) = m == n && (is_list v g u h && is_opening e)
opens_there n v g _ = false

-- the requests that an entry begins
unfoldable pub requests_of : Proposal → List (ProviderId × ℕ)
requests_of (proposal.Join ps attrs n) = map (λ (p : ProviderId). (p, p.join)) ps
requests_of (proposal.Leave p r) = (p, r) ∷ []
requests_of (proposal.Fail out) = []
requests_of (proposal.Expel p r out) = (p, r) ∷ []
requests_of (proposal.State p r value) = (p, r) ∷ []
requests_of (proposal.Message p r bytes) = (p, r) ∷ []
requests_of (proposal.Attributes p r attrs) = (p, r) ∷ []
requests_of (proposal.Reflect v i value) = []

unfoldable pub proposal_in : Entry → Option Proposal
proposal_in (entry.Once x) = Some x
proposal_in (entry.Begin x) = Some x
proposal_in _ = None

unfoldable pub carried_by : Option Proposal → List (ProviderId × ℕ)
carried_by None = []
carried_by (Some x) = requests_of x

unfoldable pub same_request : ProviderId → ℕ → ProviderId × ℕ → Bool
same_request p r x = same_provider x.0 p && x.1 == r

unfoldable pub carries : ℕ → ProviderId → ℕ → Line → Bool
carries n p r (line.Put m v g i e) = m == n && list_any (same_request p r) (carried_by (proposal_in e))
carries n p r _ = false

unfoldable pub is_told_of : ProviderId → ℕ → Line → Bool
is_told_of p r (line.Told q k why) = same_provider q p && k == r
is_told_of p r _ = false

unfoldable pub is_asked_of : ProviderId → ℕ → List ℕ → Kind → Line → Bool
is_asked_of p r g x (line.Asked q k h y) = same_provider q p && (k == r && (bytes_eq h g && same_kind y x))
is_asked_of p r g x _ = false

unfoldable pub is_cast_of : ProviderId → ProtoId → ℕ → Line → Bool
is_cast_of p proto phase (line.Cast q o k v x) = same_provider q p && (same_proto o proto && k == phase)
is_cast_of p proto phase _ = false

unfoldable pub is_vote_of : ProviderId → ProtoId → ℕ → Vote → Line → Bool
is_vote_of p proto phase v (line.Cast q o k w x) = same_provider q p && (same_proto o proto && (k == phase && same_vote w v))
is_vote_of p proto phase v _ = false

-- ---- passing together

-- a node that entered a view, and the number of its line
pub record Leaver : Type 0 where
  pub node : ℕ
  pub no : ℕ

-- who entered v from the view u, in order
unfoldable pub leavers : ViewId → ViewId → List Line → List Leaver
leavers v u [] = []
leavers v u (line.In m w ms ∷ ls) =
    elim (same_view w v && is_at u (view_of m ls)) [ true ↦ leavers v u ls ++ record { node = m; no = length ls + 1 } ∷ [] | false ↦ leavers v u ls ]
leavers v u (l ∷ ls) = leavers v u ls

-- the groups of the view that anybody put into
unfoldable pub groups_put : ViewId → List Line → List (List ℕ)
groups_put u [] = []
groups_put u (line.Put m v g i e ∷ ls) = elim (same_view v u) [ true ↦ g ∷ groups_put u ls | false ↦ groups_put u ls ]
groups_put u (l ∷ ls) = groups_put u ls

unfoldable pub same_lists : ℕ → ℕ → ViewId → List Line → Bool
same_lists n m u ls = list_all (λ g. all_same same_entry (puts_of n u g ls) (puts_of m u g ls)) (groups_put u ls)

-- another one whose lists differ
unfoldable pub parts_from : ℕ → ViewId → List Line → Leaver → Bool
parts_from n u ls x = not (x.node == n) && not (same_lists n x.node u ls)

unfoldable pub who_parts : ℕ → ViewId → Option ViewId → List Line → Option Leaver
who_parts n v None ls = None
who_parts n v (Some u) ls = find (parts_from n u ls) (leavers v u ls)

unfoldable pub no_of : Option Leaver → Option ℕ
no_of None = None
no_of (Some x) = Some x.no

-- ---- bases

-- the groups that the node's base lines of the view name
unfoldable pub based_groups : ℕ → ViewId → List Line → List (List ℕ)
based_groups n u [] = []
based_groups n u (line.Base m v g b ∷ ls) = elim (m == n && same_view v u) [ true ↦ g ∷ based_groups n u ls | false ↦ based_groups n u ls ]
based_groups n u (l ∷ ls) = based_groups n u ls

unfoldable pub same_groups : List (List ℕ) → List (List ℕ) → Bool
same_groups gs hs = list_all (is_in bytes_eq hs) gs && list_all (is_in bytes_eq gs) hs

-- the node that entered the view first
unfoldable pub or_node : Option ℕ → ℕ → Option ℕ
or_node None n = Some n
or_node (Some m) n = Some m

unfoldable pub first_node : ViewId → List Line → Option ℕ
first_node u [] = None
first_node u (line.In m v ms ∷ ls) = elim (same_view v u) [ true ↦ or_node (first_node u ls) m | false ↦ first_node u ls ]
first_node u (l ∷ ls) = first_node u ls

unfoldable pub bases_agree : ℕ → Option ViewId → List Line → Bool
bases_agree n None ls = true
bases_agree n (Some u) ls = if_some (first_node u ls) (λ m. same_groups (based_groups n u ls) (based_groups m u ls))

unfoldable pub first_in_of : Option ViewId → List Line → Option ℕ
first_in_of None ls = None
first_in_of (Some u) ls = first_no (is_in_of u) ls

-- a provider lives where its node is a member in its incarnation, and came from the old view
unfoldable pub lives : ViewId → List Member → ViewId → List Line → ProviderId → Bool
lives v ms u ls p = is_member ms p.node p.inc && is_at u (from_of p.node p.inc v ls)

unfoldable pub same_open : Option OpenPhase → Option Running → Bool
same_open None None = true
same_open None (Some run) = false
same_open (Some o) None = false
same_open (Some o) (Some run) = same_proto o.proto run.proto && o.phase == run.phase

-- what the base shows is what the old list is up to the length
unfoldable pub shows_cut : ViewId → List Member → BaseLine → GroupState → List Line → Bool
shows_cut v ms b s ls =
    all_same same_provider b.members s.members && (bytes_eq b.value s.value && (same_open b.running s.running && all_same same_provider b.failed (filter (λ p. not (lives v ms b.old ls p)) (present s))))

unfoldable pub base_holds : ℕ → ViewId → List ℕ → BaseLine → List Line → Bool
base_holds n v g b ls =
    let ms : List Member = listed (members_of v ls) in
    let old : List Entry = list_of b.old g ls in
    is_at v (view_of n ls)
    && (list_any (λ (m : Member). is_at b.old (from_of m.node m.inc v ls)) ms
    && (nat_le b.len (length old)
    && (shows_cut v ms b (fold_from b.old (base_state b.old g ls) 0 (take b.len old)) ls && if_some (base_of v g ls) (same_base b))))

-- ---- tallies

unfoldable pub is_tallied : Entry → Vote → Bool
is_tallied (entry.Approve c) vote.Approve = true
is_tallied (entry.Phase c) vote.Continue = nat_lt c.phase max_phases
is_tallied (entry.Reject c) vote.Reject = true
is_tallied (entry.Reject c) vote.Continue = c.phase == max_phases
is_tallied _ _ = false

unfoldable pub tally_holds : GroupState → Entry → Closed → Bool
tally_holds s e c = all_same same_provider (map (λ (r : Row). r.provider) c.rows) (voters s) && is_tallied e (tally_of c.rows)

-- what closes a phase
unfoldable pub closed_in : Entry → Option Closed
closed_in (entry.Phase c) = Some c
closed_in (entry.Approve c) = Some c
closed_in (entry.Reject c) = Some c
closed_in _ = None

unfoldable pub row_cast : ProtoId → ℕ → List Line → Row → RowVote → Bool
row_cast proto phase ls r (row_vote.Cast v) = list_any (is_vote_of r.provider proto phase v) ls
row_cast proto phase ls r _ = true

unfoldable pub rows_cast : Closed → List Line → Bool
rows_cast c ls = list_all (λ (r : Row). row_cast c.proto c.phase ls r r.vote) c.rows

-- the put or the base by which the phase runs at the node
unfoldable pub or_no : Option ℕ → Option ℕ → Option ℕ
or_no None k = k
or_no (Some k) l = Some k

unfoldable pub opening_no : ℕ → ViewId → List ℕ → List Line → Option ℕ
opening_no n v g ls = or_no (last_no (opens_there n v g) ls) (or_no (first_no (is_own_base n v g) ls) (first_no (is_base_of v g) ls))

-- ---- requests

-- the request was asked in that group and of that kind, was not told, and did not begin at the node
unfoldable pub is_due : ℕ → List ℕ → Kind → List Line → ProviderId × ℕ → Bool
is_due n g k ls x =
    list_any (is_asked_of x.0 x.1 g k) ls && (not (list_any (is_told_of x.0 x.1) ls) && not (list_any (carries n x.0 x.1) ls))

unfoldable pub is_undue : ℕ → List ℕ → Kind → List Line → ProviderId × ℕ → Bool
is_undue n g k ls x = (x.0).node == n && not (is_due n g k ls x)

-- the first request of the node's own providers that may not begin
unfoldable pub undue_in : ℕ → List ℕ → List Line → Option Proposal → Option (ProviderId × ℕ)
undue_in n g ls None = None
undue_in n g ls (Some x) = find (is_undue n g (kind_of x) ls) (requests_of x)

unfoldable pub undue_no : ℕ → List Line → Option (ProviderId × ℕ) → Option ℕ
undue_no n ls None = None
undue_no n ls (Some x) = or_no (first_no (is_told_of x.0 x.1) ls) (first_no (carries n x.0 x.1) ls)

-- ---- what is heard

-- the entry that stands last in the list is at the place, and is told by the word
unfoldable pub last_is : List Entry → ℕ → What → Bool
last_is es i w = (length es == i + 1) && elim (slice_get es i) [ None ↦ false | Some e ↦ same_what (what_of e) w ]

unfoldable pub is_next : Part → Option ℕ → ℕ → Bool
is_next x None i = elim x.first [ None ↦ false | Some first ↦ first == i ]
is_next x (Some j) i = i == j + 1

unfoldable pub heard_holds : ProviderId → ViewId → List ℕ → ℕ → What → List ProviderId → List ℕ → List Line → Bool
heard_holds p v g i w ms value ls =
    let s : GroupState = state_of p.node v g ls in
    let x : Part = part_of p v g ls in
    last_is (puts_of p.node v g ls) i w && (all_same same_provider ms s.members && (bytes_eq value s.value && (takes_part i x && is_next x (last_heard p v g ls) i)))

unfoldable pub opens_phase : ProtoId → ℕ → ViewId → ℕ → Option Entry → Bool
opens_phase proto phase v i (Some (entry.Begin x)) = same_proto proto (record { view = v; place = i }) && phase == 1
opens_phase proto phase v i (Some (entry.Phase c)) = same_proto proto c.proto && phase == c.phase + 1
opens_phase proto phase v i _ = false

-- the provider heard that the phase opened
unfoldable pub heard_open : ProviderId → ProtoId → ℕ → List Line → Bool
heard_open p proto phase [] = false
heard_open p proto phase (line.Heard q v g i w ms value ∷ ls) =
    elim (same_provider q p && opens_phase proto phase v i (slice_get (puts_of q.node v g ls) i)) [ true ↦ true | false ↦ heard_open p proto phase ls ]
heard_open p proto phase (l ∷ ls) = heard_open p proto phase ls

-- ---- the table

-- an earlier start of the node is of a lesser incarnation
unfoldable pub starts_below : ℕ → ℕ → Line → Bool
starts_below n j (line.Up m k) = not (m == n) || nat_lt k j
starts_below n j _ = true

unfoldable pub nodes_after : ℕ → RingId → Line → Option (List ℕ) → Option (List ℕ)
nodes_after net id (line.Ring m k jd ms b) None = if k == net && same_ring jd id then Some ms else None
nodes_after net id _ old = old

-- the members in the first line of the ring
unfoldable pub first_nodes : ℕ → RingId → List Line → Option (List ℕ)
first_nodes net id [] = None
first_nodes net id (l ∷ ls) = nodes_after net id l (first_nodes net id ls)

unfoldable pub has_node : List ℕ → ℕ → Bool
has_node ms n = list_any (λ m. m == n) ms

unfoldable pub ring_holds : ℕ → ℕ → RingId → List ℕ → ℕ → List Line → Bool
ring_holds n net id ms m ls =
    has_node ms n && (has_node ms id.leader && (has_node ms m && (id.number == last_u32 || if_some (first_nodes net id ls) (all_same (λ x y. x == y) ms))))

unfoldable pub is_above : Option ViewId → ViewId → Bool
is_above None v = true
is_above (Some u) v = view_lt u v

unfoldable pub is_own : Option ℕ → ℕ → List Member → Bool
is_own None n ms = false
is_own (Some j) n ms = is_member ms n j

unfoldable pub in_holds : ℕ → ViewId → List Member → List Line → Bool
in_holds n v ms ls = is_above (view_of n ls) v && (is_own (inc_of n ls) n ms && if_some (members_of v ls) (all_same same_member ms))

unfoldable pub holds : Rule → Line → List Line → Bool
holds rule.Life (line.Up n j) ls = list_all (starts_below n j) ls
holds rule.Ring (line.Ring n net id ms m) ls = ring_holds n net id ms m ls
holds rule.In (line.In n v ms) ls = in_holds n v ms ls
holds rule.Pass (line.In n v ms) ls = is_none (who_parts n v (view_of n ls) ls)
holds rule.Bases (line.In n v ms) ls = bases_agree n (view_of n ls) ls
holds rule.Base (line.Base n v g b) ls = base_holds n v g b ls
holds rule.Place (line.Put n v g i e) ls = is_at v (view_of n ls) && i == length (puts_of n v g ls)
holds rule.Entry (line.Put n v g i e) ls = if_some (slice_get (list_of v g ls) i) (same_entry e)
holds rule.Fits (line.Put n v g i e) ls = fits (state_of n v g ls) e
holds rule.Tally (line.Put n v g i e) ls = if_some (closed_in e) (tally_holds (state_of n v g ls) e)
holds rule.Honest (line.Put n v g i e) ls = if_some (closed_in e) (λ c. rows_cast c ls)
holds rule.Once (line.Put n v g i e) ls = is_none (undue_in n g ls (proposal_in e))
holds rule.Heard (line.Heard p v g i w ms value) ls = heard_holds p v g i w ms value ls
holds rule.Cast (line.Cast p proto phase v value) ls = heard_open p proto phase ls && not (list_any (is_cast_of p proto phase) ls)
holds _ _ _ = true

-- the line that shows it; where there is none, it is the line itself
unfoldable pub with_of : Rule → Line → List Line → Option ℕ
with_of rule.Life (line.Up n j) ls = last_no (is_up n) ls
with_of rule.Ring (line.Ring n net id ms m) ls = first_no (is_ring_of net id) ls
with_of rule.In (line.In n v ms) ls = first_no (is_in_of v) ls
with_of rule.Pass (line.In n v ms) ls = no_of (who_parts n v (view_of n ls) ls)
with_of rule.Bases (line.In n v ms) ls = first_in_of (view_of n ls) ls
with_of rule.Base (line.Base n v g b) ls = first_no (is_base_of v g) ls
with_of rule.Place (line.Put n v g i e) ls = last_no (is_put_of n v g) ls
with_of rule.Entry (line.Put n v g i e) ls = first_no (is_put_at v g i) ls
with_of rule.Fits (line.Put n v g i e) ls = last_no (is_put_of n v g) ls
with_of rule.Tally (line.Put n v g i e) ls = opening_no n v g ls
with_of rule.Honest (line.Put n v g i e) ls = opening_no n v g ls
with_of rule.Once (line.Put n v g i e) ls = undue_no n ls (undue_in n g ls (proposal_in e))
with_of rule.Heard (line.Heard p v g i w ms value) ls = last_no (is_put_of p.node v g) ls
with_of rule.Cast (line.Cast p proto phase v value) ls = first_no (is_cast_of p proto phase) ls
with_of _ _ _ = None

-- in the table's order
unfoldable pub rules : List Rule
rules =
    rule.Life ∷ rule.Ring ∷ rule.In ∷ rule.Pass ∷ rule.Base ∷ rule.Bases ∷ rule.Place ∷ rule.Entry ∷ rule.Fits ∷ rule.Tally ∷ rule.Honest ∷ rule.Once ∷ rule.Heard ∷ rule.Cast ∷ []

-- the rules that are of a line
unfoldable pub rules_of : Line → List Rule
rules_of (line.Up n j) = rule.Life ∷ []
rules_of (line.Ring n net id ms m) = rule.Ring ∷ []
rules_of (line.In n v ms) = rule.In ∷ rule.Pass ∷ rule.Bases ∷ []
rules_of (line.Base n v g b) = rule.Base ∷ []
rules_of (line.Put n v g i e) = rule.Place ∷ rule.Entry ∷ rule.Fits ∷ rule.Tally ∷ rule.Honest ∷ rule.Once ∷ []
rules_of (line.Heard p v g i w ms value) = rule.Heard ∷ []
rules_of (line.Cast p proto phase v value) = rule.Cast ∷ []
rules_of _ = []

-- the first rule, of these, that the line breaks
unfoldable pub first_broken : List Rule → Line → List Line → Option Rule
first_broken [] l ls = None
first_broken (r ∷ rs) l ls = elim (holds r l ls) [ true ↦ first_broken rs l ls | false ↦ Some r ]

unfoldable pub broken_in : Line → List Line → Option Rule
broken_in l ls = first_broken (rules_of l) l ls

unfoldable pub or_own : Option ℕ → ℕ → ℕ
or_own None k = k
or_own (Some m) k = m

unfoldable pub verdict_at : Line → List Line → Option Rule → Verdict
verdict_at l ls None = Seen (length ls + 1)
verdict_at l ls (Some r) = let k : ℕ = length ls + 1 in Broken r k (or_own (with_of r l ls) k)

-- the verdict on lines, the latest first
unfoldable pub verdict_of : List Line → Verdict
verdict_of [] = Seen 0
verdict_of (l ∷ ls) = elim (verdict_of ls) [ Broken r k m ↦ Broken r k m | Seen k ↦ verdict_at l ls (broken_in l ls) ]

-- each line keeps every rule
abbrev pub Keeps : Line → List Line → Type 0
Keeps l ls = (r : Rule) → IsTrue (holds r l ls)

-- opens each word of this file, for a computation
unfoldable pub table_opens : Unit {0}
unfolding all_same same_entry same_base same_kind what_of same_what same_vote if_some is_in is_up is_ring_of is_in_of is_base_of is_own_base is_put_of is_put_at is_opening opens_there requests_of proposal_in carried_by same_request carries is_told_of is_asked_of is_cast_of is_vote_of leavers groups_put same_lists parts_from who_parts no_of based_groups same_groups or_node first_node bases_agree first_in_of lives same_open shows_cut base_holds is_tallied tally_holds closed_in row_cast rows_cast or_no opening_no is_due is_undue undue_in undue_no last_is is_next heard_holds opens_phase heard_open starts_below nodes_after first_nodes has_node ring_holds is_above is_own in_holds holds with_of rules rules_of first_broken broken_in or_own verdict_at verdict_of
table_opens = tt
