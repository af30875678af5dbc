-- In the middle of a step: the tallies of a node are of the voters of the states that its lists have, these states are those
-- of its records, the rows of what it put are right, and the lists that it does not lead start where they did, or where the step
-- told it, or at 0 in a view that it has entered.
use Rattle.std.proofs.Common.{◌≡◌, ◌≤◌, ◌⊎◌, min, ℕ, ◌+◌, List, [], ◌∷◌, ◌++◌, length, take, Option, Some, None, Bool, true, false, refl, sym, ap, ◌∙◌, subst, inl, inr, length-append, arith}
use Rattle.std.specs.Prelude.{◌==◌, ◌&&◌, fold, find, reverse, if◌then◌else◌}
use Rattle.std.specs.Str.{bytes_eq}
use Rattle.std.proofs.lemmas.List.{reverse-append}
use Rattle.std.proofs.lemmas.Bool.{eq-eqb}
use Rattle.std.proofs.lemmas.Bool.Decides.{nat_tests}
use Rattle.rsct_packet.specs.declared.ids.ViewId.{ViewId}
use Rattle.rsct_packet.specs.declared.ids.Member.{Member}
use Rattle.rsct_packet.specs.Ids.{same_view}
use Rattle.rsct_packet.specs.Search.{Has}
use Rattle.rsct_packet.proofs.HasLaws.{append_has_left}
use Rattle.proposal_core.specs.declared.entry.Entry.{Entry}
use Rattle.proposal_core.specs.declared.group_state.GroupState.{GroupState}
use Rattle.proposal_core.specs.Fold.{empty_state, after}
use Rattle.proposal_core.specs.GroupView.{GroupView}
use Rattle.proposal_core.specs.Lists.{list_or_new, state_in, len_in, with_entry}
use Rattle.name_server.specs.declared.names.Leader.{Leader}
use Rattle.view_state.specs.declared.views.Views.{Views}
use Rattle.node_state.specs.declared.config.Config.{Config}
use Rattle.node_state.specs.declared.config.Mode.{Mode}
use Rattle.node_state.specs.declared.group.GroupRow.{GroupRow}
use Rattle.node_state.specs.declared.happened.Happened.{Happened}
use Rattle.node_state.specs.declared.happened.Happened.TheVariants as happened
use Rattle.node_state.specs.declared.state.Core.{Core}
use Rattle.node_state.specs.State.{acked_from, acked_by, least_acked, InNameOrder, row_found, row_of, with_row, list_of, len_of, is_this, leader_by, leader_in, leads_in, leads, recorded, has_name}
use Rattle.node_state.specs.Leading.{put}
use Rattle.run_safety.specs.Past.{History, earlier, Within, is_list, puts_of, base_of, fold_from, state_at, state_now}
use Rattle.node_state.proofs.NameOrder.{KeepsName, cases_text, text_self, text_other, row_here, row_there, rows_ordered}
use Rattle.entry_laws.specs.closing_rows.Rows.{HasRows, TallyFits, start_in}
use Rattle.entry_laws.proofs.closing_rows.Entered.{Since}
use Rattle.entry_laws.proofs.closing_rows.Calms.{Silent, Calm}
use Rattle.entry_laws.proofs.closing_rows.Quiet.{KeepsQuiet}
use Rattle.step_refinement.proofs.Puts.{fold_pushed}

-- the node leads a group with this row
abbrev pub leads_row : Core → GroupRow → Bool
leads_row s row = is_this s.views.me (leader_by s.config.mode s.views.view.coord row.leader)

abbrev pub found : Core → List ℕ → GroupRow
found s g = row_found g (find (has_name g) s.groups)

pub leads_is : (s : Core) (g : List ℕ) → leads_row s (found s g) ≡ leads s g
unfolding leads leads_in leader_in row_of
leads_is s g = refl

-- a row has no tally, or the node leads the group and the tally is of the voters
abbrev pub RowIs : Bool → GroupRow → Type 0
RowIs led row = (row.led.tally ≡ None) ⊎ ((led ≡ true) × TallyFits row.led.tally (state_in row.list))

-- what says which groups a node leads, and who acknowledges to it
pub record Seat : Type 0 where
  pub me : ℕ
  pub coord : ℕ
  pub mode : Mode
  pub members : List Member

abbrev pub seat : Core → Seat
seat s = record { me = s.views.me; coord = s.views.view.coord; mode = s.config.mode; members = s.views.members }

abbrev pub leader_at : Seat → GroupRow → Option ℕ
leader_at a row = leader_by a.mode a.coord row.leader

abbrev pub leads_by : Seat → GroupRow → Bool
leads_by a row = is_this a.me (leader_at a row)

-- what a member holds, as the node knows it, and the least of that
abbrev pub holds_at : Seat → GroupRow → ℕ → ℕ
holds_at a row n = elim (n == a.me) as (λ _. ℕ) [ true ↦ len_in row.list | false ↦ acked_from n row.led.acked ]

abbrev pub least_at : Seat → GroupRow → ℕ
least_at a row = fold (λ least (m : Member). min least (holds_at a row m.node)) (len_in row.list) a.members

pub least_is : (s : Core) (g : List ℕ) → least_acked s g ≡ least_at (seat s) (found s g)
unfolding least_acked acked_by row_of
least_is s g = refl

-- where the lists start that a node does not lead, which ones it leads, and what members acknowledged to it; and of which groups
-- nothing is under way
pub record Floors : Type 0 where
  pub starts : List ℕ → ℕ
  pub led : List ℕ → Bool
  pub acks : List ℕ → ℕ → ℕ
  pub settled : List ℕ → Bool

-- A list starts where it is to, or the node leads the group, and then at the least that a member holds; what it led it leads; and
-- where no leader is known the list is empty.
pub record RowStarts (x : Floors) (a : Seat) (g : List ℕ) (row : GroupRow) : Type 0 where
  pub told : leads_by a row ≡ false → start_in row.list ≡ x.starts g
  pub goes : x.led g ≡ true → leads_by a row ≡ true
  pub acked : (m : ℕ) → acked_from m row.led.acked ≡ x.acks g m
  pub within : start_in row.list ≤ len_in row.list
  pub below : leads_by a row ≡ true → start_in row.list ≤ least_at a row
  pub least : x.settled g ≡ true → leads_by a row ≡ true → least_at a row ≤ start_in row.list
  pub empty : x.settled g ≡ true → leader_at a row ≡ None → len_in row.list ≡ 0

-- the least grows with what members hold
pub least_grows : (f h : Member → ℕ) (ms : List Member) (i j : ℕ) → i ≤ j → ((m : Member) → f m ≤ h m) → fold (λ least (m : Member). min least (f m)) i ms ≤ fold (λ least (m : Member). min least (h m)) j ms
least_grows f h [] i j le more = le
least_grows f h (m ∷ ms) i j le more =
    let one : f m ≤ h m = more m in
    let both : min i (f m) ≤ min j (h m) = omega arith in least_grows f h ms (min i (f m)) (min j (h m)) both more

pub least_below : (f : Member → ℕ) (ms : List Member) (i : ℕ) → fold (λ least (m : Member). min least (f m)) i ms ≤ i
least_below f [] i = omega arith
least_below f (m ∷ ms) i = let rest = least_below f ms (min i (f m)) in omega arith

-- where the length grows, and what is acknowledged
pub least_more : (a : Seat) (old row : GroupRow) → len_in old.list ≤ len_in row.list → ((m : ℕ) → acked_from m old.led.acked ≤ acked_from m row.led.acked) → least_at a old ≤ least_at a row
least_more a old row len acked =
    least_grows (λ (m : Member). holds_at a old m.node) (λ (m : Member). holds_at a row m.node) a.members (len_in old.list) (len_in row.list) len (λ m. by (m.node == a.me) m.node)
  where
    by : (b : Bool) (n : ℕ) → elim b as (λ _. ℕ) [ true ↦ len_in old.list | false ↦ acked_from n old.led.acked ] ≤ elim b as (λ _. ℕ) [ true ↦ len_in row.list | false ↦ acked_from n row.led.acked ]
    by true n = len
    by false n = acked n

-- a row with the same leader and the same acknowledgements, whose list starts and ends at the same place
pub row_same : {x : Floors} (a : Seat) (g : List ℕ) (old row : GroupRow) → row.leader ≡ old.leader → start_in row.list ≡ start_in old.list → len_in row.list ≡ len_in old.list → ((m : ℕ) → acked_from m row.led.acked ≡ acked_from m old.led.acked) → RowStarts x a g old → RowStarts x a g row
row_same a g old row leader start len acked k =
    let known : leader_at a row ≡ leader_at a old = ap (λ o. leader_by a.mode a.coord o) leader in
    let led : leads_by a row ≡ leads_by a old = ap (is_this a.me) known in
    let more : least_at a old ≤ least_at a row = least_more a old row (let z = len in omega arith) (λ m. let z = acked m in omega arith) in
    let less : least_at a row ≤ least_at a old = least_more a row old (let z = len in omega arith) (λ m. let z = acked m in omega arith) in
    record {
      told = λ e. start ∙ k.told (sym led ∙ e);
      goes = λ e. led ∙ k.goes e;
      acked = λ m. acked m ∙ k.acked m;
      within = let z = k.within in let y = start in let x = len in omega arith;
      below = λ e. let z = k.below (sym led ∙ e) in let y = start in omega arith;
      least = λ e q. let z = k.least e (sym led ∙ q) in let y = start in omega arith;
      empty = λ e q. len ∙ k.empty e (sym known ∙ q);
    }

-- nothing was said yet, and nothing is led
abbrev pub nothing_said : Floors
nothing_said = record { starts = λ g. 0; led = λ g. false; acks = λ g m. 0; settled = λ g. true }

-- a row with an empty list
pub fresh_row : (a : Seat) (g : List ℕ) (row : GroupRow) → start_in row.list ≡ 0 → len_in row.list ≡ 0 → row.led.acked ≡ [] → RowStarts nothing_said a g row
unfolding acked_from
fresh_row a g row start len none =
    let le : least_at a row ≤ len_in row.list = least_below (λ (m : Member). holds_at a row m.node) a.members (len_in row.list) in
    record { told = λ e. start; goes = λ e. absurd (cc); acked = λ m. ap (acked_from m) none; within = omega arith; below = λ e. omega arith; least = λ e q. omega arith; empty = λ e q. len }

-- of one group something is under way
abbrev pub loosened : Floors → List ℕ → Floors
loosened x g = record x { settled = λ k. if bytes_eq g k then false else x.settled k }

pub loose_here : (x : Floors) (g : List ℕ) → (loosened x g).settled g ≡ true → ⊥
loose_here x g e =
    let z : false ≡ true = sym (ap (λ b. if b then false else x.settled g) (text_self g)) ∙ e in cc

loose_there : (x : Floors) (g k : List ℕ) → (g ≡ k → ⊥) → (loosened x g).settled k ≡ x.settled k
loose_there x g k ne = ap (λ b. if b then false else x.settled k) (text_other g k ne)

pub loosen_here : (x : Floors) (a : Seat) (g : List ℕ) (row : GroupRow) → RowStarts x a g row → RowStarts (loosened x g) a g row
loosen_here x a g row z =
    record { told = z.told; goes = z.goes; acked = z.acked; within = z.within; below = z.below; least = λ e. absurd (loose_here x g e); empty = λ e. absurd (loose_here x g e) }

pub loosen_beside : (x : Floors) (a : Seat) (g k : List ℕ) (row : GroupRow) → (g ≡ k → ⊥) → RowStarts x a k row → RowStarts (loosened x g) a k row
loosen_beside x a g k row ne z =
    let same : (loosened x g).settled k ≡ x.settled k = loose_there x g k ne in
    record { told = z.told; goes = z.goes; acked = z.acked; within = z.within; below = z.below; least = λ e. z.least (sym same ∙ e); empty = λ e. z.empty (sym same ∙ e) }

pub settle_beside : (x : Floors) (a : Seat) (g k : List ℕ) (row : GroupRow) → (g ≡ k → ⊥) → RowStarts (loosened x g) a k row → RowStarts x a k row
settle_beside x a g k row ne z =
    let same : (loosened x g).settled k ≡ x.settled k = loose_there x g k ne in
    record { told = z.told; goes = z.goes; acked = z.acked; within = z.within; below = z.below; least = λ e. z.least (same ∙ e); empty = λ e. z.empty (same ∙ e) }

-- the history before a step and the view of the node then; whether it has entered another one; and the floors of its lists
pub record Frame : Type 0 where
  pub history : History
  pub view : ViewId
  pub entered : Bool
  pub floors : Floors

-- the node is in its view of before, or has recorded that it entered its view
abbrev pub Came : Bool → ViewId → ℕ → ViewId → List Happened → Type 0
Came false old n v rs = v ≡ old
Came true old n v rs = (ms : List Member) × Has (happened.In n v ms) rs

came_more : (b : Bool) (old : ViewId) (n : ℕ) (v : ViewId) (rs more : List Happened) → Came b old n v rs → Came b old n v (rs ++ more)
came_more false old n v rs more k = k
came_more true old n v rs more k = (k.0, append_has_left (happened.In n v k.0) rs more k.1)

-- T: the groups whose tally is of the phase that runs; G: those that the node leads
pub record Rows (x : Floors) (T G : List ℕ → Type 0) (s : Core) : Type 0 where
  pub order : InNameOrder s.groups
  pub starts : (g : List ℕ) → RowStarts x (seat s) g (found s g)
  pub tallies : (g : List ℕ) → T g → RowIs (leads_row s (found s g)) (found s g)
  pub led : (g : List ℕ) → G g → leads_row s (found s g) ≡ true

-- ---- what is recorded

-- a view that is entered has no records of the node yet
abbrev pub FreshIn : List Happened → History → Happened → Type 0
FreshIn now before (happened.In n v ms) =
    (g : List ℕ) → (puts_of n v g (earlier now before) ≡ []) × (base_of n v g (earlier now before) ≡ empty_state)
FreshIn now before _ = Unit {0}

abbrev pub Fresh : List Happened → History → Type 0
Fresh now h = Within FreshIn now h

-- the rows of a put are right, or someone put the entry there before
abbrev pub PutFact : List Happened → History → ℕ → ViewId → List ℕ → ℕ → Entry → Type 0
PutFact now h n v g i e = (Fresh now h → HasRows (state_at n v g i (earlier now h)) e) ⊎ ((m : ℕ) × Has (happened.Put m v g i e) (earlier now h))

abbrev pub RecordFact : List Happened → History → Happened → Type 0
RecordFact now h (happened.Put n v g i e) = PutFact now h n v g i e
RecordFact now h _ = Unit {0}

-- of each put since the node entered a view
abbrev pub Facts : History → List Happened → Type 0
Facts h now = Since RecordFact now h

-- the records say what state the list has, and how long it is
pub record StateIs (n : ℕ) (v : ViewId) (g : List ℕ) (l : Option GroupView) (rs : List Happened) : Type 0 where
  pub state : state_in l ≡ state_now n v g rs
  pub len : len_in l ≡ length (puts_of n v g rs)

pub record At (h : Frame) (T G : List ℕ → Type 0) (s : Core) : Type 0 where
  pub came : Came h.entered h.view s.views.me s.views.view s.records
  pub rows : Rows h.floors T G s
  pub facts : Facts h.history (reverse s.records)
  pub states : Fresh (reverse s.records) h.history → (g : List ℕ) → StateIs s.views.me s.views.view g (found s g).list (earlier (reverse s.records) h.history)

silent_fact : (h : History) (now : List Happened) (r : Happened) → Silent r → Facts h now → Facts h (r ∷ now)
silent_fact h now (happened.Put n v g i e) z k = absurd z
silent_fact h now (happened.In n v ms) z k = absurd z
silent_fact h now (happened.Base n v g old len st) z k = absurd z
silent_fact h now _ z k = (tt, k)

pub silent_state : (n : ℕ) (v : ViewId) (g : List ℕ) (l : Option GroupView) (rs : List Happened) (r : Happened) → Silent r → StateIs n v g l rs → StateIs n v g l (r ∷ rs)
silent_state n v g l rs (happened.Put m u h i e) z k = absurd z
silent_state n v g l rs (happened.In m u ms) z k = absurd z
silent_state n v g l rs (happened.Base m u h old len st) z k = absurd z
silent_state n v g l rs _ z k = record { state = k.state; len = k.len }

-- ---- lists with one more entry

length_pushed : (xs : List Entry) (e : Entry) → length (xs ++ e ∷ []) ≡ length xs + 1
length_pushed xs e = length-append xs (e ∷ [])

pub take_all : (xs : List Entry) → take (length xs) xs ≡ xs
take_all [] = refl
take_all (x ∷ xs) = ap (λ l. x ∷ l) (take_all xs)

pub is_list_self : (n : ℕ) (v : ViewId) (g : List ℕ) → is_list n v g n v g ≡ true
is_list_self n v g =
    let a : (n == n) ≡ true = eq-eqb n n refl in
    let b : same_view v v ≡ true = view_self v in
    let c : bytes_eq g g ≡ true = text_self g in
    (λ i. a i && (b i && c i))
  where
    view_self : (v : ViewId) → same_view v v ≡ true
    view_self v = grind (arith, nat_tests)

pub is_list_other : (n : ℕ) (v : ViewId) (k : List ℕ) (m : ℕ) (u : ViewId) (g : List ℕ) → (g ≡ k → ⊥) → is_list n v k m u g ≡ false
is_list_other n v k m u g ne = ap (λ c. m == n && (same_view u v && c)) (text_other g k ne) ∙ none (m == n) (same_view u v)
  where
    none : (a b : Bool) → (a && (b && false)) ≡ false
    none true true = refl
    none true false = refl
    none false b = refl

pub state_pushed : (n : ℕ) (v : ViewId) (g : List ℕ) (l : Option GroupView) (rs : List Happened) (i : ℕ) (e : Entry) → StateIs n v g l rs → StateIs n v g (Some (with_entry (list_or_new l) v e)) (happened.Put n v g i e ∷ rs)
unfolding with_entry
state_pushed n v g l rs i e k =
    let xs : List Entry = puts_of n v g rs in
    let base : GroupState = base_of n v g rs in
    let own : puts_of n v g (happened.Put n v g i e ∷ rs) ≡ puts_of n v g rs ++ e ∷ [] = ap (λ b. if b then puts_of n v g rs ++ e ∷ [] else puts_of n v g rs) (is_list_self n v g) in
    let now : after (state_in l) v (len_in l) e ≡ after (fold_from v base 0 xs) v (length xs) e = λ j. after (k.state j) v (k.len j) e in
    let from : length xs ≡ 0 + length xs = omega arith in
    let pushed : fold_from v base 0 (xs ++ e ∷ []) ≡ after (fold_from v base 0 xs) v (0 + length xs) e = fold_pushed v xs base 0 e in
    let whole : fold_from v base 0 (puts_of n v g (happened.Put n v g i e ∷ rs)) ≡ fold_from v base 0 (xs ++ e ∷ []) = ap (fold_from v base 0) own in
    record {
      state = now ∙ ap (λ z. after (fold_from v base 0 xs) v z e) from ∙ sym pushed ∙ sym whole;
      len = ap (λ z. z + 1) k.len ∙ sym (length_pushed (puts_of n v g rs) e) ∙ sym (ap length own);
    }

pub state_beside : (n : ℕ) (v : ViewId) (k : List ℕ) (l : Option GroupView) (rs : List Happened) (m : ℕ) (u : ViewId) (g : List ℕ) (i : ℕ) (e : Entry) → (g ≡ k → ⊥) → StateIs n v k l rs → StateIs n v k l (happened.Put m u g i e ∷ rs)
state_beside n v k l rs m u g i e ne s =
    let same : puts_of n v k (happened.Put m u g i e ∷ rs) ≡ puts_of n v k rs = ap (λ b. if b then puts_of n v k rs ++ e ∷ [] else puts_of n v k rs) (is_list_other n v k m u g ne) in
    record { state = s.state ∙ sym (ap (fold_from v (base_of n v k rs) 0) same); len = s.len ∙ sym (ap length same) }

-- ---- rows

-- what is said of a group's row goes on where one row changes
pub row_with : (P : List ℕ → GroupRow → Type 0) (s : Core) (g : List ℕ) (f : GroupRow → GroupRow) → KeepsName f → InNameOrder s.groups → P g (f (found s g)) → ((k : List ℕ) → (g ≡ k → ⊥) → P k (found s k)) → (k : List ℕ) → P k (found (with_row s g f) k)
unfolding with_row row_of
row_with P s g f keeps order here there k = by (cases_text g k)
  where
    by : (g ≡ k) ⊎ (g ≡ k → ⊥) → P k (found (with_row s g f) k)
    by (inl e) = subst (λ z. P z (found (with_row s g f) z)) e (subst (P g) (sym (row_here g f keeps s order)) here)
    by (inr ne) = subst (P k) (sym (row_there g f keeps s k ne)) (there k ne)

-- a row changes
pub rows_for : (x y : Floors) (T G U : List ℕ → Type 0) (s : Core) (g : List ℕ) (f : GroupRow → GroupRow) → KeepsName f → ((x : GroupRow) → (f x).leader ≡ x.leader) → ((k : List ℕ) → U k → (g ≡ k → ⊥) → T k) → (U g → RowIs (leads_row s (found s g)) (f (found s g))) → RowStarts y (seat s) g (f (found s g)) → ((k : List ℕ) → (g ≡ k → ⊥) → RowStarts x (seat s) k (found s k) → RowStarts y (seat s) k (found s k)) → Rows x T G s → Rows y U G (with_row s g f)
unfolding with_row
rows_for x y T G U s g f keeps leader others own begins rest a =
    record {
      order = rows_ordered g f keeps s a.order;
      starts = row_with (RowStarts y (seat s)) s g f keeps a.order begins (λ k ne. rest k ne (a.starts k));
      tallies = row_with (λ k row. U k → RowIs (leads_row s row) row) s g f keeps a.order (λ u. subst (λ b. RowIs b (f (found s g))) (sym lead) (own u)) (λ k ne u. a.tallies k (others k u ne));
      led = row_with (λ k row. G k → leads_row s row ≡ true) s g f keeps a.order (λ i. lead ∙ a.led g i) (λ k ne. a.led k);
    }
  where
    lead : leads_row s (f (found s g)) ≡ leads_row s (found s g)
    lead = ap (λ o. is_this s.views.me (leader_by s.config.mode s.views.view.coord o)) (leader (found s g))

module _ (h : Frame) where
  -- other groups
  pub at_for : (T G U V : List ℕ → Type 0) (s : Core) → ((g : List ℕ) → U g → T g) → ((g : List ℕ) → V g → leads_row s (found s g) ≡ true) → At h T G s → At h U V s
  at_for T G U V s less led a =
      record { came = a.came; rows = record { order = a.rows.order; starts = a.rows.starts; tallies = λ g t. a.rows.tallies g (less g t); led = led }; facts = a.facts; states = a.states }

  -- the entry is put at the end of a list
  pub at_put_for : (T G U : List ℕ → Type 0) (s : Core) (g : List ℕ) (e : Entry) → PutFact (reverse s.records) h.history s.views.me s.views.view g (len_in (found s g).list) e → ((k : List ℕ) → U k → (g ≡ k → ⊥) → T k) → (U g → RowIs (leads_row s (found s g)) (record (found s g) { list = Some (with_entry (list_or_new (found s g).list) s.views.view e) })) → At h T G s → At (record h { floors = loosened h.floors g }) U G (put s g e)
  unfolding put recorded with_row row_of len_of list_of with_entry
  at_put_for T G U s g e fact others own a =
      let f : GroupRow → GroupRow = λ row. record row { list = Some (with_entry (list_or_new row.list) s.views.view e) } in
      let old = a.rows.starts g in
      let longer : least_at (seat s) (found s g) ≤ least_at (seat s) (f (found s g)) = least_more (seat s) (found s g) (f (found s g)) (omega arith) (λ m. omega arith) in
      let begins : RowStarts (loosened h.floors g) (seat s) g (f (found s g)) = record { told = old.told; goes = old.goes; acked = old.acked; within = let z = old.within in omega arith; below = λ e. let z = old.below e in omega arith; least = λ e. absurd (loose_here h.floors g e); empty = λ e. absurd (loose_here h.floors g e) } in
      let rows : Rows (loosened h.floors g) U G (with_row s g f) = rows_for h.floors (loosened h.floors g) T G U s g f (λ x. refl) (λ x. refl) others own begins (λ k ne z. loosen_beside h.floors (seat s) g k (found s k) ne z) a.rows in
      record {
        came = came_more h.entered h.view s.views.me s.views.view s.records (r ∷ []) a.came;
        rows = record { order = rows.order; starts = rows.starts; tallies = rows.tallies; led = rows.led };
        facts = subst (Facts h.history) (sym turned) (fact, a.facts);
        states = λ fresh. subst (λ rs. (k : List ℕ) → StateIs s.views.me s.views.view k (found (with_row s g f) k).list (earlier rs h.history)) (sym turned) (new (subst (λ rs. Fresh rs h.history) turned fresh).1);
      }
    where
      r : Happened
      r = happened.Put s.views.me s.views.view g (len_in (found s g).list) e

      turned : reverse (s.records ++ r ∷ []) ≡ r ∷ reverse s.records
      turned = reverse-append s.records (r ∷ [])

      new : Fresh (reverse s.records) h.history → (k : List ℕ) → StateIs s.views.me s.views.view k (found (with_row s g (λ row. record row { list = Some (with_entry (list_or_new row.list) s.views.view e) })) k).list (r ∷ earlier (reverse s.records) h.history)
      new fresh =
          row_with (λ k row. StateIs s.views.me s.views.view k row.list (r ∷ earlier (reverse s.records) h.history)) s g (λ row. record row { list = Some (with_entry (list_or_new row.list) s.views.view e) }) (λ x. refl) a.rows.order (state_pushed s.views.me s.views.view g (found s g).list (earlier (reverse s.records) h.history) (len_in (found s g).list) e (a.states fresh g)) (λ k ne. state_beside s.views.me s.views.view k (found s k).list (earlier (reverse s.records) h.history) s.views.me s.views.view g (len_in (found s g).list) e ne (a.states fresh k))

  module _ (T G : List ℕ → Type 0) where
    pub at_calm : (c d : Core) → Calm c d → At h T G c → At h T G d
    at_calm c d k a =
        let x : At h T G (record c { groups = d.groups; views = d.views; config = d.config; records = d.records }) = subst (λ (z : List GroupRow × Views × Config × List Happened). At h T G (record c { groups = z.0; views = z.1; config = z.2; records = z.3 })) (λ i. (sym k.groups i, sym k.views i, sym k.config i, sym k.records i)) a in
        record { came = x.came; rows = record { order = x.rows.order; starts = x.rows.starts; tallies = x.rows.tallies; led = x.rows.led }; facts = x.facts; states = x.states }

    -- the coordinator's table changes
    pub at_table : (s : Core) (table : List Leader) → At h T G s → At h T G (record s { names = table })
    at_table s table a =
        record { came = a.came; rows = record { order = a.rows.order; starts = a.rows.starts; tallies = a.rows.tallies; led = a.rows.led }; facts = a.facts; states = a.states }

    pub at_recorded : (s : Core) (r : Happened) → Silent r → At h T G s → At h T G (recorded s r)
    unfolding recorded
    at_recorded s r silent a =
        let turned : reverse (s.records ++ r ∷ []) ≡ r ∷ reverse s.records = reverse-append s.records (r ∷ []) in
        record {
          came = came_more h.entered h.view s.views.me s.views.view s.records (r ∷ []) a.came;
          rows = record { order = a.rows.order; starts = a.rows.starts; tallies = a.rows.tallies; led = a.rows.led };
          facts = subst (Facts h.history) (sym turned) (silent_fact h.history (reverse s.records) r silent a.facts);
          states = λ fresh. subst (λ rs. (k : List ℕ) → StateIs s.views.me s.views.view k (found s k).list (earlier rs h.history)) (sym turned) (λ k. silent_state s.views.me s.views.view k (found s k).list (earlier (reverse s.records) h.history) r silent (a.states (subst (λ rs. Fresh rs h.history) turned fresh).1 k));
        }

    pub keeps_quiet : KeepsQuiet (At h T G)
    keeps_quiet = record { calm = at_calm; silent = at_recorded }

    pub at_views : (s : Core) (v : Views) → v.me ≡ s.views.me → v.view ≡ s.views.view → v.members ≡ s.views.members → At h T G s → At h T G (record s { views = v })
    at_views s v me at ms a =
        record {
          came = subst (λ (z : ℕ × ViewId). Came h.entered h.view z.0 z.1 s.records) (λ i. (sym me i, sym at i)) a.came;
          rows = record { order = a.rows.order; starts = λ g. subst (λ (z : Seat). RowStarts h.floors z g (found s g)) (λ i. record { me = sym me i; coord = (sym at i).coord; mode = s.config.mode; members = sym ms i }) (a.rows.starts g); tallies = λ g t. subst (λ b. RowIs b (found s g)) (same g) (a.rows.tallies g t); led = λ g t. sym (same g) ∙ a.rows.led g t };
          facts = a.facts;
          states = λ fresh k. subst (λ (z : ℕ × ViewId). StateIs z.0 z.1 k (found s k).list (earlier (reverse s.records) h.history)) (λ i. (sym me i, sym at i)) (a.states fresh k);
        }
      where
        same : (g : List ℕ) → leads_row s (found s g) ≡ leads_row (record s { views = v }) (found s g)
        same g = λ i. is_this (sym me i) (leader_by s.config.mode (sym at i).coord (found s g).leader)

    -- a row changes, whose list has the same state and length
    module _ (y : Floors) (U : List ℕ → Type 0) where
      pub at_row_for : (s : Core) (g : List ℕ) (f : GroupRow → GroupRow) → KeepsName f → ((x : GroupRow) → (f x).leader ≡ x.leader) → ((x : GroupRow) → state_in (f x).list ≡ state_in x.list) → ((x : GroupRow) → len_in (f x).list ≡ len_in x.list) → ((k : List ℕ) → U k → (g ≡ k → ⊥) → T k) → (U g → RowIs (leads_row s (found s g)) (f (found s g))) → RowStarts y (seat s) g (f (found s g)) → ((k : List ℕ) → (g ≡ k → ⊥) → RowStarts h.floors (seat s) k (found s k) → RowStarts y (seat s) k (found s k)) → At h T G s → At (record h { floors = y }) U G (with_row s g f)
      unfolding with_row
      at_row_for s g f keeps leader states lens others own begins rest a =
          let rows : Rows y U G (with_row s g f) = rows_for h.floors y T G U s g f keeps leader others own begins rest a.rows in
          record {
            came = a.came;
            rows = record { order = rows.order; starts = rows.starts; tallies = rows.tallies; led = rows.led };
            facts = a.facts;
            states = λ fresh. row_with (λ k row. StateIs s.views.me s.views.view k row.list (earlier (reverse s.records) h.history)) s g f keeps a.rows.order (let b = a.states fresh g in record { state = states (found s g) ∙ b.state; len = lens (found s g) ∙ b.len }) (λ k ne. a.states fresh k);
          }

    pub at_row : (s : Core) (g : List ℕ) (f : GroupRow → GroupRow) → KeepsName f → ((x : GroupRow) → (f x).leader ≡ x.leader) → ((x : GroupRow) → state_in (f x).list ≡ state_in x.list) → ((x : GroupRow) → len_in (f x).list ≡ len_in x.list) → ((x : GroupRow) → start_in (f x).list ≡ start_in x.list) → ((x : GroupRow) (m : ℕ) → acked_from m (f x).led.acked ≡ acked_from m x.led.acked) → (T g → RowIs (leads_row s (found s g)) (f (found s g))) → At h T G s → At h T G (with_row s g f)
    at_row s g f keeps leader states lens starts acked own a =
        at_row_for h.floors T s g f keeps leader states lens (λ k t ne. t) own (row_same (seat s) g (found s g) (f (found s g)) (leader (found s g)) (starts (found s g)) (lens (found s g)) (acked (found s g)) (a.rows.starts g)) (λ k ne z. z) a

    -- what the leader puts
    pub put_fact : (s : Core) (g : List ℕ) (e : Entry) → HasRows (state_in (found s g).list) e → At h T G s → PutFact (reverse s.records) h.history s.views.me s.views.view g (len_in (found s g).list) e
    put_fact s g e ok a = inl (λ fresh. subst (λ st. HasRows st e) (at (a.states fresh g)) ok)
      where
        rs : List Happened
        rs = earlier (reverse s.records) h.history

        at : StateIs s.views.me s.views.view g (found s g).list rs → state_in (found s g).list ≡ state_at s.views.me s.views.view g (len_in (found s g).list) rs
        at k =
            let all : take (len_in (found s g).list) (puts_of s.views.me s.views.view g rs) ≡ puts_of s.views.me s.views.view g rs = ap (λ i. take i (puts_of s.views.me s.views.view g rs)) k.len ∙ take_all (puts_of s.views.me s.views.view g rs) in
            k.state ∙ sym (ap (fold_from s.views.view (base_of s.views.me s.views.view g rs) 0) all)
