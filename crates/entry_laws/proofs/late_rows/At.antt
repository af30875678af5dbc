-- In the middle of a step: what a node records of who is late is honest, and what it counts.
use Rattle.std.proofs.Common.{◌≡◌, ◌≤◌, ◌<◌, ◌⊎◌, ℕ, ◌+◌, List, [], ◌∷◌, ◌++◌, length, Option, Some, None, Bool, true, false, refl, sym, ap, ◌∙◌, subst, inl, inr}
use Rattle.std.specs.Prelude.{◌&&◌, ◌||◌, find, reverse, nat_le, nat_lt, if◌then◌else◌}
use Rattle.std.specs.List.{list_any}
use Rattle.std.proofs.lemmas.List.{reverse-append}
use Rattle.rsct_packet.specs.declared.ids.ViewId.{ViewId}
use Rattle.rsct_packet.specs.declared.ids.ProviderId.{ProviderId}
use Rattle.rsct_packet.specs.declared.ids.Member.{Member}
use Rattle.rsct_packet.specs.Ids.{last_u32}
use Rattle.rsct_packet.specs.Search.{Has}
use Rattle.proposal_core.specs.declared.entry.Vote.{Vote}
use Rattle.proposal_core.specs.declared.entry.Vote.TheVariants as vote
use Rattle.proposal_core.specs.declared.entry.Entry.{Entry}
use Rattle.proposal_core.specs.declared.entry.Entry.TheVariants.{Phase, Approve, Reject}
use Rattle.proposal_core.specs.Sizes.{entry_len}
use Rattle.proposal_core.specs.declared.entry.RowVote.{RowVote}
use Rattle.proposal_core.specs.declared.entry.RowVote.TheVariants as row_vote
use Rattle.proposal_core.specs.declared.group_state.GroupState.{GroupState}
use Rattle.proposal_core.specs.declared.group_state.Running.{Running}
use Rattle.proposal_core.specs.GroupView.{GroupView}
use Rattle.proposal_core.specs.Fold.{max_phases, fits, voters}
use Rattle.proposal_core.specs.Lists.{list_or_new, state_in, len_in, bytes_in, has_room, entry_fits}
use Rattle.vote_phases.specs.declared.voter.Voter.{Voter}
use Rattle.vote_phases.specs.Tally.{TallyView, is_open, has_open, tally_of, rows_of, outcome}
use Rattle.node_state.specs.declared.config.Config.{Config}
use Rattle.node_state.specs.declared.config.Mode.{Mode}
use Rattle.node_state.specs.declared.group.Led.{Led}
use Rattle.node_state.specs.declared.group.GroupRow.{GroupRow}
use Rattle.node_state.specs.declared.happened.Happened.{Happened}
use Rattle.node_state.specs.declared.happened.Happened.TheVariants as happened
use Rattle.node_state.specs.declared.state.Core.{Core}
use Rattle.node_state.specs.State.{InNameOrder, row_found, row_of, with_row, is_this, leader_by, leader_in, leads_in, leads, recorded, has_name}
use Rattle.node_state.specs.Settings.{view_level}
use Rattle.node_state.specs.Leading.{limit_of, first_carried, value_of, closed_by, closing, closing_of, closing_entry}
use Rattle.world_model.specs.declared.event.Event.{Event}
use Rattle.run_safety.specs.Past.{History, records_of, fold_from, Within}
use Rattle.run_safety.specs.Stays.{Stay, stays_after, stays}
use Rattle.run_safety.specs.SafeHeard.{enters}
use Rattle.node_state.proofs.NameOrder.{KeepsName, rows_ordered}
use Rattle.entry_laws.proofs.closing_rows.At.{row_with}
use Rattle.entry_laws.specs.late_rows.Announced.{members_after, members_now, late_first, RecordTold}
use Rattle.entry_laws.specs.late_rows.Late.{tick_of, opens, ticks_with, ticks_of, RecordLate}
use Rattle.view_state.specs.declared.views.Views.{Views}
use Rattle.entry_laws.proofs.closing_rows.Calms.{Silent}
use Rattle.entry_laws.proofs.closing_rows.Quiet.{KeepsQuiet}

-- the event in which a node takes its step, and the history before it
pub record Turn : Type 0 where
  pub config : Config
  pub node : ℕ
  pub event : Option Event
  pub before : History

-- the ticks of the node so far, for a group
abbrev pub ticks_now : Turn → List ℕ → List Happened → ℕ
ticks_now x g now = ticks_with x.node g x.event now (ticks_of x.node g x.before)

abbrev pub tick_here : Turn → ℕ
tick_here x = tick_of x.node x.event

-- ---- what a leader counts

-- what stands for one who was late is the default, and the ticks that were counted reach the limit
abbrev pub CountedVote : TallyView → Option RowVote → Type 0
CountedVote t None = Unit {0}
CountedVote t (Some (row_vote.Cast v)) = Unit {0}
CountedVote t (Some (row_vote.Late d)) = (d ≡ t.default_vote) × (0 < t.limit) × (t.limit ≤ t.count)
CountedVote t (Some (row_vote.Failed d)) = Unit {0}

-- of the state's voters, with its default and limit; and so many ticks less were counted than there were
pub record TallyIs (st : GroupState) (ticks less : ℕ) (t : TallyView) : Type 0 where
  pub default : t.default_vote ≡ st.attrs.default_vote
  pub limit : t.limit ≡ limit_of st.attrs st.running
  pub counted : t.count + less ≤ ticks
  pub voter : (y : Voter) → Has y t.voters → Has y.provider (voters st)
  pub vote : (y : Voter) → Has y t.voters → CountedVote t y.vote

-- ---- who was late in it

-- those with a default as late, in order
abbrev pub late_vote : ProviderId → Option RowVote → List ProviderId → List ProviderId
late_vote p None ps = ps
late_vote p (Some v) ps = late_first p v ps

abbrev pub late_voters : List Voter → List ProviderId
late_voters [] = []
late_voters (y ∷ ys) = late_vote y.provider y.vote (late_voters ys)

-- nobody was late; or each voter has a row, and the entry that would close the phase does not fit
abbrev pub Settled : Led → Option GroupView → TallyView → Type 0
Settled led l t =
    (late_voters t.voters ≡ []) ⊎ ((has_open t ≡ false) × ((e : Entry) → closing_entry led (Some t) (state_in l).running ≡ Some e → entry_fits (list_or_new l) e ≡ false))

-- where something runs
abbrev pub TallyRuns : Led → Option GroupView → ℕ → ℕ → TallyView → Type 0
TallyRuns led l ticks less t = (run : Running) → (state_in l).running ≡ Some run → TallyIs (state_in l) ticks less t × Settled led l t

-- where a row has a tally the node leads the group
abbrev pub RowIs : ℕ → ℕ → Bool → GroupRow → Type 0
RowIs ticks less led row = (t : TallyView) → row.led.tally ≡ Some t → (led ≡ true) × TallyRuns row.led row.list ticks less t

-- ---- the list of a row, by the records

pub record Folds (x : Turn) (g : List ℕ) (view : ViewId) (now : List Happened) (l : Option GroupView) : Type 0 where
  pub stay : Stay
  pub older : List Stay
  pub is : stays x.node g (now ++ records_of x.before) ≡ stay ∷ older
  pub at_view : stay.view ≡ view
  pub state : state_in l ≡ fold_from stay.view stay.base 0 stay.entries
  pub len : len_in l ≡ length stay.entries

-- a record of the node's own that moves lists or views
abbrev pub Mine : ℕ → Happened → Type 0
Mine n (happened.Up m j) = m ≡ n
Mine n (happened.Down m) = m ≡ n
Mine n (happened.In m v ms) = m ≡ n
Mine n (happened.Base m v g u len s) = m ≡ n
Mine n (happened.Put m v g i e) = m ≡ n
Mine n _ = Unit {0}

abbrev pub found_in : List GroupRow → List ℕ → GroupRow
found_in rows g = row_found g (find (has_name g) rows)

abbrev pub found : Core → List ℕ → GroupRow
found s g = found_in s.groups g

abbrev pub leads_at : Mode → ℕ → ViewId → GroupRow → Bool
leads_at mode me view row = is_this me (leader_by mode view.coord row.leader)

abbrev pub leads_row : Core → GroupRow → Bool
leads_row s row = leads_at s.config.mode s.views.me s.views.view row

pub leads_is : (s : Core) (g : List ℕ) → leads_row s (found s g) ≡ leads s g
unfolding leads leads_in leader_in row_of
leads_is s g = refl

-- T: the groups whose tally is of the phase that runs, and how many ticks less it counted; G: those that the node leads;
-- E: that it entered a view in this event
pub record AtOf (x : Turn) (T : List ℕ → ℕ → Type 0) (G : List ℕ → Type 0) (E : Type 0) (c : Config) (level : ℕ) (me : ℕ) (view : ViewId) (groups : List GroupRow) (now : List Happened) : Type 0 where
  pub me_is : me ≡ x.node
  pub config_is : c ≡ x.config
  pub level_is : level ≡ view_level x.config (members_now x.node (now ++ records_of x.before))
  pub puts : Within (RecordLate x.event) now x.before
  pub told : Within (RecordTold x.config) now x.before
  pub mine : (r : Happened) → Has r now → Mine x.node r
  pub order : InNameOrder groups
  pub folds : (g : List ℕ) → Folds x g view now (found_in groups g).list
  pub tallies : (g : List ℕ) (less : ℕ) → T g less → RowIs (ticks_now x g now) less (leads_at c.mode me view (found_in groups g)) (found_in groups g)
  pub led : (g : List ℕ) → G g → leads_at c.mode me view (found_in groups g) ≡ true
  pub entered : E → list_any (enters x.node) now ≡ true

-- what is sent, and what sessions, rings and names are, is not asked
abbrev pub At : Turn → (List ℕ → ℕ → Type 0) → (List ℕ → Type 0) → Type 0 → Core → Type 0
At x T G E s = AtOf x T G E s.config s.sessions.level s.views.me s.views.view s.groups (reverse s.records)

-- ---- rows and lists that are alike to a tally

-- the same state, length and bytes
abbrev pub Alike : Option GroupView → Option GroupView → Type 0
Alike l m = (state_in m ≡ state_in l) × (len_in m ≡ len_in l) × (bytes_in m ≡ bytes_in l)

fits_alike : (l m : Option GroupView) (e : Entry) → Alike l m → entry_fits (list_or_new m) e ≡ entry_fits (list_or_new l) e
unfolding entry_fits has_room
fits_alike l m e a = λ i. fits (a.0 i) e && (nat_lt (a.1 i) last_u32 && nat_le (a.2 i + entry_len e) last_u32)

-- the entry that closes a phase is that of the rows, and of what ballots carried
pub closing_same : (l m : Led) (t u : TallyView) (o : Option Running) → m.given ≡ l.given → u.voters ≡ t.voters → closing_entry m (Some u) o ≡ closing_entry l (Some t) o
unfolding closing_entry closing_of closing closed_by value_of
closing_same l m t u None g q = refl
closing_same l m t u (Some run) g q = ap (λ (ys : List Voter). closing_of m u run (if list_any is_open ys then None else Some (tally_of (rows_of ys)))) q ∙ by (outcome t)
  where
    one : (v : Vote) (last : Bool) → closing m u run v last ≡ closing l t run v last
    one vote.Approve last = λ i. Approve (record { proto = run.proto; phase = run.phase; rows = rows_of (q i); value = first_carried (λ x. x.value) (g i) (q i); message = first_carried (λ x. x.message) (g i) (q i) })
    one vote.Reject last = λ i. Reject (record { proto = run.proto; phase = run.phase; rows = rows_of (q i); value = None; message = first_carried (λ x. x.message) (g i) (q i) })
    one vote.Continue true = λ i. Reject (record { proto = run.proto; phase = run.phase; rows = rows_of (q i); value = None; message = first_carried (λ x. x.message) (g i) (q i) })
    one vote.Continue false = λ i. Phase (record { proto = run.proto; phase = run.phase; rows = rows_of (q i); value = first_carried (λ x. x.value) (g i) (q i); message = first_carried (λ x. x.message) (g i) (q i) })

    by : (o : Option Vote) → closing_of m u run o ≡ closing_of l t run o
    by None = refl
    by (Some v) = ap (λ e. Some e) (one v (nat_le max_phases run.phase))

pub settled_same : (led now : Led) (l m : Option GroupView) (t u : TallyView) → now.given ≡ led.given → u.voters ≡ t.voters → Alike l m → Settled led l t → Settled now m u
settled_same led now l m t u g v a (inl q) = inl (ap late_voters v ∙ q)
settled_same led now l m t u g v a (inr k) =
    inr (ap (list_any is_open) v ∙ k.0, λ e c. fits_alike l m e a ∙ k.1 e (sym (closing_same led now t u (state_in l).running g v) ∙ ap (λ (st : GroupState). closing_entry now (Some u) st.running) (sym a.0) ∙ c))

-- ---- records that move nothing

pub silent_stays : (n : ℕ) (g : List ℕ) (r : Happened) (old : List Stay) → Silent r → stays_after n g r old ≡ old
silent_stays n g (happened.Up m j) old p = absurd p
silent_stays n g (happened.Down m) old p = absurd p
silent_stays n g (happened.In m v ms) old p = absurd p
silent_stays n g (happened.Base m v h u len s) old p = absurd p
silent_stays n g (happened.Put m v h i e) old p = absurd p
silent_stays n g _ old p = refl

silent_enters : (n : ℕ) (r : Happened) → Silent r → enters n r ≡ false
silent_enters n (happened.In m v ms) p = absurd p
silent_enters n _ p = refl

silent_opens : (n : ℕ) (g : List ℕ) (r : Happened) → Silent r → opens n g r ≡ false
silent_opens n g (happened.Put m v h i e) p = absurd p
silent_opens n g _ p = refl

silent_late : (event : Option Event) (now : List Happened) (before : History) (r : Happened) → Silent r → RecordLate event now before r
silent_late event now before (happened.Put m v h i e) p = absurd p
silent_late event now before _ p = tt

silent_told : (c : Config) (now : List Happened) (before : History) (r : Happened) → Silent r → RecordTold c now before r
silent_told c now before (happened.Put m v h i e) p = absurd p
silent_told c now before _ p = tt

silent_members : (n : ℕ) (r : Happened) (old : List Member) → Silent r → members_after n r old ≡ old
silent_members n (happened.In m v ms) old p = absurd p
silent_members n _ old p = refl

silent_mine : (n : ℕ) (r : Happened) → Silent r → Mine n r
silent_mine n (happened.Up m j) p = absurd p
silent_mine n (happened.Down m) p = absurd p
silent_mine n (happened.In m v ms) p = absurd p
silent_mine n (happened.Base m v h u len s) p = absurd p
silent_mine n (happened.Put m v h i e) p = absurd p
silent_mine n _ p = tt

pub ticks_silent : (x : Turn) (g : List ℕ) (r : Happened) (now : List Happened) → enters x.node r ≡ false → opens x.node g r ≡ false → ticks_now x g (r ∷ now) ≡ ticks_now x g now
ticks_silent x g r now a b =
    λ i. (if (a i || list_any (enters x.node) now) then tick_here x else if (b i || list_any (opens x.node g) now) then 0 else tick_here x + ticks_of x.node g x.before)

pub folds_silent : (x : Turn) (g : List ℕ) (view : ViewId) (r : Happened) (now : List Happened) (l : Option GroupView) → Silent r → Folds x g view now l → Folds x g view (r ∷ now) l
folds_silent x g view r now l p f =
    record { stay = f.stay; older = f.older; is = silent_stays x.node g r (stays x.node g (now ++ records_of x.before)) p ∙ f.is; at_view = f.at_view; state = f.state; len = f.len }

module _ (x : Turn) where
  module _ (T : List ℕ → ℕ → Type 0) (G : List ℕ → Type 0) (E : Type 0) where
    of_silent : (c : Config) (level me : ℕ) (view : ViewId) (groups : List GroupRow) (r : Happened) (now : List Happened) → Silent r → AtOf x T G E c level me view groups now → AtOf x T G E c level me view groups (r ∷ now)
    of_silent c level me view groups r now p a =
        record {
          me_is = a.me_is;
          config_is = a.config_is;
          level_is = a.level_is ∙ ap (view_level x.config) (sym (silent_members x.node r (members_now x.node (now ++ records_of x.before)) p));
          puts = (silent_late x.event now x.before r p, a.puts);
          told = (silent_told x.config now x.before r p, a.told);
          mine = λ y i. by y i;
          order = a.order;
          folds = λ g. folds_silent x g view r now (found_in groups g).list p (a.folds g);
          tallies = λ g less t. subst (λ k. RowIs k less (leads_at c.mode me view (found_in groups g)) (found_in groups g)) (sym (ticks_silent x g r now (silent_enters x.node r p) (silent_opens x.node g r p))) (a.tallies g less t);
          led = a.led;
          entered = λ e. ap (λ b. b || list_any (enters x.node) now) (silent_enters x.node r p) ∙ a.entered e;
        }
      where
        by : (y : Happened) → Has y (r ∷ now) → Mine x.node y
        by y (inl e) = subst (Mine x.node) (sym e) (silent_mine x.node r p)
        by y (inr i) = a.mine y i

    pub at_recorded : (s : Core) (r : Happened) → Silent r → At x T G E s → At x T G E (recorded s r)
    unfolding recorded
    at_recorded s r p a =
        subst (AtOf x T G E s.config s.sessions.level s.views.me s.views.view s.groups) (sym (reverse-append s.records (r ∷ []))) (of_silent s.config s.sessions.level s.views.me s.views.view s.groups r (reverse s.records) p a)

    pub keeps_quiet : KeepsQuiet (At x T G E)
    keeps_quiet =
        record {
          calm = λ c d k a. subst (λ (z : Config × ℕ × Views × List GroupRow × List Happened). AtOf x T G E z.0 z.1 (z.2).me (z.2).view z.3 (reverse z.4)) (λ i. (sym k.config i, sym k.level i, sym k.views i, sym k.groups i, sym k.records i)) a;
          silent = at_recorded;
        }

  -- other groups
  pub at_for : (T U : List ℕ → ℕ → Type 0) (G V : List ℕ → Type 0) (E F : Type 0) (s : Core) → ((g : List ℕ) (less : ℕ) → U g less → T g less) → ((g : List ℕ) → V g → leads_row s (found s g) ≡ true) → (F → E) → At x T G E s → At x U V F s
  at_for T U G V E F s less led on a =
      record { me_is = a.me_is; config_is = a.config_is; level_is = a.level_is; puts = a.puts; told = a.told; mine = a.mine; order = a.order; folds = a.folds; tallies = λ g k t. a.tallies g k (less g k t); led = led; entered = λ f. a.entered (on f) }

  -- ---- a row changes, and its list's state does not

  folds_same : (g : List ℕ) (view : ViewId) (now : List Happened) (l m : Option GroupView) → Alike l m → Folds x g view now l → Folds x g view now m
  folds_same g view now l m a f = record { stay = f.stay; older = f.older; is = f.is; at_view = f.at_view; state = a.0 ∙ f.state; len = a.1 ∙ f.len }

  -- where the state is as it was, so is the tally
  pub row_is_same : (ticks less : ℕ) (led : Bool) (row now : GroupRow) → now.led.tally ≡ row.led.tally → now.led.given ≡ row.led.given → Alike row.list now.list → RowIs ticks less led row → RowIs ticks less led now
  row_is_same ticks less led row now t g l k y e =
      let z = k y (sym t ∙ e) in
      (z.0, λ run r. let w = z.1 run (ap (λ (st : GroupState). st.running) (sym l.0) ∙ r) in (subst (λ st. TallyIs st ticks less y) (sym l.0) w.0, settled_same row.led now.led row.list now.list y y g refl l w.1))

  module _ (T U : List ℕ → ℕ → Type 0) (G : List ℕ → Type 0) (E : Type 0) where
    pub at_row_any : (s : Core) (g : List ℕ) (f : GroupRow → GroupRow) → KeepsName f → Alike (found s g).list (f (found s g)).list → ((k : List ℕ) (less : ℕ) → U k less → (g ≡ k → ⊥) → T k less) → ((less : ℕ) → U g less → RowIs (ticks_now x g (reverse s.records)) less (leads_row s (f (found s g))) (f (found s g))) → (G g → leads_row s (f (found s g)) ≡ true) → At x T G E s → At x U G E (with_row s g f)
    unfolding with_row
    at_row_any s g f keeps list others own led a =
        record {
          me_is = a.me_is;
          config_is = a.config_is;
          level_is = a.level_is;
          puts = a.puts;
          told = a.told;
          mine = a.mine;
          order = rows_ordered g f keeps s a.order;
          folds = row_with (λ k row. Folds x k s.views.view (reverse s.records) row.list) s g f keeps a.order (folds_same g s.views.view (reverse s.records) (found s g).list (f (found s g)).list list (a.folds g)) (λ k ne. a.folds k);
          tallies = λ k less. row_with (λ k row. U k less → RowIs (ticks_now x k (reverse s.records)) less (leads_row s row) row) s g f keeps a.order (own less) (λ k ne u. a.tallies k less (others k less u ne)) k;
          led = row_with (λ k row. G k → leads_row s row ≡ true) s g f keeps a.order led (λ k ne. a.led k);
          entered = a.entered;
        }

    pub at_row_for : (s : Core) (g : List ℕ) (f : GroupRow → GroupRow) → KeepsName f → ((y : GroupRow) → (f y).leader ≡ y.leader) → ((y : GroupRow) → Alike y.list (f y).list) → ((k : List ℕ) (less : ℕ) → U k less → (g ≡ k → ⊥) → T k less) → ((less : ℕ) → U g less → RowIs (ticks_now x g (reverse s.records)) less (leads_row s (found s g)) (f (found s g))) → At x T G E s → At x U G E (with_row s g f)
    at_row_for s g f keeps leader list others own a =
        at_row_any s g f keeps (list (found s g)) others (λ less u. subst (λ b. RowIs (ticks_now x g (reverse s.records)) less b (f (found s g))) (sym lead) (own less u)) (λ i. lead ∙ a.led g i) a
      where
        lead : leads_row s (f (found s g)) ≡ leads_row s (found s g)
        lead = ap (λ o. is_this s.views.me (leader_by s.config.mode s.views.view.coord o)) (leader (found s g))
