-- What the leader of a group does.
use Rattle.std.proofs.Common.{◌≡◌, ◌≤◌, ◌⊎◌, ℕ, zero, suc, ◌-◌, max, List, [], ◌∷◌, drop, Option, Some, None, Bool, true, false, refl, sym, ap, ◌∙◌, subst, inl, inr, arith}
use Rattle.std.proofs.lemmas.Bool.Decides.{nat_tests}
use Rattle.std.specs.Str.{bytes_eq}
use Rattle.std.specs.Prelude.{◌&&◌, ◌==◌, not, filter, is_none, nat_le, reverse, if◌then◌else◌}
use Rattle.std.proofs.lemmas.Bool.{and_parts, eqb-true, eq-eqb, ne_eqb}
use Rattle.rsct_packet.specs.declared.ids.ViewId.{ViewId}
use Rattle.rsct_packet.specs.declared.ids.Member.{Member}
use Rattle.rsct_packet.specs.declared.ids.ProviderId.{ProviderId}
use Rattle.rsct_packet.specs.Providers.{among}
use Rattle.group_attr.specs.declared.attrs.Phases.{Phases}
use Rattle.group_attr.specs.declared.attrs.Phases.TheVariants.{One, Many}
use Rattle.proposal_core.specs.declared.proposal.Cause.TheVariants.{Died, Gone}
use Rattle.proposal_core.specs.declared.proposal.Proposal.{Proposal}
use Rattle.proposal_core.specs.declared.entry.Entry.{Entry}
use Rattle.proposal_core.specs.declared.entry.Entry.TheVariants.{Once, Begin}
use Rattle.proposal_core.specs.declared.group_state.GroupState.{GroupState}
use Rattle.proposal_core.specs.declared.group_state.Running.{Running}
use Rattle.proposal_core.specs.Fold.{max_phases, can_begin, fits, apply, after, voters}
use Rattle.proposal_core.specs.GroupView.{GroupView}
use Rattle.proposal_core.specs.Lists.{list_or_new, state_in, len_in, has_room, entry_fits, with_entry, forgotten}
use Rattle.batch_rules.specs.Waiting.{WaitingView, add_failure}
use Rattle.vote_phases.specs.Tally.{TallyView}
use Rattle.node_state.specs.declared.config.Mode.{Mode}
use Rattle.node_state.specs.declared.config.Mode.TheVariants.{Fixed, Asked, Rings}
use Rattle.node_state.specs.declared.group.Acked.{Acked}
use Rattle.node_state.specs.declared.group.GroupRow.{GroupRow}
use Rattle.node_state.specs.declared.group.Led.{Led}
use Rattle.node_state.specs.declared.packet.Body.TheVariants as body
use Rattle.node_state.specs.declared.state.Core.{Core}
use Rattle.node_state.specs.State.{is_this, leader_by, acked_from, acked_raised, row_of, with_led, led_of, list_of, state_of, len_of, fits_at_end, list_forgotten, forget_below, leader_of, others, least_acked}
use Rattle.node_state.specs.Sending.{send_all}
use Rattle.node_state.specs.HandOn.{Answering, hand_on}
use Rattle.node_state.specs.Leading.{put, put_and_hand, forget_least, with_waiting, wait_if, new_members_wait, appended, append_if_fits, tally_for, tally_set, tally_opened, closing_entry, is_phase, closes_from, closes, begin_many, begins}
use Rattle.node_state.proofs.NameOrder.{cases_text, text_self, text_other}
use Rattle.entry_laws.proofs.closing_rows.Quiet.{at_fold, at_handed}
use Rattle.entry_laws.specs.closing_rows.Rows.{start_in, HasRows, TallyFits}
use Rattle.entry_laws.proofs.closing_rows.At.{found, leads_row, Seat, seat, leader_at, leads_by, holds_at, least_at, least_is, least_below, least_more, Floors, RowStarts, row_same, loosened, loose_here, loosen_here, settle_beside, RowIs, Frame, PutFact, At, at_put_for, at_calm, at_row, at_row_for, put_fact, keeps_quiet}
use Rattle.entry_laws.proofs.closing_rows.Calms.{calm_all}
use Rattle.entry_laws.proofs.closing_rows.Tallies.{opened_fits, idle_voters, closing_rows}
use Rattle.step_walk.proofs.Asides.{forgotten_len, forgotten_state}
use Rattle.row_laws.proofs.honest_votes.Changes.{once_idle, late_same}

-- ---- lists

-- up to the length
forgotten_start : (l : Option GroupView) (n : ℕ) → n ≤ len_in l → start_in (list_forgotten n l) ≡ max (start_in l) n
unfolding forgotten
forgotten_start None n le = omega arith
forgotten_start (Some l) n le =
    let up : nat_le n l.len ≡ true = grind (arith, nat_tests) in
    ap (λ b. (if b then record l { start = max l.start n; entries = drop (n - l.start) l.entries } else l).start) up

-- ---- what becomes of a row

turned : (i j : ℕ) → (i == j) ≡ (j == i)
turned i j = grind (arith, nat_tests)

apart : (i j : ℕ) → i ≡ j → (i == j) ≡ false → ⊥
apart i j e q = let z : true ≡ false = sym (eq-eqb i j e) ∙ q in cc

unled : (a : Seat) (row : GroupRow) → leader_at a row ≡ None → leads_by a row ≡ true → ⊥
unled a row e led = let z : false ≡ true = sym (ap (is_this a.me) e) ∙ led in cc

away : (a : Seat) (row : GroupRow) → leader_at a row ≡ None → leads_by a row ≡ false
away a row e = ap (is_this a.me) e

-- a node is told a place of a group's list
abbrev pub raised : Floors → List ℕ → ℕ → Floors
raised x g n = record x { starts = λ k. if bytes_eq g k then max (x.starts k) n else x.starts k }

pub raised_here : (x : Floors) (g : List ℕ) (n : ℕ) → (raised x g n).starts g ≡ max (x.starts g) n
raised_here x g n = ap (λ b. if b then max (x.starts g) n else x.starts g) (text_self g)

pub raised_there : (x : Floors) (g : List ℕ) (n : ℕ) (k : List ℕ) → (g ≡ k → ⊥) → (raised x g n).starts k ≡ x.starts k
raised_there x g n k ne = ap (λ b. if b then max (x.starts k) n else x.starts k) (text_other g k ne)

raised_beside : (x : Floors) (a : Seat) (g : List ℕ) (n : ℕ) (k : List ℕ) (row : GroupRow) → (g ≡ k → ⊥) → RowStarts x a k row → RowStarts (raised x g n) a k row
raised_beside x a g n k row ne z =
    record { told = λ e. z.told e ∙ sym (raised_there x g n k ne); goes = z.goes; acked = z.acked; within = z.within; below = z.below; least = z.least; empty = z.empty }

-- a member acknowledges so many entries
abbrev pub acknowledged : Floors → List ℕ → ℕ → ℕ → Floors
acknowledged x g m n = record x { acks = λ k j. if bytes_eq g k && j == m then max (x.acks k j) n else x.acks k j }

pub acked_here : (x : Floors) (g : List ℕ) (m n j : ℕ) → (acknowledged x g m n).acks g j ≡ (if j == m then max (x.acks g j) n else x.acks g j)
acked_here x g m n j = ap (λ b. if b && j == m then max (x.acks g j) n else x.acks g j) (text_self g)

pub acked_there : (x : Floors) (g : List ℕ) (m n : ℕ) (k : List ℕ) (j : ℕ) → (g ≡ k → ⊥) → (acknowledged x g m n).acks k j ≡ x.acks k j
acked_there x g m n k j ne = ap (λ b. if b && j == m then max (x.acks k j) n else x.acks k j) (text_other g k ne)

pub acked_beside : (x : Floors) (a : Seat) (g : List ℕ) (m n : ℕ) (k : List ℕ) (row : GroupRow) → (g ≡ k → ⊥) → RowStarts x a k row → RowStarts (acknowledged x g m n) a k row
acked_beside x a g m n k row ne z =
    record { told = z.told; goes = z.goes; acked = λ j. z.acked j ∙ sym (acked_there x g m n k j ne); within = z.within; below = z.below; least = z.least; empty = z.empty }

pub acked_raised_is : (j m n : ℕ) (old : List Acked) → acked_from j (acked_raised m n old) ≡ (if j == m then max (acked_from j old) n else acked_from j old)
unfolding acked_from acked_raised
acked_raised_is j m n [] = by (m == j) (j == m) (turned m j)
  where
    by : (b c : Bool) → b ≡ c → elim b as (λ _. ℕ) [ true ↦ n | false ↦ 0 ] ≡ (if c then max 0 n else 0)
    by true true e = omega arith
    by false false e = refl
    by true false e = absurd (cc)
    by false true e = absurd (cc)
acked_raised_is j m n (a ∷ old) = by (a.node == m) (a.node == j) (j == m) refl refl refl (acked_raised_is j m n old)
  where
    by : (b c d : Bool) → (a.node == m) ≡ b → (a.node == j) ≡ c → (j == m) ≡ d → acked_from j (acked_raised m n old) ≡ (if d then max (acked_from j old) n else acked_from j old) → acked_from j (elim b as (λ _. List Acked) [ true ↦ record { node = m; len = max a.len n } ∷ old | false ↦ a ∷ acked_raised m n old ]) ≡ (if d then max (elim c as (λ _. ℕ) [ true ↦ a.len | false ↦ acked_from j old ]) n else elim c as (λ _. ℕ) [ true ↦ a.len | false ↦ acked_from j old ])
    by true true true p q r rest = ap (λ z. elim z as (λ _. ℕ) [ true ↦ max a.len n | false ↦ acked_from j old ]) (turned m j ∙ r)
    by true false false p q r rest = ap (λ z. elim z as (λ _. ℕ) [ true ↦ max a.len n | false ↦ acked_from j old ]) (turned m j ∙ r)
    by true true false p q r rest = absurd (apart j m (sym (eqb-true a.node j q) ∙ eqb-true a.node m p) r)
    by true false true p q r rest = absurd (apart a.node j (eqb-true a.node m p ∙ sym (eqb-true j m r)) q)
    by false true false p q r rest = ap (λ z. elim z as (λ _. ℕ) [ true ↦ a.len | false ↦ acked_from j (acked_raised m n old) ]) q
    by false true true p q r rest = absurd (apart a.node m (eqb-true a.node j q ∙ eqb-true j m r) p)
    by false false d p q r rest = ap (λ z. elim z as (λ _. ℕ) [ true ↦ a.len | false ↦ acked_from j (acked_raised m n old) ]) q ∙ rest

-- the leader forgets what all members hold
row_least : (x : Floors) (a : Seat) (g : List ℕ) (row : GroupRow) → leads_by a row ≡ true → RowStarts (loosened x g) a g row → RowStarts x a g (record row { list = list_forgotten (least_at a row) row.list })
row_least x a g row led k =
    let n : ℕ = least_at a row in
    let now : GroupRow = record row { list = list_forgotten n row.list } in
    let le : n ≤ len_in row.list = least_below (λ (m : Member). holds_at a row m.node) a.members (len_in row.list) in
    let start : start_in now.list ≡ max (start_in row.list) n = forgotten_start row.list n le in
    let len : len_in now.list ≡ len_in row.list = forgotten_len n row.list in
    let old : start_in row.list ≤ n = k.below led in
    let more : n ≤ least_at a now = least_more a row now (omega arith) (λ m. omega arith) in
    let less : least_at a now ≤ n = least_more a now row (omega arith) (λ m. omega arith) in
    record {
      told = λ e. absurd (let z : true ≡ false = sym led ∙ e in cc);
      goes = λ e. led;
      acked = k.acked;
      within = omega arith;
      below = λ e. omega arith;
      least = λ e q. omega arith;
      empty = λ e q. absurd (unled a row q led);
    }

-- a node forgets what it is told, where it leads no more than all hold
row_told : (x : Floors) (a : Seat) (g : List ℕ) (row : GroupRow) (n : ℕ) → n ≤ len_in row.list → (leads_by a row ≡ true → n ≤ least_at a row) → (x.settled g ≡ true → leads_by a row ≡ true → least_at a row ≤ start_in row.list) → (x.settled g ≡ true → leader_at a row ≡ None → len_in row.list ≡ 0) → RowStarts (loosened x g) a g row → RowStarts (raised x g n) a g (record row { list = list_forgotten n row.list })
row_told x a g row n le held least empty k =
    let now : GroupRow = record row { list = list_forgotten n row.list } in
    let start : start_in now.list ≡ max (start_in row.list) n = forgotten_start row.list n le in
    let len : len_in now.list ≡ len_in row.list = forgotten_len n row.list in
    let more : least_at a row ≤ least_at a now = least_more a row now (omega arith) (λ m. omega arith) in
    let less : least_at a now ≤ least_at a row = least_more a now row (omega arith) (λ m. omega arith) in
    record {
      told = λ e. start ∙ ap (λ i. max i n) (k.told e) ∙ sym (raised_here x g n);
      goes = k.goes;
      acked = k.acked;
      within = let z = k.within in omega arith;
      below = λ e. let z = k.below e in let y = held e in omega arith;
      least = λ e q. let z = least e q in omega arith;
      empty = λ e q. len ∙ empty e q;
    }

-- a leader is known where none was, and the list is empty
pub row_named : (x : Floors) (a : Seat) (g : List ℕ) (row : GroupRow) (n : ℕ) → x.settled g ≡ true → leader_at a row ≡ None → RowStarts x a g row → RowStarts x a g (record row { leader = Some n })
row_named x a g row n settled none k =
    let zero : len_in row.list ≡ 0 = k.empty settled none in
    let start : start_in row.list ≤ 0 = let z = k.within in omega arith in
    let le : least_at a (record row { leader = Some n }) ≤ len_in row.list = least_below (λ (m : Member). holds_at a (record row { leader = Some n }) m.node) a.members (len_in row.list) in
    record {
      told = λ e. k.told (away a row none);
      goes = λ e. absurd (unled a row none (k.goes e));
      acked = k.acked;
      within = k.within;
      below = λ e. omega arith;
      least = λ e q. omega arith;
      empty = λ e q. zero;
    }

-- the leader notes itself
pub row_noted : (x : Floors) (a : Seat) (g : List ℕ) (row : GroupRow) (n : ℕ) → x.settled g ≡ true → ((m : ℕ) → leader_at a row ≡ Some m → m ≡ a.me) → leads_by a (record row { leader = Some n }) ≡ true → RowStarts x a g row → RowStarts x a g (record row { leader = Some n })
row_noted x a g row n settled known now k = by (leader_at a row) refl
  where
    led : (m : ℕ) → leader_at a row ≡ Some m → leads_by a row ≡ true
    led m e = ap (is_this a.me) e ∙ eq-eqb m a.me (known m e)

    by : (o : Option ℕ) → leader_at a row ≡ o → RowStarts x a g (record row { leader = Some n })
    by None e = row_named x a g row n settled e k
    by (Some m) e =
        record {
          told = λ q. absurd (let z : true ≡ false = sym now ∙ q in cc);
          goes = λ q. now;
          acked = k.acked;
          within = k.within;
          below = λ q. k.below (led m e);
          least = λ z q. k.least z (led m e);
          empty = λ z q. absurd (unled a (record row { leader = Some n }) q now);
        }

-- another leader is noted, as its entry is put
pub row_followed : (x : Floors) (a : Seat) (g : List ℕ) (row : GroupRow) (n : ℕ) → leads_by a row ≡ false → leads_by a (record row { leader = Some n }) ≡ false → RowStarts (loosened x g) a g row → RowStarts (loosened x g) a g (record row { leader = Some n })
row_followed x a g row n was now k =
    record {
      told = λ q. k.told was;
      goes = λ q. absurd (let z : true ≡ false = sym (k.goes q) ∙ was in cc);
      acked = k.acked;
      within = k.within;
      below = λ q. absurd (let z : true ≡ false = sym q ∙ now in cc);
      least = λ e. absurd (loose_here x g e);
      empty = λ e. absurd (loose_here x g e);
    }

-- who is not the leader, whoever else is noted
pub row_away : (a : Seat) (row : GroupRow) (n : ℕ) → leads_by a row ≡ false → (n ≡ a.me → ⊥) → leads_by a (record row { leader = Some n }) ≡ false
row_away a row n was ne = by a.mode was
  where
    by : (mode : Mode) → is_this a.me (leader_by mode a.coord row.leader) ≡ false → is_this a.me (leader_by mode a.coord (Some n)) ≡ false
    by Fixed e = e
    by Asked e = ne_eqb n a.me ne
    by Rings e = ne_eqb n a.me ne

pub row_known : (a : Seat) (row : GroupRow) (n : ℕ) → leader_at a (record row { leader = Some n }) ≡ None → ⊥
row_known a row n e = by a.mode e
  where
    by : (mode : Mode) → leader_by mode a.coord (Some n) ≡ None → ⊥
    by Fixed q = cc
    by Asked q = cc
    by Rings q = cc

-- a member acknowledges to the leader
pub row_acked : (x : Floors) (a : Seat) (g : List ℕ) (row : GroupRow) (m n : ℕ) → RowStarts x a g row → RowStarts (loosened (acknowledged x g m n) g) a g (record row { led = record (row.led) { acked = acked_raised m n row.led.acked } })
row_acked x a g row m n k =
    let now : GroupRow = record row { led = record (row.led) { acked = acked_raised m n row.led.acked } } in
    let more : least_at a row ≤ least_at a now = least_more a row now (omega arith) (λ j. grown j) in
    record {
      told = k.told;
      goes = k.goes;
      acked = λ j. acked_raised_is j m n row.led.acked ∙ ap (λ i. if j == m then max i n else i) (k.acked j) ∙ sym (acked_here x g m n j);
      within = k.within;
      below = λ e. let z = k.below e in omega arith;
      least = λ e. absurd (loose_here (acknowledged x g m n) g e);
      empty = λ e. absurd (loose_here (acknowledged x g m n) g e);
    }
  where
    grown : (j : ℕ) → acked_from j row.led.acked ≤ acked_from j (acked_raised m n row.led.acked)
    grown j = subst (λ i. acked_from j row.led.acked ≤ i) (sym (acked_raised_is j m n row.led.acked)) (by (j == m))
      where
        by : (b : Bool) → acked_from j row.led.acked ≤ (if b then max (acked_from j row.led.acked) n else acked_from j row.led.acked)
        by true = omega arith
        by false = omega arith

-- a row changes as its list forgets
abbrev forgotten_row : Core → List ℕ → ℕ → GroupRow
forgotten_row s g n = record (found s g) { list = list_forgotten n (found s g).list }

-- an entry that begins and ends at once finds and leaves nothing running, and one of who is late leaves what runs
once_finds : (st : GroupState) (x : Proposal) → fits st (Once x) ≡ true → st.running ≡ None
unfolding fits
once_finds st x e = by st.running e
  where
    by : (o : Option Running) → (is_none o && can_begin st x) ≡ true → o ≡ None
    by None q = refl
    by (Some run) q = absurd (cc)

-- where the voters are the same, so is the tally
row_is_same : (led : Bool) (row now : GroupRow) → now.led.tally ≡ row.led.tally → voters (state_in now.list) ≡ voters (state_in row.list) → RowIs led row → RowIs led now
row_is_same led row now t r (inl e) = inl (t ∙ e)
row_is_same led row now t r (inr k) = inr (k.0, subst (λ o. TallyFits o (state_in now.list)) (sym t) (by row.led.tally k.1))
  where
    by : (o : Option TallyView) → TallyFits o (state_in row.list) → TallyFits o (state_in now.list)
    by None z = tt
    by (Some x) z = z ∙ sym r

at_forgets : (h : Frame) (T G : List ℕ → Type 0) (y : Floors) (s : Core) (g : List ℕ) (n : ℕ) → RowStarts y (seat s) g (forgotten_row s g n) → ((k : List ℕ) → (g ≡ k → ⊥) → RowStarts h.floors (seat s) k (found s k) → RowStarts y (seat s) k (found s k)) → At h T G s → At (record h { floors = y }) T G (forget_below s g n)
unfolding forget_below
at_forgets h T G y s g n begins rest a =
    at_row_for h T G y T s g (λ row. record row { list = list_forgotten n row.list }) (λ x. refl) (λ x. refl) (λ x. forgotten_state n x.list) (λ x. forgotten_len n x.list) (λ k t ne. t) (λ t. row_is_same (leads_row s (found s g)) (found s g) (forgotten_row s g n) refl (ap voters (forgotten_state n (found s g).list)) (a.rows.tallies g t)) begins rest a

module _ (h : Frame) where
  -- ---- an entry is put

  abbrev pub put_row : Core → GroupRow → Entry → GroupRow
  put_row s row e = record row { list = Some (with_entry (list_or_new row.list) s.views.view e) }

  module _ (T G U : List ℕ → Type 0) where
    pub at_put_and_handed_for : (f : Answering) (s : Core) (to : Option ℕ) (g : List ℕ) (e : Entry) → PutFact (reverse s.records) h.history s.views.me s.views.view g (len_in (found s g).list) e → ((k : List ℕ) → U k → (g ≡ k → ⊥) → T k) → (U g → RowIs (leads_row s (found s g)) (put_row s (found s g) e)) → At h T G s → At (record h { floors = loosened h.floors g }) U G (put_and_hand f s to g e)
    unfolding put_and_hand
    at_put_and_handed_for f s to g e fact rest own a =
        at_handed (keeps_quiet (record h { floors = loosened h.floors g }) U G) f (put s g e) to g (len_of s g) (state_of s g) (state_of (put s g e) g) e (at_put_for h T G U s g e fact rest own a)

  module _ (T G : List ℕ → Type 0) where
    -- what a leader keeps changes, and the tally does not
    pub at_led : (s : Core) (g : List ℕ) (f : Led → Led) → ((l : Led) → (f l).tally ≡ l.tally) → ((l : Led) → (f l).acked ≡ l.acked) → At h T G s → At h T G (with_led s g f)
    unfolding with_led
    at_led s g f same acked a =
        at_row h T G s g (λ row. record row { led = f row.led }) (λ x. refl) (λ x. refl) (λ x. refl) (λ x. refl) (λ x. refl) (λ x m. ap (acked_from m) (acked x.led)) (λ t. row_is_same (leads_row s (found s g)) (found s g) (record (found s g) { led = f (found s g).led }) (same (found s g).led) refl (a.rows.tallies g t)) a

    pub at_waits : (s : Core) (g : List ℕ) (change : WaitingView → WaitingView) → At h T G s → At h T G (with_waiting s g change)
    unfolding with_waiting
    at_waits s g change a = at_led s g (λ l. record l { waiting = change l.waiting }) (λ l. refl) (λ l. refl) a

    pub at_forgets_least : (s : Core) (g : List ℕ) → leads_row s (found s g) ≡ true → At (record h { floors = loosened h.floors g }) T G s → At h T G (forget_least s g)
    unfolding forget_least
    at_forgets_least s g led a =
        subst (λ i. At h T G (forget_below s g i)) (sym (least_is s g)) (at_forgets (record h { floors = loosened h.floors g }) T G h.floors s g (least_at (seat s) (found s g)) (row_least h.floors (seat s) g (found s g) led (a.rows.starts g)) (λ k ne z. settle_beside h.floors (seat s) g k (found s k) ne z) a)

    -- the node is told a place that its list has
    pub at_told : (s : Core) (g : List ℕ) (n : ℕ) → n ≤ len_in (found s g).list → (leads_row s (found s g) ≡ true → n ≤ least_at (seat s) (found s g)) → At h T G s → At (record h { floors = raised h.floors g n }) T G (forget_below s g n)
    at_told s g n le held a =
        let old = a.rows.starts g in
        at_forgets h T G (raised h.floors g n) s g n (row_told h.floors (seat s) g (found s g) n le held old.least old.empty (loosen_here h.floors (seat s) g (found s g) old)) (λ k ne z. raised_beside h.floors (seat s) g n k (found s k) ne z) a

    -- as the entry is put
    pub at_told_next : (s : Core) (g : List ℕ) (n : ℕ) → n ≤ len_in (found s g).list → leads_row s (found s g) ≡ false → (leader_at (seat s) (found s g) ≡ None → ⊥) → At (record h { floors = loosened h.floors g }) T G s → At (record h { floors = raised h.floors g n }) T G (forget_below s g n)
    at_told_next s g n le other known a =
        at_forgets (record h { floors = loosened h.floors g }) T G (raised h.floors g n) s g n (row_told h.floors (seat s) g (found s g) n le (λ q. absurd (led q)) (λ e q. absurd (led q)) (λ e q. absurd (known q)) (a.rows.starts g)) (λ k ne z. raised_beside h.floors (seat s) g n k (found s k) ne (settle_beside h.floors (seat s) g k (found s k) ne z)) a
      where
        led : leads_row s (found s g) ≡ true → ⊥
        led q = let z : true ≡ false = sym q ∙ other in cc

    -- below that it lacks all already
    pub at_told_less : (s : Core) (g : List ℕ) (n : ℕ) → n ≤ start_in (found s g).list → At h T G s → At (record h { floors = raised h.floors g n }) T G s
    at_told_less s g n le a =
        record { came = a.came; rows = record { order = a.rows.order; starts = λ k. start k (cases_text g k); tallies = a.rows.tallies; led = a.rows.led }; facts = a.facts; states = a.states }
      where
        same : (i j : ℕ) → i ≡ j → n ≤ i → i ≡ max j n
        same i j e up = omega arith

        here : RowStarts (raised h.floors g n) (seat s) g (found s g)
        here =
            let old = a.rows.starts g in
            record { told = λ e. same (start_in (found s g).list) (h.floors.starts g) (old.told e) le ∙ sym (raised_here h.floors g n); goes = old.goes; acked = old.acked; within = old.within; below = old.below; least = old.least; empty = old.empty }

        start : (k : List ℕ) → (g ≡ k) ⊎ (g ≡ k → ⊥) → RowStarts (raised h.floors g n) (seat s) k (found s k)
        start k (inl e) = subst (λ z. RowStarts (raised h.floors g n) (seat s) z (found s z)) e here
        start k (inr ne) = raised_beside h.floors (seat s) g n k (found s k) ne (a.rows.starts k)

    at_waits_if : (s : Core) (g : List ℕ) (p : ProviderId) (a b : Bool) → At h T G s → At h T G (wait_if s g p a b)
    unfolding wait_if
    at_waits_if s g p true b k = at_waits s g (add_failure p Died) k
    at_waits_if s g p false true k = at_waits s g (add_failure p Gone) k
    at_waits_if s g p false false k = k

    at_new_members : (s : Core) (g : List ℕ) (before after : GroupState) → At h T G s → At h T G (new_members_wait s g before after)
    unfolding new_members_wait
    at_new_members s g before after a =
        at_fold (At h T G) (λ t p. wait_if t g p (among after.failed p) (among (led_of s g).gone p)) (filter (λ p. not (among before.members p)) after.members) (λ t p i k. at_waits_if t g p (among after.failed p) (among (led_of s g).gone p) k) s a

  module _ (T G U : List ℕ → Type 0) where
    pub at_appended_for : (f : Answering) (s : Core) (g : List ℕ) (e : Entry) → HasRows (state_in (found s g).list) e → ((k : List ℕ) → U k → (g ≡ k → ⊥) → T k) → (U g → RowIs (leads_row s (found s g)) (put_row s (found s g) e)) → G g → At h T G s → At h U G (appended f s g e)
    unfolding appended
    at_appended_for f s g e ok rest own led a =
        let t : Core = put s g e in
        let u : Core = send_all t (others t) (body.Entry t.views.view g (len_of s g) (least_acked t g) e) in
        let w : Core = hand_on f u (leader_of u g) g (len_of s g) (state_of s g) (state_of t g) e in
        let j : Frame = record h { floors = loosened h.floors g } in
        let put_at : At j U G t = at_put_for h T G U s g e (put_fact h T G s g e ok a) rest own a in
        let sent_at : At j U G u = at_calm j U G t u (calm_all t (others t) (body.Entry t.views.view g (len_of s g) (least_acked t g) e)) put_at in
        let handed_at : At j U G w = at_handed (keeps_quiet j U G) f u (leader_of u g) g (len_of s g) (state_of s g) (state_of t g) e sent_at in
        at_new_members U G (forget_least w g) g (state_of s g) (state_of t g) (at_forgets_least U G w g (handed_at.rows.led g led) handed_at)

  -- ---- the tally of a phase

  -- but for one group
  abbrev pub But : List ℕ → (List ℕ → Type 0) → List ℕ → Type 0
  But g T k = T k × (g ≡ k → ⊥)

  module _ (T G : List ℕ → Type 0) where
    pub at_tally_set : (s : Core) (g : List ℕ) (t : Option TallyView) → (T g → RowIs (leads_row s (found s g)) (record (found s g) { led = record ((found s g).led) { tally = t; given = [] } })) → At h (But g T) G s → At h T G (tally_set s g t)
    unfolding tally_set with_led
    at_tally_set s g t own a =
        at_row_for h (But g T) G h.floors T s g (λ row. record row { led = record (row.led) { tally = t; given = [] } }) (λ x. refl) (λ x. refl) (λ x. refl) (λ x. refl) (λ k u ne. (u, ne)) own (row_same (seat s) g (found s g) (record (found s g) { led = record ((found s g).led) { tally = t; given = [] } }) refl refl refl (λ m. refl) (a.rows.starts g)) (λ k ne z. z) a

    pub at_tally_opened : (s : Core) (g : List ℕ) → G g → At h (But g T) G s → At h T G (tally_opened s g)
    unfolding tally_opened state_of list_of row_of
    at_tally_opened s g led a =
        at_tally_set s g (Some (tally_for (state_in (found s g).list) (led_of s g).gone)) (λ t. inr (a.rows.led g led, opened_fits (state_in (found s g).list) (led_of s g).gone)) a

    pub at_opened_anew : (s : Core) (g : List ℕ) → G g → At h T G s → At h T G (tally_opened s g)
    at_opened_anew s g led a =
        at_tally_opened s g led (record { came = a.came; rows = record { order = a.rows.order; starts = a.rows.starts; tallies = λ k t. a.rows.tallies k t.0; led = a.rows.led }; facts = a.facts; states = a.states })

    at_appended_loose : (f : Answering) (s : Core) (g : List ℕ) (e : Entry) → HasRows (state_in (found s g).list) e → G g → At h T G s → At h (But g T) G (appended f s g e)
    at_appended_loose f s g e ok led a = at_appended_for T G (But g T) f s g e ok (λ k u ne. u.0) (λ u. absurd (u.1 refl)) led a

    at_closes_from : (n : ℕ) (f : Answering) (s : Core) (g : List ℕ) → T g → G g → At h T G s → At h T G (closes_from n f s g)
    unfolding closes_from led_of state_of list_of row_of
    at_closes_from zero f s g t led a = a
    at_closes_from (suc n) f s g t led a =
        by (closing_entry (found s g).led (found s g).led.tally (state_in (found s g).list).running) refl (at_closes_from n f)
      where
        Rec : Type 0
        Rec = (c : Core) (g : List ℕ) → T g → G g → At h T G c → At h T G (closes_from n f c g)

        made : (e : Entry) → closing_entry (found s g).led (found s g).led.tally (state_in (found s g).list).running ≡ Some e → HasRows (state_in (found s g).list) e
        made e q = at (a.rows.tallies g t)
          where
            at : RowIs (leads_row s (found s g)) (found s g) → HasRows (state_in (found s g).list) e
            at (inl none) =
                closing_rows (found s g).led None (state_in (found s g).list) e tt (ap (λ o. closing_entry (found s g).led o (state_in (found s g).list).running) (sym none) ∙ q)
            at (inr k) = closing_rows (found s g).led (found s g).led.tally (state_in (found s g).list) e k.1 q

        last : (e : Entry) → HasRows (state_in (found s g).list) e → Rec → (b : Bool) → At h T G (elim b as (λ _. Core) [ true ↦ closes_from n f (tally_opened (appended f s g e) g) g | false ↦ tally_set (appended f s g e) g None ])
        last e ok rec true = rec (tally_opened (appended f s g e) g) g t led (at_tally_opened (appended f s g e) g led (at_appended_loose f s g e ok led a))
        last e ok rec false = at_tally_set (appended f s g e) g None (λ u. inl refl) (at_appended_loose f s g e ok led a)

        fitting : (e : Entry) → HasRows (state_in (found s g).list) e → Rec → (b : Bool) → At h T G (elim b as (λ _. Core) [ false ↦ s | true ↦ elim (is_phase e) as (λ _. Core) [ true ↦ closes_from n f (tally_opened (appended f s g e) g) g | false ↦ tally_set (appended f s g e) g None ] ])
        fitting e ok rec false = a
        fitting e ok rec true = last e ok rec (is_phase e)

        by : (o : Option Entry) → closing_entry (found s g).led (found s g).led.tally (state_in (found s g).list).running ≡ o → Rec → At h T G (elim o as (λ _. Core) [ None ↦ s | Some e ↦ elim (fits_at_end s g e) as (λ _. Core) [ false ↦ s | true ↦ elim (is_phase e) as (λ _. Core) [ true ↦ closes_from n f (tally_opened (appended f s g e) g) g | false ↦ tally_set (appended f s g e) g None ] ] ])
        by None q rec = a
        by (Some e) q rec = fitting e (made e q) rec (fits_at_end s g e)

    pub at_closes : (f : Answering) (s : Core) (g : List ℕ) → T g → G g → At h T G s → At h T G (closes f s g)
    unfolding closes
    at_closes f s g t led a = at_closes_from max_phases f s g t led a

    at_begun_many : (f : Answering) (s : Core) (g : List ℕ) (x : Proposal) (b : Bool) → T g → G g → At h T G s → At h T G (begin_many f s g x b)
    unfolding begin_many
    at_begun_many f s g x false t led a = a
    at_begun_many f s g x true t led a =
        at_closes f (tally_opened (appended f s g (Begin x)) g) g t led (at_tally_opened (appended f s g (Begin x)) g led (at_appended_loose f s g (Begin x) tt led a))

    pub at_begins : (f : Answering) (s : Core) (g : List ℕ) (x : Proposal) (phases : Phases) → T g → G g → At h T G s → At h T G (begins f s g x phases)
    unfolding begins append_if_fits fits_at_end entry_fits list_of row_of with_entry
    at_begins f s g x Many t led a = at_begun_many f s g x (fits_at_end s g (Begin x)) t led a
    at_begins f s g x One t led a = by (fits_at_end s g (Once x)) refl
      where
        same : fits_at_end s g (Once x) ≡ true → voters (state_in (put_row s (found s g) (Once x)).list) ≡ voters (state_in (found s g).list)
        same e =
            let fit : fits (state_in (found s g).list) (Once x) ≡ true = (and_parts (fits (state_in (found s g).list) (Once x)) (has_room (list_or_new (found s g).list) (Once x)) e).0 in
            idle_voters (state_in (put_row s (found s g) (Once x)).list) (once_idle (state_in (found s g).list) s.views.view (list_or_new (found s g).list).len x fit) ∙ sym (idle_voters (state_in (found s g).list) (once_finds (state_in (found s g).list) x fit))

        by : (b : Bool) → fits_at_end s g (Once x) ≡ b → At h T G (append_if_fits f s g (Once x) b)
        by false e = a
        by true e =
            at_appended_for T G T f s g (Once x) tt (λ k u ne. u) (λ u. row_is_same (leads_row s (found s g)) (found s g) (put_row s (found s g) (Once x)) refl (same e) (a.rows.tallies g u)) led a

    -- who is late is announced
    pub at_announces : (f : Answering) (s : Core) (g : List ℕ) (e : Entry) → ((st : GroupState) → HasRows st e) → ((st : GroupState) (v : ViewId) (i : ℕ) → apply st v i e ≡ st) → (b : Bool) → G g → At h T G s → At h T G (append_if_fits f s g e b)
    unfolding append_if_fits with_entry
    at_announces f s g e ok same false led a = a
    at_announces f s g e ok same true led a =
        at_appended_for T G T f s g e (ok (state_in (found s g).list)) (λ k u ne. u) (λ u. row_is_same (leads_row s (found s g)) (found s g) (put_row s (found s g) e) refl (ap voters (late_same (state_in (found s g).list) s.views.view (list_or_new (found s g).list).len e (same (state_in (found s g).list) s.views.view (list_or_new (found s g).list).len))) (a.rows.tallies g u)) led a
