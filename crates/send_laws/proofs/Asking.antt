-- The install of a node that asks itself alone is made of its own lists, so it may be entered.
use Rattle.std.proofs.Common.{◌≡◌, ◌≤◌, ℕ, List, [], ◌∷◌, length, map, filter, Some, None, Option, Bool, true, false, cond, refl, sym, ap, ◌∙◌, subst, inl, inr, arith}
use Rattle.std.specs.Prelude.{IsTrue, not, ◌==◌, ◌||◌, is_some, nat_le}
use Rattle.std.specs.Str.{bytes_eq}
use Rattle.std.proofs.lemmas.Bool.{and_parts}
use Rattle.std.proofs.lemmas.Bool.Decides.{nat_tests}
use Rattle.rsct_packet.specs.declared.ids.ViewId.{ViewId}
use Rattle.rsct_packet.specs.declared.mask.Mask.{Mask}
use Rattle.rsct_packet.specs.Mask.{nodes_of}
use Rattle.rsct_packet.specs.Lists.{is_empty}
use Rattle.view_state.specs.declared.packet.ViewPacket.TheVariants as packet
use Rattle.rsct_packet.specs.Ids.{same_view}
use Rattle.rsct_packet.specs.Text.{name_lt}
use Rattle.rsct_packet.specs.Search.{Has}
use Rattle.rsct_packet.proofs.HasLaws.{has_map, has_filter}
use Rattle.proposal_core.specs.Fold.{present}
use Rattle.proposal_core.specs.Lists.{list_or_new, state_in}
use Rattle.view_state.specs.declared.exchange.Exchange.{Exchange}
use Rattle.view_state.specs.declared.sides.Kept.{Kept}
use Rattle.view_state.specs.declared.install.Part.{Part}
use Rattle.view_state.specs.declared.install.Source.{Source}
use Rattle.view_state.specs.declared.install.Install.{Install}
use Rattle.view_state.specs.declared.install.Base.{Base}
use Rattle.view_state.specs.Answers.{max_parts, opened, kept_of, side_from, with_side, with_answer, all_answered, source_of, install_of, is_spelled}
use Rattle.view_state.specs.Bases.{IsBaseOf, is_candidate, parts_in, source_at, parts_from, bases_of}
use Rattle.view_state.specs.Codec.{views_ascend}
use Rattle.view_exchange.specs.Longest.{NamesDiffer}
use Rattle.view_bases.proofs.Bases.{base_is}
use Rattle.view_state.specs.declared.views.RingAsk.{RingAsk}
use Rattle.view_state.specs.declared.views.ViewWork.{ViewWork}
use Rattle.view_state.specs.Views.{view_sent_all, gathering_set, promised, begin_install, gathered, gather_on, own_answer, ask_others, next_view, may_ask, ask_if, ask_rule, prepare_again, note_stuck, tick_asks, asks_or_ages, gathering_ticks, views_at_work}
use Rattle.node_state.specs.declared.group.GroupRow.{GroupRow}
use Rattle.node_state.specs.declared.state.Core.{Core}
use Rattle.node_state.specs.State.{list_of, state_of, held_rows}
use Rattle.node_state.specs.Applying.{part_of_list, own_parts}
use Rattle.node_state.proofs.NameOrder.{text_same, lt_self, row_itself}
use Rattle.step_refinement.proofs.Parts.{own_differ}
use Rattle.send_laws.specs.Bound.{Room, Stands, Fine, FineIf}
use Rattle.send_laws.proofs.BaseRooms.{bases_room, base_by_name}

pub not_before : (a b : List ℕ) → a ≡ b → name_lt a b ≡ true → ⊥
not_before a b q l = let f : name_lt a a ≡ true = subst (λ z. name_lt a z ≡ true) (sym q) l in let k = lt_self a in cc

row_has_room : (s : Core) (row : GroupRow) → Stands s → Has row s.groups → Room (state_in row.list)
unfolding state_of list_of
row_has_room s row k h = subst (λ (z : GroupRow). Room (state_in z.list)) (row_itself s row k.order h) (k.room row.name)

abbrev held : List GroupRow → List GroupRow
held rows = filter (λ (row : GroupRow). is_some row.list) rows

abbrev pub part_in : GroupRow → Part
part_in row = part_of_list row (list_or_new row.list)

-- an own part is that of a row
pub own_part : (s : Core) (p : Part) → Has p (own_parts s) → (row : GroupRow) × Has row s.groups × (p ≡ part_in row)
unfolding own_parts held_rows
own_part s p h =
    let a = has_map part_in p (held s.groups) h in
    let b = has_filter (λ (row : GroupRow). is_some row.list) a.0 s.groups a.1 in (a.0, b.0, a.2)

parts_room : (s : Core) (p : Part) → Stands s → Has p (own_parts s) → Room p.state
unfolding part_of_list
parts_room s p k h =
    let a = own_part s p h in subst (λ (z : Part). Room z.state) (sym a.2) (row_has_room s a.0 k a.1)

parts_again : (n : ℕ) (ps : List Part) → map (λ (x : Kept). x.part) (map (kept_of n) ps) ≡ ps
parts_again n [] = refl
parts_again n (p ∷ ps) = ap (λ qs. p ∷ qs) (parts_again n ps)

view_self : (v : ViewId) → same_view v v ≡ true
view_self v = grind (arith, nat_tests)

-- ---- who asked alone answered alone

abbrev pub alone : Core → ViewId → Mask → Install
alone s v mask = install_of (with_answer (opened v mask) (own_answer s.views (own_parts s)))

own_source : (s : Core) → Source
own_source s = source_of (side_from (own_answer s.views (own_parts s)))

-- it carries the own lists
alone_parts : (s : Core) (v : ViewId) (mask : Mask) (x : Source) → Has x (alone s v mask).sources → (p : Part) → Has p x.parts → Has p (own_parts s)
unfolding install_of with_answer opened with_side side_from own_source
alone_parts s v mask x h p j = at h
  where
    at : Has x (own_source s ∷ []) → Has p (own_parts s)
    at (inl q) =
        subst (Has p) (parts_again s.views.me (own_parts s)) (subst (λ (y : Source). Has p y.parts) q j)
    at (inr z) = absurd z

pub alone_from : (s : Core) (v : ViewId) (mask : Mask) → parts_from (alone s v mask) s.views.view ≡ own_parts s
unfolding install_of with_answer opened with_side side_from own_source parts_from source_at
alone_from s v mask =
    ap (λ b. parts_in (cond b (Some (own_source s)) None)) (view_self s.views.view) ∙ parts_again s.views.me (own_parts s)

alone_ascends : (s : Core) (v : ViewId) (mask : Mask) → IsTrue (views_ascend (alone s v mask).sources)
unfolding install_of with_answer opened with_side
alone_ascends s v mask = refl

alone_few : (s : Core) (v : ViewId) (mask : Mask) → length (alone s v mask).members ≤ 32
unfolding install_of with_answer opened
alone_few s v mask = omega arith

pub alone_fine : (s : Core) (v : ViewId) (mask : Mask) → Stands s → Fine s.views.view (alone s v mask)
alone_fine s v mask k =
    record {
      few = alone_few s v mask;
      room = bases_room (alone s v mask) (alone_ascends s v mask) (λ x h p j. parts_room s p k (alone_parts s v mask x h p j));
      apart = subst NamesDiffer (sym (alone_from s v mask)) (own_differ s k.order);
    }

-- a base is that of an own list
pub alone_base : (s : Core) (v : ViewId) (mask : Mask) (b : Base) → Has b (bases_of (alone s v mask)) → (row : GroupRow) × Has row s.groups × (row.name ≡ b.name) × (present b.state ≡ present (state_in row.list))
unfolding part_of_list is_candidate
alone_base s v mask b h =
    let i : Install = alone s v mask in
    let k : IsBaseOf i b.name b = base_is i b.name (Some b) (alone_ascends s v mask) (sym (base_by_name i b h)) in
    let c = k.wins.candidate in
    let a = own_part s k.part (alone_parts s v mask k.source c.0 k.part c.1.0) in
    let named : bytes_eq k.part.name b.name ≡ true = (and_parts (bytes_eq k.part.name b.name) (not (is_empty k.part.state.members) || is_some k.part.state.running) c.1.1).0 in
    (a.0, a.1, sym (ap (λ (z : Part). z.name) a.2) ∙ text_same k.part.name b.name named, ap present k.state ∙ ap (λ (z : Part). present z.state) a.2)

-- ---- the install of a node that asks

abbrev pub AloneIf : Core → Option Install → Type 0
AloneIf s None = Unit {0}
AloneIf s (Some i) = (v : ViewId) × (mask : Mask) × (i ≡ alone s v mask)

pub alone_fine_if : (s : Core) (o : Option Install) → Stands s → AloneIf s o → FineIf s.views.view o
alone_fine_if s None k z = tt
alone_fine_if s (Some i) k z = subst (Fine s.views.view) (sym z.2) (alone_fine s z.0 z.1 k)

-- an order to ask, by whether it may and whether it is spelled
asked_if : ViewWork → Core → Mask → Bool → Bool → ViewWork
asked_if w s mask true c = ask_others w (next_view w.views) mask (own_parts s) c
asked_if w s mask false c = w

asked_is : (w : ViewWork) (s : Core) (mask : Mask) (b : Bool) → ask_if w mask (own_parts s) b ≡ asked_if w s mask b (nat_le (length (own_parts s)) max_parts)
unfolding ask_if asked_if
asked_is w s mask true = refl
asked_is w s mask false = refl

-- it is made of its own answer
asks_alone : (w : ViewWork) (s : Core) (mask : Mask) → w.install ≡ None → own_answer w.views (own_parts s) ≡ own_answer s.views (own_parts s) → AloneIf s (ask_rule w mask (own_parts s)).install
unfolding ask_rule asked_if ask_others gather_on gathered begin_install view_sent_all gathering_set promised
asks_alone w s mask none same = subst (λ (z : ViewWork). AloneIf s z.install) (sym (asked_is w s mask (may_ask w.views mask))) (by (may_ask w.views mask) (nat_le (length (own_parts s)) max_parts))
  where
    g : Exchange
    g = with_answer (opened (next_view w.views) mask) (own_answer w.views (own_parts s))

    x : ViewWork
    x = view_sent_all (promised w (next_view w.views)) (filter (λ n. not (n == w.views.me)) (nodes_of mask)) (packet.Prepare (next_view w.views) mask)

    nothing : AloneIf s w.install
    nothing = subst (AloneIf s) (sym none) tt

    spelled : (b : Bool) → AloneIf s (begin_install (gathering_set x None) (install_of g) b).install
    spelled false = nothing
    spelled true = (next_view w.views, mask, ap (λ a. install_of (with_answer (opened (next_view w.views) mask) a)) same)

    all : (b : Bool) → AloneIf s (gathered x g b).install
    all false = nothing
    all true = spelled (is_spelled (install_of g))

    by : (b c : Bool) → AloneIf s (asked_if w s mask b c).install
    by false c = nothing
    by true false = nothing
    by true true = all (all_answered g)

pub asks_fine : (s : Core) (mask : Mask) → Stands s → FineIf s.views.view (ask_rule (views_at_work s.views) mask (own_parts s)).install
asks_fine s mask k =
    alone_fine_if s (ask_rule (views_at_work s.views) mask (own_parts s)).install k (asks_alone (views_at_work s.views) s mask refl refl)

-- in a tick
pub ticks_alone : (s : Core) (o : Option RingAsk) → AloneIf s (gathering_ticks (views_at_work s.views) o (own_parts s)).install
unfolding gathering_ticks asks_or_ages note_stuck prepare_again view_sent_all gathering_set
ticks_alone s None = again (views_at_work s.views) s.views.gathering refl
  where
    again : (w : ViewWork) (g : Option Exchange) → w.install ≡ None → AloneIf s (prepare_again w g).install
    again w None e = subst (AloneIf s) (sym e) tt
    again w (Some g) e = subst (AloneIf s) (sym e) tt
ticks_alone s (Some a) = by (tick_asks s.views a)
  where
    w : ViewWork
    w = note_stuck (views_at_work s.views)

    again : (g : Option Exchange) → AloneIf s (prepare_again w g).install
    again None = tt
    again (Some g) = tt

    by : (b : Bool) → AloneIf s (asks_or_ages w a (own_parts s) b).install
    by true = asks_alone w s a.mask refl refl
    by false = again w.views.gathering
