-- What a node sends, decides and records, but for the views that it enters: no refusal is that a group was dissolved.
use Rattle.std.proofs.Common.{◌≡◌, ℕ, List, [], ◌∷◌, ◌++◌, Option, Some, None, Bool, true, false, refl, sym, ap, ◌∙◌, subst, inl, inr, ⊎_elim, append_assoc, append-nil}
use Rattle.std.specs.Prelude.{find}
use Rattle.std.specs.Str.{bytes_eq}
use Rattle.rsct_packet.specs.declared.ids.ProviderId.{ProviderId}
use Rattle.rsct_packet.specs.Providers.{same_provider}
use Rattle.rsct_packet.specs.Search.{Has}
use Rattle.rsct_packet.specs.Text.{name_lt}
use Rattle.rsct_packet.proofs.HasLaws.{has_append, append_has_left, find_has}
use Rattle.client_callbacks.specs.declared.told.Why.{Why}
use Rattle.session_state.specs.HandOn.{is_dissolved, take_telling, handed_on}
use Rattle.view_state.specs.declared.views.Views.{Views}
use Rattle.node_state.specs.declared.group.Decision.{Decision}
use Rattle.node_state.specs.declared.group.GroupRow.{GroupRow}
use Rattle.node_state.specs.declared.group.Led.{Led}
use Rattle.node_state.specs.declared.happened.Happened.{Happened}
use Rattle.node_state.specs.declared.happened.Happened.TheVariants as happened
use Rattle.node_state.specs.declared.packet.Body.{Body}
use Rattle.node_state.specs.declared.packet.Body.TheVariants as body
use Rattle.node_state.specs.declared.packet.Packet.{Packet}
use Rattle.node_state.specs.declared.state.Core.{Core}
use Rattle.node_state.specs.State.{new_row, row_found, row_of, rows_with, with_row, with_led, set_leader, led_of, len_of, decision_of, decisions_with, recorded, with_sessions}
use Rattle.node_state.specs.Sending.{packet_on, send_on}
use Rattle.node_state.specs.Leading.{put}
use Rattle.node_state.specs.Deciding.{keep_decision, wait_join}
use Rattle.step_walk.proofs.Changes.{Any, Fairly, Spoken, Tells, Telling, KeepsCalls, KeepsParts, KeepsRing, KeepsRings, KeepsRules}
use Rattle.step_walk.proofs.Parts.{on_hands}
use Rattle.step_walk.proofs.Ringing.{by_ring}
use Rattle.row_laws.proofs.failed_rows.Ending.{with_has}

-- no packet tells that a group was dissolved
abbrev pub FairBody : Body → Type 0
FairBody (body.Tell v g q r y) = is_dissolved y ≡ false
FairBody _ = Unit {0}

-- nor does the record, and no node starts, stops, enters a view or takes a base
abbrev pub Mild : Happened → Type 0
Mild (happened.Up n j) = ⊥
Mild (happened.Down n) = ⊥
Mild (happened.In n v ms) = ⊥
Mild (happened.Base n v g u len s) = ⊥
Mild (happened.Told q r y) = is_dissolved y ≡ false
Mild _ = Unit {0}

-- such a packet is given
abbrev pub FairGiven : Packet → Type 0
FairGiven q = FairBody q.body

-- what is sent and decided
pub record Speaks (s : Core) : Type 0 where
  pub spoken : (x : Packet) → Has x s.sends → FairBody x.body
  pub decided : (row : GroupRow) → Has row s.groups → (d : Decision) → Has d row.led.decided → Fairly d.why

-- and what was recorded since c
pub record Fair (c s : Core) : Type 0 where
  pub speaks : Speaks s
  pub more : List Happened
  pub is : s.records ≡ c.records ++ more
  pub mild : (r : Happened) → Has r more → Mild r

pub fair_self : (c : Core) → Speaks c → Fair c c
fair_self c k = record { speaks = k; more = []; is = sym (append-nil c.records); mild = λ r h. absurd h }

pub fair_then : (a b c : Core) → Fair a b → Fair b c → Fair a c
fair_then a b c p q =
    record { speaks = q.speaks; more = p.more ++ q.more; is = q.is ∙ ap (λ z. z ++ q.more) p.is ∙ append_assoc a.records p.more q.more; mild = λ r h. ⊎_elim (p.mild r) (q.mild r) (has_append r p.more q.more h) }

pub fair_grows : (c s : Core) → Fair c s → (r : Happened) → Has r c.records → Has r s.records
fair_grows c s k r h = subst (Has r) (sym k.is) (append_has_left r c.records k.more h)

-- ---- decisions

rows_all : (Q : Decision → Type 0) (g : List ℕ) (f : GroupRow → GroupRow) → ((row : GroupRow) → ((d : Decision) → Has d row.led.decided → Q d) → (d : Decision) → Has d (f row).led.decided → Q d) → (rows : List GroupRow) → ((row : GroupRow) → Has row rows → (d : Decision) → Has d row.led.decided → Q d) → (row : GroupRow) → Has row (rows_with g f rows) → (d : Decision) → Has d row.led.decided → Q d
unfolding rows_with
rows_all Q g f step [] all row (inl e) d i = step (new_row g) (λ d j. absurd j) d (subst (λ (z : GroupRow). Has d z.led.decided) e i)
rows_all Q g f step [] all row (inr z) d i = absurd z
rows_all Q g f step (x ∷ rows) all row h d i =
    by (bytes_eq x.name g) (name_lt g x.name) h (rows_all Q g f step rows (λ z j. all z (inr j)) row)
  where
    by : (a b : Bool) → Has row (elim a as (λ _. List GroupRow) [ true ↦ f x ∷ rows | false ↦ elim b as (λ _. List GroupRow) [ true ↦ f (new_row g) ∷ x ∷ rows | false ↦ x ∷ rows_with g f rows ] ]) → (Has row (rows_with g f rows) → (d : Decision) → Has d row.led.decided → Q d) → Q d
    by true b (inl e) rest = step x (all x (inl refl)) d (subst (λ (z : GroupRow). Has d z.led.decided) e i)
    by true b (inr j) rest = all row (inr j) d i
    by false true (inl e) rest = step (new_row g) (λ d j. absurd j) d (subst (λ (z : GroupRow). Has d z.led.decided) e i)
    by false true (inr j) rest = all row j d i
    by false false (inl e) rest = all row (inl e) d i
    by false false (inr j) rest = rest j d i

-- ---- each change of a step

tells_fair : (b : Body) (y : Why) → FairBody b → Tells b y → is_dissolved y ≡ false
tells_fair (body.Tell v g q r x) y fair e = subst (λ z. is_dissolved z ≡ false) (sym e) fair
tells_fair _ y fair t = absurd t

telling_fair : (y : Why) → Telling FairGiven y → is_dissolved y ≡ false
telling_fair y (inl e) = subst (λ z. is_dissolved z ≡ false) (sym e) refl
telling_fair y (inr t) = tells_fair (t.0).body y t.1 t.2

module _ (c : Core) where
  alike : (s t : Core) → t.sends ≡ s.sends → t.records ≡ s.records → t.groups ≡ s.groups → Fair c s → Fair c t
  alike s t sends records groups k =
      record {
        speaks = record { spoken = λ x h. k.speaks.spoken x (subst (Has x) sends h); decided = λ row h d i. k.speaks.decided row (subst (Has row) groups h) d i };
        more = k.more;
        is = records ∙ k.is;
        mild = k.mild;
      }

  fair_row : (s : Core) (g : List ℕ) (f : GroupRow → GroupRow) → ((row : GroupRow) → (f row).led.decided ≡ row.led.decided) → Fair c s → Fair c (with_row s g f)
  unfolding with_row
  fair_row s g f same k =
      record {
        speaks = record { spoken = k.speaks.spoken; decided = rows_all (λ z. Fairly z.why) g f (λ row all d i. all d (subst (Has d) (same row) i)) s.groups k.speaks.decided };
        more = k.more;
        is = k.is;
        mild = k.mild;
      }

  fair_sends : (s : Core) (network to : ℕ) (b : Body) → FairBody b → Fair c s → Fair c (send_on s network to b)
  unfolding send_on packet_on
  fair_sends s network to b fair k =
      record { speaks = record { spoken = λ x h. ⊎_elim (k.speaks.spoken x) (one x) (has_append x s.sends (packet_on s network to b ∷ []) h); decided = k.speaks.decided }; more = k.more; is = k.is; mild = k.mild }
    where
      one : (x : Packet) → Has x (packet_on s network to b ∷ []) → FairBody x.body
      one x (inl e) = subst (λ (z : Packet). FairBody z.body) (sym e) fair
      one x (inr z) = absurd z

  fair_records : (s : Core) (r : Happened) → Mild r → Fair c s → Fair c (recorded s r)
  unfolding recorded
  fair_records s r mild k =
      record { speaks = record { spoken = k.speaks.spoken; decided = k.speaks.decided }; more = k.more ++ r ∷ []; is = ap (λ z. z ++ r ∷ []) k.is ∙ append_assoc c.records k.more (r ∷ []); mild = λ q h. ⊎_elim (k.mild q) (one q) (has_append q k.more (r ∷ []) h) }
    where
      one : (q : Happened) → Has q (r ∷ []) → Mild q
      one q (inl e) = subst Mild (sym e) mild
      one q (inr z) = absurd z

  fair_decides : (s : Core) (g : List ℕ) (q : ProviderId) (r : ℕ) (y : Option Why) → Fairly y → Fair c s → Fair c (keep_decision s g q r y)
  unfolding keep_decision with_led with_row
  fair_decides s g q r y fair k =
      record {
        speaks = record { spoken = k.speaks.spoken; decided = rows_all (λ z. Fairly z.why) g (λ row. record row { led = change row.led }) step s.groups k.speaks.decided };
        more = k.more;
        is = k.is;
        mild = k.mild;
      }
    where
      it : Decision
      it = record { provider = q; request = r; why = y }

      change : Led → Led
      change l = record l { decided = decisions_with it l.decided }

      step : (row : GroupRow) → ((d : Decision) → Has d row.led.decided → Fairly d.why) → (d : Decision) → Has d (decisions_with it row.led.decided) → Fairly d.why
      step row all d h = ⊎_elim (λ (e : d ≡ it). subst (λ (z : Decision). Fairly z.why) (sym e) fair) (all d) (with_has it row.led.decided d h)

  fair_knows : (s : Core) (g : List ℕ) (q : ProviderId) (d : Decision) → decision_of (led_of s g) q ≡ Some d → Fair c s → Fairly d.why
  unfolding decision_of led_of row_of
  fair_knows s g q d e k = by (find (λ (row : GroupRow). bytes_eq row.name g) s.groups) refl e
    where
      by : (o : Option GroupRow) → find (λ (row : GroupRow). bytes_eq row.name g) s.groups ≡ o → find (λ (d : Decision). same_provider d.provider q) (row_found g o).led.decided ≡ Some d → Fairly d.why
      by None f z = absurd (cc)
      by (Some row) f z = k.speaks.decided row (find_has (λ (row : GroupRow). bytes_eq row.name g) s.groups row f).0 d (find_has (λ (d : Decision). same_provider d.provider q) row.led.decided d z).0

  fair_spoken : (s : Core) (b : Body) → Fair c s → Spoken s b → FairBody b
  fair_spoken s (body.Tell v g q r y) k (inl e) = e
  fair_spoken s (body.Tell v g q r y) k (inr d) = subst Fairly d.4 (fair_knows s d.0 d.1 d.2 d.3 k)
  fair_spoken s _ k a = tt

  parts : KeepsParts (Fair c) Any
  unfolding put with_sessions
  parts =
      record {
        sends = λ s network to b spoken k. fair_sends s network to b (fair_spoken s b k spoken) k;
        puts = λ s g e ok k. fair_records _ (happened.Put s.views.me s.views.view g (len_of s g) e) tt (fair_row s g _ (λ row. refl) k);
        hears = λ s g before after e bs x i h k. fair_records s (happened.Heard x.provider s.views.view g i e after.members after.value) tt k;
        casts = λ s p proto phase vote value message k. fair_records s (happened.Cast p proto phase vote value message) tt k;
        handed = λ s g before after e bs k. alike s (with_sessions s (handed_on s.sessions g before after e bs)) refl refl refl k;
      }

  pub fair_rules : KeepsRules (Fair c) FairGiven
  unfolding with_led wait_join set_leader with_sessions
  fair_rules =
      record {
        keeps = record {
          row = λ s g f ok mild k. fair_row s g f mild.decided k;
          decides = λ s g q r y ok fair k. fair_decides s g q r y fair k;
          sends = parts.sends;
          notes = λ s n client v place t k. fair_records s (happened.Noted n client v place t) tt k;
          hands = on_hands (Fair c) Any parts;
        };
        names = λ s ns k. alike s (record s { names = ns }) refl refl refl k;
        reach = λ s x k. alike s (record s { reach = x }) refl refl refl k;
        leads = λ s g n k. fair_row s g _ (λ row. refl) k;
        joins = λ s g q r a e k. fair_row (keep_decision s g q r None) g _ (λ row. refl) (fair_decides s g q r None tt k);
        tells = λ s q r y telling e k. fair_records _ (happened.Told q r y) (telling_fair y telling) (alike s (with_sessions s (take_telling s.sessions q r y)) refl refl refl k);
      }

  pub fair_rings : KeepsRings (Fair c) FairGiven
  fair_rings = by_ring (Fair c) FairGiven fair_rules ring
    where
      ring : KeepsRing (Fair c)
      ring = record {
        rings = λ s rs k. alike s (record s { rings = rs }) refl refl refl k;
        sends = λ s network to x k. fair_sends s network to (body.Ring x) tt k;
        records = λ s n network id ms b k. fair_records s (happened.Ring n network id ms b) tt k;
      }

  pub fair_calls : KeepsCalls (Fair c)
  unfolding with_sessions
  fair_calls =
      record {
        sessions = λ s t k. alike s (with_sessions s t) refl refl refl k;
        refuses = λ s n client fault k. fair_records s (happened.Refused n client fault) tt k;
        asks = λ s p r g x k. fair_records s (happened.Asked p r g x) tt k;
        casts = parts.casts;
      }

  pub fair_views : (s : Core) (vs : Views) → Fair c s → Fair c (record s { views = vs })
  fair_views s vs k = alike s (record s { views = vs }) refl refl refl k
