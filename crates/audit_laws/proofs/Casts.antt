-- A provider casts after it heard the entry that opened the phase, and once in it.
use Rattle.std.proofs.Common.{◌≡◌, ℕ, zero, suc, ◌+◌, Bool, true, false, List, [], ◌∷◌, ◌++◌, length, Option, Some, inl, inr, refl, sym, ◌∙◌, ap, subst, arith, length-append}
use Rattle.std.specs.Prelude.{◌==◌, ◌&&◌, ◌||◌, not, map, slice_get, if◌then◌else◌}
use Rattle.std.specs.List.{list_any}
use Rattle.std.specs.Str.{bytes_eq}
use Rattle.std.proofs.lemmas.Bool.{and_parts, eqb-true}
use Rattle.std.proofs.lemmas.Bool.Decides.{nat_tests}
use Rattle.rsct_packet.specs.declared.ids.ProtoId.{ProtoId}
use Rattle.rsct_packet.specs.declared.ids.ProviderId.{ProviderId}
use Rattle.rsct_packet.specs.declared.ids.ViewId.{ViewId}
use Rattle.rsct_packet.specs.Ids.{same_view, same_proto}
use Rattle.rsct_packet.specs.Providers.{same_provider}
use Rattle.rsct_packet.specs.Search.{Has}
use Rattle.view_state.proofs.ViewOrder.{same_view_is}
use Rattle.proposal_core.specs.declared.entry.Vote.{Vote}
use Rattle.proposal_core.specs.declared.entry.Entry.{Entry}
use Rattle.proposal_core.specs.declared.entry.Entry.TheVariants as entry
use Rattle.session_state.specs.declared.state.OpenPhase.{OpenPhase}
use Rattle.node_state.specs.declared.happened.Happened.{Happened}
use Rattle.node_state.specs.declared.happened.Happened.TheVariants as happened
use Rattle.run_safety.specs.Past as past
use Rattle.run_safety.specs.SafeHeard.{latest_put}
use Rattle.run_safety.proofs.Prefix.{at_end}
use Rattle.provider_laws.specs.single_casts.Ballots.{opens}
use Rattle.run_laws.specs.seen_runs.Seen.{Seen}
use Rattle.line_laws.specs.Shown.{entry_shown}
use Rattle.run_audit.specs.declared.broken.Rule.TheVariants as rule
use Rattle.run_audit.specs.Past.{puts_of}
use Rattle.run_audit.specs.Table.{is_cast_of, opens_phase, heard_open, holds}
use Rattle.run_audit.proofs.KeyLaws.{provider_same, proto_same}
use Rattle.run_audit.proofs.ListLaws.{text_same}
use Rattle.audit_laws.specs.Lines.{shown, lines}
use Rattle.audit_laws.specs.Records.{Keeps}
use Rattle.audit_laws.proofs.Lists.{puts_are}
use Rattle.audit_laws.proofs.Tests.{both, eq_self, provider_self, none_any}

-- ---- what was put last

-- it stands at the end of the node's list
pub record IsLast (xs : List Entry) (i : ℕ) (e : Entry) : Type 0 where
  pub there : slice_get xs i ≡ Some e
  pub end : length xs ≡ i + 1

pub last_is : (n : ℕ) (v : ViewId) (g : List ℕ) (i : ℕ) (e : Entry) (rs : List Happened) → Seen rs → latest_put n v g rs ≡ Some (i, e) → IsLast (past.puts_of n v g rs) i e
last_is n v g i e [] s q = absurd cc
last_is n v g i e (happened.Put m u h k f ∷ rs) s q = by (past.is_list n v g m u h) refl q (last_is n v g i e rs s.1)
  where
    by : (b : Bool) → past.is_list n v g m u h ≡ b → (if b then Some (k, f) else latest_put n v g rs) ≡ Some (i, e) → (latest_put n v g rs ≡ Some (i, e) → IsLast (past.puts_of n v g rs) i e) → IsLast (if b then past.puts_of n v g rs ++ f ∷ [] else past.puts_of n v g rs) i e
    by false t q old = old q
    by true t q old =
        let p = and_parts (m == n) (same_view u v && bytes_eq h g) t in
        let z = and_parts (same_view u v) (bytes_eq h g) p.1 in
        let a : m ≡ n = eqb-true m n p.0 in
        let b : u ≡ v = same_view_is u v z.0 in
        let c : h ≡ g = text_same h g z.1 in
        let mine : ℕ × Entry = (k, f) in
        let its : ℕ × Entry = (i, e) in
        let same : mine ≡ its = cc in
        let places : k ≡ i = ap (λ (y : ℕ × Entry). y.0) same in
        let entries : f ≡ e = ap (λ (y : ℕ × Entry). y.1) same in
        let place : k ≡ length (past.puts_of n v g rs) = s.0.place ∙ (λ j. length (past.puts_of (a j) (b j) (c j) rs)) in
        let longer : length (past.puts_of n v g rs ++ f ∷ []) ≡ length (past.puts_of n v g rs) + 1 = length-append (past.puts_of n v g rs) (f ∷ []) in
        record {
          there = ap (slice_get (past.puts_of n v g rs ++ f ∷ [])) (sym places ∙ place) ∙ (at_end (past.puts_of n v g rs) f [] ∙ ap (λ y. Some y) entries);
          end = omega (arith, longer, place, places);
        }
last_is n v g i e (_ ∷ rs) s q = last_is n v g i e rs s.1 q

pub map_get : {A B : Type 0} (f : A → B) (xs : List A) (i : ℕ) (x : A) → slice_get xs i ≡ Some x → slice_get (map f xs) i ≡ Some (f x)
map_get f [] i x e = absurd cc
map_get f (y ∷ xs) zero x e = let same : y ≡ x = cc in ap (λ z. Some (f z)) same
map_get f (y ∷ xs) (suc i) x e = map_get f xs i x e

-- ---- the phase opened

proto_self : (o : ProtoId) → same_proto o o ≡ true
proto_self o = grind (arith, nat_tests)

opened : (proto : ProtoId) (phase : ℕ) (v : ViewId) (i : ℕ) (e : Entry) → opens e v i ≡ Some (record { proto = proto; phase = phase }) → opens_phase proto phase v i (Some (entry_shown e)) ≡ true
unfolding opens_phase
opened proto phase v i (entry.Once x) q = absurd cc
opened proto phase v i (entry.Begin x) q =
    let mine : OpenPhase = record { proto = record { view = v; place = i }; phase = 1 } in
    let its : OpenPhase = record { proto = proto; phase = phase } in
    let q' : Some mine ≡ Some its = q in
    let same : mine ≡ its = cc in
    let a : record { view = v; place = i } ≡ proto = ap (λ (o : OpenPhase). o.proto) same in
    let b : 1 ≡ phase = ap (λ (o : OpenPhase). o.phase) same in
    both (same_proto proto (record { view = v; place = i })) (phase == 1) (subst (λ (z : ProtoId). same_proto proto z ≡ true) (sym a) (proto_self proto)) (ap (λ z. z == 1) (sym b))
opened proto phase v i (entry.Phase c) q =
    let mine : OpenPhase = record { proto = c.proto; phase = c.phase + 1 } in
    let its : OpenPhase = record { proto = proto; phase = phase } in
    let q' : Some mine ≡ Some its = q in
    let same : mine ≡ its = cc in
    let a : c.proto ≡ proto = ap (λ (o : OpenPhase). o.proto) same in
    let b : c.phase + 1 ≡ phase = ap (λ (o : OpenPhase). o.phase) same in
    both (same_proto proto c.proto) (phase == c.phase + 1) (subst (λ (z : ProtoId). same_proto proto z ≡ true) (sym a) (proto_self proto)) (subst (λ z. (phase == z) ≡ true) (sym b) (eq_self phase))
opened proto phase v i (entry.Approve c) q = absurd cc
opened proto phase v i (entry.Reject c) q = absurd cc
opened proto phase v i (entry.Late o k ps) q = absurd cc

heard_opens : (p : ProviderId) (proto : ProtoId) (phase : ℕ) (v : ViewId) (g : List ℕ) (i : ℕ) (e : Entry) (ms : List ProviderId) (value : List ℕ) (rs : List Happened) → Seen rs → Has (happened.Heard p v g i e ms value) rs → opens e v i ≡ Some (record { proto = proto; phase = phase }) → heard_open p proto phase (lines rs) ≡ true
unfolding lines shown heard_open
heard_opens p proto phase v g i e ms value [] s h o = absurd h
heard_opens p proto phase v g i e ms value (happened.Heard q u w k f ns val ∷ rs) s (inl x) o =
    let a : p ≡ q = cc in
    let b : v ≡ u = cc in
    let c : g ≡ w = cc in
    let d : i ≡ k = cc in
    let y : e ≡ f = cc in
    subst (λ z. elim z [ true ↦ true | false ↦ heard_open p proto phase (lines rs) ] ≡ true) (sym (test a b c d y)) refl
  where
    test : p ≡ q → v ≡ u → g ≡ w → i ≡ k → e ≡ f → (same_provider q p && opens_phase proto phase u k (slice_get (puts_of q.node u w (lines rs)) k)) ≡ true
    test a b c d y =
        let l = last_is q.node u w k f rs s.1 s.0.heard.0 in
        let get : slice_get (puts_of q.node u w (lines rs)) k ≡ Some (entry_shown f) = ap (λ z. slice_get z k) (puts_are q.node u w rs) ∙ map_get entry_shown (past.puts_of q.node u w rs) k f l.there in
        let o' : opens f u k ≡ Some (record { proto = proto; phase = phase }) = (λ j. opens (sym y j) (sym b j) (sym d j)) ∙ o in
        both (same_provider q p) (opens_phase proto phase u k (slice_get (puts_of q.node u w (lines rs)) k)) (subst (λ z. same_provider z p ≡ true) a (provider_self p)) (ap (opens_phase proto phase u k) get ∙ opened proto phase u k f o')
heard_opens p proto phase v g i e ms value (happened.Heard q u w k f ns val ∷ rs) s (inr h) o = by (same_provider q p && opens_phase proto phase u k (slice_get (puts_of q.node u w (lines rs)) k)) (heard_opens p proto phase v g i e ms value rs s.1 h o)
  where
    by : (t : Bool) → heard_open p proto phase (lines rs) ≡ true → elim t [ true ↦ true | false ↦ heard_open p proto phase (lines rs) ] ≡ true
    by true x = refl
    by false x = x
heard_opens p proto phase v g i e ms value (_ ∷ rs) s (inl x) o = absurd cc
heard_opens p proto phase v g i e ms value (_ ∷ rs) s (inr h) o = heard_opens p proto phase v g i e ms value rs s.1 h o

-- ---- once

-- the provider cast in that phase
record Voted (p : ProviderId) (proto : ProtoId) (phase : ℕ) (rs : List Happened) : Type 0 where
  vote : Vote
  value : Option (List ℕ)
  message : Option (List ℕ)
  there : Has (happened.Cast p proto phase vote value message) rs

voted_later : (p : ProviderId) (proto : ProtoId) (phase : ℕ) (r : Happened) (rs : List Happened) → Voted p proto phase rs → Voted p proto phase (r ∷ rs)
voted_later p proto phase r rs k = record { vote = k.vote; value = k.value; message = k.message; there = inr k.there }

cast_line : (p : ProviderId) (proto : ProtoId) (phase : ℕ) (rs : List Happened) → list_any (is_cast_of p proto phase) (lines rs) ≡ true → Voted p proto phase rs
unfolding lines shown is_cast_of
cast_line p proto phase [] e = absurd cc
cast_line p proto phase (happened.Cast q o k v x y ∷ rs) e = by (same_provider q p && (same_proto o proto && k == phase)) refl e (cast_line p proto phase rs)
  where
    by : (t : Bool) → (same_provider q p && (same_proto o proto && k == phase)) ≡ t → (t || list_any (is_cast_of p proto phase) (lines rs)) ≡ true → (list_any (is_cast_of p proto phase) (lines rs) ≡ true → Voted p proto phase rs) → Voted p proto phase (happened.Cast q o k v x y ∷ rs)
    by true f h old =
        let a = and_parts (same_provider q p) (same_proto o proto && k == phase) f in
        let b = and_parts (same_proto o proto) (k == phase) a.1 in
        let c : q ≡ p = provider_same q p a.0 in
        let d : o ≡ proto = proto_same o proto b.0 in
        let z : k ≡ phase = eqb-true k phase b.1 in
        record { vote = v; value = x; message = y; there = inl (λ i. happened.Cast (sym c i) (sym d i) (sym z i) v x y) }
    by false f h old = voted_later p proto phase (happened.Cast q o k v x y) rs (old h)
cast_line p proto phase (r ∷ rs) e = voted_later p proto phase r rs (cast_line p proto phase rs e)

pub casts_kept : Keeps rule.Cast
unfolding holds shown
casts_kept (happened.Cast p proto phase v value message) rs k =
    let o = k.seen.0.noticed in
    both (heard_open p proto phase (lines rs)) (not (list_any (is_cast_of p proto phase) (lines rs))) (heard_opens p proto phase o.view o.group o.place o.entry o.members o.value rs k.seen.1 o.there o.opened)
    (ap not (none_any (is_cast_of p proto phase) (lines rs) (λ h. let c = cast_line p proto phase rs h in k.seen.0.cast c.vote c.value c.message c.there)))
casts_kept _ rs k = refl
