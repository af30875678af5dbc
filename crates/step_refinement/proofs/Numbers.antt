-- Where no node is 0, no member of a view is.
use Rattle.std.proofs.Common.{false, ◌≡◌, ◌≢◌, ◌<◌, ℕ, ◌+◌, List, [], ◌∷◌, length, drop, Option, Some, None, sym, ap, ◌∙◌, subst, inl, inr, arith}
use Rattle.rsct_packet.specs.declared.ids.ViewId.{ViewId}
use Rattle.rsct_packet.specs.declared.ids.Member.{Member}
use Rattle.rsct_packet.specs.Search.{Has}
use Rattle.rsct_packet.proofs.HasLaws.{has_map}
use Rattle.proposal_core.specs.declared.entry.Entry.{Entry}
use Rattle.node_state.specs.declared.state.Core.{Core}
use Rattle.node_state.specs.Settings.{is_fixed}
use Rattle.run_safety.specs.Group.{member, members_of, Standing, Reply, Packet, Origin, Record, In, Put, Begins, Heard, Line, Kept, kept, lines_from, puts_from}
use Rattle.run_safety.specs.Bases.{Bases}
use Rattle.run_safety.specs.Moves.{Leads, Opening, Alone, Life, Dawn, NextEvent, Promises, Answers, Appends, Follows, Starts, Enters, Founds, Names, Hears, Asks, Requests, Refuses, IsTold, Acknowledges, Settles, entered}
use Rattle.run_safety.proofs.Lines.{kept_lines, kept_based, kept_inserted}
use Rattle.run_safety.proofs.Parts.{Entered}
use Rattle.run_safety.proofs.Past as past
use Rattle.run_safety.proofs.Whole.{Whole}
use Rattle.run_safety.proofs.Lives.{whole}
use Rattle.step_refinement.specs.Ghost.{Ghost}
use Rattle.step_refinement.specs.Tied.{NodeIsIf, Scene, opening_of, Tied}
use Rattle.step_refinement.proofs.Begins.{opening_alone}

-- who enters a view has started
abbrev Started : List Record → Type 0
Started tr = (n j : ℕ) (v : ViewId) (ms : List Member) → Has (In n j v ms) tr → 0 < j

in_puts : (m : ℕ) (u : ViewId) (i : ℕ) (es : List Entry) (tr : List Record) (n j : ℕ) (v : ViewId) (ms : List Member) → Has (In n j v ms) (puts_from m u i es tr) → Has (In n j v ms) tr
in_puts m u i [] tr n j v ms h = h
in_puts m u i (e ∷ es) tr n j v ms h = at (in_puts m u (i + 1) es (Put m u i e ∷ tr) n j v ms h)
  where
    at : Has (In n j v ms) (Put m u i e ∷ tr) → Has (In n j v ms) tr
    at (inl q) = absurd (cc)
    at (inr k) = k

-- a node that has started enters
entered_started : (m : ℕ) (x : Standing) (u : ViewId) (ns : List Member) (ss : ViewId → List Entry) (b : Option Origin) (all : List Line) → 0 < x.inc → Started (kept all) → Started (kept (entered m x u ns ss b all))
entered_started m x u ns ss b all up old n j v ms h = at (subst (Has (In n j v ms)) is h)
  where
    is : kept (entered m x u ns ss b all) ≡ In m x.inc u ns ∷ kept (lines_from m x.view (length x.list) (drop (length x.list) (ss x.view)) all)
    is = kept_based m u b (Kept (In m x.inc u ns) ∷ lines_from m x.view (length x.list) (drop (length x.list) (ss x.view)) all)

    at : Has (In n j v ms) (In m x.inc u ns ∷ kept (lines_from m x.view (length x.list) (drop (length x.list) (ss x.view)) all)) → 0 < j
    at (inl q) = let e : j ≡ x.inc = cc in subst (λ k. 0 < k) (sym e) up
    at (inr k) = old n j v ms (in_puts m x.view (length x.list) (drop (length x.list) (ss x.view)) (kept all) n j v ms (subst (Has (In n j v ms)) (kept_lines m x.view (length x.list) (drop (length x.list) (ss x.view)) all) k))

one_more : (r : Record) (tr : List Record) → ((n j : ℕ) (v : ViewId) (ms : List Member) → In n j v ms ≡ r → 0 < j) → Started tr → Started (r ∷ tr)
one_more r tr new old n j v ms (inl e) = new n j v ms e
one_more r tr new old n j v ms (inr h) = old n j v ms h

pub all_started_up : {o : Opening} {nodes : ℕ → Standing} {ps : List Packet} {all : List Line} {leads : Leads} {bases : Bases} → Life o nodes ps all leads bases → Started (kept all)
all_started_up (Dawn nodes new) = λ n j v ms h. absurd h
all_started_up (NextEvent nodes ps all leads bases life) = one_more Begins (kept all) (λ n j v ms e. absurd (cc)) (all_started_up life)
all_started_up (Promises nodes now ps all leads bases n x v life is le c) = all_started_up life
all_started_up (Answers nodes ps all leads bases n x v life is up le lt) = all_started_up life
all_started_up (Appends nodes now ps all leads bases n x e life is up led same due tallied room c) = one_more (Put n x.view (length x.list) e) (kept all) (λ n j v ms e. absurd (cc)) (all_started_up life)
all_started_up (Follows nodes now ps all leads bases n x e life is up same sent c) = one_more (Put n x.view (length x.list) e) (kept all) (λ n j v ms e. absurd (cc)) (all_started_up life)
all_started_up (Starts nodes now ps all leads bases n x v ms life is quiet born how c) = one_more (In n (x.inc + 1) v ms) (kept all) (λ m j u ns e. let q : j ≡ x.inc + 1 = cc in omega arith) (all_started_up life)
all_started_up (Enters nodes now ps all leads bases n x v ms ss life is quiet up at lt among sent c) = entered_started n x v ms ss (bases v) all up (all_started_up life)
all_started_up (Founds nodes now ps all leads leads' bases bases' n x rs ss b life is quiet ok base set_base set_lead c) = entered_started n x x.promise (members_of rs) ss b all ok.up (all_started_up life)
all_started_up (Names nodes ps all leads leads' bases v n j life was set led may) = all_started_up life
all_started_up (Hears nodes ps all more leads bases p v i e life put s is new) = subst Started (sym (kept_inserted (Heard p v i e s.members s.value) all more new)) (all_started_up life)
all_started_up (Asks nodes ps all leads bases p r x life) = all_started_up life
all_started_up (Requests nodes ps all leads bases p r x y life is up same asked never untold) = all_started_up life
all_started_up (Refuses nodes ps all leads bases v p r life why) = all_started_up life
all_started_up (IsTold nodes ps all leads bases p r y life is up same why) = all_started_up life
all_started_up (Acknowledges nodes ps all leads bases n x k life is le) = all_started_up life
all_started_up (Settles nodes ps all leads bases n j v ms k life was acked) = all_started_up life

module _ (g : List ℕ) (w : Scene) (n : ℕ) (s : Core) (t : Tied g w n s) where
  abbrev x : Ghost
  x = t.ghost

  k : Whole (opening_of w.config) x.nodes x.ps x.all x.leads x.bases
  k = whole t.life

  own_apart : n ≢ 0
  own_apart e = let q : s.views.inc ≡ 0 = t.own.2 ∙ ap w.incs e ∙ t.nobody in let u = t.own.0.stands.up in omega arith

  never : (x.nodes 0).inc ≡ 0
  never = by (w.cores 0) (t.others 0 (λ e. own_apart (sym e)))
    where
      by : (o : Option Core) → NodeIsIf w.config x g 0 (w.incs 0) o → (x.nodes 0).inc ≡ 0
      by None h = h ∙ t.nobody
      by (Some c) h = h.0.stands.inc ∙ h.2 ∙ t.nobody

  -- it entered no view
  nowhere : (j : ℕ) (v : ViewId) (ms : List Member) → Has (In 0 j v ms) (kept x.all) → ⊥
  nowhere j v ms h = at (k.good.inv.records (In 0 j v ms) h)
    where
      at : Entered (x.nodes 0) j v → ⊥
      at (inl l) = let q = never in omega arith
      at (inr l) = let q = never in let z = l.0 in let u = all_started_up t.life 0 j v ms h in omega arith

  pub no_member : is_fixed w.config.mode ≡ false → (m i : ℕ) → Has (member m i) s.views.members → m ≢ 0
  no_member free m i h e = by (subst (λ o. past.Origin o x.ps n s.views.inc s.views.view s.views.members) (opening_alone w.config w.config.mode free) (k.good.past.origin n s.views.inc s.views.view s.views.members t.own.0.stands.seated))
    where
      alone : Has (member m i) (member n s.views.inc ∷ []) → ⊥
      alone (inl q) = own_apart (sym (ap (λ (z : Member). z.node) q) ∙ e)
      alone (inr z) = z

      by : past.Origin Alone x.ps n s.views.inc s.views.view s.views.members → ⊥
      by (inl b) = alone (subst (Has (member m i)) b.1 h)
      by (inr b) =
          let made = k.good.past.made s.views.view s.views.members b.0 b.1 in
          let r = has_map (λ (r : Reply). member r.node r.inc) (member m i) made.replies (subst (Has (member m i)) made.members h) in
          let q : (r.0).node ≡ 0 = sym (ap (λ (z : Member). z.node) r.2) ∙ e in
          let a = (k.good.past.answers s.views.view r.0 (made.sent r.0 r.1)).0.was in
          nowhere (r.0).inc (r.0).view a.0 (subst (λ z. Has (In z (r.0).inc (r.0).view a.0) (kept x.all)) q a.1)
