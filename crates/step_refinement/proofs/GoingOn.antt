-- A coordinator's own lists go on to the install that it makes: none starts behind their end, and what they lack fits.
use Rattle.std.proofs.Common.{◌≡◌, ◌≤◌, ◌<◌, ℕ, ◌-◌, List, [], ◌∷◌, ◌++◌, length, drop, Option, Some, None, Bool, true, false, refl, sym, ap, ◌∙◌, subst, inl, inr, ⊎_elim, arith}
use Rattle.std.specs.Prelude.{nat_le, nat_lt}
use Rattle.std.proofs.lemmas.Bool.Decides.{nat_tests}
use Rattle.rsct_packet.specs.declared.ids.ViewId.{ViewId}
use Rattle.rsct_packet.specs.Ids.{same_view}
use Rattle.rsct_packet.specs.Search.{Has}
use Rattle.rsct_packet.proofs.HasLaws.{find_has}
use Rattle.proposal_core.specs.declared.entry.Entry.{Entry}
use Rattle.proposal_core.specs.GroupView.{GroupView}
use Rattle.view_state.specs.declared.exchange.Exchange.{Exchange}
use Rattle.view_state.specs.declared.install.Part.{Part}
use Rattle.view_state.specs.declared.install.Source.{Source}
use Rattle.view_state.specs.Parts.{part_len}
use Rattle.view_state.specs.Cut.{all_fit, lacking_if, lacking_of}
use Rattle.view_state.specs.Answers.{install_of}
use Rattle.view_state.specs.Bases.{source_at, parts_in, parts_from}
use Rattle.node_state.specs.declared.state.Core.{Core}
use Rattle.node_state.specs.State.{row_of, list_of}
use Rattle.node_state.specs.Applying.{Lacking, lacking_in, lacking}
use Rattle.run_safety.specs.Group.{Reply, kept}
use Rattle.run_safety.specs.Group as group
use Rattle.run_safety.specs.GroupLists.{puts_of}
use Rattle.run_safety.proofs.Prefix.{IsPrefix, prefix_nil, prefix_both, caught_up}
use Rattle.run_safety.proofs.Whole.{Whole}
use Rattle.run_safety.proofs.Lives.{whole, always_stable}
use Rattle.step_refinement.specs.Ghost.{Ghost, FitIn, Keeps, Carries, CarriesIf, part_of, Gathers, GathersIf, IsStable}
use Rattle.step_refinement.specs.Tied.{Scene, opening_of, Tied}
use Rattle.step_refinement.proofs.Acks.{member_self}
use Rattle.step_refinement.proofs.RowWorks.{keeps_of}
use Rattle.step_refinement.proofs.ViewRules.{same_of}
use Rattle.step_refinement.proofs.Fits.{fits_rest}
use Rattle.step_refinement.proofs.Fills.{dropped}
use Rattle.step_refinement.proofs.Replies.{part_is, carries_len}
use Rattle.step_refinement.proofs.Replies as replies

-- what the node's lists lack of the install that it makes can be put
abbrev pub GoesOn : Core → Exchange → Type 0
GoesOn s e = (xs : List Lacking) × (lacking s (install_of e) ≡ Some xs)

-- a list that reaches the start of a part of a list that it begins lacks what fits
reaches : (x : Ghost) (v : ViewId) (full all : List Entry) (l : GroupView) (p : Part) → Keeps x v full l → Carries x v all p → p.start ≤ length full → (length full ≤ length all → full ++ drop (length full) all ≡ all) → (es : List Entry) × (lacking_of v l p ≡ Some es)
unfolding lacking_of lacking_if
reaches x v full all l p k c start joins =
    by (nat_le (part_len p) l.len) (nat_lt l.len p.start) (all_fit v l (drop (l.len - p.start) p.entries)) refl refl refl
  where
    by : (a b d : Bool) → nat_le (part_len p) l.len ≡ a → nat_lt l.len p.start ≡ b → all_fit v l (drop (l.len - p.start) p.entries) ≡ d → (es : List Entry) × (elim a as (λ _. Option (List Entry)) [ true ↦ Some [] | false ↦ elim b as (λ _. Option (List Entry)) [ true ↦ None | false ↦ lacking_if d (drop (l.len - p.start) p.entries) ] ] ≡ Some es)
    by true b d q r o = ([], refl)
    by false true d q r o = absurd (let lt : l.len < p.start = grind (arith, nat_tests) in let n = k.len in omega arith)
    by false false true q r o = (drop (l.len - p.start) p.entries, refl)
    by false false false q r o =
        let le : p.start ≤ l.len = grind (arith, nat_tests) in
        let lt : l.len < part_len p = grind (arith, nat_tests) in
        let ends : part_len p ≡ length all = carries_len x v all p c in
        let n = k.len in
        let long : length full ≤ length all = omega arith in
        let rest : drop (l.len - p.start) p.entries ≡ drop (length full) all = ap (drop (l.len - p.start)) c.entries ∙ dropped p.start l.len all le ∙ ap (λ i. drop i all) n in
        let fit : FitIn x v (full ++ drop (length full) all) = subst (FitIn x v) (sym (joins long)) c.fits in
        let good : all_fit v l (drop (l.len - p.start) p.entries) ≡ true = ap (all_fit v l) rest ∙ fits_rest x v full (drop (length full) all) l k fit in
        absurd (true_not (sym good ∙ o))
      where
        true_not : true ≡ false → ⊥
        true_not e = cc

module _ (g : List ℕ) (w : Scene) (n : ℕ) (s : Core) (t : Tied g w n s) (e : Exchange) (h : Gathers t.ghost g n s.views.inc s.views.view s.views.promise e) where
  abbrev x : Ghost
  x = t.ghost

  abbrev v : ViewId
  v = s.views.view

  abbrev full : List Entry
  full = (x.nodes n).list

  -- the list that is carried from a view
  abbrev ss : ViewId → List Entry
  ss = replies.ss x g n s.views.inc s.views.view s.views.promise e h

  k : Whole (opening_of w.config) x.nodes x.ps x.all x.leads x.bases
  k = whole t.life

  keeps : Keeps x v full (list_of s g)
  unfolding list_of
  keeps = keeps_of x v full (row_of s g).list t.own.0.row_is.list

  own_part : IsPrefix full (k.log v)
  own_part = subst (λ u. IsPrefix full (k.log u)) t.own.0.stands.view (k.good.inv.node n).part

  carried_part : IsPrefix (ss v) (k.log v)
  carried_part =
      ⊎_elim (λ (q : ss v ≡ []). subst (λ l. IsPrefix l (k.log v)) (sym q) (prefix_nil (k.log v))) (λ (r : (r : Reply) × Has r h.replies × (r.view ≡ v) × (r.list ≡ ss v)). replied r.0 r.1 r.2 r.3) (replies.whole_one x g n s.views.inc s.views.view s.views.promise e h v)
    where
      replied : (r : Reply) → Has r h.replies → r.view ≡ v → r.list ≡ ss v → IsPrefix (ss v) (k.log v)
      replied r i a b =
          subst (λ (z : ViewId × List Entry). IsPrefix z.1 (k.log z.0)) (λ j. (a j, b j)) (k.good.inv.packet (group.Answer s.views.promise r) (h.came r i).2.sent).1

  -- what all members hold, the node holds
  held : (j : ℕ) → IsStable x v j → j ≤ length full
  held j (inl e) = omega arith
  held j (inr q) =
      let seated = t.own.0.stands.seated in
      let a : j ≤ length (puts_of n v (kept x.all)) = always_stable (opening_of w.config) x.nodes x.ps x.all x.leads x.bases t.life v j q n s.views.inc s.views.members seated n s.views.inc (member_self t.ghost t.life n s.views.inc v s.views.members seated) in
      let b : puts_of n v (kept x.all) ≡ full = ap (λ u. puts_of n u (kept x.all)) (sym t.own.0.stands.view) ∙ (k.good.past.seated n).list in
      subst (λ l. j ≤ length l) b a

  pub lacks : (src : Source) → Has src (install_of e).sources → src.view ≡ v → (p : Part) → Has p src.parts → p.name ≡ g → (es : List Entry) × (lacking_of v (list_of s g) p ≡ Some es)
  lacks src j q p i name =
      let part : part_of g src.parts ≡ Some p = part_is g src.parts p ((replies.sources x g n s.views.inc s.views.view s.views.promise e h).differ src j) i name in
      let c : Carries x v (ss v) p = subst (CarriesIf x v (ss v)) part (subst (λ u. CarriesIf x u (ss u) (part_of g src.parts)) q (replies.whole_carries x g n s.views.inc s.views.view s.views.promise e h src j)) in
      reaches x v full (ss v) (list_of s g) p keeps c (held p.start c.stable) (λ le. caught_up full (ss v) (prefix_both full (ss v) (k.log v) own_part carried_part le))

-- the relation stands for every group
pub goes_on : (w : Scene) (n : ℕ) (s : Core) (e : Exchange) → s.views.gathering ≡ Some e → ((g : List ℕ) → Tied g w n s) → GoesOn s e
unfolding lacking lacking_in parts_from source_at
goes_on w n s e is all = by (source_at (install_of e).sources s.views.view) refl
  where
    gathers : (g : List ℕ) → Gathers (all g).ghost g n s.views.inc s.views.view s.views.promise e
    gathers g =
        subst (λ z. GathersIf (all g).ghost g n s.views.inc s.views.view s.views.promise z) is (all g).own.0.gathering

    parts : (src : Source) → Has src (install_of e).sources → src.view ≡ s.views.view → (ps : List Part) → ((p : Part) → Has p ps → Has p src.parts) → (xs : List Lacking) × (lacking_in s ps ≡ Some xs)
    parts src j q [] sub = ([], refl)
    parts src j q (p ∷ ps) sub =
        let a = lacks p.name w n s (all p.name) e (gathers p.name) src j q p (sub p (inl refl)) refl in
        let b = parts src j q ps (λ z i. sub z (inr i)) in
        (record { name = p.name; entries = a.0 } ∷ b.0, λ i. elim (a.1 i) as (λ _. Option (List Lacking)) [ None ↦ None | Some es ↦ elim (b.1 i) as (λ _. Option (List Lacking)) [ None ↦ None | Some xs ↦ Some (record { name = p.name; entries = es } ∷ xs) ] ])

    by : (o : Option Source) → source_at (install_of e).sources s.views.view ≡ o → (xs : List Lacking) × (lacking_in s (parts_in o) ≡ Some xs)
    by None q = ([], refl)
    by (Some src) q =
        let k = find_has (λ (y : Source). same_view y.view s.views.view) (install_of e).sources src q in
        parts src k.0 (same_of src.view s.views.view k.1) src.parts (λ p i. i)
