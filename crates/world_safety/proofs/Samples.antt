-- Which of the sample runs have joins with the attributes that are meant, and which have not.
use Rattle.std.proofs.Common.{◌≡◌, ℕ, Bool, List, [], ◌∷◌, Option, Some, None, true, false, refl, sym, ap, ◌∙◌, subst, inl, inr}
use Rattle.std.specs.Prelude.{◌==◌, ◌&&◌, drop}
use Rattle.std.specs.List.{list_any}
use Rattle.std.specs.Str.{bytes_eq}
use Rattle.std.proofs.lemmas.Bool.{eq-eqb}
use Rattle.rsct_packet.specs.Search.{Has}
use Rattle.rsct_packet.specs.declared.ids.ViewId.{ViewId}
use Rattle.rsct_packet.specs.declared.ids.ProviderId.{ProviderId}
use Rattle.group_attr.specs.Attrs.{empty_attrs}
use Rattle.group_attr.specs.declared.attrs.Attrs.{Attrs}
use Rattle.proposal_core.specs.declared.group_state.GroupState.{GroupState}
use Rattle.proposal_core.specs.declared.proposal.Proposal.TheVariants.{Join}
use Rattle.node_state.specs.declared.happened.Happened.{Happened}
use Rattle.node_state.specs.declared.happened.Happened.TheVariants.{Asked, Put}
use Rattle.node_state.proofs.NameOrder.{text_self}
use Rattle.run_safety.specs.Past.{records_of}
use Rattle.run_safety.proofs.Tests.{has_any}
use Rattle.entry_laws.specs.source_order.Meant.{meant, Decided}
use Rattle.entry_laws.specs.source_order.Sources.{FirstsFollowSources, HasMemberOn, PutBefore}
use Rattle.world_safety.specs.Samples.{history_after, db, one, one_view, one_joined, two_join, two_joined, target_joins, target_joined, limited, sourced, src, first_joiner, second_joiner}
use Rattle.world_safety.specs.Opens.{all_opens}

pub two_joined_is : history_after one two_join ≡ two_joined limited limited
unfolding all_opens
two_joined_is = refl

pub target_joined_is : history_after one target_joins ≡ target_joined sourced (Some 1)
unfolding all_opens
target_joined_is = refl

pub two_joined_follows : FirstsFollowSources (two_joined limited limited)
unfolding all_opens
two_joined_follows =
    ((tt, (tt, ((λ none. record { first = second_joiner; idle = false; asked = limited; decided = inl (record { given = refl; there = refl; joiners = second_joiner ∷ []; len = None; asked = inl refl; named = refl; state = refl }); attrs = refl; from = tt; chosen = inl ([], refl) }), tt))), ((tt, tt), (tt, ((tt, ((λ none. record { first = first_joiner; idle = true; asked = limited; decided = inl (record { given = refl; there = refl; joiners = first_joiner ∷ []; len = None; asked = inl refl; named = refl; state = refl }); attrs = refl; from = tt; chosen = inl ([], refl) }), tt)), ((tt, tt), (tt, ((tt, (tt, tt)), tt)))))))

pub target_joined_follows : FirstsFollowSources (target_joined sourced (Some 1))
unfolding all_opens
target_joined_follows =
    ((tt, ((λ none. record { first = second_joiner; idle = true; asked = sourced; decided = inl (record { given = refl; there = refl; joiners = second_joiner ∷ []; len = None; asked = inl refl; named = refl; state = refl }); attrs = refl; from = record { len = refl; members = λ p i. member p i }; chosen = inl ([], refl) }), tt)), ((tt, tt), (tt, ((tt, ((λ none. record { first = first_joiner; idle = true; asked = empty_attrs; decided = inl (record { given = refl; there = refl; joiners = first_joiner ∷ []; len = None; asked = inl refl; named = refl; state = refl }); attrs = refl; from = tt; chosen = inl ([], refl) }), tt)), ((tt, tt), (tt, ((tt, (tt, tt)), tt)))))))
  where
    st : GroupState
    st = record { members = first_joiner ∷ []; value = []; value_at = None; reflected_at = None; attrs = empty_attrs; running = None; failed = [] }

    member : (p : ProviderId) → Has p (second_joiner ∷ []) → HasMemberOn st p.node
    member p (inl e) = subst (λ (z : ProviderId). HasMemberOn st z.node) (sym e) refl
    member p (inr z) = absurd z

-- ---- which are refused

abbrev puts_place : ℕ → Happened → Bool
puts_place i (Put m v g j e) = bytes_eq g db && j == i
puts_place i _ = false

-- nobody put the place
no_put : (v : ViewId) (i : ℕ) (rs : List Happened) → list_any (puts_place i) rs ≡ false → PutBefore rs v db i → ⊥
no_put v i rs none p =
    let here : puts_place i (Put p.0 v db i p.1) ≡ true = λ k. text_self db k && eq-eqb i i refl k in
    let clash : true ≡ false = sym (has_any (puts_place i) rs (Put p.0 v db i p.1) p.2 here) ∙ none in absurd (cc)

-- each join of the group that was asked for has these attributes
abbrev AsksWith : Attrs → Happened → Type 0
AsksWith b (Asked p r g (Join ps a len)) = g ≡ db → a ≡ b
AsksWith b _ = Unit {0}

abbrev AllAskWith : Attrs → List Happened → Type 0
AllAskWith b [] = Unit {0}
AllAskWith b (r ∷ rs) = AsksWith b r × AllAskWith b rs

asked_with : (b : Attrs) (rs : List Happened) (p : ProviderId) (ps : List ProviderId) (a : Attrs) (len : Option ℕ) → AllAskWith b rs → Has (Asked p p.join db (Join ps a len)) rs → a ≡ b
asked_with b [] p ps a len all i = absurd i
asked_with b (r ∷ rs) p ps a len all (inl e) = subst (AsksWith b) (sym e) all.0 refl
asked_with b (r ∷ rs) p ps a len all (inr i) = asked_with b rs p ps a len all.1 i

src_is_other : src ≡ db → ⊥
src_is_other e = absurd (cc)

-- neither what was asked for nor what the group has is this
not_meant : (idle : Bool) (asked : Attrs) → asked ≡ limited → empty_attrs ≡ meant idle asked limited → ⊥
not_meant true asked q e = let u : ◌≡◌ {A = ℕ} 0 5 = ap (λ (a : Attrs). a.limit) (e ∙ q) in absurd (cc)
not_meant false asked q e = let u : ◌≡◌ {A = ℕ} 0 5 = ap (λ (a : Attrs). a.limit) e in absurd (cc)

pub second_has_other_attributes : FirstsFollowSources (two_joined limited empty_attrs) → ⊥
unfolding all_opens
second_has_other_attributes k =
    let b = k.0.1.1.0 (no_put one_view 1 (records_of (drop 1 (two_joined limited empty_attrs))) refl) in not_meant b.idle b.asked (asked b.first b.idle b.asked b.decided) b.attrs
  where
    asked : (p : ProviderId) (idle : Bool) (a : Attrs) → Decided (two_joined limited empty_attrs) 1 one_view db p idle a → a ≡ limited
    asked p idle a (inl d) = asked_with limited (records_of (drop 1 (two_joined limited empty_attrs))) p d.joiners a d.len ((λ e. refl), (tt, (tt, ((λ e. refl), (tt, (tt, tt)))))) d.asked
    asked p idle a (inr (inl d)) = absurd d.given
    asked p idle a (inr (inr (inl d))) = absurd d.given
    asked p idle a (inr (inr (inr (inl d)))) = asked_with limited (records_of (drop 4 (two_joined limited empty_attrs))) p d.joiners a d.len ((λ e. refl), (tt, (tt, tt))) d.asked
    asked p idle a (inr (inr (inr (inr (inl d))))) = absurd d.given
    asked p idle a (inr (inr (inr (inr (inr (inl d)))))) = absurd d.given
    asked p idle a (inr (inr (inr (inr (inr (inr (inl d))))))) = absurd d.given
    asked p idle a (inr (inr (inr (inr (inr (inr (inr z))))))) = absurd z

-- what was asked for in an empty idle group has a limit
not_limited : (idle : Bool) (asked own : Attrs) → (idle ≡ true) × (asked ≡ limited) → empty_attrs ≡ meant idle asked own → ⊥
not_limited true asked own k e = let u : ◌≡◌ {A = ℕ} 0 5 = ap (λ (a : Attrs). a.limit) (e ∙ k.1) in absurd (cc)
not_limited false asked own k e = let u : false ≡ true = k.0 in absurd (cc)

pub first_has_no_attributes : FirstsFollowSources (one_joined empty_attrs) → ⊥
unfolding all_opens
first_has_no_attributes k =
    let b = k.0.1.0 (no_put one_view 0 (records_of (drop 1 (one_joined empty_attrs))) refl) in not_limited b.idle b.asked _ (asked b.first b.idle b.asked b.decided) b.attrs
  where
    asked : (p : ProviderId) (idle : Bool) (a : Attrs) → Decided (one_joined empty_attrs) 1 one_view db p idle a → (idle ≡ true) × (a ≡ limited)
    asked p idle a (inl d) = (sym d.state, asked_with limited (records_of (drop 1 (one_joined empty_attrs))) p d.joiners a d.len ((λ e. refl), (tt, (tt, tt))) d.asked)
    asked p idle a (inr (inl d)) = absurd d.given
    asked p idle a (inr (inr (inl d))) = absurd d.given
    asked p idle a (inr (inr (inr (inl d)))) = absurd d.given
    asked p idle a (inr (inr (inr (inr z)))) = absurd z

-- what was asked for in an empty idle group has a source
not_sourced : (idle : Bool) (asked own : Attrs) → (idle ≡ true) × (asked ≡ sourced) → empty_attrs ≡ meant idle asked own → ⊥
not_sourced true asked own k e = let u : None ≡ Some src = ap (λ (a : Attrs). a.source) (e ∙ k.1) in absurd (cc)
not_sourced false asked own k e = let u : false ≡ true = k.0 in absurd (cc)

pub target_has_no_source : FirstsFollowSources (target_joined empty_attrs None) → ⊥
unfolding all_opens
target_has_no_source k =
    let b = k.0.1.0 (no_put one_view 0 (records_of (drop 1 (target_joined empty_attrs None))) refl) in not_sourced b.idle b.asked _ (asked b.first b.idle b.asked b.decided) b.attrs
  where
    asked : (p : ProviderId) (idle : Bool) (a : Attrs) → Decided (target_joined empty_attrs None) 1 one_view db p idle a → (idle ≡ true) × (a ≡ sourced)
    asked p idle a (inl d) = (sym d.state, asked_with sourced (records_of (drop 1 (target_joined empty_attrs None))) p d.joiners a d.len ((λ e. refl), (tt, (tt, ((λ e. absurd (src_is_other e)), (tt, (tt, tt)))))) d.asked)
    asked p idle a (inr (inl d)) = absurd d.given
    asked p idle a (inr (inr (inl d))) = absurd d.given
    asked p idle a (inr (inr (inr (inl d)))) = (sym d.state, asked_with sourced (records_of (drop 4 (target_joined empty_attrs None))) p d.joiners a d.len ((λ e. absurd (src_is_other e)), (tt, (tt, tt))) d.asked)
    asked p idle a (inr (inr (inr (inr (inl d))))) = absurd d.given
    asked p idle a (inr (inr (inr (inr (inr (inl d)))))) = absurd d.given
    asked p idle a (inr (inr (inr (inr (inr (inr (inl d))))))) = absurd d.given
    asked p idle a (inr (inr (inr (inr (inr (inr (inr z))))))) = absurd z
