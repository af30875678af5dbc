-- What is kept says whether a base line keeps its rule.
use Rattle.std.proofs.Common.{◌≡◌, ℕ, Bool, true, false, not, filter, List, [], ◌∷◌, ◌++◌, length, Option, Some, None, refl, sym, ◌∙◌, ap}
use Rattle.std.specs.Prelude.{◌&&◌, ◌||◌, nat_le, if◌then◌else◌}
use Rattle.std.specs.List.{list_any}
use Rattle.std.specs.Str.{bytes_eq}
use Rattle.std.proofs.lemmas.List.Elements.{filter-append}
use Rattle.rsct_packet.specs.declared.ids.Member.{Member}
use Rattle.rsct_packet.specs.declared.ids.ProviderId.{ProviderId}
use Rattle.rsct_packet.specs.declared.ids.ViewId.{ViewId}
use Rattle.rsct_packet.specs.Ids.{is_member}
use Rattle.rsct_packet.specs.Providers.{same_provider}
use Rattle.proposal_core.specs.declared.entry.Entry.{Entry}
use Rattle.proposal_core.specs.declared.group_state.GroupState.{GroupState}
use Rattle.proposal_core.specs.Fold.{present}
use Rattle.word_laws.specs.Values.{spaced}
use Rattle.record_lines.specs.declared.line.BaseLine.{BaseLine}
use Rattle.record_lines.specs.declared.line.Line.{Line}
use Rattle.record_lines.specs.declared.line.Line.TheVariants as line
use Rattle.record_lines.specs.Writing.{base_words}
use Rattle.run_audit.specs.declared.broken.Fault.{Fault}
use Rattle.run_audit.specs.declared.broken.Rule.TheVariants as rule
use Rattle.audit_states.specs.declared.comings.IncKey.{IncKey}
use Rattle.audit_states.specs.declared.list_bases.ListBase.{ListBase}
use Rattle.audit_states.specs.Basing.{fallen_by, is_base_there, is_entered_by, lives_by, shows_by}
use Rattle.audit_states.specs.Comings.{AreComings, came_from}
use Rattle.run_audit.specs.Kept.{Keep, fault_of}
use Rattle.run_audit.specs.Past.{base_of, base_state, fold_from, from_of, is_at, list_of, listed, members_of, view_of}
use Rattle.audit_states.specs.States.{AllFit, cut_of, kept_base}
use Rattle.run_audit.specs.Table.{all_same, base_holds, holds, if_some, lives, same_base, same_open, shows_cut, with_of}
use Rattle.audit_states.proofs.ComingLaws.{came_is}

any_by : {A : Type 0} (s t : A → Bool) (xs : List A) → ((x : A) → s x ≡ t x) → list_any s xs ≡ list_any t xs
any_by s t [] e = refl
any_by s t (x ∷ xs) e = λ i. e x i || any_by s t xs e i

filter_by : {A : Type 0} (s t : A → Bool) (xs : List A) → ((x : A) → s x ≡ t x) → filter s xs ≡ filter t xs
filter_by s t [] e = refl
filter_by s t (x ∷ xs) e = λ i. if e x i then x ∷ filter_by s t xs e i else filter_by s t xs e i

-- who does not live in the view, of both
pub fallen_joined : (es : List (IncKey × List ViewId)) (ms : List Member) (v u : ViewId) (xs ys : List ProviderId) → fallen_by es ms v u (xs ++ ys) ≡ fallen_by es ms v u xs ++ fallen_by es ms v u ys
unfolding fallen_by
fallen_joined es ms v u xs ys = filter-append (λ p. not (lives_by es ms v u p)) xs ys

-- as the code has it
pub shown_is : (es : List (IncKey × List ViewId)) (ms : List Member) (v : ViewId) (b : BaseLine) (s : GroupState) (fallen : List ProviderId) (members value running failed : Bool) → fallen ≡ fallen_by es ms v b.old (present s) → members ≡ all_same same_provider b.members s.members → value ≡ bytes_eq b.value s.value
    → running ≡ same_open b.running s.running → failed ≡ all_same same_provider b.failed fallen → (members && (value && (running && failed))) ≡ shows_by es ms v b s
unfolding shows_by
shown_is es ms v b s fallen members value running failed f m w r d = λ i. m i && (w i && (r i && (d ∙ ap (all_same same_provider b.failed) f) i))

module _ (es : List (IncKey × List ViewId)) (v : ViewId) (ls : List Line) (are : AreComings ls es) (fit : AllFit ls) (life : Keep rule.Life ls) (into : Keep rule.In ls) where
  lives_is : (ms : List Member) (u : ViewId) (p : ProviderId) → lives_by es ms v u p ≡ lives v ms u ls p
  unfolding lives_by lives
  lives_is ms u p = ap (λ o. is_member ms p.node p.inc && is_at u o) (came_is es p.node p.inc v ls are fit life into)

  fallen_is : (ms : List Member) (u : ViewId) (ps : List ProviderId) → fallen_by es ms v u ps ≡ filter (λ p. not (lives v ms u ls p)) ps
  unfolding fallen_by
  fallen_is ms u ps = filter_by (λ p. not (lives_by es ms v u p)) (λ p. not (lives v ms u ls p)) ps (λ p. ap not (lives_is ms u p))

  entered_is : (ms : List Member) (u : ViewId) → is_entered_by es ms v u ≡ list_any (λ (m : Member). is_at u (from_of m.node m.inc v ls)) ms
  unfolding is_entered_by
  entered_is ms u = any_by (λ (m : Member). is_at u (came_from es m.node m.inc v)) (λ (m : Member). is_at u (from_of m.node m.inc v ls)) ms (λ m. ap (is_at u) (came_is es m.node m.inc v ls are fit life into))

  shows_is : (ms : List Member) (b : BaseLine) (s : GroupState) → shows_by es ms v b s ≡ shows_cut v ms b s ls
  unfolding shows_by shows_cut
  shows_is ms b s = ap (λ ps. all_same same_provider b.members s.members && (bytes_eq b.value s.value && (same_open b.running s.running && all_same same_provider b.failed ps))) (fallen_is ms b.old (present s))

like_is : (b : BaseLine) (text : List ℕ) (o : Option BaseLine) (s : GroupState) → text ≡ spaced (base_words b) → is_base_there text (kept_base o s) ≡ if_some o (same_base b)
unfolding is_base_there kept_base if_some same_base
like_is b text None s e = refl
like_is b text (Some a) s e = ap (λ z. bytes_eq z (spaced (base_words a))) e

-- as the code has them
pub base_is : (n : ℕ) (v : ViewId) (g : List ℕ) (b : BaseLine) (es : List (IncKey × List ViewId)) (ls : List Line) (at : Option ViewId) (ms : List Member) (xs : List Entry) (s : GroupState) (text : List ℕ) (first : Option ListBase) (here entered reached shown like : Bool) → AreComings ls es → AllFit ls → Keep rule.Life ls
    → Keep rule.In ls → at ≡ view_of n ls → ms ≡ listed (members_of v ls) → xs ≡ list_of b.old g ls → s ≡ cut_of b g ls → first ≡ kept_base (base_of v g ls) (base_state v g ls) → text ≡ spaced (base_words b) → here ≡ is_at v at → entered ≡ is_entered_by es ms v b.old → reached ≡ nat_le b.len (length xs)
    → shown ≡ shows_by es ms v b s → like ≡ is_base_there text first → (here && (entered && (reached && (shown && like)))) ≡ base_holds n v g b ls
unfolding base_holds cut_of
base_is n v g b es ls at ms xs s text first here entered reached shown like are fit life into e1 e2 e3 e4 e5 e6 h1 h2 h3 h4 h5 =
    let a : here ≡ is_at v (view_of n ls) = h1 ∙ ap (is_at v) e1 in
    let c : entered ≡ list_any (λ (m : Member). is_at b.old (from_of m.node m.inc v ls)) (listed (members_of v ls)) = h2 ∙ ap (λ z. is_entered_by es z v b.old) e2 ∙ entered_is es v ls are fit life into (listed (members_of v ls)) b.old in
    let d : reached ≡ nat_le b.len (length (list_of b.old g ls)) = h3 ∙ ap (λ z. nat_le b.len (length z)) e3 in
    let f : shown ≡ shows_cut v (listed (members_of v ls)) b (cut_of b g ls) ls = h4 ∙ (λ i. shows_by es (e2 i) v b (e4 i)) ∙ shows_is es v ls are fit life into (listed (members_of v ls)) b (cut_of b g ls) in
    let k : like ≡ if_some (base_of v g ls) (same_base b) = h5 ∙ ap (is_base_there text) e5 ∙ like_is b text (base_of v g ls) (base_state v g ls) e6 in
    λ i. a i && (c i && (d i && (f i && k i)))

module _ (n : ℕ) (v : ViewId) (g : List ℕ) (b : BaseLine) (ls : List Line) (t : Bool) (with_line : Option ℕ) (is : t ≡ base_holds n v g b ls) where
  pub base_kept : t ≡ true → None ≡ fault_of rule.Base (line.Base n v g b) ls
  unfolding holds
  base_kept e = sym (ap (λ z. if z then None else Some (record { rule = rule.Base; with_line = with_of rule.Base (line.Base n v g b) ls })) (sym is ∙ e))

  pub base_broken : t ≡ false → with_line ≡ with_of rule.Base (line.Base n v g b) ls → Some (record { rule = rule.Base; with_line = with_line }) ≡ fault_of rule.Base (line.Base n v g b) ls
  unfolding holds
  base_broken e w = ap (λ z. Some (record { rule = rule.Base; with_line = z })) w ∙ sym (ap (λ z. if z then None else Some (record { rule = rule.Base; with_line = with_of rule.Base (line.Base n v g b) ls })) (sym is ∙ e))
