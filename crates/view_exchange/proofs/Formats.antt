-- What is read as a part, an answer or an install is spelled so, and what is spelled so is read.
use Rattle.std.proofs.Common.{◌≡◌, ℕ, ◌+◌, ◌^◌, List, [], ◌∷◌, ◌++◌, length, Option, Some, None, refl, sym, ap, subst, ◌∙◌, append_assoc, append-nil, arith, inl, inr}
use Rattle.std.specs.Prelude.{IfSome, IfOk, Result, Ok, Err, ◌&&◌}
use Rattle.std.specs.Int.{w8, w32}
use Rattle.std.proofs.lemmas.Bool.{cases_lt, leb-true, le-leb}
use Rattle.std.proofs.lemmas.List.{get_or_append_left, get_or_past}
use Rattle.rsct_packet.specs.Reading.{◌>>=◌, number_at, part_at}
use Rattle.rsct_packet.specs.Format.{IsFormat, IsBytes, Takes, EachFits}
use Rattle.rsct_packet.specs.Fields.{u32_text, IsU32, IsNode, IsMember}
use Rattle.rsct_packet.specs.declared.ids.Member.{Member}
use Rattle.rsct_packet.proofs.FormatLaws.{bind_some, both_format, made_format, guarded_format, fits_format, counted_format, part_keyed, wide8, wide32, u32_format}
use Rattle.rsct_packet.proofs.FieldLaws.{and_true, both_true, name_format, mask_format, view_format, member_format}
use Rattle.proposal_core.specs.EntryCodec.{whole}
use Rattle.group_codec.proofs.EntryFormat.{entry_format}
use Rattle.group_codec.proofs.StateFormat.{state_format}
use Rattle.std.specs.Borrow.{Bor}
use Rattle.std.specs.Option.{option_map}
use Rattle.view_state.specs.declared.install.Part.{Part}
use Rattle.view_exchange.specs.declared.in_place.PartRef.{PartRef}
use Rattle.view_exchange.specs.InPlace.{part_in}
use Rattle.view_state.specs.Tails.{IsTail, AreTails, HasTails}
use Rattle.view_state.specs.declared.install.Source.{Source}
use Rattle.view_state.specs.declared.install.Install.{Install}
use Rattle.view_state.specs.Codec.{sized_at, sized_text, sized_entry_at, sized_entry_text, IsSizedEntry, part_of_parts, ends_in_u32, group_part_at, group_part_text, IsPart, names_ascend, parts_at, parts_text, IsParts, brought_of_parts, answer_at, answer_text, IsAnswer, source_of_parts, source_at_front, source_text, IsSource, members_ascend, views_ascend, each_comes_once, is_in_order, install_of_parts, install_at, install_text, IsInstall}

-- a reader of all of the bytes
whole_some : {A : Type 0} (r : Option (A × List ℕ)) (x : A) → whole r ≡ Some x → r ≡ Some (x, [])
whole_some None x e = absurd cc
whole_some (Some (y, [])) x e = let h : y ≡ x = cc in ap (λ z. Some (z, [])) h
whole_some (Some (y, b ∷ rest)) x e = absurd cc

front_bytes : (front rest : List ℕ) → IsBytes (front ++ rest) → IsBytes front
front_bytes front rest h i =
    elim (cases_lt i (length front)) [
      | inl lt ↦ rw (← get_or_append_left front rest 0 i lt) (h i)
      | inr le ↦ rw (get_or_past front i 0 le) (omega arith)
    ]

pub sized_format : {A : Type 0} {f : List ℕ → Option (A × List ℕ)} {text : A → List ℕ} {fits : A → Type 0} → IsFormat f text fits → IsFormat (sized_at f) (sized_text text) (λ x. fits x × IsU32 (length (text x)))
sized_format {A = A} {f = f} {text = text} {fits = fits} format = record {
  found = λ bytes x h e.
      let n = bind_some (number_at w32 bytes) (λ n. part_at n.0 n.1 >>= λ t. whole (f t.0) >>= λ y. Some (y, t.1)) x e in
      let t = bind_some (part_at n.0.0 n.0.1) (λ t. whole (f t.0) >>= λ y. Some (y, t.1)) x n.2 in
      let y = bind_some (whole (f t.0.0)) (λ y. Some (y, t.0.1)) x t.2 in
      let p = u32_format.found bytes n.0 h n.1 in
      let q = part_keyed.found n.0.0 n.0.1 t.0 p.0.rest_fits t.1 in
      let here : IsBytes (t.0.0 ++ t.0.1) = subst (λ (b : List ℕ). IsBytes b) q.0.parts p.0.rest_fits in
      let r = format.found t.0.0 (y.0, []) (front_bytes t.0.0 t.0.1 here) (whole_some (f t.0.0) y.0 y.1) in
      let text_is : t.0.0 ≡ text y.0 = r.0.parts ∙ append-nil (text y.0) in
      let len : n.0.0 ≡ length (text y.0) = sym q.2 ∙ ap (λ (b : List ℕ). length b) text_is in
      let rest : n.0.1 ≡ text y.0 ++ t.0.1 = q.0.parts ∙ ap (λ (b : List ℕ). b ++ t.0.1) text_is in
      let parts : bytes ≡ (u32_text (length (text y.0)) ++ text y.0) ++ t.0.1 =
      p.0.parts ∙ (ap (λ (b : List ℕ). u32_text n.0.0 ++ b) rest ∙ (ap (λ (k : ℕ). u32_text k ++ (text y.0 ++ t.0.1)) len ∙ sym (append_assoc (u32_text (length (text y.0))) (text y.0) t.0.1)))
      in
      let short : IsU32 (length (text y.0)) = subst (λ (k : ℕ). IsU32 k) len p.1 in
      let is : ◌≡◌ {A = A × List ℕ} (y.0, t.0.1) x = let q = y.2 in cc in
      subst (λ (z : A × List ℕ). Takes bytes (sized_text text z.0) z.1 × (fits z.0 × IsU32 (length (text z.0)))) is
      (record { parts = parts; rest_fits = q.0.rest_fits }, (r.1, short));
  again = λ x rest h.
      let all : f (text x) ≡ Some (x, []) = ap f (sym (append-nil (text x))) ∙ format.again x [] h.0 in
      ap (sized_at f) (append_assoc (u32_text (length (text x))) (text x) rest)
      ∙ rw (u32_format.again (length (text x)) (text x ++ rest) h.1, part_keyed.again (text x) rest tt, all) refl;
}

pub sized_entry_format : IsFormat sized_entry_at sized_entry_text IsSizedEntry
unfolding sized_entry_at sized_entry_text
sized_entry_format = fits_format IsSizedEntry (λ e h. record { entry = h.0; short = h.1 }) (λ e h. (h.entry, h.short)) (sized_format entry_format)

pub part_format : IsFormat group_part_at group_part_text IsPart
unfolding group_part_at group_part_text
part_format =
    fits_format IsPart
    (λ p h. record { name = h.0.0; state = h.0.1.1.0; entries = h.0.1.1.1.1; ends = leb-true (p.start + length p.entries) 4294967295 h.1 })
    (λ p h.
    let ends = h.ends in
    ((h.name, (omega arith, (h.state, (omega arith, h.entries)))), le-leb (p.start + length p.entries) 4294967295 ends))
    (guarded_format ends_in_u32
    (made_format part_of_parts (λ p. (p.name, (p.start, (p.state, p.entries))))
    (λ a. refl)
    (λ b. refl)
    (both_format name_format (both_format u32_format (both_format state_format (counted_format w32 (2 ^ 32) wide32 sized_entry_format))))))

pub parts_format : IsFormat parts_at parts_text IsParts
unfolding parts_at parts_text
parts_format =
    fits_format IsParts (λ ps h. let lt = h.0.0 in record { few = omega arith; each = h.0.1; ascend = h.1 }) (λ ps h. let few = h.few in ((omega arith, h.each), h.ascend))
    (guarded_format names_ascend (counted_format w8 256 wide8 part_format))

pub answer_format : IsFormat answer_at answer_text IsAnswer
unfolding answer_at answer_text
answer_format =
    fits_format IsAnswer (λ a h. record { view = h.0; parts = h.1 }) (λ a h. (h.view, h.parts))
    (made_format brought_of_parts (λ a. (a.view, a.parts)) (λ a. refl) (λ b. refl) (both_format view_format parts_format))

pub source_format : IsFormat source_at_front source_text IsSource
unfolding source_at_front source_text
source_format =
    fits_format IsSource (λ s h. record { view = h.0; nodes = h.1.0; parts = h.1.1 }) (λ s h. (h.view, (h.nodes, h.parts)))
    (made_format source_of_parts (λ s. (s.view, (s.nodes, s.parts)))
    (λ a. refl)
    (λ b. refl)
    (both_format view_format (both_format mask_format parts_format)))

pub install_format : IsFormat install_at install_text IsInstall
unfolding install_at install_text
install_format =
    fits_format IsInstall
    (λ i h.
    let p = and_true (members_ascend i.members) (views_ascend i.sources && each_comes_once i.members i.sources) h.1 in
    let q = and_true (views_ascend i.sources) (each_comes_once i.members i.sources) p.1 in
    let ms = h.0.1.0.0 in
    let ss = h.0.1.1.0 in
    record {
      view = h.0.0;
      few_members = omega arith;
      members = h.0.1.0.1;
      few_sources = omega arith;
      sources = h.0.1.1.1;
      members_ascend = p.0;
      views_ascend = q.0;
      each_comes_once = q.1;
    })
    (λ i h.
    let ms = h.few_members in
    let ss = h.few_sources in
    ((h.view, ((omega arith, h.members), (omega arith, h.sources))), both_true (members_ascend i.members) (views_ascend i.sources && each_comes_once i.members i.sources) h.members_ascend (both_true (views_ascend i.sources) (each_comes_once i.members i.sources) h.views_ascend h.each_comes_once)))
    (guarded_format is_in_order
    (made_format install_of_parts (λ i. (i.view, (i.members, i.sources)))
    (λ a. refl)
    (λ b. refl)
    (both_format view_format (both_format (counted_format w8 256 wide8 member_format) (counted_format w8 256 wide8 source_format)))))

pub part_fits : (bytes : List ℕ) (r : Option (PartRef × Bor (List ℕ))) → IsBytes bytes → option_map (λ x. (part_in x.0, x.1.now)) r ≡ group_part_at bytes → IfSome r (λ x. IsPart (part_in x.0))
part_fits bytes None h e = tt
part_fits bytes (Some x) h e = (part_format.found bytes (part_in x.0, x.1.now) h (sym e)).1

-- a reader of all of the bytes, as a public reader says it
whole_found_by : {A : Type 0} {f : List ℕ → Option (A × List ℕ)} {text : A → List ℕ} {fits : A → Type 0} → IsFormat f text fits → (bytes : List ℕ) (r : Option A) → IsBytes bytes → r ≡ whole (f bytes) → IfSome r (λ x. fits x × (bytes ≡ text x))
whole_found_by format bytes None h e = tt
whole_found_by {f = f} {text = text} format bytes (Some x) h e =
    let p = format.found bytes (x, []) h (whole_some (f bytes) x (sym e)) in
    (p.1, p.0.parts ∙ append-nil (text x))

pub whole_found : {A : Type 0} {f : List ℕ → Option (A × List ℕ)} {text : A → List ℕ} {fits : A → Type 0} → IsFormat f text fits → (bytes : List ℕ) (r : Option A) → IsBytes bytes → r ≡ whole (f bytes) → IfSome r (λ x. fits x × (bytes ≡ text x))
whole_found format bytes r h e = whole_found_by format bytes r h e

pub whole_only : {A : Type 0} {f : List ℕ → Option (A × List ℕ)} {text : A → List ℕ} {fits : A → Type 0} → IsFormat f text fits → (bytes : List ℕ) (r : Option A) (x : A) → r ≡ whole (f bytes) → fits x → bytes ≡ text x → r ≡ Some x
whole_only {f = f} {text = text} format bytes r x e h is =
    e ∙ ap (λ (b : List ℕ). whole (f b)) (is ∙ sym (append-nil (text x))) ∙ ap whole (format.again x [] h)

member_nodes_in : (ms : List Member) → EachFits IsMember ms → EachFits (λ m. IsNode m.node) ms
member_nodes_in [] h = tt
member_nodes_in (m ∷ ms) h = (h.0.node, member_nodes_in ms h.1)

pub member_nodes : (i : Install) → IsInstall i → EachFits (λ m. IsNode m.node) i.members
member_nodes i h = member_nodes_in i.members h.members

-- what is spelled is of lists

parts_are_tails : (ps : List Part) → EachFits IsPart ps → EachFits IsTail ps
parts_are_tails [] h = tt
parts_are_tails (p ∷ ps) h = let ends = h.0.ends in (record { ends = omega arith; joiners = h.0.state.joiners }, parts_are_tails ps h.1)

sources_are_tails : (ss : List Source) → EachFits IsSource ss → EachFits AreTails ss
sources_are_tails [] h = tt
sources_are_tails (s ∷ ss) h = (parts_are_tails s.parts h.0.parts.each, sources_are_tails ss h.1)

pub installs_have_tails : (i : Install) → IsInstall i → HasTails i
installs_have_tails i h = record { each = sources_are_tails i.sources h.sources }

-- the same of a result that may have found no memory
pub result_found : {A E : Type 0} {f : List ℕ → Option (A × List ℕ)} {text : A → List ℕ} {fits : A → Type 0} → IsFormat f text fits → (bytes : List ℕ) (r : Result (Option A) E) → IsBytes bytes → IfOk r (λ o. o ≡ whole (f bytes)) → IfOk r (λ o. IfSome o (λ x. fits x × (bytes ≡ text x)))
result_found format bytes (Ok o) h e = whole_found format bytes o h e
result_found format bytes (Err x) h e = tt

pub result_only : {A E : Type 0} {f : List ℕ → Option (A × List ℕ)} {text : A → List ℕ} {fits : A → Type 0} → IsFormat f text fits → (bytes : List ℕ) (r : Result (Option A) E) (x : A) → IfOk r (λ o. o ≡ whole (f bytes)) → fits x → bytes ≡ text x → IfOk r (λ o. o ≡ Some x)
result_only format bytes (Ok o) x e h is = whole_only format bytes o x e h is
result_only format bytes (Err y) x e h is = tt

found_has_tails : (bytes : List ℕ) (o : Option Install) → IfSome o (λ i. IsInstall i × (bytes ≡ install_text i)) → IfSome o HasTails
found_has_tails bytes None h = tt
found_has_tails bytes (Some i) h = installs_have_tails i h.0

pub result_has_tails : {E : Type 0} (bytes : List ℕ) (r : Result (Option Install) E) → IsBytes bytes → IfOk r (λ o. o ≡ whole (install_at bytes)) → IfOk r (λ o. IfSome o HasTails)
result_has_tails bytes (Ok o) h e = found_has_tails bytes o (whole_found install_format bytes o h e)
result_has_tails bytes (Err x) h e = tt
