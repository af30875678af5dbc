-- The bases of an install: each is that of its name, and has room where the lists have that are carried.
use Rattle.std.proofs.Common.{◌≡◌, List, [], ◌∷◌, Some, None, Option, refl, sym, subst, inl, inr}
use Rattle.std.specs.Prelude.{IsTrue, ℕ}
use Rattle.rsct_packet.specs.Search.{Has}
use Rattle.view_state.specs.declared.install.Part.{Part}
use Rattle.view_state.specs.declared.install.Source.{Source}
use Rattle.view_state.specs.declared.install.Install.{Install}
use Rattle.view_state.specs.declared.install.Base.{Base}
use Rattle.view_state.specs.Bases.{IsBaseOf, base_of, bases_for, bases_of, names_in}
use Rattle.view_state.specs.Codec.{views_ascend}
use Rattle.view_bases.proofs.Bases.{base_is}
use Rattle.step_refinement.proofs.BaseOrder.{base_name}
use Rattle.send_laws.specs.Bound.{Room}

abbrev pub PartsRoom : Install → Type 0
PartsRoom i = (x : Source) → Has x i.sources → (p : Part) → Has p x.parts → Room p.state

named_in : (i : Install) (ns : List (List ℕ)) (b : Base) → Has b (bases_for i ns) → base_of i b.name ≡ Some b
unfolding bases_for
named_in i [] b h = absurd h
named_in i (n ∷ ns) b h = by (base_of i n) refl (named_in i ns b) h
  where
    by : (o : Option Base) → base_of i n ≡ o → (Has b (bases_for i ns) → base_of i b.name ≡ Some b) → Has b (elim o as (λ _. List Base) [ None ↦ bases_for i ns | Some x ↦ x ∷ bases_for i ns ]) → base_of i b.name ≡ Some b
    by None e on h = on h
    by (Some x) e on (inl q) =
        subst (λ (z : Base). base_of i z.name ≡ Some z) (sym q) (subst (λ m. base_of i m ≡ Some x) (sym (base_name i n x e)) e)
    by (Some x) e on (inr k) = on k

pub base_by_name : (i : Install) (b : Base) → Has b (bases_of i) → base_of i b.name ≡ Some b
unfolding bases_of
base_by_name i b h = named_in i (names_in i.sources) b h

pub bases_room : (i : Install) → IsTrue (views_ascend i.sources) → PartsRoom i → (b : Base) → Has b (bases_of i) → Room b.state
bases_room i ascend room b h =
    let k : IsBaseOf i b.name b = base_is i b.name (Some b) ascend (sym (base_by_name i b h)) in
    subst Room (sym k.state) (room k.source k.wins.candidate.0 k.part k.wins.candidate.1.0)
