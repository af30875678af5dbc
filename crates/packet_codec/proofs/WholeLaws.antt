-- What is read up to its end, and made into another type.
use Rattle.std.proofs.Common.{◌≡◌, ℕ, List, [], ◌∷◌, ◌++◌, Option, Some, None, refl, sym, ap, ◌∙◌, append-nil}
use Rattle.std.specs.Option.{option_map}
use Rattle.std.specs.Int.{w32}
use Rattle.rsct_packet.specs.Reading.{◌>>=◌, number_at, both_at, made_at}
use Rattle.rsct_packet.specs.Format.{IsFormat}
use Rattle.proposal_core.specs.declared.entry.Entry.{Entry}
use Rattle.proposal_core.specs.EntryCodec.{whole, entry_front_at}
use Rattle.packet_bodies.specs.Group.{GroupIn, group_at}
use Rattle.packet_bodies.specs.Body.{whole_of}
use Rattle.node_state.specs.declared.packet.Body.TheVariants as body
use Rattle.node_state.specs.Bodies.{entry_of_parts, entry_at}

made_whole : {A B : Type 0} (make : A → B) (r : Option (A × List ℕ)) → whole_of (r >>= (λ a. Some (make a.0, a.1))) ≡ option_map make (whole_of r)
made_whole make None = refl
made_whole make (Some (x, [])) = refl
made_whole make (Some (x, b ∷ bs)) = refl

pub whole_made : {A B : Type 0} (make : A → B) (f : List ℕ → Option (A × List ℕ)) (bytes : List ℕ) → whole_of (made_at make f bytes) ≡ option_map make (whole_of (f bytes))
whole_made make f bytes = made_whole make (f bytes)

-- both words for it say the same
pub whole_same : {A : Type 0} (r : Option (A × List ℕ)) → whole_of r ≡ whole r
whole_same None = refl
whole_same (Some (x, [])) = refl
whole_same (Some (x, b ∷ bs)) = refl

-- the entry of an ENTRY is read up to its end
pub entry_end : (g : GroupIn) (place stable : ℕ) (bytes b1 b2 b3 : List ℕ) → group_at bytes ≡ Some (g, b1) → number_at w32 b1 ≡ Some (place, b2) → number_at w32 b2 ≡ Some (stable, b3) → whole_of (entry_at bytes) ≡ option_map (λ e. body.Entry g.view g.name place stable e) (whole (entry_front_at b3))
unfolding entry_at
entry_end g place stable bytes b1 b2 b3 e1 e2 e3 = by (entry_front_at b3) refl
  where
    by : (r : Option (Entry × List ℕ)) → entry_front_at b3 ≡ r → whole_of (made_at entry_of_parts (both_at group_at (both_at (number_at w32) (both_at (number_at w32) entry_front_at))) bytes) ≡ option_map (λ e. body.Entry g.view g.name place stable e) (whole (entry_front_at b3))
    by None h = rw (e1, e2, e3, h) refl
    by (Some (x, [])) h = rw (e1, e2, e3, h) refl
    by (Some (x, b ∷ bs)) h = rw (e1, e2, e3, h) refl

-- what is spelled alone is read up to its end
pub whole_again : {A : Type 0} {f : List ℕ → Option (A × List ℕ)} {text : A → List ℕ} {fits : A → Type 0} → IsFormat f text fits → (x : A) → fits x → whole_of (f (text x)) ≡ Some x
whole_again {f = f} {text = text} format x h = ap (λ t. whole_of (f t)) (sym (append-nil (text x))) ∙ ap whole_of (format.again x [] h)
