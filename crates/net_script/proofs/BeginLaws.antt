-- How a world begins.
use Rattle.std.proofs.Common.{◌≡◌, ℕ, List, [], ◌∷◌, ◌++◌, ◌⊎◌, Option, None, inl, inr, refl, sym, ap, ◌∙◌, subst}
use Rattle.std.specs.Prelude.{fold}
use Rattle.std.proofs.lemmas.List.{append_assoc}
use Rattle.std.proofs.lemmas.List.Sums.{fold-append}
use Rattle.rsct_packet.specs.Lists.{reverse_onto}
use Rattle.rsct_packet.specs.Mask.{nodes_of}
use Rattle.node_state.specs.declared.config.Config.{Config}
use Rattle.node_state.specs.declared.config.Mode.TheVariants.{Fixed, Asked, Rings}
use Rattle.node_state.specs.declared.happened.Happened.{Happened}
use Rattle.world_model.specs.Kept.{with_packet}
use Rattle.world_model.specs.World.{empty_world, node_starts, world_of, world_new}
use Rattle.world_model.specs.World as world
use Rattle.net_script.specs.declared.world.World.{World}
use Rattle.world_laws.specs.world_answers.Answers.{Items}
use Rattle.net_script.specs.Standing.{Stands, Goes, kept_empty}
use Rattle.play_state.specs.Posting.{bytes_after}
use Rattle.net_script.proofs.WorldLaws.{goes_nowhere}

reversed : {A : Type 0} (xs ys zs : List A) → reverse_onto ys (reverse_onto xs zs) ≡ reverse_onto (xs ++ ys) zs
reversed [] ys zs = refl
reversed (x ∷ xs) ys zs = reversed xs ys (x ∷ zs)

-- what started of the nodes makes of the world what is to be made, with those that are left
abbrev pub StartsTo : {C : Type 0} → (C → Option Items) → (Items → Option Items) → World C → World C → List Happened → List Happened → List ℕ → List ℕ → Type 0
StartsTo script said c d before after ns left = (w : world.World) → Stands script said c w → (v : world.World) × Goes script said c d before after w v × (fold node_starts v left ≡ fold node_starts w ns)

module _ {C : Type 0} {script : C → Option Items} {said : Items → Option Items} where
  -- what happens, and then what happens next
  pub goes_then : (b c d : World C) (x y z : List Happened) (u v w : world.World) → Goes script said b c x y u v → Goes script said c d y z v w → Goes script said b d x z u w
  goes_then b c d x y z u v w f g = record {
    stands = g.stands;
    limit = g.limit ∙ f.limit;
    records = f.records ++ g.records;
    out = g.out ∙ (ap (λ rs. rs ++ g.records) f.out ∙ append_assoc x f.records g.records);
    trace = g.trace ∙ (ap (reverse_onto g.records) f.trace ∙ reversed f.records g.records u.trace);
    sent = f.sent ++ g.sent;
    sends = g.sends ∙ (ap (reverse_onto g.sent) f.sends ∙ reversed f.sent g.sent u.sent);
    within = fold-append (with_packet b.limit) (record { sum = b.kept; passed = None }) f.sent g.sent ∙ (ap (λ s. fold (with_packet b.limit) s g.sent) f.within ∙ (ap (λ k. bytes_after k c.kept g.sent) (sym f.limit) ∙ g.within));
  }

  pub starts_first : (c : World C) (out : List Happened) (ns : List ℕ) → StartsTo script said c c out out ns ns
  starts_first c out ns w h = (w, goes_nowhere c out w h, refl)

  pub starts_next : (b c d : World C) (x y z : List Happened) (ns left rest : List ℕ) (n : ℕ) → StartsTo script said b c x y ns left → left ≡ n ∷ rest → ((w : world.World) → Stands script said c w → Goes script said c d y z w (node_starts w n)) → StartsTo script said b d x z ns rest
  starts_next b c d x y z ns left rest n before front next w h =
      let f : (v : world.World) × Goes script said b c x y w v × (fold node_starts v left ≡ fold node_starts w ns) = before w h in
      (node_starts f.0 n, goes_then b c d x y z w f.0 (node_starts f.0 n) f.1 (next f.0 f.1.stands), ap (fold node_starts f.0) (sym front) ∙ f.2)

  pub starts_done : (b c : World C) (x y : List Happened) (ns left : List ℕ) → StartsTo script said b c x y ns left → left ≡ [] → (w : world.World) → Stands script said b w → Goes script said b c x y w (fold node_starts w ns)
  starts_done b c x y ns left before none w h =
      let f : (v : world.World) × Goes script said b c x y w v × (fold node_starts v left ≡ fold node_starts w ns) = before w h in
      subst (Goes script said b c x y w) (ap (fold node_starts f.0) (sym none) ∙ f.2) f.1

  pub empty_stands : (config : Config) (limit : ℕ) → Stands script said (kept_empty config limit) (empty_world config)
  empty_stands config limit = record { config = refl; nodes = tt; starts = refl; packets = (refl, refl) }

  pub begins_fixed : (config : Config) (limit : ℕ) (c : World C) (before after : List Happened) → config.mode ≡ Fixed
      → ((w : world.World) → Stands script said (kept_empty config limit) w → Goes script said (kept_empty config limit) c before after w (fold node_starts w (nodes_of config.nodes)))
      → Goes script said (kept_empty config limit) c before after (empty_world config) (world_new config)
  unfolding world_new world_of
  begins_fixed config limit c before after mode goes = subst (λ m. Goes script said (kept_empty config limit) c before after (empty_world config) (world_of config m)) (sym mode) (goes (empty_world config) (empty_stands config limit))

  begins_asked : (config : Config) (limit : ℕ) (out : List Happened) → config.mode ≡ Asked → Goes script said (kept_empty config limit) (kept_empty config limit) out out (empty_world config) (world_new config)
  unfolding world_new world_of
  begins_asked config limit out mode =
      subst (λ m. Goes script said (kept_empty config limit) (kept_empty config limit) out out (empty_world config) (world_of config m)) (sym mode) (goes_nowhere (kept_empty config limit) out (empty_world config) (empty_stands config limit))

  begins_rings : (config : Config) (limit : ℕ) (out : List Happened) → config.mode ≡ Rings → Goes script said (kept_empty config limit) (kept_empty config limit) out out (empty_world config) (world_new config)
  unfolding world_new world_of
  begins_rings config limit out mode =
      subst (λ m. Goes script said (kept_empty config limit) (kept_empty config limit) out out (empty_world config) (world_of config m)) (sym mode) (goes_nowhere (kept_empty config limit) out (empty_world config) (empty_stands config limit))

  pub begins_down : (config : Config) (limit : ℕ) (out : List Happened) → (config.mode ≡ Asked) ⊎ (config.mode ≡ Rings) → Goes script said (kept_empty config limit) (kept_empty config limit) out out (empty_world config) (world_new config)
  begins_down config limit out (inl e) = begins_asked config limit out e
  begins_down config limit out (inr e) = begins_rings config limit out e
