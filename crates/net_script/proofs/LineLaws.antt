-- Lines that are no plain events.
use Rattle.std.proofs.Common.{◌≡◌, ℕ, not, List, Option, refl, ◌∙◌, ap}
use Rattle.std.specs.Prelude.{filter}
use Rattle.client_callbacks.specs.Handed.{Handed}
use Rattle.world_model.specs.declared.script.Line.{Line}
use Rattle.world_model.specs.World.{World}
use Rattle.world_model.specs.Play.{Cut, drops}
use Rattle.world_packets.specs.Packets.{waits_as, is_between}
use Rattle.world_laws.specs.world_answers.Answers.{Items}
use Rattle.world_laws.specs.world_answers.Plays.{AnsweredPlay, in_that_world, PlaysLine}
use Rattle.world_laws.proofs.world_answers.Adding.{line_adds}
use Rattle.world_laws.proofs.world_answers.Going.{line_goes}
use Rattle.transcript.specs.declared.kinds.Kinds.{Kinds}
use Rattle.net_script.specs.declared.stage.Stage.{Stage}
use Rattle.net_script.specs.Stage.{At, Went, Broke}
use Rattle.play_state.proofs.CutLaws.{kept_in}
use Rattle.net_script.proofs.ListLaws.{Playable}
use Rattle.net_script.proofs.StageLaws.{moved_still, went_still, broke_none}

pub lines_playable : (said : Items → Option Items) → Playable said Line (PlaysLine said)
lines_playable said = record { goes = line_goes said; adds = λ p l q h. line_adds p l q h }

-- what a line does not do for want of memory
pub line_broken : {C : Type 0} (said : Items → Option Items) (k : Kinds) (a : Option (List ℕ)) (s : Stage C) (p : AnsweredPlay) (l : Line) (v : World) → (q : AnsweredPlay) × PlaysLine said p l q × Broke k a a s p q v
line_broken said k a s p l v =
    let q = line_goes said p l in
    let more = line_adds p l q.0 q.1 in
    (q.0, q.1, broke_none k a s p q.0 v more.events more.grew)

module _ {C : Type 0} {script : C → Option Items} {said : Items → Option Items} where
  -- ---- what is under way between two nodes is lost

  dropped_at : (s t : Stage C) (p : AnsweredPlay) (v : World) (a b : ℕ) → At script said s p v
      → t ≡ record s { world = record (s.world) { packets = record (s.world.packets) { waiting = filter (λ x. not (is_between a b x)) s.world.packets.waiting } } } → At script said t (in_that_world p (drops p.world a b)) v
  unfolding drops
  dropped_at s t p v a b h same = rw same (record {
    stands = record {
      config = h.stands.config;
      nodes = h.stands.nodes;
      starts = h.stands.starts;
      packets = (h.stands.packets.0, kept_in waits_as (λ x. not (is_between a b x)) p.world.queue ∙ ap (filter (λ x. not (is_between a b x))) h.stands.packets.1);
    };
    cuts = h.cuts;
    same = h.same;
  })

  -- ---- cuts

  cut_at : (s t : Stage C) (p : AnsweredPlay) (v : World) (cuts : List Cut) → At script said s p v → t ≡ record s { cuts = cuts } → At script said t (record p { cuts = cuts }) v
  cut_at s t p v cuts h same = rw same (record { stands = h.stands; cuts = refl; same = h.same })

module _ {C : Type 0} {script : C → Option Items} {said : Items → Option Items} {R : C → List Handed → Type 0} where
  pub dropped : (k : Kinds) (o : Option (List ℕ)) (s t : Stage C) (a b : ℕ)
      → t ≡ record s { world = record (s.world) { packets = record (s.world.packets) { waiting = filter (λ x. not (is_between a b x)) s.world.packets.waiting } } }
      → (p : AnsweredPlay) → (v : World) → At script said s p v → Went script said R k o o s t p (in_that_world p (drops p.world a b)) v
  dropped k o s t a b same p v h =
      let q : AnsweredPlay = in_that_world p (drops p.world a b) in
      went_still k o s t p q v (ap (λ (z : Stage C). z.text.items) same) (moved_still s t p q v refl (ap (λ (z : Stage C). z.world.limit) same) (ap (λ (z : Stage C). z.world.kept) same) (ap (λ (z : Stage C). z.world.nodes) same) (ap (λ (z : Stage C). z.counts) same) (dropped_at s t p v a b h same))

  pub recut : (k : Kinds) (o : Option (List ℕ)) (s t : Stage C) (cuts : List Cut) → t ≡ record s { cuts = cuts } → (p : AnsweredPlay) → (v : World) → At script said s p v → Went script said R k o o s t p (record p { cuts = cuts }) v
  recut k o s t cuts same p v h =
      let q : AnsweredPlay = record p { cuts = cuts } in
      went_still k o s t p q v (ap (λ (z : Stage C). z.text.items) same) (moved_still s t p q v refl (ap (λ (z : Stage C). z.world.limit) same) (ap (λ (z : Stage C). z.world.kept) same) (ap (λ (z : Stage C). z.world.nodes) same) (ap (λ (z : Stage C). z.counts) same) (cut_at s t p v cuts h same))
