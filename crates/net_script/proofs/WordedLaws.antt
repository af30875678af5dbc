-- Where each client votes just as its word says, the play is that of the definitions.
use Rattle.std.proofs.Common.{◌≡◌, ℕ, Bool, true, false, List, [], ◌∷◌, map, Option, Some, None, Result, Ok, Err, refl, sym, ◌∙◌, ap, subst}
use Rattle.std.specs.Io.KnownBytes.{Appends}
use Rattle.std.proofs.KnownBytes.{Appends-nil}
use Rattle.hags_io.specs.Edges.{GrowsByFront}
use Rattle.rsct_packet.specs.Lists.{reverse_onto}
use Rattle.client_callbacks.specs.Handed.{Handed}
use Rattle.node_state.specs.declared.config.Config.{Config}
use Rattle.world_model.specs.declared.script.Line.{Line}
use Rattle.world_model.specs.declared.script.Script.{Script}
use Rattle.world_model.specs.World.{World, world_new}
use Rattle.world_model.specs.Play.{Played, events_of, played, played_records, script_records}
use Rattle.world_model.specs.Kept.{Ended, runs_from, runs_within, ended, kept_past, kept_records}
use Rattle.world_laws.specs.world_answers.Answers.{Items, AllWorded, Answered, events_in}
use Rattle.world_laws.specs.world_answers.Plays.{AnsweredPlay, starting, PlaysLines}
use Rattle.world_laws.specs.world_answers.Limits.{answered_in, limited, WordedFrom}
use Rattle.world_laws.proofs.world_answers.Adding.{lines_add}
use Rattle.world_laws.proofs.world_answers.Limits.{within_worded}
use Rattle.world_laws.proofs.world_answers.Worded.{lines_same, worded_plays_are_one}
use Rattle.transcript.specs.declared.kinds.Kinds.{Kinds}
use Rattle.transcript.specs.Kinds.{kinds_text}
use Rattle.net_script.specs.declared.world.World as kept
use Rattle.play_state.specs.declared.play_fault.PlayFault.{PlayFault}
use Rattle.play_state.specs.declared.play_fault.PlayFault.TheVariants as play_fault
use Rattle.net_script.specs.Ends.{records_in, records_within, StopsAs, PlayedAs}
use Rattle.net_script.proofs.PlayLaws.{answered_all}
use Rattle.net_script.proofs.TextLaws.{all_front}

map_onto : {A B : Type 0} (f : A → B) (xs ys : List A) → map f (reverse_onto xs ys) ≡ reverse_onto (map f xs) (map f ys)
map_onto f [] ys = refl
map_onto f (x ∷ xs) ys = map_onto f xs (x ∷ ys)

module _ (said : Items → Option Items) (all : AllWorded said) where
  events_same : (c : Config) (ls : List Line) (p : AnsweredPlay) → PlaysLines said (starting c) ls p → events_in (answered_in p) ≡ events_of c ls
  unfolding events_of played
  events_same c ls p h = map_onto (λ (e : Answered). e.event) p.events [] ∙ ap (λ (z : Played). reverse_onto z.events []) (lines_same all (starting c) ls p h)

  ended_same : (limit : ℕ) (c : Config) (ls : List Line) (p : AnsweredPlay) → PlaysLines said (starting c) ls p → runs_within limit c (events_of c ls) ≡ limited limit c p
  unfolding runs_within
  ended_same limit c ls p h =
      let adds = lines_add (starting c) ls p h in
      let worded : WordedFrom (world_new c) (answered_in p) = subst (WordedFrom (world_new c)) (sym (answered_all c p adds.events adds.grew)) (adds.worded all (world_new c) refl) in
      ap (runs_from limit 0 (world_new c)) (sym (events_same c ls p h)) ∙ sym (within_worded limit 0 (world_new c) (answered_in p) worded)

  begun_ended : (limit : ℕ) (x : Script) (p : AnsweredPlay) → x.begun ≡ true → PlaysLines said (starting x.config) x.lines p → ended limit x ≡ limited limit x.config p
  unfolding ended
  begun_ended limit x p begun h =
      ap (λ (t : Bool). elim t [ true ↦ runs_within limit x.config (events_of x.config x.lines) | false ↦ record { world = world_new x.config; passed = None } ]) begun ∙ ended_same limit x.config x.lines p h

  -- what passes the limit
  pub past_same : (limit : ℕ) (x : Script) (p : AnsweredPlay) (o : Option ℕ) → x.begun ≡ true → PlaysLines said (starting x.config) x.lines p → (limited limit x.config p).passed ≡ o → kept_past limit x ≡ o
  unfolding kept_past
  past_same limit x p o begun h e = ap (λ (z : Ended). z.passed) (begun_ended limit x p begun h) ∙ e

  -- the records
  pub records_same : (x : Script) (p : AnsweredPlay) → x.begun ≡ true → PlaysLines said (starting x.config) x.lines p → script_records x ≡ records_in p
  unfolding script_records played_records
  records_same x p begun h =
      ap (λ (t : Bool). elim t [ true ↦ played_records x.config x.lines | false ↦ [] ]) begun ∙ ap (λ (w : World). reverse_onto w.trace []) (sym (worded_plays_are_one said all x.config x.lines p h))

  pub kept_same : (limit : ℕ) (x : Script) (p : AnsweredPlay) → x.begun ≡ true → PlaysLines said (starting x.config) x.lines p → kept_records limit x ≡ records_within limit x.config p
  unfolding kept_records
  kept_same limit x p begun h =
      ap (λ (t : Bool). elim t [ true ↦ reverse_onto (ended limit x).world.trace [] | false ↦ [] ]) begun ∙ ap (λ (z : Ended). reverse_onto z.world.trace []) (begun_ended limit x p begun h)

-- ---- a script that has not begun

pub unbegun_past : (limit : ℕ) (x : Script) → x.begun ≡ false → kept_past limit x ≡ None
unfolding kept_past ended
unbegun_past limit x e = ap (λ (t : Bool). (elim t as (λ _. Ended) [ true ↦ runs_within limit x.config (events_of x.config x.lines) | false ↦ record { world = world_new x.config; passed = None } ]).passed) e

pub unbegun_text : (kinds : Kinds) (a : Option (List ℕ)) (x : Script) → x.begun ≡ false → Appends a a (kinds_text kinds (script_records x))
unfolding kinds_text script_records
unbegun_text kinds a x e = subst (λ rs. Appends a a (kinds_text kinds rs)) (sym (ap (λ (t : Bool). elim t [ true ↦ played_records x.config x.lines | false ↦ [] ]) e)) (Appends-nil a)

-- ---- what a play says

stops_front : (f : PlayFault) (kinds : Kinds) (limit : ℕ) (c : Config) (p : AnsweredPlay) (a b : Option (List ℕ)) → StopsAs f kinds limit c p a b → GrowsByFront a b (kinds_text kinds (records_within limit c p))
stops_front (play_fault.Kept n) kinds limit c p a b h = all_front a b (kinds_text kinds (records_within limit c p)) h.1
stops_front play_fault.WriteFault kinds limit c p a b h = h
stops_front play_fault.NoMemory kinds limit c p a b h = h

module _ {C : Type 0} {script : C → Option Items} {said : Items → Option Items} {R : C → List Handed → Type 0} where
  pub says_done : (all : AllWorded said) (w : kept.World C) (kinds : Kinds) (limit : ℕ) (x : Script) (a b : Option (List ℕ)) → x.begun ≡ true → PlayedAs script said R (Ok w) kinds limit x a b → (kept_past limit x ≡ None) × Appends a b (kinds_text kinds (script_records x))
  says_done all w kinds limit x a b e p =
      (past_same said all limit x p.play None e p.lines p.ends.0, subst (λ rs. Appends a b (kinds_text kinds rs)) (sym (records_same said all x p.play e p.lines)) p.ends.2)

  pub says_kept : (all : AllWorded said) (f : PlayFault) (n : ℕ) (kinds : Kinds) (limit : ℕ) (x : Script) (a b : Option (List ℕ)) → f ≡ play_fault.Kept n → x.begun ≡ true → PlayedAs script said R (Err f) kinds limit x a b → (kept_past limit x ≡ Some n) × Appends a b (kinds_text kinds (kept_records limit x))
  says_kept all f n kinds limit x a b is e p =
      let ends : StopsAs (play_fault.Kept n) kinds limit x.config p.play a b = subst (λ z. StopsAs z kinds limit x.config p.play a b) is p.ends in
      (past_same said all limit x p.play (Some n) e p.lines ends.0, subst (λ rs. Appends a b (kinds_text kinds rs)) (sym (kept_same said all limit x p.play e p.lines)) ends.1)

  done_front : (all : AllWorded said) (w : kept.World C) (kinds : Kinds) (limit : ℕ) (x : Script) (a b : Option (List ℕ)) → x.begun ≡ true → PlayedAs script said R (Ok w) kinds limit x a b → GrowsByFront a b (kinds_text kinds (kept_records limit x))
  done_front all w kinds limit x a b e p =
      all_front a b (kinds_text kinds (kept_records limit x)) (subst (λ rs. Appends a b (kinds_text kinds rs)) (sym (kept_same said all limit x p.play e p.lines ∙ p.ends.1)) p.ends.2)

  stopped_front : (all : AllWorded said) (f : PlayFault) (kinds : Kinds) (limit : ℕ) (x : Script) (a b : Option (List ℕ)) → x.begun ≡ true → PlayedAs script said R (Err f) kinds limit x a b → GrowsByFront a b (kinds_text kinds (kept_records limit x))
  stopped_front all f kinds limit x a b e p =
      subst (λ rs. GrowsByFront a b (kinds_text kinds rs)) (sym (kept_same said all limit x p.play e p.lines)) (stops_front f kinds limit x.config p.play a b p.ends)

  pub says_front : (all : AllWorded said) (r : Result (kept.World C) PlayFault) (kinds : Kinds) (limit : ℕ) (x : Script) (a b : Option (List ℕ)) → x.begun ≡ true → PlayedAs script said R r kinds limit x a b → GrowsByFront a b (kinds_text kinds (kept_records limit x))
  says_front all (Ok w) kinds limit x a b e p = done_front all w kinds limit x a b e p
  says_front all (Err f) kinds limit x a b e p = stopped_front all f kinds limit x a b e p
