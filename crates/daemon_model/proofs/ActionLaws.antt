-- A daemon's life, act by act.
use Rattle.std.proofs.Common.{◌≡◌, List, [], ◌∷◌, ◌++◌, Option, Some, None, refl, sym, ◌∙◌, ap}
use Rattle.std.specs.Prelude.{map, flat_map}
use Rattle.std.proofs.lemmas.List.Sums.{fold-append}
use Rattle.node_state.specs.HandOn.{Answering}
use Rattle.daemon_model.specs.Daemon.{Daemon, Opening, KeyEnd, Turn, begun_for, opened_all, ticked, heard, key_ends, keys_over, mended_if, turned, turned_all, lived}
use Rattle.daemon_model.specs.Actions.{Action, Opens, Hears, did, did_all, key_action, mend_actions, own_actions, turn_actions, LivesAreActions}

-- acts, and then others
pub did_append : (d : Daemon) (xs ys : List Action) → did_all d (xs ++ ys) ≡ did_all (did_all d xs) ys
unfolding did_all
did_append d xs ys = fold-append did d xs ys

pub keys_done : (d : Daemon) (es : List KeyEnd) → keys_over es d ≡ did_all d (map key_action es)
unfolding did_all did
keys_done d [] = refl
keys_done d (e ∷ es) = keys_done (key_ends d e) es

pub mends_done : (d : Daemon) (o : Option Answering) → mended_if o d ≡ did_all d (mend_actions o)
unfolding did_all did
mends_done d None = refl
mends_done d (Some f) = refl

-- what a daemon does of its own
pub own_done : (d : Daemon) (t : Turn) → mended_if t.mends (keys_over t.ends d) ≡ did_all d (own_actions t)
own_done d t = ap (mended_if t.mends) (keys_done d t.ends) ∙ (mends_done (did_all d (map key_action t.ends)) t.mends ∙ sym (did_append d (map key_action t.ends) (mend_actions t.mends)))

pub turn_done : (d : Daemon) (t : Turn) → turned d t ≡ did_all d (turn_actions t)
unfolding turned did_all did
turn_done d t =
    ap (heard t.got t.answers) (own_done (ticked t.moment t.tick d) t) ∙ sym (did_append (ticked t.moment t.tick d) (own_actions t) (Hears t.got t.answers ∷ []))

pub turns_done : (d : Daemon) (ts : List Turn) → turned_all d ts ≡ did_all d (flat_map turn_actions ts)
unfolding turned_all did_all
turns_done d [] = refl
turns_done d (t ∷ ts) = turns_done (turned d t) ts ∙ (ap (λ (e : Daemon). did_all e (flat_map turn_actions ts)) (turn_done d t) ∙ sym (did_append d (turn_actions t) (flat_map turn_actions ts)))

opened_first : (d : Daemon) (os : List Opening) (ts : List Turn) → turned_all (opened_all d os) ts ≡ did_all d (map Opens os ++ flat_map turn_actions ts)
unfolding opened_all did_all did
opened_first d [] ts = turns_done d ts
opened_first d (o ∷ os) ts = opened_first (did d (Opens o)) os ts

pub lives_are_actions : LivesAreActions
unfolding lived
lives_are_actions c me incarnation life = opened_first (begun_for life.service c me incarnation life.start) life.opening life.turns

pub opens_done : (d : Daemon) (os : List Opening) → opened_all d os ≡ did_all d (map Opens os)
unfolding opened_all did_all did
opens_done d [] = refl
opens_done d (o ∷ os) = opens_done (did d (Opens o)) os
