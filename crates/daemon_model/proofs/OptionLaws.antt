-- What a daemon does of its own, where it is asked to and where not.
use Rattle.std.proofs.Common.{◌≡◌, ℕ, Bool, true, false, List, [], ◌∷◌, Option, Some, None, refl, ap, ◌∙◌}
use Rattle.std.specs.Prelude.{map, is_some}
use Rattle.node_state.specs.HandOn.{Answering}
use Rattle.daemon_model.specs.declared.options.Options.{Options}
use Rattle.daemon_model.specs.declared.options.Service.{Service}
use Rattle.daemon_model.specs.Daemon.{Daemon, KeyEnd, Turn, is_due, ticked, heard, keys_over, mended_if, turned}
use Rattle.daemon_model.specs.Options.{plainly, keys_due, is_long_apart, apart_in, IsPlain, KeepsIf, paced, NothingUnasked, PlainFollows, PlainTurns}

no_ends : (es : List KeyEnd) → map (λ (e : KeyEnd). e.key) es ≡ [] → es ≡ []
no_ends [] h = refl
no_ends (e ∷ es) h = absurd cc

no_mend : (o : Option Answering) → is_some o ≡ false → o ≡ None
no_mend None h = refl
no_mend (Some f) h = absurd cc

plain_if : (due : Bool) (o : Options) (ticks : ℕ) (d : Daemon) (t : Turn) → o.silence ≡ None → o.mend ≡ None → KeepsIf due o ticks d t → IsPlain t
plain_if true o ticks d t silence mend h =
    record {
      ends = no_ends t.ends (h.ends ∙ ap (λ (l : Option ℕ). keys_due l (ticked t.moment t.tick d).sessions) silence);
      mends = no_mend t.mends (h.mends ∙ ap (λ (l : Option ℕ). is_long_apart l (apart_in o ticks d t)) mend);
    }
plain_if false o ticks d t silence mend h = h

pub nothing_unasked : NothingUnasked
nothing_unasked o p d [] silence mend h = tt
nothing_unasked o p d (t ∷ ts) silence mend h =
    (plain_if (is_due d.last t.moment) o p.apart d t silence mend h.0.keeps, nothing_unasked o (paced o p d t) (turned d t) ts silence mend h.1)

plain_keeps : (due : Bool) (service : Service) (ticks : ℕ) (d : Daemon) (t : Turn) → IsPlain t → KeepsIf due (plainly service) ticks d t
plain_keeps true service ticks d t h = record { ends = ap (λ (es : List KeyEnd). map (λ (e : KeyEnd). e.key) es) h.ends; mends = ap is_some h.mends }
plain_keeps false service ticks d t h = h

pub plain_follows : PlainFollows
plain_follows service p d [] h = tt
plain_follows service p d (t ∷ ts) h =
    (record { in_time = refl; keeps = plain_keeps (is_due d.last t.moment) service p.apart d t h.0 }, plain_follows service (paced (plainly service) p d t) (turned d t) ts h.1)

pub plain_turns : PlainTurns
unfolding turned
plain_turns d t h =
    ap (λ (es : List KeyEnd). heard t.got t.answers (mended_if t.mends (keys_over es (ticked t.moment t.tick d)))) h.ends
    ∙ ap (λ (o : Option Answering). heard t.got t.answers (mended_if o (ticked t.moment t.tick d))) h.mends
